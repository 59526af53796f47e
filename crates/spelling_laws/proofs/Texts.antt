-- Each text is a script, or has a first bad line.
use Rattle.std.proofs.Common.{◌≡◌, ◌≢◌, ℕ, zero, suc, ◌+◌, ◌≤◌, Bool, true, false, ◌⊎◌, inl, inr, List, [], ◌∷◌, ◌++◌, length, refl, sym, ap, ◌∙◌, subst, arith, append_assoc, append-nil}
use Rattle.std.specs.List.{join_with_byte}
use Rattle.script_model.specs.Script.{Line, words, spelt_line, IsInBounds, script_text, Grammar, AreLines, IsScript, IsBadAt}
use Rattle.script_model.specs.Grammars.{is_options, is_served, full_grammar, served_grammar}
use Rattle.script_laws.specs.Laws.{IsBounded}
use Rattle.script_laws.proofs.Pieces.{Lacks, same_front, no_front}
use Rattle.script_laws.proofs.LineWords.{line_lacks}
use Rattle.script_laws.proofs.SameLines.{same_joined}
use Rattle.script_laws.proofs.Scripts.{after_shorter, with_newline, script_text-push, AreLines-push}
use Rattle.spelling_laws.specs.Laws.{OneOfThem}
use Rattle.spelling_laws.proofs.Spelt.{Decided, SpeltOrNot, same_or_not, both_or_not}
use Rattle.spelling_laws.proofs.SpeltLines.{spelt_or_not}

-- Of each line in bounds, the grammar allows it after the lines before it, or does not.
abbrev pub IsDecided : Grammar → Type 0
IsDecided grammar = (before : List Line) (line : Line) → IsInBounds line → Decided (grammar before line)

-- ---- the first line of a text

-- A text has a first byte of a kind, or lacks it.
first_or_lacks : (c : ℕ) (text : List ℕ) → ((front : List ℕ) × (more : List ℕ) × Lacks c front × (text ≡ front ++ c ∷ more)) ⊎ Lacks c text
first_or_lacks c [] = inr tt
first_or_lacks c (b ∷ text) = by (same_or_not (b ∷ []) (c ∷ [])) (first_or_lacks c text)
  where
    by : Decided (b ∷ [] ≡ c ∷ []) → ((front : List ℕ) × (more : List ℕ) × Lacks c front × (text ≡ front ++ c ∷ more)) ⊎ Lacks c text → ((front : List ℕ) × (more : List ℕ) × Lacks c front × (b ∷ text ≡ front ++ c ∷ more)) ⊎ Lacks c (b ∷ text)
    by (inl is) rest = inl ([], text, tt, cc is)
    by (inr is_not) (inl found) = inl (b ∷ found.0, found.1, (λ e. is_not (ap (λ x. x ∷ []) e), found.2), ap (λ t. b ∷ t) found.3)
    by (inr is_not) (inr lacks) = inr (λ e. is_not (ap (λ x. x ∷ []) e), lacks)

-- A text without a newline spells a line that the grammar allows, or no such line.
allowed_or_not : (grammar : Grammar) → IsBounded grammar → IsDecided grammar → (before : List Line) (text : List ℕ) → SpeltOrNot (λ line. join_with_byte 32 (words line)) (grammar before) text
allowed_or_not grammar bounds decided before text = by (spelt_or_not text)
  where
    at : (line : Line) → IsInBounds line → text ≡ join_with_byte 32 (words line) → Decided (grammar before line) → SpeltOrNot (λ line. join_with_byte 32 (words line)) (grammar before) text
    at line fits is (inl allowed) = inl (line, allowed, is)
    at line fits is (inr is_not) = inr (λ other allowed e. is_not (subst (grammar before) (same_joined other line (bounds before other allowed) fits (sym e ∙ is)) allowed))

    by : SpeltOrNot (λ line. join_with_byte 32 (words line)) IsInBounds text → SpeltOrNot (λ line. join_with_byte 32 (words line)) (grammar before) text
    by (inl found) = at found.0 found.1 found.2 (decided before found.0 found.1)
    by (inr none) = inr (λ line allowed e. none line (bounds before line allowed) e)

-- A text begins with a line that the grammar allows after the lines before it, or with no such line.
abbrev BeginsOrNot : Grammar → List Line → List ℕ → Type 0
BeginsOrNot grammar before text = ((line : Line) × (more : List ℕ) × grammar before line × (text ≡ spelt_line line ++ more)) ⊎ ((line : Line) (more : List ℕ) → grammar before line → text ≢ spelt_line line ++ more)

begins_or_not : (grammar : Grammar) → IsBounded grammar → IsDecided grammar → (before : List Line) (text : List ℕ) → BeginsOrNot grammar before text
begins_or_not grammar bounds decided before text = by (first_or_lacks 10 text)
  where
    at : (front more : List ℕ) → Lacks 10 front → text ≡ front ++ 10 ∷ more → SpeltOrNot (λ line. join_with_byte 32 (words line)) (grammar before) front → BeginsOrNot grammar before text
    at front more lacks whole (inl found) = inl (found.0, more, found.1, whole ∙ ap (λ t. t ++ 10 ∷ more) found.2 ∙ sym (with_newline (join_with_byte 32 (words found.0)) more))
    at front more lacks whole (inr none) =
        inr (λ line rest allowed e. none line allowed (same_front 10 front more (join_with_byte 32 (words line)) rest lacks (line_lacks line (bounds before line allowed)) (sym whole ∙ e ∙ with_newline (join_with_byte 32 (words line)) rest)).0)

    by : ((front : List ℕ) × (more : List ℕ) × Lacks 10 front × (text ≡ front ++ 10 ∷ more)) ⊎ Lacks 10 text → BeginsOrNot grammar before text
    by (inl cut) = at cut.0 cut.1 cut.2 cut.3 (allowed_or_not grammar bounds decided before cut.0)
    by (inr lacks) = inr (λ line more allowed e. no_front 10 text (join_with_byte 32 (words line)) more lacks (e ∙ with_newline (join_with_byte 32 (words line)) more))

-- ---- a whole text

abbrev IsOneOfThem : Grammar → List ℕ → Type 0
IsOneOfThem grammar text = ((lines : List Line) × IsScript grammar text lines) ⊎ ((n : ℕ) × IsBadAt grammar text n)

-- The lines before are read of the text, and the rest is left.
abbrev IsRead : Grammar → List ℕ → List Line → List ℕ → Type 0
IsRead grammar text before rest = (text ≡ script_text before ++ rest) × AreLines grammar [] before

-- If a line of the grammar begins the rest, we go on with what is left after it. Else the next line is bad.
next_or_bad : (grammar : Grammar) (text : List ℕ) (most : ℕ) (before : List Line) (rest : List ℕ) → rest ≢ [] → length rest ≤ suc most → IsRead grammar text before rest
    → ((others : List Line) (more : List ℕ) → length more ≤ most → IsRead grammar text others more → IsOneOfThem grammar text) → BeginsOrNot grammar before rest → IsOneOfThem grammar text
next_or_bad grammar text most before rest some le so_far next (inr none) = inr (length before + 1, record { before = before; rest = rest; whole = so_far.0; each = so_far.1; number = refl; something = some; none = none })
next_or_bad grammar text most before rest some le so_far next (inl found) =
    let line = found.0 in
    let more = found.1 in
    let shorter = after_shorter line more rest found.3 in
    next (before ++ line ∷ []) more (omega (arith, shorter, le))
    (so_far.0 ∙ ap (λ t. script_text before ++ t) found.3 ∙ sym (append_assoc (script_text before) (spelt_line line) more) ∙ ap (λ t. t ++ more) (sym (script_text-push before line)), AreLines-push grammar [] before line so_far.1 found.2)

from_here : (grammar : Grammar) → ((before : List Line) (rest : List ℕ) → BeginsOrNot grammar before rest) → (text : List ℕ) (most : ℕ) (before : List Line) (rest : List ℕ) → length rest ≤ most → IsRead grammar text before rest → IsOneOfThem grammar text
from_here grammar begins text most before [] le so_far = inl (before, record { whole = so_far.0 ∙ append-nil (script_text before); each = so_far.1 })
from_here grammar begins text zero before (b ∷ rest) le so_far = absurd (omega (arith, le))
from_here grammar begins text (suc most) before (b ∷ rest) le so_far = next_or_bad grammar text most before (b ∷ rest) (λ e. cc e) le so_far (from_here grammar begins text most) (begins before (b ∷ rest))

-- If the grammar is decided, each text is a script or has a first bad line.
pub one_of_them : (grammar : Grammar) → IsBounded grammar → IsDecided grammar → OneOfThem grammar
one_of_them grammar bounds decided text = from_here grammar (begins_or_not grammar bounds decided) text (length text) [] text (omega arith) (refl, tt)

-- ---- both grammars are decided

true_or_not : (test : Bool) → Decided (test ≡ true)
true_or_not true = inl refl
true_or_not false = inr (λ e. cc e)

first_line_or_not : (before : List Line) (test : Bool) → Decided (test ≡ true → before ≡ [])
first_line_or_not [] test = inl (λ is. refl)
first_line_or_not (l ∷ before) false = inl (λ is. absurd (cc is))
first_line_or_not (l ∷ before) true = inr (λ h. let none = h refl in cc none)

full_decided : IsDecided full_grammar
full_decided before line fits = both_or_not (inl fits) (first_line_or_not before (is_options line))

served_decided : IsDecided served_grammar
served_decided before line fits = both_or_not (full_decided before line fits) (true_or_not (is_served line))

pub full_one_of_them : OneOfThem full_grammar
full_one_of_them = one_of_them full_grammar (λ before line h. h.0) full_decided

pub served_one_of_them : OneOfThem served_grammar
served_one_of_them = one_of_them served_grammar (λ before line h. h.0.0) served_decided
