-- Reading the lines of a script.
use Rattle.std.proofs.Common.{◌≡◌, ◌≢◌, ℕ, ◌+◌, Bool, true, false, List, [], ◌∷◌, ◌++◌, length, map, Option, refl, sym, subst, ap, ◌∙◌, All, arith, append_assoc, append-nil}
use Rattle.std.specs.Prelude.{◌==◌}
use Rattle.std.specs.List.{AllByRecursion}
use Rattle.std.proofs.lemmas.Bool.Decides.{Decides-eqb}
use Rattle.std.proofs.lemmas.List.{length-map}
use Rattle.script_model.specs.Script.{spelt_line, script_text, AreLines, IsScript, IsBadAt, Options}
use Rattle.script_model.specs.Script as model
use Rattle.script_model.specs.Grammars.{served_grammar, is_served, is_options}
use Rattle.script_laws.proofs.Pieces.{lacks_all, same_front, no_front, not_nothing}
use Rattle.script_laws.proofs.LineWords.{line_lacks}
use Rattle.script_laws.proofs.Scripts.{with_newline, script_text-push, AreLines-push}
use Rattle.fleet_text.specs.declared.line.Line.{Line}
use Rattle.fleet_text.specs.Lines.{line_of, lines_of}
use Rattle.fleet_text.specs.Reading.{ReadsAs, line_text}
use Rattle.fleet_text.specs.Served.{may_stand, MayStand}

pub AllByRecursion-push : {X : Type 0} (P : X → Type 0) (xs : List X) (y : X) → AllByRecursion P xs → P y → AllByRecursion P (xs ++ y ∷ [])
AllByRecursion-push P [] y h p = (p, tt)
AllByRecursion-push P (x ∷ xs) y h p = (h.0, AllByRecursion-push P xs y h.1 p)

pub map-push : {X Y : Type 0} (f : X → Y) (xs : List X) (y : X) → map f (xs ++ y ∷ []) ≡ map f xs ++ f y ∷ []
map-push f [] y = refl
map-push f (x ∷ xs) y = ap (λ l. f x ∷ l) (map-push f xs y)

-- There is no line before.
abbrev pub is_none : List Line → Bool
is_none [] = true
is_none (line ∷ lines) = false

pub no_length : (lines : List Line) → (length lines == 0) ≡ is_none lines
no_length [] = refl
no_length (line ∷ lines) = by (length (line ∷ lines) == 0) refl
  where
    by : (b : Bool) → (length (line ∷ lines) == 0) ≡ b → b ≡ false
    by true is = let none = (Decides-eqb (length (line ∷ lines)) 0).0 is in absurd (omega (arith, none))
    by false is = refl

none_before : (lines : List Line) → is_none lines ≡ true → lines_of lines ≡ []
none_before [] none = refl
none_before (line ∷ lines) none = absurd (cc none)

is_first : (lines : List Line) → lines_of lines ≡ [] → is_none lines ≡ true
is_first [] none = refl
is_first (line ∷ lines) none = absurd (cc none)

-- A line that may stand after these lines is one that the grammar allows there.
allowed : (lines : List Line) (line : model.Line) → MayStand (is_none lines) line → served_grammar (lines_of lines) line
allowed lines line may = ((may.0, λ options. by line options may.1), served line may.1)
  where
    by : (line : model.Line) → is_options line ≡ true → may_stand (is_none lines) line ≡ true → lines_of lines ≡ []
    by (Options timeout concurrent slots ranges table_size moves retention) options may = none_before lines may
    by _ options may = absurd (cc options)

    served : (line : model.Line) → may_stand (is_none lines) line ≡ true → is_served line ≡ true
    served (Options timeout concurrent slots ranges table_size moves retention) may = refl
    served _ may = may

may_follow : (lines : List Line) (line : model.Line) → served_grammar (lines_of lines) line → MayStand (is_none lines) line
may_follow lines line fits = (fits.0.0, by line fits.0.1 fits.1)
  where
    by : (line : model.Line) → (is_options line ≡ true → lines_of lines ≡ []) → is_served line ≡ true → may_stand (is_none lines) line ≡ true
    by (Options timeout concurrent slots ranges table_size moves retention) first served = is_first lines (first refl)
    by _ first served = served

-- The lines read so far and the rest make up the text, and the grammar allows the lines.
pub record ReadsLines (text : List ℕ) (lines : List Line) (rest : List ℕ) : Type 0 where
  pub each : AreLines served_grammar [] (lines_of lines)
  pub whole : text ≡ script_text (lines_of lines) ++ rest

pub reads_none : (text : List ℕ) → ReadsLines text [] text
reads_none text = record { each = tt; whole = refl }

-- If the next line of a text may follow the lines that were read, it is read too.
pub reads_more : (text : List ℕ) (lines : List Line) (rest front afterwards : List ℕ) (line : Line) → ReadsLines text lines rest → rest ≡ front ++ 10 ∷ afterwards → MayStand (is_none lines) (line_of line) × (front ≡ line_text (line_of line))
    → ReadsLines text (lines ++ line ∷ []) afterwards
reads_more text lines rest front afterwards line r cut read =
    let ls = lines_of lines in
    let l = line_of line in
    let one : lines_of (lines ++ line ∷ []) ≡ ls ++ l ∷ [] = map-push line_of lines line in
    record {
      each = rw one (AreLines-push served_grammar [] ls l r.each (allowed lines l read.0));
      whole =
          r.whole ∙ ap (λ t. script_text ls ++ t) (cut ∙ ap (λ t. t ++ 10 ∷ afterwards) read.1 ∙ sym (with_newline (line_text l) afterwards))
          ∙ sym (append_assoc (script_text ls) (spelt_line l) afterwards) ∙ ap (λ t. t ++ afterwards) (sym (script_text-push ls l)) ∙ ap (λ t. script_text t ++ afterwards) (sym one);
    }

-- What is read of the front as the line after these.
pub read_after : (lines : List Line) (first : Bool) (front : List ℕ) (read : Option Line) → first ≡ (length lines == 0) → ReadsAs line_of line_text (MayStand first) front read → ReadsAs line_of line_text (MayStand (is_none lines)) front read
read_after lines first front read is given = subst (λ b. ReadsAs line_of line_text (MayStand b) front read) (is ∙ no_length lines) given

pub reads_all : (text : List ℕ) (lines : List Line) (rest : List ℕ) → ReadsLines text lines rest → length rest ≡ 0 → IsScript served_grammar text (lines_of lines)
reads_all text lines [] r e = record { whole = r.whole ∙ append-nil (script_text (lines_of lines)); each = r.each }
reads_all text lines (b ∷ rest) r e = absurd (omega arith)

bad_number : (lines : List Line) (n : ℕ) → length lines + 1 ≡ n → length (lines_of lines) + 1 ≡ n
bad_number lines n e = let len = length-map lines line_of in omega (arith, e, len)

-- The front of the rest, up to its newline, is no line, so the line after those read is bad.
pub bad_front : (text : List ℕ) (lines : List Line) (rest front afterwards : List ℕ) (n : ℕ) → ReadsLines text lines rest → All (λ b. b ≢ 10) front → rest ≡ front ++ 10 ∷ afterwards → ((line : model.Line) → MayStand (is_none lines) line → front ≢ line_text line)
    → length lines + 1 ≡ n → IsBadAt served_grammar text n
bad_front text lines rest front afterwards n r lacks cut none number = record {
  before = lines_of lines;
  rest = rest;
  whole = r.whole;
  each = r.each;
  number = bad_number lines n number;
  something = λ e. not_nothing 10 front afterwards (sym cut ∙ e);
  none = λ line more fits e. none line (may_follow lines line fits) (same_front 10 front afterwards (line_text line) more (lacks_all 10 front lacks) (line_lacks line fits.0.0) (sym cut ∙ e ∙ with_newline (line_text line) more)).0;
}

-- The rest is not empty and has no newline, so the line after those read is bad.
pub bad_rest : (text : List ℕ) (lines : List Line) (rest : List ℕ) (n : ℕ) → ReadsLines text lines rest → All (λ b. b ≢ 10) rest → length rest ≢ 0 → length lines + 1 ≡ n → IsBadAt served_grammar text n
bad_rest text lines rest n r lacks some number = record {
  before = lines_of lines;
  rest = rest;
  whole = r.whole;
  each = r.each;
  number = bad_number lines n number;
  something = λ e. some (ap length e);
  none = λ line more fits e. no_front 10 rest (line_text line) more (lacks_all 10 rest lacks) (e ∙ with_newline (line_text line) more);
}
