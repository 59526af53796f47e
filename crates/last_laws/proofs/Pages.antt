-- Two pages of a scan are one: the rest of the answers, from the key before which the first page stops, is the
-- scan from that key on.
use Rattle.std.proofs.Common.{◌≡◌, refl, sym, ◌∙◌, ap, subst, ℕ, zero, suc, ◌+◌, List, [], ◌∷◌, map, Bool, true, false, cond, inl, inr, None, Some, arith}
use Rattle.std.specs.Prelude.{◌&&◌, ℤ, drop, not, bytes_eq}
use Rattle.std.specs.List.Sorted.{IsStrictlySortedBy}
use Rattle.std.specs.declared.cmp.Ordering.{Ordering}
use Rattle.std.specs.declared.cmp.Ordering.TheVariants.{Less, Equal, Greater}
use Rattle.std.specs.Ordering.{is_gt}
use Rattle.std.proofs.lemmas.Cmp.{nat_list_cmp_total}
use Rattle.row_model.specs.Rows.{key_cmp}
use Rattle.row_model.specs.Fold.{Operator, Outcome, Merged, Refused}
use Rattle.row_model.specs.Ranges.{is_after_start, is_before_end, is_in_range}
use Rattle.row_laws.proofs.ApartRows.{false_or}
use Rattle.row_laws.proofs.KeyRows.{key_alike, exact}
use Rattle.fleet_model.specs.Store.{Store}
use Rattle.fleet_model.specs.Reads.{flushed_read}
use Rattle.fleet_model.specs.TreeScans.{flushed_scan}
use Rattle.fleet_laws.specs.Scans.{AnswersAsReads}
use Rattle.fleet_laws.proofs.Scans.{Above, above_later, answer_at, first_answer, none_above, reversed, same_answers, same_bytes, scans_answer_as_reads}
use Rattle.script_model.specs.Lines.Scans.{range_start, range_end, keys_between, ScanEnd, NoneLeft, RefusedAt, StopsBefore, Page, first_page, with_answer}
use Rattle.last_laws.specs.Pages.{joined_pages, ScansResume}
use Rattle.commit_laws.proofs.MoveRows.{UpTo}

-- The answers of a scan.
abbrev Answers : Type 0
Answers = List (List ℕ × Outcome)

-- ---- pages of any answers

-- The answers that a page stops before begin with its key.
record Stops (key : List ℕ) (rest : Answers) : Type 0 where
  answer : Outcome
  later : Answers
  is : rest ≡ (key, answer) ∷ later

key_of : ScanEnd → List ℕ
key_of NoneLeft = []
key_of (RefusedAt key message) = []
key_of (StopsBefore key) = key

stops : (limit : ℕ) (answers : Answers) (key : List ℕ) → (first_page limit answers).ends ≡ StopsBefore key → Stops key (drop limit answers)
unfolding key_of
stops limit [] key h = absurd (cc h)
stops zero (x ∷ answers) key h = record { answer = x.1; later = answers; is = ap (λ k. (k, x.1) ∷ answers) (ap key_of h) }
stops (suc limit) (x ∷ answers) key h = by x.1 h (stops limit answers key)
  where
    by : (outcome : Outcome) → (with_answer x.0 outcome (first_page limit answers)).ends ≡ StopsBefore key → ((first_page limit answers).ends ≡ StopsBefore key → Stops key (drop limit answers)) → Stops key (drop limit answers)
    by (Merged bytes) h rest = rest h
    by (Refused message) h rest = absurd (cc h)

-- A page that stops, and the page of the answers after it, are together one page.
pages_join : (limit other : ℕ) (answers : Answers) (key : List ℕ) → (first_page limit answers).ends ≡ StopsBefore key
    → joined_pages (first_page limit answers) (first_page other (drop limit answers)) ≡ first_page (limit + other) answers
pages_join limit other [] key h = absurd (cc h)
pages_join zero other (x ∷ answers) key h = let none : other ≡ zero + other = omega arith in ap (λ n. first_page n (x ∷ answers)) none
pages_join (suc limit) other (x ∷ answers) key h =
    let sum : suc (limit + other) ≡ suc limit + other = omega arith in
    by x.1 h (pages_join limit other answers key) ∙ ap (λ n. first_page n (x ∷ answers)) sum
  where
    by : (outcome : Outcome) → (with_answer x.0 outcome (first_page limit answers)).ends ≡ StopsBefore key
        → ((first_page limit answers).ends ≡ StopsBefore key → joined_pages (first_page limit answers) (first_page other (drop limit answers)) ≡ first_page (limit + other) answers)
        → joined_pages (with_answer x.0 outcome (first_page limit answers)) (first_page other (drop limit answers)) ≡ with_answer x.0 outcome (first_page (limit + other) answers)
    by (Merged bytes) h rest = ap (λ (later : Page). record later { pairs = (x.0, bytes) ∷ later.pairs }) (rest h)
    by (Refused message) h rest = absurd (cc h)

-- ---- keys at and after the key of a page

starts_at : (key other : List ℕ) → UpTo key other → is_after_start (range_start key) other ≡ true
starts_at [] other h = refl
starts_at (b ∷ key) other (inl same) = ap (λ k. not (is_gt (key_cmp (b ∷ key) k))) (sym same) ∙ ap (λ o. not (is_gt o)) (key_alike (b ∷ key))
starts_at (b ∷ key) other (inr low) = ap (λ o. not (is_gt o)) low

starts_not : (key other : List ℕ) → key_cmp other key ≡ Less → is_after_start (range_start key) other ≡ false
starts_not [] [] low = absurd (cc low)
starts_not [] (b ∷ other) low = absurd (cc low)
starts_not (b ∷ key) other low = ap (λ o. not (is_gt o)) (reversed other (b ∷ key) Less low)

starts_too : (from key other : List ℕ) → is_after_start (range_start from) key ≡ true → UpTo key other → is_after_start (range_start from) other ≡ true
starts_too [] key other after h = refl
starts_too (b ∷ from) key other after (inl same) = ap (is_after_start (range_start (b ∷ from))) (sym same) ∙ after
starts_too (b ∷ from) key other after (inr low) = by (key_cmp (b ∷ from) key) refl after
  where
    by : (o : Ordering) → key_cmp (b ∷ from) key ≡ o → not (is_gt o) ≡ true → not (is_gt (key_cmp (b ∷ from) other)) ≡ true
    by Less is after = ap (λ o. not (is_gt o)) (nat_list_cmp_total.trans (b ∷ from) key other is low)
    by Equal is after = ap (λ k. not (is_gt (key_cmp k other))) (exact (b ∷ from) key is) ∙ ap (λ o. not (is_gt o)) low
    by Greater is after = absurd (cc after)

left_true : (a b : Bool) → (a && b) ≡ true → a ≡ true
left_true true b h = refl
left_true false b h = h

-- ---- the answers after a page

rising_drop : (n : ℕ) (answers : Answers) → IsStrictlySortedBy key_cmp (map (λ pair. pair.0) answers) → IsStrictlySortedBy key_cmp (map (λ pair. pair.0) (drop n answers))
unfolding IsStrictlySortedBy
rising_drop zero answers h = h
rising_drop (suc n) [] h = h
rising_drop (suc n) (x ∷ answers) h = rising_drop n answers h.1

above_drop : (n : ℕ) (key : List ℕ) (answers : Answers) → Above key (map (λ pair. pair.0) answers) → Above key (map (λ pair. pair.0) (drop n answers))
above_drop zero key answers h = h
above_drop (suc n) key [] h = h
above_drop (suc n) key (x ∷ answers) h = above_drop n key answers h.1

-- A key from the first one of the later answers on has its answer among these, if it has one.
after_drop : (n : ℕ) (answers : Answers) (key other : List ℕ) → IsStrictlySortedBy key_cmp (map (λ pair. pair.0) answers) → Stops key (drop n answers) → UpTo key other
    → answer_at other (drop n answers) ≡ answer_at other answers
unfolding IsStrictlySortedBy
after_drop zero answers key other rises s h = refl
after_drop (suc n) [] key other rises s h = refl
after_drop (suc n) (x ∷ answers) key other rises s h =
    after_drop n answers key other rises.1 s h
    ∙ sym (ap (λ b. cond b (Some x.1) (answer_at other answers)) (false_or (bytes_eq other x.0) (λ same.
    let this : x.0 ≡ other = sym (same_bytes other x.0 same) in
    let alike = key_alike x.0 in
    let low : key_cmp x.0 x.0 ≡ Less = by this h (subst (λ (rest : Answers). Above x.0 (map (λ pair. pair.0) rest)) s.is (above_drop n x.0 answers rises.0)).0 in cc (alike, low))))
  where
    by : x.0 ≡ other → UpTo key other → key_cmp x.0 key ≡ Less → key_cmp x.0 x.0 ≡ Less
    by this (inl same) low = ap (key_cmp x.0) (this ∙ sym same) ∙ low
    by this (inr later) low = ap (key_cmp x.0) this ∙ nat_list_cmp_total.trans x.0 key other low later

-- A key below the first one of some rising answers has none.
before_all : (key other : List ℕ) (rest : Answers) → Stops key rest → IsStrictlySortedBy key_cmp (map (λ pair. pair.0) rest) → key_cmp other key ≡ Less → answer_at other rest ≡ None
unfolding IsStrictlySortedBy
before_all key other rest s rises low =
    let first : Answers = (key, s.answer) ∷ s.later in
    let later = subst (λ (rest : Answers). IsStrictlySortedBy key_cmp (map (λ pair. pair.0) rest)) s.is rises in
    ap (answer_at other) s.is ∙ none_above other first (low, above_later other key (map (λ pair. pair.0) s.later) low later.0)

-- The scan from the key on gives the answers after the page.
goes_on : (merge : Operator) (store : Store) (segment from to key : List ℕ) (seq : ℕ) (now : ℤ) (limit : ℕ) → Stops key (drop limit (flushed_scan merge store segment (keys_between from to) seq now))
    → flushed_scan merge store segment (keys_between key to) seq now ≡ drop limit (flushed_scan merge store segment (keys_between from to) seq now)
goes_on merge store segment from to key seq now limit s =
    let all : Answers = flushed_scan merge store segment (keys_between from to) seq now in
    let scan = (scans_answer_as_reads merge store segment (keys_between from to) seq now).flushed in
    let onward = (scans_answer_as_reads merge store segment (keys_between key to) seq now).flushed in
    let there : answer_at key all ≡ Some s.answer = sym (after_drop limit all key key scan.rising s (inl refl)) ∙ ap (answer_at key) s.is ∙ first_answer (key, s.answer) s.later in
    let starts : is_after_start (range_start from) key ≡ true = started scan.beyond there (is_in_range (keys_between from to) key) refl in
    same_answers (flushed_scan merge store segment (keys_between key to) seq now) (drop limit all) onward.rising (rising_drop limit all scan.rising)
    (λ other. by scan onward starts other (key_cmp other key) refl)
  where
    started : ((k : List ℕ) → is_in_range (keys_between from to) k ≡ false → answer_at k (flushed_scan merge store segment (keys_between from to) seq now) ≡ None)
        → answer_at key (flushed_scan merge store segment (keys_between from to) seq now) ≡ Some s.answer → (b : Bool) → is_in_range (keys_between from to) key ≡ b → is_after_start (range_start from) key ≡ true
    started beyond there true is = left_true (is_after_start (range_start from) key) (is_before_end (range_end to) key) is
    started beyond there false is = let none = beyond key is in absurd (cc (there, none))

    later : AnswersAsReads (keys_between from to) (λ key. flushed_read merge store segment key seq now) (flushed_scan merge store segment (keys_between from to) seq now)
        → AnswersAsReads (keys_between key to) (λ key. flushed_read merge store segment key seq now) (flushed_scan merge store segment (keys_between key to) seq now)
        → is_after_start (range_start from) key ≡ true → (other : List ℕ) → UpTo key other → (b : Bool) → is_before_end (range_end to) other ≡ b
        → answer_at other (flushed_scan merge store segment (keys_between key to) seq now) ≡ answer_at other (flushed_scan merge store segment (keys_between from to) seq now)
    later scan onward starts other h true is =
        onward.within other (ap (λ b. b && is_before_end (range_end to) other) (starts_at key other h) ∙ is)
        ∙ sym (scan.within other (ap (λ b. b && is_before_end (range_end to) other) (starts_too from key other starts h) ∙ is))
    later scan onward starts other h false is =
        onward.beyond other (ap (λ b. b && is_before_end (range_end to) other) (starts_at key other h) ∙ is)
        ∙ sym (scan.beyond other (ap (λ b. b && is_before_end (range_end to) other) (starts_too from key other starts h) ∙ is))

    by : AnswersAsReads (keys_between from to) (λ key. flushed_read merge store segment key seq now) (flushed_scan merge store segment (keys_between from to) seq now)
        → AnswersAsReads (keys_between key to) (λ key. flushed_read merge store segment key seq now) (flushed_scan merge store segment (keys_between key to) seq now)
        → is_after_start (range_start from) key ≡ true → (other : List ℕ) (o : Ordering) → key_cmp other key ≡ o
        → answer_at other (flushed_scan merge store segment (keys_between key to) seq now) ≡ answer_at other (drop limit (flushed_scan merge store segment (keys_between from to) seq now))
    by scan onward starts other Less low =
        onward.beyond other (ap (λ b. b && is_before_end (range_end to) other) (starts_not key other low))
        ∙ sym (before_all key other (drop limit (flushed_scan merge store segment (keys_between from to) seq now)) s (rising_drop limit (flushed_scan merge store segment (keys_between from to) seq now) scan.rising) low)
    by scan onward starts other Equal is =
        let h : UpTo key other = inl (sym (exact other key is)) in
        later scan onward starts other h (is_before_end (range_end to) other) refl
        ∙ sym (after_drop limit (flushed_scan merge store segment (keys_between from to) seq now) key other scan.rising s h)
    by scan onward starts other Greater is =
        let h : UpTo key other = inr (reversed other key Greater is) in
        later scan onward starts other h (is_before_end (range_end to) other) refl
        ∙ sym (after_drop limit (flushed_scan merge store segment (keys_between from to) seq now) key other scan.rising s h)

pub scans_resume : ScansResume
scans_resume merge store segment from to key seq now limit other h =
    let all : Answers = flushed_scan merge store segment (keys_between from to) seq now in
    ap (λ (answers : Answers). joined_pages (first_page limit all) (first_page other answers)) (goes_on merge store segment from to key seq now limit (stops limit all key h))
    ∙ pages_join limit other all key h
