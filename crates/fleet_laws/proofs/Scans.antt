-- Scans answer as reads do, and scans of the stored tables as scans of all that was flushed.
use Rattle.std.proofs.Common.{◌≡◌, refl, sym, ◌∙◌, ap, ℕ, List, [], ◌∷◌, Bool, true, false, cond, Option, None, Some}
use Rattle.std.specs.Prelude.{◌||◌, ℤ, map, flat_map, option_map, bytes_eq}
use Rattle.std.specs.List.{list_any, filter_map, cons_option, AllByRecursion}
use Rattle.std.specs.List.Sorted.{IsStrictlySortedBy}
use Rattle.std.specs.Map.{lookup}
use Rattle.std.specs.declared.cmp.Ordering.{Ordering}
use Rattle.std.specs.declared.cmp.Ordering.TheVariants.{Less, Equal, Greater}
use Rattle.std.specs.Ordering.{ordering_reverse}
use Rattle.std.proofs.lemmas.Cmp.{nat_list_cmp_total}
use Rattle.std.proofs.lemmas.Option.{same_Some}
use Rattle.std.proofs.lemmas.Slice.Eq.{bytes_eq-Decides}
use Rattle.row_model.specs.Rows.{Row, key_cmp, rows_of_key, sorted_rows}
use Rattle.row_model.specs.Fold.{Operator, Outcome}
use Rattle.row_model.specs.Read.{read}
use Rattle.row_model.specs.Ranges.{Range, is_in_range, rows_in}
use Rattle.row_model.specs.Scans.{with_key, put_key, keys_of, scanned_pairs}
use Rattle.row_laws.proofs.ApartRows.{false_or}
use Rattle.row_laws.proofs.Elements.{all_weaken}
use Rattle.row_laws.proofs.KeyRows.{key_alike, exact}
use Rattle.row_laws.proofs.ReadOnto.{cond_same}
use Rattle.fleet_model.specs.Nodes.{tree_at, node_rows, flushed_node_rows}
use Rattle.fleet_model.specs.Store.{Store}
use Rattle.fleet_model.specs.TreeScans.{flushed_scan, stored_scan}
use Rattle.fleet_laws.specs.Scans.{AnswersAsReads, ScansAnswerAsReads, StoresAnswerScans}
use Rattle.fleet_laws.proofs.StoredReads.{stores_answer_reads}

-- ---- keys

pub same_bytes : (a b : List ℕ) → bytes_eq a b ≡ true → a ≡ b
same_bytes a b = (bytes_eq-Decides a b).0

alike_bytes : (key : List ℕ) → bytes_eq key key ≡ true
alike_bytes key = (bytes_eq-Decides key key).1 refl

-- A key is not equal to a key after it.
pub below_differs : (a b : List ℕ) → key_cmp a b ≡ Less → bytes_eq a b ≡ false
below_differs a b low = false_or (bytes_eq a b) (λ same.
    let here = ap (key_cmp a) (same_bytes a b same) in let equal = key_alike a in cc (here, equal, low))

pub reversed : (a b : List ℕ) (o : Ordering) → key_cmp a b ≡ o → key_cmp b a ≡ ordering_reverse o
reversed a b o is = nat_list_cmp_total.antisymm b a ∙ ap ordering_reverse is

-- ---- the keys of rows rise, each once

abbrev pub Above : List ℕ → List (List ℕ) → Type 0
Above key keys = AllByRecursion (λ k. key_cmp key k ≡ Less) keys

above_put : (first key : List ℕ) (keys : List (List ℕ)) → key_cmp first key ≡ Less → Above first keys → Above first (put_key key keys)
above_put first key [] low h = (low, tt)
above_put first key (k ∷ keys) low h = by (key_cmp key k) (above_put first key keys low h.1)
  where
    by : (o : Ordering) → Above first (put_key key keys) → Above first (with_key o key k keys (put_key key keys))
    by Less rest = (low, h)
    by Equal rest = h
    by Greater rest = (h.0, rest)

pub above_later : (key first : List ℕ) (keys : List (List ℕ)) → key_cmp key first ≡ Less → Above first keys → Above key keys
above_later key first keys low h = all_weaken (λ k. key_cmp first k ≡ Less) (λ k. key_cmp key k ≡ Less) (λ k next. nat_list_cmp_total.trans key first k low next) keys h

rises_put : (key : List ℕ) (keys : List (List ℕ)) → IsStrictlySortedBy key_cmp keys → IsStrictlySortedBy key_cmp (put_key key keys)
unfolding IsStrictlySortedBy
rises_put key [] rises = (tt, tt)
rises_put key (first ∷ keys) rises = by (key_cmp key first) refl (rises_put key keys rises.1)
  where
    by : (o : Ordering) → key_cmp key first ≡ o → IsStrictlySortedBy key_cmp (put_key key keys) → IsStrictlySortedBy key_cmp (with_key o key first keys (put_key key keys))
    by Less is rest = ((is, above_later key first keys is rises.0), rises)
    by Equal is rest = rises
    by Greater is rest = (above_put first key keys (reversed key first Greater is) rises.0, rest)

keys_rise : (rows : List Row) → IsStrictlySortedBy key_cmp (keys_of rows)
unfolding IsStrictlySortedBy
keys_rise [] = tt
keys_rise (r ∷ rows) = rises_put r.key (keys_of rows) (keys_rise rows)

-- ---- which keys these are

-- A key that is put among others is there, and so are the others.
has_put : (key other : List ℕ) (keys : List (List ℕ)) → list_any (bytes_eq key) (put_key other keys) ≡ (bytes_eq key other || list_any (bytes_eq key) keys)
has_put key other [] = refl
has_put key other (first ∷ keys) = by (key_cmp other first) refl (has_put key other keys)
  where
    twice : (a b : Bool) → (a || b) ≡ (a || (a || b))
    twice true b = refl
    twice false b = refl

    swap : (a b c : Bool) → (b || (a || c)) ≡ (a || (b || c))
    swap true true c = refl
    swap true false c = refl
    swap false b c = refl

    by : (o : Ordering) → key_cmp other first ≡ o → list_any (bytes_eq key) (put_key other keys) ≡ (bytes_eq key other || list_any (bytes_eq key) keys)
        → list_any (bytes_eq key) (with_key o other first keys (put_key other keys)) ≡ (bytes_eq key other || (bytes_eq key first || list_any (bytes_eq key) keys))
    by Less is rest = refl
    by Equal is rest =
        ap (λ k. bytes_eq key k || list_any (bytes_eq key) keys) (sym (exact other first is))
        ∙ twice (bytes_eq key other) (list_any (bytes_eq key) keys)
        ∙ ap (λ k. bytes_eq key other || (bytes_eq key k || list_any (bytes_eq key) keys)) (exact other first is)
    by Greater is rest = ap (λ b. bytes_eq key first || b) rest ∙ swap (bytes_eq key other) (bytes_eq key first) (list_any (bytes_eq key) keys)

-- A key of the range is among the keys of the rows in the range, or there is no row of it.
within_keys : (range : Range) (key : List ℕ) (rows : List Row) → is_in_range range key ≡ true
    → list_any (bytes_eq key) (keys_of (rows_in range rows)) ≡ false → rows_of_key key rows ≡ []
within_keys range key [] inside none = refl
within_keys range key (r ∷ rows) inside none = by (within_keys range key rows inside) (is_in_range range r.key) refl none
  where
    over : (a b : Bool) → (a || b) ≡ false → (a ≡ false) × (b ≡ false)
    over true b h = absurd (cc h)
    over false b h = (refl, h)

    skip : bytes_eq key r.key ≡ false → rows_of_key key rows ≡ [] → rows_of_key key (r ∷ rows) ≡ []
    skip other rest = ap (λ b. cond b (r ∷ rows_of_key key rows) (rows_of_key key rows)) other ∙ rest

    by : (list_any (bytes_eq key) (keys_of (rows_in range rows)) ≡ false → rows_of_key key rows ≡ [])
        → (b : Bool) → is_in_range range r.key ≡ b → list_any (bytes_eq key) (keys_of (cond b (r ∷ rows_in range rows) (rows_in range rows))) ≡ false → rows_of_key key (r ∷ rows) ≡ []
    by rest true is h =
        let both = over (bytes_eq key r.key) (list_any (bytes_eq key) (keys_of (rows_in range rows))) (sym (has_put key r.key (keys_of (rows_in range rows))) ∙ h) in
        skip both.0 (rest both.1)
    by rest false is h = skip (false_or (bytes_eq key r.key) (λ same. let here = ap (is_in_range range) (same_bytes key r.key same) in cc (here, inside, is))) (rest h)

-- A key beyond the range is not among the keys of the rows in the range.
beyond_keys : (range : Range) (key : List ℕ) (rows : List Row) → is_in_range range key ≡ false → list_any (bytes_eq key) (keys_of (rows_in range rows)) ≡ false
beyond_keys range key [] outside = refl
beyond_keys range key (r ∷ rows) outside = by (is_in_range range r.key) refl (beyond_keys range key rows outside)
  where
    by : (b : Bool) → is_in_range range r.key ≡ b → list_any (bytes_eq key) (keys_of (rows_in range rows)) ≡ false
        → list_any (bytes_eq key) (keys_of (cond b (r ∷ rows_in range rows) (rows_in range rows))) ≡ false
    by true is rest =
        has_put key r.key (keys_of (rows_in range rows))
        ∙ ap (λ b. b || list_any (bytes_eq key) (keys_of (rows_in range rows))) (false_or (bytes_eq key r.key) (λ same. let here = ap (is_in_range range) (same_bytes key r.key same) in cc (here, outside, is)))
        ∙ rest
    by false is rest = rest

-- ---- the answers of a list of keys

-- Each key with its answer, or nothing where it has none.
abbrev answer_by : (List ℕ → Option Outcome) → List ℕ → Option (List ℕ × Outcome)
answer_by read_of key = option_map (λ answer. (key, answer)) (read_of key)

-- The answer of a key in the list is its own, if the key is among these.
looked_up : (read_of : List ℕ → Option Outcome) (key : List ℕ) (keys : List (List ℕ))
    → lookup (bytes_eq key) (filter_map (answer_by read_of) keys) ≡ cond (list_any (bytes_eq key) keys) (read_of key) None
looked_up read_of key [] = refl
looked_up read_of key (k ∷ keys) = by (read_of k) refl (bytes_eq key k) refl (looked_up read_of key keys)
  where
    by : (answer : Option Outcome) → read_of k ≡ answer → (b : Bool) → bytes_eq key k ≡ b
        → lookup (bytes_eq key) (filter_map (answer_by read_of) keys) ≡ cond (list_any (bytes_eq key) keys) (read_of key) None
        → lookup (bytes_eq key) (cons_option (option_map (λ answer. (k, answer)) answer) (filter_map (answer_by read_of) keys)) ≡ cond (b || list_any (bytes_eq key) keys) (read_of key) None
    by None is true same rest =
        let none : read_of key ≡ None = ap read_of (same_bytes key k same) ∙ is in
        rest ∙ ap (λ x. cond (list_any (bytes_eq key) keys) x None) none ∙ cond_same (list_any (bytes_eq key) keys) None ∙ sym none
    by None is false other rest = rest
    by (Some answer) is true same rest =
        ap (λ b. cond b (Some answer) (lookup (bytes_eq key) (filter_map (answer_by read_of) keys))) same ∙ sym (ap read_of (same_bytes key k same) ∙ is)
    by (Some answer) is false other rest = ap (λ b. cond b (Some answer) (lookup (bytes_eq key) (filter_map (answer_by read_of) keys))) other ∙ rest

answered_above : (read_of : List ℕ → Option Outcome) (key : List ℕ) (keys : List (List ℕ)) → Above key keys → Above key (map (λ pair. pair.0) (filter_map (answer_by read_of) keys))
answered_above read_of key [] h = tt
answered_above read_of key (k ∷ keys) h = by (read_of k) (answered_above read_of key keys h.1)
  where
    by : (answer : Option Outcome) → Above key (map (λ pair. pair.0) (filter_map (answer_by read_of) keys))
        → Above key (map (λ pair. pair.0) (cons_option (option_map (λ answer. (k, answer)) answer) (filter_map (answer_by read_of) keys)))
    by None rest = rest
    by (Some answer) rest = (h.0, rest)

answered_rise : (read_of : List ℕ → Option Outcome) (keys : List (List ℕ)) → IsStrictlySortedBy key_cmp keys → IsStrictlySortedBy key_cmp (map (λ pair. pair.0) (filter_map (answer_by read_of) keys))
unfolding IsStrictlySortedBy
answered_rise read_of [] h = tt
answered_rise read_of (k ∷ keys) h = by (read_of k) (answered_rise read_of keys h.1)
  where
    by : (answer : Option Outcome) → IsStrictlySortedBy key_cmp (map (λ pair. pair.0) (filter_map (answer_by read_of) keys))
        → IsStrictlySortedBy key_cmp (map (λ pair. pair.0) (cons_option (option_map (λ answer. (k, answer)) answer) (filter_map (answer_by read_of) keys)))
    by None rest = rest
    by (Some answer) rest = (answered_above read_of k keys h.0, rest)

-- The scan of any rows answers as reads of these rows do.
scan_is_reads : (merge : Operator) (range : Range) (seq : ℕ) (now : ℤ) (rows : List Row)
    → AnswersAsReads range (λ key. read merge key seq now (sorted_rows (rows_of_key key rows))) (scanned_pairs merge range seq now rows)
scan_is_reads merge range seq now rows =
    let read_of : List ℕ → Option Outcome = λ key. read merge key seq now (sorted_rows (rows_of_key key rows)) in
    record {
      within = λ key inside. looked_up read_of key (keys_of (rows_in range rows)) ∙ by key inside (list_any (bytes_eq key) (keys_of (rows_in range rows))) refl;
      beyond = λ key outside. looked_up read_of key (keys_of (rows_in range rows)) ∙ ap (λ b. cond b (read_of key) None) (beyond_keys range key rows outside);
      rising = answered_rise read_of (keys_of (rows_in range rows)) (keys_rise (rows_in range rows));
    }
  where
    by : (key : List ℕ) → is_in_range range key ≡ true → (b : Bool) → list_any (bytes_eq key) (keys_of (rows_in range rows)) ≡ b
        → cond b (read merge key seq now (sorted_rows (rows_of_key key rows))) None ≡ read merge key seq now (sorted_rows (rows_of_key key rows))
    by key inside true there = refl
    by key inside false none = sym (ap (λ rs. read merge key seq now (sorted_rows rs)) (within_keys range key rows inside none))

pub scans_answer_as_reads : (merge : Operator) (store : Store) (segment : List ℕ) (range : Range) (seq : ℕ) (now : ℤ) → ScansAnswerAsReads merge store segment range seq now
scans_answer_as_reads merge store segment range seq now = record {
  flushed = scan_is_reads merge range seq now (flat_map (flushed_node_rows store.tables) (tree_at segment store.manifest.trees));
  stored = scan_is_reads merge range seq now (flat_map (node_rows store.tables) (tree_at segment store.manifest.trees));
}

-- ---- two lists with the same answers are one

abbrev pub answer_at : List ℕ → List (List ℕ × Outcome) → Option Outcome
answer_at key answers = lookup (bytes_eq key) answers

-- A key that is below all keys of a list is not in it.
pub none_above : (key : List ℕ) (answers : List (List ℕ × Outcome)) → Above key (map (λ pair. pair.0) answers) → answer_at key answers ≡ None
none_above key [] h = refl
none_above key (x ∷ answers) h = ap (λ b. cond b (Some x.1) (answer_at key answers)) (below_differs key x.0 h.0) ∙ none_above key answers h.1

pub first_answer : (x : List ℕ × Outcome) (answers : List (List ℕ × Outcome)) → answer_at x.0 (x ∷ answers) ≡ Some x.1
first_answer x answers = ap (λ b. cond b (Some x.1) (answer_at x.0 answers)) (alike_bytes x.0)

-- Two lists with rising keys that give the same answer to each key are the same.
pub same_answers : (one other : List (List ℕ × Outcome)) → IsStrictlySortedBy key_cmp (map (λ pair. pair.0) one) → IsStrictlySortedBy key_cmp (map (λ pair. pair.0) other)
    → ((key : List ℕ) → answer_at key one ≡ answer_at key other) → one ≡ other
unfolding IsStrictlySortedBy
same_answers [] [] h g same = refl
same_answers [] (y ∷ ys) h g same = let here = same y.0 ∙ first_answer y ys in absurd (cc here)
same_answers (x ∷ xs) [] h g same = let here = sym (first_answer x xs) ∙ same x.0 in absurd (cc here)
same_answers (x ∷ xs) (y ∷ ys) h g same = by (same_answers xs ys h.1 g.1) (key_cmp x.0 y.0) refl
  where
    others : x.0 ≡ y.0 → (key : List ℕ) → (b : Bool) → bytes_eq key x.0 ≡ b → answer_at key xs ≡ answer_at key ys
    others keys key true is =
        let this : key ≡ x.0 = same_bytes key x.0 is in
        ap (λ k. answer_at k xs) this ∙ none_above x.0 xs h.0 ∙ sym (ap (λ k. answer_at k ys) (this ∙ keys) ∙ none_above y.0 ys g.0)
    others keys key false is =
        sym (ap (λ b. cond b (Some x.1) (answer_at key xs)) is) ∙ same key ∙ ap (λ b. cond b (Some y.1) (answer_at key ys)) (ap (bytes_eq key) (sym keys) ∙ is)

    pair : x.0 ≡ y.0 → x.1 ≡ y.1 → x ≡ y
    pair keys answers = ap (λ k. (k, x.1)) keys ∙ ap (λ a. (y.0, a)) answers

    by : (((key : List ℕ) → answer_at key xs ≡ answer_at key ys) → xs ≡ ys) → (o : Ordering) → key_cmp x.0 y.0 ≡ o → (x ∷ xs) ≡ (y ∷ ys)
    by later Less is =
        let here = sym (first_answer x xs) ∙ same x.0 ∙ none_above x.0 (y ∷ ys) (is, above_later x.0 y.0 (map (λ pair. pair.0) ys) is g.0) in absurd (cc here)
    by later Greater is =
        let low : key_cmp y.0 x.0 ≡ Less = reversed x.0 y.0 Greater is in
        let here = sym (first_answer y ys) ∙ sym (same y.0) ∙ none_above y.0 (x ∷ xs) (low, above_later y.0 x.0 (map (λ pair. pair.0) xs) low h.0) in absurd (cc here)
    by later Equal is =
        let keys : x.0 ≡ y.0 = exact x.0 y.0 is in
        let answers : Some x.1 ≡ Some y.1 = sym (first_answer x xs) ∙ same x.0 ∙ ap (λ k. answer_at k (y ∷ ys)) keys ∙ first_answer y ys in
        let rest : xs ≡ ys = later (λ key. others keys key (bytes_eq key x.0) refl) in
        ap (λ z. z ∷ xs) (pair keys (same_Some _ _ answers)) ∙ ap (λ zs. y ∷ zs) rest

-- Both lists give each key the same answer, so they are one list.
pub stores_answer_scans : (merge : Operator) → StoresAnswerScans merge
stores_answer_scans merge store kept segment range seq now low later =
    let scans = scans_answer_as_reads merge store segment range seq now in
    same_answers (stored_scan merge store segment range seq now) (flushed_scan merge store segment range seq now) scans.stored.rising scans.flushed.rising (λ key. by key (is_in_range range key) refl)
  where
    by : (key : List ℕ) (b : Bool) → is_in_range range key ≡ b → answer_at key (stored_scan merge store segment range seq now) ≡ answer_at key (flushed_scan merge store segment range seq now)
    by key true inside =
        (scans_answer_as_reads merge store segment range seq now).stored.within key inside
        ∙ stores_answer_reads merge store kept segment key seq now low later
        ∙ sym ((scans_answer_as_reads merge store segment range seq now).flushed.within key inside)
    by key false outside =
        (scans_answer_as_reads merge store segment range seq now).stored.beyond key outside ∙ sym ((scans_answer_as_reads merge store segment range seq now).flushed.beyond key outside)
