-- The ordered rows of a range come after the rows before its start and before the rows after its end.
use Rattle.std.proofs.Common.{◌≡◌, refl, sym, ◌∙◌, ap, List, [], ◌∷◌, ◌&&◌, Bool, true, false, cond, ℕ}
use Rattle.std.specs.Prelude.{filter, not}
use Rattle.std.specs.declared.cmp.Ordering.{Ordering}
use Rattle.std.specs.declared.cmp.Ordering.TheVariants.{Less, Equal, Greater}
use Rattle.std.specs.Ordering.{is_lt, is_gt, ordering_reverse}
use Rattle.row_model.specs.Rows.{Row, key_cmp, row_cmp}
use Rattle.row_model.specs.Ranges.{Bound, Range, Unbounded, Included, Excluded, is_after_start, is_before_end, rows_in}
use Rattle.row_laws.proofs.ApartRows.{below_too}
use Rattle.std.proofs.lemmas.Cmp.{nat_list_cmp_total}
use Rattle.row_laws.proofs.KeyRows.{up_to, up_to_too}
use Rattle.fleet_table.specs.Order.{is_before_range, is_not_after_range}

-- ---- an earlier row passes the tests is_before_range and is_not_after_range where a later one does

not_reversed : (o : Ordering) → not (is_lt (ordering_reverse o)) ≡ not (is_gt o)
not_reversed Less = refl
not_reversed Equal = refl
not_reversed Greater = refl

gt_reversed : (o : Ordering) → not (not (is_gt (ordering_reverse o))) ≡ is_lt o
gt_reversed Less = refl
gt_reversed Equal = refl
gt_reversed Greater = refl

pub before_included : (k : List ℕ) (r : Row) → not (is_after_start (Included k) r.key) ≡ is_lt (key_cmp r.key k)
before_included k r = ap (λ o. not (not (is_gt o))) (nat_list_cmp_total.antisymm k r.key) ∙ gt_reversed (key_cmp r.key k)

pub before_excluded : (k : List ℕ) (r : Row) → not (is_after_start (Excluded k) r.key) ≡ up_to k r
before_excluded k r = ap (λ o. not (is_lt o)) (nat_list_cmp_total.antisymm k r.key) ∙ not_reversed (key_cmp r.key k)

before_start_too : (start : Bound) (r q : Row) → row_cmp r q ≡ Less → not (is_after_start start q.key) ≡ true → not (is_after_start start r.key) ≡ true
before_start_too Unbounded r q before h = h
before_start_too (Included k) r q before h = before_included k r ∙ below_too k r q before (sym (before_included k q) ∙ h)
before_start_too (Excluded k) r q before h = before_excluded k r ∙ up_to_too k r q before (sym (before_excluded k q) ∙ h)

before_end_too : (end : Bound) (r q : Row) → row_cmp r q ≡ Less → is_before_end end q.key ≡ true → is_before_end end r.key ≡ true
before_end_too Unbounded r q before h = h
before_end_too (Included k) r q before h = up_to_too k r q before h
before_end_too (Excluded k) r q before h = below_too k r q before h

pub before_range_too : (range : Range) (r q : Row) → row_cmp r q ≡ Less → is_before_range range q ≡ true → is_before_range range r ≡ true
before_range_too range = before_start_too range.from

pub not_after_too : (range : Range) (r q : Row) → row_cmp r q ≡ Less → is_not_after_range range q ≡ true → is_not_after_range range r ≡ true
not_after_too range = before_end_too range.to

-- ---- two filters in turn are one filter by both tests

both : (a b : Bool) (r : Row) (rows : List Row) (q : Row → Bool) → q r ≡ b → filter q (cond a (r ∷ rows) rows) ≡ cond (a && b) (r ∷ filter q rows) (filter q rows)
both true b r rows q e = ap (λ t. cond t (r ∷ filter q rows) (filter q rows)) e
both false b r rows q e = refl

filter_twice : (p q : Row → Bool) (rows : List Row) → filter q (filter p rows) ≡ filter (λ r. p r && q r) rows
filter_twice p q [] = refl
filter_twice p q (r ∷ rows) = both (p r) (q r) r (filter p rows) q refl ∙ ap (λ rs. cond (p r && q r) (r ∷ rs) rs) (filter_twice p q rows)

pub in_range_is : (range : Range) (rows : List Row) → filter (is_not_after_range range) (filter (λ r. is_after_start range.from r.key) rows) ≡ rows_in range rows
in_range_is range rows = filter_twice (λ r. is_after_start range.from r.key) (is_not_after_range range) rows

not_not : (b : Bool) → not (not b) ≡ b
not_not true = refl
not_not false = refl

pub not_before : (range : Range) (rows : List Row) → filter (λ r. not (is_before_range range r)) rows ≡ filter (λ r. is_after_start range.from r.key) rows
not_before range [] = refl
not_before range (r ∷ rows) =
    ap (λ b. cond b (r ∷ filter (λ q. not (is_before_range range q)) rows) (filter (λ q. not (is_before_range range q)) rows)) (not_not (is_after_start range.from r.key))
    ∙ ap (λ rs. cond (is_after_start range.from r.key) (r ∷ rs) rs) (not_before range rows)
