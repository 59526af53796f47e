-- Merged rows are in order exactly where each list is in order and no two rows of the lists have both key and
-- sequence in common.
use Rattle.std.proofs.Common.{◌≡◌, ◌≢◌, ◌∙◌, sym, ap, subst, List, [], ◌∷◌, ◌++◌, cond, Bool, true, false}
use Rattle.std.specs.Prelude.{flat_map, IsTrue}
use Rattle.std.specs.List.{AllByRecursion}
use Rattle.std.specs.List.Sorted.{IsStrictlySortedBy}
use Rattle.std.specs.declared.cmp.Ordering.TheVariants.{Less, Equal, Greater}
use Rattle.std.specs.Ordering.{ordering_reverse}
use Rattle.row_model.specs.Ranges.{all_keys}
use Rattle.row_model.specs.Rows.{Row, row_cmp, are_ordered, IsStrictlyOrdered}
use Rattle.row_laws.specs.Merges.{AreApart}
use Rattle.row_laws.proofs.Elements.{all_weaken}
use Rattle.row_laws.proofs.Order.{row_total}
use Rattle.row_laws.proofs.Ranges.{all_in}
use Rattle.fleet_fold.proofs.JobsLast.{all_append}
use Rattle.fleet_iter.specs.Merge.{merge_two, merged_lists, goes_first, MergesSort}
use Rattle.fleet_iter.specs.declared.iterator.IterationOrder.TheVariants.{Ascending}
use Rattle.fleet_rows.proofs.Ordered.{decided}
use Rattle.fleet_exec.specs.Ranges.{source_rows, ranged_sources, AreSources}
use Rattle.fleet_exec.proofs.Opened.{flat_in, merged_in, ordered}

-- ---- if all rows of a merge have a property, so have all rows of its lists

-- What holds of all rows of a merge holds of the rows of both lists.
all_of_two : (P : Row → Type 0) (xs ys : List Row) → AllByRecursion P (merge_two Ascending xs ys) → AllByRecursion P xs × AllByRecursion P ys
all_of_two P [] ys h = (tt, h)
all_of_two P (x ∷ xs) [] h = ((h.0, (all_of_two P xs [] h.1).0), tt)
all_of_two P (x ∷ xs) (y ∷ ys) h = by (goes_first Ascending x y) h (all_of_two P xs (y ∷ ys)) (all_of_two P (x ∷ xs) ys)
  where
    by : (b : Bool) → AllByRecursion P (cond b (x ∷ merge_two Ascending xs (y ∷ ys)) (y ∷ merge_two Ascending (x ∷ xs) ys))
        → (AllByRecursion P (merge_two Ascending xs (y ∷ ys)) → AllByRecursion P xs × AllByRecursion P (y ∷ ys))
        → (AllByRecursion P (merge_two Ascending (x ∷ xs) ys) → AllByRecursion P (x ∷ xs) × AllByRecursion P ys)
        → AllByRecursion P (x ∷ xs) × AllByRecursion P (y ∷ ys)
    by true all left right = let parts = left all.1 in ((all.0, parts.0), parts.1)
    by false all left right = let parts = right all.1 in (parts.0, (all.0, parts.1))

all_of_merged : (P : Row → Type 0) (lists : List (List Row)) → AllByRecursion P (merged_lists Ascending lists) → AllByRecursion P (flat_map (λ rows. rows) lists)
all_of_merged P [] h = tt
all_of_merged P (rows ∷ lists) h =
    let parts = all_of_two P rows (merged_lists Ascending lists) h in
    all_append P rows (flat_map (λ (w : List Row). w) lists) parts.0 (all_of_merged P lists parts.1)

-- ---- a merge in order

abbrev Apart : Row → List Row → Type 0
Apart r rows = AllByRecursion (λ q. row_cmp r q ≢ Equal) rows

before_is_apart : (r q : Row) → row_cmp r q ≡ Less → row_cmp r q ≢ Equal
before_is_apart r q less equal =
    let clash : Less ≡ Equal = sym less ∙ equal in
    absurd (cc clash)

after_is_apart : (r q : Row) → row_cmp r q ≡ Less → row_cmp q r ≢ Equal
after_is_apart r q less equal =
    let clash : Greater ≡ Equal = sym (row_total.antisymm q r ∙ ap ordering_reverse less) ∙ equal in
    absurd (cc clash)

record InOrder (xs ys : List Row) : Type 0 where
  first : IsStrictlyOrdered xs
  second : IsStrictlyOrdered ys
  apart : AllByRecursion (λ x. Apart x ys) xs

-- A row that is before all rows of two lists may be put in front of the first list.
first_is_least : (x : Row) (xs ys : List Row) → AllByRecursion (λ q. row_cmp x q ≡ Less) xs × AllByRecursion (λ q. row_cmp x q ≡ Less) ys → InOrder xs ys → InOrder (x ∷ xs) ys
unfolding IsStrictlySortedBy
first_is_least x xs ys least o = record {
  first = (least.0, o.first);
  second = o.second;
  apart = (all_weaken (λ q. row_cmp x q ≡ Less) (λ q. row_cmp x q ≢ Equal) (before_is_apart x) ys least.1, o.apart);
}

each_apart : (y : Row) (xs ys : List Row) → AllByRecursion (λ q. row_cmp y q ≡ Less) xs → AllByRecursion (λ x. Apart x ys) xs → AllByRecursion (λ x. Apart x (y ∷ ys)) xs
each_apart y [] ys least apart = tt
each_apart y (x ∷ xs) ys least apart = ((after_is_apart y x least.0, apart.0), each_apart y xs ys least.1 apart.1)

second_is_least : (y : Row) (xs ys : List Row) → AllByRecursion (λ q. row_cmp y q ≡ Less) xs × AllByRecursion (λ q. row_cmp y q ≡ Less) ys → InOrder xs ys → InOrder xs (y ∷ ys)
unfolding IsStrictlySortedBy
second_is_least y xs ys least o = record { first = o.first; second = (least.1, o.second); apart = each_apart y xs ys least.0 o.apart }

two_in_order : (xs ys : List Row) → IsStrictlyOrdered (merge_two Ascending xs ys) → InOrder xs ys
unfolding IsStrictlySortedBy
two_in_order [] ys h = record { first = tt; second = h; apart = tt }
two_in_order (x ∷ xs) [] h = first_is_least x xs [] (all_of_two (λ q. row_cmp x q ≡ Less) xs [] h.0) (two_in_order xs [] h.1)
two_in_order (x ∷ xs) (y ∷ ys) h = by (goes_first Ascending x y) h (two_in_order xs (y ∷ ys)) (two_in_order (x ∷ xs) ys)
  where
    by : (b : Bool) → IsStrictlyOrdered (cond b (x ∷ merge_two Ascending xs (y ∷ ys)) (y ∷ merge_two Ascending (x ∷ xs) ys))
        → (IsStrictlyOrdered (merge_two Ascending xs (y ∷ ys)) → InOrder xs (y ∷ ys))
        → (IsStrictlyOrdered (merge_two Ascending (x ∷ xs) ys) → InOrder (x ∷ xs) ys)
        → InOrder (x ∷ xs) (y ∷ ys)
    by true o left right = first_is_least x xs (y ∷ ys) (all_of_two (λ q. row_cmp x q ≡ Less) xs (y ∷ ys) o.0) (left o.1)
    by false o left right = second_is_least y (x ∷ xs) ys (all_of_two (λ q. row_cmp y q ≡ Less) (x ∷ xs) ys o.0) (right o.1)

-- ---- a merge of several lists

apart_joined : (xs ys : List Row) → AreApart xs → AreApart ys → AllByRecursion (λ x. Apart x ys) xs → AreApart (xs ++ ys)
apart_joined [] ys h g across = g
apart_joined (x ∷ xs) ys h g across = (all_append (λ q. row_cmp x q ≢ Equal) xs ys h.0 across.0, apart_joined xs ys h.1 g across.1)

ordered_are_apart : (rows : List Row) → IsStrictlyOrdered rows → AreApart rows
unfolding IsStrictlySortedBy
ordered_are_apart [] h = tt
ordered_are_apart (r ∷ rows) h = (all_weaken (λ q. row_cmp r q ≡ Less) (λ q. row_cmp r q ≢ Equal) (before_is_apart r) rows h.0, ordered_are_apart rows h.1)

merged_in_order : (lists : List (List Row)) → IsStrictlyOrdered (merged_lists Ascending lists) → AllByRecursion IsStrictlyOrdered lists × AreApart (flat_map (λ rows. rows) lists)
merged_in_order [] h = (tt, tt)
merged_in_order (rows ∷ lists) h =
    let o = two_in_order rows (merged_lists Ascending lists) h in
    let later = merged_in_order lists o.second in
    let all = flat_map (λ (w : List Row). w) lists in
    ((o.first, later.0), apart_joined rows all (ordered_are_apart rows o.first) later.1 (all_weaken (λ x. Apart x (merged_lists Ascending lists)) (λ x. Apart x all) (λ x. all_of_merged (λ q. row_cmp x q ≢ Equal) lists) rows o.apart))

-- ---- the order of the merge of all rows decides whether they are sources

all_mapped : (sources : List (List (List Row))) → AllByRecursion IsStrictlyOrdered (ranged_sources all_keys sources) → AllByRecursion (λ tables. IsStrictlyOrdered (source_rows tables)) sources
all_mapped [] h = tt
all_mapped (tables ∷ sources) h = (subst IsStrictlyOrdered (all_in (source_rows tables)) h.0, all_mapped sources h.1)

are_sources_of : (sources : List (List (List Row))) → IsStrictlyOrdered (merged_lists Ascending (ranged_sources all_keys sources)) → AreSources sources
are_sources_of sources h =
    let parts = merged_in_order (ranged_sources all_keys sources) h in
    record { ordered = all_mapped sources parts.0; apart = subst AreApart (flat_in all_keys sources ∙ all_in (flat_map source_rows sources)) parts.1 }

in_order_of : MergesSort → (sources : List (List (List Row))) → AreSources sources → IsStrictlyOrdered (merged_lists Ascending (ranged_sources all_keys sources))
in_order_of sort sources h = subst IsStrictlyOrdered (sym (merged_in all_keys sources h sort)) (ordered all_keys sources h)

pub decides_order : MergesSort → (sources : List (List (List Row))) (answer : Bool) (rows : List Row) → rows ≡ merged_lists Ascending (ranged_sources all_keys sources) → answer ≡ are_ordered rows
    → (IsTrue answer → AreSources sources) × (AreSources sources → IsTrue answer)
decides_order sort sources answer rows is test =
    let test_is = decided rows answer test in
    ((λ yes. are_sources_of sources (subst IsStrictlyOrdered is (test_is.0 yes))), λ h. test_is.1 (subst IsStrictlyOrdered (sym is) (in_order_of sort sources h)))
