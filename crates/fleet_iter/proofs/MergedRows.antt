-- The merge of ordered lists sorts their rows.
use Rattle.std.proofs.Common.{◌≡◌, ◌≢◌, ◌∙◌, sym, refl, ap, List, [], ◌∷◌, ◌++◌, Bool, true, false, cond, not}
use Rattle.std.specs.Prelude.{flat_map}
use Rattle.std.specs.List.{AllByRecursion}
use Rattle.std.specs.List.Sorted.{IsStrictlySortedBy}
use Rattle.std.specs.declared.cmp.Ordering.{Ordering}
use Rattle.std.specs.declared.cmp.Ordering.TheVariants.{Less, Equal, Greater}
use Rattle.std.specs.Ordering.{is_lt, is_gt, ordering_reverse}
use Rattle.row_model.specs.Rows.{Row, row_cmp, sorted_rows, insert_row, IsStrictlyOrdered}
use Rattle.row_laws.specs.Merges.{AreApart}
use Rattle.row_laws.proofs.Order.{row_total}
use Rattle.row_laws.proofs.Elements.{all_weaken}
use Rattle.row_laws.proofs.Sources.{all_put, insert_first}
use Rattle.row_laws.proofs.Merges.{apart_are_ordered}
use Rattle.fleet_iter.specs.Merge.{merge_two, merge_into, goes_first, MergesSort}
use Rattle.fleet_iter.specs.declared.iterator.IterationOrder.TheVariants.{Ascending}

abbrev Before : Row → List Row → Type 0
Before r rows = AllByRecursion (λ q. row_cmp r q ≡ Less) rows

abbrev Apart : Row → List Row → Type 0
Apart r rows = AllByRecursion (λ q. row_cmp r q ≢ Equal) rows

before_all : (r : Row) (rows : List Row) → Before r rows → insert_row r rows ≡ r ∷ rows
before_all r rows h = insert_first r rows (all_weaken (λ q. row_cmp r q ≡ Less) (λ q. is_lt (row_cmp r q) ≡ true) (λ q less. ap is_lt less) rows h)

before_too : (r q : Row) (rows : List Row) → row_cmp r q ≡ Less → Before q rows → Before r rows
before_too r q rows h all = all_weaken (λ x. row_cmp q x ≡ Less) (λ x. row_cmp r x ≡ Less) (λ x after. row_total.trans r q x h after) rows all

turned : (r q : Row) → row_cmp r q ≡ Greater → row_cmp q r ≡ Less
turned r q h = row_total.antisymm q r ∙ ap ordering_reverse h

turned_back : (r q : Row) → row_cmp q r ≡ Less → row_cmp r q ≡ Greater
turned_back r q h = row_total.antisymm r q ∙ ap ordering_reverse h

pub all_into : (P : Row → Type 0) (x : Row) (rest : List Row → List Row) → ((zs : List Row) → AllByRecursion P zs → AllByRecursion P (rest zs)) → (ys : List Row) → P x → AllByRecursion P ys → AllByRecursion P (merge_into Ascending x rest ys)
all_into P x rest h [] p all = (p, h [] tt)
all_into P x rest h (y ∷ ys) p all = by (goes_first Ascending x y) (all_into P x rest h ys p all.1)
  where
    by : (b : Bool) → AllByRecursion P (merge_into Ascending x rest ys) → AllByRecursion P (cond b (x ∷ rest (y ∷ ys)) (y ∷ merge_into Ascending x rest ys))
    by true later = (p, h (y ∷ ys) all)
    by false later = (all.0, later)

pub all_merged : (P : Row → Type 0) (xs ys : List Row) → AllByRecursion P xs → AllByRecursion P ys → AllByRecursion P (merge_two Ascending xs ys)
all_merged P [] ys h g = g
all_merged P (x ∷ xs) ys h g = all_into P x (merge_two Ascending xs) (λ zs k. all_merged P xs zs h.1 k) ys h.0 g

-- A row that is before all rows of a list comes first in the merge.
comes_first : (y : Row) (xs ys : List Row) → Before y xs → merge_two Ascending xs (y ∷ ys) ≡ y ∷ merge_two Ascending xs ys
comes_first y [] ys h = refl
comes_first y (x ∷ xs) ys h = ap (λ o. cond (not (is_gt o)) (x ∷ merge_two Ascending xs (y ∷ ys)) (y ∷ merge_into Ascending x (merge_two Ascending xs) ys)) (turned_back x y h.0)

into_is_put : (x : Row) (xs ys : List Row) → Before x xs → IsStrictlyOrdered ys → Apart x ys → merge_into Ascending x (merge_two Ascending xs) ys ≡ insert_row x (merge_two Ascending xs ys)
unfolding IsStrictlySortedBy
into_is_put x xs [] before ordered apart = sym (before_all x (merge_two Ascending xs []) (all_merged (λ q. row_cmp x q ≡ Less) xs [] before tt))
into_is_put x xs (y ∷ ys) before ordered apart = by (row_cmp x y) refl (into_is_put x xs ys before ordered.1 apart.1)
  where
    by : (o : Ordering) → row_cmp x y ≡ o → merge_into Ascending x (merge_two Ascending xs) ys ≡ insert_row x (merge_two Ascending xs ys)
        → cond (not (is_gt o)) (x ∷ merge_two Ascending xs (y ∷ ys)) (y ∷ merge_into Ascending x (merge_two Ascending xs) ys) ≡ insert_row x (merge_two Ascending xs (y ∷ ys))
    by Less e rest = sym (before_all x (merge_two Ascending xs (y ∷ ys)) (all_merged (λ q. row_cmp x q ≡ Less) xs (y ∷ ys) before (e, before_too x y ys e ordered.0)))
    by Equal e rest = absurd (apart.0 e)
    by Greater e rest =
        let first = comes_first y xs ys (before_too y x xs (turned x y e) before) in
        ap (λ (w : List Row). y ∷ w) rest
        ∙ (sym (ap (λ o. cond (is_lt o) (x ∷ y ∷ merge_two Ascending xs ys) (y ∷ insert_row x (merge_two Ascending xs ys))) e) ∙ sym (ap (insert_row x) first))

-- Rows are put in their places among other rows, one after the other.
abbrev put_all : List Row → List Row → List Row
put_all [] ys = ys
put_all (x ∷ xs) ys = insert_row x (put_all xs ys)

two_are_put : (xs ys : List Row) → IsStrictlyOrdered xs → IsStrictlyOrdered ys → AllByRecursion (λ x. Apart x ys) xs → merge_two Ascending xs ys ≡ put_all xs ys
unfolding IsStrictlySortedBy
two_are_put [] ys ordered others apart = refl
two_are_put (x ∷ xs) ys ordered others apart = into_is_put x xs ys ordered.0 others apart.0 ∙ ap (insert_row x) (two_are_put xs ys ordered.1 others apart.1)

sorted_put : (xs zs : List Row) → sorted_rows (xs ++ zs) ≡ put_all xs (sorted_rows zs)
sorted_put [] zs = refl
sorted_put (x ∷ xs) zs = ap (insert_row x) (sorted_put xs zs)

all_sorted : (P : Row → Type 0) (rows : List Row) → AllByRecursion P rows → AllByRecursion P (sorted_rows rows)
all_sorted P [] h = tt
all_sorted P (r ∷ rows) h = all_put P r (sorted_rows rows) h.0 (all_sorted P rows h.1)

all_later : (P : Row → Type 0) (xs zs : List Row) → AllByRecursion P (xs ++ zs) → AllByRecursion P zs
all_later P [] zs h = h
all_later P (x ∷ xs) zs h = all_later P xs zs h.1

apart_later : (xs zs : List Row) → AreApart (xs ++ zs) → AreApart zs
apart_later [] zs h = h
apart_later (x ∷ xs) zs h = apart_later xs zs h.1

apart_across : (xs zs : List Row) → AreApart (xs ++ zs) → AllByRecursion (λ x. Apart x (sorted_rows zs)) xs
apart_across [] zs h = tt
apart_across (x ∷ xs) zs h = (all_sorted (λ q. row_cmp x q ≢ Equal) zs (all_later (λ q. row_cmp x q ≢ Equal) xs zs h.0), apart_across xs zs h.1)

pub merges_sort : MergesSort
merges_sort [] ordered apart = refl
merges_sort (xs ∷ ls) ordered apart =
    let zs = flat_map (λ (rows : List Row). rows) ls in
    let later : AreApart zs = apart_later xs zs apart in
    ap (merge_two Ascending xs) (merges_sort ls ordered.1 later)
    ∙ (two_are_put xs (sorted_rows zs) ordered.0 (apart_are_ordered zs later) (apart_across xs zs apart) ∙ sym (sorted_put xs zs))
