-- A plan from descriptions of tables is the plan from their rows.
use Rattle.std.proofs.Common.{◌≡◌, refl, sym, ◌∙◌, ap, ℕ, ◌≤◌, ◌+◌, ◌-◌, ◌/◌, ◌%◌, max, arith, cond, Bool, true, false, not, ◌&&◌, List, [], ◌∷◌, ◌++◌, length, map}
use Rattle.std.specs.Prelude.{◌==◌, ◌||◌, nat_le, filter, flat_map, sum_by}
use Rattle.std.specs.List.{AllByRecursion}
use Rattle.std.specs.List.Sorted.{IsStrictlySortedBy}
use Rattle.std.specs.declared.cmp.Ordering.{Ordering}
use Rattle.std.specs.declared.cmp.Ordering.TheVariants.{Less, Equal, Greater}
use Rattle.std.specs.Ordering.{is_lt, is_gt, nat_cmp, ordering_reverse, ordering_then}
use Rattle.std.specs.Cmp.{IsStrictWeakOrder}
use Rattle.std.proofs.lemmas.Cmp.{nat_list_cmp_total}
use Rattle.std.proofs.lemmas.List.MinMax.{ranks_by}
use Rattle.row_model.specs.Rows.{Row, key_cmp, row_cmp, IsStrictlyOrdered}
use Rattle.std.proofs.lemmas.Grind.{common_steps}
use Rattle.row_model.specs.Ranges.{Range, Included, Unbounded, all_keys, is_in_range, ranges_from}
use Rattle.row_model.specs.Written.Sizes.{Block, blocks, blocks_from, estimated_size, or_full, saturated_sum, table_size}
use Rattle.row_model.specs.Written.Plan.{Anchor, anchors_by_key, cut_anchors, every, greatest_size, max_anchors, planned_ranges, sample_anchors, select_boundaries, spans}
use Rattle.row_laws.proofs.ApartRows.{gt_of_reverse}
use Rattle.row_laws.proofs.Elements.{all_weaken}
use Rattle.fleet_model.specs.Trees.{first_key, last_key}
use Rattle.fleet_tree.specs.Views.{View}
use Rattle.fleet_plan.specs.Plans.{AreOfRows, IsOfRows, greatest_view_size, planned_of, view_anchors}

-- ---- a property of each row's key is a property of each anchor's key

module _ (P : List ℕ → Type 0) where
  blocks_have : (offset filled : ℕ) (rows : List Row) → AllByRecursion (λ r. P r.key) rows → AllByRecursion (λ b. P b.first_key) (blocks_from offset filled rows)
  blocks_have offset filled [] all = tt
  blocks_have offset filled (r ∷ rows) all = by (filled == 0) (blocks_from (saturated_sum (offset + estimated_size r)) (or_full (filled + estimated_size r)) rows) (blocks_have (saturated_sum (offset + estimated_size r)) (or_full (filled + estimated_size r)) rows all.1)
    where
      by : (b : Bool) (later : List Block) → AllByRecursion (λ block. P block.first_key) later → AllByRecursion (λ block. P block.first_key) (cond b (record { first_key = r.key; offset = offset } ∷ later) later)
      by true later rest = (all.0, rest)
      by false later rest = rest

  every_has : (stride i : ℕ) (bs : List Block) → AllByRecursion (λ b. P b.first_key) bs → AllByRecursion (λ b. P b.first_key) (every stride i bs)
  every_has stride i [] all = tt
  every_has stride i (b ∷ bs) all = by (i % stride == 0) (every_has stride (i + 1) bs all.1)
    where
      by : (first : Bool) → AllByRecursion (λ b. P b.first_key) (every stride (i + 1) bs) → AllByRecursion (λ b. P b.first_key) (cond first (b ∷ every stride (i + 1) bs) (every stride (i + 1) bs))
      by true rest = (all.0, rest)
      by false rest = rest

  spans_have : (end : ℕ) (bs : List Block) → AllByRecursion (λ b. P b.first_key) bs → AllByRecursion (λ a. P a.key) (spans end bs)
  spans_have end [] all = tt
  spans_have end (b ∷ []) all = (all.0, tt)
  spans_have end (b ∷ c ∷ bs) all = (all.0, spans_have end (c ∷ bs) all.1)

same_filter : (p q : Anchor → Bool) (anchors : List Anchor) → AllByRecursion (λ a. p a ≡ q a) anchors → filter p anchors ≡ filter q anchors
same_filter p q [] all = refl
same_filter p q (a ∷ anchors) all = ap (λ b. cond b (a ∷ filter p anchors) (filter p anchors)) all.0 ∙ ap (λ rest. cond (q a) (a ∷ rest) rest) (same_filter p q anchors all.1)

-- ---- each row's key lies between the first key and the last

abbrev AtMost : List ℕ → List ℕ → Type 0
AtMost low high = is_lt (key_cmp high low) ≡ false

key_order : IsStrictWeakOrder (λ a b. is_lt (key_cmp a b))
key_order = ranks_by nat_list_cmp_total (λ key. key)

at_most_itself : (key : List ℕ) → AtMost key key
at_most_itself key = by (is_lt (key_cmp key key)) refl
  where
    by : (b : Bool) → is_lt (key_cmp key key) ≡ b → is_lt (key_cmp key key) ≡ false
    by true e = key_order.one_way key key e
    by false e = e

not_gt : (low high : List ℕ) → AtMost low high → not (is_gt (key_cmp low high)) ≡ true
not_gt low high h = ap (λ o. not (is_gt o)) (nat_list_cmp_total.antisymm low high) ∙ ap not (gt_of_reverse (key_cmp high low)) ∙ ap not h

before_at_most : (r q : Row) → row_cmp r q ≡ Less → AtMost r.key q.key
before_at_most r q before = ap is_lt (nat_list_cmp_total.antisymm q.key r.key) ∙ by (key_cmp r.key q.key) (nat_cmp q.seq r.seq) before
  where
    by : (keys seqs : Ordering) → ordering_then keys seqs ≡ Less → is_lt (ordering_reverse keys) ≡ false
    by Less seqs e = refl
    by Equal seqs e = refl
    by Greater seqs e = absurd (cc e)

from_first : (r : Row) (rows : List Row) → IsStrictlyOrdered (r ∷ rows) → AllByRecursion (λ q. AtMost r.key q.key) (r ∷ rows)
unfolding IsStrictlySortedBy
from_first r rows ordered = (at_most_itself r.key, all_weaken (λ q. row_cmp r q ≡ Less) (λ q. AtMost r.key q.key) (before_at_most r) rows ordered.0)

to_last : (r : Row) (rows : List Row) → IsStrictlyOrdered (r ∷ rows) → AllByRecursion (λ q. AtMost q.key (last_key r.key rows)) (r ∷ rows)
unfolding IsStrictlySortedBy
to_last r [] ordered = (at_most_itself r.key, tt)
to_last r (q ∷ rows) ordered =
    let rest = to_last q rows ordered.1 in
    (key_order.chain (last_key q.key rows) q.key r.key rest.0 (before_at_most r q ordered.0.0), rest)

abbrev span_of : List Row → Range
span_of rows = record { from = Included (first_key rows); to = Included (last_key [] rows) }

keys_within : (rows : List Row) → IsStrictlyOrdered rows → AllByRecursion (λ r. is_in_range (span_of rows) r.key ≡ true) rows
keys_within [] ordered = tt
keys_within (r ∷ rows) ordered = both (r ∷ rows) (from_first r rows ordered) (to_last r rows ordered)
  where
    both : (qs : List Row) → AllByRecursion (λ q. AtMost r.key q.key) qs → AllByRecursion (λ q. AtMost q.key (last_key r.key rows)) qs → AllByRecursion (λ q. is_in_range (span_of (r ∷ rows)) q.key ≡ true) qs
    both [] low high = tt
    both (q ∷ qs) low high = (
      ap (λ b. b && not (is_gt (key_cmp q.key (last_key r.key rows)))) (not_gt r.key q.key low.0) ∙ not_gt q.key (last_key r.key rows) high.0,
      both qs low.1 high.1,
    )

-- The range from a table's first key to its last leaves out none of the table's anchors.
sampled_whole : (rows : List Row) (end most : ℕ) → IsStrictlyOrdered rows → sample_anchors (blocks rows) end most (span_of rows) ≡ sample_anchors (blocks rows) end most all_keys
sampled_whole rows end most ordered =
    let groups = max most 1 in
    let stride = (length (blocks rows) + groups - 1) / groups in
    let Within : List ℕ → Type 0 = λ key. is_in_range (span_of rows) key ≡ true in
    same_filter (λ a. is_in_range (span_of rows) a.key) (λ a. true) (spans end (every stride 0 (blocks rows)))
    (spans_have Within end (every stride 0 (blocks rows)) (every_has Within stride 0 (blocks rows) (blocks_have Within 0 0 rows (keys_within rows ordered))))

-- ---- tables one by one

anchors_of_rows : (view : View) (rows : List Row) → IsOfRows view rows → view_anchors view ≡ sample_anchors (blocks rows) (table_size rows) max_anchors all_keys
anchors_of_rows view rows is =
    ap (λ h. sample_anchors h.blocks h.size max_anchors (record { from = Included h.first_key; to = Included h.last_key })) is.described
    ∙ sampled_whole rows (table_size rows) max_anchors is.ordered

module _ (rows : View → List Row) where
  anchors_same : (views : List View) → AreOfRows rows views
      → flat_map view_anchors views ≡ flat_map (λ table. sample_anchors (blocks table) (table_size table) max_anchors all_keys) (map rows views)
  anchors_same [] are = refl
  anchors_same (view ∷ views) are =
      ap (λ first. first ++ flat_map view_anchors views) (anchors_of_rows view (rows view) are.0)
      ∙ ap (λ rest. sample_anchors (blocks (rows view)) (table_size (rows view)) max_anchors all_keys ++ rest) (anchors_same views are.1)

  greatest_same : (views : List View) → AreOfRows rows views → greatest_view_size views ≡ greatest_size (map rows views)
  greatest_same [] are = refl
  greatest_same (view ∷ views) are =
      ap (λ h. max h.size (greatest_view_size views)) are.0.described
      ∙ ap (max (table_size (rows view))) (greatest_same views are.1)

  pub planned_same : (most : ℕ) (views : List View) → AreOfRows rows views → planned_of most views ≡ planned_ranges most (map rows views)
  unfolding planned_ranges
  planned_same most views are =
      ap (λ anchors. select_boundaries anchors most (greatest_view_size views)) (anchors_same views are)
      ∙ ap (select_boundaries (flat_map (λ table. sample_anchors (blocks table) (table_size table) max_anchors all_keys) (map rows views)) most) (greatest_same views are)

-- If at most one range is asked for, it has all keys, whatever the anchors and the target are.
pub one_range : (anchors others : List Anchor) (most least size : ℕ) → most ≤ 1 → select_boundaries anchors most least ≡ select_boundaries others most size
one_range anchors others most least size few =
    let test : nat_le most 1 ≡ true = grind (arith, common_steps) in
    alone anchors least test ∙ sym (alone others size test)
  where
    alone : (xs : List Anchor) (n : ℕ) → nat_le most 1 ≡ true → select_boundaries xs most n ≡ all_keys ∷ []
    alone xs n test =
        let total = saturated_sum (sum_by (λ (a : Anchor). a.bytes) xs) in
        let target = max (total / most) n in
        ap (λ b. cond (b || target == 0 || nat_le total target) (all_keys ∷ []) (ranges_from Unbounded (cut_anchors most target (anchors_by_key xs)))) test
