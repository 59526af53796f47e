-- The order of the entries of a merge.
use Rattle.std.specs.Prelude.{◌≡◌, ℕ, List, refl}
use Rattle.std.specs.declared.cmp.Ordering.{Ordering}
use Rattle.std.specs.declared.cmp.Ordering.TheVariants.{Less, Equal, Greater}
use Rattle.std.specs.Ordering.{nat_cmp, ordering_then, ordering_reverse}
use Rattle.std.specs.Cmp.{IsTotalOrder, nat_cmp_total, on_total, then_total, back_total}
use Rattle.std.proofs.lemmas.Cmp.{nat_list_cmp_total}
use Rattle.fleet_iter.specs.declared.iterator.IterationOrder.{IterationOrder}
use Rattle.fleet_iter.specs.declared.iterator.IterationOrder.TheVariants.{Ascending, Descending}
use Rattle.fleet_iter.specs.declared.entry.MergeIteratorHeapEntry.{MergeIteratorHeapEntry}
use Rattle.fleet_iter.specs.Merge.{keys_in}

-- The order of iteration orders: Ascending is less than Descending.
abbrev pub order_cmp : (a b : IterationOrder) → Ordering
order_cmp Ascending Ascending = Equal
order_cmp Ascending Descending = Less
order_cmp Descending Ascending = Greater
order_cmp Descending Descending = Equal

-- Keys are compared by their iteration order, and keys of one iteration order are compared in it.
abbrev pub key_cmp_in : (a b : IterationOrder × List ℕ) → Ordering
key_cmp_in a b = ordering_then (order_cmp a.0 b.0) (keys_in a.0 a.1 b.1)

-- Entries are compared by iteration order, by key in it, by falling sequence, and then by the place of their
-- source.
abbrev pub entry_cmp : (a b : MergeIteratorHeapEntry) → Ordering
entry_cmp a b = ordering_then (key_cmp_in (a.order, a.row.key) (b.order, b.row.key))
    (ordering_then (nat_cmp b.row.seq a.row.seq) (nat_cmp a.index b.index))

-- ---- the order of entries is total

pub keys_total : (order : IterationOrder) → IsTotalOrder (keys_in order)
keys_total Ascending = nat_list_cmp_total
keys_total Descending = back_total nat_list_cmp_total

key_total : IsTotalOrder key_cmp_in
key_total = record { antisymm = antisymm; trans = trans; congr = congr }
  where
    antisymm : (a b : IterationOrder × List ℕ) → key_cmp_in a b ≡ ordering_reverse (key_cmp_in b a)
    antisymm (Ascending, k) (Ascending, l) = (keys_total Ascending).antisymm k l
    antisymm (Ascending, k) (Descending, l) = refl
    antisymm (Descending, k) (Ascending, l) = refl
    antisymm (Descending, k) (Descending, l) = (keys_total Descending).antisymm k l

    trans : (a b c : IterationOrder × List ℕ) → key_cmp_in a b ≡ Less → key_cmp_in b c ≡ Less → key_cmp_in a c ≡ Less
    trans (Ascending, k) (Ascending, l) (Ascending, m) h g = (keys_total Ascending).trans k l m h g
    trans (Ascending, k) (Ascending, l) (Descending, m) h g = refl
    trans (Ascending, k) (Descending, l) (Ascending, m) h g = absurd (cc g)
    trans (Ascending, k) (Descending, l) (Descending, m) h g = refl
    trans (Descending, k) (Ascending, l) c h g = absurd (cc h)
    trans (Descending, k) (Descending, l) (Ascending, m) h g = absurd (cc g)
    trans (Descending, k) (Descending, l) (Descending, m) h g = (keys_total Descending).trans k l m h g

    congr : (a b c : IterationOrder × List ℕ) → key_cmp_in a b ≡ Equal → key_cmp_in a c ≡ key_cmp_in b c
    congr (Ascending, k) (Ascending, l) (Ascending, m) h = (keys_total Ascending).congr k l m h
    congr (Ascending, k) (Ascending, l) (Descending, m) h = refl
    congr (Ascending, k) (Descending, l) c h = absurd (cc h)
    congr (Descending, k) (Ascending, l) c h = absurd (cc h)
    congr (Descending, k) (Descending, l) (Ascending, m) h = refl
    congr (Descending, k) (Descending, l) (Descending, m) h = (keys_total Descending).congr k l m h

pub entry_total : IsTotalOrder entry_cmp
entry_total =
    then_total (on_total (λ (e : MergeIteratorHeapEntry). (e.order, e.row.key)) key_total)
    (then_total (back_total (on_total (λ (e : MergeIteratorHeapEntry). e.row.seq) nat_cmp_total))
    (on_total (λ (e : MergeIteratorHeapEntry). e.index) nat_cmp_total))
