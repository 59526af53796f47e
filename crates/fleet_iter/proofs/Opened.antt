-- Entries that a heap holds in boxes, and the heads that they are out of their boxes.
use Rattle.std.proofs.Common.{◌≡◌, ◌∙◌, sym, ap, ℕ, ◌+◌, ◌<◌, List, [], ◌∷◌, ◌++◌, map, length, Some, None, arith, get_or, Bool}
use Rattle.std.specs.Global.{Box}
use Rattle.std.specs.BinaryHeap.{IsHeap, IsUpperBound}
use Rattle.std.specs.List.Sorted.{IsPermutation}
use Rattle.std.specs.Ordering.{is_lt}
use Rattle.std.specs.declared.cmp.Ordering.{Ordering}
use Rattle.std.specs.declared.cmp.Reverse.{Reverse}
use Rattle.std.proofs.Math.ListN.{set}
use Rattle.std.proofs.lemmas.List.{get_or-map, length-map}
use Rattle.std.proofs.lemmas.List.Sorted.{IsPermutation-map}
use Rattle.fleet_iter.specs.declared.iterator.IterationOrder.{IterationOrder}
use Rattle.fleet_iter.specs.declared.entry.MergeIteratorHeapEntry.{MergeIteratorHeapEntry}
use Rattle.fleet_iter.specs.Entry.{entry_cmp}
use Rattle.fleet_iter.specs.Heads.{AreHeads, heads_of}
use Rattle.fleet_iter.specs.Merge.{best}
use Rattle.fleet_iter.proofs.Heaps.{added, exchanged, removed, top_is_best}

-- An entry as the heap holds it: in a box, and in reverse, since the heap gives its greatest.
abbrev pub Boxed : Type 0
Boxed = Reverse (Box MergeIteratorHeapEntry)

-- An entry out of its box.
abbrev pub opened : Boxed → Reverse MergeIteratorHeapEntry
opened e = record { 0 = e.0.value }

-- The order of the heap.
abbrev pub boxed_cmp : Boxed → Boxed → Ordering
boxed_cmp a b = entry_cmp b.0.value a.0.value

abbrev less : Reverse MergeIteratorHeapEntry → Reverse MergeIteratorHeapEntry → Bool
less d e = is_lt (entry_cmp e.0 d.0)

-- Entries are a heap out of their boxes if they are one in them.
pub heap_opened : (es : List Boxed) → IsHeap boxed_cmp es → IsHeap (λ a b. entry_cmp b.0 a.0) (map opened es)
unfolding IsHeap
heap_opened [] heap p k d low from upto end = absurd (omega (arith, end))
heap_opened (e ∷ es) heap p k d low from upto end =
    let count = length-map (e ∷ es) opened in
    let below : k < length (e ∷ es) = omega (arith, end, count) in
    let above : p < length (e ∷ es) = omega (arith, below, from) in
    ap (λ f. less (get_or (map opened (e ∷ es)) p d) f) (get_or-map opened (e ∷ es) k e d below)
    ∙ (ap (λ f. less f (opened (get_or (e ∷ es) k e))) (get_or-map opened (e ∷ es) p e d above) ∙ heap p k e low from upto below)

-- Entries are a heap in their boxes if they are one out of them.
heap_boxed : (es : List Boxed) → IsHeap (λ a b. entry_cmp b.0 a.0) (map opened es) → IsHeap boxed_cmp es
unfolding IsHeap
heap_boxed es heap p k d low from upto end =
    let above : p < length es = omega (arith, end, from) in
    sym (ap (λ f. less (get_or (map opened es) p (opened d)) f) (get_or-map opened es k d (opened d) end)
    ∙ ap (λ f. less f (opened (get_or es k d))) (get_or-map opened es p d (opened d) above))
    ∙ heap p k (opened d) low from upto (let count = length-map es opened in omega (arith, end, count))

-- An entry that is less than none in its box is less than none out of it.
bound_opened : (e : Boxed) (es : List Boxed) → IsUpperBound boxed_cmp e es → IsUpperBound (λ a b. entry_cmp b.0 a.0) (opened e) (map opened es)
bound_opened e [] bound = tt
bound_opened e (d ∷ es) bound = (bound.0, bound_opened e es bound.1)

-- The top of the heap is the least head.
pub boxed_top : (order : IterationOrder) (n : ℕ) (es rest : List Boxed) (e : Boxed) → AreHeads order n (map opened es) → IsPermutation es (e ∷ rest) → (IsHeap boxed_cmp es → IsUpperBound boxed_cmp e es)
    → best order (heads_of n (map opened es)) ≡ Some (e.0.value.index, e.0.value.row)
boxed_top order n es rest e a p bound = top_is_best order n (map opened es) (map opened rest) (opened e) a (IsPermutation-map opened es (e ∷ rest) p) (bound_opened e es (bound (heap_boxed es a.heap)))

-- If an entry of one more source is added, its row is added to the heads.
pub boxed_added : (order : IterationOrder) (n : ℕ) (es fs : List Boxed) (e : Boxed) → AreHeads order n (map opened es) → IsPermutation (e ∷ es) fs → (IsHeap boxed_cmp es → IsHeap boxed_cmp fs) → e.0.value.order ≡ order → e.0.value.index ≡ n
    → AreHeads order (n + 1) (map opened fs) × (heads_of (n + 1) (map opened fs) ≡ heads_of n (map opened es) ++ Some e.0.value.row ∷ [])
boxed_added order n es fs e a p keeps same at = added order n (map opened es) (map opened fs) (opened e) a (IsPermutation-map opened (e ∷ es) fs p) (heap_opened fs (keeps (heap_boxed es a.heap))) same at

-- If an entry is exchanged for one of the same source, the heads stay, except that this source has the
-- new row.
pub boxed_exchanged : (order : IterationOrder) (n : ℕ) (es rest fs : List Boxed) (e d : Boxed) → AreHeads order n (map opened es) → IsPermutation es (e ∷ rest) → IsPermutation (d ∷ rest) fs → (IsHeap boxed_cmp es → IsHeap boxed_cmp fs)
    → d.0.value.index ≡ e.0.value.index → d.0.value.order ≡ e.0.value.order
    → AreHeads order n (map opened fs) × (heads_of n (map opened fs) ≡ set (heads_of n (map opened es)) e.0.value.index (Some d.0.value.row))
boxed_exchanged order n es rest fs e d a p q keeps at same =
    exchanged order n (map opened es) (map opened rest) (map opened fs) (opened e) (opened d) a (IsPermutation-map opened es (e ∷ rest) p) (IsPermutation-map opened (d ∷ rest) fs q) (heap_opened fs (keeps (heap_boxed es a.heap))) at same

-- If an entry is removed, the heads stay, except that its source has none.
pub boxed_removed : (order : IterationOrder) (n : ℕ) (es fs : List Boxed) (e : Boxed) → AreHeads order n (map opened es) → IsPermutation es (e ∷ fs) → (IsHeap boxed_cmp es → IsHeap boxed_cmp fs)
    → AreHeads order n (map opened fs) × (heads_of n (map opened fs) ≡ set (heads_of n (map opened es)) e.0.value.index None)
boxed_removed order n es fs e a p keeps = removed order n (map opened es) (map opened fs) (opened e) a (IsPermutation-map opened es (e ∷ fs) p) (heap_opened fs (keeps (heap_boxed es a.heap)))
