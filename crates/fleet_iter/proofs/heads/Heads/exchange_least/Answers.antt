use Rattle.std.proofs.Common.{◌≡◌, ◌∙◌, ◌+◌, ◌≤◌, ap, subst, map, Some, None, arith, rules, heap_items}
use Rattle.std.specs.Option.{IfNone}
use Rattle.std.proofs.Math.ListN.{set}
use Rattle.fleet_rows.specs.declared.row.RowEntry.{RowEntry}
use Rattle.fleet_iter.specs.declared.entry.MergeIteratorHeapEntry.{MergeIteratorHeapEntry}
use Rattle.fleet_iter.specs.Heads.{AreHeads, heads_of}
use Rattle.fleet_iter.specs.Merge.{best}
use Rattle.fleet_iter.proofs.Opened.{opened, boxed_exchanged, boxed_top}
use Rattle.fleet_iter.proofs.Heaps.{taken_row, none_taken, refilled_rows, refilled_none, none_is_best, nil_of}
use Rattle.fleet_iter.proofs.heads.Heads.exchange_least.Goals as goal

nothing : (c : goal.After-self-in_default-1) → best c.self.inside.order (heads_of c.self.inside.count (map opened c.self.inside.entries.data.items)) ≡ None
nothing c =
    none_is_best c.self.inside.order c.self.inside.count _
    (ap (map opened) (nil_of _ (λ lt. let count = c.self.inside.entries.data.ok.0 in let none = c.in_default.ensures.variant.1 (omega (arith, count, lt)) in absurd (cc none))))

least : (c : goal.After-self-2-1) → best c.self.inside.order (heads_of c.self.inside.count (map opened c.self.inside.entries.data.items)) ≡ Some (c.in-Some.least.top.0.value.index, c.in-Some.least.top.0.value.row)
least c = boxed_top c.self.inside.order c.self.inside.count c.self.inside.entries.data.items _ c.in-Some.least.top c.self.invariant c.in-Some.ensures.permutation c.in-Some.ensures.greatest

-- The heads after the row has come in the place of the least one.
moved : (c : goal.After-self-2-1)
    → AreHeads c.self.inside.order c.self.inside.count (map opened (heap_items c.drop-least.new.self.0)) × (heads_of c.self.inside.count (map opened (heap_items c.drop-least.new.self.0)) ≡ set (heads_of c.self.inside.count (map opened c.self.inside.entries.data.items)) c.in-Some.least.top.0.value.index (Some c.swap.new.x))
moved c =
    let count = c.in-Some.ensures.len in
    let capacity = c.in-Some.ensures.capacity in
    let before = c.self.inside.entries.data.ok.1 in
    let room : c.in-Some.least.heap.now.data.len + 1 ≤ c.in-Some.least.heap.now.data.cap = omega (arith, count, capacity, before) in
    boxed_exchanged c.self.inside.order c.self.inside.count c.self.inside.entries.data.items _ (heap_items c.drop-least.new.self.0) c.in-Some.least.top _ c.self.invariant c.in-Some.ensures.permutation (c.drop-least.ensures.permutation room)
    (λ heap. c.drop-least.ensures.heap_order room (c.in-Some.ensures.heap_order heap))
    (ap (λ (e : MergeIteratorHeapEntry). e.index) c.deref_mut-2.ensures.value ∙ ap (λ e. e.0.value.index) c.deref_mut.ensures.value)
    (ap (λ (e : MergeIteratorHeapEntry). e.order) c.deref_mut-2.ensures.value ∙ ap (λ e. e.0.value.order) c.deref_mut.ensures.value)

pub returns-in_default-clause-taken : goal.returns-in_default-clause-taken
returns-in_default-clause-taken c = none_taken _ _ c.self.view_is (nothing c)

pub returns-in_default-clause-heads : goal.returns-in_default-clause-heads
returns-in_default-clause-heads c =
    let kept = subst (λ o. IfNone o (c.peek_mut.follows.lender-at-none ≡ c.self.inside.entries)) c.in_default.is c.peek_mut.follows.holds-at-none in
    ap (λ h. record { order = c.self.inside.order; rows = heads_of c.self.inside.count (map opened (heap_items h)) }) kept ∙ refilled_none _ _ (Some c.args.row.now) c.self.view_is (nothing c)

pub invariant_of-self-2 : goal.invariant_of-self-2
invariant_of-self-2 c = let heads = (moved c).0 in search rules

pub returns-clause-taken : goal.returns-clause-taken
returns-clause-taken c = ap (λ (w : RowEntry). Some w) (c.swap.ensures.y_after ∙ (ap (λ (e : MergeIteratorHeapEntry). e.row) c.deref_mut-2.ensures.value ∙ ap (λ e. e.0.value.row) c.deref_mut.ensures.value)) ∙ taken_row _ _ _ _ c.self.view_is (least c)

pub returns-clause-heads : goal.returns-clause-heads
returns-clause-heads c =
    let was = heads_of c.self.inside.count (map opened c.self.inside.entries.data.items) in
    let heads = refilled_rows _ _ _ _ (Some c.args.row.now) _ c.self.view_is (least c) ((moved c).1 ∙ ap (λ (w : RowEntry). set was c.in-Some.least.top.0.value.index (Some w)) c.swap.ensures.x_after) in
    search rules
