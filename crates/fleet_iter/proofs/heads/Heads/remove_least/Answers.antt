use Rattle.std.proofs.Common.{◌≡◌, ◌∙◌, ap, map, Some, None, arith}
use Rattle.fleet_iter.specs.declared.entry.MergeIteratorHeapEntry.{MergeIteratorHeapEntry}
use Rattle.fleet_iter.specs.Heads.{heads_of}
use Rattle.fleet_iter.specs.Merge.{best}
use Rattle.fleet_iter.proofs.Opened.{opened, boxed_removed, boxed_top}
use Rattle.fleet_iter.proofs.Heaps.{taken_row, none_taken, refilled_rows, refilled_none, none_is_best, nil_of}
use Rattle.fleet_iter.proofs.heads.Heads.remove_least.Goals as goal

nothing : (c : goal.In_default) → best c.self.inside.order (heads_of c.self.inside.count (map opened c.self.inside.entries.data.items)) ≡ None
nothing c = none_is_best c.self.inside.order c.self.inside.count _ (ap (map opened) (nil_of _ (λ lt. let count = c.self.inside.entries.data.ok.0 in let none = c.in_default.ensures.none in absurd (omega (arith, count, lt, none)))))

pub returns-in_default-clause-taken : goal.returns-in_default-clause-taken
returns-in_default-clause-taken c = none_taken _ _ c.self.view_is (nothing c)

pub returns-in_default-clause-heads : goal.returns-in_default-clause-heads
returns-in_default-clause-heads c = ap (λ es. record { order = c.self.inside.order; rows = heads_of c.self.inside.count (map opened es) }) c.in_default.ensures.unchanged.0 ∙ refilled_none _ _ None c.self.view_is (nothing c)

pub invariant_of-self-2 : goal.invariant_of-self-2
invariant_of-self-2 c = (boxed_removed c.self.inside.order c.self.inside.count c.self.inside.entries.data.items _ c.in-Some.field-0 c.self.invariant c.in-Some.ensures.permutation (λ heap. (c.in-Some.ensures.heap_order heap).0)).0

pub returns-clause-taken : goal.returns-clause-taken
returns-clause-taken c =
    let least = boxed_top c.self.inside.order c.self.inside.count c.self.inside.entries.data.items _ c.in-Some.field-0 c.self.invariant c.in-Some.ensures.permutation (λ heap. (c.in-Some.ensures.heap_order heap).1) in
    ap (λ (e : MergeIteratorHeapEntry). Some e.row) c.into_inner.ensures ∙ taken_row _ _ _ _ c.self.view_is least

pub returns-clause-heads : goal.returns-clause-heads
returns-clause-heads c =
    let least = boxed_top c.self.inside.order c.self.inside.count c.self.inside.entries.data.items _ c.in-Some.field-0 c.self.invariant c.in-Some.ensures.permutation (λ heap. (c.in-Some.ensures.heap_order heap).1) in
    refilled_rows _ _ _ _ None _ c.self.view_is least
    (boxed_removed c.self.inside.order c.self.inside.count c.self.inside.entries.data.items _ c.in-Some.field-0 c.self.invariant c.in-Some.ensures.permutation (λ heap. (c.in-Some.ensures.heap_order heap).0)).1
