use Rattle.std.proofs.Common.{◌≡◌, ◌∙◌, ◌++◌, ◌∷◌, ◌+◌, sym, ap, subst, map, length, [], List, Some, arith}
use Rattle.std.specs.Prelude.{Option}
use Rattle.fleet_rows.specs.declared.row.RowEntry.{RowEntry}
use Rattle.fleet_iter.specs.declared.entry.MergeIteratorHeapEntry.{MergeIteratorHeapEntry}
use Rattle.fleet_iter.specs.Heads.{HeadRows, AreHeads, heads_of}
use Rattle.fleet_iter.proofs.Opened.{Boxed, opened, boxed_added}
use Rattle.fleet_iter.proofs.Heaps.{added_none, heads_count, viewed}
use Rattle.fleet_iter.proofs.heads.Heads.push.Goals as goal

pub overflow_add-self : goal.overflow_add-self
overflow_add-self c =
    let count = heads_count c.self.inside.count (map opened c.self.inside.entries.data.items) in
    let same : length c.args.self.now.rows ≡ c.self.inside.count = ap (λ (h : HeadRows). length h.rows) (sym c.self.view_is) ∙ count in
    let room = c.requires in
    omega (arith, same, room)

pub invariant_of-self : goal.invariant_of-self
invariant_of-self c = (added_none _ _ _ c.self.invariant).0

pub returns-in_default-clause-ok : goal.returns-in_default-clause-ok
returns-in_default-clause-ok c =
    viewed (λ h. h.rows ++ c.args.head ∷ []) _ _ _ c.self.view_is
    ((added_none _ _ _ c.self.invariant).1 ∙ ap (λ (w : Option RowEntry). heads_of c.self.inside.count (map opened c.self.inside.entries.data.items) ++ w ∷ []) (sym c.in_default.is))

pub invariant_of-self-in_err-push : goal.invariant_of-self-in_err-push
invariant_of-self-in_err-push c = subst (λ (es : List Boxed). AreHeads c.self.inside.order (c.self.inside.count + 1) (map opened es)) (sym c.in_err-push.ensures.unchanged.0) (added_none _ _ _ c.self.invariant).0

pub invariant_of-self-2 : goal.invariant_of-self-2
invariant_of-self-2 c =
    (boxed_added c.self.inside.order c.self.inside.count c.self.inside.entries.data.items _ (record { 0 = c.in_ok-entry.entry }) c.self.invariant c.in_ok-push.ensures.permutation c.in_ok-push.ensures.heap_order
    (ap (λ (e : MergeIteratorHeapEntry). e.order) c.in_ok-entry.ensures.ok) (ap (λ (e : MergeIteratorHeapEntry). e.index) c.in_ok-entry.ensures.ok)).0

pub returns-clause-ok : goal.returns-clause-ok
returns-clause-ok c =
    let was = heads_of c.self.inside.count (map opened c.self.inside.entries.data.items) in
    let more =
    boxed_added c.self.inside.order c.self.inside.count c.self.inside.entries.data.items _ (record { 0 = c.in_ok-entry.entry }) c.self.invariant c.in_ok-push.ensures.permutation c.in_ok-push.ensures.heap_order
    (ap (λ (e : MergeIteratorHeapEntry). e.order) c.in_ok-entry.ensures.ok) (ap (λ (e : MergeIteratorHeapEntry). e.index) c.in_ok-entry.ensures.ok) in
    viewed (λ h. h.rows ++ c.args.head ∷ []) _ _ _ c.self.view_is
    (more.1 ∙ ap (λ (w : Option RowEntry). was ++ w ∷ []) (ap (λ (e : MergeIteratorHeapEntry). Some e.row) c.in_ok-entry.ensures.ok ∙ sym c.in-Some.is))
