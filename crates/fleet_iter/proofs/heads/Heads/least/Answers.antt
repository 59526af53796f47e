use Rattle.std.proofs.Common.{◌∙◌, sym, ap, map, Some, arith, refl}
use Rattle.fleet_iter.specs.declared.entry.MergeIteratorHeapEntry.{MergeIteratorHeapEntry}
use Rattle.fleet_iter.specs.Heads.{HeadRows}
use Rattle.fleet_iter.specs.Merge.{best}
use Rattle.fleet_iter.proofs.Opened.{opened, boxed_top}
use Rattle.fleet_iter.proofs.Heaps.{none_is_best, at_front, nil_of}
use Rattle.fleet_iter.proofs.heads.Heads.least.Goals as goal

pub returns-in-Some : goal.returns-in-Some
returns-in-Some c =
    let items = c.self.inside.entries.data.items in
    let front = at_front items c.in-Some.field-0.now (let count = c.self.inside.entries.data.ok.0 in let some = c.in-Some.ensures.variant.0 refl in omega (arith, count, some)) c.in-Some.ensures.lookup in
    ap (λ (e : MergeIteratorHeapEntry). Some (e.index, c.deref-in-Some.result.now.row)) c.deref.ensures
    ∙ (ap (λ (e : MergeIteratorHeapEntry). Some (c.in-Some.field-0.now.0.value.index, e.row)) c.deref-in-Some.ensures
    ∙ (sym (boxed_top c.self.inside.order c.self.inside.count items front.0 c.in-Some.field-0.now c.self.invariant front.1 c.in-Some.ensures.greatest) ∙ ap (λ (h : HeadRows). best h.order h.rows) c.self.view_is))

pub returns-in-None : goal.returns-in-None
returns-in-None c =
    sym (none_is_best c.self.inside.order c.self.inside.count _ (ap (map opened) (nil_of _ (λ lt. let count = c.self.inside.entries.data.ok.0 in let some = c.in-None.ensures.variant.1 (omega (arith, count, lt)) in absurd (cc some)))))
    ∙ ap (λ (h : HeadRows). best h.order h.rows) c.self.view_is
