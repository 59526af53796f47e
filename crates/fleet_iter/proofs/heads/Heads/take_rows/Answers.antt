use Rattle.std.proofs.Common.{◌∙◌, sym, ap, map, length, arith, Some, None, get_or, heap_items}
use Rattle.std.specs.Option.{option_or}
use Rattle.std.proofs.lemmas.List.FromFn.{length-map-range_with_len}
use Rattle.std.proofs.lemmas.List.Sorted.{IsPermutation-map}
use Rattle.std.proofs.Math.ListN.{set, length-set}
use Rattle.fleet_iter.specs.declared.entry.MergeIteratorHeapEntry.{MergeIteratorHeapEntry}
use Rattle.fleet_iter.specs.Heads.{HeadRows}
use Rattle.fleet_iter.proofs.Opened.{opened, boxed_removed}
use Rattle.fleet_iter.proofs.Heaps.{heads_count, row_at, none_out, one_out, all_out, nil_of}
use Rattle.fleet_iter.proofs.heads.Heads.take_rows.Goals as goal

pub entries-init : goal.entries-init
entries-init c =
    let n = c.self.inside.count in
    record {
      heads = c.self.invariant;
      order = ap (λ (h : HeadRows). h.order) c.self.view_is;
      count = ap length c.in_ok-rows.ensures.ok ∙ length-map-range_with_len (λ _. None) 0 n;
      same_count = ap (λ (h : HeadRows). length h.rows) (sym c.self.view_is) ∙ heads_count n (map opened (heap_items c.self.inside.entries));
      all = none_out c.self.inside.order n _ _ _ c.self.view_is c.in_ok-rows.ensures.ok;
    }

pub entries-preserved : goal.entries-preserved
entries-preserved c =
    let n = c.entries.self-inside.count in
    let items = heap_items c.entries.self-inside.entries in
    let permutation = IsPermutation-map opened items _ c.in-Some.ensures.permutation in
    let e = opened c.in-Some.field-0 in
    let i = c.entries.invariant in
    let out = one_out c.entries.self-inside.order n _ _ e c.entries.rows.items c.args.self.now.rows i.heads permutation i.count i.all in
    record {
      heads = (boxed_removed c.entries.self-inside.order n items _ c.in-Some.field-0 i.heads c.in-Some.ensures.permutation (λ heap. (c.in-Some.ensures.heap_order heap).0)).0;
      order = i.order;
      count = ap length c.put_in_place.ensures ∙ (length-set c.entries.rows.items c.into_inner.result.index (Some c.into_inner.result.row) ∙ i.count);
      same_count = i.same_count;
      all = λ place lt.
          ap (λ w. option_or (row_at (map opened (heap_items c.pop.new.self)) place) (get_or w place None)) (c.put_in_place.ensures ∙ ap (λ (e : MergeIteratorHeapEntry). set c.entries.rows.items e.index (Some e.row)) c.into_inner.ensures)
          ∙ out place lt;
    }

pub returns-clause-ok : goal.returns-clause-ok
returns-clause-ok c =
    let i = c.entries.invariant in
    let left = c.entries.self-inside.entries.data.ok.0 in
    let none = c.in_default.ensures.none in
    all_out c.entries.self-inside.count _ c.entries.rows.items c.args.self.now.rows (ap (map opened) (nil_of (heap_items c.entries.self-inside.entries) (λ lt. absurd (omega (arith, left, none, lt))))) i.count i.same_count i.all
