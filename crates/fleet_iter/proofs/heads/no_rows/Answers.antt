use Rattle.std.proofs.Common.{sym, None, zero-add}
use Rattle.std.proofs.lemmas.List.FromFn.{map-range_with_len_more}
use Rattle.fleet_iter.proofs.heads.no_rows.Goals as goal

pub places-preserved : goal.places-preserved
places-preserved c = rw (c.in_ok-push.ensures.items, c.places.invariant) (sym (map-range_with_len_more (λ _. None) 0 c.places._place c.places._place (zero-add c.places._place)))
