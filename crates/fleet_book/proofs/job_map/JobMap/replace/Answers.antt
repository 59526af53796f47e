use Rattle.fleet_book.proofs.Records.{is_replaced, place_fits}
use Rattle.fleet_book.proofs.job_map.JobMap.replace.Goals as goal

pub replace-requires : goal.replace-requires
replace-requires c =
    place_fits c.id.result _ _ _ c.self.view_is c.self.invariant c.place_of-place.ensures _ c.id.ensures c.requires

pub invariant_of-self : goal.invariant_of-self
invariant_of-self c =
    (is_replaced c.id.result _ _ _ c.self.view_is c.self.invariant c.place_of-place.ensures c.args.job _ c.id.ensures c.requires c.replace.ensures).0

pub returns : goal.returns
returns c =
    (is_replaced c.id.result _ _ _ c.self.view_is c.self.invariant c.place_of-place.ensures c.args.job _ c.id.ensures c.requires c.replace.ensures).1
