use Rattle.fleet_coordinator.proofs.NewJobs.{zip_on}
use Rattle.fleet_coordinator.proofs.submission.with_ids.Goals as goal

pub places-preserved : goal.places-preserved
places-preserved c =
    zip_on c.args.ids.now c.args.specs.now c.places.place c.index-ids-place.result c.index-specs-place.result c.in_ok-clone.field-0 c.places.named.items c.push.new.self.items c.requires c.places-test.true
    c.index-ids-place.is c.index-specs-place.is c.in_ok-clone.ensures.copy c.places.invariant c.in_ok-push.ensures.items
