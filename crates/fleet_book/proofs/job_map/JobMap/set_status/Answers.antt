use Rattle.std.proofs.Common.{refl}
use Rattle.fleet_jobs.specs.Jobs.{with_status}
use Rattle.fleet_book.proofs.Records.{is_changed, place_fits}
use Rattle.fleet_book.proofs.job_map.JobMap.set_status.Goals as goal

pub set_status_at-requires : goal.set_status_at-requires
set_status_at-requires c =
    place_fits c.args.id.now _ _ _ c.self.view_is c.self.invariant c.place_of-place.ensures c.args.id.now refl c.requires

pub invariant_of-self : goal.invariant_of-self
invariant_of-self c =
    (is_changed c.args.id.now _ _ _ c.self.view_is c.self.invariant c.place_of-place.ensures (with_status c.args.status) _ (λ job. refl) c.requires c.set_status_at.ensures).0

pub returns : goal.returns
returns c =
    (is_changed c.args.id.now _ _ _ c.self.view_is c.self.invariant c.place_of-place.ensures (with_status c.args.status) _ (λ job. refl) c.requires c.set_status_at.ensures).1
