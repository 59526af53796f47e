use Rattle.std.proofs.Common.{◌∙◌, sym, ap, subst, map}
use Rattle.fleet_book.specs.Records.{AreRising}
use Rattle.fleet_book.specs.declared.compactions.Compactions.{Compactions}
use Rattle.fleet_worker.proofs.Beaten.{same_id}
use Rattle.fleet_claim.proofs.Lists.{rising_map}
use Rattle.fleet_worker.proofs.beat.beaten_records.Goals as goal

pub from_vec-requires : goal.from_vec-requires
from_vec-requires c =
    subst AreRising (sym (c.in_ok-beaten.ensures.jobs ∙ ap (map _) c.into_vec.ensures.jobs))
    (rising_map _ (same_id c.args.records.now.jobs c.args.worker c.args.moment c.args.attempts.now) _ c.into_vec.ensures.rising)

pub returns-clause-made : goal.returns-clause-made
returns-clause-made c =
    let copy = c.in_ok-compactor_epoch.ensures.copy in
    let new = c.retain_active_and_last_finished.ensures in
    record {
      beaten = c.from_vec.result;
      each = c.from_vec.ensures ∙ (c.in_ok-beaten.ensures.jobs ∙ ap (map _) (c.into_vec.ensures.jobs ∙ ap (λ (r : Compactions). r.jobs) copy));
      kept = ap (λ (r : Compactions). r.jobs) new.kept;
      trim = new.model;
      epoch = ap (λ (r : Compactions). r.compactor_epoch) new.kept ∙ ap (λ (r : Compactions). r.compactor_epoch) copy;
    }
