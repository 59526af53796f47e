use Rattle.std.proofs.Common.{◌∙◌, sym, ap, subst}
use Rattle.std.specs.Prelude.{map}
use Rattle.fleet_book.specs.Records.{AreRising}
use Rattle.fleet_book.specs.declared.compactions.Compactions.{Compactions}
use Rattle.fleet_worker.specs.Releases.{given_back}
use Rattle.fleet_worker.proofs.GivenBack.{makes_records, still_rising}
use Rattle.fleet_worker.proofs.release.released.Goals as goal

pub from_vec-requires : goal.from_vec-requires
from_vec-requires c =
    subst AreRising (sym (c.in_ok-all_given_back.ensures.jobs ∙ ap (map (given_back c.args.attempts.now)) c.into_vec.ensures.jobs)) (still_rising c.args.attempts.now _ c.into_vec.ensures.rising)

pub returns-clause-made : goal.returns-clause-made
returns-clause-made c =
    let copy = c.in_ok-compactor_epoch.ensures.copy in
    let new = c.retain_active_and_last_finished.ensures in
    makes_records c.args.attempts.now c.args.worker c.args.records.now c.retain_active_and_last_finished.new.self c.from_vec.result
    (c.from_vec.ensures ∙ (c.in_ok-all_given_back.ensures.jobs ∙ ap (map (given_back c.args.attempts.now)) (c.into_vec.ensures.jobs ∙ ap (λ (r : Compactions). r.jobs) copy)))
    (ap (λ (r : Compactions). r.compactor_epoch) new.kept ∙ ap (λ (r : Compactions). r.compactor_epoch) copy) (ap (λ (r : Compactions). r.jobs) new.kept) new.model
