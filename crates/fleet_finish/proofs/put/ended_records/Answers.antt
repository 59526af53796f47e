use Rattle.std.proofs.Common.{◌∙◌, sym, ap, subst, map}
use Rattle.fleet_book.specs.Records.{AreRising}
use Rattle.fleet_book.specs.declared.compactions.Compactions.{Compactions}
use Rattle.fleet_finish.specs.Puts.{ended_record}
use Rattle.fleet_finish.proofs.Puts.{ends_records, still_rising}
use Rattle.fleet_finish.proofs.put.ended_records.Goals as goal

pub from_vec-requires : goal.from_vec-requires
from_vec-requires c =
    let change = ended_record c.args.attempt.now c.args.outputs.now in
    subst AreRising (sym (c.in_ok-ended.ensures.jobs ∙ ap (map change) c.into_vec.ensures.jobs)) (still_rising c.args.attempt.now c.args.outputs.now _ c.into_vec.ensures.rising)

pub returns-clause-made : goal.returns-clause-made
returns-clause-made c =
    let change = ended_record c.args.attempt.now c.args.outputs.now in
    let copy = c.in_ok-compactor_epoch.ensures.copy in
    let new = c.retain_active_and_last_finished.ensures in
    ends_records c.args.attempt.now c.args.outputs.now c.args.records.now c.retain_active_and_last_finished.new.self c.from_vec.result
    (c.from_vec.ensures ∙ (c.in_ok-ended.ensures.jobs ∙ ap (map change) (c.into_vec.ensures.jobs ∙ ap (λ (r : Compactions). r.jobs) copy)))
    (ap (λ (r : Compactions). r.compactor_epoch) new.kept ∙ ap (λ (r : Compactions). r.compactor_epoch) copy) (ap (λ (r : Compactions). r.jobs) new.kept) new.model
