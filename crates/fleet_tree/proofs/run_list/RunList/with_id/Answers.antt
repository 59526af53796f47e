use Rattle.std.proofs.Common.{◌∙◌, sym, ap}
use Rattle.std.specs.Prelude.{◌==◌, slice_get}
use Rattle.std.proofs.lemmas.List.Folds.{find_at}
use Rattle.fleet_tree.specs.declared.run.SortedRun.{SortedRun}
use Rattle.fleet_tree.proofs.run_list.RunList.with_id.Goals as goal

pub returns : goal.returns
returns c =
    c.get.ensures
    ∙ ap (slice_get c.args.self.now) c.place_of.ensures.place
    ∙ sym (find_at (λ (run : SortedRun). run.id == c.args.id) c.args.self.now)
