use Rattle.std.proofs.Common.{◌∙◌}
use Rattle.std.specs.Prelude.{map}
use Rattle.fleet_iter.proofs.Counts.{all_taken, head_begins}
use Rattle.fleet_iter.proofs.merge.MergeIterator.begins_with.Goals as goal

pub returns : goal.returns
returns g c =
    let m = c.args.self.now in
    let ss = map g.T.RowEntryIterator.state m.sources.items in
    c.least_has.ensures
    ∙ head_begins m.heads.order m.dedup c.args.key.now m.heads.rows ss (all_taken m.failure m.initialised m.heads.rows ss c.requires.alive c.requires.initialised c.requires.sound.1)
