use Rattle.std.proofs.Common.{◌∙◌, ap}
use Rattle.fleet_jobs.specs.Contexts.{settings_in}
use Rattle.fleet_jobs.proofs.Continued.{more}
use Rattle.fleet_jobs.proofs.context.CompactionContext.set_output_ssts.Goals as goal

pub returns-clause-continued : goal.returns-clause-continued
returns-clause-continued c =
    let same = c.into_vec-ranges.ensures ∙ c.take.ensures.all ∙ ap (λ v. v.ranges) c.self.view_is in
    record {
      settings = ap settings_in c.self.view_is;
      ranges = more c.args.self.now.ranges _ _ c.args.output_ssts c.args.subcompaction _ _ same c.requires.there c.index_mut.ensures.value c.set_output_ssts.ensures c.from_vec.ensures c.requires.longer;
    }
