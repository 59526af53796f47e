use Rattle.std.proofs.Common.{sym, subst, ◌∙◌, ap}
use Rattle.std.specs.Prelude.{filter}
use Rattle.fleet_jobs.specs.Jobs.{is_open}
use Rattle.fleet_book.specs.Records.{AreRising}
use Rattle.fleet_book.proofs.Records.{rising_filter}
use Rattle.fleet_book.proofs.job_map.JobMap.active.Goals as goal

pub invariant_of-result : goal.invariant_of-result
invariant_of-result c =
    let open_ones = c.from_vec.ensures ∙ c.in_ok-copies.ensures ∙ ap (filter is_open) c.as_slice.ensures in
    subst AreRising (sym open_ones) (rising_filter is_open c.self.inside.jobs c.self.invariant)
