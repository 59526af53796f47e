use Rattle.std.proofs.Common.{map}
use Rattle.std.proofs.lemmas.List.Elements.{filter_map-append}
use Rattle.fleet_jobs.specs.Specs.{spec_of}
use Rattle.std.specs.List.{filter_map}
use Rattle.fleet_sched.specs.Full.{full_spec_in}
use Rattle.fleet_sched.proofs.Lists.{gather_more}
use Rattle.fleet_sched.proofs.defaults.add_segments.Goals as goal

pub segments-preserved : goal.segments-preserved
segments-preserved c =
    gather_more (filter_map full_spec_in) (record { joins = filter_map-append full_spec_in })
    c.args.segments.now c.segments.segment-index c.segment-item.result c.segments-test.true c.segment-item.is
    (map spec_of c.args.specs.now.items) (map spec_of c.segments.specs.items) (map spec_of c.add_full.new.specs.items)
    c.segments.invariant c.in_ok-add_full.ensures
