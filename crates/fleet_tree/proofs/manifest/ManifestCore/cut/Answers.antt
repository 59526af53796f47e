use Rattle.std.proofs.Common.{◌∙◌}
use Rattle.fleet_tree.proofs.Tracking.{cut_at_some}
use Rattle.fleet_tree.proofs.manifest.ManifestCore.cut.Goals as goal

pub returns-else-retention_ms-eq0 : goal.returns-else-retention_ms-eq0
returns-else-retention_ms-eq0 c =
    let core = c.args.self.now in
    c.cut_before.ensures
    ∙ cut_at_some c.args.moment c.args.retention_ms core.recent_snapshot_min_seq core.tracker c.as_slice.result.now c.if-retention_ms-eq0.false c.as_slice.ensures
