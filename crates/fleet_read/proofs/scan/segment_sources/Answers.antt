use Rattle.std.proofs.Common.{rules, ◌≡◌, sym, ◌∙◌, subst, Some, None}
use Rattle.std.specs.Option.{option_copied}
use Rattle.std.proofs.lemmas.Result.{IfOk-weaker}
use Rattle.fleet_range.specs.Keys.{range_of}
use Rattle.fleet_read.specs.Sources.{AreScanSources}
use Rattle.fleet_read.proofs.TreeScans.{no_sources, scan_sources}
use Rattle.fleet_read.proofs.scan.segment_sources.Goals as goal

pub returns-in-Some-clause-sources : goal.returns-in-Some-clause-sources
returns-in-Some-clause-sources c = λ merge keeps.
    let store = c.args.store.now.world.store in
    let range = range_of c.args.range.now in
    let some : option_copied c.tree_for_segment.result ≡ Some c.in-Some.tree.now = search rules in
    IfOk-weaker c.tree_sources.result _ _
    (λ sources is. subst (AreScanSources store c.args.segment.now range) (sym is) (scan_sources merge c.manifest.result.now store c.args.segment.now keeps c.manifest.ensures range c.in-Some.tree.now (sym some ∙ c.tree_for_segment.ensures)))
    c.tree_sources.ensures.sources

pub returns-in-None-clause-sources : goal.returns-in-None-clause-sources
returns-in-None-clause-sources c = λ merge keeps.
    let store = c.args.store.now.world.store in
    let range = range_of c.args.range.now in
    let none : option_copied c.tree_for_segment.result ≡ None = search rules in
    subst (AreScanSources store c.args.segment.now range) (sym c.new.ensures) (no_sources merge c.manifest.result.now store c.args.segment.now keeps c.manifest.ensures range (sym none ∙ c.tree_for_segment.ensures))
