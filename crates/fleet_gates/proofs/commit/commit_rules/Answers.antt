use Rattle.std.proofs.Common.{◌∙◌, sym, ap, ◌∷◌, [], map, Bool, true, ℕ, List}
use Rattle.std.specs.List.{list_all}
use Rattle.fleet_model.specs.Jobs.{ids_eq}
use Rattle.fleet_model.specs.Nodes.{Trees, names, names_contain, tree_at}
use Rattle.fleet_model.specs.Trees.{tables_now}
use Rattle.fleet_tree.specs.Trees.{trees_of}
use Rattle.fleet_jobs.specs.Parts.JobParts.{JobParts}
use Rattle.fleet_jobs.specs.Sources.{name_of}
use Rattle.fleet_jobs.specs.Specs.{segment_of, sources_of, spec_of}
use Rattle.fleet_jobs.specs.declared.spec.CompactionSpec.{CompactionSpec}
use Rattle.fleet_gates.proofs.FirstRules.{fails_here, passes_here}
use Rattle.fleet_gates.proofs.commit.commit_rules.Goals as goal

abbrev are_there : Trees → CompactionSpec → Bool
are_there trees spec = list_all (names_contain (names (tree_at (segment_of spec) trees))) (map name_of (sources_of spec))

abbrev have_tables : Trees → JobParts → Bool
have_tables trees job = ids_eq (tables_now trees (spec_of job.spec)) job.source_tables

abbrev later : Trees → JobParts → List (ℕ × Bool)
later trees job = (10, have_tables trees job) ∷ (0, true) ∷ []

pub returns-then-not-branch : goal.returns-then-not-branch
returns-then-not-branch c = λ flushes.
    let trees = trees_of flushes c.args.core.now in
    let there = c.in_ok-has_sources.ensures flushes ∙ ap (are_there trees) c.spec.ensures in
    fails_here 4 (are_there trees c.args.job.now.spec) (later trees c.args.job.now) (sym there ∙ c.if-not-branch.true)

pub returns-then-not-branch-2 : goal.returns-then-not-branch-2
returns-then-not-branch-2 c = λ flushes.
    let trees = trees_of flushes c.args.core.now in
    let there = c.in_ok-has_sources.ensures flushes ∙ ap (are_there trees) c.spec.ensures in
    fails_here 10 (have_tables trees c.args.job.now) ((0, true) ∷ []) (sym (c.in_ok-has_kept_tables.ensures flushes) ∙ c.if-not-branch-2.true)
    ∙ passes_here 4 (are_there trees c.args.job.now.spec) (later trees c.args.job.now) (sym there ∙ c.if-not-branch.false)

pub returns : goal.returns
returns c = λ flushes.
    let trees = trees_of flushes c.args.core.now in
    let there = c.in_ok-has_sources.ensures flushes ∙ ap (are_there trees) c.spec.ensures in
    passes_here 10 (have_tables trees c.args.job.now) ((0, true) ∷ []) (sym (c.in_ok-has_kept_tables.ensures flushes) ∙ c.if-not-branch-2.false)
    ∙ passes_here 4 (are_there trees c.args.job.now.spec) (later trees c.args.job.now) (sym there ∙ c.if-not-branch.false)
