use Rattle.std.proofs.Common.{◌∙◌, sym, ap, ◌&&◌}
use Rattle.std.specs.Prelude.{nat_lt}
use Rattle.std.specs.List.{list_all}
use Rattle.fleet_jobs.proofs.rules.is_above_all.Goals as goal

pub returns-then-is_above_tree : goal.returns-then-is_above_tree
returns-then-is_above_tree c =
    let rest = list_all (λ s. list_all (λ other. nat_lt other.id c.args.run) s.1.compacted) c.args.core.now.segments in
    c.is_above_segments.ensures ∙ ap (λ segments. list_all (λ s. list_all (λ other. nat_lt other.id c.args.run) s.1.compacted) segments) c.as_slice.ensures
    ∙ ap (λ b. b && rest) (sym c.if-is_above_tree.true ∙ c.is_above_tree.ensures)
