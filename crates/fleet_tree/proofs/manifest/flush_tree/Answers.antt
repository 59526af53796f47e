use Rattle.std.proofs.Common.{sym, ◌∙◌, ap, refl, [], ◌∷◌}
use Rattle.std.proofs.lemmas.Result.{on_ok_weaker}
use Rattle.fleet_tree.proofs.Flushes.{is_none, is_some, root_first, root_flushed}
use Rattle.fleet_tree.proofs.manifest.flush_tree.Goals as goal

pub returns-then-is_empty-clause-ok : goal.returns-then-is_empty-clause-ok
returns-then-is_empty-clause-ok c =
    let none = is_none c.args.prefix.now (sym c.if-is_empty.true ∙ c.is_empty.ensures) in
    on_ok_weaker c.add_l0.result (λ e. ap (λ t. ([], t) ∷ c.args.segments.now) e ∙ root_flushed c.args.prefix.now c.args.view c.args.last_seq ([], c.args.root.now) c.args.segments.now refl none)
    c.add_l0.ensures.ok

pub returns-else-is_empty-clause-ok : goal.returns-else-is_empty-clause-ok
returns-else-is_empty-clause-ok c =
    let some = is_some c.args.prefix.now (sym c.if-is_empty.false ∙ c.is_empty.ensures) in
    on_ok_weaker c.flush_segment.result (λ e. ap (λ trees. ([], c.args.root.now) ∷ trees) e ∙ root_first c.args.prefix.now c.args.view c.args.last_seq ([], c.args.root.now) c.args.segments.now refl some)
    c.flush_segment.ensures.ok
