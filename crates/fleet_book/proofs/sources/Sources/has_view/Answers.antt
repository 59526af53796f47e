use Rattle.std.proofs.Common.{◌∙◌, ap}
use Rattle.fleet_model.specs.Nodes.{L0, names_contain}
use Rattle.fleet_book.specs.Finishes.{is_named}
use Rattle.fleet_book.proofs.Named.{named_alike}
use Rattle.fleet_book.proofs.sources.Sources.has_view.Goals as goal

pub returns : goal.returns
returns c =
    c.contains.ensures ∙ ap (λ names. names_contain names (L0 c.args.id)) c.self.invariant ∙ named_alike c.self.inside.sources.now (L0 c.args.id)
    ∙ ap (λ sources. is_named sources (L0 c.args.id)) c.self.view_is
