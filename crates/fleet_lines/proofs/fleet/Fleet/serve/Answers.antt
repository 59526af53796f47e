use Rattle.std.proofs.Common.{◌∙◌, ap}
use Rattle.fleet_text.specs.Lines.{line_of}
use Rattle.fleet_lines.specs.Fleets.{FleetParts, state_of}
use Rattle.fleet_lines.proofs.NamesAfter.{more_after}
use Rattle.fleet_lines.proofs.ServeLines.{serving_after}
use Rattle.fleet_lines.proofs.fleet.Fleet.serve.Goals as goal

pub last_name-requires : goal.last_name-requires
last_name-requires g c =
    more_after _ c.args.number (state_of c.args.self.now) (line_of c.args.line) c.in_ok-reply.reply (state_of c.run.new.self) c.history-known.result.now c.history.result.now c.in_ok-reply.ensures.served.course
    (c.history-known.ensures.world ∙ ap (λ (f : FleetParts). f.store.world.store.history) c.self.view_is) (c.history.ensures.world ∙ ap (λ (f : FleetParts). f.store.world.store.history) c.self-2.view_is)

pub returns-clause-serving : goal.returns-clause-serving
returns-clause-serving g c =
    serving_after _ c.args.number (line_of c.args.line) c.args.self.now c.run.new.self _ c.in_ok-reply.reply c.history-known.result.now c.history.result.now c.in_ok-self-inside.field-0 c.requires.serving c.in_ok-reply.ensures.served c.self-2.view_is
    (c.history-known.ensures.world ∙ ap (λ (f : FleetParts). f.store.world.store.history) c.self.view_is) c.history.ensures.world c.in_ok-self-inside.ensures.name
