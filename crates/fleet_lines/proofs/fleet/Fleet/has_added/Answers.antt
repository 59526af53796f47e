use Rattle.std.proofs.Common.{◌∙◌, ap}
use Rattle.std.specs.Option.{option_copied}
use Rattle.fleet_lines.specs.Fleets.{FleetParts}
use Rattle.fleet_lines.proofs.WorkLeft.{added_seen, none_added}
use Rattle.fleet_lines.proofs.fleet.Fleet.has_added.Goals as goal

pub returns-in-Some : goal.returns-in-Some
returns-in-Some c =
    c.is_adding.ensures
    ∙ added_seen c.args.coordinator c.history.result.now (option_copied c.last_entry.result) c.in-Some.entry.now c.args.self.now.store.world.store.history c.last_entry.ensures (ap option_copied c.in-Some.is)
    (c.history.ensures.world ∙ ap (λ (f : FleetParts). f.store.world.store.history) c.self.view_is)

pub returns-in-None : goal.returns-in-None
returns-in-None c =
    none_added c.args.coordinator c.history.result.now (option_copied c.last_entry.result) c.args.self.now.store.world.store.history c.last_entry.ensures (ap option_copied c.in-None.is)
    (c.history.ensures.world ∙ ap (λ (f : FleetParts). f.store.world.store.history) c.self.view_is)
