use Rattle.std.proofs.Common.{◌∙◌, ap}
use Rattle.std.specs.Option.{option_copied}
use Rattle.script_model.specs.Lines.Settles.{has_active}
use Rattle.fleet_lines.specs.Fleets.{FleetParts, state_of}
use Rattle.fleet_lines.proofs.WorkLeft.{active_seen}
use Rattle.fleet_lines.proofs.fleet.Fleet.has_active_jobs.Goals as goal

pub returns-in-Some : goal.returns-in-Some
returns-in-Some c =
    c.has_open.ensures
    ∙ (active_seen (option_copied c.records.result) c.in-Some.records.now c.self.inside.store.world.store c.records.ensures (ap option_copied c.in-Some.is)
    ∙ ap (λ (f : FleetParts). has_active (state_of f)) c.self.view_is)
