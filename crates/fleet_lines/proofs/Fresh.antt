-- A fresh fleet may run a line.
use Rattle.std.proofs.Common.{◌≡◌, refl, sym, ◌∙◌, ap, subst, map, List, [], Option, None}
use Rattle.std.specs.Prelude.{◌<◌, ◌^◌}
use Rattle.row_model.specs.Fold.{Operator}
use Rattle.fleet_model.specs.Exchanges.{Fault}
use Rattle.step_model.specs.Past.{World, fresh_world}
use Rattle.step_laws.proofs.Fresh.{fresh_keeps}
use Rattle.fleet_store.specs.Memory.{StoreParts}
use Rattle.fleet_model.specs.Work.Parties.{LiveCoordinator}
use Rattle.line_laws.specs.States.{FleetKeeps}
use Rattle.std.specs.List.{AllByRecursion}
use Rattle.fleet_worker.specs.Workers.{WorkerParts, live_of}
use Rattle.line_laws.proofs.Scripts.{fresh_flushes}
use Rattle.fleet_lines.specs.Fleets.{FleetParts, IsFresh, IsServing, IsUp, Stands, options_of}
use Rattle.fleet_lines.specs.declared.options.FleetOptions.{FleetOptions}
use Rattle.fleet_lines.proofs.Runs.{state_at}

fresh_serves : (merge : Operator) (options : FleetOptions) (store : StoreParts) → options.worker.max_subcompactions < 2 ^ 32 → store.world ≡ fresh_world
    → IsServing merge (record { options = options; moment = 0; last_name = 0; store = store; coordinators = []; workers = [] })
fresh_serves merge options store few fresh = rw fresh (record {
  stands = record {
    keeps = record { store = fresh_keeps merge; workers = tt; coordinators = tt; workers_differ = tt; coordinators_differ = tt; none_pending = λ table. refl; finished = λ id. refl; flushes = λ specs faithful prefix. fresh_flushes prefix; counts = record { finished_once = tt; committed_once = tt; each = tt } };
    up = tt;
    few = few;
  };
  named = refl;
})

-- A fresh fleet may run a line under each operator.
pub fresh_fleets_serve : (merge : Operator) (fleet : FleetParts) → IsFresh fleet → IsServing merge fleet
fresh_fleets_serve merge fleet fresh =
    let s = fresh_serves merge fleet.options fleet.store fresh.few fresh.world in
    let stands : Stands merge fleet = record {
      keeps = subst (λ (cs : List LiveCoordinator). FleetKeeps merge fleet.store.world (record { coordinators = cs; workers = map live_of fleet.workers })) (sym fresh.coordinators)
          (subst (λ (ws : List WorkerParts). FleetKeeps merge fleet.store.world (record { coordinators = []; workers = map live_of ws })) (sym fresh.workers) s.stands.keeps);
      up = subst (λ (ws : List WorkerParts). AllByRecursion (IsUp fleet.store.world.store) ws) (sym fresh.workers) tt;
      few = fresh.few;
    } in
    record { stands = stands; named = fresh.named ∙ s.named }

-- A fleet without parties over a fresh store is fresh.
pub is_fresh : (options : FleetOptions) (store : StoreParts) → options.worker.max_subcompactions < 2 ^ 32 → store.world ≡ fresh_world → store.waits ≡ None
    → IsFresh (record { options = options; moment = 0; last_name = 0; store = store; coordinators = []; workers = [] })
is_fresh options store few world waits = record {
  state =
      ap (λ (w : World). state_at (options_of options) 0 w store.waits (record { coordinators = []; workers = [] })) world
      ∙ ap (λ (fault : Option Fault). state_at (options_of options) 0 fresh_world fault (record { coordinators = []; workers = [] })) waits;
  world = world;
  coordinators = refl;
  workers = refl;
  named = refl;
  few = few;
}
