-- The stores on the way of a script pass tests: the parts of the fleet's invariant, and of what lawful
-- calls keep, that can be computed.
use Rattle.std.specs.Prelude.{ℕ, ◌+◌, Bool, ◌&&◌, IsTrue, List, [], ◌∷◌, ⊤}
use Rattle.std.specs.List.{list_all}
use Rattle.fleet_model.specs.Store.{stored_jobs}
use Rattle.script_model.specs.Script.{Line}
use Rattle.script_model.specs.States.{Inputs, State}
use Rattle.script_model.specs.Follows.{ScriptRun}
use Rattle.script_model.specs.Tests.TreeTests.{all_pairs, are_trees, are_tables, are_named_held}
use Rattle.script_model.specs.Tests.JobTests.{hold_apart, opened_stands, has_context, outputs_fit, worker_fits}
use Rattle.script_model.specs.Tests.ReadTests.{reads_stand}
use Rattle.script_model.specs.Tests.HistoryTests.{specs_in, is_replayed, are_draws, are_names, are_attempts, are_puts, are_joins_and_epochs}

-- The store of the state passes the tests, and so do the live workers.
abbrev pub passes : Inputs → State → Bool
passes inputs s =
    let specs = specs_in s.store.history in
    are_tables s.store.tables
    && are_trees s.store
    && are_named_held s.store
    && all_pairs hold_apart (stored_jobs s.store)
    && list_all (opened_stands s.store) (stored_jobs s.store)
    && list_all (has_context inputs.merge s.store specs) (stored_jobs s.store)
    && list_all (outputs_fit inputs.merge s.store specs) (stored_jobs s.store)
    && list_all (worker_fits inputs.merge s.store specs) s.parties.workers
    && is_replayed s.store
    && are_draws s.store
    && are_names s.store
    && are_attempts s.store
    && are_puts s.store
    && are_joins_and_epochs s.store
    && reads_stand inputs.merge s.store

-- Each line of the run leaves a state that passes the tests.
abbrev pub PassesAlong : (inputs : Inputs) (number : ℕ) (old : State) (lines : List Line) (answers : List (List ℕ))
    (new : State) → ScriptRun inputs number old lines answers new → Type 0
PassesAlong inputs number old [] [] new run = ⊤
PassesAlong inputs number old (line ∷ lines) (answer ∷ answers) new (mid, step, run) =
    IsTrue (passes inputs mid) × PassesAlong inputs (number + 1) mid lines answers new run
PassesAlong inputs number old [] (answer ∷ answers) new run = ⊤
PassesAlong inputs number old (line ∷ lines) [] new run = ⊤
