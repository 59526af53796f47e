-- The law on conflicts: no line of a script replies that its puts were refused.
use Rattle.std.specs.Prelude.{◌≡◌, ℕ, Bool, false, nat_eq, List, codes}
use Rattle.std.specs.List.{AllByRecursion, starts_with}
use Rattle.script_model.specs.Script.{Line}
use Rattle.script_model.specs.States.{Inputs, State}
use Rattle.script_model.specs.Follows.{ScriptRun}

-- The reply begins as that of a step that gave up, after its puts were refused.
abbrev pub is_conflict : List ℕ → Bool
is_conflict answer = starts_with nat_eq answer (codes "conflict")

-- No reply of a run of lines is so, from any state, since nobody else calls the store during a line.
abbrev pub NoneConflicts : Type 0
NoneConflicts = (inputs : Inputs) (number : ℕ) (old : State) (lines : List Line) (answers : List (List ℕ)) (new : State)
    → ScriptRun inputs number old lines answers new → AllByRecursion (λ answer. is_conflict answer ≡ false) answers
