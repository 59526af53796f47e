-- The lines that take a coordinator from those of a fleet, and do no step of it.
use Rattle.std.proofs.Common.{◌≡◌, refl, sym, ◌∙◌, ap, subst, ℕ, List, [], ◌∷◌, Bool, true, false, Option, Some, None}
use Rattle.std.specs.Prelude.{◌==◌, codes, filter, find, is_some, not, option_map, IfSome}
use Rattle.row_model.specs.Fold.{Operator, IsLawful}
use Rattle.fleet_model.specs.History.{Coordinator, Kill}
use Rattle.fleet_model.specs.Work.Parties.{LiveCoordinator, coordinator_with, without_coordinator}
use Rattle.script_model.specs.Replies.{ok, reply}
use Rattle.script_model.specs.LineRuns.{LineCourse, run_line, no_such_party, if_some}
use Rattle.script_model.specs.Lines.Starts.{end_coordinator, only_notes}
use Rattle.fleet_history.specs.declared.party.Party.TheVariants as party
use Rattle.fleet_store.specs.Memory.{StoreParts}
use Rattle.fleet_lines.specs.Fleets.{FleetParts, Stands, parties_of, state_of}
use Rattle.fleet_lines.specs.Lines.{RunsAlone}
use Rattle.fleet_lines.specs.Lists.{IsTaken}
use Rattle.fleet_lines.specs.Steps.{Noted, note_event}
use Rattle.fleet_lines.proofs.Lists.{none_of, some_of}
use Rattle.fleet_lines.proofs.NoteLines.{end_coordinator_runs}
use Rattle.fleet_lines.proofs.Taken.{none_left}

-- The coordinator with this number, if it is live, was taken from those of the fleet, which left these.
pub record Takes (n : ℕ) (old : FleetParts) (result : Option (ℕ × LiveCoordinator)) (coordinators : List LiveCoordinator) : Type 0 where
  pub found : option_map (λ (taken : ℕ × LiveCoordinator). taken.1) result ≡ find (λ (c : LiveCoordinator). n == c.number) old.coordinators
  pub others : coordinators ≡ filter (λ (c : LiveCoordinator). not (n == c.number)) old.coordinators
  pub place : IfSome result (λ (taken : ℕ × LiveCoordinator). IsTaken old.coordinators taken.0 taken.1 coordinators)

module _ (n : ℕ) (old : FleetParts) (result : Option (ℕ × LiveCoordinator)) (coordinators : List LiveCoordinator) (takes : Takes n old result coordinators) where
  pub was_live : (b : Bool) → b ≡ is_some result → b ≡ is_some (find (λ (c : LiveCoordinator). n == c.number) old.coordinators)
  was_live b is = is ∙ (some_of (λ (taken : ℕ × LiveCoordinator). taken.1) result ∙ ap (λ (o : Option LiveCoordinator). is_some o) takes.found)

  -- None is live with the number.
  pub none_live : is_some result ≡ false → find (λ (c : LiveCoordinator). n == c.number) old.coordinators ≡ None
  none_live none = sym takes.found ∙ none_of (λ (taken : ℕ × LiveCoordinator). taken.1) result none

  -- Then all are left.
  pub all_left : is_some result ≡ false → coordinators ≡ old.coordinators
  all_left none = takes.others ∙ none_left (λ (c : LiveCoordinator). n == c.number) old.coordinators (none_live none)

  -- One is live with the number.
  pub one_live : (place : ℕ) (c : LiveCoordinator) → result ≡ Some (place, c) → find (λ (c : LiveCoordinator). n == c.number) old.coordinators ≡ Some c
  one_live place c is = sym takes.found ∙ ap (λ (o : Option (ℕ × LiveCoordinator)). option_map (λ (taken : ℕ × LiveCoordinator). taken.1) o) is

  -- It can be put back.
  pub one_taken : (place : ℕ) (c : LiveCoordinator) → result ≡ Some (place, c) → IsTaken old.coordinators place c coordinators
  one_taken place c is = subst (λ (o : Option (ℕ × LiveCoordinator)). IfSome o (λ (taken : ℕ × LiveCoordinator). IsTaken old.coordinators taken.0 taken.1 coordinators)) is takes.place

  -- A line that names a coordinator that is not live.
  pub no_coordinator_runs : (merge : Operator) (number : ℕ) (act : LiveCoordinator → LineCourse) (answer : List ℕ) → Stands merge old → is_some result ≡ false → answer ≡ reply (codes "nosuchparty" ∷ [])
      → RunsAlone merge number (state_of old) (if_some (coordinator_with n (parties_of old)) (no_such_party (state_of old)) act) old (record old { coordinators = coordinators }) answer
  no_coordinator_runs merge number act answer stands none says =
      subst (λ (cs : List LiveCoordinator). RunsAlone merge number (state_of old) (if_some (coordinator_with n (parties_of old)) (no_such_party (state_of old)) act) old (record old { coordinators = cs }) answer) (sym (all_left none)) (record {
        ends = ap (λ (o : Option LiveCoordinator). run_line number (state_of old) (if_some o (no_such_party (state_of old)) act)) (none_live none) ∙ ap (λ (a : List ℕ). (a, state_of old)) (sym says);
        stands = stands;
        same_name = refl;
      })

  pub no_end_runs : (merge : Operator) (number : ℕ) (answer : List ℕ) → Stands merge old → is_some result ≡ false → answer ≡ reply (codes "nosuchparty" ∷ []) → RunsAlone merge number (state_of old) (end_coordinator n (state_of old)) old (record old { coordinators = coordinators }) answer
  no_end_runs merge number answer stands none says = no_coordinator_runs merge number (λ (c : LiveCoordinator). only_notes (Coordinator n) (Kill (Coordinator n) ∷ []) (state_of old) (without_coordinator n (parties_of old))) answer stands none says

  -- A line that ends one that is live.
  pub ended_runs : (merge : Operator) (number : ℕ) (store : StoreParts) (answer : List ℕ) → IsLawful merge → Stands merge old → true ≡ is_some result → Noted merge number (party.Coordinator n) (note_event false (party.Coordinator n) ∷ []) old.store store → answer ≡ ok
      → RunsAlone merge number (state_of old) (end_coordinator n (state_of old)) old (record old { store = store; coordinators = coordinators }) answer
  ended_runs merge number store answer lawful stands some noted says =
      subst (λ (cs : List LiveCoordinator). RunsAlone merge number (state_of old) (end_coordinator n (state_of old)) old (record old { store = store; coordinators = cs }) answer) (sym takes.others)
      (end_coordinator_runs merge number n old store answer lawful stands (sym (was_live true some)) noted says)
