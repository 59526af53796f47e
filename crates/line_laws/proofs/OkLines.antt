-- Lines whose reply is ok, from any state: their step reported, and left what it leaves as it reports.
use Rattle.std.proofs.Common.{◌≡◌, refl, sym, ◌∙◌, ap, ℕ, List, true}
use Rattle.fleet_model.specs.History.{Party}
use Rattle.fleet_model.specs.Store.{Store}
use Rattle.fleet_model.specs.Work.Parties.{Parties}
use Rattle.step_model.specs.Courses.Course.{Course, Ends}
use Rattle.step_model.specs.Courses.StepEnds.{StepEnd, Reports, GivesUp, Fenced, NotOwner, NoRecords, Invalid, Declined, OperatorRefuses, BadFlush}
use Rattle.script_model.specs.States.{State}
use Rattle.script_model.specs.LineRuns.{LineEnd, run_line, step_line, step_reply, step_parties, line_end}
use Rattle.script_model.specs.Lines.Settles.{is_ok}
use Rattle.line_laws.proofs.AloneEnds.{EndsSo, then_so}
use Rattle.line_laws.proofs.RefusedLines.{OfStep, LineEnded, LineStruck, LineEnds, line_ended}

-- The step reported this, the line printed it, and the state has the parties that it gives.
pub record StepDid {A : Type 0} (spell : A → List ℕ) (reported : A → Parties) (P : StepEnd A → Store → Type 0) (answer : List ℕ) (new : State) : Type 0 where
  pub report : A
  pub printed : answer ≡ spell report
  pub live : new.parties ≡ reported report
  pub left : P (Reports report) new.store

-- If the reply to a line of one step is ok, its step reported.
pub step_did : {A : Type 0} (number : ℕ) (s : State) (party : Party) (step : Course (StepEnd A)) (spell : A → List ℕ) (reported : A → Parties) (refused struck : Parties) (P : StepEnd A → Store → Type 0) (answer : List ℕ) (new : State)
    → EndsSo number party step s.store P → run_line number s (step_line party step (line_end spell reported refused) struck) ≡ (answer, new) → is_ok answer ≡ true → StepDid spell reported P answer new
step_did {A} number s party step spell reported refused struck P answer new so is okay =
    by (line_ended number s (step_line party step ends struck) (OfStep ends P) answer new (then_so number party step (λ end. Ends (ends end)) s.store P (OfStep ends P) (λ a left p. (a, refl, p)) so) is)
  where
    ends : StepEnd A → LineEnd
    ends = line_end spell reported refused

    at : (end : StepEnd A) → answer ≡ step_reply spell end → new.parties ≡ step_parties reported refused end → P end new.store → StepDid spell reported P answer new
    at (Reports report) printed live p = record { report = report; printed = printed; live = live; left = p }
    at (GivesUp seen) printed live p = absurd (cc (sym (ap is_ok printed) ∙ okay))
    at (Fenced stored) printed live p = absurd (cc (sym (ap is_ok printed) ∙ okay))
    at NotOwner printed live p = absurd (cc (sym (ap is_ok printed) ∙ okay))
    at NoRecords printed live p = absurd (cc (sym (ap is_ok printed) ∙ okay))
    at Invalid printed live p = absurd (cc (sym (ap is_ok printed) ∙ okay))
    at (Declined message) printed live p = absurd (cc (sym (ap is_ok printed) ∙ okay))
    at (OperatorRefuses message) printed live p = absurd (cc (sym (ap is_ok printed) ∙ okay))
    at (BadFlush fault) printed live p = absurd (cc (sym (ap is_ok printed) ∙ okay))

    by : LineEnded number s (step_line party step ends struck) (OfStep ends P) answer new → StepDid spell reported P answer new
    by (LineStruck printed store parties fault) = absurd (cc (sym (ap is_ok printed) ∙ okay))
    by (LineEnds end printed parties (of, is, p)) = at of (printed ∙ ap (λ (e : LineEnd). e.reply) is) (parties ∙ ap (λ (e : LineEnd). e.parties) is) p
