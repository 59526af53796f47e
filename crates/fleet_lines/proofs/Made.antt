-- The run of a step that a party made, and how it ends its line.
use Rattle.std.proofs.Common.{◌≡◌, refl, sym, ◌∙◌, ap, subst, ℕ, List, [], ◌∷◌, Option, Some, None, Result, Ok, Err}
use Rattle.std.specs.Prelude.{codes}
use Rattle.row_model.specs.Fold.{Operator}
use Rattle.fleet_model.specs.Exchanges.{Fault}
use Rattle.fleet_model.specs.Work.Parties.{Parties}
use Rattle.step_model.specs.Past.{World}
use Rattle.step_model.specs.LawfulRecords.{OfSome}
use Rattle.step_model.specs.Kept.Keeps.{Keeps}
use Rattle.step_model.specs.Rivals.{Caller}
use Rattle.step_model.specs.Courses.Course.{Course, Ends}
use Rattle.step_model.specs.Courses.CourseRuns.{End, Gives, MeetsFault, LacksMemory}
use Rattle.step_model.specs.Courses.Ran.{Ran}
use Rattle.step_model.specs.Courses.StepEnds.{StepEnd}
use Rattle.step_laws.proofs.RanLaws.{ran_runs}
use Rattle.course_laws.proofs.Afterwards.{runs_come}
use Rattle.course_laws.proofs.Composed.{then_ran_struck}
use Rattle.step_model.specs.Later.{IsLater}
use Rattle.step_model.specs.Views.{StoreView}
use Rattle.script_model.specs.Replies.{reply}
use Rattle.script_model.specs.States.{FleetOptions}
use Rattle.script_model.specs.LineRuns.{run_line, step_line, line_end, step_parties, step_reply}
use Rattle.line_laws.proofs.Lines.{caller_of}
use Rattle.fleet_rows.specs.declared.errors.MergeOperatorError.TheVariants as merge_error
use Rattle.fleet_rows.specs.declared.errors.SlateDBError.{SlateDBError}
use Rattle.fleet_rows.specs.declared.errors.SlateDBError.TheVariants as error
use Rattle.fleet_history.specs.Parties.{party_of}
use Rattle.fleet_history.specs.declared.party.Party.{Party}
use Rattle.fleet_store.specs.Memory.{StoreParts}
use Rattle.fleet_store.specs.Under.{view_of}
use Rattle.fleet_step.specs.Steps.{RunsTo, StepRan, end_of}
use Rattle.fleet_lines.specs.Steps.{Made, Says, at_line, end_reply, error_reply}
use Rattle.fleet_lines.proofs.Runs.{state_at, line_gives, line_struck, then_ends}

-- ---- the end of a step

-- The run that a step made whose line has this reply.
pub record StepRun {A B : Type 0} (ends : A → StepEnd B) (spell : B → List ℕ) (course : Course (StepEnd B)) (merge : Operator) (number : ℕ) (party : Party) (old new : StoreParts) (result : Result A SlateDBError) (answer : List ℕ) : Type 0 where
  pub end : End (StepEnd B)
  pub is : end_of ends result ≡ Some end
  pub ran : Ran (caller_of merge number (party_of party)) course old.world new.world old.waits new.waits end
  pub says : end_reply spell end ≡ Some answer

pub step_run : {A B : Type 0} (ends : A → StepEnd B) (spell : B → List ℕ) (course : Course (StepEnd B)) (merge : Operator) (number : ℕ) (party : Party) (old new : StoreParts) (result : Result A SlateDBError) (answer : List ℕ)
    → Made ends course merge number party old new result → Says ends spell result answer → StepRun ends spell course merge number party old new result answer
step_run {A} {B} ends spell course merge number party old new result answer made says = by (end_of ends result) refl made.ran says.says
  where
    by : (o : Option (End (StepEnd B))) → end_of ends result ≡ o → OfSome (Ran (caller_of merge number (party_of party)) course old.world new.world old.waits new.waits) o → OfSome (λ end. end_reply spell end ≡ Some answer) o
        → StepRun ends spell course merge number party old new result answer
    by None e runs said = absurd runs
    by (Some end) e runs said = record { end = end; is = e; ran = runs; says = said }

-- An error that has a reply is the end of a step with this reply.
pub error_says : {A B : Type 0} (ends : A → StepEnd B) (spell : B → List ℕ) (e : SlateDBError) (answer : List ℕ) → error_reply e ≡ Some answer → Says ends spell (Err e) answer
error_says ends spell error.StoreFault answer is = record { says = is }
error_says ends spell (error.Conflict seen) answer is = record { says = is }
error_says ends spell (error.Fenced stored) answer is = record { says = is }
error_says ends spell error.NotOwner answer is = record { says = is }
error_says ends spell error.InvalidDBState answer is = record { says = is }
error_says ends spell error.InvalidCompaction answer is = record { says = is }
error_says ends spell (error.Generate message) answer is = record { says = is }
error_says ends spell (error.MergeOperator (merge_error.Callback message)) answer is = record { says = is }
error_says ends spell (error.MergeOperator merge_error.EmptyBatch) answer is = absurd (cc is)
error_says ends spell (error.MergeOperator merge_error.Memory) answer is = absurd (cc is)
error_says ends spell error.IteratorNotInitialized answer is = absurd (cc is)
error_says ends spell error.IteratorFailed answer is = absurd (cc is)
error_says ends spell error.MergeOperatorMissing answer is = absurd (cc is)
error_says ends spell (error.InvalidSequenceOrder current after) answer is = absurd (cc is)
error_says ends spell (error.CompactionFilter cause) answer is = absurd (cc is)
error_says ends spell error.Memory answer is = absurd (cc is)

-- A report has this reply.
pub report_says : {A B : Type 0} (ends : A → StepEnd B) (spell : B → List ℕ) (report : A) (answer : List ℕ) → answer ≡ step_reply spell (ends report) → Says ends spell (Ok report) answer
report_says ends spell report answer is = record { says = ap Some (sym is) }

-- ---- the store that is lent

-- A step over a store that is lent in this line to this party, under the same operator, is made by the party.
pub made_lent : {A B : Type 0} (ends : A → StepEnd B) (course : Course (StepEnd B)) (merge mine : Operator) (number : ℕ) (party : Party) (lent : ℕ) (old mid new : StoreParts) (last : StoreView) (result : Result A SlateDBError) → mine ≡ merge → mid ≡ at_line number party old
    → last.world ≡ new.world → last.waits ≡ new.waits → StepRan ends course (view_of mine lent mid) last result → Made ends course merge number party old new result
made_lent {A} {B} ends course merge mine number party lent old mid new last result same at world waits ran = record {
  ran = by (end_of ends result)
      (subst (λ (o : Operator). OfSome (RunsTo course (view_of o lent (at_line number party old)) last) (end_of ends result)) same (subst (λ (m : StoreParts). OfSome (RunsTo course (view_of mine lent m) last) (end_of ends result)) at ran.to_end));
}
  where
    by : (o : Option (End (StepEnd B))) → OfSome (RunsTo course (view_of merge lent (at_line number party old)) last) o → OfSome (Ran (caller_of merge number (party_of party)) course old.world new.world old.waits new.waits) o
    by None runs = absurd runs
    by (Some end) runs = rw (sym world, sym waits) runs.ran

-- A store that keeps the invariant after a step over it, while it is lent, keeps it after that.
pub keeps_back : {A B : Type 0} (ends : A → StepEnd B) (course : Course (StepEnd B)) (merge mine : Operator) (lent : ℕ) (mid : StoreParts) (new : World) (last : StoreView) (result : Result A SlateDBError) → mine ≡ merge → last.world ≡ new → StepRan ends course (view_of mine lent mid) last result
    → Keeps last.who.merge last.world → Keeps merge new
keeps_back {A} {B} ends course merge mine lent mid new last result same world ran keeps = by (end_of ends result) ran.to_end
  where
    by : (o : Option (End (StepEnd B))) → OfSome (RunsTo course (view_of mine lent mid) last) o → Keeps merge new
    by None runs = absurd runs
    by (Some end) runs = subst (λ (w : World). Keeps merge w) world (subst (λ (o : Operator). Keeps o last.world) (ap (λ (w : Caller). w.merge) runs.same.who ∙ same) keeps)

-- ---- the end of a line

-- The parties that are live after a step that ended so.
abbrev pub live_after : {A : Type 0} → (A → Parties) → (refused struck : Parties) → End (StepEnd A) → Parties
live_after reported refused struck (Gives end) = step_parties reported refused end
live_after reported refused struck MeetsFault = struck
live_after reported refused struck LacksMemory = struck

pub the_reply : (a b : List ℕ) → Some a ≡ Some b → a ≡ b
the_reply a b e = cc e

-- A line that does one step of its party.
module _ {A : Type 0} (merge : Operator) (number : ℕ) (options : FleetOptions) (moment : ℕ) (parties : Parties) (party : Party) (step : Course (StepEnd A)) (spell : A → List ℕ) (reported : A → Parties) (refused struck : Parties) (old new : World) (waits left : Option Fault)
    (answer : List ℕ) where
  -- The line ends as the step of its party does, with its reply and with the parties that are live after it.
  pub step_ends : (end : End (StepEnd A)) → Ran (caller_of merge number (party_of party)) step old new waits left end → end_reply spell end ≡ Some answer
      → run_line number (state_at options moment old waits parties) (step_line (party_of party) step (line_end spell reported refused) struck) ≡ (answer, state_at options moment new left (live_after reported refused struck end))
  step_ends (Gives end) ran says =
      line_gives merge number options moment parties (step_line (party_of party) step (line_end spell reported refused) struck) old new waits left (line_end spell reported refused end)
      (then_ends (caller_of merge number (party_of party)) step (line_end spell reported refused) old new waits left end ran)
      ∙ ap (λ (a : List ℕ). (a, state_at options moment new left (step_parties reported refused end))) (the_reply (step_reply spell end) answer says)
  step_ends MeetsFault ran says =
      line_struck merge number options moment parties (step_line (party_of party) step (line_end spell reported refused) struck) old new waits left
      (then_ran_struck (caller_of merge number (party_of party)) step (λ end. Ends (line_end spell reported refused end)) old new waits left ran)
      ∙ ap (λ (a : List ℕ). (a, state_at options moment new left struck)) (the_reply (reply (codes "storefault" ∷ [])) answer says)
  step_ends LacksMemory ran says = absurd (cc says)

-- ---- what a run leaves

-- A run leads to a later store.
pub ran_later : {A : Type 0} (merge : Operator) (number : ℕ) (party : Party) (course : Course A) (old new : World) (waits left : Option Fault) (end : End A) → Ran (caller_of merge number (party_of party)) course old new waits left end → IsLater old.store new.store
ran_later merge number party course old new waits left end ran = (runs_come (caller_of merge number (party_of party)) course old new end (ran_runs (caller_of merge number (party_of party)) course old new waits left end ran)).later
