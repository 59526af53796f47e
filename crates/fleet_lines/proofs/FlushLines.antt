-- The line that flushes rows.
use Rattle.std.proofs.Common.{◌≡◌, refl, ◌∙◌, ap, subst, ℕ, List, Option, Some, Result, arith}
use Rattle.std.specs.Prelude.{⊤}
use Rattle.row_model.specs.Fold.{Operator, IsLawful}
use Rattle.fleet_model.specs.History.{Writer}
use Rattle.fleet_model.specs.Exchanges.{Fault}
use Rattle.fleet_model.specs.Work.Parties.{Parties}
use Rattle.step_model.specs.Past.{World}
use Rattle.step_model.specs.Entries.{last_name}
use Rattle.step_model.specs.Courses.Course.{Ends}
use Rattle.step_model.specs.Courses.CourseRuns.{End, Gives, MeetsFault, LacksMemory, IsLawfulCourse}
use Rattle.step_model.specs.Courses.Ran.{Ran}
use Rattle.step_model.specs.Courses.StepEnds.{StepEnd}
use Rattle.step_model.specs.Steps.FlushSteps.{FlushAsk, flush}
use Rattle.step_laws.proofs.RanLaws.{ran_runs}
use Rattle.commit_laws.proofs.AllCalls.{calls_keep}
use Rattle.course_laws.specs.Flushes.{MayAsk}
use Rattle.course_laws.proofs.Composed.{then_ran_struck}
use Rattle.course_laws.proofs.Flushes.{flushes_are_lawful}
use Rattle.course_laws.proofs.Sweeps.{NonePending}
use Rattle.script_model.specs.Lines.Flushes.{flush_line}
use Rattle.script_model.specs.Replies.{ok}
use Rattle.line_laws.proofs.Flushes.{flush_none}
use Rattle.line_laws.proofs.Lines.{caller_of}
use Rattle.fleet_rows.specs.declared.errors.SlateDBError.{SlateDBError}
use Rattle.fleet_history.specs.declared.party.Party.TheVariants as party
use Rattle.fleet_store.specs.Memory.{StoreParts}
use Rattle.fleet_coordinator.specs.Flushes as coordinator
use Rattle.fleet_coordinator.specs.declared.flushing.FlushFault.{FlushFault}
use Rattle.fleet_lines.specs.Fleets.{FleetParts, IsServing, options_of, parties_of, state_of}
use Rattle.fleet_lines.specs.Lines.{RunsAlone}
use Rattle.fleet_lines.specs.Steps.{Made, Says, end_reply}
use Rattle.fleet_lines.proofs.Made.{step_run, step_ends, ran_later}
use Rattle.fleet_lines.proofs.Runs.{state_at, then_ends}
use Rattle.fleet_lines.proofs.Kept.{writer_keeps}
use Rattle.fleet_lines.proofs.Standing.{still_up}
use Rattle.fleet_lines.proofs.SubmitLines.{all_live}

-- A flush that has a reply leaves no table that is still to be brought to a tree.
quiet : (merge : Operator) (number moment retention last : ℕ) (ask : FlushAsk) (answer : List ℕ) (old new : World) (waits left : Option Fault) (end : End (StepEnd ⊤)) → NonePending old.store
    → Ran (caller_of merge number Writer) (flush moment retention last ask) old new waits left end → end_reply (λ (done : ⊤). ok) end ≡ Some answer → NonePending new.store
quiet merge number moment retention last ask answer old new waits left (Gives end) none ran says =
    let who = caller_of merge number Writer in
    flush_none who moment retention last ask (λ (e : StepEnd ⊤). e) old new (Gives end) refl refl tt none (ran_runs who _ old new waits left (Gives end) (then_ends who (flush moment retention last ask) (λ (e : StepEnd ⊤). e) old new waits left end ran))
quiet merge number moment retention last ask answer old new waits left MeetsFault none ran says =
    let who = caller_of merge number Writer in
    flush_none who moment retention last ask (λ (e : StepEnd ⊤). e) old new MeetsFault refl refl tt none
    (ran_runs who _ old new waits left MeetsFault (then_ran_struck who (flush moment retention last ask) (λ (e : StepEnd ⊤). Ends e) old new waits left ran))
quiet merge number moment retention last ask answer old new waits left LacksMemory none ran says = absurd (cc says)

-- A flush that the writer made runs the line, with the reply that it says.
pub flush_runs : (merge : Operator) (number : ℕ) (ask : FlushAsk) (old : FleetParts) (store : StoreParts) (result : Result (Option FlushFault) SlateDBError) (answer : List ℕ) → IsLawful merge → IsServing merge old → MayAsk ask
    → Made coordinator.ends (flush old.moment old.options.worker.retention_ms old.last_name ask) merge number party.Writer old.store store result → Says coordinator.ends (λ done. ok) result answer
    → RunsAlone merge number (state_of old) (flush_line ask.name ask.segment ask.floor ask.tick ask.rows (state_of old)) old (record old { store = store }) answer
flush_runs merge number ask old store result answer lawful serving may made says =
    let retention = old.options.worker.retention_ms in
    let last = last_name old.store.world.store.history in
    let step = flush old.moment retention last ask in
    let stands = serving.stands in
    let who = caller_of merge number Writer in
    let run = step_run coordinator.ends (λ done. ok) step merge number party.Writer old.store store result answer (subst (λ (n : ℕ). Made coordinator.ends (flush old.moment retention n ask) merge number party.Writer old.store store result) serving.named made) says in
    let is : IsLawfulCourse who old.store.world step = flushes_are_lawful who old.store.world old.moment retention last ask (calls_keep merge lawful) stands.keeps.store refl may (omega arith) in
    record {
      ends =
          step_ends merge number (options_of old.options) old.moment (parties_of old) party.Writer step (λ done. ok) (λ done. parties_of old) (parties_of old) (parties_of old) old.store.world store.world old.store.waits store.waits answer run.end run.ran run.says
          ∙ ap (λ (parties : Parties). (answer, state_at (options_of old.options) old.moment store.world store.waits parties)) (all_live (parties_of old) run.end);
      stands = record {
        keeps = writer_keeps merge number old.store.world store.world (parties_of old) step run.end lawful stands.keeps is (ran_runs who step old.store.world store.world old.store.waits store.waits run.end run.ran)
            (quiet merge number old.moment retention last ask answer old.store.world store.world old.store.waits store.waits run.end stands.keeps.none_pending run.ran run.says);
        up = still_up old.store.world.store store.world.store old.workers (ran_later merge number party.Writer step old.store.world store.world old.store.waits store.waits run.end run.ran) stands.up;
        few = stands.few;
      };
      same_name = refl;
    }
