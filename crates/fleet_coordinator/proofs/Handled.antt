-- A coordinator is ready after its polls, and its reports show what they reached.
use Rattle.std.proofs.Common.{◌≡◌, refl, sym, ◌∙◌, ap, subst, ℕ, ◌+◌, List, [], ◌∷◌, inl, inr, map, Bool, true, false, Option, Some, None, Result, Ok, Err, add-one}
use Rattle.std.specs.Prelude.{IfOk, IsOkUnless}
use Rattle.std.specs.Bool.{OnFalse}
use Rattle.row_model.specs.Fold.{IsLawful}
use Rattle.fleet_model.specs.Exchanges.{Fault}
use Rattle.fleet_model.specs.Work.PollStates.{PollState, poll_begun}
use Rattle.fleet_model.specs.Work.Records.{firsts}
use Rattle.step_model.specs.Courses.Course.{Course, Ends, Calls}
use Rattle.step_model.specs.Courses.CourseRuns.{End, Gives, LacksMemory, IsLawfulCourse}
use Rattle.step_model.specs.Courses.Ran.{Ran}
use Rattle.step_model.specs.Courses.StepEnds.{StepEnd, Reports}
use Rattle.step_model.specs.Courses.Tries.{counted_tries}
use Rattle.step_model.specs.Kept.Keeps.{Keeps}
use Rattle.step_model.specs.LawfulRecords.{OfSome}
use Rattle.step_model.specs.Past.{World}
use Rattle.step_model.specs.Rivals.{Caller}
use Rattle.step_model.specs.Steps.PollSteps.{PollAsk, poll, poll_try}
use Rattle.step_model.specs.Views.{StoreView}
use Rattle.step_laws.proofs.RanLaws.{ran_runs}
use Rattle.coordinator_laws.proofs.Coordinators.{polls_fit}
use Rattle.coordinator_laws.proofs.Course.{polls_are_lawful}
use Rattle.fleet_rows.specs.declared.errors.SlateDBError.{SlateDBError}
use Rattle.fleet_rows.specs.declared.errors.SlateDBError.TheVariants as error
use Rattle.fleet_jobs.specs.declared.spec.CompactionSpec.{CompactionSpec}
use Rattle.fleet_history.specs.Changes.{new_specs}
use Rattle.fleet_step.specs.Steps.{Leads, RunsTo, StepRan, end_of}
use Rattle.fleet_step.proofs.Keeping.{step_keeps}
use Rattle.fleet_step.proofs.Steps.{begins, gives_up, reports, then_leads, then_ran, wants}
use Rattle.fleet_tree.specs.Trees.{RunFlushes}
use Rattle.fleet_poll.specs.Polls.{poll_of, report_of}
use Rattle.fleet_poll.specs.declared.poll.Poll.{Poll}
use Rattle.fleet_poll.specs.declared.report.PollReport.{PollReport}
use Rattle.fleet_coordinator.specs.Handling.{HasHandled, shown_of}
use Rattle.fleet_coordinator.specs.Polling.{Fails, HasPolled, MayPoll, MayTry, TriesPoll}
use Rattle.fleet_coordinator.specs.declared.polling.Tried.TheVariants.{Done, Refused}
use Rattle.fleet_coordinator.proofs.PollGets.{then_fails}
use Rattle.fleet_coordinator.proofs.RecordPuts.{same_error}

-- ---- ready coordinators

module _ (old new : StoreView) (ask : PollAsk) (merges : IsLawful old.who.merge) (may : MayPoll old ask.epoch) where
  pub poll_lawful : IsLawfulCourse old.who old.world (poll ask)
  poll_lawful = polls_are_lawful old.who old.world may.number ask None merges may.party may.keeps may.holds

  -- A coordinator may poll again after its poll, however the poll ends.
  pub may_again : {A : Type 0} (ends : A → StepEnd PollState) (result : Result A SlateDBError) → StepRan ends (poll ask) old new result → MayPoll new ask.epoch
  may_again ends result ran = by (end_of ends result) ran.to_end
    where
      keeps : Keeps new.who.merge new.world
      keeps = step_keeps ends (poll ask) old new result merges may.keeps poll_lawful ran

      by : (end : Option (End (StepEnd PollState))) → OfSome (RunsTo (poll ask) old new) end → MayPoll new ask.epoch
      by None runs = absurd runs
      by (Some end) runs = record {
        number = may.number;
        party = ap (λ (w : Caller). w.party) runs.same.who ∙ may.party;
        keeps = keeps;
        holds = polls_fit old.who old.world new.world may.number ask None end merges may.party may.keeps may.holds (ran_runs old.who (poll ask) old.world new.world old.waits new.waits end runs.ran);
      }

  -- So may one in the midst of its poll, where memory could run out.
  midway : (rest : Course (StepEnd PollState)) → Leads (poll ask) old rest new → MayPoll new ask.epoch
  midway rest lead = may_again {A = PollState} Reports (Err error.Memory) (then_ran Reports lead (wants Reports rest new))

  -- ---- tries

  module _ (left seen : ℕ) (so_far : Leads (poll ask) old (counted_tries (poll_try ask) left seen) new) (after : ℕ) (more : left ≡ after + 1) where
    at_try : Leads (poll ask) old (poll_try ask after seen (counted_tries (poll_try ask) after)) new
    at_try = subst (λ n. Leads (poll ask) old (counted_tries (poll_try ask) n seen) new) (more ∙ add-one after) so_far

    pub may_try : MayTry new ask after seen
    may_try = record {
      ready = midway (counted_tries (poll_try ask) left seen) so_far;
      lawful = subst (λ (w : Caller). IsLawfulCourse w new.world (poll_try ask after seen (counted_tries (poll_try ask) after))) (sym at_try.same.who) (at_try.lawful poll_lawful);
    }

    module _ (last : StoreView) where
      pub try_fails : (e : SlateDBError) → TriesPoll (poll_try ask after seen (counted_tries (poll_try ask) after)) (counted_tries (poll_try ask) after) new last (Err e) → Fails (poll ask) old last e
      try_fails e ran = then_fails at_try e ran

      pub try_done : (reached : Poll) → TriesPoll (poll_try ask after seen (counted_tries (poll_try ask) after)) (counted_tries (poll_try ask) after) new last (Ok (Done reached)) → HasPolled (poll ask) old last reached
      try_done reached has = record { flushes = has.flushes; ran = then_ran (λ poll. Reports (poll_of has.flushes poll)) at_try has.ran }

      pub try_refused : (version : ℕ) → TriesPoll (poll_try ask after seen (counted_tries (poll_try ask) after)) (counted_tries (poll_try ask) after) new last (Ok (Refused version)) → Leads (poll ask) old (counted_tries (poll_try ask) after version) last
      try_refused version lead = then_leads at_try lead

  -- All tries were refused.
  pub none_left : (left seen : ℕ) → Leads (poll ask) old (counted_tries (poll_try ask) left seen) new → left ≡ 0 → Fails (poll ask) old new (error.Conflict seen)
  none_left left seen so_far none =
      then_ran Reports so_far (gives_up {A = PollState} Reports (counted_tries (poll_try ask) left seen) new seen (ap (λ n. counted_tries (poll_try ask) n seen) none))

pub first_try : (view : StoreView) (ask : PollAsk) → Leads (poll ask) view (counted_tries (poll_try ask) 64 0) view
unfolding poll
first_try view ask = begins (counted_tries (poll_try ask) 64 0) view

-- ---- reports

added_are : (added : List (ℕ × CompactionSpec)) → map (λ new. new.0) added ≡ firsts (new_specs added)
added_are [] = refl
added_are (new ∷ added) = ap (λ ids. new.0 ∷ ids) (added_are added)

shown_is : (flushes : RunFlushes) (reached : Poll) → report_of reached ≡ shown_of (poll_of flushes reached)
shown_is flushes reached = ap (λ ids. record (report_of reached) { added = ids }) (added_are reached.added)

-- Memory may run out at the end of a run too.
lacks_last : {A : Type 0} (who : Caller) (course : Course A) (answer : A) (old new : World) (waits left : Option Fault) → Ran who course old new waits left (Gives answer) → Ran who course old new waits left LacksMemory
lacks_last who (Ends answer) given old new waits left ran = (ran.0, (ran.1.0, tt))
lacks_last who (Calls x next) given old new waits left (met, (rivals, inl stops)) = absurd stops
lacks_last who (Calls x next) given old new waits left (met, (rivals, inr (room, (mid, (spares, ran))))) = (met, (rivals, inr (room, (mid, (spares, lacks_last who (next met.store) given _ new mid left ran)))))

module _ (course : Course (StepEnd PollState)) (old new : StoreView) where
  pub error_handled : (e : SlateDBError) → Fails course old new e → HasHandled course old new (Err e)
  error_handled e ran = record {
    reached = poll_begun [] 0 [];
    ran = record { to_end = subst (OfSome (RunsTo course old new)) (same_error (λ (p : PollState). Reports p) (λ (report : PollReport). Reports (poll_begun [] 0 [])) e) ran.to_end };
    report = tt;
  }

  poll_handled : (reached : Poll) (report : PollReport) → HasPolled course old new reached → report ≡ report_of reached → HasHandled course old new (Ok report)
  poll_handled reached report has is = record {
    reached = poll_of has.flushes reached;
    ran = record { to_end = has.ran.to_end };
    report = is ∙ shown_is has.flushes reached;
  }

  lacks_report : (reached : Poll) → HasPolled course old new reached → HasHandled course old new (Err error.Memory)
  lacks_report reached has =
      let runs = has.ran.to_end in
      record {
        reached = poll_of has.flushes reached;
        ran = record { to_end = record { same = runs.same; faults = runs.faults; ran = lacks_last old.who course (Reports (poll_of has.flushes reached)) old.world new.world old.waits new.waits runs.ran } };
        report = tt;
      }

  -- The report takes memory, which may run out.
  pub report_handled : (reached : Poll) → HasPolled course old new reached → (result : Result PollReport SlateDBError) → IfOk result (λ report. report ≡ report_of reached) → IsOkUnless result error.Memory → HasHandled course old new result
  report_handled reached has (Ok report) is memory = poll_handled reached report has is
  report_handled reached has (Err e) is memory = subst (λ e. HasHandled course old new (Err e)) (sym memory) (lacks_report reached has)

pub nothing_handled : (view : StoreView) (report : PollReport) → report ≡ shown_of (poll_begun [] 0 []) → HasHandled (Ends (Reports (poll_begun [] 0 []))) view view (Ok report)
nothing_handled view report is = record {
  reached = poll_begun [] 0 [];
  ran = reports (λ (r : PollReport). Reports (poll_begun [] 0 [])) (Ends (Reports (poll_begun [] 0 []))) view report refl;
  report = is;
}

-- ---- messages

on_false : {P : Type 0} (b : Bool) → P → OnFalse b P
on_false true p = tt
on_false false p = p

-- A coordinator is ready after a message by which it polled.
pub ready_after : (old new : StoreView) (ask : PollAsk) (result : Result PollReport SlateDBError) (stopped : Bool) (epoch : ℕ) → epoch ≡ ask.epoch → IsLawful old.who.merge → MayPoll old ask.epoch → HasHandled (poll ask) old new result → OnFalse stopped (MayPoll new epoch)
ready_after old new ask result stopped epoch same merges may handled = on_false stopped (subst (MayPoll new) (sym same) (may_again old new ask merges may (λ report. Reports handled.reached) result handled.ran))

-- The store meets the invariant after such a message, however the poll ended.
pub keeps_after : (old new : StoreView) (ask : PollAsk) (result : Result PollReport SlateDBError) → IsLawful old.who.merge → MayPoll old ask.epoch → HasHandled (poll ask) old new result → Keeps new.who.merge new.world
keeps_after old new ask result merges may handled = (may_again old new ask merges may (λ report. Reports handled.reached) result handled.ran).keeps
