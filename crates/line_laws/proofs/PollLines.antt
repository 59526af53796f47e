-- What a poll does that is not refused.
use Rattle.std.proofs.Common.{◌≡◌, refl, sym, ◌∙◌, ap, subst, ℕ, ◌<◌, List, ◌++◌, Bool, true, false, Option, Some, None}
use Rattle.std.specs.Prelude.{◌==◌, map, IsTrue}
use Rattle.std.proofs.lemmas.Bool.Decides.{Decides-eqb}
use Rattle.row_model.specs.Lists.{Pairs}
use Rattle.row_model.specs.Fold.{Operator, IsLawful}
use Rattle.fleet_model.specs.Nodes.{tree_at}
use Rattle.fleet_model.specs.Jobs.{JobSpec, Job}
use Rattle.fleet_model.specs.History.{Party, Coordinator, Step, Join}
use Rattle.fleet_model.specs.Store.{Manifest, Store}
use Rattle.fleet_model.specs.Work.Parties.{LiveCoordinator, coordinator_with, without_coordinator}
use Rattle.fleet_model.specs.Work.PollStates.{PollState}
use Rattle.step_model.specs.Rivals.{Caller}
use Rattle.step_model.specs.Fits.{CoordinatorHolds}
use Rattle.step_model.specs.Courses.CourseRuns.{IsLawfulCourse}
use Rattle.step_model.specs.Steps.PollSteps.{poll}
use Rattle.step_laws.proofs.Elements.{all_at}
use Rattle.commit_laws.proofs.AllCalls.{calls_keep}
use Rattle.step_model.specs.Entries.{did_put_epoch}
use Rattle.coordinator_laws.proofs.Quiet.{HasEpoch}
use Rattle.coordinator_laws.specs.PollSays.{PollSays}
use Rattle.coordinator_laws.proofs.Course.{polls_are_lawful}
use Rattle.coordinator_laws.proofs.PollSays.{poll_says}
use Rattle.coordinator_laws.proofs.PollReports.{joins_done, got_jobs}
use Rattle.script_model.specs.Script.{Poll, CommitOnly}
use Rattle.script_model.specs.States.{Inputs, State}
use Rattle.script_model.specs.Replies.{poll_reply, commit_reply}
use Rattle.script_model.specs.LineRuns.{run_line, step_line, line_end, no_such_party, if_some, LineCourse}
use Rattle.script_model.specs.LineCourses.{course_of}
use Rattle.script_model.specs.LineSteps.{OneCourse}
use Rattle.script_model.specs.Lines.PollLines.{poll_ask, polls}
use Rattle.script_model.specs.Lines.Settles.{is_ok}
use Rattle.line_laws.specs.Alone.{HadRoom}
use Rattle.line_laws.specs.States.{StateKeeps}
use Rattle.line_laws.specs.Lines.PollRuns.{input_at, drawn_at, CommitPut}
use Rattle.line_laws.specs.Lines.PollLines.{spell_poll, CommitsRight, PollRan, PollsCommit}
use Rattle.line_laws.specs.Undrained.{flushes_in}
use Rattle.line_laws.proofs.Drains.{commit_flushes}
use Rattle.line_laws.proofs.Parties.{found}
use Rattle.line_laws.proofs.Lines.{caller_of, world_of}
use Rattle.line_laws.proofs.Reports.{StepReported, step_reported}
use Rattle.line_laws.proofs.PollRuns.{poll_did}

-- ---- the steps of a commit

-- Each join of a commit does what a join is to do.
commits_right : (merge : Operator) (line : ℕ) (party : Party) (old : Store) (drawn : List (ℕ × JobSpec)) (p : PollState) (others : List Step) → IsLawful merge → p.steps ≡ map Join p.done ++ others → CommitPut merge line party old drawn p
    → CommitsRight merge line party old drawn p
commits_right merge line party old drawn p others lawful steps put = record {
  put = put;
  trees = ap (λ (m : Manifest). m.trees) put.fits.makes;
  flushes = λ prefix. ap (λ (m : Manifest). flushes_in (tree_at prefix m.trees)) put.fits.makes ∙ commit_flushes merge put.at party put.fits.specs p.steps lawful put.kept put.fits.known put.fits.each prefix;
  joins = joins_done merge put.at party put.fits.specs p.steps p.done others lawful steps put.kept put.fits.known put.fits.each;
}

-- ---- the line

-- The line's poll reported this, from the store of the old state to that of the new one.
pub record Reported (inputs : Inputs) (number : ℕ) (commits_only : Bool) (spell : PollState → List ℕ) (n : ℕ) (old : State) (k : StateKeeps inputs.merge old) (answer : List ℕ) (new : State) : Type 0 where
  pub coordinator : LiveCoordinator
  pub live : coordinator_with n old.parties ≡ Some coordinator
  pub step : StepReported (caller_of inputs.merge number (Coordinator n)) (poll (poll_ask inputs old coordinator commits_only)) spell (λ reached. old.parties) (world_of inputs.merge old k) answer new

-- A poll line with the reply ok is one of a live coordinator, whose poll reported.
pub reported : (inputs : Inputs) (number : ℕ) (commits_only : Bool) (spell : PollState → List ℕ) (n : ℕ) (old : State) (k : StateKeeps inputs.merge old) (answer : List ℕ) (new : State)
    → run_line number old (polls commits_only spell inputs n old) ≡ (answer, new) → HadRoom new.store → is_ok answer ≡ true → Reported inputs number commits_only spell n old k answer new
reported inputs number commits_only spell n old k answer new is room ok = by (coordinator_with n old.parties) refl is
  where
    line : Option LiveCoordinator → LineCourse
    line o = if_some o (no_such_party old) (λ c.
        let gone = without_coordinator n old.parties in
        step_line (Coordinator n) (poll (poll_ask inputs old c commits_only)) (line_end spell (λ reached. old.parties) gone) gone)

    by : (o : Option LiveCoordinator) → coordinator_with n old.parties ≡ o → run_line number old (line o) ≡ (answer, new) → Reported inputs number commits_only spell n old k answer new
    by None live is = let same = ap (λ (p : List ℕ × State). p.0) is in absurd (cc (ap is_ok same ∙ ok))
    by (Some c) live is =
        let gone = without_coordinator n old.parties in
        record { coordinator = c; live = live; step = step_reported inputs.merge number old (Coordinator n) (poll (poll_ask inputs old c commits_only)) spell (λ reached. old.parties) gone gone k answer new is room ok }

-- ---- the law

-- A poll that reported printed the state that it reached, and the store has what it put.
ran : (inputs : Inputs) (number : ℕ) (commits_only : Bool) (n : ℕ) (old : State) (k : StateKeeps inputs.merge old) (answer : List ℕ) (new : State) → IsLawful inputs.merge
    → Reported inputs number commits_only (spell_poll commits_only) n old k answer new → PollRan inputs number commits_only n old answer new
ran inputs number commits_only n old k answer new lawful r =
    let who : Caller = caller_of inputs.merge number (Coordinator n) in
    let world = world_of inputs.merge old k in
    let ask = poll_ask inputs old r.coordinator commits_only in
    let f = found (λ (c : LiveCoordinator). n == c.number) old.parties.coordinators r.coordinator r.live in
    let same : Coordinator n ≡ Coordinator r.coordinator.number = ap Coordinator ((Decides-eqb n r.coordinator.number).0 f.passes) in
    let holds = all_at (λ (c : LiveCoordinator). CoordinatorHolds world c None) old.parties.coordinators r.coordinator k.fleet.coordinators f.there in
    let is : IsLawfulCourse who world (poll ask) = polls_are_lawful who world r.coordinator.number ask None lawful same k.fleet.store holds in
    let own : HasEpoch (Coordinator n) ask.epoch world = record { put = subst (λ party. IsTrue (did_put_epoch party old.store.history ask.epoch)) (sym same) holds.put; recorded = holds.recorded } in
    let d = poll_did who ask world r.step.left r.step.report (calls_keep inputs.merge lawful) refl lawful holds.counted own (record { kept = k.fleet.store; lawful = is; run = r.step.run }) in
    let drawn = drawn_at ask old.store in
    let rise = subst (Pairs (λ (a b : Job). a.id < b.id)) (sym (got_jobs old.store.records)) k.fleet.store.stored.sound.job_ids in
    let says = subst (PollSays commits_only (input_at ask old.store) drawn) (sym d.did.is) (poll_says ask (input_at ask old.store) drawn rise) in
    record {
      coordinator = r.coordinator;
      live = r.live;
      p = r.step.report;
      printed = r.step.printed;
      did = record { is = d.did.is; left = sym r.step.stored ∙ d.did.left };
      says = says;
      jobs = d.jobs;
      right = commits_right inputs.merge number (Coordinator n) old.store drawn r.step.report says.others lawful says.steps d.put;
    }

pub whole_is : (inputs : Inputs) (number : ℕ) (old new : State) (n : ℕ) (answer : List ℕ) → OneCourse inputs number old (Poll n) answer new → run_line number old (polls false poll_reply inputs n old) ≡ (answer, new)
unfolding course_of
whole_is inputs number old new n answer one = ap (run_line number old) (sym one.does.is) ∙ one.ends

pub only_is : (inputs : Inputs) (number : ℕ) (old new : State) (n : ℕ) (answer : List ℕ) → OneCourse inputs number old (CommitOnly n) answer new → run_line number old (polls true commit_reply inputs n old) ≡ (answer, new)
unfolding course_of
only_is inputs number old new n answer one = ap (run_line number old) (sym one.does.is) ∙ one.ends

pub polls_commit : PollsCommit
polls_commit inputs old new false n answer c ok = ran inputs c.number false n old c.keeps answer new c.lawful (reported inputs c.number false poll_reply n old c.keeps answer new (whole_is inputs c.number old new n answer c.course) c.had_room ok)
polls_commit inputs old new true n answer c ok = ran inputs c.number true n old c.keeps answer new c.lawful (reported inputs c.number true commit_reply n old c.keeps answer new (only_is inputs c.number old new n answer c.course) c.had_room ok)
