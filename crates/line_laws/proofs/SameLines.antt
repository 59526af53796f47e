-- The lines after which the same parties are live, if no poll is refused: flushes, submissions, sweeps and polls.
use Rattle.std.proofs.Common.{◌≡◌, ◌≢◌, refl, ap, subst, ℕ, ◌<◌, List, [], ◌∷◌, Bool, true, false, Option, Some, None, length, arith}
use Rattle.std.specs.Prelude.{codes, ◌^◌, ℤ, IsTrue, not, ◌&&◌, ◌==◌, filter}
use Rattle.std.specs.List.{AllByRecursion}
use Rattle.std.proofs.lemmas.Bool.Decides.{Decides-eqb}
use Rattle.row_model.specs.Rows.{Row, Content, Value, Merge, Tombstone}
use Rattle.row_model.specs.Fold.{Operator, IsLawful}
use Rattle.row_model.specs.Written.Sizes.{content_len}
use Rattle.row_model.specs.Bounds.{IsContent, AreRows}
use Rattle.row_model.specs.Bounds as bounds
use Rattle.fleet_model.specs.Jobs.{JobSpec, contains, is_active}
use Rattle.fleet_model.specs.History.{Writer, Submitter, Sweeper, Coordinator}
use Rattle.fleet_model.specs.Store.{Store, stored_jobs}
use Rattle.fleet_model.specs.Handles.{named_tables}
use Rattle.fleet_model.specs.Work.Parties.{LiveWorker, LiveCoordinator, Parties, coordinator_with, without_coordinator}
use Rattle.fleet_model.specs.Work.PollStates.{PollState}
use Rattle.fleet_model.specs.Sweeps.{worker_tables, pinned_tables, swept_tables}
use Rattle.fleet_laws.proofs.Sweeps.{sweep_is_exact}
use Rattle.step_model.specs.Past.{World}
use Rattle.step_model.specs.Entries.{last_name}
use Rattle.step_model.specs.Rivals.{Caller}
use Rattle.step_model.specs.Courses.Course.{Course, Ends, then_course}
use Rattle.step_model.specs.Courses.CourseRuns.{Gives, MeetsFault, IsLawfulCourse}
use Rattle.step_model.specs.Courses.StepEnds.{StepEnd, Reports}
use Rattle.step_model.specs.Steps.FlushSteps.{FlushAsk, flush}
use Rattle.step_model.specs.Steps.SubmitSteps.{submit, submit_request}
use Rattle.step_model.specs.Steps.SweepSteps.{deletes_each, sweep}
use Rattle.step_model.specs.Steps.PollSteps.{poll}
use Rattle.step_model.specs.Fits.{CoordinatorHolds}
use Rattle.step_laws.proofs.Elements.{IsIn, contains_in, in_contains, all_at, all_from}
use Rattle.step_laws.proofs.Deletions.{in_flat}
use Rattle.commit_laws.proofs.AllCalls.{calls_keep}
use Rattle.rival_laws.specs.FitLaws.{SparesTables}
use Rattle.course_laws.specs.Flushes.{MayAsk}
use Rattle.course_laws.proofs.Flushes.{flushes_are_lawful}
use Rattle.course_laws.proofs.Submits.{submits_are_lawful}
use Rattle.coordinator_laws.proofs.Course.{polls_are_lawful}
use Rattle.course_laws.proofs.Sweeps.{NonePending, sweeps_are_lawful}
use Rattle.script_model.specs.States.{Inputs, State}
use Rattle.script_model.specs.Replies.{ok, reply, jobs_text}
use Rattle.script_model.specs.LineRuns.{LineEnd, LineCourse, run_line, step_line, step_parties, line_end, no_such_party, if_some, only_replies}
use Rattle.script_model.specs.Lines.Flushes.{flush_line}
use Rattle.script_model.specs.Lines.Submits.{submits, submit_line, full_line, request_of}
use Rattle.script_model.specs.Lines.Sweeps.{sweep_line}
use Rattle.script_model.specs.Lines.PollLines.{poll_ask, polls}
use Rattle.script_model.specs.Script.{FlushRows, IsInBounds}
use Rattle.line_laws.specs.Alone.{HadRoom}
use Rattle.line_laws.specs.States.{FleetKeeps, StateKeeps}
use Rattle.line_laws.proofs.Courses.{AllCalls}
use Rattle.line_laws.proofs.Parties.{found}
use Rattle.line_laws.proofs.Lines.{caller_of, world_of, Left, line_keeps, all_stay, coordinator_gone}
use Rattle.line_laws.proofs.Steps.{none_comes, step_ended, step_lawful, stays_line}
use Rattle.line_laws.proofs.Flushes.{flush_none}

-- ---- lines that only reply

pub reply_keeps : (merge : Operator) (number : ℕ) (s : State) (answer : List ℕ) → StateKeeps merge s → StateKeeps merge (run_line number s (only_replies s answer)).1
reply_keeps merge number s answer k = record { past = k.past; fleet = k.fleet }

pub no_party_keeps : (merge : Operator) (number : ℕ) (s : State) → StateKeeps merge s → StateKeeps merge (run_line number s (no_such_party s)).1
no_party_keeps merge number s k = reply_keeps merge number s (reply (codes "nosuchparty" ∷ [])) k

-- ---- flushes

content_bound : (content : Content) → IsContent content → content_len content < 2 ^ 32
content_bound (Value bytes) is = is.1
content_bound (Merge bytes) is = is.1
content_bound Tombstone is = omega arith

rows_bound : (rows : List Row) → AreRows rows → AllByRecursion bounds.IsInBounds rows
rows_bound [] are = tt
rows_bound (r ∷ rows) are = (record { key = are.0.key.2; content = content_bound r.content are.0.content }, rows_bound rows are.1)

some_rows : (rows : List Row) → 0 < length rows → rows ≢ []
some_rows [] some same = absurd (omega (arith, some))
some_rows (r ∷ rows) some same = absurd (cc same)

may_ask : (name : ℕ) (segment : List ℕ) (floor : ℕ) (tick : ℤ) (rows : List Row) → IsInBounds (FlushRows name segment floor tick rows) → MayAsk (record { name = name; segment = segment; floor = floor; tick = tick; rows = rows })
may_ask name segment floor tick rows is = let low = is.0.1 in record { is_name = omega (arith, low); some = some_rows rows is.4; bounds = rows_bound rows is.5 }

pub flush_keeps : (merge : Operator) (number : ℕ) (name : ℕ) (segment : List ℕ) (floor : ℕ) (tick : ℤ) (rows : List Row) (s : State) (k : StateKeeps merge s) → IsLawful merge → IsInBounds (FlushRows name segment floor tick rows)
    → HadRoom (run_line number s (flush_line name segment floor tick rows s)).1.store → StateKeeps merge (run_line number s (flush_line name segment floor tick rows s)).1
flush_keeps merge number name segment floor tick rows s k lawful is room =
    let ask : FlushAsk = record { name = name; segment = segment; floor = floor; tick = tick; rows = rows } in
    let who : Caller = caller_of merge number Writer in
    stays_line merge number s Writer (flush s.moment s.options.retention (last_name s.store.history) ask) (λ done. ok) k lawful (λ w same. absurd (cc same))
    (flushes_are_lawful who (world_of merge s k) s.moment s.options.retention (last_name s.store.history) ask (calls_keep merge lawful) k.fleet.store refl (may_ask name segment floor tick rows is) (omega arith)) (λ course. tt)
    (λ new end run whole. flush_none who s.moment s.options.retention (last_name s.store.history) ask (line_end (λ done. ok) (λ done. s.parties) s.parties) (world_of merge s k) new end refl refl whole k.fleet.none_pending run) room

-- ---- submissions

submits_keep : (merge : Operator) (number : ℕ) (word : List ℕ) (step : Course (StepEnd (List ℕ))) (s : State) (k : StateKeeps merge s) → IsLawful merge → IsLawfulCourse (caller_of merge number Submitter) (world_of merge s k) step
    → HadRoom (run_line number s (submits s word step)).1.store → StateKeeps merge (run_line number s (submits s word step)).1
submits_keep merge number word step s k lawful step_is room =
    let who : Caller = caller_of merge number Submitter in
    stays_line merge number s Submitter step (λ jobs. reply (codes "ok" ∷ word ∷ jobs_text jobs ∷ [])) k lawful (λ w same. absurd (cc same)) step_is (λ course. tt)
    (λ new end run whole. none_comes who (then_course step _) (world_of merge s k) new end lawful refl refl k.fleet.store (step_lawful who step _ (world_of merge s k) step_is) k.fleet.none_pending run) room

pub submit_keeps : (merge : Operator) (number : ℕ) (spec : JobSpec) (s : State) → StateKeeps merge s → IsLawful merge → HadRoom (run_line number s (submit_line spec s)).1.store → StateKeeps merge (run_line number s (submit_line spec s)).1
submit_keeps merge number spec s k lawful room =
    submits_keep merge number (codes "job") (submit s.moment (spec ∷ [])) s k lawful ((submits_are_lawful (caller_of merge number Submitter) (world_of merge s k)).submits s.moment (spec ∷ []) (calls_keep merge lawful) k.fleet.store refl) room

pub full_keeps : (inputs : Inputs) (number : ℕ) (segment : Option (List ℕ)) (s : State) → StateKeeps inputs.merge s → IsLawful inputs.merge → HadRoom (run_line number s (full_line inputs segment s)).1.store
    → StateKeeps inputs.merge (run_line number s (full_line inputs segment s)).1
full_keeps inputs number segment s k lawful room =
    submits_keep inputs.merge number (codes "jobs") (submit_request s.moment inputs.scheduler (request_of segment)) s k lawful
    ((submits_are_lawful (caller_of inputs.merge number Submitter) (world_of inputs.merge s k)).requests s.moment inputs.scheduler (request_of segment) (calls_keep inputs.merge lawful) k.fleet.store refl) room

-- ---- sweeps

unpinned : (a b : Bool) → IsTrue (not a && not b) → b ≡ false
unpinned false false h = refl
unpinned false true h = absurd (cc h)
unpinned true b h = absurd (cc h)

-- A table that no worker holds is not held by this one.
not_held : (parties : Parties) (w : LiveWorker) (table : ℕ) → IsIn w parties.workers → contains (pinned_tables parties) table ≡ false → contains (worker_tables w) table ≡ false
not_held parties w table there none = by (contains (worker_tables w) table) refl
  where
    by : (b : Bool) → contains (worker_tables w) table ≡ b → b ≡ false
    by true e = absurd (cc (none, in_contains (pinned_tables parties) table (in_flat worker_tables parties.workers w table there (contains_in (worker_tables w) table e))))
    by false e = refl

deletes_spare : {A B : Type 0} (w : LiveWorker) (tables : List ℕ) (answer : A) (rest : A → B) → AllByRecursion (λ table. contains (worker_tables w) table ≡ false) tables
    → AllCalls (SparesTables w) (then_course (deletes_each tables (Ends answer)) (λ a. Ends (rest a)))
deletes_spare w [] answer rest all = tt
deletes_spare w (table ∷ tables) answer rest all = (all.0, λ met. deletes_spare w tables answer rest all.1)

-- A sweep deletes no table that a live worker holds.
pub sweep_spares : {B : Type 0} (parties : Parties) (w : LiveWorker) (rest : List ℕ → B) → IsIn w parties.workers → AllCalls (SparesTables w) (then_course (sweep (pinned_tables parties)) (λ tables. Ends (rest tables)))
unfolding sweep
sweep_spares parties w rest there = (
  tt,
  λ first. (
    tt,
    λ second. (
      tt,
      λ met.
          let store : Store = record met { manifest = first.manifest; records = second.records } in
          let pins = pinned_tables parties in
          deletes_spare w (swept_tables pins store) (swept_tables pins store) rest
          (all_from _ (swept_tables pins store) (λ table one.
          not_held parties w table there (unpinned (contains (named_tables store.manifest.trees (filter is_active (stored_jobs store))) table) (contains pins table) ((sweep_is_exact pins store table).0 (in_contains (swept_tables pins store) table one)).1))),
    ),
  ),
)

-- Under a lawful operator, a sweep line keeps the invariant if there was room.
pub sweep_keeps : (merge : Operator) (number : ℕ) (s : State) (k : StateKeeps merge s) → IsLawful merge → HadRoom (run_line number s (sweep_line s)).1.store → StateKeeps merge (run_line number s (sweep_line s)).1
sweep_keeps merge number s k lawful room =
    let who : Caller = caller_of merge number Sweeper in
    let c : LineCourse = sweep_line s in
    let is : IsLawfulCourse who (world_of merge s k) c.course = step_lawful who (sweep (pinned_tables s.parties)) _ (world_of merge s k) (sweeps_are_lawful who (world_of merge s k) (pinned_tables s.parties) refl refl k.fleet.store k.fleet.none_pending) in
    line_keeps merge number s c k lawful is (λ w there. sweep_spares s.parties w _ there) (record {
      struck = λ new run left. all_stay merge number Sweeper (world_of merge s k) new s.parties (λ w same. absurd (cc same)) k.fleet left (none_comes who c.course (world_of merge s k) new MeetsFault lawful refl refl k.fleet.store is k.fleet.none_pending run);
      gives = λ new end run left.
          let ended = step_ended who (sweep (pinned_tables s.parties)) _ (world_of merge s k) new end run in
          subst (FleetKeeps merge new) (ap (λ (e : LineEnd). e.parties) ended.is)
          (all_stay merge number Sweeper (world_of merge s k) new s.parties (λ w same. absurd (cc same)) k.fleet left (none_comes who c.course (world_of merge s k) new (Gives end) lawful refl refl k.fleet.store is k.fleet.none_pending run));
    }) room

-- ---- polls

-- Under a lawful operator, a poll line keeps the invariant if there was room, however the poll ends.
pub polls_keep : (inputs : Inputs) (number : ℕ) (commits_only : Bool) (spell : PollState → List ℕ) (n : ℕ) (s : State) (k : StateKeeps inputs.merge s) → IsLawful inputs.merge → HadRoom (run_line number s (polls commits_only spell inputs n s)).1.store
    → StateKeeps inputs.merge (run_line number s (polls commits_only spell inputs n s)).1
polls_keep inputs number commits_only spell n s k lawful room = by (coordinator_with n s.parties) refl room
  where
    who : Caller
    who = caller_of inputs.merge number (Coordinator n)

    line : Option LiveCoordinator → LineCourse
    line o = if_some o (no_such_party s) (λ c.
        let gone = without_coordinator n s.parties in
        step_line (Coordinator n) (poll (poll_ask inputs s c commits_only)) (line_end spell (λ reached. s.parties) gone) gone)

    ends : (new : World) (end : StepEnd PollState) → Left who s.parties new → NonePending new.store → FleetKeeps inputs.merge new (step_parties (λ (reached : PollState). s.parties) (without_coordinator n s.parties) end)
    ends new (Reports reached) left none = all_stay inputs.merge number (Coordinator n) (world_of inputs.merge s k) new s.parties (λ w same. absurd (cc same)) k.fleet left none
    ends new end left none = coordinator_gone inputs.merge number n (world_of inputs.merge s k) new s.parties k.fleet left none

    by : (o : Option LiveCoordinator) → coordinator_with n s.parties ≡ o → HadRoom (run_line number s (line o)).1.store → StateKeeps inputs.merge (run_line number s (line o)).1
    by None e room = no_party_keeps inputs.merge number s k
    by (Some c) e room =
        let f = found (λ (c : LiveCoordinator). n == c.number) s.parties.coordinators c e in
        let same : n ≡ c.number = (Decides-eqb n c.number).0 f.passes in
        let step = poll (poll_ask inputs s c commits_only) in
        let gone = without_coordinator n s.parties in
        let is : IsLawfulCourse who (world_of inputs.merge s k) (line (Some c)).course = step_lawful who step (line_end spell (λ reached. s.parties) gone) (world_of inputs.merge s k)
        (polls_are_lawful who (world_of inputs.merge s k) c.number (poll_ask inputs s c commits_only) None lawful (ap Coordinator same) k.fleet.store
        (all_at (λ (c : LiveCoordinator). CoordinatorHolds (world_of inputs.merge s k) c None) s.parties.coordinators c k.fleet.coordinators f.there)) in
        line_keeps inputs.merge number s (line (Some c)) k lawful is tt (record {
          struck = λ new run left. coordinator_gone inputs.merge number n (world_of inputs.merge s k) new s.parties k.fleet left (none_comes who (line (Some c)).course (world_of inputs.merge s k) new MeetsFault lawful refl refl k.fleet.store is k.fleet.none_pending run);
          gives = λ new end run left.
              let ended = step_ended who step (line_end spell (λ reached. s.parties) gone) (world_of inputs.merge s k) new end run in
              subst (FleetKeeps inputs.merge new) (ap (λ (e : LineEnd). e.parties) ended.is)
              (ends new ended.answer left (none_comes who (line (Some c)).course (world_of inputs.merge s k) new (Gives end) lawful refl refl k.fleet.store is k.fleet.none_pending run));
        }) room
