-- What a poll has reached after step 2 for one job, and for several.
use Rattle.std.proofs.Common.{◌≡◌, refl, sym, ◌∙◌, ap, subst, ℕ, suc, zero, ◌+◌, ◌<◌, ◌≤◌, arith, length, get_or, drop, List, [], ◌∷◌, Bool, true, false, cond}
use Rattle.std.specs.Prelude.{◌==◌, filter, IfSome, IsSome, Option, Some, None}
use Rattle.std.specs.List.{AllByRecursion}
use Rattle.std.specs.Option.{ForSome}
use Rattle.std.proofs.lemmas.Bool.{eq-eqb, eqb-true}
use Rattle.row_model.specs.Lists.{Pairs}
use Rattle.fleet_model.specs.Invariants.JobsFit.{DestinationFits, SourcesStand}
use Rattle.fleet_model.specs.Jobs.{Compacted, has_status}
use Rattle.fleet_model.specs.Nodes.{NodeName, Tree, Trees, tree_at}
use Rattle.fleet_model.specs.Store.{Manifest}
use Rattle.fleet_model.specs.Work.Gates.{commit_gate}
use Rattle.fleet_model.specs.Work.PollStates.{PollInput, accepts}
use Rattle.fleet_model.specs.Work.Polls.{commit_by, commit_finished, commit_job, each}
use Rattle.fleet_model.specs.Work.Scheduler.{Scheduler}
use Rattle.fleet_tree.specs.Trees.{RunFlushes, trees_of}
use Rattle.fleet_tree.specs.declared.handle.SsTableHandle.{SsTableHandle}
use Rattle.fleet_jobs.specs.Jobs.{job_handles, job_ids, job_of, jobs_of}
use Rattle.fleet_jobs.specs.Laws.{names_of}
use Rattle.fleet_jobs.specs.Parts.JobParts.{JobParts}
use Rattle.fleet_jobs.specs.Specs.{destination_of, segment_of, spec_of}
use Rattle.fleet_jobs.proofs.ModelPlaces.{standing_sources_stand}
use Rattle.fleet_book.specs.Records.{AreRising, record_with}
use Rattle.fleet_book.specs.StateParts.{StateParts}
use Rattle.fleet_book.specs.States.{own_jobs}
use Rattle.fleet_gates.specs.Rules.{rule_number}
use Rattle.fleet_gates.specs.declared.rule.Rule.{Rule}
use Rattle.fleet_poll.specs.Made.{EndsRise, flushes_committed, own_core, written_tables}
use Rattle.fleet_poll.specs.Polls.{poll_of}
use Rattle.fleet_poll.specs.Seen.{MatchTables, Sees}
use Rattle.fleet_poll.specs.Shown.{PassesCommit, commit_rule}
use Rattle.fleet_poll.specs.Loops.{CommitsStand, HasReached, LostAreOver, MayCommit, MayJoin, OthersStay, StillSees, is_compacted}
use Rattle.fleet_poll.specs.declared.poll.Poll.{Poll}
use Rattle.fleet_poll.proofs.Alike.{accepted_alike}
use Rattle.fleet_poll.proofs.MatchedTables.{found_holds, written_matched}

-- ---- one job

-- What the gate said of the job that is found.
abbrev pub SaidOf : Scheduler → StateParts → Option Rule → JobParts → Type 0
SaidOf s state failed job = (flushes : RunFlushes) → rule_number failed ≡ commit_rule flushes s state job

pub said_of : (s : Scheduler) (state : StateParts) (failed : Option Rule) (found : Option JobParts) → ((flushes : RunFlushes) → IfSome found (λ job. rule_number failed ≡ commit_rule flushes s state job)) → IfSome found (SaidOf s state failed)
said_of s state failed None said = tt
said_of s state failed (Some job) said = said

pub may_join_in : (s : Scheduler) (state : StateParts) (failed : Option Rule) (found : Option JobParts) → IfSome found (SaidOf s state failed)
    → ForSome found (λ job. PassesCommit s state job → MayJoin job (own_core state)) → failed ≡ None → ForSome found (λ job. MayJoin job (own_core state))
may_join_in s state failed found said may none job e =
    let here : SaidOf s state failed job = subst (λ f. IfSome f (SaidOf s state failed)) e said in
    may job e (λ flushes. sym (here flushes) ∙ ap rule_number none)

-- What the model's gate says of a job is what the program's gate says.
pub rule_alike : (flushes : RunFlushes) (input : PollInput) (s : Scheduler) (poll : Poll) (job : JobParts) → Sees input s poll.state
    → commit_gate (poll_of flushes poll).trees (accepts input (poll_of flushes poll)) (job_of job) ≡ commit_rule flushes s poll.state job
rule_alike flushes input s poll job sees = ap (λ b. commit_gate (trees_of flushes (own_core poll.state)) (λ spec. b) (job_of job)) (accepted_alike flushes input s poll sees (spec_of job.spec))

pub floor_is : (input : PollInput) (s : Scheduler) (state : StateParts) → Sees input s state → input.manifest.floor ≡ (own_core state).recent_snapshot_min_seq
floor_is input s state sees = ap (λ (m : Manifest). m.floor) sees.manifest

pub committed_in : (flushes : RunFlushes) (input : PollInput) (s : Scheduler) (before after : Poll) (failed : Option Rule) (found : Option JobParts) → Sees input s before.state → IfSome found (SaidOf s before.state failed)
    → IfSome found (λ job. poll_of (flushes_committed (rule_number failed) job (own_core before.state) flushes) after ≡ commit_by input (job_of job) (rule_number failed) (poll_of flushes before))
    → IfSome found (λ job. poll_of (flushes_committed (commit_rule flushes s before.state job) job (own_core before.state) flushes) after ≡ commit_job input (job_of job) (poll_of flushes before))
committed_in flushes input s before after failed None sees said is = tt
committed_in flushes input s before after failed (Some job) sees said is =
    let p = poll_of flushes before in
    subst (λ n. poll_of (flushes_committed n job (own_core before.state) flushes) after ≡ commit_by input (job_of job) n p) (said flushes) is
    ∙ ap (λ n. commit_by input (job_of job) n p) (sym (rule_alike flushes input s before job sees))

-- ---- a job whose sources stand

makes_run : (trees : Trees) (tree : Tree) (sources : List NodeName) (destination : Option ℕ) → DestinationFits trees tree sources destination → IsSome destination
makes_run trees tree sources None fits = absurd fits
makes_run trees tree sources (Some id) fits = refl

ends_rise : (input : PollInput) (tables : List SsTableHandle) → MatchTables input.tables tables → EndsRise tables
ends_rise input [] matched = tt
ends_rise input (table ∷ tables) matched = (matched.0.rising, ends_rise input tables matched.1)

-- A job that passes its gate may be joined, if its sources stand whenever it passes the model's gate.
pub stands_in : (flushes : RunFlushes) (input : PollInput) (s : Scheduler) (poll : Poll) (id : ℕ) (job : JobParts) → Sees input s poll.state → record_with id (own_jobs poll.state) ≡ Some job
    → (commit_gate (poll_of flushes poll).trees (accepts input (poll_of flushes poll)) (job_of job) ≡ None → SourcesStand (poll_of flushes poll).trees (job_of job))
    → PassesCommit s poll.state job → MayJoin job (own_core poll.state)
stands_in flushes input s poll id job sees found stands passes =
    let core = own_core poll.state in
    let stand = stands (rule_alike flushes input s poll job sees ∙ passes flushes) in
    let matched = found_holds (λ j. MatchTables input.tables (job_handles j)) id (own_jobs poll.state) job found sees.jobs in
    record {
      run = makes_run (trees_of flushes core) (tree_at (segment_of job.spec) (trees_of flushes core)) (names_of job.spec) (destination_of job.spec) stand.destination;
      keys = ends_rise input (written_tables job) (written_matched input.tables job matched);
      stand = standing_sources_stand flushes job core stand;
    }

-- ---- the next job

-- The first of the jobs that are left, and those after it.
pub record NextLeft (jobs : List JobParts) (i id : ℕ) : Type 0 where
  pub first : JobParts
  pub rest : List JobParts
  pub here : drop i jobs ≡ first ∷ rest
  pub later : drop (i + 1) jobs ≡ rest
  pub named : first.id ≡ id

pub next_left : (jobs : List JobParts) (i id : ℕ) → i < length (job_ids jobs) → id ≡ get_or (job_ids jobs) i id → NextLeft jobs i id
next_left [] i id below is = absurd (omega (arith, below))
next_left (job ∷ jobs) zero id below is = record { first = job; rest = jobs; here = refl; later = refl; named = sym is }
next_left (job ∷ jobs) (suc i) id below is =
    let n = next_left jobs i id (omega (arith, below)) is in
    let counts : suc i + 1 ≡ suc (i + 1) = omega (arith) in
    record { first = n.first; rest = n.rest; here = n.here; later = ap (λ k. drop k (job ∷ jobs)) counts ∙ n.later; named = n.named }

-- The same of a list that has the ids of the jobs.
pub next_of : (jobs : List JobParts) (all : List ℕ) (i id : ℕ) → all ≡ job_ids jobs → i < length all → id ≡ get_or all i id → NextLeft jobs i id
next_of jobs all i id same below is = next_left jobs i id (subst (λ l. i < length l) same below) (subst (λ l. id ≡ get_or l i id) same is)

-- None is left after as many as there are.
none_left : (jobs : List JobParts) (i : ℕ) → length (job_ids jobs) ≤ i → drop i jobs ≡ []
none_left [] zero below = refl
none_left [] (suc i) below = refl
none_left (job ∷ jobs) zero below = absurd (omega (arith, below))
none_left (job ∷ jobs) (suc i) below = none_left jobs i (omega (arith, below))

pub all_done : (jobs : List JobParts) (all : List ℕ) (i : ℕ) → all ≡ job_ids jobs → length all ≤ i → drop i jobs ≡ []
all_done jobs all i same below = none_left jobs i (subst (λ l. length l ≤ i) same below)

-- ---- several jobs

-- What is left to be done for the model's poll, from what the program's poll has reached.
pub record CommitGoes (flushes : RunFlushes) (input : PollInput) (s : Scheduler) (initial : Poll) (left : List JobParts) (now : Poll) : Type 0 where
  pub sees : Sees input s now.state
  pub own : RunFlushes
  pub is : each (commit_job input) (jobs_of left) (poll_of own now) ≡ commit_finished input (poll_of flushes initial)

-- The jobs that are left may be committed, and are as they were. What the poll has reached by the others is what the
-- model's poll has.
pub record CommitsOn (s : Scheduler) (initial : Poll) (left : List JobParts) (now : Poll) : Type 0 where
  pub may : MayCommit s left now
  pub there : AllByRecursion (λ job. (record_with job.id (own_jobs now.state) ≡ Some job) × (is_compacted job ≡ true)) left
  pub apart : Pairs (λ a b. (a.id == b.id) ≡ false) left
  pub lost : LostAreOver initial → LostAreOver now
  pub going : (flushes : RunFlushes) (input : PollInput) → Sees input s initial.state → CommitGoes flushes input s initial left now

pub still_there : (p : JobParts → Bool) (id : ℕ) (old new : StateParts) (left : List JobParts) → OthersStay id old new → AllByRecursion (λ job. (id == job.id) ≡ false) left
    → AllByRecursion (λ job. (record_with job.id (own_jobs old) ≡ Some job) × (p job ≡ true)) left → AllByRecursion (λ job. (record_with job.id (own_jobs new) ≡ Some job) × (p job ≡ true)) left
still_there p id old new [] stay apart there = tt
still_there p id old new (job ∷ left) stay apart there = ((stay job.id apart.0 ∙ there.0.0, there.0.1), still_there p id old new left stay apart.1 there.1)

-- After the step for the first job, those after it are left.
pub commits_more : (s : Scheduler) (initial now after : Poll) (job : JobParts) (rest : List JobParts) → CommitsOn s initial (job ∷ rest) now → OthersStay job.id now.state after.state → StillSees now.state after.state → (LostAreOver now → LostAreOver after)
    → ((flushes : RunFlushes) (input : PollInput) → Sees input s now.state → poll_of (flushes_committed (commit_rule flushes s now.state job) job (own_core now.state) flushes) after ≡ commit_job input (job_of job) (poll_of flushes now))
    → CommitsOn s initial rest after
commits_more s initial now after job rest c stay still over step = record {
  may = record {
    flushes = made c.may.flushes;
    input = c.may.input;
    sees = still c.may.input s c.may.sees;
    stand = subst (CommitsStand c.may.input (jobs_of rest)) (sym (step c.may.flushes c.may.input c.may.sees)) c.may.stand.1;
  };
  there = still_there is_compacted job.id now.state after.state rest stay c.apart.0 c.there.1;
  apart = c.apart.1;
  lost = λ all. over (c.lost all);
  going = λ flushes input sees. more flushes input (c.going flushes input sees);
}
  where
    made : RunFlushes → RunFlushes
    made flushes = flushes_committed (commit_rule flushes s now.state job) job (own_core now.state) flushes

    more : (flushes : RunFlushes) (input : PollInput) → CommitGoes flushes input s initial (job ∷ rest) now → CommitGoes flushes input s initial rest after
    more flushes input goes = record {
      sees = still input s goes.sees;
      own = made goes.own;
      is = ap (each (commit_job input) (jobs_of rest)) (step goes.own input goes.sees) ∙ goes.is;
    }

-- ---- the start

pub compacted_are : (jobs : List JobParts) → jobs_of (filter is_compacted jobs) ≡ filter (has_status Compacted) (jobs_of jobs)
compacted_are [] = refl
compacted_are (job ∷ jobs) = by (is_compacted job) (compacted_are jobs)
  where
    by : (b : Bool) → jobs_of (filter is_compacted jobs) ≡ filter (has_status Compacted) (jobs_of jobs)
        → jobs_of (cond b (job ∷ filter is_compacted jobs) (filter is_compacted jobs)) ≡ cond b (job_of job ∷ filter (has_status Compacted) (jobs_of jobs)) (filter (has_status Compacted) (jobs_of jobs))
    by true rest = ap (λ js. job_of job ∷ js) rest
    by false rest = rest

below_apart : (a b : ℕ) → a < b → (a == b) ≡ false
below_apart a b below = by (a == b) refl
  where
    by : (c : Bool) → (a == b) ≡ c → c ≡ false
    by true e = let same = eqb-true a b e in absurd (omega (arith, below, same))
    by false e = refl

-- Each of the jobs is found by its id.
pub all_found : (jobs : List JobParts) → AreRising jobs → AllByRecursion (λ job. record_with job.id jobs ≡ Some job) jobs
all_found [] rising = tt
all_found (first ∷ jobs) rising = (own_found first jobs, later_found jobs rising.0 (all_found jobs rising.1))
  where
    own_found : (job : JobParts) (rest : List JobParts) → record_with job.id (job ∷ rest) ≡ Some job
    own_found job rest = ap (λ b. cond b (Some job) (record_with job.id rest)) (eq-eqb job.id job.id refl)

    later_found : (rest : List JobParts) → AllByRecursion (λ job. first.id < job.id) rest → AllByRecursion (λ job. record_with job.id jobs ≡ Some job) rest → AllByRecursion (λ job. record_with job.id (first ∷ jobs) ≡ Some job) rest
    later_found [] above all = tt
    later_found (job ∷ rest) above all = (ap (λ b. cond b (Some first) (record_with job.id jobs)) (below_apart first.id job.id above.0) ∙ all.0, later_found rest above.1 all.1)

pub all_picked : (p : JobParts → Bool) (P : JobParts → Type 0) (jobs : List JobParts) → AllByRecursion P jobs → AllByRecursion (λ job. P job × (p job ≡ true)) (filter p jobs)
all_picked p P [] all = tt
all_picked p P (job ∷ jobs) all = by (p job) refl (all_picked p P jobs all.1)
  where
    by : (b : Bool) → p job ≡ b → AllByRecursion (λ j. P j × (p j ≡ true)) (filter p jobs) → AllByRecursion (λ j. P j × (p j ≡ true)) (cond b (job ∷ filter p jobs) (filter p jobs))
    by true e rest = ((all.0, e), rest)
    by false e rest = rest

-- What holds of all jobs holds of those that are picked.
picked_hold : (p : JobParts → Bool) (P : JobParts → Type 0) (jobs : List JobParts) → AllByRecursion P jobs → AllByRecursion P (filter p jobs)
picked_hold p P [] all = tt
picked_hold p P (job ∷ jobs) all = by (p job) (picked_hold p P jobs all.1)
  where
    by : (b : Bool) → AllByRecursion P (filter p jobs) → AllByRecursion P (cond b (job ∷ filter p jobs) (filter p jobs))
    by true rest = (all.0, rest)
    by false rest = rest

all_apart : (id : ℕ) (jobs : List JobParts) → AllByRecursion (λ job. id < job.id) jobs → AllByRecursion (λ job. (id == job.id) ≡ false) jobs
all_apart id [] above = tt
all_apart id (job ∷ jobs) above = (below_apart id job.id above.0, all_apart id jobs above.1)

pub picked_apart : (p : JobParts → Bool) (jobs : List JobParts) → AreRising jobs → Pairs (λ a b. (a.id == b.id) ≡ false) (filter p jobs)
picked_apart p [] rising = tt
picked_apart p (job ∷ jobs) rising = by (p job) (picked_apart p jobs rising.1)
  where
    by : (b : Bool) → Pairs (λ a b. (a.id == b.id) ≡ false) (filter p jobs) → Pairs (λ a b. (a.id == b.id) ≡ false) (cond b (job ∷ filter p jobs) (filter p jobs))
    by true rest = (picked_hold p (λ other. (job.id == other.id) ≡ false) jobs (all_apart job.id jobs rising.0), rest)
    by false rest = rest

pub no_jobs : (jobs : List JobParts) → job_ids jobs ≡ [] → jobs ≡ []
no_jobs [] none = refl
no_jobs (job ∷ jobs) none = absurd (cc none)

-- Without a Compacted job, nothing is to be done.
pub commits_none : (flushes : RunFlushes) (input : PollInput) (poll : Poll) (ids : List ℕ) → ids ≡ job_ids (filter is_compacted (own_jobs poll.state)) → ids ≡ [] → HasReached poll (commit_finished input (poll_of flushes poll))
commits_none flushes input poll ids are none =
    let jobs = own_jobs poll.state in
    let left = no_jobs (filter is_compacted jobs) (sym are ∙ none) in
    record { flushes = flushes; is = ap (λ js. each (commit_job input) js (poll_of flushes poll)) (ap jobs_of (sym left) ∙ compacted_are jobs) }

-- Before the first commit, all Compacted jobs are left, and may be committed one after the other.
pub commits_begin : (s : Scheduler) (initial : Poll) → AreRising (own_jobs initial.state) → MayCommit s (filter is_compacted (own_jobs initial.state)) initial → CommitsOn s initial (filter is_compacted (own_jobs initial.state)) initial
commits_begin s initial rising may = record {
  may = may;
  there = all_picked is_compacted (λ job. record_with job.id (own_jobs initial.state) ≡ Some job) (own_jobs initial.state) (all_found (own_jobs initial.state) rising);
  apart = picked_apart is_compacted (own_jobs initial.state) rising;
  lost = λ all. all;
  going = λ flushes input sees. record {
    sees = sees;
    own = flushes;
    is = ap (λ js. each (commit_job input) js (poll_of flushes initial)) (compacted_are (own_jobs initial.state));
  };
}

pub commits_end : (s : Scheduler) (initial now : Poll) (flushes : RunFlushes) (input : PollInput) → CommitsOn s initial [] now → Sees input s initial.state → HasReached now (commit_finished input (poll_of flushes initial))
commits_end s initial now flushes input c sees = let goes = c.going flushes input sees in record { flushes = goes.own; is = goes.is }

-- ---- the turn of a job

-- What the step for a job asks, and what it gives.
module _ (s : Scheduler) (initial now : Poll) (job : JobParts) (rest : List JobParts) (id : ℕ) (c : CommitsOn s initial (job ∷ rest) now) (same : job.id ≡ id) where
  pub is_there : record_with id (own_jobs now.state) ≡ Some job
  is_there = ap (λ n. record_with n (own_jobs now.state)) (sym same) ∙ c.there.0.0

  pub some_there : IsSome (record_with id (own_jobs now.state))
  some_there = subst IsSome (sym is_there) refl

  only_one : (other : JobParts) → record_with id (own_jobs now.state) ≡ Some other → job ≡ other
  only_one other e = cc (sym is_there ∙ e)

  pub all_compacted : ForSome (record_with id (own_jobs now.state)) (λ other. has_status Compacted (job_of other) ≡ true)
  all_compacted other e = subst (λ j. is_compacted j ≡ true) (only_one other e) c.there.0.1

  pub all_may_join : ForSome (record_with id (own_jobs now.state)) (λ other. PassesCommit s now.state other → MayJoin other (own_core now.state))
  all_may_join other e = stands_in c.may.flushes c.may.input s now id other c.may.sees e (subst (λ j. commit_gate (poll_of c.may.flushes now).trees (accepts c.may.input (poll_of c.may.flushes now)) (job_of j) ≡ None → SourcesStand (poll_of c.may.flushes now).trees (job_of j)) (only_one other e) c.may.stand.0)

  -- After a step that is the model's for the job that is found, the next ones are left.
  pub turned : (after : Poll) → OthersStay id now.state after.state → StillSees now.state after.state → (LostAreOver now → LostAreOver after)
      → ((flushes : RunFlushes) (input : PollInput) → Sees input s now.state → IfSome (record_with id (own_jobs now.state)) (λ other. poll_of (flushes_committed (commit_rule flushes s now.state other) other (own_core now.state) flushes) after ≡ commit_job input (job_of other) (poll_of flushes now)))
      → CommitsOn s initial rest after
  turned after stay still over step =
      commits_more s initial now after job rest c (subst (λ n. OthersStay n now.state after.state) (sym same) stay) still over
      (λ flushes input sees. subst (λ f. IfSome f (λ other. poll_of (flushes_committed (commit_rule flushes s now.state other) other (own_core now.state) flushes) after ≡ commit_job input (job_of other) (poll_of flushes now))) is_there (step flushes input sees))

pub commits_see : (s : Scheduler) (initial now : Poll) (left : List JobParts) (flushes : RunFlushes) (input : PollInput) → CommitsOn s initial left now → Sees input s initial.state → Sees input s now.state
commits_see s initial now left flushes input c sees = (c.going flushes input sees).sees
