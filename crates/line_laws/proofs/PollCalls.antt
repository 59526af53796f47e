-- What a poll calls and how it ends, if nobody disturbs it.
use Rattle.std.proofs.Common.{◌≡◌, refl, sym, ◌∙◌, ap, subst, ℕ, suc, ◌+◌, List, [], ◌∷◌, ◌++◌, cond, Bool, true, false, Option, Some, None}
use Rattle.std.specs.Prelude.{◌==◌, nat_lt, map}
use Rattle.std.proofs.lemmas.Bool.Decides.{Decides-eqb}
use Rattle.fleet_model.specs.Jobs.{JobSpec, trimmed_jobs}
use Rattle.fleet_model.specs.Store.{Manifest, Records, Store}
use Rattle.fleet_model.specs.History.{Party, Event, Coordinator, GetManifest, GetRecords, PutManifest, PutRecords, Commit, Polled, Done, Conflict}
use Rattle.fleet_model.specs.Work.PollStates.{PollState}
use Rattle.fleet_model.specs.Work.Polls.{change_of, is_nothing}
use Rattle.fleet_model.specs.Work.Parties.{LiveCoordinator, Parties, coordinator_with, without_coordinator}
use Rattle.fleet_model.specs.Exchanges.{Plain, DrawsJob, PutsManifest, PutsRecords, records_version, records_answer, next_job_id, event_of, answer_of, after_answered, does_stand}
use Rattle.step_model.specs.Courses.Alone.{AloneEnd, run_alone}
use Rattle.step_model.specs.Courses.Course.{Course, Ends, Calls, then_course, draws_jobs, gets_records, puts_manifest, puts_records}
use Rattle.step_model.specs.Courses.Tries.{counted_tries}
use Rattle.step_model.specs.Courses.StepEnds.{StepEnd, Reports, GivesUp, Fenced, most_refused}
use Rattle.step_model.specs.Steps.PollSteps.{PollAsk, poll, poll_try, polls_over, puts_trees, puts_polled, unless_fenced, records_or_none, first_steps, proposed_specs, merged_into, is_unchanged}
use Rattle.step_laws.proofs.Elements.{is_itself}
use Rattle.script_model.specs.States.{Inputs, State}
use Rattle.script_model.specs.LineRuns.{LineEnd, run_line, end_or_fault, after_line, step_line, line_end, no_such_party, if_some}
use Rattle.script_model.specs.Lines.PollLines.{poll_ask, polls}
use Rattle.line_laws.specs.Lines.PollRuns.{Answered, entry_of, draw_of, with_ids, drawn_at, reached_state, input_at, gets_at, calls_before, manifest_puts, records_puts, puts_of}
use Rattle.line_laws.specs.Lines.PollLines.{spell_poll}
use Rattle.line_laws.specs.Faults.{calls_made, answer_made, MadeOf, AllMade, CutAt, answer_if, RunsCut}
use Rattle.line_laws.specs.Lines.PollCalls.{reached_at, calls_of, ends_as, PollCalled, PollCalledBy, PollsCall}
use Rattle.line_laws.proofs.Faults.{runs_cut}
use Rattle.line_laws.proofs.PollRuns.{put_manifest_left}
use Rattle.line_laws.proofs.PollLines.{whole_is, only_is}
use Rattle.coordinator_laws.proofs.PollReports.{got_version}

-- ---- courses

-- What a course makes and answers that no fault strikes.
pub record Alone {A : Type 0} (line : ℕ) (party : Party) (course : Course A) (store : Store) (calls : List Answered) (answer : A) : Type 0 where
  pub calls_are : calls_made line party course store ≡ calls
  pub answer_is : answer_made line party course store ≡ answer

-- A step and then its end.
pub then_ends : {A B : Type 0} (line : ℕ) (party : Party) (step : Course A) (ends : A → B) (store : Store) → Alone line party (then_course step (λ end. Ends (ends end))) store (calls_made line party step store) (ends (answer_made line party step store))
then_ends line party (Ends answer) ends store = record { calls_are = refl; answer_is = refl }
then_ends {A} {B} line party (Calls x next) ends store = further (then_ends line party (next store) ends (after_answered line party x store))
  where
    further : Alone line party (then_course (next store) (λ end. Ends (ends end))) (after_answered line party x store) (calls_made line party (next store) (after_answered line party x store)) (ends (answer_made line party (next store) (after_answered line party x store)))
        → Alone line party (then_course (Calls x next) (λ end. Ends (ends end))) store (calls_made line party (Calls x next) store) (ends (answer_made line party (Calls x next) store))
    further a = record { calls_are = ap (λ (cs : List Answered). (event_of x store, answer_of x store) ∷ cs) a.calls_are; answer_is = a.answer_is }

-- ---- draws

record DrawsMade {A B : Type 0} (line : ℕ) (party : Party) (drawn : List (ℕ × B)) (next : List (ℕ × B) → Course A) (course : Course A) (store : Store) : Type 0 where
  last : Store
  manifest : last.manifest ≡ store.manifest
  records : last.records ≡ store.records
  made : Alone line party course store (map draw_of drawn ++ calls_made line party (next drawn) last) (answer_made line party (next drawn) last)

-- Draws that nobody disturbs give each element the next id, and leave both objects.
draws_made : {A B : Type 0} (line : ℕ) (party : Party) (moment : ℕ) (xs : List B) (next : List (ℕ × B) → Course A) (store : Store) → DrawsMade line party (with_ids moment store.jobs_drawn xs) next (draws_jobs moment xs next) store
draws_made line party moment [] next store = record { last = store; manifest = refl; records = refl; made = record { calls_are = refl; answer_is = refl } }
draws_made {A} {B} line party moment (x ∷ xs) next store = further (draws_made line party moment xs (λ drawn. next ((next_job_id moment store, x) ∷ drawn)) (after_answered line party (DrawsJob moment) store))
  where
    further : DrawsMade line party (with_ids moment (store.jobs_drawn + 1) xs) (λ drawn. next ((next_job_id moment store, x) ∷ drawn)) (draws_jobs moment xs (λ drawn. next ((next_job_id moment store, x) ∷ drawn))) (after_answered line party (DrawsJob moment) store)
        → DrawsMade line party (with_ids moment store.jobs_drawn (x ∷ xs)) next (draws_jobs moment (x ∷ xs) next) store
    further d = record {
      last = d.last;
      manifest = d.manifest;
      records = d.records;
      made = record { calls_are = ap (λ (cs : List Answered). draw_of (next_job_id moment store, x) ∷ cs) d.made.calls_are; answer_is = d.made.answer_is };
    }

-- ---- puts

-- A poll that nobody disturbs puts the records if it changed a job, and then reports.
rest_made : (line : ℕ) (party : Party) (epoch : ℕ) (p : PollState) (left seen : ℕ) (store : Store) → Alone line party (puts_polled epoch p (records_or_none store.records) (suc left) seen) store (records_puts store.records p) (Reports p)
rest_made line party epoch p left seen store = by (λ seen. cond (left == 0) (Ends (GivesUp seen)) (gets_records (λ newer. let got = records_or_none newer in unless_fenced epoch got.epoch (puts_polled epoch (merged_into p got.jobs) got left seen)))) (is_nothing (change_of p))
  where
    got : Records
    got = records_or_none store.records

    put : Event
    put = PutRecords (Polled (change_of p))

    same : (got.version == records_version store.records) ≡ true
    same = (Decides-eqb got.version (records_version store.records)).1 (got_version store.records)

    by : (again : ℕ → Course (StepEnd PollState)) (b : Bool)
        → Alone line party (cond b (Ends (Reports p)) (puts_records got (Polled (change_of p)) got.epoch (trimmed_jobs p.jobs) (Ends (Reports p)) again)) store (cond b [] ((put, Done (records_version store.records + 1)) ∷ [])) (Reports p)
    by again true = record { calls_are = refl; answer_is = refl }
    by again false = at (got.version == records_version store.records) same
      where
        after : Store
        after = after_answered line party (PutsRecords got.version (Polled (change_of p)) got.epoch (trimmed_jobs p.jobs)) store

        at : (b : Bool) → b ≡ true → Alone line party (puts_records got (Polled (change_of p)) got.epoch (trimmed_jobs p.jobs) (Ends (Reports p)) again) store ((put, Done (records_version store.records + 1)) ∷ []) (Reports p)
        at b e = record {
          calls_are = ap (λ (b : Bool). (put, cond b (Done (records_version store.records + 1)) (Conflict (records_version store.records))) ∷ calls_made line party (cond b (Ends (Reports p)) (again (records_version store.records))) after) same;
          answer_is = ap (λ (b : Bool). answer_made line party (cond b (Ends (Reports p)) (again (records_version store.records))) after) same;
        }

-- A poll that nobody disturbs puts the manifest and then the records, each if it changed it, and then reports.
puts_made : (line : ℕ) (party : Party) (epoch : ℕ) (p : PollState) (left seen : ℕ) (again : ℕ → Course (StepEnd PollState)) (store : Store) → Alone line party (puts_trees epoch p store.manifest (records_or_none store.records) (suc left) seen again) store (puts_of store p) (Reports p)
puts_made line party epoch p left seen again store = by (is_unchanged store.manifest p)
  where
    m : Manifest
    m = store.manifest

    value : Manifest
    value = record m { trees = p.trees; horizon = p.horizon }

    put : Event
    put = PutManifest (Commit p.steps)

    after : Store
    after = after_answered line party (PutsManifest m.version (Commit p.steps) value) store

    left_is : after ≡ record store { manifest = record value { version = m.version + 1 }; history = store.history ++ entry_of line party (put, Done (m.version + 1)) ∷ [] }
    left_is = put_manifest_left line party (Commit p.steps) value store

    rest : Alone line party (puts_polled epoch p (records_or_none store.records) most_refused 0) after (records_puts store.records p) (Reports p)
    rest = subst (λ (r : Option Records). Alone line party (puts_polled epoch p (records_or_none r) most_refused 0) after (records_puts r p) (Reports p)) (ap (λ (s : Store). s.records) left_is) (rest_made line party epoch p 63 0 after)

    by : (b : Bool)
        → Alone line party (cond b (puts_polled epoch p (records_or_none store.records) (suc left) seen) (puts_manifest m.version (Commit p.steps) value (puts_polled epoch p (records_or_none store.records) most_refused 0) again)) store
        (cond b [] ((put, Done (m.version + 1)) ∷ []) ++ records_puts store.records p) (Reports p)
    by true = rest_made line party epoch p left seen store
    by false = record {
      calls_are = ap (λ (b : Bool). (put, cond b (Done (m.version + 1)) (Conflict m.version)) ∷ calls_made line party (cond b (puts_polled epoch p (records_or_none store.records) most_refused 0) (again m.version)) after) (is_itself m.version)
          ∙ ap (λ (cs : List Answered). (put, Done (m.version + 1)) ∷ cs) rest.calls_are;
      answer_is = ap (λ (b : Bool). answer_made line party (cond b (puts_polled epoch p (records_or_none store.records) most_refused 0) (again m.version)) after) (is_itself m.version) ∙ rest.answer_is;
    }

-- ---- the poll

-- A poll that nobody disturbs makes the calls and has the end that its definition gives over the store.
tries_made : (line : ℕ) (party : Party) (ask : PollAsk) (left seen : ℕ) (store : Store) → Alone line party (counted_tries (poll_try ask) (suc left) seen) store (calls_of ask store) (ends_as ask store)
tries_made line party ask left seen store = record {
  calls_are = ap (λ (cs : List Answered). (GetManifest, Done m.version) ∷ cs) (outer (nat_lt ask.epoch m.epoch)).calls_are ∙ turned (nat_lt ask.epoch m.epoch) (nat_lt ask.epoch got.epoch);
  answer_is = (outer (nat_lt ask.epoch m.epoch)).answer_is;
}
  where
    m : Manifest
    m = store.manifest

    got : Records
    got = records_or_none store.records

    first : Store
    first = after_answered line party (Plain GetManifest) store

    second : Store
    second = after_answered line party (Plain GetRecords) first

    again : ℕ → Course (StepEnd PollState)
    again = counted_tries (poll_try ask) left

    xs : List JobSpec
    xs = proposed_specs ask (input_at ask store) (first_steps ask (input_at ask store))

    next : List (ℕ × JobSpec) → Course (StepEnd PollState)
    next drawn = puts_trees ask.epoch (reached_state ask store drawn) m got (suc left) seen again

    over : Alone line party (draws_jobs ask.moment xs next) second (map draw_of (drawn_at ask store) ++ puts_of store (reached_at ask store)) (Reports (reached_at ask store))
    over = at (draws_made line party ask.moment xs next second)
      where
        at : DrawsMade line party (drawn_at ask store) next (draws_jobs ask.moment xs next) second → Alone line party (draws_jobs ask.moment xs next) second (map draw_of (drawn_at ask store) ++ puts_of store (reached_at ask store)) (Reports (reached_at ask store))
        at d =
            let p = reached_at ask store in
            let one = puts_made line party ask.epoch p left seen again d.last in
            let two = subst (λ (manifest : Manifest). Alone line party (puts_trees ask.epoch p manifest (records_or_none d.last.records) (suc left) seen again) d.last (manifest_puts manifest p ++ records_puts d.last.records p) (Reports p)) d.manifest one in
            let three = subst (λ (r : Option Records). Alone line party (puts_trees ask.epoch p m (records_or_none r) (suc left) seen again) d.last (manifest_puts m p ++ records_puts r p) (Reports p)) d.records two in
            record { calls_are = d.made.calls_are ∙ ap (λ (cs : List Answered). map draw_of (drawn_at ask store) ++ cs) three.calls_are; answer_is = d.made.answer_is ∙ three.answer_is }

    begin : Store → Course (StepEnd PollState)
    begin met = let got = records_or_none met.records in unless_fenced ask.epoch got.epoch (polls_over ask met.tables m got (suc left) seen again)

    both : List Answered
    both = map draw_of (drawn_at ask store) ++ puts_of store (reached_at ask store)

    inner : (c : Bool) → Alone line party (cond c (Ends (Fenced got.epoch)) (draws_jobs ask.moment xs next)) second (cond c [] both) (cond c (Fenced got.epoch) (Reports (reached_at ask store)))
    inner true = record { calls_are = refl; answer_is = refl }
    inner false = over

    outer : (b : Bool) → Alone line party (cond b (Ends (Fenced m.epoch)) (Calls (Plain GetRecords) begin)) first (cond b [] ((GetRecords, records_answer store.records) ∷ cond (nat_lt ask.epoch got.epoch) [] both))
        (cond b (Fenced m.epoch) (cond (nat_lt ask.epoch got.epoch) (Fenced got.epoch) (Reports (reached_at ask store))))
    outer true = record { calls_are = refl; answer_is = refl }
    outer false = record { calls_are = ap (λ (cs : List Answered). (GetRecords, records_answer store.records) ∷ cs) (inner (nat_lt ask.epoch got.epoch)).calls_are; answer_is = (inner (nat_lt ask.epoch got.epoch)).answer_is }

    turned : (b c : Bool) → (GetManifest, Done m.version) ∷ cond b [] ((GetRecords, records_answer store.records) ∷ cond c [] both) ≡ cond b ((GetManifest, Done m.version) ∷ []) (cond c (gets_at store) (calls_before store (drawn_at ask store) ++ puts_of store (reached_at ask store)))
    turned true c = refl
    turned false true = refl
    turned false false = refl

pub poll_made : (line : ℕ) (party : Party) (ask : PollAsk) (store : Store) → Alone line party (poll ask) store (calls_of ask store) (ends_as ask store)
unfolding poll
poll_made line party ask store = tries_made line party ask 63 0 store

-- ---- the line

-- A poll line makes its poll's calls, or those up to a struck one, or is refused if its coordinator is not live.
pub called : (inputs : Inputs) (number : ℕ) (commits_only : Bool) (n : ℕ) (old : State) (answer : List ℕ) (new : State) → run_line number old (polls commits_only (spell_poll commits_only) inputs n old) ≡ (answer, new)
    → PollCalledBy inputs number commits_only n old answer new (coordinator_with n old.parties)
called inputs number commits_only n old answer new is = by (coordinator_with n old.parties) is
  where
    gone : Parties
    gone = without_coordinator n old.parties

    ends : StepEnd PollState → LineEnd
    ends = line_end (spell_poll commits_only) (λ reached. old.parties) gone

    by : (o : Option LiveCoordinator) → run_line number old (if_some o (no_such_party old) (λ c. step_line (Coordinator n) (poll (poll_ask inputs old c commits_only)) ends gone)) ≡ (answer, new) → PollCalledBy inputs number commits_only n old answer new o
    by None is = (sym (ap (λ (p : List ℕ × State). p.0) is), sym (ap (λ (p : List ℕ × State). p.1) is))
    by (Some c) is = at run r.made r.of r.history r.answer is
      where
        ask : PollAsk
        ask = poll_ask inputs old c commits_only

        step : Course LineEnd
        step = then_course (poll ask) (λ end. Ends (ends end))

        run : AloneEnd LineEnd
        run = run_alone number (Coordinator n) step old.fault old.store

        r : RunsCut number (Coordinator n) step old.fault old.store run
        r = runs_cut number (Coordinator n) step old.fault old.store

        calls : calls_made number (Coordinator n) step old.store ≡ calls_of ask old.store
        calls = (then_ends number (Coordinator n) (poll ask) ends old.store).calls_are ∙ (poll_made number (Coordinator n) ask old.store).calls_are

        ended : answer_made number (Coordinator n) step old.store ≡ ends (ends_as ask old.store)
        ended = (then_ends number (Coordinator n) (poll ask) ends old.store).answer_is ∙ ap ends (poll_made number (Coordinator n) ask old.store).answer_is

        at : (run : AloneEnd LineEnd) (made : List Answered) (of : MadeOf (does_stand old.fault) (calls_made number (Coordinator n) step old.store) made) → run.store.history ≡ old.store.history ++ map (entry_of number (Coordinator n)) made
            → run.answer ≡ answer_if of (answer_made number (Coordinator n) step old.store) → after_line old (end_or_fault gone run.answer) run ≡ (answer, new) → PollCalled inputs number commits_only n old answer new c
        at run made (AllMade same) history ends_so is =
            let end : end_or_fault gone run.answer ≡ ends (ends_as ask old.store) = ap (end_or_fault gone) ends_so ∙ ended in
            record {
              made = made;
              of = AllMade (same ∙ calls);
              history = sym (ap (λ (p : List ℕ × State). p.1.store.history) is) ∙ history;
              printed = sym (ap (λ (p : List ℕ × State). p.0) is) ∙ ap (λ (e : LineEnd). e.reply) end;
              live = sym (ap (λ (p : List ℕ × State). p.1.parties) is) ∙ ap (λ (e : LineEnd). e.parties) end;
            }
        at run made (CutAt before event given after counts whole cut) history ends_so is =
            let end = ap (end_or_fault gone) ends_so in
            record {
              made = made;
              of = CutAt before event given after counts (sym calls ∙ whole) cut;
              history = sym (ap (λ (p : List ℕ × State). p.1.store.history) is) ∙ history;
              printed = sym (ap (λ (p : List ℕ × State). p.0) is) ∙ ap (λ (e : LineEnd). e.reply) end;
              live = sym (ap (λ (p : List ℕ × State). p.1.parties) is) ∙ ap (λ (e : LineEnd). e.parties) end;
            }

pub polls_call : PollsCall
polls_call inputs old new false n number answer one = called inputs number false n old answer new (whole_is inputs number old new n answer one)
polls_call inputs old new true n number answer one = called inputs number true n old answer new (only_is inputs number old new n answer one)
