-- A poll that is alone and reports does what its definition computes, and nothing else.
use Rattle.std.proofs.Common.{◌≡◌, refl, sym, ◌∙◌, ap, subst, ℕ, zero, suc, ◌+◌, ◌<◌, ◌≤◌, List, [], ◌∷◌, ◌++◌, cond, Bool, true, false, Option, Some, None, inl, inr, length, append-nil, append_assoc, arith}
use Rattle.std.specs.Prelude.{◌==◌, nat_lt, map}
use Rattle.std.proofs.lemmas.Bool.{ltb-false}
use Rattle.std.proofs.lemmas.Bool.Decides.{Decides-eqb}
use Rattle.row_model.specs.Fold.{IsLawful}
use Rattle.fleet_model.specs.Jobs.{JobSpec, Jobs, trimmed_jobs}
use Rattle.fleet_model.specs.Store.{Manifest, Records, Store, jobs_in, records_epoch}
use Rattle.fleet_model.specs.History.{Party, GetManifest, GetRecords, PutManifest, PutRecords, Commit, Polled, ManifestChange, RecordChange, Done, Conflict, Entry}
use Rattle.fleet_model.specs.Work.Records.{jobs_after}
use Rattle.fleet_model.specs.Work.PollStates.{PollInput, PollState}
use Rattle.fleet_model.specs.Work.Polls.{change_of, is_nothing}
use Rattle.fleet_model.specs.Exchanges.{Exchange, Plain, DrawsJob, PutsManifest, PutsRecords, records_version, records_answer, next_job_id, after_exchange, after_answered, with_entry}
use Rattle.step_model.specs.Past.{World}
use Rattle.step_model.specs.Rivals.{Caller, after_call}
use Rattle.step_model.specs.Courses.Course.{Course, Ends, Calls, draws_jobs, gets_records, puts_manifest, puts_records}
use Rattle.step_model.specs.Courses.Tries.{counted_tries}
use Rattle.step_model.specs.Courses.CourseRuns.{Gives, Runs, IsLawfulCourse}
use Rattle.step_model.specs.Courses.StepEnds.{StepEnd, Reports, GivesUp, Fenced, most_refused}
use Rattle.step_model.specs.Steps.PollSteps.{PollAsk, poll, poll_try, polls_over, puts_trees, puts_polled, unless_fenced, records_or_none, first_steps, proposed_specs, merged_into, is_unchanged}
use Rattle.step_model.specs.LawfulManifests.{CommitFits}
use Rattle.step_model.specs.Kept.Keeps.{Keeps}
use Rattle.step_model.specs.Lawful.{Lawful}
use Rattle.step_laws.specs.Runs.{CallsKeep}
use Rattle.step_laws.proofs.Elements.{is_itself}
use Rattle.rival_laws.proofs.Coordinators.{put_low}
use Rattle.course_laws.proofs.NewIds.{AreFresh, drawn_fresh}
use Rattle.coordinator_laws.proofs.Quiet.{HasEpoch}
use Rattle.coordinator_laws.proofs.Since.{Since, Got, Ready, ready_noted, drawn_noted}
use Rattle.coordinator_laws.proofs.Course.{commit_lawful, got_both, ready_both, since_first, kept_first}
use Rattle.line_laws.specs.Lines.PollRuns.{input_at, reached_state, with_ids, drawn_at, entry_of, draw_of, records_puts, calls_before, store_before, records_after, store_after, PollDid, CommitPut, JobsPut}
use Rattle.rival_laws.proofs.Runs.{rivals_none}
use Rattle.coordinator_laws.proofs.PollReports.{got_version}
use Rattle.step_laws.proofs.RanLaws.{only_met}

-- ---- a party that is alone

-- The run of a lawful course, from one world to the next, gives this answer.
pub record Going {A : Type 0} (who : Caller) (course : Course A) (world new : World) (answer : A) : Type 0 where
  pub kept : Keeps who.merge world
  pub lawful : IsLawfulCourse who world course
  pub run : Runs who course world new (Gives answer)

-- The call is lawful at the store that the run had reached, and the run goes on after it.
pub record Gone {A : Type 0} (who : Caller) (x : Exchange) (next : Store → Course A) (world new : World) (answer : A) : Type 0 where
  pub call : Lawful who.merge who.party world x
  pub going : Going who (next world.store) (after_call who.line who.party x None world) new answer

-- In a run that is alone, the next call is made at the store that the run has reached, and is lawful there.
pub alone_next : {A : Type 0} (who : Caller) (x : Exchange) (next : Store → Course A) (world new : World) (answer : A) → CallsKeep who.merge → who.alone ≡ true → Going who (Calls x next) world new answer → Gone who x next world new answer
alone_next {A} who x next world new answer keep alone going = by going.run
  where
    at : (met : World) → Keeps who.merge met → Lawful who.merge who.party met x → IsLawfulCourse who (after_call who.line who.party x None met) (next met.store) → Runs who (next met.store) (after_call who.line who.party x None met) new (Gives answer) → Gone who x next met new answer
    at met kept call lawful run = record { call = call; going = record { kept = keep x who.line who.party None met kept call tt; lawful = lawful; run = run } }

    by : Runs who (Calls x next) world new (Gives answer) → Gone who x next world new answer
    by (met, (rivals, inl stops)) = absurd stops
    by (met, (rivals, inr (room, run))) =
        let same = only_met who world met alone rivals in
        let here = going.lawful met rivals room in
        subst (λ (t : World). Gone who x next t new answer) (sym same) (at met (subst (Keeps who.merge) same going.kept) here.0 here.1 run)

-- ---- draws

-- The store after these draws.
abbrev store_drawn : {B : Type 0} → Caller → Store → List (ℕ × B) → Store
store_drawn who store drawn = record store { jobs_drawn = store.jobs_drawn + length drawn; history = store.history ++ map (entry_of who.line who.party) (map draw_of drawn) }

-- The run goes on after the draws, with the next id for each element. The drawn ids are new.
record DrawsDone {A B : Type 0} (who : Caller) (e : ℕ) (m r : World) (before : List (ℕ × B)) (drawn : List (ℕ × B)) (next : List (ℕ × B) → Course A) (world new : World) (answer : A) : Type 0 where
  mid : World
  is : mid.store ≡ store_drawn who world.store drawn
  ready : Ready who e m r mid
  fresh : AreFresh who.party mid (before ++ drawn)
  going : Going who (next drawn) mid new answer

-- A run that is alone draws the next id for each element, these ids are new, and it goes on with them.
draws_done : {A B : Type 0} (who : Caller) (e : ℕ) (m r : World) (moment : ℕ) (before : List (ℕ × B)) (xs : List B) (next : List (ℕ × B) → Course A) (world new : World) (answer : A) → CallsKeep who.merge → who.alone ≡ true → Ready who e m r world → AreFresh who.party world before
    → Going who (draws_jobs moment xs next) world new answer → DrawsDone who e m r before (with_ids moment world.store.jobs_drawn xs) next world new answer
draws_done who e m r moment before [] next world new answer keep alone ready fresh going = record {
  mid = world;
  is = λ i. record world.store { jobs_drawn = none world.store.jobs_drawn i; history = sym (append-nil world.store.history) i };
  ready = ready;
  fresh = subst (AreFresh who.party world) (sym (append-nil before)) fresh;
  going = going;
}
  where
    none : (n : ℕ) → n ≡ n + 0
    none n = omega arith
draws_done {A} {B} who e m r moment before (x ∷ xs) next world new answer keep alone ready fresh going =
    further (draws_done who e m r moment (before ++ (id, x) ∷ []) xs (λ drawn. next ((id, x) ∷ drawn)) mid new answer keep alone (ready_noted who e m r world mid ready (drawn_noted who moment world keep ready.first.kept gone.call))
    (drawn_fresh who world moment x before ready.first.kept gone.call fresh) gone.going)
  where
    id : ℕ
    id = next_job_id moment world.store

    mid : World
    mid = after_call who.line who.party (DrawsJob moment) None world

    gone : Gone who (DrawsJob moment) (λ met. draws_jobs moment xs (λ drawn. next ((next_job_id moment met, x) ∷ drawn))) world new answer
    gone = alone_next who (DrawsJob moment) (λ met. draws_jobs moment xs (λ drawn. next ((next_job_id moment met, x) ∷ drawn))) world new answer keep alone going

    others : List (ℕ × B)
    others = with_ids moment (world.store.jobs_drawn + 1) xs

    counted : (n k : ℕ) → (n + 1) + k ≡ n + suc k
    counted n k = omega arith

    further : DrawsDone who e m r (before ++ (id, x) ∷ []) others (λ drawn. next ((id, x) ∷ drawn)) mid new answer → DrawsDone who e m r before ((id, x) ∷ others) next world new answer
    further d = record {
      mid = d.mid;
      is = d.is ∙ (λ i. record world.store { jobs_drawn = counted world.store.jobs_drawn (length others) i; history = append_assoc world.store.history (entry_of who.line who.party (draw_of (id, x)) ∷ []) (map (entry_of who.line who.party) (map draw_of others)) i });
      ready = d.ready;
      fresh = subst (AreFresh who.party d.mid) (append_assoc before ((id, x) ∷ []) others) d.fresh;
      going = d.going;
    }

-- ---- puts

pub got_epoch : (records : Option Records) → (records_or_none records).epoch ≡ records_epoch records
got_epoch None = refl
got_epoch (Some records) = refl

-- What a put of the records for the stored version leaves.
pub record RecordsPut (old new : Store) (epoch : ℕ) (jobs : Jobs) : Type 0 where
  pub manifest : new.manifest ≡ old.manifest
  pub records : new.records ≡ Some (record { version = records_version old.records + 1; epoch = epoch; jobs = jobs })
  pub tables : new.tables ≡ old.tables

pub records_put : (change : RecordChange) (epoch : ℕ) (jobs : Jobs) (store : Store) → RecordsPut store (after_exchange (PutsRecords (records_version store.records) change epoch jobs) store) epoch jobs
records_put change epoch jobs store = by (records_version store.records == records_version store.records) (is_itself (records_version store.records))
  where
    by : (b : Bool) → b ≡ true → RecordsPut store (cond b (record store { records = Some (record { version = records_version store.records + 1; epoch = epoch; jobs = jobs }) }) store) epoch jobs
    by true e = record { manifest = refl; records = refl; tables = refl }
    by false e = absurd (cc e)

-- The store after a put of the records for the stored version.
put_records_left : (line : ℕ) (party : Party) (version : ℕ) (change : RecordChange) (epoch : ℕ) (jobs : Jobs) (store : Store) → version ≡ records_version store.records → after_answered line party (PutsRecords version change epoch jobs) store
    ≡ record store {
      records = Some (record { version = records_version store.records + 1; epoch = epoch; jobs = jobs });
      history = store.history ++ entry_of line party (PutRecords change, Done (records_version store.records + 1)) ∷ [];
    }
put_records_left line party version change epoch jobs store same = by (version == records_version store.records) ((Decides-eqb version (records_version store.records)).1 same)
  where
    by : (b : Bool) → b ≡ true → with_entry line party (PutRecords change) (cond b (Done (records_version store.records + 1)) (Conflict (records_version store.records))) (cond b (record store { records = Some (record { version = version + 1; epoch = epoch; jobs = jobs }) }) store)
        ≡ record store {
          records = Some (record { version = records_version store.records + 1; epoch = epoch; jobs = jobs });
          history = store.history ++ entry_of line party (PutRecords change, Done (records_version store.records + 1)) ∷ [];
        }
    by true e = λ i. record store {
      records = Some (record { version = same i + 1; epoch = epoch; jobs = jobs });
      history = store.history ++ entry_of line party (PutRecords change, Done (records_version store.records + 1)) ∷ [];
    }
    by false e = absurd (cc e)

-- The store after a put of the manifest for the stored version.
pub put_manifest_left : (line : ℕ) (party : Party) (change : ManifestChange) (value : Manifest) (store : Store) → after_answered line party (PutsManifest store.manifest.version change value) store
    ≡ record store {
      manifest = record value { version = store.manifest.version + 1 };
      history = store.history ++ entry_of line party (PutManifest change, Done (store.manifest.version + 1)) ∷ [];
    }
put_manifest_left line party change value store = by (store.manifest.version == store.manifest.version) (is_itself store.manifest.version)
  where
    by : (b : Bool) → b ≡ true → with_entry line party (PutManifest change) (cond b (Done (store.manifest.version + 1)) (Conflict store.manifest.version)) (cond b (record store { manifest = record value { version = store.manifest.version + 1 } }) store)
        ≡ record store {
          manifest = record value { version = store.manifest.version + 1 };
          history = store.history ++ entry_of line party (PutManifest change, Done (store.manifest.version + 1)) ∷ [];
        }
    by true e = refl
    by false e = absurd (cc e)

-- ---- the end of a poll

-- The put jobs are the same over another store with the same records.
jobs_moved : (p : PollState) (a b : Store) → a.records ≡ b.records → JobsPut a p → JobsPut b p
jobs_moved p a b same put = record { unrecorded = put.unrecorded; made = put.made ∙ ap (λ (r : Option Records). jobs_after put.unrecorded (Polled (change_of p)) (jobs_in r)) same }

-- The store after a poll has put the records, or need not: `b` says that no job changed.
abbrev rest_left : ℕ → Party → PollState → Bool → Store → Store
rest_left line party p b store = record store {
  records = cond b store.records (Some (record { version = records_version store.records + 1; epoch = records_epoch store.records; jobs = trimmed_jobs p.jobs }));
  history = store.history ++ map (entry_of line party) (cond b [] ((PutRecords (Polled (change_of p)), Done (records_version store.records + 1)) ∷ []));
}

-- What a poll leaves that reached this state and has put the manifest, or need not.
record PutRest (who : Caller) (p reported : PollState) (old new : Store) : Type 0 where
  is : reported ≡ p
  left : new ≡ rest_left who.line who.party p (is_nothing (change_of p)) old
  jobs : is_nothing (change_of p) ≡ false → JobsPut old p

-- A poll that is alone and reports put its jobs into the records if it changed one, and nothing else.
puts_rest : (who : Caller) (epoch : ℕ) (p reported : PollState) (left seen : ℕ) (world new : World) → CallsKeep who.merge → who.alone ≡ true → Going who (puts_polled epoch p (records_or_none world.store.records) left seen) world new (Reports reported)
    → PutRest who p reported world.store new.store
puts_rest who epoch p reported zero seen world new keep alone going = absurd (cc (going.run.1))
puts_rest who epoch p reported (suc left) seen world new keep alone going =
    by (λ seen. cond (left == 0) (Ends (GivesUp seen)) (gets_records (λ newer. let got = records_or_none newer in unless_fenced epoch got.epoch (puts_polled epoch (merged_into p got.jobs) got left seen)))) (is_nothing (change_of p)) refl going
  where
    got : Records
    got = records_or_none world.store.records

    there : got.version ≡ records_version world.store.records
    there = got_version world.store.records

    put : Exchange
    put = PutsRecords got.version (Polled (change_of p)) got.epoch (trimmed_jobs p.jobs)

    ended : is_nothing (change_of p) ≡ false → JobsPut world.store p → Runs who (Ends (Reports p)) (after_call who.line who.party put None world) new (Gives (Reports reported)) → PutRest who p reported world.store new.store
    ended e jobs run = record {
      is = cc (run.1);
      left = ap (λ (t : World). t.store) (sym run.0) ∙ put_records_left who.line who.party got.version (Polled (change_of p)) got.epoch (trimmed_jobs p.jobs) world.store there
          ∙ (λ i. record world.store {
            records = Some (record { version = records_version world.store.records + 1; epoch = got_epoch world.store.records i; jobs = trimmed_jobs p.jobs });
            history = world.store.history ++ entry_of who.line who.party (PutRecords (Polled (change_of p)), Done (records_version world.store.records + 1)) ∷ [];
          })
          ∙ ap (λ (b : Bool). rest_left who.line who.party p b world.store) (sym e);
      jobs = λ changed. jobs;
    }

    by : (again : ℕ → Course (StepEnd PollState)) (b : Bool) → is_nothing (change_of p) ≡ b
        → Going who (cond b (Ends (Reports p)) (puts_records got (Polled (change_of p)) got.epoch (trimmed_jobs p.jobs) (Ends (Reports p)) again)) world new (Reports reported) → PutRest who p reported world.store new.store
    by again true e going = let run = going.run in record {
      is = cc (run.1);
      left = ap (λ (t : World). t.store) (sym run.0) ∙ (λ i. record world.store { history = sym (append-nil world.store.history) i }) ∙ ap (λ (b : Bool). rest_left who.line who.party p b world.store) (sym e);
      jobs = λ changed. absurd (cc (e, changed));
    }
    by again false e going =
        let same : (got.version == records_version world.store.records) ≡ true = (Decides-eqb got.version (records_version world.store.records)).1 there in
        let next : Store → Course (StepEnd PollState) = λ met. cond (got.version == records_version met.records) (Ends (Reports p)) (again (records_version met.records)) in
        let gone = alone_next who put next world new (Reports reported) keep alone going in
        let fits = gone.call.1 there in
        ended e (record { unrecorded = fits.unrecorded; made = fits.makes_jobs })
        (subst (λ (b : Bool). Runs who (cond b (Ends (Reports p)) (again (records_version world.store.records))) (after_call who.line who.party put None world) new (Gives (Reports reported))) same gone.going.run)

-- The store after a poll has put both objects, or need not: `b` says that no tree changed.
abbrev all_left : ℕ → Party → PollState → Bool → Store → Store
all_left line party p b store = record store {
  manifest = cond b store.manifest (record store.manifest { version = store.manifest.version + 1; trees = p.trees; horizon = p.horizon });
  records = records_after store.records p;
  history = store.history ++ map (entry_of line party) (cond b [] ((PutManifest (Commit p.steps), Done (store.manifest.version + 1)) ∷ []) ++ records_puts store.records p);
}

-- What a poll leaves that reached this state and has put nothing yet.
record PutAll (who : Caller) (p reported : PollState) (old new : Store) : Type 0 where
  is : reported ≡ p
  left : new ≡ all_left who.line who.party p (is_unchanged old.manifest p) old
  jobs : is_nothing (change_of p) ≡ false → JobsPut old p

-- A poll that is alone and reports put its trees and then its jobs, each if it changed them, and nothing else.
puts_all : (who : Caller) (epoch : ℕ) (p reported : PollState) (left seen : ℕ) (again : ℕ → Course (StepEnd PollState)) (world new : World) → CallsKeep who.merge → who.alone ≡ true
    → Going who (puts_trees epoch p world.store.manifest (records_or_none world.store.records) left seen again) world new (Reports reported) → PutAll who p reported world.store new.store
puts_all who epoch p reported left seen again world new keep alone going = by (is_unchanged world.store.manifest p) refl going
  where
    m : Manifest
    m = world.store.manifest

    value : Manifest
    value = record m { trees = p.trees; horizon = p.horizon }

    x : Exchange
    x = PutsManifest m.version (Commit p.steps) value

    put_entry : Entry
    put_entry = entry_of who.line who.party (PutManifest (Commit p.steps), Done (m.version + 1))

    -- The store after the put of the manifest.
    mid : Store
    mid = record world.store { manifest = record value { version = m.version + 1 }; history = world.store.history ++ put_entry ∷ [] }

    put : (after_call who.line who.party x None world).store ≡ mid
    put = put_manifest_left who.line who.party (Commit p.steps) value world.store

    ended : is_unchanged m p ≡ false → PutRest who p reported (after_call who.line who.party x None world).store new.store → PutAll who p reported world.store new.store
    ended e rest = record {
      is = rest.is;
      left = rest.left ∙ ap (rest_left who.line who.party p (is_nothing (change_of p))) put
          ∙ (λ i. record (all_left who.line who.party p false world.store) { history = append_assoc world.store.history (put_entry ∷ []) (map (entry_of who.line who.party) (records_puts world.store.records p)) i })
          ∙ ap (λ (b : Bool). all_left who.line who.party p b world.store) (sym e);
      jobs = λ changed. jobs_moved p _ world.store (ap (λ (store : Store). store.records) put) (rest.jobs changed);
    }

    by : (b : Bool) → is_unchanged m p ≡ b
        → Going who (cond b (puts_polled epoch p (records_or_none world.store.records) left seen) (puts_manifest m.version (Commit p.steps) value (puts_polled epoch p (records_or_none world.store.records) most_refused 0) again)) world new (Reports reported)
        → PutAll who p reported world.store new.store
    by true e going =
        let rest = puts_rest who epoch p reported left seen world new keep alone going in
        record { is = rest.is; left = rest.left ∙ ap (λ (b : Bool). all_left who.line who.party p b world.store) (sym e); jobs = rest.jobs }
    by false e going =
        let afterwards = after_call who.line who.party x None world in
        let next : Store → Course (StepEnd PollState) = λ met. cond (m.version == met.manifest.version) (puts_polled epoch p (records_or_none world.store.records) most_refused 0) (again met.manifest.version) in
        let gone = alone_next who x next world new (Reports reported) keep alone going in
        let first = subst (λ (b : Bool). Going who (cond b (puts_polled epoch p (records_or_none world.store.records) most_refused 0) (again m.version)) afterwards new (Reports reported)) (is_itself m.version) gone.going in
        let second = subst (λ (r : Option Records). Going who (puts_polled epoch p (records_or_none r) most_refused 0) afterwards new (Reports reported)) (sym (ap (λ (store : Store). store.records) put)) first in
        ended e (puts_rest who epoch p reported most_refused 0 afterwards new keep alone second)

-- ---- the poll

-- The poll was not fenced, and goes on.
record Unfenced (who : Caller) (epoch stored : ℕ) (next : Course (StepEnd PollState)) (world new : World) (p : PollState) : Type 0 where
  low : stored ≤ epoch
  going : Going who next world new (Reports p)

unfenced : (who : Caller) (epoch stored : ℕ) (next : Course (StepEnd PollState)) (world new : World) (p : PollState) → Going who (unless_fenced epoch stored next) world new (Reports p) → Unfenced who epoch stored next world new p
unfenced who epoch stored next world new p going = by (nat_lt epoch stored) refl going
  where
    by : (b : Bool) → nat_lt epoch stored ≡ b → Going who (cond b (Ends (Fenced stored)) next) world new (Reports p) → Unfenced who epoch stored next world new p
    by true e going = absurd (cc (going.run.1))
    by false e going = record { low = ltb-false epoch stored e; going = going }

-- There are records, if they have an epoch.
some_got : (records : Option Records) (epoch : ℕ) → 0 < epoch → epoch ≤ records_epoch records → records ≡ Some (records_or_none records)
some_got None epoch counted low = absurd (omega (arith, counted, low))
some_got (Some records) epoch counted low = refl

-- What a poll did that is alone and reports, and the commit that it put or need not put.
pub record PollKept (who : Caller) (ask : PollAsk) (old new : Store) (p : PollState) : Type 0 where
  pub did : PollDid who.line who.party ask old new p
  pub put : CommitPut who.merge who.line who.party old (drawn_at ask old) p
  pub jobs : is_nothing (change_of p) ≡ false → JobsPut old p

-- A poll that is alone and reports did what its definition computes, and its commit and its jobs are as they should be.
polls_did : (who : Caller) (ask : PollAsk) (left seen : ℕ) (world new : World) (p : PollState) → CallsKeep who.merge → who.alone ≡ true → IsLawful who.merge → 0 < ask.epoch → HasEpoch who.party ask.epoch world
    → Going who (counted_tries (poll_try ask) left seen) world new (Reports p) → PollKept who ask world.store new.store p
polls_did who ask zero seen world new p keep alone lawful counted own going = absurd (cc (going.run.1))
polls_did who ask (suc left) seen world new p keep alone lawful counted own going = by
    (draws_done who e world first ask.moment [] (proposed_specs ask input (first_steps ask input)) (λ drawn. puts_trees e (reached_state ask world.store drawn) m got (suc left) seen (counted_tries (poll_try ask) left)) second new (Reports p) keep alone
    (ready_both who e world first keep since (kept_first who world first keep going.kept (rivals_none who first))) (record { drawn = tt; fresh = tt; once = tt }) four.going)
  where
    e : ℕ
    e = ask.epoch

    m : Manifest
    m = world.store.manifest

    got : Records
    got = records_or_none world.store.records

    input : PollInput
    input = input_at ask world.store

    first : World
    first = after_call who.line who.party (Plain GetManifest) None world

    second : World
    second = after_call who.line who.party (Plain GetRecords) None first

    over : Store → Course (StepEnd PollState)
    over met = let got = records_or_none met.records in unless_fenced e got.epoch (polls_over ask met.tables m got (suc left) seen (counted_tries (poll_try ask) left))

    two : Unfenced who e m.epoch (Calls (Plain GetRecords) over) first new p
    two = unfenced who e m.epoch (Calls (Plain GetRecords) over) first new p (alone_next who (Plain GetManifest) (λ met. unless_fenced e met.manifest.epoch (Calls (Plain GetRecords) (λ after.
        let got = records_or_none after.records in
        unless_fenced e got.epoch (polls_over ask after.tables met.manifest got (suc left) seen (counted_tries (poll_try ask) left))))) world new (Reports p) keep alone going).going

    four : Unfenced who e got.epoch (polls_over ask world.store.tables m got (suc left) seen (counted_tries (poll_try ask) left)) second new p
    four = unfenced who e got.epoch (polls_over ask world.store.tables m got (suc left) seen (counted_tries (poll_try ask) left)) second new p (alone_next who (Plain GetRecords) over first new (Reports p) keep alone two.going).going

    since : Since who e world first
    since = since_first who e world first keep going.kept own (rivals_none who first)

    same_epoch : m.epoch ≡ e
    same_epoch = let low = two.low in let high = put_low m.epoch world.store.history e who.party going.kept.facts.epochs own.put in omega (arith, low, high)

    both : Got who e world first got
    both = got_both who e world first got going.kept same_epoch since (some_got world.store.records e counted own.recorded) four.low

    drawn : List (ℕ × JobSpec)
    drawn = drawn_at ask world.store

    q : PollState
    q = reached_state ask world.store drawn

    by : DrawsDone who e world first [] drawn (λ drawn. puts_trees e (reached_state ask world.store drawn) m got (suc left) seen (counted_tries (poll_try ask) left)) second new (Reports p) → PollKept who ask world.store new.store p
    by d = ended (puts_all who e q p (suc left) seen (counted_tries (poll_try ask) left) d.mid new keep alone at_records)
      where
        manifest_is : d.mid.store.manifest ≡ m
        manifest_is = ap (λ (store : Store). store.manifest) d.is

        records_is : d.mid.store.records ≡ world.store.records
        records_is = ap (λ (store : Store). store.records) d.is

        at_manifest : Going who (puts_trees e q d.mid.store.manifest got (suc left) seen (counted_tries (poll_try ask) left)) d.mid new (Reports p)
        at_manifest = subst (λ (m : Manifest). Going who (puts_trees e q m got (suc left) seen (counted_tries (poll_try ask) left)) d.mid new (Reports p)) (sym manifest_is) d.going

        at_records : Going who (puts_trees e q d.mid.store.manifest (records_or_none d.mid.store.records) (suc left) seen (counted_tries (poll_try ask) left)) d.mid new (Reports p)
        at_records = subst (λ (r : Option Records). Going who (puts_trees e q d.mid.store.manifest (records_or_none r) (suc left) seen (counted_tries (poll_try ask) left)) d.mid new (Reports p)) (sym records_is) at_manifest

        before : d.mid.store ≡ store_before who.line who.party world.store drawn
        before = d.is ∙ (λ i. record (store_before who.line who.party world.store drawn) { history = twice i })
          where
            twice : ((world.store.history ++ entry_of who.line who.party (GetManifest, Done m.version) ∷ []) ++ entry_of who.line who.party (GetRecords, records_answer world.store.records) ∷ []) ++ map (entry_of who.line who.party) (map draw_of drawn)
                ≡ world.store.history ++ map (entry_of who.line who.party) (calls_before world.store drawn)
            twice = append_assoc (world.store.history ++ entry_of who.line who.party (GetManifest, Done m.version) ∷ []) (entry_of who.line who.party (GetRecords, records_answer world.store.records) ∷ []) (map (entry_of who.line who.party) (map draw_of drawn))
                ∙ append_assoc world.store.history (entry_of who.line who.party (GetManifest, Done m.version) ∷ []) (entry_of who.line who.party (GetRecords, records_answer world.store.records) ∷ map (entry_of who.line who.party) (map draw_of drawn))

        commit : CommitPut who.merge who.line who.party world.store drawn q
        commit = record {
          at = d.mid;
          is = before;
          kept = d.ready.first.kept;
          fits = subst (λ (v : Manifest). CommitFits who.party d.mid q.steps (record v { trees = q.trees; horizon = q.horizon })) (sym manifest_is)
              (commit_lawful who e world first d.mid got ask drawn lawful both d.ready d.fresh (ap (λ (v : Manifest). v.version) (sym manifest_is)));
        }

        ended : PutAll who q p d.mid.store new.store → PollKept who ask world.store new.store p
        ended all = record {
          did = record {
            is = all.is;
            left = all.left ∙ ap (λ (store : Store). all_left who.line who.party q (is_unchanged store.manifest q) store) before ∙ ap (store_after who.line who.party world.store drawn) (sym all.is);
          };
          put = subst (CommitPut who.merge who.line who.party world.store drawn) (sym all.is) commit;
          jobs = λ changed. subst (JobsPut world.store) (sym all.is) (jobs_moved q d.mid.store world.store records_is (all.jobs (ap (λ (r : PollState). is_nothing (change_of r)) (sym all.is) ∙ changed)));
        }

pub poll_did : (who : Caller) (ask : PollAsk) (world new : World) (p : PollState) → CallsKeep who.merge → who.alone ≡ true → IsLawful who.merge → 0 < ask.epoch → HasEpoch who.party ask.epoch world → Going who (poll ask) world new (Reports p)
    → PollKept who ask world.store new.store p
unfolding poll
poll_did who ask world new p keep alone lawful counted own going = polls_did who ask most_refused 0 world new p keep alone lawful counted own going
