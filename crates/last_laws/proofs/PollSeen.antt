-- What the history says of a poll that is alone: whether it added a job, and that the jobs that it added are new.
use Rattle.std.proofs.Common.{◌≡◌, ◌≢◌, refl, sym, ◌∙◌, ap, subst, ℕ, zero, suc, List, [], ◌∷◌, ◌++◌, cond, Bool, true, false, Option, Some, None, ◌<◌, ◌≤◌, arith, ◌+◌, IsTrue, map}
use Rattle.std.specs.Prelude.{◌==◌, ◌||◌, not, nat_lt, option_map, is_some, ⊤}
use Rattle.std.specs.List.{AllByRecursion}
use Rattle.std.specs.Cmp.Lexicographic.{pointwise}
use Rattle.std.proofs.lemmas.Bool.Decides.{Decides-eqb}
use Rattle.row_model.specs.Lists.{Pairs}
use Rattle.row_model.specs.Fold.{Operator, IsLawful}
use Rattle.fleet_model.specs.Jobs.{Job, JobSpec, id_of, trimmed_jobs}
use Rattle.fleet_model.specs.History.{Party, Coordinator, Entry, GetManifest, GetRecords, Commit, ManifestChange, Polled, PutRecords, PollChange}
use Rattle.fleet_model.specs.Store.{Manifest, Records, Store, jobs_in, stored_jobs, records_epoch}
use Rattle.fleet_model.specs.Work.Records.{firsts}
use Rattle.fleet_model.specs.Work.Gates.{is_nonempty}
use Rattle.fleet_model.specs.Work.Parties.{LiveCoordinator}
use Rattle.fleet_model.specs.Work.PollStates.{PollState}
use Rattle.fleet_model.specs.Work.Polls.{change_of, is_nothing}
use Rattle.fleet_model.specs.Exchanges.{Exchange, Plain, DrawsJob, PutsManifest, PutsRecords, after_exchange, records_version, event_of, next_job_id}
use Rattle.step_model.specs.Past.{World}
use Rattle.step_model.specs.Entries.{did_put_epoch, party_eq, last_from, last_event, was_named}
use Rattle.step_model.specs.Kept.Keeps.{Keeps}
use Rattle.step_model.specs.LawfulRecords.{AreNew}
use Rattle.step_model.specs.LawfulTables.{DrawFits}
use Rattle.step_model.specs.Fits.{CoordinatorHolds}
use Rattle.step_model.specs.Rivals.{Caller, after_call}
use Rattle.step_model.specs.Courses.Course.{Course, Ends, Calls, draws_jobs, gets_records, puts_manifest, puts_records}
use Rattle.step_model.specs.Courses.Tries.{counted_tries}
use Rattle.step_model.specs.Courses.CourseRuns.{Gives, Runs, IsLawfulCourse}
use Rattle.step_model.specs.Courses.StepEnds.{StepEnd, Reports, GivesUp, Fenced, most_refused}
use Rattle.step_model.specs.Steps.PollSteps.{PollAsk, poll, poll_try, polls_over, puts_trees, puts_polled, unless_fenced, records_or_none, first_steps, proposed_specs, merged_into, is_unchanged, same_tree}
use Rattle.step_laws.specs.Runs.{CallsKeep}
use Rattle.step_laws.proofs.Elements.{is_itself, all_at, all_to}
use Rattle.course_laws.proofs.Calls.{both}
use Rattle.course_laws.proofs.Puts.{party_itself}
use Rattle.course_laws.proofs.Later.{entry_by, call_history}
use Rattle.course_laws.proofs.NewIds.{AreFresh, drawn_fresh, not_named}
use Rattle.commit_laws.proofs.AllCalls.{calls_keep}
use Rattle.coordinator_laws.proofs.Course.{polls_are_lawful}
use Rattle.coordinator_laws.proofs.SameTrees.{unchanged_commit}
use Rattle.coordinator_laws.proofs.Quiet.{HasEpoch}
use Rattle.script_model.specs.Script.{Poll}
use Rattle.script_model.specs.States.{Inputs, State}
use Rattle.script_model.specs.Replies.{poll_reply}
use Rattle.script_model.specs.Lines.PollLines.{poll_ask}
use Rattle.script_model.specs.LineSteps.{OneCourse}
use Rattle.script_model.specs.Lines.Settles.{is_ok, is_adding}
use Rattle.line_laws.specs.Alone.{HadRoom}
use Rattle.line_laws.specs.States.{StateKeeps}
use Rattle.line_laws.specs.Lines.PollRuns.{input_at, reached_state, manifest_after, records_after, CommitPut}
use Rattle.line_laws.proofs.Parties.{found}
use Rattle.line_laws.proofs.Lines.{caller_of, world_of}
use Rattle.line_laws.proofs.PollLines.{reported, whole_is}
use Rattle.line_laws.proofs.PollRuns.{Going, Gone, alone_next, poll_did}
use Rattle.coordinator_laws.proofs.PollReports.{got_version}

-- ---- what calls leave

-- Neither object changed, and no table came.
record SameObjects (old new : Store) : Type 0 where
  manifest : new.manifest ≡ old.manifest
  records : new.records ≡ old.records
  tables : new.tables ≡ old.tables

-- A put of the manifest leaves the records.
put_leaves : (version : ℕ) (change : ManifestChange) (value : Manifest) (store : Store) → (after_exchange (PutsManifest version change value) store).records ≡ store.records
put_leaves version change value store = by (version == store.manifest.version)
  where
    by : (b : Bool) → (cond b (record store { manifest = record value { version = version + 1 } }) store).records ≡ store.records
    by true = refl
    by false = refl

-- ---- the last event of a party

last_pushed : (party : Party) (last : Option Entry) (history : List Entry) (entry : Entry) → party_eq party entry.party ≡ true → last_from last party (history ++ entry ∷ []) ≡ Some entry
last_pushed party last [] entry own = ap (λ b. cond b (Some entry) last) own
last_pushed party last (first ∷ history) entry own = last_pushed party (cond (party_eq party first.party) (Some first) last) history entry own

last_call : (who : Caller) (x : Exchange) (world : World) → last_event who.party (after_call who.line who.party x None world).store.history ≡ Some (event_of x world.store)
last_call who x world =
    ap (last_event who.party) (call_history who.line who.party x None world.store)
    ∙ ap (option_map (λ (entry : Entry). entry.event)) (last_pushed who.party None world.store.history (entry_by who.line who.party x None world.store) (party_itself who.party))

-- The party's last call added no job.
abbrev AddedNone : Caller → World → Type 0
AddedNone who world = is_adding (last_event who.party world.store.history) ≡ false

called_none : (who : Caller) (x : Exchange) (world : World) → is_adding (Some (event_of x world.store)) ≡ false → AddedNone who (after_call who.line who.party x None world)
called_none who x world e = ap is_adding (last_call who x world) ∙ e

-- ---- what a poll added

-- The history says whether the poll added a job. No stored job had the id of one that it added, and it added each once.
pub record AddsSeen (party : Party) (old new : Store) (p : PollState) : Type 0 where
  pub added : is_adding (last_event party new.history) ≡ is_nonempty p.added
  pub fresh : AllByRecursion (λ q. AllByRecursion (λ job. job.id ≢ q.0) (stored_jobs old)) p.added
  pub once : Pairs (λ a b. a.0 ≢ b.0) p.added
  pub named : is_nonempty p.added ≡ true → last_event party new.history ≡ Some (PutRecords (Polled (change_of p)))

pub none_added : (c : PollChange) → is_nothing c ≡ true → c.added ≡ []
none_added c h = by (is_nonempty c.freed) (is_nonempty c.completed) (is_nonempty c.failed) c.added (is_nonempty c.scheduled) h
  where
    by : (a b d : Bool) (added : List (ℕ × JobSpec)) (e : Bool) → not (a || b || d || is_nonempty (firsts added) || e) ≡ true → added ≡ []
    by a b d [] e h = refl
    by true b d (q ∷ added) e h = absurd (cc h)
    by false true d (q ∷ added) e h = absurd (cc h)
    by false false true (q ∷ added) e h = absurd (cc h)
    by false false false (q ∷ added) e h = absurd (cc h)

nothing_added : (party : Party) (old new : Store) (p : PollState) → p.added ≡ [] → is_adding (last_event party new.history) ≡ false → AddsSeen party old new p
nothing_added party old new p none last = record {
  added = last ∙ sym (ap is_nonempty none);
  fresh = subst (AllByRecursion (λ q. AllByRecursion (λ (job : Job). job.id ≢ q.0) (stored_jobs old))) (sym none) tt;
  once = subst (Pairs (λ a b. a.0 ≢ b.0)) (sym none) tt;
  named = λ some. let empty = ap is_nonempty none in absurd (cc (some, empty));
}

-- Jobs that no put named are not stored.
are_fresh : {merge : _} (world : World) (added : List (ℕ × JobSpec)) → Keeps merge world → AreNew world added → AllByRecursion (λ q. AllByRecursion (λ (job : Job). job.id ≢ q.0) (stored_jobs world.store)) added
are_fresh world added k new = all_to _ _ added (λ q there fresh. all_to _ _ (stored_jobs world.store) (λ job one named same.
    let here = ap (was_named world.store.history) same in cc (here, named, fresh)) k.facts.names.named) new

record Seen (party : Party) (p reported : PollState) (old new : Store) : Type 0 where
  is : reported ≡ p
  seen : AddsSeen party old new p

-- The end of a poll: it puts the records if it changed a job, and this put is then its last call.
rest_seen : (who : Caller) (epoch : ℕ) (p reported : PollState) (left seen : ℕ) (world new : World) → CallsKeep who.merge → who.alone ≡ true → AddedNone who world
    → Going who (puts_polled epoch p (records_or_none world.store.records) left seen) world new (Reports reported) → Seen who.party p reported world.store new.store
rest_seen who epoch p reported zero seen world new keep alone none going = absurd (cc (going.run.1))
rest_seen who epoch p reported (suc left) seen world new keep alone none going =
    by (λ seen. cond (left == 0) (Ends (GivesUp seen)) (gets_records (λ newer. let got = records_or_none newer in unless_fenced epoch got.epoch (puts_polled epoch (merged_into p got.jobs) got left seen)))) (is_nothing (change_of p)) refl going
  where
    got : Records
    got = records_or_none world.store.records

    there : got.version ≡ records_version world.store.records
    there = got_version world.store.records

    x : Exchange
    x = PutsRecords got.version (Polled (change_of p)) got.epoch (trimmed_jobs p.jobs)

    ended : AllByRecursion (λ q. AllByRecursion (λ (job : Job). job.id ≢ q.0) (stored_jobs world.store)) p.added → Pairs (λ a b. a.0 ≢ b.0) p.added
        → Runs who (Ends (Reports p)) (after_call who.line who.party x None world) new (Gives (Reports reported)) → Seen who.party p reported world.store new.store
    ended fresh once run =
        let left = run.0 in
        record {
          is = cc (run.1);
          seen = record {
            added = ap (λ (t : World). is_adding (last_event who.party t.store.history)) (sym left) ∙ ap is_adding (last_call who x world);
            fresh = fresh;
            once = once;
            named = λ some. ap (λ (t : World). last_event who.party t.store.history) (sym left) ∙ last_call who x world;
          };
        }

    by : (again : ℕ → Course (StepEnd PollState)) (b : Bool) → is_nothing (change_of p) ≡ b
        → Going who (cond b (Ends (Reports p)) (puts_records got (Polled (change_of p)) got.epoch (trimmed_jobs p.jobs) (Ends (Reports p)) again)) world new (Reports reported) → Seen who.party p reported world.store new.store
    by again true e going = let left = going.run.0 in record {
      is = cc (going.run.1);
      seen = nothing_added who.party world.store new.store p (none_added (change_of p) e) (ap (λ (t : World). is_adding (last_event who.party t.store.history)) (sym left) ∙ none);
    }
    by again false e going =
        let same : (got.version == records_version world.store.records) ≡ true = (Decides-eqb got.version (records_version world.store.records)).1 there in
        let next : Store → Course (StepEnd PollState) = λ met. cond (got.version == records_version met.records) (Ends (Reports p)) (again (records_version met.records)) in
        let gone = alone_next who x next world new (Reports reported) keep alone going in
        ended (are_fresh world p.added going.kept (gone.call.1 there).fits.new) gone.call.0.once
        (subst (λ (b : Bool). Runs who (cond b (Ends (Reports p)) (again (records_version world.store.records))) (after_call who.line who.party x None world) new (Gives (Reports reported))) same gone.going.run)

-- The puts of a poll: first the manifest, if the poll changed it.
trees_seen : (who : Caller) (epoch : ℕ) (p reported : PollState) (left seen : ℕ) (again : ℕ → Course (StepEnd PollState)) (world new : World) → CallsKeep who.merge → who.alone ≡ true → AddedNone who world
    → Going who (puts_trees epoch p world.store.manifest (records_or_none world.store.records) left seen again) world new (Reports reported) → Seen who.party p reported world.store new.store
trees_seen who epoch p reported left seen again world new keep alone none going = by (is_unchanged world.store.manifest p) refl going
  where
    m : Manifest
    m = world.store.manifest

    x : Exchange
    x = PutsManifest m.version (Commit p.steps) (record m { trees = p.trees; horizon = p.horizon })

    by : (b : Bool) → is_unchanged m p ≡ b
        → Going who (cond b (puts_polled epoch p (records_or_none world.store.records) left seen) (puts_manifest m.version (Commit p.steps) (record m { trees = p.trees; horizon = p.horizon }) (puts_polled epoch p (records_or_none world.store.records) most_refused 0) again)) world new (Reports reported)
        → Seen who.party p reported world.store new.store
    by true e going = rest_seen who epoch p reported left seen world new keep alone none going
    by false e going =
        let put : (after_call who.line who.party x None world).store.records ≡ world.store.records = put_leaves m.version (Commit p.steps) (record m { trees = p.trees; horizon = p.horizon }) world.store in
        let afterwards = after_call who.line who.party x None world in
        let next : Store → Course (StepEnd PollState) = λ met. cond (m.version == met.manifest.version) (puts_polled epoch p (records_or_none world.store.records) most_refused 0) (again met.manifest.version) in
        let gone = alone_next who x next world new (Reports reported) keep alone going in
        let first = subst (λ (b : Bool). Going who (cond b (puts_polled epoch p (records_or_none world.store.records) most_refused 0) (again m.version)) afterwards new (Reports reported)) (is_itself m.version) gone.going in
        let second = subst (λ (r : Option Records). Going who (puts_polled epoch p (records_or_none r) most_refused 0) afterwards new (Reports reported)) (sym put) first in
        let rest = rest_seen who epoch p reported most_refused 0 afterwards new keep alone (called_none who x world refl) second in
        record {
          is = rest.is;
          seen = record {
            added = rest.seen.added;
            fresh = subst (λ (r : Option Records). AllByRecursion (λ q. AllByRecursion (λ (job : Job). job.id ≢ q.0) (jobs_in r)) p.added) put rest.seen.fresh;
            once = rest.seen.once;
            named = rest.seen.named;
          };
        }

-- No stored job has one of these ids.
abbrev pub NewIds : {B : Type 0} → Store → List (ℕ × B) → Type 0
NewIds store drawn = AllByRecursion (λ d. AllByRecursion (λ (job : Job). job.id ≢ d.0) (stored_jobs store)) drawn

-- The next id that is drawn is no stored job's.
next_is_new : (who : Caller) (world : World) (moment : ℕ) → CallsKeep who.merge → Keeps who.merge world → DrawFits world.store → AllByRecursion (λ (job : Job). job.id ≢ next_job_id moment world.store) (stored_jobs world.store)
next_is_new who world moment keep k room =
    let after = after_call who.line who.party (DrawsJob moment) None world in
    let id = next_job_id moment world.store in
    let none : AreFresh {B = ⊤} who.party world [] = record { drawn = tt; fresh = tt; once = tt } in
    let drawn = drawn_fresh who world moment tt [] k room none in
    let unnamed = not_named after.store.history id drawn.fresh.0 (was_named after.store.history id) refl in
    all_to _ _ (stored_jobs world.store) (λ job there named same. let here = ap (was_named after.store.history) same in cc (here, named, unnamed)) (keep (DrawsJob moment) who.line who.party None world k room tt).facts.names.named

-- The run goes on after the draws, with an id for each element. The ids are new and rise, and no draw adds a job.
record DrawsSeen {A B : Type 0} (who : Caller) (moment : ℕ) (xs : List B) (next : List (ℕ × B) → Course A) (world new : World) (answer : A) : Type 0 where
  drawn : List (ℕ × B)
  each : map (λ d. d.1) drawn ≡ xs
  above : AllByRecursion (λ d. id_of moment world.store.jobs_drawn < d.0) drawn
  rise : Pairs (λ a b. a.0 < b.0) drawn
  new_ids : NewIds world.store drawn
  mid : World
  same : SameObjects world.store mid.store
  none : AddedNone who mid
  going : Going who (next drawn) mid new answer

later_id : (moment number : ℕ) → id_of moment number < id_of moment (number + 1)
later_id moment number = omega arith

-- The draws of a poll, one after the other.
draws_seen : {A B : Type 0} (who : Caller) (moment : ℕ) (xs : List B) (next : List (ℕ × B) → Course A) (world new : World) (answer : A) → CallsKeep who.merge → who.alone ≡ true → AddedNone who world
    → Going who (draws_jobs moment xs next) world new answer → DrawsSeen who moment xs next world new answer
draws_seen who moment [] next world new answer keep alone none going = record { drawn = []; each = refl; above = tt; rise = tt; new_ids = tt; mid = world; same = record { manifest = refl; records = refl; tables = refl }; none = none; going = going }
draws_seen {A} {B} who moment (x ∷ xs) next world new answer keep alone none going =
    further (draws_seen who moment xs (λ drawn. next ((next_job_id moment world.store, x) ∷ drawn)) (after_call who.line who.party (DrawsJob moment) None world) new answer keep alone (called_none who (DrawsJob moment) world refl) gone.going)
  where
    gone : Gone who (DrawsJob moment) (λ met. draws_jobs moment xs (λ drawn. next ((next_job_id moment met, x) ∷ drawn))) world new answer
    gone = alone_next who (DrawsJob moment) (λ met. draws_jobs moment xs (λ drawn. next ((next_job_id moment met, x) ∷ drawn))) world new answer keep alone going

    further : DrawsSeen who moment xs (λ drawn. next ((next_job_id moment world.store, x) ∷ drawn)) (after_call who.line who.party (DrawsJob moment) None world) new answer → DrawsSeen who moment (x ∷ xs) next world new answer
    further d = record {
      drawn = (next_job_id moment world.store, x) ∷ d.drawn;
      each = ap (λ ys. x ∷ ys) d.each;
      above = (later_id moment world.store.jobs_drawn, all_to _ _ d.drawn (λ other there low. let first = later_id moment world.store.jobs_drawn in omega (arith, first, low)) d.above);
      rise = (d.above, d.rise);
      new_ids = (next_is_new who world moment keep going.kept gone.call, d.new_ids);
      mid = d.mid;
      same = record { manifest = d.same.manifest; records = d.same.records; tables = d.same.tables };
      none = d.none;
      going = d.going;
    }

-- What a poll added, and the ids that it drew for what was proposed.
record PollSeen (party : Party) (ask : PollAsk) (old new : Store) (p : PollState) : Type 0 where
  drawn : List (ℕ × JobSpec)
  each : map (λ d. d.1) drawn ≡ proposed_specs ask (input_at ask old) (first_steps ask (input_at ask old))
  rise : Pairs (λ a b. a.0 < b.0) drawn
  new_ids : NewIds old drawn
  is : p ≡ reached_state ask old drawn
  seen : AddsSeen party old new p

unfenced : (who : Caller) (epoch stored : ℕ) (next : Course (StepEnd PollState)) (world new : World) (p : PollState) → Going who (unless_fenced epoch stored next) world new (Reports p) → Going who next world new (Reports p)
unfenced who epoch stored next world new p going = by (nat_lt epoch stored) going
  where
    by : (b : Bool) → Going who (cond b (Ends (Fenced stored)) next) world new (Reports p) → Going who next world new (Reports p)
    by true going = absurd (cc (going.run.1))
    by false going = going

-- A try of a poll that is alone meets no refused put, so it is the only one.
tries_seen : (who : Caller) (ask : PollAsk) (left seen : ℕ) (world new : World) (p : PollState) → CallsKeep who.merge → who.alone ≡ true → Going who (counted_tries (poll_try ask) left seen) world new (Reports p) → PollSeen who.party ask world.store new.store p
tries_seen who ask zero seen world new p keep alone going = absurd (cc (going.run.1))
tries_seen who ask (suc left) seen world new p keep alone going =
    let over : Store → Course (StepEnd PollState) = λ met. let got = records_or_none met.records in unless_fenced ask.epoch got.epoch (polls_over ask met.tables world.store.manifest got (suc left) seen (counted_tries (poll_try ask) left)) in
    let got = records_or_none world.store.records in
    let first = after_call who.line who.party (Plain GetManifest) None world in
    let second = after_call who.line who.party (Plain GetRecords) None first in
    let begin : Store → Course (StepEnd PollState) = λ met. unless_fenced ask.epoch met.manifest.epoch (Calls (Plain GetRecords) (λ after. let got = records_or_none after.records in unless_fenced ask.epoch got.epoch (polls_over ask after.tables met.manifest got (suc left) seen (counted_tries (poll_try ask) left)))) in
    let one = alone_next who (Plain GetManifest) begin world new (Reports p) keep alone going in
    let two = unfenced who ask.epoch world.store.manifest.epoch (Calls (Plain GetRecords) over) first new p one.going in
    let three = alone_next who (Plain GetRecords) over first new (Reports p) keep alone two in
    let four = unfenced who ask.epoch got.epoch (polls_over ask world.store.tables world.store.manifest got (suc left) seen (counted_tries (poll_try ask) left)) second new p three.going in
    ended (draws_seen who ask.moment (proposed_specs ask (input_at ask world.store) (first_steps ask (input_at ask world.store)))
    (λ drawn. puts_trees ask.epoch (reached_state ask world.store drawn) world.store.manifest got (suc left) seen (counted_tries (poll_try ask) left)) second new (Reports p) keep alone (called_none who (Plain GetRecords) first refl) four)
  where
    ended : DrawsSeen who ask.moment (proposed_specs ask (input_at ask world.store) (first_steps ask (input_at ask world.store))) (λ drawn. puts_trees ask.epoch (reached_state ask world.store drawn) world.store.manifest (records_or_none world.store.records) (suc left) seen (counted_tries (poll_try ask) left))
        (after_call who.line who.party (Plain GetRecords) None (after_call who.line who.party (Plain GetManifest) None world)) new (Reports p) → PollSeen who.party ask world.store new.store p
    ended d =
        let q = reached_state ask world.store d.drawn in
        let at_manifest = subst (λ (m : Manifest). Going who (puts_trees ask.epoch q m (records_or_none world.store.records) (suc left) seen (counted_tries (poll_try ask) left)) d.mid new (Reports p)) (sym d.same.manifest) d.going in
        let at_records = subst (λ (r : Option Records). Going who (puts_trees ask.epoch q d.mid.store.manifest (records_or_none r) (suc left) seen (counted_tries (poll_try ask) left)) d.mid new (Reports p)) (sym d.same.records) at_manifest in
        let all = trees_seen who ask.epoch q p (suc left) seen (counted_tries (poll_try ask) left) d.mid new keep alone d.none at_records in
        record {
          drawn = d.drawn;
          each = d.each;
          rise = d.rise;
          new_ids = d.new_ids;
          is = all.is;
          seen = subst (AddsSeen who.party world.store new.store) (sym all.is) (record {
            added = all.seen.added;
            fresh = subst (λ (r : Option Records). AllByRecursion (λ x. AllByRecursion (λ (job : Job). job.id ≢ x.0) (jobs_in r)) q.added) d.same.records all.seen.fresh;
            once = all.seen.once;
            named = all.seen.named;
          });
        }

poll_seen : (who : Caller) (ask : PollAsk) (world new : World) (p : PollState) → CallsKeep who.merge → who.alone ≡ true → Going who (poll ask) world new (Reports p) → PollSeen who.party ask world.store new.store p
unfolding poll
poll_seen who ask world new p keep alone going = tries_seen who ask most_refused 0 world new p keep alone going

-- ---- the line

-- What a poll did that reached this state: it drew an id for each proposal that it took.
pub record DidPoll (ask : PollAsk) (old new : Store) (p : PollState) : Type 0 where
  pub drawn : List (ℕ × JobSpec)
  pub each : map (λ d. d.1) drawn ≡ proposed_specs ask (input_at ask old) (first_steps ask (input_at ask old))
  pub is : p ≡ reached_state ask old drawn
  pub manifest : new.manifest ≡ manifest_after old.manifest p
  pub unchanged : is_unchanged old.manifest p ≡ true → p.trees ≡ old.manifest.trees
  pub records : new.records ≡ records_after old.records p
  pub tables : new.tables ≡ old.tables

-- A poll that put no manifest has the trees that it got.
unchanged_by : (merge : Operator) (line : ℕ) (party : Party) (old : Store) (drawn : List (ℕ × JobSpec)) (p : PollState) → IsLawful merge → CommitPut merge line party old drawn p → is_unchanged old.manifest p ≡ true → p.trees ≡ old.manifest.trees
unchanged_by merge line party old drawn p lawful put same =
    let manifest = ap (λ (store : Store). store.manifest) put.is in
    unchanged_commit merge put.at party p.steps (record put.at.store.manifest { trees = p.trees; horizon = p.horizon }) lawful put.kept put.fits
    (ap (λ (m : Manifest). pointwise same_tree m.trees p.trees) manifest ∙ (both (pointwise same_tree old.manifest.trees p.trees) (old.manifest.horizon == p.horizon) same).0)
    ∙ ap (λ (m : Manifest). m.trees) manifest

-- A live coordinator polled and reached this state.
pub record PolledLine (inputs : Inputs) (n : ℕ) (old new : State) : Type 0 where
  pub coordinator : LiveCoordinator
  pub p : PollState
  pub did : DidPoll (poll_ask inputs old coordinator false) old.store new.store p
  pub rise : Pairs (λ a b. a.0 < b.0) did.drawn
  pub new_ids : NewIds old.store did.drawn
  pub recorded : IsTrue (is_some old.store.records)
  pub seen : AddsSeen (Coordinator n) old.store new.store p
  pub parties : new.parties ≡ old.parties

-- Records of some epoch are there.
has_records : (epoch : ℕ) (records : Option Records) → 0 < epoch → epoch ≤ records_epoch records → IsTrue (is_some records)
has_records epoch None counted low = absurd (omega (arith, counted, low))
has_records epoch (Some records) counted low = refl

-- A line by which a coordinator polls, if its reply is ok.
pub poll_line_did : (inputs : Inputs) (number n : ℕ) (old new : State) (k : StateKeeps inputs.merge old) (answer : List ℕ) → IsLawful inputs.merge → OneCourse inputs number old (Poll n) answer new → HadRoom new.store → is_ok answer ≡ true
    → PolledLine inputs n old new
poll_line_did inputs number n old new k answer lawful one room ok =
    let r = reported inputs number false poll_reply n old k answer new (whole_is inputs number old new n answer one) room ok in
    let who : Caller = caller_of inputs.merge number (Coordinator n) in
    let world = world_of inputs.merge old k in
    let ask = poll_ask inputs old r.coordinator false in
    let f = found (λ (c : LiveCoordinator). n == c.number) old.parties.coordinators r.coordinator r.live in
    let same : Coordinator n ≡ Coordinator r.coordinator.number = ap Coordinator ((Decides-eqb n r.coordinator.number).0 f.passes) in
    let holds = all_at (λ (c : LiveCoordinator). CoordinatorHolds world c None) old.parties.coordinators r.coordinator k.fleet.coordinators f.there in
    let is : IsLawfulCourse who world (poll ask) = polls_are_lawful who world r.coordinator.number ask None lawful same k.fleet.store holds in
    let own : HasEpoch (Coordinator n) ask.epoch world = record { put = subst (λ party. IsTrue (did_put_epoch party old.store.history ask.epoch)) (sym same) holds.put; recorded = holds.recorded } in
    let going : Going who (poll ask) world r.step.left (Reports r.step.report) = record { kept = k.fleet.store; lawful = is; run = r.step.run } in
    let all = poll_did who ask world r.step.left r.step.report (calls_keep inputs.merge lawful) refl lawful holds.counted own going in
    let d = all.did in
    let s = poll_seen who ask world r.step.left r.step.report (calls_keep inputs.merge lawful) refl going in
    record {
      coordinator = r.coordinator;
      p = r.step.report;
      did = record {
        drawn = s.drawn;
        each = s.each;
        is = s.is;
        manifest = ap (λ (store : Store). store.manifest) (sym r.step.stored) ∙ ap (λ (store : Store). store.manifest) d.left;
        unchanged = unchanged_by inputs.merge number (Coordinator n) old.store _ r.step.report lawful all.put;
        records = ap (λ (store : Store). store.records) (sym r.step.stored) ∙ ap (λ (store : Store). store.records) d.left;
        tables = ap (λ (store : Store). store.tables) (sym r.step.stored) ∙ ap (λ (store : Store). store.tables) d.left;
      };
      rise = s.rise;
      new_ids = s.new_ids;
      recorded = has_records r.coordinator.epoch old.store.records holds.counted holds.recorded;
      seen = subst (λ (store : Store). AddsSeen (Coordinator n) old.store store r.step.report) r.step.stored s.seen;
      parties = r.step.live;
    }
