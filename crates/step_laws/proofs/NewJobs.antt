-- New jobs that a put of the records brings: no entry has said anything of them.
use Rattle.std.proofs.Common.{◌≡◌, ◌≢◌, refl, sym, ◌∙◌, ap, subst, ℕ, ◌<◌, ◌≤◌, List, [], ◌∷◌, cond, Bool, true, false, inl, inr, ◌⊎◌, arith}
use Rattle.std.specs.Prelude.{IsTrue, IfSome, ◌==◌, ◌&&◌, ◌||◌, nat_lt, flat_map}
use Rattle.std.specs.List.{AllByRecursion, list_any}
use Rattle.std.proofs.lemmas.Bool.Decides.{Decides-eqb}
use Rattle.std.proofs.lemmas.Bool.{ltb-true, ltb-false}
use Rattle.row_model.specs.Lists.{Pairs}
use Rattle.row_model.specs.Fold.{Operator}
use Rattle.fleet_model.specs.Jobs.{JobSpec, Job, Jobs, contains, put_job, job_with}
use Rattle.fleet_model.specs.History.{Party, Event, PutManifest, PutRecords, Commit, Step, Join, Move, Drain, RecordChange, Entry, Answer, stood}
use Rattle.fleet_model.specs.Work.Records.{firsts, new_job, with_new}
use Rattle.fleet_model.specs.Past.Replay.{named_specs}
use Rattle.fleet_model.specs.Store.{Records, stored_jobs}
use Rattle.fleet_model.specs.Invariants.JobsFit.{HoldApart, NodesHeldOnce, was_joined, joins, is_join_of}
use Rattle.fleet_model.specs.Invariants.AttemptsFit.{was_beaten}
use Rattle.step_model.specs.Past.{World}
use Rattle.step_model.specs.Entries.{was_named, attempts_in}
use Rattle.step_model.specs.Kept.Faithful.{AgreesWith}
use Rattle.step_model.specs.LawfulRecords.{AreNew}
use Rattle.step_model.specs.Kept.NamesKept.{IsUpTo}
use Rattle.step_model.specs.Kept.JoinsKept.{joins_in, join_of}
use Rattle.step_laws.proofs.Elements.{IsIn, all_at, all_from, all_back, Passes, any_element, any_push_yes}
use Rattle.step_laws.proofs.Mute.{IsQuietFor}
use Rattle.step_laws.proofs.Grown.{joined_stays, beaten_stays_so}
use Rattle.step_laws.proofs.Beaten.{first_beat}
use Rattle.step_laws.proofs.Bodies.{Body, JobKept}
use Rattle.step_laws.proofs.RecordsBodies.{with_records}
use Rattle.step_laws.proofs.Changed.{found_job, kept_quiet}
use Rattle.step_laws.proofs.WorkerPuts.{named_in}
use Rattle.step_laws.proofs.FlushNodes.{refused}

-- ---- jobs that are put in

-- A job of a list into which a new job was put is the new one or was there before.
pub in_put : (new : Job) (jobs : Jobs) (job : Job) → IsIn job (put_job new jobs) → (new ≡ job) ⊎ IsIn job jobs
in_put new [] job (inl same) = inl same
in_put new [] job (inr never) = absurd never
in_put new (first ∷ jobs) job there = by (nat_lt new.id first.id) (in_put new jobs job) there
  where
    later : (new ≡ job) ⊎ IsIn job jobs → (new ≡ job) ⊎ IsIn job (first ∷ jobs)
    later (inl same) = inl same
    later (inr one) = inr (inr one)

    front : (first ≡ job) ⊎ IsIn job (put_job new jobs) → (IsIn job (put_job new jobs) → (new ≡ job) ⊎ IsIn job jobs) → (new ≡ job) ⊎ IsIn job (first ∷ jobs)
    front (inl same) rest = inr (inl same)
    front (inr one) rest = later (rest one)

    by : (b : Bool) → (IsIn job (put_job new jobs) → (new ≡ job) ⊎ IsIn job jobs) → IsIn job (cond b (new ∷ first ∷ jobs) (first ∷ put_job new jobs)) → (new ≡ job) ⊎ IsIn job (first ∷ jobs)
    by true rest there = there
    by false rest there = front there rest

-- Every two jobs are related after a new one is put in, if they were before and the new one is with each, both ways.
pub pairs_put : (R : Job → Job → Type 0) (new : Job) (jobs : Jobs) → ((job : Job) → IsIn job jobs → R new job × R job new) → Pairs R jobs → Pairs R (put_job new jobs)
pairs_put R new [] h pairs = (tt, tt)
pairs_put R new (first ∷ jobs) h pairs = by (nat_lt new.id first.id) (pairs_put R new jobs (λ job there. h job (inr there)) pairs.1)
  where
    ahead : AllByRecursion (R first) (put_job new jobs)
    ahead = all_from _ (put_job new jobs) (λ job there. at job (in_put new jobs job there))
      where
        at : (job : Job) → (new ≡ job) ⊎ IsIn job jobs → R first job
        at job (inl same) = subst (R first) same (h first (inl refl)).1
        at job (inr there) = all_at (R first) jobs job pairs.0 there

    by : (b : Bool) → Pairs R (put_job new jobs) → Pairs R (cond b (new ∷ first ∷ jobs) (first ∷ put_job new jobs))
    by true rest = ((all_from _ (first ∷ jobs) (λ job there. (h job there).0)), pairs)
    by false rest = (ahead, rest)

-- Ids rise where the new one is another.
pub rise_put : (new : Job) (jobs : Jobs) → ((job : Job) → IsIn job jobs → new.id ≡ job.id → ⊥) → Pairs (λ a b. a.id < b.id) jobs → Pairs (λ a b. a.id < b.id) (put_job new jobs)
rise_put new [] other rise = (tt, tt)
rise_put new (first ∷ jobs) other rise = by (nat_lt new.id first.id) refl (rise_put new jobs (λ job there. other job (inr there)) rise.1)
  where
    above : (job : Job) → IsIn job jobs → new.id < first.id → new.id < job.id
    above job there low = let high = all_at (λ (j : Job). first.id < j.id) jobs job rise.0 there in omega (arith, low, high)

    ahead : first.id < new.id → AllByRecursion (λ (j : Job). first.id < j.id) (put_job new jobs)
    ahead low = all_from _ (put_job new jobs) (λ job there. at job (in_put new jobs job there))
      where
        at : (job : Job) → (new ≡ job) ⊎ IsIn job jobs → first.id < job.id
        at job (inl same) = subst (λ (j : Job). first.id < j.id) same low
        at job (inr there) = all_at (λ (j : Job). first.id < j.id) jobs job rise.0 there

    by : (b : Bool) → nat_lt new.id first.id ≡ b → Pairs (λ a b. a.id < b.id) (put_job new jobs) → Pairs (λ a b. a.id < b.id) (cond b (new ∷ first ∷ jobs) (first ∷ put_job new jobs))
    by true e rest = let low = ltb-true new.id first.id e in ((low, all_from _ jobs (λ job there. above job there low)), rise)
    by false e rest = let high = ltb-false new.id first.id e in (ahead (strict high (other first (inl refl))), rest)
      where
        strict : first.id ≤ new.id → (new.id ≡ first.id → ⊥) → first.id < new.id
        strict high differs = by_equal (new.id == first.id) refl
          where
            by_equal : (c : Bool) → (new.id == first.id) ≡ c → first.id < new.id
            by_equal true f = absurd (differs ((Decides-eqb new.id first.id).0 f))
            by_equal false f = let unequal = λ (same : new.id ≡ first.id). differs same in omega (arith, high, unequal)

-- ---- all new jobs

-- A job of a list into which all named jobs were put is a new one of them or was there before.
pub in_new : (named : List (ℕ × JobSpec)) (jobs : Jobs) (job : Job) → IsIn job (with_new named jobs) → ((p : ℕ × JobSpec) × (IsIn p named × (new_job p ≡ job))) ⊎ IsIn job jobs
in_new [] jobs job there = inr there
in_new (p ∷ named) jobs job there = by (in_new named (put_job (new_job p) jobs) job there)
  where
    first : (new_job p ≡ job) ⊎ IsIn job jobs → ((q : ℕ × JobSpec) × (IsIn q (p ∷ named) × (new_job q ≡ job))) ⊎ IsIn job jobs
    first (inl same) = inl (p, (inl refl, same))
    first (inr one) = inr one

    by : ((q : ℕ × JobSpec) × (IsIn q named × (new_job q ≡ job))) ⊎ IsIn job (put_job (new_job p) jobs) → ((q : ℕ × JobSpec) × (IsIn q (p ∷ named) × (new_job q ≡ job))) ⊎ IsIn job jobs
    by (inl found) = inl (found.0, (inr found.1.0, found.1.1))
    by (inr one) = first (in_put (new_job p) jobs job one)

pub rise_new : (named : List (ℕ × JobSpec)) (jobs : Jobs) → Pairs (λ p q. p.0 ≢ q.0) named → ((p : ℕ × JobSpec) (job : Job) → IsIn p named → IsIn job jobs → p.0 ≡ job.id → ⊥) → Pairs (λ a b. a.id < b.id) jobs → Pairs (λ a b. a.id < b.id) (with_new named jobs)
rise_new [] jobs once other rise = rise
rise_new (p ∷ named) jobs once other rise =
    rise_new named (put_job (new_job p) jobs) once.1 (λ q job there one same. by q job there same (in_put (new_job p) jobs job one)) (rise_put (new_job p) jobs (λ job there same. other p job (inl refl) there same) rise)
  where
    by : (q : ℕ × JobSpec) (job : Job) → IsIn q named → q.0 ≡ job.id → (new_job p ≡ job) ⊎ IsIn job jobs → ⊥
    by q job there same (inl new) = all_at (λ r. p.0 ≢ r.0) named q once.0 there (ap (λ (j : Job). j.id) new ∙ sym same)
    by q job there same (inr old) = other q job (inr there) old same

pub pairs_new : (R : Job → Job → Type 0) (named : List (ℕ × JobSpec)) (jobs : Jobs) → ((p : ℕ × JobSpec) (job : Job) → R (new_job p) job × R job (new_job p)) → Pairs R jobs → Pairs R (with_new named jobs)
pairs_new R [] jobs h pairs = pairs
pairs_new R (p ∷ named) jobs h pairs = pairs_new R named (put_job (new_job p) jobs) h (pairs_put R (new_job p) jobs (λ job there. h p job) pairs)

pub held_once_new : (named : List (ℕ × JobSpec)) (jobs : Jobs) → NodesHeldOnce jobs → NodesHeldOnce (with_new named jobs)
held_once_new named jobs h = pairs_new HoldApart named jobs (λ p job. ((λ first second. absurd (cc first)), (λ first second. absurd (cc second)))) h

-- ---- nothing is said of a new job

not_beaten : (merge : Operator) (world : World) (specs : ℕ → JobSpec) → Body merge world specs → (id : ℕ) → was_named world.store.history id ≡ false → was_beaten world.store.history id ≡ false
not_beaten merge world specs b id unnamed = by (was_beaten world.store.history id) refl
  where
    by : (c : Bool) → was_beaten world.store.history id ≡ c → c ≡ false
    by true e =
        let beat = first_beat id world.store.history e in
        let up = all_at (IsUpTo world.store.history (stored_jobs world.store)) (attempts_in beat.1.entry.event) (id, beat.0) (all_at _ world.store.history beat.1.entry b.up_to beat.1.there beat.1.took) beat.1.named in
        absurd (refused (was_named world.store.history id) unnamed up.0)
    by false e = refl

join_listed : (id : ℕ) (steps : List Step) → IsTrue (list_any (is_join_of id) steps) → IsIn id (flat_map join_of steps)
join_listed id [] h = absurd (cc h)
join_listed id (Join other ∷ steps) h = by (id == other) refl (join_listed id steps) h
  where
    by : (c : Bool) → (id == other) ≡ c → (IsTrue (list_any (is_join_of id) steps) → IsIn id (flat_map join_of steps)) → IsTrue (c || list_any (is_join_of id) steps) → IsIn id (other ∷ flat_map join_of steps)
    by true e rest h = inl (sym ((Decides-eqb id other).0 e))
    by false e rest h = inr (rest h)
join_listed id (Move other ∷ steps) h = join_listed id steps h
join_listed id (Drain other ∷ steps) h = join_listed id steps h

-- No join took effect for a job that no put has named.
not_joined : (merge : Operator) (world : World) (specs : ℕ → JobSpec) → Body merge world specs → (id : ℕ) → was_named world.store.history id ≡ false → IsTrue (was_joined world.store.history id) → ⊥
not_joined merge world specs b id unnamed joined = at (any_element (λ (e : Entry). joins id e.event && stood e.answer) world.store.history joined)
  where
    join : (event : Event) (took : Bool) → (joins id event && took) ≡ true → (IsTrue took → AllByRecursion (λ n. IsTrue (was_named world.store.history n)) (joins_in event)) → IsTrue (was_named world.store.history id)
    join (PutManifest (Commit steps)) true e all = all_at _ (flat_map join_of steps) id (all refl) (join_listed id steps (front _ e))
      where
        front : (c : Bool) → (c && true) ≡ true → IsTrue c
        front true e = refl
        front false e = absurd (cc e)
    join (PutManifest (Commit steps)) false e all = absurd (never _ e)
      where
        never : (c : Bool) → (c && false) ≡ true → ⊥
        never true e = absurd (cc e)
        never false e = absurd (cc e)
    join event took e all = absurd (cc e)

    at : Passes (λ (e : Entry). joins id e.event && stood e.answer) world.store.history → ⊥
    at found = refused (was_named world.store.history id) unnamed (join found.element.event (stood found.element.answer) found.passes (all_at _ world.store.history found.element b.joined found.there))

-- A new job is kept after the put that names it.
pub new_kept : (merge : Operator) (world : World) (specs : ℕ → JobSpec) (records : Records) (line : ℕ) (party : Party) (change : RecordChange) (answer : Answer) (p : ℕ × JobSpec) → stood answer ≡ true → Body merge world specs
    → IsQuietFor (stood answer) (PutRecords change) p.0 → IsIn p (named_specs (PutRecords change)) → was_named world.store.history p.0 ≡ false
    → JobKept merge (with_records world records (record { line = line; party = party; event = PutRecords change; answer = answer })) specs (new_job p)
new_kept merge world specs records line party change answer p took b quiet there unnamed = record {
  fits = record {
    sources = ((λ waits. absurd (cc waits)), λ compacted. absurd (cc compacted));
    context = record { there = ((λ some. absurd (cc some)), λ both. absurd (never both.0)); fits = tt };
    outputs = λ compacted. absurd (cc compacted);
    tables = λ active. record { named = refl; sources = refl };
  };
  facts = record {
    named = any_push_yes (λ (e : Entry). contains (firsts (named_specs e.event)) p.0 && stood e.answer) world.store.history (record { line = line; party = party; event = PutRecords change; answer = answer }) (rw (named_in p (named_specs (PutRecords change)) there, took) refl);
    unbeaten = λ submitted. beaten_stays_so world.store.history (record { line = line; party = party; event = PutRecords change; answer = answer }) p.0 quiet.beats ∙ not_beaten merge world specs b p.0 unnamed;
    unleased = λ waits. refl;
    flushed = λ holds. absurd (cc holds);
    drawn = λ active. tt;
    unused = λ unjoined. tt;
    late = λ joined. absurd (not_joined merge world specs b p.0 unnamed (subst (λ c. IsTrue c) (joined_stays world.store.history (record { line = line; party = party; event = PutRecords change; answer = answer }) p.0 quiet.joins) joined));
    stand = λ compacted joined. absurd (cc compacted);
  };
  spec = λ others faithful. all_at (λ q. others q.0 ≡ q.1) (named_specs (PutRecords change)) p
      (all_back (λ (e : Entry). AgreesWith others e.event) world.store.history (record { line = line; party = party; event = PutRecords change; answer = answer } ∷ []) faithful.agrees).0 there;
}
  where
    never : IsTrue false → ⊥
    never h = absurd (cc h)

-- All jobs are kept, old and new.
pub all_kept_new : (merge : Operator) (world : World) (specs : ℕ → JobSpec) (records : Records) (line : ℕ) (party : Party) (change : RecordChange) (answer : Answer) → stood answer ≡ true → Body merge world specs
    → ((id : ℕ) → IsQuietFor (stood answer) (PutRecords change) id) → AreNew world (named_specs (PutRecords change)) → (job : Job) → IsIn job (with_new (named_specs (PutRecords change)) (stored_jobs world.store))
    → JobKept merge (with_records world records (record { line = line; party = party; event = PutRecords change; answer = answer })) specs job
all_kept_new merge world specs records line party change answer took b quiet new job there = by (in_new (named_specs (PutRecords change)) (stored_jobs world.store) job there)
  where
    by : ((p : ℕ × JobSpec) × (IsIn p (named_specs (PutRecords change)) × (new_job p ≡ job))) ⊎ IsIn job (stored_jobs world.store)
        → JobKept merge (with_records world records (record { line = line; party = party; event = PutRecords change; answer = answer })) specs job
    by (inl found) = subst (JobKept merge (with_records world records (record { line = line; party = party; event = PutRecords change; answer = answer })) specs) found.1.1
        (new_kept merge world specs records line party change answer found.0 took b (quiet found.0.0) found.1.0 (all_at _ (named_specs (PutRecords change)) found.0 new found.1.0))
    by (inr old) = kept_quiet merge world specs records (record { line = line; party = party; event = PutRecords change; answer = answer }) job b (quiet job.id) old (all_at _ (stored_jobs world.store) job b.jobs old)

-- No new id is that of a stored job.
pub new_ids : (merge : Operator) (world : World) (specs : ℕ → JobSpec) (named : List (ℕ × JobSpec)) → Body merge world specs → AreNew world named → (p : ℕ × JobSpec) (job : Job) → IsIn p named → IsIn job (stored_jobs world.store) → p.0 ≡ job.id → ⊥
new_ids merge world specs named b new p job there one same =
    refused (was_named world.store.history p.0) (all_at _ named p new there) (subst (λ id. IsTrue (was_named world.store.history id)) (sym same) (all_at _ (stored_jobs world.store) job b.jobs one).facts.named)

-- An attempt that an entry names is still at most the stored one.
pub later_new : (merge : Operator) (world : World) (specs : ℕ → JobSpec) (named : List (ℕ × JobSpec)) (a : ℕ × ℕ) (job : Job) → Body merge world specs → AreNew world named → IsUpTo world.store.history (stored_jobs world.store) a
    → IsIn job (with_new named (stored_jobs world.store)) → job.id ≡ a.0 → a.1 ≤ job.attempt
later_new merge world specs named a job b new up there same = by (in_new named (stored_jobs world.store) job there)
  where
    by : ((p : ℕ × JobSpec) × (IsIn p named × (new_job p ≡ job))) ⊎ IsIn job (stored_jobs world.store) → a.1 ≤ job.attempt
    by (inl found) = absurd (refused (was_named world.store.history found.0.0) (all_at _ named found.0 new found.1.0) (subst (λ id. IsTrue (was_named world.store.history id)) (sym same ∙ sym (ap (λ (j : Job). j.id) found.1.1)) up.0))
    by (inr old) = subst (λ o. IfSome o (λ (j : Job). a.1 ≤ j.attempt)) (ap (λ id. job_with id (stored_jobs world.store)) (sym same) ∙ found_job (stored_jobs world.store) job b.sound.job_ids old) up.1
