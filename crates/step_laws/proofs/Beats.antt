-- A heartbeat keeps the invariant: it publishes contexts that fit and extend the published ones.
use Rattle.std.proofs.Common.{◌≡◌, refl, sym, ◌∙◌, ap, subst, ℕ, List, [], ◌∷◌, ◌++◌, cond, Bool, true, false, inl, inr, ◌⊎◌, Option, Some, None, arith}
use Rattle.std.specs.Prelude.{IsTrue, IfSome, ◌==◌, ◌&&◌, ◌||◌, not, is_some, is_none, if◌then◌else◌, find}
use Rattle.std.specs.List.{AllByRecursion, concat}
use Rattle.std.proofs.lemmas.List.{append-nil}
use Rattle.std.specs.Option.{option_or}
use Rattle.row_model.specs.Lists.{Pairs}
use Rattle.row_model.specs.Fold.{Operator}
use Rattle.fleet_model.specs.Jobs.{JobSpec, Job, Lease, Context, Status, Submitted, Scheduled, Running, Compacted, Completed, Failed, status_eq, has_status, contains, is_active, job_with}
use Rattle.fleet_model.specs.History.{Party, PutRecords, Beat, Entry, Answer, stood}
use Rattle.fleet_model.specs.Work.Records.{Unrecorded, firsts, beaten_by}
use Rattle.fleet_model.specs.Work.Parties.{is_leased_to}
use Rattle.fleet_model.specs.Store.{Records, stored_jobs, records_epoch, is_held, AreHeld}
use Rattle.fleet_model.specs.Past.Replay.{epoch_after}
use Rattle.fleet_model.specs.Handles.{job_tables, context_tables}
use Rattle.fleet_model.specs.Invariants.JobsFit.{SourcesStand, was_joined}
use Rattle.fleet_model.specs.Past.Claimed.{beaten_in, attempt_number_at, number_in, first_beaten, if_earlier, origin}
use Rattle.fleet_model.specs.Invariants.AttemptsFit.{ContextFits, beats}
use Rattle.step_model.specs.Past.{World}
use Rattle.step_model.specs.LawfulTables.{MayUse}
use Rattle.step_model.specs.LawfulRecords.{IsStoredAs, IsLiveAt, OfSome, Publishes, PublishedApart}
use Rattle.step_model.specs.Kept.TablesKept.{AreApart, is_unjoined}
use Rattle.step_laws.proofs.Elements.{IsIn, all_at, all_from, all_to, all_append, all_back, all_true_front, all_true_from, any_push_yes, contains_in, in_contains, in_append, in_back}
use Rattle.step_laws.proofs.Mute.{IsQuietFor}
use Rattle.step_laws.proofs.Worlds.{settings_stay_at, ranges_stay_at}
use Rattle.step_laws.proofs.Grown.{named_grows, source_grows, drawn_table_grows, joined_stays}
use Rattle.step_laws.proofs.Beaten.{named_attempt, attempt_named, earlier}
use Rattle.step_laws.proofs.Bodies.{Body, JobKept, whole_of}
use Rattle.step_laws.proofs.OpenJobs.{is_open, open_not_late, open_not_compacted, open_not_submitted}
use Rattle.step_laws.proofs.TableBodies.{active_if_open}
use Rattle.step_laws.proofs.RecordsBodies.{with_records, faithful_before_records}
use Rattle.step_laws.proofs.RecordsPuts.{StandingPutKeeps}
use Rattle.step_laws.proofs.Changed.{IsWorkerChange, found_job, own_on}
use Rattle.step_laws.proofs.OwnTables.{IsNamedBy, names_stay_apart, named_drawn, named_unused, apart_at}
use Rattle.step_laws.proofs.WorkerPuts.{stored_as, live_open, live_attempt, first_of_three, named_in, stored_named, worker_records, worker_put_keeps}

-- ---- the attempt that is named for a job

-- An attempt at the job that the heartbeat names, and what is so of both.
pub record NamedFor (attempts : List (ℕ × ℕ)) (P : ℕ × ℕ → Job → Type 0) (job : Job) : Type 0 where
  pub attempt : ℕ × ℕ
  pub there : IsIn attempt attempts
  pub same : attempt.0 ≡ job.id
  pub so : P attempt job

-- A stored job that a list of attempts names has an attempt in the list, with the property that all of these have.
named_for : (merge : Operator) (world : World) (specs : ℕ → JobSpec) (attempts : List (ℕ × ℕ)) (P : ℕ × ℕ → Job → Type 0) → Body merge world specs → AllByRecursion (λ a. IsStoredAs world a.0 (P a)) attempts
    → (job : Job) → IsIn job (stored_jobs world.store) → IsTrue (contains (firsts attempts) job.id) → NamedFor attempts P job
named_for merge world specs attempts P b each job there named = find_in attempts each (contains_in (firsts attempts) job.id named)
  where
    further : (a : ℕ × ℕ) (list : List (ℕ × ℕ)) → NamedFor list P job → NamedFor (a ∷ list) P job
    further a list found = record { attempt = found.attempt; there = inr found.there; same = found.same; so = found.so }

    find_in : (list : List (ℕ × ℕ)) → AllByRecursion (λ a. IsStoredAs world a.0 (P a)) list → IsIn job.id (firsts list) → NamedFor list P job
    find_in [] all one = absurd one
    find_in (a ∷ list) all (inl same) = record {
      attempt = a;
      there = inl refl;
      same = same;
      so = subst (OfSome (P a)) (ap (λ id. job_with id (stored_jobs world.store)) same ∙ found_job (stored_jobs world.store) job b.sound.job_ids there) all.0;
    }
    find_in (a ∷ list) all (inr one) = further a list (find_in list all.1 one)

pub pairs_either : {A : Type 0} (R : A → A → Type 0) (xs : List A) (a b : A) → Pairs R xs → IsIn a xs → IsIn b xs → (a ≡ b → ⊥) → R a b ⊎ R b a
pairs_either R [] a b h one other differs = absurd one
pairs_either R (x ∷ xs) a b h (inl first) (inl second) differs = absurd (differs (sym first ∙ second))
pairs_either R (x ∷ xs) a b h (inl first) (inr other) differs = inl (subst (λ y. R y b) first (all_at (R x) xs b h.0 other))
pairs_either R (x ∷ xs) a b h (inr one) (inl second) differs = inr (subst (λ y. R y a) second (all_at (R x) xs a h.0 one))
pairs_either R (x ∷ xs) a b h (inr one) (inr other) differs = pairs_either R xs a b h.1 one other differs

-- ---- the origin

-- The first beaten attempt in a history with one more entry is that of the history before, or else the entry's.
pub beaten_push : (job : ℕ) (history : List Entry) (entry : Entry) → first_beaten job (history ++ entry ∷ []) ≡ option_or (first_beaten job history) (if stood entry.answer then beaten_in job entry.event else None)
beaten_push job [] entry = by (if stood entry.answer then beaten_in job entry.event else None)
  where
    by : (o : Option ℕ) → option_or o None ≡ o
    by None = refl
    by (Some n) = refl
beaten_push job (first ∷ history) entry =
    ap (option_or (if stood first.answer then beaten_in job first.event else None)) (beaten_push job history entry) ∙ by (if stood first.answer then beaten_in job first.event else None)
  where
    by : (o : Option ℕ) → option_or o (option_or (first_beaten job history) (if stood entry.answer then beaten_in job entry.event else None)) ≡ option_or (option_or o (first_beaten job history)) (if stood entry.answer then beaten_in job entry.event else None)
    by None = refl
    by (Some n) = refl

-- A heartbeat at the stored attempt leaves its origin.
origin_beaten : (history : List Entry) (entry : Entry) (job attempt : ℕ) → (if stood entry.answer then beaten_in job entry.event else None) ≡ Some attempt → origin history job attempt ≡ origin (history ++ entry ∷ []) job attempt
origin_beaten history entry job attempt e = by (first_beaten job history) refl
  where
    by : (o : Option ℕ) → first_beaten job history ≡ o → if_earlier attempt (first_beaten job history) ≡ if_earlier attempt (first_beaten job (history ++ entry ∷ []))
    by None f = ap (if_earlier attempt) f ∙ sym (ap (if_earlier attempt) (beaten_push job history entry ∙ ap (λ o. option_or o (if stood entry.answer then beaten_in job entry.event else None)) f ∙ e) ∙ earlier attempt attempt (omega arith))
    by (Some n) f = ap (if_earlier attempt) f ∙ sym (ap (if_earlier attempt) (beaten_push job history entry ∙ ap (λ o. option_or o (if stood entry.answer then beaten_in job entry.event else None)) f))

-- ---- quiet for others

unnamed_attempt : (job : ℕ) (attempts : List (ℕ × ℕ)) → contains (firsts attempts) job ≡ false → attempt_number_at job attempts ≡ None
unnamed_attempt job [] e = refl
unnamed_attempt job (a ∷ attempts) e = by (a.0 == job) (unnamed_attempt job attempts) e
  where
    by : (c : Bool) → (contains (firsts attempts) job ≡ false → attempt_number_at job attempts ≡ None) → cond c true (contains (firsts attempts) job) ≡ false → number_in (cond c (Some a) (find (λ attempt. attempt.0 == job) attempts)) ≡ None
    by true rest e = absurd (cc e)
    by false rest e = rest e

quiet_beat : (took : Bool) (worker : ℕ) (attempts : List (ℕ × ℕ)) (job : ℕ) → contains (firsts attempts) job ≡ false → IsQuietFor took (PutRecords (Beat worker attempts)) job
quiet_beat true worker attempts job e = record { beats = rw e refl; beaten = unnamed_attempt job attempts e; joins = refl }
quiet_beat false worker attempts job e = record { beats = rw e refl; beaten = refl; joins = refl }

-- ---- one job

running_leased : (s : Status) (lease : Option Lease) → IsTrue (status_eq Running s) → IsTrue (status_eq Submitted s || status_eq Scheduled s) → IsTrue (is_none lease)
running_leased Running lease h waits = absurd (cc waits)
running_leased Submitted lease h waits = absurd (cc h)
running_leased Scheduled lease h waits = absurd (cc h)
running_leased Compacted lease h waits = absurd (cc h)
running_leased Completed lease h waits = absurd (cc h)
running_leased Failed lease h waits = absurd (cc h)

-- What a heartbeat has to say of a job.
pub record IsBeaten (merge : Operator) (world : World) (party : Party) (u : Unrecorded) (worker : ℕ) (entry : Entry) (job : Job) : Type 0 where
  pub live : IsLiveAt worker job.attempt job
  pub context : Context
  pub published : u.published job.id ≡ Some context
  pub publishes : Publishes merge party world job context
  pub beats : (beats job.id entry.event && stood entry.answer) ≡ true
  pub beaten : (if stood entry.answer then beaten_in job.id entry.event else None) ≡ Some job.attempt
  pub joins : was_joined (world.store.history ++ entry ∷ []) job.id ≡ was_joined world.store.history job.id

-- The tables that the job names from now on.
beaten_tables : (merge : Operator) (world : World) (party : Party) (u : Unrecorded) (worker : ℕ) (entry : Entry) (job : Job) (t : ℕ) → IsBeaten merge world party u worker entry job → IsIn t (job_tables (beaten_by worker u job))
    → IsNamedBy party world (λ id. context_tables (u.published id)) job t
beaten_tables merge world party u worker entry job t h there = by (in_append t (context_tables (u.published job.id)) (concat job.outputs) there)
  where
    own : IsIn t (context_tables (u.published job.id)) → MayUse party world job t → IsNamedBy party world (λ id. context_tables (u.published id)) job t
    own one (inl old) = inl old
    own one (inr new) = inr (new, one)

    by : IsIn t (context_tables (u.published job.id)) ⊎ IsIn t (concat job.outputs) → IsNamedBy party world (λ id. context_tables (u.published id)) job t
    by (inl new) = own new (all_at _ (context_tables (Some h.context)) t h.publishes.own (subst (λ o. IsIn t (context_tables o)) h.published new))
    by (inr old) = inl (in_contains (job_tables job) t (in_back t (context_tables job.context) (concat job.outputs) old))

-- What is kept of a job is kept of it with the context that a lawful heartbeat publishes for it.
beaten_kept : (merge : Operator) (world : World) (specs : ℕ → JobSpec) (party : Party) (u : Unrecorded) (worker : ℕ) (records : Records) (entry : Entry) (job : Job) → Body merge world specs → IsBeaten merge world party u worker entry job
    → JobKept merge world specs job → JobKept merge (with_records world records entry) specs (beaten_by worker u job)
beaten_kept merge world specs party u worker records entry job b h kept = record {
  fits = record {
    sources = ((λ waits. stand (kept.fits.sources.0 was)), λ compacted. absurd (open_not_compacted job.status was compacted));
    context = record {
      there = ((λ some. (was, any_push_yes (λ (e : Entry). beats job.id e.event && stood e.answer) world.store.history entry h.beats)), λ both. ap is_some h.published);
      fits = context (u.published job.id) h.published;
    };
    outputs = λ compacted. absurd (open_not_compacted job.status was compacted);
    tables = λ active. record { named = held; sources = (kept.fits.tables (active_if_open job was)).sources };
  };
  facts = record {
    named = named_grows world.store.history entry job.id kept.facts.named;
    unbeaten = λ submitted. absurd (open_not_submitted job.status was submitted);
    unleased = λ waits. running_leased job.status (Some (record { worker = worker; heartbeat = u.moment })) (first_of_three (has_status Running job) (is_leased_to worker job.lease) (job.attempt == job.attempt) h.live) waits;
    flushed = λ holds. all_to _ _ job.spec.sources (λ name there old. source_grows world.store.history entry name old) (kept.facts.flushed holds);
    drawn = λ active. all_from _ (job_tables (beaten_by worker u job)) (λ t there. drawn_table_grows world.store.history entry t
        (named_drawn party world (λ id. context_tables (u.published id)) job t (kept.facts.drawn active) (beaten_tables merge world party u worker entry job t h there)));
    unused = λ unjoined. all_from _ (job_tables (beaten_by worker u job)) (λ t there. named_unused party world (λ id. context_tables (u.published id)) job t (kept.facts.unused (unjoined_before unjoined)) (beaten_tables merge world party u worker entry job t h there));
    late = λ joined. absurd (open_not_late job.status was (kept.facts.late (subst (λ c. IsTrue c) h.joins joined)));
    stand = λ compacted joined. absurd (open_not_compacted job.status was compacted);
  };
  spec = λ others faithful. kept.spec others (faithful_before_records world others records entry faithful);
}
  where
    was : IsTrue (is_open job.status)
    was = live_open worker job.attempt job h.live

    stand : SourcesStand world.store.manifest.trees job → SourcesStand world.store.manifest.trees (beaten_by worker u job)
    stand s = record { some = s.some; stretch = s.stretch; source_tables = s.source_tables; destination = s.destination }

    unjoined_before : IsTrue (is_unjoined (world.store.history ++ entry ∷ []) (beaten_by worker u job)) → IsTrue (is_unjoined world.store.history job)
    unjoined_before unjoined = subst (λ c. IsTrue (is_active job && not c)) h.joins unjoined

    held : AreHeld world.store (context_tables (u.published job.id) ++ concat job.outputs)
    held = all_true_from (is_held world.store) _ (all_append _ (context_tables (u.published job.id)) (concat job.outputs)
        (all_true_front (is_held world.store) _ (subst (λ o. AreHeld world.store (context_tables o)) (sym h.published) h.publishes.held))
        (all_back _ (context_tables job.context) (concat job.outputs) (all_true_front (is_held world.store) (job_tables job) (kept.fits.tables (active_if_open job was)).named)))

    context : (o : Option Context) → o ≡ Some h.context → IfSome o (ContextFits merge (with_records world records entry).store specs (beaten_by worker u job))
    context None e = tt
    context (Some c) e =
        let fits = subst (ContextFits merge world.store specs job) (sym (same c e)) (h.publishes.fits specs b.faithful) in
        let origin = origin_beaten world.store.history entry job.id job.attempt h.beaten in
        record {
          claimed = record {
            settings = settings_stay_at world.store.tables specs world.store.history entry job.id job.attempt _ origin fits.claimed.settings;
            ranges = ranges_stay_at world.store.history entry job.id job.attempt _ origin fits.claimed.ranges;
          };
          settings = fits.settings;
          cut = fits.cut;
          ranges = fits.ranges;
          tables = fits.tables;
        }
      where
        same : (c : Context) → Some c ≡ Some h.context → c ≡ h.context
        same c e = cc e

-- ---- the law

beat_change : (worker : ℕ) (u : Unrecorded) → IsWorkerChange (beaten_by worker u)
beat_change worker u = record { ids = λ job. refl; specs = λ job. refl; attempts = λ job. omega arith }

kept_epoch : (worker : ℕ) (attempts : List (ℕ × ℕ)) (records : Option Records) → epoch_after (Beat worker attempts) records ≡ records_epoch records
kept_epoch worker attempts None = refl
kept_epoch worker attempts (Some records) = refl

-- What is asked of each attempt.
abbrev Live : Operator → Party → World → Unrecorded → ℕ → ℕ × ℕ → Job → Type 0
Live merge party world u worker a job = IsLiveAt worker a.1 job × OfSome (Publishes merge party world job) (u.published a.0)

-- A stored job that a lawful heartbeat names is live at the attempt named for it, and gets a context published.
is_beaten : (merge : Operator) (world : World) (specs : ℕ → JobSpec) (party : Party) (u : Unrecorded) (worker : ℕ) (attempts : List (ℕ × ℕ)) (line : ℕ) (answer : Answer) → stood answer ≡ true → Body merge world specs
    → AllByRecursion (λ a. IsStoredAs world a.0 (Live merge party world u worker a)) attempts → (job : Job) → IsIn job (stored_jobs world.store) → IsTrue (contains (firsts attempts) job.id)
    → IsBeaten merge world party u worker (record { line = line; party = party; event = PutRecords (Beat worker attempts); answer = answer }) job
is_beaten merge world specs party u worker attempts line answer took b each job there named =
    let found = named_for merge world specs attempts (Live merge party world u worker) b each job there named in
    by (u.published job.id) refl (subst (λ id. OfSome (Publishes merge party world job) (u.published id)) found.same found.so.1)
    (subst (λ n. IsLiveAt worker n job) (live_attempt worker found.attempt.1 job found.so.0) found.so.0)
  where
    its_attempt : (n : ℕ) → attempt_number_at job.id attempts ≡ Some n → n ≡ job.attempt
    its_attempt n e =
        let found = stored_as world (Live merge party world u worker (job.id, n)) job.id (all_at (λ a. IsStoredAs world a.0 (Live merge party world u worker a)) attempts (job.id, n) each (attempt_named job.id n attempts e)) in
        live_attempt worker n found.job found.so.0 ∙ ap (λ (j : Job). j.attempt) (the_job found.job (sym found.stored ∙ found_job (stored_jobs world.store) job b.sound.job_ids there))
      where
        the_job : (j : Job) → Some j ≡ Some job → j ≡ job
        the_job j e = cc e

    by : (o : Option Context) → u.published job.id ≡ o → OfSome (Publishes merge party world job) o → IsLiveAt worker job.attempt job → IsBeaten merge world party u worker (record { line = line; party = party; event = PutRecords (Beat worker attempts); answer = answer }) job
    by None e never live = absurd never
    by (Some c) e publishes live =
        let n = named_attempt job.id attempts named in
        record {
          live = live;
          context = c;
          published = e;
          publishes = publishes;
          beats = rw (named, took) refl;
          beaten = rw took (n.1 ∙ ap Some (its_attempt n.0 n.1));
          joins = joined_stays world.store.history (record { line = line; party = party; event = PutRecords (Beat worker attempts); answer = answer }) job.id refl;
        }

in_firsts : (id : ℕ) (attempts : List (ℕ × ℕ)) → IsIn id (firsts attempts) → (n : ℕ) × IsIn (id, n) attempts
in_firsts id [] there = absurd there
in_firsts id (a ∷ attempts) (inl same) = (a.1, inl (λ i. (same i, a.1)))
in_firsts id (a ∷ attempts) (inr there) = let found = in_firsts id attempts there in (found.0, inr found.1)

-- No table is in the contexts that are published for two jobs.
apart_published : (u : Unrecorded) (attempts : List (ℕ × ℕ)) → Pairs (PublishedApart u) attempts → (one other : ℕ) → IsTrue (contains (firsts attempts) one) → IsTrue (contains (firsts attempts) other) → (one ≡ other → ⊥)
    → (t : ℕ) → IsIn t (context_tables (u.published one)) → IsIn t (context_tables (u.published other)) → ⊥
apart_published u attempts apart one other first second differs t in_one in_other =
    let a = in_firsts one attempts (contains_in (firsts attempts) one first) in
    let b = in_firsts other attempts (contains_in (firsts attempts) other second) in
    by (pairs_either (PublishedApart u) attempts (one, a.0) (other, b.0) apart a.1 b.1 (λ same. differs (λ i. (same i).0)))
  where
    by : AreApart (context_tables (u.published one)) (context_tables (u.published other)) ⊎ AreApart (context_tables (u.published other)) (context_tables (u.published one)) → ⊥
    by (inl h) = apart_at _ _ t h in_one in_other
    by (inr h) = apart_at _ _ t h in_other in_one

-- A lawful heartbeat that takes effect keeps the invariant.
pub beats_keep : (merge : Operator) (worker : ℕ) (attempts : List (ℕ × ℕ)) → StandingPutKeeps merge (Beat worker attempts)
beats_keep merge worker attempts line party answer world epoch jobs took k names fits =
    let entry : Entry = record { line = line; party = party; event = PutRecords (Beat worker attempts); answer = answer } in
    let b = (whole_of merge world k).body in
    let specs = k.stored.replay.specs in
    let these = firsts attempts in
    let u = fits.unrecorded in
    let f = beaten_by worker u in
    let beaten = is_beaten merge world specs party u worker attempts line answer took b fits.fits.each in
    worker_put_keeps merge world u f these (Beat worker attempts) line party answer epoch jobs took k
    (record { after = refl; unnamed = refl; tables = tt; epoch = kept_epoch worker attempts world.store.records }) fits.makes_jobs fits.makes_epoch
    (record {
      is = beat_change worker u;
      holds = λ job there named holds. holds;
      apart = names_stay_apart merge world specs party (λ id. context_tables (u.published id)) f these b (record {
        tables = λ job there named t one. beaten_tables merge world party u worker entry job t (beaten job there named) one;
        active = λ job there named. active_if_open job (live_open worker job.attempt job (beaten job there named).live);
        fresh = λ x y one other differs t first second. apart_published u attempts fits.fits.apart x.id y.id one other differs t first second;
      });
      own = all_from _ attempts (λ a there.
          let found = stored_as world (Live merge party world u worker a) a.0 (all_at (λ a. IsStoredAs world a.0 (Live merge party world u worker a)) attempts a fits.fits.each there) in
          let same = live_attempt worker a.1 found.job found.so.0 in
          own_on world.store.history entry f these (stored_jobs world.store) found.job a b.sound.job_ids (beat_change worker u) (stored_named merge world specs b found.job a.0 found.stored) (named_in a attempts there) found.stored (omega (arith, same)));
      once = rw append-nil b.once;
      each = λ job there named kept. beaten_kept merge world specs party u worker (worker_records world f these) entry job b (beaten job there named) kept;
      quiet = λ job other. quiet_beat (stood answer) worker attempts job.id other;
      brought = tt;
    })
