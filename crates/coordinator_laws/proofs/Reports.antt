-- What a coordinator may hold as its poll reports: after the put of the records, or where the poll changed no job.
use Rattle.std.proofs.Common.{◌≡◌, refl, sym, ◌∙◌, ap, subst, ℕ, ◌+◌, ◌<◌, ◌≤◌, List, [], ◌∷◌, ◌++◌, cond, Bool, true, false, inl, inr, ◌⊎◌, Option, Some, None, arith}
use Rattle.std.specs.Prelude.{IsTrue, ◌==◌, ◌&&◌, ◌||◌, not, nat_lt, map, is_some}
use Rattle.std.specs.List.{AllByRecursion}
use Rattle.std.specs.Option.{option_or}
use Rattle.std.proofs.lemmas.Bool.Decides.{Decides-eqb}
use Rattle.row_model.specs.Lists.{Pairs}
use Rattle.fleet_model.specs.Nodes.{segment_at}
use Rattle.fleet_model.specs.Jobs.{JobSpec, Job, Jobs, job_with, trimmed_jobs, contains, is_finished, put_id, in_id_order}
use Rattle.fleet_model.specs.History.{Party, PutRecords, RecordChange, Polled, Conflict, Done, Entry, stood}
use Rattle.fleet_model.specs.Store.{Records, stored_jobs, jobs_in, records_epoch}
use Rattle.fleet_model.specs.Work.Records.{firsts, new_job, with_new}
use Rattle.fleet_model.specs.Past.Replay.{named_specs}
use Rattle.fleet_model.specs.Work.Gates.{is_nonempty}
use Rattle.fleet_model.specs.Work.Parties.{LiveCoordinator}
use Rattle.fleet_model.specs.Work.PollStates.{PollState}
use Rattle.fleet_model.specs.Work.Polls.{change_of, is_nothing}
use Rattle.fleet_model.specs.Exchanges.{PutsRecords, records_version, with_entry}
use Rattle.step_model.specs.Past.{World, world_after}
use Rattle.step_model.specs.Entries.{was_named}
use Rattle.step_model.specs.Steps.Merging.{Local, merged_trees}
use Rattle.step_model.specs.Fits.{Merges, MergesIfThere, KnownIfThere, LocalIsKnown, JobsMerge, IsOutlived, IsStillStored}
use Rattle.step_model.specs.Rivals.{Caller, after_call}
use Rattle.step_laws.proofs.Elements.{IsIn, all_at, all_to, any_push_yes, in_contains}
use Rattle.step_laws.proofs.Changed.{found_job, job_found}
use Rattle.step_laws.proofs.NewJobs.{in_new}
use Rattle.step_laws.proofs.Grown.{named_grows}
use Rattle.step_laws.proofs.RecordsBodies.{with_records, world_with_records}
use Rattle.rival_laws.proofs.JobsMerged.{none_with}
use Rattle.course_laws.proofs.NewIds.{stored_named}
use Rattle.course_laws.proofs.Puts.{got_records}
use Rattle.coordinator_laws.specs.Locals.{job_held, IsAfter}
use Rattle.coordinator_laws.proofs.Marks.{did, did_id, did_nothing, UnmarkedAt, marks_of, is_completed, is_failed}
use Rattle.coordinator_laws.proofs.Jobs.{JobsReached, from_of, in_new_old, submitted_ends}
use Rattle.coordinator_laws.proofs.Statuses.{over_not_running, over_not_ending}
use Rattle.coordinator_laws.proofs.Stages.{jobs_rise}
use Rattle.coordinator_laws.proofs.Quiet.{moves_itself, id_moves}
use Rattle.coordinator_laws.proofs.Adoption.{Adopts, MarksFit, marks_fit, none_some}
use Rattle.coordinator_laws.proofs.Tries.{Good, Puts}
use Rattle.coordinator_laws.proofs.HeldJobs.{Outlives, outlives, outlived, JobsMergeIfThere, merge_put, merge_still}
use Rattle.coordinator_laws.proofs.Keeping.{Older, Keeping, with_manifest_of}
use Rattle.rival_laws.proofs.WorkerRecords.{some_same}
use Rattle.step_laws.proofs.Polls.{in_map}
use Rattle.rival_laws.proofs.FreeTables.{refused}

-- What is so after a poll that reports, as long as no stored epoch is above the coordinator's: the jobs that it reached rise, and each local
-- state that is after the poll merges into the stored objects.
pub record After (c : LiveCoordinator) (before : Option Local) (p : PollState) (new : World) : Type 0 where
  pub rise : new.store.manifest.epoch ≤ c.epoch → records_epoch new.store.records ≤ c.epoch → Pairs (λ a b. a.id < b.id) p.jobs
  pub fits : new.store.manifest.epoch ≤ c.epoch → records_epoch new.store.records ≤ c.epoch → (held : Local) → IsAfter before p held → Merges held new.store × LocalIsKnown new held

-- ---- jobs that were held before

older_jobs : (c : LiveCoordinator) (before : Option Local) (world : World) (o : Older c before world) → world.store.manifest.epoch ≤ c.epoch → records_epoch world.store.records ≤ c.epoch → JobsMergeIfThere before (stored_jobs world.store)
older_jobs c before world o manifest records = by before (o.holds.merges manifest records)
  where
    by : (b : Option Local) → MergesIfThere (with_manifest_of o.manifest b) world.store → JobsMergeIfThere b (stored_jobs world.store)
    by None m = tt
    by (Some l) m = m.jobs

older_named : (c : LiveCoordinator) (before : Option Local) (world : World) (o : Older c before world) → world.store.manifest.epoch ≤ c.epoch → records_epoch world.store.records ≤ c.epoch → (job : Job) → job_held before job.id ≡ Some job → IsTrue (was_named world.store.history job.id)
older_named c before world o manifest records job e = by before e (o.holds.known manifest records)
  where
    by : (b : Option Local) → job_held b job.id ≡ Some job → KnownIfThere world (with_manifest_of o.manifest b) → IsTrue (was_named world.store.history job.id)
    by None e k = absurd (none_some Job job e)
    by (Some l) e k = all_at (λ (x : Job). IsTrue (was_named world.store.history x.id)) l.records.jobs job k.jobs (job_found job.id l.records.jobs job e).there

-- ---- jobs that a poll leaves

-- A finished job has no mark.
over_unmarked : (got : Jobs) (p : PollState) (a : Adopts got got p) (job : Job) → IsIn job got → IsTrue (is_finished job.status) → UnmarkedAt (marks_of p a.reached.tables) job.id
over_unmarked got p a job there over = record {
  freed = no (contains p.freed job.id) (λ named. over_not_running job.status over (fit.runs named));
  opened = no (contains p.opened job.id) (λ named. over_not_ending job.status over (submitted_ends job (fit.waits named)));
  completed = no (is_completed p job.id) (λ named. over_not_ending job.status over (fit.ends named));
  failed = no (is_failed p job.id) (λ named. over_not_ending job.status over (fit.fails named));
}
  where
    fit : MarksFit (contains p.freed job.id) (contains p.opened job.id) (is_completed p job.id) (is_failed p job.id) job
    fit = marks_fit got got p a job (in_new_old p.added got job there)

    no : (b : Bool) → (IsTrue b → ⊥) → b ≡ false
    no true never = absurd (never refl)
    no false never = refl

-- So it is among the poll's jobs.
over_stays : (got : Jobs) (p : PollState) (a : Adopts got got p) (job : Job) → IsIn job got → IsTrue (is_finished job.status) → IsIn job p.jobs
over_stays got p a job there over =
    let marks = marks_of p a.reached.tables in
    subst (IsIn job) (sym a.reached.are) (subst (λ (x : Job). IsIn x (map (did marks) (with_new p.added got))) (did_nothing marks job (over_unmarked got p a job there over)) (in_map (did marks) (with_new p.added got) job (in_new_old p.added got job there)))

-- A job that was got has one of its id among the poll's jobs.
got_stays : (got : Jobs) (p : PollState) (r : JobsReached got p) (job : Job) → IsIn job got → job_with job.id p.jobs ≡ None → ⊥
got_stays got p r job there e =
    let marks = marks_of p r.tables in
    none_with job.id p.jobs (did marks job) e (subst (IsIn (did marks job)) (sym r.are) (in_map (did marks) (with_new p.added got) job (in_new_old p.added got job there))) (did_id marks job)

-- ---- after the put of the records

-- A put of the records that stood.
put_stood : (line : ℕ) (party : Party) (world : World) (version : ℕ) (change : RecordChange) (epoch : ℕ) (jobs : Jobs) → (version == records_version world.store.records) ≡ true
    → after_call line party (PutsRecords version change epoch jobs) None world
    ≡ with_records world (record { version = version + 1; epoch = epoch; jobs = jobs }) (record { line = line; party = party; event = PutRecords change; answer = Done (records_version world.store.records + 1) })
put_stood line party world version change epoch jobs e = by (version == records_version world.store.records) e
  where
    by : (b : Bool) → b ≡ true
        → world_after world (with_entry line party (PutRecords change) (cond b (Done (records_version world.store.records + 1)) (Conflict (records_version world.store.records))) (cond b (record world.store { records = Some (record { version = version + 1; epoch = epoch; jobs = jobs }) }) world.store))
        ≡ with_records world (record { version = version + 1; epoch = epoch; jobs = jobs }) (record { line = line; party = party; event = PutRecords change; answer = Done (records_version world.store.records + 1) })
    by true e = world_with_records world (record { version = version + 1; epoch = epoch; jobs = jobs }) (record { line = line; party = party; event = PutRecords change; answer = Done (records_version world.store.records + 1) })
    by false e = absurd (cc e)

-- The jobs that a put adds are named by its entry.
added_named : (history : List Entry) (line : ℕ) (party : Party) (p : PollState) (version : ℕ) (q : ℕ × JobSpec) → IsIn q p.added
    → IsTrue (was_named (history ++ record { line = line; party = party; event = PutRecords (Polled (change_of p)); answer = Done version } ∷ []) q.0)
added_named history line party p version q there =
    any_push_yes (λ (e : Entry). contains (firsts (named_specs e.event)) q.0 && stood e.answer) history (record { line = line; party = party; event = PutRecords (Polled (change_of p)); answer = Done version })
    (rw (in_contains (firsts p.added) q.0 (in_map (λ (x : ℕ × JobSpec). x.0) p.added q there)) refl)

-- After a put that stood, each local state after the poll merges into the store, unless a later epoch is stored.
pub after_put : (who : Caller) (c : LiveCoordinator) (before : Option Local) (base : World) (got : Records) (p : PollState) (world : World) → Puts who c.epoch base got p world → Keeping c before p.trees world → (got.version == records_version world.store.records) ≡ true
    → After c before p (after_call who.line who.party (PutsRecords got.version (Polled (change_of p)) got.epoch (trimmed_jobs p.jobs)) None world)
after_put who c before base got p world s k equal = subst (After c before p) (sym (put_stood who.line who.party world got.version (Polled (change_of p)) got.epoch (trimmed_jobs p.jobs) equal)) (record {
  rise = λ manifest records. rise;
  fits = λ manifest records held b. (record { trees = trees manifest held b; jobs = jobs manifest held b }, record { segments = segments manifest held b; jobs = named manifest held b });
})
  where
    entry : Entry
    entry = record { line = who.line; party = who.party; event = PutRecords (Polled (change_of p)); answer = Done (records_version world.store.records + 1) }

    new : World
    new = with_records world (record { version = got.version + 1; epoch = got.epoch; jobs = trimmed_jobs p.jobs }) entry

    same : world.store.records ≡ Some got
    same = got_records base world (Some got) s.is_got s.later ((Decides-eqb got.version (records_version world.store.records)).0 equal)

    low : records_epoch world.store.records ≤ c.epoch
    low = let stored : records_epoch world.store.records ≡ got.epoch = ap records_epoch same in let is = s.epoch in omega (arith, stored, is)

    good : Good world got p
    good = s.good low

    rise : Pairs (λ a b. a.id < b.id) p.jobs
    rise = jobs_rise got.jobs p good.reached

    stored_got : (job : Job) → IsIn job got.jobs → job_with job.id (stored_jobs world.store) ≡ Some job
    stored_got job there = ap (λ r. job_with job.id (jobs_in r)) same ∙ found_job got.jobs job s.rise there

    adopts : Adopts got.jobs got.jobs p
    adopts = record {
      reached = good.reached;
      moves = moves_itself got.jobs;
      rise = s.rise;
      once = s.names.once;
      new = λ q job there one is. refused (was_named world.store.history q.0) (all_at (λ (x : ℕ × JobSpec). was_named world.store.history x.0 ≡ false) p.added q s.names.unnamed there)
          (subst (λ n. IsTrue (was_named world.store.history n)) (sym is) (stored_named who.merge world job.id job s.kept (stored_got job one)));
    }

    trees : world.store.manifest.epoch ≤ c.epoch → (held : Local) → IsAfter before p held → merged_trees held.manifest.trees world.store.manifest.trees ≡ world.store.manifest.trees
    trees manifest held b = subst (λ ts. merged_trees ts world.store.manifest.trees ≡ world.store.manifest.trees) (k.is ∙ sym b.trees) (k.holds.merges manifest low).trees

    segments : world.store.manifest.epoch ≤ c.epoch → (held : Local) → IsAfter before p held → AllByRecursion (λ s. IsTrue (is_some (segment_at s.prefix world.store.manifest.trees))) held.manifest.trees
    segments manifest held b = subst (AllByRecursion (λ s. IsTrue (is_some (segment_at s.prefix world.store.manifest.trees)))) (k.is ∙ sym b.trees) (k.holds.known manifest low).segments

    over : world.store.manifest.epoch ≤ c.epoch → (job : Job) → job_with job.id p.jobs ≡ None → job_held before job.id ≡ Some job → IsTrue (is_finished job.status) × IsOutlived p.jobs job
    over manifest job none e = by before e (older_jobs c before world k.older manifest low)
      where
        absent : (o : Option Job) → job_with job.id got.jobs ≡ o → job_with job.id got.jobs ≡ None
        absent None f = f
        absent (Some x) f = let one = job_found job.id got.jobs x f in absurd (got_stays got.jobs p good.reached x one.there (ap (λ n. job_with n p.jobs) one.same ∙ none))

        on : Outlives got.jobs job → IsOutlived p.jobs job
        on o = outlived p.jobs job (record { other = o.other; there = over_stays got.jobs p adopts o.other o.there o.over; over = o.over; low = o.low })

        by : (b : Option Local) → job_held b job.id ≡ Some job → JobsMergeIfThere b (stored_jobs world.store) → IsTrue (is_finished job.status) × IsOutlived p.jobs job
        by None e m = absurd (none_some Job job e)
        by (Some l) e m =
            let still = subst (λ r. IsStillStored (jobs_in r) job (job_with job.id (jobs_in r))) same (all_at (λ (x : Job). IsStillStored (stored_jobs world.store) x (job_with x.id (stored_jobs world.store))) l.records.jobs job m.local_stay (job_found job.id l.records.jobs job e).there) in
            let two = subst (IsStillStored got.jobs job) (absent (job_with job.id got.jobs) refl) still in
            (two.0, on (outlives got.jobs job two.1))

    jobs : world.store.manifest.epoch ≤ c.epoch → (held : Local) → IsAfter before p held → JobsMerge held.records.jobs (trimmed_jobs p.jobs)
    jobs manifest held b = merge_put before p.jobs held.records.jobs rise b.kept b.only (over manifest)

    base_named : (x : Job) → ((q : ℕ × JobSpec) × (IsIn q p.added × (new_job q ≡ x))) ⊎ IsIn x got.jobs → IsTrue (was_named new.store.history x.id)
    base_named x (inl one) = subst (λ (j : Job). IsTrue (was_named new.store.history j.id)) one.1.1 (added_named world.store.history who.line who.party p (records_version world.store.records + 1) one.0 one.1.0)
    base_named x (inr old) = named_grows world.store.history entry x.id (stored_named who.merge world x.id x s.kept (stored_got x old))

    reached_named : (job : Job) → IsIn job p.jobs → IsTrue (was_named new.store.history job.id)
    reached_named job there =
        let from = from_of got.jobs p good.reached job there in
        subst (λ n. IsTrue (was_named new.store.history n)) (sym (did_id (marks_of p good.reached.tables) from.base) ∙ ap (λ (j : Job). j.id) from.is) (base_named from.base (in_new p.added got.jobs from.base from.there))

    named : world.store.manifest.epoch ≤ c.epoch → (held : Local) → IsAfter before p held → AllByRecursion (λ job. IsTrue (was_named new.store.history job.id)) held.records.jobs
    named manifest held b = all_to _ _ held.records.jobs (λ job there one. by job (job_with job.id p.jobs) refl one) b.only
      where
        by : (job : Job) (o : Option Job) → job_with job.id p.jobs ≡ o → option_or o (job_held before job.id) ≡ Some job → IsTrue (was_named new.store.history job.id)
        by job (Some x) e f = reached_named job (subst (λ (y : Job). IsIn y p.jobs) (some_same x job f) (job_found job.id p.jobs x e).there)
        by job None e f = named_grows world.store.history entry job.id (older_named c before world k.older manifest low job f)

-- ---- a poll that changed no job

-- The poll named no job.
record NamesNone (p : PollState) : Type 0 where
  freed : p.freed ≡ []
  done : p.done ≡ []
  moved : p.moved ≡ []
  drained : p.drained ≡ []
  lost : p.lost ≡ []
  refused : p.refused ≡ []
  added : p.added ≡ []
  opened : p.opened ≡ []

empty : {A : Type 0} (xs : List A) → is_nonempty xs ≡ false → xs ≡ []
empty [] e = refl
empty (x ∷ xs) e = absurd (cc e)

none_first : {A : Type 0} (xs : List (ℕ × A)) → is_nonempty (firsts xs) ≡ false → xs ≡ []
none_first [] e = refl
none_first (x ∷ xs) e = absurd (cc e)

pub put_some : (id : ℕ) (xs : List ℕ) → is_nonempty (put_id id xs) ≡ true
put_some id [] = refl
put_some id (x ∷ xs) = by (nat_lt id x)
  where
    by : (b : Bool) → is_nonempty (cond b (id ∷ x ∷ xs) (x ∷ put_id id xs)) ≡ true
    by true = refl
    by false = refl

none_ordered : (xs : List ℕ) → is_nonempty (in_id_order xs) ≡ false → xs ≡ []
none_ordered [] e = refl
none_ordered (x ∷ xs) e = absurd (cc (e, put_some x (in_id_order xs)))

none_both : {A : Type 0} (xs ys : List A) → xs ++ ys ≡ [] → (xs ≡ []) × (ys ≡ [])
none_both [] ys e = (refl, e)
none_both (x ∷ xs) ys e = absurd (cc e)

none_firsts : {A : Type 0} (xs : List (ℕ × A)) → firsts xs ≡ [] → xs ≡ []
none_firsts [] e = refl
none_firsts (x ∷ xs) e = absurd (cc e)

-- A poll whose change is nothing freed, ended, added and opened no job.
names_none : (p : PollState) → is_nothing (change_of p) ≡ true → NamesNone p
names_none p e = five (is_nonempty p.freed) (is_nonempty (in_id_order (p.done ++ p.moved ++ p.drained))) (is_nonempty (in_id_order (firsts p.lost ++ firsts p.refused))) (is_nonempty (firsts p.added)) (is_nonempty p.opened) refl refl refl refl refl e
  where
    five : (a b c d f : Bool) → is_nonempty p.freed ≡ a → is_nonempty (in_id_order (p.done ++ p.moved ++ p.drained)) ≡ b → is_nonempty (in_id_order (firsts p.lost ++ firsts p.refused)) ≡ c → is_nonempty (firsts p.added) ≡ d → is_nonempty p.opened ≡ f
        → not (a || b || c || d || f) ≡ true → NamesNone p
    five true b c d f i j k l m e = absurd (cc e)
    five false true c d f i j k l m e = absurd (cc e)
    five false false true d f i j k l m e = absurd (cc e)
    five false false false true f i j k l m e = absurd (cc e)
    five false false false false true i j k l m e = absurd (cc e)
    five false false false false false i j k l m e =
        let ended = none_both (p.done ++ p.moved) p.drained (none_ordered (p.done ++ p.moved ++ p.drained) j) in
        let others = none_both p.done p.moved ended.0 in
        let failed = none_both (firsts p.lost) (firsts p.refused) (none_ordered (firsts p.lost ++ firsts p.refused) k) in
        record {
          freed = empty p.freed i;
          done = others.0;
          moved = others.1;
          drained = ended.1;
          lost = none_firsts p.lost failed.0;
          refused = none_firsts p.refused failed.1;
          added = none_first p.added l;
          opened = empty p.opened m;
        }

-- Its jobs are those that it got.
none_changed : (got : Jobs) (p : PollState) → NamesNone p → JobsReached got p → p.jobs ≡ got
none_changed got p n r = r.are ∙ ap (λ named. map (did (marks_of p r.tables)) (with_new named got)) n.added ∙ all got
  where
    unmarked : (job : Job) → UnmarkedAt (marks_of p r.tables) job.id
    unmarked job = record {
      freed = ap (λ xs. contains xs job.id) n.freed;
      opened = ap (λ xs. contains xs job.id) n.opened;
      completed = rw (n.done, n.moved, n.drained) refl;
      failed = rw (n.lost, n.refused) refl;
    }

    all : (jobs : Jobs) → map (did (marks_of p r.tables)) jobs ≡ jobs
    all [] = refl
    all (job ∷ jobs) =
        let first = did_nothing (marks_of p r.tables) job (unmarked job) in
        let rest = all jobs in
        λ i. first i ∷ rest i

-- If a poll changed no job, each local state after it merges into the store, unless a later epoch is stored.
pub after_none : (who : Caller) (c : LiveCoordinator) (before : Option Local) (base : World) (got : Records) (p : PollState) (world : World) → Puts who c.epoch base got p world → Keeping c before p.trees world → is_nothing (change_of p) ≡ true
    → After c before p world
after_none who c before base got p world s k none = record {
  rise = λ manifest records. jobs_rise got.jobs p (s.good records).reached;
  fits = λ manifest records held b. (
    record {
      trees = subst (λ ts. merged_trees ts world.store.manifest.trees ≡ world.store.manifest.trees) (k.is ∙ sym b.trees) (k.holds.merges manifest records).trees;
      jobs = merge_still before got.jobs (stored_jobs world.store) held.records.jobs s.rise (s.good records).moves
          (subst (λ js. AllByRecursion (λ job. job_with job.id held.records.jobs ≡ Some job) (trimmed_jobs js)) (same records) b.kept) (only records held b) (older_jobs c before world k.older manifest records);
    },
    record {
      segments = subst (AllByRecursion (λ x. IsTrue (is_some (segment_at x.prefix world.store.manifest.trees)))) (k.is ∙ sym b.trees) (k.holds.known manifest records).segments;
      jobs = all_to _ _ held.records.jobs (λ job there one. named manifest records job (job_with job.id got.jobs) refl one) (only records held b);
    },
  );
}
  where
    same : records_epoch world.store.records ≤ c.epoch → p.jobs ≡ got.jobs
    same records = none_changed got.jobs p (names_none p none) (s.good records).reached

    only : records_epoch world.store.records ≤ c.epoch → (held : Local) → IsAfter before p held → AllByRecursion (λ job. option_or (job_with job.id got.jobs) (job_held before job.id) ≡ Some job) held.records.jobs
    only records held b = subst (λ js. AllByRecursion (λ job. option_or (job_with job.id js) (job_held before job.id) ≡ Some job) held.records.jobs) (same records) b.only

    named : world.store.manifest.epoch ≤ c.epoch → records_epoch world.store.records ≤ c.epoch → (job : Job) (o : Option Job) → job_with job.id got.jobs ≡ o → option_or o (job_held before job.id) ≡ Some job → IsTrue (was_named world.store.history job.id)
    named manifest records job (Some x) e f =
        let there = job_found job.id got.jobs x e in
        let next = (s.good records).moves.there x there.there in
        subst (λ n. IsTrue (was_named world.store.history n)) (id_moves x next.job next.moves ∙ there.same)
        (stored_named who.merge world next.job.id next.job s.kept (found_job (stored_jobs world.store) next.job s.kept.stored.sound.job_ids next.there))
    named manifest records job None e f = older_named c before world k.older manifest records job f
