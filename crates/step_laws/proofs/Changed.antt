-- Jobs of which a put of the records changes some.
use Rattle.std.proofs.Common.{◌≡◌, refl, sym, ◌∙◌, ap, subst, ℕ, ◌<◌, ◌≤◌, List, [], ◌∷◌, ◌++◌, cond, Bool, true, false, inl, inr, Option, Some, None, arith}
use Rattle.std.specs.Prelude.{IsTrue, IfSome, ◌==◌}
use Rattle.std.specs.List.{AllByRecursion}
use Rattle.std.proofs.lemmas.Bool.Decides.{Decides-eqb}
use Rattle.row_model.specs.Lists.{Pairs}
use Rattle.row_model.specs.Fold.{Operator}
use Rattle.fleet_model.specs.Jobs.{JobSpec, Job, Jobs, contains, changed_jobs, trimmed_jobs, is_active, finished_later, job_with}
use Rattle.fleet_model.specs.History.{Entry, stood}
use Rattle.fleet_model.specs.Store.{Manifest, Records, stored_jobs, records_epoch}
use Rattle.fleet_model.specs.Work.Gates.{reserves_nodes}
use Rattle.fleet_model.specs.Handles.{job_tables}
use Rattle.fleet_model.specs.Invariants.JobsFit.{HoldApart, NodesHeldOnce}
use Rattle.fleet_model.specs.Invariants.TreesFit.{EpochFits}
use Rattle.step_model.specs.Past.{World}
use Rattle.step_model.specs.Entries.{was_named}
use Rattle.step_model.specs.Kept.NamesKept.{IsUpTo}
use Rattle.step_model.specs.Kept.TablesKept.{NameApart}
use Rattle.step_laws.proofs.Elements.{IsIn, all_at, all_from, pairs_map, is_itself}
use Rattle.step_laws.proofs.Mute.{IsQuietFor}
use Rattle.step_laws.proofs.Grown.{named_grows, facts_quiet}
use Rattle.step_laws.proofs.Bodies.{JobKept, Body}
use Rattle.step_laws.proofs.MuteBodies.{fits_quiet, spares_all}
use Rattle.step_laws.proofs.RecordsBodies.{with_records, fits_with_records, faithful_before_records}
use Rattle.step_laws.proofs.TableReplays.{all_trimmed}

-- ---- jobs that a put keeps

pub pairs_trimmed : (R : Job → Job → Type 0) (jobs : Jobs) → Pairs R jobs → Pairs R (trimmed_jobs jobs)
pairs_trimmed R [] h = tt
pairs_trimmed R (job ∷ jobs) h = by (is_active job) (finished_later jobs) (all_trimmed (R job) jobs h.0) (pairs_trimmed R jobs h.1)
  where
    by : (active later : Bool) → AllByRecursion (R job) (trimmed_jobs jobs) → Pairs R (trimmed_jobs jobs) → Pairs R (cond active (job ∷ trimmed_jobs jobs) (cond later (trimmed_jobs jobs) (job ∷ trimmed_jobs jobs)))
    by true later first rest = (first, rest)
    by false true first rest = rest
    by false false first rest = (first, rest)

pub in_trimmed : (jobs : Jobs) (job : Job) → IsIn job (trimmed_jobs jobs) → IsIn job jobs
in_trimmed jobs job there = all_at (λ other. IsIn other jobs) (trimmed_jobs jobs) job (all_trimmed (λ other. IsIn other jobs) jobs (all_from _ jobs (λ other one. one))) there

-- ---- a job is found by its id

pub found_job : (jobs : Jobs) (job : Job) → Pairs (λ a b. a.id < b.id) jobs → IsIn job jobs → job_with job.id jobs ≡ Some job
found_job [] job rise there = absurd there
found_job (first ∷ jobs) job rise (inl same) =
    subst (λ (j : Job). job_with j.id (first ∷ jobs) ≡ Some j) same (ap (λ b. cond b (Some first) (job_with first.id jobs)) (is_itself first.id))
found_job (first ∷ jobs) job rise (inr there) = by (job.id == first.id) refl (found_job jobs job rise.1 there)
  where
    by : (b : Bool) → (job.id == first.id) ≡ b → job_with job.id jobs ≡ Some job → cond b (Some first) (job_with job.id jobs) ≡ Some job
    by true e rest = let low = all_at (λ (other : Job). first.id < other.id) jobs job rise.0 there in let same = (Decides-eqb job.id first.id).0 e in absurd (omega (arith, low, same))
    by false e rest = rest

pub record IsFound (id : ℕ) (jobs : Jobs) (job : Job) : Type 0 where
  pub there : IsIn job jobs
  pub same : job.id ≡ id

pub job_found : (id : ℕ) (jobs : Jobs) (job : Job) → job_with id jobs ≡ Some job → IsFound id jobs job
job_found id [] job e = absurd (cc e)
job_found id (first ∷ jobs) job e = by (id == first.id) refl (job_found id jobs job) e
  where
    same : Some first ≡ Some job → first ≡ job
    same e = cc e

    by : (b : Bool) → (id == first.id) ≡ b → (job_with id jobs ≡ Some job → IsFound id jobs job) → cond b (Some first) (job_with id jobs) ≡ Some job → IsFound id (first ∷ jobs) job
    by true f rest e = record { there = inl (same e); same = ap (λ (j : Job). j.id) (sym (same e)) ∙ sym ((Decides-eqb id first.id).0 f) }
    by false f rest e = let found = rest e in record { there = inr found.there; same = found.same }

-- ---- changed jobs

-- A job, changed if it is one of these.
abbrev pub on_these : (Job → Job) → List ℕ → Job → Job
on_these f these job = cond (contains these job.id) (f job) job

pub by_these : (P : Job → Type 0) (f : Job → Job) (these : List ℕ) (job : Job) → (IsTrue (contains these job.id) → P (f job)) → (contains these job.id ≡ false → P job) → P (on_these f these job)
by_these P f these job named other = by (contains these job.id) refl
  where
    by : (b : Bool) → contains these job.id ≡ b → P (cond b (f job) job)
    by true e = named e
    by false e = other e

pub all_on_these : (P : Job → Type 0) (f : Job → Job) (these : List ℕ) (jobs : Jobs) → ((job : Job) → IsIn job jobs → P (on_these f these job)) → AllByRecursion P (changed_jobs f these jobs)
all_on_these P f these [] h = tt
all_on_these P f these (job ∷ jobs) h = (h job (inl refl), all_on_these P f these jobs (λ other there. h other (inr there)))

-- The change of a worker keeps ids and specs, and no attempt falls.
pub record IsWorkerChange (f : Job → Job) : Type 0 where
  pub ids : (job : Job) → (f job).id ≡ job.id
  pub specs : (job : Job) → (f job).spec ≡ job.spec
  pub attempts : (job : Job) → job.attempt ≤ (f job).attempt

id_on : (f : Job → Job) (these : List ℕ) (job : Job) → IsWorkerChange f → (on_these f these job).id ≡ job.id
id_on f these job is = by_these (λ (j : Job). j.id ≡ job.id) f these job (λ named. is.ids job) (λ other. refl)

pub ids_rise : (f : Job → Job) (these : List ℕ) (jobs : Jobs) → IsWorkerChange f → Pairs (λ a b. a.id < b.id) jobs → Pairs (λ a b. a.id < b.id) (changed_jobs f these jobs)
ids_rise f these jobs is h = pairs_map (λ (a b : Job). a.id < b.id) (λ (a b : Job). a.id < b.id) (on_these f these) jobs
    (λ x y one other low. let first = id_on f these x is in let second = id_on f these y is in omega (arith, low, first, second)) h

-- Changed jobs hold no more nodes.
pub held_once_on : (f : Job → Job) (these : List ℕ) (jobs : Jobs) → IsWorkerChange f → ((job : Job) → IsIn job jobs → IsTrue (contains these job.id) → IsTrue (reserves_nodes (f job)) → IsTrue (reserves_nodes job))
    → NodesHeldOnce jobs → NodesHeldOnce (changed_jobs f these jobs)
held_once_on f these jobs is holds h = pairs_map HoldApart HoldApart (on_these f these) jobs (λ x y one other apart first second.
    rw (spec x, spec y) (apart (held x one first) (held y other second))) h
  where
    spec : (job : Job) → (on_these f these job).spec ≡ job.spec
    spec job = by_these (λ (j : Job). j.spec ≡ job.spec) f these job (λ named. is.specs job) (λ other. refl)

    held : (job : Job) → IsIn job jobs → IsTrue (reserves_nodes (on_these f these job)) → IsTrue (reserves_nodes job)
    held job there = by_these (λ (j : Job). IsTrue (reserves_nodes j) → IsTrue (reserves_nodes job)) f these job (λ named. holds job there named) (λ other h. h)

-- Changed jobs name the same tables, and are active only if they were.
pub name_apart_on : (f : Job → Job) (these : List ℕ) (jobs : Jobs) → ((job : Job) → IsIn job jobs → IsTrue (contains these job.id) → (job_tables (f job) ≡ job_tables job) × (IsTrue (is_active (f job)) → IsTrue (is_active job)))
    → Pairs NameApart jobs → Pairs NameApart (changed_jobs f these jobs)
name_apart_on f these jobs same h = pairs_map NameApart NameApart (on_these f these) jobs (λ x y one other apart first second.
    rw (names x one, names y other) (apart (active x one first) (active y other second))) h
  where
    names : (job : Job) → IsIn job jobs → job_tables (on_these f these job) ≡ job_tables job
    names job there = by_these (λ (j : Job). job_tables j ≡ job_tables job) f these job (λ named. (same job there named).0) (λ other. refl)

    active : (job : Job) → IsIn job jobs → IsTrue (is_active (on_these f these job)) → IsTrue (is_active job)
    active job there = by_these (λ (j : Job). IsTrue (is_active j) → IsTrue (is_active job)) f these job (λ named. (same job there named).1) (λ other h. h)

-- ---- what is said of attempts

-- The attempt that an entry names is still at most the stored one.
pub later_on : (history : List Entry) (entry : Entry) (f : Job → Job) (these : List ℕ) (jobs : Jobs) → Pairs (λ a b. a.id < b.id) jobs → IsWorkerChange f → (a : ℕ × ℕ) → IsUpTo history jobs a
    → IsUpTo (history ++ entry ∷ []) (trimmed_jobs (changed_jobs f these jobs)) a
later_on history entry f these jobs rise is a h = (named_grows history entry a.0 h.0, by (job_with a.0 (trimmed_jobs (changed_jobs f these jobs))) refl)
  where
    old : (job : Job) → IsIn job jobs → job.id ≡ a.0 → a.1 ≤ job.attempt
    old job there same = subst (λ o. IfSome o (λ (j : Job). a.1 ≤ j.attempt)) (ap (λ id. job_with id jobs) (sym same) ∙ found_job jobs job rise there) h.1

    each : (job : Job) → IsIn job jobs → (on_these f these job).id ≡ a.0 → a.1 ≤ (on_these f these job).attempt
    each job there = by_these (λ (j : Job). j.id ≡ a.0 → a.1 ≤ j.attempt) f these job
        (λ named same. let low = old job there (sym (is.ids job) ∙ same) in let up = is.attempts job in omega (arith, low, up))
        (λ other same. old job there same)

    by : (o : Option Job) → job_with a.0 (trimmed_jobs (changed_jobs f these jobs)) ≡ o → IfSome o (λ (j : Job). a.1 ≤ j.attempt)
    by None e = tt
    by (Some job) e =
        let found = job_found a.0 (trimmed_jobs (changed_jobs f these jobs)) job e in
        all_at (λ (j : Job). j.id ≡ a.0 → a.1 ≤ j.attempt) (changed_jobs f these jobs) job (all_on_these _ f these jobs each) (in_trimmed (changed_jobs f these jobs) job found.there) found.same

-- An attempt that the entry itself names, at a job that is one of these.
pub own_on : (history : List Entry) (entry : Entry) (f : Job → Job) (these : List ℕ) (jobs : Jobs) (job : Job) (a : ℕ × ℕ) → Pairs (λ a b. a.id < b.id) jobs → IsWorkerChange f → IsTrue (was_named history a.0)
    → IsTrue (contains these a.0) → job_with a.0 jobs ≡ Some job → a.1 ≤ (f job).attempt → IsUpTo (history ++ entry ∷ []) (trimmed_jobs (changed_jobs f these jobs)) a
own_on history entry f these jobs job a rise is named these_has stored low = (named_grows history entry a.0 named, by (job_with a.0 (trimmed_jobs (changed_jobs f these jobs))) refl)
  where
    each : (j : Job) → IsIn j jobs → (on_these f these j).id ≡ a.0 → a.1 ≤ (on_these f these j).attempt
    each j there = by_these (λ (x : Job). x.id ≡ a.0 → a.1 ≤ x.attempt) f these j
        (λ has same. subst (λ (x : Job). a.1 ≤ (f x).attempt) (the_job (sym (is.ids j) ∙ same)) low)
        (λ lacks same. absurd (refused (contains these j.id) lacks (subst (λ id. IsTrue (contains these id)) (sym same) these_has)))
      where
        some : Some job ≡ Some j → job ≡ j
        some e = cc e

        the_job : j.id ≡ a.0 → job ≡ j
        the_job same = some (sym stored ∙ ap (λ id. job_with id jobs) (sym same) ∙ found_job jobs j rise there)

        refused : (b : Bool) → b ≡ false → IsTrue b → ⊥
        refused true e h = absurd (cc e)
        refused false e h = absurd (cc h)

    by : (o : Option Job) → job_with a.0 (trimmed_jobs (changed_jobs f these jobs)) ≡ o → IfSome o (λ (j : Job). a.1 ≤ j.attempt)
    by None e = tt
    by (Some j) e =
        let found = job_found a.0 (trimmed_jobs (changed_jobs f these jobs)) j e in
        all_at (λ (x : Job). x.id ≡ a.0 → a.1 ≤ x.attempt) (changed_jobs f these jobs) j (all_on_these _ f these jobs each) (in_trimmed (changed_jobs f these jobs) j found.there) found.same

-- ---- the epoch of the records

-- Records that keep their epoch keep it at most the manifest's.
pub same_epoch_fits : (manifest : Manifest) (records : Option Records) (version : ℕ) (jobs : Jobs) → EpochFits manifest records → EpochFits manifest (Some (record { version = version; epoch = records_epoch records; jobs = jobs }))
same_epoch_fits manifest None version jobs h = omega arith
same_epoch_fits manifest (Some records) version jobs h = h

-- ---- jobs that the entry says nothing of

pub kept_quiet : (merge : Operator) (world : World) (specs : ℕ → JobSpec) (records : Records) (entry : Entry) (job : Job) → Body merge world specs → IsQuietFor (stood entry.answer) entry.event job.id → IsIn job (stored_jobs world.store) → JobKept merge world specs job
    → JobKept merge (with_records world records entry) specs job
kept_quiet merge world specs records entry job b quiet there kept = record {
  fits = fits_with_records merge (record world.store { history = world.store.history ++ entry ∷ [] }) specs (Some records) job
      (fits_quiet merge world specs world.store.deleted world.store.jobs_drawn world.store.tables_drawn entry job quiet (spares_all merge world specs b) there kept.fits);
  facts = facts_quiet world.store.history entry world.past world.store.manifest.trees job quiet kept.facts;
  spec = λ others faithful. kept.spec others (faithful_before_records world others records entry faithful);
}
