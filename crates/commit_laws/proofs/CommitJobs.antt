-- What is kept of each job after a commit that takes effect.
use Rattle.std.proofs.Common.{◌≡◌, refl, sym, ◌∙◌, ap, subst, ℕ, ◌+◌, List, [], ◌∷◌, ◌++◌, cond, Bool, true, false, inl, inr, ◌⊎◌, Option, Some, None}
use Rattle.std.specs.Prelude.{IsTrue, IfSome, ◌&&◌, ◌||◌, not, flat_map, is_some}
use Rattle.std.specs.List.{AllByRecursion, list_any}
use Rattle.row_model.specs.Settings.{Settings}
use Rattle.row_model.specs.Fold.{Operator}
use Rattle.fleet_model.specs.Nodes.{Trees}
use Rattle.fleet_model.specs.Jobs.{JobSpec, Job, Context, Status, Submitted, Scheduled, Running, Compacted, Completed, Failed, status_eq, is_finished, has_status, is_active, job_with, contains}
use Rattle.fleet_model.specs.History.{Party, Entry, Answer, Step, PutManifest, Commit, stood}
use Rattle.fleet_model.specs.Work.Gates.{reserves_nodes}
use Rattle.fleet_model.specs.Handles.{tree_tables, job_tables}
use Rattle.fleet_model.specs.Store.{Manifest, stored_jobs}
use Rattle.fleet_model.specs.Past.Replay.{outputs_in}
use Rattle.fleet_model.specs.Trees.{stepped_all, horizon_after_all, job_of}
use Rattle.fleet_model.specs.Invariants.JobsFit.{SourcesStand, SettingsFit, OutputsFit, was_joined, is_join_of, joins}
use Rattle.fleet_model.specs.Invariants.AttemptsFit.{ContextFits}
use Rattle.step_model.specs.Past.{World}
use Rattle.step_model.specs.LawfulManifests.{StepsFit, IsKnownTo, cut_of}
use Rattle.step_model.specs.LawfulTables.{was_piece}
use Rattle.step_laws.proofs.Elements.{IsIn, all_at, all_to, contains_in, contains_no}
use Rattle.step_laws.proofs.Worlds.{settings_stay, ranges_stay}
use Rattle.step_laws.proofs.Grown.{named_grows, drawn_table_grows, source_grows, beaten_stays_so}
use Rattle.step_laws.proofs.Bodies.{JobKept, Body}
use Rattle.step_laws.proofs.ManifestBodies.{with_manifest, faithful_before_manifest, or_right, or_left}
use Rattle.step_laws.proofs.ManifestEpochs.{no_new_piece, joined_on}
use Rattle.commit_laws.proofs.Stretches.{never_both, other_or}
use Rattle.commit_laws.proofs.JobSteps.{is_done, JobHolds}
use Rattle.commit_laws.proofs.Midway.{Midway, found_job, only_job}
use Rattle.commit_laws.specs.After.{joined_by}
use Rattle.commit_laws.proofs.CommitSteps.{joined_are, joined_compacted, IsCompacted}

-- ---- the commit

abbrev pub entry_of : ℕ → Party → List Step → Answer → Entry
entry_of line party steps answer = record { line = line; party = party; event = PutManifest (Commit steps); answer = answer }

abbrev pub trees_of : World → (ℕ → JobSpec) → List Step → Trees
trees_of world own steps = stepped_all world.store.tables (λ id. (own id, outputs_in world.store.records id)) steps world.store.manifest.trees

abbrev pub horizon_of : World → List Step → ℕ
horizon_of world steps = horizon_after_all world.store.manifest.floor (λ id. cut_of (job_with id (stored_jobs world.store))) steps world.store.manifest.horizon

abbrev pub manifest_of : World → (ℕ → JobSpec) → List Step → Manifest
manifest_of world own steps = record world.store.manifest { version = world.store.manifest.version + 1; trees = trees_of world own steps; horizon = horizon_of world steps }

-- A commit that takes effect, with what its steps keep. The specs are those by which it is replayed.
pub record CommitCase (merge : Operator) (world : World) (specs own : ℕ → JobSpec) (party : Party) (steps : List Step) : Type 0 where
  pub body : Body merge world specs
  pub known : AllByRecursion (λ step. IsKnownTo party world own (job_of step)) steps
  pub same : AllByRecursion (λ step. specs (job_of step) ≡ own (job_of step)) steps
  pub each : StepsFit world own world.store.manifest.trees [] steps
  pub midway : Midway merge world (trees_of world own steps) (horizon_of world steps) (joined_by steps [])

-- ---- which joins stood

-- Some element of a list with one added at its end passes a test exactly if one of the list or the added one does.
any_push : {A : Type 0} (p : A → Bool) (xs : List A) (x : A) → list_any p (xs ++ x ∷ []) ≡ (list_any p xs || p x)
any_push p [] x = by (p x)
  where
    by : (b : Bool) → (b || false) ≡ b
    by true = refl
    by false = refl
any_push p (y ∷ xs) x = ap (λ b. p y || b) (any_push p xs x) ∙ by (p y) (list_any p xs) (p x)
  where
    by : (a b c : Bool) → (a || (b || c)) ≡ ((a || b) || c)
    by true b c = refl
    by false b c = refl

-- A job is done after the steps of a commit that takes effect exactly if it is joined in the history with the commit.
pub done_same : (world : World) (line : ℕ) (party : Party) (steps : List Step) (answer : Answer) (job : Job) → stood answer ≡ true
    → is_done world.store.history (joined_by steps []) job ≡ was_joined (world.store.history ++ entry_of line party steps answer ∷ []) job.id
done_same world line party steps answer job took =
    ap (λ b. b || was_joined world.store.history job.id) (joined_are steps [] job.id)
    ∙ by (list_any (is_join_of job.id) steps) (was_joined world.store.history job.id)
    ∙ ap (λ b. was_joined world.store.history job.id || (list_any (is_join_of job.id) steps && b)) (sym took)
    ∙ sym (any_push (λ (e : Entry). joins job.id e.event && stood e.answer) world.store.history (entry_of line party steps answer))
  where
    by : (a w : Bool) → (a || w) ≡ (w || (a && true))
    by true true = refl
    by true false = refl
    by false true = refl
    by false false = refl

or_split : (a b : Bool) → (a || b) ≡ true → (a ≡ true) ⊎ (b ≡ true)
or_split true b e = inl refl
or_split false b e = inr e

pub waits_not_late : (s : Status) → IsTrue (status_eq Scheduled s || status_eq Running s) → IsTrue (status_eq Compacted s || is_finished s) → ⊥
waits_not_late Submitted h k = absurd (cc h)
waits_not_late Scheduled h k = absurd (cc k)
waits_not_late Running h k = absurd (cc k)
waits_not_late Compacted h k = absurd (cc h)
waits_not_late Completed h k = absurd (cc h)
waits_not_late Failed h k = absurd (cc h)

-- A job whose join stood, now or before, is Compacted or finished.
pub done_late : (merge : Operator) (world : World) (specs own : ℕ → JobSpec) (party : Party) (steps : List Step) (c : CommitCase merge world specs own party steps) (job : Job) → IsIn job (stored_jobs world.store) → JobKept merge world specs job
    → is_done world.store.history (joined_by steps []) job ≡ true → IsTrue (has_status Compacted job || is_finished job.status)
done_late merge world specs own party steps c job there kept done = by (or_split (contains (joined_by steps []) job.id) (was_joined world.store.history job.id) done)
  where
    of_joined : IsCompacted world job.id → IsTrue (has_status Compacted job || is_finished job.status)
    of_joined f =
        let found = found_job job.id (stored_jobs world.store) f.0 f.1.0 in
        or_left (has_status Compacted job) (is_finished job.status) (subst (λ (x : Job). IsTrue (has_status Compacted x)) (only_job (stored_jobs world.store) f.0 job c.body.sound.job_ids found.0 there (sym found.1)) f.1.1)

    by : (contains (joined_by steps []) job.id ≡ true) ⊎ (was_joined world.store.history job.id ≡ true) → IsTrue (has_status Compacted job || is_finished job.status)
    by (inl now) = of_joined (all_at (IsCompacted world) (joined_by steps []) job.id (joined_compacted world own world.store.manifest.trees [] steps c.each tt) (contains_in (joined_by steps []) job.id now))
    by (inr was) = kept.facts.late was

-- ---- one job

-- What is kept of a stored job is kept after a commit that takes effect.
pub job_kept : (merge : Operator) (world : World) (specs own : ℕ → JobSpec) (line : ℕ) (party : Party) (steps : List Step) (answer : Answer) → stood answer ≡ true → (c : CommitCase merge world specs own party steps) (job : Job) → IsIn job (stored_jobs world.store)
    → JobKept merge world specs job → JobKept merge (with_manifest world (manifest_of world own steps) (entry_of line party steps answer)) specs job
job_kept merge world specs own line party steps answer took c job there kept = record {
  fits = record {
    sources = ((λ waits. holds.stand (or_left _ _ waits) (undone waits) (kept.fits.sources.0 waits)), λ compacted. sources compacted (is_done world.store.history J job) refl);
    context = record {
      there = rw (beaten_stays_so world.store.history entry job.id (quiet took)) kept.fits.context.there;
      fits = context job.context refl kept.fits.context.fits;
    };
    outputs = λ compacted. outputs compacted (kept.fits.outputs compacted);
    tables = λ active. record { named = (kept.fits.tables active).named; sources = (kept.fits.tables active).sources };
  };
  facts = record {
    named = named_grows world.store.history entry job.id kept.facts.named;
    unbeaten = λ is. beaten_stays_so world.store.history entry job.id (quiet took) ∙ kept.facts.unbeaten is;
    unleased = kept.facts.unleased;
    flushed = λ reserves. all_to _ _ job.spec.sources (λ name one old. source_grows world.store.history entry name old) (kept.facts.flushed reserves);
    drawn = λ active. all_to _ _ (job_tables job) (λ t one old. drawn_table_grows world.store.history entry t old) (kept.facts.drawn active);
    unused = λ unjoined. unused unjoined;
    late = λ was. done_late merge world specs own party steps c job there kept (done ∙ was);
    stand = λ compacted was. joined_on world.past manifest (trees_of world own steps) job (holds.again compacted (done ∙ was));
  };
  spec = λ others faithful. kept.spec others (faithful_before_manifest merge world specs others manifest entry c.body refl faithful);
}
  where
    entry : Entry
    entry = entry_of line party steps answer

    manifest : Manifest
    manifest = manifest_of world own steps

    J : List ℕ
    J = joined_by steps []

    holds : JobHolds world (trees_of world own steps) (joined_by steps []) job
    holds = all_at (JobHolds world (trees_of world own steps) (joined_by steps [])) (stored_jobs world.store) job c.midway.jobs there

    done : is_done world.store.history (joined_by steps []) job ≡ was_joined (world.store.history ++ entry_of line party steps answer ∷ []) job.id
    done = done_same world line party steps answer job took

    quiet : {A : Type 0} → A → (false && stood answer) ≡ false
    quiet a = refl

    undone : IsTrue (has_status Scheduled job || has_status Running job) → is_done world.store.history (joined_by steps []) job ≡ false
    undone waits = other_or (is_done world.store.history (joined_by steps []) job) (λ is. waits_not_late job.status waits (done_late merge world specs own party steps c job there kept is))

    not_was : is_done world.store.history (joined_by steps []) job ≡ false → {A : Type 0} → IsTrue (was_joined world.store.history job.id) ⊎ A → A
    not_was e (inl was) = absurd (never_both (is_done world.store.history (joined_by steps []) job) (or_right (contains (joined_by steps []) job.id) (was_joined world.store.history job.id) was) e)
    not_was e (inr h) = h

    sources : IsTrue (has_status Compacted job) → (b : Bool) → is_done world.store.history (joined_by steps []) job ≡ b → IsTrue (was_joined (world.store.history ++ entry_of line party steps answer ∷ []) job.id) ⊎ SourcesStand (trees_of world own steps) job
    sources compacted true e = inl (sym done ∙ e)
    sources compacted false e = inr (holds.stand (or_right _ _ compacted) e (not_was e (kept.fits.sources.1 compacted)))

    settings : (s : Settings) → IsTrue (reserves_nodes job) → is_done world.store.history (joined_by steps []) job ≡ false → SourcesStand world.store.manifest.trees job → SettingsFit world.store.manifest job.spec s → SettingsFit (manifest_of world own steps) job.spec s
    settings s reserves e stand fit = record { floor = fit.floor; cut = fit.cut; tick = fit.tick; last_run = λ is. holds.oldest reserves e stand (fit.last_run is) }

    context : (o : Option Context) → job.context ≡ o → IfSome o (ContextFits merge world.store specs job) → IfSome o (ContextFits merge (with_manifest world (manifest_of world own steps) (entry_of line party steps answer)).store specs job)
    context None is f = tt
    context (Some x) is f =
        let waits = (kept.fits.context.there.0 (ap is_some is)).0 in
        record {
          claimed = record {
            settings = settings_stay world.store.tables specs world.store.history (entry_of line party steps answer) job.id job.attempt _ (ap (λ b. cond b None None) took) f.claimed.settings;
            ranges = ranges_stay world.store.history (entry_of line party steps answer) job.id job.attempt _ (ap (λ b. cond b None None) took) f.claimed.ranges;
          };
          settings = settings x.settings (or_left _ _ waits) (undone waits) (kept.fits.sources.0 waits) f.settings;
          cut = f.cut;
          ranges = f.ranges;
          tables = f.tables;
        }

    outputs : IsTrue (has_status Compacted job) → OutputsFit merge world.store specs job → OutputsFit merge (with_manifest world (manifest_of world own steps) (entry_of line party steps answer)).store specs job
    outputs compacted f = record {
      settings = f.settings;
      claimed = settings_stay world.store.tables specs world.store.history (entry_of line party steps answer) job.id job.attempt _ (ap (λ b. cond b None None) took) f.claimed;
      cut = f.cut;
      at_most_floor = f.at_most_floor;
      fit = by (is_done world.store.history (joined_by steps []) job) refl;
      rows = f.rows;
    }
      where
        by : (b : Bool) → is_done world.store.history (joined_by steps []) job ≡ b → IsTrue (was_joined (world.store.history ++ entry_of line party steps answer ∷ []) job.id) ⊎ SettingsFit (manifest_of world own steps) job.spec f.settings
        by true e = inl (sym done ∙ e)
        by false e = inr (settings f.settings (or_right _ _ compacted) e (not_was e (kept.fits.sources.1 compacted)) (not_was e f.fit))

    first : (a b : Bool) → IsTrue (a && not b) → IsTrue a × (b ≡ false)
    first true true h = absurd (cc h)
    first true false h = (refl, refl)
    first false b h = absurd (cc h)

    unjoined_before : is_done world.store.history (joined_by steps []) job ≡ false → IsTrue (is_active job) → IsTrue (is_active job && not (was_joined world.store.history job.id))
    unjoined_before e active = at (is_active job) active (was_joined world.store.history job.id) (λ was. never_both (is_done world.store.history (joined_by steps []) job) (or_right (contains (joined_by steps []) job.id) (was_joined world.store.history job.id) was) e)
      where
        at : (a : Bool) → IsTrue a → (b : Bool) → (b ≡ true → ⊥) → IsTrue (a && not b)
        at true h true k = absurd (k refl)
        at true h false k = refl
        at false h b k = absurd (cc h)

    unused : IsTrue (is_active job && not (was_joined (world.store.history ++ entry_of line party steps answer ∷ []) job.id)) → AllByRecursion (λ t. was_piece (world.past ++ manifest_of world own steps ∷ []) t ≡ false) (job_tables job)
    unused unjoined =
        let parts = first (is_active job) (was_joined (world.store.history ++ entry_of line party steps answer ∷ []) job.id) unjoined in
        let e = done ∙ parts.1 in
        all_to _ _ (job_tables job) (λ t one none. no_new_piece world.past (manifest_of world own steps) t (contains_no (flat_map tree_tables (trees_of world own steps)) t (λ held. holds.unused t none parts.0 e one held)) none) (kept.facts.unused (unjoined_before e parts.0))
