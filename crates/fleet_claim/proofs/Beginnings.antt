-- How the attempts of a claim begin is as in the model.
use Rattle.std.proofs.Common.{◌≡◌, refl, sym, ◌∙◌, ap, subst, ℕ, ◌+◌, List, [], ◌∷◌, ◌++◌, map, Bool, true, false, not, ◌&&◌}
use Rattle.std.specs.Prelude.{filter, flat_map, Option, Some, None}
use Rattle.std.specs.List.{AllByRecursion, list_all}
use Rattle.std.specs.Option.{option_to_list}
use Rattle.std.proofs.lemmas.List.{append-nil, map-append}
use Rattle.std.proofs.lemmas.List.Concat.{flat_map-append}
use Rattle.std.proofs.lemmas.List.Elements.{filter-append}
use Rattle.std.proofs.lemmas.Slice.Eq.{bytes_eq-Decides}
use Rattle.fleet_model.specs.Work.Attempts.{ClaimInput, attempt_context}
use Rattle.fleet_model.specs.Work.Claims.{claimed_attempt, may_take}
use Rattle.fleet_model.specs.History as model
use Rattle.fleet_model.specs.Jobs.{Job, Jobs, ids, ids_eq}
use Rattle.fleet_model.specs.Nodes.{NodeName, names_contain, tree_at}
use Rattle.fleet_model.specs.Trees.{source_pieces}
use Rattle.fleet_model.specs.Work.Parties.{Attempt}
use Rattle.fleet_model.specs.Store.{Store}
use Rattle.fleet_model.specs.Invariants.TreesFit.{IsTable}
use Rattle.step_model.specs.Steps.ClaimSteps.{can_start, plan_of}
use Rattle.fleet_range.specs.Keys.{range_of}
use Rattle.fleet_rows.specs.declared.settings.Settings.{Settings}
use Rattle.fleet_range.specs.Ranges.{Ends}
use Rattle.fleet_tree.specs.declared.handle.SsTableHandle.{SsTableHandle}
use Rattle.fleet_tree.specs.declared.manifest.VersionedManifest.{VersionedManifest}
use Rattle.fleet_tree.specs.declared.manifest.ManifestCore.{ManifestCore}
use Rattle.fleet_plan.specs.Parts.{Part}
use Rattle.fleet_jobs.specs.Parts.ContextParts.{ContextParts}
use Rattle.fleet_jobs.specs.Contexts.{context_of, noted_range, ranges_in, table_ids}
use Rattle.fleet_jobs.specs.Parts.JobParts.{JobParts}
use Rattle.fleet_jobs.specs.Jobs.{job_handles, job_of, jobs_of}
use Rattle.fleet_jobs.specs.Laws.{view_tables}
use Rattle.fleet_jobs.specs.Places.{nodes_at}
use Rattle.fleet_jobs.specs.Sources.{name_of}
use Rattle.fleet_jobs.specs.Specs.{segment_of, sources_of}
use Rattle.fleet_jobs.specs.declared.source_id.SourceId.{SourceId}
use Rattle.fleet_jobs.specs.declared.spec.CompactionSpec.{CompactionSpec}
use Rattle.fleet_tree.specs.Trees.{trees_with_prefix}
use Rattle.fleet_tree.specs.Views.{View}
use Rattle.fleet_jobs.specs.Workers.{release_of}
use Rattle.fleet_jobs.specs.declared.release.Release.{Release}
use Rattle.fleet_history.specs.declared.note.Note.{Note}
use Rattle.fleet_store.specs.Handles.{IsDescribed, NamesTable}
use Rattle.fleet_store.specs.Manifests.{IsManifest}
use Rattle.fleet_store.specs.Records.{DescribeTables}
use Rattle.step_laws.proofs.Elements.{all_append, all_back, all_front, all_unflat}
use Rattle.fleet_claim.specs.Beginnings.{Adds, AreStarts, Begins, IsBeginning, IsShown, KnowsSources, StartsAre, can_begin, claimed_of, input_of, noted_events, notes_of, released_at, settings_at}
use Rattle.fleet_claim.specs.Contexts.{IsContext, fresh_parts}
use Rattle.fleet_claim.specs.Sources.{source_views}
use Rattle.fleet_claim.specs.declared.beginning.ClaimedAttempt.{ClaimedAttempt}
use Rattle.fleet_claim.specs.declared.beginning.Starts.{Starts}
use Rattle.fleet_claim.specs.declared.options.CompactionWorkerOptions.{CompactionWorkerOptions}
use Rattle.fleet_claim.proofs.Bare.{names_are, of_sources, pieces_are}
use Rattle.fleet_claim.proofs.ModelContexts.{fresh_is, taken_is}

-- ---- one job

-- A claimed job begins so in the model.
record StartIs (input : ClaimInput) (job : Job) (begun : List ClaimedAttempt) (notes : List Note) (released : List ℕ) : Type 0 where
  attempts : map claimed_of begun ≡ map (claimed_attempt input) (filter (can_start input.manifest) (job ∷ []))
  plans : noted_events notes ≡ flat_map (plan_of input) (filter (can_start input.manifest) (job ∷ []))
  others : released ≡ ids (filter (λ job. not (can_start input.manifest job)) (job ∷ []))

both_true : (a b : Bool) → (a && b) ≡ true → b ≡ true
both_true true b e = e
both_true false b e = absurd (cc e)

keys_noted : (parts : List Part) → map range_of (map (λ part. part.range) parts) ≡ map (λ range. range.0) (map noted_range parts)
keys_noted [] = refl
keys_noted (part ∷ parts) = ap (λ rs. range_of part.range ∷ rs) (keys_noted parts)

attempt_made : (job number : ℕ) (sources : List ℕ) (a : ClaimedAttempt) (context : _) → a.job ≡ job → a.number ≡ number → a.sources ≡ sources → context_of a.ctx ≡ context
    → claimed_of a ≡ record { job = job; number = number; sources = sources; context = context }
attempt_made job number sources a context e f g h = rw (e, f, g, h) refl

-- The attempt has the context that it begins with, by the published one.
abbrev HasContext : Release → CompactionWorkerOptions → ℕ → ManifestCore → JobParts → ClaimedAttempt → Option ContextParts → Type 0
HasContext release options moment core job a published =
    IsContext (source_views job.spec core) options.max_subcompactions (settings_at core options moment job.spec (nodes_at (segment_of job.spec) core)) release published a.ctx

-- What the attempt has noted is described if the record of the job is.
shown_is : (release : Release) (options : CompactionWorkerOptions) (moment : ℕ) (core : ManifestCore) (job : JobParts) (found : Option ClaimedAttempt) → IsBeginning release options moment core job found → (shown : Store) → DescribeTables (job ∷ []) shown → AllByRecursion (IsShown shown) (option_to_list found)
shown_is release options moment core job None cannot shown all = tt
shown_is release options moment core job (Some a) begins shown all = (by job.ctx refl begins.context, tt)
  where
    D : SsTableHandle → Type 0
    D = IsDescribed shown.tables

    none : (keys : List (Ends (List ℕ))) → AllByRecursion (λ (part : Part). AllByRecursion D part.output_ssts) (fresh_parts keys)
    none [] = tt
    none (key ∷ keys) = (tt, none keys)

    by : (published : Option ContextParts) → job.ctx ≡ published → HasContext release options moment core job a published → IsShown shown a
    by None e fresh = rw fresh.is (none fresh.keys)
    by (Some published) e same =
        let handles : AllByRecursion D (flat_map (λ (part : Part). part.output_ssts) (ranges_in job.ctx)) = all_front D (flat_map (λ (part : Part). part.output_ssts) (ranges_in job.ctx)) _ (all_front D (job_handles job) [] all) in
        rw same (all_unflat D (λ (part : Part). part.output_ssts) published.ranges (rw e at handles))

module _ (release : Release) (options : CompactionWorkerOptions) (moment : ℕ) (manifest : VersionedManifest) (store : Store) (is : IsManifest manifest store)
    (tables : AllByRecursion (λ table. IsTable table.1) store.tables) (job : JobParts) where
  abbrev core : ManifestCore
  core = manifest.manifest.core

  abbrev input : ClaimInput
  input = input_of release options moment store

  can_is : can_start store.manifest (job_of job) ≡ can_begin core job
  can_is =
      ap (λ ns. list_all (names_contain ns) (map name_of (sources_of job.spec)) && ids_eq (source_pieces (map name_of (sources_of job.spec)) (tree_at (segment_of job.spec) store.manifest.trees)) job.source_tables) (names_are manifest store is (segment_of job.spec))
      ∙ ap (λ ts. list_all (names_contain (nodes_at (segment_of job.spec) core)) (map name_of (sources_of job.spec)) && ids_eq ts job.source_tables) (pieces_are manifest store is (segment_of job.spec) (sources_of job.spec))

  context_is : (published : Option ContextParts) → job.ctx ≡ published → may_take (release_of release) (job_of job) ≡ true → (a : ClaimedAttempt) → Begins release options moment core job a → context_of a.ctx ≡ attempt_context input (job_of job)
  context_is None e may a begins =
      rw e (fresh_is manifest store is tables release options moment job a.ctx ((bytes_eq-Decides (view_tables (source_views job.spec core)) job.source_tables).0 (both_true _ _ begins.can)) (subst (HasContext release options moment core job a) e begins.context))
  context_is (Some published) e may a begins =
      rw e (ap context_of (subst (HasContext release options moment core job a) e begins.context) ∙ taken_is release published.cut published refl (rw e at may))

  attempt_is : may_take (release_of release) (job_of job) ≡ true → (a : ClaimedAttempt) → Begins release options moment core job a → claimed_of a ≡ claimed_attempt input (job_of job)
  attempt_is may a begins = attempt_made job.id (job.attempt + 1) job.source_tables a _ begins.same begins.next begins.tables (context_is job.ctx refl may a begins)

  note_is : (published : Option ContextParts) → job.ctx ≡ published → (a : ClaimedAttempt) → claimed_of a ≡ claimed_attempt input (job_of job) → noted_events (notes_of job.ctx (Some a)) ≡ plan_of input (job_of job)
  note_is None e a same = rw e (ap (λ rs. model.Plan a.job a.number rs ∷ []) (keys_noted a.ctx.ranges) ∙ ap (λ (b : Attempt). model.Plan b.job b.number (map (λ range. range.0) b.context.ranges) ∷ []) (rw e at same))
  note_is (Some published) e a same = rw e refl

  no_note : (published : Option ContextParts) → notes_of published None ≡ []
  no_note None = refl
  no_note (Some published) = refl

  -- The job begins as in the model.
  start_is : may_take (release_of release) (job_of job) ≡ true → (found : Option ClaimedAttempt) → IsBeginning release options moment core job found
      → StartIs input (job_of job) (option_to_list found) (notes_of job.ctx found) (released_at job.id found)
  start_is may None cannot =
      let no : can_start store.manifest (job_of job) ≡ false = can_is ∙ cannot in
      record { attempts = rw no refl; plans = rw no (ap noted_events (no_note job.ctx)); others = rw no refl }
  start_is may (Some a) begins =
      let yes : can_start store.manifest (job_of job) ≡ true = can_is ∙ begins.can in
      let same = attempt_is may a begins in
      record { attempts = rw yes (ap (λ b. b ∷ []) same); plans = rw yes (note_is job.ctx refl a same ∙ sym (append-nil (plan_of input (job_of job)))); others = rw yes refl }

-- ---- one more job

-- If the starts are the model's for some jobs and one more job begins as in the model, they are the
-- model's for all of these jobs.
starts_more : (input : ClaimInput) (jobs : Jobs) (job : Job) (old new : Starts) (begun : List ClaimedAttempt) (notes : List Note) (released : List ℕ) → StartsAre input jobs old → StartIs input job begun notes released
    → new.begun.items ≡ old.begun.items ++ begun → new.notes.items ≡ old.notes.items ++ notes → new.released.items ≡ old.released.items ++ released → StartsAre input (jobs ++ job ∷ []) new
starts_more input jobs job old new begun notes released were one more_begun more_notes more_released = record {
  attempts =
      ap (map claimed_of) more_begun ∙ map-append claimed_of old.begun.items begun
      ∙ ap (λ xs. xs ++ map claimed_of begun) were.attempts ∙ ap (λ xs. map (claimed_attempt input) (filter CAN jobs) ++ xs) one.attempts
      ∙ sym (map-append (claimed_attempt input) (filter CAN jobs) (filter CAN (job ∷ [])))
      ∙ ap (map (claimed_attempt input)) (sym (filter-append CAN jobs (job ∷ [])));
  plans =
      ap noted_events more_notes ∙ map-append _ old.notes.items notes
      ∙ ap (λ es. es ++ noted_events notes) were.plans ∙ ap (λ es. flat_map (plan_of input) (filter CAN jobs) ++ es) one.plans
      ∙ sym (flat_map-append (plan_of input) (filter CAN jobs) (filter CAN (job ∷ [])))
      ∙ ap (flat_map (plan_of input)) (sym (filter-append CAN jobs (job ∷ [])));
  others =
      more_released
      ∙ ap (λ is. is ++ released) were.others ∙ ap (λ is. ids (filter CANNOT jobs) ++ is) one.others
      ∙ sym (map-append (λ job. job.id) (filter CANNOT jobs) (filter CANNOT (job ∷ [])))
      ∙ ap ids (sym (filter-append CANNOT jobs (job ∷ [])));
}
  where
    CAN : Job → Bool
    CAN = can_start input.manifest

    CANNOT : Job → Bool
    CANNOT = λ job. not (can_start input.manifest job)

-- ---- the descriptions of the source tables

views_described : (store : Store) (views : List View) → AllByRecursion (NamesTable store.tables) views → AllByRecursion (IsDescribed store.tables) (map (λ view. view.sst) views)
views_described store [] all = tt
views_described store (view ∷ views) all = (all.0.described, views_described store views all.1)

ids_described : (views : List View) → table_ids (map (λ view. view.sst) views) ≡ view_tables views
ids_described [] = refl
ids_described (view ∷ views) = ap (λ ids. view.sst.id ∷ ids) (ids_described views)

-- An attempt that begins under a manifest knows its source tables.
known_is : (release : Release) (options : CompactionWorkerOptions) (moment : ℕ) (manifest : VersionedManifest) (job : JobParts) (found : Option ClaimedAttempt) → IsBeginning release options moment manifest.manifest.core job found
    → (store : Store) → IsManifest manifest store → AllByRecursion (KnowsSources store) (option_to_list found)
known_is release options moment manifest job None cannot store is = tt
known_is release options moment manifest job (Some a) begins store is =
    let core = manifest.manifest.core in
    let views = source_views job.spec core in (
      record {
        are =
            ap table_ids begins.described ∙ ids_described views
            ∙ (bytes_eq-Decides (view_tables views) job.source_tables).0 (both_true _ _ begins.can) ∙ sym begins.tables;
        described =
            subst (AllByRecursion (IsDescribed store.tables)) (sym begins.described)
            (views_described store views (of_sources (NamesTable store.tables) (segment_of job.spec) (trees_with_prefix core) (sources_of job.spec) is.views));
      },
      tt,
    )

module _ (release : Release) (options : CompactionWorkerOptions) (moment : ℕ) (manifest : VersionedManifest) where
  -- No job began so far.
  pub starts_none : (starts : Starts) → starts.begun.items ≡ [] → starts.notes.items ≡ [] → starts.released.items ≡ [] → AreStarts release options moment manifest [] starts
  starts_none starts a b c = record {
    model = λ store is tables may. record { attempts = ap (map claimed_of) a; plans = ap noted_events b; others = c };
    shown = λ store all. rw a tt;
    known = λ store is. rw a tt;
  }

  -- One more job began.
  pub starts_one : (jobs : List JobParts) (job : JobParts) (old new : Starts) → AreStarts release options moment manifest jobs old → Adds release options moment manifest.manifest.core job old new → AreStarts release options moment manifest (jobs ++ job ∷ []) new
  starts_one jobs job old new were adds = record {
    model = λ store is tables may.
        subst (λ js. StartsAre (input_of release options moment store) js new) (sym (map-append job_of jobs (job ∷ [])))
        (starts_more (input_of release options moment store) (jobs_of jobs) (job_of job) old new (option_to_list adds.found) (notes_of job.ctx adds.found) (released_at job.id adds.found)
        (were.model store is tables (all_front _ jobs (job ∷ []) may)) (start_is release options moment manifest store is tables job (all_back _ jobs (job ∷ []) may).0 adds.found adds.is)
        adds.more_begun adds.more_notes adds.more_released);
    shown = λ store all.
        let described = subst (AllByRecursion (IsDescribed store.tables)) (flat_map-append job_handles jobs (job ∷ [])) all in
        subst (AllByRecursion (IsShown store)) (sym adds.more_begun)
        (all_append (IsShown store) old.begun.items (option_to_list adds.found) (were.shown store (all_front (IsDescribed store.tables) (flat_map job_handles jobs) _ described))
        (shown_is release options moment manifest.manifest.core job adds.found adds.is store (all_back (IsDescribed store.tables) (flat_map job_handles jobs) _ described)));
    known = λ store is.
        subst (AllByRecursion (KnowsSources store)) (sym adds.more_begun)
        (all_append (KnowsSources store) old.begun.items (option_to_list adds.found) (were.known store is) (known_is release options moment manifest job adds.found adds.is store is));
  }

-- ---- whether one job can start

-- The test of the parts that were looked up.
pub can_is_test : (core : ManifestCore) (job : JobParts) (spec : CompactionSpec) (segment : List ℕ) (nodes : List NodeName) (sources : List SourceId) (views : List View) (tables : List ℕ)
    → spec ≡ job.spec → segment ≡ segment_of spec → nodes ≡ nodes_at segment core → sources ≡ sources_of spec → views ≡ source_views spec core → tables ≡ job.source_tables
    → (list_all (names_contain nodes) (map name_of sources) && ids_eq (view_tables views) tables) ≡ can_begin core job
can_is_test core job spec segment nodes sources views tables a b c d e f =
    both_equal (c ∙ ap (λ s. nodes_at s core) (b ∙ ap segment_of a)) (d ∙ ap sources_of a) (e ∙ ap (λ s. source_views s core) a) f
  where
    both_equal : {n n' : List NodeName} {s s' : List SourceId} {v v' : List View} {t t' : List ℕ} → n ≡ n' → s ≡ s' → v ≡ v' → t ≡ t'
        → (list_all (names_contain n) (map name_of s) && ids_eq (view_tables v) t) ≡ (list_all (names_contain n') (map name_of s') && ids_eq (view_tables v') t')
    both_equal {n' = n'} {s = s} {s' = s'} {v = v} {v' = v'} {t = t} one two three four =
        ap (λ n. list_all (names_contain n) (map name_of s) && ids_eq (view_tables v) t) one
        ∙ ap (λ s. list_all (names_contain n') (map name_of s) && ids_eq (view_tables v) t) two
        ∙ ap (λ v. list_all (names_contain n') (map name_of s') && ids_eq (view_tables v) t) three
        ∙ ap (λ t. list_all (names_contain n') (map name_of s') && ids_eq (view_tables v') t) four

-- The attempt that was made of these parts.
pub begins_as : (release : Release) (options : CompactionWorkerOptions) (moment : ℕ) (core : ManifestCore) (job : JobParts) (spec : CompactionSpec) (nodes : List NodeName) (views : List View) (settings : Settings) (published : Option ContextParts) (a : ClaimedAttempt)
    → can_begin core job ≡ true → a.job ≡ job.id → a.number ≡ job.attempt + 1 → a.sources ≡ job.source_tables → a.tables ≡ map (λ view. view.sst) views → spec ≡ job.spec → nodes ≡ nodes_at (segment_of spec) core → views ≡ source_views spec core → settings ≡ settings_at core options moment spec nodes → published ≡ job.ctx
    → IsContext views options.max_subcompactions settings release published a.ctx → Begins release options moment core job a
begins_as release options moment core job spec nodes views settings published a can same next tables described of_spec are_nodes are_views are_settings is_published context = record {
  can = can;
  same = same;
  next = next;
  tables = tables;
  described = described ∙ ap (map (λ view. view.sst)) (are_views ∙ ap (λ s. source_views s core) of_spec);
  context =
      subst (λ c. HasContext release options moment core job a c) is_published
      (subst (λ s. IsContext (source_views job.spec core) options.max_subcompactions s release published a.ctx) (are_settings ∙ ap (λ ns. settings_at core options moment spec ns) are_nodes ∙ ap (λ s. settings_at core options moment s (nodes_at (segment_of s) core)) of_spec)
      (subst (λ vs. IsContext vs options.max_subcompactions settings release published a.ctx) (are_views ∙ ap (λ s. source_views s core) of_spec) context));
}
