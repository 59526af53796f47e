-- A poll may take its first steps on what it got, and its last ones with the ids that it drew.
use Rattle.std.proofs.Common.{◌≡◌, refl, sym, ◌∙◌, ap, subst, ℕ, List, [], ◌∷◌, length, cond, Bool, true, false, Some, arith}
use Rattle.std.specs.Prelude.{◌==◌, ◌||◌, IsTrue, filter, find, flat_map, if◌then◌else◌, map, ⊤}
use Rattle.std.specs.List.{AllByRecursion, zip}
use Rattle.std.specs.List.Sorted.{IsStrictlySortedBy}
use Rattle.std.specs.Ordering.{is_le}
use Rattle.row_model.specs.Fold.{IsLawful}
use Rattle.row_model.specs.Lists.{Pairs}
use Rattle.row_model.specs.Rows.{key_cmp}
use Rattle.fleet_model.specs.Handles.{Handle}
use Rattle.fleet_model.specs.History.{Entry}
use Rattle.fleet_model.specs.Invariants.TreesFit.{IsTable}
use Rattle.fleet_model.specs.Jobs.{Compacted, Job, Jobs, JobSpec, has_status}
use Rattle.fleet_model.specs.Nodes.{Segment, Tables, is_among, table_rows, rows_or_none}
use Rattle.fleet_model.specs.Store.{Manifest, Records}
use Rattle.fleet_model.specs.Work.PollStates.{PollInput, PollState, poll_begun}
use Rattle.fleet_model.specs.Work.Polls.{commit_finished, committed_poll}
use Rattle.fleet_model.specs.Work.Scheduler.{Scheduler}
use Rattle.step_model.specs.Entries.{is_mentioned, was_named}
use Rattle.step_model.specs.Kept.Keeps.{Keeps}
use Rattle.step_model.specs.Past.{World}
use Rattle.step_model.specs.Rivals.{Caller, Rivals}
use Rattle.step_model.specs.Steps.PollSteps.{PollAsk, first_steps, freed_and_committed, input_of, records_or_none}
use Rattle.step_model.specs.Views.{StoreView}
use Rattle.step_laws.proofs.Elements.{IsIn, all_at, all_flat, all_to, all_unflat}
use Rattle.course_laws.proofs.NewIds.{not_named}
use Rattle.rival_laws.proofs.FreeTables.{refused}
use Rattle.coordinator_laws.specs.CommitPuts as model
use Rattle.fleet_tree.specs.Trees.{RunFlushes, segment_of, trees_of, trees_with_prefix}
use Rattle.fleet_tree.specs.declared.handle.SsTableHandle.{SsTableHandle}
use Rattle.fleet_tree.specs.declared.manifest.ManifestCore.{ManifestCore}
use Rattle.fleet_tree.specs.declared.tree.LsmTreeState.{LsmTreeState}
use Rattle.fleet_table.proofs.LastRow.{first_up_to_last}
use Rattle.fleet_jobs.specs.Jobs.{job_handles, jobs_of}
use Rattle.fleet_jobs.specs.Parts.JobParts.{JobParts}
use Rattle.fleet_jobs.specs.Specs.{spec_of}
use Rattle.fleet_jobs.specs.declared.spec.CompactionSpec.{CompactionSpec}
use Rattle.fleet_history.specs.Changes.{new_specs}
use Rattle.fleet_book.specs.States.{own_jobs}
use Rattle.fleet_sched.specs.declared.options.CompactorOptions.{CompactorOptions}
use Rattle.fleet_store.specs.Handles.{IsDescribed, NamesTable}
use Rattle.fleet_store.specs.Manifests.{views_in}
use Rattle.fleet_step.specs.Draws.{Drew}
use Rattle.fleet_poll.specs.Loops.{CommitsStand, HasReached}
use Rattle.fleet_poll.specs.Made.{own_core}
use Rattle.fleet_poll.specs.Polls.{poll_of}
use Rattle.fleet_poll.specs.Seen.{JobsMatch, MatchesTable, Sees, TreesMatch, ViewMatches, views_of, without_trees}
use Rattle.fleet_poll.specs.declared.poll.Poll.{Poll}
use Rattle.fleet_poll.specs.Steps.{MayBegin, SeesStale, freed_unless}
use Rattle.fleet_coordinator.specs.Polling.{GetsPoll, MayPoll, ask_of}
use Rattle.fleet_coordinator.specs.declared.polling.GotPoll.{GotPoll}
use Rattle.fleet_coordinator.specs.declared.polling.Turn.{Turn}
use Rattle.fleet_coordinator.proofs.PollFacts as fact
use Rattle.fleet_coordinator.proofs.ShownViews.{all_known, same_segments, stored_flushes}
use Rattle.fleet_coordinator.proofs.Submits.{marked}

-- ---- tables

-- A table that was put has rows, in order.
table_there : (tables : Tables) (id : ℕ) → AllByRecursion (λ table. IsTable table.1) tables → IsTrue (is_among tables id) → IsTable (table_rows tables id)
table_there [] id h there = absurd (cc there)
table_there (table ∷ tables) id h there = by (table.0 == id) there (table_there tables id h.1)
  where
    by : (b : Bool) → IsTrue (b || is_among tables id) → (IsTrue (is_among tables id) → IsTable (table_rows tables id)) → IsTable (rows_or_none (cond b (Some table) (find (λ held. held.0 == id) tables)))
    by true there rest = h.0
    by false there rest = rest there

module _ (tables : Tables) (sound : AllByRecursion (λ table. IsTable table.1) tables) where
  handle_known : (handle : SsTableHandle) → IsDescribed tables handle → MatchesTable tables handle
  handle_known handle is =
      let rows = table_rows tables handle.id in
      let table = table_there tables handle.id sound is.put in
      record {
        put = is.put;
        describes = is.describes;
        rising = ap (λ (h : Handle). is_le (key_cmp h.first_key h.last_key)) is.describes ∙ first_up_to_last rows table.some table.ordered;
      }

  trees_known : (core : ManifestCore) → AllByRecursion (NamesTable tables) (views_in core) → TreesMatch tables core
  trees_known core named =
      all_unflat (ViewMatches tables) (λ (t : List ℕ × LsmTreeState). views_of t.1) (trees_with_prefix core)
      (all_to _ _ (views_in core) (λ view there named. record { identity = named.identity; handle = handle_known view.sst named.described }) named)

  jobs_known : (jobs : List JobParts) → AllByRecursion (IsDescribed tables) (flat_map job_handles jobs) → JobsMatch tables jobs
  jobs_known jobs described = all_unflat (MatchesTable tables) job_handles jobs (all_to _ _ (flat_map job_handles jobs) (λ handle there is. handle_known handle is) described)

-- Trees whose tables are as `TreesMatch` says name put tables, and so do jobs.
pub trees_named : (tables : Tables) (core : ManifestCore) → TreesMatch tables core → AllByRecursion (NamesTable tables) (views_in core)
trees_named tables core matched =
    all_flat (NamesTable tables) (λ (t : List ℕ × LsmTreeState). views_of t.1) (trees_with_prefix core)
    (all_to _ _ (trees_with_prefix core) (λ t there views. all_to _ _ (views_of t.1) (λ view one is. record { identity = is.identity; described = record { put = is.handle.put; describes = is.handle.describes } }) views) matched)

pub jobs_described : (tables : Tables) (jobs : List JobParts) → JobsMatch tables jobs → AllByRecursion (IsDescribed tables) (flat_map job_handles jobs)
jobs_described tables jobs matched =
    all_flat (IsDescribed tables) job_handles jobs (all_to _ _ jobs (λ job there handles. all_to _ _ (job_handles job) (λ handle one is. record { put = is.put; describes = is.describes }) handles) matched)

-- ---- prefixes

prefixes_are : (flushes : RunFlushes) (trees : List (List ℕ × LsmTreeState)) → map (λ (t : Segment). t.prefix) (map (segment_of flushes) trees) ≡ map (λ t. t.0) trees
prefixes_are flushes [] = refl
prefixes_are flushes (t ∷ trees) = ap (λ ps. t.0 ∷ ps) (prefixes_are flushes trees)

-- ---- draws

-- Ids that were drawn one after the other are drawn so in the model.
pub world_drew : (moment : ℕ) (ids : List ℕ) (specs : List JobSpec) (old new : StoreView) (at : World) → length ids ≡ length specs → Drew moment ids old new → Rivals old.who new.world at → model.Drew old.who moment (zip ids specs) old.world at
world_drew moment [] [] old new at many same rivals = subst (λ (v : StoreView). Rivals old.who v.world at) same rivals
world_drew moment [] (spec ∷ specs) old new at many drew rivals = absurd (omega (arith, many))
world_drew moment (id ∷ ids) [] old new at many drew rivals = absurd (omega (arith, many))
world_drew moment (id ∷ ids) (spec ∷ specs) old new at many (mid, (draw, rest)) rivals =
    let who = draw.same.who in (
      draw.met,
      (
        draw.rivals,
        (
          draw.ended.1.room,
          (
            draw.ended.0,
            subst (λ (t : World). model.Drew old.who moment (zip ids specs) t at) draw.ended.1.leaves
                (subst (λ (w : Caller). model.Drew w moment (zip ids specs) mid.world at) who
                (world_drew moment ids specs mid new at (omega (arith, many)) rest (subst (λ (w : Caller). Rivals w new.world at) (sym who) rivals))),
          ),
        ),
      ),
    )

pub new_zip : (ids : List ℕ) (specs : List CompactionSpec) → new_specs (zip ids specs) ≡ zip ids (map spec_of specs)
new_zip [] specs = refl
new_zip (id ∷ ids) [] = refl
new_zip (id ∷ ids) (spec ∷ specs) = ap (λ rest. (id, spec_of spec) ∷ rest) (new_zip ids specs)

module _ {A : Type 0} where
  pub zip_all : (P : ℕ → Type 0) (ids : List ℕ) (xs : List A) → AllByRecursion P ids → AllByRecursion (λ d. P d.0) (zip ids xs)
  zip_all P [] xs all = tt
  zip_all P (id ∷ ids) [] all = tt
  zip_all P (id ∷ ids) (x ∷ xs) all = (all.0, zip_all P ids xs all.1)

  pub zip_once : (R S : ℕ → ℕ → Type 0) → ((a b : ℕ) → R a b → S a b) → (ids : List ℕ) (xs : List A) → Pairs R ids → Pairs (λ (a b : ℕ × A). S a.0 b.0) (zip ids xs)
  zip_once R S f [] xs once = tt
  zip_once R S f (id ∷ ids) [] once = tt
  zip_once R S f (id ∷ ids) (x ∷ xs) once = (zip_all (S id) ids xs (all_to _ _ ids (λ other there r. f id other r) once.0), zip_once R S f ids xs once.1)

-- No job has the id of one that no entry mentions, if each job was named.
pub other_ids : (history : List Entry) (ids : List ℕ) (jobs : Jobs) → AllByRecursion (λ (p : ℕ × ⊤). is_mentioned history p.0 ≡ false) (marked ids) → AllByRecursion (λ (job : Job). IsTrue (was_named history job.id)) jobs
    → AllByRecursion (λ id. (job : Job) → IsIn job jobs → id ≡ job.id → ⊥) ids
other_ids history [] jobs fresh named = tt
other_ids history (id ∷ ids) jobs fresh named = (
  λ job there same. refused (was_named history id) (not_named history id fresh.0 (was_named history id) refl)
      (subst (λ n. IsTrue (was_named history n)) (sym same) (all_at (λ (j : Job). IsTrue (was_named history j.id)) jobs job named there)),
  other_ids history ids jobs fresh.1 named,
)

-- ---- the first steps

first_is : (ask : PollAsk) (input : PollInput) → commit_finished input (freed_unless ask.commits_only input (poll_begun input.manifest.trees input.manifest.horizon input.records.jobs)) ≡ first_steps ask input
unfolding committed_poll
first_is ask input = by ask.commits_only
  where
    by : (b : Bool) → commit_finished input (freed_unless b input (poll_begun input.manifest.trees input.manifest.horizon input.records.jobs)) ≡ (if b then committed_poll input else freed_and_committed input)
    by true = refl
    by false = refl

module _ (old mid : StoreView) (s : Scheduler) (options : CompactorOptions) (turn : Turn) (merges : IsLawful old.who.merge) (may : MayPoll old turn.epoch) (got : GotPoll) (g : GetsPoll turn.epoch old mid got) where
  abbrev ask : PollAsk
  ask = ask_of s options turn

  abbrev shown : World
  shown = g.shown

  abbrev found : World
  found = g.found

  abbrev records : Records
  records = records_or_none found.store.records

  abbrev pub input : PollInput
  input = input_of ask found.store.tables shown.store.manifest records

  kept_shown : Keeps old.who.merge shown
  kept_shown = fact.kept_shown old.who turn.epoch may.number old.world shown found merges may.party may.keeps may.holds g.met g.low g.met_next g.records_low

  kept_found : Keeps old.who.merge found
  kept_found = fact.kept_found old.who turn.epoch may.number old.world shown found merges may.party may.keeps may.holds g.met g.low g.met_next g.records_low

  abbrev core : ManifestCore
  core = own_core got.poll.state

  abbrev pub flushes : RunFlushes
  flushes = stored_flushes shown.store.manifest.trees

  trees_are : trees_of flushes core ≡ shown.store.manifest.trees
  trees_are = same_segments flushes (trees_with_prefix core) shown.store.manifest.trees (ap (λ (m : Manifest). m.trees) g.manifest_is) (all_known old.who.merge shown kept_shown)

  jobs_are : jobs_of (own_jobs got.poll.state) ≡ records.jobs
  jobs_are = ap (λ (r : Records). r.jobs) g.records_are

  begins : poll_of flushes got.poll ≡ poll_begun shown.store.manifest.trees shown.store.manifest.horizon records.jobs
  begins =
      let horizon = ap (λ (m : Manifest). m.horizon) g.manifest_is in
      g.begun flushes
      ∙ ap (λ (c : ManifestCore). poll_begun (trees_of flushes c) c.horizon (jobs_of (own_jobs got.poll.state))) g.core_is
      ∙ ap (λ trees. poll_begun trees core.horizon (jobs_of (own_jobs got.poll.state))) trees_are
      ∙ ap (λ h. poll_begun shown.store.manifest.trees h (jobs_of (own_jobs got.poll.state))) horizon
      ∙ ap (poll_begun shown.store.manifest.trees shown.store.manifest.horizon) jobs_are

  -- The model's poll is given what the program's has.
  pub sees_got : Sees input s got.poll.state
  sees_got = record {
    scheduler_is = refl;
    manifest = sym (ap without_trees g.manifest_is);
    version = sym (ap (λ (r : Records). r.version) g.records_are);
    epoch = sym (ap (λ (r : Records). r.epoch) g.records_are);
    prefixes = subst (IsStrictlySortedBy key_cmp) (sym (sym (prefixes_are flushes (trees_with_prefix core)) ∙ ap (map (λ (t : Segment). t.prefix)) trees_are)) kept_shown.stored.sound.prefixes;
    trees = trees_known found.store.tables kept_found.stored.sound.tables core (subst (λ c. AllByRecursion (NamesTable found.store.tables) (views_in c)) g.core_is g.views);
    jobs = jobs_known found.store.tables kept_found.stored.sound.tables (own_jobs got.poll.state) g.described;
  }

  pub stale : SeesStale input options turn.moment
  stale = record { timeout = refl; moment_is = refl }

  pub may_begin : MayBegin s options turn.moment turn.commits_only got.poll
  may_begin = record {
    flushes = flushes;
    input = input;
    sees = sees_got;
    stale = stale;
    stand = subst (λ (p : PollState). CommitsStand input (filter (has_status Compacted) (freed_unless turn.commits_only input p).jobs) (freed_unless turn.commits_only input p)) (sym begins)
        (fact.stand old.who ask may.number old.world shown found merges may.party may.keeps may.holds g.met g.low g.met_next g.records_low turn.commits_only);
  }

  pub none_lost : got.poll.lost ≡ []
  none_lost = ap (λ (p : PollState). p.lost) begins

  pub reached_first : (poll : Poll) → HasReached poll (commit_finished input (freed_unless turn.commits_only input (poll_of flushes got.poll))) → HasReached poll (first_steps ask input)
  reached_first poll reached = subst (HasReached poll) (ap (λ p. commit_finished input (freed_unless turn.commits_only input p)) begins ∙ first_is ask input) reached
