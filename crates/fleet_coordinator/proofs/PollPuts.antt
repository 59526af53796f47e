-- The puts of a poll.
use Rattle.std.proofs.Common.{◌≡◌, refl, sym, ◌∙◌, ap, subst, ℕ, List, [], ◌∷◌, ◌++◌, cond, map, Bool, true, false, Some, None, Result, Ok, Err}
use Rattle.std.specs.List.{AllByRecursion}
use Rattle.fleet_model.specs.Exchanges.{PutsManifest}
use Rattle.fleet_model.specs.History as history
use Rattle.fleet_model.specs.Store.{Manifest}
use Rattle.fleet_model.specs.Work.PollStates.{PollState}
use Rattle.step_model.specs.Courses.Course.{Course, Calls, puts_manifest}
use Rattle.step_model.specs.Courses.CourseRuns.{IsLawfulCourse}
use Rattle.step_model.specs.Courses.StepEnds.{StepEnd, Reports, most_refused}
use Rattle.step_model.specs.Lawful.{Lawful}
use Rattle.step_model.specs.LawfulManifests.{ManifestFits}
use Rattle.step_model.specs.LawfulRecords.{OfSome}
use Rattle.step_model.specs.Past.{World}
use Rattle.step_model.specs.Rivals.{Caller, Rivals}
use Rattle.step_model.specs.Steps.PollSteps.{is_unchanged, puts_polled}
use Rattle.step_model.specs.Views.{StoreView}
use Rattle.step_laws.proofs.Elements.{all_to}
use Rattle.step_laws.proofs.Later.{rivals_later}
use Rattle.fleet_rows.specs.declared.errors.SlateDBError.{SlateDBError}
use Rattle.fleet_rows.specs.declared.errors.SlateDBError.TheVariants as error
use Rattle.fleet_tree.specs.Manifests.{manifest_of}
use Rattle.fleet_tree.specs.Trees.{RunFlushes, flush_node, run_node, segment_of, trees_of, trees_with_prefix}
use Rattle.fleet_tree.specs.Views.{View}
use Rattle.fleet_tree.specs.declared.manifest.Manifest as own
use Rattle.fleet_tree.specs.declared.manifest.ManifestCore.{ManifestCore}
use Rattle.fleet_tree.specs.declared.run.SortedRun.{SortedRun}
use Rattle.fleet_tree.specs.declared.tree.LsmTreeState.{LsmTreeState}
use Rattle.fleet_book.specs.States.{own_jobs}
use Rattle.fleet_book.specs.declared.compactions.Compactions.{Compactions}
use Rattle.fleet_history.specs.Changes.{manifest_change_of, step_of}
use Rattle.fleet_jobs.specs.Parts.JobParts.{JobParts}
use Rattle.fleet_store.specs.Asks as asks
use Rattle.fleet_store.specs.Asks.{ManifestPutFits}
use Rattle.fleet_store.specs.Handles.{NamesTable}
use Rattle.fleet_store.specs.Manifests.{bare_node, bare_segment, changed_trees, spec_in, views_in}
use Rattle.fleet_store.specs.Records.{DescribeTables}
use Rattle.fleet_store.proofs.Later.{got_stays, still_describe}
use Rattle.fleet_step.specs.Steps.{Leads, RunsTo, StepRan, refused_at}
use Rattle.fleet_step.proofs.Steps.{begins, then_leads, then_ran}
use Rattle.fleet_step.proofs.Turns.{AreAlike, manifest_put_fails, manifest_put_leads, manifest_then}
use Rattle.fleet_poll.specs.Made.{own_core}
use Rattle.fleet_poll.specs.Polls.{poll_of}
use Rattle.fleet_poll.specs.declared.poll.Poll.{Poll}
use Rattle.fleet_change.specs.Same.{HasTreesOf}
use Rattle.fleet_coordinator.specs.Polling.{Fails, IsCommit, MayPut, TriesPoll, as_tried, puts_of}
use Rattle.fleet_coordinator.specs.Recording.{got_with}
use Rattle.fleet_coordinator.specs.declared.polling.CommitPut.{CommitPut}
use Rattle.fleet_coordinator.proofs.PollGets.{lacks_memory}
use Rattle.fleet_coordinator.proofs.PutsAlike.{other_trees}
use Rattle.fleet_coordinator.proofs.RecordPuts.{same_error, same_got}

-- ---- flushes of runs

-- Bare trees are the same whichever flushes went into the runs.
module _ (flushes others : RunFlushes) where
  bare_runs : (f g : ℕ → List ℕ) (runs : List SortedRun) → map bare_node (map (run_node f) runs) ≡ map bare_node (map (run_node g) runs)
  bare_runs f g [] = refl
  bare_runs f g (run ∷ runs) = ap (λ nodes. bare_node (run_node f run) ∷ nodes) (bare_runs f g runs)

  bare_nodes : (f g : ℕ → List ℕ) (views : List View) (runs : List SortedRun) → map bare_node (map (flush_node f) views ++ map (run_node f) runs) ≡ map bare_node (map (flush_node g) views ++ map (run_node g) runs)
  bare_nodes f g [] runs = bare_runs f g runs
  bare_nodes f g (view ∷ views) runs = ap (λ nodes. bare_node (flush_node f view) ∷ nodes) (bare_nodes f g views runs)

  bare_trees : (trees : List (List ℕ × LsmTreeState)) → map bare_segment (map (segment_of flushes) trees) ≡ map bare_segment (map (segment_of others) trees)
  bare_trees [] = refl
  bare_trees (t ∷ trees) =
      ap (λ tree. record { prefix = t.0; tree = tree; last_seq = t.1.last_seq; watermark = t.1.last_compacted_l0_sst_view_id } ∷ map bare_segment (map (segment_of flushes) trees)) (bare_nodes (flushes t.0) (others t.0) t.1.l0 t.1.compacted)
      ∙ ap (λ rest. bare_segment (segment_of others t) ∷ rest) (bare_trees trees)

-- ---- the puts

module _ {old : StoreView} {poll : Poll} {core : ManifestCore} {epoch got left seen : ℕ} (may : MayPut old poll core epoch got left seen) where
  abbrev p : PollState
  p = poll_of may.flushes poll

  abbrev put_records : (left seen : ℕ) → Course (StepEnd PollState)
  put_records left seen = puts_polled epoch p may.records left seen

  -- The puts of the records are lawful and end the poll, whichever flushes went into the runs.
  module _ (view : StoreView) (more from : ℕ) (lead : Leads (puts_of may) old (put_records more from) view) where
    as_recorded : (flushes : RunFlushes) → puts_polled epoch (poll_of flushes poll) may.records more from ≡ puts_polled epoch (poll_of flushes poll) (got_with poll got) more from
    as_recorded flushes = same_got epoch (poll_of flushes poll) may.records (got_with poll got) more from (sym may.version) (sym may.epoch_is)

    pub records_lawful : (flushes : RunFlushes) → IsLawfulCourse view.who view.world (puts_polled epoch (poll_of flushes poll) (got_with poll got) more from)
    records_lawful flushes =
        subst (IsLawfulCourse view.who view.world) (as_recorded flushes)
        (other_trees view.who epoch (trees_of flushes (own_core poll.state)) more p may.records from view.world (subst (λ (w : Caller). IsLawfulCourse w view.world (put_records more from)) (sym lead.same.who) (lead.lawful may.lawful)))

    pub records_described : DescribeTables (own_jobs poll.state) view.world.store
    records_described = still_describe old.world.store view.world.store lead.later (own_jobs poll.state) may.described

    pub recorded : (new : StoreView) (result : Result Poll SlateDBError)
        → ((flushes : RunFlushes) → StepRan (λ poll. Reports (poll_of flushes poll)) (puts_polled epoch (poll_of flushes poll) (got_with poll got) more from) view new result) → TriesPoll (puts_of may) may.again old new (as_tried result)
    recorded new result ran = by result (then_ran (λ poll. Reports (poll_of may.flushes poll)) (subst (λ rest. Leads (puts_of may) old rest view) (as_recorded may.flushes) lead) (ran may.flushes))
      where
        by : (result : Result Poll SlateDBError) → StepRan (λ poll. Reports (poll_of may.flushes poll)) (puts_of may) old new result → TriesPoll (puts_of may) may.again old new (as_tried result)
        by (Ok done) ran = record { flushes = may.flushes; ran = ran }
        by (Err e) ran = record { to_end = subst (OfSome (RunsTo (puts_of may) old new)) (same_error (λ (poll : Poll). Reports (poll_of may.flushes poll)) Reports e) ran.to_end }

  -- What the program compares is what the model does.
  pub unchanged_by : (now : ManifestCore) → now ≡ own_core poll.state → (result b : Bool)
      → ((flushes : RunFlushes) (manifest : Manifest) (p : PollState) → HasTreesOf core manifest → p.trees ≡ trees_of flushes now → p.horizon ≡ now.horizon → result ≡ is_unchanged manifest p)
      → result ≡ b → is_unchanged may.manifest p ≡ b
  unchanged_by now same result b compares answer = sym (compares may.flushes may.manifest p may.got_is (ap (trees_of may.flushes) (sym same)) (ap (λ (c : ManifestCore). c.horizon) (sym same))) ∙ answer

  -- A poll that changed no tree puts the records at once.
  pub at_records : is_unchanged may.manifest p ≡ true → Leads (puts_of may) old (put_records left seen) old
  at_records same =
      subst (λ rest. Leads (puts_of may) old rest old)
      (ap (λ b. cond b (put_records left seen) (puts_manifest may.manifest.version (history.Commit p.steps) (record may.manifest { trees = p.trees; horizon = p.horizon }) (put_records most_refused 0) may.again)) same)
      (begins (puts_of may) old)

  -- Memory runs out before the put of the manifest.
  pub lacks_commit : Fails (puts_of may) old old error.Memory
  lacks_commit = lacks_memory (begins (puts_of may) old)

  -- ---- the put of the manifest

  abbrev meant : Manifest
  meant = record may.manifest { trees = p.trees; horizon = p.horizon }

  version_is : may.manifest.version ≡ poll.state.manifest.id
  version_is = ap (λ (m : Manifest). m.version) may.rest_is

  module _ (changed : is_unchanged may.manifest p ≡ false) (put : CommitPut) (is : IsCommit poll put) where
    abbrev jobs : List JobParts
    jobs = put.jobs.value.jobs

    jobs_are : jobs ≡ own_jobs poll.state
    jobs_are = ap (λ (c : Compactions). c.jobs) is.jobs

    at : may.manifest.version ≡ put.version
    at = version_is ∙ sym is.at

    makes : (met : World) → Rivals old.who old.world met → put.version ≡ met.store.manifest.version → p.trees ≡ changed_trees (spec_in jobs) (manifest_change_of put.why) met.store
    makes met rivals same =
        may.makes met rivals (at ∙ same)
        ∙ ap (λ js. changed_trees (spec_in js) (history.Commit (map step_of poll.steps)) met.store) (sym jobs_are)
        ∙ ap (λ why. changed_trees (spec_in jobs) (manifest_change_of why) met.store) (sym is.why)

    -- The manifest that is put and the model's are alike wherever its version is stored.
    alike : (met : World) → Rivals old.who old.world met → AreAlike put.version put.value put.why jobs meant met.store
    alike met rivals same =
        let trees = changed_trees (spec_in jobs) (manifest_change_of put.why) met.store in
        (λ i. record (manifest_of (λ prefix run. []) (is.at i) (is.value i).compactor_epoch (is.value i).core) { trees = trees })
        ∙ ap (λ (m : Manifest). record m { trees = trees; horizon = (own_core poll.state).horizon }) (sym may.rest_is)
        ∙ ap (λ ts. record may.manifest { trees = ts; horizon = (own_core poll.state).horizon }) (sym (makes met rivals same))

    abbrev next : Course (StepEnd PollState)
    next = put_records most_refused 0

    abbrev commits : Course (StepEnd PollState)
    commits = Calls (PutsManifest put.version (manifest_change_of put.why) meant) (manifest_then put.version next may.again)

    at_commit : Leads (puts_of may) old commits old
    at_commit =
        subst (λ rest. Leads (puts_of may) old rest old)
        (ap (λ b. cond b (put_records left seen) (puts_manifest may.manifest.version (history.Commit p.steps) meant next may.again)) changed
        ∙ ap (λ v. Calls (PutsManifest v (history.Commit p.steps) meant) (manifest_then v next may.again)) at
        ∙ ap (λ why. Calls (PutsManifest put.version (manifest_change_of why) meant) (manifest_then put.version next may.again)) (sym is.why))
        (begins (puts_of may) old)

    pub commit_fits : ManifestPutFits old put.version put.value put.why jobs
    commit_fits = record {
      lawful = λ met rivals same.
          let course : Lawful old.who.merge old.who.party met (PutsManifest put.version (manifest_change_of put.why) meant) = (at_commit.lawful may.lawful met rivals tt).0 in
          subst (λ v. ManifestFits old.who.party met (manifest_change_of put.why) v) (sym (alike met rivals same)) (course same);
      shown = λ met rivals same. record {
        same = (λ i. map bare_segment (trees_of (λ prefix run. []) (is.value i).core)) ∙ bare_trees (λ prefix run. []) may.flushes (trees_with_prefix (own_core poll.state)) ∙ ap (map bare_segment) (makes met rivals same);
        views = subst (λ (v : own.Manifest). AllByRecursion (NamesTable met.store.tables) (views_in v.core)) (sym is.value)
            (all_to _ _ (views_in (own_core poll.state)) (λ view there named. (got_stays old.world.store met.store (rivals_later old.who old.world met rivals)).view view named) may.views);
      };
    }

    module _ (new : StoreView) (made : Result ℕ SlateDBError) (puts : asks.PutsManifest old new put.version put.value put.why jobs made) where
      pub commit_done : (n : ℕ) → made ≡ Ok n → Leads (puts_of may) old next new
      commit_done n same =
          then_leads at_commit (manifest_put_leads put.version put.value put.why jobs meant alike next may.again n (subst (asks.PutsManifest old new put.version put.value put.why jobs) same puts))

      pub commit_refused : (version : ℕ) → refused_at made ≡ Some version → Leads (puts_of may) old (may.again version) new
      commit_refused version refused = by made puts refused
        where
          by : (made : Result ℕ SlateDBError) → asks.PutsManifest old new put.version put.value put.why jobs made → refused_at made ≡ Some version → Leads (puts_of may) old (may.again version) new
          by (Ok n) puts refused = absurd (cc refused)
          by (Err e) puts refused =
              then_leads at_commit ((manifest_put_fails put.version put.value put.why jobs meant alike next may.again {A = PollState} Reports e puts).refused version refused)

      pub commit_failed : (e : SlateDBError) → made ≡ Err e → refused_at made ≡ None → Fails (puts_of may) old new e
      commit_failed e same none =
          then_ran Reports at_commit
          ((manifest_put_fails put.version put.value put.why jobs meant alike next may.again {A = PollState} Reports e (subst (asks.PutsManifest old new put.version put.value put.why jobs) same puts)).ended
          (subst (λ (m : Result ℕ SlateDBError). refused_at m ≡ None) same none))
