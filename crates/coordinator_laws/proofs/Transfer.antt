-- The trees that a coordinator got keep what is kept in the midst of a commit, as calls of others go on: so its poll may be judged by them, though
-- flushes came since.
use Rattle.std.proofs.Common.{◌≡◌, refl, sym, ◌∙◌, subst, ℕ, List, [], ◌∷◌, ◌++◌, Bool, true, false, inl, inr, ◌⊎◌}
use Rattle.std.specs.Prelude.{IsTrue, ◌||◌, flat_map}
use Rattle.std.specs.List.{AllByRecursion}
use Rattle.row_model.specs.Fold.{Operator}
use Rattle.row_model.specs.Rows.{Row}
use Rattle.fleet_model.specs.Nodes.{Segment, Trees, names, is_among}
use Rattle.fleet_model.specs.Jobs.{Job, Scheduled, Running, Compacted, status_eq, has_status, contains}
use Rattle.fleet_model.specs.History.{Party, ManifestChange, ManifestEpoch, Flush, Commit, Entry}
use Rattle.fleet_model.specs.Store.{Manifest, Store, stored_jobs, is_held}
use Rattle.fleet_model.specs.Handles.{tree_tables}
use Rattle.fleet_model.specs.Work.Gates.{reserves_nodes}
use Rattle.fleet_model.specs.Invariants.JobsFit.{SourcesStand, was_joined}
use Rattle.fleet_model.specs.Exchanges.{Exchange}
use Rattle.step_model.specs.Past.{World}
use Rattle.step_model.specs.LawfulTables.{was_piece}
use Rattle.step_model.specs.LawfulManifests.{ManifestFits}
use Rattle.step_model.specs.Kept.JoinsKept.{JoinStands, Gone, NotEmpty, Itself}
use Rattle.step_model.specs.Rivals.{Caller, RivalCall, RivalsFrom, Rivals, after_rival, is_deletion}
use Rattle.step_model.specs.Kept.Keeps.{Keeps}
use Rattle.step_laws.proofs.Elements.{IsIn, all_at, all_from, all_to, any_front, all_true_front, all_true_from, in_contains}
use Rattle.step_laws.proofs.Bodies.{Body, JobKept, whole_of}
use Rattle.step_laws.proofs.FlushFollows.{reads_fewer}
use Rattle.step_laws.proofs.Grown.{piece_grows, flush_grows, passed_grows}
use Rattle.step_laws.proofs.Held.{are_put, held_grows, among_grows}
use Rattle.step_laws.proofs.ManifestEpochs.{not_stored}
use Rattle.step_laws.proofs.TableBodies.{NodePut, tree_stays, reads_stay}
use Rattle.rival_laws.proofs.Outcomes.{Outcome, Notes, Deletes, NewTable, NewManifest, NewRecords, outcome, put_manifest}
use Rattle.commit_laws.proofs.TreeReads.{with_horizon}
use Rattle.commit_laws.proofs.Segments.{SegmentFits}
use Rattle.commit_laws.proofs.StepTrees.{TreesKept}
use Rattle.commit_laws.proofs.JobSteps.{JobHolds}
use Rattle.commit_laws.proofs.Midway.{Midway}
use Rattle.coordinator_laws.proofs.Jobs.{IsSubmitted}
use Rattle.coordinator_laws.proofs.Quiet.{JobMoves, Stays, Goes, MovedJob, Quiet}
use Rattle.step_laws.proofs.OpenJobs.{open_not_late}
use Rattle.coordinator_laws.proofs.Statuses.{submitted_compacted, open_cases, holds_cases}
use Rattle.commit_laws.proofs.AtOnce.{submitted_free}
use Rattle.rival_laws.proofs.FreeTables.{refused}

-- ---- what is kept of the trees, call by call

entry_on : (merge : Operator) (store : Store) (history : List Entry) (entry : Entry) (s : Segment) → SegmentFits merge store history s → SegmentFits merge store (history ++ entry ∷ []) s
entry_on merge store history entry s f = record {
  tree = f.tree;
  pieces = f.pieces;
  flushes = f.flushes;
  reads = f.reads;
  known = all_to _ _ s.tree (λ node there all. all_to _ _ node.pieces (λ id one known. piece_grows history entry id known) all) f.known;
  flushed = all_to _ _ s.tree (λ node there is. flush_grows history entry node node.name is) f.flushed;
  passed = passed_grows history entry (names s.tree) s.watermark f.passed;
}

-- Trees that are kept, segment by segment.
trees_to : (merge : Operator) (old new : Store) (before after : List Entry) (trees : Trees) → ((s : Segment) → SegmentFits merge old before s → SegmentFits merge new after s) → TreesKept merge old before trees → TreesKept merge new after trees
trees_to merge old new before after trees f k = record { root = k.root; rise = k.rise; each = all_to _ _ trees (λ s there fits. f s fits) k.each; apart = k.apart; tables = k.tables }

-- A segment that fits still fits with one more table in the store.
table_on : (merge : Operator) (store : Store) (history : List Entry) (new : ℕ × List Row) (s : Segment) → SegmentFits merge store history s → SegmentFits merge (record store { tables = store.tables ++ new ∷ [] }) history s
table_on merge store history new s f = record {
  tree = tree_stays store.tables new s put f.tree;
  pieces = all_to _ _ s.tree (λ node there held. all_true_from (is_held (record store { tables = store.tables ++ new ∷ [] })) node.pieces (all_to _ _ node.pieces (λ id one it. held_grows store new id it) (all_true_front (is_held store) node.pieces held))) f.pieces;
  flushes = all_to _ _ s.tree (λ node there was. all_true_from (is_among (store.tables ++ new ∷ [])) node.flushes (all_to _ _ node.flushes (λ id one it. among_grows store.tables new id it) (all_true_front (is_among store.tables) node.flushes was))) f.flushes;
  reads = reads_stay merge store new s.tree put f.reads;
  known = f.known;
  flushed = f.flushed;
  passed = f.passed;
}
  where
    put : AllByRecursion (NodePut store.tables) s.tree
    put = all_from _ s.tree (λ node there. record { pieces = are_put store node.pieces (all_at _ s.tree node f.pieces there); flushes = all_at _ s.tree node f.flushes there })

-- A segment that fits still fits after a lawful change of the manifest, under the same horizon.
manifest_on : (merge : Operator) (world : World) (party : Party) (change : ManifestChange) (value : Manifest) (horizon : ℕ) (history : List Entry) (s : Segment) → ManifestFits party world change value → SegmentFits merge (with_horizon world.store horizon) history s
    → SegmentFits merge (with_horizon (record world.store { manifest = put_manifest world value }) horizon) history s
manifest_on merge world party (ManifestEpoch epoch) value horizon history s fits f =
    subst (λ (m : Manifest). SegmentFits merge (with_horizon (record world.store { manifest = put_manifest world m }) horizon) history s) (sym fits.makes)
    (record { tree = f.tree; pieces = f.pieces; flushes = f.flushes; reads = f.reads; known = f.known; flushed = f.flushed; passed = f.passed })
manifest_on merge world party (Flush name segment floor tick) value horizon history s fits f =
    subst (λ (m : Manifest). SegmentFits merge (with_horizon (record world.store { manifest = put_manifest world m }) horizon) history s) (sym fits.makes) (record {
      tree = f.tree;
      pieces = f.pieces;
      flushes = f.flushes;
      reads = reads_fewer merge (with_horizon world.store horizon) (record world.store.manifest { horizon = horizon; tick = tick }) s.tree refl fits.tick_stays f.reads;
      known = f.known;
      flushed = f.flushed;
      passed = f.passed;
    })
manifest_on merge world party (Commit steps) value horizon history s fits f =
    subst (λ (m : Manifest). SegmentFits merge (with_horizon (record world.store { manifest = put_manifest world m }) horizon) history s) (sym fits.makes)
    (record { tree = f.tree; pieces = f.pieces; flushes = f.flushes; reads = f.reads; known = f.known; flushed = f.flushed; passed = f.passed })

-- These trees are kept.
abbrev pub AreKept : Operator → Trees → ℕ → World → Type 0
AreKept merge trees horizon world = TreesKept merge (with_horizon world.store horizon) world.store.history trees

-- Trees that are kept stay so after a lawful call of any party that deletes nothing.
pub kept_outcome : (merge : Operator) (trees : Trees) (horizon : ℕ) (world new : World) (party : Party) (x : Exchange) → is_deletion x ≡ false → Outcome merge party world x new → AreKept merge trees horizon world → AreKept merge trees horizon new
kept_outcome merge trees horizon world new party x spares (Notes jobs_drawn tables_drawn entry mute is) k =
    subst (AreKept merge trees horizon) (sym is) (trees_to merge (with_horizon world.store horizon) _ world.store.history _ trees (λ s f.
    let g = entry_on merge (with_horizon world.store horizon) world.store.history entry s f in
    record { tree = g.tree; pieces = g.pieces; flushes = g.flushes; reads = g.reads; known = g.known; flushed = g.flushed; passed = g.passed }) k)
kept_outcome merge trees horizon world new party x spares (Deletes table entry same mute fits is) k = absurd (never (subst (λ y. is_deletion y ≡ false) same spares))
  where
    never : true ≡ false → ⊥
    never e = absurd (cc e)
kept_outcome merge trees horizon world new party x spares (NewTable table rows entry mute fits is) k =
    subst (AreKept merge trees horizon) (sym is) (trees_to merge (with_horizon world.store horizon) _ world.store.history _ trees (λ s f.
    let g = entry_on merge (record (with_horizon world.store horizon) { tables = world.store.tables ++ (table, rows) ∷ [] }) world.store.history entry s (table_on merge (with_horizon world.store horizon) world.store.history (table, rows) s f) in
    record { tree = g.tree; pieces = g.pieces; flushes = g.flushes; reads = g.reads; known = g.known; flushed = g.flushed; passed = g.passed }) k)
kept_outcome merge trees horizon world new party x spares (NewManifest version change value line answer took same fits is) k =
    subst (AreKept merge trees horizon) (sym is) (trees_to merge (with_horizon world.store horizon) _ world.store.history _ trees (λ s f.
    let g = entry_on merge (with_horizon (record world.store { manifest = put_manifest world value }) horizon) world.store.history _ s (manifest_on merge world party change value horizon world.store.history s fits f) in
    record { tree = g.tree; pieces = g.pieces; flushes = g.flushes; reads = g.reads; known = g.known; flushed = g.flushed; passed = g.passed }) k)
kept_outcome merge trees horizon world new party x spares (NewRecords change epoch jobs line answer took names fits is) k =
    subst (AreKept merge trees horizon) (sym is) (trees_to merge (with_horizon world.store horizon) _ world.store.history _ trees (λ s f.
    let g = entry_on merge (with_horizon world.store horizon) world.store.history _ s f in
    record { tree = g.tree; pieces = g.pieces; flushes = g.flushes; reads = g.reads; known = g.known; flushed = g.flushed; passed = g.passed }) k)

kept_from : (who : Caller) (trees : Trees) (horizon : ℕ) (calls : List RivalCall) (old new : World) → RivalsFrom who calls old new → AreKept who.merge trees horizon old → AreKept who.merge trees horizon new
kept_from who trees horizon [] old new same k = subst (AreKept who.merge trees horizon) same k
kept_from who trees horizon (call ∷ calls) old new lead k = kept_from who trees horizon calls (after_rival call old) new lead.1
    (kept_outcome who.merge trees horizon old (after_rival call old) call.party call.exchange lead.0.deletes_none (outcome who.merge call.exchange call.line call.party call.strike old lead.0.lawful lead.0.strike) k)

pub rivals_kept : (who : Caller) (trees : Trees) (horizon : ℕ) (old new : World) → Rivals who old new → AreKept who.merge trees horizon old → AreKept who.merge trees horizon new
rivals_kept who trees horizon old new rivals k = kept_from who trees horizon rivals.calls old new rivals.lead k

-- ---- the jobs beside them

joins_past : (past more : List Manifest) (trees : Trees) (job : Job) → JoinStands past trees job → JoinStands (past ++ more) trees job
joins_past past more trees job (Gone table there gone) = Gone table there (any_front (λ (m : Manifest). contains (flat_map tree_tables m.trees) table) past more gone.0, gone.1)
joins_past past more trees job (NotEmpty run there other none some) = NotEmpty run there other none some
joins_past past more trees job (Itself run sources destination none empty) = Itself run sources destination none empty

same_stands : (trees : Trees) (old new : Job) → new.spec ≡ old.spec → new.source_tables ≡ old.source_tables → SourcesStand trees old → SourcesStand trees new
same_stands trees old new spec tables h = record { some = rw spec h.some; stretch = rw spec h.stretch; source_tables = rw (spec, tables) h.source_tables; destination = rw spec h.destination }

-- The trees that a coordinator got are kept as in the midst of a commit, if calls since were quiet.
pub midway_from : (merge : Operator) (m u : World) → Keeps merge m → Quiet m u → AreKept merge m.store.manifest.trees m.store.manifest.horizon u → Midway merge u m.store.manifest.trees m.store.manifest.horizon []
midway_from merge m u k q kept = record { kept = kept; jobs = all_from _ (stored_jobs u.store) (λ s there. holds s (q.jobs.from s there)) }
  where
    b : Body merge m k.stored.replay.specs
    b = (whole_of merge m k).body

    old_kept : (job : Job) → IsIn job (stored_jobs m.store) → JobKept merge m k.stored.replay.specs job
    old_kept job there = all_at (JobKept merge m k.stored.replay.specs) (stored_jobs m.store) job b.jobs there

    -- A job that holds nodes and that no commit joined stands on the trees.
    old_stands : (job : Job) → IsIn job (stored_jobs m.store) → IsTrue (reserves_nodes job) → was_joined m.store.history job.id ≡ false → SourcesStand m.store.manifest.trees job
    old_stands job there holds unjoined = by (holds_cases job.status holds)
      where
        at : IsTrue (was_joined m.store.history job.id) ⊎ SourcesStand m.store.manifest.trees job → SourcesStand m.store.manifest.trees job
        at (inl was) = absurd (refused (was_joined m.store.history job.id) unjoined was)
        at (inr stand) = stand

        by : IsTrue (status_eq Scheduled job.status || status_eq Running job.status) ⊎ IsTrue (status_eq Compacted job.status) → SourcesStand m.store.manifest.trees job
        by (inl waits) = (old_kept job there).fits.sources.0 waits
        by (inr compacted) = at ((old_kept job there).fits.sources.1 compacted)

    moved_stands : (s : Job) → (f : MovedJob (stored_jobs m.store) s) → IsTrue (reserves_nodes s) → was_joined u.store.history s.id ≡ false → SourcesStand m.store.manifest.trees s
    moved_stands s f holds unjoined = by f.moves
      where
        by : JobMoves f.job s → SourcesStand m.store.manifest.trees s
        by (Stays e) = subst (SourcesStand m.store.manifest.trees) (sym e)
            (old_stands f.job f.there (subst (λ (j : Job). IsTrue (reserves_nodes j)) e holds) (subst (λ (j : Job). was_joined m.store.history j.id ≡ false) e (sym (q.joined s.id) ∙ unjoined)))
        by (Goes was is id spec tables) = same_stands m.store.manifest.trees f.job s spec tables ((old_kept f.job f.there).fits.sources.0 (open_cases f.job.status was))

    past_front : (t : ℕ) → was_piece u.past t ≡ false → was_piece m.past t ≡ false
    past_front t none = by (was_piece m.past t) refl
      where
        by : (c : Bool) → was_piece m.past t ≡ c → was_piece m.past t ≡ false
        by true e = absurd (refused (was_piece u.past t) none (subst (λ past. IsTrue (was_piece past t)) (sym q.past) (any_front (λ (x : Manifest). contains (flat_map tree_tables x.trees) t) m.past q.more e)))
        by false e = e

    unused : (t : ℕ) → was_piece u.past t ≡ false → IsIn t (flat_map tree_tables m.store.manifest.trees) → ⊥
    unused t none there = refused (contains (flat_map tree_tables m.store.manifest.trees) t) (not_stored m.store.manifest m.past t b.past (past_front t none)) (in_contains (flat_map tree_tables m.store.manifest.trees) t there)

    again : (s : Job) → (f : MovedJob (stored_jobs m.store) s) → IsTrue (has_status Compacted s) → was_joined u.store.history s.id ≡ true → JoinStands u.past m.store.manifest.trees s
    again s f compacted was = by f.moves
      where
        past : (job : Job) → JoinStands m.past m.store.manifest.trees job → JoinStands u.past m.store.manifest.trees job
        past job h = subst (λ p. JoinStands p m.store.manifest.trees job) (sym q.past) (joins_past m.past q.more m.store.manifest.trees job h)

        by : JobMoves f.job s → JoinStands u.past m.store.manifest.trees s
        by (Stays e) = subst (JoinStands u.past m.store.manifest.trees) (sym e) (past f.job ((old_kept f.job f.there).facts.stand (subst (λ (j : Job). IsTrue (has_status Compacted j)) e compacted)
            (subst (λ (j : Job). was_joined m.store.history j.id ≡ true) e (sym (q.joined s.id) ∙ was))))
        by (Goes was_open is id spec tables) = absurd (open_not_late f.job.status was_open ((old_kept f.job f.there).facts.late (subst (λ n. was_joined m.store.history n ≡ true) id (sym (q.joined s.id) ∙ was))))

    holds : (s : Job) → MovedJob (stored_jobs m.store) s ⊎ (IsSubmitted s × ((other : Job) → IsIn other (stored_jobs m.store) → other.id ≡ s.id → ⊥)) → JobHolds u m.store.manifest.trees [] s
    holds s (inl f) = record {
      stand = λ reserves undone stand. moved_stands s f reserves undone;
      oldest = λ reserves undone stand last. sym (q.older s (moved_stands s f reserves undone)) ∙ last;
      unused = λ t none active undone named there. unused t none there;
      again = λ compacted done. again s f compacted done;
    }
    holds s (inr new) = record {
      stand = λ reserves undone stand. absurd (submitted_free s.status new.0 reserves);
      oldest = λ reserves undone stand last. absurd (submitted_free s.status new.0 reserves);
      unused = λ t none active undone named there. unused t none there;
      again = λ compacted done. absurd (submitted_compacted s.status new.0 compacted);
    }
