-- What holds of the picks so far, from tree to tree and from pass to pass.
use Rattle.std.proofs.Common.{◌≡◌, ◌≢◌, refl, sym, ◌∙◌, subst, ℕ, zero, suc, ◌<◌, ◌≤◌, arith, List, [], ◌∷◌, ◌++◌, append-nil, length, cond, Bool, true, false}
use Rattle.std.specs.Prelude.{Option, Some, None, IsTrue, nat_lt, flat_map}
use Rattle.std.specs.Option.{option_to_list}
use Rattle.std.specs.List.{AllByRecursion}
use Rattle.row_model.specs.Lists.{Pairs}
use Rattle.fleet_model.specs.Work.Gates.{destination_fits, reserves_nodes}
use Rattle.fleet_model.specs.Jobs.{Jobs, JobSpec, nodes_of}
use Rattle.fleet_model.specs.Nodes.{NodeName, Trees}
use Rattle.fleet_model.specs.Sources.{is_apart}
use Rattle.fleet_model.specs.Invariants.TreesFit.{NoneShared}
use Rattle.sched_model.specs.Picks.{Planned, Picking, fresh_after, next_pick, pass, passes, picked_in, with_pick}
use Rattle.sched_model.specs.Series.{TieredOptions, are_tiered}
use Rattle.sched_model.specs.Sizes.{SizedTree}
use Rattle.sched_laws.specs.Proposals.{AreApart, HasFreeId}
use Rattle.sched_laws.proofs.Holding.{Holds, IsBelow, IsFresh, RisesTo, Uses, fresh_after_is, fresh_grows, held_is_below, holds_after, pick_destination_fits, pick_holds, pick_is_apart, pick_rises}
use Rattle.sched_laws.proofs.Lists.{all_append, all_join, all_weaken, pairs_push}
use Rattle.sched_laws.proofs.Names.{In, apart_back, in_back, in_front}
use Rattle.sched_laws.proofs.Picks.{IsPick, Makes, next_pick_is}
use Rattle.sched_laws.proofs.Trees.{StandsIn}

-- The job is apart from each job that holds nodes.
abbrev pub IsApartFrom : Jobs → JobSpec → Type 0
IsApartFrom jobs spec = AllByRecursion (λ job. IsTrue (reserves_nodes job) → is_apart (nodes_of spec) (nodes_of job.spec) ≡ true) jobs

-- No source is a node of the other job, if that is of the same segment.
abbrev pub SourcesUnused : JobSpec → JobSpec → Type 0
SourcesUnused spec other = other.segment ≡ spec.segment → (x : NodeName) → In x spec.sources → In x (nodes_of other) → ⊥

-- The later job rises above the earlier one, unless one of them has the greatest id.
abbrev pub Rises : JobSpec → JobSpec → Type 0
Rises a b = HasFreeId a → HasFreeId b → RisesTo a b

-- The job was picked in a tree, and takes no source of a job of its segment. Unless its destination is the
-- greatest id, the destination passes rule 7 and rises above those of the jobs, and the job is apart from each
-- job that holds nodes.
pub record Fits (trees : Trees) (jobs : Jobs) (spec : JobSpec) : Type 0 where
  pub tree : Planned
  pub pick : IsPick trees tree spec
  pub destination : HasFreeId spec → destination_fits trees spec.sources spec.destination ≡ true
  pub apart : HasFreeId spec → IsApartFrom jobs spec
  pub unused : AllByRecursion (λ job. SourcesUnused spec job.spec) jobs
  pub above : HasFreeId spec → AllByRecursion (λ job. RisesTo job.spec spec) jobs

-- The picks so far fit, and no two hold the same node. They and the jobs hold their nodes below the fresh
-- id.
pub record IsMidway (trees : Trees) (jobs : Jobs) (p : Picking) : Type 0 where
  pub next : IsFresh trees p.fresh
  pub held : AllByRecursion (λ job. IsTrue (reserves_nodes job) → Holds trees p.fresh job.spec) jobs
  pub holding : AllByRecursion (λ spec. HasFreeId spec → Holds trees p.fresh spec) p.picks
  pub asked : AllByRecursion (λ job. IsBelow p.fresh job.spec) jobs
  pub fit : AllByRecursion (Fits trees jobs) p.picks
  pub apart : Pairs AreApart p.picks
  pub rising : Pairs Rises p.picks

-- The tree stands in the trees, and uses the nodes of the jobs and the picks of its segment.
pub record IsReady (trees : Trees) (jobs : Jobs) (picks : List JobSpec) (t : Planned) : Type 0 where
  pub stand : StandsIn trees t.tree
  pub used_by_jobs : AllByRecursion (λ job. Uses t job.spec) jobs
  pub used_by_picks : AllByRecursion (Uses t) picks

-- Both trees are of different segments.
abbrev pub Differ : Planned → Planned → Type 0
Differ a b = a.tree.segment ≢ b.tree.segment

-- The state after a pass, where the test of the slots is given.
abbrev pub passed : TieredOptions → ℕ → Bool → Planned → List Planned → Picking → List Planned × Picking
passed o slots b t left p =
    cond b (with_pick (next_pick o p.fresh t) t ∷ (pass o slots left (picked_in o t p)).0, (pass o slots left (picked_in o t p)).1) (t ∷ left, p)

-- ---- one pick

-- The picks before a pick, with the next fresh id, and the picks with it.
module _ (trees : Trees) (shared : Pairs NoneShared trees) (jobs : Jobs) (t : Planned) (p : Picking) (midway : IsMidway trees jobs p) (next : ℕ) (fresh : IsFresh trees next)
    (grows : next < 4294967295 → p.fresh ≤ next) (rises : (spec : JobSpec) → Holds trees p.fresh spec → Holds trees next spec) where
  -- What held before a pick holds with the next fresh id.
  pub with_next_id : IsMidway trees jobs (record { fresh = next; picks = p.picks })
  with_next_id = record {
    next = fresh;
    held = all_weaken (λ job. IsTrue (reserves_nodes job) → Holds trees p.fresh job.spec) (λ job. IsTrue (reserves_nodes job) → Holds trees next job.spec) (λ job holds reserves. rises job.spec (holds reserves)) jobs midway.held;
    holding = all_weaken (λ s. HasFreeId s → Holds trees p.fresh s) (λ s. HasFreeId s → Holds trees next s) (λ s holds free. rises s (holds free)) p.picks midway.holding;
    asked = all_weaken (λ job. IsBelow p.fresh job.spec) (λ job. IsBelow next job.spec) (λ job below id to small. let up = grows small in let low : id < p.fresh = below id to (omega (arith, up, small)) in omega (arith, low, up)) jobs midway.asked;
    fit = midway.fit;
    apart = midway.apart;
    rising = midway.rising;
  }

  -- The picks with one more fit.
  pub with_one_more : AllByRecursion (λ job. Uses t job.spec) jobs → AllByRecursion (Uses t) p.picks → (spec : JobSpec) → IsPick trees t spec → Makes p.fresh next spec → IsMidway trees jobs (record { fresh = next; picks = p.picks ++ spec ∷ [] })
  with_one_more used_by_jobs used_by_picks spec pick makes = record {
    next = fresh;
    held = with_next_id.held;
    holding = all_append (λ s. HasFreeId s → Holds trees next s) p.picks (spec ∷ []) with_next_id.holding (λ free. pick_holds trees p.fresh next t spec midway.next pick makes free, tt);
    asked = with_next_id.asked;
    fit = all_append (Fits trees jobs) p.picks (spec ∷ []) midway.fit (
      record {
        tree = t;
        pick = pick;
        destination = λ free. pick_destination_fits trees p.fresh next t spec midway.next pick makes free;
        apart = λ free. all_join (λ job. IsTrue (reserves_nodes job) → Holds trees p.fresh job.spec) (λ job. Uses t job.spec)
            (λ job. IsTrue (reserves_nodes job) → is_apart (nodes_of spec) (nodes_of job.spec) ≡ true)
            (λ job holds uses reserves. pick_is_apart trees p.fresh next t spec midway.next pick makes free shared job.spec (holds reserves) uses) jobs midway.held used_by_jobs;
        unused = all_weaken (λ job. Uses t job.spec) (λ job. SourcesUnused spec job.spec) (λ job uses same x here there. pick.unused x here (uses (same ∙ pick.here) x there)) jobs used_by_jobs;
        above = λ free. all_weaken (λ job. IsBelow p.fresh job.spec) (λ job. RisesTo job.spec spec) (λ job below. pick_rises trees p.fresh next t spec midway.next pick makes free job.spec below) jobs midway.asked;
      },
      tt,
    );
    apart = pairs_push AreApart p.picks spec midway.apart
        (all_join (λ s. HasFreeId s → Holds trees p.fresh s) (Uses t) (λ s. AreApart s spec)
        (λ s holds uses first free. apart_back (nodes_of spec) (nodes_of s) (pick_is_apart trees p.fresh next t spec midway.next pick makes free shared s (holds first) uses))
        p.picks midway.holding used_by_picks);
    rising = pairs_push Rises p.picks spec midway.rising
        (all_weaken (λ s. HasFreeId s → Holds trees p.fresh s) (λ s. Rises s spec)
        (λ s holds first free. pick_rises trees p.fresh next t spec midway.next pick makes free s (held_is_below trees p.fresh next t spec midway.next pick makes free s (holds first))) p.picks midway.holding);
  }

module _ (o : TieredOptions) (tiered : are_tiered o ≡ true) (slots : ℕ) (trees : Trees) (shared : Pairs NoneShared trees) (jobs : Jobs) where
  module _ (t : Planned) (p : Picking) (midway : IsMidway trees jobs p) (ready : IsReady trees jobs p.picks t) where
    -- What held before a pick holds with the next fresh id.
    moved : IsMidway trees jobs (record { fresh = fresh_after o t p.fresh; picks = p.picks })
    moved = with_next_id trees shared jobs t p midway (fresh_after o t p.fresh) (fresh_after_is o t trees p.fresh midway.next) (fresh_grows o t p.fresh) (λ s holds. holds_after o t trees p.fresh s holds)

    none_picked : IsMidway trees jobs (record { fresh = fresh_after o t p.fresh; picks = p.picks ++ [] })
    none_picked = subst (λ (l : List JobSpec). IsMidway trees jobs (record { fresh = fresh_after o t p.fresh; picks = l })) (sym (append-nil p.picks)) moved

    one_picked : (spec : JobSpec) → IsPick trees t spec → Makes p.fresh (fresh_after o t p.fresh) spec → IsMidway trees jobs (record { fresh = fresh_after o t p.fresh; picks = p.picks ++ spec ∷ [] })
    one_picked spec pick makes =
        with_one_more trees shared jobs t p midway (fresh_after o t p.fresh) (fresh_after_is o t trees p.fresh midway.next) (fresh_grows o t p.fresh) (λ s holds. holds_after o t trees p.fresh s holds) ready.used_by_jobs ready.used_by_picks spec pick makes

    -- The picks fit after the next pick in a ready tree.
    picked : IsMidway trees jobs (picked_in o t p)
    picked = by (next_pick o p.fresh t) refl
      where
        by : (pick : Option JobSpec) → next_pick o p.fresh t ≡ pick → IsMidway trees jobs (record { fresh = fresh_after o t p.fresh; picks = p.picks ++ option_to_list pick })
        by None is = none_picked
        by (Some spec) is = let what = next_pick_is o tiered trees p.fresh t ready.stand spec is in one_picked spec what.0 what.1

    used_still : (pick : Option JobSpec) (spec : JobSpec) → Uses t spec → Uses (with_pick pick t) spec
    used_still pick spec uses here x h = in_front x t.used (flat_map nodes_of (option_to_list pick)) (uses here x h)

    -- The tree uses the nodes of its own pick from then on.
    ready_after : IsReady trees jobs (picked_in o t p).picks (with_pick (next_pick o p.fresh t) t)
    ready_after = record {
      stand = ready.stand;
      used_by_jobs = all_weaken (λ job. Uses t job.spec) (λ job. Uses (with_pick (next_pick o p.fresh t) t) job.spec) (λ job uses. used_still (next_pick o p.fresh t) job.spec uses) jobs ready.used_by_jobs;
      used_by_picks = by (next_pick o p.fresh t);
    }
      where
        by : (pick : Option JobSpec) → AllByRecursion (Uses (with_pick pick t)) (p.picks ++ option_to_list pick)
        by None = all_append (Uses (with_pick None t)) p.picks [] (all_weaken (Uses t) (Uses (with_pick None t)) (λ s uses. used_still None s uses) p.picks ready.used_by_picks) tt
        by (Some spec) =
            all_append (Uses (with_pick (Some spec) t)) p.picks (spec ∷ [])
            (all_weaken (Uses t) (Uses (with_pick (Some spec) t)) (λ s uses. used_still (Some spec) s uses) p.picks ready.used_by_picks)
            (λ here x h. in_back x t.used (nodes_of spec ++ []) (in_front x (nodes_of spec) [] h), tt)

    -- A fact of each job of another segment holds of the next pick.
    of_next : (P : JobSpec → Type 0) → ((spec : JobSpec) → spec.segment ≡ t.tree.segment → P spec) → AllByRecursion P p.picks → AllByRecursion P (picked_in o t p).picks
    of_next P each all = all_append P p.picks (option_to_list (next_pick o p.fresh t)) all (by (next_pick o p.fresh t) refl)
      where
        by : (pick : Option JobSpec) → next_pick o p.fresh t ≡ pick → AllByRecursion P (option_to_list pick)
        by None is = tt
        by (Some spec) is = let what = next_pick_is o tiered trees p.fresh t ready.stand spec is in (each spec what.0.here, tt)

  -- A tree of another segment stays ready.
  other_ready : (t : Planned) (p : Picking) → IsMidway trees jobs p → IsReady trees jobs p.picks t → (u : Planned) → Differ t u → IsReady trees jobs p.picks u → IsReady trees jobs (picked_in o t p).picks u
  other_ready t p midway ready u differ now = record {
    stand = now.stand;
    used_by_jobs = now.used_by_jobs;
    used_by_picks = of_next t p midway ready (Uses u) (λ spec here there. absurd (differ (sym here ∙ there))) now.used_by_picks;
  }

  -- ---- one pass

  -- A pass leaves the nodes of the trees.
  same_trees : (P : SizedTree → Type 0) (left : List Planned) (p : Picking) → AllByRecursion (λ t. P t.tree) left → AllByRecursion (λ t. P t.tree) (pass o slots left p).0
  same_trees P [] p all = tt
  same_trees P (t ∷ left) p all = by (nat_lt (length p.picks) slots) (same_trees P left (picked_in o t p) all.1)
    where
      by : (b : Bool) → AllByRecursion (λ u. P u.tree) (pass o slots left (picked_in o t p)).0 → AllByRecursion (λ u. P u.tree) (passed o slots b t left p).0
      by true later = (all.0, later)
      by false later = all

  still_differ : (left : List Planned) (p : Picking) → Pairs Differ left → Pairs Differ (pass o slots left p).0
  still_differ [] p differ = tt
  still_differ (t ∷ left) p differ = by (nat_lt (length p.picks) slots) (still_differ left (picked_in o t p) differ.1)
    where
      by : (b : Bool) → Pairs Differ (pass o slots left (picked_in o t p)).0 → Pairs Differ (passed o slots b t left p).0
      by true later = (same_trees (λ tree. t.tree.segment ≢ tree.segment) left (picked_in o t p) differ.0, later)
      by false later = differ

  -- What holds after a pass.
  record IsPassed (result : List Planned × Picking) : Type 0 where
    midway : IsMidway trees jobs result.1
    ready : AllByRecursion (IsReady trees jobs result.1.picks) result.0

  -- A tree that is not in the pass stays ready.
  module _ (u : Planned) where
    stays_ready : (left : List Planned) (p : Picking) → AllByRecursion (Differ u) left → Pairs Differ left → IsMidway trees jobs p → AllByRecursion (IsReady trees jobs p.picks) left
        → IsReady trees jobs p.picks u → IsReady trees jobs (pass o slots left p).1.picks u
    stays_ready [] p others differ midway ready now = now
    stays_ready (t ∷ left) p others differ midway ready now =
        by (nat_lt (length p.picks) slots)
        (stays_ready left (picked_in o t p) others.1 differ.1 (picked t p midway ready.0)
        (all_join (Differ t) (IsReady trees jobs p.picks) (IsReady trees jobs (picked_in o t p).picks) (λ v away now. other_ready t p midway ready.0 v away now) left differ.0 ready.1)
        (other_ready t p midway ready.0 u (λ same. others.0 (sym same)) now))
      where
        by : (b : Bool) → IsReady trees jobs (pass o slots left (picked_in o t p)).1.picks u → IsReady trees jobs (passed o slots b t left p).1.picks u
        by true later = later
        by false later = now

  -- One pass keeps what holds of the picks so far, and leaves trees that are ready for the next pass.
  pass_keeps : (left : List Planned) (p : Picking) → Pairs Differ left → IsMidway trees jobs p → AllByRecursion (IsReady trees jobs p.picks) left → IsPassed (pass o slots left p)
  pass_keeps [] p differ midway ready = record { midway = midway; ready = tt }
  pass_keeps (t ∷ left) p differ midway ready =
      by (nat_lt (length p.picks) slots) (pass_keeps left (picked_in o t p) differ.1 after others)
      (stays_ready (with_pick (next_pick o p.fresh t) t) left (picked_in o t p) differ.0 differ.1 after others (ready_after t p midway ready.0))
    where
      after : IsMidway trees jobs (picked_in o t p)
      after = picked t p midway ready.0

      others : AllByRecursion (IsReady trees jobs (picked_in o t p).picks) left
      others = all_join (Differ t) (IsReady trees jobs p.picks) (IsReady trees jobs (picked_in o t p).picks) (λ v away now. other_ready t p midway ready.0 v away now) left differ.0 ready.1

      by : (b : Bool) → IsPassed (pass o slots left (picked_in o t p)) → IsReady trees jobs (pass o slots left (picked_in o t p)).1.picks (with_pick (next_pick o p.fresh t) t) → IsPassed (passed o slots b t left p)
      by true later mine = record { midway = later.midway; ready = (mine, later.ready) }
      by false later mine = record { midway = midway; ready = ready }

  -- What holds of all picks.
  pub passes_keep : (count : ℕ) (left : List Planned) (p : Picking) → Pairs Differ left → IsMidway trees jobs p → AllByRecursion (IsReady trees jobs p.picks) left
      → AllByRecursion (Fits trees jobs) (passes o slots count left p) × Pairs AreApart (passes o slots count left p) × Pairs Rises (passes o slots count left p)
  passes_keep zero left p differ midway ready = (midway.fit, midway.apart, midway.rising)
  passes_keep (suc count) left p differ midway ready =
      let after = pass_keeps left p differ midway ready in
      passes_keep count (pass o slots left p).0 (pass o slots left p).1 (still_differ left p differ) after.midway after.ready
