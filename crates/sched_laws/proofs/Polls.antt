-- A poll with one of these schedulers accepts the jobs that it adds.
use Rattle.std.proofs.Common.{◌≡◌, refl, sym, ◌∙◌, ap, subst, ℕ, ◌+◌, ◌-◌, ◌<◌, ◌≤◌, List, [], ◌∷◌, take, drop, cond, Bool, true, false, inl, inr, ◌⊎◌, Option, Some, None, arith, min, eq-eqb, eqb-true}
use Rattle.std.specs.Prelude.{IsTrue, ◌==◌, ◌||◌, ◌&&◌, map, filter, fold, nat_le, count_by, is_some}
use Rattle.std.specs.List.{AllByRecursion, list_all, list_any}
use Rattle.std.proofs.lemmas.Bool.{leb-true}
use Rattle.std.proofs.lemmas.List.{take-append-drop}
use Rattle.row_model.specs.Lists.{Pairs}
use Rattle.row_model.specs.Fold.{Operator}
use Rattle.fleet_model.specs.Work.Gates.{destination_fits, is_nonempty, reserves_nodes}
use Rattle.fleet_model.specs.Jobs.{Compacted, Completed, Failed, Job, JobSpec, Running, Scheduled, Status, Submitted, contains, has_status, ids, is_active, is_drain, is_finished, nodes_of, status_eq}
use Rattle.fleet_model.specs.Invariants.JobsFit.{DestinationFits, NodesHeldOnce, SourcesStand}
use Rattle.fleet_model.specs.Nodes.{Trees, names, segment_at, tree_at}
use Rattle.fleet_model.specs.Work.PollStates.{PollInput, PollState, poll_begun, view_of}
use Rattle.fleet_model.specs.Work.Polls.{add_by, add_drawn, clashes, free_stale}
use Rattle.fleet_model.specs.Work.Records.{firsts, new_job, to_scheduled}
use Rattle.fleet_model.specs.Work.Scheduler.{Scheduler, View, lower}
use Rattle.fleet_model.specs.Sources.{is_apart, is_lowest_or_above, older_nodes, run_ids}
use Rattle.fleet_model.specs.Store.{Manifest, jobs_in}
use Rattle.fleet_model.specs.Trees.{tables_now}
use Rattle.step_model.specs.Steps.PollSteps.{freed_and_committed}
use Rattle.sched_model.specs.Levels.{LevelOptions, are_allowed, level_scheduler}
use Rattle.sched_model.specs.Series.{TieredOptions, are_tiered}
use Rattle.sched_model.specs.SizeTiered.{agree, is_stretch, lowest_run, tiered_scheduler}
use Rattle.step_laws.proofs.Elements.{IsIn, all_at, all_from, in_contains}
use Rattle.step_laws.proofs.Deletions.{in_filter}
use Rattle.step_laws.proofs.NewJobs.{in_put, rise_put}
use Rattle.step_laws.proofs.PollJobs.{submitted_active}
use Rattle.commit_laws.proofs.OtherJobs.{in_filtered}
use Rattle.coordinator_laws.proofs.Gates.{opened_stands}
use Rattle.coordinator_laws.proofs.Stages.{in_pushed, opened_added}
use Rattle.course_laws.proofs.Calls.{pairs_filter}
use Rattle.sched_laws.specs.Polls.{AcceptsItsOwn, AreDrawn, PollStands, polled_state}
use Rattle.sched_laws.specs.Proposals.{AreApart, HasFreeId}
use Rattle.sched_laws.specs.Stores.{store_view}
use Rattle.sched_laws.specs.Views.{ViewStands}
use Rattle.sched_laws.proofs.Gate.{AllFit, fitting_passes, found_stretch, proposals_fit}
use Rattle.sched_laws.proofs.Holding.{RisesTo}
use Rattle.sched_laws.proofs.LevelFits.{levels_fit}
use Rattle.sched_laws.proofs.Lists.{all_front, both_true, pairs_front, true_and}
use Rattle.sched_laws.proofs.Passes.{Fits, Rises, SourcesUnused}
use Rattle.sched_laws.proofs.PollCommits.{AcceptsSound, Committing, IsSound, all_committed, filter_holds, found_at, freed}
use Rattle.sched_laws.proofs.PollOpens.{AreProposed, IsPending, Opening, Origin, WasAdded, WasKnown, all_opened}
use Rattle.sched_laws.proofs.PollTrees.{TreesStand, trees_of_view, view_of_trees}
use Rattle.sched_laws.proofs.Stores.{stored_stand, views_stand}
use Rattle.commit_laws.proofs.AtOnce.{submitted_free}
use Rattle.step_laws.proofs.Polls.{in_map}
use Rattle.course_laws.proofs.NewTables.{or_right}

-- ---- lists

all_unmapped : {X Y : Type 0} (P : Y → Type 0) (f : X → Y) (xs : List X) → AllByRecursion P (map f xs) → AllByRecursion (λ x. P (f x)) xs
all_unmapped P f [] all = tt
all_unmapped P f (x ∷ xs) all = (all.0, all_unmapped P f xs all.1)

pairs_unmapped : {X Y : Type 0} (R : Y → Y → Type 0) (f : X → Y) (xs : List X) → Pairs R (map f xs) → Pairs (λ x y. R (f x) (f y)) xs
pairs_unmapped R f [] pairs = tt
pairs_unmapped R f (x ∷ xs) pairs = (all_unmapped (R (f x)) f xs pairs.0, pairs_unmapped R f xs pairs.1)

-- Drawn ids rise, so that a lower id was drawn first.
drawn_first : (R : ℕ × JobSpec → ℕ × JobSpec → Type 0) (drawn : List (ℕ × JobSpec)) → Pairs (λ a b. a.0 < b.0) drawn → Pairs R drawn → (x y : ℕ × JobSpec) → IsIn x drawn → IsIn y drawn → x.0 < y.0 → R x y
drawn_first R [] rise pairs x y one other low = absurd one
drawn_first R (z ∷ drawn) rise pairs x y (inl a) (inl b) low = let same = ap (λ (d : ℕ × JobSpec). d.0) (sym a ∙ b) in absurd (omega (arith, low, same))
drawn_first R (z ∷ drawn) rise pairs x y (inl a) (inr b) low = subst (λ w. R w y) a (all_at (R z) drawn y pairs.0 b)
drawn_first R (z ∷ drawn) rise pairs x y (inr a) (inl b) low =
    let high = all_at (λ (d : ℕ × JobSpec). z.0 < d.0) drawn x rise.0 a in
    let same = ap (λ (d : ℕ × JobSpec). d.0) b in
    absurd (omega (arith, low, high, same))
drawn_first R (z ∷ drawn) rise pairs x y (inr a) (inr b) low = drawn_first R drawn rise.1 pairs.1 x y a b low

drawn_once : (drawn : List (ℕ × JobSpec)) → Pairs (λ a b. a.0 < b.0) drawn → (x y : ℕ × JobSpec) → IsIn x drawn → IsIn y drawn → x.0 ≡ y.0 → x ≡ y
drawn_once [] rise x y one other same = absurd one
drawn_once (z ∷ drawn) rise x y (inl a) (inl b) same = sym a ∙ b
drawn_once (z ∷ drawn) rise x y (inl a) (inr b) same = let high = all_at (λ (d : ℕ × JobSpec). z.0 < d.0) drawn y rise.0 b in let first = ap (λ (d : ℕ × JobSpec). d.0) a in absurd (omega (arith, high, first, same))
drawn_once (z ∷ drawn) rise x y (inr a) (inl b) same = let high = all_at (λ (d : ℕ × JobSpec). z.0 < d.0) drawn x rise.0 a in let first = ap (λ (d : ℕ × JobSpec). d.0) b in absurd (omega (arith, high, first, same))
drawn_once (z ∷ drawn) rise x y (inr a) (inr b) same = drawn_once drawn rise.1 x y a b same

-- ---- proposals that are added

-- What the poll has after it added proposals, and which proposals are left.
record Adding (q : PollState) (drawn : List (ℕ × JobSpec)) (p : PollState) (rest : List (ℕ × JobSpec)) : Type 0 where
  trees : p.trees ≡ q.trees
  lost : p.lost ≡ q.lost
  refused : p.refused ≡ q.refused
  added : (a : ℕ × JobSpec) → IsIn a p.added → IsIn a drawn
  jobs : (job : Job) → IsIn job p.jobs → Origin q.jobs drawn job
  rise : Pairs (λ (a b : Job). a.id < b.id) p.jobs
  new : (d : ℕ × JobSpec) → IsIn d rest → (job : Job) → IsIn job p.jobs → d.0 ≡ job.id → ⊥

module _ (q : PollState) (drawn : List (ℕ × JobSpec)) where
  -- One more proposal that is added keeps what holds of the jobs that are added.
  added_one : (place : ℕ) (p : PollState) (d : ℕ × JobSpec) (rest : List (ℕ × JobSpec)) → IsIn d drawn → AllByRecursion (λ b. d.0 < b.0) rest → Adding q drawn p (d ∷ rest) → (b : Bool) → Adding q drawn (add_by d.0 place d.1 b p) rest
  added_one place p d rest there low a true = record {
    trees = a.trees;
    lost = a.lost;
    refused = a.refused;
    added = a.added;
    jobs = a.jobs;
    rise = a.rise;
    new = λ other one. a.new other (inr one);
  }
  added_one place p d rest there low a false = record {
    trees = a.trees;
    lost = a.lost;
    refused = a.refused;
    added = λ other one. of_added other (in_pushed p.added d other one);
    jobs = λ job one. of_job job (in_put (new_job d) p.jobs job one);
    rise = rise_put (new_job d) p.jobs (λ job one same. a.new d (inl refl) job one same) a.rise;
    new = λ other one job now same. fresh other one job same (in_put (new_job d) p.jobs job now);
  }
    where
      of_added : (other : ℕ × JobSpec) → IsIn other p.added ⊎ (d ≡ other) → IsIn other drawn
      of_added other (inl one) = a.added other one
      of_added other (inr same) = subst (λ x. IsIn x drawn) same there

      of_job : (job : Job) → (new_job d ≡ job) ⊎ IsIn job p.jobs → Origin q.jobs drawn job
      of_job job (inl same) = WasAdded d there same
      of_job job (inr one) = a.jobs job one

      fresh : (other : ℕ × JobSpec) → IsIn other rest → (job : Job) → other.0 ≡ job.id → (new_job d ≡ job) ⊎ IsIn job p.jobs → ⊥
      fresh other one job same (inl is) =
          let high = all_at (λ (b : ℕ × JobSpec). d.0 < b.0) rest other low one in
          let equal = ap (λ (j : Job). j.id) is in
          omega (arith, high, equal, same)
      fresh other one job same (inr old) = a.new other (inr one) job old same

  all_added : (place : ℕ) (rest : List (ℕ × JobSpec)) (p : PollState) → ((d : ℕ × JobSpec) → IsIn d rest → IsIn d drawn) → Pairs (λ a b. a.0 < b.0) rest → Adding q drawn p rest → Adding q drawn (add_drawn place rest p) []
  all_added place [] p those rise a = a
  all_added place (d ∷ rest) p those rise a =
      all_added (place + 1) rest (add_by d.0 place d.1 (list_any (clashes d.1) p.jobs) p) (λ b one. those b (inr one)) rise.1
      (added_one place p d rest (those d (inl refl)) rise.0 a (list_any (clashes d.1) p.jobs))

-- ---- statuses

holds_active : (s : Status) → IsTrue (status_eq Scheduled s || status_eq Running s || status_eq Compacted s) → cond (is_finished s) false true ≡ true
holds_active Submitted h = refl
holds_active Scheduled h = refl
holds_active Running h = refl
holds_active Compacted h = refl
holds_active Completed h = absurd (cc h)
holds_active Failed h = absurd (cc h)

-- ---- what a scheduler accepts

-- The lowest of some ids is one of them that is at most each of them.
lowest_found : (r : ℕ) (rs : List ℕ) (id : ℕ) → (r ≡ id) ⊎ (contains rs id ≡ true) → id ≤ r → list_all (λ x. nat_le id x) rs ≡ true → fold lower (Some r) rs ≡ Some id
lowest_found r [] id (inl same) low all = ap Some same
lowest_found r [] id (inr never) low all = absurd (cc never)
lowest_found r (x ∷ rs) id at low all =
    let parts = both_true (nat_le id x) (list_all (λ y. nat_le id y) rs) all in
    let under = leb-true id x parts.0 in
    lowest_found (min r x) rs id (by at under (x == id) refl) (omega (arith, low, under)) parts.1
  where
    by : (r ≡ id) ⊎ (contains (x ∷ rs) id ≡ true) → id ≤ x → (b : Bool) → (x == id) ≡ b → (min r x ≡ id) ⊎ (contains rs id ≡ true)
    by (inl same) under b e = inl (omega (arith, same, under))
    by (inr there) under true e = let same = eqb-true x id e in inl (omega (arith, same, low))
    by (inr there) under false e = inr (sym (ap (λ b. cond b true (contains rs id)) e) ∙ there)

-- The destination of a job that stands is its lowest source run, if a run is a source.
agrees_with : (trees : Trees) (spec : JobSpec) → DestinationFits trees (tree_at spec.segment trees) spec.sources spec.destination → agree (lowest_run spec.sources) spec.destination ≡ true
agrees_with trees spec fits = by spec.destination fits
  where
    of_run : (id : ℕ) (runs : List ℕ) → run_ids spec.sources ≡ runs → is_lowest_or_above id runs (run_ids (names (tree_at spec.segment trees))) ≡ true → agree (lowest_run spec.sources) (Some id) ≡ true
    of_run id [] e low = ap (λ ids. agree (fold lower None ids) (Some id)) e
    of_run id (r ∷ rs) e low =
        let parts = both_true (contains (r ∷ rs) id) (list_all (λ x. nat_le id x) (r ∷ rs)) low in
        let first = both_true (nat_le id r) (list_all (λ x. nat_le id x) rs) parts.1 in
        ap (λ ids. agree (fold lower None ids) (Some id)) e
        ∙ ap (λ found. agree found (Some id)) (lowest_found r rs id (at (r == id) refl parts.0) (leb-true id r first.0) first.1)
        ∙ eq-eqb id id refl
      where
        at : (b : Bool) → (r == id) ≡ b → contains (r ∷ rs) id ≡ true → (r ≡ id) ⊎ (contains rs id ≡ true)
        at true e there = inl (eqb-true r id e)
        at false e there = inr (sym (ap (λ b. cond b true (contains rs id)) e) ∙ there)

    by : (d : Option ℕ) → DestinationFits trees (tree_at spec.segment trees) spec.sources d → agree (lowest_run spec.sources) d ≡ true
    by None fits = absurd fits
    by (Some id) fits = of_run id (run_ids spec.sources) refl fits.0

standing_is_sound : (trees : Trees) → TreesStand trees → (job : Job) → SourcesStand trees job → IsSound trees job.spec
standing_is_sound trees stands job stand = record {
  some = stand.some;
  found = found_at trees stands.rise job.spec stand.some stand.stretch;
  stretch = stand.stretch;
  agrees = agrees_with trees job.spec stand.destination;
}

-- ---- a poll

module _ (merge : Operator) (input : PollInput) (stands : PollStands merge input) (sound : AcceptsSound input) (fit : (view : View) → ViewStands view → AllFit view (input.scheduler.propose view))
    (drawn : List (ℕ × JobSpec)) (are : AreDrawn input drawn) where
  abbrev got : List ℕ
  got = ids input.records.jobs

  abbrev begun : PollState
  begun = poll_begun input.manifest.trees input.manifest.horizon input.records.jobs

  abbrev asked : PollState
  asked = freed_and_committed input

  -- What stands in the state that the poll got.
  begins : Committing got begun
  begins =
      let invariant = stands.stands.invariant in
      let stored = stands.stands.stored in
      record {
        trees = subst (λ (m : Manifest). TreesStand m.trees) stands.manifest (trees_of_view (store_view stands.store input.records) (views_stand merge stands.store input.records stands.stands));
        rise = subst (λ records. Pairs (λ (a b : Job). a.id < b.id) (jobs_in records)) stored invariant.sound.job_ids;
        held = subst (λ records. NodesHeldOnce (jobs_in records)) stored invariant.held_once;
        stand = λ job there holds. subst (λ (m : Manifest). SourcesStand m.trees job) stands.manifest (all_at _ input.records.jobs job (stored_stand merge stands.store input.records stands.stands) there holds);
        lost = refl;
        added = refl;
        refused = refl;
        got_jobs = λ job there. in_map (λ (j : Job). j.id) input.records.jobs job there;
      }

  -- The state as the scheduler is asked.
  first : Committing got asked
  first = all_committed got input (λ p trees job stand. sound p job.spec (standing_is_sound p.trees trees job stand)) (free_stale input begun) (freed got input begun refl begins)

  abbrev shown : View
  shown = view_of input asked

  shown_stands : ViewStands shown
  shown_stands = view_of_trees shown first.trees (all_from _ (filter is_active asked.jobs) (λ job there holds. first.stand job (in_filtered is_active asked.jobs job there) holds))

  -- The proposals that the poll takes fit.
  taken : AllFit shown (map (λ d. d.1) drawn)
  taken =
      let all = fit shown shown_stands in
      let picks = input.scheduler.propose shown in
      let count = input.options.concurrent - count_by (has_status Running) asked.jobs in
      let parts = take-append-drop count picks in
      let these : AllFit shown (take count picks) = record {
        each = all_front (Fits asked.trees shown.jobs) (take count picks) (drop count picks) (subst (AllByRecursion (Fits asked.trees shown.jobs)) (sym parts) all.each);
        apart = pairs_front AreApart (take count picks) (drop count picks) (subst (Pairs AreApart) (sym parts) all.apart);
        rising = pairs_front Rises (take count picks) (drop count picks) (subst (Pairs Rises) (sym parts) all.rising);
      } in
      subst (AllFit shown) (sym are.specs) these

  fits_of : (d : ℕ × JobSpec) → IsIn d drawn → Fits asked.trees shown.jobs d.1
  fits_of d there = all_at (λ x. Fits asked.trees shown.jobs x.1) drawn d (all_unmapped (Fits asked.trees shown.jobs) (λ x. x.1) drawn taken.each) there

  is_shown : (job : Job) → IsIn job asked.jobs → IsTrue (has_status Submitted job) → IsIn job shown.jobs
  is_shown job there submitted = in_filter is_active asked.jobs job there (submitted_active job.status submitted)

  is_new : (d : ℕ × JobSpec) → IsIn d drawn → (job : Job) → IsIn job asked.jobs → d.0 ≡ job.id → ⊥
  is_new d there job one same =
      let none = all_at (λ x. contains (ids input.records.jobs) x.0 ≡ false) drawn d are.new there in
      let some : contains (ids input.records.jobs) d.0 ≡ true = in_contains (ids input.records.jobs) d.0 (subst (λ n. IsIn n (ids input.records.jobs)) (sym same) (first.got_jobs job one)) in
      cc (none, some)

  -- What is known of the proposals.
  proposed : AreProposed input asked.jobs drawn
  proposed = record {
    once_drawn = drawn_once drawn are.rise;
    apart = λ x y one other low a b. drawn_first (λ p q. AreApart p.1 q.1) drawn are.rise (pairs_unmapped AreApart (λ d. d.1) drawn taken.apart) x y one other low a b;
    rising = λ x y one other low a b. drawn_first (λ p q. Rises p.1 q.1) drawn are.rise (pairs_unmapped Rises (λ d. d.1) drawn taken.rising) x y one other low a b;
    unused = λ y there job one submitted. all_at (λ j. SourcesUnused y.1 j.spec) shown.jobs job (fits_of y there).unused (is_shown job one submitted);
    above = λ y there free job one submitted. all_at (λ j. RisesTo j.spec y.1) shown.jobs job ((fits_of y there).above free) (is_shown job one submitted);
    named_once = λ y there. (fits_of y there).pick.once;
    agrees = λ y there. (fits_of y there).pick.agrees;
    no_drain = λ y there. (fits_of y there).pick.no_drain;
    new = is_new;
    accepted = sound;
  }

  abbrev with_added : PollState
  with_added = add_drawn 1 drawn asked

  adds : Adding asked drawn with_added []
  adds = all_added asked drawn 1 drawn asked (λ d there. there) are.rise (record {
    trees = refl;
    lost = refl;
    refused = refl;
    added = λ a there. absurd (subst (IsIn a) first.added there);
    jobs = λ job there. WasKnown there;
    rise = first.rise;
    new = is_new;
  })

  -- A proposal stands as a job that was opened for it would.
  pends : (d : ℕ × JobSpec) → IsIn d drawn → HasFreeId d.1 → IsPending with_added d.1
  pends d there free =
      let fits = fits_of d there in
      let gate = fitting_passes shown (new_job d) [] fits free refl (λ spec. true) refl in
      record {
        job = to_scheduled (tables_now asked.trees) (new_job d);
        is = refl;
        stand = subst (λ trees. SourcesStand trees (to_scheduled (tables_now asked.trees) (new_job d))) (sym adds.trees) (opened_stands asked.trees [] [] (λ spec. true) (new_job d) gate fits.pick.no_drain);
        fits = subst (λ trees. destination_fits trees d.1.sources d.1.destination ≡ true) (sym adds.trees) (fits.destination free);
        free = λ other one holds. apart fits other holds (adds.jobs other one);
      }
    where
      apart : Fits asked.trees shown.jobs d.1 → (other : Job) → IsTrue (reserves_nodes other) → Origin asked.jobs drawn other → IsTrue (is_apart (nodes_of d.1) (nodes_of other.spec))
      apart fits other holds (WasKnown one) =
          all_at (λ job. IsTrue (reserves_nodes job) → is_apart (nodes_of d.1) (nodes_of job.spec) ≡ true) shown.jobs other (fits.apart free) (in_filter is_active asked.jobs other one (holds_active other.status holds)) holds
      apart fits other holds (WasAdded e one same) = absurd (submitted_free other.status (subst (λ (j : Job). IsTrue (has_status Submitted j)) same refl) holds)

  -- What stands before the first job is opened.
  opens : Opening asked.jobs drawn with_added (filter (has_status Submitted) with_added.jobs)
  opens = record {
    trees = subst TreesStand (sym adds.trees) first.trees;
    jobs_rise = adds.rise;
    stand = λ job there holds. stood job holds (adds.jobs job there);
    lost = adds.lost ∙ first.lost;
    pending = λ d there free one. pends d there free;
    refused = λ d there free. ap (λ refused. contains (firsts refused) d.0) (adds.refused ∙ first.refused);
    those = λ job there.
        let one = in_filtered (has_status Submitted) with_added.jobs job there in
        (one, filter_holds (has_status Submitted) with_added.jobs job there, adds.jobs job one);
    rise = pairs_filter (λ (a b : Job). a.id < b.id) (has_status Submitted) with_added.jobs adds.rise;
  }
    where
      stood : (job : Job) → IsTrue (reserves_nodes job) → Origin asked.jobs drawn job → SourcesStand with_added.trees job
      stood job holds (WasKnown one) = subst (λ trees. SourcesStand trees job) (sym adds.trees) (first.stand job one holds)
      stood job holds (WasAdded e one same) = absurd (submitted_free job.status (subst (λ (j : Job). IsTrue (has_status Submitted j)) same refl) holds)

  accepts_its_own : AcceptsItsOwn input drawn
  accepts_its_own =
      let ended = all_opened input asked.jobs drawn proposed (filter (has_status Submitted) with_added.jobs) with_added opens in
      record {
        lost = ended.lost;
        refused = all_from _ (polled_state input drawn).added (λ a there free.
            ended.refused a (adds.added a (subst (IsIn a) (opened_added input (filter (has_status Submitted) with_added.jobs) with_added) there)) free);
      }

-- ---- the schedulers

tiered_sound : (o : TieredOptions) (most : ℕ) (input : PollInput) → input.scheduler ≡ tiered_scheduler o most → AcceptsSound input
tiered_sound o most input is p spec sound =
    let tree = tree_at spec.segment p.trees in
    let found = is_some (segment_at spec.segment p.trees) in
    let stretch : is_stretch tree spec.sources ≡ true =
    true_and (is_nonempty spec.sources) (is_some (older_nodes spec.sources (names tree))) sound.some (found_stretch spec.sources (older_nodes spec.sources (names tree)) sound.stretch) in
    ap (λ (s : Scheduler). s.validate (view_of input p) spec) is
    ∙ or_right (is_drain spec) (found && is_stretch tree spec.sources && agree (lowest_run spec.sources) spec.destination)
    (true_and (found && is_stretch tree spec.sources) (agree (lowest_run spec.sources) spec.destination) (true_and found (is_stretch tree spec.sources) sound.found stretch) sound.agrees)

pub polls_accept_tiered : (merge : Operator) (o : TieredOptions) → are_tiered o ≡ true → (most : ℕ) (input : PollInput) → PollStands merge input → input.scheduler ≡ tiered_scheduler o most
    → (drawn : List (ℕ × JobSpec)) → AreDrawn input drawn → AcceptsItsOwn input drawn
polls_accept_tiered merge o tiered most input stands is drawn are =
    accepts_its_own merge input stands (tiered_sound o most input is)
    (λ view shown. subst (λ (s : Scheduler). AllFit view (s.propose view)) (sym is) (proposals_fit o tiered most view shown)) drawn are

pub polls_accept_levels : (merge : Operator) (o : LevelOptions) → are_allowed o ≡ true → (most : ℕ) (input : PollInput) → PollStands merge input → input.scheduler ≡ level_scheduler o most
    → (drawn : List (ℕ × JobSpec)) → AreDrawn input drawn → AcceptsItsOwn input drawn
polls_accept_levels merge o allowed most input stands is drawn are =
    accepts_its_own merge input stands (λ p spec sound. ap (λ (s : Scheduler). s.validate (view_of input p) spec) is)
    (λ view shown. subst (λ (s : Scheduler). AllFit view (s.propose view)) (sym is) (levels_fit o allowed most view shown)) drawn are
