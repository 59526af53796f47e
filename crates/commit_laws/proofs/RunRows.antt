-- The rows of a run that a join or a move makes of some nodes: they have only sequences of these nodes, are in order, and keep reads.
use Rattle.std.proofs.Common.{◌≡◌, refl, sym, ◌∙◌, ap, subst, ℕ, ◌<◌, ◌≤◌, List, [], ◌∷◌, ◌++◌, cond, Bool, true, inl, inr, arith}
use Rattle.std.specs.Prelude.{◌≢◌, flat_map, bytes_eq, filter}
use Rattle.std.specs.List.{AllByRecursion}
use Rattle.std.specs.List.Sorted.{IsStrictlySortedBy}
use Rattle.std.specs.declared.cmp.Ordering.{Ordering}
use Rattle.std.specs.declared.cmp.Ordering.TheVariants.{Less, Equal, Greater}
use Rattle.std.specs.Ordering.{nat_cmp, ordering_then}
use Rattle.std.specs.Cmp.{nat_cmp_is}
use Rattle.std.proofs.lemmas.Grind.{flat_map-append}
use Rattle.row_model.specs.Lists.{Pairs}
use Rattle.row_model.specs.Rows.{Row, key_cmp, row_cmp, rows_of_key, sorted_rows, IsStrictlyOrdered}
use Rattle.row_model.specs.Fold.{Operator, IsLawful}
use Rattle.row_model.specs.Settings.{Settings}
use Rattle.row_model.specs.JobRows.{job_rows}
use Rattle.fleet_model.specs.Nodes.{Tables, table_rows, Node, Tree, node_rows, flushed_node_rows}
use Rattle.fleet_model.specs.Store.{Store}
use Rattle.fleet_model.specs.Work.Attempts.{source_rows}
use Rattle.fleet_model.specs.Invariants.TreesFit.{IsNewer, node_and_flushed_rows}
use Rattle.fleet_model.specs.Invariants.ReadsFit.{SameReads}
use Rattle.row_laws.specs.Parts.{HasPlace}
use Rattle.row_laws.specs.Resume.{place}
use Rattle.row_laws.specs.Merges.{AreApart}
use Rattle.row_laws.proofs.Merges.{apart_are_ordered, ordered_stay}
use Rattle.row_laws.proofs.Order.{jobs_keep_order}
use Rattle.row_laws.proofs.RetentionReads.{int_le_trans}
use Rattle.row_laws.proofs.Places.{jobs_keep_places}
use Rattle.row_laws.proofs.JobReads.{jobs_keep_reads}
use Rattle.row_laws.proofs.Sources.{all_put, filter-sorted_rows}
use Rattle.step_laws.proofs.Elements.{all_at, all_from, all_to, all_front, all_back, all_append, all_flat}
use Rattle.commit_laws.proofs.Stretches.{pairs_append}
use Rattle.commit_laws.proofs.RunTrees.{Covered}
use Rattle.fleet_laws.proofs.TreeRows.{part_rows}
use Rattle.commit_laws.specs.RunReads.{run_for, JoinMakes}

-- ---- lists of lists

pub flat_flat : {A B C : Type 0} (f : B → List C) (g : A → List B) (xs : List A) → flat_map f (flat_map g xs) ≡ flat_map (λ x. flat_map f (g x)) xs
flat_flat f g [] = refl
flat_flat f g (x ∷ xs) = flat_map-append f (g x) (flat_map g xs) ∙ ap (λ ys. flat_map f (g x) ++ ys) (flat_flat f g xs)

-- ---- rows of a key, in order

of_key_filter : (key : List ℕ) (rows : List Row) → rows_of_key key rows ≡ filter (λ r. bytes_eq key r.key) rows
of_key_filter key [] = refl
of_key_filter key (r ∷ rows) = ap (λ rs. cond (bytes_eq key r.key) (r ∷ rs) rs) (of_key_filter key rows)

pub sorted_of_key : (key : List ℕ) (rows : List Row) → sorted_rows (rows_of_key key rows) ≡ rows_of_key key (sorted_rows rows)
sorted_of_key key rows = ap sorted_rows (of_key_filter key rows) ∙ filter-sorted_rows (λ r. bytes_eq key r.key) rows ∙ sym (of_key_filter key (sorted_rows rows))

pub ordered_of_key : (key : List ℕ) (rows : List Row) → IsStrictlyOrdered rows → sorted_rows (rows_of_key key rows) ≡ rows_of_key key rows
ordered_of_key key rows ordered = sorted_of_key key rows ∙ ap (rows_of_key key) (ordered_stay rows ordered)

-- ---- no two rows of some nodes are at one place

apart_by_order : (rows : List Row) → IsStrictlyOrdered rows → AreApart rows
unfolding IsStrictlySortedBy
apart_by_order [] h = tt
apart_by_order (r ∷ rows) h = (all_to _ _ rows (λ q there less equal. absurd (clash (row_cmp r q) less equal)) h.0, apart_by_order rows h.1)
  where
    clash : (o : Ordering) → o ≡ Less → o ≡ Equal → ⊥
    clash o a b = absurd (cc (a, b))

-- A row with a lower sequence is at another place.
lower_apart : (r q : Row) → q.seq < r.seq → row_cmp r q ≢ Equal
lower_apart r q low equal = by (key_cmp r.key q.key) (nat_cmp q.seq r.seq) (sym (nat_cmp_is q.seq r.seq Less low)) equal
  where
    by : (a b : Ordering) → b ≡ Less → ordering_then a b ≡ Equal → ⊥
    by Less b e f = absurd (cc f)
    by Equal b e f = absurd (cc (e, f))
    by Greater b e f = absurd (cc f)

pub nodes_apart : (tables : Tables) (nodes : Tree) → Pairs (IsNewer tables) nodes → AllByRecursion (λ (node : Node). IsStrictlyOrdered (node_rows tables node)) nodes → AreApart (flat_map (node_rows tables) nodes)
nodes_apart tables [] newest ordered = tt
nodes_apart tables (node ∷ nodes) newest ordered =
    pairs_append (λ (r q : Row). row_cmp r q ≢ Equal) (node_rows tables node) (flat_map (node_rows tables) nodes) (apart_by_order (node_rows tables node) ordered.0) (nodes_apart tables nodes newest.1 ordered.1)
    (all_from _ (node_rows tables node) (λ r there. all_flat (λ (q : Row). row_cmp r q ≢ Equal) (node_rows tables) nodes (all_to _ _ nodes (λ other one newer.
    all_to _ _ (node_rows tables other) (λ q two low. lower_apart r q low) (all_front (λ (q : Row). q.seq < r.seq) (node_rows tables other) (flushed_node_rows tables other)
    (all_at (λ (x : Row). AllByRecursion (λ (q : Row). q.seq < x.seq) (node_and_flushed_rows tables other)) (node_rows tables node) r (all_front _ (node_rows tables node) (flushed_node_rows tables node) newer) there))) newest.0)))

-- ---- what a run has to be

-- The run of these nodes, with what is asked of its rows.
pub record RunFits (merge : Operator) (store : Store) (oldest : Bool) (taken : Tree) (run : Node) : Type 1 where
  pub covered : Covered store.tables taken run
  pub ordered : IsStrictlyOrdered (node_rows store.tables run)
  pub reads : (key : List ℕ) → SameReads merge store.manifest oldest key (part_rows true store.tables key taken) (sorted_rows (rows_of_key key (node_rows store.tables run)))

-- The rows of the flushes of the run are those of the nodes.
pub flushes_of_run : (tables : Tables) (id : ℕ) (pieces : List ℕ) (taken : Tree) → flushed_node_rows tables (run_for id pieces taken) ≡ flat_map (flushed_node_rows tables) taken
flushes_of_run tables id pieces taken = flat_flat (table_rows tables) (λ (node : Node). node.flushes) taken

-- The rows of the tables of the nodes are those of the nodes.
pub rows_of_pieces : (tables : Tables) (taken : Tree) → flat_map (table_rows tables) (flat_map (λ (node : Node). node.pieces) taken) ≡ flat_map (node_rows tables) taken
rows_of_pieces tables taken = flat_flat (table_rows tables) (λ (node : Node). node.pieces) taken

all_sorted : (P : Row → Type 0) (rows : List Row) → AllByRecursion P rows → AllByRecursion P (sorted_rows rows)
all_sorted P [] h = tt
all_sorted P (r ∷ rows) h = all_put P r (sorted_rows rows) h.0 (all_sorted P rows h.1)

-- What is so of the rows of all nodes, and of the rows of their flushes.
pub held_rows : (tables : Tables) (P : Row → Type 0) (taken : Tree) → AllByRecursion (λ (node : Node). AllByRecursion P (node_and_flushed_rows tables node)) taken → AllByRecursion P (flat_map (node_rows tables) taken)
held_rows tables P taken h = all_flat P (node_rows tables) taken (all_to _ _ taken (λ node there all. all_front P (node_rows tables node) (flushed_node_rows tables node) all) h)

pub flush_rows : (tables : Tables) (P : Row → Type 0) (taken : Tree) → AllByRecursion (λ (node : Node). AllByRecursion P (node_and_flushed_rows tables node)) taken → AllByRecursion P (flat_map (flushed_node_rows tables) taken)
flush_rows tables P taken h = all_flat P (flushed_node_rows tables) taken (all_to _ _ taken (λ node there all. all_back P (node_rows tables node) (flushed_node_rows tables node) all) h)

-- ---- joins

has_place : (P : ℕ → Type 0) (r : Row) (rows : List Row) → HasPlace (place r) rows → AllByRecursion (λ (q : Row). P q.seq) rows → P r.seq
has_place P r [] there h = absurd there
has_place P r (q ∷ rows) (inl same) h = subst P (ap (λ (p : List ℕ × ℕ). p.1) same) h.0
has_place P r (q ∷ rows) (inr there) h = has_place P r rows there h.1

-- Under a lawful operator a run of all rows that a job's settings make of some nodes fits in their place.
pub join_fits : (merge : Operator) (store : Store) (oldest : Bool) (id : ℕ) (taken : Tree) (outputs : List ℕ) (settings : Settings) → IsLawful merge → Pairs (IsNewer store.tables) taken → AllByRecursion (λ (node : Node). IsStrictlyOrdered (node_rows store.tables node)) taken
    → JoinMakes merge store oldest taken outputs settings → RunFits merge store oldest taken (run_for id outputs taken)
join_fits merge store oldest id taken outputs settings lawful newest nodes_ordered makes = record {
  covered = λ P h. all_append (λ (r : Row). P r.seq) (flat_map (table_rows tables) outputs) (flushed_node_rows tables (run_for id outputs taken)) (made P (held_rows tables (λ (r : Row). P r.seq) taken h))
      (subst (AllByRecursion (λ (r : Row). P r.seq)) (sym (flushes_of_run tables id outputs taken)) (flush_rows tables (λ (r : Row). P r.seq) taken h));
  ordered = subst IsStrictlyOrdered made_rows (jobs_keep_order merge settings sources sorted);
  reads = reads;
}
  where
    tables : Tables
    tables = store.tables

    sources : List Row
    sources = source_rows tables (flat_map (λ (node : Node). node.pieces) taken)

    made_rows : (job_rows merge settings sources).rows ≡ flat_map (table_rows tables) outputs
    made_rows = ap (λ j. j.rows) makes.rows

    same_sources : sources ≡ sorted_rows (flat_map (node_rows tables) taken)
    same_sources = ap sorted_rows (rows_of_pieces tables taken)

    sorted : IsStrictlyOrdered sources
    sorted = subst IsStrictlyOrdered (sym same_sources) (apart_are_ordered (flat_map (node_rows tables) taken) (nodes_apart tables taken newest nodes_ordered))

    made : (P : ℕ → Type 0) → AllByRecursion (λ (r : Row). P r.seq) (flat_map (node_rows tables) taken) → AllByRecursion (λ (r : Row). P r.seq) (flat_map (table_rows tables) outputs)
    made P h = subst (AllByRecursion (λ (r : Row). P r.seq)) made_rows
        (all_to _ _ (job_rows merge settings sources).rows (λ r there at. has_place P r sources at (subst (AllByRecursion (λ (q : Row). P q.seq)) (sym same_sources) (all_sorted (λ (q : Row). P q.seq) (flat_map (node_rows tables) taken) h))) (jobs_keep_places merge settings sources))

    reads : (key : List ℕ) → SameReads merge store.manifest oldest key (part_rows true tables key taken) (sorted_rows (rows_of_key key (flat_map (table_rows tables) outputs)))
    reads key =
        let first : rows_of_key key sources ≡ part_rows true tables key taken = ap (rows_of_key key) same_sources ∙ sym (sorted_of_key key (flat_map (node_rows tables) taken)) in
        let second : rows_of_key key (job_rows merge settings sources).rows ≡ sorted_rows (rows_of_key key (flat_map (table_rows tables) outputs)) =
        ap (rows_of_key key) made_rows ∙ sym (ordered_of_key key (flat_map (table_rows tables) outputs) (subst IsStrictlyOrdered made_rows (jobs_keep_order merge settings sources sorted))) in
        subst (λ rows. SameReads merge store.manifest oldest key rows (sorted_rows (rows_of_key key (flat_map (table_rows tables) outputs)))) first
        (subst (λ rows. SameReads merge store.manifest oldest key (rows_of_key key sources) rows) second
        (λ s now above below from late last. jobs_keep_reads merge lawful settings sources sorted (ap (λ j. j.whole) makes.rows) key s now above below (up settings.cut store.manifest.horizon s makes.cut from)
        (int_le_trans settings.tick store.manifest.tick now makes.tick late) (λ is. last (makes.last_run is))))
      where
        up : (a b c : ℕ) → a ≤ b → b ≤ c → a ≤ c
        up a b c h k = omega (arith, h, k)
