-- What a poll makes of each job.
use Rattle.std.proofs.Common.{◌≡◌, refl, sym, subst, ℕ, List, [], ◌∷◌, cond, Bool, true, false, Option, Some, None}
use Rattle.std.specs.Prelude.{IsTrue, IfSome, ◌==◌, ◌&&◌, ◌||◌, not, is_some}
use Rattle.std.specs.List.{AllByRecursion, concat}
use Rattle.std.proofs.lemmas.Bool.Decides.{Decides-eqb}
use Rattle.row_model.specs.Fold.{Operator}
use Rattle.fleet_model.specs.Nodes.{NodeName, L0, Run, name_eq, Tree, names, names_contain, is_among, tree_at, tree_or_empty, segment_at, Segment, Trees}
use Rattle.fleet_model.specs.Jobs.{JobSpec, Job, Context, Status, Submitted, Scheduled, Running, Compacted, Completed, Failed, status_eq, has_status, is_finished, is_active}
use Rattle.fleet_model.specs.History.{Entry}
use Rattle.fleet_model.specs.Work.Records.{to_scheduled}
use Rattle.fleet_model.specs.Handles.{job_tables, context_tables}
use Rattle.fleet_model.specs.Trees.{tables_now}
use Rattle.fleet_model.specs.Sources.{after_front, or_later, older_nodes, reaches_oldest, is_whole_stretch}
use Rattle.fleet_model.specs.Store.{is_held, WerePut}
use Rattle.fleet_model.specs.Invariants.JobsFit.{SourcesStand, was_joined}
use Rattle.fleet_model.specs.Invariants.AttemptsFit.{ContextFits, was_beaten}
use Rattle.step_model.specs.Past.{World}
use Rattle.step_model.specs.Entries.{was_flushed}
use Rattle.step_model.specs.Kept.TablesKept.{IsFlush, IsFlushed}
use Rattle.step_laws.proofs.Elements.{all_to, all_back, all_true_front, all_true_from}
use Rattle.step_laws.proofs.Bodies.{JobKept}
use Rattle.step_laws.proofs.OpenJobs.{is_open}
use Rattle.step_laws.proofs.TableReplays.{IsPut, TreeAll, sources_all, all_found_at}
use Rattle.step_laws.proofs.Held.{and_true}

-- ---- statuses

over_not_open : (s : Status) → IsTrue (is_finished s) → IsTrue (is_open s) → ⊥
over_not_open Submitted h k = absurd (cc h)
over_not_open Scheduled h k = absurd (cc h)
over_not_open Running h k = absurd (cc h)
over_not_open Compacted h k = absurd (cc h)
over_not_open Completed h k = absurd (cc k)
over_not_open Failed h k = absurd (cc k)

over_not_compacted : (s : Status) → IsTrue (is_finished s) → IsTrue (status_eq Compacted s) → ⊥
over_not_compacted Submitted h k = absurd (cc h)
over_not_compacted Scheduled h k = absurd (cc h)
over_not_compacted Running h k = absurd (cc h)
over_not_compacted Compacted h k = absurd (cc h)
over_not_compacted Completed h k = absurd (cc k)
over_not_compacted Failed h k = absurd (cc k)

over_not_early : (s : Status) → IsTrue (is_finished s) → IsTrue (status_eq Submitted s || status_eq Scheduled s) → ⊥
over_not_early Submitted h k = absurd (cc h)
over_not_early Scheduled h k = absurd (cc h)
over_not_early Running h k = absurd (cc h)
over_not_early Compacted h k = absurd (cc h)
over_not_early Completed h k = absurd (cc k)
over_not_early Failed h k = absurd (cc k)

over_not_submitted : (s : Status) → IsTrue (is_finished s) → IsTrue (status_eq Submitted s) → ⊥
over_not_submitted Submitted h k = absurd (cc h)
over_not_submitted Scheduled h k = absurd (cc h)
over_not_submitted Running h k = absurd (cc h)
over_not_submitted Compacted h k = absurd (cc h)
over_not_submitted Completed h k = absurd (cc k)
over_not_submitted Failed h k = absurd (cc k)

pub over_not_active : (s : Status) → IsTrue (is_finished s) → IsTrue (cond (is_finished s) false true) → ⊥
over_not_active Submitted h k = absurd (cc h)
over_not_active Scheduled h k = absurd (cc h)
over_not_active Running h k = absurd (cc h)
over_not_active Compacted h k = absurd (cc h)
over_not_active Completed h k = absurd (cc k)
over_not_active Failed h k = absurd (cc k)

over_holds_none : (s : Status) → IsTrue (is_finished s) → IsTrue (status_eq Scheduled s || status_eq Running s || status_eq Compacted s) → ⊥
over_holds_none Submitted h k = absurd (cc h)
over_holds_none Scheduled h k = absurd (cc h)
over_holds_none Running h k = absurd (cc h)
over_holds_none Compacted h k = absurd (cc h)
over_holds_none Completed h k = absurd (cc k)
over_holds_none Failed h k = absurd (cc k)

over_late : (s : Status) → IsTrue (is_finished s) → IsTrue (status_eq Compacted s || is_finished s)
over_late Submitted h = absurd (cc h)
over_late Scheduled h = absurd (cc h)
over_late Running h = absurd (cc h)
over_late Compacted h = absurd (cc h)
over_late Completed h = refl
over_late Failed h = refl

pub submitted_active : (s : Status) → IsTrue (status_eq Submitted s) → IsTrue (cond (is_finished s) false true)
submitted_active Submitted h = refl
submitted_active Scheduled h = refl
submitted_active Running h = refl
submitted_active Compacted h = refl
submitted_active Completed h = absurd (cc h)
submitted_active Failed h = absurd (cc h)

submitted_not_late : (s : Status) → IsTrue (status_eq Submitted s) → IsTrue (status_eq Compacted s || is_finished s) → ⊥
submitted_not_late Submitted h k = absurd (cc k)
submitted_not_late Scheduled h k = absurd (cc h)
submitted_not_late Running h k = absurd (cc h)
submitted_not_late Compacted h k = absurd (cc h)
submitted_not_late Completed h k = absurd (cc h)
submitted_not_late Failed h k = absurd (cc h)

submitted_early : (s : Status) → IsTrue (status_eq Submitted s) → IsTrue (status_eq Submitted s || status_eq Scheduled s)
submitted_early Submitted h = refl
submitted_early Scheduled h = absurd (cc h)
submitted_early Running h = absurd (cc h)
submitted_early Compacted h = absurd (cc h)
submitted_early Completed h = absurd (cc h)
submitted_early Failed h = absurd (cc h)

pub ended_not_open : (s : Status) → IsTrue (status_eq Submitted s || status_eq Compacted s) → IsTrue (is_open s) → ⊥
ended_not_open Submitted h k = absurd (cc k)
ended_not_open Scheduled h k = absurd (cc h)
ended_not_open Running h k = absurd (cc h)
ended_not_open Compacted h k = absurd (cc k)
ended_not_open Completed h k = absurd (cc h)
ended_not_open Failed h k = absurd (cc h)

pub ended_active : (s : Status) → IsTrue (status_eq Submitted s || status_eq Compacted s) → IsTrue (cond (is_finished s) false true)
ended_active Submitted h = refl
ended_active Scheduled h = refl
ended_active Running h = refl
ended_active Compacted h = refl
ended_active Completed h = absurd (cc h)
ended_active Failed h = absurd (cc h)

first : (a b : Bool) → IsTrue (a && b) → IsTrue a
first true b h = refl
first false b h = absurd (cc h)

second : (a b : Bool) → IsTrue (a && b) → IsTrue b
second true b h = h
second false b h = absurd (cc h)

-- ---- a job that is ended

abbrev pub with_end : Status → Option Context → List ℕ → Job → Job
with_end status context tables job = record job { status = status; source_tables = tables; context = context }

-- What is kept of a job is kept of it with a finished status, no context and any source tables.
pub kept_over : (merge : Operator) (world : World) (specs : ℕ → JobSpec) (status : Status) (context : Option Context) (tables : List ℕ) (job : Job) → IsTrue (is_finished status) → context ≡ None → JobKept merge world specs job → JobKept merge world specs (with_end status context tables job)
kept_over merge world specs status context tables job over none kept = record {
  fits = record {
    sources = ((λ waits. absurd (over_not_open status over waits)), λ compacted. absurd (over_not_compacted status over compacted));
    context = record { there = ((λ some. absurd (no_context context none some)), λ h. absurd (over_not_open status over h.0)); fits = fits context none };
    outputs = λ compacted. absurd (over_not_compacted status over compacted);
    tables = λ active. absurd (over_not_active status over active);
  };
  facts = record {
    named = kept.facts.named;
    unbeaten = λ submitted. absurd (over_not_submitted status over submitted);
    unleased = λ waits. absurd (over_not_early status over waits);
    flushed = λ holds. absurd (over_holds_none status over holds);
    drawn = λ active. absurd (over_not_active status over active);
    unused = λ unjoined. absurd (over_not_active status over (first (is_active (with_end status context tables job)) (not (was_joined world.store.history job.id)) unjoined));
    late = λ joined. over_late status over;
    stand = λ compacted joined. absurd (over_not_compacted status over compacted);
  };
  spec = kept.spec;
}
  where
    no_context : (o : Option Context) → o ≡ None → IsTrue (is_some o) → ⊥
    no_context None e some = absurd (cc some)
    no_context (Some c) e some = absurd (cc e)

    fits : (o : Option Context) → o ≡ None → IfSome o (ContextFits merge world.store specs (with_end status context tables job))
    fits None e = tt
    fits (Some c) e = absurd (cc e)

-- ---- a job that is opened

-- The sources of a job that stand in a tree are names of its nodes.
turned : (x y : NodeName) → name_eq x y ≡ true → name_eq y x ≡ true
turned (L0 a) (L0 b) e = (Decides-eqb b a).1 (sym ((Decides-eqb a b).0 e))
turned (L0 a) (Run b) e = absurd (cc e)
turned (Run a) (L0 b) e = absurd (cc e)
turned (Run a) (Run b) e = (Decides-eqb b a).1 (sym ((Decides-eqb a b).0 e))

-- Sources with which a list of names begins are all in the list.
begins : (sources ys rest : List NodeName) → after_front sources ys ≡ Some rest → AllByRecursion (λ x. IsTrue (names_contain ys x)) sources
begins [] ys rest e = tt
begins (x ∷ xs) [] rest e = absurd (cc e)
begins (x ∷ xs) (y ∷ ys) rest e = by (name_eq x y) refl (begins xs ys rest) e
  where
    later : (z : NodeName) → IsTrue (names_contain ys z) → IsTrue (names_contain (y ∷ ys) z)
    later z h = cases (name_eq y z)
      where
        cases : (b : Bool) → IsTrue (cond b true (names_contain ys z))
        cases true = refl
        cases false = h

    front : (b : Bool) → b ≡ true → IsTrue (cond b true (names_contain ys x))
    front true e = refl
    front false e = absurd (cc e)

    by : (b : Bool) → name_eq x y ≡ b → (after_front xs ys ≡ Some rest → AllByRecursion (λ z. IsTrue (names_contain ys z)) xs) → cond b (after_front xs ys) None ≡ Some rest → AllByRecursion (λ z. IsTrue (names_contain (y ∷ ys) z)) (x ∷ xs)
    by true same more e = (front (name_eq y x) (turned x y same), all_to _ _ xs (λ z there h. later z h) (more e))
    by false same more e = absurd (cc e)

-- Sources that lie one after the other in a list of names are all in the list.
pub stretch_named : (sources ys rest : List NodeName) → older_nodes sources ys ≡ Some rest → AllByRecursion (λ x. IsTrue (names_contain ys x)) sources
stretch_named sources [] rest e = begins sources [] rest e
stretch_named sources (y ∷ ys) rest e = by (after_front sources (y ∷ ys)) refl (stretch_named sources ys rest) e
  where
    later : (z : NodeName) → IsTrue (names_contain ys z) → IsTrue (names_contain (y ∷ ys) z)
    later z h = cases (name_eq y z)
      where
        cases : (b : Bool) → IsTrue (cond b true (names_contain ys z))
        cases true = refl
        cases false = h

    by : (o : Option (List NodeName)) → after_front sources (y ∷ ys) ≡ o → (older_nodes sources ys ≡ Some rest → AllByRecursion (λ x. IsTrue (names_contain ys x)) sources) → or_later o (older_nodes sources ys) ≡ Some rest
        → AllByRecursion (λ x. IsTrue (names_contain (y ∷ ys) x)) sources
    by None f more e = all_to _ _ sources (λ z there h. later z h) (more e)
    by (Some found) f more e = begins sources (y ∷ ys) found f

pub stretch_in : (tree : Tree) (sources : List NodeName) → IsTrue (is_whole_stretch tree sources) → AllByRecursion (λ x. IsTrue (names_contain (names tree) x)) sources
stretch_in tree sources h = by (older_nodes sources (names tree)) refl h
  where
    by : (o : Option (List NodeName)) → older_nodes sources (names tree) ≡ o → IsTrue (reaches_oldest sources o) → AllByRecursion (λ x. IsTrue (names_contain (names tree) x)) sources
    by None e h = absurd (cc h)
    by (Some rest) e h = stretch_named sources (names tree) rest e

-- A flush that is a node of a tree took effect.
pub node_flushed : (history : List Entry) (tree : Tree) (name : NodeName) → AllByRecursion (λ node. IsFlush history node node.name) tree → IsTrue (names_contain (names tree) name) → IsFlushed history name
node_flushed history tree (Run id) flushes there = tt
node_flushed history [] (L0 flush) flushes there = absurd (cc there)
node_flushed history (node ∷ tree) (L0 flush) flushes there = by node.name flushes.0 (node_flushed history tree (L0 flush) flushes.1) there
  where
    by : (n : NodeName) → IsFlush history node n → (IsTrue (names_contain (names tree) (L0 flush)) → IsFlushed history (L0 flush)) → IsTrue (cond (name_eq n (L0 flush)) true (names_contain (names tree) (L0 flush))) → IsFlushed history (L0 flush)
    by (L0 other) is rest there = cases (other == flush) refl there
      where
        cases : (b : Bool) → (other == flush) ≡ b → IsTrue (cond b true (names_contain (names tree) (L0 flush))) → IsTrue (was_flushed history flush)
        cases true e there = subst (λ n. IsTrue (was_flushed history n)) ((Decides-eqb other flush).0 e) is.0
        cases false e there = rest there
    by (Run id) is rest there = rest there

pub tree_has : (P : Tree → Type 0) (prefix : List ℕ) (trees : Trees) → P [] → AllByRecursion (λ s. P s.tree) trees → P (tree_at prefix trees)
tree_has P prefix trees empty all = by (segment_at prefix trees) refl
  where
    by : (o : Option Segment) → segment_at prefix trees ≡ o → P (tree_or_empty o)
    by None e = empty
    by (Some s) e = all_found_at (λ (t : Segment). P t.tree) _ trees s all e

-- What is kept of a Submitted job is kept once a poll opens it with its sources' tables, if the sources stand.
pub kept_scheduled : (merge : Operator) (world : World) (specs : ℕ → JobSpec) (tables_of : JobSpec → List ℕ) (job : Job) → IsTrue (has_status Submitted job) → tables_of job.spec ≡ tables_now world.store.manifest.trees job.spec
    → AllByRecursion (λ s. AllByRecursion (λ node. WerePut world.store node.pieces) s.tree) world.store.manifest.trees → AllByRecursion (λ s. AllByRecursion (λ node. IsFlush world.store.history node node.name) s.tree) world.store.manifest.trees
    → SourcesStand world.store.manifest.trees (to_scheduled tables_of job) → JobKept merge world specs job → JobKept merge world specs (to_scheduled tables_of job)
kept_scheduled merge world specs tables_of job submitted tables put flushes stand kept = record {
  fits = record {
    sources = ((λ waits. stand), λ compacted. absurd (cc compacted));
    context = record { there = ((λ some. absurd (cc some)), λ h. absurd (refused (was_beaten world.store.history job.id) (kept.facts.unbeaten submitted) h.1)); fits = tt };
    outputs = λ compacted. absurd (cc compacted);
    tables = λ active. record {
      named = all_true_from (is_held world.store) (concat job.outputs) (all_back _ (context_tables job.context) (concat job.outputs) (all_true_front (is_held world.store) (job_tables job) (kept.fits.tables was).named));
      sources = all_true_from (is_among world.store.tables) (tables_of job.spec) (rw tables (sources_all (IsPut world.store.tables) job.spec.sources (tree_at job.spec.segment world.store.manifest.trees)
          (tree_has (TreeAll (IsPut world.store.tables)) job.spec.segment world.store.manifest.trees tt (all_to _ _ world.store.manifest.trees (λ s there old. all_to _ _ s.tree (λ node one is. all_true_front (is_among world.store.tables) node.pieces is) old) put))));
    };
  };
  facts = record {
    named = kept.facts.named;
    unbeaten = λ never. absurd (cc never);
    unleased = λ waits. kept.facts.unleased (submitted_early job.status submitted);
    flushed = λ holds. all_to _ _ job.spec.sources (λ name there named. node_flushed world.store.history (tree_at job.spec.segment world.store.manifest.trees) name
        (tree_has (λ tree. AllByRecursion (λ node. IsFlush world.store.history node node.name) tree) job.spec.segment world.store.manifest.trees tt flushes) named) (stretch_in (tree_at job.spec.segment world.store.manifest.trees) job.spec.sources stand.stretch);
    drawn = λ active. all_back _ (context_tables job.context) (concat job.outputs) (kept.facts.drawn was);
    unused = λ unjoined. all_back _ (context_tables job.context) (concat job.outputs) (kept.facts.unused (and_true (is_active job) (not (was_joined world.store.history job.id)) was unjoined));
    late = λ joined. absurd (submitted_not_late job.status submitted (kept.facts.late joined));
    stand = λ compacted joined. absurd (cc compacted);
  };
  spec = kept.spec;
}
  where
    was : IsTrue (is_active job)
    was = submitted_active job.status submitted

    refused : (b : Bool) → b ≡ false → IsTrue b → ⊥
    refused true e h = absurd (cc e)
    refused false e h = absurd (cc h)
