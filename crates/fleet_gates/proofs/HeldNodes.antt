-- Which nodes jobs hold, and which nodes decide whether a job touches held ones.
use Rattle.std.proofs.Common.{◌≡◌, refl, sym, ◌∙◌, ap, ℕ, List, [], ◌∷◌, ◌++◌, ◌+◌, ◌<◌, length, get_or, take, Bool, true, false, not, ◌||◌, ◌&&◌, cond}
use Rattle.std.specs.Prelude.{◌==◌, filter, flat_map}
use Rattle.std.specs.List.{AllByRecursion, list_any}
use Rattle.std.proofs.lemmas.Cmp.{nat_eq_equiv}
use Rattle.std.proofs.lemmas.List.{take_more}
use Rattle.fleet_model.specs.Work.Gates.{is_free, reserves_nodes}
use Rattle.fleet_model.specs.Jobs.{Job, JobSpec, Jobs, changed_jobs, contains, ids, nodes_of}
use Rattle.fleet_model.specs.Nodes.{NodeName, name_eq, names_contain}
use Rattle.fleet_model.specs.Work.Records.{to_completed, to_failed, to_scheduled}
use Rattle.fleet_model.specs.Sources.{is_apart}
use Rattle.fleet_jobs.specs.Places.{held_nodes}
use Rattle.fleet_jobs.proofs.ModelPlaces as places
use Rattle.fleet_gates.specs.Held.{AreHeld, Decides, HoldsNone, IsAmong, others}
use Rattle.fleet_gates.specs.Laws.{EndedJobsHoldNone, KeepsHeld, HeldNodesAreHeld, HeldNodesDecide, LostJobsHoldTheirNodes, OpenedJobsHoldTheirNodes}

no_two : (b : Bool) → b ≡ true → b ≡ false → ⊥
no_two true e f = absurd (cc f)
no_two false e f = absurd (cc e)

-- ---- what is among held nodes

-- True if the job holds nodes.
abbrev holds : List ℕ → Job → Bool
holds lost job = reserves_nodes job || contains lost job.id

-- True if the job touches the node.
abbrev touches : NodeName → Job → Bool
touches name job = names_contain (nodes_of job.spec) name

-- True if a job that holds nodes touches the node.
abbrev held_by_any : List ℕ → NodeName → Jobs → Bool
held_by_any lost name jobs = list_any (λ job. holds lost job && touches name job) jobs

-- The same, as if each job with this id held its nodes too.
abbrev held_or_by : ℕ → List ℕ → NodeName → Jobs → Bool
held_or_by id lost name jobs = list_any (λ job. (holds lost job || (id == job.id)) && touches name job) jobs

among_both : (xs ys : List NodeName) (name : NodeName) → names_contain (xs ++ ys) name ≡ (names_contain xs name || names_contain ys name)
among_both [] ys name = refl
among_both (x ∷ xs) ys name = by (name_eq x name) (among_both xs ys name)
  where
    by : (b : Bool) → names_contain (xs ++ ys) name ≡ (names_contain xs name || names_contain ys name) → cond b true (names_contain (xs ++ ys) name) ≡ (cond b true (names_contain xs name) || names_contain ys name)
    by true e = refl
    by false e = e

held_are : (jobs : Jobs) (lost : List ℕ) (name : NodeName) → names_contain (held_nodes jobs lost) name ≡ held_by_any lost name jobs
held_are [] lost name = refl
held_are (job ∷ jobs) lost name = by (holds lost job) (held_are jobs lost name)
  where
    by : (b : Bool) → names_contain (held_nodes jobs lost) name ≡ held_by_any lost name jobs
        → names_contain (flat_map (λ held. nodes_of held.spec) (cond b (job ∷ filter (λ held. reserves_nodes held || contains lost held.id) jobs) (filter (λ held. reserves_nodes held || contains lost held.id) jobs))) name
        ≡ ((b && touches name job) || held_by_any lost name jobs)
    by true rest = among_both (nodes_of job.spec) (held_nodes jobs lost) name ∙ ap (λ b. touches name job || b) rest
    by false rest = rest

-- ---- deciding

apart_by : (xs ys zs : List NodeName) → ((name : NodeName) → names_contain ys name ≡ names_contain zs name) → is_apart xs ys ≡ is_apart xs zs
apart_by [] ys zs same = refl
apart_by (x ∷ xs) ys zs same = ap (λ b. not b && is_apart xs ys) (same x) ∙ ap (λ b. not (names_contain zs x) && b) (apart_by xs ys zs same)

pub held_nodes_are_held : HeldNodesAreHeld
held_nodes_are_held jobs lost name = refl

pub held_nodes_decide : HeldNodesDecide
held_nodes_decide nodes jobs lost job held none = apart_by (nodes_of job.spec) nodes (held_nodes jobs lost) held ∙ places.held_nodes_decide jobs lost job none

-- ---- other jobs

none_with_id : (id : ℕ) (jobs : Jobs) (lost : List ℕ) → HoldsNone (others id jobs) lost id
none_with_id id [] lost = tt
none_with_id id (job ∷ jobs) lost = by (id == job.id) refl (none_with_id id jobs lost)
  where
    by : (b : Bool) → (id == job.id) ≡ b → HoldsNone (others id jobs) lost id → HoldsNone (cond (not b) (job ∷ others id jobs) (others id jobs)) lost id
    by true e rest = rest
    by false e rest = ((λ own. absurd (no_two (id == job.id) own e)), rest)

free_of_others : (jobs : Jobs) (lost : List ℕ) (job : Job) → is_free (others job.id jobs) lost job ≡ is_free jobs lost job
free_of_others [] lost job = refl
free_of_others (other ∷ jobs) lost job = by (job.id == other.id) refl (free_of_others jobs lost job)
  where
    by : (b : Bool) → (job.id == other.id) ≡ b → is_free (others job.id jobs) lost job ≡ is_free jobs lost job
        → is_free (cond (not b) (other ∷ others job.id jobs) (others job.id jobs)) lost job
        ≡ (((job.id == other.id) || not (holds lost other) || is_apart (nodes_of job.spec) (nodes_of other.spec)) && is_free jobs lost job)
    by true e rest = rest ∙ sym (ap (λ b. (b || not (holds lost other) || is_apart (nodes_of job.spec) (nodes_of other.spec)) && is_free jobs lost job) e)
    by false e rest = ap (λ b. ((job.id == other.id) || not (holds lost other) || is_apart (nodes_of job.spec) (nodes_of other.spec)) && b) rest

-- The nodes that jobs with other ids hold decide for a job.
pub others_decide : (jobs : Jobs) (lost : List ℕ) (job : Job) → Decides (held_nodes (others job.id jobs) lost) jobs lost job
others_decide jobs lost job = places.held_nodes_decide (others job.id jobs) lost job (none_with_id job.id jobs lost) ∙ free_of_others jobs lost job

-- ---- keeping held nodes

with_own : (h t m c : Bool) → ((h || true) && t || (m || (c && t))) ≡ ((h && t || m) || t)
with_own true true m c = refl
with_own true false true c = refl
with_own true false false true = refl
with_own true false false false = refl
with_own false true true c = refl
with_own false true false c = refl
with_own false false true c = refl
with_own false false false true = refl
with_own false false false false = refl

with_other : (h t m c : Bool) → ((h || false) && t || (m || c)) ≡ ((h && t || m) || c)
with_other true true m c = refl
with_other true false m c = refl
with_other false t m c = refl

-- If jobs with an id and one spec hold their nodes too, and there is one, the nodes of this spec are held too.
held_with : (name : NodeName) (job : Job) (jobs : Jobs) (lost : List ℕ) → AllByRecursion (λ other. (job.id == other.id) ≡ true → other.spec ≡ job.spec) jobs
    → held_or_by job.id lost name jobs ≡ (held_by_any lost name jobs || (contains (ids jobs) job.id && touches name job))
held_with name job [] lost same = refl
held_with name job (other ∷ jobs) lost same = by (job.id == other.id) (other.id == job.id) refl (nat_eq_equiv.symm job.id other.id) (held_with name job jobs lost same.1)
  where
    by : (b d : Bool) → (job.id == other.id) ≡ b → (job.id == other.id) ≡ d → held_or_by job.id lost name jobs ≡ (held_by_any lost name jobs || (contains (ids jobs) job.id && touches name job))
        → ((holds lost other || b) && touches name other || held_or_by job.id lost name jobs)
        ≡ ((holds lost other && touches name other || held_by_any lost name jobs) || (cond d true (contains (ids jobs) job.id) && touches name job))
    by true true e f rest =
        ap (λ b. (holds lost other || true) && touches name other || b) rest
        ∙ ap (λ s. (holds lost other || true) && names_contain (nodes_of s) name || (held_by_any lost name jobs || (contains (ids jobs) job.id && touches name job))) (same.0 e)
        ∙ with_own (holds lost other) (touches name job) (held_by_any lost name jobs) (contains (ids jobs) job.id)
        ∙ sym (ap (λ s. (holds lost other && names_contain (nodes_of s) name || held_by_any lost name jobs) || touches name job) (same.0 e))
    by false false e f rest =
        ap (λ b. (holds lost other || false) && touches name other || b) rest
        ∙ with_other (holds lost other) (touches name other) (held_by_any lost name jobs) (contains (ids jobs) job.id && touches name job)
    by true false e f rest = absurd (no_two (job.id == other.id) e f)
    by false true e f rest = absurd (no_two (job.id == other.id) f e)

held_and : (name : NodeName) (nodes : List NodeName) (job : Job) (jobs : Jobs) (lost : List ℕ) → AreHeld nodes jobs lost → IsAmong job jobs
    → names_contain (nodes ++ nodes_of job.spec) name ≡ held_or_by job.id lost name jobs
held_and name nodes job jobs lost held among =
    among_both nodes (nodes_of job.spec) name
    ∙ ap (λ b. b || touches name job) (held name ∙ held_are jobs lost name)
    ∙ sym (held_with name job jobs lost among.same ∙ ap (λ b. held_by_any lost name jobs || (b && touches name job)) among.there)

or_true : (b : Bool) → (b || true) ≡ true
or_true true = refl
or_true false = refl

or_false : (b : Bool) → (b || false) ≡ b
or_false true = refl
or_false false = refl

opened_jobs : (tables_of : JobSpec → List ℕ) (name : NodeName) (id : ℕ) (jobs : Jobs) (lost : List ℕ)
    → held_or_by id lost name jobs ≡ held_by_any lost name (changed_jobs (to_scheduled tables_of) (id ∷ []) jobs)
opened_jobs tables_of name id [] lost = refl
opened_jobs tables_of name id (job ∷ jobs) lost = by (id == job.id) (opened_jobs tables_of name id jobs lost)
  where
    by : (b : Bool) → held_or_by id lost name jobs ≡ held_by_any lost name (changed_jobs (to_scheduled tables_of) (id ∷ []) jobs)
        → ((holds lost job || b) && touches name job || held_or_by id lost name jobs)
        ≡ held_by_any lost name (cond (cond b true false) (to_scheduled tables_of job) job ∷ changed_jobs (to_scheduled tables_of) (id ∷ []) jobs)
    by true rest = ap (λ b. b && touches name job || held_or_by id lost name jobs) (or_true (holds lost job)) ∙ ap (λ b. touches name job || b) rest
    by false rest = ap (λ b. b && touches name job || held_or_by id lost name jobs) (or_false (holds lost job)) ∙ ap (λ b. holds lost job && touches name job || b) rest

pub opened_jobs_hold_their_nodes : OpenedJobsHoldTheirNodes
opened_jobs_hold_their_nodes tables_of nodes jobs lost job held among = λ name.
    held_and name nodes job jobs lost held among
    ∙ opened_jobs tables_of name job.id jobs lost
    ∙ sym (held_are (changed_jobs (to_scheduled tables_of) (job.id ∷ []) jobs) lost name)

-- A list with one more id has an id if it had it, or if it is the one.
pub contains_more : (xs : List ℕ) (y n : ℕ) → contains (xs ++ y ∷ []) n ≡ (contains xs n || (y == n))
contains_more [] y n = by (y == n)
  where
    by : (b : Bool) → cond b true false ≡ b
    by true = refl
    by false = refl
contains_more (x ∷ xs) y n = by (x == n) (contains_more xs y n)
  where
    by : (b : Bool) → contains (xs ++ y ∷ []) n ≡ (contains xs n || (y == n)) → cond b true (contains (xs ++ y ∷ []) n) ≡ (cond b true (contains xs n) || (y == n))
    by true e = refl
    by false e = e

-- An id is among ids and one id more if it is among the ids or is the last one.
pub ids_more : (ids : List ℕ) (i id : ℕ) (before after : Bool) (other : ℕ) → i < length ids → id ≡ get_or ids i id → before ≡ contains (take i ids) other → after ≡ (before || (id == other))
    → after ≡ contains (take (i + 1) ids) other
ids_more ids i id before after other below is so more =
    more
    ∙ ap (λ b. b || (id == other)) so
    ∙ sym (contains_more (take i ids) id other)
    ∙ sym (ap (λ l. contains l other) (take_more ids i id below ∙ ap (λ y. take i ids ++ y ∷ []) (sym is)))

or_or : (a b c : Bool) → ((a || b) || c) ≡ (a || (b || c))
or_or true b c = refl
or_or false b c = refl

lost_jobs : (name : NodeName) (id : ℕ) (jobs : Jobs) (lost : List ℕ) → held_or_by id lost name jobs ≡ held_by_any (lost ++ id ∷ []) name jobs
lost_jobs name id [] lost = refl
lost_jobs name id (job ∷ jobs) lost =
    ap (λ b. b && touches name job || held_or_by id lost name jobs)
    (or_or (reserves_nodes job) (contains lost job.id) (id == job.id) ∙ ap (λ b. reserves_nodes job || b) (sym (contains_more lost id job.id)))
    ∙ ap (λ b. holds (lost ++ id ∷ []) job && touches name job || b) (lost_jobs name id jobs lost)

pub lost_jobs_hold_their_nodes : LostJobsHoldTheirNodes
lost_jobs_hold_their_nodes nodes jobs lost job held among = λ name.
    held_and name nodes job jobs lost held among ∙ lost_jobs name job.id jobs lost ∙ sym (held_are jobs (lost ++ job.id ∷ []) name)

last_false : (a b : Bool) → (a || b) ≡ false → b ≡ false
last_false true b e = absurd (cc e)
last_false false b e = e

-- A change after which a job has the id that it had and holds no nodes.
record EndsJobs (change : Job → Job) : Type 0 where
  id : (job : Job) → (change job).id ≡ job.id
  holds : (job : Job) → reserves_nodes (change job) ≡ false

-- A job that held no nodes and ended holds none.
holds_none : (change : Job → Job) (lost : List ℕ) (job : Job) → EndsJobs change → holds lost job ≡ false → holds lost (change job) ≡ false
holds_none change lost job ends e =
    ap (λ b. b || contains lost (change job).id) (ends.holds job)
    ∙ ap (contains lost) (ends.id job)
    ∙ last_false (reserves_nodes job) (contains lost job.id) e

-- If a job that holds no node ends, each node is held as before.
ended_jobs : (change : Job → Job) (name : NodeName) (id : ℕ) (jobs : Jobs) (lost : List ℕ) → EndsJobs change → HoldsNone jobs lost id
    → held_by_any lost name jobs ≡ held_by_any lost name (changed_jobs change (id ∷ []) jobs)
ended_jobs change name id [] lost ends none = refl
ended_jobs change name id (job ∷ jobs) lost ends none = by (id == job.id) none.0 (ended_jobs change name id jobs lost ends none.1)
  where
    by : (b : Bool) → (b ≡ true → holds lost job ≡ false) → held_by_any lost name jobs ≡ held_by_any lost name (changed_jobs change (id ∷ []) jobs)
        → (holds lost job && touches name job || held_by_any lost name jobs) ≡ held_by_any lost name (cond (cond b true false) (change job) job ∷ changed_jobs change (id ∷ []) jobs)
    by true own rest =
        ap (λ b. b && touches name job || held_by_any lost name jobs) (own refl)
        ∙ rest
        ∙ sym (ap (λ b. b && touches name (change job) || held_by_any lost name (changed_jobs change (id ∷ []) jobs)) (holds_none change lost job ends (own refl)))
    by false own rest = ap (λ b. holds lost job && touches name job || b) rest

still_held : (change : Job → Job) → EndsJobs change → KeepsHeld change
still_held change ends nodes jobs lost id held none = λ name.
    held name ∙ held_are jobs lost name ∙ ended_jobs change name id jobs lost ends none ∙ sym (held_are (changed_jobs change (id ∷ []) jobs) lost name)

pub ended_jobs_hold_none : EndedJobsHoldNone
ended_jobs_hold_none = record {
  completed = still_held to_completed (record { id = λ job. refl; holds = λ job. refl });
  failed = still_held to_failed (record { id = λ job. refl; holds = λ job. refl });
}
