-- Which nodes jobs hold, given as a list in any order.
use Rattle.std.specs.Prelude.{◌≡◌, ℕ, ◌==◌, true, false, ◌||◌, not, List, filter}
use Rattle.std.specs.BTreeSet.{BTreeSet, contains as set_contains}
use Rattle.std.specs.List.{AllByRecursion}
use Rattle.std.specs.Ordering.{nat_cmp}
use Rattle.fleet_model.specs.Work.Gates.{is_free, reserves_nodes}
use Rattle.fleet_model.specs.Jobs.{Job, Jobs, contains, ids, nodes_of}
use Rattle.fleet_model.specs.Nodes.{NodeName, names_contain}
use Rattle.fleet_model.specs.Sources.{is_apart}
use Rattle.fleet_jobs.specs.Places.{held_nodes}

-- The job touches none of these nodes exactly if it touches no node that another job holds.
abbrev pub Decides : (nodes : List NodeName) (jobs : Jobs) (lost : List ℕ) (job : Job) → Type 0
Decides nodes jobs lost job = is_apart (nodes_of job.spec) nodes ≡ is_free jobs lost job

-- These are the nodes that the jobs hold, in any order.
abbrev pub AreHeld : List NodeName → Jobs → List ℕ → Type 0
AreHeld nodes jobs lost = (name : NodeName) → names_contain nodes name ≡ names_contain (held_nodes jobs lost) name

-- No job with this id holds nodes.
abbrev pub HoldsNone : Jobs → List ℕ → ℕ → Type 0
HoldsNone jobs lost id =
    AllByRecursion (λ other. (id == other.id) ≡ true → (reserves_nodes other || contains lost other.id) ≡ false) jobs

-- The job, or one with its id and its spec, is among the jobs, and none with its id has another spec.
pub record IsAmong (job : Job) (jobs : Jobs) : Type 0 where
  pub there : contains (ids jobs) job.id ≡ true
  pub same : AllByRecursion (λ other. (job.id == other.id) ≡ true → other.spec ≡ job.spec) jobs

-- The jobs that have another id.
abbrev pub others : ℕ → Jobs → Jobs
others id jobs = filter (λ job. not (id == job.id)) jobs

-- The set has these ids.
abbrev pub HasIds : BTreeSet ℕ → List ℕ → Type 0
HasIds set ids = (id : ℕ) → set_contains nat_cmp set id ≡ contains ids id
