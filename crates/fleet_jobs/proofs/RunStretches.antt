-- Sources that are among the runs of a tree, one after the other.
use Rattle.std.proofs.Common.{◌≡◌, refl, sym, ◌∙◌, ap, ℕ, suc, ◌+◌, List, [], ◌∷◌, map, drop, Bool, true, false, not, cond, arith}
use Rattle.std.specs.Prelude.{◌==◌, is_some, slice_get, Option, Some, None}
use Rattle.std.specs.List.{position_or_len}
use Rattle.std.proofs.lemmas.Cmp.{nat_eq_equiv}
use Rattle.fleet_model.specs.Nodes.{NodeName, L0, Run}
use Rattle.fleet_model.specs.Sources.{after_front, older_nodes, or_later}
use Rattle.fleet_tree.specs.declared.run.SortedRun.{SortedRun}
use Rattle.fleet_jobs.specs.Sources.{name_of, run_id_of}
use Rattle.fleet_jobs.specs.declared.source_id.SourceId.{SourceId}
use Rattle.fleet_jobs.specs.declared.source_id.SourceId.TheVariants.{SortedRun as OfRun, SstView}

-- The names of runs.
abbrev pub names_of_runs : List SortedRun → List NodeName
names_of_runs runs = map (λ run. Run run.id) runs

-- Sources with which the runs begin are among them, one after the other.
pub stand_in_front : (sources : List NodeName) (runs : List SortedRun) → true ≡ is_some (after_front sources (names_of_runs runs)) → true ≡ is_some (older_nodes sources (names_of_runs runs))
stand_in_front sources [] e = e
stand_in_front sources (run ∷ runs) e = by (after_front sources (names_of_runs (run ∷ runs))) e
  where
    by : (o : Option (List NodeName)) → true ≡ is_some o → true ≡ is_some (or_later o (older_nodes sources (names_of_runs runs)))
    by None f = absurd (cc f)
    by (Some rest) f = refl

-- ---- where the first source is

-- No sources are among any runs.
pub none_needed : (sources : List SourceId) (runs : List SortedRun) → None ≡ slice_get sources 0 → true ≡ is_some (older_nodes (map name_of sources) (names_of_runs runs))
none_needed [] [] is = refl
none_needed [] (run ∷ runs) is = refl
none_needed (source ∷ sources) runs is = absurd (cc is)

no_flush_among : (id : ℕ) (sources : List NodeName) (runs : List SortedRun) → false ≡ is_some (older_nodes (L0 id ∷ sources) (names_of_runs runs))
no_flush_among id sources [] = refl
no_flush_among id sources (run ∷ runs) = no_flush_among id sources runs

-- Sources of which the first is a flush are not among runs.
pub not_from_flush : (sources : List SourceId) (first : SourceId) (runs : List SortedRun) → Some first ≡ slice_get sources 0 → None ≡ run_id_of first
    → false ≡ is_some (older_nodes (map name_of sources) (names_of_runs runs))
not_from_flush [] first runs is flush = absurd (cc is)
not_from_flush (SstView id ∷ sources) first runs is flush = no_flush_among id (map name_of sources) runs
not_from_flush (OfRun id ∷ sources) first runs is flush = let same : first ≡ OfRun id = cc is in absurd (cc (flush ∙ ap run_id_of same))

-- Sources of which the first is a run begin at no run before the first one with its id.
none_before : (id : ℕ) (sources : List NodeName) (runs : List SortedRun)
    → older_nodes (Run id ∷ sources) (names_of_runs (drop (position_or_len (λ run. run.id == id) runs) runs)) ≡ older_nodes (Run id ∷ sources) (names_of_runs runs)
none_before id sources [] = refl
none_before id sources (run ∷ runs) = by (run.id == id) refl (none_before id sources runs)
  where
    by : (b : Bool) → (run.id == id) ≡ b
        → older_nodes (Run id ∷ sources) (names_of_runs (drop (position_or_len (λ r. r.id == id) runs) runs)) ≡ older_nodes (Run id ∷ sources) (names_of_runs runs)
        → older_nodes (Run id ∷ sources) (names_of_runs (drop (cond (not b) (1 + position_or_len (λ r. r.id == id) runs) 0) (run ∷ runs))) ≡ older_nodes (Run id ∷ sources) (names_of_runs (run ∷ runs))
    by true same rest = refl
    by false other rest =
        let next : 1 + position_or_len (λ (r : SortedRun). r.id == id) runs ≡ suc (position_or_len (λ (r : SortedRun). r.id == id) runs) = omega arith in
        ap (λ n. older_nodes (Run id ∷ sources) (names_of_runs (drop n (run ∷ runs)))) next
        ∙ rest
        ∙ sym (ap (λ b. or_later (cond b (after_front sources (names_of_runs runs)) None) (older_nodes (Run id ∷ sources) (names_of_runs runs))) (nat_eq_equiv.symm id run.id ∙ other))

pub from_first : (sources : List SourceId) (first : SourceId) (id place : ℕ) (runs rest : List SortedRun) → Some first ≡ slice_get sources 0 → Some id ≡ run_id_of first
    → place ≡ position_or_len (λ run. run.id == id) runs → rest ≡ drop place runs
    → older_nodes (map name_of sources) (names_of_runs rest) ≡ older_nodes (map name_of sources) (names_of_runs runs)
from_first [] first id place runs rest is named at from = absurd (cc is)
from_first (SstView other ∷ sources) first id place runs rest is named at from = let same : first ≡ SstView other = cc is in absurd (cc (named ∙ ap run_id_of same))
from_first (OfRun other ∷ sources) first id place runs rest is named at from =
    let same : first ≡ OfRun other = cc is in
    let one : id ≡ other = cc (named ∙ ap run_id_of same) in
    let there : place ≡ position_or_len (λ (run : SortedRun). run.id == other) runs = at ∙ ap (λ n. position_or_len (λ (run : SortedRun). run.id == n) runs) one in
    ap (λ left. older_nodes (Run other ∷ map name_of sources) (names_of_runs left)) (from ∙ ap (λ n. drop n runs) there)
    ∙ none_before other (map name_of sources) runs
