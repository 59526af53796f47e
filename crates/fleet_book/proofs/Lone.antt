-- A job in the one tree with the prefix of its segment.
use Rattle.std.proofs.Common.{◌≡◌, refl, sym, ◌∙◌, ap, ℕ, zero, suc, ◌<◌, ◌+◌, List, [], ◌∷◌, take, drop, length, map, ◌≢◌, Bool, true, false, not, cond, arith}
use Rattle.std.specs.Prelude.{◌||◌, bytes_eq, slice_get, slice_set, IfSome, Option, Some, None}
use Rattle.std.specs.List.{list_any, prefix_len}
use Rattle.fleet_tree.specs.declared.run.SortedRun.{SortedRun}
use Rattle.fleet_tree.specs.declared.tree.LsmTreeState.{LsmTreeState}
use Rattle.fleet_jobs.specs.Specs.{segment_of, sources_of}
use Rattle.fleet_jobs.specs.declared.spec.CompactionSpec.{CompactionSpec}
use Rattle.fleet_book.specs.Exchanges.{IsLone, is_absent}
use Rattle.fleet_book.specs.Finishes.{finished_tree, segment_after}

abbrev Segments : Type 0
Segments = List (List ℕ × LsmTreeState)

absent_parts : (prefix : List ℕ) (s : List ℕ × LsmTreeState) (segments : Segments) → is_absent prefix (s ∷ segments) ≡ true
    → (bytes_eq prefix s.0 ≡ false) × (is_absent prefix segments ≡ true)
absent_parts prefix s segments absent = by (bytes_eq prefix s.0) refl absent
  where
    by : (b : Bool) → bytes_eq prefix s.0 ≡ b → not (b || list_any (λ other. bytes_eq prefix other.0) segments) ≡ true
        → (bytes_eq prefix s.0 ≡ false) × (is_absent prefix segments ≡ true)
    by true is none = absurd (cc none)
    by false is none = (is, none)

-- The first segment with a prefix is the only one if none behind has it.
pub first_is_lone : (prefix : List ℕ) (segments : Segments) (place : ℕ) → place ≡ prefix_len (λ s. not (bytes_eq prefix s.0)) segments → place < length segments
    → is_absent prefix (drop (place + 1) segments) ≡ true → IsLone place prefix segments
first_is_lone prefix [] place is within absent = absurd (omega (arith, within))
first_is_lone prefix (s ∷ segments) place is within absent = by (bytes_eq prefix s.0) refl place is within absent (first_is_lone prefix segments)
  where
    by : (b : Bool) → bytes_eq prefix s.0 ≡ b → (place : ℕ) → place ≡ cond (not b) (1 + prefix_len (λ other. not (bytes_eq prefix other.0)) segments) 0 → place < length (s ∷ segments) → is_absent prefix (drop (place + 1) (s ∷ segments)) ≡ true
        → ((n : ℕ) → n ≡ prefix_len (λ other. not (bytes_eq prefix other.0)) segments → n < length segments → is_absent prefix (drop (n + 1) segments) ≡ true → IsLone n prefix segments)
        → IsLone place prefix (s ∷ segments)
    by true has zero is within absent rest = (has, absent)
    by true has (suc place) is within absent rest = absurd (omega (arith, is))
    by false other zero is within absent rest = absurd (omega (arith, is))
    by false other (suc place) is within absent rest =
        let next : suc place + 1 ≡ suc (place + 1) = omega arith in
        let absent' : is_absent prefix (drop (suc (place + 1)) (s ∷ segments)) ≡ true = rw (← next) absent in
        (other, rest place (omega (arith, is)) (omega (arith, within)) absent')

-- There is a segment at the place.
lone_is_there : (prefix : List ℕ) (segments : Segments) (place : ℕ) → IsLone place prefix segments → slice_get segments place ≢ None
lone_is_there prefix [] place lone none = absurd lone
lone_is_there prefix (s ∷ segments) zero lone none = cc none
lone_is_there prefix (s ∷ segments) (suc place) lone none = lone_is_there prefix segments place lone.1 none

module _ (spec : CompactionSpec) (output : Option SortedRun) where
  stays : (s : List ℕ × LsmTreeState) → bytes_eq (segment_of spec) s.0 ≡ false → s ≡ segment_after spec output s
  stays s other = ap (λ b. (s.0, cond b (finished_tree (sources_of spec) output s.1) s.1)) (sym other)

  -- Segments with other prefixes stay.
  pub absent_stay : (segments : Segments) → is_absent (segment_of spec) segments ≡ true → segments ≡ map (segment_after spec output) segments
  absent_stay [] absent = refl
  absent_stay (s ∷ segments) absent =
      let parts = absent_parts (segment_of spec) s segments absent in
      ap (λ rest. s ∷ rest) (absent_stay segments parts.1) ∙ ap (λ first. first ∷ map (segment_after spec output) segments) (stays s parts.0)

  -- The one segment with the prefix changes.
  pub lone_changes : (segments : Segments) (place : ℕ) (s : List ℕ × LsmTreeState) → Some s ≡ slice_get segments place → IsLone place (segment_of spec) segments
      → slice_set segments place (s.0, finished_tree (sources_of spec) output s.1) ≡ map (segment_after spec output) segments
  lone_changes [] place s at lone = absurd lone
  lone_changes (first ∷ segments) zero s at lone =
      let same : s ≡ first = cc at in
      ap (λ rest. (s.0, finished_tree (sources_of spec) output s.1) ∷ rest) (absent_stay segments lone.1)
      ∙ ap (λ t. (t.0, finished_tree (sources_of spec) output t.1) ∷ map (segment_after spec output) segments) same
      ∙ ap (λ b. (first.0, cond b (finished_tree (sources_of spec) output first.1) first.1) ∷ map (segment_after spec output) segments) (sym lone.0)
  lone_changes (first ∷ segments) (suc place) s at lone =
      ap (λ rest. first ∷ rest) (lone_changes segments place s at lone.1)
      ∙ ap (λ t. t ∷ map (segment_after spec output) segments) (stays first lone.0)

  -- All segments after the one with the prefix changed.
  pub lone_finished : (segments after : Segments) (place : ℕ) → IsLone place (segment_of spec) segments
      → IfSome (slice_get segments place) (λ s. after ≡ slice_set segments place (s.0, finished_tree (sources_of spec) output s.1)) → after ≡ map (segment_after spec output) segments
  lone_finished segments after place lone given = by (slice_get segments place) refl given
    where
      by : (o : Option (List ℕ × LsmTreeState)) → slice_get segments place ≡ o → IfSome o (λ s. after ≡ slice_set segments place (s.0, finished_tree (sources_of spec) output s.1))
          → after ≡ map (segment_after spec output) segments
      by (Some s) at changed = changed ∙ lone_changes segments place s (sym at) lone
      by None at changed = absurd (lone_is_there (segment_of spec) segments place lone at)
