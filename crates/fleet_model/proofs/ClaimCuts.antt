-- The objects that a claim got, entry by entry: those after the first entry if it is the claim, and otherwise
-- those that a search of the later entries finds.
use Rattle.std.proofs.Common.{◌≡◌, refl, ℕ, List, ◌∷◌, Option, Some, None}
use Rattle.std.specs.Prelude.{option_map}
use Rattle.fleet_model.specs.Nodes.{Tables}
use Rattle.fleet_model.specs.Jobs.{JobSpec}
use Rattle.fleet_model.specs.History.{Entry}
use Rattle.fleet_model.specs.Past.Replay.{Objects, after_entry}
use Rattle.fleet_model.specs.Past.Claimed.{claimed_in, ClaimCut, with_first, cut_here_or, cut_at_claim, objects_at_get, objects_after_claim}

-- If a worker claims, the objects at its get, and otherwise those that the later entries give.
abbrev pub at_claim_or : (claimed : Option ℕ) → (ℕ → Option Objects) → Option Objects → Option Objects
at_claim_or None got later = later
at_claim_or (Some worker) got later = got worker

-- The objects that the claim of this attempt got.
abbrev pub objects_got : Tables → (ℕ → JobSpec) → (job attempt : ℕ) → List Entry → (start : Objects) → Option Objects
objects_got tables specs job attempt history start = objects_after_claim tables specs start (cut_at_claim job attempt history)

-- The objects that a claim got are those at its worker's get if the first entry is the claim, and
-- otherwise those that the later entries give.
pub claim_step : (tables : Tables) (specs : ℕ → JobSpec) (job attempt : ℕ) (entry : Entry) (history : List Entry) (start : Objects)
    → let after = after_entry tables specs entry start in
    objects_got tables specs job attempt (entry ∷ history) start
    ≡ at_claim_or (claimed_in job attempt entry) (λ worker. objects_at_get tables specs worker history after) (objects_got tables specs job attempt history after)
claim_step tables specs job attempt entry history start = by (claimed_in job attempt entry)
  where
    later : (o : Option ClaimCut) → objects_after_claim tables specs start (option_map (with_first entry) o) ≡ objects_after_claim tables specs (after_entry tables specs entry start) o
    later None = refl
    later (Some cut) = refl

    by : (claimed : Option ℕ) → objects_after_claim tables specs start (cut_here_or claimed entry history (cut_at_claim job attempt history))
        ≡ at_claim_or claimed (λ worker. objects_at_get tables specs worker history (after_entry tables specs entry start)) (objects_got tables specs job attempt history (after_entry tables specs entry start))
    by None = later (cut_at_claim job attempt history)
    by (Some worker) = refl
