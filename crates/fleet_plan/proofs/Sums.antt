-- The sum of the bytes of anchors.
use Rattle.std.proofs.Common.{◌≡◌, refl, sym, ◌∙◌, ap, ◌+◌, List, [], ◌∷◌}
use Rattle.std.specs.Prelude.{fold, sum_by}
use Rattle.std.proofs.lemmas.List.Sums.{sum_by-cons}
use Rattle.row_model.specs.Written.Plan as model
use Rattle.row_model.specs.Written.Sizes.{saturated_sum}
use Rattle.fleet_tree.proofs.Sizes.{fold-is}
use Rattle.fleet_plan.specs.declared.anchor.Anchor.{Anchor}
use Rattle.fleet_plan.specs.Anchors.{anchor_of, anchors_of}

bytes-mapped : (anchors : List Anchor) → sum_by (λ (a : Anchor). a.bytes) anchors ≡ sum_by (λ (a : model.Anchor). a.bytes) (anchors_of anchors)
bytes-mapped [] = refl
bytes-mapped (a ∷ anchors) =
    sum_by-cons (λ (a : Anchor). a.bytes) a anchors
    ∙ ap (λ n. a.bytes + n) (bytes-mapped anchors)
    ∙ sym (sum_by-cons (λ (a : model.Anchor). a.bytes) (anchor_of a) (anchors_of anchors))

pub total-is : (anchors : List Anchor) → fold (λ total (a : Anchor). saturated_sum (total + a.bytes)) 0 anchors ≡ saturated_sum (sum_by (λ (a : model.Anchor). a.bytes) (anchors_of anchors))
total-is anchors = fold-is (λ (a : Anchor). a.bytes) anchors ∙ ap saturated_sum (bytes-mapped anchors)
