-- What a seek of a merge leaves unchanged.
use Rattle.std.proofs.Common.{◌≡◌, ◌≢◌, ◌∙◌, sym, refl, ap, ℕ, List, [], ◌∷◌, suc, zero, Option, Some, true, false, get_or, slice_get}
use Rattle.std.proofs.lemmas.Option.{get_or_from_slice_get}
use Rattle.std.proofs.Math.ListN.{set}
use Rattle.row_laws.specs.Keys.{is_below}
use Rattle.fleet_rows.specs.declared.row.RowEntry.{RowEntry}
use Rattle.fleet_iter.specs.Merge.{head_passes, LeavesFrom}

set_elsewhere : {X : Type 0} (xs : List X) (k i : ℕ) (y : X) → i ≢ k → slice_get (set xs k y) i ≡ slice_get xs i
set_elsewhere [] k i y far = refl
set_elsewhere (x ∷ xs) zero zero y far = absurd (far refl)
set_elsewhere (x ∷ xs) zero (suc i) y far = refl
set_elsewhere (x ∷ xs) (suc k) zero y far = refl
set_elsewhere (x ∷ xs) (suc k) (suc i) y far = set_elsewhere xs k i y (λ e. far (ap suc e))

-- A step at a place whose head is below the key changes no source whose head is not below the key.
pub leaves_step : {T : Type 0} (key : List ℕ) (hs hs1 : List (Option RowEntry)) (xs xs1 : List T) (k : ℕ) (g h : Option RowEntry) (y : T) → g ≡ get_or hs1 k g → head_passes (is_below key) g ≡ true → LeavesFrom key hs xs hs1 xs1 → LeavesFrom key hs xs (set hs1 k h) (set xs1 k y)
leaves_step key hs hs1 xs xs1 k g h y e low left i x at high =
    let before = left i x at high in
    let far : i ≢ k = λ same.
    let here : g ≡ Some x = e ∙ (ap (λ n. get_or hs1 n g) (sym same) ∙ get_or_from_slice_get hs1 i (Some x) g before.0) in
    let clash : true ≡ false = sym low ∙ (ap (head_passes (is_below key)) here ∙ high) in
    absurd (cc clash) in
    (set_elsewhere hs1 k i h far ∙ before.0, set_elsewhere xs1 k i y far ∙ before.1)
