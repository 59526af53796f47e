-- The results of reading a text and of running lines.
use Rattle.std.proofs.Common.{◌≡◌, refl, ap, ◌∙◌, ℕ, List, [], ◌∷◌, length, arith, Result, Ok, Err, ◌⊎◌, inl, inr, drop, length-drop}
use Rattle.std.specs.Prelude.{OnOk}
use Rattle.fleet_text.specs.declared.error.TextError.{TextError}
use Rattle.fleet_text.specs.declared.error.TextError.TheVariants as read
use Rattle.fleet_run.specs.declared.script.FleetError.{FleetError}
use Rattle.fleet_run.specs.declared.script.FleetError.TheVariants as fleet_error
use Rattle.fleet_run.specs.Errors.{as_fleet_error}

-- The reader's error, a bad line or out of memory, becomes the error of the script.
pub exact_refusal : {T : Type 0} (t : TextError) (r : Result (Unit {0}) FleetError) (y : FleetError) (n : ℕ) → r ≡ Err y → y ≡ as_fleet_error t
    → ((◌≡◌ {A = Result T TextError} (Err t) (Err (read.BadLine n))) ⊎ (◌≡◌ {A = Result T TextError} (Err t) (Err read.Memory))) → (r ≡ Err (fleet_error.BadLine n)) ⊎ (r ≡ Err fleet_error.Memory)
exact_refusal t r y n e is (inl h) = let same : t ≡ read.BadLine n = cc in inl (e ∙ ap (λ x. Err x) (is ∙ ap as_fleet_error same))
exact_refusal t r y n e is (inr h) = let same : t ≡ read.Memory = cc in inr (e ∙ ap (λ x. Err x) (is ∙ ap as_fleet_error same))

-- Lines that were read are not refused.
pub not_refused : {T : Type 0} (r : Result T TextError) (lines : T) (n : ℕ) → r ≡ Ok lines → (r ≡ Err (read.BadLine n)) ⊎ (r ≡ Err read.Memory) → ⊥
not_refused r lines n ok (inl e) = cc
not_refused r lines n ok (inr e) = cc

pub on_ok : {T E : Type 0} (P Q : Type 0) (r : Result T E) → (P → Q) → OnOk r P → OnOk r Q
on_ok P Q (Ok x) f h = f h
on_ok P Q (Err e) f h = h

pub nothing_left : {A : Type 0} (items : List A) → items ≡ drop 1 items → items ≡ []
nothing_left [] same = refl
nothing_left (x ∷ items) same = absurd (omega (arith, ap length same, length-drop 1 (x ∷ items)))
