-- Batches of the images of a list, what holds of the elements of batches, and answers of which an error
-- becomes None.
use Rattle.std.proofs.Common.{◌≡◌, ◌∙◌, refl, ap, ℕ, ◌+◌, List, [], ◌∷◌, map, Bool, true, false, Ok, Err}
use Rattle.std.specs.Prelude.{nat_le, Result, if◌then◌else◌}
use Rattle.std.specs.List.{AllByRecursion}
use Rattle.std.specs.Result.{result_ok}
use Rattle.row_model.specs.FoldedRows.{cons_both}
use Rattle.row_laws.specs.Batches.{put_first, batches_from, batches}
use Rattle.fleet_rows.specs.declared.errors.SlateDBError.{SlateDBError}
use Rattle.fleet_fold.specs.Folded.{one_more}

module _ {A B : Type 0} (f : A → B) where
  put_mapped : (full : Bool) (x : A) (bs : List (List A)) → put_first full (f x) (map (map f) bs) ≡ map (map f) (put_first full x bs)
  put_mapped true x bs = refl
  put_mapped false x [] = refl
  put_mapped false x (b ∷ bs) = refl

  from_mapped : (n standing : ℕ) (xs : List A) → batches_from n standing (map f xs) ≡ map (map f) (batches_from n standing xs)
  from_mapped n standing [] = refl
  from_mapped n standing (x ∷ xs) =
      let full : Bool = nat_le n (standing + 1) in
      ap (put_first full (f x)) (from_mapped n (if full then 0 else standing + 1) xs) ∙ put_mapped full x (batches_from n (if full then 0 else standing + 1) xs)

  pub batches_mapped : (n : ℕ) (xs : List A) → batches n (map f xs) ≡ map (map f) (batches n xs)
  batches_mapped n xs = from_mapped n 0 xs

module _ {A : Type 0} (P : A → Type 0) where
  abbrev pub AllIn : List (List A) → Type 0
  AllIn bs = AllByRecursion (λ b. AllByRecursion P b) bs

  put_all : (full : Bool) (x : A) (bs : List (List A)) → P x → AllIn bs → AllIn (put_first full x bs)
  put_all true x bs h all = ((h, tt), all)
  put_all false x [] h all = ((h, tt), tt)
  put_all false x (b ∷ bs) h all = ((h, all.0), all.1)

  from_all : (n standing : ℕ) (xs : List A) → AllByRecursion P xs → AllIn (batches_from n standing xs)
  from_all n standing [] all = tt
  from_all n standing (x ∷ xs) all =
      let full : Bool = nat_le n (standing + 1) in
      put_all full x (batches_from n (if full then 0 else standing + 1) xs) all.0 (from_all n (if full then 0 else standing + 1) xs all.1)

  pub batches_all : (n : ℕ) (xs : List A) → AllByRecursion P xs → AllIn (batches n xs)
  batches_all n xs all = from_all n 0 xs all

-- One answer before all others, where an error becomes None.

module _ {A : Type 0} where
  pub more_ok : (a : Result A SlateDBError) (others : Result (List A) SlateDBError) → result_ok (one_more a others) ≡ cons_both (result_ok a) (result_ok others)
  more_ok (Err e) others = refl
  more_ok (Ok a) (Err e) = refl
  more_ok (Ok a) (Ok others) = refl
