-- Lists of parties by their numbers.
use Rattle.std.proofs.Common.{◌≡◌, refl, ap, List, [], ◌∷◌, cond, Bool, true, false, Option, Some, None}
use Rattle.std.specs.Prelude.{filter, find, is_some, map, option_map, ◌||◌}
use Rattle.std.specs.List.{list_any}

pub filter_map : {A B : Type 0} (f : A → B) (p : B → Bool) (xs : List A) → filter p (map f xs) ≡ map f (filter (λ x. p (f x)) xs)
filter_map f p [] = refl
filter_map {A} {B} f p (x ∷ xs) = by (p (f x)) (filter_map f p xs)
  where
    by : (b : Bool) → filter p (map f xs) ≡ map f (filter (λ x. p (f x)) xs) → cond b (f x ∷ filter p (map f xs)) (filter p (map f xs)) ≡ map f (cond b (x ∷ filter (λ x. p (f x)) xs) (filter (λ x. p (f x)) xs))
    by true rest = ap (λ (ys : List B). f x ∷ ys) rest
    by false rest = rest

-- The image of a value is there if the value is.
pub some_of : {A B : Type 0} (f : A → B) (o : Option A) → is_some o ≡ is_some (option_map f o)
some_of f None = refl
some_of f (Some x) = refl

pub none_of : {A B : Type 0} (f : A → B) (o : Option A) → is_some o ≡ false → option_map f o ≡ None
none_of f None e = refl
none_of f (Some x) e = absurd (cc e)
