-- Which keys lie in a range of the model, and which keys lie in the range of a prefix.
use Rattle.std.specs.Prelude.{◌≡◌, ℕ, ◌<◌, Bool, true, false, ◌&&◌, not, List, [], ◌∷◌, ◌++◌, Option, Some, None, IfSome, IfNone, nat_eq}
use Rattle.std.proofs.Common.{refl, sym, ap, ◌∙◌}
use Rattle.std.specs.List.{starts_with}
use Rattle.std.specs.Ordering.{is_lt, is_gt}
use Rattle.std.proofs.lemmas.Cmp.{nat_list_cmp_total, upto}
use Rattle.std.proofs.lemmas.List.Elements.{recursion_from_All}
use Rattle.std.specs.declared.ops.Bound.{Bound}
use Rattle.std.specs.declared.ops.Bound.TheVariants.{Included, Excluded, Unbounded}
use Rattle.row_model.specs.Rows.{key_cmp}
use Rattle.row_model.specs.Ranges.{is_in_range, is_after_start, is_before_end}
use Rattle.fleet_range.specs.Keys.{IsBytes, end_before, model_bound, placed_range, placed_ends, prefix_ends, prefix_start, range_of, successor}
use Rattle.fleet_range.specs.Ranges.{Ends, intersection, is_from_start, is_in, is_non_empty, is_to_end}
use Rattle.std.specs.Option.{option_map}
use Rattle.fleet_range.proofs.Cuts.{not_greater}
use Rattle.fleet_range.proofs.Prefixes.{from_prefix_start, is_short_of, key_cmp-append, prefix_keys, short_below, short_of_end}
use Rattle.fleet_range.proofs.Taken.{in_none, intersection_both, intersection_none}

start_in_model : (start : Bound (List ℕ)) (key : List ℕ) → is_from_start key_cmp start key ≡ is_after_start (model_bound start) key
start_in_model Unbounded key = refl
start_in_model (Included x) key = refl
start_in_model (Excluded x) key = refl

end_in_model : (end : Bound (List ℕ)) (key : List ℕ) → is_to_end key_cmp end key ≡ is_before_end (model_bound end) key
end_in_model Unbounded key = refl
end_in_model (Included x) key = refl
end_in_model (Excluded x) key = refl

-- A key lies in the model's range exactly if it lies between the bounds in the order of keys.
pub in_model : (ends : Ends (List ℕ)) (key : List ℕ) → is_in_range (range_of ends) key ≡ is_in key_cmp ends key
in_model ends key = sym (λ i. start_in_model ends.0 key i && end_in_model ends.1 key i)

module _ {X : Type 0} (show : X → Ends (List ℕ)) where
  pub keys_of_both : (a b : Ends (List ℕ)) (r : Option X) → option_map show r ≡ intersection key_cmp a b → IfSome r (λ x. (key : List ℕ) → is_in_range (range_of (show x)) key ≡ (is_in_range (range_of a) key && is_in_range (range_of b) key))
  keys_of_both a b None e = tt
  keys_of_both a b (Some x) e = λ key. in_model (show x) key ∙ intersection_both nat_list_cmp_total show a b (Some x) e key ∙ sym (λ i. in_model a key i && in_model b key i)

  pub keys_of_none : (a b : Ends (List ℕ)) (r : Option X) → option_map show r ≡ intersection key_cmp a b → IfNone r ((key : List ℕ) → (is_in_range (range_of a) key && is_in_range (range_of b) key) ≡ false)
  keys_of_none a b (Some x) e = tt
  keys_of_none a b None e = λ key. (λ i. in_model a key i && in_model b key i) ∙ intersection_none nat_list_cmp_total show a b None e key

from_start_of_prefix : (prefix key : List ℕ) → is_from_start key_cmp (prefix_start prefix) key ≡ not (is_gt (key_cmp prefix key))
from_start_of_prefix [] [] = refl
from_start_of_prefix [] (x ∷ key) = refl
from_start_of_prefix (b ∷ prefix) key = refl

to_end_before : (end : Option (List ℕ)) (key : List ℕ) → is_to_end key_cmp (end_before end) key ≡ is_short_of end key
to_end_before None key = refl
to_end_before (Some end) key = refl

-- A key of bytes lies in the range of the prefix exactly if it begins with the prefix.
pub keys_of_prefix : (prefix key : List ℕ) → IsBytes key → is_in_range (range_of (prefix_ends prefix)) key ≡ starts_with nat_eq key prefix
keys_of_prefix prefix key bytes =
    in_model (prefix_ends prefix) key
    ∙ (λ i. from_start_of_prefix prefix key i && to_end_before (successor prefix) key i)
    ∙ prefix_keys prefix key (recursion_from_All (λ b. b < 256) key bytes)

start_placed : (prefix suffix : List ℕ) (start : Bound (List ℕ)) → is_from_start key_cmp (placed_range prefix (prefix_start prefix) start) (prefix ++ suffix) ≡ is_from_start key_cmp start suffix
start_placed prefix suffix Unbounded = from_start_of_prefix prefix (prefix ++ suffix) ∙ ap not (from_prefix_start prefix suffix)
start_placed prefix suffix (Included x) = ap (λ r. not (is_gt r)) (key_cmp-append prefix x suffix)
start_placed prefix suffix (Excluded x) = ap is_lt (key_cmp-append prefix x suffix)

end_placed : (prefix suffix : List ℕ) (end : Bound (List ℕ)) → is_to_end key_cmp (placed_range prefix (end_before (successor prefix)) end) (prefix ++ suffix) ≡ is_to_end key_cmp end suffix
end_placed prefix suffix Unbounded = to_end_before (successor prefix) (prefix ++ suffix) ∙ short_of_end prefix suffix
end_placed prefix suffix (Included y) = ap (λ r. not (is_gt r)) (key_cmp-append prefix suffix y)
end_placed prefix suffix (Excluded y) = ap is_lt (key_cmp-append prefix suffix y)

-- The prefix with a suffix lies in the placed range exactly if the suffix lies in the subrange.
pub placed_inside : (prefix : List ℕ) (ends : Ends (List ℕ)) (suffix : List ℕ) → is_in_range (range_of (placed_ends prefix ends)) (prefix ++ suffix) ≡ is_in_range (range_of ends) suffix
placed_inside prefix ends suffix =
    in_model (placed_ends prefix ends) (prefix ++ suffix)
    ∙ (λ i. start_placed prefix suffix ends.0 i && end_placed prefix suffix ends.1 i)
    ∙ sym (in_model ends suffix)

false_from_not : (b : Bool) → not b ≡ true → b ≡ false
false_from_not true h = cc
false_from_not false h = refl

from_prefix_on : (prefix key : List ℕ) (start : Bound (List ℕ)) → is_from_start key_cmp (placed_range prefix (prefix_start prefix) start) key ≡ true → is_gt (key_cmp prefix key) ≡ false
from_prefix_on prefix key Unbounded h = false_from_not _ (sym (from_start_of_prefix prefix key) ∙ h)
from_prefix_on prefix key (Included x) h = upto nat_list_cmp_total prefix (prefix ++ x) key (from_prefix_start prefix x) (false_from_not _ h)
from_prefix_on prefix key (Excluded x) h = upto nat_list_cmp_total prefix (prefix ++ x) key (from_prefix_start prefix x) (not_greater _ h)

short_of_placed : (prefix key : List ℕ) (end : Bound (List ℕ)) → is_to_end key_cmp (placed_range prefix (end_before (successor prefix)) end) key ≡ true → is_short_of (successor prefix) key ≡ true
short_of_placed prefix key Unbounded h = sym (to_end_before (successor prefix) key) ∙ h
short_of_placed prefix key (Included y) h = short_below (successor prefix) key (prefix ++ y) (false_from_not _ h) (short_of_end prefix y)
short_of_placed prefix key (Excluded y) h = short_below (successor prefix) key (prefix ++ y) (not_greater _ h) (short_of_end prefix y)

left_of : (a b : Bool) → (a && b) ≡ true → a ≡ true
left_of true b h = refl
left_of false b h = cc

right_of : (a b : Bool) → (a && b) ≡ true → b ≡ true
right_of true b h = h
right_of false b h = cc

-- Every key of bytes in the placed range begins with the prefix.
pub placed_outside : (prefix : List ℕ) (ends : Ends (List ℕ)) (key : List ℕ) → IsBytes key → is_in_range (range_of (placed_ends prefix ends)) key ≡ true → starts_with nat_eq key prefix ≡ true
placed_outside prefix ends key bytes h =
    let inside = sym (in_model (placed_ends prefix ends) key) ∙ h in
    let from = from_prefix_on prefix key ends.0 (left_of _ _ inside) in
    let short = short_of_placed prefix key ends.1 (right_of _ _ inside) in
    sym (prefix_keys prefix key (recursion_from_All (λ b. b < 256) key bytes)) ∙ (λ i. not (from i) && short i)

-- If the placed bounds leave no room, no key lies in the subrange.
pub placed_none : (prefix : List ℕ) (ends : Ends (List ℕ)) → is_non_empty key_cmp (placed_ends prefix ends) ≡ false → (suffix : List ℕ) → is_in_range (range_of ends) suffix ≡ false
placed_none prefix ends h suffix =
    sym (placed_inside prefix ends suffix)
    ∙ in_model (placed_ends prefix ends) (prefix ++ suffix)
    ∙ in_none nat_list_cmp_total (placed_ends prefix ends) (prefix ++ suffix) h
