-- Comparing a key that is given in two parts.
use Rattle.std.proofs.Common.{◌≡◌, refl, sym, ◌∙◌, ap, ℕ, suc, ◌<◌, ◌+◌, ◌%◌, ◌^◌, List, [], ◌∷◌, ◌++◌, length, take, drop, arith}
use Rattle.std.specs.Prelude.{min, Some}
use Rattle.std.specs.Int.{w32, to_be_bytes}
use Rattle.std.proofs.lemmas.List.{drop-drop, drop_at}
use Rattle.std.specs.declared.cmp.Ordering.{Ordering}
use Rattle.std.specs.declared.cmp.Ordering.TheVariants.{Less, Equal, Greater}
use Rattle.std.specs.Ordering.{nat_cmp, ordering_then}
use Rattle.row_model.specs.Rows.{key_cmp, Content, Value, Merge, Tombstone}
use Rattle.row_model.specs.Written.Sizes.{content_len}
use Rattle.row_model.specs.Written.TableBytes.{content_bytes, content_flag}
use Rattle.fleet_block.specs.Finds.{Finds, IsFound}

-- The first part decides, unless it is equal to as many bytes of the other key.
pub compared_in_parts : (front rest key : List ℕ) (n : ℕ) → n ≡ min (length front) (length key) → ordering_then (key_cmp front (take n key)) (key_cmp rest (drop n key)) ≡ key_cmp (front ++ rest) key
compared_in_parts [] rest key n is = let none : n ≡ 0 = omega (arith, is) in ap (λ m. ordering_then (key_cmp [] (take m key)) (key_cmp rest (drop m key))) none
compared_in_parts (a ∷ front) rest [] n is = let none : n ≡ 0 = omega (arith, is) in ap (λ m. ordering_then (key_cmp (a ∷ front) (take m [])) (key_cmp rest (drop m []))) none
compared_in_parts (a ∷ front) rest (b ∷ key) n is =
    let one : n ≡ suc (min (length front) (length key)) = omega (arith, is) in
    ap (λ m. ordering_then (key_cmp (a ∷ front) (take m (b ∷ key))) (key_cmp rest (drop m (b ∷ key)))) one
    ∙ by (nat_cmp a b) (compared_in_parts front rest key (min (length front) (length key)) refl)
  where
    by : (o : Ordering) → ordering_then (key_cmp front (take (min (length front) (length key)) key)) (key_cmp rest (drop (min (length front) (length key)) key)) ≡ key_cmp (front ++ rest) key
        → ordering_then (ordering_then o (key_cmp front (take (min (length front) (length key)) key))) (key_cmp rest (drop (min (length front) (length key)) key)) ≡ ordering_then o (key_cmp (front ++ rest) key)
    by Less h = refl
    by Equal h = h
    by Greater h = refl

value_passed : (v bytes others : List ℕ) (place next len : ℕ) → length v < 2 ^ 32 → (found : IsFound (λ n. n) (length v) (v ++ others) bytes (Some (len, next))) → drop (next + len) bytes ≡ others
value_passed v bytes others place next len fits found =
    sym (drop-drop len next bytes) ∙ ap (drop len) found.1 ∙ drop_at v others len (sym found.0)

-- The number in front of a value is its length, so the value ends that far after it.
pub content_passed : (x : Content) (flags : ℕ) (bytes others : List ℕ) (place next len : ℕ) → content_len x < 2 ^ 32 → flags % 4 ≡ content_flag x → (flags % 4 ≡ 1 → ⊥) → drop place bytes ≡ content_bytes x ++ others
    → Finds (λ n. n) (to_be_bytes w32) (λ n. n < 2 ^ 32) bytes place (Some (len, next)) → drop (next + len) bytes ≡ others
content_passed (Value v) flags bytes others place next len fits kind some e finds = value_passed v bytes others place next len fits (finds (length v) (v ++ others) fits e)
content_passed (Merge v) flags bytes others place next len fits kind some e finds = value_passed v bytes others place next len fits (finds (length v) (v ++ others) fits e)
content_passed Tombstone flags bytes others place next len fits kind some e finds = absurd (some kind)
