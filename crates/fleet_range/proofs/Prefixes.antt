-- The keys that begin with a prefix.
use Rattle.std.specs.Prelude.{◌≡◌, ℕ, ◌+◌, ◌<◌, ◌≤◌, ◌≢◌, Bool, true, false, ◌&&◌, not, List, [], ◌∷◌, ◌++◌, length, Option, Some, None, cond, nat_lt, nat_eq}
use Rattle.std.proofs.Common.{refl, sym, ap, ◌∙◌, arith, ltb-false, drop, take, slice_index_or}
use Rattle.std.proofs.lemmas.List.{drop_more, take-append-drop}
use Rattle.std.proofs.lemmas.Bool.{le-ltb, lt-ltb}
use Rattle.std.specs.List.{AllByRecursion, starts_with}
use Rattle.std.specs.Ordering.{is_lt, is_gt, is_le, nat_cmp, ordering_then, MatchOrdering}
use Rattle.std.proofs.lemmas.Bool.Decides.{nat_tests}
use Rattle.std.specs.Cmp.{nat_cmp_is}
use Rattle.std.proofs.lemmas.Cmp.{nat_list_cmp_total, ranked}
use Rattle.std.specs.BTreeMap.Comparable.{le_lt_trans}
use Rattle.std.specs.declared.cmp.Ordering.{Ordering}
use Rattle.std.specs.declared.cmp.Ordering.TheVariants.{Less, Equal, Greater}
use Rattle.row_model.specs.Rows.{key_cmp}
use Rattle.fleet_range.specs.Keys.{raised_key, successor}

-- Whether the key is below the end. Every key is if there is no end.
abbrev pub is_short_of : Option (List ℕ) → List ℕ → Bool
is_short_of None key = true
is_short_of (Some end) key = is_lt (key_cmp key end)

-- If a list has a successor, bytes put before the list stand unchanged before the successor.
pub successor-append : (front rest end : List ℕ) → successor rest ≡ Some end → successor (front ++ rest) ≡ Some (front ++ end)
successor-append [] rest end h = h
successor-append (b ∷ front) rest end h = ap (raised_key b) (successor-append front rest end h)

same_byte : (b : ℕ) → nat_cmp b b ≡ Equal
same_byte b = sym (nat_cmp_is b b Equal refl)

less_byte : (a b : ℕ) → a < b → nat_cmp a b ≡ Less
less_byte a b h = sym (nat_cmp_is a b Less h)

greater_byte : (a b : ℕ) → b < a → nat_cmp a b ≡ Greater
greater_byte a b h = sym (nat_cmp_is a b Greater h)

-- Two keys with a common front compare as their rests do.
pub key_cmp-append : (front a b : List ℕ) → key_cmp (front ++ a) (front ++ b) ≡ key_cmp a b
key_cmp-append [] a b = refl
key_cmp-append (x ∷ front) a b = rw (same_byte x) (key_cmp-append front a b)

-- Every key that begins with the prefix is below the prefix's end.
pub short_of_end : (prefix rest : List ℕ) → is_short_of (successor prefix) (prefix ++ rest) ≡ true
short_of_end [] rest = refl
short_of_end (b ∷ prefix) rest = step (successor prefix) (short_of_end prefix rest)
  where
    step : (end : Option (List ℕ)) → is_short_of end (prefix ++ rest) ≡ true → is_short_of (raised_key b end) (b ∷ prefix ++ rest) ≡ true
    step (Some end) h = rw (same_byte b) h
    step None h = by_test (nat_lt b 255) refl
      where
        by_test : (t : Bool) → nat_lt b 255 ≡ t → is_short_of (cond t (Some ((b + 1) ∷ [])) None) (b ∷ prefix ++ rest) ≡ true
        by_test true e = rw (less_byte b (b + 1) (omega arith)) refl
        by_test false e = refl

other_byte : (a b : ℕ) → a ≢ b → nat_eq a b ≡ false
other_byte a b h = grind (arith, nat_tests)

-- A key whose first byte is greater than that of the prefix is not below the prefix's end.
not_short : (b k : ℕ) (key : List ℕ) (end : Option (List ℕ)) → b < k → k < 256 → is_short_of (raised_key b end) (k ∷ key) ≡ false
not_short b k key (Some end) h f = rw (greater_byte k b h) refl
not_short b k key None h f = by_test (nat_lt b 255) refl
  where
    past_one : (key : List ℕ) → is_lt (key_cmp key []) ≡ false
    past_one [] = refl
    past_one (x ∷ xs) = refl

    raised_by_one : Ordering → (r : Ordering) → r ≡ nat_cmp k (b + 1) → MatchOrdering r (k < b + 1) (k ≡ b + 1) (b + 1 < k) → is_lt (ordering_then (nat_cmp k (b + 1)) (key_cmp key [])) ≡ false
    raised_by_one q Less e m = absurd (omega arith)
    raised_by_one q Equal e m = rw (sym e) (past_one key)
    raised_by_one q Greater e m = rw (sym e) refl

    by_test : (t : Bool) → nat_lt b 255 ≡ t → is_short_of (cond t (Some ((b + 1) ∷ [])) None) (k ∷ key) ≡ false
    by_test true e = raised_by_one Less (nat_cmp k (b + 1)) refl (ranked k (b + 1) (nat_cmp k (b + 1)) refl)
    by_test false e = absurd (omega (arith, ltb-false b 255 e))

equal_byte : (a b : ℕ) → a ≡ b → nat_eq a b ≡ true
equal_byte a b h = grind (arith, nat_tests)

-- If the key and the prefix have the same first byte, the rest of the key decides whether the key is below
-- the prefix's end.
same_short : (b k : ℕ) → b ≡ k → (end : Option (List ℕ)) (key : List ℕ) → is_short_of (raised_key b end) (k ∷ key) ≡ is_short_of end key
same_short b k m (Some end) key = rw (sym (nat_cmp_is k b Equal (sym m))) refl
same_short b k m None key = by_test (nat_lt b 255) refl
  where
    by_test : (t : Bool) → nat_lt b 255 ≡ t → is_short_of (cond t (Some ((b + 1) ∷ [])) None) (k ∷ key) ≡ true
    by_test true e = rw (less_byte k (b + 1) (omega arith)) refl
    by_test false e = refl

-- A key of bytes is at least the prefix and below its end exactly if it begins with the prefix.
pub prefix_keys : (prefix key : List ℕ) → AllByRecursion (λ b. b < 256) key → (not (is_gt (key_cmp prefix key)) && is_short_of (successor prefix) key) ≡ starts_with nat_eq key prefix
prefix_keys [] [] f = refl
prefix_keys [] (k ∷ key) f = refl
prefix_keys (b ∷ prefix) [] f = refl
prefix_keys (b ∷ prefix) (k ∷ key) f = by_order (nat_cmp b k) refl (ranked b k (nat_cmp b k) refl) (prefix_keys prefix key f.1)
  where
    by_order : (r : Ordering) → nat_cmp b k ≡ r → MatchOrdering r (b < k) (b ≡ k) (k < b) → (not (is_gt (key_cmp prefix key)) && is_short_of (successor prefix) key) ≡ starts_with nat_eq key prefix → (not (is_gt (ordering_then (nat_cmp b k) (key_cmp prefix key))) && is_short_of (raised_key b (successor prefix)) (k ∷ key)) ≡ (nat_eq b k && starts_with nat_eq key prefix)
    by_order Less e m h = rw (e, not_short b k key (successor prefix) m f.0, other_byte b k (omega arith)) refl
    by_order Equal e m h = rw (e, equal_byte b k m, same_short b k m (successor prefix) key) h
    by_order Greater e m h = rw (e, other_byte b k (omega arith)) refl

-- A key that begins with the prefix is at least the prefix.
pub from_prefix_start : (prefix rest : List ℕ) → is_gt (key_cmp prefix (prefix ++ rest)) ≡ false
from_prefix_start [] [] = refl
from_prefix_start [] (x ∷ rest) = refl
from_prefix_start (b ∷ prefix) rest = rw (same_byte b) (from_prefix_start prefix rest)

-- If a key is below the end, each key that is at most that key is too.
pub short_below : (end : Option (List ℕ)) (a b : List ℕ) → is_gt (key_cmp a b) ≡ false → is_short_of end b ≡ true → is_short_of end a ≡ true
short_below None a b h s = refl
short_below (Some end) a b h s = ap is_lt (le_lt_trans nat_list_cmp_total a b end (up_to (key_cmp a b) h) (less (key_cmp b end) s))
  where
    up_to : (r : Ordering) → is_gt r ≡ false → is_le r ≡ true
    up_to Less h = refl
    up_to Equal h = refl
    up_to Greater h = cc

    less : (r : Ordering) → is_lt r ≡ true → r ≡ Less
    less Less h = refl
    less Equal h = cc
    less Greater h = cc

-- If the bytes after a place have no successor, only the byte at the place can be raised.
from_place : (prefix : List ℕ) (place : ℕ) → place < length prefix → successor (drop (place + 1) prefix) ≡ None → successor (drop place prefix) ≡ raised_key (slice_index_or prefix place 0) None
from_place prefix place inside h = ap successor (drop_more prefix place 0 inside) ∙ ap (raised_key (slice_index_or prefix place 0)) h

-- If the byte at a place is 0xff and the bytes after it have no successor, the bytes from the place on have
-- none.
pub still_none : (prefix : List ℕ) (place : ℕ) → place < length prefix → 255 ≤ slice_index_or prefix place 0 → successor (drop (place + 1) prefix) ≡ None → successor (drop place prefix) ≡ None
still_none prefix place inside ff h = from_place prefix place inside h ∙ by_test (slice_index_or prefix place 0) ff
  where
    by_test : (b : ℕ) → 255 ≤ b → raised_key b None ≡ None
    by_test b ff = rw (le-ltb b 255 ff) refl

-- If the byte at a place is below 0xff and the bytes after it have no successor, the prefix's successor ends
-- with that byte raised by one.
pub found : (prefix : List ℕ) (place : ℕ) → place < length prefix → slice_index_or prefix place 0 < 255 → successor (drop (place + 1) prefix) ≡ None → successor prefix ≡ Some (take place prefix ++ (slice_index_or prefix place 0 + 1) ∷ [])
found prefix place inside less h =
    ap successor (sym (take-append-drop place prefix))
    ∙ successor-append (take place prefix) (drop place prefix) ((slice_index_or prefix place 0 + 1) ∷ []) (from_place prefix place inside h ∙ by_test (slice_index_or prefix place 0) less)
  where
    by_test : (b : ℕ) → b < 255 → raised_key b None ≡ Some ((b + 1) ∷ [])
    by_test b less = rw (lt-ltb b 255 less) refl
