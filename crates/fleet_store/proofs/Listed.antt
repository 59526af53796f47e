-- The ids of tables by rising id.
use Rattle.std.proofs.Common.{◌≡◌, ◌≢◌, refl, ap, sym, subst, ◌∙◌, ℕ, ◌+◌, ◌<◌, ◌≤◌, Bool, true, false, cond, if◌then◌else◌, List, [], ◌∷◌, map, length, Some, None, arith}
use Rattle.std.specs.Prelude.{fold, nat_lt}
use Rattle.std.specs.List.{AllByRecursion}
use Rattle.std.specs.BTreeMap.{insert_entry, is_at}
use Rattle.std.specs.Map.{lookup, keys_of}
use Rattle.std.specs.Ordering.{nat_cmp, match_ordering}
use Rattle.std.specs.declared.cmp.Ordering.{Ordering}
use Rattle.std.specs.declared.cmp.Ordering.TheVariants.{Less, Equal, Greater}
use Rattle.std.proofs.lemmas.Bool.{lt-ltb, le-ltb, ltb-true, ltb-false}
use Rattle.std.proofs.lemmas.Cmp.{ranked}
use Rattle.row_model.specs.Lists.{Pairs}
use Rattle.row_model.specs.Rows.{Row}
use Rattle.fleet_model.specs.Jobs.{in_id_order, put_id}
use Rattle.fleet_model.specs.Nodes.{Tables}
use Rattle.fleet_store.specs.Memory.{by_id}
use Rattle.fleet_store.proofs.ByIds.{at_itself, lookup_others}

-- ---- ids in order

put_below : (a x : ℕ) (xs : List ℕ) → a < x → put_id a (x ∷ xs) ≡ a ∷ x ∷ xs
put_below a x xs low = ap (λ b. if b then a ∷ x ∷ xs else x ∷ put_id a xs) (lt-ltb a x low)

put_after : (a x : ℕ) (xs : List ℕ) → x ≤ a → put_id a (x ∷ xs) ≡ x ∷ put_id a xs
put_after a x xs low = ap (λ b. if b then a ∷ x ∷ xs else x ∷ put_id a xs) (le-ltb a x low)

-- Two ids may be inserted in either order, the lower one being the first here.
put_twice_from : (a b : ℕ) (xs : List ℕ) → a ≤ b → put_id a (put_id b xs) ≡ put_id b (put_id a xs)
put_twice_from a b [] low = by (nat_lt a b) refl
  where
    by : (t : Bool) → nat_lt a b ≡ t → put_id a (b ∷ []) ≡ put_id b (a ∷ [])
    by true is = put_below a b [] (ltb-true a b is) ∙ sym (put_after b a [] low)
    by false is =
        let same : a ≡ b = omega (arith, low, ltb-false a b is) in
        subst (λ n. put_id a (n ∷ []) ≡ put_id n (a ∷ [])) same refl
put_twice_from a b (x ∷ xs) low = by (nat_lt b x) refl (nat_lt a x) refl (nat_lt a b) refl (put_twice_from a b xs low)
  where
    by : (s : Bool) → nat_lt b x ≡ s → (t : Bool) → nat_lt a x ≡ t → (u : Bool) → nat_lt a b ≡ u → put_id a (put_id b xs) ≡ put_id b (put_id a xs) → put_id a (put_id b (x ∷ xs)) ≡ put_id b (put_id a (x ∷ xs))
    by true s t is true u rest =
        let bx : b < x = ltb-true b x s in
        let ab : a < b = ltb-true a b u in
        let ax : a < x = omega (arith, bx, ab) in
        ap (put_id a) (put_below b x xs bx) ∙ (put_below a b (x ∷ xs) ab ∙ sym (ap (put_id b) (put_below a x xs ax) ∙ (put_after b a (x ∷ xs) low ∙ ap (λ l. a ∷ l) (put_below b x xs bx))))
    by true s t is false u rest =
        let same : a ≡ b = omega (arith, low, ltb-false a b u) in
        subst (λ n. put_id a (put_id n (x ∷ xs)) ≡ put_id n (put_id a (x ∷ xs))) same refl
    by false s true t u is rest =
        let xb : x ≤ b = ltb-false b x s in
        let ax : a < x = ltb-true a x t in
        ap (put_id a) (put_after b x xs xb) ∙ (put_below a x (put_id b xs) ax ∙ sym (ap (put_id b) (put_below a x xs ax) ∙ (put_after b a (x ∷ xs) low ∙ ap (λ l. a ∷ l) (put_after b x xs xb))))
    by false s false t u is rest =
        let xb : x ≤ b = ltb-false b x s in
        let xa : x ≤ a = ltb-false a x t in
        ap (put_id a) (put_after b x xs xb) ∙ (put_after a x (put_id b xs) xa ∙ (ap (λ l. x ∷ l) rest ∙ sym (ap (put_id b) (put_after a x xs xa) ∙ put_after b x (put_id a xs) xb)))

put_twice : (a b : ℕ) (xs : List ℕ) → put_id a (put_id b xs) ≡ put_id b (put_id a xs)
put_twice a b xs = by (nat_lt a b) refl
  where
    by : (t : Bool) → nat_lt a b ≡ t → put_id a (put_id b xs) ≡ put_id b (put_id a xs)
    by true is = put_twice_from a b xs (omega (arith, ltb-true a b is))
    by false is = sym (put_twice_from b a xs (ltb-false a b is))

-- Ids inserted into others, the last one first.
abbrev all_put : List ℕ → List ℕ → List ℕ
all_put [] others = others
all_put (x ∷ xs) others = put_id x (all_put xs others)

put_under : (a : ℕ) (xs others : List ℕ) → all_put xs (put_id a others) ≡ put_id a (all_put xs others)
put_under a [] others = refl
put_under a (x ∷ xs) others = ap (put_id x) (put_under a xs others) ∙ put_twice x a (all_put xs others)

put_in_turn : (xs others : List ℕ) → fold (λ ids id. put_id id ids) others xs ≡ all_put xs others
put_in_turn [] others = refl
put_in_turn (x ∷ xs) others = put_in_turn xs (put_id x others) ∙ put_under x xs others

put_all : (xs : List ℕ) → all_put xs [] ≡ in_id_order xs
put_all [] = refl
put_all (x ∷ xs) = ap (put_id x) (put_all xs)

put_longer : (a : ℕ) (xs : List ℕ) → length (put_id a xs) ≡ length xs + 1
put_longer a [] = refl
put_longer a (x ∷ xs) = by (nat_lt a x) (put_longer a xs)
  where
    by : (b : Bool) → length (put_id a xs) ≡ length xs + 1 → length (if b then a ∷ x ∷ xs else x ∷ put_id a xs) ≡ length (x ∷ xs) + 1
    by true rest = omega arith
    by false rest = omega (arith, rest)

-- As many ids are in order.
pub as_many : (xs : List ℕ) → length (in_id_order xs) ≡ length xs
as_many [] = refl
as_many (x ∷ xs) = put_longer x (in_id_order xs) ∙ omega (arith, as_many xs)

-- ---- the ids of a map

-- A new id goes to its place.
keys_inserted : (k : ℕ) (v : List Row) (es : Tables) → lookup (is_at (nat_cmp k)) es ≡ None → keys_of (insert_entry nat_cmp es k v) ≡ put_id k (keys_of es)
keys_inserted k v [] none = refl
keys_inserted k v (e ∷ es) none = by (nat_cmp k e.0) refl (keys_inserted k v es)
  where
    by : (o : Ordering) → o ≡ nat_cmp k e.0 → (lookup (is_at (nat_cmp k)) es ≡ None → keys_of (insert_entry nat_cmp es k v) ≡ put_id k (keys_of es))
        → keys_of (match_ordering o ((k, v) ∷ e ∷ es) ((e.0, v) ∷ es) (e ∷ insert_entry nat_cmp es k v)) ≡ put_id k (e.0 ∷ keys_of es)
    by Less is rest = sym (put_below k e.0 (keys_of es) (ranked k e.0 Less is))
    by Equal is rest =
        let found : Some e.1 ≡ None = sym (ap (λ b. cond b (Some e.1) (lookup (is_at (nat_cmp k)) es)) (ap (is_at (nat_cmp k)) (sym (ranked k e.0 Equal is)) ∙ at_itself k)) ∙ none in
        absurd (cc found)
    by Greater is rest =
        let lower : e.0 < k = ranked k e.0 Greater is in
        ap (λ l. e.0 ∷ l) (rest (skipped (is_at (nat_cmp k) e.0) none)) ∙ sym (put_after k e.0 (keys_of es) (omega (arith, lower)))
      where
        skipped : (b : Bool) → cond b (Some e.1) (lookup (is_at (nat_cmp k)) es) ≡ None → lookup (is_at (nat_cmp k)) es ≡ None
        skipped true h = absurd (cc h)
        skipped false h = h

-- None of these tables is in the map.
abbrev AreNew : Tables → Tables → Type 0
AreNew es tables = AllByRecursion (λ table. lookup (is_at (nat_cmp table.0)) es ≡ None) tables

still_new : (k : ℕ) (v : List Row) (es tables : Tables) → AllByRecursion (λ table. k ≢ table.0) tables → AreNew es tables → AreNew (insert_entry nat_cmp es k v) tables
still_new k v es [] other new = tt
still_new k v es (t ∷ tables) other new = (lookup_others t.0 k v es (λ same. other.0 (sym same)) ∙ new.0, still_new k v es tables other.1 new.1)

keys_from : (es tables : Tables) → Pairs (λ a b. a.0 ≢ b.0) tables → AreNew es tables
    → keys_of (fold (λ held table. insert_entry nat_cmp held table.0 table.1) es tables) ≡ fold (λ ids id. put_id id ids) (keys_of es) (map (λ table. table.0) tables)
keys_from es [] once new = refl
keys_from es (t ∷ tables) once new =
    keys_from (insert_entry nat_cmp es t.0 t.1) tables once.1 (still_new t.0 t.1 es tables once.0 new.1)
    ∙ ap (λ ids. fold (λ ids id. put_id id ids) ids (map (λ table. table.0) tables)) (keys_inserted t.0 t.1 es new.0)

all_new : (tables : Tables) → AreNew [] tables
all_new [] = tt
all_new (t ∷ tables) = (refl, all_new tables)

-- The ids of tables by rising id are in order.
pub keys_by_id : (tables : Tables) → Pairs (λ a b. a.0 ≢ b.0) tables → keys_of (by_id tables) ≡ in_id_order (map (λ table. table.0) tables)
keys_by_id tables once = keys_from [] tables once (all_new tables) ∙ (put_in_turn (map (λ table. table.0) tables) [] ∙ put_all (map (λ table. table.0) tables))
