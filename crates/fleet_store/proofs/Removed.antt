-- A table that is removed from those by rising id.
use Rattle.std.proofs.Common.{◌≡◌, ◌≢◌, refl, ap, sym, subst, ◌∙◌, ℕ, ◌<◌, ◌==◌, ◌||◌, Bool, true, false, not, cond, if◌then◌else◌, List, [], ◌∷◌, ◌++◌, filter, arith, eq-eqb}
use Rattle.std.specs.Prelude.{fold}
use Rattle.std.specs.List.{AllByRecursion}
use Rattle.std.specs.BTreeMap.{insert_entry, is_at}
use Rattle.std.specs.Map.{remove_entry}
use Rattle.std.specs.Ordering.{nat_cmp, match_ordering}
use Rattle.std.specs.Cmp.{nat_cmp_is}
use Rattle.std.specs.declared.cmp.Ordering.{Ordering}
use Rattle.std.specs.declared.cmp.Ordering.TheVariants.{Less, Equal, Greater}
use Rattle.std.proofs.lemmas.Bool.{eqb-true}
use Rattle.std.proofs.lemmas.Cmp.{ranked}
use Rattle.row_model.specs.Lists.{Pairs}
use Rattle.row_model.specs.Rows.{Row}
use Rattle.fleet_model.specs.Jobs.{contains}
use Rattle.fleet_model.specs.Nodes.{Tables}
use Rattle.fleet_store.specs.Memory.{by_id}
use Rattle.fleet_store.proofs.ByIds.{at_itself, at_other}

-- The ids rise.
abbrev Rise : Tables → Type 0
Rise tables = Pairs (λ a b. a.0 < b.0) tables

abbrev Above : ℕ → Tables → Type 0
Above id tables = AllByRecursion (λ table. id < table.0) tables

above_more : (a b : ℕ) (es : Tables) → a < b → Above b es → Above a es
above_more a b [] low h = tt
above_more a b (e ∷ es) low h = (omega (arith, low, h.0), above_more a b es low h.1)

above_inserted : (a k : ℕ) (v : List Row) (es : Tables) → a < k → Above a es → Above a (insert_entry nat_cmp es k v)
above_inserted a k v [] low h = (low, tt)
above_inserted a k v (e ∷ es) low h = by (nat_cmp k e.0) (above_inserted a k v es low h.1)
  where
    by : (o : Ordering) → Above a (insert_entry nat_cmp es k v) → Above a (match_ordering o ((k, v) ∷ e ∷ es) ((e.0, v) ∷ es) (e ∷ insert_entry nat_cmp es k v))
    by Less rest = (low, h)
    by Equal rest = (h.0, h.1)
    by Greater rest = (h.0, rest)

rise_inserted : (k : ℕ) (v : List Row) (es : Tables) → Rise es → Rise (insert_entry nat_cmp es k v)
rise_inserted k v [] h = (tt, tt)
rise_inserted k v (e ∷ es) h = by (nat_cmp k e.0) refl (rise_inserted k v es h.1)
  where
    by : (o : Ordering) → o ≡ nat_cmp k e.0 → Rise (insert_entry nat_cmp es k v) → Rise (match_ordering o ((k, v) ∷ e ∷ es) ((e.0, v) ∷ es) (e ∷ insert_entry nat_cmp es k v))
    by Less is rest = ((ranked k e.0 Less is, above_more k e.0 es (ranked k e.0 Less is) h.0), h)
    by Equal is rest = (h.0, h.1)
    by Greater is rest = (above_inserted e.0 k v es (ranked k e.0 Greater is) h.0, rest)

-- Without the table of this id.
abbrev without : ℕ → Tables → Tables
without id es = remove_entry (is_at (nat_cmp id)) es

without_here : (id : ℕ) (e : ℕ × List Row) (es : Tables) → id ≡ e.0 → without id (e ∷ es) ≡ es
without_here id e es same = ap (λ b. cond b es (e ∷ without id es)) (ap (is_at (nat_cmp id)) (sym same) ∙ at_itself id)

without_there : (id : ℕ) (e : ℕ × List Row) (es : Tables) → id ≢ e.0 → without id (e ∷ es) ≡ e ∷ without id es
without_there id e es other = ap (λ b. cond b es (e ∷ without id es)) (at_other id e.0 other)

-- An id below all is not there.
without_none : (id : ℕ) (es : Tables) → Above id es → without id es ≡ es
without_none id [] h = refl
without_none id (e ∷ es) h = without_there id e es (λ same. absurd (omega (arith, same, h.0))) ∙ ap (λ l. e ∷ l) (without_none id es h.1)

inserted_below : (k : ℕ) (v : List Row) (es : Tables) → Above k es → insert_entry nat_cmp es k v ≡ (k, v) ∷ es
inserted_below k v [] h = refl
inserted_below k v (e ∷ es) h = ap (λ o. match_ordering o ((k, v) ∷ e ∷ es) ((e.0, v) ∷ es) (e ∷ insert_entry nat_cmp es k v)) (sym (nat_cmp_is k e.0 Less h.0))

inserted_here : (k : ℕ) (v : List Row) (e : ℕ × List Row) (es : Tables) → k ≡ e.0 → insert_entry nat_cmp (e ∷ es) k v ≡ (e.0, v) ∷ es
inserted_here k v e es same = ap (λ o. match_ordering o ((k, v) ∷ e ∷ es) ((e.0, v) ∷ es) (e ∷ insert_entry nat_cmp es k v)) (sym (nat_cmp_is k e.0 Equal same))

inserted_after : (k : ℕ) (v : List Row) (e : ℕ × List Row) (es : Tables) → e.0 < k → insert_entry nat_cmp (e ∷ es) k v ≡ e ∷ insert_entry nat_cmp es k v
inserted_after k v e es low = ap (λ o. match_ordering o ((k, v) ∷ e ∷ es) ((e.0, v) ∷ es) (e ∷ insert_entry nat_cmp es k v)) (sym (nat_cmp_is k e.0 Greater low))

-- The removed table may be inserted first.
without_inserted : (id : ℕ) (v : List Row) (es : Tables) → Rise es → without id (insert_entry nat_cmp es id v) ≡ without id es
without_inserted id v [] h = without_here id (id, v) [] refl
without_inserted id v (e ∷ es) h = by (nat_cmp id e.0) refl (without_inserted id v es h.1)
  where
    by : (o : Ordering) → o ≡ nat_cmp id e.0 → without id (insert_entry nat_cmp es id v) ≡ without id es → without id (match_ordering o ((id, v) ∷ e ∷ es) ((e.0, v) ∷ es) (e ∷ insert_entry nat_cmp es id v)) ≡ without id (e ∷ es)
    by Less is rest =
        let low : id < e.0 = ranked id e.0 Less is in
        without_here id (id, v) (e ∷ es) refl ∙ sym (without_none id (e ∷ es) (low, above_more id e.0 es low h.0))
    by Equal is rest = without_here id (e.0, v) es (ranked id e.0 Equal is) ∙ sym (without_here id e es (ranked id e.0 Equal is))
    by Greater is rest =
        let other : id ≢ e.0 = λ same. absurd (omega (arith, same, ranked id e.0 Greater is)) in
        without_there id e (insert_entry nat_cmp es id v) other ∙ (ap (λ l. e ∷ l) rest ∙ sym (without_there id e es other))

-- Another table may be inserted first or later.
without_others : (id k : ℕ) (v : List Row) (es : Tables) → id ≢ k → Rise es → without id (insert_entry nat_cmp es k v) ≡ insert_entry nat_cmp (without id es) k v
without_others id k v [] other h = without_there id (k, v) [] other
without_others id k v (e ∷ es) other h = by (nat_cmp k e.0) refl (id == e.0) refl (without_others id k v es other h.1)
  where
    by : (o : Ordering) → o ≡ nat_cmp k e.0 → (b : Bool) → (id == e.0) ≡ b → without id (insert_entry nat_cmp es k v) ≡ insert_entry nat_cmp (without id es) k v
        → without id (match_ordering o ((k, v) ∷ e ∷ es) ((e.0, v) ∷ es) (e ∷ insert_entry nat_cmp es k v)) ≡ insert_entry nat_cmp (without id (e ∷ es)) k v
    by Less is true at rest =
        let low : k < e.0 = ranked k e.0 Less is in
        let same : id ≡ e.0 = eqb-true id e.0 at in
        without_there id (k, v) (e ∷ es) other ∙ (ap (λ l. (k, v) ∷ l) (without_here id e es same)
        ∙ sym (ap (λ l. insert_entry nat_cmp l k v) (without_here id e es same) ∙ inserted_below k v es (above_more k e.0 es low h.0)))
    by Less is false at rest =
        let low : k < e.0 = ranked k e.0 Less is in
        let away : id ≢ e.0 = λ same. absurd (cc (sym (eq-eqb id e.0 same) ∙ at)) in
        without_there id (k, v) (e ∷ es) other ∙ (ap (λ l. (k, v) ∷ l) (without_there id e es away)
        ∙ sym (ap (λ l. insert_entry nat_cmp l k v) (without_there id e es away) ∙ ap (λ o. match_ordering o ((k, v) ∷ e ∷ without id es) ((e.0, v) ∷ without id es) (e ∷ insert_entry nat_cmp (without id es) k v)) (sym is)))
    by Equal is true at rest = absurd (other (eqb-true id e.0 at ∙ sym (ranked k e.0 Equal is)))
    by Equal is false at rest =
        let away : id ≢ e.0 = λ same. absurd (cc (sym (eq-eqb id e.0 same) ∙ at)) in
        without_there id (e.0, v) es away ∙ sym (ap (λ l. insert_entry nat_cmp l k v) (without_there id e es away) ∙ inserted_here k v e (without id es) (ranked k e.0 Equal is))
    by Greater is true at rest =
        let same : id ≡ e.0 = eqb-true id e.0 at in
        without_here id e (insert_entry nat_cmp es k v) same ∙ sym (ap (λ l. insert_entry nat_cmp l k v) (without_here id e es same))
    by Greater is false at rest =
        let away : id ≢ e.0 = λ same. absurd (cc (sym (eq-eqb id e.0 same) ∙ at)) in
        without_there id e (insert_entry nat_cmp es k v) away ∙ (ap (λ l. e ∷ l) rest
        ∙ sym (ap (λ l. insert_entry nat_cmp l k v) (without_there id e es away) ∙ inserted_after k v e (without id es) (ranked k e.0 Greater is)))

-- The tables with another id.
abbrev others : ℕ → Tables → Tables
others id tables = filter (λ table. not (id == table.0)) tables

-- Removing a table after tables were inserted by their ids is the same as inserting the other tables
-- alone.
without_from : (id : ℕ) (es tables : Tables) → Rise es
    → without id (fold (λ held table. insert_entry nat_cmp held table.0 table.1) es tables) ≡ fold (λ held table. insert_entry nat_cmp held table.0 table.1) (without id es) (others id tables)
without_from id es [] h = refl
without_from id es (t ∷ tables) h = by (id == t.0) refl (without_from id (insert_entry nat_cmp es t.0 t.1) tables (rise_inserted t.0 t.1 es h))
  where
    by : (b : Bool) → (id == t.0) ≡ b
        → without id (fold (λ held table. insert_entry nat_cmp held table.0 table.1) es (t ∷ tables)) ≡ fold (λ held table. insert_entry nat_cmp held table.0 table.1) (without id (insert_entry nat_cmp es t.0 t.1)) (others id tables)
        → without id (fold (λ held table. insert_entry nat_cmp held table.0 table.1) es (t ∷ tables)) ≡ fold (λ held table. insert_entry nat_cmp held table.0 table.1) (without id es) (if not b then t ∷ others id tables else others id tables)
    by true at rest =
        rest ∙ ap (λ l. fold (λ held table. insert_entry nat_cmp held table.0 table.1) l (others id tables))
        (subst (λ n. without n (insert_entry nat_cmp es t.0 t.1) ≡ without n es) (sym (eqb-true id t.0 at)) (without_inserted t.0 t.1 es h))
    by false at rest =
        rest ∙ ap (λ l. fold (λ held table. insert_entry nat_cmp held table.0 table.1) l (others id tables))
        (without_others id t.0 t.1 es (λ same. absurd (cc (sym (eq-eqb id t.0 same) ∙ at))) h)

-- The tables by rising id, without one.
pub without_by_id : (id : ℕ) (tables : Tables) → remove_entry (is_at (nat_cmp id)) (by_id tables) ≡ by_id (others id tables)
without_by_id id tables = without_from id [] tables tt

-- ---- deleted tables

-- A list with one more number at its end contains what the list contains and that number.
contains_last : (xs : List ℕ) (y n : ℕ) → contains (xs ++ y ∷ []) n ≡ (contains xs n || (y == n))
contains_last [] y n = by (y == n)
  where
    by : (b : Bool) → (if b then true else false) ≡ b
    by true = refl
    by false = refl
contains_last (x ∷ xs) y n = by (x == n) (contains_last xs y n)
  where
    by : (b : Bool) → contains (xs ++ y ∷ []) n ≡ (contains xs n || (y == n)) → (if b then true else contains (xs ++ y ∷ []) n) ≡ ((if b then true else contains xs n) || (y == n))
    by true rest = refl
    by false rest = rest

-- The tables that are held after one more is deleted.
pub held_less : (deleted : List ℕ) (id : ℕ) (tables : Tables) → filter (λ table. not (contains (deleted ++ id ∷ []) table.0)) tables ≡ others id (filter (λ table. not (contains deleted table.0)) tables)
held_less deleted id [] = refl
held_less deleted id (t ∷ tables) =
    ap (λ b. if not b then t ∷ filter (λ table. not (contains (deleted ++ id ∷ []) table.0)) tables else filter (λ table. not (contains (deleted ++ id ∷ []) table.0)) tables) (contains_last deleted id t.0)
    ∙ (ap (λ l. if not (contains deleted t.0 || (id == t.0)) then t ∷ l else l) (held_less deleted id tables) ∙ by (contains deleted t.0))
  where
    by : (b : Bool) → (if not (b || (id == t.0)) then t ∷ others id (filter (λ table. not (contains deleted table.0)) tables) else others id (filter (λ table. not (contains deleted table.0)) tables))
        ≡ others id (if not b then t ∷ filter (λ table. not (contains deleted table.0)) tables else filter (λ table. not (contains deleted table.0)) tables)
    by true = refl
    by false = refl
