-- Which tables are held once more tables are put or deleted.
use Rattle.std.proofs.Common.{◌≡◌, refl, sym, ◌∙◌, ap, ℕ, List, [], ◌∷◌, ◌++◌, cond, Bool, true, false, inl, inr, ◌⊎◌, Some}
use Rattle.std.specs.Prelude.{◌==◌, ◌&&◌, ◌||◌, not, IsTrue, filter, flat_map, find}
use Rattle.std.specs.List.{list_all}
use Rattle.std.proofs.lemmas.Bool.Decides.{Decides-eqb}
use Rattle.row_model.specs.Rows.{Row}
use Rattle.fleet_model.specs.Nodes.{Tables, is_among, table_rows, rows_or_none}
use Rattle.fleet_model.specs.Jobs.{contains}
use Rattle.fleet_model.specs.Store.{Store, is_held, AreHeld, WerePut}
use Rattle.step_laws.proofs.Elements.{IsIn, all_to, all_true_front, all_true_from, any_front, contains_in, in_contains, in_append}

-- ---- a table is held if it was put and not deleted

-- A table is found among those that are not deleted exactly if it was put and is not deleted.
pub held_by : (deleted : List ℕ) (tables : Tables) (id : ℕ) → is_among (filter (λ table. not (contains deleted table.0)) tables) id ≡ (is_among tables id && not (contains deleted id))
held_by deleted [] id = refl
held_by deleted (table ∷ tables) id = by (contains deleted table.0) refl (table.0 == id) refl (held_by deleted tables id)
  where
    by : (gone : Bool) → contains deleted table.0 ≡ gone → (same : Bool) → (table.0 == id) ≡ same
        → is_among (filter (λ other. not (contains deleted other.0)) tables) id ≡ (is_among tables id && not (contains deleted id))
        → is_among (cond (not gone) (table ∷ filter (λ other. not (contains deleted other.0)) tables) (filter (λ other. not (contains deleted other.0)) tables)) id ≡ ((same || is_among tables id) && not (contains deleted id))
    by true e true f rest =
        let there : contains deleted id ≡ true = ap (contains deleted) (sym ((Decides-eqb table.0 id).0 f)) ∙ e in
        rest ∙ rw there (never (is_among tables id))
      where
        never : (b : Bool) → (b && false) ≡ false
        never true = refl
        never false = refl
    by true e false f rest = rest
    by false e true f rest =
        let there : contains deleted id ≡ false = ap (contains deleted) (sym ((Decides-eqb table.0 id).0 f)) ∙ e in
        rw there (ap (λ b. b || is_among (filter (λ other. not (contains deleted other.0)) tables) id) f)
    by false e false f rest = ap (λ b. b || is_among (filter (λ other. not (contains deleted other.0)) tables) id) f ∙ rest

pub is_held_so : (store : Store) (id : ℕ) → is_held store id ≡ (is_among store.tables id && not (contains store.deleted id))
is_held_so store id = held_by store.deleted store.tables id

both : (a b : Bool) → IsTrue (a && b) → IsTrue a × IsTrue b
both true b h = (refl, h)
both false b h = absurd (cc h)

pub held_put : (store : Store) (id : ℕ) → IsTrue (is_held store id) → IsTrue (is_among store.tables id)
held_put store id h = (both _ _ (rw (is_held_so store id) at h)).0

pub held_not_gone : (store : Store) (id : ℕ) → IsTrue (is_held store id) → IsTrue (not (contains store.deleted id))
held_not_gone store id h = (both _ _ (rw (is_held_so store id) at h)).1

pub are_put : (store : Store) (ids : List ℕ) → AreHeld store ids → WerePut store ids
are_put store ids h = all_true_from (is_among store.tables) ids (all_to _ _ ids (λ id there held. held_put store id held) (all_true_front (is_held store) ids h))

-- ---- one more is put

pub among_grows : (tables : Tables) (new : ℕ × List Row) (id : ℕ) → IsTrue (is_among tables id) → IsTrue (is_among (tables ++ new ∷ []) id)
among_grows tables new id h = any_front (λ (other : ℕ × List Row). other.0 == id) tables (new ∷ []) h

pub held_grows : (store : Store) (new : ℕ × List Row) (id : ℕ) → IsTrue (is_held store id) → IsTrue (is_held (record store { tables = store.tables ++ new ∷ [] }) id)
held_grows store new id h = rw (is_held_so (record store { tables = store.tables ++ new ∷ [] }) id, among_grows store.tables new id (held_put store id h)) (held_not_gone store id h)

pub and_true : (a b : Bool) → IsTrue a → IsTrue b → IsTrue (a && b)
and_true true b h k = k
and_true false b h k = absurd (cc h)

-- A table that was put before is held once more are put only if it was held.
pub held_shrinks : (store : Store) (new : ℕ × List Row) (id : ℕ) → IsTrue (is_among store.tables id) → IsTrue (is_held (record store { tables = store.tables ++ new ∷ [] }) id) → IsTrue (is_held store id)
held_shrinks store new id put h = rw (is_held_so store id) (and_true _ _ put (held_not_gone (record store { tables = store.tables ++ new ∷ [] }) id h))

-- The rows of a table that was put stay.
pub rows_stay : (tables : Tables) (new : ℕ × List Row) (id : ℕ) → IsTrue (is_among tables id) → table_rows (tables ++ new ∷ []) id ≡ table_rows tables id
rows_stay [] new id put = absurd (cc put)
rows_stay (table ∷ tables) new id put = by (table.0 == id) (rows_stay tables new id) put
  where
    by : (b : Bool) → (IsTrue (is_among tables id) → table_rows (tables ++ new ∷ []) id ≡ table_rows tables id) → IsTrue (b || is_among tables id)
        → rows_or_none (cond b (Some table) (find (λ held. held.0 == id) (tables ++ new ∷ []))) ≡ rows_or_none (cond b (Some table) (find (λ held. held.0 == id) tables))
    by true rest h = refl
    by false rest h = rest h

pub flat_rows_stay : (tables : Tables) (new : ℕ × List Row) (ids : List ℕ) → IsTrue (list_all (is_among tables) ids) → flat_map (table_rows (tables ++ new ∷ [])) ids ≡ flat_map (table_rows tables) ids
flat_rows_stay tables new [] put = refl
flat_rows_stay tables new (id ∷ ids) put =
    let parts = all_true_front (is_among tables) (id ∷ ids) put in
    let first = rows_stay tables new id parts.0 in
    let rest = flat_rows_stay tables new ids (all_true_from (is_among tables) ids parts.1) in
    λ i. first i ++ rest i

-- ---- one more is deleted

-- A held table stays held as another table is deleted.
pub held_but : (store : Store) (gone id : ℕ) → (gone ≡ id → ⊥) → IsTrue (is_held store id) → IsTrue (is_held (record store { deleted = store.deleted ++ gone ∷ [] }) id)
held_but store gone id other h = rw (is_held_so (record store { deleted = store.deleted ++ gone ∷ [] }) id) (and_true _ _ (held_put store id h) (rw none refl))
  where
    none : contains (store.deleted ++ gone ∷ []) id ≡ false
    none = by (contains (store.deleted ++ gone ∷ []) id) refl
      where
        where_from : IsIn id store.deleted ⊎ IsIn id (gone ∷ []) → ⊥
        where_from (inl there) = refused (contains store.deleted id) (in_contains store.deleted id there) (held_not_gone store id h)
          where
            refused : (b : Bool) → b ≡ true → IsTrue (not b) → ⊥
            refused true e k = absurd (cc k)
            refused false e k = absurd (cc e)
        where_from (inr (inl same)) = other same
        where_from (inr (inr never)) = never

        by : (b : Bool) → contains (store.deleted ++ gone ∷ []) id ≡ b → b ≡ false
        by true e = absurd (where_from (in_append id store.deleted (gone ∷ []) (contains_in _ id e)))
        by false e = refl

-- A table that is held after a deletion was held before it.
pub held_still : (store : Store) (gone id : ℕ) → IsTrue (is_held (record store { deleted = store.deleted ++ gone ∷ [] }) id) → IsTrue (is_held store id)
held_still store gone id h = rw (is_held_so store id) (and_true _ _ (held_put (record store { deleted = store.deleted ++ gone ∷ [] }) id h) (none (contains store.deleted id) refl))
  where
    later : (ds : List ℕ) → contains ds id ≡ true → contains (ds ++ gone ∷ []) id ≡ true
    later ds e = in_contains (ds ++ gone ∷ []) id (front ds (contains_in ds id e))
      where
        front : (xs : List ℕ) → IsIn id xs → IsIn id (xs ++ gone ∷ [])
        front [] there = absurd there
        front (x ∷ xs) (inl same) = inl same
        front (x ∷ xs) (inr there) = inr (front xs there)

    none : (b : Bool) → contains store.deleted id ≡ b → IsTrue (not b)
    none true e = absurd (refused (contains (store.deleted ++ gone ∷ []) id) (later store.deleted e) (held_not_gone (record store { deleted = store.deleted ++ gone ∷ [] }) id h))
      where
        refused : (b : Bool) → b ≡ true → IsTrue (not b) → ⊥
        refused true e k = absurd (cc k)
        refused false e k = absurd (cc e)
    none false e = refl
