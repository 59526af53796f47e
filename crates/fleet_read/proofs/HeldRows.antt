-- The rows of a table that a store holds.
use Rattle.std.proofs.Common.{◌≡◌, refl, sym, ◌∙◌, ap, ℕ, List, [], ◌∷◌, cond, Bool, true, false, Some}
use Rattle.std.specs.Prelude.{◌==◌, IsTrue, filter, find, not, option_map}
use Rattle.std.proofs.lemmas.Bool.Decides.{Decides-eqb}
use Rattle.row_model.specs.Rows.{Row}
use Rattle.fleet_model.specs.Jobs.{contains}
use Rattle.fleet_model.specs.Nodes.{Tables, is_among, table_rows}
use Rattle.fleet_model.specs.Nodes as nodes
use Rattle.fleet_model.specs.Store.{Store, is_held}
use Rattle.fleet_store.specs.Tables.{held_rows}
use Rattle.fleet_read.specs.Stored.{rows_or_none}

module _ (deleted : List ℕ) (id : ℕ) where
  abbrev is_kept : ℕ × List Row → Bool
  is_kept t = not (contains deleted t.0)

  none_kept : contains deleted id ≡ true → (tables : Tables) → is_among (filter is_kept tables) id ≡ false
  none_kept gone [] = refl
  none_kept gone (t ∷ tables) = by (contains deleted t.0) refl (t.0 == id) refl (none_kept gone tables)
    where
      by : (d : Bool) → contains deleted t.0 ≡ d → (b : Bool) → (t.0 == id) ≡ b → is_among (filter is_kept tables) id ≡ false → is_among (cond (not d) (t ∷ filter is_kept tables) (filter is_kept tables)) id ≡ false
      by true e b f rest = rest
      by false e true f rest = let same = ap (contains deleted) ((Decides-eqb t.0 id).0 f) in absurd (cc (e, gone, same))
      by false e false f rest = rw f rest

  -- A table that is kept is found among the kept ones as among all.
  found_kept : (tables : Tables) → is_among (filter is_kept tables) id ≡ true
      → rows_or_none (option_map (λ (t : ℕ × List Row). t.1) (find (λ (t : ℕ × List Row). id == t.0) (filter is_kept tables))) ≡ table_rows tables id
  found_kept [] there = absurd (cc there)
  found_kept (t ∷ tables) there = by (contains deleted t.0) refl (t.0 == id) refl there (λ there. found_kept tables there)
    where
      by : (d : Bool) → contains deleted t.0 ≡ d → (b : Bool) → (t.0 == id) ≡ b → is_among (cond (not d) (t ∷ filter is_kept tables) (filter is_kept tables)) id ≡ true
          → (is_among (filter is_kept tables) id ≡ true → rows_or_none (option_map (λ (t : ℕ × List Row). t.1) (find (λ (t : ℕ × List Row). id == t.0) (filter is_kept tables))) ≡ table_rows tables id)
          → rows_or_none (option_map (λ (t : ℕ × List Row). t.1) (find (λ (t : ℕ × List Row). id == t.0) (cond (not d) (t ∷ filter is_kept tables) (filter is_kept tables)))) ≡ nodes.rows_or_none (cond b (Some t) (find (λ (t : ℕ × List Row). t.0 == id) tables))
      by true e true f there rest =
          let gone = sym (ap (contains deleted) ((Decides-eqb t.0 id).0 f)) ∙ e in
          let none = none_kept gone tables in
          absurd (cc (there, none))
      by true e false f there rest = rest there
      by false e true f there rest = rw ((Decides-eqb id t.0).1 (sym ((Decides-eqb t.0 id).0 f))) refl
      by false e false f there rest = at (id == t.0) refl
        where
          at : (c : Bool) → (id == t.0) ≡ c → rows_or_none (option_map (λ (t : ℕ × List Row). t.1) (cond c (Some t) (find (λ (t : ℕ × List Row). id == t.0) (filter is_kept tables)))) ≡ table_rows tables id
          at true g = let same = (Decides-eqb t.0 id).1 (sym ((Decides-eqb id t.0).0 g)) in absurd (cc (f, same))
          at false g = rest (rw f at there)

pub held_are : (store : Store) (id : ℕ) → IsTrue (is_held store id) → rows_or_none (held_rows id store) ≡ table_rows store.tables id
held_are store id held = found_kept store.deleted id store.tables held
