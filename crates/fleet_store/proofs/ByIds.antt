-- Tables by rising id.
use Rattle.std.proofs.Common.{◌≡◌, ◌≢◌, refl, ap, sym, subst, ◌∙◌, ℕ, ◌==◌, ◌<◌, Bool, true, false, cond, if◌then◌else◌, List, [], ◌∷◌, Option, Some, None, option_map, arith, eq-eqb}
use Rattle.std.specs.Prelude.{fold, find}
use Rattle.std.specs.List.{AllByRecursion}
use Rattle.std.specs.BTreeMap.{insert_entry, is_at}
use Rattle.std.specs.Map.{lookup, remove_entry}
use Rattle.std.specs.Ordering.{nat_cmp, match_ordering}
use Rattle.std.specs.declared.cmp.Ordering.{Ordering}
use Rattle.std.specs.declared.cmp.Ordering.TheVariants.{Less, Equal, Greater}
use Rattle.std.proofs.lemmas.Bool.{eqb-true, ne_eqb}
use Rattle.std.proofs.lemmas.Cmp.{ranked}
use Rattle.std.specs.Cmp.{unsigned_tied}
use Rattle.row_model.specs.Lists.{Pairs}
use Rattle.row_model.specs.Rows.{Row}
use Rattle.fleet_model.specs.Nodes.{Tables}
use Rattle.fleet_store.specs.Memory.{by_id}
use Rattle.fleet_store.specs.Tables.{rows_among}

-- A key is found at itself.
pub at_itself : (n : ℕ) → is_at (nat_cmp n) n ≡ true
at_itself n = unsigned_tied n n ∙ eq-eqb n n refl

-- A key is not found at another.
pub at_other : (q k : ℕ) → q ≢ k → is_at (nat_cmp q) k ≡ false
at_other q k other = unsigned_tied q k ∙ ne_eqb q k other

-- What was inserted is found.
pub lookup_inserted : (k : ℕ) (v : List Row) (es : Tables) → lookup (is_at (nat_cmp k)) (insert_entry nat_cmp es k v) ≡ Some v
lookup_inserted k v [] = ap (λ b. cond b (Some v) None) (at_itself k)
lookup_inserted k v (e ∷ es) = by (nat_cmp k e.0) refl (lookup_inserted k v es)
  where
    by : (o : Ordering) → o ≡ nat_cmp k e.0 → lookup (is_at (nat_cmp k)) (insert_entry nat_cmp es k v) ≡ Some v → lookup (is_at (nat_cmp k)) (match_ordering o ((k, v) ∷ e ∷ es) ((e.0, v) ∷ es) (e ∷ insert_entry nat_cmp es k v)) ≡ Some v
    by Less is rest = ap (λ b. cond b (Some v) (lookup (is_at (nat_cmp k)) (e ∷ es))) (at_itself k)
    by Equal is rest = ap (λ b. cond b (Some v) (lookup (is_at (nat_cmp k)) es)) (ap (is_at (nat_cmp k)) (sym (ranked k e.0 Equal is)) ∙ at_itself k)
    by Greater is rest =
        let lower : e.0 < k = ranked k e.0 Greater is in
        ap (λ b. cond b (Some e.1) (lookup (is_at (nat_cmp k)) (insert_entry nat_cmp es k v))) (at_other k e.0 (λ same. absurd (omega (arith, lower, same)))) ∙ rest

-- Another key is found as before.
pub lookup_others : (q k : ℕ) (v : List Row) (es : Tables) → q ≢ k → lookup (is_at (nat_cmp q)) (insert_entry nat_cmp es k v) ≡ lookup (is_at (nat_cmp q)) es
lookup_others q k v [] other = ap (λ b. cond b (Some v) None) (at_other q k other)
lookup_others q k v (e ∷ es) other = by (nat_cmp k e.0) refl (lookup_others q k v es other)
  where
    by : (o : Ordering) → o ≡ nat_cmp k e.0 → lookup (is_at (nat_cmp q)) (insert_entry nat_cmp es k v) ≡ lookup (is_at (nat_cmp q)) es → lookup (is_at (nat_cmp q)) (match_ordering o ((k, v) ∷ e ∷ es) ((e.0, v) ∷ es) (e ∷ insert_entry nat_cmp es k v)) ≡ lookup (is_at (nat_cmp q)) (e ∷ es)
    by Less is rest = ap (λ b. cond b (Some v) (lookup (is_at (nat_cmp q)) (e ∷ es))) (at_other q k other)
    by Equal is rest =
        let no : is_at (nat_cmp q) e.0 ≡ false = at_other q e.0 (λ same. other (same ∙ sym (ranked k e.0 Equal is))) in
        ap (λ b. cond b (Some v) (lookup (is_at (nat_cmp q)) es)) no ∙ sym (ap (λ b. cond b (Some e.1) (lookup (is_at (nat_cmp q)) es)) no)
    by Greater is rest = ap (λ r. cond (is_at (nat_cmp q) e.0) (Some e.1) r) rest

-- A table is gone when it is removed after it was inserted.
pub removed_inserted : (k : ℕ) (v : List Row) (es : Tables) → lookup (is_at (nat_cmp k)) es ≡ None → remove_entry (is_at (nat_cmp k)) (insert_entry nat_cmp es k v) ≡ es
removed_inserted k v [] none = ap (λ b. cond b [] ((k, v) ∷ [])) (at_itself k)
removed_inserted k v (e ∷ es) none = by (nat_cmp k e.0) refl (removed_inserted k v es)
  where
    by : (o : Ordering) → o ≡ nat_cmp k e.0 → (lookup (is_at (nat_cmp k)) es ≡ None → remove_entry (is_at (nat_cmp k)) (insert_entry nat_cmp es k v) ≡ es) → remove_entry (is_at (nat_cmp k)) (match_ordering o ((k, v) ∷ e ∷ es) ((e.0, v) ∷ es) (e ∷ insert_entry nat_cmp es k v)) ≡ e ∷ es
    by Less is later = ap (λ b. cond b (e ∷ es) ((k, v) ∷ remove_entry (is_at (nat_cmp k)) (e ∷ es))) (at_itself k)
    by Equal is later =
        let found : Some e.1 ≡ None = sym (ap (λ b. cond b (Some e.1) (lookup (is_at (nat_cmp k)) es)) (ap (is_at (nat_cmp k)) (sym (ranked k e.0 Equal is)) ∙ at_itself k)) ∙ none in
        absurd (cc found)
    by Greater is later =
        let lower : e.0 < k = ranked k e.0 Greater is in
        let no : is_at (nat_cmp k) e.0 ≡ false = at_other k e.0 (λ same. absurd (omega (arith, lower, same))) in
        let rest : lookup (is_at (nat_cmp k)) es ≡ None = sym (ap (λ b. cond b (Some e.1) (lookup (is_at (nat_cmp k)) es)) no) ∙ none in
        ap (λ b. cond b (insert_entry nat_cmp es k v) (e ∷ remove_entry (is_at (nat_cmp k)) (insert_entry nat_cmp es k v))) no ∙ ap (λ r. e ∷ r) (later rest)

-- ---- all tables by id

-- The first value if there is one, and otherwise the second.
abbrev pub or_else : Option (List Row) → Option (List Row) → Option (List Row)
or_else None other = other
or_else (Some rows) other = Some rows

-- No table has this id.
pub not_among : (id : ℕ) (tables : Tables) → AllByRecursion (λ table. id ≢ table.0) tables → rows_among id tables ≡ None
not_among id [] none = refl
not_among id (t ∷ tables) none = ap (λ b. option_map (λ table. table.1) (if b then Some t else find (λ table. id == table.0) tables)) (ne_eqb id t.0 none.0) ∙ not_among id tables none.1

-- A table is found by its id.
found_from : (id : ℕ) (es tables : Tables) → Pairs (λ a b. a.0 ≢ b.0) tables
    → lookup (is_at (nat_cmp id)) (fold (λ held table. insert_entry nat_cmp held table.0 table.1) es tables) ≡ or_else (rows_among id tables) (lookup (is_at (nat_cmp id)) es)
found_from id es [] once = refl
found_from id es (t ∷ tables) once = by (id == t.0) refl (found_from id (insert_entry nat_cmp es t.0 t.1) tables once.1)
  where
    by : (b : Bool) → (id == t.0) ≡ b
        → lookup (is_at (nat_cmp id)) (fold (λ held table. insert_entry nat_cmp held table.0 table.1) es (t ∷ tables)) ≡ or_else (rows_among id tables) (lookup (is_at (nat_cmp id)) (insert_entry nat_cmp es t.0 t.1))
        → lookup (is_at (nat_cmp id)) (fold (λ held table. insert_entry nat_cmp held table.0 table.1) es (t ∷ tables)) ≡ or_else (option_map (λ table. table.1) (if b then Some t else find (λ table. id == table.0) tables)) (lookup (is_at (nat_cmp id)) es)
    by true is rest =
        let same : id ≡ t.0 = eqb-true id t.0 is in
        rest ∙ (ap (λ r. or_else r (lookup (is_at (nat_cmp id)) (insert_entry nat_cmp es t.0 t.1))) (not_among id tables (subst (λ n. AllByRecursion (λ table. n ≢ table.0) tables) (sym same) once.0))
        ∙ subst (λ n. lookup (is_at (nat_cmp n)) (insert_entry nat_cmp es t.0 t.1) ≡ Some t.1) (sym same) (lookup_inserted t.0 t.1 es))
    by false is rest = rest ∙ ap (or_else (rows_among id tables)) (lookup_others id t.0 t.1 es (λ same. absurd (cc (sym (eq-eqb id t.0 same) ∙ is))))

-- A table is found by its id.
pub found : (id : ℕ) (tables : Tables) → Pairs (λ a b. a.0 ≢ b.0) tables → lookup (is_at (nat_cmp id)) (by_id tables) ≡ rows_among id tables
found id tables once = found_from id [] tables once ∙ alone (rows_among id tables)
  where
    alone : (r : Option (List Row)) → or_else r None ≡ r
    alone None = refl
    alone (Some rows) = refl
