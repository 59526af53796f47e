-- The rows in the range of one key, and tables whose keys lie apart from a key.
use Rattle.std.proofs.Common.{◌≡◌, refl, ap, ◌∙◌, subst, List, [], ◌∷◌, cond, Bool, true, false, not, ◌&&◌, ◌||◌, ℕ, append-nil}
use Rattle.std.specs.Prelude.{bytes_eq}
use Rattle.std.specs.declared.cmp.Ordering.{Ordering}
use Rattle.std.specs.declared.cmp.Ordering.TheVariants.{Less, Equal, Greater}
use Rattle.std.specs.Ordering.{is_le, is_lt, is_gt, ordering_reverse}
use Rattle.std.proofs.lemmas.Cmp.{nat_list_cmp_total}
use Rattle.std.proofs.lemmas.Slice.Eq.{bytes_eq-Decides}
use Rattle.row_model.specs.Ranges.{is_in_range, rows_in}
use Rattle.row_model.specs.Rows.{Row, key_cmp, rows_of_key}
use Rattle.row_laws.proofs.KeyRows.{exact, key_alike}
use Rattle.fleet_model.specs.Handles.{Handle}
use Rattle.fleet_model.specs.Nodes.{table_rows}
use Rattle.fleet_model.specs.Store.{Store}
use Rattle.fleet_model.specs.Trees.{first_key, last_key}
use Rattle.fleet_table.proofs.Newest.{none_before, none_after_last}
use Rattle.fleet_tree.specs.Views.{View}
use Rattle.fleet_read.specs.Stored.{IsHeldView, only_key, view_rows}

and_false : (b : Bool) → (b && false) ≡ false
and_false true = refl
and_false false = refl

-- A key lies in the range of one key if it is that key.
in_only : (key k : List ℕ) → is_in_range (only_key key) k ≡ bytes_eq key k
in_only key k = by (bytes_eq key k) refl
  where
    by : (b : Bool) → bytes_eq key k ≡ b → is_in_range (only_key key) k ≡ b
    by true same =
        let alike : key ≡ k = (bytes_eq-Decides key k).0 same in
        subst (λ l. is_in_range (only_key key) l ≡ true) alike (ap (λ o. not (is_gt o) && not (is_gt o)) (key_alike key))
    by false other = apart (key_cmp k key) refl
      where
        apart : (o : Ordering) → key_cmp k key ≡ o → is_in_range (only_key key) k ≡ false
        apart Less low =
            let high : key_cmp key k ≡ Greater = nat_list_cmp_total.antisymm key k ∙ ap ordering_reverse low in
            ap (λ o. not (is_gt o) && not (is_gt (key_cmp k key))) high
        apart Equal same =
            let alike : key_cmp key k ≡ Equal = nat_list_cmp_total.antisymm key k ∙ ap ordering_reverse same in
            let here = (bytes_eq-Decides key k).1 (exact key k alike) in
            absurd (cc (here, other))
        apart Greater high = ap (λ o. not (is_gt (key_cmp key k)) && not (is_gt o)) high ∙ and_false (not (is_gt (key_cmp key k)))

pub only_rows : (key : List ℕ) (rows : List Row) → rows_in (only_key key) rows ≡ rows_of_key key rows
only_rows key [] = refl
only_rows key (r ∷ rows) =
    ap (λ b. cond b (r ∷ rows_in (only_key key) rows) (rows_in (only_key key) rows)) (in_only key r.key)
    ∙ ap (λ rs. cond (bytes_eq key r.key) (r ∷ rs) rs) (only_rows key rows)

-- A table whose keys lie apart from a key has no row of it.
pub outside_none : (store : Store) (view : View) (key : List ℕ) → IsHeldView store view → (is_lt (key_cmp key view.sst.first_key) || is_gt (key_cmp key view.sst.last_key)) ≡ true → view_rows store key (view ∷ []) ≡ []
outside_none store view key held outside =
    let rows = table_rows store.tables view.sst.id in
    let described = held.names.described.describes in
    let first : view.sst.first_key ≡ first_key rows = ap (λ (h : Handle). h.first_key) described in
    let last : view.sst.last_key ≡ last_key [] rows = ap (λ (h : Handle). h.last_key) described in
    append-nil (rows_of_key key rows) ∙ by (is_lt (key_cmp key view.sst.first_key)) refl (is_gt (key_cmp key view.sst.last_key)) refl first last outside
  where
    rows : List Row
    rows = table_rows store.tables view.sst.id

    by : (b : Bool) → is_lt (key_cmp key view.sst.first_key) ≡ b → (c : Bool) → is_gt (key_cmp key view.sst.last_key) ≡ c → view.sst.first_key ≡ first_key rows → view.sst.last_key ≡ last_key [] rows → (b || c) ≡ true → rows_of_key key rows ≡ []
    by true low c high first last is = none_before key rows held.table.some held.table.ordered (subst (λ k. is_lt (key_cmp key k) ≡ true) first low)
    by false low true high first last is = none_after_last key rows held.table.ordered (subst (λ k. is_gt (key_cmp key k) ≡ true) last high)
    by false low false high first last is = absurd (cc is)

-- Two keys that are this one: the first is not above the second.
pub same_le : (a b key : List ℕ) → a ≡ key → b ≡ key → is_le (key_cmp a b) ≡ true
same_le a b key p q = ap (λ k. is_le (key_cmp k b)) p ∙ (ap (λ k. is_le (key_cmp key k)) q ∙ ap is_le (key_alike key))
