-- The rows of a run that a move makes: its nodes' tables in the order of their first keys.
use Rattle.std.proofs.Common.{◌≡◌, refl, sym, ◌∙◌, ap, subst, ℕ, List, [], ◌∷◌, ◌++◌, cond, Bool, true, false, inl, inr, ◌⊎◌}
use Rattle.std.specs.Prelude.{◌≢◌, ◌&&◌, flat_map, IsTrue}
use Rattle.std.specs.List.{AllByRecursion}
use Rattle.std.specs.List.Sorted.{IsStrictlySortedBy}
use Rattle.std.specs.declared.cmp.Ordering.{Ordering}
use Rattle.std.specs.declared.cmp.Ordering.TheVariants.{Less, Equal, Greater}
use Rattle.std.specs.Ordering.{is_lt, nat_cmp, ordering_then, ordering_reverse}
use Rattle.std.proofs.lemmas.Cmp.{nat_list_cmp_total}
use Rattle.std.proofs.lemmas.List.{append-nil}
use Rattle.row_model.specs.Lists.{Pairs}
use Rattle.row_model.specs.Rows.{Row, key_cmp, row_cmp, rows_of_key, insert_row, sorted_rows, IsStrictlyOrdered}
use Rattle.row_model.specs.Fold.{Operator}
use Rattle.fleet_model.specs.Nodes.{Tables, table_rows, Node, Tree, node_rows, flushed_node_rows}
use Rattle.fleet_model.specs.Store.{Store}
use Rattle.fleet_model.specs.Trees.{first_key, last_key, put_by_first_key, by_first_key, are_apart}
use Rattle.fleet_model.specs.Invariants.TreesFit.{IsNewer}
use Rattle.fleet_model.specs.Invariants.ReadsFit.{SameReads}
use Rattle.row_laws.specs.Merges.{AreApart}
use Rattle.row_laws.proofs.Order.{row_total}
use Rattle.row_laws.proofs.KeyRows.{exact}
use Rattle.row_laws.proofs.ApartRows.{lt_is}
use Rattle.step_laws.proofs.Elements.{all_to, all_front, all_back, all_append, all_flat, all_unflat}
use Rattle.commit_laws.proofs.Stretches.{never_both, pairs_second, pairs_across}
use Rattle.fleet_laws.proofs.TreeRows.{part_rows}
use Rattle.commit_laws.proofs.RunRows.{RunFits, nodes_apart, rows_of_pieces, flushes_of_run, held_rows, flush_rows, sorted_of_key}
use Rattle.commit_laws.specs.RunReads.{run_for, AreTables}
use Rattle.step_laws.proofs.TableReplays.{by_first_all}

-- ---- rows may be inserted in any order

-- A row that is before another is not after it.
not_after : (r q : Row) → is_lt (row_cmp r q) ≡ true → is_lt (row_cmp q r) ≡ false
not_after r q e = ap is_lt (row_total.antisymm q r ∙ ap ordering_reverse (lt_is (row_cmp r q) e))

-- Of two rows at other places, one that is not before the other is after it.
is_after : (r q : Row) → row_cmp r q ≢ Equal → is_lt (row_cmp r q) ≡ false → is_lt (row_cmp q r) ≡ true
is_after r q apart e = ap is_lt (row_total.antisymm q r ∙ by (row_cmp r q) refl)
  where
    by : (o : Ordering) → row_cmp r q ≡ o → ordering_reverse (row_cmp r q) ≡ Less
    by Less f = let clash : true ≡ false = sym (ap is_lt f) ∙ e in absurd (cc clash)
    by Equal f = absurd (apart f)
    by Greater f = ap ordering_reverse f

lt_trans : (a b c : Row) → is_lt (row_cmp a b) ≡ true → is_lt (row_cmp b c) ≡ true → is_lt (row_cmp a c) ≡ true
lt_trans a b c e f = ap is_lt (row_total.trans a b c (lt_is (row_cmp a b) e) (lt_is (row_cmp b c) f))

-- Two rows at different places may be inserted in either order.
pub insert_swap : (r q : Row) (rows : List Row) → row_cmp r q ≢ Equal → insert_row r (insert_row q rows) ≡ insert_row q (insert_row r rows)
insert_swap r q [] apart = by (is_lt (row_cmp r q)) refl
  where
    by : (b : Bool) → is_lt (row_cmp r q) ≡ b → cond b (r ∷ q ∷ []) (q ∷ r ∷ []) ≡ insert_row q (r ∷ [])
    by true e = sym (ap (λ c. cond c (q ∷ r ∷ []) (r ∷ q ∷ [])) (not_after r q e))
    by false e = sym (ap (λ c. cond c (q ∷ r ∷ []) (r ∷ q ∷ [])) (is_after r q apart e))
insert_swap r q (x ∷ rows) apart = by (is_lt (row_cmp r x)) refl (is_lt (row_cmp q x)) refl (insert_swap r q rows apart)
  where
    front : (a b : Row) → is_lt (row_cmp a b) ≡ true → (zs : List Row) → insert_row a (b ∷ zs) ≡ a ∷ b ∷ zs
    front a b e zs = ap (λ c. cond c (a ∷ b ∷ zs) (b ∷ insert_row a zs)) e

    later : (a b : Row) → is_lt (row_cmp a b) ≡ false → (zs : List Row) → insert_row a (b ∷ zs) ≡ b ∷ insert_row a zs
    later a b e zs = ap (λ c. cond c (a ∷ b ∷ zs) (b ∷ insert_row a zs)) e

    two : (b : Bool) → is_lt (row_cmp r q) ≡ b → is_lt (row_cmp r x) ≡ true → is_lt (row_cmp q x) ≡ true → insert_row r (q ∷ x ∷ rows) ≡ insert_row q (r ∷ x ∷ rows)
    two true e f g = front r q e (x ∷ rows) ∙ sym (later q r (not_after r q e) (x ∷ rows) ∙ ap (λ zs. r ∷ zs) (front q x g rows))
    two false e f g = later r q e (x ∷ rows) ∙ ap (λ zs. q ∷ zs) (front r x f rows) ∙ sym (front q r (is_after r q apart e) (x ∷ rows))

    one : (b : Bool) → is_lt (row_cmp q r) ≡ b → is_lt (row_cmp r x) ≡ true → is_lt (row_cmp q x) ≡ false → insert_row r (x ∷ insert_row q rows) ≡ insert_row q (r ∷ x ∷ rows)
    one true e f g = absurd (never_both (is_lt (row_cmp q x)) (lt_trans q r x e f) g)
    one false e f g = front r x f (insert_row q rows) ∙ sym (later q r e (x ∷ rows) ∙ ap (λ zs. r ∷ zs) (later q x g rows))

    other : (b : Bool) → is_lt (row_cmp r q) ≡ b → is_lt (row_cmp r x) ≡ false → is_lt (row_cmp q x) ≡ true → insert_row r (q ∷ x ∷ rows) ≡ insert_row q (x ∷ insert_row r rows)
    other true e f g = absurd (never_both (is_lt (row_cmp r x)) (lt_trans r q x e g) f)
    other false e f g = later r q e (x ∷ rows) ∙ ap (λ zs. q ∷ zs) (later r x f rows) ∙ sym (front q x g (insert_row r rows))

    by : (b : Bool) → is_lt (row_cmp r x) ≡ b → (c : Bool) → is_lt (row_cmp q x) ≡ c → insert_row r (insert_row q rows) ≡ insert_row q (insert_row r rows)
        → insert_row r (cond c (q ∷ x ∷ rows) (x ∷ insert_row q rows)) ≡ insert_row q (cond b (r ∷ x ∷ rows) (x ∷ insert_row r rows))
    by true f true g rest = two (is_lt (row_cmp r q)) refl f g
    by true f false g rest = one (is_lt (row_cmp q r)) refl f g
    by false f true g rest = other (is_lt (row_cmp r q)) refl f g
    by false f false g rest = later r x f (insert_row q rows) ∙ ap (λ zs. x ∷ zs) rest ∙ sym (later q x g (insert_row r rows))

insert_past : (r : Row) (ys zs : List Row) → AllByRecursion (λ y. row_cmp r y ≢ Equal) ys → insert_row r (sorted_rows (ys ++ zs)) ≡ sorted_rows (ys ++ r ∷ zs)
insert_past r [] zs h = refl
insert_past r (y ∷ ys) zs h = insert_swap r y (sorted_rows (ys ++ zs)) h.0 ∙ ap (insert_row y) (insert_past r ys zs h.1)

-- Every row of one list is at another place than every row of the other.
abbrev pub Across : List Row → List Row → Type 0
Across xs ys = AllByRecursion (λ x. AllByRecursion (λ y. row_cmp x y ≢ Equal) ys) xs

pub sorted_swap : (xs ys zs : List Row) → Across xs ys → sorted_rows (xs ++ (ys ++ zs)) ≡ sorted_rows (ys ++ (xs ++ zs))
sorted_swap [] ys zs h = refl
sorted_swap (x ∷ xs) ys zs h = ap (insert_row x) (sorted_swap xs ys zs h.1) ∙ insert_past x ys (xs ++ zs) h.0

pub sorted_front : (xs ys zs : List Row) → sorted_rows ys ≡ sorted_rows zs → sorted_rows (xs ++ ys) ≡ sorted_rows (xs ++ zs)
sorted_front [] ys zs e = e
sorted_front (x ∷ xs) ys zs e = ap (insert_row x) (sorted_front xs ys zs e)

-- ---- tables in the order of their first keys

abbrev pub rows_of : Tables → List ℕ → List Row
rows_of tables pieces = flat_map (table_rows tables) pieces

put_sorted : (tables : Tables) (piece : ℕ) (pieces : List ℕ) → Across (table_rows tables piece) (rows_of tables pieces) → sorted_rows (rows_of tables (put_by_first_key tables piece pieces)) ≡ sorted_rows (table_rows tables piece ++ rows_of tables pieces)
put_sorted tables piece [] h = refl
put_sorted tables piece (q ∷ pieces) h = by (is_lt (key_cmp (first_key (table_rows tables q)) (first_key (table_rows tables piece))))
    (put_sorted tables piece pieces (all_to _ _ (table_rows tables piece) (λ r there all. all_back _ (table_rows tables q) (rows_of tables pieces) all) h))
  where
    by : (b : Bool) → sorted_rows (rows_of tables (put_by_first_key tables piece pieces)) ≡ sorted_rows (table_rows tables piece ++ rows_of tables pieces)
        → sorted_rows (rows_of tables (cond b (q ∷ put_by_first_key tables piece pieces) (piece ∷ q ∷ pieces))) ≡ sorted_rows (table_rows tables piece ++ (table_rows tables q ++ rows_of tables pieces))
    by true rest = sorted_front (table_rows tables q) _ _ rest
        ∙ sym (sorted_swap (table_rows tables piece) (table_rows tables q) (rows_of tables pieces) (all_to _ _ (table_rows tables piece) (λ r there all. all_front _ (table_rows tables q) (rows_of tables pieces) all) h))
    by false rest = refl

all_rows : (P : Row → Type 0) (tables : Tables) (pieces : List ℕ) → AllByRecursion P (rows_of tables pieces) → AllByRecursion P (rows_of tables (by_first_key tables pieces))
all_rows P tables pieces h = all_flat P (table_rows tables) (by_first_key tables pieces) (by_first_all (λ t. AllByRecursion P (table_rows tables t)) tables pieces (all_unflat P (table_rows tables) pieces h))

pub first_key_sorted : (tables : Tables) (pieces : List ℕ) → AreApart (rows_of tables pieces) → sorted_rows (rows_of tables (by_first_key tables pieces)) ≡ sorted_rows (rows_of tables pieces)
first_key_sorted tables [] h = refl
first_key_sorted tables (piece ∷ pieces) h =
    let across = pairs_across (λ (r q : Row). row_cmp r q ≢ Equal) (table_rows tables piece) (rows_of tables pieces) h in
    put_sorted tables piece (by_first_key tables pieces) (all_to _ _ (table_rows tables piece) (λ r there all. all_rows (λ q. row_cmp r q ≢ Equal) tables pieces all) across)
    ∙ sorted_front (table_rows tables piece) _ _ (first_key_sorted tables pieces (pairs_second (λ (r q : Row). row_cmp r q ≢ Equal) (table_rows tables piece) (rows_of tables pieces) h))

-- ---- tables that lie apart are in order

-- The key is below, or equal.
abbrev pub UpTo : List ℕ → List ℕ → Type 0
UpTo a b = (a ≡ b) ⊎ (key_cmp a b ≡ Less)

up_to_trans : (a b c : List ℕ) → UpTo a b → UpTo b c → UpTo a c
up_to_trans a b c (inl e) k = subst (λ x. UpTo x c) (sym e) k
up_to_trans a b c (inr l) (inl e) = inr (subst (λ x. key_cmp a x ≡ Less) e l)
up_to_trans a b c (inr l) (inr m) = inr (nat_list_cmp_total.trans a b c l m)

less_keys : (r q : Row) → row_cmp r q ≡ Less → UpTo r.key q.key
less_keys r q h = by (key_cmp r.key q.key) refl h
  where
    by : (o : Ordering) → key_cmp r.key q.key ≡ o → ordering_then o (nat_cmp q.seq r.seq) ≡ Less → UpTo r.key q.key
    by Less e h = inr e
    by Equal e h = inl (exact r.key q.key e)
    by Greater e h = absurd (cc h)

-- All keys of an ordered table are at most its last key.
up_to_last : (k : List ℕ) (rows : List Row) → IsStrictlyOrdered rows → AllByRecursion (λ r. UpTo r.key (last_key k rows)) rows
unfolding IsStrictlySortedBy
up_to_last k [] h = tt
up_to_last k (r ∷ []) h = (inl refl, tt)
up_to_last k (r ∷ q ∷ rows) h =
    let rest = up_to_last r.key (q ∷ rows) h.1 in
    (up_to_trans r.key q.key (last_key q.key rows) (less_keys r q h.0.0) rest.0, rest)

from_first : (rows : List Row) → IsStrictlyOrdered rows → AllByRecursion (λ r. UpTo (first_key rows) r.key) rows
unfolding IsStrictlySortedBy
from_first [] h = tt
from_first (r ∷ rows) h = (inl refl, all_to _ _ rows (λ q there less. less_keys r q less) h.0)

key_less : (r q : Row) → key_cmp r.key q.key ≡ Less → row_cmp r q ≡ Less
key_less r q e = ap (λ o. ordering_then o (nat_cmp q.seq r.seq)) e

between_keys : (a b c d : List ℕ) → UpTo a b → key_cmp b c ≡ Less → UpTo c d → key_cmp a d ≡ Less
between_keys a b c d (inl e) l (inl f) = subst (λ x. key_cmp x d ≡ Less) (sym e) (subst (λ x. key_cmp b x ≡ Less) f l)
between_keys a b c d (inl e) l (inr m) = subst (λ x. key_cmp x d ≡ Less) (sym e) (nat_list_cmp_total.trans b c d l m)
between_keys a b c d (inr k) l (inl f) = subst (λ x. key_cmp a x ≡ Less) f (nat_list_cmp_total.trans a b c k l)
between_keys a b c d (inr k) l (inr m) = nat_list_cmp_total.trans a c d (nat_list_cmp_total.trans a b c k l) m

and_parts : (a b : Bool) → IsTrue (a && b) → (a ≡ true) × IsTrue b
and_parts true b h = (refl, h)
and_parts false b h = absurd (cc h)

ordered_append : (xs ys : List Row) → IsStrictlyOrdered xs → IsStrictlyOrdered ys → AllByRecursion (λ x. AllByRecursion (λ y. row_cmp x y ≡ Less) ys) xs → IsStrictlyOrdered (xs ++ ys)
unfolding IsStrictlySortedBy
ordered_append [] ys h k across = k
ordered_append (x ∷ xs) ys h k across = (all_append (λ y. row_cmp x y ≡ Less) xs ys h.0 across.0, ordered_append xs ys h.1 k across.1)

-- All rows of these tables are from the first key of the first table on.
from_first_table : (tables : Tables) (a : ℕ) (pieces : List ℕ) → AreTables tables (a ∷ pieces) → IsTrue (are_apart tables (a ∷ pieces)) → AllByRecursion (λ r. UpTo (first_key (table_rows tables a)) r.key) (rows_of tables (a ∷ pieces))
from_first_table tables a [] h apart = all_append _ (table_rows tables a) [] (from_first (table_rows tables a) h.0.1) tt
from_first_table tables a (b ∷ pieces) h apart =
    let parts = and_parts (is_lt (key_cmp (last_key [] (table_rows tables a)) (first_key (table_rows tables b)))) (are_apart tables (b ∷ pieces)) apart in
    let rest = from_first_table tables b pieces h.1 parts.1 in
    all_append _ (table_rows tables a) (rows_of tables (b ∷ pieces)) (from_first (table_rows tables a) h.0.1)
    (all_to _ _ (rows_of tables (b ∷ pieces)) (λ r there from. inr (between_keys (first_key (table_rows tables a)) (last_key [] (table_rows tables a)) (first_key (table_rows tables b)) r.key (first_last (table_rows tables a) h.0.0 h.0.1) (lt_is _ parts.0) from)) rest)
  where
    first_last : (rows : List Row) → rows ≢ [] → IsStrictlyOrdered rows → UpTo (first_key rows) (last_key [] rows)
    first_last [] some ordered = absurd (some refl)
    first_last (r ∷ rows) some ordered = (up_to_last [] (r ∷ rows) ordered).0

pub apart_ordered : (tables : Tables) (pieces : List ℕ) → AreTables tables pieces → IsTrue (are_apart tables pieces) → IsStrictlyOrdered (rows_of tables pieces)
unfolding IsStrictlySortedBy
apart_ordered tables [] h apart = tt
apart_ordered tables (a ∷ []) h apart = subst IsStrictlyOrdered (sym (append-nil (table_rows tables a))) h.0.1
apart_ordered tables (a ∷ b ∷ pieces) h apart =
    let parts = and_parts (is_lt (key_cmp (last_key [] (table_rows tables a)) (first_key (table_rows tables b)))) (are_apart tables (b ∷ pieces)) apart in
    ordered_append (table_rows tables a) (rows_of tables (b ∷ pieces)) h.0.1 (apart_ordered tables (b ∷ pieces) h.1 parts.1)
    (all_to _ _ (table_rows tables a) (λ r there up. all_to _ _ (rows_of tables (b ∷ pieces)) (λ q one from. key_less r q (between_keys r.key (last_key [] (table_rows tables a)) (first_key (table_rows tables b)) q.key up (lt_is _ parts.0) from)) (from_first_table tables b pieces h.1 parts.1))
    (up_to_last [] (table_rows tables a) h.0.1))

-- ---- moves

-- A run of the tables of some nodes fits in the nodes' place, if these tables lie apart and stand by their first keys.
pub move_fits : (merge : Operator) (store : Store) (oldest : Bool) (id : ℕ) (taken : Tree) → Pairs (IsNewer store.tables) taken → AllByRecursion (λ (node : Node). IsStrictlyOrdered (node_rows store.tables node)) taken
    → AreTables store.tables (flat_map (λ (node : Node). node.pieces) taken) → IsTrue (are_apart store.tables (by_first_key store.tables (flat_map (λ (node : Node). node.pieces) taken)))
    → RunFits merge store oldest taken (run_for id (by_first_key store.tables (flat_map (λ (node : Node). node.pieces) taken)) taken)
move_fits merge store oldest id taken newest ordered are apart = record {
  covered = λ P h. all_append (λ (r : Row). P r.seq) (rows_of tables moved) (flushed_node_rows tables (run_for id moved taken))
      (all_rows (λ (r : Row). P r.seq) tables pieces (subst (AllByRecursion (λ (r : Row). P r.seq)) (sym (rows_of_pieces tables taken)) (held_rows tables (λ (r : Row). P r.seq) taken h)))
      (subst (AllByRecursion (λ (r : Row). P r.seq)) (sym (flushes_of_run tables id moved taken)) (flush_rows tables (λ (r : Row). P r.seq) taken h));
  ordered = apart_ordered tables moved (by_first_all _ tables pieces are) apart;
  reads = λ key. subst (SameReads merge store.manifest oldest key (part_rows true tables key taken)) (same key) (λ s now above below from late last. refl);
}
  where
    tables : Tables
    tables = store.tables

    pieces : List ℕ
    pieces = flat_map (λ (node : Node). node.pieces) taken

    moved : List ℕ
    moved = by_first_key tables pieces

    same : (key : List ℕ) → part_rows true tables key taken ≡ sorted_rows (rows_of_key key (rows_of tables moved))
    same key = sorted_of_key key (flat_map (node_rows tables) taken)
        ∙ ap (λ rows. rows_of_key key (sorted_rows rows)) (sym (rows_of_pieces tables taken))
        ∙ ap (rows_of_key key) (sym (first_key_sorted tables pieces (subst AreApart (sym (rows_of_pieces tables taken)) (nodes_apart tables taken newest ordered))))
        ∙ sym (sorted_of_key key (rows_of tables moved))
