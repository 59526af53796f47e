-- The rules of a flush.
use Rattle.std.proofs.Common.{◌≡◌, ◌≢◌, refl, sym, ◌∙◌, ap, subst, ℕ, ℤ, Bool, true, false, cond, List, [], ◌∷◌, Option, Some, None, option_map, arith, get_or}
use Rattle.std.specs.Prelude.{◌&&◌, nat_lt, nat_eq, int_lt, not, min, max, fold, find, map, bytes_eq}
use Rattle.std.specs.List.{AllByRecursion, list_all, starts_with}
use Rattle.std.specs.Ordering.{is_lt}
use Rattle.std.specs.declared.cmp.Ordering.{Ordering}
use Rattle.std.specs.declared.cmp.Ordering.TheVariants.{Less, Equal, Greater}
use Rattle.std.proofs.lemmas.Cmp.{nat_list_cmp_total}
use Rattle.std.proofs.lemmas.Bool.{le-ltb, lt-ltb, ltb-false, ltb-true}
use Rattle.std.proofs.lemmas.Slice.Eq.{bytes_eq-Decides}
use Rattle.row_model.specs.Rows.{Row, key_cmp}
use Rattle.row_laws.proofs.KeyRows.{key_alike}
use Rattle.fleet_model.specs.Nodes.{Trees, last_seq_of, segment_at}
use Rattle.fleet_model.specs.Store.{Manifest}
use Rattle.fleet_model.specs.Tracker.{least_from, least_seq_of}
use Rattle.fleet_model.specs.Trees.{greatest_seq}
use Rattle.step_model.specs.Steps.FlushSteps.{FlushAsk, fault_after_get, is_above}
use Rattle.step_model.specs.Courses.StepEnds.{FlushFault, BadSequence, BadFloor, BadTick}
use Rattle.step_laws.proofs.FlushTrees.{Rising}
use Rattle.fleet_rows.specs.Row.{rows_of}
use Rattle.fleet_rows.specs.declared.row.RowEntry.{RowEntry}
use Rattle.fleet_tree.specs.Laws.{met_tree}
use Rattle.fleet_tree.specs.Manifests.{manifest_of}
use Rattle.fleet_tree.specs.Trees.{empty_tree, segment_of}
use Rattle.fleet_tree.specs.declared.manifest.Manifest as own
use Rattle.fleet_tree.specs.declared.tree.LsmTreeState.{LsmTreeState}
use Rattle.fleet_store.specs.Manifests.{bare, bare_of, bare_segment}

-- ---- the rows

pub all_of_segment : (segment : List ℕ) (rows : List RowEntry) → list_all (λ (row : RowEntry). starts_with nat_eq row.key segment) rows ≡ list_all (λ (r : Row). starts_with nat_eq r.key segment) (rows_of rows)
all_of_segment segment [] = refl
all_of_segment segment (row ∷ rows) = ap (λ rest. starts_with nat_eq row.key segment && rest) (all_of_segment segment rows)

least_moved : (a b : ℕ) (rows : List Row) → least_from (min a b) rows ≡ min b (least_from a rows)
least_moved a b [] = omega arith
least_moved a b (r ∷ rows) = let rest = least_moved a b rows in omega (arith, rest)

least_low : (a : ℕ) (rows : List Row) → min a (least_from a rows) ≡ least_from a rows
least_low a [] = omega arith
least_low a (r ∷ rows) = let rest = least_low a rows in omega (arith, rest)

fold_least : (a : ℕ) (rows : List RowEntry) → fold (λ seq (row : RowEntry). min seq row.seq) a rows ≡ least_from a (rows_of rows)
fold_least a [] = refl
fold_least a (row ∷ rows) = fold_least (min a row.seq) rows ∙ least_moved a row.seq (rows_of rows)

least_is : (row : RowEntry) (rows : List RowEntry) → fold (λ seq (row : RowEntry). min seq row.seq) row.seq (row ∷ rows) ≡ least_seq_of (rows_of (row ∷ rows))
least_is row rows = fold_least row.seq (row ∷ rows) ∙ least_low row.seq (rows_of rows)

fold_greatest : (a : ℕ) (rows : List RowEntry) → greatest_seq (Some a) (rows_of rows) ≡ Some (fold (λ seq (row : RowEntry). max seq row.seq) a rows)
fold_greatest a [] = refl
fold_greatest a (row ∷ rows) = fold_greatest (max a row.seq) rows

greatest_is : (row : RowEntry) (rows : List RowEntry) → greatest_seq None (rows_of (row ∷ rows)) ≡ Some (fold (λ seq (row : RowEntry). max seq row.seq) row.seq (row ∷ rows))
greatest_is row rows = fold_greatest row.seq rows ∙ ap (λ a. Some (fold (λ seq (row : RowEntry). max seq row.seq) a rows)) (twice row.seq)
  where
    twice : (a : ℕ) → a ≡ max a a
    twice a = omega arith

-- The folds begin with the sequence of the first row.
pub least_at : (rows : List RowEntry) (row : RowEntry) → rows ≢ [] → fold (λ seq (row : RowEntry). min seq row.seq) (get_or rows 0 row).seq rows ≡ least_seq_of (rows_of rows)
least_at [] row some = absurd (some refl)
least_at (first ∷ rows) row some = least_is first rows

pub greatest_at : (rows : List RowEntry) (row : RowEntry) → rows ≢ [] → greatest_seq None (rows_of rows) ≡ Some (fold (λ seq (row : RowEntry). max seq row.seq) (get_or rows 0 row).seq rows)
greatest_at [] row some = absurd (some refl)
greatest_at (first ∷ rows) row some = greatest_is first rows

-- ---- sequences above the last one

lower_both : (last a b : ℕ) → nat_lt last (min a b) ≡ (nat_lt last a && nat_lt last b)
lower_both last a b = by (nat_lt last a) refl (nat_lt last b) refl
  where
    by : (x : Bool) → nat_lt last a ≡ x → (y : Bool) → nat_lt last b ≡ y → nat_lt last (min a b) ≡ (x && y)
    by true e true f = let low = ltb-true last a e in let less = ltb-true last b f in lt-ltb last (min a b) (omega (arith, low, less))
    by true e false f = let high = ltb-false last b f in le-ltb last (min a b) (omega (arith, high))
    by false e y f = let high = ltb-false last a e in le-ltb last (min a b) (omega (arith, high))

-- All rows are above the last sequence if the least one is.
pub least_above : (last : Option ℕ) (rows : List Row) → rows ≢ [] → list_all (λ r. is_above last r.seq) rows ≡ is_above last (least_seq_of rows)
least_above None [] some = absurd (some refl)
least_above None (r ∷ rows) some = all_above rows
  where
    all_above : (rows : List Row) → list_all (λ (r : Row). true) rows ≡ true
    all_above [] = refl
    all_above (r ∷ rows) = all_above rows
least_above (Some last) [] some = absurd (some refl)
least_above (Some last) (r ∷ rows) some = from r.seq rows
  where
    from : (a : ℕ) (rows : List Row) → (nat_lt last a && list_all (λ (r : Row). nat_lt last r.seq) rows) ≡ nat_lt last (least_from a rows)
    from a [] = right (nat_lt last a)
      where
        right : (b : Bool) → (b && true) ≡ b
        right true = refl
        right false = refl
    from a (r ∷ rows) = swapped (nat_lt last a) (nat_lt last r.seq) (list_all (λ (r : Row). nat_lt last r.seq) rows) ∙ ap (λ rest. nat_lt last r.seq && rest) (from a rows) ∙ sym (lower_both last r.seq (least_from a rows))
      where
        swapped : (x y z : Bool) → (x && (y && z)) ≡ (y && (x && z))
        swapped true true z = refl
        swapped true false z = refl
        swapped false true z = refl
        swapped false false z = refl

-- ---- the last sequence of a segment

abbrev pub bare_flushes : (prefix : List ℕ) (run : ℕ) → List ℕ
bare_flushes prefix run = []

abbrev pub last_of : Option (List ℕ × LsmTreeState) → Option ℕ
last_of None = None
last_of (Some s) = s.1.last_seq

pub last_found : (segment : List ℕ) (trees : List (List ℕ × LsmTreeState)) → last_seq_of (segment_at segment (map (segment_of bare_flushes) trees)) ≡ last_of (find (λ s. bytes_eq segment s.0) trees)
last_found segment [] = refl
last_found segment (s ∷ trees) = by (bytes_eq segment s.0) (last_found segment trees)
  where
    by : (b : Bool) → last_seq_of (segment_at segment (map (segment_of bare_flushes) trees)) ≡ last_of (find (λ s. bytes_eq segment s.0) trees)
        → last_seq_of (cond b (Some (segment_of bare_flushes s)) (segment_at segment (map (segment_of bare_flushes) trees))) ≡ last_of (cond b (Some s) (find (λ s. bytes_eq segment s.0) trees))
    by true rest = refl
    by false rest = rest

-- The last sequence of the tree that was found, if there is one.
abbrev pub last_of_tree : Option LsmTreeState → Option ℕ
last_of_tree None = None
last_of_tree (Some tree) = tree.last_seq

pub last_at : (segment : List ℕ) (trees : List (List ℕ × LsmTreeState)) (found : Option LsmTreeState) → found ≡ option_map (λ s. s.1) (find (λ s. bytes_eq segment s.0) trees)
    → last_of_tree found ≡ last_seq_of (segment_at segment (map (segment_of bare_flushes) trees))
last_at segment trees found is = ap last_of_tree is ∙ by (find (λ s. bytes_eq segment s.0) trees) ∙ sym (last_found segment trees)
  where
    by : (found : Option (List ℕ × LsmTreeState)) → last_of_tree (option_map (λ s. s.1) found) ≡ last_of found
    by None = refl
    by (Some s) = refl

-- Bare nodes leave it.
pub last_bare : (segment : List ℕ) (trees : Trees) → last_seq_of (segment_at segment (map bare_segment trees)) ≡ last_seq_of (segment_at segment trees)
last_bare segment [] = refl
last_bare segment (s ∷ trees) = by (bytes_eq segment s.prefix) (last_bare segment trees)
  where
    by : (b : Bool) → last_seq_of (segment_at segment (map bare_segment trees)) ≡ last_seq_of (segment_at segment trees)
        → last_seq_of (cond b (Some (bare_segment s)) (segment_at segment (map bare_segment trees))) ≡ last_seq_of (cond b (Some s) (segment_at segment trees))
    by true rest = refl
    by false rest = rest

-- ---- the rules over a manifest

abbrev pub fault_by : Bool → (floor stored_floor : ℕ) → (tick stored_tick : ℤ) → Option FlushFault
fault_by above floor stored_floor tick stored_tick =
    cond (not above) (Some BadSequence) (cond (nat_lt floor stored_floor) (Some BadFloor) (cond (int_lt tick stored_tick) (Some BadTick) None))

-- A program's manifest breaks the rules that the stored one breaks.
pub same_fault : (ask : FlushAsk) (one other : Manifest) → bare one ≡ bare other → fault_after_get one ask ≡ fault_after_get other ask
same_fault ask one other same =
    let last : last_seq_of (segment_at ask.segment one.trees) ≡ last_seq_of (segment_at ask.segment other.trees) =
    sym (last_bare ask.segment one.trees) ∙ ap (λ (m : Manifest). last_seq_of (segment_at ask.segment m.trees)) same ∙ last_bare ask.segment other.trees in
    ap (λ last. fault_by (list_all (λ r. is_above last r.seq) ask.rows) ask.floor one.floor ask.tick one.tick) last
    ∙ ap (λ (m : Manifest). fault_by (list_all (λ r. is_above (last_seq_of (segment_at ask.segment other.trees)) r.seq) ask.rows) ask.floor m.floor ask.tick m.tick) same

-- The fault over the manifest that was got is the one over the stored manifest.
pub got_fault : (ask : FlushAsk) (version : ℕ) (value : own.Manifest) (stored : Manifest) → bare_of version value ≡ bare stored → fault_after_get (manifest_of bare_flushes 0 0 value.core) ask ≡ fault_after_get stored ask
got_fault ask version value stored same = same_fault ask (manifest_of bare_flushes version value.compactor_epoch value.core) stored same

-- ---- the tree that a flush meets

lt_less : (o : Ordering) → is_lt o ≡ true → o ≡ Less
lt_less Less e = refl
lt_less Equal e = absurd (cc e)
lt_less Greater e = absurd (cc e)

not_less : (k : List ℕ) (x y : List ℕ) → key_cmp k x ≡ Less → key_cmp x y ≡ Less → bytes_eq k y ≡ false
not_less k x y low less = by (bytes_eq k y) refl
  where
    by : (b : Bool) → bytes_eq k y ≡ b → bytes_eq k y ≡ false
    by false e = e
    by true e = absurd (clash (subst (λ q. key_cmp q y ≡ Less) ((bytes_eq-Decides k y).0 e) (nat_list_cmp_total.trans k x y low less)) (key_alike y))
      where
        clash : key_cmp y y ≡ Less → key_cmp y y ≡ Equal → ⊥
        clash a b = absurd (cc (a, b))

none_below : (k x : List ℕ) (trees : List (List ℕ × LsmTreeState)) → key_cmp k x ≡ Less → AllByRecursion (λ s. key_cmp x s.prefix ≡ Less) (map (segment_of bare_flushes) trees) → find (λ s. bytes_eq k s.0) trees ≡ None
none_below k x [] low all = refl
none_below k x (s ∷ trees) low all = rw (not_less k x s.0 low all.0) (none_below k x trees low all.1)

-- If the prefixes rise, the flush meets the tree of its segment.
pub met_is : (segment : List ℕ) (trees : List (List ℕ × LsmTreeState)) → Rising (map (segment_of bare_flushes) trees) → (met_tree segment trees).last_seq ≡ last_of (find (λ s. bytes_eq segment s.0) trees)
met_is segment [] rise = refl
met_is segment (s ∷ trees) rise = by (bytes_eq segment s.0) refl (is_lt (key_cmp segment s.0)) refl (met_is segment trees rise.1)
  where
    by : (same : Bool) → bytes_eq segment s.0 ≡ same → (low : Bool) → is_lt (key_cmp segment s.0) ≡ low → (met_tree segment trees).last_seq ≡ last_of (find (λ s. bytes_eq segment s.0) trees)
        → (cond same s.1 (cond low empty_tree (met_tree segment trees))).last_seq ≡ last_of (cond same (Some s) (find (λ s. bytes_eq segment s.0) trees))
    by true e low f rest = refl
    by false e true f rest = sym (ap last_of (none_below segment s.0 trees (lt_less (key_cmp segment s.0) f) rise.0))
    by false e false f rest = rest

-- ---- the last sequence after a flush

-- If all rows are above the last sequence, the greatest one is the greatest of the rows.
pub greatest_after : (last : Option ℕ) (rows : List Row) (greatest : ℕ) → list_all (λ r. is_above last r.seq) rows ≡ true → greatest_seq None rows ≡ Some greatest → greatest_seq last rows ≡ Some greatest
greatest_after None rows greatest all is = is
greatest_after (Some last) [] greatest all is = absurd (cc is)
greatest_after (Some last) (r ∷ rows) greatest all is = ap (λ n. greatest_seq (Some n) rows) (higher (nat_lt last r.seq) refl all) ∙ is
  where
    higher : (b : Bool) → nat_lt last r.seq ≡ b → (b && list_all (λ (r : Row). nat_lt last r.seq) rows) ≡ true → max last r.seq ≡ r.seq
    higher true e all = let low = ltb-true last r.seq e in omega (arith, low)
    higher false e all = absurd (cc all)
