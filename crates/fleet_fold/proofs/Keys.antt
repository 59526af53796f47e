-- Rows key after key: the rows of the first key, and what a seek leaves.
use Rattle.std.proofs.Common.{◌≡◌, ◌≢◌, ◌∙◌, sym, refl, ap, subst, ℕ, ℤ, List, [], ◌∷◌, ◌++◌, Bool, true, false, cond, Option, None, append-nil}
use Rattle.std.specs.Prelude.{flat_map, if◌then◌else◌, bytes_eq}
use Rattle.std.specs.List.{AllByRecursion}
use Rattle.std.specs.Ordering.{is_lt, is_gt}
use Rattle.std.proofs.lemmas.List.{append_assoc}
use Rattle.std.proofs.lemmas.Slice.Eq.{bytes_eq-Decides}
use Rattle.row_model.specs.Chunks.{Chunk, elements, chunk_by, put_before}
use Rattle.row_model.specs.Rows.{Row, Tombstone, same_key, key_cmp, is_expired}
use Rattle.row_model.specs.Settings.{Settings}
use Rattle.row_model.specs.KeptRows.{kept_rows, kept_of_keys, as_tombstone_if_expired}
use Rattle.row_laws.specs.Walks.{IsJoined, EndsLoose}
use Rattle.row_laws.specs.Keys.{is_below}
use Rattle.row_laws.proofs.Walks.{chunk_is_walked}
use Rattle.row_laws.proofs.ApartRows.{false_or, lt_is, chunk_by-append}
use Rattle.std.specs.declared.cmp.Ordering.{Ordering}
use Rattle.std.specs.declared.cmp.Ordering.TheVariants.{Less, Equal, Greater}
use Rattle.std.proofs.lemmas.Cmp.{nat_list_cmp_total}
use Rattle.std.proofs.lemmas.Grind.{flat_map-append}
use Rattle.fleet_iter.specs.Iteration.{IteratorState, AreRising, CanFail, from_key}
use Rattle.fleet_rows.specs.Row.{rows_of}
use Rattle.fleet_rows.specs.declared.row.RowEntry.{RowEntry}
use Rattle.fleet_rows.specs.declared.errors.SlateDBError.{SlateDBError}
use Rattle.fleet_rows.specs.declared.errors.SlateDBError.TheVariants.{Memory}
use Rattle.fleet_fold.specs.Retention.{front, kept_given, HaveOneKey, AreEndedBy, from_ahead, ReadsKey, RefusesKey, RefusesFill}
use Rattle.fleet_fold.proofs.AllKept.{all_kept}

same : (a b : Row) → same_key a b ≡ true → a.key ≡ b.key
same a b h = (bytes_eq-Decides a.key b.key).0 h

-- Rows of one key join one another.
joined : (r x : Row) (rows : List Row) → same_key r x ≡ true → AllByRecursion (λ q. same_key r q ≡ true) rows → IsJoined same_key x rows
joined r x [] h all = tt
joined r x (y ∷ rows) h all = ((bytes_eq-Decides x.key y.key).1 (sym (same r x h) ∙ same r y all.0), joined r y rows all.0 all.1)

loose : (r x : Row) (rows later : List Row) → same_key r x ≡ true → AllByRecursion (λ q. same_key r q ≡ true) rows → AreEndedBy (r ∷ rows) later → EndsLoose same_key x rows later
loose r x [] [] h all ended = tt
loose r x [] (q ∷ later) h all ended = ap (λ k. bytes_eq k q.key) (sym (same r x h)) ∙ ended
loose r x (y ∷ rows) [] h all ended = loose r y rows [] all.0 all.1 tt
loose r x (y ∷ rows) (q ∷ later) h all ended = loose r y rows (q ∷ later) all.0 all.1 ended

none_kept : (settings : Settings) → kept_rows settings [] ≡ []
none_kept settings = by settings.last_run
  where
    by : (last : Bool) → cond {A = List Row} last [] [] ≡ []
    by true = refl
    by false = refl

-- What is kept of all rows is what is kept of the first key, followed by what is kept of the others.
pub first_key : (settings : Settings) (rows later : List Row) → HaveOneKey rows → AreEndedBy rows later → kept_of_keys settings (rows ++ later) ≡ kept_rows settings rows ++ kept_of_keys settings later
first_key settings [] later alike ended =
    ap (λ (w : List Row). w ++ kept_of_keys settings later) (sym (none_kept settings))
first_key settings (r ∷ rows) later alike ended =
    let own : same_key r r ≡ true = (bytes_eq-Decides r.key r.key).1 refl in
    ap (λ (gs : List (Chunk Row)). flat_map (λ g. kept_rows settings (elements g)) gs) (chunk_is_walked Row same_key r rows later (joined r r rows own alike) (loose r r rows later own alike ended))

-- ---- keys whose rows are all there

-- What retention keeps of the given keys, one key after the other.
abbrev pub of_chunks : Settings → List (Chunk Row) → List Row
of_chunks settings gs = flat_map (λ g. kept_rows settings (elements g)) gs

-- An element before the last one is in the front of a list.
front-more : (c : Chunk Row) (q : Row) (gs : List (Chunk Row)) → front (c ∷ put_before same_key q gs) ≡ c ∷ front (put_before same_key q gs)
front-more c q [] = refl
front-more c q (g ∷ gs) = by (same_key q g.0)
  where
    by : (b : Bool) → front (c ∷ cond b ((q, g.0 ∷ g.1) ∷ gs) ((q, []) ∷ g ∷ gs)) ≡ c ∷ front (cond b ((q, g.0 ∷ g.1) ∷ gs) ((q, []) ∷ g ∷ gs))
    by true = refl
    by false = refl

first_chunk : (r : Row) (rows later : List Row) → HaveOneKey (r ∷ rows) → AreEndedBy (r ∷ rows) later → chunk_by same_key (r ∷ (rows ++ later)) ≡ (r, rows) ∷ chunk_by same_key later
first_chunk r rows later alike ended =
    let own : same_key r r ≡ true = (bytes_eq-Decides r.key r.key).1 refl in
    chunk_is_walked Row same_key r rows later (joined r r rows own alike) (loose r r rows later own alike ended)

-- What is given of all rows is what is kept of the first key, followed by what is given of the others.
pub first_given : (settings : Settings) (whole : Bool) (rows later : List Row) → HaveOneKey rows → AreEndedBy rows later → (later ≡ [] → whole ≡ true)
    → kept_given settings whole (rows ++ later) ≡ kept_rows settings rows ++ kept_given settings whole later
first_given settings true rows later alike ended all = first_key settings rows later alike ended
first_given settings false [] later alike ended all = ap (λ (w : List Row). w ++ kept_given settings false later) (sym (none_kept settings))
first_given settings false (r ∷ rows) [] alike ended all = let clash : false ≡ true = all refl in absurd (cc clash)
first_given settings false (r ∷ rows) (q ∷ later) alike ended all =
    ap (λ (gs : List (Chunk Row)). of_chunks settings (front gs)) (first_chunk r rows (q ∷ later) alike ended) ∙ ap (of_chunks settings) (front-more (r, rows) q (chunk_by same_key later))

-- If an error may come after rows of one key, nothing is given of them.
pub none_given : (settings : Settings) (rows : List Row) → HaveOneKey rows → kept_given settings false rows ≡ []
none_given settings [] alike = refl
none_given settings (r ∷ rows) alike =
    ap (λ (w : List Row). kept_given settings false (r ∷ w)) (sym (append-nil rows)) ∙ ap (λ (gs : List (Chunk Row)). of_chunks settings (front gs)) (first_chunk r rows [] alike tt)

-- What is kept of all keys but the last one begins what is kept of all keys.
pub front_begins : (settings : Settings) (gs : List (Chunk Row)) → (rest : List Row) × (of_chunks settings (front gs) ++ rest ≡ of_chunks settings gs)
front_begins settings [] = ([], refl)
front_begins settings (g ∷ []) = (of_chunks settings (g ∷ []), refl)
front_begins settings (g ∷ (h ∷ gs)) =
    let (rest, is) = front_begins settings (h ∷ gs) in
    (rest, append_assoc (kept_rows settings (elements g)) (of_chunks settings (front (h ∷ gs))) rest ∙ ap (λ (w : List Row). kept_rows settings (elements g) ++ w) is)

pub all_back : (P : Row → Type 0) (xs ys : List Row) → AllByRecursion P (xs ++ ys) → AllByRecursion P ys
all_back P [] ys h = h
all_back P (x ∷ xs) ys h = all_back P xs ys h.1

-- The later rows of rising rows rise.
pub rising_back : (xs ys : List Row) → AreRising (xs ++ ys) → AreRising ys
rising_back [] ys h = h
rising_back (x ∷ xs) ys h = rising_back xs ys h.1

-- Reading a key and keeping its rows does not change what is given in all.
pub key_kept : (settings : Settings) (whole : Bool) (ahead later : Option RowEntry) (old new : IteratorState) (rows kept turned : List RowEntry) → ReadsKey ahead old rows later new → new.whole ≡ whole
    → rows_of kept ≡ kept_rows settings (rows_of rows) → turned ≡ kept
    → kept_given settings whole (from_ahead ahead old) ≡ rows_of turned ++ kept_given settings whole (from_ahead later new)
key_kept settings whole ahead later old new rows kept turned h same is back =
    ap (kept_given settings whole) h.parts
    ∙ (first_given settings whole (rows_of rows) (from_ahead later new) h.alike h.ended (λ none. sym same ∙ h.all none)
    ∙ ap (λ (w : List Row). w ++ kept_given settings whole (from_ahead later new)) (sym is ∙ ap (λ (w : List RowEntry). rows_of w) (sym back)))

-- Reading is refused before any row is kept.
pub fill_refused : (settings : Settings) (buffer left : List RowEntry) (ahead later : Option RowEntry) (old s new : IteratorState) (e : SlateDBError) → RefusesKey later s new e → s.whole ≡ old.whole → s.refusal ≡ old.refusal
    → rows_of buffer ++ kept_given settings old.whole (from_ahead ahead old) ≡ rows_of left ++ kept_given settings old.whole (from_ahead later s) → left ≡ [] → RefusesFill settings buffer ahead old new e
fill_refused settings buffer left ahead later old s new e refuses whole refusal so_far empty = record {
  cause = subst (λ (w : Bool). CanFail w e) whole refuses.cause;
  handed = refuses.handed;
  known = λ after is other. let (alike, same) = refuses.known after (refusal ∙ is) other in
      (so_far ∙ (ap (λ (w : List RowEntry). rows_of w ++ kept_given settings old.whole (from_ahead later s)) empty ∙ by old.whole refl other alike), same);
}
  where
    by : (w : Bool) → old.whole ≡ w → e ≢ Memory → HaveOneKey (from_ahead later s) → kept_given settings w (from_ahead later s) ≡ []
    by true is other alike = absurd (other (refuses.cause.memory (whole ∙ is)))
    by false is other alike = none_given settings (from_ahead later s) alike

-- ---- what a seek leaves

module _ (key : List ℕ) where
  -- The rows that a seek drops.
  abbrev low : List Row → List Row
  low [] = []
  low (r ∷ rows) = if is_below key r then r ∷ low rows else []

  abbrev AllAre : Bool → List Row → Type 0
  AllAre b rows = AllByRecursion (λ r. is_below key r ≡ b) rows

  low_and_rest : (rows : List Row) → low rows ++ from_key key rows ≡ rows
  low_and_rest [] = refl
  low_and_rest (r ∷ rows) = by (is_below key r) (low_and_rest rows)
    where
      by : (b : Bool) → low rows ++ from_key key rows ≡ rows → (if b then r ∷ low rows else []) ++ (if b then from_key key rows else r ∷ rows) ≡ r ∷ rows
      by true rest = ap (λ (w : List Row). r ∷ w) rest
      by false rest = refl

  low_are_below : (rows : List Row) → AllAre true (low rows)
  low_are_below [] = tt
  low_are_below (r ∷ rows) = by (is_below key r) refl (low_are_below rows)
    where
      by : (b : Bool) → is_below key r ≡ b → AllAre true (low rows) → AllAre true (if b then r ∷ low rows else [])
      by true e rest = (e, rest)
      by false e rest = tt

  -- If a row is not below the key, no row after it in order is below the key.
  at_or_above : (r q : Row) → is_below key r ≡ false → is_gt (key_cmp r.key q.key) ≡ false → is_below key q ≡ false
  at_or_above r q high not_after = false_or (is_below key q) (λ low. by (lt_is (key_cmp q.key key) low) (key_cmp r.key q.key) refl not_after)
    where
      by : key_cmp q.key key ≡ Less → (o : Ordering) → key_cmp r.key q.key ≡ o → is_gt o ≡ false → ⊥
      by low Less e h = let below : is_below key r ≡ true = ap is_lt (nat_list_cmp_total.trans r.key q.key key e low) in let clash : true ≡ false = sym below ∙ high in cc clash
      by low Equal e h = let below : is_below key r ≡ true = ap is_lt (nat_list_cmp_total.congr r.key q.key key e ∙ low) in let clash : true ≡ false = sym below ∙ high in cc clash
      by low Greater e h = cc h

  all_above : (r : Row) (rows : List Row) → is_below key r ≡ false → AllByRecursion (λ q. is_gt (key_cmp r.key q.key) ≡ false) rows → AllAre false rows
  all_above r [] high rising = tt
  all_above r (q ∷ rows) high rising = (at_or_above r q high rising.0, all_above r rows high rising.1)

  rest_is_above : (rows : List Row) → AreRising rows → AllAre false (from_key key rows)
  rest_is_above [] rising = tt
  rest_is_above (r ∷ rows) rising = by (is_below key r) refl (rest_is_above rows rising.1)
    where
      by : (b : Bool) → is_below key r ≡ b → AllAre false (from_key key rows) → AllAre false (if b then from_key key rows else r ∷ rows)
      by true e rest = rest
      by false e rest = (e, all_above r rows e rising.0)

  -- A row below the key and a row that is not have different keys.
  other_key : (r q : Row) → is_below key r ≡ true → is_below key q ≡ false → same_key r q ≡ false
  other_key r q low high = false_or (same_key r q) (λ alike. let clash : true ≡ false = sym low ∙ (ap (λ k. is_lt (key_cmp k key)) (same r q alike) ∙ high) in cc clash)

  others : (r : Row) (rows : List Row) → is_below key r ≡ true → AllAre false rows → AllByRecursion (λ q. same_key r q ≡ false) rows
  others r [] low high = tt
  others r (q ∷ rows) low high = (other_key r q low high.0, others r rows low high.1)

  all_others : (xs ys : List Row) → AllAre true xs → AllAre false ys → AllByRecursion (λ x. AllByRecursion (λ y. same_key x y ≡ false) ys) xs
  all_others [] ys low high = tt
  all_others (x ∷ xs) ys low high = (others x ys low.0 high, all_others xs ys low.1 high)

  -- A row and the tombstone that it may become are either both below the key or neither is.
  below_stays : (b : Bool) (tick : ℤ) (r : Row) → is_below key r ≡ b → is_below key (as_tombstone_if_expired tick r) ≡ b
  below_stays b tick r h = by (is_expired r tick)
    where
      by : (expired : Bool) → is_below key (if expired then record r { content = Tombstone; expires = None } else r) ≡ b
      by true = h
      by false = h

  dropped : (xs ys : List Row) → AllAre true xs → from_key key (xs ++ ys) ≡ from_key key ys
  dropped [] ys h = refl
  dropped (x ∷ xs) ys h = ap (λ c. if c then from_key key (xs ++ ys) else x ∷ (xs ++ ys)) h.0 ∙ dropped xs ys h.1

  stays : (ys : List Row) → AllAre false ys → from_key key ys ≡ ys
  stays [] h = refl
  stays (y ∷ ys) h = ap (λ c. if c then from_key key ys else y ∷ ys) h.0

  keys-append : (settings : Settings) (xs ys : List Row) → AllAre true xs → AllAre false ys → kept_of_keys settings (xs ++ ys) ≡ kept_of_keys settings xs ++ kept_of_keys settings ys
  keys-append settings xs ys low high =
      let f = λ (g : Chunk Row). kept_rows settings (elements g) in
      ap (flat_map f) (chunk_by-append same_key xs ys (all_others xs ys low high)) ∙ flat_map-append f (chunk_by same_key xs) (chunk_by same_key ys)

  -- For rising rows, a seek in the kept rows leaves what is kept of the rows that a seek leaves.
  pub sought : (settings : Settings) (rows : List Row) → AreRising rows → from_key key (kept_of_keys settings rows) ≡ kept_of_keys settings (from_key key rows)
  sought settings rows rising =
      let xs = low rows in
      let ys = from_key key rows in
      let below = low_are_below rows in
      let above = rest_is_above rows rising in
      ap (λ (w : List Row). from_key key (kept_of_keys settings w)) (sym (low_and_rest rows))
      ∙ (ap (from_key key) (keys-append settings xs ys below above)
      ∙ (dropped (kept_of_keys settings xs) (kept_of_keys settings ys) (all_kept (λ r. is_below key r ≡ true) (λ tick r h. below_stays true tick r h) settings xs below) ∙ stays (kept_of_keys settings ys) (all_kept (λ r. is_below key r ≡ false) (λ tick r h. below_stays false tick r h) settings ys above)))

  -- A seek that drops the whole first list goes on in the second one.
  pub seek-through : (xs ys : List Row) → from_key key xs ≡ [] → from_key key (xs ++ ys) ≡ from_key key ys
  seek-through [] ys h = refl
  seek-through (x ∷ xs) ys h = by (is_below key x) h (seek-through xs ys)
    where
      by : (c : Bool) → (if c then from_key key xs else x ∷ xs) ≡ [] → (from_key key xs ≡ [] → from_key key (xs ++ ys) ≡ from_key key ys) → (if c then from_key key (xs ++ ys) else x ∷ (xs ++ ys)) ≡ from_key key ys
      by true e rest = rest e
      by false e rest = absurd (cc e)

  pub seek-within : (xs ys : List Row) → (from_key key xs ≡ [] → ⊥) → from_key key (xs ++ ys) ≡ from_key key xs ++ ys
  seek-within [] ys h = absurd (h refl)
  seek-within (x ∷ xs) ys h = by (is_below key x) h (seek-within xs ys)
    where
      by : (c : Bool) → ((if c then from_key key xs else x ∷ xs) ≡ [] → ⊥) → ((from_key key xs ≡ [] → ⊥) → from_key key (xs ++ ys) ≡ from_key key xs ++ ys)
          → (if c then from_key key (xs ++ ys) else x ∷ (xs ++ ys)) ≡ (if c then from_key key xs else x ∷ xs) ++ ys
      by true e rest = rest e
      by false e rest = refl
