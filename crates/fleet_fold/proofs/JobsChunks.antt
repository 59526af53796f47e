-- The chunks of strictly ordered rows are the rows of each key.
use Rattle.std.proofs.Common.{◌≡◌, ◌∙◌, sym, ap, subst, ℕ, ◌<◌, List, [], ◌∷◌, ◌++◌, not, cond, Bool, true, false, refl}
use Rattle.std.specs.Prelude.{bytes_eq, ⊤}
use Rattle.std.specs.Cmp.{ranked}
use Rattle.std.specs.List.{AllByRecursion}
use Rattle.std.specs.List.Sorted.{IsStrictlySortedBy}
use Rattle.std.specs.Ordering.{is_lt, nat_cmp, ordering_then}
use Rattle.std.specs.declared.cmp.Ordering.{Ordering}
use Rattle.std.specs.declared.cmp.Ordering.TheVariants.{Less, Equal, Greater}
use Rattle.std.proofs.lemmas.Slice.Eq.{bytes_eq-Decides}
use Rattle.row_model.specs.Chunks.{Chunk, elements, chunk_by, put_before}
use Rattle.row_model.specs.Rows.{Row, key_cmp, row_cmp, same_key, IsStrictlyOrdered}
use Rattle.row_laws.specs.KeptReads.{AreOfKey}
use Rattle.row_laws.specs.Keys.{is_below, is_from}
use Rattle.row_laws.proofs.ApartRows.{apart_row, none_below}
use Rattle.row_laws.proofs.Elements.{all_weaken}
use Rattle.row_laws.proofs.KeptReads.{flat, flat-chunk_by}
use Rattle.row_laws.proofs.KeyRows.{exact, key_alike}
use Rattle.fleet_fold.proofs.Rising.{all_front}

abbrev pub HaveOthers : List ℕ → List Row → Type 0
HaveOthers key rows = AllByRecursion (λ q. bytes_eq key q.key ≡ false) rows

-- Each chunk has the rows of one key, and no later chunk has a row of that key.
abbrev pub AreWholeKeys : List (Chunk Row) → Type 0
AreWholeKeys [] = ⊤
AreWholeKeys (g ∷ gs) = AreOfKey g.0.key (elements g) × HaveOthers g.0.key (flat gs) × AreWholeKeys gs

-- A later row of the same key has a lesser sequence.
falls : (r q : Row) → row_cmp r q ≡ Less → r.key ≡ q.key → q.seq < r.seq
falls r q before alike =
    ranked q.seq r.seq Less (sym (ap (λ o. ordering_then o (nat_cmp q.seq r.seq)) (sym (ap (key_cmp r.key) (sym alike) ∙ key_alike r.key)) ∙ before))

all_fall : (r : Row) (rows : List Row) → AllByRecursion (λ q. row_cmp r q ≡ Less) rows → AllByRecursion (λ q. q.key ≡ r.key) rows → AllByRecursion (λ q. q.seq < r.seq) rows
all_fall r [] before keys = tt
all_fall r (q ∷ rows) before keys = (falls r q before.0 (sym keys.0), all_fall r rows before.1 keys.1)

-- A row that is before a row of another key has a lesser key.
pub lesser : (r q : Row) → row_cmp r q ≡ Less → same_key r q ≡ false → is_below q.key r ≡ true
lesser r q before other = by (key_cmp r.key q.key) refl before
  where
    by : (o : Ordering) → key_cmp r.key q.key ≡ o → ordering_then o (nat_cmp q.seq r.seq) ≡ Less → is_below q.key r ≡ true
    by Less e h = ap is_lt e
    by Equal e h = let clash : true ≡ false = sym ((bytes_eq-Decides r.key q.key).1 (exact r.key q.key e)) ∙ other in absurd (cc clash)
    by Greater e h = absurd (cc h)

put_whole : (r : Row) (gs : List (Chunk Row)) → AllByRecursion (λ q. row_cmp r q ≡ Less) (flat gs) → IsStrictlyOrdered (flat gs) → AreWholeKeys gs → AreWholeKeys (put_before same_key r gs)
unfolding IsStrictlySortedBy
put_whole r [] before ordered whole = (record { falling = (tt, tt); keys = (refl, tt) }, tt, tt)
put_whole r (g ∷ gs) before ordered whole = by (same_key r g.0) refl
  where
    join : r.key ≡ g.0.key → AreWholeKeys ((r, elements g) ∷ gs)
    join alike =
        let keys : AllByRecursion (λ q. q.key ≡ r.key) (elements g) = all_weaken (λ q. q.key ≡ g.0.key) (λ q. q.key ≡ r.key) (λ q h. h ∙ sym alike) (elements g) whole.0.keys in (
          record { falling = (all_fall r (elements g) (all_front (λ q. row_cmp r q ≡ Less) (elements g) (flat gs) before) keys, whole.0.falling); keys = (refl, keys) },
          subst (λ (k : List ℕ). HaveOthers k (flat gs)) (sym alike) whole.1,
          whole.2,
        )

    from : AllByRecursion (λ q. is_from g.0.key q ≡ true) (flat (g ∷ gs))
    from =
        let own : is_below g.0.key g.0 ≡ false = ap is_lt (key_alike g.0.key) in
        (ap not own, all_weaken (λ q. is_below g.0.key q ≡ false) (λ q. is_from g.0.key q ≡ true) (λ q h. ap not h) (g.1 ++ flat gs) (none_below g.0.key g.0 (g.1 ++ flat gs) own ordered.0))

    by : (b : Bool) → same_key r g.0 ≡ b → AreWholeKeys (cond b ((r, g.0 ∷ g.1) ∷ gs) ((r, []) ∷ g ∷ gs))
    by true e = join ((bytes_eq-Decides r.key g.0.key).0 e)
    by false e = (record { falling = (tt, tt); keys = (refl, tt) }, apart_row g.0.key r (flat (g ∷ gs)) (lesser r g.0 before.0 e) from, whole)

pub whole_keys : (rows : List Row) → IsStrictlyOrdered rows → AreWholeKeys (chunk_by same_key rows)
unfolding IsStrictlySortedBy
whole_keys [] ordered = tt
whole_keys (r ∷ rows) ordered =
    let same : rows ≡ flat (chunk_by same_key rows) = sym (flat-chunk_by same_key rows) in
    put_whole r (chunk_by same_key rows) (subst (AllByRecursion (λ q. row_cmp r q ≡ Less)) same ordered.0) (subst IsStrictlyOrdered same ordered.1) (whole_keys rows ordered.1)
