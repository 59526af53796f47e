-- What retention gives of rows, key after key, and what its steps do.
use Rattle.std.specs.Prelude.{◌≡◌, ◌≢◌, ℕ, ℤ, nat_le, not, ◌&&◌, Bool, true, false, List, [], ◌∷◌, ◌++◌, flat_map, Option, Some, None, Err, ⊤}
use Rattle.std.specs.List.{AllByRecursion}
use Rattle.std.specs.Option.{option_to_list}
use Rattle.row_model.specs.Chunks.{elements, chunk_by}
use Rattle.row_model.specs.KeptRows.{kept_rows, kept_of_keys}
use Rattle.row_model.specs.Rows.{Row, same_key, is_operand, is_expired}
use Rattle.row_model.specs.Settings.{Settings}
use Rattle.fleet_iter.specs.Iteration.{IteratorState, AreRising, CanFail, IsHandedOn, Nexts, SoughtThrough, from_key}
use Rattle.fleet_iter.specs.Peek.{is_left}
use Rattle.fleet_rows.specs.Row.{rows_of}
use Rattle.fleet_rows.specs.declared.row.RowEntry.{RowEntry}
use Rattle.fleet_rows.specs.declared.errors.SlateDBError.{SlateDBError}
use Rattle.fleet_rows.specs.declared.errors.SlateDBError.TheVariants.{Memory}

-- The front of a list is the list without its last element.
abbrev pub front : {A : Type 0} → List A → List A
front [] = []
front (x ∷ []) = []
front (x ∷ (y ∷ xs)) = x ∷ front (y ∷ xs)

-- What retention gives. If the flag is true, it is what it keeps of all keys. If the flag is false, an error
-- may come after the rows. The last key may then lack rows, and nothing is given of it.
abbrev pub kept_given : Settings → Bool → List Row → List Row
kept_given settings true rows = kept_of_keys settings rows
kept_given settings false rows = flat_map (λ g. kept_rows settings (elements g)) (front (chunk_by same_key rows))

-- The walk drops an expired operand.
abbrev pub is_dropped : ℤ → Row → Bool
is_dropped tick r = is_operand r && is_expired r tick

-- The walk ends with a row at or below the cut that is no operand.
abbrev pub ends_walk : ℕ → Row → Bool
ends_walk cut r = not (is_operand r) && nat_le r.seq cut

-- All rows have one key.
abbrev pub HaveOneKey : List Row → Type 0
HaveOneKey [] = ⊤
HaveOneKey (r ∷ rows) = AllByRecursion (λ q. same_key r q ≡ true) rows

-- The later rows begin with another key, or there are none. If there are no rows before them, there are none.
abbrev pub AreEndedBy : (rows later : List Row) → Type 0
AreEndedBy [] later = later ≡ []
AreEndedBy (r ∷ rows) [] = ⊤
AreEndedBy (r ∷ rows) (q ∷ later) = same_key r q ≡ false

-- The row that was read ahead, if there is one, and the rows of the inner iterator.
abbrev pub from_ahead : Option RowEntry → IteratorState → List Row
from_ahead ahead inner = rows_of (option_to_list ahead) ++ inner.rows

-- An iterator whose rows can be read: it is initialised and has not failed.
abbrev pub IsReadable : IteratorState → Type 0
IsReadable inner = (inner.failure ≡ None) × (inner.initialised ≡ true)

-- Whether a row has the key of the rows before it. If there are none, it does.
abbrev pub joins : List Row → Row → Bool
joins [] q = true
joins (r ∷ rows) q = same_key r q

-- All rows of the next key are read. The first row after them is read ahead, if there is one.
pub record ReadsKey (ahead : Option RowEntry) (old : IteratorState) (rows : List RowEntry)
    (later : Option RowEntry) (new : IteratorState) : Type 0 where
  pub parts : from_ahead ahead old ≡ rows_of rows ++ from_ahead later new
  pub alike : HaveOneKey (rows_of rows)
  pub ended : AreEndedBy (rows_of rows) (from_ahead later new)
  pub readable : IsReadable new
  pub whole : new.whole ≡ old.whole
  pub steady : new.steady ≡ old.steady
  pub refusal : new.refusal ≡ old.refusal
  pub all : from_ahead later new ≡ [] → new.whole ≡ true

-- Reading the next key is refused. If the error after the rows is known, then an error other than `Memory` is
-- that one, and all rows left have one key.
pub record RefusesKey (ahead : Option RowEntry) (old new : IteratorState) (e : SlateDBError) : Type 0 where
  pub cause : CanFail old.whole e
  pub handed : IsHandedOn new e
  pub known : (after : SlateDBError) → old.refusal ≡ Some after → e ≢ Memory
      → HaveOneKey (from_ahead ahead old) × (e ≡ after)

-- Keys are read and kept until the buffer has a row or no row is left.
pub record Fills (settings : Settings) (buffer : List RowEntry) (ahead : Option RowEntry) (old : IteratorState)
    (filled : List RowEntry) (later : Option RowEntry) (new : IteratorState) : Type 0 where
  pub rows : rows_of buffer ++ kept_given settings old.whole (from_ahead ahead old)
      ≡ rows_of filled ++ kept_given settings old.whole (from_ahead later new)
  pub readable : IsReadable new
  pub whole : new.whole ≡ old.whole
  pub steady : new.steady ≡ old.steady
  pub refusal : new.refusal ≡ old.refusal
  pub ends : filled ≡ [] → from_ahead later new ≡ []
  pub all : filled ≡ [] → new.whole ≡ true
  pub rising : AreRising (from_ahead ahead old) → AreRising (from_ahead later new)

-- Filling the buffer is refused. If the error after the rows is known, then an error other than `Memory` is
-- that one, and no row is left to give.
pub record RefusesFill (settings : Settings) (buffer : List RowEntry) (ahead : Option RowEntry)
    (old new : IteratorState) (e : SlateDBError) : Type 0 where
  pub cause : CanFail old.whole e
  pub handed : IsHandedOn new e
  pub known : (after : SlateDBError) → old.refusal ≡ Some after → e ≢ Memory
      → (rows_of buffer ++ kept_given settings old.whole (from_ahead ahead old) ≡ []) × (e ≡ after)

-- The state of retention. Its rows are the kept ones in the buffer, and what it will keep of the other rows.
abbrev pub retained_state : (failure : Option SlateDBError) (settings : Settings) (buffer : List RowEntry)
    (ahead : Option RowEntry) (inner : IteratorState) → IteratorState
retained_state failure settings buffer ahead inner =
    record {
      rows = rows_of buffer ++ kept_given settings inner.whole (from_ahead ahead inner);
      initialised = inner.initialised;
      failure = failure;
      whole = inner.whole;
      steady = inner.steady;
      refusal = inner.refusal;
    }

-- What holds of the inner iterator until a call fails the outer one.
pub record ReadsOn (buffer : List RowEntry) (ahead : Option RowEntry) (inner : IteratorState) : Type 0 where
  pub alive : inner.failure ≡ None
  pub begun : (buffer ≡ [] → ⊥) → inner.initialised ≡ true
  pub ahead_begun : (ahead ≡ None → ⊥) → inner.initialised ≡ true
  pub rising : AreRising (from_ahead ahead inner)

-- A row is read ahead, unless one was read already or the buffer has rows.
pub record Begins (ahead : Option RowEntry) (old : IteratorState) (later : Option RowEntry)
    (new : IteratorState) : Type 0 where
  pub begun : old.initialised ≡ true
  pub readable : IsReadable new
  pub rows : from_ahead later new ≡ from_ahead ahead old
  pub whole : new.whole ≡ old.whole
  pub steady : new.steady ≡ old.steady
  pub refusal : new.refusal ≡ old.refusal

-- Reading a row ahead is refused.
pub record RefusesBeginning (buffer : List RowEntry) (ahead : Option RowEntry) (old : IteratorState)
    (later : Option RowEntry) (new : IteratorState) (e : SlateDBError) : Type 0 where
  pub empty : buffer ≡ []
  pub none : ahead ≡ None
  pub stays : later ≡ ahead
  pub nexts : Nexts old new (Err e)

abbrev pub Knows : (failure : Option SlateDBError) (buffer : List RowEntry) (ahead : Option RowEntry)
    (inner : IteratorState) → Type 0
Knows (Some e) buffer ahead inner = ⊤
Knows None buffer ahead inner = ReadsOn buffer ahead inner

-- What a seek leaves. If the buffer has rows from the key on, only the rows below the key are dropped from
-- it. Otherwise the buffer is emptied. If a row was read ahead and is not below the key, nothing else
-- changes. Otherwise that row is dropped, and the inner iterator is sought.
pub record SeeksKept (sought : List ℕ → IteratorState → Type 0) (settings : Settings) (buffer : List RowEntry)
    (ahead : Option RowEntry) (inner : IteratorState) (key : List ℕ) (new : IteratorState) : Type 0 where
  pub kept : from_key key (rows_of buffer) ≢ []
      → new.rows ≡ from_key key (rows_of buffer) ++ kept_given settings inner.whole (from_ahead ahead inner)
  pub stays : from_key key (rows_of buffer) ≡ [] → is_left key ahead ≡ true
      → new ≡ retained_state None settings [] ahead inner
  pub goes_on : from_key key (rows_of buffer) ≡ [] → is_left key ahead ≡ false
      → SoughtThrough sought (retained_state None settings [] None) inner key new
