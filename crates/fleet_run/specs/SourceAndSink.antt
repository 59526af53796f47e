-- What contracts see of a source and of a sink, and how their counts rise.
use Rattle.std.specs.Prelude.{◌≡◌, ◌≢◌, ℕ, [], ◌≤◌, ◌+◌, ◌-◌, ◌^◌, Bool, List, ◌++◌, length, min, max, Option}
use Rattle.std.specs.Io.KnownBytes.{Appends, Keeps}

pub record SourceView : Type 0 where
  pub left : Option (List ℕ)  -- the bytes left, if they are known
  pub given : ℕ  -- how many bytes it gave
  pub ended : Bool  -- whether the last read into a buffer with room answered 0
  pub faults : ℕ  -- how many reads failed

pub record SinkView : Type 0 where
  pub written : Option (List ℕ)  -- the bytes written, if they are known
  pub taken : ℕ  -- how many bytes it took
  pub faults : ℕ  -- how many writes failed

-- A count in a u64 has risen by at least one. A count at the greatest u64 stays there.
abbrev pub Rose : (old new : ℕ) → Type 0
Rose old new = min (old + 1) (2 ^ 64 - 1) ≤ new

-- A count in a u64 after n more. It stops at the greatest u64.
abbrev pub counted_bytes : (old n : ℕ) → ℕ
counted_bytes old n = max old (min (old + n) (2 ^ 64 - 1))

-- The sink took exactly these bytes.
pub record Took (bytes : List ℕ) (old new : SinkView) : Type 0 where
  pub written : Appends old.written new.written bytes
  pub taken : new.taken ≡ counted_bytes old.taken (length bytes)

-- The sink took a front of these bytes, and not all of them.
pub record TookShort (bytes : List ℕ) (old new : SinkView) : Type 0 where
  pub front : List ℕ
  pub end : List ℕ
  pub parts : bytes ≡ front ++ end
  pub some_left : end ≢ []
  pub took : Took front old new

-- The sink took nothing.
pub record TookNothing (old new : SinkView) : Type 0 where
  pub written : Keeps old.written new.written
  pub taken : new.taken ≡ old.taken
