-- Tests of bytes.
use Rattle.std.specs.Prelude.{ℕ, Bool, ◌==◌, ◌&&◌, ◌||◌, nat_le}

-- The byte is a digit or a letter from a to f, in lower case.
abbrev pub is_lower_digit : ℕ → Bool
is_lower_digit c = (nat_le 48 c && nat_le c 57) || (nat_le 97 c && nat_le c 102)

-- The byte is the one at which a text is split.
abbrev pub is_byte : (cut byte : ℕ) → Bool
is_byte cut byte = byte == cut
