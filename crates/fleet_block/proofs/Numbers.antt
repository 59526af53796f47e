-- Numbers that are read from bytes.
use Rattle.std.proofs.Common.{◌≡◌, sym, ◌∙◌, ap, ℕ, ◌<◌, ◌+◌, ◌-◌, ◌^◌, List, ◌++◌, length, take, drop, arith}
use Rattle.std.specs.Prelude.{slice_range}
use Rattle.std.specs.Int.{w32, w64, to_be_bytes, from_be_bytes}
use Rattle.std.proofs.lemmas.List.{drop-drop, take_rest, take_at, drop_at}
use Rattle.std.proofs.lemmas.Nat.{from_be_bytes-to_be_bytes_4, from_be_bytes-to_be_bytes_8}

pub number_4 : (x : ℕ) (text bytes others part : List ℕ) (place n : ℕ) → x < 2 ^ 32 → drop place bytes ≡ to_be_bytes w32 x ++ others → text ≡ bytes → part ≡ take 4 (take (length text - place) (drop place text)) → n ≡ from_be_bytes w32 part
    → (n ≡ x) × (drop (place + 4) bytes ≡ others)
number_4 x text bytes others part place n fits e same front is =
    (is ∙ ap (from_be_bytes w32) (front ∙ ap (take 4) (take_rest text place ∙ ap (drop place) same ∙ e)) ∙ from_be_bytes-to_be_bytes_4 x fits, sym (drop-drop 4 place bytes) ∙ ap (drop 4) e)

pub number_8 : (x : ℕ) (text bytes others part : List ℕ) (place n : ℕ) → x < 2 ^ 64 → drop place bytes ≡ to_be_bytes w64 x ++ others → text ≡ bytes → part ≡ take 8 (take (length text - place) (drop place text)) → n ≡ from_be_bytes w64 part
    → (n ≡ x) × (drop (place + 8) bytes ≡ others)
number_8 x text bytes others part place n fits e same front is =
    (is ∙ ap (from_be_bytes w64) (front ∙ ap (take 8) (take_rest text place ∙ ap (drop place) same ∙ e)) ∙ from_be_bytes-to_be_bytes_8 x fits, sym (drop-drop 8 place bytes) ∙ ap (drop 8) e)

-- The bytes of a value that are read after its length.
pub part_found : (v bytes others part : List ℕ) (place len : ℕ) → len ≡ length v → drop place bytes ≡ v ++ others → part ≡ slice_range bytes place (place + len)
    → (part ≡ v) × (drop (place + len) bytes ≡ others)
part_found v bytes others part place len measured e is =
    let many : place + len - place ≡ len = omega arith in
    (is ∙ ap (λ n. take n (drop place bytes)) many ∙ ap (take len) e ∙ take_at v others len (sym measured), sym (drop-drop len place bytes) ∙ ap (drop len) e ∙ drop_at v others len (sym measured))
