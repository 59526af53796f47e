-- Operands that are joined one after the other.
use Rattle.std.proofs.Common.{◌≡◌, ◌∙◌, ap, sym, refl, ℕ, ◌+◌, ◌<◌, List, [], ◌∷◌, ◌++◌, map, drop, Option, Some, None, length, add-one, get_or, drop-cons, false, nat_eq}
use Rattle.row_model.specs.Append.{append, short_or_refused}
use Rattle.row_model.specs.Fold.{Outcome, Merged, fold, fold_bytes}

-- One operand more is joined: the fold of the operands left onto the new bytes is still that of all.
pub joined_on : (key bytes : List ℕ) (operands : List (List ℕ)) (i : ℕ) (x y more : List ℕ) (whole : Option Outcome)
    → i < length operands → x ≡ get_or operands i x → y ≡ x → fold_bytes append key (Some bytes) (drop i operands) ≡ whole
    → short_or_refused (bytes ++ y) ≡ Merged more → fold_bytes append key (Some more) (drop (i + 1) operands) ≡ whole
joined_on key bytes operands i x y more whole lt is same so_far short =
    let front : drop i operands ≡ x ∷ drop (i + 1) operands = rw (add-one, drop-cons operands i x, ← is) in
    let rest : List Outcome = map Merged (drop (i + 1) operands) in
    ap (λ o. fold append key (Some o) rest) (sym short)
    ∙ (ap (λ z. fold append key (Some (short_or_refused (bytes ++ z))) rest) same
    ∙ (ap (λ zs. fold_bytes append key (Some bytes) zs) (sym front) ∙ so_far))

-- Bytes are joined to none as they are merged without an existing value.
pub from_none : (key : List ℕ) (operands : List (List ℕ)) → nat_eq (length operands) 0 ≡ false → fold_bytes append key (Some []) operands ≡ fold_bytes append key None operands
from_none key [] some = absurd (cc some)
from_none key (x ∷ xs) some = refl
