-- One more row in a group: its operands, its stamps and its order. The operands of a group, and its base.
use Rattle.std.proofs.Common.{◌≡◌, ◌∙◌, sym, refl, ap, ℕ, ℤ, pos, negsuc, List, [], ◌∷◌, ◌++◌, Bool, true, false, cond, Option, Some, None, arith}
use Rattle.std.specs.Prelude.{int_le, not, if◌then◌else◌}
use Rattle.std.specs.Option.{option_or}
use Rattle.std.specs.List.{AllByRecursion}
use Rattle.std.proofs.lemmas.Bool.{leb-false, le-leb}
use Rattle.std.proofs.lemmas.List.{append_assoc, append-nil}
use Rattle.row_laws.proofs.RetentionReads.{int_le_trans}
use Rattle.row_model.specs.Rows.{Row, Content, Value, Merge, Tombstone, is_merge, is_operand}
use Rattle.row_model.specs.FoldedRows.{with_group_operand, group_operands, base_in, group_base, greater_stamp, greatest_created}
use Rattle.fleet_fold.specs.Folded.{lesser_stamp, least_expiry, above, last_above, operands_in, base_among}

int_le_back : (a b : ℤ) → int_le a b ≡ false → int_le b a ≡ true
int_le_back (pos a) (pos b) h = let p = leb-false a b h in le-leb b a (omega arith)
int_le_back (pos a) (negsuc b) h = refl
int_le_back (negsuc a) (pos b) h = absurd (cc h)
int_le_back (negsuc a) (negsuc b) h = let p = leb-false b a h in le-leb a b (omega arith)

pub clash : {b : Bool} → b ≡ true → b ≡ false → ⊥
clash {b} h g = let e : true ≡ false = sym h ∙ g in cc e

-- The greatest of three stamps does not depend on which two are compared first.
pub greater-assoc : (a b c : Option ℤ) → greater_stamp a (greater_stamp b c) ≡ greater_stamp (greater_stamp a b) c
greater-assoc None b c = refl
greater-assoc (Some a) None c = refl
greater-assoc (Some a) (Some b) None = by (int_le a b)
  where
    by : (x : Bool) → (if x then Some b else Some a) ≡ greater_stamp (if x then Some b else Some a) None
    by true = refl
    by false = refl
greater-assoc (Some a) (Some b) (Some c) = by (int_le a b) (int_le b c) (int_le a c) refl refl refl
  where
    by : (x y z : Bool) → int_le a b ≡ x → int_le b c ≡ y → int_le a c ≡ z → greater_stamp (Some a) (if y then Some c else Some b) ≡ greater_stamp (if x then Some b else Some a) (Some c)
    by true true true p q r = ap (λ (w : Bool). if w then Some c else Some a) r ∙ sym (ap (λ (w : Bool). if w then Some c else Some b) q)
    by true true false p q r = absurd (clash (int_le_trans a b c p q) r)
    by true false z p q r = ap (λ (w : Bool). if w then Some b else Some a) p ∙ sym (ap (λ (w : Bool). if w then Some c else Some b) q)
    by false true z p q r = refl
    by false false true p q r = absurd (clash (int_le_trans a c b r (int_le_back b c q)) p)
    by false false false p q r = ap (λ (w : Bool). if w then Some b else Some a) p ∙ sym (ap (λ (w : Bool). if w then Some c else Some a) r)

-- The least of three stamps does not depend on which two are compared first.
pub lesser-assoc : (a b c : Option ℤ) → lesser_stamp a (lesser_stamp b c) ≡ lesser_stamp (lesser_stamp a b) c
lesser-assoc None b c = refl
lesser-assoc (Some a) None c = refl
lesser-assoc (Some a) (Some b) None = by (int_le b a)
  where
    by : (x : Bool) → (if x then Some b else Some a) ≡ lesser_stamp (if x then Some b else Some a) None
    by true = refl
    by false = refl
lesser-assoc (Some a) (Some b) (Some c) = by (int_le b a) (int_le c b) (int_le c a) refl refl refl
  where
    by : (x y z : Bool) → int_le b a ≡ x → int_le c b ≡ y → int_le c a ≡ z → lesser_stamp (Some a) (if y then Some c else Some b) ≡ lesser_stamp (if x then Some b else Some a) (Some c)
    by true true true p q r = ap (λ (w : Bool). if w then Some c else Some a) r ∙ sym (ap (λ (w : Bool). if w then Some c else Some b) q)
    by true true false p q r = absurd (clash (int_le_trans c b a q p) r)
    by true false z p q r = ap (λ (w : Bool). if w then Some b else Some a) p ∙ sym (ap (λ (w : Bool). if w then Some c else Some b) q)
    by false true z p q r = refl
    by false false true p q r = absurd (clash (int_le_trans b c a (int_le_back c b q) r) p)
    by false false false p q r = ap (λ (w : Bool). if w then Some b else Some a) p ∙ sym (ap (λ (w : Bool). if w then Some c else Some a) r)

pub greater_none : (a : Option ℤ) → greater_stamp a None ≡ a
greater_none None = refl
greater_none (Some a) = refl

pub lesser_none : (a : Option ℤ) → lesser_stamp a None ≡ a
lesser_none None = refl
lesser_none (Some a) = refl

pub greatest-snoc : (rows : List Row) (q : Row) → greatest_created (rows ++ q ∷ []) ≡ greater_stamp (greatest_created rows) q.created
greatest-snoc [] q = greater_none q.created
greatest-snoc (r ∷ rows) q = ap (greater_stamp r.created) (greatest-snoc rows q) ∙ greater-assoc r.created (greatest_created rows) q.created

pub least-snoc : (rows : List Row) (q : Row) → least_expiry (rows ++ q ∷ []) ≡ lesser_stamp (least_expiry rows) q.expires
least-snoc [] q = lesser_none q.expires
least-snoc (r ∷ rows) q = ap (lesser_stamp r.expires) (least-snoc rows q) ∙ lesser-assoc r.expires (least_expiry rows) q.expires

or-assoc : (a b c : Option ℕ) → option_or (option_or a b) c ≡ option_or a (option_or b c)
or-assoc None b c = refl
or-assoc (Some a) b c = refl

pub last_above-snoc : (seq : ℕ) (rows : List Row) (q : Row) → last_above seq (rows ++ q ∷ []) ≡ option_or (above seq q) (last_above seq rows)
last_above-snoc seq [] q = sym (or_none (above seq q))
  where
    or_none : (a : Option ℕ) → option_or a None ≡ a
    or_none None = refl
    or_none (Some a) = refl
last_above-snoc seq (r ∷ rows) q = ap (λ (o : Option ℕ). option_or o (above seq r)) (last_above-snoc seq rows q) ∙ or-assoc (above seq q) (last_above seq rows) (above seq r)

abbrev pub AllOperands : List Row → Type 0
AllOperands rows = AllByRecursion (λ r. is_operand r ≡ true) rows

pub operands-snoc : (xs : List Row) (q : Row) → AllOperands xs → is_operand q ≡ true → AllOperands (xs ++ q ∷ [])
operands-snoc [] q h is = (is, tt)
operands-snoc (x ∷ xs) q h is = (h.0, operands-snoc xs q h.1 is)

-- `group_operands` gives the oldest operand first, so the operands of later rows come first.
pub group_operands-append : (xs ys : List Row) → AllOperands xs → group_operands (xs ++ ys) ≡ group_operands ys ++ group_operands xs
group_operands-append [] ys h = sym (append-nil (group_operands ys))
group_operands-append (x ∷ xs) ys h = by x.content h.0 (group_operands-append xs ys h.1)
  where
    by : (c : Content) → is_merge c ≡ true → group_operands (xs ++ ys) ≡ group_operands ys ++ group_operands xs
        → with_group_operand c (group_operands (xs ++ ys)) ≡ group_operands ys ++ with_group_operand c (group_operands xs)
    by (Value bytes) is rest = absurd (cc is)
    by (Merge bytes) is rest = ap (λ (w : List (List ℕ)). w ++ bytes ∷ []) rest ∙ append_assoc (group_operands ys) (group_operands xs) (bytes ∷ [])
    by Tombstone is rest = absurd (cc is)

pub group_base-append : (xs ys : List Row) → AllOperands xs → group_base (xs ++ ys) ≡ group_base ys
group_base-append [] ys h = refl
group_base-append (x ∷ xs) ys h = by x.content h.0 (group_base-append xs ys h.1)
  where
    by : (c : Content) → is_merge c ≡ true → group_base (xs ++ ys) ≡ group_base ys → base_in c (group_base (xs ++ ys)) ≡ group_base ys
    by (Value bytes) is rest = absurd (cc is)
    by (Merge bytes) is rest = rest
    by Tombstone is rest = absurd (cc is)

-- If the first rows are operands, the operands of all rows are these, followed by the operands of the later
-- rows.
pub operands_in-append : (xs ys : List Row) → AllOperands xs → operands_in (xs ++ ys) ≡ xs ++ operands_in ys
operands_in-append [] ys h = refl
operands_in-append (x ∷ xs) ys h =
    ap (λ (b : Bool). cond b (x ∷ operands_in (xs ++ ys)) (operands_in (xs ++ ys))) h.0 ∙ ap (λ (w : List Row). x ∷ w) (operands_in-append xs ys h.1)

pub base_among-append : (xs ys : List Row) → AllOperands xs → base_among (xs ++ ys) ≡ base_among ys
base_among-append [] ys h = refl
base_among-append (x ∷ xs) ys h =
    ap (λ (b : Bool). cond (not b) (x ∷ base_among (xs ++ ys)) (base_among (xs ++ ys))) h.0 ∙ base_among-append xs ys h.1

pub no_operand : (r : Row) → is_operand r ≡ false → operands_in (r ∷ []) ≡ []
no_operand r h = ap (λ (b : Bool). cond b (r ∷ []) []) h

pub own_base : (r : Row) → is_operand r ≡ false → base_among (r ∷ []) ≡ r ∷ []
own_base r h = ap (λ (b : Bool). cond (not b) (r ∷ []) []) h
