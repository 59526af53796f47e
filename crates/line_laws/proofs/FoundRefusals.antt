-- If a job is not whole, its operator has a message with which it refuses a fold over operands of one key.
use Rattle.std.proofs.Common.{◌≡◌, refl, sym, ◌∙◌, subst, ℕ, zero, suc, List, [], ◌∷◌, ◌++◌, cond, Bool, true, false, inl, inr, ◌⊎◌, Option, Some, None, arith, zero-lt-suc, suc-le-suc, le_of_suc-le-suc}
use Rattle.std.specs.Prelude.{◌&&◌, map, bytes_eq, option_map, nat_le, Contains, All}
use Rattle.std.specs.List.{AllByRecursion}
use Rattle.std.proofs.lemmas.Slice.Eq.{bytes_eq-Decides}
use Rattle.row_model.specs.Chunks.{Chunk, elements, put_before, chunk_by}
use Rattle.row_model.specs.Rows.{Row, Content, Value, Merge, Tombstone, is_merge, is_operand, rows_of_key, same_key}
use Rattle.row_model.specs.Fold.{Operator, Outcome, Merged, Refused, merge_one, fold, fold_bytes}
use Rattle.row_model.specs.Settings.{Settings}
use Rattle.row_model.specs.FoldedRows.{opens_group, takes_next, operand_groups, with_group_operand, group_operands, GroupBase, base_in, group_base, greatest_created, content_of, base_bytes, group_content, group_row, folded_chunk, cons_both, all_or_none, folded_rows}
use Rattle.row_model.specs.KeptRows.{kept_rows}
use Rattle.row_model.specs.JobRows.{joined_keys, before_refusal, key_rows, job_rows}
use Rattle.row_model.specs.Ranges.{Range, rows_in, is_in_range}
use Rattle.row_laws.proofs.Elements.{all_weaken}
use Rattle.row_laws.proofs.ApartRows.{all_filter}
use Rattle.script_model.specs.Refusals.{IsRefusal}

-- ---- chunks

-- What each element has, each element of a chunk has.
chunks_have : (P : Row → Type 0) (joins : Row → Row → Bool) (rows : List Row) → AllByRecursion P rows → AllByRecursion (λ (g : Chunk Row). AllByRecursion P (elements g)) (chunk_by joins rows)
chunks_have P joins [] have = tt
chunks_have P joins (r ∷ rows) have = put (chunk_by joins rows) (chunks_have P joins rows have.1)
  where
    put : (gs : List (Chunk Row)) → AllByRecursion (λ (g : Chunk Row). AllByRecursion P (elements g)) gs → AllByRecursion (λ (g : Chunk Row). AllByRecursion P (elements g)) (put_before joins r gs)
    put [] rest = ((have.0, tt), tt)
    put (g ∷ gs) rest = by (joins r g.0)
      where
        by : (b : Bool) → AllByRecursion (λ (g : Chunk Row). AllByRecursion P (elements g)) (cond b ((r, g.0 ∷ g.1) ∷ gs) ((r, []) ∷ g ∷ gs))
        by true = ((have.0, rest.0), rest.1)
        by false = ((have.0, tt), rest)

-- All rows of a chunk have the key of its first row.
abbrev OneKey : Chunk Row → Type 0
OneKey g = AllByRecursion (λ (r : Row). r.key ≡ g.0.key) (elements g)

-- Each chunk of rows with the same key has one key.
one_key : (rows : List Row) → AllByRecursion OneKey (chunk_by same_key rows)
one_key [] = tt
one_key (r ∷ rows) = put (chunk_by same_key rows) (one_key rows)
  where
    put : (gs : List (Chunk Row)) → AllByRecursion OneKey gs → AllByRecursion OneKey (put_before same_key r gs)
    put [] rest = ((refl, tt), tt)
    put (g ∷ gs) rest = by (same_key r g.0) refl
      where
        by : (b : Bool) → same_key r g.0 ≡ b → AllByRecursion OneKey (cond b ((r, g.0 ∷ g.1) ∷ gs) ((r, []) ∷ g ∷ gs))
        by true e =
            let same : r.key ≡ g.0.key = (bytes_eq-Decides r.key g.0.key).0 e in
            ((refl, all_weaken (λ (q : Row). q.key ≡ g.0.key) (λ (q : Row). q.key ≡ r.key) (λ q h. h ∙ sym same) (elements g) rest.0), rest.1)
        by false e = ((refl, tt), rest)

-- ---- contents

-- The contents of the rows of a key.
abbrev pub contents : List ℕ → List Row → List Content
contents key rows = map (λ r. r.content) (rows_of_key key rows)

one_more : (x : Content) (xs : List Content) (c : Content) → Contains xs c → Contains (x ∷ xs) c
one_more x xs c (k, small, at) = (suc k, suc-le-suc small, at)

-- Each row is among those of its key.
pub are_there : (rows : List Row) → AllByRecursion (λ (r : Row). Contains (contents r.key rows) r.content) rows
are_there [] = tt
are_there (q ∷ rows) = (itself (bytes_eq q.key q.key) ((bytes_eq-Decides q.key q.key).1 refl), all_weaken (λ (r : Row). Contains (contents r.key rows) r.content) (λ (r : Row). Contains (contents r.key (q ∷ rows)) r.content) further rows (are_there rows))
  where
    itself : (b : Bool) → b ≡ true → Contains (map (λ (r : Row). r.content) (cond b (q ∷ rows_of_key q.key rows) (rows_of_key q.key rows))) q.content
    itself true e = (0, zero-lt-suc _, refl)
    itself false e = absurd (cc e)

    further : (r : Row) → Contains (contents r.key rows) r.content → Contains (contents r.key (q ∷ rows)) r.content
    further r there = by (bytes_eq r.key q.key)
      where
        by : (b : Bool) → Contains (map (λ (r : Row). r.content) (cond b (q ∷ rows_of_key r.key rows) (rows_of_key r.key rows))) r.content
        by true = one_more q.content (contents r.key rows) r.content there
        by false = there

-- The row has this key, and the rows of the key have its content.
pub record IsOf (all : List Row) (key : List ℕ) (r : Row) : Type 0 where
  pub here : r.key ≡ key
  pub there : Contains (contents key all) r.content

-- What the operands of a group have.
pub operands_there : (all : List Row) (key : List ℕ) (rows : List Row) → AllByRecursion (IsOf all key) rows → AllByRecursion (λ (x : List ℕ). Contains (contents key all) (Merge x)) (group_operands rows)
operands_there all key [] of = tt
operands_there all key (r ∷ rows) of = by r.content of.0.there (operands_there all key rows of.1)
  where
    push : (x : List ℕ) (xs : List (List ℕ)) → Contains (contents key all) (Merge x) → AllByRecursion (λ (x : List ℕ). Contains (contents key all) (Merge x)) xs → AllByRecursion (λ (x : List ℕ). Contains (contents key all) (Merge x)) (xs ++ x ∷ [])
    push x [] there rest = (there, tt)
    push x (y ∷ xs) there rest = (rest.0, push x xs there rest.1)

    by : (c : Content) → Contains (contents key all) c → AllByRecursion (λ (x : List ℕ). Contains (contents key all) (Merge x)) (group_operands rows)
        → AllByRecursion (λ (x : List ℕ). Contains (contents key all) (Merge x)) (with_group_operand c (group_operands rows))
    by (Value bytes) there rest = tt
    by (Merge bytes) there rest = push bytes (group_operands rows) there rest
    by Tombstone there rest = tt

abbrev pub BaseIsOf : List Row → List ℕ → Option (List ℕ) → Type 0
BaseIsOf all key existing = (existing ≡ None) ⊎ ((bytes : List ℕ) × (existing ≡ Some bytes) × Contains (contents key all) (Value bytes))

-- What the base of a group has, if it has bytes.
pub base_there : (all : List Row) (key : List ℕ) (rows : List Row) → AllByRecursion (IsOf all key) rows → BaseIsOf all key (base_bytes (group_base rows))
base_there all key [] of = inl refl
base_there all key (r ∷ rows) of = by r.content of.0.there (base_there all key rows of.1)
  where
    by : (c : Content) → Contains (contents key all) c → BaseIsOf all key (base_bytes (group_base rows)) → BaseIsOf all key (base_bytes (base_in c (group_base rows)))
    by (Value bytes) there rest = inr (bytes, refl, there)
    by (Merge bytes) there rest = rest
    by Tombstone there rest = inl refl

-- By index, if each has it.
pub by_index : {A : Type 0} (P : A → Type 0) (xs : List A) → AllByRecursion P xs → All P xs
by_index P [] all k d small = absurd (omega (arith, small))
by_index P (x ∷ xs) all zero d small = all.0
by_index P (x ∷ xs) all (suc k) d small = by_index P xs all.1 k d (le_of_suc-le-suc small)

-- ---- folds

-- A fold onto something has an answer.
fold_there : (merge : Operator) (key : List ℕ) (o : Outcome) (xs : List Outcome) → fold merge key (Some o) xs ≡ None → ⊥
fold_there merge key o [] none = cc none
fold_there merge key o (x ∷ xs) none = fold_there merge key (merge_one merge key (Some o) x) xs none

-- So has a fold of at least one operand.
operand_there : (merge : Operator) (key : List ℕ) (e : Option (List ℕ)) (older : List (List ℕ)) (x : List ℕ) → fold_bytes merge key e (older ++ x ∷ []) ≡ None → ⊥
operand_there merge key e [] x none = fold_there merge key (merge_one merge key (option_map Merged e) (Merged x)) [] none
operand_there merge key e (y ∷ older) x none = fold_there merge key (merge_one merge key (option_map Merged e) (Merged y)) (map Merged (older ++ x ∷ [])) none

-- The message of a group that has no content.
group_refused : (merge : Operator) (all : List Row) (key : List ℕ) (r : Row) (rows : List Row) → AllByRecursion (IsOf all key) (r ∷ rows) → is_merge r.content ≡ true → group_content merge key (r ∷ rows) ≡ None
    → (message : List ℕ) × IsRefusal merge all message
group_refused merge all key r rows of operand none = by (fold_bytes merge key e xs) refl none
  where
    base : GroupBase
    base = group_base (r ∷ rows)

    e : Option (List ℕ)
    e = base_bytes base

    xs : List (List ℕ)
    xs = group_operands (r ∷ rows)

    some : (c : Content) → is_merge c ≡ true → fold_bytes merge key e (with_group_operand c (group_operands rows)) ≡ None → ⊥
    some (Value bytes) is nothing = cc is
    some (Merge bytes) is nothing = operand_there merge key e (group_operands rows) bytes nothing
    some Tombstone is nothing = cc is

    by : (o : Option Outcome) → fold_bytes merge key e xs ≡ o → content_of base o ≡ None → (message : List ℕ) × IsRefusal merge all message
    by None is nothing = absurd (some r.content operand is)
    by (Some (Merged bytes)) is nothing = absurd (cc nothing)
    by (Some (Refused message)) is nothing = (
      message,
      record {
        key = key;
        existing = e;
        operands = xs;
        base = base_there all key (r ∷ rows) of;
        among = by_index (λ (x : List ℕ). Contains (contents key all) (Merge x)) xs (operands_there all key (r ∷ rows) of);
        refused = is;
      },
    )

-- ---- jobs

-- The first group without a row.
chunks_refused : (merge : Operator) (cut : ℕ) (all : List Row) (key : List ℕ) (gs : List (Chunk Row)) → AllByRecursion (λ (g : Chunk Row). AllByRecursion (IsOf all key) (elements g)) gs → all_or_none (map (folded_chunk merge cut) gs) ≡ None
    → (message : List ℕ) × IsRefusal merge all message
chunks_refused merge cut all key [] of none = absurd (cc none)
chunks_refused merge cut all key (g ∷ gs) of none = by (folded_chunk merge cut g) (all_or_none (map (folded_chunk merge cut) gs)) refl refl none (λ rest. chunks_refused merge cut all key gs of.1 rest)
  where
    content : (o : Option Content) → group_content merge g.0.key (elements g) ≡ o → option_map (λ content. record g.0 { content = content; created = greatest_created (elements g) }) o ≡ None → is_operand g.0 ≡ true → (message : List ℕ) × IsRefusal merge all message
    content None is nothing operand = group_refused merge all key g.0 g.1 of.0 operand (subst (λ (k : List ℕ). group_content merge k (elements g) ≡ None) of.0.0.here is)
    content (Some c) is nothing operand = absurd (cc nothing)

    opened : (a b : Bool) → (a && b) ≡ true → a ≡ true
    opened true b is = refl
    opened false b is = absurd (cc is)

    here : (b : Bool) → opens_group cut g.0 ≡ b → cond b (group_row merge g) (Some g.0) ≡ None → (message : List ℕ) × IsRefusal merge all message
    here true is nothing = content (group_content merge g.0.key (elements g)) refl nothing (opened (is_operand g.0) (nat_le g.0.seq cut) is)
    here false is nothing = absurd (cc nothing)

    by : (o : Option Row) (rest : Option (List Row)) → folded_chunk merge cut g ≡ o → all_or_none (map (folded_chunk merge cut) gs) ≡ rest → cons_both o rest ≡ None → (all_or_none (map (folded_chunk merge cut) gs) ≡ None → (message : List ℕ) × IsRefusal merge all message)
        → (message : List ℕ) × IsRefusal merge all message
    by None rest is later nothing further = here (opens_group cut g.0) refl is
    by (Some r) None is later nothing further = further later
    by (Some r) (Some rows) is later nothing further = absurd (cc nothing)

-- The first key that has no rows.
keys_refused : (merge : Operator) (settings : Settings) (all : List Row) (gs : List (Chunk Row)) → AllByRecursion (λ (g : Chunk Row). AllByRecursion (IsOf all g.0.key) (elements g)) gs
    → (joined_keys (map (λ g. key_rows merge settings (elements g)) gs)).whole ≡ false → (message : List ℕ) × IsRefusal merge all message
keys_refused merge settings all [] of refused = absurd (cc refused)
keys_refused merge settings all (g ∷ gs) of refused = by (folded_rows merge settings.cut (elements g)) refl refused (λ rest. keys_refused merge settings all gs of.1 rest)
  where
    by : (o : Option (List Row)) → folded_rows merge settings.cut (elements g) ≡ o → (before_refusal (option_map (kept_rows settings) o) (joined_keys (map (λ g. key_rows merge settings (elements g)) gs))).whole ≡ false
        → ((joined_keys (map (λ g. key_rows merge settings (elements g)) gs)).whole ≡ false → (message : List ℕ) × IsRefusal merge all message) → (message : List ℕ) × IsRefusal merge all message
    by None is broken further =
        chunks_refused merge settings.cut all g.0.key (operand_groups settings.cut (elements g)) (chunks_have (IsOf all g.0.key) (takes_next settings.cut) (elements g) of.0) is
    by (Some rows) is broken further = further broken

both_have : (all : List Row) (key : List ℕ) (rows : List Row) → AllByRecursion (λ (r : Row). r.key ≡ key) rows → AllByRecursion (λ (r : Row). Contains (contents r.key all) r.content) rows → AllByRecursion (IsOf all key) rows
both_have all key [] keys there = tt
both_have all key (r ∷ rows) keys there = (record { here = keys.0; there = subst (λ (k : List ℕ). Contains (contents k all) r.content) keys.0 there.0 }, both_have all key rows keys.1 there.1)

all_have : (all : List Row) (gs : List (Chunk Row)) → AllByRecursion OneKey gs → AllByRecursion (λ (g : Chunk Row). AllByRecursion (λ (r : Row). Contains (contents r.key all) r.content) (elements g)) gs
    → AllByRecursion (λ (g : Chunk Row). AllByRecursion (IsOf all g.0.key) (elements g)) gs
all_have all [] keys there = tt
all_have all (g ∷ gs) keys there = (both_have all g.0.key (elements g) keys.0 there.0, all_have all gs keys.1 there.1)

-- If a job over the rows of a range is not whole, the operator refuses a fold of these rows.
pub range_refused : (merge : Operator) (settings : Settings) (range : Range) (rows : List Row) → (job_rows merge settings (rows_in range rows)).whole ≡ false → (message : List ℕ) × IsRefusal merge rows message
range_refused merge settings range rows refused =
    let some = rows_in range rows in
    let there = all_filter (λ (r : Row). Contains (contents r.key rows) r.content) (λ (r : Row). is_in_range range r.key) rows (are_there rows) in
    keys_refused merge settings rows (chunk_by same_key some) (all_have rows (chunk_by same_key some) (one_key some) (chunks_have (λ (r : Row). Contains (contents r.key rows) r.content) same_key some there)) refused
