-- The row that a group becomes is the model's row of that group.
use Rattle.std.proofs.Common.{◌≡◌, ◌∙◌, sym, refl, ap, ℕ, ◌<◌, ◌≤◌, List, [], ◌∷◌, ◌++◌, map, reverse, Bool, true, false, not, cond, ℤ, pos, negsuc, Option, Some, None, Ok, Err, arith}
use Rattle.std.specs.Prelude.{int_le, option_map, Result, if◌then◌else◌}
use Rattle.std.specs.List.{AllByRecursion}
use Rattle.std.specs.Option.{option_or}
use Rattle.std.specs.Result.{result_ok}
use Rattle.std.proofs.Math.Nat.{le_antisymm}
use Rattle.std.proofs.lemmas.Bool.{leb-true, le-leb}
use Rattle.std.proofs.lemmas.List.{reverse-append, reverse-reverse}
use Rattle.row_model.specs.Chunks.{Chunk, elements}
use Rattle.row_model.specs.Fold.{Operator, Outcome, Merged, Refused, fold_bytes, IsLawful}
use Rattle.row_model.specs.FoldedRows.{GroupBase, merged_content, same_stamp, with_group_operand, group_operands, base_in, group_base, base_bytes, content_of, group_content, group_row, greatest_created, cons_both}
use Rattle.row_model.specs.Rows.{Row, Content, Value, Merge, Tombstone, is_merge, is_operand}
use Rattle.row_laws.specs.Batches.{bytes_of, batch_results, content_over, batches}
use Rattle.row_laws.specs.Walks.{taken_rows}
use Rattle.row_laws.proofs.ApartRows.{all_filter}
use Rattle.row_laws.proofs.Batches.{folds_by_batches}
use Rattle.row_laws.proofs.Elements.{all_weaken}
use Rattle.row_laws.proofs.GroupReads.{and_left, and_right}
use Rattle.fleet_rows.specs.declared.errors.SlateDBError.{SlateDBError}
use Rattle.fleet_fold.specs.Folded.{above, last_above, in_order, answer_of, batch_answer, all_answers, over_base, batch_len, operands_in, base_among, group_answer, lesser_stamp, least_expiry, merged_row, row_of_answer, merged_group}
use Rattle.fleet_fold.proofs.JobsBatches.{AllIn, batches_mapped, batches_all, more_ok}

-- ---- the operands of a group

abbrev operand_bytes : Content → List ℕ
operand_bytes (Value bytes) = bytes
operand_bytes (Merge bytes) = bytes
operand_bytes Tombstone = []

abbrev row_bytes : Row → List ℕ
row_bytes r = operand_bytes r.content

abbrev IsOperand : Row → Type 0
IsOperand r = is_operand r ≡ true

one_operand : (c : Content) (older : List (List ℕ)) → is_merge c ≡ true → with_group_operand c older ≡ older ++ operand_bytes c ∷ []
one_operand (Value bytes) older h = absurd (cc h)
one_operand (Merge bytes) older h = refl
one_operand Tombstone older h = absurd (cc h)

no_operand : (c : Content) → is_merge c ≡ false → with_group_operand c [] ≡ []
no_operand (Value bytes) h = refl
no_operand (Merge bytes) h = absurd (cc h)
no_operand Tombstone h = refl

no_base : (c : Content) (older : GroupBase) → is_merge c ≡ true → base_in c older ≡ older
no_base (Value bytes) older h = absurd (cc h)
no_base (Merge bytes) older h = refl
no_base Tombstone older h = absurd (cc h)

-- The bytes of operands, in reverse, are the operands of the group, oldest first.
operands_back : (rows : List Row) → AllByRecursion IsOperand rows → reverse (map row_bytes rows) ≡ group_operands rows
operands_back [] all = refl
operands_back (r ∷ rows) all =
    reverse-append (row_bytes r ∷ []) (map row_bytes rows)
    ∙ (ap (λ (bytes : List (List ℕ)). bytes ++ row_bytes r ∷ []) (operands_back rows all.1)
    ∙ sym (one_operand r.content (group_operands rows) all.0))

pass_operands : (rows : List Row) → AllByRecursion IsOperand (operands_in rows)
pass_operands [] = tt
pass_operands (r ∷ rows) = by (is_operand r) refl (pass_operands rows)
  where
    by : (b : Bool) → is_operand r ≡ b → AllByRecursion IsOperand (operands_in rows) → AllByRecursion IsOperand (cond b (r ∷ operands_in rows) (operands_in rows))
    by true e rest = (e, rest)
    by false e rest = rest

-- ---- the rows after the first of a group: operands, and at most one other row, which is the last

in_operands : (q : Row) (rows : List Row) (b : Bool) → is_operand q ≡ b → operands_in (q ∷ rows) ≡ cond b (q ∷ operands_in rows) (operands_in rows)
in_operands q rows b e = ap (λ c. cond c (q ∷ operands_in rows) (operands_in rows)) e

in_base : (q : Row) (rows : List Row) (b : Bool) → is_operand q ≡ b → base_among (q ∷ rows) ≡ cond (not b) (q ∷ base_among rows) (base_among rows)
in_base q rows b e = ap (λ c. cond (not c) (q ∷ base_among rows) (base_among rows)) e

same_int : (a b : ℤ) → int_le a b ≡ true → int_le b a ≡ true → a ≡ b
same_int (pos a) (pos b) h g = ap pos (le_antisymm (leb-true a b h) (leb-true b a g))
same_int (pos a) (negsuc b) h g = absurd (cc h)
same_int (negsuc a) (pos b) h g = absurd (cc g)
same_int (negsuc a) (negsuc b) h g = ap negsuc (le_antisymm (leb-true a b g) (leb-true b a h))

same_is : (a b : Option ℤ) → same_stamp a b ≡ true → a ≡ b
same_is None None h = refl
same_is None (Some b) h = absurd (cc h)
same_is (Some a) None h = absurd (cc h)
same_is (Some a) (Some b) h = ap Some (same_int a b (and_left (int_le a b) (int_le b a) h) (and_right (int_le a b) (int_le b a) h))

lesser_none : (a : Option ℤ) → lesser_stamp a None ≡ a
lesser_none None = refl
lesser_none (Some a) = refl

lesser_own : (a : Option ℤ) → lesser_stamp a a ≡ a
lesser_own None = refl
lesser_own (Some a) = by (int_le a a)
  where
    by : (b : Bool) → (if b then Some a else Some a) ≡ Some a
    by true = refl
    by false = refl

module _ (stamp : Option ℤ) where
  abbrev with_first : Bool → Bool → Row → List Row → List Row
  with_first same operand q rows = if same then q ∷ (if operand then taken_rows stamp rows else []) else []

  tail_operands : (rows : List Row) → group_operands (operands_in (taken_rows stamp rows)) ≡ group_operands (taken_rows stamp rows)
  tail_operands [] = refl
  tail_operands (q ∷ rows) = by (same_stamp stamp q.expires) (is_operand q) refl (tail_operands rows)
    where
      by : (same operand : Bool) → is_operand q ≡ operand → group_operands (operands_in (taken_rows stamp rows)) ≡ group_operands (taken_rows stamp rows)
          → group_operands (operands_in (with_first same operand q rows)) ≡ group_operands (with_first same operand q rows)
      by true true e rest = ap group_operands (in_operands q (taken_rows stamp rows) true e) ∙ ap (with_group_operand q.content) rest
      by true false e rest = ap group_operands (in_operands q [] false e) ∙ sym (no_operand q.content e)
      by false operand e rest = refl

  tail_base : (rows : List Row) → group_base (base_among (taken_rows stamp rows)) ≡ group_base (taken_rows stamp rows)
  tail_base [] = refl
  tail_base (q ∷ rows) = by (same_stamp stamp q.expires) (is_operand q) refl (tail_base rows)
    where
      by : (same operand : Bool) → is_operand q ≡ operand → group_base (base_among (taken_rows stamp rows)) ≡ group_base (taken_rows stamp rows)
          → group_base (base_among (with_first same operand q rows)) ≡ group_base (with_first same operand q rows)
      by true true e rest = ap group_base (in_base q (taken_rows stamp rows) true e) ∙ (rest ∙ sym (no_base q.content (group_base (taken_rows stamp rows)) e))
      by true false e rest = ap group_base (in_base q [] false e)
      by false operand e rest = refl

  -- No row that a group takes expires before the group's stamp.
  tail_stamp : (rows : List Row) → lesser_stamp stamp (least_expiry (taken_rows stamp rows)) ≡ stamp
  tail_stamp [] = lesser_none stamp
  tail_stamp (q ∷ rows) = by (same_stamp stamp q.expires) refl (is_operand q) (tail_stamp rows)
    where
      alike : same_stamp stamp q.expires ≡ true → (others : List Row) → lesser_stamp stamp (least_expiry others) ≡ stamp → lesser_stamp stamp (lesser_stamp q.expires (least_expiry others)) ≡ stamp
      alike e others rest =
          ap (λ (s : Option ℤ). lesser_stamp stamp (lesser_stamp s (least_expiry others))) (sym (same_is stamp q.expires e))
          ∙ (ap (lesser_stamp stamp) rest ∙ lesser_own stamp)

      by : (same : Bool) → same_stamp stamp q.expires ≡ same → (operand : Bool) → lesser_stamp stamp (least_expiry (taken_rows stamp rows)) ≡ stamp
          → lesser_stamp stamp (least_expiry (with_first same operand q rows)) ≡ stamp
      by true e true rest = alike e (taken_rows stamp rows) rest
      by true e false rest = alike e [] (lesser_none stamp)
      by false e operand rest = lesser_none stamp

  tail_all : (P : Row → Type 0) (rows : List Row) → AllByRecursion P rows → AllByRecursion P (taken_rows stamp rows)
  tail_all P [] all = tt
  tail_all P (q ∷ rows) all = by (same_stamp stamp q.expires) (is_operand q) (tail_all P rows all.1)
    where
      by : (same operand : Bool) → AllByRecursion P (taken_rows stamp rows) → AllByRecursion P (with_first same operand q rows)
      by true true rest = (all.0, rest)
      by true false rest = (all.0, tt)
      by false operand rest = tt

-- ---- answers

answer_ok : (o : Option Outcome) → result_ok (answer_of o) ≡ bytes_of o
answer_ok None = refl
answer_ok (Some (Merged bytes)) = refl
answer_ok (Some (Refused message)) = refl

merged_as : (base : GroupBase) (o : Option Outcome) → option_map (merged_content base) (bytes_of o) ≡ content_of base o
merged_as base None = refl
merged_as base (Some (Merged bytes)) = refl
merged_as base (Some (Refused message)) = refl

abbrev pub UpTo : ℕ → Row → Type 0
UpTo seq q = q.seq ≤ seq

-- If no row is above the first one, the order refuses nothing.
none_above : (seq : ℕ) (rows : List Row) → AllByRecursion (UpTo seq) rows → last_above seq rows ≡ None
none_above seq [] all = refl
none_above seq (q ∷ rows) all =
    ap (λ (o : Option ℕ). option_or o (above seq q)) (none_above seq rows all.1) ∙ ap (λ (b : Bool). if b then None else Some q.seq) (le-leb q.seq seq all.0)

pub ordered : {A : Type 0} (seq : ℕ) (rows : List Row) (answer : Result A SlateDBError) → AllByRecursion (UpTo seq) rows → in_order seq (last_above seq rows) answer ≡ answer
ordered seq rows answer all = ap (λ (o : Option ℕ). in_order seq o answer) (none_above seq rows all)

module _ (merge : Operator) (first : Row) where
  batch_ok : (batch : List Row) → AllByRecursion (UpTo first.seq) batch → AllByRecursion IsOperand batch
      → result_ok (batch_answer merge first batch) ≡ bytes_of (fold_bytes merge first.key None (reverse (map row_bytes batch)))
  batch_ok batch lower operands =
      ap (λ (a : Result (List ℕ) SlateDBError). result_ok a) (ordered first.seq batch (answer_of (fold_bytes merge first.key None (group_operands batch))) lower)
      ∙ (answer_ok (fold_bytes merge first.key None (group_operands batch))
      ∙ ap (λ (xs : List (List ℕ)). bytes_of (fold_bytes merge first.key None xs)) (sym (operands_back batch operands)))

  batches_ok : (bs : List (List Row)) → AllIn (UpTo first.seq) bs → AllIn IsOperand bs → result_ok (all_answers (map (batch_answer merge first) bs)) ≡ batch_results merge first.key (map (map row_bytes) bs)
  batches_ok [] lower operands = refl
  batches_ok (b ∷ bs) lower operands =
      more_ok (batch_answer merge first b) (all_answers (map (batch_answer merge first) bs))
      ∙ (ap (λ (o : Option (List ℕ)). cons_both o (result_ok (all_answers (map (batch_answer merge first) bs)))) (batch_ok b lower.0 operands.0)
      ∙ ap (cons_both (bytes_of (fold_bytes merge first.key None (reverse (map row_bytes b))))) (batches_ok bs lower.1 operands.1))

  over_ok : (base : List Row) (found : GroupBase) (results : Result (List (List ℕ)) SlateDBError) → AllByRecursion (UpTo first.seq) base → group_base base ≡ found
      → option_map (merged_content found) (result_ok (over_base merge first base results)) ≡ content_over merge first.key found (result_ok results)
  over_ok base found (Err e) lower is = refl
  over_ok base found (Ok results) lower is =
      ap (λ (a : Result (List ℕ) SlateDBError). option_map (merged_content found) (result_ok a)) (ordered first.seq base (answer_of (fold_bytes merge first.key (base_bytes (group_base base)) (reverse results))) lower)
      ∙ (ap (option_map (merged_content found)) (answer_ok (fold_bytes merge first.key (base_bytes (group_base base)) (reverse results)))
      ∙ (ap (λ (b : GroupBase). option_map (merged_content found) (bytes_of (fold_bytes merge first.key (base_bytes b) (reverse results)))) is
      ∙ merged_as found (fold_bytes merge first.key (base_bytes found) (reverse results))))

-- ---- the row

abbrev row_with : Row → Content → Option ℤ → Option ℤ → Row
row_with r content created expires = record r { content = content; created = created; expires = expires }

row_ok : (g : Chunk Row) (answer : Result (List ℕ) SlateDBError) → result_ok (row_of_answer g answer) ≡ option_map (merged_row g) (result_ok answer)
row_ok g (Ok bytes) = refl
row_ok g (Err e) = refl

same_row : (g : Chunk Row) (base : GroupBase) (o : Option (List ℕ)) → group_base g.1 ≡ base → least_expiry (elements g) ≡ g.0.expires
    → option_map (merged_row g) o ≡ option_map (λ content. record g.0 { content = content; created = greatest_created (elements g) }) (option_map (merged_content base) o)
same_row g base None is stamp = refl
same_row g base (Some bytes) is stamp =
    ap (λ (b : GroupBase). Some (row_with g.0 (merged_content b bytes) (greatest_created (elements g)) (least_expiry (elements g)))) is
    ∙ ap (λ (s : Option ℤ). Some (row_with g.0 (merged_content base bytes) (greatest_created (elements g)) s)) stamp

module _ (merge : Operator) (lawful : IsLawful merge) (first : Row) (rows : List Row) (operand : is_operand first ≡ true) (lower : AllByRecursion (λ q. q.seq < first.seq) rows) where
  abbrev g : Chunk Row
  g = (first, taken_rows first.expires rows)

  abbrev base : GroupBase
  base = group_base (elements g)

  abbrev found : List Row
  found = first ∷ operands_in g.1

  tail_lower : AllByRecursion (UpTo first.seq) g.1
  tail_lower = tail_all first.expires (UpTo first.seq) rows (all_weaken (λ q. q.seq < first.seq) (UpTo first.seq) (λ q h. omega arith) rows lower)

  found_lower : AllByRecursion (UpTo first.seq) found
  found_lower = (omega arith, all_filter (UpTo first.seq) is_operand g.1 tail_lower)

  found_operands : AllByRecursion IsOperand found
  found_operands = (operand, pass_operands g.1)

  base_is : base ≡ group_base g.1
  base_is = no_base first.content (group_base g.1) operand

  operands_are : reverse (group_operands (elements g)) ≡ map row_bytes found
  operands_are =
      ap (λ (xs : List (List ℕ)). reverse (with_group_operand first.content xs)) (sym (tail_operands first.expires rows))
      ∙ (ap reverse (sym (operands_back found found_operands)) ∙ reverse-reverse (map row_bytes found))

  results_are : result_ok (all_answers (map (batch_answer merge first) (batches batch_len found))) ≡ batch_results merge first.key (batches batch_len (reverse (group_operands (elements g))))
  results_are =
      batches_ok merge first (batches batch_len found) (batches_all (UpTo first.seq) batch_len found found_lower) (batches_all IsOperand batch_len found found_operands)
      ∙ (ap (batch_results merge first.key) (sym (batches_mapped row_bytes batch_len found))
      ∙ ap (λ (xs : List (List ℕ)). batch_results merge first.key (batches batch_len xs)) (sym operands_are))

  content_is : option_map (merged_content base) (result_ok (group_answer merge g)) ≡ group_content merge first.key (elements g)
  content_is =
      over_ok merge first (base_among g.1) base (all_answers (map (batch_answer merge first) (batches batch_len found))) (all_filter (UpTo first.seq) (λ r. not (is_operand r)) g.1 tail_lower) (tail_base first.expires rows ∙ sym base_is)
      ∙ (ap (content_over merge first.key base) results_are ∙ folds_by_batches merge lawful first.key (elements g) batch_len (omega arith))

  pub merged_is_row : result_ok (merged_group merge (first, taken_rows first.expires rows)) ≡ group_row merge (first, taken_rows first.expires rows)
  merged_is_row =
      row_ok g (group_answer merge g)
      ∙ (same_row g base (result_ok (group_answer merge g)) (sym base_is) (tail_stamp first.expires rows)
      ∙ ap (option_map (λ content. record g.0 { content = content; created = greatest_created (elements g) })) content_is)
