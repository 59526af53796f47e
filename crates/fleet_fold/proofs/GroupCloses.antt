-- The row that a group becomes.
use Rattle.std.proofs.Common.{◌≡◌, ◌∙◌, sym, refl, ap, ℕ, ℤ, List, [], ◌∷◌, ◌++◌, map, reverse, true, false, Option, Some, None, Ok, Err}
use Rattle.std.specs.Prelude.{Result}
use Rattle.std.specs.Option.{option_or}
use Rattle.row_model.specs.Rows.{Row, Content, Value, Merge, Tombstone, is_merge, is_operand}
use Rattle.row_model.specs.Fold.{Operator, fold_bytes}
use Rattle.row_model.specs.FoldedRows.{GroupBase, NoBase, merged_content, group_base, base_in, base_bytes, greatest_created, greater_stamp}
use Rattle.std.proofs.lemmas.List.{append-nil}
use Rattle.row_laws.specs.Batches.{batches}
use Rattle.fleet_rows.specs.declared.errors.SlateDBError.TheVariants.{InvalidSequenceOrder}
use Rattle.fleet_rows.specs.Row.{bytes_of}
use Rattle.fleet_rows.specs.Row as row
use Rattle.fleet_rows.specs.declared.row.ValueDeletable.{ValueDeletable}
use Rattle.fleet_rows.specs.declared.row.ValueDeletable.TheVariants as value
use Rattle.fleet_rows.specs.declared.errors.SlateDBError.{SlateDBError}
use Rattle.fleet_fold.specs.declared.group.Group.{Group}
use Rattle.fleet_fold.specs.Folded.{above, in_order, answer_of, batch_answer, batch_len, all_answers, over_base, operands_in, base_among, lesser_stamp, least_expiry, group_answer, row_of_answer}
use Rattle.fleet_fold.specs.Groups.{IsMerged, Notes, Flushes, RefusesFlush, RefusesAs, Closes, RefusesClose, with_value}
use Rattle.fleet_fold.proofs.GroupRows.{AllOperands, greatest-snoc, least-snoc, operands_in-append, base_among-append, group_base-append, no_operand, own_base}
use Rattle.fleet_fold.proofs.GroupBatches.{all_ok}
use Rattle.fleet_fold.proofs.GroupSteps.{all_merged, refuses_last}

-- ---- a row's bytes

pub operand_bytes : (v : ValueDeletable) (x : List ℕ) → is_merge (row.content_of v) ≡ true → bytes_of v ≡ Some x → row.content_of v ≡ Merge x
operand_bytes (value.Value bytes) x is h = absurd (cc is)
operand_bytes (value.Merge bytes) x is h = let e : bytes ≡ x = cc in ap Merge e
operand_bytes value.Tombstone x is h = absurd (cc is)

pub operand_has_bytes : (v : ValueDeletable) → is_merge (row.content_of v) ≡ true → bytes_of v ≡ None → ⊥
operand_has_bytes (value.Value bytes) is h = cc is
operand_has_bytes (value.Merge bytes) is h = cc h
operand_has_bytes value.Tombstone is h = cc is

pub base_is : (v : ValueDeletable) → is_merge (row.content_of v) ≡ false → base_bytes (base_in (row.content_of v) NoBase) ≡ bytes_of v
base_is (value.Value bytes) is = refl
base_is (value.Merge bytes) is = absurd (cc is)
base_is value.Tombstone is = refl

pub over_a_base : (c : Content) (bytes : List ℕ) → is_merge c ≡ false → merged_content (base_in c NoBase) bytes ≡ Value bytes
over_a_base (Value own) bytes is = refl
over_a_base (Merge own) bytes is = absurd (cc is)
over_a_base Tombstone bytes is = refl

-- ---- the row of a group

abbrev pub row_with : Content → List ℕ → ℕ → Option ℤ → Option ℤ → Row
row_with content key seq created expires = record { key = key; content = content; seq = seq; created = created; expires = expires }

pub same_row : (a b : Content) (k k' : List ℕ) (s s' : ℕ) (c c' e e' : Option ℤ) → a ≡ b → k ≡ k' → s ≡ s' → c ≡ c' → e ≡ e' → row_with a k s c e ≡ row_with b k' s' c' e'
same_row a b k k' s s' c c' e e' h p q r t =
    ap (λ (w : Content). row_with w k s c e) h ∙ (ap (λ (w : List ℕ). row_with b w s c e) p ∙ (ap (λ (w : ℕ). row_with b k' w c e) q
    ∙ (ap (λ (w : Option ℤ). row_with b k' s' w e) r ∙ ap (λ (w : Option ℤ). row_with b k' s' c' w) t)))

module _ (merge : Operator) where
  -- The answer of a group whose batches have these results, over a base that is no operand or without a base.
  pub answer_over : (first : Row) (taken base : List Row) (results : List (List ℕ)) → AllOperands (first ∷ taken) → map (batch_answer merge first) (batches batch_len (first ∷ taken)) ≡ map Ok results → operands_in base ≡ [] → base_among base ≡ base
      → group_answer merge (first, taken ++ base) ≡ over_base merge first base (Ok results)
  answer_over first taken base results all merged none own =
      let A : List Row → Result (List ℕ) SlateDBError = batch_answer merge first in
      ap (λ (w : List Row). over_base merge first w (all_answers (map A (batches batch_len (first ∷ operands_in (taken ++ base)))))) (base_among-append taken base all.1 ∙ own)
      ∙ ap (over_base merge first base)
      (ap (λ (w : List Row). all_answers (map A (batches batch_len (first ∷ w)))) (operands_in-append taken base all.1 ∙ (ap (λ (w : List Row). taken ++ w) none ∙ append-nil taken))
      ∙ (ap all_answers merged ∙ all_ok results))

  answer_at : (first : Row) (taken base : List Row) (g : Group) → IsMerged merge first taken g → operands_in base ≡ [] → base_among base ≡ base → group_answer merge (first, taken ++ base) ≡ over_base merge first base (Ok g.folded.items)
  answer_at first taken base g h none own = answer_over first taken base g.folded.items h.operands h.folded none own

  -- A group without a base becomes its row.
  pub closes_alone : (old g : Group) (bytes : List ℕ) → Flushes merge old g → answer_of (fold_bytes merge g.key None (reverse g.folded.items)) ≡ Ok bytes → Closes merge old [] (with_value g (Merge bytes))
  closes_alone old g bytes flushes is first taken gathers =
      let h = all_merged merge old g first taken gathers flushes in
      ap (row_of_answer (first, taken ++ [])) (answer_at first taken [] g h refl refl ∙ (ap (λ (k : List ℕ). answer_of (fold_bytes merge k None (reverse g.folded.items))) (sym h.key) ∙ is))
      ∙ ap Ok (same_row (merged_content (group_base (taken ++ [])) bytes) (Merge bytes) first.key g.key first.seq g.seq _ g.created _ g.expires
      (ap (λ (o : GroupBase). merged_content o bytes) (group_base-append taken [] h.operands.1))
      (sym h.key) (sym h.seq)
      (ap (λ (w : List Row). greatest_created (first ∷ w)) (append-nil taken) ∙ sym h.created)
      (ap (λ (w : List Row). least_expiry (first ∷ w)) (append-nil taken) ∙ sym h.expires))

  -- The answer of a group is the fold over the base, which was noted.
  noted_answer : (first : Row) (taken : List Row) (g noted : Group) (r : Row) → IsMerged merge first taken g → Notes g r noted → is_operand r ≡ false
      → group_answer merge (first, taken ++ r ∷ []) ≡ in_order noted.seq noted.late (answer_of (fold_bytes merge noted.key (base_bytes (group_base (r ∷ []))) (reverse noted.folded.items)))
  noted_answer first taken g noted r h notes plain =
      let b : Option (List ℕ) = base_bytes (group_base (r ∷ [])) in
      let late : noted.late ≡ above first.seq r = notes.late ∙ (ap (option_or (above g.seq r)) h.late ∙ (or_none (above g.seq r) ∙ ap (λ (n : ℕ). above n r) h.seq)) in
      answer_at first taken (r ∷ []) g h (no_operand r plain) (own_base r plain)
      ∙ (ap (λ (k : List ℕ). in_order first.seq (above first.seq r) (answer_of (fold_bytes merge k b (reverse g.folded.items)))) (sym (notes.key ∙ h.key))
      ∙ (ap (λ (w : List (List ℕ)). in_order first.seq (above first.seq r) (answer_of (fold_bytes merge noted.key b (reverse w)))) (sym notes.folded)
      ∙ (ap (λ (o : Option ℕ). in_order first.seq o (answer_of (fold_bytes merge noted.key b (reverse noted.folded.items)))) (sym late)
      ∙ ap (λ (n : ℕ). in_order n noted.late (answer_of (fold_bytes merge noted.key b (reverse noted.folded.items)))) (sym (notes.seq ∙ h.seq)))))
    where
      or_none : (a : Option ℕ) → option_or a None ≡ a
      or_none None = refl
      or_none (Some a) = refl

  pub in_order_is : (seq : ℕ) (late : Option ℕ) (answer : Result (List ℕ) SlateDBError) → in_order {A = Unit {0}} seq late (Ok tt) ≡ Ok tt → in_order seq late answer ≡ answer
  in_order_is seq None answer h = refl
  in_order_is seq (Some next) answer h = absurd (cc h)

  pub in_order_not : (seq : ℕ) (late : Option ℕ) (answer : Result (List ℕ) SlateDBError) (e : SlateDBError) → in_order {A = Unit {0}} seq late (Ok tt) ≡ Err e → in_order seq late answer ≡ Err e
  in_order_not seq None answer e h = absurd (cc h)
  in_order_not seq (Some next) answer e h = let is : InvalidSequenceOrder seq next ≡ e = cc in ap Err is

  pub closes_over : (old g noted : Group) (r : Row) (bytes : List ℕ) → Flushes merge old g → Notes g r noted → in_order {A = Unit {0}} noted.seq noted.late (Ok tt) ≡ Ok tt → is_operand r ≡ false
      → answer_of (fold_bytes merge noted.key (base_bytes (group_base (r ∷ []))) (reverse noted.folded.items)) ≡ Ok bytes → Closes merge old (r ∷ []) (with_value noted (Value bytes))
  closes_over old g noted r bytes flushes notes checked plain is first taken gathers =
      let h = all_merged merge old g first taken gathers flushes in
      ap (row_of_answer (first, taken ++ r ∷ [])) (noted_answer first taken g noted r h notes plain ∙ (in_order_is noted.seq noted.late _ checked ∙ is))
      ∙ ap Ok (same_row (merged_content (group_base (taken ++ r ∷ [])) bytes) (Value bytes) first.key noted.key first.seq noted.seq _ noted.created _ noted.expires
      (ap (λ (o : GroupBase). merged_content o bytes) (group_base-append taken (r ∷ []) h.operands.1) ∙ over_a_base r.content bytes plain)
      (sym (notes.key ∙ h.key)) (sym (notes.seq ∙ h.seq))
      (greatest-snoc (first ∷ taken) r ∙ sym (notes.created ∙ ap (λ (w : Option ℤ). greater_stamp w r.created) h.created))
      (least-snoc (first ∷ taken) r ∙ sym (notes.expires ∙ ap (λ (w : Option ℤ). lesser_stamp w r.expires) h.expires)))

  -- ---- what refuses to close a group

  pub refuses_flush : (old : Group) (base : List Row) (e : SlateDBError) → operands_in base ≡ [] → RefusesFlush merge old e → RefusesClose merge old base e
  refuses_flush old base e none refuses first taken gathers = refuses_last merge old e refuses first taken base gathers none

  pub refuses_alone : (old g : Group) (e : SlateDBError) → Flushes merge old g → RefusesAs (answer_of (fold_bytes merge g.key None (reverse g.folded.items))) e → RefusesClose merge old [] e
  refuses_alone old g e flushes refuses first taken gathers other =
      let h = all_merged merge old g first taken gathers flushes in
      ap (row_of_answer (first, taken ++ [])) (answer_at first taken [] g h refl refl ∙ (ap (λ (k : List ℕ). answer_of (fold_bytes merge k None (reverse g.folded.items))) (sym h.key) ∙ refuses other))

  pub refuses_base : (old g noted : Group) (r : Row) (e : SlateDBError) → Flushes merge old g → Notes g r noted → is_operand r ≡ false → in_order {A = Unit {0}} noted.seq noted.late (Ok tt) ≡ Err e → RefusesClose merge old (r ∷ []) e
  refuses_base old g noted r e flushes notes plain checked first taken gathers other =
      let h = all_merged merge old g first taken gathers flushes in
      ap (row_of_answer (first, taken ++ r ∷ [])) (noted_answer first taken g noted r h notes plain ∙ in_order_not noted.seq noted.late _ e checked)

  pub refuses_over : (old g noted : Group) (r : Row) (e : SlateDBError) → Flushes merge old g → Notes g r noted → is_operand r ≡ false → in_order {A = Unit {0}} noted.seq noted.late (Ok tt) ≡ Ok tt
      → RefusesAs (answer_of (fold_bytes merge noted.key (base_bytes (group_base (r ∷ []))) (reverse noted.folded.items))) e → RefusesClose merge old (r ∷ []) e
  refuses_over old g noted r e flushes notes plain checked refuses first taken gathers other =
      let h = all_merged merge old g first taken gathers flushes in
      ap (row_of_answer (first, taken ++ r ∷ [])) (noted_answer first taken g noted r h notes plain ∙ (in_order_is noted.seq noted.late _ checked ∙ refuses other))
