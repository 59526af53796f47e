-- What the steps of a group keep, and what refuses a group.
use Rattle.std.proofs.Common.{◌≡◌, ◌≢◌, ◌∙◌, sym, refl, ap, subst, ℕ, ℤ, ◌+◌, ◌<◌, ◌≤◌, suc, List, [], ◌∷◌, ◌++◌, map, reverse, length, Bool, true, Option, Some, None, Ok, Err, arith}
use Rattle.std.specs.Prelude.{Result, if◌then◌else◌}
use Rattle.std.proofs.lemmas.Bool.{le-leb}
use Rattle.std.specs.Option.{option_or}
use Rattle.std.proofs.lemmas.List.{append_assoc, append-nil, map-append, reverse-append}
use Rattle.row_model.specs.Rows.{Row, Content, Merge, is_operand}
use Rattle.row_model.specs.Fold.{Operator, fold_bytes}
use Rattle.row_model.specs.FoldedRows.{group_operands, with_group_operand, greater_stamp}
use Rattle.row_laws.specs.Batches.{batches}
use Rattle.fleet_rows.specs.declared.errors.SlateDBError.{SlateDBError}
use Rattle.fleet_fold.specs.declared.group.Group.{Group}
use Rattle.fleet_fold.specs.Folded.{above, last_above, in_order, answer_of, batch_answer, batch_len, all_answers, over_base, operands_in, base_among, lesser_stamp, group_answer, merged_group, row_of_answer}
use Rattle.fleet_fold.specs.Groups.{GathersUpTo, Gathers, IsMerged, Notes, Flushes, RefusesFlush, FlushesFull, RefusesFull, RefusesAs, pending_answer, left_to_merge}
use Rattle.fleet_fold.proofs.GroupRows.{AllOperands, greater_none, lesser_none, greatest-snoc, least-snoc, last_above-snoc, operands-snoc, group_operands-append, operands_in-append}
use Rattle.fleet_fold.proofs.GroupBatches.{full_first, one_batch, first_refused}

operand_of : (c : Content) (x : List ℕ) → c ≡ Merge x → with_group_operand c [] ≡ x ∷ []
operand_of c x h = ap (λ (w : Content). with_group_operand w []) h

-- ---- the first operand

-- A group that has its first row's key, sequence, stamps and operand, and no more, has gathered that row
-- alone.
pub gathers_first : (merge : Operator) (first : Row) (g : Group) (x : List ℕ) → g.key ≡ first.key → g.seq ≡ first.seq → g.stamp ≡ first.expires → g.created ≡ first.created → g.expires ≡ first.expires → g.late ≡ None
    → g.batch.items ≡ x ∷ [] → g.folded.items ≡ [] → first.content ≡ Merge x → is_operand first ≡ true → Gathers merge first [] g
gathers_first merge first g x key seq stamp created expires late batch folded is operand = record {
  key = key;
  seq = seq;
  stamp = stamp;
  created = created ∙ sym (greater_none first.created);
  expires = expires ∙ sym (lesser_none first.expires);
  operands = (operand, tt);
  done = [];
  pending = first ∷ [];
  plain = (operand, tt);
  cut = λ later. refl;
  folded = ap (λ (w : List (List ℕ)). map Ok w) (sym folded);
  batch = ap reverse batch ∙ sym (operand_of first.content x is);
  count = ap length batch;
  late = late ∙ sym (ap (λ (b : Bool). if b then None else Some first.seq) (le-leb first.seq first.seq (omega arith)));
  room = omega arith;
}

-- ---- one more operand

length-snoc : {A : Type 0} (xs : List A) (x : A) → length (xs ++ x ∷ []) ≡ suc (length xs)
length-snoc [] x = refl
length-snoc (y ∷ xs) x = ap suc (length-snoc xs x)

module _ (merge : Operator) where
  -- A group that notes an operand and takes its bytes has gathered one more operand, which may fill a
  -- batch.
  pub adds : (old mid new : Group) (row : Row) (x : List ℕ) → Notes old row mid → new.key ≡ mid.key → new.seq ≡ mid.seq → new.stamp ≡ mid.stamp → new.created ≡ mid.created → new.expires ≡ mid.expires → new.late ≡ mid.late
      → new.folded.items ≡ mid.folded.items → new.batch.items ≡ mid.batch.items ++ x ∷ [] → row.content ≡ Merge x → is_operand row ≡ true
      → (first : Row) (taken : List Row) → Gathers merge first taken old → GathersUpTo batch_len merge first (taken ++ row ∷ []) new
  adds old mid new row x notes key seq stamp created expires late folded batch is operand first taken h =
      let p : List Row = h.pending in
      record {
        key = key ∙ (notes.key ∙ h.key);
        seq = seq ∙ (notes.seq ∙ h.seq);
        stamp = stamp ∙ (notes.stamp ∙ h.stamp);
        created = created ∙ (notes.created ∙ (ap (λ (w : Option ℤ). greater_stamp w row.created) h.created ∙ sym (greatest-snoc (first ∷ taken) row)));
        expires = expires ∙ (notes.expires ∙ (ap (λ (w : Option ℤ). lesser_stamp w row.expires) h.expires ∙ sym (least-snoc (first ∷ taken) row)));
        operands = operands-snoc (first ∷ taken) row h.operands operand;
        done = h.done;
        pending = p ++ row ∷ [];
        cut = λ later. ap (λ (w : List Row). batches batch_len (first ∷ w)) (append_assoc taken (row ∷ []) later)
            ∙ (h.cut (row ∷ later) ∙ ap (λ (w : List Row). h.done ++ batches batch_len w) (sym (append_assoc p (row ∷ []) later)));
        folded = h.folded ∙ ap (λ (w : List (List ℕ)). map Ok w) (sym (folded ∙ notes.folded));
        batch = ap reverse (batch ∙ ap (λ (w : List (List ℕ)). w ++ x ∷ []) notes.batch) ∙ (reverse-append old.batch.items (x ∷ [])
            ∙ (ap (λ (w : List (List ℕ)). x ∷ w) h.batch ∙ (ap (λ (w : List (List ℕ)). w ++ group_operands p) (sym (operand_of row.content x is)) ∙ sym (after p (h.plain)))));
        plain = operands-snoc p row h.plain operand;
        count = ap length batch ∙ (length-snoc mid.batch.items x ∙ (ap (λ (w : List (List ℕ)). suc (length w)) notes.batch ∙ (ap suc h.count ∙ sym (length-snoc p row))));
        late = late ∙ (notes.late ∙ (ap (λ (n : ℕ). option_or (above n row) old.late) h.seq ∙ (ap (option_or (above first.seq row)) h.late ∙ sym (last_above-snoc first.seq p row))));
        room = let short = h.room in let more = length-snoc p row in omega arith;
      }
    where
      after : (xs : List Row) → AllOperands xs → group_operands (xs ++ row ∷ []) ≡ with_group_operand row.content [] ++ group_operands xs
      after xs all = group_operands-append xs (row ∷ []) all

-- ---- a batch is merged

module _ (merge : Operator) where
  -- The operands that wait to be merged have the answer of a batch.
  as_batch : (first : Row) (taken : List Row) (most : ℕ) (g : Group) (h : GathersUpTo most merge first taken g) → pending_answer merge g ≡ batch_answer merge first h.pending
  as_batch first taken most g h =
      ap (λ (n : ℕ). in_order n g.late (answer_of (fold_bytes merge g.key None (reverse g.batch.items)))) h.seq
      ∙ (ap (λ (o : Option ℕ). in_order first.seq o (answer_of (fold_bytes merge g.key None (reverse g.batch.items)))) h.late
      ∙ (ap (λ (k : List ℕ). in_order first.seq (last_above first.seq h.pending) (answer_of (fold_bytes merge k None (reverse g.batch.items)))) h.key
      ∙ ap (λ (w : List (List ℕ)). in_order first.seq (last_above first.seq h.pending) (answer_of (fold_bytes merge first.key None w))) h.batch))

  -- There is an answer if operands wait to be merged.
  has_answer : (answer : Result (List ℕ) SlateDBError) (batch : List (List ℕ)) (p : Row) (pending : List Row) → length batch ≡ length (p ∷ pending) → left_to_merge answer batch ≡ answer ∷ []
  has_answer answer [] p pending h = absurd (cc h)
  has_answer answer (x ∷ batch) p pending h = refl

  no_answer : (answer : Result (List ℕ) SlateDBError) (batch : List (List ℕ)) → length batch ≡ 0 → left_to_merge answer batch ≡ []
  no_answer answer [] h = refl
  no_answer answer (x ∷ batch) h = absurd (cc h)

  is_filled : (batch : List (List ℕ)) (p : Row) (pending : List Row) → length batch ≡ length (p ∷ pending) → batch ≢ []
  is_filled batch p pending h e = let none : length batch ≡ 0 = ap length e in absurd (omega arith)

  -- The results of all batches, with the result of a last batch.
  with_last : (first : Row) (done : List (List Row)) (p : Row) (pending : List Row) (old new : Group) → map (batch_answer merge first) done ≡ map Ok old.folded.items → length old.batch.items ≡ length (p ∷ pending)
      → pending_answer merge old ≡ batch_answer merge first (p ∷ pending) → Flushes merge old new → map (batch_answer merge first) (done ++ (p ∷ pending) ∷ []) ≡ map Ok new.folded.items
  with_last first done p pending old new folded count same flushes =
      map-append (batch_answer merge first) done ((p ∷ pending) ∷ [])
      ∙ (ap (λ (w : List (Result (List ℕ) SlateDBError)). w ++ batch_answer merge first (p ∷ pending) ∷ []) folded
      ∙ (ap (λ (a : Result (List ℕ) SlateDBError). map Ok old.folded.items ++ a ∷ []) (sym same)
      ∙ (ap (λ (w : List (Result (List ℕ) SlateDBError)). map Ok old.folded.items ++ w) (sym (has_answer (pending_answer merge old) old.batch.items p pending count)) ∙ sym flushes.folded)))

  -- A batch that is not full is not merged.
  pub stays_open : (g : Group) → length g.batch.items < batch_len → FlushesFull merge g g
  stays_open g short first taken h = record {
    key = h.key;
    seq = h.seq;
    stamp = h.stamp;
    created = h.created;
    expires = h.expires;
    operands = h.operands;
    done = h.done;
    pending = h.pending;
    plain = h.plain;
    cut = h.cut;
    folded = h.folded;
    batch = h.batch;
    count = h.count;
    late = h.late;
    room = let same = h.count in omega arith;
  }

  -- If the operands that wait fill a batch and are merged, the group has gathered the same rows, and less
  -- than a batch waits.
  pub flushes_full : (old new : Group) → batch_len ≤ length old.batch.items → Flushes merge old new → FlushesFull merge old new
  flushes_full old new full flushes first taken h = by h.pending refl
    where
      by : (pending : List Row) → h.pending ≡ pending → Gathers merge first taken new
      by [] is = let none : length h.pending ≡ 0 = ap length is in let same = h.count in absurd (omega arith)
      by (p ∷ pending) is =
          let same : length old.batch.items ≡ length (p ∷ pending) = h.count ∙ ap length is in
          let fits : length (p ∷ pending) ≤ batch_len = subst (λ (w : List Row). length w ≤ batch_len) is h.room in
          let exact : length pending + 1 ≡ batch_len = omega arith in
          record {
            key = flushes.key ∙ h.key;
            seq = flushes.seq ∙ h.seq;
            stamp = flushes.stamp ∙ h.stamp;
            created = flushes.created ∙ h.created;
            expires = flushes.expires ∙ h.expires;
            operands = h.operands;
            done = h.done ++ (p ∷ pending) ∷ [];
            pending = [];
            plain = tt;
            cut = λ later. h.cut later ∙ (ap (λ (w : List Row). h.done ++ batches batch_len (w ++ later)) is
                ∙ (ap (λ (w : List (List Row)). h.done ++ w) (full_first batch_len 0 p pending later exact) ∙ sym (append_assoc h.done ((p ∷ pending) ∷ []) (batches batch_len later))));
            folded = with_last first h.done p pending old new h.folded same (as_batch first taken batch_len old h ∙ ap (batch_answer merge first) is) flushes;
            batch = ap reverse flushes.batch;
            count = ap length flushes.batch;
            late = flushes.in_order (is_filled old.batch.items p pending same);
            room = omega arith;
          }

  -- If a group's answer is an error, the group is refused with it.
  refused_answer : (first : Row) (rows : List Row) (e : SlateDBError) → group_answer merge (first, rows) ≡ Err e → merged_group merge (first, rows) ≡ Err e
  refused_answer first rows e h = ap (row_of_answer (first, rows)) h

  -- If earlier batches of a group are merged and a batch is refused, the group is refused with the same
  -- error.
  refused_batches : (first : Row) (taken later : List Row) (done rest : List (List Row)) (results : List (List ℕ)) (batch : List Row) (e : SlateDBError) → AllOperands (first ∷ taken)
      → batches batch_len (first ∷ (taken ++ operands_in later)) ≡ done ++ batch ∷ rest → map (batch_answer merge first) done ≡ map Ok results → batch_answer merge first batch ≡ Err e → merged_group merge (first, taken ++ later) ≡ Err e
  refused_batches first taken later done rest results batch e all cut folded refused =
      let A : List Row → Result (List ℕ) SlateDBError = batch_answer merge first in
      refused_answer first (taken ++ later) e
      (ap (over_base merge first (base_among (taken ++ later)))
      (ap (λ (w : List Row). all_answers (map A (batches batch_len (first ∷ w)))) (operands_in-append taken later all.1)
      ∙ (ap (λ (w : List (List Row)). all_answers (map A w)) cut
      ∙ (ap all_answers (map-append A done (batch ∷ rest)
      ∙ (ap (λ (w : List (Result (List ℕ) SlateDBError)). w ++ map A (batch ∷ rest)) folded ∙ ap (λ (a : Result (List ℕ) SlateDBError). map Ok results ++ a ∷ map A rest) refused))
      ∙ first_refused results e (map A rest)))))

  head_is : (a b : Result (List ℕ) SlateDBError) → ◌≡◌ {A = List (Result (List ℕ) SlateDBError)} (a ∷ []) (b ∷ []) → a ≡ b
  head_is a b h = cc h

  -- If the merge of a full batch is refused, the group is refused with the same error, whatever rows join
  -- it later.
  pub refuses_full : (g : Group) (e : SlateDBError) → batch_len ≤ length g.batch.items → RefusesFlush merge g e → RefusesFull merge g e
  refuses_full g e full refuses first taken later h other = by h.pending refl
    where
      by : (pending : List Row) → h.pending ≡ pending → merged_group merge (first, taken ++ later) ≡ Err e
      by [] is = let none : length h.pending ≡ 0 = ap length is in let same = h.count in absurd (omega arith)
      by (p ∷ pending) is =
          let same : length g.batch.items ≡ length (p ∷ pending) = h.count ∙ ap length is in
          let fits : length (p ∷ pending) ≤ batch_len = subst (λ (w : List Row). length w ≤ batch_len) is h.room in
          let exact : length pending + 1 ≡ batch_len = omega arith in
          let more : List Row = operands_in later in
          refused_batches first taken later h.done (batches batch_len more) g.folded.items (p ∷ pending) e h.operands
          (h.cut more ∙ (ap (λ (w : List Row). h.done ++ batches batch_len (w ++ more)) is ∙ ap (λ (w : List (List Row)). h.done ++ w) (full_first batch_len 0 p pending more exact)))
          h.folded
          (sym (as_batch first taken batch_len g h ∙ ap (batch_answer merge first) is) ∙ head_is (pending_answer merge g) (Err e) (sym (has_answer (pending_answer merge g) g.batch.items p pending same) ∙ refuses other))

  -- ---- all operands are merged

  -- If the operands that wait are merged, all operands of the group are merged.
  pub all_merged : (old new : Group) (first : Row) (taken : List Row) → Gathers merge first taken old → Flushes merge old new → IsMerged merge first taken new
  all_merged old new first taken h flushes = by h.pending refl
    where
      cut : (pending : List Row) → h.pending ≡ pending → batches batch_len (first ∷ taken) ≡ h.done ++ batches batch_len pending
      cut pending is = ap (λ (w : List Row). batches batch_len (first ∷ w)) (sym (append-nil taken)) ∙ (h.cut [] ∙ ap (λ (w : List Row). h.done ++ batches batch_len w) (append-nil h.pending ∙ is))

      made : map (batch_answer merge first) (batches batch_len (first ∷ taken)) ≡ map Ok new.folded.items → new.late ≡ None → IsMerged merge first taken new
      made folded late = record { key = flushes.key ∙ h.key; seq = flushes.seq ∙ h.seq; created = flushes.created ∙ h.created; expires = flushes.expires ∙ h.expires; operands = h.operands; folded = folded; late = late }

      by : (pending : List Row) → h.pending ≡ pending → IsMerged merge first taken new
      by [] is =
          made (ap (map (batch_answer merge first)) (cut [] is ∙ append-nil h.done)
          ∙ (h.folded ∙ (sym (append-nil (map Ok old.folded.items))
          ∙ (ap (λ (w : List (Result (List ℕ) SlateDBError)). map Ok old.folded.items ++ w) (sym (no_answer (pending_answer merge old) old.batch.items (h.count ∙ ap length is))) ∙ sym flushes.folded))))
          (flushes.late ∙ (h.late ∙ ap (last_above first.seq) is))
      by (p ∷ pending) is =
          let same : length old.batch.items ≡ length (p ∷ pending) = h.count ∙ ap length is in
          let fits : length (p ∷ pending) ≤ 99 = subst (λ (w : List Row). length w ≤ 99) is h.room in
          made (ap (map (batch_answer merge first)) (cut (p ∷ pending) is ∙ ap (λ (w : List (List Row)). h.done ++ w) (one_batch batch_len 0 p pending (omega arith)))
          ∙ with_last first h.done p pending old new h.folded same (as_batch first taken 99 old h ∙ ap (batch_answer merge first) is) flushes)
          (flushes.in_order (is_filled old.batch.items p pending same))

  -- If the merge of the last operands is refused, the group is refused with the same error, whatever its
  -- base is.
  pub refuses_last : (old : Group) (e : SlateDBError) → RefusesFlush merge old e → (first : Row) (taken base : List Row) → Gathers merge first taken old → operands_in base ≡ [] → RefusesAs (merged_group merge (first, taken ++ base)) e
  refuses_last old e refuses first taken base h none other = by h.pending refl
    where
      by : (pending : List Row) → h.pending ≡ pending → merged_group merge (first, taken ++ base) ≡ Err e
      by [] is = let e = sym (no_answer (pending_answer merge old) old.batch.items (h.count ∙ ap length is)) ∙ refuses other in absurd (cc e)
      by (p ∷ pending) is =
          let same : length old.batch.items ≡ length (p ∷ pending) = h.count ∙ ap length is in
          let fits : length (p ∷ pending) ≤ 99 = subst (λ (w : List Row). length w ≤ 99) is h.room in
          refused_batches first taken base h.done [] old.folded.items (p ∷ pending) e h.operands
          (ap (λ (w : List Row). batches batch_len (first ∷ (taken ++ w))) none
          ∙ (h.cut [] ∙ (ap (λ (w : List Row). h.done ++ batches batch_len w) (append-nil h.pending ∙ is) ∙ ap (λ (w : List (List Row)). h.done ++ w) (one_batch batch_len 0 p pending (omega arith)))))
          h.folded
          (sym (as_batch first taken 99 old h ∙ ap (batch_answer merge first) is) ∙ head_is (pending_answer merge old) (Err e) (sym (has_answer (pending_answer merge old) old.batch.items p pending same) ∙ refuses other))
