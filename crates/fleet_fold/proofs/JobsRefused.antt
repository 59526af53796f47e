-- A job of strictly ordered rows is refused only by the operator, in a group of one key's rows.
use Rattle.std.proofs.Common.{◌≡◌, ◌≢◌, ◌∙◌, sym, refl, ap, subst, inl, inr, ℕ, zero, suc, ◌<◌, ◌≤◌, ◌+◌, List, [], ◌∷◌, ◌++◌, map, length, not, cond, Bool, true, false, Option, Some, None, Ok, Err, arith}
use Rattle.std.specs.Prelude.{◌⊎◌, bytes_eq, nat_le, reverse, Contains, Result, if◌then◌else◌}
use Rattle.std.specs.Cmp.{ranked}
use Rattle.std.specs.List.{AllByRecursion}
use Rattle.std.specs.List.Sorted.{IsStrictlySortedBy}
use Rattle.std.specs.Ordering.{nat_cmp, ordering_then}
use Rattle.std.specs.declared.cmp.Ordering.TheVariants.{Less}
use Rattle.std.proofs.lemmas.List.{append_assoc, reverse-append}
use Rattle.std.proofs.lemmas.List.Elements.{Contains-push, Contains-append_left, Contains-append_right}
use Rattle.std.proofs.lemmas.Slice.Eq.{bytes_eq-Decides}
use Rattle.row_model.specs.Fold.{Operator, Outcome, Merged, Refused, merge_one, fold_bytes}
use Rattle.row_model.specs.FoldedRows.{group_operands, group_base, base_bytes, with_group_operand}
use Rattle.row_model.specs.Rows.{Row, Content, Value, Merge, Tombstone, is_merge, is_operand, key_cmp, row_cmp, rows_of_key, IsStrictlyOrdered}
use Rattle.row_laws.specs.Batches.{put_first, batches_from, batches}
use Rattle.row_laws.proofs.ApartRows.{all_filter, passes}
use Rattle.row_laws.proofs.Elements.{all_weaken}
use Rattle.row_laws.proofs.GroupReads.{and_left}
use Rattle.row_laws.proofs.KeyRows.{key_alike}
use Rattle.row_laws.proofs.ReadOnto.{fold_bytes-snoc}
use Rattle.fleet_rows.specs.declared.errors.MergeOperatorError.TheVariants.{Callback}
use Rattle.fleet_rows.specs.declared.errors.SlateDBError.{SlateDBError}
use Rattle.fleet_rows.specs.declared.errors.SlateDBError.TheVariants.{MergeOperator}
use Rattle.fleet_fold.specs.Folded.{Folded, opens, is_within, same_group, joining, answer_of, batch_answer, batch_len, one_more, all_answers, over_base, base_among, operands_in, group_answer, merged_group, row_of_answer, folded_after, before_refusal, up_to_refusal}
use Rattle.fleet_fold.specs.Jobs.{job_rule, IsGroup, batch_outcomes, RefusesResults, IsOfOperator, RefusesByOperator}
use Rattle.fleet_fold.specs.declared.group.GroupRule.{GroupRule}
use Rattle.fleet_fold.proofs.JobsBatches.{AllIn, batches_all}
use Rattle.fleet_fold.proofs.JobsGroups.{UpTo, ordered}

-- ---- the rows that join a group: operands and at most one other row, none of them above the group's first

falls : (r q : Row) → row_cmp r q ≡ Less → r.key ≡ q.key → q.seq ≤ r.seq
falls r q before alike =
    let lower : q.seq < r.seq = ranked q.seq r.seq Less (sym (ap (λ o. ordering_then o (nat_cmp q.seq r.seq)) (sym (ap (key_cmp r.key) (sym alike) ∙ key_alike r.key)) ∙ before)) in
    omega arith

record AreJoined (r : Row) (rows joined : List Row) : Type 0 where
  after : List Row
  all : rows ≡ joined ++ after
  lower : AllByRecursion (UpTo r.seq) joined
  keys : AllByRecursion (λ q. r.key ≡ q.key) joined
  parts : joined ≡ operands_in joined ++ base_among joined
  one : length (base_among joined) ≤ 1

in_operands : (q : Row) (rows : List Row) (b : Bool) → is_operand q ≡ b → operands_in (q ∷ rows) ≡ cond b (q ∷ operands_in rows) (operands_in rows)
in_operands q rows b e = ap (λ c. cond c (q ∷ operands_in rows) (operands_in rows)) e

in_base : (q : Row) (rows : List Row) (b : Bool) → is_operand q ≡ b → base_among (q ∷ rows) ≡ cond (not b) (q ∷ base_among rows) (base_among rows)
in_base q rows b e = ap (λ c. cond (not c) (q ∷ base_among rows) (base_among rows)) e

module _ (rule : GroupRule) where
  -- The rows that join a group are the first of the later rows. They have the group's key and no greater
  -- sequence, and they are operands with at most one base after them.
  are_joined : (r : Row) (rows : List Row) → AllByRecursion (λ q. row_cmp r q ≡ Less) rows → AreJoined r rows (joining rule r rows)
  are_joined r [] before = record { after = []; all = refl; lower = tt; keys = tt; parts = refl; one = omega arith }
  are_joined r (q ∷ rows) before = by (same_group rule r.key r.expires q) refl (is_operand q) refl (are_joined r rows before.1)
    where
      alike : same_group rule r.key r.expires q ≡ true → r.key ≡ q.key
      alike e = (bytes_eq-Decides r.key q.key).0 (and_left (bytes_eq r.key q.key) _ e)

      by : (same : Bool) → same_group rule r.key r.expires q ≡ same → (operand : Bool) → is_operand q ≡ operand → AreJoined r rows (joining rule r rows)
          → AreJoined r (q ∷ rows) (if same then q ∷ (if operand then joining rule r rows else []) else [])
      by true e true is rest = record {
        after = rest.after;
        all = ap (λ (w : List Row). q ∷ w) rest.all;
        lower = (falls r q before.0 (alike e), rest.lower);
        keys = (alike e, rest.keys);
        parts =
            ap (λ (w : List Row). q ∷ w) rest.parts
            ∙ sym (ap (λ (w : List Row). w ++ base_among (q ∷ joining rule r rows)) (in_operands q (joining rule r rows) true is)
            ∙ ap (λ (w : List Row). (q ∷ operands_in (joining rule r rows)) ++ w) (in_base q (joining rule r rows) true is));
        one = subst (λ (w : List Row). length w ≤ 1) (sym (in_base q (joining rule r rows) true is)) rest.one;
      }
      by true e false is rest = record {
        after = rows;
        all = refl;
        lower = (falls r q before.0 (alike e), tt);
        keys = (alike e, tt);
        parts =
            sym (ap (λ (w : List Row). w ++ base_among (q ∷ [])) (in_operands q [] false is)
            ∙ in_base q [] false is);
        one = subst (λ (w : List Row). length w ≤ 1) (sym (in_base q [] false is)) (omega arith);
      }
      by false e operand is rest = record { after = q ∷ rows; all = refl; lower = tt; keys = tt; parts = refl; one = omega arith }

-- ---- batches

abbrev AreFilled : List (List Row) → Type 0
AreFilled bs = AllByRecursion (λ b. b ≢ []) bs

cons_filled : {A : Type 0} (x : A) (xs : List A) → x ∷ xs ≢ []
cons_filled x xs is = absurd (cc is)

put_filled : (full : Bool) (x : Row) (bs : List (List Row)) → AreFilled bs → AreFilled (put_first full x bs)
put_filled true x bs h = (cons_filled x [], h)
put_filled false x [] h = (cons_filled x [], tt)
put_filled false x (b ∷ bs) h = (cons_filled x b, h.1)

from_filled : (n standing : ℕ) (xs : List Row) → AreFilled (batches_from n standing xs)
from_filled n standing [] = tt
from_filled n standing (x ∷ xs) =
    let full : Bool = nat_le n (standing + 1) in
    put_filled full x (batches_from n (if full then 0 else standing + 1) xs) (from_filled n (if full then 0 else standing + 1) xs)

put_some : (full : Bool) (x : Row) (bs : List (List Row)) → put_first full x bs ≢ []
put_some true x bs = cons_filled (x ∷ []) bs
put_some false x [] = cons_filled (x ∷ []) []
put_some false x (b ∷ bs) = cons_filled (x ∷ b) bs

batches_some : (n : ℕ) (x : Row) (xs : List Row) → batches n (x ∷ xs) ≢ []
batches_some n x xs =
    let full : Bool = nat_le n (0 + 1) in
    put_some full x (batches_from n (if full then 0 else 0 + 1) xs)

-- There are as many results as batches, so there are some.
results_some : {A : Type 0} (answers : List (Result A SlateDBError)) (results : List A) → answers ≢ [] → all_answers answers ≡ Ok results → results ≢ []
results_some [] results some is = absurd (some refl)
results_some {A} (a ∷ answers) results some is = by a (all_answers answers) is
  where
    by : (a : Result A SlateDBError) (others : Result (List A) SlateDBError) → one_more a others ≡ Ok results → results ≢ []
    by (Err e) others is = absurd (cc is)
    by (Ok x) (Err e) is = absurd (cc is)
    by (Ok x) (Ok xs) is = λ none. let same : x ∷ xs ≡ results = cc in cons_filled x xs (same ∙ none)

-- ---- a fold that refuses

module _ (merge : Operator) (key : List ℕ) where
  -- What an error is if it is the answer of a fold: the operator's refusal.
  abbrev IsRefusal : Option Outcome → SlateDBError → Type 0
  IsRefusal o e = (message : List ℕ) × (e ≡ MergeOperator (Callback message)) × (o ≡ Some (Refused message))

  answer_refused : (o : Option Outcome) (e : SlateDBError) → o ≢ None → answer_of o ≡ Err e → IsRefusal o e
  answer_refused None e some is = absurd (some refl)
  answer_refused (Some (Merged bytes)) e some is = absurd (cc is)
  answer_refused (Some (Refused message)) e some is = let same : MergeOperator (Callback message) ≡ e = cc in (message, sym same, refl)

  answer_merged : (o : Option Outcome) (bytes : List ℕ) → answer_of o ≡ Ok bytes → o ≡ Some (Merged bytes)
  answer_merged None bytes is = absurd (cc is)
  answer_merged (Some (Merged found)) bytes is = let same : found ≡ bytes = cc in ap (λ (b : List ℕ). Some (Merged b)) same
  answer_merged (Some (Refused message)) bytes is = absurd (cc is)

  -- A fold of at least one operand has an outcome.
  snoc_some : (e : Option (List ℕ)) (xs : List (List ℕ)) (y : List ℕ) → fold_bytes merge key e (xs ++ y ∷ []) ≢ None
  snoc_some e xs y none =
      let clash : ◌≡◌ {A = Option Outcome} (Some (merge_one merge key (fold_bytes merge key e xs) (Merged y))) None = sym (fold_bytes-snoc merge key e xs y) ∙ none in
      cc clash

  operand_some : (c : Content) (older : List (List ℕ)) → is_merge c ≡ true → fold_bytes merge key None (with_group_operand c older) ≢ None
  operand_some (Value bytes) older h = absurd (cc h)
  operand_some (Merge bytes) older h = snoc_some None older bytes
  operand_some Tombstone older h = absurd (cc h)

  batch_some : (b : List Row) → b ≢ [] → AllByRecursion (λ r. is_operand r ≡ true) b → fold_bytes merge key None (group_operands b) ≢ None
  batch_some [] filled operands = absurd (filled refl)
  batch_some (r ∷ b) filled operands = operand_some r.content (group_operands b) operands.0

  back_some : (e : Option (List ℕ)) (results : List (List ℕ)) → results ≢ [] → fold_bytes merge key e (reverse results) ≢ None
  back_some e [] some = absurd (some refl)
  back_some e (x ∷ results) some = λ none. snoc_some e (reverse results) x (ap (fold_bytes merge key e) (sym (reverse-append (x ∷ []) results)) ∙ none)

-- ---- a group

module _ (merge : Operator) (first : Row) where
  abbrev outcome : List Row → Option Outcome
  outcome b = fold_bytes merge first.key None (group_operands b)

  abbrev InBatch : List (List Row) → SlateDBError → Type 0
  InBatch bs e = (message : List ℕ) × (e ≡ MergeOperator (Callback message)) × Contains (map outcome bs) (Some (Refused message))

  abbrev InGroup : List Row → List Row → SlateDBError → Type 0
  InGroup operands base e = (message : List ℕ) × (e ≡ MergeOperator (Callback message)) × (Contains (batch_outcomes merge first.key operands) (Some (Refused message)) ⊎ RefusesResults merge first.key message operands base)

  batch_refused : (b : List Row) (e : SlateDBError) → b ≢ [] → AllByRecursion (UpTo first.seq) b → AllByRecursion (λ r. is_operand r ≡ true) b → batch_answer merge first b ≡ Err e → IsRefusal merge first.key (outcome b) e
  batch_refused b e filled lower operands is =
      answer_refused merge first.key (outcome b) e (batch_some merge first.key b filled operands) (sym (ordered first.seq b (answer_of (outcome b)) lower) ∙ is)

  -- If the merge of some batches is refused, the operator refuses one of the batches.
  batches_refused : (bs : List (List Row)) (e : SlateDBError) → AreFilled bs → AllIn (UpTo first.seq) bs → AllIn (λ r. is_operand r ≡ true) bs → all_answers (map (batch_answer merge first) bs) ≡ Err e → InBatch bs e
  batches_refused [] e filled lower operands is = absurd (cc is)
  batches_refused (b ∷ bs) e filled lower operands is =
      by (batch_answer merge first b) (all_answers (map (batch_answer merge first) bs)) (batch_refused b e filled.0 lower.0 operands.0) (batches_refused bs e filled.1 lower.1 operands.1) is
    where
      here : IsRefusal merge first.key (outcome b) e → InBatch (b ∷ bs) e
      here (message, same, is) =
          let stands : Contains (outcome b ∷ []) (Some (Refused message)) = subst (λ (o : Option Outcome). Contains (outcome b ∷ []) o) is (Contains-push [] (outcome b)) in
          (message, same, Contains-append_left (outcome b ∷ []) (map outcome bs) (Some (Refused message)) stands)

      later : InBatch bs e → InBatch (b ∷ bs) e
      later (message, same, stands) = (message, same, Contains-append_right (outcome b ∷ []) (map outcome bs) (Some (Refused message)) stands)

      by : (answer : Result (List ℕ) SlateDBError) (others : Result (List (List ℕ)) SlateDBError) → (answer ≡ Err e → IsRefusal merge first.key (outcome b) e) → (others ≡ Err e → InBatch bs e)
          → one_more answer others ≡ Err e → InBatch (b ∷ bs) e
      by (Err x) others first_is rest_is is = let same : x ≡ e = cc in here (first_is (ap Err same))
      by (Ok bytes) (Err x) first_is rest_is is = let same : x ≡ e = cc in later (rest_is (ap Err same))
      by (Ok bytes) (Ok results) first_is rest_is is = absurd (cc is)

  -- If some batches are merged, the operator's outcome for each batch is its result.
  batches_merged : (bs : List (List Row)) (results : List (List ℕ)) → AllIn (UpTo first.seq) bs → all_answers (map (batch_answer merge first) bs) ≡ Ok results → map outcome bs ≡ map (λ bytes. Some (Merged bytes)) results
  batches_merged [] results lower is = let same : [] ≡ results = cc in ap (map (λ bytes. Some (Merged bytes))) same
  batches_merged (b ∷ bs) results lower is =
      by (batch_answer merge first b) refl (all_answers (map (batch_answer merge first) bs)) (λ found. batches_merged bs found lower.1) is
    where
      by : (answer : Result (List ℕ) SlateDBError) → batch_answer merge first b ≡ answer → (others : Result (List (List ℕ)) SlateDBError)
          → ((found : List (List ℕ)) → others ≡ Ok found → map outcome bs ≡ map (λ bytes. Some (Merged bytes)) found)
          → one_more answer others ≡ Ok results → map outcome (b ∷ bs) ≡ map (λ bytes. Some (Merged bytes)) results
      by (Err x) answered others rest is = absurd (cc is)
      by (Ok bytes) answered (Err x) rest is = absurd (cc is)
      by (Ok bytes) answered (Ok found) rest is =
          let same : bytes ∷ found ≡ results = cc in
          let merged = answer_merged merge first.key (outcome b) bytes (sym (ordered first.seq b (answer_of (outcome b)) lower.0) ∙ answered) in
          ap (λ (o : Option Outcome). o ∷ map outcome bs) merged
          ∙ (ap (λ (os : List (Option Outcome)). Some (Merged bytes) ∷ os) (rest found refl)
          ∙ ap (map (λ bytes. Some (Merged bytes))) same)

  mapped_some : (bs : List (List Row)) → bs ≢ [] → map (batch_answer merge first) bs ≢ []
  mapped_some [] some = absurd (some refl)
  mapped_some (b ∷ bs) some = cons_filled (batch_answer merge first b) (map (batch_answer merge first) bs)

  -- If a fold over the base is refused, the operator refuses one of the batches or the fold of their
  -- results.
  results_refused : (operands base : List Row) (answers : Result (List (List ℕ)) SlateDBError) (e : SlateDBError) → AllByRecursion (UpTo first.seq) base
      → (answers ≡ Err e → InBatch (batches batch_len operands) e)
      → ((results : List (List ℕ)) → answers ≡ Ok results → (results ≢ []) × (batch_outcomes merge first.key operands ≡ map (λ bytes. Some (Merged bytes)) results))
      → over_base merge first base answers ≡ Err e → InGroup operands base e
  results_refused operands base (Err x) e lower refused merged is =
      let same : x ≡ e = cc in
      let (message, stated, stands) = refused (ap Err same) in
      (message, stated, inl stands)
  results_refused operands base (Ok results) e lower refused merged is =
      let (some, all) = merged results refl in
      let under : Option (List ℕ) = base_bytes (group_base base) in
      let o = fold_bytes merge first.key under (reverse results) in
      let (message, stated, refusing) = answer_refused merge first.key o e (back_some merge first.key under results some) (sym (ordered first.seq base (answer_of o) lower) ∙ is) in
      (message, stated, inr (record { results = results; merged = all; refused = refusing }))

  -- If a group is refused, the operator refuses one of its batches or the fold of their results.
  group_refused : (others : List Row) (e : SlateDBError) → is_operand first ≡ true → AllByRecursion (UpTo first.seq) others → merged_group merge (first, others) ≡ Err e → InGroup (first ∷ operands_in others) (base_among others) e
  group_refused others e operand lower is =
      let operands : List Row = first ∷ operands_in others in
      let bs : List (List Row) = batches batch_len operands in
      let own : first.seq ≤ first.seq = omega arith in
      let all_lower : AllIn (UpTo first.seq) bs = batches_all (UpTo first.seq) batch_len operands (own, all_filter (UpTo first.seq) is_operand others lower) in
      results_refused operands (base_among others) (all_answers (map (batch_answer merge first) bs)) e
      (all_filter (UpTo first.seq) (λ r. not (is_operand r)) others lower)
      (batches_refused bs e (from_filled batch_len 0 operands) all_lower (batches_all (λ r. is_operand r ≡ true) batch_len operands (operand, passes is_operand others)))
      (λ results ok. (results_some (map (batch_answer merge first) bs) results (mapped_some bs (batches_some batch_len first (operands_in others))) ok, batches_merged bs results all_lower ok))
      (by (group_answer merge (first, others)) is)
    where
      by : (answer : Result (List ℕ) SlateDBError) → row_of_answer (first, others) answer ≡ Err e → answer ≡ Err e
      by (Ok bytes) h = absurd (cc h)
      by (Err x) h = let same : x ≡ e = cc in ap Err same

-- ---- group after group

-- If the first rows have a key, the rows of the key are these, followed by those of the key among the later
-- rows.
of_key_in_front : (key : List ℕ) (rows later : List Row) → AllByRecursion (λ q. key ≡ q.key) rows → rows_of_key key (rows ++ later) ≡ rows ++ rows_of_key key later
of_key_in_front key [] later all = refl
of_key_in_front key (q ∷ rows) later all =
    ap (λ b. cond b (q ∷ rows_of_key key (rows ++ later)) (rows_of_key key (rows ++ later))) ((bytes_eq-Decides key q.key).1 all.0)
    ∙ ap (λ (w : List Row). q ∷ w) (of_key_in_front key rows later all.1)

none_merged : (rows : List Row) → AllByRecursion (λ r. is_operand r ≡ false) (base_among rows)
none_merged rows = all_weaken (λ r. not (is_operand r) ≡ true) (λ r. is_operand r ≡ false) (λ r h. by (is_operand r) h) (base_among rows) (passes (λ r. not (is_operand r)) rows)
  where
    by : (b : Bool) → not b ≡ true → b ≡ false
    by true h = absurd (cc h)
    by false h = refl

module _ (merge : Operator) (rule : GroupRule) where
  -- If the group that the first row opens is refused, the operator refuses it with this error.
  refused_first : (r : Row) (rows : List Row) (e : SlateDBError) → is_operand r ≡ true → AreJoined r rows (joining rule r rows) → merged_group merge (r, joining rule r rows) ≡ Err e → IsOfOperator merge (r ∷ rows) e
  refused_first r rows e operand joined is =
      let others : List Row = joining rule r rows in
      let (message, same, refused) = group_refused merge r others e operand joined.lower is in
      let later : List Row = rows_of_key r.key joined.after in
      let front : rows_of_key r.key (r ∷ rows) ≡ r ∷ (others ++ later) =
      ap (λ (w : List Row). rows_of_key r.key (r ∷ w)) joined.all ∙ of_key_in_front r.key (r ∷ others) joined.after (refl, joined.keys) in
      record {
        message = message;
        same = same;
        key = r.key;
        operands = r ∷ operands_in others;
        base = base_among others;
        group = record {
          newer = [];
          older = later;
          run =
              front
              ∙ ap (λ (w : List Row). r ∷ w)
              (ap (λ (w : List Row). w ++ later) joined.parts ∙ append_assoc (operands_in others) (base_among others) later);
          merged = (operand, passes is_operand others);
          other = none_merged others;
          one = joined.one;
        };
        refused = refused;
      }

  refused_after : (r : Row) (rows : List Row) (e : SlateDBError) → IsOfOperator merge rows e → IsOfOperator merge (r ∷ rows) e
  refused_after r rows e h = record {
    message = h.message;
    same = h.same;
    key = h.key;
    operands = h.operands;
    base = h.base;
    group = by (bytes_eq h.key r.key);
    refused = h.refused;
  }
    where
      by : (b : Bool) → IsGroup (cond b (r ∷ rows_of_key h.key rows) (rows_of_key h.key rows)) h.operands h.base
      by true = record {
        newer = r ∷ h.group.newer;
        older = h.group.older;
        run = ap (λ (w : List Row). r ∷ w) h.group.run;
        merged = h.group.merged;
        other = h.group.other;
        one = h.group.one;
      }
      by false = h.group

  after_refused : (taken : ℕ) (rows : List Row) (e : SlateDBError) → IsStrictlyOrdered rows → (up_to_refusal (folded_after merge rule taken rows)).refusal ≡ Some e → IsOfOperator merge rows e
  unfolding IsStrictlySortedBy
  after_refused taken [] e sorted is = absurd (cc is)
  after_refused (suc taken) (r ∷ rows) e sorted is = refused_after r rows e (after_refused taken rows e sorted.1 is)
  after_refused zero (r ∷ rows) e sorted is =
      by (opens rule r) refl (after_refused (length (joining rule r rows)) rows e sorted.1) (after_refused 0 rows e sorted.1) is
    where
      first : (answer : Result Row SlateDBError) (later : Folded) → (answer ≡ Err e → IsOfOperator merge (r ∷ rows) e) → (later.refusal ≡ Some e → IsOfOperator merge rows e) → (before_refusal answer later).refusal ≡ Some e
          → IsOfOperator merge (r ∷ rows) e
      first (Err x) later here rest is = let same : x ≡ e = cc in here (ap Err same)
      first (Ok q) later here rest is = refused_after r rows e (rest is)

      by : (b : Bool) → opens rule r ≡ b → ((up_to_refusal (folded_after merge rule (length (joining rule r rows)) rows)).refusal ≡ Some e → IsOfOperator merge rows e)
          → ((up_to_refusal (folded_after merge rule 0 rows)).refusal ≡ Some e → IsOfOperator merge rows e)
          → (up_to_refusal (if b then merged_group merge (r, joining rule r rows) ∷ folded_after merge rule (length (joining rule r rows)) rows else Ok r ∷ folded_after merge rule 0 rows)).refusal ≡ Some e
          → IsOfOperator merge (r ∷ rows) e
      by true opened afterwards rest is =
          first (merged_group merge (r, joining rule r rows)) (up_to_refusal (folded_after merge rule (length (joining rule r rows)) rows))
          (λ refused. refused_first r rows e (and_left (is_operand r) (is_within rule.snapshot_barrier_seq r.seq) opened) (are_joined rule r rows sorted.0) refused)
          afterwards is
      by false closed afterwards rest is = refused_after r rows e (rest is)

pub refuses_by_operator : (merge : Operator) → RefusesByOperator merge
refuses_by_operator merge cut rows e sorted is = after_refused merge (job_rule cut) 0 rows e sorted is
