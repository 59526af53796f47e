-- A group whose operands fill no batch, and are merged in one call.
use Rattle.std.proofs.Common.{◌≡◌, ◌≢◌, ◌∙◌, sym, refl, ap, subst, ℕ, ℤ, ◌+◌, ◌≤◌, List, [], ◌∷◌, ◌++◌, map, reverse, length, Bool, true, false, Option, Some, None, Ok, Err, arith}
use Rattle.std.specs.Prelude.{Result, nat_le, if◌then◌else◌, option_map}
use Rattle.std.specs.Option.{option_or}
use Rattle.std.proofs.lemmas.List.{append-nil, reverse-reverse}
use Rattle.row_model.specs.Rows.{Row, Value, Merge, is_operand}
use Rattle.row_model.specs.Fold.{Operator, Outcome, Merged, Refused, IsLawful, merge_one, fold, fold_bytes}
use Rattle.row_model.specs.FoldedRows.{GroupBase, merged_content, group_base, group_operands, base_bytes, greatest_created, greater_stamp}
use Rattle.row_laws.specs.Batches.{put_first, batches, batches_from}
use Rattle.fleet_rows.specs.declared.errors.MergeOperatorError.TheVariants.{Callback}
use Rattle.fleet_rows.specs.declared.errors.SlateDBError.{SlateDBError}
use Rattle.fleet_rows.specs.declared.errors.SlateDBError.TheVariants.{MergeOperator}
use Rattle.fleet_fold.specs.declared.group.Group.{Group}
use Rattle.fleet_fold.specs.Folded.{above, last_above, in_order, answer_of, batch_answer, batch_len, lesser_stamp, least_expiry, group_answer, row_of_answer}
use Rattle.fleet_fold.specs.Groups.{Gathers, Notes, Closes, RefusesClose, with_value}
use Rattle.fleet_fold.proofs.AlikeGroups.{IsAlike, MergesAtOnce}
use Rattle.fleet_fold.proofs.GroupRows.{greatest-snoc, least-snoc, group_base-append, no_operand, own_base}
use Rattle.fleet_fold.proofs.GroupBatches.{one_batch}
use Rattle.fleet_fold.proofs.GroupCloses.{answer_over, same_row, over_a_base, in_order_is, in_order_not}

-- ---- operands that are folded from none first

module _ (merge : Operator) (lawful : IsLawful merge) (key : List ℕ) where
  stays_some : (o : Outcome) (xs : List Outcome) → fold merge key (Some o) xs ≢ None
  stays_some o [] none = cc none
  stays_some o (x ∷ xs) none = stays_some (merge_one merge key (Some o) x) xs none

  over_refused : (e : Option (List ℕ)) (message : List ℕ) → merge_one merge key (option_map Merged e) (Refused message) ≡ Refused message
  over_refused None message = refl
  over_refused (Some x) message = refl

  -- If operands merge over a value, they merge from none, and their result then merges over the value.
  pub one_first : (e : Option (List ℕ)) (y : List ℕ) (ys : List (List ℕ)) (bytes : List ℕ) → answer_of (fold_bytes merge key e (y ∷ ys)) ≡ Ok bytes
      → (b : List ℕ) × (answer_of (fold_bytes merge key None (y ∷ ys)) ≡ Ok b) × (answer_of (fold_bytes merge key e (b ∷ [])) ≡ Ok bytes)
  one_first e y ys bytes is = by (fold_bytes merge key None (y ∷ ys)) refl
    where
      by : (o : Option Outcome) → fold_bytes merge key None (y ∷ ys) ≡ o → (b : List ℕ) × (answer_of (fold_bytes merge key None (y ∷ ys)) ≡ Ok b) × (answer_of (fold_bytes merge key e (b ∷ [])) ≡ Ok bytes)
      by None none = absurd (stays_some (merge key None y) (map Merged ys) none)
      by (Some (Refused message)) one =
          let all = lawful.joins key e [] (y ∷ ys) (Refused message) one in
          let refused : answer_of (fold_bytes merge key e (y ∷ ys)) ≡ Err (MergeOperator (Callback message)) = ap answer_of (all ∙ ap (λ (o : Outcome). Some o) (over_refused e message)) in
          let clash : ◌≡◌ {A = Result (List ℕ) SlateDBError} (Ok bytes) (Err (MergeOperator (Callback message))) = sym is ∙ refused in
          absurd (cc clash)
      by (Some (Merged b)) one = (b, ap answer_of one, ap answer_of (sym (lawful.joins key e [] (y ∷ ys) (Merged b) one)) ∙ is)

-- ---- a group whose operands are one batch

put_some : (b : Bool) (x : Row) (rest : List (List Row)) → put_first b x rest ≢ []
put_some true x rest e = cc e
put_some false x [] e = cc e
put_some false x (batch ∷ rest) e = cc e

never_none : (n standing : ℕ) (x : Row) (xs : List Row) → batches_from n standing (x ∷ xs) ≡ [] → ⊥
never_none n standing x xs e = put_some (nat_le n (standing + 1)) x (batches_from n (if nat_le n (standing + 1) then 0 else standing + 1) xs) e

none_mapped : {A B : Type 0} (f : A → B) (xs : List A) → map f xs ≡ [] → xs ≡ []
none_mapped f [] e = refl
none_mapped f (x ∷ xs) e = absurd (cc e)

-- Some operands are the only batch of the group, and the operator folds them to the answer of that batch.
record IsOneBatch (merge : Operator) (first : Row) (taken : List Row) (g : Group) : Type 0 where
  pub oldest : List ℕ
  pub later : List (List ℕ)
  pub operands : reverse g.batch.items ≡ oldest ∷ later
  pub answers : map (batch_answer merge first) (batches batch_len (first ∷ taken)) ≡ answer_of (fold_bytes merge first.key None (oldest ∷ later)) ∷ []

module _ (merge : Operator) where
  is_one_batch : (first : Row) (taken : List Row) (g : Group) → Gathers merge first taken g → g.folded.items ≡ [] → g.late ≡ None → IsOneBatch merge first taken g
  is_one_batch first taken g h folded late = by h.pending refl
    where
      none_done : h.done ≡ []
      none_done = none_mapped (batch_answer merge first) h.done (h.folded ∙ ap (λ (w : List (List ℕ)). map Ok w) folded)

      cut : batches batch_len (first ∷ taken) ≡ batches batch_len h.pending
      cut = ap (λ (w : List Row). batches batch_len (first ∷ w)) (sym (append-nil taken))
          ∙ (h.cut [] ∙ (ap (λ (w : List Row). h.done ++ batches batch_len w) (append-nil h.pending) ∙ ap (λ (w : List (List Row)). w ++ batches batch_len h.pending) none_done))

      by : (pending : List Row) → h.pending ≡ pending → IsOneBatch merge first taken g
      by [] is = absurd (never_none batch_len 0 first taken (cut ∙ ap (batches batch_len) is))
      by (p ∷ pending) is = waiting (reverse g.batch.items) refl
        where
          fits : length (p ∷ pending) ≤ 99
          fits = subst (λ (w : List Row). length w ≤ 99) is h.room

          same : length g.batch.items ≡ length (p ∷ pending)
          same = h.count ∙ ap length is

          one : batches batch_len (first ∷ taken) ≡ (p ∷ pending) ∷ []
          one = cut ∙ (ap (batches batch_len) is ∙ one_batch batch_len 0 p pending (let n = fits in omega arith))

          ordered : last_above first.seq (p ∷ pending) ≡ None
          ordered = ap (last_above first.seq) (sym is) ∙ (sym h.late ∙ late)

          waiting : (operands : List (List ℕ)) → reverse g.batch.items ≡ operands → IsOneBatch merge first taken g
          waiting [] e =
              let gone : g.batch.items ≡ [] = sym (reverse-reverse g.batch.items) ∙ ap (λ (w : List (List ℕ)). reverse w) e in
              let none : length g.batch.items ≡ 0 = ap length gone in
              let clash : length (p ∷ pending) ≡ 0 = sym same ∙ none in
              absurd (cc clash)
          waiting (y ∷ ys) e = record {
            oldest = y;
            later = ys;
            operands = e;
            answers = ap (map (batch_answer merge first)) one
                ∙ (ap (λ (o : Option ℕ). in_order first.seq o (answer_of (fold_bytes merge first.key None (group_operands (p ∷ pending)))) ∷ []) ordered
                ∙ ap (λ (w : List (List ℕ)). answer_of (fold_bytes merge first.key None w) ∷ []) (ap group_operands (sym is) ∙ (sym h.batch ∙ e)));
          }

  -- A group that is like one that has gathered rows has gathered them too.
  pub alike_gathers : (old new : Group) → IsAlike old new → (first : Row) (taken : List Row) → Gathers merge first taken old → Gathers merge first taken new
  alike_gathers old new alike first taken h = record {
    key = alike.key ∙ h.key;
    seq = alike.seq ∙ h.seq;
    stamp = alike.stamp ∙ h.stamp;
    created = alike.created ∙ h.created;
    expires = alike.expires ∙ h.expires;
    operands = h.operands;
    done = h.done;
    pending = h.pending;
    plain = h.plain;
    cut = h.cut;
    folded = h.folded ∙ ap (λ (w : List (List ℕ)). map Ok w) (sym alike.folded);
    batch = ap (λ (w : List (List ℕ)). reverse w) alike.batch ∙ h.batch;
    count = ap length alike.batch ∙ h.count;
    late = alike.late ∙ h.late;
    room = h.room;
  }

  pub alike_closes : (old new : Group) (base : List Row) (r : Row) → IsAlike old new → Closes merge new base r → Closes merge old base r
  alike_closes old new base r alike closes first taken gathers = closes first taken (alike_gathers old new alike first taken gathers)

  pub alike_refuses : (old new : Group) (base : List Row) (e : SlateDBError) → IsAlike old new → RefusesClose merge new base e → RefusesClose merge old base e
  alike_refuses old new base e alike refuses first taken gathers = refuses first taken (alike_gathers old new alike first taken gathers)

-- ---- what such a group becomes

-- The only batch has a result, which merges to these bytes over the existing value.
record HasResult (merge : Operator) (existing : Option (List ℕ)) (bytes : List ℕ) (first : Row) (taken : List Row) : Type 0 where
  pub result : List ℕ
  pub merged : map (batch_answer merge first) (batches batch_len (first ∷ taken)) ≡ map Ok (result ∷ [])
  pub over : answer_of (fold_bytes merge first.key existing (result ∷ [])) ≡ Ok bytes

module _ (merge : Operator) (lawful : IsLawful merge) where
  has_result : (old : Group) (existing : Option (List ℕ)) (bytes : List ℕ) → MergesAtOnce merge old existing bytes → (first : Row) (taken : List Row) → Gathers merge first taken old → HasResult merge existing bytes first taken
  has_result old existing bytes once first taken h =
      let one = is_one_batch merge first taken old h once.folded once.late in
      let all : answer_of (fold_bytes merge first.key existing (one.oldest ∷ one.later)) ≡ Ok bytes =
      ap (λ (w : List (List ℕ)). answer_of (fold_bytes merge first.key existing w)) (sym one.operands)
      ∙ (ap (λ (k : List ℕ). answer_of (fold_bytes merge k existing (reverse old.batch.items))) (sym h.key) ∙ once.answer) in
      let (b, first_is, over) = one_first merge lawful first.key existing one.oldest one.later bytes all in
      record { result = b; merged = one.answers ∙ ap (λ (a : Result (List ℕ) SlateDBError). a ∷ []) first_is; over = over }

  -- A group without a base becomes its row.
  pub closes_alone_at_once : (old g : Group) (bytes : List ℕ) → IsAlike old g → MergesAtOnce merge old None bytes → Closes merge old [] (with_value g (Merge bytes))
  closes_alone_at_once old g bytes alike once first taken h =
      let one = has_result old None bytes once first taken h in
      ap (row_of_answer (first, taken ++ [])) (answer_over merge first taken [] (one.result ∷ []) h.operands one.merged refl refl ∙ one.over)
      ∙ ap Ok (same_row (merged_content (group_base (taken ++ [])) bytes) (Merge bytes) first.key g.key first.seq g.seq _ g.created _ g.expires
      (ap (λ (o : GroupBase). merged_content o bytes) (group_base-append taken [] h.operands.1))
      (sym (alike.key ∙ h.key)) (sym (alike.seq ∙ h.seq))
      (ap (λ (w : List Row). greatest_created (first ∷ w)) (append-nil taken) ∙ sym (alike.created ∙ h.created))
      (ap (λ (w : List Row). least_expiry (first ∷ w)) (append-nil taken) ∙ sym (alike.expires ∙ h.expires)))

  or_none : (a : Option ℕ) → option_or a None ≡ a
  or_none None = refl
  or_none (Some a) = refl

  -- The answer of a group is the fold over the base, which was noted.
  noted_at_once : (old g noted : Group) (r : Row) (bytes : List ℕ) → IsAlike old g → MergesAtOnce merge old (base_bytes (group_base (r ∷ []))) bytes → Notes g r noted → is_operand r ≡ false → (first : Row) (taken : List Row) → Gathers merge first taken old
      → group_answer merge (first, taken ++ r ∷ []) ≡ in_order noted.seq noted.late (Ok bytes)
  noted_at_once old g noted r bytes alike once notes plain first taken h =
      let one = has_result old (base_bytes (group_base (r ∷ []))) bytes once first taken h in
      let late : noted.late ≡ above first.seq r =
      notes.late ∙ (ap (option_or (above g.seq r)) (alike.late ∙ once.late) ∙ (or_none (above g.seq r) ∙ ap (λ (n : ℕ). above n r) (alike.seq ∙ h.seq))) in
      answer_over merge first taken (r ∷ []) (one.result ∷ []) h.operands one.merged (no_operand r plain) (own_base r plain)
      ∙ (ap (λ (a : Result (List ℕ) SlateDBError). in_order first.seq (above first.seq r) a) one.over
      ∙ (ap (λ (o : Option ℕ). in_order {A = List ℕ} first.seq o (Ok bytes)) (sym late)
      ∙ ap (λ (n : ℕ). in_order {A = List ℕ} n noted.late (Ok bytes)) (sym (notes.seq ∙ (alike.seq ∙ h.seq)))))

  -- A group over its base becomes its row.
  pub closes_over_at_once : (old g noted : Group) (r : Row) (bytes : List ℕ) → IsAlike old g → MergesAtOnce merge old (base_bytes (group_base (r ∷ []))) bytes → Notes g r noted → in_order {A = Unit {0}} noted.seq noted.late (Ok tt) ≡ Ok tt → is_operand r ≡ false
      → Closes merge old (r ∷ []) (with_value noted (Value bytes))
  closes_over_at_once old g noted r bytes alike once notes checked plain first taken h =
      ap (row_of_answer (first, taken ++ r ∷ [])) (noted_at_once old g noted r bytes alike once notes plain first taken h ∙ in_order_is merge noted.seq noted.late (Ok bytes) checked)
      ∙ ap Ok (same_row (merged_content (group_base (taken ++ r ∷ [])) bytes) (Value bytes) first.key noted.key first.seq noted.seq _ noted.created _ noted.expires
      (ap (λ (o : GroupBase). merged_content o bytes) (group_base-append taken (r ∷ []) h.operands.1) ∙ over_a_base r.content bytes plain)
      (sym (notes.key ∙ (alike.key ∙ h.key))) (sym (notes.seq ∙ (alike.seq ∙ h.seq)))
      (greatest-snoc (first ∷ taken) r ∙ sym (notes.created ∙ ap (λ (w : Option ℤ). greater_stamp w r.created) (alike.created ∙ h.created)))
      (least-snoc (first ∷ taken) r ∙ sym (notes.expires ∙ ap (λ (w : Option ℤ). lesser_stamp w r.expires) (alike.expires ∙ h.expires))))

  -- A base with a sequence above that of the first row refuses the group.
  pub refuses_base_at_once : (old g noted : Group) (r : Row) (bytes : List ℕ) (e : SlateDBError) → IsAlike old g → MergesAtOnce merge old (base_bytes (group_base (r ∷ []))) bytes → Notes g r noted → is_operand r ≡ false → in_order {A = Unit {0}} noted.seq noted.late (Ok tt) ≡ Err e → RefusesClose merge old (r ∷ []) e
  refuses_base_at_once old g noted r bytes e alike once notes plain checked first taken h other =
      ap (row_of_answer (first, taken ++ r ∷ [])) (noted_at_once old g noted r bytes alike once notes plain first taken h ∙ in_order_not merge noted.seq noted.late (Ok bytes) e checked)
