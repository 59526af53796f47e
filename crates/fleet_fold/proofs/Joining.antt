-- Rows that join a group, one after the other.
use Rattle.std.proofs.Common.{◌≡◌, ◌∙◌, sym, refl, ap, subst, ℕ, ℤ, List, [], ◌∷◌, ◌++◌, Bool, true, false, Option, Some, None}
use Rattle.std.specs.Prelude.{Result, if◌then◌else◌}
use Rattle.std.proofs.lemmas.List.{append_assoc, append-nil}
use Rattle.row_model.specs.Rows.{Row, is_operand}
use Rattle.row_model.specs.Fold.{Operator}
use Rattle.fleet_iter.specs.Iteration.{IteratorState, CanFail}
use Rattle.fleet_rows.specs.Row.{row_of}
use Rattle.fleet_rows.specs.declared.row.RowEntry.{RowEntry}
use Rattle.fleet_rows.specs.declared.errors.SlateDBError.{SlateDBError}
use Rattle.fleet_fold.specs.declared.group.Group.{Group}
use Rattle.fleet_fold.specs.declared.group.GroupRule.{GroupRule}
use Rattle.fleet_fold.specs.Folded.{joining, same_group, merged_group}
use Rattle.fleet_fold.specs.Groups.{Gathers, Joins, JoinsSoFar, Adds, RefusesAdd, RefusesGroup, RefusesReading, with_next}

module _ (rule : GroupRule) (first : Row) where
  joining_one : (q : Row) (rows : List Row) (joins operand : Bool) → same_group rule first.key first.expires q ≡ joins → is_operand q ≡ operand
      → joining rule first (q ∷ rows) ≡ (if joins then q ∷ (if operand then joining rule first rows else []) else [])
  joining_one q rows joins operand e o =
      ap (λ (b : Bool). if b then q ∷ (if is_operand q then joining rule first rows else []) else []) e
      ∙ ap (λ (b : Bool). if joins then q ∷ (if b then joining rule first rows else []) else []) o

  joining_none : (q : Row) (rows : List Row) → same_group rule first.key first.expires q ≡ false → joining rule first (q ∷ rows) ≡ []
  joining_none q rows e = ap (λ (b : Bool). if b then q ∷ (if is_operand q then joining rule first rows else []) else []) e

module _ (merge : Operator) (rule : GroupRule) (first : Row) (old : IteratorState) where
  -- No row after the first one was taken yet.
  pub joins_nothing : (g : Group) → Gathers merge first [] g → JoinsSoFar merge rule first old g old
  joins_nothing g h = record { taken = []; gathers = h; joined = refl; parts = refl }

  -- A row that is tested against the group is tested against the group's first row.
  own_test : (g : Group) (taken : List Row) (q : Row) (b : Bool) → Gathers merge first taken g → same_group rule g.key g.stamp q ≡ b → same_group rule first.key first.expires q ≡ b
  own_test g taken q b h is = ap (λ (k : List ℕ). same_group rule k first.expires q) (sym h.key) ∙ (ap (λ (s : Option ℤ). same_group rule g.key s q) (sym h.stamp) ∙ is)

  -- One more operand joins the group.
  pub joins_operand : (g more : Group) (s new : IteratorState) (row : RowEntry) → s ≡ record new { rows = row_of row ∷ new.rows } → same_group rule g.key g.stamp (row_of row) ≡ true → is_operand (row_of row) ≡ true
      → Adds merge g (row_of row) more → JoinsSoFar merge rule first old g s → JoinsSoFar merge rule first old more new
  joins_operand g more s new row next takes operand adds h =
      let q = row_of row in
      let own = own_test g h.taken q true h.gathers takes in
      record {
        taken = h.taken ++ q ∷ [];
        gathers = adds first h.taken h.gathers;
        joined = h.joined ∙ (ap (λ (t : IteratorState). h.taken ++ joining rule first t.rows) next
            ∙ (ap (λ (w : List Row). h.taken ++ w) (joining_one rule first q new.rows true true own operand) ∙ sym (append_assoc h.taken (q ∷ []) (joining rule first new.rows))));
        parts = h.parts ∙ (ap (λ (t : IteratorState). h.taken ++ t.rows) next ∙ sym (append_assoc h.taken (q ∷ []) new.rows));
      }

  -- The next row does not join the group.
  pub joins_no_more : (g : Group) (s new : IteratorState) (row : RowEntry) → s ≡ record new { rows = row_of row ∷ new.rows } → same_group rule g.key g.stamp (row_of row) ≡ false
      → JoinsSoFar merge rule first old g s → Joins merge rule first old None g (Some row) new
  joins_no_more g s new row next takes h =
      let q = row_of row in
      let joined = h.joined ∙ (ap (λ (t : IteratorState). h.taken ++ joining rule first t.rows) next ∙ ap (λ (w : List Row). h.taken ++ w) (joining_none rule first q new.rows (own_test g h.taken q false h.gathers takes))) in
      record {
        taken = h.taken;
        gathers = h.gathers;
        joined = joined;
        parts = h.parts ∙ (ap (λ (t : IteratorState). h.taken ++ t.rows) next ∙ ap (λ (w : List Row). w ++ (q ∷ new.rows)) (sym (joined ∙ append-nil h.taken)));
      }

  -- The next row joins the group as its base.
  pub joins_base : (g : Group) (s new : IteratorState) (row : RowEntry) → s ≡ record new { rows = row_of row ∷ new.rows } → same_group rule g.key g.stamp (row_of row) ≡ true → is_operand (row_of row) ≡ false
      → JoinsSoFar merge rule first old g s → Joins merge rule first old (Some row) g None new
  joins_base g s new row next takes plain h =
      let q = row_of row in
      let joined = h.joined ∙ (ap (λ (t : IteratorState). h.taken ++ joining rule first t.rows) next ∙ ap (λ (w : List Row). h.taken ++ w) (joining_one rule first q new.rows true false (own_test g h.taken q true h.gathers takes) plain)) in
      record {
        taken = h.taken;
        gathers = h.gathers;
        joined = joined;
        parts = h.parts ∙ (ap (λ (t : IteratorState). h.taken ++ t.rows) next ∙ (sym (append_assoc h.taken (q ∷ []) new.rows) ∙ ap (λ (w : List Row). w ++ new.rows) (sym joined)));
      }

  -- No row is left to join the group.
  pub joins_all : (g : Group) (s : IteratorState) → s.rows ≡ [] → JoinsSoFar merge rule first old g s → Joins merge rule first old None g None s
  joins_all g s none h =
      let joined = h.joined ∙ ap (λ (w : List Row). h.taken ++ joining rule first w) none in
      record { taken = h.taken; gathers = h.gathers; joined = joined; parts = h.parts ∙ ap (λ (w : List Row). w ++ s.rows) (sym (joined ∙ append-nil h.taken)) }

  -- The inner iterator failed while the group was read.
  pub refuses_read : (s : IteratorState) (new : IteratorState) (e : SlateDBError) → s.whole ≡ old.whole → new.failure ≡ Some e → CanFail s.whole e → RefusesGroup merge rule first old new e
  refuses_read s new e same failed h = record { read = λ _. subst (λ (w : Bool). CanFail w e) same h; handed = λ _ _. failed; merged = λ alive. let clash = sym failed ∙ alive in absurd (cc clash) }

  -- The group refused to take an operand.
  pub refuses_operand : (call : IteratorState) (g : Group) (s new : IteratorState) (row : RowEntry) (e : SlateDBError) → s ≡ record new { rows = row_of row ∷ new.rows } → same_group rule g.key g.stamp (row_of row) ≡ true → is_operand (row_of row) ≡ true → new.failure ≡ None
      → JoinsSoFar merge rule first old g s → RefusesAdd merge g (row_of row) e → RefusesReading (merged_group merge (first, joining rule first old.rows)) call new e
  refuses_operand call g s new row e next takes operand alive h refuses =
      let q = row_of row in
      let later = joining rule first new.rows in
      let joined : joining rule first old.rows ≡ h.taken ++ q ∷ later =
      h.joined ∙ (ap (λ (t : IteratorState). h.taken ++ joining rule first t.rows) next ∙ ap (λ (w : List Row). h.taken ++ w) (joining_one rule first q new.rows true true (own_test g h.taken q true h.gathers takes) operand)) in
      record {
        read = λ failed. absurd (failed alive);
        handed = λ failed. absurd (failed alive);
        merged = λ _ other. ap (λ (rows : List Row). merged_group merge (first, rows)) joined ∙ refuses first h.taken later h.gathers other;
      }

module _ (merge : Operator) (rule : GroupRule) (first : Row) where
  -- A row that is tested against the first row is tested against its group.
  group_test : (g : Group) (taken : List Row) (q : Row) (b : Bool) → Gathers merge first taken g → same_group rule first.key first.expires q ≡ b → same_group rule g.key g.stamp q ≡ b
  group_test g taken q b h is = ap (λ (k : List ℕ). same_group rule k g.stamp q) h.key ∙ (ap (λ (s : Option ℤ). same_group rule first.key s q) h.stamp ∙ is)

  module _ (second : RowEntry) (s : IteratorState) (g : Group) (gathers : Gathers merge first [] g) (takes : same_group rule first.key first.expires (row_of second) ≡ true) (operand : is_operand (row_of second) ≡ true) where
    -- The row after the first one joins as the second operand.
    pub joins_second : (more : Group) → Adds merge g (row_of second) more → JoinsSoFar merge rule first (with_next second s) more s
    joins_second more adds =
        joins_operand merge rule first (with_next second s) g more (with_next second s) s second refl (group_test g [] (row_of second) true gathers takes) operand adds
        (joins_nothing merge rule first (with_next second s) g gathers)

    pub refuses_second : (e : SlateDBError) → s.failure ≡ None → RefusesAdd merge g (row_of second) e → RefusesGroup merge rule first (with_next second s) s e
    refuses_second e alive refuses =
        refuses_operand merge rule first (with_next second s) (with_next second s) g (with_next second s) s second e refl (group_test g [] (row_of second) true gathers takes) operand alive
        (joins_nothing merge rule first (with_next second s) g gathers) refuses

-- What refuses a reading refuses it also if it begins with one row more.
pub refuses_from : {A : Type 0} (answer : Result A SlateDBError) (row : RowEntry) (s new : IteratorState) (e : SlateDBError) → RefusesReading answer s new e → RefusesReading answer (with_next row s) new e
refuses_from answer row s new e h = record { read = h.read; handed = h.handed; merged = h.merged }
