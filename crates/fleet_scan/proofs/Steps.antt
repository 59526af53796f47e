-- What the steps of a scan do to the rows left and to their answers.
use Rattle.std.proofs.Common.{◌≡◌, refl, sym, ◌∙◌, ap, subst, ℕ, ◌<◌, List, [], ◌∷◌, ◌++◌, cond, length, Bool, true, false, Option, Some, None, length-append, arith}
use Rattle.std.specs.Prelude.{option_map, reverse, bytes_eq, Ok, not, ◌&&◌, if◌then◌else◌}
use Rattle.std.specs.List.{cons_option}
use Rattle.std.specs.List.Sorted.{IsStrictlySortedBy}
use Rattle.std.proofs.lemmas.List.{append_assoc}
use Rattle.row_model.specs.Fold.{Operator, Outcome, fold_bytes}
use Rattle.row_model.specs.Rows.{Row, IsStrictlyOrdered}
use Rattle.row_laws.proofs.Elements.{all_append}
use Rattle.fleet_iter.specs.Iteration.{IteratorState, without_first}
use Rattle.fleet_iter.specs.Merge.{SkipsKey, begins_with, has_key}
use Rattle.fleet_rows.specs.Row.{row_of}
use Rattle.fleet_rows.specs.declared.row.RowEntry.{RowEntry}
use Rattle.fleet_scan.specs.Answers.{answers_of, BeginsApart, HaveKey}
use Rattle.fleet_scan.specs.Answered.{pair_of, Takes}
use Rattle.fleet_scan.specs.KeyRows.{read_parts, base_of, base_over, is_hiding, operands_under, parts_with, IsBegun}
use Rattle.fleet_scan.specs.ScanState.{scanning}
use Rattle.fleet_scan.specs.Walk.{IsReading, TakesFirst, TakesRow, TakesSoFar, TakesKey, GivesKey, Gives, takes_more}
use Rattle.fleet_scan.specs.declared.answer.KeyAnswer.{KeyAnswer}
use Rattle.fleet_scan.specs.declared.key_rows.Ground.{Ground}
use Rattle.fleet_scan.specs.declared.key_rows.Ground.TheVariants as ground
use Rattle.fleet_scan.specs.declared.key_rows.KeyRows.{KeyRows}
use Rattle.fleet_scan.specs.declared.key_rows.ReadPoint.{ReadPoint}
use Rattle.fleet_scan.proofs.KeyByKey.{answers-first}
use Rattle.fleet_scan.proofs.Keys.{ordered_back}
use Rattle.fleet_scan.proofs.KeyTaken.{hidden}

-- ---- an iterator whose rows are read

pub reads_next : (s new : IteratorState) (rows : List Row) → s ≡ record new { rows = rows } → IsReading s → IsReading new
reads_next s new rows is h = record {
  readable = (sym (ap (λ (t : IteratorState). t.failure) is) ∙ h.readable.0, sym (ap (λ (t : IteratorState). t.initialised) is) ∙ h.readable.1);
  whole = sym (ap (λ (t : IteratorState). t.whole) is) ∙ h.whole;
}

-- ---- the rows of a key

both : (a b : Bool) → a && b ≡ true → b ≡ true
both true b h = h
both false b h = absurd (cc h)

begins : (taken : KeyRows) (rows : List Row) → takes_more taken rows ≡ true → begins_with taken.key rows ≡ true
begins taken rows is = both (not (is_hiding taken.ground)) (begins_with taken.key rows) is

pub takes_none : (point : ReadPoint) (taken : KeyRows) (old : IteratorState) → TakesSoFar point taken old taken old
takes_none point taken old = record { here = []; rows = refl; of_key = tt; key = refl; parts = λ later. refl }

pub takes_one : (point : ReadPoint) (taken more all : KeyRows) (old s new : IteratorState) → takes_more more s.rows ≡ true → TakesSoFar point taken old more s → TakesRow point more s all new → TakesSoFar point taken old all new
takes_one point taken more all old s new is h t = record {
  here = h.here ++ t.row ∷ [];
  rows = h.rows ∙ ap (λ (w : List Row). h.here ++ w) t.rows ∙ sym (append_assoc h.here (t.row ∷ []) new.rows);
  of_key = all_append (λ (r : Row). bytes_eq taken.key r.key ≡ true) h.here (t.row ∷ []) h.of_key (ap (λ k. bytes_eq k t.row.key) (sym h.key) ∙ (ap (begins_with more.key) (sym t.rows) ∙ begins more s.rows is), tt);
  key = t.adds.key ∙ h.key;
  parts = λ later. t.adds.parts later ∙ h.parts (t.row ∷ later) ∙ ap (parts_with point taken) (sym (append_assoc h.here (t.row ∷ []) later));
}

pub takes_fewer : (point : ReadPoint) (more all : KeyRows) (s new : IteratorState) → TakesRow point more s all new → length new.rows < length s.rows
takes_fewer point more all s new t = let long : length s.rows ≡ length (t.row ∷ new.rows) = ap length t.rows in omega (arith, long)

-- The first rows of a key, and the rows after them.
abbrev first_of : List ℕ → List Row → List Row
first_of key [] = []
first_of key (r ∷ rows) = if has_key key r then r ∷ first_of key rows else []

split : (key : List ℕ) (rows : List Row) → rows ≡ first_of key rows ++ without_first (has_key key) rows
split key [] = refl
split key (r ∷ rows) = by (has_key key r) (split key rows)
  where
    by : (b : Bool) → rows ≡ first_of key rows ++ without_first (has_key key) rows → r ∷ rows ≡ cond b (r ∷ first_of key rows) [] ++ cond b (without_first (has_key key) rows) (r ∷ rows)
    by true rest = ap (λ (w : List Row). r ∷ w) rest
    by false rest = refl

first_have : (key : List ℕ) (rows : List Row) → HaveKey key (first_of key rows)
first_have key [] = tt
first_have key (r ∷ rows) = by (has_key key r) refl (first_have key rows)
  where
    by : (b : Bool) → has_key key r ≡ b → HaveKey key (first_of key rows) → HaveKey key (cond b (r ∷ first_of key rows) [])
    by true is rest = (is, rest)
    by false is rest = tt

begins_apart : (key : List ℕ) (rows : List Row) → BeginsApart key (without_first (has_key key) rows)
begins_apart key [] = tt
begins_apart key (r ∷ rows) = by (has_key key r) refl (begins_apart key rows)
  where
    by : (b : Bool) → has_key key r ≡ b → BeginsApart key (without_first (has_key key) rows) → BeginsApart key (cond b (without_first (has_key key) rows) (r ∷ rows))
    by true is rest = rest
    by false is rest = is

none_first : (key : List ℕ) (rows : List Row) → begins_with key rows ≡ false → first_of key rows ≡ []
none_first key [] is = refl
none_first key (r ∷ rows) is = ap (λ b. cond b (r ∷ first_of key rows) []) is

-- The rows that are dropped change nothing of what a read finds.
rest_hidden : (point : ReadPoint) (taken : KeyRows) (rows : List Row) → takes_more taken rows ≡ false → parts_with point taken [] ≡ parts_with point taken (first_of taken.key rows)
rest_hidden point taken rows is = by (is_hiding taken.ground) refl
  where
    by : (b : Bool) → is_hiding taken.ground ≡ b → parts_with point taken [] ≡ parts_with point taken (first_of taken.key rows)
    by true hides = hidden point taken [] (first_of taken.key rows) hides
    by false open_ = ap (parts_with point taken) (sym (none_first taken.key rows (ap (λ b. not b && begins_with taken.key rows) (sym open_) ∙ is)))

-- Once no more row is taken, the other rows of the key are dropped.
pub takes_rest : (point : ReadPoint) (taken all : KeyRows) (old s new : IteratorState) → takes_more all s.rows ≡ false → IsReading s → TakesSoFar point taken old all s → SkipsKey all.key s new (Ok tt) → TakesKey point taken old all new
takes_rest point taken all old s new is reading h skips =
    let left : new ≡ record s { rows = without_first (has_key all.key) s.rows } = skips.answers reading.readable.0 reading.readable.1 in
    let rows : new.rows ≡ without_first (has_key all.key) s.rows = ap (λ (t : IteratorState). t.rows) left in
    let dropped = first_of all.key s.rows in
    record {
      here = h.here ++ dropped;
      rows = h.rows ∙ (ap (λ (w : List Row). h.here ++ w) (split all.key s.rows ∙ ap (λ (w : List Row). dropped ++ w) (sym rows)) ∙ sym (append_assoc h.here dropped new.rows));
      of_key = all_append (λ (r : Row). bytes_eq taken.key r.key ≡ true) h.here dropped h.of_key (subst (λ (key : List ℕ). HaveKey key dropped) h.key (first_have all.key s.rows));
      ended = subst (λ (key : List ℕ). BeginsApart key new.rows) h.key (subst (BeginsApart all.key) (sym rows) (begins_apart all.key s.rows));
      key = h.key;
      parts = rest_hidden point all s.rows is ∙ h.parts dropped;
      reading = record {
        readable = (ap (λ (t : IteratorState). t.failure) left ∙ reading.readable.0, ap (λ (t : IteratorState). t.initialised) left ∙ reading.readable.1);
        whole = ap (λ (t : IteratorState). t.whole) left ∙ reading.whole;
      };
    }

-- ---- the answer of a key

all_parts : (point : ReadPoint) (all : KeyRows) → ◌≡◌ {A = Option (List ℕ) × List (List ℕ)} (parts_with point all []) (base_of all.ground, reverse all.operands.items)
all_parts point all = by all.ground
  where
    by : (g : Ground) → ◌≡◌ {A = Option (List ℕ) × List (List ℕ)} (base_over g None, operands_under g [] ++ reverse all.operands.items) (base_of g, reverse all.operands.items)
    by ground.Older = refl
    by (ground.Value bytes) = refl
    by ground.Nothing = refl

module _ (merge : Operator) (point : ReadPoint) (first : Row) (taken all : KeyRows) (old new : IteratorState) (begun : IsBegun point first taken) (takes : TakesKey point taken old all new) (ordered : IsStrictlyOrdered (first ∷ old.rows)) where
  abbrev rest : List Row
  rest = new.rows

  ordered_parts : IsStrictlyOrdered (first ∷ (takes.here ++ rest))
  ordered_parts = subst (λ (w : List Row). IsStrictlyOrdered (first ∷ w)) takes.rows ordered

  parts : ◌≡◌ {A = Option (List ℕ) × List (List ℕ)} (base_of all.ground, reverse all.operands.items) (read_parts point (first ∷ takes.here))
  parts = sym (all_parts point all) ∙ takes.parts ∙ begun.parts takes.here

  abbrev folded : List ℕ → Option (List ℕ) × List (List ℕ) → Option (List ℕ × Outcome)
  folded key pair = option_map (λ outcome. (key, outcome)) (fold_bytes merge key pair.0 pair.1)

  own : folded all.key (base_of all.ground, reverse all.operands.items) ≡ folded first.key (read_parts point (first ∷ takes.here))
  own = ap (folded all.key) parts ∙ ap (λ key. folded key (read_parts point (first ∷ takes.here))) (takes.key ∙ begun.key)

  -- The answer of the first key is that of a read of its rows.
  pub gives_key : (answer : Option (List ℕ × Outcome)) → answer ≡ folded all.key (base_of all.ground, reverse all.operands.items) → GivesKey merge point (first ∷ old.rows) answer new
  gives_key answer is = record {
    answers = ap (λ (w : List Row). answers_of merge point.seq point.moment (first ∷ w)) takes.rows
        ∙ answers-first merge point.seq point.moment first takes.here rest ordered_parts (subst (λ (key : List ℕ). HaveKey key takes.here) begun.key takes.of_key) (subst (λ (key : List ℕ). BeginsApart key rest) begun.key takes.ended)
        ∙ ap (λ o. cons_option o (answers_of merge point.seq point.moment rest)) (sym (is ∙ own));
    ordered = ordered_back (first ∷ takes.here) rest ordered_parts;
    fewer = fewer_left;
    reading = takes.reading;
  }
    where
      fewer_left : length rest < length (first ∷ old.rows)
      fewer_left = let parts : length old.rows ≡ length (takes.here ++ rest) = ap length takes.rows in omega (arith, length-append takes.here rest)

-- ---- key after key

pub first_ordered : (s new : IteratorState) (first : RowEntry) → TakesFirst s (Some first) new → IsStrictlyOrdered s.rows → IsStrictlyOrdered (row_of first ∷ new.rows)
first_ordered s new first takes ordered = subst IsStrictlyOrdered takes.rows ordered

pub fewer_rows : (merge : Operator) (point : ReadPoint) (s t new : IteratorState) (first : RowEntry) (answer : Option (List ℕ × Outcome)) → TakesFirst s (Some first) t
    → GivesKey merge point (row_of first ∷ t.rows) answer new → length new.rows < length s.rows
fewer_rows merge point s t new first answer takes gives = subst (λ (w : List Row). length new.rows < length w) (sym takes.rows) gives.fewer

nothing_ordered : IsStrictlyOrdered []
unfolding IsStrictlySortedBy
nothing_ordered = tt

module _ (merge : Operator) (point : ReadPoint) where
  abbrev answers : List Row → List (List ℕ × Outcome)
  answers rows = answers_of merge point.seq point.moment rows

  -- The answers so far are those of the rows left, and so they are after one more key.
  pub next_key : (rows : List Row) (s t new : IteratorState) (first : RowEntry) (answer : Option (List ℕ × Outcome)) → answers rows ≡ answers s.rows
      → TakesFirst s (Some first) t → GivesKey merge point (row_of first ∷ t.rows) answer new → answers rows ≡ cons_option answer (answers new.rows)
  next_key rows s t new first answer same takes gives = same ∙ ap answers takes.rows ∙ gives.answers

  pub next_gives : (rows : List Row) (s t new : IteratorState) (first : RowEntry) (answer : Option (List ℕ × Outcome)) → answers rows ≡ answers s.rows
      → TakesFirst s (Some first) t → GivesKey merge point (row_of first ∷ t.rows) answer new → (answer ≡ None → ⊥) → Gives merge point rows answer new
  next_gives rows s t new first answer same takes gives some = record {
    answers = next_key rows s t new first answer same takes gives;
    ordered = gives.ordered;
    ends = λ e. absurd (some e);
    reading = gives.reading;
  }

  pub ends_gives : (rows : List Row) (s new : IteratorState) → answers rows ≡ answers s.rows → TakesFirst s None new → Gives merge point rows None new
  ends_gives rows s new same takes =
      let left : new.rows ≡ [] = takes.ends refl in
      record {
        answers = same ∙ ap answers (takes.rows ∙ left) ∙ sym (ap answers left);
        ordered = subst IsStrictlyOrdered (sym left) nothing_ordered;
        ends = λ e. left;
        reading = takes.reading;
      }

  -- What a call gives is the first answer left.
  pub takes_answer : (old new : IteratorState) (answer : Option KeyAnswer) → Gives merge point old.rows (option_map pair_of answer) new
      → Takes (scanning merge point old false) (scanning merge point new false) (Ok answer)
  takes_answer old new None gives =
      let left : new.rows ≡ [] = gives.ends refl in
      (gives.answers ∙ ap answers left, ap (λ left. record { left = left; failed = false }) (sym gives.answers))
  takes_answer old new (Some answer) gives = ap (λ left. record { left = left; failed = false }) gives.answers

-- A key without an answer.
pub none_mapped : (merge : Operator) (point : ReadPoint) (rows : List Row) (answer : Option KeyAnswer) (new : IteratorState) → answer ≡ None
    → GivesKey merge point rows (option_map pair_of answer) new → GivesKey merge point rows None new
none_mapped merge point rows answer new is gives = subst (λ (a : Option KeyAnswer). GivesKey merge point rows (option_map pair_of a) new) is gives

pub some_mapped : (answer : Option KeyAnswer) → (answer ≡ None → ⊥) → option_map pair_of answer ≡ None → ⊥
some_mapped None some e = some refl
some_mapped (Some answer) some e = cc e
