-- What the row that was read becomes, and what refuses it.
use Rattle.std.proofs.Common.{◌≡◌, ◌≢◌, ◌∙◌, sym, refl, ap, subst, [], ◌∷◌, Bool, true, false, not, Option, Some, None, Ok, Err}
use Rattle.std.proofs.lemmas.Bool.{and_parts}
use Rattle.std.specs.Prelude.{Result, IfErr, if◌then◌else◌}
use Rattle.std.specs.Option.{is_none}
use Rattle.row_model.specs.Fold.{Operator}
use Rattle.fleet_iter.specs.Iteration.{IteratorState, CanFail, IsKnown, KeepsRefusal, NextFails, Nexts}
use Rattle.fleet_iter.proofs.Failures.{kept_cause, next_refused}
use Rattle.fleet_rows.specs.Row.{row_of}
use Rattle.fleet_rows.specs.declared.row.RowEntry.{RowEntry}
use Rattle.fleet_rows.specs.declared.errors.SlateDBError.{SlateDBError}
use Rattle.fleet_rows.specs.declared.errors.SlateDBError.TheVariants.{IteratorNotInitialized}
use Rattle.fleet_fold.specs.Folded.{folded_groups}
use Rattle.fleet_fold.specs.Groups.{Folds, RefusesNext}
use Rattle.fleet_fold.specs.Merging.{merging, ReadsGroups}
use Rattle.fleet_fold.specs.Reading.{is_passed, GivesNext, MakesNext}
use Rattle.fleet_fold.specs.declared.group.GroupRule.{GroupRule}
use Rattle.fleet_fold.proofs.FoldedSeeks.{reads_failed}
use Rattle.fleet_fold.proofs.ReadRows.{next_opens, RefusesUnless}
use Rattle.fleet_fold.proofs.PassedRows.{IsRead, is_read, passes_next, reads_passed, same_ahead, reads_ahead, refuses_ahead, next_folds, reads_folded, told_folded, refuses_folded, refused_reads}

not_true : (b : Bool) → not b ≡ true → b ≡ false
not_true true h = absurd (cc h)
not_true false h = refl

pub not_false : (b : Bool) → not b ≡ false → b ≡ true
not_false true h = refl
not_false false h = absurd (cc h)

module _ (merge : Operator) (rule : GroupRule) where
  -- A row that opens no group is given as it is.
  pub makes_passed : (failure : Option SlateDBError) (ahead : Option RowEntry) (mid : IteratorState) (read : Result (Option RowEntry) SlateDBError) → failure ≡ None → ahead ≡ None → is_passed rule read ≡ true → MakesNext merge rule mid read failure ahead mid read
  makes_passed failure ahead mid read alive none passed =
      subst (λ (f : Option SlateDBError). MakesNext merge rule mid read f ahead mid read) (sym alive)
      (subst (λ (o : Option RowEntry). MakesNext merge rule mid read None o mid read) (sym none) (by read passed))
    where
      by : (read : Result (Option RowEntry) SlateDBError) → is_passed rule read ≡ true → MakesNext merge rule mid read None None mid read
      by (Err e) h = absurd (cc h)
      by (Ok row) h = λ before nexts reads.
          let shut : next_opens rule row ≡ false = not_true (next_opens rule row) h in
          record {
            next = passes_next merge rule None None before mid row refl refl reads.0 shut nexts;
            handed = tt;
            reads = reads_passed merge rule None None before mid row refl refl shut nexts reads;
          }

  -- A row that opens a group becomes the row of the group.
  pub makes_folded : (failure : Option SlateDBError) (later : Option RowEntry) (mid after : IteratorState) (first given : RowEntry) → failure ≡ None → Folds merge rule (row_of first) mid (row_of given) later after → MakesNext merge rule mid (Ok (Some first)) failure later after (Ok (Some given))
  makes_folded failure later mid after first given alive folds =
      subst (λ (f : Option SlateDBError). MakesNext merge rule mid (Ok (Some first)) f later after (Ok (Some given))) (sym alive) (λ before nexts reads.
      let was : IsRead before mid (Some first) = is_read before mid (Some first) reads.0 nexts in
      let kept : ReadsGroups merge rule None (Some first) mid = reads_ahead merge rule None None before mid (Some first) refl was reads in
      record {
        next = subst (λ (s : IteratorState). Nexts s (merging None merge rule later after) (Ok (Some given))) (same_ahead merge rule None None before mid (Some first) refl was)
            (next_folds merge rule None (Some first) later mid after first given refl refl kept folds);
        handed = tt;
        reads = reads_folded merge rule None (Some first) later mid after first given refl refl folds kept;
      })

  -- An error of the group is the answer.
  pub makes_refused : (failure kept : Option SlateDBError) (later : Option RowEntry) (mid after : IteratorState) (first : RowEntry) (e answer : SlateDBError) → failure ≡ None → KeepsRefusal e failure kept answer → RefusesNext merge rule (row_of first ∷ mid.rows) mid after e
      → MakesNext merge rule mid (Ok (Some first)) kept later after (Err answer)
  makes_refused failure kept later mid after first e answer alive keeps refuses before nexts reads =
      let was : IsRead before mid (Some first) = is_read before mid (Some first) reads.0 nexts in
      let stays : ReadsGroups merge rule None (Some first) mid = reads_ahead merge rule None None before mid (Some first) refl was reads in
      let told : KeepsRefusal e None kept answer = subst (λ (f : Option SlateDBError). KeepsRefusal e f kept answer) alive keeps in
      record {
        next = subst (λ (s : IteratorState). Nexts s (merging kept merge rule later after) (Err answer)) (same_ahead merge rule None None before mid (Some first) refl was)
            (refuses_folded merge rule None kept (Some first) later mid after first e answer refl refl stays told refuses);
        handed = λ begun. refuses_ahead merge rule None before mid after (Some first) answer refl was (told_folded merge rule None kept (Some first) mid after first e answer refl told refuses);
        reads = refused_reads merge rule None kept (Some first) later mid after first e answer told refuses;
      }

  -- The inner iterator failed, so that no row was read.
  module _ (kept : Option SlateDBError) (mid : IteratorState) (e answer : SlateDBError) (keeps : KeepsRefusal e None kept answer) (before : IteratorState) (nexts : Nexts before mid (Err e)) (reads : ReadsGroups merge rule None None before) where
    early : before.initialised ≡ false → (e ≡ IteratorNotInitialized) × (mid ≡ before)
    early i =
        let h = nexts.uninitialised reads.0 i in
        let same : ◌≡◌ {A = Result (Option RowEntry) SlateDBError} (Err e) (Err IteratorNotInitialized) = h.answer in
        (cc same, h.same)

    known : IsKnown before e → CanFail before.whole e → IsKnown (merging None merge rule None before) e
    known stated cause afterwards is other = by before.whole refl is
      where
        by : (w : Bool) → before.whole ≡ w → (if w then (folded_groups merge rule before.rows).refusal else None) ≡ Some afterwards → ((folded_groups merge rule before.rows).rows ≡ []) × (e ≡ afterwards)
        by true whole h = absurd (other (cause.memory whole))
        by false whole h = absurd (cc h)

    failed_reads : (b : Bool) → before.initialised ≡ b → ReadsGroups merge rule kept None mid
    failed_reads true i = reads_failed merge rule kept None mid answer (keeps.kept (nexts.answers reads.0 i).cause.initialised)
    failed_reads false i =
        let (is, same) = early i in
        subst (λ (f : Option SlateDBError). ReadsGroups merge rule f None mid) (sym (keeps.early is).1) (subst (ReadsGroups merge rule None None) (sym same) reads)

    failed_next : Nexts (merging None merge rule None before) (merging kept merge rule None mid) (Err answer)
    failed_next =
        next_refused (merging None merge rule None before) (merging kept merge rule None mid) before mid e answer refl reads.0 keeps refl
        (λ i same marked. ap (merging kept merge rule None) same ∙ ap (λ (f : Option SlateDBError). merging f merge rule None before) marked)
        (λ all. (and_parts before.whole (is_none (folded_groups merge rule before.rows).refusal) all).0) known nexts

    failed_told : before.initialised ≡ true → RefusesNext merge rule before.rows before mid answer
    failed_told i =
        let fails : NextFails before mid e = nexts.answers reads.0 i in
        record {
          read = λ _. kept_cause before.whole before.whole e answer (λ all. all) keeps.same keeps.memory fails.cause;
          handed = λ _ other. fails.failed ∙ ap Some (sym (keeps.same other));
          merged = λ alive. let clash : ◌≡◌ {A = Option SlateDBError} (Some e) None = sym fails.failed ∙ alive in absurd (cc clash);
        }

  pub makes_failed : (failure kept : Option SlateDBError) (ahead : Option RowEntry) (mid : IteratorState) (e answer : SlateDBError) → failure ≡ None → ahead ≡ None → KeepsRefusal e failure kept answer → MakesNext merge rule mid (Err e) kept ahead mid (Err answer)
  makes_failed failure kept ahead mid e answer alive none keeps =
      let told : KeepsRefusal e None kept answer = subst (λ (f : Option SlateDBError). KeepsRefusal e f kept answer) alive keeps in
      subst (λ (o : Option RowEntry). MakesNext merge rule mid (Err e) kept o mid (Err answer)) (sym none) (λ before nexts reads. record {
        next = failed_next kept mid e answer told before nexts reads;
        handed = failed_told kept mid e answer told before nexts reads;
        reads = failed_reads kept mid e answer told before nexts reads before.initialised refl;
      })

  -- ---- what a call gives after a row was read ahead, or was not

  -- What holds of a call that makes the row read ahead the next row.
  pub record GivesAhead (failure : Option SlateDBError) (ahead : Option RowEntry) (mid : IteratorState) (kept : Option SlateDBError) (later : Option RowEntry) (after : IteratorState) (given : Result (Option RowEntry) SlateDBError) : Type 0 where
    pub next : Nexts (merging failure merge rule ahead mid) (merging kept merge rule later after) given
    pub handed : RefusesUnless merge rule failure ahead mid after given
    pub reads : ReadsGroups merge rule kept later after

  pub gives_ahead : (failure : Option SlateDBError) (ahead read : Option RowEntry) (mid : IteratorState) (kept : Option SlateDBError) (later : Option RowEntry) (after : IteratorState) (given : Result (Option RowEntry) SlateDBError) → failure ≡ None → read ≡ ahead → ahead ≢ None → ReadsGroups merge rule failure ahead mid
      → MakesNext merge rule mid (Ok read) kept later after given → GivesAhead failure ahead mid kept later after given
  gives_ahead (Some e) ahead read mid kept later after given alive is some reads made = absurd (cc alive)
  gives_ahead None None read mid kept later after given alive is some reads made = absurd (some refl)
  gives_ahead None (Some x) read mid kept later after given alive is some reads made = record {
    next = gives.next;
    handed = told given gives.handed;
    reads = gives.reads;
  }
    where
      before : IteratorState
      before = record mid { rows = row_of x ∷ mid.rows }

      begun : mid.initialised ≡ true
      begun = reads.1 some

      nexts : Nexts before mid (Ok (Some x))
      nexts = record {
        failed = λ failed. absurd (failed reads.0);
        uninitialised = λ _ i. let clash : true ≡ false = sym begun ∙ i in absurd (cc clash);
        answers = λ _ _. refl;
      }

      gives : GivesNext merge rule before kept later after given
      gives = subst (λ (o : Option RowEntry). MakesNext merge rule mid (Ok o) kept later after given) is made before nexts (reads.0, (λ none. absurd (none refl)), reads.2)

      told : (given : Result (Option RowEntry) SlateDBError) → IfErr given (λ e. before.initialised ≡ true → RefusesNext merge rule before.rows before after e) → RefusesUnless merge rule None (Some x) mid after given
      told (Ok row) h = tt
      told (Err e) h = λ _ i. let refuses = h i in record { read = refuses.read; handed = refuses.handed; merged = refuses.merged }

  pub given_handed : (failure : Option SlateDBError) (ahead : Option RowEntry) (before : IteratorState) (kept : Option SlateDBError) (later : Option RowEntry) (after : IteratorState) (given : Result (Option RowEntry) SlateDBError) → failure ≡ None → ahead ≡ None → ReadsGroups merge rule failure ahead before
      → (ReadsGroups merge rule None None before → GivesNext merge rule before kept later after given) → RefusesUnless merge rule failure ahead before after given
  given_handed (Some e) ahead before kept later after given alive none reads made = absurd (cc alive)
  given_handed None (Some x) before kept later after given alive none reads made = absurd (cc none)
  given_handed None None before kept later after given alive none reads made = told given (made reads).handed
    where
      told : (given : Result (Option RowEntry) SlateDBError) → IfErr given (λ e. before.initialised ≡ true → RefusesNext merge rule before.rows before after e) → RefusesUnless merge rule None None before after given
      told (Ok row) h = tt
      told (Err e) h = λ _ i. h i
