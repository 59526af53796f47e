-- Rows that an iterator passes on as they are, since they open no group, and rows that it reads ahead.
use Rattle.std.proofs.Common.{◌≡◌, ◌≢◌, ◌∙◌, sym, refl, ap, subst, List, [], ◌∷◌, ◌++◌, ◌&&◌, Bool, true, false, length, Option, Some, None, Ok, Err}
use Rattle.std.proofs.lemmas.Bool.{true_from_ne_false}
use Rattle.std.specs.Prelude.{Result, if◌then◌else◌}
use Rattle.std.specs.Option.{is_none, option_to_list}
use Rattle.row_model.specs.Fold.{Operator}
use Rattle.row_model.specs.Rows.{Row}
use Rattle.fleet_iter.specs.Iteration.{IteratorState, CanFail, KeepsRefusal, NextAnswers, Nexts}
use Rattle.fleet_rows.specs.Row.{row_of, rows_of}
use Rattle.fleet_rows.specs.declared.row.RowEntry.{RowEntry}
use Rattle.fleet_rows.specs.declared.errors.SlateDBError.{SlateDBError}
use Rattle.fleet_rows.specs.declared.errors.SlateDBError.TheVariants.{IteratorNotInitialized}
use Rattle.fleet_fold.specs.Folded.{Folded, opens, joining, merged_group, folded_after, up_to_refusal, folded_groups}
use Rattle.fleet_fold.specs.Groups.{Folds, RefusesNext}
use Rattle.fleet_fold.specs.Merging.{merging, ReadsGroups, RisesIfRefused}
use Rattle.fleet_fold.proofs.ReadRows.{next_opens, RefusesUnless}
use Rattle.fleet_fold.specs.Retention.{from_ahead}
use Rattle.fleet_fold.specs.declared.group.GroupRule.{GroupRule}
use Rattle.fleet_fold.proofs.FoldedSeeks.{reads_failed}
use Rattle.fleet_fold.proofs.FoldRefusals.{next_refused, next_kept, not_early}

-- An iterator that gives a row, or ends, is initialised.
begun_by : (inner mid : IteratorState) (row : Option RowEntry) → inner.failure ≡ None → Nexts inner mid (Ok row) → inner.initialised ≡ true
begun_by inner mid row alive nexts =
    true_from_ne_false inner.initialised (λ i. let clash : ◌≡◌ {A = Result (Option RowEntry) SlateDBError} (Ok row) (Err IteratorNotInitialized) = (nexts.uninitialised alive i).answer in cc clash)

-- The row that was read and the rows after it are the rows that were left.
pub record IsRead (inner mid : IteratorState) (row : Option RowEntry) : Type 0 where
  pub rows : inner.rows ≡ rows_of (option_to_list row) ++ mid.rows
  pub initialised : inner.initialised ≡ mid.initialised
  pub begun : inner.initialised ≡ true
  pub failure : inner.failure ≡ mid.failure
  pub whole : inner.whole ≡ mid.whole
  pub steady : inner.steady ≡ mid.steady
  pub refusal : inner.refusal ≡ mid.refusal

pub is_read : (inner mid : IteratorState) (row : Option RowEntry) → inner.failure ≡ None → Nexts inner mid (Ok row) → IsRead inner mid row
is_read inner mid row alive nexts = by row (nexts.answers alive begun)
  where
    begun : inner.initialised ≡ true
    begun = begun_by inner mid row alive nexts

    by : (row : Option RowEntry) → NextAnswers inner mid (Ok row) → IsRead inner mid row
    by None h = record {
      rows = sym (ap (λ (s : IteratorState). s.rows) h.same);
      initialised = sym (ap (λ (s : IteratorState). s.initialised) h.same);
      begun = begun;
      failure = sym (ap (λ (s : IteratorState). s.failure) h.same);
      whole = sym (ap (λ (s : IteratorState). s.whole) h.same);
      steady = sym (ap (λ (s : IteratorState). s.steady) h.same);
      refusal = sym (ap (λ (s : IteratorState). s.refusal) h.same);
    }
    by (Some x) h = record {
      rows = ap (λ (s : IteratorState). s.rows) h;
      initialised = ap (λ (s : IteratorState). s.initialised) h;
      begun = begun;
      failure = ap (λ (s : IteratorState). s.failure) h;
      whole = ap (λ (s : IteratorState). s.whole) h;
      steady = ap (λ (s : IteratorState). s.steady) h;
      refusal = ap (λ (s : IteratorState). s.refusal) h;
    }

module _ (merge : Operator) (rule : GroupRule) where
  -- A state that gives what these rows fold to.
  abbrev S : Option SlateDBError → Folded → Bool → Bool → Bool → IteratorState
  S failure f initialised whole steady = record {
    rows = f.rows;
    initialised = initialised;
    failure = failure;
    whole = whole && is_none f.refusal;
    steady = steady;
    refusal = if whole then f.refusal else None;
  }

  -- The first row opens no group, so it stays as it is.
  stays_first : (r : Row) (rows : List Row) → opens rule r ≡ false → folded_groups merge rule (r ∷ rows) ≡ record { rows = r ∷ (folded_groups merge rule rows).rows; refusal = (folded_groups merge rule rows).refusal }
  stays_first r rows shut =
      ap (λ (b : Bool). up_to_refusal (if b then merged_group merge (r, joining rule r rows) ∷ folded_after merge rule (length (joining rule r rows)) rows else Ok r ∷ folded_after merge rule 0 rows)) shut

  -- A row that opens no group is given as it is.
  pub passes_next : (failure : Option SlateDBError) (ahead : Option RowEntry) (inner mid : IteratorState) (row : Option RowEntry) → failure ≡ None → ahead ≡ None → inner.failure ≡ None → next_opens rule row ≡ false → Nexts inner mid (Ok row)
      → Nexts (merging failure merge rule ahead inner) (merging failure merge rule ahead mid) (Ok row)
  passes_next failure ahead inner mid row alive none inner_alive shut nexts = record {
    failed = λ failed. absurd (failed alive);
    uninitialised = λ _ i. let clash : true ≡ false = sym begun ∙ i in absurd (cc clash);
    answers = λ _ _. subst (λ (o : Option RowEntry). NextAnswers (merging failure merge rule o inner) (merging failure merge rule o mid) (Ok row)) (sym none) (by row shut (nexts.answers inner_alive begun));
  }
    where
      begun : inner.initialised ≡ true
      begun = begun_by inner mid row inner_alive nexts

      by : (row : Option RowEntry) → next_opens rule row ≡ false → NextAnswers inner mid (Ok row) → NextAnswers (merging failure merge rule None inner) (merging failure merge rule None mid) (Ok row)
      by None shut h =
          let f : folded_groups merge rule inner.rows ≡ record { rows = []; refusal = None } = ap (folded_groups merge rule) h.rows in
          record {
            rows = ap (λ (f : Folded). f.rows) f;
            whole = ap (λ (w : Bool). w && is_none (folded_groups merge rule inner.rows).refusal) h.whole ∙ ap (λ (f : Folded). is_none f.refusal) f;
            same = ap (merging failure merge rule None) h.same;
          }
      by (Some x) shut h =
          ap (merging failure merge rule None) h
          ∙ ap (λ (f : Folded). S failure f mid.initialised mid.whole mid.steady) (stays_first (row_of x) mid.rows shut)

  -- What holds of the inner iterator still holds after a row that opens no group.
  pub reads_passed : (failure : Option SlateDBError) (ahead : Option RowEntry) (inner mid : IteratorState) (row : Option RowEntry) → failure ≡ None → ahead ≡ None → next_opens rule row ≡ false → Nexts inner mid (Ok row)
      → ReadsGroups merge rule failure ahead inner → ReadsGroups merge rule failure ahead mid
  reads_passed (Some e) ahead inner mid row alive none shut nexts reads = tt
  reads_passed None ahead inner mid row alive none shut nexts reads = (
    sym read.failure ∙ reads.0,
    (λ some. absurd (some none)),
    subst (λ (o : Option RowEntry). RisesIfRefused merge rule (from_ahead o mid)) (sym none) rises,
  )
    where
      read : IsRead inner mid row
      read = is_read inner mid row reads.0 nexts

      before : RisesIfRefused merge rule (rows_of (option_to_list row) ++ mid.rows)
      before = subst (RisesIfRefused merge rule) (ap (λ (o : Option RowEntry). from_ahead o inner) none ∙ read.rows) reads.2

      by : (row : Option RowEntry) → next_opens rule row ≡ false → RisesIfRefused merge rule (rows_of (option_to_list row) ++ mid.rows) → RisesIfRefused merge rule mid.rows
      by None shut h = h
      by (Some x) shut h = λ refused. (h (λ gone. refused (sym (ap (λ (f : Folded). f.refusal) (stays_first (row_of x) mid.rows shut)) ∙ gone))).1

      rises : RisesIfRefused merge rule mid.rows
      rises = by row shut before

  -- A row that was read ahead, with the rows after it, is as good as the rows before it was read.
  pub same_ahead : (failure : Option SlateDBError) (ahead : Option RowEntry) (inner mid : IteratorState) (row : Option RowEntry) → ahead ≡ None → IsRead inner mid row → merging failure merge rule row mid ≡ merging failure merge rule ahead inner
  same_ahead failure ahead inner mid row none read =
      ap (λ (f : Folded). S failure f mid.initialised mid.whole mid.steady) (ap (folded_groups merge rule) rows)
      ∙ (ap (λ (b : Bool). S failure (folded_groups merge rule (from_ahead ahead inner)) b mid.whole mid.steady) (sym read.initialised)
      ∙ (ap (λ (b : Bool). S failure (folded_groups merge rule (from_ahead ahead inner)) inner.initialised b mid.steady) (sym read.whole)
      ∙ ap (λ (b : Bool). S failure (folded_groups merge rule (from_ahead ahead inner)) inner.initialised inner.whole b) (sym read.steady)))
    where
      rows : from_ahead row mid ≡ from_ahead ahead inner
      rows = sym read.rows ∙ ap (λ (o : Option RowEntry). from_ahead o inner) (sym none)

  pub reads_ahead : (failure : Option SlateDBError) (ahead : Option RowEntry) (inner mid : IteratorState) (row : Option RowEntry) → ahead ≡ None → IsRead inner mid row → ReadsGroups merge rule failure ahead inner → ReadsGroups merge rule failure row mid
  reads_ahead (Some e) ahead inner mid row none read reads = tt
  reads_ahead None ahead inner mid row none read reads = (
    sym read.failure ∙ reads.0,
    (λ _. sym read.initialised ∙ read.begun),
    subst (RisesIfRefused merge rule) (ap (λ (o : Option RowEntry). from_ahead o inner) none ∙ read.rows) reads.2,
  )

  -- What refuses the next row after a row was read ahead also does if it was not.
  pub refuses_ahead : (ahead : Option RowEntry) (inner mid after : IteratorState) (row : Option RowEntry) (e : SlateDBError) → ahead ≡ None → IsRead inner mid row → RefusesNext merge rule (from_ahead row mid) mid after e → RefusesNext merge rule (from_ahead ahead inner) inner after e
  refuses_ahead ahead inner mid after row e none was refuses = record {
    read = λ failed. subst (λ (w : Bool). CanFail w e) (sym was.whole) (refuses.read failed);
    handed = refuses.handed;
    merged = λ ok other. subst (λ (rows : List Row). (others : List (Result Row SlateDBError)) × (folded_after merge rule 0 rows ≡ Err e ∷ others)) (sym was.rows ∙ ap (λ (o : Option RowEntry). from_ahead o inner) (sym none)) (refuses.merged ok other);
  }

  pub told_ahead : {A : Type 0} (failure : Option SlateDBError) (ahead : Option RowEntry) (inner mid after : IteratorState) (row : Option RowEntry) (result : Result A SlateDBError) → ahead ≡ None → IsRead inner mid row → RefusesUnless merge rule failure row mid after result → RefusesUnless merge rule failure ahead inner after result
  told_ahead failure ahead inner mid after row (Ok a) none was h = tt
  told_ahead failure ahead inner mid after row (Err e) none was h = λ alive begun. refuses_ahead ahead inner mid after row e none was (h alive (sym was.initialised ∙ begun))

  -- ---- a row that was read ahead, and its group

  ahead_begun : (failure : Option SlateDBError) (ahead : Option RowEntry) (inner : IteratorState) (row : RowEntry) → failure ≡ None → ahead ≡ Some row → ReadsGroups merge rule failure ahead inner → inner.initialised ≡ true
  ahead_begun (Some e) ahead inner row alive is reads = absurd (cc alive)
  ahead_begun None ahead inner row alive is reads = reads.1 (λ none. let clash : ◌≡◌ {A = Option RowEntry} (Some row) None = sym is ∙ none in cc clash)

  -- The rows left have begun with the row that was read ahead.
  pub next_folds : (failure : Option SlateDBError) (ahead later : Option RowEntry) (inner after : IteratorState) (row given : RowEntry) → failure ≡ None → ahead ≡ Some row → ReadsGroups merge rule failure ahead inner → Folds merge rule (row_of row) inner (row_of given) later after
      → Nexts (merging failure merge rule ahead inner) (merging failure merge rule later after) (Ok (Some given))
  next_folds failure ahead later inner after row given alive is reads folds = record {
    failed = λ failed. absurd (failed alive);
    uninitialised = λ _ i. let clash : true ≡ false = sym begun ∙ i in absurd (cc clash);
    answers = λ _ _.
        ap (λ (f : Folded). S failure f inner.initialised inner.whole inner.steady) made
        ∙ (ap (λ (b : Bool). S failure more b inner.whole inner.steady) (begun ∙ sym folds.readable.1)
        ∙ (ap (λ (b : Bool). S failure more after.initialised b inner.steady) (sym folds.whole)
        ∙ ap (λ (b : Bool). S failure more after.initialised after.whole b) (sym folds.steady)));
  }
    where
      begun : inner.initialised ≡ true
      begun = ahead_begun failure ahead inner row alive is reads

      later_folded : Folded
      later_folded = folded_groups merge rule (from_ahead later after)

      more : Folded
      more = record { rows = row_of given ∷ later_folded.rows; refusal = later_folded.refusal }

      made : folded_groups merge rule (from_ahead ahead inner) ≡ more
      made = ap (λ (o : Option RowEntry). folded_groups merge rule (from_ahead o inner)) is ∙ ap up_to_refusal folds.rows

  -- What holds of the inner iterator still holds after the group.
  pub reads_folded : (failure : Option SlateDBError) (ahead later : Option RowEntry) (inner after : IteratorState) (row given : RowEntry) → failure ≡ None → ahead ≡ Some row → Folds merge rule (row_of row) inner (row_of given) later after → ReadsGroups merge rule failure ahead inner → ReadsGroups merge rule failure later after
  reads_folded (Some e) ahead later inner after row given alive is folds reads = tt
  reads_folded None ahead later inner after row given alive is folds reads = (
    folds.readable.0,
    (λ _. folds.readable.1),
    (λ refused. folds.rising (before (λ gone. refused (sym (ap (λ (f : Folded). f.refusal) (ap up_to_refusal folds.rows)) ∙ gone))).1),
  )
    where
      before : RisesIfRefused merge rule (row_of row ∷ inner.rows)
      before = subst (λ (o : Option RowEntry). RisesIfRefused merge rule (from_ahead o inner)) is reads.2

  pub told_folded : (failure kept : Option SlateDBError) (ahead : Option RowEntry) (inner after : IteratorState) (row : RowEntry) (e answer : SlateDBError) → ahead ≡ Some row → KeepsRefusal e failure kept answer → RefusesNext merge rule (row_of row ∷ inner.rows) inner after e → RefusesNext merge rule (from_ahead ahead inner) inner after answer
  told_folded failure kept ahead inner after row e answer is keeps refuses =
      subst (λ (o : Option RowEntry). RefusesNext merge rule (from_ahead o inner) inner after answer) (sym is)
      (next_kept merge rule (row_of row ∷ inner.rows) inner after e answer keeps.same keeps.memory refuses)

  -- An error of the group is the answer.
  pub refuses_folded : (failure kept : Option SlateDBError) (ahead later : Option RowEntry) (inner after : IteratorState) (row : RowEntry) (e answer : SlateDBError) → failure ≡ None → ahead ≡ Some row → ReadsGroups merge rule failure ahead inner
      → KeepsRefusal e failure kept answer → RefusesNext merge rule (row_of row ∷ inner.rows) inner after e
      → Nexts (merging failure merge rule ahead inner) (merging kept merge rule later after) (Err answer)
  refuses_folded failure kept ahead later inner after row e answer alive is reads keeps refuses =
      next_refused merge rule merge rule failure kept ahead later inner after (row_of row) inner.rows answer alive (keeps.kept early) rows (ahead_begun failure ahead inner row alive is reads) (told_folded failure kept ahead inner after row e answer is keeps refuses)
    where
      rows : from_ahead ahead inner ≡ row_of row ∷ inner.rows
      rows = ap (λ (o : Option RowEntry). from_ahead o inner) is

      early : e ≢ IteratorNotInitialized
      early = not_early merge rule (row_of row ∷ inner.rows) inner after (row_of row) inner.rows e refl refuses

  pub refused_reads : (failure kept : Option SlateDBError) (ahead later : Option RowEntry) (inner after : IteratorState) (row : RowEntry) (e answer : SlateDBError) → KeepsRefusal e failure kept answer → RefusesNext merge rule (row_of row ∷ inner.rows) inner after e → ReadsGroups merge rule kept later after
  refused_reads failure kept ahead later inner after row e answer keeps refuses =
      reads_failed merge rule kept later after answer (keeps.kept (not_early merge rule (row_of row ∷ inner.rows) inner after (row_of row) inner.rows e refl refuses))
