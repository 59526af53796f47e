-- What a call of a scan answers, and what holds after it.
use Rattle.std.proofs.Common.{◌≡◌, refl, sym, ◌∙◌, ap, subst, ℕ, List, Bool, true, false, Option, Ok, Err}
use Rattle.std.specs.Prelude.{option_map, Result}
use Rattle.row_model.specs.Fold.{Operator, Outcome}
use Rattle.row_model.specs.Rows.{Row}
use Rattle.fleet_iter.specs.Iteration.{IteratorState}
use Rattle.fleet_rows.specs.declared.errors.SlateDBError.{SlateDBError}
use Rattle.fleet_rows.specs.declared.errors.SlateDBError.TheVariants.{IteratorFailed, Memory}
use Rattle.fleet_scan.specs.Answered.{Scanning, Nexts, Takes, pair_of}
use Rattle.fleet_scan.specs.ScanState.{scanning, Holds, ReadsOn}
use Rattle.fleet_scan.specs.Walk.{Gives}
use Rattle.fleet_scan.specs.declared.answer.KeyAnswer.{KeyAnswer}
use Rattle.fleet_scan.specs.declared.key_rows.ReadPoint.{ReadPoint}
use Rattle.fleet_scan.proofs.Steps.{takes_answer}

pub reads_on : (failed : Bool) (rows : IteratorState) → failed ≡ false → Holds failed rows → ReadsOn rows
reads_on true rows is h = absurd (cc is)
reads_on false rows is h = h

-- A failed scan stays as it is.
pub nexts_failed : (scan : Scanning) → scan.failed ≡ true → Nexts scan scan (Err IteratorFailed)
nexts_failed scan is = record {
  failed = λ e. record { answer = refl; same = refl };
  takes = λ e. let clash : true ≡ false = sym is ∙ e in absurd (cc clash);
}

module _ (merge : Operator) (point : ReadPoint) (failed : Bool) (old : IteratorState) (value : Scanning) (is : scanning merge point old failed ≡ value) where
  stood : value.failed ≡ failed
  stood = sym (ap (λ (s : Scanning). s.failed) is)

  pub nexts_gone : failed ≡ true → Nexts value value (Err IteratorFailed)
  nexts_gone gone = nexts_failed value (stood ∙ gone)

  module _ (alive : failed ≡ false) where
    not_failed : (new : Scanning) (result : Result (Option KeyAnswer) SlateDBError) → Takes value new result → Nexts value new result
    not_failed new result takes = record {
      failed = λ e. let clash : true ≡ false = sym e ∙ (stood ∙ alive) in absurd (cc clash);
      takes = λ e. takes;
    }

    pub nexts_ok : (new : IteratorState) (answer : Option KeyAnswer) → Gives merge point old.rows (option_map pair_of answer) new
        → Nexts value (scanning merge point new failed) (Ok answer)
    nexts_ok new answer gives = not_failed (scanning merge point new failed) (Ok answer)
        (subst (λ (b : Bool). Takes value (scanning merge point new b) (Ok answer)) (sym alive)
        (subst (λ (s : Scanning). Takes s (scanning merge point new false) (Ok answer)) (ap (scanning merge point old) (sym alive) ∙ is)
        (takes_answer merge point old new answer gives)))

    pub nexts_err : (new : Scanning) (e : SlateDBError) → new.failed ≡ true → e ≡ Memory → Nexts value new (Err e)
    nexts_err new e broken memory = not_failed new (Err e) (memory, broken)

pub holds_after : (merge : Operator) (point : ReadPoint) (rows : List Row) (answer : Option (List ℕ × Outcome)) (failed : Bool) (new : IteratorState)
    → failed ≡ false → Gives merge point rows answer new → Holds failed new
holds_after merge point rows answer failed new alive gives = subst (λ (b : Bool). Holds b new) (sym alive) (record { reading = gives.reading; ordered = gives.ordered })
