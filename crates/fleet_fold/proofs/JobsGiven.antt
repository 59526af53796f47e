-- Retention of folded rows gives a job's rows, and keeps reads.
use Rattle.std.proofs.Common.{◌≡◌, ◌∙◌, sym, refl, ap, subst, ℕ, if◌then◌else◌, List, [], ◌++◌, append-nil, ◌&&◌, Bool, true, false, Option, Some, None}
use Rattle.std.specs.Prelude.{filter}
use Rattle.std.specs.List.{AllByRecursion}
use Rattle.std.specs.Option.{is_none}
use Rattle.row_laws.specs.Keys.{is_below}
use Rattle.row_model.specs.Fold.{Operator, IsLawful}
use Rattle.row_model.specs.JobRows.{job_rows}
use Rattle.row_model.specs.Lists.{IsPrefixOf}
use Rattle.row_model.specs.Read.{read}
use Rattle.row_model.specs.Rows.{Row, rows_of_key, IsStrictlyOrdered}
use Rattle.row_model.specs.Settings.{Settings}
use Rattle.row_laws.proofs.JobReads.{jobs_keep_reads}
use Rattle.fleet_iter.specs.Iteration.{IteratorState}
use Rattle.fleet_fold.specs.Folded.{folded_groups}
use Rattle.fleet_fold.specs.Jobs.{job_rule, IsOfOperator, GivesJob, MakesJob, BeginsJob, JobsKeepReads}
use Rattle.fleet_fold.specs.Merging.{merging}
use Rattle.fleet_fold.specs.Retention.{retained_state, kept_given}
use Rattle.fleet_fold.proofs.Jobs.{folds_make_jobs}
use Rattle.fleet_fold.proofs.JobsBegun.{folds_begin_jobs}
use Rattle.fleet_fold.proofs.JobsRefused.{refuses_by_operator}
use Rattle.fleet_rows.specs.declared.errors.SlateDBError.{SlateDBError}

module _ (merge : Operator) (lawful : IsLawful merge) (settings : Settings) (inner : IteratorState) (all : inner.whole ≡ true) (ordered : IsStrictlyOrdered inner.rows) where
  abbrev S : IteratorState
  S = retained_state None settings [] None (merging None merge (job_rule settings.cut) None inner)

  makes : MakesJob merge settings inner.rows
  makes = folds_make_jobs merge lawful settings inner.rows ordered

  starts : BeginsJob merge settings inner.rows
  starts = folds_begin_jobs merge lawful settings inner.rows ordered

  whole : S.whole ≡ (job_rows merge settings inner.rows).whole
  whole = ap (λ b. b && is_none (folded_groups merge (job_rule settings.cut) inner.rows).refusal) all ∙ makes.whole

  made : S.whole ≡ true → S.rows ≡ (job_rows merge settings inner.rows).rows
  made is = ap (λ b. kept_given settings b (folded_groups merge (job_rule settings.cut) inner.rows).rows) is ∙ makes.kept (sym whole ∙ is)

  begins : (b : Bool) → S.whole ≡ b → IsPrefixOf S.rows (job_rows merge settings inner.rows).rows
  begins true is = ([], append-nil S.rows ∙ made is)
  begins false is = subst (λ b. IsPrefixOf (kept_given settings b (folded_groups merge (job_rule settings.cut) inner.rows).rows) (job_rows merge settings inner.rows).rows) (sym is) starts.begins

  stated : (refusal : Option SlateDBError) → (folded_groups merge (job_rule settings.cut) inner.rows).refusal ≡ refusal → S.whole ≡ false → (e : SlateDBError) × ((S.refusal ≡ Some e) × IsOfOperator merge inner.rows e)
  stated None none is =
      let clash : true ≡ false = sym (ap (λ b. b && is_none (folded_groups merge (job_rule settings.cut) inner.rows).refusal) all ∙ ap is_none none) ∙ is in
      absurd (cc clash)
  stated (Some e) some is =
      (e, (ap (λ b. if b then (folded_groups merge (job_rule settings.cut) inner.rows).refusal else None) all ∙ some, refuses_by_operator merge settings.cut inner.rows e ordered some))

  pub gives_job : GivesJob merge settings inner.rows S
  gives_job = record {
    whole = whole;
    all = made;
    begins = begins S.whole refl;
    reaches = λ is. subst
        (λ (b : Bool). (key : List ℕ) → (job_rows merge settings (filter (is_below key) inner.rows)).whole ≡ true
        → AllByRecursion (λ r. is_below key r ≡ true → IsPrefixOf (job_rows merge settings (filter (is_below r.key) inner.rows)).rows (kept_given settings b (folded_groups merge (job_rule settings.cut) inner.rows).rows)) inner.rows)
        (sym is) starts.reaches;
    refusal = λ is. stated (folded_groups merge (job_rule settings.cut) inner.rows).refusal refl is;
  }

pub keeps_reads : (merge : Operator) → IsLawful merge → JobsKeepReads merge
keeps_reads merge lawful settings rows s ordered gives is key seq now above below cut tick last =
    jobs_keep_reads merge lawful settings rows ordered (sym gives.whole ∙ is) key seq now above below cut tick last
    ∙ ap (λ (w : List Row). read merge key seq now (above ++ (rows_of_key key w ++ below))) (sym (gives.all is))
