-- The run of a committed job has the tables that the history names for the job.
use Rattle.std.proofs.Common.{◌≡◌, refl, sym, ◌∙◌, ap, subst, ℕ, List, [], ◌∷◌, true, inl, inr, Option, Some, None}
use Rattle.std.specs.Prelude.{◌==◌, map, filter, flat_map, Bool}
use Rattle.std.specs.List.{concat}
use Rattle.std.proofs.lemmas.Bool.Decides.{Decides-eqb}
use Rattle.row_model.specs.Fold.{Operator}
use Rattle.fleet_model.specs.Nodes.{Trees}
use Rattle.fleet_model.specs.Jobs.{Job, Compacted, has_status, ids, job_with}
use Rattle.fleet_model.specs.History.{Join}
use Rattle.fleet_model.specs.Past.Finished.{is_finished_by}
use Rattle.fleet_model.specs.Store.{stored_jobs}
use Rattle.fleet_model.specs.Trees.{stepped_in}
use Rattle.step_model.specs.Past.{World}
use Rattle.step_model.specs.Steps.PollSteps.{PollAsk}
use Rattle.step_laws.proofs.Elements.{IsIn, all_at, in_back}
use Rattle.commit_laws.specs.After.{trees_after}
use Rattle.commit_laws.specs.StepForms.{RunReplaces}
use Rattle.course_laws.proofs.Calls.{filtered}
use Rattle.coordinator_laws.specs.PollSays.{passed_in, all_verdicts}
use Rattle.coordinator_laws.specs.PollReports.{JoinDone}
use Rattle.script_model.specs.States.{Inputs, State}
use Rattle.script_model.specs.Lines.PollLines.{poll_ask}
use Rattle.line_laws.specs.States.{StateKeeps}
use Rattle.line_laws.specs.Lines.PollRuns.{input_at}
use Rattle.line_laws.specs.Lines.PollLines.{PollRan}
use Rattle.line_laws.specs.Lines.FinishedJobs.{FinishedWait}
use Rattle.line_laws.specs.Lines.CommittedTables.{outputs_named, NamedRun, CommitsNamed, NamedTablesAreCommitted}
use Rattle.line_laws.proofs.Parties.{found}
use Rattle.line_laws.proofs.PollLines.{polls_commit}
use Rattle.line_laws.proofs.FinishedStates.{finished_jobs_wait}
use Rattle.line_laws.proofs.NamedOutputs.{stored_have}

-- A job that passed has a verdict.
passed_judged : (verdicts : List (ℕ × Option ℕ)) (id : ℕ) → IsIn id (flat_map passed_in verdicts) → IsIn id (map (λ verdict. verdict.0) verdicts)
passed_judged [] id there = absurd there
passed_judged ((job, None) ∷ verdicts) id (inl same) = inl same
passed_judged ((job, None) ∷ verdicts) id (inr there) = inr (passed_judged verdicts id there)
passed_judged ((job, Some rule) ∷ verdicts) id there = inr (passed_judged verdicts id there)

-- A job that a poll committed was finished.
was_finished : (inputs : Inputs) (number : ℕ) (commits_only : Bool) (n : ℕ) (old : State) (answer : List ℕ) (new : State) → FinishedWait old.store → (r : PollRan inputs number commits_only n old answer new) (id : ℕ) → IsIn id r.p.done → is_finished_by old.store.history id ≡ true
was_finished inputs number commits_only n old answer new waits r id there =
    let ask : PollAsk = poll_ask inputs old r.coordinator commits_only in
    let among = subst (IsIn id) (waits.judged ask) (passed_judged (all_verdicts commits_only (input_at ask old.store)) id (subst (IsIn id) r.says.commits there)) in
    (all_at _ (filter (is_finished_by old.store.history) (ids (stored_jobs old.store))) id (filtered (is_finished_by old.store.history) (ids (stored_jobs old.store))) among).1

-- The commit of a finished job puts the tables that the history names.
named_run : (merge : Operator) (old : State) (k : StateKeeps merge old) (at : World) (trees : Trees) (id : ℕ) → stored_jobs at.store ≡ stored_jobs old.store → is_finished_by old.store.history id ≡ true → JoinDone merge at trees id → NamedRun old.store at trees id
named_run merge old k at trees id same finished j = record {
  job = j.job;
  stored = stored;
  run = λ first.
      subst (λ (outputs : List (List ℕ)). RunReplaces trees (stepped_in at.store.tables (Join id) j.job.spec (concat outputs) trees) j.job.spec (concat outputs)) outputs
      (subst (λ (i : ℕ). RunReplaces trees (stepped_in at.store.tables (Join i) j.job.spec (concat j.job.outputs) trees) j.job.spec (concat j.job.outputs)) (sym is_id) (j.first_time first).run);
}
  where
    stored : job_with id (stored_jobs old.store) ≡ Some j.job
    stored = ap (job_with id) (sym same) ∙ j.stored

    is_id : id ≡ j.job.id
    is_id = (Decides-eqb id j.job.id).0 (found (λ (job : Job). id == job.id) (stored_jobs old.store) j.job stored).passes

    there : IsIn j.job (stored_jobs old.store)
    there = (found (λ (job : Job). id == job.id) (stored_jobs old.store) j.job stored).there

    compacted : has_status Compacted j.job ≡ true
    compacted = sym (all_at _ (stored_jobs old.store) j.job (finished_jobs_wait merge old k).compacted there) ∙ ap (is_finished_by old.store.history) (sym is_id) ∙ finished

    outputs : j.job.outputs ≡ outputs_named old.store.history id
    outputs = all_at _ (stored_jobs old.store) j.job (stored_have old.store k.fleet.store.stored.replay) there compacted ∙ ap (outputs_named old.store.history) (sym is_id)

-- Each commit of a poll that is not refused puts the tables that the history names.
pub named_tables_are_committed : NamedTablesAreCommitted
named_tables_are_committed inputs old new commits_only n answer ran ok = by (polls_commit inputs old new commits_only n answer ran ok)
  where
    by : PollRan inputs ran.number commits_only n old answer new → CommitsNamed inputs ran.number commits_only n old answer new
    by r = record {
      poll = r;
      each = λ first id rest is.
          named_run inputs.merge old ran.keeps r.right.put.at (trees_after r.right.put.at r.right.put.fits.specs (map Join first)) id (ap stored_jobs r.right.put.is)
          (was_finished inputs ran.number commits_only n old answer new (finished_jobs_wait inputs.merge old ran.keeps) r id (subst (IsIn id) is (in_back id first (id ∷ rest) (inl refl)))) (r.right.joins first id rest is);
    }
