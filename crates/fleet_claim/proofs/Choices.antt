-- The jobs that a claim takes and stops are the model's.
use Rattle.std.proofs.Common.{◌≡◌, refl, sym, ◌∙◌, ap, ℕ, ◌-◌, List, [], ◌∷◌, map, length, take}
use Rattle.std.specs.Prelude.{filter}
use Rattle.std.proofs.lemmas.List.{length-map, take-map}
use Rattle.fleet_model.specs.Jobs.{ids}
use Rattle.fleet_model.specs.Work.Parties.{attempt_jobs}
use Rattle.fleet_jobs.specs.Parts.JobParts.{JobParts}
use Rattle.fleet_jobs.specs.Jobs.{job_of, jobs_of}
use Rattle.fleet_jobs.specs.Workers.{release_of}
use Rattle.fleet_jobs.specs.declared.release.Release.{Release}
use Rattle.fleet_claim.specs.Choices.{AreClaimed, AreStopped, is_stopped, is_taken, stopped_ids, taken_records}
use Rattle.fleet_claim.proofs.Lists.{filter_changed}

-- The records that are taken so are those of the jobs that the model's claim takes.
pub are_claimed : (slots : ℕ) (running : List ℕ) (release : Release) (jobs these : List JobParts) → these ≡ taken_records slots running release jobs → AreClaimed slots running release jobs these
are_claimed slots running release jobs these is = record {
  records = is;
  model = λ w worker.
      ap jobs_of is
      ∙ sym (take-map job_of (slots - length running) (filter (λ job. is_taken running (release_of release) (job_of job)) jobs))
      ∙ ap (take (slots - length running)) (sym (filter_changed (is_taken running (release_of release)) job_of jobs))
      ∙ ap (λ r. take (slots - length r) (filter (is_taken r (release_of release)) (jobs_of jobs))) (sym worker.runs)
      ∙ ap (λ r. take (slots - length (attempt_jobs w.attempts)) (filter (is_taken (attempt_jobs w.attempts) r) (jobs_of jobs))) (sym worker.of_release)
      ∙ ap (λ n. take (slots - n) (filter (is_taken (attempt_jobs w.attempts) w.release) (jobs_of jobs))) (length-map w.attempts (λ a. a.job));
}

same_ids : (jobs : List JobParts) → map (λ job. job.id) jobs ≡ ids (jobs_of jobs)
same_ids [] = refl
same_ids (job ∷ jobs) = ap (λ is. job.id ∷ is) (same_ids jobs)

pub are_stopped : (running : List ℕ) (jobs : List JobParts) (these : List ℕ) → these ≡ stopped_ids running jobs → AreStopped running jobs these
are_stopped running jobs these is = record {
  records = is;
  model = λ w runs.
      is
      ∙ same_ids (filter (λ job. is_stopped running (job_of job)) jobs)
      ∙ ap ids (sym (filter_changed (is_stopped running) job_of jobs))
      ∙ ap (λ r. ids (filter (is_stopped r) (jobs_of jobs))) (sym runs);
}
