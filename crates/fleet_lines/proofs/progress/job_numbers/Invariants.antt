use Rattle.std.proofs.Common.{◌≡◌, ℕ, ◌≤◌, map, take}
use Rattle.std.specs.List.{All}
use Rattle.fleet_model.specs.Jobs.{number_of}
use Rattle.fleet_worker.specs.Workers.{AttemptParts}
use Rattle.fleet_lines.proofs.progress.job_numbers.Given as goal

-- The numbers so far are those of the first attempts, and none is 0.
abbrev pub invariant-attempts : goal.invariant-attempts
invariant-attempts l = record {
  numbers : l.numbers.items ≡ map (λ (a : AttemptParts). number_of a.job) (take l.attempt-index l.attempts);
  counted : All (λ (n : ℕ). 1 ≤ n) l.numbers.items;
}
