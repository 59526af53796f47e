use Rattle.std.proofs.Common.{◌≡◌, ℕ, drop, take}
use Rattle.std.specs.Prelude.{None, Some}
use Rattle.std.specs.List.{AllByRecursion}
use Rattle.fleet_model.specs.Work.Polls.{add_drawn}
use Rattle.fleet_tree.specs.Trees.{RunFlushes}
use Rattle.fleet_jobs.specs.Parts.JobParts.{JobParts}
use Rattle.fleet_history.specs.Changes.{new_specs}
use Rattle.fleet_book.specs.Records.{record_with}
use Rattle.fleet_book.specs.States.{own_jobs}
use Rattle.fleet_poll.specs.Loops.{StillSees}
use Rattle.fleet_poll.specs.Polls.{HasSameObjects, poll_of}
use Rattle.fleet_poll.proofs.poll.Poll.add_drawn.Given as goal

-- The first proposals are added or dropped. No job has the id of a later one, and the jobs that
-- were there stay as they are. What an input said it still says, and the same jobs are lost.
abbrev pub invariant-drawn : goal.invariant-drawn
invariant-drawn l = ((flushes : RunFlushes) → poll_of flushes l.self ≡ add_drawn 1 (new_specs (take l.place l.drawn)) (poll_of flushes l.initial.self))
    × (HasSameObjects l.initial.self.state l.self.state × (AllByRecursion (λ d. record_with d.0 (own_jobs l.self.state) ≡ None) (drop l.place l.drawn)
    × (((id : ℕ) (job : JobParts) → record_with id (own_jobs l.initial.self.state) ≡ Some job → record_with id (own_jobs l.self.state) ≡ Some job)
    × (StillSees l.initial.self.state l.self.state × (l.self.lost ≡ l.initial.self.lost)))))
