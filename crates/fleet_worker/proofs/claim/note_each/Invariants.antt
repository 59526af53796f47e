use Rattle.step_model.specs.Steps.ClaimSteps.{Claimed}
use Rattle.step_model.specs.Courses.Course.{Course, calls_each}
use Rattle.step_model.specs.Courses.StepEnds.{StepEnd}
use Rattle.fleet_claim.specs.Beginnings.{noted_events}
use Rattle.fleet_step.specs.Steps.{Leads}
use Rattle.fleet_worker.proofs.claim.note_each.Given as goal

-- So far the worker came to the notes that are left.
abbrev pub invariant-notes : goal.invariant-notes
invariant-notes g l =
    (rest : Course (StepEnd Claimed)) → Leads (calls_each (noted_events l.fn.notes.items) rest) (g.S.Store.view l.initial.store) (calls_each (noted_events l.note-iterator.rest.items) rest) (g.S.Store.view l.store)
