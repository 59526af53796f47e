-- The puts of the records by a poll are lawful whichever flushes went into the runs of its trees.
use Rattle.std.proofs.Common.{ℕ, zero, suc, cond, Bool, true, false}
use Rattle.std.specs.Prelude.{◌==◌, nat_lt}
use Rattle.fleet_model.specs.History.{Polled}
use Rattle.fleet_model.specs.Jobs.{trimmed_jobs}
use Rattle.fleet_model.specs.Nodes.{Trees}
use Rattle.fleet_model.specs.Store.{Records, Store}
use Rattle.fleet_model.specs.Work.PollStates.{PollState}
use Rattle.fleet_model.specs.Work.Polls.{change_of, is_nothing}
use Rattle.fleet_model.specs.Exchanges.{records_version}
use Rattle.step_model.specs.Past.{World}
use Rattle.step_model.specs.Rivals.{Caller}
use Rattle.step_model.specs.Courses.Course.{Course, Ends, gets_records, puts_records}
use Rattle.step_model.specs.Courses.CourseRuns.{IsLawfulCourse}
use Rattle.step_model.specs.Courses.StepEnds.{StepEnd, Reports, GivesUp, Fenced}
use Rattle.step_model.specs.Steps.PollSteps.{merged_into, puts_polled, records_or_none, unless_fenced}

-- The trees of a poll are in no put of the records, so the puts are lawful with others in their place.
pub other_trees : (who : Caller) (epoch : ℕ) (trees : Trees) (left : ℕ) (p : PollState) (got : Records) (seen : ℕ) (world : World)
    → IsLawfulCourse who world (puts_polled epoch p got left seen) → IsLawfulCourse who world (puts_polled epoch (record p { trees = trees }) got left seen)
other_trees who epoch trees zero p got seen world lawful = tt
other_trees who epoch trees (suc left) p got seen world lawful = by (is_nothing (change_of p)) lawful (λ newer seen at h. other_trees who epoch trees left (merged_into p newer.jobs) newer seen at h)
  where
    q : PollState
    q = record p { trees = trees }

    -- How the poll goes on after newer records, and after a refused put.
    over : PollState → (seen : ℕ) → Records → Course (StepEnd PollState)
    over p seen newer = unless_fenced epoch newer.epoch (puts_polled epoch (merged_into p newer.jobs) newer left seen)

    after_refusal : PollState → ℕ → Course (StepEnd PollState)
    after_refusal p seen = cond (left == 0) (Ends (GivesUp seen)) (gets_records (λ newer. over p seen (records_or_none newer)))

    Later : Type 0
    Later = (newer : Records) (seen : ℕ) (at : World) → IsLawfulCourse who at (puts_polled epoch (merged_into p newer.jobs) newer left seen) → IsLawfulCourse who at (puts_polled epoch (merged_into q newer.jobs) newer left seen)

    fenced : Later → (newer : Records) (seen : ℕ) (at : World) (b : Bool) → IsLawfulCourse who at (cond b (Ends (Fenced newer.epoch)) (puts_polled epoch (merged_into p newer.jobs) newer left seen))
        → IsLawfulCourse who at (cond b (Ends (Fenced newer.epoch)) (puts_polled epoch (merged_into q newer.jobs) newer left seen))
    fenced later newer seen at true h = tt
    fenced later newer seen at false h = later newer seen at h

    refused : Later → (seen : ℕ) (at : World) (b : Bool) → IsLawfulCourse who at (cond b (Ends (GivesUp seen)) (gets_records (λ newer. over p seen (records_or_none newer))))
        → IsLawfulCourse who at (cond b (Ends (GivesUp seen)) (gets_records (λ newer. over q seen (records_or_none newer))))
    refused later seen at true h = tt
    refused later seen at false h = λ met rivals room.
        let one = h met rivals room in
        let newer = records_or_none met.store.records in
        (one.0, fenced later newer seen _ (nat_lt epoch newer.epoch) one.1)

    put : Later → (met : Store) (at : World) (b : Bool) → IsLawfulCourse who at (cond b (Ends (Reports p)) (after_refusal p (records_version met.records))) → IsLawfulCourse who at (cond b (Ends (Reports q)) (after_refusal q (records_version met.records)))
    put later met at true h = tt
    put later met at false h = refused later (records_version met.records) at (left == 0) h

    by : (b : Bool) → IsLawfulCourse who world (cond b (Ends (Reports p)) (puts_records got (Polled (change_of p)) got.epoch (trimmed_jobs p.jobs) (Ends (Reports p)) (after_refusal p))) → Later
        → IsLawfulCourse who world (cond b (Ends (Reports q)) (puts_records got (Polled (change_of p)) got.epoch (trimmed_jobs p.jobs) (Ends (Reports q)) (after_refusal q)))
    by true h later = tt
    by false h later = λ met rivals room. let one = h met rivals room in (one.0, put later met.store _ (got.version == records_version met.store.records) one.1)
