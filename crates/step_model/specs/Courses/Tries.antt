-- A step that is tried again after each refused put.
use Rattle.std.specs.Prelude.{ℕ, zero, suc}
use Rattle.step_model.specs.Courses.Course.{Course, Ends}
use Rattle.step_model.specs.Courses.StepEnds.{StepEnd, GivesUp}

-- One try of a step. A refused put goes on with the argument, which is given the version that the put met.
abbrev pub Try : Type 0 → Type 0
Try A = (ℕ → Course (StepEnd A)) → Course (StepEnd A)

-- At most `left` tries, one after each refused put. After the last one the step gives up, and shows the version
-- `seen` that its last refused put met. A try is given how many tries may follow it, and that version.
abbrev pub counted_tries : {A : Type 0} → ((left seen : ℕ) → Try A) → (left seen : ℕ) → Course (StepEnd A)
counted_tries one_try zero seen = Ends (GivesUp seen)
counted_tries one_try (suc left) seen = one_try left seen (counted_tries one_try left)

-- The same for a step whose tries are all alike.
abbrev pub tries : {A : Type 0} → Try A → (left seen : ℕ) → Course (StepEnd A)
tries one_try left seen = counted_tries (λ left seen. one_try) left seen
