-- How far the steps of a settle line have come.
use Rattle.std.specs.Prelude.{◌≡◌, ℕ, true, false, List, Option, Some, None}
use Rattle.row_model.specs.Fold.{Operator}
use Rattle.fleet_model.specs.Work.Scheduler.{Scheduler}
use Rattle.script_model.specs.Script.{Line}
use Rattle.script_model.specs.States.{Inputs, State}
use Rattle.script_model.specs.LineSteps.{OneCourse}
use Rattle.script_model.specs.Lines.Settles.{is_ok, Place, ToFinish, StepTaken, StepsLead, ComeInTurn}

-- What is given beside a script: the merge operator and the scheduler.
abbrev pub inputs_of : Operator → Scheduler → Inputs
inputs_of merge scheduler = record { merge = merge; scheduler = scheduler }

-- ---- one step

-- A step did what this line would do, and it was not refused.
pub record WentWell (inputs : Inputs) (number : ℕ) (line : Line) (old new : State) : Type 0 where
  pub replied : List ℕ
  pub does : OneCourse inputs number old line replied new
  pub ok : is_ok replied ≡ true

-- A step did what this line would do, and it was refused with this reply.
pub record WasRefused (inputs : Inputs) (number : ℕ) (line : Line) (old new : State) (answer : List ℕ) : Type 0 where
  pub does : OneCourse inputs number old line answer new
  pub refused : is_ok answer ≡ false

-- A step did what this line would do. If it was refused, there is its reply.
abbrev pub Stepped : Inputs → (number : ℕ) → Line → (old new : State) → Option (List ℕ) → Type 0
Stepped inputs number line old new None = WentWell inputs number line old new
Stepped inputs number line old new (Some answer) = WasRefused inputs number line old new answer

-- ---- several steps

-- A settle line that goes on from this place and state ends in the new state with this reply.
pub record Ends (inputs : Inputs) (number coordinator worker : ℕ) (place : Place) (old : State) (answer : List ℕ)
    (new : State) : Type 0 where
  pub steps : List StepTaken
  pub lead : StepsLead inputs number old steps new
  pub in_turn : ComeInTurn coordinator worker place old steps answer

-- Some steps bring a settle line from one place and state to another: the line ends from the first one as it
-- ends from the second one.
abbrev pub Leads : (inputs : Inputs) → (number coordinator worker : ℕ) → (place : Place) (old : State) (to : Place)
    (new : State) → Type 0
Leads inputs number coordinator worker place old to new = (answer : List ℕ) (last : State)
    → Ends inputs number coordinator worker to new answer last
    → Ends inputs number coordinator worker place old answer last

-- Some steps bring a settle line from the one place to the other. If there is a reply, they end the line instead.
abbrev pub Goes : (inputs : Inputs) → (number coordinator worker : ℕ) → (place : Place) (old : State) (to : Place)
    (new : State) (answer : Option (List ℕ)) → Type 0
Goes inputs number coordinator worker place old to new None = Leads inputs number coordinator worker place old to new
Goes inputs number coordinator worker place old to new (Some answer) =
    Ends inputs number coordinator worker place old answer new

-- The worker finished jobs until these others are left, whatever follows them. If there is a reply, a finish was
-- refused instead.
abbrev pub FinishesEach : (inputs : Inputs) → (number worker : ℕ) → (jobs : List ℕ) (old : State) (left : List ℕ)
    (new : State) (refused : Option (List ℕ)) → Type 0
FinishesEach inputs number worker jobs old left new refused = (coordinator rounds begun : ℕ)
    → Goes inputs number coordinator worker (ToFinish jobs rounds begun) old (ToFinish left rounds begun) new refused
