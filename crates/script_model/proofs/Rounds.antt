-- A settle line, step by step: what follows each step is said of the state after it.
use Rattle.std.proofs.Common.{◌≡◌, refl, sym, ◌∙◌, ap, subst, ℕ, zero, suc, ◌+◌, List, [], ◌∷◌, Bool, true, false}
use Rattle.script_model.specs.Script.{Line, Poll, ClaimJobs, FinishJob}
use Rattle.script_model.specs.States.{Inputs, State}
use Rattle.script_model.specs.LineSteps.{OneCourse}
use Rattle.script_model.specs.Lines.Settles.{is_ok, has_active, has_added, jobs_run, settled_reply, all_taken, Place, BeforePoll, HasPolled, HasClaimed, ToFinish, Turn, Takes, Answers, next_round, next_claim, next_finish, next_turn, StepTaken, StepsLead, ComeInTurn, SettleRun}

-- What follows a step of a settle line. If the step's reply is ok, the rest of the line follows.
-- Otherwise the step's reply is that of the line, and the state after the step is the state after
-- the line.
abbrev pub EndsOr : Bool → List ℕ → State → List ℕ → State → Type 0 → Type 0
EndsOr true replied after answer new rest = rest
EndsOr false replied after answer new rest = (answer ≡ replied) × (new ≡ after)

-- One step of a settle line: it does what this line alone would do, and `Rest` goes on from the
-- state after it.
pub record Step (inputs : Inputs) (number : ℕ) (line : Line) (old : State) (answer : List ℕ) (new : State) (Rest : State → Type 0) : Type 0 where
  pub replied : List ℕ
  pub after : State
  pub does : OneCourse inputs number old line replied after
  pub rest : EndsOr (is_ok replied) replied after answer new (Rest after)

-- The worker finishes these jobs in order. Then `Rest` goes on.
abbrev pub FinishesInTurn : Inputs → ℕ → ℕ → List ℕ → State → List ℕ → State → (State → Type 0) → Type 0
FinishesInTurn inputs number worker [] s answer new Rest = Rest s
FinishesInTurn inputs number worker (job ∷ jobs) s answer new Rest = Step inputs number (FinishJob worker job) s answer new (λ after. FinishesInTurn inputs number worker jobs after answer new Rest)

-- What follows the poll of a round. If a stored job is active, the worker claims jobs and finishes
-- all that it runs, and the next round follows. If none is active but the poll added a job, the
-- next round follows. Otherwise the line has settled.
abbrev pub AfterPoll : (active added : Bool) → Inputs → ℕ → ℕ → ℕ → State → List ℕ → State → (State → Type 0) → Type 0
AfterPoll true added inputs number worker round s answer new Next = Step inputs number (ClaimJobs worker) s answer new (λ claimed. FinishesInTurn inputs number worker (jobs_run worker claimed) claimed answer new Next)
AfterPoll false true inputs number worker round s answer new Next = Next s
AfterPoll false false inputs number worker round s answer new Next = (answer ≡ settled_reply round) × (new ≡ s)

-- The rounds of a settle line, where `taken` rounds are over and `left` may follow. If no more may
-- follow, the reply says how many were taken.
abbrev pub Rounds : Inputs → ℕ → ℕ → ℕ → (left taken : ℕ) → State → List ℕ → State → Type 0
Rounds inputs number coordinator worker zero taken s answer new = (answer ≡ all_taken taken) × (new ≡ s)
Rounds inputs number coordinator worker (suc left) taken s answer new =
    Step inputs number (Poll coordinator) s answer new (λ after.
    AfterPoll (has_active after) (has_added coordinator after) inputs number worker (taken + 1) after answer new (λ next. Rounds inputs number coordinator worker left (taken + 1) next answer new))

-- ---- from the list of steps

module _ (inputs : Inputs) (number coordinator worker : ℕ) (answer : List ℕ) (new : State) where
  -- What follows from a place on.
  abbrev OfPlace : Place → State → Type 0
  OfPlace (BeforePoll left begun) s = Rounds inputs number coordinator worker left begun s answer new
  OfPlace (HasPolled left begun) s =
      AfterPoll (has_active s) (has_added coordinator s) inputs number worker begun s answer new (λ next. Rounds inputs number coordinator worker left begun next answer new)
  OfPlace (HasClaimed left begun) s = FinishesInTurn inputs number worker (jobs_run worker s) s answer new (λ next. Rounds inputs number coordinator worker left begun next answer new)
  OfPlace (ToFinish jobs left begun) s = FinishesInTurn inputs number worker jobs s answer new (λ next. Rounds inputs number coordinator worker left begun next answer new)

  -- What follows from a turn on.
  abbrev OfTurn : Turn → State → Type 0
  OfTurn (Takes line to) s = Step inputs number line s answer new (λ after. OfPlace to after)
  OfTurn (Answers reply) s = (answer ≡ reply) × (new ≡ s)

  of_round : (left begun : ℕ) (s : State) → OfTurn (next_round coordinator left begun) s → Rounds inputs number coordinator worker left begun s answer new
  of_round zero begun s h = h
  of_round (suc left) begun s h = h

  of_claim : (active added : Bool) (left begun : ℕ) (s : State) → OfTurn (next_claim active added coordinator worker left begun) s
      → AfterPoll active added inputs number worker begun s answer new (λ next. Rounds inputs number coordinator worker left begun next answer new)
  of_claim true added left begun s h = h
  of_claim false true left begun s h = of_round left begun s h
  of_claim false false left begun s h = h

  of_finish : (jobs : List ℕ) (left begun : ℕ) (s : State) → OfTurn (next_finish coordinator worker jobs left begun) s
      → FinishesInTurn inputs number worker jobs s answer new (λ next. Rounds inputs number coordinator worker left begun next answer new)
  of_finish [] left begun s h = of_round left begun s h
  of_finish (job ∷ jobs) left begun s h = h

  of_turn : (place : Place) (s : State) → OfTurn (next_turn coordinator worker place s) s → OfPlace place s
  of_turn (BeforePoll left begun) s h = of_round left begun s h
  of_turn (HasPolled left begun) s h = of_claim (has_active s) (has_added coordinator s) left begun s h
  of_turn (HasClaimed left begun) s h = of_finish (jobs_run worker s) left begun s h
  of_turn (ToFinish jobs left begun) s h = of_finish jobs left begun s h

  of_steps : (steps : List StepTaken) (place : Place) (s : State) → StepsLead inputs number s steps new → ComeInTurn coordinator worker place s steps answer → OfPlace place s
  of_steps [] place s lead turn = of_turn place s (subst (λ (t : Turn). OfTurn t s) (sym turn) (refl, lead))
  of_steps (step ∷ steps) place s (one, lead) (to, is, on, stops) =
      of_turn place s (subst (λ (t : Turn). OfTurn t s) (sym is) (record { replied = step.reply; after = step.after; does = one; rest = by (λ turn. of_steps steps to step.after lead turn) (is_ok step.reply) refl }))
    where
      by : (ComeInTurn coordinator worker to step.after steps answer → OfPlace to step.after) → (b : Bool) → is_ok step.reply ≡ b → EndsOr b step.reply step.after answer new (OfPlace to step.after)
      by rest true e = rest (on e)
      by rest false e = ((stops e).1, subst (λ (left : List StepTaken). StepsLead inputs number step.after left new) (stops e).0 lead)

-- The run of a settle line, step by step.
pub settle_unfolds : (inputs : Inputs) (number coordinator worker rounds : ℕ) (old : State) (answer : List ℕ) (new : State) → SettleRun inputs number coordinator worker rounds old answer new
    → Rounds inputs number coordinator worker rounds 0 old answer new
settle_unfolds inputs number coordinator worker rounds old answer new run = of_steps inputs number coordinator worker answer new run.steps (BeforePoll rounds 0) old run.lead run.in_turn

-- ---- to the list of steps

module _ (inputs : Inputs) (number coordinator worker : ℕ) (answer : List ℕ) (new : State) where
  -- The steps from a place on.
  record RunFrom (place : Place) (s : State) : Type 0 where
    steps : List StepTaken
    lead : StepsLead inputs number s steps new
    in_turn : ComeInTurn coordinator worker place s steps answer

  no_step : (place : Place) (s : State) (reply : List ℕ) → next_turn coordinator worker place s ≡ Answers reply → (answer ≡ reply) × (new ≡ s) → RunFrom place s
  no_step place s reply is h = record { steps = []; lead = h.1; in_turn = is ∙ ap Answers (sym h.0) }

  -- If the next turn takes a line and steps go on from the place after it, steps go on from this place.
  one_step : (line : Line) (place to : Place) (s : State) (Rest : State → Type 0) → next_turn coordinator worker place s ≡ Takes line to → ((after : State) → Rest after → RunFrom to after)
      → Step inputs number line s answer new Rest → RunFrom place s
  one_step line place to s Rest is goes step = by (is_ok step.replied) refl step.rest
    where
      taken : StepTaken
      taken = record { line = line; reply = step.replied; after = step.after }

      by : (b : Bool) → is_ok step.replied ≡ b → EndsOr b step.replied step.after answer new (Rest step.after) → RunFrom place s
      by true e rest =
          let more = goes step.after rest in
          record { steps = taken ∷ more.steps; lead = (step.does, more.lead); in_turn = (to, is, (λ ok. more.in_turn), λ refused. absurd (cc (e, refused))) }
      by false e rest = record { steps = taken ∷ []; lead = (step.does, rest.1); in_turn = (to, is, (λ ok. absurd (cc (e, ok))), λ refused. (refl, rest.0)) }

  -- The next round goes on by steps.
  abbrev RoundGoes : (left begun : ℕ) → Type 0
  RoundGoes left begun = (place : Place) (s : State) → next_turn coordinator worker place s ≡ next_round coordinator left begun → Rounds inputs number coordinator worker left begun s answer new → RunFrom place s

  finish_steps : (jobs : List ℕ) (left begun : ℕ) (place : Place) (s : State) → RoundGoes left begun → next_turn coordinator worker place s ≡ next_finish coordinator worker jobs left begun
      → FinishesInTurn inputs number worker jobs s answer new (λ next. Rounds inputs number coordinator worker left begun next answer new) → RunFrom place s
  finish_steps [] left begun place s goes is h = goes place s is h
  finish_steps (job ∷ jobs) left begun place s goes is step =
      one_step (FinishJob worker job) place (ToFinish jobs left begun) s (λ after. FinishesInTurn inputs number worker jobs after answer new (λ next. Rounds inputs number coordinator worker left begun next answer new)) is
      (λ after rest. finish_steps jobs left begun (ToFinish jobs left begun) after goes refl rest) step

  claim_steps : (active added : Bool) (left begun : ℕ) (place : Place) (s : State) → RoundGoes left begun → next_turn coordinator worker place s ≡ next_claim active added coordinator worker left begun
      → AfterPoll active added inputs number worker begun s answer new (λ next. Rounds inputs number coordinator worker left begun next answer new) → RunFrom place s
  claim_steps true added left begun place s goes is step =
      one_step (ClaimJobs worker) place (HasClaimed left begun) s
      (λ claimed. FinishesInTurn inputs number worker (jobs_run worker claimed) claimed answer new (λ next. Rounds inputs number coordinator worker left begun next answer new)) is
      (λ claimed rest. finish_steps (jobs_run worker claimed) left begun (HasClaimed left begun) claimed goes refl rest) step
  claim_steps false true left begun place s goes is h = goes place s is h
  claim_steps false false left begun place s goes is h = no_step place s (settled_reply begun) is h

  round_steps : (left begun : ℕ) → RoundGoes left begun
  round_steps zero begun place s is h = no_step place s (all_taken begun) is h
  round_steps (suc left) begun place s is step =
      one_step (Poll coordinator) place (HasPolled left (begun + 1)) s
      (λ after. AfterPoll (has_active after) (has_added coordinator after) inputs number worker (begun + 1) after answer new (λ next. Rounds inputs number coordinator worker left (begun + 1) next answer new)) is
      (λ after rest. claim_steps (has_active after) (has_added coordinator after) left (begun + 1) (HasPolled left (begun + 1)) after (round_steps left (begun + 1)) refl rest) step

pub settle_folds : (inputs : Inputs) (number coordinator worker rounds : ℕ) (old : State) (answer : List ℕ) (new : State) → Rounds inputs number coordinator worker rounds 0 old answer new
    → SettleRun inputs number coordinator worker rounds old answer new
settle_folds inputs number coordinator worker rounds old answer new run =
    let r = round_steps inputs number coordinator worker answer new rounds 0 (BeforePoll rounds 0) old refl run in
    record { steps = r.steps; lead = r.lead; in_turn = r.in_turn }
