-- The steps of a settle line, one after the other.
use Rattle.std.proofs.Common.{◌≡◌, refl, sym, ◌∙◌, ap, ℕ, List, [], ◌∷◌, true, false, Option, Some, None}
use Rattle.std.specs.Prelude.{is_some}
use Rattle.script_model.specs.Script.{Line, FinishJob}
use Rattle.script_model.specs.States.{Inputs, State}
use Rattle.script_model.specs.Lines.Settles.{Place, ToFinish, Takes, Answers, next_turn, StepTaken, StepsLead, ComeInTurn}
use Rattle.fleet_settle.specs.Steps.{Ends, FinishesEach, Goes, Leads, Stepped, WasRefused, WentWell}

module _ (inputs : Inputs) (number coordinator worker : ℕ) where
  -- ---- one step, or the end

  -- At this place the line replies.
  pub ends_here : (place : Place) (s : State) (answer : List ℕ) → next_turn coordinator worker place s ≡ Answers answer → Ends inputs number coordinator worker place s answer s
  ends_here place s answer turn = record { steps = []; lead = refl; in_turn = turn }

  step_leads : (place to : Place) (line : Line) (old new : State) → next_turn coordinator worker place old ≡ Takes line to → WentWell inputs number line old new → Leads inputs number coordinator worker place old to new
  step_leads place to line old new turn went answer last ends = record {
    steps = record { line = line; reply = went.replied; after = new } ∷ ends.steps;
    lead = (went.does, ends.lead);
    in_turn = (to, turn, (λ ok. ends.in_turn), (λ refused. absurd (differ (sym went.ok ∙ refused))));
  }
    where
      differ : true ≡ false → ⊥
      differ e = absurd (cc e)

  step_ends : (place to : Place) (line : Line) (old new : State) (answer : List ℕ) → next_turn coordinator worker place old ≡ Takes line to → WasRefused inputs number line old new answer → Ends inputs number coordinator worker place old answer new
  step_ends place to line old new answer turn was = record {
    steps = record { line = line; reply = answer; after = new } ∷ [];
    lead = (was.does, refl);
    in_turn = (to, turn, (λ ok. absurd (differ (sym ok ∙ was.refused))), (λ refused. (refl, refl)));
  }
    where
      differ : true ≡ false → ⊥
      differ e = absurd (cc e)

  -- A step that is next at this place.
  pub step_goes : (place to : Place) (line : Line) (old new : State) (refused : Option (List ℕ)) → next_turn coordinator worker place old ≡ Takes line to → Stepped inputs number line old new refused → Goes inputs number coordinator worker place old to new refused
  step_goes place to line old new None turn stepped = step_leads place to line old new turn stepped
  step_goes place to line old new (Some answer) turn stepped = step_ends place to line old new answer turn stepped

  -- A step without a reply went well.
  pub not_refused : (line : Line) (old new : State) (refused : Option (List ℕ)) → is_some refused ≡ false → Stepped inputs number line old new refused → Stepped inputs number line old new None
  not_refused line old new None none stepped = stepped
  not_refused line old new (Some answer) none stepped = absurd (cc none)

  -- ---- places at which the same follows

  same_ends : (place other : Place) (s : State) (answer : List ℕ) (last : State) → next_turn coordinator worker place s ≡ next_turn coordinator worker other s → Ends inputs number coordinator worker other s answer last → Ends inputs number coordinator worker place s answer last
  same_ends place other s answer last same ends = by ends.steps ends.lead ends.in_turn
    where
      by : (steps : List StepTaken) → StepsLead inputs number s steps last → ComeInTurn coordinator worker other s steps answer → Ends inputs number coordinator worker place s answer last
      by [] lead turn = record { steps = []; lead = lead; in_turn = same ∙ turn }
      by (step ∷ steps) lead turn = record { steps = step ∷ steps; lead = lead; in_turn = (turn.0, same ∙ turn.1, turn.2, turn.3) }

  -- The same follows at another place before the steps.
  pub goes_from : (place other to : Place) (old new : State) (ended : Option (List ℕ)) → next_turn coordinator worker place old ≡ next_turn coordinator worker other old → Goes inputs number coordinator worker other old to new ended → Goes inputs number coordinator worker place old to new ended
  goes_from place other to old new None same goes = λ answer last ends. same_ends place other old answer last same (goes answer last ends)
  goes_from place other to old new (Some answer) same ends = same_ends place other old answer new same ends

  -- The same follows at another place after the steps.
  pub goes_to : (place to other : Place) (old new : State) (ended : Option (List ℕ)) → next_turn coordinator worker to new ≡ next_turn coordinator worker other new → Goes inputs number coordinator worker place old to new ended → Goes inputs number coordinator worker place old other new ended
  goes_to place to other old new None same goes = λ answer last ends. goes answer last (same_ends to other new answer last same ends)
  goes_to place to other old new (Some answer) same ends = ends

  -- Steps that end the line end it wherever else they might have led.
  pub ended_goes : (place to other : Place) (old new : State) (ended : Option (List ℕ)) → is_some ended ≡ true → Goes inputs number coordinator worker place old to new ended → Goes inputs number coordinator worker place old other new ended
  ended_goes place to other old new None some goes = absurd (cc some)
  ended_goes place to other old new (Some answer) some goes = goes

  -- Steps after steps.
  pub then_goes : (place mid to : Place) (old between new : State) (ended : Option (List ℕ)) → Leads inputs number coordinator worker place old mid between → Goes inputs number coordinator worker mid between to new ended → Goes inputs number coordinator worker place old to new ended
  then_goes place mid to old between new None first next = λ answer last ends. first answer last (next answer last ends)
  then_goes place mid to old between new (Some answer) first next = first answer new next

-- ---- the finishes

module _ (inputs : Inputs) (number worker : ℕ) (jobs : List ℕ) (old : State) where
  -- One more is finished, or its finish is refused.
  pub finish_more : (left : List ℕ) (job : ℕ) (rest : List ℕ) (mid new : State) (refused : Option (List ℕ)) → left ≡ job ∷ rest → FinishesEach inputs number worker jobs old left mid None → Stepped inputs number (FinishJob worker job) mid new refused → FinishesEach inputs number worker jobs old rest new refused
  finish_more left job rest mid new refused is so_far stepped = λ coordinator rounds begun.
      then_goes inputs number coordinator worker (ToFinish jobs rounds begun) (ToFinish left rounds begun) (ToFinish rest rounds begun) old mid new refused (so_far coordinator rounds begun)
      (step_goes inputs number coordinator worker (ToFinish left rounds begun) (ToFinish rest rounds begun) (FinishJob worker job) mid new refused (ap (λ js. next_turn coordinator worker (ToFinish js rounds begun) mid) is) stepped)

  -- A finish that is not refused is followed by the next one.
  pub finish_on : (left : List ℕ) (new : State) (refused : Option (List ℕ)) → is_some refused ≡ false → FinishesEach inputs number worker jobs old left new refused → FinishesEach inputs number worker jobs old left new None
  finish_on left new None none so_far = so_far
  finish_on left new (Some answer) none so_far = absurd (cc none)

  -- A refused finish is the last one.
  pub finish_ends : (left : List ℕ) (new : State) (refused : Option (List ℕ)) → is_some refused ≡ true → FinishesEach inputs number worker jobs old left new refused → FinishesEach inputs number worker jobs old [] new refused
  finish_ends left new refused some so_far = λ coordinator rounds begun.
      ended_goes inputs number coordinator worker (ToFinish jobs rounds begun) (ToFinish left rounds begun) (ToFinish [] rounds begun) old new refused some (so_far coordinator rounds begun)
