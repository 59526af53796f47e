-- Rounds that lower a count settle, or a step is refused.
use Rattle.std.proofs.Common.{◌≡◌, refl, sym, ◌∙◌, ap, subst, ℕ, zero, suc, ◌+◌, ◌<◌, ◌≤◌, List, [], ◌∷◌, Bool, true, false, arith}
use Rattle.std.specs.Prelude.{IsTrue, ⊤}
use Rattle.script_model.specs.Script.{Line, Poll, ClaimJobs, FinishJob}
use Rattle.script_model.specs.States.{Inputs, State}
use Rattle.script_model.specs.LineSteps.{OneCourse}
use Rattle.script_model.specs.Lines.Settles.{is_ok, has_active, has_added, jobs_run}
use Rattle.script_model.proofs.Rounds.{settle_unfolds, EndsOr, Step, FinishesInTurn, AfterPoll, Rounds}
use Rattle.last_laws.specs.Rounds.{WentWell, FinishedAll, WorkedOn, Round, HasSettled, CountedRoundsSettle}

-- A step of a line whose reply is ok went well.
well : (inputs : Inputs) (number : ℕ) (line : Line) (old : State) (answer : List ℕ) (new : State) (Rest : State → Type 0) → Step inputs number line old answer new Rest → is_ok answer ≡ true → WentWell inputs number line old Rest
well inputs number line old answer new Rest step ok = by (is_ok step.replied) refl step.rest
  where
    by : (b : Bool) → is_ok step.replied ≡ b → EndsOr b step.replied step.after answer new (Rest step.after) → WentWell inputs number line old Rest
    by true e rest = record { replied = step.replied; after = step.after; does = step.does; ok = e; rest = rest }
    by false e rest = let same = ap is_ok rest.0 in absurd (cc (same, ok, e))

-- The same step, with something else said of the state after it.
after_well : (inputs : Inputs) (number : ℕ) (line : Line) (old : State) (One Other : State → Type 0) → (w : WentWell inputs number line old One) → Other w.after → WentWell inputs number line old Other
after_well inputs number line old One Other w rest = record { replied = w.replied; after = w.after; does = w.does; ok = w.ok; rest = rest }

-- The finishes of a line, up to the state from which it goes on.
record Finishes (inputs : Inputs) (number worker : ℕ) (jobs : List ℕ) (old : State) (Rest : State → Type 0) : Type 0 where
  next : State
  all : FinishedAll inputs number worker jobs old next
  rest : Rest next

-- The finishes of a line whose reply is ok all went well.
finishes_well : (inputs : Inputs) (number worker : ℕ) (jobs : List ℕ) (s : State) (answer : List ℕ) (new : State) (Rest : State → Type 0) → FinishesInTurn inputs number worker jobs s answer new Rest → is_ok answer ≡ true
    → Finishes inputs number worker jobs s Rest
finishes_well inputs number worker [] s answer new Rest rest ok = record { next = s; all = refl; rest = rest }
finishes_well inputs number worker (job ∷ jobs) s answer new Rest step ok =
    let w = well inputs number (FinishJob worker job) s answer new (λ after. FinishesInTurn inputs number worker jobs after answer new Rest) step ok in
    let f = finishes_well inputs number worker jobs w.after answer new Rest w.rest ok in
    record {
      next = f.next;
      all = after_well inputs number (FinishJob worker job) s (λ after. FinishesInTurn inputs number worker jobs after answer new Rest) (λ after. FinishedAll inputs number worker jobs after f.next) w f.all;
      rest = f.rest;
    }

-- A line that went on with another round after this one.
record OneRound (inputs : Inputs) (number coordinator worker : ℕ) (old : State) (Rest : State → Type 0) : Type 0 where
  next : State
  round : Round inputs number coordinator worker old next
  rest : Rest next

later_settled : (inputs : Inputs) (number coordinator : ℕ) (Kept : State → Type 0) (few many : ℕ) (answer : List ℕ) (new : State) → few ≤ many → HasSettled inputs number coordinator Kept few answer new → HasSettled inputs number coordinator Kept many answer new
later_settled inputs number coordinator Kept few many answer new low h =
    let in_time = h.in_time in
    record { round = h.round; says = h.says; in_time = omega (arith, low, in_time); last = h.last; kept = h.kept; polled = h.polled; none_active = h.none_active; none_added = h.none_added }

-- What is asked of the last state of a line, and so of the states before it.
abbrev pub GoesBack : Inputs → (State → Type 0) → Type 0
GoesBack inputs Fits = (number : ℕ) (line : Line) (old : State) (answer : List ℕ) (new : State) → OneCourse inputs number old line answer new → Fits new → Fits old

step_back : (inputs : Inputs) (number : ℕ) (line : Line) (old : State) (answer : List ℕ) (new : State) (Fits Rest : State → Type 0) → GoesBack inputs Fits → ((after : State) → Rest after → Fits after)
    → Step inputs number line old answer new Rest → Fits new → Fits old
step_back inputs number line old answer new Fits Rest back next step fits = back number line old step.replied step.after step.does (by (is_ok step.replied) step.rest)
  where
    by : (b : Bool) → EndsOr b step.replied step.after answer new (Rest step.after) → Fits step.after
    by true rest = next step.after rest
    by false rest = subst Fits rest.1 fits

finishes_back : (inputs : Inputs) (number worker : ℕ) (jobs : List ℕ) (s : State) (answer : List ℕ) (new : State) (Fits Rest : State → Type 0) → GoesBack inputs Fits → ((after : State) → Rest after → Fits after)
    → FinishesInTurn inputs number worker jobs s answer new Rest → Fits new → Fits s
finishes_back inputs number worker [] s answer new Fits Rest back next rest fits = next s rest
finishes_back inputs number worker (job ∷ jobs) s answer new Fits Rest back next step fits =
    step_back inputs number (FinishJob worker job) s answer new Fits (λ after. FinishesInTurn inputs number worker jobs after answer new Rest) back
    (λ after rest. finishes_back inputs number worker jobs after answer new Fits Rest back next rest fits) step fits

after_poll_back : (active added : Bool) (inputs : Inputs) (number worker round : ℕ) (s : State) (answer : List ℕ) (new : State) (Fits Next : State → Type 0) → GoesBack inputs Fits → ((after : State) → Next after → Fits after)
    → AfterPoll active added inputs number worker round s answer new Next → Fits new → Fits s
after_poll_back true added inputs number worker round s answer new Fits Next back next step fits =
    step_back inputs number (ClaimJobs worker) s answer new Fits (λ claimed. FinishesInTurn inputs number worker (jobs_run worker claimed) claimed answer new Next) back
    (λ claimed rest. finishes_back inputs number worker (jobs_run worker claimed) claimed answer new Fits Next back next rest fits) step fits
after_poll_back false true inputs number worker round s answer new Fits Next back next rest fits = next s rest
after_poll_back false false inputs number worker round s answer new Fits Next back next rest fits = subst Fits rest.1 fits

rounds_back : (inputs : Inputs) (number coordinator worker left taken : ℕ) (s : State) (answer : List ℕ) (new : State) (Fits : State → Type 0) → GoesBack inputs Fits → Rounds inputs number coordinator worker left taken s answer new → Fits new → Fits s
rounds_back inputs number coordinator worker zero taken s answer new Fits back rest fits = subst Fits rest.1 fits
rounds_back inputs number coordinator worker (suc left) taken s answer new Fits back step fits =
    step_back inputs number (Poll coordinator) s answer new Fits
    (λ after. AfterPoll (has_active after) (has_added coordinator after) inputs number worker (taken + 1) after answer new (λ next. Rounds inputs number coordinator worker left (taken + 1) next answer new)) back
    (λ after rest. after_poll_back (has_active after) (has_added coordinator after) inputs number worker (taken + 1) after answer new Fits (λ next. Rounds inputs number coordinator worker left (taken + 1) next answer new) back
    (λ next more. rounds_back inputs number coordinator worker left (taken + 1) next answer new Fits back more fits) rest fits) step fits

-- Each round that goes on to a state that fits keeps what is kept, and lowers the count.
abbrev pub FittingRoundsLower : Inputs → (number coordinator worker : ℕ) → (Kept Fits : State → Type 0) → (State → ℕ) → Type 0
FittingRoundsLower inputs number coordinator worker Kept Fits count = (old new : State) → Kept old → Fits new → Round inputs number coordinator worker old new → Kept new × (count new < count old)

-- By recursion on the rounds that are left. Each round lowers the count, so one of them settles.
rounds_settle : (inputs : Inputs) (number coordinator worker : ℕ) (Kept Fits : State → Type 0) (count : State → ℕ) → GoesBack inputs Fits → FittingRoundsLower inputs number coordinator worker Kept Fits count
    → (left taken : ℕ) (old : State) (answer : List ℕ) (new : State) → Kept old → Fits new → count old < left → Rounds inputs number coordinator worker left taken old answer new → is_ok answer ≡ true
    → HasSettled inputs number coordinator Kept (taken + count old + 1) answer new
rounds_settle inputs number coordinator worker Kept Fits count back lower zero taken old answer new kept fits low run ok = absurd (omega (arith, low))
rounds_settle inputs number coordinator worker Kept Fits count back lower (suc left) taken old answer new kept fits low step ok =
    by (rounds_settle inputs number coordinator worker Kept Fits count back lower left (taken + 1))
    (well inputs number (Poll coordinator) old answer new (λ after. AfterPoll (has_active after) (has_added coordinator after) inputs number worker (taken + 1) after answer new (Next)) step ok)
  where
    Next : State → Type 0
    Next next = Rounds inputs number coordinator worker left (taken + 1) next answer new

    Later : Type 0
    Later = (old : State) (answer : List ℕ) (new : State) → Kept old → Fits new → count old < left → Rounds inputs number coordinator worker left (taken + 1) old answer new → is_ok answer ≡ true → HasSettled inputs number coordinator Kept (taken + 1 + count old + 1) answer new

    on : Later → OneRound inputs number coordinator worker old Next → HasSettled inputs number coordinator Kept (taken + count old + 1) answer new
    on later r =
        let next = lower old r.next kept (rounds_back inputs number coordinator worker left (taken + 1) r.next answer new Fits back r.rest fits) r.round in
        let less = next.1 in
        later_settled inputs number coordinator Kept (taken + 1 + count r.next + 1) (taken + count old + 1) answer new (omega (arith, less)) (later r.next answer new next.0 fits (omega (arith, less, low)) r.rest ok)

    work : Later → (active added : Bool) → (w : WentWell inputs number (Poll coordinator) old (λ after. AfterPoll (has_active after) (has_added coordinator after) inputs number worker (taken + 1) after answer new Next))
        → has_active w.after ≡ active → has_added coordinator w.after ≡ added → AfterPoll active added inputs number worker (taken + 1) w.after answer new Next → HasSettled inputs number coordinator Kept (taken + count old + 1) answer new
    work later true added w e f step =
        let c = well inputs number (ClaimJobs worker) w.after answer new (λ claimed. FinishesInTurn inputs number worker (jobs_run worker claimed) claimed answer new Next) step ok in
        let d = finishes_well inputs number worker (jobs_run worker c.after) c.after answer new Next c.rest ok in
        let worked : WorkedOn true added inputs number worker w.after d.next = after_well inputs number (ClaimJobs worker) w.after (λ claimed. FinishesInTurn inputs number worker (jobs_run worker claimed) claimed answer new Next)
        (λ claimed. FinishedAll inputs number worker (jobs_run worker claimed) claimed d.next) c d.all in
        on later (record {
          next = d.next;
          round = record { replied = w.replied; after = w.after; does = w.does; ok = w.ok; rest = subst (λ b. WorkedOn b (has_added coordinator w.after) inputs number worker w.after d.next) (sym e) (subst (λ b. WorkedOn true b inputs number worker w.after d.next) (sym f) worked) };
          rest = d.rest;
        })
    work later false true w e f rest =
        on later (record {
          next = w.after;
          round = record { replied = w.replied; after = w.after; does = w.does; ok = w.ok; rest = subst (λ b. WorkedOn b (has_added coordinator w.after) inputs number worker w.after w.after) (sym e) (subst (λ b. WorkedOn false b inputs number worker w.after w.after) (sym f) refl) };
          rest = rest;
        })
    work later false false w e f rest = record {
      round = taken + 1;
      says = rest.0;
      in_time = omega arith;
      last = old;
      kept = kept;
      polled = record { replied = w.replied; after = w.after; does = w.does; ok = w.ok; rest = rest.1 };
      none_active = ap has_active rest.1 ∙ e;
      none_added = ap (has_added coordinator) rest.1 ∙ f;
    }

    by : Later → WentWell inputs number (Poll coordinator) old (λ after. AfterPoll (has_active after) (has_added coordinator after) inputs number worker (taken + 1) after answer new Next) → HasSettled inputs number coordinator Kept (taken + count old + 1) answer new
    by later w = work later (has_active w.after) (has_added coordinator w.after) w refl refl w.rest

-- The rounds of a whole line, whatever is kept.
pub all_rounds_settle : (inputs : Inputs) (number coordinator worker : ℕ) (Kept Fits : State → Type 0) (count : State → ℕ) → GoesBack inputs Fits → FittingRoundsLower inputs number coordinator worker Kept Fits count
    → (rounds : ℕ) (old : State) (answer : List ℕ) (new : State) → Kept old → Fits new → count old < rounds → Rounds inputs number coordinator worker rounds 0 old answer new → is_ok answer ≡ true
    → HasSettled inputs number coordinator Kept (count old + 1) answer new
all_rounds_settle inputs number coordinator worker Kept Fits count back lower rounds old answer new kept fits low run ok =
    later_settled inputs number coordinator Kept (0 + count old + 1) (count old + 1) answer new (omega arith) (rounds_settle inputs number coordinator worker Kept Fits count back lower rounds 0 old answer new kept fits low run ok)

pub counted_rounds_settle : CountedRoundsSettle
counted_rounds_settle inputs number coordinator worker test count lower rounds old answer new kept low run ok =
    all_rounds_settle inputs number coordinator worker (λ s. IsTrue (test s)) (λ s. ⊤) count (λ number line old answer new one fits. tt) (λ old new kept fits round. lower old new kept round) rounds old answer new kept tt low (settle_unfolds inputs number coordinator worker rounds old answer new run) ok
