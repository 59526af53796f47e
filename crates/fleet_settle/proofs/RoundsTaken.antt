-- The rounds of a settle line.
use Rattle.std.proofs.Common.{◌≡◌, refl, sym, ◌∙◌, ap, subst, ℕ, suc, ◌+◌, ◌-◌, ◌<◌, List, [], ◌∷◌, Bool, true, false, Option, Some, None, Result, Ok, Err, arith}
use Rattle.std.specs.Prelude.{IfOk, is_some, codes}
use Rattle.fleet_rows.specs.declared.errors.SlateDBError.{SlateDBError}
use Rattle.script_model.specs.Script.{Poll, ClaimJobs, Settle}
use Rattle.script_model.specs.States.{Inputs, State}
use Rattle.script_model.specs.Replies.{reply}
use Rattle.script_model.specs.LineRuns.{no_such_party}
use Rattle.script_model.specs.LineCourses.{course_of}
use Rattle.script_model.specs.LineSteps.{OneCourse}
use Rattle.script_model.specs.Follows.{SettleStep}
use Rattle.script_model.specs.Lines.Settles.{are_live, has_active, has_added, jobs_run, all_taken, BeforePoll, HasPolled, HasClaimed, ToFinish, Takes, Answers, next_turn, next_claim, next_finish, SettleRun}
use Rattle.fleet_settle.specs.Steps.{Ends, FinishesEach, Goes, Leads, Stepped}
use Rattle.fleet_settle.proofs.StepsTaken.{ends_here, ended_goes, goes_from, goes_to, not_refused, step_goes, then_goes}

module _ (inputs : Inputs) (number coordinator worker : ℕ) where
  -- ---- after the poll

  claims : (left begun : ℕ) (s : State) → has_active s ≡ true → next_turn coordinator worker (HasPolled left begun) s ≡ Takes (ClaimJobs worker) (HasClaimed left begun)
  claims left begun s active = ap (λ (a : Bool). next_claim a (has_added coordinator s) coordinator worker left begun) active

  -- The claim is refused.
  pub claim_ends : (left begun : ℕ) (old new : State) (refused : Option (List ℕ)) → has_active old ≡ true → is_some refused ≡ true → Stepped inputs number (ClaimJobs worker) old new refused → Goes inputs number coordinator worker (HasPolled left begun) old (BeforePoll left begun) new refused
  claim_ends left begun old new refused active some stepped =
      ended_goes inputs number coordinator worker (HasPolled left begun) (HasClaimed left begun) (BeforePoll left begun) old new refused some
      (step_goes inputs number coordinator worker (HasPolled left begun) (HasClaimed left begun) (ClaimJobs worker) old new refused (claims left begun old active) stepped)

  work_goes : (left begun : ℕ) (old mid new : State) (jobs : List ℕ) (refused : Option (List ℕ)) → has_active old ≡ true → Stepped inputs number (ClaimJobs worker) old mid None → jobs ≡ jobs_run worker mid → FinishesEach inputs number worker jobs mid [] new refused
      → Goes inputs number coordinator worker (HasPolled left begun) old (BeforePoll left begun) new refused
  work_goes left begun old mid new jobs refused active stepped run finishes =
      then_goes inputs number coordinator worker (HasPolled left begun) (HasClaimed left begun) (BeforePoll left begun) old mid new refused
      (step_goes inputs number coordinator worker (HasPolled left begun) (HasClaimed left begun) (ClaimJobs worker) old mid None (claims left begun old active) stepped)
      (goes_from inputs number coordinator worker (HasClaimed left begun) (ToFinish jobs left begun) (BeforePoll left begun) mid new refused
      (ap (λ (js : List ℕ). next_finish coordinator worker js left begun) (sym run))
      (goes_to inputs number coordinator worker (ToFinish jobs left begun) (ToFinish [] left begun) (BeforePoll left begun) mid new refused refl (finishes coordinator left begun)))

  -- The worker claimed jobs and finished all that it ran, or a finish was refused.
  pub works : (left begun : ℕ) (old mid new : State) (jobs : List ℕ) (claimed : Option (List ℕ)) (result : Result (Option (List ℕ)) SlateDBError) → has_active old ≡ true → is_some claimed ≡ false → Stepped inputs number (ClaimJobs worker) old mid claimed → jobs ≡ jobs_run worker mid
      → IfOk result (FinishesEach inputs number worker jobs mid [] new) → IfOk result (Goes inputs number coordinator worker (HasPolled left begun) old (BeforePoll left begun) new)
  works left begun old mid new jobs claimed (Err e) active well stepped run finishes = tt
  works left begun old mid new jobs claimed (Ok refused) active well stepped run finishes =
      work_goes left begun old mid new jobs refused active (not_refused inputs number coordinator worker (ClaimJobs worker) old mid claimed well stepped) run finishes

  polled : (active added : Bool) (left begun : ℕ) (s : State) → has_active s ≡ active → has_added coordinator s ≡ added → next_turn coordinator worker (HasPolled left begun) s ≡ next_claim active added coordinator worker left begun
  polled active added left begun s is_active is_added =
      ap (λ (a : Bool). next_claim a (has_added coordinator s) coordinator worker left begun) is_active ∙ ap (λ (a : Bool). next_claim active a coordinator worker left begun) is_added

  -- No job is active, and the poll added one.
  pub goes_on : (left begun : ℕ) (s : State) → has_active s ≡ false → has_added coordinator s ≡ true → Goes inputs number coordinator worker (HasPolled left begun) s (BeforePoll left begun) s None
  goes_on left begun s none added =
      goes_from inputs number coordinator worker (HasPolled left begun) (BeforePoll left begun) (BeforePoll left begun) s s None (polled false true left begun s none added) (λ answer last ends. ends)

  -- ---- a round

  polls : (left begun round : ℕ) (s : State) → begun + 1 ≡ round → next_turn coordinator worker (BeforePoll (suc left) begun) s ≡ Takes (Poll coordinator) (HasPolled left round)
  polls left begun round s is = ap (λ (n : ℕ). Takes (Poll coordinator) (HasPolled left n)) is

  -- The poll is refused.
  pub poll_ends : (left begun round : ℕ) (old new : State) (refused : Option (List ℕ)) → begun + 1 ≡ round → is_some refused ≡ true → Stepped inputs number (Poll coordinator) old new refused → Goes inputs number coordinator worker (BeforePoll (suc left) begun) old (BeforePoll left round) new refused
  poll_ends left begun round old new refused is some stepped =
      ended_goes inputs number coordinator worker (BeforePoll (suc left) begun) (HasPolled left round) (BeforePoll left round) old new refused some
      (step_goes inputs number coordinator worker (BeforePoll (suc left) begun) (HasPolled left round) (Poll coordinator) old new refused (polls left begun round old is) stepped)

  round_goes : (left begun round : ℕ) (old mid new : State) (ended : Option (List ℕ)) → begun + 1 ≡ round → Stepped inputs number (Poll coordinator) old mid None → Goes inputs number coordinator worker (HasPolled left round) mid (BeforePoll left round) new ended
      → Goes inputs number coordinator worker (BeforePoll (suc left) begun) old (BeforePoll left round) new ended
  round_goes left begun round old mid new ended is stepped goes =
      then_goes inputs number coordinator worker (BeforePoll (suc left) begun) (HasPolled left round) (BeforePoll left round) old mid new ended
      (step_goes inputs number coordinator worker (BeforePoll (suc left) begun) (HasPolled left round) (Poll coordinator) old mid None (polls left begun round old is) stepped) goes

  -- What follows the poll follows it.
  pub poll_goes : (left begun round : ℕ) (old mid new : State) (polled : Option (List ℕ)) (result : Result (Option (List ℕ)) SlateDBError) → begun + 1 ≡ round → is_some polled ≡ false → Stepped inputs number (Poll coordinator) old mid polled
      → IfOk result (Goes inputs number coordinator worker (HasPolled left round) mid (BeforePoll left round) new) → IfOk result (Goes inputs number coordinator worker (BeforePoll (suc left) begun) old (BeforePoll left round) new)
  poll_goes left begun round old mid new polled (Err e) is well stepped goes = tt
  poll_goes left begun round old mid new polled (Ok ended) is well stepped goes =
      round_goes left begun round old mid new ended is (not_refused inputs number coordinator worker (Poll coordinator) old mid polled well stepped) goes

  -- ---- all rounds

  -- The line came so far: so many rounds were begun and are over, and the others may follow.
  abbrev pub Came : (rounds begun : ℕ) → (old new : State) → Type 0
  Came rounds begun old new = (left : ℕ) → left + begun ≡ rounds → Leads inputs number coordinator worker (BeforePoll rounds 0) old (BeforePoll left begun) new

  -- What a round does, whatever follows it.
  abbrev pub RoundGoes : (round : ℕ) → (old new : State) → Option (List ℕ) → Type 0
  RoundGoes round old new ended = (left begun : ℕ) → begun + 1 ≡ round → Goes inputs number coordinator worker (BeforePoll (suc left) begun) old (BeforePoll left round) new ended

  -- One more round is over.
  pub came_more : (rounds begun : ℕ) (old mid new : State) (ended : Option (List ℕ)) → ended ≡ None → Came rounds begun old mid → RoundGoes (begun + 1) mid new ended → Came rounds (begun + 1) old new
  came_more rounds begun old mid new (Some answer) none so_far round = absurd (cc none)
  came_more rounds begun old mid new None none so_far round = λ left all.
      let before : suc left + begun ≡ rounds = omega (arith, all) in
      then_goes inputs number coordinator worker (BeforePoll rounds 0) (BeforePoll (suc left) begun) (BeforePoll left (begun + 1)) old mid new None (so_far (suc left) before) (round left begun refl)

  to_run : (rounds : ℕ) (old : State) (answer : List ℕ) (new : State) → Ends inputs number coordinator worker (BeforePoll rounds 0) old answer new → SettleRun inputs number coordinator worker rounds old answer new
  to_run rounds old answer new ends = record { steps = ends.steps; lead = ends.lead; in_turn = ends.in_turn }

  -- The line ends in a round.
  pub came_to_end : (rounds begun : ℕ) (old mid new : State) (ended : Option (List ℕ)) (answer : List ℕ) → ended ≡ Some answer → begun < rounds → Came rounds begun old mid → RoundGoes (begun + 1) mid new ended → SettleRun inputs number coordinator worker rounds old answer new
  came_to_end rounds begun old mid new ended answer some low so_far round =
      let left : ℕ = rounds - (begun + 1) in
      let before : suc left + begun ≡ rounds = omega (arith, low) in
      let ends = subst (λ (o : Option (List ℕ)). RoundGoes (begun + 1) mid new o) some round in
      to_run rounds old answer new (so_far (suc left) before answer new (ends left begun refl))

  -- All rounds are over.
  pub came_through : (rounds begun : ℕ) (old new : State) (result : Result (List ℕ) SlateDBError) → begun ≡ rounds → Came rounds begun old new → IfOk result (λ answer. answer ≡ all_taken rounds) → IfOk result (λ answer. SettleRun inputs number coordinator worker rounds old answer new)
  came_through rounds begun old new (Err e) over so_far says = tt
  came_through rounds begun old new (Ok answer) over so_far says =
      let all : 0 + begun ≡ rounds = omega (arith, over) in
      to_run rounds old answer new (so_far 0 all answer new (ends_here inputs number coordinator worker (BeforePoll 0 begun) new answer (ap (λ (n : ℕ). Answers (all_taken n)) over ∙ ap (λ (a : List ℕ). Answers a) (sym says))))

  -- ---- the line

  refuses : (rounds : ℕ) (s : State) (answer : List ℕ) → answer ≡ reply (codes "nosuchparty" ∷ []) → OneCourse inputs number s (Settle coordinator worker rounds) answer s
  unfolding course_of
  refuses rounds s answer says = record {
    course = no_such_party s;
    does = record { refusal = None; may = refl; is = refl };
    ends = ap (λ (a : List ℕ). (a, s)) (sym says);
  }

  -- A party is not live.
  pub nobody_settles : (rounds : ℕ) (s : State) (result : Result (List ℕ) SlateDBError) → are_live coordinator worker s ≡ false → IfOk result (λ answer. answer ≡ reply (codes "nosuchparty" ∷ []))
      → IfOk result (λ answer. SettleStep (are_live coordinator worker s) inputs number s coordinator worker rounds answer s)
  nobody_settles rounds s (Err e) dead says = tt
  nobody_settles rounds s (Ok answer) dead says =
      subst (λ (live : Bool). SettleStep live inputs number s coordinator worker rounds answer s) (sym dead) (refuses rounds s answer says)
