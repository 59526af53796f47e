-- A try of a poll, exit by exit.
use Rattle.std.proofs.Common.{◌≡◌, refl, ◌∙◌, ap, subst, ℕ, ◌+◌, List, [], map, Result}
use Rattle.std.specs.Prelude.{if◌then◌else◌}
use Rattle.row_model.specs.Fold.{IsLawful}
use Rattle.fleet_model.specs.Jobs.{JobSpec}
use Rattle.fleet_model.specs.Work.PollStates.{PollInput, PollState}
use Rattle.fleet_model.specs.Work.Polls.{commit_finished, proposals}
use Rattle.fleet_model.specs.Work.Scheduler.{Scheduler}
use Rattle.step_model.specs.Courses.Course.{Course, draws_jobs}
use Rattle.step_model.specs.Courses.StepEnds.{StepEnd}
use Rattle.step_model.specs.Courses.Tries.{counted_tries}
use Rattle.step_model.specs.Steps.PollSteps.{PollAsk, first_steps, last_steps, poll_try, proposed_specs}
use Rattle.step_model.specs.Views.{StoreView}
use Rattle.fleet_rows.specs.declared.errors.SlateDBError.{SlateDBError}
use Rattle.fleet_rows.specs.declared.errors.SlateDBError.TheVariants as error
use Rattle.fleet_tree.specs.Trees.{RunFlushes}
use Rattle.fleet_jobs.specs.Specs.{spec_of}
use Rattle.fleet_jobs.specs.declared.spec.CompactionSpec.{CompactionSpec}
use Rattle.fleet_history.specs.Changes.{new_specs}
use Rattle.fleet_book.specs.States.{own_jobs}
use Rattle.fleet_sched.specs.declared.options.CompactorOptions.{CompactorOptions}
use Rattle.fleet_poll.specs.Loops.{HasReached}
use Rattle.fleet_poll.specs.Polls.{AreNew, poll_of}
use Rattle.fleet_poll.specs.Seen.{Sees}
use Rattle.fleet_poll.specs.Steps.{SeesStale, freed_unless, opened_unless}
use Rattle.fleet_poll.specs.declared.poll.Poll.{Poll}
use Rattle.fleet_coordinator.specs.Polling.{Fails, GetsPoll, MayPut, MayTry, NamesDrawn, TriesPoll, ask_of, puts_of}
use Rattle.fleet_coordinator.specs.declared.polling.GotPoll.{GotPoll}
use Rattle.fleet_coordinator.specs.declared.polling.Tried.{Tried}
use Rattle.fleet_coordinator.specs.declared.polling.Turn.{Turn}
use Rattle.fleet_coordinator.proofs.PollBegins.{flushes, input, reached_first, sees_got, stale}
use Rattle.fleet_coordinator.proofs.PollGets.{lacks_memory, then_fails}
use Rattle.fleet_coordinator.proofs.PollReaches as reaches
use Rattle.fleet_coordinator.proofs.PollTries.{then_tries}

module _ (old mid : StoreView) (s : Scheduler) (options : CompactorOptions) (turn : Turn) (left seen : ℕ) (merges : IsLawful old.who.merge) (may : MayTry old (ask_of s options turn) left seen) (got : GotPoll) (g : GetsPoll turn.epoch old mid got) where
  abbrev ask : PollAsk
  ask = ask_of s options turn

  abbrev again : ℕ → Course (StepEnd PollState)
  again = counted_tries (poll_try ask) left

  abbrev whole : Course (StepEnd PollState)
  whole = poll_try ask left seen again

  abbrev i : PollInput
  i = input old mid s options turn merges may.ready got g

  -- Memory runs out before the draws.
  pub lacks_first : Fails whole old mid error.Memory
  lacks_first = lacks_memory (g.leads ask left seen again refl)

  module _ (first : Poll)
      (steps : (flushes : RunFlushes) (input : PollInput) → Sees input s got.poll.state → SeesStale input options turn.moment → HasReached first (commit_finished input (freed_unless turn.commits_only input (poll_of flushes got.poll))))
      (still : (input : PollInput) → Sees input s got.poll.state → Sees input s first.state) where
    sees_here : Sees i s got.poll.state
    sees_here = sees_got old mid s options turn merges may.ready got g

    pub has : HasReached first (first_steps ask i)
    has = reached_first old mid s options turn merges may.ready got g first (steps (flushes old mid s options turn merges may.ready got g) i sees_here (stale old mid s options turn merges may.ready got g))

    sees_first : Sees i s first.state
    sees_first = still i sees_here

    module _ (specs : List CompactionSpec)
        (takes : (flushes : RunFlushes) (input : PollInput) → Sees input s first.state → input.options.concurrent ≡ options.max_concurrent_compactions
        → map spec_of specs ≡ (if turn.commits_only then [] else proposals input (poll_of flushes first))) where
      pub proposed : map spec_of specs ≡ proposed_specs ask i (first_steps ask i)
      proposed = takes has.flushes i sees_first refl ∙ ap (proposed_specs ask i) has.is

      -- A draw fails.
      pub draws_fail : (new : StoreView) (e : SlateDBError) → ((next : List (ℕ × JobSpec) → Course (StepEnd PollState)) → Fails (draws_jobs turn.moment (map spec_of specs) next) mid new e) → Fails whole old new e
      draws_fail new e fails =
          then_fails (reaches.at_draws old mid s options turn merges may.ready got g first has specs left seen again proposed) e
          (fails (reaches.next old mid s options turn merges may.ready got g first has specs left seen again proposed))

      module _ (new : StoreView) (drawn : List (ℕ × CompactionSpec)) (d : NamesDrawn turn.moment specs mid new drawn) where
        pub are_new : AreNew drawn (own_jobs first.state)
        are_new = reaches.are_new old mid s options turn merges may.ready got g first has specs left seen again proposed new drawn d

        -- Memory runs out after the draws.
        pub lacks_last : Fails whole old new error.Memory
        lacks_last = lacks_memory (reaches.at_puts old mid s options turn merges may.ready got g first has specs left seen again proposed new drawn d)

        module _ (last : Poll)
            (opens : (flushes : RunFlushes) (input : PollInput) → Sees input s first.state → input.options.moves ≡ options.enable_trivial_move
            → HasReached last (opened_unless turn.commits_only input (new_specs drawn) (poll_of flushes first)))
            (still_last : (input : PollInput) → Sees input s first.state → input.options.moves ≡ options.enable_trivial_move → Sees input s last.state) where
          pub reached : HasReached last (last_steps ask i (new_specs drawn) (first_steps ask i))
          reached = subst (λ p. HasReached last (opened_unless turn.commits_only i (new_specs drawn) p)) has.is (opens has.flushes i sees_first refl)

          pub sees_last : Sees i s last.state
          sees_last = still_last i sees_first refl

          -- What was reached may be put, and the puts end the try.
          abbrev pub may_put : MayPut new last got.core turn.epoch got.epoch (left + 1) seen
          may_put = reaches.may_put old mid s options turn merges may.ready got g first has specs left seen again proposed new drawn d last reached sees_last may.lawful

          pub puts_end : (end : StoreView) (result : Result Tried SlateDBError) → ((may : MayPut new last got.core turn.epoch got.epoch (left + 1) seen) → TriesPoll (puts_of may) may.again new end result) → TriesPoll whole again old end result
          puts_end end result puts =
              then_tries (reaches.at_last old mid s options turn merges may.ready got g first has specs left seen again proposed new drawn d last reached sees_last) again end result (puts may_put)
