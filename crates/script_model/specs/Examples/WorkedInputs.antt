-- The operators and schedulers of the worked scripts.
use Rattle.std.specs.Prelude.{ℕ, Bool, true, false, if◌then◌else◌, ◌==◌, List, [], ◌∷◌, ◌++◌, Option, Some, None, codes}
use Rattle.std.specs.List.{list_any}
use Rattle.row_model.specs.Fold.{Operator, Outcome, Refused}
use Rattle.row_model.specs.Append.{append}
use Rattle.fleet_model.specs.Nodes.{L0, names_contain, names, tree_at}
use Rattle.fleet_model.specs.Jobs.{JobSpec}
use Rattle.fleet_model.specs.Work.Scheduler.{View, Declined, default_generate}
use Rattle.sched_model.specs.Levels.{level_scheduler}
use Rattle.script_model.specs.States.{Inputs}

-- The root tree has flush 1.
abbrev pub holds_first_flush : View → Bool
holds_first_flush view = names_contain (names (tree_at [] view.manifest.trees)) (L0 1)

-- The job that compacts the eight oldest flushes of the root into run 0.
abbrev pub root_pick : JobSpec
root_pick = record {
  segment = [];
  sources = L0 8 ∷ L0 7 ∷ L0 6 ∷ L0 5 ∷ L0 4 ∷ L0 3 ∷ L0 2 ∷ L0 1 ∷ [];
  destination = Some 0;
}

-- The job that compacts all four flushes of a segment into run 1.
abbrev pub segment_pick : JobSpec
segment_pick = record { segment = codes "user1:"; sources = L0 14 ∷ L0 13 ∷ L0 12 ∷ L0 11 ∷ []; destination = Some 1 }

-- Proposals of both jobs, while the root tree has flush 1.
abbrev pub two_picks : View → List JobSpec
two_picks view = if holds_first_flush view then root_pick ∷ segment_pick ∷ [] else []

-- Inputs whose scheduler proposes both jobs and accepts every job.
abbrev pub with_two_picks : Inputs
with_two_picks = record {
  merge = append;
  scheduler = record { propose = two_picks; validate = λ view spec. true; generate = default_generate };
}

-- The job that compacts flush 1 of the root into run 0.
abbrev pub first_pick : JobSpec
first_pick = record { segment = []; sources = L0 1 ∷ []; destination = Some 0 }

-- Two proposals of the job of flush 1, while the root tree has flush 1.
abbrev pub one_pick_twice : View → List JobSpec
one_pick_twice view = if holds_first_flush view then first_pick ∷ first_pick ∷ [] else []

-- Inputs whose scheduler proposes one job twice and declines every request with "no".
abbrev pub with_one_proposed_twice : Inputs
with_one_proposed_twice = record {
  merge = append;
  scheduler =
      record {
        propose = one_pick_twice;
        validate = λ view spec. true;
        generate = λ view request. Declined (codes "no");
      };
}

-- Inputs of a levelled scheduler: it compacts two flushes, and the newest run may have 20 bytes and
-- each older one twice as many.
abbrev pub with_levels : Inputs
with_levels = record { merge = append; scheduler = level_scheduler (record { l0_trigger = 2; base = 20; ratio = 2 }) 4 }

-- A refusal with "no" if the flag holds, and the answer otherwise.
abbrev pub no_if : Bool → Outcome → Outcome
no_if true answer = Refused (codes "no")
no_if false answer = answer

-- The existing value or the operand has the byte 0x21.
abbrev pub holds_mark : Option (List ℕ) → List ℕ → Bool
holds_mark None operand = list_any (λ b. b == 0x21) operand
holds_mark (Some existing) operand = list_any (λ b. b == 0x21) (existing ++ operand)

-- An operator that joins bytes, and refuses with "no" if the existing value or the operand has the
-- byte 0x21.
abbrev pub append_unmarked : Operator
append_unmarked key existing operand = no_if (holds_mark existing operand) (append key existing operand)
