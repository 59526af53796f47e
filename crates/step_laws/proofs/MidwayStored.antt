-- The store in the midst of two jobs meets the invariant of the stored objects.
use Rattle.std.proofs.Common.{◌≡◌, refl, ◌∙◌, ap, ℕ, ◌<◌, List, [], ◌∷◌, ◌++◌, lit≤, inl, cond, Bool, true, false, ℤ}
use Rattle.std.specs.Prelude.{◌==◌, ◌≢◌, nat_le, bytes_eq}
use Rattle.std.proofs.lemmas.Bool.{le-leb}
use Rattle.row_model.specs.Rows.{Row, is_expired, sorted_rows}
use Rattle.row_model.specs.Read.{with_operand, operands, base_or, base, seen_at, read}
use Rattle.fleet_model.specs.Invariants.ReadsFit.{NodeKeepsReads}
use Rattle.std.specs.List.{AllByRecursion}
use Rattle.std.specs.List.Sorted.{IsStrictlySortedBy}
use Rattle.std.proofs.lemmas.Bool.Decides.{Decides-eqb}
use Rattle.row_model.specs.Bounds.{IsInBounds}
use Rattle.row_model.specs.Fold.{Operator, fold_bytes}
use Rattle.row_model.specs.Written.Plan.{planned_ranges}
use Rattle.fleet_model.specs.Invariants.Invariant.{StoreInvariant}
use Rattle.fleet_model.specs.Invariants.TreesFit.{AreTrees, IsSound}
use Rattle.fleet_model.specs.Invariants.JobsFit.{NodesHeldOnce, OpenedStands, OutputsFit}
use Rattle.fleet_model.specs.Invariants.AttemptsFit.{JobContext, ContextFits}
use Rattle.fleet_model.specs.Past.Claimed.{IsClaimed}
use Rattle.fleet_model.specs.Past.Replay.{IsReplayed}
use Rattle.step_model.specs.Kept.Faithful.{AgreesWith, Faithful}
use Rattle.step_model.specs.Kept.Facts.{StoreFacts}
use Rattle.step_model.specs.Kept.Keeps.{Keeps}
use Rattle.step_laws.specs.Midway.{row, run_node, context, spec_of, running_job, compacted_job, history, midway_world}

pub differ : (a b : ℕ) → (a == b) ≡ false → a ≢ b
differ a b e same = let yes = (Decides-eqb a b).1 same in absurd (cc (e, yes))

-- The rows of the run in the root segment, and of the flush that went into it, are older than flush 3.
older : AllByRecursion (λ r. r.seq < 5) (row (0x61 ∷ []) 4 ∷ row (0x61 ∷ []) 4 ∷ row (0x61 ∷ []) 3 ∷ [])
older = (lit≤ tt, (lit≤ tt, (lit≤ tt, tt)))

-- In the store in the midst of two jobs each tree is in order, no two share a node, and the epochs fit.
trees : AreTrees midway_world.store
unfolding IsStrictlySortedBy
trees = record {
  each = (
    record {
      names_in_order = ((tt, tt), (tt, tt));
      newest_first = (((older, (older, tt)), tt), (tt, tt));
      at_most_last = ((lit≤ tt, (lit≤ tt, tt)), ((lit≤ tt, (lit≤ tt, (lit≤ tt, tt))), tt));
      ordered = ((tt, tt), ((tt, tt), tt));
    },
    (
      record {
        names_in_order = (tt, tt);
        newest_first = (tt, tt);
        at_most_last = ((lit≤ tt, (lit≤ tt, (lit≤ tt, (lit≤ tt, tt)))), tt);
        ordered = (((refl, tt), (tt, tt)), tt);
      },
      tt,
    ),
  );
  apart = ((refl, tt), (tt, tt));
  epochs = lit≤ tt;
}

pub agrees : AllByRecursion (λ entry. AgreesWith spec_of entry.event) history
agrees = (tt, (tt, (tt, (tt, (tt, (tt, (tt, (tt, ((refl, (refl, tt)), (tt, (tt, (tt, (tt, (tt, (tt, (tt, (tt, (tt, (tt, (tt, (tt, (tt, (tt, (tt, (tt, (tt, (tt, (tt, (tt, tt)))))))))))))))))))))))))))))

replay : IsReplayed midway_world.store
replay = record { specs = spec_of; agrees = agrees; objects = refl }

in_bounds : (byte other seq : ℕ) → IsInBounds (row (byte ∷ other ∷ []) seq)
in_bounds byte other seq = record { key = lit≤ tt; content = lit≤ tt }

short_in_bounds : (byte seq : ℕ) → IsInBounds (row (byte ∷ []) seq)
short_in_bounds byte seq = record { key = lit≤ tt; content = lit≤ tt }

-- The store in the midst of two jobs is sound: its tables are ordered, and its prefixes and the ids of its jobs rise.
pub sound : IsSound midway_world.store
unfolding IsStrictlySortedBy
sound = record {
  tables = (
    record { some = λ none. absurd (cc none); ordered = ((refl, tt), (tt, tt)); bounds = (in_bounds _ _ _, (in_bounds _ _ _, tt)) },
    (
      record { some = λ none. absurd (cc none); ordered = ((refl, tt), (tt, tt)); bounds = (short_in_bounds _ _, (short_in_bounds _ _, tt)) },
      (
        record { some = λ none. absurd (cc none); ordered = (tt, tt); bounds = (in_bounds _ _ _, tt) },
        (
          record { some = λ none. absurd (cc none); ordered = (tt, tt); bounds = (short_in_bounds _ _, tt) },
          (record { some = λ none. absurd (cc none); ordered = (tt, tt); bounds = (short_in_bounds _ _, tt) }, tt),
        ),
      ),
    ),
  );
  table_ids = (
    (differ _ _ refl, (differ _ _ refl, (differ _ _ refl, (differ _ _ refl, tt)))),
    ((differ _ _ refl, (differ _ _ refl, (differ _ _ refl, tt))), ((differ _ _ refl, (differ _ _ refl, tt)), ((differ _ _ refl, tt), (tt, tt)))),
  );
  deleted = refl;
  root = refl;
  prefixes = ((refl, tt), (tt, tt));
  job_ids = ((lit≤ tt, tt), (tt, tt));
}

claimed : IsClaimed midway_world.store spec_of 1 2 context
claimed = record { settings = refl; ranges = refl }

fits : (merge : Operator) → ContextFits merge midway_world.store spec_of running_job context
unfolding planned_ranges
fits merge = record {
  claimed = claimed;
  settings = record { floor = lit≤ tt; cut = lit≤ tt; tick = refl; last_run = λ last. refl };
  cut = λ none. absurd (cc none);
  ranges = (4, refl);
  tables = ((row (0x62 ∷ 0x32 ∷ []) 2 ∷ [], refl), tt);
}

contexts : (merge : Operator) → AllByRecursion (JobContext merge midway_world.store spec_of) (running_job ∷ compacted_job ∷ [])
contexts merge = (
  record { there = (λ h. (refl, refl), λ h. refl); fits = fits merge },
  (record { there = (λ some. absurd (cc some), λ waits. let never = waits.0 in absurd (cc never)); fits = tt }, tt),
)

outputs : (merge : Operator) → OutputsFit merge midway_world.store spec_of compacted_job
outputs merge = record {
  settings = context.settings;
  claimed = refl;
  cut = refl;
  at_most_floor = lit≤ tt;
  fit = inl refl;
  rows = λ held. refl;
}

sources : AllByRecursion (OpenedStands midway_world.store) (running_job ∷ compacted_job ∷ [])
sources = (
  (λ waits. record { some = refl; stretch = refl; source_tables = refl; destination = (refl, λ none. refl) }, λ finished. absurd (cc finished)),
  ((λ waits. absurd (cc waits), λ waits. inl refl), tt),
)

held_once : NodesHeldOnce (running_job ∷ compacted_job ∷ [])
held_once = ((λ one other. refl, tt), (tt, tt))

-- ---- reads

-- Rows below a value that a read sees do not change the read's base.
same_base : (s : ℕ) (now : ℤ) (key : List ℕ) (seq : ℕ) (above rest other : List Row) → nat_le seq s ≡ true
    → base now (seen_at s (above ++ row key seq ∷ rest)) ≡ base now (seen_at s (above ++ row key seq ∷ other))
same_base s now key seq [] rest other seen = rw seen refl
same_base s now key seq (r ∷ above) rest other seen = by (nat_le r.seq s) (same_base s now key seq above rest other seen)
  where
    by : (b : Bool) → base now (seen_at s (above ++ row key seq ∷ rest)) ≡ base now (seen_at s (above ++ row key seq ∷ other))
        → base now (cond b (r ∷ seen_at s (above ++ row key seq ∷ rest)) (seen_at s (above ++ row key seq ∷ rest)))
        ≡ base now (cond b (r ∷ seen_at s (above ++ row key seq ∷ other)) (seen_at s (above ++ row key seq ∷ other)))
    by true same = ap (λ found. base_or r.content (is_expired r now) found) same
    by false same = same

-- They do not change its operands.
same_operands : (s : ℕ) (now : ℤ) (key : List ℕ) (seq : ℕ) (above rest other : List Row) → nat_le seq s ≡ true
    → operands now (seen_at s (above ++ row key seq ∷ rest)) ≡ operands now (seen_at s (above ++ row key seq ∷ other))
same_operands s now key seq [] rest other seen = rw seen refl
same_operands s now key seq (r ∷ above) rest other seen = by (nat_le r.seq s) (same_operands s now key seq above rest other seen)
  where
    by : (b : Bool) → operands now (seen_at s (above ++ row key seq ∷ rest)) ≡ operands now (seen_at s (above ++ row key seq ∷ other))
        → operands now (cond b (r ∷ seen_at s (above ++ row key seq ∷ rest)) (seen_at s (above ++ row key seq ∷ rest)))
        ≡ operands now (cond b (r ∷ seen_at s (above ++ row key seq ∷ other)) (seen_at s (above ++ row key seq ∷ other)))
    by true same = ap (λ found. with_operand r.content (is_expired r now) found) same
    by false same = same

-- The node that is the run of job 2. It has only the newer one of the two rows that were flushed.
run_reads : (merge : Operator) → NodeKeepsReads merge midway_world.store true run_node
run_reads merge key s now above below low later last = by (bytes_eq key (0x61 ∷ []))
  where
    newer : Row
    newer = row (0x61 ∷ []) 4

    older_one : Row
    older_one = row (0x61 ∷ []) 3

    by : (b : Bool)
        → read merge key s now (above ++ (sorted_rows (cond b (newer ∷ cond b (older_one ∷ []) []) (cond b (older_one ∷ []) [])) ++ below))
        ≡ read merge key s now (above ++ (sorted_rows (cond b (newer ∷ []) []) ++ below))
    by true =
        let one = same_base s now (0x61 ∷ []) 4 above (older_one ∷ below) below (le-leb 4 s low) in
        let two = same_operands s now (0x61 ∷ []) 4 above (older_one ∷ below) below (le-leb 4 s low) in
        ap (λ found. fold_bytes merge key found (operands now (seen_at s (above ++ newer ∷ older_one ∷ below)))) one
        ∙ ap (λ found. fold_bytes merge key (base now (seen_at s (above ++ newer ∷ below))) found) two
    by false = refl

-- The store in the midst of two jobs meets the invariant under any operator.
stored : (merge : Operator) → StoreInvariant merge midway_world.store
unfolding replay
stored merge = record {
  sound = sound;
  replay = replay;
  trees = trees;
  held_once = held_once;
  sources = sources;
  contexts = contexts merge;
  outputs = (λ finished. absurd (cc finished), (λ finished. outputs merge, tt));
  tables = record {
    pieces = ((refl, (refl, tt)), ((refl, tt), tt));
    flushes = ((refl, (refl, tt)), ((refl, tt), tt));
    jobs = ((λ active. record { named = refl; sources = refl }), ((λ active. record { named = refl; sources = refl }), tt));
  };
  reads = ((λ key s now above below low later last. refl, run_reads merge), (λ key s now above below low later last. refl, tt));
}

pub keeps_by : (merge : Operator) → Faithful midway_world spec_of → StoreFacts midway_world → Keeps merge midway_world
unfolding replay stored
keeps_by merge faithful facts = record { stored = stored merge; faithful = faithful; facts = facts }
