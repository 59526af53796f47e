-- The step by which the writer flushes rows into a tree.
use Rattle.std.specs.Prelude.{ℕ, zero, suc, Bool, true, false, not, nat_lt, nat_le, if◌then◌else◌, ℤ, int_lt, List, Option, Some, None, nat_eq, ⊤}
use Rattle.std.specs.List.{list_all, starts_with}
use Rattle.row_model.specs.Rows.{Row, are_ordered}
use Rattle.fleet_model.specs.Nodes.{segment_at, last_seq_of}
use Rattle.fleet_model.specs.History.{Flush}
use Rattle.fleet_model.specs.Store.{Manifest}
use Rattle.fleet_model.specs.Trees.{flushed_trees}
use Rattle.fleet_model.specs.Tracker.{least_seq_of, tracked_after}
use Rattle.fleet_model.specs.Exchanges.{PutsTable}
use Rattle.step_model.specs.Courses.Course.{Course, Ends, Calls, gets_manifest, puts_manifest}
use Rattle.step_model.specs.Courses.StepEnds.{StepEnd, Reports, GivesUp, BadFlush, FlushFault, BadName, BadSegment, BadOrder, BadSequence, BadFloor, BadTick, most_refused}

-- A flush brings rows, under its name, to the tree of a segment. It also brings a floor and a tick.
pub record FlushAsk : Type 0 where
  pub name : ℕ
  pub segment : List ℕ
  pub floor : ℕ
  pub tick : ℤ
  pub rows : List Row

-- ---- faults

-- The first fault of a flush that the writer sees before it gets the manifest: in the name, the
-- segment or the order. `last` is the greatest name that a flush has used, and the new name must be
-- above it.
abbrev pub fault_before_get : (last : ℕ) → FlushAsk → Option FlushFault
fault_before_get last ask =
    if nat_le ask.name last then Some BadName
    else (if not (list_all (λ r. starts_with nat_eq r.key ask.segment) ask.rows) then Some BadSegment
    else (if not (are_ordered ask.rows) then Some BadOrder else None))

-- The sequence is above the greatest sequence of a tree. This holds if nothing was flushed into the
-- tree.
abbrev pub is_above : Option ℕ → ℕ → Bool
is_above None seq = true
is_above (Some last) seq = nat_lt last seq

-- The first fault of a flush that the writer sees once it has the manifest: in the sequences, the
-- floor or the tick.
abbrev pub fault_after_get : Manifest → FlushAsk → Option FlushFault
fault_after_get manifest ask =
    if not (list_all (λ r. is_above (last_seq_of (segment_at ask.segment manifest.trees)) r.seq) ask.rows)
    then Some BadSequence
    else (if nat_lt ask.floor manifest.floor then Some BadFloor
    else (if int_lt ask.tick manifest.tick then Some BadTick else None))

-- A flush goes on if it has no fault. Otherwise it ends with the fault.
abbrev pub unless_bad : Option FlushFault → Course (StepEnd ⊤) → Course (StepEnd ⊤)
unless_bad None next = next
unless_bad (Some fault) next = Ends (BadFlush fault)

-- ---- calls

-- The manifest after a flush. The flush is in its tree, and the floor and the tick are the flush's.
-- With a retention the tracker keeps the retained flushes and adds this one; without one it is
-- empty. Moment and retention are in milliseconds.
abbrev pub with_flush : (moment retention : ℕ) → FlushAsk → Manifest → Manifest
with_flush moment retention ask manifest = record manifest {
  trees = flushed_trees ask.segment ask.name ask.rows manifest.trees;
  floor = ask.floor;
  tick = ask.tick;
  tracker = tracked_after moment retention (least_seq_of ask.rows) manifest.tracker;
}

-- A course that puts the flush's table unless an earlier try has put it.
abbrev pub puts_unless_put : (is_put : Bool) → FlushAsk → Course (StepEnd ⊤) → Course (StepEnd ⊤)
puts_unless_put true ask next = next
puts_unless_put false ask next = Calls (PutsTable ask.name ask.rows) (λ met. next)

-- A flush that may put the manifest at most `left` more times. Each try gets the manifest, puts the
-- table unless it is put already, and puts the manifest with the flush. It ends with a fault of the
-- flush, or once a put takes effect. `seen` is the version that the last refused put met.
abbrev pub flushes_from : (moment retention : ℕ) → FlushAsk → (left : ℕ) → (is_put : Bool) → (seen : ℕ)
    → Course (StepEnd ⊤)
flushes_from moment retention ask zero is_put seen = Ends (GivesUp seen)
flushes_from moment retention ask (suc left) is_put seen = gets_manifest (λ manifest.
    unless_bad (fault_after_get manifest ask) (puts_unless_put is_put ask (
    puts_manifest manifest.version (Flush ask.name ask.segment ask.floor ask.tick)
    (with_flush moment retention ask manifest)
    (Ends (Reports tt)) (flushes_from moment retention ask left true))))

-- A flush puts its rows as a table, and then puts the manifest with the flush in its tree. `last`
-- is the greatest name that a flush has used.
unfoldable pub flush : (moment retention last : ℕ) → FlushAsk → Course (StepEnd ⊤)
flush moment retention last ask =
    unless_bad (fault_before_get last ask) (flushes_from moment retention ask most_refused false 0)
