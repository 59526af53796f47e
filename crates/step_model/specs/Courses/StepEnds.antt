-- The ways in which a step of a party ends.
use Rattle.std.specs.Prelude.{ℕ, List}

-- The faults for which a flush is refused, in this order: the name is not above all used ones; a
-- key is outside of the segment; the rows are not in order; a sequence is not above the greatest
-- one of the tree; the floor or the tick is below the stored one.
pub data FlushFault : Type 0 where
  BadName : FlushFault
  BadSegment : FlushFault
  BadOrder : FlushFault
  BadSequence : FlushFault
  BadFloor : FlushFault
  BadTick : FlushFault

-- How a step ends. Reports has its report. GivesUp has the version that the last refused put met.
-- Fenced has a stored epoch above the coordinator's. NotOwner says that the attempt is not live,
-- and NoRecords that the store has no records. Invalid and Declined are refusals of the scheduler,
-- Declined with its message. OperatorRefuses has the message with which the operator refused a
-- fold. BadFlush has the fault of a flush.
pub data StepEnd (A : Type 0) : Type 0 where
  Reports : (report : A) → StepEnd A
  GivesUp : (seen : ℕ) → StepEnd A
  Fenced : (stored : ℕ) → StepEnd A
  NotOwner : StepEnd A
  NoRecords : StepEnd A
  Invalid : StepEnd A
  Declined : (message : List ℕ) → StepEnd A
  OperatorRefuses : (message : List ℕ) → StepEnd A
  BadFlush : (fault : FlushFault) → StepEnd A

-- A step gives up after so many refused puts in a row. A start gives up after so many refused puts
-- in all.
abbrev pub most_refused : ℕ
most_refused = 64
