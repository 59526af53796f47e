-- The program's kinds of faults of a flush, seen as the model's.
use Rattle.step_model.specs.Courses.StepEnds as model
use Rattle.fleet_text.specs.declared.report.FlushFault.{FlushFault}
use Rattle.fleet_text.specs.declared.report.FlushFault.TheVariants.{Name, Segment, Order, Sequence, Floor, Tick}

abbrev pub fault_of : FlushFault → model.FlushFault
fault_of Name = model.BadName
fault_of Segment = model.BadSegment
fault_of Order = model.BadOrder
fault_of Sequence = model.BadSequence
fault_of Floor = model.BadFloor
fault_of Tick = model.BadTick
