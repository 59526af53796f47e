-- Notes as events.
use Rattle.fleet_history.specs.declared.event.Event.{Event}
use Rattle.fleet_history.specs.declared.event.Event.TheVariants as event
use Rattle.fleet_history.specs.declared.note.Note.{Note}
use Rattle.fleet_history.specs.declared.note.Note.TheVariants.{Plan, Start, Kill}

-- The event of a note.
abbrev pub event_of_note : Note → Event
event_of_note (Plan job attempt ranges) = event.Plan job attempt ranges
event_of_note (Start party) = event.Start party
event_of_note (Kill party) = event.Kill party
