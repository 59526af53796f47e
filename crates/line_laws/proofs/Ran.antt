-- Each line of a script runs courses from states that keep the invariant.
use Rattle.script_model.specs.Script.{Settle, Together}
use Rattle.script_model.specs.Lines.Settles.{are_live}
use Rattle.line_laws.specs.Ran.{LinesRunCourses}
use Rattle.line_laws.proofs.Scripts.{scripts_keep, settle_steps, steps_lead}

pub lines_run_courses : LinesRunCourses
lines_run_courses inputs lines old new (Settle coordinator worker rounds) answer ran =
    let s = settle_steps (are_live coordinator worker old) inputs ran.number old coordinator worker rounds answer new ran.step in
    record { steps = s.steps; each = s.each; ran = (steps_lead inputs ran.number coordinator worker old s.steps answer new ran.before.lawful s.each s.run).ran ran.had_room (scripts_keep inputs lines old ran.before) }
lines_run_courses inputs lines old new (Together workers turns) answer ran = absurd ran.step
lines_run_courses inputs lines old new line answer ran = record { lawful = ran.before.lawful; keeps = scripts_keep inputs lines old ran.before; number = ran.number; course = ran.step; had_room = ran.had_room }
