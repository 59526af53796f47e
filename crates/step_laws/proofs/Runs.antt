-- If lawful calls keep the invariant, then so do calls of others and runs of lawful courses.
use Rattle.std.proofs.Common.{sym, subst, List, [], ◌∷◌, Some, None, inl, inr}
use Rattle.std.specs.Prelude.{IsTrue}
use Rattle.fleet_model.specs.History.{is_get_or_put}
use Rattle.fleet_model.specs.Exchanges.{Exchange, Plain, DrawsJob, DrawsTable, PutsTable, PutsManifest, PutsRecords, ListsTables, DeletesTable, event_of}
use Rattle.step_model.specs.Past.{World}
use Rattle.step_model.specs.Lawful.{Lawful}
use Rattle.step_model.specs.Rivals.{Caller, RivalCall, RivalsFrom, Rivals, after_rival}
use Rattle.step_model.specs.Kept.Keeps.{Keeps}
use Rattle.step_model.specs.Courses.Course.{Course, Ends, Calls}
use Rattle.step_model.specs.Courses.CourseRuns.{End, Gives, MeetsFault, LacksMemory, HasRoom, StopsAt, Runs, IsLawfulCourse}
use Rattle.step_laws.specs.Runs.{CallsKeep, CoursesKeep, LawfulRunsKeep}

pub rivals_from_keep : (who : Caller) → CallsKeep who.merge → (calls : List RivalCall) (old new : World) → Keeps who.merge old → RivalsFrom who calls old new → Keeps who.merge new
rivals_from_keep who keep [] old new kept same = subst (Keeps who.merge) same kept
rivals_from_keep who keep (call ∷ calls) old new kept lead =
    rivals_from_keep who keep calls (after_rival call old) new (keep call.exchange call.line call.party call.strike old kept lead.0.lawful lead.0.strike) lead.1

pub rivals_keep : (who : Caller) (old new : World) → CallsKeep who.merge → Keeps who.merge old → Rivals who old new → Keeps who.merge new
rivals_keep who old new keep kept rivals = rivals_from_keep who keep rivals.calls old new kept rivals.lead

-- A call that a fault strikes is no draw, so the history has room for it.
pub struck_has_room : (x : Exchange) (world : World) → IsTrue (is_get_or_put (event_of x world.store)) → HasRoom world x
struck_has_room (Plain event) world struck = tt
struck_has_room (DrawsJob moment) world struck = absurd (cc struck)
struck_has_room (DrawsTable moment) world struck = absurd (cc struck)
struck_has_room (PutsTable table rows) world struck = tt
struck_has_room (PutsManifest version change value) world struck = tt
struck_has_room (PutsRecords version change epoch jobs) world struck = tt
struck_has_room ListsTables world struck = tt
struck_has_room (DeletesTable table) world struck = tt

stop_keeps : {A : Type 0} (who : Caller) (x : Exchange) (met new : World) (end : End A) → CallsKeep who.merge → Keeps who.merge met → (HasRoom met x → Lawful who.merge who.party met x) → StopsAt who x met new end → Keeps who.merge new
stop_keeps who x met new (Gives answer) keep kept lawful stops = absurd stops
stop_keeps who x met new MeetsFault keep kept lawful stops = subst (Keeps who.merge) (sym stops.1.1) (keep x who.line who.party (Some stops.1.0) met kept (lawful (struck_has_room x met stops.0)) stops.0)
stop_keeps who x met new LacksMemory keep kept lawful stops = subst (Keeps who.merge) stops kept

pub runs_keep : {A : Type 0} (who : Caller) (course : Course A) → CallsKeep who.merge → (old new : World) (end : End A) → Keeps who.merge old → IsLawfulCourse who old course → Runs who course old new end → Keeps who.merge new
runs_keep who (Ends answer) keep old new end kept lawful run = subst (Keeps who.merge) run.0 kept
runs_keep who (Calls x next) keep old new end kept lawful (met, (rivals, inl stops)) = stop_keeps who x met new end keep (rivals_keep who old met keep kept rivals) (λ room. (lawful met rivals room).0) stops
runs_keep who (Calls x next) keep old new end kept lawful (met, (rivals, inr (room, run))) =
    runs_keep who (next met.store) keep _ new end (keep x who.line who.party None met (rivals_keep who old met keep kept rivals) (lawful met rivals room).0 tt) (lawful met rivals room).1 run

keep_all : {A : Type 0} → CoursesKeep A
keep_all who course keep old new end kept lawful run = runs_keep who course keep old new end kept lawful run

-- If every lawful call keeps the invariant, so do calls of others and the runs of lawful courses.
pub lawful_runs_keep : LawfulRunsKeep
lawful_runs_keep = record {
  rivals = λ who old new keep kept rivals. rivals_keep who old new keep kept rivals;
  starts = keep_all;
  polls = keep_all;
  submits = keep_all;
  claims = keep_all;
  beats = keep_all;
  outputs = keep_all;
  finishes = keep_all;
  flushes = keep_all;
  sweeps = keep_all;
}
