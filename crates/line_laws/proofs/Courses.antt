-- Courses one after the other, and what a run of a party that is alone keeps.
use Rattle.std.proofs.Common.{◌≡◌, refl, sym, subst, List, [], ◌∷◌, true, inl, inr, Some, None}
use Rattle.std.specs.Prelude.{⊤}
use Rattle.std.specs.List.{AllByRecursion}
use Rattle.fleet_model.specs.History.{Event}
use Rattle.fleet_model.specs.Store.{Store}
use Rattle.fleet_model.specs.Exchanges.{Exchange, Plain}
use Rattle.step_model.specs.Past.{World}
use Rattle.step_model.specs.Lawful.{Lawful}
use Rattle.step_model.specs.LawfulTables.{PlainFits}
use Rattle.step_model.specs.Rivals.{Caller, Strike, MayStrike, after_call}
use Rattle.step_model.specs.Kept.Keeps.{Keeps}
use Rattle.step_model.specs.Courses.Course.{Course, Ends, Calls, then_course, calls_each}
use Rattle.step_model.specs.Courses.CourseRuns.{End, Gives, MeetsFault, LacksMemory, HasRoom, StopsAt, Runs, IsLawfulCourse}
use Rattle.step_laws.specs.Runs.{CallsKeep}
use Rattle.step_laws.proofs.Runs.{struck_has_room}
use Rattle.step_laws.proofs.RanLaws.{only_met}

-- ---- lawful courses

-- A lawful course and then others, which are lawful anywhere, are lawful.
pub then_lawful : {A B : Type 0} (who : Caller) (step : Course A) (rest : A → Course B) (world : World) → IsLawfulCourse who world step → ((answer : A) (new : World) → IsLawfulCourse who new (rest answer))
    → IsLawfulCourse who world (then_course step rest)
then_lawful who (Ends answer) rest world lawful after = after answer world
then_lawful who (Calls x next) rest world lawful after = λ met rivals room.
    let here = lawful met rivals room in
    (here.0, then_lawful who (next met.store) rest (after_call who.line who.party x None met) here.1 after)

-- Notes that are lawful anywhere, and then a course that is, are lawful.
pub notes_lawful : {A : Type 0} (who : Caller) (notes : List Event) (next : Course A) (world : World) → AllByRecursion (λ event. (store : Store) → PlainFits who.party store event) notes → ((new : World) → IsLawfulCourse who new next)
    → IsLawfulCourse who world (calls_each notes next)
notes_lawful who [] next world each after = after world
notes_lawful who (event ∷ notes) next world each after = λ met rivals room.
    (each.0 met.store, notes_lawful who notes next (after_call who.line who.party (Plain event) None met) each.1 after)

-- ---- runs

-- The run of two courses, one after the other, in its two parts.
pub record Split {A B : Type 0} (who : Caller) (step : Course A) (rest : A → Course B) (old new : World) (end : B) : Type 0 where
  pub mid : World
  pub answer : A
  pub first : Runs who step old mid (Gives answer)
  pub second : Runs who (rest answer) mid new (Gives end)

pub split : {A B : Type 0} (who : Caller) (step : Course A) (rest : A → Course B) (old new : World) (end : B) → Runs who (then_course step rest) old new (Gives end) → Split who step rest old new end
split who (Ends answer) rest old new end run = record { mid = old; answer = answer; first = (refl, refl); second = run }
split who (Calls x next) rest old new end (met, (rivals, inl stops)) = absurd stops
split {A} {B} who (Calls x next) rest old new end (met, (rivals, inr (room, run))) = further (split who (next met.store) rest (after_call who.line who.party x None met) new end run)
  where
    further : Split who (next met.store) rest (after_call who.line who.party x None met) new end → Split who (Calls x next) rest old new end
    further s = record { mid = s.mid; answer = s.answer; first = (met, (rivals, inr (room, s.first))); second = s.second }

-- ---- what runs keep

-- Each call of the course is one of these.
abbrev pub AllCalls : {A : Type 0} → (Exchange → Type 0) → Course A → Type 0
AllCalls Q (Ends answer) = ⊤
AllCalls Q (Calls x next) = Q x × ((met : Store) → AllCalls Q (next met))

pub all_calls : {A : Type 0} (Q : Exchange → Type 0) → ((x : Exchange) → Q x) → (course : Course A) → AllCalls Q course
all_calls Q each (Ends answer) = tt
all_calls Q each (Calls x next) = (each x, λ met. all_calls Q each (next met))

-- The calls of this kind that the caller may make keep the property.
abbrev pub CallsHold : Caller → (Exchange → Type 0) → (World → Type 0) → Type 0
CallsHold who Q P = (x : Exchange) (strike : Strike) (world : World) → Keeps who.merge world → Lawful who.merge who.party world x → MayStrike x world strike → Q x → P world → P (after_call who.line who.party x strike world)

stops_hold : {A : Type 0} (who : Caller) (Q : Exchange → Type 0) (P : World → Type 0) (x : Exchange) (met new : World) (end : End A) → CallsHold who Q P → Keeps who.merge met → (HasRoom met x → Lawful who.merge who.party met x) → Q x → StopsAt who x met new end
    → P met → P new
stops_hold who Q P x met new (Gives answer) hold kept lawful one stops p = absurd stops
stops_hold who Q P x met new MeetsFault hold kept lawful one stops p = subst P (sym stops.1.1) (hold x (Some stops.1.0) met kept (lawful (struck_has_room x met stops.0)) stops.0 one p)
stops_hold who Q P x met new LacksMemory hold kept lawful one stops p = subst P stops p

-- What each call of a party that is alone keeps, a run of its lawful course keeps.
pub runs_hold : {A : Type 0} (who : Caller) (Q : Exchange → Type 0) (P : World → Type 0) (course : Course A) → who.alone ≡ true → CallsKeep who.merge → CallsHold who Q P → AllCalls Q course → (old new : World) (end : End A) → Keeps who.merge old
    → IsLawfulCourse who old course → Runs who course old new end → P old → P new
runs_hold who Q P (Ends answer) alone keep hold all old new end kept lawful run p = subst P run.0 p
runs_hold who Q P (Calls x next) alone keep hold all old new end kept lawful (met, (rivals, inl stops)) p =
    let same = only_met who old met alone rivals in
    stops_hold who Q P x met new end hold (subst (Keeps who.merge) same kept) (λ room. (lawful met rivals room).0) all.0 stops (subst P same p)
runs_hold who Q P (Calls x next) alone keep hold all old new end kept lawful (met, (rivals, inr (room, run))) p =
    let same = only_met who old met alone rivals in
    let there = subst (Keeps who.merge) same kept in
    let here = lawful met rivals room in
    runs_hold who Q P (next met.store) alone keep hold (all.1 met.store) _ new end (keep x who.line who.party None met there here.0 tt) here.1 run (hold x None met there here.0 tt all.0 (subst P same p))
