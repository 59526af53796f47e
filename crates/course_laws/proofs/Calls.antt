-- Calls after which the invariant holds, gets and notes one after the other, and elements of lists.
use Rattle.std.proofs.Common.{◌≡◌, refl, sym, subst, ℕ, zero, suc, List, [], ◌∷◌, cond, Bool, true, false, inl, inr, None, take}
use Rattle.std.specs.Prelude.{IsTrue, ◌&&◌, filter, map, ◌||◌, ◌⊎◌}
use Rattle.std.specs.List.{AllByRecursion}
use Rattle.row_model.specs.Lists.{Pairs}
use Rattle.fleet_model.specs.History.{Event, Entry, stood}
use Rattle.fleet_model.specs.Exchanges.{Exchange, Plain}
use Rattle.step_model.specs.Past.{World}
use Rattle.step_model.specs.Entries.{was_done}
use Rattle.step_model.specs.Lawful.{Lawful}
use Rattle.step_model.specs.LawfulTables.{PlainFits}
use Rattle.step_model.specs.Rivals.{Caller, RivalCall, IsRival, RivalsFrom, Rivals, after_call, after_rival}
use Rattle.step_model.specs.Kept.Keeps.{Keeps}
use Rattle.step_model.specs.Courses.CourseRuns.{IsLawfulCourse}
use Rattle.step_model.specs.Courses.Course.{Course, calls_each}
use Rattle.step_laws.specs.Runs.{CallsKeep}
use Rattle.step_laws.proofs.Elements.{IsIn, all_to, any_front}
use Rattle.step_laws.proofs.TableReplays.{all_filter}
use Rattle.course_laws.proofs.Later.{Later, later_itself, later_by, later_then, rivals_later}

-- A lawful call of one's own leaves a store that keeps the invariant.
pub keeps_after : (who : Caller) (x : Exchange) (met : World) → CallsKeep who.merge → Keeps who.merge met → Lawful who.merge who.party met x → Keeps who.merge (after_call who.line who.party x None met)
keeps_after who x met keep kept lawful = keep x who.line who.party None met kept lawful tt

-- Gets and notes in order are lawful, if each is lawful at all later times.
pub calls_lawful : {A : Type 0} (who : Caller) (next : Course A) (events : List Event) (world : World) → ((new : World) → Later world new → AllByRecursion (PlainFits who.party new.store) events)
    → ((new : World) → Later world new → IsLawfulCourse who new next) → IsLawfulCourse who world (calls_each events next)
calls_lawful who next [] world each rest = rest world (later_itself world)
calls_lawful who next (event ∷ events) world each rest = λ met rivals room.
    let later = rivals_later who world met rivals in
    let on = later_then world met (after_call who.line who.party (Plain event) None met) later (later_by who.line who.party (Plain event) None met) in (
      (each met later).0,
      calls_lawful who next events (after_call who.line who.party (Plain event) None met) (λ new more. (each new (later_then world _ new on more)).1) (λ new more. rest new (later_then world _ new on more)),
    )

-- What was done, was done later too.
pub done_later : (is : Event → Bool) (old new : World) → Later old new → IsTrue (was_done is old.store.history) → IsTrue (was_done is new.store.history)
done_later is old new later h =
    subst (λ (history : List Entry). IsTrue (was_done is history)) (sym later.history) (any_front (λ (entry : Entry). is entry.event && stood entry.answer) old.store.history later.more h)

-- ---- elements

pub both : (a b : Bool) → (a && b) ≡ true → (a ≡ true) × (b ≡ true)
both true b h = (refl, h)
both false b h = absurd (cc h)

pub or_cases : (a b : Bool) → (a || b) ≡ true → (a ≡ true) ⊎ (b ≡ true)
or_cases true b e = inl refl
or_cases false b e = inr e

pub pairs_filter : {A : Type 0} (R : A → A → Type 0) (p : A → Bool) (xs : List A) → Pairs R xs → Pairs R (filter p xs)
pairs_filter R p [] h = tt
pairs_filter R p (x ∷ xs) h = by (p x) (pairs_filter R p xs h.1)
  where
    by : (b : Bool) → Pairs R (filter p xs) → Pairs R (cond b (x ∷ filter p xs) (filter p xs))
    by true rest = (all_filter (R x) p xs h.0, rest)
    by false rest = rest

pub all_take : {A : Type 0} (P : A → Type 0) (n : ℕ) (xs : List A) → AllByRecursion P xs → AllByRecursion P (take n xs)
all_take P zero xs h = tt
all_take P (suc n) [] h = tt
all_take P (suc n) (x ∷ xs) h = (h.0, all_take P n xs h.1)

pub pairs_take : {A : Type 0} (R : A → A → Type 0) (n : ℕ) (xs : List A) → Pairs R xs → Pairs R (take n xs)
pairs_take R zero xs h = tt
pairs_take R (suc n) [] h = tt
pairs_take R (suc n) (x ∷ xs) h = (all_take (R x) n xs h.0, pairs_take R n xs h.1)

-- What a filter leaves is in the list and passes the test.
pub filtered : {A : Type 0} (p : A → Bool) (xs : List A) → AllByRecursion (λ x. IsIn x xs × (p x ≡ true)) (filter p xs)
filtered p [] = tt
filtered {A} p (x ∷ xs) = by (p x) refl (all_to _ _ (filter p xs) (λ y there h. (inr h.0, h.1)) (filtered p xs))
  where
    by : (b : Bool) → p x ≡ b → AllByRecursion (λ (y : A). IsIn y (x ∷ xs) × (p y ≡ true)) (filter p xs) → AllByRecursion (λ (y : A). IsIn y (x ∷ xs) × (p y ≡ true)) (cond b (x ∷ filter p xs) (filter p xs))
    by true e rest = ((inl refl, e), rest)
    by false e rest = rest

pub all_map : {A B : Type 0} (P : B → Type 0) (f : A → B) (xs : List A) → AllByRecursion (λ x. P (f x)) xs → AllByRecursion P (map f xs)
all_map P f [] h = tt
all_map P f (x ∷ xs) h = (h.0, all_map P f xs h.1)

-- ---- what calls of others leave

hold_from : (who : Caller) (P : World → Type 0) → CallsKeep who.merge → ((world : World) (call : RivalCall) → Keeps who.merge world → IsRival who world call → P world → P (after_rival call world))
    → (calls : List RivalCall) (old new : World) → Keeps who.merge old → RivalsFrom who calls old new → P old → P new
hold_from who P keep each [] old new kept same p = subst P same p
hold_from who P keep each (call ∷ calls) old new kept lead p =
    hold_from who P keep each calls (after_rival call old) new (keep call.exchange call.line call.party call.strike old kept lead.0.lawful lead.0.strike) lead.1 (each old call kept lead.0 p)

-- What each call of others leaves, all of them leave.
pub rivals_hold : (who : Caller) (P : World → Type 0) → CallsKeep who.merge → ((world : World) (call : RivalCall) → Keeps who.merge world → IsRival who world call → P world → P (after_rival call world))
    → (old new : World) → Keeps who.merge old → Rivals who old new → P old → P new
rivals_hold who P keep each old new kept rivals p = hold_from who P keep each rivals.calls old new kept rivals.lead p
