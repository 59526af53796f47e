-- How calls make the run of a step.
use Rattle.std.proofs.Common.{[], ◌≡◌, refl, sym, ◌∙◌, ap, subst, ℕ, ◌+◌, ◌≤◌, true, Option, Some, None, Result, Ok, Err, inl, inr, arith}
use Rattle.fleet_model.specs.Exchanges.{Exchange}
use Rattle.fleet_model.specs.Store.{Store}
use Rattle.step_model.specs.Past.{World}
use Rattle.step_model.specs.Rivals.{Caller, Rivals}
use Rattle.step_model.specs.Courses.Course.{Course, Ends, Calls}
use Rattle.step_model.specs.Courses.CourseRuns.{End, Gives, MeetsFault, LacksMemory, IsLawfulCourse}
use Rattle.step_model.specs.Courses.StepEnds.{StepEnd, GivesUp}
use Rattle.step_model.specs.LawfulRecords.{OfSome}
use Rattle.fleet_rows.specs.declared.errors.SlateDBError.{SlateDBError}
use Rattle.fleet_rows.specs.declared.errors.SlateDBError.TheVariants.{IteratorNotInitialized, IteratorFailed, MergeOperatorMissing, InvalidSequenceOrder, MergeOperator, CompactionFilter, InvalidCompaction, InvalidDBState, Fenced, StoreFault, NotOwner, Conflict, Generate, Memory}
use Rattle.step_model.specs.Views.{StoreView, SameCaller}
use Rattle.step_model.specs.Courses.Ran.{Ran}
use Rattle.fleet_store.specs.Called.{Called, IsMade, IsStruck, IsNotMade}
use Rattle.fleet_step.specs.Steps.{FaultsRise, RunsTo, StepRan, TryRan, Leads, end_of, refused_at}
use Rattle.step_model.specs.Later.{IsLater}
use Rattle.step_laws.proofs.Later.{call_later, later_itself, later_then, rivals_later}

same_itself : (view : StoreView) → SameCaller view view
same_itself view = record { who = refl; lent = refl; place = refl }

same_then : (a b c : StoreView) → SameCaller a b → SameCaller b c → SameCaller a c
same_then a b c one two = record { who = two.who ∙ one.who; lent = two.lent ∙ one.lent; place = two.place ∙ one.place }

no_rivals : (who : Caller) (world : World) → Rivals who world world
no_rivals who world = record { calls = []; lead = refl; none = λ alone. refl }

module _ {A : Type 0} where
  -- ---- where a party begins, and how parts of a run follow one another

  pub begins : (course : Course A) (view : StoreView) → Leads course view course view
  begins course view = record { same = same_itself view; rise = omega arith; no_fault = λ alone. refl; later = later_itself view.world.store; on = λ last left end ran. ran; lawful = λ lawful. lawful }

  -- If a course leads to a middle one and that leads to a rest, the course leads to the rest.
  pub then_leads : {course middle rest : Course A} {old mid new : StoreView} → Leads course old middle mid → Leads middle mid rest new → Leads course old rest new
  then_leads {course = course} {middle = middle} {rest = rest} {old = old} {mid = mid} {new = new} one two =
      let who = one.same.who in
      record {
        same = same_then old mid new one.same two.same;
        rise = omega (arith, one.rise, two.rise);
        no_fault = λ alone. two.no_fault (ap (λ w. w.alone) who ∙ alone) ∙ one.no_fault alone;
        later = later_then old.world.store mid.world.store new.world.store one.later two.later;
        on = λ last left end ran. one.on last left end (subst (λ w. Ran w middle mid.world last mid.waits left end) who (two.on last left end (subst (λ w. Ran w rest new.world last new.waits left end) (sym who) ran)));
        lawful = λ lawful. subst (λ w. IsLawfulCourse w new.world rest) who (two.lawful (subst (λ w. IsLawfulCourse w mid.world middle) (sym who) (one.lawful lawful)));
      }

  rises_more : (end : End A) (old mid new : StoreView) → mid.who ≡ old.who → old.faults ≤ mid.faults → (old.who.alone ≡ true → mid.faults ≡ old.faults) → FaultsRise end mid new → FaultsRise end old new
  rises_more (Gives answer) old mid new who low none (rise, exact) = (omega (arith, low, rise), λ alone. exact (ap (λ w. w.alone) who ∙ alone) ∙ none alone)
  rises_more MeetsFault old mid new who low none (rise, exact) = (omega (arith, low, rise), λ alone. exact (ap (λ w. w.alone) who ∙ alone) ∙ ap (λ n. n + 1) (none alone))
  rises_more LacksMemory old mid new who low none (rise, exact) = (omega (arith, low, rise), λ alone. exact (ap (λ w. w.alone) who ∙ alone) ∙ none alone)

  pub then_runs : {course rest : Course A} {old mid new : StoreView} {end : End A} → Leads course old rest mid → RunsTo rest mid new end → RunsTo course old new end
  then_runs {rest = rest} {old = old} {mid = mid} {new = new} {end = end} one two = record {
    same = same_then old mid new one.same two.same;
    faults = rises_more end old mid new one.same.who one.rise one.no_fault two.faults;
    ran = one.on new.world new.waits end (subst (λ w. Ran w rest mid.world new.world mid.waits new.waits end) one.same.who two.ran);
  }

  -- ---- the end of a run

  pub gives : (answer : A) (view : StoreView) → RunsTo (Ends answer) view view (Gives answer)
  gives answer view = record { same = same_itself view; faults = (omega arith, λ alone. refl); ran = (refl, (λ alone. refl, refl)) }

  -- Memory may run out anywhere.
  pub lacks : (course : Course A) (view : StoreView) → RunsTo course view view LacksMemory
  lacks (Ends answer) view = record { same = same_itself view; faults = (omega arith, λ alone. refl); ran = (refl, (λ alone. refl, tt)) }
  lacks (Calls x next) view = record {
    same = same_itself view;
    faults = (omega arith, λ alone. refl);
    ran = (view.world, (no_rivals view.who view.world, inl (refl, λ alone. refl)));
  }

  -- ---- one call

  module _ (x : Exchange) (next : Store → Course A) (old new : StoreView) (same : SameCaller old new) (rise : old.faults ≤ new.faults) (met : World) (rivals : Rivals old.who old.world met) where
    pub made_leads : IsMade x met old new → Leads (Calls x next) old (next met.store) new
    made_leads made = record {
      same = same;
      rise = rise;
      no_fault = made.no_fault;
      later = later_then old.world.store met.store new.world.store (rivals_later old.who old.world met rivals) (subst (λ (t : World). IsLater met.store t.store) (sym made.leaves) (call_later old.who.line old.who.party x None met.store));
      on = λ last left end ran. (met, (rivals, inr (made.room, (new.waits, (made.spares, subst (λ t. Ran old.who (next met.store) t last new.waits left end) made.leaves ran)))));
      lawful = λ lawful. subst (λ t. IsLawfulCourse old.who t (next met.store)) (sym made.leaves) (lawful met rivals made.room).1;
    }

    pub struck_runs : IsStruck x met old new → RunsTo (Calls x next) old new MeetsFault
    struck_runs struck = record {
      same = same;
      faults = (struck.fault, struck.one_fault);
      ran = (met, (rivals, inl (struck.counts, (struck.stands, (struck.leaves, struck.strikes)))));
    }

    pub not_made_runs : IsNotMade met old new → RunsTo (Calls x next) old new LacksMemory
    not_made_runs not_made = record {
      same = same;
      faults = (rise, not_made.no_fault);
      ran = (met, (rivals, inl (sym not_made.leaves, not_made.waits_on)));
    }

-- A call that answers leads on by what it met.
pub call_leads : {A B : Type 0} {x : Exchange} {old new : StoreView} {P : Store → A → Type 0} {Q : Store → ℕ → Type 0} {answer : A}
    → (called : Called old new (λ met. x) P Q (Ok answer)) → (next : Store → Course B) → Leads (Calls x next) old (next called.met.store) new
call_leads {x = x} {old = old} {new = new} called next = made_leads x next old new called.same called.rise called.met called.rivals called.ended.1

-- ---- parts of a step

some_map : {A : Type 0} (P Q : A → Type 0) → ((x : A) → P x → Q x) → (o : Option A) → OfSome P o → OfSome Q o
some_map P Q f None p = absurd p
some_map P Q f (Some x) p = f x p

module _ {A B : Type 0} (ends : A → StepEnd B) where
  -- A result that tells of no refused put.
  pub tried : {course : Course (StepEnd B)} {again : ℕ → Course (StepEnd B)} {old new : StoreView} {result : Result A SlateDBError} → refused_at result ≡ None → StepRan ends course old new result → TryRan ends course again old new result
  tried none ran = record { ended = λ e. ran; refused = λ seen e. absurd (cc (sym none ∙ e)) }

  -- What a step does from here on, after what it did so far.
  pub then_ran : {course rest : Course (StepEnd B)} {old mid new : StoreView} {result : Result A SlateDBError} → Leads course old rest mid → StepRan ends rest mid new result → StepRan ends course old new result
  then_ran {course = course} {rest = rest} {old = old} {mid = mid} {new = new} {result = result} lead ran =
      record { to_end = some_map (RunsTo rest mid new) (RunsTo course old new) (λ end runs. then_runs lead runs) (end_of ends result) ran.to_end }

  pub then_tried : {course rest : Course (StepEnd B)} {again : ℕ → Course (StepEnd B)} {old mid new : StoreView} {result : Result A SlateDBError} → Leads course old rest mid → TryRan ends rest again mid new result → TryRan ends course again old new result
  then_tried lead ran = record { ended = λ last. then_ran lead (ran.ended last); refused = λ seen more. then_leads lead (ran.refused seen more) }

  -- A step that ends here reports.
  pub reports : (course : Course (StepEnd B)) (view : StoreView) (answer : A) → course ≡ Ends (ends answer) → StepRan ends course view view (Ok answer)
  reports course view answer is = record { to_end = rw is (gives (ends answer) view) }

  -- Memory may run out anywhere.
  pub wants : (course : Course (StepEnd B)) (view : StoreView) → StepRan ends course view view (Err Memory)
  wants course view = record { to_end = lacks course view }

  -- The last try was refused.
  pub gives_up : (course : Course (StepEnd B)) (view : StoreView) (seen : ℕ) → course ≡ Ends (GivesUp seen) → StepRan ends course view view (Err (Conflict seen))
  gives_up course view seen is = record { to_end = rw is (gives (GivesUp seen) view) }

  -- A call that fails ends the step, or its put was refused.
  pub call_fails : {C : Type 0} {x : Exchange} {old new : StoreView} {P : Store → C → Type 0} {Q : Store → ℕ → Type 0} (e : SlateDBError)
      → (called : Called old new (λ met. x) P Q (Err e)) → (next : Store → Course (StepEnd B)) → (again : ℕ → Course (StepEnd B))
      → ((seen : ℕ) → Q called.met.store seen → next called.met.store ≡ again seen) → TryRan ends (Calls x next) again old new (Err e)
  call_fails {x = x} {old = old} {new = new} StoreFault called next again refused = tried refl (record { to_end = struck_runs x next old new called.same called.rise called.met called.rivals called.ended })
  call_fails {x = x} {old = old} {new = new} (Conflict seen) called next again refused = record {
    ended = λ e. absurd (cc e);
    refused = λ at e. subst (λ rest. Leads (Calls x next) old rest new) (refused seen called.ended.0 ∙ ap again (the_version seen at e)) (made_leads x next old new called.same called.rise called.met called.rivals called.ended.1);
  }
    where
      the_version : (a b : ℕ) → Some a ≡ Some b → a ≡ b
      the_version a b e = cc e
  call_fails {x = x} {old = old} {new = new} Memory called next again refused = tried refl (record { to_end = not_made_runs x next old new called.same called.rise called.met called.rivals called.ended })
  call_fails IteratorNotInitialized called next again refused = absurd called.ended
  call_fails IteratorFailed called next again refused = absurd called.ended
  call_fails MergeOperatorMissing called next again refused = absurd called.ended
  call_fails (InvalidSequenceOrder current after) called next again refused = absurd called.ended
  call_fails (MergeOperator error) called next again refused = absurd called.ended
  call_fails (CompactionFilter error) called next again refused = absurd called.ended
  call_fails InvalidCompaction called next again refused = absurd called.ended
  call_fails InvalidDBState called next again refused = absurd called.ended
  call_fails (Fenced stored) called next again refused = absurd called.ended
  call_fails NotOwner called next again refused = absurd called.ended
  call_fails (Generate message) called next again refused = absurd called.ended
