-- The answers of an outer iterator whose inner iterator failed.
use Rattle.std.proofs.Common.{◌≡◌, ◌≢◌, ◌∙◌, sym, refl, ap, List, ℕ, Bool, true, false, Option, Some, None, Err}
use Rattle.std.specs.Prelude.{Result}
use Rattle.fleet_rows.specs.declared.row.RowEntry.{RowEntry}
use Rattle.fleet_rows.specs.declared.errors.SlateDBError.{SlateDBError}
use Rattle.fleet_rows.specs.declared.errors.SlateDBError.TheVariants.{IteratorNotInitialized, Memory}
use Rattle.fleet_iter.specs.Iteration.{IteratorState, CanFail, IsKnown, Fails, NextFails, Inits, Nexts, Seeks, HandsOn, KeepsRefusal, is_exact}

error_of : {A : Type 0} (x y : SlateDBError) → ◌≡◌ {A = Result A SlateDBError} (Err x) (Err y) → x ≡ y
error_of x y same = cc same

-- An error that may fail the inner iterator may fail the outer one, if the outer one is whole only where the
-- inner one is.
pub kept_cause : (inner outer : Bool) (e answer : SlateDBError) → (outer ≡ true → inner ≡ true) → (answer ≢ Memory → answer ≡ e) → (e ≡ Memory → answer ≡ Memory) → CanFail inner e → CanFail outer answer
kept_cause inner outer e answer weaker same memory cause = record {
  initialised = λ is. cause.initialised (sym (same (λ m. let k = sym is ∙ m in cc k)) ∙ is);
  alive = λ is. cause.alive (sym (same (λ m. let k = sym is ∙ m in cc k)) ∙ is);
  memory = λ all. memory (cause.memory (weaker all));
}

pub kept_known : (s : IteratorState) (e answer : SlateDBError) → (answer ≢ Memory → answer ≡ e) → (e ≡ Memory → answer ≡ Memory) → IsKnown s e → IsKnown s answer
kept_known s e answer same memory known afterwards is other =
    let (none, as_stated) = known afterwards is (λ m. other (memory m)) in
    (none, same other ∙ as_stated)

-- The answers of an outer iterator, whose states and inner states before and after the call are given.
module _ (old new inner after : IteratorState) (e answer : SlateDBError) (alive : old.failure ≡ None) (inner_alive : inner.failure ≡ None) (keeps : KeepsRefusal e old.failure new.failure answer) where
  pub init_refused : (old.whole ≡ true → inner.whole ≡ true) → Inits inner after (Err e) → Inits old new (Err answer)
  init_refused weaker inits =
      let fails : Fails inner.whole after e = inits.answers inner_alive in
      record {
        failed = λ failed. absurd (failed alive);
        answers = λ _. record { failed = keeps.kept fails.cause.initialised; cause = kept_cause inner.whole old.whole e answer weaker keeps.same keeps.memory fails.cause };
      }

  module _ (begins : old.initialised ≡ inner.initialised) (stays : inner.initialised ≡ false → after ≡ inner → new.failure ≡ old.failure → new ≡ old) where
    pub next_refused : (old.whole ≡ true → inner.whole ≡ true) → (IsKnown inner e → CanFail inner.whole e → IsKnown old e) → Nexts inner after (Err e) → Nexts old new (Err answer)
    next_refused weaker known nexts = record {
      failed = λ failed. absurd (failed alive);
      uninitialised = λ _ i.
          let early = nexts.uninitialised inner_alive (sym begins ∙ i) in
          let is : e ≡ IteratorNotInitialized = error_of e IteratorNotInitialized early.answer in
          record { answer = ap Err ((keeps.early is).0 ∙ is); same = stays (sym begins ∙ i) early.same (keeps.early is).1 };
      answers = λ _ i.
          let fails : NextFails inner after e = nexts.answers inner_alive (sym begins ∙ i) in
          record {
            failed = keeps.kept fails.cause.initialised;
            cause = kept_cause inner.whole old.whole e answer weaker keeps.same keeps.memory fails.cause;
            known = kept_known old e answer keeps.same keeps.memory (known fails.known fails.cause);
          };
    }

    pub seek_refused : (key : List ℕ) → (is_exact old ≡ true → is_exact inner ≡ true) → Seeks key inner after (Err e) → Seeks key old new (Err answer)
    seek_refused key weaker seeks = record {
      failed = λ failed. absurd (failed alive);
      uninitialised = λ _ i.
          let early = seeks.uninitialised inner_alive (sym begins ∙ i) in
          let is : e ≡ IteratorNotInitialized = error_of e IteratorNotInitialized early.answer in
          record { answer = ap Err ((keeps.early is).0 ∙ is); same = stays (sym begins ∙ i) early.same (keeps.early is).1 };
      answers = λ _ i.
          let fails : Fails (is_exact inner) after e = seeks.answers inner_alive (sym begins ∙ i) in
          record { failed = keeps.kept fails.cause.initialised; cause = kept_cause (is_exact inner) (is_exact old) e answer weaker keeps.same keeps.memory fails.cause };
    }

-- ---- the errors that an outer iterator hands on

module _ (old inner after : IteratorState) (e answer : SlateDBError) (inner_alive : inner.failure ≡ None) (kept : Option SlateDBError) (keeps : KeepsRefusal e old.failure kept answer) where
  of_inner : after.failure ≡ Some e → answer ≢ Memory → after.failure ≡ Some answer
  of_inner failed other = failed ∙ ap Some (sym (keeps.same other))

  pub init_handed : Inits inner after (Err e) → HandsOn {A = Unit {0}} old after (Err answer)
  init_handed inits alive begun = of_inner (inits.answers inner_alive).failed

  begins : (b : Bool) → inner.initialised ≡ b → (inner.initialised ≡ false → e ≡ IteratorNotInitialized) → answer ≢ IteratorNotInitialized → inner.initialised ≡ true
  begins true is early begun = is
  begins false is early begun = absurd (begun ((keeps.early (early is)).0 ∙ early is))

  pub next_handed : Nexts inner after (Err e) → HandsOn {A = Option RowEntry} old after (Err answer)
  next_handed nexts alive begun =
      of_inner (nexts.answers inner_alive (begins inner.initialised refl (λ i. error_of e IteratorNotInitialized (nexts.uninitialised inner_alive i).answer) begun)).failed

  pub seek_handed : (key : List ℕ) → Seeks key inner after (Err e) → HandsOn {A = Unit {0}} old after (Err answer)
  seek_handed key seeks alive begun =
      of_inner (seeks.answers inner_alive (begins inner.initialised refl (λ i. error_of e IteratorNotInitialized (seeks.uninitialised inner_alive i).answer) begun)).failed
