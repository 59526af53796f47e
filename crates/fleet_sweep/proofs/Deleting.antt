-- How a sweep deletes, table by table.
use Rattle.std.proofs.Common.{◌≡◌, sym, ◌∙◌, ap, subst, ℕ, ◌+◌, ◌<◌, ◌≤◌, List, ◌∷◌, drop, get_or, length, Ok, Err}
use Rattle.std.proofs.lemmas.List.{drop_all, drop_more}
use Rattle.fleet_model.specs.Exchanges.{DeletesTable}
use Rattle.step_model.specs.Past.{World}
use Rattle.step_model.specs.Rivals.{Caller, Rivals}
use Rattle.step_model.specs.Lawful.{Lawful}
use Rattle.step_model.specs.Courses.Course.{Course, Ends}
use Rattle.step_model.specs.Steps.SweepSteps.{deletes_each, sweep}
use Rattle.step_model.specs.Views.{StoreView}
use Rattle.course_laws.proofs.Sweeps.{sweeps_are_lawful}
use Rattle.fleet_rows.specs.declared.errors.SlateDBError.{SlateDBError}
use Rattle.fleet_store.specs.Asks.{Deletes, MayCall}
use Rattle.fleet_step.specs.Steps.{Leads}
use Rattle.fleet_step.proofs.Steps.{call_leads, then_leads}
use Rattle.fleet_sweep.specs.Sweeps.{MaySweep, SweepRan}
use Rattle.fleet_sweep.proofs.Turns.{answers, fails, then_rest}

-- What is left to do where the tables from this place on are left to delete.
abbrev pub rest_from : List ℕ → ℕ → Course (List ℕ)
rest_from tables i = deletes_each (drop i tables) (Ends tables)

module _ (pins : List ℕ) (old mid : StoreView) (tables : List ℕ) (i id : ℕ) (below : i < length tables) (is : id ≡ get_or tables i id) (lead : Leads (sweep pins) old (rest_from tables i) mid) where
  here : drop i tables ≡ id ∷ drop (i + 1) tables
  here = drop_more tables i id below ∙ ap (λ x. x ∷ drop (i + 1) tables) (sym is)

  at_call : Leads (sweep pins) old (deletes_each (id ∷ drop (i + 1) tables) (Ends tables)) mid
  at_call = subst (λ ids. Leads (sweep pins) old (deletes_each ids (Ends tables)) mid) here lead

  -- The table may be deleted.
  pub may_delete : MaySweep old → MayCall mid (λ met. DeletesTable id)
  may_delete may =
      let lawful = at_call.lawful (sweeps_are_lawful old.who old.world pins may.alone may.party may.keeps may.none_pending) in
      subst (λ (who : Caller). (met : World) → Rivals who mid.world met → Lawful who.merge who.party met (DeletesTable id)) (sym lead.same.who) (λ met rivals. (lawful met rivals tt).0)

  pub delete_fails : (new : StoreView) (e : SlateDBError) → Deletes mid new id (Err e) → SweepRan pins old new (Err e)
  delete_fails new e called = then_rest at_call (fails e called (λ met. rest_from tables (i + 1)))

  pub deletes_on : (new : StoreView) → Deletes mid new id (Ok tt) → Leads (sweep pins) old (rest_from tables (i + 1)) new
  deletes_on new called = then_leads at_call (call_leads called (λ met. rest_from tables (i + 1)))

-- All tables are deleted.
pub deleted_all : (pins : List ℕ) (old new : StoreView) (tables : List ℕ) (i : ℕ) → length tables ≤ i → Leads (sweep pins) old (rest_from tables i) new → SweepRan pins old new (Ok tables)
deleted_all pins old new tables i past lead =
    then_rest (subst (λ ids. Leads (sweep pins) old (deletes_each ids (Ends tables)) new) (drop_all i tables past) lead) (answers tables new)
