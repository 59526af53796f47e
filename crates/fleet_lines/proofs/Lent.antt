-- What a party may do with the store of a fleet that is lent to it.
use Rattle.std.proofs.Common.{◌≡◌, refl, sym, subst, ℕ, Bool, true, false}
use Rattle.std.specs.Bool.{OnFalse}
use Rattle.row_model.specs.Fold.{Operator}
use Rattle.step_model.specs.Kept.Keeps.{Keeps}
use Rattle.fleet_history.specs.declared.party.Party.{Party}
use Rattle.fleet_history.specs.declared.party.Party.TheVariants as party
use Rattle.fleet_store.specs.Memory.{StoreParts}
use Rattle.fleet_store.specs.Under.{view_of}
use Rattle.fleet_worker.specs.Workers.{IsReady, WorkerParts}
use Rattle.fleet_lines.specs.Steps.{MayWork, at_line}

-- The store keeps the invariant while it is lent.
pub keeps_lent : (merge mine : Operator) (number : ℕ) (p : Party) (store mid : StoreParts) → mine ≡ merge → mid ≡ at_line number p store → Keeps merge store.world → Keeps mine mid.world
keeps_lent merge mine number p store mid same at keeps = subst (λ (o : Operator). Keeps o mid.world) (sym same) (subst (λ (m : StoreParts). Keeps merge m.world) (sym at) keeps)

-- A worker to which the store is lent is ready.
pub ready_lent : (merge mine : Operator) (number lent : ℕ) (store mid : StoreParts) (w : WorkerParts) → mine ≡ merge → mid ≡ at_line number (party.Worker w.number) store → MayWork merge store.world w → IsReady (view_of mine lent mid) w
ready_lent merge mine number lent store mid w same at may =
    subst (λ (o : Operator). IsReady (view_of o lent mid) w) (sym same) (subst (λ (m : StoreParts). IsReady (view_of merge lent m) w) (sym at) (record {
      may = record { party = refl; keeps = may.keeps; holds = may.holds };
      noted = may.noted;
    }))

-- A worker that is ready after its step may make another one.
pub may_again : (merge mine : Operator) (lent : ℕ) (store : StoreParts) (w : WorkerParts) (stopped : Bool) → mine ≡ merge → OnFalse stopped (IsReady (view_of mine lent store) w) → OnFalse stopped (MayWork merge store.world w)
may_again merge mine lent store w true same ready = tt
may_again merge mine lent store w false same ready =
    let r = subst (λ (o : Operator). IsReady (view_of o lent store) w) same ready in record { keeps = r.may.keeps; holds = r.may.holds; noted = r.noted }
