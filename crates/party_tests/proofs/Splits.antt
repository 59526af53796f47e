-- Passes that are split off another one.
use Rattle.std.proofs.Common.{◌≡◌, refl, sym, ◌∙◌, ap, ℕ, ◌+◌, ◌≤◌, ◌==◌, List, Bool, true, false, Result, Ok, subst, arith}
use Rattle.std.specs.Prelude.{IfOk}
use Rattle.std.proofs.lemmas.Bool.{eqb-true}
use Rattle.row_model.specs.Append.{append}
use Rattle.fleet_model.specs.History.{Coordinator, Worker}
use Rattle.step_model.specs.Kept.Keeps.{Keeps}
use Rattle.fleet_history.specs.Parties.{party_of}
use Rattle.fleet_store.specs.Memory.{StoreParts}
use Rattle.fleet_lock.specs.Counts.{count}
use Rattle.fleet_lock.specs.Held.{last_from}
use Rattle.fleet_lock.specs.Passes.{IsFirst, PassValue}
use Rattle.fleet_lock.specs.Rule.{HoldsName, keeps_less, newcomer}
use Rattle.fleet_lock.specs.declared.sight.Sight.{Sight}
use Rattle.fleet_history.specs.declared.party.Party.{Party}
use Rattle.party_tests.specs.Passes.{Leads, MayLend, Serves}

-- A store that was made as a fresh one meets the invariant.
pub fresh_meets : {E : Type 0} (made : Result StoreParts E) (store fresh : StoreParts) → made ≡ Ok store → IfOk made (λ s. s ≡ fresh) → Keeps append fresh.world → Keeps append store.world
fresh_meets {E} made store fresh is same keeps =
    let found : store ≡ fresh = subst (λ (r : Result StoreParts E). IfOk r (λ s. s ≡ fresh)) is same in
    subst (λ (s : StoreParts). Keeps append s.world) (sym found) keeps

-- The first pass can lend all names.
pub first_lends : (parts : ℕ) (store : StoreParts) (settings : List ℕ) (pass : PassValue) → IsFirst parts store settings pass → Keeps append store.world → (least : ℕ) → MayLend least pass
first_lends parts store settings pass first keeps least = record {
  writer = first.party;
  names = λ name more. first.names name;
  keeps = subst (λ (s : StoreParts). Keeps append s.world) (sym (ap (λ (s : StoreParts). last_from s pass.sight.trace) first.base ∙ ap (last_from store) first.trace)) keeps;
}

-- A view that hands a name on holds all later ones that it held.
holds_later : (v : Sight) (n : ℕ) → ((name : ℕ) → n ≤ name → HoldsName v name) → (name : ℕ) → n + 1 ≤ name → HoldsName (keeps_less v n) name
holds_later v n holds name later = by (n == name) refl
  where
    by : (b : Bool) → (n == name) ≡ b → HoldsName (keeps_less v n) name
    by true e = let same = eqb-true n name e in absurd (omega (arith, same, later))
    by false e = let mine = holds name (omega (arith, later)) in let none : count (n == name) ≡ 0 = ap count e in omega (arith, none, mine)

module _ (n : ℕ) (pass : PassValue) (lends : MayLend n pass) where
  -- The pass can lend the later names then.
  pub lends_later : MayLend (n + 1) (record pass { sight = keeps_less pass.sight n })
  lends_later = record { writer = lends.writer; names = holds_later pass.sight n lends.names; keeps = lends.keeps }

  -- A coordinator may start through the new pass, and so may a worker.
  module _ (party : Party) (number : ℕ) where
    pub leads_new : party_of party ≡ Coordinator number → Leads (record pass { sight = newcomer pass.sight n; party = party })
    leads_new is lent = record { by = record { number = number; party = is }; keeps = lends.keeps }

    pub serves_new : party_of party ≡ Worker number → Serves number (record pass { sight = newcomer pass.sight n; party = party })
    serves_new is lent = record { party = is; keeps = lends.keeps; folds = refl }
