-- Passes with one place are alike.
use Rattle.std.proofs.Common.{◌≡◌, ℕ, ◌+◌, ◌-◌, List, [], ◌∷◌, ◌++◌, length, refl, ap, arith}
use Rattle.step_model.specs.Rivals.{Caller}
use Rattle.atomic_table.specs.Seated.{TableId}
use Rattle.fleet_lock.specs.Counts.{times}
use Rattle.fleet_lock.specs.Passes.{CallersKeepPasses, names_in, table_numbers, with_length}

-- Equal lists whose fronts have one length have equal fronts and equal rests.
cut : (xs ys us vs : List ℕ) → length xs ≡ length us → xs ++ ys ≡ us ++ vs → (xs ≡ us) × (ys ≡ vs)
cut [] ys [] vs l e = (refl, e)
cut [] ys (u ∷ us) vs l e = absurd (omega arith)
cut (x ∷ xs) ys [] vs l e = absurd (omega arith)
cut (x ∷ xs) ys (u ∷ us) vs l e =
    let rest = cut xs ys us vs (omega arith) (cc e) in
    let head : x ≡ u = cc e in
    ((λ i. head i ∷ rest.0 i), rest.1)

cut_counted : (xs ys us vs : List ℕ) → with_length xs ++ ys ≡ with_length us ++ vs → (xs ≡ us) × (ys ≡ vs)
cut_counted xs ys us vs e = cut xs ys us vs (cc e) (cc e)

same_table : (a b : TableId) → table_numbers a ≡ table_numbers b → a ≡ b
same_table a b e =
    let words : a.words ≡ b.words = cc e in
    let slots : a.slots ≡ b.slots = cc e in
    let views : a.views_name ≡ b.views_name = cc e in
    let atom : a.atom ≡ b.atom = cc e in
    let block : a.block ≡ b.block = cc e in
    let offset : a.offset ≡ b.offset = cc e in
    let names : a.slot_names ≡ b.slot_names = cc e in
    λ i. record { words = words i; slots = slots i; views_name = views i; atom = atom i; block = block i; offset = offset i; slot_names = names i }

-- The law: if two passes show the same caller, they are the same pass.
pub callers_keep_passes : CallersKeepPasses
callers_keep_passes folds lent old new same =
    let v = old.sight in
    let w = new.sight in
    let place : with_length (table_numbers new.table) ++ (with_length w.settings ++ names_in w) ≡ with_length (table_numbers old.table) ++ (with_length v.settings ++ names_in v) = same.place in
    let table = cut_counted (table_numbers new.table) (with_length w.settings ++ names_in w) (table_numbers old.table) (with_length v.settings ++ names_in v) place in
    let settings = cut_counted w.settings (names_in w) v.settings (names_in v) table.1 in
    let received = cut_counted w.received (with_length w.handed ++ (w.all ∷ w.parts ∷ w.whole ∷ [])) v.received (with_length v.handed ++ (v.all ∷ v.parts ∷ v.whole ∷ [])) settings.1 in
    let handed = cut_counted w.handed (w.all ∷ w.parts ∷ w.whole ∷ []) v.handed (v.all ∷ v.parts ∷ v.whole ∷ []) received.1 in
    let whole : w.whole ≡ v.whole = cc handed.1 in
    record {
      table = same_table new.table old.table table.0;
      settings = settings.0;
      names = λ name i. (whole i + times name (received.0 i)) - times name (handed.0 i);
      all = cc handed.1;
      parts = cc handed.1;
      line = ap (λ (c : Caller). c.line) same.who;
      party = ap (λ (c : Caller). c.party) same.who;
    }
