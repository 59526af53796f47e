use Rattle.std.proofs.Common.{◌≡◌, ◌∙◌, ◌∷◌, [], ◌++◌, List, length, ap, arith, sym, length-append}
use Rattle.fleet_lock.proofs.lock.only.Goals as goal

-- The last item of a list with one item.
last_only : {A : Type 0} (xs : List A) (y x : A) → xs ++ y ∷ [] ≡ x ∷ [] → y ≡ x
last_only [] y x e = cc e
last_only (z ∷ zs) y x e = let l = ap length e in let m = length-append zs (y ∷ []) in absurd (omega arith)

pub unreachable-requires : goal.unreachable-requires
unreachable-requires g c =
    let one : length c.args.slots.items ≡ 1 = ap length c.requires.1 in
    let none = c.in_default.ensures.cases in
    let ok = c.args.slots.ok in
    omega arith

pub unreachable-requires-in_default-slot : goal.unreachable-requires-in_default-slot
unreachable-requires-in_default-slot g c =
    let last = last_only _ _ _ (sym c.in-Some.ensures.items ∙ c.requires.1) in
    absurd (cc (last, c.in_default-slot.is))
