use Rattle.std.proofs.Common.{◌≡◌, ◌∙◌, ◌∷◌, [], ◌++◌, List, Option, Some, ap, arith, subst, sym}
use Rattle.atomic_table.specs.Table.{opening}
use Rattle.fleet_lock.specs.Held.{HeldValue, held_store}
use Rattle.fleet_lock.specs.Rule.{Kept, opener}
use Rattle.fleet_lock.proofs.Moves.{opens}
use Rattle.fleet_lock.proofs.lock.Lock+Held+O.share.Goals as goal

pub new-requires : goal.new-requires
new-requires g c =
    let slots : c.push_reserved.new.self.items ≡ Some c.new-held.result ∷ [] = c.push_reserved.ensures.items ∙ ap (λ xs. xs ++ Some c.new-held.result ∷ []) (c.reserve.ensures.items ∙ c.new-slots.ensures.items) in
    subst (λ (y : List (Option HeldValue) × HeldValue). Kept (λ (h : HeldValue). h) c.args.passes (opening (0 ∷ 0 ∷ []) y.0 (opener c.args.passes y.1))) (λ i. (sym slots i, sym c.of.ensures i))
    (opens (λ (h : HeldValue). h) c.args.passes c.new-held.result c.requires.passes (omega arith) (ap (λ (h : HeldValue). h.trace) c.new-held.ensures))

pub returns-clause-back : goal.returns-clause-back
returns-clause-back g c =
    let slots : c.push_reserved.new.self.items ≡ Some c.new-held.result ∷ [] = c.push_reserved.ensures.items ∙ ap (λ xs. xs ++ Some c.new-held.result ∷ []) (c.reserve.ensures.items ∙ c.new-slots.ensures.items) in
    let same : Some c.only.ensures.0 ∷ [] ≡ Some c.new-held.result ∷ [] = sym c.only.ensures.1 ∙ (c.in-Err.ensures.err ∙ slots) in
    let held : c.only.ensures.0 ≡ c.new-held.result = cc same in
    c.only.ensures.2 ∙ ap held_store (held ∙ c.new-held.ensures)
