use Rattle.std.proofs.Common.{refl, sym, ◌∙◌, ap, ◌++◌, ◌+◌, ◌-◌, length, take, drop, List, ℕ, arith}
use Rattle.std.specs.Int.{w16, to_be_bytes}
use Rattle.std.specs.Prelude.{slice_range}
use Rattle.std.proofs.lemmas.List.{length-drop, length-append}
use Rattle.row_model.specs.Written.TableBytes.{shared_len}
use Rattle.fleet_block.proofs.Numbers.{part_found}
use Rattle.fleet_block.proofs.SharedKeys.{shared_within, key_joined}
use Rattle.fleet_block.proofs.field.key_parts_at.Goals as goal

pub returns-in_default-clause-found : goal.returns-in_default-clause-found
returns-in_default-clause-found c k others fits e =
    let shared : ℕ = shared_len c.args.first.now k in
    let within = shared_within c.args.first.now k in
    c.in_default.ensures.found shared (to_be_bytes w16 (length k - shared) ++ (drop shared k ++ others)) (omega (arith, within.1)) e

pub returns-in_default-u16_at-clause-found : goal.returns-in_default-u16_at-clause-found
returns-in_default-u16_at-clause-found c k others fits e =
    let shared : ℕ = shared_len c.args.first.now k in
    let within = shared_within c.args.first.now k in
    let one = c.in-Some.ensures.found shared (to_be_bytes w16 (length k - shared) ++ (drop shared k ++ others)) (omega (arith, within.1)) e in
    c.in_default-u16_at.ensures.found (length k - shared) (drop shared k ++ others) (omega arith) one.1

pub returns-then-first-shared-clause-found : goal.returns-then-first-shared-clause-found
returns-then-first-shared-clause-found c k others fits e =
    let shared : ℕ = shared_len c.args.first.now k in
    let within = shared_within c.args.first.now k in
    let one = c.in-Some.ensures.found shared (to_be_bytes w16 (length k - shared) ++ (drop shared k ++ others)) (omega (arith, within.1)) e in
    absurd (omega (arith, one.0, within.0))

pub returns-then-len-start-clause-found : goal.returns-then-len-start-clause-found
returns-then-len-start-clause-found c k others fits e =
    let shared : ℕ = shared_len c.args.first.now k in
    let within = shared_within c.args.first.now k in
    let one = c.in-Some.ensures.found shared (to_be_bytes w16 (length k - shared) ++ (drop shared k ++ others)) (omega (arith, within.1)) e in
    let two = c.in-Some-u16_at.ensures.found (length k - shared) (drop shared k ++ others) (omega arith) one.1 in
    let all = ap length two.1 in
    absurd (omega (arith, two.0, all, length-drop c.in-Some-u16_at.start c.args.bytes.now, length-append (drop shared k) others, length-drop shared k))

pub returns-clause-found : goal.returns-clause-found
returns-clause-found c k others fits e =
    let shared : ℕ = shared_len c.args.first.now k in
    let within = shared_within c.args.first.now k in
    let one = c.in-Some.ensures.found shared (to_be_bytes w16 (length k - shared) ++ (drop shared k ++ others)) (omega (arith, within.1)) e in
    let two = c.in-Some-u16_at.ensures.found (length k - shared) (drop shared k ++ others) (omega arith) one.1 in
    let part : List ℕ = slice_range c.args.bytes.now c.in-Some-u16_at.start (c.in-Some-u16_at.start + c.in-Some-u16_at.len) in
    let rest = part_found (drop shared k) c.args.bytes.now others part c.in-Some-u16_at.start c.in-Some-u16_at.len (two.0 ∙ sym (length-drop shared k)) two.1 refl in
    (ap (λ n. take n c.args.first.now ++ part) one.0 ∙ ap (λ xs. take shared c.args.first.now ++ xs) rest.0 ∙ key_joined c.args.first.now k, rest.1)
