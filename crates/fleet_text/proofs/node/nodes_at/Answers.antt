use Rattle.std.proofs.Common.{◌≡◌, ◌≢◌, ℕ, List, map, ap, ◌∙◌, Bor, codes}
use Rattle.std.specs.List.{slice_split}
use Rattle.script_laws.specs.ByteTests.{is_byte}
use Rattle.fleet_text.proofs.Nodes.{nodes_all, not_nodes}
use Rattle.fleet_text.proofs.node.nodes_at.Goals as goal

pub returns-in_default : goal.returns-in_default
returns-in_default c =
    let split : map (λ (x : Bor (List ℕ)). x.now) c.deref-field-items.result.now ≡ slice_split (is_byte 44) c.args.word.now = ap (map (λ (x : Bor (List ℕ)). x.now)) c.deref-field-items.ensures.value ∙ c.in_ok-fields.ensures in
    let hyphen : c.args.word.now ≢ codes "-" = λ e. let yes = c.is_word.ensures.1 e in cc (yes, c.if-is_word.false) in
    not_nodes c.args.word.now c.deref-field-items.result.now c.fields.field-index _ hyphen c.fields-test.true (rw c.in_default.is at c.node_at.ensures) split

pub returns : goal.returns
returns c =
    let split : map (λ (x : Bor (List ℕ)). x.now) c.deref-field-items.result.now ≡ slice_split (is_byte 44) c.args.word.now = ap (map (λ (x : Bor (List ℕ)). x.now)) c.deref-field-items.ensures.value ∙ c.in_ok-fields.ensures in
    rw c.from_vec-2.ensures (nodes_all c.args.word.now c.deref-field-items.result.now c.fields.field-index c.fields.nodes.items c.fields.invariant c.fields-test.false split)
