use Rattle.std.proofs.Common.{refl, sym, ap, ◌∙◌}
use Rattle.std.specs.Ordering.{is_eq}
use Rattle.fleet_rows.proofs.Words.{words_left}
use Rattle.fleet_rows.proofs.SameKeys.{words_differ, rest_decides, nothing_left}
use Rattle.fleet_rows.proofs.order.same_key.Goals as goal

pub words-init : goal.words-init
words-init c = record { small = λ i. (c.type_inv.key i).fits; low = λ i. (c.type_inv.other i).fits; same = refl }

pub words-preserved : goal.words-preserved
words-preserved c =
    let one = c.in-Some.ensures.cases in
    let two = c.in-Some-first_chunk.ensures.cases in
    words_left c.args.key.now c.args.other.now c.words.rest.now c.words.other_rest.now c.in-Some.bytes.now c.in-Some-first_chunk.other_bytes.now _ _ c.words.invariant one.enough two.enough one.same two.same
    c.from_be_bytes-word.ensures c.from_be_bytes-other_word.ensures c.if-word-other_word.false

pub returns-then-word-other_word : goal.returns-then-word-other_word
returns-then-word-other_word c =
    let one = c.in-Some.ensures.cases in
    let two = c.in-Some-first_chunk.ensures.cases in
    sym (words_differ c.args.key.now c.args.other.now c.words.rest.now c.words.other_rest.now c.in-Some.bytes.now c.in-Some-first_chunk.other_bytes.now _ _ c.words.invariant one.enough two.enough one.same two.same
    c.from_be_bytes-word.ensures c.from_be_bytes-other_word.ensures c.if-word-other_word.true)

pub returns-then-is_empty-2 : goal.returns-then-is_empty-2
returns-then-is_empty-2 c =
    nothing_left c.args.key.now c.args.other.now c.words.rest.now c.words.other_rest.now c.words.invariant (sym c.is_empty.ensures ∙ c.if-is_empty.true) (sym c.is_empty-then-is_empty.ensures ∙ c.if-is_empty-2.true)

pub returns : goal.returns
returns c =
    c.is_eq.ensures
    ∙ (ap is_eq c.rest_order.ensures ∙ rest_decides c.args.key.now c.args.other.now c.words.rest.now c.words.other_rest.now c.words.invariant)
