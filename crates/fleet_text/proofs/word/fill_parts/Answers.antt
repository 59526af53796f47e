use Rattle.std.proofs.Common.{rules, tests, ap, ◌∙◌, ◌++◌}
use Rattle.std.proofs.lemmas.Iterator.Splits.{YieldsList-from_slice_split}
use Rattle.script_laws.specs.ByteTests.{is_byte}
use Rattle.fleet_text.proofs.Filled.{filled}
use Rattle.fleet_text.proofs.word.fill_parts.Goals as goal

pub returns : goal.returns
returns c =
    let ran = c.extend.ensures.ran in
    filled _ (λ x. x.now) _ ran.0 c.split.result ran.1 c.extend.new.self.items c.extend.result ran.2 ran.4
    (YieldsList-from_slice_split _ (is_byte c.args.cut) c.args.text.now c.split.ensures.rest c.split.ensures.done c.split.ensures.closure (λ x b q k. search (rules, tests)))
    (ran.3.0 ∙ ap (λ xs. xs ++ ran.1) c.clear.ensures.items)
