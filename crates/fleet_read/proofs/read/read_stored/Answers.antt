use Rattle.std.proofs.Common.{rules, ◌≡◌, sym, ◌∙◌, false, Some, None, []}
use Rattle.std.specs.Option.{option_copied}
use Rattle.row_model.specs.Fold.{fold_bytes}
use Rattle.fleet_scan.specs.KeyReads.{found_with}
use Rattle.script_model.specs.Lines.Looks.{is_not_retained}
use Rattle.fleet_read.specs.Answers.{answer_of}
use Rattle.fleet_read.specs.declared.answer.ReadAnswer.TheVariants as answers
use Rattle.fleet_read.proofs.Trees.{all_answered, is_answered, nothing_read, tree_read, views_held}
use Rattle.fleet_read.proofs.read.read_stored.Goals as goal

pub returns-in_default-clause-answer : goal.returns-in_default-clause-answer
returns-in_default-clause-answer g c =
    let merge = g.O.MergeOperator.merged (g.O.MergeOperator.settings c.args.operator.now) in
    let store = c.args.store.now.world.store in
    let kept : is_not_retained store.manifest c.args.seq c.args.now ≡ false = search rules in
    let none : option_copied c.tree_for_segment.result ≡ None = search rules in
    is_answered merge store c.args.segment.now c.args.key.now c.args.seq c.args.now answers.Nothing kept
    (sym (nothing_read merge c.manifest.result.now store c.args.segment.now c.args.key.now c.args.seq c.args.now c.requires c.manifest.ensures (sym none ∙ c.tree_for_segment.ensures)))

pub take_tree-requires-clause-held : goal.take_tree-requires-clause-held
take_tree-requires-clause-held g c =
    let merge = g.O.MergeOperator.merged (g.O.MergeOperator.settings c.args.operator.now) in
    let store = c.args.store.now.world.store in
    let some : option_copied c.tree_for_segment.result ≡ Some c.in-Some.tree.now = search rules in
    views_held merge c.manifest.result.now store c.args.segment.now c.in-Some.tree.now c.requires c.manifest.ensures (sym some ∙ c.tree_for_segment.ensures)

pub returns-clause-answer : goal.returns-clause-answer
returns-clause-answer g c =
    let merge = g.O.MergeOperator.merged (g.O.MergeOperator.settings c.args.operator.now) in
    let store = c.args.store.now.world.store in
    let kept : is_not_retained store.manifest c.args.seq c.args.now ≡ false = search rules in
    let some : option_copied c.tree_for_segment.result ≡ Some c.in-Some.tree.now = search rules in
    let last = c.take_tree.new.read in
    let read = tree_read merge c.manifest.result.now store c.args.segment.now c.args.key.now c.args.seq c.args.now c.in-Some.tree.now c.new-read.result last c.requires c.manifest.ensures (sym some ∙ c.tree_for_segment.ensures) (search rules) c.in_ok-take_tree.ensures.taken in
    all_answered merge store c.args.segment.now c.args.key.now c.args.seq c.args.now c.answered.result (answer_of (fold_bytes merge last.key (found_with last []).0 (found_with last []).1)) kept read c.answered.ensures.answer
