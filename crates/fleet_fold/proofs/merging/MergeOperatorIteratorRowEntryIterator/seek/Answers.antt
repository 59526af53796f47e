use Rattle.std.proofs.Common.{rules, ◌≡◌, None, arith}
use Rattle.std.proofs.lemmas.Grind.{common_steps}
use Rattle.fleet_iter.proofs.Failures.{seek_handed}
use Rattle.fleet_fold.specs.Merging.{state_of}
use Rattle.fleet_fold.proofs.FoldedSeeks.{seeks_folded, reads_groups, reads_alive}
use Rattle.fleet_fold.proofs.Unfolded.{reads_rise, inner_rises}
use Rattle.fleet_fold.proofs.merging.MergeOperatorIteratorRowEntryIterator.seek.Goals as goal

pub returns-in-Ok-clause-seek : goal.returns-in-Ok-clause-seek
returns-in-Ok-clause-seek g c =
    let merge = g.O.MergeOperator.merged (g.O.MergeOperator.settings c.args.self.now.operator.now) in
    let f = g.T.RowEntryIterator.state in
    let alive : c.args.self.now.failure ≡ None = search rules in
    let gone : c.drop_if_below.new.ahead ≡ None = grind (arith, common_steps) in
    let rises = reads_rise merge c.args.self.now.rule c.args.self.now.failure c.args.self.now.ahead (f c.args.self.now.delegate) alive c.requires.sound.1 c.requires.rising in
    seeks_folded c.args.next_key.now merge c.args.self.now.rule c.args.self.now.failure c.args.self.now.ahead c.drop_if_below.new.ahead (f c.args.self.now.delegate) (f c.seek.new.self) alive c.requires.sound.1 rises c.drop_if_below.ensures gone c.in-Ok.ensures.seek

pub returns-in-Ok-clause-sound : goal.returns-in-Ok-clause-sound
returns-in-Ok-clause-sound g c =
    let merge = g.O.MergeOperator.merged (g.O.MergeOperator.settings c.args.self.now.operator.now) in
    let f = g.T.RowEntryIterator.state in
    let alive : c.args.self.now.failure ≡ None = search rules in
    let rises = reads_rise merge c.args.self.now.rule c.args.self.now.failure c.args.self.now.ahead (f c.args.self.now.delegate) alive c.requires.sound.1 c.requires.rising in
    let gone : c.drop_if_below.new.ahead ≡ None = grind (arith, common_steps) in
    (c.in-Ok.ensures.sound, reads_groups c.args.next_key.now merge c.args.self.now.rule c.args.self.now.failure c.args.self.now.ahead c.drop_if_below.new.ahead (f c.args.self.now.delegate) (f c.seek.new.self) c.requires.sound.1 rises gone c.in-Ok.ensures.seek)

pub returns-in-Err-clause-handed : goal.returns-in-Err-clause-handed
returns-in-Err-clause-handed g c =
    let f = g.T.RowEntryIterator.state in
    let i = c.args.self.now in
    seek_handed (state_of g.O.MergeOperator.settings g.O.MergeOperator.merged f i) (f i.delegate) (f c.seek.new.self) c.in-Err.error c.fail.result (reads_alive (g.O.MergeOperator.merged (g.O.MergeOperator.settings i.operator.now)) i.rule i.failure i.ahead (f i.delegate) (search rules) c.requires.sound.1) c.fail.new.self c.fail.ensures c.args.next_key.now c.in-Err.ensures.seek

pub seek-requires-clause-rising : goal.seek-requires-clause-rising
seek-requires-clause-rising g c =
    let merge = g.O.MergeOperator.merged (g.O.MergeOperator.settings c.args.self.now.operator.now) in
    let f = g.T.RowEntryIterator.state in
    let i = c.args.self.now in
    let alive : i.failure ≡ None = search rules in
    inner_rises i.ahead (f i.delegate) (reads_rise merge i.rule i.failure i.ahead (f i.delegate) alive c.requires.sound.1 c.requires.rising)
