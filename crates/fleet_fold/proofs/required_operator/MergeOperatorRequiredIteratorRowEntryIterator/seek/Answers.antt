use Rattle.std.proofs.Common.{rules}
use Rattle.fleet_fold.proofs.Plain.{seeks_plain, reads_plain, seek_refused_plain}
use Rattle.fleet_fold.proofs.required_operator.MergeOperatorRequiredIteratorRowEntryIterator.seek.Goals as goal

pub returns-in-Ok-clause-seek : goal.returns-in-Ok-clause-seek
returns-in-Ok-clause-seek g c =
    let f = g.T.RowEntryIterator.state in
    seeks_plain c.args.next_key.now c.args.self.now.failure (f c.args.self.now.delegate) (f c.seek.new.self) (search rules) c.requires.sound.1 c.in-Ok.ensures.seek

pub returns-in-Ok-clause-sound : goal.returns-in-Ok-clause-sound
returns-in-Ok-clause-sound g c =
    let f = g.T.RowEntryIterator.state in
    (c.in-Ok.ensures.sound, reads_plain c.args.next_key.now c.args.self.now.failure (f c.args.self.now.delegate) (f c.seek.new.self) c.requires.sound.1 c.in-Ok.ensures.seek)

pub returns-in-Err-clause-seek : goal.returns-in-Err-clause-seek
returns-in-Err-clause-seek g c =
    let f = g.T.RowEntryIterator.state in
    seek_refused_plain c.args.self.now.failure c.fail.new.self (f c.args.self.now.delegate) (f c.seek.new.self) c.in-Err.error c.fail.result (search rules) c.requires.sound.1 c.fail.ensures c.args.next_key.now c.in-Err.ensures.seek
