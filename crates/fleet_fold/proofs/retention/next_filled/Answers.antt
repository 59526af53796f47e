use Rattle.std.proofs.Common.{rules, ◌≡◌, ap, [], None, arith}
use Rattle.std.specs.Prelude.{reverse}
use Rattle.std.proofs.lemmas.Grind.{common_steps}
use Rattle.fleet_iter.proofs.Failures.{next_handed}
use Rattle.fleet_rows.specs.Settings.{settings_of}
use Rattle.fleet_fold.specs.Retention.{retained_state}
use Rattle.fleet_fold.proofs.Seeks.{known}
use Rattle.fleet_fold.proofs.KeptNexts.{popped, next_given, next_unfilled}
use Rattle.fleet_fold.proofs.retention.next_filled.Goals as goal

pub returns-in-Ok-clause-next : goal.returns-in-Ok-clause-next
returns-in-Ok-clause-next g c =
    let f = g.T.RowSource.state in
    let ends : c.pop.result ≡ None → c.fill.new.buffer.items ≡ [] = λ e. grind (arith, common_steps, e) in
    next_given (settings_of c.args.settings) c.args.failure.now (search rules) (reverse c.args.buffer.now.items) c.args.ahead.now c.begin.new.ahead (f c.args.inner.now) (f c.begin.new.inner) (search rules)
    (reverse c.fill.new.buffer.items) (reverse c.pop.new.self.items) c.fill.new.ahead (f c.fill.new.inner) c.pop.result (search rules)
    (popped c.fill.new.buffer.items c.pop.new.self.items c.pop.result c.pop.ensures.items) (λ e. ap reverse (ends e))

pub returns-in-Err-fill-clause-next : goal.returns-in-Err-fill-clause-next
returns-in-Err-fill-clause-next g c =
    let f = g.T.RowSource.state in
    next_unfilled (settings_of c.args.settings) c.args.failure.now (search rules) (reverse c.args.buffer.now.items) c.args.ahead.now c.begin.new.ahead (f c.args.inner.now) (f c.begin.new.inner) (search rules)
    (reverse c.fill.new.buffer.items) c.fill.new.ahead (f c.fill.new.inner) c.fail-in-Err-fill.new.self c.in-Err-fill.error c.fail-in-Err-fill.result c.fail-in-Err-fill.ensures (search rules)

pub returns-in-Err-clause-handed : goal.returns-in-Err-clause-handed
returns-in-Err-clause-handed g c =
    let f = g.T.RowSource.state in
    let alive : c.args.failure.now ≡ None = search rules in
    let reads = known c.args.failure.now (reverse c.args.buffer.now.items) c.args.ahead.now (f c.args.inner.now) alive c.requires.knows in
    next_handed (retained_state c.args.failure.now (settings_of c.args.settings) (reverse c.args.buffer.now.items) c.args.ahead.now (f c.args.inner.now)) (f c.args.inner.now) (f c.begin.new.inner) c.in-Err.error c.fail.result reads.alive c.fail.new.self c.fail.ensures c.in-Err.ensures.err.nexts
