use Rattle.std.proofs.Common.{rules, ◌≡◌, ap, [], true, None, arith}
use Rattle.std.specs.Prelude.{reverse}
use Rattle.std.proofs.lemmas.Grind.{common_steps}
use Rattle.fleet_rows.specs.Settings.{settings_of}
use Rattle.fleet_fold.specs.Retention.{ReadsOn}
use Rattle.fleet_fold.proofs.LoneRows.{stands_alone}
use Rattle.fleet_fold.proofs.Seeks.{known}
use Rattle.fleet_fold.proofs.PassedKeys.{some_alone, gives_alone, knows_alone, refuses_alone}
use Rattle.fleet_fold.proofs.retention.next_kept.Goals as goal

pub pass_key-requires-clause-readable : goal.pass_key-requires-clause-readable
pass_key-requires-clause-readable g c =
    let f = g.T.RowSource.state in
    let alive : c.args.failure.now ≡ None = search rules in
    let alone : stands_alone (settings_of c.args.settings) c.args.ahead.now ≡ true = grind (arith, common_steps) in
    let reads : ReadsOn (reverse c.args.buffer.now.items) c.args.ahead.now (f c.args.inner.now) = known c.args.failure.now (reverse c.args.buffer.now.items) c.args.ahead.now (f c.args.inner.now) alive c.requires.knows in
    (reads.alive, reads.ahead_begun (some_alone (settings_of c.args.settings) c.args.ahead.now alone))

pub pass_key-requires-clause-some : goal.pass_key-requires-clause-some
pass_key-requires-clause-some g c =
    let alone : stands_alone (settings_of c.args.settings) c.args.ahead.now ≡ true = grind (arith, common_steps) in
    some_alone (settings_of c.args.settings) c.args.ahead.now alone

pub returns-in-Ok-clause-next : goal.returns-in-Ok-clause-next
returns-in-Ok-clause-next g c =
    let f = g.T.RowSource.state in
    let alive : c.args.failure.now ≡ None = search rules in
    let alone : stands_alone (settings_of c.args.settings) c.args.ahead.now ≡ true = grind (arith, common_steps) in
    let empty : c.args.buffer.now.items ≡ [] = grind (arith, common_steps) in
    let reads : ReadsOn (reverse c.args.buffer.now.items) c.args.ahead.now (f c.args.inner.now) = known c.args.failure.now (reverse c.args.buffer.now.items) c.args.ahead.now (f c.args.inner.now) alive c.requires.knows in
    rw c.in-Ok.ensures.first (gives_alone (settings_of c.args.settings) c.args.failure.now (reverse c.args.buffer.now.items) c.args.ahead.now c.pass_key.new.ahead (f c.args.inner.now) (f c.pass_key.new.inner) alive (ap reverse empty) reads alone c.in-Ok.ensures.ok)

pub returns-in-Ok-clause-knows : goal.returns-in-Ok-clause-knows
returns-in-Ok-clause-knows g c =
    let f = g.T.RowSource.state in
    let alive : c.args.failure.now ≡ None = search rules in
    let alone : stands_alone (settings_of c.args.settings) c.args.ahead.now ≡ true = grind (arith, common_steps) in
    let empty : c.args.buffer.now.items ≡ [] = grind (arith, common_steps) in
    knows_alone (settings_of c.args.settings) c.args.failure.now (reverse c.args.buffer.now.items) c.args.ahead.now c.pass_key.new.ahead (f c.args.inner.now) (f c.pass_key.new.inner) alive (ap reverse empty) c.requires.knows alone c.in-Ok.ensures.ok

pub returns-in-Err-clause-next : goal.returns-in-Err-clause-next
returns-in-Err-clause-next g c =
    let f = g.T.RowSource.state in
    let alive : c.args.failure.now ≡ None = search rules in
    let alone : stands_alone (settings_of c.args.settings) c.args.ahead.now ≡ true = grind (arith, common_steps) in
    let empty : c.args.buffer.now.items ≡ [] = grind (arith, common_steps) in
    let reads : ReadsOn (reverse c.args.buffer.now.items) c.args.ahead.now (f c.args.inner.now) = known c.args.failure.now (reverse c.args.buffer.now.items) c.args.ahead.now (f c.args.inner.now) alive c.requires.knows in
    refuses_alone (settings_of c.args.settings) c.args.failure.now c.fail.new.self (reverse c.args.buffer.now.items) c.args.ahead.now c.pass_key.new.ahead (f c.args.inner.now) (f c.pass_key.new.inner) c.in-Err.error c.fail.result alive (ap reverse empty) reads alone c.fail.ensures c.in-Err.ensures.err
