use Rattle.std.proofs.Common.{rules, ◌≡◌, ◌∙◌, sym, ap, [], List, Option, Some, None, arith}
use Rattle.std.specs.Prelude.{reverse}
use Rattle.std.proofs.lemmas.Grind.{common_steps}
use Rattle.std.proofs.lemmas.List.{reverse-reverse}
use Rattle.fleet_iter.proofs.Failures.{seek_handed}
use Rattle.fleet_rows.specs.declared.row.RowEntry.{RowEntry}
use Rattle.fleet_rows.specs.Settings.{settings_of}
use Rattle.fleet_rows.specs.declared.errors.SlateDBError.{SlateDBError}
use Rattle.fleet_fold.specs.State.{state_of}
use Rattle.fleet_fold.proofs.Seeks.{known, in_buffer, at_ahead, in_inner, in_inner_sound, seek_refused_kept}
use Rattle.fleet_fold.proofs.retention.RetentionIteratorRowEntryIterator.seek.Goals as goal

turned_empty : (xs : List RowEntry) → reverse xs ≡ [] → xs ≡ []
turned_empty xs e = sym (reverse-reverse xs) ∙ ap (λ (w : List RowEntry). reverse w) e

pub returns-then-not-is_empty-clause-seek : goal.returns-then-not-is_empty-clause-seek
returns-then-not-is_empty-clause-seek g c =
    let alive : c.args.self.now.failure ≡ None = search rules in
    let some : c.drop_below.new.buffer.items ≡ [] → ⊥ = λ e. grind (arith, common_steps, e) in
    in_buffer c.args.next_key.now (settings_of c.args.self.now.settings) c.args.self.now.failure alive (reverse c.args.self.now.buffer.items) (reverse c.drop_below.new.buffer.items) c.args.self.now.ahead (g.T.RowEntryIterator.state c.args.self.now.inner)
    (known _ _ _ _ alive c.requires.sound.1) c.drop_below.ensures (λ e. some (turned_empty c.drop_below.new.buffer.items e)) c.requires.rising

pub returns-then-is_some-clause-seek : goal.returns-then-is_some-clause-seek
returns-then-is_some-clause-seek g c =
    let alive : c.args.self.now.failure ≡ None = search rules in
    let none : c.drop_below.new.buffer.items ≡ [] = grind (arith, common_steps) in
    let some : c.drop_if_below.new.ahead ≡ None → ⊥ = λ e. grind (arith, common_steps, e) in
    at_ahead c.args.next_key.now (settings_of c.args.self.now.settings) c.args.self.now.failure alive (reverse c.args.self.now.buffer.items) (reverse c.drop_below.new.buffer.items) c.args.self.now.ahead c.drop_if_below.new.ahead (g.T.RowEntryIterator.state c.args.self.now.inner)
    (known _ _ _ _ alive c.requires.sound.1) c.drop_below.ensures (ap (λ (w : List RowEntry). reverse w) none) c.drop_if_below.ensures some c.requires.rising

pub returns-in-Ok-clause-seek : goal.returns-in-Ok-clause-seek
returns-in-Ok-clause-seek g c =
    let alive : c.args.self.now.failure ≡ None = search rules in
    let none : c.drop_below.new.buffer.items ≡ [] = grind (arith, common_steps) in
    let gone : c.drop_if_below.new.ahead ≡ None = grind (arith, common_steps) in
    in_inner c.args.next_key.now (settings_of c.args.self.now.settings) c.args.self.now.failure alive (reverse c.args.self.now.buffer.items) (reverse c.drop_below.new.buffer.items) c.args.self.now.ahead c.drop_if_below.new.ahead (g.T.RowEntryIterator.state c.args.self.now.inner) (g.T.RowEntryIterator.state c.seek.new.self)
    (known _ _ _ _ alive c.requires.sound.1) c.drop_below.ensures (ap (λ (w : List RowEntry). reverse w) none) c.drop_if_below.ensures gone c.requires.rising c.in-Ok.ensures.seek

pub returns-in-Ok-clause-sound : goal.returns-in-Ok-clause-sound
returns-in-Ok-clause-sound g c =
    let alive : c.args.self.now.failure ≡ None = search rules in
    let none : c.drop_below.new.buffer.items ≡ [] = grind (arith, common_steps) in
    let gone : c.drop_if_below.new.ahead ≡ None = grind (arith, common_steps) in
    let reads = in_inner_sound c.args.next_key.now (settings_of c.args.self.now.settings) c.args.self.now.failure alive (reverse c.args.self.now.buffer.items) (reverse c.drop_below.new.buffer.items) c.args.self.now.ahead c.drop_if_below.new.ahead (g.T.RowEntryIterator.state c.args.self.now.inner) (g.T.RowEntryIterator.state c.seek.new.self)
    (known _ _ _ _ alive c.requires.sound.1) (ap (λ (w : List RowEntry). reverse w) none) gone c.in-Ok.ensures.seek in
    (c.in-Ok.ensures.sound, know c.args.self.now.failure reads)
  where
    know : (failure : Option SlateDBError) → Rattle.fleet_fold.specs.Retention.ReadsOn (reverse c.drop_below.new.buffer.items) c.drop_if_below.new.ahead (g.T.RowEntryIterator.state c.seek.new.self) → Rattle.fleet_fold.specs.Retention.Knows failure (reverse c.drop_below.new.buffer.items) c.drop_if_below.new.ahead (g.T.RowEntryIterator.state c.seek.new.self)
    know (Some e) h = tt
    know None h = h

pub returns-in-Err-clause-seek : goal.returns-in-Err-clause-seek
returns-in-Err-clause-seek g c =
    let f = g.T.RowEntryIterator.state in
    let alive : c.args.self.now.failure ≡ None = search rules in
    seek_refused_kept (settings_of c.args.self.now.settings) c.args.self.now.failure c.fail.new.self (reverse c.args.self.now.buffer.items) c.args.self.now.ahead (f c.args.self.now.inner) (f c.seek.new.self) c.in-Err.error c.fail.result alive
    (known _ _ _ _ alive c.requires.sound.1) c.fail.ensures c.args.next_key.now (reverse c.drop_below.new.buffer.items) c.drop_if_below.new.ahead c.drop_below.ensures c.drop_if_below.ensures c.in-Err.ensures.seek

pub returns-in-Err-clause-handed : goal.returns-in-Err-clause-handed
returns-in-Err-clause-handed g c =
    let f = g.T.RowEntryIterator.state in
    let alive : c.args.self.now.failure ≡ None = search rules in
    let reads = known _ _ _ _ alive c.requires.sound.1 in
    seek_handed (state_of f c.args.self.now) (f c.args.self.now.inner) (f c.seek.new.self) c.in-Err.error c.fail.result reads.alive c.fail.new.self c.fail.ensures c.args.next_key.now c.in-Err.ensures.seek
