use Rattle.std.proofs.Common.{rules, ◌≡◌, None, false, sym, subst, Option, ◌∙◌}
use Rattle.fleet_iter.specs.Iteration.{KeepsRefusal}
use Rattle.fleet_iter.proofs.Failures.{seek_handed}
use Rattle.fleet_rows.specs.declared.errors.SlateDBError.{SlateDBError}
use Rattle.fleet_fold.specs.Filter.{KnowsUnlessFailed}
use Rattle.fleet_fold.specs.FilterState.{state_of}
use Rattle.fleet_fold.proofs.Filters.{open_knows, seeks_filtered, knows_sought, seek_refused_filtered}
use Rattle.fleet_fold.proofs.filtering.CompactionFilterIteratorRowEntryIterator.seek.Goals as goal

pub returns-in-Ok-clause-seek : goal.returns-in-Ok-clause-seek
returns-in-Ok-clause-seek g c =
    let f = g.T.RowEntryIterator.state in
    let i = c.args.self.now in
    let alive : i.failure ≡ None = search rules in
    let opened : i.ended ≡ false = search rules in
    seeks_filtered (g.F.CompactionFilter.answers i.filter) (g.F.CompactionFilter.closing i.filter) i.failure i.ended (g.F.CompactionFilter.is_closed i.filter) (f i.inner) (f c.seek.new.self) alive opened (open_knows _ _ _ _ alive c.requires.sound.1) c.args.next_key.now c.in-Ok.ensures.seek

pub returns-in-Ok-clause-sound : goal.returns-in-Ok-clause-sound
returns-in-Ok-clause-sound g c =
    let f = g.T.RowEntryIterator.state in
    let i = c.args.self.now in
    let alive : i.failure ≡ None = search rules in
    let opened : i.ended ≡ false = search rules in
    let closed = g.F.CompactionFilter.is_closed i.filter in
    let knows = knows_sought (g.F.CompactionFilter.answers i.filter) (g.F.CompactionFilter.closing i.filter) i.failure i.ended closed (f i.inner) (f c.seek.new.self) alive opened (open_knows _ _ _ _ alive c.requires.sound.1) c.args.next_key.now c.in-Ok.ensures.seek in
    (c.in-Ok.ensures.sound, subst (λ (o : Option SlateDBError). KnowsUnlessFailed o i.ended closed (f c.seek.new.self)) (sym alive) knows)

pub returns-in-Err-clause-seek : goal.returns-in-Err-clause-seek
returns-in-Err-clause-seek g c =
    let f = g.T.RowEntryIterator.state in
    let i = c.args.self.now in
    let alive : i.failure ≡ None = search rules in
    let opened : i.ended ≡ false = search rules in
    seek_refused_filtered (g.F.CompactionFilter.answers i.filter) (g.F.CompactionFilter.closing i.filter) i.failure i.ended (g.F.CompactionFilter.is_closed i.filter) (f i.inner) (f c.seek.new.self) alive opened (open_knows _ _ _ _ alive c.requires.sound.1) c.fail.new.self c.in-Err.error c.fail.result c.fail.ensures c.args.next_key.now c.in-Err.ensures.seek

pub returns-in-Err-clause-handed : goal.returns-in-Err-clause-handed
returns-in-Err-clause-handed g c =
    let f = g.T.RowEntryIterator.state in
    let i = c.args.self.now in
    let alive : i.failure ≡ None = search rules in
    let knows = open_knows _ _ _ _ alive c.requires.sound.1 in
    let old = state_of f g.F.CompactionFilter.answers g.F.CompactionFilter.closing i in
    λ was. seek_handed old (f i.inner) (f c.seek.new.self) c.in-Err.error c.fail.result knows.alive c.fail.new.self (subst (λ (o : Option SlateDBError). KeepsRefusal c.in-Err.error o c.fail.new.self c.fail.result) (alive ∙ sym was) c.fail.ensures) c.args.next_key.now c.in-Err.ensures.seek was
