use Rattle.std.proofs.Common.{rules, ◌≡◌, ◌∙◌, sym, true, false, append-nil}
use Rattle.row_model.specs.KeptRows.{as_tombstone_if_expired}
use Rattle.fleet_rows.specs.Row.{row_of, rows_of}
use Rattle.fleet_fold.specs.Retention.{is_dropped, ends_walk}
use Rattle.fleet_fold.proofs.KeptRows.{passed_over, more_kept}
use Rattle.fleet_fold.proofs.keeping.walked.Goals as goal

pub returns-then-last : goal.returns-then-last
returns-then-last c =
    let given : row_of c.as_tombstone_if_expired.result ≡ as_tombstone_if_expired c.args.settings.tick (row_of c.in-Some-pop.row) = search rules in
    let stays : is_dropped c.args.settings.tick (row_of c.in-Some-pop.row) ≡ false = search rules in
    let ends : ends_walk c.args.settings.cut (row_of c.in-Some-pop.row) ≡ true = search rules in
    sym (append-nil (rows_of c.push.new.self.items))
    ∙ more_kept _ _ c.rows.kept.items c.push.new.self.items c.rows.rest.items c.pop.new.self.items c.pop.result c.in-Some-pop.row c.as_tombstone_if_expired.result _ true stays given c.in_ok-push.ensures.items c.pop.ensures.items c.in-Some-pop.is ends c.rows.invariant

pub rows-preserved-else-last : goal.rows-preserved-else-last
rows-preserved-else-last c =
    let given : row_of c.as_tombstone_if_expired.result ≡ as_tombstone_if_expired c.args.settings.tick (row_of c.in-Some-pop.row) = search rules in
    let stays : is_dropped c.args.settings.tick (row_of c.in-Some-pop.row) ≡ false = search rules in
    let ends : ends_walk c.args.settings.cut (row_of c.in-Some-pop.row) ≡ false = search rules in
    more_kept _ _ c.rows.kept.items c.push.new.self.items c.rows.rest.items c.pop.new.self.items c.pop.result c.in-Some-pop.row c.as_tombstone_if_expired.result _ false stays given c.in_ok-push.ensures.items c.pop.ensures.items c.in-Some-pop.is ends c.rows.invariant

pub rows-preserved-else-not-is_dropped-3 : goal.rows-preserved-else-not-is_dropped-3
rows-preserved-else-not-is_dropped-3 c =
    let drops : is_dropped c.args.settings.tick (row_of c.in-Some-pop.row) ≡ true = search rules in
    passed_over _ _ c.rows.kept.items c.rows.rest.items c.pop.new.self.items c.pop.result c.in-Some-pop.row _ drops c.pop.ensures.items c.in-Some-pop.is c.rows.invariant

pub rows-preserved-else-not-is_dropped-4 : goal.rows-preserved-else-not-is_dropped-4
rows-preserved-else-not-is_dropped-4 c =
    let drops : is_dropped c.args.settings.tick (row_of c.in-Some-pop.row) ≡ true = search rules in
    passed_over _ _ c.rows.kept.items c.rows.rest.items c.pop.new.self.items c.pop.result c.in-Some-pop.row _ drops c.pop.ensures.items c.in-Some-pop.is c.rows.invariant
