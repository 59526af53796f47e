use Rattle.std.proofs.Common.{◌≡◌, ◌+◌, ◌-◌, ◌≤◌, length}
use Rattle.std.specs.Io.KnownBytes.{Consumes}
use Rattle.fleet_run.specs.Program.{longest}
use Rattle.fleet_run.proofs.program.read_all.Given as goal

-- The text so far is what the source gave.
abbrev pub invariant-pieces : goal.invariant-pieces
invariant-pieces g l =
    let old = g.S.Source.view l.fn.source in
    let new = g.S.Source.view l.source in
    record {
      bytes : Consumes old.left new.left l.text.items;
      given : new.given ≡ old.given + length l.text.items;
      limit : length l.text.items ≤ longest;
      never_fall : old.faults ≤ new.faults;
    }

abbrev pub decreases-pieces : goal.decreases-pieces
decreases-pieces g l = longest + 1 - length l.text.items
