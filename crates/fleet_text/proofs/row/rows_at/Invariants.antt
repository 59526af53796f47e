use Rattle.std.proofs.Common.{length}
use Rattle.fleet_text.proofs.Cuts.{ReadsRows}
use Rattle.fleet_text.proofs.row.rows_at.Given as goal

abbrev pub invariant-rows : goal.invariant-rows
invariant-rows l = ReadsRows l.word l.rows.items l.rest

abbrev pub decreases-rows : goal.decreases-rows
decreases-rows l = length l.rest
