use Rattle.std.proofs.Common.{length, ◌-◌, ◌≡◌, ◌≤◌, ◌+◌, drop}
use Rattle.row_model.specs.Written.TableBytes.{shared_len}
use Rattle.fleet_block.proofs.shared_bytes.shared_len.Given as goal

abbrev pub invariant-shared : goal.invariant-shared
invariant-shared l = record {
  of_first : l.shared ≤ length l.first;
  of_key : l.shared ≤ length l.key;
  left : l.shared + shared_len (drop l.shared l.first) (drop l.shared l.key) ≡ shared_len l.first l.key;
}

abbrev pub decreases-shared : goal.decreases-shared
decreases-shared l = l.most - l.shared
