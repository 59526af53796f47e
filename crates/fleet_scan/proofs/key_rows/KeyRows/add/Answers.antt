use Rattle.fleet_rows.specs.Row.{row_of}
use Rattle.fleet_scan.proofs.Parts.{adds}
use Rattle.fleet_scan.proofs.key_rows.KeyRows.add.Goals as goal

pub returns : goal.returns
returns c = adds c.args.point c.args.self.now c.take.new.self (row_of c.args.row) c.in_ok-take.ensures
