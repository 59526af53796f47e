use Rattle.std.proofs.Common.{◌∙◌, sym, refl}
use Rattle.fleet_rows.specs.Row.{row_of}
use Rattle.fleet_fold.proofs.GroupSteps.{adds}
use Rattle.fleet_fold.proofs.GroupCloses.{operand_bytes}
use Rattle.fleet_fold.proofs.group.Group.push.Goals as goal

pub returns : goal.returns
returns c merge =
    adds merge c.args.self.now c.note.new.self _ (row_of c.args.row) c.in-Some.operand c.note.ensures refl refl refl refl refl refl refl c.in_ok-push-in-Some.ensures.items
    (operand_bytes c.args.row.value c.in-Some.operand c.requires.operand (sym c.into_bytes.ensures ∙ c.in-Some.is)) c.requires.operand
