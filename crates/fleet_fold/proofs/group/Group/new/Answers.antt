use Rattle.std.proofs.Common.{rules, ◌∙◌, sym, refl}
use Rattle.fleet_rows.specs.Row.{row_of}
use Rattle.fleet_fold.proofs.GroupSteps.{gathers_first}
use Rattle.fleet_fold.proofs.GroupCloses.{operand_bytes, operand_has_bytes}
use Rattle.fleet_fold.proofs.group.Group.new.Goals.{in-Some+in_ok-push, in_default}
use Rattle.fleet_fold.proofs.group.Group.new.Goals as goal

pub returns-clause-ok : goal.returns-clause-ok
returns-clause-ok c merge =
    elim c.match-into_bytes.branch [
      | in-Some+in_ok-push w ↦ gathers_first merge (row_of c.args.row) _ w.in-Some.operand refl refl refl refl refl refl (search rules) c.new.ensures.items
          (operand_bytes c.args.row.value w.in-Some.operand c.requires.operand (sym c.into_bytes.ensures ∙ w.in-Some.is)) c.requires.operand
      | in_default w ↦ absurd (operand_has_bytes c.args.row.value c.requires.operand (search rules))
    ]
