use Rattle.std.proofs.Common.{◌≡◌, ◌++◌, take, string_bytes}
use Rattle.std.specs.Prelude.{flat_map}
use Rattle.fleet_text.proofs.Between.{with_separator}
use Rattle.fleet_text.proofs.lists.between_each.Given as goal

abbrev pub invariant-items : goal.invariant-items
invariant-items g l =
    string_bytes l.out ≡ string_bytes l.initial.out ++ flat_map (with_separator l.separator g.T.Prints.text) (take l.item-index l.others)
