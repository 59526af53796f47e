use Rattle.std.proofs.Common.{max, rules, arith}
use Rattle.std.proofs.lemmas.Iterator.{YieldsList-from_slice}
use Rattle.std.proofs.lemmas.Iterator.Consumers.{fold_from_yields_List}
use Rattle.step_model.specs.Entries.{last_name, name_in}
use Rattle.fleet_history.specs.Entries.{event_of}
use Rattle.party_tests.proofs.Names.{fold_names}
use Rattle.party_tests.proofs.sites.last_name.Goals as goal

pub returns : goal.returns
returns c =
    let folded = fold_from_yields_List _ (λ last entry. max last (name_in (event_of entry.event))) 0 c.fold-last.result c.fold-last.ensures.ran (YieldsList-from_slice c.args.history.now cc) (λ a x b q k. search rules) in
    let named = fold_names c.args.history.now 0 in
    omega (arith, folded, named)
