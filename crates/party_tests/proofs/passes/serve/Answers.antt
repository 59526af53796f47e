use Rattle.std.proofs.Common.{◌≡◌, refl, ap, sym, subst, ◌+◌, arith}
use Rattle.fleet_history.specs.Parties.{party_of}
use Rattle.fleet_history.specs.declared.party.Party.{Party}
use Rattle.fleet_history.specs.declared.party.Party.TheVariants as own
use Rattle.fleet_lock.specs.Names.{name_of}
use Rattle.fleet_model.specs.History.{Worker}
use Rattle.party_tests.specs.Passes.{MayLend, Serves}
use Rattle.party_tests.proofs.Splits.{lends_later, serves_new}
use Rattle.party_tests.proofs.passes.serve.Goals as goal

pub split-requires-clause-name : goal.split-requires-clause-name
split-requires-clause-name g c = c.requires.lends.names (name_of (Worker c.args.number)) (omega arith)

pub split-requires-clause-other : goal.split-requires-clause-other
split-requires-clause-other g c = λ same.
    let writer : name_of (party_of c.args.pass.now.party) ≡ 0 = ap (λ (party : Party). name_of (party_of party)) c.requires.lends.writer in
    omega (arith, same, writer)

pub returns-clause-lends : goal.returns-clause-lends
returns-clause-lends g c = subst (MayLend (name_of (Worker c.args.number) + 1)) (sym c.split.ensures.old) (lends_later (name_of (Worker c.args.number)) c.args.pass.now c.requires.lends)

pub returns-clause-serves : goal.returns-clause-serves
returns-clause-serves g c = subst (Serves c.args.number) (sym c.split.ensures.new) (serves_new (name_of (Worker c.args.number)) c.args.pass.now c.requires.lends (own.Worker c.args.number) c.args.number refl)
