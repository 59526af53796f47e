use Rattle.std.proofs.Common.{◌∙◌, sym, ap, rules, arith}
use Rattle.fleet_worker.specs.Workers.{WorkerParts}
use Rattle.party_tests.proofs.Finished.{output_goes_on}
use Rattle.party_tests.proofs.work.output.Goals as goal

pub output-requires-clause-runs : goal.output-requires-clause-runs
output-requires-clause-runs g c κs within = (c.in-Some.ranges, (sym c.ranges-2.ensures ∙ c.in-Some.is, (omega arith, search rules)))

pub returns-in-Some : goal.returns-in-Some
returns-in-Some g c =
    output_goes_on _ c.args.worker.now c.output.new.self _ (g.S.Store.view c.args.store.now) (g.S.Store.view c.output.new.store) (g.met.S.Store.lawful _) c.requires.hand (search rules)
    (ap (λ (w : WorkerParts). w.number) c.output.ensures.same) c.output.ensures.ready _ _ _ c.output.ensures.ran
