use Rattle.std.proofs.Common.{◌∙◌, sym, ap}
use Rattle.std.specs.Option.{option_copied}
use Rattle.fleet_worker.proofs.Finishes.{ended_so, finish_safe, lawful_end, not_run, shown_at}
use Rattle.fleet_worker.proofs.worker.Worker.finishes.Goals as goal

pub returns-in_default : goal.returns-in_default
returns-in_default g c = not_run c.args.moment c.args.self.now c.args.job c.args.number c.args.outputs.now _ _ (sym c.attempt_with.ensures ∙ ap option_copied c.in_default.is)

pub end_tries-requires : goal.end_tries-requires
end_tries-requires g c =
    let view = g.S.Store.view c.args.store.now in
    let w = c.args.self.now in
    let a = c.in-Some.attempt.now in
    let outputs = c.args.outputs.now in
    let run = sym c.attempt_with.ensures ∙ ap option_copied c.in-Some.is in
    let safe = finish_safe c.args.moment w c.args.job c.args.number outputs view (g.met.S.Store.lawful _) c.requires.ready.may c.requires.fits in
    record {
      lawful = lawful_end c.args.moment w c.args.job c.args.number outputs a run view safe.lawful;
      shown = shown_at c.args.moment w c.args.job c.args.number outputs a run view c.requires.fits;
    }

pub returns : goal.returns
returns g c = ended_so c.args.moment c.args.self.now c.args.job c.args.number c.args.outputs.now c.in-Some.attempt.now (sym c.attempt_with.ensures ∙ ap option_copied c.in-Some.is) _ _ _ c.end_tries.ensures
