use Rattle.fleet_worker.proofs.worker.Worker.handle.Goals as goal

pub returns-in-CompactionJobProgress-clause-ran : goal.returns-in-CompactionJobProgress-clause-ran
returns-in-CompactionJobProgress-clause-ran g c =
    rw c.in-CompactionJobProgress.is
    (record { done = c.take_progress-done.result; answers = c.answered.ensures; ran = c.take_progress-done.ensures.ran (g.S.Store.view c.args.store.now) })
