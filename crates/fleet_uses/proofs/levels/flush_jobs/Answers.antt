use Rattle.std.proofs.Common.{subst}
use Rattle.sched_model.specs.Levels.{level_picks}
use Rattle.fleet_book.specs.declared.view.CompactorStateView.{CompactorStateView}
use Rattle.fleet_level.specs.LevelParts.{LevelParts}
use Rattle.fleet_sched.specs.Answers.{Proposes}
use Rattle.fleet_sched.specs.Views.{view_of}
use Rattle.fleet_uses.specs.Levels.{state_with}
use Rattle.fleet_uses.proofs.FewFlushes.{rests, unmerged}
use Rattle.fleet_uses.proofs.levels.flush_jobs.Goals as goal

pub returns-clause-jobs : goal.returns-clause-jobs
returns-clause-jobs c = λ run_flushes.
    subst (λ (s : LevelParts). Proposes (level_picks s.options s.max_concurrent_compactions (view_of run_flushes (state_with c.args.flushes))) c.propose.result) c.new-scheduler.ensures
    (subst (λ (state : CompactorStateView). Proposes (level_picks c.new-scheduler.result.options c.new-scheduler.result.max_concurrent_compactions (view_of run_flushes state)) c.propose.result) c.state_with-state.ensures
    (c.propose.ensures run_flushes))

pub returns-clause-rest : goal.returns-clause-rest
returns-clause-rest c = λ few. rests c.args.options c.args.flushes c.propose.result (returns-clause-jobs c unmerged) few
