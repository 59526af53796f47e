use Rattle.std.proofs.Common.{◌∙◌, sym, ap, subst}
use Rattle.fleet_model.specs.Work.Scheduler.{Generated, Specs, default_generate}
use Rattle.fleet_book.specs.Requests.{request_of}
use Rattle.fleet_book.specs.declared.request.CompactionRequest.{CompactionRequest}
use Rattle.fleet_sched.specs.Answers.{Generates}
use Rattle.fleet_sched.specs.Views.{trees_in, view_of}
use Rattle.fleet_sched.proofs.TreeViews.{full_specs_are, segment_answer_is}
use Rattle.fleet_sched.proofs.defaults.default_generate.Goals as goal

pub returns-in_ok-full_specs-in-Full : goal.returns-in_ok-full_specs-in-Full
returns-in_ok-full_specs-in-Full c flushes =
    ap (λ (request : CompactionRequest). default_generate (view_of flushes c.args.state.now) (request_of request)) c.in-Full.is
    ∙ ap Specs (full_specs_are flushes (trees_in c.args.state.now) ∙ sym c.in_ok-full_specs-in-Full.ensures)

pub returns-in-FullSegment : goal.returns-in-FullSegment
returns-in-FullSegment c flushes =
    let same = ap (λ (request : CompactionRequest). default_generate (view_of flushes c.args.state.now) (request_of request)) c.in-FullSegment.is
    ∙ segment_answer_is flushes c.in-FullSegment.segment c.args.state.now in
    subst (λ (answer : Generated). Generates answer c.full_segment.result) (sym same) c.full_segment.ensures
