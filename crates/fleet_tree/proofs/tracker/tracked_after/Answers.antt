use Rattle.std.proofs.Common.{◌≡◌, ◌∙◌, ◌++◌, ◌∷◌, [], ap}
use Rattle.std.proofs.lemmas.Result.{IfOk-weaker}
use Rattle.std.specs.Prelude.{filter}
use Rattle.fleet_model.specs.Tracker.{is_retained, tracked_after}
use Rattle.fleet_tree.specs.Manifests.{tracked_of, tracker_of}
use Rattle.fleet_tree.specs.declared.tracker.Tracked.{Tracked}
use Rattle.fleet_tree.proofs.Tracking.{tracked_are}
use Rattle.fleet_tree.proofs.tracker.tracked_after.Goals as goal

pub returns-clause-tracker : goal.returns-clause-tracker
returns-clause-tracker c =
    let moment = c.args.moment in
    let retention = c.args.retention_ms in
    let flush : Tracked = record { least_seq = c.args.least_seq; moment = moment } in
    let kept = c.in_ok-after.ensures ∙ ap (filter (λ f. is_retained moment retention (tracked_of f))) c.as_slice.ensures in
    let made = c.in_ok-push.ensures.items ∙ ap (λ flushes. flushes ++ flush ∷ []) kept in
    IfOk-weaker c.from_vec.result (λ after. after ≡ c.push.new.self.items) (λ after. tracker_of after ≡ tracked_after moment retention c.args.least_seq (tracker_of c.args.tracker.now))
    (λ after same. tracked_are moment retention c.args.least_seq c.args.tracker.now after c.if-retention_ms-eq0.false (same ∙ made)) c.from_vec.ensures.list
