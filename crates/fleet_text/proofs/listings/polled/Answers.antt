use Rattle.std.proofs.Common.{ap, ◌∙◌}
use Rattle.std.proofs.lemmas.Result.{IfOk-weaker}
use Rattle.script_model.specs.Replies.{jobs_text, rules_text}
use Rattle.fleet_text.specs.Places.{places_text}
use Rattle.fleet_text.proofs.Polled.{polled_words}
use Rattle.fleet_text.proofs.listings.polled.Goals as goal

pub returns-clause-reply : goal.returns-clause-reply
returns-clause-reply c =
    IfOk-weaker c.said.result _ _ (λ answer is. is ∙ polled_words c.args.report.now _ _ _ _ _ _ _ _ _ (c.as_str.ensures.value ∙ c.in_ok-freed.ensures ∙ ap jobs_text c.as_slice.ensures) (c.as_str-2.ensures.value ∙ c.in_ok-done.ensures ∙ ap jobs_text c.as_slice-2.ensures) (c.as_str-3.ensures.value ∙ c.in_ok-lost.ensures ∙ ap rules_text c.as_slice-3.ensures) (c.as_str-4.ensures.value ∙ c.in_ok-added.ensures ∙ ap jobs_text c.as_slice-4.ensures) (c.as_str-5.ensures.value ∙ c.in_ok-dropped.ensures ∙ ap places_text c.as_slice-5.ensures) (c.as_str-6.ensures.value ∙ c.in_ok-opened.ensures ∙ ap jobs_text c.as_slice-6.ensures) (c.as_str-7.ensures.value ∙ c.in_ok-moved.ensures ∙ ap jobs_text c.as_slice-7.ensures) (c.as_str-8.ensures.value ∙ c.in_ok-drained.ensures ∙ ap jobs_text c.as_slice-8.ensures) (c.as_str-9.ensures.value ∙ c.in_ok-refused.ensures ∙ ap rules_text c.as_slice-9.ensures)) c.said.ensures.reply
