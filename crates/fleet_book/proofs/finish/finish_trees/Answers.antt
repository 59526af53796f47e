use Rattle.std.proofs.Common.{◌≡◌, ◌∙◌, sym, subst, true}
use Rattle.std.specs.Option.{option_copied}
use Rattle.std.proofs.lemmas.Result.{on_ok_weaker}
use Rattle.fleet_book.specs.Exchanges.{IsLone, is_absent}
use Rattle.fleet_book.proofs.Lone.{absent_stay, lone_finished}
use Rattle.fleet_book.proofs.finish.finish_trees.Goals as goal

pub returns-then-is_root_alone-clause-segments : goal.returns-then-is_root_alone-clause-segments
returns-then-is_root_alone-clause-segments c =
    let alone = (c.is_root_alone.ensures c.if-is_root_alone.true).1 in
    let among = subst (λ segments. is_absent c.as_slice.result.now segments ≡ true) c.as_slice-2.ensures alone in
    let absent = subst (λ prefix. is_absent prefix c.args.segments.now ≡ true) (c.as_slice.ensures ∙ c.segment-prefix.ensures) among in
    on_ok_weaker c.finish_tree.result (λ e. absent_stay c.args.spec.now (option_copied c.args.output) c.args.segments.now absent) c.finish_tree.ensures.ok

pub returns-in-Some-clause-segments : goal.returns-in-Some-clause-segments
returns-in-Some-clause-segments c =
    let among = subst (λ segments. IsLone c.in-Some.place c.as_slice-3.result.now segments) c.as_slice-4.ensures c.in-Some.ensures.lone in
    let lone = subst (λ prefix. IsLone c.in-Some.place prefix c.args.segments.now) (c.as_slice-3.ensures ∙ c.segment-prefix.ensures) among in
    on_ok_weaker c.finish_segment.result (λ e. lone_finished c.args.spec.now (option_copied c.args.output) c.args.segments.now c.finish_segment.new.segments c.in-Some.place lone e) c.finish_segment.ensures.ok
