use Rattle.std.proofs.Common.{sym, ◌∙◌, ap, ◌≤◌, length, subst}
use Rattle.std.proofs.lemmas.List.Sums.{prefix_len-le-length}
use Rattle.std.proofs.lemmas.Result.{on_ok_weaker}
use Rattle.std.specs.Option.{option_copied}
use Rattle.std.specs.Ordering.{is_lt}
use Rattle.row_model.specs.Rows.{key_cmp}
use Rattle.fleet_tree.specs.Trees.{tree_or_empty}
use Rattle.fleet_tree.proofs.Flushes.{place_in, put_at, put_is}
use Rattle.fleet_tree.proofs.manifest.flush_segment.Goals as goal

pub insert-requires : goal.insert-requires
insert-requires c =
    let prefix = c.as_slice-wanted.result.now in
    let at = c.segments_below-place.ensures ∙ ap (place_in prefix c.args.view c.args.last_seq) c.as_slice.ensures in
    subst (λ n. n ≤ length c.args.segments.now) (sym at) (prefix_len-le-length (λ s. is_lt (key_cmp s.0 prefix)) c.args.segments.now)

pub returns-then-is_there-clause-ok : goal.returns-then-is_there-clause-ok
returns-then-is_there-clause-ok c =
    let prefix = c.args.prefix.now in
    let view = c.args.view in
    let seq = c.args.last_seq in
    let segments = c.args.segments.now in
    let place = c.segments_below-place.result in
    let tree = c.add_l0.new.self in
    let at = c.segments_below-place.ensures ∙ ap (place_in c.as_slice-wanted.result.now view seq) c.as_slice.ensures ∙ ap (λ k. place_in k view seq segments) c.as_slice-wanted.ensures in
    let found = c.in_ok-is_there.ensures.tree ∙ ap (λ k. tree_or_empty k (option_copied c.get.result)) c.as_slice-wanted.ensures in
    let put = put_is prefix view seq segments place c.in_ok-is_there.is_there c.in_ok-is_there.tree tree (option_copied c.get.result) c.in_ok-clone.field-0
    at c.get.ensures found c.in_ok-add_l0.ensures.ok c.in_ok-clone.ensures.cases in
    on_ok_weaker c.replace.result (λ e. e ∙ sym (ap (λ there. put_at prefix view seq there place (c.in_ok-clone.field-0, tree) segments) c.if-is_there.true) ∙ put) c.replace.ensures.ok

pub returns-else-is_there-clause-ok : goal.returns-else-is_there-clause-ok
returns-else-is_there-clause-ok c =
    let prefix = c.args.prefix.now in
    let view = c.args.view in
    let seq = c.args.last_seq in
    let segments = c.args.segments.now in
    let place = c.segments_below-place.result in
    let tree = c.add_l0.new.self in
    let at = c.segments_below-place.ensures ∙ ap (place_in c.as_slice-wanted.result.now view seq) c.as_slice.ensures ∙ ap (λ k. place_in k view seq segments) c.as_slice-wanted.ensures in
    let found = c.in_ok-is_there.ensures.tree ∙ ap (λ k. tree_or_empty k (option_copied c.get.result)) c.as_slice-wanted.ensures in
    let put = put_is prefix view seq segments place c.in_ok-is_there.is_there c.in_ok-is_there.tree tree (option_copied c.get.result) c.in_ok-clone.field-0
    at c.get.ensures found c.in_ok-add_l0.ensures.ok c.in_ok-clone.ensures.cases in
    on_ok_weaker c.insert.result (λ e. e ∙ sym (ap (λ there. put_at prefix view seq there place (c.in_ok-clone.field-0, tree) segments) c.if-is_there.false) ∙ put) c.insert.ensures.ok
