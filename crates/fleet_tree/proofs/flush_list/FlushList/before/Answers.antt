use Rattle.std.proofs.Common.{◌∙◌, ◌++◌, ap, List, not, take_while}
use Rattle.std.specs.Prelude.{◌==◌}
use Rattle.fleet_tree.specs.Views.{View}
use Rattle.fleet_tree.proofs.Chunks.{before_is, joined}
use Rattle.fleet_tree.proofs.flush_list.FlushList.before.Goals as goal

pub returns-clause-list : goal.returns-clause-list
returns-clause-list c =
    let newer = λ (view : View). not (view.id == c.args.id) in
    ap (λ (newest : List View). newest ++ joined c.in_ok-from_vec.field-0) c.newest.view_is
    ∙ ap (λ (older : List (List View)). c.in_ok-newest.newest ++ joined older) c.in_ok-from_vec.ensures.list
    ∙ before_is newer c.self.inside.newest c.in_ok-newest.newest c.as_slice.result.now c.in_ok-older.older.items c.len.result c.len-2.result c.in_ok-newest.ensures.part c.len.ensures c.len-2.ensures c.in_ok-older.ensures.chunks
    ∙ ap (λ (older : List (List View)). take_while newer (c.self.inside.newest ++ joined older)) c.as_slice.ensures
    ∙ ap (take_while newer) c.self.view_is
