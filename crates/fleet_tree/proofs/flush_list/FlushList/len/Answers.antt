use Rattle.std.proofs.Common.{◌∙◌, ◌++◌, ap, List, length}
use Rattle.row_model.specs.Written.Sizes.{saturated_sum}
use Rattle.fleet_tree.specs.Views.{View}
use Rattle.fleet_tree.proofs.Chunks.{count_is, joined}
use Rattle.fleet_tree.proofs.flush_list.FlushList.len.Goals as goal

pub returns : goal.returns
returns c =
    c.with_chunk.ensures
    ∙ count_is c.self.inside.newest c.as_slice.result.now c.count.result c.count.ensures
    ∙ ap (λ (older : List (List View)). saturated_sum (length (c.self.inside.newest ++ joined older))) c.as_slice.ensures
    ∙ ap (λ (views : List View). saturated_sum (length views)) c.self.view_is
