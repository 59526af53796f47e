use Rattle.std.proofs.Common.{◌∙◌}
use Rattle.std.specs.Ordering.{is_lt}
use Rattle.std.proofs.lemmas.List.Folds.{length-prefix_len}
use Rattle.row_model.specs.Rows.{key_cmp}
use Rattle.fleet_tree.proofs.manifest.segments_below.Goals as goal

pub returns : goal.returns
returns c = c.prefixes_below.ensures ∙ length-prefix_len (λ s. is_lt (key_cmp s.0 c.args.prefix.now)) c.args.segments.now
