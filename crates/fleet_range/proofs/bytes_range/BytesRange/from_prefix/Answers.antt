use Rattle.std.proofs.Common.{◌≡◌, rules, ap, ◌∙◌}
use Rattle.row_model.specs.Ranges.{is_in_range}
use Rattle.fleet_range.specs.Keys.{prefix_ends, range_of}
use Rattle.fleet_range.specs.Shown.{ends_of}
use Rattle.fleet_range.proofs.Membership.{keys_of_prefix}
use Rattle.fleet_range.proofs.bytes_range.BytesRange.from_prefix.Goals as goal

pub returns-clause-keys : goal.returns-clause-keys
returns-clause-keys c = λ key bytes.
    let bounds : ends_of c.new.result ≡ prefix_ends c.args.prefix.now = search rules in
    ap (λ ends. is_in_range (range_of ends) key) bounds ∙ keys_of_prefix c.args.prefix.now key bytes
