use Rattle.std.proofs.Common.{◌≡◌, ◌∙◌, rules}
use Rattle.std.specs.Ordering.{is_lt}
use Rattle.std.proofs.lemmas.Fn.{always_returns_same}
use Rattle.fleet_change.proofs.Ordered.{ordered_is, is_below, ranks}
use Rattle.fleet_change.proofs.change.in_id_order.Goals as goal

pub returns : goal.returns
returns c =
    let answers = always_returns_same _ (λ a r. is_lt r ≡ is_below a.0.now a.1.0.now) _ (λ a r f k. search rules) in
    record {
      ids = c.from_vec.ensures ∙ ordered_is c.args.ids.items c.sort_by.new.self.items (c.in_ok-sort_by.ensures.sorted is_below ranks answers) (c.sort_by.ensures.stable is_below ranks answers);
      memory = tt;
    }
