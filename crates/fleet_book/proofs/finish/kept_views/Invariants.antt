use Rattle.std.proofs.Common.{◌≡◌, ◌++◌}
use Rattle.fleet_book.specs.Finishes.{kept_views}
use Rattle.fleet_book.proofs.finish.kept_views.Given as goal

-- The flushes that were kept so far and those that are kept of the others are all that are kept.
abbrev pub invariant-views : goal.invariant-views
invariant-views l = l.kept.items ++ kept_views l.sources l.view-iterator ≡ kept_views l.sources l.views
