use Rattle.std.proofs.Common.{◌∙◌, sym, ap}
use Rattle.std.specs.Prelude.{bytes_eq, not}
use Rattle.std.proofs.lemmas.List.Folds.{length-prefix_len}
use Rattle.fleet_book.specs.Exchanges.{is_absent}
use Rattle.fleet_book.proofs.Lone.{first_is_lone}
use Rattle.fleet_book.proofs.finish.lone_segment.Goals as goal

pub returns-clause-lone : goal.returns-clause-lone
returns-clause-lone c =
    first_is_lone c.args.prefix.now c.args.segments.now c.first_with-place.result (c.first_with-place.ensures ∙ length-prefix_len (λ s. not (bytes_eq c.args.prefix.now s.0)) c.args.segments.now) c.if-place-segments.false
    (sym (c.if-not-is_absent.ensures ∙ ap (λ segments. is_absent c.args.prefix.now segments) c.behind.ensures))
