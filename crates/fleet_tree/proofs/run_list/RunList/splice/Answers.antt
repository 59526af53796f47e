use Rattle.std.proofs.Common.{◌∙◌, sym, ap, ◌+◌, List, length, arith}
use Rattle.std.specs.Prelude.{◌&&◌, ◌||◌}
use Rattle.fleet_tree.specs.Falling.{are_falling, fits_between}
use Rattle.fleet_tree.specs.Lists.{joined, spliced}
use Rattle.fleet_tree.specs.declared.run.SortedRun.{SortedRun}
use Rattle.fleet_tree.proofs.Falling.{known_spliced}
use Rattle.fleet_tree.proofs.Places.{spliced_count}
use Rattle.fleet_tree.proofs.run_list.RunList.splice.Goals as goal

pub invariant_of-self-2 : goal.invariant_of-self-2
invariant_of-self-2 c =
    let new = c.in_ok-splice_runs.ensures.ok in
    let end = c.args.place + c.args.count in
    let runs = joined c.self.inside.chunks in
    let long = ap length c.self.view_is in
    let many = spliced_count runs c.args.place c.args.count c.args.run (omega (arith, long, c.requires)) in
    let counted = ap length new in
    let fits = c.fits-falls.ensures
    ∙ ap (λ run. are_falling c.args.self.now && fits_between c.args.self.now c.args.place end run) c.as_ref.ensures.value
    ∙ ap (λ list. are_falling list && fits_between list c.args.place end c.args.run) (sym c.self.view_is) in (
      omega (arith, c.in_ok-left.ensures.ok, c.self.invariant.0, many, counted),
      c.fall_still-self-inside.ensures
          ∙ ap (λ list. c.fits-falls.result || are_falling list) (c.of_chunks.ensures ∙ ap (λ (chunks : List (List SortedRun)). joined chunks) c.as_slice.ensures ∙ new)
          ∙ ap (λ b. b || are_falling (spliced c.args.place c.args.count c.args.run runs)) fits
          ∙ known_spliced runs c.args.place c.args.count c.args.run
          ∙ ap are_falling (sym new),
    )
