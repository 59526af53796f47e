use Rattle.std.proofs.Common.{◌≡◌, sym, ◌∙◌, ap, ◌+◌, ◌++◌, List, ℕ, take}
use Rattle.std.specs.Prelude.{slice_range}
use Rattle.row_model.specs.Rows.{key_cmp}
use Rattle.fleet_block.proofs.Fields.{after_key, after_seq, row_parts}
use Rattle.fleet_block.proofs.comparing.compared_at.Goals as goal

pub returns-in_default-u64_at-clause-found : goal.returns-in_default-u64_at-clause-found
returns-in_default-u64_at-clause-found c r others fits e =
    let key = c.in-Some.ensures.found r.key (after_key r others) fits.in_bounds.key (e ∙ row_parts c.args.first.now r others) in
    c.in_default-u64_at.ensures.found r.seq (after_seq r others) fits.seq key.1

pub returns-in_default-fields_end-clause-found : goal.returns-in_default-fields_end-clause-found
returns-in_default-fields_end-clause-found c r others fits e =
    let key = c.in-Some.ensures.found r.key (after_key r others) fits.in_bounds.key (e ∙ row_parts c.args.first.now r others) in
    let seq = c.in-Some-u64_at.ensures.found r.seq (after_seq r others) fits.seq key.1 in
    c.in_default-fields_end.ensures.passed r others fits seq.1

pub returns-clause-found : goal.returns-clause-found
returns-clause-found c r others fits e =
    let first = c.args.first.now in
    let bytes = c.args.bytes.now in
    let parts = c.in-Some.parts in
    let key = c.in-Some.ensures.found r.key (after_key r others) fits.in_bounds.key (e ∙ row_parts first r others) in
    let seq = c.in-Some-u64_at.ensures.found r.seq (after_seq r others) fits.seq key.1 in
    let end = c.in-Some-fields_end.ensures.passed r others fits seq.1 in
    let rest : slice_range c.as_slice.result.now parts.start c.in-Some.place ≡ slice_range bytes parts.start (parts.start + parts.len) =
    ap (λ (bs : List ℕ). slice_range bs parts.start c.in-Some.place) c.as_slice.ensures ∙ ap (slice_range bytes parts.start) (sym c.in-Some.ensures.within.1) in
    let compared = c.joined_cmp-order.ensures ∙ ap (λ k. key_cmp k c.args.key.now) (ap (λ xs. take parts.shared first ++ xs) rest ∙ key.0) in
    ((λ i. (compared i, seq.0 i)), end)
