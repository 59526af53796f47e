use Rattle.std.proofs.Common.{◌∙◌, ap}
use Rattle.row_model.specs.Written.TableBytes.{row_flags}
use Rattle.fleet_rows.specs.Row.{content_of, row_of}
use Rattle.fleet_block.proofs.Fields.{after_created, after_expires, after_flags, after_seq, created_there, expires_there, fields_parts, kind_told}
use Rattle.fleet_block.proofs.Found.{found_none, found_some}
use Rattle.fleet_block.proofs.row.row_with.Goals as goal

pub returns-in_default-clause-found : goal.returns-in_default-clause-found
returns-in_default-clause-found c r others fits e =
    c.in_default.ensures.found r.seq (after_seq r others) fits.0.seq (e ∙ fields_parts r others)

pub returns-in_default-byte_at-clause-found : goal.returns-in_default-byte_at-clause-found
returns-in_default-byte_at-clause-found c r others fits e =
    let seq = c.in-Some.ensures.found r.seq (after_seq r others) fits.0.seq (e ∙ fields_parts r others) in
    c.in_default-byte_at.ensures.found (row_flags r) (after_flags r others) tt seq.1

pub returns-in_default-stamp_at-clause-found : goal.returns-in_default-stamp_at-clause-found
returns-in_default-stamp_at-clause-found c r others fits e =
    let seq = c.in-Some.ensures.found r.seq (after_seq r others) fits.0.seq (e ∙ fields_parts r others) in
    let flags = c.in-Some-byte_at.ensures.found (row_flags r) (after_flags r others) tt seq.1 in
    c.in_default-stamp_at.ensures.found r.created (after_created r others) (fits.0.created, created_there r c.in-Some-byte_at.flags flags.0) flags.1

pub returns-in_default-stamp_at-2-clause-found : goal.returns-in_default-stamp_at-2-clause-found
returns-in_default-stamp_at-2-clause-found c r others fits e =
    let seq = c.in-Some.ensures.found r.seq (after_seq r others) fits.0.seq (e ∙ fields_parts r others) in
    let flags = c.in-Some-byte_at.ensures.found (row_flags r) (after_flags r others) tt seq.1 in
    let created = c.in-Some-stamp_at.ensures.found r.created (after_created r others) (fits.0.created, created_there r c.in-Some-byte_at.flags flags.0) flags.1 in
    c.in_default-stamp_at-2.ensures.found r.expires (after_expires r others) (fits.0.expires, expires_there r c.in-Some-byte_at.flags flags.0) created.1

pub returns-in_default-2-clause-found : goal.returns-in_default-2-clause-found
returns-in_default-2-clause-found c r others fits e =
    let seq = c.in-Some.ensures.found r.seq (after_seq r others) fits.0.seq (e ∙ fields_parts r others) in
    let flags = c.in-Some-byte_at.ensures.found (row_flags r) (after_flags r others) tt seq.1 in
    let created = c.in-Some-stamp_at.ensures.found r.created (after_created r others) (fits.0.created, created_there r c.in-Some-byte_at.flags flags.0) flags.1 in
    let expires = c.in-Some-stamp_at-2.ensures.found r.expires (after_expires r others) (fits.0.expires, expires_there r c.in-Some-byte_at.flags flags.0) created.1 in
    found_none content_of r.content others c.args.bytes.now c.in_ok-value.field-0 c.in_default-2.is (c.in_ok-value.ensures.found r.content others (fits.0.in_bounds.content, kind_told r c.in-Some-byte_at.flags flags.0) expires.1)

pub returns-clause-found : goal.returns-clause-found
returns-clause-found c r others fits e =
    let seq = c.in-Some.ensures.found r.seq (after_seq r others) fits.0.seq (e ∙ fields_parts r others) in
    let flags = c.in-Some-byte_at.ensures.found (row_flags r) (after_flags r others) tt seq.1 in
    let created = c.in-Some-stamp_at.ensures.found r.created (after_created r others) (fits.0.created, created_there r c.in-Some-byte_at.flags flags.0) flags.1 in
    let expires = c.in-Some-stamp_at-2.ensures.found r.expires (after_expires r others) (fits.0.expires, expires_there r c.in-Some-byte_at.flags flags.0) created.1 in
    let content = found_some content_of r.content others c.args.bytes.now c.in_ok-value.field-0 c.in-Some-2.value c.in-Some-2.place c.in-Some-2.is (c.in_ok-value.ensures.found r.content others (fits.0.in_bounds.content, kind_told r c.in-Some-byte_at.flags flags.0) expires.1) in
    (ap row_of c.new-row.ensures ∙ (λ i. record { key = fits.1 i; content = content.0 i; seq = seq.0 i; created = created.0 i; expires = expires.0 i }), content.1)
