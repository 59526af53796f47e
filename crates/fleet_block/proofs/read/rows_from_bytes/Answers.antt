use Rattle.std.proofs.Common.{◌≡◌, refl, sym, ◌∙◌, ap, subst, List}
use Rattle.std.specs.Prelude.{Some, true, false, not, bytes_eq}
use Rattle.std.proofs.lemmas.Slice.Eq.{bytes_eq-Decides}
use Rattle.row_model.specs.Written.TableBytes.{table_bytes, IsTaken, IsWritable}
use Rattle.std.specs.List.{AllByRecursion}
use Rattle.fleet_rows.specs.declared.row.RowEntry.{RowEntry}
use Rattle.fleet_rows.specs.Row.{rows_of}
use Rattle.fleet_block.proofs.Cuts.{all_in_bounds, mapped_some}
use Rattle.fleet_block.proofs.Tables.{none_missed, passed, these_found}
use Rattle.fleet_block.proofs.read.rows_from_bytes.Goals as goal

pub returns-in_default-clause-rows : goal.returns-in_default-clause-rows
returns-in_default-clause-rows c = record {
  spelt_so = tt;
  only = λ rows taken e. absurd (none_missed rows taken c.args.bytes.now e c.in_ok-rows.field-0 c.in_ok-rows.ensures.rows c.in_default.is);
}

pub returns-then-not-are_taken-clause-rows : goal.returns-then-not-are_taken-clause-rows
returns-then-not-are_taken-clause-rows c = record {
  spelt_so = tt;
  only = λ rows taken e.
      let same = these_found rows taken c.args.bytes.now e c.in_ok-rows.field-0 c.in_ok-rows.ensures.rows c.in-Some.rows c.in-Some.is in
      let here : IsTaken (rows_of c.deref.result.now) = subst IsTaken (sym (ap rows_of c.deref.ensures.value ∙ same)) taken in
      let tested : false ≡ true = c.if-not-are_taken.ensures.1 ((λ empty. here.some (ap rows_of empty)), here.ordered, all_in_bounds (rows_of c.deref.result.now) here.writable) in
      absurd (cc tested);
}

pub returns-then-ne-clause-rows : goal.returns-then-ne-clause-rows
returns-then-ne-clause-rows c = record {
  spelt_so = tt;
  only = λ rows taken e.
      let same = these_found rows taken c.args.bytes.now e c.in_ok-rows.field-0 c.in_ok-rows.ensures.rows c.in-Some.rows c.in-Some.is in
      let again : c.as_slice.result.now ≡ c.as_slice-2.result.now =
      c.as_slice.ensures.value ∙ c.in_ok-again.ensures.bytes ∙ ap (λ (rs : List RowEntry). table_bytes (rows_of rs)) c.deref-2.ensures.value ∙ ap table_bytes same ∙ sym e ∙ sym c.as_slice-2.ensures in
      let equal : bytes_eq c.as_slice.result.now c.as_slice-2.result.now ≡ true = (bytes_eq-Decides c.as_slice.result.now c.as_slice-2.result.now).1 again in
      let clash : true ≡ false = c.if-ne.ensures ∙ ap not equal in
      absurd (cc clash);
}

pub returns-clause-rows : goal.returns-clause-rows
returns-clause-rows c =
    let taken = c.if-not-are_taken.ensures.0 refl in
    let equal : c.as_slice.result.now ≡ c.as_slice-2.result.now = (bytes_eq-Decides c.as_slice.result.now c.as_slice-2.result.now).0 (passed (bytes_eq c.as_slice.result.now c.as_slice-2.result.now) c.if-ne.ensures) in
    let fits : IsTaken (rows_of c.deref.result.now) = record {
      some = mapped_some c.deref.result.now taken.0;
      ordered = taken.1;
      writable = subst (AllByRecursion IsWritable) (ap rows_of (c.deref-2.ensures.value ∙ sym c.deref.ensures.value)) c.in_ok-again.ensures.fit;
    } in
    record {
      spelt_so = (
        subst IsTaken (ap rows_of c.deref.ensures.value) fits,
        sym c.as_slice-2.ensures ∙ sym equal ∙ c.as_slice.ensures.value ∙ c.in_ok-again.ensures.bytes ∙ ap (λ (rs : List RowEntry). table_bytes (rows_of rs)) c.deref-2.ensures.value,
      );
      only = λ rows taken e. ap Some (these_found rows taken c.args.bytes.now e c.in_ok-rows.field-0 c.in_ok-rows.ensures.rows c.in-Some.rows c.in-Some.is);
    }
