use Rattle.std.proofs.Common.{◌≡◌, ◌∙◌, ap, subst}
use Rattle.std.specs.Prelude.{Option, Some}
use Rattle.fleet_book.specs.VersionedRecords.{VersionedRecords}
use Rattle.fleet_store.proofs.Later.{got_records}
use Rattle.fleet_store.specs.Records.{AreRecords}
use Rattle.fleet_rival.proofs.Again.{submit_of_fits}
use Rattle.fleet_tests.proofs.rivals.refuses_records.Goals as goal

pub put_records-put-requires : goal.put_records-put-requires
put_records-put-requires g c =
    let old = g.S.Store.view c.args.store.now in
    let new = g.S.Store.view c.get_records.new.self in
    let got : AreRecords (Some c.in-Some.got) new.world.store = subst (λ (o : Option VersionedRecords). AreRecords o new.world.store) c.in-Some.is (got_records old new c.in_ok-got.field-0 c.in_ok-got.ensures) in
    submit_of_fits new c.in-Some.got c.id-id.result c.in_ok-value.value c.retain_active_and_last_finished.new.self got c.id-id.ensures (c.in_ok-value.ensures.copy ∙ c.compactions.ensures)
    c.retain_active_and_last_finished.ensures.kept c.retain_active_and_last_finished.ensures.model c.new.result c.new.ensures (ap (λ who. who.party) c.in_ok-got.ensures.called.same.who ∙ c.requires)
