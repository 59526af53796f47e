-- A put of the records either takes effect or changes nothing.
use Rattle.std.proofs.Common.{◌≡◌, refl, sym, subst, ℕ, ◌+◌, cond, Bool, true, false, Some, None}
use Rattle.std.specs.Prelude.{◌==◌}
use Rattle.std.proofs.lemmas.Bool.Decides.{Decides-eqb}
use Rattle.row_model.specs.Fold.{Operator}
use Rattle.fleet_model.specs.Jobs.{Jobs}
use Rattle.fleet_model.specs.History.{Party, PutRecords, RecordChange, Answer, Done, Conflict, Stands, stood}
use Rattle.fleet_model.specs.Past.Replay.{named_specs}
use Rattle.fleet_model.specs.Exchanges.{PutsRecords, with_entry, stands_or_lost, records_version}
use Rattle.step_model.specs.Past.{World, world_after}
use Rattle.step_model.specs.LawfulRecords.{NamesFit, RecordsFit}
use Rattle.step_model.specs.Kept.Keeps.{Keeps}
use Rattle.step_laws.specs.CallLaws.{RecordsPutKeeps}
use Rattle.step_laws.proofs.RecordsBodies.{with_records, world_with_records}
use Rattle.step_laws.proofs.Vain.{vain_puts_keep}

-- A lawful put of this change that takes effect keeps the invariant.
abbrev pub StandingPutKeeps : Operator → RecordChange → Type 0
StandingPutKeeps merge change = (line : ℕ) (party : Party) (answer : Answer) (world : World) (epoch : ℕ) (jobs : Jobs) → stood answer ≡ true → Keeps merge world → NamesFit party world (named_specs (PutRecords change)) → RecordsFit merge party world change epoch jobs
    → Keeps merge (with_records world (record { version = records_version world.store.records + 1; epoch = epoch; jobs = jobs }) (record { line = line; party = party; event = PutRecords change; answer = answer }))

world_put : (world : World) (line : ℕ) (party : Party) (change : RecordChange) (answer : Answer) (version epoch : ℕ) (jobs : Jobs) → version ≡ records_version world.store.records
    → world_after world (with_entry line party (PutRecords change) answer (record world.store { records = Some (record { version = version + 1; epoch = epoch; jobs = jobs }) }))
    ≡ with_records world (record { version = records_version world.store.records + 1; epoch = epoch; jobs = jobs }) (record { line = line; party = party; event = PutRecords change; answer = answer })
world_put world line party change answer version epoch jobs same =
    rw same (world_with_records world (record { version = records_version world.store.records + 1; epoch = epoch; jobs = jobs }) (record { line = line; party = party; event = PutRecords change; answer = answer }))

differs : (n m : ℕ) → (n == m) ≡ false → n ≡ m → ⊥
differs n m e same = absurd (cc (e, (Decides-eqb n m).1 same))

-- All lawful puts of a change of the records keep the invariant, if those that take effect do.
pub records_put_keeps : (merge : Operator) (change : RecordChange) → StandingPutKeeps merge change → RecordsPutKeeps merge change
records_put_keeps merge change stands version epoch jobs line party None world k lawful may = by (version == records_version world.store.records) refl
  where
    by : (b : Bool) → (version == records_version world.store.records) ≡ b
        → Keeps merge (world_after world (with_entry line party (PutRecords change) (cond b (Done (records_version world.store.records + 1)) (Conflict (records_version world.store.records))) (cond b (record world.store { records = Some (record { version = version + 1; epoch = epoch; jobs = jobs }) }) world.store)))
    by true e =
        let same = (Decides-eqb version (records_version world.store.records)).0 e in
        subst (Keeps merge) (sym (world_put world line party change (Done (records_version world.store.records + 1)) version epoch jobs same))
        (stands line party (Done (records_version world.store.records + 1)) world epoch jobs refl k lawful.0 (lawful.1 same))
    by false e = subst (λ b. Keeps merge (world_after world (with_entry line party (PutRecords change) (cond b (Done (records_version world.store.records + 1)) (Conflict (records_version world.store.records))) (cond b (record world.store { records = Some (record { version = version + 1; epoch = epoch; jobs = jobs }) }) world.store)))) e
        ((vain_puts_keep merge).records_refused line party None world version change epoch jobs k lawful (differs version (records_version world.store.records) e))
records_put_keeps merge change stands version epoch jobs line party (Some true) world k lawful may = by (version == records_version world.store.records) refl
  where
    by : (b : Bool) → (version == records_version world.store.records) ≡ b
        → Keeps merge (world_after world (with_entry line party (PutRecords change) (stands_or_lost (cond b (Done (records_version world.store.records + 1)) (Conflict (records_version world.store.records)))) (cond b (record world.store { records = Some (record { version = version + 1; epoch = epoch; jobs = jobs }) }) world.store)))
    by true e =
        let same = (Decides-eqb version (records_version world.store.records)).0 e in
        subst (Keeps merge) (sym (world_put world line party change Stands version epoch jobs same)) (stands line party Stands world epoch jobs refl k lawful.0 (lawful.1 same))
    by false e = subst (λ b. Keeps merge (world_after world (with_entry line party (PutRecords change) (stands_or_lost (cond b (Done (records_version world.store.records + 1)) (Conflict (records_version world.store.records)))) (cond b (record world.store { records = Some (record { version = version + 1; epoch = epoch; jobs = jobs }) }) world.store)))) e
        ((vain_puts_keep merge).records_refused line party (Some true) world version change epoch jobs k lawful (differs version (records_version world.store.records) e))
records_put_keeps merge change stands version epoch jobs line party (Some false) world k lawful may = (vain_puts_keep merge).lost (PutsRecords version change epoch jobs) line party world k lawful may
