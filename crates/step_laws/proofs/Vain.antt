-- Puts that change nothing keep the invariant: those that are lost, and those that are refused.
use Rattle.std.proofs.Common.{◌≡◌, refl, sym, subst, ℕ, ◌+◌, List, cond, Bool, true, false, Some, None}
use Rattle.std.specs.Prelude.{IsTrue, ◌==◌}
use Rattle.std.specs.List.{AllByRecursion}
use Rattle.std.proofs.lemmas.Bool.Decides.{Decides-eqb}
use Rattle.row_model.specs.Fold.{Operator}
use Rattle.fleet_model.specs.Jobs.{JobSpec, Jobs, contains}
use Rattle.fleet_model.specs.History.{Party, PutTable, PutManifest, PutRecords, DeleteTable, ManifestChange, RecordChange, Answer, Done, Conflict, Lost, Entry, stood}
use Rattle.fleet_model.specs.Store.{Manifest}
use Rattle.fleet_model.specs.Past.Replay.{named_specs}
use Rattle.fleet_model.specs.Exchanges.{Exchange, Plain, PutsTable, PutsManifest, PutsRecords, ListsTables, DeletesTable, DrawsJob, DrawsTable, records_version, with_entry, stands_or_lost}
use Rattle.step_model.specs.Past.{World, world_after}
use Rattle.step_model.specs.Entries.{drawn_jobs}
use Rattle.step_model.specs.Kept.Faithful.{with_specs}
use Rattle.step_model.specs.LawfulRecords.{NamesFit}
use Rattle.step_model.specs.Lawful.{Lawful}
use Rattle.step_model.specs.Kept.Keeps.{Keeps}
use Rattle.step_model.specs.Rivals.{Strike, MayStrike, after_call}
use Rattle.step_laws.specs.CallLaws.{VainPutsKeep}
use Rattle.step_laws.proofs.Elements.{all_append, all_to}
use Rattle.step_laws.proofs.Mute.{IsMute, mute_refused}
use Rattle.step_laws.proofs.Bodies.{whole_of, keeps_of}
use Rattle.step_laws.proofs.MuteBodies.{entered, spares_all, body_mute}
use Rattle.step_laws.proofs.Respecs.{body_by, named_agree, drew_drawn, all_firsts}
use Rattle.step_laws.proofs.Quiet.{world_entered, draws_mute, puts_mute, keeps_mute, looks_keep}

-- ---- entries that name jobs

-- The jobs that a lawful put of the records names were drawn.
pub named_drawn : (party : Party) (world : World) (named : List (ℕ × JobSpec)) → NamesFit party world named → AllByRecursion (λ p. IsTrue (contains (drawn_jobs world.store.history) p.0)) named
named_drawn party world named fits = all_to _ _ named (λ p there drew. drew_drawn party world.store.history p.0 drew) fits.drawn

-- A put of the records that does not take effect keeps the invariant, if its jobs are fit to be named.
vain_records : (merge : Operator) (world : World) (line : ℕ) (party : Party) (change : RecordChange) (answer : Answer) → stood answer ≡ false → NamesFit party world (named_specs (PutRecords change)) → Keeps merge world
    → Keeps merge (world_after world (with_entry line party (PutRecords change) answer world.store))
vain_records merge world line party change answer not_stood fits k =
    let entry : Entry = record { line = line; party = party; event = PutRecords change; answer = answer } in
    let named = named_specs (PutRecords change) in
    let w = whole_of merge world k in
    let specs = with_specs named k.stored.replay.specs in
    let mute : IsMute (stood answer) (PutRecords change) = rw not_stood (mute_refused (PutRecords change)) in
    subst (Keeps merge) (sym (world_entered world world.store.deleted world.store.jobs_drawn world.store.tables_drawn entry))
    (keeps_of merge (entered world world.store.deleted world.store.jobs_drawn world.store.tables_drawn entry) specs (record {
      body = body_mute merge world specs world.store.deleted world.store.jobs_drawn world.store.tables_drawn entry mute (named_agree named k.stored.replay.specs fits.once) (spares_all merge world _ w.body)
          (record { mentioned = all_append _ _ _ (all_firsts _ named (named_drawn party world named fits)) (rw mute.quiet.steps tt); planned = tt })
          (body_by merge world k.stored.replay.specs specs w.body (fits.replays k.stored.replay.specs k.faithful));
      draws = draws_mute world.store.jobs_drawn world.store.tables_drawn world.store.history entry refl refl w.draws;
      puts = puts_mute world.store.history entry world.store.tables mute (rw not_stood refl) w.puts;
    }))

vain_manifest : (merge : Operator) (world : World) (line : ℕ) (party : Party) (change : ManifestChange) (answer : Answer) → stood answer ≡ false → Keeps merge world → Keeps merge (world_after world (with_entry line party (PutManifest change) answer world.store))
vain_manifest merge world line party change answer not_stood k =
    keeps_mute merge world (record { line = line; party = party; event = PutManifest change; answer = answer }) (rw not_stood (mute_refused (PutManifest change))) refl refl refl (rw not_stood refl) tt k

-- ---- lost

-- A lawful call that a fault strikes and that is lost keeps the invariant.
lost : (merge : Operator) (x : Exchange) (line : ℕ) (party : Party) (world : World) → Keeps merge world → Lawful merge party world x → MayStrike x world (Some false) → Keeps merge (after_call line party x (Some false) world)
lost merge (Plain event) line party world k lawful may = (looks_keep merge).plain event line party (Some false) world k lawful may
lost merge (DrawsJob moment) line party world k lawful may = absurd (cc may)
lost merge (DrawsTable moment) line party world k lawful may = absurd (cc may)
lost merge (PutsTable table rows) line party world k lawful may =
    keeps_mute merge world (record { line = line; party = party; event = PutTable table _; answer = Lost }) (mute_refused (PutTable table _)) refl refl refl refl tt k
lost merge (PutsManifest version change value) line party world k lawful may = vain_manifest merge world line party change Lost refl k
lost merge (PutsRecords version change epoch jobs) line party world k lawful may = vain_records merge world line party change Lost refl lawful.0 k
lost merge ListsTables line party world k lawful may = (looks_keep merge).lists line party (Some false) world k lawful may
lost merge (DeletesTable table) line party world k lawful may =
    keeps_mute merge world (record { line = line; party = party; event = DeleteTable table; answer = Lost }) (mute_refused (DeleteTable table)) refl refl refl refl tt k

-- ---- refused

-- Another version is stored.
pub other_version : (n m : ℕ) → (n ≡ m → ⊥) → (n == m) ≡ false
other_version n m other = by (n == m) refl
  where
    by : (b : Bool) → (n == m) ≡ b → b ≡ false
    by true e = absurd (other ((Decides-eqb n m).0 e))
    by false e = refl

-- A put of the manifest for a version that is not stored keeps the invariant.
refused : (merge : Operator) (line : ℕ) (party : Party) (strike : Strike) (world : World) (version : ℕ) (change : ManifestChange) (value : Manifest) → Keeps merge world → (version ≡ world.store.manifest.version → ⊥)
    → Keeps merge (after_call line party (PutsManifest version change value) strike world)
refused merge line party None world version change value k other = by (version == world.store.manifest.version) (other_version version world.store.manifest.version other)
  where
    by : (b : Bool) → b ≡ false → Keeps merge (world_after world (with_entry line party (PutManifest change) (cond b (Done (world.store.manifest.version + 1)) (Conflict world.store.manifest.version)) (cond b (record world.store { manifest = record value { version = version + 1 } }) world.store)))
    by true e = absurd (cc e)
    by false e = vain_manifest merge world line party change (Conflict world.store.manifest.version) refl k
refused merge line party (Some true) world version change value k other = by (version == world.store.manifest.version) (other_version version world.store.manifest.version other)
  where
    by : (b : Bool) → b ≡ false
        → Keeps merge (world_after world (with_entry line party (PutManifest change) (stands_or_lost (cond b (Done (world.store.manifest.version + 1)) (Conflict world.store.manifest.version))) (cond b (record world.store { manifest = record value { version = version + 1 } }) world.store)))
    by true e = absurd (cc e)
    by false e = vain_manifest merge world line party change Lost refl k
refused merge line party (Some false) world version change value k other = vain_manifest merge world line party change Lost refl k

-- A lawful put of the records for a version that is not stored keeps the invariant.
records_refused : (merge : Operator) (line : ℕ) (party : Party) (strike : Strike) (world : World) (version : ℕ) (change : RecordChange) (epoch : ℕ) (jobs : Jobs) → Keeps merge world
    → Lawful merge party world (PutsRecords version change epoch jobs) → (version ≡ records_version world.store.records → ⊥) → Keeps merge (after_call line party (PutsRecords version change epoch jobs) strike world)
records_refused merge line party None world version change epoch jobs k lawful other = by (version == records_version world.store.records) (other_version version (records_version world.store.records) other)
  where
    by : (b : Bool) → b ≡ false
        → Keeps merge (world_after world (with_entry line party (PutRecords change) (cond b (Done (records_version world.store.records + 1)) (Conflict (records_version world.store.records))) (cond b (record world.store { records = Some (record { version = version + 1; epoch = epoch; jobs = jobs }) }) world.store)))
    by true e = absurd (cc e)
    by false e = vain_records merge world line party change (Conflict (records_version world.store.records)) refl lawful.0 k
records_refused merge line party (Some true) world version change epoch jobs k lawful other = by (version == records_version world.store.records) (other_version version (records_version world.store.records) other)
  where
    by : (b : Bool) → b ≡ false
        → Keeps merge (world_after world (with_entry line party (PutRecords change) (stands_or_lost (cond b (Done (records_version world.store.records + 1)) (Conflict (records_version world.store.records)))) (cond b (record world.store { records = Some (record { version = version + 1; epoch = epoch; jobs = jobs }) }) world.store)))
    by true e = absurd (cc e)
    by false e = vain_records merge world line party change Lost refl lawful.0 k
records_refused merge line party (Some false) world version change epoch jobs k lawful other = vain_records merge world line party change Lost refl lawful.0 k

pub vain_puts_keep : (merge : Operator) → VainPutsKeep merge
vain_puts_keep merge = record {
  lost = λ x line party world k lawful may. lost merge x line party world k lawful may;
  refused = λ line party strike world version change value k other. refused merge line party strike world version change value k other;
  records_refused = λ line party strike world version change epoch jobs k lawful other. records_refused merge line party strike world version change epoch jobs k lawful other;
}
