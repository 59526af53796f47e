-- What calls of others leave of what a party got.
use Rattle.std.proofs.Common.{◌≡◌, ◌≢◌, ◌⊎◌, inl, inr, refl, ap, sym, ◌∙◌, subst, ℕ, List, [], Option, Some, None, Result}
use Rattle.row_model.specs.Append.{append}
use Rattle.fleet_model.specs.Exchanges.{Exchange, records_version}
use Rattle.fleet_model.specs.History.{Submitter, Worker, Submit, Claim}
use Rattle.fleet_model.specs.Jobs.{trimmed_jobs}
use Rattle.step_model.specs.Past.{World}
use Rattle.step_model.specs.LawfulRecords.{RecordsFit}
use Rattle.step_model.specs.Rivals.{Rivals}
use Rattle.step_model.specs.Views.{StoreView}
use Rattle.step_laws.proofs.Later.{rivals_later}
use Rattle.fleet_rows.specs.declared.errors.SlateDBError.{SlateDBError}
use Rattle.fleet_tree.specs.declared.manifest.Manifest.{Manifest}
use Rattle.fleet_tree.specs.declared.manifest.VersionedManifest.{VersionedManifest}
use Rattle.fleet_jobs.specs.Parts.JobParts.{JobParts}
use Rattle.fleet_jobs.specs.Jobs.{jobs_of}
use Rattle.fleet_jobs.specs.declared.spec.CompactionSpec.{CompactionSpec}
use Rattle.fleet_book.specs.Records.{kept_records}
use Rattle.fleet_book.specs.VersionedRecords.{VersionedRecords}
use Rattle.fleet_book.specs.declared.compactions.Compactions.{Compactions}
use Rattle.fleet_history.specs.Parties.{party_of}
use Rattle.fleet_history.specs.declared.manifest_change.Step.{Step}
use Rattle.fleet_history.specs.declared.party.Party as own
use Rattle.fleet_history.specs.declared.party.Party.TheVariants as parties
use Rattle.fleet_history.specs.declared.record_change.RecordChange as record_own
use Rattle.fleet_history.specs.declared.record_change.RecordChange.TheVariants as record_change
use Rattle.fleet_history.specs.declared.manifest_change.ManifestChange.TheVariants as change
use Rattle.fleet_store.specs.Asks.{ManifestPutFits, PutsManifest, PutsRecords, RecordsPutFit}
use Rattle.fleet_store.specs.Exchanges.{manifest_put, records_put}
use Rattle.fleet_store.specs.Memory.{StoreParts}
use Rattle.fleet_store.specs.Under.{view_of}
use Rattle.fleet_store.proofs.Described.{kept_describe}
use Rattle.fleet_store.proofs.Later.{still_manifest, still_records}
use Rattle.fleet_store.specs.Manifests.{IsManifest}
use Rattle.fleet_store.specs.Records.{AreRecords}
use Rattle.fleet_rival.specs.Callers.{shared_caller}
use Rattle.fleet_rival.specs.Rival.{StayWhole}
use Rattle.fleet_store.specs.Called.{Called}
use Rattle.fleet_model.specs.Store.{Store}
use Rattle.fleet_rival.proofs.Rivals.{came, claim_fits, manifest_fits, manifest_trees, no_names, none_came, submit_fits}

-- A manifest that a party has may be put once more, unchanged, whatever others do meanwhile.
pub put_again_fits : (view : StoreView) (m : VersionedManifest) → IsManifest m view.world.store → ManifestPutFits view m.id m.manifest (change.Commit []) []
put_again_fits view m is = record {
  lawful = λ met rivals same. manifest_fits met m (still_manifest view.world.store met.store (rivals_later view.who view.world met rivals) m is same) view.who.party;
  shown = λ met rivals same. manifest_trees met m (still_manifest view.world.store met.store (rivals_later view.who view.world met rivals) m is same);
}

-- The same, given apart what is put, and why.
pub put_of_fits : (view : StoreView) (m : VersionedManifest) (value : Manifest) (steps : List Step) → IsManifest m view.world.store → value ≡ m.manifest → steps ≡ [] → ManifestPutFits view m.id value (change.Commit steps) []
put_of_fits view m value steps is copy none = rw (copy, none) (put_again_fits view m is)

-- The records without the jobs that a put drops.
abbrev pub kept_in : VersionedRecords → Compactions
kept_in r = record r.compactions { jobs = kept_records r.compactions.jobs }

-- So they may be put once more, by a change that changes nothing, whatever others do meanwhile.
module _ (view : StoreView) (r : VersionedRecords) (are : AreRecords (Some r) view.world.store) (trim : jobs_of (kept_records r.compactions.jobs) ≡ trimmed_jobs (jobs_of r.compactions.jobs)) where
  stored : (met : World) → Rivals view.who view.world met → r.id ≡ records_version met.store.records → AreRecords (Some r) met.store
  stored met rivals same = still_records view.world.store met.store (rivals_later view.who view.world met rivals) r are same

  pub submit_again_fits : view.who.party ≡ Submitter → RecordsPutFit view r.id (kept_in r) (record_change.Submit [])
  submit_again_fits by = record {
    lawful = λ met rivals. (
      no_names view.who.party met,
      λ same.
          subst (RecordsFit view.who.merge view.who.party met (Submit []) r.compactions.compactor_epoch) (sym trim) (submit_fits view.who.merge view.who.party met r (stored met rivals same).same by),
    );
    shown = λ met rivals same. kept_describe r.compactions.jobs met.store (stored met rivals same).handles;
  }

  pub claim_again_fits : (worker : ℕ) → view.who.party ≡ Worker worker → RecordsPutFit view r.id (kept_in r) (record_change.Claim worker [])
  claim_again_fits worker by = record {
    lawful = λ met rivals. (
      no_names view.who.party met,
      λ same.
          subst (RecordsFit view.who.merge view.who.party met (Claim worker []) r.compactions.compactor_epoch) (sym trim) (claim_fits view.who.merge view.who.party met r (stored met rivals same).same worker by),
    );
    shown = λ met rivals same. kept_describe r.compactions.jobs met.store (stored met rivals same).handles;
  }

-- The same, given apart what is put.
module _ (view : StoreView) (r : VersionedRecords) (version : ℕ) (copy value : Compactions) (are : AreRecords (Some r) view.world.store) (at : version ≡ r.id) (copied : copy ≡ r.compactions)
    (kept : value ≡ record copy { jobs = kept_records copy.jobs }) (trim : jobs_of value.jobs ≡ trimmed_jobs (jobs_of copy.jobs)) where
  value_is : value ≡ kept_in r
  value_is = kept ∙ ap (λ (c : Compactions). record c { jobs = kept_records c.jobs }) copied

  trim_is : jobs_of (kept_records r.compactions.jobs) ≡ trimmed_jobs (jobs_of r.compactions.jobs)
  trim_is = sym (ap (λ (c : Compactions). jobs_of c.jobs) value_is) ∙ (trim ∙ ap (λ (c : Compactions). trimmed_jobs (jobs_of c.jobs)) copied)

  pub submit_of_fits : (specs : List (ℕ × CompactionSpec)) → specs ≡ [] → view.who.party ≡ Submitter → RecordsPutFit view version value (record_change.Submit specs)
  submit_of_fits specs none by = rw (at, value_is, none) (submit_again_fits view r are trim_is by)

  pub claim_of_fits : (worker : ℕ) → view.who.party ≡ Worker worker → RecordsPutFit view version value (record_change.Claim worker [])
  claim_of_fits worker by = rw (at, value_is) (claim_again_fits view r are trim_is worker by)

  pub idle_of_fits : (party : own.Party) (why : record_own.RecordChange) → view.who.party ≡ party_of party
      → ((party ≡ parties.Submitter) × (why ≡ record_change.Submit [])) ⊎ ((party ≡ parties.Worker 0) × (why ≡ record_change.Claim 0 [])) → RecordsPutFit view version value why
  idle_of_fits party why by (inl is) = rw is.1 (submit_of_fits [] refl (by ∙ ap party_of is.0))
  idle_of_fits party why by (inr is) = rw is.1 (claim_of_fits 0 (by ∙ ap party_of is.0))

-- ---- the put of another party over a store in memory

module _ (old acting : StoreParts) (line : ℕ) (other : own.Party) (acts : acting ≡ record old { line = line; party = other }) (lent last : ℕ) where
  abbrev other_log : StoreParts
  other_log = record old { line = line; party = other }

  abbrev other_view : StoreView
  other_view = view_of append lent other_log

  module _ (m : VersionedManifest) (value : Manifest) (steps : List Step) (is : IsManifest m old.world.store) (copy : value ≡ m.manifest) (none : steps ≡ []) where
    fits : ManifestPutFits other_view m.id value (change.Commit steps) []
    fits = put_of_fits other_view m value steps is copy none

    pub manifest_fits_world : ManifestPutFits (view_of append lent acting) m.id value (change.Commit steps) []
    manifest_fits_world = subst (λ (l : StoreParts). ManifestPutFits (view_of append lent l) m.id value (change.Commit steps) []) (sym acts) fits

    pub manifest_came : (own : own.Party) (new : StoreParts) (result : Result ℕ SlateDBError) → party_of other ≢ party_of own → PutsManifest (view_of append lent acting) (view_of append last new) m.id value (change.Commit steps) [] result
        → Rivals (shared_caller append line own) old.world new.world
    manifest_came own new result differs made =
        came (shared_caller append line own) other_view (view_of append last new) (manifest_put m.id value (change.Commit steps) []) _ _ result refl refl
        differs (fits.lawful old.world (none_came other_view.who old.world)) refl
        (subst (λ (l : StoreParts). PutsManifest (view_of append lent l) (view_of append last new) m.id value (change.Commit steps) [] result) acts made)

  module _ (version : ℕ) (value : Compactions) (why : record_own.RecordChange) (fit : RecordsPutFit other_view version value why) where
    pub records_fit_world : RecordsPutFit (view_of append lent acting) version value why
    records_fit_world = subst (λ (l : StoreParts). RecordsPutFit (view_of append lent l) version value why) (sym acts) fit

    pub records_came : (own : own.Party) (new : StoreParts) (result : Result ℕ SlateDBError) → party_of other ≢ party_of own → PutsRecords (view_of append lent acting) (view_of append last new) version value why result
        → Rivals (shared_caller append line own) old.world new.world
    records_came own new result differs made =
        came (shared_caller append line own) other_view (view_of append last new) (λ met. records_put version value why) _ _ result refl refl
        differs (fit.lawful old.world (none_came other_view.who old.world)) refl
        (subst (λ (l : StoreParts). PutsRecords (view_of append lent l) (view_of append last new) version value why result) acts made).called

-- ---- records that keep their version stay whole

pub still_whole : {A : Type 0} (old acting new : StoreParts) (line : ℕ) (other : own.Party) (acts : acting ≡ record old { line = line; party = other }) (lent last : ℕ) (x : Store → Exchange) (Gives : Store → A → Type 0) (Refuses : Store → ℕ → Type 0) (result : Result A SlateDBError)
    → Called (view_of append lent acting) (view_of append last new) x Gives Refuses result → StayWhole old new
still_whole old acting new line other acts lent last x Gives Refuses result made =
    (subst (λ (l : StoreParts). Called (view_of append lent l) (view_of append last new) x Gives Refuses result) acts made).whole
