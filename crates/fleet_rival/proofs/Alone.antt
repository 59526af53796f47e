-- Puts into a store that nobody else calls. Only a put of the stored version asks anything of its value.
use Rattle.std.proofs.Common.{◌≡◌, refl, ap, sym, ◌∙◌, subst, ℕ, true, List, [], Some}
use Rattle.fleet_model.specs.Exchanges.{records_version}
use Rattle.fleet_model.specs.History.{Submitter, Commit}
use Rattle.fleet_model.specs.Jobs.{trimmed_jobs}
use Rattle.fleet_model.specs.Store.{Store}
use Rattle.fleet_model.specs.Store as model_store
use Rattle.step_model.specs.LawfulManifests.{ManifestFits}
use Rattle.step_model.specs.Past.{World}
use Rattle.step_model.specs.Rivals.{Rivals}
use Rattle.step_model.specs.Views.{StoreView}
use Rattle.fleet_tree.specs.declared.manifest.Manifest.{Manifest}
use Rattle.fleet_tree.specs.declared.manifest.VersionedManifest.{VersionedManifest}
use Rattle.fleet_jobs.specs.Jobs.{jobs_of}
use Rattle.fleet_jobs.specs.declared.spec.CompactionSpec.{CompactionSpec}
use Rattle.fleet_book.specs.Records.{kept_records}
use Rattle.fleet_book.specs.VersionedRecords.{VersionedRecords}
use Rattle.fleet_book.specs.declared.compactions.Compactions.{Compactions}
use Rattle.fleet_history.specs.declared.manifest_change.ManifestChange.TheVariants as change
use Rattle.fleet_history.specs.declared.manifest_change.Step.{Step}
use Rattle.fleet_history.specs.declared.record_change.RecordChange.TheVariants as record_change
use Rattle.fleet_store.specs.Asks.{ManifestPutFits, MayCall, RecordsPutFit}
use Rattle.fleet_store.specs.Exchanges.{manifest_put}
use Rattle.fleet_store.specs.Manifests.{HasTrees, IsManifest, meant_by}
use Rattle.fleet_store.specs.Records.{AreRecords}
use Rattle.fleet_rival.proofs.Again.{put_again_fits, submit_of_fits}
use Rattle.step_laws.proofs.RanLaws.{only_met}

module _ (view : StoreView) (alone : view.who.alone ≡ true) where
  -- The stored manifest may be put once more, unchanged, over any version.
  pub manifest_of_any : (m : VersionedManifest) (version : ℕ) (value : Manifest) (steps : List Step)
      → IsManifest m view.world.store → value ≡ m.manifest → steps ≡ [] → ManifestPutFits view version value (change.Commit steps) []
  manifest_of_any m version value steps is copy none = rw (copy, none) (record { lawful = lawful; shown = shown })
    where
      at : (met : World) → Rivals view.who view.world met → version ≡ met.store.manifest.version → m.id ≡ version
      at met rivals same =
          ap (λ (b : model_store.Manifest). b.version) is.same ∙ (ap (λ (t : World). t.store.manifest.version) (only_met view.who view.world met alone rivals) ∙ sym same)

      lawful : MayCall view (manifest_put version m.manifest (change.Commit []) [])
      lawful met rivals same =
          let e = at met rivals same in
          subst (λ v. ManifestFits view.who.party met (Commit []) (meant_by [] (Commit []) v m.manifest met.store)) e
          ((put_again_fits view m is).lawful met rivals (e ∙ same))

      shown : (met : World) → Rivals view.who view.world met → version ≡ met.store.manifest.version → HasTrees m.manifest [] (Commit []) met.store
      shown met rivals same = (put_again_fits view m is).shown met rivals (at met rivals same ∙ same)

  -- The stored records may be put once more, over any version, as a submit of no jobs.
  pub submit_of_any : (r : VersionedRecords) (version : ℕ) (copy value : Compactions) (specs : List (ℕ × CompactionSpec))
      → AreRecords (Some r) view.world.store → copy ≡ r.compactions → value ≡ record copy { jobs = kept_records copy.jobs } → jobs_of value.jobs ≡ trimmed_jobs (jobs_of copy.jobs)
      → specs ≡ [] → view.who.party ≡ Submitter → RecordsPutFit view version value (record_change.Submit specs)
  submit_of_any r version copy value specs are copied kept trim none by = record {
    lawful = λ met rivals. (
      ((fits r.id refl).lawful met rivals).0,
      λ same. ((fits version (at met rivals same)).lawful met rivals).1 same,
    );
    shown = λ met rivals same. (fits version (at met rivals same)).shown met rivals same;
  }
    where
      at : (met : World) → Rivals view.who view.world met → version ≡ records_version met.store.records → version ≡ r.id
      at met rivals same = same ∙ sym (ap records_version are.same ∙ ap (λ (t : World). records_version t.store.records) (only_met view.who view.world met alone rivals))

      fits : (v : ℕ) → v ≡ r.id → RecordsPutFit view v value (record_change.Submit specs)
      fits v same = submit_of_fits view r v copy value are same copied kept trim specs none by
