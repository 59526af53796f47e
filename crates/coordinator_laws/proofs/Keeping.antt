-- What a coordinator may hold in the midst of a poll: trees that merge into the stored ones, and the jobs that it held before.
use Rattle.std.proofs.Common.{◌≡◌, refl, sym, ◌∙◌, ap, subst, ℕ, ◌+◌, ◌<◌, ◌≤◌, cond, Bool, true, false, Option, Some, None, arith}
use Rattle.std.specs.Prelude.{IsTrue, ◌==◌, is_some}
use Rattle.std.specs.List.{AllByRecursion}
use Rattle.row_model.specs.Lists.{Pairs}
use Rattle.row_model.specs.Fold.{Operator}
use Rattle.fleet_model.specs.Nodes.{Trees, segment_at}
use Rattle.fleet_model.specs.Jobs.{Jobs}
use Rattle.fleet_model.specs.History.{Party, Coordinator, PutManifest, ManifestChange, Conflict, Done, Entry}
use Rattle.fleet_model.specs.Store.{Manifest, stored_jobs, records_epoch}
use Rattle.fleet_model.specs.Work.Parties.{LiveCoordinator}
use Rattle.fleet_model.specs.Exchanges.{PutsManifest, with_entry}
use Rattle.step_model.specs.Past.{World, world_after}
use Rattle.step_model.specs.Steps.Merging.{Local, taken_job, merged_trees}
use Rattle.step_model.specs.Fits.{CoordinatorHolds, MergesIfThere, KnownIfThere, JobsMerge, IsStillStored}
use Rattle.step_model.specs.Rivals.{Caller, Rivals, after_call}
use Rattle.step_model.specs.Kept.Keeps.{Keeps}
use Rattle.step_laws.specs.Runs.{CallsKeep}
use Rattle.step_laws.proofs.Elements.{all_from, all_to}
use Rattle.step_laws.proofs.Changed.{found_job}
use Rattle.step_laws.proofs.Grown.{named_grows}
use Rattle.step_laws.proofs.ManifestBodies.{with_manifest}
use Rattle.step_laws.proofs.MuteBodies.{entered}
use Rattle.step_laws.proofs.Quiet.{world_entered}
use Rattle.rival_laws.proofs.Coordinators.{put_grows, rivals_keep}
use Rattle.coordinator_laws.proofs.Quiet.{HasEpoch}
use Rattle.coordinator_laws.proofs.Since.{Noted}
use Rattle.coordinator_laws.proofs.OwnTrees.{stored_merge, stored_prefixes}
use Rattle.coordinator_laws.proofs.HeldJobs.{itself}

-- ---- an entry alone

-- A coordinator that fits still fits after an entry alone, which leaves both objects.
holds_entered : (world : World) (c : LiveCoordinator) (local : Option Local) (jobs_drawn tables_drawn : ℕ) (entry : Entry) → CoordinatorHolds world c local → CoordinatorHolds (entered world world.store.deleted jobs_drawn tables_drawn entry) c local
holds_entered world c local jobs_drawn tables_drawn entry h = record {
  counted = h.counted;
  put = put_grows (Coordinator c.number) world.store.history entry c.epoch h.put;
  recorded = h.recorded;
  merges = λ manifest records. merges local (h.merges manifest records);
  known = λ manifest records. known local (h.known manifest records);
}
  where
    new : World
    new = entered world world.store.deleted jobs_drawn tables_drawn entry

    merges : (o : Option Local) → MergesIfThere o world.store → MergesIfThere o new.store
    merges None m = tt
    merges (Some l) m = record { trees = m.trees; jobs = record { stored_stay = m.jobs.stored_stay; local_stay = m.jobs.local_stay } }

    known : (o : Option Local) → KnownIfThere world o → KnownIfThere new o
    known None m = tt
    known (Some l) m = record { segments = m.segments; jobs = all_to _ _ l.records.jobs (λ job there named. named_grows world.store.history entry job.id named) m.jobs }

-- ---- what is stored

-- The stored trees and jobs.
abbrev stored_local : World → Local
stored_local world = record { manifest = world.store.manifest; records = record { version = 0; epoch = 0; jobs = stored_jobs world.store } }

merge_itself : (jobs : Jobs) → Pairs (λ a b. a.id < b.id) jobs → JobsMerge jobs jobs
merge_itself jobs rise = record {
  stored_stay = all_from _ jobs (λ job there. ap (λ o. taken_job o job) (found_job jobs job rise there) ∙ itself job);
  local_stay = all_from _ jobs (λ job there. subst (IsStillStored jobs job) (sym (found_job jobs job rise there)) tt);
}

-- A coordinator may hold what is stored.
holds_stored : (merge : Operator) (world : World) (c : LiveCoordinator) → Keeps merge world → 0 < c.epoch → HasEpoch (Coordinator c.number) c.epoch world → CoordinatorHolds world c (Some (stored_local world))
holds_stored merge world c k counted own = record {
  counted = counted;
  put = own.put;
  recorded = own.recorded;
  merges = λ manifest records. record { trees = stored_merge merge world k; jobs = merge_itself (stored_jobs world.store) k.stored.sound.job_ids };
  known = λ manifest records. record { segments = stored_prefixes merge world k; jobs = k.facts.names.named };
}

-- ---- what a coordinator held before

-- The local state with this manifest, if there is one.
abbrev pub with_manifest_of : Manifest → Option Local → Option Local
with_manifest_of manifest None = None
with_manifest_of manifest (Some local) = Some (record { manifest = manifest; records = local.records })

-- The coordinator fits with the jobs that it held before.
pub record Older (c : LiveCoordinator) (before : Option Local) (world : World) : Type 0 where
  pub manifest : Manifest
  pub holds : CoordinatorHolds world c (with_manifest_of manifest before)

pub older_begins : (world : World) (c : LiveCoordinator) (before : Option Local) → CoordinatorHolds world c before → Older c before world
older_begins world c None h = record { manifest = world.store.manifest; holds = h }
older_begins world c (Some local) h = record { manifest = local.manifest; holds = h }

pub older_met : (who : Caller) (old new : World) (c : LiveCoordinator) (before : Option Local) → CallsKeep who.merge → who.party ≡ Coordinator c.number → Keeps who.merge old → Rivals who old new → Older c before old → Older c before new
older_met who old new c before keep by kept rivals o = record { manifest = o.manifest; holds = rivals_keep who old new c (with_manifest_of o.manifest before) keep by kept rivals o.holds }

pub older_noted : (who : Caller) (world new : World) (c : LiveCoordinator) (before : Option Local) → Noted who world new → Older c before world → Older c before new
older_noted who world new c before n o =
    subst (Older c before) (sym n.is) (record { manifest = o.manifest; holds = holds_entered world c (with_manifest_of o.manifest before) n.jobs_drawn n.tables_drawn n.entry o.holds })

pub older_entered : (world : World) (c : LiveCoordinator) (before : Option Local) (entry : Entry) → Older c before world → Older c before (entered world world.store.deleted world.store.jobs_drawn world.store.tables_drawn entry)
older_entered world c before entry o = record { manifest = o.manifest; holds = holds_entered world c (with_manifest_of o.manifest before) world.store.jobs_drawn world.store.tables_drawn entry o.holds }

-- A put of the manifest that is refused leaves its entry alone.
refused_manifest : (line : ℕ) (party : Party) (world : World) (version : ℕ) (change : ManifestChange) (value : Manifest) → (version == world.store.manifest.version) ≡ false
    → after_call line party (PutsManifest version change value) None world
    ≡ entered world world.store.deleted world.store.jobs_drawn world.store.tables_drawn (record { line = line; party = party; event = PutManifest change; answer = Conflict world.store.manifest.version })
refused_manifest line party world version change value other = by (version == world.store.manifest.version) other
  where
    by : (b : Bool) → b ≡ false
        → world_after world (with_entry line party (PutManifest change) (cond b (Done (world.store.manifest.version + 1)) (Conflict world.store.manifest.version)) (cond b (record world.store { manifest = record value { version = version + 1 } }) world.store))
        ≡ entered world world.store.deleted world.store.jobs_drawn world.store.tables_drawn (record { line = line; party = party; event = PutManifest change; answer = Conflict world.store.manifest.version })
    by true e = absurd (cc e)
    by false e = world_entered world world.store.deleted world.store.jobs_drawn world.store.tables_drawn (record { line = line; party = party; event = PutManifest change; answer = Conflict world.store.manifest.version })

pub older_refused : (line : ℕ) (party : Party) (world : World) (c : LiveCoordinator) (before : Option Local) (version : ℕ) (change : ManifestChange) (value : Manifest) → (version == world.store.manifest.version) ≡ false
    → Older c before world → Older c before (after_call line party (PutsManifest version change value) None world)
older_refused line party world c before version change value other o = subst (Older c before) (sym (refused_manifest line party world version change value other)) (older_entered world c before _ o)

-- A new manifest whose trees merge with themselves leaves the jobs that were held before.
older_committed : (world : World) (c : LiveCoordinator) (before : Option Local) (manifest : Manifest) (entry : Entry) → world.store.manifest.epoch ≤ manifest.epoch → merged_trees manifest.trees manifest.trees ≡ manifest.trees
    → AllByRecursion (λ s. IsTrue (is_some (segment_at s.prefix manifest.trees))) manifest.trees → Older c before world → Older c before (with_manifest world manifest entry)
older_committed world c before manifest entry rises merged prefixes o = record {
  manifest = manifest;
  holds = record {
    counted = o.holds.counted;
    put = put_grows (Coordinator c.number) world.store.history entry c.epoch o.holds.put;
    recorded = o.holds.recorded;
    merges = λ low records. merges before (o.holds.merges (omega (arith, rises, low)) records);
    known = λ low records. known before (o.holds.known (omega (arith, rises, low)) records);
  };
}
  where
    merges : (b : Option Local) → MergesIfThere (with_manifest_of o.manifest b) world.store → MergesIfThere (with_manifest_of manifest b) (with_manifest world manifest entry).store
    merges None m = tt
    merges (Some l) m = record { trees = merged; jobs = record { stored_stay = m.jobs.stored_stay; local_stay = m.jobs.local_stay } }

    known : (b : Option Local) → KnownIfThere world (with_manifest_of o.manifest b) → KnownIfThere (with_manifest world manifest entry) (with_manifest_of manifest b)
    known None m = tt
    known (Some l) m = record { segments = prefixes; jobs = all_to _ _ l.records.jobs (λ job there named. named_grows world.store.history entry job.id named) m.jobs }

-- ---- the trees of a poll

-- The coordinator fits with these trees, and with the jobs that it held before.
pub record Keeping (c : LiveCoordinator) (before : Option Local) (trees : Trees) (world : World) : Type 0 where
  pub local : Local
  pub is : local.manifest.trees ≡ trees
  pub holds : CoordinatorHolds world c (Some local)
  pub older : Older c before world

pub keeping_stored : (merge : Operator) (world : World) (c : LiveCoordinator) (before : Option Local) → Keeps merge world → 0 < c.epoch → HasEpoch (Coordinator c.number) c.epoch world → Older c before world → Keeping c before world.store.manifest.trees world
keeping_stored merge world c before k counted own o = record { local = stored_local world; is = refl; holds = holds_stored merge world c k counted own; older = o }

pub keeping_met : (who : Caller) (old new : World) (c : LiveCoordinator) (before : Option Local) (trees : Trees) → CallsKeep who.merge → who.party ≡ Coordinator c.number → Keeps who.merge old → Rivals who old new → Keeping c before trees old → Keeping c before trees new
keeping_met who old new c before trees keep by kept rivals k = record {
  local = k.local;
  is = k.is;
  holds = rivals_keep who old new c (Some k.local) keep by kept rivals k.holds;
  older = older_met who old new c before keep by kept rivals k.older;
}

pub keeping_noted : (who : Caller) (world new : World) (c : LiveCoordinator) (before : Option Local) (trees : Trees) → Noted who world new → Keeping c before trees world → Keeping c before trees new
keeping_noted who world new c before trees n k = record {
  local = k.local;
  is = k.is;
  holds = subst (λ t. CoordinatorHolds t c (Some k.local)) (sym n.is) (holds_entered world c (Some k.local) n.jobs_drawn n.tables_drawn n.entry k.holds);
  older = older_noted who world new c before n k.older;
}

pub keeping_entered : (world : World) (c : LiveCoordinator) (before : Option Local) (trees : Trees) (entry : Entry) → Keeping c before trees world → Keeping c before trees (entered world world.store.deleted world.store.jobs_drawn world.store.tables_drawn entry)
keeping_entered world c before trees entry k = record {
  local = k.local;
  is = k.is;
  holds = holds_entered world c (Some k.local) world.store.jobs_drawn world.store.tables_drawn entry k.holds;
  older = older_entered world c before entry k.older;
}

-- Other trees that are the same, as long as no later epoch is in the records.
pub keeping_same : (world : World) (c : LiveCoordinator) (before : Option Local) (trees new : Trees) → (records_epoch world.store.records ≤ c.epoch → new ≡ trees) → Keeping c before trees world → Keeping c before new world
keeping_same world c before trees new same k = record {
  local = record { manifest = record k.local.manifest { trees = new }; records = k.local.records };
  is = refl;
  holds = record {
    counted = k.holds.counted;
    put = k.holds.put;
    recorded = k.holds.recorded;
    merges = λ manifest records. let m = k.holds.merges manifest records in record { trees = subst (λ ts. merged_trees ts world.store.manifest.trees ≡ world.store.manifest.trees) (k.is ∙ sym (same records)) m.trees; jobs = m.jobs };
    known = λ manifest records. let m = k.holds.known manifest records in record { segments = subst (AllByRecursion (λ s. IsTrue (is_some (segment_at s.prefix world.store.manifest.trees)))) (k.is ∙ sym (same records)) m.segments; jobs = m.jobs };
  };
  older = k.older;
}

-- The trees of a manifest that the coordinator put.
pub keeping_committed : (merge : Operator) (world : World) (c : LiveCoordinator) (before : Option Local) (manifest : Manifest) (entry : Entry) → Keeps merge (with_manifest world manifest entry) → 0 < c.epoch → HasEpoch (Coordinator c.number) c.epoch (with_manifest world manifest entry)
    → world.store.manifest.epoch ≤ manifest.epoch → Older c before world → Keeping c before manifest.trees (with_manifest world manifest entry)
keeping_committed merge world c before manifest entry kept counted own rises o =
    let new = with_manifest world manifest entry in
    keeping_stored merge new c before kept counted own (older_committed world c before manifest entry rises (stored_merge merge new kept) (stored_prefixes merge new kept) o)
