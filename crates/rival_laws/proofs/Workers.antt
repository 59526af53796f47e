-- A lawful call of another party keeps what a worker holds.
use Rattle.std.proofs.Common.{◌≡◌, ◌≢◌, refl, sym, ◌∙◌, subst, ℕ, ◌<◌, List, [], ◌∷◌, ◌++◌, Bool, true, false}
use Rattle.std.specs.List.{AllByRecursion}
use Rattle.row_model.specs.Fold.{Operator}
use Rattle.fleet_model.specs.Jobs.{JobSpec, contains}
use Rattle.fleet_model.specs.History.{Party, Worker, Entry, PutManifest, PutRecords}
use Rattle.fleet_model.specs.Store.{is_held, AreHeld}
use Rattle.fleet_model.specs.Work.Parties.{Attempt, LiveWorker}
use Rattle.fleet_model.specs.Sweeps.{attempt_tables, worker_tables}
use Rattle.fleet_model.specs.Exchanges.{Exchange, Plain, DrawsJob, DrawsTable, PutsTable, PutsManifest, PutsRecords, ListsTables, DeletesTable}
use Rattle.step_model.specs.Past.{World}
use Rattle.step_model.specs.Kept.Faithful.{Faithful}
use Rattle.step_model.specs.Rivals.{Caller, RivalCall, Rivals, RivalsFrom, after_rival, is_deletion}
use Rattle.step_model.specs.Kept.Keeps.{Keeps}
use Rattle.step_model.specs.Fits.{WorkerHolds}
use Rattle.step_laws.specs.Runs.{CallsKeep}
use Rattle.step_laws.proofs.Elements.{IsIn, all_to, all_true_front, all_true_from, in_contains}
use Rattle.step_laws.proofs.Bodies.{whole_of}
use Rattle.step_laws.proofs.Held.{held_but}
use Rattle.step_laws.proofs.Deletions.{in_flat}
use Rattle.step_laws.proofs.TableBodies.{with_table, faithful_with_table}
use Rattle.rival_laws.specs.FitLaws.{SparesTables, WorkersKeep, RivalsKeepWorkers}
use Rattle.rival_laws.proofs.Outcomes.{Outcome, Notes, Deletes, NewTable, NewManifest, NewRecords, outcome, put_manifest, put_records}
use Rattle.rival_laws.proofs.WorkerFollows.{Follows, holds_after}
use Rattle.rival_laws.proofs.WorkerCalls.{follows_entry, follows_table, follows_manifest}
use Rattle.rival_laws.proofs.WorkerManifests.{manifest_spares}
use Rattle.rival_laws.proofs.WorkerRecords.{Case, JobSpares, follows_records, change_spares, origins_stay}

-- ---- a deletion

-- Tables that are held for attempts stay so, if the deleted one is none of them.
still_held : (world : World) (w : LiveWorker) (table : ℕ) → contains (worker_tables w) table ≡ false → (a : Attempt) → IsIn a w.attempts → AreHeld world.store (attempt_tables a) → AreHeld (record world.store { deleted = world.store.deleted ++ table ∷ [] }) (attempt_tables a)
still_held world w table spared a there held = all_true_from (is_held (record world.store { deleted = world.store.deleted ++ table ∷ [] })) (attempt_tables a)
    (all_to _ _ (attempt_tables a) (λ id one it. held_but world.store table id (λ same. refused (contains (worker_tables w) table) spared (in_contains (worker_tables w) table (subst (λ n. IsIn n (worker_tables w)) (sym same) (in_flat attempt_tables w.attempts a id there one)))) it)
    (all_true_front (is_held world.store) (attempt_tables a) held))
  where
    refused : (b : Bool) → b ≡ false → b ≡ true → ⊥
    refused true e f = absurd (cc e)
    refused false e f = absurd (cc f)

-- ---- what a call leaves

-- Every lawful call of another party keeps what each call keeps that leaves the worker's claims, its
-- tables, its live jobs and their settings.
pub follows_outcome : (merge : Operator) (world new : World) (party : Party) (w : LiveWorker) (x : Exchange) (P : World → Type 0) → Keeps merge world → party ≢ Worker w.number → SparesTables w x → AllByRecursion (λ a. 0 < a.number) w.attempts
    → ((old now : World) (specs : ℕ → JobSpec) → Faithful old specs → Follows old now w → P old → P now) → P world → Outcome merge party world x new → P new
follows_outcome merge world new party w x P k other spared counted step h (Notes jobs_drawn tables_drawn entry mute is) =
    subst P (sym is) (step world _ k.stored.replay.specs k.faithful (follows_entry world w world.store.deleted jobs_drawn tables_drawn entry mute (λ a there held. held)) h)
follows_outcome merge world new party w x P k other spared counted step h (Deletes table entry same mute fits is) =
    subst P (sym is)
    (step world _ k.stored.replay.specs k.faithful (follows_entry world w (world.store.deleted ++ table ∷ []) world.store.jobs_drawn world.store.tables_drawn entry mute (still_held world w table (subst (SparesTables w) same spared))) h)
follows_outcome merge world new party w x P k other spared counted step h (NewTable table rows entry mute fits is) =
    let puts = (whole_of merge world k).puts in
    let specs = k.stored.replay.specs in
    let first = step world (with_table world (table, rows)) specs k.faithful (follows_table world w (table, rows) puts) h in
    subst P (sym is)
    (step (with_table world (table, rows)) _ specs (faithful_with_table world (table, rows) specs puts k.faithful)
    (follows_entry (with_table world (table, rows)) w world.store.deleted world.store.jobs_drawn world.store.tables_drawn entry mute (λ a there held. held)) first)
follows_outcome merge world new party w x P k other spared counted step h (NewManifest version change value line answer took same fits is) =
    let entry : Entry = record { line = line; party = party; event = PutManifest change; answer = answer } in
    subst P (sym is)
    (step world _ k.stored.replay.specs k.faithful
    (follows_manifest merge world k.stored.replay.specs w (put_manifest world value) entry (whole_of merge world k).body refl (λ job. rw took refl) (manifest_spares merge world party w.number change value k fits)) h)
follows_outcome merge world new party w x P k other spared counted step h (NewRecords change epoch jobs line answer took names fits is) =
    let entry : Entry = record { line = line; party = party; event = PutRecords change; answer = answer } in
    let specs = k.stored.replay.specs in
    let c : Case merge world specs party w = record { body = (whole_of merge world k).body; puts = (whole_of merge world k).puts; other = other; counted = counted } in
    subst P (sym is)
    (step world _ specs k.faithful
    (follows_records merge world specs w (put_records world epoch jobs) entry (whole_of merge world k).body (record {
      origins = λ a there held. origins_stay merge world specs party w fits.unrecorded change jobs line answer a c fits.fits held;
      jobs = subst (λ js. AllByRecursion (JobSpares world w) js) (sym fits.makes_jobs) (change_spares merge world specs party w fits.unrecorded change jobs c fits.fits);
    })) h)

counted_of : (merge : Operator) (world : World) (w : LiveWorker) → WorkerHolds merge world w → AllByRecursion (λ a. 0 < a.number) w.attempts
counted_of merge world w h = all_to _ _ w.attempts (λ a there held. held.counted) h.each

pub workers_keep : (merge : Operator) → WorkersKeep merge
workers_keep merge x line party strike world w k other lawful may spared h =
    follows_outcome merge world _ party w x (λ t. WorkerHolds merge t w) k other spared (counted_of merge world w h) (λ old now specs faithful follows one. holds_after merge old now w specs faithful follows one) h (outcome merge x line party strike world lawful may)

-- ---- calls of others

spares_tables : (w : LiveWorker) (x : Exchange) → is_deletion x ≡ false → SparesTables w x
spares_tables w (DeletesTable table) none = absurd (cc none)
spares_tables w (Plain event) none = tt
spares_tables w (DrawsJob moment) none = tt
spares_tables w (DrawsTable moment) none = tt
spares_tables w (PutsTable table rows) none = tt
spares_tables w (PutsManifest version change value) none = tt
spares_tables w (PutsRecords version change epoch jobs) none = tt
spares_tables w ListsTables none = tt

follows_from : (who : Caller) (calls : List RivalCall) (old new : World) (w : LiveWorker) (P : World → Type 0) → CallsKeep who.merge → who.party ≡ Worker w.number → AllByRecursion (λ a. 0 < a.number) w.attempts
    → ((old now : World) (specs : ℕ → JobSpec) → Faithful old specs → Follows old now w → P old → P now) → Keeps who.merge old → RivalsFrom who calls old new → P old → P new
follows_from who [] old new w P keep own counted step k same h = subst P same h
follows_from who (call ∷ calls) old new w P keep own counted step k lead h =
    follows_from who calls (after_rival call old) new w P keep own counted step (keep call.exchange call.line call.party call.strike old k lead.0.lawful lead.0.strike) lead.1
    (follows_outcome who.merge old _ call.party w call.exchange P k (λ same. lead.0.other (same ∙ sym own)) (spares_tables w call.exchange lead.0.deletes_none) counted step h
    (outcome who.merge call.exchange call.line call.party call.strike old lead.0.lawful lead.0.strike))

-- Calls of others keep what each call keeps that leaves the worker's claims, its tables, its live jobs
-- and their settings.
pub rivals_follow : (who : Caller) (old new : World) (w : LiveWorker) (P : World → Type 0) → CallsKeep who.merge → who.party ≡ Worker w.number → AllByRecursion (λ a. 0 < a.number) w.attempts
    → ((old now : World) (specs : ℕ → JobSpec) → Faithful old specs → Follows old now w → P old → P now) → Keeps who.merge old → Rivals who old new → P old → P new
rivals_follow who old new w P keep own counted step k rivals h = follows_from who rivals.calls old new w P keep own counted step k rivals.lead h

pub rivals_keep : RivalsKeepWorkers
rivals_keep who old new w keep own k rivals h =
    rivals_follow who old new w (λ t. WorkerHolds who.merge t w) keep own (counted_of who.merge old w h) (λ one now specs faithful follows holds. holds_after who.merge one now w specs faithful follows holds) k rivals h
