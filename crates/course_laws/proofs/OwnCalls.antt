-- Calls of others, and a worker's own calls that change nothing, leave what it holds.
use Rattle.std.proofs.Common.{◌≡◌, refl, sym, subst, ℕ, ◌+◌, [], ◌∷◌, cond, Bool, true, false, inl, inr, Some, None}
use Rattle.std.specs.Prelude.{◌==◌, ◌&&◌}
use Rattle.row_model.specs.Fold.{Operator}
use Rattle.fleet_model.specs.Jobs.{JobSpec, Job, Jobs, Context, job_with}
use Rattle.fleet_model.specs.History.{Party, Worker, GetRecords, GetTable, PutRecords, RecordChange, Done, Conflict, Entry, stood}
use Rattle.fleet_model.specs.Store.{stored_jobs}
use Rattle.fleet_model.specs.Work.Parties.{LiveWorker, live_attempts}
use Rattle.fleet_model.specs.Invariants.AttemptsFit.{ContextFits, WorkerFits}
use Rattle.fleet_model.specs.Exchanges.{Plain, PutsRecords, records_version, with_entry, answer_of}
use Rattle.step_model.specs.Past.{World, world_after}
use Rattle.step_model.specs.Entries.{is_claim_of, is_put_of, party_eq}
use Rattle.step_model.specs.LawfulTables.{MayUse}
use Rattle.step_model.specs.Fits.{noted_tables, WorkerHolds}
use Rattle.step_model.specs.Rivals.{Caller, Rivals, after_call}
use Rattle.step_model.specs.Kept.Keeps.{Keeps}
use Rattle.step_laws.specs.Runs.{CallsKeep}
use Rattle.step_laws.proofs.Elements.{all_to, any_front}
use Rattle.step_laws.proofs.Mute.{IsQuiet, quiet_for, mute_event, mute_refused}
use Rattle.step_laws.proofs.MuteBodies.{entered, faithful_before, claimed_quiet, if_some_to}
use Rattle.step_laws.proofs.Grown.{drawn_table_grows}
use Rattle.step_laws.proofs.Quiet.{world_entered}
use Rattle.rival_laws.proofs.Workers as fits

-- Calls of others keep what the worker holds.
abbrev pub RivalsKeepWorker : Caller → LiveWorker → Type 0
RivalsKeepWorker who w = (old new : World) → Keeps who.merge old → Rivals who old new → WorkerHolds who.merge old w → WorkerHolds who.merge new w

pub rivals_keep_worker : (who : Caller) (w : LiveWorker) → CallsKeep who.merge → who.party ≡ Worker w.number → RivalsKeepWorker who w
rivals_keep_worker who w keep by old new kept rivals holds = fits.rivals_keep who old new w keep by kept rivals holds

may_use : (party : Party) (world : World) (jobs_drawn tables_drawn : ℕ) (entry : Entry) (job : Job) (table : ℕ) → MayUse party world job table → MayUse party (entered world world.store.deleted jobs_drawn tables_drawn entry) job table
may_use party world jobs_drawn tables_drawn entry job table (inl named) = inl named
may_use party world jobs_drawn tables_drawn entry job table (inr own) = inr (record {
  drawn = drawn_table_grows world.store.history entry table own.drawn;
  put = any_front (λ (e : Entry). party_eq party e.party && is_put_of table e.event && stood e.answer) world.store.history (entry ∷ []) own.put;
  unused = own.unused;
  unnamed = own.unnamed;
})

-- What a worker holds stays after an entry that says nothing of jobs.
pub holds_entered : (merge : Operator) (world : World) (w : LiveWorker) (jobs_drawn tables_drawn : ℕ) (entry : Entry) → IsQuiet (stood entry.answer) entry.event → WorkerHolds merge world w
    → WorkerHolds merge (entered world world.store.deleted jobs_drawn tables_drawn entry) w
holds_entered merge world w jobs_drawn tables_drawn entry quiet h = record {
  fits = λ specs faithful. fits specs (h.fits specs (faithful_before world specs world.store.deleted jobs_drawn tables_drawn entry faithful));
  each = all_to _ _ w.attempts (λ a there held. record {
    counted = held.counted;
    claimed = any_front (λ (e : Entry). is_claim_of w.number a.job a.number e.event && stood e.answer) world.store.history (entry ∷ []) held.claimed;
    ordered = held.ordered;
    sources = held.sources;
  }) h.each;
  jobs_rise = h.jobs_rise;
  own = all_to _ _ (live_attempts (stored_jobs world.store) w) (λ a there own. if_some_to _ _ (job_with a.job (stored_jobs world.store))
      (λ job all. all_to _ _ (noted_tables a) (λ table one may. may_use (Worker w.number) world jobs_drawn tables_drawn entry job table may) all) own) h.own;
  apart = h.apart;
}
  where
    context_fits : (specs : ℕ → JobSpec) (job : Job) (c : Context) → ContextFits merge world.store specs job c → ContextFits merge (entered world world.store.deleted jobs_drawn tables_drawn entry).store specs job c
    context_fits specs job c fits = record {
      claimed = claimed_quiet world.store specs world.store.deleted jobs_drawn tables_drawn entry job.id job.attempt c (quiet_for _ _ job.id quiet) fits.claimed;
      settings = fits.settings;
      cut = fits.cut;
      ranges = fits.ranges;
      tables = fits.tables;
    }

    fits : (specs : ℕ → JobSpec) → WorkerFits merge world.store specs w → WorkerFits merge (entered world world.store.deleted jobs_drawn tables_drawn entry).store specs w
    fits specs f = record {
      cuts = f.cuts;
      each = all_to _ _ w.attempts (λ a there stands. record {
        claimed = claimed_quiet world.store specs world.store.deleted jobs_drawn tables_drawn entry a.job a.number a.context (quiet_for _ _ a.job quiet) stands.claimed;
        held = stands.held;
        tables = stands.tables;
      }) f.each;
      live = all_to _ _ (live_attempts (stored_jobs world.store) w) (λ a there live. if_some_to _ _ (job_with a.job (stored_jobs world.store))
          (λ job one. record { sources = one.sources; context = context_fits specs job a.context one.context; published = one.published }) live) f.live;
    }

-- A get leaves what a worker holds.
pub holds_got : (merge : Operator) (line : ℕ) (party : Party) (world : World) (w : LiveWorker) → WorkerHolds merge world w → WorkerHolds merge (after_call line party (Plain GetRecords) None world) w
holds_got merge line party world w h =
    let entry : Entry = record { line = line; party = party; event = GetRecords; answer = answer_of (Plain GetRecords) world.store } in
    subst (λ (t : World). WorkerHolds merge t w) (sym (world_entered world world.store.deleted world.store.jobs_drawn world.store.tables_drawn entry))
    (holds_entered merge world w world.store.jobs_drawn world.store.tables_drawn entry (mute_event (stood entry.answer) GetRecords refl).quiet h)

pub holds_table : (merge : Operator) (line : ℕ) (party : Party) (table : ℕ) (world : World) (w : LiveWorker) → WorkerHolds merge world w → WorkerHolds merge (after_call line party (Plain (GetTable table)) None world) w
holds_table merge line party table world w h =
    let entry : Entry = record { line = line; party = party; event = GetTable table; answer = answer_of (Plain (GetTable table)) world.store } in
    subst (λ (t : World). WorkerHolds merge t w) (sym (world_entered world world.store.deleted world.store.jobs_drawn world.store.tables_drawn entry))
    (holds_entered merge world w world.store.jobs_drawn world.store.tables_drawn entry (mute_event (stood entry.answer) (GetTable table) refl).quiet h)

-- A refused put of the records leaves what a worker holds.
pub holds_refused : (merge : Operator) (line : ℕ) (party : Party) (world : World) (w : LiveWorker) (version : ℕ) (change : RecordChange) (epoch : ℕ) (jobs : Jobs) → (version == records_version world.store.records) ≡ false
    → WorkerHolds merge world w → WorkerHolds merge (after_call line party (PutsRecords version change epoch jobs) None world) w
holds_refused merge line party world w version change epoch jobs other h = by (version == records_version world.store.records) other
  where
    by : (b : Bool) → b ≡ false
        → WorkerHolds merge (world_after world (with_entry line party (PutRecords change) (cond b (Done (records_version world.store.records + 1)) (Conflict (records_version world.store.records))) (cond b (record world.store { records = Some (record { version = version + 1; epoch = epoch; jobs = jobs }) }) world.store))) w
    by true e = absurd (cc e)
    by false e =
        let entry : Entry = record { line = line; party = party; event = PutRecords change; answer = Conflict (records_version world.store.records) } in
        subst (λ (t : World). WorkerHolds merge t w) (sym (world_entered world world.store.deleted world.store.jobs_drawn world.store.tables_drawn entry))
        (holds_entered merge world w world.store.jobs_drawn world.store.tables_drawn entry (mute_refused (PutRecords change)).quiet h)
