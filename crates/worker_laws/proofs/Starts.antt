-- What an attempt has after the get of the manifest that follows its claim.
use Rattle.std.proofs.Common.{◌≡◌, refl, sym, ◌∙◌, ap, subst, ℕ, ◌+◌, ℤ, pos, negsuc, List, [], ◌∷◌, ◌++◌, true, false, Some, None, arith}
use Rattle.std.specs.Prelude.{IsTrue, int_le, map, option_map}
use Rattle.std.proofs.lemmas.Bool.{le-leb}
use Rattle.std.proofs.lemmas.List.{append-nil}
use Rattle.row_model.specs.Ranges.{Range}
use Rattle.row_model.specs.Written.Plan.{planned_ranges}
use Rattle.fleet_laws.proofs.Cuts.{cuts_are_low}
use Rattle.fleet_model.specs.Nodes.{table_rows}
use Rattle.fleet_model.specs.Jobs.{JobSpec, Job, Context, Release, One, Two, knows_cut, job_with}
use Rattle.fleet_model.specs.History.{Party, Worker, Event, GetManifest, Entry, stood}
use Rattle.fleet_model.specs.Store.{Store, stored_jobs, fresh_store, AreHeld}
use Rattle.fleet_model.specs.Past.Replay.{Objects, replayed_objects, plain_objects, plain_manifest}
use Rattle.fleet_model.specs.Work.Attempts.{ClaimInput, claim_cut, claim_settings, fresh_context}
use Rattle.fleet_model.specs.Work.Parties.{Attempt, LiveWorker}
use Rattle.fleet_model.specs.Past.Claimed.{is_worker, settings_of, without_cut}
use Rattle.fleet_model.proofs.ClaimCuts.{objects_got}
use Rattle.fleet_model.specs.Invariants.JobsFit.{SettingsFit}
use Rattle.fleet_model.specs.Exchanges.{Plain, answer_of}
use Rattle.step_model.specs.Past.{World}
use Rattle.step_model.specs.Kept.Faithful.{Faithful}
use Rattle.step_model.specs.Rivals.{Caller, after_call}
use Rattle.step_model.specs.Kept.Keeps.{Keeps}
use Rattle.step_laws.proofs.Elements.{all_at, all_from, is_itself}
use Rattle.step_laws.proofs.Alike.{replays_alike}
use Rattle.step_laws.proofs.Bodies.{whole_of}
use Rattle.step_laws.proofs.Changed.{job_found}
use Rattle.step_laws.proofs.Mute.{IsMute, mute_event}
use Rattle.step_laws.proofs.MuteBodies.{entered}
use Rattle.step_laws.proofs.Quiet.{world_entered}
use Rattle.rival_laws.proofs.WorkerFollows.{Follows}
use Rattle.rival_laws.proofs.WorkerCalls.{follows_entry}
use Rattle.course_laws.proofs.Calls.{all_map}
use Rattle.worker_laws.proofs.Sources.{last_is_oldest}
use Rattle.worker_laws.proofs.Begun.{single, Waits, waits_follow, Begun, IsFresh, fresh_noted}
use Rattle.worker_laws.proofs.Taken.{attempt_with, taken_by, blank}
use Rattle.worker_laws.proofs.Awaits.{AwaitsGet, next_get}

-- ---- own gets and notes

-- The entry of the worker's own get or note.
abbrev pub plain_entry : ℕ → Party → Event → World → Entry
plain_entry line party event world = record { line = line; party = party; event = event; answer = answer_of (Plain event) world.store }

-- The world after the worker's own get or note.
abbrev pub plain_world : ℕ → Party → Event → World → World
plain_world line party event world = entered world world.store.deleted world.store.jobs_drawn world.store.tables_drawn (plain_entry line party event world)

-- What a get or a note leaves.
pub follow_plain : (P : World → Type 0) (line : ℕ) (party : Party) (event : Event) (world : World) (w : LiveWorker) → IsMute (stood (answer_of (Plain event) world.store)) event
    → (Follows world (plain_world line party event world) w → P (plain_world line party event world)) → P (after_call line party (Plain event) None world)
follow_plain P line party event world w mute f =
    subst P (sym (world_entered world world.store.deleted world.store.jobs_drawn world.store.tables_drawn (plain_entry line party event world)))
    (f (follows_entry world w world.store.deleted world.store.jobs_drawn world.store.tables_drawn (plain_entry line party event world) mute (λ a there held. held)))

-- ---- the context of a fresh claim

firsts_back : (ranges : List Range) → map (λ (range : Range × List ℕ). range.0) (map (λ range. (range, [])) ranges) ≡ ranges
firsts_back [] = refl
firsts_back (range ∷ ranges) = ap (λ rs. range ∷ rs) (firsts_back ranges)

-- A fresh context notes no table, and its cut is as the release asks.
pub fresh_is : (w : LiveWorker) (input : ClaimInput) (job : Job) → input.release ≡ w.release → IsFresh w (attempt_with job (fresh_context input job))
fresh_is w input job same = record {
  cut = ap knows_cut same;
  cut_fits = by input.release;
  none = all_map (λ (range : Range × List ℕ). range.1 ≡ []) (λ (range : Range). (range, [])) (planned_ranges input.most (map (table_rows input.tables) job.source_tables)) (all_from _ (planned_ranges input.most (map (table_rows input.tables) job.source_tables)) (λ range there. refl));
}
  where
    by : (release : Release) → knows_cut release ≡ false → claim_cut release input.manifest input.moment input.retention ≡ input.manifest.floor
    by One e = refl
    by Two e = absurd (cc e)

int_itself : (n : ℤ) → IsTrue (int_le n n)
int_itself (pos n) = le-leb n n (omega arith)
int_itself (negsuc n) = le-leb n n (omega arith)

-- ---- the get

-- The attempt waits with any context that notes no table.
waits_with : (world : World) (w : LiveWorker) (job taken : Job) (context : Context) → IsFresh w (attempt_with job context) → Waits world w (attempt_with job blank) taken → Waits world w (attempt_with job context) taken
waits_with world w job taken context fresh h = record {
  held = record { counted = h.held.counted; claimed = h.held.claimed; ordered = h.held.ordered; sources = h.held.sources };
  origin = h.origin;
  tables = subst (λ ids. AreHeld world.store (job.source_tables ++ ids)) (sym (fresh_noted w (attempt_with job context) fresh)) h.tables;
  spec = h.spec;
  runs = h.runs;
}

-- The input of a claim that gets the manifest of this store.
pub record IsInput (w : LiveWorker) (store : Store) (input : ClaimInput) : Type 0 where
  pub release : input.release ≡ w.release
  pub manifest : input.manifest ≡ store.manifest
  pub tables : input.tables ≡ store.tables

-- After its get of the manifest, the attempt has the settings of its claim.
pub begins_at_get : (who : Caller) (w : LiveWorker) (input : ClaimInput) (moment : ℕ) (met : World) (job : Job) → Keeps who.merge met → who.party ≡ Worker w.number → IsInput w met.store input → Waits met w (attempt_with job blank) (taken_by w moment job)
    → AwaitsGet w.number job.id (job.attempt + 1) met.store.history
    → Begun (after_call who.line who.party (Plain GetManifest) None met) w (attempt_with job (fresh_context input job)) (taken_by w moment job)
begins_at_get who w input moment met job k own is h awaits =
    follow_plain (λ world. Begun world w a taken) who.line who.party GetManifest met (single w a) (mute_event true GetManifest refl) begun
  where
    a : Attempt
    a = attempt_with job (fresh_context input job)

    taken : Job
    taken = taken_by w moment job

    now : World
    now = plain_world who.line who.party GetManifest met

    begun : Follows met now (single w a) → Begun now w a taken
    begun f = record {
      waits = waits;
      settings = settings;
      fit = λ other e runs. subst (λ (j : Job). SettingsFit met.store.manifest j.spec a.context.settings) (sym (waits.runs other e runs)) (fits (e ∙ ap Some (waits.runs other e runs)));
      plan = (input.most, firsts_back (planned_ranges input.most (map (table_rows input.tables) job.source_tables)) ∙ ap (λ tables. planned_ranges input.most (map (table_rows tables) job.source_tables)) is.tables);
    }
      where
        waits : Waits now w a taken
        waits = waits_follow met now w a taken f (waits_with met w job taken (fresh_context input job) (fresh_is w input job is.release) h)

        same_settings : (spec : JobSpec) → spec ≡ job.spec → claim_settings (plain_manifest met.store.manifest) 0 spec ≡ without_cut a.context.settings
        same_settings spec e = ap (claim_settings (plain_manifest met.store.manifest) 0) e ∙ ap (λ m. without_cut (claim_settings m (claim_cut input.release m input.moment input.retention) job.spec)) (sym is.manifest)

        settings : (specs : ℕ → JobSpec) → Faithful now specs → settings_of met.store.tables specs now.store.history job.id (job.attempt + 1) ≡ Some (without_cut a.context.settings)
        settings specs faithful =
            let before = f.faithful specs faithful in
            let objects : replayed_objects met.store.tables specs met.store.history (plain_objects fresh_store) ≡ plain_objects met.store =
            replays_alike met specs k.stored.replay.specs before k.faithful met.store.history [] (append-nil met.store.history) ∙ sym k.stored.replay.objects in
            let claimed = next_get met.store.tables specs w.number job.id (job.attempt + 1) who.line met.store.manifest.version who.party met.store.history (plain_objects fresh_store) awaits (subst (λ p. is_worker w.number p ≡ true) (sym own) (is_itself w.number)) in
            ap (λ n. option_map (λ (o : Objects). claim_settings o.manifest 0 (specs job.id)) (objects_got met.store.tables specs job.id n now.store.history (plain_objects fresh_store))) waits.origin
            ∙ ap (option_map (λ (o : Objects). claim_settings o.manifest 0 (specs job.id))) (claimed ∙ ap Some objects)
            ∙ ap Some (same_settings (specs job.id) (waits.spec specs faithful))

        fits : job_with job.id (stored_jobs met.store) ≡ Some taken → SettingsFit met.store.manifest job.spec a.context.settings
        fits e =
            let kept = all_at _ (stored_jobs met.store) taken (whole_of who.merge met k).body.jobs (job_found job.id (stored_jobs met.store) taken e).there in
            let stands = kept.fits.sources.0 refl in
            subst (λ m. SettingsFit met.store.manifest job.spec (claim_settings m (claim_cut input.release m input.moment input.retention) job.spec)) (sym is.manifest) (record {
              floor = omega arith;
              cut = (cuts_are_low met.store.manifest input.moment input.retention).floor input.release;
              tick = int_itself met.store.manifest.tick;
              last_run = λ last. last_is_oldest who.merge met k.stored.replay.specs taken (whole_of who.merge met k).body stands last;
            })
