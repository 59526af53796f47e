-- A finish keeps the invariant: the job is Compacted, with outputs that are whole.
use Rattle.std.proofs.Common.{◌≡◌, refl, sym, ◌∙◌, ap, subst, ℕ, List, [], ◌∷◌, ◌++◌, Bool, true, false, inl, inr, ◌⊎◌, Option, Some, None, arith}
use Rattle.std.specs.Prelude.{IsTrue, ◌&&◌, ◌||◌, not}
use Rattle.std.specs.List.{AllByRecursion, concat}
use Rattle.std.proofs.lemmas.List.{append-nil}
use Rattle.row_model.specs.Fold.{Operator}
use Rattle.fleet_model.specs.Nodes.{is_among}
use Rattle.fleet_model.specs.Jobs.{JobSpec, Job, contains, is_active, job_with}
use Rattle.fleet_model.specs.History.{Party, PutRecords, Finish, Entry, stood}
use Rattle.fleet_model.specs.Work.Records.{Unrecorded, finished_by}
use Rattle.fleet_model.specs.Store.{Records, stored_jobs, records_epoch}
use Rattle.fleet_model.specs.Past.Replay.{epoch_after}
use Rattle.fleet_model.specs.Invariants.JobsFit.{SourcesStand, OutputsFit, was_joined}
use Rattle.step_model.specs.Past.{World}
use Rattle.step_model.specs.LawfulTables.{MayUse}
use Rattle.step_model.specs.LawfulRecords.{FinishIsWhole}
use Rattle.step_model.specs.Kept.TablesKept.{is_unjoined}
use Rattle.step_laws.proofs.Elements.{IsIn, all_at, all_from, all_to, all_true_front, contains_in, in_contains}
use Rattle.step_laws.proofs.Mute.{IsQuietFor}
use Rattle.step_laws.proofs.Worlds.{settings_stay}
use Rattle.step_laws.proofs.Grown.{named_grows, joined_grows, source_grows, drawn_table_grows, joined_stays}
use Rattle.step_laws.proofs.Bodies.{Body, JobKept, whole_of}
use Rattle.step_laws.proofs.Held.{are_put}
use Rattle.step_laws.proofs.OpenJobs.{is_open, open_reserves, open_not_late}
use Rattle.step_laws.proofs.TableBodies.{active_if_open}
use Rattle.step_laws.proofs.RecordsBodies.{with_records, faithful_before_records}
use Rattle.step_laws.proofs.RecordsPuts.{StandingPutKeeps}
use Rattle.step_laws.proofs.Changed.{IsWorkerChange, found_job, own_on}
use Rattle.step_laws.proofs.OwnTables.{IsNamedBy, names_stay_apart, named_drawn, named_unused}
use Rattle.step_laws.proofs.WorkerPuts.{Named, stored_as, live_open, live_attempt, stored_named, worker_records, worker_put_keeps}

finish_change : (worker : ℕ) (u : Unrecorded) (outputs : List (List ℕ)) → IsWorkerChange (finished_by worker u outputs)
finish_change worker u outputs = record { ids = λ job. refl; specs = λ job. refl; attempts = λ job. omega arith }

quiet_finish : (took : Bool) (worker id attempt : ℕ) (outputs : List (List ℕ)) (job : ℕ) → IsQuietFor took (PutRecords (Finish worker id attempt outputs)) job
quiet_finish true worker id attempt outputs job = record { beats = refl; beaten = refl; joins = refl }
quiet_finish false worker id attempt outputs job = record { beats = refl; beaten = refl; joins = refl }

kept_epoch : (worker id attempt : ℕ) (outputs : List (List ℕ)) (records : Option Records) → epoch_after (Finish worker id attempt outputs) records ≡ records_epoch records
kept_epoch worker id attempt outputs None = refl
kept_epoch worker id attempt outputs (Some records) = refl

-- What fits the outputs of a job before an entry that says nothing of it fits them after it.
outputs_stay : (merge : Operator) (world : World) (specs : ℕ → JobSpec) (records : Records) (entry : Entry) (job : Job) → IsQuietFor (stood entry.answer) entry.event job.id → OutputsFit merge world.store specs job → OutputsFit merge (with_records world records entry).store specs job
outputs_stay merge world specs records entry job quiet f = record {
  settings = f.settings;
  claimed = settings_stay world.store.tables specs world.store.history entry job.id job.attempt _ quiet.beaten f.claimed;
  cut = f.cut;
  at_most_floor = f.at_most_floor;
  fit = still f.fit;
  rows = f.rows;
}
  where
    still : {A : Type 0} → IsTrue (was_joined world.store.history job.id) ⊎ A → IsTrue (was_joined (world.store.history ++ entry ∷ []) job.id) ⊎ A
    still (inl was) = inl (joined_grows world.store.history entry job.id was)
    still (inr fit) = inr fit

-- The tables of the outputs.
own_tables : (party : Party) (world : World) (outputs : List (List ℕ)) (job : Job) (t : ℕ) → AllByRecursion (MayUse party world job) (concat outputs) → IsIn t (concat outputs) → IsNamedBy party world (λ id. concat outputs) job t
own_tables party world outputs job t own there = by (all_at _ (concat outputs) t own there)
  where
    by : MayUse party world job t → IsNamedBy party world (λ id. concat outputs) job t
    by (inl old) = inl old
    by (inr new) = inr (new, there)

-- What is kept of a job is kept of it as a Compacted job, if a live attempt finishes it with whole outputs.
finished_kept : (merge : Operator) (world : World) (specs : ℕ → JobSpec) (party : Party) (u : Unrecorded) (worker attempt : ℕ) (outputs : List (List ℕ)) (records : Records) (entry : Entry) (job : Job) → Body merge world specs
    → IsQuietFor (stood entry.answer) entry.event job.id → FinishIsWhole merge party world u worker attempt outputs job → JobKept merge world specs job → JobKept merge (with_records world records entry) specs (finished_by worker u outputs job)
finished_kept merge world specs party u worker attempt outputs records entry job b quiet finish kept = record {
  fits = record {
    sources = ((λ waits. absurd (cc waits)), λ compacted. inr (stand (kept.fits.sources.0 was)));
    context = record { there = ((λ some. absurd (cc some)), λ both. absurd (never both.0)); fits = tt };
    outputs = λ compacted. outputs_stay merge world specs records entry (finished_by worker u outputs job) quiet (finish.fits specs b.faithful);
    tables = λ active. record { named = finish.held; sources = (kept.fits.tables (active_if_open job was)).sources };
  };
  facts = record {
    named = named_grows world.store.history entry job.id kept.facts.named;
    unbeaten = λ submitted. absurd (cc submitted);
    unleased = λ waits. absurd (cc waits);
    flushed = λ holds. all_to _ _ job.spec.sources (λ name there old. source_grows world.store.history entry name old) (kept.facts.flushed (open_reserves job.status was));
    drawn = λ active. all_from _ (concat outputs) (λ t there. drawn_table_grows world.store.history entry t
        (named_drawn party world (λ id. concat outputs) job t (kept.facts.drawn (active_if_open job was)) (own_tables party world outputs job t finish.own there)));
    unused = λ unjoined. all_from _ (concat outputs) (λ t there. named_unused party world (λ id. concat outputs) job t (kept.facts.unused (unjoined_before unjoined)) (own_tables party world outputs job t finish.own there));
    late = λ joined. refl;
    stand = λ compacted joined. absurd (open_not_late job.status was (kept.facts.late (subst (λ c. IsTrue c) (joined_stays world.store.history entry job.id quiet.joins) joined)));
  };
  spec = λ others faithful. kept.spec others (faithful_before_records world others records entry faithful);
}
  where
    was : IsTrue (is_open job.status)
    was = live_open worker attempt job finish.live

    never : IsTrue (false || false) → ⊥
    never h = absurd (cc h)

    stand : SourcesStand world.store.manifest.trees job → SourcesStand world.store.manifest.trees (finished_by worker u outputs job)
    stand s = record { some = s.some; stretch = s.stretch; source_tables = s.source_tables; destination = s.destination }

    unjoined_before : IsTrue (is_unjoined (world.store.history ++ entry ∷ []) (finished_by worker u outputs job)) → IsTrue (is_unjoined world.store.history job)
    unjoined_before unjoined = both (is_active job) (not (was_joined world.store.history job.id)) (active_if_open job was) (subst (λ c. IsTrue (not c)) (joined_stays world.store.history entry job.id quiet.joins) unjoined)
      where
        both : (c d : Bool) → IsTrue c → IsTrue d → IsTrue (c && d)
        both true d h k = k
        both false d h k = absurd (cc h)

only : (id other : ℕ) → IsTrue (contains (id ∷ []) other) → id ≡ other
only id other h = by (contains_in (id ∷ []) other h)
  where
    by : (id ≡ other) ⊎ ⊥ → id ≡ other
    by (inl same) = same
    by (inr never) = absurd never

itself : (id : ℕ) → IsTrue (contains (id ∷ []) id)
itself id = in_contains (id ∷ []) id (inl refl)

each_finish : (merge : Operator) (world : World) (specs : ℕ → JobSpec) (party : Party) (u : Unrecorded) (worker id attempt : ℕ) (outputs : List (List ℕ)) → Body merge world specs → Named world (FinishIsWhole merge party world u worker attempt outputs) id
    → (job : Job) → IsIn job (stored_jobs world.store) → IsTrue (contains (id ∷ []) job.id) → FinishIsWhole merge party world u worker attempt outputs job
each_finish merge world specs party u worker id attempt outputs b found job there named =
    subst (FinishIsWhole merge party world u worker attempt outputs) (the_job (sym found.stored ∙ ap (λ n. job_with n (stored_jobs world.store)) (only id job.id named) ∙ found_job (stored_jobs world.store) job b.sound.job_ids there)) found.so
  where
    the_job : Some found.job ≡ Some job → found.job ≡ job
    the_job e = cc e

-- A lawful finish that takes effect keeps the invariant.
pub finishes_keep : (merge : Operator) (worker id attempt : ℕ) (outputs : List (List ℕ)) → StandingPutKeeps merge (Finish worker id attempt outputs)
finishes_keep merge worker id attempt outputs line party answer world epoch jobs took k names fits =
    let entry : Entry = record { line = line; party = party; event = PutRecords (Finish worker id attempt outputs); answer = answer } in
    let b = (whole_of merge world k).body in
    let specs = k.stored.replay.specs in
    let f = finished_by worker fits.unrecorded outputs in
    let found = stored_as world (FinishIsWhole merge party world fits.unrecorded worker attempt outputs) id fits.fits.finishes in
    let finish = each_finish merge world specs party fits.unrecorded worker id attempt outputs b found in
    worker_put_keeps merge world fits.unrecorded f (id ∷ []) (Finish worker id attempt outputs) line party answer epoch jobs took k
    (record { after = refl; unnamed = refl; tables = tt; epoch = kept_epoch worker id attempt outputs world.store.records }) fits.makes_jobs fits.makes_epoch
    (record {
      is = finish_change worker fits.unrecorded outputs;
      holds = λ job there named holds. open_reserves job.status (live_open worker attempt job (finish job there named).live);
      apart = names_stay_apart merge world specs party (λ n. concat outputs) f (id ∷ []) b (record {
        tables = λ job there named t one. own_tables party world outputs job t (finish job there named).own one;
        active = λ job there named. active_if_open job (live_open worker attempt job (finish job there named).live);
        fresh = λ x y one other differs t first second. differs (sym (only id x.id one) ∙ only id y.id other);
      });
      own = (
        let same = live_attempt worker attempt found.job found.so.live in
            own_on world.store.history entry f (id ∷ []) (stored_jobs world.store) found.job (id, attempt) b.sound.job_ids (finish_change worker fits.unrecorded outputs) (stored_named merge world specs b found.job id found.stored) (itself id) found.stored (omega (arith, same)),
        tt,
      );
      once = rw append-nil b.once;
      each = λ job there named kept. finished_kept merge world specs party fits.unrecorded worker attempt outputs (worker_records world f (id ∷ [])) entry job b (quiet_finish (stood answer) worker id attempt outputs job.id) (finish job there named) kept;
      quiet = λ job other. quiet_finish (stood answer) worker id attempt outputs job.id;
      brought = all_true_front (is_among world.store.tables) (concat outputs) (are_put world.store (concat outputs) found.so.held);
    })
