-- A put of the records that names new jobs keeps the invariant, if the jobs that it makes do.
use Rattle.std.proofs.Common.{◌≡◌, refl, sym, ◌∙◌, ap, subst, ℕ, ◌+◌, ◌<◌, ◌≤◌, List, [], Bool, true, false, Option, Some, None}
use Rattle.std.specs.Prelude.{IfSome}
use Rattle.std.proofs.lemmas.List.{append-nil}
use Rattle.row_model.specs.Lists.{Pairs}
use Rattle.row_model.specs.Fold.{Operator}
use Rattle.fleet_model.specs.Jobs.{JobSpec, Job, Jobs, trimmed_jobs, job_with}
use Rattle.fleet_model.specs.History.{Party, PutRecords, RecordChange, Submit, Entry, Answer, stood}
use Rattle.fleet_model.specs.Work.Records.{Unrecorded, with_new, after_change, jobs_after}
use Rattle.fleet_model.specs.Trees.{tables_now}
use Rattle.fleet_model.specs.Past.Replay.{epoch_after, named_specs}
use Rattle.fleet_model.specs.Store.{Records, stored_jobs, records_epoch}
use Rattle.fleet_model.specs.Exchanges.{records_version}
use Rattle.fleet_model.specs.Handles.{job_tables}
use Rattle.fleet_model.specs.Invariants.JobsFit.{NodesHeldOnce}
use Rattle.step_model.specs.Past.{World}
use Rattle.step_model.specs.Entries.{attempts_in, attempts_claimed_in, tables_brought_in}
use Rattle.step_model.specs.Kept.Faithful.{with_specs}
use Rattle.step_model.specs.LawfulRecords.{NamesFit}
use Rattle.step_model.specs.Kept.NamesKept.{IsUpTo}
use Rattle.step_model.specs.Kept.TablesKept.{NameApart}
use Rattle.step_model.specs.Kept.Keeps.{Keeps}
use Rattle.step_laws.proofs.Elements.{IsIn, all_from}
use Rattle.step_laws.proofs.Mute.{IsQuietFor}
use Rattle.step_laws.proofs.Grown.{named_grows}
use Rattle.step_laws.proofs.Bodies.{JobKept, whole_of, keeps_of}
use Rattle.step_laws.proofs.TableReplays.{all_trimmed}
use Rattle.step_laws.proofs.Quiet.{draws_mute, puts_kept, table_none}
use Rattle.step_laws.proofs.Vain.{named_drawn}
use Rattle.step_laws.proofs.Respecs.{body_by, named_agree, all_firsts}
use Rattle.step_laws.proofs.Plain.{SameTables, trimmed_once}
use Rattle.step_laws.proofs.RecordsBodies.{with_records, objects_after, body_with_records}
use Rattle.step_laws.proofs.RecordsPuts.{StandingPutKeeps}
use Rattle.step_laws.proofs.Changed.{job_found, in_trimmed, pairs_trimmed, same_epoch_fits}
use Rattle.step_laws.proofs.NewJobs.{rise_new, pairs_new, held_once_new, all_kept_new, new_ids, later_new}
use Rattle.step_laws.proofs.Flushes.{tables_none}

-- The records after a put that makes these jobs.
abbrev pub new_records : World → Jobs → Records
new_records world after = record { version = records_version world.store.records + 1; epoch = records_epoch world.store.records; jobs = trimmed_jobs after }

-- What the jobs that a put makes have to be.
pub record NewPut (merge : Operator) (world : World) (specs : ℕ → JobSpec) (after : Jobs) (entry : Entry) : Type 0 where
  pub rise : Pairs (λ a b. a.id < b.id) after
  pub held_once : NodesHeldOnce (trimmed_jobs after)
  pub apart : Pairs NameApart after
  pub later : (a : ℕ × ℕ) → IsUpTo world.store.history (stored_jobs world.store) a → (job : Job) → IsIn job after → job.id ≡ a.0 → a.1 ≤ job.attempt
  pub kept : (job : Job) → IsIn job after → JobKept merge (with_records world (new_records world after) entry) specs job

-- How the change is made.
pub record MakesNew (world : World) (u : Unrecorded) (change : RecordChange) (after : Jobs) : Type 0 where
  pub makes : after_change u change (stored_jobs world.store) ≡ after
  pub tables : SameTables u (tables_now world.store.manifest.trees) change (stored_jobs world.store)
  pub epoch : epoch_after change world.store.records ≡ records_epoch world.store.records
  pub attempts : attempts_in (PutRecords change) ≡ []
  pub claims : attempts_claimed_in true (PutRecords change) ≡ []
  pub brought : tables_brought_in true (PutRecords change) ≡ []

-- The specs by which the history is replayed after the put.
abbrev pub new_specs : RecordChange → (ℕ → JobSpec) → ℕ → JobSpec
new_specs change specs = with_specs (named_specs (PutRecords change)) specs

-- A put that names new jobs and takes effect keeps the invariant, if each job that it makes is kept.
keeps_new : (merge : Operator) (world : World) (u : Unrecorded) (change : RecordChange) (after : Jobs) (line : ℕ) (party : Party) (answer : Answer) → stood answer ≡ true → (k : Keeps merge world) → NamesFit party world (named_specs (PutRecords change))
    → MakesNew world u change after → NewPut merge world (new_specs change k.stored.replay.specs) after (record { line = line; party = party; event = PutRecords change; answer = answer })
    → Keeps merge (with_records world (new_records world after) (record { line = line; party = party; event = PutRecords change; answer = answer }))
keeps_new merge world u change after line party answer took k names made put =
    let entry : Entry = record { line = line; party = party; event = PutRecords change; answer = answer } in
    let w = whole_of merge world k in
    let specs = new_specs change k.stored.replay.specs in
    let b = body_by merge world k.stored.replay.specs specs w.body (names.replays k.stored.replay.specs k.faithful) in
    let records = new_records world after in
    keeps_of merge (with_records world records entry) specs (record {
      body = body_with_records merge world specs records line party change answer took (record {
        objects = objects_after world specs line party change answer u (records_version world.store.records) (records_epoch world.store.records) (trimmed_jobs after) took refl (sym (ap trimmed_jobs made.makes)) (sym made.epoch) made.tables;
        job_ids = pairs_trimmed _ after put.rise;
        epochs = same_epoch_fits world.store.manifest world.store.records (records_version world.store.records + 1) (trimmed_jobs after) b.trees.epochs;
        held_once = put.held_once;
        name_apart = pairs_trimmed _ after put.apart;
        trimmed_already = trimmed_once after;
        agrees = named_agree (named_specs (PutRecords change)) k.stored.replay.specs names.once;
        drawn = all_firsts _ (named_specs (PutRecords change)) (named_drawn party world (named_specs (PutRecords change)) names);
        later = λ a up. (named_grows world.store.history entry a.0 up.0, found a up (job_with a.0 (trimmed_jobs after)) refl);
        own = rw made.attempts tt;
        once = rw (made.claims, append-nil) b.once;
        jobs = all_trimmed _ after (all_from _ after put.kept);
      }) b;
      draws = draws_mute world.store.jobs_drawn world.store.tables_drawn world.store.history entry refl refl w.draws;
      puts = puts_kept world.store.history entry world.store.tables (table_none (stood answer) entry.event refl) (rw (took, made.brought) tt) w.puts;
    })
  where
    found : (a : ℕ × ℕ) → IsUpTo world.store.history (stored_jobs world.store) a → (o : Option Job) → job_with a.0 (trimmed_jobs after) ≡ o → IfSome o (λ (j : Job). a.1 ≤ j.attempt)
    found a up None e = tt
    found a up (Some job) e = let it = job_found a.0 (trimmed_jobs after) job e in put.later a up job (in_trimmed after job it.there) it.same

pub new_put_keeps : (merge : Operator) (world : World) (u : Unrecorded) (change : RecordChange) (after : Jobs) (line : ℕ) (party : Party) (answer : Answer) (epoch : ℕ) (jobs : Jobs) → stood answer ≡ true → (k : Keeps merge world) → NamesFit party world (named_specs (PutRecords change))
    → MakesNew world u change after → jobs ≡ jobs_after u change (stored_jobs world.store) → epoch ≡ epoch_after change world.store.records
    → NewPut merge world (new_specs change k.stored.replay.specs) after (record { line = line; party = party; event = PutRecords change; answer = answer })
    → Keeps merge (with_records world (record { version = records_version world.store.records + 1; epoch = epoch; jobs = jobs }) (record { line = line; party = party; event = PutRecords change; answer = answer }))
new_put_keeps merge world u change after line party answer epoch jobs took k names made makes_jobs makes_epoch put =
    let same_jobs = makes_jobs ∙ ap trimmed_jobs made.makes in
    let same_epoch = makes_epoch ∙ made.epoch in
    subst (λ (r : Records). Keeps merge (with_records world r (record { line = line; party = party; event = PutRecords change; answer = answer })))
    (λ i. record { version = records_version world.store.records + 1; epoch = sym same_epoch i; jobs = sym same_jobs i })
    (keeps_new merge world u change after line party answer took k names made put)

-- ---- submits

-- New jobs name no table.
pub names_new : (named : List (ℕ × JobSpec)) (jobs : Jobs) → Pairs NameApart jobs → Pairs NameApart (with_new named jobs)
names_new named jobs h = pairs_new NameApart named jobs (λ p job. ((λ first second. refl), (λ first second. tables_none (job_tables job)))) h

quiet_submit : (took : Bool) (named : List (ℕ × JobSpec)) (job : ℕ) → IsQuietFor took (PutRecords (Submit named)) job
quiet_submit true named job = record { beats = refl; beaten = refl; joins = refl }
quiet_submit false named job = record { beats = refl; beaten = refl; joins = refl }

kept_epoch : (named : List (ℕ × JobSpec)) (records : Option Records) → epoch_after (Submit named) records ≡ records_epoch records
kept_epoch named None = refl
kept_epoch named (Some records) = refl

-- A lawful submission that takes effect keeps the invariant.
pub submits_keep : (merge : Operator) (named : List (ℕ × JobSpec)) → StandingPutKeeps merge (Submit named)
submits_keep merge named line party answer world epoch jobs took k names fits =
    let specs = new_specs (Submit named) k.stored.replay.specs in
    let b = body_by merge world k.stored.replay.specs specs (whole_of merge world k).body (names.replays k.stored.replay.specs k.faithful) in
    let after = with_new named (stored_jobs world.store) in
    new_put_keeps merge world fits.unrecorded (Submit named) after line party answer epoch jobs took k names
    (record { makes = refl; tables = tt; epoch = kept_epoch named world.store.records; attempts = refl; claims = refl; brought = refl }) fits.makes_jobs fits.makes_epoch
    (record {
      rise = rise_new named (stored_jobs world.store) names.once (new_ids merge world specs named b fits.fits.new) b.sound.job_ids;
      held_once = pairs_trimmed _ after (held_once_new named (stored_jobs world.store) b.held_once);
      apart = names_new named (stored_jobs world.store) b.name_apart;
      later = λ a up job there same. later_new merge world specs named a job b fits.fits.new up there same;
      kept = all_kept_new merge world specs (new_records world after) line party (Submit named) answer took b (quiet_submit (stood answer) named) fits.fits.new;
    })
