-- The puts of the records by which a poll ends: each is lawful, whatever newer records it merged in between.
use Rattle.std.proofs.Common.{◌≡◌, refl, sym, ◌∙◌, ap, subst, ℕ, zero, suc, ◌+◌, ◌<◌, ◌≤◌, List, [], cond, Bool, true, false, Option, Some, None, arith}
use Rattle.std.specs.Prelude.{IsTrue, ◌==◌, nat_lt}
use Rattle.std.specs.List.{AllByRecursion}
use Rattle.std.proofs.lemmas.Bool.{ltb-false}
use Rattle.row_model.specs.Lists.{Pairs}
use Rattle.fleet_model.specs.Jobs.{JobSpec, Job, Jobs, Scheduled, has_status, job_with, trimmed_jobs}
use Rattle.fleet_model.specs.History.{Party, GetRecords, PutRecords, RecordChange, Polled, Conflict, Done, Entry, stood}
use Rattle.fleet_model.specs.Store.{Records, stored_jobs, jobs_in, records_epoch}
use Rattle.fleet_model.specs.Invariants.JobsFit.{SourcesStand}
use Rattle.fleet_model.specs.Work.PollStates.{PollState}
use Rattle.fleet_model.specs.Work.Polls.{change_of, is_nothing}
use Rattle.fleet_model.specs.Exchanges.{Plain, PutsRecords, records_version, with_entry, answer_of}
use Rattle.step_model.specs.Past.{World, world_after}
use Rattle.step_model.specs.Entries.{was_named, did_put_epoch}
use Rattle.step_model.specs.Lawful.{Lawful}
use Rattle.step_model.specs.Rivals.{Caller, Rivals, after_call}
use Rattle.step_model.specs.Kept.Keeps.{Keeps}
use Rattle.step_model.specs.Courses.CourseRuns.{IsLawfulCourse}
use Rattle.step_model.specs.Courses.Course.{Ends, gets_records, puts_records}
use Rattle.step_model.specs.Steps.PollSteps.{puts_polled, merged_into, records_or_none, unless_fenced}
use Rattle.step_model.specs.Courses.StepEnds.{Reports, GivesUp, Fenced}
use Rattle.step_laws.specs.Runs.{CallsKeep}
use Rattle.step_laws.proofs.Elements.{IsIn, all_at, all_to}
use Rattle.step_laws.proofs.Changed.{found_job}
use Rattle.step_laws.proofs.MuteBodies.{entered}
use Rattle.step_laws.proofs.Quiet.{world_entered}
use Rattle.rival_laws.proofs.Coordinators.{put_grows}
use Rattle.course_laws.proofs.Calls.{keeps_after}
use Rattle.course_laws.proofs.Later.{Later, later_itself, later_by, later_then, rivals_later}
use Rattle.course_laws.proofs.NewIds.{stored_named}
use Rattle.course_laws.proofs.Puts.{got_records}
use Rattle.coordinator_laws.proofs.Jobs.{Among, JobsReached}
use Rattle.coordinator_laws.proofs.RecordsPut.{put_fits}
use Rattle.coordinator_laws.proofs.Quiet.{Moves, moves_itself, moves_on, Quiet, HasEpoch, rivals_after}
use Rattle.coordinator_laws.proofs.Names.{MayName, fits_to_name, rivals_named, own_noted, own_refused}
use Rattle.coordinator_laws.proofs.Adoption.{Adopts, merged_reached, merged_opened}
use Rattle.rival_laws.proofs.FreeTables.{refused}

-- What is so of the poll's state as long as no later epoch is in the records: its jobs are marks of those that it got, the stored jobs are those
-- that these moved to, and the sources of the jobs that it opened stand.
pub record Good (world : World) (got : Records) (p : PollState) : Type 0 where
  pub reached : JobsReached got.jobs p
  pub moves : Moves got.jobs (stored_jobs world.store)
  pub opened : AllByRecursion (Among (λ job. IsTrue (has_status Scheduled job) × SourcesStand world.store.manifest.trees job) p.jobs) p.opened

-- The poll is about to put the records. `base` is a store that had the records that it got.
pub record Puts (who : Caller) (e : ℕ) (base : World) (got : Records) (p : PollState) (world : World) : Type 0 where
  pub kept : Keeps who.merge world
  pub own : HasEpoch who.party e world
  pub names : MayName who.party world p.added
  pub rise : Pairs (λ a b. a.id < b.id) got.jobs
  pub epoch : got.epoch ≡ e
  pub is_got : base.store.records ≡ Some got
  pub later : Later base world
  pub good : records_epoch world.store.records ≤ e → Good world got p

stands_on : (old new : World) (p : PollState) → Quiet old new → AllByRecursion (Among (λ job. IsTrue (has_status Scheduled job) × SourcesStand old.store.manifest.trees job) p.jobs) p.opened
    → AllByRecursion (Among (λ job. IsTrue (has_status Scheduled job) × SourcesStand new.store.manifest.trees job) p.jobs) p.opened
stands_on old new p q h = all_to _ _ p.opened (λ id there found. (found.0, (found.1.0, (found.1.1.0, (found.1.1.1.0, q.stand found.0 found.1.1.1.1))))) h

good_on : (old new : World) (got : Records) (p : PollState) → Quiet old new → Good old got p → Good new got p
good_on old new got p q g = record { reached = g.reached; moves = moves_on got.jobs (stored_jobs old.store) (stored_jobs new.store) g.moves q.jobs; opened = stands_on old new p q g.opened }

-- A poll that is about to put the records still is so after calls of others.
pub puts_met : (who : Caller) (e : ℕ) (base : World) (got : Records) (p : PollState) (old new : World) → CallsKeep who.merge → Puts who e base got p old → Rivals who old new → Puts who e base got p new
puts_met who e base got p old new keep s rivals =
    let a = rivals_after who e old new keep s.kept s.own rivals in
    let rises = a.rises in
    record {
      kept = a.kept;
      own = a.own;
      names = rivals_named who p.added old new keep s.kept rivals s.names;
      rise = s.rise;
      epoch = s.epoch;
      is_got = s.is_got;
      later = later_then base old new s.later (rivals_later who old new rivals);
      good = λ low. good_on old new got p (a.quiet low) (s.good (omega (arith, rises, low)));
    }

-- ---- the put

pub fits_put : (who : Caller) (e : ℕ) (base : World) (got : Records) (p : PollState) (world : World) → Puts who e base got p world → Lawful who.merge who.party world (PutsRecords got.version (Polled (change_of p)) got.epoch (trimmed_jobs p.jobs))
fits_put who e base got p world s = (
  fits_to_name who.party world p.added s.names,
  λ version.
      let same = got_records base world (Some got) s.is_got s.later version in
      let stored : records_epoch world.store.records ≡ got.epoch = ap records_epoch same in
      let is = s.epoch in
      let g = s.good (omega (arith, stored, is)) in
      put_fits who.merge who.party world got p s.rise (record { reached = g.reached; stored = same; by = subst (λ n. IsTrue (did_put_epoch who.party world.store.history n)) (sym is) s.own.put; opened = g.opened; new = s.names.unnamed }),
)

-- A put of the records that is refused leaves its entry alone.
pub refused_is : (line : ℕ) (party : Party) (world : World) (version : ℕ) (change : RecordChange) (epoch : ℕ) (jobs : Jobs) → (version == records_version world.store.records) ≡ false
    → after_call line party (PutsRecords version change epoch jobs) None world
    ≡ entered world world.store.deleted world.store.jobs_drawn world.store.tables_drawn (record { line = line; party = party; event = PutRecords change; answer = Conflict (records_version world.store.records) })
refused_is line party world version change epoch jobs other = by (version == records_version world.store.records) other
  where
    by : (b : Bool) → b ≡ false
        → world_after world (with_entry line party (PutRecords change) (cond b (Done (records_version world.store.records + 1)) (Conflict (records_version world.store.records))) (cond b (record world.store { records = Some (record { version = version + 1; epoch = epoch; jobs = jobs }) }) world.store))
        ≡ entered world world.store.deleted world.store.jobs_drawn world.store.tables_drawn (record { line = line; party = party; event = PutRecords change; answer = Conflict (records_version world.store.records) })
    by true e = absurd (cc e)
    by false e = world_entered world world.store.deleted world.store.jobs_drawn world.store.tables_drawn (record { line = line; party = party; event = PutRecords change; answer = Conflict (records_version world.store.records) })

-- An entry that names no other jobs leaves the poll's state.
good_entered : (world : World) (entry : Entry) (got : Records) (p : PollState) → Good world got p → Good (entered world world.store.deleted world.store.jobs_drawn world.store.tables_drawn entry) got p
good_entered world entry got p g = record { reached = g.reached; moves = g.moves; opened = g.opened }

pub epoch_entered : (party : Party) (e : ℕ) (world : World) (entry : Entry) → HasEpoch party e world → HasEpoch party e (entered world world.store.deleted world.store.jobs_drawn world.store.tables_drawn entry)
epoch_entered party e world entry own = record { put = put_grows party world.store.history entry e own.put; recorded = own.recorded }

-- A poll that is about to put the records still is so after a put that is refused.
pub puts_refused : (who : Caller) (e : ℕ) (base : World) (got : Records) (p : PollState) (world : World) → CallsKeep who.merge → Puts who e base got p world → (got.version == records_version world.store.records) ≡ false
    → Puts who e base got p (after_call who.line who.party (PutsRecords got.version (Polled (change_of p)) got.epoch (trimmed_jobs p.jobs)) None world)
puts_refused who e base got p world keep s other =
    let x = PutsRecords got.version (Polled (change_of p)) got.epoch (trimmed_jobs p.jobs) in
    let entry : Entry = record { line = who.line; party = who.party; event = PutRecords (Polled (change_of p)); answer = Conflict (records_version world.store.records) } in
    let is = refused_is who.line who.party world got.version (Polled (change_of p)) got.epoch (trimmed_jobs p.jobs) other in
    let kept = keeps_after who x world keep s.kept (fits_put who e base got p world s) in
    let later = later_then base world (after_call who.line who.party x None world) s.later (later_by who.line who.party x None world) in
    subst (Puts who e base got p) (sym is) (record {
      kept = subst (Keeps who.merge) is kept;
      own = epoch_entered who.party e world entry s.own;
      names = own_refused who.party world p.added entry refl refl s.names;
      rise = s.rise;
      epoch = s.epoch;
      is_got = s.is_got;
      later = subst (Later base) is later;
      good = λ low. good_entered world entry got p (s.good low);
    })

-- ---- newer records

-- The state after the get of newer records and their merge.
pub puts_merged : (who : Caller) (e : ℕ) (base : World) (got newer : Records) (p : PollState) (world : World) → CallsKeep who.merge → Puts who e base got p world → world.store.records ≡ Some newer → newer.epoch ≤ e
    → Puts who e (after_call who.line who.party (Plain GetRecords) None world) newer (merged_into p newer.jobs) (after_call who.line who.party (Plain GetRecords) None world)
puts_merged who e base got newer p world keep s is low =
    let entry : Entry = record { line = who.line; party = who.party; event = GetRecords; answer = answer_of (Plain GetRecords) world.store } in
    let same = world_entered world world.store.deleted world.store.jobs_drawn world.store.tables_drawn entry in
    let kept = keeps_after who (Plain GetRecords) world keep s.kept tt in
    let stored : records_epoch world.store.records ≡ newer.epoch = ap records_epoch is in
    let recorded = s.own.recorded in
    let g = s.good (omega (arith, stored, low)) in
    let a : Adopts got.jobs newer.jobs p = record { reached = g.reached; moves = subst (λ r. Moves got.jobs (jobs_in r)) is g.moves; rise = rise; once = s.names.once; new = new } in
    subst (λ t. Puts who e t newer (merged_into p newer.jobs) t) (sym same) (record {
      kept = subst (Keeps who.merge) same kept;
      own = epoch_entered who.party e world entry s.own;
      names = own_noted who.party world world.store.jobs_drawn world.store.tables_drawn p.added entry (none (stood entry.answer)) s.names;
      rise = rise;
      epoch = omega (arith, stored, recorded, low);
      is_got = is;
      later = later_itself (entered world world.store.deleted world.store.jobs_drawn world.store.tables_drawn entry);
      good = λ lower. record {
        reached = merged_reached got.jobs newer.jobs p a;
        moves = subst (λ r. Moves newer.jobs (jobs_in r)) (sym is) (moves_itself newer.jobs);
        opened = merged_opened got.jobs newer.jobs p a world.store.manifest.trees g.opened;
      };
    })
  where
    none : (b : Bool) → cond {A = List ℕ} b [] [] ≡ []
    none true = refl
    none false = refl

    rise : Pairs (λ a b. a.id < b.id) newer.jobs
    rise = subst (λ r. Pairs (λ (a b : Job). a.id < b.id) (jobs_in r)) is s.kept.stored.sound.job_ids

    new : (q : ℕ × JobSpec) (job : Job) → IsIn q p.added → IsIn job newer.jobs → q.0 ≡ job.id → ⊥
    new q job there one same = refused (was_named world.store.history q.0) (all_at (λ (x : ℕ × JobSpec). was_named world.store.history x.0 ≡ false) p.added q s.names.unnamed there)
        (subst (λ n. IsTrue (was_named world.store.history n)) (sym same) (stored_named who.merge world job.id job s.kept (ap (λ r. job_with job.id (jobs_in r)) is ∙ found_job newer.jobs job rise one)))

-- ---- all tries

-- What comes after a refused put, if a further put is lawful.
abbrev Further : Caller → ℕ → ℕ → Type 0
Further who e left = (base : World) (got : Records) (p : PollState) (seen : ℕ) (world : World) → Puts who e base got p world → IsLawfulCourse who world (puts_polled e p got left seen)

-- After a get of newer records, the rest of a poll is a lawful course, if its further puts are.
over_newer : (who : Caller) (e left seen : ℕ) (base : World) (got : Records) (p : PollState) (met : World) → CallsKeep who.merge → 0 < e → Further who e left → Puts who e base got p met → (records : Option Records) → met.store.records ≡ records
    → IsLawfulCourse who (after_call who.line who.party (Plain GetRecords) None met) (unless_fenced e (records_or_none records).epoch (puts_polled e (merged_into p (records_or_none records).jobs) (records_or_none records) left seen))
over_newer who e left seen base got p met keep counted further s None is =
    let recorded = s.own.recorded in
    let none : records_epoch met.store.records ≡ 0 = ap records_epoch is in
    absurd (omega (arith, recorded, none, counted))
over_newer who e left seen base got p met keep counted further s (Some newer) is = by (nat_lt e newer.epoch) refl
  where
    by : (b : Bool) → nat_lt e newer.epoch ≡ b → IsLawfulCourse who (after_call who.line who.party (Plain GetRecords) None met) (cond b (Ends (Fenced newer.epoch)) (puts_polled e (merged_into p newer.jobs) newer left seen))
    by true f = tt
    by false f = further _ newer (merged_into p newer.jobs) seen _ (puts_merged who e base got newer p met keep s is (ltb-false e newer.epoch f))

-- After a put of the records, refused or not, the rest of a poll is a lawful course, if its further puts are.
after_put : (who : Caller) (e left : ℕ) (base : World) (got : Records) (p : PollState) (met : World) → CallsKeep who.merge → 0 < e → Further who e left → Puts who e base got p met → (b : Bool) → (got.version == records_version met.store.records) ≡ b
    → IsLawfulCourse who (after_call who.line who.party (PutsRecords got.version (Polled (change_of p)) got.epoch (trimmed_jobs p.jobs)) None met)
    (cond b (Ends (Reports p)) (cond (left == 0) (Ends (GivesUp (records_version met.store.records))) (gets_records (λ newer. let got = records_or_none newer in
    unless_fenced e got.epoch (puts_polled e (merged_into p got.jobs) got left (records_version met.store.records))))))
after_put who e left base got p met keep counted further s true same = tt
after_put who e left base got p met keep counted further s false other = by (left == 0)
  where
    after : World
    after = after_call who.line who.party (PutsRecords got.version (Polled (change_of p)) got.epoch (trimmed_jobs p.jobs)) None met

    by : (b : Bool) → IsLawfulCourse who after (cond b (Ends (GivesUp (records_version met.store.records))) (gets_records (λ newer. let got = records_or_none newer in
        unless_fenced e got.epoch (puts_polled e (merged_into p got.jobs) got left (records_version met.store.records)))))
    by true = tt
    by false = λ next rivals room.
        (tt, over_newer who e left (records_version met.store.records) base got p next keep counted further (puts_met who e base got p after next keep (puts_refused who e base got p met keep s other) rivals) next.store.records refl)

pub puts_lawful : (who : Caller) (e : ℕ) → CallsKeep who.merge → 0 < e → (left : ℕ) (base : World) (got : Records) (p : PollState) (seen : ℕ) (world : World) → Puts who e base got p world → IsLawfulCourse who world (puts_polled e p got left seen)
puts_lawful who e keep counted zero base got p seen world s = tt
puts_lawful who e keep counted (suc left) base got p seen world s = by (is_nothing (change_of p)) (λ base got p seen world s. puts_lawful who e keep counted left base got p seen world s)
  where
    by : (b : Bool) → Further who e left → IsLawfulCourse who world (cond b (Ends (Reports p)) (puts_records got (Polled (change_of p)) got.epoch (trimmed_jobs p.jobs) (Ends (Reports p)) (λ seen.
        cond (left == 0) (Ends (GivesUp seen)) (gets_records (λ newer. let got = records_or_none newer in unless_fenced e got.epoch (puts_polled e (merged_into p got.jobs) got left seen))))))
    by true further = tt
    by false further = λ met rivals room.
        let there = puts_met who e base got p world met keep s rivals in
        (fits_put who e base got p met there, after_put who e left base got p met keep counted further there (got.version == records_version met.store.records) refl)
