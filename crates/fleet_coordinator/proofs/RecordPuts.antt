-- The turns of a poll's puts of the records.
use Rattle.std.proofs.Common.{◌≡◌, refl, sym, ◌∙◌, ap, subst, ℕ, zero, suc, ◌+◌, cond, List, [], Option, Some, None, Result, Ok, Err, option_map, add-one, arith}
use Rattle.std.specs.Prelude.{◌==◌, ◌<◌, ◌≤◌, if◌then◌else◌}
use Rattle.std.proofs.lemmas.Bool.{le-ltb, lt-ltb, ne_eqb}
use Rattle.fleet_model.specs.Exchanges.{PutsRecords}
use Rattle.fleet_model.specs.History.{Polled, RecordChange}
use Rattle.fleet_model.specs.Jobs.{Jobs, trimmed_jobs}
use Rattle.fleet_model.specs.Store.{Records, Store}
use Rattle.fleet_model.specs.Work.PollStates.{PollState}
use Rattle.fleet_model.specs.Work.Polls.{change_of, is_nothing}
use Rattle.step_model.specs.Past.{World}
use Rattle.step_model.specs.Rivals.{Caller, Rivals}
use Rattle.step_model.specs.Lawful.{Lawful}
use Rattle.step_model.specs.Courses.Course.{Course, Ends, Calls}
use Rattle.step_model.specs.Courses.CourseRuns.{IsLawfulCourse}
use Rattle.step_model.specs.Courses.StepEnds.{StepEnd, Reports, GivesUp, Fenced}
use Rattle.step_model.specs.Steps.PollSteps.{merged_into, puts_polled, records_or_none, unless_fenced}
use Rattle.step_model.specs.Views.{StoreView}
use Rattle.step_laws.proofs.Later.{rivals_later}
use Rattle.fleet_rows.specs.declared.errors.SlateDBError.{SlateDBError}
use Rattle.fleet_rows.specs.declared.errors.SlateDBError.TheVariants as error
use Rattle.fleet_tree.specs.Trees.{RunFlushes}
use Rattle.fleet_jobs.specs.Jobs.{jobs_of}
use Rattle.fleet_book.specs.Records.{AreRising}
use Rattle.fleet_book.specs.StateParts.{StateParts}
use Rattle.fleet_book.specs.States.{merged_jobs, merged_records, own_jobs}
use Rattle.fleet_book.specs.VersionedRecords.{VersionedRecords}
use Rattle.fleet_book.specs.Versions.{records_of}
use Rattle.fleet_book.proofs.ModelMerges.{merges_are}
use Rattle.fleet_history.specs.Changes.{record_change_of}
use Rattle.fleet_store.specs.Asks as asks
use Rattle.fleet_store.specs.Asks.{GetsRecords, MayCall, RecordsPutFit}
use Rattle.fleet_store.specs.Exchanges.{records_put}
use Rattle.fleet_store.specs.Records.{DescribeTables, jobs_or_none}
use Rattle.fleet_store.proofs.Later.{still_describe}
use Rattle.step_model.specs.LawfulRecords.{OfSome}
use Rattle.fleet_rows.specs.declared.errors.MergeOperatorError.TheVariants as merge_error
use Rattle.fleet_rows.specs.declared.errors.MergeOperatorError.TheVariants.{Callback, EmptyBatch}
use Rattle.fleet_step.specs.Steps.{Leads, RunsTo, StepRan, TryRan, end_of, put_answer, put_then, puts_and, refused_at}
use Rattle.fleet_step.proofs.Puts.{got_records}
use Rattle.fleet_step.proofs.Steps.{begins, gives_up, then_leads, then_ran}
use Rattle.fleet_step.proofs.Turns.{ends_with, is_fenced, put_ends, wants_memory}
use Rattle.fleet_poll.specs.declared.poll.Poll.{Poll}
use Rattle.fleet_poll.specs.Polls.{poll_of}
use Rattle.fleet_change.specs.Puts.{IsRecordsPut, RecordsPoll}
use Rattle.fleet_change.specs.declared.put.PollPut.{PollPut}
use Rattle.fleet_coordinator.specs.Recording.{MayRecord, MergesNewer, gets_newer, got_with, puts_once, with_poll}
use Rattle.fleet_coordinator.proofs.Merged.{merged_describe}

-- ---- one put

same_call : (v v' : ℕ) (w w' : RecordChange) (e e' : ℕ) (j j' : Jobs) (next : Course (StepEnd PollState)) (again : ℕ → Course (StepEnd PollState)) → v ≡ v' → w ≡ w' → e ≡ e' → j ≡ j'
    → Calls (PutsRecords v w e j) (put_then v next again) ≡ Calls (PutsRecords v' w' e' j') (put_then v' next again)
same_call v v' w w' e e' j j' next again a b c d = rw (a, b, c, d) refl

-- A poll that changed no job puts nothing.
pub puts_none : (flushes : RunFlushes) (view : StoreView) (poll : Poll) (got : ℕ) (again : ℕ → Course (StepEnd PollState)) → IsRecordsPut poll got None
    → TryRan (λ (done : Unit {0}). Reports (poll_of flushes poll)) (puts_once (poll_of flushes poll) (got_with poll got) again) again view view (Ok tt)
puts_none flushes view poll got again nothing =
    let p = poll_of flushes poll in
    ends_with (begins (puts_once p (got_with poll got) again) view) tt
    (ap (λ b. cond b (Ends (Reports p)) (Calls (PutsRecords poll.state.compactions.id (Polled (change_of p)) got (trimmed_jobs p.jobs)) (put_then poll.state.compactions.id (Ends (Reports p)) again))) (nothing flushes))

pub no_put : (flushes : RunFlushes) (view : StoreView) (poll : Poll) (got : ℕ) (again : ℕ → Course (StepEnd PollState))
    → TryRan (λ (done : Unit {0}). Reports (poll_of flushes poll)) (puts_once (poll_of flushes poll) (got_with poll got) again) again view view (Err error.Memory)
no_put flushes view poll got again = wants_memory (begins (puts_once (poll_of flushes poll) (got_with poll got) again) view)

module _ (view : StoreView) (poll : Poll) (got : ℕ) (put : PollPut) (is : RecordsPoll poll got put) where
  module _ (flushes : RunFlushes) where
    abbrev p : PollState
    p = poll_of flushes poll

    -- The put that is made is that of the course.
    same_put : (again : ℕ → Course (StepEnd PollState)) → puts_once p (got_with poll got) again ≡ puts_and (records_put put.version put.value put.why) put.version (Ends (Reports p)) again
    same_put again =
        ap (λ b. cond b (Ends (Reports p)) (Calls (PutsRecords poll.state.compactions.id (Polled (change_of p)) got (trimmed_jobs p.jobs)) (put_then poll.state.compactions.id (Ends (Reports p)) again))) (is.some flushes)
        ∙ same_call poll.state.compactions.id put.version (Polled (change_of p)) (record_change_of put.why) got put.value.compactor_epoch (trimmed_jobs p.jobs) (jobs_of put.value.jobs) (Ends (Reports p)) again
        (sym is.at) (sym (is.why flushes)) (sym is.value.sets) (sym is.value.kept)

    pub puts_one : (again : ℕ → Course (StepEnd PollState)) (new : StoreView) (made : Result ℕ SlateDBError) → asks.PutsRecords view new put.version put.value put.why made
        → TryRan (λ (done : Unit {0}). Reports p) (puts_once p (got_with poll got) again) again view new (put_answer made tt)
    puts_one again new made puts = put_ends (begins (puts_once p (got_with poll got) again) view) tt put.version put.value put.why (same_put again) puts

  abbrev none : RunFlushes
  none = λ prefix run. []

  -- The put fits the store.
  pub put_fits : MayRecord view poll got → DescribeTables (own_jobs poll.state) view.world.store → RecordsPutFit view put.version put.value put.why
  put_fits lawful described = record {
    lawful = rw (is.at, is.why none, is.value.sets, is.value.kept) (lawful none (is.some none));
    shown = λ met rivals same. is.value.described met.store (still_describe view.world.store met.store (rivals_later view.who view.world met rivals) (own_jobs poll.state) described);
  }

-- ---- newer records

module _ (epoch : ℕ) (old new : StoreView) (got : Option VersionedRecords) (gets : GetsRecords old new (Ok got)) (newer : VersionedRecords) (is : records_of newer ≡ records_or_none (option_map records_of got)) where
  abbrev go_on : (Records → Course (StepEnd PollState)) → Records → Course (StepEnd PollState)
  go_on next records = unless_fenced epoch records.epoch (next records)

  got_newer : (next : Records → Course (StepEnd PollState)) → Leads (gets_newer epoch next) old (go_on next (records_of newer)) new
  got_newer next =
      subst (λ records. Leads (gets_newer epoch next) old (go_on next records) new) (sym is) (got_records gets (λ records. go_on next (records_or_none records)))

  module _ (next : Records → Course (StepEnd PollState)) (again : ℕ → Course (StepEnd PollState)) (ends : Poll → StepEnd PollState) where
    pub newer_fences : epoch < newer.compactions.compactor_epoch → TryRan ends (gets_newer epoch next) again old new (Err (error.Fenced newer.compactions.compactor_epoch))
    newer_fences below = is_fenced (got_newer next) newer.compactions.compactor_epoch (ap (λ b. cond b (Ends (Fenced newer.compactions.compactor_epoch)) (next (records_of newer))) (lt-ltb epoch newer.compactions.compactor_epoch below))

    pub newer_lacks : TryRan ends (gets_newer epoch next) again old new (Err error.Memory)
    newer_lacks = wants_memory (got_newer next)

  -- The newer records are merged into the jobs of the poll.
  pub newer_merges : (before : Poll) (state : StateParts) (freed : List ℕ) (stored : ℕ) → newer.compactions.jobs ≡ jobs_or_none got → AreRising (own_jobs before.state) → stored ≡ newer.compactions.compactor_epoch → stored ≤ epoch
      → state ≡ record before.state { compactions = merged_records before.state.compactions newer } → freed ≡ [] → MergesNewer epoch old new before (record before { state = state; freed = freed }) stored
  newer_merges before state freed stored jobs rising stored_is low state_is none = record {
    records = records_of newer;
    version = ap (λ (s : StateParts). s.compactions.id) state_is;
    epoch_is = stored_is;
    merged = λ flushes.
        ap (λ (s : StateParts). poll_of flushes (record before { state = s; freed = freed })) state_is
        ∙ ap (λ freed. poll_of flushes (record before { state = record before.state { compactions = merged_records before.state.compactions newer }; freed = freed })) none
        ∙ ap (λ jobs. record (poll_of flushes before) { jobs = jobs; freed = [] }) (merges_are (own_jobs before.state) newer.compactions.jobs rising);
    described = λ described. subst (λ jobs. DescribeTables jobs new.world.store) (sym (ap own_jobs state_is)) (whole described);
    leads = λ next. subst (λ rest. Leads (gets_newer epoch next) old rest new)
        (ap (λ b. cond b (Ends (Fenced newer.compactions.compactor_epoch)) (next (records_of newer))) (le-ltb epoch newer.compactions.compactor_epoch (omega (arith, low, stored_is)))) (got_newer next);
  }
    where
      news : DescribeTables newer.compactions.jobs new.world.store
      news = subst (λ jobs. DescribeTables jobs new.world.store) (sym jobs) (subst (λ (t : World). DescribeTables (jobs_or_none got) t.store) (sym gets.called.ended.1.leaves) gets.called.ended.0.handles)

      whole : DescribeTables (own_jobs before.state) old.world.store → DescribeTables (merged_jobs (own_jobs before.state) newer.compactions.jobs) new.world.store
      whole described =
          merged_describe new.world.store (own_jobs before.state) newer.compactions.jobs
          (still_describe old.world.store new.world.store (got_newer (λ records. Ends (Fenced 0))).later (own_jobs before.state) described) news

-- ---- all puts

-- An error tells of the same end, whatever the step would have answered.
pub same_error : {A C B : Type 0} (ends : A → StepEnd B) (others : C → StepEnd B) (e : SlateDBError) → end_of ends (Err e) ≡ end_of others (Err e)
same_error ends others error.StoreFault = refl
same_error ends others error.Memory = refl
same_error ends others (error.Conflict seen) = refl
same_error ends others (error.Fenced stored) = refl
same_error ends others error.NotOwner = refl
same_error ends others error.InvalidDBState = refl
same_error ends others error.InvalidCompaction = refl
same_error ends others (error.Generate message) = refl
same_error ends others (error.MergeOperator (Callback message)) = refl
same_error ends others (error.MergeOperator EmptyBatch) = refl
same_error ends others (error.MergeOperator merge_error.Memory) = refl
same_error ends others (error.CompactionFilter cause) = refl
same_error ends others error.IteratorNotInitialized = refl
same_error ends others error.IteratorFailed = refl
same_error ends others error.MergeOperatorMissing = refl
same_error ends others (error.InvalidSequenceOrder current after) = refl

-- A step that goes on and then fails, ends so. After a refused put it gives up.
pub ends_so : {A B : Type 0} (ends : A → StepEnd B) {course rest : Course (StepEnd B)} {old mid new : StoreView} → Leads course old rest mid → (e : SlateDBError)
    → TryRan ends rest (λ seen. Ends (GivesUp seen)) mid new (Err e) → StepRan ends course old new (Err e)
ends_so ends {new = new} lead (error.Conflict seen) ran = then_ran ends (then_leads lead (ran.refused seen refl)) (gives_up ends (Ends (GivesUp seen)) new seen refl)
ends_so ends lead error.StoreFault ran = then_ran ends lead (ran.ended refl)
ends_so ends lead error.Memory ran = then_ran ends lead (ran.ended refl)
ends_so ends lead (error.Fenced stored) ran = then_ran ends lead (ran.ended refl)
ends_so ends lead error.NotOwner ran = then_ran ends lead (ran.ended refl)
ends_so ends lead error.InvalidDBState ran = then_ran ends lead (ran.ended refl)
ends_so ends lead error.InvalidCompaction ran = then_ran ends lead (ran.ended refl)
ends_so ends lead (error.Generate message) ran = then_ran ends lead (ran.ended refl)
ends_so ends lead (error.MergeOperator cause) ran = then_ran ends lead (ran.ended refl)
ends_so ends lead (error.CompactionFilter cause) ran = then_ran ends lead (ran.ended refl)
ends_so ends lead error.IteratorNotInitialized ran = then_ran ends lead (ran.ended refl)
ends_so ends lead error.IteratorFailed ran = then_ran ends lead (ran.ended refl)
ends_so ends lead error.MergeOperatorMissing ran = then_ran ends lead (ran.ended refl)
ends_so ends lead (error.InvalidSequenceOrder current after) ran = then_ran ends lead (ran.ended refl)

-- How a poll goes on after a refused put, if it may put the records so many more times.
abbrev after_refusal : ℕ → PollState → ℕ → ℕ → Course (StepEnd PollState)
after_refusal epoch p left seen = if left == 0 then Ends (GivesUp seen) else gets_newer epoch (λ records. puts_polled epoch (merged_into p records.jobs) records left seen)

-- A poll takes nothing but version and epoch of the records that it got.
pub same_got : (epoch : ℕ) (p : PollState) (got other : Records) (left seen : ℕ) → got.version ≡ other.version → got.epoch ≡ other.epoch → puts_polled epoch p got left seen ≡ puts_polled epoch p other left seen
same_got epoch p got other zero seen version epochs = refl
same_got epoch p got other (suc left) seen version epochs =
    ap (λ (call : ℕ × ℕ). cond (is_nothing (change_of p)) (Ends (Reports p)) (Calls (PutsRecords call.0 (Polled (change_of p)) call.1 (trimmed_jobs p.jobs)) (put_then call.0 (Ends (Reports p)) (after_refusal epoch p left))))
    (λ i. (version i, epochs i))

module _ {course : Course (StepEnd PollState)} {old mid : StoreView} (flushes : RunFlushes) (epoch : ℕ) (poll : Poll) (got left seen : ℕ)
    (so_far : Leads course old (puts_polled epoch (poll_of flushes poll) (got_with poll got) left seen) mid) (after : ℕ) (more : left ≡ after + 1) where
  abbrev ends : Poll → StepEnd PollState
  ends poll = Reports (poll_of flushes poll)

  at_put : Leads course old (puts_once (poll_of flushes poll) (got_with poll got) (after_refusal epoch (poll_of flushes poll) after)) mid
  at_put = subst (λ n. Leads course old (puts_polled epoch (poll_of flushes poll) (got_with poll got) n seen) mid) (more ∙ add-one after) so_far

  module _ {new : StoreView} {put : Result Unit SlateDBError}
      (ran : TryRan (λ (done : Unit {0}). Reports (poll_of flushes poll)) (puts_once (poll_of flushes poll) (got_with poll got) (after_refusal epoch (poll_of flushes poll) after)) (after_refusal epoch (poll_of flushes poll) after) mid new put) where
    -- A put was not refused.
    pub records_end : refused_at put ≡ None → StepRan ends course old new (with_poll put poll)
    records_end last = then_ran ends at_put (by put (ran.ended last))
      where
        by : (put : Result Unit SlateDBError) → StepRan (λ (done : Unit {0}). Reports (poll_of flushes poll)) (puts_once (poll_of flushes poll) (got_with poll got) (after_refusal epoch (poll_of flushes poll) after)) mid new put
            → StepRan ends (puts_once (poll_of flushes poll) (got_with poll got) (after_refusal epoch (poll_of flushes poll) after)) mid new (with_poll put poll)
        by (Ok done) ran = record { to_end = ran.to_end }
        by (Err e) ran = record { to_end = subst (OfSome (RunsTo _ mid new)) (same_error (λ (done : Unit {0}). Reports (poll_of flushes poll)) ends e) ran.to_end }

    module _ (version : ℕ) (refused : refused_at put ≡ Some version) where
      on_refusal : Leads course old (after_refusal epoch (poll_of flushes poll) after version) new
      on_refusal = then_leads at_put (ran.refused version refused)

      -- What the poll's jobs describe is still put.
      pub still_described : DescribeTables (own_jobs poll.state) mid.world.store → DescribeTables (own_jobs poll.state) new.world.store
      still_described described = still_describe mid.world.store new.world.store (ran.refused version refused).later (own_jobs poll.state) described

      -- The last put was refused.
      pub records_out : after ≡ 0 → StepRan ends course old new (Err (error.Conflict version))
      records_out none = then_ran ends on_refusal (gives_up ends (after_refusal epoch (poll_of flushes poll) after version) new version (rw none refl))

      more_puts : 0 < after → Leads course old (gets_newer epoch (λ records. puts_polled epoch (merged_into (poll_of flushes poll) records.jobs) records after version)) new
      more_puts some =
          subst (λ rest. Leads course old rest new)
          (ap (λ b. cond b (Ends (GivesUp version)) (gets_newer epoch (λ records. puts_polled epoch (merged_into (poll_of flushes poll) records.jobs) records after version))) (ne_eqb after 0 (λ none. absurd (omega (arith, some, none)))))
          on_refusal

      -- Another put follows, after newer records were merged.
      pub records_on : 0 < after → {last : StoreView} (next : Poll) (stored : ℕ) → MergesNewer epoch new last poll next stored → Leads course old (puts_polled epoch (poll_of flushes next) (got_with next stored) after version) last
      records_on some {last = last} next stored newer =
          then_leads (more_puts some)
          (subst (λ rest. Leads (gets_newer epoch (λ records. puts_polled epoch (merged_into (poll_of flushes poll) records.jobs) records after version)) new rest last)
          (ap (λ p. puts_polled epoch p newer.records after version) (sym (newer.merged flushes)) ∙ same_got epoch (poll_of flushes next) newer.records (got_with next stored) after version (sym newer.version) (sym newer.epoch_is))
          (newer.leads (λ records. puts_polled epoch (merged_into (poll_of flushes poll) records.jobs) records after version)))

      -- The get of newer records failed, or the poll is fenced.
      pub newer_ends : 0 < after → {last : StoreView} (e : SlateDBError)
          → ((next : Records → Course (StepEnd PollState)) (again : ℕ → Course (StepEnd PollState)) (ends : Poll → StepEnd PollState) → TryRan ends (gets_newer epoch next) again new last (Err e)) → StepRan ends course old last (Err e)
      newer_ends some e failed = ends_so ends (more_puts some) e (failed (λ records. puts_polled epoch (merged_into (poll_of flushes poll) records.jobs) records after version) (λ seen. Ends (GivesUp seen)) ends)

-- A poll that may put the records no more gives up.
pub records_none : {course : Course (StepEnd PollState)} {old mid : StoreView} (flushes : RunFlushes) (epoch : ℕ) (poll : Poll) (got left seen : ℕ)
    → Leads course old (puts_polled epoch (poll_of flushes poll) (got_with poll got) left seen) mid → left ≡ 0 → StepRan {A = Poll} (λ poll. Reports (poll_of flushes poll)) course old mid (Err (error.Conflict seen))
records_none {mid = mid} flushes epoch poll got left seen so_far none =
    then_ran (λ poll. Reports (poll_of flushes poll)) so_far
    (gives_up (λ poll. Reports (poll_of flushes poll)) (puts_polled epoch (poll_of flushes poll) (got_with poll got) left seen) mid seen (ap (λ n. puts_polled epoch (poll_of flushes poll) (got_with poll got) n seen) none))

-- ---- a put is lawful

module _ (old mid : StoreView) (poll : Poll) (got : ℕ) (course : RunFlushes → Course (StepEnd PollState)) (epoch left seen : ℕ)
    (so_far : (flushes : RunFlushes) → Leads (course flushes) old (puts_polled epoch (poll_of flushes poll) (got_with poll got) left seen) mid) (after : ℕ) (more : left ≡ after + 1) where
  may_call : (v e : ℕ) (why : RecordChange) (jobs : Jobs) (next : Store → Course (StepEnd PollState)) → mid.who ≡ old.who → IsLawfulCourse old.who mid.world (Calls (PutsRecords v why e jobs) next) → MayCall mid (λ met. PutsRecords v why e jobs)
  may_call v e why jobs next same lawful =
      subst (λ (w : Caller). (met : World) → Rivals w mid.world met → Lawful w.merge w.party met (PutsRecords v why e jobs)) (sym same) (λ met rivals. (lawful met rivals tt).0)

  -- The next put is lawful, if the course is.
  pub may_record : ((flushes : RunFlushes) → IsLawfulCourse old.who old.world (course flushes)) → MayRecord mid poll got
  may_record lawful = λ flushes some.
      let p = poll_of flushes poll in
      let next : Store → Course (StepEnd PollState) = put_then poll.state.compactions.id (Ends (Reports p)) (after_refusal epoch p after) in
      let there = at_put flushes epoch poll got left seen (so_far flushes) after more in
      may_call poll.state.compactions.id got (Polled (change_of p)) (trimmed_jobs p.jobs) next there.same.who
      (subst (IsLawfulCourse old.who mid.world) (ap (λ b. cond b (Ends (Reports p)) (Calls (PutsRecords poll.state.compactions.id (Polled (change_of p)) got (trimmed_jobs p.jobs)) next)) some) (there.lawful (lawful flushes)))
