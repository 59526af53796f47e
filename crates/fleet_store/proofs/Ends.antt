-- How a call of a store in memory ends.
use Rattle.std.proofs.Common.{◌≡◌, refl, ap, sym, ◌∙◌, subst, ℕ, ◌+◌, ◌≤◌, ◌==◌, ◌&&◌, List, Bool, true, false, if◌then◌else◌, [], Option, Some, None, Result, Ok, Err, IsTrue, arith}
use Rattle.std.specs.Prelude.{◌≢◌, IfOk}
use Rattle.std.specs.declared.alloc.AllocError.{AllocError}
use Rattle.row_model.specs.Fold.{Operator}
use Rattle.fleet_model.specs.History.{Event, GetRecords, Party, is_get_or_put}
use Rattle.fleet_model.specs.Exchanges as exchange
use Rattle.fleet_model.specs.Exchanges.{Exchange, Fault, Plain, DrawsJob, DrawsTable, PutsTable, PutsManifest, ListsTables, DeletesTable, does_stand, records_version, strikes, waiting_after}
use Rattle.fleet_model.specs.Jobs.{Jobs}
use Rattle.fleet_model.specs.Store.{Store}
use Rattle.step_model.specs.Past.{World}
use Rattle.step_model.specs.Rivals.{Rivals, Strike, store_after_call}
use Rattle.step_model.specs.Views.{SameCaller, StoreView}
use Rattle.fleet_history.specs.Parties.{party_of}
use Rattle.fleet_jobs.specs.Jobs.{jobs_of}
use Rattle.fleet_book.specs.VersionedRecords.{VersionedRecords}
use Rattle.fleet_book.specs.declared.compactions.Compactions.{Compactions}
use Rattle.fleet_history.specs.declared.record_change.RecordChange.{RecordChange}
use Rattle.fleet_rows.specs.declared.errors.SlateDBError.{SlateDBError}
use Rattle.fleet_rows.specs.declared.errors.SlateDBError.TheVariants.{IteratorNotInitialized, IteratorFailed, MergeOperatorMissing, InvalidSequenceOrder, MergeOperator, CompactionFilter, InvalidCompaction, InvalidDBState, Fenced, StoreFault, NotOwner, Conflict, Generate, Memory}
use Rattle.step_model.specs.Courses.Ran.{Spares, Strikes}
use Rattle.fleet_store.specs.Asks.{GetsRecords, PutsRecords}
use Rattle.fleet_store.specs.Called.{Called, Ended, IsMade, Never, PutsNext, ShowsStored}
use Rattle.fleet_store.specs.Exchanges.{records_put}
use Rattle.fleet_store.specs.Records.{AreRecords, jobs_or_none, processed_by}
use Rattle.fleet_store.specs.Memory.{Answers, IsOutcome, Makes, StoreParts, ended_of, processed_after}
use Rattle.fleet_store.specs.Strikes.{faults_after, is_performed, strike_by, waits_after}
use Rattle.step_laws.proofs.RanLaws.{only_met}
use Rattle.fleet_store.proofs.Calls.{called_is}
use Rattle.std.proofs.lemmas.Bool.{eqb-true}
use Rattle.fleet_store.specs.Under.{caller_of, view_of}

-- Nobody else calls.
pub nobody : (merge : Operator) (log : StoreParts) → Rivals (caller_of merge log) log.world log.world
nobody merge log = record { calls = []; lead = refl; none = λ alone. refl }

-- A call that no fault strikes.
spared : (event : Event) (waits left : Option Fault) → None ≡ strike_by event waits → left ≡ waits_after event waits → Spares event waits left
spared event waits left is after = by (strikes event waits) refl is after
  where
    by : (b : Bool) → strikes event waits ≡ b → None ≡ (if b then Some (does_stand waits) else None) → left ≡ (if b then None else waiting_after event waits) → Spares event waits left
    by true here is after = absurd (cc is)
    by false here is after = record { spared = here; nearer = after }

-- A call that a fault strikes.
struck : (event : Event) (waits left : Option Fault) (stands : Bool) → Some stands ≡ strike_by event waits → left ≡ waits_after event waits → Strikes event waits left stands
struck event waits left stands is after = by (strikes event waits) refl is after
  where
    by : (b : Bool) → strikes event waits ≡ b → Some stands ≡ (if b then Some (does_stand waits) else None) → left ≡ (if b then None else waiting_after event waits) → Strikes event waits left stands
    by true here is after = record { struck = here; as_said = cc is; used = after }
    by false here is after = absurd (cc is)

-- Only a get or a put is struck.
may_strike : (event : Event) (waits : Option Fault) → strikes event waits ≡ true → IsTrue (is_get_or_put event)
may_strike event None h = absurd (cc h)
may_strike event (Some fault) h = by (is_get_or_put event) h
  where
    by : (b : Bool) → (b && (fault.k == 1)) ≡ true → IsTrue b
    by true h = refl
    by false h = absurd (cc h)

-- The store with these records, if they are put.
abbrev put_if : Bool → (version epoch : ℕ) → Jobs → Store → Store
put_if b version epoch jobs store = if b then record store { records = Some (record { version = version + 1; epoch = epoch; jobs = jobs }) } else store

-- Records that keep their version stay whole.
pub stays_whole : (x : Exchange) (strike : Strike) (store : Store) (written processed : List ℕ) (line : ℕ) (party : Party) → records_version store.records ≡ records_version (store_after_call line party x strike store).records
    → processed_after x strike store written processed ≡ processed
stays_whole (Plain event) strike store written processed line party same = refl
stays_whole (DrawsJob moment) strike store written processed line party same = refl
stays_whole (DrawsTable moment) strike store written processed line party same = refl
stays_whole (PutsTable table rows) strike store written processed line party same = refl
stays_whole (PutsManifest version change value) strike store written processed line party same = refl
stays_whole ListsTables strike store written processed line party same = refl
stays_whole (DeletesTable table) strike store written processed line party same = refl
stays_whole (exchange.PutsRecords version change epoch jobs) strike store written processed line party same =
    by strike (version == records_version store.records) refl (same ∙ ap (λ (s : Store). records_version s.records) (called_is line party (exchange.PutsRecords version change epoch jobs) strike store))
  where
    by : (strike : Strike) (b : Bool) → (version == records_version store.records) ≡ b → records_version store.records ≡ records_version (if is_performed strike then put_if b version epoch jobs store else store).records
        → (if is_performed strike && b then written else processed) ≡ processed
    by None true e same = absurd (omega (arith, eqb-true version (records_version store.records) e, same))
    by None false e same = refl
    by (Some true) true e same = absurd (omega (arith, eqb-true version (records_version store.records) e, same))
    by (Some true) false e same = refl
    by (Some false) b e same = refl

-- Line and party are the same, so the caller is.
same_caller : (merge : Operator) (lent : ℕ) (old new : StoreParts) → new.line ≡ old.line → new.party ≡ old.party → SameCaller (view_of merge lent old) (view_of merge lent new)
same_caller merge lent old new line party = record { who = rw (line, party) refl; lent = refl; place = refl }

module _ {A : Type 0} (merge : Operator) (lent : ℕ) (old new : StoreParts) (x : Store → Exchange) (written : List ℕ) (Gives : Store → A → Type 0) (Refuses : Store → ℕ → Type 0) where
  abbrev before : StoreView
  before = view_of merge lent old

  abbrev after : StoreView
  after = view_of merge lent new

  -- The end of a call that was made.
  abbrev End : Result A SlateDBError → Type 0
  End result = Ended (x old.world.store) old.world before after (Gives old.world.store) (Refuses old.world.store) result

  abbrev Outcome : Strike → Result A SlateDBError → Type 0
  Outcome strike answer = IsOutcome (x old.world.store) written (Gives old.world.store) (Refuses old.world.store) old new (strike, answer)

  made : (answer : Result A SlateDBError) → Outcome None answer → IsMade (x old.world.store) old.world before after
  made answer is = record { room = is.room; leaves = is.world_is; spares = λ alone. spared _ old.waits new.waits is.strike_is is.waits_is; no_fault = λ alone. is.faults_are }

  -- A call that was made has ended with its answer, or with `StoreFault` if a fault struck it.
  made_end : (strike : Strike) (answer : Result A SlateDBError) → Outcome strike answer → End (ended_of (Ok (strike, answer)))
  made_end None (Ok answer) is = (is.fits, made (Ok answer) is)
  made_end None (Err (Conflict seen)) is = (is.fits, made (Err (Conflict seen)) is)
  made_end None (Err IteratorNotInitialized) is = absurd is.fits
  made_end None (Err IteratorFailed) is = absurd is.fits
  made_end None (Err MergeOperatorMissing) is = absurd is.fits
  made_end None (Err (InvalidSequenceOrder current next)) is = absurd is.fits
  made_end None (Err (MergeOperator error)) is = absurd is.fits
  made_end None (Err (CompactionFilter error)) is = absurd is.fits
  made_end None (Err InvalidCompaction) is = absurd is.fits
  made_end None (Err InvalidDBState) is = absurd is.fits
  made_end None (Err (Fenced stored)) is = absurd is.fits
  made_end None (Err StoreFault) is = absurd is.fits
  made_end None (Err NotOwner) is = absurd is.fits
  made_end None (Err (Generate message)) is = absurd is.fits
  made_end None (Err Memory) is = absurd is.fits
  made_end (Some stands) answer is =
      let s = struck _ old.waits new.waits stands is.strike_is is.waits_is in
      record {
        counts = may_strike _ old.waits s.struck;
        stands = stands;
        leaves = is.world_is;
        strikes = λ alone. s;
        fault = omega (arith, is.faults_are);
        one_fault = λ alone. is.faults_are;
      }

  low : (strike : Strike) → old.faults ≤ faults_after strike old.faults
  low None = omega arith
  low (Some stands) = omega arith

  -- A call of a store in memory is a call of a store that nobody else calls.
  called_by : (made : Result (Strike × Result A SlateDBError) AllocError) → Makes (x old.world.store) written (Gives old.world.store) (Refuses old.world.store) old new made → Called before after x Gives Refuses (ended_of made)
  called_by (Err refusal) same = record {
    same = same_caller merge lent old new (ap (λ l. l.line) same) (ap (λ l. l.party) same);
    rise = omega (arith, ap (λ l. l.faults) same);
    whole = λ version. ap (λ l. l.processed) same;
    met = old.world;
    rivals = nobody merge old;
    ended = record { leaves = ap (λ l. l.world) same; waits_on = λ alone. ap (λ l. l.waits) same; no_fault = λ alone. ap (λ l. l.faults) same };
  }
  called_by (Ok (strike, answer)) is = record {
    same = same_caller merge lent old new is.line_is is.party_is;
    rise = omega (arith, is.faults_are, low strike);
    whole = λ version. is.processed_is ∙ stays_whole (x old.world.store) strike old.world.store written old.processed old.line (party_of old.party) (version ∙ ap (λ (t : World). records_version t.store.records) is.world_is);
    met = old.world;
    rivals = nobody merge old;
    ended = made_end strike answer is;
  }

  pub called_of : (made : Result (Strike × Result A SlateDBError) AllocError) (result : Result A SlateDBError) → result ≡ ended_of made → Makes (x old.world.store) written (Gives old.world.store) (Refuses old.world.store) old new made
      → Called before after x Gives Refuses result
  called_of made result is makes = subst (Called before after x Gives Refuses) (sym is) (called_by made makes)

-- ---- records

module _ (merge : Operator) (lent : ℕ) (old new : StoreParts) where
  -- A get of the records answers them whole.
  pub gets_records : (made : Result (Strike × Result (Option VersionedRecords) SlateDBError) AllocError) (result : Result (Option VersionedRecords) SlateDBError) → result ≡ ended_of made
      → Makes (Plain GetRecords) [] (λ records. AreRecords records old.world.store) (Never old.world.store) old new made → Answers (λ records. processed_by (jobs_or_none records) ≡ old.processed) made
      → GetsRecords (view_of merge lent old) (view_of merge lent new) result
  gets_records made result is makes whole = record {
    called = called_of merge lent old new (λ met. Plain GetRecords) [] (λ met records. AreRecords records met) Never made result is makes;
    answer = subst (λ r. IfOk r (λ records. processed_by (jobs_or_none records) ≡ new.processed)) (sym is) (by made makes whole);
  }
    where
      by : (made : Result (Strike × Result (Option VersionedRecords) SlateDBError) AllocError) → Makes (Plain GetRecords) [] (λ records. AreRecords records old.world.store) (Never old.world.store) old new made
          → Answers (λ records. processed_by (jobs_or_none records) ≡ old.processed) made → IfOk (ended_of made) (λ records. processed_by (jobs_or_none records) ≡ new.processed)
      by (Err refusal) makes whole = tt
      by (Ok (None, Ok records)) makes whole = whole ∙ sym makes.processed_is
      by (Ok (None, Err e)) makes whole = tt
      by (Ok (Some stands, answer)) makes whole = tt

  -- A put of records stores them whole, if it takes effect.
  pub puts_records : (version : ℕ) (value : Compactions) (why : RecordChange) (made : Result (Strike × Result ℕ SlateDBError) AllocError) (result : Result ℕ SlateDBError) → result ≡ ended_of made
      → Makes (records_put version value why) (processed_by value.jobs) (PutsNext version (records_version old.world.store.records)) (ShowsStored version (records_version old.world.store.records)) old new made
      → PutsRecords (view_of merge lent old) (view_of merge lent new) version value why result
  puts_records version value why made result is makes =
      let called = called_of merge lent old new (λ met. records_put version value why) (processed_by value.jobs) (λ met. PutsNext version (records_version met.records)) (λ met. ShowsStored version (records_version met.records)) made result is makes in
      record {
        called = called;
        stored = subst (λ (met : World). records_version new.world.store.records ≢ records_version met.store.records → new.processed ≡ processed_by value.jobs)
            (only_met (caller_of merge old) old.world called.met refl called.rivals) (by made makes);
      }
    where
      by : (made : Result (Strike × Result ℕ SlateDBError) AllocError) → Makes (records_put version value why) (processed_by value.jobs) (PutsNext version (records_version old.world.store.records)) (ShowsStored version (records_version old.world.store.records)) old new made
          → records_version new.world.store.records ≢ records_version old.world.store.records → new.processed ≡ processed_by value.jobs
      by (Err refusal) same differs = absurd (differs (ap (λ (l : StoreParts). records_version l.world.store.records) same))
      by (Ok (strike, answer)) makes differs = makes.processed_is ∙ takes_effect strike (version == records_version old.world.store.records) refl
          (λ stays. differs (ap (λ (t : World). records_version t.store.records) makes.world_is ∙ ap (λ (s : Store). records_version s.records) (called_is old.line _ (records_put version value why) strike old.world.store) ∙ stays))
        where
          takes_effect : (strike : Strike) (b : Bool) → (version == records_version old.world.store.records) ≡ b → records_version (if is_performed strike then put_if b version value.compactor_epoch (jobs_of value.jobs) old.world.store else old.world.store).records ≢ records_version old.world.store.records
              → (if is_performed strike && b then processed_by value.jobs else old.processed) ≡ processed_by value.jobs
          takes_effect None true e differs = refl
          takes_effect None false e differs = absurd (differs refl)
          takes_effect (Some true) true e differs = refl
          takes_effect (Some true) false e differs = absurd (differs refl)
          takes_effect (Some false) b e differs = absurd (differs refl)
