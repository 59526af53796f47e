-- The gets of a poll.
use Rattle.std.proofs.Common.{◌≡◌, refl, sym, ◌∙◌, ap, subst, ℕ, suc, cond, Bool, true, false, Option, None, Result, Ok, Err, option_map}
use Rattle.std.specs.Prelude.{◌≤◌, IfErr, IfOk, IsOkUnless, nat_lt}
use Rattle.std.specs.List.{AllByRecursion}
use Rattle.std.proofs.lemmas.Bool.{le-ltb, ltb-false}
use Rattle.row_model.specs.Fold.{IsLawful}
use Rattle.fleet_model.specs.Exchanges.{Exchange, Plain}
use Rattle.fleet_model.specs.History.{GetManifest, GetRecords}
use Rattle.fleet_model.specs.Store.{Manifest, Records, Store}
use Rattle.fleet_model.specs.Work.PollStates.{PollState}
use Rattle.step_model.specs.Courses.Course.{Course, Ends, Calls}
use Rattle.step_model.specs.Courses.StepEnds.{StepEnd, Fenced, GivesUp, Reports}
use Rattle.step_model.specs.Past.{World}
use Rattle.step_model.specs.Rivals.{Caller, Rivals, after_call}
use Rattle.step_model.specs.Steps.PollSteps.{PollAsk, poll_try, polls_over, records_or_none, unless_fenced}
use Rattle.step_model.specs.Views.{StoreView}
use Rattle.step_laws.proofs.Elements.{all_to}
use Rattle.step_laws.proofs.Later.{rivals_later}
use Rattle.fleet_rows.specs.declared.errors.SlateDBError.{SlateDBError}
use Rattle.fleet_rows.specs.declared.errors.SlateDBError.TheVariants as error
use Rattle.fleet_tree.specs.declared.manifest.VersionedManifest.{VersionedManifest}
use Rattle.fleet_book.specs.StateParts.{StateParts}
use Rattle.fleet_book.specs.States.{own_jobs}
use Rattle.fleet_book.specs.VersionedRecords.{VersionedRecords}
use Rattle.fleet_book.specs.Versions.{records_of}
use Rattle.fleet_store.specs.Asks.{GetsManifest, GetsRecords}
use Rattle.fleet_store.specs.Called.{Called}
use Rattle.fleet_store.specs.Handles.{NamesTable}
use Rattle.fleet_store.specs.Manifests.{bare, bare_of, views_in}
use Rattle.fleet_store.specs.Records.{DescribeTables, jobs_or_none}
use Rattle.fleet_store.proofs.Later.{got_stays}
use Rattle.fleet_step.specs.Steps.{Leads}
use Rattle.fleet_step.proofs.Steps.{begins, call_leads, then_leads, then_ran, wants}
use Rattle.fleet_step.proofs.Turns.{get_fails, got_manifest, is_fenced, manifest_is}
use Rattle.fleet_poll.specs.Made.{own_core}
use Rattle.fleet_coordinator.specs.Polling.{Fails, GetsPoll, IsGot, MayPoll, fenced_at}
use Rattle.fleet_coordinator.specs.declared.polling.GotPoll.{GotPoll}
use Rattle.fleet_coordinator.proofs.PollFacts.{epochs_agree}
use Rattle.fleet_coordinator.proofs.RecordPuts.{ends_so}

-- ---- ends

-- A poll that came so far ends with this error.
pub then_fails : {course rest : Course (StepEnd PollState)} {old mid new : StoreView} → Leads course old rest mid → (e : SlateDBError) → Fails rest mid new e → Fails course old new e
then_fails lead e ran = then_ran Reports lead ran

-- Memory runs out.
pub lacks_memory : {course rest : Course (StepEnd PollState)} {old mid : StoreView} → Leads course old rest mid → Fails course old mid error.Memory
lacks_memory {rest = rest} {mid = mid} lead = then_ran Reports lead (wants Reports rest mid)

-- A call that is no put fails.
pub call_ends : {C : Type 0} {x : Exchange} {old new : StoreView} {P : Store → C → Type 0} {e : SlateDBError} {next : Store → Course (StepEnd PollState)} → Called old new (λ met. x) P (λ met seen. ⊥) (Err e) → Fails (Calls x next) old new e
call_ends {x = x} {old = old} {e = e} {next = next} called = ends_so Reports (begins (Calls x next) old) e (get_fails {A = PollState} called)

-- ---- fences

-- The epoch fences nothing.
abbrev passes : Result (Unit {0}) SlateDBError
passes = Ok tt

pub is_above : (epoch stored : ℕ) (e : SlateDBError) → Err e ≡ fenced_at epoch stored → (nat_lt epoch stored ≡ true) × (e ≡ error.Fenced stored)
is_above epoch stored e is = by (nat_lt epoch stored) refl is
  where
    by : (b : Bool) → nat_lt epoch stored ≡ b → Err e ≡ cond b (Err (error.Fenced stored)) passes → (nat_lt epoch stored ≡ true) × (e ≡ error.Fenced stored)
    by true f is = (f, cc is)
    by false f is = absurd (cc is)

pub not_above : (epoch stored : ℕ) (done : Unit {0}) → Ok done ≡ fenced_at epoch stored → stored ≤ epoch
not_above epoch stored done is = by (nat_lt epoch stored) refl is
  where
    by : (b : Bool) → nat_lt epoch stored ≡ b → Ok done ≡ cond b (Err (error.Fenced stored)) passes → stored ≤ epoch
    by true f is = absurd (cc is)
    by false f is = ltb-false epoch stored f

-- A stored epoch that did not fence is at most the coordinator's.
pub low_by : (epoch stored n : ℕ) → stored ≡ n → (done : Unit {0}) → Ok done ≡ fenced_at epoch stored → n ≤ epoch
low_by epoch stored n is done passed = subst (λ x. x ≤ epoch) is (not_above epoch stored done passed)

-- A poll over what it got fails only if memory runs out.
pub over_fails : {A : Type 0} {course rest : Course (StepEnd PollState)} {old mid : StoreView} → Leads course old rest mid → (result : Result A SlateDBError) → IsOkUnless result error.Memory → IfErr result (λ e. Fails course old mid e)
over_fails lead (Ok x) memory = tt
over_fails {course = course} {old = old} {mid = mid} lead (Err e) memory = subst (Fails course old mid) (sym memory) (lacks_memory lead)

module _ {course : Course (StepEnd PollState)} {old mid : StoreView} (next : Course (StepEnd PollState)) (epoch stored : ℕ) (lead : Leads course old (unless_fenced epoch stored next) mid) where
  fences_here : nat_lt epoch stored ≡ true → Fails course old mid (error.Fenced stored)
  fences_here above = (is_fenced {A = PollState} {ends = Reports} {again = λ seen. Ends (GivesUp seen)} lead stored (ap (λ b. cond b (Ends (Fenced stored)) next) above)).ended refl

  goes_on : stored ≤ epoch → Leads course old next mid
  goes_on high = subst (λ rest. Leads course old rest mid) (ap (λ b. cond b (Ends (Fenced stored)) next) (le-ltb epoch stored high)) lead

-- ---- both gets

module _ (old mid : StoreView) (epoch : ℕ) (m : VersionedManifest) (first : GetsManifest old mid (Ok m)) where
  abbrev shown : World
  shown = first.met

  first_epoch : m.manifest.compactor_epoch ≡ shown.store.manifest.epoch
  first_epoch = ap (λ (x : Manifest). x.epoch) first.ended.0.same

  -- How a poll goes on with the store that its get of the records met.
  abbrev over : PollAsk → (left seen : ℕ) → (again : ℕ → Course (StepEnd PollState)) → Store → Course (StepEnd PollState)
  over ask left seen again met = polls_over ask met.tables shown.store.manifest (records_or_none met.records) (suc left) seen again

  module _ (ask : PollAsk) (left seen : ℕ) (again : ℕ → Course (StepEnd PollState)) (same : ask.epoch ≡ epoch) where
    abbrev after_records : Store → Course (StepEnd PollState)
    after_records met = unless_fenced ask.epoch (records_or_none met.records).epoch (over ask left seen again met)

    at_manifest : Leads (poll_try ask left seen again) old (unless_fenced ask.epoch shown.store.manifest.epoch (Calls (Plain GetRecords) after_records)) mid
    at_manifest = got_manifest first (λ manifest. unless_fenced ask.epoch manifest.epoch (Calls (Plain GetRecords) (λ met.
        unless_fenced ask.epoch (records_or_none met.records).epoch (polls_over ask met.tables manifest (records_or_none met.records) (suc left) seen again))))

    pub manifest_fences : nat_lt epoch m.manifest.compactor_epoch ≡ true → Fails (poll_try ask left seen again) old mid (error.Fenced m.manifest.compactor_epoch)
    manifest_fences above =
        rw first_epoch (fences_here (Calls (Plain GetRecords) after_records) ask.epoch shown.store.manifest.epoch at_manifest (ap (λ e. nat_lt e shown.store.manifest.epoch) same ∙ sym (ap (nat_lt epoch) first_epoch) ∙ above))

    module _ (high : m.manifest.compactor_epoch ≤ epoch) where
      at_records : Leads (poll_try ask left seen again) old (Calls (Plain GetRecords) after_records) mid
      at_records = goes_on (Calls (Plain GetRecords) after_records) ask.epoch shown.store.manifest.epoch at_manifest (subst (λ e. shown.store.manifest.epoch ≤ e) (sym same) (subst (λ n. n ≤ epoch) first_epoch high))

      pub records_fail : (new : StoreView) (e : SlateDBError) → GetsRecords mid new (Err e) → Fails (poll_try ask left seen again) old new e
      records_fail new e gets = then_fails at_records e (call_ends gets.called)

      module _ (new : StoreView) (r : Option VersionedRecords) (second : GetsRecords mid new (Ok r)) where
        abbrev found : World
        found = second.called.met

        at_found : Leads (poll_try ask left seen again) old (after_records found.store) new
        at_found = then_leads at_records (call_leads second.called after_records)

        module _ (n : VersionedRecords) (is : records_of n ≡ records_or_none (option_map records_of r)) where
          second_epoch : n.compactions.compactor_epoch ≡ (records_or_none found.store.records).epoch
          second_epoch = ap (λ (x : Records). x.epoch) (is ∙ ap records_or_none second.called.ended.0.same)

          pub records_fence : nat_lt epoch n.compactions.compactor_epoch ≡ true → Fails (poll_try ask left seen again) old new (error.Fenced n.compactions.compactor_epoch)
          records_fence above =
              rw second_epoch (fences_here (over ask left seen again found.store) ask.epoch (records_or_none found.store.records).epoch at_found (ap (λ e. nat_lt e (records_or_none found.store.records).epoch) same ∙ sym (ap (nat_lt epoch) second_epoch) ∙ above))

          pub found_over : n.compactions.compactor_epoch ≤ epoch → Leads (poll_try ask left seen again) old (over ask left seen again found.store) new
          found_over low = goes_on (over ask left seen again found.store) ask.epoch (records_or_none found.store.records).epoch at_found (subst (λ e. (records_or_none found.store.records).epoch ≤ e) (sym same) (subst (λ x. x ≤ epoch) second_epoch low))

  -- What the poll got, before its first step.
  module _ (high : m.manifest.compactor_epoch ≤ epoch) (new : StoreView) (r : Option VersionedRecords) (second : GetsRecords mid new (Ok r)) (n : VersionedRecords) (is : records_of n ≡ records_or_none (option_map records_of r))
      (jobs : n.compactions.jobs ≡ jobs_or_none r) (low : n.compactions.compactor_epoch ≤ epoch) where
    abbrev here : World
    here = second.called.met

    records_here : records_of n ≡ records_or_none here.store.records
    records_here = is ∙ ap records_or_none second.called.ended.0.same

    -- Calls of others may come between the two gets.
    pub between : Rivals old.who (after_call old.who.line old.who.party (Plain GetManifest) None shown) here
    between = subst (λ (t : World). Rivals old.who t here) first.ended.1.leaves (subst (λ (w : Caller). Rivals w mid.world here) first.same.who second.called.rivals)

    pub low_manifest : shown.store.manifest.epoch ≤ epoch
    low_manifest = subst (λ x. x ≤ epoch) first_epoch high

    pub low_records : (records_or_none here.store.records).epoch ≤ epoch
    low_records = subst (λ (x : Records). x.epoch ≤ epoch) records_here low

    -- The epochs that were got agree if those of the stored objects do.
    pub same_epochs : shown.store.manifest.epoch ≡ (records_or_none here.store.records).epoch → m.manifest.compactor_epoch ≡ n.compactions.compactor_epoch
    same_epochs agree = first_epoch ∙ agree ∙ sym (ap (λ (x : Records). x.epoch) records_here)

    named_here : AllByRecursion (NamesTable here.store.tables) (views_in m.manifest.core)
    named_here = all_to _ _ (views_in m.manifest.core) (λ view there named. (got_stays mid.world.store here.store (rivals_later mid.who mid.world here second.called.rivals)).view view named) (manifest_is first).views

    pub gets_poll : (got : GotPoll) → IsGot m n got → GetsPoll epoch old new got
    gets_poll got has = record {
      shown = shown;
      found = here;
      met = first.rivals;
      low = low_manifest;
      met_next = between;
      records_low = low_records;
      leaves = subst (λ (w : Caller). new.world ≡ after_call w.line w.party (Plain GetRecords) None here) first.same.who second.called.ended.1.leaves;
      leads = λ ask left seen again same. found_over ask left seen again same high new r second n is low;
      begun = has.begun;
      core_is = has.core_is ∙ sym (ap own_core has.state);
      epoch_is = has.epoch_is ∙ ap (λ (x : Records). x.epoch) records_here;
      manifest_is = subst (λ (s : StateParts). bare_of s.manifest.id s.manifest.manifest ≡ bare shown.store.manifest) (sym has.state) first.ended.0.same;
      views = subst (λ core. AllByRecursion (NamesTable here.store.tables) (views_in core)) (sym has.core_is) named_here;
      records_are = ap (λ (s : StateParts). records_of s.compactions) has.state ∙ records_here;
      described = subst (λ js. DescribeTables js here.store) (sym (ap own_jobs has.state ∙ jobs)) second.called.ended.0.handles;
    }

    pub all_got : (result : Result GotPoll SlateDBError) → IfOk result (IsGot m n) → IfOk result (GetsPoll epoch old new)
    all_got (Ok got) has = gets_poll got has
    all_got (Err e) has = tt

    -- The objects that were got have one epoch.
    pub epochs_meet : IsLawful old.who.merge → MayPoll old epoch → m.manifest.compactor_epoch ≡ n.compactions.compactor_epoch
    epochs_meet merges may =
        same_epochs (epochs_agree old.who epoch may.number old.world shown here merges may.party may.keeps may.holds first.rivals low_manifest between low_records)
