-- A store that others call too, who put stored objects once more.
use Rattle.std.proofs.Common.{◌≡◌, ◌≢◌, refl, ap, sym, ◌∙◌, subst, ℕ, ◌≤◌, Bool, true, false, cond, List, [], ◌∷◌, ◌++◌, Option, Some, None, Result, Ok, Err, IsTrue, arith}
use Rattle.std.specs.Prelude.{is_some}
use Rattle.row_model.specs.Append.{append}
use Rattle.row_model.specs.Fold.{Operator}
use Rattle.fleet_model.specs.History.{Party, Submitter, Worker, Submit, Claim, Commit}
use Rattle.fleet_model.specs.Exchanges.{Exchange}
use Rattle.fleet_model.specs.Jobs.{Job, Jobs, changed_jobs, trimmed_jobs}
use Rattle.fleet_model.specs.Work.Records.{Unrecorded, claimed_by, jobs_after, no_contexts}
use Rattle.fleet_model.specs.Past.Replay.{epoch_after}
use Rattle.fleet_model.specs.Store.{Store}
use Rattle.fleet_model.specs.Store as model_store
use Rattle.step_model.specs.Past.{World}
use Rattle.step_model.specs.Views.{StoreView}
use Rattle.step_model.specs.Lawful.{Lawful}
use Rattle.step_model.specs.LawfulManifests.{ManifestFits}
use Rattle.step_model.specs.LawfulRecords.{NamesFit, RecordsFit}
use Rattle.step_model.specs.Rivals.{Caller, MayStrike, Rivals, RivalsFrom, Strike, is_deletion, after_call}
use Rattle.fleet_rows.specs.declared.errors.SlateDBError.{SlateDBError}
use Rattle.fleet_rows.specs.declared.errors.SlateDBError.TheVariants.{IteratorNotInitialized, IteratorFailed, MergeOperatorMissing, InvalidSequenceOrder, MergeOperator, CompactionFilter, InvalidCompaction, InvalidDBState, Fenced, StoreFault, NotOwner, Conflict, Generate, Memory}
use Rattle.fleet_tree.specs.declared.manifest.Manifest.{Manifest}
use Rattle.fleet_tree.specs.declared.manifest.VersionedManifest.{VersionedManifest}
use Rattle.fleet_jobs.specs.Parts.JobParts.{JobParts}
use Rattle.fleet_jobs.specs.Jobs.{jobs_of}
use Rattle.fleet_book.specs.VersionedRecords.{VersionedRecords}
use Rattle.fleet_book.specs.Versions.{records_of}
use Rattle.fleet_book.specs.declared.compactions.Compactions.{Compactions}
use Rattle.fleet_history.specs.Parties.{party_of}
use Rattle.fleet_history.specs.declared.party.Party as own
use Rattle.fleet_history.specs.declared.manifest_change.ManifestChange.{ManifestChange}
use Rattle.fleet_history.specs.declared.record_change.RecordChange as own_change
use Rattle.fleet_store.specs.Asks.{GetsRecords, ManifestPutFits, MayCall, PutsRecords, RecordsPutFit}
use Rattle.fleet_store.specs.Called.{Called, Ended, IsMade}
use Rattle.fleet_store.specs.Exchanges.{manifest_put, records_put}
use Rattle.fleet_store.specs.Memory.{StoreParts}
use Rattle.fleet_store.specs.Under.{caller_of, view_of}
use Rattle.fleet_store.specs.Manifests.{HasTrees, IsManifest, meant_by, spec_or_none}
use Rattle.fleet_rival.specs.Callers.{shared_caller}
use Rattle.fleet_rival.specs.Rival.{StayWhole, shared_view}
use Rattle.fleet_store.proofs.Later.{called_later}
use Rattle.step_laws.proofs.Later.{rivals_later}
use Rattle.step_laws.proofs.RanLaws.{only_met}

-- No call of others came.
pub none_came : (who : Caller) (world : World) → Rivals who world world
none_came who world = record { calls = []; lead = refl; none = λ alone. refl }

absurd_alone : {A : Type 0} → false ≡ true → A
absurd_alone e = absurd (cc e)

-- ---- a call after calls of others

-- A store in memory knows who calls. `acting` is the store as the caller called it.
module _ (old acting new first : StoreParts) (line : ℕ) (party : own.Party) (acts : acting ≡ record old { line = line; party = party }) (lent called last : ℕ) where
  abbrev mine : StoreParts
  mine = record old { line = line; party = party }

  abbrev seen : StoreView
  seen = shared_view line party lent first

  abbrev left : StoreView
  left = shared_view line party last new

  -- What may be met, after calls of others.
  met_later : (met : World) → Rivals (shared_caller append line party) first.world old.world → Rivals (caller_of append acting) acting.world met → Rivals (shared_caller append line party) first.world met
  met_later met others alone =
      subst (Rivals (shared_caller append line party) first.world)
      (only_met (caller_of append mine) old.world met refl (subst (λ (l : StoreParts). Rivals (caller_of append l) l.world met) acts alone)) others

  same_party : party_of acting.party ≡ party_of party
  same_party = ap (λ (l : StoreParts). party_of l.party) acts

  -- A call that may be made whatever others do may be made after calls of others.
  pub may_call : (x : Store → Exchange) → Rivals (shared_caller append line party) first.world old.world → MayCall seen x → MayCall (view_of append called acting) x
  may_call x others may met alone = subst (λ by. Lawful append by met (x met.store)) (sym same_party) (may met (met_later met others alone))

  pub manifest_may : (version : ℕ) (value : Manifest) (why : ManifestChange) (jobs : List JobParts) → Rivals (shared_caller append line party) first.world old.world
      → ManifestPutFits seen version value why jobs → ManifestPutFits (view_of append called acting) version value why jobs
  manifest_may version value why jobs others fits = record {
    lawful = may_call (manifest_put version value why jobs) others fits.lawful;
    shown = λ met alone. fits.shown met (met_later met others alone);
  }

  pub records_may : (version : ℕ) (value : Compactions) (why : own_change.RecordChange) → Rivals (shared_caller append line party) first.world old.world
      → RecordsPutFit seen version value why → RecordsPutFit (view_of append called acting) version value why
  records_may version value why others fits = record {
    lawful = may_call (λ met. records_put version value why) others fits.lawful;
    shown = λ met alone. fits.shown met (met_later met others alone);
  }

  -- How the caller's call ended, after calls of others.
  module _ {A : Type 0} (x : Exchange) (met : World) (Gives : A → Type 0) (Refuses : ℕ → Type 0) (low : first.faults ≤ old.faults) where
    abbrev Alone : Result A SlateDBError → Type 0
    Alone result = Ended x met (view_of append called mine) (view_of append last new) Gives Refuses result

    made_shared : IsMade x met (view_of append called mine) (view_of append last new) → IsMade x met seen left
    made_shared is = record { room = is.room; leaves = is.leaves; spares = λ alone. absurd_alone alone; no_fault = λ alone. absurd_alone alone }

    end_shared : (result : Result A SlateDBError) → Alone result → Ended x met seen left Gives Refuses result
    end_shared (Ok answer) is = (is.0, made_shared is.1)
    end_shared (Err StoreFault) is = record {
      counts = is.counts;
      stands = is.stands;
      leaves = is.leaves;
      strikes = λ alone. absurd_alone alone;
      fault = omega (arith, low, is.fault);
      one_fault = λ alone. absurd_alone alone;
    }
    end_shared (Err (Conflict seen)) is = (is.0, made_shared is.1)
    end_shared (Err Memory) is = record { leaves = is.leaves; waits_on = λ alone. absurd_alone alone; no_fault = λ alone. absurd_alone alone }
    end_shared (Err IteratorNotInitialized) is = absurd is
    end_shared (Err IteratorFailed) is = absurd is
    end_shared (Err MergeOperatorMissing) is = absurd is
    end_shared (Err (InvalidSequenceOrder current next)) is = absurd is
    end_shared (Err (MergeOperator error)) is = absurd is
    end_shared (Err (CompactionFilter error)) is = absurd is
    end_shared (Err InvalidCompaction) is = absurd is
    end_shared (Err InvalidDBState) is = absurd is
    end_shared (Err (Fenced stored)) is = absurd is
    end_shared (Err NotOwner) is = absurd is
    end_shared (Err (Generate message)) is = absurd is

  -- Calls of others and then a call by a caller that is alone are one call of a store that others call too.
  module _ (others : Rivals (shared_caller append line party) first.world old.world) (low : first.faults ≤ old.faults) (whole : StayWhole first old) (same : called ≡ lent) where
    stays_whole : {A : Type 0} (x : Store → Exchange) (Gives : Store → A → Type 0) (Refuses : Store → ℕ → Type 0) (result : Result A SlateDBError) → Called (view_of append called mine) (view_of append last new) x Gives Refuses result → StayWhole first new
    stays_whole x Gives Refuses result made version =
        let one = (rivals_later (shared_caller append line party) first.world old.world others).records_rise in
        let two = (called_later (view_of append called mine) (view_of append last new) x Gives Refuses result made).records_rise in
        made.whole (omega (arith, one, two, version)) ∙ whole (omega (arith, one, two, version))

    abbrev after_alone : {A : Type 0} (x : Store → Exchange) (Gives : Store → A → Type 0) (Refuses : Store → ℕ → Type 0) (result : Result A SlateDBError) → Called (view_of append called mine) (view_of append last new) x Gives Refuses result → Called seen left x Gives Refuses result
    after_alone x Gives Refuses result made = record {
      same = record { who = refl; lent = made.same.lent ∙ same; place = refl };
      rise = omega (arith, low, made.rise);
      whole = stays_whole x Gives Refuses result made;
      met = made.met;
      rivals = subst (Rivals (shared_caller append line party) first.world) (only_met (caller_of append mine) old.world made.met refl made.rivals) others;
      ended = end_shared (x made.met.store) made.met (Gives made.met.store) (Refuses made.met.store) low result made.ended;
    }

    pub after_others : {A : Type 0} (x : Store → Exchange) (Gives : Store → A → Type 0) (Refuses : Store → ℕ → Type 0) (result : Result A SlateDBError) → Called (view_of append called acting) (view_of append last new) x Gives Refuses result → Called seen left x Gives Refuses result
    after_others x Gives Refuses result made = after_alone x Gives Refuses result (subst (λ (l : StoreParts). Called (view_of append called l) (view_of append last new) x Gives Refuses result) acts made)

    pub gets_after : (result : Result (Option VersionedRecords) SlateDBError) → GetsRecords (view_of append called acting) (view_of append last new) result → GetsRecords seen left result
    gets_after result gets = record { called = after_others _ _ _ result gets.called; answer = gets.answer }

    puts_alone : (version : ℕ) (value : Compactions) (why : own_change.RecordChange) (result : Result ℕ SlateDBError) → PutsRecords (view_of append called mine) (view_of append last new) version value why result → PutsRecords seen left version value why result
    puts_alone version value why result puts = record { called = after_alone _ _ _ result puts.called; stored = puts.stored }

    pub puts_after : (version : ℕ) (value : Compactions) (why : own_change.RecordChange) (result : Result ℕ SlateDBError) → PutsRecords (view_of append called acting) (view_of append last new) version value why result → PutsRecords seen left version value why result
    puts_after version value why result puts = puts_alone version value why result (subst (λ (l : StoreParts). PutsRecords (view_of append called l) (view_of append last new) version value why result) acts puts)

-- Memory ran out after calls of others.
pub none_put : (old new : StoreParts) (line : ℕ) (party : own.Party) (lent last : ℕ) (version : ℕ) (value : Compactions) (why : own_change.RecordChange) (result : Result ℕ SlateDBError) → result ≡ Err Memory
    → Rivals (shared_caller append line party) old.world new.world → old.faults ≤ new.faults → StayWhole old new → last ≡ lent → PutsRecords (shared_view line party lent old) (shared_view line party last new) version value why result
none_put old new line party lent last version value why result is others low whole same = rw is (record {
  called = record {
    same = record { who = refl; lent = same; place = refl };
    rise = low;
    whole = whole;
    met = new.world;
    rivals = others;
    ended = record { leaves = refl; waits_on = λ alone. absurd_alone alone; no_fault = λ alone. absurd_alone alone };
  };
  stored = λ differs. absurd (differs refl);
})

-- ---- the call of another party

module _ (who : Caller) (others : who.alone ≡ false) (old new : StoreView) (x : Exchange) (differs : old.who.party ≢ who.party) (lawful : Lawful who.merge old.who.party old.world x) (keeps : is_deletion x ≡ false) where
  came_by : (strike : Strike) → MayStrike x old.world strike → new.world ≡ after_call old.who.line old.who.party x strike old.world → Rivals who old.world new.world
  came_by strike may is = record {
    calls = record { line = old.who.line; party = old.who.party; exchange = x; strike = strike } ∷ [];
    lead = (record { other = differs; lawful = lawful; strike = may; deletes_none = keeps }, sym is);
    none = λ alone. absurd_alone (sym others ∙ alone);
  }

  -- A lawful call of another party, however it ends, is a step of rivals.
  from_end : {A : Type 0} (Gives : A → Type 0) (Refuses : ℕ → Type 0) (result : Result A SlateDBError) → Ended x old.world old new Gives Refuses result → Rivals who old.world new.world
  from_end Gives Refuses (Ok answer) is = came_by None tt is.1.leaves
  from_end Gives Refuses (Err StoreFault) is = came_by (Some is.stands) is.counts is.leaves
  from_end Gives Refuses (Err (Conflict seen)) is = came_by None tt is.1.leaves
  from_end Gives Refuses (Err Memory) is = subst (Rivals who old.world) (sym is.leaves) (none_came who old.world)
  from_end Gives Refuses (Err IteratorNotInitialized) is = absurd is
  from_end Gives Refuses (Err IteratorFailed) is = absurd is
  from_end Gives Refuses (Err MergeOperatorMissing) is = absurd is
  from_end Gives Refuses (Err (InvalidSequenceOrder current next)) is = absurd is
  from_end Gives Refuses (Err (MergeOperator error)) is = absurd is
  from_end Gives Refuses (Err (CompactionFilter error)) is = absurd is
  from_end Gives Refuses (Err InvalidCompaction) is = absurd is
  from_end Gives Refuses (Err InvalidDBState) is = absurd is
  from_end Gives Refuses (Err (Fenced stored)) is = absurd is
  from_end Gives Refuses (Err NotOwner) is = absurd is
  from_end Gives Refuses (Err (Generate message)) is = absurd is

-- A lawful call of another party, which is alone meanwhile, is a call of others.
pub came : {A : Type 0} (who : Caller) (old new : StoreView) (x : Store → Exchange) (Gives : Store → A → Type 0) (Refuses : Store → ℕ → Type 0) (result : Result A SlateDBError) → who.alone ≡ false → old.who.alone ≡ true
    → old.who.party ≢ who.party → Lawful who.merge old.who.party old.world (x old.world.store) → is_deletion (x old.world.store) ≡ false → Called old new x Gives Refuses result → Rivals who old.world new.world
came who old new x Gives Refuses result others alone differs lawful keeps called =
    let same = only_met old.who old.world called.met alone called.rivals in
    from_end who others old new (x old.world.store) differs lawful keeps (Gives old.world.store) (Refuses old.world.store) result
    (subst (λ (met : World). Ended (x met.store) met old new (Gives met.store) (Refuses met.store) result) (sym same) called.ended)

-- ---- the stored manifest once more

module _ (world : World) (m : VersionedManifest) (is : IsManifest m world.store) where
  again : meant_by [] (Commit []) m.id m.manifest world.store ≡ world.store.manifest
  again = ap (λ (b : model_store.Manifest). record b { trees = world.store.manifest.trees }) is.same

  -- A commit of no steps may put it.
  pub manifest_fits : (party : Party) → ManifestFits party world (Commit []) (meant_by [] (Commit []) m.id m.manifest world.store)
  manifest_fits party = record { by = tt; specs = λ id. spec_or_none None; known = tt; each = tt; makes = again }

  pub manifest_trees : HasTrees m.manifest [] (Commit []) world.store
  manifest_trees = record { same = ap (λ (b : model_store.Manifest). b.trees) is.same; views = is.views }

-- ---- the stored records once more

changed_none : (f : Job → Job) (jobs : Jobs) → changed_jobs f [] jobs ≡ jobs
changed_none f [] = refl
changed_none f (job ∷ jobs) = ap (λ js. job ∷ js) (changed_none f jobs)

-- Any party may name no jobs.
pub no_names : (party : Party) (world : World) → NamesFit party world []
no_names party world = record { once = tt; drawn = tt; replays = λ specs faithful. faithful }

-- No change of the records depends on these.
pub nothing : Unrecorded
nothing = record { moment = 0; published = no_contexts; kept_cut = None; tables_of = λ spec. [] }

module _ (merge : Operator) (party : Party) (world : World) (r : VersionedRecords) (is : Some (records_of r) ≡ world.store.records) where
  there : IsTrue (is_some world.store.records)
  there = subst (λ records. IsTrue (is_some records)) is refl

  pub submit_fits : party ≡ Submitter → RecordsFit merge party world (Submit []) r.compactions.compactor_epoch (trimmed_jobs (jobs_of r.compactions.jobs))
  submit_fits by = record {
    there = there;
    unrecorded = nothing;
    makes_jobs = ap (λ records. jobs_after nothing (Submit []) (model_store.jobs_in records)) is;
    makes_epoch = ap (epoch_after (Submit [])) is;
    fits = record { by = by; new = tt };
  }

  pub claim_fits : (worker : ℕ) → party ≡ Worker worker → RecordsFit merge party world (Claim worker []) r.compactions.compactor_epoch (trimmed_jobs (jobs_of r.compactions.jobs))
  claim_fits worker by = record {
    there = there;
    unrecorded = nothing;
    makes_jobs = ap trimmed_jobs (sym (changed_none (claimed_by worker 0) (jobs_of r.compactions.jobs))) ∙ ap (λ records. jobs_after nothing (Claim worker []) (model_store.jobs_in records)) is;
    makes_epoch = ap (epoch_after (Claim worker [])) is;
    fits = record { by = by; once = tt; each = tt };
  }
