-- A call of the held store is a call of the store that a pass shows.
use Rattle.std.proofs.Common.{◌≡◌, ◌≢◌, ℕ, ◌+◌, ◌-◌, ◌≤◌, ◌<◌, List, [], ◌∷◌, ◌++◌, length, Bool, true, false, true≢false, Option, Some, None, Result, Ok, Err, refl, sym, ap, ◌∙◌, subst, arith, length-append}
use Rattle.std.specs.Prelude.{IfOk, nat_lt, if◌then◌else◌}
use Rattle.std.specs.List.{AllByRecursion}
use Rattle.row_model.specs.Fold.{Operator}
use Rattle.fleet_model.specs.History.{GetRecords}
use Rattle.fleet_model.specs.Exchanges.{Exchange, Plain, records_version}
use Rattle.fleet_model.specs.Store.{Store}
use Rattle.step_model.specs.Past.{World}
use Rattle.step_model.specs.Lawful.{Lawful}
use Rattle.step_model.specs.Rivals.{Caller, Rivals, Strike, after_call}
use Rattle.step_model.specs.Views.{StoreView}
use Rattle.step_laws.proofs.RanLaws.{only_met}
use Rattle.fleet_tree.specs.declared.manifest.Manifest.{Manifest}
use Rattle.fleet_jobs.specs.Parts.JobParts.{JobParts}
use Rattle.fleet_book.specs.VersionedRecords.{VersionedRecords}
use Rattle.fleet_book.specs.declared.compactions.Compactions.{Compactions}
use Rattle.fleet_history.specs.Changes.{manifest_change_of}
use Rattle.fleet_history.specs.declared.manifest_change.ManifestChange.{ManifestChange}
use Rattle.fleet_history.specs.declared.record_change.RecordChange.{RecordChange}
use Rattle.fleet_history.specs.Parties.{party_of}
use Rattle.fleet_history.specs.declared.party.Party.{Party}
use Rattle.fleet_rows.specs.declared.errors.SlateDBError.{SlateDBError}
use Rattle.fleet_rows.specs.declared.errors.SlateDBError.TheVariants.{IteratorNotInitialized, IteratorFailed, MergeOperatorMissing, InvalidSequenceOrder, MergeOperator, CompactionFilter, InvalidCompaction, InvalidDBState, Fenced, StoreFault, NotOwner, Conflict, Generate, Memory}
use Rattle.fleet_store.specs.Asks.{MayCall, ManifestPutFits, RecordsPutFit, GetsRecords, PutsRecords}
use Rattle.fleet_store.specs.Called.{Called, Ended, IsMade, IsStruck, Never, PutsNext, ShowsStored}
use Rattle.fleet_store.specs.Exchanges.{manifest_put, records_put}
use Rattle.fleet_store.specs.Manifests.{HasTrees}
use Rattle.fleet_store.specs.Records.{AreRecords, DescribeTables, jobs_or_none, processed_by}
use Rattle.fleet_store.specs.Memory.{StoreParts}
use Rattle.fleet_lock.specs.Held.{HeldValue, last_from, store_of}
use Rattle.fleet_lock.specs.Names.{name_of, name_at}
use Rattle.fleet_lock.specs.Counts.{claims_of, commits_of, length_of, times}
use Rattle.fleet_lock.specs.Rule.{seen_of, name_count, HoldsName, Front, IsLong, Follows, place_of, with_ticket, with_turn, after_serving}
use Rattle.fleet_lock.specs.Passes.{PassValue, IsPass, IsTally, pass_view}
use Rattle.fleet_lock.specs.Calls.{Alone, CallStands, Grows, GrowsBy, Finds, StandsAfter, StandsNowhere, is_made, lone_view, struck_by}
use Rattle.fleet_lock.specs.Steps.{CallLeads, CallsLead}
use Rattle.fleet_lock.specs.declared.sight.Sight.{Sight}
use Rattle.fleet_lock.specs.declared.tally.Tally.{Tally}
use Rattle.fleet_lock.proofs.Fronts.{all_then, append_nil, not_below, below_strictly}
use Rattle.fleet_lock.proofs.Chains.{last_append, last_push, steps_drop, steps_front, steps_push, chain_longer, step_comes, claims_rise, commits_rise, faults_rise, chain_whole, chain_rivals}

-- ---- a caller that is not alone

module _ (a b c d : StoreView) (line : a.who.line ≡ c.who.line) (party : a.who.party ≡ c.who.party) (lone : a.who.alone ≡ true) (shared : c.who.alone ≡ false) (worlds : d.world ≡ b.world)
    (faults : b.faults ≡ a.faults + 1 → c.faults < d.faults) where
  never : {P : Type 0} → c.who.alone ≡ true → P
  never alone = absurd (true≢false (sym alone ∙ shared))

  same_call : (x : Exchange) (strike : Strike) (met : World) → after_call a.who.line a.who.party x strike met ≡ after_call c.who.line c.who.party x strike met
  same_call x strike met i = after_call (line i) (party i) x strike met

  made_shared : (x : Exchange) (met : World) → IsMade x met a b → IsMade x met c d
  made_shared x met m = record { room = m.room; leaves = worlds ∙ (m.leaves ∙ same_call x None met); spares = never; no_fault = never }

  struck_shared : (x : Exchange) (met : World) → IsStruck x met a b → IsStruck x met c d
  struck_shared x met m = record { counts = m.counts; stands = m.stands; leaves = worlds ∙ (m.leaves ∙ same_call x (Some m.stands) met); strikes = never; fault = faults (m.one_fault lone); one_fault = never }

  -- A call that ended so for a caller that is alone ended so for one that is not.
  pub ended_shared : {A : Type 0} (x : Exchange) (met : World) (Gives : A → Type 0) (Refuses : ℕ → Type 0) (result : Result A SlateDBError) → Ended x met a b Gives Refuses result → Ended x met c d Gives Refuses result
  ended_shared x met Gives Refuses (Ok answer) e = (e.0, made_shared x met e.1)
  ended_shared x met Gives Refuses (Err StoreFault) e = struck_shared x met e
  ended_shared x met Gives Refuses (Err (Conflict seen)) e = (e.0, made_shared x met e.1)
  ended_shared x met Gives Refuses (Err Memory) e = record { leaves = worlds ∙ e.leaves; waits_on = never; no_fault = never }
  ended_shared x met Gives Refuses (Err IteratorNotInitialized) e = absurd e
  ended_shared x met Gives Refuses (Err IteratorFailed) e = absurd e
  ended_shared x met Gives Refuses (Err MergeOperatorMissing) e = absurd e
  ended_shared x met Gives Refuses (Err (InvalidSequenceOrder current next)) e = absurd e
  ended_shared x met Gives Refuses (Err (MergeOperator error)) e = absurd e
  ended_shared x met Gives Refuses (Err (CompactionFilter error)) e = absurd e
  ended_shared x met Gives Refuses (Err InvalidCompaction) e = absurd e
  ended_shared x met Gives Refuses (Err InvalidDBState) e = absurd e
  ended_shared x met Gives Refuses (Err (Fenced stored)) e = absurd e
  ended_shared x met Gives Refuses (Err NotOwner) e = absurd e
  ended_shared x met Gives Refuses (Err (Generate message)) e = absurd e

-- ---- what a pass finds

-- The state that a view has seen after it found the value.
found_is : (v : Sight) (t : ℕ) (h : HeldValue) → h.base ≡ v.base → seen_of (with_turn (with_ticket v t) h) ≡ store_of h
found_is v t h base = ap (λ b. last_from b h.trace) (sym base)

-- What came since the pass looked last is calls of others.
module _ (folds : List ℕ → Operator) (lent : ℕ) (pass : PassValue) (h : HeldValue) (finds : Finds folds pass.sight h) (name : HoldsName pass.sight (name_of (party_of pass.party))) where
  abbrev v : Sight
  v = pass.sight

  abbrev who : Caller
  who = (pass_view folds lent pass).who

  front : Front v h.trace
  front = finds.found.front

  -- The calls since then.
  since : CallsLead who.merge (seen_of v) front.more
  since = steps_drop who.merge v.base v.trace front.more
      (subst (λ (x : List ℕ × (StoreParts × List StoreParts)). CallsLead (folds x.0) x.1.0 x.1.1) (λ i. (finds.found.settings i, (finds.found.base i, sym front.is i))) finds.steps)

  last_is : last_from (seen_of v) front.more ≡ store_of h
  last_is = sym (last_append v.base v.trace front.more) ∙ (λ i. last_from (sym finds.found.base i) (front.is i))

  others : AllByRecursion (λ state. party_of state.party ≢ who.party) front.more
  others = all_then (λ state. name_count v (name_at state) ≡ 0) (λ state. party_of state.party ≢ who.party) front.more
      (λ state none_held same. let e : name_count v (name_at state) ≡ name_count v (name_of (party_of pass.party)) = ap (λ p. name_count v (name_of p)) same in absurd (omega arith)) front.others

  pub found_rivals : Rivals who (seen_of v).world (store_of h).world
  found_rivals = subst (λ (s : StoreParts). Rivals who (seen_of v).world s.world) last_is (chain_rivals who (seen_of v) front.more refl since others)

  pub found_whole : records_version (seen_of v).world.store.records ≡ records_version (store_of h).world.store.records → (store_of h).processed ≡ (seen_of v).processed
  found_whole same = subst (λ (s : StoreParts). records_version (seen_of v).world.store.records ≡ records_version s.world.store.records → s.processed ≡ (seen_of v).processed) last_is
      (chain_whole who.merge (seen_of v) front.more since) same

  -- So it is after the call that leaves another value.
  pub left_whole : (line : ℕ) (party : Party) (made : Bool) (left : HeldValue) → Grows who.merge line party made h left
      → records_version (seen_of v).world.store.records ≡ records_version (store_of left).world.store.records → (store_of left).processed ≡ (seen_of v).processed
  left_whole line party made left grows = by made refl
    where
      Stays : StoreParts → Type 0
      Stays s = records_version (seen_of v).world.store.records ≡ records_version s.world.store.records → s.processed ≡ (seen_of v).processed

      same : left.trace ≡ h.trace → Stays (store_of left)
      same e = subst Stays (λ i. last_from (sym grows.base i) (sym e i)) found_whole

      one : (state : StoreParts) × GrowsBy who.merge line party h left state → Stays (store_of left)
      one x =
          let state = x.0 in
          let step : CallLeads who.merge (last_from (seen_of v) front.more) state = subst (λ s. CallLeads who.merge s state) (sym last_is) x.1.step in
          let all : Stays (last_from (seen_of v) (front.more ++ state ∷ [])) = chain_whole who.merge (seen_of v) (front.more ++ state ∷ []) (steps_push who.merge (seen_of v) front.more state since step) in
          let here : store_of left ≡ state = (λ i. last_from (grows.base i) (x.1.trace i)) ∙ last_push h.base h.trace state in
          subst Stays (last_push (seen_of v) front.more state ∙ sym here) all

      by : (b : Bool) → made ≡ b → Stays (store_of left)
      by true e = one (grows.one e)
      by false e = same (grows.same e)

  -- What holds of each store that others may leave holds of the store that is found, if nobody calls it meanwhile.
  pub at_found : (P : World → Type 0) → ((met : World) → Rivals who (seen_of v).world met → P met) → (caller : Caller) → caller.alone ≡ true → (met : World) → Rivals caller (store_of h).world met → P met
  at_found P all caller alone met rivals = subst P (only_met caller (store_of h).world met alone rivals) (all (store_of h).world found_rivals)

-- ---- what a pass leaves

-- The history of what a call leaves is as long as there are states.
long_left : (merge : Operator) (line : ℕ) (party : Party) (made : Bool) (h left : HeldValue) → CallsLead merge h.base h.trace → Grows merge line party made h left → IsLong left.base left.trace
long_left merge line party made h left steps grows = by made refl
  where
    -- At a list of states that calls lead through.
    at_states : (states : List StoreParts) → left.trace ≡ states → CallsLead merge h.base states → IsLong left.base left.trace
    at_states states e all = subst (λ (y : StoreParts × List StoreParts). IsLong y.0 y.1) (λ i. (sym grows.base i, sym e i)) (chain_longer merge h.base states all)

    by : (b : Bool) → made ≡ b → IsLong left.base left.trace
    by true e = let g = grows.one e in at_states (h.trace ++ g.0 ∷ []) g.1.trace (steps_push merge h.base h.trace g.0 steps g.1.step)
    by false e = at_states h.trace (grows.same e) steps

-- The value that a pass gives back follows what the pass found.
pub follows_found : (folds : List ℕ → Operator) (line : ℕ) (party : Party) (made : Bool) (v : Sight) (t : ℕ) (h left : HeldValue) → Finds folds v h → Grows (folds h.settings) line party made h left → HoldsName v (name_of (party_of party))
    → Follows (with_turn (with_ticket v t) h) left
follows_found folds line party made v t h left finds grows name = by made refl
  where
    merge : Operator
    merge = folds h.settings

    long : IsLong left.base left.trace
    long = long_left (folds h.settings) line party made h left finds.steps grows

    found : seen_of (with_turn (with_ticket v t) h) ≡ store_of h
    found = found_is v t h finds.found.base

    same : left.trace ≡ h.trace → Follows (with_turn (with_ticket v t) h) left
    same e =
        let s : store_of left ≡ store_of h = λ i. last_from (grows.base i) (e i) in
        let to : seen_of (with_turn (with_ticket v t) h) ≡ store_of left = found ∙ sym s in
        let a = ap claims_of to in
        let b = ap commits_of to in
        let c = ap (λ (m : StoreParts). m.faults) to in
        record {
          base = grows.base ∙ finds.found.base;
          settings = grows.settings ∙ finds.found.settings;
          more = [];
          is = append_nil h.trace ∙ sym e;
          few = omega arith;
          long = long;
          mine = tt;
          claims = omega arith;
          commits = omega arith;
          struck = omega arith;
        }

    one : (state : StoreParts) × GrowsBy merge line party h left state → Follows (with_turn (with_ticket v t) h) left
    one x =
        let state = x.0 in
        let step = x.1.step in
        let s : store_of left ≡ state = (λ i. last_from (grows.base i) (x.1.trace i)) ∙ last_push h.base h.trace state in
        let comes = step_comes merge (store_of h) state step in
        let a = claims_rise (store_of h) state comes in
        let b = commits_rise (store_of h) state comes in
        let c = faults_rise _ (store_of h).faults state.faults step.faults in
        let a' = ap claims_of found in
        let b' = ap commits_of found in
        let c' = ap (λ (m : StoreParts). m.faults) found in
        let a'' = ap claims_of s in
        let b'' = ap commits_of s in
        let c'' = ap (λ (m : StoreParts). m.faults) s in
        record {
          base = grows.base ∙ finds.found.base;
          settings = grows.settings ∙ finds.found.settings;
          more = state ∷ [];
          is = sym x.1.trace;
          few = omega arith;
          long = long;
          mine = (subst (λ p. HoldsName v (name_of p)) (sym x.1.party_is) name, tt);
          claims = omega arith;
          commits = omega arith;
          struck = omega arith;
        }

    by : (b : Bool) → made ≡ b → Follows (with_turn (with_ticket v t) h) left
    by true e = one (grows.one e)
    by false e = same (grows.same e)

-- The view after the call has seen the value that the call left.
left_is : (v : Sight) (t : ℕ) (h left : HeldValue) → left.base ≡ v.base → seen_of (after_serving (with_turn (with_ticket v t) h) left) ≡ store_of left
left_is v t h left base = ap (λ b. last_from b left.trace) (sym base)

-- ---- the whole call

module _ (folds : List ℕ → Operator) (lent : ℕ) (pass : PassValue) (h : HeldValue) (finds : Finds folds pass.sight h) (name : HoldsName pass.sight (name_of (party_of pass.party))) where
  abbrev fold_found : Operator
  fold_found = folds h.settings

  abbrev fold_seen : Operator
  fold_seen = folds pass.sight.settings

  abbrev old : StoreView
  old = pass_view folds lent pass

  abbrev lone : ℕ → HeldValue → StoreView
  lone other value = lone_view fold_found pass.line pass.party other (store_of value)

  to_found : (x : Exchange) (met : World) → Lawful fold_seen (party_of pass.party) met x → Lawful fold_found (party_of pass.party) met x
  to_found x met = subst (λ s. Lawful (folds s) (party_of pass.party) met x) (sym finds.found.settings)

  -- A call that may be made after any calls of others may be made of the value that is found.
  pub may_call : (x : Store → Exchange) → MayCall old x → (other : ℕ) → MayCall (lone other h) x
  may_call x may other met rivals = to_found (x met.store) met (at_found folds lent pass h finds name (λ w. Lawful fold_seen (party_of pass.party) w (x w.store)) may (lone other h).who refl met rivals)

  pub may_put_manifest : (version : ℕ) (value : Manifest) (why : ManifestChange) (jobs : List JobParts) → ManifestPutFits old version value why jobs → (other : ℕ) → ManifestPutFits (lone other h) version value why jobs
  may_put_manifest version value why jobs fit other = record {
    lawful = may_call (manifest_put version value why jobs) fit.lawful other;
    shown = at_found folds lent pass h finds name (λ w. version ≡ w.store.manifest.version → HasTrees value jobs (manifest_change_of why) w.store) fit.shown (lone other h).who refl;
  }

  pub may_put_records : (version : ℕ) (value : Compactions) (why : RecordChange) → RecordsPutFit old version value why → (other : ℕ) → RecordsPutFit (lone other h) version value why
  may_put_records version value why fit other = record {
    lawful = may_call (λ met. records_put version value why) fit.lawful other;
    shown = at_found folds lent pass h finds name (λ w. version ≡ records_version w.store.records → DescribeTables value.jobs w.store) fit.shown (lone other h).who refl;
  }

  module _ (t : ℕ) (made : Bool) (left : HeldValue) (grows : Grows fold_found pass.line pass.party made h left) where
    abbrev kept : PassValue
    kept = record pass { sight = after_serving (with_turn (with_ticket pass.sight t) h) left }

    abbrev new : StoreView
    new = pass_view folds lent kept

    grows_seen : Grows fold_seen pass.line pass.party made h left
    grows_seen = subst (λ s. Grows (folds s) pass.line pass.party made h left) finds.found.settings grows

    seen_now : seen_of kept.sight ≡ store_of left
    seen_now = left_is pass.sight t h left (grows.base ∙ finds.found.base)

    struck_now : kept.sight.struck ≡ pass.sight.struck + ((store_of left).faults - (store_of h).faults)
    struck_now = ap (λ (s : StoreParts). pass.sight.struck + ((store_of left).faults - s.faults)) (found_is pass.sight t h finds.found.base)

    processed_now : new.processed ≡ (store_of left).processed
    processed_now = ap (λ (s : StoreParts). s.processed) seen_now

    worlds_now : new.world ≡ (store_of left).world
    worlds_now = ap (λ (s : StoreParts). s.world) seen_now

    whole_now : records_version old.world.store.records ≡ records_version new.world.store.records → new.processed ≡ old.processed
    whole_now same = processed_now ∙ left_whole folds lent pass h finds name pass.line pass.party made left grows_seen (same ∙ ap (λ (w : World). records_version w.store.records) worlds_now)

    pub called_shared : {A : Type 0} (other : ℕ) (x : Store → Exchange) (Gives : Store → A → Type 0) (Refuses : Store → ℕ → Type 0) (result : Result A SlateDBError) → Called (lone other h) (lone other left) x Gives Refuses result → Called old new x Gives Refuses result
    called_shared {A} other x Gives Refuses result called =
        let s = struck_now in
        record {
          same = record { who = refl; lent = refl; place = refl };
          rise = omega arith;
          whole = whole_now;
          met = called.met;
          rivals = subst (Rivals old.who old.world) (only_met (lone other h).who (store_of h).world called.met refl called.rivals) (found_rivals folds lent pass h finds name);
          ended = ended_shared (lone other h) (lone other left) old new refl refl refl refl worlds_now (λ one. omega arith) (x called.met.store) called.met (Gives called.met.store) (Refuses called.met.store) result called.ended;
        }

    pub gets_shared : (result : Result (Option VersionedRecords) SlateDBError) → Alone fold_found pass.line pass.party (λ before after. GetsRecords before after result) h left → GetsRecords old new result
    gets_shared result a = record {
      called = called_shared a.0 (λ met. Plain GetRecords) (λ met records. AreRecords records met) Never result a.1.called;
      answer = subst (λ (p : List ℕ). IfOk result (λ records. processed_by (jobs_or_none records) ≡ p)) (sym processed_now) a.1.answer;
    }

    pub puts_shared : (version : ℕ) (value : Compactions) (why : RecordChange) (result : Result ℕ SlateDBError) → Alone fold_found pass.line pass.party (λ before after. PutsRecords before after version value why result) h left → PutsRecords old new version value why result
    unfolding called_shared
    puts_shared version value why result a = record {
      called = called_shared a.0 (λ met. records_put version value why) (λ met. PutsNext version (records_version met.records)) (λ met. ShowsStored version (records_version met.records)) result a.1.called;
      stored = λ differs. processed_now ∙ a.1.stored (λ same. differs (ap (λ (w : World). records_version w.store.records) worlds_now ∙ same));
    }

    -- The pass after the call.
    pub pass_kept : (views : List Sight) (parts : ℕ) (tally : Tally) → ((name : ℕ) → times name pass.sight.handed ≤ pass.sight.whole + times name pass.sight.received) → views ≡ kept.sight ∷ [] → parts ≡ pass.sight.parts → 0 < parts → IsTally tally kept.sight → IsPass views parts tally pass.party
    pass_kept views parts tally names is same some tells =
        let k : IsPass (kept.sight ∷ []) parts tally pass.party = record { one = refl; idle = (refl, refl); parts_are = same; some_part = some; tally_is = tells; name = name; names = names } in
        subst (λ vs. IsPass vs parts tally pass.party) (sym is) k

    -- ---- where the call stands

    -- All states since the store was shared are steps, as many as entries.
    long_found : length_of (store_of h) ≡ length_of pass.sight.base + length h.trace
    long_found = let a = chain_longer fold_found h.base h.trace finds.steps in let b = ap length_of finds.found.base in omega arith

    long_seen : length_of (seen_of pass.sight) ≡ length_of pass.sight.base + length pass.sight.trace
    long_seen =
        let more = finds.found.front.more in
        let steps : CallsLead fold_found h.base (pass.sight.trace ++ more) = subst (CallsLead fold_found h.base) (sym finds.found.front.is) finds.steps in
        let a = chain_longer fold_found h.base pass.sight.trace (steps_front fold_found h.base pass.sight.trace more steps) in
        let b = ap length_of finds.found.base in
        let c = ap (λ base. length_of (last_from base pass.sight.trace)) finds.found.base in
        omega arith

    long_front : length pass.sight.trace ≤ length h.trace
    long_front = let a = length-append pass.sight.trace finds.found.front.more in let b = ap length finds.found.front.is in omega arith

    own_grown : (state : StoreParts) → left.trace ≡ h.trace ++ state ∷ [] → place_of (length_of pass.sight.base) h.trace left.trace ≡ (length_of pass.sight.base + length h.trace) ∷ []
    own_grown state e = by (nat_lt (length h.trace) (length left.trace)) refl (ap length e ∙ length-append h.trace (state ∷ []))
      where
        by : (b : Bool) → nat_lt (length h.trace) (length left.trace) ≡ b → length left.trace ≡ length h.trace + 1 → (if b then (length_of pass.sight.base + length h.trace) ∷ [] else []) ≡ (length_of pass.sight.base + length h.trace) ∷ []
        by true c longer = refl
        by false c longer = let d = not_below (length h.trace) (length left.trace) c in absurd (omega arith)

    own_same : left.trace ≡ h.trace → place_of (length_of pass.sight.base) h.trace left.trace ≡ []
    own_same e = by (nat_lt (length h.trace) (length left.trace)) refl (ap length e)
      where
        by : (b : Bool) → nat_lt (length h.trace) (length left.trace) ≡ b → length left.trace ≡ length h.trace → (if b then (length_of pass.sight.base + length h.trace) ∷ [] else []) ≡ []
        by false c same = refl
        by true c same = let d = below_strictly (length h.trace) (length left.trace) c in absurd (omega arith)

    -- The calls that the call met.
    abbrev before : List StoreParts
    before = pass.sight.trace ++ finds.found.front.more

    -- The store that it met.
    met_is : store_of h ≡ last_from pass.sight.base before
    met_is = λ i. last_from (finds.found.base i) (sym finds.found.front.is i)

    faults_counted : {A : Type 0} (other : ℕ) (x : Exchange) (met : World) (Gives : A → Type 0) (Refuses : ℕ → Type 0) (result : Result A SlateDBError) → Ended x met (lone other h) (lone other left) Gives Refuses result
        → (store_of left).faults ≡ (store_of h).faults + struck_by result
    faults_counted other x met Gives Refuses (Ok answer) e = let n = e.1.no_fault refl in omega arith
    faults_counted other x met Gives Refuses (Err StoreFault) e = e.one_fault refl
    faults_counted other x met Gives Refuses (Err (Conflict seen)) e = let n = e.1.no_fault refl in omega arith
    faults_counted other x met Gives Refuses (Err Memory) e = let n = e.no_fault refl in omega arith
    faults_counted other x met Gives Refuses (Err IteratorNotInitialized) e = absurd e
    faults_counted other x met Gives Refuses (Err IteratorFailed) e = absurd e
    faults_counted other x met Gives Refuses (Err MergeOperatorMissing) e = absurd e
    faults_counted other x met Gives Refuses (Err (InvalidSequenceOrder current next)) e = absurd e
    faults_counted other x met Gives Refuses (Err (MergeOperator error)) e = absurd e
    faults_counted other x met Gives Refuses (Err (CompactionFilter error)) e = absurd e
    faults_counted other x met Gives Refuses (Err InvalidCompaction) e = absurd e
    faults_counted other x met Gives Refuses (Err InvalidDBState) e = absurd e
    faults_counted other x met Gives Refuses (Err (Fenced stored)) e = absurd e
    faults_counted other x met Gives Refuses (Err NotOwner) e = absurd e
    faults_counted other x met Gives Refuses (Err (Generate message)) e = absurd e

    -- A call that was made.
    stands_after : (struck : ℕ) → (store_of left).faults ≡ (store_of h).faults + struck → (state : StoreParts) → GrowsBy fold_found pass.line pass.party h left state → StandsAfter fold_seen pass kept before struck state
    stands_after struck counted state g =
        let here : store_of left ≡ state = (λ i. last_from (grows.base i) (g.trace i)) ∙ last_push h.base h.trace state in
        let long = chain_longer fold_found h.base (h.trace ++ state ∷ []) (steps_push fold_found h.base h.trace state finds.steps g.step) in
        let last = ap length_of (last_push h.base h.trace state) in
        let base = ap length_of finds.found.base in
        let one_more = length-append h.trace (state ∷ []) in
        let front = ap length finds.found.front.is in
        let met_faults = ap (λ (s : StoreParts). s.faults) met_is in
        let now_faults = ap (λ (s : StoreParts). s.faults) here in
        let comes = step_comes fold_found (store_of h) state g.step in
        let met_claims = ap claims_of met_is in
        let met_commits = ap commits_of met_is in
        let more_claims = claims_rise (store_of h) state comes in
        let more_commits = commits_rise (store_of h) state comes in
        let here_claims = ap claims_of here in
        let here_commits = ap commits_of here in
        let found_claims = ap claims_of (found_is pass.sight t h finds.found.base) in
        let found_commits = ap commits_of (found_is pass.sight t h finds.found.base) in
        record {
          seen = g.trace ∙ ap (λ (xs : List StoreParts). xs ++ state ∷ []) (sym finds.found.front.is);
          line = g.line_is;
          party = g.party_is;
          step = subst (λ (x : List ℕ × StoreParts). CallLeads (folds x.0) x.1 state) (λ i. (finds.found.settings i, met_is i)) g.step;
          fault = omega arith;
          place = omega arith;
          own = ap (λ xs. pass.sight.own ++ xs) (own_grown state g.trace) ∙ ap (λ (xs : List StoreParts). pass.sight.own ++ (length_of pass.sight.base + length xs) ∷ []) (sym finds.found.front.is);
          claims = omega arith;
          commits = omega arith;
        }

    -- A call that was not made.
    stands_nowhere : left.trace ≡ h.trace → StandsNowhere pass kept before
    stands_nowhere e =
        let same : store_of left ≡ store_of h = λ i. last_from (grows.base i) (e i) in
        let claims = ap claims_of (same ∙ sym (found_is pass.sight t h finds.found.base)) in
        let commits = ap commits_of (same ∙ sym (found_is pass.sight t h finds.found.base)) in
        record {
          seen = e ∙ sym finds.found.front.is;
          own = ap (λ xs. pass.sight.own ++ xs) (own_same e) ∙ append_nil pass.sight.own;
          claims = omega arith;
          commits = omega arith;
        }

    pub call_stands : {A : Type 0} (other : ℕ) (x : Store → Exchange) (Gives : Store → A → Type 0) (Refuses : Store → ℕ → Type 0) (result : Result A SlateDBError) → made ≡ is_made result → Called (lone other h) (lone other left) x Gives Refuses result
        → CallStands folds pass kept result
    call_stands other x Gives Refuses result is called =
        let counted = faults_counted other (x called.met.store) called.met (Gives called.met.store) (Refuses called.met.store) result called.ended in
        let s = struck_now in
        record {
          others = finds.found.front.more;
          base = refl;
          made = λ t. let g = grows.one (is ∙ t) in (g.0, stands_after (struck_by result) counted g.0 g.1);
          not_made = λ f. stands_nowhere (grows.same (is ∙ f));
          struck = omega arith;
        }
