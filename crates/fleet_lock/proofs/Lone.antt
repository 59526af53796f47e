-- A call of the held store is a lawful call.
use Rattle.std.proofs.Common.{◌≡◌, ℕ, List, [], ◌∷◌, ◌++◌, Bool, true, false, if◌then◌else◌, Option, Some, None, Result, Ok, Err, refl, sym, ap, ◌∙◌, subst, arith, true≢false}
use Rattle.row_model.specs.Fold.{Operator, IsLawful}
use Rattle.fleet_model.specs.History.{Event}
use Rattle.fleet_model.specs.Exchanges.{Exchange, Fault, event_of, waiting_after, does_stand, records_version}
use Rattle.fleet_model.specs.Store.{Store}
use Rattle.step_model.specs.Past.{World}
use Rattle.step_model.specs.Kept.Keeps.{Keeps}
use Rattle.step_model.specs.Lawful.{Lawful}
use Rattle.step_model.specs.Rivals.{Caller, Strike, after_call, is_deletion}
use Rattle.step_model.specs.Views.{StoreView}
use Rattle.step_model.specs.Courses.CourseRuns.{HasRoom}
use Rattle.step_model.specs.Courses.Ran.{Spares, Strikes}
use Rattle.step_laws.proofs.RanLaws.{only_met}
use Rattle.fleet_history.specs.Parties.{party_of}
use Rattle.fleet_history.specs.declared.party.Party.{Party}
use Rattle.fleet_rows.specs.declared.errors.SlateDBError.{SlateDBError}
use Rattle.fleet_rows.specs.declared.errors.SlateDBError.TheVariants.{IteratorNotInitialized, IteratorFailed, MergeOperatorMissing, InvalidSequenceOrder, MergeOperator, CompactionFilter, InvalidCompaction, InvalidDBState, Fenced, StoreFault, NotOwner, Conflict, Generate, Memory}
use Rattle.fleet_book.specs.declared.compactions.Compactions.{Compactions}
use Rattle.fleet_history.specs.declared.record_change.RecordChange.{RecordChange}
use Rattle.fleet_store.specs.Asks as asks
use Rattle.fleet_store.specs.Asks.{MayCall}
use Rattle.fleet_store.specs.Called.{Called, Ended, IsMade, IsStruck, IsNotMade, PutsNext, ShowsStored}
use Rattle.fleet_store.specs.Exchanges.{records_put}
use Rattle.fleet_store.specs.Memory.{StoreParts}
use Rattle.fleet_store.specs.Strikes.{strike_by, waits_after, faults_after}
use Rattle.fleet_store.specs.Under.{view_of}
use Rattle.step_laws.proofs.Runs.{struck_has_room}
use Rattle.fleet_lock.specs.Held.{HeldValue, store_of}
use Rattle.fleet_lock.specs.Calls.{is_made, Alone, Grows, MayAlone, lone_view}
use Rattle.fleet_lock.specs.Steps.{CallLeads, IsHeld}
use Rattle.fleet_lock.proofs.Chains.{last_push, steps_push, step_keeps}

-- ---- which fault strikes

struck_none : (event : Event) (waits left : Option Fault) → Spares event waits left → (strike_by event waits ≡ None) × (left ≡ waits_after event waits)
struck_none event waits left s = (ap (λ b. if b then Some (does_stand waits) else None) s.spared, s.nearer ∙ sym (ap (λ b. if b then None else waiting_after event waits) s.spared))

struck_some : (event : Event) (waits left : Option Fault) (stands : Bool) → Strikes event waits left stands → (strike_by event waits ≡ Some stands) × (left ≡ waits_after event waits)
struck_some event waits left stands s =
    (ap (λ b. if b then Some (does_stand waits) else None) s.struck ∙ ap (λ b. Some b) (sym s.as_said), s.used ∙ sym (ap (λ b. if b then None else waiting_after event waits) s.struck))

-- ---- one call

module _ {A : Type 0} (merge : Operator) (lent : ℕ) (p q : StoreParts) (x : Store → Exchange) (Gives : Store → A → Type 0) (Refuses : Store → ℕ → Type 0) where
  abbrev before : StoreView
  before = view_of merge lent p

  abbrev after : StoreView
  after = view_of merge lent q

  -- What a call leaves that was made.
  abbrev Leaves : Type 0
  Leaves = HasRoom p.world (x p.world.store)
      × ((q.world ≡ after_call p.line (party_of p.party) (x p.world.store) (strike_by (event_of (x p.world.store) p.world.store) p.waits) p.world)
      × ((q.waits ≡ waits_after (event_of (x p.world.store) p.world.store) p.waits)
      × (q.faults ≡ faults_after (strike_by (event_of (x p.world.store) p.world.store) p.waits) p.faults)))

  spared : IsMade (x p.world.store) p.world before after → Leaves
  spared m =
      let s = struck_none (event_of (x p.world.store) p.world.store) p.waits q.waits (m.spares refl) in
      (m.room, (m.leaves ∙ ap (λ (k : Strike). after_call p.line (party_of p.party) (x p.world.store) k p.world) (sym s.0), (s.1, m.no_fault refl ∙ ap (λ (k : Strike). faults_after k p.faults) (sym s.0))))

  struck : IsStruck (x p.world.store) p.world before after → Leaves
  struck m =
      let s = struck_some (event_of (x p.world.store) p.world.store) p.waits q.waits m.stands (m.strikes refl) in
      (struck_has_room (x p.world.store) p.world m.counts, (m.leaves ∙ ap (λ (k : Strike). after_call p.line (party_of p.party) (x p.world.store) k p.world) (sym s.0), (s.1, m.one_fault refl ∙ ap (λ (k : Strike). faults_after k p.faults) (sym s.0))))

  -- A call that was made left what the calls of the model leave, with or without a fault.
  made_leaves : (result : Result A SlateDBError) → is_made result ≡ true → Ended (x p.world.store) p.world before after (Gives p.world.store) (Refuses p.world.store) result → Leaves
  made_leaves (Ok answer) made e = spared e.1
  made_leaves (Err StoreFault) made e = struck e
  made_leaves (Err (Conflict seen)) made e = spared e.1
  made_leaves (Err Memory) made e = absurd (cc made)
  made_leaves (Err IteratorNotInitialized) made e = absurd e
  made_leaves (Err IteratorFailed) made e = absurd e
  made_leaves (Err MergeOperatorMissing) made e = absurd e
  made_leaves (Err (InvalidSequenceOrder current next)) made e = absurd e
  made_leaves (Err (MergeOperator error)) made e = absurd e
  made_leaves (Err (CompactionFilter error)) made e = absurd e
  made_leaves (Err InvalidCompaction) made e = absurd e
  made_leaves (Err InvalidDBState) made e = absurd e
  made_leaves (Err (Fenced stored)) made e = absurd e
  made_leaves (Err NotOwner) made e = absurd e
  made_leaves (Err (Generate message)) made e = absurd e

  -- A call that was not made ran out of memory.
  lacks : (result : Result A SlateDBError) → is_made result ≡ false → Ended (x p.world.store) p.world before after (Gives p.world.store) (Refuses p.world.store) result → IsNotMade p.world before after
  lacks (Err Memory) made e = e
  lacks (Ok answer) made e = absurd (cc made)
  lacks (Err StoreFault) made e = absurd (cc made)
  lacks (Err (Conflict seen)) made e = absurd (cc made)
  lacks (Err IteratorNotInitialized) made e = absurd e
  lacks (Err IteratorFailed) made e = absurd e
  lacks (Err MergeOperatorMissing) made e = absurd e
  lacks (Err (InvalidSequenceOrder current next)) made e = absurd e
  lacks (Err (MergeOperator error)) made e = absurd e
  lacks (Err (CompactionFilter error)) made e = absurd e
  lacks (Err InvalidCompaction) made e = absurd e
  lacks (Err InvalidDBState) made e = absurd e
  lacks (Err (Fenced stored)) made e = absurd e
  lacks (Err NotOwner) made e = absurd e
  lacks (Err (Generate message)) made e = absurd e

  -- The call met the store as it was.
  ended_here : (result : Result A SlateDBError) → Called before after x Gives Refuses result → Ended (x p.world.store) p.world before after (Gives p.world.store) (Refuses p.world.store) result
  ended_here result called = subst (λ (w : World). Ended (x w.store) w before after (Gives w.store) (Refuses w.store) result) (sym (only_met before.who p.world called.met refl called.rivals)) called.ended

  -- A call that was made is a step.
  pub is_step : (result : Result A SlateDBError) → Called before after x Gives Refuses result → is_made result ≡ true → (HasRoom p.world (x p.world.store) → Lawful merge (party_of p.party) p.world (x p.world.store)) → is_deletion (x p.world.store) ≡ false → CallLeads merge p q
  is_step result called made lawful deletes_none =
      let l = made_leaves result made (ended_here result called) in
      let line : q.line ≡ p.line = ap (λ (c : Caller). c.line) called.same.who in
      let party : party_of q.party ≡ party_of p.party = ap (λ (c : Caller). c.party) called.same.who in
      record {
        exchange = x p.world.store;
        lawful = subst (λ party. Lawful merge party p.world (x p.world.store)) (sym party) (lawful l.0);
        deletes_none = deletes_none;
        leaves = l.1.0 ∙ (λ i. after_call (sym line i) (sym party i) (x p.world.store) (strike_by (event_of (x p.world.store) p.world.store) p.waits) p.world);
        waits = l.1.1.0;
        faults = l.1.1.1;
        whole = called.whole;
      }

  -- A call that was not made leaves all as it was.
  pub no_step : (result : Result A SlateDBError) → Called before after x Gives Refuses result → is_made result ≡ false → q ≡ record p { line = q.line; party = q.party; history = q.history }
  no_step result called made =
      let n = lacks result made (ended_here result called) in
      let processed = called.whole (sym (ap (λ (w : World). records_version w.store.records) n.leaves)) in
      λ i. record { world = n.leaves i; history = q.history; line = q.line; party = q.party; faults = n.no_fault refl i; waits = n.waits_on refl i; processed = processed i }

-- ---- the value after a call

-- The value with a state more, if the call was made.
abbrev pub value_after : Bool → StoreParts → HeldValue → HeldValue
value_after made q h = record h { trace = if made then h.trace ++ q ∷ [] else h.trace; history = q.history; line = q.line; party = q.party }

-- What the store shows that is held, once it has the caller's line and party.
pub lone_is : (merge : Operator) (lent line : ℕ) (party : Party) (h : HeldValue) (o p : StoreParts) → IsHeld merge o h → p ≡ record o { line = line; party = party } → view_of merge lent p ≡ lone_view merge line party lent (store_of h)
lone_is merge lent line party h o p is acts = ap (view_of merge lent) (acts ∙ ap (λ (s : StoreParts). record s { line = line; party = party }) is.same)

-- So a call may be made of it that may be made by the caller.
pub may_lend : (folds : List ℕ → Operator) (lent line : ℕ) (party : Party) (h now : HeldValue) → h ≡ now → (o p : StoreParts) (Fits : StoreView → Type 0)
    → IsHeld (folds h.settings) o h → p ≡ record o { line = line; party = party } → MayAlone (folds now.settings) line party Fits now → Fits (view_of (folds h.settings) lent p)
may_lend folds lent line party h now is o p Fits held acts may =
    let here : MayAlone (folds h.settings) line party Fits h = subst (λ (v : HeldValue). MayAlone (folds v.settings) line party Fits v) (sym is) may in
    subst Fits (sym (lone_is (folds h.settings) lent line party h o p held acts)) (here lent)

-- A call that may be made is lawful where it comes.
pub lawful_of : (merge : Operator) (lent : ℕ) (p : StoreParts) (x : Store → Exchange) → MayCall (view_of merge lent p) x → Lawful merge (party_of p.party) p.world (x p.world.store)
lawful_of merge lent p x may = may p.world (record { calls = []; lead = refl; none = λ alone. refl })

-- What a call of the held store leaves.
pub record Served {A : Type 0} (merge : Operator) (lent line : ℕ) (party : Party) (h : HeldValue) (p q : StoreParts) (result : Result A SlateDBError) : Type 0 where
  pub held : IsHeld merge q (value_after (is_made result) q h)
  pub grows : Grows merge line party (is_made result) h (value_after (is_made result) q h)
  pub before : view_of merge lent p ≡ lone_view merge line party lent (store_of h)
  pub after : view_of merge lent q ≡ lone_view merge line party lent (store_of (value_after (is_made result) q h))

-- A call of the held store, with this line and party, leaves a value that is held and grew by the call at most.
pub served : {A : Type 0} (merge : Operator) (lent line : ℕ) (party : Party) (h : HeldValue) (o p q : StoreParts) (x : Store → Exchange) (Gives : Store → A → Type 0) (Refuses : Store → ℕ → Type 0) (result : Result A SlateDBError)
    → IsLawful merge → IsHeld merge o h → p ≡ record o { line = line; party = party } → Called (view_of merge lent p) (view_of merge lent q) x Gives Refuses result
    → (HasRoom p.world (x p.world.store) → Lawful merge (party_of p.party) p.world (x p.world.store)) → is_deletion (x p.world.store) ≡ false → Served merge lent line party h p q result
served {A} merge lent line party h o p q x Gives Refuses result law is acts called lawful deletes_none = by (is_made result) refl
  where
    stored : p ≡ record (store_of h) { history = h.history; line = line; party = party }
    stored = acts ∙ ap (λ (s : StoreParts). record s { line = line; party = party }) is.same

    q_line : q.line ≡ line
    q_line = ap (λ (c : Caller). c.line) called.same.who ∙ ap (λ (s : StoreParts). s.line) acts

    q_party : party_of q.party ≡ party_of party
    q_party = ap (λ (c : Caller). c.party) called.same.who ∙ ap (λ (s : StoreParts). party_of s.party) acts

    seen : view_of merge lent p ≡ lone_view merge line party lent (store_of h)
    seen = lone_is merge lent line party h o p is acts

    -- A view of the store that the call left is one by the caller's line and party.
    left : view_of merge lent q ≡ lone_view merge line party lent q
    left i = record { who = record { merge = merge; line = q_line i; party = q_party i; alone = true }; world = q.world; faults = q.faults; waits = q.waits; processed = q.processed; lent = lent; place = [] }

    keeps_p : Keeps merge p.world
    keeps_p = subst (λ (s : StoreParts). Keeps merge s.world) (sym acts) is.keeps

    -- A step from the store that the call met is one from the store after the last call.
    from_last : CallLeads merge p q → CallLeads merge (store_of h) q
    from_last step =
        let s : CallLeads merge (record (store_of h) { history = h.history; line = line; party = party }) q = subst (λ (s : StoreParts). CallLeads merge s q) stored step in
        record { exchange = s.exchange; lawful = s.lawful; deletes_none = s.deletes_none; leaves = s.leaves; waits = s.waits; faults = s.faults; whole = s.whole }

    by : (made : Bool) → is_made result ≡ made → Served merge lent line party h p q result
    by true made =
        let step = is_step merge lent p q x Gives Refuses result called made lawful deletes_none in
        let here : CallLeads merge (store_of h) q = from_last step in
        let last : store_of (value_after true q h) ≡ q = last_push h.base h.trace q in
        let e : value_after (is_made result) q h ≡ value_after true q h = ap (λ b. value_after b q h) made in
        record {
          held = subst (IsHeld merge q) (sym e) (record { same = ap (λ (s : StoreParts). record s { history = q.history; line = q.line; party = q.party }) (sym last); keeps = step_keeps merge law p q keeps_p step; steps = steps_push merge h.base h.trace q is.steps here });
          grows = subst (λ (b : Bool). Grows merge line party b h (value_after b q h)) (sym made) (record { base = refl; settings = refl; same = λ f. absurd (cc f); one = λ t. (q, record { trace = refl; line_is = q_line; party_is = q_party; step = here }) });
          before = seen;
          after = left ∙ ap (lone_view merge line party lent) (sym last ∙ ap store_of (sym e));
        }
    by false made =
        let same = no_step merge lent p q x Gives Refuses result called made in
        let all : q ≡ record (store_of h) { history = q.history; line = q.line; party = q.party } = same ∙ ap (λ (s : StoreParts). record s { history = q.history; line = q.line; party = q.party }) stored in
        let e : value_after (is_made result) q h ≡ value_after false q h = ap (λ b. value_after b q h) made in
        record {
          held = subst (IsHeld merge q) (sym e) (record { same = all; keeps = subst (λ (s : StoreParts). Keeps merge s.world) (sym same) keeps_p; steps = is.steps });
          grows = subst (λ (b : Bool). Grows merge line party b h (value_after b q h)) (sym made) (record { base = refl; settings = refl; same = λ f. refl; one = λ t. absurd (cc t) });
          before = seen;
          after = left ∙ ap (lone_view merge line party lent) all ∙ ap (λ v. lone_view merge line party lent (store_of v)) (sym e);
        }

-- ---- a method of the held store

-- The value that a call leaves, by how its states were kept.
kept_value : (made was : Bool) (q : StoreParts) (h : HeldValue) (old new : List StoreParts) → made ≡ was → old ≡ h.trace → new ≡ (if made then old ++ q ∷ [] else old)
    → record h { trace = new; history = q.history; line = q.line; party = q.party } ≡ value_after was q h
kept_value made was q h old new made_is old_is new_is =
    let e : new ≡ (if was then h.trace ++ q ∷ [] else h.trace) = new_is ∙ (λ i. if made_is i then old_is i ++ q ∷ [] else old_is i) in
    λ i. record h { trace = e i; history = q.history; line = q.line; party = q.party }

-- A call of the held store, with the value before it as the code and as the contract has it, and with the states as they were kept.
module _ {A : Type 0} (folds : List ℕ → Operator) (lent line : ℕ) (party : Party) (h now : HeldValue) (is : h ≡ now) (o p q : StoreParts) (x : Store → Exchange) (Gives : Store → A → Type 0) (Refuses : Store → ℕ → Type 0) (result : Result A SlateDBError)
    (law : IsLawful (folds h.settings)) (held : IsHeld (folds h.settings) o h) (acts : p ≡ record o { line = line; party = party }) (called : Called (view_of (folds h.settings) lent p) (view_of (folds h.settings) lent q) x Gives Refuses result)
    (lawful : HasRoom p.world (x p.world.store) → Lawful (folds h.settings) (party_of p.party) p.world (x p.world.store)) (deletes_none : is_deletion (x p.world.store) ≡ false)
    (made : Bool) (old new : List StoreParts) (made_is : made ≡ is_made result) (old_is : old ≡ h.trace) (new_is : new ≡ (if made then old ++ q ∷ [] else old)) where
  abbrev left : HeldValue
  left = record h { trace = new; history = q.history; line = q.line; party = q.party }

  left_is : left ≡ value_after (is_made result) q h
  left_is = kept_value made (is_made result) q h old new made_is old_is new_is

  here : Served (folds h.settings) lent line party h p q result
  here = served (folds h.settings) lent line party h o p q x Gives Refuses result law held acts called lawful deletes_none

  pub held_after : IsHeld (folds h.settings) q left
  held_after = subst (IsHeld (folds h.settings) q) (sym left_is) here.held

  pub grows_after : Grows (folds now.settings) line party (is_made result) now left
  grows_after = subst (λ (v : HeldValue × HeldValue). Grows (folds v.0.settings) line party (is_made result) v.0 v.1) (λ i. (is i, sym left_is i)) here.grows

  pub asked_after : (Asks : StoreView → StoreView → Type 0) → Asks (view_of (folds h.settings) lent p) (view_of (folds h.settings) lent q) → Alone (folds now.settings) line party Asks now left
  asked_after Asks a =
      let b : Alone (folds h.settings) line party Asks h (value_after (is_made result) q h) = (lent, subst (λ (v : StoreView × StoreView). Asks v.0 v.1) (λ i. (here.before i, here.after i)) a) in
      subst (λ (v : HeldValue × HeldValue). Alone (folds v.0.settings) line party Asks v.0 v.1) (λ i. (is i, sym left_is i)) b

-- A call that was not made, since memory ran out before it.
pub not_called : {A : Type 0} (view : StoreView) (x : Store → Exchange) (Gives : Store → A → Type 0) (Refuses : Store → ℕ → Type 0) → Called view view x Gives Refuses (Err Memory)
not_called view x Gives Refuses = record {
  same = record { who = refl; lent = refl; place = refl };
  rise = omega arith;
  whole = λ same. refl;
  met = view.world;
  rivals = record { calls = []; lead = refl; none = λ alone. refl };
  ended = record { leaves = refl; waits_on = λ alone. refl; no_fault = λ alone. refl };
}

-- So it is with a put of records.
pub not_put : (view : StoreView) (version : ℕ) (value : Compactions) (why : RecordChange) → asks.PutsRecords view view version value why (Err Memory)
unfolding not_called
not_put view version value why = record {
  called = not_called view (λ met. records_put version value why) (λ met. PutsNext version (records_version met.records)) (λ met. ShowsStored version (records_version met.records));
  stored = λ differs. absurd (differs refl);
}

-- The states that the value has are those that it had.
pub unchanged : (h now : HeldValue) → h ≡ now → (new : List StoreParts) → new ≡ h.trace → now ≡ record h { trace = new }
unchanged h now is new e = sym is ∙ (λ i. record h { trace = sym e i })

-- So it leaves the value as it was.
module _ {A : Type 0} (folds : List ℕ → Operator) (line : ℕ) (party : Party) (now left : HeldValue) (same : now ≡ left) (result : Result A SlateDBError) (is : result ≡ Err Memory) where
  pub grows_none : Grows (folds now.settings) line party (is_made result) now left
  grows_none = record {
    base = ap (λ (h : HeldValue). h.base) (sym same);
    settings = ap (λ (h : HeldValue). h.settings) (sym same);
    same = λ f. ap (λ (h : HeldValue). h.trace) (sym same);
    one = λ t. absurd (true≢false (sym t ∙ ap is_made is));
  }

  pub asked_none : (Asks : Result A SlateDBError → StoreView → StoreView → Type 0) → ((view : StoreView) → Asks (Err Memory) view view) → Alone (folds now.settings) line party (Asks result) now left
  asked_none Asks all =
      let view : StoreView = lone_view (folds now.settings) line party 0 (store_of now) in
      let here : Asks result view view = subst (λ r. Asks r view view) (sym is) (all view) in
      (0, subst (λ (h : HeldValue). Asks result view (lone_view (folds now.settings) line party 0 (store_of h))) same here)
