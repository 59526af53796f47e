-- A poll puts the manifest before the records, over any store and however it ends.
use Rattle.std.proofs.Common.{◌≡◌, refl, sym, ◌∙◌, ap, subst, ℕ, zero, suc, List, [], ◌∷◌, ◌++◌, cond, Bool, true, false, inl, inr, ◌⊎◌, Some, None}
use Rattle.std.specs.Prelude.{⊤, ◌==◌, nat_lt}
use Rattle.std.proofs.lemmas.List.{append-nil, append_assoc}
use Rattle.fleet_model.specs.History.{Event, Entry}
use Rattle.fleet_model.specs.Store.{Manifest, Records, Store}
use Rattle.fleet_model.specs.Work.PollStates.{PollState}
use Rattle.fleet_model.specs.Work.Polls.{change_of, is_nothing}
use Rattle.fleet_model.specs.Exchanges.{Exchange, event_of, records_version}
use Rattle.step_model.specs.Past.{World}
use Rattle.step_model.specs.Rivals.{Caller, RivalCall, RivalsFrom, Strike, after_call, after_rival}
use Rattle.step_model.specs.Courses.Course.{Course, Ends, Calls, draws_jobs}
use Rattle.step_model.specs.Courses.Tries.{counted_tries}
use Rattle.step_model.specs.Courses.CourseRuns.{End, Gives, MeetsFault, LacksMemory, StopsAt, Runs}
use Rattle.step_model.specs.Courses.StepEnds.{StepEnd, most_refused}
use Rattle.step_model.specs.Steps.PollSteps.{PollAsk, poll, poll_try, polls_over, puts_trees, puts_polled, records_or_none, first_steps, last_steps, proposed_specs, merged_into, is_unchanged, input_of}
use Rattle.step_laws.proofs.Elements.{all_append}
use Rattle.rival_laws.proofs.SameParty.{party_same}
use Rattle.course_laws.proofs.Later.{entry_by, call_history}
use Rattle.coordinator_laws.specs.ManifestFirst.{is_manifest_put, is_records_put, NoneOwn, ManifestFirst, PollsPutTheManifestFirst}

-- ---- entries that are none of the caller's of a kind

-- The history went on by entries of which none is the caller's and of this kind.
record GoesWithout (who : Caller) (is : Event → Bool) (old new : World) : Type 0 where
  entries : List Entry
  history : new.store.history ≡ old.store.history ++ entries
  none : NoneOwn who.party is entries

without_itself : (who : Caller) (is : Event → Bool) (world : World) → GoesWithout who is world world
without_itself who is world = record { entries = []; history = sym (append-nil world.store.history); none = tt }

without_then : (who : Caller) (is : Event → Bool) (a b c : World) → GoesWithout who is a b → GoesWithout who is b c → GoesWithout who is a c
without_then who is a b c first second = record {
  entries = first.entries ++ second.entries;
  history = second.history ∙ ap (λ (h : List Entry). h ++ second.entries) first.history ∙ append_assoc a.store.history first.entries second.entries;
  none = all_append _ first.entries second.entries first.none second.none;
}

without_rivals : (who : Caller) (is : Event → Bool) (calls : List RivalCall) (old new : World) → RivalsFrom who calls old new → GoesWithout who is old new
without_rivals who is [] old new same = subst (GoesWithout who is old) same (without_itself who is old)
without_rivals who is (call ∷ calls) old new lead =
    without_then who is old (after_rival call old) new (record {
      entries = entry_by call.line call.party call.exchange call.strike old.store ∷ [];
      history = call_history call.line call.party call.exchange call.strike old.store;
      none = (λ own. absurd (lead.0.other (sym (party_same who.party call.party own))), tt);
    }) (without_rivals who is calls (after_rival call old) new lead.1)

-- The call is none of this kind, wherever it is made.
abbrev IsNo : (Event → Bool) → Exchange → Type 0
IsNo is x = (store : Store) → is (event_of x store) ≡ false

without_call : (who : Caller) (is : Event → Bool) (x : Exchange) (strike : Strike) (world : World) → IsNo is x → GoesWithout who is world (after_call who.line who.party x strike world)
without_call who is x strike world never = record {
  entries = entry_by who.line who.party x strike world.store ∷ [];
  history = call_history who.line who.party x strike world.store;
  none = (λ own. never world.store, tt);
}

without_stop : {A : Type 0} (who : Caller) (is : Event → Bool) (x : Exchange) (met new : World) (end : End A) → IsNo is x → StopsAt who x met new end → GoesWithout who is met new
without_stop who is x met new (Gives answer) never stops = absurd stops
without_stop who is x met new MeetsFault never stops = subst (GoesWithout who is met) (sym stops.1.1) (without_call who is x (Some stops.1.0) met never)
without_stop who is x met new LacksMemory never stops = subst (GoesWithout who is met) stops (without_itself who is met)

-- ---- courses

-- No call of the course is of this kind.
abbrev Without : {A : Type 0} → (Event → Bool) → Course A → Type 0
Without is (Ends answer) = ⊤
Without is (Calls x next) = IsNo is x × ((met : Store) → Without is (next met))

-- The course puts no records, until it comes to a course that puts no manifest.
abbrev Ordered : {A : Type 0} → Course A → Type 0
Ordered (Ends answer) = ⊤
Ordered (Calls x next) = (IsNo is_records_put x × ((met : Store) → Ordered (next met))) ⊎ (IsNo is_manifest_put x × ((met : Store) → Without is_manifest_put (next met)))

later_ordered : {A : Type 0} (course : Course A) → Without is_manifest_put course → Ordered course
later_ordered (Ends answer) h = tt
later_ordered (Calls x next) h = inr h

run_without : {A : Type 0} (who : Caller) (is : Event → Bool) (course : Course A) (old new : World) (end : End A) → Without is course → Runs who course old new end → GoesWithout who is old new
run_without who is (Ends answer) old new end h run = subst (GoesWithout who is old) run.0 (without_itself who is old)
run_without who is (Calls x next) old new end h (met, (rivals, inl stops)) = without_then who is old met new (without_rivals who is rivals.calls old met rivals.lead) (without_stop who is x met new end h.0 stops)
run_without {A} who is (Calls x next) old new end h (met, (rivals, inr (room, run))) =
    without_then who is old met new (without_rivals who is rivals.calls old met rivals.lead)
    (without_then who is met (after_call who.line who.party x None met) new (without_call who is x None met h.0) (run_without {A = A} who is (next met.store) (after_call who.line who.party x None met) new end (h.1 met.store) run))

-- Entries without records before a run that puts the manifest first.
puts_after : (who : Caller) (a b c : World) → GoesWithout who is_records_put a b → ManifestFirst who b c → ManifestFirst who a c
puts_after who a b c first second = record {
  front = first.entries ++ second.front;
  back = second.back;
  history = second.history ∙ ap (λ (h : List Entry). h ++ (second.front ++ second.back)) first.history ∙ append_assoc a.store.history first.entries (second.front ++ second.back)
      ∙ ap (λ (h : List Entry). a.store.history ++ h) (sym (append_assoc first.entries second.front second.back));
  no_records = all_append _ first.entries second.front first.none second.no_records;
  no_manifest = second.no_manifest;
}

-- A run without records, and one without a manifest.
only_front : (who : Caller) (old new : World) → GoesWithout who is_records_put old new → ManifestFirst who old new
only_front who old new g = record { front = g.entries; back = []; history = g.history ∙ ap (λ (h : List Entry). old.store.history ++ h) (sym (append-nil g.entries)); no_records = g.none; no_manifest = tt }

only_back : (who : Caller) (old new : World) → GoesWithout who is_manifest_put old new → ManifestFirst who old new
only_back who old new g = record { front = []; back = g.entries; history = g.history; no_records = tt; no_manifest = g.none }

run_ordered : {A : Type 0} (who : Caller) (course : Course A) (old new : World) (end : End A) → Ordered course → Runs who course old new end → ManifestFirst who old new
run_ordered who (Ends answer) old new end h run = only_front who old new (subst (GoesWithout who is_records_put old) run.0 (without_itself who is_records_put old))
run_ordered {A} who (Calls x next) old new end (inr later) run = only_back who old new (run_without {A = A} who is_manifest_put (Calls x next) old new end later run)
run_ordered who (Calls x next) old new end (inl first) (met, (rivals, inl stops)) =
    only_front who old new (without_then who is_records_put old met new (without_rivals who is_records_put rivals.calls old met rivals.lead) (without_stop who is_records_put x met new end first.0 stops))
run_ordered {A} who (Calls x next) old new end (inl first) (met, (rivals, inr (room, run))) =
    puts_after who old (after_call who.line who.party x None met) new
    (without_then who is_records_put old met (after_call who.line who.party x None met) (without_rivals who is_records_put rivals.calls old met rivals.lead) (without_call who is_records_put x None met first.0))
    (run_ordered {A = A} who (next met.store) (after_call who.line who.party x None met) new end (first.1 met.store) run)

-- ---- polls

either_without : {A : Type 0} (is : Event → Bool) (b : Bool) (one other : Course A) → Without is one → Without is other → Without is (cond b one other)
either_without is true one other h k = h
either_without is false one other h k = k

either_ordered : {A : Type 0} (b : Bool) (one other : Course A) → Ordered one → Ordered other → Ordered (cond b one other)
either_ordered true one other h k = h
either_ordered false one other h k = k

-- The puts of the records put no manifest.
polled_without : (epoch : ℕ) (p : PollState) (got : Records) (left seen : ℕ) → Without is_manifest_put (puts_polled epoch p got left seen)
polled_without epoch p got zero seen = tt
polled_without epoch p got (suc left) seen =
    either_without is_manifest_put (is_nothing (change_of p)) _ _ tt (
      λ store. refl,
      λ met. either_without is_manifest_put (got.version == records_version met.records) _ _ tt
          (either_without is_manifest_put (left == 0) _ _ tt
          (λ store. refl, λ newer. either_without is_manifest_put (nat_lt epoch (records_or_none newer.records).epoch) _ _ tt (polled_without epoch (merged_into p (records_or_none newer.records).jobs) (records_or_none newer.records) left (records_version met.records)))),
    )

trees_ordered : (epoch : ℕ) (p : PollState) (manifest : Manifest) (got : Records) (left seen : ℕ) (again : ℕ → Course (StepEnd PollState)) → ((seen : ℕ) → Ordered (again seen)) → Ordered (puts_trees epoch p manifest got left seen again)
trees_ordered epoch p manifest got left seen again others =
    either_ordered (is_unchanged manifest p) _ _ (later_ordered (puts_polled epoch p got left seen) (polled_without epoch p got left seen))
    (inl (λ store. refl, λ met. either_ordered (manifest.version == met.manifest.version) _ _ (later_ordered (puts_polled epoch p got most_refused 0) (polled_without epoch p got most_refused 0)) (others met.manifest.version)))

draws_ordered : {A B : Type 0} (moment : ℕ) (xs : List B) (next : List (ℕ × B) → Course A) → ((drawn : List (ℕ × B)) → Ordered (next drawn)) → Ordered (draws_jobs moment xs next)
draws_ordered moment [] next h = h []
draws_ordered moment (x ∷ xs) next h = inl (λ store. refl, λ met. draws_ordered moment xs (λ drawn. next (_ ∷ drawn)) (λ drawn. h (_ ∷ drawn)))

-- However many tries are left, they put the manifest before the records.
tries_ordered : (ask : PollAsk) (left seen : ℕ) → Ordered (counted_tries (poll_try ask) left seen)
tries_ordered ask zero seen = tt
tries_ordered ask (suc left) seen =
    inl (
      λ store. refl,
      λ first. either_ordered (nat_lt ask.epoch first.manifest.epoch) _ _ tt
          (inl (λ store. refl, λ met. either_ordered (nat_lt ask.epoch (records_or_none met.records).epoch) _ _ tt (over first.manifest met (λ seen. tries_ordered ask left seen)))),
    )
  where
    over : (manifest : Manifest) (met : Store) → ((seen : ℕ) → Ordered (counted_tries (poll_try ask) left seen)) → Ordered (polls_over ask met.tables manifest (records_or_none met.records) (suc left) seen (counted_tries (poll_try ask) left))
    over manifest met others =
        let got = records_or_none met.records in
        let input = input_of ask met.tables manifest got in
        let p = first_steps ask input in
        draws_ordered ask.moment (proposed_specs ask input p) (λ drawn. puts_trees ask.epoch (last_steps ask input drawn p) manifest got (suc left) seen (counted_tries (poll_try ask) left))
        (λ drawn. trees_ordered ask.epoch (last_steps ask input drawn p) manifest got (suc left) seen (counted_tries (poll_try ask) left) others)

pub polls_put_the_manifest_first : PollsPutTheManifestFirst
unfolding poll
polls_put_the_manifest_first who old new ask end run = run_ordered {A = StepEnd PollState} who (poll ask) old new end (tries_ordered ask most_refused 0) run
