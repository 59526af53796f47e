-- Which coordinators are live after each line.
use Rattle.std.proofs.Common.{◌≡◌, refl, sym, ◌∙◌, ap, subst, ℕ, ◌+◌, List, [], ◌∷◌, ◌++◌, cond, Bool, true, false, Option, Some, None}
use Rattle.std.specs.Prelude.{nat_lt, map, is_some, codes, decimal}
use Rattle.std.specs.List.{AllByRecursion}
use Rattle.fleet_model.specs.Nodes.{Tables}
use Rattle.fleet_model.specs.Jobs.{JobSpec}
use Rattle.fleet_model.specs.History.{Party, Coordinator, Event, GetManifest, GetRecords, PutManifest, PutRecords, Commit, Polled, Start, Kill, Answer, Done}
use Rattle.fleet_model.specs.Store.{Store, Manifest, records_epoch}
use Rattle.fleet_model.specs.Past.Live.{LiveParties, last_epoch, without_coordinator_of}
use Rattle.fleet_model.specs.Past.Replay.{IsReplayed}
use Rattle.fleet_model.specs.Work.Parties.{LiveCoordinator, Parties, coordinator_with, without_coordinator, with_coordinator}
use Rattle.fleet_model.specs.Work.PollStates.{PollState}
use Rattle.fleet_model.specs.Work.Polls.{change_of, is_nothing}
use Rattle.fleet_model.specs.Exchanges.{Plain, after_answered, does_stand, records_answer, records_version}
use Rattle.step_model.specs.Courses.Course.{Course, Ends, Calls, then_course, calls_each}
use Rattle.step_model.specs.Courses.StepEnds.{StepEnd, Reports, Fenced}
use Rattle.step_model.specs.Steps.PollSteps.{PollAsk, start, epoch_above, is_unchanged, records_or_none}
use Rattle.step_laws.proofs.Elements.{all_front, all_append}
use Rattle.script_model.specs.States.{Inputs, State}
use Rattle.script_model.specs.Replies.{reply}
use Rattle.script_model.specs.LineRuns.{LineEnd, LineCourse, run_line, no_such_party, if_some, noted_line, line_end, step_parties}
use Rattle.script_model.specs.Lines.PollLines.{poll_ask}
use Rattle.script_model.specs.Lines.Starts.{killed_first, start_notes, only_notes, start_coordinator, end_coordinator}
use Rattle.line_laws.specs.Faults.{calls_made, answer_made, struck_answer, MadeOf, AllMade, CutAt}
use Rattle.line_laws.specs.Live.{CoordinatorsAreLive}
use Rattle.line_laws.specs.Lines.PollRuns.{Answered, entry_of, draw_of, drawn_at, gets_at, calls_before, manifest_puts, records_puts, puts_of}
use Rattle.line_laws.specs.Lines.PollCalls.{reached_at, calls_of, ends_as, parties_if, PollCalled, PollCalledBy}
use Rattle.line_laws.proofs.PollCalls.{Alone}
use Rattle.line_laws.proofs.PollRuns.{got_epoch}
use Rattle.line_laws.proofs.LiveLines.{LineMade, Whole, Cut, line_made, never_cut, struck_fault}
use Rattle.line_laws.proofs.LiveRuns.{then_notes, front_plain}
use Rattle.line_laws.proofs.LiveCoordinators.{without, without_twice, pairs_of, pairs_without, pairs_absent, epoch_found, after_one, after_made, made_append, live_at, at_calls, IsNoCoordinator, others_made, is_start, struck_without, made_absent, is_seen, IsUnseen, made_unseen, got_records, has_epochs}
use Rattle.line_laws.proofs.StartCalls.{store_made, then_made, start_calls, start_made, start_is_quiet, start_puts}

-- ---- other parties

-- A line of another party leaves the coordinators.
pub other_line : (number : ℕ) (s : State) (c : LineCourse) (answer : List ℕ) (new : State) → run_line number s c ≡ (answer, new) → IsNoCoordinator c.party → (answer_made number c.party c.course s.store).parties.coordinators ≡ s.parties.coordinators
    → c.struck.coordinators ≡ s.parties.coordinators → CoordinatorsAreLive s → CoordinatorsAreLive new
other_line number s c answer new is none ends struck live = by (line_made number s c answer new is)
  where
    same : (calls : List Answered) → new.store.history ≡ s.store.history ++ map (entry_of number c.party) calls → new.parties.coordinators ≡ s.parties.coordinators → CoordinatorsAreLive new
    same calls history coordinators tables specs =
        ap (λ (t : LiveParties). t.coordinators) (at_calls tables specs number c.party s new calls history) ∙ others_made tables specs number c.party (live_at tables specs s) calls none
        ∙ live tables specs ∙ ap (λ (cs : List LiveCoordinator). map (λ (c : LiveCoordinator). (c.number, c.epoch)) cs) (sym coordinators)

    by : LineMade number s c new → CoordinatorsAreLive new
    by (Whole history parties) = same (calls_made number c.party c.course s.store) history (ap (λ (p : Parties). p.coordinators) parties ∙ ends)
    by (Cut before event given after counts whole history parties) = same (before ++ (event, struck_answer (does_stand s.fault) given) ∷ []) history (ap (λ (p : Parties). p.coordinators) parties ∙ struck)

-- However a step ends, the coordinators are these.
end_coordinators : {A : Type 0} (cs : List LiveCoordinator) (spell : A → List ℕ) (reported : A → Parties) (refused : Parties) (end : StepEnd A) → ((report : A) → (reported report).coordinators ≡ cs) → refused.coordinators ≡ cs → (line_end spell reported refused end).parties.coordinators ≡ cs
end_coordinators cs spell reported refused (Reports report) h k = h report
end_coordinators cs spell reported refused end h k = k

-- A line of another party, with notes after its step.
pub noted_other : {A : Type 0} (number : ℕ) (s : State) (party : Party) (step : Course (StepEnd A)) (notes : StepEnd A → List Event) (spell : A → List ℕ) (reported : A → Parties) (refused struck : Parties) (answer : List ℕ) (new : State)
    → run_line number s (noted_line party step notes (line_end spell reported refused) struck) ≡ (answer, new) → IsNoCoordinator party → ((report : A) → (reported report).coordinators ≡ s.parties.coordinators) → refused.coordinators ≡ s.parties.coordinators
    → struck.coordinators ≡ s.parties.coordinators → CoordinatorsAreLive s → CoordinatorsAreLive new
noted_other number s party step notes spell reported refused struck answer new is none h k l live =
    other_line number s (noted_line party step notes (line_end spell reported refused) struck) answer new is none
    (ap (λ (e : LineEnd). e.parties.coordinators) (then_notes number party step notes (line_end spell reported refused) s.store) ∙ end_coordinators s.parties.coordinators spell reported refused (answer_made number party step s.store) h k) l live

pub refused_live : (number : ℕ) (s : State) (answer : List ℕ) (new : State) → run_line number s (no_such_party s) ≡ (answer, new) → CoordinatorsAreLive s → CoordinatorsAreLive new
refused_live number s answer new is live = other_line number s (no_such_party s) answer new is tt refl refl live

-- ---- the end of a coordinator

-- Without the coordinator, those that the history has are those of the state.
gone_alike : (tables : Tables) (specs : ℕ → JobSpec) (n : ℕ) (s : State) → CoordinatorsAreLive s → without n (live_at tables specs s).coordinators ≡ pairs_of (without_coordinator n s.parties)
gone_alike tables specs n s live = ap (without n) (live tables specs) ∙ sym (pairs_without n s.parties)

-- After a line that ends a coordinator, the live coordinators are still those of the history.
pub end_live : (number n : ℕ) (s : State) (answer : List ℕ) (new : State) → run_line number s (end_coordinator n s) ≡ (answer, new) → CoordinatorsAreLive s → CoordinatorsAreLive new
end_live number n s answer new is live = by (coordinator_with n s.parties) is
  where
    c : LineCourse
    c = only_notes (Coordinator n) (Kill (Coordinator n) ∷ []) s (without_coordinator n s.parties)

    made : LineMade number s c new → CoordinatorsAreLive new
    made (Whole history parties) tables specs =
        ap (λ (t : LiveParties). t.coordinators) (at_calls tables specs number (Coordinator n) s new ((Kill (Coordinator n), Done 0) ∷ []) history) ∙ gone_alike tables specs n s live ∙ ap pairs_of (sym parties)
    made (Cut before event given after counts whole history parties) tables specs = absurd (never_cut ((Kill (Coordinator n), Done 0) ∷ []) before event given after (refl, tt) whole counts)

    by : (o : Option LiveCoordinator) → run_line number s (if_some o (no_such_party s) (λ d. c)) ≡ (answer, new) → CoordinatorsAreLive new
    by None is = refused_live number s answer new is live
    by (Some d) is = made (line_made number s c answer new is)

-- A line of a coordinator that a fault struck before a start was noted.
struck_line : (number n : ℕ) (s new : State) (before : List Answered) (event : Event) (given : Answer) → AllByRecursion (λ (call : Answered). is_start call.0 ≡ false) before
    → new.store.history ≡ s.store.history ++ map (entry_of number (Coordinator n)) (before ++ (event, struck_answer (does_stand s.fault) given) ∷ []) → new.parties ≡ without_coordinator n s.parties → CoordinatorsAreLive s → CoordinatorsAreLive new
struck_line number n s new before event given none history parties live tables specs =
    ap (λ (t : LiveParties). t.coordinators) (at_calls tables specs number (Coordinator n) s new (before ++ (event, struck_answer (does_stand s.fault) given) ∷ []) history)
    ∙ struck_without tables specs number n (live_at tables specs s) before event (struck_answer (does_stand s.fault) given) none (struck_fault (does_stand s.fault) given) ∙ gone_alike tables specs n s live ∙ ap pairs_of (sym parties)

-- ---- the start of a coordinator

-- After these calls the coordinator is not live, and it put this epoch last.
record HasPut (n epoch : ℕ) (old new : LiveParties) : Type 0 where
  coordinators : new.coordinators ≡ without n old.coordinators
  put : last_epoch n new.epochs ≡ epoch

-- A line that puts an epoch and then notes the start.
started_line : (number n epoch : ℕ) (s : State) (course : Course LineEnd) (front : List Answered) (answer : List ℕ) (new : State) → run_line number s (record { party = Coordinator n; course = course; struck = without_coordinator n s.parties }) ≡ (answer, new)
    → calls_made number (Coordinator n) course s.store ≡ front ++ (Start (Coordinator n), Done 0) ∷ [] → (answer_made number (Coordinator n) course s.store).parties ≡ with_coordinator (record { number = n; epoch = epoch }) s.parties
    → AllByRecursion (λ (call : Answered). is_start call.0 ≡ false) front → ((tables : Tables) (specs : ℕ → JobSpec) → HasPut n epoch (live_at tables specs s) (after_made tables specs number (Coordinator n) (live_at tables specs s) front)) → CoordinatorsAreLive s
    → CoordinatorsAreLive new
started_line number n epoch s course front answer new is are ends none puts live = by (line_made number s c answer new is)
  where
    c : LineCourse
    c = record { party = Coordinator n; course = course; struck = without_coordinator n s.parties }

    noted : Answered
    noted = (Start (Coordinator n), Done 0)

    by : LineMade number s c new → CoordinatorsAreLive new
    by (Whole history parties) tables specs =
        let p = puts tables specs in
        ap (λ (t : LiveParties). t.coordinators) (at_calls tables specs number (Coordinator n) s new (calls_made number (Coordinator n) course s.store) history)
        ∙ ap (λ (cs : List Answered). (after_made tables specs number (Coordinator n) (live_at tables specs s) cs).coordinators) are
        ∙ ap (λ (t : LiveParties). t.coordinators) (made_append tables specs number (Coordinator n) (live_at tables specs s) front (noted ∷ []))
        ∙ ap (λ (e : ℕ). (n, e) ∷ (after_made tables specs number (Coordinator n) (live_at tables specs s) front).coordinators) p.put ∙ ap (λ (ds : List (ℕ × ℕ)). (n, epoch) ∷ ds) (p.coordinators ∙ gone_alike tables specs n s live)
        ∙ ap pairs_of (sym (parties ∙ ends))
    by (Cut before event given after counts whole history parties) tables specs =
        struck_line number n s new before event given (front_plain (λ (call : Answered). is_start call.0 ≡ false) front noted before (event, given) after none (sym are ∙ whole)) history parties live tables specs

-- After a line that starts a coordinator, the live coordinators are still those of the history.
pub start_live : (number n : ℕ) (s : State) (answer : List ℕ) (new : State) → run_line number s (start_coordinator n s) ≡ (answer, new) → CoordinatorsAreLive s → CoordinatorsAreLive new
start_live number n s answer new is live = by (is_some (coordinator_with n s.parties)) refl is
  where
    ends : StepEnd ℕ → LineEnd
    ends = line_end (λ epoch. reply (codes "ok" ∷ codes "epoch" ∷ decimal epoch ∷ [])) (λ epoch. with_coordinator (record { number = n; epoch = epoch }) s.parties) (without_coordinator n s.parties)

    rest : StepEnd ℕ → Course LineEnd
    rest end = calls_each (start_notes n end) (Ends (ends end))

    m : Manifest
    m = s.store.manifest

    epoch : ℕ
    epoch = epoch_above m s.store.records

    calls : List Answered
    calls = start_calls m s.store.records

    unstarted : AllByRecursion (λ (call : Answered). is_start call.0 ≡ false) calls
    unstarted = (refl, (refl, (refl, (refl, (refl, (refl, tt))))))

    -- The start over this store, and its note.
    started : (store : Store) → Alone number (Coordinator n) (then_course start rest) store (start_calls store.manifest store.records ++ (Start (Coordinator n), Done 0) ∷ []) (ends (Reports (epoch_above store.manifest store.records)))
    started store =
        let both = then_made number (Coordinator n) start rest store in
        let one = start_made number (Coordinator n) store in
        record {
          calls_are = both.calls_are ∙ ap (λ (end : StepEnd ℕ). calls_made number (Coordinator n) start store ++ calls_made number (Coordinator n) (rest end) (store_made number (Coordinator n) start store)) one.answer_is
              ∙ ap (λ (cs : List Answered). cs ++ (Start (Coordinator n), Done 0) ∷ []) one.calls_are;
          answer_is = both.answer_is ∙ ap (λ (end : StepEnd ℕ). answer_made number (Coordinator n) (rest end) (store_made number (Coordinator n) start store)) one.answer_is;
        }

    -- From a state without the coordinator, its start puts the epoch.
    puts : (tables : Tables) (specs : ℕ → JobSpec) (t : LiveParties) → without n t.coordinators ≡ t.coordinators → HasPut n epoch t (after_made tables specs number (Coordinator n) t calls)
    puts tables specs t out = record {
      coordinators = made_absent tables specs number n t calls (start_is_quiet m s.store.records) out ∙ sym out;
      put = start_puts tables specs number n t m s.store.records;
    }

    killed : Store
    killed = after_answered number (Coordinator n) (Plain (Kill (Coordinator n))) s.store

    by : (b : Bool) → is_some (coordinator_with n s.parties) ≡ b → run_line number s (noted_line (Coordinator n) (calls_each (killed_first b (Coordinator n)) start) (start_notes n) ends (without_coordinator n s.parties)) ≡ (answer, new) → CoordinatorsAreLive new
    by true e is =
        started_line number n epoch s (Calls (Plain (Kill (Coordinator n))) (λ met. then_course start rest)) ((Kill (Coordinator n), Done 0) ∷ calls) answer new is
        (ap (λ (cs : List Answered). (Kill (Coordinator n), Done 0) ∷ cs) (started killed).calls_are) (ap (λ (l : LineEnd). l.parties) (started killed).answer_is) (refl, unstarted)
        (λ tables specs.
        let t = after_one tables specs (live_at tables specs s) (entry_of number (Coordinator n) (Kill (Coordinator n), Done 0)) in
        let p = puts tables specs t (without_twice n (live_at tables specs s).coordinators) in
        record { coordinators = p.coordinators ∙ without_twice n (live_at tables specs s).coordinators; put = p.put }) live
    by false e is =
        started_line number n epoch s (then_course start rest) calls answer new is (started s.store).calls_are (ap (λ (l : LineEnd). l.parties) (started s.store).answer_is) unstarted
        (λ tables specs. puts tables specs (live_at tables specs s) (ap (without n) (live tables specs) ∙ pairs_absent n s.parties e ∙ sym (live tables specs))) live

-- ---- polls

draws_unseen : (drawn : List (ℕ × JobSpec)) → AllByRecursion IsUnseen (map draw_of drawn)
draws_unseen [] = tt
draws_unseen (d ∷ drawn) = ((refl, refl), draws_unseen drawn)

puts_unseen : (store : Store) (p : PollState) → AllByRecursion IsUnseen (puts_of store p)
puts_unseen store p = all_append IsUnseen (manifest_puts store.manifest p) (records_puts store.records p) (first (is_unchanged store.manifest p)) (second (is_nothing (change_of p)))
  where
    first : (b : Bool) → AllByRecursion IsUnseen (cond b [] ((PutManifest (Commit p.steps), Done (store.manifest.version + 1)) ∷ []))
    first true = tt
    first false = ((refl, refl), tt)

    second : (b : Bool) → AllByRecursion IsUnseen (cond b [] ((PutRecords (Polled (change_of p)), Done (records_version store.records + 1)) ∷ []))
    second true = tt
    second false = ((refl, refl), tt)

over_unseen : (ask : PollAsk) (store : Store) → AllByRecursion IsUnseen (map draw_of (drawn_at ask store) ++ puts_of store (reached_at ask store))
over_unseen ask store = all_append IsUnseen (map draw_of (drawn_at ask store)) (puts_of store (reached_at ask store)) (draws_unseen (drawn_at ask store)) (puts_unseen store (reached_at ask store))

unseen_unstarted : (event : Event) → is_seen event ≡ false → is_start event ≡ false
unseen_unstarted (Start party) none = absurd (cc none)
unseen_unstarted event none = refl

all_unstarted : (calls : List Answered) → AllByRecursion IsUnseen calls → AllByRecursion (λ (call : Answered). is_start call.0 ≡ false) calls
all_unstarted [] none = tt
all_unstarted (call ∷ calls) none = (unseen_unstarted call.0 none.0.0, all_unstarted calls none.1)

-- No call of a poll notes a start.
poll_unstarted : (ask : PollAsk) (store : Store) → AllByRecursion (λ (call : Answered). is_start call.0 ≡ false) (calls_of ask store)
poll_unstarted ask store = by (nat_lt ask.epoch store.manifest.epoch) (nat_lt ask.epoch (records_or_none store.records).epoch)
  where
    by : (b d : Bool) → AllByRecursion (λ (call : Answered). is_start call.0 ≡ false) (cond b ((GetManifest, Done store.manifest.version) ∷ []) (cond d (gets_at store) (calls_before store (drawn_at ask store) ++ puts_of store (reached_at ask store))))
    by true d = (refl, tt)
    by false true = (refl, (refl, tt))
    by false false = (refl, (refl, all_unstarted (map draw_of (drawn_at ask store) ++ puts_of store (reached_at ask store)) (over_unseen ask store)))

-- The poll of a live coordinator. The history fences it exactly where the poll ends as fenced.
poll_called : (inputs : Inputs) (number : ℕ) (commits_only : Bool) (n : ℕ) (s : State) (answer : List ℕ) (new : State) (c : LiveCoordinator) → coordinator_with n s.parties ≡ Some c → PollCalled inputs number commits_only n s answer new c → IsReplayed s.store → CoordinatorsAreLive s
    → CoordinatorsAreLive new
poll_called inputs number commits_only n s answer new c there called replay live = by called.made called.of called.history called.live
  where
    ask : PollAsk
    ask = poll_ask inputs s c commits_only

    gone : Parties
    gone = without_coordinator n s.parties

    m : Manifest
    m = s.store.manifest

    got : ℕ
    got = (records_or_none s.store.records).epoch

    over : List Answered
    over = map draw_of (drawn_at ask s.store) ++ puts_of s.store (reached_at ask s.store)

    -- A poll that no fault strikes. The two tests are those of the epochs of the manifest and the records.
    whole : (tables : Tables) (specs : ℕ → JobSpec) → let t = live_at tables specs s in (b d : Bool) → nat_lt (last_epoch n t.coordinators) t.objects.manifest.epoch ≡ b → nat_lt (last_epoch n t.coordinators) (records_epoch t.objects.records) ≡ d
        → (after_made tables specs number (Coordinator n) t (cond b ((GetManifest, Done m.version) ∷ []) (cond d (gets_at s.store) (calls_before s.store (drawn_at ask s.store) ++ puts_of s.store (reached_at ask s.store))))).coordinators
        ≡ pairs_of (step_parties (λ reached. s.parties) gone (cond b (Fenced m.epoch) (cond d (Fenced got) (Reports (reached_at ask s.store)))))
    whole tables specs b d e f = at b d e f
      where
        t : LiveParties
        t = live_at tables specs s

        -- The parties after the gets, by what the tests say.
        fenced : Bool → LiveParties
        fenced b = cond b (without_coordinator_of n t) t

        second : after_one tables specs t (entry_of number (Coordinator n) (GetRecords, records_answer s.store.records)) ≡ fenced (nat_lt (last_epoch n t.coordinators) (records_epoch t.objects.records))
        second = got_records tables specs number n s.store.records t

        at : (b d : Bool) → nat_lt (last_epoch n t.coordinators) t.objects.manifest.epoch ≡ b → nat_lt (last_epoch n t.coordinators) (records_epoch t.objects.records) ≡ d
            → (after_made tables specs number (Coordinator n) t (cond b ((GetManifest, Done m.version) ∷ []) (cond d (gets_at s.store) (calls_before s.store (drawn_at ask s.store) ++ puts_of s.store (reached_at ask s.store))))).coordinators
            ≡ pairs_of (step_parties (λ reached. s.parties) gone (cond b (Fenced m.epoch) (cond d (Fenced got) (Reports (reached_at ask s.store)))))
        at true d e f = ap (λ (b : Bool). (fenced b).coordinators) e ∙ gone_alike tables specs n s live
        at false true e f =
            ap (λ (b : Bool). (after_made tables specs number (Coordinator n) (fenced b) ((GetRecords, records_answer s.store.records) ∷ [])).coordinators) e
            ∙ ap (λ (u : LiveParties). u.coordinators) second ∙ ap (λ (b : Bool). (fenced b).coordinators) f ∙ gone_alike tables specs n s live
        at false false e f =
            ap (λ (b : Bool). (after_made tables specs number (Coordinator n) (fenced b) ((GetRecords, records_answer s.store.records) ∷ over)).coordinators) e
            ∙ ap (λ (u : LiveParties). (after_made tables specs number (Coordinator n) u over).coordinators) (second ∙ ap fenced f)
            ∙ made_unseen tables specs number n t over (over_unseen ask s.store) ∙ live tables specs

    by : (made : List Answered) (of : MadeOf (does_stand s.fault) (calls_of ask s.store) made) → new.store.history ≡ s.store.history ++ map (entry_of number (Coordinator n)) made → new.parties ≡ parties_if of s.parties gone (ends_as ask s.store) → CoordinatorsAreLive new
    by made (AllMade same) history parties tables specs =
        let epochs = has_epochs tables specs s replay in
        let own : last_epoch n (live_at tables specs s).coordinators ≡ c.epoch = ap (last_epoch n) (live tables specs) ∙ epoch_found n s.parties c there in
        let stored : records_epoch (live_at tables specs s).objects.records ≡ got = epochs.records ∙ sym (got_epoch s.store.records) in
        ap (λ (t : LiveParties). t.coordinators) (at_calls tables specs number (Coordinator n) s new made history) ∙ ap (λ (cs : List Answered). (after_made tables specs number (Coordinator n) (live_at tables specs s) cs).coordinators) same
        ∙ whole tables specs (nat_lt c.epoch m.epoch) (nat_lt c.epoch got) (λ i. nat_lt (own i) (epochs.manifest i)) (λ i. nat_lt (own i) (stored i)) ∙ ap pairs_of (sym parties)
    by made (CutAt before event given after counts all cut) history parties tables specs =
        struck_line number n s new before event given (all_front (λ (call : Answered). is_start call.0 ≡ false) before ((event, given) ∷ after) (subst (AllByRecursion (λ (call : Answered). is_start call.0 ≡ false)) all (poll_unstarted ask s.store)))
        (history ∙ ap (λ (cs : List Answered). s.store.history ++ map (entry_of number (Coordinator n)) cs) cut) parties live tables specs

pub poll_live : (inputs : Inputs) (number : ℕ) (commits_only : Bool) (n : ℕ) (s : State) (answer : List ℕ) (new : State) → PollCalledBy inputs number commits_only n s answer new (coordinator_with n s.parties) → IsReplayed s.store → CoordinatorsAreLive s → CoordinatorsAreLive new
poll_live inputs number commits_only n s answer new called replay live = by (coordinator_with n s.parties) refl called
  where
    by : (o : Option LiveCoordinator) → coordinator_with n s.parties ≡ o → PollCalledBy inputs number commits_only n s answer new o → CoordinatorsAreLive new
    by None there called = subst CoordinatorsAreLive (sym called.1) live
    by (Some c) there called = poll_called inputs number commits_only n s answer new c there called replay live
