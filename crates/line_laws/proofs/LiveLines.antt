-- Which workers are live after each line.
use Rattle.std.proofs.Common.{◌≡◌, refl, sym, ◌∙◌, ap, subst, ℕ, ◌+◌, List, [], ◌∷◌, ◌++◌, cond, Bool, true, false, Option, Some, None}
use Rattle.std.specs.Prelude.{◌==◌, not, filter, map, is_some, IsTrue, ⊤}
use Rattle.std.specs.List.{AllByRecursion}
use Rattle.fleet_model.specs.Jobs.{contains}
use Rattle.fleet_model.specs.History.{Party, Writer, Submitter, Coordinator, Worker, Sweeper, Event, GetManifest, GetRecords, GetTable, Start, Kill, Answer, Done, Absent, Conflict, Entry, is_get_or_put}
use Rattle.fleet_model.specs.Store.{Records, Store, is_held}
use Rattle.fleet_model.specs.Past.Live.{is_fault}
use Rattle.fleet_model.specs.Work.Parties.{LiveWorker, Parties, worker_with, without_worker, with_worker, Attempt}
use Rattle.fleet_model.specs.Exchanges.{Exchange, Plain, DrawsJob, DrawsTable, PutsTable, PutsManifest, PutsRecords, ListsTables, DeletesTable, event_of, answer_of, records_answer, records_version, after_answered, does_stand}
use Rattle.step_model.specs.Courses.Alone.{AloneEnd, run_alone}
use Rattle.step_model.specs.Courses.Course.{Course, Ends, Calls}
use Rattle.step_laws.proofs.Elements.{all_front}
use Rattle.script_model.specs.States.{State}
use Rattle.script_model.specs.LineRuns.{LineEnd, LineCourse, run_line, end_or_fault, after_line}
use Rattle.line_laws.specs.Lines.PollRuns.{Answered, entry_of}
use Rattle.line_laws.specs.Faults.{calls_made, answer_made, struck_answer, MadeOf, AllMade, CutAt, answer_if, RunsCut}
use Rattle.line_laws.proofs.Faults.{runs_cut}
use Rattle.line_laws.proofs.QuietCalls.{is_note, IsQuiet, AreQuiet}
use Rattle.line_laws.proofs.LiveWorkers.{noted_to, folded, folded_append, live_in, SameSet, same_without, same_running}

-- ---- what a line leaves

-- The line made these calls, or was cut at one of them.
pub data LineMade (number : ℕ) (s : State) (c : LineCourse) (new : State) : Type 0 where
  Whole : new.store.history ≡ s.store.history ++ map (entry_of number c.party) (calls_made number c.party c.course s.store) → new.parties ≡ (answer_made number c.party c.course s.store).parties → LineMade number s c new
  Cut : (before : List Answered) (event : Event) (answer : Answer) (after : List Answered) → IsTrue (is_get_or_put event) → calls_made number c.party c.course s.store ≡ before ++ (event, answer) ∷ after
      → new.store.history ≡ s.store.history ++ map (entry_of number c.party) (before ++ (event, struck_answer (does_stand s.fault) answer) ∷ []) → new.parties ≡ c.struck → LineMade number s c new

-- A line makes all calls of its course and leaves the parties of its end, or a fault cuts it at one of the calls.
pub line_made : (number : ℕ) (s : State) (c : LineCourse) (answer : List ℕ) (new : State) → run_line number s c ≡ (answer, new) → LineMade number s c new
line_made number s c answer new is = by run r.made r.of r.history r.answer is
  where
    run : AloneEnd LineEnd
    run = run_alone number c.party c.course s.fault s.store

    r : RunsCut number c.party c.course s.fault s.store run
    r = runs_cut number c.party c.course s.fault s.store

    by : (run : AloneEnd LineEnd) (made : List Answered) (of : MadeOf (does_stand s.fault) (calls_made number c.party c.course s.store) made) → run.store.history ≡ s.store.history ++ map (entry_of number c.party) made
        → run.answer ≡ answer_if of (answer_made number c.party c.course s.store) → after_line s (end_or_fault c.struck run.answer) run ≡ (answer, new) → LineMade number s c new
    by run made (AllMade same) history answered is = Whole
        (sym (ap (λ (p : List ℕ × State). p.1.store.history) is) ∙ history ∙ ap (λ (cs : List Answered). s.store.history ++ map (entry_of number c.party) cs) same)
        (sym (ap (λ (p : List ℕ × State). p.1.parties) is) ∙ ap (λ (o : Option LineEnd). (end_or_fault c.struck o).parties) answered)
    by run made (CutAt before event given after counts whole cut) history answered is = Cut before event given after counts whole
        (sym (ap (λ (p : List ℕ × State). p.1.store.history) is) ∙ history ∙ ap (λ (cs : List Answered). s.store.history ++ map (entry_of number c.party) cs) cut)
        (sym (ap (λ (p : List ℕ × State). p.1.parties) is) ∙ ap (λ (o : Option LineEnd). (end_or_fault c.struck o).parties) answered)

-- ---- calls of other parties

-- The workers of the state are the live ones of its history.
abbrev pub IsLive : State → Type 0
IsLive s = SameSet (live_in s.store.history) s.parties

-- The party is no worker.
abbrev pub IsNoWorker : Party → Type 0
IsNoWorker (Worker n) = ⊥
IsNoWorker party = ⊤

other_folded : (line : ℕ) (party : Party) (calls : List Answered) (ws : List ℕ) → IsNoWorker party → folded ws (map (entry_of line party) calls) ≡ ws
other_folded line party [] ws none = refl
other_folded line Writer (call ∷ calls) ws none = other_folded line Writer calls ws none
other_folded line Submitter (call ∷ calls) ws none = other_folded line Submitter calls ws none
other_folded line Sweeper (call ∷ calls) ws none = other_folded line Sweeper calls ws none
other_folded line (Coordinator n) (call ∷ calls) ws none = other_folded line (Coordinator n) calls ws none
other_folded line (Worker n) (call ∷ calls) ws none = absurd none

-- The live workers after calls.
pub after_calls : (number : ℕ) (party : Party) (s new : State) (calls : List Answered) → new.store.history ≡ s.store.history ++ map (entry_of number party) calls → live_in new.store.history ≡ folded (live_in s.store.history) (map (entry_of number party) calls)
after_calls number party s new calls history = ap live_in history ∙ folded_append [] s.store.history (map (entry_of number party) calls)

-- A line of another party leaves the workers.
pub other_line : (number : ℕ) (s : State) (c : LineCourse) (answer : List ℕ) (new : State) → run_line number s c ≡ (answer, new) → IsNoWorker c.party → (answer_made number c.party c.course s.store).parties.workers ≡ s.parties.workers → c.struck.workers ≡ s.parties.workers
    → IsLive s → IsLive new
other_line number s c answer new is none ends struck live = by (line_made number s c answer new is)
  where
    same : (calls : List Answered) → new.store.history ≡ s.store.history ++ map (entry_of number c.party) calls → new.parties.workers ≡ s.parties.workers → IsLive new
    same calls history workers n =
        ap (λ (ws : List ℕ). contains ws n) (after_calls number c.party s new calls history ∙ other_folded number c.party calls (live_in s.store.history) none)
        ∙ live n ∙ ap (λ (ws : List LiveWorker). is_some (worker_with n (record s.parties { workers = ws }))) (sym workers)

    by : LineMade number s c new → IsLive new
    by (Whole history parties) = same (calls_made number c.party c.course s.store) history (ap (λ (p : Parties). p.workers) parties ∙ ends)
    by (Cut before event given after counts whole history parties) = same (before ++ (event, struck_answer (does_stand s.fault) given) ∷ []) history (ap (λ (p : Parties). p.workers) parties ∙ struck)

-- ---- calls of a worker

-- The call is no note that a party comes or goes, and no fault struck it.
abbrev pub IsPlainCall : Answered → Type 0
IsPlainCall call = (is_note call.0 ≡ false) × (is_fault call.1 ≡ false)

put_unstruck : (b : Bool) (there : ℕ) → is_fault (cond b (Done (there + 1)) (Conflict there)) ≡ false
put_unstruck true there = refl
put_unstruck false there = refl

-- No call has a fault as its answer if none strikes it.
no_fault : (x : Exchange) (store : Store) → is_fault (answer_of x store) ≡ false
no_fault (Plain GetManifest) store = refl
no_fault (Plain GetRecords) store = by store.records
  where
    by : (o : Option Records) → is_fault (records_answer o) ≡ false
    by None = refl
    by (Some records) = refl
no_fault (Plain (GetTable table)) store = by (is_held store table)
  where
    by : (b : Bool) → is_fault (cond b (Done 0) Absent) ≡ false
    by true = refl
    by false = refl
no_fault (Plain event) store = refl
no_fault (DrawsJob moment) store = refl
no_fault (DrawsTable moment) store = refl
no_fault (PutsTable table rows) store = refl
no_fault (PutsManifest version change value) store = put_unstruck (version == store.manifest.version) store.manifest.version
no_fault (PutsRecords version change epoch jobs) store = put_unstruck (version == records_version store.records) (records_version store.records)
no_fault ListsTables store = refl
no_fault (DeletesTable table) store = refl

no_note : (x : Exchange) (store : Store) → IsQuiet x → is_note (event_of x store) ≡ false
no_note (Plain event) store quiet = quiet
no_note (DrawsJob moment) store quiet = refl
no_note (DrawsTable moment) store quiet = refl
no_note (PutsTable table rows) store quiet = refl
no_note (PutsManifest version change value) store quiet = refl
no_note (PutsRecords version change epoch jobs) store quiet = refl
no_note ListsTables store quiet = refl
no_note (DeletesTable table) store quiet = refl

pub plain_calls : {A : Type 0} (line : ℕ) (party : Party) (course : Course A) (store : Store) → AreQuiet course → AllByRecursion IsPlainCall (calls_made line party course store)
plain_calls line party (Ends answer) store quiet = tt
plain_calls line party (Calls x next) store quiet = ((no_note x store quiet.0, no_fault x store), plain_calls line party (next store) (after_answered line party x store) (quiet.1 store))

plain_noted : (n : ℕ) (event : Event) (ws : List ℕ) → is_note event ≡ false → noted_to n event ws ≡ ws
plain_noted n (Start party) ws e = absurd (cc e)
plain_noted n (Kill party) ws e = absurd (cc e)
plain_noted n event ws e = refl

pub plain_folded : (line n : ℕ) (calls : List Answered) (ws : List ℕ) → AllByRecursion IsPlainCall calls → folded ws (map (entry_of line (Worker n)) calls) ≡ ws
plain_folded line n [] ws plain = refl
plain_folded line n (call ∷ calls) ws plain =
    ap (λ (b : Bool). folded (cond b (filter (λ w. not (n == w)) ws) (noted_to n call.0 ws)) (map (entry_of line (Worker n)) calls)) plain.0.1
    ∙ ap (λ (vs : List ℕ). folded vs (map (entry_of line (Worker n)) calls)) (plain_noted n call.0 ws plain.0.0)
    ∙ plain_folded line n calls ws plain.1

pub struck_fault : (stands : Bool) (answer : Answer) → is_fault (struck_answer stands answer) ≡ true
struck_fault false answer = refl
struck_fault true (Conflict version) = refl
struck_fault true answer = refl

pub map_both : (line : ℕ) (party : Party) (front back : List Answered) → map (entry_of line party) (front ++ back) ≡ map (entry_of line party) front ++ map (entry_of line party) back
map_both line party [] back = refl
map_both line party (call ∷ front) back = ap (λ (es : List Entry). entry_of line party call ∷ es) (map_both line party front back)

-- Calls of a worker that end with a fault leave the others.
pub cut_folded : (line n : ℕ) (before : List Answered) (event : Event) (answer : Answer) (ws : List ℕ) → AllByRecursion IsPlainCall before → is_fault answer ≡ true
    → folded ws (map (entry_of line (Worker n)) (before ++ (event, answer) ∷ [])) ≡ filter (λ w. not (n == w)) ws
cut_folded line n before event answer ws plain fault =
    ap (folded ws) (map_both line (Worker n) before ((event, answer) ∷ []))
    ∙ folded_append ws (map (entry_of line (Worker n)) before) (entry_of line (Worker n) (event, answer) ∷ [])
    ∙ ap (λ (vs : List ℕ). cond (is_fault answer) (filter (λ w. not (n == w)) vs) (noted_to n event vs)) (plain_folded line n before ws plain)
    ∙ ap (λ (b : Bool). cond b (filter (λ w. not (n == w)) ws) (noted_to n event ws)) fault

-- A line of a live worker whose calls are quiet: the worker stays if it runs to its end, and goes if it is struck.
pub work_line : (number : ℕ) (s : State) (w : LiveWorker) (course : Course LineEnd) (answer : List ℕ) (new : State) → run_line number s (record { party = Worker w.number; course = course; struck = without_worker w.number s.parties }) ≡ (answer, new) → AreQuiet course
    → ((attempts : List Attempt) × ((answer_made number (Worker w.number) course s.store).parties ≡ with_worker (record w { attempts = attempts }) s.parties)) → is_some (worker_with w.number s.parties) ≡ true → IsLive s → IsLive new
work_line number s w course answer new is quiet ends there live = by (line_made number s c answer new is)
  where
    c : LineCourse
    c = record { party = Worker w.number; course = course; struck = without_worker w.number s.parties }

    by : LineMade number s c new → IsLive new
    by (Whole history parties) =
        subst (λ (ws : List ℕ). SameSet ws new.parties) (sym (after_calls number (Worker w.number) s new (calls_made number (Worker w.number) course s.store) history ∙ plain_folded number w.number (calls_made number (Worker w.number) course s.store) (live_in s.store.history) (plain_calls number (Worker w.number) course s.store quiet)))
        (subst (SameSet (live_in s.store.history)) (sym (parties ∙ ends.1)) (same_running (record w { attempts = ends.0 }) (live_in s.store.history) s.parties live there))
    by (Cut before event given after counts whole history parties) =
        let plain = all_front IsPlainCall before ((event, given) ∷ after) (subst (AllByRecursion IsPlainCall) whole (plain_calls number (Worker w.number) course s.store quiet)) in
        subst (λ (ws : List ℕ). SameSet ws new.parties) (sym (after_calls number (Worker w.number) s new (before ++ (event, struck_answer (does_stand s.fault) given) ∷ []) history
        ∙ cut_folded number w.number before event (struck_answer (does_stand s.fault) given) (live_in s.store.history) plain (struck_fault (does_stand s.fault) given)))
        (subst (SameSet (filter (λ v. not (w.number == v)) (live_in s.store.history))) (sym parties) (same_without w.number (live_in s.store.history) s.parties live))

-- ---- notes

-- Notes are never struck.
pub never_cut : (calls before : List Answered) (event : Event) (answer : Answer) (after : List Answered) → AllByRecursion (λ (call : Answered). is_get_or_put call.0 ≡ false) calls → calls ≡ before ++ (event, answer) ∷ after → IsTrue (is_get_or_put event) → ⊥
never_cut [] [] event answer after none whole counts = absurd (cc whole)
never_cut [] (call ∷ before) event answer after none whole counts = absurd (cc whole)
never_cut (first ∷ calls) [] event answer after none whole counts = let same : first ≡ (event, answer) = cc whole in let e = none.0 in let f = ap (λ (call : Answered). is_get_or_put call.0) same in absurd (cc (e, f, counts))
never_cut (first ∷ calls) (call ∷ before) event answer after none whole counts = never_cut calls before event answer after none.1 (cc whole) counts

-- A line that only makes these notes of a worker.
pub note_line : (number n : ℕ) (s : State) (course : Course LineEnd) (calls : List Answered) (parties : Parties) (answer : List ℕ) (new : State) → run_line number s (record { party = Worker n; course = course; struck = s.parties }) ≡ (answer, new)
    → calls_made number (Worker n) course s.store ≡ calls → AllByRecursion (λ (call : Answered). is_get_or_put call.0 ≡ false) calls → (answer_made number (Worker n) course s.store).parties ≡ parties
    → SameSet (folded (live_in s.store.history) (map (entry_of number (Worker n)) calls)) parties → IsLive new
note_line number n s course calls parties answer new is are none ends same = by (line_made number s c answer new is)
  where
    c : LineCourse
    c = record { party = Worker n; course = course; struck = s.parties }

    by : LineMade number s c new → IsLive new
    by (Whole history left) =
        subst (λ (ws : List ℕ). SameSet ws new.parties) (sym (after_calls number (Worker n) s new (calls_made number (Worker n) course s.store) history ∙ ap (λ (cs : List Answered). folded (live_in s.store.history) (map (entry_of number (Worker n)) cs)) are))
        (subst (SameSet (folded (live_in s.store.history) (map (entry_of number (Worker n)) calls))) (sym (left ∙ ends)) same)
    by (Cut before event given after counts whole history left) = absurd (never_cut calls before event given after none (sym are ∙ whole) counts)
