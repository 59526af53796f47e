-- How courses end that nobody disturbs, and what they leave in the store.
use Rattle.std.proofs.Common.{◌≡◌, refl, sym, ◌∙◌, ap, subst, ℕ, ◌+◌, List, [], ◌∷◌, ◌++◌, cond, Bool, true, false, inl, inr, Option, Some, None, arith}
use Rattle.std.specs.Prelude.{◌==◌, max}
use Rattle.std.proofs.lemmas.Bool.Decides.{Decides-eqb}
use Rattle.fleet_model.specs.Jobs.{Jobs}
use Rattle.fleet_model.specs.History.{Party, Event, RecordChange, Entry}
use Rattle.fleet_model.specs.Store.{Records, Store, stored_jobs}
use Rattle.fleet_model.specs.Exchanges.{Plain, PutsRecords, DrawsJob, Fault, event_of, answer_of, after_answered, strikes, waiting_after, struck_by, does_stand, records_version, next_job_id}
use Rattle.step_model.specs.Courses.Course.{Course, Ends, Calls, then_course, calls_each, draws_jobs, puts_records}
use Rattle.step_model.specs.Courses.Alone.{AloneEnd, run_alone}
use Rattle.step_model.specs.Entries.{name_in, last_name}
use Rattle.line_laws.specs.Lines.Refused.{IsAsBefore, StruckIn}
use Rattle.line_laws.specs.Faults.{answer_made}

-- ---- ends

-- A course that nobody disturbs ends with such an answer and leaves such a store.
abbrev pub EndsSo : {A : Type 0} → ℕ → Party → Course A → Store → (A → Store → Type 0) → Type 0
EndsSo line party (Ends answer) store P = P answer store
EndsSo line party (Calls x next) store P = EndsSo line party (next store) (after_answered line party x store) P

-- A step and what follows it end as what follows it does.
pub then_so : {A B : Type 0} (line : ℕ) (party : Party) (step : Course A) (rest : A → Course B) (store : Store) (P : A → Store → Type 0) (Q : B → Store → Type 0) → ((a : A) (left : Store) → P a left → EndsSo line party (rest a) left Q) → EndsSo line party step store P
    → EndsSo line party (then_course step rest) store Q
then_so line party (Ends answer) rest store P Q further so = further answer store so
then_so line party (Calls x next) rest store P Q further so = then_so line party (next store) rest (after_answered line party x store) P Q further so

pub weaker_so : {A : Type 0} (line : ℕ) (party : Party) (course : Course A) (store : Store) (P Q : A → Store → Type 0) → ((a : A) (left : Store) → P a left → Q a left) → EndsSo line party course store P → EndsSo line party course store Q
weaker_so line party (Ends answer) store P Q further so = further answer store so
weaker_so line party (Calls x next) store P Q further so = weaker_so line party (next store) (after_answered line party x store) P Q further so

-- A course ends with its answer and leaves its store.
pub made_so : {A : Type 0} (line : ℕ) (party : Party) (course : Course A) (store : Store) (P : A → Store → Type 0) → ((left : Store) → P (answer_made line party course store) left) → EndsSo line party course store P
made_so line party (Ends answer) store P so = so store
made_so line party (Calls x next) store P so = made_so line party (next store) (after_answered line party x store) P so

-- ---- runs

-- A run that is alone is struck at a call, or it ends as its course does that nobody disturbs.
pub data RunEnds {A : Type 0} (line : ℕ) (party : Party) (stands : Bool) (course : Course A) (store : Store) (P : A → Store → Type 0) (run : AloneEnd A) : Type 0 where
  RunStruck : run.answer ≡ None → run.fault ≡ None → StruckIn line party stands course store run.store → RunEnds line party stands course store P run
  RunEnded : (answer : A) → run.answer ≡ Some answer → P answer run.store → RunEnds line party stands course store P run

same_stands : (event : Event) (fault : Option Fault) → does_stand (waiting_after event fault) ≡ does_stand fault
same_stands event None = refl
same_stands event (Some fault) = refl

-- A run that is alone ends as its course does, or at the call that the waiting fault strikes.
pub run_ends : {A : Type 0} (line : ℕ) (party : Party) (course : Course A) (fault : Option Fault) (store : Store) (P : A → Store → Type 0) → EndsSo line party course store P → RunEnds line party (does_stand fault) course store P (run_alone line party course fault store)
run_ends line party (Ends answer) fault store P so = RunEnded answer refl so
run_ends {A} line party (Calls x next) fault store P so = by (strikes (event_of x store) fault) (run_ends line party (next store) (waiting_after (event_of x store) fault) (after_answered line party x store) P so)
  where
    later : AloneEnd A
    later = run_alone line party (next store) (waiting_after (event_of x store) fault) (after_answered line party x store)

    further : RunEnds line party (does_stand (waiting_after (event_of x store) fault)) (next store) (after_answered line party x store) P later → RunEnds line party (does_stand fault) (Calls x next) store P later
    further (RunStruck none gone struck) = RunStruck none gone (inr (subst (λ (b : Bool). StruckIn line party b (next store) (after_answered line party x store) later.store) (same_stands (event_of x store) fault) struck))
    further (RunEnded answer is p) = RunEnded answer is p

    by : (b : Bool) → RunEnds line party (does_stand (waiting_after (event_of x store) fault)) (next store) (after_answered line party x store) P later
        → RunEnds line party (does_stand fault) (Calls x next) store P (cond b (record { answer = None; store = struck_by (does_stand fault) line party x store; fault = None }) later)
    by true rest = RunStruck refl refl (inl refl)
    by false rest = further rest

-- ---- calls that leave objects and tables

-- The store is the old one but for its history.
abbrev pub IsLike : Store → Store → Type 0
IsLike old new = new ≡ record old { history = new.history }

pub like_got : (line : ℕ) (party : Party) (event : Event) (old store : Store) → IsLike old store → IsLike old (after_answered line party (Plain event) store)
like_got line party event old store like = ap (λ (s : Store). record s { history = (after_answered line party (Plain event) store).history }) like

-- Gets and notes, and then a course that ends so over each store with the same objects and tables.
pub gets_so : {A : Type 0} (line : ℕ) (party : Party) (events : List Event) (next : Course A) (old store : Store) (P : A → Store → Type 0) → IsLike old store → ((left : Store) → IsLike old left → EndsSo line party next left P)
    → EndsSo line party (calls_each events next) store P
gets_so line party [] next old store P like so = so store like
gets_so line party (event ∷ events) next old store P like so = gets_so line party events next old (after_answered line party (Plain event) store) P (like_got line party event old store like) so

name_push : (history : List Entry) (entry : Entry) → last_name (history ++ entry ∷ []) ≡ max (last_name history) (name_in entry.event)
name_push [] entry = omega arith
name_push (first ∷ history) entry = let rest = name_push history entry in omega (arith, rest)

-- A call that puts no flushed table leaves the greatest name.
same_name : (history : List Entry) (entry : Entry) → name_in entry.event ≡ 0 → last_name (history ++ entry ∷ []) ≡ last_name history
same_name history entry none = let push = name_push history entry in omega (arith, push, none)

pub before_got : (line : ℕ) (party : Party) (event : Event) (old store : Store) → name_in event ≡ 0 → IsAsBefore old store → IsAsBefore old (after_answered line party (Plain event) store)
before_got line party event old store none b = record {
  same = like_got line party event old store b.same;
  names = same_name store.history (record { line = line; party = party; event = event; answer = answer_of (Plain event) store }) none ∙ b.names;
}

pub before_itself : (store : Store) → IsAsBefore store store
before_itself store = record { same = refl; names = refl }

-- ---- puts of the records

-- A put of the records that are stored is never refused, so the course goes on after it.
pub put_so : {A : Type 0} (line : ℕ) (party : Party) (got : Records) (change : RecordChange) (epoch : ℕ) (jobs : Jobs) (next : Course A) (refused : ℕ → Course A) (store : Store) (P : A → Store → Type 0) → store.records ≡ Some got
    → EndsSo line party next (after_answered line party (PutsRecords got.version change epoch jobs) store) P → EndsSo line party (puts_records got change epoch jobs next refused) store P
put_so line party got change epoch jobs next refused store P stored so =
    subst (λ (b : Bool). EndsSo line party (cond b next (refused (records_version store.records))) (after_answered line party (PutsRecords got.version change epoch jobs) store) P)
    (sym ((Decides-eqb got.version (records_version store.records)).1 (sym (ap records_version stored)))) so

-- What a put of the records leaves: these jobs, and all else but the history.
pub record PutLeft (old : Store) (these : Jobs) (left : Store) : Type 0 where
  pub same : left ≡ record old { records = left.records; history = left.history }
  pub jobs : stored_jobs left ≡ these

-- A put of the records that are stored leaves its jobs.
pub put_left : (line : ℕ) (party : Party) (got : Records) (change : RecordChange) (epoch : ℕ) (jobs : Jobs) (old store : Store) → IsLike old store → store.records ≡ Some got → PutLeft old jobs (after_answered line party (PutsRecords got.version change epoch jobs) store)
put_left line party got change epoch jobs old store like stored = by (got.version == records_version store.records) ((Decides-eqb got.version (records_version store.records)).1 (sym (ap records_version stored)))
  where
    put : Store
    put = record store { records = Some (record { version = got.version + 1; epoch = epoch; jobs = jobs }) }

    left : Bool → Store
    left b = record (cond b put store) { history = (after_answered line party (PutsRecords got.version change epoch jobs) store).history }

    by : (b : Bool) → b ≡ true → PutLeft old jobs (left b)
    by true e = record { same = ap (λ (s : Store). record s { records = (left true).records; history = (left true).history }) like; jobs = refl }
    by false e = absurd (cc e)

-- ---- draws

-- Draws leave the records, so a course goes on after them with some ids.
pub draws_so : {A B : Type 0} (line : ℕ) (party : Party) (moment : ℕ) (xs : List B) (next : List (ℕ × B) → Course A) (records : Option Records) (store : Store) (P : A → Store → Type 0) → store.records ≡ records
    → ((drawn : List (ℕ × B)) (left : Store) → left.records ≡ records → EndsSo line party (next drawn) left P) → EndsSo line party (draws_jobs moment xs next) store P
draws_so line party moment [] next records store P same so = so [] store same
draws_so line party moment (x ∷ xs) next records store P same so =
    draws_so line party moment xs (λ drawn. next ((next_job_id moment store, x) ∷ drawn)) records (after_answered line party (DrawsJob moment) store) P same (λ drawn left here. so ((next_job_id moment store, x) ∷ drawn) left here)
