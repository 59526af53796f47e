-- The store in the midst of two jobs meets what lawful calls keep.
use Rattle.std.proofs.Common.{◌≡◌, refl, sym, ap, subst, ℕ, ◌≤◌, Bool, true, false, List, [], ◌∷◌, ◌++◌, lit≤, inl, inr, Option, Some, None}
use Rattle.std.specs.Prelude.{◌&&◌, IsTrue, IfSome, nat_le, option_map}
use Rattle.std.specs.List.{AllByRecursion, list_all}
use Rattle.std.proofs.lemmas.Bool.{leb-true}
use Rattle.row_model.specs.Fold.{Operator}
use Rattle.fleet_model.specs.Nodes.{is_among, Tables}
use Rattle.fleet_model.specs.Jobs.{JobSpec, Job, contains, job_with}
use Rattle.fleet_model.specs.History.{Entry, stood}
use Rattle.fleet_model.specs.Store.{Manifest, fresh_store}
use Rattle.fleet_model.specs.Past.Replay.{Objects, after_entry, replayed_objects, plain_objects, plain_manifest}
use Rattle.step_model.specs.Past.{World, manifest_with}
use Rattle.step_model.specs.Entries.{drawn_jobs, mentioned_in, was_named, attempts_in, planned_attempts, tables_brought_in}
use Rattle.step_model.specs.Kept.Faithful.{Faithful}
use Rattle.step_model.specs.Kept.NamesKept.{DrawsKept, NamesKept, AttemptsKept, IsUpTo}
use Rattle.step_model.specs.Kept.TablesKept.{PutsKept, PiecesKept, JobTablesKept}
use Rattle.step_model.specs.Kept.JoinsKept.{JoinsKept, Gone, joins_in}
use Rattle.step_model.specs.Kept.Facts.{EpochsKept, PastKept, StoreFacts}
use Rattle.step_model.specs.Kept.Keeps.{Keeps}
use Rattle.step_laws.specs.Midway.{spec_of, midway_world, tables, jobs, joined_manifest, past, history}
use Rattle.step_laws.proofs.Elements.{all_to}
use Rattle.step_laws.proofs.MidwayStored.{differ, agrees, keeps_by}

-- ---- what each entry is tested for

-- All elements pass a test, and what passes the test has the property.
each_by : {A : Type 0} (P : A → Type 0) (test : A → Bool) → ((x : A) → IsTrue (test x) → P x) → (xs : List A) → IsTrue (list_all test xs) → AllByRecursion P xs
each_by P test passes [] h = tt
each_by P test passes (x ∷ xs) h = by (test x) refl (each_by P test passes xs) h
  where
    by : (b : Bool) → test x ≡ b → (IsTrue (list_all test xs) → AllByRecursion P xs) → IsTrue (b && list_all test xs) → P x × AllByRecursion P xs
    by true e rest more = (passes x e, rest more)
    by false e rest more = absurd (cc more)

-- All elements that these parts of the entries have pass a test.
tested : {B : Type 0} (P : B → Type 0) (test : B → Bool) → ((x : B) → IsTrue (test x) → P x) → (part : Entry → List B) → IsTrue (list_all (λ entry. list_all test (part entry)) history)
    → AllByRecursion (λ entry. AllByRecursion P (part entry)) history
tested P test passes part h = each_by (λ entry. AllByRecursion P (part entry)) (λ entry. list_all test (part entry)) (λ entry passed. each_by P test passes (part entry) passed) history h

-- What holds of all entries holds of those that took effect.
if_stood : (P : Entry → Type 0) → AllByRecursion P history → AllByRecursion (λ entry. IsTrue (stood entry.answer) → P entry) history
if_stood P h = all_to P (λ entry. IsTrue (stood entry.answer) → P entry) history (λ entry there holds took. holds) h

-- ---- the replay of each part of the history

-- The objects after each part of these entries have the property.
abbrev pub Throughout : (Objects → Type 0) → Tables → (ℕ → JobSpec) → List Entry → Objects → Type 0
Throughout P put specs [] o = P o
Throughout P put specs (entry ∷ history) o = P o × Throughout P put specs history (after_entry put specs entry o)

at_front : (P : Objects → Type 0) (put : Tables) (specs : ℕ → JobSpec) (front back : List Entry) (o : Objects) → Throughout P put specs (front ++ back) o → P (replayed_objects put specs front o)
at_front P put specs [] [] o h = h
at_front P put specs [] (entry ∷ back) o h = h.0
at_front P put specs (entry ∷ front) back o h = at_front P put specs front back (after_entry put specs entry o) h.1

-- The manifest of the objects is one of these.
abbrev pub IsPast : List Manifest → Objects → Type 0
IsPast manifests o = option_map plain_manifest (manifest_with o.manifest.version manifests) ≡ Some o.manifest

-- The replay of each part of a history gives a past manifest, if that is so of each part in turn.
pub parts_are_past : (world : World) (specs : ℕ → JobSpec) → Throughout (IsPast world.past) world.store.tables specs world.store.history (plain_objects fresh_store)
    → (front back : List Entry) → front ++ back ≡ world.store.history → IsPast world.past (replayed_objects world.store.tables specs front (plain_objects fresh_store))
parts_are_past world specs h front back parts =
    at_front (IsPast world.past) world.store.tables specs front back (plain_objects fresh_store) (subst (λ entries. Throughout (IsPast world.past) world.store.tables specs entries (plain_objects fresh_store)) (sym parts) h)

throughout : Throughout (IsPast past) tables spec_of history (plain_objects fresh_store)
throughout = (refl, (refl, (refl, (refl, (refl, (refl, (refl, (refl, (refl, (refl, (refl, (refl, (refl, (refl, (refl, (refl, (refl, (refl, (refl, (refl, (refl, (refl, (refl, (refl, (refl, (refl, (refl, (refl, (refl, refl)))))))))))))))))))))))))))))

faithful : Faithful midway_world spec_of
faithful = record { agrees = agrees; manifests = parts_are_past midway_world spec_of throughout }

-- ---- draws, names and attempts

draws : DrawsKept 2 2 history
draws = record {
  jobs_rise = ((lit≤ tt, tt), (tt, tt));
  jobs_counted = (lit≤ tt, (lit≤ tt, tt));
  tables_rise = ((lit≤ tt, tt), (tt, tt));
  tables_counted = ((lit≤ tt, lit≤ tt), ((lit≤ tt, lit≤ tt), tt));
  few = lit≤ tt;
}

names : NamesKept midway_world
names = record {
  drawn = tested (λ id. IsTrue (contains (drawn_jobs history) id)) (contains (drawn_jobs history)) (λ id h. h) mentioned_in refl;
  named = (refl, (refl, tt));
  specs = λ specs given. let submitted = given.agrees.1.1.1.1.1.1.1.1.0 in (submitted.0, (submitted.1.0, tt));
  trimmed_already = refl;
}

-- True if the job's attempt is at least this one, or if there is no job.
abbrev is_reached : Option Job → ℕ → Bool
is_reached None attempt = true
is_reached (Some job) attempt = nat_le attempt job.attempt

-- True if a put named the attempt's job, and the attempt is no later than the stored one.
abbrev is_up_to : ℕ × ℕ → Bool
is_up_to a = was_named history a.0 && is_reached (job_with a.0 jobs) a.1

up_to_by : (named : Bool) (found : Option Job) (attempt : ℕ) → IsTrue (named && is_reached found attempt) → IsTrue named × IfSome found (λ job. attempt ≤ job.attempt)
up_to_by true None attempt h = (refl, tt)
up_to_by true (Some job) attempt h = (refl, leb-true attempt job.attempt h)
up_to_by false found attempt h = absurd (cc h)

up_to : (a : ℕ × ℕ) → IsTrue (is_up_to a) → IsUpTo history jobs a
up_to a h = up_to_by (was_named history a.0) (job_with a.0 jobs) a.1 h

attempts : AttemptsKept history jobs
attempts = record {
  up_to = if_stood (λ entry. AllByRecursion (IsUpTo history jobs) (attempts_in entry.event)) (tested (IsUpTo history jobs) is_up_to up_to (λ entry. attempts_in entry.event) refl);
  planned = tested (IsUpTo history jobs) is_up_to up_to (λ entry. planned_attempts entry.event) refl;
  once = ((λ same. differ 1 2 refl (ap (λ a. a.0) same), (λ same. differ 1 2 refl (ap (λ a. a.1) same), tt)), ((λ same. differ 2 1 refl (ap (λ a. a.0) same), tt), (tt, tt)));
  unbeaten = (λ waits. absurd (cc waits), (λ waits. absurd (cc waits), tt));
  unleased = (λ waits. absurd (cc waits), (λ waits. absurd (cc waits), tt));
}

-- ---- tables

puts : PutsKept history tables
puts = record {
  known = (inr (lit≤ tt), (inr (lit≤ tt), (inl refl, (inl refl, (inr (lit≤ tt), tt)))));
  put = (refl, (refl, (refl, (refl, (refl, tt)))));
  once = (
    (differ _ _ refl, (differ _ _ refl, (differ _ _ refl, (differ _ _ refl, tt)))),
    ((differ _ _ refl, (differ _ _ refl, (differ _ _ refl, tt))), ((differ _ _ refl, (differ _ _ refl, tt)), ((differ _ _ refl, tt), (tt, tt)))),
  );
  brought = tested (λ id. IsTrue (is_among tables id)) (is_among tables) (λ id h. h) (λ entry. tables_brought_in (stood entry.answer) entry.event) refl;
}

pieces : PiecesKept history past joined_manifest.trees
pieces = record {
  pieces = (tt, (tt, ((inr refl, tt), ((inr refl, (inr refl, tt)), ((inr refl, (inr refl, (inr refl, tt))), ((inr refl, (inl refl, (inr refl, tt))), tt))))));
  flushes = (((refl, refl, refl), ((refl, tt), tt)), (((refl, refl, refl), tt), tt));
  watermarks = ((refl, refl), (tt, tt));
  apart = ((refl, tt), (tt, tt));
}

job_tables : JobTablesKept history past jobs
job_tables = record {
  sources = (λ holds. (refl, tt), (λ holds. (refl, tt), tt));
  apart = ((λ one other. refl, tt), (tt, tt));
  drawn = (λ active. (refl, tt), (λ active. (refl, tt), tt));
  unused = (λ unjoined. (refl, tt), (λ unjoined. absurd (cc unjoined), tt));
}

-- ---- joins, epochs and the past

joins : JoinsKept history past joined_manifest.trees jobs
joins = record {
  named = if_stood (λ entry. AllByRecursion (λ id. IsTrue (was_named history id)) (joins_in entry.event)) (tested (λ id. IsTrue (was_named history id)) (was_named history) (λ id h. h) (λ entry. joins_in entry.event) refl);
  late = (λ was. absurd (cc was), (λ was. refl, tt));
  stand = (λ finished. absurd (cc finished), (λ finished was. Gone 2 refl (refl, refl), tt));
}

epochs : EpochsKept 1 history
epochs = record { up_to = (lit≤ tt, tt); rise = (tt, tt) }

past_kept : PastKept joined_manifest past
past_kept = record {
  last = refl;
  up_to = (lit≤ tt, (lit≤ tt, (lit≤ tt, (lit≤ tt, (lit≤ tt, (lit≤ tt, tt))))));
  rise = (
    (lit≤ tt, (lit≤ tt, (lit≤ tt, (lit≤ tt, (lit≤ tt, tt))))),
    ((lit≤ tt, (lit≤ tt, (lit≤ tt, (lit≤ tt, tt)))), ((lit≤ tt, (lit≤ tt, (lit≤ tt, tt))), ((lit≤ tt, (lit≤ tt, tt)), ((lit≤ tt, tt), (tt, tt))))),
  );
}

-- The facts hold of the store in the midst of two jobs.
facts : StoreFacts midway_world
facts = record {
  draws = draws;
  names = names;
  attempts = attempts;
  puts = puts;
  pieces = pieces;
  tables = job_tables;
  joins = joins;
  epochs = epochs;
  past = past_kept;
}

pub midway : (merge : Operator) → Keeps merge midway_world
midway merge = keeps_by merge faithful facts
