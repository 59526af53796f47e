-- A finish of a worker that fits is a lawful course.
use Rattle.std.proofs.Common.{◌≡◌, ◌≢◌, refl, sym, ◌∙◌, ap, subst, ℕ, zero, suc, List, [], ◌∷◌, ◌++◌, cond, Bool, true, false, inr, Option, Some, None, drop, length, arith}
use Rattle.std.specs.Prelude.{IsTrue, IfSome, ◌==◌, map, flat_map, ⊤}
use Rattle.std.specs.List.{AllByRecursion, concat}
use Rattle.std.specs.List.Sorted.{IsStrictlySortedBy}
use Rattle.std.specs.declared.cmp.Ordering.TheVariants.{Less}
use Rattle.std.proofs.lemmas.List.{append_assoc}
use Rattle.row_model.specs.Lists.{IsPrefixOf}
use Rattle.row_model.specs.Rows.{Row, row_cmp, IsStrictlyOrdered, sorted_rows}
use Rattle.row_model.specs.Ranges.{Range, Unbounded}
use Rattle.row_model.specs.Written.Tables.{cut_tables}
use Rattle.row_model.specs.Bounds.{IsInBounds}
use Rattle.row_model.specs.JobRows.{job_rows}
use Rattle.row_laws.specs.Ranges.{ranges_between}
use Rattle.row_laws.proofs.Ranges.{ranges_make_all}
use Rattle.row_laws.proofs.Turns.{plans_cover}
use Rattle.row_laws.proofs.Tables.{tables_have_all}
use Rattle.fleet_model.specs.Nodes.{Tables, table_rows}
use Rattle.fleet_model.specs.Jobs.{JobSpec, Job, Context, Release, One, Two, knows_cut, job_with}
use Rattle.fleet_model.specs.Invariants.TreesFit.{IsTable}
use Rattle.fleet_model.specs.Invariants.JobsFit.{OutputsFit, cut_or}
use Rattle.fleet_model.specs.Invariants.AttemptsFit.{AttemptFits, CutFits}
use Rattle.fleet_model.specs.History.{Worker, GetRecords, GetTable, Finish}
use Rattle.fleet_model.specs.Store.{Records, jobs_in, stored_jobs, is_held}
use Rattle.fleet_model.specs.Work.Records.{Unrecorded, no_contexts, jobs_after, finished_by}
use Rattle.fleet_model.specs.Sweeps.{attempt_tables}
use Rattle.fleet_model.specs.Work.Attempts.{source_rows, range_rows, rows_left, noted_rows, finish_cut}
use Rattle.fleet_model.specs.Work.Parties.{Attempt, LiveWorker, is_live, runs_attempt, live_attempts, without_attempts}
use Rattle.fleet_model.specs.Exchanges.{Plain, PutsRecords, records_version}
use Rattle.step_model.specs.Past.{World}
use Rattle.step_model.specs.Kept.Faithful.{Faithful}
use Rattle.step_model.specs.Lawful.{Lawful}
use Rattle.step_model.specs.LawfulTables.{MayUse}
use Rattle.step_model.specs.LawfulRecords.{OfSome, FinishIsWhole}
use Rattle.step_model.specs.Fits.{AttemptHeld, noted_tables, WorkerHolds}
use Rattle.step_model.specs.Rivals.{Caller, after_call}
use Rattle.step_model.specs.Kept.Keeps.{Keeps}
use Rattle.step_model.specs.Courses.Tries.{tries}
use Rattle.step_model.specs.Steps.OutputSteps.{gets_tables, unless_refused}
use Rattle.step_model.specs.Steps.FinishSteps.{FinishAsk, FinishedJob, all_outputs, ends_job, ends_job_by, end_try, end_job, tables_left, puts_and_ends, finish}
use Rattle.step_model.specs.Courses.StepEnds.{StepEnd, Reports, most_refused}
use Rattle.step_model.specs.Courses.Course.{Course, Ends, calls_each}
use Rattle.step_model.specs.Courses.CourseRuns.{IsLawfulCourse}
use Rattle.step_laws.proofs.Elements.{IsIn, all_at, all_from, all_to, all_append, all_front, all_back, all_unflat, all_true_front, all_true_from}
use Rattle.step_laws.proofs.Deletions.{in_filter}
use Rattle.course_laws.specs.Finishes.{WholeUnless, FinishesAreLawful}
use Rattle.course_laws.proofs.Later.{Later, later_itself, later_met}
use Rattle.course_laws.proofs.Puts.{got_records, over_got}
use Rattle.course_laws.proofs.Calls.{keeps_after, all_map}
use Rattle.course_laws.proofs.JobBounds.{IsShort, AreGood, left_good}
use Rattle.rival_laws.proofs.FreeTables.{free_own}
use Rattle.course_laws.proofs.Made.{Relies, State, state_met, state_got, state_table, state_refused, ids_of, tables_of, all_of, ranges_made}
use Rattle.course_laws.proofs.Outputs.{found_in, back_lawful}
use Rattle.step_laws.proofs.MidwayCalls.{unnamed}

-- ---- the tables that are cut

ordered_front : (xs ys : List Row) → IsStrictlyOrdered (xs ++ ys) → IsStrictlyOrdered xs
unfolding IsStrictlySortedBy
ordered_front [] ys h = tt
ordered_front (x ∷ xs) ys h = (all_front (λ q. row_cmp x q ≡ Less) xs ys h.0, ordered_front xs ys h.1)

ordered_back : (xs ys : List Row) → IsStrictlyOrdered (xs ++ ys) → IsStrictlyOrdered ys
unfolding IsStrictlySortedBy
ordered_back [] ys h = h
ordered_back (x ∷ xs) ys h = ordered_back xs ys h.1

are_tables : (tables : List (List Row)) → AllByRecursion (λ table. table ≢ []) tables → IsStrictlyOrdered (flat_map (λ table. table) tables) → AllByRecursion IsInBounds (flat_map (λ table. table) tables) → AllByRecursion IsTable tables
are_tables [] filled ordered bounds = tt
are_tables (table ∷ tables) filled ordered bounds = (
  record { some = filled.0; ordered = ordered_front table (flat_map (λ t. t) tables) ordered; bounds = all_front IsInBounds table (flat_map (λ t. t) tables) bounds },
  are_tables tables filled.1 (ordered_back table (flat_map (λ t. t) tables) ordered) (all_back IsInBounds table (flat_map (λ t. t) tables) bounds),
)

cut_sound : (size : ℕ) (rows : List Row) → AreGood rows → AllByRecursion IsTable (cut_tables size rows)
cut_sound size rows good =
    let cut = tables_have_all size rows in
    are_tables (cut_tables size rows) cut.filled (subst IsStrictlyOrdered (sym cut.all) good.ordered) (subst (AllByRecursion IsInBounds) (sym cut.all) good.bounds)

-- ---- rows of outputs

pub flat_append : {A B : Type 0} (f : A → List B) (xs ys : List A) → flat_map f (xs ++ ys) ≡ flat_map f xs ++ flat_map f ys
flat_append f [] ys = refl
flat_append f (x ∷ xs) ys = ap (λ zs. f x ++ zs) (flat_append f xs ys) ∙ sym (append_assoc (f x) (flat_map f xs) (flat_map f ys))

pub flat_same : {A B : Type 0} (f g : A → List B) (xs : List A) → AllByRecursion (λ x. f x ≡ g x) xs → flat_map f xs ≡ flat_map g xs
flat_same f g [] same = refl
flat_same f g (x ∷ xs) same =
    let first = same.0 in
    let rest = flat_same f g xs same.1 in
    λ i. first i ++ rest i

pub drop_front : {A : Type 0} (xs ys : List A) → drop (length xs) (xs ++ ys) ≡ ys
drop_front [] ys = refl
drop_front (x ∷ xs) ys = drop_front xs ys

-- A prefix and what is after it are the whole.
pub prefix_whole : (xs all : List Row) → IsPrefixOf xs all → xs ++ drop (length xs) all ≡ all
prefix_whole xs all prefix = ap (λ (ys : List Row). xs ++ ys) (ap (drop (length xs)) (sym prefix.1) ∙ drop_front xs prefix.0) ∙ prefix.1

made_rows : (tables : Tables) (made : List (ℕ × List Row)) → AllByRecursion (λ p. table_rows tables p.0 ≡ p.1) made → noted_rows tables (ids_of made) ≡ flat_map (λ table. table) (tables_of made)
made_rows tables [] same = refl
made_rows tables (p ∷ made) same =
    let first = same.0 in
    let rest = made_rows tables made same.1 in
    λ i. first i ++ rest i

-- The tables that were made for each range have the rows that were left of it.
abbrev pub AreLeft : (Range × List ℕ → List Row) → List (Range × List ℕ) → List (List (ℕ × List Row)) → Type 0
AreLeft left [] made = ⊤
AreLeft left (r ∷ ranges) [] = ⊥
AreLeft left (r ∷ ranges) (ps ∷ made) = (flat_map (λ table. table) (tables_of ps) ≡ left r) × AreLeft left ranges made

-- Tables that were cut of the rows that were left have these rows.
cut_left : (size : ℕ) (left : Range × List ℕ → List Row) (ranges : List (Range × List ℕ)) (made : List (List (ℕ × List Row))) → map tables_of made ≡ map (λ range. cut_tables size (left range)) ranges → AreLeft left ranges made
cut_left size left [] made e = tt
cut_left size left (r ∷ ranges) [] e = absurd (cc e)
cut_left size left (r ∷ ranges) (ps ∷ made) e =
    let cut : tables_of ps ≡ cut_tables size (left r) = cc e in
    let further : map tables_of made ≡ map (λ (range : Range × List ℕ). cut_tables size (left range)) ranges = cc e in
    (ap (flat_map (λ (table : List Row). table)) cut ∙ (tables_have_all size (left r)).all, cut_left size left ranges made further)

-- The rows of all outputs are those that the ranges make.
output_rows : (now then : Tables) (all : Range → List Row) (ranges : List (Range × List ℕ)) (made : List (List (ℕ × List Row)))
    → AllByRecursion (λ range. AllByRecursion (λ id. table_rows now id ≡ table_rows then id) range.1) ranges → AllByRecursion (λ ps. AllByRecursion (λ p. table_rows now p.0 ≡ p.1) ps) made
    → AreLeft (λ range. drop (length (noted_rows then range.1)) (all range.0)) ranges made
    → AllByRecursion (λ range. IsPrefixOf (noted_rows then range.1) (all range.0)) ranges
    → noted_rows now (concat (all_outputs ranges (map ids_of made))) ≡ flat_map all (map (λ range. range.0) ranges)
output_rows now then all [] made old new e prefix = refl
output_rows now then all (r ∷ ranges) [] old new e prefix = absurd e
output_rows now then all (r ∷ ranges) (ps ∷ made) old new e prefix =
    let noted : noted_rows now r.1 ≡ noted_rows then r.1 = flat_same (table_rows now) (table_rows then) r.1 old.0 in
    let left : noted_rows now (ids_of ps) ≡ drop (length (noted_rows then r.1)) (all r.0) = made_rows now ps new.0 ∙ e.0 in
    let first : noted_rows now (r.1 ++ ids_of ps) ≡ all r.0 =
    flat_append (table_rows now) r.1 (ids_of ps) ∙ (λ i. noted i ++ left i) ∙ prefix_whole (noted_rows then r.1) (all r.0) prefix.0 in
    let rest = output_rows now then all ranges made old.1 new.1 e.1 prefix.1 in
    flat_append (table_rows now) (r.1 ++ ids_of ps) (concat (all_outputs ranges (map ids_of made))) ∙ (λ i. first i ++ rest i)

pub outputs_all : (P : ℕ → Type 0) (ranges : List (Range × List ℕ)) (made : List (List (ℕ × List Row))) → AllByRecursion P (flat_map (λ range. range.1) ranges) → AllByRecursion (λ p. P p.0) (all_of made)
    → AllByRecursion P (concat (all_outputs ranges (map ids_of made)))
outputs_all P [] made old new = tt
outputs_all P (r ∷ ranges) [] old new = all_append P r.1 _ (all_front P r.1 _ old) (outputs_all P ranges [] (all_back P r.1 _ old) tt)
outputs_all P (r ∷ ranges) (ps ∷ made) old new =
    all_append P (r.1 ++ ids_of ps) _ (all_append P r.1 (ids_of ps) (all_front P r.1 _ old) (all_map P (λ p. p.0) ps (all_front (λ p. P p.0) ps (all_of made) new)))
    (outputs_all P ranges made (all_back P r.1 _ old) (all_back (λ p. P p.0) ps (all_of made) new))

-- ---- what the finish begins with

-- At the start the worker fits, and all ranges of its attempt are whole.
pub record Begins (who : Caller) (w : LiveWorker) (start : World) (a : Attempt) : Type 0 where
  by : who.party ≡ Worker w.number
  there : IsIn a w.attempts
  ordered : IsStrictlyOrdered (source_rows start.store.tables a.sources)
  prefix : AllByRecursion (λ range. IsPrefixOf (noted_rows start.store.tables range.1) (range_rows who.merge start.store.tables a.context.settings a.sources range.0).rows) a.context.ranges
  whole : AllByRecursion (λ range. (range_rows who.merge start.store.tables a.context.settings a.sources range.0).whole ≡ true) a.context.ranges

-- The rows that a range makes at the start.
abbrev range_made : Caller → World → Attempt → Range → List Row
range_made who start a range = (range_rows who.merge start.store.tables a.context.settings a.sources range).rows

-- The rows that were left of a range at the start.
abbrev pub left_of : Caller → World → Attempt → Range × List ℕ → List Row
left_of who start a range = (rows_left who.merge start.store.tables a.context.settings a.sources range).rows

-- The change that ends the job depends on this.
abbrev end_unrecorded : ℕ → LiveWorker → Attempt → Unrecorded
end_unrecorded moment w a = record { moment = moment; published = no_contexts; kept_cut = finish_cut w.release a.context; tables_of = λ spec. [] }

-- ---- the put of the records

cut_kept : (release : Release) (c : Context) → c.has_cut ≡ knows_cut release → CutFits c → c.settings.cut ≡ cut_or c.settings.floor (finish_cut release c)
cut_kept One c has fits = fits has
cut_kept Two c has fits = refl

-- The outputs of a finish have all rows that the attempt's settings make of the job's sources.
rows_at : (who : Caller) (w : LiveWorker) (start now : World) (a : Attempt) (made : List (List (ℕ × List Row))) (job : Job) (specs : ℕ → JobSpec) → Begins who w start a → AreLeft (left_of who start a) a.context.ranges made
    → State who w start a (all_of made) now → AttemptFits who.merge now.store specs job a
    → job_rows who.merge a.context.settings (source_rows now.store.tables job.source_tables) ≡ record { rows = noted_rows now.store.tables (concat (all_outputs a.context.ranges (map ids_of made))); whole = true }
rows_at who w start now a made job specs b e s one =
    let plan = plans_cover one.context.ranges.0 (map (table_rows now.store.tables) job.source_tables) in
    let cut : map (λ (range : Range × List ℕ). range.0) a.context.ranges ≡ ranges_between Unbounded plan.edges = one.context.ranges.1 ∙ plan.are in
    let same = all_to _ (λ id. table_rows now.store.tables id ≡ table_rows start.store.tables id) (attempt_tables a) (λ id there h. h.same) s.old in
    let sources : source_rows now.store.tables job.source_tables ≡ source_rows start.store.tables a.sources =
    ap (source_rows now.store.tables) (sym one.sources) ∙ ap sorted_rows (flat_same (table_rows now.store.tables) (table_rows start.store.tables) a.sources (all_front _ a.sources _ same)) in
    let whole = all_map (λ range. (range_rows who.merge start.store.tables a.context.settings a.sources range).whole ≡ true) (λ (range : Range × List ℕ). range.0) a.context.ranges b.whole in
    let rows = output_rows now.store.tables start.store.tables (range_made who start a) a.context.ranges made
    (all_unflat _ (λ (range : Range × List ℕ). range.1) a.context.ranges (all_back _ a.sources _ same))
    (all_unflat _ (λ (tables : List (ℕ × List Row)). tables) made (all_to _ _ (all_of made) (λ p there h. h.1.same) s.made)) e b.prefix in
    ap (job_rows who.merge a.context.settings) sources
    ∙ ranges_make_all who.merge a.context.settings plan.edges (source_rows start.store.tables a.sources) b.ordered plan.rising
    (subst (AllByRecursion (λ range. (range_rows who.merge start.store.tables a.context.settings a.sources range).whole ≡ true)) cut whole)
    ∙ ap (λ rows. record { rows = rows; whole = true }) (ap (flat_map (range_made who start a)) (sym cut) ∙ sym rows)

-- A live attempt that fits its job may finish it with the tables that it noted and those made of the rows left.
finishes_at : (who : Caller) (w : LiveWorker) (start now : World) (moment : ℕ) (a : Attempt) (made : List (List (ℕ × List Row))) → Begins who w start a → AreLeft (left_of who start a) a.context.ranges made
    → State who w start a (all_of made) now → (stored : Option Job) → runs_attempt w.number a.number stored ≡ true
    → ((specs : ℕ → JobSpec) → Faithful now specs → IfSome stored (λ job. AttemptFits who.merge now.store specs job a)) → IfSome stored (λ job. AllByRecursion (MayUse (Worker w.number) now job) (noted_tables a))
    → OfSome (FinishIsWhole who.merge who.party now (end_unrecorded moment w a) w.number a.number (all_outputs a.context.ranges (map ids_of made))) stored
finishes_at who w start now moment a made b e s None live fits own = absurd (cc live)
finishes_at who w start now moment a made b e s (Some job) live fits own = record {
  live = live;
  fits = λ specs faithful. outputs_fit specs (fits specs faithful);
  held = all_true_from (is_held now.store) _ (outputs_all (λ id. IsTrue (is_held now.store id)) a.context.ranges made
      (all_to _ _ _ (λ id there h. h.held) (all_back _ a.sources _ s.old)) (all_to _ _ (all_of made) (λ p there h. h.1.held) s.made));
  own = outputs_all (MayUse who.party now job) a.context.ranges made (subst (λ party. AllByRecursion (MayUse party now job) (noted_tables a)) (sym b.by) own)
      (all_to _ _ (all_of made) (λ p there h. inr (free_own who.party now job.id p.0 h.0)) s.made);
}
  where
    outputs_fit : (specs : ℕ → JobSpec) → AttemptFits who.merge now.store specs job a
        → OutputsFit who.merge now.store specs (finished_by w.number (end_unrecorded moment w a) (all_outputs a.context.ranges (map ids_of made)) job)
    outputs_fit specs one =
        let low = one.context.settings.cut in
        let high = one.context.settings.floor in
        record {
          settings = a.context.settings;
          claimed = one.context.claimed.settings;
          cut = cut_kept w.release a.context (all_at _ w.attempts a (s.holds.fits s.kept.stored.replay.specs s.kept.faithful).cuts b.there) one.context.cut;
          at_most_floor = omega (arith, low, high);
          fit = inr one.context.settings;
          rows = λ held. rows_at who w start now a made job specs b e s one;
        }

-- A finish's put of the records is lawful, if its attempt was live at the get and all rows left are in tables.
put_fits : (who : Caller) (w : LiveWorker) (start old new : World) (moment : ℕ) (a : Attempt) (made : List (List (ℕ × List Row))) (got : Records) → Begins who w start a
    → AreLeft (left_of who start a) a.context.ranges made → old.store.records ≡ Some got → Later old new → State who w start a (all_of made) new → is_live got.jobs w.number a ≡ true
    → let change = Finish w.number a.job a.number (all_outputs a.context.ranges (map ids_of made)) in
    Lawful who.merge who.party new (PutsRecords got.version change got.epoch (jobs_after (end_unrecorded moment w a) change got.jobs))
put_fits who w start old new moment a made got b e is later s live = (
  unnamed who.party new,
  λ version.
      let outputs = all_outputs a.context.ranges (map ids_of made) in
      let same = got_records old new (Some got) is later version in
      let lives : is_live (stored_jobs new.store) w.number a ≡ true = ap (λ r. is_live (jobs_in r) w.number a) same ∙ live in
      let there = in_filter (is_live (stored_jobs new.store) w.number) w.attempts a b.there lives in
      over_got who.merge who.party new got (Finish w.number a.job a.number outputs) (end_unrecorded moment w a) got.epoch same (λ r there stored. rw stored there) refl
      (record {
        by = b.by;
        finishes = finishes_at who w start new moment a made b e s (job_with a.job (stored_jobs new.store)) lives
            (λ specs faithful. all_at _ (live_attempts (stored_jobs new.store) w) a (s.holds.fits specs faithful).live there) (all_at _ (live_attempts (stored_jobs new.store) w) a s.holds.own there);
      }),
)

-- ---- the end of the job

-- Another try is a lawful course where what was made still stands.
abbrev Tries : Caller → LiveWorker → World → Attempt → List (ℕ × List Row) → (ℕ → Course (StepEnd FinishedJob)) → Type 0
Tries who w start a pairs again = (version : ℕ) (world : World) → State who w start a pairs world → IsLawfulCourse who world (again version)

after : (who : Caller) (w : LiveWorker) (start : World) (a : Attempt) (pairs : List (ℕ × List Row)) (report : FinishedJob) (again : ℕ → Course (StepEnd FinishedJob)) → Tries who w start a pairs again → (world : World) (version : ℕ) (b : Bool)
    → (b ≡ false → State who w start a pairs world) → IsLawfulCourse who world (cond b (Ends (Reports report)) (again version))
after who w start a pairs report again tries world version true s = tt
after who w start a pairs report again tries world version false s = tries version world (s refl)

-- Once a finish has got the records, what comes next is a lawful course, if another try is.
ended : (who : Caller) (w : LiveWorker) (start : World) (moment : ℕ) (a : Attempt) (made : List (List (ℕ × List Row))) (again : ℕ → Course (StepEnd FinishedJob)) → Relies who w → Begins who w start a
    → AreLeft (left_of who start a) a.context.ranges made → Tries who w start a (all_of made) again → (met : World) (got : Records) → State who w start a (all_of made) met → met.store.records ≡ Some got
    → (live : Bool) → is_live got.jobs w.number a ≡ live
    → IsLawfulCourse who (after_call who.line who.party (Plain GetRecords) None met) (ends_job moment w a (all_outputs a.context.ranges (map ids_of made)) got live again)
ended who w start moment a made again r b e tries met got s is false live = tt
ended who w start moment a made again r b e tries met got s is true live = λ put rivals room.
    let outputs = all_outputs a.context.ranges (map ids_of made) in
    let change = Finish w.number a.job a.number outputs in
    let jobs = jobs_after (end_unrecorded moment w a) change got.jobs in
    let there = state_met who w start a (all_of made) (after_call who.line who.party (Plain GetRecords) None met) put r (state_got who w start a (all_of made) met r s) rivals in
    let lawful = put_fits who w start met put moment a made got b e is (later_met who (Plain GetRecords) met met put (later_itself met) rivals) there live in (
      lawful,
      after who w start a (all_of made) (record { outputs = outputs; attempts = without_attempts (a.job ∷ []) w.attempts }) again tries (after_call who.line who.party (PutsRecords got.version change got.epoch jobs) None put)
          (records_version put.store.records) (got.version == records_version put.store.records)
          (λ other. state_refused who w start a (all_of made) put got.version change got.epoch jobs other (keeps_after who (PutsRecords got.version change got.epoch jobs) put r.keep there.kept lawful) there),
    )

ended_by : (who : Caller) (w : LiveWorker) (start : World) (moment : ℕ) (a : Attempt) (made : List (List (ℕ × List Row))) (again : ℕ → Course (StepEnd FinishedJob)) → Relies who w → Begins who w start a
    → AreLeft (left_of who start a) a.context.ranges made → Tries who w start a (all_of made) again → (met : World) (records : Option Records) → State who w start a (all_of made) met → met.store.records ≡ records
    → IsLawfulCourse who (after_call who.line who.party (Plain GetRecords) None met) (ends_job_by moment w a (all_outputs a.context.ranges (map ids_of made)) records again)
ended_by who w start moment a made again r b e tries met None s is = tt
ended_by who w start moment a made again r b e tries met (Some got) s is = ended who w start moment a made again r b e tries met got s is (is_live got.jobs w.number a) refl

ends : (who : Caller) (w : LiveWorker) (start : World) (moment : ℕ) (a : Attempt) (made : List (List (ℕ × List Row))) → Relies who w → Begins who w start a → AreLeft (left_of who start a) a.context.ranges made
    → (left seen : ℕ) (world : World) → State who w start a (all_of made) world → IsLawfulCourse who world (tries (end_try moment w a (all_outputs a.context.ranges (map ids_of made))) left seen)
ends who w start moment a made r b e zero seen world s = tt
ends who w start moment a made r b e (suc left) seen world s = λ met rivals room. (
  tt,
  ended_by who w start moment a made (tries (end_try moment w a (all_outputs a.context.ranges (map ids_of made))) left) r b e (λ version next there. ends who w start moment a made r b e left version next there)
      met met.store.records (state_met who w start a (all_of made) world met r s rivals) refl,
)

pub end_lawful : (who : Caller) (w : LiveWorker) (start : World) (moment : ℕ) (a : Attempt) (made : List (List (ℕ × List Row))) → Relies who w → Begins who w start a → AreLeft (left_of who start a) a.context.ranges made
    → (world : World) → State who w start a (all_of made) world → IsLawfulCourse who world (end_job moment w a (all_outputs a.context.ranges (map ids_of made)))
unfolding end_job
end_lawful who w start moment a made r b e world s = ends who w start moment a made r b e most_refused 0 world s

-- ---- the finish

gets_lawful : {A : Type 0} (who : Caller) (w : LiveWorker) (start : World) (a : Attempt) (next : Course A) (tables : List ℕ) (world : World) → Relies who w → State who w start a [] world
    → ((new : World) → State who w start a [] new → IsLawfulCourse who new next) → IsLawfulCourse who world (calls_each (gets_tables tables) next)
gets_lawful who w start a next [] world r s rest = rest world s
gets_lawful who w start a next (table ∷ tables) world r s rest = λ met rivals room.
    (tt, gets_lawful who w start a next tables (after_call who.line who.party (Plain (GetTable table)) None met) r (state_table who w start a [] table met r (state_met who w start a [] world met r s rivals)) rest)

pub begins : (who : Caller) (w : LiveWorker) (start : World) (a : Attempt) → who.party ≡ Worker w.number → IsIn a w.attempts → Keeps who.merge start → WorkerHolds who.merge start w → WholeUnless who.merge start.store.tables a None → Begins who w start a
begins who w start a by there kept holds whole = record {
  by = by;
  there = there;
  ordered = (all_at (AttemptHeld start w.number) w.attempts a holds.each there).ordered;
  prefix = (all_at _ w.attempts a (holds.fits kept.stored.replay.specs kept.faithful).each there).tables;
  whole = whole;
}

-- If merged bytes are few, a finish is a lawful course once it has got its sources, whether a fold was refused or not.
made_lawful : (who : Caller) (start new : World) (ask : FinishAsk) (refusal : Option (List ℕ)) → Relies who ask.worker → IsShort who.merge → who.party ≡ Worker ask.worker.number → IsIn ask.attempt ask.worker.attempts
    → Keeps who.merge start → WorkerHolds who.merge start ask.worker → WholeUnless who.merge start.store.tables ask.attempt refusal → State who ask.worker start ask.attempt [] new
    → IsLawfulCourse who new (unless_refused ask.worker ask.attempt refusal (puts_and_ends ask (tables_left who.merge start.store.tables ask)))
made_lawful who start new ask (Some message) r short by there kept holds whole s = back_lawful FinishedJob who ask.worker ask.attempt message new by
made_lawful who start new ask None r short by there kept holds whole s =
    let w = ask.worker in
    let a = ask.attempt in
    let size = ask.table_size in
    let b = begins who w start a by there kept holds whole in
    ranges_made {A = StepEnd FinishedJob} who w start a ask.moment (tables_left who.merge start.store.tables ask) [] (λ new. end_job ask.moment w a (all_outputs a.context.ranges new)) new r
    (all_map (AllByRecursion IsTable) (λ range. cut_tables size (rows_left who.merge start.store.tables a.context.settings a.sources range).rows) a.context.ranges
    (all_from _ a.context.ranges (λ range one. cut_sound size (rows_left who.merge start.store.tables a.context.settings a.sources range).rows
    (left_good who.merge start.store.tables a.context.settings a.sources range short kept.stored.sound.tables b.ordered)))) s
    (λ later made e all. end_lawful who w start ask.moment a made r b (cut_left size (left_of who start a) a.context.ranges made e) later all)

-- A finish of a worker that fits is a lawful course under a lawful operator, if every lawful call keeps the invariant.
pub finishes_are_lawful : FinishesAreLawful
unfolding finish
finishes_are_lawful who world ask keep operator by kept holds runs whole =
    let w = ask.worker in
    let a = ask.attempt in
    let there = found_in w.attempts a.job a runs in
    let relies : Relies who w = record { keep = keep; own = by } in
    let held = (all_at _ w.attempts a (holds.fits kept.stored.replay.specs kept.faithful).each there).held in
    gets_lawful who w world a (unless_refused w a ask.refusal (puts_and_ends ask (tables_left who.merge world.store.tables ask))) a.sources world relies
    (record { kept = kept; holds = holds; old = all_to _ _ (attempt_tables a) (λ id one is. record { held = is; same = refl }) (all_true_front (is_held world.store) (attempt_tables a) held); made = tt })
    (λ new s. made_lawful who world new ask ask.refusal relies operator.short by there kept holds whole s)
