-- A worker fits after its output: the table that it put is noted for the range whose next rows it
-- holds.
use Rattle.std.proofs.Common.{◌≡◌, refl, sym, ◌∙◌, ap, subst, ℕ, zero, suc, ◌-◌, ◌<◌, List, [], ◌∷◌, ◌++◌, cond, Bool, true, false, inl, inr, Option, Some, None, take, drop, length, arith}
use Rattle.std.specs.Prelude.{IsTrue, ◌==◌, not, map, filter, flat_map, slice_get, ⊤}
use Rattle.std.specs.List.{AllByRecursion}
use Rattle.std.proofs.lemmas.Bool.Decides.{Decides-eqb}
use Rattle.std.proofs.lemmas.List.{append_assoc}
use Rattle.row_model.specs.Lists.{IsPrefixOf}
use Rattle.row_model.specs.Rows.{Row, sorted_rows}
use Rattle.row_model.specs.Ranges.{Range, rows_in}
use Rattle.row_model.specs.JobRows.{job_rows}
use Rattle.fleet_model.specs.Nodes.{table_rows}
use Rattle.fleet_model.specs.Jobs.{JobSpec, Job, contains, job_with}
use Rattle.fleet_model.specs.History.{Worker}
use Rattle.fleet_model.specs.Store.{stored_jobs, is_held, AreHeld}
use Rattle.fleet_model.specs.Handles.{context_tables}
use Rattle.fleet_model.specs.Work.Attempts.{source_rows, range_rows, rows_left, noted_rows}
use Rattle.fleet_model.specs.Work.Parties.{Attempt, LiveWorker, is_live, live_attempts, without_attempts}
use Rattle.fleet_model.specs.Sweeps.{attempt_tables}
use Rattle.fleet_model.specs.Past.Claimed.{IsClaimed}
use Rattle.fleet_model.specs.Invariants.AttemptsFit.{Extends, AttemptFits, TablesFit}
use Rattle.step_model.specs.Past.{World}
use Rattle.step_model.specs.LawfulTables.{MayUse}
use Rattle.step_model.specs.Kept.TablesKept.{AreApart}
use Rattle.step_model.specs.Fits.{WorkerHolds, noted_tables}
use Rattle.step_model.specs.Steps.OutputSteps.{OutputAsk, Written, meets, gives_back, unless_refused, noted_at, noting, with_noted, rows_written, writes, output}
use Rattle.step_model.specs.Kept.Keeps.{Keeps}
use Rattle.step_model.specs.Courses.Course.{Ends}
use Rattle.step_model.specs.Courses.CourseRuns.{End, Runs, IsLawfulCourse}
use Rattle.step_model.specs.Courses.StepEnds.{StepEnd, Reports, GivesUp, OperatorRefuses, most_refused}
use Rattle.step_model.specs.Rivals.{Caller}
use Rattle.step_laws.proofs.Elements.{IsIn, all_at, all_from, all_to, all_append, all_front, all_back, all_unflat, all_true_front, all_true_from, flat_push}
use Rattle.step_laws.proofs.Deletions.{in_filter}
use Rattle.step_laws.proofs.MuteBodies.{if_some_to}
use Rattle.step_laws.proofs.OwnTables.{apart_from, apart_at}
use Rattle.rival_laws.specs.Free.{IsFree}
use Rattle.rival_laws.proofs.FreeTables.{free_own, refused}
use Rattle.rival_laws.proofs.WorkerFollows.{from_filter}
use Rattle.course_laws.proofs.Beats.{Fit}
use Rattle.course_laws.proofs.Outputs.{found_in, outputs_are_lawful}
use Rattle.course_laws.proofs.Made.{Relies, State}
use Rattle.course_laws.proofs.Finishes.{flat_same, drop_front}
use Rattle.worker_laws.specs.After.{FitsAfterwards}
use Rattle.worker_laws.specs.Outputs.{IsRangeAt, OutputsKeepFit}
use Rattle.worker_laws.proofs.Runs.{Left, stopped, reported, left_stopped, left_ended}
use Rattle.worker_laws.proofs.Tables.{Stops, IsUnnoted, gets, puts_one}
use Rattle.worker_laws.proofs.Releases.{released}
use Rattle.worker_laws.proofs.Attempts.{Added, holds_fewer, holds_added, apart_two, left_other}

-- ---- the ranges with one more table

-- What all ranges have, all have with one more table noted, if the range of that table has it too.
noted_all : (R : Range × List ℕ → Type 0) (place table : ℕ) (ranges : List (Range × List ℕ)) (range : Range × List ℕ) → 0 < place → slice_get ranges (place - 1) ≡ Some range → R (range.0, range.1 ++ table ∷ []) → AllByRecursion R ranges
    → AllByRecursion R (noted_at place table ranges)
noted_all R place table [] range low at more all = tt
noted_all R place table (r ∷ ranges) range low at more all = by (place == 1) refl (λ up there. noted_all R (place - 1) table ranges range up there more all.1)
  where
    same : Some r ≡ Some range → range ≡ r
    same e = cc e

    by : (b : Bool) → (place == 1) ≡ b → (0 < place - 1 → slice_get ranges (place - 1 - 1) ≡ Some range → AllByRecursion R (noted_at (place - 1) table ranges))
        → AllByRecursion R (cond b ((r.0, r.1 ++ table ∷ []) ∷ ranges) (r ∷ noted_at (place - 1) table ranges))
    by true e rest =
        let first : place - 1 ≡ 0 = ap (λ n. n - 1) ((Decides-eqb place 1).0 e) in
        (subst (λ (x : Range × List ℕ). R (x.0, x.1 ++ table ∷ [])) (same (subst (λ n. slice_get (r ∷ ranges) n ≡ Some range) first at)) more, all.1)
    by false e rest =
        let later : place - 1 ≡ suc (place - 1 - 1) = next (λ one. refused (place == 1) e ((Decides-eqb place 1).1 one)) in
        (all.0, rest (omega (arith, later)) (subst (λ n. slice_get (r ∷ ranges) n ≡ Some range) later at))
      where
        next : (place ≡ 1 → ⊥) → place - 1 ≡ suc (place - 1 - 1)
        next other = above (place - 1) refl
          where
            above : (n : ℕ) → place - 1 ≡ n → place - 1 ≡ suc (place - 1 - 1)
            above zero f = absurd (other (omega (arith, low, f)))
            above (suc n) f = omega (arith, f)

noted_ranges : (place table : ℕ) (ranges : List (Range × List ℕ)) → map (λ range. range.0) (noted_at place table ranges) ≡ map (λ range. range.0) ranges
noted_ranges place table [] = refl
noted_ranges place table (r ∷ ranges) = by (place == 1) (noted_ranges (place - 1) table ranges)
  where
    by : (b : Bool) → map (λ range. range.0) (noted_at (place - 1) table ranges) ≡ map (λ range. range.0) ranges
        → map (λ (range : Range × List ℕ). range.0) (cond b ((r.0, r.1 ++ table ∷ []) ∷ ranges) (r ∷ noted_at (place - 1) table ranges)) ≡ r.0 ∷ map (λ range. range.0) ranges
    by true rest = refl
    by false rest = ap (λ rs. r.0 ∷ rs) rest

-- The tables that are noted now.
noted_tables_all : (P : ℕ → Type 0) (place table : ℕ) (ranges : List (Range × List ℕ)) → P table → AllByRecursion P (flat_map (λ (range : Range × List ℕ). range.1) ranges) → AllByRecursion P (flat_map (λ (range : Range × List ℕ). range.1) (noted_at place table ranges))
noted_tables_all P place table [] new all = tt
noted_tables_all P place table (r ∷ ranges) new all = by (place == 1) (noted_tables_all P (place - 1) table ranges new (all_back P r.1 _ all))
  where
    by : (b : Bool) → AllByRecursion P (flat_map (λ (range : Range × List ℕ). range.1) (noted_at (place - 1) table ranges))
        → AllByRecursion P (flat_map (λ (range : Range × List ℕ). range.1) (cond b ((r.0, r.1 ++ table ∷ []) ∷ ranges) (r ∷ noted_at (place - 1) table ranges)))
    by true rest = all_append P (r.1 ++ table ∷ []) _ (all_append P r.1 (table ∷ []) (all_front P r.1 _ all) (new, tt)) (all_back P r.1 _ all)
    by false rest = all_append P r.1 _ (all_front P r.1 _ all) rest

noted_extends : (place table : ℕ) (old ranges : List (Range × List ℕ)) → Extends old ranges → Extends old (noted_at place table ranges)
noted_extends place table [] [] h = tt
noted_extends place table [] (r ∷ ranges) h = absurd h
noted_extends place table (q ∷ old) [] h = absurd h
noted_extends place table (q ∷ old) (r ∷ ranges) h = by (place == 1) (noted_extends (place - 1) table old ranges h.2)
  where
    by : (b : Bool) → Extends old (noted_at (place - 1) table ranges) → Extends (q ∷ old) (cond b ((r.0, r.1 ++ table ∷ []) ∷ ranges) (r ∷ noted_at (place - 1) table ranges))
    by true rest = (h.0, (h.1.0 ++ table ∷ [], sym (append_assoc q.1 h.1.0 (table ∷ [])) ∙ ap (λ xs. xs ++ table ∷ []) h.1.1), h.2)
    by false rest = (h.0, h.1, rest)

-- ---- the rows of the new table

-- The first rows that are left follow the noted ones.
take_prefix : (n : ℕ) (noted all : List Row) → IsPrefixOf noted all → IsPrefixOf (noted ++ take n (drop (length noted) all)) all
take_prefix n noted all prefix =
    let left : drop (length noted) all ≡ prefix.0 = ap (drop (length noted)) (sym prefix.1) ∙ drop_front noted prefix.0 in
    (drop n prefix.0, append_assoc noted (take n (drop (length noted) all)) (drop n prefix.0) ∙ ap (λ xs. noted ++ (take n xs ++ drop n prefix.0)) left ∙ ap (λ xs. noted ++ xs) (split n prefix.0) ∙ prefix.1)
  where
    split : (n : ℕ) (xs : List Row) → take n xs ++ drop n xs ≡ xs
    split zero xs = refl
    split (suc n) [] = refl
    split (suc n) (x ∷ xs) = ap (λ ys. x ∷ ys) (split n xs)

slice_in : {A : Type 0} (xs : List A) (n : ℕ) (x : A) → slice_get xs n ≡ Some x → IsIn x xs
slice_in [] n x e = absurd (cc e)
slice_in (y ∷ xs) zero x e = inl (cc e)
slice_in (y ∷ xs) (suc n) x e = inr (slice_in xs n x e)

-- ---- the attempt with the table noted

-- The rows that an output puts.
abbrev next_rows : Caller → World → Attempt → Range × List ℕ → ℕ → List Row
next_rows who start a range n = take n (rows_left who.merge start.store.tables a.context.settings a.sources range).rows

-- What an output has as its table was put.
pub record IsPut (who : Caller) (w : LiveWorker) (start now : World) (a : Attempt) (place : ℕ) (range : Range × List ℕ) (n table : ℕ) : Type 0 where
  pub own : who.party ≡ Worker w.number
  pub runs : IsIn a w.attempts
  pub at : IsRangeAt a place range
  pub state : State who w start a ((table, next_rows who start a range n) ∷ []) now
  pub unnoted : (b : Attempt) → IsIn b w.attempts → IsIn table (noted_tables b) → ⊥

-- The tables of the attempt fit still.
fits_still : (who : Caller) (w : LiveWorker) (start now : World) (a : Attempt) (place : ℕ) (range : Range × List ℕ) (n table : ℕ) → IsPut who w start now a place range n table → TablesFit who.merge now.store.tables a.sources a.context
    → TablesFit who.merge now.store.tables a.sources (noting place table a).context
fits_still who w start now a place range n table p fits =
    noted_all (λ r. IsPrefixOf (noted_rows now.store.tables r.1) (range_rows who.merge now.store.tables a.context.settings a.sources r.0).rows) place table a.context.ranges range p.at.counted p.at.there
    (subst (λ xs. IsPrefixOf xs all) (sym rows) (take_prefix n noted all (all_at _ a.context.ranges range fits there))) fits
  where
    noted : List Row
    noted = noted_rows now.store.tables range.1

    all : List Row
    all = (range_rows who.merge now.store.tables a.context.settings a.sources range.0).rows

    there : IsIn range a.context.ranges
    there = slice_in a.context.ranges (place - 1) range p.at.there

    same : AllByRecursion (λ id. table_rows start.store.tables id ≡ table_rows now.store.tables id) (attempt_tables a)
    same = all_to _ _ (attempt_tables a) (λ id one h. sym h.same) p.state.old

    noted_same : noted_rows start.store.tables range.1 ≡ noted
    noted_same = flat_same (table_rows start.store.tables) (table_rows now.store.tables) range.1
        (all_at _ a.context.ranges range (all_unflat _ (λ (r : Range × List ℕ). r.1) a.context.ranges (all_back _ a.sources (context_tables (Some a.context)) same)) there)

    sources_same : source_rows start.store.tables a.sources ≡ source_rows now.store.tables a.sources
    sources_same = ap sorted_rows (flat_same (table_rows start.store.tables) (table_rows now.store.tables) a.sources (all_front _ a.sources (context_tables (Some a.context)) same))

    rows : noted_rows now.store.tables (range.1 ++ table ∷ []) ≡ noted ++ take n (drop (length noted) all)
    rows = flat_push (table_rows now.store.tables) range.1 table
        ∙ ap (λ xs. noted ++ xs) (p.state.made.0.1.same ∙ (λ i. take n (drop (length (noted_same i)) (job_rows who.merge a.context.settings (rows_in range.0 (sources_same i))).rows)))

claimed_still : (now : World) (specs : ℕ → JobSpec) (job number place table : ℕ) (a : Attempt) → IsClaimed now.store specs job number a.context → IsClaimed now.store specs job number (noting place table a).context
claimed_still now specs job number place table a c = record { settings = c.settings; ranges = c.ranges ∙ ap Some (sym (noted_ranges place table a.context.ranges)) }

-- With the table of an output noted, the worker may run the attempt beside its attempts at other jobs.
pub added : (who : Caller) (w : LiveWorker) (start now : World) (a : Attempt) (place : ℕ) (range : Range × List ℕ) (n table : ℕ) → IsPut who w start now a place range n table
    → Added who.merge now (record w { attempts = without_attempts (a.job ∷ []) w.attempts }) (noting place table a)
added who w start now a place range n table p = record {
  cut = all_at _ w.attempts a (h.fits p.state.kept.stored.replay.specs p.state.kept.faithful).cuts p.runs;
  stands = λ specs faithful.
      let one = all_at _ w.attempts a (h.fits specs faithful).each p.runs in
      record {
        claimed = claimed_still now specs a.job a.number place table a one.claimed;
        held = all_true_from (is_held now.store) (attempt_tables (noting place table a)) (all_append _ a.sources _ (all_front _ a.sources _ (held one.held)) (noted_tables_all _ place table a.context.ranges p.state.made.0.1.held (all_back _ a.sources _ (held one.held))));
        tables = fits_still who w start now a place range n table p one.tables;
      };
  live = λ specs faithful lives. if_some_to _ _ (job_with a.job (stored_jobs now.store)) (λ job one. live specs job one)
      (all_at _ (live_attempts (stored_jobs now.store) w) a (h.fits specs faithful).live (in_filter (is_live (stored_jobs now.store) w.number) w.attempts a p.runs lives));
  held = let one = all_at _ w.attempts a h.each p.runs in record { counted = one.counted; claimed = one.claimed; ordered = one.ordered; sources = one.sources };
  new = all_from _ (without_attempts (a.job ∷ []) w.attempts) (λ b there. (left_other a.job w.attempts b there).1);
  own = λ lives. if_some_to _ _ (job_with a.job (stored_jobs now.store)) (λ job all. noted_tables_all (MayUse (Worker w.number) now job) place table a.context.ranges (inr (free_own (Worker w.number) now job.id table free)) all)
      (all_at _ (live_attempts (stored_jobs now.store) w) a h.own (in_filter (is_live (stored_jobs now.store) w.number) w.attempts a p.runs lives));
  apart = λ lives b there. apart lives b (from_filter (is_live (stored_jobs now.store) w.number) (without_attempts (a.job ∷ []) w.attempts) b there);
}
  where
    h : WorkerHolds who.merge now w
    h = p.state.holds

    held : AreHeld now.store (attempt_tables a) → AllByRecursion (λ id. IsTrue (is_held now.store id)) (attempt_tables a)
    held all = all_true_front (is_held now.store) (attempt_tables a) all

    free : IsFree (Worker w.number) now table
    free = subst (λ party. IsFree party now table) p.own p.state.made.0.0

    live : (specs : ℕ → JobSpec) (job : Job) → AttemptFits who.merge now.store specs job a → AttemptFits who.merge now.store specs job (noting place table a)
    live specs job one = record {
      sources = one.sources;
      context = record {
        claimed = claimed_still now specs job.id job.attempt place table a one.context.claimed;
        settings = one.context.settings;
        cut = one.context.cut;
        ranges = (one.context.ranges.0, noted_ranges place table a.context.ranges ∙ one.context.ranges.1);
        tables = subst (λ ids. TablesFit who.merge now.store.tables ids (noting place table a).context) one.sources
            (fits_still who w start now a place range n table p (subst (λ ids. TablesFit who.merge now.store.tables ids a.context) (sym one.sources) one.context.tables));
      };
      published = if_some_to _ _ job.context (λ c ext. record { settings = ext.settings; ranges = noted_extends place table c.ranges a.context.ranges ext.ranges }) one.published;
    }

    apart : is_live (stored_jobs now.store) w.number a ≡ true → (b : Attempt) → IsIn b (without_attempts (a.job ∷ []) w.attempts) × (is_live (stored_jobs now.store) w.number b ≡ true) → AreApart (noted_tables (noting place table a)) (noted_tables b)
    apart lives b found =
        let other = left_other a.job w.attempts b found.0 in
        let two = apart_two (live_attempts (stored_jobs now.store) w) a b h.apart (in_filter (is_live (stored_jobs now.store) w.number) w.attempts a p.runs lives)
        (in_filter (is_live (stored_jobs now.store) w.number) w.attempts b other.0 found.1) (λ same. other.1 (ap (λ (x : Attempt). x.job) (sym same))) in
        apart_from (noted_tables (noting place table a)) (noted_tables b) (λ t one. all_at (λ t. IsIn t (noted_tables b) → ⊥) (noted_tables (noting place table a)) t
        (noted_tables_all (λ t. IsIn t (noted_tables b) → ⊥) place table a.context.ranges (p.unnoted b other.0) (all_from _ (noted_tables a) (λ t there more. apart_at (noted_tables a) (noted_tables b) t two there more))) one)

-- ---- the step

-- Where a run stops, the worker fits with the attempts that it ran before.
stops : (who : Caller) (w : LiveWorker) (new : World) (end : End (StepEnd Written)) → Stops (FitsAfterwards who.merge w (λ report. report.attempts) new end) who w new end
stops who w new end x met fit stop = stopped who w (λ (report : Written). report.attempts) x met new end fit.holds stop

-- An output that writes the next rows of a range, or has none to write, leaves a worker that fits.
written : (who : Caller) (start : World) (ask : OutputAsk) (rows : List Row) (new : World) (end : End (StepEnd Written)) → Relies who ask.worker → IsIn ask.attempt ask.worker.attempts → IsRangeAt ask.attempt ask.place ask.range
    → rows ≡ rows_written who.merge start.store.tables ask → (world : World) → State who ask.worker start ask.attempt [] world → IsLawfulCourse who world (writes ask rows) → Runs who (writes ask rows) world new end
    → FitsAfterwards who.merge ask.worker (λ report. report.attempts) new end
written who start ask [] new end r runs at is world s lawful run = reported who ask.worker (λ (report : Written). report.attempts) (record { table = None; attempts = ask.worker.attempts }) world new end s.holds s.holds run
written who start ask (row ∷ rows) new end r runs at is world s lawful run =
    puts_one (FitsAfterwards who.merge w (λ (report : Written). report.attempts) new end) who w start a ask.moment (row ∷ rows) [] (λ table. Ends (Reports (report table))) new end r (stops who w new end) noted world s lawful run
  where
    w : LiveWorker
    w = ask.worker

    a : Attempt
    a = ask.attempt

    report : ℕ → Written
    report table = record { table = Some (table, row ∷ rows); attempts = with_noted ask.place table a w.attempts }

    noted : (after : World) (table : ℕ) → State who w start a ((table, row ∷ rows) ∷ []) after → IsUnnoted w table → IsLawfulCourse who after (Ends (Reports (report table))) → Runs who (Ends (Reports (report table))) after new end
        → FitsAfterwards who.merge w (λ report. report.attempts) new end
    noted after table made unnoted lawful run =
        let fewer = holds_fewer who.merge after w (λ (b : Attempt). not (contains (a.job ∷ []) b.job)) made.holds in
        let more = added who w start after a ask.place ask.range ask.rows table (record { own = r.own; runs = runs; at = at; state = subst (λ xs. State who w start a ((table, xs) ∷ []) after) is made; unnoted = unnoted }) in
        reported who w (λ (report : Written). report.attempts) (report table) after new end made.holds
        (holds_added who.merge after (record w { attempts = without_attempts (a.job ∷ []) w.attempts }) (noting ask.place table a) more fewer) run

pub gives_back_left : {A : Type 0} (who : Caller) (w : LiveWorker) (attempts : A → List Attempt) (P : World → A → Type 0) (a : Attempt) (message : List ℕ) (old new : World) (end : End (StepEnd A)) → Relies who w → Fit who w old
    → IsLawfulCourse who old (gives_back {A = A} w a message) → Runs who (gives_back {A = A} w a message) old new end → Left who w attempts P new end
gives_back_left {A} who w attempts P a message old new end r fit lawful run =
    released {A = A} (Left who w attempts P new end) who w (a ∷ []) (λ released. Ends (OperatorRefuses message)) new end r (record {
      stops = λ x met fit stop. left_stopped who w attempts P x met new end fit.holds stop;
      gives_up = λ seen world fit run. left_ended who w attempts P (GivesUp seen) world new end (λ report e. absurd (cc e)) fit.holds run;
      goes = λ world jobs fit over lawful run. left_ended who w attempts P (OperatorRefuses message) world new end (λ report e. absurd (cc e)) fit.holds run;
    }) most_refused 0 old fit lawful run

made : (who : Caller) (start : World) (ask : OutputAsk) (refusal : Option (List ℕ)) (new : World) (end : End (StepEnd Written)) → Relies who ask.worker → IsIn ask.attempt ask.worker.attempts → IsRangeAt ask.attempt ask.place ask.range
    → (world : World) → State who ask.worker start ask.attempt [] world → let course = unless_refused ask.worker ask.attempt refusal (writes ask (rows_written who.merge start.store.tables ask)) in
    IsLawfulCourse who world course → Runs who course world new end → FitsAfterwards who.merge ask.worker (λ report. report.attempts) new end
made who start ask None new end r runs at world s lawful run = written who start ask (rows_written who.merge start.store.tables ask) new end r runs at refl world s lawful run
made who start ask (Some message) new end r runs at world s lawful run =
    (gives_back_left who ask.worker (λ (report : Written). report.attempts) (λ later report. ⊤) ask.attempt message world new end r (record { kept = s.kept; holds = s.holds }) lawful run).0

-- What is so as a step at an attempt begins.
pub begins : (who : Caller) (w : LiveWorker) (old : World) (a : Attempt) → Keeps who.merge old → WorkerHolds who.merge old w → IsIn a w.attempts → State who w old a [] old
begins who w old a kept holds there = record {
  kept = kept;
  holds = holds;
  old = all_to _ _ (attempt_tables a) (λ id one is. record { held = is; same = refl }) (all_true_front (is_held old.store) (attempt_tables a) (all_at _ w.attempts a (holds.fits kept.stored.replay.specs kept.faithful).each there).held);
  made = tt;
}

output_fits : (who : Caller) (start : World) (ask : OutputAsk) (new : World) (end : End (StepEnd Written)) → Relies who ask.worker → IsIn ask.attempt ask.worker.attempts → IsRangeAt ask.attempt ask.place ask.range
    → State who ask.worker start ask.attempt [] start → IsLawfulCourse who start (output who.merge start.store.tables ask)
    → Runs who (output who.merge start.store.tables ask) start new end → FitsAfterwards who.merge ask.worker (λ report. report.attempts) new end
unfolding output
output_fits who start ask new end r runs at s lawful run =
    let w = ask.worker in
    let a = ask.attempt in
    gets (FitsAfterwards who.merge w (λ (report : Written). report.attempts) new end) who w start a (unless_refused w a ask.refusal (writes ask (rows_written who.merge start.store.tables ask))) new end r (stops who w new end)
    (λ world state further on. made who start ask ask.refusal new end r runs at world state further on) (filter (meets start.store.tables ask.range.0) a.sources) start s lawful run

pub outputs_keep_fit : OutputsKeepFit
outputs_keep_fit who old ask keep operator own kept holds runs at new end run =
    let there = found_in ask.worker.attempts ask.attempt.job ask.attempt runs in
    output_fits who old ask new end (record { keep = keep; own = own }) there at (begins who ask.worker old ask.attempt kept holds there)
    (outputs_are_lawful who old ask keep operator own kept holds runs) run
