-- What is written of all that is left, as turns of a finish.
use Rattle.std.proofs.Common.{◌≡◌, ◌≢◌, refl, sym, ◌∙◌, ap, subst, ℕ, inl, inr, true, List, [], ◌∷◌, ◌++◌, map, None, Err}
use Rattle.std.specs.Prelude.{◌⊎◌, flat_map}
use Rattle.std.specs.List.{AllByRecursion}
use Rattle.std.specs.List.Sorted.{IsStrictlySortedBy}
use Rattle.std.specs.declared.cmp.Ordering.TheVariants.{Less}
use Rattle.std.proofs.lemmas.List.{map-append}
use Rattle.row_model.specs.Bounds.{IsInBounds}
use Rattle.row_model.specs.Fold.{Operator}
use Rattle.row_model.specs.JobRows.{JobRows}
use Rattle.row_model.specs.Rows.{IsStrictlyOrdered, Row, row_cmp}
use Rattle.row_model.specs.Written.Tables.{cut_tables}
use Rattle.row_laws.proofs.Tables.{tables_have_all}
use Rattle.fleet_model.specs.Invariants.TreesFit.{IsTable}
use Rattle.fleet_model.specs.Nodes.{Tables}
use Rattle.fleet_model.specs.Work.Attempts.{rows_left, source_rows}
use Rattle.step_model.specs.Courses.Course.{Course, calls_each, puts_ranges}
use Rattle.step_model.specs.Courses.CourseRuns.{IsLawfulCourse}
use Rattle.step_model.specs.Courses.StepEnds.{StepEnd}
use Rattle.step_model.specs.Steps.FinishSteps.{FinishAsk, FinishedJob, all_outputs, end_job, finish, puts_and_ends}
use Rattle.step_model.specs.Steps.FinishSteps as model
use Rattle.step_model.specs.Steps.OutputSteps.{gets_tables, unless_refused, unwritten}
use Rattle.step_model.specs.Views.{StoreView}
use Rattle.step_laws.proofs.Elements.{all_back, all_front}
use Rattle.course_laws.specs.Finishes.{WholeUnless}
use Rattle.course_laws.proofs.JobBounds.{AreGood, IsShort, left_good}
use Rattle.fleet_rows.specs.Settings.{settings_of}
use Rattle.fleet_rows.specs.declared.errors.MergeOperatorError.TheVariants.{Callback}
use Rattle.fleet_rows.specs.declared.errors.SlateDBError.{SlateDBError}
use Rattle.fleet_rows.specs.declared.errors.SlateDBError.TheVariants.{Memory, MergeOperator}
use Rattle.fleet_rows.specs.declared.settings.Settings.{Settings}
use Rattle.fleet_tree.specs.declared.handle.SsTableHandle.{SsTableHandle}
use Rattle.fleet_plan.specs.Parts.{Part}
use Rattle.fleet_jobs.specs.Contexts.{noted_range, table_ids}
use Rattle.fleet_step.specs.Steps.{Leads, TryRan}
use Rattle.fleet_step.proofs.Steps.{then_leads, then_tried, tried, wants}
use Rattle.fleet_output.specs.Finishes.{MayWriteLeft, NoneRefuses, WroteLeft, WroteUntil, noted_and, tables_left}
use Rattle.fleet_output.specs.Gets.{GotEach}
use Rattle.fleet_output.specs.Left.{AreWhole, CanFinish, ReadsLeft, RefusesLeft, tables_for}
use Rattle.fleet_output.specs.Next.{left_for}
use Rattle.fleet_output.proofs.Failures.{memory_or}
use Rattle.fleet_output.proofs.GotTables.{got_leads, gets_fail}
use Rattle.fleet_output.proofs.PutsInOrder.{lawful_on, may_put_ranges, ranges_fail, ranges_lead}

-- ---- what is left makes tables

ordered_front : (xs ys : List Row) → IsStrictlyOrdered (xs ++ ys) → IsStrictlyOrdered xs
unfolding IsStrictlySortedBy
ordered_front [] ys h = tt
ordered_front (x ∷ xs) ys h = (all_front (λ q. row_cmp x q ≡ Less) xs ys h.0, ordered_front xs ys h.1)

ordered_back : (xs ys : List Row) → IsStrictlyOrdered (xs ++ ys) → IsStrictlyOrdered ys
unfolding IsStrictlySortedBy
ordered_back [] ys h = h
ordered_back (x ∷ xs) ys h = ordered_back xs ys h.1

-- Rows that are in order and in bounds make tables, if each table has some of them.
all_tables : (tables : List (List Row)) → AllByRecursion (λ table. table ≢ []) tables → AreGood (flat_map (λ table. table) tables) → AllByRecursion IsTable tables
all_tables [] some good = tt
all_tables (table ∷ tables) some good =
    let others = flat_map (λ (table : List Row). table) tables in (
      record { some = some.0; ordered = ordered_front table others good.ordered; bounds = all_front IsInBounds table others good.bounds },
      all_tables tables some.1 (record { ordered = ordered_back table others good.ordered; bounds = all_back IsInBounds table others good.bounds }),
    )

cut_makes : (size : ℕ) (rows : List Row) → AreGood rows → AllByRecursion IsTable (cut_tables size rows)
cut_makes size rows good =
    let cut = tables_have_all size rows in
    all_tables (cut_tables size rows) cut.filled (subst AreGood (sym cut.all) good)

-- What is left of each range makes tables, if merged bytes are few.
pub left_makes : (merge : Operator) (stored : Tables) (settings : Settings) (tables : List SsTableHandle) (size : ℕ) (parts : List Part) → IsShort merge → AllByRecursion (λ table. IsTable table.1) stored
    → IsStrictlyOrdered (source_rows stored (table_ids tables)) → AllByRecursion (AllByRecursion IsTable) (tables_for merge stored settings tables size parts)
left_makes merge stored settings tables size [] short sound ordered = tt
left_makes merge stored settings tables size (part ∷ parts) short sound ordered = (
  cut_makes size (left_for merge stored settings tables part).rows (left_good merge stored (settings_of settings) (table_ids tables) (noted_range part) short sound ordered),
  left_makes merge stored settings tables size parts short sound ordered,
)

-- ---- the tables of each range

-- The ids of the tables of each range are those of the model.
pub outputs_same : (parts : List Part) (new : List (List SsTableHandle)) → map table_ids (noted_and parts new) ≡ all_outputs (map noted_range parts) (map table_ids new)
outputs_same [] new = refl
outputs_same (part ∷ parts) [] = ap (λ rest. table_ids part.output_ssts ∷ rest) (outputs_same parts [])
outputs_same (part ∷ parts) (tables ∷ new) =
    let first = map-append (λ (table : SsTableHandle). table.id) part.output_ssts tables in
    let rest = outputs_same parts new in
    λ i. first i ∷ rest i

-- ---- refusals

-- All source tables were got, and the operator refused a fold of what is left with this message.
pub record WasRefused (merge : Operator) (settings : Settings) (tables : List SsTableHandle) (parts : List Part) (old new : StoreView) (e : SlateDBError) : Type 0 where
  pub got : GotEach (table_ids tables) old new
  pub message : List ℕ
  pub is : e ≡ MergeOperator (Callback message)
  pub refused : RefusesLeft merge old.world.store.tables settings tables parts e

-- ---- the course

-- A finish is asked for these ranges.
pub record IsAsked (settings : Settings) (tables : List SsTableHandle) (parts : List Part) (size moment : ℕ) (ask : FinishAsk) : Type 0 where
  pub when : ask.moment ≡ moment
  pub cut_at : ask.table_size ≡ size
  pub sources : ask.attempt.sources ≡ table_ids tables
  pub under : ask.attempt.context.settings ≡ settings_of settings
  pub ranges : ask.attempt.context.ranges ≡ map noted_range parts

module _ (merge : Operator) (settings : Settings) (tables : List SsTableHandle) (parts : List Part) (size moment : ℕ) (ask : FinishAsk) (asked : IsAsked settings tables parts size moment ask) (old : StoreView) where
  abbrev stored : Tables
  stored = old.world.store.tables

  abbrev course : Course (StepEnd FinishedJob)
  course = finish merge stored ask

  abbrev rest : Course (StepEnd FinishedJob)
  rest = unless_refused ask.worker ask.attempt ask.refusal (puts_and_ends ask (model.tables_left merge stored ask))

  -- What is left of a range is what the attempt has not yet written.
  left_same : (part : Part) → unwritten merge stored ask.attempt (noted_range part) ≡ left_for merge stored settings tables part
  left_same part =
      let under = asked.under in
      let sources = asked.sources in
      λ i. rows_left merge stored (under i) (sources i) (noted_range part)

  tables_same_from : (parts : List Part) → map (λ range. cut_tables ask.table_size (unwritten merge stored ask.attempt range).rows) (map noted_range parts) ≡ tables_for merge stored settings tables size parts
  tables_same_from [] = refl
  tables_same_from (part ∷ parts) =
      let first = left_same part in
      let cut_at = asked.cut_at in
      let later = tables_same_from parts in
      λ i. cut_tables (cut_at i) (first i).rows ∷ later i

  -- The tables that a finish puts are those of what is left.
  tables_same : model.tables_left merge stored ask ≡ tables_left merge settings tables parts size moment old
  tables_same = ap (map (λ range. cut_tables ask.table_size (unwritten merge stored ask.attempt range).rows)) asked.ranges ∙ tables_same_from parts

  whole_from : (parts : List Part) → AreWhole merge stored settings tables parts → AllByRecursion (λ range. (unwritten merge stored ask.attempt range).whole ≡ true) (map noted_range parts)
  whole_from [] all = tt
  whole_from (part ∷ parts) all = (ap (λ (made : JobRows). made.whole) (left_same part) ∙ all.0, whole_from parts all.1)

  -- If no fold refuses in what is left, all ranges of the attempt are whole.
  pub none_refuses : NoneRefuses merge settings tables parts size moment old → WholeUnless merge stored ask.attempt None
  none_refuses all = subst (AllByRecursion (λ range. (unwritten merge stored ask.attempt range).whole ≡ true)) (sym asked.ranges) (whole_from parts all)

  course_is : course ≡ calls_each (gets_tables (table_ids tables)) rest
  unfolding finish
  course_is = ap (λ ids. calls_each (gets_tables ids) rest) asked.sources

  -- The source tables were got.
  pub got_here : (mid : StoreView) → GotEach (table_ids tables) old mid → Leads course old rest mid
  got_here mid got = subst (λ (c : Course (StepEnd FinishedJob)). Leads c old rest mid) (sym course_is) (got_leads (table_ids tables) old mid got rest)

  -- What is left was not read: the finish ends with the error, or the operator refused.
  module _ {A : Type 0} (ends : A → StepEnd FinishedJob) (again : ℕ → Course (StepEnd FinishedJob)) (new : StoreView) (e : SlateDBError) where
    pub read_ends : ReadsLeft merge settings tables parts size old new (Err e) → TryRan ends course again old new (Err e) ⊎ WasRefused merge settings tables parts old new e
    read_ends (inl until) = inl (subst (λ (c : Course (StepEnd FinishedJob)). TryRan ends c again old new (Err e)) (sym course_is) (gets_fail ends again rest e new (table_ids tables) old until))
    read_ends (inr stops) = by (memory_or e)
      where
        by : (e ≡ Memory) ⊎ (e ≢ Memory) → TryRan ends course again old new (Err e) ⊎ WasRefused merge settings tables parts old new e
        by (inl memory) = inl (then_tried ends (got_here new stops.got) (rw memory (tried ends refl (wants ends rest new))))
        by (inr other) =
            let refused = stops.refused other in
            let operator = refused.refuses.operator in
            inr (record { got = stops.got; message = operator.message; is = operator.same; refused = refused })

  module _ (goes_on : ask.refusal ≡ None) where
    abbrev ends_with : List (List ℕ) → Course (StepEnd FinishedJob)
    ends_with new = end_job ask.moment ask.worker ask.attempt (all_outputs ask.attempt.context.ranges new)

    puts_is : rest ≡ puts_ranges moment (tables_left merge settings tables parts size moment old) ends_with
    puts_is =
        ap (λ refusal. unless_refused ask.worker ask.attempt refusal (puts_and_ends ask (model.tables_left merge stored ask))) goes_on
        ∙ ap (λ made. puts_ranges ask.moment made ends_with) tables_same
        ∙ ap (λ m. puts_ranges m (tables_left merge settings tables parts size moment old) ends_with) asked.when

    got_puts : (mid : StoreView) → GotEach (table_ids tables) old mid → Leads course old (puts_ranges moment (tables_left merge settings tables parts size moment old) ends_with) mid
    got_puts mid got = subst (λ (c : Course (StepEnd FinishedJob)). Leads course old c mid) puts_is (got_here mid got)

    -- If the finish is lawful where no fold refuses, all that is left may be written.
    pub may_write : IsShort merge → CanFinish merge old.world.store settings tables parts → (NoneRefuses merge settings tables parts size moment old → IsLawfulCourse old.who old.world course) → MayWriteLeft merge settings tables parts size moment old
    may_write short can lawful whole mid got = (
      left_makes merge stored settings tables size parts short can.sound can.ordered,
      may_put_ranges mid moment (tables_left merge settings tables parts size moment old) ends_with (lawful_on old mid (got_puts mid got) (lawful whole)),
    )

    -- All that is left was written, and the end of the job follows.
    pub wrote_leads : (new : StoreView) (outputs : List (List SsTableHandle)) → WroteLeft merge settings tables parts size moment old new outputs → Leads course old (end_job ask.moment ask.worker ask.attempt (map table_ids outputs)) new
    wrote_leads new outputs wrote =
        let same : all_outputs ask.attempt.context.ranges (map table_ids wrote.handles) ≡ map table_ids outputs =
        ap (λ ranges. all_outputs ranges (map table_ids wrote.handles)) asked.ranges ∙ sym (outputs_same parts wrote.handles) ∙ ap (map table_ids) (sym wrote.are) in
        subst (λ made. Leads course old (end_job ask.moment ask.worker ask.attempt made) new) same
        (then_leads (got_puts wrote.mid wrote.got) (ranges_lead moment (tables_left merge settings tables parts size moment old) wrote.mid new wrote.handles wrote.put ends_with))

    module _ {A : Type 0} (ends : A → StepEnd FinishedJob) (again : ℕ → Course (StepEnd FinishedJob)) (new : StoreView) (e : SlateDBError) where
      -- Fewer tables were put than are left, and the finish ends with the error.
      pub wrote_fails : WroteUntil merge settings tables parts size moment old new e → TryRan ends course again old new (Err e)
      wrote_fails wrote = then_tried ends (got_puts wrote.mid wrote.got) (ranges_fail ends again moment e new (tables_left merge settings tables parts size moment old) wrote.mid wrote.put ends_with)
