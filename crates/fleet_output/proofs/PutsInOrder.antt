-- The puts of the tables of ranges as turns of a step.
use Rattle.std.proofs.Common.{◌≡◌, refl, sym, ap, subst, ℕ, suc, inl, inr, List, [], ◌∷◌, ◌++◌, map, length, append_assoc, Err}
use Rattle.std.specs.Prelude.{⊤}
use Rattle.std.specs.List.{AllByRecursion}
use Rattle.std.proofs.lemmas.List.{append-nil}
use Rattle.row_model.specs.Rows.{Row}
use Rattle.fleet_model.specs.Invariants.TreesFit.{IsTable}
use Rattle.step_model.specs.Past.{World}
use Rattle.step_model.specs.Later.{IsLater}
use Rattle.step_model.specs.Rivals.{Caller}
use Rattle.step_model.specs.Courses.Course.{Course, Ends, puts_ranges, puts_table, puts_tables}
use Rattle.step_model.specs.Courses.CourseRuns.{IsLawfulCourse}
use Rattle.step_model.specs.Courses.StepEnds.{StepEnd}
use Rattle.step_model.specs.Views.{StoreView}
use Rattle.step_laws.proofs.Elements.{all_push}
use Rattle.fleet_rows.specs.declared.errors.SlateDBError.{SlateDBError}
use Rattle.fleet_rows.specs.declared.errors.SlateDBError.TheVariants.{Memory}
use Rattle.fleet_tree.specs.declared.handle.SsTableHandle.{SsTableHandle}
use Rattle.fleet_jobs.specs.Contexts.{table_ids}
use Rattle.fleet_store.specs.Handles.{IsDescribed}
use Rattle.fleet_store.proofs.Later.{all_described}
use Rattle.fleet_step.specs.Steps.{Leads, TryRan}
use Rattle.fleet_step.proofs.Steps.{begins, then_leads, then_tried, tried, wants}
use Rattle.fleet_output.specs.Puts.{MayPutNew, PutNew, PutsNew}
use Rattle.fleet_output.specs.RangePuts.{AreDescribed, MayPutEach, MayPutRanges, PutEach, PutRanges, PutRangesUntil, PutUntil}
use Rattle.fleet_output.proofs.Failures.{IsStopped, puts_stop}
use Rattle.fleet_output.proofs.Puts.{put_leads, puts_fail}

-- Where nothing is left, no items are.
pub no_items : {A : Type 0} (xs : List A) → length xs ≡ 0 → xs ≡ []
no_items [] none = refl
no_items (x ∷ xs) none = absurd (cc none)

-- ---- the puts lead on

-- The tables of a range were put.
pub each_leads : {A : Type 0} (moment : ℕ) (tables : List (List Row)) (old new : StoreView) (handles : List SsTableHandle) → PutEach moment tables old new handles → (next : List ℕ → Course A) → Leads (puts_tables moment tables next) old (next (table_ids handles)) new
each_leads moment [] old new [] same next = subst (λ v. Leads (next []) old (next []) v) (sym same) (begins (next []) old)
each_leads moment [] old new (handle ∷ handles) none next = absurd none
each_leads moment (rows ∷ tables) old new [] none next = absurd none
each_leads {A} moment (rows ∷ tables) old new (handle ∷ handles) (mid, (put, rest)) next =
    then_leads (put_leads moment rows old mid handle put (λ table. puts_tables moment tables (λ ids. next (table ∷ ids)))) (each_leads {A = A} moment tables mid new handles rest (λ ids. next (handle.id ∷ ids)))

-- The tables of all ranges were put.
pub ranges_lead : {A : Type 0} (moment : ℕ) (ranges : List (List (List Row))) (old new : StoreView) (outputs : List (List SsTableHandle)) → PutRanges moment ranges old new outputs → (next : List (List ℕ) → Course A)
    → Leads (puts_ranges moment ranges next) old (next (map table_ids outputs)) new
ranges_lead moment [] old new [] same next = subst (λ v. Leads (next []) old (next []) v) (sym same) (begins (next []) old)
ranges_lead moment [] old new (handles ∷ outputs) none next = absurd none
ranges_lead moment (tables ∷ ranges) old new [] none next = absurd none
ranges_lead {A} moment (tables ∷ ranges) old new (handles ∷ outputs) (mid, (put, rest)) next =
    then_leads (each_leads moment tables old mid handles put (λ ids. puts_ranges moment ranges (λ others. next (ids ∷ others)))) (ranges_lead {A = A} moment ranges mid new outputs rest (λ others. next (table_ids handles ∷ others)))

-- ---- fewer puts end the step

module _ {A B : Type 0} (ends : A → StepEnd B) (again : ℕ → Course (StepEnd B)) (moment : ℕ) (e : SlateDBError) (new : StoreView) where
  -- Memory ran out.
  lacks : (course : Course (StepEnd B)) (old : StoreView) → (e ≡ Memory) × (new ≡ old) → TryRan ends course again old new (Err e)
  lacks course old (memory, same) = rw (memory, same) (tried ends refl (wants ends course old))

  pub each_fail : (tables : List (List Row)) (old : StoreView) → PutUntil moment tables old new e → (next : List ℕ → Course (StepEnd B)) → TryRan ends (puts_tables moment tables next) again old new (Err e)
  each_fail [] old lacking next = lacks (next []) old lacking
  each_fail (rows ∷ tables) old (inl fails) next = puts_fail moment rows old new e fails (λ table. puts_tables moment tables (λ ids. next (table ∷ ids)))
  each_fail (rows ∷ tables) old (inr (mid, (handle, (put, rest)))) next =
      then_tried ends (put_leads moment rows old mid handle put (λ table. puts_tables moment tables (λ ids. next (table ∷ ids)))) (each_fail tables mid rest (λ ids. next (handle.id ∷ ids)))

  pub ranges_fail : (ranges : List (List (List Row))) (old : StoreView) → PutRangesUntil moment ranges old new e → (next : List (List ℕ) → Course (StepEnd B)) → TryRan ends (puts_ranges moment ranges next) again old new (Err e)
  ranges_fail [] old lacking next = lacks (next []) old lacking
  ranges_fail (tables ∷ ranges) old (inl fails) next = each_fail tables old fails (λ ids. puts_ranges moment ranges (λ others. next (ids ∷ others)))
  ranges_fail (tables ∷ ranges) old (inr (mid, (handles, (put, rest)))) next =
      then_tried ends (each_leads moment tables old mid handles put (λ ids. puts_ranges moment ranges (λ others. next (ids ∷ others)))) (ranges_fail ranges mid rest (λ others. next (table_ids handles ∷ others)))

-- ---- fewer puts come of a fault or of want of memory

module _ (moment : ℕ) (e : SlateDBError) (new : StoreView) where
  each_stop : (tables : List (List Row)) (old : StoreView) → PutUntil moment tables old new e → IsStopped e
  each_stop [] old (memory, same) = inr memory
  each_stop (rows ∷ tables) old (inl fails) = puts_stop moment rows old new e fails
  each_stop (rows ∷ tables) old (inr (mid, (handle, (put, rest)))) = each_stop tables mid rest

  pub ranges_stop : (ranges : List (List (List Row))) (old : StoreView) → PutRangesUntil moment ranges old new e → IsStopped e
  ranges_stop [] old (memory, same) = inr memory
  ranges_stop (tables ∷ ranges) old (inl fails) = each_stop tables old fails
  ranges_stop (tables ∷ ranges) old (inr (mid, (handles, (put, rest)))) = ranges_stop ranges mid rest

-- ---- memory runs out after the puts

pub each_then_lacks : (moment : ℕ) (tables : List (List Row)) (old new : StoreView) (handles : List SsTableHandle) → PutEach moment tables old new handles → PutUntil moment tables old new Memory
each_then_lacks moment [] old new [] same = (refl, same)
each_then_lacks moment [] old new (handle ∷ handles) none = absurd none
each_then_lacks moment (rows ∷ tables) old new [] none = absurd none
each_then_lacks moment (rows ∷ tables) old new (handle ∷ handles) (mid, (put, rest)) = inr (mid, (handle, (put, each_then_lacks moment tables mid new handles rest)))

pub ranges_then_lack : (moment : ℕ) (ranges : List (List (List Row))) (old new : StoreView) (outputs : List (List SsTableHandle)) → PutRanges moment ranges old new outputs → PutRangesUntil moment ranges old new Memory
ranges_then_lack moment [] old new [] same = (refl, same)
ranges_then_lack moment [] old new (handles ∷ outputs) none = absurd none
ranges_then_lack moment (tables ∷ ranges) old new [] none = absurd none
ranges_then_lack moment (tables ∷ ranges) old new (handles ∷ outputs) (mid, (put, rest)) = inr (mid, (handles, (put, ranges_then_lack moment ranges mid new outputs rest)))

-- Memory ran out before a put.
lacks_each : (moment : ℕ) (tables : List (List Row)) (now : StoreView) → PutUntil moment tables now now Memory
lacks_each moment [] now = (refl, refl)
lacks_each moment (rows ∷ tables) now = inl (inl (refl, refl))

lacks_ranges : (moment : ℕ) (ranges : List (List (List Row))) (now : StoreView) → PutRangesUntil moment ranges now now Memory
lacks_ranges moment [] now = (refl, refl)
lacks_ranges moment (tables ∷ ranges) now = inl (lacks_each moment tables now)

-- ---- the puts are lawful

-- If a course is lawful after the draw and the put, another one that is lawful wherever that one is may stand in its place.
table_lawful_to : {A B : Type 0} (who : Caller) (moment : ℕ) (rows : List Row) (next : ℕ → Course A) (other : ℕ → Course B) → ((id : ℕ) (world : World) → IsLawfulCourse who world (next id) → IsLawfulCourse who world (other id))
    → (world : World) → IsLawfulCourse who world (puts_table moment rows next) → IsLawfulCourse who world (puts_table moment rows other)
table_lawful_to who moment rows next other to world lawful = λ met rivals room.
    let drawn = lawful met rivals room in (
      drawn.0,
      λ there between free. let put = drawn.1 there between free in (put.0, to _ _ put.1),
    )

each_lawful_to : {A B : Type 0} (who : Caller) (moment : ℕ) (tables : List (List Row)) (next : List ℕ → Course A) (other : List ℕ → Course B) → ((ids : List ℕ) (world : World) → IsLawfulCourse who world (next ids) → IsLawfulCourse who world (other ids))
    → (world : World) → IsLawfulCourse who world (puts_tables moment tables next) → IsLawfulCourse who world (puts_tables moment tables other)
each_lawful_to who moment [] next other to world lawful = to [] world lawful
each_lawful_to {A} {B} who moment (rows ∷ tables) next other to world lawful =
    table_lawful_to who moment rows (λ table. puts_tables moment tables (λ ids. next (table ∷ ids))) (λ table. puts_tables moment tables (λ ids. other (table ∷ ids)))
    (λ id later rest. each_lawful_to {A = A} {B = B} who moment tables (λ ids. next (id ∷ ids)) (λ ids. other (id ∷ ids)) (λ ids. to (id ∷ ids)) later rest) world lawful

ranges_lawful_to : {A B : Type 0} (who : Caller) (moment : ℕ) (ranges : List (List (List Row))) (next : List (List ℕ) → Course A) (other : List (List ℕ) → Course B)
    → ((ids : List (List ℕ)) (world : World) → IsLawfulCourse who world (next ids) → IsLawfulCourse who world (other ids)) → (world : World) → IsLawfulCourse who world (puts_ranges moment ranges next) → IsLawfulCourse who world (puts_ranges moment ranges other)
ranges_lawful_to who moment [] next other to world lawful = to [] world lawful
ranges_lawful_to {A} {B} who moment (tables ∷ ranges) next other to world lawful =
    each_lawful_to who moment tables (λ ids. puts_ranges moment ranges (λ others. next (ids ∷ others))) (λ ids. puts_ranges moment ranges (λ others. other (ids ∷ others)))
    (λ ids later rest. ranges_lawful_to {A = A} {B = B} who moment ranges (λ others. next (ids ∷ others)) (λ others. other (ids ∷ others)) (λ others. to (ids ∷ others)) later rest) world lawful

-- The tables of ranges may be put where a course is lawful that puts them.
pub may_put_ranges : {A : Type 0} (view : StoreView) (moment : ℕ) (ranges : List (List (List Row))) (next : List (List ℕ) → Course A) → IsLawfulCourse view.who view.world (puts_ranges moment ranges next) → MayPutRanges view moment ranges
may_put_ranges {A} view moment ranges next lawful = ranges_lawful_to {A = A} {B = ⊤} view.who moment ranges next (λ ids. Ends tt) (λ ids world rest. tt) view.world lawful

-- What is lawful of the rest, where the calls so far lead.
pub lawful_on : {A : Type 0} {course rest : Course A} (old new : StoreView) → Leads course old rest new → IsLawfulCourse old.who old.world course → IsLawfulCourse new.who new.world rest
lawful_on {A} {course} {rest} old new lead lawful = subst (λ (who : Caller). IsLawfulCourse who new.world rest) (sym lead.same.who) (lead.lawful lawful)

-- ---- the tables of a range, put in order

-- So far some tables were put, with these handles. The tables that are left may be put, and what comes of them comes of
-- all tables.
pub record PutsOn (moment : ℕ) (all : List (List Row)) (old now : StoreView) (left : List (List Row)) (handles : List SsTableHandle) : Type 0 where
  pub sound : AllByRecursion IsTable left
  pub may : MayPutEach now moment left
  pub described : AllByRecursion (IsDescribed now.world.store.tables) handles
  pub goes : (new : StoreView) (others : List SsTableHandle) → PutEach moment left now new others → PutEach moment all old new (handles ++ others)
  pub fails : (new : StoreView) (e : SlateDBError) → PutUntil moment left now new e → PutUntil moment all old new e

pub each_begin : (moment : ℕ) (all left : List (List Row)) (old : StoreView) → all ≡ left → AllByRecursion IsTable all → MayPutEach old moment all → PutsOn moment all old old left []
each_begin moment all left old same sound may =
    subst (λ rest. PutsOn moment all old old rest []) same (record { sound = sound; may = may; described = tt; goes = λ new others put. put; fails = λ new e put. put })

module _ (moment : ℕ) (all : List (List Row)) (old now : StoreView) (rows : List Row) (left : List (List Row)) (handles : List SsTableHandle) (on : PutsOn moment all old now (rows ∷ left) handles) where
  -- The next table may be put.
  pub next_may : MayPutNew now moment rows
  next_may = table_lawful_to {A = ⊤} {B = ⊤} now.who moment rows (λ table. puts_tables moment left (λ ids. Ends tt)) (λ table. Ends tt) (λ id world rest. tt) now.world on.may

  -- It was not.
  pub each_stops : (new : StoreView) (e : SlateDBError) → PutsNew moment rows now new (Err e) → PutUntil moment all old new e
  each_stops new e fails = on.fails new e (inl fails)

  module _ (new : StoreView) (handle : SsTableHandle) (put : PutNew moment rows now new handle) where
    -- It was put.
    pub each_further : IsDescribed new.world.store.tables handle → PutsOn moment all old new left (handles ++ handle ∷ [])
    each_further described =
        let lead = put_leads {A = ⊤} moment rows now new handle put (λ table. puts_tables moment left (λ ids. Ends tt)) in
        record {
          sound = on.sound.1;
          may = lawful_on now new lead on.may;
          described = all_push (IsDescribed new.world.store.tables) handles handle (all_described now.world.store new.world.store lead.later handles on.described) described;
          goes = λ last others rest. subst (PutEach moment all old last) (sym (append_assoc handles (handle ∷ []) others)) (on.goes last (handle ∷ others) (new, (put, rest)));
          fails = λ last e rest. on.fails last e (inr (new, (handle, (put, rest))));
        }

    -- Memory ran out after it.
    pub each_lacks : PutUntil moment all old new Memory
    each_lacks = on.fails new Memory (inr (new, (handle, (put, lacks_each moment left new))))

-- All tables were put.
pub each_put : (moment : ℕ) (all : List (List Row)) (old now : StoreView) (handles : List SsTableHandle) → PutsOn moment all old now [] handles → PutEach moment all old now handles
each_put moment all old now handles on = subst (PutEach moment all old now) (append-nil handles) (on.goes now [] refl)

-- ---- the tables of all ranges, put in order

-- So far the tables of some ranges were put, with these handles. Those of the ranges that are left may be put, and what
-- comes of them comes of all ranges.
pub record RangesOn (moment : ℕ) (all : List (List (List Row))) (old now : StoreView) (left : List (List (List Row))) (outputs : List (List SsTableHandle)) : Type 0 where
  pub sound : AllByRecursion (AllByRecursion IsTable) left
  pub may : MayPutRanges now moment left
  pub described : AreDescribed now.world.store.tables outputs
  pub goes : (new : StoreView) (others : List (List SsTableHandle)) → PutRanges moment left now new others → PutRanges moment all old new (outputs ++ others)
  pub fails : (new : StoreView) (e : SlateDBError) → PutRangesUntil moment left now new e → PutRangesUntil moment all old new e

pub ranges_begin : (moment : ℕ) (all left : List (List (List Row))) (old : StoreView) → all ≡ left → AllByRecursion (AllByRecursion IsTable) all → MayPutRanges old moment all → RangesOn moment all old old left []
ranges_begin moment all left old same sound may =
    subst (λ rest. RangesOn moment all old old rest []) same (record { sound = sound; may = may; described = tt; goes = λ new others put. put; fails = λ new e put. put })

-- What is described stays so.
pub still_all : (old new : StoreView) → IsLater old.world.store new.world.store → (outputs : List (List SsTableHandle)) → AreDescribed old.world.store.tables outputs → AreDescribed new.world.store.tables outputs
still_all old new later [] all = tt
still_all old new later (handles ∷ outputs) all = (all_described old.world.store new.world.store later handles all.0, still_all old new later outputs all.1)

module _ (moment : ℕ) (all : List (List (List Row))) (old now : StoreView) (tables : List (List Row)) (left : List (List (List Row))) (outputs : List (List SsTableHandle)) (on : RangesOn moment all old now (tables ∷ left) outputs) where
  -- The tables of the next range may be put.
  pub each_may : MayPutEach now moment tables
  each_may = each_lawful_to {A = ⊤} {B = ⊤} now.who moment tables (λ ids. puts_ranges moment left (λ others. Ends tt)) (λ ids. Ends tt) (λ ids world rest. tt) now.world on.may

  -- Fewer were.
  pub ranges_stops : (new : StoreView) (e : SlateDBError) → PutUntil moment tables now new e → PutRangesUntil moment all old new e
  ranges_stops new e fails = on.fails new e (inl fails)

  module _ (new : StoreView) (handles : List SsTableHandle) (put : PutEach moment tables now new handles) where
    -- They were put.
    pub ranges_further : AllByRecursion (IsDescribed new.world.store.tables) handles → RangesOn moment all old new left (outputs ++ handles ∷ [])
    ranges_further described =
        let lead = each_leads {A = ⊤} moment tables now new handles put (λ ids. puts_ranges moment left (λ others. Ends tt)) in
        record {
          sound = on.sound.1;
          may = lawful_on now new lead on.may;
          described = all_push (λ handles. AllByRecursion (IsDescribed new.world.store.tables) handles) outputs handles (still_all now new lead.later outputs on.described) described;
          goes = λ last others rest. subst (PutRanges moment all old last) (sym (append_assoc outputs (handles ∷ []) others)) (on.goes last (handles ∷ others) (new, (put, rest)));
          fails = λ last e rest. on.fails last e (inr (new, (handles, (put, rest))));
        }

    -- Memory ran out after them.
    pub ranges_lacks : PutRangesUntil moment all old new Memory
    ranges_lacks = on.fails new Memory (inr (new, (handles, (put, lacks_ranges moment left new))))

-- The tables of all ranges were put.
pub ranges_put : (moment : ℕ) (all : List (List (List Row))) (old now : StoreView) (outputs : List (List SsTableHandle)) → RangesOn moment all old now [] outputs → PutRanges moment all old now outputs
ranges_put moment all old now outputs on = subst (PutRanges moment all old now) (append-nil outputs) (on.goes now [] refl)

-- As many lists were put as there are ranges.
pub as_many : (moment : ℕ) (ranges : List (List (List Row))) (old new : StoreView) (outputs : List (List SsTableHandle)) → PutRanges moment ranges old new outputs → length outputs ≡ length ranges
as_many moment [] old new [] same = refl
as_many moment [] old new (handles ∷ outputs) none = absurd none
as_many moment (tables ∷ ranges) old new [] none = absurd none
as_many moment (tables ∷ ranges) old new (handles ∷ outputs) (mid, (put, rest)) = ap (λ n. suc n) (as_many moment ranges mid new outputs rest)
