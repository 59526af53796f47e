-- The turns of a flush.
use Rattle.std.proofs.Common.{◌≡◌, refl, sym, ◌∙◌, ap, subst, ℕ, suc, ◌+◌, Bool, true, false, cond, List, [], ◌∷◌, ◌++◌, inl, inr, Option, Some, None, Result, Ok, Err, add-one, eq-eqb}
use Rattle.std.specs.Prelude.{◌==◌, ◌||◌, find, not, IsTrue, ⊤, ◌≤◌}
use Rattle.std.specs.List.{list_all}
use Rattle.row_model.specs.Fold.{IsLawful}
use Rattle.row_model.specs.Rows.{Row}
use Rattle.fleet_model.specs.Exchanges.{PutsManifest}
use Rattle.fleet_model.specs.History.{Flush}
use Rattle.fleet_model.specs.History as model
use Rattle.fleet_model.specs.Nodes.{Tables, is_among, last_seq_of, rows_or_none, segment_at, table_rows}
use Rattle.fleet_model.specs.Store.{Manifest}
use Rattle.step_model.specs.Courses.Course.{Course, Ends, Calls, gets_manifest, puts_manifest}
use Rattle.step_model.specs.Courses.CourseRuns.{IsLawfulCourse}
use Rattle.step_model.specs.Entries.{last_name}
use Rattle.step_model.specs.Steps.FlushSteps.{FlushAsk, fault_after_get, fault_before_get, flush, flushes_from, is_above, puts_unless_put, unless_bad, with_flush}
use Rattle.step_model.specs.Kept.Keeps.{Keeps}
use Rattle.step_model.specs.Lawful.{Lawful}
use Rattle.step_model.specs.LawfulManifests.{ManifestFits}
use Rattle.step_model.specs.LawfulTables.{TableFits}
use Rattle.step_model.specs.Later.{IsLater}
use Rattle.step_model.specs.Past.{World}
use Rattle.step_model.specs.Rivals.{Caller, Rivals}
use Rattle.step_model.specs.Courses.StepEnds.{StepEnd, Reports, BadFlush, BadSequence, BadFloor, BadTick, GivesUp, most_refused}
use Rattle.step_model.specs.Courses.StepEnds as fault
use Rattle.step_model.specs.Views.{StoreView}
use Rattle.step_laws.proofs.FlushTrees.{Rising, rising_from}
use Rattle.step_laws.proofs.Later.{later_then, rivals_later, table_stays}
use Rattle.step_laws.proofs.Runs.{rivals_keep}
use Rattle.commit_laws.proofs.AllCalls.{calls_keep}
use Rattle.course_laws.specs.Flushes.{MayAsk}
use Rattle.course_laws.proofs.Flushes.{flushes_are_lawful}
use Rattle.fleet_rows.specs.declared.errors.SlateDBError.{SlateDBError}
use Rattle.fleet_rows.specs.declared.errors.SlateDBError.TheVariants as error
use Rattle.fleet_tree.specs.Manifests.{manifest_of}
use Rattle.fleet_tree.specs.declared.manifest.Manifest as own
use Rattle.fleet_tree.specs.declared.manifest.VersionedManifest.{VersionedManifest}
use Rattle.fleet_history.specs.Changes.{manifest_change_of}
use Rattle.fleet_history.specs.declared.manifest_change.ManifestChange as own_change
use Rattle.fleet_history.specs.declared.manifest_change.ManifestChange.TheVariants as change
use Rattle.fleet_store.specs.Asks as asks
use Rattle.fleet_store.specs.Asks.{GetsManifest, ManifestPutFits, PutsTableRows}
use Rattle.fleet_store.specs.Manifests.{HasTrees, meant_by}
use Rattle.fleet_store.proofs.Later.{called_later, still_manifest}
use Rattle.fleet_step.specs.Steps.{Leads, StepRan, TryRan, put_answer, refused_at}
use Rattle.fleet_step.proofs.Keeping.{step_keeps}
use Rattle.fleet_step.proofs.Steps.{begins, call_leads, gives_up, reports, then_leads, then_ran, then_tried, tried, wants}
use Rattle.fleet_step.proofs.Turns.{AreAlike, ends_with, get_fails, got_manifest, manifest_is, manifest_put_fails, manifest_put_leads, manifest_then}
use Rattle.fleet_coordinator.specs.Flushes.{HasSeqs, IsFlushPut, IsPutTable, IsWriter, MayFlush, MayPutOnce, MayTry, PutsOnce, asked_of, ends, fault_of}
use Rattle.fleet_coordinator.specs.declared.flushing.MadeFlush as made
use Rattle.fleet_coordinator.specs.declared.flushing.FlushFault.{FlushFault}
use Rattle.fleet_coordinator.proofs.FlushPuts.{means_flush, shows_flush}
use Rattle.fleet_coordinator.proofs.FlushRules.{bare_flushes, got_fault}
use Rattle.fleet_coordinator.proofs.Submits.{keeps_midway}

-- ---- a table that is put

table_there : (tables : Tables) (id : ℕ) (rows : List Row) → is_among tables id ≡ false → (is_among (tables ++ (id, rows) ∷ []) id ≡ true) × (table_rows (tables ++ (id, rows) ∷ []) id ≡ rows)
table_there [] id rows new = rw (eq-eqb id id refl) (refl, refl)
table_there (table ∷ tables) id rows new = by (table.0 == id) (table_there tables id rows) new
  where
    by : (b : Bool) → (is_among tables id ≡ false → (is_among (tables ++ (id, rows) ∷ []) id ≡ true) × (table_rows (tables ++ (id, rows) ∷ []) id ≡ rows)) → (b || is_among tables id) ≡ false
        → ((b || is_among (tables ++ (id, rows) ∷ []) id) ≡ true) × (rows_or_none (cond b (Some table) (find (λ held. held.0 == id) (tables ++ (id, rows) ∷ []))) ≡ rows)
    by true rest none = absurd (cc none)
    by false rest none = rest none

put_later : (ask : FlushAsk) (old new : StoreView) → IsLater old.world.store new.world.store → IsPutTable old ask → IsPutTable new ask
put_later ask old new later put = let stays = table_stays ask.name old.world.store new.world.store later put.there in record { there = stays.there; rows = stays.rows ∙ put.rows }

-- ---- a try

-- How a try goes on with the put of the manifest, and how after its get.
abbrev pub puts_flush : (moment retention : ℕ) → FlushAsk → Manifest → (ℕ → Course (StepEnd ⊤)) → Course (StepEnd ⊤)
puts_flush moment retention ask manifest again =
    puts_manifest manifest.version (Flush ask.name ask.segment ask.floor ask.tick) (with_flush moment retention ask manifest) (Ends (Reports tt)) again

abbrev pub flush_next : (moment retention : ℕ) → FlushAsk → Bool → (ℕ → Course (StepEnd ⊤)) → Manifest → Course (StepEnd ⊤)
flush_next moment retention ask is_put again manifest = unless_bad (fault_after_get manifest ask) (puts_unless_put is_put ask (puts_flush moment retention ask manifest again))

above_all : (a : Bool) (rest : Option fault.FlushFault) → cond (not a) (Some BadSequence) rest ≡ None → a ≡ true
above_all true rest e = refl
above_all false rest e = absurd (cc e)

same_put : (v v' : ℕ) (c c' : model.ManifestChange) (m : Manifest) (again : ℕ → Course (StepEnd ⊤)) → v ≡ v' → c ≡ c' → puts_manifest v c m (Ends (Reports tt)) again ≡ Calls (PutsManifest v' c' m) (manifest_then v' (Ends (Reports tt)) again)
same_put v v' c c' m again a b = rw (a, b) refl

module _ (moment retention : ℕ) (ask : FlushAsk) (is_put : Bool) (old one : StoreView) (got : VersionedManifest) (gets : GetsManifest old one (Ok got)) where
  abbrev pub stored : Manifest
  stored = gets.met.store.manifest

  module _ (again : ℕ → Course (StepEnd ⊤)) where
    abbrev course : Course (StepEnd ⊤)
    course = gets_manifest (flush_next moment retention ask is_put again)

    pub at_get : Leads course old (flush_next moment retention ask is_put again stored) one
    at_get = got_manifest gets (flush_next moment retention ask is_put again)

    -- The flush breaks a rule over the manifest.
    pub breaks_rule : (fault : FlushFault) → Some (fault_of fault) ≡ fault_after_get (manifest_of bare_flushes 0 0 got.manifest.core) ask → TryRan ends course again old one (Ok (Some fault))
    breaks_rule fault is =
        ends_with at_get (Some fault) (ap (λ f. unless_bad f (puts_unless_put is_put ask (puts_flush moment retention ask stored again))) (sym (is ∙ got_fault ask got.id got.manifest stored gets.ended.0.same)))

  module _ (none : None ≡ fault_after_get (manifest_of bare_flushes 0 0 got.manifest.core) ask) where
    no_fault : fault_after_get stored ask ≡ None
    no_fault = sym (none ∙ got_fault ask got.id got.manifest stored gets.ended.0.same)

    above : list_all (λ r. is_above (last_seq_of (segment_at ask.segment stored.trees)) r.seq) ask.rows ≡ true
    above = above_all _ _ no_fault

    pub at_table : (again : ℕ → Course (StepEnd ⊤)) → Leads (gets_manifest (flush_next moment retention ask is_put again)) old (puts_unless_put is_put ask (puts_flush moment retention ask stored again)) one
    at_table again = subst (λ f. Leads (gets_manifest (flush_next moment retention ask is_put again)) old (unless_bad f (puts_unless_put is_put ask (puts_flush moment retention ask stored again))) one) no_fault (at_get again)

    module _ (may : MayTry old moment retention ask is_put) where
      abbrev last_again : ℕ → Course (StepEnd ⊤)
      last_again = flushes_from moment retention ask may.left true

      -- What is left of the try is a lawful course.
      lawful_table : IsLawfulCourse one.who one.world (puts_unless_put is_put ask (puts_flush moment retention ask stored last_again))
      lawful_table =
          subst (λ (who : Caller). IsLawfulCourse who one.world (puts_unless_put is_put ask (puts_flush moment retention ask stored last_again))) (sym gets.same.who)
          ((at_table last_again).lawful may.lawful)

      pub may_put_once : MayPutOnce one ask is_put
      may_put_once = by is_put lawful_table
        where
          by : (b : Bool) → IsLawfulCourse one.who one.world (puts_unless_put b ask (puts_flush moment retention ask stored last_again)) → MayPutOnce one ask b
          by true lawful = tt
          by false lawful = λ met rivals. (lawful met rivals tt).0

      module _ (two : StoreView) (puts : PutsOnce one two ask is_put (Ok tt)) where
        pub is_put_now : IsPutTable two ask
        is_put_now = by is_put puts lawful_table (λ e. put_later ask old one (at_get last_again).later (may.held e))
          where
            by : (b : Bool) → PutsOnce one two ask b (Ok tt) → IsLawfulCourse one.who one.world (puts_unless_put b ask (puts_flush moment retention ask stored last_again)) → (b ≡ true → IsPutTable one ask) → IsPutTable two ask
            by true same lawful held = subst (λ v. IsPutTable v ask) (sym same.0) (held refl)
            by false (inr none) lawful held = absurd (cc none.1)
            by false (inl called) lawful held =
                let fits : TableFits one.who.party called.met.store ask.name ask.rows = (lawful called.met called.rivals tt).0 in
                let there = table_there called.met.store.tables ask.name ask.rows fits.new in
                record {
                  there = subst (λ (world : World). IsTrue (is_among world.store.tables ask.name)) (sym called.ended.1.leaves) there.0;
                  rows = subst (λ (world : World). table_rows world.store.tables ask.name ≡ ask.rows) (sym called.ended.1.leaves) there.1;
                }

        pub at_manifest : (again : ℕ → Course (StepEnd ⊤)) → Leads (gets_manifest (flush_next moment retention ask is_put again)) old (puts_flush moment retention ask stored again) two
        at_manifest again = then_leads (at_table again) (by is_put puts)
          where
            by : (b : Bool) → PutsOnce one two ask b (Ok tt) → Leads (puts_unless_put b ask (puts_flush moment retention ask stored again)) one (puts_flush moment retention ask stored again) two
            by true same = subst (λ v. Leads (puts_flush moment retention ask stored again) one (puts_flush moment retention ask stored again) v) (sym same.0) (begins (puts_flush moment retention ask stored again) one)
            by false (inr none) = absurd (cc none.1)
            by false (inl called) = call_leads called (λ met. puts_flush moment retention ask stored again)

    -- The put of the table failed.
    pub table_fails : (two : StoreView) (e : SlateDBError) (again : ℕ → Course (StepEnd ⊤)) → PutsOnce one two ask is_put (Err e) → TryRan ends (gets_manifest (flush_next moment retention ask is_put again)) again old two (Err e)
    table_fails two e again puts = then_tried ends (at_table again) (by is_put puts)
      where
        by : (b : Bool) → PutsOnce one two ask b (Err e) → TryRan ends (puts_unless_put b ask (puts_flush moment retention ask stored again)) again one two (Err e)
        by true same = absurd (cc same.1)
        by false (inl called) = get_fails called
        by false (inr none) = memory e (cc none.1)
          where
            memory : (e : SlateDBError) → e ≡ error.Memory → TryRan ends (puts_unless_put false ask (puts_flush moment retention ask stored again)) again one two (Err e)
            memory e is = rw is (subst (λ v. TryRan ends (puts_unless_put false ask (puts_flush moment retention ask stored again)) again one v (Err error.Memory)) (sym none.0) (tried ends refl (wants ends (puts_unless_put false ask (puts_flush moment retention ask stored again)) one)))

-- ---- the put of the manifest

module _ (moment retention : ℕ) (f : made.MadeFlush) (is_put : Bool) (old one two : StoreView) (got : VersionedManifest) (gets : GetsManifest old one (Ok got)) (seqs : HasSeqs f)
    (none : None ≡ fault_after_get (manifest_of bare_flushes 0 0 got.manifest.core) (asked_of f)) (merges : IsLawful old.who.merge) (may : MayTry old moment retention (asked_of f) is_put) (puts : PutsOnce one two (asked_of f) is_put (Ok tt))
    (version : ℕ) (value : own.Manifest) (is : IsFlushPut moment retention got f version value) (why : own_change.ManifestChange) (why_is : why ≡ change.Flush f.name f.segment f.floor f.tick) where
  abbrev ask : FlushAsk
  ask = asked_of f

  abbrev now : Manifest
  now = gets.met.store.manifest

  rise : Rising now.trees
  rise = rising_from now.trees (rivals_keep old.who old.world gets.met (calls_keep old.who.merge merges) may.keeps gets.rivals).stored.sound.prefixes

  put_there : IsPutTable two ask
  put_there = is_put_now moment retention ask is_put old one got gets none may two puts

  at_two : (again : ℕ → Course (StepEnd ⊤)) → Leads (gets_manifest (flush_next moment retention ask is_put again)) old (puts_flush moment retention ask now again) two
  at_two = at_manifest moment retention ask is_put old one got gets none may two puts

  change_is : manifest_change_of why ≡ Flush f.name f.segment f.floor f.tick
  change_is = ap manifest_change_of why_is

  version_is : now.version ≡ version
  version_is = sym (ap (λ (m : Manifest). m.version) gets.ended.0.same) ∙ sym is.at

  -- The call of the course is the one that is made.
  at_put : (again : ℕ → Course (StepEnd ⊤))
      → Leads (gets_manifest (flush_next moment retention ask is_put again)) old (Calls (PutsManifest version (manifest_change_of why) (with_flush moment retention ask now)) (manifest_then version (Ends (Reports tt)) again)) two
  at_put again =
      subst (λ rest. Leads (gets_manifest (flush_next moment retention ask is_put again)) old rest two)
      (same_put now.version version _ _ (with_flush moment retention ask now) again version_is (sym change_is)) (at_two again)

  module _ (met : World) (rivals : Rivals two.who two.world met) (stays : version ≡ met.store.manifest.version) where
    from_two : IsLater two.world.store met.store
    from_two = rivals_later two.who two.world met rivals

    from_one : IsLater one.world.store met.store
    from_one = later_then one.world.store two.world.store met.store ((once_later).later) from_two
      where
        once_later : Leads (puts_unless_put is_put ask (Ends (Reports tt))) one (Ends (Reports tt)) two
        once_later = by is_put puts
          where
            by : (b : Bool) → PutsOnce one two ask b (Ok tt) → Leads (puts_unless_put b ask (Ends (Reports tt))) one (Ends (Reports tt)) two
            by true same = subst (λ v. Leads {A = StepEnd ⊤} (Ends (Reports tt)) one (Ends (Reports tt)) v) (sym same.0) (begins (Ends (Reports tt)) one)
            by false (inr none) = absurd (cc none.1)
            by false (inl called) = call_leads called (λ met. Ends (Reports tt))

    kept : met.store.manifest ≡ now
    kept = sym (from_one.manifest_stays (ap (λ (t : World). t.store.manifest.version) gets.ended.1.leaves ∙ version_is ∙ stays)) ∙ ap (λ (t : World). t.store.manifest) gets.ended.1.leaves

    there : table_rows met.store.tables f.name ≡ f.table
    there = (table_stays f.name two.world.store met.store from_two put_there.there).rows ∙ put_there.rows

    alike_here : meant_by [] (manifest_change_of why) version value met.store ≡ with_flush moment retention ask now
    alike_here = ap (λ c. meant_by [] c version value met.store) change_is ∙ means_flush moment retention got f version value is seqs now gets.ended.0.same rise (above moment retention ask is_put old one got gets none) met.store kept there

    trees_here : HasTrees value [] (manifest_change_of why) met.store
    trees_here = subst (λ c. HasTrees value [] c met.store) (sym change_is)
        (shows_flush moment retention got f version value is seqs now gets.ended.0.same rise (above moment retention ask is_put old one got gets none) met.store kept there
        (table_stays f.name two.world.store met.store from_two put_there.there).there
        (still_manifest one.world.store met.store from_one got (manifest_is gets) (sym is.at ∙ stays)).views)

  alike : (met : World) → Rivals two.who two.world met → AreAlike version value why [] (with_flush moment retention ask now) met.store
  alike met rivals = λ stays. alike_here met rivals stays

  pub flush_fits : ManifestPutFits two version value why []
  flush_fits = record {
    lawful = λ met rivals same.
        let at = at_put (flushes_from moment retention ask may.left true) in
        let course = subst (λ (w : Caller). Rivals w two.world met → Lawful w.merge w.party met (PutsManifest version (manifest_change_of why) (with_flush moment retention ask now))) (sym at.same.who) (λ rivals. (at.lawful may.lawful met rivals tt).0) rivals same in
        subst (λ v. ManifestFits two.who.party met (manifest_change_of why) v) (sym (alike met rivals same)) course;
    shown = λ met rivals same. trees_here met rivals same;
  }

  pub flush_ends : (again : ℕ → Course (StepEnd ⊤)) (new : StoreView) (made : Result ℕ SlateDBError) → asks.PutsManifest two new version value why [] made
      → TryRan ends (gets_manifest (flush_next moment retention ask is_put again)) again old new (put_answer made None)
  flush_ends again new (Ok n) made =
      then_tried ends (then_leads (at_put again) (manifest_put_leads version value why [] (with_flush moment retention ask now) alike (Ends (Reports tt)) again n made))
      (tried ends refl (reports ends (Ends (Reports tt)) new None refl))
  flush_ends again new (Err e) made = then_tried ends (at_put again) (manifest_put_fails version value why [] (with_flush moment retention ask now) alike (Ends (Reports tt)) again ends e made)

  -- The table is there after the put of the manifest too.
  pub there_after : (new : StoreView) (made : Result ℕ SlateDBError) → asks.PutsManifest two new version value why [] made → IsPutTable new ask
  there_after new made called = put_later ask two new (called_later two new _ _ _ made called) put_there

-- ---- all tries

module _ (moment retention : ℕ) (ask : FlushAsk) {course : Course (StepEnd ⊤)} {old mid : StoreView} (left : ℕ) (is_put : Bool) (seen : ℕ) (so_far : Leads course old (flushes_from moment retention ask left is_put seen) mid) where
  at_try : (after : ℕ) → left ≡ after + 1 → Leads course old (flushes_from moment retention ask (suc after) is_put seen) mid
  at_try after more = subst (λ n. Leads course old (flushes_from moment retention ask n is_put seen) mid) (more ∙ add-one after) so_far

  abbrev Tried : StoreView → Result (Option FlushFault) SlateDBError → Type 0
  Tried new result = (left seen : ℕ) → TryRan ends (flushes_from moment retention ask (suc left) is_put seen) (flushes_from moment retention ask left true) mid new result

  pub flush_on : (new : StoreView) (result : Result (Option FlushFault) SlateDBError) (after version : ℕ) → left ≡ after + 1 → refused_at result ≡ Some version → Tried new result → Leads course old (flushes_from moment retention ask after true version) new
  flush_on new result after version more refused tried = then_leads (at_try after more) ((tried after seen).refused version refused)

  pub flush_last : (new : StoreView) (result : Result (Option FlushFault) SlateDBError) (after : ℕ) → left ≡ after + 1 → refused_at result ≡ None → Tried new result → StepRan ends course old new result
  flush_last new result after more last tried = then_ran ends (at_try after more) ((tried after seen).ended last)

  pub flush_out : left ≡ 0 → StepRan ends course old mid (Err (error.Conflict seen))
  flush_out none = then_ran ends so_far (gives_up ends (flushes_from moment retention ask left is_put seen) mid seen (ap (λ n. flushes_from moment retention ask n is_put seen) none))

  pub may_try : (after : ℕ) → left ≡ after + 1 → IsLawful old.who.merge → Keeps old.who.merge old.world → IsLawfulCourse old.who old.world course → (is_put ≡ true → IsPutTable mid ask) → MayTry mid moment retention ask is_put
  may_try after more merges keeps lawful held = record {
    keeps = keeps_midway course (flushes_from moment retention ask left is_put seen) old mid merges keeps lawful so_far;
    left = after;
    lawful = subst (λ (who : Caller). IsLawfulCourse who mid.world (flushes_from moment retention ask (suc after) is_put seen)) (sym so_far.same.who) ((at_try after more).lawful lawful);
    held = held;
  }

-- ---- the step

module _ (view : StoreView) (moment retention last : ℕ) (ask : FlushAsk) (merges : IsLawful view.who.merge) (by : IsWriter view) (keeps : Keeps view.who.merge view.world) (may : MayAsk ask) (names : last_name view.world.store.history ≤ last) where
  pub flush_lawful : IsLawfulCourse view.who view.world (flush moment retention last ask)
  flush_lawful = flushes_are_lawful view.who view.world moment retention last ask (calls_keep view.who.merge merges) keeps by may names

  as_tries : IsLawfulCourse view.who view.world (unless_bad (fault_before_get last ask) (flushes_from moment retention ask most_refused false 0))
  unfolding flush
  as_tries = flush_lawful

  pub may_flush : None ≡ fault_before_get last ask → MayFlush view moment retention ask
  may_flush none = record { keeps = keeps; lawful = subst (λ f. IsLawfulCourse view.who view.world (unless_bad f (flushes_from moment retention ask most_refused false 0))) (sym none) as_tries }

pub bad_flush : (view : StoreView) (moment retention last : ℕ) (ask : FlushAsk) (fault : FlushFault) → Some (fault_of fault) ≡ fault_before_get last ask → StepRan ends (flush moment retention last ask) view view (Ok (Some fault))
unfolding flush
bad_flush view moment retention last ask fault is =
    reports ends (unless_bad (fault_before_get last ask) (flushes_from moment retention ask most_refused false 0)) view (Some fault) (ap (λ f. unless_bad f (flushes_from moment retention ask most_refused false 0)) (sym is))

-- A flush that breaks no rule by itself runs its tries.
pub ran_tries : (old new : StoreView) (moment retention last : ℕ) (ask asked : FlushAsk) (result : Result (Option FlushFault) SlateDBError) → None ≡ fault_before_get last ask → asked ≡ ask
    → StepRan ends (flushes_from moment retention asked most_refused false 0) old new result → StepRan ends (flush moment retention last ask) old new result
unfolding flush
ran_tries old new moment retention last ask asked result none same ran =
    subst (λ f. StepRan ends (unless_bad f (flushes_from moment retention ask most_refused false 0)) old new result) none (subst (λ a. StepRan ends (flushes_from moment retention a most_refused false 0) old new result) same ran)

pub flushed_keeps : (old new : StoreView) (moment retention last : ℕ) (ask : FlushAsk) (result : Result (Option FlushFault) SlateDBError) → IsWriter old → IsLawful old.who.merge → Keeps old.who.merge old.world → MayAsk ask → last_name old.world.store.history ≤ last
    → StepRan ends (flush moment retention last ask) old new result → Keeps new.who.merge new.world
flushed_keeps old new moment retention last ask result by merges keeps may names ran = step_keeps ends (flush moment retention last ask) old new result merges keeps (flush_lawful old moment retention last ask merges by keeps may names) ran
