-- A flush is a lawful course.
use Rattle.std.proofs.Common.{◌≡◌, ◌≢◌, refl, sym, ◌∙◌, ap, subst, ℕ, zero, suc, ◌+◌, ◌<◌, ◌≤◌, ℤ, pos, negsuc, List, [], ◌∷◌, ◌++◌, cond, Bool, true, false, inl, inr, Option, Some, None, arith}
use Rattle.std.specs.Prelude.{IsTrue, ◌==◌, ◌&&◌, not, nat_lt, nat_le, int_lt, int_le, max, ⊤}
use Rattle.std.specs.List.{AllByRecursion, list_all}
use Rattle.std.specs.List.Sorted.{IsStrictlySortedBy}
use Rattle.std.specs.declared.cmp.Ordering.TheVariants.{Less}
use Rattle.std.specs.Ordering.{is_lt}
use Rattle.std.proofs.lemmas.Bool.Decides.{Decides-eqb}
use Rattle.std.proofs.lemmas.Bool.{ltb-true, ltb-false, leb-false, le-leb}
use Rattle.row_model.specs.Rows.{Row, row_cmp, are_ordered, IsStrictlyOrdered}
use Rattle.row_model.specs.Fold.{Operator}
use Rattle.row_laws.proofs.Order.{row_total}
use Rattle.row_laws.proofs.ApartRows.{lt_is}
use Rattle.row_laws.proofs.Elements.{all_weaken}
use Rattle.fleet_model.specs.Nodes.{is_among, table_rows, segment_at, last_seq_of}
use Rattle.fleet_model.specs.Jobs.{drawn_base}
use Rattle.fleet_model.specs.History.{Party, Writer, Event, GetManifest, PutTable, PutManifest, ManifestEpoch, Flush, Commit, Entry, Done, Conflict, stood}
use Rattle.fleet_model.specs.Store.{Manifest}
use Rattle.fleet_model.specs.Tracker.{tracked_after, least_seq_of}
use Rattle.fleet_model.specs.Trees.{flushed_trees}
use Rattle.fleet_model.specs.Invariants.TreesFit.{IsTable}
use Rattle.fleet_model.specs.Exchanges.{Exchange, Plain, DrawsJob, DrawsTable, PutsTable, PutsManifest, PutsRecords, ListsTables, DeletesTable, event_of}
use Rattle.step_model.specs.Past.{World}
use Rattle.step_model.specs.Entries.{last_name, name_in, was_flushed, is_flush_of, tables_brought_in}
use Rattle.step_model.specs.Kept.TablesKept.{IsKnownTable}
use Rattle.step_model.specs.Lawful.{Lawful}
use Rattle.step_model.specs.LawfulTables.{TableFits, MayName}
use Rattle.step_model.specs.LawfulManifests.{FlushFits, IsAbove}
use Rattle.step_model.specs.Rivals.{Caller, Strike, Rivals, after_call, is_deletion}
use Rattle.step_model.specs.Kept.Keeps.{Keeps}
use Rattle.step_model.specs.Courses.CourseRuns.{IsLawfulCourse}
use Rattle.step_model.specs.Steps.FlushSteps.{FlushAsk, fault_before_get, fault_after_get, is_above, unless_bad, with_flush, puts_unless_put, flushes_from, flush}
use Rattle.step_model.specs.Courses.StepEnds.{StepEnd, Reports, FlushFault, BadName, BadSegment, BadOrder, BadSequence, BadFloor, BadTick, most_refused}
use Rattle.step_model.specs.Courses.Course.{Course, Ends, puts_manifest}
use Rattle.step_laws.specs.Runs.{CallsKeep}
use Rattle.step_laws.proofs.Runs.{rivals_keep}
use Rattle.step_laws.proofs.Elements.{all_at, all_to, all_true_front, any_push_no, any_element, Passes}
use Rattle.course_laws.specs.Flushes.{MayAsk, FlushesAreLawful}
use Rattle.course_laws.proofs.Later.{Later, later_itself, later_then, later_by, rivals_later, later_met, entry_by, answer_by, call_history}
use Rattle.course_laws.proofs.Calls.{keeps_after, rivals_hold, both}
use Rattle.course_laws.proofs.Stood.{unless_both, stood_version}
use Rattle.course_laws.proofs.Held.{HasRows, call_rows, put_has_rows, drawn_is_high}
use Rattle.step_laws.proofs.TablePuts.{last_drawn}
use Rattle.rival_laws.proofs.FreeTables.{refused}

-- ---- the faults

-- If each row is before the next one, the rows are strictly ordered.
ordered_of_test : (rows : List Row) → are_ordered rows ≡ true → IsStrictlyOrdered rows
unfolding IsStrictlySortedBy
ordered_of_test [] h = tt
ordered_of_test (r ∷ []) h = (tt, tt)
ordered_of_test (r ∷ q ∷ rows) h =
    let parts = both (is_lt (row_cmp r q)) (are_ordered (q ∷ rows)) h in
    let first : row_cmp r q ≡ Less = lt_is (row_cmp r q) parts.0 in
    let rest : IsStrictlyOrdered (q ∷ rows) = ordered_of_test (q ∷ rows) parts.1 in
    ((first, all_weaken (λ x. row_cmp q x ≡ Less) (λ x. row_cmp r x ≡ Less) (λ x after. row_total.trans r q x first after) rows rest.0), rest)

three_before : (a b c : Bool) → cond a (Some BadName) (cond (not b) (Some BadSegment) (cond (not c) (Some BadOrder) None)) ≡ None → (a ≡ false) × (c ≡ true)
three_before true b c h = absurd (cc h)
three_before false false c h = absurd (cc h)
three_before false true false h = absurd (cc h)
three_before false true true h = (refl, refl)

-- The flush has a new name and its rows are a table.
record IsSoundFlush (last : ℕ) (ask : FlushAsk) : Type 0 where
  newer : last < ask.name
  table : IsTable ask.rows
  is_name : ask.name < drawn_base

sound_flush : (last : ℕ) (ask : FlushAsk) → MayAsk ask → fault_before_get last ask ≡ None → IsSoundFlush last ask
sound_flush last ask may none =
    let tests = three_before (nat_le ask.name last) _ (are_ordered ask.rows) none in
    record {
      newer = leb-false ask.name last tests.0;
      table = record { some = may.some; ordered = ordered_of_test ask.rows tests.1; bounds = may.bounds };
      is_name = may.is_name;
    }

three_after : (a b c : Bool) → cond (not a) (Some BadSequence) (cond b (Some BadFloor) (cond c (Some BadTick) None)) ≡ None → (a ≡ true) × ((b ≡ false) × (c ≡ false))
three_after false b c h = absurd (cc h)
three_after true true c h = absurd (cc h)
three_after true false true h = absurd (cc h)
three_after true false false h = (refl, (refl, refl))

pub tick_rises : (a b : ℤ) → int_lt a b ≡ false → IsTrue (int_le b a)
tick_rises (pos a) (pos b) h = le-leb b a (ltb-false a b h)
tick_rises (pos a) (negsuc b) h = refl
tick_rises (negsuc a) (pos b) h = absurd (cc h)
tick_rises (negsuc a) (negsuc b) h = le-leb a b (ltb-false b a h)

is_above_all : (last : Option ℕ) (rows : List Row) → list_all (λ r. is_above last r.seq) rows ≡ true → AllByRecursion (λ r. IsAbove last r.seq) rows
is_above_all last rows h = all_to _ _ rows (λ r there one. at last r one) (all_true_front (λ (r : Row). is_above last r.seq) rows h)
  where
    at : (last : Option ℕ) (r : Row) → IsTrue (is_above last r.seq) → IsAbove last r.seq
    at None r one = tt
    at (Some seq) r one = ltb-true seq r.seq one

-- ---- the put of the table

-- No flush has used the name.
abbrev IsUnused : FlushAsk → World → Type 0
IsUnused ask world = last_name world.store.history < ask.name

-- No table has the name of a flush that is above all names that flushes have used.
not_among : (merge : Operator) (ask : FlushAsk) (world : World) → Keeps merge world → ask.name < drawn_base → IsUnused ask world → is_among world.store.tables ask.name ≡ false
not_among merge ask world kept low unused = by (is_among world.store.tables ask.name) refl
  where
    never : (id : ℕ) → id ≡ ask.name → IsKnownTable world.store.history id → ⊥
    never id same (inl drawn) = drawn_is_high merge world id kept drawn (omega (arith, same, low))
    never id same (inr small) = omega (arith, same, small, unused)

    at : Passes (λ (table : ℕ × List Row). table.0 == ask.name) world.store.tables → ⊥
    at found = never found.element.0 ((Decides-eqb found.element.0 ask.name).0 found.passes) (all_at (λ (table : ℕ × List Row). IsKnownTable world.store.history table.0) world.store.tables found.element kept.facts.puts.known found.there)

    by : (b : Bool) → is_among world.store.tables ask.name ≡ b → b ≡ false
    by true e = absurd (at (any_element (λ (table : ℕ × List Row). table.0 == ask.name) world.store.tables e))
    by false e = refl

-- A name under which no table was put was never flushed.
pub not_flushed : (merge : Operator) (name : ℕ) (world : World) → Keeps merge world → is_among world.store.tables name ≡ false → was_flushed world.store.history name ≡ false
not_flushed merge name world kept new = by (was_flushed world.store.history name) refl
  where
    brings : (event : Event) (took : Bool) → (is_flush_of name event && took) ≡ true → AllByRecursion (λ id. IsTrue (is_among world.store.tables id)) (tables_brought_in took event) → ⊥
    brings (PutManifest (Flush other segment floor tick)) true e all = refused (is_among world.store.tables name) new (subst (λ n. IsTrue (is_among world.store.tables n)) (sym ((Decides-eqb name other).0 (both _ true e).0)) all.0)
    brings event false e all = absurd (cc ((both (is_flush_of name event) false e).1))
    brings event true e all = absurd (cc e)

    at : Passes (λ (entry : Entry). is_flush_of name entry.event && stood entry.answer) world.store.history → ⊥
    at found = brings found.element.event (stood found.element.answer) found.passes (all_at _ world.store.history found.element kept.facts.puts.brought found.there)

    by : (b : Bool) → was_flushed world.store.history name ≡ b → b ≡ false
    by true e = absurd (at (any_element (λ (entry : Entry). is_flush_of name entry.event && stood entry.answer) world.store.history e))
    by false e = refl

table_fits : (merge : Operator) (party : Party) (last : ℕ) (ask : FlushAsk) (world : World) → party ≡ Writer → Keeps merge world → IsSoundFlush last ask → IsUnused ask world → TableFits party world.store ask.name ask.rows
table_fits merge party last ask world by kept sound unused = record {
  sound = sound.table;
  new = not_among merge ask world kept sound.is_name unused;
  named = inr (by, unused, sound.is_name);
}

-- ---- names stay unused

last_name_push : (history : List Entry) (entry : Entry) → last_name (history ++ entry ∷ []) ≡ max (last_name history) (name_in entry.event)
last_name_push [] entry = omega arith
last_name_push (first ∷ history) entry = let rest = last_name_push history entry in omega (arith, rest)

unused_on : (ask : FlushAsk) (line : ℕ) (party : Party) (x : Exchange) (strike : Strike) (world : World) → name_in (event_of x world.store) ≡ 0 → IsUnused ask world → IsUnused ask (after_call line party x strike world)
unused_on ask line party x strike world none unused =
    subst (λ (history : List Entry). last_name history < ask.name) (sym (call_history line party x strike world.store))
    (let push = last_name_push world.store.history (entry_by line party x strike world.store) in omega (arith, push, none, unused))

-- Only the writer uses names of flushes.
names_none : (merge : Operator) (party : Party) (world : World) (x : Exchange) → party ≢ Writer → Keeps merge world → Lawful merge party world x → name_in (event_of x world.store) ≡ 0
names_none merge party world (PutsTable table rows) other kept lawful = by lawful.named
  where
    by : MayName party world.store.history table → name_in (PutTable table 0) ≡ 0
    by (inr own) = absurd (other own.0)
    by (inl drew) = test (nat_lt table drawn_base) refl
      where
        test : (b : Bool) → nat_lt table drawn_base ≡ b → cond b table 0 ≡ 0
        test true e = absurd (drawn_is_high merge world table kept (last_drawn party table world.store.history drew) (ltb-true table drawn_base e))
        test false e = refl
names_none merge party world (Plain (PutTable table rows)) other kept lawful = absurd lawful
names_none merge party world (Plain event) other kept lawful = refl
names_none merge party world (DrawsJob moment) other kept lawful = refl
names_none merge party world (DrawsTable moment) other kept lawful = refl
names_none merge party world (PutsManifest version change value) other kept lawful = refl
names_none merge party world (PutsRecords version change epoch jobs) other kept lawful = refl
names_none merge party world ListsTables other kept lawful = refl
names_none merge party world (DeletesTable table) other kept lawful = refl

rivals_unused : (who : Caller) (ask : FlushAsk) (old new : World) → CallsKeep who.merge → who.party ≡ Writer → Keeps who.merge old → Rivals who old new → IsUnused ask old → IsUnused ask new
rivals_unused who ask old new keep by kept rivals unused =
    rivals_hold who (IsUnused ask) keep (λ world call there rival one. unused_on ask call.line call.party call.exchange call.strike world (names_none who.merge call.party world call.exchange (λ same. rival.other (same ∙ sym by)) there rival.lawful) one)
    old new kept rivals unused

-- ---- the table is put and waits for the put of the manifest

-- The table of the flush is held, and no flush of the name took effect.
record IsPut (ask : FlushAsk) (world : World) : Type 0 where
  there : HasRows ask.name ask.rows world.store
  once : was_flushed world.store.history ask.name ≡ false

-- Only the writer flushes.
flushes_none : (merge : Operator) (party : Party) (world : World) (x : Exchange) (strike : Strike) (name : ℕ) → party ≢ Writer → Lawful merge party world x → (is_flush_of name (event_of x world.store) && stood (answer_by x strike world.store)) ≡ false
flushes_none merge party world (PutsManifest version (Flush other segment floor tick) value) strike name not_writer lawful =
    unless_both _ _ (λ same took. not_writer (lawful (stood_version strike world.store version (Flush other segment floor tick) value took)).by)
flushes_none merge party world (PutsManifest version (ManifestEpoch epoch) value) strike name not_writer lawful = refl
flushes_none merge party world (PutsManifest version (Commit steps) value) strike name not_writer lawful = refl
flushes_none merge party world (Plain (PutManifest change)) strike name not_writer lawful = absurd lawful
flushes_none merge party world (Plain event) strike name not_writer lawful = refl
flushes_none merge party world (DrawsJob moment) strike name not_writer lawful = refl
flushes_none merge party world (DrawsTable moment) strike name not_writer lawful = refl
flushes_none merge party world (PutsTable table rows) strike name not_writer lawful = refl
flushes_none merge party world (PutsRecords version change epoch jobs) strike name not_writer lawful = refl
flushes_none merge party world ListsTables strike name not_writer lawful = refl
flushes_none merge party world (DeletesTable table) strike name not_writer lawful = refl

put_on : (ask : FlushAsk) (line : ℕ) (party : Party) (x : Exchange) (strike : Strike) (world : World) → is_deletion x ≡ false → (is_flush_of ask.name (event_of x world.store) && stood (answer_by x strike world.store)) ≡ false
    → IsPut ask world → IsPut ask (after_call line party x strike world)
put_on ask line party x strike world none fails h = record {
  there = call_rows line party x strike world.store ask.name ask.rows none h.there;
  once = ap (λ (history : List Entry). was_flushed history ask.name) (call_history line party x strike world.store)
      ∙ any_push_no (λ (entry : Entry). is_flush_of ask.name entry.event && stood entry.answer) world.store.history (entry_by line party x strike world.store) fails ∙ h.once;
}

rivals_put : (who : Caller) (ask : FlushAsk) (old new : World) → CallsKeep who.merge → who.party ≡ Writer → Keeps who.merge old → Rivals who old new → IsPut ask old → IsPut ask new
rivals_put who ask old new keep by kept rivals h =
    rivals_hold who (IsPut ask) keep (λ world call there rival one. put_on ask call.line call.party call.exchange call.strike world rival.deletes_none
    (flushes_none who.merge call.party world call.exchange call.strike ask.name (λ same. rival.other (same ∙ sym by)) rival.lawful) one) old new kept rivals h

-- After the put of its table a flush waits.
is_put_after : (merge : Operator) (line : ℕ) (party : Party) (last : ℕ) (ask : FlushAsk) (world : World) → Keeps merge world → IsSoundFlush last ask → IsUnused ask world → IsPut ask (after_call line party (PutsTable ask.name ask.rows) None world)
is_put_after merge line party last ask world kept sound unused =
    let new = not_among merge ask world kept sound.is_name unused in
    record {
      there = put_has_rows line party world.store ask.name ask.rows kept.stored.sound.deleted new;
      once = ap (λ (history : List Entry). was_flushed history ask.name) (call_history line party (PutsTable ask.name ask.rows) None world.store)
          ∙ any_push_no (λ (entry : Entry). is_flush_of ask.name entry.event && stood entry.answer) world.store.history (entry_by line party (PutsTable ask.name ask.rows) None world.store) refl
          ∙ not_flushed merge ask.name world kept new;
    }

-- ---- the put of the manifest

-- A flush's put of the manifest is lawful, if its table is put, it has no fault, and the version that it got is stored.
flush_fits : (party : Party) (moment retention : ℕ) (ask : FlushAsk) (m p : World) → party ≡ Writer → ask.name < drawn_base → Later m p → IsPut ask p → fault_after_get m.store.manifest ask ≡ None
    → m.store.manifest.version ≡ p.store.manifest.version → FlushFits party p ask.name ask.segment ask.floor ask.tick (with_flush moment retention ask m.store.manifest)
flush_fits party moment retention ask m p by low later put none version =
    let same = later.manifest.same version in
    let tests = three_after _ (nat_lt ask.floor m.store.manifest.floor) (int_lt ask.tick m.store.manifest.tick) none in
    record {
      by = by;
      held = put.there.held;
      is_name = low;
      once = put.once;
      newer = subst (λ (x : Manifest). AllByRecursion (λ r. IsAbove (last_seq_of (segment_at ask.segment x.trees)) r.seq) (table_rows p.store.tables ask.name)) (sym same)
          (subst (AllByRecursion (λ r. IsAbove (last_seq_of (segment_at ask.segment m.store.manifest.trees)) r.seq)) (sym put.there.same)
          (is_above_all (last_seq_of (segment_at ask.segment m.store.manifest.trees)) ask.rows tests.0));
      floor_stays = subst (λ (x : Manifest). x.floor ≤ ask.floor) (sym same) (ltb-false ask.floor m.store.manifest.floor tests.1.0);
      tick_stays = subst (λ (x : Manifest). IsTrue (int_le x.tick ask.tick)) (sym same) (tick_rises ask.tick m.store.manifest.tick tests.1.1);
      moment = moment;
      retention = retention;
      makes = ap (with_flush moment retention ask) (sym same) ∙ ap (brought p.store.manifest) (sym put.there.same);
    }
  where
    brought : Manifest → List Row → Manifest
    brought manifest rows = record manifest {
      trees = flushed_trees ask.segment ask.name rows manifest.trees;
      floor = ask.floor;
      tick = ask.tick;
      tracker = tracked_after moment retention (least_seq_of rows) manifest.tracker;
    }

-- ---- tries

-- Another try of the flush is a lawful course where its table is put.
abbrev Tries : Caller → FlushAsk → (ℕ → Course (StepEnd ⊤)) → Type 0
Tries who ask again = (version : ℕ) (world : World) → Keeps who.merge world → IsPut ask world → IsLawfulCourse who world (again version)

-- The put of the manifest.
abbrev put_of : ℕ → ℕ → FlushAsk → Manifest → Exchange
put_of moment retention ask manifest = PutsManifest manifest.version (Flush ask.name ask.segment ask.floor ask.tick) (with_flush moment retention ask manifest)

-- Once a flush has put the manifest, it ends or makes another try, and is a lawful course if this try is.
ends : (who : Caller) (moment retention : ℕ) (ask : FlushAsk) (again : ℕ → Course (StepEnd ⊤)) (m p : World) → Tries who ask again → IsPut ask p
    → Keeps who.merge (after_call who.line who.party (put_of moment retention ask m.store.manifest) None p) → (b : Bool) → (m.store.manifest.version == p.store.manifest.version) ≡ b
    → IsLawfulCourse who (after_call who.line who.party (put_of moment retention ask m.store.manifest) None p) (cond b (Ends (Reports tt)) (again p.store.manifest.version))
ends who moment retention ask again m p tries put kept true e = tt
ends who moment retention ask again m p tries put kept false e =
    tries p.store.manifest.version _ kept
    (put_on ask who.line who.party (put_of moment retention ask m.store.manifest) None p refl (unless_both _ _ (λ same took. by (m.store.manifest.version == p.store.manifest.version) e took)) put)
  where
    by : (b : Bool) → b ≡ false → stood (cond b (Done (p.store.manifest.version + 1)) (Conflict p.store.manifest.version)) ≡ true → ⊥
    by true e took = absurd (cc e)
    by false e took = absurd (cc took)

-- Once the table is put, the put of the manifest and what comes after it are lawful.
manifest_put : (who : Caller) (moment retention : ℕ) (ask : FlushAsk) (again : ℕ → Course (StepEnd ⊤)) → CallsKeep who.merge → who.party ≡ Writer → ask.name < drawn_base → Tries who ask again
    → (m world : World) → Later m world → fault_after_get m.store.manifest ask ≡ None → Keeps who.merge world → IsPut ask world
    → IsLawfulCourse who world (puts_manifest m.store.manifest.version (Flush ask.name ask.segment ask.floor ask.tick) (with_flush moment retention ask m.store.manifest) (Ends (Reports tt)) again)
manifest_put who moment retention ask again keep by low tries m world later none kept put = λ p rivals room.
    let there = rivals_keep who world p keep kept rivals in
    let still = rivals_put who ask world p keep by kept rivals put in
    let lawful : Lawful who.merge who.party p (put_of moment retention ask m.store.manifest) = λ version. flush_fits who.party moment retention ask m p by low (later_then m world p later (rivals_later who world p rivals)) still none version in
    (lawful, ends who moment retention ask again m p tries still (keeps_after who (put_of moment retention ask m.store.manifest) p keep there lawful) (m.store.manifest.version == p.store.manifest.version) refl)

-- The table is put, or it may be put, by the flag.
abbrev State : Bool → FlushAsk → World → Type 0
State true ask world = IsPut ask world
State false ask world = IsUnused ask world

-- Once a flush has got the manifest, its puts are a lawful course, if another try is.
over : (who : Caller) (moment retention last : ℕ) (ask : FlushAsk) (again : ℕ → Course (StepEnd ⊤)) → CallsKeep who.merge → who.party ≡ Writer → IsSoundFlush last ask → Tries who ask again → (is_put : Bool)
    → (m : World) → Keeps who.merge m → State is_put ask m → (fault : Option FlushFault) → fault_after_get m.store.manifest ask ≡ fault
    → IsLawfulCourse who (after_call who.line who.party (Plain GetManifest) None m) (unless_bad fault (puts_unless_put is_put ask (
    puts_manifest m.store.manifest.version (Flush ask.name ask.segment ask.floor ask.tick) (with_flush moment retention ask m.store.manifest) (Ends (Reports tt)) again)))
over who moment retention last ask again keep by sound tries is_put m kept state (Some fault) e = tt
over who moment retention last ask again keep by sound tries true m kept state None e =
    manifest_put who moment retention ask again keep by sound.is_name tries m _ (later_by who.line who.party (Plain GetManifest) None m) e (keeps_after who (Plain GetManifest) m keep kept tt)
    (put_on ask who.line who.party (Plain GetManifest) None m refl refl state)
over who moment retention last ask again keep by sound tries false m kept state None e = λ t rivals room.
    let there = keeps_after who (Plain GetManifest) m keep kept tt in
    let unused = rivals_unused who ask (after_call who.line who.party (Plain GetManifest) None m) t keep by there rivals (unused_on ask who.line who.party (Plain GetManifest) None m refl state) in
    let kept_there = rivals_keep who (after_call who.line who.party (Plain GetManifest) None m) t keep there rivals in
    let lawful = table_fits who.merge who.party last ask t by kept_there sound unused in
    let later = later_met who (Plain GetManifest) m m t (later_itself m) rivals in (
      lawful,
      manifest_put who moment retention ask again keep by sound.is_name tries m _ (later_then m t _ later (later_by who.line who.party (PutsTable ask.name ask.rows) None t)) e
          (keeps_after who (PutsTable ask.name ask.rows) t keep kept_there lawful) (is_put_after who.merge who.line who.party last ask t kept_there sound unused),
    )

rivals_state : (who : Caller) (is_put : Bool) (ask : FlushAsk) (old new : World) → CallsKeep who.merge → who.party ≡ Writer → Keeps who.merge old → Rivals who old new → State is_put ask old → State is_put ask new
rivals_state who true ask old new keep by kept rivals h = rivals_put who ask old new keep by kept rivals h
rivals_state who false ask old new keep by kept rivals h = rivals_unused who ask old new keep by kept rivals h

flush_tries : (who : Caller) (moment retention last : ℕ) (ask : FlushAsk) → CallsKeep who.merge → who.party ≡ Writer → IsSoundFlush last ask → (left : ℕ) (is_put : Bool) (seen : ℕ) (world : World) → Keeps who.merge world
    → State is_put ask world → IsLawfulCourse who world (flushes_from moment retention ask left is_put seen)
flush_tries who moment retention last ask keep by sound zero is_put seen world kept state = tt
flush_tries who moment retention last ask keep by sound (suc left) is_put seen world kept state = λ m rivals room. (
  tt,
  over who moment retention last ask (flushes_from moment retention ask left true) keep by sound (λ version next there put. flush_tries who moment retention last ask keep by sound left true version next there put) is_put
      m (rivals_keep who world m keep kept rivals) (rivals_state who is_put ask world m keep by kept rivals state) (fault_after_get m.store.manifest ask) refl,
)

pub flushes_are_lawful : FlushesAreLawful
unfolding flush
flushes_are_lawful who world moment retention last ask keep kept by may names = at (fault_before_get last ask) refl
  where
    at : (fault : Option FlushFault) → fault_before_get last ask ≡ fault → IsLawfulCourse who world (unless_bad fault (flushes_from moment retention ask most_refused false 0))
    at (Some fault) e = tt
    at None e =
        let sound = sound_flush last ask may e in
        let newer = sound.newer in
        flush_tries who moment retention last ask keep by sound most_refused false 0 world kept (omega (arith, newer, names))
