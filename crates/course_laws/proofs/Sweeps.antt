-- A sweep that is alone is a lawful course.
use Rattle.std.proofs.Common.{◌≡◌, ◌≢◌, refl, sym, ◌∙◌, ap, subst, ℕ, List, [], ◌∷◌, ◌++◌, cond, Bool, true, false, Option, Some, None}
use Rattle.std.specs.Prelude.{IsTrue, ◌&&◌, not, map, filter, nat_lt}
use Rattle.std.specs.List.{AllByRecursion}
use Rattle.row_model.specs.Lists.{Pairs}
use Rattle.row_model.specs.Rows.{Row}
use Rattle.fleet_model.specs.Jobs.{contains, is_active, put_id, in_id_order}
use Rattle.fleet_model.specs.History.{Party, Writer, Sweeper, GetManifest, GetRecords, Entry}
use Rattle.fleet_model.specs.Store.{Manifest, Records, Store, stored_jobs, held_tables}
use Rattle.fleet_model.specs.Handles.{named_tables}
use Rattle.fleet_model.specs.Sweeps.{is_unneeded, swept_tables}
use Rattle.fleet_model.specs.Exchanges.{Exchange, Plain, ListsTables, DeletesTable}
use Rattle.fleet_laws.proofs.Sweeps.{sweep_is_exact}
use Rattle.step_model.specs.Past.{World}
use Rattle.step_model.specs.Entries.{party_eq, last_from, is_pending, is_pending_in}
use Rattle.step_model.specs.Lawful.{Lawful}
use Rattle.step_model.specs.LawfulTables.{DeletionFits}
use Rattle.step_model.specs.Rivals.{Caller, after_call}
use Rattle.step_model.specs.Courses.CourseRuns.{IsLawfulCourse}
use Rattle.step_model.specs.Steps.SweepSteps.{deletes_each, sweep}
use Rattle.step_model.specs.Courses.Course.{Course, Ends, Calls}
use Rattle.step_laws.proofs.Elements.{all_from, in_contains, pairs_map}
use Rattle.step_laws.proofs.Held.{held_but}
use Rattle.course_laws.specs.Sweeps.{SweepsAreLawful}
use Rattle.course_laws.proofs.Calls.{pairs_filter}
use Rattle.step_laws.proofs.RanLaws.{only_met}

-- ---- a party that is alone

-- A party that is alone meets what its last call left.
alone_call : {A : Type 0} (who : Caller) (world : World) (x : Exchange) (next : Store → Course A) → who.alone ≡ true → Lawful who.merge who.party world x
    → IsLawfulCourse who (after_call who.line who.party x None world) (next world.store) → IsLawfulCourse who world (Calls x next)
alone_call who world x next alone lawful rest = λ met rivals room.
    subst (λ (t : World). Lawful who.merge who.party t x × IsLawfulCourse who (after_call who.line who.party x None t) (next t.store)) (only_met who world met alone rivals) (lawful, rest)

-- ---- the order of ids

pub all_put : (P : ℕ → Type 0) (id : ℕ) (ids : List ℕ) → P id → AllByRecursion P ids → AllByRecursion P (put_id id ids)
all_put P id [] one all = (one, tt)
all_put P id (other ∷ ids) one all = by (nat_lt id other) (all_put P id ids one all.1)
  where
    by : (b : Bool) → AllByRecursion P (put_id id ids) → AllByRecursion P (cond b (id ∷ other ∷ ids) (other ∷ put_id id ids))
    by true rest = (one, all)
    by false rest = (all.0, rest)

differ_put : (id : ℕ) (ids : List ℕ) → AllByRecursion (λ n. id ≢ n) ids → Pairs (λ a b. a ≢ b) ids → Pairs (λ a b. a ≢ b) (put_id id ids)
differ_put id [] differs pairs = (tt, tt)
differ_put id (other ∷ ids) differs pairs = by (nat_lt id other) (differ_put id ids differs.1 pairs.1)
  where
    by : (b : Bool) → Pairs (λ a b. a ≢ b) (put_id id ids) → Pairs (λ a b. a ≢ b) (cond b (id ∷ other ∷ ids) (other ∷ put_id id ids))
    by true rest = (differs, pairs)
    by false rest = (all_put (λ n. other ≢ n) id ids (λ same. differs.0 (sym same)) pairs.0, rest)

pub all_ordered : (P : ℕ → Type 0) (ids : List ℕ) → AllByRecursion P ids → AllByRecursion P (in_id_order ids)
all_ordered P [] all = tt
all_ordered P (id ∷ ids) all = all_put P id (in_id_order ids) all.0 (all_ordered P ids all.1)

differ_ordered : (ids : List ℕ) → Pairs (λ a b. a ≢ b) ids → Pairs (λ a b. a ≢ b) (in_id_order ids)
differ_ordered [] pairs = tt
differ_ordered (id ∷ ids) pairs = differ_put id (in_id_order ids) (all_ordered (λ n. id ≢ n) ids pairs.0) (differ_ordered ids pairs.1)

-- A sweep deletes each table once.
swept_differ : (pins : List ℕ) (store : Store) → Pairs (λ a b. a.0 ≢ b.0) store.tables → Pairs (λ a b. a ≢ b) (swept_tables pins store)
swept_differ pins store once =
    differ_ordered (filter (is_unneeded store.manifest.trees (stored_jobs store) pins) (map (λ (table : ℕ × List Row). table.0) (held_tables store)))
    (pairs_filter (λ a b. a ≢ b) (is_unneeded store.manifest.trees (stored_jobs store) pins) (map (λ (table : ℕ × List Row). table.0) (held_tables store))
    (pairs_map (λ a b. a.0 ≢ b.0) (λ a b. a ≢ b) (λ (table : ℕ × List Row). table.0) (held_tables store) (λ x y one other differs. differs)
    (pairs_filter (λ a b. a.0 ≢ b.0) (λ (table : ℕ × List Row). not (contains store.deleted table.0)) store.tables once)))

-- ---- what no sweeper's call changes

-- Another party's last entry is not the new one.
pub last_other : (party : Party) (history : List Entry) (entry : Entry) (last : Option Entry) → party_eq party entry.party ≡ false → last_from last party (history ++ entry ∷ []) ≡ last_from last party history
last_other party [] entry last other = ap (λ b. cond b (Some entry) last) other
last_other party (first ∷ history) entry last other = last_other party history entry (cond (party_eq party first.party) (Some first) last) other

-- No flush is about to bring a table to a tree.
abbrev pub NonePending : Store → Type 0
NonePending store = (table : ℕ) → is_pending store.history table ≡ false

pending_on : (history : List Entry) (entry : Entry) (table : ℕ) → entry.party ≡ Sweeper → is_pending history table ≡ false → is_pending (history ++ entry ∷ []) table ≡ false
pending_on history entry table by none = ap (is_pending_in table) (last_other Writer history entry None (ap (party_eq Writer) by)) ∙ none

fits_on : (who : Caller) (world : World) (gone table : ℕ) → who.party ≡ Sweeper → gone ≢ table → DeletionFits who.party world.store table → DeletionFits who.party (after_call who.line who.party (DeletesTable gone) None world).store table
fits_on who world gone table by other fits =
    let still = held_but world.store gone table other fits.held in
    record {
      by = by;
      held = still;
      unnamed = fits.unnamed;
      not_pending = pending_on world.store.history _ table by fits.not_pending;
    }

-- Deletions of different tables are a lawful course of a sweeper that is alone, if each is lawful now and the rest is.
deletes_lawful : {A : Type 0} (who : Caller) (next : Course A) (tables : List ℕ) (world : World) → who.alone ≡ true → who.party ≡ Sweeper → AllByRecursion (DeletionFits who.party world.store) tables → Pairs (λ a b. a ≢ b) tables
    → ((new : World) → IsLawfulCourse who new next) → IsLawfulCourse who world (deletes_each tables next)
deletes_lawful who next [] world alone by fits differ rest = rest world
deletes_lawful who next (table ∷ tables) world alone by fits differ rest =
    alone_call who world (DeletesTable table) (λ met. deletes_each tables next) alone fits.0
    (deletes_lawful who next tables (after_call who.line who.party (DeletesTable table) None world) alone by
    (both tables fits.1 differ.0) differ.1 rest)
  where
    both : (ts : List ℕ) → AllByRecursion (DeletionFits who.party world.store) ts → AllByRecursion (λ t. table ≢ t) ts → AllByRecursion (DeletionFits who.party (after_call who.line who.party (DeletesTable table) None world).store) ts
    both [] all others = tt
    both (t ∷ ts) all others = (fits_on who world table t by others.0 all.0, both ts all.1 others.1)

-- ---- the sweep

parts : (a b : Bool) → IsTrue (not a && not b) → a ≡ false
parts false b h = refl
parts true b h = absurd (cc h)

swept_fits : (party : Party) (store : Store) (pins : List ℕ) → party ≡ Sweeper → NonePending store → AllByRecursion (DeletionFits party store) (swept_tables pins store)
swept_fits party store pins by none = all_from _ (swept_tables pins store) (λ table there.
    let exact = (sweep_is_exact pins store table).0 (in_contains (swept_tables pins store) table there) in
    record {
      by = by;
      held = exact.0;
      unnamed = parts (contains (named_tables store.manifest.trees (filter is_active (stored_jobs store))) table) _ exact.1;
      not_pending = none table;
    })

-- The sweep after its list, after its second get and after its first get.
abbrev after_list : List ℕ → Manifest → Option Records → Store → Course (List ℕ)
after_list pins manifest records met = let tables = swept_tables pins (record met { manifest = manifest; records = records }) in deletes_each tables (Ends tables)

abbrev after_records : List ℕ → Manifest → Store → Course (List ℕ)
after_records pins manifest met = Calls ListsTables (after_list pins manifest met.records)

abbrev after_manifest : List ℕ → Store → Course (List ℕ)
after_manifest pins met = Calls (Plain GetRecords) (after_records pins met.manifest)

-- A sweep that is alone is a lawful course, if the invariant is met and no flush is about to bring a table to a tree.
pub sweeps_are_lawful : SweepsAreLawful
unfolding sweep
sweeps_are_lawful who world pins alone by kept none =
    let first = after_call who.line who.party (Plain GetManifest) None world in
    let second = after_call who.line who.party (Plain GetRecords) None first in
    let third = after_call who.line who.party ListsTables None second in
    alone_call {A = List ℕ} who world (Plain GetManifest) (after_manifest pins) alone tt
    (alone_call {A = List ℕ} who first (Plain GetRecords) (after_records pins world.store.manifest) alone tt
    (alone_call {A = List ℕ} who second ListsTables (after_list pins world.store.manifest world.store.records) alone tt
    (deletes_lawful {A = List ℕ} who (Ends (swept_tables pins third.store)) (swept_tables pins third.store) third alone by
    (swept_fits who.party third.store pins by (λ table. pending_on second.store.history _ table by (pending_on first.store.history _ table by (pending_on world.store.history _ table by (none table)))))
    (swept_differ pins third.store kept.stored.sound.table_ids) (λ new. tt))))
