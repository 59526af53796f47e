-- The tables of a finish whose attempt is not live are named by nothing.
use Rattle.std.proofs.Common.{◌≡◌, ◌≢◌, refl, sym, ◌∙◌, ap, subst, ℕ, List, [], ◌∷◌, ◌++◌, Bool, true, false, inl, inr, ◌⊎◌}
use Rattle.std.specs.Prelude.{codes, nat_eq, IsTrue, ◌==◌, filter, flat_map}
use Rattle.std.specs.List.{AllByRecursion, starts_with}
use Rattle.std.proofs.lemmas.Bool.Decides.{Decides-eqb}
use Rattle.row_model.specs.Lists.{Pairs}
use Rattle.row_model.specs.Rows.{Row}
use Rattle.row_model.specs.Fold.{Operator}
use Rattle.fleet_model.specs.Nodes.{Tables, Node, Segment, is_among}
use Rattle.fleet_model.specs.Jobs.{Job, contains, is_active}
use Rattle.fleet_model.specs.Store.{Store, stored_jobs, is_held, AreHeld}
use Rattle.fleet_model.specs.Handles.{tree_tables, job_tables, named_tables}
use Rattle.fleet_model.specs.Invariants.Invariant.{StoreInvariant, JobTablesHeld}
use Rattle.step_laws.proofs.Elements.{IsIn, all_at, all_from, in_append, in_back, contains_in, any_element, all_true_front}
use Rattle.step_laws.proofs.Held.{held_put}
use Rattle.rival_laws.proofs.WorkerRecords.{from_flat}
use Rattle.course_laws.proofs.Calls.{filtered}
use Rattle.script_model.specs.Script.{FinishJob}
use Rattle.script_model.specs.Lines.Settles.{is_ok}
use Rattle.line_laws.specs.States.{StateKeeps}
use Rattle.line_laws.specs.Lines.Refused.{HasPutTables, CalledBack, NotOwned, Replied, IsDone, HasNoParty, IsStruck, IsRefused}
use Rattle.line_laws.specs.Lines.UnnamedTables.{IsUnnamed, PutUnnamed, UnownedTablesAreUnnamed}
use Rattle.line_laws.proofs.RefusedLines.{refusals_leave}
use Rattle.line_laws.proofs.Scripts.{course_leads}

-- A held table was put.
held_one : (store : Store) (tables : List ℕ) (id : ℕ) → AreHeld store tables → IsIn id tables → IsTrue (is_among store.tables id)
held_one store tables id held there = held_put store id (all_at (λ (t : ℕ). IsTrue (is_held store t)) tables id (all_true_front (is_held store) tables held) there)

-- Whatever a store names was put.
named_put : (merge : Operator) (store : Store) (id : ℕ) → StoreInvariant merge store → IsIn id (named_tables store.manifest.trees (filter is_active (stored_jobs store))) → IsTrue (is_among store.tables id)
named_put merge store id k there = by (in_append id (flat_map tree_tables store.manifest.trees) (flat_map job_tables (filter is_active (stored_jobs store))) there)
  where
    by : IsIn id (flat_map tree_tables store.manifest.trees) ⊎ IsIn id (flat_map job_tables (filter is_active (stored_jobs store))) → IsTrue (is_among store.tables id)
    by (inl one) =
        let (s, (at, in_tree)) = from_flat tree_tables store.manifest.trees id one in
        let (node, (among, piece)) = from_flat (λ (node : Node). node.pieces) s.tree id in_tree in
        held_one store node.pieces id (all_at (λ (node : Node). AreHeld store node.pieces) s.tree node (all_at (λ (s : Segment). AllByRecursion (λ (node : Node). AreHeld store node.pieces) s.tree) store.manifest.trees s k.tables.pieces at) among) piece
    by (inr one) =
        let (job, (at, named)) = from_flat job_tables (filter is_active (stored_jobs store)) id one in
        let active = all_at _ (filter is_active (stored_jobs store)) job (filtered is_active (stored_jobs store)) at in
        held_one store (job_tables job) id (all_at (λ (job : Job). IsTrue (is_active job) → JobTablesHeld store job) (stored_jobs store) job k.tables.jobs active.0 active.1).named named

-- An old table has another id than one that was put beside it.
apart : (old made : Tables) (x y : ℕ × List Row) → Pairs (λ (a b : ℕ × List Row). a.0 ≢ b.0) (old ++ made) → IsIn x old → IsIn y made → x.0 ≢ y.0
apart [] made x y pairs one other = absurd one
apart (z ∷ old) made x y pairs (inl same) other = subst (λ (w : ℕ × List Row). w.0 ≢ y.0) same (all_at (λ (b : ℕ × List Row). z.0 ≢ b.0) (old ++ made) y pairs.0 (in_back y old made other))
apart (z ∷ old) made x y pairs (inr one) other = apart old made x y pairs.1 one other

-- The new store names what the old one named, and that was put before.
unnamed : (merge : Operator) (old new : Store) → StoreInvariant merge old → StoreInvariant merge new → (h : HasPutTables old new) → AllByRecursion (λ table. IsUnnamed new table.0) h.made
unnamed merge old new k next h = all_from _ h.made (λ table there. by table there (contains (named new) table.0) refl)
  where
    named : Store → List ℕ
    named store = named_tables store.manifest.trees (filter is_active (stored_jobs store))

    by : (table : ℕ × List Row) → IsIn table h.made → (b : Bool) → contains (named new) table.0 ≡ b → b ≡ false
    by table there false e = refl
    by table there true e =
        let was = subst (IsIn table.0) (ap named h.same) (contains_in (named new) table.0 e) in
        let other = any_element (λ (other : ℕ × List Row). other.0 == table.0) old.tables (named_put merge old table.0 k was) in
        absurd (apart old.tables h.made other.element table (subst (Pairs (λ (a b : ℕ × List Row). a.0 ≢ b.0)) h.beside next.sound.table_ids) other.there there ((Decides-eqb other.element.0 table.0).0 other.passes))

-- The reply says that the attempt is not live.
abbrev says_unowned : List ℕ → Bool
says_unowned answer = starts_with nat_eq answer (codes "notowner")

says_other : (answer : List ℕ) → says_unowned answer ≡ true → says_unowned answer ≡ false → ⊥
says_other answer said other = absurd (cc (sym said ∙ other))

-- The law: neither trees nor records name the tables of a finish whose attempt is not live.
pub unowned_tables_are_unnamed : UnownedTablesAreUnnamed
unowned_tables_are_unnamed inputs old new n job answer c said = by (refusals_leave inputs c.number old (FinishJob n job) answer new c.course).replied
  where
    k : StateKeeps inputs.merge new
    k = (course_leads inputs c.number old (FinishJob n job) answer new c.lawful tt c.course).keeps c.had_room c.keeps

    refused : CalledBack n job old answer new ⊎ NotOwned n job old answer new → PutUnnamed old.store new.store
    refused (inl r) = absurd (says_other answer (ap says_unowned said) (ap says_unowned r.printed))
    refused (inr r) = record { made = r.store.made; beside = r.store.beside; unnamed = unnamed inputs.merge old.store new.store c.keeps.fleet.store.stored k.fleet.store.stored r.store }

    by : Replied c.number (FinishJob n job) c.course.course old answer new → PutUnnamed old.store new.store
    by (IsDone okay) = absurd (cc (sym (ap is_ok said) ∙ okay))
    by (HasNoParty printed same) = absurd (says_other answer (ap says_unowned said) (ap says_unowned printed))
    by (IsStruck r) = absurd (says_other answer (ap says_unowned said) (ap says_unowned r.printed))
    by (IsRefused r) = refused r
