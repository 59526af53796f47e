-- A deletion of a table that nothing names keeps the invariant.
use Rattle.std.proofs.Common.{◌≡◌, refl, sym, ◌∙◌, ap, subst, ℕ, List, [], ◌∷◌, ◌++◌, cond, Bool, true, false, inl, inr, Some, None}
use Rattle.std.specs.Prelude.{IsTrue, filter, flat_map}
use Rattle.row_model.specs.Fold.{Operator}
use Rattle.fleet_model.specs.Nodes.{is_among, Node, Segment}
use Rattle.fleet_model.specs.Jobs.{Job, JobSpec, is_active, contains}
use Rattle.fleet_model.specs.History.{Party, DeleteTable, Done, Stands, Answer, Entry, stood}
use Rattle.fleet_model.specs.Store.{stored_jobs, is_held, AreHeld}
use Rattle.fleet_model.specs.Handles.{named_tables, tree_tables, job_tables}
use Rattle.fleet_model.specs.Exchanges.{DeletesTable}
use Rattle.step_model.specs.Past.{World}
use Rattle.step_model.specs.LawfulTables.{DeletionFits}
use Rattle.step_model.specs.Kept.Keeps.{Keeps}
use Rattle.step_laws.specs.CallLaws.{CallKeeps}
use Rattle.step_laws.proofs.Elements.{IsIn, all_to, all_push, all_true_front, all_true_from, in_contains, in_front, in_back}
use Rattle.step_laws.proofs.Mute.{mute_event}
use Rattle.step_laws.proofs.Bodies.{Body, whole_of, keeps_of}
use Rattle.step_laws.proofs.Held.{held_put, held_but, held_still}
use Rattle.step_laws.proofs.MuteBodies.{entered, Spares, body_mute}
use Rattle.step_laws.proofs.Quiet.{world_entered, draws_mute, puts_mute, table_none}
use Rattle.step_laws.proofs.Vain.{vain_puts_keep}

pub in_flat : {A B : Type 0} (f : A → List B) (xs : List A) (x : A) (y : B) → IsIn x xs → IsIn y (f x) → IsIn y (flat_map f xs)
in_flat f [] x y there one = absurd there
in_flat f (z ∷ xs) x y (inl same) one = in_front y (f z) (flat_map f xs) (rw same one)
in_flat f (z ∷ xs) x y (inr there) one = in_back y (f z) (flat_map f xs) (in_flat f xs x y there one)

-- A filtered list has each element of the list that passes the test.
pub in_filter : {A : Type 0} (p : A → Bool) (xs : List A) (x : A) → IsIn x xs → p x ≡ true → IsIn x (filter p xs)
in_filter p [] x there e = absurd there
in_filter p (y ∷ xs) x (inl same) e = by (p y) (ap p same ∙ e)
  where
    by : (b : Bool) → b ≡ true → IsIn x (cond b (y ∷ filter p xs) (filter p xs))
    by true f = inl same
    by false f = absurd (cc f)
in_filter p (y ∷ xs) x (inr there) e = by (p y) (in_filter p xs x there e)
  where
    by : (b : Bool) → IsIn x (filter p xs) → IsIn x (cond b (y ∷ filter p xs) (filter p xs))
    by true one = inr one
    by false one = one

-- The table is none of those that trees and active jobs name.
not_named : (world : World) (table id : ℕ) → contains (named_tables world.store.manifest.trees (filter is_active (stored_jobs world.store))) table ≡ false
    → IsIn id (named_tables world.store.manifest.trees (filter is_active (stored_jobs world.store))) → table ≡ id → ⊥
not_named world table id unnamed there same = refused (contains (named_tables world.store.manifest.trees (filter is_active (stored_jobs world.store))) table) unnamed (in_contains _ table (rw same there))
  where
    refused : (b : Bool) → b ≡ false → b ≡ true → ⊥
    refused true e f = absurd (cc e)
    refused false e f = absurd (cc f)

-- A lawful deletion leaves all tables held that the stored nodes and the active jobs name.
spared : (merge : Operator) (world : World) (specs : ℕ → JobSpec) (party : Party) (table : ℕ) → DeletionFits party world.store table → Body merge world specs → Spares world (world.store.deleted ++ table ∷ [])
spared merge world specs party table fits b = record {
  put = all_true_from (is_among world.store.tables) _ (all_push _ world.store.deleted table (all_true_front (is_among world.store.tables) world.store.deleted b.sound.deleted) (held_put world.store table fits.held));
  pieces = all_to _ _ world.store.manifest.trees (λ s there old. all_to _ _ s.tree (λ node one held. still node.pieces (λ id in_pieces. in_trees s node id there one in_pieces) held) old) b.pieces;
  jobs = λ job there active held. still (job_tables job) (λ id in_job. in_jobs job id there active in_job) held;
  back = λ tables held. all_true_from (is_held world.store) tables (all_to _ _ tables (λ id there one. held_still world.store table id one) (all_true_front (is_held (record world.store { deleted = world.store.deleted ++ table ∷ [] })) tables held));
}
  where
    in_trees : (s : Segment) (node : Node) (id : ℕ) → IsIn s world.store.manifest.trees → IsIn node s.tree → IsIn id node.pieces → IsIn id (named_tables world.store.manifest.trees (filter is_active (stored_jobs world.store)))
    in_trees s node id there one in_pieces = in_front id _ _ (in_flat tree_tables world.store.manifest.trees s id there (in_flat (λ (n : Node). n.pieces) s.tree node id one in_pieces))

    in_jobs : (job : Job) (id : ℕ) → IsIn job (stored_jobs world.store) → IsTrue (is_active job) → IsIn id (job_tables job) → IsIn id (named_tables world.store.manifest.trees (filter is_active (stored_jobs world.store)))
    in_jobs job id there active in_job = in_back id _ _ (in_flat job_tables (filter is_active (stored_jobs world.store)) job id (in_filter is_active (stored_jobs world.store) job there active) in_job)

    still : (ids : List ℕ) → ((id : ℕ) → IsIn id ids → IsIn id (named_tables world.store.manifest.trees (filter is_active (stored_jobs world.store))))
        → AreHeld world.store ids → AreHeld (record world.store { deleted = world.store.deleted ++ table ∷ [] }) ids
    still ids named held = all_true_from (is_held (record world.store { deleted = world.store.deleted ++ table ∷ [] })) ids
        (all_to _ _ ids (λ id there one. held_but world.store table id (not_named world table id fits.unnamed (named id there)) one) (all_true_front (is_held world.store) ids held))

-- A lawful deletion of a table that takes effect keeps the invariant.
deleted_by : (merge : Operator) (table line : ℕ) (party : Party) (answer : Answer) (world : World) → stood answer ≡ true → Keeps merge world → DeletionFits party world.store table
    → Keeps merge (entered world (world.store.deleted ++ table ∷ []) world.store.jobs_drawn world.store.tables_drawn (record { line = line; party = party; event = DeleteTable table; answer = answer }))
deleted_by merge table line party answer world took k fits =
    let entry : Entry = record { line = line; party = party; event = DeleteTable table; answer = answer } in
    let w = whole_of merge world k in
    let specs = k.stored.replay.specs in
    let mute = mute_event (stood answer) (DeleteTable table) refl in
    keeps_of merge (entered world (world.store.deleted ++ table ∷ []) world.store.jobs_drawn world.store.tables_drawn entry) specs (record {
      body = body_mute merge world specs (world.store.deleted ++ table ∷ []) world.store.jobs_drawn world.store.tables_drawn entry mute tt (spared merge world specs party table fits w.body) (record { mentioned = rw mute.quiet.steps tt; planned = tt }) w.body;
      draws = draws_mute world.store.jobs_drawn world.store.tables_drawn world.store.history entry refl refl w.draws;
      puts = puts_mute world.store.history entry world.store.tables mute (table_none (stood answer) (DeleteTable table) refl) w.puts;
    })

pub deletions_keep : (merge : Operator) (table : ℕ) → CallKeeps merge (DeletesTable table)
deletions_keep merge table line party None world k lawful may =
    subst (Keeps merge) (sym (world_entered world (world.store.deleted ++ table ∷ []) world.store.jobs_drawn world.store.tables_drawn (record { line = line; party = party; event = DeleteTable table; answer = Done 0 })))
    (deleted_by merge table line party (Done 0) world refl k lawful)
deletions_keep merge table line party (Some true) world k lawful may =
    subst (Keeps merge) (sym (world_entered world (world.store.deleted ++ table ∷ []) world.store.jobs_drawn world.store.tables_drawn (record { line = line; party = party; event = DeleteTable table; answer = Stands })))
    (deleted_by merge table line party Stands world refl k lawful)
deletions_keep merge table line party (Some false) world k lawful may = (vain_puts_keep merge).lost (DeletesTable table) line party world k lawful may
