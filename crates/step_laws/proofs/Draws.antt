-- Draws keep the invariant: the next number is above all numbers that were drawn.
use Rattle.std.proofs.Common.{◌≡◌, refl, sym, ◌∙◌, ap, subst, ℕ, ◌+◌, ◌%◌, ◌^◌, ◌<◌, List, [], ◌∷◌, ◌++◌, true, Some, None, length, arith}
use Rattle.std.proofs.lemmas.List.{length_push}
use Rattle.std.proofs.lemmas.Nat.{mod-mul-add}
use Rattle.row_model.specs.Fold.{Operator}
use Rattle.fleet_model.specs.Jobs.{id_of, table_id_of, number_of, drawn_base}
use Rattle.fleet_model.specs.History.{DrawJob, DrawTable, Done, Entry}
use Rattle.fleet_model.specs.Exchanges.{DrawsJob, DrawsTable, next_job_id, next_table_id}
use Rattle.step_model.specs.Entries.{drawn_jobs, drawn_tables, job_drawn_in, table_drawn_in}
use Rattle.step_model.specs.Kept.NamesKept.{DrawsKept}
use Rattle.step_model.specs.Kept.Keeps.{Keeps}
use Rattle.step_laws.specs.CallLaws.{CallKeeps, DrawsKeep}
use Rattle.step_laws.proofs.Elements.{all_to, all_push, pairs_push, flat_push, flat_push_none}
use Rattle.step_laws.proofs.Mute.{mute_event}
use Rattle.step_laws.proofs.Bodies.{whole_of, keeps_of}
use Rattle.step_laws.proofs.MuteBodies.{entered, spares_all, body_mute}
use Rattle.step_laws.proofs.Quiet.{world_entered, puts_mute}

number : (moment n : ℕ) → n < 2 ^ 80 → number_of (id_of moment n) ≡ n
number moment n small = mod-mul-add (moment % 2 ^ 48) (2 ^ 80) n small

-- The facts on draws hold after the draw of the next id for a job, if the history has room for it.
job_draws : (jobs_drawn tables_drawn : ℕ) (history : List Entry) (entry : Entry) (moment : ℕ) → entry.event ≡ DrawJob (id_of moment (jobs_drawn + 1)) → length history + 1 < drawn_base
    → DrawsKept jobs_drawn tables_drawn history → DrawsKept (jobs_drawn + 1) tables_drawn (history ++ entry ∷ [])
job_draws jobs_drawn tables_drawn history entry moment is short h =
    let few = h.few in
    let longer = length_push history entry in
    let next = number moment (jobs_drawn + 1) (omega (arith, few, short)) in
    let jobs : drawn_jobs (history ++ entry ∷ []) ≡ drawn_jobs history ++ id_of moment (jobs_drawn + 1) ∷ [] =
    flat_push (λ (e : Entry). job_drawn_in e.event) history entry ∙ ap (λ event. drawn_jobs history ++ job_drawn_in event) is in
    let tables : drawn_tables (history ++ entry ∷ []) ≡ drawn_tables history = flat_push_none (λ (e : Entry). table_drawn_in e.event) history entry (ap table_drawn_in is) in
    record {
      jobs_rise = rw jobs (pairs_push _ (drawn_jobs history) _ h.jobs_rise (all_to _ _ (drawn_jobs history) (λ id there low. omega (arith, low, next)) h.jobs_counted));
      jobs_counted = rw jobs (all_push _ (drawn_jobs history) _ (all_to _ _ (drawn_jobs history) (λ id there low. omega (arith, low)) h.jobs_counted) (omega (arith, next)));
      tables_rise = rw tables h.tables_rise;
      tables_counted = rw tables h.tables_counted;
      few = omega (arith, few, longer);
    }

-- The facts on draws hold after the draw of the next id for a table, if the history has room for it.
table_draws : (jobs_drawn tables_drawn : ℕ) (history : List Entry) (entry : Entry) (moment : ℕ) → entry.event ≡ DrawTable (table_id_of moment (tables_drawn + 1)) → length history + 1 < drawn_base
    → DrawsKept jobs_drawn tables_drawn history → DrawsKept jobs_drawn (tables_drawn + 1) (history ++ entry ∷ [])
table_draws jobs_drawn tables_drawn history entry moment is short h =
    let few = h.few in
    let longer = length_push history entry in
    let next = number moment (drawn_base + (tables_drawn + 1)) (omega (arith, few, short)) in
    let tables : drawn_tables (history ++ entry ∷ []) ≡ drawn_tables history ++ table_id_of moment (tables_drawn + 1) ∷ [] =
    flat_push (λ (e : Entry). table_drawn_in e.event) history entry ∙ ap (λ event. drawn_tables history ++ table_drawn_in event) is in
    let jobs : drawn_jobs (history ++ entry ∷ []) ≡ drawn_jobs history = flat_push_none (λ (e : Entry). job_drawn_in e.event) history entry (ap job_drawn_in is) in
    record {
      jobs_rise = rw jobs h.jobs_rise;
      jobs_counted = rw jobs h.jobs_counted;
      tables_rise = rw tables (pairs_push _ (drawn_tables history) _ h.tables_rise (all_to _ _ (drawn_tables history) (λ id there low. let high = low.1 in omega (arith, high, next)) h.tables_counted));
      tables_counted = rw tables (all_push _ (drawn_tables history) _ (all_to _ _ (drawn_tables history) (λ id there low. let high = low.1 in (low.0, omega (arith, high))) h.tables_counted) (omega (arith, next), omega (arith, next)));
      few = omega (arith, few, longer);
    }

-- A lawful draw of an id for a job keeps the invariant.
jobs : (merge : Operator) (moment : ℕ) → CallKeeps merge (DrawsJob moment)
jobs merge moment line party None world k lawful may =
    let entry : Entry = record { line = line; party = party; event = DrawJob (next_job_id moment world.store); answer = Done 0 } in
    let w = whole_of merge world k in
    let specs = k.stored.replay.specs in
    subst (Keeps merge) (sym (world_entered world world.store.deleted (world.store.jobs_drawn + 1) world.store.tables_drawn entry))
    (keeps_of merge (entered world world.store.deleted (world.store.jobs_drawn + 1) world.store.tables_drawn entry) specs (record {
      body = body_mute merge world specs world.store.deleted (world.store.jobs_drawn + 1) world.store.tables_drawn entry (mute_event true entry.event refl) tt (spares_all merge world specs w.body) (record { mentioned = tt; planned = tt }) w.body;
      draws = job_draws world.store.jobs_drawn world.store.tables_drawn world.store.history entry moment refl lawful w.draws;
      puts = puts_mute world.store.history entry world.store.tables (mute_event true entry.event refl) refl w.puts;
    }))
jobs merge moment line party (Some stands) world k lawful may = absurd (cc may)

-- A lawful draw of an id for a table keeps the invariant.
tables : (merge : Operator) (moment : ℕ) → CallKeeps merge (DrawsTable moment)
tables merge moment line party None world k lawful may =
    let entry : Entry = record { line = line; party = party; event = DrawTable (next_table_id moment world.store); answer = Done 0 } in
    let w = whole_of merge world k in
    let specs = k.stored.replay.specs in
    subst (Keeps merge) (sym (world_entered world world.store.deleted world.store.jobs_drawn (world.store.tables_drawn + 1) entry))
    (keeps_of merge (entered world world.store.deleted world.store.jobs_drawn (world.store.tables_drawn + 1) entry) specs (record {
      body = body_mute merge world specs world.store.deleted world.store.jobs_drawn (world.store.tables_drawn + 1) entry (mute_event true entry.event refl) tt (spares_all merge world specs w.body) (record { mentioned = tt; planned = tt }) w.body;
      draws = table_draws world.store.jobs_drawn world.store.tables_drawn world.store.history entry moment refl lawful w.draws;
      puts = puts_mute world.store.history entry world.store.tables (mute_event true entry.event refl) refl w.puts;
    }))
tables merge moment line party (Some stands) world k lawful may = absurd (cc may)

pub draws_keep : (merge : Operator) → DrawsKeep merge
draws_keep merge = record {
  jobs = λ moment line party strike world k lawful may. jobs merge moment line party strike world k lawful may;
  tables = λ moment line party strike world k lawful may. tables merge moment line party strike world k lawful may;
}
