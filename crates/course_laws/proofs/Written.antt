-- A worker's put of a table leaves what it holds, and the table is free to be named.
use Rattle.std.proofs.Common.{◌≡◌, refl, sym, ◌∙◌, ap, subst, ℕ, ◌+◌, List, [], ◌∷◌, ◌++◌, inl, inr, Option, Some, None, length}
use Rattle.std.specs.Prelude.{IsTrue, IfSome, map}
use Rattle.std.specs.List.{AllByRecursion}
use Rattle.row_model.specs.Rows.{Row, IsStrictlyOrdered, sorted_rows}
use Rattle.row_model.specs.Ranges.{Range}
use Rattle.row_model.specs.Fold.{Operator}
use Rattle.row_model.specs.Written.Plan.{planned_ranges}
use Rattle.fleet_model.specs.Nodes.{Tables, table_rows, is_among}
use Rattle.fleet_model.specs.Jobs.{JobSpec, Job, Context, job_with}
use Rattle.fleet_model.specs.History.{Party, Worker, DrawTable, PutTable, Done, Entry, stood}
use Rattle.fleet_model.specs.Store.{Store, stored_jobs, is_held, AreHeld}
use Rattle.fleet_model.specs.Work.Attempts.{source_rows, noted_rows}
use Rattle.fleet_model.specs.Past.Claimed.{IsClaimed}
use Rattle.fleet_model.specs.Work.Parties.{Attempt, LiveWorker, is_live, live_attempts}
use Rattle.fleet_model.specs.Sweeps.{attempt_tables}
use Rattle.fleet_model.specs.Invariants.AttemptsFit.{AttemptFits, WorkerFits, TablesFit}
use Rattle.fleet_model.specs.Exchanges.{DrawsTable, PutsTable, next_table_id}
use Rattle.step_model.specs.Past.{World}
use Rattle.step_model.specs.LawfulTables.{MayUse}
use Rattle.step_model.specs.Fits.{noted_tables, WorkerHolds}
use Rattle.step_model.specs.Kept.Keeps.{Keeps}
use Rattle.step_model.specs.Rivals.{after_call}
use Rattle.step_laws.proofs.Elements.{IsIn, all_at, all_from, all_to, all_front, all_back, all_unflat, all_true_front, all_true_from}
use Rattle.step_laws.proofs.Alike.{settings_same}
use Rattle.step_laws.proofs.Held.{held_put, held_grows, rows_stay, flat_rows_stay}
use Rattle.step_laws.proofs.Mute.{mute_event}
use Rattle.step_laws.proofs.MuteBodies.{if_some_to}
use Rattle.step_laws.proofs.Quiet.{world_entered}
use Rattle.step_laws.proofs.TableBodies.{with_table, same_with_table, faithful_without_table}
use Rattle.course_laws.proofs.Calls.{filtered}
use Rattle.course_laws.proofs.OwnCalls.{holds_entered}

-- All these tables were put.
abbrev ArePut : Tables → List ℕ → Type 0
ArePut tables ids = AllByRecursion (λ id. IsTrue (is_among tables id)) ids

maps_stay : (tables : Tables) (new : ℕ × List Row) (ids : List ℕ) → ArePut tables ids → map (table_rows (tables ++ new ∷ [])) ids ≡ map (table_rows tables) ids
maps_stay tables new [] put = refl
maps_stay tables new (id ∷ ids) put =
    let first = rows_stay tables new id put.0 in
    let rest = maps_stay tables new ids put.1 in
    λ i. first i ∷ rest i

notes_stay : (tables : Tables) (new : ℕ × List Row) (ids : List ℕ) → ArePut tables ids → noted_rows (tables ++ new ∷ []) ids ≡ noted_rows tables ids
notes_stay tables new ids put = flat_rows_stay tables new ids (all_true_from (is_among tables) ids put)

sources_stay : (tables : Tables) (new : ℕ × List Row) (ids : List ℕ) → ArePut tables ids → source_rows (tables ++ new ∷ []) ids ≡ source_rows tables ids
sources_stay tables new ids put = ap sorted_rows (flat_rows_stay tables new ids (all_true_from (is_among tables) ids put))

tables_fit : (merge : Operator) (tables : Tables) (new : ℕ × List Row) (sources : List ℕ) (c : Context) → ArePut tables sources → AllByRecursion (λ (range : Range × List ℕ). ArePut tables range.1) c.ranges → TablesFit merge tables sources c → TablesFit merge (tables ++ new ∷ []) sources c
tables_fit merge tables new sources c put noted fit = all_to _ _ c.ranges (λ range there one. rw (notes_stay tables new range.1 (all_at _ c.ranges range noted there), sources_stay tables new sources put) one) fit

-- The tables of an attempt were put.
record PutFor (tables : Tables) (a : Attempt) : Type 0 where
  sources : ArePut tables a.sources
  noted : AllByRecursion (λ (range : Range × List ℕ). ArePut tables range.1) a.context.ranges

put_for : (store : Store) (a : Attempt) → AreHeld store (attempt_tables a) → PutFor store.tables a
put_for store a held =
    let all = all_to _ (λ id. IsTrue (is_among store.tables id)) (attempt_tables a) (λ id there one. held_put store id one) (all_true_front (is_held store) (attempt_tables a) held) in
    record {
      sources = all_front _ a.sources _ all;
      noted = all_unflat _ (λ (range : Range × List ℕ). range.1) a.context.ranges (all_back _ a.sources _ all);
    }

-- What a worker holds stays as a table is put.
holds_with_table : (merge : Operator) (world : World) (new : ℕ × List Row) (w : LiveWorker) → Keeps merge world → WorkerHolds merge world w → WorkerHolds merge (with_table world new) w
holds_with_table merge world new w kept h = record {
  fits = λ specs f. fits specs (h.fits specs (faithful_without_table world new specs kept.facts.puts f));
  each = all_to _ _ w.attempts (λ a there held. record {
    counted = held.counted;
    claimed = held.claimed;
    ordered = subst IsStrictlyOrdered (sym (sources_stay world.store.tables new a.sources (puts a there).sources)) held.ordered;
    sources = held.sources;
  }) h.each;
  jobs_rise = h.jobs_rise;
  own = all_to _ _ (live_attempts (stored_jobs world.store) w) (λ a there own. if_some_to _ _ (job_with a.job (stored_jobs world.store)) (λ job all. all_to _ _ (noted_tables a) (λ table one may. may_stay job table may) all) own) h.own;
  apart = h.apart;
}
  where
    may_stay : (job : Job) (table : ℕ) → MayUse (Worker w.number) world job table → MayUse (Worker w.number) (with_table world new) job table
    may_stay job table (inl named) = inl named
    may_stay job table (inr own) = inr (record { drawn = own.drawn; put = own.put; unused = own.unused; unnamed = own.unnamed })

    puts : (a : Attempt) → IsIn a w.attempts → PutFor world.store.tables a
    puts a there = put_for world.store a (all_at _ w.attempts a (h.fits kept.stored.replay.specs kept.faithful).each there).held

    claims : (specs : ℕ → JobSpec) (job attempt : ℕ) (c : Context) → IsClaimed world.store specs job attempt c → IsClaimed (with_table world new).store specs job attempt c
    claims specs job attempt c one = record {
      settings = settings_same (world.store.tables ++ new ∷ []) world.store.tables specs specs world.store.history job attempt (same_with_table world new specs kept.facts.puts) refl ∙ one.settings;
      ranges = one.ranges;
    }

    live_one : (specs : ℕ → JobSpec) (a : Attempt) → PutFor world.store.tables a → (o : Option Job) → IfSome o (λ job. AttemptFits merge world.store specs job a) → IfSome o (λ job. AttemptFits merge (with_table world new).store specs job a)
    live_one specs a put None one = tt
    live_one specs a put (Some job) one =
        let sources = subst (ArePut world.store.tables) one.sources put.sources in
        record {
          sources = one.sources;
          context = record {
            claimed = claims specs job.id job.attempt a.context one.context.claimed;
            settings = one.context.settings;
            cut = one.context.cut;
            ranges = (one.context.ranges.0, one.context.ranges.1 ∙ ap (planned_ranges one.context.ranges.0) (sym (maps_stay world.store.tables new job.source_tables sources)));
            tables = tables_fit merge world.store.tables new job.source_tables a.context sources put.noted one.context.tables;
          };
          published = one.published;
        }

    fits : (specs : ℕ → JobSpec) → WorkerFits merge world.store specs w → WorkerFits merge (with_table world new).store specs w
    fits specs f = record {
      cuts = f.cuts;
      each = all_to _ _ w.attempts (λ a there stands. record {
        claimed = claims specs a.job a.number a.context stands.claimed;
        held = all_true_from (is_held (with_table world new).store) (attempt_tables a) (all_to _ _ (attempt_tables a) (λ id one held. held_grows world.store new id held) (all_true_front (is_held world.store) (attempt_tables a) stands.held));
        tables = tables_fit merge world.store.tables new a.sources a.context (puts a there).sources (puts a there).noted stands.tables;
      }) f.each;
      live = all_from _ (live_attempts (stored_jobs world.store) w) (λ a there.
          live_one specs a (puts a (all_at _ (live_attempts (stored_jobs world.store) w) a (filtered (is_live (stored_jobs world.store) w.number) w.attempts) there).0) (job_with a.job (stored_jobs world.store))
          (all_at _ (live_attempts (stored_jobs world.store) w) a f.live there));
    }

-- A put of a table leaves what a worker holds.
pub holds_put : (merge : Operator) (line : ℕ) (party : Party) (table : ℕ) (rows : List Row) (world : World) (w : LiveWorker) → Keeps merge world → WorkerHolds merge world w → WorkerHolds merge (after_call line party (PutsTable table rows) None world) w
holds_put merge line party table rows world w kept h =
    let entry : Entry = record { line = line; party = party; event = PutTable table (length rows); answer = Done 0 } in
    let grown = with_table world (table, rows) in
    subst (λ (t : World). WorkerHolds merge t w) (sym (world_entered grown world.store.deleted world.store.jobs_drawn world.store.tables_drawn entry))
    (holds_entered merge grown w world.store.jobs_drawn world.store.tables_drawn entry (mute_event (stood entry.answer) (PutTable table (length rows)) refl).quiet (holds_with_table merge world (table, rows) w kept h))

-- A draw leaves what a worker holds.
pub holds_drawn : (merge : Operator) (line : ℕ) (party : Party) (moment : ℕ) (world : World) (w : LiveWorker) → WorkerHolds merge world w → WorkerHolds merge (after_call line party (DrawsTable moment) None world) w
holds_drawn merge line party moment world w h =
    let entry : Entry = record { line = line; party = party; event = DrawTable (next_table_id moment world.store); answer = Done 0 } in
    subst (λ (t : World). WorkerHolds merge t w) (sym (world_entered world world.store.deleted world.store.jobs_drawn (world.store.tables_drawn + 1) entry))
    (holds_entered merge world w world.store.jobs_drawn (world.store.tables_drawn + 1) entry (mute_event (stood entry.answer) (DrawTable (next_table_id moment world.store)) refl).quiet h)
