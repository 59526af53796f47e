-- Gets, notes, lists, and puts that change nothing keep the invariant.
use Rattle.std.proofs.Common.{◌≡◌, refl, sym, subst, ℕ, List, [], ◌∷◌, ◌++◌, cond, Bool, true, false, Some, None, arith}
use Rattle.std.specs.Prelude.{IsTrue, ◌==◌, ◌&&◌, if◌then◌else◌}
use Rattle.std.specs.List.{AllByRecursion}
use Rattle.std.proofs.lemmas.List.{length_push}
use Rattle.std.proofs.lemmas.Bool.Decides.{Decides-eqb}
use Rattle.row_model.specs.Fold.{Operator}
use Rattle.fleet_model.specs.Nodes.{Tables, is_among}
use Rattle.fleet_model.specs.Jobs.{JobSpec}
use Rattle.fleet_model.specs.History.{Party, Event, GetManifest, GetRecords, GetTable, PutTable, PutRecords, Plan, Start, Kill, ListTables, Claim, Answer, Lost, Entry, stood}
use Rattle.fleet_model.specs.Store.{stored_jobs}
use Rattle.fleet_model.specs.Past.Replay.{named_specs}
use Rattle.fleet_model.specs.Exchanges.{Plain, ListsTables, answer_of, stands_or_lost, with_entry}
use Rattle.step_model.specs.Past.{World, world_after}
use Rattle.step_model.specs.Entries.{job_drawn_in, table_drawn_in, table_put_in, tables_brought_in, planned_attempts, was_claimed, is_claim_of, is_in, attempts_in}
use Rattle.step_model.specs.LawfulTables.{PlainFits}
use Rattle.step_model.specs.Kept.NamesKept.{DrawsKept, IsUpTo}
use Rattle.step_model.specs.Kept.TablesKept.{PutsKept}
use Rattle.step_model.specs.Kept.Keeps.{Keeps}
use Rattle.step_laws.specs.CallLaws.{CallKeeps, LooksKeep}
use Rattle.step_laws.proofs.Elements.{all_at, all_to, all_push, Passes, any_element, is_itself, flat_push_none}
use Rattle.step_laws.proofs.Mute.{IsMute, mute_event}
use Rattle.step_laws.proofs.Grown.{table_grows}
use Rattle.step_laws.proofs.Bodies.{Body, whole_of, keeps_of}
use Rattle.step_laws.proofs.MuteBodies.{entered, spares_all, body_mute}

-- ---- the world

same_past : {A : Type 0} (n : ℕ) (xs ys : A) → (if n == n then xs else ys) ≡ xs
same_past {A} n xs ys = by (n == n) (is_itself n)
  where
    by : (b : Bool) → b ≡ true → cond b xs ys ≡ xs
    by true e = refl
    by false e = absurd (cc e)

pub world_entered : (world : World) (deleted : List ℕ) (jobs_drawn tables_drawn : ℕ) (entry : Entry)
    → world_after world (entered world deleted jobs_drawn tables_drawn entry).store ≡ entered world deleted jobs_drawn tables_drawn entry
world_entered world deleted jobs_drawn tables_drawn entry =
    let same = same_past world.store.manifest.version world.past (world.past ++ world.store.manifest ∷ []) in
    λ i. record { store = (entered world deleted jobs_drawn tables_drawn entry).store; past = same i }

-- ---- facts on draws and puts

-- An entry that draws no id leaves the facts on draws.
pub draws_mute : (jobs_drawn tables_drawn : ℕ) (history : List Entry) (entry : Entry) → job_drawn_in entry.event ≡ [] → table_drawn_in entry.event ≡ [] → DrawsKept jobs_drawn tables_drawn history → DrawsKept jobs_drawn tables_drawn (history ++ entry ∷ [])
draws_mute jobs_drawn tables_drawn history entry none no_table h =
    let jobs = flat_push_none (λ (e : Entry). job_drawn_in e.event) history entry none in
    let tables = flat_push_none (λ (e : Entry). table_drawn_in e.event) history entry no_table in
    let longer = length_push history entry in
    record {
      jobs_rise = rw jobs h.jobs_rise;
      jobs_counted = rw jobs h.jobs_counted;
      tables_rise = rw tables h.tables_rise;
      tables_counted = rw tables h.tables_counted;
      few = let few = h.few in omega (arith, few, longer);
    }

-- No table is put, and what the entry brings was put.
pub puts_kept : (history : List Entry) (entry : Entry) (tables : Tables) → table_put_in (stood entry.answer) entry.event ≡ [] → AllByRecursion (λ id. IsTrue (is_among tables id)) (tables_brought_in (stood entry.answer) entry.event)
    → PutsKept history tables → PutsKept (history ++ entry ∷ []) tables
puts_kept history entry tables none brought h =
    let puts = flat_push_none (λ (e : Entry). table_put_in (stood e.answer) e.event) history entry none in
    record {
      known = all_to _ _ tables (λ table there known. table_grows history entry table.0 known) h.known;
      put = rw puts h.put;
      once = rw puts h.once;
      brought = all_push _ history entry h.brought brought;
    }

pub puts_mute : (history : List Entry) (entry : Entry) (tables : Tables) → IsMute (stood entry.answer) entry.event → table_put_in (stood entry.answer) entry.event ≡ [] → PutsKept history tables → PutsKept (history ++ entry ∷ []) tables
puts_mute history entry tables mute none h = puts_kept history entry tables none (rw mute.brought tt) h

-- The event puts a table.
abbrev pub puts_a_table : Event → Bool
puts_a_table (PutTable table rows) = true
puts_a_table _ = false

pub table_none : (took : Bool) (event : Event) → puts_a_table event ≡ false → table_put_in took event ≡ []
table_none false event h = refl
table_none true (PutTable table rows) h = absurd (cc h)
table_none true event h = refl

-- ---- a mute entry

-- A mute entry that names no job, draws no id and puts no table keeps the invariant, if the attempts that it plans are
-- no later than the stored ones.
pub keeps_mute : (merge : Operator) (world : World) (entry : Entry) → IsMute (stood entry.answer) entry.event → named_specs entry.event ≡ [] → job_drawn_in entry.event ≡ [] → table_drawn_in entry.event ≡ []
    → table_put_in (stood entry.answer) entry.event ≡ [] → AllByRecursion (IsUpTo world.store.history (stored_jobs world.store)) (planned_attempts entry.event)
    → Keeps merge world → Keeps merge (world_after world (record world.store { history = world.store.history ++ entry ∷ [] }))
keeps_mute merge world entry mute unnamed no_job no_table no_put planned k =
    let w = whole_of merge world k in
    let specs = k.stored.replay.specs in
    subst (Keeps merge) (sym (world_entered world world.store.deleted world.store.jobs_drawn world.store.tables_drawn entry))
    (keeps_of merge (entered world world.store.deleted world.store.jobs_drawn world.store.tables_drawn entry) specs (record {
      body = body_mute merge world specs world.store.deleted world.store.jobs_drawn world.store.tables_drawn entry mute (rw unnamed tt) (spares_all merge world specs w.body)
          (record { mentioned = rw (unnamed, mute.quiet.steps) tt; planned = planned }) w.body;
      draws = draws_mute world.store.jobs_drawn world.store.tables_drawn world.store.history entry no_job no_table w.draws;
      puts = puts_mute world.store.history entry world.store.tables mute no_put w.puts;
    }))

-- ---- gets and notes

-- A claimed attempt is at a job that a put named, and is no later than the stored attempt of the job.
pub claimed_up_to : (merge : Operator) (world : World) (specs : ℕ → JobSpec) → Body merge world specs → (worker job attempt : ℕ) → IsTrue (was_claimed world.store.history worker job attempt) → IsUpTo world.store.history (stored_jobs world.store) (job, attempt)
claimed_up_to merge world specs b worker job attempt h = at (any_element (λ (e : Entry). is_claim_of worker job attempt e.event && stood e.answer) world.store.history h)
  where
    same : (x : ℕ × ℕ) → (job == x.0 && attempt == x.1) ≡ true → IsUpTo world.store.history (stored_jobs world.store) x → IsUpTo world.store.history (stored_jobs world.store) (job, attempt)
    same x e up = by (job == x.0) (attempt == x.1) refl refl e
      where
        by : (p q : Bool) → (job == x.0) ≡ p → (attempt == x.1) ≡ q → (p && q) ≡ true → IsUpTo world.store.history (stored_jobs world.store) (job, attempt)
        by true true one other e = rw ((Decides-eqb job x.0).0 one, (Decides-eqb attempt x.1).0 other) up
        by true false one other e = absurd (cc e)
        by false q one other e = absurd (cc e)

    listed : (attempts : List (ℕ × ℕ)) → IsTrue (is_in job attempt attempts) → AllByRecursion (IsUpTo world.store.history (stored_jobs world.store)) attempts → IsUpTo world.store.history (stored_jobs world.store) (job, attempt)
    listed attempts there all =
        let found = any_element (λ (a : ℕ × ℕ). job == a.0 && attempt == a.1) attempts there in
        same found.element found.passes (all_at _ attempts found.element all found.there)

    claim : (event : Event) (took : Bool) → (is_claim_of worker job attempt event && took) ≡ true → (IsTrue took → AllByRecursion (IsUpTo world.store.history (stored_jobs world.store)) (attempts_in event))
        → IsUpTo world.store.history (stored_jobs world.store) (job, attempt)
    claim (PutRecords (Claim other attempts)) took e all = by (worker == other) (is_in job attempt attempts) took refl e all
      where
        by : (own there took : Bool) → is_in job attempt attempts ≡ there → ((own && there) && took) ≡ true → (IsTrue took → AllByRecursion (IsUpTo world.store.history (stored_jobs world.store)) attempts) → IsUpTo world.store.history (stored_jobs world.store) (job, attempt)
        by true true true is e all = listed attempts is (all refl)
        by true true false is e all = absurd (cc e)
        by true false took is e all = absurd (cc e)
        by false there took is e all = absurd (cc e)
    claim event took e all = absurd (cc e)

    at : Passes (λ (e : Entry). is_claim_of worker job attempt e.event && stood e.answer) world.store.history → IsUpTo world.store.history (stored_jobs world.store) (job, attempt)
    at found = claim found.element.event (stood found.element.answer) found.passes (all_at _ world.store.history found.element b.up_to found.there)

-- The entry of a get or of a lawful note keeps the invariant, whatever its answer is.
plain_entry : (merge : Operator) (event : Event) (line : ℕ) (party : Party) (answer : Answer) (world : World) → Keeps merge world → PlainFits party world.store event
    → Keeps merge (world_after world (with_entry line party event answer world.store))
plain_entry merge GetManifest line party answer world k fits = keeps_mute merge world (record { line = line; party = party; event = GetManifest; answer = answer }) (mute_event (stood answer) GetManifest refl) refl refl refl (table_none (stood answer) GetManifest refl) tt k
plain_entry merge GetRecords line party answer world k fits = keeps_mute merge world (record { line = line; party = party; event = GetRecords; answer = answer }) (mute_event (stood answer) GetRecords refl) refl refl refl (table_none (stood answer) GetRecords refl) tt k
plain_entry merge (GetTable table) line party answer world k fits = keeps_mute merge world (record { line = line; party = party; event = GetTable table; answer = answer }) (mute_event (stood answer) (GetTable table) refl) refl refl refl (table_none (stood answer) (GetTable table) refl) tt k
plain_entry merge (Start other) line party answer world k fits = keeps_mute merge world (record { line = line; party = party; event = Start other; answer = answer }) (mute_event (stood answer) (Start other) refl) refl refl refl (table_none (stood answer) (Start other) refl) tt k
plain_entry merge (Kill other) line party answer world k fits = keeps_mute merge world (record { line = line; party = party; event = Kill other; answer = answer }) (mute_event (stood answer) (Kill other) refl) refl refl refl (table_none (stood answer) (Kill other) refl) tt k
plain_entry merge (Plan job attempt ranges) line party answer world k fits =
    keeps_mute merge world (record { line = line; party = party; event = Plan job attempt ranges; answer = answer }) (mute_event (stood answer) (Plan job attempt ranges) refl) refl refl refl (table_none (stood answer) (Plan job attempt ranges) refl)
    (claimed_up_to merge world k.stored.replay.specs (whole_of merge world k).body fits.worker job attempt fits.claimed, tt) k
plain_entry merge event line party answer world k fits = absurd fits

plain_keeps : (merge : Operator) (event : Event) → CallKeeps merge (Plain event)
plain_keeps merge event line party None world k lawful may = plain_entry merge event line party (answer_of (Plain event) world.store) world k lawful
plain_keeps merge event line party (Some true) world k lawful may = plain_entry merge event line party (stands_or_lost (answer_of (Plain event) world.store)) world k lawful
plain_keeps merge event line party (Some false) world k lawful may = plain_entry merge event line party Lost world k lawful

list_entry : (merge : Operator) (count line : ℕ) (party : Party) (answer : Answer) (world : World) → Keeps merge world → Keeps merge (world_after world (with_entry line party (ListTables count) answer world.store))
list_entry merge count line party answer world k =
    keeps_mute merge world (record { line = line; party = party; event = ListTables count; answer = answer }) (mute_event (stood answer) (ListTables count) refl) refl refl refl (table_none (stood answer) (ListTables count) refl) tt k

lists_keep : (merge : Operator) → CallKeeps merge ListsTables
lists_keep merge line party None world k lawful may = list_entry merge _ line party (answer_of ListsTables world.store) world k
lists_keep merge line party (Some true) world k lawful may = list_entry merge _ line party (stands_or_lost (answer_of ListsTables world.store)) world k
lists_keep merge line party (Some false) world k lawful may = list_entry merge _ line party Lost world k

pub looks_keep : (merge : Operator) → LooksKeep merge
looks_keep merge = record { plain = λ event line party strike world k lawful may. plain_keeps merge event line party strike world k lawful may; lists = λ line party strike world k lawful may. lists_keep merge line party strike world k lawful may }
