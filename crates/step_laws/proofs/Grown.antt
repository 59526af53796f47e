-- What a history says stays said as it grows by an entry.
use Rattle.std.proofs.Common.{◌≡◌, ◌∙◌, subst, ℕ, ◌≤◌, List, [], ◌∷◌, ◌++◌, false, inl, inr, Option, Some, None, arith}
use Rattle.std.specs.Prelude.{◌&&◌, not, IsTrue}
use Rattle.fleet_model.specs.Nodes.{Trees, NodeName, L0, Run, Node, names}
use Rattle.fleet_model.specs.Jobs.{Job, Jobs, contains, is_active}
use Rattle.fleet_model.specs.History.{Entry, stood}
use Rattle.fleet_model.specs.Invariants.JobsFit.{was_joined, joins}
use Rattle.fleet_model.specs.Invariants.AttemptsFit.{was_beaten, beats}
use Rattle.fleet_model.specs.Past.Replay.{named_specs}
use Rattle.fleet_model.specs.Work.Records.{firsts}
use Rattle.fleet_model.specs.Store.{Manifest}
use Rattle.step_model.specs.Entries.{was_named, was_flushed, is_flush_of, drawn_tables, table_drawn_in, drawn_jobs, job_drawn_in, last_name}
use Rattle.step_model.specs.Kept.NamesKept.{IsUpTo}
use Rattle.step_model.specs.Kept.TablesKept.{IsKnownPiece, IsKnownTable, IsFlush, IsPassed, IsFlushed, PiecesKept}
use Rattle.step_laws.proofs.Elements.{all_to, any_front, any_push_no, contains_front, flat_push}
use Rattle.step_laws.proofs.Mute.{IsQuietFor}
use Rattle.step_laws.proofs.Bodies.{JobFacts}

-- ---- what grows

pub named_grows : (history : List Entry) (entry : Entry) (id : ℕ) → IsTrue (was_named history id) → IsTrue (was_named (history ++ entry ∷ []) id)
named_grows history entry id h = any_front (λ (e : Entry). contains (firsts (named_specs e.event)) id && stood e.answer) history (entry ∷ []) h

pub flushed_grows : (history : List Entry) (entry : Entry) (name : ℕ) → IsTrue (was_flushed history name) → IsTrue (was_flushed (history ++ entry ∷ []) name)
flushed_grows history entry name h = any_front (λ (e : Entry). is_flush_of name e.event && stood e.answer) history (entry ∷ []) h

pub joined_grows : (history : List Entry) (entry : Entry) (id : ℕ) → IsTrue (was_joined history id) → IsTrue (was_joined (history ++ entry ∷ []) id)
joined_grows history entry id h = any_front (λ (e : Entry). joins id e.event && stood e.answer) history (entry ∷ []) h

pub drawn_tables_push : (history : List Entry) (entry : Entry) → drawn_tables (history ++ entry ∷ []) ≡ drawn_tables history ++ table_drawn_in entry.event
drawn_tables_push history entry = flat_push (λ (e : Entry). table_drawn_in e.event) history entry

pub drawn_table_grows : (history : List Entry) (entry : Entry) (id : ℕ) → IsTrue (contains (drawn_tables history) id) → IsTrue (contains (drawn_tables (history ++ entry ∷ [])) id)
drawn_table_grows history entry id h = rw (drawn_tables_push history entry) (contains_front (drawn_tables history) (table_drawn_in entry.event) id h)

pub drawn_jobs_push : (history : List Entry) (entry : Entry) → drawn_jobs (history ++ entry ∷ []) ≡ drawn_jobs history ++ job_drawn_in entry.event
drawn_jobs_push history entry = flat_push (λ (e : Entry). job_drawn_in e.event) history entry

pub drawn_job_grows : (history : List Entry) (entry : Entry) (id : ℕ) → IsTrue (contains (drawn_jobs history) id) → IsTrue (contains (drawn_jobs (history ++ entry ∷ [])) id)
drawn_job_grows history entry id h = rw (drawn_jobs_push history entry) (contains_front (drawn_jobs history) (job_drawn_in entry.event) id h)

pub last_name_grows : (history : List Entry) (entry : Entry) → last_name history ≤ last_name (history ++ entry ∷ [])
last_name_grows [] entry = omega arith
last_name_grows (first ∷ history) entry = let further = last_name_grows history entry in omega (arith, further)

pub piece_grows : (history : List Entry) (entry : Entry) (id : ℕ) → IsKnownPiece history id → IsKnownPiece (history ++ entry ∷ []) id
piece_grows history entry id (inl drawn) = inl (drawn_table_grows history entry id drawn)
piece_grows history entry id (inr flushed) = inr (flushed_grows history entry id flushed)

pub table_grows : (history : List Entry) (entry : Entry) (id : ℕ) → IsKnownTable history id → IsKnownTable (history ++ entry ∷ []) id
table_grows history entry id (inl drawn) = inl (drawn_table_grows history entry id drawn)
table_grows history entry id (inr low) = let further = last_name_grows history entry in inr (omega (arith, low, further))

pub flush_grows : (history : List Entry) (entry : Entry) (node : Node) (name : NodeName) → IsFlush history node name → IsFlush (history ++ entry ∷ []) node name
flush_grows history entry node (L0 name) h = (flushed_grows history entry name h.0, h.1, h.2)
flush_grows history entry node (Run id) h = all_to _ _ node.flushes (λ name there old. flushed_grows history entry name old) h

pub passed_grows : (history : List Entry) (entry : Entry) (ns : List NodeName) (mark : Option ℕ) → IsPassed history ns mark → IsPassed (history ++ entry ∷ []) ns mark
passed_grows history entry ns None h = tt
passed_grows history entry ns (Some flush) h = (flushed_grows history entry flush h.0, h.1)

pub source_grows : (history : List Entry) (entry : Entry) (name : NodeName) → IsFlushed history name → IsFlushed (history ++ entry ∷ []) name
source_grows history entry (L0 name) h = flushed_grows history entry name h
source_grows history entry (Run id) h = tt

pub pieces_grow : (history : List Entry) (entry : Entry) (past : List Manifest) (trees : Trees) → PiecesKept history past trees → PiecesKept (history ++ entry ∷ []) past trees
pieces_grow history entry past trees h = record {
  pieces = all_to _ _ past (λ manifest there old. all_to _ _ _ (λ id one known. piece_grows history entry id known) old) h.pieces;
  flushes = all_to _ _ trees (λ s there old. all_to _ _ s.tree (λ node one flush. flush_grows history entry node node.name flush) old) h.flushes;
  watermarks = all_to _ _ trees (λ s there old. passed_grows history entry (names s.tree) s.watermark old) h.watermarks;
  apart = h.apart;
}

pub up_to_grows : (history : List Entry) (entry : Entry) (jobs : Jobs) (a : ℕ × ℕ) → IsUpTo history jobs a → IsUpTo (history ++ entry ∷ []) jobs a
up_to_grows history entry jobs a h = (named_grows history entry a.0 h.0, h.1)

-- ---- what a quiet entry leaves

pub joined_stays : (history : List Entry) (entry : Entry) (id : ℕ) → (joins id entry.event && stood entry.answer) ≡ false → was_joined (history ++ entry ∷ []) id ≡ was_joined history id
joined_stays history entry id fails = any_push_no (λ (e : Entry). joins id e.event && stood e.answer) history entry fails

pub beaten_stays_so : (history : List Entry) (entry : Entry) (id : ℕ) → (beats id entry.event && stood entry.answer) ≡ false → was_beaten (history ++ entry ∷ []) id ≡ was_beaten history id
beaten_stays_so history entry id fails = any_push_no (λ (e : Entry). beats id e.event && stood e.answer) history entry fails

-- An entry that says nothing of a job leaves what the facts say of the job.
pub facts_quiet : (history : List Entry) (entry : Entry) (past : List Manifest) (trees : Trees) (job : Job) → IsQuietFor (stood entry.answer) entry.event job.id → JobFacts history past trees job → JobFacts (history ++ entry ∷ []) past trees job
facts_quiet history entry past trees job quiet h =
    let joined = joined_stays history entry job.id (quiet.joins) in
    record {
      named = named_grows history entry job.id h.named;
      unbeaten = λ is. beaten_stays_so history entry job.id (quiet.beats) ∙ h.unbeaten is;
      unleased = h.unleased;
      flushed = λ holds. all_to _ _ job.spec.sources (λ name there old. source_grows history entry name old) (h.flushed holds);
      drawn = λ active. all_to _ _ _ (λ id there old. drawn_table_grows history entry id old) (h.drawn active);
      unused = λ unjoined. h.unused (subst (λ b. IsTrue (is_active job && not b)) joined unjoined);
      late = λ was. h.late (subst (λ b. IsTrue b) joined was);
      stand = λ compacted was. h.stand compacted (subst (λ b. IsTrue b) joined was);
    }
