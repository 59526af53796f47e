-- Of each list of words, whether it is that of a line in bounds.
use Rattle.std.proofs.Common.{◌≡◌, ◌≢◌, ℕ, ◌^◌, inl, inr, List, [], Option, refl, sym, ◌∙◌, arith, codes}
use Rattle.std.specs.List.{join_with_byte}
use Rattle.script_model.specs.Words.{word_of, number_word}
use Rattle.script_model.specs.Bounds.{IsSegmentOrNone, IsRetentionOrNone, IsReleaseOrNone}
use Rattle.script_model.specs.Script.{Line, Options, Clock, StartCoordinator, StartWorker, KillCoordinator, KillWorker, StopCoordinator, StopWorker, FlushRows, ReadKey, SubmitJob, SubmitDrain, SubmitFull, Poll, CommitOnly, ClaimJobs, Heartbeat, Output, FinishJob, SetFault, ShowTrees, ShowJobs, ShowTables, Dump, Sweep, Scan, Settle, Together, words, IsInBounds}
use Rattle.script_laws.proofs.LineWords.{words_lack}
use Rattle.spelling_laws.proofs.Spelt.{SpeltOrNot, joined_or_not}
use Rattle.spelling_laws.proofs.SpeltWords.{Words, number, short_number, some_below, some_up_to, up_to, stamp, short_bytes, key_bytes, flag, fault, followed, named, ends, last, optional_or_not}
use Rattle.spelling_laws.proofs.SpeltRows.{some_rows, name, one_node, some_nodes}

-- ---- a last word that may be left out

retention_or_not : (given : List (List ℕ)) → SpeltOrNot number_word IsRetentionOrNone given
retention_or_not given = optional_or_not number number_word IsRetentionOrNone refl tt (λ n. refl) (λ n h. h) (λ n h. h) given

release_or_not : (given : List (List ℕ)) → SpeltOrNot number_word IsReleaseOrNone given
release_or_not given = optional_or_not (some_up_to 2 (omega arith)) number_word IsReleaseOrNone refl tt (λ n. refl) (λ n h. h) (λ n h. h) given

segment_or_not : (given : List (List ℕ)) → SpeltOrNot word_of IsSegmentOrNone given
segment_or_not given = optional_or_not short_bytes word_of IsSegmentOrNone refl tt (λ n. refl) (λ n h. h) (λ n h. h) given

abbrev retention : Words (Option ℕ)
retention = record { spelling = number_word; Fits = IsRetentionOrNone; is_spelt_or_not = retention_or_not }

abbrev release : Words (Option ℕ)
release = record { spelling = number_word; Fits = IsReleaseOrNone; is_spelt_or_not = release_or_not }

abbrev segment_or_none : Words (Option (List ℕ))
segment_or_none = record { spelling = word_of; Fits = IsSegmentOrNone; is_spelt_or_not = segment_or_not }

-- ---- lines of a kind

-- No line of a kind that is in bounds has these words.
abbrev IsNone : {A : Type 0} → (A → Line) → List (List ℕ) → Type 0
IsNone {A} kind given = (x : A) → IsInBounds (kind x) → given ≢ words (kind x)

abbrev IsLineOrNot : List (List ℕ) → Type 0
IsLineOrNot given = SpeltOrNot words IsInBounds given

-- If the words of a kind have a form, then some words spell a line, or we go on with no line of
-- this kind.
or_else : {A : Type 0} (kind : A → Line) (form : Words A) (given : List (List ℕ)) → ((x : A) → form.spelling x ≡ words (kind x)) → ((x : A) → form.Fits x → IsInBounds (kind x)) → ((x : A) → IsInBounds (kind x) → form.Fits x) → (IsNone kind given → IsLineOrNot given)
    → IsLineOrNot given
or_else {A} kind form given same to from next = by (form.is_spelt_or_not given)
  where
    by : SpeltOrNot form.spelling form.Fits given → IsLineOrNot given
    by (inl found) = inl (kind found.0, to found.0 found.1, found.2 ∙ same found.0)
    by (inr none) = next (λ x fits e. none x (from x fits) (e ∙ sym (same x)))

-- The forms of lines with one number, and of parties.
abbrev with_number : List ℕ → Words ℕ
with_number verb = named verb (last number)

abbrev of_party : (verb party : List ℕ) → Words ℕ
of_party verb party = named verb (named party (last number))

-- Each list of words is that of a line in bounds, or of none.
pub line_or_not : (given : List (List ℕ)) → IsLineOrNot given
line_or_not given =
    or_else (λ (timeout, (concurrent, (slots, (ranges, (table_size, (moves, kept)))))). Options timeout concurrent slots ranges table_size moves kept) (named (codes "options") (followed number (followed number (followed number (followed (up_to 64 (omega arith)) (followed number (followed flag retention))))))) given (λ x. refl) (λ x h. (h.0, h.1.0, h.1.1.0, h.1.1.1.0, h.1.1.1.1.0, h.1.1.1.1.1.1)) (λ x h. (h.0, (h.1, (h.2, (h.3, (h.4, (tt, h.5))))))) λ no_options.
    or_else Clock (with_number (codes "clock")) given (λ x. refl) (λ x h. h) (λ x h. h) λ no_clock.
    or_else StartCoordinator (of_party (codes "start") (codes "coordinator")) given (λ x. refl) (λ x h. h) (λ x h. h) λ no_start_coordinator.
    or_else KillCoordinator (of_party (codes "kill") (codes "coordinator")) given (λ x. refl) (λ x h. h) (λ x h. h) λ no_kill_coordinator.
    or_else KillWorker (of_party (codes "kill") (codes "worker")) given (λ x. refl) (λ x h. h) (λ x h. h) λ no_kill_worker.
    or_else StopCoordinator (of_party (codes "stop") (codes "coordinator")) given (λ x. refl) (λ x h. h) (λ x h. h) λ no_stop_coordinator.
    or_else StopWorker (of_party (codes "stop") (codes "worker")) given (λ x. refl) (λ x h. h) (λ x h. h) λ no_stop_worker.
    or_else (λ (n, known). StartWorker n known) (named (codes "start") (named (codes "worker") (followed number release))) given (λ x. refl) (λ x h. h) (λ x h. h) λ no_start_worker.
    or_else (λ (flush, (segment, (floor, (tick, rows)))). FlushRows flush segment floor tick rows) (named (codes "flush") (followed name (followed short_bytes (followed number (followed stamp (last some_rows)))))) given (λ x. refl) (λ x h. (h.0, h.1.0, h.1.1.0, h.1.1.1.0, h.1.1.1.1.0, h.1.1.1.1.1)) (λ x h. (h.0, (h.1, (h.2, (h.3, (h.4, h.5)))))) λ no_flush.
    or_else (λ (segment, (key, (seq, now))). ReadKey segment key seq now) (named (codes "read") (followed short_bytes (followed key_bytes (followed number (last stamp))))) given (λ x. refl) (λ x h. (h.0, h.1.0, h.1.1.0, h.1.1.1)) (λ x h. (h.0, (h.1, (h.2, h.3)))) λ no_read.
    or_else (λ (segment, (destination, sources)). SubmitJob segment destination sources) (named (codes "submit") (followed short_bytes (followed short_number (last some_nodes)))) given (λ x. refl) (λ x h. (h.0, h.1.0, h.1.1)) (λ x h. (h.0, (h.1, h.2))) λ no_submit.
    or_else (λ (segment, sources). SubmitDrain segment sources) (named (codes "drain") (followed short_bytes (last some_nodes))) given (λ x. refl) (λ x h. h) (λ x h. h) λ no_drain.
    or_else SubmitFull (named (codes "full") segment_or_none) given (λ x. refl) (λ x h. h) (λ x h. h) λ no_full.
    or_else Poll (with_number (codes "poll")) given (λ x. refl) (λ x h. h) (λ x h. h) λ no_poll.
    or_else CommitOnly (with_number (codes "commit")) given (λ x. refl) (λ x h. h) (λ x h. h) λ no_commit.
    or_else ClaimJobs (with_number (codes "claim")) given (λ x. refl) (λ x h. h) (λ x h. h) λ no_claim.
    or_else Heartbeat (with_number (codes "heartbeat")) given (λ x. refl) (λ x h. h) (λ x h. h) λ no_heartbeat.
    or_else (λ (n, (job, (range, rows))). Output n job range rows) (named (codes "output") (followed number (followed (some_below (2 ^ 64) (omega arith)) (followed (some_up_to 64 (omega arith)) (last (some_below (2 ^ 32) (omega arith))))))) given (λ x. refl) (λ x h. (h.0, h.1.0.0, h.1.0.1, h.1.1.0.0, h.1.1.0.1, h.1.1.1.0, h.1.1.1.1)) (λ x h. (h.0, ((h.1, h.2), ((h.3, h.4), (h.5, h.6))))) λ no_output.
    or_else (λ (n, job). FinishJob n job) (named (codes "finish") (followed number (last (some_below (2 ^ 64) (omega arith))))) given (λ x. refl) (λ x h. (h.0, h.1.0, h.1.1)) (λ x h. (h.0, (h.1, h.2))) λ no_finish.
    or_else (λ (k, stands). SetFault k stands) (named (codes "fault") (followed (some_below (2 ^ 32) (omega arith)) (last fault))) given (λ x. refl) (λ x h. h.0) (λ x h. (h, tt)) λ no_fault.
    or_else (λ x. ShowTrees) (named (codes "trees") ends) given (λ x. refl) (λ x h. h) (λ x h. h) λ no_trees.
    or_else (λ x. ShowJobs) (named (codes "jobs") ends) given (λ x. refl) (λ x h. h) (λ x h. h) λ no_jobs.
    or_else (λ (segment, node). ShowTables segment node) (named (codes "tables") (followed short_bytes (last one_node))) given (λ x. refl) (λ x h. h) (λ x h. h) λ no_tables.
    or_else (λ (segment, node). Dump segment node) (named (codes "dump") (followed short_bytes (last one_node))) given (λ x. refl) (λ x h. h) (λ x h. h) λ no_dump.
    or_else (λ x. Sweep) (named (codes "sweep") ends) given (λ x. refl) (λ x h. h) (λ x h. h) λ no_sweep.
    or_else (λ (segment, (from, (to, (seq, (now, limit))))). Scan segment from to seq now limit) (named (codes "scan") (followed short_bytes (followed short_bytes (followed short_bytes (followed number (followed stamp (last (some_below (2 ^ 32) (omega arith))))))))) given (λ x. refl) (λ x h. (h.0, h.1.0, h.1.1.0, h.1.1.1.0, h.1.1.1.1.0, h.1.1.1.1.1.0, h.1.1.1.1.1.1)) (λ x h. (h.0, (h.1, (h.2, (h.3, (h.4, (h.5, h.6))))))) λ no_scan.
    or_else (λ (coordinator, (worker, rounds)). Settle coordinator worker rounds) (named (codes "settle") (followed number (followed number (last (some_up_to 1000000 (omega arith)))))) given (λ x. refl) (λ x h. (h.0, h.1.0, h.1.1.0, h.1.1.1)) (λ x h. (h.0, (h.1, (h.2, h.3)))) λ no_settle.
    or_else (λ (workers, turns). Together workers turns) (named (codes "together") (followed (some_up_to 16 (omega arith)) (last (some_up_to 100000 (omega arith))))) given (λ x. refl) (λ x h. (h.0.0, h.0.1, h.1.0, h.1.1)) (λ x h. ((h.0, h.1), (h.2, h.3))) λ no_together.
    inr (elim [
      | Options timeout concurrent slots ranges table_size moves kept ↦ no_options (timeout, (concurrent, (slots, (ranges, (table_size, (moves, kept))))))
      | Clock n ↦ no_clock n
      | StartCoordinator n ↦ no_start_coordinator n
      | StartWorker n known ↦ no_start_worker (n, known)
      | KillCoordinator n ↦ no_kill_coordinator n
      | KillWorker n ↦ no_kill_worker n
      | StopCoordinator n ↦ no_stop_coordinator n
      | StopWorker n ↦ no_stop_worker n
      | FlushRows flush segment floor tick rows ↦ no_flush (flush, (segment, (floor, (tick, rows))))
      | ReadKey segment key seq now ↦ no_read (segment, (key, (seq, now)))
      | SubmitJob segment destination sources ↦ no_submit (segment, (destination, sources))
      | SubmitDrain segment sources ↦ no_drain (segment, sources)
      | SubmitFull segment ↦ no_full segment
      | Poll n ↦ no_poll n
      | CommitOnly n ↦ no_commit n
      | ClaimJobs n ↦ no_claim n
      | Heartbeat n ↦ no_heartbeat n
      | Output n job range rows ↦ no_output (n, (job, (range, rows)))
      | FinishJob n job ↦ no_finish (n, job)
      | SetFault k stands ↦ no_fault (k, stands)
      | ShowTrees ↦ no_trees tt
      | ShowJobs ↦ no_jobs tt
      | ShowTables segment node ↦ no_tables (segment, node)
      | Dump segment node ↦ no_dump (segment, node)
      | Sweep ↦ no_sweep tt
      | Scan segment from to seq now limit ↦ no_scan (segment, (from, (to, (seq, (now, limit)))))
      | Settle coordinator worker rounds ↦ no_settle (coordinator, (worker, rounds))
      | Together workers turns ↦ no_together (workers, turns)
    ])

words_some : (line : Line) → words line ≢ []
words_some ShowTrees e = cc e
words_some _ e = cc e

-- A text is the words of a line in bounds with a space between each two, or of no line.
pub spelt_or_not : (text : List ℕ) → SpeltOrNot (λ line. join_with_byte 32 (words line)) IsInBounds text
spelt_or_not text = joined_or_not 32 words IsInBounds (λ line fits. (words_some line, words_lack line fits)) line_or_not text
