-- The replies. Each line of a script has one line of text as its reply.
use Rattle.std.specs.Prelude.{ℕ, ◌-◌, Bool, true, false, nat_le, if◌then◌else◌, ℤ, List, [], ◌∷◌, ◌++◌, map, length, Option, Some, None, codes, decimal}
use Rattle.std.specs.List.{join_with_byte}
use Rattle.std.specs.Fmt.{signed_decimal}
use Rattle.row_model.specs.Rows.{Row}
use Rattle.row_model.specs.Fold.{Outcome, Merged, Refused}
use Rattle.fleet_model.specs.Nodes.{Tables, table_rows, Node, Segment, Trees, names}
use Rattle.fleet_model.specs.Jobs.{number_of, drawn_base, Status, Submitted, Scheduled, Running, Compacted, Completed, Failed, Context, Job, Jobs, Lease}
use Rattle.fleet_model.specs.Work.Polls.{PollState}
use Rattle.fleet_model.specs.Work.Parties.{Attempt}
use Rattle.script_model.specs.Words.{bytes_text, list_text, comma, nodes_text, flag_text}

-- A reply: its words, with a space between each two, and a newline at the end.
abbrev pub reply : List (List ℕ) → List ℕ
reply words = join_with_byte 32 words ++ 10 ∷ []

-- The reply of a line that has nothing else to say.
abbrev pub ok : List ℕ
ok = reply (codes "ok" ∷ [])

-- The text of numbers: a list with commas.
abbrev pub numbers_text : List ℕ → List ℕ
numbers_text numbers = list_text comma (map decimal numbers)

-- The text of jobs: a list with commas of the numbers of their ids.
abbrev pub jobs_text : List ℕ → List ℕ
jobs_text jobs = numbers_text (map number_of jobs)

-- The text of a table: the letter t and the number of its draw, or the letter l and the name of its
-- flush.
abbrev pub table_text : ℕ → List ℕ
table_text table =
    if nat_le drawn_base (number_of table) then codes "t" ++ decimal (number_of table - drawn_base)
    else codes "l" ++ decimal table

-- The text of tables: a list with commas.
abbrev pub tables_text : List ℕ → List ℕ
tables_text tables = list_text comma (map table_text tables)

-- The byte of a bar.
abbrev pub bar : ℕ
bar = 124

-- The text of ranges: the tables of each range, with a bar between each two ranges.
abbrev pub ranges_text : List (List ℕ) → List ℕ
ranges_text ranges = join_with_byte bar (map tables_text ranges)

-- The text of a job with the number of the rule that it fails.
abbrev pub rule_text : ℕ × ℕ → List ℕ
rule_text p = decimal (number_of p.0) ++ codes ":" ++ decimal p.1

-- The text of jobs with their rules: a list with commas.
abbrev pub rules_text : List (ℕ × ℕ) → List ℕ
rules_text rules = list_text comma (map rule_text rules)

-- The text of a dropped proposal: its place with rule 9.
abbrev pub place_text : ℕ → List ℕ
place_text place = decimal place ++ codes ":9"

-- The text of dropped proposals: a list with commas.
abbrev pub places_text : List ℕ → List ℕ
places_text places = list_text comma (map place_text places)

-- The reply to a read: its value, `none`, or the operator's message if it refuses a fold.
abbrev pub read_reply : Option Outcome → List ℕ
read_reply None = reply (codes "none" ∷ [])
read_reply (Some (Merged bytes)) = reply (codes "value" ∷ bytes_text bytes ∷ [])
read_reply (Some (Refused message)) = reply (codes "callback" ∷ bytes_text message ∷ [])

-- The reply to a refused read: the stored horizon and the stored tick.
abbrev pub not_retained : ℕ → ℤ → List ℕ
not_retained horizon tick = reply (codes "notretained" ∷ decimal horizon ∷ signed_decimal tick ∷ [])

-- The reply to a poll: what it did with which jobs.
abbrev pub poll_reply : PollState → List ℕ
poll_reply p = reply (codes "ok"
    ∷ codes "freed" ∷ jobs_text p.freed ∷ codes "done" ∷ jobs_text p.done ∷ codes "lost" ∷ rules_text p.lost
    ∷ codes "added" ∷ jobs_text (map (λ a. a.0) p.added) ∷ codes "dropped" ∷ places_text p.dropped
    ∷ codes "open" ∷ jobs_text p.opened ∷ codes "moved" ∷ jobs_text p.moved
    ∷ codes "drained" ∷ jobs_text p.drained ∷ codes "bad" ∷ rules_text p.refused ∷ [])

-- The reply to a poll that only commits: the jobs that it committed, and those that failed with
-- their rules.
abbrev pub commit_reply : PollState → List ℕ
commit_reply p = reply (codes "ok" ∷ codes "done" ∷ jobs_text p.done ∷ codes "lost" ∷ rules_text p.lost ∷ [])

-- The tables of a context, range by range.
abbrev pub tables_by_range : Context → List (List ℕ)
tables_by_range context = map (λ r. r.1) context.ranges

-- The text of an attempt at a job: the job, the attempt's number, and tables range by range.
abbrev pub begun_text : (job number : ℕ) → List (List ℕ) → List ℕ
begun_text job number tables = decimal (number_of job) ++ codes "." ++ decimal number ++ codes ":" ++ ranges_text tables

-- The text of an attempt that a claim began, with the tables of its context, which it takes over.
abbrev pub attempt_text : Attempt → List ℕ
attempt_text a = begun_text a.job a.number (tables_by_range a.context)

-- The byte of a semicolon.
abbrev pub semicolon : ℕ
semicolon = 59

-- The reply to a claim: the attempts that it began, and the jobs that it stopped.
abbrev pub claim_reply : List Attempt → List ℕ → List ℕ
claim_reply claimed stopped =
    reply
    (codes "ok" ∷ codes "claimed" ∷ list_text semicolon (map attempt_text claimed) ∷ codes "stopped" ∷ jobs_text stopped
    ∷ [])

-- The reply to a heartbeat: the jobs that the worker owns, and the jobs that it no longer owns.
abbrev pub beat_reply : (beat lost : List ℕ) → List ℕ
beat_reply beat lost = reply (codes "ok" ∷ codes "beat" ∷ jobs_text beat ∷ codes "notowner" ∷ jobs_text lost ∷ [])

-- The reply to an output: its table with the number of rows, or that no row was left.
abbrev pub output_reply : Option (ℕ × List Row) → List ℕ
output_reply None = reply (codes "ok" ∷ codes "none" ∷ [])
output_reply (Some table) = reply (codes "ok" ∷ table_text table.0 ∷ decimal (length table.1) ∷ [])

-- The reply to a together line after which no stored job is active: how many jobs were claimed, and how
-- many finished jobs were committed, in this line.
abbrev pub idle_reply : (claims commits : ℕ) → List ℕ
idle_reply claims commits =
    reply (codes "ok" ∷ codes "idle" ∷ codes "claims" ∷ decimal claims ∷ codes "commits" ∷ decimal commits ∷ [])

-- The reply to a together line after which a stored job is active, so its live parties took all their
-- turns. The numbers are those of `idle_reply`.
abbrev pub turns_reply : (claims commits : ℕ) → List ℕ
turns_reply claims commits =
    reply (codes "ok" ∷ codes "turns" ∷ codes "claims" ∷ decimal claims ∷ codes "commits" ∷ decimal commits ∷ [])

-- The text of a segment: its prefix and the nodes of its tree.
abbrev pub segment_text : Segment → List ℕ
segment_text s = bytes_text s.prefix ++ codes ":" ++ nodes_text (names s.tree)

-- The reply that shows the trees: a list with semicolons.
abbrev pub trees_reply : Trees → List ℕ
trees_reply trees = reply (codes "ok" ∷ list_text semicolon (map segment_text trees) ∷ [])

-- The name of a status, in lower case.
abbrev pub status_text : Status → List ℕ
status_text Submitted = codes "submitted"
status_text Scheduled = codes "scheduled"
status_text Running = codes "running"
status_text Compacted = codes "compacted"
status_text Completed = codes "completed"
status_text Failed = codes "failed"

-- The text of a job's worker: the letter w and its number, or a dash if there is no lease.
abbrev pub worker_text : Option Lease → List ℕ
worker_text None = codes "-"
worker_text (Some lease) = codes "w" ++ decimal lease.worker

-- The text of a context's cut, or a dash if the context has none.
abbrev pub cut_text : Bool → ℕ → List ℕ
cut_text true cut = decimal cut
cut_text false cut = codes "-"

-- The text of a context: its floor, tick, last-run flag, cut and tables, with a slash between each
-- two. It is a dash if there is no context.
abbrev pub context_text : Option Context → List ℕ
context_text None = codes "-"
context_text (Some c) =
    join_with_byte 47
    (decimal c.settings.floor ∷ signed_decimal c.settings.tick ∷ flag_text c.settings.last_run
    ∷ cut_text c.has_cut c.settings.cut ∷ ranges_text (tables_by_range c) ∷ [])

-- The text of a job: its number, status, attempt, worker and context, with a colon between each
-- two.
abbrev pub job_text : Job → List ℕ
job_text job =
    join_with_byte 58
    (decimal (number_of job.id) ∷ status_text job.status ∷ decimal job.attempt ∷ worker_text job.lease
    ∷ context_text job.context ∷ [])

-- The reply that shows the jobs: a list with semicolons.
abbrev pub jobs_reply : Jobs → List ℕ
jobs_reply jobs = reply (codes "ok" ∷ list_text semicolon (map job_text jobs) ∷ [])

-- The reply if the node or the records are not there.
abbrev pub absent_reply : List ℕ
absent_reply = reply (codes "ok" ∷ codes "absent" ∷ [])

-- The text of a table with a number of rows.
abbrev pub counted_text : ℕ × ℕ → List ℕ
counted_text counted = table_text counted.0 ++ codes ":" ++ decimal counted.1

-- The text of a table with the number of its rows.
abbrev pub held_text : Tables → ℕ → List ℕ
held_text tables table = counted_text (table, length (table_rows tables table))

-- The reply that shows the tables of a node, or `ok absent` if there is no such node.
abbrev pub tables_reply : Tables → Option Node → List ℕ
tables_reply tables None = absent_reply
tables_reply tables (Some node) = reply (codes "ok" ∷ list_text comma (map (held_text tables) node.pieces) ∷ [])
