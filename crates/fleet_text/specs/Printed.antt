-- What replies print of a program's trees, jobs, attempts and polls.
use Rattle.std.specs.Prelude.{ℕ, List, [], ◌∷◌, ◌++◌, map, codes}
use Rattle.fleet_model.specs.Nodes.{NodeName, L0, Run}
use Rattle.fleet_tree.specs.Views.{View}
use Rattle.fleet_tree.specs.declared.handle.SsTableHandle.{SsTableHandle}
use Rattle.fleet_tree.specs.declared.run.SortedRun.{SortedRun}
use Rattle.fleet_tree.specs.declared.tree.LsmTreeState.{LsmTreeState}
use Rattle.script_model.specs.Words.{bytes_text, kind_text, content_text, nodes_text, list_text, comma}
use Rattle.row_model.specs.Rows.{Content}
use Rattle.script_model.specs.Replies.{reply, jobs_text, rules_text, counted_text, begun_text}
use Rattle.fleet_text.specs.Places.{places_text}
use Rattle.fleet_text.specs.declared.report.PollReport.{PollReport}
use Rattle.fleet_text.specs.declared.report.Begun.{Begun}

-- A field of a row after the first one: a colon and its text.
abbrev pub field : List ℕ → List ℕ
field text = codes ":" ++ text

-- The two fields of a row's content: its kind and its bytes.
abbrev pub content_fields : Content → List ℕ
content_fields content = field (kind_text content) ++ field (content_text content)

-- The nodes of a tree: its flushes, newest first, and then its runs.
abbrev pub tree_nodes : LsmTreeState → List NodeName
tree_nodes t = map (λ (view : View). L0 view.id) t.l0 ++ map (λ (run : SortedRun). Run run.id) t.compacted

-- The text of tables with their numbers of rows: a list with commas.
abbrev pub counted_tables : List SsTableHandle → List ℕ
counted_tables tables = list_text comma (map (λ (table : SsTableHandle). counted_text (table.id, table.rows)) tables)

-- The text of a segment: its prefix and the nodes of its tree.
abbrev pub tree_text : List ℕ × LsmTreeState → List ℕ
tree_text s = bytes_text s.0 ++ codes ":" ++ nodes_text (tree_nodes s.1)

-- The text of an attempt that a claim began.
abbrev pub attempt_begun : Begun → List ℕ
attempt_begun b = begun_text b.job b.number b.tables

-- The reply to a poll: what it did with which jobs.
abbrev pub polled_text : PollReport → List ℕ
polled_text r = reply (codes "ok"
    ∷ codes "freed" ∷ jobs_text r.freed ∷ codes "done" ∷ jobs_text r.done ∷ codes "lost" ∷ rules_text r.lost
    ∷ codes "added" ∷ jobs_text r.added ∷ codes "dropped" ∷ places_text r.dropped ∷ codes "open" ∷ jobs_text r.opened
    ∷ codes "moved" ∷ jobs_text r.moved ∷ codes "drained" ∷ jobs_text r.drained ∷ codes "bad"
    ∷ rules_text r.refused ∷ [])
