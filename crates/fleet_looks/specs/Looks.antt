-- What lines look at: the tables that a node of a program's tree names, and the answers of reads and scans.
use Rattle.std.specs.Prelude.{◌≡◌, ℕ, ℤ, ◌==◌, if◌then◌else◌, List, [], ◌∷◌, find, bytes_eq, codes, Option, Some, None, option_map}
use Rattle.row_model.specs.Fold.{Operator}
use Rattle.row_model.specs.Ranges.{Range, is_in_range}
use Rattle.fleet_model.specs.Nodes.{NodeName, L0, Run}
use Rattle.fleet_model.specs.Reads.{flushed_read}
use Rattle.fleet_model.specs.Store.{Store}
use Rattle.fleet_model.specs.TreeScans.{flushed_scan}
use Rattle.script_model.specs.Lines.Looks.{is_not_retained}
use Rattle.script_model.specs.Lines.Scans as lines
use Rattle.script_model.specs.Lines.Scans.{first_page, keys_between, scan_reply}
use Rattle.script_model.specs.Replies.{not_retained, read_reply, reply}
use Rattle.script_model.specs.Words.{bytes_text}
use Rattle.fleet_read.specs.declared.answer.PageEnd.{PageEnd}
use Rattle.fleet_read.specs.declared.answer.PageEnd.TheVariants.{NoneLeft, RefusedAt, StopsBefore}
use Rattle.fleet_read.specs.declared.answer.ReadAnswer.{ReadAnswer}
use Rattle.fleet_read.specs.declared.answer.ReadAnswer.TheVariants.{Value, Nothing, NotRetained, Callback}
use Rattle.fleet_read.specs.declared.answer.ScanAnswer.{ScanAnswer}
use Rattle.fleet_read.specs.declared.answer.ScanAnswer.TheVariants as scanned
use Rattle.fleet_read.specs.declared.answer.ScanPage.{ScanPage}
use Rattle.fleet_tree.specs.Trees.{trees_with_prefix}
use Rattle.fleet_tree.specs.Views.{View}
use Rattle.fleet_tree.specs.declared.manifest.ManifestCore.{ManifestCore}
use Rattle.fleet_tree.specs.declared.tree.LsmTreeState.{LsmTreeState}

-- The views of the node with this name, if the tree has it.
abbrev pub views_named : NodeName → LsmTreeState → Option (List View)
views_named (L0 name) tree = option_map (λ (view : View). view ∷ []) (find (λ view. name == view.id) tree.l0)
views_named (Run id) tree = option_map (λ run. run.views) (find (λ run. id == run.id) tree.compacted)

-- The same, if there is a tree.
abbrev pub views_in_tree : NodeName → Option (List ℕ × LsmTreeState) → Option (List View)
views_in_tree node None = None
views_in_tree node (Some s) = views_named node s.1

-- The views of the node of a segment's tree.
abbrev pub views_at : ManifestCore → List ℕ → NodeName → Option (List View)
views_at core segment node = views_in_tree node (find (λ s. bytes_eq segment s.0) (trees_with_prefix core))

-- The reply that shows the answer of a read.
abbrev pub answer_reply : ReadAnswer → List ℕ
answer_reply (Value bytes) = reply (codes "value" ∷ bytes_text bytes ∷ [])
answer_reply Nothing = read_reply None
answer_reply (NotRetained least tick) = not_retained least tick
answer_reply (Callback message) = reply (codes "callback" ∷ bytes_text message ∷ [])

-- The reply to a read of a key over all rows that were flushed into the segment and not drained.
abbrev pub read_said : (merge : Operator) (store : Store) → (segment key : List ℕ) → (seq : ℕ) (now : ℤ) → List ℕ
read_said merge store segment key seq now =
    if is_not_retained store.manifest seq now then not_retained store.manifest.horizon store.manifest.tick
    else read_reply (flushed_read merge store segment key seq now)

-- The same keys lie in both ranges.
abbrev pub AreAlike : (one other : Range) → Type 0
AreAlike one other = (key : List ℕ) → is_in_range one key ≡ is_in_range other key

-- How a page ended, as the model's end.
abbrev pub end_read : PageEnd → lines.ScanEnd
end_read NoneLeft = lines.NoneLeft
end_read (RefusedAt key message) = lines.RefusedAt key message
end_read (StopsBefore key) = lines.StopsBefore key

-- A page of the program, as the model's page.
abbrev pub page_read : ScanPage → lines.Page
page_read page = record { pairs = page.pairs; ends = end_read page.ends }

-- The reply that shows the answer of a scan.
abbrev pub scan_answer_reply : ScanAnswer → List ℕ
scan_answer_reply (scanned.NotRetained least tick) = not_retained least tick
scan_answer_reply (scanned.Page page) = scan_reply (page_read page)

-- The reply to a scan of the keys between two keys, over all rows that were flushed into the segment and not
-- drained.
abbrev pub scan_said : (merge : Operator) (store : Store) → (segment from to : List ℕ) → (seq : ℕ) (now : ℤ) (limit : ℕ)
    → List ℕ
scan_said merge store segment from to seq now limit =
    if is_not_retained store.manifest seq now then not_retained store.manifest.horizon store.manifest.tick
    else scan_reply (first_page limit (flushed_scan merge store segment (keys_between from to) seq now))
