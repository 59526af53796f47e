-- What a line that reads a key replies.
use Rattle.std.proofs.Common.{◌≡◌, refl, sym, ◌∙◌, ap, ℕ, ◌≤◌, List, [], ◌∷◌, ◌++◌, cond, Bool, true, false}
use Rattle.std.specs.Prelude.{ℤ, ◌||◌, nat_lt, int_lt, int_le, IsTrue, flat_map}
use Rattle.std.proofs.lemmas.Grind.{flat_map-append}
use Rattle.row_model.specs.Rows.{Row, rows_of_key, sorted_rows}
use Rattle.row_model.specs.Read.{read}
use Rattle.fleet_model.specs.Nodes.{Tables, table_rows, Tree, tree_at, flushed_node_rows}
use Rattle.std.proofs.lemmas.Bool.{ltb-false}
use Rattle.fleet_model.specs.Store.{Manifest}
use Rattle.fleet_model.specs.Reads.{flushed_read}
use Rattle.fleet_laws.proofs.StoredReads.{stores_answer_reads}
use Rattle.course_laws.proofs.Flushes.{tick_rises}
use Rattle.script_model.specs.Script.{ReadKey}
use Rattle.script_model.specs.States.{Inputs, State}
use Rattle.script_model.specs.Replies.{read_reply, not_retained}
use Rattle.script_model.specs.Lines.Looks.{is_not_retained, read_line}
use Rattle.script_model.specs.LineRuns.{run_line}
use Rattle.script_model.specs.LineCourses.{course_of}
use Rattle.script_model.specs.LineSteps.{OneCourse}
use Rattle.line_laws.specs.Undrained.{flushes_in, undrained_flushes}
use Rattle.line_laws.specs.Lines.ReadLines.{ReadsAnswer}

-- What a read that is not refused asks of the horizon and the tick.
pub record IsRetained (m : Manifest) (seq : ℕ) (now : ℤ) : Type 0 where
  pub horizon : m.horizon ≤ seq
  pub tick : IsTrue (int_le m.tick now)

pub is_retained : (m : Manifest) (seq : ℕ) (now : ℤ) → is_not_retained m seq now ≡ false → IsRetained m seq now
is_retained m seq now e = by (nat_lt seq m.horizon) (int_lt now m.tick) refl refl e
  where
    by : (a b : Bool) → nat_lt seq m.horizon ≡ a → int_lt now m.tick ≡ b → (a || b) ≡ false → IsRetained m seq now
    by true b low early e = absurd (cc e)
    by false true low early e = absurd (cc e)
    by false false low early e = record { horizon = ltb-false seq m.horizon low; tick = tick_rises now m.tick early }

read_is : (inputs : Inputs) (number : ℕ) (old new : State) (segment key : List ℕ) (seq : ℕ) (now : ℤ) (answer : List ℕ) → OneCourse inputs number old (ReadKey segment key seq now) answer new → run_line number old (read_line inputs segment key seq now old) ≡ (answer, new)
unfolding course_of
read_is inputs number old new segment key seq now answer one = ap (run_line number old) (sym one.does.is) ∙ one.ends

-- The rows of nodes are those of their flushes.
rows_of_flushes : (tables : Tables) (tree : Tree) → flat_map (flushed_node_rows tables) tree ≡ flat_map (table_rows tables) (flushes_in tree)
rows_of_flushes tables [] = refl
rows_of_flushes tables (node ∷ tree) = ap (λ (rows : List Row). flat_map (table_rows tables) node.flushes ++ rows) (rows_of_flushes tables tree) ∙ sym (flat_map-append (table_rows tables) node.flushes (flushes_in tree))

-- A line that reads a key is refused below the horizon or before the tick, and else prints the fold of flushed rows.
pub reads_answer : ReadsAnswer
reads_answer inputs old new segment key seq now answer ran =
    let is = read_is inputs ran.number old new segment key seq now answer ran.course in
    let m = old.store.manifest in
    let k = ran.keeps.fleet.store in
    let printed = λ (b : Bool). cond b (not_retained m.horizon m.tick) (read_reply (flushed_read inputs.merge old.store segment key seq now)) in
    let printed_is : printed (is_not_retained m seq now) ≡ answer = ap (λ (p : List ℕ × State). p.0) is in
    record {
      refused = λ e. sym printed_is ∙ ap printed e;
      counted = record { past = ran.keeps.past; specs = k.stored.replay.specs; faithful = k.faithful; flushes = undrained_flushes old.store.tables k.stored.replay.specs segment old.store.history; are = refl };
      flushed = ap (λ (rows : List Row). read inputs.merge key seq now (sorted_rows (rows_of_key key rows))) (rows_of_flushes old.store.tables (tree_at segment m.trees) ∙ ap (flat_map (table_rows old.store.tables)) (ran.keeps.fleet.flushes k.stored.replay.specs k.faithful segment));
      printed = λ e. sym printed_is ∙ ap printed e;
      stored = λ e. let r = is_retained m seq now e in stores_answer_reads inputs.merge old.store ran.keeps.fleet.store.stored segment key seq now r.horizon r.tick;
      same = sym (ap (λ (p : List ℕ × State). p.1) is);
    }
