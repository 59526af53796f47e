-- What a line that scans a range of keys replies.
use Rattle.std.proofs.Common.{◌≡◌, sym, ◌∙◌, ap, ℕ, List, cond, Bool}
use Rattle.std.specs.Prelude.{ℤ}
use Rattle.fleet_laws.proofs.Scans.{scans_answer_as_reads, stores_answer_scans}
use Rattle.script_model.specs.Script.{Scan}
use Rattle.script_model.specs.States.{Inputs, State}
use Rattle.script_model.specs.Replies.{not_retained}
use Rattle.script_model.specs.Lines.Looks.{is_not_retained}
use Rattle.script_model.specs.Lines.Scans.{keys_between, scan_reply, scan}
use Rattle.script_model.specs.LineRuns.{run_line}
use Rattle.script_model.specs.LineCourses.{course_of}
use Rattle.script_model.specs.LineSteps.{OneCourse}
use Rattle.line_laws.proofs.ReadLines.{is_retained}
use Rattle.last_laws.specs.Pages.{scanned_page}
use Rattle.last_laws.specs.ScanLines.{ScansAnswer}

scan_is : (inputs : Inputs) (number : ℕ) (old new : State) (segment from to : List ℕ) (seq : ℕ) (now : ℤ) (limit : ℕ) (answer : List ℕ) → OneCourse inputs number old (Scan segment from to seq now limit) answer new
    → run_line number old (scan inputs segment from to seq now limit old) ≡ (answer, new)
unfolding course_of
scan_is inputs number old new segment from to seq now limit answer one = ap (run_line number old) (sym one.does.is) ∙ one.ends

-- A line that scans a range is refused below the horizon or before the tick, and else prints a page of the answers.
pub scans_answer : ScansAnswer
scans_answer inputs old new segment from to seq now limit answer ran =
    let is = scan_is inputs ran.number old new segment from to seq now limit answer ran.course in
    let m = old.store.manifest in
    let printed = λ (b : Bool). cond b (not_retained m.horizon m.tick) (scan_reply (scanned_page inputs.merge old.store segment from to seq now limit)) in
    let printed_is : printed (is_not_retained m seq now) ≡ answer = ap (λ (p : List ℕ × State). p.0) is in
    record {
      refused = λ e. sym printed_is ∙ ap printed e;
      printed = λ e. sym printed_is ∙ ap printed e;
      stored = λ e. let r = is_retained m seq now e in stores_answer_scans inputs.merge old.store ran.keeps.fleet.store.stored segment (keys_between from to) seq now r.horizon r.tick;
      as_read = (scans_answer_as_reads inputs.merge old.store segment (keys_between from to) seq now).flushed;
      same = sym (ap (λ (p : List ℕ × State). p.1) is);
    }
