-- How a script runs, line after line.
use Rattle.std.proofs.Common.{◌≡◌, refl, sym, ap, ◌∙◌, subst, ℕ, ◌+◌, suc, List, [], ◌∷◌, ◌++◌, length, length-append, append_assoc, append-nil, ◌≤◌, arith, true, Result, Ok, Err}
use Rattle.std.specs.Prelude.{OnOk}
use Rattle.std.specs.List.{concat}
use Rattle.std.proofs.lemmas.List.Folds.{concat-append}
use Rattle.row_model.specs.Fold.{Operator}
use Rattle.fleet_model.specs.Work.Scheduler.{Scheduler}
use Rattle.script_model.specs.Script.{Line, AreLines, IsScript, IsInBounds}
use Rattle.script_model.specs.Grammars.{served_grammar}
use Rattle.script_model.specs.States.{Inputs, FleetOptions, State, fresh_state}
use Rattle.script_model.specs.Follows.{LineStep, ScriptRun}
use Rattle.fleet_run.proofs.MoreLines.{run-more}
use Rattle.fleet_run.specs.declared.script.FleetError.{FleetError}
use Rattle.fleet_run.specs.Program.{ReadWhole, ReadFront, RunsFirst}
use Rattle.fleet_settle.specs.Steps.{inputs_of}
use Rattle.fleet_run.specs.Served.{BeginsScript, Ran, RanButTheEnd, RanLine, RanLineShort, RunsFront, RunsUpToFault, Served, ServedFront, ServedUpToFault}
use Rattle.fleet_run.specs.SourceAndSink.{SinkView, SourceView, Took, TookNothing, TookShort}
use Rattle.fleet_run.proofs.Written.{took_none, took_more, took_kept}

-- ---- lines

concat-one : (answers : List (List ℕ)) (answer : List ℕ) → concat (answers ++ answer ∷ []) ≡ concat answers ++ answer
concat-one answers answer = concat-append answers (answer ∷ []) ∙ ap (λ l. concat answers ++ l) (append-nil answer)

-- Of all lines, some were run so far, and these are left.
pub record RunSoFar (inputs : Inputs) (options : FleetOptions) (all left : List Line) (last : State) (old new : SinkView) : Type 0 where
  pub run : List Line
  pub parts : all ≡ run ++ left
  pub each : AreLines served_grammar run left
  pub ran : Ran inputs options run last old new
  pub never_fall : old.faults ≤ new.faults

pub run_none : (inputs : Inputs) (options : FleetOptions) (all : List Line) (fresh : State) (sink : SinkView) → fresh ≡ fresh_state options → AreLines served_grammar [] all → RunSoFar inputs options all all fresh sink sink
run_none inputs options all fresh sink is each = record {
  run = [];
  parts = refl;
  each = each;
  ran = record { answers = []; run = is; took = took_none sink };
  never_fall = omega arith;
}

-- The next line has the number of the lines before it, and one.
numbered : (all run left : List Line) (line : Line) (number : ℕ) → all ≡ run ++ line ∷ left → number + length left ≡ length all → number ≡ 1 + length run
numbered all run left line number parts place = omega (arith, place, ap length parts, length-append run (line ∷ left))

next_parts : (all run left : List Line) (line : Line) → all ≡ run ++ line ∷ left → all ≡ (run ++ line ∷ []) ++ left
next_parts all run left line parts = parts ∙ sym (append_assoc run (line ∷ []) left)

-- The lines so far and one more, of which the sink took the reply.
pub run_more : (inputs : Inputs) (options : FleetOptions) (all : List Line) (line : Line) (left : List Line) (number : ℕ) (last after : State) (old mid new : SinkView) → RunSoFar inputs options all (line ∷ left) last old mid
    → number + length left ≡ length all → RanLine inputs number line last after mid new → mid.faults ≤ new.faults → RunSoFar inputs options all left after old new
run_more inputs options all line left number last after old mid new so_far place line_ran fell =
    let ran = so_far.ran in
    record {
      run = so_far.run ++ line ∷ [];
      parts = next_parts all so_far.run left line so_far.parts;
      each = so_far.each.1;
      ran = record {
        answers = ran.answers ++ line_ran.answer ∷ [];
        run = run-more inputs 1 (fresh_state options) so_far.run ran.answers last line line_ran.answer after ran.run
            (subst (λ n. LineStep inputs n last line line_ran.answer after) (numbered all so_far.run left line number so_far.parts place) line_ran.step);
        took = rw (concat-one ran.answers line_ran.answer) (took_more old mid new (concat ran.answers) line_ran.answer ran.took line_ran.took);
      };
      never_fall = omega (arith, so_far.never_fall, fell);
    }

pub run_all : (inputs : Inputs) (options : FleetOptions) (all : List Line) (last : State) (old new : SinkView) → RunSoFar inputs options all [] last old new → Ran inputs options all last old new
run_all inputs options all last old new so_far = rw (so_far.parts ∙ append-nil so_far.run) so_far.ran

-- The lines so far and one more, of which the sink did not take the reply to its end.
pub run_part : (inputs : Inputs) (options : FleetOptions) (all : List Line) (line : Line) (left : List Line) (number : ℕ) (last after : State) (old mid new : SinkView) → RunSoFar inputs options all (line ∷ left) last old mid
    → number + length left ≡ length all → RanLineShort inputs number line last after mid new → RunsUpToFault inputs options all after old new
run_part inputs options all line left number last after old mid new so_far place line_ran =
    let ran = so_far.ran in
    let short = line_ran.short in
    record {
      run = so_far.run ++ line ∷ [];
      left = left;
      parts = next_parts all so_far.run left line so_far.parts;
      ran = record {
        answers = ran.answers;
        answer = line_ran.answer;
        run = run-more inputs 1 (fresh_state options) so_far.run ran.answers last line line_ran.answer after ran.run
            (subst (λ n. LineStep inputs n last line line_ran.answer after) (numbered all so_far.run left line number so_far.parts place) line_ran.step);
        front = short.front;
        end = short.end;
        parts = short.parts;
        some_left = short.some_left;
        took = took_more old mid new (concat ran.answers) short.front ran.took short.took;
      };
    }

-- The lines so far, and nothing of the reply to the next one.
pub run_kept : (inputs : Inputs) (options : FleetOptions) (all left : List Line) (last : State) (old mid new : SinkView) → RunSoFar inputs options all left last old mid → TookNothing mid new → RunsFront inputs options all old new
run_kept inputs options all left last old mid new so_far kept = record {
  run = so_far.run;
  left = left;
  parts = so_far.parts;
  last = last;
  ran = record { answers = so_far.ran.answers; run = so_far.ran.run; took = took_kept old mid new (concat so_far.ran.answers) so_far.ran.took kept };
}

-- ---- texts

served : (inputs : Inputs) (options : FleetOptions) (text : List ℕ) (lines : List Line) (last : State) (old new : SinkView) → IsScript served_grammar text lines → Ran inputs options lines last old new → Served inputs options text last old new
served inputs options text lines last old new script ran = record {
  written = concat ran.answers;
  follows = record { lines = lines; answers = ran.answers; last = last; script = script; run = ran.run; stored = refl; replies = refl };
  left = refl;
  took = ran.took;
}

served_up_to_fault : (inputs : Inputs) (options : FleetOptions) (text : List ℕ) (lines : List Line) (last : State) (old new : SinkView) → IsScript served_grammar text lines → RunsUpToFault inputs options lines last old new
    → ServedUpToFault inputs options text last old new
served_up_to_fault inputs options text lines last old new script runs = record { lines = lines; script = script; runs = runs }

served_front : (inputs : Inputs) (options : FleetOptions) (text : List ℕ) (lines : List Line) (old new : SinkView) → IsScript served_grammar text lines → RunsFront inputs options lines old new → ServedFront inputs options text old new
served_front inputs options text lines old new script runs = record {
  run = runs.run;
  last = runs.last;
  ran = runs.ran;
  begins = λ some. record { left = runs.left; script = subst (IsScript served_grammar text) runs.parts script };
}

-- The same, for a scheduler that is handed on: it has the same answers.
module _ (merge : Operator) (given same : Scheduler) (alike : given ≡ same) (options : FleetOptions) (text : List ℕ) (lines : List Line) (script : IsScript served_grammar text lines) (old new : SinkView) where
  pub served_by : (last : State) (r : Result (Unit {0}) FleetError) → OnOk r (Ran (inputs_of merge given) options lines last old new) → OnOk r (Served (inputs_of merge same) options text last old new)
  served_by last (Ok x) ran = subst (λ (s : Scheduler). Served (inputs_of merge s) options text last old new) alike (served (inputs_of merge given) options text lines last old new script ran)
  served_by last (Err e) ran = ran

  pub served_up_to_fault_by : (last : State) → RunsUpToFault (inputs_of merge given) options lines last old new → ServedUpToFault (inputs_of merge same) options text last old new
  served_up_to_fault_by last runs =
      subst (λ (s : Scheduler). ServedUpToFault (inputs_of merge s) options text last old new) alike (served_up_to_fault (inputs_of merge given) options text lines last old new script runs)

  pub served_front_by : RunsFront (inputs_of merge given) options lines old new → ServedFront (inputs_of merge same) options text old new
  served_front_by runs = subst (λ (s : Scheduler). ServedFront (inputs_of merge s) options text old new) alike (served_front (inputs_of merge given) options text lines old new script runs)

-- No line was run.
ran_none : (inputs : Inputs) (options : FleetOptions) (sink : SinkView) → Ran inputs options [] (fresh_state options) sink sink
ran_none inputs options sink = record { answers = []; run = refl; took = took_none sink }

-- Nothing was run and nothing was written.
pub served_nothing : (inputs : Inputs) (options : FleetOptions) (text : List ℕ) (sink : SinkView) → ServedFront inputs options text sink sink
served_nothing inputs options text sink = record { run = []; last = fresh_state options; ran = ran_none inputs options sink; begins = λ some. absurd (some refl) }

-- ---- the program

-- Nothing was run, whatever the source gave.
pub runs_nothing : (inputs : Inputs) (options : FleetOptions) (source_old source_new : SourceView) (sink : SinkView) → ReadFront source_old source_new → RunsFirst inputs options source_old source_new sink sink
runs_nothing inputs options source_old source_new sink front = record { run = []; last = fresh_state options; front = front; ran = ran_none inputs options sink; reads = λ some. absurd (some refl) }

-- The first lines of a text were run, and the source gave that text and ended.
pub runs_first : (inputs : Inputs) (options : FleetOptions) (text : List ℕ) (source_old source_new : SourceView) (sink_old sink_new : SinkView) → ReadWhole text source_old source_new → ServedFront inputs options text sink_old sink_new
    → RunsFirst inputs options source_old source_new sink_old sink_new
runs_first inputs options text source_old source_new sink_old sink_new read served = record {
  run = served.run;
  last = served.last;
  front = record { text = text; bytes = read.bytes; given = read.given };
  ran = served.ran;
  reads = λ some. record { text = text; read = read; begins = served.begins some };
}
