-- Each line but a together line goes on, also if the operator refuses a fold.
use Rattle.std.proofs.Common.{◌≡◌, refl, sym, subst, ℕ, zero, suc, ◌+◌, ◌<◌, ◌≤◌, List, [], ◌∷◌, ◌++◌, length, cond, Bool, true, false, inl, inr, ◌⊎◌, Option, Some, None, arith}
use Rattle.std.specs.Prelude.{◌&&◌, nat_le, filter}
use Rattle.std.specs.List.{AllByRecursion, concat, list_all}
use Rattle.std.proofs.lemmas.Bool.Decides.{leb_tells}
use Rattle.row_model.specs.Ranges.{Range}
use Rattle.row_model.specs.Rows.{Row}
use Rattle.fleet_model.specs.Work.Attempts.{source_rows}
use Rattle.fleet_model.specs.Work.Parties.{Attempt, LiveWorker}
use Rattle.script_model.specs.Script.{Line, Output, FinishJob, Settle, Poll, ClaimJobs, Together, Grammar, AreLines, IsScript}
use Rattle.script_model.specs.Grammars.{full_grammar, served_grammar, is_served}
use Rattle.script_model.specs.States.{Inputs, State, FleetOptions, fresh_state}
use Rattle.script_model.specs.LineRuns.{run_line}
use Rattle.script_model.specs.LineCourses.{prepared_state, course_of, job_at, range_at}
use Rattle.script_model.specs.Refusals.{IsRefusal, OutputMay, FinishMay, left_in, is_whole, below, key_before}
use Rattle.script_model.specs.LineSteps.{MayRefuse, OneCourse}
use Rattle.script_model.specs.Lines.Settles.{is_ok, are_live, jobs_run, has_active, has_added, settled_reply, all_taken}
use Rattle.script_model.proofs.Rounds.{settle_folds, EndsOr, Step, FinishesInTurn, AfterPoll, Rounds}
use Rattle.script_model.specs.Follows.{SettleStep}
use Rattle.line_laws.specs.Goes.{is_together, LinesGo, ScriptsGo, CanFollow, TextsGo}
use Rattle.line_laws.proofs.FoundRefusals.{range_refused}

-- There is a reply and a state with this property.
record Some2 (P : List ℕ → State → Type 0) : Type 0 where
  answer : List ℕ
  new : State
  has : P answer new

-- ---- what the operator may do

-- An output may succeed or be refused.
pub output_may : (inputs : Inputs) (s : State) (rows : ℕ) (o : Option (LiveWorker × Attempt × (Range × List ℕ))) → (message : Option (List ℕ)) × OutputMay inputs s rows o message
output_may inputs s rows None = (None, refl)
output_may inputs s rows (Some found) = by (left_in inputs s found.1 found.2).whole refl
  where
    left : List Row
    left = (left_in inputs s found.1 found.2).rows

    last : Option (List ℕ)
    last = key_before inputs s found.1 found.2.0

    fewer : (test : Row → Bool) (xs : List Row) → length (filter test xs) ≤ length xs
    fewer test [] = omega arith
    fewer test (x ∷ xs) = one (test x) (fewer test xs)
      where
        one : (b : Bool) → length (filter test xs) ≤ length xs → length (cond b (x ∷ filter test xs) (filter test xs)) ≤ length (x ∷ xs)
        one true h = omega (arith, h)
        one false h = omega (arith, h)

    fewer_below : (key : Option (List ℕ)) → length (below key left) ≤ length left
    fewer_below None = omega arith
    fewer_below (Some key) = fewer _ left

    enough : ((nat_le rows (length left) ≡ true) × (rows ≤ length left)) ⊎ ((nat_le rows (length left) ≡ false) × (length left < rows)) → (left_in inputs s found.1 found.2).whole ≡ false → (message : Option (List ℕ)) × OutputMay inputs s rows (Some found) message
    enough (inl h) broken = (None, inr h.1)
    enough (inr h) broken =
        let m = range_refused inputs.merge found.1.context.settings found.2.0 (source_rows s.store.tables found.1.sources) broken in
        let under = fewer_below last in
        let over = h.1 in
        (Some m.0, record { refusing = broken; few = omega (arith, over, under); is_refusal = m.1 })

    by : (b : Bool) → (left_in inputs s found.1 found.2).whole ≡ b → (message : Option (List ℕ)) × OutputMay inputs s rows (Some found) message
    by true e = (None, inl e)
    by false e = enough (leb_tells rows (length left)) e

-- So may a finish.
pub finish_may : (inputs : Inputs) (s : State) (o : Option (LiveWorker × Attempt)) → (message : Option (List ℕ)) × FinishMay inputs s o message
finish_may inputs s None = (None, refl)
finish_may inputs s (Some found) = by (is_whole inputs s found.1) refl
  where
    a : Attempt
    a = found.1

    one_breaks : (ranges : List (Range × List ℕ)) → list_all (λ range. (left_in inputs s a range).whole) ranges ≡ false → (message : List ℕ) × IsRefusal inputs.merge (source_rows s.store.tables a.sources) message
    one_breaks [] broken = absurd (cc broken)
    one_breaks (range ∷ ranges) broken = at (left_in inputs s a range).whole refl broken (λ rest. one_breaks ranges rest)
      where
        at : (b : Bool) → (left_in inputs s a range).whole ≡ b → (b && list_all (λ range. (left_in inputs s a range).whole) ranges) ≡ false
            → (list_all (λ range. (left_in inputs s a range).whole) ranges ≡ false → (message : List ℕ) × IsRefusal inputs.merge (source_rows s.store.tables a.sources) message) → (message : List ℕ) × IsRefusal inputs.merge (source_rows s.store.tables a.sources) message
        at true e broken further = further broken
        at false e broken further = range_refused inputs.merge a.context.settings range.0 (source_rows s.store.tables a.sources) e

    by : (b : Bool) → is_whole inputs s a ≡ b → (message : Option (List ℕ)) × FinishMay inputs s (Some found) message
    by true e = (None, e)
    by false e = let m = one_breaks a.context.ranges e in (Some m.0, record { refusing = e; is_refusal = m.1 })

-- A line may run with some refusal of the operator or with none.
line_may : (inputs : Inputs) (line : Line) (s : State) → (message : Option (List ℕ)) × MayRefuse inputs line s message
line_may inputs (Output n job place rows) s = output_may inputs s rows (range_at s n job place)
line_may inputs (FinishJob n job) s = finish_may inputs s (job_at s n job)
line_may inputs line s = (None, refl)

-- ---- one course

once : (inputs : Inputs) (number : ℕ) (old : State) (line : Line) → Some2 (OneCourse inputs number old line)
once inputs number old line =
    let s = prepared_state line old in
    let m = line_may inputs line s in
    let course = course_of inputs line m.0 s in
    record { answer = (run_line number s course).0; new = (run_line number s course).1; has = record { course = course; does = record { refusal = m.0; may = m.1; is = refl }; ends = refl } }

-- ---- settle lines

-- A line runs as a step and has a rest after it, if there is a rest from each state.
step_goes : (inputs : Inputs) (number : ℕ) (line : Line) (old : State) (R : State → List ℕ → State → Type 0) → ((after : State) → Some2 (R after))
    → Some2 (λ answer new. Step inputs number line old answer new (λ after. R after answer new))
step_goes inputs number line old R next = by (once inputs number old line)
  where
    by : Some2 (OneCourse inputs number old line) → Some2 (λ answer new. Step inputs number line old answer new (λ after. R after answer new))
    by o = at (is_ok o.answer) refl
      where
        at : (b : Bool) → is_ok o.answer ≡ b → Some2 (λ answer new. Step inputs number line old answer new (λ after. R after answer new))
        at true e = let g = next o.new in record {
          answer = g.answer;
          new = g.new;
          has = record { replied = o.answer; after = o.new; does = o.has; rest = subst (λ (b : Bool). EndsOr b o.answer o.new g.answer g.new (R o.new g.answer g.new)) (sym e) g.has };
        }
        at false e = record {
          answer = o.answer;
          new = o.new;
          has = record { replied = o.answer; after = o.new; does = o.has; rest = subst (λ (b : Bool). EndsOr b o.answer o.new o.answer o.new (R o.new o.answer o.new)) (sym e) (refl, refl) };
        }

finishes_go : (inputs : Inputs) (number worker : ℕ) (jobs : List ℕ) (s : State) (R : State → List ℕ → State → Type 0) → ((next : State) → Some2 (R next))
    → Some2 (λ answer new. FinishesInTurn inputs number worker jobs s answer new (λ next. R next answer new))
finishes_go inputs number worker [] s R next = next s
finishes_go inputs number worker (job ∷ jobs) s R next =
    step_goes inputs number (FinishJob worker job) s (λ after answer new. FinishesInTurn inputs number worker jobs after answer new (λ next. R next answer new)) (λ after. finishes_go inputs number worker jobs after R next)

after_poll_goes : (active added : Bool) (inputs : Inputs) (number worker round : ℕ) (s : State) (R : State → List ℕ → State → Type 0) → ((next : State) → Some2 (R next))
    → Some2 (λ answer new. AfterPoll active added inputs number worker round s answer new (λ next. R next answer new))
after_poll_goes true added inputs number worker round s R next =
    step_goes inputs number (ClaimJobs worker) s (λ claimed answer new. FinishesInTurn inputs number worker (jobs_run worker claimed) claimed answer new (λ next. R next answer new))
    (λ claimed. finishes_go inputs number worker (jobs_run worker claimed) claimed R next)
after_poll_goes false true inputs number worker round s R next = next s
after_poll_goes false false inputs number worker round s R next = record { answer = settled_reply round; new = s; has = (refl, refl) }

rounds_go : (inputs : Inputs) (number coordinator worker left taken : ℕ) (s : State) → Some2 (Rounds inputs number coordinator worker left taken s)
rounds_go inputs number coordinator worker zero taken s = record { answer = all_taken taken; new = s; has = (refl, refl) }
rounds_go inputs number coordinator worker (suc left) taken s =
    step_goes inputs number (Poll coordinator) s
    (λ after answer new. AfterPoll (has_active after) (has_added coordinator after) inputs number worker (taken + 1) after answer new (λ next. Rounds inputs number coordinator worker left (taken + 1) next answer new))
    (λ after. after_poll_goes (has_active after) (has_added coordinator after) inputs number worker (taken + 1) after (λ next answer new. Rounds inputs number coordinator worker left (taken + 1) next answer new)
    (λ next. rounds_go inputs number coordinator worker left (taken + 1) next))

settle_goes : (live : Bool) (inputs : Inputs) (number : ℕ) (old : State) (coordinator worker rounds : ℕ) → Some2 (SettleStep live inputs number old coordinator worker rounds)
settle_goes true inputs number old coordinator worker rounds =
    let g = rounds_go inputs number coordinator worker rounds 0 old in record { answer = g.answer; new = g.new; has = settle_folds inputs number coordinator worker rounds old g.answer g.new g.has }
settle_goes false inputs number old coordinator worker rounds = once inputs number old (Settle coordinator worker rounds)

-- ---- all lines

pub lines_go : LinesGo
lines_go inputs number old (Settle coordinator worker rounds) e =
    let g = settle_goes (are_live coordinator worker old) inputs number old coordinator worker rounds in record { answer = g.answer; new = g.new; step = g.has }
lines_go inputs number old (Together workers turns) e = absurd (cc e)
lines_go inputs number old line e = let g = once inputs number old line in record { answer = g.answer; new = g.new; step = g.has }

pub scripts_go : ScriptsGo
scripts_go inputs number old [] each = record { answers = []; new = old; run = refl }
scripts_go inputs number old (line ∷ lines) each =
    let first = lines_go inputs number old line each.0 in
    let rest = scripts_go inputs (number + 1) first.new lines each.1 in
    record { answers = first.answer ∷ rest.answers; new = rest.new; run = (first.new, first.step, rest.run) }

-- ---- texts

-- A fleet can follow a script without together lines.
can_follow : (grammar : Grammar) (inputs : Inputs) (options : FleetOptions) (text : List ℕ) (lines : List Line) → IsScript grammar text lines → AllByRecursion (λ line. is_together line ≡ false) lines → CanFollow grammar inputs options text
can_follow grammar inputs options text lines script each =
    let r = scripts_go inputs 1 (fresh_state options) lines each in
    record { store = r.new.store; written = concat r.answers; follows = record { lines = lines; answers = r.answers; last = r.new; script = script; run = r.run; stored = refl; replies = refl } }

served_alone : (line : Line) → is_served line ≡ true → is_together line ≡ false
served_alone (Together workers turns) is = absurd (cc is)
served_alone line is = refl

all_alone : (before lines : List Line) → AreLines served_grammar before lines → AllByRecursion (λ line. is_together line ≡ false) lines
all_alone before [] are = tt
all_alone before (line ∷ lines) are = (served_alone line are.0.1, all_alone (before ++ line ∷ []) lines are.1)

pub texts_go : TextsGo
texts_go = record {
  full = λ inputs options text lines script each. can_follow full_grammar inputs options text lines script each;
  served = λ inputs options text lines script. can_follow served_grammar inputs options text lines script (all_alone [] lines script.each);
}
