-- No line of a script replies that its puts were refused.
use Rattle.std.proofs.Common.{◌≡◌, refl, sym, ◌∙◌, ap, ℕ, zero, suc, ◌+◌, List, [], ◌∷◌, cond, Bool, true, false, inl, inr, ◌⊎◌, Option, Some, None}
use Rattle.std.specs.Prelude.{codes, nat_eq, ◌==◌, ◌&&◌, ℤ}
use Rattle.std.specs.List.{starts_with}
use Rattle.std.proofs.lemmas.Bool.Decides.{Decides-eqb}
use Rattle.row_model.specs.Fold.{Outcome, Merged, Refused}
use Rattle.fleet_model.specs.Reads.{flushed_read}
use Rattle.fleet_model.specs.TreeScans.{flushed_scan}
use Rattle.script_model.specs.Words.{bytes_text}
use Rattle.script_model.specs.Script.{Line, FlushRows, ReadKey, SubmitJob, SubmitDrain, SubmitFull, Poll, CommitOnly, Output, FinishJob, Scan, Settle, Together}
use Rattle.script_model.specs.States.{Inputs, State}
use Rattle.script_model.specs.Replies.{reply, read_reply, not_retained}
use Rattle.script_model.specs.LineRuns.{run_line, only_replies}
use Rattle.script_model.specs.LineCourses.{prepared_state, course_of}
use Rattle.script_model.specs.LineSteps.{OneCourse}
use Rattle.script_model.specs.Lines.Looks.{is_not_retained}
use Rattle.script_model.specs.Lines.Scans.{Page, first_page, keys_between, scan_reply}
use Rattle.script_model.specs.Lines.Settles.{is_ok, are_live, has_active, has_added, jobs_run, settled_reply, all_taken, Place, BeforePoll, HasPolled, HasClaimed, ToFinish, Answers, next_round, next_claim, next_finish, next_turn, StepTaken, StepsLead, ComeInTurn}
use Rattle.script_model.specs.Follows.{SettleStep, LineStep}
use Rattle.line_laws.specs.Lines.Refused.{RequestRefused, CalledBack, NotOwned, RefusedSo, Replied, IsDone, HasNoParty, IsStruck, IsRefused}
use Rattle.line_laws.specs.Lines.Conflicts.{is_conflict, NoneConflicts}
use Rattle.line_laws.proofs.RefusedLines.{refusals_leave}

-- ---- replies

-- What a reply has after its first byte, if it is ok.
abbrev more : List ℕ → Bool
more rest = starts_with nat_eq rest (107 ∷ [])

first_differs : (x : ℕ) (rest : List ℕ) → 111 ≡ x → is_conflict (x ∷ rest) ≡ false
first_differs x rest same = ap (λ (y : ℕ). is_conflict (y ∷ rest)) (sym same)

-- A reply that is ok is no conflict.
ok_no_conflict : (answer : List ℕ) → is_ok answer ≡ true → is_conflict answer ≡ false
ok_no_conflict [] e = refl
ok_no_conflict (x ∷ rest) e = first_differs x rest ((Decides-eqb 111 x).0 (by (111 == x) e))
  where
    by : (b : Bool) → (b && more rest) ≡ true → b ≡ true
    by true e = refl
    by false e = absurd (cc e)

read_no_conflict : (b : Bool) (answered : Option Outcome) (refused : List ℕ) → is_conflict refused ≡ false → is_conflict (cond b refused (read_reply answered)) ≡ false
read_no_conflict true answered refused none = none
read_no_conflict false None refused none = refl
read_no_conflict false (Some (Merged bytes)) refused none = refl
read_no_conflict false (Some (Refused message)) refused none = refl

scan_no_conflict : (b : Bool) (page : Page) (refused : List ℕ) → is_conflict refused ≡ false → is_conflict (cond b refused (scan_reply page)) ≡ false
scan_no_conflict true page refused none = none
scan_no_conflict false page refused none = refl

-- ---- one course

request_no_conflict : (old : State) (answer : List ℕ) (new : State) → RequestRefused old answer new → is_conflict answer ≡ false
request_no_conflict old answer new r = by r.printed
  where
    by : (answer ≡ reply (codes "invaliddbstate" ∷ [])) ⊎ ((answer ≡ reply (codes "invalidcompaction" ∷ [])) ⊎ (answer ≡ reply (codes "generate" ∷ bytes_text r.message ∷ []))) → is_conflict answer ≡ false
    by (inl printed) = ap is_conflict printed
    by (inr (inl printed)) = ap is_conflict printed
    by (inr (inr printed)) = ap is_conflict printed

finish_no_conflict : (n job : ℕ) (old : State) (answer : List ℕ) (new : State) → CalledBack n job old answer new ⊎ NotOwned n job old answer new → is_conflict answer ≡ false
finish_no_conflict n job old answer new (inl r) = ap is_conflict r.printed
finish_no_conflict n job old answer new (inr r) = ap is_conflict r.printed

replied : (inputs : Inputs) (number : ℕ) (old : State) (line : Line) (answer : List ℕ) (new : State) → OneCourse inputs number old line answer new → (RefusedSo line old answer new → is_conflict answer ≡ false) → is_conflict answer ≡ false
replied inputs number old line answer new one refused = by (refusals_leave inputs number old line answer new one).replied
  where
    by : Replied number line one.course old answer new → is_conflict answer ≡ false
    by (IsDone okay) = ok_no_conflict answer okay
    by (HasNoParty printed same) = ap is_conflict printed
    by (IsStruck r) = ap is_conflict r.printed
    by (IsRefused r) = refused r

-- A line that only says this is no conflict if that is none.
said : (number : ℕ) (s : State) (text : List ℕ) (answer : List ℕ) (new : State) → run_line number s (only_replies s text) ≡ (answer, new) → is_conflict text ≡ false → is_conflict answer ≡ false
said number s text answer new is none = ap is_conflict (sym (ap (λ (p : List ℕ × State). p.0) is)) ∙ none

look : (inputs : Inputs) (number : ℕ) (segment key : List ℕ) (seq : ℕ) (now : ℤ) (refusal : Option (List ℕ)) (s : State) (answer : List ℕ) (new : State) → run_line number s (course_of inputs (ReadKey segment key seq now) refusal s) ≡ (answer, new) → is_conflict answer ≡ false
unfolding course_of
look inputs number segment key seq now refusal s answer new is =
    said number s _ answer new is (read_no_conflict (is_not_retained s.store.manifest seq now) (flushed_read inputs.merge s.store segment key seq now) (not_retained s.store.manifest.horizon s.store.manifest.tick) refl)

page : (inputs : Inputs) (number : ℕ) (segment from to : List ℕ) (seq : ℕ) (now : ℤ) (limit : ℕ) (refusal : Option (List ℕ)) (s : State) (answer : List ℕ) (new : State) → run_line number s (course_of inputs (Scan segment from to seq now limit) refusal s) ≡ (answer, new)
    → is_conflict answer ≡ false
unfolding course_of
page inputs number segment from to seq now limit refusal s answer new is =
    said number s _ answer new is (scan_no_conflict (is_not_retained s.store.manifest seq now) (first_page limit (flushed_scan inputs.merge s.store segment (keys_between from to) seq now)) (not_retained s.store.manifest.horizon s.store.manifest.tick) refl)

ran : (inputs : Inputs) (number : ℕ) (old : State) (line : Line) (answer : List ℕ) (new : State) (one : OneCourse inputs number old line answer new) → run_line number (prepared_state line old) (course_of inputs line one.does.refusal (prepared_state line old)) ≡ (answer, new)
ran inputs number old line answer new one = ap (run_line number (prepared_state line old)) (sym one.does.is) ∙ one.ends

-- The reply of one course is no conflict.
one_no_conflict : (inputs : Inputs) (number : ℕ) (old : State) (line : Line) (answer : List ℕ) (new : State) → OneCourse inputs number old line answer new → is_conflict answer ≡ false
one_no_conflict inputs number old (ReadKey segment key seq now) answer new one = look inputs number segment key seq now one.does.refusal old answer new (ran inputs number old (ReadKey segment key seq now) answer new one)
one_no_conflict inputs number old (Scan segment from to seq now limit) answer new one = page inputs number segment from to seq now limit one.does.refusal old answer new (ran inputs number old (Scan segment from to seq now limit) answer new one)
one_no_conflict inputs number old (FlushRows name segment floor tick rows) answer new one = replied inputs number old (FlushRows name segment floor tick rows) answer new one (λ r. ap is_conflict r.printed)
one_no_conflict inputs number old (SubmitJob segment destination sources) answer new one = replied inputs number old (SubmitJob segment destination sources) answer new one (λ r. ap is_conflict r.printed)
one_no_conflict inputs number old (SubmitDrain segment sources) answer new one = replied inputs number old (SubmitDrain segment sources) answer new one (λ r. ap is_conflict r.printed)
one_no_conflict inputs number old (SubmitFull segment) answer new one = replied inputs number old (SubmitFull segment) answer new one (request_no_conflict old answer new)
one_no_conflict inputs number old (Poll n) answer new one = replied inputs number old (Poll n) answer new one (λ r. ap is_conflict r.printed)
one_no_conflict inputs number old (CommitOnly n) answer new one = replied inputs number old (CommitOnly n) answer new one (λ r. ap is_conflict r.printed)
one_no_conflict inputs number old (Output n job place rows) answer new one = replied inputs number old (Output n job place rows) answer new one (λ r. ap is_conflict r.printed)
one_no_conflict inputs number old (FinishJob n job) answer new one = replied inputs number old (FinishJob n job) answer new one (finish_no_conflict n job old answer new)
one_no_conflict inputs number old line answer new one = replied inputs number old line answer new one (λ r. absurd r)

-- ---- settle lines

round_answers : (coordinator left begun : ℕ) (answer : List ℕ) → next_round coordinator left begun ≡ Answers answer → is_conflict answer ≡ false
round_answers coordinator zero begun answer is = let same : all_taken begun ≡ answer = cc is in ap is_conflict (sym same)
round_answers coordinator (suc left) begun answer is = absurd (cc is)

claim_answers : (active added : Bool) (coordinator worker left begun : ℕ) (answer : List ℕ) → next_claim active added coordinator worker left begun ≡ Answers answer → is_conflict answer ≡ false
claim_answers true added coordinator worker left begun answer is = absurd (cc is)
claim_answers false true coordinator worker left begun answer is = round_answers coordinator left begun answer is
claim_answers false false coordinator worker left begun answer is = let same : settled_reply begun ≡ answer = cc is in ap is_conflict (sym same)

finish_answers : (coordinator worker : ℕ) (jobs : List ℕ) (left begun : ℕ) (answer : List ℕ) → next_finish coordinator worker jobs left begun ≡ Answers answer → is_conflict answer ≡ false
finish_answers coordinator worker [] left begun answer is = round_answers coordinator left begun answer is
finish_answers coordinator worker (job ∷ jobs) left begun answer is = absurd (cc is)

-- The own reply of a settle line is no conflict.
own_answers : (coordinator worker : ℕ) (place : Place) (s : State) (answer : List ℕ) → next_turn coordinator worker place s ≡ Answers answer → is_conflict answer ≡ false
own_answers coordinator worker (BeforePoll left begun) s answer is = round_answers coordinator left begun answer is
own_answers coordinator worker (HasPolled left begun) s answer is = claim_answers (has_active s) (has_added coordinator s) coordinator worker left begun answer is
own_answers coordinator worker (HasClaimed left begun) s answer is = finish_answers coordinator worker (jobs_run worker s) left begun answer is
own_answers coordinator worker (ToFinish jobs left begun) s answer is = finish_answers coordinator worker jobs left begun answer is

steps_no_conflict : (inputs : Inputs) (number coordinator worker : ℕ) (place : Place) (s : State) (steps : List StepTaken) (answer : List ℕ) (new : State) → StepsLead inputs number s steps new → ComeInTurn coordinator worker place s steps answer → is_conflict answer ≡ false
steps_no_conflict inputs number coordinator worker place s [] answer new lead turn = own_answers coordinator worker place s answer turn
steps_no_conflict inputs number coordinator worker place s (step ∷ steps) answer new (one, lead) (to, takes, goes, stops) = by (is_ok step.reply) refl (λ rest. steps_no_conflict inputs number coordinator worker to step.after steps answer new lead rest)
  where
    by : (b : Bool) → is_ok step.reply ≡ b → (ComeInTurn coordinator worker to step.after steps answer → is_conflict answer ≡ false) → is_conflict answer ≡ false
    by true e later = later (goes e)
    by false e later = ap is_conflict (stops e).1 ∙ one_no_conflict inputs number s step.line step.reply step.after one

settle_no_conflict : (live : Bool) (inputs : Inputs) (number : ℕ) (old : State) (coordinator worker rounds : ℕ) (answer : List ℕ) (new : State) → SettleStep live inputs number old coordinator worker rounds answer new → is_conflict answer ≡ false
settle_no_conflict true inputs number old coordinator worker rounds answer new run = steps_no_conflict inputs number coordinator worker (BeforePoll rounds 0) old run.steps answer new run.lead run.in_turn
settle_no_conflict false inputs number old coordinator worker rounds answer new one = one_no_conflict inputs number old (Settle coordinator worker rounds) answer new one

-- ---- all lines

line_no_conflict : (inputs : Inputs) (number : ℕ) (old : State) (line : Line) (answer : List ℕ) (new : State) → LineStep inputs number old line answer new → is_conflict answer ≡ false
line_no_conflict inputs number old (Settle coordinator worker rounds) answer new step = settle_no_conflict (are_live coordinator worker old) inputs number old coordinator worker rounds answer new step
line_no_conflict inputs number old (Together workers turns) answer new step = absurd step
line_no_conflict inputs number old line answer new step = one_no_conflict inputs number old line answer new step

pub none_conflicts : NoneConflicts
none_conflicts inputs number old [] [] new run = tt
none_conflicts inputs number old (line ∷ lines) (answer ∷ answers) new (mid, step, rest) = (line_no_conflict inputs number old line answer mid step, none_conflicts inputs (number + 1) mid lines answers new rest)
none_conflicts inputs number old [] (answer ∷ answers) new run = absurd run
none_conflicts inputs number old (line ∷ lines) [] new run = absurd run
