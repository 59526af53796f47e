-- A run of lines followed by one more line is a run of all of them.
use Rattle.std.proofs.Common.{◌≡◌, refl, subst, ℕ, suc, ◌+◌, List, [], ◌∷◌, ◌++◌, length, arith}
use Rattle.script_model.specs.Script.{Line}
use Rattle.script_model.specs.States.{Inputs, State}
use Rattle.script_model.specs.Follows.{LineStep, ScriptRun}

pub run-more : (g : Inputs) (n : ℕ) (old : State) (lines : List Line) (answers : List (List ℕ)) (mid : State) (line : Line) (answer : List ℕ) (new : State)
    → ScriptRun g n old lines answers mid → LineStep g (n + length lines) mid line answer new → ScriptRun g n old (lines ++ line ∷ []) (answers ++ answer ∷ []) new
run-more g n old [] [] mid line answer new run step =
    let here : n + 0 ≡ n = omega arith in
    (new, subst (λ k. LineStep g k old line answer new) here (subst (λ s. LineStep g (n + 0) s line answer new) run step), refl)
run-more g n old (l ∷ lines) (a ∷ answers) mid line answer new (next, first, rest) step =
    let further : n + suc (length lines) ≡ (n + 1) + length lines = omega arith in
    (next, first, run-more g (n + 1) next lines answers mid line answer new rest (subst (λ k. LineStep g k mid line answer new) further step))
run-more g n old [] (a ∷ answers) mid line answer new run step = absurd run
run-more g n old (l ∷ lines) [] mid line answer new run step = absurd run
