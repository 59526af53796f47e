-- What reading answers for a text with a first bad line, and for a text that is a script.
use Rattle.std.proofs.Common.{◌≡◌, ℕ, List, refl, Result, Ok, Err, IfOk, IfErr, ◌⊎◌, inl, inr}
use Rattle.script_model.specs.Script.{IsScript, IsBadAt}
use Rattle.script_model.specs.Script as model
use Rattle.script_model.specs.Grammars.{served_grammar}
use Rattle.script_laws.specs.Laws.{IsBounded}
use Rattle.script_laws.proofs.Scripts.{script_not_bad, bad_line_is_one}
use Rattle.fleet_text.specs.declared.error.TextError.{TextError}
use Rattle.fleet_text.specs.declared.error.TextError.TheVariants.{BadLine, Memory}

bounded : IsBounded served_grammar
bounded before line h = h.0.0

pub first_bad : {T : Type 0} (lines : T → List model.Line) (text : List ℕ) (r : Result T TextError) → IfOk r (λ x. IsScript served_grammar text (lines x)) → ((n : ℕ) → r ≡ Err (BadLine n) → IsBadAt served_grammar text n)
    → (n : ℕ) → IsBadAt served_grammar text n → (r ≡ Err (BadLine n)) ⊎ (r ≡ Err Memory)
first_bad lines text (Ok x) found bad n b = absurd (script_not_bad served_grammar bounded text (lines x) n found b)
first_bad lines text (Err (BadLine m)) found bad n b = let same = bad_line_is_one served_grammar bounded text m n (bad m refl) b in inl (rw same refl)
first_bad lines text (Err Memory) found bad n b = inr refl

pub script_is_read : {T : Type 0} (text : List ℕ) (r : Result T TextError) → ((n : ℕ) → r ≡ Err (BadLine n) → IsBadAt served_grammar text n) → (lines : List model.Line) → IsScript served_grammar text lines → IfErr r (λ e. e ≡ Memory)
script_is_read text (Ok x) bad lines s = tt
script_is_read text (Err (BadLine n)) bad lines s = absurd (script_not_bad served_grammar bounded text lines n s (bad n refl))
script_is_read text (Err Memory) bad lines s = refl
