-- The longest series from the first runs on.
use Rattle.std.proofs.Common.{◌≡◌, sym, ◌∙◌, ap, ℕ, suc, ◌+◌, ◌<◌, ◌≤◌, List, [], ◌∷◌, ◌++◌, append_assoc, get_or, take, drop, length, cond, Bool, true, false, add-one, arith}
use Rattle.std.proofs.Math.Seq.{drop-cons, take-append_seam}
use Rattle.std.proofs.lemmas.List.{length-append, take_more}
use Rattle.sched_model.specs.Sizes.{Sized}
use Rattle.sched_model.specs.Series.{longest}

-- The runs from one on begin with it.
pub from_here : (runs : List Sized) (i : ℕ) (run : Sized) → i < length runs → run ≡ get_or runs i run → drop i runs ≡ run ∷ drop (i + 1) runs
from_here runs i run lt is = drop-cons runs i run lt ∙ ap (λ r. r ∷ drop (suc i) runs) (sym is) ∙ ap (λ n. run ∷ drop n runs) (sym (add-one i))

-- The runs up to one end with it.
pub to_here : (runs : List Sized) (i : ℕ) (run : Sized) → i < length runs → run ≡ get_or runs i run → take i runs ++ run ∷ [] ≡ take (i + 1) runs
to_here runs i run lt is = sym (take_more runs i run lt ∙ ap (λ r. take i runs ++ r ∷ []) (sym is))

module _ (may_add : List Sized → Sized → List Sized → Bool) where
  added : (series : List Sized) (run : Sized) (older : List Sized) (b : Bool) → may_add series run older ≡ b
      → longest may_add series (run ∷ older) ≡ cond b (longest may_add (series ++ run ∷ []) older) series
  added series run older b e = ap (λ t. cond t (longest may_add (series ++ run ∷ []) older) series) e

  -- A run that may be added is added.
  pub goes_on : (runs : List Sized) (i : ℕ) (run : Sized) → i < length runs → run ≡ get_or runs i run → may_add (take i runs) run (drop (i + 1) runs) ≡ true
      → longest may_add (take i runs) (drop i runs) ≡ longest may_add (take (i + 1) runs) (drop (i + 1) runs)
  goes_on runs i run lt is may =
      let here : drop i runs ≡ run ∷ drop (i + 1) runs = from_here runs i run lt is in
      let more : take i runs ++ run ∷ [] ≡ take (i + 1) runs = to_here runs i run lt is in
      ap (longest may_add (take i runs)) here
      ∙ added (take i runs) run (drop (i + 1) runs) true may
      ∙ ap (λ series. longest may_add series (drop (i + 1) runs)) more

  -- A run that may not be added ends the series.
  pub ends : (runs : List Sized) (i : ℕ) (run : Sized) → i < length runs → run ≡ get_or runs i run → may_add (take i runs) run (drop (i + 1) runs) ≡ false
      → longest may_add (take i runs) (drop i runs) ≡ take i runs
  ends runs i run lt is not_added =
      ap (longest may_add (take i runs)) (from_here runs i run lt is) ∙ added (take i runs) run (drop (i + 1) runs) false not_added

  -- A series has its first runs.
  pub not_shorter : (series older : List Sized) → length series ≤ length (longest may_add series older)
  not_shorter series [] = omega arith
  not_shorter series (run ∷ older) = by (may_add series run older) (not_shorter (series ++ run ∷ []) older)
    where
      by : (b : Bool) → length (series ++ run ∷ []) ≤ length (longest may_add (series ++ run ∷ []) older) → length series ≤ length (cond b (longest may_add (series ++ run ∷ []) older) series)
      by true h = omega (arith, length-append series (run ∷ []))
      by false h = omega arith

  -- A series consists of the next runs.
  pub is_front : (series older : List Sized) → longest may_add series older ≡ take (length (longest may_add series older)) (series ++ older)
  is_front series [] = sym (take-append_seam series [])
  is_front series (run ∷ older) = by (may_add series run older) (is_front (series ++ run ∷ []) older)
    where
      by : (b : Bool) → longest may_add (series ++ run ∷ []) older ≡ take (length (longest may_add (series ++ run ∷ []) older)) ((series ++ run ∷ []) ++ older)
          → cond b (longest may_add (series ++ run ∷ []) older) series ≡ take (length (cond b (longest may_add (series ++ run ∷ []) older) series)) (series ++ run ∷ older)
      by true h = h ∙ ap (take (length (longest may_add (series ++ run ∷ []) older))) (append_assoc series (run ∷ []) older)
      by false h = sym (take-append_seam series (run ∷ older))
