-- The tables of each range, noted ones first.
use Rattle.std.proofs.Common.{◌≡◌, sym, ◌∙◌, ap, ℕ, ◌+◌, ◌<◌, ◌≤◌, length, drop, get_or, arith, append_assoc, List, [], ◌∷◌, ◌++◌}
use Rattle.std.proofs.Math.ListN.{drop_of_length-le}
use Rattle.std.proofs.lemmas.List.{append-nil, drop_more, length-drop}
use Rattle.fleet_tree.specs.declared.handle.SsTableHandle.{SsTableHandle}
use Rattle.fleet_plan.specs.Parts.{Part}
use Rattle.fleet_output.specs.Finishes.{noted_and}

-- While a range is left, a list is.
pub is_missing : (parts : List Part) (n count : ℕ) → n < length parts → count ≡ length (drop n parts) → count ≡ 0 → ⊥
is_missing parts n count less is none = let long = length-drop n parts in omega (arith, less, is, none, long)

module _ (parts : List Part) (all outputs : List (List SsTableHandle)) (n : ℕ) where
  -- One more list was made.
  pub noted_further : (x : List SsTableHandle) (left : List (List SsTableHandle)) (part : Part) (tables : List SsTableHandle) → n < length parts → part ≡ get_or parts n part → length (x ∷ left) ≡ length (drop n parts)
      → tables ≡ part.output_ssts ++ x → all ≡ outputs ++ noted_and (drop n parts) (x ∷ left) → (length left ≡ length (drop (n + 1) parts)) × (all ≡ (outputs ++ tables ∷ []) ++ noted_and (drop (n + 1) parts) left)
  noted_further x left part tables less is count made so_far =
      let here : drop n parts ≡ part ∷ drop (n + 1) parts = drop_more parts n part less ∙ ap (λ (q : Part). q ∷ drop (n + 1) parts) (sym is) in
      let rest = ap length here in (
        omega (arith, count, rest),
        so_far
            ∙ ap (λ ps. outputs ++ noted_and ps (x ∷ left)) here
            ∙ ap (λ (t : List SsTableHandle). outputs ++ t ∷ noted_and (drop (n + 1) parts) left) (sym made)
            ∙ sym (append_assoc outputs (tables ∷ []) (noted_and (drop (n + 1) parts) left)),
      )

  -- All lists were made.
  pub noted_all : (left : List (List SsTableHandle)) → length parts ≤ n → all ≡ outputs ++ noted_and (drop n parts) left → outputs ≡ all
  noted_all left more so_far = sym (so_far ∙ ap (λ ps. outputs ++ noted_and ps left) (drop_of_length-le parts more) ∙ append-nil outputs)
