-- Passes over trees. A pass that picks nothing changes nothing.
use Rattle.std.proofs.Common.{◌≡◌, refl, sym, ◌∙◌, ap, ℕ, zero, suc, ◌+◌, ◌-◌, ◌<◌, ◌≤◌, List, [], ◌∷◌, ◌++◌, length, take, drop, cond, Bool, true, false, arith}
use Rattle.std.specs.Prelude.{Option, Some, None, is_some, nat_lt}
use Rattle.std.specs.Option.{option_or, option_to_list}
use Rattle.std.proofs.lemmas.Bool.{ltb-true, ltb-false, le-ltb}
use Rattle.std.proofs.lemmas.List.{append-nil, length-append, take-append-drop}
use Rattle.fleet_model.specs.Jobs.{JobSpec}
use Rattle.sched_model.specs.FreshRuns.{capped_id}
use Rattle.sched_model.specs.Series.{TieredOptions}
use Rattle.sched_model.specs.Picks.{Planned, Picking, flush_pick, run_pick, next_pick, with_pick, fresh_after, picked_in, pass, passes}

-- Nothing is used by no pick.
pub with_none : (t : Planned) → with_pick None t ≡ t
with_none t = ap (λ used. record t { used = used }) (append-nil t.used)

-- If flushes or runs give no pick, flushes give none.
flushes_none : (a b : Option JobSpec) → option_or a b ≡ None → a ≡ None
flushes_none None b e = refl
flushes_none (Some spec) b e = absurd (cc e)

-- A tree without a pick leaves the state of the picks.
pub picked_none : (o : TieredOptions) (t : Planned) (p : Picking) → next_pick o p.fresh t ≡ None → picked_in o t p ≡ p
picked_none o t p none =
    let flush : flush_pick o p.fresh t ≡ None = flushes_none (flush_pick o p.fresh t) (run_pick o t) none in
    let fresh : fresh_after o t p.fresh ≡ p.fresh = ap (λ pick. cond (is_some pick) (capped_id (p.fresh + 1)) p.fresh) flush in
    let picks : p.picks ++ option_to_list (next_pick o p.fresh t) ≡ p.picks = ap (λ pick. p.picks ++ option_to_list pick) none ∙ append-nil p.picks in
    ap (λ (f : ℕ). record { fresh = f; picks = p.picks ++ option_to_list (next_pick o p.fresh t) }) fresh
    ∙ ap (λ (l : List JobSpec). record { fresh = p.fresh; picks = l }) picks

module _ (o : TieredOptions) (slots : ℕ) where
  -- The state after a pass, where the test of the slots is given.
  abbrev pub passed : Bool → Planned → List Planned → Picking → List Planned × Picking
  passed b t trees p =
      cond b (with_pick (next_pick o p.fresh t) t ∷ (pass o slots trees (picked_in o t p)).0, (pass o slots trees (picked_in o t p)).1) (t ∷ trees, p)

  pub pass_with : (t : Planned) (trees : List Planned) (p : Picking) (b : Bool) → nat_lt (length p.picks) slots ≡ b → pass o slots (t ∷ trees) p ≡ passed b t trees p
  pass_with t trees p b e = ap (λ test. passed test t trees p) e

  picks_grow : (t : Planned) (p : Picking) → length p.picks ≤ length (picked_in o t p).picks
  picks_grow t p = omega (arith, length-append p.picks (option_to_list (next_pick o p.fresh t)))

  pub grows : (trees : List Planned) (p : Picking) → length p.picks ≤ length (pass o slots trees p).1.picks
  grows [] p = omega arith
  grows (t ∷ trees) p = by (nat_lt (length p.picks) slots) (grows trees (picked_in o t p))
    where
      by : (b : Bool) → length (picked_in o t p).picks ≤ length (pass o slots trees (picked_in o t p)).1.picks → length p.picks ≤ length (passed b t trees p).1.picks
      by true h = omega (arith, picks_grow t p)
      by false h = omega arith

  -- Without a free slot a pass changes nothing.
  pub full : (trees : List Planned) (p : Picking) → slots ≤ length p.picks → pass o slots trees p ≡ (trees, p)
  full [] p h = refl
  full (t ∷ trees) p h = pass_with t trees p false (le-ltb (length p.picks) slots h)

  -- A pass that adds no pick changes nothing.
  pub nothing_picked : (trees : List Planned) (p : Picking) → length (pass o slots trees p).1.picks ≡ length p.picks → pass o slots trees p ≡ (trees, p)
  nothing_picked [] p same = refl
  nothing_picked (t ∷ trees) p same = by (λ rest. nothing_picked trees p rest) (nat_lt (length p.picks) slots) refl (next_pick o p.fresh t) refl
    where
      by : (length (pass o slots trees p).1.picks ≡ length p.picks → pass o slots trees p ≡ (trees, p))
          → (b : Bool) → nat_lt (length p.picks) slots ≡ b → (pick : Option JobSpec) → next_pick o p.fresh t ≡ pick → pass o slots (t ∷ trees) p ≡ (t ∷ trees, p)
      by later false test pick is = pass_with t trees p false test
      by later true test (Some spec) is =
          let one = length-append p.picks (spec ∷ []) in
          let more : length (picked_in o t p).picks ≡ length (p.picks ++ spec ∷ []) = ap (λ k. length (p.picks ++ option_to_list k)) is in
          let rest = grows trees (picked_in o t p) in
          let all = ap (λ (r : List Planned × Picking). length r.1.picks) (pass_with t trees p true test) in
          absurd (omega (arith, one, more, rest, all))
      by later true test None is =
          let state : picked_in o t p ≡ p = picked_none o t p is in
          let tree : with_pick (next_pick o p.fresh t) t ≡ t = ap (λ k. with_pick k t) is ∙ with_none t in
          let all = ap (λ (r : List Planned × Picking). length r.1.picks) (pass_with t trees p true test) in
          let rest : length (pass o slots trees p).1.picks ≡ length p.picks = sym (ap (λ (q : Picking). length (pass o slots trees q).1.picks) state) ∙ sym all ∙ same in
          let after : pass o slots trees (picked_in o t p) ≡ (trees, p) = ap (pass o slots trees) state ∙ later rest in
          pass_with t trees p true test
          ∙ ap (λ (first : Planned). (first ∷ (pass o slots trees (picked_in o t p)).0, (pass o slots trees (picked_in o t p)).1)) tree
          ∙ ap (λ (r : List Planned × Picking). (t ∷ r.0, r.1)) after

  -- If a pass changes nothing, no number of passes picks anything.
  pub settled : (count : ℕ) (trees : List Planned) (p : Picking) → pass o slots trees p ≡ (trees, p) → passes o slots count trees p ≡ p.picks
  settled zero trees p same = refl
  settled (suc count) trees p same = ap (λ (r : List Planned × Picking). passes o slots count r.0 r.1) same ∙ settled count trees p same

  -- Passes for all free slots, or more, pick alike.
  pub enough : (n m : ℕ) (trees : List Planned) (p : Picking) → slots ≤ n + length p.picks → slots ≤ m + length p.picks → passes o slots n trees p ≡ passes o slots m trees p
  enough zero m trees p h g = sym (settled m trees p (full trees p (omega arith)))
  enough (suc n) zero trees p h g = settled (suc n) trees p (full trees p (omega arith))
  enough (suc n) (suc m) trees p h g =
      by (λ h' g'. enough n m (pass o slots trees p).0 (pass o slots trees p).1 h' g') (nat_lt (length p.picks) (length (pass o slots trees p).1.picks)) refl
    where
      by : (slots ≤ n + length (pass o slots trees p).1.picks → slots ≤ m + length (pass o slots trees p).1.picks
          → passes o slots n (pass o slots trees p).0 (pass o slots trees p).1 ≡ passes o slots m (pass o slots trees p).0 (pass o slots trees p).1)
          → (b : Bool) → nat_lt (length p.picks) (length (pass o slots trees p).1.picks) ≡ b
          → passes o slots (suc n) trees p ≡ passes o slots (suc m) trees p
      by later true e =
          let more = ltb-true (length p.picks) (length (pass o slots trees p).1.picks) e in
          later (omega (arith, more)) (omega (arith, more))
      by later false e =
          let same = nothing_picked trees p (omega (arith, grows trees p, ltb-false (length p.picks) (length (pass o slots trees p).1.picks) e)) in
          settled (suc n) trees p same ∙ sym (settled (suc m) trees p same)

  -- Passes for the free slots before a pass pick as those for the slots that are free after it.
  pub goes_on : (trees : List Planned) (p : Picking)
      → passes o slots (slots - length p.picks) trees p ≡ passes o slots (slots - length (pass o slots trees p).1.picks) (pass o slots trees p).0 (pass o slots trees p).1
  goes_on trees p =
      let more = grows trees p in
      enough (slots - length p.picks) (suc (slots - length p.picks)) trees p (omega arith) (omega arith)
      ∙ enough (slots - length p.picks) (slots - length (pass o slots trees p).1.picks) (pass o slots trees p).0 (pass o slots trees p).1 (omega (arith, more)) (omega arith)

  -- A pass that adds a pick leaves fewer free slots.
  pub smaller : (trees made : List Planned) (p q : Picking) → ◌≡◌ {A = List Planned × Picking} (made, q) (pass o slots trees p) → (length q.picks ≡ length p.picks → ⊥) → slots - length q.picks < slots - length p.picks
  smaller trees made p q is more =
      let picks : length q.picks ≡ length (pass o slots trees p).1.picks = ap (λ (r : List Planned × Picking). length r.1.picks) is in
      let above = grows trees p in
      by (nat_lt (length p.picks) slots) refl picks above
    where
      by : (b : Bool) → nat_lt (length p.picks) slots ≡ b → length q.picks ≡ length (pass o slots trees p).1.picks → length p.picks ≤ length (pass o slots trees p).1.picks
          → slots - length q.picks < slots - length p.picks
      by true e picks above =
          let free = ltb-true (length p.picks) slots e in
          omega (arith, more, free, picks, above)
      by false e picks above =
          let no_slot = full trees p (ltb-false (length p.picks) slots e) in
          absurd (more (picks ∙ ap (λ (r : List Planned × Picking). length r.1.picks) no_slot))

  -- The picks that passes make before a pass are those that they make after it.
  pub kept : (trees made : List Planned) (p q : Picking) → ◌≡◌ {A = List Planned × Picking} (made, q) (pass o slots trees p) → passes o slots (slots - length p.picks) trees p ≡ passes o slots (slots - length q.picks) made q
  kept trees made p q is = goes_on trees p ∙ sym (ap (λ (r : List Planned × Picking). passes o slots (slots - length r.1.picks) r.0 r.1) is)

  -- Passes make no pick after a pass that makes none.
  pub ended : (trees made : List Planned) (p q : Picking) → ◌≡◌ {A = List Planned × Picking} (made, q) (pass o slots trees p) → length q.picks ≡ length p.picks → (count : ℕ) → passes o slots count trees p ≡ q.picks
  ended trees made p q is same count =
      let picks = ap (λ (r : List Planned × Picking). length r.1.picks) is in
      let unchanged = nothing_picked trees p (sym picks ∙ same) in
      settled count trees p unchanged ∙ sym (ap (λ (r : List Planned × Picking). r.1.picks) (is ∙ unchanged))

  -- A pass that stops in the midst of the trees leaves the others.
  pub stops : (trees : List Planned) (i : ℕ) (p : Picking) → slots ≤ length p.picks → ◌≡◌ {A = List Planned × Picking} (take i trees ++ (pass o slots (drop i trees) p).0, (pass o slots (drop i trees) p).1) (trees, p)
  stops trees i p h =
      ap (λ (r : List Planned × Picking). (take i trees ++ r.0, r.1)) (full (drop i trees) p h) ∙ ap (λ (l : List Planned). (l, p)) (take-append-drop i trees)
