-- What a tally tells of a view, once its call has been made and once two views are joined.
use Rattle.std.proofs.Common.{◌≡◌, ◌≢◌, ℕ, ◌+◌, ◌-◌, ◌^◌, ◌≤◌, List, [], ◌∷◌, ◌++◌, length, min, sym, ap, ◌∙◌, subst, arith, length-append}
use Rattle.row_model.specs.Fold.{Operator}
use Rattle.fleet_model.specs.History.{Entry}
use Rattle.fleet_store.specs.Memory.{StoreParts}
use Rattle.fleet_lock.specs.Held.{HeldValue, last_from, store_of}
use Rattle.fleet_lock.specs.Counts.{LastAdds, claims_in, claims_of, commits_in, commits_of, length_of}
use Rattle.fleet_lock.specs.Rule.{Follows, after_serving, seen_of}
use Rattle.fleet_lock.specs.Passes.{IsTally}
use Rattle.fleet_lock.specs.Steps.{CallLeads, CallsLead}
use Rattle.fleet_lock.specs.declared.sight.Sight.{Sight}
use Rattle.fleet_lock.specs.declared.tally.Tally.{Tally}
use Rattle.fleet_lock.proofs.Chains.{chain_longer, last_append, step_comes, step_longer, steps_drop}

-- A call adds one entry.
one_entry : (merge : Operator) (old new : StoreParts) → CallLeads merge old new → (entry : Entry) × (new.world.store.history ≡ old.world.store.history ++ entry ∷ [])
one_entry merge old new step = let comes = step_comes merge old new step in by comes.entries comes.history (step_longer merge old new step)
  where
    by : (entries : List Entry) → new.world.store.history ≡ old.world.store.history ++ entries → length_of new ≡ length_of old + 1 → (entry : Entry) × (new.world.store.history ≡ old.world.store.history ++ entry ∷ [])
    by [] e l = let a = ap length e in let b = length-append old.world.store.history [] in absurd (omega arith)
    by (entry ∷ []) e l = (entry, e)
    by (entry ∷ other ∷ more) e l = let a = ap length e in let b = length-append old.world.store.history (entry ∷ other ∷ more) in absurd (omega arith)

module _ (merge : Operator) (v : Sight) (h : HeldValue) (follows : Follows v h) (steps : CallsLead merge h.base h.trace) where
  since : CallsLead merge (seen_of v) follows.more
  since = steps_drop merge v.base v.trace follows.more (subst (λ (y : StoreParts × List StoreParts). CallsLead merge y.0 y.1) (λ i. (follows.base i, sym follows.is i)) steps)

  last_is : last_from (seen_of v) follows.more ≡ store_of h
  last_is = sym (last_append v.base v.trace follows.more) ∙ (λ i. last_from (sym follows.base i) (follows.is i))

  -- The value is the one that was found, or one call later.
  record IsLater : Type 0 where
    pub entry : Entry
    pub history : (store_of h).world.store.history ≡ (seen_of v).world.store.history ++ entry ∷ []

  same_if_short : (more : List StoreParts) → CallsLead merge (seen_of v) more → last_from (seen_of v) more ≡ store_of h → length_of (store_of h) ≡ length_of (seen_of v) → seen_of v ≡ store_of h
  same_if_short [] calls is short = is
  same_if_short (s ∷ more) calls is short = let a = chain_longer merge (seen_of v) (s ∷ more) calls in let b = ap length_of is in absurd (omega arith)

  later_if_long : (more : List StoreParts) → length more ≤ 1 → CallsLead merge (seen_of v) more → last_from (seen_of v) more ≡ store_of h → length_of (store_of h) ≢ length_of (seen_of v) → IsLater
  later_if_long [] few calls is long = absurd (long (ap length_of (sym is)))
  later_if_long (s ∷ []) few calls is long =
      let one = one_entry merge (seen_of v) s calls.0 in
      record { entry = one.0; history = ap (λ (x : StoreParts). x.world.store.history) (sym is) ∙ one.1 }
  later_if_long (s ∷ other ∷ more) few calls is long = absurd (omega arith)

  -- The view has seen the value after the call.
  seen_after : length_of (seen_of (after_serving v h)) ≡ length_of (store_of h)
  seen_after = ap (λ base. length_of (last_from base h.trace)) (sym follows.base)

  -- If the history is as long as it was, then the tally stays.
  pub stays : (tally : Tally) → IsTally tally v → length_of (store_of h) ≡ tally.seen → IsTally tally (after_serving v h)
  stays tally is short =
      let same = same_if_short follows.more since last_is (short ∙ is.seen_is) in
      let claims = ap claims_of same in
      let commits = ap commits_of same in
      let told_claims = is.claims_are in
      let told_commits = is.commits_are in
      record {
        seen_is = sym short ∙ sym seen_after;
        claims_are = omega arith;
        commits_are = omega arith;
      }

  -- Otherwise it counts what the last entry adds.
  pub counts_on : (tally new : Tally) (claims commits : ℕ) → IsTally tally v → length_of (store_of h) ≢ tally.seen → LastAdds claims_in claims (store_of h).world.store.history → LastAdds commits_in commits (store_of h).world.store.history
      → new.seen ≡ length_of (store_of h) → new.claims ≡ min (tally.claims + claims) (2 ^ 64 - 1) → new.commits ≡ min (tally.commits + commits) (2 ^ 64 - 1) → IsTally new (after_serving v h)
  counts_on tally new claims commits is long adds_claims adds_commits seen told_claims told_commits =
      let later = later_if_long follows.more follows.few since last_is (λ short. long (short ∙ sym is.seen_is)) in
      let more_claims = adds_claims (seen_of v).world.store.history later.entry later.history in
      let more_commits = adds_commits (seen_of v).world.store.history later.entry later.history in
      let old_claims = is.claims_are in
      let old_commits = is.commits_are in
      record {
        seen_is = seen ∙ sym seen_after;
        claims_are = omega arith;
        commits_are = omega arith;
      }
