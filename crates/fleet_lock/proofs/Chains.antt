-- Calls one after the other: each keeps the invariant, and together they are calls of others.
use Rattle.std.proofs.Common.{◌≡◌, ◌≢◌, ℕ, ◌+◌, ◌≤◌, ◌==◌, ◌&&◌, List, [], ◌∷◌, ◌++◌, length, Bool, true, false, Option, Some, None, IsTrue, refl, sym, ap, ◌∙◌, subst, arith, length-append}
use Rattle.std.specs.Prelude.{if◌then◌else◌, IfSome}
use Rattle.std.specs.List.{AllByRecursion}
use Rattle.row_model.specs.Fold.{Operator, IsLawful}
use Rattle.fleet_model.specs.History.{Event, Entry, is_get_or_put}
use Rattle.fleet_model.specs.Exchanges.{Fault, answer_of, event_of, does_stand, records_version}
use Rattle.fleet_model.specs.Store.{Store}
use Rattle.step_model.specs.Past.{World}
use Rattle.step_model.specs.Kept.Keeps.{Keeps}
use Rattle.step_model.specs.Rivals.{Caller, RivalCall, Rivals, RivalsFrom, IsRival, Strike}
use Rattle.step_model.specs.Entries.{claimed_attempts}
use Rattle.commit_laws.proofs.AllCalls.{calls_keep}
use Rattle.course_laws.specs.Histories.{committed_jobs}
use Rattle.course_laws.proofs.Histories.{histories_count}
use Rattle.course_laws.specs.Afterwards.{ComesAfter}
use Rattle.course_laws.proofs.Afterwards.{comes_by, comes_itself, comes_then}
use Rattle.fleet_history.specs.Parties.{party_of}
use Rattle.fleet_store.specs.Memory.{StoreParts}
use Rattle.fleet_store.specs.Strikes.{answer_under, performed_under, strike_by, faults_after}
use Rattle.fleet_store.proofs.Calls.{called_is, same_history_under}
use Rattle.fleet_lock.specs.Held.{last_from}
use Rattle.fleet_lock.specs.Counts.{claims_of, commits_of, length_of}
use Rattle.fleet_lock.specs.Steps.{CallLeads, CallsLead}

-- ---- lists of states

pub last_push : (first : StoreParts) (states : List StoreParts) (state : StoreParts) → last_from first (states ++ state ∷ []) ≡ state
last_push first [] state = refl
last_push first (s ∷ states) state = last_push s states state

pub last_append : (first : StoreParts) (xs ys : List StoreParts) → last_from first (xs ++ ys) ≡ last_from (last_from first xs) ys
last_append first [] ys = refl
last_append first (x ∷ xs) ys = last_append x xs ys

pub steps_push : (merge : Operator) (first : StoreParts) (states : List StoreParts) (state : StoreParts) → CallsLead merge first states → CallLeads merge (last_from first states) state → CallsLead merge first (states ++ state ∷ [])
steps_push merge first [] state h s = (s, tt)
steps_push merge first (x ∷ states) state h s = (h.0, steps_push merge x states state h.1 s)

pub steps_drop : (merge : Operator) (first : StoreParts) (xs ys : List StoreParts) → CallsLead merge first (xs ++ ys) → CallsLead merge (last_from first xs) ys
steps_drop merge first [] ys h = h
steps_drop merge first (x ∷ xs) ys h = steps_drop merge x xs ys h.1

pub steps_front : (merge : Operator) (first : StoreParts) (xs ys : List StoreParts) → CallsLead merge first (xs ++ ys) → CallsLead merge first xs
steps_front merge first [] ys h = tt
steps_front merge first (x ∷ xs) ys h = (h.0, steps_front merge x xs ys h.1)

-- ---- one call

-- A fault strikes a get or a put alone.
pub may_strike : (event : Event) (waits : Option Fault) → IfSome (strike_by event waits) (λ stands. IsTrue (is_get_or_put event))
may_strike event None = tt
may_strike event (Some fault) = by (is_get_or_put event) (fault.k == 1)
  where
    by : (b c : Bool) → IfSome (if b && c then Some (does_stand (Some fault)) else None) (λ stands. IsTrue b)
    by true true = refl
    by true false = tt
    by false c = tt

pub step_keeps : (merge : Operator) → IsLawful merge → (old new : StoreParts) → Keeps merge old.world → CallLeads merge old new → Keeps merge new.world
step_keeps merge lawful old new keeps step =
    subst (Keeps merge) (sym step.leaves)
    (calls_keep merge lawful step.exchange new.line (party_of new.party) (strike_by (event_of step.exchange old.world.store) old.waits) old.world keeps step.lawful (may_strike (event_of step.exchange old.world.store) old.waits))

pub step_comes : (merge : Operator) (old new : StoreParts) → CallLeads merge old new → ComesAfter old.world new.world
step_comes merge old new step =
    subst (ComesAfter old.world) (sym step.leaves) (comes_by new.line (party_of new.party) step.exchange (strike_by (event_of step.exchange old.world.store) old.waits) old.world)

-- Claims, commits and faults never get fewer.
pub claims_rise : (old new : StoreParts) → ComesAfter old.world new.world → claims_of old ≤ claims_of new
claims_rise old new comes =
    let a = ap (λ (h : List Entry). length (claimed_attempts h)) comes.history in
    let b = histories_count.claims_number old.world.store.history comes.entries in omega arith

pub commits_rise : (old new : StoreParts) → ComesAfter old.world new.world → commits_of old ≤ commits_of new
commits_rise old new comes =
    let a = ap (λ (h : List Entry). length (committed_jobs h)) comes.history in
    let b = histories_count.commits_number old.world.store.history comes.entries in omega arith

pub faults_rise : (strike : Strike) (old new : ℕ) → new ≡ faults_after strike old → old ≤ new
faults_rise None old new e = omega arith
faults_rise (Some stands) old new e = omega arith

-- A call is one entry.
pub step_longer : (merge : Operator) (old new : StoreParts) → CallLeads merge old new → length_of new ≡ length_of old + 1
step_longer merge old new step =
    let x = step.exchange in
    let store = old.world.store in
    let strike = strike_by (event_of x store) old.waits in
    let a = ap (λ (w : World). length w.store.history) step.leaves in
    let b = ap (λ (s : Store). length s.history) (called_is new.line (party_of new.party) x strike store) in
    let c = length-append (performed_under strike x store).history (record { line = new.line; party = party_of new.party; event = event_of x store; answer = answer_under strike (answer_of x store) } ∷ []) in
    let d = ap length (same_history_under strike x store) in
    omega arith

-- ---- several calls

-- Calls are as many entries.
pub chain_longer : (merge : Operator) (first : StoreParts) (states : List StoreParts) → CallsLead merge first states → length_of (last_from first states) ≡ length_of first + length states
chain_longer merge first [] steps = omega arith
chain_longer merge first (s ∷ states) steps = let a = step_longer merge first s steps.0 in let b = chain_longer merge s states steps.1 in omega arith

pub chain_comes : (merge : Operator) (first : StoreParts) (states : List StoreParts) → CallsLead merge first states → ComesAfter first.world (last_from first states).world
chain_comes merge first [] steps = comes_itself first.world
chain_comes merge first (s ∷ states) steps = comes_then first.world s.world (last_from s states).world (step_comes merge first s steps.0) (chain_comes merge s states steps.1)

-- Records that keep their version stay whole.
pub chain_whole : (merge : Operator) (first : StoreParts) (states : List StoreParts) → CallsLead merge first states
    → records_version first.world.store.records ≡ records_version (last_from first states).world.store.records → (last_from first states).processed ≡ first.processed
chain_whole merge first [] steps same = refl
chain_whole merge first (s ∷ states) steps same =
    let a = (step_comes merge first s steps.0).later.records_rise in
    let b = (chain_comes merge s states steps.1).later.records_rise in
    chain_whole merge s states steps.1 (omega arith) ∙ steps.0.whole (omega arith)

-- Calls of parties other than the caller's are calls of others.
chain_calls : (who : Caller) (first : StoreParts) (states : List StoreParts) → CallsLead who.merge first states → AllByRecursion (λ state. party_of state.party ≢ who.party) states
    → (calls : List RivalCall) × RivalsFrom who calls first.world (last_from first states).world
chain_calls who first [] steps others = ([], refl)
chain_calls who first (s ∷ states) steps others =
    let step = steps.0 in
    let rest = chain_calls who s states steps.1 others.1 in
    let strike = strike_by (event_of step.exchange first.world.store) first.waits in
    let call : RivalCall = record { line = s.line; party = party_of s.party; exchange = step.exchange; strike = strike } in
    let is : IsRival who first.world call = record { other = others.0; lawful = step.lawful; strike = may_strike (event_of step.exchange first.world.store) first.waits; deletes_none = step.deletes_none } in
    (call ∷ rest.0, (is, subst (λ (w : World). RivalsFrom who rest.0 w (last_from s states).world) step.leaves rest.1))

pub chain_rivals : (who : Caller) (first : StoreParts) (states : List StoreParts) → who.alone ≡ false → CallsLead who.merge first states → AllByRecursion (λ state. party_of state.party ≢ who.party) states
    → Rivals who first.world (last_from first states).world
chain_rivals who first states shared steps others =
    let c = chain_calls who first states steps others in
    record { calls = c.0; lead = c.1; none = λ alone. absurd (cc (sym alone ∙ shared)) }
