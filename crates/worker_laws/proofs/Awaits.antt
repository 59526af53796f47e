-- What a history has of a claimed attempt, from the claim to the get of the manifest and to the note
-- of the plan.
use Rattle.std.proofs.Common.{◌≡◌, ◌≢◌, refl, sym, ◌∙◌, ap, subst, ℕ, ◌+◌, ◌<◌, ◌≤◌, List, [], ◌∷◌, ◌++◌, cond, Bool, true, false, inl, inr, Option, Some, None, arith}
use Rattle.std.specs.Prelude.{IsTrue, IfSome, ◌==◌, ◌&&◌, map, find, if◌then◌else◌}
use Rattle.std.specs.List.{AllByRecursion}
use Rattle.std.proofs.lemmas.Bool.Decides.{Decides-eqb}
use Rattle.std.proofs.lemmas.List.{append_assoc}
use Rattle.std.specs.Option.{option_or}
use Rattle.row_model.specs.Lists.{Pairs}
use Rattle.row_model.specs.Ranges.{Range}
use Rattle.fleet_model.specs.Nodes.{Tables}
use Rattle.fleet_model.specs.Jobs.{JobSpec, Job, Jobs, job_with}
use Rattle.fleet_model.specs.History.{Party, Worker, Event, GetManifest, PutRecords, Claim, Plan, Answer, Done, Entry, stood}
use Rattle.fleet_model.specs.Store.{stored_jobs}
use Rattle.fleet_model.specs.Past.Replay.{Objects, after_entry, replayed_objects}
use Rattle.fleet_model.specs.Past.Claimed.{number_in, attempt_number_at, is_same, is_worker, objects_found, objects_at_get, claimant_in, planned_in, noted_plan, claimed_in}
use Rattle.fleet_model.proofs.ClaimCuts.{at_claim_or, objects_got, claim_step}
use Rattle.fleet_model.specs.Exchanges.{Exchange, Plain, DrawsJob, DrawsTable, PutsTable, PutsManifest, PutsRecords, ListsTables, DeletesTable, event_of}
use Rattle.step_model.specs.Past.{World}
use Rattle.step_model.specs.Entries.{is_claim_of, was_claimed, is_in, claimed_attempts, attempts_in, planned_attempts}
use Rattle.step_model.specs.Entries as entries
use Rattle.step_model.specs.Kept.NamesKept.{IsUpTo}
use Rattle.step_model.specs.LawfulTables.{PlainFits}
use Rattle.step_model.specs.Lawful.{Lawful}
use Rattle.step_model.specs.Rivals.{Caller, Rivals}
use Rattle.step_model.specs.Kept.Keeps.{Keeps}
use Rattle.step_laws.specs.Runs.{CallsKeep}
use Rattle.step_laws.proofs.Elements.{IsIn, all_at, all_from, all_push, any_element, is_itself}
use Rattle.step_laws.proofs.Beaten.{attempt_named}
use Rattle.rival_laws.proofs.SameParty.{same_place}
use Rattle.rival_laws.proofs.WorkerCalls.{claim_grows}
use Rattle.course_laws.proofs.Calls.{rivals_hold}
use Rattle.course_laws.proofs.Claims.{next_attempt}
use Rattle.course_laws.proofs.Later.{entry_by, call_history}
use Rattle.rival_laws.proofs.JobsMerged.{and_first}

-- ---- the get that follows a claim

-- The worker claimed the attempt, and made no call since.
pub record AwaitsGet (worker job attempt : ℕ) (history : List Entry) : Type 0 where
  pub front : List Entry
  pub claim : Entry
  pub since : List Entry
  pub is : history ≡ front ++ claim ∷ since
  pub first : AllByRecursion (λ entry. claimed_in job attempt entry ≡ None) front
  pub claims : claimed_in job attempt claim ≡ Some worker
  pub others : AllByRecursion (λ (entry : Entry). is_worker worker entry.party ≡ false) since

get_after : (tables : Tables) (specs : ℕ → JobSpec) (worker : ℕ) (since : List Entry) (get : Entry) (o : Objects) → AllByRecursion (λ (entry : Entry). is_worker worker entry.party ≡ false) since → is_worker worker get.party ≡ true
    → objects_at_get tables specs worker (since ++ get ∷ []) o ≡ objects_found get.event get.answer (replayed_objects tables specs since o)
get_after tables specs worker [] get o others own = ap (λ b. cond b (objects_found get.event get.answer o) None) own
get_after tables specs worker (entry ∷ since) get o others own =
    ap (λ b. cond b (objects_found entry.event entry.answer o) (objects_at_get tables specs worker (since ++ get ∷ []) (after_entry tables specs entry o))) others.0 ∙ get_after tables specs worker since get (after_entry tables specs entry o) others.1 own

-- The objects of an attempt are those that its worker's first call after the claim finds.
claim_then : (tables : Tables) (specs : ℕ → JobSpec) (worker job attempt : ℕ) (front : List Entry) (claim : Entry) (since : List Entry) (get : Entry) (o : Objects) → AllByRecursion (λ entry. claimed_in job attempt entry ≡ None) front
    → claimed_in job attempt claim ≡ Some worker → AllByRecursion (λ (entry : Entry). is_worker worker entry.party ≡ false) since → is_worker worker get.party ≡ true
    → objects_got tables specs job attempt (front ++ claim ∷ (since ++ get ∷ [])) o ≡ objects_found get.event get.answer (replayed_objects tables specs (front ++ claim ∷ since) o)
claim_then tables specs worker job attempt [] claim since get o first is_claim_of others own =
    let after = after_entry tables specs claim o in
    claim_step tables specs job attempt claim (since ++ get ∷ []) o
    ∙ ap (λ c. at_claim_or c (λ w. objects_at_get tables specs w (since ++ get ∷ []) after) (objects_got tables specs job attempt (since ++ get ∷ []) after)) is_claim_of ∙ get_after tables specs worker since get after others own
claim_then tables specs worker job attempt (entry ∷ front) claim since get o first is_claim_of others own =
    let after = after_entry tables specs entry o in
    claim_step tables specs job attempt entry (front ++ claim ∷ (since ++ get ∷ [])) o
    ∙ ap (λ c. at_claim_or c (λ w. objects_at_get tables specs w (front ++ claim ∷ (since ++ get ∷ [])) after) (objects_got tables specs job attempt (front ++ claim ∷ (since ++ get ∷ [])) after)) first.0
    ∙ claim_then tables specs worker job attempt front claim since get after first.1 is_claim_of others own

-- The objects that the worker gets with its next call.
pub next_get : (tables : Tables) (specs : ℕ → JobSpec) (worker job attempt line version : ℕ) (party : Party) (history : List Entry) (o : Objects) → AwaitsGet worker job attempt history → is_worker worker party ≡ true
    → objects_got tables specs job attempt (history ++ record { line = line; party = party; event = GetManifest; answer = Done version } ∷ []) o ≡ Some (replayed_objects tables specs history o)
next_get tables specs worker job attempt line version party history o a own =
    let get : Entry = record { line = line; party = party; event = GetManifest; answer = Done version } in
    ap (λ h. objects_got tables specs job attempt h o) (ap (λ (h : List Entry). h ++ get ∷ []) a.is ∙ append_assoc a.front (a.claim ∷ a.since) (get ∷ []))
    ∙ claim_then tables specs worker job attempt a.front a.claim a.since get o a.first a.claims a.others own
    ∙ ap (λ h. Some (replayed_objects tables specs h o)) (sym a.is)

-- ---- after the claim

-- An entry that names attempts up to the stored one claims no later one.
claims_none : (history : List Entry) (jobs : Jobs) (job : Job) (entry : Entry) → job_with job.id jobs ≡ Some job → (IsTrue (stood entry.answer) → AllByRecursion (IsUpTo history jobs) (attempts_in entry.event)) → claimed_in job.id (job.attempt + 1) entry ≡ None
claims_none history jobs job entry stored up = by (stood entry.answer) refl
  where
    -- An attempt in a list is up to the stored one.
    listed : (attempts : List (ℕ × ℕ)) → AllByRecursion (IsUpTo history jobs) attempts → IsIn (job.id, job.attempt + 1) attempts → ⊥
    listed attempts all there =
        let low : job.attempt + 1 ≤ job.attempt = subst (λ o. IfSome o (λ (j : Job). job.attempt + 1 ≤ j.attempt)) stored (all_at (IsUpTo history jobs) attempts (job.id, job.attempt + 1) all there).1 in
        absurd (omega (arith, low))

    named : (worker : ℕ) (attempts : List (ℕ × ℕ)) → AllByRecursion (IsUpTo history jobs) attempts → (o : Option ℕ) → attempt_number_at job.id attempts ≡ o → (if is_same (job.attempt + 1) o then Some worker else None) ≡ None
    named worker attempts all None e = refl
    named worker attempts all (Some n) e = at (job.attempt + 1 == n) refl
      where
        at : (b : Bool) → (job.attempt + 1 == n) ≡ b → cond b (Some worker) None ≡ None
        at true f = absurd (listed attempts all (attempt_named job.id (job.attempt + 1) attempts (e ∙ ap Some (sym ((Decides-eqb (job.attempt + 1) n).0 f)))))
        at false f = refl

    event : (event : Event) → AllByRecursion (IsUpTo history jobs) (attempts_in event) → claimant_in job.id (job.attempt + 1) event ≡ None
    event (PutRecords (Claim worker attempts)) all = named worker attempts all (attempt_number_at job.id attempts) refl
    event other all = refl

    by : (b : Bool) → stood entry.answer ≡ b → (if b then claimant_in job.id (job.attempt + 1) entry.event else None) ≡ None
    by true e = event entry.event (up e)
    by false e = refl

-- The first attempt that a claim names for a job that it takes.
taken_number : (these : Jobs) (job : Job) → Pairs (λ a b. a.id < b.id) these → IsIn job these → attempt_number_at job.id (map next_attempt these) ≡ Some (job.attempt + 1)
taken_number [] job rise there = absurd there
taken_number (x ∷ these) job rise (inl same) = subst (λ (j : Job). attempt_number_at j.id (map next_attempt (x ∷ these)) ≡ Some (j.attempt + 1)) same (ap (λ b. number_in (cond b (Some (next_attempt x)) (find (λ attempt. attempt.0 == x.id) (map next_attempt these)))) (is_itself x.id))
taken_number (x ∷ these) job rise (inr there) = by (x.id == job.id) refl (taken_number these job rise.1 there)
  where
    by : (b : Bool) → (x.id == job.id) ≡ b → attempt_number_at job.id (map next_attempt these) ≡ Some (job.attempt + 1)
        → number_in (cond b (Some (next_attempt x)) (find (λ (attempt : ℕ × ℕ). attempt.0 == job.id) (map next_attempt these))) ≡ Some (job.attempt + 1)
    by true e rest = let low = all_at (λ (j : Job). x.id < j.id) these job rise.0 there in let same = (Decides-eqb x.id job.id).0 e in absurd (omega (arith, low, same))
    by false e rest = rest

-- The worker awaits its get after the put of its claim.
pub awaits_after : (world : World) (line version worker : ℕ) (party : Party) (these : Jobs) (job : Job)
    → AllByRecursion (λ (entry : Entry). IsTrue (stood entry.answer) → AllByRecursion (IsUpTo world.store.history (stored_jobs world.store)) (attempts_in entry.event)) world.store.history → job_with job.id (stored_jobs world.store) ≡ Some job
    → Pairs (λ a b. a.id < b.id) these → IsIn job these
    → AwaitsGet worker job.id (job.attempt + 1) (world.store.history ++ record { line = line; party = party; event = PutRecords (Claim worker (map next_attempt these)); answer = Done version } ∷ [])
awaits_after world line version worker party these job up stored rise there = record {
  front = world.store.history;
  claim = record { line = line; party = party; event = PutRecords (Claim worker (map next_attempt these)); answer = Done version };
  since = [];
  is = refl;
  first = all_from _ world.store.history (λ entry one. claims_none world.store.history (stored_jobs world.store) job entry stored (all_at _ world.store.history entry up one));
  claims = ap (λ o. if is_same (job.attempt + 1) o then Some worker else None) (taken_number these job rise there) ∙ ap (λ b. cond b (Some worker) None) (is_itself (job.attempt + 1));
  others = tt;
}

-- ---- calls of others

not_worker : (n : ℕ) (party : Party) → (party ≡ Worker n → ⊥) → is_worker n party ≡ false
not_worker n (Worker m) other = by (n == m) refl
  where
    by : (b : Bool) → (n == m) ≡ b → b ≡ false
    by true e = absurd (other (ap Worker (sym ((Decides-eqb n m).0 e))))
    by false e = refl
not_worker n party other = refl

-- Calls of others leave the worker awaiting its get.
pub rivals_await : (who : Caller) (worker job attempt : ℕ) (old new : World) → CallsKeep who.merge → who.party ≡ Worker worker → Keeps who.merge old → Rivals who old new → AwaitsGet worker job attempt old.store.history → AwaitsGet worker job attempt new.store.history
rivals_await who worker job attempt old new keep own kept rivals a = rivals_hold who (λ world. AwaitsGet worker job attempt world.store.history) keep (λ world call there rival p.
    let entry = entry_by call.line call.party call.exchange call.strike world.store in
    subst (AwaitsGet worker job attempt) (sym (call_history call.line call.party call.exchange call.strike world.store)) (record {
      front = p.front;
      claim = p.claim;
      since = p.since ++ entry ∷ [];
      is = ap (λ (h : List Entry). h ++ entry ∷ []) p.is ∙ append_assoc p.front (p.claim ∷ p.since) (entry ∷ []);
      first = p.first;
      claims = p.claims;
      others = all_push _ p.since entry p.others (not_worker worker call.party (λ same. rival.other (same ∙ sym own)));
    })) old new kept rivals a

-- ---- the note of the plan

noted_push : (job attempt : ℕ) (history : List Entry) (entry : Entry) → noted_plan job attempt history ≡ None → noted_plan job attempt (history ++ entry ∷ []) ≡ option_or (planned_in job attempt entry.event) None
noted_push job attempt [] entry e = refl
noted_push job attempt (x ∷ history) entry e = by (planned_in job attempt x.event) (noted_push job attempt history entry) e
  where
    by : (o : Option (List Range)) → (noted_plan job attempt history ≡ None → noted_plan job attempt (history ++ entry ∷ []) ≡ option_or (planned_in job attempt entry.event) None) → option_or o (noted_plan job attempt history) ≡ None
        → option_or o (noted_plan job attempt (history ++ entry ∷ [])) ≡ option_or (planned_in job attempt entry.event) None
    by None rest e = rest e
    by (Some ranges) rest e = absurd (cc e)

pub noted_none : (job attempt : ℕ) (history : List Entry) (entry : Entry) → noted_plan job attempt history ≡ None → planned_in job attempt entry.event ≡ None → noted_plan job attempt (history ++ entry ∷ []) ≡ None
noted_none job attempt history entry e none = noted_push job attempt history entry e ∙ ap (λ o. option_or o None) none

-- The first note of an attempt has its ranges.
pub noted_now : (job attempt : ℕ) (history : List Entry) (line : ℕ) (party : Party) (ranges : List Range) (answer : Answer) → noted_plan job attempt history ≡ None
    → noted_plan job attempt (history ++ record { line = line; party = party; event = Plan job attempt ranges; answer = answer } ∷ []) ≡ Some ranges
noted_now job attempt history line party ranges answer e =
    noted_push job attempt history (record { line = line; party = party; event = Plan job attempt ranges; answer = answer }) e ∙ ap (λ b. option_or (cond (b && (attempt == attempt)) (Some ranges) None) None) (is_itself job)
    ∙ ap (λ b. option_or (cond b (Some ranges) None) None) (is_itself attempt)

-- The attempt that is planned in an event is noted there.
planned_there : (job attempt : ℕ) (event : Event) → (o : Option (List Range)) → planned_in job attempt event ≡ o → (IsIn (job, attempt) (planned_attempts event) → ⊥) → o ≡ None
planned_there job attempt event None e none = refl
planned_there job attempt event (Some ranges) e none = absurd (none (at event e))
  where
    at : (event : Event) → planned_in job attempt event ≡ Some ranges → IsIn (job, attempt) (planned_attempts event)
    at (Plan other number noted) e = by (job == other) refl (attempt == number) refl e
      where
        by : (b : Bool) → (job == other) ≡ b → (c : Bool) → (attempt == number) ≡ c → cond (b && c) (Some noted) None ≡ Some ranges → IsIn {A = ℕ × ℕ} (job, attempt) ((other, number) ∷ [])
        by true f true g e = let first = sym ((Decides-eqb job other).0 f) in let second = sym ((Decides-eqb attempt number).0 g) in inl (λ i. (first i, second i))
        by true f false g e = absurd (cc e)
        by false f c g e = absurd (cc e)
    at event e = absurd (cc e)

-- No plan of a later attempt than the stored one is noted.
pub none_planned : (history old : List Entry) (jobs : Jobs) (job : Job) → AllByRecursion (λ (entry : Entry). AllByRecursion (IsUpTo history jobs) (planned_attempts entry.event)) old → job_with job.id jobs ≡ Some job → noted_plan job.id (job.attempt + 1) old ≡ None
none_planned history [] jobs job all stored = refl
none_planned history (entry ∷ old) jobs job all stored =
    ap (λ o. option_or o (noted_plan job.id (job.attempt + 1) old)) (planned_there job.id (job.attempt + 1) entry.event (planned_in job.id (job.attempt + 1) entry.event) refl none) ∙ none_planned history old jobs job all.1 stored
  where
    none : IsIn (job.id, job.attempt + 1) (planned_attempts entry.event) → ⊥
    none there =
        let low : job.attempt + 1 ≤ job.attempt = subst (λ o. IfSome o (λ (j : Job). job.attempt + 1 ≤ j.attempt)) stored (all_at (IsUpTo history jobs) (planned_attempts entry.event) (job.id, job.attempt + 1) all.0 there).1 in
        absurd (omega (arith, low))

-- ---- one worker claims an attempt

and_right : (a b : Bool) → (a && b) ≡ true → b ≡ true
and_right true b e = e
and_right false b e = absurd (cc e)

-- An event that took effect and is the worker's claim of an attempt claims that attempt.
claim_says : (worker job attempt : ℕ) (took : Bool) (event : Event) → (is_claim_of worker job attempt event && took) ≡ true → IsIn (job, attempt) (entries.attempts_claimed_in took event)
claim_says worker job attempt true (PutRecords (Claim other attempts)) e = listed attempts (and_right (worker == other) (is_in job attempt attempts) (and_first _ true e))
  where
    listed : (attempts : List (ℕ × ℕ)) → is_in job attempt attempts ≡ true → IsIn (job, attempt) attempts
    listed attempts there =
        let found = any_element (λ (a : ℕ × ℕ). job == a.0 && attempt == a.1) attempts there in
        let first = (Decides-eqb job found.element.0).0 (and_first (job == found.element.0) (attempt == found.element.1) found.passes) in
        let second = (Decides-eqb attempt found.element.1).0 (and_right (job == found.element.0) (attempt == found.element.1) found.passes) in
        subst (λ p. IsIn p attempts) (λ i. (sym first i, sym second i)) found.there
claim_says worker job attempt false event e = absurd (cc (and_right (is_claim_of worker job attempt event) false e))
claim_says worker job attempt true event e = absurd (cc e)

claim_worker : (one other job attempt : ℕ) (event : Event) → is_claim_of one job attempt event ≡ true → is_claim_of other job attempt event ≡ true → one ≡ other
claim_worker one other job attempt (PutRecords (Claim worker attempts)) e f = (Decides-eqb one worker).0 (and_first (one == worker) _ e) ∙ sym ((Decides-eqb other worker).0 (and_first (other == worker) _ f))
claim_worker one other job attempt event e f = absurd (cc e)

-- An attempt is claimed by one worker.
one_claimer : (one other job attempt : ℕ) (history : List Entry) → Pairs (λ a b. a ≢ b) (claimed_attempts history) → IsTrue (was_claimed history one job attempt) → IsTrue (was_claimed history other job attempt) → one ≡ other
one_claimer one other job attempt history once first second =
    let a = any_element (λ (e : Entry). is_claim_of one job attempt e.event && stood e.answer) history first in
    let b = any_element (λ (e : Entry). is_claim_of other job attempt e.event && stood e.answer) history second in
    let same = same_place (λ (e : Entry). entries.attempts_claimed_in (stood e.answer) e.event) (λ x y. x ≢ y) (job, attempt) (λ differs. differs refl) history a.element b.element once a.there b.there
    (claim_says one job attempt (stood a.element.answer) a.element.event a.passes) (claim_says other job attempt (stood b.element.answer) b.element.event b.passes) in
    claim_worker one other job attempt b.element.event (subst (λ (e : Entry). is_claim_of one job attempt e.event ≡ true) same (and_first _ (stood a.element.answer) a.passes)) (and_first _ (stood b.element.answer) b.passes)

-- The plan of an attempt that the worker claimed is not noted yet.
pub record IsUnplanned (worker job attempt : ℕ) (history : List Entry) : Type 0 where
  pub claimed : IsTrue (was_claimed history worker job attempt)
  pub none : noted_plan job attempt history ≡ None

-- A call of another party notes no plan of the attempt.
plan_of_other : (who : Caller) (worker job attempt : ℕ) (world : World) (party : Party) (x : Exchange) → (party ≡ Worker worker → ⊥) → Pairs (λ a b. a ≢ b) (claimed_attempts world.store.history) → IsTrue (was_claimed world.store.history worker job attempt)
    → Lawful who.merge party world x → planned_in job attempt (event_of x world.store) ≡ None
plan_of_other who worker job attempt world party (Plain event) other once claimed lawful = at event lawful
  where
    at : (event : Event) → PlainFits party world.store event → planned_in job attempt event ≡ None
    at (Plan one number ranges) fits = by (job == one) refl (attempt == number) refl
      where
        clash : job ≡ one → attempt ≡ number → ⊥
        clash same equal =
            let claimer = one_claimer worker fits.worker job attempt world.store.history once claimed (subst (λ n. IsTrue (was_claimed world.store.history fits.worker job n)) (sym equal) (subst (λ id. IsTrue (was_claimed world.store.history fits.worker id number)) (sym same) fits.claimed)) in
            other (fits.by ∙ ap Worker (sym claimer))

        by : (b : Bool) → (job == one) ≡ b → (c : Bool) → (attempt == number) ≡ c → cond (b && c) (Some ranges) None ≡ None
        by true e true f = absurd (clash ((Decides-eqb job one).0 e) ((Decides-eqb attempt number).0 f))
        by true e false f = refl
        by false e c f = refl
    at event fits = refl
plan_of_other who worker job attempt world party (DrawsJob moment) other once claimed lawful = refl
plan_of_other who worker job attempt world party (DrawsTable moment) other once claimed lawful = refl
plan_of_other who worker job attempt world party (PutsTable table rows) other once claimed lawful = refl
plan_of_other who worker job attempt world party (PutsManifest version change value) other once claimed lawful = refl
plan_of_other who worker job attempt world party (PutsRecords version change epoch jobs) other once claimed lawful = refl
plan_of_other who worker job attempt world party ListsTables other once claimed lawful = refl
plan_of_other who worker job attempt world party (DeletesTable table) other once claimed lawful = refl

-- Calls of others note no plan of the attempt.
pub rivals_unplanned : (who : Caller) (worker job attempt : ℕ) (old new : World) → CallsKeep who.merge → who.party ≡ Worker worker → Keeps who.merge old → Rivals who old new → IsUnplanned worker job attempt old.store.history → IsUnplanned worker job attempt new.store.history
rivals_unplanned who worker job attempt old new keep own kept rivals u = rivals_hold who (λ world. IsUnplanned worker job attempt world.store.history) keep (λ world call there rival p.
    let entry = entry_by call.line call.party call.exchange call.strike world.store in
    subst (IsUnplanned worker job attempt) (sym (call_history call.line call.party call.exchange call.strike world.store)) (record {
      claimed = claim_grows world.store.history entry worker job attempt p.claimed;
      none = noted_none job attempt world.store.history entry p.none (plan_of_other who worker job attempt world call.party call.exchange (λ same. rival.other (same ∙ sym own)) there.facts.attempts.once p.claimed rival.lawful);
    })) old new kept rivals u
