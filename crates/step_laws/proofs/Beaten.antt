-- The first heartbeat of a job names an attempt that is at most the stored one.
use Rattle.std.proofs.Common.{◌≡◌, refl, sym, ◌∙◌, ap, subst, ℕ, ◌≤◌, List, [], ◌∷◌, cond, Bool, true, false, inl, inr, Option, Some, None, arith}
use Rattle.std.specs.Prelude.{IsTrue, IfSome, ◌&&◌, ◌||◌, ◌==◌, nat_lt, if◌then◌else◌, find}
use Rattle.std.proofs.lemmas.Bool.Decides.{Decides-eqb}
use Rattle.std.proofs.lemmas.Bool.{ltb-false}
use Rattle.std.specs.Option.{option_or}
use Rattle.row_model.specs.Fold.{Operator}
use Rattle.fleet_model.specs.Jobs.{JobSpec, Job, Context, contains}
use Rattle.fleet_model.specs.History.{Entry, Event, PutRecords, Beat, stood}
use Rattle.fleet_model.specs.Work.Records.{firsts}
use Rattle.fleet_model.specs.Past.Claimed.{number_in, attempt_number_at, beaten_in, first_beaten, if_earlier, origin, IsClaimed}
use Rattle.fleet_model.specs.Invariants.AttemptsFit.{beats, was_beaten}
use Rattle.fleet_model.specs.Store.{Store, stored_jobs}
use Rattle.step_model.specs.Past.{World}
use Rattle.step_model.specs.Entries.{attempts_in}
use Rattle.step_model.specs.Kept.NamesKept.{IsUpTo}
use Rattle.step_laws.proofs.Elements.{IsIn, all_at}
use Rattle.step_laws.proofs.Bodies.{Body}
use Rattle.step_laws.proofs.Changed.{found_job}

-- ---- the attempt that a heartbeat names

pub named_attempt : (job : ℕ) (attempts : List (ℕ × ℕ)) → IsTrue (contains (firsts attempts) job) → (n : ℕ) × (attempt_number_at job attempts ≡ Some n)
named_attempt job [] h = absurd (cc h)
named_attempt job (a ∷ attempts) h = by (a.0 == job) (named_attempt job attempts) h
  where
    by : (b : Bool) → (IsTrue (contains (firsts attempts) job) → (n : ℕ) × (attempt_number_at job attempts ≡ Some n)) → IsTrue (cond b true (contains (firsts attempts) job)) → (n : ℕ) × (number_in (cond b (Some a) (find (λ attempt. attempt.0 == job) attempts)) ≡ Some n)
    by true rest h = (a.1, refl)
    by false rest h = rest h

-- The number that a list of attempts gives for a job is that of an attempt at the job in the list.
pub attempt_named : (job n : ℕ) (attempts : List (ℕ × ℕ)) → attempt_number_at job attempts ≡ Some n → IsIn (job, n) attempts
attempt_named job n [] e = absurd (cc e)
attempt_named job n (a ∷ attempts) e = by (a.0 == job) refl (attempt_named job n attempts) e
  where
    pair : a.0 ≡ job → a.1 ≡ n → a ≡ (job, n)
    pair first second i = (first i, second i)

    number : Some a.1 ≡ Some n → a.1 ≡ n
    number e = cc e

    by : (b : Bool) → (a.0 == job) ≡ b → (attempt_number_at job attempts ≡ Some n → IsIn (job, n) attempts) → number_in (cond b (Some a) (find (λ attempt. attempt.0 == job) attempts)) ≡ Some n → IsIn (job, n) (a ∷ attempts)
    by true f rest e = inl (pair ((Decides-eqb a.0 job).0 f) (number e))
    by false f rest e = inr (rest e)

-- A heartbeat that took effect names an attempt of the job.
pub record Beats (job n : ℕ) (history : List Entry) : Type 0 where
  pub first : first_beaten job history ≡ Some n
  pub entry : Entry
  pub there : IsIn entry history
  pub took : IsTrue (stood entry.answer)
  pub named : IsIn (job, n) (attempts_in entry.event)

-- A heartbeat that names the job and took effect gives the number of an attempt at the job.
beat_here : (job : ℕ) (took : Bool) (event : Event) → (beats job event && took) ≡ true → (n : ℕ) × ((if took then beaten_in job event else None) ≡ Some n)
beat_here job true (PutRecords (Beat worker attempts)) e = named_attempt job attempts (front _ e)
  where
    front : (b : Bool) → (b && true) ≡ true → IsTrue b
    front true e = refl
    front false e = absurd (cc e)
beat_here job false (PutRecords (Beat worker attempts)) e = absurd (never _ e)
  where
    never : (b : Bool) → (b && false) ≡ true → ⊥
    never true e = absurd (cc e)
    never false e = absurd (cc e)
beat_here job took event e = absurd (cc e)

beat_named : (job n : ℕ) (took : Bool) (event : Event) → (if took then beaten_in job event else None) ≡ Some n → IsTrue took × IsIn (job, n) (attempts_in event)
beat_named job n true (PutRecords (Beat worker attempts)) e = (refl, attempt_named job n attempts e)
beat_named job n true event e = absurd (cc e)
beat_named job n false event e = absurd (cc e)

-- A job that was beaten has a first beaten attempt, which an entry of the history that took effect names.
pub first_beat : (job : ℕ) (history : List Entry) → IsTrue (was_beaten history job) → (n : ℕ) × Beats job n history
first_beat job [] h = absurd (cc h)
first_beat job (entry ∷ history) h = by (if stood entry.answer then beaten_in job entry.event else None) refl (beats job entry.event && stood entry.answer) refl (first_beat job history) h
  where
    by : (o : Option ℕ) → (if stood entry.answer then beaten_in job entry.event else None) ≡ o → (b : Bool) → (beats job entry.event && stood entry.answer) ≡ b → (IsTrue (was_beaten history job) → (n : ℕ) × Beats job n history)
        → IsTrue (b || was_beaten history job) → (n : ℕ) × Beats job n (entry ∷ history)
    by (Some n) e b f rest h =
        let here = beat_named job n (stood entry.answer) entry.event e in
        (n, record { first = ap (λ o. option_or o (first_beaten job history)) e; entry = entry; there = inl refl; took = here.0; named = here.1 })
    by None e true f rest h = absurd (both e (beat_here job (stood entry.answer) entry.event f).1)
      where
        both : {n : ℕ} {o : Option ℕ} → o ≡ None → o ≡ Some n → ⊥
        both p q = absurd (cc (p, q))
    by None e false f rest h =
        let further = rest h in
        (further.0, record { first = ap (λ o. option_or o (first_beaten job history)) e ∙ further.1.first; entry = further.1.entry; there = inr further.1.there; took = further.1.took; named = further.1.named })

-- ---- what it means for a stored job

pub first_beat_low : (merge : Operator) (world : World) (specs : ℕ → JobSpec) (b : Body merge world specs) (job : Job) → IsIn job (stored_jobs world.store) → (n : ℕ) → Beats job.id n world.store.history → n ≤ job.attempt
first_beat_low merge world specs b job there n beat =
    let up = all_at (IsUpTo world.store.history (stored_jobs world.store)) (attempts_in beat.entry.event) (job.id, n) (all_at _ world.store.history beat.entry b.up_to beat.there beat.took) beat.named in
    subst (λ o. IfSome o (λ (j : Job). n ≤ j.attempt)) (found_job (stored_jobs world.store) job b.sound.job_ids there) up.1

pub earlier : (n attempt : ℕ) → n ≤ attempt → if_earlier attempt (Some n) ≡ n
earlier n attempt low = by (nat_lt n attempt) refl
  where
    by : (b : Bool) → nat_lt n attempt ≡ b → cond b n attempt ≡ n
    by true e = refl
    by false e = let high = ltb-false n attempt e in omega (arith, high, low)

-- The origin of an attempt is that of each later one, once the job was beaten.
pub origin_stays : (history : List Entry) (job n attempt more : ℕ) → first_beaten job history ≡ Some n → n ≤ attempt → attempt ≤ more → origin history job more ≡ origin history job attempt
origin_stays history job n attempt more first low up =
    ap (if_earlier more) first ∙ earlier n more (omega (arith, low, up)) ∙ sym (earlier n attempt low) ∙ sym (ap (if_earlier attempt) first)

pub claimed_stays : (store : Store) (specs : ℕ → JobSpec) (job attempt more : ℕ) (context : Context) → origin store.history job more ≡ origin store.history job attempt → IsClaimed store specs job attempt context → IsClaimed store specs job more context
claimed_stays store specs job attempt more context same h = record { settings = rw same h.settings; ranges = rw same h.ranges }
