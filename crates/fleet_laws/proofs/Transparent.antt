-- The sweepers' entries may be left out of a history. What is read from the history stays the same, entry by
-- entry.
use Rattle.std.proofs.Common.{◌≡◌, refl, sym, ◌∙◌, ap, ℕ, List, [], ◌∷◌, Bool, true, false, cond, Option, None, Some}
use Rattle.std.specs.Prelude.{not, ◌&&◌, ◌||◌, IsTrue, option_map}
use Rattle.std.specs.Option.{option_or}
use Rattle.std.specs.List.{list_any}
use Rattle.row_laws.proofs.ReadOnto.{cond_same}
use Rattle.fleet_model.specs.Nodes.{Tables}
use Rattle.fleet_model.specs.Jobs.{JobSpec}
use Rattle.fleet_model.specs.History.{Party, Writer, Submitter, Coordinator, Worker, Sweeper, Event, GetManifest, GetRecords, GetTable, PutTable, PutManifest, PutRecords, DrawJob, DrawTable, Plan, Start, Kill, ListTables, DeleteTable, Entry, stood}
use Rattle.fleet_model.specs.Store.{fresh_store}
use Rattle.fleet_model.specs.Past.Replay.{Objects, after_event, after_entry, plain_objects, replayed_objects}
use Rattle.fleet_model.specs.Past.Live.{LiveParties, party_did, live_from}
use Rattle.fleet_model.specs.Work.Attempts.{claim_settings}
use Rattle.fleet_model.specs.Past.Claimed.{beaten_in, first_beaten, if_earlier, origin, claimant_in, is_worker, objects_found, objects_at_get, planned_in, noted_plan, claimed_in}
use Rattle.fleet_model.proofs.ClaimCuts.{at_claim_or, objects_got, claim_step}
use Rattle.fleet_model.specs.Invariants.JobsFit.{joins}
use Rattle.fleet_model.specs.Invariants.AttemptsFit.{beats}
use Rattle.fleet_model.specs.Past.Finished.{finishes_job, later_or, finished_after}
use Rattle.fleet_laws.specs.Transparent.{is_sweeper, is_of_sweep, SweepersOnlySweep, without_sweeps, SweepsAreTransparent}

-- ---- one entry of a sweeper

sweeper : (party : Party) → is_sweeper party ≡ true → party ≡ Sweeper
sweeper Writer h = absurd (cc h)
sweeper Submitter h = absurd (cc h)
sweeper (Coordinator n) h = absurd (cc h)
sweeper (Worker n) h = absurd (cc h)
sweeper Sweeper h = refl

-- What an event of a sweep is to the readers of a history: it changes no object, and it is no heartbeat, no
-- claim, no plan, no commit and no finish.
record Mute (event : Event) : Type 0 where
  objects : (tables : Tables) (specs : ℕ → JobSpec) (o : Objects) → after_event tables specs event o ≡ o
  beaten : (job : ℕ) → beaten_in job event ≡ None
  claimed : (job attempt : ℕ) → claimant_in job attempt event ≡ None
  planned : (job attempt : ℕ) → planned_in job attempt event ≡ None
  joined : (job : ℕ) → joins job event ≡ false
  beats : (job : ℕ) → beats job event ≡ false
  finished : (job : ℕ) → finishes_job job event ≡ None

-- By cases: no event of a sweep is one that the readers look for.
is_mute : (event : Event) → IsTrue (is_of_sweep event) → Mute event
is_mute GetManifest h = record { objects = λ tables specs o. refl; beaten = λ job. refl; claimed = λ job attempt. refl; planned = λ job attempt. refl; joined = λ job. refl; beats = λ job. refl; finished = λ job. refl }
is_mute GetRecords h = record { objects = λ tables specs o. refl; beaten = λ job. refl; claimed = λ job attempt. refl; planned = λ job attempt. refl; joined = λ job. refl; beats = λ job. refl; finished = λ job. refl }
is_mute (ListTables n) h = record { objects = λ tables specs o. refl; beaten = λ job. refl; claimed = λ job attempt. refl; planned = λ job attempt. refl; joined = λ job. refl; beats = λ job. refl; finished = λ job. refl }
is_mute (DeleteTable n) h = record { objects = λ tables specs o. refl; beaten = λ job. refl; claimed = λ job attempt. refl; planned = λ job attempt. refl; joined = λ job. refl; beats = λ job. refl; finished = λ job. refl }
is_mute (GetTable n) h = absurd (cc h)
is_mute (PutTable n rows) h = absurd (cc h)
is_mute (PutManifest change) h = absurd (cc h)
is_mute (PutRecords change) h = absurd (cc h)
is_mute (DrawJob n) h = absurd (cc h)
is_mute (DrawTable n) h = absurd (cc h)
is_mute (Plan job attempt ranges) h = absurd (cc h)
is_mute (Start party) h = absurd (cc h)
is_mute (Kill party) h = absurd (cc h)

-- An entry of a sweeper that only sweeps.
record Silent (entry : Entry) : Type 0 where
  party : entry.party ≡ Sweeper
  event : Mute entry.event

silent : (entry : Entry) → (IsTrue (is_sweeper entry.party) → IsTrue (is_of_sweep entry.event)) → is_sweeper entry.party ≡ true → Silent entry
silent entry h e = record { party = sweeper entry.party e; event = is_mute entry.event (h e) }

objects_stay : (tables : Tables) (specs : ℕ → JobSpec) (entry : Entry) → Silent entry → (o : Objects) → after_entry tables specs entry o ≡ o
objects_stay tables specs entry s o = ap (λ x. cond (stood entry.answer) x o) (s.event.objects tables specs o) ∙ cond_same (stood entry.answer) o

-- ---- the readers of a history

-- By cases, whether the entry is a sweeper's: if it is not, the histories begin with it, and if it is, only
-- the one history does.
cases : {A : Type 0} (read : List Entry → A) (entry : Entry) (history : List Entry) → (IsTrue (is_sweeper entry.party) → IsTrue (is_of_sweep entry.event))
    → (Silent entry → read (without_sweeps history) ≡ read (entry ∷ history)) → read (entry ∷ without_sweeps history) ≡ read (entry ∷ history)
    → read (without_sweeps (entry ∷ history)) ≡ read (entry ∷ history)
cases {A} read entry history h gone kept = by (is_sweeper entry.party) refl
  where
    by : (b : Bool) → is_sweeper entry.party ≡ b → read (cond (not b) (entry ∷ without_sweeps history) (without_sweeps history)) ≡ read (entry ∷ history)
    by true e = gone (silent entry h e)
    by false e = kept

same_objects : (tables : Tables) (specs : ℕ → JobSpec) (history : List Entry) (o : Objects) → SweepersOnlySweep history
    → replayed_objects tables specs (without_sweeps history) o ≡ replayed_objects tables specs history o
same_objects tables specs [] o h = refl
same_objects tables specs (entry ∷ history) o h =
    cases (λ history. replayed_objects tables specs history o) entry history h.0
    (λ s. same_objects tables specs history o h.1 ∙ ap (replayed_objects tables specs history) (sym (objects_stay tables specs entry s o)))
    (same_objects tables specs history (after_entry tables specs entry o) h.1)

-- The live parties, entry by entry.
same_live : (tables : Tables) (specs : ℕ → JobSpec) (history : List Entry) (p : LiveParties) → SweepersOnlySweep history
    → live_from tables specs p (without_sweeps history) ≡ live_from tables specs p history
same_live tables specs [] p h = refl
same_live tables specs (entry ∷ history) p h =
    cases (λ history. live_from tables specs p history) entry history h.0
    (λ s. same_live tables specs history p h.1 ∙ ap (λ q. live_from tables specs q history) (sym (parties_stay s)))
    (same_live tables specs history (let q = party_did entry.party entry.event entry.answer p in record q { objects = after_entry tables specs entry q.objects }) h.1)
  where
    parties_stay : Silent entry → (let q = party_did entry.party entry.event entry.answer p in record q { objects = after_entry tables specs entry q.objects }) ≡ p
    parties_stay s =
        ap (λ party. let q = party_did party entry.event entry.answer p in record q { objects = after_entry tables specs entry q.objects }) s.party
        ∙ ap (λ o. record p { objects = o }) (objects_stay tables specs entry s p.objects)

same_beaten : (job : ℕ) (history : List Entry) → SweepersOnlySweep history → first_beaten job (without_sweeps history) ≡ first_beaten job history
same_beaten job [] h = refl
same_beaten job (entry ∷ history) h =
    cases (first_beaten job) entry history h.0
    (λ s. same_beaten job history h.1 ∙ sym (ap (λ x. option_or (cond (stood entry.answer) x None) (first_beaten job history)) (s.event.beaten job) ∙ ap (λ x. option_or x (first_beaten job history)) (cond_same (stood entry.answer) None)))
    (ap (option_or (cond (stood entry.answer) (beaten_in job entry.event) None)) (same_beaten job history h.1))

same_get : (tables : Tables) (specs : ℕ → JobSpec) (worker : ℕ) (history : List Entry) (o : Objects) → SweepersOnlySweep history
    → objects_at_get tables specs worker (without_sweeps history) o ≡ objects_at_get tables specs worker history o
same_get tables specs worker [] o h = refl
same_get tables specs worker (entry ∷ history) o h =
    cases (λ history. objects_at_get tables specs worker history o) entry history h.0
    (λ s. same_get tables specs worker history o h.1 ∙ sym (ap (λ party. cond (is_worker worker party) (objects_found entry.event entry.answer o) (objects_at_get tables specs worker history (after_entry tables specs entry o))) s.party
    ∙ ap (objects_at_get tables specs worker history) (objects_stay tables specs entry s o)))
    (ap (cond (is_worker worker entry.party) (objects_found entry.event entry.answer o)) (same_get tables specs worker history (after_entry tables specs entry o) h.1))

from_alike : (claimant : Option ℕ) (one other : ℕ → Option Objects) (a b : Option Objects) → ((worker : ℕ) → one worker ≡ other worker) → a ≡ b
    → at_claim_or claimant one a ≡ at_claim_or claimant other b
from_alike None one other a b each rest = rest
from_alike (Some worker) one other a b each rest = each worker

-- The objects that a claim got, entry by entry.
same_claim : (tables : Tables) (specs : ℕ → JobSpec) (job attempt : ℕ) (history : List Entry) (o : Objects) → SweepersOnlySweep history
    → objects_got tables specs job attempt (without_sweeps history) o ≡ objects_got tables specs job attempt history o
same_claim tables specs job attempt [] o h = refl
same_claim tables specs job attempt (entry ∷ history) o h =
    let after : Objects = after_entry tables specs entry o in
    cases (λ history. objects_got tables specs job attempt history o) entry history h.0
    (λ s. same_claim tables specs job attempt history o h.1 ∙ sym (
    claim_step tables specs job attempt entry history o
    ∙ ap (λ x. at_claim_or (cond (stood entry.answer) x None) (λ worker. objects_at_get tables specs worker history after) (objects_got tables specs job attempt history after)) (s.event.claimed job attempt)
    ∙ ap (λ x. at_claim_or x (λ worker. objects_at_get tables specs worker history after) (objects_got tables specs job attempt history after)) (cond_same (stood entry.answer) None)
    ∙ ap (objects_got tables specs job attempt history) (objects_stay tables specs entry s o)))
    (claim_step tables specs job attempt entry (without_sweeps history) o
    ∙ from_alike (claimed_in job attempt entry) (λ worker. objects_at_get tables specs worker (without_sweeps history) after) (λ worker. objects_at_get tables specs worker history after)
    (objects_got tables specs job attempt (without_sweeps history) after) (objects_got tables specs job attempt history after)
    (λ worker. same_get tables specs worker history after h.1) (same_claim tables specs job attempt history after h.1)
    ∙ sym (claim_step tables specs job attempt entry history o))

same_plan : (job attempt : ℕ) (history : List Entry) → SweepersOnlySweep history → noted_plan job attempt (without_sweeps history) ≡ noted_plan job attempt history
same_plan job attempt [] h = refl
same_plan job attempt (entry ∷ history) h =
    cases (noted_plan job attempt) entry history h.0
    (λ s. same_plan job attempt history h.1 ∙ sym (ap (λ x. option_or x (noted_plan job attempt history)) (s.event.planned job attempt)))
    (ap (option_or (planned_in job attempt entry.event)) (same_plan job attempt history h.1))

same_any : (is : Event → Bool) (history : List Entry) → SweepersOnlySweep history → ((entry : Entry) → Silent entry → is entry.event ≡ false)
    → list_any (λ entry. is entry.event && stood entry.answer) (without_sweeps history) ≡ list_any (λ entry. is entry.event && stood entry.answer) history
same_any is [] h never = refl
same_any is (entry ∷ history) h never =
    cases (list_any (λ entry. is entry.event && stood entry.answer)) entry history h.0
    (λ s. same_any is history h.1 never ∙ sym (ap (λ x. (x && stood entry.answer) || list_any (λ entry. is entry.event && stood entry.answer) history) (never entry s)))
    (ap (λ x. (is entry.event && stood entry.answer) || x) (same_any is history h.1 never))

same_finished : (job : ℕ) (history : List Entry) (finished : Bool) → SweepersOnlySweep history → finished_after finished (without_sweeps history) job ≡ finished_after finished history job
same_finished job [] finished h = refl
same_finished job (entry ∷ history) finished h =
    cases (λ history. finished_after finished history job) entry history h.0
    (λ s. same_finished job history finished h.1 ∙ sym (ap (λ x. finished_after (cond (stood entry.answer) (later_or finished x) finished) history job) (s.event.finished job)
    ∙ ap (λ x. finished_after x history job) (cond_same (stood entry.answer) finished)))
    (same_finished job history (cond (stood entry.answer) (later_or finished (finishes_job job entry.event)) finished) h.1)

-- All readers together.
pub sweeps_are_transparent : SweepsAreTransparent
sweeps_are_transparent tables specs history h = record {
  objects = same_objects tables specs history (plain_objects fresh_store) h;
  live = same_live tables specs history (record { objects = plain_objects fresh_store; epochs = []; coordinators = []; workers = [] }) h;
  settings = λ job attempt. ap (option_map (λ o. claim_settings o.manifest 0 (specs job)))
      (ap (λ first. objects_got tables specs job (if_earlier attempt first) (without_sweeps history) (plain_objects fresh_store)) (same_beaten job history h)
      ∙ same_claim tables specs job (origin history job attempt) history (plain_objects fresh_store) h);
  ranges = λ job attempt. ap (λ first. noted_plan job (if_earlier attempt first) (without_sweeps history)) (same_beaten job history h) ∙ same_plan job (origin history job attempt) history h;
  joined = λ job. same_any (joins job) history h (λ entry s. s.event.joined job);
  beaten = λ job. same_any (beats job) history h (λ entry s. s.event.beats job);
  finished = λ job. same_finished job history false h;
}
