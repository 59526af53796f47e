-- Entries that change no stored object: their event is no put of an object, or the put did not take effect.
use Rattle.std.proofs.Common.{◌≡◌, refl, ℕ, [], Bool, true, false, None}
use Rattle.std.specs.Prelude.{◌&&◌, IsTrue, if◌then◌else◌}
use Rattle.fleet_model.specs.Nodes.{Tables}
use Rattle.fleet_model.specs.Jobs.{JobSpec}
use Rattle.fleet_model.specs.History.{Event, PutManifest, PutRecords}
use Rattle.fleet_model.specs.Past.Replay.{Objects, after_event}
use Rattle.fleet_model.specs.Past.Claimed.{beaten_in}
use Rattle.fleet_model.specs.Invariants.JobsFit.{joins}
use Rattle.fleet_model.specs.Invariants.AttemptsFit.{beats}
use Rattle.step_model.specs.Entries.{steps_in, attempts_in, attempts_claimed_in, epoch_in, tables_brought_in}
use Rattle.step_model.specs.Kept.JoinsKept.{joins_in}

-- The entry of an event says nothing of jobs and attempts. The flag says that the event took effect.
pub record IsQuiet (took : Bool) (event : Event) : Type 0 where
  pub steps : (if took then steps_in event else []) ≡ []
  pub attempts : IsTrue took → attempts_in event ≡ []
  pub claims : attempts_claimed_in took event ≡ []
  pub beats : (job : ℕ) → (beats job event && took) ≡ false
  pub beaten : (job : ℕ) → (if took then beaten_in job event else None) ≡ None
  pub joins : (job : ℕ) → (joins job event && took) ≡ false
  pub joined : IsTrue took → joins_in event ≡ []

-- The entry of an event says nothing of this job.
pub record IsQuietFor (took : Bool) (event : Event) (job : ℕ) : Type 0 where
  pub beats : (beats job event && took) ≡ false
  pub beaten : (if took then beaten_in job event else None) ≡ None
  pub joins : (joins job event && took) ≡ false

pub quiet_for : (took : Bool) (event : Event) (job : ℕ) → IsQuiet took event → IsQuietFor took event job
quiet_for took event job q = record { beats = q.beats job; beaten = q.beaten job; joins = q.joins job }

-- The entry of an event changes no object either.
pub record IsMute (took : Bool) (event : Event) : Type 0 where
  pub quiet : IsQuiet took event
  pub objects : (tables : Tables) (specs : ℕ → JobSpec) (o : Objects) → (if took then after_event tables specs event o else o) ≡ o
  pub brought : tables_brought_in took event ≡ []
  pub epoch : epoch_in took event ≡ []

-- The event is a put of the manifest or of the records.
abbrev pub puts_object : Event → Bool
puts_object (PutManifest change) = true
puts_object (PutRecords change) = true
puts_object _ = false

pub and_never : (b : Bool) → (b && false) ≡ false
and_never true = refl
and_never false = refl

-- A put that did not take effect is mute.
pub mute_refused : (event : Event) → IsMute false event
mute_refused event = record {
  quiet = record {
    steps = refl;
    attempts = λ took. absurd (cc took);
    claims = refl;
    beats = λ job. and_never (beats job event);
    beaten = λ job. refl;
    joins = λ job. and_never (joins job event);
    joined = λ took. absurd (cc took);
  };
  objects = λ tables specs o. refl;
  brought = refl;
  epoch = refl;
}

-- An event that is no put of an object is mute.
pub mute_event : (took : Bool) (event : Event) → puts_object event ≡ false → IsMute took event
mute_event false event h = mute_refused event
mute_event true (PutManifest change) h = absurd (cc h)
mute_event true (PutRecords change) h = absurd (cc h)
mute_event true event h = record {
  quiet = record {
    steps = refl;
    attempts = λ took. refl;
    claims = refl;
    beats = λ job. refl;
    beaten = λ job. refl;
    joins = λ job. refl;
    joined = λ took. refl;
  };
  objects = λ tables specs o. refl;
  brought = refl;
  epoch = refl;
}
