-- Replays of a history that grows at its end.
use Rattle.std.proofs.Common.{◌≡◌, refl, ℕ, ◌+◌, ◌≤◌, List, [], ◌∷◌, ◌++◌, cond, Bool, true, false, arith}
use Rattle.fleet_model.specs.Nodes.{Tables}
use Rattle.fleet_model.specs.Jobs.{JobSpec}
use Rattle.fleet_model.specs.History.{Event, Entry, PutManifest, PutRecords, ManifestEpoch, Flush, Commit, stood}
use Rattle.fleet_model.specs.Past.Replay.{Objects, after_event, after_entry, replayed_objects}
use Rattle.fleet_model.proofs.Begins.{replayed-append}

-- ---- one entry more

pub replayed_push : (tables : Tables) (specs : ℕ → JobSpec) (history : List Entry) (entry : Entry) (o : Objects)
    → replayed_objects tables specs (history ++ entry ∷ []) o ≡ after_entry tables specs entry (replayed_objects tables specs history o)
replayed_push tables specs history entry o = replayed-append tables specs history (entry ∷ []) o

-- ---- the version of a replay

-- How many puts of the manifest took effect.
abbrev pub manifest_puts_in : Bool → Event → ℕ
manifest_puts_in true (PutManifest change) = 1
manifest_puts_in _ _ = 0

abbrev pub manifest_puts : List Entry → ℕ
manifest_puts [] = 0
manifest_puts (entry ∷ history) = manifest_puts_in (stood entry.answer) entry.event + manifest_puts history

version_by : (tables : Tables) (specs : ℕ → JobSpec) (took : Bool) (event : Event) (o : Objects)
    → (cond took (after_event tables specs event o) o).manifest.version ≡ o.manifest.version + manifest_puts_in took event
version_by tables specs false event o = omega arith
version_by tables specs true (PutManifest (ManifestEpoch epoch)) o = refl
version_by tables specs true (PutManifest (Flush name segment floor tick)) o = refl
version_by tables specs true (PutManifest (Commit steps)) o = refl
version_by tables specs true (PutRecords change) o = omega arith
version_by tables specs true event o = omega arith

pub replay_version : (tables : Tables) (specs : ℕ → JobSpec) (history : List Entry) (o : Objects)
    → (replayed_objects tables specs history o).manifest.version ≡ o.manifest.version + manifest_puts history
replay_version tables specs [] o = omega arith
replay_version tables specs (entry ∷ history) o =
    let further = replay_version tables specs history (after_entry tables specs entry o) in
    let first = version_by tables specs (stood entry.answer) entry.event o in
    omega (arith, further, first)

pub puts_front : (front back : List Entry) → manifest_puts front ≤ manifest_puts (front ++ back)
puts_front [] back = omega arith
puts_front (entry ∷ front) back = let further = puts_front front back in omega (arith, further)

-- No replay of a part of the history has a version above that of the whole, whatever the specs are.
pub part_version : (tables more : Tables) (specs others : ℕ → JobSpec) (front back : List Entry) (o : Objects)
    → (replayed_objects tables specs front o).manifest.version ≤ (replayed_objects more others (front ++ back) o).manifest.version
part_version tables more specs others front back o =
    let part = replay_version tables specs front o in
    let whole = replay_version more others (front ++ back) o in
    let few = puts_front front back in
    omega (arith, part, whole, few)
