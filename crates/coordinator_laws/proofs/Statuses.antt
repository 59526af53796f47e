-- Which statuses exclude or include others.
use Rattle.std.proofs.Common.{◌≡◌, refl, inl, inr, ◌⊎◌}
use Rattle.std.specs.Prelude.{IsTrue, ◌||◌}
use Rattle.fleet_model.specs.Jobs.{Status, Submitted, Scheduled, Running, Compacted, Completed, Failed, status_eq, is_finished}
use Rattle.step_laws.proofs.OpenJobs.{is_open}

pub status_of : (s t : Status) → IsTrue (status_eq s t) → s ≡ t
status_of Submitted Submitted h = refl
status_of Scheduled Scheduled h = refl
status_of Running Running h = refl
status_of Compacted Compacted h = refl
status_of Completed Completed h = refl
status_of Failed Failed h = refl
status_of s t h = absurd (cc h)

pub scheduled_holds : (s : Status) → IsTrue (status_eq Scheduled s) → IsTrue (status_eq Scheduled s || status_eq Running s || status_eq Compacted s)
scheduled_holds Scheduled h = refl
scheduled_holds Submitted h = absurd (cc h)
scheduled_holds Running h = absurd (cc h)
scheduled_holds Compacted h = absurd (cc h)
scheduled_holds Completed h = absurd (cc h)
scheduled_holds Failed h = absurd (cc h)

pub submitted_scheduled : (s : Status) → IsTrue (status_eq Submitted s) → IsTrue (status_eq Scheduled s) → ⊥
submitted_scheduled Submitted h k = absurd (cc k)
submitted_scheduled Scheduled h k = absurd (cc h)
submitted_scheduled Running h k = absurd (cc h)
submitted_scheduled Compacted h k = absurd (cc h)
submitted_scheduled Completed h k = absurd (cc h)
submitted_scheduled Failed h k = absurd (cc h)

pub submitted_compacted : (s : Status) → IsTrue (status_eq Submitted s) → IsTrue (status_eq Compacted s) → ⊥
submitted_compacted Submitted h k = absurd (cc k)
submitted_compacted Compacted h k = absurd (cc h)
submitted_compacted Scheduled h k = absurd (cc h)
submitted_compacted Running h k = absurd (cc h)
submitted_compacted Completed h k = absurd (cc h)
submitted_compacted Failed h k = absurd (cc h)

pub ends_not_open : (s : Status) → IsTrue (status_eq Submitted s || status_eq Compacted s) → IsTrue (is_open s) → ⊥
ends_not_open Submitted h k = absurd (cc k)
ends_not_open Compacted h k = absurd (cc k)
ends_not_open Scheduled h k = absurd (cc h)
ends_not_open Running h k = absurd (cc h)
ends_not_open Completed h k = absurd (cc h)
ends_not_open Failed h k = absurd (cc h)

pub ends_not_running : (s : Status) → IsTrue (status_eq Submitted s || status_eq Compacted s) → IsTrue (status_eq Running s) → ⊥
ends_not_running Submitted h k = absurd (cc k)
ends_not_running Compacted h k = absurd (cc k)
ends_not_running Scheduled h k = absurd (cc h)
ends_not_running Running h k = absurd (cc h)
ends_not_running Completed h k = absurd (cc h)
ends_not_running Failed h k = absurd (cc h)

pub open_cases : (s : Status) → IsTrue (is_open s) → IsTrue (status_eq Scheduled s || status_eq Running s)
open_cases Scheduled h = refl
open_cases Running h = refl
open_cases Submitted h = absurd (cc h)
open_cases Compacted h = absurd (cc h)
open_cases Completed h = absurd (cc h)
open_cases Failed h = absurd (cc h)

pub holds_cases : (s : Status) → IsTrue (status_eq Scheduled s || status_eq Running s || status_eq Compacted s) → IsTrue (status_eq Scheduled s || status_eq Running s) ⊎ IsTrue (status_eq Compacted s)
holds_cases Scheduled h = inl refl
holds_cases Running h = inl refl
holds_cases Compacted h = inr refl
holds_cases Submitted h = absurd (cc h)
holds_cases Completed h = absurd (cc h)
holds_cases Failed h = absurd (cc h)

pub over_not_open : (s : Status) → IsTrue (is_finished s) → IsTrue (is_open s) → ⊥
over_not_open Completed h k = absurd (cc k)
over_not_open Failed h k = absurd (cc k)
over_not_open Submitted h k = absurd (cc h)
over_not_open Scheduled h k = absurd (cc h)
over_not_open Running h k = absurd (cc h)
over_not_open Compacted h k = absurd (cc h)

pub over_not_running : (s : Status) → IsTrue (is_finished s) → IsTrue (status_eq Running s) → ⊥
over_not_running Completed h k = absurd (cc k)
over_not_running Failed h k = absurd (cc k)
over_not_running Submitted h k = absurd (cc h)
over_not_running Scheduled h k = absurd (cc h)
over_not_running Running h k = absurd (cc h)
over_not_running Compacted h k = absurd (cc h)

pub over_not_ending : (s : Status) → IsTrue (is_finished s) → IsTrue (status_eq Submitted s || status_eq Compacted s) → ⊥
over_not_ending Completed h k = absurd (cc k)
over_not_ending Failed h k = absurd (cc k)
over_not_ending Submitted h k = absurd (cc h)
over_not_ending Scheduled h k = absurd (cc h)
over_not_ending Running h k = absurd (cc h)
over_not_ending Compacted h k = absurd (cc h)
