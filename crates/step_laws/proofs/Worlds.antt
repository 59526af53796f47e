-- What a history tells of an attempt stays as the history grows, unless a heartbeat names its job.
use Rattle.std.proofs.Common.{◌≡◌, refl, sym, ◌∙◌, ap, subst, ℕ, List, [], ◌∷◌, ◌++◌, cond, Bool, true, false, Option, Some, None}
use Rattle.std.specs.Prelude.{if◌then◌else◌, option_map}
use Rattle.std.specs.Option.{option_or}
use Rattle.row_model.specs.Ranges.{Range}
use Rattle.row_model.specs.Settings.{Settings}
use Rattle.fleet_model.specs.Nodes.{Tables}
use Rattle.fleet_model.specs.Jobs.{JobSpec}
use Rattle.fleet_model.specs.History.{Entry, stood}
use Rattle.fleet_model.specs.Store.{fresh_store}
use Rattle.fleet_model.specs.Past.Replay.{Objects, after_entry, plain_objects, replayed_objects}
use Rattle.fleet_model.specs.Work.Attempts.{claim_settings}
use Rattle.fleet_model.specs.Past.Claimed.{beaten_in, first_beaten, if_earlier, origin, is_worker, objects_found, objects_at_get, settings_of, planned_in, noted_plan, ranges_of, claimed_in, ClaimCut, with_first, cut_here_or, cut_at_claim, objects_after_claim}
use Rattle.fleet_model.proofs.ClaimCuts.{objects_got}

get_stays : (tables : Tables) (specs : ℕ → JobSpec) (worker : ℕ) (history later : List Entry) (o p : Objects) → objects_at_get tables specs worker history o ≡ Some p → objects_at_get tables specs worker (history ++ later) o ≡ Some p
get_stays tables specs worker [] later o p e = absurd (cc e)
get_stays tables specs worker (entry ∷ history) later o p e = by (is_worker worker entry.party) (λ h. get_stays tables specs worker history later (after_entry tables specs entry o) p h) e
  where
    by : (own : Bool) → (objects_at_get tables specs worker history (after_entry tables specs entry o) ≡ Some p → objects_at_get tables specs worker (history ++ later) (after_entry tables specs entry o) ≡ Some p)
        → cond own (objects_found entry.event entry.answer o) (objects_at_get tables specs worker history (after_entry tables specs entry o)) ≡ Some p
        → cond own (objects_found entry.event entry.answer o) (objects_at_get tables specs worker (history ++ later) (after_entry tables specs entry o)) ≡ Some p
    by true rest h = h
    by false rest h = rest h

-- The cut of a history with more entries after it.
abbrev and_later : List Entry → ClaimCut → ClaimCut
and_later later cut = record cut { since = cut.since ++ later }

-- A longer history is cut at the claim of an attempt where the shorter one was, with the new entries after the cut.
cut_stays : (job attempt : ℕ) (history later : List Entry) (cut : ClaimCut) → cut_at_claim job attempt history ≡ Some cut → cut_at_claim job attempt (history ++ later) ≡ Some (and_later later cut)
cut_stays job attempt [] later cut e = absurd (cc e)
cut_stays job attempt (entry ∷ history) later cut e = by (claimed_in job attempt entry) (λ found is. cut_stays job attempt history later found is) e
  where
    Later : Type 0
    Later = (found : ClaimCut) → cut_at_claim job attempt history ≡ Some found → cut_at_claim job attempt (history ++ later) ≡ Some (and_later later found)

    first : Later → (o : Option ClaimCut) → cut_at_claim job attempt history ≡ o → option_map (with_first entry) o ≡ Some cut → option_map (with_first entry) (cut_at_claim job attempt (history ++ later)) ≡ Some (and_later later cut)
    first rest None is h = absurd (cc h)
    first rest (Some found) is h =
        let same : with_first entry found ≡ cut = cc h in
        ap (option_map (with_first entry)) (rest found is) ∙ ap (λ c. Some (and_later later c)) same

    by : (claimed : Option ℕ) → Later → cut_here_or claimed entry history (cut_at_claim job attempt history) ≡ Some cut → cut_here_or claimed entry (history ++ later) (cut_at_claim job attempt (history ++ later)) ≡ Some (and_later later cut)
    by None rest h = first rest (cut_at_claim job attempt history) refl h
    by (Some worker) rest h = ap (option_map (and_later later)) h

claim_stays : (tables : Tables) (specs : ℕ → JobSpec) (job attempt : ℕ) (history later : List Entry) (o p : Objects) → objects_got tables specs job attempt history o ≡ Some p → objects_got tables specs job attempt (history ++ later) o ≡ Some p
claim_stays tables specs job attempt history later o p e = by (cut_at_claim job attempt history) refl e
  where
    by : (cut : Option ClaimCut) → cut_at_claim job attempt history ≡ cut → objects_after_claim tables specs o cut ≡ Some p → objects_got tables specs job attempt (history ++ later) o ≡ Some p
    by None is h = absurd (cc h)
    by (Some cut) is h =
        ap (objects_after_claim tables specs o) (cut_stays job attempt history later cut is) ∙ get_stays tables specs cut.worker cut.since later (replayed_objects tables specs cut.until o) p h

or_none : (a b : Option ℕ) → b ≡ None → option_or a b ≡ a
or_none None b e = e
or_none (Some n) b e = refl

pub beaten_stays : (job : ℕ) (history : List Entry) (entry : Entry) → (if stood entry.answer then beaten_in job entry.event else None) ≡ None → first_beaten job (history ++ entry ∷ []) ≡ first_beaten job history
beaten_stays job [] entry e = or_none (if stood entry.answer then beaten_in job entry.event else None) None refl ∙ e
beaten_stays job (first ∷ history) entry e = ap (option_or (if stood first.answer then beaten_in job first.event else None)) (beaten_stays job history entry e)

plan_stays : (job attempt : ℕ) (history later : List Entry) (ranges : List Range) → noted_plan job attempt history ≡ Some ranges → noted_plan job attempt (history ++ later) ≡ Some ranges
plan_stays job attempt [] later ranges e = absurd (cc e)
plan_stays job attempt (entry ∷ history) later ranges e = by (planned_in job attempt entry.event) (λ h. plan_stays job attempt history later ranges h) e
  where
    by : (noted : Option (List Range)) → (noted_plan job attempt history ≡ Some ranges → noted_plan job attempt (history ++ later) ≡ Some ranges)
        → option_or noted (noted_plan job attempt history) ≡ Some ranges → option_or noted (noted_plan job attempt (history ++ later)) ≡ Some ranges
    by None rest h = rest h
    by (Some other) rest h = h

mapped_stays : (f : Objects → Settings) (a b : Option Objects) (s : Settings) → ((p : Objects) → a ≡ Some p → b ≡ Some p) → option_map f a ≡ Some s → option_map f b ≡ Some s
mapped_stays f None b s stays e = absurd (cc e)
mapped_stays f (Some p) b s stays e = rw (stays p refl) e

-- Settings and ranges stay where the origin of the attempt does.
pub settings_stay_at : (tables : Tables) (specs : ℕ → JobSpec) (history : List Entry) (entry : Entry) (job attempt : ℕ) (s : Settings) → origin history job attempt ≡ origin (history ++ entry ∷ []) job attempt
    → settings_of tables specs history job attempt ≡ Some s → settings_of tables specs (history ++ entry ∷ []) job attempt ≡ Some s
settings_stay_at tables specs history entry job attempt s same e =
    mapped_stays (λ (o : Objects). claim_settings o.manifest 0 (specs job)) (objects_got tables specs job (origin history job attempt) history (plain_objects fresh_store))
    (objects_got tables specs job (origin (history ++ entry ∷ []) job attempt) (history ++ entry ∷ []) (plain_objects fresh_store)) s
    (λ p h. subst (λ n. objects_got tables specs job n (history ++ entry ∷ []) (plain_objects fresh_store) ≡ Some p) same
    (claim_stays tables specs job (origin history job attempt) history (entry ∷ []) (plain_objects fresh_store) p h)) e

pub ranges_stay_at : (history : List Entry) (entry : Entry) (job attempt : ℕ) (ranges : List Range) → origin history job attempt ≡ origin (history ++ entry ∷ []) job attempt
    → ranges_of history job attempt ≡ Some ranges → ranges_of (history ++ entry ∷ []) job attempt ≡ Some ranges
ranges_stay_at history entry job attempt ranges same e =
    subst (λ n. noted_plan job n (history ++ entry ∷ []) ≡ Some ranges) same (plan_stays job (origin history job attempt) history (entry ∷ []) ranges e)

-- An entry that is no heartbeat of the job leaves its origin.
pub settings_stay : (tables : Tables) (specs : ℕ → JobSpec) (history : List Entry) (entry : Entry) (job attempt : ℕ) (s : Settings) → (if stood entry.answer then beaten_in job entry.event else None) ≡ None
    → settings_of tables specs history job attempt ≡ Some s → settings_of tables specs (history ++ entry ∷ []) job attempt ≡ Some s
settings_stay tables specs history entry job attempt s quiet e = settings_stay_at tables specs history entry job attempt s (sym (ap (if_earlier attempt) (beaten_stays job history entry quiet))) e

pub ranges_stay : (history : List Entry) (entry : Entry) (job attempt : ℕ) (ranges : List Range) → (if stood entry.answer then beaten_in job entry.event else None) ≡ None
    → ranges_of history job attempt ≡ Some ranges → ranges_of (history ++ entry ∷ []) job attempt ≡ Some ranges
ranges_stay history entry job attempt ranges quiet e = ranges_stay_at history entry job attempt ranges (sym (ap (if_earlier attempt) (beaten_stays job history entry quiet))) e
