-- The settings of attempts are those that their claim gave them.
use Rattle.std.proofs.Common.{◌≡◌, refl, ◌∙◌, ap, subst, List, [], ◌∷◌, cond, Bool, true, false, inl, inr, ◌⊎◌, Option, Some, None}
use Rattle.std.specs.Prelude.{nat_lt}
use Rattle.std.specs.List.{AllByRecursion}
use Rattle.row_model.specs.Settings.{Settings}
use Rattle.fleet_model.specs.Jobs.{Job, Context, knows_cut}
use Rattle.fleet_model.specs.Past.Claimed.{without_cut}
use Rattle.fleet_model.specs.Past.Replay.{IsReplayed}
use Rattle.fleet_model.specs.Work.Attempts.{context_or, fresh_context}
use Rattle.fleet_model.specs.Work.Parties.{Attempt, LiveWorker, put_attempt, with_attempts, without_attempts}
use Rattle.fleet_model.specs.Invariants.AttemptsFit.{AttemptStands}
use Rattle.step_laws.proofs.Elements.{IsIn, all_at, all_from}
use Rattle.step_laws.proofs.Polls.{in_map}
use Rattle.script_model.specs.Script.{ClaimJobs}
use Rattle.script_model.specs.States.{State}
use Rattle.line_laws.specs.States.{StateKeeps}
use Rattle.line_laws.specs.Lines.ClaimLines.{ClaimRan, begun_in, taken_in, stopped_in}
use Rattle.line_laws.specs.Lines.ClaimSettings.{settings_or, settings_taken, input_in, attempt_in, HasSettings, SettingsGiven, ClaimsGiveSettings}
use Rattle.line_laws.proofs.ClaimLines.{claims_take}
use Rattle.line_laws.proofs.Scripts.{course_leads}
use Rattle.line_laws.proofs.WorkerLines.{is_worker}

-- ---- attempts that are put among others

pub in_put : (a : Attempt) (attempts : List Attempt) → IsIn a (put_attempt a attempts)
in_put a [] = inl refl
in_put a (b ∷ attempts) = by (nat_lt a.job b.job) (in_put a attempts)
  where
    by : (c : Bool) → IsIn a (put_attempt a attempts) → IsIn a (cond c (a ∷ b ∷ attempts) (b ∷ put_attempt a attempts))
    by true rest = inl refl
    by false rest = inr rest

pub still_put : (a x : Attempt) (attempts : List Attempt) → IsIn x attempts → IsIn x (put_attempt a attempts)
still_put a x [] there = absurd there
still_put a x (b ∷ attempts) there = by (nat_lt a.job b.job) there (still_put a x attempts)
  where
    by : (c : Bool) → (b ≡ x) ⊎ IsIn x attempts → (IsIn x attempts → IsIn x (put_attempt a attempts)) → IsIn x (cond c (a ∷ b ∷ attempts) (b ∷ put_attempt a attempts))
    by true there rest = inr there
    by false (inl same) rest = inl same
    by false (inr one) rest = inr (rest one)

pub still_with : (new attempts : List Attempt) (x : Attempt) → IsIn x attempts → IsIn x (with_attempts new attempts)
still_with [] attempts x there = there
still_with (a ∷ new) attempts x there = still_with new (put_attempt a attempts) x (still_put a x attempts there)

-- New attempts are among those that a worker runs after its claim.
new_with : (new attempts : List Attempt) (x : Attempt) → IsIn x new → IsIn x (with_attempts new attempts)
new_with [] attempts x there = absurd there
new_with (a ∷ new) attempts x (inl same) = still_with new (put_attempt a attempts) x (subst (λ y. IsIn y (put_attempt a attempts)) same (in_put a attempts))
new_with (a ∷ new) attempts x (inr there) = new_with new (put_attempt a attempts) x there

-- ---- settings

taken_settings : (knows : Bool) (o : Option Context) (fresh : Context) → (context_or knows o fresh).settings ≡ settings_or o fresh.settings
taken_settings knows None fresh = refl
taken_settings knows (Some context) fresh = refl

-- The attempt that a claim begins has the settings that the claim gives it.
has_taken : (s : State) (w : LiveWorker) (job : Job) → (attempt_in s w job).context.settings ≡ settings_taken s w job
has_taken s w job = taken_settings (knows_cut w.release) job.context (fresh_context (input_in s w) job)

-- A claim that is not refused gives its attempts the settings that it read, or those of the contexts that they take over.
pub claims_give_settings : ClaimsGiveSettings
claims_give_settings inputs old new n answer c ok = by (claims_take inputs old new n answer c ok)
  where
    k : StateKeeps inputs.merge new
    k = (course_leads inputs c.number old (ClaimJobs n) answer new c.lawful tt c.course).keeps c.had_room c.keeps

    by : ClaimRan n old answer new → SettingsGiven n old answer new
    by r = record { worker = w; live = r.live; printed = r.printed; replay = replay; each = all_from _ (taken_in old w) one }
      where
        w : LiveWorker
        w = r.worker

        replay : IsReplayed new.store
        replay = k.fleet.store.stored.replay

        left : List Attempt
        left = without_attempts (stopped_in old w) w.attempts

        attempts : List Attempt
        attempts = with_attempts (begun_in old w) left

        stand : AllByRecursion (AttemptStands inputs.merge new.store replay.specs) attempts
        stand = ((is_worker inputs.merge new k n (record w { attempts = attempts }) r.runs).holds.fits replay.specs k.fleet.store.faithful).each

        one : (job : Job) → IsIn job (taken_in old w) → HasSettings old w new.store replay.specs job
        one job there =
            let a = all_at (AttemptStands inputs.merge new.store replay.specs) attempts (attempt_in old w job) stand (new_with (begun_in old w) left (attempt_in old w job) (in_map (attempt_in old w) (taken_in old w) job there)) in
            record { has = has_taken old w job; claimed = a.claimed.settings ∙ ap (λ (settings : Settings). Some (without_cut settings)) (has_taken old w job) }
