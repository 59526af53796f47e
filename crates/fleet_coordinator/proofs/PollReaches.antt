-- What a poll reached may be put.
use Rattle.std.proofs.Common.{◌≡◌, ◌≢◌, refl, sym, ◌∙◌, ap, subst, ℕ, suc, ◌+◌, List, [], ◌∷◌, cond, Bool, true, false, inl, inr, Some, None, add-one}
use Rattle.std.specs.Prelude.{◌==◌, ◌⊎◌, IsTrue, map}
use Rattle.std.specs.List.{AllByRecursion, zip}
use Rattle.std.proofs.lemmas.Bool.{ne_eqb}
use Rattle.std.proofs.lemmas.Bool.Decides.{Decides-eqb}
use Rattle.row_model.specs.Fold.{IsLawful}
use Rattle.row_model.specs.Lists.{Pairs}
use Rattle.fleet_model.specs.Exchanges.{Plain}
use Rattle.fleet_model.specs.History as history
use Rattle.fleet_model.specs.History.{GetRecords}
use Rattle.fleet_model.specs.Jobs.{Job, JobSpec, ids}
use Rattle.fleet_model.specs.Past.Replay.{outputs_in}
use Rattle.fleet_model.specs.Store.{Manifest, Records}
use Rattle.fleet_model.specs.Trees.{job_of}
use Rattle.fleet_model.specs.Work.PollStates.{PollInput, PollState}
use Rattle.fleet_model.specs.Work.Scheduler.{Scheduler}
use Rattle.step_model.specs.Courses.Course.{Course, Ends, draws_jobs}
use Rattle.step_model.specs.Courses.CourseRuns.{IsLawfulCourse}
use Rattle.step_model.specs.Courses.StepEnds.{StepEnd, GivesUp}
use Rattle.step_model.specs.Entries.{was_named}
use Rattle.step_model.specs.Kept.Keeps.{Keeps}
use Rattle.step_model.specs.Later.{IsLater}
use Rattle.step_model.specs.Past.{World}
use Rattle.step_model.specs.Rivals.{Caller, Rivals, after_call}
use Rattle.step_model.specs.Steps.PollSteps.{PollAsk, first_steps, last_steps, poll_try, proposed_specs, puts_trees, records_or_none}
use Rattle.step_model.specs.Views.{StoreView}
use Rattle.step_laws.proofs.Elements.{IsIn, all_at, all_to}
use Rattle.step_laws.proofs.Later.{call_later, later_then}
use Rattle.course_laws.proofs.Later.{later_itself}
use Rattle.commit_laws.proofs.AllCalls.{calls_keep}
use Rattle.course_laws.proofs.Calls.{keeps_after}
use Rattle.coordinator_laws.specs.CommitPuts as model
use Rattle.coordinator_laws.specs.CommitPuts.{IsMadeBySteps, own_specs}
use Rattle.fleet_tree.specs.Trees.{trees_of}
use Rattle.fleet_tree.specs.declared.manifest.ManifestCore.{ManifestCore}
use Rattle.fleet_jobs.specs.Jobs.{jobs_of}
use Rattle.fleet_jobs.specs.Parts.JobParts.{JobParts}
use Rattle.fleet_jobs.specs.Specs.{spec_of}
use Rattle.fleet_jobs.specs.declared.spec.CompactionSpec.{CompactionSpec}
use Rattle.fleet_history.specs.Changes.{new_specs, step_of}
use Rattle.fleet_book.specs.Records.{record_with}
use Rattle.fleet_book.specs.States.{own_jobs}
use Rattle.fleet_sched.specs.declared.options.CompactorOptions.{CompactorOptions}
use Rattle.fleet_store.specs.Manifests.{bare_segment, changed_trees, spec_in, spec_or_none, views_in}
use Rattle.fleet_store.proofs.Later.{got_stays, still_describe}
use Rattle.fleet_step.specs.Steps.{Leads}
use Rattle.fleet_step.proofs.Draws.{drew_leads}
use Rattle.fleet_step.proofs.Steps.{then_leads}
use Rattle.fleet_poll.specs.Loops.{HasReached}
use Rattle.fleet_poll.specs.Made.{own_core}
use Rattle.fleet_poll.specs.Polls.{AreNew, poll_of}
use Rattle.fleet_poll.specs.Seen.{Sees}
use Rattle.fleet_poll.specs.declared.poll.Poll.{Poll}
use Rattle.fleet_coordinator.specs.Polling.{GetsPoll, MayPoll, MayPut, NamesDrawn, ask_of}
use Rattle.fleet_coordinator.specs.declared.polling.GotPoll.{GotPoll}
use Rattle.fleet_coordinator.specs.declared.polling.Turn.{Turn}
use Rattle.fleet_coordinator.proofs.PollBegins.{input, jobs_described, new_zip, other_ids, trees_named, world_drew, zip_all, zip_once}
use Rattle.fleet_coordinator.proofs.PollFacts as fact
use Rattle.fleet_coordinator.proofs.StepJobs.{same_steps}
use Rattle.fleet_coordinator.proofs.Submits.{Drawing, all_unused, drew_all, each_once, many_specs, marked, named_later}

-- ---- specs

-- The jobs show the specs that are given for their ids.
spec_named : (own : ℕ → JobSpec) (id : ℕ) (jobs : List JobParts) → AllByRecursion (λ (job : Job). own job.id ≡ job.spec) (jobs_of jobs) → IsIn id (ids (jobs_of jobs)) → own id ≡ spec_in jobs id
spec_named own id [] all there = absurd there
spec_named own id (job ∷ jobs) all there = by (job.id == id) refl there (spec_named own id jobs all.1)
  where
    by : (b : Bool) → (job.id == id) ≡ b → (job.id ≡ id) ⊎ IsIn id (ids (jobs_of jobs)) → (IsIn id (ids (jobs_of jobs)) → own id ≡ spec_in jobs id) → own id ≡ spec_or_none (cond b (Some job) (record_with id jobs))
    by true e there rest = ap own (sym ((Decides-eqb job.id id).0 e)) ∙ all.0
    by false e (inl same) rest = absurd (never (job.id == id) e ((Decides-eqb job.id id).1 same))
      where
        never : (b : Bool) → b ≡ false → b ≡ true → ⊥
        never true e f = cc e
        never false e f = cc f
    by false e (inr later) rest = rest later

module _ (old mid : StoreView) (s : Scheduler) (options : CompactorOptions) (turn : Turn) (merges : IsLawful old.who.merge) (may : MayPoll old turn.epoch) (got : GotPoll) (g : GetsPoll turn.epoch old mid got)
    (first : Poll) (has : HasReached first (first_steps (ask_of s options turn) (input old mid s options turn merges may got g))) where
  abbrev ask : PollAsk
  ask = ask_of s options turn

  abbrev i : PollInput
  i = input old mid s options turn merges may got g

  abbrev records : Records
  records = records_or_none g.found.store.records

  abbrev reached_by : List (ℕ × JobSpec) → PollState
  reached_by drawn = last_steps ask i drawn (first_steps ask i)

  same_who : mid.who ≡ old.who
  same_who = (g.leads ask 0 0 (λ seen. Ends (GivesUp seen)) refl).same.who

  merges_mid : IsLawful mid.who.merge
  merges_mid = subst (λ (w : Caller). IsLawful w.merge) (sym same_who) merges

  kept_mid : Keeps mid.who.merge mid.world
  kept_mid =
      subst (λ (w : Caller). Keeps w.merge mid.world) (sym same_who)
      (subst (Keeps old.who.merge) (sym g.leaves) (keeps_after old.who (Plain GetRecords) g.found (calls_keep old.who.merge merges)
      (fact.kept_found old.who turn.epoch may.number old.world g.shown g.found merges may.party may.keeps may.holds g.met g.low g.met_next g.records_low) tt))

  -- The jobs of the first steps, and those that were got, were named.
  named_first : AllByRecursion (λ (job : Job). IsTrue (was_named mid.world.store.history job.id)) (jobs_of (own_jobs first.state))
  named_first =
      subst (λ jobs. AllByRecursion (λ (job : Job). IsTrue (was_named mid.world.store.history job.id)) jobs) (sym (ap (λ (p : PollState). p.jobs) has.is))
      (subst (λ (t : World). AllByRecursion (λ (job : Job). IsTrue (was_named t.store.history job.id)) (first_steps ask i).jobs) (sym g.leaves)
      (fact.named_first old.who ask may.number old.world g.shown g.found merges may.party may.keeps may.holds g.met g.low g.met_next g.records_low))

  named_got : AllByRecursion (λ (job : Job). IsTrue (was_named mid.world.store.history job.id)) records.jobs
  named_got =
      subst (λ (t : World). AllByRecursion (λ (job : Job). IsTrue (was_named t.store.history job.id)) records.jobs) (sym g.leaves)
      (fact.named_got old.who ask may.number old.world g.shown g.found merges may.party may.keeps may.holds g.met g.low g.met_next g.records_low)

  module _ (specs : List CompactionSpec) (left seen : ℕ) (again : ℕ → Course (StepEnd PollState)) (proposed : map spec_of specs ≡ proposed_specs ask i (first_steps ask i)) where
    -- How the poll goes on with the ids.
    abbrev pub next : List (ℕ × JobSpec) → Course (StepEnd PollState)
    next drawn = puts_trees turn.epoch (reached_by drawn) g.shown.store.manifest records (suc left) seen again

    pub at_draws : Leads (poll_try ask left seen again) old (draws_jobs turn.moment (map spec_of specs) next) mid
    at_draws = subst (λ xs. Leads (poll_try ask left seen again) old (draws_jobs turn.moment xs next) mid) (sym proposed) (g.leads ask left seen again refl)

    module _ (new : StoreView) (drawn : List (ℕ × CompactionSpec)) (d : NamesDrawn turn.moment specs mid new drawn) where
      drawing : Drawing mid.world new (marked d.ids)
      drawing = drew_all mid.world turn.moment d.ids [] mid new merges_mid d.drew (record { kept = kept_mid; later = later_itself mid.world; fresh = record { drawn = tt; fresh = tt; once = tt } })

      -- The ids are new to the jobs.
      pub are_new : AreNew drawn (own_jobs first.state)
      are_new = subst (λ ds. AreNew ds (own_jobs first.state)) (sym d.are) (record {
        once = zip_once (λ a b. a ≢ b) (λ a b. (a == b) ≡ false) (λ a b apart. ne_eqb a b apart) d.ids specs (each_once d.ids drawing.fresh.once);
        new = zip_all (λ id. record_with id (own_jobs first.state) ≡ None) d.ids specs
            (all_unused new.world.store.history (own_jobs first.state) (named_later mid.world new.world drawing.later (jobs_of (own_jobs first.state)) named_first) d.ids drawing.fresh.fresh);
      })

      abbrev model_drawn : List (ℕ × JobSpec)
      model_drawn = zip d.ids (map spec_of specs)

      drawn_are : new_specs drawn ≡ model_drawn
      drawn_are = ap new_specs d.are ∙ new_zip d.ids specs

      apart : Pairs (λ (p q : ℕ × JobSpec). p.0 ≢ q.0) model_drawn
      apart = zip_once (λ a b. a ≢ b) (λ a b. a ≢ b) (λ a b r. r) d.ids (map spec_of specs) (each_once d.ids drawing.fresh.once)

      others : AllByRecursion (λ (q : ℕ × JobSpec). (job : Job) → IsIn job records.jobs → q.0 ≡ job.id → ⊥) model_drawn
      others = zip_all (λ id. (job : Job) → IsIn job records.jobs → id ≡ job.id → ⊥) d.ids (map spec_of specs)
          (other_ids new.world.store.history d.ids records.jobs drawing.fresh.fresh (named_later mid.world new.world drawing.later records.jobs named_got))

      no_others : (q : ℕ × JobSpec) (job : Job) → IsIn q model_drawn → IsIn job records.jobs → q.0 ≡ job.id → ⊥
      no_others q job there one same = all_at (λ (p : ℕ × JobSpec). (j : Job) → IsIn j records.jobs → p.0 ≡ j.id → ⊥) model_drawn q others there job one same

      pub at_puts : Leads (poll_try ask left seen again) old (next model_drawn) new
      at_puts = then_leads at_draws (drew_leads turn.moment (map spec_of specs) d.ids mid new (d.many ∙ many_specs specs) d.drew next)

      module _ (last : Poll) (reached : HasReached last (last_steps ask i (new_specs drawn) (first_steps ask i))) (sees : Sees i s last.state) where
        is_reached : poll_of reached.flushes last ≡ reached_by model_drawn
        is_reached = reached.is ∙ ap reached_by drawn_are

        -- The poll came so far.
        pub at_last : Leads (poll_try ask left seen again) old (puts_trees turn.epoch (poll_of reached.flushes last) g.shown.store.manifest records (left + 1) seen again) new
        at_last =
            subst (λ n. Leads (poll_try ask left seen again) old (puts_trees turn.epoch (poll_of reached.flushes last) g.shown.store.manifest records n seen again) new) (sym (add-one left))
            (subst (λ p. Leads (poll_try ask left seen again) old (puts_trees turn.epoch p g.shown.store.manifest records (suc left) seen again) new) (sym is_reached) at_puts)

        pub later_found : IsLater g.found.store new.world.store
        later_found =
            later_then g.found.store mid.world.store new.world.store (subst (λ (t : World). IsLater g.found.store t.store) (sym g.leaves) (call_later old.who.line old.who.party (Plain GetRecords) None g.found.store))
            (drew_leads turn.moment (map spec_of specs) d.ids mid new (d.many ∙ many_specs specs) d.drew next).later

        steps_are : map step_of last.steps ≡ (reached_by model_drawn).steps
        steps_are = ap (λ (p : PollState). p.steps) is_reached

        jobs_are : jobs_of (own_jobs last.state) ≡ (reached_by model_drawn).jobs
        jobs_are = ap (λ (p : PollState). p.jobs) is_reached

        -- The trees are those that the steps make over each store that still has the version of the manifest.
        pub makes : (met : World) → Rivals new.who new.world met → g.shown.store.manifest.version ≡ met.store.manifest.version
            → trees_of reached.flushes (own_core last.state) ≡ changed_trees (spec_in (own_jobs last.state)) (history.Commit (map step_of last.steps)) met.store
        makes met rivals version =
            let who = at_puts.same.who in
            let drew : model.Drew old.who turn.moment model_drawn (after_call old.who.line old.who.party (Plain GetRecords) None g.found) met =
            subst (λ (t : World). model.Drew old.who turn.moment model_drawn t met) g.leaves
            (subst (λ (w : Caller). model.Drew w turn.moment model_drawn mid.world met) same_who
            (world_drew turn.moment d.ids (map spec_of specs) mid new met (d.many ∙ many_specs specs) d.drew (subst (λ (w : Caller). Rivals w new.world met) (who ∙ sym same_who) rivals))) in
            let own : ℕ → JobSpec = own_specs records.jobs model_drawn in
            let made : IsMadeBySteps old.who met own (reached_by model_drawn) =
            fact.made_at old.who ask may.number old.world g.shown g.found merges may.party may.keeps may.holds g.met g.low g.met_next g.records_low model_drawn met drew version in
            let specs_of : AllByRecursion (λ (job : Job). own job.id ≡ job.spec) (jobs_of (own_jobs last.state)) =
            subst (AllByRecursion (λ (job : Job). own job.id ≡ job.spec)) (sym jobs_are)
            (fact.jobs_have_specs old.who ask may.number old.world g.shown g.found merges may.party may.keeps may.holds g.met g.low g.met_next g.records_low model_drawn apart no_others) in
            let there : AllByRecursion (λ step. IsIn (job_of step) (ids (jobs_of (own_jobs last.state)))) (reached_by model_drawn).steps =
            subst (λ js. AllByRecursion (λ step. IsIn (job_of step) (ids js)) (reached_by model_drawn).steps) (sym jobs_are)
            (fact.steps_are_for_jobs old.who ask may.number old.world g.shown g.found merges may.party may.keeps may.holds g.met g.low g.met_next g.records_low model_drawn apart no_others) in
            ap (λ (p : PollState). p.trees) is_reached ∙ made.trees
            ∙ same_steps met.store.tables (λ id. (own id, outputs_in met.store.records id)) (λ id. (spec_in (own_jobs last.state) id, outputs_in met.store.records id)) (reached_by model_drawn).steps met.store.manifest.trees
            (all_to _ _ (reached_by model_drawn).steps (λ step one named. ap (λ spec. (spec, outputs_in met.store.records (job_of step))) (spec_named own (job_of step) (own_jobs last.state) specs_of named)) there)
            ∙ ap (λ steps. changed_trees (spec_in (own_jobs last.state)) (history.Commit steps) met.store) (sym steps_are)

        -- What the poll reached may be put.
        abbrev pub may_put : IsLawfulCourse old.who old.world (poll_try ask left seen again) → MayPut new last got.core turn.epoch got.epoch (left + 1) seen
        may_put lawful = record {
          flushes = reached.flushes;
          manifest = g.shown.store.manifest;
          records = records;
          again = again;
          got_is = record {
            trees = ap (map bare_segment) (ap (trees_of (λ prefix run. [])) g.core_is) ∙ ap (λ (m : Manifest). m.trees) g.manifest_is;
            horizon = ap (λ (c : ManifestCore). c.horizon) g.core_is ∙ ap (λ (m : Manifest). m.horizon) g.manifest_is;
          };
          rest_is = sees.manifest;
          version = sym sees.version;
          epoch_is = g.epoch_is;
          lawful = subst (λ (w : Caller). IsLawfulCourse w new.world (puts_trees turn.epoch (poll_of reached.flushes last) g.shown.store.manifest records (left + 1) seen again)) (sym at_last.same.who) (at_last.lawful lawful);
          makes = makes;
          views = all_to _ _ (views_in (own_core last.state)) (λ view there named. (got_stays g.found.store new.world.store later_found).view view named) (trees_named g.found.store.tables (own_core last.state) sees.trees);
          described = still_describe g.found.store new.world.store later_found (own_jobs last.state) (jobs_described g.found.store.tables (own_jobs last.state) sees.jobs);
        }
