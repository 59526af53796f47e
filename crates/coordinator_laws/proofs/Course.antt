-- A poll of a coordinator that fits is a lawful course: its two gets, its draws, its put of the manifest and its puts of the records.
use Rattle.std.proofs.Common.{◌≡◌, ◌≢◌, refl, sym, ◌∙◌, ap, subst, ℕ, zero, suc, ◌+◌, ◌<◌, ◌≤◌, List, [], ◌∷◌, ◌++◌, cond, Bool, true, false, inl, inr, Option, Some, None, arith}
use Rattle.std.specs.Prelude.{IsTrue, ◌==◌, nat_lt, map}
use Rattle.std.specs.List.{AllByRecursion}
use Rattle.std.specs.Cmp.Lexicographic.{pointwise}
use Rattle.std.proofs.lemmas.Bool.Decides.{Decides-eqb}
use Rattle.std.proofs.lemmas.Bool.{ltb-false}
use Rattle.std.proofs.lemmas.List.{append-nil, append_assoc}
use Rattle.row_model.specs.Lists.{Pairs}
use Rattle.row_model.specs.Fold.{IsLawful}
use Rattle.fleet_model.specs.Jobs.{JobSpec, Job, Jobs, Scheduled, has_status, job_with}
use Rattle.fleet_model.specs.History.{Party, ManifestChange, GetManifest, GetRecords, PutManifest, Commit, Step, Conflict, Done, Entry}
use Rattle.fleet_model.specs.Store.{Manifest, Records, stored_jobs, jobs_in, records_epoch}
use Rattle.fleet_model.specs.Trees.{job_of, stepped_all, horizon_after_all}
use Rattle.fleet_model.specs.Work.Records.{firsts}
use Rattle.fleet_model.specs.Past.Replay.{outputs_in}
use Rattle.fleet_model.specs.Invariants.JobsFit.{SourcesStand}
use Rattle.fleet_model.specs.Invariants.TreesFit.{EpochFits}
use Rattle.fleet_model.specs.Work.PollStates.{PollInput, PollState}
use Rattle.fleet_model.specs.Exchanges.{Exchange, Plain, DrawsJob, PutsManifest, next_job_id, with_entry}
use Rattle.step_model.specs.Past.{World, world_after}
use Rattle.step_model.specs.Entries.{did_put_epoch, is_mentioned, drew_job}
use Rattle.step_model.specs.Lawful.{Lawful}
use Rattle.step_model.specs.LawfulManifests.{cut_of, MayCommit, CommitFits, IsKnownTo, StepsFit}
use Rattle.step_model.specs.Rivals.{Caller, Rivals, after_call}
use Rattle.step_model.specs.Kept.Keeps.{Keeps}
use Rattle.step_model.specs.Courses.CourseRuns.{IsLawfulCourse}
use Rattle.step_model.specs.Courses.Tries.{counted_tries, tries}
use Rattle.step_model.specs.Courses.Course.{Course, Ends, Calls, draws_jobs, puts_manifest}
use Rattle.step_model.specs.Steps.PollSteps.{PollAsk, poll, poll_try, polls_over, puts_trees, puts_polled, input_of, first_steps, last_steps, proposed_specs, is_unchanged, same_tree, records_or_none, unless_fenced}
use Rattle.step_model.specs.Courses.StepEnds.{StepEnd, Fenced, most_refused}
use Rattle.step_laws.specs.Runs.{CallsKeep}
use Rattle.step_laws.proofs.Elements.{IsIn, all_at, all_from, all_to}
use Rattle.step_laws.proofs.Changed.{found_job}
use Rattle.step_laws.proofs.ManifestBodies.{with_manifest, world_with_manifest}
use Rattle.step_laws.proofs.Respecs.{named_agree}
use Rattle.rival_laws.proofs.Coordinators.{put_low, put_grows}
use Rattle.course_laws.proofs.Calls.{keeps_after}
use Rattle.course_laws.proofs.Later.{Later, later_by, later_then}
use Rattle.course_laws.proofs.NewIds.{AreFresh, rivals_fresh, drawn_fresh}
use Rattle.commit_laws.proofs.CommitJobs.{entry_of, manifest_of}
use Rattle.commit_laws.proofs.Commits.{start}
use Rattle.commit_laws.proofs.AllCalls.{calls_keep}
use Rattle.step_laws.proofs.Bodies.{whole_of}
use Rattle.coordinator_laws.specs.Polls.{PollsAreLawful}
use Rattle.coordinator_laws.proofs.Jobs.{Among}
use Rattle.coordinator_laws.proofs.Stages.{Reached, last_reached, AddsDrawn, all_adds}
use Rattle.coordinator_laws.proofs.Quiet.{Moves, HasEpoch, epoch_call, rivals_after}
use Rattle.coordinator_laws.proofs.Transfer.{AreKept, rivals_kept}
use Rattle.coordinator_laws.proofs.Names.{fresh_named, others_same, own_committed, IsNamed}
use Rattle.coordinator_laws.proofs.Tries.{Puts, puts_lawful}
use Rattle.coordinator_laws.proofs.Since.{Since, since_itself, since_met, since_noted, kept_noted, got_noted, drawn_noted, Got, Ready, ready_met, ready_noted, case_at}
use Rattle.coordinator_laws.specs.CommitPuts.{own_specs, spec_of}
use Rattle.course_laws.proofs.Calls.{both}
use Rattle.coordinator_laws.proofs.SameTrees.{unchanged_trees}

-- ---- specs

own_got : (got : Jobs) (drawn : List (ℕ × JobSpec)) → Pairs (λ a b. a.id < b.id) got → ((q : ℕ × JobSpec) (job : Job) → IsIn q drawn → IsIn job got → q.0 ≡ job.id → ⊥) → AllByRecursion (λ (job : Job). own_specs got drawn job.id ≡ job.spec) got
own_got got drawn rise new = all_from _ got (λ job there. others_same drawn (λ id. spec_of (job_with id got)) job.id (λ one. differs job there drawn (λ q here. new q job here there) one) ∙ ap spec_of (found_job got job rise there))
  where
    differs : (job : Job) → IsIn job got → (xs : List (ℕ × JobSpec)) → ((q : ℕ × JobSpec) → IsIn q xs → q.0 ≡ job.id → ⊥) → IsIn job.id (firsts xs) → ⊥
    differs job there [] h one = one
    differs job there (x ∷ xs) h (inl same) = h x (inl refl) same
    differs job there (x ∷ xs) h (inr one) = differs job there xs (λ q here. h q (inr here)) one

own_drawn : (got : Jobs) (drawn : List (ℕ × JobSpec)) → Pairs (λ p q. p.0 ≢ q.0) drawn → AllByRecursion (λ (q : ℕ × JobSpec). own_specs got drawn q.0 ≡ q.1) drawn
own_drawn got drawn once = named_agree drawn (λ id. spec_of (job_with id got)) once

-- Those of the drawn ids that became jobs are new too.
fresh_added : (party : Party) (world : World) (drawn : List (ℕ × JobSpec)) (p : PollState) → AddsDrawn drawn p → AreFresh party world drawn → AreFresh party world p.added
fresh_added party world drawn p a fresh = record {
  drawn = all_to _ _ p.added (λ q there one. all_at (λ (x : ℕ × JobSpec). IsTrue (drew_job party world.store.history x.0)) drawn q fresh.drawn one) a.those;
  fresh = all_to _ _ p.added (λ q there one. all_at (λ (x : ℕ × JobSpec). is_mentioned world.store.history x.0 ≡ false) drawn q fresh.fresh one) a.those;
  once = a.once;
}

-- ---- the puts after the draws

-- What a poll reached, judged by the world at this time.
reached_at : (who : Caller) (e : ℕ) (m r h : World) (got : Records) (ask : PollAsk) (drawn : List (ℕ × JobSpec)) → IsLawful who.merge → Got who e m r got → Ready who e m r h → AreFresh who.party h drawn → records_epoch h.store.records ≤ e
    → let input = input_of ask r.store.tables m.store.manifest got in
    Reached who.party h input got.jobs drawn (own_specs got.jobs drawn) m.store.manifest.trees m.store.manifest.horizon (last_steps ask input drawn (first_steps ask input))
reached_at who e m r h got ask drawn lawful g s fresh low =
    let c = case_at who e m r h got ask drawn lawful g s fresh low in
    last_reached ask c (own_got got.jobs drawn c.rise c.new_ids) (own_drawn got.jobs drawn c.once)

got_rise : (who : Caller) (e : ℕ) (m r : World) (got : Records) → Got who e m r got → Pairs (λ a b. a.id < b.id) got.jobs
got_rise who e m r got g = subst (λ o. Pairs (λ (a b : Job). a.id < b.id) (jobs_in o)) g.is_got g.kept_second.stored.sound.job_ids

-- A poll that left the names and the tables of all nodes and the horizon has the trees that it got.
pub same_trees : (who : Caller) (e : ℕ) (m r d : World) (got : Records) (ask : PollAsk) (drawn : List (ℕ × JobSpec)) → IsLawful who.merge → Got who e m r got → Ready who e m r d → AreFresh who.party d drawn
    → let input = input_of ask r.store.tables m.store.manifest got in
    let p = last_steps ask input drawn (first_steps ask input) in
    is_unchanged m.store.manifest p ≡ true → records_epoch d.store.records ≤ e → p.trees ≡ m.store.manifest.trees
same_trees who e m r d got ask drawn lawful g s fresh same low =
    let c = case_at who e m r d got ask drawn lawful g s fresh low in
    let reached = reached_at who e m r d got ask drawn lawful g s fresh low in
    unchanged_trees who.merge d who.party s.first.kept.stored.replay.specs (own_specs got.jobs drawn) m.store.manifest.trees _ c.horizon _ lawful (whole_of who.merge d s.first.kept).body c.midway
    reached.trees.known reached.trees.fits reached.trees.are (both (pointwise same_tree m.store.manifest.trees _) _ same).0

-- A poll that changed no tree puts the records at once.
pub puts_unchanged : (who : Caller) (e : ℕ) (m r d : World) (got : Records) (ask : PollAsk) (drawn : List (ℕ × JobSpec)) → IsLawful who.merge → Got who e m r got → Ready who e m r d → AreFresh who.party d drawn
    → let input = input_of ask r.store.tables m.store.manifest got in
    let p = last_steps ask input drawn (first_steps ask input) in
    is_unchanged m.store.manifest p ≡ true → Puts who e r got p d
puts_unchanged who e m r d got ask drawn lawful g s fresh same = record {
  kept = s.first.kept;
  own = s.first.own;
  names = fresh_named who.party d p.added (fresh_added who.party d drawn p (all_adds ask input drawn fresh.once) fresh);
  rise = got_rise who e m r got g;
  epoch = g.epoch;
  is_got = g.is_got;
  later = s.second.later;
  good = λ low.
      let reached = reached_at who e m r d got ask drawn lawful g s fresh low in
      record {
        reached = reached.jobs;
        moves = subst (λ o. Moves (jobs_in o) (stored_jobs d.store)) g.is_got (s.second.quiet low).jobs;
        opened = all_to _ _ p.opened (λ id there found. (found.0, (found.1.0, (found.1.1.0, (found.1.1.1.0, (s.first.quiet low).stand found.0 (subst (λ trees. SourcesStand trees found.0) (unchanged low) found.1.1.1.1)))))) reached.trees.opened;
      };
}
  where
    input : PollInput
    input = input_of ask r.store.tables m.store.manifest got

    p : PollState
    p = last_steps ask input drawn (first_steps ask input)

    unchanged : records_epoch d.store.records ≤ e → p.trees ≡ m.store.manifest.trees
    unchanged low = same_trees who e m r d got ask drawn lawful g s fresh same low

-- ---- the put of the manifest

-- Another try of the poll is a lawful course over each store that the coordinator fits.
abbrev Tries : Caller → ℕ → (ℕ → Course (StepEnd PollState)) → Type 0
Tries who e again = (seen : ℕ) (world : World) → Keeps who.merge world → HasEpoch who.party e world → IsLawfulCourse who world (again seen)

records_low : (manifest : Manifest) (records : Option Records) → EpochFits manifest records → records_epoch records ≤ manifest.epoch
records_low manifest None h = omega arith
records_low manifest (Some records) h = h

-- Steps that a party may commit, by these specs.
pub record FitsBy (party : Party) (world : World) (own : ℕ → JobSpec) (steps : List Step) (value : Manifest) : Type 0 where
  pub by : MayCommit party world steps
  pub known : AllByRecursion (λ step. IsKnownTo party world own (job_of step)) steps
  pub each : StepsFit world own world.store.manifest.trees [] steps
  pub makes : value ≡ record world.store.manifest {
    trees = stepped_all world.store.tables (λ id. (own id, outputs_in world.store.records id)) steps world.store.manifest.trees;
    horizon = horizon_after_all world.store.manifest.floor (λ id. cut_of (job_with id (stored_jobs world.store))) steps world.store.manifest.horizon;
  }

commit_of : {party : Party} {world : World} {own : ℕ → JobSpec} {steps : List Step} {value : Manifest} → FitsBy party world own steps value → CommitFits party world steps value
commit_of {own = own} f = record { by = f.by; specs = own; known = f.known; each = f.each; makes = f.makes }

-- A commit for the version that was got fits.
pub commit_fits : (who : Caller) (e : ℕ) (m r t : World) (got : Records) (ask : PollAsk) (drawn : List (ℕ × JobSpec)) → IsLawful who.merge → Got who e m r got → Ready who e m r t → AreFresh who.party t drawn → m.store.manifest.version ≡ t.store.manifest.version
    → let input = input_of ask r.store.tables m.store.manifest got in
    let p = last_steps ask input drawn (first_steps ask input) in
    FitsBy who.party t (own_specs got.jobs drawn) p.steps (record m.store.manifest { trees = p.trees; horizon = p.horizon })
commit_fits who e m r t got ask drawn lawful g s fresh version = record {
  by = may p.steps;
  known = reached.trees.known;
  each = subst (λ trees. StepsFit t (own_specs got.jobs drawn) trees [] p.steps) (ap (λ (x : Manifest). x.trees) (sym same)) reached.trees.fits;
  makes = (λ i. record m.store.manifest { trees = reached.trees.are i; horizon = reached.trees.horizon_is i })
      ∙ (λ i. record (sym same i) {
        trees = stepped_all t.store.tables (λ id. (own_specs got.jobs drawn id, outputs_in t.store.records id)) p.steps (sym same i).trees;
        horizon = horizon_after_all (sym same i).floor (λ id. cut_of (job_with id (stored_jobs t.store))) p.steps (sym same i).horizon;
      });
}
  where
    input : PollInput
    input = input_of ask r.store.tables m.store.manifest got

    p : PollState
    p = last_steps ask input drawn (first_steps ask input)

    same : t.store.manifest ≡ m.store.manifest
    same = s.first.later.manifest.same version

    epoch : t.store.manifest.epoch ≡ e
    epoch = ap (λ (x : Manifest). x.epoch) same ∙ g.first_epoch

    low : records_epoch t.store.records ≤ e
    low = subst (λ n. records_epoch t.store.records ≤ n) epoch (records_low t.store.manifest t.store.records s.first.kept.stored.trees.epochs)

    reached : Reached who.party t input got.jobs drawn (own_specs got.jobs drawn) m.store.manifest.trees m.store.manifest.horizon p
    reached = reached_at who e m r t got ask drawn lawful g s fresh low

    may : (steps : List Step) → MayCommit who.party t steps
    may [] = tt
    may (step ∷ steps) = (subst (λ n. IsTrue (did_put_epoch who.party t.store.history n)) (sym epoch) s.first.own.put, let recorded = s.first.own.recorded in omega (arith, low, recorded, epoch))

-- So the put of the manifest is lawful.
pub commit_lawful : (who : Caller) (e : ℕ) (m r t : World) (got : Records) (ask : PollAsk) (drawn : List (ℕ × JobSpec)) → IsLawful who.merge → Got who e m r got → Ready who e m r t → AreFresh who.party t drawn
    → let input = input_of ask r.store.tables m.store.manifest got in
    let p = last_steps ask input drawn (first_steps ask input) in
    Lawful who.merge who.party t (PutsManifest m.store.manifest.version (Commit p.steps) (record m.store.manifest { trees = p.trees; horizon = p.horizon }))
commit_lawful who e m r t got ask drawn lawful g s fresh = λ version. commit_of (commit_fits who e m r t got ask drawn lawful g s fresh version)

-- After a put of the manifest that stood.
pub stood_is : (line : ℕ) (party : Party) (world : World) (version : ℕ) (change : ManifestChange) (value : Manifest) → (version == world.store.manifest.version) ≡ true
    → after_call line party (PutsManifest version change value) None world
    ≡ with_manifest world (record value { version = world.store.manifest.version + 1 }) (record { line = line; party = party; event = PutManifest change; answer = Done (world.store.manifest.version + 1) })
stood_is line party world version change value e = by (version == world.store.manifest.version) e ((Decides-eqb version world.store.manifest.version).0 e)
  where
    by : (b : Bool) → b ≡ true → version ≡ world.store.manifest.version
        → world_after world (with_entry line party (PutManifest change) (cond b (Done (world.store.manifest.version + 1)) (Conflict world.store.manifest.version)) (cond b (record world.store { manifest = record value { version = version + 1 } }) world.store))
        ≡ with_manifest world (record value { version = world.store.manifest.version + 1 }) (record { line = line; party = party; event = PutManifest change; answer = Done (world.store.manifest.version + 1) })
    by true e same =
        (λ i. world_after world (with_entry line party (PutManifest change) (Done (world.store.manifest.version + 1)) (record world.store { manifest = record value { version = same i + 1 } })))
        ∙ world_with_manifest world (record value { version = world.store.manifest.version + 1 }) (record { line = line; party = party; event = PutManifest change; answer = Done (world.store.manifest.version + 1) }) refl
    by false e same = absurd (cc e)

-- What is so after the commit.
pub puts_changed : (who : Caller) (e : ℕ) (m r t : World) (got : Records) (ask : PollAsk) (drawn : List (ℕ × JobSpec)) → CallsKeep who.merge → IsLawful who.merge → Got who e m r got → Ready who e m r t → AreFresh who.party t drawn
    → (m.store.manifest.version == t.store.manifest.version) ≡ true
    → let input = input_of ask r.store.tables m.store.manifest got in
    let p = last_steps ask input drawn (first_steps ask input) in
    Puts who e r got p (after_call who.line who.party (PutsManifest m.store.manifest.version (Commit p.steps) (record m.store.manifest { trees = p.trees; horizon = p.horizon })) None t)
puts_changed who e m r t got ask drawn keep lawful g s fresh equal = subst (Puts who e r got p) (sym is) (record {
  kept = subst (Keeps who.merge) is (keeps_after who x t keep s.first.kept (λ version. commit_of fits));
  own = record { put = put_grows who.party t.store.history entry e s.first.own.put; recorded = s.first.own.recorded };
  names = own_committed who.merge who.party t p.added (own_specs got.jobs drawn) who.line p.steps (Done (t.store.manifest.version + 1)) refl lawful s.first.kept (fresh_added who.party t drawn p (all_adds ask input drawn fresh.once) fresh)
      fits.known fits.each (λ id none there. covered id none there);
  rise = got_rise who e m r got g;
  epoch = g.epoch;
  is_got = g.is_got;
  later = subst (Later r) is (later_then r t (after_call who.line who.party x None t) s.second.later (later_by who.line who.party x None t));
  good = λ low.
      let reached = reached_at who e m r t got ask drawn lawful g s fresh low in
      record {
        reached = reached.jobs;
        moves = subst (λ o. Moves (jobs_in o) (stored_jobs t.store)) g.is_got (s.second.quiet low).jobs;
        opened = subst (λ trees. AllByRecursion (Among (λ job. IsTrue (has_status Scheduled job) × SourcesStand trees job) p.jobs) p.opened) (ap (λ (v : Manifest). v.trees) fits.makes) reached.trees.opened;
      };
})
  where
    input : PollInput
    input = input_of ask r.store.tables m.store.manifest got

    p : PollState
    p = last_steps ask input drawn (first_steps ask input)

    value : Manifest
    value = record m.store.manifest { trees = p.trees; horizon = p.horizon }

    version : m.store.manifest.version ≡ t.store.manifest.version
    version = (Decides-eqb m.store.manifest.version t.store.manifest.version).0 equal

    fits : FitsBy who.party t (own_specs got.jobs drawn) p.steps value
    fits = commit_fits who e m r t got ask drawn lawful g s fresh version

    x : Exchange
    x = PutsManifest m.store.manifest.version (Commit p.steps) value

    entry : Entry
    entry = entry_of who.line who.party p.steps (Done (t.store.manifest.version + 1))

    is : after_call who.line who.party x None t ≡ with_manifest t (manifest_of t (own_specs got.jobs drawn) p.steps) entry
    is = stood_is who.line who.party t m.store.manifest.version (Commit p.steps) value equal ∙ ap (λ (v : Manifest). with_manifest t (record v { version = t.store.manifest.version + 1 }) entry) fits.makes

    low : records_epoch t.store.records ≤ e
    low = subst (λ n. records_epoch t.store.records ≤ n) (ap (λ (y : Manifest). y.epoch) (s.first.later.manifest.same version) ∙ g.first_epoch) (records_low t.store.manifest t.store.records s.first.kept.stored.trees.epochs)

    covered : (id : ℕ) → job_with id (stored_jobs t.store) ≡ None → IsIn id (map job_of p.steps) → IsNamed (own_specs got.jobs drawn) p.added id
    covered id none there = at p.steps (reached_at who e m r t got ask drawn lawful g s fresh low).trees.covered there
      where
        at : (steps : List Step) → AllByRecursion (λ step. job_with (job_of step) (stored_jobs t.store) ≡ None → IsNamed (own_specs got.jobs drawn) p.added (job_of step)) steps → IsIn id (map job_of steps) → IsNamed (own_specs got.jobs drawn) p.added id
        at [] h one = absurd one
        at (step ∷ steps) h (inl same) = subst (IsNamed (own_specs got.jobs drawn) p.added) same (h.0 (ap (λ n. job_with n (stored_jobs t.store)) same ∙ none))
        at (step ∷ steps) h (inr one) = at steps h.1 one

-- The puts of a poll after its draws are a lawful course, if another try of it is one.
trees_lawful : (who : Caller) (e : ℕ) (m r d : World) (got : Records) (ask : PollAsk) (drawn : List (ℕ × JobSpec)) (left seen : ℕ) (again : ℕ → Course (StepEnd PollState)) → CallsKeep who.merge → IsLawful who.merge → 0 < e → Got who e m r got → Tries who e again
    → Ready who e m r d → AreFresh who.party d drawn
    → let input = input_of ask r.store.tables m.store.manifest got in
    IsLawfulCourse who d (puts_trees e (last_steps ask input drawn (first_steps ask input)) m.store.manifest got left seen again)
trees_lawful who e m r d got ask drawn left seen again keep lawful counted g tries s fresh = by (is_unchanged m.store.manifest p) refl
  where
    input : PollInput
    input = input_of ask r.store.tables m.store.manifest got

    p : PollState
    p = last_steps ask input drawn (first_steps ask input)

    value : Manifest
    value = record m.store.manifest { trees = p.trees; horizon = p.horizon }

    x : Exchange
    x = PutsManifest m.store.manifest.version (Commit p.steps) value

    after : (t : World) → Ready who e m r t → AreFresh who.party t drawn → Lawful who.merge who.party t x → (b : Bool) → (m.store.manifest.version == t.store.manifest.version) ≡ b
        → IsLawfulCourse who (after_call who.line who.party x None t) (cond b (puts_polled e p got most_refused 0) (again t.store.manifest.version))
    after t ready new fits true equal = puts_lawful who e keep counted most_refused r got p 0 _ (puts_changed who e m r t got ask drawn keep lawful g ready new equal)
    after t ready new fits false other = tries t.store.manifest.version _ (keeps_after who x t keep ready.first.kept fits) (epoch_call who e who.line who.party x None t fits tt ready.first.own).0

    by : (b : Bool) → is_unchanged m.store.manifest p ≡ b
        → IsLawfulCourse who d (cond b (puts_polled e p got left seen) (puts_manifest m.store.manifest.version (Commit p.steps) value (puts_polled e p got most_refused 0) again))
    by true same = puts_lawful who e keep counted left r got p seen d (puts_unchanged who e m r d got ask drawn lawful g s fresh same)
    by false same = λ t rivals room.
        let ready = ready_met who e m r d t keep s rivals in
        let new = rivals_fresh who drawn d t keep s.first.kept rivals fresh in
        let fits : Lawful who.merge who.party t x = commit_lawful who e m r t got ask drawn lawful g ready new in
        (fits, after t ready new fits (m.store.manifest.version == t.store.manifest.version) refl)

-- ---- the draws

-- Draws of jobs are a lawful course, if what comes after them is one with any new ids.
draws_lawful : {A B : Type 0} (who : Caller) (e moment : ℕ) (m r : World) (xs : List B) (before : List (ℕ × B)) (next : List (ℕ × B) → Course A) (world : World) → CallsKeep who.merge → Ready who e m r world → AreFresh who.party world before
    → ((new : World) (drawn : List (ℕ × B)) → Ready who e m r new → AreFresh who.party new (before ++ drawn) → IsLawfulCourse who new (next drawn)) → IsLawfulCourse who world (draws_jobs moment xs next)
draws_lawful who e moment m r [] before next world keep s fresh goes = goes world [] s (subst (AreFresh who.party world) (sym (append-nil before)) fresh)
draws_lawful {A} {B} who e moment m r (x ∷ xs) before next world keep s fresh goes = λ met rivals room.
    let id = next_job_id moment met.store in
    let there = ready_met who e m r world met keep s rivals in
    let new = after_call who.line who.party (DrawsJob moment) None met in
    let still = rivals_fresh who before world met keep s.first.kept rivals fresh in (
      room,
      draws_lawful who e moment m r xs (before ++ (id, x) ∷ []) (λ drawn. next ((id, x) ∷ drawn)) new keep (ready_noted who e m r met new there (drawn_noted who moment met keep there.first.kept room)) (drawn_fresh who met moment x before there.first.kept room still)
          (λ after drawn ready all. goes after ((id, x) ∷ drawn) ready (subst (AreFresh who.party after) (append_assoc before ((id, x) ∷ []) drawn) all)),
    )

-- ---- the two gets

-- The poll over what it got.
over_lawful : (who : Caller) (ask : PollAsk) (m r : World) (got : Records) (left seen : ℕ) (again : ℕ → Course (StepEnd PollState)) → CallsKeep who.merge → IsLawful who.merge → 0 < ask.epoch → Got who ask.epoch m r got → Tries who ask.epoch again
    → (world : World) → Ready who ask.epoch m r world → IsLawfulCourse who world (polls_over ask r.store.tables m.store.manifest got left seen again)
over_lawful who ask m r got left seen again keep lawful counted g tries world s =
    let input = input_of ask r.store.tables m.store.manifest got in
    draws_lawful who ask.epoch ask.moment m r (proposed_specs ask input (first_steps ask input)) [] (λ drawn. puts_trees ask.epoch (last_steps ask input drawn (first_steps ask input)) m.store.manifest got left seen again) world keep s
    (record { drawn = tt; fresh = tt; once = tt }) (λ new drawn ready fresh. trees_lawful who ask.epoch m r new got ask drawn left seen again keep lawful counted g tries ready fresh)

-- What is so as both objects were got.
pub got_both : (who : Caller) (e : ℕ) (m r : World) (got : Records) → Keeps who.merge m → m.store.manifest.epoch ≡ e → Since who e m r → r.store.records ≡ Some got → got.epoch ≤ e → Got who e m r got
got_both who e m r got kept epoch s is low =
    let stored : records_epoch r.store.records ≡ got.epoch = ap records_epoch is in
    let recorded = s.own.recorded in
    record {
      kept_first = kept;
      kept_second = s.kept;
      is_got = is;
      epoch = omega (arith, stored, recorded, low);
      first_epoch = epoch;
      between = s.quiet (omega (arith, stored, low));
    }

-- What is so after both gets.
pub ready_both : (who : Caller) (e : ℕ) (m r : World) → CallsKeep who.merge → Since who e m r → AreKept who.merge m.store.manifest.trees m.store.manifest.horizon r → Ready who e m r (after_call who.line who.party (Plain GetRecords) None r)
ready_both who e m r keep s trees =
    let noted = got_noted who GetRecords r (inr refl) keep s.kept in
    record {
      first = since_noted who e m r _ s noted;
      second = since_noted who e r r _ (since_itself who e r s.kept s.own) noted;
      trees = kept_noted who m.store.manifest.trees m.store.manifest.horizon r _ noted trees;
    }

-- What is so since the manifest was got.
pub since_first : (who : Caller) (e : ℕ) (m r : World) → CallsKeep who.merge → Keeps who.merge m → HasEpoch who.party e m → Rivals who (after_call who.line who.party (Plain GetManifest) None m) r → Since who e m r
since_first who e m r keep kept own rivals = since_met who e m _ r keep (since_noted who e m m _ (since_itself who e m kept own) (got_noted who GetManifest m (inl refl) keep kept)) rivals

pub kept_first : (who : Caller) (m r : World) → CallsKeep who.merge → Keeps who.merge m → Rivals who (after_call who.line who.party (Plain GetManifest) None m) r → AreKept who.merge m.store.manifest.trees m.store.manifest.horizon r
kept_first who m r keep kept rivals =
    rivals_kept who m.store.manifest.trees m.store.manifest.horizon _ r rivals
    (kept_noted who m.store.manifest.trees m.store.manifest.horizon m _ (got_noted who GetManifest m (inl refl) keep kept) (start who.merge m kept.stored.replay.specs (whole_of who.merge m kept).body).kept)

-- The records that were got, if none has a later epoch.
records_lawful : (who : Caller) (ask : PollAsk) (m r : World) (left seen : ℕ) (again : ℕ → Course (StepEnd PollState)) → CallsKeep who.merge → IsLawful who.merge → 0 < ask.epoch → Keeps who.merge m → m.store.manifest.epoch ≡ ask.epoch → Tries who ask.epoch again
    → Since who ask.epoch m r → AreKept who.merge m.store.manifest.trees m.store.manifest.horizon r → (records : Option Records) → r.store.records ≡ records
    → IsLawfulCourse who (after_call who.line who.party (Plain GetRecords) None r) (unless_fenced ask.epoch (records_or_none records).epoch (polls_over ask r.store.tables m.store.manifest (records_or_none records) left seen again))
records_lawful who ask m r left seen again keep lawful counted kept epoch tries s trees None is =
    let recorded = s.own.recorded in
    let none : records_epoch r.store.records ≡ 0 = ap records_epoch is in
    absurd (omega (arith, recorded, none, counted))
records_lawful who ask m r left seen again keep lawful counted kept epoch tries s trees (Some got) is = by (nat_lt ask.epoch got.epoch) refl
  where
    by : (b : Bool) → nat_lt ask.epoch got.epoch ≡ b → IsLawfulCourse who (after_call who.line who.party (Plain GetRecords) None r) (cond b (Ends (Fenced got.epoch)) (polls_over ask r.store.tables m.store.manifest got left seen again))
    by true e = tt
    by false e =
        let low = ltb-false ask.epoch got.epoch e in
        over_lawful who ask m r got left seen again keep lawful counted (got_both who ask.epoch m r got kept epoch s is low) tries (after_call who.line who.party (Plain GetRecords) None r) (ready_both who ask.epoch m r keep s trees)

-- What a poll does after its get of the manifest is a lawful course, if another try of it is one.
manifest_lawful : (who : Caller) (ask : PollAsk) (m : World) (left seen : ℕ) (again : ℕ → Course (StepEnd PollState)) → CallsKeep who.merge → IsLawful who.merge → 0 < ask.epoch → Keeps who.merge m → HasEpoch who.party ask.epoch m → Tries who ask.epoch again
    → IsLawfulCourse who (after_call who.line who.party (Plain GetManifest) None m) (unless_fenced ask.epoch m.store.manifest.epoch (Calls (Plain GetRecords) (λ met.
    let got = records_or_none met.records in unless_fenced ask.epoch got.epoch (polls_over ask met.tables m.store.manifest got left seen again))))
manifest_lawful who ask m left seen again keep lawful counted kept own tries = by (nat_lt ask.epoch m.store.manifest.epoch) refl
  where
    high : ask.epoch ≤ m.store.manifest.epoch
    high = put_low m.store.manifest.epoch m.store.history ask.epoch who.party kept.facts.epochs own.put

    by : (b : Bool) → nat_lt ask.epoch m.store.manifest.epoch ≡ b → IsLawfulCourse who (after_call who.line who.party (Plain GetManifest) None m) (cond b (Ends (Fenced m.store.manifest.epoch)) (Calls (Plain GetRecords) (λ met.
        let got = records_or_none met.records in unless_fenced ask.epoch got.epoch (polls_over ask met.tables m.store.manifest got left seen again))))
    by true e = tt
    by false e = λ r rivals room.
        let low = ltb-false ask.epoch m.store.manifest.epoch e in
        let up = high in (
          tt,
          records_lawful who ask m r left seen again keep lawful counted kept (omega (arith, low, up)) tries
              (since_first who ask.epoch m r keep kept own rivals) (kept_first who m r keep kept rivals)
              r.store.records refl,
        )

polls : (who : Caller) (ask : PollAsk) → CallsKeep who.merge → IsLawful who.merge → 0 < ask.epoch → (left seen : ℕ) (world : World) → Keeps who.merge world → HasEpoch who.party ask.epoch world → IsLawfulCourse who world (counted_tries (poll_try ask) left seen)
polls who ask keep lawful counted zero seen world kept own = tt
polls who ask keep lawful counted (suc left) seen world kept own = λ m rivals room.
    let a = rivals_after who ask.epoch world m keep kept own rivals in
    (tt, manifest_lawful who ask m (suc left) seen (counted_tries (poll_try ask) left) keep lawful counted a.kept a.own (λ seen next there mine. polls who ask keep lawful counted left seen next there mine))

pub polls_are_lawful : PollsAreLawful
unfolding poll
polls_are_lawful who world number ask local lawful by kept holds =
    polls who ask (calls_keep who.merge lawful) lawful holds.counted most_refused 0 world kept (record { put = subst (λ party. IsTrue (did_put_epoch party world.store.history ask.epoch)) (sym by) holds.put; recorded = holds.recorded })
