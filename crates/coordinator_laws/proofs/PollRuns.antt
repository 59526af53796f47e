-- A poll that reports leaves what its coordinator may hold: a walk over its calls.
use Rattle.std.proofs.Common.{◌≡◌, refl, sym, ◌∙◌, ap, subst, ℕ, zero, suc, ◌+◌, ◌<◌, ◌≤◌, List, [], ◌∷◌, ◌++◌, cond, Bool, true, false, inl, inr, Option, Some, None, arith}
use Rattle.std.specs.Prelude.{IsTrue, ◌==◌, nat_lt}
use Rattle.std.specs.Option.{option_or}
use Rattle.std.proofs.lemmas.Bool.{ltb-false}
use Rattle.std.proofs.lemmas.Bool.Decides.{Decides-eqb}
use Rattle.std.proofs.lemmas.List.{append-nil, append_assoc}
use Rattle.row_model.specs.Lists.{Pairs}
use Rattle.row_model.specs.Fold.{IsLawful}
use Rattle.fleet_model.specs.Jobs.{JobSpec, job_with, trimmed_jobs}
use Rattle.fleet_model.specs.History.{Coordinator, GetManifest, GetRecords, PutManifest, Commit, Polled, Done, Entry}
use Rattle.fleet_model.specs.Store.{Manifest, Records, records_epoch}
use Rattle.fleet_model.specs.Work.Parties.{LiveCoordinator}
use Rattle.fleet_model.specs.Work.PollStates.{PollInput, PollState}
use Rattle.fleet_model.specs.Work.Polls.{change_of, is_nothing}
use Rattle.fleet_model.specs.Exchanges.{Exchange, Plain, DrawsJob, PutsManifest, PutsRecords, next_job_id, records_version}
use Rattle.step_model.specs.Past.{World}
use Rattle.step_model.specs.Entries.{did_put_epoch}
use Rattle.step_model.specs.Steps.Merging.{Local}
use Rattle.step_model.specs.Lawful.{Lawful}
use Rattle.step_model.specs.Rivals.{Caller, after_call}
use Rattle.step_model.specs.Kept.Keeps.{Keeps}
use Rattle.step_model.specs.Fits.{CoordinatorHolds}
use Rattle.step_model.specs.Courses.Course.{Course, Ends, Calls, draws_jobs, gets_records, puts_records, puts_manifest}
use Rattle.step_model.specs.Courses.Tries.{counted_tries, tries}
use Rattle.step_model.specs.Courses.CourseRuns.{Gives, Runs}
use Rattle.step_model.specs.Courses.StepEnds.{StepEnd, Reports, GivesUp, Fenced, most_refused}
use Rattle.step_model.specs.Steps.PollSteps.{PollAsk, poll, poll_try, polls_over, puts_trees, puts_polled, input_of, first_steps, last_steps, proposed_specs, is_unchanged, records_or_none, unless_fenced, merged_into}
use Rattle.step_laws.specs.Runs.{CallsKeep}
use Rattle.step_laws.proofs.Elements.{IsIn, all_from}
use Rattle.step_laws.proofs.Changed.{found_job, in_trimmed}
use Rattle.commit_laws.proofs.AllCalls.{calls_keep}
use Rattle.coordinator_laws.specs.Locals.{job_held, IsAfter, PollsFitLocally, FinishedJobsMayDiffer}
use Rattle.coordinator_laws.proofs.Coordinators.{polls_fit}
use Rattle.rival_laws.proofs.Coordinators.{put_low}
use Rattle.course_laws.proofs.Calls.{keeps_after}
use Rattle.course_laws.proofs.NewIds.{AreFresh, rivals_fresh, drawn_fresh}
use Rattle.coordinator_laws.proofs.Quiet.{HasEpoch, epoch_call, rivals_after}
use Rattle.coordinator_laws.proofs.Tries.{Puts, puts_met, puts_refused, puts_merged, refused_is}
use Rattle.coordinator_laws.proofs.Since.{Since, Got, Ready, ready_met, ready_noted, got_noted, drawn_noted}
use Rattle.coordinator_laws.proofs.Course.{same_trees, puts_unchanged, puts_changed, stood_is, commit_lawful, got_both, ready_both, since_first, kept_first}
use Rattle.coordinator_laws.proofs.Transfer.{AreKept}
use Rattle.coordinator_laws.proofs.Keeping.{Older, older_begins, older_met, older_refused, Keeping, keeping_stored, keeping_met, keeping_noted, keeping_entered, keeping_same, keeping_committed}
use Rattle.coordinator_laws.proofs.Reports.{After, after_put, after_none}

-- ---- who runs, and where the run ends

-- The coordinator that polls, with what it held before, and the end of its run: the poll reports what it reached.
record Walk : Type 0 where
  who : Caller
  number : ℕ
  ask : PollAsk
  before : Option Local
  by : who.party ≡ Coordinator number
  keep : CallsKeep who.merge
  lawful : IsLawful who.merge
  counted : 0 < ask.epoch
  reached : PollState
  new : World

abbrev coordinator : Walk → LiveCoordinator
coordinator w = record { number = w.number; epoch = w.ask.epoch }

-- The course runs to that end.
abbrev RunsTo : Walk → Course (StepEnd PollState) → World → Type 0
RunsTo w course world = Runs w.who course world w.new (Gives (Reports w.reached))

-- What is so after the run.
abbrev Goal : Walk → Type 0
Goal w = After (coordinator w) w.before w.reached w.new

abbrev Owns : Walk → World → Type 0
Owns w world = HasEpoch w.who.party w.ask.epoch world

-- The epoch is that of this coordinator.
owned : (w : Walk) (world : World) → Owns w world → HasEpoch (Coordinator w.number) w.ask.epoch world
owned w world own = subst (λ party. HasEpoch party w.ask.epoch world) w.by own

ends_so : (w : Walk) (p : PollState) (world : World) → RunsTo w (Ends (Reports p)) world → After (coordinator w) w.before p world → Goal w
ends_so w p world run h = subst (λ q. After (coordinator w) w.before q w.new) (same run.1) (subst (After (coordinator w) w.before p) run.0 h)
  where
    same : ◌≡◌ {A = StepEnd PollState} (Reports p) (Reports w.reached) → p ≡ w.reached
    same e = cc e

never_gives_up : (w : Walk) (seen : ℕ) (world : World) → RunsTo w (Ends (GivesUp seen)) world → ⊥
never_gives_up w seen world run = never run.1
  where
    never : ◌≡◌ {A = StepEnd PollState} (GivesUp seen) (Reports w.reached) → ⊥
    never e = absurd (cc e)

never_fenced : (w : Walk) (stored : ℕ) (world : World) → RunsTo w (Ends (Fenced stored)) world → ⊥
never_fenced w stored world run = never run.1
  where
    never : ◌≡◌ {A = StepEnd PollState} (Fenced stored) (Reports w.reached) → ⊥
    never e = absurd (cc e)

-- ---- the puts of the records

-- What comes after a refused put.
abbrev Further : Walk → ℕ → Type 0
Further w left = (base : World) (got : Records) (p : PollState) (seen : ℕ) (world : World) → Puts w.who w.ask.epoch base got p world → Keeping (coordinator w) w.before p.trees world → RunsTo w (puts_polled w.ask.epoch p got left seen) world → Goal w

-- From its get of newer records on, a poll that reports leaves what its coordinator may hold, if its further puts do.
newer_runs : (w : Walk) (left seen : ℕ) (base : World) (got : Records) (p : PollState) (met : World) → Further w left → Puts w.who w.ask.epoch base got p met → Keeping (coordinator w) w.before p.trees met → (records : Option Records) → met.store.records ≡ records
    → RunsTo w (unless_fenced w.ask.epoch (records_or_none records).epoch (puts_polled w.ask.epoch (merged_into p (records_or_none records).jobs) (records_or_none records) left seen)) (after_call w.who.line w.who.party (Plain GetRecords) None met) → Goal w
newer_runs w left seen base got p met further s k None is run =
    let recorded = s.own.recorded in
    let none : records_epoch met.store.records ≡ 0 = ap records_epoch is in
    let counted = w.counted in
    absurd (omega (arith, recorded, none, counted))
newer_runs w left seen base got p met further s k (Some newer) is run = by (nat_lt w.ask.epoch newer.epoch) refl run
  where
    by : (b : Bool) → nat_lt w.ask.epoch newer.epoch ≡ b → RunsTo w (cond b (Ends (Fenced newer.epoch)) (puts_polled w.ask.epoch (merged_into p newer.jobs) newer left seen)) (after_call w.who.line w.who.party (Plain GetRecords) None met) → Goal w
    by true f run = absurd (never_fenced w newer.epoch _ run)
    by false f run = further _ newer (merged_into p newer.jobs) seen _ (puts_merged w.who w.ask.epoch base got newer p met w.keep s is (ltb-false w.ask.epoch newer.epoch f))
        (keeping_noted w.who met _ (coordinator w) w.before p.trees (got_noted w.who GetRecords met (inr refl) w.keep s.kept) k) run

-- From its put of the records on, a poll that reports leaves what its coordinator may hold, if its further puts do.
put_runs : (w : Walk) (left : ℕ) (base : World) (got : Records) (p : PollState) (met : World) → Further w left → Puts w.who w.ask.epoch base got p met → Keeping (coordinator w) w.before p.trees met → (b : Bool) → (got.version == records_version met.store.records) ≡ b
    → RunsTo w (cond b (Ends (Reports p)) (cond (left == 0) (Ends (GivesUp (records_version met.store.records))) (gets_records (λ newer. let got = records_or_none newer in
    unless_fenced w.ask.epoch got.epoch (puts_polled w.ask.epoch (merged_into p got.jobs) got left (records_version met.store.records)))))) (after_call w.who.line w.who.party (PutsRecords got.version (Polled (change_of p)) got.epoch (trimmed_jobs p.jobs)) None met) → Goal w
put_runs w left base got p met further s k true equal run = ends_so w p _ run (after_put w.who (coordinator w) w.before base got p met s k equal)
put_runs w left base got p met further s k false other run = by (left == 0) run
  where
    after : World
    after = after_call w.who.line w.who.party (PutsRecords got.version (Polled (change_of p)) got.epoch (trimmed_jobs p.jobs)) None met

    refused : Puts w.who w.ask.epoch base got p after
    refused = puts_refused w.who w.ask.epoch base got p met w.keep s other

    kept : Keeping (coordinator w) w.before p.trees after
    kept = subst (Keeping (coordinator w) w.before p.trees) (sym (refused_is w.who.line w.who.party met got.version (Polled (change_of p)) got.epoch (trimmed_jobs p.jobs) other)) (keeping_entered met (coordinator w) w.before p.trees _ k)

    by : (b : Bool) → RunsTo w (cond b (Ends (GivesUp (records_version met.store.records))) (gets_records (λ newer. let got = records_or_none newer in
        unless_fenced w.ask.epoch got.epoch (puts_polled w.ask.epoch (merged_into p got.jobs) got left (records_version met.store.records))))) after → Goal w
    by true run = absurd (never_gives_up w (records_version met.store.records) after run)
    by false (next, (rivals, inl stops)) = absurd stops
    by false (next, (rivals, inr (room, run))) =
        newer_runs w left (records_version met.store.records) base got p next further (puts_met w.who w.ask.epoch base got p after next w.keep refused rivals)
        (keeping_met w.who after next (coordinator w) w.before p.trees w.keep w.by refused.kept rivals kept) next.store.records refl run

puts_run : (w : Walk) (left : ℕ) → Further w left
puts_run w zero base got p seen world s k run = absurd (never_gives_up w seen world run)
puts_run w (suc left) base got p seen world s k run = by (is_nothing (change_of p)) refl (puts_run w left) run
  where
    by : (b : Bool) → is_nothing (change_of p) ≡ b → Further w left → RunsTo w (cond b (Ends (Reports p)) (puts_records got (Polled (change_of p)) got.epoch (trimmed_jobs p.jobs) (Ends (Reports p)) (λ seen.
        cond (left == 0) (Ends (GivesUp seen)) (gets_records (λ newer. let got = records_or_none newer in unless_fenced w.ask.epoch got.epoch (puts_polled w.ask.epoch (merged_into p got.jobs) got left seen)))))) world → Goal w
    by true none further run = ends_so w p world run (after_none w.who (coordinator w) w.before base got p world s k none)
    by false some further (met, (rivals, inl stops)) = absurd stops
    by false some further (met, (rivals, inr (room, run))) =
        put_runs w left base got p met further (puts_met w.who w.ask.epoch base got p world met w.keep s rivals) (keeping_met w.who world met (coordinator w) w.before p.trees w.keep w.by s.kept rivals k) (got.version == records_version met.store.records) refl run

-- ---- the put of the manifest

-- Another try of the poll.
abbrev Tries : Walk → (ℕ → Course (StepEnd PollState)) → Type 0
Tries w again = (seen : ℕ) (world : World) → Keeps w.who.merge world → Owns w world → Older (coordinator w) w.before world → RunsTo w (again seen) world → Goal w

-- The trees that a poll reached without a change of a node are those that it got.
keeping_unchanged : (w : Walk) (m r d : World) (got : Records) (drawn : List (ℕ × JobSpec)) → Got w.who w.ask.epoch m r got → Ready w.who w.ask.epoch m r d → AreFresh w.who.party d drawn → Keeping (coordinator w) w.before m.store.manifest.trees d
    → let input = input_of w.ask r.store.tables m.store.manifest got in
    let p = last_steps w.ask input drawn (first_steps w.ask input) in
    is_unchanged m.store.manifest p ≡ true → Keeping (coordinator w) w.before p.trees d
keeping_unchanged w m r d got drawn g s fresh k same = keeping_same d (coordinator w) w.before m.store.manifest.trees _ (same_trees w.who w.ask.epoch m r d got w.ask drawn w.lawful g s fresh same) k

-- The trees of the manifest that the poll put.
keeping_put : (w : Walk) (m r t : World) (got : Records) (drawn : List (ℕ × JobSpec)) → Got w.who w.ask.epoch m r got → Ready w.who w.ask.epoch m r t → AreFresh w.who.party t drawn → Keeping (coordinator w) w.before m.store.manifest.trees t
    → (m.store.manifest.version == t.store.manifest.version) ≡ true
    → let input = input_of w.ask r.store.tables m.store.manifest got in
    let p = last_steps w.ask input drawn (first_steps w.ask input) in
    Keeping (coordinator w) w.before p.trees (after_call w.who.line w.who.party (PutsManifest m.store.manifest.version (Commit p.steps) (record m.store.manifest { trees = p.trees; horizon = p.horizon })) None t)
keeping_put w m r t got drawn g s fresh k equal =
    let input = input_of w.ask r.store.tables m.store.manifest got in
    let p = last_steps w.ask input drawn (first_steps w.ask input) in
    let value : Manifest = record m.store.manifest { trees = p.trees; horizon = p.horizon } in
    let entry : Entry = record { line = w.who.line; party = w.who.party; event = PutManifest (Commit p.steps); answer = Done (t.store.manifest.version + 1) } in
    let is = stood_is w.who.line w.who.party t m.store.manifest.version (Commit p.steps) value equal in
    let puts = puts_changed w.who w.ask.epoch m r t got w.ask drawn w.keep w.lawful g s fresh equal in
    let same = ap (λ (x : Manifest). x.epoch) (s.first.later.manifest.same ((Decides-eqb m.store.manifest.version t.store.manifest.version).0 equal)) in
    subst (Keeping (coordinator w) w.before p.trees) (sym is)
    (keeping_committed w.who.merge t (coordinator w) w.before (record value { version = t.store.manifest.version + 1 }) entry (subst (Keeps w.who.merge) is puts.kept) w.counted (subst (HasEpoch (Coordinator w.number) w.ask.epoch) is (owned w _ puts.own)) (omega (arith, same)) k.older)

-- From its put of the trees on, a poll that reports leaves what its coordinator may hold, if another try does.
trees_run : (w : Walk) (m r d : World) (got : Records) (drawn : List (ℕ × JobSpec)) (left seen : ℕ) (again : ℕ → Course (StepEnd PollState)) → Got w.who w.ask.epoch m r got → Tries w again → Ready w.who w.ask.epoch m r d → AreFresh w.who.party d drawn
    → Keeping (coordinator w) w.before m.store.manifest.trees d
    → let input = input_of w.ask r.store.tables m.store.manifest got in
    RunsTo w (puts_trees w.ask.epoch (last_steps w.ask input drawn (first_steps w.ask input)) m.store.manifest got left seen again) d → Goal w
trees_run w m r d got drawn left seen again g tries s fresh k run = by (is_unchanged m.store.manifest p) refl run
  where
    input : PollInput
    input = input_of w.ask r.store.tables m.store.manifest got

    p : PollState
    p = last_steps w.ask input drawn (first_steps w.ask input)

    value : Manifest
    value = record m.store.manifest { trees = p.trees; horizon = p.horizon }

    x : Exchange
    x = PutsManifest m.store.manifest.version (Commit p.steps) value

    after : (t : World) → Ready w.who w.ask.epoch m r t → AreFresh w.who.party t drawn → Keeping (coordinator w) w.before m.store.manifest.trees t → Lawful w.who.merge w.who.party t x → (b : Bool) → (m.store.manifest.version == t.store.manifest.version) ≡ b
        → RunsTo w (cond b (puts_polled w.ask.epoch p got most_refused 0) (again t.store.manifest.version)) (after_call w.who.line w.who.party x None t) → Goal w
    after t ready new kept fits true equal run = puts_run w most_refused r got p 0 _ (puts_changed w.who w.ask.epoch m r t got w.ask drawn w.keep w.lawful g ready new equal) (keeping_put w m r t got drawn g ready new kept equal) run
    after t ready new kept fits false other run =
        tries t.store.manifest.version _ (keeps_after w.who x t w.keep ready.first.kept fits) (epoch_call w.who w.ask.epoch w.who.line w.who.party x None t fits tt ready.first.own).0
        (older_refused w.who.line w.who.party t (coordinator w) w.before m.store.manifest.version (Commit p.steps) value other kept.older) run

    by : (b : Bool) → is_unchanged m.store.manifest p ≡ b
        → RunsTo w (cond b (puts_polled w.ask.epoch p got left seen) (puts_manifest m.store.manifest.version (Commit p.steps) value (puts_polled w.ask.epoch p got most_refused 0) again)) d → Goal w
    by true same run = puts_run w left r got p seen d (puts_unchanged w.who w.ask.epoch m r d got w.ask drawn w.lawful g s fresh same) (keeping_unchanged w m r d got drawn g s fresh k same) run
    by false same (t, (rivals, inl stops)) = absurd stops
    by false same (t, (rivals, inr (room, run))) =
        let ready = ready_met w.who w.ask.epoch m r d t w.keep s rivals in
        let new = rivals_fresh w.who drawn d t w.keep s.first.kept rivals fresh in
        after t ready new (keeping_met w.who d t (coordinator w) w.before m.store.manifest.trees w.keep w.by s.first.kept rivals k) (commit_lawful w.who w.ask.epoch m r t got w.ask drawn w.lawful g ready new) (m.store.manifest.version == t.store.manifest.version) refl run

-- ---- the draws

-- From its draws on, a poll that reports leaves what its coordinator may hold, if what follows them does.
draws_run : {B : Type 0} (w : Walk) (moment : ℕ) (m r : World) (xs : List B) (drawn : List (ℕ × B)) (next : List (ℕ × B) → Course (StepEnd PollState)) (world : World) → Ready w.who w.ask.epoch m r world → AreFresh w.who.party world drawn → Keeping (coordinator w) w.before m.store.manifest.trees world
    → ((met : World) (more : List (ℕ × B)) → Ready w.who w.ask.epoch m r met → AreFresh w.who.party met (drawn ++ more) → Keeping (coordinator w) w.before m.store.manifest.trees met → RunsTo w (next more) met → Goal w) → RunsTo w (draws_jobs moment xs next) world → Goal w
draws_run w moment m r [] drawn next world s fresh k goes run = goes world [] s (subst (AreFresh w.who.party world) (sym (append-nil drawn)) fresh) k run
draws_run w moment m r (x ∷ xs) drawn next world s fresh k goes (met, (rivals, inl stops)) = absurd stops
draws_run w moment m r (x ∷ xs) drawn next world s fresh k goes (met, (rivals, inr (room, run))) =
    let id = next_job_id moment met.store in
    let there = ready_met w.who w.ask.epoch m r world met w.keep s rivals in
    let new = after_call w.who.line w.who.party (DrawsJob moment) None met in
    let still = rivals_fresh w.who drawn world met w.keep s.first.kept rivals fresh in
    let kept = keeping_met w.who world met (coordinator w) w.before m.store.manifest.trees w.keep w.by s.first.kept rivals k in
    let noted = drawn_noted w.who moment met w.keep there.first.kept room in
    draws_run w moment m r xs (drawn ++ (id, x) ∷ []) (λ more. next ((id, x) ∷ more)) new (ready_noted w.who w.ask.epoch m r met new there noted) (drawn_fresh w.who met moment x drawn there.first.kept room still)
    (keeping_noted w.who met new (coordinator w) w.before m.store.manifest.trees noted kept)
    (λ after more ready all kept run. goes after ((id, x) ∷ more) ready (subst (AreFresh w.who.party after) (append_assoc drawn ((id, x) ∷ []) more) all) kept run) run

-- ---- the two gets

-- From its get of the records on, a poll that reports leaves what its coordinator may hold, if another try does.
records_run : (w : Walk) (m r : World) (left seen : ℕ) (again : ℕ → Course (StepEnd PollState)) → Keeps w.who.merge m → m.store.manifest.epoch ≡ w.ask.epoch → Tries w again → Since w.who w.ask.epoch m r
    → AreKept w.who.merge m.store.manifest.trees m.store.manifest.horizon r → Keeping (coordinator w) w.before m.store.manifest.trees r → (records : Option Records) → r.store.records ≡ records
    → RunsTo w (unless_fenced w.ask.epoch (records_or_none records).epoch (polls_over w.ask r.store.tables m.store.manifest (records_or_none records) left seen again)) (after_call w.who.line w.who.party (Plain GetRecords) None r) → Goal w
records_run w m r left seen again kept epoch tries s trees k None is run =
    let recorded = s.own.recorded in
    let none : records_epoch r.store.records ≡ 0 = ap records_epoch is in
    let counted = w.counted in
    absurd (omega (arith, recorded, none, counted))
records_run w m r left seen again kept epoch tries s trees k (Some got) is run = by (nat_lt w.ask.epoch got.epoch) refl run
  where
    after_gets : World
    after_gets = after_call w.who.line w.who.party (Plain GetRecords) None r

    input : PollInput
    input = input_of w.ask r.store.tables m.store.manifest got

    by : (b : Bool) → nat_lt w.ask.epoch got.epoch ≡ b → RunsTo w (cond b (Ends (Fenced got.epoch)) (polls_over w.ask r.store.tables m.store.manifest got left seen again)) after_gets → Goal w
    by true e run = absurd (never_fenced w got.epoch after_gets run)
    by false e run =
        let g = got_both w.who w.ask.epoch m r got kept epoch s is (ltb-false w.ask.epoch got.epoch e) in
        draws_run w w.ask.moment m r (proposed_specs w.ask input (first_steps w.ask input)) [] (λ drawn. puts_trees w.ask.epoch (last_steps w.ask input drawn (first_steps w.ask input)) m.store.manifest got left seen again) after_gets
        (ready_both w.who w.ask.epoch m r w.keep s trees) (record { drawn = tt; fresh = tt; once = tt })
        (keeping_noted w.who r after_gets (coordinator w) w.before m.store.manifest.trees (got_noted w.who GetRecords r (inr refl) w.keep s.kept) k)
        (λ met drawn ready fresh kept run. trees_run w m r met got drawn left seen again g tries ready fresh kept run) run

-- From its get of the manifest on, a poll that reports leaves what its coordinator may hold, if another try does.
manifest_run : (w : Walk) (m : World) (left seen : ℕ) (again : ℕ → Course (StepEnd PollState)) → Keeps w.who.merge m → Owns w m → Older (coordinator w) w.before m → Tries w again
    → RunsTo w (unless_fenced w.ask.epoch m.store.manifest.epoch (Calls (Plain GetRecords) (λ met.
    let got = records_or_none met.records in unless_fenced w.ask.epoch got.epoch (polls_over w.ask met.tables m.store.manifest got left seen again)))) (after_call w.who.line w.who.party (Plain GetManifest) None m) → Goal w
manifest_run w m left seen again kept own older tries run = by (nat_lt w.ask.epoch m.store.manifest.epoch) refl run
  where
    first : World
    first = after_call w.who.line w.who.party (Plain GetManifest) None m

    high : w.ask.epoch ≤ m.store.manifest.epoch
    high = put_low m.store.manifest.epoch m.store.history w.ask.epoch w.who.party kept.facts.epochs own.put

    holding : Keeping (coordinator w) w.before m.store.manifest.trees first
    holding = keeping_noted w.who m first (coordinator w) w.before m.store.manifest.trees (got_noted w.who GetManifest m (inl refl) w.keep kept) (keeping_stored w.who.merge m (coordinator w) w.before kept w.counted (owned w m own) older)

    by : (b : Bool) → nat_lt w.ask.epoch m.store.manifest.epoch ≡ b → RunsTo w (cond b (Ends (Fenced m.store.manifest.epoch)) (Calls (Plain GetRecords) (λ met.
        let got = records_or_none met.records in unless_fenced w.ask.epoch got.epoch (polls_over w.ask met.tables m.store.manifest got left seen again)))) first → Goal w
    by true e run = absurd (never_fenced w m.store.manifest.epoch first run)
    by false e (r, (rivals, inl stops)) = absurd stops
    by false e (r, (rivals, inr (room, run))) =
        let low = ltb-false w.ask.epoch m.store.manifest.epoch e in
        let up = high in
        records_run w m r left seen again kept (omega (arith, low, up)) tries (since_first w.who w.ask.epoch m r w.keep kept own rivals) (kept_first w.who m r w.keep kept rivals)
        (keeping_met w.who first r (coordinator w) w.before m.store.manifest.trees w.keep w.by (keeps_after w.who (Plain GetManifest) m w.keep kept tt) rivals holding) r.store.records refl run

-- ---- all tries

polls_run : (w : Walk) (left : ℕ) → Tries w (counted_tries (poll_try w.ask) left)
polls_run w zero seen world kept own older run = absurd (never_gives_up w seen world run)
polls_run w (suc left) seen world kept own older (m, (rivals, inl stops)) = absurd stops
polls_run w (suc left) seen world kept own older (m, (rivals, inr (room, run))) =
    let a = rivals_after w.who w.ask.epoch world m w.keep kept own rivals in
    manifest_run w m (suc left) seen (counted_tries (poll_try w.ask) left) a.kept a.own (older_met w.who world m (coordinator w) w.before w.keep w.by kept rivals older) (polls_run w left) run

-- After a poll that reports.
poll_after : (who : Caller) (old new : World) (number : ℕ) (ask : PollAsk) (before : Option Local) (p : PollState) → IsLawful who.merge → who.party ≡ Coordinator number → Keeps who.merge old
    → CoordinatorHolds old (record { number = number; epoch = ask.epoch }) before → Runs who (poll ask) old new (Gives (Reports p)) → After (record { number = number; epoch = ask.epoch }) before p new
unfolding poll
poll_after who old new number ask before p lawful by kept holds run =
    let w : Walk = record { who = who; number = number; ask = ask; before = before; by = by; keep = calls_keep who.merge lawful; lawful = lawful; counted = holds.counted; reached = p; new = new } in
    polls_run w most_refused 0 old kept (record { put = subst (λ party. IsTrue (did_put_epoch party old.store.history ask.epoch)) (sym by) holds.put; recorded = holds.recorded })
    (older_begins old (coordinator w) before holds) run

-- ---- the laws

-- After its poll that reports, a coordinator fits also if it lacks jobs that a put drops, or has older finished ones.
pub finished_jobs_may_differ : FinishedJobsMayDiffer
finished_jobs_may_differ who old new number ask before p held lawful by kept holds run is_after =
    let fits = polls_fit who old new number ask before (Gives (Reports p)) lawful by kept holds run in
    let keeps_after = poll_after who old new number ask before p lawful by kept holds run in
    record {
      counted = fits.counted;
      put = fits.put;
      recorded = fits.recorded;
      merges = λ manifest records. (keeps_after.fits manifest records held is_after).0;
      known = λ manifest records. (keeps_after.fits manifest records held is_after).1;
    }

-- The trees and the jobs that the poll reached.
reached_after : (before : Option Local) (p : PollState) (held : Local) → held.manifest.trees ≡ p.trees → held.records.jobs ≡ p.jobs → Pairs (λ a b. a.id < b.id) p.jobs → IsAfter before p held
reached_after before p held trees jobs rise = record {
  trees = trees;
  kept = all_from _ (trimmed_jobs p.jobs) (λ job there. ap (job_with job.id) jobs ∙ found_job p.jobs job rise (in_trimmed p.jobs job there));
  only = all_from _ held.records.jobs (λ job there. ap (λ o. option_or o (job_held before job.id)) (found_job p.jobs job rise (subst (IsIn job) jobs there)));
}

-- After its poll that reports, a coordinator fits with the trees and the jobs that the poll reached.
pub polls_fit_locally : PollsFitLocally
polls_fit_locally who old new number ask before p held lawful by kept holds run trees jobs =
    let fits = polls_fit who old new number ask before (Gives (Reports p)) lawful by kept holds run in
    let keeps_after = poll_after who old new number ask before p lawful by kept holds run in
    record {
      counted = fits.counted;
      put = fits.put;
      recorded = fits.recorded;
      merges = λ manifest records. (keeps_after.fits manifest records held (reached_after before p held trees jobs (keeps_after.rise manifest records))).0;
      known = λ manifest records. (keeps_after.fits manifest records held (reached_after before p held trees jobs (keeps_after.rise manifest records))).1;
    }
