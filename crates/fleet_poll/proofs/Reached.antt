-- What a poll has reached after a proposal.
use Rattle.std.proofs.Common.{◌≡◌, refl, sym, ◌∙◌, ap, subst, ℕ, zero, suc, ◌+◌, ◌<◌, arith, drop, get_or, length, take, List, [], ◌∷◌, ◌++◌, map, Bool, true, false, ◌||◌}
use Rattle.std.specs.Prelude.{◌==◌, filter, None, Some, Ok, Err, IsOkUnless, OnOk, Result}
use Rattle.std.specs.List.{AllByRecursion, list_any}
use Rattle.std.proofs.lemmas.Bool.{eqb-true}
use Rattle.std.proofs.lemmas.List.{length-take-le, map-append, take_more}
use Rattle.row_model.specs.Lists.{Pairs}
use Rattle.fleet_model.specs.Jobs.{JobSpec, Jobs, changed_jobs, ids, is_stale, put_job}
use Rattle.fleet_model.specs.Work.Polls.{add_by, add_drawn, clashes, free_stale}
use Rattle.fleet_model.specs.Work.PollStates.{PollInput, PollState}
use Rattle.fleet_model.specs.Work.Records.{new_job, to_failed, to_scheduled, to_waiting}
use Rattle.fleet_rows.specs.declared.errors.SlateDBError.{SlateDBError}
use Rattle.fleet_rows.specs.declared.errors.SlateDBError.TheVariants.{InvalidCompaction, Memory}
use Rattle.fleet_model.specs.Trees.{tables_now}
use Rattle.fleet_tree.specs.Trees.{RunFlushes, trees_of}
use Rattle.fleet_tree.specs.declared.manifest.VersionedManifest.{VersionedManifest}
use Rattle.fleet_jobs.specs.Parts.JobParts.{JobParts}
use Rattle.fleet_jobs.specs.Jobs.{job_of, jobs_of}
use Rattle.fleet_jobs.specs.Specs.{spec_of}
use Rattle.fleet_jobs.specs.declared.spec.CompactionSpec.{CompactionSpec}
use Rattle.fleet_history.specs.Changes.{new_specs}
use Rattle.fleet_book.specs.Records.{record_with}
use Rattle.fleet_book.specs.StateParts.{StateParts}
use Rattle.fleet_book.specs.States.{is_taken, own_jobs}
use Rattle.fleet_poll.specs.Polls.{HasSameObjects, changed_record, failed_record, opened_record, waiting_record, poll_of, report_of}
use Rattle.fleet_poll.proofs.Records.{failed_are, freed_are, opened_are}
use Rattle.fleet_poll.specs.declared.poll.Poll.{Poll}

pub on_ok : {A E P Q : Type 0} (r : Result A E) → (P → Q) → OnOk r P → OnOk r Q
on_ok (Ok x) f p = f p
on_ok (Err e) f p = p

pub taken_is : (spec : CompactionSpec) (jobs : List JobParts) → is_taken spec jobs ≡ list_any (clashes (spec_of spec)) (jobs_of jobs)
taken_is spec [] = refl
taken_is spec (job ∷ jobs) = ap (λ b. clashes (spec_of spec) (job_of job) || b) (taken_is spec jobs)

-- A refusal means that the target is taken.
pub must_be_taken : (taken : Bool) (r : Result (Unit {0}) SlateDBError) (e : SlateDBError) → (taken ≡ false → IsOkUnless r Memory) → r ≡ Err e → e ≡ InvalidCompaction → taken ≡ true
must_be_taken true r e memory is refused = refl
must_be_taken false r e memory is refused =
    let clash : InvalidCompaction ≡ Memory = subst (λ x. IsOkUnless x Memory) (is ∙ ap Err refused) (memory refl) in
    absurd (cc clash)

-- What the model's poll has reached with a program's manifest, jobs, new specs and dropped places.
abbrev reached : RunFlushes → Poll → VersionedManifest → Jobs → List (ℕ × JobSpec) → List ℕ → PollState
reached flushes poll manifest jobs added dropped = record (poll_of flushes poll) { trees = trees_of flushes manifest.manifest.core; horizon = manifest.manifest.core.horizon; jobs = jobs; added = added; dropped = dropped }

pub stale_freed : (flushes : RunFlushes) (input : PollInput) (poll : Poll) (state : StateParts) (freed : List ℕ) (timeout moment : ℕ) → input.options.timeout ≡ timeout → input.moment ≡ moment
    → HasSameObjects poll.state state → own_jobs state ≡ map (changed_record waiting_record freed) (own_jobs poll.state) → freed ≡ ids (filter (is_stale timeout moment) (jobs_of (own_jobs poll.state)))
    → poll_of flushes (record poll { state = state; freed = freed }) ≡ free_stale input (poll_of flushes poll)
stale_freed flushes input poll state freed timeout moment late now same jobs stale =
    let before = jobs_of (own_jobs poll.state) in
    let by : Jobs → List ℕ → PollState = λ js these. record (poll_of flushes poll) { jobs = js; freed = these } in
    ap (λ m. record (reached flushes poll m (jobs_of (own_jobs state)) (new_specs poll.added) poll.dropped) { freed = freed }) same.manifest
    ∙ ap (λ js. by js freed) (ap jobs_of jobs ∙ freed_are freed (own_jobs poll.state))
    ∙ ap (λ these. by (changed_jobs to_waiting these before) these) (stale ∙ ap (λ t. ids (filter (is_stale t moment) before)) (sym late) ∙ ap (λ m. ids (filter (is_stale input.options.timeout m) before)) (sym now))

pub proposal_added : (flushes : RunFlushes) (poll : Poll) (state : StateParts) (added : List (ℕ × CompactionSpec)) (place id : ℕ) (spec : CompactionSpec) (taken : Bool) → taken ≡ false
    → HasSameObjects poll.state state → jobs_of (own_jobs state) ≡ put_job (new_job (id, spec_of spec)) (jobs_of (own_jobs poll.state)) → added ≡ poll.added ++ (id, spec) ∷ []
    → poll_of flushes (record poll { state = state; added = added }) ≡ add_by id place (spec_of spec) taken (poll_of flushes poll)
proposal_added flushes poll state added place id spec true free same jobs more = absurd (cc free)
proposal_added flushes poll state added place id spec false free same jobs more =
    ap (λ m. reached flushes poll m (jobs_of (own_jobs state)) (new_specs added) poll.dropped) same.manifest
    ∙ ap (λ js. reached flushes poll poll.state.manifest js (new_specs added) poll.dropped) jobs
    ∙ ap (λ specs. reached flushes poll poll.state.manifest (put_job (new_job (id, spec_of spec)) (jobs_of (own_jobs poll.state))) specs poll.dropped)
    (ap new_specs more ∙ map-append (λ new. (new.0, spec_of new.1)) poll.added ((id, spec) ∷ []))

pub proposal_dropped : (flushes : RunFlushes) (poll : Poll) (state : StateParts) (dropped : List ℕ) (place id : ℕ) (spec : CompactionSpec) (taken : Bool) → taken ≡ true
    → state ≡ poll.state → dropped ≡ poll.dropped ++ place ∷ []
    → poll_of flushes (record poll { state = state; dropped = dropped }) ≡ add_by id place (spec_of spec) taken (poll_of flushes poll)
proposal_dropped flushes poll state dropped place id spec false taken same more = absurd (cc taken)
proposal_dropped flushes poll state dropped place id spec true taken same more =
    ap (λ s. poll_of flushes (record poll { state = s; dropped = dropped })) same
    ∙ ap (λ places. poll_of flushes (record poll { dropped = places })) more

pub reports : (poll : Poll) (added : List ℕ) (dropped : List (ℕ × ℕ)) → added ≡ map (λ new. new.0) poll.added → dropped ≡ map (λ place. (place, 9)) poll.dropped
    → record (report_of poll) { added = added; dropped = dropped } ≡ report_of poll
reports poll added dropped ids places = ap (λ xs. record (report_of poll) { added = xs; dropped = dropped }) ids ∙ ap (λ xs. record (report_of poll) { dropped = xs }) places

end_of_none : (place : ℕ) → place + 0 ≡ place
end_of_none place = omega (arith)

-- A proposal after others is added to what they reached. Its place counts on from theirs.
add_last : (place : ℕ) (drawn : List (ℕ × JobSpec)) (last : ℕ × JobSpec) (p : PollState)
    → add_drawn place (drawn ++ last ∷ []) p ≡ add_by last.0 (place + length drawn) last.1 (list_any (clashes last.1) (add_drawn place drawn p).jobs) (add_drawn place drawn p)
add_last place [] last p = ap (λ n. add_by last.0 n last.1 (list_any (clashes last.1) p.jobs) p) (sym (end_of_none place))
add_last place (d ∷ drawn) last p =
    let q : PollState = add_by d.0 place d.1 (list_any (clashes d.1) p.jobs) p in
    let counts : (place + 1) + length drawn ≡ place + length (d ∷ drawn) = omega (arith) in
    add_last (place + 1) drawn last q
    ∙ ap (λ n. add_by last.0 n last.1 (list_any (clashes last.1) (add_drawn (place + 1) drawn q).jobs) (add_drawn (place + 1) drawn q)) counts

new_length : (drawn : List (ℕ × CompactionSpec)) → length (new_specs drawn) ≡ length drawn
new_length [] = refl
new_length (d ∷ drawn) = ap suc (new_length drawn)

-- One more proposal is added after those before it, at the next place.
pub add_more : (drawn : List (ℕ × CompactionSpec)) (i : ℕ) (d : ℕ × CompactionSpec) (before now after : PollState) → i < length drawn → d ≡ get_or drawn i d
    → now ≡ add_drawn 1 (new_specs (take i drawn)) before → after ≡ add_by d.0 (i + 1) (spec_of d.1) (list_any (clashes (spec_of d.1)) now.jobs) now
    → after ≡ add_drawn 1 (new_specs (take (i + 1) drawn)) before
add_more drawn i d before now after below is so more =
    let spec = spec_of d.1 in
    let first = take i drawn in
    let many : length (new_specs first) ≡ i = new_length first ∙ length-take-le i drawn (omega (arith, below)) in
    let counts : i + 1 ≡ 1 + length (new_specs first) = omega (arith, many) in
    more
    ∙ ap (λ q. add_by d.0 (i + 1) spec (list_any (clashes spec) q.jobs) q) so
    ∙ ap (λ n. add_by d.0 n spec (list_any (clashes spec) (add_drawn 1 (new_specs first) before).jobs) (add_drawn 1 (new_specs first) before)) counts
    ∙ sym (add_last 1 (new_specs first) (d.0, spec) before)
    ∙ ap (λ l. add_drawn 1 l before)
    (sym (map-append (λ new. (new.0, spec_of new.1)) first (d ∷ [])) ∙ ap new_specs (sym (take_more drawn i d below ∙ ap (λ y. first ++ y ∷ []) (sym is))))

-- Ids that no job had are still new if jobs with other ids stayed as they were.
still_new : (id : ℕ) (before after : List JobParts) (rest : List (ℕ × CompactionSpec)) → AllByRecursion (λ d. (id == d.0) ≡ false) rest
    → ((other : ℕ) → (id == other) ≡ false → record_with other after ≡ record_with other before)
    → AllByRecursion (λ d. record_with d.0 before ≡ None) rest → AllByRecursion (λ d. record_with d.0 after ≡ None) rest
still_new id before after [] apart stay new = tt
still_new id before after (d ∷ rest) apart stay new = (stay d.0 apart.0 ∙ new.0, still_new id before after rest apart.1 stay new.1)

later_apart : (drawn : List (ℕ × CompactionSpec)) (i : ℕ) (d : ℕ × CompactionSpec) → i < length drawn → d ≡ get_or drawn i d → Pairs (λ a b. (a.0 == b.0) ≡ false) drawn
    → AllByRecursion (λ b. (d.0 == b.0) ≡ false) (drop (suc i) drawn)
later_apart [] i d below is once = absurd (omega (arith, below))
later_apart (first ∷ drawn) zero d below is once = subst (λ x. AllByRecursion (λ b. (x.0 == b.0) ≡ false) drawn) (sym is) once.0
later_apart (first ∷ drawn) (suc i) d below is once = later_apart drawn i d (omega (arith, below)) is once.1

all_later : (P : (ℕ × CompactionSpec) → Type 0) (drawn : List (ℕ × CompactionSpec)) (i : ℕ) → AllByRecursion P (drop i drawn) → AllByRecursion P (drop (suc i) drawn)
all_later P [] zero all = all
all_later P [] (suc i) all = all
all_later P (d ∷ drawn) zero all = all.1
all_later P (d ∷ drawn) (suc i) all = all_later P drawn i all

pub new_more : (drawn : List (ℕ × CompactionSpec)) (i : ℕ) (d : ℕ × CompactionSpec) (before after : List JobParts) → i < length drawn → d ≡ get_or drawn i d → Pairs (λ a b. (a.0 == b.0) ≡ false) drawn
    → ((other : ℕ) → (d.0 == other) ≡ false → record_with other after ≡ record_with other before)
    → AllByRecursion (λ x. record_with x.0 before ≡ None) (drop i drawn) → AllByRecursion (λ x. record_with x.0 after ≡ None) (drop (i + 1) drawn)
new_more drawn i d before after below is once stay new =
    let next : suc i ≡ i + 1 = omega (arith) in
    subst (λ n. AllByRecursion (λ x. record_with x.0 after ≡ None) (drop n drawn)) next
    (still_new d.0 before after (drop (suc i) drawn) (later_apart drawn i d below is once) stay (all_later (λ x. record_with x.0 before ≡ None) drawn i new))

pub ok_anyway : {A E P : Type 0} (r : Result A E) → P → OnOk r P
ok_anyway (Ok x) p = p
ok_anyway (Err e) p = tt

head_of : (P : (ℕ × CompactionSpec) → Type 0) (drawn : List (ℕ × CompactionSpec)) (i : ℕ) (d : ℕ × CompactionSpec) → i < length drawn → d ≡ get_or drawn i d → AllByRecursion P (drop i drawn) → P d
head_of P [] i d below is all = absurd (omega (arith, below))
head_of P (first ∷ drawn) zero d below is all = subst P (sym is) all.0
head_of P (first ∷ drawn) (suc i) d below is all = head_of P drawn i d (omega (arith, below)) is all

-- A job that was there stays as it is, since a proposal's id is new.
pub kept_more : (drawn : List (ℕ × CompactionSpec)) (i : ℕ) (d : ℕ × CompactionSpec) (before after : List JobParts) → i < length drawn → d ≡ get_or drawn i d
    → AllByRecursion (λ x. record_with x.0 before ≡ None) (drop i drawn) → ((other : ℕ) → (d.0 == other) ≡ false → record_with other after ≡ record_with other before)
    → (id : ℕ) (job : JobParts) → record_with id before ≡ Some job → record_with id after ≡ Some job
kept_more drawn i d before after below is new stay id job found = by (d.0 == id) refl
  where
    by : (b : Bool) → (d.0 == id) ≡ b → record_with id after ≡ Some job
    by true e =
        let none = head_of (λ x. record_with x.0 before ≡ None) drawn i d below is new in
        let clash : None ≡ Some job = sym none ∙ ap (λ n. record_with n before) (eqb-true d.0 id e) ∙ found in
        absurd (cc clash)
    by false e = stay id e ∙ found

-- The model's poll after a job failed, with the manifest and the records of a program.
pub failed_in : (flushes : RunFlushes) (poll : Poll) (state : StateParts) (id other : ℕ) → other ≡ id → HasSameObjects poll.state state → own_jobs state ≡ map (changed_record failed_record (id ∷ [])) (own_jobs poll.state)
    → poll_of flushes (record poll { state = state }) ≡ record (poll_of flushes poll) { jobs = changed_jobs to_failed (other ∷ []) (jobs_of (own_jobs poll.state)) }
failed_in flushes poll state id other same objects jobs =
    ap (λ m. reached flushes poll m (jobs_of (own_jobs state)) (new_specs poll.added) poll.dropped) objects.manifest
    ∙ ap (λ js. reached flushes poll poll.state.manifest js (new_specs poll.added) poll.dropped) (ap jobs_of jobs ∙ failed_are (id ∷ []) (own_jobs poll.state) ∙ ap (λ i. changed_jobs to_failed (i ∷ []) (jobs_of (own_jobs poll.state))) (sym same))

pub lost_in : (flushes : RunFlushes) (poll : Poll) (state : StateParts) (lost : List (ℕ × ℕ)) (id other rule : ℕ) → other ≡ id → HasSameObjects poll.state state
    → own_jobs state ≡ map (changed_record failed_record (id ∷ [])) (own_jobs poll.state) → lost ≡ poll.lost ++ (id, rule) ∷ []
    → poll_of flushes (record poll { state = state; lost = lost }) ≡ record (poll_of flushes poll) { jobs = changed_jobs to_failed (other ∷ []) (jobs_of (own_jobs poll.state)); lost = poll.lost ++ (other, rule) ∷ [] }
lost_in flushes poll state lost id other rule same objects jobs more =
    ap {A = PollState} {B = PollState} (λ p. record p { lost = lost }) (failed_in flushes poll state id other same objects jobs)
    ∙ ap (λ xs. record (poll_of flushes poll) { jobs = changed_jobs to_failed (other ∷ []) (jobs_of (own_jobs poll.state)); lost = xs }) (more ∙ ap (λ i. poll.lost ++ (i, rule) ∷ []) (sym same))

pub refused_in : (flushes : RunFlushes) (poll : Poll) (state : StateParts) (refused : List (ℕ × ℕ)) (id other rule : ℕ) → other ≡ id → HasSameObjects poll.state state
    → own_jobs state ≡ map (changed_record failed_record (id ∷ [])) (own_jobs poll.state) → refused ≡ poll.refused ++ (id, rule) ∷ []
    → poll_of flushes (record poll { state = state; refused = refused }) ≡ record (poll_of flushes poll) { jobs = changed_jobs to_failed (other ∷ []) (jobs_of (own_jobs poll.state)); refused = poll.refused ++ (other, rule) ∷ [] }
refused_in flushes poll state refused id other rule same objects jobs more =
    ap {A = PollState} {B = PollState} (λ p. record p { refused = refused }) (failed_in flushes poll state id other same objects jobs)
    ∙ ap (λ xs. record (poll_of flushes poll) { jobs = changed_jobs to_failed (other ∷ []) (jobs_of (own_jobs poll.state)); refused = xs }) (more ∙ ap (λ i. poll.refused ++ (i, rule) ∷ []) (sym same))

-- After a job is opened, the poll has reached what the model's step leaves: the job waits, and is listed.
pub scheduled_in : (flushes : RunFlushes) (poll : Poll) (state : StateParts) (made : List ℕ) (id other : ℕ) → other ≡ id → HasSameObjects poll.state state
    → own_jobs state ≡ map (changed_record (opened_record (trees_of flushes poll.state.manifest.manifest.core)) (id ∷ [])) (own_jobs poll.state) → made ≡ poll.opened ++ id ∷ []
    → poll_of flushes (record poll { state = state; opened = made }) ≡ record (poll_of flushes poll) {
      jobs = changed_jobs (to_scheduled (tables_now (trees_of flushes poll.state.manifest.manifest.core))) (other ∷ []) (jobs_of (own_jobs poll.state));
      opened = poll.opened ++ other ∷ [];
    }
scheduled_in flushes poll state made id other same objects jobs more =
    let trees = trees_of flushes poll.state.manifest.manifest.core in
    let changed : ℕ → Jobs = λ i. changed_jobs (to_scheduled (tables_now trees)) (i ∷ []) (jobs_of (own_jobs poll.state)) in
    ap (λ m. record (reached flushes poll m (jobs_of (own_jobs state)) (new_specs poll.added) poll.dropped) { opened = made }) objects.manifest
    ∙ ap {A = Jobs} {B = PollState} (λ js. record (poll_of flushes poll) { jobs = js; opened = made }) (ap jobs_of jobs ∙ opened_are trees (id ∷ []) (own_jobs poll.state))
    ∙ ap {A = List ℕ} {B = PollState} (λ ids. record (poll_of flushes poll) { jobs = changed id; opened = ids }) more
    ∙ ap {A = ℕ} {B = PollState} (λ i. record (poll_of flushes poll) { jobs = changed i; opened = poll.opened ++ i ∷ [] }) (sym same)
