-- Which nodes jobs hold after step 4 for one job.
use Rattle.std.proofs.Common.{◌≡◌, refl, sym, ◌∙◌, ap, subst, ℕ, ◌+◌, ◌<◌, arith, length, get_or, take, suc, zero, List, [], ◌∷◌, ◌++◌, Bool, true, false, ◌||◌, cond}
use Rattle.std.specs.Prelude.{◌==◌, filter, find, flat_map, option_map, Option, Some, None}
use Rattle.std.specs.List.{AllByRecursion}
use Rattle.std.proofs.lemmas.Bool.{eqb-true}
use Rattle.std.proofs.lemmas.Cmp.{nat_eq_equiv}
use Rattle.std.proofs.lemmas.List.{append-nil, take_more}
use Rattle.fleet_model.specs.Jobs.{Job, Jobs, Status, Submitted, Scheduled, Running, Compacted, Completed, Failed, changed_jobs, contains, ids, nodes_of, status_eq}
use Rattle.fleet_model.specs.Nodes.{NodeName}
use Rattle.fleet_model.specs.Work.Gates.{reserves_nodes}
use Rattle.fleet_model.specs.Work.Polls.{lost_to_scheduler}
use Rattle.fleet_model.specs.Work.Records.{firsts, to_completed, to_failed, to_scheduled}
use Rattle.fleet_jobs.specs.Jobs.{job_of, jobs_of}
use Rattle.fleet_jobs.specs.Parts.JobParts.{JobParts}
use Rattle.fleet_jobs.specs.Places.{held_nodes}
use Rattle.fleet_book.specs.Records.{AreRising, record_with}
use Rattle.fleet_gates.specs.Held.{AreHeld, Decides, HoldsNone, IsAmong}
use Rattle.fleet_gates.proofs.HeldNodes.{ended_jobs_hold_none, held_nodes_decide, lost_jobs_hold_their_nodes, opened_jobs_hold_their_nodes}
use Rattle.fleet_poll.specs.Loops.{IsDecided, Fails, Ends, Waits, is_over_if_there, is_submitted, nodes_held, nodes_if_there, nodes_lost}
use Rattle.fleet_poll.proofs.Changed.{found_has_id}

-- ---- the job with an id

no_two : (b : Bool) → b ≡ true → b ≡ false → ⊥
no_two true e f = absurd (cc f)
no_two false e f = absurd (cc e)

-- Jobs with greater ids have another id.
none_above : (P : Job → Type 0) (id low : ℕ) (jobs : List JobParts) → (low == id) ≡ true → AllByRecursion (λ job. low < job.id) jobs → AllByRecursion (λ other. (id == other.id) ≡ true → P other) (jobs_of jobs)
none_above P id low [] same above = tt
none_above P id low (job ∷ jobs) same above = ((λ e. clash e), none_above P id low jobs same above.1)
  where
    clash : (id == job.id) ≡ true → P (job_of job)
    clash e = let high = above.0 in let one = eqb-true low id same in let other = eqb-true id job.id e in absurd (omega (arith, high, one, other))

-- What holds of the job that is found holds of each job with its id, since the ids rise.
pub each_with_id : (P : Job → Type 0) (id : ℕ) (jobs : List JobParts) (job : JobParts) → AreRising jobs → record_with id jobs ≡ Some job → P (job_of job)
    → AllByRecursion (λ other. (id == other.id) ≡ true → P other) (jobs_of jobs)
each_with_id P id [] job rising found holds = tt
each_with_id P id (first ∷ jobs) job rising found holds = by (first.id == id) refl found (λ later. each_with_id P id jobs job rising.1 later holds)
  where
    by : (b : Bool) → (first.id == id) ≡ b → cond b (Some first) (record_with id jobs) ≡ Some job → (record_with id jobs ≡ Some job → AllByRecursion (λ other. (id == other.id) ≡ true → P other) (jobs_of jobs))
        → AllByRecursion (λ other. (id == other.id) ≡ true → P other) (jobs_of (first ∷ jobs))
    by true e h rest =
        let same : job ≡ first = sym (cc h) in
        ((λ i. subst (λ j. P (job_of j)) same holds), none_above P id first.id jobs e rising.0)
    by false e h rest = ((λ i. absurd (no_two (first.id == id) (nat_eq_equiv.symm first.id id ∙ i) e)), rest h)

id_there : (id : ℕ) (jobs : List JobParts) (job : JobParts) → record_with id jobs ≡ Some job → contains (ids (jobs_of jobs)) id ≡ true
id_there id [] job found = absurd (cc found)
id_there id (first ∷ jobs) job found = by (first.id == id) found (λ later. id_there id jobs job later)
  where
    by : (b : Bool) → cond b (Some first) (record_with id jobs) ≡ Some job → (record_with id jobs ≡ Some job → contains (ids (jobs_of jobs)) id ≡ true) → cond b true (contains (ids (jobs_of jobs)) id) ≡ true
    by true h rest = refl
    by false h rest = rest h

pub is_among : (id : ℕ) (jobs : List JobParts) (job : JobParts) → AreRising jobs → record_with id jobs ≡ Some job → IsAmong (job_of job) (jobs_of jobs)
is_among id jobs job rising found =
    let same : job.id ≡ id = found_has_id id jobs job found in
    record {
      there = ap (contains (ids (jobs_of jobs))) same ∙ id_there id jobs job found;
      same = subst (λ n. AllByRecursion (λ other. (n == other.id) ≡ true → other.spec ≡ (job_of job).spec) (jobs_of jobs)) (sym same) (each_with_id (λ other. other.spec ≡ (job_of job).spec) id jobs job rising found refl);
    }

submitted_reserves : (status : Status) → status_eq Submitted status ≡ true → (status_eq Scheduled status || status_eq Running status || status_eq Compacted status) ≡ false
submitted_reserves Submitted e = refl
submitted_reserves Scheduled e = absurd (cc e)
submitted_reserves Running e = absurd (cc e)
submitted_reserves Compacted e = absurd (cc e)
submitted_reserves Completed e = absurd (cc e)
submitted_reserves Failed e = absurd (cc e)

-- A submitted job that was not lost holds no nodes.
pub holds_none : (id : ℕ) (jobs : List JobParts) (lost : List ℕ) (job : JobParts) → AreRising jobs → record_with id jobs ≡ Some job → is_submitted job ≡ true → contains lost id ≡ false → HoldsNone (jobs_of jobs) lost id
holds_none id jobs lost job rising found submitted kept =
    each_with_id (λ other. (reserves_nodes other || contains lost other.id) ≡ false) id jobs job rising found
    (ap (λ b. b || contains lost job.id) (submitted_reserves (job_of job).status submitted) ∙ ap (contains lost) (found_has_id id jobs job found) ∙ kept)

pub decides_for : (id : ℕ) (jobs : List JobParts) (lost : List ℕ) (nodes : List NodeName) (job : JobParts) → AreRising jobs → record_with id jobs ≡ Some job → is_submitted job ≡ true → contains lost id ≡ false
    → AreHeld nodes (jobs_of jobs) lost → Decides nodes (jobs_of jobs) lost (job_of job)
decides_for id jobs lost nodes job rising found submitted kept held =
    held_nodes_decide nodes (jobs_of jobs) lost (job_of job) held (subst (HoldsNone (jobs_of jobs) lost) (sym (found_has_id id jobs job found)) (holds_none id jobs lost job rising found submitted kept))

-- ---- after a job is decided

-- The model's job with an id, if there is one.
abbrev found_in : ℕ → Jobs → Option Job
found_in id jobs = find (λ job. job.id == id) jobs

found_model : (id : ℕ) (jobs : List JobParts) → option_map job_of (record_with id jobs) ≡ found_in id (jobs_of jobs)
found_model id [] = refl
found_model id (job ∷ jobs) = by (job.id == id) (found_model id jobs)
  where
    by : (b : Bool) → option_map job_of (record_with id jobs) ≡ found_in id (jobs_of jobs) → option_map job_of (cond b (Some job) (record_with id jobs)) ≡ cond b (Some (job_of job)) (found_in id (jobs_of jobs))
    by true rest = refl
    by false rest = rest

-- The job with the id is found changed.
found_changed : (change : Job → Job) (id : ℕ) (jobs : Jobs) → ((job : Job) → (change job).id ≡ job.id) → found_in id (changed_jobs change (id ∷ []) jobs) ≡ option_map change (found_in id jobs)
found_changed change id [] same = refl
found_changed change id (job ∷ jobs) same = by (id == job.id) (job.id == id) refl (nat_eq_equiv.symm job.id id) (found_changed change id jobs same)
  where
    rest_after : Jobs
    rest_after = changed_jobs change (id ∷ []) jobs

    by : (b d : Bool) → (id == job.id) ≡ b → (job.id == id) ≡ (id == job.id) → found_in id rest_after ≡ option_map change (found_in id jobs)
        → cond ((cond (cond b true false) (change job) job).id == id) (Some (cond (cond b true false) (change job) job)) (found_in id rest_after) ≡ option_map change (cond (job.id == id) (Some job) (found_in id jobs))
    by true d e f rest =
        ap (λ c. cond c (Some (change job)) (found_in id rest_after)) (ap (λ i. i == id) (same job) ∙ f ∙ e)
        ∙ sym (ap (λ c. option_map change (cond c (Some job) (found_in id jobs))) (f ∙ e))
    by false d e f rest =
        ap (λ c. cond c (Some job) (found_in id rest_after)) (f ∙ e) ∙ rest ∙ sym (ap (λ c. option_map change (cond c (Some job) (found_in id jobs))) (f ∙ e))

-- The job that is found after a change of it is the changed one.
changed_found : (change : Job → Job) (id : ℕ) (old new : List JobParts) (job : JobParts) → ((j : Job) → (change j).id ≡ j.id) → record_with id old ≡ Some job → jobs_of new ≡ changed_jobs change (id ∷ []) (jobs_of old)
    → option_map job_of (record_with id new) ≡ Some (change (job_of job))
changed_found change id old new job same found is =
    found_model id new ∙ ap (found_in id) is ∙ found_changed change id (jobs_of old) same ∙ ap (option_map change) (sym (found_model id old) ∙ ap (option_map job_of) found)

module _ (id : ℕ) (old new : List JobParts) (lost : List ℕ) (nodes : List NodeName) (job : JobParts) (rising : AreRising old) (found : record_with id old ≡ Some job) (held : AreHeld nodes (jobs_of old) lost) where
  -- If the job holds none after its change, nothing is added.
  adds_none : (jobs : Jobs) (last : Job) → jobs_of new ≡ jobs → option_map job_of (record_with id new) ≡ Some last → nodes_held (Some last) ≡ [] → AreHeld nodes jobs lost
      → AreHeld (nodes ++ nodes_held (option_map job_of (record_with id new))) (jobs_of new) lost
  adds_none jobs last is there none all =
      subst (λ ns. AreHeld (nodes ++ ns) (jobs_of new) lost) (sym (ap nodes_held there ∙ none)) (subst (λ ns. AreHeld ns (jobs_of new) lost) (sym (append-nil nodes)) (subst (λ js. AreHeld nodes js lost) (sym is) all))

  -- After a submitted job is decided, the jobs hold the nodes that they held, and those of this job if it waits for a worker.
  pub held_after : is_submitted job ≡ true → contains lost id ≡ false → IsDecided id (jobs_of old) (jobs_of new) → AreHeld (nodes ++ nodes_held (option_map job_of (record_with id new))) (jobs_of new) lost
  held_after submitted kept (Fails is) =
      adds_none (changed_jobs to_failed (id ∷ []) (jobs_of old)) (to_failed (job_of job)) is (changed_found to_failed id old new job (λ j. refl) found is) refl
      (ended_jobs_hold_none.failed nodes (jobs_of old) lost id held (holds_none id old lost job rising found submitted kept))
  held_after submitted kept (Ends is) =
      adds_none (changed_jobs to_completed (id ∷ []) (jobs_of old)) (to_completed (job_of job)) is (changed_found to_completed id old new job (λ j. refl) found is) refl
      (ended_jobs_hold_none.completed nodes (jobs_of old) lost id held (holds_none id old lost job rising found submitted kept))
  held_after submitted kept (Waits tables_of is) =
      let there = changed_found (to_scheduled tables_of) id old new job (λ j. refl) found is in
      let same : job.id ≡ id = found_has_id id old job found in
      let all = subst (λ n. AreHeld (nodes ++ nodes_of (job_of job).spec) (changed_jobs (to_scheduled tables_of) (n ∷ []) (jobs_of old)) lost) same
      (opened_jobs_hold_their_nodes tables_of nodes (jobs_of old) lost (job_of job) held (is_among id old job rising found)) in
      subst (λ f. AreHeld (nodes ++ nodes_held f) (jobs_of new) lost) (sym there) (subst (λ js. AreHeld (nodes ++ nodes_of (job_of job).spec) js lost) (sym is) all)

-- ---- the nodes that are held at first

pub reserved_are : (jobs : List JobParts) → flat_map (λ job. nodes_held (Some (job_of job))) jobs ≡ held_nodes (jobs_of jobs) []
reserved_are [] = refl
reserved_are (job ∷ jobs) = by (reserves_nodes (job_of job)) (reserved_are jobs)
  where
    by : (b : Bool) → flat_map (λ j. nodes_held (Some (job_of j))) jobs ≡ held_nodes (jobs_of jobs) []
        → (cond b (nodes_of (job_of job).spec) [] ++ flat_map (λ j. nodes_held (Some (job_of j))) jobs)
        ≡ flat_map (λ j. nodes_of j.spec) (cond (b || false) (job_of job ∷ filter (λ j. reserves_nodes j || contains [] j.id) (jobs_of jobs)) (filter (λ j. reserves_nodes j || contains [] j.id) (jobs_of jobs)))
    by true rest = ap (λ ns. nodes_of (job_of job).spec ++ ns) rest
    by false rest = rest

pub held_at_first : (jobs : List JobParts) (nodes : List NodeName) → nodes ≡ flat_map (λ job. nodes_held (Some (job_of job))) jobs → AreHeld nodes (jobs_of jobs) []
held_at_first jobs nodes is = subst (λ ns. AreHeld ns (jobs_of jobs) []) (sym (is ∙ reserved_are jobs)) (λ name. refl)

-- A job that is lost last is lost to the scheduler exactly if its rule is 0.
lost_last : (lost : List (ℕ × ℕ)) (id rule : ℕ) → lost_to_scheduler (lost ++ (id, rule) ∷ []) ≡ lost_to_scheduler lost ++ cond (rule == 0) (id ∷ []) []
lost_last [] id rule = by (rule == 0)
  where
    by : (b : Bool) → firsts (cond b ((id, rule) ∷ []) []) ≡ cond b (id ∷ []) []
    by true = refl
    by false = refl
lost_last (l ∷ lost) id rule = by (l.1 == 0) (lost_last lost id rule)
  where
    by : (b : Bool) → lost_to_scheduler (lost ++ (id, rule) ∷ []) ≡ lost_to_scheduler lost ++ cond (rule == 0) (id ∷ []) []
        → firsts (cond b (l ∷ filter (λ x. x.1 == 0) (lost ++ (id, rule) ∷ [])) (filter (λ x. x.1 == 0) (lost ++ (id, rule) ∷ []))) ≡ firsts (cond b (l ∷ filter (λ x. x.1 == 0) lost) (filter (λ x. x.1 == 0) lost)) ++ cond (rule == 0) (id ∷ []) []
    by true rest = ap (λ ns. l.0 ∷ ns) rest
    by false rest = rest

-- One more lost job holds its nodes if it failed the scheduler's rule.
pub held_more : (jobs : List JobParts) (lost : List (ℕ × ℕ)) (i : ℕ) (l : ℕ × ℕ) (nodes after : List NodeName) → AreRising jobs → i < length lost → l ≡ get_or lost i l
    → AllByRecursion (λ x. is_over_if_there (record_with x.0 jobs) ≡ true) lost → AreHeld nodes (jobs_of jobs) (lost_to_scheduler (take i lost))
    → after ≡ nodes ++ nodes_lost l.1 (option_map job_of (record_with l.0 jobs)) → AreHeld after (jobs_of jobs) (lost_to_scheduler (take (i + 1) lost))
held_more jobs lost i l nodes after rising below is over held more =
    subst (λ ns. AreHeld ns (jobs_of jobs) (lost_to_scheduler (take (i + 1) lost))) (sym more)
    (subst (λ ids. AreHeld (nodes ++ nodes_lost l.1 (option_map job_of (record_with l.0 jobs))) (jobs_of jobs) ids)
    (sym (lost_last (take i lost) l.0 l.1) ∙ sym (ap lost_to_scheduler (take_more lost i l below ∙ ap (λ y. take i lost ++ y ∷ []) (sym is))))
    (by_rule (l.1 == 0)))
  where
    with_found : (found : Option JobParts) → record_with l.0 jobs ≡ found → is_over_if_there found ≡ true → AreHeld (nodes ++ nodes_if_there (option_map job_of found)) (jobs_of jobs) (lost_to_scheduler (take i lost) ++ l.0 ∷ [])
    with_found None e there = absurd (cc there)
    with_found (Some job) e there =
        subst (λ n. AreHeld (nodes ++ nodes_of (job_of job).spec) (jobs_of jobs) (lost_to_scheduler (take i lost) ++ n ∷ [])) (found_has_id l.0 jobs job e)
        (lost_jobs_hold_their_nodes nodes (jobs_of jobs) (lost_to_scheduler (take i lost)) (job_of job) held (is_among l.0 jobs job rising e))

    one_over : is_over_if_there (record_with l.0 jobs) ≡ true
    one_over = over_at lost i l below is over
      where
        over_at : (ls : List (ℕ × ℕ)) (n : ℕ) (x : ℕ × ℕ) → n < length ls → x ≡ get_or ls n x → AllByRecursion (λ y. is_over_if_there (record_with y.0 jobs) ≡ true) ls → is_over_if_there (record_with x.0 jobs) ≡ true
        over_at [] n x low same all = absurd (omega (arith, low))
        over_at (y ∷ ls) zero x low same all = subst (λ z. is_over_if_there (record_with z.0 jobs) ≡ true) (sym same) all.0
        over_at (y ∷ ls) (suc n) x low same all = over_at ls n x (omega (arith, low)) same all.1

    by_rule : (b : Bool) → AreHeld (nodes ++ cond b (nodes_if_there (option_map job_of (record_with l.0 jobs))) []) (jobs_of jobs) (lost_to_scheduler (take i lost) ++ cond b (l.0 ∷ []) [])
    by_rule true = with_found (record_with l.0 jobs) refl one_over
    by_rule false = subst (λ ns. AreHeld ns (jobs_of jobs) (lost_to_scheduler (take i lost) ++ [])) (sym (append-nil nodes)) (subst (AreHeld nodes (jobs_of jobs)) (sym (append-nil (lost_to_scheduler (take i lost)))) held)
