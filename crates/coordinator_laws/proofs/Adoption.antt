-- Newer records merged into the jobs of a poll: what the poll did to its jobs, it did to the newer ones.
use Rattle.std.proofs.Common.{◌≡◌, ◌≢◌, refl, sym, ◌∙◌, ap, subst, ℕ, ◌<◌, List, [], ◌∷◌, cond, Bool, true, false, inl, inr, ◌⊎◌, Option, Some, None, arith}
use Rattle.std.specs.Prelude.{IsTrue, ◌==◌, ◌||◌, map, nat_lt, option_map}
use Rattle.std.specs.List.{AllByRecursion}
use Rattle.std.proofs.lemmas.Bool.Decides.{Decides-eqb}
use Rattle.row_model.specs.Lists.{Pairs}
use Rattle.fleet_model.specs.Jobs.{JobSpec, Job, Jobs, Status, Submitted, Scheduled, Running, Compacted, Completed, Failed, status_eq, has_status, job_with, contains, put_job, nodes_of}
use Rattle.fleet_model.specs.Nodes.{Trees}
use Rattle.fleet_model.specs.Sources.{is_apart}
use Rattle.fleet_model.specs.Work.Records.{new_job, with_new, to_waiting, firsts}
use Rattle.fleet_model.specs.Work.Gates.{reserves_nodes}
use Rattle.fleet_model.specs.Invariants.JobsFit.{SourcesStand}
use Rattle.fleet_model.specs.Work.PollStates.{PollState}
use Rattle.step_model.specs.Steps.Merging.{adopts, is_taken_new, taken_job, with_replaced, take_in, merged_jobs}
use Rattle.step_model.specs.Steps.PollSteps.{merged_into}
use Rattle.step_laws.proofs.Elements.{IsIn, all_at, all_from, all_to, contains_in, in_contains, contains_no, pairs_map}
use Rattle.step_laws.proofs.Changed.{IsFound, found_job, job_found}
use Rattle.step_laws.proofs.NewJobs.{in_new, rise_put, rise_new}
use Rattle.step_laws.proofs.OpenJobs.{is_open}
use Rattle.commit_laws.proofs.Midway.{only_job}
use Rattle.coordinator_laws.proofs.Marks.{Marks, did, did_id, did_spec, did_nothing, UnmarkedAt, marks_of, is_completed, is_failed, done_to}
use Rattle.coordinator_laws.proofs.Jobs.{Among, HeldApart, JobsReached, IsRunning, IsSubmitted, IsCompacted, MayEnd, submitted_ends, compacted_ends, in_new_old, in_put_new}
use Rattle.coordinator_laws.proofs.Quiet.{JobMoves, Stays, Goes, MovedJob, Moves, id_moves}
use Rattle.coordinator_laws.proofs.Stages.{jobs_rise}
use Rattle.step_laws.proofs.OpenJobs.{open_reserves}
use Rattle.coordinator_laws.proofs.Statuses.{status_of, ends_not_open, ends_not_running}
use Rattle.commit_laws.proofs.AtOnce.{submitted_free}
use Rattle.step_laws.proofs.Polls.{in_map, from_map}

-- ---- lists with rising ids

-- Lists with rising ids and the same jobs are the same.
same_lists : (xs ys : Jobs) → Pairs (λ a b. a.id < b.id) xs → Pairs (λ a b. a.id < b.id) ys → ((x : Job) → IsIn x xs → IsIn x ys) → ((y : Job) → IsIn y ys → IsIn y xs) → xs ≡ ys
same_lists [] [] rise up into from = refl
same_lists [] (y ∷ ys) rise up into from = absurd (from y (inl refl))
same_lists (x ∷ xs) [] rise up into from = absurd (into x (inl refl))
same_lists (x ∷ xs) (y ∷ ys) rise up into from =
    let rest = same_lists xs ys rise.1 up.1 (λ z there. inner z there (into z (inr there))) (λ z there. outer z there (from z (inr there))) in
    λ i. first (into x (inl refl)) (from y (inl refl)) i ∷ rest i
  where
    first : (y ≡ x) ⊎ IsIn x ys → (x ≡ y) ⊎ IsIn y xs → x ≡ y
    first (inl same) other = sym same
    first (inr there) (inl same) = same
    first (inr there) (inr one) =
        let low = all_at (λ (z : Job). y.id < z.id) ys x up.0 there in
        let high = all_at (λ (z : Job). x.id < z.id) xs y rise.0 one in
        absurd (omega (arith, low, high))

    heads : x ≡ y
    heads = first (into x (inl refl)) (from y (inl refl))

    inner : (z : Job) → IsIn z xs → (y ≡ z) ⊎ IsIn z ys → IsIn z ys
    inner z there (inr one) = one
    inner z there (inl same) =
        let low = all_at (λ (w : Job). x.id < w.id) xs z rise.0 there in
        let equal = ap (λ (w : Job). w.id) (heads ∙ same) in
        absurd (omega (arith, low, equal))

    outer : (z : Job) → IsIn z ys → (x ≡ z) ⊎ IsIn z xs → IsIn z xs
    outer z there (inr one) = one
    outer z there (inl same) =
        let low = all_at (λ (w : Job). y.id < w.id) ys z up.0 there in
        let equal = ap (λ (w : Job). w.id) (sym heads ∙ same) in
        absurd (omega (arith, low, equal))

pub none_some : (A : Type 0) (x : A) → None ≡ Some x → ⊥
none_some A x e = absurd (cc e)

pub same_by_ids : (xs ys : Jobs) → Pairs (λ a b. a.id < b.id) xs → Pairs (λ a b. a.id < b.id) ys → ((id : ℕ) → job_with id xs ≡ job_with id ys) → xs ≡ ys
same_by_ids xs ys rise up same = same_lists xs ys rise up
    (λ x there. (job_found x.id ys x (sym (same x.id) ∙ found_job xs x rise there)).there)
    (λ y there. (job_found y.id xs y (same y.id ∙ found_job ys y up there)).there)

-- ---- what is found after each kind of change

cond_cond : (A : Type 0) (b : Bool) (x y : A) → b ≡ true → cond b x y ≡ x
cond_cond A b x y e = ap (λ c. cond c x y) e

-- If a job is put among jobs without its id, its id finds it, and each other id finds what it found before.
find_put : (new : Job) (id : ℕ) (jobs : Jobs) → job_with new.id jobs ≡ None → job_with id (put_job new jobs) ≡ cond (id == new.id) (Some new) (job_with id jobs)
find_put new id [] none = refl
find_put new id (job ∷ jobs) none = by (nat_lt new.id job.id) (find_put new id jobs (rest none (new.id == job.id) refl))
  where
    rest : job_with new.id (job ∷ jobs) ≡ None → (b : Bool) → (new.id == job.id) ≡ b → job_with new.id jobs ≡ None
    rest none true e = absurd (none_some Job job (sym none ∙ ap (λ b. cond b (Some job) (job_with new.id jobs)) e))
    rest none false e = sym (ap (λ b. cond b (Some job) (job_with new.id jobs)) e) ∙ none

    not_first : (b : Bool) → (new.id == job.id) ≡ b → b ≡ false
    not_first true e = absurd (none_some Job job (sym none ∙ ap (λ b. cond b (Some job) (job_with new.id jobs)) e))
    not_first false e = refl

    differs : new.id ≡ job.id → ⊥
    differs same = absurd (clash ((Decides-eqb new.id job.id).1 same) (not_first (new.id == job.id) refl))
      where
        clash : (new.id == job.id) ≡ true → (new.id == job.id) ≡ false → ⊥
        clash e f = absurd (cc (sym e ∙ f))

    swap : (a b : Bool) → (id == new.id) ≡ a → (id == job.id) ≡ b → cond b (Some job) (cond a (Some new) (job_with id jobs)) ≡ cond a (Some new) (cond b (Some job) (job_with id jobs))
    swap true true e f = absurd (differs (sym ((Decides-eqb id new.id).0 e) ∙ (Decides-eqb id job.id).0 f))
    swap true false e f = refl
    swap false b e f = refl

    by : (b : Bool) → job_with id (put_job new jobs) ≡ cond (id == new.id) (Some new) (job_with id jobs)
        → job_with id (cond b (new ∷ job ∷ jobs) (job ∷ put_job new jobs)) ≡ cond (id == new.id) (Some new) (cond (id == job.id) (Some job) (job_with id jobs))
    by true e = refl
    by false e = ap (λ o. cond (id == job.id) (Some job) o) e ∙ swap (id == new.id) (id == job.id) refl refl

-- If a job replaces the one with its id, its id finds it, and each other id finds what it found before.
find_replaced : (new : Job) (id : ℕ) (jobs : Jobs) (local : Job) → job_with new.id jobs ≡ Some local → job_with id (with_replaced new jobs) ≡ cond (id == new.id) (Some new) (job_with id jobs)
find_replaced new id [] local e = absurd (none_some Job local e)
find_replaced new id (job ∷ jobs) local e = by (λ f. find_replaced new id jobs local f) (new.id == job.id) refl
  where
    others : (xs : Jobs) → (id == new.id) ≡ false → job_with id (with_replaced new xs) ≡ job_with id xs
    others [] f = refl
    others (x ∷ xs) f = at (new.id == x.id) refl (others xs f)
      where
        at : (b : Bool) → (new.id == x.id) ≡ b → job_with id (with_replaced new xs) ≡ job_with id xs → cond (id == (cond b new x).id) (Some (cond b new x)) (job_with id (with_replaced new xs)) ≡ cond (id == x.id) (Some x) (job_with id xs)
        at true g rest = ap (λ c. cond c (Some new) (job_with id (with_replaced new xs))) f ∙ rest ∙ sym (ap (λ n. cond (id == n) (Some x) (job_with id xs)) (sym ((Decides-eqb new.id x.id).0 g)) ∙ ap (λ c. cond c (Some x) (job_with id xs)) f)
        at false g rest = ap (λ o. cond (id == x.id) (Some x) o) rest

    by : (job_with new.id jobs ≡ Some local → job_with id (with_replaced new jobs) ≡ cond (id == new.id) (Some new) (job_with id jobs)) → (b : Bool) → (new.id == job.id) ≡ b → cond (id == (cond (new.id == job.id) new job).id) (Some (cond (new.id == job.id) new job)) (job_with id (with_replaced new jobs)) ≡ cond (id == new.id) (Some new) (cond (id == job.id) (Some job) (job_with id jobs))
    by more true g = ap (λ c. cond (id == (cond c new job).id) (Some (cond c new job)) (job_with id (with_replaced new jobs))) g ∙ at (id == new.id) refl
      where
        at : (c : Bool) → (id == new.id) ≡ c → cond c (Some new) (job_with id (with_replaced new jobs)) ≡ cond c (Some new) (cond (id == job.id) (Some job) (job_with id jobs))
        at true f = refl
        at false f = others jobs f ∙ sym (ap (λ n. cond (id == n) (Some job) (job_with id jobs)) (sym ((Decides-eqb new.id job.id).0 g)) ∙ ap (λ c. cond c (Some job) (job_with id jobs)) f)
    by more false g = ap (λ c. cond (id == (cond c new job).id) (Some (cond c new job)) (job_with id (with_replaced new jobs))) g
        ∙ ap (λ o. cond (id == job.id) (Some job) o) (more (sym (ap (λ c. cond c (Some job) (job_with new.id jobs)) g) ∙ e)) ∙ swap (id == new.id) (id == job.id) refl refl
      where
        differs : new.id ≡ job.id → ⊥
        differs same = absurd (cc (sym ((Decides-eqb new.id job.id).1 same) ∙ g))

        swap : (a b : Bool) → (id == new.id) ≡ a → (id == job.id) ≡ b → cond b (Some job) (cond a (Some new) (job_with id jobs)) ≡ cond a (Some new) (cond b (Some job) (job_with id jobs))
        swap true true e f = absurd (differs (sym ((Decides-eqb id new.id).0 e) ∙ (Decides-eqb id job.id).0 f))
        swap true false e f = refl
        swap false b e f = refl

-- What is found after one stored job is merged in.
find_taken : (remote : Job) (id : ℕ) (local : Jobs) → job_with id (take_in remote (job_with remote.id local) local) ≡ cond (id == remote.id) (taken_job (job_with remote.id local) remote) (job_with id local)
find_taken remote id local = by (job_with remote.id local) refl
  where
    here : (o : Option Job) → job_with remote.id local ≡ o → (b : Bool) → (id == remote.id) ≡ b → job_with id local ≡ cond b o (job_with id local)
    here o e true f = ap (λ n. job_with n local) ((Decides-eqb id remote.id).0 f) ∙ e
    here o e false f = refl

    by : (o : Option Job) → job_with remote.id local ≡ o → job_with id (take_in remote o local) ≡ cond (id == remote.id) (taken_job o remote) (job_with id local)
    by None e = new (is_taken_new remote.status)
      where
        new : (b : Bool) → job_with id (cond b (put_job remote local) local) ≡ cond (id == remote.id) (cond b (Some remote) None) (job_with id local)
        new true = find_put remote id local e
        new false = here None e (id == remote.id) refl
    by (Some old) e = adopted (adopts old.status remote.status)
      where
        adopted : (b : Bool) → job_with id (cond b (with_replaced remote local) local) ≡ cond (id == remote.id) (Some (cond b remote old)) (job_with id local)
        adopted true = find_replaced remote id local old e
        adopted false = here (Some old) e (id == remote.id) refl

-- What is found after all stored jobs are merged in.
abbrev pub combined : Option Job → Option Job → Option Job
combined local None = local
combined local (Some remote) = taken_job local remote

-- After a merge of stored jobs into local ones, each id finds what the merge of the two jobs with that id gives.
pub find_merged : (id : ℕ) (local jobs : Jobs) → Pairs (λ a b. a.id < b.id) jobs → job_with id (merged_jobs local jobs) ≡ combined (job_with id local) (job_with id jobs)
find_merged id local [] rise = refl
find_merged id local (remote ∷ jobs) rise =
    find_merged id (take_in remote (job_with remote.id local) local) jobs rise.1 ∙ ap (λ o. combined o (job_with id jobs)) (find_taken remote id local) ∙ by (id == remote.id) refl (job_with id jobs) refl
  where
    by : (b : Bool) → (id == remote.id) ≡ b → (o : Option Job) → job_with id jobs ≡ o → combined (cond b (taken_job (job_with remote.id local) remote) (job_with id local)) o ≡ combined (job_with id local) (cond b (Some remote) o)
    by false e o f = refl
    by true e None f = ap (λ n. taken_job (job_with n local) remote) (sym ((Decides-eqb id remote.id).0 e))
    by true e (Some other) f =
        let found = job_found id jobs other f in
        let low = all_at (λ (j : Job). remote.id < j.id) jobs other rise.0 found.there in
        let same = found.same in
        let equal = (Decides-eqb id remote.id).0 e in
        absurd (omega (arith, low, same, equal))

rise_replaced : (new : Job) (jobs : Jobs) → Pairs (λ a b. a.id < b.id) jobs → Pairs (λ a b. a.id < b.id) (with_replaced new jobs)
rise_replaced new jobs rise = pairs_map (λ (a b : Job). a.id < b.id) (λ (a b : Job). a.id < b.id) (λ (job : Job). cond (new.id == job.id) new job) jobs
    (λ x y one other low. let first = ids x in let second = ids y in omega (arith, low, first, second)) rise
  where
    ids : (x : Job) → (cond (new.id == x.id) new x).id ≡ x.id
    ids x = by (new.id == x.id) refl
      where
        by : (b : Bool) → (new.id == x.id) ≡ b → (cond b new x).id ≡ x.id
        by true e = (Decides-eqb new.id x.id).0 e
        by false e = refl

-- Local jobs with rising ids still have rising ids after stored jobs are merged into them.
rise_merged : (local jobs : Jobs) → Pairs (λ a b. a.id < b.id) local → Pairs (λ a b. a.id < b.id) (merged_jobs local jobs)
rise_merged local [] rise = rise
rise_merged local (remote ∷ jobs) rise = rise_merged (take_in remote (job_with remote.id local) local) jobs (by (job_with remote.id local) refl)
  where
    by : (o : Option Job) → job_with remote.id local ≡ o → Pairs (λ a b. a.id < b.id) (take_in remote o local)
    by None e = new (is_taken_new remote.status)
      where
        new : (b : Bool) → Pairs (λ a b. a.id < b.id) (cond b (put_job remote local) local)
        new true = rise_put remote local (λ job there same. none_some Job job (sym e ∙ ap (λ n. job_with n local) same ∙ found_job local job rise there)) rise
        new false = rise
    by (Some old) e = adopted (adopts old.status remote.status)
      where
        adopted : (b : Bool) → Pairs (λ a b. a.id < b.id) (cond b (with_replaced remote local) local)
        adopted true = rise_replaced remote local rise
        adopted false = rise

-- ---- one job

-- What is known of the marks of a job.
pub record MarksFit (freed opened completed failed : Bool) (job : Job) : Type 0 where
  pub runs : IsTrue freed → IsRunning job
  pub waits : IsTrue opened → IsSubmitted job
  pub ends : IsTrue completed → MayEnd job
  pub fails : IsTrue failed → MayEnd job

never_two : (job : Job) (s t : Status) → (status_eq s t ≡ false) → IsTrue (has_status s job) → IsTrue (has_status t job) → ⊥
never_two job s t differ one other = absurd (cc (sym (subst (λ x. IsTrue (status_eq s x)) (sym (status_of t job.status other)) one) ∙ differ))

ends_cases : (job : Job) → MayEnd job → IsSubmitted job ⊎ IsCompacted job
ends_cases job h = by (has_status Submitted job) (has_status Compacted job) h
  where
    by : (a b : Bool) → IsTrue (a || b) → IsTrue a ⊎ IsTrue b
    by true b h = inl h
    by false b h = inr h

-- A job that may end stays as it is.
pub ends_stays : (old new : Job) → MayEnd old → JobMoves old new → new ≡ old
ends_stays old new ends (Stays e) = e
ends_stays old new ends (Goes was is id spec tables) = absurd (ends_not_open old.status ends was)

adopts_completed : (s : Status) → adopts Completed s ≡ false
adopts_completed Submitted = refl
adopts_completed Scheduled = refl
adopts_completed Running = refl
adopts_completed Compacted = refl
adopts_completed Completed = refl
adopts_completed Failed = refl

adopts_failed : (s : Status) → adopts Failed s ≡ false
adopts_failed Submitted = refl
adopts_failed Scheduled = refl
adopts_failed Running = refl
adopts_failed Compacted = refl
adopts_failed Completed = refl
adopts_failed Failed = refl

adopts_submitted : (s : Status) → IsTrue (status_eq Submitted s) → adopts Scheduled s ≡ false
adopts_submitted Submitted h = refl
adopts_submitted Scheduled h = absurd (cc h)
adopts_submitted Running h = absurd (cc h)
adopts_submitted Compacted h = absurd (cc h)
adopts_submitted Completed h = absurd (cc h)
adopts_submitted Failed h = absurd (cc h)

adopts_running : (s : Status) → IsTrue (status_eq Running s) → adopts Scheduled s ≡ true
adopts_running Running h = refl
adopts_running Submitted h = absurd (cc h)
adopts_running Scheduled h = absurd (cc h)
adopts_running Compacted h = absurd (cc h)
adopts_running Completed h = absurd (cc h)
adopts_running Failed h = absurd (cc h)

-- In a merge, a stored job that is open or Compacted replaces a local job that is open.
adopts_open : (s t : Status) → IsTrue (is_open s) → IsTrue (is_open t || status_eq Compacted t) → adopts s t ≡ true
adopts_open Scheduled Scheduled h k = refl
adopts_open Scheduled Running h k = refl
adopts_open Scheduled Compacted h k = refl
adopts_open Running Scheduled h k = refl
adopts_open Running Running h k = refl
adopts_open Running Compacted h k = refl
adopts_open Scheduled Submitted h k = absurd (cc k)
adopts_open Scheduled Completed h k = absurd (cc k)
adopts_open Scheduled Failed h k = absurd (cc k)
adopts_open Running Submitted h k = absurd (cc k)
adopts_open Running Completed h k = absurd (cc k)
adopts_open Running Failed h k = absurd (cc k)
adopts_open Submitted t h k = absurd (cc h)
adopts_open Compacted t h k = absurd (cc h)
adopts_open Completed t h k = absurd (cc h)
adopts_open Failed t h k = absurd (cc h)

picks : (b c : Bool) (x y : Job) → b ≡ c → Some (cond b x y) ≡ Some (cond c x y)
picks b c x y e = ap (λ d. Some (cond d x y)) e

-- What a poll made of a job that it may end stays, whatever newer job is merged into it.
taken_ended : (freed opened completed failed : Bool) (tables : List ℕ) (old new : Job) → MarksFit freed opened completed failed old → JobMoves old new → MayEnd old → adopts (done_to freed opened completed failed tables old).status new.status ≡ false
    → taken_job (Some (done_to freed opened completed failed tables old)) new ≡ Some (done_to false opened completed failed tables new)
taken_ended true opened completed failed tables old new fit moves ends stays = absurd (ends_not_running old.status ends (fit.runs refl))
taken_ended false opened completed failed tables old new fit moves ends stays =
    picks (adopts (done_to false opened completed failed tables old).status new.status) false new (done_to false opened completed failed tables old) stays ∙ ap (λ (j : Job). Some (done_to false opened completed failed tables j)) (sym (ends_stays old new ends moves))

-- If others moved a job since a poll got it, merging it into what the poll made of it gives what the poll's marks make
-- of the moved job, without the mark that it is freed.
pub taken_did : (freed opened completed failed : Bool) (tables : List ℕ) (old new : Job) → MarksFit freed opened completed failed old → JobMoves old new
    → taken_job (Some (done_to freed opened completed failed tables old)) new ≡ Some (done_to false opened completed failed tables new)
taken_did freed opened completed true tables old new fit moves = taken_ended freed opened completed true tables old new fit moves (fit.fails refl) (adopts_failed new.status)
taken_did freed opened true false tables old new fit moves = taken_ended freed opened true false tables old new fit moves (fit.ends refl) (adopts_completed new.status)
taken_did freed true false false tables old new fit moves = taken_ended freed true false false tables old new fit moves (submitted_ends old (fit.waits refl))
    (adopts_submitted new.status (subst IsSubmitted (sym (ends_stays old new (submitted_ends old (fit.waits refl)) moves)) (fit.waits refl)))
taken_did true false false false tables old new fit (Stays e) = picks (adopts Scheduled new.status) true new (to_waiting old) (adopts_running new.status (subst IsRunning (sym e) (fit.runs refl)))
taken_did true false false false tables old new fit (Goes was is id spec sources) = picks (adopts Scheduled new.status) true new (to_waiting old) (adopts_open Scheduled new.status refl is)
taken_did false false false false tables old new fit (Stays e) = ap (λ (j : Job). Some (cond (adopts old.status new.status) new j)) (sym e) ∙ either (adopts old.status new.status)
  where
    either : (b : Bool) → Some (cond b new new) ≡ Some new
    either true = refl
    either false = refl
taken_did false false false false tables old new fit (Goes was is id spec sources) = picks (adopts old.status new.status) true new old (adopts_open old.status new.status was is)

-- ---- all jobs

find_did : (m : Marks) (id : ℕ) (jobs : Jobs) → job_with id (map (did m) jobs) ≡ option_map (did m) (job_with id jobs)
find_did m id [] = refl
find_did m id (job ∷ jobs) = ap (λ n. cond (id == n) (Some (did m job)) (job_with id (map (did m) jobs))) (did_id m job) ∙ by (id == job.id) (find_did m id jobs)
  where
    by : (b : Bool) → job_with id (map (did m) jobs) ≡ option_map (did m) (job_with id jobs) → cond b (Some (did m job)) (job_with id (map (did m) jobs)) ≡ option_map (did m) (cond b (Some job) (job_with id jobs))
    by true e = refl
    by false e = e

in_new_added : (named : List (ℕ × JobSpec)) (jobs : Jobs) (q : ℕ × JobSpec) → IsIn q named → IsIn (new_job q) (with_new named jobs)
in_new_added [] jobs q there = absurd there
in_new_added (p ∷ named) jobs q (inl same) = in_new_old named (put_job (new_job p) jobs) (new_job q) (subst (λ (r : ℕ × JobSpec). IsIn (new_job r) (put_job (new_job p) jobs)) same (in_put_new (new_job p) jobs))
in_new_added (p ∷ named) jobs q (inr there) = in_new_added named (put_job (new_job p) jobs) q there

-- What is merged: the poll's jobs with the jobs that it got, and newer jobs that these moved to.
pub record Adopts (got newer : Jobs) (p : PollState) : Type 0 where
  pub reached : JobsReached got p
  pub moves : Moves got newer
  pub rise : Pairs (λ a b. a.id < b.id) newer
  pub once : Pairs (λ p q. p.0 ≢ q.0) p.added
  pub new : (q : ℕ × JobSpec) (job : Job) → IsIn q p.added → IsIn job newer → q.0 ≡ job.id → ⊥

pub rise_both : (got newer : Jobs) (p : PollState) (a : Adopts got newer p) → Pairs (λ a b. a.id < b.id) (with_new p.added newer)
rise_both got newer p a = rise_new p.added newer a.once a.new a.rise

base_of : (got newer : Jobs) (p : PollState) (a : Adopts got newer p) (P : Job → Type 0) (ids : List ℕ) (b : Job) → IsIn b (with_new p.added got) → AllByRecursion (Among P (with_new p.added got)) ids → IsTrue (contains ids b.id) → P b
base_of got newer p a P ids b there h named =
    let found = all_at (Among P (with_new p.added got)) ids b.id h (contains_in ids b.id named) in
    subst P (only_job (with_new p.added got) found.0 b a.reached.rise found.1.0 there found.1.1.0) found.1.1.1

freed_base : (got newer : Jobs) (p : PollState) (a : Adopts got newer p) → AllByRecursion (Among IsRunning (with_new p.added got)) p.freed
freed_base got newer p a = all_to _ _ p.freed (λ id there found. (found.0, (in_new_old p.added got found.0 found.1.0, found.1.1))) a.reached.freed

-- Each job that a poll got or added has a status that allows the marks which the poll gave it.
pub marks_fit : (got newer : Jobs) (p : PollState) (a : Adopts got newer p) (b : Job) → IsIn b (with_new p.added got) → MarksFit (contains p.freed b.id) (contains p.opened b.id) (is_completed p b.id) (is_failed p b.id) b
marks_fit got newer p a b there = record {
  runs = λ named. base_of got newer p a IsRunning p.freed b there (freed_base got newer p a) named;
  waits = λ named. base_of got newer p a IsSubmitted p.opened b there a.reached.opened named;
  ends = λ named. three (contains p.done b.id) (contains p.moved b.id) (contains p.drained b.id) refl refl refl named;
  fails = λ named. two (contains (firsts p.lost) b.id) (contains (firsts p.refused) b.id) refl refl named;
}
  where
    three : (x y z : Bool) → contains p.done b.id ≡ x → contains p.moved b.id ≡ y → contains p.drained b.id ≡ z → IsTrue (x || (y || z)) → MayEnd b
    three true y z e f g h = compacted_ends b (base_of got newer p a IsCompacted p.done b there a.reached.done e)
    three false true z e f g h = submitted_ends b (base_of got newer p a IsSubmitted p.moved b there a.reached.moved f)
    three false false true e f g h = submitted_ends b (base_of got newer p a IsSubmitted p.drained b there a.reached.drained g)
    three false false false e f g h = absurd (cc h)

    two : (x y : Bool) → contains (firsts p.lost) b.id ≡ x → contains (firsts p.refused) b.id ≡ y → IsTrue (x || y) → MayEnd b
    two true y e f h = compacted_ends b (base_of got newer p a IsCompacted (firsts p.lost) b there a.reached.lost e)
    two false true e f h = submitted_ends b (base_of got newer p a IsSubmitted (firsts p.refused) b there a.reached.refused f)
    two false false e f h = absurd (cc h)

-- The marks of a poll that frees no job.
abbrev pub kept_marks : PollState → (ℕ → List ℕ) → Marks
kept_marks p tables = record { freed = λ n. false; opened = contains p.opened; completed = is_completed p; failed = is_failed p; tables = tables }

-- A poll gave no mark, but perhaps that it is freed, to an id that no job has which it got or added.
no_mark : (got newer : Jobs) (p : PollState) (a : Adopts got newer p) (id : ℕ) → ((job : Job) → IsIn job (with_new p.added got) → job.id ≡ id → ⊥) → UnmarkedAt (kept_marks p a.reached.tables) id
no_mark got newer p a id none = record {
  freed = refl;
  opened = lacks IsSubmitted p.opened a.reached.opened;
  completed = three (contains p.done id) (contains p.moved id) (contains p.drained id) (lacks IsCompacted p.done a.reached.done) (lacks IsSubmitted p.moved a.reached.moved) (lacks IsSubmitted p.drained a.reached.drained);
  failed = two (contains (firsts p.lost) id) (contains (firsts p.refused) id) (lacks IsCompacted (firsts p.lost) a.reached.lost) (lacks IsSubmitted (firsts p.refused) a.reached.refused);
}
  where
    lacks : (P : Job → Type 0) (ids : List ℕ) → AllByRecursion (Among P (with_new p.added got)) ids → contains ids id ≡ false
    lacks P ids h = contains_no ids id (λ there. let found = all_at (Among P (with_new p.added got)) ids id h there in none found.0 found.1.0 found.1.1.0)

    three : (x y z : Bool) → x ≡ false → y ≡ false → z ≡ false → (x || (y || z)) ≡ false
    three x y z e f g = rw (e, f, g) refl

    two : (x y : Bool) → x ≡ false → y ≡ false → (x || y) ≡ false
    two x y e f = rw (e, f) refl

new_not_running : (q : ℕ × JobSpec) (job : Job) → new_job q ≡ job → IsRunning job → ⊥
new_not_running q job is runs = absurd (cc (subst IsRunning (sym is) runs))

-- A poll's jobs merged with newer ones are what its marks, but for freed ones, make of those and of the added ones.
pub adopted_jobs : (got newer : Jobs) (p : PollState) (a : Adopts got newer p) → merged_jobs p.jobs newer ≡ map (did (kept_marks p a.reached.tables)) (with_new p.added newer)
adopted_jobs got newer p a = same_by_ids (merged_jobs p.jobs newer) (map (did new_marks) (with_new p.added newer)) (rise_merged p.jobs newer (jobs_rise got p a.reached)) rise_new_jobs (λ id. find_merged id p.jobs newer a.rise ∙ found id (job_with id (with_new p.added got)) refl (job_with id newer) refl)
  where
    marks : Marks
    marks = marks_of p a.reached.tables

    new_marks : Marks
    new_marks = kept_marks p a.reached.tables

    rise_new_jobs : Pairs (λ a b. a.id < b.id) (map (did new_marks) (with_new p.added newer))
    rise_new_jobs = pairs_map (λ (x y : Job). x.id < y.id) (λ (x y : Job). x.id < y.id) (did new_marks) (with_new p.added newer)
        (λ x y one other low. let first = did_id new_marks x in let second = did_id new_marks y in omega (arith, low, first, second)) (rise_both got newer p a)

    -- The poll's job of this id.
    mine : (id : ℕ) (o : Option Job) → job_with id (with_new p.added got) ≡ o → job_with id p.jobs ≡ option_map (did marks) o
    mine id o e = ap (job_with id) a.reached.are ∙ find_did marks id (with_new p.added got) ∙ ap (option_map (did marks)) e

    result : (id : ℕ) (x : Job) → IsIn x (with_new p.added newer) → x.id ≡ id → job_with id (map (did new_marks) (with_new p.added newer)) ≡ Some (did new_marks x)
    result id x there same = find_did new_marks id (with_new p.added newer) ∙ ap (option_map (did new_marks)) (ap (λ n. job_with n (with_new p.added newer)) (sym same) ∙ found_job (with_new p.added newer) x (rise_both got newer p a) there)

    absent : (id : ℕ) → job_with id (with_new p.added got) ≡ None → (job : Job) → IsIn job (with_new p.added got) → job.id ≡ id → ⊥
    absent id e job there same = none_some Job job (sym e ∙ ap (λ n. job_with n (with_new p.added got)) (sym same) ∙ found_job (with_new p.added got) job a.reached.rise there)

    nothing : (id : ℕ) → job_with id (with_new p.added got) ≡ None → job_with id newer ≡ None → job_with id (with_new p.added newer) ≡ None
    nothing id e f = by (job_with id (with_new p.added newer)) refl
      where
        in_either : (x : Job) → x.id ≡ id → ((q : ℕ × JobSpec) × (IsIn q p.added × (new_job q ≡ x))) ⊎ IsIn x newer → ⊥
        in_either x same (inl one) = absent id e (new_job one.0) (in_new_added p.added got one.0 one.1.0) (ap (λ (j : Job). j.id) one.1.1 ∙ same)
        in_either x same (inr there) = none_some Job x (sym f ∙ ap (λ n. job_with n newer) (sym same) ∙ found_job newer x a.rise there)

        by : (o : Option Job) → job_with id (with_new p.added newer) ≡ o → o ≡ None
        by None g = refl
        by (Some x) g = let there = job_found id (with_new p.added newer) x g in absurd (in_either x there.same (in_new p.added newer x there.there))

    new_taken : (remote : Job) → IsSubmitted remote → taken_job None remote ≡ Some remote
    new_taken remote submitted = ap (λ s. cond (is_taken_new s) (Some remote) None) (sym (status_of Submitted remote.status submitted))

    found : (id : ℕ) (o : Option Job) → job_with id (with_new p.added got) ≡ o → (n : Option Job) → job_with id newer ≡ n → combined (job_with id p.jobs) n ≡ job_with id (map (did new_marks) (with_new p.added newer))
    found id None e None f = mine id None e ∙ sym (find_did new_marks id (with_new p.added newer) ∙ ap (option_map (did new_marks)) (nothing id e f))
    found id None e (Some remote) f = ap (λ l. combined l (Some remote)) (mine id None e) ∙ by (a.moves.from remote there.there)
      where
        there : IsFound id newer remote
        there = job_found id newer remote f

        by : MovedJob got remote ⊎ (IsSubmitted remote × ((other : Job) → IsIn other got → other.id ≡ remote.id → ⊥)) → taken_job None remote ≡ job_with id (map (did new_marks) (with_new p.added newer))
        by (inl m) = absurd (absent id e m.job (in_new_old p.added got m.job m.there) (sym (id_moves m.job remote m.moves) ∙ there.same))
        by (inr new) = new_taken remote new.0 ∙ sym (result id remote (in_new_old p.added newer remote there.there) there.same
            ∙ ap (λ (j : Job). Some j) (did_nothing new_marks remote (no_mark got newer p a remote.id (λ job one same. absent id e job one (same ∙ there.same)))))
    found id (Some b) e n f = by (in_new p.added got b there.there)
      where
        there : IsFound id (with_new p.added got) b
        there = job_found id (with_new p.added got) b e

        not_freed : (q : ℕ × JobSpec) → new_job q ≡ b → contains p.freed b.id ≡ false
        not_freed q is = contains_no p.freed b.id (λ one.
            let freed = all_at (Among IsRunning (with_new p.added got)) p.freed b.id (freed_base got newer p a) one in
            new_not_running q b is (subst IsRunning (only_job (with_new p.added got) freed.0 b a.reached.rise freed.1.0 there.there freed.1.1.0) freed.1.1.1))

        by : ((q : ℕ × JobSpec) × (IsIn q p.added × (new_job q ≡ b))) ⊎ IsIn b got → combined (job_with id p.jobs) n ≡ job_with id (map (did new_marks) (with_new p.added newer))
        by (inl one) = at n f
          where
            at : (n : Option Job) → job_with id newer ≡ n → combined (job_with id p.jobs) n ≡ job_with id (map (did new_marks) (with_new p.added newer))
            at None f = mine id (Some b) e
                ∙ ap (λ c. Some (done_to c (contains p.opened b.id) (is_completed p b.id) (is_failed p b.id) (a.reached.tables b.id) b)) (not_freed one.0 one.1.1)
                ∙ sym (result id b (subst (λ (j : Job). IsIn j (with_new p.added newer)) one.1.1 (in_new_added p.added newer one.0 one.1.0)) there.same)
            at (Some remote) f = let here = job_found id newer remote f in absurd (a.new one.0 remote one.1.0 here.there (ap (λ (j : Job). j.id) one.1.1 ∙ there.same ∙ sym here.same))
        by (inr old) =
            let m = a.moves.there b old in
            let same = id_moves b m.job m.moves in
            ap (combined (job_with id p.jobs)) (sym f ∙ ap (λ k. job_with k newer) (sym (same ∙ there.same)) ∙ found_job newer m.job a.rise m.there)
            ∙ ap (λ l. combined l (Some m.job)) (mine id (Some b) e)
            ∙ taken_did (contains p.freed b.id) (contains p.opened b.id) (is_completed p b.id) (is_failed p b.id) (a.reached.tables b.id) b m.job (marks_fit got newer p a b there.there) m.moves
            ∙ ap (λ k. Some (done_to false (contains p.opened k) (is_completed p k) (is_failed p k) (a.reached.tables k) m.job)) (sym same)
            ∙ sym (result id m.job (in_new_old p.added newer m.job m.there) (same ∙ there.same))

-- ---- the state after the merge

submitted_moves : (got newer : Jobs) (p : PollState) (a : Adopts got newer p) (P : Job → Type 0) → ((job : Job) → P job → MayEnd job) → (ids : List ℕ) → AllByRecursion (Among P (with_new p.added got)) ids → AllByRecursion (Among P (with_new p.added newer)) ids
submitted_moves got newer p a P ends ids h = all_to _ _ ids (λ id there found. (found.0, (stays found.0 found.1.1.1 (in_new p.added got found.0 found.1.0), found.1.1))) h
  where
    stays : (b : Job) → P b → ((q : ℕ × JobSpec) × (IsIn q p.added × (new_job q ≡ b))) ⊎ IsIn b got → IsIn b (with_new p.added newer)
    stays b holds (inl one) = subst (λ (j : Job). IsIn j (with_new p.added newer)) one.1.1 (in_new_added p.added newer one.0 one.1.0)
    stays b holds (inr old) =
        let m = a.moves.there b old in
        in_new_old p.added newer b (subst (λ (j : Job). IsIn j newer) (ends_stays b m.job (ends b holds) m.moves) m.there)

-- A freed job holds its nodes as it did before.
freed_holds : (freed opened completed failed : Bool) (tables : List ℕ) (job : Job) → IsTrue (reserves_nodes (done_to false opened completed failed tables job)) → IsTrue (reserves_nodes (done_to freed opened completed failed tables job))
freed_holds freed opened completed true tables job h = absurd (cc h)
freed_holds freed opened true false tables job h = absurd (cc h)
freed_holds freed true false false tables job h = refl
freed_holds true false false false tables job h = refl
freed_holds false false false false tables job h = h

-- An open job that holds no mark but that it is freed holds its nodes.
open_marked : (freed opened completed failed : Bool) (tables : List ℕ) (job : Job) → MarksFit freed opened completed failed job → IsTrue (is_open job.status) → IsTrue (reserves_nodes (done_to freed opened completed failed tables job))
open_marked freed opened completed true tables job fit is = absurd (ends_not_open job.status (fit.fails refl) is)
open_marked freed opened true false tables job fit is = absurd (ends_not_open job.status (fit.ends refl) is)
open_marked freed true false false tables job fit is = refl
open_marked true false false false tables job fit is = refl
open_marked false false false false tables job fit is = open_reserves job.status is

-- A job of the merged state that holds nodes, as the poll had it.
record Before (p : PollState) (new : Job) : Type 0 where
  job : Job
  there : IsIn job p.jobs
  id : job.id ≡ new.id
  spec : job.spec ≡ new.spec
  holds : IsTrue (reserves_nodes job)

-- After a merge of newer jobs into a poll, its jobs are what its marks make of those and of the jobs that it added.
pub merged_reached : (got newer : Jobs) (p : PollState) (a : Adopts got newer p) → JobsReached newer (merged_into p newer)
merged_reached got newer p a = record {
  tables = a.reached.tables;
  are = adopted_jobs got newer p a;
  rise = rise_both got newer p a;
  freed = tt;
  opened = submitted_moves got newer p a IsSubmitted submitted_ends p.opened a.reached.opened;
  done = submitted_moves got newer p a IsCompacted compacted_ends p.done a.reached.done;
  moved = submitted_moves got newer p a IsSubmitted submitted_ends p.moved a.reached.moved;
  drained = submitted_moves got newer p a IsSubmitted submitted_ends p.drained a.reached.drained;
  lost = submitted_moves got newer p a IsCompacted compacted_ends (firsts p.lost) a.reached.lost;
  refused = submitted_moves got newer p a IsSubmitted submitted_ends (firsts p.refused) a.reached.refused;
  apart = apart;
}
  where
    marks : Marks
    marks = marks_of p a.reached.tables

    new_marks : Marks
    new_marks = kept_marks p a.reached.tables

    marked_in : (b : Job) → IsIn b (with_new p.added got) → IsIn (did marks b) p.jobs
    marked_in b there = subst (IsIn (did marks b)) (sym a.reached.are) (in_map (did marks) (with_new p.added got) b there)

    same_holds : (x b : Job) → did new_marks b ≡ x → IsIn b (with_new p.added got) → IsTrue (reserves_nodes x) → Before p x
    same_holds x b is there holds = record {
      job = did marks b;
      there = marked_in b there;
      id = did_id marks b ∙ sym (did_id new_marks b) ∙ ap (λ (j : Job). j.id) is;
      spec = did_spec marks b ∙ sym (did_spec new_marks b) ∙ ap (λ (j : Job). j.spec) is;
      holds = freed_holds (contains p.freed b.id) (contains p.opened b.id) (is_completed p b.id) (is_failed p b.id) (a.reached.tables b.id) b (subst (λ (j : Job). IsTrue (reserves_nodes j)) (sym is) holds);
    }

    before : (x : Job) → IsIn x (merged_jobs p.jobs newer) → IsTrue (reserves_nodes x) → Before p x
    before x there holds = at (from_map (did new_marks) (with_new p.added newer) x (subst (IsIn x) (adopted_jobs got newer p a) there))
      where
        moved : (b : Job) → did new_marks b ≡ x → (m : MovedJob got b) → JobMoves m.job b → Before p x
        moved b is m (Stays e) = same_holds x m.job (ap (did new_marks) (sym e) ∙ is) (in_new_old p.added got m.job m.there) holds
        moved b is m (Goes was goes id spec tables) = record {
          job = did marks m.job;
          there = marked_in m.job (in_new_old p.added got m.job m.there);
          id = did_id marks m.job ∙ sym id ∙ sym (did_id new_marks b) ∙ ap (λ (j : Job). j.id) is;
          spec = did_spec marks m.job ∙ sym spec ∙ sym (did_spec new_marks b) ∙ ap (λ (j : Job). j.spec) is;
          holds = open_marked (contains p.freed m.job.id) (contains p.opened m.job.id) (is_completed p m.job.id) (is_failed p m.job.id) (a.reached.tables m.job.id) m.job
              (marks_fit got newer p a m.job (in_new_old p.added got m.job m.there)) was;
        }

        old : (b : Job) → did new_marks b ≡ x → MovedJob got b ⊎ (IsSubmitted b × ((other : Job) → IsIn other got → other.id ≡ b.id → ⊥)) → IsIn b newer → Before p x
        old b is (inl m) one = moved b is m m.moves
        old b is (inr new) one = absurd (submitted_free x.status (subst IsSubmitted (sym (did_nothing new_marks b (no_mark got newer p a b.id (λ job there same. other job (in_new p.added got job there) same))) ∙ is) new.0) holds)
          where
            other : (job : Job) → ((q : ℕ × JobSpec) × (IsIn q p.added × (new_job q ≡ job))) ⊎ IsIn job got → job.id ≡ b.id → ⊥
            other job (inl q) same = a.new q.0 b q.1.0 one (ap (λ (j : Job). j.id) q.1.1 ∙ same)
            other job (inr g) same = new.1 job g same

        by : (b : Job) → did new_marks b ≡ x → ((q : ℕ × JobSpec) × (IsIn q p.added × (new_job q ≡ b))) ⊎ IsIn b newer → Before p x
        by b is (inl one) = same_holds x b is (subst (λ (j : Job). IsIn j (with_new p.added got)) one.1.1 (in_new_added p.added got one.0 one.1.0)) holds
        by b is (inr one) = old b is (a.moves.from b one) one

        at : (b : Job) × (IsIn b (with_new p.added newer) × (did new_marks b ≡ x)) → Before p x
        at found = by found.0 found.1.1 (in_new p.added newer found.0 found.1.0)

    apart : HeldApart (merged_jobs p.jobs newer)
    apart x y one other differs first second =
        let f = before x one first in
        let g = before y other second in
        subst (λ s. IsTrue (is_apart (nodes_of s) (nodes_of y.spec))) f.spec (subst (λ s. IsTrue (is_apart (nodes_of f.job.spec) (nodes_of s))) g.spec
        (a.reached.apart f.job g.job f.there g.there (λ same. differs (sym f.id ∙ same ∙ g.id)) f.holds g.holds))

-- The jobs that the poll opened are among the merged ones.
pub merged_opened : (got newer : Jobs) (p : PollState) (a : Adopts got newer p) (trees : Trees) → AllByRecursion (Among (λ job. IsTrue (has_status Scheduled job) × SourcesStand trees job) p.jobs) p.opened
    → AllByRecursion (Among (λ job. IsTrue (has_status Scheduled job) × SourcesStand trees job) (merged_jobs p.jobs newer)) p.opened
merged_opened got newer p a trees h = all_from _ p.opened (λ id there. one id there (all_at (Among (λ job. IsTrue (has_status Scheduled job) × SourcesStand trees job) p.jobs) p.opened id h there))
  where
    marks : Marks
    marks = marks_of p a.reached.tables

    new_marks : Marks
    new_marks = kept_marks p a.reached.tables

    one : (id : ℕ) → IsIn id p.opened → Among (λ job. IsTrue (has_status Scheduled job) × SourcesStand trees job) p.jobs id → Among (λ job. IsTrue (has_status Scheduled job) × SourcesStand trees job) (merged_jobs p.jobs newer) id
    one id there found =
        (found.0, (subst (IsIn found.0) (sym (adopted_jobs got newer p a)) (subst (λ (x : Job). IsIn x (map (did new_marks) (with_new p.added newer))) same (in_map (did new_marks) (with_new p.added newer) base.0 in_newer)), found.1.1))
      where
        base : (b : Job) × (IsIn b (with_new p.added got) × (did marks b ≡ found.0))
        base = from_map (did marks) (with_new p.added got) found.0 (subst (IsIn found.0) a.reached.are found.1.0)

        opened : Among IsSubmitted (with_new p.added got) id
        opened = all_at (Among IsSubmitted (with_new p.added got)) p.opened id a.reached.opened there

        is_base : opened.0 ≡ base.0
        is_base = only_job (with_new p.added got) opened.0 base.0 a.reached.rise opened.1.0 base.1.0 (opened.1.1.0 ∙ sym found.1.1.0 ∙ ap (λ (j : Job). j.id) (sym base.1.1) ∙ did_id marks base.0)

        submitted : IsSubmitted base.0
        submitted = subst IsSubmitted is_base opened.1.1.1

        in_newer : IsIn base.0 (with_new p.added newer)
        in_newer = at (in_new p.added got base.0 base.1.0)
          where
            at : ((q : ℕ × JobSpec) × (IsIn q p.added × (new_job q ≡ base.0))) ⊎ IsIn base.0 got → IsIn base.0 (with_new p.added newer)
            at (inl q) = subst (λ (j : Job). IsIn j (with_new p.added newer)) q.1.1 (in_new_added p.added newer q.0 q.1.0)
            at (inr old) =
                let m = a.moves.there base.0 old in
                in_new_old p.added newer base.0 (subst (λ (j : Job). IsIn j newer) (ends_stays base.0 m.job (submitted_ends base.0 submitted) m.moves) m.there)

        not_freed : contains p.freed base.0.id ≡ false
        not_freed = contains_no p.freed base.0.id (λ named. ends_not_running base.0.status (submitted_ends base.0 submitted)
            (base_of got newer p a IsRunning p.freed base.0 base.1.0 (freed_base got newer p a) (in_contains p.freed base.0.id named)))

        same : did new_marks base.0 ≡ found.0
        same = ap (λ c. done_to c (contains p.opened base.0.id) (is_completed p base.0.id) (is_failed p base.0.id) (a.reached.tables base.0.id) base.0) (sym not_freed) ∙ base.1.1
