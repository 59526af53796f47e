-- A poll that reports does what its definition computes, and nothing else: a walk over its calls.
use Rattle.std.proofs.Common.{◌≡◌, refl, sym, ◌∙◌, ap, subst, ℕ, zero, suc, ◌<◌, List, [], ◌∷◌, ◌++◌, cond, Bool, true, false, Option, Some, None, append-nil, append_assoc}
use Rattle.std.specs.Prelude.{IsTrue, ◌==◌, ◌&&◌, nat_lt, map, is_some}
use Rattle.std.specs.List.{AllByRecursion}
use Rattle.std.proofs.lemmas.Bool.Decides.{Decides-eqb}
use Rattle.row_model.specs.Lists.{Pairs}
use Rattle.row_model.specs.Fold.{Operator, IsLawful}
use Rattle.fleet_model.specs.Nodes.{Trees}
use Rattle.fleet_model.specs.Jobs.{JobSpec, Job, Jobs, trimmed_jobs}
use Rattle.fleet_model.specs.History.{Party, Step, Join, GetManifest, GetRecords, Commit, Polled, Entry}
use Rattle.fleet_model.specs.Work.Records.{jobs_after}
use Rattle.fleet_model.specs.Past.Replay.{outputs_in}
use Rattle.fleet_model.specs.Store.{Manifest, Records, Store, stored_jobs, jobs_in}
use Rattle.fleet_model.specs.Trees.{stepped_in, stepped_all, job_of}
use Rattle.fleet_model.specs.Work.PollStates.{PollState}
use Rattle.fleet_model.specs.Work.Polls.{change_of, is_nothing}
use Rattle.fleet_model.specs.Exchanges.{Exchange, Plain, DrawsJob, PutsManifest, records_version, next_job_id}
use Rattle.step_model.specs.Past.{World}
use Rattle.step_model.specs.Entries.{party_eq, is_draw_of, drew_job}
use Rattle.step_model.specs.Lawful.{Lawful}
use Rattle.step_model.specs.LawfulManifests.{IsKnownTo, StepFits, StepsFit, CommitFits, joined_after}
use Rattle.step_model.specs.Rivals.{Caller, Rivals, after_call}
use Rattle.step_model.specs.Kept.Keeps.{Keeps}
use Rattle.step_model.specs.Courses.Course.{Course, Ends, Calls, draws_jobs, gets_records, puts_manifest, puts_records}
use Rattle.step_model.specs.Courses.Tries.{counted_tries}
use Rattle.step_model.specs.Courses.StepEnds.{StepEnd, Reports, GivesUp, Fenced, most_refused}
use Rattle.step_model.specs.Steps.PollSteps.{PollAsk, poll, poll_try, polls_over, puts_trees, puts_polled, unless_fenced, records_or_none, first_steps, proposed_specs, merged_into, is_unchanged}
use Rattle.step_laws.specs.Runs.{CallsKeep}
use Rattle.step_laws.proofs.Elements.{all_front, all_to, any_front}
use Rattle.commit_laws.specs.After.{trees_after, joined_by}
use Rattle.commit_laws.proofs.AllCalls.{calls_keep}
use Rattle.commit_laws.proofs.StepForms.{joins_replace}
use Rattle.course_laws.specs.Afterwards.{ComesAfter}
use Rattle.course_laws.proofs.Afterwards.{comes_itself, comes_then, comes_by, comes_met, comes_called, runs_come}
use Rattle.course_laws.proofs.Going.{Going, Gone, goes}
use Rattle.course_laws.proofs.NewIds.{AreFresh, rivals_fresh, drawn_fresh}
use Rattle.coordinator_laws.specs.PollReports.{input_got, state_reached, JoinDone, CommitDone, merged_with, IsKept, freed_by, polled_put, JobsPut, PollDid, PollsReport}
use Rattle.coordinator_laws.proofs.Course.{polls_are_lawful}
use Rattle.coordinator_laws.proofs.PollSays.{poll_says}

-- ---- the steps of a commit

-- The steps of a commit that come first fit, and so does the one after them.
pub record FitsAt (world : World) (specs : ℕ → JobSpec) (trees : Trees) (joined : List ℕ) (first : List Step) (step : Step) (at : Trees) : Type 0 where
  pub front : StepsFit world specs trees joined first
  pub here : StepFits world at (joined_by first joined) (specs (job_of step)) step

-- The trees after the first steps, from any trees on.
abbrev pub after_from : World → (ℕ → JobSpec) → List Step → Trees → Trees
after_from world specs first trees = stepped_all world.store.tables (λ id. (specs id, outputs_in world.store.records id)) first trees

pub fits_at : (world : World) (specs : ℕ → JobSpec) (trees : Trees) (joined : List ℕ) (first rest : List Step) (step : Step) → StepsFit world specs trees joined (first ++ step ∷ rest) → FitsAt world specs trees joined first step (after_from world specs first trees)
fits_at world specs trees joined [] rest step fits = record { front = tt; here = fits.0 }
fits_at world specs trees joined (s ∷ first) rest step fits =
    let r = fits_at world specs (stepped_in world.store.tables s (specs (job_of s)) (outputs_in world.store.records (job_of s)) trees) (joined_after s joined) first rest step fits.1 in
    record { front = (fits.0, r.front); here = r.here }

map_append : (first rest : List ℕ) → map Join (first ++ rest) ≡ map Join first ++ map Join rest
map_append [] rest = refl
map_append (x ∷ first) rest = ap (λ (steps : List Step). Join x ∷ steps) (map_append first rest)

-- Each join of a commit does what a join is to do.
pub joins_done : (merge : Operator) (at : World) (party : Party) (specs : ℕ → JobSpec) (all_steps : List Step) (done : List ℕ) (others : List Step) → IsLawful merge → all_steps ≡ map Join done ++ others → Keeps merge at
    → AllByRecursion (λ step. IsKnownTo party at specs (job_of step)) all_steps → StepsFit at specs at.store.manifest.trees [] all_steps
    → (first : List ℕ) (id : ℕ) (rest : List ℕ) → first ++ id ∷ rest ≡ done → JoinDone merge at (trees_after at specs (map Join first)) id
joins_done merge at party specs all_steps done others lawful steps kept knows each first id rest parts =
    let all : all_steps ≡ map Join first ++ Join id ∷ (map Join rest ++ others) = steps ∙ ap (λ (ids : List ℕ). map Join ids ++ others) (sym parts) ∙ ap (λ (s : List Step). s ++ others) (map_append first (id ∷ rest)) ∙ append_assoc (map Join first) (map Join (id ∷ rest)) others in
    let known = all_front (λ (step : Step). IsKnownTo party at specs (job_of step)) (map Join first) (Join id ∷ (map Join rest ++ others)) (subst (AllByRecursion (λ (step : Step). IsKnownTo party at specs (job_of step))) all knows) in
    let f = fits_at at specs at.store.manifest.trees [] (map Join first) (map Join rest ++ others) (Join id) (subst (StepsFit at specs at.store.manifest.trees []) all each) in
    record {
      job = f.here.job;
      stored = f.here.stored;
      first_time = λ none. joins_replace merge lawful at party specs (map Join first) id kept known f.front f.here none;
      again = f.here.again;
    }

-- What a commit does.
commit_done : (who : Caller) (shown at : World) (p : PollState) (others : List Step) → IsLawful who.merge → p.steps ≡ map Join p.done ++ others → ComesAfter shown at → Keeps who.merge at → at.store.manifest ≡ shown.store.manifest
    → CommitFits who.party at p.steps (record shown.store.manifest { trees = p.trees; horizon = p.horizon }) → CommitDone who shown p
commit_done who shown at p others lawful steps after kept same fits = record {
  at = at;
  after = after;
  kept = kept;
  same = same;
  fits = fits;
  trees = ap (λ (m : Manifest). m.trees) fits.makes;
  joins = joins_done who.merge at who.party fits.specs p.steps p.done others lawful steps kept fits.known fits.each;
}

-- ---- ends and draws

unfenced : (who : Caller) (epoch stored : ℕ) (next : Course (StepEnd PollState)) (world last : World) (p : PollState) → Going who (unless_fenced epoch stored next) world last (Reports p) → Going who next world last (Reports p)
unfenced who epoch stored next world last p going = by (nat_lt epoch stored) going
  where
    by : (b : Bool) → Going who (cond b (Ends (Fenced stored)) next) world last (Reports p) → Going who next world last (Reports p)
    by true going = absurd (cc (going.run.1))
    by false going = going

-- The run goes on after the draws, with a new id for each element.
record Drew {A B : Type 0} (who : Caller) (pairs : List (ℕ × B)) (xs : List B) (next : List (ℕ × B) → Course A) (world last : World) (answer : A) : Type 0 where
  pub drawn : List (ℕ × B)
  pub each : map (λ d. d.1) drawn ≡ xs
  pub mid : World
  pub after : ComesAfter world mid
  pub fresh : AreFresh who.party mid (pairs ++ drawn)
  pub going : Going who (next drawn) mid last answer

-- A run that draws a new id for each element goes on with them, in the order of the elements.
draws_done : {A B : Type 0} (who : Caller) (moment : ℕ) (pairs : List (ℕ × B)) (xs : List B) (next : List (ℕ × B) → Course A) (world last : World) (answer : A) → CallsKeep who.merge → AreFresh who.party world pairs → Going who (draws_jobs moment xs next) world last answer
    → Drew who pairs xs next world last answer
draws_done who moment pairs [] next world last answer keep fresh going =
    record { drawn = []; each = refl; mid = world; after = comes_itself world; fresh = subst (AreFresh who.party world) (sym (append-nil pairs)) fresh; going = going }
draws_done {A} {B} who moment pairs (x ∷ xs) next world last answer keep fresh going =
    let g = goes who (DrawsJob moment) (λ met. draws_jobs moment xs (λ drawn. next ((next_job_id moment met, x) ∷ drawn))) world last answer keep going in
    further g (draws_done {A = A} {B = B} who moment (pairs ++ (next_job_id moment g.met.store, x) ∷ []) xs (λ drawn. next ((next_job_id moment g.met.store, x) ∷ drawn)) (after_call who.line who.party (DrawsJob moment) None g.met) last answer keep
    (drawn_fresh who g.met moment x pairs g.kept g.room (rivals_fresh who pairs world g.met keep going.kept g.rivals fresh)) g.going)
  where
    further : (g : Gone who (DrawsJob moment) (λ met. draws_jobs moment xs (λ drawn. next ((next_job_id moment met, x) ∷ drawn))) world last answer)
        → Drew who (pairs ++ (next_job_id moment g.met.store, x) ∷ []) xs (λ drawn. next ((next_job_id moment g.met.store, x) ∷ drawn)) (after_call who.line who.party (DrawsJob moment) None g.met) last answer → Drew who pairs (x ∷ xs) next world last answer
    further g d =
        let id = next_job_id moment g.met.store in
        let after = after_call who.line who.party (DrawsJob moment) None g.met in
        record {
          drawn = (id, x) ∷ d.drawn;
          each = ap (λ ys. x ∷ ys) d.each;
          mid = d.mid;
          after = comes_then world after d.mid (comes_called who (DrawsJob moment) world g.met (comes_met who world world g.met (comes_itself world) g.rivals)) d.after;
          fresh = subst (AreFresh who.party d.mid) (append_assoc pairs ((id, x) ∷ []) d.drawn) d.fresh;
          going = d.going;
        }

-- ---- the puts of the records

pub got_version : (records : Option Records) → (records_or_none records).version ≡ records_version records
got_version None = refl
got_version (Some records) = refl

pub got_jobs : (records : Option Records) → (records_or_none records).jobs ≡ jobs_in records
got_jobs None = refl
got_jobs (Some records) = refl

some_got : (records : Option Records) → IsTrue (is_some records) → records ≡ Some (records_or_none records)
some_got None h = absurd (cc h)
some_got (Some records) h = refl

-- The rest of a poll that has reached this state and has put the manifest, or need not.
record Rest (who : Caller) (p reported : PollState) (last : World) : Type 0 where
  pub newer : List Jobs
  pub merged : reported ≡ merged_with p newer
  pub puts : is_nothing (change_of reported) ≡ false → JobsPut who last reported

-- The put that ends the poll. `base` is the world whose records it got.
put_last : (who : Caller) (p : PollState) (base met : World) → ComesAfter base met → Lawful who.merge who.party met (polled_put p (records_or_none base.store.records))
    → ((records_or_none base.store.records).version == records_version met.store.records) ≡ true → JobsPut who (after_call who.line who.party (polled_put p (records_or_none base.store.records)) None met) p
put_last who p base met after lawful equal =
    let got = records_or_none base.store.records in
    let version : got.version ≡ records_version met.store.records = (Decides-eqb got.version (records_version met.store.records)).0 equal in
    let same : base.store.records ≡ met.store.records = after.later.records_stay (sym (got_version base.store.records) ∙ version) in
    let fits = lawful.1 version in
    let stored : met.store.records ≡ Some got = sym same ∙ some_got base.store.records (subst (λ (r : Option Records). IsTrue (is_some r)) (sym same) fits.there) in
    record {
      at = met;
      got = got;
      stored = stored;
      last = refl;
      unrecorded = fits.unrecorded;
      made = fits.makes_jobs ∙ ap (λ (r : Option Records). jobs_after fits.unrecorded (Polled (change_of p)) (jobs_in r)) stored;
    }

-- From its puts of the records on, a poll that reports has merged newer jobs, and put its jobs last if it changed one.
rest_of : (who : Caller) (epoch : ℕ) (reported : PollState) (last : World) → CallsKeep who.merge → (left seen : ℕ) (p : PollState) (base world : World) → ComesAfter base world
    → Going who (puts_polled epoch p (records_or_none base.store.records) left seen) world last (Reports reported) → Rest who p reported last
rest_of who epoch reported last keep zero seen p base world after going = absurd (cc (going.run.1))
rest_of who epoch reported last keep (suc left) seen p base world after going =
    by (λ seen q base world after going. rest_of who epoch reported last keep left seen q base world after going) (is_nothing (change_of p)) refl going
  where
    -- The rest of the poll after newer records were merged.
    Merges : Type 0
    Merges = (seen : ℕ) (q : PollState) (base world : World) → ComesAfter base world → Going who (puts_polled epoch q (records_or_none base.store.records) left seen) world last (Reports reported) → Rest who q reported last

    got : Records
    got = records_or_none base.store.records

    newer_course : ℕ → Option Records → Course (StepEnd PollState)
    newer_course seen newer = unless_fenced epoch (records_or_none newer).epoch (puts_polled epoch (merged_into p (records_or_none newer).jobs) (records_or_none newer) left seen)

    again : ℕ → Course (StepEnd PollState)
    again seen = cond (left == 0) (Ends (GivesUp seen)) (gets_records (newer_course seen))

    ended : (world : World) → (is_nothing (change_of p) ≡ false → JobsPut who world p) → Going who (Ends (Reports p)) world last (Reports reported) → Rest who p reported last
    ended world put going =
        let is : p ≡ reported = cc (going.run.1) in
        record {
          newer = [];
          merged = sym is;
          puts = λ some. subst (JobsPut who last) is (subst (λ (t : World). JobsPut who t p) going.run.0 (put (ap (λ (q : PollState). is_nothing (change_of q)) is ∙ some)));
        }

    newer : Merges → (seen : ℕ) (world : World) (g : Gone who (Plain GetRecords) (λ met. newer_course seen met.records) world last (Reports reported)) → Rest who p reported last
    newer on seen world g =
        let jobs = (records_or_none g.met.store.records).jobs in
        let first = after_call who.line who.party (Plain GetRecords) None g.met in
        let further = unfenced who epoch (records_or_none g.met.store.records).epoch (puts_polled epoch (merged_into p jobs) (records_or_none g.met.store.records) left seen) first last reported g.going in
        let r = on seen (merged_into p jobs) g.met first (comes_by who.line who.party (Plain GetRecords) None g.met) further in
        record { newer = jobs ∷ r.newer; merged = r.merged; puts = r.puts }

    retried : Merges → (b : Bool) (seen : ℕ) (world : World) → Going who (cond b (Ends (GivesUp seen)) (gets_records (newer_course seen))) world last (Reports reported) → Rest who p reported last
    retried on true seen world going = absurd (cc (going.run.1))
    retried on false seen world going = newer on seen world (goes who (Plain GetRecords) (λ met. newer_course seen met.records) world last (Reports reported) keep going)

    put : Merges → (g : Gone who (polled_put p got) (λ met. cond (got.version == records_version met.records) (Ends (Reports p)) (again (records_version met.records))) world last (Reports reported)) → Rest who p reported last
    put on g = at (got.version == records_version g.met.store.records) refl g.going
      where
        after_put : World
        after_put = after_call who.line who.party (polled_put p got) None g.met

        at : (b : Bool) → (got.version == records_version g.met.store.records) ≡ b → Going who (cond b (Ends (Reports p)) (again (records_version g.met.store.records))) after_put last (Reports reported) → Rest who p reported last
        at true equal going = ended after_put (λ some. put_last who p base g.met (comes_met who base world g.met after g.rivals) g.call equal) going
        at false other going = retried on (left == 0) (records_version g.met.store.records) after_put going

    by : Merges → (b : Bool) → is_nothing (change_of p) ≡ b → Going who (cond b (Ends (Reports p)) (puts_records got (Polled (change_of p)) got.epoch (trimmed_jobs p.jobs) (Ends (Reports p)) again)) world last (Reports reported) → Rest who p reported last
    by on true none going = ended world (λ some. absurd (cc (none, some))) going
    by on false some going = put on (goes who (polled_put p got) (λ met. cond (got.version == records_version met.records) (Ends (Reports p)) (again (records_version met.records))) world last (Reports reported) keep going)

-- ---- one try

-- Who polls, and what the poll reports.
record Walk : Type 0 where
  who : Caller
  ask : PollAsk
  start : World
  reported : PollState
  last : World
  keep : CallsKeep who.merge
  lawful : IsLawful who.merge

abbrev Goal : Walk → Type 0
Goal w = PollDid w.who w.ask w.start w.last w.reported

-- Another try of the poll.
abbrev Retries : Walk → (ℕ → Course (StepEnd PollState)) → Type 0
Retries w again = (seen : ℕ) (world : World) → ComesAfter w.start world → Going w.who (again seen) world w.last (Reports w.reported) → Goal w

-- What the last try got: a manifest and then records, and ids for the proposals.
record Found (w : Walk) : Type 0 where
  shown : World
  after : ComesAfter w.start shown
  found : World
  others : Rivals w.who (after_call w.who.line w.who.party (Plain GetManifest) None shown) found
  rise : Pairs (λ (a b : Job). a.id < b.id) (stored_jobs found.store)
  drawn : List (ℕ × JobSpec)
  proposed : map (λ d. d.1) drawn ≡ proposed_specs w.ask (input_got w.ask shown.store found.store) (first_steps w.ask (input_got w.ask shown.store found.store))
  mid : World
  later : ComesAfter found mid
  fresh : AreFresh w.who.party mid drawn

abbrev reached : (w : Walk) → Found w → PollState
reached w f = state_reached w.ask (input_got w.ask f.shown.store f.found.store) f.drawn

drew_later : (party : Party) (old new : World) (id : ℕ) → ComesAfter old new → IsTrue (drew_job party old.store.history id) → IsTrue (drew_job party new.store.history id)
drew_later party old new id after h =
    subst (λ (history : List Entry). IsTrue (drew_job party history id)) (sym after.history) (any_front (λ (e : Entry). party_eq party e.party && is_draw_of id e.event) old.store.history after.entries h)

-- A merge of newer jobs leaves what a poll reached, but for its jobs and the freed ones.
merged_kept : (p : PollState) (newer : List Jobs) → IsKept p (merged_with p newer)
merged_kept p [] = record { trees = refl; horizon = refl; steps = refl; done = refl; lost = refl; added = refl; dropped = refl; opened = refl; moved = refl; drained = refl; refused = refl }
merged_kept p (jobs ∷ newer) = on (merged_kept (merged_into p jobs) newer)
  where
    on : IsKept (merged_into p jobs) (merged_with (merged_into p jobs) newer) → IsKept p (merged_with (merged_into p jobs) newer)
    on k = record {
      trees = k.trees;
      horizon = k.horizon;
      steps = k.steps;
      done = k.done;
      lost = k.lost;
      added = k.added;
      dropped = k.dropped;
      opened = k.opened;
      moved = k.moved;
      drained = k.drained;
      refused = k.refused;
    }

none_freed : (p : PollState) (newer : List Jobs) → p.freed ≡ [] → (merged_with p newer).freed ≡ []
none_freed p [] none = none
none_freed p (jobs ∷ newer) none = none_freed (merged_into p jobs) newer refl

merged_freed : (p : PollState) (newer : List Jobs) → (merged_with p newer).freed ≡ freed_by p.freed newer
merged_freed p [] = refl
merged_freed p (jobs ∷ newer) = none_freed (merged_into p jobs) newer refl

-- The poll did what it is to do.
did : (w : Walk) (f : Found w) → ComesAfter f.mid w.last → (is_unchanged f.shown.store.manifest (reached w f) ≡ false → (others : List Step) → (reached w f).steps ≡ map Join (reached w f).done ++ others → CommitDone w.who f.shown (reached w f))
    → Rest w.who (reached w f) w.reported w.last → Goal w
did w f ends commits rest =
    let says = poll_says w.ask (input_got w.ask f.shown.store f.found.store) f.drawn (subst (Pairs (λ (a b : Job). a.id < b.id)) (sym (got_jobs f.found.store.records)) f.rise) in
    record {
      shown = f.shown;
      after = f.after;
      found = f.found;
      others = f.others;
      drawn = f.drawn;
      proposed = f.proposed;
      drew = all_to _ _ f.drawn (λ d there drew. drew_later w.who.party f.mid w.last d.0 ends drew) f.fresh.drawn;
      reached = reached w f;
      is = refl;
      says = says;
      commits = λ changed. commits changed says.others says.steps;
      newer = rest.newer;
      merged = rest.merged;
      keeps = subst (IsKept (reached w f)) (sym rest.merged) (merged_kept (reached w f) rest.newer);
      frees = ap (λ (q : PollState). q.freed) rest.merged ∙ merged_freed (reached w f) rest.newer;
      puts = rest.puts;
    }

-- From its put of the trees on, a poll that reports did what it says, if it does so after another try.
trees_put : (w : Walk) (f : Found w) (left seen : ℕ) (again : ℕ → Course (StepEnd PollState)) → Retries w again
    → Going w.who (puts_trees w.ask.epoch (reached w f) f.shown.store.manifest (records_or_none f.found.store.records) left seen again) f.mid w.last (Reports w.reported) → Goal w
trees_put w f left seen again retries going = by (is_unchanged f.shown.store.manifest p) refl going
  where
    p : PollState
    p = reached w f

    m : Manifest
    m = f.shown.store.manifest

    got : Records
    got = records_or_none f.found.store.records

    x : Exchange
    x = PutsManifest m.version (Commit p.steps) (record m { trees = p.trees; horizon = p.horizon })

    next : Store → Course (StepEnd PollState)
    next met = cond (m.version == met.manifest.version) (puts_polled w.ask.epoch p got most_refused 0) (again met.manifest.version)

    shown_mid : ComesAfter f.shown f.mid
    shown_mid = comes_then f.shown f.found f.mid
        (comes_met w.who f.shown (after_call w.who.line w.who.party (Plain GetManifest) None f.shown) f.found (comes_by w.who.line w.who.party (Plain GetManifest) None f.shown) f.others) f.later

    put : Gone w.who x next f.mid w.last (Reports w.reported) → Goal w
    put g = at (m.version == g.met.store.manifest.version) refl g.going
      where
        after : World
        after = after_call w.who.line w.who.party x None g.met

        mid_after : ComesAfter f.mid after
        mid_after = comes_called w.who x f.mid g.met (comes_met w.who f.mid f.mid g.met (comes_itself f.mid) g.rivals)

        at : (b : Bool) → (m.version == g.met.store.manifest.version) ≡ b → Going w.who (cond b (puts_polled w.ask.epoch p got most_refused 0) (again g.met.store.manifest.version)) after w.last (Reports w.reported) → Goal w
        at true equal going =
            let version : m.version ≡ g.met.store.manifest.version = (Decides-eqb m.version g.met.store.manifest.version).0 equal in
            let shown_met = comes_met w.who f.shown f.mid g.met shown_mid g.rivals in
            did w f (comes_then f.mid after w.last mid_after (runs_come w.who _ after w.last _ going.run))
            (λ changed others steps. commit_done w.who f.shown g.met p others w.lawful steps shown_met g.kept (sym (shown_met.later.manifest_stays version)) (g.call version))
            (rest_of w.who w.ask.epoch w.reported w.last w.keep most_refused 0 p f.found after (comes_then f.found f.mid after f.later mid_after) going)
        at false other going = retries g.met.store.manifest.version after (comes_then w.start f.shown after f.after (comes_then f.shown f.mid after shown_mid mid_after)) going

    by : (b : Bool) → is_unchanged m p ≡ b → Going w.who (cond b (puts_polled w.ask.epoch p got left seen) (puts_manifest m.version (Commit p.steps) (record m { trees = p.trees; horizon = p.horizon }) (puts_polled w.ask.epoch p got most_refused 0) again)) f.mid w.last (Reports w.reported) → Goal w
    by true same going = did w f (runs_come w.who _ f.mid w.last _ going.run) (λ changed. absurd (cc (same, changed))) (rest_of w.who w.ask.epoch w.reported w.last w.keep left seen p f.found f.mid f.later going)
    by false same going = put (goes w.who x next f.mid w.last (Reports w.reported) w.keep going)

-- A try of a poll that reports did what it says, if it does so after another try.
one_try : (w : Walk) (left seen : ℕ) (again : ℕ → Course (StepEnd PollState)) (world : World) → Retries w again → ComesAfter w.start world → Going w.who (poll_try w.ask left seen again) world w.last (Reports w.reported) → Goal w
one_try w left seen again world retries comes going = shown (goes w.who (Plain GetManifest) (λ s. after_manifest s.manifest) world w.last (Reports w.reported) w.keep going)
  where
    over : Manifest → Store → Course (StepEnd PollState)
    over manifest met = unless_fenced w.ask.epoch (records_or_none met.records).epoch (polls_over w.ask met.tables manifest (records_or_none met.records) (suc left) seen again)

    after_manifest : Manifest → Course (StepEnd PollState)
    after_manifest manifest = unless_fenced w.ask.epoch manifest.epoch (Calls (Plain GetRecords) (over manifest))

    shown : Gone w.who (Plain GetManifest) (λ s. after_manifest s.manifest) world w.last (Reports w.reported) → Goal w
    shown g = found (goes w.who (Plain GetRecords) (over m) first w.last (Reports w.reported) w.keep (unfenced w.who w.ask.epoch m.epoch (Calls (Plain GetRecords) (over m)) first w.last w.reported g.going))
      where
        m : Manifest
        m = g.met.store.manifest

        first : World
        first = after_call w.who.line w.who.party (Plain GetManifest) None g.met

        found : Gone w.who (Plain GetRecords) (over m) first w.last (Reports w.reported) → Goal w
        found h =
            let second = after_call w.who.line w.who.party (Plain GetRecords) None h.met in
            let input = input_got w.ask g.met.store h.met.store in
            let got = records_or_none h.met.store.records in
            let on = unfenced w.who w.ask.epoch got.epoch (polls_over w.ask h.met.store.tables m got (suc left) seen again) second w.last w.reported h.going in
            let d = draws_done w.who w.ask.moment [] (proposed_specs w.ask input (first_steps w.ask input)) (λ drawn. puts_trees w.ask.epoch (state_reached w.ask input drawn) m got (suc left) seen again) second w.last (Reports w.reported) w.keep
            (record { drawn = tt; fresh = tt; once = tt }) on in
            trees_put w (record {
              shown = g.met;
              after = comes_met w.who w.start world g.met comes g.rivals;
              found = h.met;
              others = h.rivals;
              rise = h.kept.stored.sound.job_ids;
              drawn = d.drawn;
              proposed = d.each;
              mid = d.mid;
              later = comes_then h.met second d.mid (comes_by w.who.line w.who.party (Plain GetRecords) None h.met) d.after;
              fresh = d.fresh;
            }) (suc left) seen again retries d.going

-- ---- all tries

tries_on : (w : Walk) (left : ℕ) → Retries w (counted_tries (poll_try w.ask) left)
tries_on w zero seen world comes going = absurd (cc (going.run.1))
tries_on w (suc left) seen world comes going = one_try w left seen (counted_tries (poll_try w.ask) left) world (tries_on w left) comes going

poll_did : (w : Walk) → Going w.who (poll w.ask) w.start w.last (Reports w.reported) → Goal w
unfolding poll
poll_did w going = tries_on w most_refused 0 w.start (comes_itself w.start) going

pub polls_report : PollsReport
polls_report who old new number ask local p lawful by kept holds run =
    poll_did (record { who = who; ask = ask; start = old; reported = p; last = new; keep = calls_keep who.merge lawful; lawful = lawful })
    (record { kept = kept; lawful = polls_are_lawful who old number ask local lawful by kept holds; run = run })
