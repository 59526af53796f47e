-- The invariant holds by each faithful choice of specs.
use Rattle.std.proofs.Common.{◌≡◌, ◌≢◌, refl, sym, ◌∙◌, ap, subst, ℕ, List, [], ◌∷◌, cond, Bool, true, false, inl, inr, Some}
use Rattle.std.specs.Prelude.{IsTrue, find, ◌==◌, ◌&&◌}
use Rattle.std.specs.List.{AllByRecursion}
use Rattle.std.proofs.lemmas.List.{append-nil}
use Rattle.std.proofs.lemmas.Bool.Decides.{Decides-eqb}
use Rattle.row_model.specs.Lists.{Pairs}
use Rattle.row_model.specs.Fold.{Operator}
use Rattle.fleet_model.specs.Jobs.{JobSpec, Job, Context, contains}
use Rattle.fleet_model.specs.History.{Party, Event, DrawJob, Entry}
use Rattle.fleet_model.specs.Store.{Store, stored_jobs, fresh_store}
use Rattle.fleet_model.specs.Past.Replay.{plain_objects}
use Rattle.fleet_model.specs.Work.Records.{firsts}
use Rattle.fleet_model.specs.Invariants.JobsFit.{OutputsFit}
use Rattle.fleet_model.specs.Invariants.AttemptsFit.{ContextFits}
use Rattle.step_model.specs.Past.{World}
use Rattle.step_model.specs.Entries.{drawn_jobs, job_drawn_in, is_draw_of, drew_job, party_eq}
use Rattle.step_model.specs.Kept.Faithful.{Faithful, with_specs, spec_or}
use Rattle.step_laws.proofs.Elements.{IsIn, all_at, all_from, all_to, Passes, any_element, is_itself, in_contains, in_front, in_back}
use Rattle.step_laws.proofs.Alike.{SameReplays, replays_alike, settings_same}
use Rattle.step_laws.proofs.Bodies.{JobFits, JobKept, Body}
use Rattle.step_laws.proofs.MuteBodies.{if_some_to}

-- What the invariant says of a job by some specs it says by others with the same replays and the same spec of the job.
fits_by : (merge : Operator) (store : Store) (one other : ℕ → JobSpec) (job : Job) → SameReplays store.tables one store.tables other store.history (plain_objects fresh_store) (plain_objects fresh_store) → one job.id ≡ other job.id
    → JobFits merge store one job → JobFits merge store other job
fits_by merge store one other job same spec h = record {
  sources = h.sources;
  context = record { there = h.context.there; fits = if_some_to (ContextFits merge store one job) (ContextFits merge store other job) job.context context h.context.fits };
  outputs = λ compacted. outputs (h.outputs compacted);
  tables = h.tables;
}
  where
    context : (c : Context) → ContextFits merge store one job c → ContextFits merge store other job c
    context c fits = record {
      claimed = record { settings = sym (settings_same store.tables store.tables one other store.history job.id job.attempt same spec) ∙ fits.claimed.settings; ranges = fits.claimed.ranges };
      settings = fits.settings;
      cut = fits.cut;
      ranges = fits.ranges;
      tables = fits.tables;
    }

    outputs : OutputsFit merge store one job → OutputsFit merge store other job
    outputs fits = record {
      settings = fits.settings;
      claimed = sym (settings_same store.tables store.tables one other store.history job.id job.attempt same spec) ∙ fits.claimed;
      cut = fits.cut;
      at_most_floor = fits.at_most_floor;
      fit = fits.fit;
      rows = fits.rows;
    }

-- If `Body` holds by some specs, it holds by all faithful ones.
pub body_by : (merge : Operator) (world : World) (one other : ℕ → JobSpec) → Body merge world one → Faithful world other → Body merge world other
body_by merge world one other b f =
    let same = replays_alike world one other b.faithful f in
    record {
      sound = b.sound;
      trees = b.trees;
      held_once = b.held_once;
      pieces = b.pieces;
      flushes = b.flushes;
      reads = b.reads;
      objects = b.objects ∙ same world.store.history [] (append-nil world.store.history);
      faithful = f;
      mentioned = b.mentioned;
      trimmed_already = b.trimmed_already;
      up_to = b.up_to;
      planned = b.planned;
      once = b.once;
      nodes = b.nodes;
      name_apart = b.name_apart;
      joined = b.joined;
      epochs = b.epochs;
      past = b.past;
      jobs = all_to (JobKept merge world one) (JobKept merge world other) (stored_jobs world.store) (λ job there kept. record {
        fits = fits_by merge world.store one other job same (kept.spec one b.faithful ∙ sym (kept.spec other f)) kept.fits;
        facts = kept.facts;
        spec = kept.spec;
      }) b.jobs;
    }

-- ---- named specs

-- Specs with named ones in place agree with those, where each job is named once.
pub named_agree : (named : List (ℕ × JobSpec)) (specs : ℕ → JobSpec) → Pairs (λ p q. p.0 ≢ q.0) named → AllByRecursion (λ p. with_specs named specs p.0 ≡ p.1) named
named_agree named specs once = all_from _ named (λ p there. ap (spec_or (specs p.0)) (found named p once there))
  where
    found : (xs : List (ℕ × JobSpec)) (p : ℕ × JobSpec) → Pairs (λ p q. p.0 ≢ q.0) xs → IsIn p xs → find (λ q. p.0 == q.0) xs ≡ Some p
    found [] p once there = absurd there
    found (q ∷ xs) p once (inl same) =
        subst (λ (r : ℕ × JobSpec). find (λ s. r.0 == s.0) (q ∷ xs) ≡ Some r) same (ap (λ b. cond b (Some q) (find (λ (s : ℕ × JobSpec). q.0 == s.0) xs)) (is_itself q.0))
    found (q ∷ xs) p once (inr there) = by (p.0 == q.0) refl (found xs p once.1 there)
      where
        by : (b : Bool) → (p.0 == q.0) ≡ b → find (λ r. p.0 == r.0) xs ≡ Some p → cond b (Some q) (find (λ r. p.0 == r.0) xs) ≡ Some p
        by true e rest = absurd (all_at (λ r. q.0 ≢ r.0) xs p once.0 there (sym ((Decides-eqb p.0 q.0).0 e)))
        by false e rest = rest

-- ---- draws that parties made

-- An id that a party drew for a job is among the ids drawn for jobs.
drawn_by : (party : Party) (history : List Entry) (id : ℕ) → IsTrue (drew_job party history id) → IsIn id (drawn_jobs history)
drawn_by party history id h = at history (any_element (λ (e : Entry). party_eq party e.party && is_draw_of id e.event) history h)
  where
    draw : (own : Bool) (event : Event) → (own && is_draw_of id event) ≡ true → IsIn id (job_drawn_in event)
    draw true (DrawJob other) e = inl (sym ((Decides-eqb id other).0 e))
    draw false event e = absurd (cc e)
    draw true event e = absurd (cc e)

    after : (es : List Entry) (x : Entry) → IsIn x es → IsIn id (job_drawn_in x.event) → IsIn id (drawn_jobs es)
    after [] x there one = absurd there
    after (y ∷ es) x (inl same) one = in_front id (job_drawn_in y.event) (drawn_jobs es) (rw same one)
    after (y ∷ es) x (inr there) one = in_back id (job_drawn_in y.event) (drawn_jobs es) (after es x there one)

    at : (es : List Entry) → Passes (λ (e : Entry). party_eq party e.party && is_draw_of id e.event) es → IsIn id (drawn_jobs es)
    at es found = after es found.element found.there (draw (party_eq party found.element.party) found.element.event found.passes)

pub drew_drawn : (party : Party) (history : List Entry) (id : ℕ) → IsTrue (drew_job party history id) → IsTrue (contains (drawn_jobs history) id)
drew_drawn party history id h = in_contains (drawn_jobs history) id (drawn_by party history id h)

pub all_firsts : {A : Type 0} (P : ℕ → Type 0) (pairs : List (ℕ × A)) → AllByRecursion (λ p. P p.0) pairs → AllByRecursion P (firsts pairs)
all_firsts P [] h = tt
all_firsts P (p ∷ pairs) h = (h.0, all_firsts P pairs h.1)
