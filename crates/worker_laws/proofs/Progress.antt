-- A worker fits after progress of an attempt: the attempt has noted more tables for its ranges.
use Rattle.std.proofs.Common.{◌≡◌, refl, sym, ◌∙◌, ap, subst, ℕ, List, [], ◌∷◌, ◌++◌, Bool, true, false, inr, Some}
use Rattle.std.specs.Prelude.{IsTrue, not, map, flat_map}
use Rattle.std.specs.List.{AllZip, AllByRecursion}
use Rattle.std.proofs.lemmas.List.{append_assoc}
use Rattle.row_model.specs.Lists.{IsPrefixOf}
use Rattle.row_model.specs.Fold.{Operator}
use Rattle.row_model.specs.Settings.{Settings}
use Rattle.row_model.specs.Ranges.{Range}
use Rattle.fleet_model.specs.Jobs.{JobSpec, Job, Context, contains, job_with}
use Rattle.fleet_model.specs.History.{Worker}
use Rattle.fleet_model.specs.Store.{stored_jobs, is_held, AreHeld}
use Rattle.fleet_model.specs.Work.Attempts.{range_rows, noted_rows}
use Rattle.fleet_model.specs.Work.Parties.{Attempt, LiveWorker, is_live, live_attempts, without_attempts}
use Rattle.fleet_model.specs.Sweeps.{attempt_tables}
use Rattle.fleet_model.specs.Past.Claimed.{IsClaimed}
use Rattle.fleet_model.specs.Invariants.AttemptsFit.{Extends, AttemptFits, TablesFit}
use Rattle.step_model.specs.Past.{World}
use Rattle.step_model.specs.Kept.Keeps.{Keeps}
use Rattle.step_model.specs.LawfulTables.{MayUse}
use Rattle.step_model.specs.Kept.TablesKept.{AreApart}
use Rattle.step_model.specs.Fits.{WorkerHolds, noted_tables}
use Rattle.step_model.specs.Steps.MessageSteps.{with_context}
use Rattle.step_laws.proofs.Elements.{IsIn, all_at, all_from, all_to, all_append, all_front, all_back, all_true_front, all_true_from, in_contains}
use Rattle.step_laws.proofs.Deletions.{in_filter}
use Rattle.step_laws.proofs.MuteBodies.{if_some_to}
use Rattle.step_laws.proofs.OwnTables.{apart_from, apart_at}
use Rattle.rival_laws.proofs.FreeTables.{free_own, refused}
use Rattle.rival_laws.proofs.WorkerFollows.{from_filter}
use Rattle.course_laws.specs.Messages.{IsUnused}
use Rattle.worker_laws.specs.Messages.{GoesOn, ProgressFits}
use Rattle.worker_laws.proofs.Attempts.{Added, holds_fewer, holds_added, apart_two, left_other}

-- ---- ranges that go on

-- The ranges stay.
ranges_stay : (merge : Operator) (world : World) (w : LiveWorker) (a : Attempt) (old now : List (Range × List ℕ)) → AllZip (GoesOn merge world w a) old now → map (λ range. range.0) now ≡ map (λ range. range.0) old
ranges_stay merge world w a [] [] each = refl
ranges_stay merge world w a [] (n ∷ now) each = absurd each
ranges_stay merge world w a (o ∷ old) [] each = absurd each
ranges_stay merge world w a (o ∷ old) (n ∷ now) each =
    let first = each.0.range in
    let rest = ranges_stay merge world w a old now each.1 in
    λ i. first i ∷ rest i

-- What the noted tables have and unused ones have, all tables have that are noted now.
tables_now : (P : ℕ → Type 0) (merge : Operator) (world : World) (w : LiveWorker) (a : Attempt) → ((table : ℕ) → IsUnused world w table → P table) → (old now : List (Range × List ℕ)) → AllZip (GoesOn merge world w a) old now
    → AllByRecursion P (flat_map (λ (range : Range × List ℕ). range.1) old) → AllByRecursion P (flat_map (λ (range : Range × List ℕ). range.1) now)
tables_now P merge world w a have [] [] each all = tt
tables_now P merge world w a have [] (n ∷ now) each all = absurd each
tables_now P merge world w a have (o ∷ old) [] each all = absurd each
tables_now P merge world w a have (o ∷ old) (n ∷ now) each all =
    all_append P n.1 _ (subst (AllByRecursion P) (sym each.0.begins) (all_append P o.1 each.0.new (all_front P o.1 _ all) (all_to (IsUnused world w) P each.0.new (λ table there one. have table one) each.0.unused)))
    (tables_now P merge world w a have old now each.1 (all_back P o.1 _ all))

first_rows : (merge : Operator) (world : World) (w : LiveWorker) (a : Attempt) (old now : List (Range × List ℕ)) → AllZip (GoesOn merge world w a) old now
    → AllByRecursion (λ range. IsPrefixOf (noted_rows world.store.tables range.1) (range_rows merge world.store.tables a.context.settings a.sources range.0).rows) now
first_rows merge world w a [] [] each = tt
first_rows merge world w a [] (n ∷ now) each = absurd each
first_rows merge world w a (o ∷ old) [] each = absurd each
first_rows merge world w a (o ∷ old) (n ∷ now) each = (each.0.first, first_rows merge world w a old now each.1)

-- What the old ranges extend, the new ones extend too.
extends_on : (merge : Operator) (world : World) (w : LiveWorker) (a : Attempt) (published old now : List (Range × List ℕ)) → AllZip (GoesOn merge world w a) old now → Extends published old → Extends published now
extends_on merge world w a [] [] [] each h = tt
extends_on merge world w a [] [] (n ∷ now) each h = absurd each
extends_on merge world w a published (o ∷ old) [] each h = absurd each
extends_on merge world w a [] (o ∷ old) (n ∷ now) each h = absurd h
extends_on merge world w a (p ∷ published) [] [] each h = absurd h
extends_on merge world w a (p ∷ published) [] (n ∷ now) each h = absurd each
extends_on merge world w a (p ∷ published) (o ∷ old) (n ∷ now) each h = (
  h.0 ∙ sym each.0.range,
  (h.1.0 ++ each.0.new, sym (append_assoc p.1 h.1.0 each.0.new) ∙ ap (λ (xs : List ℕ). xs ++ each.0.new) h.1.1 ∙ sym each.0.begins),
  extends_on merge world w a published old now each.1 h.2,
)

-- ---- the attempt with these ranges

-- The attempt with other ranges.
abbrev with_ranges : List (Range × List ℕ) → Attempt → Attempt
with_ranges ranges a = record a { context = record a.context { ranges = ranges } }

claimed_on : (now : World) (specs : ℕ → JobSpec) (job number : ℕ) (a : Attempt) (ranges : List (Range × List ℕ)) → map (λ range. range.0) ranges ≡ map (λ range. range.0) a.context.ranges → IsClaimed now.store specs job number a.context
    → IsClaimed now.store specs job number (with_ranges ranges a).context
claimed_on now specs job number a ranges same c = record { settings = c.settings; ranges = c.ranges ∙ ap Some (sym same) }

-- What the attempt has, it has with the ranges that go on.
progressed : (merge : Operator) (world : World) (w : LiveWorker) (a : Attempt) (ranges : List (Range × List ℕ)) → Keeps merge world → WorkerHolds merge world w → IsIn a w.attempts → AllZip (GoesOn merge world w a) a.context.ranges ranges
    → Added merge world (record w { attempts = without_attempts (a.job ∷ []) w.attempts }) (with_ranges ranges a)
progressed merge world w a ranges kept h runs each = record {
  cut = all_at _ w.attempts a (h.fits kept.stored.replay.specs kept.faithful).cuts runs;
  stands = λ specs faithful.
      let one = all_at _ w.attempts a (h.fits specs faithful).each runs in
      record {
        claimed = claimed_on world specs a.job a.number a ranges same one.claimed;
        held = all_true_from (is_held world.store) (attempt_tables (with_ranges ranges a)) (all_append _ a.sources _ (all_front _ a.sources _ (held one.held))
            (tables_now _ merge world w a (λ table one. one.held) a.context.ranges ranges each (all_back _ a.sources _ (held one.held))));
        tables = rows;
      };
  live = λ specs faithful lives. if_some_to _ _ (job_with a.job (stored_jobs world.store)) (λ job one. live specs job one)
      (all_at _ (live_attempts (stored_jobs world.store) w) a (h.fits specs faithful).live (in_filter (is_live (stored_jobs world.store) w.number) w.attempts a runs lives));
  held = let one = all_at _ w.attempts a h.each runs in record { counted = one.counted; claimed = one.claimed; ordered = one.ordered; sources = one.sources };
  new = all_from _ (without_attempts (a.job ∷ []) w.attempts) (λ b there. (left_other a.job w.attempts b there).1);
  own = λ lives. if_some_to _ _ (job_with a.job (stored_jobs world.store))
      (λ job all. tables_now (MayUse (Worker w.number) world job) merge world w a (λ table one. inr (free_own (Worker w.number) world job.id table one.free)) a.context.ranges ranges each all)
      (all_at _ (live_attempts (stored_jobs world.store) w) a h.own (in_filter (is_live (stored_jobs world.store) w.number) w.attempts a runs lives));
  apart = λ lives b there. apart lives b (from_filter (is_live (stored_jobs world.store) w.number) (without_attempts (a.job ∷ []) w.attempts) b there);
}
  where
    same : map (λ range. range.0) ranges ≡ map (λ range. range.0) a.context.ranges
    same = ranges_stay merge world w a a.context.ranges ranges each

    rows : TablesFit merge world.store.tables a.sources (with_ranges ranges a).context
    rows = first_rows merge world w a a.context.ranges ranges each

    held : AreHeld world.store (attempt_tables a) → AllByRecursion (λ id. IsTrue (is_held world.store id)) (attempt_tables a)
    held all = all_true_front (is_held world.store) (attempt_tables a) all

    live : (specs : ℕ → JobSpec) (job : Job) → AttemptFits merge world.store specs job a → AttemptFits merge world.store specs job (with_ranges ranges a)
    live specs job one = record {
      sources = one.sources;
      context = record {
        claimed = claimed_on world specs job.id job.attempt a ranges same one.context.claimed;
        settings = one.context.settings;
        cut = one.context.cut;
        ranges = (one.context.ranges.0, same ∙ one.context.ranges.1);
        tables = subst (λ ids. TablesFit merge world.store.tables ids (with_ranges ranges a).context) one.sources rows;
      };
      published = if_some_to _ _ job.context (λ c ext. record { settings = ext.settings; ranges = extends_on merge world w a c.ranges a.context.ranges ranges each ext.ranges }) one.published;
    }

    apart : is_live (stored_jobs world.store) w.number a ≡ true → (b : Attempt) → IsIn b (without_attempts (a.job ∷ []) w.attempts) × (is_live (stored_jobs world.store) w.number b ≡ true)
        → AreApart (noted_tables (with_ranges ranges a)) (noted_tables b)
    apart lives b found =
        let other = left_other a.job w.attempts b found.0 in
        let two = apart_two (live_attempts (stored_jobs world.store) w) a b h.apart (in_filter (is_live (stored_jobs world.store) w.number) w.attempts a runs lives)
        (in_filter (is_live (stored_jobs world.store) w.number) w.attempts b other.0 found.1) (λ same. other.1 (ap (λ (x : Attempt). x.job) (sym same))) in
        apart_from (noted_tables (with_ranges ranges a)) (noted_tables b) (λ t one. all_at (λ t. IsIn t (noted_tables b) → ⊥) (noted_tables (with_ranges ranges a)) t
        (tables_now (λ t. IsIn t (noted_tables b) → ⊥) merge world w a
        (λ table unused noted. refused (contains (noted_tables b) table) (all_at (λ (x : Attempt). contains (noted_tables x) table ≡ false) w.attempts b unused.unnoted other.0) (in_contains (noted_tables b) table noted))
        a.context.ranges ranges each (all_from _ (noted_tables a) (λ t there more. apart_at (noted_tables a) (noted_tables b) t two there more))) one)

-- A worker that fits also fits after progress of an attempt that it runs.
pub progress_holds : (merge : Operator) (world : World) (w : LiveWorker) (a : Attempt) (context : Context) → Keeps merge world → WorkerHolds merge world w → IsIn a w.attempts → ProgressFits merge world w context a
    → WorkerHolds merge world (record w { attempts = with_context context a w.attempts })
progress_holds merge world w a context kept h runs p =
    let fewer = holds_fewer merge world w (λ (b : Attempt). not (contains (a.job ∷ []) b.job)) h in
    subst (λ (c : Context). WorkerHolds merge world (record w { attempts = with_context c a w.attempts })) (is context.settings context.has_cut p.settings p.has_cut)
    (holds_added merge world (record w { attempts = without_attempts (a.job ∷ []) w.attempts }) (with_ranges context.ranges a) (progressed merge world w a context.ranges kept h runs p.ranges) fewer)
  where
    is : (settings : Settings) (has_cut : Bool) → settings ≡ a.context.settings → has_cut ≡ a.context.has_cut → record a.context { ranges = context.ranges } ≡ record { settings = settings; has_cut = has_cut; ranges = context.ranges }
    is settings has_cut e f = λ i. record { settings = sym e i; has_cut = sym f i; ranges = context.ranges }
