-- A worker that fits also fits with fewer attempts, and with one more that fits.
use Rattle.std.proofs.Common.{◌≡◌, refl, sym, ◌∙◌, subst, ℕ, ◌<◌, List, [], ◌∷◌, cond, Bool, true, false, inl, inr, arith}
use Rattle.std.specs.Prelude.{IsTrue, not, filter, nat_lt}
use Rattle.std.specs.List.{AllByRecursion}
use Rattle.std.proofs.lemmas.Bool.{ltb-true, ltb-false}
use Rattle.row_model.specs.Lists.{Pairs}
use Rattle.row_model.specs.Fold.{Operator}
use Rattle.fleet_model.specs.Jobs.{JobSpec, contains, knows_cut}
use Rattle.fleet_model.specs.Store.{stored_jobs}
use Rattle.fleet_model.specs.Work.Parties.{Attempt, LiveWorker, is_live, live_attempts, without_attempts, put_attempt}
use Rattle.fleet_model.specs.Invariants.AttemptsFit.{LiveFits, AttemptStands}
use Rattle.step_model.specs.Past.{World}
use Rattle.step_model.specs.Kept.Faithful.{Faithful}
use Rattle.step_model.specs.Kept.TablesKept.{AreApart}
use Rattle.step_model.specs.Fits.{AttemptHeld, NotesOwn, WorkerHolds, noted_tables}
use Rattle.step_laws.proofs.Elements.{IsIn, all_at, all_from, all_to, in_contains}
use Rattle.step_laws.proofs.Deletions.{in_filter}
use Rattle.step_laws.proofs.TableReplays.{all_filter}
use Rattle.step_laws.proofs.OwnTables.{apart_from, apart_at}
use Rattle.rival_laws.proofs.WorkerFollows.{from_filter}
use Rattle.course_laws.proofs.Calls.{pairs_filter}

-- ---- fewer attempts

-- Elements that pass a test are still pairwise related after some elements are left out of the list.
pairs_fewer : {A : Type 0} (R : A → A → Type 0) (p keep : A → Bool) (xs : List A) → Pairs R (filter p xs) → Pairs R (filter p (filter keep xs))
pairs_fewer R p keep [] h = tt
pairs_fewer {A} R p keep (x ∷ xs) h = by (p x) refl (keep x) (λ rest. pairs_fewer R p keep xs rest) h
  where
    some : AllByRecursion (R x) (filter p xs) → AllByRecursion (R x) (filter p (filter keep xs))
    some all = all_from _ (filter p (filter keep xs)) (λ y there.
        let one = from_filter p (filter keep xs) y there in
        all_at (R x) (filter p xs) y all (in_filter p xs y (from_filter keep xs y one.0).0 one.1))

    kept : (b : Bool) → Pairs R (filter p (filter keep xs)) → AllByRecursion (R x) (filter p (filter keep xs)) → Pairs R (cond b (x ∷ filter p (filter keep xs)) (filter p (filter keep xs)))
    kept true rest all = (all, rest)
    kept false rest all = rest

    by : (b : Bool) → p x ≡ b → (k : Bool) → (Pairs R (filter p xs) → Pairs R (filter p (filter keep xs))) → Pairs R (cond b (x ∷ filter p xs) (filter p xs)) → Pairs R (filter p (cond k (x ∷ filter keep xs) (filter keep xs)))
    by true e true rest h = kept (p x) (rest h.1) (some h.0)
    by true e false rest h = rest h.1
    by false e true rest h = subst (λ b. Pairs R (cond b (x ∷ filter p (filter keep xs)) (filter p (filter keep xs)))) (sym e) (rest h)
    by false e false rest h = rest h

-- A worker that fits also fits with some of its attempts.
pub holds_fewer : (merge : Operator) (world : World) (w : LiveWorker) (keep : Attempt → Bool) → WorkerHolds merge world w → WorkerHolds merge world (record w { attempts = filter keep w.attempts })
holds_fewer merge world w keep h = record {
  fits = λ specs faithful.
      let f = h.fits specs faithful in
      record { cuts = all_filter _ keep w.attempts f.cuts; each = all_filter _ keep w.attempts f.each; live = live_some _ f.live };
  each = all_filter _ keep w.attempts h.each;
  jobs_rise = pairs_filter _ keep w.attempts h.jobs_rise;
  own = live_some _ h.own;
  apart = pairs_fewer _ (is_live (stored_jobs world.store) w.number) keep w.attempts h.apart;
}
  where
    live_some : (P : Attempt → Type 0) → AllByRecursion P (live_attempts (stored_jobs world.store) w) → AllByRecursion P (filter (is_live (stored_jobs world.store) w.number) (filter keep w.attempts))
    live_some P all = all_from P _ (λ a there.
        let one = from_filter (is_live (stored_jobs world.store) w.number) (filter keep w.attempts) a there in
        all_at P (live_attempts (stored_jobs world.store) w) a all (in_filter (is_live (stored_jobs world.store) w.number) w.attempts a (from_filter keep w.attempts a one.0).0 one.1))

-- ---- one more attempt

pub all_put : (P : Attempt → Type 0) (a : Attempt) (xs : List Attempt) → P a → AllByRecursion P xs → AllByRecursion P (put_attempt a xs)
all_put P a [] one all = (one, tt)
all_put P a (b ∷ xs) one all = by (nat_lt a.job b.job) (all_put P a xs one all.1)
  where
    by : (c : Bool) → AllByRecursion P (put_attempt a xs) → AllByRecursion P (cond c (a ∷ b ∷ xs) (b ∷ put_attempt a xs))
    by true rest = (one, all)
    by false rest = (all.0, rest)

-- Attempts by rising job stay so with one more attempt, which is at a job of its own.
rise_put : (a : Attempt) (xs : List Attempt) → AllByRecursion (λ b. b.job ≡ a.job → ⊥) xs → Pairs (λ a b. a.job < b.job) xs → Pairs (λ a b. a.job < b.job) (put_attempt a xs)
rise_put a [] new rise = (tt, tt)
rise_put a (b ∷ xs) new rise = by (nat_lt a.job b.job) refl (rise_put a xs new.1 rise.1)
  where
    above : b.job < a.job → AllByRecursion (λ c. b.job < c.job) (put_attempt a xs)
    above low = all_put (λ c. b.job < c.job) a xs low rise.0

    by : (c : Bool) → nat_lt a.job b.job ≡ c → Pairs (λ a b. a.job < b.job) (put_attempt a xs) → Pairs (λ a b. a.job < b.job) (cond c (a ∷ b ∷ xs) (b ∷ put_attempt a xs))
    by true e rest = let low = ltb-true a.job b.job e in ((low, all_to _ _ xs (λ c there up. omega (arith, low, up)) rise.0), rise)
    by false e rest = (above (higher (nat_lt b.job a.job) refl), rest)
      where
        higher : (d : Bool) → nat_lt b.job a.job ≡ d → b.job < a.job
        higher true f = ltb-true b.job a.job f
        higher false f = let one = ltb-false a.job b.job e in let other = ltb-false b.job a.job f in absurd (new.0 (omega (arith, one, other)))

all_put_live : (P : Attempt → Type 0) (p : Attempt → Bool) (a : Attempt) (xs : List Attempt) → (p a ≡ true → P a) → AllByRecursion P (filter p xs) → AllByRecursion P (filter p (put_attempt a xs))
all_put_live P p a xs one all = all_from P (filter p (put_attempt a xs)) (λ x there.
    let found = from_filter p (put_attempt a xs) x there in
    (all_at (λ y. p y ≡ true → P y) (put_attempt a xs) x (all_put (λ y. p y ≡ true → P y) a xs one (all_from _ xs (λ y other e. all_at P (filter p xs) y all (in_filter p xs y other e)))) found.0) found.1)

-- With one more, attempts that pass a test stay pairwise related, if it is related to each both ways or fails the test.
pairs_put : (R : Attempt → Attempt → Type 0) (p : Attempt → Bool) (a : Attempt) (xs : List Attempt) → (p a ≡ true → (b : Attempt) → IsIn b (filter p xs) → R a b × R b a) → Pairs R (filter p xs) → Pairs R (filter p (put_attempt a xs))
pairs_put R p a [] both h = by (p a)
  where
    by : (c : Bool) → Pairs R (cond c (a ∷ []) [])
    by true = (tt, tt)
    by false = tt
pairs_put R p a (b ∷ xs) both h = by (nat_lt a.job b.job) (p b) refl (p a) refl (λ more rest. pairs_put R p a xs more rest) h
  where
    F : List Attempt
    F = filter p xs

    G : List Attempt
    G = filter p (put_attempt a xs)

    first : (c : Bool) → p a ≡ c → (d : Bool) → p b ≡ d → Pairs R (cond d (b ∷ F) F) → Pairs R (cond c (a ∷ cond d (b ∷ F) F) (cond d (b ∷ F) F))
    first true e d f h = (all_from (R a) (cond d (b ∷ F) F) (λ x there. (both e x (subst (λ c. IsIn x (cond c (b ∷ F) F)) (sym f) there)).0), h)
    first false e d f h = h

    back : (d : Bool) → p b ≡ d → (p a ≡ true → (x : Attempt) → IsIn x F → R a x × R x a)
    back true f e x there = both e x (subst (λ c. IsIn x (cond c (b ∷ F) F)) (sym f) (inr there))
    back false f e x there = both e x (subst (λ c. IsIn x (cond c (b ∷ F) F)) (sym f) there)

    second : (d : Bool) → p b ≡ d → ((p a ≡ true → (x : Attempt) → IsIn x F → R a x × R x a) → Pairs R F → Pairs R G) → Pairs R (cond d (b ∷ F) F) → Pairs R (cond d (b ∷ G) G)
    second true f go h = (
      all_put_live (R b) p a xs (λ e. (both e b (subst (λ c. IsIn b (cond c (b ∷ F) F)) (sym f) (inl refl))).1) h.0,
      go (back true f) h.1,
    )
    second false f go h = go (back false f) h

    by : (low d : Bool) → p b ≡ d → (c : Bool) → p a ≡ c → ((p a ≡ true → (x : Attempt) → IsIn x F → R a x × R x a) → Pairs R F → Pairs R G) → Pairs R (cond d (b ∷ F) F)
        → Pairs R (filter p (cond low (a ∷ b ∷ xs) (b ∷ put_attempt a xs)))
    by true d f c e go h = subst (λ x. Pairs R (cond x (a ∷ filter p (b ∷ xs)) (filter p (b ∷ xs)))) (sym e) (subst (λ y. Pairs R (cond c (a ∷ cond y (b ∷ F) F) (cond y (b ∷ F) F))) (sym f) (first c e d f h))
    by false d f c e go h = subst (λ y. Pairs R (cond y (b ∷ G) G)) (sym f) (second d f go h)

-- What an attempt has to have, so that a worker that fits may run it too.
pub record Added (merge : Operator) (world : World) (w : LiveWorker) (a : Attempt) : Type 0 where
  pub cut : a.context.has_cut ≡ knows_cut w.release
  pub stands : (specs : ℕ → JobSpec) → Faithful world specs → AttemptStands merge world.store specs a
  pub live : (specs : ℕ → JobSpec) → Faithful world specs → is_live (stored_jobs world.store) w.number a ≡ true → LiveFits merge world.store specs a
  pub held : AttemptHeld world w.number a
  pub new : AllByRecursion (λ b. b.job ≡ a.job → ⊥) w.attempts
  pub own : is_live (stored_jobs world.store) w.number a ≡ true → NotesOwn world w.number a
  pub apart : is_live (stored_jobs world.store) w.number a ≡ true → (b : Attempt) → IsIn b (live_attempts (stored_jobs world.store) w) → AreApart (noted_tables a) (noted_tables b)

pub turned : (xs ys : List ℕ) → AreApart xs ys → AreApart ys xs
turned xs ys h = apart_from ys xs (λ t one other. apart_at xs ys t h other one)

-- A worker that fits also fits with one more attempt.
pub holds_added : (merge : Operator) (world : World) (w : LiveWorker) (a : Attempt) → Added merge world w a → WorkerHolds merge world w → WorkerHolds merge world (record w { attempts = put_attempt a w.attempts })
holds_added merge world w a n h =
    let live = is_live (stored_jobs world.store) w.number in
    record {
      fits = λ specs faithful.
          let f = h.fits specs faithful in
          record {
            cuts = all_put _ a w.attempts n.cut f.cuts;
            each = all_put _ a w.attempts (n.stands specs faithful) f.each;
            live = all_put_live _ live a w.attempts (n.live specs faithful) f.live;
          };
      each = all_put _ a w.attempts n.held h.each;
      jobs_rise = rise_put a w.attempts n.new h.jobs_rise;
      own = all_put_live _ live a w.attempts n.own h.own;
      apart = pairs_put (λ x y. AreApart (noted_tables x) (noted_tables y)) live a w.attempts (λ e b there. let one = n.apart e b there in (one, turned (noted_tables a) (noted_tables b) one)) h.apart;
    }

-- ---- two live attempts

-- Two live attempts have noted no table in common.
pub apart_two : (xs : List Attempt) (a b : Attempt) → Pairs (λ x y. AreApart (noted_tables x) (noted_tables y)) xs → IsIn a xs → IsIn b xs → (a ≡ b → ⊥) → AreApart (noted_tables a) (noted_tables b)
apart_two [] a b h one other differs = absurd one
apart_two (x ∷ xs) a b h (inl first) (inl second) differs = absurd (differs (sym first ∙ second))
apart_two (x ∷ xs) a b h (inl first) (inr other) differs = subst (λ (y : Attempt). AreApart (noted_tables y) (noted_tables b)) first (all_at _ xs b h.0 other)
apart_two (x ∷ xs) a b h (inr one) (inl second) differs = turned (noted_tables b) (noted_tables a) (subst (λ (y : Attempt). AreApart (noted_tables y) (noted_tables a)) second (all_at _ xs a h.0 one))
apart_two (x ∷ xs) a b h (inr one) (inr other) differs = apart_two xs a b h.1 one other differs

-- An attempt that is left without those of a job is at another job.
pub left_other : (job : ℕ) (attempts : List Attempt) (b : Attempt) → IsIn b (without_attempts (job ∷ []) attempts) → IsIn b attempts × (b.job ≡ job → ⊥)
left_other job attempts b there =
    let found = from_filter (λ (a : Attempt). not (contains (job ∷ []) a.job)) attempts b there in
    (found.0, λ same. refused (contains (job ∷ []) b.job) found.1 (in_contains (job ∷ []) b.job (inl (sym same))))
  where
    refused : (c : Bool) → not c ≡ true → IsTrue c → ⊥
    refused true e h = absurd (cc e)
    refused false e h = absurd (cc h)
