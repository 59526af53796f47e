-- A filter that is shown one row after the other.
use Rattle.std.proofs.Common.{◌≡◌, ◌≢◌, ◌∙◌, sym, refl, ap, subst, ℕ, List, [], ◌∷◌, ◌++◌, ◌&&◌, Bool, true, false, Option, Some, None, Result, Ok, Err}
use Rattle.std.proofs.lemmas.Bool.{true_from_ne_false}
use Rattle.std.specs.List.{AllByRecursion}
use Rattle.std.specs.Ordering.{is_gt}
use Rattle.row_model.specs.Rows.{Row, key_cmp}
use Rattle.fleet_rows.specs.declared.errors.CompactionFilterError.{CompactionFilterError}
use Rattle.fleet_fold.specs.declared.filter.CompactionFilterDecision.{CompactionFilterDecision}
use Rattle.fleet_fold.specs.declared.filter.CompactionFilterDecision.TheVariants.{Keep, Drop, Modify}
use Rattle.fleet_rows.specs.Errors.{raised_by_filter}
use Rattle.fleet_rows.specs.declared.row.RowEntry.{RowEntry}
use Rattle.fleet_rows.specs.declared.errors.CompactionFilterError.TheVariants as filter
use Rattle.fleet_rows.specs.declared.errors.SlateDBError.{SlateDBError}
use Rattle.fleet_iter.specs.Iteration.{IteratorState, AreRising, KeepsRefusal, Moves, Nexts, NextAnswers, Seeks, is_exact, without_first}
use Rattle.fleet_iter.specs.Resume.{is_written}
use Rattle.fleet_iter.proofs.Failures.{next_refused, seek_refused}
use Rattle.fleet_iter.proofs.RisingRows.{moves_alive, moves_rising}
use Rattle.fleet_fold.specs.Retention.{IsReadable, from_ahead}
use Rattle.fleet_fold.specs.Filter.{Answers, Closing, GoesOn, Filtered, IsStated, Refuses, Knows, KnowsUnlessFailed, FiltersSeeTheKey, decided_rows, before_refused, filtered_rows, filtering}

filtered_alike : (a b : Answers) (e f : Closing) → ((seen : List Row) (q : Row) → a seen q ≡ b seen q) → ((seen : List Row) → e seen ≡ f seen) → (rows : List Row) → filtered_rows a e rows ≡ filtered_rows b f rows
filtered_alike a b e f h g [] = ap (λ w. record { rows = []; end = w }) (g [])
filtered_alike a b e f h g (r ∷ rows) =
    ap (λ w. before_refused w r (filtered_rows (λ seen. a (r ∷ seen)) (λ seen. e (r ∷ seen)) rows)) (h [] r)
    ∙ ap (λ w. before_refused (b [] r) r w) (filtered_alike (λ seen. a (r ∷ seen)) (λ seen. b (r ∷ seen)) (λ seen. e (r ∷ seen)) (λ seen. f (r ∷ seen)) (λ seen q. h (r ∷ seen) q) (λ seen. g (r ∷ seen)) rows)

module _ (a a' : Answers) (e e' : Closing) (r : Row) (rows : List Row) where
  -- The filter decides about a row and goes on with the later ones.
  pub goes_on : (decision : CompactionFilterDecision) → Ok decision ≡ a [] r → GoesOn r a e a' e'
      → filtered_rows a e (r ∷ rows) ≡ record { rows = decided_rows decision r ++ (filtered_rows a' e' rows).rows; end = (filtered_rows a' e' rows).end }
  goes_on decision is on =
      ap (λ w. before_refused w r (filtered_rows (λ seen. a (r ∷ seen)) (λ seen. e (r ∷ seen)) rows)) (sym is)
      ∙ ap (λ w. before_refused (Ok decision) r w) (sym (filtered_alike a' (λ seen. a (r ∷ seen)) e' (λ seen. e (r ∷ seen)) on.rows on.end rows))

  -- If the filter drops the first row, it leaves what it leaves of the later rows.
  pub leaves_out : (decision : CompactionFilterDecision) → Ok decision ≡ a [] r → GoesOn r a e a' e' → decided_rows decision r ≡ [] → filtered_rows a' e' rows ≡ filtered_rows a e (r ∷ rows)
  leaves_out decision is on none = sym (goes_on decision is on ∙ ap (λ (w : List Row). record { rows = w ++ (filtered_rows a' e' rows).rows; end = (filtered_rows a' e' rows).end }) none)

  -- If the filter leaves a row in place of the first one, that row comes first in what it leaves.
  pub leaves_in : (decision : CompactionFilterDecision) (q : Row) → Ok decision ≡ a [] r → GoesOn r a e a' e' → decided_rows decision r ≡ q ∷ [] → filtered_rows a e (r ∷ rows) ≡ record (filtered_rows a' e' rows) { rows = q ∷ (filtered_rows a' e' rows).rows }
  leaves_in decision q is on one = goes_on decision is on ∙ ap (λ (w : List Row). record { rows = w ++ (filtered_rows a' e' rows).rows; end = (filtered_rows a' e' rows).end }) one

  -- If the filter refuses the first row, it leaves no row, and the end is its error.
  pub refuses : (x : CompactionFilterError) → Err x ≡ a [] r → filtered_rows a e (r ∷ rows) ≡ record { rows = []; end = Err x }
  refuses x is = ap (λ w. before_refused w r (filtered_rows (λ seen. a (r ∷ seen)) (λ seen. e (r ∷ seen)) rows)) (sym is)

-- The error with which the filter refuses a row is the error of the call.
pub refused_by : (a : Answers) (e : Closing) (r : Row) (rows : List Row) (stated : Filtered) (inner : IteratorState) (x : CompactionFilterError) → stated ≡ filtered_rows a e (r ∷ rows) → IsStated (a [] r) (Err x) → Refuses {A = Option RowEntry} stated inner (Err (raised_by_filter x))
refused_by a e r rows stated inner x is answer = by x (λ far. is ∙ refuses a a e e r rows x (answer far))
  where
    named : (x : CompactionFilterError) → stated ≡ record { rows = []; end = Err x } → Refuses {A = Option RowEntry} stated inner (Err (raised_by_filter x))
    named x e = record {
      cause = λ y same ok far. let one : y ≡ raised_by_filter x = cc same in
          record { rows = ap (λ (f : Filtered). f.rows) e; cause = x; end = ap (λ (f : Filtered). f.end) e; same = one };
      comes = λ y none end ok far. let one : Err x ≡ Err y = sym (ap (λ (f : Filtered). f.end) e) ∙ end in
          let two : x ≡ y = cc one in
          ap (λ z. Err (raised_by_filter z)) two;
    }

    by : (x : CompactionFilterError) → (◌≢◌ {A = Result CompactionFilterDecision CompactionFilterError} (Err x) (Err filter.Memory) → stated ≡ record { rows = []; end = Err x }) → Refuses {A = Option RowEntry} stated inner (Err (raised_by_filter x))
    by (filter.CreationError t) h = named (filter.CreationError t) (h (λ q. cc q))
    by (filter.FilterError t) h = named (filter.FilterError t) (h (λ q. cc q))
    by (filter.CompactionEndError t) h = named (filter.CompactionEndError t) (h (λ q. cc q))
    by filter.Memory h = record {
      cause = λ y same ok far. absurd (far (cc same));
      comes = λ y none end ok far. absurd (far refl);
    }

-- A filter's error that the iterator keeps as its failure is still the filter's error.
pub refuses_kept : (stated : Filtered) (inner : IteratorState) (e answer : SlateDBError) (old new : Option SlateDBError) → KeepsRefusal e old new answer → Refuses {A = Option RowEntry} stated inner (Err e) → Refuses {A = Option RowEntry} stated inner (Err answer)
refuses_kept stated inner e answer old new keeps h = record {
  cause = λ x is ok far.
      let one : answer ≡ x = cc is in
      let two : answer ≡ e = keeps.same (λ m. far (sym one ∙ m)) in
      h.cause x (ap Err (sym two ∙ one)) ok far;
  comes = λ x none end ok far.
      let two : answer ≡ e = keeps.same (λ m. far (ap Err m)) in
      ap Err two ∙ h.comes x none end ok (λ m. far (ap Err two ∙ m));
}

-- The next row is read from the inner iterator.
pub record Reads (s t : IteratorState) (o : Option RowEntry) : Type 0 where
  pub rows : from_ahead o t ≡ s.rows
  pub readable : IsReadable t
  pub whole : t.whole ≡ s.whole
  pub ended : o ≡ None → (t.rows ≡ []) × (t.whole ≡ true)

-- If `next` of a readable inner iterator answers without an error, it has read the next row, if there is
-- one.
pub reads : (s t : IteratorState) (o : Option RowEntry) → IsReadable s → Nexts s t (Ok o) → Reads s t o
reads s t o k n = by o (n.answers k.0 k.1)
  where
    by : (o : Option RowEntry) → NextAnswers s t (Ok o) → Reads s t o
    by None h = record {
      rows = ap (λ (z : IteratorState). z.rows) h.same;
      readable = (ap (λ (z : IteratorState). z.failure) h.same ∙ k.0, ap (λ (z : IteratorState). z.initialised) h.same ∙ k.1);
      whole = ap (λ (z : IteratorState). z.whole) h.same;
      ended = λ _. (ap (λ (z : IteratorState). z.rows) h.same ∙ h.rows, ap (λ (z : IteratorState). z.whole) h.same ∙ h.whole);
    }
    by (Some x) h = record {
      rows = sym (ap (λ (z : IteratorState). z.rows) h);
      readable = (sym (ap (λ (z : IteratorState). z.failure) h) ∙ k.0, sym (ap (λ (z : IteratorState). z.initialised) h) ∙ k.1);
      whole = sym (ap (λ (z : IteratorState). z.whole) h);
      ended = λ none. absurd (cc none);
    }

-- ---- the rows that a filter leaves rise if those that it is shown do

all_filtered : (P : List ℕ → Type 0) (answers : Answers) (closing : Closing) (rows : List Row) → AllByRecursion (λ r. P r.key) rows → AllByRecursion (λ r. P r.key) (filtered_rows answers closing rows).rows
all_filtered P answers closing [] all = tt
all_filtered P answers closing (r ∷ rows) all = by (answers [] r) (all_filtered P (λ seen. answers (r ∷ seen)) (λ seen. closing (r ∷ seen)) rows all.1)
  where
    by : (answer : Result CompactionFilterDecision CompactionFilterError) → AllByRecursion (λ q. P q.key) (filtered_rows (λ seen. answers (r ∷ seen)) (λ seen. closing (r ∷ seen)) rows).rows
        → AllByRecursion (λ q. P q.key) (before_refused answer r (filtered_rows (λ seen. answers (r ∷ seen)) (λ seen. closing (r ∷ seen)) rows)).rows
    by (Err e) rest = tt
    by (Ok Keep) rest = (all.0, rest)
    by (Ok Drop) rest = rest
    by (Ok (Modify value)) rest = (all.0, rest)

-- The rows that a filter leaves of rising rows rise.
pub filtered_rise : (answers : Answers) (closing : Closing) (rows : List Row) → AreRising rows → AreRising (filtered_rows answers closing rows).rows
filtered_rise answers closing [] h = tt
filtered_rise answers closing (r ∷ rows) h =
    by (answers [] r) (all_filtered (λ key. is_gt (key_cmp r.key key) ≡ false) (λ seen. answers (r ∷ seen)) (λ seen. closing (r ∷ seen)) rows h.0) (filtered_rise (λ seen. answers (r ∷ seen)) (λ seen. closing (r ∷ seen)) rows h.1)
  where
    by : (answer : Result CompactionFilterDecision CompactionFilterError) → AllByRecursion (λ q. is_gt (key_cmp r.key q.key) ≡ false) (filtered_rows (λ seen. answers (r ∷ seen)) (λ seen. closing (r ∷ seen)) rows).rows
        → AreRising (filtered_rows (λ seen. answers (r ∷ seen)) (λ seen. closing (r ∷ seen)) rows).rows
        → AreRising (before_refused answer r (filtered_rows (λ seen. answers (r ∷ seen)) (λ seen. closing (r ∷ seen)) rows)).rows
    by (Err e) all rest = tt
    by (Ok Keep) all rest = (all, rest)
    by (Ok Drop) all rest = rest
    by (Ok (Modify value)) all rest = (all, rest)

-- ---- calls of the inner iterator

pub open_knows : (failure : Option SlateDBError) (ended closed : Bool) (inner : IteratorState) → failure ≡ None → KnowsUnlessFailed failure ended closed inner → Knows ended closed inner
open_knows (Some e) ended closed inner alive h = absurd (cc alive)
open_knows None ended closed inner alive h = h

module _ (answers : Answers) (closing : Closing) (failure : Option SlateDBError) (ended closed : Bool) (inner after : IteratorState) (alive : failure ≡ None) (opened : ended ≡ false) (knows : Knows ended closed inner) where
  abbrev F : Option SlateDBError → IteratorState → IteratorState
  F kept s = filtering kept ended answers closing s

  as_open : (kept : Option SlateDBError) (s : IteratorState) → F kept s ≡ filtering kept false answers closing s
  as_open kept s = ap (λ (b : Bool). filtering kept b answers closing s) opened

  was_initialised : (key : List ℕ) → Seeks key inner after (Ok tt) → inner.initialised ≡ true
  was_initialised key seeks = true_from_ne_false inner.initialised (λ i. let e = (seeks.uninitialised knows.alive i).answer in cc e)

  -- If a seek of the inner iterator succeeds, it is a seek of the filtered iterator to the same key.
  pub seeks_filtered : (key : List ℕ) → Seeks key inner after (Ok tt) → Seeks key (F failure inner) (F failure after) (Ok tt)
  seeks_filtered key seeks =
      let begun = was_initialised key seeks in
      let moves : Moves (is_exact inner) key inner after = seeks.answers knows.alive begun in
      subst (λ (b : Bool). Seeks key (filtering failure b answers closing inner) (filtering failure b answers closing after) (Ok tt)) (sym opened)
      (record {
        failed = λ failed. absurd (failed alive);
        uninitialised = λ _ i. let clash : true ≡ false = sym begun ∙ i in absurd (cc clash);
        answers = λ _ _. record {
          initialised = moves_begun (is_exact inner) moves;
          failure = refl;
          rising = filtered_rise answers closing after.rows (moves_rising key inner after (is_exact inner) moves knows.rising);
        };
      })
    where
      moves_begun : (exact : Bool) → Moves exact key inner after → after.initialised ≡ inner.initialised
      moves_begun true m = ap (λ (s : IteratorState). s.initialised) m
      moves_begun false m = m.initialised

  pub knows_sought : (key : List ℕ) → Seeks key inner after (Ok tt) → Knows ended closed after
  knows_sought key seeks =
      let moves : Moves (is_exact inner) key inner after = seeks.answers knows.alive (was_initialised key seeks) in
      record {
        alive = moves_alive key inner after (is_exact inner) moves ∙ knows.alive;
        rising = moves_rising key inner after (is_exact inner) moves knows.rising;
        closed = knows.closed;
        begun = λ is. let clash : true ≡ false = sym is ∙ opened in absurd (cc clash);
      }

  module _ (kept : Option SlateDBError) (e answer : SlateDBError) (keeps : KeepsRefusal e failure kept answer) where
    begins : (b : Bool) → (filtering failure b answers closing inner).initialised ≡ inner.initialised
    begins true = refl
    begins false = refl

    failures : (b : Bool) (f : Option SlateDBError) (s : IteratorState) → (filtering f b answers closing s).failure ≡ f
    failures true f s = refl
    failures false f s = refl

    stays : (b : Bool) → inner.initialised ≡ false → after ≡ inner → kept ≡ failure → filtering kept b answers closing after ≡ filtering failure b answers closing inner
    stays b begun same none = ap (filtering kept b answers closing) same ∙ ap (λ (f : Option SlateDBError). filtering f b answers closing inner) none

    first : (a b : Bool) → a && b ≡ true → a ≡ true
    first true b h = refl
    first false b h = absurd (cc h)

    pub next_refused_filtered : Nexts inner after (Err e) → Nexts (F failure inner) (F kept after) (Err answer)
    next_refused_filtered nexts =
        subst (λ (b : Bool). Nexts (filtering failure b answers closing inner) (filtering kept b answers closing after) (Err answer)) (sym opened)
        (next_refused (filtering failure false answers closing inner) (filtering kept false answers closing after) inner after e answer alive knows.alive keeps refl (stays false) (first inner.whole _) (λ stated cause afterwards is. absurd (cc is)) nexts)

    pub seek_refused_filtered : (key : List ℕ) → Seeks key inner after (Err e) → Seeks key (F failure inner) (F kept after) (Err answer)
    seek_refused_filtered key seeks =
        subst (λ (b : Bool). Seeks key (filtering failure b answers closing inner) (filtering kept b answers closing after) (Err answer)) (sym opened)
        (seek_refused (filtering failure false answers closing inner) (filtering kept false answers closing after) inner after e answer alive knows.alive keeps refl (stays false) key (λ exact. absurd (cc exact)) seeks)

-- The law on a filter under an iterator that resumes.
pub filters_see_the_key : FiltersSeeTheKey
filters_see_the_key answers closing inner left new cursor moves is =
    ap (λ (s : IteratorState). s.rows) is ∙ ap (λ (s : IteratorState). without_first (is_written cursor) (filtered_rows answers closing s.rows).rows) moves
