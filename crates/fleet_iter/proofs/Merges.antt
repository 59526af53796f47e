-- The least head of a merge, and a step of the merge.
use Rattle.std.proofs.Common.{◌≡◌, ◌∙◌, sym, refl, ap, subst, ℕ, ◌+◌, ◌<◌, List, [], ◌∷◌, ◌++◌, suc, zero, Ok, Err, inl, inr, Option, Some, None, Bool, true, false, cond, add-one, get_or, length, arith, ◌≤◌}
use Rattle.std.specs.Option.{option_to_list, option_map}
use Rattle.std.specs.List.{AllByRecursion}
use Rattle.std.specs.Prelude.{map, ◌&&◌}
use Rattle.std.proofs.lemmas.Bool.{and_parts}
use Rattle.std.proofs.lemmas.List.{length-map, map-set}
use Rattle.std.proofs.Math.ListN.{get_or-map, set}
use Rattle.row_model.specs.Rows.{Row}
use Rattle.fleet_rows.specs.Row.{row_of, rows_of}
use Rattle.fleet_rows.specs.declared.row.RowEntry.{RowEntry}
use Rattle.fleet_rows.specs.declared.errors.SlateDBError.{SlateDBError}
use Rattle.fleet_iter.specs.Iteration.{IteratorState, Nexts, NextAnswers, CanFail, after_first, without_first, is_exact}
use Rattle.fleet_iter.specs.declared.iterator.IterationOrder.{IterationOrder}
use Rattle.fleet_iter.specs.Merge.{best, choose, goes_first, passes, merged_lists, merge_two, merge_into, merged_left, lists, rows_left, AllTaken, IsTaken, are_whole, are_steady, are_exact, manner, manners, OneFailedBy, NextGives, Takes, Drops, AllBegun}

after_none : (order : IterationOrder) → (b : Option (ℕ × RowEntry)) → choose order None b ≡ None → b ≡ None
after_none order None e = refl
after_none order (Some p) e = cc

some_head : (order : IterationOrder) → (x : RowEntry) (b : Option (ℕ × RowEntry)) → choose order (Some x) b ≡ None → ⊥
some_head order x None e = cc
some_head order x (Some p) e = tested (goes_first order (row_of x) (row_of p.1)) e where
  tested : (t : Bool) → cond {A = Option (ℕ × RowEntry)} t (Some (0, x)) (Some (p.0 + 1, p.1)) ≡ None → ⊥
  tested true e = cc
  tested false e = cc

-- If no head is left, no row is left, and all sources are whole.
pub none_left : (order : IterationOrder) → (hs : List (Option RowEntry)) (ss : List IteratorState) → AllTaken hs ss → best order hs ≡ None → (merged_lists order (lists hs (rows_left ss)) ≡ []) × (are_whole ss ≡ true)
none_left order [] [] a e = (refl, refl)
none_left order [] (s ∷ ss) a e = absurd a
none_left order (h ∷ hs) [] a e = absurd a
none_left order (None ∷ hs) (s ∷ ss) a e =
    let rest = none_left order hs ss a.1 (after_none order (best order hs) e) in
    (ap (λ (w : List Row). merge_two order w (merged_lists order (lists hs (rows_left ss)))) a.0.2 ∙ rest.0, ap (λ b. cond b (are_whole ss) false) a.0.3 ∙ rest.1)
none_left order (Some x ∷ hs) (s ∷ ss) a e = absurd (some_head order x (best order hs) e)

-- The least head is the first row of the merge, and its place has this head.
pub record Heads (order : IterationOrder) (hs : List (Option RowEntry)) (rs : List (List Row)) (k : ℕ) (x : RowEntry) : Type 0 where
  pub rows : merged_lists order (lists hs rs) ≡ row_of x ∷ merged_lists order (lists (set hs k None) rs)
  pub head : (d : Option RowEntry) → get_or hs k d ≡ Some x

-- A place and a row may be replaced by equal ones.
heads_at : (order : IterationOrder) → (hs : List (Option RowEntry)) (rs : List (List Row)) (k j : ℕ) (x y : RowEntry) → k ≡ j → x ≡ y → Heads order hs rs j y → Heads order hs rs k x
heads_at order hs rs k j x y e f h = subst (λ n. Heads order hs rs n x) (sym e) (subst (λ z. Heads order hs rs j z) (sym f) h)

after_front : (order : IterationOrder) → (b : Option (ℕ × RowEntry)) (k : ℕ) (x : RowEntry) → choose order None b ≡ Some (k, x) → (p : ℕ × RowEntry) × (b ≡ Some p) × (k ≡ suc p.0) × (x ≡ p.1)
after_front order None k x e = absurd (cc)
after_front order (Some p) k x e =
    let q : (p.0 + 1, p.1) ≡ (k, x) = cc in
    (p, refl, sym (ap (λ (z : ℕ × RowEntry). z.0) q) ∙ add-one p.0, sym (ap (λ (z : ℕ × RowEntry). z.1) q))

-- The best head is the first row of the merge, and the merge of the other rows comes after it.
pub takes_head : (order : IterationOrder) → (hs : List (Option RowEntry)) (ss : List IteratorState) → AllTaken hs ss → (k : ℕ) (x : RowEntry) → best order hs ≡ Some (k, x) → Heads order hs (rows_left ss) k x
takes_head order [] ss a k x e = absurd (cc)
takes_head order (h ∷ hs) [] a k x e = absurd a
takes_head order (None ∷ hs) (s ∷ ss) a k x e =
    let f = after_front order (best order hs) k x e in
    let ih = takes_head order hs ss a.1 f.0.0 f.0.1 f.1 in
    let here : s.rows ≡ [] = a.0.2 in
    heads_at order (None ∷ hs) (rows_left (s ∷ ss)) k (suc f.0.0) x f.0.1 f.2 f.3
    (record { rows = ap (λ (w : List Row). merge_two order w (merged_lists order (lists hs (rows_left ss)))) here ∙ (ih.rows ∙ ap (λ (w : List Row). row_of f.0.1 ∷ merge_two order w (merged_lists order (lists (set hs f.0.0 None) (rows_left ss)))) (sym here)); head = λ d. ih.head d })
takes_head order (Some z ∷ hs) (s ∷ ss) a k x e = by_best (λ j y q. takes_head order hs ss a.1 j y q) (best order hs) refl e where
  first : merged_lists order (lists hs (rows_left ss)) ≡ [] → Heads order (Some z ∷ hs) (rows_left (s ∷ ss)) 0 z
  first n = record { rows = ap (merge_into order (row_of z) (merge_two order s.rows)) n ∙ ap (λ (w : List Row). row_of z ∷ merge_two order s.rows w) (sym n); head = λ d. refl }

  by_test : (p : ℕ × RowEntry) → Heads order hs (rows_left ss) p.0 p.1 → (t : Bool) → goes_first order (row_of z) (row_of p.1) ≡ t → cond {A = Option (ℕ × RowEntry)} t (Some (0, z)) (Some (p.0 + 1, p.1)) ≡ Some (k, x) → Heads order (Some z ∷ hs) (rows_left (s ∷ ss)) k x
  by_test p ih true q f =
      let g : (0, z) ≡ (k, x) = cc in
      let rest = merged_lists order (lists (set hs p.0 None) (rows_left ss)) in
      heads_at order (Some z ∷ hs) (rows_left (s ∷ ss)) k 0 x z (sym (ap (λ (w : ℕ × RowEntry). w.0) g)) (sym (ap (λ (w : ℕ × RowEntry). w.1) g))
      (record {
        rows = ap (merge_into order (row_of z) (merge_two order s.rows)) ih.rows
            ∙ (ap (λ b. cond b (row_of z ∷ merge_two order s.rows (row_of p.1 ∷ rest)) (row_of p.1 ∷ merge_into order (row_of z) (merge_two order s.rows) rest)) q
            ∙ ap (λ (w : List Row). row_of z ∷ merge_two order s.rows w) (sym ih.rows));
        head = λ d. refl;
      })
  by_test p ih false q f =
      let g : (p.0 + 1, p.1) ≡ (k, x) = cc in
      let rest = merged_lists order (lists (set hs p.0 None) (rows_left ss)) in
      heads_at order (Some z ∷ hs) (rows_left (s ∷ ss)) k (suc p.0) x p.1 (sym (ap (λ (w : ℕ × RowEntry). w.0) g) ∙ add-one p.0) (sym (ap (λ (w : ℕ × RowEntry). w.1) g))
      (record {
        rows = ap (merge_into order (row_of z) (merge_two order s.rows)) ih.rows
            ∙ ap (λ b. cond b (row_of z ∷ merge_two order s.rows (row_of p.1 ∷ rest)) (row_of p.1 ∷ merge_into order (row_of z) (merge_two order s.rows) rest)) q;
        head = λ d. ih.head d;
      })

  by_best : ((j : ℕ) (y : RowEntry) → best order hs ≡ Some (j, y) → Heads order hs (rows_left ss) j y) → (b : Option (ℕ × RowEntry)) → best order hs ≡ b → choose order (Some z) b ≡ Some (k, x) → Heads order (Some z ∷ hs) (rows_left (s ∷ ss)) k x
  by_best ih None q f =
      let g : (0, z) ≡ (k, x) = cc in
      heads_at order (Some z ∷ hs) (rows_left (s ∷ ss)) k 0 x z (sym (ap (λ (w : ℕ × RowEntry). w.0) g)) (sym (ap (λ (w : ℕ × RowEntry). w.1) g))
      (first (none_left order hs ss a.1 q).0)
  by_best ih (Some p) q f = by_test p (ih p.0 p.1 q) (goes_first order (row_of z) (row_of p.1)) refl f

-- The next row of a source takes the place of its head.
pub record Refills (hs : List (Option RowEntry)) (ss : List IteratorState) (k : ℕ) (t : IteratorState) (h : Option RowEntry) : Type 0 where
  pub same : lists (set hs k None) (rows_left ss) ≡ lists (set hs k h) (rows_left (set ss k t))
  pub taken : AllTaken (set hs k h) (set ss k t)
  pub same_manner : manners (set ss k t) ≡ manners ss

pub refilled : (hs : List (Option RowEntry)) (ss : List IteratorState) → AllTaken hs ss → (k : ℕ) (x : RowEntry) → get_or hs k None ≡ Some x → (s t : IteratorState) (h : Option RowEntry) → s ≡ get_or ss k s → NextGives s t h → Refills hs ss k t h
refilled [] ss a k x e s t h is st = absurd (cc)
refilled (g ∷ hs) [] a k x e s t h is st = absurd a
refilled (g ∷ hs) (r ∷ ss) a zero x e s t h is st =
    let same : r.rows ≡ rows_of (option_to_list h) ++ t.rows = ap (λ (z : IteratorState). z.rows) (sym is) ∙ st.0 in
    let alike : manner t ≡ manner r = st.2 ∙ ap manner is in
    record { same = ap (λ (w : List Row). w ∷ lists hs (rows_left ss)) same; taken = (st.1, a.1); same_manner = ap (λ (m : Bool × Bool). m ∷ manners ss) alike }
refilled (g ∷ hs) (r ∷ ss) a (suc k) x e s t h is st =
    let ih = refilled hs ss a.1 k x e s t h is st in
    record { same = ap (λ (w : List (List Row)). (rows_of (option_to_list g) ++ r.rows) ∷ w) ih.same; taken = (a.0, ih.taken); same_manner = ap (λ (ms : List (Bool × Bool)). manner r ∷ ms) ih.same_manner }

-- A step of a merge takes the least head and refills its place.
pub takes_all : (order : IterationOrder) → (hs : List (Option RowEntry)) (ss : List IteratorState) → AllTaken hs ss → (k : ℕ) (x : RowEntry) → best order hs ≡ Some (k, x) → (s t : IteratorState) (h : Option RowEntry) → s ≡ get_or ss k s → NextGives s t h → Takes order false hs ss (set hs k h) (set ss k t) (Some x)
takes_all order hs ss a k x e s t h is st =
    let p = takes_head order hs ss a k x e in
    let q = refilled hs ss a k x (p.head None) s t h is st in
    record { rows = p.rows ∙ ap (λ (w : List (List Row)). row_of x ∷ merged_lists order w) q.same; taken = q.taken; same_manner = q.same_manner; ends = λ n. absurd (cc) }

pub takes_none : (order : IterationOrder) → (hs : List (Option RowEntry)) (ss : List IteratorState) → AllTaken hs ss → best order hs ≡ None → Takes order false hs ss hs ss None
takes_none order hs ss a e = record { rows = refl; taken = a; same_manner = refl; ends = λ q. none_left order hs ss a e }

pub clean : (g : Option RowEntry) (s : IteratorState) → IsTaken g s → s.failure ≡ None
clean None s a = a.0
clean (Some x) s a = a.0

pub begun : (g : Option RowEntry) (s : IteratorState) → IsTaken g s → s.initialised ≡ true
begun None s a = a.1
begun (Some x) s a = a.1

-- A source whose head was taken, and which answers `next`, has made a step.
pub steps_of : (g : Option RowEntry) (s t : IteratorState) (h : Option RowEntry) → IsTaken g s → Nexts s t (Ok h) → NextGives s t h
steps_of g s t h a n = by_answer h (n.answers (clean g s a) (begun g s a)) where
  by_answer : (h : Option RowEntry) → NextAnswers s t (Ok h) → NextGives s t h
  by_answer None b =
      (ap (λ (z : IteratorState). z.rows) (sym b.same), (ap (λ (z : IteratorState). z.failure) b.same ∙ clean g s a, ap (λ (z : IteratorState). z.initialised) b.same ∙ begun g s a, ap (λ (z : IteratorState). z.rows) b.same ∙ b.rows, ap (λ (z : IteratorState). z.whole) b.same ∙ b.whole), ap manner b.same)
  by_answer (Some x) b = (ap (λ (z : IteratorState). z.rows) b, (sym (ap (λ (z : IteratorState). z.failure) b) ∙ clean g s a, sym (ap (λ (z : IteratorState). z.initialised) b) ∙ begun g s a), sym (ap manner b))

-- If a search answers a place, it has found a row there.
pub placed : (b : Option (ℕ × RowEntry)) (k : ℕ) → Some k ≡ option_map (λ p. p.0) b → (x : RowEntry) × (b ≡ Some (k, x))
placed None k e = absurd (cc)
placed (Some p) k e = let q : k ≡ p.0 = cc in (p.1, ap (λ (n : ℕ). Some (n, p.1)) (sym q))

pub placed_none : (b : Option (ℕ × RowEntry)) → None ≡ option_map {U = ℕ} (λ p. p.0) b → b ≡ None
placed_none None e = refl
placed_none (Some p) e = absurd (cc)

pub same_count : (hs : List (Option RowEntry)) (ss : List IteratorState) → AllTaken hs ss → length hs ≡ length ss
same_count [] [] a = refl
same_count [] (s ∷ ss) a = absurd a
same_count (h ∷ hs) [] a = absurd a
same_count (h ∷ hs) (s ∷ ss) a = ap suc (same_count hs ss a.1)

first_place : (z : RowEntry) (k : ℕ) (x : RowEntry) → ◌≡◌ {A = Option (ℕ × RowEntry)} (Some (0, z)) (Some (k, x)) → 0 ≡ k
first_place z k x e = let P : Option (ℕ × RowEntry) → ℕ = place_or in ap P e where
  place_or : Option (ℕ × RowEntry) → ℕ
  place_or None = 0
  place_or (Some p) = p.0

front_within : (n : ℕ) (z : RowEntry) (k : ℕ) (x : RowEntry) → ◌≡◌ {A = Option (ℕ × RowEntry)} (Some (0, z)) (Some (k, x)) → k < suc n
front_within n z k x e = let q : 0 ≡ k = first_place z k x e in omega (arith, q)

-- The place of the best head is a place of the heads.
pub best_within : (order : IterationOrder) → (hs : List (Option RowEntry)) (k : ℕ) (x : RowEntry) → best order hs ≡ Some (k, x) → k < length hs
best_within order [] k x e = absurd (cc)
best_within order (h ∷ hs) k x e = by_head h (best order hs) e (λ j y q. best_within order hs j y q) where
  deeper : (p : ℕ × RowEntry) → p.0 < length hs → k ≡ p.0 + 1 → k < length (h ∷ hs)
  deeper p lt q = omega arith

  by_test : (z : RowEntry) (p : ℕ × RowEntry) (t : Bool) → p.0 < length hs → cond {A = Option (ℕ × RowEntry)} t (Some (0, z)) (Some (p.0 + 1, p.1)) ≡ Some (k, x) → k < length (h ∷ hs)
  by_test z p true lt e = front_within (length hs) z k x e
  by_test z p false lt e = let g : (p.0 + 1, p.1) ≡ (k, x) = cc in deeper p lt (sym (ap (λ (w : ℕ × RowEntry). w.0) g))

  by_head : (h' : Option RowEntry) (b : Option (ℕ × RowEntry)) → choose order h' b ≡ Some (k, x) → ((j : ℕ) (y : RowEntry) → b ≡ Some (j, y) → j < length hs) → k < length (h ∷ hs)
  by_head None None e ih = absurd (cc)
  by_head None (Some p) e ih = let f = after_front order (Some p) k x e in let q : f.0 ≡ p = cc in deeper p (ih p.0 p.1 refl) (f.2 ∙ (ap (λ (w : ℕ × RowEntry). suc w.0) q ∙ sym (add-one p.0)))
  by_head (Some z) None e ih = front_within (length hs) z k x e
  by_head (Some z) (Some p) e ih = by_test z p (goes_first order (row_of z) (row_of p.1)) (ih p.0 p.1 refl) e

pub taken_at : (hs : List (Option RowEntry)) (ss : List IteratorState) → AllTaken hs ss → (k : ℕ) → k < length ss → (s : IteratorState) → s ≡ get_or ss k s → (g : Option RowEntry) × IsTaken g s
taken_at [] [] a k lt s is = absurd (omega arith)
taken_at [] (r ∷ ss) a k lt s is = absurd a
taken_at (h ∷ hs) [] a k lt s is = absurd a
taken_at (h ∷ hs) (r ∷ ss) a zero lt s is = (h, subst (IsTaken h) (sym is) a.0)
taken_at (h ∷ hs) (r ∷ ss) a (suc k) lt s is = taken_at hs ss a.1 k (omega arith) s is

-- If all sources are whole, the source at any place is whole. So only what may fail the merge may fail the
-- source.
pub one_whole : (ss : List IteratorState) (k : ℕ) (s : IteratorState) → k < length ss → s ≡ get_or ss k s → are_whole ss ≡ true → s.whole ≡ true
one_whole [] k s lt is all = absurd (omega arith)
one_whole (r ∷ ss) zero s lt is all = ap (λ (z : IteratorState). z.whole) is ∙ first r.whole all
  where
    first : (b : Bool) → cond b (are_whole ss) false ≡ true → b ≡ true
    first true h = refl
    first false h = absurd (cc h)
one_whole (r ∷ ss) (suc k) s lt is all = one_whole ss k s (omega arith) is (rest r.whole all)
  where
    rest : (b : Bool) → cond b (are_whole ss) false ≡ true → are_whole ss ≡ true
    rest true h = h
    rest false h = absurd (cc h)

-- If all sources are steady, each of them is.
pub one_steady : (ss : List IteratorState) (k : ℕ) (s : IteratorState) → k < length ss → s ≡ get_or ss k s → are_steady ss ≡ true → s.steady ≡ true
one_steady [] k s lt is all = absurd (omega arith)
one_steady (r ∷ ss) zero s lt is all = ap (λ (z : IteratorState). z.steady) is ∙ first r.steady all
  where
    first : (b : Bool) → cond b (are_steady ss) false ≡ true → b ≡ true
    first true h = refl
    first false h = absurd (cc h)
one_steady (r ∷ ss) (suc k) s lt is all = one_steady ss k s (omega arith) is (rest r.steady all)
  where
    rest : (b : Bool) → cond b (are_steady ss) false ≡ true → are_steady ss ≡ true
    rest true h = h
    rest false h = absurd (cc h)

both_hold : (a b : Bool) → a ≡ true → b ≡ true → a && b ≡ true
both_hold a b h g = ap (λ x. x && b) h ∙ g

pub one_exact : (ss : List IteratorState) (k : ℕ) (s : IteratorState) → k < length ss → s ≡ get_or ss k s → are_exact ss ≡ true → is_exact s ≡ true
one_exact ss k s lt is all =
    let parts = and_parts (are_steady ss) (are_whole ss) all in
    both_hold s.steady s.whole (one_steady ss k s lt is parts.0) (one_whole ss k s lt is parts.1)

pub refused : (g : Option RowEntry) (ss : List IteratorState) (k : ℕ) (s t : IteratorState) (e : SlateDBError) → k < length ss → s ≡ get_or ss k s → IsTaken g s → Nexts s t (Err e) → CanFail (are_whole ss) e
refused g ss k s t e lt is a n =
    let cause = (n.answers (clean g s a) (begun g s a)).cause in
    record { initialised = cause.initialised; alive = cause.alive; memory = λ all. cause.memory (one_whole ss k s lt is all) }

-- A source that refuses has failed with its error.
pub refusal_marks : (g : Option RowEntry) (s t : IteratorState) (e : SlateDBError) → IsTaken g s → Nexts s t (Err e) → t.failure ≡ Some e
refusal_marks g s t e a n = (n.answers (clean g s a) (begun g s a)).failed

fails_at : (ss : List IteratorState) (k : ℕ) (t : IteratorState) (e : SlateDBError) → k < length ss → t.failure ≡ Some e → OneFailedBy (set ss k t) e
fails_at [] k t e lt failed = absurd (omega arith)
fails_at (s ∷ ss) zero t e lt failed = inl failed
fails_at (s ∷ ss) (suc k) t e lt failed = inr (fails_at ss k t e (omega arith) failed)

-- ---- a source at its place

-- The state of the source at a place.
pub state_at : {T : Type 0} (f : T → IteratorState) (xs : List T) (k : ℕ) (x : T) → x ≡ get_or xs k x → f x ≡ get_or (map f xs) k (f x)
state_at f xs k x is = ap f is ∙ sym (get_or-map f xs k x)

-- The place of a source is within the list of states.
pub state_within : {T : Type 0} (f : T → IteratorState) (xs all : List T) (k : ℕ) → length xs ≡ length all → k < length all → k < length (map f xs)
state_within f xs all k same lt = let count : length (map f xs) ≡ length xs = length-map _ _ in omega (arith, count, same, lt)

pub head_within : {T : Type 0} (f : T → IteratorState) (hs : List (Option RowEntry)) (xs all : List T) (k : ℕ) → AllTaken hs (map f xs) → length xs ≡ length all → k < length all → k < length hs
head_within f hs xs all k taken same lt = let count = same_count hs (map f xs) taken in omega (arith, count, state_within f xs all k same lt)

-- If the source at a place has failed, one of the sources has failed.
pub one_failed : {T : Type 0} (f : T → IteratorState) (xs : List T) (k : ℕ) (y : T) (e : SlateDBError) → k < length (map f xs) → (f y).failure ≡ Some e → OneFailedBy (map f (set xs k y)) e
one_failed f xs k y e lt failed = subst (λ (w : List IteratorState). OneFailedBy w e) (sym (map-set f xs k y)) (fails_at (map f xs) k (f y) e lt failed)

-- ---- what holds of each source

pub all_at : {T : Type 0} (P : T → Type 0) (xs : List T) (k : ℕ) (x : T) → k < length xs → x ≡ get_or xs k x → AllByRecursion P xs → P x
all_at P [] k x lt is all = absurd (omega arith)
all_at P (y ∷ xs) zero x lt is all = subst P (sym is) all.0
all_at P (y ∷ xs) (suc k) x lt is all = all_at P xs k x (omega arith) is all.1

pub all_set : {T : Type 0} (P : T → Type 0) (xs : List T) (k : ℕ) (x : T) → P x → AllByRecursion P xs → AllByRecursion P (set xs k x)
all_set P [] k x h all = tt
all_set P (y ∷ xs) zero x h all = (h, all.1)
all_set P (y ∷ xs) (suc k) x h all = (all.0, all_set P xs k x h all.1)

-- ---- the first rows

-- A source that is initialised, and then answers `next`, has made a step.
pub steps_first : (s i t : IteratorState) (h : Option RowEntry) → s.failure ≡ None → i ≡ record s { initialised = true } → Nexts i t (Ok h) → NextGives s t h
steps_first s i t h alive is n = by_answer h (n.answers (ap (λ (z : IteratorState). z.failure) is ∙ alive) (ap (λ (z : IteratorState). z.initialised) is)) where
  by_answer : (h : Option RowEntry) → NextAnswers i t (Ok h) → NextGives s t h
  by_answer None b =
      let same : t ≡ record s { initialised = true } = b.same ∙ is in
      (sym (ap (λ (z : IteratorState). z.rows) same), (ap (λ (z : IteratorState). z.failure) same ∙ alive, ap (λ (z : IteratorState). z.initialised) same, ap (λ (z : IteratorState). z.rows) b.same ∙ b.rows, ap (λ (z : IteratorState). z.whole) b.same ∙ b.whole), ap manner same)
  by_answer (Some x) b =
      let same : record s { initialised = true } ≡ record t { rows = row_of x ∷ t.rows } = sym is ∙ b in
      (ap (λ (z : IteratorState). z.rows) same, (sym (ap (λ (z : IteratorState). z.failure) same) ∙ alive, sym (ap (λ (z : IteratorState). z.initialised) same)), sym (ap manner same))

pub alive_at : (hs : List (Option RowEntry)) (ss : List IteratorState) (k : ℕ) (s : IteratorState) → AllBegun hs ss → length hs ≡ k → k < length ss → s ≡ get_or ss k s → s.failure ≡ None
alive_at [] [] k s a n lt is = absurd (omega arith)
alive_at [] (r ∷ ss) zero s a n lt is = ap (λ (z : IteratorState). z.failure) is ∙ a.0
alive_at [] (r ∷ ss) (suc k) s a n lt is = absurd (omega arith)
alive_at (h ∷ hs) [] k s a n lt is = absurd a
alive_at (h ∷ hs) (r ∷ ss) zero s a n lt is = absurd (omega arith)
alive_at (h ∷ hs) (r ∷ ss) (suc k) s a n lt is = alive_at hs ss k s a.1 (omega arith) (omega arith) is

pub record More (hs : List (Option RowEntry)) (ss : List IteratorState) (k : ℕ) (t : IteratorState) (h : Option RowEntry) : Type 0 where
  pub begun : AllBegun (hs ++ h ∷ []) (set ss k t)
  pub rows : lists (hs ++ h ∷ []) (rows_left (set ss k t)) ≡ lists hs (rows_left ss)
  pub same_manner : manners (set ss k t) ≡ manners ss

-- If the next source's first row is taken as its head, that source has begun too, and no row is lost.
pub begin_more : (hs : List (Option RowEntry)) (ss : List IteratorState) (k : ℕ) (s t : IteratorState) (h : Option RowEntry) → AllBegun hs ss → length hs ≡ k → k < length ss → s ≡ get_or ss k s → NextGives s t h → More hs ss k t h
begin_more [] [] k s t h a n lt is st = absurd (omega arith)
begin_more [] (r ∷ ss) zero s t h a n lt is st =
    let same : rows_of (option_to_list h) ++ t.rows ≡ r.rows = sym (ap (λ (z : IteratorState). z.rows) (sym is) ∙ st.0) in
    let alike : manner t ≡ manner r = st.2 ∙ ap manner is in
    record { begun = (st.1, a.1); rows = ap (λ (w : List Row). w ∷ rows_left ss) same; same_manner = ap (λ (m : Bool × Bool). m ∷ manners ss) alike }
begin_more [] (r ∷ ss) (suc k) s t h a n lt is st = absurd (omega arith)
begin_more (g ∷ hs) [] k s t h a n lt is st = absurd a
begin_more (g ∷ hs) (r ∷ ss) zero s t h a n lt is st = absurd (omega arith)
begin_more (g ∷ hs) (r ∷ ss) (suc k) s t h a n lt is st =
    let ih = begin_more hs ss k s t h a.1 (omega arith) (omega arith) is st in
    record { begun = (a.0, ih.begun); rows = ap (λ (w : List (List Row)). (rows_of (option_to_list g) ++ r.rows) ∷ w) ih.rows; same_manner = ap (λ (ms : List (Bool × Bool)). manner r ∷ ms) ih.same_manner }

pub all_begun : (hs : List (Option RowEntry)) (ss : List IteratorState) → AllBegun hs ss → length ss ≤ length hs → AllTaken hs ss
all_begun [] [] a n = tt
all_begun [] (s ∷ ss) a n = absurd (omega arith)
all_begun (h ∷ hs) [] a n = absurd a
all_begun (h ∷ hs) (s ∷ ss) a n = (a.0, all_begun hs ss a.1 (omega arith))

pub one_fails : (ss : List IteratorState) (k : ℕ) (s : IteratorState) (e : SlateDBError) → k < length ss → s ≡ get_or ss k s → CanFail s.whole e → CanFail (are_whole ss) e
one_fails ss k s e lt is cause = record { initialised = cause.initialised; alive = cause.alive; memory = λ all. cause.memory (one_whole ss k s lt is all) }

pub one_inexact : (ss : List IteratorState) (k : ℕ) (s : IteratorState) (e : SlateDBError) → k < length ss → s ≡ get_or ss k s → CanFail (is_exact s) e → CanFail (are_exact ss) e
one_inexact ss k s e lt is cause = record { initialised = cause.initialised; alive = cause.alive; memory = λ all. cause.memory (one_exact ss k s lt is all) }

-- ---- rows that are skipped

-- If the least head passes a test, it is the first row of the merge, and passes it.
pub first_left : (order : IterationOrder) (test : Row → Bool) (hs : List (Option RowEntry)) (ss : List IteratorState) → AllTaken hs ss → passes test (best order hs) ≡ true
    → (r : Row) × (rest : List Row) × (merged_left order hs ss ≡ r ∷ rest) × (test r ≡ true)
first_left order test hs ss a low = by (best order hs) refl low
  where
    by : (b : Option (ℕ × RowEntry)) → best order hs ≡ b → passes test b ≡ true → (r : Row) × (rest : List Row) × (merged_left order hs ss ≡ r ∷ rest) × (test r ≡ true)
    by None f low = absurd (cc low)
    by (Some p) f low = (row_of p.1, merged_lists order (lists (set hs p.0 None) (rows_left ss)), (takes_head order hs ss a p.0 p.1 f).rows, low)

-- If the least head passes the test, it is dropped, and fewer rows are left.
pub skip_step : (order : IterationOrder) (test : Row → Bool) (hs hs' : List (Option RowEntry)) (ss ss' : List IteratorState) → AllTaken hs ss → passes test (best order hs) ≡ true → Drops order hs ss hs' ss'
    → (without_first test (merged_left order hs ss) ≡ without_first test (merged_left order hs' ss')) × (length (merged_left order hs' ss') < length (merged_left order hs ss))
skip_step order test hs hs' ss ss' a low d =
    let f = first_left order test hs ss a low in
    let later : merged_left order hs' ss' ≡ f.1 = d.rows ∙ ap after_first f.2 in
    let size : length (merged_left order hs ss) ≡ suc (length f.1) = ap length f.2 in
    let less : length (merged_left order hs' ss') ≡ length f.1 = ap length later in
    (ap (without_first test) f.2 ∙ (ap (λ b. cond b (without_first test f.1) (f.0 ∷ f.1)) f.3 ∙ sym (ap (without_first test) later)), omega (arith, size, less))

-- If the least head does not pass the test, no row is skipped.
pub skip_end : (order : IterationOrder) (test : Row → Bool) (hs : List (Option RowEntry)) (ss : List IteratorState) → AllTaken hs ss → passes test (best order hs) ≡ false → merged_left order hs ss ≡ without_first test (merged_left order hs ss)
skip_end order test hs ss a high = by (best order hs) refl high
  where
    by : (b : Option (ℕ × RowEntry)) → best order hs ≡ b → passes test b ≡ false → merged_left order hs ss ≡ without_first test (merged_left order hs ss)
    by None f high = let none = (none_left order hs ss a f).0 in none ∙ sym (ap (without_first test) none)
    by (Some p) f high =
        let is = (takes_head order hs ss a p.0 p.1 f).rows in
        let rest = merged_lists order (lists (set hs p.0 None) (rows_left ss)) in
        is ∙ (sym (ap (λ b. cond b (without_first test rest) (row_of p.1 ∷ rest)) high) ∙ sym (ap (without_first test) is))

-- A step that takes the first row drops it.
pub dropped : (order : IterationOrder) (hs hs' : List (Option RowEntry)) (ss ss' : List IteratorState) (o : Option RowEntry) → Takes order false hs ss hs' ss' o → Drops order hs ss hs' ss'
dropped order hs hs' ss ss' o t = record { rows = by o t.rows t.ends; taken = t.taken; same_manner = t.same_manner }
  where
    by : (o : Option RowEntry) → merged_left order hs ss ≡ rows_of (option_to_list o) ++ merged_left order hs' ss' → (o ≡ None → (merged_left order hs ss ≡ []) × (are_whole ss ≡ true)) → merged_left order hs' ss' ≡ after_first (merged_left order hs ss)
    by None e ends = let none = (ends refl).0 in sym e ∙ (none ∙ sym (ap after_first none))
    by (Some x) e ends = sym (ap after_first e)

-- At the place of the least head there is a source.
pub source_within : {T : Type 0} (f : T → IteratorState) (order : IterationOrder) (hs : List (Option RowEntry)) (xs : List T) (k : ℕ) (x : RowEntry) → AllTaken hs (map f xs) → best order hs ≡ Some (k, x) → k < length (map f xs)
source_within f order hs xs k x taken at =
    let within = best_within order hs k x at in
    let count = same_count hs (map f xs) taken in
    omega (arith, within, count)
