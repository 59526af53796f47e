-- Ids in rising order stay so where some of them are left out.
use Rattle.std.proofs.Common.{◌≡◌, refl, sym, ◌∙◌, ap, ℕ, ◌<◌, ◌≤◌, List, [], ◌∷◌, cond, Bool, true, false, arith}
use Rattle.std.specs.Prelude.{filter, nat_lt}
use Rattle.std.specs.List.{AllByRecursion}
use Rattle.std.proofs.lemmas.Bool.{lt-ltb, ltb-true, ltb-false}
use Rattle.row_model.specs.Lists.{Pairs}
use Rattle.fleet_model.specs.Jobs.{in_id_order, put_id}
use Rattle.course_laws.proofs.Sweeps.{all_put}

-- The ids do not fall.
abbrev Rise : List ℕ → Type 0
Rise ids = Pairs (λ a b. a ≤ b) ids

-- An id below all others goes to the front.
put_first : (id : ℕ) (ids : List ℕ) → AllByRecursion (λ other. id < other) ids → put_id id ids ≡ id ∷ ids
put_first id [] below = refl
put_first id (other ∷ ids) below = ap (λ b. cond b (id ∷ other ∷ ids) (other ∷ put_id id ids)) (lt-ltb id other below.0)

all_left : (P : ℕ → Type 0) (keeps : ℕ → Bool) (ids : List ℕ) → AllByRecursion P ids → AllByRecursion P (filter keeps ids)
all_left P keeps [] all = tt
all_left P keeps (id ∷ ids) all = by (keeps id) (all_left P keeps ids all.1)
  where
    by : (b : Bool) → AllByRecursion P (filter keeps ids) → AllByRecursion P (cond b (id ∷ filter keeps ids) (filter keeps ids))
    by true rest = (all.0, rest)
    by false rest = rest

all_below : (id other : ℕ) (ids : List ℕ) → id < other → AllByRecursion (λ n. other ≤ n) ids → AllByRecursion (λ n. id < n) ids
all_below id other [] low all = tt
all_below id other (n ∷ ids) low all = (omega (arith, low, all.0), all_below id other ids low all.1)

all_from : (id other : ℕ) (ids : List ℕ) → id ≤ other → AllByRecursion (λ n. other ≤ n) ids → AllByRecursion (λ n. id ≤ n) ids
all_from id other [] low all = tt
all_from id other (n ∷ ids) low all = (omega (arith, low, all.0), all_from id other ids low all.1)

put_rises : (id : ℕ) (ids : List ℕ) → Rise ids → Rise (put_id id ids)
put_rises id [] rise = (tt, tt)
put_rises id (other ∷ ids) rise = by (nat_lt id other) refl (put_rises id ids rise.1)
  where
    by : (b : Bool) → nat_lt id other ≡ b → Rise (put_id id ids) → Rise (cond b (id ∷ other ∷ ids) (other ∷ put_id id ids))
    by true is rest = let low : id ≤ other = omega (arith, ltb-true id other is) in ((low, all_from id other ids low rise.0), rise)
    by false is rest = (all_put (λ n. other ≤ n) id ids (ltb-false id other is) rise.0, rest)

pub order_rises : (ids : List ℕ) → Rise (in_id_order ids)
order_rises [] = tt
order_rises (id ∷ ids) = put_rises id (in_id_order ids) (order_rises ids)

-- What is left of ids into which one was put.
put_left : (keeps : ℕ → Bool) (id : ℕ) (ids : List ℕ) → Rise ids → filter keeps (put_id id ids) ≡ cond (keeps id) (put_id id (filter keeps ids)) (filter keeps ids)
put_left keeps id [] rise = by (keeps id)
  where
    by : (b : Bool) → cond b (id ∷ []) [] ≡ cond b (put_id id []) []
    by true = refl
    by false = refl
put_left keeps id (other ∷ ids) rise = by (nat_lt id other) refl (put_left keeps id ids rise.1)
  where
    rest : List ℕ
    rest = filter keeps ids

    -- The id goes before all that is left.
    front : id < other → (keep : Bool) → put_id id (cond keep (other ∷ rest) rest) ≡ id ∷ cond keep (other ∷ rest) rest
    front low true = put_first id (other ∷ rest) (low, all_left (λ n. id < n) keeps ids (all_below id other ids low rise.0))
    front low false = put_first id rest (all_left (λ n. id < n) keeps ids (all_below id other ids low rise.0))

    before : id < other → (own keep : Bool)
        → cond own (id ∷ cond keep (other ∷ rest) rest) (cond keep (other ∷ rest) rest) ≡ cond own (put_id id (cond keep (other ∷ rest) rest)) (cond keep (other ∷ rest) rest)
    before low true keep = sym (front low keep)
    before low false keep = refl

    after : nat_lt id other ≡ false → (own keep : Bool) → filter keeps (put_id id ids) ≡ cond own (put_id id rest) rest
        → cond keep (other ∷ filter keeps (put_id id ids)) (filter keeps (put_id id ids)) ≡ cond own (put_id id (cond keep (other ∷ rest) rest)) (cond keep (other ∷ rest) rest)
    after is true true left = ap (λ l. other ∷ l) left ∙ sym (ap (λ b. cond b (id ∷ other ∷ rest) (other ∷ put_id id rest)) is)
    after is true false left = left
    after is false true left = ap (λ l. other ∷ l) left
    after is false false left = left

    by : (b : Bool) → nat_lt id other ≡ b → filter keeps (put_id id ids) ≡ cond (keeps id) (put_id id rest) rest
        → filter keeps (cond b (id ∷ other ∷ ids) (other ∷ put_id id ids)) ≡ cond (keeps id) (put_id id (filter keeps (other ∷ ids))) (filter keeps (other ∷ ids))
    by true is left = before (ltb-true id other is) (keeps id) (keeps other)
    by false is left = after is (keeps id) (keeps other) left

-- What is left of ids in order is in order.
pub order_left : (keeps : ℕ → Bool) (ids : List ℕ) → filter keeps (in_id_order ids) ≡ in_id_order (filter keeps ids)
order_left keeps [] = refl
order_left keeps (id ∷ ids) = put_left keeps id (in_id_order ids) (order_rises ids) ∙ by (keeps id) (order_left keeps ids)
  where
    by : (b : Bool) → filter keeps (in_id_order ids) ≡ in_id_order (filter keeps ids)
        → cond b (put_id id (filter keeps (in_id_order ids))) (filter keeps (in_id_order ids)) ≡ in_id_order (cond b (id ∷ filter keeps ids) (filter keeps ids))
    by true rest = ap (put_id id) rest
    by false rest = rest
