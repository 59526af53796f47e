-- Each kind of step keeps the rule.
use Rattle.std.proofs.Common.{◌≡◌, ◌≢◌, ◌⊎◌, ℕ, zero, suc, ◌+◌, ◌%◌, ◌^◌, ◌<◌, ◌≤◌, List, [], ◌∷◌, ◌++◌, length, set, Bool, true, false, Option, Some, refl, sym, ap, ◌∙◌, subst, ⊎_elim, inl, inr, arith, true≢false, append_assoc, length-append}
use Rattle.std.specs.Prelude.{slice_index, if◌then◌else◌}
use Rattle.std.specs.List.{AllByRecursion}
use Rattle.std.proofs.lemmas.Bool.Decides.{nat_tests}
use Rattle.std.proofs.Math.Nat.{mod-add-mod}
use mathlib.Core.Option.{some, none, some-ne-none, some-injective}
use mathlib.Core.Logic.{dite}
use native.Mathlib.Decide.{ℕ_discrete}
use lib.ListN.{get_elem?}
use Rattle.atomic_table.specs.Table.{State, Me, keeps, takes, gives, step, opening, Allows, Splits, Joins}
use Rattle.atomic_table.proofs.Lists.{at_set, at_snoc, at_longer, set_again, set_else, one_turn}
use Rattle.fleet_lock.specs.declared.sight.Sight.{Sight}
use Rattle.fleet_store.specs.Memory.{StoreParts}
use Rattle.fleet_lock.specs.Held.{HeldValue, last_from, store_of}
use Rattle.fleet_lock.specs.Names.{name_at}
use Rattle.fleet_lock.specs.Counts.{total, times, count, once_from, claims_of, commits_of, length_of}
use Rattle.fleet_lock.specs.Rule.{seen_of, name_count, HoldsName, Front, Fits, IsFront, IsLong, IsSpent, Stands, NoTurn, HasTurn, Kept, opener, keeps_less, newcomer, sees_less, joined_view, spent_view, with_ticket, with_turn, place_of, after_serving, Follows, Draws, Looks, Serves, Tells, HasWhole, IsFoundBy}
use Rattle.fleet_lock.proofs.Fronts.{append_nil, all_then, all_zip, all_both, all_after, front_on, front_between, below, not_below}
use Rattle.fleet_lock.proofs.Totals.{total_set, total_snoc, total_at, total_two, total_le, total_alone, times-append, each_set, held_split, names_split, held_joined, names_joined, next_place}

abbrev IsHome : {S : Type 0} → (S → HeldValue) → HeldValue → List (mathlib.Core.Option.Option (Option S)) → List Sight → Type 0
IsHome {S} value last homes views = (x : S) × (homes ≡ some (Some x) ∷ []) × (value x ≡ last) × NoTurn views

abbrev Home : {S : Type 0} → (S → HeldValue) → HeldValue → List (mathlib.Core.Option.Option (Option S)) → List Sight → Type 0
Home value last homes views = IsHome value last homes views ⊎ ((homes ≡ none ∷ []) × HasTurn views)

abbrev Apart : List Sight → Type 0
Apart views = (i j : ℕ) (v w : Sight) → get_elem? views i ≡ some v → get_elem? views j ≡ some w → v.waits ≡ true → w.waits ≡ true → v.ticket ≡ w.ticket → i ≡ j

same_view : (views : List Sight) (i : ℕ) (u v : Sight) → get_elem? views i ≡ some u → get_elem? views i ≡ some v → u ≡ v
same_view views i u v e f = some-injective u v (sym e ∙ f)

not_both : (b : Bool) → b ≡ true → b ≡ false → ⊥
not_both b t f = true≢false (sym t ∙ f)

false_of : (b : Bool) → (b ≡ true → ⊥) → b ≡ false
false_of true h = absurd (h refl)
false_of false h = refl

set_here_at : (xs : List Sight) (k : ℕ) (a b : Sight) → get_elem? xs k ≡ some a → get_elem? (set xs k b) k ≡ some b
set_here_at [] k a b e = absurd (some-ne-none a (sym e))
set_here_at (x ∷ xs) zero a b e = refl
set_here_at (x ∷ xs) (suc k) a b e = set_here_at xs k a b e

-- The slot stays as it is if the turn of the changed view does.
home_set : {S : Type 0} (value : S → HeldValue) (last : HeldValue) (homes : List (mathlib.Core.Option.Option (Option S))) (views : List Sight) (i : ℕ) (v w : Sight) → get_elem? views i ≡ some v → w.turn ≡ v.turn → Home value last homes views → Home value last homes (set views i w)
home_set value last homes views i v w at same =
    ⊎_elim
    (λ (x : IsHome value last homes views). inl (x.0, x.1, x.2, each_set (λ j u. u.turn ≡ false) views i w (λ j u _ e. x.3 j u e) (same ∙ x.3 i v at)))
    (λ (x : (homes ≡ none ∷ []) × HasTurn views). inr (x.0, moved x.1))
  where
    moved : HasTurn views → HasTurn (set views i w)
    moved t = dite (ℕ_discrete t.0 i)
        (λ (e : t.0 ≡ i). (i, w, set_here_at views i v w at, same ∙ (ap (λ u. u.turn) (same_view views i v t.1 at (subst (λ k. get_elem? views k ≡ some t.1) e t.2)) ∙ t.3)))
        (λ ne. (t.0, t.1, set_else views i t.0 w ne ∙ t.2, t.3))

-- Two views that wait still have different tickets, if the changed view has a ticket of its own.
apart_set : (views : List Sight) (i : ℕ) (w : Sight) → Apart views → (w.waits ≡ true → (j : ℕ) (u : Sight) → j ≢ i → get_elem? views j ≡ some u → u.waits ≡ true → u.ticket ≢ w.ticket) → Apart (set views i w)
apart_set views i w apart mine j k u v at_j at_k waits_u waits_v same =
    ⊎_elim
    (λ (x : (j ≡ i) × (w ≡ u)). ⊎_elim
    (λ (y : (k ≡ i) × (w ≡ v)). x.0 ∙ sym y.0)
    (λ (y : (k ≢ i) × (get_elem? views k ≡ some v)). absurd (mine (ap (λ a. a.waits) x.1 ∙ waits_u) k v y.0 y.1 waits_v (sym same ∙ sym (ap (λ a. a.ticket) x.1))))
    (at_set views i k w v at_k))
    (λ (x : (j ≢ i) × (get_elem? views j ≡ some u)). ⊎_elim
    (λ (y : (k ≡ i) × (w ≡ v)). absurd (mine (ap (λ a. a.waits) y.1 ∙ waits_v) j u x.0 x.1 waits_u (same ∙ sym (ap (λ a. a.ticket) y.1))))
    (λ (y : (k ≢ i) × (get_elem? views k ≡ some v)). apart j k u v x.1 y.1 waits_u waits_v same)
    (at_set views i k w v at_k))
    (at_set views i j w u at_j)

-- ---- what a view knows

live : (last : HeldValue) (passes drawn served : ℕ) (v : Sight) → 0 < v.parts → Stands last passes drawn served v → Fits last passes drawn served v
live last passes drawn served v some_part = ⊎_elim (λ (x : (0 < v.parts) × Fits last passes drawn served v). x.1) (λ (x : IsSpent v). let p = x.parts in absurd (omega arith))

waiting_live : (last : HeldValue) (passes drawn served : ℕ) (v : Sight) → v.waits ≡ true → Stands last passes drawn served v → Fits last passes drawn served v
waiting_live last passes drawn served v waits = ⊎_elim (λ (x : (0 < v.parts) × Fits last passes drawn served v). x.1) (λ (x : IsSpent v). absurd (not_both v.waits waits x.waits))

turning_live : (last : HeldValue) (passes drawn served : ℕ) (v : Sight) → v.turn ≡ true → Stands last passes drawn served v → Fits last passes drawn served v
turning_live last passes drawn served v turns = ⊎_elim (λ (x : (0 < v.parts) × Fits last passes drawn served v). x.1) (λ (x : IsSpent v). absurd (not_both v.turn turns x.turn))

spent_of : (last : HeldValue) (passes drawn served : ℕ) (v : Sight) → v.parts ≡ 0 → Stands last passes drawn served v → IsSpent v
spent_of last passes drawn served v none_left = ⊎_elim (λ (x : (0 < v.parts) × Fits last passes drawn served v). let p = x.0 in absurd (omega arith)) (λ (x : IsSpent v). x)

-- A view without parts holds no name.
unheld : (v : Sight) (name : ℕ) → IsSpent v → name_count v name ≡ 0
unheld v name x = let a = x.whole in let b = ap (times name) x.received in omega arith

waits_le_parts : (last : HeldValue) (passes drawn served : ℕ) (v : Sight) → Stands last passes drawn served v → count v.waits ≤ v.parts
waits_le_parts last passes drawn served v = ⊎_elim (λ (x : (0 < v.parts) × Fits last passes drawn served v). at_most_one v.waits v.parts x.0) (λ (x : IsSpent v). let w = ap count x.waits in omega arith)
  where
    at_most_one : (b : Bool) (n : ℕ) → 0 < n → count b ≤ n
    at_most_one true n h = omega arith
    at_most_one false n h = omega arith

-- So few tickets are drawn ahead that a word tells which one is served.
near : {S : Type 0} (value : S → HeldValue) (passes : ℕ) (s : State (Option S) Sight) (k : Kept value passes s) → k.drawn < k.served + 2 ^ 32
near {S} value passes s k =
    let few = k.few in
    let parts = k.parts in
    let waiting = k.waiting in
    let le = total_le (λ v. count v.waits) (λ v. v.parts) s.views (λ i v e. waits_le_parts k.last passes k.drawn k.served v (k.each i v e)) in
    omega arith

-- ---- drawing a ticket

-- Drawing a ticket keeps the rule, and gives the view the next ticket.
pub draws : {S : Type 0} (value : S → HeldValue) (passes id : ℕ) (v : Sight) → 0 < v.parts → v.waits ≡ false → v.turn ≡ false
    → Allows (Kept value passes) 1 id (v, []) 0 (λ n. (n + 1) % 2 ^ 64) (Draws (step 1 0 1 0 none) (v, []))
draws {S} value passes id v some_part idle no_turn s k deep at fits =
    let w = with_ticket v k.drawn in
    let views = set s.views id w in
    let reads : slice_index s.words 0 ≡ k.drawn % 2 ^ 64 = ap (λ ws. slice_index ws 0) k.words in
    let more : (λ (n : ℕ). (n % 2 ^ 64 + 1) % 2 ^ 64) k.drawn ≡ (k.drawn + 1) % 2 ^ 64 = mod-add-mod k.drawn (2 ^ 64) 1 in
    let words : set s.words 0 ((slice_index s.words 0 + 1) % 2 ^ 64) ≡ (k.drawn + 1) % 2 ^ 64 ∷ k.served % 2 ^ 64 ∷ [] = ap (λ ws. set ws 0 ((slice_index ws 0 + 1) % 2 ^ 64)) k.words ∙ ap (λ n. n ∷ k.served % 2 ^ 64 ∷ []) more in
    let waiting = k.waiting in
    let here = live k.last passes k.drawn k.served v some_part (k.each id v at) in
    let later : (u : Sight) → Stands k.last passes k.drawn k.served u → Stands k.last passes (k.drawn + 1) k.served u = λ u. ⊎_elim
    (λ (x : (0 < u.parts) × Fits k.last passes k.drawn k.served u). let f = x.1 in inl (x.0, record { all = f.all; base = f.base; settings = f.settings; seen = f.seen; long = f.long; other = f.other; names = f.names; ticket = λ t. let o = f.ticket t in (o.0, omega arith); turn = f.turn }))
    (λ (x : IsSpent u). inr x) in
    let mine : Stands k.last passes (k.drawn + 1) k.served w = inl (some_part, record { all = here.all; base = here.base; settings = here.settings; seen = record { more = here.seen.more; is = here.seen.is; others = here.seen.others }; long = here.long; other = here.other; names = here.names; ticket = λ _. (omega arith, omega arith); turn = λ t. absurd (not_both v.turn t no_turn) }) in
    let waits_now : total (λ u. count u.waits) views ≡ total (λ u. count u.waits) s.views + 1 = let t = total_set (λ u. count u.waits) s.views id v w at in let c = ap count idle in omega arith in
    let kept : Kept value passes record { words = set s.words 0 ((slice_index s.words 0 + 1) % 2 ^ 64); homes = s.homes; views = views } = record {
      last = k.last;
      drawn = k.drawn + 1;
      served = k.served;
      words = words;
      few = k.few;
      long = k.long;
      parts = let t = total_set (λ u. u.parts) s.views id v w at in let p = k.parts in omega arith;
      waiting = omega arith;
      claims = let t = total_set (λ u. u.claims) s.views id v w at in let p = k.claims in omega arith;
      commits = let t = total_set (λ u. u.commits) s.views id v w at in let p = k.commits in omega arith;
      struck = let t = total_set (λ u. u.struck) s.views id v w at in let p = k.struck in omega arith;
      own = λ p. let t = total_set (λ u. times p u.own) s.views id v w at in let q = k.own p in omega arith;
      names = λ n. let t = total_set (λ u. name_count u n) s.views id v w at in let q = k.names n in omega arith;
      home = home_set value k.last s.homes s.views id v w at refl k.home;
      each = each_set (λ j u. Stands k.last passes (k.drawn + 1) k.served u) s.views id w (λ j u _ e. later u (k.each j u e)) mine;
      apart = apart_set s.views id w k.apart (λ _ j u _ e waits same. let f = (waiting_live k.last passes k.drawn k.served u waits (k.each j u e)).ticket waits in let b : u.ticket ≡ k.drawn = same in absurd (omega arith));
    } in
    (w, keeps, tt, kept, (k.drawn, refl, reads))

-- ---- looking

-- The front of a value is one of an equal value.
front_is : (v : Sight) (xs ys : List StoreParts) → xs ≡ ys → Front v xs → Front v ys
front_is v xs ys e f = subst (Front v) e f

-- A view that has seen all.
whole_front : (v : Sight) (states : List StoreParts) → v.trace ≡ states → Front v states
whole_front v states e = record { more = []; is = append_nil v.trace ∙ e; others = tt }

-- A view with all parts has all.
has_whole : {S : Type 0} (value : S → HeldValue) (passes id : ℕ) (v : Sight) (s : State (Option S) Sight) (k : Kept value passes s) → get_elem? s.views id ≡ some v → v.parts ≡ passes → HasWhole v k.last
has_whole {S} value passes id v s k at e =
    let one : total (λ u. u.parts) s.views ≡ v.parts = k.parts ∙ sym e in
    let gone : (j : ℕ) (u : Sight) → get_elem? s.views j ≡ some u → u.parts ≡ 0 → IsSpent u = λ j u e none_left. spent_of k.last passes k.drawn k.served u none_left (k.each j u e) in
    record {
      claims = let c = total_alone (λ u. u.claims) s.views id v at one (λ j u e none_left. (gone j u e none_left).claims) in let p = k.claims in omega arith;
      commits = let c = total_alone (λ u. u.commits) s.views id v at one (λ j u e none_left. (gone j u e none_left).commits) in let p = k.commits in omega arith;
      struck = let c = total_alone (λ u. u.struck) s.views id v at one (λ j u e none_left. (gone j u e none_left).struck) in let p = k.struck in omega arith;
      own = λ p. sym (total_alone (λ u. times p u.own) s.views id v at one (λ j u e none_left. ap (times p) (gone j u e none_left).own)) ∙ k.own p;
      names = λ n. let c = total_alone (λ u. name_count u n) s.views id v at one (λ j u e none_left. unheld u n (gone j u e none_left)) in let q = k.names n in omega arith;
    }

-- Looking at the word of the served tickets keeps the rule, and gives the turn to the view whose ticket it is.
pub looks : {S : Type 0} (value : S → HeldValue) (passes id : ℕ) (v : Sight) → v.waits ≡ true → v.turn ≡ false
    → Allows (Kept value passes) 1 id (v, []) 1 (λ n. n) (Looks value (step 1 1 0 0 none) (v, []))
looks {S} value passes id v waits no_turn s k deep at fits =
    let reads : slice_index s.words 1 ≡ k.served % 2 ^ 64 = ap (λ ws. slice_index ws 1) k.words in
    let here = waiting_live k.last passes k.drawn k.served v waits (k.each id v at) in
    let words : (set s.words 1 (slice_index s.words 1)) ≡ k.drawn % 2 ^ 64 ∷ k.served % 2 ^ 64 ∷ [] = ap (λ ws. set ws 1 (slice_index ws 1)) k.words in
    dite (ℕ_discrete (slice_index s.words 1) (v.ticket % 2 ^ 64))
    (λ (now : slice_index s.words 1 ≡ v.ticket % 2 ^ 64).
    let order = here.ticket waits in
    let close = near value passes s k in
    let mine : k.served ≡ v.ticket = one_turn k.served v.ticket (2 ^ 64) order.0 (omega arith) (sym reads ∙ now) in
    let free : IsHome value k.last s.homes s.views = ⊎_elim
    (λ (x : IsHome value k.last s.homes s.views). x)
    (λ (x : (s.homes ≡ none ∷ []) × HasTurn s.views).
    let j = x.1.0 in let u = x.1.1 in let at_j = x.1.2 in let turns = x.1.3 in
    let f = (turning_live k.last passes k.drawn k.served u turns (k.each j u at_j)).turn turns in
    let one : j ≡ id = k.apart j id u v at_j at f.0 waits (f.1 ∙ mine) in
    absurd (not_both u.turn turns (ap (λ (a : Sight). a.turn) (same_view s.views id u v (subst (λ i. get_elem? s.views i ≡ some u) one at_j) at) ∙ no_turn)))
    k.home in
    let whole : v.parts ≡ v.all → HasWhole v k.last = λ e. has_whole value passes id v s k at (e ∙ here.all) in
    let x = free.0 in
    let is = free.2 in
    let w = with_turn v (value x) in
    let views = set s.views id w in
    let long_now : IsLong v.base (value x).trace = subst (λ (y : StoreParts × List StoreParts). IsLong y.0 y.1) (λ i. (sym here.base i, ap (λ (h : HeldValue). h.trace) (sym is) i)) k.long in
    let other_now : IsFront v.other_trace (value x).trace = front_on v.other_trace v.trace (value x).trace here.other.1 (here.seen.more, here.seen.is ∙ ap (λ (h : HeldValue). h.trace) (sym is)) in
    let kept : Kept value passes record { words = set s.words 1 (slice_index s.words 1); homes = set s.homes 0 none; views = views } = record {
      last = k.last;
      drawn = k.drawn;
      served = k.served;
      words = words;
      few = k.few;
      long = k.long;
      parts = let t = total_set (λ u. u.parts) s.views id v w at in let p = k.parts in omega arith;
      waiting = let t = total_set (λ u. count u.waits) s.views id v w at in let p = k.waiting in omega arith;
      claims = let t = total_set (λ u. u.claims) s.views id v w at in let p = k.claims in omega arith;
      commits = let t = total_set (λ u. u.commits) s.views id v w at in let p = k.commits in omega arith;
      struck = let t = total_set (λ u. u.struck) s.views id v w at in let p = k.struck in omega arith;
      own = λ p. let t = total_set (λ u. times p u.own) s.views id v w at in let q = k.own p in omega arith;
      names = λ n. let t = total_set (λ u. name_count u n) s.views id v w at in let q = k.names n in omega arith;
      home = inr (ap (λ hs. set hs 0 none) free.1, (id, w, set_here_at s.views id v w at, refl));
      each = each_set (λ j u. Stands k.last passes k.drawn k.served u) s.views id w (λ j u _ e. k.each j u e) (⊎_elim
          (λ (x : (0 < v.parts) × Fits k.last passes k.drawn k.served v). inl (x.0, record { all = here.all; base = here.base; settings = here.settings; seen = whole_front w k.last.trace (ap (λ (h : HeldValue). h.trace) is); long = long_now; other = (here.other.0, other_now); names = here.names; ticket = here.ticket; turn = λ _. (waits, sym mine, ap (λ (h : HeldValue). h.trace) is) }))
          (λ (x : IsSpent v). absurd (not_both v.waits waits x.waits))
          (k.each id v at));
      apart = apart_set s.views id w k.apart (λ _ j u ne e waits_u same. ne (k.apart j id u v e at waits_u waits same));
    } in
    let valid : get_elem? s.homes 0 ≡ some (some (Some x)) = ap (λ hs. get_elem? hs 0) free.1 in
    let found : IsFoundBy v (value x) = subst (IsFoundBy v) (sym is) (record { base = sym here.base; settings = sym here.settings; front = here.seen; whole = whole }) in
    (w, takes 0 (Some x), valid, kept, inl (now, (x, refl, found))))
    (λ later.
    let views = set s.views id v in
    let still : views ≡ s.views = set_again s.views id v at in
    let same_words : set s.words 1 (slice_index s.words 1) ≡ s.words = words ∙ sym k.words in
    let state : State (Option S) Sight = record { words = set s.words 1 (slice_index s.words 1); homes = s.homes; views = views } in
    let kept : Kept value passes state = subst (Kept value passes) (λ i. record { words = sym same_words i; homes = s.homes; views = sym still i }) k in
    (v, keeps, tt, kept, inr (later, refl)))

-- ---- serving the next

-- What others have seen is still a front after the states of a view that holds their names.
front_grows : (u v : Sight) (old new more : List StoreParts) → ((n : ℕ) → name_count u n + name_count v n ≤ 1) → Front u old → old ++ more ≡ new → AllByRecursion (λ state. HoldsName v (name_at state)) more → Front u new
front_grows u v old new more apart f is mine = record {
  more = f.more ++ more;
  is = sym (append_assoc u.trace f.more more) ∙ (ap (λ xs. xs ++ more) f.is ∙ is);
  others = all_both (λ state. name_count u (name_at state) ≡ 0) f.more more f.others (all_then (λ state. HoldsName v (name_at state)) (λ state. name_count u (name_at state) ≡ 0) more (λ state holds. let a = apart (name_at state) in omega arith) mine);
}

-- Giving the value back keeps the rule, and ends the turn.
pub serves : {S : Type 0} (value : S → HeldValue) (passes id : ℕ) (v : Sight) (y : S) → v.turn ≡ true → Follows v (value y)
    → Allows (Kept value passes) 1 id (v, (0, Some y) ∷ []) 1 (λ n. (n + 1) % 2 ^ 64) (Serves value (step 1 1 1 0 none) (v, (0, Some y) ∷ []))
serves {S} value passes id v y turns follows s k deep at fits =
    let h = value y in
    let here = turning_live k.last passes k.drawn k.served v turns (k.each id v at) in
    let mine = here.turn turns in
    let w = after_serving v h in
    let views = set s.views id w in
    let more : (k.served % 2 ^ 64 + 1) % 2 ^ 64 ≡ (k.served + 1) % 2 ^ 64 = mod-add-mod k.served (2 ^ 64) 1 in
    let words : set s.words 1 ((slice_index s.words 1 + 1) % 2 ^ 64) ≡ k.drawn % 2 ^ 64 ∷ (k.served + 1) % 2 ^ 64 ∷ [] = ap (λ ws. set ws 1 ((slice_index ws 1 + 1) % 2 ^ 64)) k.words ∙ ap (λ n. k.drawn % 2 ^ 64 ∷ n ∷ []) more in
    let out : s.homes ≡ none ∷ [] = ⊎_elim
    (λ (x : IsHome value k.last s.homes s.views). absurd (not_both v.turn turns (x.3 id v at)))
    (λ (x : (s.homes ≡ none ∷ []) × HasTurn s.views). x.0)
    k.home in
    let grows : k.last.trace ++ follows.more ≡ h.trace = ap (λ t. t ++ follows.more) (sym mine.2) ∙ follows.is in
    let apart : (j : ℕ) (u : Sight) → j ≢ id → get_elem? s.views j ≡ some u → (n : ℕ) → name_count u n + name_count v n ≤ 1 = λ j u ne e n. let t = total_two (λ a. name_count a n) s.views id j v u ne at e in let q = k.names n in omega arith in
    let alone : (j : ℕ) (u : Sight) → j ≢ id → get_elem? s.views j ≡ some u → u.waits ≡ true → u.ticket ≢ k.served = λ j u ne e waits_u same. ne (k.apart j id u v e at waits_u mine.0 (same ∙ sym mine.1)) in
    let later : (j : ℕ) (u : Sight) → j ≢ id → get_elem? s.views j ≡ some u → Stands h passes k.drawn (k.served + 1) u = λ j u ne e. ⊎_elim
    (λ (x : (0 < u.parts) × Fits k.last passes k.drawn k.served u). let f = x.1 in inl (
      x.0,
      record {
        all = f.all;
        base = f.base ∙ sym here.base ∙ sym follows.base;
        settings = f.settings ∙ sym here.settings ∙ sym follows.settings;
        seen = front_grows u v k.last.trace h.trace follows.more (apart j u ne e) f.seen grows follows.mine;
        long = f.long;
        other = (f.other.0 ∙ sym here.base ∙ sym follows.base, f.other.1);
        names = f.names;
        ticket = λ t. let o = f.ticket t in let a = alone j u ne e t in (omega arith, o.1);
        turn = λ t. let o = f.turn t in absurd (alone j u ne e o.0 o.1);
      },
    ))
    (λ (x : IsSpent u). inr x)
    (k.each j u e) in
    let long_now : IsLong v.base h.trace = subst (λ (b : StoreParts). IsLong b h.trace) follows.base follows.long in
    let mine_now : Stands h passes k.drawn (k.served + 1) w = ⊎_elim
    (λ (x : (0 < v.parts) × Fits k.last passes k.drawn k.served v). inl (x.0, record { all = here.all; base = sym follows.base; settings = sym follows.settings; seen = whole_front w h.trace refl; long = long_now; other = (here.other.0 ∙ sym here.base ∙ sym follows.base, front_on v.other_trace v.trace h.trace here.other.1 (follows.more, follows.is)); names = here.names; ticket = λ t. absurd (true≢false (sym t)); turn = λ t. absurd (true≢false (sym t)) }))
    (λ (x : IsSpent v). absurd (not_both v.turn turns x.turn))
    (k.each id v at) in
    let was : store_of k.last ≡ seen_of v = λ i. last_from (sym here.base i) (sym mine.2 i) in
    let kept : Kept value passes record { words = set s.words 1 ((slice_index s.words 1 + 1) % 2 ^ 64); homes = set s.homes 0 (some (Some y)); views = views } = record {
      last = h;
      drawn = k.drawn;
      served = k.served + 1;
      words = words;
      few = k.few;
      long = follows.long;
      parts = let t = total_set (λ u. u.parts) s.views id v w at in let p = k.parts in omega arith;
      waiting = let t = total_set (λ u. count u.waits) s.views id v w at in let p = k.waiting in let c = ap count mine.0 in omega arith;
      claims = let t = total_set (λ u. u.claims) s.views id v w at in let p = k.claims in let a = ap claims_of was in let b = ap claims_of (follows.base ∙ here.base) in let g = follows.claims in omega arith;
      commits = let t = total_set (λ u. u.commits) s.views id v w at in let p = k.commits in let a = ap commits_of was in let b = ap commits_of (follows.base ∙ here.base) in let g = follows.commits in omega arith;
      struck = let t = total_set (λ u. u.struck) s.views id v w at in let p = k.struck in let a = ap (λ (m : StoreParts). m.faults) was in let b = ap (λ (m : StoreParts). m.faults) (follows.base ∙ here.base) in let g = follows.struck in omega arith;
      own = λ p. let t = total_set (λ u. times p u.own) s.views id v w at in let q = k.own p in let d = times-append p v.own (place_of (length_of v.base) v.trace h.trace) in
          let l = length-append v.trace follows.more in
          let n = ap length follows.is in
          let few = follows.few in
          let e = next_place (length_of v.base) v.trace h.trace p (omega arith) (omega arith) in
          let a = ap (λ (x : StoreParts × List StoreParts). once_from (length_of x.0) (length x.1) p) (λ i. (here.base i, mine.2 i)) in
          let b = ap (λ (m : StoreParts). once_from (length_of m) (length h.trace) p) follows.base in omega arith;
      names = λ n. let t = total_set (λ u. name_count u n) s.views id v w at in let q = k.names n in omega arith;
      home = inl (y, ap (λ hs. set hs 0 (some (Some y))) out, refl, each_set (λ j u. u.turn ≡ false) s.views id w (λ j u ne e. false_of u.turn (λ t. let f = (turning_live k.last passes k.drawn k.served u t (k.each j u e)).turn t in alone j u ne e f.0 f.1)) refl);
      each = each_set (λ j u. Stands h passes k.drawn (k.served + 1) u) s.views id w later mine_now;
      apart = apart_set s.views id w k.apart (λ t. absurd (true≢false (sym t)));
    } in
    (w, gives, tt, kept, (y, refl, refl))

-- ---- splitting a view

each_snoc : (P : ℕ → Sight → Type 0) (views : List Sight) (w : Sight) → ((j : ℕ) (u : Sight) → get_elem? views j ≡ some u → P j u) → ((j : ℕ) → P j w) → (j : ℕ) (u : Sight) → get_elem? (views ++ w ∷ []) j ≡ some u → P j u
each_snoc P views w others mine j u e = ⊎_elim (λ was. others j u was) (λ (same : w ≡ u). subst (P j) same (mine j)) (at_snoc views w u j e)

no_turn_snoc : {S : Type 0} (value : S → HeldValue) (last : HeldValue) (homes : List (mathlib.Core.Option.Option (Option S))) (views : List Sight) (w : Sight) → w.turn ≡ false → Home value last homes views → Home value last homes (views ++ w ∷ [])
no_turn_snoc value last homes views w none_now = ⊎_elim
    (λ (x : IsHome value last homes views). inl (x.0, x.1, x.2, each_snoc (λ j u. u.turn ≡ false) views w x.3 (λ j. none_now)))
    (λ (x : (homes ≡ none ∷ []) × HasTurn views). let t = x.1 in inr (x.0, (t.0, t.1, at_longer views (w ∷ []) t.0 t.1 t.2, t.3)))

apart_snoc : (views : List Sight) (w : Sight) → w.waits ≡ false → Apart views → Apart (views ++ w ∷ [])
apart_snoc views w idle apart i j u v at_i at_j waits_u waits_v same = ⊎_elim
    (λ (x : get_elem? views i ≡ some u). ⊎_elim
    (λ (y : get_elem? views j ≡ some v). apart i j u v x y waits_u waits_v same)
    (λ (y : w ≡ v). absurd (not_both v.waits waits_v (sym (ap (λ a. a.waits) y) ∙ idle)))
    (at_snoc views w v j at_j))
    (λ (x : w ≡ u). absurd (not_both u.waits waits_u (sym (ap (λ a. a.waits) x) ∙ idle)))
    (at_snoc views w u i at_i)

-- A view that holds fewer names has seen a front too.
front_less : (v w : Sight) (states : List StoreParts) → w.trace ≡ v.trace → ((n : ℕ) → name_count w n ≤ name_count v n) → Front v states → Front w states
front_less v w states same less f = record { more = f.more; is = ap (λ t. t ++ f.more) same ∙ f.is; others = all_then (λ state. name_count v (name_at state) ≡ 0) (λ state. name_count w (name_at state) ≡ 0) f.more (λ state none_held. let a = less (name_at state) in omega arith) f.others }

-- Splitting a view keeps the rule, and gives the new view one part and the name.
pub splits : {S : Type 0} (value : S → HeldValue) (passes id : ℕ) (v : Sight) (name : ℕ) → 1 < v.parts → HoldsName v name → Splits (Kept value passes) id v (keeps_less v name) (newcomer v name)
splits {S} value passes id v name two holds s k at =
    let w = keeps_less v name in
    let n = newcomer v name in
    let first = set s.views id w in
    let views = first ++ n ∷ [] in
    let here = live k.last passes k.drawn k.served v (omega arith) (k.each id v at) in
    let shared : (m : ℕ) → name_count w m + name_count n m ≡ name_count v m = λ m. held_split v name m here.names holds in
    let left : Stands k.last passes k.drawn k.served w = inl (omega arith, record { all = here.all; base = here.base; settings = here.settings; seen = front_less v w k.last.trace refl (λ m. let a = shared m in omega arith) here.seen; long = here.long; other = here.other; names = λ m. names_split v name m here.names holds; ticket = here.ticket; turn = here.turn }) in
    let right : Stands k.last passes k.drawn k.served n = inl (omega arith, record { all = here.all; base = here.base; settings = here.settings; seen = front_less v n k.last.trace refl (λ m. let a = shared m in omega arith) here.seen; long = here.long; other = here.other; names = λ m. omega arith; ticket = λ t. absurd (true≢false (sym t)); turn = λ t. absurd (true≢false (sym t)) }) in
    record {
      last = k.last;
      drawn = k.drawn;
      served = k.served;
      words = k.words;
      few = k.few;
      long = k.long;
      parts = let t = total_set (λ u. u.parts) s.views id v w at in let a = total_snoc (λ u. u.parts) first n in let p = k.parts in omega arith;
      waiting = let t = total_set (λ u. count u.waits) s.views id v w at in let a = total_snoc (λ u. count u.waits) first n in let p = k.waiting in omega arith;
      claims = let t = total_set (λ u. u.claims) s.views id v w at in let a = total_snoc (λ u. u.claims) first n in let p = k.claims in omega arith;
      commits = let t = total_set (λ u. u.commits) s.views id v w at in let a = total_snoc (λ u. u.commits) first n in let p = k.commits in omega arith;
      struck = let t = total_set (λ u. u.struck) s.views id v w at in let a = total_snoc (λ u. u.struck) first n in let p = k.struck in omega arith;
      own = λ p. let t = total_set (λ u. times p u.own) s.views id v w at in let a = total_snoc (λ u. times p u.own) first n in let q = k.own p in omega arith;
      names = λ m. let t = total_set (λ u. name_count u m) s.views id v w at in let a = total_snoc (λ u. name_count u m) first n in let q = k.names m in let b = shared m in omega arith;
      home = no_turn_snoc value k.last s.homes first n refl (home_set value k.last s.homes s.views id v w at refl k.home);
      each = each_snoc (λ j u. Stands k.last passes k.drawn k.served u) first n (each_set (λ j u. Stands k.last passes k.drawn k.served u) s.views id w (λ j u _ e. k.each j u e) left) (λ j. right);
      apart = apart_snoc first n refl (apart_set s.views id w k.apart (λ t j u ne e waits same. ne (k.apart j id u v e at waits t same)));
    }

-- ---- joining a view to another one

-- What two views that are joined have seen: the longer of two fronts. Nothing after it is of a party whose name one of them holds.
record SeesLonger (last : HeldValue) (both : Sight) (base : StoreParts) (trace : List StoreParts) (other_base : StoreParts) (other_trace : List StoreParts) : Type 0 where
  pub base_is : base ≡ last.base
  pub more : List StoreParts
  pub is : trace ++ more ≡ last.trace
  pub others : AllByRecursion (λ state. name_count both (name_at state) ≡ 0) more
  pub long : IsLong base trace
  pub other_is : other_base ≡ last.base
  pub front : IsFront other_trace trace

-- Two views that fit are joined to one that has seen the longer of their histories.
join_sees : (last : HeldValue) (passes drawn served : ℕ) (v w : Sight) → ((n : ℕ) → name_count (joined_view v w) n ≡ name_count v n + name_count w n) → Fits last passes drawn served v → Fits last passes drawn served w
    → SeesLonger last (joined_view v w) (joined_view v w).base (joined_view v w).trace (joined_view v w).other_base (joined_view v w).other_trace
join_sees last passes drawn served v w together f g = choose (sees_less v w) refl
  where
    none_after : (more : List StoreParts) → AllByRecursion (λ state. name_count v (name_at state) ≡ 0) more → AllByRecursion (λ state. name_count w (name_at state) ≡ 0) more → AllByRecursion (λ state. name_count (joined_view v w) (name_at state) ≡ 0) more
    none_after more a b = all_zip (λ state. name_count v (name_at state) ≡ 0) (λ state. name_count w (name_at state) ≡ 0) (λ state. name_count (joined_view v w) (name_at state) ≡ 0) more (λ state x y. let t = together (name_at state) in omega arith) a b

    same_base : length_of v.base ≡ length_of w.base
    same_base = ap length_of (f.base ∙ sym g.base)

    choose : (b : Bool) → sees_less v w ≡ b → SeesLonger last (joined_view v w) (if b then w.base else v.base) (if b then w.trace else v.trace) (if b then v.base else w.base) (if b then v.trace else w.trace)
    choose true e =
        let lens = below (length_of (seen_of v)) (length_of (seen_of w)) e in
        let lv = f.long in
        let lw = g.long in
        let sb = same_base in
        let le : length v.trace ≤ length w.trace = omega arith in
        record {
          base_is = g.base;
          more = g.seen.more;
          is = g.seen.is;
          others = none_after g.seen.more (all_after (λ state. name_count v (name_at state) ≡ 0) v.trace w.trace f.seen.more g.seen.more last.trace f.seen.is g.seen.is le f.seen.others) g.seen.others;
          long = g.long;
          other_is = f.base;
          front = front_between v.trace w.trace f.seen.more g.seen.more last.trace f.seen.is g.seen.is le;
        }
    choose false e =
        let lens = not_below (length_of (seen_of v)) (length_of (seen_of w)) e in
        let lv = f.long in
        let lw = g.long in
        let sb = same_base in
        let le : length w.trace ≤ length v.trace = omega arith in
        record {
          base_is = f.base;
          more = f.seen.more;
          is = f.seen.is;
          others = none_after f.seen.more f.seen.others (all_after (λ state. name_count w (name_at state) ≡ 0) w.trace v.trace g.seen.more f.seen.more last.trace g.seen.is f.seen.is le g.seen.others);
          long = f.long;
          other_is = g.base;
          front = front_between w.trace v.trace g.seen.more f.seen.more last.trace g.seen.is f.seen.is le;
        }

-- Joining two views keeps the rule.
pub joins : {S : Type 0} (value : S → HeldValue) (passes id other : ℕ) (v w : Sight) → 0 < v.parts → v.waits ≡ false → v.turn ≡ false → 0 < w.parts → w.waits ≡ false → w.turn ≡ false
    → Joins (Kept value passes) id v other w (joined_view v w) spent_view
joins {S} value passes id other v w some_part idle no_turn some_other idle_other no_turn_other s k at ne there =
    let both = joined_view v w in
    let gone = spent_view in
    let first = set s.views id both in
    let was : get_elem? s.views other ≡ some w = sym (set_else s.views id other both ne) ∙ there in
    let here = live k.last passes k.drawn k.served v some_part (k.each id v at) in
    let from = live k.last passes k.drawn k.served w some_other (k.each other w was) in
    let together : (n : ℕ) → name_count both n ≡ name_count v n + name_count w n = λ n. held_joined v w n (here.names n) (from.names n) in
    let sees = join_sees k.last passes k.drawn k.served v w together here from in
    let mine : Stands k.last passes k.drawn k.served both = inl (omega arith, record { all = here.all; base = sees.base_is; settings = here.settings; seen = record { more = sees.more; is = sees.is; others = sees.others }; long = sees.long; other = (sees.other_is, sees.front); names = λ n. names_joined v w n (here.names n) (from.names n); ticket = λ t. absurd (not_both v.waits t idle); turn = λ t. absurd (not_both v.turn t no_turn) }) in
    let is_gone : Stands k.last passes k.drawn k.served gone = inr record { parts = refl; claims = refl; commits = refl; struck = refl; own = refl; whole = refl; received = refl; handed = refl; waits = refl; turn = refl } in
    record {
      last = k.last;
      drawn = k.drawn;
      served = k.served;
      words = k.words;
      few = k.few;
      long = k.long;
      parts = let t = total_set (λ u. u.parts) s.views id v both at in let a = total_set (λ u. u.parts) first other w gone there in let p = k.parts in omega arith;
      waiting = let t = total_set (λ u. count u.waits) s.views id v both at in let a = total_set (λ u. count u.waits) first other w gone there in let i = ap count idle_other in let p = k.waiting in omega arith;
      claims = let t = total_set (λ u. u.claims) s.views id v both at in let a = total_set (λ u. u.claims) first other w gone there in let p = k.claims in omega arith;
      commits = let t = total_set (λ u. u.commits) s.views id v both at in let a = total_set (λ u. u.commits) first other w gone there in let p = k.commits in omega arith;
      struck = let t = total_set (λ u. u.struck) s.views id v both at in let a = total_set (λ u. u.struck) first other w gone there in let p = k.struck in omega arith;
      own = λ p. let t = total_set (λ u. times p u.own) s.views id v both at in let a = total_set (λ u. times p u.own) first other w gone there in let d = times-append p v.own w.own in let q = k.own p in omega arith;
      names = λ n. let t = total_set (λ u. name_count u n) s.views id v both at in let a = total_set (λ u. name_count u n) first other w gone there in let b = together n in let q = k.names n in omega arith;
      home = home_set value k.last s.homes first other w gone there (sym no_turn_other) (home_set value k.last s.homes s.views id v both at refl k.home);
      each = each_set (λ j u. Stands k.last passes k.drawn k.served u) first other gone (λ j u _ e. each_set (λ i a. Stands k.last passes k.drawn k.served a) s.views id both (λ i a _ f. k.each i a f) mine j u e) is_gone;
      apart = apart_set first other gone (apart_set s.views id both k.apart (λ t. absurd (not_both v.waits t idle))) (λ t. absurd (true≢false (sym t)));
    }

-- ---- opening

-- The first view of a value that was just shared meets the rule.
pub opens : {S : Type 0} (value : S → HeldValue) (passes : ℕ) (y : S) → 0 < passes → passes < 2 ^ 32 → (value y).trace ≡ [] → Kept value passes (opening (0 ∷ 0 ∷ []) (Some y ∷ []) (opener passes (value y)))
opens {S} value passes y some_pass few empty = record {
  last = value y;
  drawn = 0;
  served = 0;
  words = refl;
  few = few;
  long = long_here;
  parts = omega arith;
  waiting = refl;
  claims = let e = ap (λ t. claims_of (last_from (value y).base t)) empty in omega arith;
  commits = let e = ap (λ t. commits_of (last_from (value y).base t)) empty in omega arith;
  struck = let e = ap (λ t. (last_from (value y).base t).faults) empty in omega arith;
  own = λ p. sym (ap (λ n. once_from (length_of (value y).base) n p) (ap length empty) ∙ nothing_from (length_of (value y).base) p);
  names = λ n. refl;
  home = inl (y, refl, refl, alone (λ u. u.turn ≡ false) refl);
  each = alone (λ u. Stands (value y) passes 0 0 u) (inl (some_pass, record { all = refl; base = refl; settings = refl; seen = whole_front (opener passes (value y)) (value y).trace refl; long = long_here; other = (refl, ((value y).trace, refl)); names = λ n. omega arith; ticket = λ t. absurd (true≢false (sym t)); turn = λ t. absurd (true≢false (sym t)) }));
  apart = λ i j v w at_i at_j waits. absurd (not_both v.waits waits (alone (λ u. u.waits ≡ false) refl i v at_i));
}
  where
    long_none : IsLong (value y).base []
    long_none = omega arith

    long_here : IsLong (value y).base (value y).trace
    long_here = subst (IsLong (value y).base) (sym empty) long_none

    alone : (P : Sight → Type 0) → P (opener passes (value y)) → (i : ℕ) (v : Sight) → get_elem? (opener passes (value y) ∷ []) i ≡ some v → P v
    alone P p zero v e = subst P (some-injective (opener passes (value y)) v e) p
    alone P p (suc i) v e = absurd (some-ne-none v (sym e))

    nothing_from : (start p : ℕ) → once_from start 0 p ≡ 0
    nothing_from start p = grind (arith, nat_tests)

-- ---- a look with no ticket

-- Looking without a ticket keeps the rule, and tells what the joined histories have in common.
pub tells : {S : Type 0} (value : S → HeldValue) (passes id : ℕ) (v : Sight) → 0 < v.parts → Allows (Kept value passes) 1 id (v, []) 1 (λ n. n) (Tells (step 1 1 0 0 none) (v, []))
tells {S} value passes id v some_part s k deep at fits =
    let still : set s.views id v ≡ s.views = set_again s.views id v at in
    let same_words : set s.words 1 (slice_index s.words 1) ≡ s.words = ap (λ ws. set ws 1 (slice_index ws 1)) k.words ∙ sym k.words in
    let state : State (Option S) Sight = record { words = set s.words 1 (slice_index s.words 1); homes = s.homes; views = set s.views id v } in
    let kept : Kept value passes state = subst (Kept value passes) (λ i. record { words = sym same_words i; homes = s.homes; views = sym still i }) k in
    let le = total_at (λ u. u.parts) s.views id v at in
    let p = k.parts in
    let f = k.few in
    let here = live k.last passes k.drawn k.served v some_part (k.each id v at) in
    (v, keeps, tt, kept, (refl, omega arith, here.other.0 ∙ sym here.base, here.other.1))

-- ---- the same at a seat whose view is known

pub splits_as : {S : Type 0} (value : S → HeldValue) (passes id : ℕ) (v u : Sight) (name : ℕ) → v ≡ u → 1 < u.parts → HoldsName u name → Splits (Kept value passes) id v (keeps_less v name) (newcomer v name)
splits_as {S} value passes id v u name is two holds = splits value passes id v name (subst (λ (a : Sight). 1 < a.parts) (sym is) two) (subst (λ (a : Sight). HoldsName a name) (sym is) holds)

pub joins_as : {S : Type 0} (value : S → HeldValue) (passes id other : ℕ) (v w a b : Sight) → v ≡ a → w ≡ b → 0 < a.parts → a.waits ≡ false → a.turn ≡ false → 0 < b.parts → b.waits ≡ false → b.turn ≡ false
    → Joins (Kept value passes) id v other w (joined_view v w) spent_view
joins_as {S} value passes id other v w a b is_v is_w p q r p' q' r' = subst (λ (x : Sight × Sight). Joins (Kept value passes) id x.0 other x.1 (joined_view x.0 x.1) spent_view) (λ i. (sym is_v i, sym is_w i)) (joins value passes id other a b p q r p' q' r')

pub tells_as : {S : Type 0} (value : S → HeldValue) (passes slots id : ℕ) (me : Me (Option S) Sight) → slots ≡ 1 → me.1 ≡ [] → 0 < me.0.parts → Allows (Kept value passes) slots id me 1 (λ n. n) (Tells (step slots 1 0 0 none) me)
tells_as {S} value passes slots id me one none_held some_part = subst (λ (x : ℕ × Me (Option S) Sight). Allows (Kept value passes) x.0 id x.1 1 (λ n. n) (Tells (step x.0 1 0 0 none) x.1)) (λ i. (sym one i, (me.0, sym none_held i))) (tells value passes id me.0 some_part)

pub draws_as : {S : Type 0} (value : S → HeldValue) (passes slots id : ℕ) (me : Me (Option S) Sight) → slots ≡ 1 → me.1 ≡ [] → 0 < me.0.parts → me.0.waits ≡ false → me.0.turn ≡ false
    → Allows (Kept value passes) slots id me 0 (λ n. (n + 1) % 2 ^ 64) (Draws (step slots 0 1 0 none) me)
draws_as {S} value passes slots id me one none_held p q r = subst (λ (x : ℕ × Me (Option S) Sight). Allows (Kept value passes) x.0 id x.1 0 (λ n. (n + 1) % 2 ^ 64) (Draws (step x.0 0 1 0 none) x.1)) (λ i. (sym one i, (me.0, sym none_held i))) (draws value passes id me.0 p q r)

pub looks_as : {S : Type 0} (value : S → HeldValue) (passes slots id : ℕ) (me : Me (Option S) Sight) → slots ≡ 1 → me.1 ≡ [] → me.0.waits ≡ true → me.0.turn ≡ false
    → Allows (Kept value passes) slots id me 1 (λ n. n) (Looks value (step slots 1 0 0 none) me)
looks_as {S} value passes slots id me one none_held p q = subst (λ (x : ℕ × Me (Option S) Sight). Allows (Kept value passes) x.0 id x.1 1 (λ n. n) (Looks value (step x.0 1 0 0 none) x.1)) (λ i. (sym one i, (me.0, sym none_held i))) (looks value passes id me.0 p q)

pub serves_as : {S : Type 0} (value : S → HeldValue) (passes slots id : ℕ) (me : Me (Option S) Sight) (y : S) → slots ≡ 1 → me.1 ≡ (0, Some y) ∷ [] → me.0.turn ≡ true → Follows me.0 (value y)
    → Allows (Kept value passes) slots id me 1 (λ n. (n + 1) % 2 ^ 64) (Serves value (step slots 1 1 0 none) me)
serves_as {S} value passes slots id me y one held p q = subst (λ (x : ℕ × Me (Option S) Sight). Allows (Kept value passes) x.0 id x.1 1 (λ n. (n + 1) % 2 ^ 64) (Serves value (step x.0 1 1 0 none) x.1)) (λ i. (sym one i, (me.0, sym held i))) (serves value passes id me.0 y p q)
