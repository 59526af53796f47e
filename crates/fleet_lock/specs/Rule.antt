-- The rule of the lock, over plain data: what holds of the words, the slot and the views of all passes between any two
-- steps, and what each kind of step makes of a view.
use Rattle.std.specs.Prelude.{◌≡◌, ◌⊎◌, ℕ, ◌+◌, ◌-◌, ◌%◌, ◌^◌, ◌<◌, ◌≤◌, nat_lt, if◌then◌else◌, List, [], ◌∷◌, ◌++◌, length, Bool, true, false, Option, Some, None}
use Rattle.std.specs.List.{AllByRecursion}
use mathlib.Core.Option.{some, none}
use lib.ListN.{get_elem?}
use Rattle.atomic_table.specs.Table.{State, Me, Step, rest}
use Rattle.step_model.specs.Past.{fresh_world}
use Rattle.fleet_history.specs.declared.party.Party.TheVariants.{Writer}
use Rattle.fleet_store.specs.Memory.{StoreParts}
use Rattle.fleet_lock.specs.Held.{HeldValue, last_from, store_of}
use Rattle.fleet_lock.specs.Names.{name_at}
use Rattle.fleet_lock.specs.Counts.{count, times, total, once_from, claims_of, commits_of, length_of}
use Rattle.fleet_lock.specs.declared.sight.Sight.{Sight}

-- A store that a view without parts is said to have seen. Nothing depends on it.
abbrev pub no_store : StoreParts
no_store =
    record { world = fresh_world; history = []; line = 0; party = Writer; faults = 0; waits = None; processed = [] }

-- ---- a view

-- The store as the view has seen it.
abbrev pub seen_of : Sight → StoreParts
seen_of v = last_from v.base v.trace

-- 1 if the view holds the name, and otherwise 0: it received the name, and did not hand it on.
abbrev pub name_count : Sight → ℕ → ℕ
name_count v name = (v.whole + times name v.received) - times name v.handed

abbrev pub HoldsName : Sight → ℕ → Type 0
HoldsName v name = 0 < name_count v name

-- The view has seen a front of these states, and what came after that is of parties whose names it does not hold.
pub record Front (v : Sight) (states : List StoreParts) : Type 0 where
  pub more : List StoreParts
  pub is : v.trace ++ more ≡ states
  pub others : AllByRecursion (λ state. name_count v (name_at state) ≡ 0) more

-- The first list is a front of the second.
abbrev pub IsFront : (front all : List StoreParts) → Type 0
IsFront front all = (more : List StoreParts) × (front ++ more ≡ all)

-- The history of the last state is as much longer than the first one's as there are states.
abbrev pub IsLong : StoreParts → List StoreParts → Type 0
IsLong base trace = length_of (last_from base trace) ≡ length_of base + length trace

-- ---- the rule

-- A view that has parts. `last` is the value that was last at home. Tickets below `drawn` were drawn, and those below
-- `served` served.
pub record Fits (last : HeldValue) (passes drawn served : ℕ) (v : Sight) : Type 0 where
  pub all : v.all ≡ passes
  pub base : v.base ≡ last.base
  pub settings : v.settings ≡ last.settings
  pub seen : Front v last.trace
  pub long : IsLong v.base v.trace
  pub other : (v.other_base ≡ last.base) × IsFront v.other_trace v.trace
  pub names : (name : ℕ) → times name v.handed ≤ v.whole + times name v.received
  pub ticket : v.waits ≡ true → (served ≤ v.ticket) × (v.ticket < drawn)
  pub turn : v.turn ≡ true → (v.waits ≡ true) × (v.ticket ≡ served) × (v.trace ≡ last.trace)

-- A view without parts has no shares, no places and no names.
pub record IsSpent (v : Sight) : Type 0 where
  pub parts : v.parts ≡ 0
  pub claims : v.claims ≡ 0
  pub commits : v.commits ≡ 0
  pub struck : v.struck ≡ 0
  pub own : v.own ≡ []
  pub whole : v.whole ≡ 0
  pub received : v.received ≡ []
  pub handed : v.handed ≡ []
  pub waits : v.waits ≡ false
  pub turn : v.turn ≡ false

abbrev pub Stands : HeldValue → (passes drawn served : ℕ) → Sight → Type 0
Stands last passes drawn served v = ((0 < v.parts) × Fits last passes drawn served v) ⊎ IsSpent v

abbrev pub NoTurn : List Sight → Type 0
NoTurn views = (i : ℕ) (v : Sight) → get_elem? views i ≡ some v → v.turn ≡ false

abbrev pub HasTurn : List Sight → Type 0
HasTurn views = (i : ℕ) × (v : Sight) × (get_elem? views i ≡ some v) × (v.turn ≡ true)

-- The rule. `value` reads what the slot holds. Word 0 counts the tickets that were drawn, word 1 those that were
-- served. The shares of all views are the numbers of the calls since the store was shared, each place and each name
-- is of one view, and the value is at home or out with the view whose turn it is.
pub record Kept {S : Type 0} (value : S → HeldValue) (passes : ℕ) (s : State (Option S) Sight) : Type 0 where
  pub last : HeldValue
  pub drawn : ℕ
  pub served : ℕ
  pub words : s.words ≡ drawn % 2 ^ 64 ∷ served % 2 ^ 64 ∷ []
  pub few : passes < 2 ^ 32
  pub long : IsLong last.base last.trace
  pub parts : total (λ v. v.parts) s.views ≡ passes
  pub waiting : drawn ≡ served + total (λ v. count v.waits) s.views
  pub claims : total (λ v. v.claims) s.views + claims_of last.base ≡ claims_of (store_of last)
  pub commits : total (λ v. v.commits) s.views + commits_of last.base ≡ commits_of (store_of last)
  pub struck : total (λ v. v.struck) s.views + last.base.faults ≡ (store_of last).faults
  pub own : (place : ℕ)
      → total (λ v. times place v.own) s.views ≡ once_from (length_of last.base) (length last.trace) place
  pub names : (name : ℕ) → total (λ v. name_count v name) s.views ≡ 1
  pub home : ((x : S) × (s.homes ≡ some (Some x) ∷ []) × (value x ≡ last) × NoTurn s.views)
      ⊎ ((s.homes ≡ none ∷ []) × HasTurn s.views)
  pub each : (i : ℕ) (v : Sight) → get_elem? s.views i ≡ some v → Stands last passes drawn served v
  pub apart : (i j : ℕ) (v w : Sight) → get_elem? s.views i ≡ some v → get_elem? s.views j ≡ some w
      → v.waits ≡ true → w.waits ≡ true → v.ticket ≡ w.ticket → i ≡ j

-- ---- the view after each kind of step

-- The view of the first pass.
abbrev pub opener : ℕ → HeldValue → Sight
opener passes h = record {
  base = h.base;
  trace = h.trace;
  other_base = h.base;
  other_trace = [];
  settings = h.settings;
  all = passes;
  parts = passes;
  claims = 0;
  commits = 0;
  struck = 0;
  own = [];
  whole = 1;
  received = [];
  handed = [];
  waits = false;
  ticket = 0;
  turn = false;
}

-- The view that is split: it has one part less and hands on the name.
abbrev pub keeps_less : Sight → ℕ → Sight
keeps_less v name = record v { parts = v.parts - 1; handed = name ∷ v.handed }

-- The new view: it has one part and the name, and has seen the same.
abbrev pub newcomer : Sight → ℕ → Sight
newcomer v name = record v {
  parts = 1;
  claims = 0;
  commits = 0;
  struck = 0;
  own = [];
  whole = 0;
  received = name ∷ [];
  handed = [];
  waits = false;
  ticket = 0;
  turn = false;
}

-- True if the first view has seen less than the second.
abbrev pub sees_less : (v w : Sight) → Bool
sees_less v w = nat_lt (length_of (seen_of v)) (length_of (seen_of w))

-- What the one of the two has seen that has seen more, and what the other has seen.
abbrev pub longer : (v w : Sight) → List StoreParts
longer v w = if sees_less v w then w.trace else v.trace

abbrev pub shorter : (v w : Sight) → List StoreParts
shorter v w = if sees_less v w then v.trace else w.trace

-- The view that another one is joined to.
abbrev pub joined_view : (v w : Sight) → Sight
joined_view v w = record v {
  base = if sees_less v w then w.base else v.base;
  trace = longer v w;
  other_base = if sees_less v w then v.base else w.base;
  other_trace = shorter v w;
  parts = v.parts + w.parts;
  claims = v.claims + w.claims;
  commits = v.commits + w.commits;
  struck = v.struck + w.struck;
  own = v.own ++ w.own;
  whole = v.whole + w.whole;
  received = v.received ++ w.received;
  handed = v.handed ++ w.handed;
}

-- The view that is given up.
abbrev pub spent_view : Sight
spent_view = record {
  base = no_store;
  trace = [];
  other_base = no_store;
  other_trace = [];
  settings = [];
  all = 0;
  parts = 0;
  claims = 0;
  commits = 0;
  struck = 0;
  own = [];
  whole = 0;
  received = [];
  handed = [];
  waits = false;
  ticket = 0;
  turn = false;
}

abbrev pub with_ticket : Sight → ℕ → Sight
with_ticket v t = record v { waits = true; ticket = t }

abbrev pub with_turn : Sight → HeldValue → Sight
with_turn v h = record v { trace = h.trace; turn = true }

-- The place of a new entry, if there is one.
abbrev pub place_of : (start : ℕ) → (old new : List StoreParts) → List ℕ
place_of start old new = if nat_lt (length old) (length new) then (start + length old) ∷ [] else []

-- The view after its call, given the value that it gives back.
abbrev pub after_serving : Sight → HeldValue → Sight
after_serving v h = record v {
  trace = h.trace;
  claims = v.claims + (claims_of (store_of h) - claims_of (seen_of v));
  commits = v.commits + (commits_of (store_of h) - commits_of (seen_of v));
  struck = v.struck + ((store_of h).faults - (seen_of v).faults);
  own = v.own ++ place_of (length_of v.base) v.trace h.trace;
  waits = false;
  ticket = 0;
  turn = false;
}

-- The value that the view gives back has what the view saw, and at most one state more, which is by a party whose name
-- the view holds.
pub record Follows (v : Sight) (h : HeldValue) : Type 0 where
  pub base : h.base ≡ v.base
  pub settings : h.settings ≡ v.settings
  pub more : List StoreParts
  pub is : v.trace ++ more ≡ h.trace
  pub few : length more ≤ 1
  pub long : IsLong h.base h.trace
  pub mine : AllByRecursion (λ state. HoldsName v (name_at state)) more
  pub claims : claims_of (seen_of v) ≤ claims_of (store_of h)
  pub commits : commits_of (seen_of v) ≤ commits_of (store_of h)
  pub struck : (seen_of v).faults ≤ (store_of h).faults

-- ---- what a caller learns of each kind of step

abbrev pub Draws : {S : Type 0} → (s : Step (Option S)) (me : Me (Option S) Sight) (found : ℕ)
    (now : Me (Option S) Sight) → Type 0
Draws s me found now = (t : ℕ) × (now ≡ (with_ticket me.0 t, me.1)) × (found ≡ t % 2 ^ 64)

-- The view has all that was since the store was shared.
pub record HasWhole (v : Sight) (h : HeldValue) : Type 0 where
  pub claims : v.claims + claims_of h.base ≡ claims_of (store_of h)
  pub commits : v.commits + commits_of h.base ≡ commits_of (store_of h)
  pub struck : v.struck + h.base.faults ≡ (store_of h).faults
  pub own : (place : ℕ) → times place v.own ≡ once_from (length_of h.base) (length h.trace) place
  pub names : (name : ℕ) → HoldsName v name

-- The value that the view finds.
pub record IsFoundBy (v : Sight) (h : HeldValue) : Type 0 where
  pub base : h.base ≡ v.base
  pub settings : h.settings ≡ v.settings
  pub front : Front v h.trace
  pub whole : v.parts ≡ v.all → HasWhole v h

abbrev pub GetsTurn : {S : Type 0} → (S → HeldValue) → Sight → Me (Option S) Sight → Type 0
GetsTurn {S} value v me = (x : S) × (me ≡ (with_turn v (value x), (0, Some x) ∷ [])) × IsFoundBy v (value x)

abbrev pub IsWaiting : {S : Type 0} → Me (Option S) Sight → ℕ → Type 0
IsWaiting me ticket = (me.1 ≡ []) × (me.0.waits ≡ true) × (me.0.turn ≡ false) × (ticket ≡ me.0.ticket % 2 ^ 64)

abbrev pub Looks : {S : Type 0} → (value : S → HeldValue) (s : Step (Option S)) (me : Me (Option S) Sight) (found : ℕ)
    (now : Me (Option S) Sight) → Type 0
Looks value s me found now =
    ((found ≡ me.0.ticket % 2 ^ 64) × GetsTurn value me.0 now)
    ⊎ ((¬ (found ≡ me.0.ticket % 2 ^ 64)) × (now ≡ me))

abbrev pub Serves : {S : Type 0} → (value : S → HeldValue) (s : Step (Option S)) (me : Me (Option S) Sight) (found : ℕ)
    (now : Me (Option S) Sight) → Type 0
Serves {S} value s me found now =
    (x : S) × (me.1 ≡ (0, Some x) ∷ rest me.1) × (now ≡ (after_serving me.0 (value x), rest me.1))

-- A look with no ticket. What was joined last is of the same store, and of the two histories the shorter is a front of
-- the longer.
abbrev pub Tells : {S : Type 0} → (s : Step (Option S)) (me : Me (Option S) Sight) (found : ℕ)
    (now : Me (Option S) Sight) → Type 0
Tells s me found now =
    (now ≡ me) × (me.0.parts < 2 ^ 32) × (me.0.other_base ≡ me.0.base) × IsFront me.0.other_trace me.0.trace
