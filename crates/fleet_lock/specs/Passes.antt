-- A pass, as plain data, and what it shows of the store.
use Rattle.std.specs.Prelude.{◌≡◌, ℕ, ◌+◌, ◌-◌, ◌^◌, ◌<◌, ◌≤◌, min, List, [], ◌∷◌, ◌++◌, length, false}
use Rattle.row_model.specs.Fold.{Operator}
use Rattle.step_model.specs.Views.{SameCaller, StoreView}
use Rattle.atomic_table.specs.Seated.{TableId}
use Rattle.fleet_history.specs.Parties.{party_of}
use Rattle.fleet_history.specs.declared.party.Party.{Party}
use Rattle.fleet_history.specs.declared.party.Party.TheVariants.{Writer}
use Rattle.fleet_store.specs.Memory.{StoreParts}
use Rattle.fleet_lock.specs.Names.{name_of}
use Rattle.fleet_lock.specs.Counts.{length_of, times}
use Rattle.fleet_lock.specs.Rule.{HoldsName, name_count, seen_of, spent_view}
use Rattle.fleet_lock.specs.declared.sight.Sight.{Sight}
use Rattle.fleet_lock.specs.declared.tally.Tally.{Tally}

-- The store that the pass is of, what it knows and has, and the line and the party of its entries.
pub record PassValue : Type 0 where
  pub table : TableId
  pub sight : Sight
  pub line : ℕ
  pub party : Party

abbrev pub first_view : List Sight → Sight
first_view [] = spent_view
first_view (v ∷ vs) = v

-- A view between calls.
abbrev pub IsIdle : Sight → Type 0
IsIdle v = (v.waits ≡ false) × (v.turn ≡ false)

-- The pass holds the name of this party.
abbrev pub MayCarry : PassValue → Party → Type 0
MayCarry pass party = HoldsName pass.sight (name_of (party_of party))

-- The numbers are those of the view: the length of the history that it has seen, and its shares of the claims and the
-- commits, which are told up to the greatest number.
pub record IsTally (tally : Tally) (v : Sight) : Type 0 where
  pub seen_is : tally.seen ≡ length_of (seen_of v)
  pub claims_are : tally.claims ≡ min v.claims (2 ^ 64 - 1)
  pub commits_are : tally.commits ≡ min v.commits (2 ^ 64 - 1)

-- What a pass keeps: it is between calls, and holds the name of the party that it carries.
pub record IsPass (views : List Sight) (parts : ℕ) (tally : Tally) (party : Party) : Type 0 where
  pub one : views ≡ first_view views ∷ []
  pub idle : IsIdle (first_view views)
  pub parts_are : parts ≡ (first_view views).parts
  pub some_part : 0 < parts
  pub tally_is : IsTally tally (first_view views)
  pub name : HoldsName (first_view views) (name_of (party_of party))
  pub names : (name : ℕ)
      → times name (first_view views).handed ≤ (first_view views).whole + times name (first_view views).received

-- The first pass has all parts and all names, and has seen the store that was shared.
pub record IsFirst (passes : ℕ) (store : StoreParts) (settings : List ℕ) (pass : PassValue) : Type 0 where
  pub all : pass.sight.all ≡ passes
  pub parts : pass.sight.parts ≡ passes
  pub base : pass.sight.base ≡ store
  pub trace : pass.sight.trace ≡ []
  pub settings_are : pass.sight.settings ≡ settings
  pub claims : pass.sight.claims ≡ 0
  pub commits : pass.sight.commits ≡ 0
  pub struck : pass.sight.struck ≡ 0
  pub own : pass.sight.own ≡ []
  pub names : (name : ℕ) → HoldsName pass.sight name
  pub line : pass.line ≡ 0
  pub party : pass.party ≡ Writer

-- ---- what a pass shows of the store

-- The numbers of a list, after their number.
abbrev pub with_length : List ℕ → List ℕ
with_length numbers = length numbers ∷ numbers

-- The numbers that tell which shared store it is.
abbrev pub table_numbers : TableId → List ℕ
table_numbers table =
    table.words ∷ table.slots ∷ table.views_name ∷ table.atom ∷ table.block ∷ table.offset ∷ table.slot_names

-- The names of a view, and its parts.
abbrev pub names_in : Sight → List ℕ
names_in v = with_length v.received ++ (with_length v.handed ++ (v.all ∷ v.parts ∷ v.whole ∷ []))

-- What no call changes: the shared store, the settings of its operator, and the names and the parts of the pass.
abbrev pub place_in : PassValue → List ℕ
place_in pass = with_length (table_numbers pass.table) ++ (with_length pass.sight.settings ++ names_in pass.sight)

-- What the pass shows of the store. `folds` gives the operator's fold by its settings.
abbrev pub pass_view : (folds : List ℕ → Operator) → (lent : ℕ) → PassValue → StoreView
pass_view folds lent pass = record {
  who = record { merge = folds pass.sight.settings; line = pass.line; party = party_of pass.party; alone = false };
  world = (seen_of pass.sight).world;
  faults = pass.sight.struck;
  waits = (seen_of pass.sight).waits;
  processed = (seen_of pass.sight).processed;
  lent = lent;
  place = place_in pass;
}

-- ---- what no call changes

-- The pass is still of the same store, and has the same parts and names, and the same line and party.
pub record SamePass (old new : PassValue) : Type 0 where
  pub table : new.table ≡ old.table
  pub settings : new.sight.settings ≡ old.sight.settings
  pub names : (name : ℕ) → name_count new.sight name ≡ name_count old.sight name
  pub all : new.sight.all ≡ old.sight.all
  pub parts : new.sight.parts ≡ old.sight.parts
  pub line : new.line ≡ old.line
  pub party : party_of new.party ≡ party_of old.party

-- Two views of one caller are views of one pass.
abbrev pub CallersKeepPasses : Type 0
CallersKeepPasses = (folds : List ℕ → Operator) (lent : ℕ) (old new : PassValue)
    → SameCaller (pass_view folds lent old) (pass_view folds lent new) → SamePass old new
