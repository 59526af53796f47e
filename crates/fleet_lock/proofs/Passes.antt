-- What passes keep that are made, split and joined.
use Rattle.std.proofs.Common.{◌≡◌, ◌≢◌, ℕ, ◌+◌, ◌-◌, ◌^◌, ◌<◌, ◌≤◌, ◌==◌, List, [], ◌∷◌, max, min, Bool, true, false, refl, sym, ap, subst, arith}
use Rattle.std.specs.Prelude.{if◌then◌else◌}
use Rattle.std.proofs.lemmas.Bool.{eqb-true}
use Rattle.fleet_history.specs.Parties.{party_of}
use Rattle.fleet_history.specs.declared.party.Party.{Party}
use Rattle.fleet_lock.specs.Held.{last_from}
use Rattle.fleet_lock.specs.Names.{name_of}
use Rattle.fleet_lock.specs.Counts.{count, length_of, times}
use Rattle.fleet_lock.specs.Rule.{HoldsName, joined_view, keeps_less, name_count, seen_of, sees_less}
use Rattle.fleet_lock.specs.Passes.{IsPass, IsTally, first_view}
use Rattle.fleet_lock.specs.declared.sight.Sight.{Sight}
use Rattle.fleet_lock.specs.declared.tally.Tally.{Tally}
use Rattle.fleet_lock.proofs.Fronts.{below, not_below}
use Rattle.fleet_lock.proofs.Totals.{held_joined, held_split, names_joined, names_split}

-- ---- splitting

-- A view holds another name still, once it has handed one on.
still_holds : (v : Sight) (name own : ℕ) → ((n : ℕ) → times n v.handed ≤ v.whole + times n v.received) → HoldsName v name → HoldsName v own → name ≢ own → HoldsName (keeps_less v name) own
still_holds v name own names holds mine other = by (name == own) refl (held_split v name own names holds)
  where
    by : (b : Bool) → (name == own) ≡ b → name_count (keeps_less v name) own + ((0 + (count b + 0)) - 0) ≡ name_count v own → HoldsName (keeps_less v name) own
    by true e together = absurd (other (eqb-true name own e))
    by false e together = omega arith

-- A pass that hands on another name than its party's is still a pass.
pub split_keeps : (views after : List Sight) (parts : ℕ) (tally : Tally) (name : ℕ) (party : Party) → IsPass views parts tally party → after ≡ keeps_less (first_view views) name ∷ [] → 1 < parts → HoldsName (first_view views) name → name ≢ name_of (party_of party)
    → IsPass after (parts - 1) tally party
split_keeps views after parts tally name party is now two holds other =
    let v = first_view views in
    let kept : IsPass (keeps_less v name ∷ []) (parts - 1) tally party = record {
      one = refl;
      idle = is.idle;
      parts_are = ap (λ n. n - 1) is.parts_are;
      some_part = omega arith;
      tally_is = record { seen_is = is.tally_is.seen_is; claims_are = is.tally_is.claims_are; commits_are = is.tally_is.commits_are };
      name = still_holds v name (name_of (party_of party)) is.names holds is.name other;
      names = λ n. names_split v name n is.names holds;
    } in
    subst (λ vs. IsPass vs (parts - 1) tally party) (sym now) kept

-- ---- joining

-- The longer of the two histories is as long as the greater of their lengths.
max_seen : (v w : Sight) (m n : ℕ) → m ≡ length_of (seen_of v) → n ≡ length_of (seen_of w) → max m n ≡ length_of (seen_of (joined_view v w))
max_seen v w m n a b = by (sees_less v w) refl
  where
    by : (less : Bool) → sees_less v w ≡ less → max m n ≡ length_of (last_from (if less then w.base else v.base) (if less then w.trace else v.trace))
    by true e = let le = below (length_of (seen_of v)) (length_of (seen_of w)) e in omega arith
    by false e = let le = not_below (length_of (seen_of v)) (length_of (seen_of w)) e in omega arith

-- The tally of the two views.
abbrev pub joined_tally : Tally → Tally → Tally
joined_tally tally other = record {
  seen = max tally.seen other.seen;
  claims = min (tally.claims + other.claims) (2 ^ 64 - 1);
  commits = min (tally.commits + other.commits) (2 ^ 64 - 1);
}

tally_joined : (v w : Sight) (tally other : Tally) → IsTally tally v → IsTally other w → IsTally (joined_tally tally other) (joined_view v w)
tally_joined v w tally other is from =
    let claims = is.claims_are in
    let commits = is.commits_are in
    let other_claims = from.claims_are in
    let other_commits = from.commits_are in
    record {
      seen_is = max_seen v w tally.seen other.seen is.seen_is from.seen_is;
      claims_are = omega arith;
      commits_are = omega arith;
    }

-- A pass that takes over another one is still a pass, with the parts of both.
pub join_keeps : (views others after : List Sight) (parts other_parts : ℕ) (tally other_tally : Tally) (party other_party : Party) → IsPass views parts tally party → IsPass others other_parts other_tally other_party
    → after ≡ joined_view (first_view views) (first_view others) ∷ [] → IsPass after (parts + other_parts) (joined_tally tally other_tally) party
join_keeps views others after parts other_parts tally other_tally party other_party is from now =
    let v = first_view views in
    let w = first_view others in
    let together = held_joined v w (name_of (party_of party)) (is.names (name_of (party_of party))) (from.names (name_of (party_of party))) in
    let mine = is.name in
    let some = is.some_part in
    let own_parts = is.parts_are in
    let from_parts = from.parts_are in
    let kept : IsPass (joined_view v w ∷ []) (parts + other_parts) (joined_tally tally other_tally) party = record {
      one = refl;
      idle = is.idle;
      parts_are = omega arith;
      some_part = omega arith;
      tally_is = tally_joined v w tally other_tally is.tally_is from.tally_is;
      name = omega arith;
      names = λ n. names_joined v w n (is.names n) (from.names n);
    } in
    subst (λ vs. IsPass vs (parts + other_parts) (joined_tally tally other_tally) party) (sym now) kept

-- What a look says of two views that were joined.
pub same_base : (v w : Sight) → (joined_view v w).other_base ≡ (joined_view v w).base → w.base ≡ v.base
same_base v w = by (sees_less v w)
  where
    by : (less : Bool) → (if less then v.base else w.base) ≡ (if less then w.base else v.base) → w.base ≡ v.base
    by true e = sym e
    by false e = e
