-- A call through a pass, as the methods of its store have it.
use Rattle.std.proofs.Common.{◌≡◌, ℕ, ◌+◌, ◌≤◌, List, [], ◌∷◌, Bool, Option, Result, sym, ap, ◌∙◌, subst}
use Rattle.row_model.specs.Fold.{Operator}
use Rattle.fleet_model.specs.Exchanges.{Exchange}
use Rattle.fleet_model.specs.Store.{Store}
use Rattle.fleet_tree.specs.declared.manifest.Manifest.{Manifest}
use Rattle.fleet_jobs.specs.Parts.JobParts.{JobParts}
use Rattle.fleet_book.specs.VersionedRecords.{VersionedRecords}
use Rattle.fleet_book.specs.declared.compactions.Compactions.{Compactions}
use Rattle.fleet_history.specs.declared.manifest_change.ManifestChange.{ManifestChange}
use Rattle.fleet_history.specs.declared.record_change.RecordChange.{RecordChange}
use Rattle.fleet_history.specs.Parties.{party_of}
use Rattle.fleet_rows.specs.declared.errors.SlateDBError.{SlateDBError}
use Rattle.fleet_store.specs.Asks.{MayCall, ManifestPutFits, RecordsPutFit, GetsRecords, PutsRecords}
use Rattle.fleet_store.specs.Called.{Called}
use Rattle.fleet_lock.specs.Held.{HeldValue, store_of}
use Rattle.fleet_lock.specs.Names.{name_of}
use Rattle.fleet_lock.specs.Counts.{times}
use Rattle.fleet_lock.specs.Rule.{HoldsName, Follows, with_ticket, with_turn, after_serving}
use Rattle.fleet_lock.specs.Passes.{PassValue, IsPass, IsTally, first_view, pass_view}
use Rattle.fleet_lock.specs.Calls.{Alone, CallStands, Grows, Finds, is_made, lone_view}
use Rattle.fleet_lock.specs.declared.sight.Sight.{Sight}
use Rattle.fleet_lock.specs.declared.tally.Tally.{Tally}
use Rattle.fleet_lock.proofs.Shared.{call_stands, called_shared, follows_found, gets_shared, may_call, may_put_manifest, may_put_records, pass_kept, puts_shared}

-- `inside` is the pass as the code has it, `s` the view of its seat, and `h` the value that it finds.
module _ (folds : List ℕ → Operator) (lent : ℕ) (inside old : PassValue) (is : inside ≡ old) (s : Sight) (seat : s ≡ inside.sight) (h : HeldValue) (finds : Finds folds s h) (name : HoldsName inside.sight (name_of (party_of inside.party))) where
  abbrev p : PassValue
  p = record inside { sight = s }

  p_is : p ≡ old
  p_is = (λ i. record inside { sight = seat i }) ∙ is

  holds : HoldsName s (name_of (party_of inside.party))
  holds = subst (λ (v : Sight). HoldsName v (name_of (party_of inside.party))) (sym seat) name

  pub may_call_through : (x : Store → Exchange) → MayCall (pass_view folds lent old) x → (other : ℕ) → MayCall (lone_view (folds h.settings) inside.line inside.party other (store_of h)) x
  may_call_through x may = may_call folds lent p h finds holds x (subst (λ (y : PassValue). MayCall (pass_view folds lent y) x) (sym p_is) may)

  pub may_put_manifest_through : (version : ℕ) (value : Manifest) (why : ManifestChange) (jobs : List JobParts) → ManifestPutFits (pass_view folds lent old) version value why jobs
      → (other : ℕ) → ManifestPutFits (lone_view (folds h.settings) inside.line inside.party other (store_of h)) version value why jobs
  may_put_manifest_through version value why jobs fit = may_put_manifest folds lent p h finds holds version value why jobs (subst (λ (y : PassValue). ManifestPutFits (pass_view folds lent y) version value why jobs) (sym p_is) fit)

  pub may_put_records_through : (version : ℕ) (value : Compactions) (why : RecordChange) → RecordsPutFit (pass_view folds lent old) version value why
      → (other : ℕ) → RecordsPutFit (lone_view (folds h.settings) inside.line inside.party other (store_of h)) version value why
  may_put_records_through version value why fit = may_put_records folds lent p h finds holds version value why (subst (λ (y : PassValue). RecordsPutFit (pass_view folds lent y) version value why) (sym p_is) fit)

  -- `now` is the view of the seat while the value is out, and `left` the value that the call leaves.
  module _ (t : ℕ) (made : Bool) (left : HeldValue) (grows : Grows (folds h.settings) inside.line inside.party made h left) (now : Sight) (now_is : now ≡ with_turn (with_ticket s t) h) where
    pub follows_through : Follows now left
    follows_through = subst (λ (v : Sight). Follows v left) (sym now_is) (follows_found folds inside.line inside.party made s t h left finds grows holds)

    abbrev kept : PassValue
    kept = record inside { sight = after_serving (with_turn (with_ticket s t) h) left }

    -- What the pass keeps, given the view of its seat after the call.
    pub keeps_through : (inside_views views : List Sight) (parts : ℕ) (inside_tally tally : Tally) → inside.sight ≡ first_view inside_views → IsPass inside_views parts inside_tally inside.party → views ≡ after_serving now left ∷ [] → IsTally tally (after_serving now left) → IsPass views parts tally inside.party
    keeps_through inside_views views parts inside_tally tally first kept_before views_are tells =
        let same : s ≡ first_view inside_views = seat ∙ first in
        let names = subst (λ (v : Sight). (name : ℕ) → times name v.handed ≤ v.whole + times name v.received) (sym same) kept_before.names in
        let own_parts : parts ≡ s.parts = kept_before.parts_are ∙ ap (λ (v : Sight). v.parts) (sym same) in
        pass_kept folds lent p h finds holds t made left grows views parts tally names (views_are ∙ ap (λ (v : Sight). after_serving v left ∷ []) now_is) own_parts kept_before.some_part (subst (λ (v : Sight). IsTally tally (after_serving v left)) now_is tells)

    -- `new` is the pass after the call.
    module _ (new : PassValue) (table : new.table ≡ inside.table) (view : new.sight ≡ after_serving now left) (line : new.line ≡ inside.line) (party : new.party ≡ inside.party) where
      new_is : new ≡ kept
      new_is i = record { table = table i; sight = (view ∙ ap (λ (v : Sight). after_serving v left) now_is) i; line = line i; party = party i }

      -- What holds of the pass and of what the call leaves of it.
      through : (Asks : PassValue → PassValue → Type 0) → Asks p kept → Asks old new
      through Asks a = subst (λ (y : PassValue × PassValue). Asks y.0 y.1) (λ i. (p_is i, sym new_is i)) a

      pub called_through : {A : Type 0} (x : Store → Exchange) (Gives : Store → A → Type 0) (Refuses : Store → ℕ → Type 0) (result : Result A SlateDBError) → Alone (folds h.settings) inside.line inside.party (λ before after. Called before after x Gives Refuses result) h left
          → Called (pass_view folds lent old) (pass_view folds lent new) x Gives Refuses result
      called_through x Gives Refuses result a = through (λ b c. Called (pass_view folds lent b) (pass_view folds lent c) x Gives Refuses result) (called_shared folds lent p h finds holds t made left grows a.0 x Gives Refuses result a.1)

      pub gets_through : (result : Result (Option VersionedRecords) SlateDBError) → Alone (folds h.settings) inside.line inside.party (λ before after. GetsRecords before after result) h left → GetsRecords (pass_view folds lent old) (pass_view folds lent new) result
      gets_through result a = through (λ b c. GetsRecords (pass_view folds lent b) (pass_view folds lent c) result) (gets_shared folds lent p h finds holds t made left grows result a)

      pub puts_through : (version : ℕ) (value : Compactions) (why : RecordChange) (result : Result ℕ SlateDBError) → Alone (folds h.settings) inside.line inside.party (λ before after. PutsRecords before after version value why result) h left
          → PutsRecords (pass_view folds lent old) (pass_view folds lent new) version value why result
      puts_through version value why result a = through (λ b c. PutsRecords (pass_view folds lent b) (pass_view folds lent c) version value why result) (puts_shared folds lent p h finds holds t made left grows version value why result a)

      pub stands_through : {A : Type 0} (x : Store → Exchange) (Gives : Store → A → Type 0) (Refuses : Store → ℕ → Type 0) (result : Result A SlateDBError) → made ≡ is_made result → Alone (folds h.settings) inside.line inside.party (λ before after. Called before after x Gives Refuses result) h left
          → CallStands folds old new result
      stands_through x Gives Refuses result is_made_so a = through (λ b c. CallStands folds b c result) (call_stands folds lent p h finds holds t made left grows a.0 x Gives Refuses result is_made_so a.1)
