-- The names of flushes in the entries of a history.
use Rattle.std.proofs.Common.{◌≡◌, sym, ◌∙◌, ap, subst, ℕ, ◌-◌, List, [], ◌∷◌, drop, length, take, length-append, arith}
use Rattle.std.specs.Prelude.{◌≤◌, fold, max}
use Rattle.std.proofs.lemmas.List.{drop_at, drop-map, length-drop, length-map}
use Rattle.std.proofs.Math.Seq.{take-length}
use Rattle.fleet_model.specs.History.{Entry}
use Rattle.step_model.specs.Entries.{last_name, name_in}
use Rattle.script_model.specs.Script.{Line}
use Rattle.script_model.specs.States.{Inputs, State}
use Rattle.script_model.specs.LineSteps.{OneCourse}
use Rattle.fleet_history.specs.Entries.{entry_of, event_of, history_of}
use Rattle.fleet_history.specs.declared.entry.HistoryEntry.{HistoryEntry}
use Rattle.fleet_lines.proofs.Histories.{GoesOn, line_goes_on, last_name_append}

-- The fold over entries that raises a name to theirs.
pub fold_names : (entries : List HistoryEntry) (last : ℕ) → fold (λ (last : ℕ) (entry : HistoryEntry). max last (name_in (event_of entry.event))) last entries ≡ max last (last_name (history_of entries))
fold_names [] last = omega arith
fold_names (entry ∷ entries) last = let rest = fold_names entries (max last (name_in (event_of entry.event))) in omega (arith, rest)

-- The same over all entries from a place on.
pub fold_rest : (from : ℕ) (entries : List HistoryEntry) (last : ℕ)
    → fold (λ (last : ℕ) (entry : HistoryEntry). max last (name_in (event_of entry.event))) last (take (length entries - from) (drop from entries)) ≡ max last (last_name (history_of (drop from entries)))
fold_rest from entries last =
    ap (λ (es : List HistoryEntry). fold (λ (last : ℕ) (entry : HistoryEntry). max last (name_in (event_of entry.event))) last es) (subst (λ (n : ℕ). take n (drop from entries) ≡ drop from entries) (length-drop from entries) (take-length (drop from entries)))
    ∙ fold_names (drop from entries) last

module _ (inputs : Inputs) (number : ℕ) (old : State) (line : Line) (answer : List ℕ) (new : State) (before after : List HistoryEntry) (one : OneCourse inputs number old line answer new) (were : history_of before ≡ old.store.history) (are : history_of after ≡ new.store.history) where
  goes_on : GoesOn old.store.history new.store.history
  goes_on = line_goes_on inputs number old line answer new one

  -- A line drops no entry.
  pub more_after : length before ≤ length after
  more_after =
      let a = length-map before entry_of in
      let b = length-map after entry_of in
      let c = ap length were in
      let d = ap length (are ∙ goes_on.are) in
      let e = length-append old.store.history goes_on.more in
      omega (arith, a, b, c, d, e)

  -- The greatest name after a line is the greatest one of the name before it and those of the new entries.
  pub named_after : (last name : ℕ) → last ≡ last_name old.store.history → name ≡ max last (last_name (history_of (drop (length before) after))) → name ≡ last_name new.store.history
  named_after last name was is =
      is
      ∙ (ap (λ (n : ℕ). max n (last_name (history_of (drop (length before) after)))) was
      ∙ (ap (λ (entries : List Entry). max (last_name old.store.history) (last_name entries)) new_entries
      ∙ (sym (last_name_append old.store.history goes_on.more) ∙ ap last_name (sym goes_on.are))))
    where
      new_entries : history_of (drop (length before) after) ≡ goes_on.more
      new_entries =
          sym (drop-map entry_of (length before) after)
          ∙ (ap (drop (length before)) (are ∙ goes_on.are)
          ∙ drop_at old.store.history goes_on.more (length before) (ap length (sym were) ∙ length-map before entry_of))
