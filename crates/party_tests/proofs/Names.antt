-- The greatest name of a flush in a history.
use Rattle.std.proofs.Common.{◌≡◌, ℕ, List, [], ◌∷◌, arith}
use Rattle.std.specs.Prelude.{fold, max}
use Rattle.step_model.specs.Entries.{last_name, name_in}
use Rattle.fleet_history.specs.Entries.{event_of, history_of}
use Rattle.fleet_history.specs.declared.entry.HistoryEntry.{HistoryEntry}

-- The fold over entries that raises a name to theirs.
pub fold_names : (entries : List HistoryEntry) (last : ℕ) → fold (λ (last : ℕ) (entry : HistoryEntry). max last (name_in (event_of entry.event))) last entries ≡ max last (last_name (history_of entries))
fold_names [] last = omega arith
fold_names (entry ∷ entries) last = let rest = fold_names entries (max last (name_in (event_of entry.event))) in omega (arith, rest)
