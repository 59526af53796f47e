-- A manifest tracks the flushes within a retention, so that what was readable then is kept.
use Rattle.std.specs.Prelude.{ℕ, Bool, ◌+◌, ◌-◌, ◌==◌, nat_lt, min, if◌then◌else◌, List, [], ◌∷◌, ◌++◌, filter}
use Rattle.row_model.specs.Rows.{Row}

-- A tracked flush: the least sequence of its rows, and the moment of its put.
pub record Tracked : Type 0 where
  pub least_seq : ℕ
  pub moment : ℕ  -- in milliseconds

-- The least of the given sequence and the sequences of the rows.
abbrev pub least_from : ℕ → List Row → ℕ
least_from seq [] = seq
least_from seq (r ∷ rows) = min r.seq (least_from seq rows)

-- The least sequence of a flush's rows, or 0 if there are no rows.
abbrev pub least_seq_of : List Row → ℕ
least_seq_of [] = 0
least_seq_of (r ∷ rows) = least_from r.seq rows

-- True if less than the retention, in milliseconds, has passed since the flush was put.
abbrev pub is_retained : (moment retention : ℕ) (flush : Tracked) → Bool
is_retained moment retention flush = nat_lt moment (flush.moment + retention)

-- The tracked flushes after a new flush: those that are retained, and the new one. Without a retention no
-- flush is tracked.
abbrev pub tracked_after : (moment retention least_seq : ℕ) → List Tracked → List Tracked
tracked_after moment retention least_seq tracker =
    if retention == 0 then []
    else filter (is_retained moment retention) tracker ++ record { least_seq = least_seq; moment = moment } ∷ []

-- The cut is the least of the floor and, for each retained flush, the sequence before the flush's least
-- one. That sequence is 0 if the flush's least one is 0.
abbrev pub cut_before : (floor moment retention : ℕ) → List Tracked → ℕ
cut_before floor moment retention [] = floor
cut_before floor moment retention (flush ∷ tracker) =
    if is_retained moment retention flush then min (flush.least_seq - 1) (cut_before floor moment retention tracker)
    else cut_before floor moment retention tracker
