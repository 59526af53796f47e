-- Flushes that are tracked, and the least of some sequences.
use Rattle.std.proofs.Common.{◌≡◌, refl, sym, ◌∙◌, ap, ℕ, ◌-◌, ◌≤◌, List, [], ◌∷◌, ◌++◌, length, get_or, take, drop, Bool, true, false, cond, arith, min}
use Rattle.std.specs.Prelude.{filter, fold, ◌==◌, if◌then◌else◌}
use Rattle.std.proofs.lemmas.List.{map-append, take_all}
use Rattle.fleet_model.specs.Tracker.{cut_before, is_retained, least_from, least_seq_of, tracked_after}
use Rattle.fleet_rows.specs.declared.row.RowEntry.{RowEntry}
use Rattle.fleet_rows.specs.Row.{rows_of}
use Rattle.fleet_tree.specs.Manifests.{tracked_of, tracker_of}
use Rattle.fleet_tree.specs.declared.tracker.Tracked.{Tracked}

-- ---- the least sequence of rows

lesser_from : (a b : ℕ) (rows : List RowEntry) → least_from (min a b) (rows_of rows) ≡ min b (least_from a (rows_of rows))
lesser_from a b [] = omega arith
lesser_from a b (r ∷ rows) = let rest = lesser_from a b rows in omega (arith, rest)

least_is : (seq : ℕ) (rows : List RowEntry) → fold (λ least r. min least r.seq) seq rows ≡ least_from seq (rows_of rows)
least_is seq [] = refl
least_is seq (r ∷ rows) = least_is (min seq r.seq) rows ∙ lesser_from seq r.seq rows

pub least_at : (rows : List RowEntry) (first : RowEntry) → 1 ≤ length rows → first ≡ get_or rows 0 first
    → fold (λ least r. min least r.seq) first.seq (take (length rows - 1) (drop 1 rows)) ≡ least_seq_of (rows_of rows)
least_at [] first some is = absurd (omega arith)
least_at (r ∷ rows) first some is =
    ap (fold (λ least q. min least q.seq) first.seq) (take_all (length (r ∷ rows) - 1) rows (omega arith))
    ∙ ap (λ f. fold (λ least q. min least q.seq) f.seq rows) is
    ∙ least_is r.seq rows

-- ---- the flushes that are retained

is_not_zero : (n : ℕ) → ¬ (n ≡ 0) → (n == 0) ≡ false
is_not_zero n some = grind arith

module _ (moment retention : ℕ) where
  abbrev retained : Tracked → Bool
  retained flush = is_retained moment retention (tracked_of flush)

  retained_are : (tracker : List Tracked) → tracker_of (filter retained tracker) ≡ filter (is_retained moment retention) (tracker_of tracker)
  retained_are [] = refl
  retained_are (flush ∷ tracker) = by (retained flush) (retained_are tracker)
    where
      by : (b : Bool) → tracker_of (filter retained tracker) ≡ filter (is_retained moment retention) (tracker_of tracker)
          → tracker_of (cond b (flush ∷ filter retained tracker) (filter retained tracker))
          ≡ cond b (tracked_of flush ∷ filter (is_retained moment retention) (tracker_of tracker)) (filter (is_retained moment retention) (tracker_of tracker))
      by true rest = ap (λ flushes. tracked_of flush ∷ flushes) rest
      by false rest = rest

  pub tracked_are : (least_seq : ℕ) (tracker after : List Tracked) → ¬ (retention ≡ 0)
      → after ≡ filter retained tracker ++ record { least_seq = least_seq; moment = moment } ∷ []
      → tracker_of after ≡ tracked_after moment retention least_seq (tracker_of tracker)
  tracked_are least_seq tracker after some made =
      let flush : Tracked = record { least_seq = least_seq; moment = moment } in
      ap tracker_of made
      ∙ map-append tracked_of (filter retained tracker) (flush ∷ [])
      ∙ ap (λ flushes. flushes ++ tracked_of flush ∷ []) (retained_are tracker)
      ∙ sym (ap (λ b. cond b [] (filter (is_retained moment retention) (tracker_of tracker) ++ tracked_of flush ∷ [])) (is_not_zero retention some))

  -- ---- the cut

  abbrev cut_from : ℕ → List Tracked → ℕ
  cut_from floor tracker = cut_before floor moment retention (tracker_of tracker)

  lesser_cut : (floor seq : ℕ) (tracker : List Tracked) → cut_from (min floor seq) tracker ≡ min seq (cut_from floor tracker)
  lesser_cut floor seq [] = omega arith
  lesser_cut floor seq (flush ∷ tracker) = by (retained flush) (lesser_cut floor seq tracker)
    where
      by : (b : Bool) → cut_from (min floor seq) tracker ≡ min seq (cut_from floor tracker)
          → cond b (min (flush.least_seq - 1) (cut_from (min floor seq) tracker)) (cut_from (min floor seq) tracker)
          ≡ min seq (cond b (min (flush.least_seq - 1) (cut_from floor tracker)) (cut_from floor tracker))
      by true rest = omega (arith, rest)
      by false rest = rest

  cut_is : (floor : ℕ) (tracker : List Tracked) → fold (λ cut flush. min cut (flush.least_seq - 1)) floor (filter retained tracker) ≡ cut_from floor tracker
  cut_is floor [] = refl
  cut_is floor (flush ∷ tracker) = by (retained flush) (cut_is floor tracker) (cut_is (min floor (flush.least_seq - 1)) tracker)
    where
      by : (b : Bool) → fold (λ cut f. min cut (f.least_seq - 1)) floor (filter retained tracker) ≡ cut_from floor tracker
          → fold (λ cut f. min cut (f.least_seq - 1)) (min floor (flush.least_seq - 1)) (filter retained tracker) ≡ cut_from (min floor (flush.least_seq - 1)) tracker
          → fold (λ cut f. min cut (f.least_seq - 1)) floor (cond b (flush ∷ filter retained tracker) (filter retained tracker))
          ≡ cond b (min (flush.least_seq - 1) (cut_from floor tracker)) (cut_from floor tracker)
      by true skipped taken = taken ∙ lesser_cut floor (flush.least_seq - 1) tracker
      by false skipped taken = skipped

  pub cut_at_some : (floor : ℕ) (tracker searched : List Tracked) → ¬ (retention ≡ 0) → searched ≡ tracker
      → fold (λ cut flush. min cut (flush.least_seq - 1)) floor (filter retained searched) ≡ (if retention == 0 then floor else cut_from floor tracker)
  cut_at_some floor tracker searched some same =
      cut_is floor searched ∙ ap (cut_from floor) same ∙ sym (ap (λ b. cond b floor (cut_from floor tracker)) (is_not_zero retention some))
