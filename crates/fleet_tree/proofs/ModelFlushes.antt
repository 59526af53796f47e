-- A flush changes a program's manifest as the model's flush changes the model's manifest.
use Rattle.std.proofs.Common.{◌≡◌, refl, sym, ◌∙◌, ap, ℕ, List, [], ◌∷◌, map, Bool, true, false, cond, Some}
use Rattle.std.specs.Prelude.{bytes_eq}
use Rattle.std.specs.Ordering.{is_lt}
use Rattle.std.proofs.lemmas.Slice.Eq.{bytes_eq-Decides}
use Rattle.row_model.specs.Rows.{Row, key_cmp}
use Rattle.fleet_model.specs.Nodes.{Segment, L0}
use Rattle.fleet_model.specs.Tracker.{least_seq_of, tracked_after}
use Rattle.fleet_model.specs.Trees.{greatest_seq, empty_segment}
use Rattle.fleet_model.specs.Trees as model
use Rattle.fleet_tree.specs.Laws.{FlushesAreTheModels, met_tree}
use Rattle.fleet_tree.specs.Manifests.{tracker_of}
use Rattle.fleet_tree.specs.Trees.{RunFlushes, empty_tree, flushed_segments, flushed_on, segment_of, tree_of, trees_of, trees_with_prefix}
use Rattle.fleet_tree.specs.Views.{View}
use Rattle.fleet_tree.specs.declared.tree.LsmTreeState.{LsmTreeState}

module _ (flushes : RunFlushes) (prefix : List ℕ) (view : View) (seq : ℕ) (rows : List Row) (own : view.sst.id ≡ view.id) where
  abbrev seen : List ℕ × LsmTreeState → Segment
  seen = segment_of flushes

  -- The model's segment with a flush in front is what the model's flush makes of the segment.
  on_tree : (key : List ℕ) (t : LsmTreeState) → prefix ≡ key → greatest_seq t.last_seq rows ≡ Some seq → seen (prefix, flushed_on view seq t) ≡ model.flushed_on view.id rows (seen (key, t))
  on_tree key t same last =
      ap (λ piece. record (seen (prefix, t)) { tree = record { name = L0 view.id; flushes = view.id ∷ []; pieces = piece ∷ [] } ∷ tree_of (flushes prefix) t; last_seq = Some seq }) own
      ∙ ap (λ seq_now. record (seen (prefix, t)) { tree = record { name = L0 view.id; flushes = view.id ∷ []; pieces = view.id ∷ [] } ∷ tree_of (flushes prefix) t; last_seq = seq_now }) (sym last)
      ∙ ap (λ k. model.flushed_on view.id rows (seen (k, t))) same

  step : (s : List ℕ × LsmTreeState) (trees : List (List ℕ × LsmTreeState)) (same lower : Bool) → bytes_eq prefix s.0 ≡ same → is_lt (key_cmp prefix s.0) ≡ lower
      → (greatest_seq (met_tree prefix trees).last_seq rows ≡ Some seq → map seen (flushed_segments prefix view seq trees) ≡ model.flushed_trees prefix view.id rows (map seen trees))
      → greatest_seq (cond same s.1 (cond lower empty_tree (met_tree prefix trees))).last_seq rows ≡ Some seq
      → map seen (cond same ((prefix, flushed_on view seq s.1) ∷ trees) (cond lower ((prefix, flushed_on view seq empty_tree) ∷ s ∷ trees) (s ∷ flushed_segments prefix view seq trees)))
      ≡ cond same (model.flushed_on view.id rows (seen s) ∷ map seen trees)
      (cond lower (model.flushed_on view.id rows (empty_segment prefix) ∷ seen s ∷ map seen trees) (seen s ∷ model.flushed_trees prefix view.id rows (map seen trees)))
  step s trees true lower e f rest last = ap (λ segment. segment ∷ map seen trees) (on_tree s.0 s.1 ((bytes_eq-Decides prefix s.0).0 e) last)
  step s trees false true e f rest last = ap (λ segment. segment ∷ seen s ∷ map seen trees) (on_tree prefix empty_tree refl last)
  step s trees false false e f rest last = ap (λ segments. seen s ∷ segments) (rest last)

  pub on_trees : (trees : List (List ℕ × LsmTreeState)) → greatest_seq (met_tree prefix trees).last_seq rows ≡ Some seq
      → map seen (flushed_segments prefix view seq trees) ≡ model.flushed_trees prefix view.id rows (map seen trees)
  on_trees [] last = ap (λ segment. segment ∷ []) (on_tree prefix empty_tree refl last)
  on_trees (s ∷ trees) last = step s trees (bytes_eq prefix s.0) (is_lt (key_cmp prefix s.0)) refl refl (on_trees trees) last

pub flushes_are_the_models : FlushesAreTheModels
flushes_are_the_models flushes version epoch rows flush before after of_rows made =
    let trees : trees_of flushes after ≡ model.flushed_trees flush.segment flush.view.id rows (trees_of flushes before) =
    ap (map (segment_of flushes)) made.trees ∙ on_trees flushes flush.segment flush.view flush.last_seq rows of_rows.own (trees_with_prefix before) of_rows.last in
    let tracker : tracker_of after.tracker ≡ tracked_after flush.moment flush.retention (least_seq_of rows) (tracker_of before.tracker) =
    made.tracker ∙ ap (λ seq. tracked_after flush.moment flush.retention seq (tracker_of before.tracker)) of_rows.least in
    cc (trees, tracker, made.floor, made.tick, made.horizon)
