-- The run of a move is the one that the model's move makes.
use Rattle.std.proofs.Common.{◌≡◌, refl, sym, ◌∙◌, ap, List, [], ◌∷◌, Bool, true, false, cond, ◌&&◌}
use Rattle.std.specs.Prelude.{ℕ, Some, None}
use Rattle.std.specs.List.{AllByRecursion}
use Rattle.std.specs.Ordering.{is_lt}
use Rattle.row_model.specs.Rows.{key_cmp}
use Rattle.fleet_model.specs.Work.Gates.{is_nonempty}
use Rattle.fleet_model.specs.Nodes.{Tables, table_rows}
use Rattle.fleet_model.specs.Trees.{by_first_key, first_key, put_by_first_key}
use Rattle.fleet_tree.specs.Views.{View}
use Rattle.fleet_tree.specs.declared.run.SortedRun.{SortedRun}
use Rattle.fleet_jobs.specs.Laws.{MovedRunsAreTheModels, view_tables}
use Rattle.fleet_jobs.specs.Moves.{are_disjoint, by_start, put_view}
use Rattle.fleet_jobs.proofs.Moved.{put_all}

module _ (tables : Tables) where
  abbrev KeyFits : View → Type 0
  KeyFits view = first_key (table_rows tables view.sst.id) ≡ view.sst.first_key

  -- A view that is put by its first key puts its table as the model does.
  put_is : (v : View) (vs : List View) → KeyFits v → AllByRecursion KeyFits vs → view_tables (put_view v vs) ≡ put_by_first_key tables v.sst.id (view_tables vs)
  put_is v [] fits all = refl
  put_is v (o ∷ os) fits all =
      by (is_lt (key_cmp o.sst.first_key v.sst.first_key)) (put_is v os fits all.1)
      ∙ ap (λ k. choice (is_lt (key_cmp k v.sst.first_key))) (sym all.0)
      ∙ ap (λ k. choice (is_lt (key_cmp (first_key (table_rows tables o.sst.id)) k))) (sym fits)
    where
      choice : Bool → List ℕ
      choice b = cond b (o.sst.id ∷ put_by_first_key tables v.sst.id (view_tables os)) (v.sst.id ∷ o.sst.id ∷ view_tables os)

      by : (b : Bool) → view_tables (put_view v os) ≡ put_by_first_key tables v.sst.id (view_tables os) → view_tables (cond b (o ∷ put_view v os) (v ∷ o ∷ os)) ≡ choice b
      by true rest = ap (λ ids. o.sst.id ∷ ids) rest
      by false rest = refl

  all_start : (vs : List View) → AllByRecursion KeyFits vs → AllByRecursion KeyFits (by_start vs)
  all_start [] all = tt
  all_start (v ∷ vs) all = put_all KeyFits v (by_start vs) all.0 (all_start vs all.1)

  pub start_is : (vs : List View) → AllByRecursion KeyFits vs → view_tables (by_start vs) ≡ by_first_key tables (view_tables vs)
  start_is [] all = refl
  start_is (v ∷ vs) all = put_is v (by_start vs) all.0 (all_start vs all.1) ∙ ap (put_by_first_key tables v.sst.id) (start_is vs all.1)

-- The run of a move has the destination as its id, and the tables that the model's move gives it.
pub moved_runs_are_the_models : MovedRunsAreTheModels
moved_runs_are_the_models tables None views run fits is = absurd (cc is)
moved_runs_are_the_models tables (Some id) views run fits is = by (is_nonempty (by_start views) && are_disjoint (by_start views)) is
  where
    all : SortedRun
    all = record { id = id; views = by_start views }

    by : (b : Bool) → cond b (Some all) None ≡ Some run → (Some id ≡ Some run.id) × (view_tables run.views ≡ by_first_key tables (view_tables views))
    by false e = absurd (cc e)
    by true e =
        let same : all ≡ run = cc e in
        (ap (λ r. Some r.id) same, ap (λ r. view_tables r.views) (sym same) ∙ start_is tables views fits)
