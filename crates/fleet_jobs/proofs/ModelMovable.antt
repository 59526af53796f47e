-- A move is made exactly where the model can move a job.
use Rattle.std.proofs.Common.{◌≡◌, refl, sym, ◌∙◌, ap, List, [], ◌∷◌, Bool, true, false, cond, ◌&&◌, not}
use Rattle.std.specs.Prelude.{ℕ, Some, None, is_some}
use Rattle.std.specs.List.{AllByRecursion}
use Rattle.std.specs.Ordering.{is_le, is_lt, ord_min, ordering_reverse}
use Rattle.std.specs.declared.cmp.Ordering.{Ordering}
use Rattle.std.specs.declared.cmp.Ordering.TheVariants.{Less, Equal, Greater}
use Rattle.std.specs.declared.ops.Bound.TheVariants.{Included}
use Rattle.std.specs.BTreeMap.Comparable.{le_lt_trans}
use Rattle.std.proofs.lemmas.Cmp.{nat_list_cmp_total}
use Rattle.row_laws.proofs.Elements.{all_weaken}
use Rattle.row_model.specs.Lists.{Pairs}
use Rattle.row_model.specs.Rows.{key_cmp}
use Rattle.fleet_model.specs.Work.Gates.{is_nonempty}
use Rattle.fleet_model.specs.Nodes.{Tables, table_rows}
use Rattle.fleet_model.specs.Trees.{are_apart, by_first_key, first_key, last_key}
use Rattle.fleet_range.specs.Ranges.{Ends, if_non_empty, intersection}
use Rattle.fleet_range.specs.Sides.{end_cmp}
use Rattle.fleet_tree.specs.Views.{View}
use Rattle.fleet_tree.specs.declared.run.SortedRun.{SortedRun}
use Rattle.fleet_jobs.specs.Laws.{EndsFit, KeysFit, MovableJobsAreTheModels, view_tables}
use Rattle.fleet_jobs.specs.Moves.{are_disjoint, by_start, moved_run, put_view}
use Rattle.fleet_jobs.specs.Taken.{taken_tables}
use Rattle.fleet_jobs.specs.declared.spec.CompactionSpec.TheVariants.{Tiered, DrainSegment}
use Rattle.fleet_jobs.proofs.Moved.{is_below, put_all, ranks}
use Rattle.fleet_jobs.proofs.ModelMoved.{start_is}
use Rattle.fleet_jobs.proofs.ModelTaken.{taken_tables_are_the_models}

abbrev NotAbove : View → View → Type 0
NotAbove a b = is_below b a ≡ false

rising_put : (v : View) (vs : List View) → Pairs NotAbove vs → Pairs NotAbove (put_view v vs)
rising_put v [] up = (tt, tt)
rising_put v (o ∷ os) up = by (is_below o v) refl (rising_put v os up.1)
  where
    by : (b : Bool) → is_below o v ≡ b → Pairs NotAbove (put_view v os) → Pairs NotAbove (cond b (o ∷ put_view v os) (v ∷ o ∷ os))
    by true e rest = (put_all (NotAbove o) v os (ranks.one_way o v e) up.0, rest)
    by false e rest = ((e, all_weaken (NotAbove o) (NotAbove v) (λ w h. ranks.chain w o v h e) os up.0), up)

rising_start : (vs : List View) → Pairs NotAbove (by_start vs)
rising_start [] = tt
rising_start (v ∷ vs) = rising_put v (by_start vs) (rising_start vs)

-- Ranges of which the second does not start below the first intersect unless the first ends below the second.
apart_is : (af al bf bl : List ℕ) → is_lt (key_cmp bf af) ≡ false → is_le (key_cmp bf bl) ≡ true
    → not (is_some (intersection key_cmp (Included af, Included al) (Included bf, Included bl))) ≡ is_lt (key_cmp al bf)
apart_is af al bf bl order rising =
    ap (λ b. not (is_some (if_non_empty key_cmp (cond b (Included af) (Included bf), ord_min (end_cmp key_cmp) (Included al) (Included bl))))) order
    ∙ by (key_cmp bl al) refl
  where
    back : (o : Ordering) → key_cmp bf al ≡ o → is_lt (key_cmp al bf) ≡ is_lt (ordering_reverse o)
    back o e = ap is_lt (nat_list_cmp_total.antisymm al bf ∙ ap ordering_reverse e)

    met : (o : Ordering) → not (is_some {T = Ends (List ℕ)} (cond (is_le o) (Some (Included bf, Included al)) None)) ≡ is_lt (ordering_reverse o)
    met Less = refl
    met Equal = refl
    met Greater = refl

    ends : key_cmp bl al ≡ Less → not (is_some (if_non_empty key_cmp (Included bf, Included bl))) ≡ is_lt (key_cmp al bf)
    ends e =
        ap (λ b. not (is_some {T = Ends (List ℕ)} (cond b (Some (Included bf, Included bl)) None))) rising
        ∙ sym (back Less (le_lt_trans nat_list_cmp_total bf bl al rising e))

    by : (o : Ordering) → key_cmp bl al ≡ o → not (is_some (if_non_empty key_cmp (Included bf, cond (is_lt o) (Included bl) (Included al)))) ≡ is_lt (key_cmp al bf)
    by Less e = ends e
    by Equal e = met (key_cmp bf al) ∙ sym (back (key_cmp bf al) refl)
    by Greater e = met (key_cmp bf al) ∙ sym (back (key_cmp bf al) refl)

module _ (tables : Tables) where
  apart : (vs : List View) → Pairs NotAbove vs → AllByRecursion (EndsFit tables) vs → are_disjoint vs ≡ are_apart tables (view_tables vs)
  apart [] up fit = refl
  apart (a ∷ []) up fit = refl
  apart (a ∷ b ∷ vs) up fit =
      ap (λ t. t && are_disjoint (b ∷ vs)) (apart_is a.sst.first_key a.sst.last_key b.sst.first_key b.sst.last_key up.0.0 fit.1.0.rising)
      ∙ ap (λ k. is_lt (key_cmp k b.sst.first_key) && are_disjoint (b ∷ vs)) (sym fit.0.last)
      ∙ ap (λ k. is_lt (key_cmp (last_key [] (table_rows tables a.sst.id)) k) && are_disjoint (b ∷ vs)) (sym fit.1.0.first)
      ∙ ap (λ t. is_lt (key_cmp (last_key [] (table_rows tables a.sst.id)) (first_key (table_rows tables b.sst.id))) && t) (apart (b ∷ vs) up.1 fit.1)

  all_start : (vs : List View) → AllByRecursion (EndsFit tables) vs → AllByRecursion (EndsFit tables) (by_start vs)
  all_start [] all = tt
  all_start (v ∷ vs) all = put_all (EndsFit tables) v (by_start vs) all.0 (all_start vs all.1)

  keys_fit : (vs : List View) → AllByRecursion (EndsFit tables) vs → KeysFit tables vs
  keys_fit vs all = all_weaken (EndsFit tables) (λ view. first_key (table_rows tables view.sst.id) ≡ view.sst.first_key) (λ view fits. fits.first) vs all

  some : (vs : List View) → is_nonempty vs ≡ is_nonempty (view_tables vs)
  some [] = refl
  some (v ∷ vs) = refl

  -- A run is made of tables exactly if the model's tables lie apart.
  made : (id : ℕ) (vs : List View) → AllByRecursion (EndsFit tables) vs
      → is_some (moved_run (Some id) vs) ≡ (is_nonempty (by_first_key tables (view_tables vs)) && are_apart tables (by_first_key tables (view_tables vs)))
  made id vs fit =
      is_there (is_nonempty (by_start vs) && are_disjoint (by_start vs))
      ∙ ap (λ t. t && are_disjoint (by_start vs)) (some (by_start vs))
      ∙ ap (λ t. is_nonempty (view_tables (by_start vs)) && t) (apart (by_start vs) (rising_start vs) (all_start vs fit))
      ∙ ap (λ ids. is_nonempty ids && are_apart tables ids) (start_is tables vs (keys_fit vs fit))
    where
      is_there : (b : Bool) → is_some {T = SortedRun} (cond b (Some (record { id = id; views = by_start vs })) None) ≡ b
      is_there true = refl
      is_there false = refl

grouped : (a b c : Bool) → (a && (b && c)) ≡ (a && b && c)
grouped true b c = refl
grouped false b c = refl

pub movable_jobs_are_the_models : MovableJobsAreTheModels
movable_jobs_are_the_models flushes input (DrainSegment spec) core run in_order fit = absurd (cc run)
movable_jobs_are_the_models flushes input (Tiered spec) core run in_order fit =
    let views = taken_tables (Tiered spec) core in
    let now = by_first_key input.tables (view_tables views) in
    ap (λ t. input.options.moves && t) (made input.tables spec.destination views fit)
    ∙ grouped input.options.moves (is_nonempty now) (are_apart input.tables now)
    ∙ ap (λ ids. input.options.moves && is_nonempty (by_first_key input.tables ids) && are_apart input.tables (by_first_key input.tables ids)) (taken_tables_are_the_models flushes (Tiered spec) core in_order)
