-- Which flushes stay in a tree after a job.
use Rattle.std.proofs.Common.{◌≡◌, refl, sym, ◌∙◌, ap, ℕ, List, [], ◌∷◌, ◌++◌, map, Bool, true, false, not, ◌||◌, ◌&&◌, cond}
use Rattle.std.specs.Prelude.{◌==◌, find, take_while, Option, Some, None}
use Rattle.std.specs.List.{list_all}
use Rattle.std.proofs.lemmas.Bool.{eqb-true, eq-eqb}
use Rattle.std.proofs.lemmas.List.Sums.{take_while-cons}
use Rattle.fleet_model.specs.Work.Gates.{names_older}
use Rattle.fleet_model.specs.Nodes.{NodeName, L0, is_l0, names_contain}
use Rattle.fleet_tree.specs.Trees.{newer_than}
use Rattle.fleet_tree.specs.Views.{View}
use Rattle.fleet_jobs.specs.Sources.{name_of}
use Rattle.fleet_jobs.specs.declared.source_id.SourceId.{SourceId}
use Rattle.fleet_book.specs.Finishes.{id_or, is_named, kept_views}
use Rattle.fleet_book.specs.Laws.{FinishedFlushesStay}
use Rattle.fleet_book.proofs.ModelFinishes.{named_is}

both_true : (a b : Bool) → (a && b) ≡ true → (a ≡ true) × (b ≡ true)
both_true true b e = (refl, e)
both_true false b e = absurd (cc e)

module _ (sources : List SourceId) where
  abbrev named : View → Bool
  named view = is_named sources (L0 view.id)

  -- If each flush is a source, none stays.
  none_stay : (views : List View) (others : List NodeName)
      → list_all (λ other. not (is_l0 other) || names_contain (map name_of sources) other) (map (λ view. L0 view.id) views ++ others) ≡ true → kept_views sources views ≡ []
  none_stay [] others all = refl
  none_stay (view ∷ views) others all =
      let parts = both_true (names_contain (map name_of sources) (L0 view.id)) _ all in
      ap (λ b. cond (not b) (view ∷ kept_views sources views) (kept_views sources views)) (sym (named_is (L0 view.id) sources) ∙ parts.0) ∙ none_stay views others parts.1

  -- If no flush is a source, all stay.
  all_stay : (views : List View) → find (λ view. is_named sources (L0 view.id)) views ≡ None → kept_views sources views ≡ views
  all_stay [] none = refl
  all_stay (view ∷ views) none = by (named view) none (all_stay views)
    where
      by : (b : Bool) → cond b (Some view) (find (λ other. is_named sources (L0 other.id)) views) ≡ None
          → (find (λ other. is_named sources (L0 other.id)) views ≡ None → kept_views sources views ≡ views)
          → cond (not b) (view ∷ kept_views sources views) (kept_views sources views) ≡ view ∷ views
      by true e rest = absurd (cc e)
      by false e rest = ap (λ vs. view ∷ vs) (rest e)

  found_is_named : (newest : View) (views : List View) → find (λ view. is_named sources (L0 view.id)) views ≡ Some newest → named newest ≡ true
  found_is_named newest [] found = absurd (cc found)
  found_is_named newest (view ∷ views) found = by (named view) refl found (found_is_named newest views)
    where
      by : (b : Bool) → named view ≡ b → cond b (Some view) (find (λ other. is_named sources (L0 other.id)) views) ≡ Some newest
          → (find (λ other. is_named sources (L0 other.id)) views ≡ Some newest → named newest ≡ true) → named newest ≡ true
      by true e is rest = let same : view ≡ newest = cc is in sym (ap named same) ∙ e
      by false e is rest = rest is

  -- If the newest source among the flushes is found, the flushes before it stay, and no other.
  newer_stay : (newest : View) (views : List View) (others : List NodeName) → find (λ view. is_named sources (L0 view.id)) views ≡ Some newest
      → names_older (map name_of sources) (map (λ view. L0 view.id) views ++ others) ≡ true → take_while (λ view. not (view.id == newest.id)) views ≡ kept_views sources views
  newer_stay newest [] others found older = absurd (cc found)
  newer_stay newest (view ∷ views) others found older =
      by (named view) refl found
      (sym (ap (λ b. cond b (list_all (λ other. not (is_l0 other) || names_contain (map name_of sources) other) (map (λ v. L0 v.id) views ++ others)) (names_older (map name_of sources) (map (λ v. L0 v.id) views ++ others))) (named_is (L0 view.id) sources)) ∙ older)
      (newer_stay newest views others)
    where
      by : (b : Bool) → named view ≡ b → cond b (Some view) (find (λ other. is_named sources (L0 other.id)) views) ≡ Some newest
          → cond b (list_all (λ other. not (is_l0 other) || names_contain (map name_of sources) other) (map (λ v. L0 v.id) views ++ others)) (names_older (map name_of sources) (map (λ v. L0 v.id) views ++ others)) ≡ true
          → (find (λ other. is_named sources (L0 other.id)) views ≡ Some newest → names_older (map name_of sources) (map (λ v. L0 v.id) views ++ others) ≡ true
          → take_while (λ other. not (other.id == newest.id)) views ≡ kept_views sources views)
          → take_while (λ other. not (other.id == newest.id)) (view ∷ views) ≡ cond (not b) (view ∷ kept_views sources views) (kept_views sources views)
      by true e is rule rest =
          let same : view ≡ newest = cc is in
          take_while-cons (λ other. not (other.id == newest.id)) view views
          ∙ ap (λ b. cond (not b) (view ∷ take_while (λ other. not (other.id == newest.id)) views) []) (eq-eqb view.id newest.id (ap (λ (v : View). v.id) same))
          ∙ sym (none_stay views others rule)
      by false e is rule rest =
          take_while-cons (λ other. not (other.id == newest.id)) view views
          ∙ ap (λ b. cond (not b) (view ∷ take_while (λ other. not (other.id == newest.id)) views) []) (other_id (view.id == newest.id) refl) ∙ ap (λ vs. view ∷ vs) (rest is rule)
        where
          other_id : (c : Bool) → (view.id == newest.id) ≡ c → c ≡ false
          other_id true f =
              let same = eqb-true view.id newest.id f in
              sym (ap (λ id. is_named sources (L0 id)) same ∙ found_is_named newest views is) ∙ e
          other_id false f = refl

pub finished_flushes_stay : FinishedFlushesStay
finished_flushes_stay sources tree older kept = by (find (λ view. is_named sources (L0 view.id)) tree.l0) refl
  where
    by : (newest : Option View) → find (λ view. is_named sources (L0 view.id)) tree.l0 ≡ newest → newer_than (id_or tree.last_compacted_l0_sst_view_id newest) tree.l0 ≡ kept_views sources tree.l0
    by None e = kept ∙ sym (all_stay sources tree.l0 e)
    by (Some newest) e = newer_stay sources newest tree.l0 _ e older
