-- The anchors and the greatest size of a job's tables, taken run by run.
use Rattle.std.proofs.Common.{◌≡◌, sym, ◌∙◌, ap, ℕ, max, List, [], ◌∷◌, ◌++◌, arith}
use Rattle.std.specs.Prelude.{flat_map}
use Rattle.std.proofs.lemmas.Grind.{flat_map-append}
use Rattle.std.proofs.lemmas.List.{append_assoc, append-nil}
use Rattle.row_model.specs.Written.Plan as model
use Rattle.fleet_tree.specs.Views.{View}
use Rattle.fleet_tree.specs.declared.run.SortedRun.{SortedRun}
use Rattle.fleet_plan.specs.Plans.{greatest_view_size, view_anchors, views_of}

greatest-append : (xs ys : List View) → greatest_view_size (xs ++ ys) ≡ max (greatest_view_size xs) (greatest_view_size ys)
greatest-append [] ys = omega arith
greatest-append (view ∷ xs) ys =
    let rest = greatest-append xs ys in
    omega (arith, rest)

-- The anchors so far, followed by the anchors of the runs left, are all anchors. The greatest size so far and
-- the one in the runs left give the greatest size of all.
abbrev pub Known : List model.Anchor → ℕ → List model.Anchor → ℕ → List SortedRun → Type 0
Known all greatest anchors size left = (anchors ++ flat_map view_anchors (views_of [] left) ≡ all) × (max size (greatest_view_size (views_of [] left)) ≡ greatest)

pub known_first : (l0 : List View) (runs : List SortedRun) (anchors : List model.Anchor) (size : ℕ) → anchors ≡ flat_map view_anchors l0 → size ≡ greatest_view_size l0
    → Known (flat_map view_anchors (views_of l0 runs)) (greatest_view_size (views_of l0 runs)) anchors size runs
known_first l0 runs anchors size is top = (
  ap (λ more. more ++ flat_map view_anchors (views_of [] runs)) is ∙ sym (flat_map-append view_anchors l0 (views_of [] runs)),
  ap (λ n. max n (greatest_view_size (views_of [] runs))) top ∙ sym (greatest-append l0 (views_of [] runs)),
)

-- If one more run is taken, its anchors and its greatest size are known too.
pub known_more : (all : List model.Anchor) (greatest : ℕ) (run : SortedRun) (left rest : List SortedRun) (anchors made : List model.Anchor) (size now : ℕ) → left ≡ run ∷ rest
    → made ≡ anchors ++ flat_map view_anchors run.views → now ≡ max size (greatest_view_size run.views) → Known all greatest anchors size left → Known all greatest made now rest
known_more all greatest run left rest anchors made size now first more top known =
    let after : List View = views_of [] rest in
    let joined : max now (greatest_view_size after) ≡ max size (greatest_view_size (run.views ++ after)) =
    let both = greatest-append run.views after in
    omega (arith, both, top) in (
      ap (λ xs. xs ++ flat_map view_anchors after) more
          ∙ append_assoc anchors (flat_map view_anchors run.views) (flat_map view_anchors after)
          ∙ ap (λ xs. anchors ++ xs) (sym (flat_map-append view_anchors run.views after))
          ∙ ap (λ runs. anchors ++ flat_map view_anchors (views_of [] runs)) (sym first)
          ∙ known.0,
      joined ∙ ap (λ runs. max size (greatest_view_size (views_of [] runs))) (sym first) ∙ known.1,
    )

pub known_all : (all : List model.Anchor) (greatest : ℕ) (left : List SortedRun) (anchors : List model.Anchor) (size : ℕ) → left ≡ [] → Known all greatest anchors size left → (anchors ≡ all) × (size ≡ greatest)
known_all all greatest left anchors size none known = (
  sym (append-nil anchors) ∙ ap (λ runs. anchors ++ flat_map view_anchors (views_of [] runs)) (sym none) ∙ known.0,
  max_none size ∙ ap (λ runs. max size (greatest_view_size (views_of [] runs))) (sym none) ∙ known.1,
)
  where
    max_none : (n : ℕ) → n ≡ max n 0
    max_none n = omega arith
