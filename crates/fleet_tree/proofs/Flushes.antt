-- A flush finds its segment's tree or makes it.
use Rattle.std.proofs.Common.{◌≡◌, ◌≢◌, refl, sym, ◌∙◌, ap, ℕ, suc, ◌+◌, List, [], ◌∷◌, ◌++◌, take, drop, Bool, true, false, cond, Option, length, arith}
use Rattle.std.specs.Prelude.{bytes_eq, ◌==◌, slice_get, slice_set}
use Rattle.std.specs.List.{prefix_len}
use Rattle.std.specs.Ordering.{is_lt, ordering_reverse}
use Rattle.std.specs.declared.cmp.Ordering.{Ordering}
use Rattle.std.specs.declared.cmp.Ordering.TheVariants.{Less, Equal, Greater}
use Rattle.std.proofs.lemmas.Slice.Eq.{bytes_eq-Decides}
use Rattle.std.proofs.lemmas.Cmp.{nat_list_cmp_total}
use Rattle.row_model.specs.Rows.{key_cmp}
use Rattle.row_laws.proofs.ApartRows.{false_or}
use Rattle.row_laws.proofs.KeyRows.{exact, key_alike}
use Rattle.fleet_tree.specs.Trees.{flushed_segments, flushed_on, tree_or_empty, empty_tree}
use Rattle.fleet_tree.specs.Views.{View}
use Rattle.fleet_tree.specs.declared.tree.LsmTreeState.{LsmTreeState}

abbrev Segments : Type 0
Segments = List (List ℕ × LsmTreeState)

module _ (prefix : List ℕ) (view : View) (seq : ℕ) where
  abbrev pub place_in : Segments → ℕ
  place_in xs = prefix_len (λ s. is_lt (key_cmp s.0 prefix)) xs

  -- The segments with this one put at place `n`. It replaces the segment there if `there` is true, and is
  -- inserted before it otherwise.
  abbrev pub put_at : Bool → ℕ → List ℕ × LsmTreeState → Segments → Segments
  put_at there n s xs = cond there (slice_set xs n s) (take n xs ++ s ∷ drop n xs)

  abbrev put_found : ℕ → Bool × LsmTreeState → Segments → Segments
  put_found n found xs = put_at found.0 n (prefix, flushed_on view seq found.1) xs

  other_prefix : (s : List ℕ × LsmTreeState) (o : Ordering) → key_cmp s.0 prefix ≡ o → (o ≡ Equal → ⊥) → bytes_eq prefix s.0 ≡ false
  other_prefix s o is apart = false_or (bytes_eq prefix s.0) (λ same.
      let alike = ap (λ k. key_cmp k prefix) (sym ((bytes_eq-Decides prefix s.0).0 same)) ∙ key_alike prefix in
      apart (sym is ∙ alike))

  after : (there : Bool) (tree : LsmTreeState) (s : List ℕ × LsmTreeState) (xs : Segments) (n : ℕ) → put_found (1 + n) (there, tree) (s ∷ xs) ≡ s ∷ put_found n (there, tree) xs
  after there tree s xs n = next there
    where
      next : (b : Bool) → put_found (1 + n) (b, tree) (s ∷ xs) ≡ s ∷ put_found n (b, tree) xs
      next true = let e : 1 + n ≡ suc n = omega arith in ap (λ m. slice_set (s ∷ xs) m (prefix, flushed_on view seq tree)) e
      next false = let e : 1 + n ≡ suc n = omega arith in ap (λ m. take m (s ∷ xs) ++ (prefix, flushed_on view seq tree) ∷ drop m (s ∷ xs)) e

  got_after : (s : List ℕ × LsmTreeState) (xs : Segments) (n : ℕ) → slice_get (s ∷ xs) (1 + n) ≡ slice_get xs n
  got_after s xs n = let e : 1 + n ≡ suc n = omega arith in ap (slice_get (s ∷ xs)) e

  -- What `flushed_segments` makes of `s ∷ xs`, given the answers of its two tests.
  abbrev chosen : Bool → Bool → List ℕ × LsmTreeState → Segments → Segments
  chosen same lower s xs = cond same ((prefix, flushed_on view seq s.1) ∷ xs) (cond lower ((prefix, flushed_on view seq empty_tree) ∷ s ∷ xs) (s ∷ flushed_segments prefix view seq xs))

  chosen_by : (same lower b c : Bool) (s : List ℕ × LsmTreeState) (xs : Segments) → same ≡ b → lower ≡ c → chosen b c s xs ≡ chosen same lower s xs
  chosen_by same lower b c s xs e f = sym (ap (λ x. chosen x lower s xs) e ∙ ap (λ x. chosen b x s xs) f)

  lower_is : (s : List ℕ × LsmTreeState) (o : Ordering) → key_cmp s.0 prefix ≡ o → is_lt (key_cmp prefix s.0) ≡ is_lt (ordering_reverse o)
  lower_is s o e = ap is_lt (nat_list_cmp_total.antisymm prefix s.0) ∙ ap (λ x. is_lt (ordering_reverse x)) e

  abbrev here : Bool → List ℕ × LsmTreeState → Bool × LsmTreeState
  here same s = cond same (true, s.1) (false, empty_tree)

  -- A flushed tree that is put at the place of its prefix gives the segments that the flush leaves.
  pub flushed_at : (xs : Segments) → put_found (place_in xs) (tree_or_empty prefix (slice_get xs (place_in xs))) xs ≡ flushed_segments prefix view seq xs
  flushed_at [] = refl
  flushed_at (s ∷ xs) = by (key_cmp s.0 prefix) refl (flushed_at xs)
    where
      by : (o : Ordering) → key_cmp s.0 prefix ≡ o → put_found (place_in xs) (tree_or_empty prefix (slice_get xs (place_in xs))) xs ≡ flushed_segments prefix view seq xs
          → put_found (cond (is_lt o) (1 + place_in xs) 0) (tree_or_empty prefix (slice_get (s ∷ xs) (cond (is_lt o) (1 + place_in xs) 0))) (s ∷ xs) ≡ flushed_segments prefix view seq (s ∷ xs)
      by Less e rest =
          let found = tree_or_empty prefix (slice_get xs (place_in xs)) in
          ap (λ got. put_found (1 + place_in xs) (tree_or_empty prefix got) (s ∷ xs)) (got_after s xs (place_in xs))
          ∙ after found.0 found.1 s xs (place_in xs)
          ∙ ap (λ trees. s ∷ trees) rest
          ∙ chosen_by (bytes_eq prefix s.0) (is_lt (key_cmp prefix s.0)) false false s xs (other_prefix s Less e (λ h. cc h)) (lower_is s Less e)
      by Equal e rest =
          let same : bytes_eq prefix s.0 ≡ true = (bytes_eq-Decides prefix s.0).1 (sym (exact s.0 prefix e)) in
          ap (λ b. put_found 0 (here b s) (s ∷ xs)) same ∙ chosen_by (bytes_eq prefix s.0) (is_lt (key_cmp prefix s.0)) true false s xs same (lower_is s Equal e)
      by Greater e rest =
          let other = other_prefix s Greater e (λ h. cc h) in
          ap (λ b. put_found 0 (here b s) (s ∷ xs)) other ∙ chosen_by (bytes_eq prefix s.0) (is_lt (key_cmp prefix s.0)) false true s xs other (lower_is s Greater e)

  -- Putting the segment with the flush at the place that was looked up makes what `flushed_segments` makes.
  pub put_is : (xs : Segments) (place : ℕ) (there : Bool) (tree made : LsmTreeState) (got : Option (List ℕ × LsmTreeState)) (key : List ℕ)
      → place ≡ place_in xs → got ≡ slice_get xs place → (there, tree) ≡ tree_or_empty prefix got → made ≡ flushed_on view seq tree → key ≡ prefix
      → put_at there place (key, made) xs ≡ flushed_segments prefix view seq xs
  put_is xs place there tree made got key at looked found with_flush same =
      ap (λ k. put_at there place (k, made) xs) same
      ∙ ap (λ t. put_at there place (prefix, t) xs) with_flush
      ∙ ap (λ f. put_found place f xs) found
      ∙ ap (λ g. put_found place (tree_or_empty prefix g) xs) looked
      ∙ ap (λ n. put_found n (tree_or_empty prefix (slice_get xs n)) xs) at
      ∙ flushed_at xs

  pub root_first : (s : List ℕ × LsmTreeState) (xs : Segments) → s.0 ≡ [] → prefix ≢ [] → s ∷ flushed_segments prefix view seq xs ≡ flushed_segments prefix view seq (s ∷ xs)
  root_first s xs root some =
      chosen_by (bytes_eq prefix s.0) (is_lt (key_cmp prefix s.0)) false false s xs
      (false_or (bytes_eq prefix s.0) (λ same. some ((bytes_eq-Decides prefix s.0).0 same ∙ root)))
      (ap (λ k. is_lt (key_cmp prefix k)) root ∙ none_lower prefix)
    where
      none_lower : (key : List ℕ) → is_lt (key_cmp key []) ≡ false
      none_lower [] = refl
      none_lower (b ∷ key) = refl

pub root_flushed : (prefix : List ℕ) (view : View) (seq : ℕ) (s : List ℕ × LsmTreeState) (xs : Segments) → s.0 ≡ [] → prefix ≡ [] → ([], flushed_on view seq s.1) ∷ xs ≡ flushed_segments prefix view seq (s ∷ xs)
root_flushed prefix view seq s xs root none =
    let same : bytes_eq prefix s.0 ≡ true = (bytes_eq-Decides prefix s.0).1 (none ∙ sym root) in
    ap (λ k. (k, flushed_on view seq s.1) ∷ xs) (sym none) ∙ chosen_by prefix view seq (bytes_eq prefix s.0) (is_lt (key_cmp prefix s.0)) true (is_lt (key_cmp prefix s.0)) s xs same refl

pub is_none : (prefix : List ℕ) → true ≡ (length prefix == 0) → prefix ≡ []
is_none [] h = refl
is_none (b ∷ prefix) h = absurd (grind arith)

pub is_some : (prefix : List ℕ) → false ≡ (length prefix == 0) → prefix ≢ []
is_some [] h none = absurd (cc h)
is_some (b ∷ prefix) h none = let e = ap length none in absurd (omega (arith, e))
