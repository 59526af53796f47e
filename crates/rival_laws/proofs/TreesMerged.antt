-- A flush of the writer leaves a merge of the stored trees into local ones what it is.
use Rattle.std.proofs.Common.{◌≡◌, refl, sym, ◌∙◌, ap, subst, ℕ, List, [], ◌∷◌, ◌++◌, cond, Bool, true, false, inl, inr, Option, Some, None}
use Rattle.std.specs.Prelude.{IsTrue, ◌==◌, bytes_eq, is_some}
use Rattle.std.specs.Ordering.{is_lt}
use Rattle.std.specs.declared.cmp.Ordering.TheVariants.{Less, Equal, Greater}
use Rattle.std.specs.List.{AllByRecursion}
use Rattle.std.proofs.lemmas.Bool.Decides.{Decides-eqb}
use Rattle.std.proofs.lemmas.Cmp.{nat_list_cmp_total}
use Rattle.std.proofs.lemmas.Slice.Eq.{bytes_eq-Decides}
use Rattle.row_model.specs.Rows.{Row, key_cmp}
use Rattle.fleet_model.specs.Nodes.{L0, NodeName, Segment, Trees, names, segment_at, runs_of}
use Rattle.fleet_model.specs.Trees.{flushed_trees, flushed_on, empty_segment}
use Rattle.fleet_model.specs.History.{Entry}
use Rattle.step_model.specs.Entries.{was_flushed}
use Rattle.step_model.specs.Kept.TablesKept.{IsPassed}
use Rattle.step_model.specs.Steps.Merging.{is_watermark, flushes_before, merged_segment, merged_trees}
use Rattle.step_laws.proofs.Elements.{IsIn, all_at, all_to}
use Rattle.step_laws.proofs.FlushTrees.{Rising, none_above}

-- ---- a merge, segment by segment

-- A stored segment merged with the local one of its prefix is the stored one.
abbrev pub Stays : Trees → Segment → Type 0
Stays local s = merged_segment (segment_at s.prefix local) s ≡ s

pub merge_each : (local remote : Trees) → merged_trees local remote ≡ remote → AllByRecursion (Stays local) remote
merge_each local [] e = tt
merge_each local (s ∷ remote) e = (cc e, merge_each local remote (cc e))

pub each_merges : (local remote : Trees) → AllByRecursion (Stays local) remote → merged_trees local remote ≡ remote
each_merges local [] h = refl
each_merges local (s ∷ remote) h =
    let first = h.0 in
    let rest = each_merges local remote h.1 in
    λ i. first i ∷ rest i

-- ---- a flush

less_from : (p : List ℕ) (s : Segment) (trees : Trees) → is_lt (key_cmp p s.prefix) ≡ true → AllByRecursion (λ t. key_cmp s.prefix t.prefix ≡ Less) trees → AllByRecursion (λ t. key_cmp p t.prefix ≡ Less) (s ∷ trees)
less_from p s trees low rise =
    let first = lt_less (key_cmp p s.prefix) low in
    (first, all_to _ _ trees (λ t there later. nat_list_cmp_total.trans p s.prefix t.prefix first later) rise)
  where
    lt_less : (o : _) → is_lt o ≡ true → o ≡ Less
    lt_less Less e = refl
    lt_less Equal e = absurd (cc e)
    lt_less Greater e = absurd (cc e)

-- What is so of each segment is so after a flush, if it is so of the segment of the flush, and of a new one where there is none.
flush_each : (Q : Segment → Type 0) (prefix : List ℕ) (name : ℕ) (rows : List Row) (trees : Trees) → Rising trees → (segment_at prefix trees ≡ None → Q (flushed_on name rows (empty_segment prefix)))
    → ((s : Segment) → IsIn s trees → prefix ≡ s.prefix → Q s → Q (flushed_on name rows s)) → AllByRecursion Q trees → AllByRecursion Q (flushed_trees prefix name rows trees)
flush_each Q prefix name rows [] rise new grow h = (new refl, tt)
flush_each Q prefix name rows (s ∷ trees) rise new grow h =
    by (bytes_eq prefix s.prefix) refl (is_lt (key_cmp prefix s.prefix)) refl (λ none. flush_each Q prefix name rows trees rise.1 none (λ t there. grow t (inr there)) h.1)
  where
    by : (same : Bool) → bytes_eq prefix s.prefix ≡ same → (below : Bool) → is_lt (key_cmp prefix s.prefix) ≡ below
        → ((segment_at prefix trees ≡ None → Q (flushed_on name rows (empty_segment prefix))) → AllByRecursion Q (flushed_trees prefix name rows trees))
        → AllByRecursion Q (cond same (flushed_on name rows s ∷ trees) (cond below (flushed_on name rows (empty_segment prefix) ∷ s ∷ trees) (s ∷ flushed_trees prefix name rows trees)))
    by true e below f rest = (grow s (inl refl) ((bytes_eq-Decides prefix s.prefix).0 e) h.0, h.1)
    by false e true f rest = (new (none_above prefix (s ∷ trees) (less_from prefix s trees f rise.0)), h)
    by false e false f rest = (h.0, rest (λ none. new (ap (λ b. cond b (Some s) (segment_at prefix trees)) e ∙ none)))

-- The segments of a flush are those before it, and that of the flush.
pub segment_stays : (p prefix : List ℕ) (name : ℕ) (rows : List Row) (trees : Trees) → IsTrue (is_some (segment_at p trees)) → IsTrue (is_some (segment_at p (flushed_trees prefix name rows trees)))
segment_stays p prefix name rows [] h = absurd (cc h)
segment_stays p prefix name rows (s ∷ trees) h = by (bytes_eq prefix s.prefix) (is_lt (key_cmp prefix s.prefix)) (segment_stays p prefix name rows trees) h
  where
    there : (b : Bool) → IsTrue (is_some (cond b (Some s) (segment_at p trees))) → IsTrue (is_some (cond b (Some (flushed_on name rows s)) (segment_at p trees)))
    there true h = refl
    there false h = h

    front : (b : Bool) (t : Segment) (o : Option Segment) → IsTrue (is_some o) → IsTrue (is_some (cond b (Some t) o))
    front true t o h = refl
    front false t o h = h

    later : (b : Bool) → (IsTrue (is_some (segment_at p trees)) → IsTrue (is_some (segment_at p (flushed_trees prefix name rows trees)))) → IsTrue (is_some (cond b (Some s) (segment_at p trees)))
        → IsTrue (is_some (cond b (Some s) (segment_at p (flushed_trees prefix name rows trees))))
    later true rest h = refl
    later false rest h = rest h

    by : (same below : Bool) → (IsTrue (is_some (segment_at p trees)) → IsTrue (is_some (segment_at p (flushed_trees prefix name rows trees)))) → IsTrue (is_some (cond (bytes_eq p s.prefix) (Some s) (segment_at p trees)))
        → IsTrue (is_some (segment_at p (cond same (flushed_on name rows s ∷ trees) (cond below (flushed_on name rows (empty_segment prefix) ∷ s ∷ trees) (s ∷ flushed_trees prefix name rows trees)))))
    by true below rest h = there (bytes_eq p s.prefix) h
    by false true rest h = front (bytes_eq p prefix) (flushed_on name rows (empty_segment prefix)) _ h
    by false false rest h = later (bytes_eq p s.prefix) rest h

-- ---- the merge after a flush

-- A watermark that is passed is not the name of a flush that never took effect.
not_watermark : (history : List Entry) (name : ℕ) (ns : List NodeName) (mark : Option ℕ) → was_flushed history name ≡ false → IsPassed history ns mark → is_watermark mark (L0 name) ≡ false
not_watermark history name ns None new passed = refl
not_watermark history name ns (Some flush) new passed = by (flush == name) refl
  where
    refused : (b : Bool) → b ≡ false → IsTrue b → ⊥
    refused true e h = absurd (cc e)
    refused false e h = absurd (cc h)

    by : (b : Bool) → (flush == name) ≡ b → b ≡ false
    by true e = absurd (refused (was_flushed history name) new (subst (λ n. IsTrue (was_flushed history n)) ((Decides-eqb flush name).0 e) passed.0))
    by false e = refl

grown : (history : List Entry) (name : ℕ) (rows : List Row) (local : Option Segment) (s : Segment) → was_flushed history name ≡ false → IsPassed history (names s.tree) s.watermark → merged_segment local s ≡ s → merged_segment local (flushed_on name rows s) ≡ flushed_on name rows s
grown history name rows None s new passed e = refl
grown history name rows (Some l) s new passed e =
    let mark : l.watermark ≡ s.watermark = ap (λ (t : Segment). t.watermark) e in
    let tree : flushes_before l.watermark s.tree ++ runs_of l.tree ≡ s.tree = ap (λ (t : Segment). t.tree) e in
    let other : is_watermark l.watermark (L0 name) ≡ false = ap (λ m. is_watermark m (L0 name)) mark ∙ not_watermark history name (names s.tree) s.watermark new passed in
    rw other (λ i. record (flushed_on name rows s) { tree = record { name = L0 name; flushes = name ∷ []; pieces = name ∷ [] } ∷ tree i; watermark = mark i })

-- A flush of a new name leaves how local trees merge, if their segments are stored and all watermarks are passed.
pub merge_flushed : (history : List Entry) (local : Trees) (prefix : List ℕ) (name : ℕ) (rows : List Row) (trees : Trees) → Rising trees → was_flushed history name ≡ false → AllByRecursion (λ s. IsPassed history (names s.tree) s.watermark) trees
    → AllByRecursion (λ s. IsTrue (is_some (segment_at s.prefix trees))) local → merged_trees local trees ≡ trees → merged_trees local (flushed_trees prefix name rows trees) ≡ flushed_trees prefix name rows trees
merge_flushed history local prefix name rows trees rise new passed known e =
    each_merges local _ (flush_each (Stays local) prefix name rows trees rise (λ none. fresh (segment_at prefix local) refl none)
    (λ s there same stays. grown history name rows (segment_at s.prefix local) s new (all_at _ trees s passed there) stays) (merge_each local trees e))
  where
    found : (xs : Trees) (s : Segment) → segment_at prefix xs ≡ Some s → AllByRecursion (λ t. IsTrue (is_some (segment_at t.prefix trees))) xs → IsTrue (is_some (segment_at prefix trees))
    found [] s e h = absurd (cc e)
    found (t ∷ xs) s e h = by (bytes_eq prefix t.prefix) refl (λ f. found xs s f h.1) e
      where
        by : (b : Bool) → bytes_eq prefix t.prefix ≡ b → (segment_at prefix xs ≡ Some s → IsTrue (is_some (segment_at prefix trees))) → cond b (Some t) (segment_at prefix xs) ≡ Some s → IsTrue (is_some (segment_at prefix trees))
        by true f rest e = subst (λ p. IsTrue (is_some (segment_at p trees))) (sym ((bytes_eq-Decides prefix t.prefix).0 f)) h.0
        by false f rest e = rest e

    fresh : (o : Option Segment) → segment_at prefix local ≡ o → segment_at prefix trees ≡ None → merged_segment o (flushed_on name rows (empty_segment prefix)) ≡ flushed_on name rows (empty_segment prefix)
    fresh None f none = refl
    fresh (Some l) f none = absurd (cc (found local l f known, ap is_some none))
