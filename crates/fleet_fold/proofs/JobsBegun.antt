-- Folded rows begin a job's rows, even if a fold refuses.
use Rattle.std.proofs.Common.{◌≡◌, ◌≢◌, ◌∙◌, sym, refl, ap, subst, ℕ, List, [], ◌∷◌, ◌++◌, map, Bool, true, false, Option, Some, None}
use Rattle.std.specs.Prelude.{bytes_eq, filter, if◌then◌else◌}
use Rattle.std.specs.List.{AllByRecursion}
use Rattle.std.specs.List.Sorted.{IsStrictlySortedBy}
use Rattle.std.specs.Option.{is_none}
use Rattle.std.specs.Ordering.{is_lt, is_gt, ordering_reverse}
use Rattle.std.specs.declared.cmp.Ordering.{Ordering}
use Rattle.std.specs.declared.cmp.Ordering.TheVariants.{Less, Equal, Greater}
use Rattle.std.proofs.lemmas.Cmp.{nat_list_cmp_total}
use Rattle.std.proofs.lemmas.List.{append-nil}
use Rattle.std.proofs.lemmas.List.Elements.{filter-append}
use Rattle.std.proofs.lemmas.Slice.Eq.{bytes_eq-Decides}
use Rattle.row_model.specs.Chunks.{Chunk, elements, chunk_by}
use Rattle.row_model.specs.Fold.{Operator, IsLawful}
use Rattle.row_model.specs.FoldedRows.{folded_rows}
use Rattle.row_model.specs.JobRows.{JobRows, key_rows, joined_keys, job_rows}
use Rattle.row_model.specs.KeptRows.{kept_rows}
use Rattle.row_model.specs.Lists.{IsPrefixOf}
use Rattle.row_model.specs.Rows.{Row, key_cmp, row_cmp, rows_of_key, same_key, IsStrictlyOrdered}
use Rattle.row_model.specs.Settings.{Settings}
use Rattle.row_laws.specs.Keys.{is_below}
use Rattle.row_laws.specs.Refusals.{RefusesIn}
use Rattle.row_laws.proofs.ApartRows.{all_filter, false_or, filter_all, filter_none, job_rows-append, none_below}
use Rattle.row_laws.proofs.Elements.{all_weaken}
use Rattle.row_laws.proofs.KeptReads.{flat, flat-chunk_by}
use Rattle.row_laws.proofs.KeyRows.{Keys, IsOther, key_alike, of_key-all, of_key-append, of_key-others, whole_both}
use Rattle.fleet_rows.specs.declared.errors.SlateDBError.{SlateDBError}
use Rattle.fleet_fold.specs.Folded.{Folded, folded_groups}
use Rattle.fleet_fold.specs.Jobs.{job_rule, BeginsJob, FoldsBeginJobs}
use Rattle.fleet_fold.specs.Retention.{kept_given}
use Rattle.fleet_fold.specs.declared.group.GroupRule.{GroupRule}
use Rattle.fleet_fold.proofs.Jobs.{apart_key, folded_ends, folded_on, here_keys, is_model, job_on, keys_job, later_keys, made_here, refused_here}
use Rattle.fleet_fold.proofs.Keys.{all_back}
use Rattle.fleet_fold.proofs.JobsChunks.{HaveOthers, AreWholeKeys, lesser, whole_keys}
use Rattle.fleet_fold.proofs.JobsLast.{all_append, append_some, before_alone, before_on, both_begin, cons_some, folds_some, nothing_begins, same_begins, whole_chunk}

-- ---- the rows of a first key, and those of other keys

greater_is : (o : Ordering) → is_gt o ≡ true → is_lt (ordering_reverse o) ≡ true
greater_is Less h = absurd (cc h)
greater_is Equal h = absurd (cc h)
greater_is Greater h = refl

ordered_back : (xs ys : List Row) → IsStrictlyOrdered (xs ++ ys) → IsStrictlyOrdered ys
unfolding IsStrictlySortedBy
ordered_back [] ys h = h
ordered_back (x ∷ xs) ys h = ordered_back xs ys h.1

module _ (merge : Operator) (lawful : IsLawful merge) (settings : Settings) (g : Chunk Row) (gs : List (Chunk Row)) (whole : AreWholeKeys (g ∷ gs)) (ordered : IsStrictlyOrdered (elements g ++ flat gs)) where
  abbrev rule : GroupRule
  rule = job_rule settings.cut

  abbrev all : List Row
  all = elements g ++ flat gs

  abbrev here : Folded
  here = folded_groups merge rule (elements g)

  abbrev later : Folded
  later = folded_groups merge rule (flat gs)

  abbrev make : List Row → JobRows
  make rows = job_rows merge settings rows

  after : AllByRecursion (λ q. row_cmp g.0 q ≡ Less) (g.1 ++ flat gs)
  unfolding IsStrictlySortedBy
  after = ordered.0

  -- If the first row is not below a key, no row is.
  none_lower : (key : List ℕ) → is_below key g.0 ≡ false → AllByRecursion (λ q. is_below key q ≡ false) all
  none_lower key high = (high, none_below key g.0 (g.1 ++ flat gs) high after)

  own_lower : AllByRecursion (λ q. is_below g.0.key q ≡ false) all
  own_lower = none_lower g.0.key (ap is_lt (key_alike g.0.key))

  -- The first key is below all later keys.
  under : AllByRecursion (λ q. is_below q.key g.0 ≡ true) (flat gs)
  under = both (flat gs) (all_back (λ q. row_cmp g.0 q ≡ Less) g.1 (flat gs) after) whole.1
    where
      both : (qs : List Row) → AllByRecursion (λ q. row_cmp g.0 q ≡ Less) qs → HaveOthers g.0.key qs → AllByRecursion (λ q. is_below q.key g.0 ≡ true) qs
      both [] before others = tt
      both (q ∷ qs) before others = (lesser g.0 q before.0 others.0, both qs before.1 others.1)

  -- If the first key is below a key, the rows below that key are the first key's rows and the other rows
  -- below it.
  lows : (key : List ℕ) → is_below key g.0 ≡ true → filter (is_below key) all ≡ elements g ++ filter (is_below key) (flat gs)
  lows key low =
      filter-append (is_below key) (elements g) (flat gs)
      ∙ ap (λ (rows : List Row). rows ++ filter (is_below key) (flat gs)) (filter_all (is_below key) (elements g)
      (all_weaken (λ q. q.key ≡ g.0.key) (λ q. is_below key q ≡ true) (λ q h. ap (λ (k : List ℕ). is_lt (key_cmp k key)) h ∙ low) (elements g) whole.0.keys))

  others_low : (key : List ℕ) → HaveOthers g.0.key (filter (is_below key) (flat gs))
  others_low key = all_filter (λ q. bytes_eq g.0.key q.key ≡ false) (is_below key) (flat gs) whole.1

  apart_low : (key : List ℕ) → AllByRecursion (λ x. HaveOthers x.key (filter (is_below key) (flat gs))) (elements g)
  apart_low key = apart_key g.0.key (elements g) (filter (is_below key) (flat gs)) whole.0.keys (others_low key)

  made_one : make (elements g) ≡ joined_keys (key_rows merge settings (elements g) ∷ [])
  made_one = ap (λ (cs : List (Chunk Row)). joined_keys (map (λ g. key_rows merge settings (elements g)) cs)) (whole_chunk settings g.0.key g.0 g.1 whole.0.keys)

  not_refused : (make (elements g)).whole ≡ true → here.refusal ≡ None
  not_refused all_made = by here.refusal refl
    where
      by : (refusal : Option SlateDBError) → here.refusal ≡ refusal → refusal ≡ None
      by None none = refl
      by (Some e) some =
          let none_made : make (elements g) ≡ joined_keys (None ∷ []) = made_one ∙ ap (λ (k : Option (List Row)). joined_keys (k ∷ [])) (refused_here merge lawful settings g gs whole e some) in
          let clash : false ≡ true = sym (ap (λ (j : JobRows). j.whole) none_made) ∙ all_made in
          absurd (cc clash)

  made_rows : here.refusal ≡ None → (make (elements g)).rows ≡ kept_rows settings here.rows
  made_rows none =
      ap (λ (j : JobRows). j.rows) (made_one ∙ ap (λ (k : Option (List Row)). joined_keys (k ∷ [])) (made_here merge lawful settings g gs whole none)) ∙ append-nil (kept_rows settings here.rows)

  rows_on : here.refusal ≡ None → (folded_groups merge rule all).rows ≡ here.rows ++ later.rows
  rows_on none = ap (λ (f : Folded). f.rows) (folded_on merge lawful settings g gs whole none)

  rows_end : (e : SlateDBError) → here.refusal ≡ Some e → (folded_groups merge rule all).rows ≡ here.rows
  rows_end e some = ap (λ (f : Folded). f.rows) (folded_ends merge lawful settings g gs whole e some)

  ends_alone : (folded_groups merge rule all).rows ≡ here.rows → kept_given settings false (folded_groups merge rule all).rows ≡ []
  ends_alone is = ap (kept_given settings false) is ∙ before_alone settings g.0.key here.rows (here_keys merge lawful settings g gs whole)

  goes_on : here.refusal ≡ None → later.rows ≢ [] → kept_given settings false (folded_groups merge rule all).rows ≡ kept_rows settings here.rows ++ kept_given settings false later.rows
  goes_on none some =
      ap (kept_given settings false) (rows_on none)
      ∙ before_on settings g.0.key here.rows later.rows (here_keys merge lawful settings g gs whole) (later_keys merge lawful settings g gs whole) (folds_some merge rule g.0 g.1 none) some

  -- ---- the beginning

  -- If what is kept of the later keys begins their job, what is kept of all keys begins the job of all
  -- keys.
  pub begins_on : IsPrefixOf (kept_given settings false later.rows) (keys_job merge settings gs).rows → IsPrefixOf (kept_given settings false (folded_groups merge rule all).rows) (keys_job merge settings (g ∷ gs)).rows
  begins_on rest = by here.refusal refl later.rows refl
    where
      made : List Row
      made = (keys_job merge settings (g ∷ gs)).rows

      by : (refusal : Option SlateDBError) → here.refusal ≡ refusal → (rows : List Row) → later.rows ≡ rows → IsPrefixOf (kept_given settings false (folded_groups merge rule all).rows) made
      by None none [] empty = nothing_begins (kept_given settings false (folded_groups merge rule all).rows) made (ends_alone (rows_on none ∙ (ap (λ (w : List Row). here.rows ++ w) empty ∙ append-nil here.rows)))
      by None none (q ∷ rows) is =
          same_begins (kept_given settings false (folded_groups merge rule all).rows) made (kept_rows settings here.rows ++ kept_given settings false later.rows) (kept_rows settings here.rows ++ (keys_job merge settings gs).rows)
          (goes_on none (λ empty. cons_some q rows (sym is ∙ empty)))
          (ap (λ (j : JobRows). j.rows) (job_on merge lawful settings g gs whole none))
          (both_begin (kept_rows settings here.rows) (kept_given settings false later.rows) (keys_job merge settings gs).rows rest)
      by (Some e) some rows is = nothing_begins (kept_given settings false (folded_groups merge rule all).rows) made (ends_alone (rows_end e some))

  -- ---- how far the kept rows reach

  abbrev Reaches : List Row → List Row → Row → Type 0
  Reaches rows made q = (made ≢ []) × IsPrefixOf (make (filter (is_below q.key) rows)).rows (kept_given settings false made)

  wholes : (key : List ℕ) → is_below key g.0 ≡ true → (make (filter (is_below key) all)).whole ≡ true → ((make (elements g)).whole ≡ true) × ((make (filter (is_below key) (flat gs))).whole ≡ true)
  wholes key low is =
      whole_both merge settings (elements g) (filter (is_below key) (flat gs)) (apart_low key) (ap (λ (rows : List Row). (make rows).whole) (sym (lows key low)) ∙ is)

  reaches_first : here.refusal ≡ None → (q : Row) → q.key ≡ g.0.key → Reaches all (folded_groups merge rule all).rows q
  reaches_first none q alike = (
    subst (λ (rows : List Row). rows ≢ []) (sym (rows_on none)) (append_some here.rows later.rows (folds_some merge rule g.0 g.1 none)),
    nothing_begins (make (filter (is_below q.key) all)).rows (kept_given settings false (folded_groups merge rule all).rows)
        (ap (λ (rows : List Row). (make rows).rows) (ap (λ (k : List ℕ). filter (is_below k) all) alike ∙ filter_none (is_below g.0.key) all own_lower)),
  )

  -- If the first key's job is whole and the folded rows of the later keys reach up to a row, those of all
  -- keys reach up to it.
  reaches_later : (make (elements g)).whole ≡ true → (q : Row) → is_below q.key g.0 ≡ true → Reaches (flat gs) later.rows q → Reaches all (folded_groups merge rule all).rows q
  reaches_later is q low rest =
      let none = not_refused is in
      let others = filter (is_below q.key) (flat gs) in (
        subst (λ (rows : List Row). rows ≢ []) (sym (rows_on none)) (append_some here.rows later.rows (folds_some merge rule g.0 g.1 none)),
        same_begins (make (filter (is_below q.key) all)).rows (kept_given settings false (folded_groups merge rule all).rows) (kept_rows settings here.rows ++ (make others).rows) (kept_rows settings here.rows ++ kept_given settings false later.rows)
            (ap (λ (rows : List Row). (make rows).rows) (lows q.key low)
            ∙ (ap (λ (j : JobRows). j.rows) (job_rows-append merge settings (elements g) others (apart_low q.key) is) ∙ ap (λ (rows : List Row). rows ++ (make others).rows) (made_rows none)))
            (goes_on none rest.0)
            (both_begin (kept_rows settings here.rows) (make others).rows (kept_given settings false later.rows) rest.1),
      )

  -- If the job below a key is whole and the folded rows of the later keys reach up to each of their rows
  -- below that key, the folded rows of all keys reach up to each row below it.
  pub reaches_on : (key : List ℕ) → (make (filter (is_below key) all)).whole ≡ true
      → ((make (filter (is_below key) (flat gs))).whole ≡ true → AllByRecursion (λ q. is_below key q ≡ true → Reaches (flat gs) later.rows q) (flat gs))
      → AllByRecursion (λ q. is_below key q ≡ true → Reaches all (folded_groups merge rule all).rows q) all
  reaches_on key is rest = by (is_below key g.0) refl
    where
      on : (first : (make (elements g)).whole ≡ true) (qs : List Row) → AllByRecursion (λ q. is_below q.key g.0 ≡ true) qs → AllByRecursion (λ q. is_below key q ≡ true → Reaches (flat gs) later.rows q) qs
          → AllByRecursion (λ q. is_below key q ≡ true → Reaches all (folded_groups merge rule all).rows q) qs
      on first [] low reached = tt
      on first (q ∷ qs) low reached = (λ below. reaches_later first q low.0 (reached.0 below), on first qs low.1 reached.1)

      by : (b : Bool) → is_below key g.0 ≡ b → AllByRecursion (λ q. is_below key q ≡ true → Reaches all (folded_groups merge rule all).rows q) all
      by true low =
          let both = wholes key low is in
          all_append (λ q. is_below key q ≡ true → Reaches all (folded_groups merge rule all).rows q) (elements g) (flat gs)
          (all_weaken (λ q. q.key ≡ g.0.key) (λ q. is_below key q ≡ true → Reaches all (folded_groups merge rule all).rows q) (λ q alike below. reaches_first (not_refused both.0) q alike) (elements g) whole.0.keys)
          (on both.0 (flat gs) under (rest both.1))
      by false high =
          all_weaken (λ q. is_below key q ≡ false) (λ q. is_below key q ≡ true → Reaches all (folded_groups merge rule all).rows q) (λ q no below. let clash : false ≡ true = sym no ∙ below in absurd (cc clash)) all (none_lower key high)

  -- ---- no row above a key in which a fold refuses

  abbrev IsNotAbove : List ℕ → Row → Type 0
  IsNotAbove key q = is_gt (key_cmp q.key key) ≡ false

  abbrev refuses : List ℕ → List Row → Type 0
  refuses key rows = RefusesIn merge settings key rows

  not_above : (key : List ℕ) → refuses key all → IsNotAbove key g.0
  not_above key refused = false_or (is_gt (key_cmp g.0.key key)) (λ above.
      let lower : is_lt (key_cmp key g.0.key) ≡ true = ap is_lt (nat_list_cmp_total.antisymm key g.0.key) ∙ greater_is (key_cmp g.0.key key) above in
      let others : Keys (IsOther key) all = all_weaken (λ q. is_below g.0.key q ≡ false) (λ q. IsOther key q.key) (λ q no. false_or (bytes_eq key q.key) (λ same.
      let clash : false ≡ true = sym no ∙ (ap (λ (k : List ℕ). is_lt (key_cmp k g.0.key)) (sym ((bytes_eq-Decides key q.key).0 same)) ∙ lower) in cc clash)) all own_lower in
      let clash : Some [] ≡ None = sym (ap (folded_rows merge settings.cut) (of_key-others key all others)) ∙ refused in
      cc clash)

  -- If no fold of the first key is refused, a refusal among all keys is a refusal among the later ones.
  refused_later : (key : List ℕ) → here.refusal ≡ None → refuses key all → refuses key (flat gs)
  refused_later key none refused = by (bytes_eq key g.0.key) refl
    where
      split : rows_of_key key all ≡ rows_of_key key (elements g) ++ rows_of_key key (flat gs)
      split = of_key-append key (elements g) (flat gs)

      own : (b : Bool) → bytes_eq key g.0.key ≡ b → AllByRecursion (λ q. bytes_eq key q.key ≡ b) (elements g)
      own b e = all_weaken (λ q. q.key ≡ g.0.key) (λ q. bytes_eq key q.key ≡ b) (λ q h. ap (bytes_eq key) h ∙ e) (elements g) whole.0.keys

      by : (b : Bool) → bytes_eq key g.0.key ≡ b → refuses key (flat gs)
      by true e =
          let others : Keys (IsOther key) (flat gs) = subst (λ (k : List ℕ). HaveOthers k (flat gs)) (sym ((bytes_eq-Decides key g.0.key).0 e)) whole.1 in
          let that : rows_of_key key all ≡ elements g =
          split ∙ (ap (λ (rows : List Row). rows ++ rows_of_key key (flat gs)) (of_key-all key (elements g) (own true e))
          ∙ (ap (λ (rows : List Row). elements g ++ rows) (of_key-others key (flat gs) others) ∙ append-nil (elements g))) in
          let model : Some here.rows ≡ folded_rows merge settings.cut (elements g) =
          ap (λ (e : Option SlateDBError). if is_none e then Some here.rows else None) (sym none) ∙ is_model merge lawful settings g gs whole in
          let clash : Some here.rows ≡ None = model ∙ (ap (folded_rows merge settings.cut) (sym that) ∙ refused) in
          absurd (cc clash)
      by false e =
          ap (folded_rows merge settings.cut) (sym (split ∙ ap (λ (rows : List Row). rows ++ rows_of_key key (flat gs)) (of_key-others key (elements g) (own false e)))) ∙ refused

  pub up_to_on : (key : List ℕ) → refuses key all → (refuses key (flat gs) → AllByRecursion (IsNotAbove key) later.rows) → AllByRecursion (IsNotAbove key) (folded_groups merge rule all).rows
  up_to_on key refused rest = by here.refusal refl
    where
      first : AllByRecursion (IsNotAbove key) here.rows
      first = all_weaken (λ q. q.key ≡ g.0.key) (IsNotAbove key) (λ q h. ap (λ (k : List ℕ). is_gt (key_cmp k key)) h ∙ not_above key refused) here.rows (here_keys merge lawful settings g gs whole)

      by : (refusal : Option SlateDBError) → here.refusal ≡ refusal → AllByRecursion (IsNotAbove key) (folded_groups merge rule all).rows
      by None none = subst (AllByRecursion (IsNotAbove key)) (sym (rows_on none)) (all_append (IsNotAbove key) here.rows later.rows first (rest (refused_later key none refused)))
      by (Some e) some = subst (AllByRecursion (IsNotAbove key)) (sym (rows_end e some)) first

-- ---- key after key

module _ (merge : Operator) (lawful : IsLawful merge) (settings : Settings) where
  abbrev made : List Row → List Row
  made rows = (folded_groups merge (job_rule settings.cut) rows).rows

  begin : (gs : List (Chunk Row)) → AreWholeKeys gs → IsStrictlyOrdered (flat gs) → IsPrefixOf (kept_given settings false (made (flat gs))) (keys_job merge settings gs).rows
  begin [] whole ordered = ([], refl)
  begin (g ∷ gs) whole ordered = begins_on merge lawful settings g gs whole ordered (begin gs whole.2 (ordered_back (elements g) (flat gs) ordered))

  reach : (key : List ℕ) (gs : List (Chunk Row)) → AreWholeKeys gs → IsStrictlyOrdered (flat gs) → (job_rows merge settings (filter (is_below key) (flat gs))).whole ≡ true
      → AllByRecursion (λ q. is_below key q ≡ true → (made (flat gs) ≢ []) × IsPrefixOf (job_rows merge settings (filter (is_below q.key) (flat gs))).rows (kept_given settings false (made (flat gs)))) (flat gs)
  reach key [] whole ordered is = tt
  reach key (g ∷ gs) whole ordered is = reaches_on merge lawful settings g gs whole ordered key is (reach key gs whole.2 (ordered_back (elements g) (flat gs) ordered))

  keys_up_to : (key : List ℕ) (gs : List (Chunk Row)) → AreWholeKeys gs → IsStrictlyOrdered (flat gs) → RefusesIn merge settings key (flat gs) → AllByRecursion (λ q. is_gt (key_cmp q.key key) ≡ false) (made (flat gs))
  keys_up_to key [] whole ordered refused = tt
  keys_up_to key (g ∷ gs) whole ordered refused = up_to_on merge lawful settings g gs whole ordered key refused (keys_up_to key gs whole.2 (ordered_back (elements g) (flat gs) ordered))

  of_chunks : (gs : List (Chunk Row)) (rows : List Row) → flat gs ≡ rows → chunk_by same_key rows ≡ gs → AreWholeKeys gs → IsStrictlyOrdered (flat gs) → BeginsJob merge settings (flat gs)
  of_chunks gs rows same chunks whole ordered = record {
    begins = same_begins (kept_given settings false (made (flat gs))) (job_rows merge settings (flat gs)).rows (kept_given settings false (made (flat gs))) (keys_job merge settings gs).rows
        refl (ap (λ (xs : List Row). (job_rows merge settings xs).rows) same ∙ ap (λ (cs : List (Chunk Row)). (keys_job merge settings cs).rows) chunks) (begin gs whole ordered);
    up_to = λ key refused. keys_up_to key gs whole ordered refused;
    reaches = λ key is.
        all_weaken (λ q. is_below key q ≡ true → (made (flat gs) ≢ []) × IsPrefixOf (job_rows merge settings (filter (is_below q.key) (flat gs))).rows (kept_given settings false (made (flat gs))))
        (λ q. is_below key q ≡ true → IsPrefixOf (job_rows merge settings (filter (is_below q.key) (flat gs))).rows (kept_given settings false (made (flat gs)))) (λ q h below. (h below).1) (flat gs) (reach key gs whole ordered is);
  }

pub folds_begin_jobs : (merge : Operator) → IsLawful merge → FoldsBeginJobs merge
folds_begin_jobs merge lawful settings rows ordered =
    let same : flat (chunk_by same_key rows) ≡ rows = flat-chunk_by same_key rows in
    subst (BeginsJob merge settings) same (of_chunks merge lawful settings (chunk_by same_key rows) rows same refl (whole_keys rows ordered) (subst IsStrictlyOrdered (sym same) ordered))
