-- What is kept of the folded rows, key after key, is the job's rows.
use Rattle.std.proofs.Common.{◌≡◌, ◌∙◌, sym, refl, ap, subst, ℕ, zero, suc, ◌≤◌, List, [], ◌∷◌, ◌++◌, map, length, ◌&&◌, Bool, true, false, Option, Some, None, Ok, Err, arith}
use Rattle.std.specs.Prelude.{bytes_eq, flat_map, option_map, Result, if◌then◌else◌}
use Rattle.std.specs.List.{AllByRecursion}
use Rattle.std.specs.Option.{is_none}
use Rattle.std.proofs.lemmas.Grind.{flat_map-append}
use Rattle.std.proofs.lemmas.List.{append-nil}
use Rattle.std.proofs.lemmas.Slice.Eq.{bytes_eq-Decides}
use Rattle.row_model.specs.Chunks.{Chunk, elements, chunk_by}
use Rattle.row_model.specs.Fold.{Operator, IsLawful}
use Rattle.row_model.specs.FoldedRows.{folded_rows, same_stamp}
use Rattle.row_model.specs.JobRows.{JobRows, key_rows, joined_keys, job_rows}
use Rattle.row_model.specs.KeptRows.{kept_rows, kept_of_keys}
use Rattle.row_model.specs.Rows.{Row, same_key, is_operand}
use Rattle.row_model.specs.Settings.{Settings}
use Rattle.row_laws.proofs.ApartRows.{chunk_by-append}
use Rattle.row_laws.proofs.Elements.{all_weaken}
use Rattle.row_laws.proofs.KeptReads.{flat, flat-chunk_by}
use Rattle.fleet_rows.specs.declared.errors.SlateDBError.{SlateDBError}
use Rattle.fleet_fold.specs.Folded.{Folded, opens, same_group, joining, group_answer, row_of_answer, merged_group, merged_row, folded_after, before_refusal, up_to_refusal, folded_groups}
use Rattle.fleet_fold.specs.Jobs.{job_rule, rows_if_whole, FoldsMakeJobs}
use Rattle.fleet_fold.specs.Retention.{HaveOneKey, AreEndedBy}
use Rattle.fleet_fold.specs.declared.group.GroupRule.{GroupRule}
use Rattle.fleet_fold.proofs.JobsChunks.{HaveOthers, AreWholeKeys, whole_keys}
use Rattle.fleet_fold.proofs.JobsOfKey.{folds_one_key}
use Rattle.fleet_fold.proofs.Keys.{first_key}

-- ---- rows of two lists with no common key

abbrev AreApart : List Row → List Row → Type 0
AreApart xs ys = AllByRecursion (λ x. HaveOthers x.key ys) xs

module _ (merge : Operator) (rule : GroupRule) where
  joins_none : (r : Row) (ys : List Row) → HaveOthers r.key ys → joining rule r ys ≡ []
  joins_none r [] others = refl
  joins_none r (y ∷ ys) others =
      ap (λ (b : Bool). if b && (if rule.merge_different_expire_ts then true else same_stamp r.expires y.expires) then y ∷ (if is_operand y then joining rule r ys else []) else []) others.0

  joining-append : (r : Row) (xs ys : List Row) → HaveOthers r.key ys → joining rule r (xs ++ ys) ≡ joining rule r xs
  joining-append r [] ys others = joins_none r ys others
  joining-append r (x ∷ xs) ys others =
      ap (λ (more : List Row). if same_group rule r.key r.expires x then x ∷ (if is_operand x then more else []) else []) (joining-append r xs ys others)

  joining_short : (r : Row) (rows : List Row) → length (joining rule r rows) ≤ length rows
  joining_short r [] = omega arith
  joining_short r (q ∷ rows) = by (same_group rule r.key r.expires q) (is_operand q) (joining_short r rows)
    where
      by : (same operand : Bool) → length (joining rule r rows) ≤ length rows → length (if same then q ∷ (if operand then joining rule r rows else []) else []) ≤ length (q ∷ rows)
      by true true rest = omega arith
      by true false rest = omega arith
      by false operand rest = omega arith

  -- A group in the first list takes no row of the second list.
  after-append : (taken : ℕ) (xs ys : List Row) → taken ≤ length xs → AreApart xs ys → folded_after merge rule taken (xs ++ ys) ≡ folded_after merge rule taken xs ++ folded_after merge rule 0 ys
  after-append zero [] ys few apart = refl
  after-append (suc taken) [] ys few apart = absurd (omega arith)
  after-append (suc taken) (x ∷ xs) ys few apart = after-append taken xs ys (omega arith) apart.1
  after-append zero (x ∷ xs) ys few apart =
      by (opens rule x) (joining-append x xs ys apart.0) (after-append (length (joining rule x xs)) xs ys (joining_short x xs) apart.1) (after-append 0 xs ys (omega arith) apart.1)
    where
      by : (b : Bool) → joining rule x (xs ++ ys) ≡ joining rule x xs
          → folded_after merge rule (length (joining rule x xs)) (xs ++ ys) ≡ folded_after merge rule (length (joining rule x xs)) xs ++ folded_after merge rule 0 ys
          → folded_after merge rule 0 (xs ++ ys) ≡ folded_after merge rule 0 xs ++ folded_after merge rule 0 ys
          → (if b then merged_group merge (x, joining rule x (xs ++ ys)) ∷ folded_after merge rule (length (joining rule x (xs ++ ys))) (xs ++ ys) else Ok x ∷ folded_after merge rule 0 (xs ++ ys))
          ≡ (if b then merged_group merge (x, joining rule x xs) ∷ folded_after merge rule (length (joining rule x xs)) xs else Ok x ∷ folded_after merge rule 0 xs) ++ folded_after merge rule 0 ys
      by true same after rest =
          ap (λ (joined : List Row). merged_group merge (x, joined) ∷ folded_after merge rule (length joined) (xs ++ ys)) same
          ∙ ap (λ (later : List (Result Row SlateDBError)). merged_group merge (x, joining rule x xs) ∷ later) after
      by false same after rest = ap (λ (later : List (Result Row SlateDBError)). Ok x ∷ later) rest

  -- ---- folded rows have keys of the rows

  merged_key : (g : Chunk Row) (q : Row) → merged_group merge g ≡ Ok q → q.key ≡ g.0.key
  merged_key g q h = by (group_answer merge g) h
    where
      by : (answer : Result (List ℕ) SlateDBError) → row_of_answer g answer ≡ Ok q → q.key ≡ g.0.key
      by (Ok bytes) h = let e : merged_row g bytes ≡ q = cc in sym (ap (λ (r : Row). r.key) e)
      by (Err e) h = absurd (cc h)

  -- What holds of the keys of all rows holds of the keys of the rows that they fold to.
  after_keys : (P : List ℕ → Type 0) (taken : ℕ) (rows : List Row) → AllByRecursion (λ r. P r.key) rows → AllByRecursion (λ r. P r.key) (up_to_refusal (folded_after merge rule taken rows)).rows
  after_keys P taken [] all = tt
  after_keys P (suc taken) (r ∷ rows) all = after_keys P taken rows all.1
  after_keys P zero (r ∷ rows) all = by (opens rule r) (after_keys P (length (joining rule r rows)) rows all.1) (after_keys P 0 rows all.1)
    where
      first : (answer : Result Row SlateDBError) (later : Folded) → merged_group merge (r, joining rule r rows) ≡ answer → AllByRecursion (λ q. P q.key) later.rows → AllByRecursion (λ q. P q.key) (before_refusal answer later).rows
      first (Err e) later is rest = tt
      first (Ok q) later is rest = (subst P (sym (merged_key (r, joining rule r rows) q is)) all.0, rest)

      by : (b : Bool) → AllByRecursion (λ q. P q.key) (up_to_refusal (folded_after merge rule (length (joining rule r rows)) rows)).rows → AllByRecursion (λ q. P q.key) (up_to_refusal (folded_after merge rule 0 rows)).rows
          → AllByRecursion (λ q. P q.key) (up_to_refusal (if b then merged_group merge (r, joining rule r rows) ∷ folded_after merge rule (length (joining rule r rows)) rows else Ok r ∷ folded_after merge rule 0 rows)).rows
      by true after rest = first (merged_group merge (r, joining rule r rows)) (up_to_refusal (folded_after merge rule (length (joining rule r rows)) rows)) refl after
      by false after rest = (all.0, rest)

  pub folded_keys : (P : List ℕ → Type 0) (rows : List Row) → AllByRecursion (λ r. P r.key) rows → AllByRecursion (λ r. P r.key) (folded_groups merge rule rows).rows
  folded_keys P rows all = after_keys P 0 rows all

-- ---- up to the first refusal of two lists

abbrev pub folded_of : List Row → Option SlateDBError → Folded
folded_of rows refusal = record { rows = rows; refusal = refusal }

up_to-append : (xs ys : List (Result Row SlateDBError)) → (up_to_refusal xs).refusal ≡ None → up_to_refusal (xs ++ ys) ≡ folded_of ((up_to_refusal xs).rows ++ (up_to_refusal ys).rows) (up_to_refusal ys).refusal
up_to-append [] ys none = refl
up_to-append (Err e ∷ xs) ys none = absurd (cc none)
up_to-append (Ok r ∷ xs) ys none = ap (before_refusal (Ok r)) (up_to-append xs ys none)

up_to-refused : (xs ys : List (Result Row SlateDBError)) (e : SlateDBError) → (up_to_refusal xs).refusal ≡ Some e → up_to_refusal (xs ++ ys) ≡ up_to_refusal xs
up_to-refused [] ys e some = absurd (cc some)
up_to-refused (Err x ∷ xs) ys e some = refl
up_to-refused (Ok r ∷ xs) ys e some = ap (before_refusal (Ok r)) (up_to-refused xs ys e some)

module _ (merge : Operator) (rule : GroupRule) (xs ys : List Row) (apart : AreApart xs ys) where
  pub folded-append : (folded_groups merge rule xs).refusal ≡ None → folded_groups merge rule (xs ++ ys) ≡ folded_of ((folded_groups merge rule xs).rows ++ (folded_groups merge rule ys).rows) (folded_groups merge rule ys).refusal
  folded-append none = ap up_to_refusal (after-append merge rule 0 xs ys (omega arith) apart) ∙ up_to-append (folded_after merge rule 0 xs) (folded_after merge rule 0 ys) none

  pub folded-refused : (e : SlateDBError) → (folded_groups merge rule xs).refusal ≡ Some e → folded_groups merge rule (xs ++ ys) ≡ folded_groups merge rule xs
  folded-refused e some = ap up_to_refusal (after-append merge rule 0 xs ys (omega arith) apart) ∙ up_to-refused (folded_after merge rule 0 xs) (folded_after merge rule 0 ys) e some

-- ---- what is kept of one key and of the others

pub one_key : (key : List ℕ) (rows : List Row) → AllByRecursion (λ r. r.key ≡ key) rows → HaveOneKey rows
one_key key [] keys = tt
one_key key (r ∷ rows) keys = all_weaken (λ q. q.key ≡ key) (λ q. same_key r q ≡ true) (λ q h. (bytes_eq-Decides r.key q.key).1 (keys.0 ∙ sym h)) rows keys.1

pub apart_key : (key : List ℕ) (xs ys : List Row) → AllByRecursion (λ r. r.key ≡ key) xs → HaveOthers key ys → AreApart xs ys
apart_key key xs ys keys others = all_weaken (λ r. r.key ≡ key) (λ r. HaveOthers r.key ys) (λ r h. subst (λ (k : List ℕ). HaveOthers k ys) (sym h) others) xs keys

module _ (settings : Settings) where
  kept_one : (rows : List Row) → HaveOneKey rows → kept_of_keys settings rows ≡ kept_rows settings rows
  kept_one rows alike =
      ap (kept_of_keys settings) (sym (append-nil rows)) ∙ (first_key settings rows [] alike (by rows) ∙ append-nil (kept_rows settings rows))
    where
      by : (rows : List Row) → AreEndedBy rows []
      by [] = refl
      by (r ∷ rows) = tt

  pub kept-append : (key : List ℕ) (xs ys : List Row) → AllByRecursion (λ r. r.key ≡ key) xs → HaveOthers key ys → kept_of_keys settings (xs ++ ys) ≡ kept_rows settings xs ++ kept_of_keys settings ys
  kept-append key xs ys keys others =
      let f = λ (g : Chunk Row). kept_rows settings (elements g) in
      ap (flat_map f) (chunk_by-append same_key xs ys (apart_key key xs ys keys others))
      ∙ (flat_map-append f (chunk_by same_key xs) (chunk_by same_key ys)
      ∙ ap (λ (rows : List Row). rows ++ kept_of_keys settings ys) (kept_one xs (one_key key xs keys)))

-- ---- key after key

-- What a job makes of the given keys.
abbrev pub keys_job : Operator → Settings → List (Chunk Row) → JobRows
keys_job merge settings gs = joined_keys (map (λ g. key_rows merge settings (elements g)) gs)

abbrev pub job_of : List Row → Bool → JobRows
job_of rows whole = record { rows = rows; whole = whole }

module _ (merge : Operator) (lawful : IsLawful merge) (settings : Settings) (g : Chunk Row) (gs : List (Chunk Row)) (whole : AreWholeKeys (g ∷ gs)) where
  abbrev here : Folded
  here = folded_groups merge (job_rule settings.cut) (elements g)

  abbrev later : Folded
  later = folded_groups merge (job_rule settings.cut) (flat gs)

  pub is_model : rows_if_whole here ≡ folded_rows merge settings.cut (elements g)
  is_model = folds_one_key merge lawful settings.cut g.0.key (elements g) whole.0

  apart : AreApart (elements g) (flat gs)
  apart = apart_key g.0.key (elements g) (flat gs) whole.0.keys whole.1

  -- What the job makes of a key in which no fold refuses.
  pub made_here : here.refusal ≡ None → key_rows merge settings (elements g) ≡ Some (kept_rows settings here.rows)
  made_here none = ap (option_map (kept_rows settings)) (sym is_model ∙ ap (λ (e : Option SlateDBError). if is_none e then Some here.rows else None) none)

  pub job_on : here.refusal ≡ None → keys_job merge settings (g ∷ gs) ≡ job_of (kept_rows settings here.rows ++ (keys_job merge settings gs).rows) (keys_job merge settings gs).whole
  job_on none = ap (λ (k : Option (List Row)). joined_keys (k ∷ map (λ g. key_rows merge settings (elements g)) gs)) (made_here none)

  pub folded_on : here.refusal ≡ None → folded_groups merge (job_rule settings.cut) (elements g ++ flat gs) ≡ folded_of (here.rows ++ later.rows) later.refusal
  folded_on none = folded-append merge (job_rule settings.cut) (elements g) (flat gs) apart none

  -- The job makes nothing of a key in which a fold refuses.
  pub refused_here : (e : SlateDBError) → here.refusal ≡ Some e → key_rows merge settings (elements g) ≡ None
  refused_here e some = ap (option_map (kept_rows settings)) (sym is_model ∙ ap (λ (e : Option SlateDBError). if is_none e then Some here.rows else None) some)

  pub job_ends : (e : SlateDBError) → here.refusal ≡ Some e → keys_job merge settings (g ∷ gs) ≡ job_of [] false
  job_ends e some = ap (λ (k : Option (List Row)). joined_keys (k ∷ map (λ g. key_rows merge settings (elements g)) gs)) (refused_here e some)

  pub folded_ends : (e : SlateDBError) → here.refusal ≡ Some e → folded_groups merge (job_rule settings.cut) (elements g ++ flat gs) ≡ here
  folded_ends e some = folded-refused merge (job_rule settings.cut) (elements g) (flat gs) apart e some

  pub here_keys : AllByRecursion (λ r. r.key ≡ g.0.key) here.rows
  here_keys = folded_keys merge (job_rule settings.cut) (λ k. k ≡ g.0.key) (elements g) whole.0.keys

  pub later_keys : HaveOthers g.0.key later.rows
  later_keys = folded_keys merge (job_rule settings.cut) (λ k. bytes_eq g.0.key k ≡ false) (flat gs) whole.1

-- Folded rows and a job agree. Folding is refused exactly if the job is not whole, and otherwise the kept
-- rows are the job's rows.
abbrev Agree : Settings → Folded → JobRows → Type 0
Agree settings f job = (is_none f.refusal ≡ job.whole) × (job.whole ≡ true → kept_of_keys settings f.rows ≡ job.rows)

module _ (merge : Operator) (lawful : IsLawful merge) (settings : Settings) where
  abbrev make : List Row → Folded
  make rows = folded_groups merge (job_rule settings.cut) rows

  -- Folding the rows of whole keys agrees with the job of these keys.
  agree : (gs : List (Chunk Row)) → AreWholeKeys gs → Agree settings (make (flat gs)) (keys_job merge settings gs)
  agree [] whole = (refl, λ _. refl)
  agree (g ∷ gs) whole = by (make (elements g)).refusal refl (agree gs whole.2)
    where
      by : (refusal : Option SlateDBError) → (make (elements g)).refusal ≡ refusal → Agree settings (make (flat gs)) (keys_job merge settings gs) → Agree settings (make (elements g ++ flat gs)) (keys_job merge settings (g ∷ gs))
      by None none rest =
          let rows : List Row = (make (elements g)).rows in
          let job : JobRows = keys_job merge settings gs in
          subst (λ (f : Folded). Agree settings f (keys_job merge settings (g ∷ gs))) (sym (folded_on merge lawful settings g gs whole none))
          (subst (Agree settings (folded_of (rows ++ (make (flat gs)).rows) (make (flat gs)).refusal)) (sym (job_on merge lawful settings g gs whole none)) (
            rest.0,
            λ all. kept-append settings g.0.key rows (make (flat gs)).rows (here_keys merge lawful settings g gs whole) (later_keys merge lawful settings g gs whole)
                ∙ ap (λ (others : List Row). kept_rows settings rows ++ others) (rest.1 all),
          ))
      by (Some e) some rest =
          subst (λ (f : Folded). Agree settings f (keys_job merge settings (g ∷ gs))) (sym (folded_ends merge lawful settings g gs whole e some))
          (subst (Agree settings (make (elements g))) (sym (job_ends merge lawful settings g gs whole e some))
          (ap is_none some, λ all. absurd (cc all)))

pub folds_make_jobs : (merge : Operator) → IsLawful merge → FoldsMakeJobs merge
folds_make_jobs merge lawful settings rows ordered =
    let same : flat (chunk_by same_key rows) ≡ rows = flat-chunk_by same_key rows in
    let both : Agree settings (folded_groups merge (job_rule settings.cut) rows) (job_rows merge settings rows) =
    subst (λ (xs : List Row). Agree settings (folded_groups merge (job_rule settings.cut) xs) (job_rows merge settings rows)) same (agree merge lawful settings (chunk_by same_key rows) (whole_keys rows ordered)) in
    record { whole = both.0; kept = both.1 }
