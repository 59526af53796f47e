-- Runs that stand one after the other and are exchanged for the output: the other runs are those that stay.
use Rattle.std.proofs.Common.{◌≡◌, refl, sym, ◌∙◌, ap, subst, ℕ, zero, suc, ◌<◌, ◌+◌, List, [], ◌∷◌, ◌++◌, length, take, drop, map, Bool, true, false, not, cond, arith}
use Rattle.std.specs.Prelude.{◌==◌, ◌&&◌, ◌||◌, filter, find, is_some, Option, Some, None, option_to_list}
use Rattle.std.specs.List.{AllByRecursion, list_any, prefix_len}
use Rattle.std.proofs.lemmas.Bool.{and_parts, eqb-true, ltb-true, ne_eqb, le-ltb}
use Rattle.std.proofs.lemmas.List.Folds.{length-prefix_len}
use Rattle.row_laws.proofs.Elements.{all_weaken}
use Rattle.fleet_model.specs.Nodes.{NodeName, L0, Run, name_eq}
use Rattle.fleet_model.specs.Sources.{after_front}
use Rattle.fleet_tree.specs.Falling.{are_falling, fits_between, is_above_first, is_below_last}
use Rattle.fleet_tree.specs.Lists.{spliced}
use Rattle.fleet_tree.specs.Views.{View}
use Rattle.fleet_tree.specs.declared.run.SortedRun.{SortedRun}
use Rattle.fleet_tree.specs.declared.tree.LsmTreeState.{LsmTreeState}
use Rattle.fleet_jobs.specs.Sources.{name_of}
use Rattle.fleet_jobs.specs.declared.source_id.SourceId.{SourceId}
use Rattle.fleet_jobs.specs.declared.source_id.SourceId.TheVariants.{SortedRun as OfRun, SstView}
use Rattle.fleet_book.specs.Exchanges.{after_flushes, is_flush}
use Rattle.fleet_book.specs.Finishes.{id_or, is_named, kept_runs, kept_views, mark_after, put_run, with_output}

abbrev names_of_runs : List SortedRun → List NodeName
names_of_runs runs = map (λ run. Run run.id) runs

-- The runs begin with the sources.
abbrev pub IsFront : List SourceId → List SortedRun → Type 0
IsFront named runs = true ≡ is_some (after_front (map name_of named) (names_of_runs runs))

-- ---- lists whose elements all have a property

all_after : {X : Type 0} (P : X → Type 0) (n : ℕ) (xs : List X) → AllByRecursion P xs → AllByRecursion P (drop n xs)
all_after P zero xs all = all
all_after P (suc n) [] all = tt
all_after P (suc n) (x ∷ xs) all = all_after P n xs all.1

all_both : {X : Type 0} (P Q R : X → Type 0) → ((x : X) → P x → Q x → R x) → (xs : List X) → AllByRecursion P xs → AllByRecursion Q xs → AllByRecursion R xs
all_both P Q R by [] p q = tt
all_both P Q R by (x ∷ xs) p q = (by x p.0 q.0, all_both P Q R by xs p.1 q.1)

all_of : {X : Type 0} (P : X → Type 0) → ((x : X) → P x) → (xs : List X) → AllByRecursion P xs
all_of P by [] = tt
all_of P by (x ∷ xs) = (by x, all_of P by xs)

-- What a test takes out in front and leaves behind.
filter_behind : (test : SortedRun → Bool) (n : ℕ) (runs : List SortedRun) → AllByRecursion (λ run. test run ≡ false) (take n runs) → AllByRecursion (λ run. test run ≡ true) (drop n runs)
    → filter test runs ≡ drop n runs
filter_behind test zero [] gone stay = refl
filter_behind test zero (run ∷ runs) gone stay =
    ap (λ b. cond b (run ∷ filter test runs) (filter test runs)) stay.0 ∙ ap (λ rs. run ∷ rs) (filter_behind test zero runs tt stay.1)
filter_behind test (suc n) [] gone stay = refl
filter_behind test (suc n) (run ∷ runs) gone stay =
    ap (λ b. cond b (run ∷ filter test runs) (filter test runs)) gone.0 ∙ filter_behind test n runs gone.1 stay

-- ---- runs whose ids fall

-- All later runs are below the first.
all_below : (run : SortedRun) (runs : List SortedRun) → are_falling (run ∷ runs) ≡ true → AllByRecursion (λ other. other.id < run.id) runs
all_below run [] falls = tt
all_below run (next ∷ runs) falls =
    let parts = and_parts (is_above_first run (next ∷ runs)) (are_falling (next ∷ runs)) falls in
    let lower = ltb-true next.id run.id parts.0 in
    (lower, all_weaken (λ other. other.id < next.id) (λ other. other.id < run.id) (λ other below. omega (arith, below, lower)) runs (all_below next runs parts.1))

falling_later : (run : SortedRun) (runs : List SortedRun) → are_falling (run ∷ runs) ≡ true → are_falling runs ≡ true
falling_later run runs falls = (and_parts (is_above_first run runs) (are_falling runs) falls).1

-- ---- sources that are runs, with ids of some property

abbrev IfRun : (ℕ → Type 0) → NodeName → Type 0
IfRun P (L0 id) = zero ≡ suc zero
IfRun P (Run id) = P id

abbrev AreRuns : (ℕ → Type 0) → List SourceId → Type 0
AreRuns P named = AllByRecursion (λ source. IfRun P (name_of source)) named

-- What runs begin with has the ids of runs.
front_have : (P : ℕ → Type 0) (named : List SourceId) (runs : List SortedRun) → IsFront named runs → AllByRecursion (λ run. P run.id) runs → AreRuns P named
front_have P [] runs front have = tt
front_have P (source ∷ named) [] front have = absurd (cc front)
front_have P (SstView id ∷ named) (run ∷ runs) front have = absurd (cc front)
front_have P (OfRun id ∷ named) (run ∷ runs) front have = by (id == run.id) refl front (λ f. front_have P named runs f have.1)
  where
    by : (b : Bool) → (id == run.id) ≡ b → true ≡ is_some (cond b (after_front (map name_of named) (names_of_runs runs)) None) → (IsFront named runs → AreRuns P named)
        → AreRuns P (OfRun id ∷ named)
    by true same front rest = (subst P (sym (eqb-true id run.id same)) have.0, rest front)
    by false apart front rest = absurd (cc front)

front_later : (source : SourceId) (named : List SourceId) (run : SortedRun) (runs : List SortedRun) → IsFront (source ∷ named) (run ∷ runs) → IsFront named runs
front_later source named run runs front = by (name_eq (name_of source) (Run run.id)) front
  where
    by : (b : Bool) → true ≡ is_some (cond b (after_front (map name_of named) (names_of_runs runs)) None) → IsFront named runs
    by true front = front
    by false front = absurd (cc front)

front_same : (source : SourceId) (named : List SourceId) (run : SortedRun) (runs : List SortedRun) → IsFront (source ∷ named) (run ∷ runs) → name_eq (name_of source) (Run run.id) ≡ true
front_same source named run runs front = by (name_eq (name_of source) (Run run.id)) refl front
  where
    by : (b : Bool) → name_eq (name_of source) (Run run.id) ≡ b → true ≡ is_some (cond b (after_front (map name_of named) (names_of_runs runs)) None) → name_eq (name_of source) (Run run.id) ≡ true
    by true same front = same
    by false apart front = absurd (cc front)

not_named : (n : ℕ) (named : List SourceId) → AreRuns (λ id. (id == n) ≡ false) named → is_named named (Run n) ≡ false
not_named n [] apart = refl
not_named n (SstView id ∷ named) apart = absurd (cc apart.0)
not_named n (OfRun id ∷ named) apart = ap (λ b. b || is_named named (Run n)) apart.0 ∙ not_named n named apart.1

-- ---- which runs are named

-- The runs in front are named.
front_named : (named : List SourceId) (runs : List SortedRun) → IsFront named runs → (whole : List SourceId)
    → ((name : NodeName) → is_named named name ≡ true → is_named whole name ≡ true) → AllByRecursion (λ run. is_named whole (Run run.id) ≡ true) (take (length named) runs)
front_named [] runs front whole part = tt
front_named (source ∷ named) [] front whole part = absurd (cc front)
front_named (source ∷ named) (run ∷ runs) front whole part =
    let first = ap (λ b. b || is_named named (Run run.id)) (front_same source named run runs front) in (
      part (Run run.id) first,
      front_named named runs (front_later source named run runs front) whole (λ name has. part name (later (name_eq (name_of source) name) (is_named named name) has)),
    )
  where
    later : (a b : Bool) → b ≡ true → (a || b) ≡ true
    later true b has = refl
    later false b has = has

-- The runs behind these are not named.
behind_unnamed : (named : List SourceId) (runs : List SortedRun) → are_falling runs ≡ true → IsFront named runs
    → AllByRecursion (λ run. is_named named (Run run.id) ≡ false) (drop (length named) runs)
behind_unnamed [] runs falls front = all_of (λ run. is_named [] (Run run.id) ≡ false) (λ run. refl) runs
behind_unnamed (source ∷ named) [] falls front = absurd (cc front)
behind_unnamed (source ∷ named) (run ∷ runs) falls front =
    all_both (λ other. other.id < run.id) (λ other. is_named named (Run other.id) ≡ false) (λ other. is_named (source ∷ named) (Run other.id) ≡ false)
    (λ other below rest. ap (λ b. b || is_named named (Run other.id)) (apart source other (front_same source named run runs front) below) ∙ rest)
    (drop (length named) runs)
    (all_after (λ other. other.id < run.id) (length named) runs (all_below run runs falls))
    (behind_unnamed named runs (falling_later run runs falls) (front_later source named run runs front))
  where
    apart : (source : SourceId) (other : SortedRun) → name_eq (name_of source) (Run run.id) ≡ true → other.id < run.id → name_eq (name_of source) (Run other.id) ≡ false
    apart (SstView id) other same below = refl
    apart (OfRun id) other same below = let here = eqb-true id run.id same in ne_eqb id other.id (λ e. omega (arith, here, below, e))

-- ---- which runs stay

-- The runs that stay are those before and behind the sources. `whole` names the same runs as `named`.
kept_around : (whole named : List SourceId) → ((id : ℕ) → is_named whole (Run id) ≡ is_named named (Run id)) → (runs : List SortedRun) (place end : ℕ)
    → end ≡ place + length named → are_falling runs ≡ true → IsFront named (drop place runs) → take place runs ++ drop end runs ≡ kept_runs whole runs
kept_around whole named alike runs zero end at falls front =
    let here : end ≡ length named = omega (arith, at) in
    let test = λ (run : SortedRun). not (is_named whole (Run run.id)) in
    let gone = all_weaken (λ run. is_named named (Run run.id) ≡ true) (λ run. test run ≡ false) (λ run is. ap (λ b. not b) (alike run.id ∙ is))
    (take (length named) runs) (front_named named runs front named (λ name has. has)) in
    let stay = all_weaken (λ run. is_named named (Run run.id) ≡ false) (λ run. test run ≡ true) (λ run is. ap (λ b. not b) (alike run.id ∙ is))
    (drop (length named) runs) (behind_unnamed named runs falls front) in
    ap (λ n. drop n runs) here ∙ sym (filter_behind test (length named) runs gone stay)
kept_around whole named alike runs (suc place) zero at falls front = absurd (omega (arith, at))
kept_around whole [] alike [] (suc place) (suc end) at falls front = refl
kept_around whole (source ∷ named) alike [] (suc place) (suc end) at falls front = absurd (cc front)
kept_around whole named alike (run ∷ runs) (suc place) (suc end) at falls front =
    let rest = kept_around whole named alike runs place end (omega (arith, at)) (falling_later run runs falls) front in
    let lower = front_have (λ id. id < run.id) named (drop place runs) front (all_after (λ other. other.id < run.id) place runs (all_below run runs falls)) in
    let stays = alike run.id ∙ not_named run.id named (apart named lower) in
    ap (λ rs. run ∷ rs) rest ∙ ap (λ b. cond (not b) (run ∷ kept_runs whole runs) (kept_runs whole runs)) (sym stays)
  where
    apart : (named : List SourceId) → AreRuns (λ id. id < run.id) named → AreRuns (λ id. (id == run.id) ≡ false) named
    apart [] lower = tt
    apart (SstView id ∷ named) lower = absurd (cc lower.0)
    apart (OfRun id ∷ named) lower = (ne_eqb id run.id (λ e. (let below = lower.0 in omega (arith, below, e))), apart named lower.1)

-- ---- where the output comes

is_above : (place : ℕ) (output run : SortedRun) (runs : List SortedRun) → are_falling (run ∷ runs) ≡ true → is_below_last output (run ∷ take place runs) ≡ true → output.id < run.id
is_above zero output run runs falls below = ltb-true output.id run.id below
is_above (suc place) output run [] falls below = ltb-true output.id run.id below
is_above (suc place) output run (next ∷ runs) falls below =
    let lower = ltb-true next.id run.id (and_parts (is_above_first run (next ∷ runs)) (are_falling (next ∷ runs)) falls).0 in
    let above = is_above place output next runs (falling_later run (next ∷ runs) falls) below in
    omega (arith, lower, above)

below_later : (place : ℕ) (output run : SortedRun) (runs : List SortedRun) → is_below_last output (run ∷ take place runs) ≡ true → is_below_last output (take place runs) ≡ true
below_later zero output run runs below = refl
below_later (suc place) output run [] below = refl
below_later (suc place) output run (next ∷ runs) below = below

put_in_front : (output : SortedRun) (behind : List SortedRun) → is_above_first output behind ≡ true → output ∷ behind ≡ put_run output behind
put_in_front output [] above = refl
put_in_front output (next ∷ behind) above = ap (λ b. cond b (output ∷ next ∷ behind) (next ∷ put_run output behind)) (sym above)

-- A run that fits comes before the runs behind.
put_between : (place : ℕ) (output : SortedRun) (runs behind : List SortedRun) → are_falling runs ≡ true → is_below_last output (take place runs) ≡ true → is_above_first output behind ≡ true
    → take place runs ++ output ∷ behind ≡ put_run output (take place runs ++ behind)
put_between zero output runs behind falls below above = put_in_front output behind above
put_between (suc place) output [] behind falls below above = put_in_front output behind above
put_between (suc place) output (run ∷ runs) behind falls below above =
    let higher = is_above place output run runs falls below in
    let rest = put_between place output runs behind (falling_later run runs falls) (below_later place output run runs below) above in
    let all = take place runs ++ behind in
    ap (λ rs. run ∷ rs) rest ∙ ap (λ b. cond b (output ∷ run ∷ all) (run ∷ put_run output all)) (sym (le-ltb run.id output.id (omega (arith, higher))))

none_between : (front behind : List SortedRun) → front ++ option_to_list None ++ behind ≡ front ++ behind
none_between [] behind = refl
none_between (run ∷ front) behind = ap (λ rs. run ∷ rs) (none_between front behind)

one_between : (front : List SortedRun) (output : SortedRun) (behind : List SortedRun) → front ++ option_to_list (Some output) ++ behind ≡ front ++ output ∷ behind
one_between [] output behind = refl
one_between (run ∷ front) output behind = ap (λ rs. run ∷ rs) (one_between front output behind)

-- The runs after an exchange are those that stay, with the output.
pub exchanged_runs : (whole named : List SourceId) → ((id : ℕ) → is_named whole (Run id) ≡ is_named named (Run id)) → (runs : List SortedRun) (place : ℕ) (output : Option SortedRun)
    → (are_falling runs && fits_between runs place (place + length named) output) ≡ true → IsFront named (drop place runs)
    → spliced place (length named) output runs ≡ with_output output (kept_runs whole runs)
exchanged_runs whole named alike runs place None fits front =
    let parts = and_parts (are_falling runs) true fits in
    none_between (take place runs) (drop (place + length named) runs) ∙ kept_around whole named alike runs place (place + length named) refl parts.0 front
exchanged_runs whole named alike runs place (Some output) fits front =
    let end = place + length named in
    let parts = and_parts (are_falling runs) (fits_between runs place end (Some output)) fits in
    let room = and_parts (is_below_last output (take place runs)) (is_above_first output (drop end runs)) parts.1 in
    one_between (take place runs) output (drop end runs)
    ∙ put_between place output runs (drop end runs) parts.0 room.0 room.1
    ∙ ap (put_run output) (kept_around whole named alike runs place end refl parts.0 front)

-- ---- the sources after the flushes in front

-- These name the same runs as all sources do.
pub same_runs : (sources : List SourceId) (id : ℕ) → is_named sources (Run id) ≡ is_named (after_flushes sources) (Run id)
same_runs sources id =
    walked sources
    ∙ ap (λ n. is_named (drop n sources) (Run id)) (sym (length-prefix_len is_flush sources))
  where
    walked : (sources : List SourceId) → is_named sources (Run id) ≡ is_named (drop (prefix_len is_flush sources) sources) (Run id)
    walked [] = refl
    walked (SstView view ∷ sources) =
        let next : suc (prefix_len is_flush sources) ≡ 1 + prefix_len is_flush sources = omega arith in
        walked sources ∙ ap (λ n. is_named (drop n (SstView view ∷ sources)) (Run id)) next
    walked (OfRun run ∷ sources) = refl

-- ---- sources without flushes

unflushed : (sources : List SourceId) → list_any is_flush sources ≡ false → (id : ℕ) → is_named sources (L0 id) ≡ false
unflushed [] none id = refl
unflushed (SstView view ∷ sources) none id = absurd (cc none)
unflushed (OfRun run ∷ sources) none id = unflushed sources none id

-- All flushes stay.
pub flushes_stay : (sources : List SourceId) (views : List View) → list_any is_flush sources ≡ false → views ≡ kept_views sources views
flushes_stay sources [] none = refl
flushes_stay sources (view ∷ views) none =
    ap (λ vs. view ∷ vs) (flushes_stay sources views none)
    ∙ ap (λ b. cond (not b) (view ∷ kept_views sources views) (kept_views sources views)) (sym (unflushed sources none view.id))

-- The watermark stays.
pub mark_stays : (sources : List SourceId) (tree : LsmTreeState) → list_any is_flush sources ≡ false → tree.last_compacted_l0_sst_view_id ≡ mark_after sources tree
mark_stays sources tree none = ap (id_or tree.last_compacted_l0_sst_view_id) (sym (none_found tree.l0))
  where
    none_found : (views : List View) → find (λ view. is_named sources (L0 view.id)) views ≡ None
    none_found [] = refl
    none_found (view ∷ views) = ap (λ b. cond b (Some view) (find (λ v. is_named sources (L0 v.id)) views)) (unflushed sources none view.id) ∙ none_found views
