-- What a read has taken, table by table.
use Rattle.std.proofs.Common.{◌≡◌, refl, sym, ◌∙◌, ap, subst, ℕ, zero, suc, ◌+◌, ◌<◌, ◌≤◌, List, [], ◌∷◌, ◌++◌, length, cond, Bool, true, false, Option, append_assoc, append-nil, take, slice_index_or, arith}
use Rattle.std.specs.Prelude.{flat_map}
use Rattle.std.specs.List.{AllByRecursion}
use Rattle.std.proofs.lemmas.List.{take_all, take_more}
use Rattle.std.proofs.lemmas.List.Concat.{flat_map-append}
use Rattle.row_model.specs.Read.{base, operands, seen_at}
use Rattle.row_model.specs.Rows.{Row, rows_of_key}
use Rattle.fleet_model.specs.Nodes.{table_rows}
use Rattle.fleet_model.specs.Store.{Store}
use Rattle.fleet_scan.specs.KeyReads.{KeyReading, TakesRows, found_with}
use Rattle.step_laws.proofs.Elements.{all_back, all_front}
use Rattle.fleet_tree.specs.Views.{View}
use Rattle.fleet_tree.specs.declared.run.SortedRun.{SortedRun}
use Rattle.fleet_read.specs.Stored.{view_rows}

abbrev Found : Type 0
Found = Option (List ℕ) × List (List ℕ)

pub takes_none : (r : KeyReading) (rows : List Row) → rows ≡ [] → TakesRows r rows r
takes_none r rows none = record { key = refl; seq = refl; moment = refl; found = λ older. ap (λ (w : List Row). found_with r (w ++ older)) (sym none) }

-- A row that hides the others was taken, so they change nothing.
pub takes_hidden : (r : KeyReading) (rows : List Row) → r.hides ≡ true → TakesRows r rows r
takes_hidden r rows hides = record { key = refl; seq = refl; moment = refl; found = λ older. alike older (rows ++ older) }
  where
    by : (b : Bool) → b ≡ true → (older : List Row) → ◌≡◌ {A = Found} (cond b (r.base, r.operands) (base r.moment (seen_at r.seq older), operands r.moment (seen_at r.seq older) ++ r.operands)) (r.base, r.operands)
    by true hides older = refl
    by false hides older = absurd (cc hides)

    alike : (xs ys : List Row) → ◌≡◌ {A = Found} (found_with r xs) (found_with r ys)
    alike xs ys = by r.hides hides xs ∙ sym (by r.hides hides ys)

pub takes_both : (a b c : KeyReading) (xs ys : List Row) → TakesRows a xs b → TakesRows b ys c → TakesRows a (xs ++ ys) c
takes_both a b c xs ys p q = record {
  key = q.key ∙ p.key;
  seq = q.seq ∙ p.seq;
  moment = q.moment ∙ p.moment;
  found = λ older. q.found older ∙ (p.found (ys ++ older) ∙ ap (found_with a) (sym (append_assoc xs ys older)));
}

-- Rows of other rows that are the same.
pub takes_same : (a b : KeyReading) (xs ys : List Row) → xs ≡ ys → TakesRows a xs b → TakesRows a ys b
takes_same a b xs ys same p = record { key = p.key; seq = p.seq; moment = p.moment; found = λ older. p.found older ∙ ap (λ (w : List Row). found_with a (w ++ older)) same }

view_parts : (store : Store) (key : List ℕ) (xs ys : List View) → view_rows store key (xs ++ ys) ≡ view_rows store key xs ++ view_rows store key ys
view_parts store key xs ys = flat_map-append (λ (view : View). rows_of_key key (table_rows store.tables view.sst.id)) xs ys

-- Whoever takes the tables of the views left as well takes those of all views.
abbrev pub TakesLeft : Store → List ℕ → List View → List View → KeyReading → KeyReading → Type 0
TakesLeft store key views left first now = (read : KeyReading) → TakesRows now (view_rows store key left) read → TakesRows first (view_rows store key views) read

-- A row that hides the others was taken, so the tables left need not be looked at.
pub left_hidden : (store : Store) (key : List ℕ) (views left : List View) (first now : KeyReading) → TakesLeft store key views left first now → now.hides ≡ true → TakesRows first (view_rows store key views) now
left_hidden store key views left first now all hides = all now (takes_hidden now (view_rows store key left) hides)

-- No table is left.
pub left_none : (store : Store) (key : List ℕ) (views left : List View) (first now : KeyReading) → TakesLeft store key views left first now → left ≡ [] → TakesRows first (view_rows store key views) now
left_none store key views left first now all none = all now (takes_none now (view_rows store key left) (ap (view_rows store key) none))

-- The tables of some of the views left were taken.
pub left_some : (store : Store) (key : List ℕ) (views left some rest : List View) (first now new : KeyReading) → TakesLeft store key views left first now → left ≡ some ++ rest
    → TakesRows now (view_rows store key some) new → TakesLeft store key views rest first new
left_some store key views left some rest first now new all is one = λ read more.
    all read (takes_same now read (view_rows store key some ++ view_rows store key rest) (view_rows store key left)
    (sym (view_parts store key some rest) ∙ ap (view_rows store key) (sym is)) (takes_both now new read (view_rows store key some) (view_rows store key rest) one more))

-- The table of one of the views left was taken.
pub left_one : (store : Store) (key : List ℕ) (views left : List View) (view : View) (rest : List View) (first now new : KeyReading) → TakesLeft store key views left first now → left ≡ view ∷ rest
    → TakesRows now (view_rows store key (view ∷ [])) new → TakesLeft store key views rest first new
left_one store key views left view rest first now new all is one = left_some store key views left (view ∷ []) rest first now new all is one

-- The views left are held.
pub left_held : (P : View → Type 0) (left : List View) (view : View) (rest : List View) → left ≡ view ∷ rest → AllByRecursion P left → P view × AllByRecursion P rest
left_held P left view rest is all = subst (AllByRecursion P) is all

-- ---- runs

-- The views of runs.
abbrev pub views_of : List SortedRun → List View
views_of runs = flat_map (λ (run : SortedRun). run.views) runs

-- The tables of the flushes were taken, and those of all runs are left.
pub runs_left : (store : Store) (key : List ℕ) (flushes views : List View) (runs : List SortedRun) (first now : KeyReading) → views ≡ flushes → TakesRows first (view_rows store key views) now
    → TakesLeft store key (flushes ++ views_of runs) (views_of runs) first now
runs_left store key flushes views runs first now are taken =
    left_some store key (flushes ++ views_of runs) (flushes ++ views_of runs) views (views_of runs) first first now (λ read more. more) (ap (λ (w : List View). w ++ views_of runs) (sym are)) taken

-- The tables of one of the runs left were taken.
pub left_run : (store : Store) (key : List ℕ) (all : List View) (left : List SortedRun) (run : SortedRun) (rest : List SortedRun) (views : List View) (first now new : KeyReading)
    → TakesLeft store key all (views_of left) first now → left ≡ run ∷ rest → views ≡ run.views → TakesRows now (view_rows store key views) new → TakesLeft store key all (views_of rest) first new
left_run store key all left run rest views first now new so_far is are one =
    left_some store key all (views_of left) views (views_of rest) first now new so_far (ap views_of is ∙ ap (λ (w : List View). w ++ views_of rest) (sym are)) one

-- The views of the runs left are held, those of the next one and those of the rest.
pub run_held : (P : View → Type 0) (left : List SortedRun) (run : SortedRun) (rest : List SortedRun) (views : List View) → left ≡ run ∷ rest → views ≡ run.views → AllByRecursion P (views_of left) → AllByRecursion P views
run_held P left run rest views is are all = subst (AllByRecursion P) (sym are) (all_front P run.views (views_of rest) (subst (λ runs. AllByRecursion P (views_of runs)) is all))

pub rest_held : (P : View → Type 0) (left : List SortedRun) (run : SortedRun) (rest : List SortedRun) → left ≡ run ∷ rest → AllByRecursion P (views_of left) → AllByRecursion P (views_of rest)
rest_held P left run rest is all = all_back P run.views (views_of rest) (subst (λ runs. AllByRecursion P (views_of runs)) is all)
