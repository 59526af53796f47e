-- Each line of a generated script is in bounds and of one of eight kinds.
use Rattle.std.proofs.Common.{◌≡◌, ℕ, zero, suc, ◌+◌, ◌*◌, ◌^◌, ◌<◌, ◌≤◌, ◌==◌, Bool, true, false, List, [], ◌∷◌, ◌++◌, length, pos, refl, arith, length-append}
use Rattle.std.specs.Prelude.{flat_map, if◌then◌else◌}
use Rattle.std.specs.List.{AllByRecursion}
use Rattle.row_model.specs.Rows.{Row, Content, Value, Merge, Tombstone}
use Rattle.row_model.specs.Bounds.{IsContent, IsRow, AreRows}
use Rattle.fleet_model.specs.Nodes.{Run}
use Rattle.script_model.specs.Bounds.{AreNodes}
use Rattle.script_model.specs.Script.{Line, Options, ReadKey, IsInBounds, AreLines}
use Rattle.script_model.specs.Grammars.{full_grammar, is_options}
use Rattle.script_model.specs.Generated.{draw_below, state_after, made_in_turn, generated_content, generated_row, generated_flush, generated_sources, generated_job, generated_round, generated_lines}
use Rattle.fleet_generate.specs.Laws.{GeneratedCount, GeneratedIsScript, GeneratedKinds, is_of_generated_kind}

-- If what is made at each number in a range has a property, each thing made in turn there has it.
each_made : {A : Type 0} (P : A → Type 0) (make : ℕ → ℕ → A × ℕ) (least limit : ℕ) → ((n x : ℕ) → least ≤ n → n < limit → P (make n x).0)
    → (count first x : ℕ) → least ≤ first → first + count ≤ limit → AllByRecursion P (made_in_turn make count first x).0
unfolding made_in_turn
each_made P make least limit one zero first x low high = tt
each_made P make least limit one (suc count) first x low high =
    (one first x low (omega (arith, high)), each_made P make least limit one count (first + 1) (make first x).1 (omega (arith, low)) (omega (arith, high)))

all_appended : {A : Type 0} (P : A → Type 0) (xs ys : List A) → AllByRecursion P xs → AllByRecursion P ys → AllByRecursion P (xs ++ ys)
all_appended P [] ys p q = q
all_appended P (x ∷ xs) ys p q = (p.0, all_appended P xs ys p.1 q)

all_joined : {A : Type 0} (P : A → Type 0) (lists : List (List A)) → AllByRecursion (AllByRecursion P) lists → AllByRecursion P (flat_map (λ list. list) lists)
all_joined P [] h = tt
all_joined P (list ∷ lists) h = all_appended P list (flat_map (λ list. list) lists) h.0 (all_joined P lists h.1)

-- ---- rows

drawn_below : (x : ℕ) → draw_below 256 x < 256
drawn_below x = omega arith

content_fits : (kind x : ℕ) → IsContent (generated_content kind x).0
content_fits kind x = by (kind == 3) (kind == 2)
  where
    by : (b c : Bool) → IsContent (if◌then◌else◌ {A = Content × ℕ} b (Tombstone, x) (if◌then◌else◌ {A = Content × ℕ} c (Merge (draw_below 256 x ∷ []), state_after x) (Value (draw_below 256 x ∷ []), state_after x))).0
    by true c = tt
    by false true = ((drawn_below x, tt), omega arith)
    by false false = ((drawn_below x, tt), omega arith)

row_fits : (seq t x : ℕ) → seq < 2 ^ 64 → t < 4 → IsRow (generated_row seq t x).0
unfolding generated_row
row_fits seq t x s p = record {
  key = ((omega (arith, p), tt), omega arith, omega arith);
  content = content_fits (draw_below 4 (state_after x)) (state_after (state_after x));
  seq = s;
  created = tt;
  expires = tt;
}

rows_of_each : (rows : List Row) → AllByRecursion IsRow rows → AreRows rows
rows_of_each [] h = tt
rows_of_each (r ∷ rows) h = (h.0, rows_of_each rows h.1)

rows_fit : (seq x : ℕ) → seq < 2 ^ 64 → AreRows (made_in_turn (generated_row seq) 4 0 x).0
rows_fit seq x s = rows_of_each _ (each_made IsRow (generated_row seq) 0 4 (λ t y low high. row_fits seq t y s high) 4 0 x (omega arith) (omega arith))

some_rows : (seq x : ℕ) → 0 < length (made_in_turn (generated_row seq) 4 0 x).0
unfolding made_in_turn
some_rows seq x = omega arith

-- ---- lines

abbrev IsGeneratedLine : Line → Type 0
IsGeneratedLine line = IsInBounds line × (is_of_generated_kind line ≡ true)

flush_fits : (floor name x : ℕ) → floor ≤ 6000 → 1 ≤ name → name ≤ 6000 → IsGeneratedLine (generated_flush floor name x).0
unfolding generated_flush
flush_fits floor name x f least most =
    (((least, omega (arith, most)), (tt, omega arith), omega (arith, f), omega arith, some_rows name x, rows_fit name x (omega (arith, most))), refl)

sources_fit : (k : ℕ) → k < 2000 → AreNodes (generated_sources k)
sources_fit k h = ((omega arith, omega (arith, h)), ((omega arith, omega (arith, h)), ((omega arith, omega (arith, h)), by (k == 0))))
  where
    by : (b : Bool) → AreNodes (if b then [] else Run 1 ∷ [])
    by true = tt
    by false = (omega arith, tt)

job_fits : (k : ℕ) → k < 2000 → AllByRecursion IsGeneratedLine (generated_job k)
unfolding generated_job
job_fits k h =
    ((((tt, omega arith), omega arith, sources_fit k h), refl), ((omega arith, refl), ((omega arith, refl), (((omega arith, omega arith, omega (arith, h)), refl), ((omega arith, refl), tt)))))

round_fits : (k x : ℕ) → k < 2000 → AllByRecursion IsGeneratedLine (generated_round k x).0
unfolding generated_round
round_fits k x h =
    let flushes = made_in_turn (generated_flush (3 * k)) 3 (3 * k + 1) x in
    let flushes_fit : AllByRecursion IsGeneratedLine flushes.0 =
    each_made IsGeneratedLine (generated_flush (3 * k)) (3 * k + 1) (3 * k + 4) (λ n y low high. flush_fits (3 * k) n y (omega (arith, h)) (omega (arith, low)) (omega (arith, high, h))) 3 (3 * k + 1) x (omega arith) (omega arith) in
    let read_fits : IsGeneratedLine (ReadKey [] (draw_below 256 flushes.1 ∷ []) (3 * k + 3) (pos 0)) =
    (((tt, omega arith), ((drawn_below flushes.1, tt), omega arith, omega arith), omega (arith, h), omega arith), refl) in
    all_appended IsGeneratedLine (flushes.0 ++ generated_job k) _ (all_appended IsGeneratedLine flushes.0 (generated_job k) flushes_fit (job_fits k h)) (read_fits, tt)

-- ---- scripts

generated_fit : (number rounds : ℕ) → rounds ≤ 2000 → AllByRecursion IsGeneratedLine (generated_lines number rounds)
unfolding generated_lines
generated_fit number rounds h =
    ((omega arith, refl), (((omega arith, tt), refl), all_joined IsGeneratedLine _ (each_made (AllByRecursion IsGeneratedLine) generated_round 0 2000 (λ k x low high. round_fits k x high) rounds 0 number (omega arith) (omega (arith, h)))))

no_options : (line : Line) → is_of_generated_kind line ≡ true → is_options line ≡ true → ⊥
no_options (Options timeout concurrent slots ranges table_size moves retention) kind options = cc kind
no_options _ kind options = cc options

each_kind : (lines : List Line) → AllByRecursion IsGeneratedLine lines → AllByRecursion (λ line. is_of_generated_kind line ≡ true) lines
each_kind [] h = tt
each_kind (line ∷ lines) h = (h.0.1, each_kind lines h.1)

pub are_of_kinds : GeneratedKinds
are_of_kinds number rounds h = each_kind (generated_lines number rounds) (generated_fit number rounds h)

lines_fit : (before lines : List Line) → AllByRecursion IsGeneratedLine lines → AreLines full_grammar before lines
lines_fit before [] h = tt
lines_fit before (line ∷ lines) h = ((h.0.0, λ options. absurd (no_options line h.0.1 options)), lines_fit (before ++ line ∷ []) lines h.1)

pub is_script : GeneratedIsScript
is_script number rounds h = record { whole = refl; each = lines_fit [] (generated_lines number rounds) (generated_fit number rounds h) }

-- ---- the count of lines

round_count : (k x : ℕ) → length (generated_round k x).0 ≡ 9
unfolding generated_round generated_job made_in_turn
round_count k x = refl

rounds_count : (count first x : ℕ) → length (flat_map (λ lines. lines) (made_in_turn generated_round count first x).0) ≡ 9 * count
unfolding made_in_turn
rounds_count zero first x = refl
rounds_count (suc count) first x =
    let lines = (generated_round first x).0 in
    let others = flat_map (λ lines. lines) (made_in_turn generated_round count (first + 1) (generated_round first x).1).0 in
    let both : length (lines ++ others) ≡ length lines + length others = length-append lines others in
    omega (arith, both, round_count first x, rounds_count count (first + 1) (generated_round first x).1)

pub count_of_lines : GeneratedCount
unfolding generated_lines
count_of_lines number rounds = omega (arith, rounds_count rounds 0 number)
