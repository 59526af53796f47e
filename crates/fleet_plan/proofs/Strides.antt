-- Blocks in groups of equal size, one group after the other.
use Rattle.std.proofs.Common.{◌≡◌, refl, sym, ◌∙◌, ap, subst, ℕ, zero, suc, ◌<◌, ◌≤◌, ◌+◌, ◌*◌, ◌-◌, ◌/◌, ◌%◌, min, cond, Bool, true, false, List, [], ◌∷◌, ◌++◌, length, drop, arith}
use Rattle.std.specs.Prelude.{◌==◌, filter}
use Rattle.std.specs.Int.{div_ceil}
use Rattle.std.proofs.lemmas.Grind.{common_steps}
use Rattle.std.proofs.lemmas.Nat.{div-mul-add}
use Rattle.std.proofs.lemmas.List.{append_assoc, drop-map, length-drop}
use Rattle.std.proofs.Math.Nat.{zero-mod, add-mod_right, mod-eq_of_lt, mod-add-div', mod-lt}
use Rattle.row_model.specs.Written.Sizes.{Block}
use Rattle.row_model.specs.Written.Plan.{every, spans}
use Rattle.row_model.specs.Written.Plan as model
use Rattle.fleet_tree.specs.declared.block.BlockMeta.{BlockMeta}
use Rattle.fleet_tree.specs.Handles.{block_of, blocks_of}
use Rattle.fleet_plan.specs.Anchors.{end_of}

-- Two ways to round a quotient up give equal results.
pub rounded_up : (n g : ℕ) → 0 < g → div_ceil n g ≡ (n + g - 1) / g
rounded_up n g some = by (n % g) refl
  where
    parts : n % g + n / g * g ≡ n
    parts = mod-add-div' n g

    by : (r : ℕ) → n % g ≡ r → n / g + min 1 (n % g) ≡ (n + g - 1) / g
    by zero e =
        let sum : n / g * g + (g - 1) ≡ n + g - 1 = omega (arith, parts, e, some) in
        let low : g - 1 < g = omega (arith, some) in
        let none : n / g + min 1 (n % g) ≡ n / g = omega (arith, e) in
        none ∙ sym (div-mul-add (n / g) g (g - 1) low) ∙ ap (λ m. m / g) sum
    by (suc r) e =
        let within : n % g < g = mod-lt n some in
        let next : (n / g + 1) * g ≡ n / g * g + g = omega arith in
        let sum : (n / g + 1) * g + r ≡ n + g - 1 = omega (arith, next, parts, e, some) in
        let low : r < g = omega (arith, e, within) in
        let one : n / g + min 1 (n % g) ≡ n / g + 1 = omega (arith, e) in
        one ∙ sym (div-mul-add (n / g + 1) g r low) ∙ ap (λ m. m / g) sum

-- The size of a group is at least one if there are blocks and groups.
pub some_stride : (n g : ℕ) → 0 < n → 0 < g → 0 < (n + g - 1) / g
some_stride n g some groups =
    let rounded = rounded_up n g groups in
    let parts = mod-add-div' n g in
    by (n / g) (n % g) parts rounded
  where
    by : (q r : ℕ) → r + q * g ≡ n → q + min 1 r ≡ (n + g - 1) / g → 0 < (n + g - 1) / g
    by zero zero e rounded = absurd (omega (arith, e, some))
    by zero (suc r) e rounded = omega (arith, rounded)
    by (suc q) r e rounded = omega (arith, rounded)

every_period : (stride i : ℕ) (bs : List Block) → every stride (i + stride) bs ≡ every stride i bs
every_period stride i [] = refl
every_period stride i (b ∷ bs) =
    let later : every stride (i + stride + 1) bs ≡ every stride (i + 1) bs = ap (λ k. every stride k bs) (omega arith) ∙ every_period stride (i + 1) bs in
    ap (λ r. cond (r == 0) (b ∷ every stride (i + stride + 1) bs) (every stride (i + stride + 1) bs)) (add-mod_right i stride)
    ∙ ap (λ rest. cond (i % stride == 0) (b ∷ rest) rest) later

not-zero : (n : ℕ) → 0 < n → (n == 0) ≡ false
not-zero n h = grind (arith, common_steps)

-- From inside a group, no block is taken before the next group begins.
next_group : (stride i k : ℕ) (bs : List Block) → 0 < i → i + k ≡ stride → every stride i bs ≡ every stride 0 (drop k bs)
next_group stride i zero bs low e =
    let at : i ≡ 0 + stride = omega (arith, e) in
    ap (λ j. every stride j bs) at ∙ every_period stride 0 bs
next_group stride i (suc k) [] low e = refl
next_group stride i (suc k) (b ∷ bs) low e =
    let below : i < stride = omega (arith, e) in
    let skipped : (i % stride == 0) ≡ false = ap (λ r. r == 0) (mod-eq_of_lt below) ∙ not-zero i low in
    ap (λ t. cond t (b ∷ every stride (i + 1) bs) (every stride (i + 1) bs)) skipped
    ∙ next_group stride (i + 1) k bs (omega arith) (omega (arith, e))

at_start : (stride : ℕ) (b : Block) (bs : List Block) → every stride 0 (b ∷ bs) ≡ b ∷ every stride 1 bs
at_start stride b bs = ap (λ r. cond (r == 0) (b ∷ every stride 1 bs) (every stride 1 bs)) (zero-mod stride)

pub group_first : (stride : ℕ) (b : Block) (bs : List Block) → 0 < stride → every stride 0 (b ∷ bs) ≡ b ∷ every stride 0 (drop stride (b ∷ bs))
group_first zero b bs some = absurd (omega arith)
group_first (suc k) b bs some = at_start (suc k) b bs ∙ ap (λ rest. b ∷ rest) (next_group (suc k) 1 k bs (omega arith) (omega arith))

abbrev pub anchor_at : ℕ → Block → List Block → model.Anchor
anchor_at end b later = record { key = b.first_key; bytes = end_of end later - b.offset }

pub span_first : (stride end : ℕ) (b : Block) (later : List Block) → spans end (b ∷ every stride 0 later) ≡ anchor_at end b later ∷ spans end (every stride 0 later)
span_first stride end b [] = refl
span_first stride end b (c ∷ cs) =
    ap (λ rest. spans end (b ∷ rest)) (at_start stride c cs)
    ∙ ap (λ rest. anchor_at end b (c ∷ cs) ∷ spans end rest) (sym (at_start stride c cs))

-- The anchors of blocks in groups, where the key passes a test.
abbrev pub grouped : (List ℕ → Bool) → ℕ → ℕ → List Block → List model.Anchor
grouped within stride end bs = filter (λ a. within a.key) (spans end (every stride 0 bs))

-- The anchors of all blocks are the one of the first group, if its key passes the test, and then the ones of
-- the later groups.
grouped_first : (within : List ℕ → Bool) (stride end : ℕ) (b : BlockMeta) (bs : List BlockMeta) → 0 < stride
    → grouped within stride end (blocks_of (b ∷ bs))
    ≡ cond (within b.first_key) (anchor_at end (block_of b) (blocks_of (drop stride (b ∷ bs))) ∷ grouped within stride end (blocks_of (drop stride (b ∷ bs)))) (grouped within stride end (blocks_of (drop stride (b ∷ bs))))
grouped_first within stride end b bs some =
    let later : List BlockMeta = drop stride (b ∷ bs) in
    ap (λ xs. filter (λ a. within a.key) (spans end xs)) (group_first stride (block_of b) (blocks_of bs) some)
    ∙ ap (λ xs. filter (λ a. within a.key) (spans end (block_of b ∷ every stride 0 xs))) (drop-map block_of stride (b ∷ bs))
    ∙ ap (filter (λ a. within a.key)) (span_first stride end (block_of b) (blocks_of later))

-- The anchors so far, followed by the anchors of the blocks left, are all anchors. No more blocks are left
-- than there were at first.
abbrev pub SoFar : (List ℕ → Bool) → ℕ → ℕ → List BlockMeta → List model.Anchor → List model.Anchor → List BlockMeta → Type 0
SoFar within stride end blocks all anchors rest = (anchors ++ grouped within stride end (blocks_of rest) ≡ all) × (length rest ≤ length blocks)

module _ (within : List ℕ → Bool) (stride end groups : ℕ) (some : 0 < groups) (blocks : List BlockMeta) (is : stride ≡ (length blocks + groups - 1) / groups) (all anchors : List model.Anchor) (first : BlockMeta) where
  fewer : (b : BlockMeta) (bs : List BlockMeta) → length (b ∷ bs) ≤ length blocks → length (drop stride (b ∷ bs)) ≤ length blocks
  fewer b bs least =
      let left = length-drop stride (b ∷ bs) in
      omega (arith, left, least)

  strides : (b : BlockMeta) (bs : List BlockMeta) → length (b ∷ bs) ≤ length blocks → 0 < stride
  strides b bs least =
      let positive = some_stride (length blocks) groups (omega (arith, least)) some in
      omega (arith, is, positive)

  pub without_group : (rest later : List BlockMeta) → later ≡ drop stride rest → rest ≡ first ∷ drop 1 rest → within first.first_key ≡ false
      → SoFar within stride end blocks all anchors rest → SoFar within stride end blocks all anchors later
  without_group [] later afterwards e out so_far = absurd (cc e)
  without_group (b ∷ bs) later afterwards e out so_far =
      let same : b ≡ first = cc e in
      let next : List BlockMeta = drop stride (b ∷ bs) in
      let left : grouped within stride end (blocks_of (b ∷ bs)) ≡ grouped within stride end (blocks_of next) =
      grouped_first within stride end b bs (strides b bs so_far.1)
      ∙ ap (λ t. cond t (anchor_at end (block_of b) (blocks_of next) ∷ grouped within stride end (blocks_of next)) (grouped within stride end (blocks_of next))) (ap (λ (f : BlockMeta). within f.first_key) same ∙ out) in
      subst (SoFar within stride end blocks all anchors) (sym afterwards) (ap (λ more. anchors ++ more) (sym left) ∙ so_far.0, fewer b bs so_far.1)

  -- If the next group begins within the range, its anchor is added, and the groups left give the other
  -- anchors.
  pub with_group : (rest later : List BlockMeta) (made : List model.Anchor) → later ≡ drop stride rest → rest ≡ first ∷ drop 1 rest → within first.first_key ≡ true
      → made ≡ anchors ++ anchor_at end (block_of first) (blocks_of later) ∷ [] → SoFar within stride end blocks all anchors rest → SoFar within stride end blocks all made later
  with_group [] later made afterwards e inside more so_far = absurd (cc e)
  with_group (b ∷ bs) later made afterwards e inside more so_far =
      let same : b ≡ first = cc e in
      let next : List BlockMeta = drop stride (b ∷ bs) in
      let after : List model.Anchor = grouped within stride end (blocks_of next) in
      let left : grouped within stride end (blocks_of (b ∷ bs)) ≡ anchor_at end (block_of first) (blocks_of next) ∷ after =
      grouped_first within stride end b bs (strides b bs so_far.1)
      ∙ ap (λ (f : BlockMeta). cond (within f.first_key) (anchor_at end (block_of f) (blocks_of next) ∷ after) after) same
      ∙ ap (λ t. cond t (anchor_at end (block_of first) (blocks_of next) ∷ after) after) inside in
      let now : made ≡ anchors ++ anchor_at end (block_of first) (blocks_of next) ∷ [] = more ∙ ap (λ bs. anchors ++ anchor_at end (block_of first) (blocks_of bs) ∷ []) afterwards in
      subst (SoFar within stride end blocks all made) (sym afterwards) (
        ap (λ made. made ++ after) now
            ∙ append_assoc anchors (anchor_at end (block_of first) (blocks_of next) ∷ []) after
            ∙ ap (λ more. anchors ++ more) (sym left)
            ∙ so_far.0,
        fewer b bs so_far.1,
      )
