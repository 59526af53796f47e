-- Generated scripts. A number and a count of rounds make a script: each round flushes drawn rows three times,
-- compacts the three flushes into run 1, and reads a drawn key.
use Rattle.std.specs.Prelude.{ℕ, zero, suc, ◌+◌, ◌*◌, ◌/◌, ◌%◌, ◌^◌, ◌==◌, if◌then◌else◌, pos, List, [], ◌∷◌, ◌++◌, flat_map, None}
use Rattle.row_model.specs.Rows.{Row, Content, Value, Merge, Tombstone}
use Rattle.fleet_model.specs.Nodes.{NodeName, L0, Run}
use Rattle.script_model.specs.Script.{Line, StartCoordinator, StartWorker, FlushRows, ReadKey, SubmitJob, Poll, ClaimJobs, FinishJob}

-- The state after a draw in state x.
abbrev pub state_after : (x : ℕ) → ℕ
state_after x = (x * 6364136223846793005 + 1442695040888963407) % 2 ^ 64

-- The number below k that is drawn in state x. The upper 31 bits of the state after the draw give it.
abbrev pub draw_below : (k x : ℕ) → ℕ
draw_below k x = state_after x / 2 ^ 33 % k

-- Makes one thing at each of `count` numbers from `first` on. The first is made in state x, and each later one in
-- the state after the one before it. The second part is the state after the last one.
unfoldable pub made_in_turn : {A : Type 0} → (make : ℕ → ℕ → A × ℕ) → (count first x : ℕ) → List A × ℕ
made_in_turn make zero first x = ([], x)
made_in_turn make (suc count) first x =
    let made = make first x in
    let others = made_in_turn make count (first + 1) made.1 in
    (made.0 ∷ others.0, others.1)

-- The content of a row of this kind, and the state after it. Kind 3 is a tombstone. Kind 2 is an operand, and
-- kinds 0 and 1 are values, each of one drawn byte.
abbrev pub generated_content : (kind x : ℕ) → Content × ℕ
generated_content kind x =
    if kind == 3 then (Tombstone, x)
    else if kind == 2 then (Merge (draw_below 256 x ∷ []), state_after x)
    else (Value (draw_below 256 x ∷ []), state_after x)

-- Row t of the flush with this name, and the state after it. Its key byte is drawn first and its kind next. Its
-- sequence is the flush's name, and it has no stamps.
unfoldable pub generated_row : (name t x : ℕ) → Row × ℕ
generated_row name t x =
    let content = generated_content (draw_below 4 (state_after x)) (state_after (state_after x)) in (
      record { key = (64 * t + draw_below 64 x) ∷ []; content = content.0; seq = name; created = None; expires = None },
      content.1,
    )

-- The flush of four rows with this name into the root, and the state after it.
unfoldable pub generated_flush : (floor name x : ℕ) → Line × ℕ
generated_flush floor name x =
    let rows = made_in_turn (generated_row name) 4 0 x in
    (FlushRows name [] floor (pos 0) rows.0, rows.1)

-- What the job of the round after k rounds takes: the round's three flushes, newest first, and after the first
-- round also run 1.
abbrev pub generated_sources : (k : ℕ) → List NodeName
generated_sources k =
    L0 (3 * k + 3) ∷ L0 (3 * k + 2) ∷ L0 (3 * k + 1) ∷ (if k == 0 then [] else Run 1 ∷ [])

-- The lines that compact the flushes of the round after k rounds. The job makes run 1.
unfoldable pub generated_job : (k : ℕ) → List Line
generated_job k =
    SubmitJob [] 1 (generated_sources k) ∷ Poll 1 ∷ ClaimJobs 1 ∷ FinishJob 1 (k + 1) ∷ Poll 1 ∷ []

-- The nine lines of the round after k rounds, and the state after them. The floor of its flushes is the name
-- of the last flush before the round, or 0. The key that is read is drawn last.
unfoldable pub generated_round : (k x : ℕ) → List Line × ℕ
generated_round k x =
    let flushes = made_in_turn (generated_flush (3 * k)) 3 (3 * k + 1) x in (
      flushes.0 ++ generated_job k ++ ReadKey [] (draw_below 256 flushes.1 ∷ []) (3 * k + 3) (pos 0) ∷ [],
      state_after flushes.1,
    )

-- The lines of the generated script: a coordinator and a worker start, and then the rounds follow. The first
-- state is the number.
unfoldable pub generated_lines : (number rounds : ℕ) → List Line
generated_lines number rounds =
    StartCoordinator 1
    ∷ StartWorker 1 None
    ∷ flat_map (λ lines. lines) (made_in_turn generated_round rounds 0 number).0
