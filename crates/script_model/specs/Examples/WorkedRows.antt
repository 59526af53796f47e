-- Scripts that show what reads answer before and after rows are compacted, and which flushes are
-- refused.
use Rattle.std.specs.Prelude.{[], ◌∷◌, codes}
use Rattle.script_model.specs.Examples.Worked.{Conversation}

-- A job compacts a tombstone and two values of a key into the last run, under floor 3. Reads from
-- the floor on answer as before. The oldest version is gone, and a read below the horizon is
-- refused.
abbrev pub deleted_key : Conversation
deleted_key =
    (codes "flush 1 - 3 0 61:t:-:4:-:-,61:v:7631:2:-:-,61:v:7630:1:-:-", codes "ok")
    ∷ (codes "start coordinator 1", codes "ok epoch 1")
    ∷ (codes "start worker 1", codes "ok")
    ∷ (codes "submit - 0 l1", codes "ok job 1")
    ∷ (codes "poll 1", codes "ok freed - done - lost - added - dropped - open 1 moved - drained - bad -")
    ∷ (codes "claim 1", codes "ok claimed 1.1:- stopped -")
    ∷ (codes "finish 1 1", codes "ok t1")
    ∷ (codes "poll 1", codes "ok freed - done 1 lost - added - dropped - open - moved - drained - bad -")
    ∷ (codes "dump - r0", codes "ok 61:t:-:4:-:-,61:v:7631:2:-:-")
    ∷ (codes "read - 61 3 0", codes "value 7631")
    ∷ (codes "read - 61 4 0", codes "none")
    ∷ (codes "read - 61 2 0", codes "notretained 3 0")
    ∷ []

-- A job folds operands with the same stamps into one. An operand with another expiry stays apart,
-- and expires on its own.
abbrev pub expiry_classes : Conversation
expiry_classes =
    (codes "flush 1 - 5 0 61:m:7a:3:-:-,61:m:79:2:-:-,61:m:78:1:-:10", codes "ok")
    ∷ (codes "start coordinator 1", codes "ok epoch 1")
    ∷ (codes "start worker 1", codes "ok")
    ∷ (codes "submit - 0 l1", codes "ok job 1")
    ∷ (codes "poll 1", codes "ok freed - done - lost - added - dropped - open 1 moved - drained - bad -")
    ∷ (codes "claim 1", codes "ok claimed 1.1:- stopped -")
    ∷ (codes "finish 1 1", codes "ok t1")
    ∷ (codes "poll 1", codes "ok freed - done 1 lost - added - dropped - open - moved - drained - bad -")
    ∷ (codes "dump - r0", codes "ok 61:m:797a:3:-:-,61:m:78:1:-:10")
    ∷ (codes "read - 61 5 5", codes "value 78797a")
    ∷ (codes "read - 61 5 20", codes "value 797a")
    ∷ []

-- A job folds an operand and a value with the same expiry. Both have expired, so no row of the key
-- is left.
abbrev pub fold_before_expiry : Conversation
fold_before_expiry =
    (codes "flush 1 - 5 10 61:m:6d:2:-:10,61:v:76:1:-:10", codes "ok")
    ∷ (codes "start coordinator 1", codes "ok epoch 1")
    ∷ (codes "start worker 1", codes "ok")
    ∷ (codes "submit - 0 l1", codes "ok job 1")
    ∷ (codes "poll 1", codes "ok freed - done - lost - added - dropped - open 1 moved - drained - bad -")
    ∷ (codes "claim 1", codes "ok claimed 1.1:- stopped -")
    ∷ (codes "finish 1 1", codes "ok -")
    ∷ (codes "poll 1", codes "ok freed - done 1 lost - added - dropped - open - moved - drained - bad -")
    ∷ (codes "tables - r0", codes "ok -")
    ∷ (codes "trees", codes "ok -:r0")
    ∷ (codes "read - 61 5 10", codes "none")
    ∷ []

-- A tombstone in a run above an older run is kept, so the older value does not come back. A job
-- that makes the last run drops the tombstone.
abbrev pub no_resurrection : Conversation
no_resurrection =
    (codes "flush 1 - 5 0 61:v:76:1:-:-", codes "ok")
    ∷ (codes "start coordinator 1", codes "ok epoch 1")
    ∷ (codes "start worker 1", codes "ok")
    ∷ (codes "submit - 0 l1", codes "ok job 1")
    ∷ (codes "poll 1", codes "ok freed - done - lost - added - dropped - open 1 moved - drained - bad -")
    ∷ (codes "claim 1", codes "ok claimed 1.1:- stopped -")
    ∷ (codes "finish 1 1", codes "ok t1")
    ∷ (codes "poll 1", codes "ok freed - done 1 lost - added - dropped - open - moved - drained - bad -")
    ∷ (codes "flush 2 - 5 0 61:t:-:2:-:-", codes "ok")
    ∷ (codes "submit - 1 l2", codes "ok job 2")
    ∷ (codes "poll 1", codes "ok freed - done - lost - added - dropped - open 2 moved - drained - bad -")
    ∷ (codes "claim 1", codes "ok claimed 2.1:- stopped -")
    ∷ (codes "finish 1 2", codes "ok t2")
    ∷ (codes "poll 1", codes "ok freed - done 2 lost - added - dropped - open - moved - drained - bad -")
    ∷ (codes "dump - r1", codes "ok 61:t:-:2:-:-")
    ∷ (codes "read - 61 5 0", codes "none")
    ∷ (codes "full", codes "ok jobs 3")
    ∷ (codes "poll 1", codes "ok freed - done - lost - added - dropped - open 3 moved - drained - bad -")
    ∷ (codes "claim 1", codes "ok claimed 3.1:- stopped -")
    ∷ (codes "finish 1 3", codes "ok -")
    ∷ (codes "poll 1", codes "ok freed - done 3 lost - added - dropped - open - moved - drained - bad -")
    ∷ (codes "trees", codes "ok -:r0")
    ∷ (codes "full 73", codes "invalidcompaction")
    ∷ []

-- A flush is refused for each of the six faults. A read at a moment before the tick is refused.
abbrev pub refused_flushes : Conversation
refused_flushes =
    (codes "flush 5 - 3 7 62:v:76:9:-:-", codes "ok")
    ∷ (codes "flush 5 - 3 7 62:v:76:9:-:-", codes "badflush name")
    ∷ (codes "flush 6 73 3 7 62:v:76:10:-:-", codes "badflush segment")
    ∷ (codes "flush 6 - 3 7 62:v:76:10:-:-,61:v:76:10:-:-", codes "badflush order")
    ∷ (codes "flush 6 - 3 7 62:v:76:9:-:-", codes "badflush sequence")
    ∷ (codes "flush 6 - 2 7 62:v:76:10:-:-", codes "badflush floor")
    ∷ (codes "flush 6 - 3 6 62:v:76:10:-:-", codes "badflush tick")
    ∷ (codes "flush 6 - 3 7 62:v:76:10:-:-", codes "ok")
    ∷ (codes "read - 62 9 6", codes "notretained 0 7")
    ∷ []

-- A fault strikes the put of the manifest of a flush. The flush's name is used up, whether the put
-- is lost or takes effect.
abbrev pub struck_flush : Conversation
struck_flush =
    (codes "fault 3 lost", codes "ok")
    ∷ (codes "flush 1 - 0 0 61:v:76:1:-:-", codes "storefault")
    ∷ (codes "trees", codes "ok -:-")
    ∷ (codes "flush 1 - 0 0 61:v:76:1:-:-", codes "badflush name")
    ∷ (codes "fault 3 stands", codes "ok")
    ∷ (codes "flush 2 - 0 0 61:v:76:1:-:-", codes "storefault")
    ∷ (codes "trees", codes "ok -:l2")
    ∷ []
