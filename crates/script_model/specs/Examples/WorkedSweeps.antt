-- Scripts that show which tables a sweep deletes.
use Rattle.std.specs.Prelude.{[], ◌∷◌, codes}
use Rattle.script_model.specs.Examples.Worked.{Conversation}

-- A sweep deletes the table of a flush that went into a run. The next sweep finds no table to
-- delete, and the run is whole.
abbrev pub swept : Conversation
swept =
    (codes "flush 1 - 3 0 61:t:-:4:-:-,61:v:7631:2:-:-,61:v:7630:1:-:-", codes "ok")
    ∷ (codes "start coordinator 1", codes "ok epoch 1")
    ∷ (codes "start worker 1", codes "ok")
    ∷ (codes "submit - 0 l1", codes "ok job 1")
    ∷ (codes "poll 1", codes "ok freed - done - lost - added - dropped - open 1 moved - drained - bad -")
    ∷ (codes "claim 1", codes "ok claimed 1.1:- stopped -")
    ∷ (codes "finish 1 1", codes "ok t1")
    ∷ (codes "poll 1", codes "ok freed - done 1 lost - added - dropped - open - moved - drained - bad -")
    ∷ (codes "dump - r0", codes "ok 61:t:-:4:-:-,61:v:7631:2:-:-")
    ∷ (codes "read - 61 3 0", codes "value 7631")
    ∷ (codes "read - 61 4 0", codes "none")
    ∷ (codes "read - 61 2 0", codes "notretained 3 0")
    ∷ (codes "sweep", codes "ok l1")
    ∷ (codes "sweep", codes "ok -")
    ∷ (codes "dump - r0", codes "ok 61:t:-:4:-:-,61:v:7631:2:-:-")
    ∷ []

-- A sweep keeps a table that a live worker has written and not yet published. After the worker is
-- killed, a sweep deletes that table and keeps the published one for the next worker.
abbrev pub swept_beside_worker : Conversation
swept_beside_worker =
    (codes "flush 1 - 0 0 61:v:35:5:-:-,61:v:34:4:-:-,61:v:33:3:-:-,61:v:32:2:-:-,61:v:31:1:-:-", codes "ok")
    ∷ (codes "start coordinator 1", codes "ok epoch 1")
    ∷ (codes "start worker 1", codes "ok")
    ∷ (codes "submit - 0 l1", codes "ok job 1")
    ∷ (codes "poll 1", codes "ok freed - done - lost - added - dropped - open 1 moved - drained - bad -")
    ∷ (codes "claim 1", codes "ok claimed 1.1:- stopped -")
    ∷ (codes "output 1 1 1 2", codes "ok t1 2")
    ∷ (codes "heartbeat 1", codes "ok beat 1 notowner -")
    ∷ (codes "output 1 1 1 1", codes "ok t2 1")
    ∷ (codes "sweep", codes "ok -")
    ∷ (codes "kill worker 1", codes "ok")
    ∷ (codes "sweep", codes "ok t2")
    ∷ (codes "clock 60001", codes "ok")
    ∷ (codes "poll 1", codes "ok freed 1 done - lost - added - dropped - open - moved - drained - bad -")
    ∷ (codes "start worker 2", codes "ok")
    ∷ (codes "claim 2", codes "ok claimed 1.2:t1 stopped -")
    ∷ (codes "finish 2 1", codes "ok t1,t3")
    ∷ (codes "poll 1", codes "ok freed - done 1 lost - added - dropped - open - moved - drained - bad -")
    ∷ (codes "sweep", codes "ok l1")
    ∷ (codes "tables - r0", codes "ok t1:2,t3:3")
    ∷ []

-- A fault strikes the list of tables of a sweep, which then deletes nothing. The next sweep deletes
-- the table.
abbrev pub struck_sweep : Conversation
struck_sweep =
    (codes "flush 1 - 3 0 61:t:-:4:-:-,61:v:7631:2:-:-,61:v:7630:1:-:-", codes "ok")
    ∷ (codes "start coordinator 1", codes "ok epoch 1")
    ∷ (codes "start worker 1", codes "ok")
    ∷ (codes "submit - 0 l1", codes "ok job 1")
    ∷ (codes "poll 1", codes "ok freed - done - lost - added - dropped - open 1 moved - drained - bad -")
    ∷ (codes "claim 1", codes "ok claimed 1.1:- stopped -")
    ∷ (codes "finish 1 1", codes "ok t1")
    ∷ (codes "poll 1", codes "ok freed - done 1 lost - added - dropped - open - moved - drained - bad -")
    ∷ (codes "dump - r0", codes "ok 61:t:-:4:-:-,61:v:7631:2:-:-")
    ∷ (codes "read - 61 3 0", codes "value 7631")
    ∷ (codes "read - 61 4 0", codes "none")
    ∷ (codes "read - 61 2 0", codes "notretained 3 0")
    ∷ (codes "fault 3 lost", codes "ok")
    ∷ (codes "sweep", codes "storefault")
    ∷ (codes "sweep", codes "ok l1")
    ∷ []
