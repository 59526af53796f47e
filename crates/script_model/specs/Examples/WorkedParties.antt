-- Scripts in which workers are killed, stop, or come late.
use Rattle.std.specs.Prelude.{[], ◌∷◌, codes}
use Rattle.script_model.specs.Examples.Worked.{Conversation}

-- A worker is killed between two versions of a key. The next worker writes exactly the versions
-- that are missing.
abbrev pub cut_inside_a_key : Conversation
cut_inside_a_key =
    (codes "flush 1 - 0 0 61:v:35:5:-:-,61:v:34:4:-:-,61:v:33:3:-:-,61:v:32:2:-:-,61:v:31:1:-:-", codes "ok")
    ∷ (codes "start coordinator 1", codes "ok epoch 1")
    ∷ (codes "start worker 1", codes "ok")
    ∷ (codes "submit - 0 l1", codes "ok job 1")
    ∷ (codes "poll 1", codes "ok freed - done - lost - added - dropped - open 1 moved - drained - bad -")
    ∷ (codes "claim 1", codes "ok claimed 1.1:- stopped -")
    ∷ (codes "output 1 1 1 2", codes "ok t1 2")
    ∷ (codes "heartbeat 1", codes "ok beat 1 notowner -")
    ∷ (codes "kill worker 1", codes "ok")
    ∷ (codes "clock 60001", codes "ok")
    ∷ (codes "poll 1", codes "ok freed 1 done - lost - added - dropped - open - moved - drained - bad -")
    ∷ (codes "jobs", codes "ok 1:scheduled:1:-:0/0/1/0/t1")
    ∷ (codes "start worker 2", codes "ok")
    ∷ (codes "claim 2", codes "ok claimed 1.2:t1 stopped -")
    ∷ (codes "finish 2 1", codes "ok t1,t2")
    ∷ (codes "poll 1", codes "ok freed - done 1 lost - added - dropped - open - moved - drained - bad -")
    ∷ (codes "tables - r0", codes "ok t1:2,t2:3")
    ∷ (codes "dump - r0", codes "ok 61:v:35:5:-:-,61:v:34:4:-:-,61:v:33:3:-:-,61:v:32:2:-:-,61:v:31:1:-:-")
    ∷ []

-- A worker may not finish a job that another worker has claimed since.
abbrev pub older_attempt : Conversation
older_attempt =
    (codes "flush 1 - 0 0 61:v:31:1:-:-", codes "ok")
    ∷ (codes "start coordinator 1", codes "ok epoch 1")
    ∷ (codes "start worker 1", codes "ok")
    ∷ (codes "submit - 0 l1", codes "ok job 1")
    ∷ (codes "poll 1", codes "ok freed - done - lost - added - dropped - open 1 moved - drained - bad -")
    ∷ (codes "claim 1", codes "ok claimed 1.1:- stopped -")
    ∷ (codes "clock 60001", codes "ok")
    ∷ (codes "poll 1", codes "ok freed 1 done - lost - added - dropped - open - moved - drained - bad -")
    ∷ (codes "start worker 2", codes "ok")
    ∷ (codes "claim 2", codes "ok claimed 1.2:- stopped -")
    ∷ (codes "finish 1 1", codes "notowner")
    ∷ (codes "finish 1 1", codes "nosuchparty")
    ∷ (codes "finish 2 1", codes "ok t2")
    ∷ (codes "poll 1", codes "ok freed - done 1 lost - added - dropped - open - moved - drained - bad -")
    ∷ []

-- A poll frees a job once more than the timeout has passed since its heartbeat. It does not free
-- the job when exactly the timeout has passed.
abbrev pub boundary_of_silence : Conversation
boundary_of_silence =
    (codes "flush 1 - 0 0 61:v:31:1:-:-", codes "ok")
    ∷ (codes "start coordinator 1", codes "ok epoch 1")
    ∷ (codes "start worker 1", codes "ok")
    ∷ (codes "submit - 0 l1", codes "ok job 1")
    ∷ (codes "poll 1", codes "ok freed - done - lost - added - dropped - open 1 moved - drained - bad -")
    ∷ (codes "clock 100", codes "ok")
    ∷ (codes "claim 1", codes "ok claimed 1.1:- stopped -")
    ∷ (codes "clock 50", codes "ok")
    ∷ (codes "poll 1", codes "ok freed - done - lost - added - dropped - open - moved - drained - bad -")
    ∷ (codes "clock 60100", codes "ok")
    ∷ (codes "poll 1", codes "ok freed - done - lost - added - dropped - open - moved - drained - bad -")
    ∷ (codes "clock 60101", codes "ok")
    ∷ (codes "poll 1", codes "ok freed 1 done - lost - added - dropped - open - moved - drained - bad -")
    ∷ []

-- A worker that stops gives its job back. A job of a flush that is not in the tree fails by rule 4.
abbrev pub stopped_worker : Conversation
stopped_worker =
    (codes "flush 1 - 0 0 61:v:31:1:-:-", codes "ok")
    ∷ (codes "start coordinator 1", codes "ok epoch 1")
    ∷ (codes "start worker 1", codes "ok")
    ∷ (codes "submit - 0 l1", codes "ok job 1")
    ∷ (codes "poll 1", codes "ok freed - done - lost - added - dropped - open 1 moved - drained - bad -")
    ∷ (codes "claim 1", codes "ok claimed 1.1:- stopped -")
    ∷ (codes "stop worker 1", codes "ok released 1")
    ∷ (codes "jobs", codes "ok 1:scheduled:1:-:-")
    ∷ (codes "submit - 9 l9", codes "ok job 2")
    ∷ (codes "poll 1", codes "ok freed - done - lost - added - dropped - open - moved - drained - bad 2:4")
    ∷ (codes "jobs", codes "ok 1:scheduled:1:-:-;2:failed:0:-:-")
    ∷ []
