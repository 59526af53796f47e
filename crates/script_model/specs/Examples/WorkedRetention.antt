-- Scripts that show what stays readable below the floor: what was readable within a stated time,
-- except if a worker of the first release compacts it.
use Rattle.std.specs.Prelude.{[], ◌∷◌, codes}
use Rattle.script_model.specs.Examples.Worked.{Conversation}

-- With a retention of one second, a job keeps what was readable during the second before its claim.
-- The older value, below the floor, can still be read afterwards. A read below the job's cut is
-- refused.
abbrev pub kept_by_time : Conversation
kept_by_time =
    (codes "options 60000 4 4 4 268435456 0 1000", codes "ok")
    ∷ (codes "flush 1 - 1 0 61:v:31:1:-:-", codes "ok")
    ∷ (codes "clock 500", codes "ok")
    ∷ (codes "flush 2 - 2 0 61:v:32:2:-:-", codes "ok")
    ∷ (codes "start coordinator 1", codes "ok epoch 1")
    ∷ (codes "start worker 1", codes "ok")
    ∷ (codes "submit - 0 l2,l1", codes "ok job 1")
    ∷ (codes "poll 1", codes "ok freed - done - lost - added - dropped - open 1 moved - drained - bad -")
    ∷ (codes "clock 1200", codes "ok")
    ∷ (codes "claim 1", codes "ok claimed 1.1:- stopped -")
    ∷ (codes "heartbeat 1", codes "ok beat 1 notowner -")
    ∷ (codes "jobs", codes "ok 1:running:1:w1:2/0/1/1/-")
    ∷ (codes "finish 1 1", codes "ok t1")
    ∷ (codes "poll 1", codes "ok freed - done 1 lost - added - dropped - open - moved - drained - bad -")
    ∷ (codes "dump - r0", codes "ok 61:v:32:2:-:-,61:v:31:1:-:-")
    ∷ (codes "read - 61 1 0", codes "value 31")
    ∷ (codes "read - 61 0 0", codes "notretained 1 0")
    ∷ []

-- Without a retention, a job keeps what reads see from the floor on. Reads below the floor are
-- refused after its commit.
abbrev pub kept_by_floor : Conversation
kept_by_floor =
    (codes "options 60000 4 4 4 268435456 0", codes "ok")
    ∷ (codes "flush 1 - 1 0 61:v:31:1:-:-", codes "ok")
    ∷ (codes "clock 500", codes "ok")
    ∷ (codes "flush 2 - 2 0 61:v:32:2:-:-", codes "ok")
    ∷ (codes "start coordinator 1", codes "ok epoch 1")
    ∷ (codes "start worker 1", codes "ok")
    ∷ (codes "submit - 0 l2,l1", codes "ok job 1")
    ∷ (codes "poll 1", codes "ok freed - done - lost - added - dropped - open 1 moved - drained - bad -")
    ∷ (codes "clock 1200", codes "ok")
    ∷ (codes "claim 1", codes "ok claimed 1.1:- stopped -")
    ∷ (codes "heartbeat 1", codes "ok beat 1 notowner -")
    ∷ (codes "jobs", codes "ok 1:running:1:w1:2/0/1/2/-")
    ∷ (codes "finish 1 1", codes "ok t1")
    ∷ (codes "poll 1", codes "ok freed - done 1 lost - added - dropped - open - moved - drained - bad -")
    ∷ (codes "dump - r0", codes "ok 61:v:32:2:-:-")
    ∷ (codes "read - 61 1 0", codes "notretained 2 0")
    ∷ (codes "read - 61 0 0", codes "notretained 2 0")
    ∷ []

-- A worker of the first release publishes a context without a cut. A worker of the second release
-- goes on with the floor as the cut, so the older value is dropped.
abbrev pub job_without_cut : Conversation
job_without_cut =
    (codes "options 60000 4 4 4 268435456 0 1000", codes "ok")
    ∷ (codes "flush 1 - 1 0 61:v:31:1:-:-", codes "ok")
    ∷ (codes "clock 500", codes "ok")
    ∷ (codes "flush 2 - 2 0 61:v:32:2:-:-", codes "ok")
    ∷ (codes "start coordinator 1", codes "ok epoch 1")
    ∷ (codes "start worker 1 1", codes "ok")
    ∷ (codes "submit - 0 l2,l1", codes "ok job 1")
    ∷ (codes "poll 1", codes "ok freed - done - lost - added - dropped - open 1 moved - drained - bad -")
    ∷ (codes "clock 1200", codes "ok")
    ∷ (codes "claim 1", codes "ok claimed 1.1:- stopped -")
    ∷ (codes "heartbeat 1", codes "ok beat 1 notowner -")
    ∷ (codes "jobs", codes "ok 1:running:1:w1:2/0/1/-/-")
    ∷ (codes "kill worker 1", codes "ok")
    ∷ (codes "clock 61201", codes "ok")
    ∷ (codes "poll 1", codes "ok freed 1 done - lost - added - dropped - open - moved - drained - bad -")
    ∷ (codes "start worker 2", codes "ok")
    ∷ (codes "claim 2", codes "ok claimed 1.2:- stopped -")
    ∷ (codes "finish 2 1", codes "ok t1")
    ∷ (codes "poll 1", codes "ok freed - done 1 lost - added - dropped - open - moved - drained - bad -")
    ∷ (codes "dump - r0", codes "ok 61:v:32:2:-:-")
    ∷ (codes "read - 61 1 0", codes "notretained 2 0")
    ∷ []

-- A worker of the first release takes no job whose context has a cut. A worker of the second
-- release takes it and keeps that cut.
abbrev pub job_with_cut : Conversation
job_with_cut =
    (codes "options 60000 4 4 4 268435456 0 1000", codes "ok")
    ∷ (codes "flush 1 - 1 0 61:v:31:1:-:-", codes "ok")
    ∷ (codes "clock 500", codes "ok")
    ∷ (codes "flush 2 - 2 0 61:v:32:2:-:-", codes "ok")
    ∷ (codes "start coordinator 1", codes "ok epoch 1")
    ∷ (codes "start worker 1", codes "ok")
    ∷ (codes "submit - 0 l2,l1", codes "ok job 1")
    ∷ (codes "poll 1", codes "ok freed - done - lost - added - dropped - open 1 moved - drained - bad -")
    ∷ (codes "clock 1200", codes "ok")
    ∷ (codes "claim 1", codes "ok claimed 1.1:- stopped -")
    ∷ (codes "heartbeat 1", codes "ok beat 1 notowner -")
    ∷ (codes "kill worker 1", codes "ok")
    ∷ (codes "clock 61201", codes "ok")
    ∷ (codes "poll 1", codes "ok freed 1 done - lost - added - dropped - open - moved - drained - bad -")
    ∷ (codes "start worker 2 1", codes "ok")
    ∷ (codes "claim 2", codes "ok claimed - stopped -")
    ∷ (codes "start worker 3", codes "ok")
    ∷ (codes "claim 3", codes "ok claimed 1.2:- stopped -")
    ∷ (codes "finish 3 1", codes "ok t1")
    ∷ (codes "poll 1", codes "ok freed - done 1 lost - added - dropped - open - moved - drained - bad -")
    ∷ (codes "dump - r0", codes "ok 61:v:32:2:-:-,61:v:31:1:-:-")
    ∷ []

-- A job compacts an empty run into itself and leaves the tree as it is. The horizon rises to the
-- job's cut, so reads below it are refused after the commit.
abbrev pub horizon_alone : Conversation
horizon_alone =
    (codes "flush 1 - 5 10 61:m:6d:2:-:10,61:v:76:1:-:10", codes "ok")
    ∷ (codes "start coordinator 1", codes "ok epoch 1")
    ∷ (codes "start worker 1", codes "ok")
    ∷ (codes "submit - 0 l1", codes "ok job 1")
    ∷ (codes "poll 1", codes "ok freed - done - lost - added - dropped - open 1 moved - drained - bad -")
    ∷ (codes "claim 1", codes "ok claimed 1.1:- stopped -")
    ∷ (codes "finish 1 1", codes "ok -")
    ∷ (codes "poll 1", codes "ok freed - done 1 lost - added - dropped - open - moved - drained - bad -")
    ∷ (codes "flush 2 - 7 10 61:v:77:7:-:-", codes "ok")
    ∷ (codes "read - 61 6 10", codes "none")
    ∷ (codes "submit - 0 r0", codes "ok job 2")
    ∷ (codes "poll 1", codes "ok freed - done - lost - added - dropped - open 2 moved - drained - bad -")
    ∷ (codes "claim 1", codes "ok claimed 2.1:- stopped -")
    ∷ (codes "finish 1 2", codes "ok -")
    ∷ (codes "poll 1", codes "ok freed - done 2 lost - added - dropped - open - moved - drained - bad -")
    ∷ (codes "read - 61 6 10", codes "notretained 7 10")
    ∷ (codes "read - 61 7 10", codes "value 77")
    ∷ []
