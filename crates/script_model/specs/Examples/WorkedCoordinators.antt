-- Scripts in which coordinators are fenced, take over, or lose an answer.
use Rattle.std.specs.Prelude.{[], ◌∷◌, codes}
use Rattle.script_model.specs.Examples.Worked.{Conversation}

-- A newer coordinator fences an older one. The older one's poll ends after its first get and the
-- coordinator is no longer live. A fault that waits for a second get therefore strikes the next
-- poll.
abbrev pub fence : Conversation
fence =
    (codes "start coordinator 1", codes "ok epoch 1")
    ∷ (codes "start coordinator 2", codes "ok epoch 2")
    ∷ (codes "fault 2 lost", codes "ok")
    ∷ (codes "poll 1", codes "fenced 2")
    ∷ (codes "poll 1", codes "nosuchparty")
    ∷ (codes "poll 2", codes "storefault")
    ∷ []

-- A fault strikes the put of a finish, and the put takes effect. The next poll commits the job.
abbrev pub standing_put : Conversation
standing_put =
    (codes "flush 1 - 0 0 61:v:31:1:-:-", codes "ok")
    ∷ (codes "start coordinator 1", codes "ok epoch 1")
    ∷ (codes "start worker 1", codes "ok")
    ∷ (codes "submit - 0 l1", codes "ok job 1")
    ∷ (codes "poll 1", codes "ok freed - done - lost - added - dropped - open 1 moved - drained - bad -")
    ∷ (codes "claim 1", codes "ok claimed 1.1:- stopped -")
    ∷ (codes "fault 4 stands", codes "ok")
    ∷ (codes "finish 1 1", codes "storefault")
    ∷ (codes "finish 1 1", codes "nosuchparty")
    ∷ (codes "poll 1", codes "ok freed - done 1 lost - added - dropped - open - moved - drained - bad -")
    ∷ []

-- Of a commit only the put of the manifest takes effect. The next coordinator does not commit the
-- job again: it fails by rule 10, since its source has other tables now.
abbrev pub takeover : Conversation
takeover =
    (codes "flush 1 - 0 0 61:v:76:1:-:-", codes "ok")
    ∷ (codes "start coordinator 1", codes "ok epoch 1")
    ∷ (codes "start worker 1", codes "ok")
    ∷ (codes "submit - 1 l1", codes "ok job 1")
    ∷ (codes "poll 1", codes "ok freed - done - lost - added - dropped - open 1 moved - drained - bad -")
    ∷ (codes "claim 1", codes "ok claimed 1.1:- stopped -")
    ∷ (codes "finish 1 1", codes "ok t1")
    ∷ (codes "poll 1", codes "ok freed - done 1 lost - added - dropped - open - moved - drained - bad -")
    ∷ (codes "submit - 1 r1", codes "ok job 2")
    ∷ (codes "poll 1", codes "ok freed - done - lost - added - dropped - open 2 moved - drained - bad -")
    ∷ (codes "claim 1", codes "ok claimed 2.1:- stopped -")
    ∷ (codes "finish 1 2", codes "ok t2")
    ∷ (codes "fault 4 lost", codes "ok")
    ∷ (codes "poll 1", codes "storefault")
    ∷ (codes "tables - r1", codes "ok t2:1")
    ∷ (codes "start coordinator 2", codes "ok epoch 2")
    ∷ (codes "poll 2", codes "ok freed - done - lost 2:10 added - dropped - open - moved - drained - bad -")
    ∷ (codes "tables - r1", codes "ok t2:1")
    ∷ (codes "jobs", codes "ok 2:failed:1:w1:-")
    ∷ []

-- A poll commits a job and moves its run by another job, but only the put of the manifest takes
-- effect. After the takeover both jobs fail, and no row is lost.
abbrev pub moved_run_takeover : Conversation
moved_run_takeover =
    (codes "options 60000 4 4 4 268435456 1", codes "ok")
    ∷ (codes "flush 1 - 0 0 61:v:31:1:-:-", codes "ok")
    ∷ (codes "flush 2 - 0 0 61:v:32:2:-:-", codes "ok")
    ∷ (codes "start coordinator 1", codes "ok epoch 1")
    ∷ (codes "start worker 1", codes "ok")
    ∷ (codes "submit - 1 l2,l1", codes "ok job 1")
    ∷ (codes "poll 1", codes "ok freed - done - lost - added - dropped - open 1 moved - drained - bad -")
    ∷ (codes "claim 1", codes "ok claimed 1.1:- stopped -")
    ∷ (codes "output 1 1 1 1", codes "ok t1 1")
    ∷ (codes "finish 1 1", codes "ok t1,t2")
    ∷ (codes "poll 1", codes "ok freed - done 1 lost - added - dropped - open - moved - drained - bad -")
    ∷ (codes "flush 3 - 0 0 62:v:33:3:-:-", codes "ok")
    ∷ (codes "submit - 2 l3", codes "ok job 2")
    ∷ (codes "poll 1", codes "ok freed - done - lost - added - dropped - open - moved 2 drained - bad -")
    ∷ (codes "submit - 1 r1", codes "ok job 3")
    ∷ (codes "poll 1", codes "ok freed - done - lost - added - dropped - open 3 moved - drained - bad -")
    ∷ (codes "claim 1", codes "ok claimed 3.1:- stopped -")
    ∷ (codes "finish 1 3", codes "ok t3")
    ∷ (codes "submit - 1 r2,r1", codes "ok job 4")
    ∷ (codes "fault 4 lost", codes "ok")
    ∷ (codes "poll 1", codes "storefault")
    ∷ (codes "tables - r1", codes "ok t3:2,l3:1")
    ∷ (codes "start coordinator 2", codes "ok epoch 2")
    ∷ (codes "poll 2", codes "ok freed - done - lost 3:10 added - dropped - open - moved - drained - bad 4:4")
    ∷ (codes "trees", codes "ok -:r1")
    ∷ (codes "read - 62 9 0", codes "value 33")
    ∷ []
