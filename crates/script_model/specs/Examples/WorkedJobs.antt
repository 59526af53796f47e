-- Scripts that show which jobs a poll opens, and what the jobs make of the trees.
use Rattle.std.specs.Prelude.{[], ◌∷◌, codes}
use Rattle.script_model.specs.Examples.Worked.{Conversation}

-- Two jobs take the same run. The poll opens the first one, and the second fails by rule 8.
abbrev pub shared_source : Conversation
shared_source =
    (codes "flush 1 - 0 0 61:v:31:1:-:-", codes "ok")
    ∷ (codes "start coordinator 1", codes "ok epoch 1")
    ∷ (codes "start worker 1", codes "ok")
    ∷ (codes "submit - 1 l1", codes "ok job 1")
    ∷ (codes "poll 1", codes "ok freed - done - lost - added - dropped - open 1 moved - drained - bad -")
    ∷ (codes "claim 1", codes "ok claimed 1.1:- stopped -")
    ∷ (codes "finish 1 1", codes "ok t1")
    ∷ (codes "poll 1", codes "ok freed - done 1 lost - added - dropped - open - moved - drained - bad -")
    ∷ (codes "flush 2 - 0 0 61:v:32:2:-:-", codes "ok")
    ∷ (codes "submit - 1 l2,r1", codes "ok job 2")
    ∷ (codes "submit - 1 r1", codes "ok job 3")
    ∷ (codes "poll 1", codes "ok freed - done - lost - added - dropped - open 2 moved - drained - bad 3:8")
    ∷ []

-- A job of the newest flush alone fails by rule 5, since its sources do not reach the oldest flush.
abbrev pub oldest_flush : Conversation
oldest_flush =
    (codes "flush 1 - 0 0 61:v:31:1:-:-", codes "ok")
    ∷ (codes "flush 2 - 0 0 61:v:32:2:-:-", codes "ok")
    ∷ (codes "flush 3 - 0 0 61:v:33:3:-:-", codes "ok")
    ∷ (codes "start coordinator 1", codes "ok epoch 1")
    ∷ (codes "start worker 1", codes "ok")
    ∷ (codes "submit - 5 l3", codes "ok job 1")
    ∷ (codes "submit - 5 l3,l2,l1", codes "ok job 2")
    ∷ (codes "poll 1", codes "ok freed - done - lost - added - dropped - open 2 moved - drained - bad 1:5")
    ∷ []

-- A job into the greatest run id fails by rule 7. A job without sources fails by rule 1.
abbrev pub destinations : Conversation
destinations =
    (codes "flush 1 - 0 0 61:v:31:1:-:-", codes "ok")
    ∷ (codes "start coordinator 1", codes "ok epoch 1")
    ∷ (codes "start worker 1", codes "ok")
    ∷ (codes "submit - 4294967295 l1", codes "ok job 1")
    ∷ (codes "submit - 0 -", codes "ok job 2")
    ∷ (codes "poll 1", codes "ok freed - done - lost - added - dropped - open - moved - drained - bad 1:7,2:1")
    ∷ []

-- A drain drops the flushes of a segment that it names. A drain of the root fails by rule 2.
abbrev pub drains : Conversation
drains =
    (codes "flush 1 73 0 0 7361:v:31:1:-:-", codes "ok")
    ∷ (codes "flush 2 73 0 0 7361:v:32:2:-:-", codes "ok")
    ∷ (codes "flush 3 73 0 0 7362:v:33:3:-:-", codes "ok")
    ∷ (codes "start coordinator 1", codes "ok epoch 1")
    ∷ (codes "start worker 1", codes "ok")
    ∷ (codes "drain - l1", codes "ok job 1")
    ∷ (codes "drain 73 l2,l1", codes "ok job 2")
    ∷ (codes "poll 1", codes "ok freed - done - lost - added - dropped - open - moved - drained 2 bad 1:2")
    ∷ (codes "trees", codes "ok -:-;73:l3")
    ∷ (codes "read 73 7361 9 0", codes "none")
    ∷ (codes "read 73 7362 9 0", codes "value 33")
    ∷ []

-- Tables whose key ranges do not overlap become a run as they are, in the order of their first
-- keys. No worker takes part.
abbrev pub moved_tables : Conversation
moved_tables =
    (codes "options 60000 4 4 4 268435456 1", codes "ok")
    ∷ (codes "flush 1 - 0 0 62:v:76:1:-:-", codes "ok")
    ∷ (codes "flush 2 - 0 0 61:v:76:2:-:-", codes "ok")
    ∷ (codes "start coordinator 1", codes "ok epoch 1")
    ∷ (codes "start worker 1", codes "ok")
    ∷ (codes "submit - 0 l2,l1", codes "ok job 1")
    ∷ (codes "poll 1", codes "ok freed - done - lost - added - dropped - open - moved 1 drained - bad -")
    ∷ (codes "tables - r0", codes "ok l2:1,l1:1")
    ∷ []

-- There are no records before a coordinator starts. A submission is refused, and a claim finds no
-- job.
abbrev pub no_records : Conversation
no_records =
    (codes "submit - 0 l1", codes "invaliddbstate")
    ∷ (codes "full", codes "invaliddbstate")
    ∷ (codes "claim 1", codes "nosuchparty")
    ∷ (codes "start worker 1", codes "ok")
    ∷ (codes "claim 1", codes "ok claimed - stopped -")
    ∷ []

-- The scheduler picks the eight oldest of ten flushes of the root, and all flushes of a segment.
-- Each of the two jobs is made in four ranges.
abbrev pub two_segments : Conversation
two_segments =
    (codes "options 60000 4 1 4 268435456 0", codes "ok")
    ∷ (codes "flush 1 - 0 0 30:v:76:1:-:-", codes "ok")
    ∷ (codes "flush 2 - 0 0 31:v:76:2:-:-", codes "ok")
    ∷ (codes "flush 3 - 0 0 32:v:76:3:-:-", codes "ok")
    ∷ (codes "flush 4 - 0 0 33:v:76:4:-:-", codes "ok")
    ∷ (codes "flush 5 - 0 0 34:v:76:5:-:-", codes "ok")
    ∷ (codes "flush 6 - 0 0 35:v:76:6:-:-", codes "ok")
    ∷ (codes "flush 7 - 0 0 36:v:76:7:-:-", codes "ok")
    ∷ (codes "flush 8 - 0 0 37:v:76:8:-:-", codes "ok")
    ∷ (codes "flush 9 - 0 0 38:v:76:9:-:-", codes "ok")
    ∷ (codes "flush 10 - 0 0 39:v:76:10:-:-", codes "ok")
    ∷ (codes "flush 11 75736572313a 0 0 75736572313a31:v:76:11:-:-", codes "ok")
    ∷ (codes "flush 12 75736572313a 0 0 75736572313a32:v:76:12:-:-", codes "ok")
    ∷ (codes "flush 13 75736572313a 0 0 75736572313a33:v:76:13:-:-", codes "ok")
    ∷ (codes "flush 14 75736572313a 0 0 75736572313a34:v:76:14:-:-", codes "ok")
    ∷ (codes "start coordinator 1", codes "ok epoch 1")
    ∷ (codes "start worker 1", codes "ok")
    ∷ (codes "start worker 2", codes "ok")
    ∷ (codes "poll 1", codes "ok freed - done - lost - added 1,2 dropped - open 1,2 moved - drained - bad -")
    ∷ (codes "claim 1", codes "ok claimed 1.1:-|-|-|- stopped -")
    ∷ (codes "claim 2", codes "ok claimed 2.1:-|-|-|- stopped -")
    ∷ (codes "finish 1 1", codes "ok t1|t2|t3|t4")
    ∷ (codes "finish 2 2", codes "ok t5|t6|t7|t8")
    ∷ (codes "poll 1", codes "ok freed - done 1,2 lost - added - dropped - open - moved - drained - bad -")
    ∷ (codes "trees", codes "ok -:l10,l9,r0;75736572313a:r1")
    ∷ (codes "read - 30 99 0", codes "value 76")
    ∷ (codes "read 75736572313a 75736572313a34 99 0", codes "value 76")
    ∷ []

-- The scheduler proposes a job twice. The second proposal is dropped, and the number drawn for it
-- is used up. The scheduler declines to generate jobs.
abbrev pub proposed_twice : Conversation
proposed_twice =
    (codes "flush 1 - 0 0 61:v:76:1:-:-", codes "ok")
    ∷ (codes "start coordinator 1", codes "ok epoch 1")
    ∷ (codes "start worker 1", codes "ok")
    ∷ (codes "poll 1", codes "ok freed - done - lost - added 1 dropped 2:9 open 1 moved - drained - bad -")
    ∷ (codes "claim 1", codes "ok claimed 1.1:- stopped -")
    ∷ (codes "finish 1 1", codes "ok t1")
    ∷ (codes "poll 1", codes "ok freed - done 1 lost - added - dropped - open - moved - drained - bad -")
    ∷ (codes "full", codes "generate 6e6f")
    ∷ (codes "submit - 0 r0", codes "ok job 3")
    ∷ []
