-- A script in which the operator refuses a finish.
use Rattle.std.specs.Prelude.{[], ◌∷◌, codes}
use Rattle.script_model.specs.Examples.Worked.{Conversation}

-- The operator refuses a fold. The finish is refused with its message, and the job waits again with
-- the settings that it has. A read of the key is refused with the message too.
abbrev pub refusing_operator : Conversation
refusing_operator =
    (codes "flush 1 - 5 0 61:m:21:1:-:-", codes "ok")
    ∷ (codes "start coordinator 1", codes "ok epoch 1")
    ∷ (codes "start worker 1", codes "ok")
    ∷ (codes "submit - 0 l1", codes "ok job 1")
    ∷ (codes "poll 1", codes "ok freed - done - lost - added - dropped - open 1 moved - drained - bad -")
    ∷ (codes "claim 1", codes "ok claimed 1.1:- stopped -")
    ∷ (codes "heartbeat 1", codes "ok beat 1 notowner -")
    ∷ (codes "finish 1 1", codes "callback 6e6f")
    ∷ (codes "jobs", codes "ok 1:scheduled:1:-:5/0/1/5/-")
    ∷ (codes "finish 1 1", codes "nosuchparty")
    ∷ (codes "read - 61 5 0", codes "callback 6e6f")
    ∷ []
