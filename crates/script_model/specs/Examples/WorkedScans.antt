-- Scripts that show what a scan of a range of keys prints.
use Rattle.std.specs.Prelude.{[], ◌∷◌, codes}
use Rattle.script_model.specs.Examples.Worked.{Conversation}

-- A scan stops at its limit and names the next key, from which another scan goes on. Deleted and
-- expired keys have no answer. An empty range and a segment without a tree have none either. A scan
-- before the tick is refused.
abbrev pub scanned_pages : Conversation
scanned_pages =
    (codes "flush 1 - 0 0 61:v:31:1:-:-,62:t:-:2:-:-,63:m:33:3:-:-,64:v:34:4:-:9", codes "ok")
    ∷ (codes "scan - - - 9 5 2", codes "ok 61:31,63:33 more 64")
    ∷ (codes "scan - 64 - 9 5 2", codes "ok 64:34 end")
    ∷ (codes "scan - - - 9 9 9", codes "ok 61:31,63:33 end")
    ∷ (codes "scan - 63 62 9 5 1", codes "ok - end")
    ∷ (codes "scan 73 - - 9 5 1", codes "ok - end")
    ∷ (codes "scan - - - 9 -1 1", codes "notretained 0 0")
    ∷ []

-- A scan ends at the first key whose fold the operator refuses, with its message, unless the limit
-- comes first.
abbrev pub scanned_to_refusal : Conversation
scanned_to_refusal =
    (codes "flush 1 - 5 0 61:v:31:1:-:-,62:m:21:2:-:-,63:v:33:3:-:-", codes "ok")
    ∷ (codes "scan - - - 9 0 9", codes "ok 61:31 callback 62 6e6f")
    ∷ (codes "scan - - - 9 0 1", codes "ok 61:31 more 62")
    ∷ []
