-- A generated script.
use Rattle.std.specs.Prelude.{ℕ, List, [], ◌∷◌, codes}

-- The lines of the script of two rounds that the number 7 makes.
abbrev pub generated_from_seven : List (List ℕ)
generated_from_seven =
    codes "start coordinator 1"
    ∷ codes "start worker 1"
    ∷ codes "flush 1 - 0 0 1e:t:-:1:-:-,71:v:e9:1:-:-,83:v:14:1:-:-,db:m:03:1:-:-"
    ∷ codes "flush 2 - 0 0 33:v:70:2:-:-,5d:m:fd:2:-:-,b3:v:9f:2:-:-,d8:v:36:2:-:-"
    ∷ codes "flush 3 - 0 0 32:v:70:3:-:-,58:v:c5:3:-:-,b0:v:9d:3:-:-,e6:t:-:3:-:-"
    ∷ codes "submit - 1 l3,l2,l1"
    ∷ codes "poll 1"
    ∷ codes "claim 1"
    ∷ codes "finish 1 1"
    ∷ codes "poll 1"
    ∷ codes "read - 1d 3 0"
    ∷ codes "flush 4 - 3 0 13:v:5b:4:-:-,64:v:7d:4:-:-,97:v:22:4:-:-,ec:v:60:4:-:-"
    ∷ codes "flush 5 - 3 0 20:m:4a:5:-:-,74:m:0d:5:-:-,9c:m:cb:5:-:-,c0:v:b2:5:-:-"
    ∷ codes "flush 6 - 3 0 2b:t:-:6:-:-,65:t:-:6:-:-,b4:t:-:6:-:-,c9:v:b3:6:-:-"
    ∷ codes "submit - 1 l6,l5,l4,r1"
    ∷ codes "poll 1"
    ∷ codes "claim 1"
    ∷ codes "finish 1 2"
    ∷ codes "poll 1"
    ∷ codes "read - 78 6 0"
    ∷ []
