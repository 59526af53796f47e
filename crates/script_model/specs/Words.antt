-- How bytes, stamps, rows and nodes are spelt, both in scripts and in replies.
use Rattle.std.specs.Prelude.{ℕ, Bool, true, false, ℤ, List, [], ◌∷◌, ◌++◌, map, Option, Some, None, codes, decimal}
use Rattle.std.specs.List.{join_with_byte}
use Rattle.std.specs.Fmt.{signed_decimal}
use Rattle.hex.specs.Hex.{encode_lower}
use Rattle.row_model.specs.Rows.{Row, Content, Value, Merge, Tombstone}
use Rattle.fleet_model.specs.Nodes.{NodeName, L0, Run}

-- The spelling of bytes: two lower-case hexadecimal digits for each, and a dash for the empty list.
abbrev pub bytes_text : List ℕ → List ℕ
bytes_text [] = codes "-"
bytes_text (b ∷ bytes) = encode_lower (b ∷ bytes)

-- The spelling of a stamp: a signed number, or a dash if there is none.
abbrev pub stamp_text : Option ℤ → List ℕ
stamp_text None = codes "-"
stamp_text (Some stamp) = signed_decimal stamp

-- The letter of a row's kind: v for a value, m for an operand, t for a tombstone.
abbrev pub kind_text : Content → List ℕ
kind_text (Value bytes) = codes "v"
kind_text (Merge bytes) = codes "m"
kind_text Tombstone = codes "t"

-- The spelling of a row's content: the bytes of its value or operand, or a dash for a tombstone.
abbrev pub content_text : Content → List ℕ
content_text (Value bytes) = bytes_text bytes
content_text (Merge bytes) = bytes_text bytes
content_text Tombstone = codes "-"

-- The spelling of a row: key, kind, content, sequence, time of creation and expiry, with a colon
-- between each two.
abbrev pub row_text : Row → List ℕ
row_text r =
    join_with_byte 58
    (bytes_text r.key ∷ kind_text r.content ∷ content_text r.content ∷ decimal r.seq ∷ stamp_text r.created
    ∷ stamp_text r.expires ∷ [])

-- The spelling of a list: its words with the separator between each two, or a dash if the list is
-- empty.
abbrev pub list_text : ℕ → List (List ℕ) → List ℕ
list_text separator [] = codes "-"
list_text separator (word ∷ words) = join_with_byte separator (word ∷ words)

-- The byte of a comma.
abbrev pub comma : ℕ
comma = 44

-- The spelling of rows: a list with commas.
abbrev pub rows_text : List Row → List ℕ
rows_text rows = list_text comma (map row_text rows)

-- The spelling of a node: the letter l and the name of a flush, or the letter r and the id of a
-- run.
abbrev pub node_text : NodeName → List ℕ
node_text (L0 name) = codes "l" ++ decimal name
node_text (Run id) = codes "r" ++ decimal id

-- The spelling of nodes: a list with commas.
abbrev pub nodes_text : List NodeName → List ℕ
nodes_text nodes = list_text comma (map node_text nodes)

-- The spelling of a flag: 1 if it holds, and 0 otherwise.
abbrev pub flag_text : Bool → List ℕ
flag_text true = codes "1"
flag_text false = codes "0"

-- The word of a fault: whether the struck put takes effect or is lost.
abbrev pub fault_text : Bool → List ℕ
fault_text true = codes "stands"
fault_text false = codes "lost"

-- The words of an optional segment: one word, or none.
abbrev pub word_of : Option (List ℕ) → List (List ℕ)
word_of None = []
word_of (Some segment) = bytes_text segment ∷ []

-- The words of an optional number: one word, or none.
abbrev pub number_word : Option ℕ → List (List ℕ)
number_word None = []
number_word (Some n) = decimal n ∷ []
