-- Of each text, whether it spells rows or nodes that fit.
use Rattle.std.proofs.Common.{◌≡◌, ◌≢◌, ℕ, ◌<◌, ◌^◌, inl, inr, List, [], ◌∷◌, length, map, drop, Option, ℤ, ap, ◌∙◌, arith, codes}
use Rattle.std.specs.List.{AllByRecursion, slice_split}
use Rattle.std.proofs.lemmas.List.Splits.{length-slice_split}
use Rattle.row_model.specs.Rows.{Row, Content, Value, Merge, Tombstone}
use Rattle.row_model.specs.Bounds.{AreBytes, IsContent, IsRow, AreRows}
use Rattle.fleet_model.specs.Nodes.{NodeName, L0, Run}
use Rattle.script_model.specs.Bounds.{IsName, IsNode, AreNodes}
use Rattle.script_model.specs.Words.{bytes_text, kind_text, content_text, row_text, rows_text, node_text, nodes_text, list_text}
use Rattle.script_laws.specs.ByteTests.{is_byte}
use Rattle.script_laws.proofs.Pieces.{Lacks, mapped, join_split, split_words}
use Rattle.script_laws.proofs.Rows.{row_words, row_words_lack, row_lacks, each_row, rows_of_each}
use Rattle.script_laws.proofs.Nodes.{each_node, nodes_lack}
use Rattle.spelling_laws.proofs.Spelt.{Decided, SpeltOrNot, same_or_not, lt_or_not, sized_or_not, as_or_not, map_or_not, joined_or_not}
use Rattle.spelling_laws.proofs.SpeltWords.{Word, Words, number, short_number, some_up_to, stamp_or_none, key_bytes, followed, last, named}

-- ---- rows

abbrev IsLong : List ℕ → Type 0
IsLong bytes = AreBytes bytes × (length bytes < 2 ^ 32)

abbrev long_bytes : Word (List ℕ)
long_bytes = record { spelling = bytes_text; Fits = IsLong; is_spelt_or_not = sized_or_not (λ n. n < 2 ^ 32) (λ n. lt_or_not n (2 ^ 32)) }

-- Each list of words begins with a kind and a content that fit, or with none.
content_or_not : {A : Type 0} (after : Words A) (words : List (List ℕ)) → SpeltOrNot (λ (x : Content × A). kind_text x.0 ∷ content_text x.0 ∷ after.spelling x.1) (λ x. IsContent x.0 × after.Fits x.1) words
content_or_not {A} after words = by ((named (codes "v") (followed long_bytes after)).is_spelt_or_not words) ((named (codes "m") (followed long_bytes after)).is_spelt_or_not words) ((named (codes "t") (named (codes "-") after)).is_spelt_or_not words)
  where
    by : SpeltOrNot (λ (x : List ℕ × A). codes "v" ∷ bytes_text x.0 ∷ after.spelling x.1) (λ x. IsLong x.0 × after.Fits x.1) words → SpeltOrNot (λ (x : List ℕ × A). codes "m" ∷ bytes_text x.0 ∷ after.spelling x.1) (λ x. IsLong x.0 × after.Fits x.1) words
        → SpeltOrNot (λ (x : A). codes "t" ∷ codes "-" ∷ after.spelling x) after.Fits words → SpeltOrNot (λ (x : Content × A). kind_text x.0 ∷ content_text x.0 ∷ after.spelling x.1) (λ x. IsContent x.0 × after.Fits x.1) words
    by (inl found) merge tombstone = inl ((Value found.0.0, found.0.1), found.1, found.2)
    by (inr no_value) (inl found) tombstone = inl ((Merge found.0.0, found.0.1), found.1, found.2)
    by (inr no_value) (inr no_merge) (inl found) = inl ((Tombstone, found.0), (tt, found.1), found.2)
    by (inr no_value) (inr no_merge) (inr no_tombstone) = inr (λ x. each x.0 x.1)
      where
        each : (content : Content) (x : A) → IsContent content × after.Fits x → words ≢ kind_text content ∷ content_text content ∷ after.spelling x
        each (Value bytes) x fits e = no_value (bytes, x) fits e
        each (Merge bytes) x fits e = no_merge (bytes, x) fits e
        each Tombstone x fits e = no_tombstone x fits.1 e

-- A content, which has two words, and then words.
abbrev content : {A : Type 0} → Words A → Words (Content × A)
content {A} after = record { spelling = λ (x : Content × A). kind_text x.0 ∷ content_text x.0 ∷ after.spelling x.1; Fits = λ x. IsContent x.0 × after.Fits x.1; is_spelt_or_not = content_or_not after }

abbrev row_form : Words (List ℕ × (Content × (ℕ × (Option ℤ × Option ℤ))))
row_form = followed key_bytes (content (followed number (followed stamp_or_none (last stamp_or_none))))

row_words_or_not : (words : List (List ℕ)) → SpeltOrNot row_words IsRow words
row_words_or_not words = by (row_form.is_spelt_or_not words)
  where
    by : SpeltOrNot row_form.spelling row_form.Fits words → SpeltOrNot row_words IsRow words
    by (inl found) = let x = found.0 in let h = found.1 in inl (
      record { key = x.0; content = x.1.0; seq = x.1.1.0; created = x.1.1.1.0; expires = x.1.1.1.1 },
      record { key = h.0; content = h.1.0; seq = h.1.1.0; created = h.1.1.1.0; expires = h.1.1.1.1 },
      found.2,
    )
    by (inr none) = inr (λ r fits e. none (r.key, (r.content, (r.seq, (r.created, r.expires)))) (fits.key, (fits.content, (fits.seq, (fits.created, fits.expires)))) e)

row_or_not : (text : List ℕ) → SpeltOrNot row_text IsRow text
row_or_not text = joined_or_not 58 row_words IsRow (λ r fits. (λ e. cc e, row_words_lack r fits)) row_words_or_not text

-- ---- lists

abbrev AreSome : {A : Type 0} → (A → Type 0) → List A → Type 0
AreSome P xs = (0 < length xs) × AllByRecursion P xs

-- A text spells a list of items with commas, which is not empty, or no such list.
list_or_not : {A : Type 0} (f : A → List ℕ) (P : A → Type 0) → ((x : A) → P x → Lacks 44 (f x)) → ((text : List ℕ) → SpeltOrNot f P text) → (text : List ℕ) → SpeltOrNot (λ xs. list_text 44 (map f xs)) (AreSome P) text
list_or_not {A} f P lack is_or_not text = by (map_or_not f P is_or_not (slice_split (is_byte 44) text))
  where
    some : (xs : List A) → slice_split (is_byte 44) text ≡ map f xs → AllByRecursion P xs → SpeltOrNot (λ xs. list_text 44 (map f xs)) (AreSome P) text
    some [] e fits = let n = length-slice_split (is_byte 44) text in let none = ap length e in absurd (omega (arith, n, none))
    some (x ∷ xs) e fits = inl (x ∷ xs, (omega arith, fits), join_split 44 text (map f (x ∷ xs)) e)

    each : ((xs : List A) → AllByRecursion P xs → slice_split (is_byte 44) text ≢ map f xs) → (xs : List A) → AreSome P xs → text ≢ list_text 44 (map f xs)
    each none [] fits e = let less = fits.0 in absurd (omega (arith, less))
    each none (x ∷ xs) fits e = none (x ∷ xs) fits.1 (ap (slice_split (is_byte 44)) e ∙ split_words 44 (map f (x ∷ xs)) (λ is. cc is) (mapped P (Lacks 44) f lack (x ∷ xs) fits.1))

    by : SpeltOrNot (map f) (AllByRecursion P) (slice_split (is_byte 44) text) → SpeltOrNot (λ xs. list_text 44 (map f xs)) (AreSome P) text
    by (inl found) = some found.0 found.2 found.1
    by (inr none) = inr (each none)

abbrev AreSomeRows : List Row → Type 0
AreSomeRows rows = (0 < length rows) × AreRows rows

pub rows_or_not : (text : List ℕ) → SpeltOrNot rows_text AreSomeRows text
rows_or_not text = as_or_not rows_text (AreSome IsRow) AreSomeRows text (λ rows h. (h.0, rows_of_each rows h.1)) (λ rows h. (h.0, each_row rows h.1)) (list_or_not row_text IsRow row_lacks row_or_not text)

abbrev pub some_rows : Word (List Row)
some_rows = record { spelling = rows_text; Fits = AreSomeRows; is_spelt_or_not = rows_or_not }

-- ---- nodes

abbrev pub name : Word ℕ
name = some_up_to 1099511627775 (omega arith)

-- A text is a letter and then a word, or not.
letter_or_not : {A : Type 0} (letter : ℕ) (after : Word A) (text : List ℕ) → SpeltOrNot (λ (x : A). letter ∷ after.spelling x) after.Fits text
letter_or_not letter after [] = inr (λ x fits e. cc e)
letter_or_not {A} letter after (b ∷ text) = by (same_or_not (b ∷ []) (letter ∷ [])) (after.is_spelt_or_not text)
  where
    by : Decided (b ∷ [] ≡ letter ∷ []) → SpeltOrNot after.spelling after.Fits text → SpeltOrNot (λ (x : A). letter ∷ after.spelling x) after.Fits (b ∷ text)
    by (inl is) (inl found) = let rest = found.2 in inl (found.0, found.1, cc (is, rest))
    by (inr is_not) rest = inr (λ x fits e. let is : b ∷ [] ≡ letter ∷ [] = cc e in is_not is)
    by (inl is) (inr none) = inr (λ x fits e. none x fits (ap (drop 1) e))

-- Each text spells a node, or none.
pub node_or_not : (text : List ℕ) → SpeltOrNot node_text IsNode text
node_or_not text = by (letter_or_not 108 name text) (letter_or_not 114 short_number text)
  where
    by : SpeltOrNot (λ n. node_text (L0 n)) IsName text → SpeltOrNot (λ n. node_text (Run n)) (λ n. n < 2 ^ 32) text → SpeltOrNot node_text IsNode text
    by (inl found) run = inl (L0 found.0, found.1, found.2)
    by (inr no_flush) (inl found) = inl (Run found.0, found.1, found.2)
    by (inr no_flush) (inr no_run) = inr each
      where
        each : (node : NodeName) → IsNode node → text ≢ node_text node
        each (L0 n) fits e = no_flush n fits e
        each (Run n) fits e = no_run n fits e

abbrev pub one_node : Word NodeName
one_node = record { spelling = node_text; Fits = IsNode; is_spelt_or_not = node_or_not }

node_lacks : (node : NodeName) → IsNode node → Lacks 44 (node_text node)
node_lacks node fits = (nodes_lack (node ∷ []) (fits, tt)).0

nodes_of_each : (nodes : List NodeName) → AllByRecursion IsNode nodes → AreNodes nodes
nodes_of_each [] h = tt
nodes_of_each (node ∷ nodes) h = (h.0, nodes_of_each nodes h.1)

-- Each text spells a list of nodes, or none.
pub nodes_or_not : (text : List ℕ) → SpeltOrNot nodes_text AreNodes text
nodes_or_not text = by (same_or_not text (codes "-")) (list_or_not node_text IsNode node_lacks node_or_not text)
  where
    by : Decided (text ≡ codes "-") → SpeltOrNot nodes_text (AreSome IsNode) text → SpeltOrNot nodes_text AreNodes text
    by (inl is) some = inl ([], tt, is)
    by (inr is_not) (inl found) = inl (found.0, nodes_of_each found.0 found.1.1, found.2)
    by (inr is_not) (inr none) = inr each
      where
        each : (nodes : List NodeName) → AreNodes nodes → text ≢ nodes_text nodes
        each [] fits e = is_not e
        each (node ∷ nodes) fits e = none (node ∷ nodes) (omega arith, each_node (node ∷ nodes) fits) e

abbrev pub some_nodes : Word (List NodeName)
some_nodes = record { spelling = nodes_text; Fits = AreNodes; is_spelt_or_not = nodes_or_not }
