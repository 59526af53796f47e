-- Reading nodes with commas between them.
use Rattle.std.proofs.Common.{◌≡◌, ◌≢◌, ℕ, ◌<◌, ◌≤◌, List, [], ◌∷◌, length, get_or, map, Bor, sym, ap, ◌∙◌, arith, codes}
use Rattle.std.specs.List.{AllByRecursion, slice_split}
use Rattle.fleet_model.specs.Nodes as model
use Rattle.script_model.specs.Bounds.{IsNode, AreNodes}
use Rattle.script_model.specs.Words.{node_text, nodes_text}
use Rattle.script_laws.specs.ByteTests.{is_byte}
use Rattle.script_laws.proofs.Pieces.{split_join, join_split}
use Rattle.script_laws.proofs.Nodes.{each_node, nodes_lack}
use Rattle.fleet_text.specs.declared.node.NodeName.{NodeName}
use Rattle.fleet_text.specs.Lines.{node_of, nodes_of}
use Rattle.fleet_text.proofs.Each.{ReadsEach, each_all, not_among}

are_nodes : (nodes : List model.NodeName) → AllByRecursion IsNode nodes → AreNodes nodes
are_nodes [] h = tt
are_nodes (node ∷ nodes) h = (h.0, are_nodes nodes h.1)

split_nodes : (node : model.NodeName) (nodes : List model.NodeName) → AreNodes (node ∷ nodes) → slice_split (is_byte 44) (nodes_text (node ∷ nodes)) ≡ map node_text (node ∷ nodes)
split_nodes node nodes h = let lack = nodes_lack (node ∷ nodes) h in split_join 44 (node_text node) (map node_text nodes) lack.0 lack.1

-- All fields have been read, so their word spells these nodes.
pub nodes_all : (word : List ℕ) (fs : List (Bor (List ℕ))) (i : ℕ) (nodes : List NodeName) → ReadsEach node_of node_text IsNode fs i nodes → length fs ≤ i → map (λ x. x.now) fs ≡ slice_split (is_byte 44) word → AreNodes (nodes_of nodes) × (word ≡ nodes_text (nodes_of nodes))
nodes_all word fs i nodes r le split = let all = each_all node_of node_text IsNode 44 word fs i nodes r le split in all_of (nodes_of nodes) all.0 all.1 all.2
  where
    all_of : (nodes : List model.NodeName) → 0 < length nodes → AllByRecursion IsNode nodes → map node_text nodes ≡ slice_split (is_byte 44) word → AreNodes nodes × (word ≡ nodes_text nodes)
    all_of [] some each words = absurd (omega (arith, some))
    all_of (node ∷ nodes) some each words = (are_nodes (node ∷ nodes) each, join_split 44 word (map node_text (node ∷ nodes)) (sym words))

-- A word with a field that is no node, and that is not a hyphen alone, spells no nodes.
pub not_nodes : (word : List ℕ) (fs : List (Bor (List ℕ))) (i : ℕ) (d : Bor (List ℕ)) → word ≢ codes "-" → i < length fs → ((node : model.NodeName) → IsNode node → (get_or fs i d).now ≢ node_text node) → map (λ x. x.now) fs ≡ slice_split (is_byte 44) word
    → (nodes : List model.NodeName) → AreNodes nodes → word ≢ nodes_text nodes
not_nodes word fs i d hyphen lt none split [] fits e = hyphen e
not_nodes word fs i d hyphen lt none split (node ∷ nodes) fits e = not_among node_text IsNode fs i d (node ∷ nodes) (each_node (node ∷ nodes) fits) lt none (split ∙ ap (slice_split (is_byte 44)) e ∙ split_nodes node nodes fits)
