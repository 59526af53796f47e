-- Parts of the spelling of a line that are appended one by one.
use Rattle.std.specs.Prelude.{ℕ, List, ◌++◌, codes}
use Rattle.row_model.specs.Rows.{Content}
use Rattle.script_model.specs.Words.{kind_text, content_text}

-- The fields of a row's content: a colon and its kind, and a colon and its bytes.
abbrev pub content_fields : Content → List ℕ
content_fields content = codes ":" ++ kind_text content ++ codes ":" ++ content_text content
