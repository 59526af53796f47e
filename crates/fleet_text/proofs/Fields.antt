-- Reading the fields of rows and lines.
use Rattle.std.proofs.Common.{◌≡◌, ℕ, List, [], ◌∷◌, length, get_or, map, Option, Some, None, Result, Bor, IfOk, sym, ap, ◌∙◌, arith}
use Rattle.std.specs.List.{slice_split}
use Rattle.std.proofs.lemmas.Result.{IfOk-weaker}
use Rattle.fleet_rows.specs.declared.row.RowEntry.{RowEntry}
use Rattle.fleet_rows.specs.Row.{row_of}
use Rattle.row_model.specs.Rows.{Row}
use Rattle.row_model.specs.Bounds.{IsRow}
use Rattle.script_model.specs.Words.{row_text}
use Rattle.script_model.specs.Script.{words, IsInBounds}
use Rattle.script_laws.specs.ByteTests.{is_byte}
use Rattle.script_laws.proofs.Pieces.{split_join, join_split}
use Rattle.script_laws.proofs.Rows.{row_words_lack}
use Rattle.script_laws.proofs.LineWords.{split_line}
use Rattle.fleet_text.specs.declared.line.Line.{Line}
use Rattle.fleet_text.specs.Lines.{line_of}
use Rattle.fleet_text.specs.Reading.{ReadsAs, row_words, line_text}

abbrev pub now_of : Bor (List ℕ) → List ℕ
now_of x = x.now

-- The word of a row, split at its colons, gives the parts of the row.
split_row : (r : Row) → IsRow r → slice_split (is_byte 58) (row_text r) ≡ row_words r
split_row r h = let lack = row_words_lack r h in split_join 58 _ _ lack.0 lack.1

-- A row that is read from the parts of a word is read from the word.
row_from_words : (text : List ℕ) (ws : List (List ℕ)) → slice_split (is_byte 58) text ≡ ws → (o : Option RowEntry) → ReadsAs row_of row_words IsRow ws o → ReadsAs row_of row_text IsRow text o
row_from_words text ws split (Some row) h = (h.0, join_split 58 text (row_words (row_of row)) (split ∙ h.1))
row_from_words text ws split None h = λ r fits e. h r fits (sym split ∙ ap (slice_split (is_byte 58)) e ∙ split_row r fits)

-- So is a line.
pub line_from_words : (text : List ℕ) (ws : List (List ℕ)) → slice_split (is_byte 32) text ≡ ws → (o : Option Line) → ReadsAs line_of words IsInBounds ws o → ReadsAs line_of line_text IsInBounds text o
line_from_words text ws split (Some line) h = (h.0, join_split 32 text (words (line_of line)) (split ∙ h.1))
line_from_words text ws split None h = λ line fits e. h line fits (sym split ∙ ap (slice_split (is_byte 32)) e ∙ split_line line fits)

pub row_result : {E : Type 0} (text : List ℕ) (ws : List (List ℕ)) (r : Result (Option RowEntry) E) → slice_split (is_byte 58) text ≡ ws → IfOk r (ReadsAs row_of row_words IsRow ws) → IfOk r (ReadsAs row_of row_text IsRow text)
row_result text ws r split h = IfOk-weaker r (ReadsAs row_of row_words IsRow ws) (ReadsAs row_of row_text IsRow text) (row_from_words text ws split) h

pub line_result : {E : Type 0} (text : List ℕ) (ws : List (List ℕ)) (r : Result (Option Line) E) → slice_split (is_byte 32) text ≡ ws → IfOk r (ReadsAs line_of words IsInBounds ws) → IfOk r (ReadsAs line_of line_text IsInBounds text)
line_result text ws r split h = IfOk-weaker r (ReadsAs line_of words IsInBounds ws) (ReadsAs line_of line_text IsInBounds text) (line_from_words text ws split) h

-- Eight words, each given by its place.
pub eight_reads : (fs : List (Bor (List ℕ))) (a b c d e f g h : Bor (List ℕ)) (o : Option Line) → length fs ≡ 8
    → ReadsAs line_of words IsInBounds ((get_or fs 0 a).now ∷ (get_or fs 1 b).now ∷ (get_or fs 2 c).now ∷ (get_or fs 3 d).now ∷ (get_or fs 4 e).now ∷ (get_or fs 5 f).now ∷ (get_or fs 6 g).now ∷ (get_or fs 7 h).now ∷ []) o
    → ReadsAs line_of words IsInBounds (map (λ field. field.now) fs) o
eight_reads (s ∷ t ∷ u ∷ v ∷ w ∷ x ∷ y ∷ z ∷ []) a b c d e f g h o n read = read
eight_reads _ a b c d e f g h o n read = absurd (omega (arith, n))
