-- Reading the rows of a flush, and the fields of a row, one after the other, each up to the byte between them.
use Rattle.std.proofs.Common.{◌≡◌, ◌≢◌, ℕ, suc, ◌<◌, List, [], ◌∷◌, ◌++◌, length, map, Option, Some, None, Result, All, IfOk, sym, ap, subst, ◌∙◌, refl, arith}
use Rattle.std.specs.List.{AllByRecursion, join_with_byte}
use Rattle.std.proofs.lemmas.Result.{IfOk-weaker}
use Rattle.fleet_rows.specs.declared.row.RowEntry.{RowEntry}
use Rattle.fleet_rows.specs.Row.{row_of, rows_of}
use Rattle.row_model.specs.Rows.{Row}
use Rattle.row_model.specs.Bounds.{IsRow, AreRows}
use Rattle.script_model.specs.Words.{row_text, rows_text}
use Rattle.script_laws.proofs.Pieces.{Lacks, lacks_all, no_front, not_nothing, same_front}
use Rattle.script_laws.proofs.Rows.{each_row, row_lacks, row_words_lack}
use Rattle.fleet_text.specs.Reading.{ReadsAs, row_words, AreSomeRows}
use Rattle.fleet_text.proofs.Lines.{AllByRecursion-push, map-push}

-- These pieces, each with the byte after it, and then the rest.
abbrev after_cuts : ℕ → List (List ℕ) → List ℕ → List ℕ
after_cuts c [] rest = rest
after_cuts c (piece ∷ pieces) rest = piece ++ c ∷ after_cuts c pieces rest

cut_after : (c : ℕ) (pieces : List (List ℕ)) (piece rest : List ℕ) → after_cuts c pieces (piece ++ c ∷ rest) ≡ after_cuts c (pieces ++ piece ∷ []) rest
cut_after c [] piece rest = refl
cut_after c (p ∷ pieces) piece rest = ap (λ l. p ++ c ∷ l) (cut_after c pieces piece rest)

joined_after : (c : ℕ) (pieces : List (List ℕ)) (rest : List ℕ) → after_cuts c pieces rest ≡ join_with_byte c (pieces ++ rest ∷ [])
joined_after c [] rest = refl
joined_after c (p ∷ []) rest = refl
joined_after c (p ∷ q ∷ pieces) rest = ap (λ l. p ++ c ∷ l) (joined_after c (q ∷ pieces) rest)

-- ---- the fields of a row

-- The text begins with these fields, none of which has a colon, and goes on with the rest.
pub record IsCut (text : List ℕ) (fields : List (List ℕ)) (rest : List ℕ) : Type 0 where
  pub lack : AllByRecursion (Lacks 58) fields
  pub is : text ≡ after_cuts 58 fields rest

pub cut_first : {text : List ℕ} (field rest : List ℕ) → All (λ b. b ≢ 58) field × (text ≡ field ++ 58 ∷ rest) → IsCut text (field ∷ []) rest
cut_first field rest h = record { lack = (lacks_all 58 field h.0, tt); is = h.1 }

pub cut_next : {text all : List ℕ} {fields : List (List ℕ)} (field rest : List ℕ) → IsCut text fields all → All (λ b. b ≢ 58) field × (all ≡ field ++ 58 ∷ rest) → IsCut text (fields ++ field ∷ []) rest
cut_next {fields = fields} field rest cut h = record {
  lack = AllByRecursion-push (Lacks 58) fields field cut.lack (lacks_all 58 field h.0);
  is = cut.is ∙ ap (after_cuts 58 fields) h.1 ∙ cut_after 58 fields field rest;
}

-- More words than fields cannot be the text of the fields and a rest without a colon.
too_few : (fields : List (List ℕ)) (rest : List ℕ) (words : List (List ℕ)) → AllByRecursion (Lacks 58) fields → Lacks 58 rest → AllByRecursion (Lacks 58) words
    → suc (length fields) < length words → after_cuts 58 fields rest ≢ join_with_byte 58 words
too_few [] rest [] lack last lacks less e = omega (arith, less)
too_few [] rest (w ∷ []) lack last lacks less e = omega (arith, less)
too_few [] rest (w ∷ v ∷ words) lack last lacks less e = no_front 58 rest w _ last e
too_few (f ∷ fields) rest [] lack last lacks less e = omega (arith, less)
too_few (f ∷ fields) rest (w ∷ []) lack last lacks less e = omega (arith, less)
too_few (f ∷ fields) rest (w ∷ v ∷ words) lack last lacks less e =
    too_few fields rest (v ∷ words) lack.1 last lacks.1 (omega (arith, less)) (same_front 58 f _ w _ lack.0 lacks.0 e).1

-- As many words as fields with the rest are these.
same_many : (fields : List (List ℕ)) (rest : List ℕ) (words : List (List ℕ)) → AllByRecursion (Lacks 58) fields → AllByRecursion (Lacks 58) words
    → length words ≡ suc (length fields) → after_cuts 58 fields rest ≡ join_with_byte 58 words → fields ++ rest ∷ [] ≡ words
same_many [] rest [] lack lacks many e = absurd (omega (arith, many))
same_many [] rest (w ∷ []) lack lacks many e = ap (λ x. x ∷ []) e
same_many [] rest (w ∷ v ∷ words) lack lacks many e = absurd (omega (arith, many))
same_many (f ∷ fields) rest [] lack lacks many e = absurd (omega (arith, many))
same_many (f ∷ fields) rest (w ∷ []) lack lacks many e = absurd (omega (arith, many))
same_many (f ∷ fields) rest (w ∷ v ∷ words) lack lacks many e =
    let front = same_front 58 f _ w _ lack.0 lacks.0 e in
    ap (λ x. x ∷ (fields ++ rest ∷ [])) front.0 ∙ ap (λ xs. w ∷ xs) (same_many fields rest (v ∷ words) lack.1 lacks.1 (omega (arith, many)) front.1)

-- A text with fewer fields is no row.
pub no_row : {text rest : List ℕ} {fields : List (List ℕ)} → IsCut text fields rest → All (λ b. b ≢ 58) rest → length fields < 5 → (r : Row) → IsRow r → text ≢ row_text r
no_row {rest = rest} {fields = fields} cut last few r fits e =
    too_few fields rest (row_words r) cut.lack (lacks_all 58 rest last) (row_words_lack r fits) (omega (arith, few)) (sym cut.is ∙ e)

-- Nor is a text without a colon.
pub no_fields : {text : List ℕ} → All (λ b. b ≢ 58) text → (r : Row) → IsRow r → text ≢ row_text r
no_fields {text = text} last = no_row {fields = []} (record { lack = tt; is = refl }) last (omega arith)

-- What is read of five fields and the rest is read of the text.
read_of_fields : (text rest : List ℕ) (fields : List (List ℕ)) → IsCut text fields rest → length fields ≡ 5 → (o : Option RowEntry) → ReadsAs row_of row_words IsRow (fields ++ rest ∷ []) o → ReadsAs row_of row_text IsRow text o
read_of_fields text rest fields cut five (Some row) h = (h.0, cut.is ∙ joined_after 58 fields rest ∙ ap (join_with_byte 58) h.1)
read_of_fields text rest fields cut five None h = λ r fits e.
    h r fits (same_many fields rest (row_words r) cut.lack (row_words_lack r fits) (ap suc (sym five)) (sym cut.is ∙ e))

pub row_of_fields : {E : Type 0} {text rest : List ℕ} {fields : List (List ℕ)} (result : Result (Option RowEntry) E) → IsCut text fields rest → length fields ≡ 5
    → IfOk result (ReadsAs row_of row_words IsRow (fields ++ rest ∷ [])) → IfOk result (ReadsAs row_of row_text IsRow text)
row_of_fields {text = text} {rest = rest} {fields = fields} result cut five read =
    IfOk-weaker result (ReadsAs row_of row_words IsRow (fields ++ rest ∷ [])) (ReadsAs row_of row_text IsRow text) (read_of_fields text rest fields cut five) read

-- ---- the rows of a flush

-- The word begins with these rows, each with a comma after it, and goes on with the rest.
pub record ReadsRows (word : List ℕ) (rows : List RowEntry) (rest : List ℕ) : Type 0 where
  pub each : AllByRecursion IsRow (rows_of rows)
  pub whole : word ≡ after_cuts 44 (map row_text (rows_of rows)) rest

pub rows_none : (word : List ℕ) → ReadsRows word [] word
rows_none word = record { each = tt; whole = refl }

texts_push : (rows : List RowEntry) (row : RowEntry) → map row_text (rows_of (rows ++ row ∷ [])) ≡ map row_text (rows_of rows) ++ row_text (row_of row) ∷ []
texts_push rows row = ap (map row_text) (map-push row_of rows row) ∙ map-push row_text (rows_of rows) (row_of row)

pub rows_more : {word rest : List ℕ} {rows : List RowEntry} (row : RowEntry) (front after : List ℕ) → ReadsRows word rows rest → rest ≡ front ++ 44 ∷ after → IsRow (row_of row) × (front ≡ row_text (row_of row))
    → ReadsRows word (rows ++ row ∷ []) after
rows_more {rows = rows} row front after r cut read = record {
  each = subst (AllByRecursion IsRow) (sym (map-push row_of rows row)) (AllByRecursion-push IsRow (rows_of rows) (row_of row) r.each read.0);
  whole = r.whole ∙ ap (after_cuts 44 (map row_text (rows_of rows))) (cut ∙ ap (λ l. l ++ 44 ∷ after) read.1)
      ∙ cut_after 44 (map row_text (rows_of rows)) (row_text (row_of row)) after ∙ ap (λ texts. after_cuts 44 texts after) (sym (texts_push rows row));
}

are_rows : (rows : List Row) → AllByRecursion IsRow rows → AreRows rows
are_rows [] h = tt
are_rows (r ∷ rows) h = (h.0, are_rows rows h.1)

some_rows : (rows : List RowEntry) (row : RowEntry) → 0 < length (rows_of (rows ++ row ∷ []))
some_rows [] row = omega arith
some_rows (r ∷ rows) row = omega arith

joined_rows : (rows : List Row) → 0 < length rows → join_with_byte 44 (map row_text rows) ≡ rows_text rows
joined_rows [] some = absurd (omega (arith, some))
joined_rows (r ∷ rows) some = refl

pub rows_all : {word rest : List ℕ} {rows : List RowEntry} (row : RowEntry) → ReadsRows word rows rest → IsRow (row_of row) × (rest ≡ row_text (row_of row))
    → AreSomeRows (rows_of (rows ++ row ∷ [])) × (word ≡ rows_text (rows_of (rows ++ row ∷ [])))
rows_all {rows = rows} row r read = (
  (some_rows rows row, are_rows _ (subst (AllByRecursion IsRow) (sym (map-push row_of rows row)) (AllByRecursion-push IsRow (rows_of rows) (row_of row) r.each read.0))),
  r.whole ∙ ap (after_cuts 44 (map row_text (rows_of rows))) read.1 ∙ joined_after 44 (map row_text (rows_of rows)) (row_text (row_of row)) ∙ ap (join_with_byte 44) (sym (texts_push rows row))
      ∙ joined_rows (rows_of (rows ++ row ∷ [])) (some_rows rows row),
)

-- A piece that is no row is not among the rows of a word.
not_next : (before : List Row) (front after : List ℕ) (ms : List Row) → AllByRecursion IsRow before → Lacks 44 front → AllByRecursion IsRow ms → ((m : Row) → IsRow m → front ≢ row_text m)
    → after_cuts 44 (map row_text before) (front ++ 44 ∷ after) ≢ join_with_byte 44 (map row_text ms)
not_next [] front after [] all lack fits none e = not_nothing 44 front after e
not_next [] front after (m ∷ []) all lack fits none e = no_front 44 (row_text m) front after (row_lacks m fits.0) (sym e)
not_next [] front after (m ∷ n ∷ ms) all lack fits none e = none m fits.0 (same_front 44 front after (row_text m) _ lack (row_lacks m fits.0) e).0
not_next (r ∷ before) front after [] all lack fits none e = not_nothing 44 (row_text r) _ e
not_next (r ∷ before) front after (m ∷ []) all lack fits none e = no_front 44 (row_text m) (row_text r) _ (row_lacks m fits.0) (sym e)
not_next (r ∷ before) front after (m ∷ n ∷ ms) all lack fits none e =
    not_next before front after (n ∷ ms) all.1 lack fits.1 none (same_front 44 (row_text r) _ (row_text m) _ (row_lacks r all.0) (row_lacks m fits.0) e).1

pub bad_front : {word rest : List ℕ} {rows : List RowEntry} (front after : List ℕ) → ReadsRows word rows rest → All (λ b. b ≢ 44) front × (rest ≡ front ++ 44 ∷ after) → ((m : Row) → IsRow m → front ≢ row_text m)
    → (ms : List Row) → AreSomeRows ms → word ≢ rows_text ms
bad_front {rows = rows} front after r cut none ms fits e =
    not_next (rows_of rows) front after ms r.each (lacks_all 44 front cut.0) (each_row ms fits.1) none (ap (after_cuts 44 (map row_text (rows_of rows))) (sym cut.1) ∙ sym r.whole ∙ e ∙ sym (joined_rows ms fits.0))

-- Nor is a last piece.
not_last : (before : List Row) (rest : List ℕ) (m : Row) (ms : List Row) → AllByRecursion IsRow before → Lacks 44 rest → AllByRecursion IsRow (m ∷ ms) → ((m : Row) → IsRow m → rest ≢ row_text m)
    → after_cuts 44 (map row_text before) rest ≢ join_with_byte 44 (map row_text (m ∷ ms))
not_last [] rest m [] all lack fits none e = none m fits.0 e
not_last [] rest m (n ∷ ms) all lack fits none e = no_front 44 rest (row_text m) _ lack e
not_last (r ∷ before) rest m [] all lack fits none e = no_front 44 (row_text m) (row_text r) _ (row_lacks m fits.0) (sym e)
not_last (r ∷ before) rest m (n ∷ ms) all lack fits none e =
    not_last before rest n ms all.1 lack fits.1 none (same_front 44 (row_text r) _ (row_text m) _ (row_lacks r all.0) (row_lacks m fits.0) e).1

pub bad_rest : {word rest : List ℕ} {rows : List RowEntry} → ReadsRows word rows rest → All (λ b. b ≢ 44) rest → ((m : Row) → IsRow m → rest ≢ row_text m) → (ms : List Row) → AreSomeRows ms → word ≢ rows_text ms
bad_rest r lack none [] fits e = let some = fits.0 in omega (arith, some)
bad_rest {rest = rest} {rows = rows} r lack none (m ∷ ms) fits e =
    not_last (rows_of rows) rest m ms r.each (lacks_all 44 rest lack) (each_row (m ∷ ms) fits.1) none (sym r.whole ∙ e)
