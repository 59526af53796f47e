-- What it means to read a text.
use Rattle.std.specs.Prelude.{◌≡◌, ◌≢◌, ℕ, ◌<◌, ◌≤◌, ◌^◌, List, [], ◌∷◌, length, Option, Some, None, decimal, ⊤}
use Rattle.std.specs.List.{join_with_byte}
use Rattle.row_model.specs.Rows.{Row, Content}
use Rattle.row_model.specs.Bounds.{AreBytes, AreRows}
use Rattle.script_model.specs.Words.{bytes_text, kind_text, content_text, stamp_text}
use Rattle.script_model.specs.Script.{Line, words}

-- The result of reading a text: a value that fits and is spelt as this text, or None if no value
-- that fits is spelt so.
abbrev pub Reads : {A B : Type 0} → (spelling : A → B) (Fits : A → Type 0) (text : B) (found : Option A) → Type 0
Reads spelling Fits text (Some x) = Fits x × (text ≡ spelling x)
Reads spelling Fits text None = (x : _) → Fits x → text ≢ spelling x

-- The result of reading a text as a value of the program. Its view in the model fits and is spelt
-- as this text. The result is None if no model value that fits is spelt so.
abbrev pub ReadsAs : {A M B : Type 0} → (view : A → M) (spelling : M → B) (Fits : M → Type 0) (text : B)
    (found : Option A) → Type 0
ReadsAs view spelling Fits text (Some x) = Fits (view x) × (text ≡ spelling (view x))
ReadsAs view spelling Fits text None = (m : _) → Fits m → text ≢ spelling m

-- Every value fits.
abbrev pub IsAny : {A : Type 0} → A → Type 0
IsAny x = ⊤

-- A number from `least` to `greatest`.
abbrev pub IsBetween : (least greatest : ℕ) → ℕ → Type 0
IsBetween least greatest n = (least ≤ n) × (n ≤ greatest)

abbrev pub IsValue : List ℕ → Type 0
IsValue bytes = AreBytes bytes × (length bytes < 2 ^ 32)

abbrev pub content_words : Content → List (List ℕ)
content_words content = kind_text content ∷ content_text content ∷ []

abbrev pub row_words : Row → List (List ℕ)
row_words r = bytes_text r.key ∷ kind_text r.content ∷ content_text r.content ∷ decimal r.seq
    ∷ stamp_text r.created ∷ stamp_text r.expires ∷ []

-- The rows of a flush: at least one, each in bounds.
abbrev pub AreSomeRows : List Row → Type 0
AreSomeRows rows = (0 < length rows) × AreRows rows

-- The text of a line without its newline.
abbrev pub line_text : Line → List ℕ
line_text line = join_with_byte 32 (words line)
