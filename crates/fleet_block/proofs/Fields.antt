-- The parts in which a row is written and read.
use Rattle.std.proofs.Common.{◌≡◌, refl, sym, ◌∙◌, ap, ℕ, ◌+◌, ◌%◌, ◌/◌, ℤ, List, [], ◌∷◌, ◌++◌}
use Rattle.std.specs.Prelude.{◌==◌, Option, Some, None, is_some}
use Rattle.std.specs.Int.{w64, to_be_bytes}
use Rattle.std.proofs.lemmas.List.{append_assoc}
use Rattle.row_model.specs.Rows.{Row, Content, Value, Merge, Tombstone}
use Rattle.row_model.specs.Written.TableBytes.{content_bytes, content_flag, fields_bytes, key_bytes, row_bytes, row_flags, shared_len, stamp_bytes, stamp_flag}

-- ---- flags

-- The flags of a row tell whether it has a time of creation.
created_flag : (x : Content) (created expires : Option ℤ) → is_some created ≡ ((content_flag x + stamp_flag 4 created + stamp_flag 8 expires) / 4 % 2 == 1)
created_flag (Value bytes) None None = refl
created_flag (Value bytes) None (Some e) = refl
created_flag (Value bytes) (Some s) None = refl
created_flag (Value bytes) (Some s) (Some e) = refl
created_flag (Merge bytes) None None = refl
created_flag (Merge bytes) None (Some e) = refl
created_flag (Merge bytes) (Some s) None = refl
created_flag (Merge bytes) (Some s) (Some e) = refl
created_flag Tombstone None None = refl
created_flag Tombstone None (Some e) = refl
created_flag Tombstone (Some s) None = refl
created_flag Tombstone (Some s) (Some e) = refl

-- The flags of a row tell whether it has an expiry.
expires_flag : (x : Content) (created expires : Option ℤ) → is_some expires ≡ ((content_flag x + stamp_flag 4 created + stamp_flag 8 expires) / 8 % 2 == 1)
expires_flag (Value bytes) None None = refl
expires_flag (Value bytes) None (Some e) = refl
expires_flag (Value bytes) (Some s) None = refl
expires_flag (Value bytes) (Some s) (Some e) = refl
expires_flag (Merge bytes) None None = refl
expires_flag (Merge bytes) None (Some e) = refl
expires_flag (Merge bytes) (Some s) None = refl
expires_flag (Merge bytes) (Some s) (Some e) = refl
expires_flag Tombstone None None = refl
expires_flag Tombstone None (Some e) = refl
expires_flag Tombstone (Some s) None = refl
expires_flag Tombstone (Some s) (Some e) = refl

-- The flags of a row tell the kind of its content.
kind_flag : (x : Content) (created expires : Option ℤ) → (content_flag x + stamp_flag 4 created + stamp_flag 8 expires) % 4 ≡ content_flag x
kind_flag (Value bytes) None None = refl
kind_flag (Value bytes) None (Some e) = refl
kind_flag (Value bytes) (Some s) None = refl
kind_flag (Value bytes) (Some s) (Some e) = refl
kind_flag (Merge bytes) None None = refl
kind_flag (Merge bytes) None (Some e) = refl
kind_flag (Merge bytes) (Some s) None = refl
kind_flag (Merge bytes) (Some s) (Some e) = refl
kind_flag Tombstone None None = refl
kind_flag Tombstone None (Some e) = refl
kind_flag Tombstone (Some s) None = refl
kind_flag Tombstone (Some s) (Some e) = refl

pub created_there : (r : Row) (flags : ℕ) → flags ≡ row_flags r → is_some r.created ≡ (flags / 4 % 2 == 1)
created_there r flags is = created_flag r.content r.created r.expires ∙ ap (λ n. n / 4 % 2 == 1) (sym is)

pub expires_there : (r : Row) (flags : ℕ) → flags ≡ row_flags r → is_some r.expires ≡ (flags / 8 % 2 == 1)
expires_there r flags is = expires_flag r.content r.created r.expires ∙ ap (λ n. n / 8 % 2 == 1) (sym is)

pub kind_told : (r : Row) (flags : ℕ) → flags ≡ row_flags r → flags % 4 ≡ content_flag r.content
kind_told r flags is = ap (λ n. n % 4) is ∙ kind_flag r.content r.created r.expires

-- ---- parts

-- What follows each part of a row.
abbrev pub after_expires : Row → List ℕ → List ℕ
after_expires r others = content_bytes r.content ++ others

abbrev pub after_created : Row → List ℕ → List ℕ
after_created r others = stamp_bytes r.expires ++ after_expires r others

abbrev pub after_flags : Row → List ℕ → List ℕ
after_flags r others = stamp_bytes r.created ++ after_created r others

abbrev pub after_seq : Row → List ℕ → List ℕ
after_seq r others = row_flags r ∷ after_flags r others

abbrev pub after_key : Row → List ℕ → List ℕ
after_key r others = to_be_bytes w64 r.seq ++ after_seq r others

four_parts : (head created expires content others : List ℕ) → (head ++ created ++ expires ++ content) ++ others ≡ head ++ (created ++ (expires ++ (content ++ others)))
four_parts head created expires content others =
    append_assoc (head ++ created ++ expires) content others
    ∙ append_assoc (head ++ created) expires (content ++ others)
    ∙ append_assoc head created (expires ++ (content ++ others))

pub row_parts : (first : List ℕ) (r : Row) (others : List ℕ) → row_bytes first r ++ others ≡ key_bytes (shared_len first r.key) r.key ++ after_key r others
row_parts first r others =
    append_assoc (key_bytes (shared_len first r.key) r.key) (fields_bytes r) others
    ∙ ap (λ xs. key_bytes (shared_len first r.key) r.key ++ xs) (four_parts (to_be_bytes w64 r.seq ++ row_flags r ∷ []) (stamp_bytes r.created) (stamp_bytes r.expires) (content_bytes r.content) others)

pub fields_parts : (r : Row) (others : List ℕ) → fields_bytes r ++ others ≡ after_key r others
fields_parts r others = four_parts (to_be_bytes w64 r.seq ++ row_flags r ∷ []) (stamp_bytes r.created) (stamp_bytes r.expires) (content_bytes r.content) others
