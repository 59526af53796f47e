-- What one more row of a key does to the base and the operands that a read finds.
use Rattle.std.proofs.Common.{◌≡◌, refl, sym, ◌∙◌, ap, ℕ, ℤ, List, [], ◌∷◌, ◌++◌, cond, Bool, true, false, Option, append-nil}
use Rattle.std.specs.Prelude.{nat_le, reverse}
use Rattle.std.proofs.lemmas.List.{append_assoc, reverse-append}
use Rattle.row_model.specs.Rows.{Row, Content, Value, Merge, Tombstone, is_reached, is_expired}
use Rattle.row_model.specs.Read.{base, base_or, operands, with_operand, seen_at}
use Rattle.fleet_scan.specs.KeyRows.{base_over, operands_under, ground_of, parts_with, IsBegun, Adds, Takes}
use Rattle.fleet_scan.specs.declared.key_rows.Ground.{Ground}
use Rattle.fleet_scan.specs.declared.key_rows.Ground.TheVariants as ground
use Rattle.fleet_scan.specs.declared.key_rows.KeyRows.{KeyRows}
use Rattle.fleet_scan.specs.declared.key_rows.ReadPoint.{ReadPoint}

-- What a read finds in rows taken, over later rows that it sees.
abbrev over : ℤ → Ground → List (List ℕ) → List Row → Option (List ℕ) × List (List ℕ)
over moment g xs seen = (base_over g (base moment seen), operands_under g (operands moment seen) ++ reverse xs)

unseen : (seq : ℕ) (r : Row) (later : List Row) → nat_le r.seq seq ≡ false → seen_at seq (r ∷ later) ≡ seen_at seq later
unseen seq r later above = ap (λ b. cond b (r ∷ seen_at seq later) (seen_at seq later)) above

seen : (seq : ℕ) (r : Row) (later : List Row) → nat_le r.seq seq ≡ true → seen_at seq (r ∷ later) ≡ r ∷ seen_at seq later
seen seq r later within = ap (λ b. cond b (r ∷ seen_at seq later) (seen_at seq later)) within

closed : (moment : ℤ) (g : Ground) (xs : List (List ℕ)) (rows others : List Row) → (g ≡ ground.Older → ⊥) → over moment g xs rows ≡ over moment g xs others
closed moment ground.Older xs rows others hides = absurd (hides refl)
closed moment (ground.Value bytes) xs rows others hides = refl
closed moment ground.Nothing xs rows others hides = refl

reverse-snoc : (xs : List (List ℕ)) (x : List ℕ) → reverse (xs ++ x ∷ []) ≡ x ∷ reverse xs
reverse-snoc xs x = reverse-append xs (x ∷ [])

-- The parts of a row on top of older rows, by the row's content and expiry.
abbrev on_top : ℤ → Content → Bool → List (List ℕ) → List Row → Option (List ℕ) × List (List ℕ)
on_top moment content expired xs rows = (base_or content expired (base moment rows), with_operand content expired (operands moment rows) ++ reverse xs)

module _ (point : ReadPoint) (old new : KeyRows) (content : Content) (seq : ℕ) (expires : Option ℤ) where
  -- A row above the sequence of the read changes nothing.
  pub takes_unseen : nat_le seq point.seq ≡ false → new ≡ old → Takes point old content seq expires new
  takes_unseen above same = record {
    key = ap (λ (k : KeyRows). k.key) same;
    parts = λ r c s e later. ap (λ (k : KeyRows). parts_with point k later) same
        ∙ sym (ap (over point.moment old.ground old.operands.items) (unseen point.seq r later (ap (λ n. nat_le n point.seq) s ∙ above)));
  }

  -- A row under a value or a tombstone changes nothing.
  pub takes_hidden : (old.ground ≡ ground.Older → ⊥) → new ≡ old → Takes point old content seq expires new
  takes_hidden hides same = record {
    key = ap (λ (k : KeyRows). k.key) same;
    parts = λ r c s e later. ap (λ (k : KeyRows). parts_with point k later) same
        ∙ closed point.moment old.ground old.operands.items (seen_at point.seq later) (seen_at point.seq (r ∷ later)) hides;
  }

  module _ (open_ : old.ground ≡ ground.Older) (within : nat_le seq point.seq ≡ true) where
    -- The parts that a row of this content leaves, if the read sees it and no row hides it.
    tops : (expired : Bool) → is_reached expires point.moment ≡ expired → (r : Row) → r.content ≡ content → r.seq ≡ seq → r.expires ≡ expires → (later : List Row)
        → parts_with point old (r ∷ later) ≡ on_top point.moment content expired old.operands.items (seen_at point.seq later)
    tops expired is r c s e later =
        ap (over point.moment old.ground old.operands.items) (seen point.seq r later (ap (λ n. nat_le n point.seq) s ∙ within))
        ∙ ap (λ g. over point.moment g old.operands.items (r ∷ seen_at point.seq later)) open_
        ∙ ap (λ k. on_top point.moment k (is_expired r point.moment) old.operands.items (seen_at point.seq later)) c
        ∙ ap (λ b. on_top point.moment content b old.operands.items (seen_at point.seq later)) (ap (λ stamp. is_reached stamp point.moment) e ∙ is)

    pub takes_expired : (bytes : List ℕ) → content ≡ Merge bytes → is_reached expires point.moment ≡ true → new ≡ old → Takes point old content seq expires new
    takes_expired bytes is expired same = record {
      key = ap (λ (k : KeyRows). k.key) same;
      parts = λ r c s e later. ap (λ (k : KeyRows). parts_with point k later) same
          ∙ ap (λ g. over point.moment g old.operands.items (seen_at point.seq later)) open_
          ∙ sym (tops true expired r c s e later ∙ ap (λ k. on_top point.moment k true old.operands.items (seen_at point.seq later)) is);
    }

    pub takes_operand : (bytes : List ℕ) → content ≡ Merge bytes → is_reached expires point.moment ≡ false → new.key ≡ old.key → new.ground ≡ old.ground
        → new.operands.items ≡ old.operands.items ++ bytes ∷ [] → Takes point old content seq expires new
    takes_operand bytes is live key same more = record {
      key = key;
      parts = λ r c s e later.
          let rows = seen_at point.seq later in
          ap (λ g. over point.moment g new.operands.items rows) (same ∙ open_)
          ∙ ap (λ xs. (base point.moment rows, operands point.moment rows ++ xs)) (ap reverse more ∙ reverse-snoc old.operands.items bytes)
          ∙ ap (λ xs. (base point.moment rows, xs)) (sym (append_assoc (operands point.moment rows) (bytes ∷ []) (reverse old.operands.items)))
          ∙ sym (tops false live r c s e later ∙ ap (λ k. on_top point.moment k false old.operands.items rows) is);
    }

    pub takes_value : (bytes : List ℕ) (expired : Bool) → content ≡ Value bytes → is_reached expires point.moment ≡ expired → new.key ≡ old.key → new.ground ≡ ground_of bytes expired
        → new.operands.items ≡ old.operands.items → Takes point old content seq expires new
    takes_value bytes expired is reached key now same = record {
      key = key;
      parts = λ r c s e later.
          let rows = seen_at point.seq later in
          ap (λ g. over point.moment g new.operands.items rows) now
          ∙ ap (λ xs. over point.moment (ground_of bytes expired) xs rows) same
          ∙ by expired rows
          ∙ sym (tops expired reached r c s e later ∙ ap (λ k. on_top point.moment k expired old.operands.items rows) is);
    }
      where
        by : (b : Bool) (rows : List Row) → over point.moment (ground_of bytes b) old.operands.items rows ≡ on_top point.moment (Value bytes) b old.operands.items rows
        by true rows = refl
        by false rows = refl

    pub takes_tombstone : content ≡ Tombstone → new.key ≡ old.key → new.ground ≡ ground.Nothing → new.operands.items ≡ old.operands.items → Takes point old content seq expires new
    takes_tombstone is key now same = record {
      key = key;
      parts = λ r c s e later.
          let rows = seen_at point.seq later in
          ap (λ g. over point.moment g new.operands.items rows) now
          ∙ ap (λ xs. over point.moment ground.Nothing xs rows) same
          ∙ sym (tops (is_reached expires point.moment) refl r c s e later ∙ ap (λ k. on_top point.moment k (is_reached expires point.moment) old.operands.items rows) is);
    }

-- A row of the key is taken by its content, sequence and expiry.
pub adds : (point : ReadPoint) (old new : KeyRows) (r : Row) → Takes point old r.content r.seq r.expires new → Adds point old r new
adds point old new r h = record { key = h.key; parts = λ later. h.parts r refl refl refl later }

-- The first row of a key is taken by rows of the key that are empty.
pub begins : (point : ReadPoint) (fresh taken : KeyRows) (r : Row) → fresh.key ≡ r.key → fresh.ground ≡ ground.Older → fresh.operands.items ≡ [] → Takes point fresh r.content r.seq r.expires taken → IsBegun point r taken
begins point fresh taken r key older none h = record {
  key = h.key ∙ key;
  parts = λ later.
      let rows = seen_at point.seq (r ∷ later) in
      h.parts r refl refl refl later
      ∙ ap (λ g. over point.moment g fresh.operands.items rows) older
      ∙ ap (λ xs. over point.moment ground.Older xs rows) none
      ∙ ap (λ xs. (base point.moment rows, xs)) (append-nil (operands point.moment rows));
}
