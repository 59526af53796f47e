-- The newest row of a key up to a sequence is the first row for which `is_before` is false, if it has the
-- key.
use Rattle.std.proofs.Common.{◌≡◌, ◌≢◌, refl, sym, ◌∙◌, ap, subst, ℕ, suc, ◌+◌, List, [], ◌∷◌, cond, Bool, true, false, Option, Some, None, arith}
use Rattle.std.specs.Prelude.{bytes_eq, if◌then◌else◌, nat_le, slice_get}
use Rattle.std.specs.List.{AllByRecursion, prefix_len}
use Rattle.std.specs.List.Sorted.{IsStrictlySortedBy}
use Rattle.std.specs.declared.cmp.Ordering.{Ordering}
use Rattle.std.specs.declared.cmp.Ordering.TheVariants.{Less, Equal, Greater}
use Rattle.std.specs.Ordering.{is_gt, is_le, is_lt, ordering_reverse, ordering_then, nat_cmp}
use Rattle.std.proofs.lemmas.Slice.Eq.{bytes_eq-Decides}
use Rattle.row_model.specs.Read.{seen_at}
use Rattle.row_model.specs.Rows.{Row, key_cmp, row_cmp, rows_of_key, IsStrictlyOrdered}
use Rattle.std.proofs.lemmas.Cmp.{nat_list_cmp_total}
use Rattle.row_laws.proofs.ApartRows.{false_or, lt_is}
use Rattle.row_laws.proofs.KeyRows.{exact, key_alike, of_key-others, IsOther, Keys}
use Rattle.fleet_model.specs.Trees.{first_key, last_key}
use Rattle.fleet_table.specs.Cursors.{is_before_spot}
use Rattle.fleet_table.specs.Order.{is_before}
use Rattle.fleet_table.specs.declared.cursor.Ties.TheVariants.{Newer}
use Rattle.fleet_table.proofs.LastRow.{up_to_last}
use Rattle.fleet_table.proofs.Spots.{newer_is, prefix_same}

-- The row, if it has this key.
abbrev pub if_of_key : List ℕ → Option Row → Option Row
if_of_key key None = None
if_of_key key (Some r) = if bytes_eq key r.key then Some r else None

abbrev pub newest : List ℕ → ℕ → List Row → Option Row
newest key seq rows = slice_get (seen_at seq (rows_of_key key rows)) 0

other : (key : List ℕ) (r : Row) (o : Ordering) → key_cmp r.key key ≡ o → (o ≡ Equal → ⊥) → bytes_eq key r.key ≡ false
other key r o is apart = false_or (bytes_eq key r.key) (λ same.
    let alike = ap (λ k. key_cmp k key) (sym ((bytes_eq-Decides key r.key).0 same)) ∙ key_alike key in
    apart (sym is ∙ alike))

-- No row of the key comes after a row of a greater key.
others_after : (key : List ℕ) (r : Row) (rows : List Row) → key_cmp r.key key ≡ Greater → AllByRecursion (λ q. row_cmp r q ≡ Less) rows → Keys (IsOther key) rows
others_after key r [] high after = tt
others_after key r (q ∷ rows) high after = (
  false_or (bytes_eq key q.key) (λ same.
      let alike : key ≡ q.key = (bytes_eq-Decides key q.key).0 same in
      let greater = ap (λ o. ordering_then o (nat_cmp q.seq r.seq)) (ap (key_cmp r.key) (sym alike) ∙ high) in
      let clash : Greater ≡ Less = sym greater ∙ after.0 in cc clash),
  others_after key r rows high after.1,
)

next : (r : Row) (rows : List Row) (n : ℕ) → slice_get (r ∷ rows) (1 + n) ≡ slice_get rows n
next r rows n =
    let e : 1 + n ≡ suc n = omega arith in
    ap (slice_get (r ∷ rows)) e

newer_unseen : (s t : ℕ) → nat_cmp s t ≡ Less → nat_le t s ≡ false
newer_unseen s t h = grind arith

older_seen : (s t : ℕ) (o : Ordering) → nat_cmp s t ≡ o → (o ≡ Less → ⊥) → nat_le t s ≡ true
older_seen s t o h apart = grind arith

-- One row is put before `rows`. If the result for `rows` is right, so is the result for all of them.
module _ (key : List ℕ) (seq : ℕ) (r : Row) (rows : List Row) (rest : newest key seq rows ≡ if_of_key key (slice_get rows (prefix_len (is_before key seq) rows))) where
  abbrev stepped : Bool → Bool → Bool → Type 0
  stepped that seen before =
      slice_get (cond that (cond seen (r ∷ seen_at seq (rows_of_key key rows)) (seen_at seq (rows_of_key key rows))) (seen_at seq (rows_of_key key rows))) 0
      ≡ if_of_key key (slice_get (r ∷ rows) (cond before (1 + prefix_len (is_before key seq) rows) 0))

  skipped : newest key seq rows ≡ if_of_key key (slice_get (r ∷ rows) (1 + prefix_len (is_before key seq) rows))
  skipped = rest ∙ sym (ap (if_of_key key) (next r rows (prefix_len (is_before key seq) rows)))

  none_after : rows_of_key key rows ≡ [] → bytes_eq key r.key ≡ false → newest key seq rows ≡ if_of_key key (Some r)
  none_after empty apart = ap (λ rs. slice_get (seen_at seq rs) 0) empty ∙ sym (ap (λ b. cond b (Some r) None) apart)

  by_seq : (o : Ordering) → nat_cmp seq r.seq ≡ o → bytes_eq key r.key ≡ true → stepped true (nat_le r.seq seq) (is_lt o)
  by_seq Less e same = ap (λ b. slice_get (cond b (r ∷ seen_at seq (rows_of_key key rows)) (seen_at seq (rows_of_key key rows))) 0) (newer_unseen seq r.seq e) ∙ skipped
  by_seq Equal e same =
      ap (λ b. slice_get (cond b (r ∷ seen_at seq (rows_of_key key rows)) (seen_at seq (rows_of_key key rows))) 0) (older_seen seq r.seq Equal e (λ h. cc h))
      ∙ sym (ap (λ b. cond b (Some r) None) same)
  by_seq Greater e same =
      ap (λ b. slice_get (cond b (r ∷ seen_at seq (rows_of_key key rows)) (seen_at seq (rows_of_key key rows))) 0) (older_seen seq r.seq Greater e (λ h. cc h))
      ∙ sym (ap (λ b. cond b (Some r) None) same)

  by_key : (o : Ordering) → key_cmp r.key key ≡ o → (o ≡ Greater → rows_of_key key rows ≡ []) → stepped (bytes_eq key r.key) (nat_le r.seq seq) (is_lt (ordering_then o (nat_cmp seq r.seq)))
  by_key Less e empty = subst (λ b. stepped b (nat_le r.seq seq) true) (sym (other key r Less e (λ h. cc h))) skipped
  by_key Equal e empty =
      let same : bytes_eq key r.key ≡ true = (bytes_eq-Decides key r.key).1 (sym (exact r.key key e)) in
      subst (λ b. stepped b (nat_le r.seq seq) (is_lt (nat_cmp seq r.seq))) (sym same) (by_seq (nat_cmp seq r.seq) refl same)
  by_key Greater e empty =
      let apart : bytes_eq key r.key ≡ false = other key r Greater e (λ h. cc h) in
      subst (λ b. stepped b (nat_le r.seq seq) false) (sym apart) (none_after (empty refl) apart)

seen_first : (key : List ℕ) (seq : ℕ) (r : Row) (rows : List Row) (that : Bool)
    → seen_at seq (cond that (r ∷ rows_of_key key rows) (rows_of_key key rows))
    ≡ cond that (cond (nat_le r.seq seq) (r ∷ seen_at seq (rows_of_key key rows)) (seen_at seq (rows_of_key key rows))) (seen_at seq (rows_of_key key rows))
seen_first key seq r rows true = refl
seen_first key seq r rows false = refl

pub newest_is : (key : List ℕ) (seq : ℕ) (rows : List Row) → IsStrictlyOrdered rows → newest key seq rows ≡ if_of_key key (slice_get rows (prefix_len (is_before key seq) rows))
unfolding IsStrictlySortedBy
newest_is key seq [] ordered = refl
newest_is key seq (r ∷ rows) ordered =
    ap (λ rs. slice_get rs 0) (seen_first key seq r rows (bytes_eq key r.key))
    ∙ by_key key seq r rows (newest_is key seq rows ordered.1) (key_cmp r.key key) refl
    (λ high. of_key-others key rows (others_after key r rows high ordered.0))

-- The row after the newer rows, if it has the key, is the newest row of the key up to the sequence.
pub newest_found : (key : List ℕ) (seq : ℕ) (rows : List Row) (i : ℕ) (got : Option Row) → IsStrictlyOrdered rows → i ≡ prefix_len (is_before_spot key (Newer seq)) rows → slice_get rows i ≡ got → if_of_key key got ≡ newest key seq rows
newest_found key seq rows i got ordered at is =
    sym (newest_is key seq rows ordered
    ∙ ap (λ n. if_of_key key (slice_get rows n)) (sym (at ∙ prefix_same (is_before_spot key (Newer seq)) (is_before key seq) (newer_is key seq) rows))
    ∙ ap (if_of_key key) is)

-- ---- keys before the first row or after the last one

pub none_before : (key : List ℕ) (rows : List Row) → rows ≢ [] → IsStrictlyOrdered rows → is_lt (key_cmp key (first_key rows)) ≡ true → rows_of_key key rows ≡ []
unfolding IsStrictlySortedBy
none_before key [] some ordered low = refl
none_before key (r ∷ rows) some ordered low =
    let high : key_cmp r.key key ≡ Greater = nat_list_cmp_total.antisymm r.key key ∙ ap ordering_reverse (lt_is (key_cmp key r.key) low) in
    of_key-others key (r ∷ rows) (other key r Greater high (λ h. cc h), others_after key r rows high ordered.0)

clash : (o : Ordering) → is_le o ≡ true → is_gt o ≡ true → ⊥
clash Less h g = cc g
clash Equal h g = cc g
clash Greater h g = cc h

above_all : (key start : List ℕ) (rows : List Row) → IsStrictlyOrdered rows → is_gt (key_cmp key (last_key start rows)) ≡ true → Keys (IsOther key) rows
unfolding IsStrictlySortedBy
above_all key start [] ordered high = tt
above_all key start (r ∷ rows) ordered high = (
  false_or (bytes_eq key r.key) (λ same.
      let alike : key ≡ r.key = (bytes_eq-Decides key r.key).0 same in
      clash (key_cmp key (last_key r.key rows)) (ap (λ k. is_le (key_cmp k (last_key r.key rows))) alike ∙ up_to_last r r.key rows (ap is_le (key_alike r.key)) ordered.0) high),
  above_all key r.key rows ordered.1 high,
)

pub none_after_last : (key : List ℕ) (rows : List Row) → IsStrictlyOrdered rows → is_gt (key_cmp key (last_key [] rows)) ≡ true → rows_of_key key rows ≡ []
none_after_last key rows ordered high = of_key-others key rows (above_all key [] rows ordered high)
