-- What a scan of a range of keys replies.
use Rattle.std.proofs.Common.{◌≡◌, refl, sym, ap, ◌∙◌, ℕ, ℤ, List, [], ◌∷◌, cond, Bool, true, false, Option, Some, None, Result, Ok, Err, IfOk}
use Rattle.std.specs.Prelude.{filter_map, flat_map}
use Rattle.std.specs.declared.ops.Bound.{Bound}
use Rattle.std.proofs.lemmas.Cmp.{nat_list_cmp_total}
use Rattle.row_model.specs.Fold.{Operator}
use Rattle.row_model.specs.Ranges.{Range, is_in_range, rows_in}
use Rattle.row_model.specs.Ranges as model
use Rattle.row_model.specs.Rows.{Row, key_cmp}
use Rattle.row_model.specs.Scans.{key_answer, keys_of, scanned_pairs}
use Rattle.fleet_model.specs.Nodes.{flushed_node_rows, tree_at}
use Rattle.fleet_model.specs.Store.{Store}
use Rattle.fleet_model.specs.TreeScans.{flushed_scan}
use Rattle.fleet_range.specs.Keys.{model_bound, range_of}
use Rattle.fleet_range.specs.Ranges.{Ends, if_non_empty, is_non_empty}
use Rattle.fleet_range.proofs.Membership.{in_model}
use Rattle.fleet_range.proofs.Taken.{in_none}
use Rattle.fleet_read.specs.Pages.{page_shown, scan_answer}
use Rattle.fleet_read.specs.declared.answer.ScanAnswer.{ScanAnswer}
use Rattle.fleet_read.specs.declared.answer.ScanAnswer.TheVariants.{NotRetained, Page}
use Rattle.fleet_text.specs.Pages.{end_of}
use Rattle.fleet_text.specs.declared.report.ScanEnd.{ScanEnd}
use Rattle.script_model.specs.Lines.Looks.{is_not_retained}
use Rattle.script_model.specs.Lines.Scans as lines
use Rattle.script_model.specs.Lines.Scans.{first_page, keys_between, range_end, range_start, scan_reply}
use Rattle.script_model.specs.Replies.{not_retained}
use Rattle.fleet_looks.specs.Looks.{AreAlike, page_read, scan_answer_reply, scan_said}

-- ---- ranges

-- Bounds that leave room make the range of their keys.
pub room_alike : (ends range : Ends (List ℕ)) (made : Option (Ends (List ℕ))) → made ≡ if_non_empty key_cmp ends → made ≡ Some range → AreAlike (range_of range) (range_of ends)
room_alike ends range made is some = by (is_non_empty key_cmp ends) (sym some ∙ is)
  where
    by : (b : Bool) → Some range ≡ cond b (Some ends) None → AreAlike (range_of range) (range_of ends)
    by true e key = let same : range ≡ ends = cc e in ap (λ (w : Ends (List ℕ)). is_in_range (range_of w) key) same
    by false e key = absurd (cc e)

-- Bounds that leave no room have no key between them, as other bounds that leave none.
pub none_alike : (ends other : Ends (List ℕ)) (made : Option (Ends (List ℕ))) → made ≡ if_non_empty key_cmp ends → made ≡ None → is_non_empty key_cmp other ≡ false → AreAlike (range_of other) (range_of ends)
none_alike ends other made is none no_room key =
    in_model other key ∙ in_none nat_list_cmp_total other key no_room ∙ sym (in_model ends key ∙ in_none nat_list_cmp_total ends key (by (is_non_empty key_cmp ends) refl (sym none ∙ is)))
  where
    by : (b : Bool) → is_non_empty key_cmp ends ≡ b → None ≡ cond b (Some ends) None → is_non_empty key_cmp ends ≡ false
    by true e clash = absurd (cc clash)
    by false e none = e

-- The range of the keys between two keys.
pub between_alike : (start end : Bound (List ℕ)) (from to : List ℕ) (range : Range) → model_bound start ≡ range_start from → model_bound end ≡ range_end to → AreAlike range (range_of (start, end)) → AreAlike range (keys_between from to)
between_alike start end from to range starts ends alike key =
    alike key
    ∙ ap (λ (b : model.Bound). is_in_range (record { from = b; to = model_bound end }) key) starts
    ∙ ap (λ (b : model.Bound). is_in_range (record { from = range_start from; to = b }) key) ends

rows_alike : (one other : Range) → AreAlike one other → (rows : List Row) → rows_in one rows ≡ rows_in other rows
rows_alike one other alike [] = refl
rows_alike one other alike (r ∷ rows) =
    ap (λ b. cond b (r ∷ rows_in one rows) (rows_in one rows)) (alike r.key) ∙ ap (λ (w : List Row). cond (is_in_range other r.key) (r ∷ w) w) (rows_alike one other alike rows)

scans_alike : (merge : Operator) (one other : Range) (seq : ℕ) (now : ℤ) → AreAlike one other → (rows : List Row) → scanned_pairs merge one seq now rows ≡ scanned_pairs merge other seq now rows
scans_alike merge one other seq now alike rows = ap (λ (w : List Row). filter_map (key_answer merge seq now rows) (keys_of w)) (rows_alike one other alike rows)

-- ---- replies

-- The page that is printed is the one that was read.
pub page_said : (pairs : List (List ℕ × List ℕ)) (printed : ScanEnd) (end : lines.ScanEnd) (answer : List ℕ) → end_of printed ≡ end → answer ≡ scan_reply (record { pairs = pairs; ends = end_of printed }) → answer ≡ scan_reply (record { pairs = pairs; ends = end })
page_said pairs printed end answer is says = says ∙ ap (λ (e : lines.ScanEnd). scan_reply (record { pairs = pairs; ends = e })) is

page_back : (page : lines.Page) → page_read (page_shown page) ≡ page
page_back page = by page.ends refl
  where
    by : (end : lines.ScanEnd) → page.ends ≡ end → page_read (page_shown (record { pairs = page.pairs; ends = page.ends })) ≡ record { pairs = page.pairs; ends = page.ends }
    by lines.NoneLeft is = ap (λ (e : lines.ScanEnd). page_read (page_shown (record { pairs = page.pairs; ends = e }))) is ∙ ap (λ (e : lines.ScanEnd). record { pairs = page.pairs; ends = e }) (sym is)
    by (lines.RefusedAt key message) is = ap (λ (e : lines.ScanEnd). page_read (page_shown (record { pairs = page.pairs; ends = e }))) is ∙ ap (λ (e : lines.ScanEnd). record { pairs = page.pairs; ends = e }) (sym is)
    by (lines.StopsBefore key) is = ap (λ (e : lines.ScanEnd). page_read (page_shown (record { pairs = page.pairs; ends = e }))) is ∙ ap (λ (e : lines.ScanEnd). record { pairs = page.pairs; ends = e }) (sym is)

module _ (merge : Operator) (store : Store) (segment from to : List ℕ) (seq : ℕ) (now : ℤ) (limit : ℕ) where
  -- The reply to the answer of a scan of a range with the same keys.
  same_said : (range : Range) → AreAlike range (keys_between from to) → scan_answer_reply (scan_answer merge store segment range seq now limit) ≡ scan_said merge store segment from to seq now limit
  same_said range alike = by (is_not_retained store.manifest seq now)
    where
      by : (b : Bool)
          → scan_answer_reply (cond b (NotRetained store.manifest.horizon store.manifest.tick) (Page (page_shown (first_page limit (flushed_scan merge store segment range seq now)))))
          ≡ cond b (not_retained store.manifest.horizon store.manifest.tick) (scan_reply (first_page limit (flushed_scan merge store segment (keys_between from to) seq now)))
      by true = refl
      by false =
          ap scan_reply (page_back (first_page limit (flushed_scan merge store segment range seq now))
          ∙ ap (first_page limit) (scans_alike merge range (keys_between from to) seq now alike (flat_map (flushed_node_rows store.tables) (tree_at segment store.manifest.trees))))

  pub scans_said : {E : Type 0} (range : Range) (got : ScanAnswer) (r : Result (List ℕ) E) → AreAlike range (keys_between from to) → got ≡ scan_answer merge store segment range seq now limit → IfOk r (λ reply. reply ≡ scan_answer_reply got)
      → IfOk r (λ reply. reply ≡ scan_said merge store segment from to seq now limit)
  scans_said range got (Ok reply) alike is said = said ∙ ap scan_answer_reply is ∙ same_said range alike
  scans_said range got (Err e) alike is said = tt

-- The reply is the same to what is scanned as it is seen.
pub scan_seen : (merge : Operator) (seen store : Store) (shown segment first from last to : List ℕ) (seq : ℕ) (moment now : ℤ) (limit : ℕ) (answer : List ℕ) → seen ≡ store → shown ≡ segment → first ≡ from → last ≡ to → moment ≡ now
    → answer ≡ scan_said merge seen shown first last seq moment limit → answer ≡ scan_said merge store segment from to seq now limit
scan_seen merge seen store shown segment first from last to seq moment now limit answer stores segments firsts lasts moments says =
    says
    ∙ ap (λ (s : Store). scan_said merge s shown first last seq moment limit) stores
    ∙ ap (λ (prefix : List ℕ). scan_said merge store prefix first last seq moment limit) segments
    ∙ ap (λ (k : List ℕ). scan_said merge store segment k last seq moment limit) firsts
    ∙ ap (λ (k : List ℕ). scan_said merge store segment from k seq moment limit) lasts
    ∙ ap (λ (m : ℤ). scan_said merge store segment from to seq m limit) moments
