-- The pages that a scan gives, answer by answer.
use Rattle.std.proofs.Common.{◌≡◌, sym, ◌∙◌, ap, ℕ, suc, ◌-◌, ◌<◌, ◌≤◌, ◌+◌, List, [], ◌∷◌, ◌++◌, false, append-nil, append_assoc, arith}
use Rattle.row_model.specs.Fold as model
use Rattle.row_model.specs.Fold.{Outcome}
use Rattle.fleet_scan.specs.Answered.{Scanning, pair_of}
use Rattle.fleet_scan.specs.declared.answer.KeyAnswer.{KeyAnswer}
use Rattle.fleet_read.specs.Pages.{EndsPage, GoesOn, after_pairs, page_of, page_shown}
use Rattle.fleet_read.specs.declared.answer.PageEnd.{PageEnd}
use Rattle.fleet_read.specs.declared.answer.PageEnd.TheVariants.{NoneLeft, RefusedAt, StopsBefore}
use Rattle.fleet_read.specs.declared.answer.ScanPage.{ScanPage}
use Rattle.script_model.specs.Lines.Scans.{first_page}

abbrev Pairs : Type 0
Pairs = List (List ℕ × List ℕ)

abbrev Answers : Type 0
Answers = List (List ℕ × Outcome)

abbrev shown : ℕ → Answers → ScanPage
shown limit left = page_shown (first_page limit left)

-- ---- one answer

-- The scan gives the value of a key.
pub goes_on : (old new : Scanning) (key value : List ℕ) (pairs more : Pairs) → old ≡ record new { left = (key, model.Merged value) ∷ new.left } → more ≡ pairs ++ (key, value) ∷ [] → old.failed ≡ false → GoesOn old new pairs more
goes_on old new key value pairs more is added alive = record {
  alive = sym (ap (λ (s : Scanning). s.failed) is) ∙ alive;
  page = λ limit.
      ap (λ (s : Scanning). after_pairs pairs (page_of (suc limit) s)) is
      ∙ ap (λ (w : Pairs). record { pairs = w; ends = (page_of limit new).ends }) (sym (append_assoc pairs ((key, value) ∷ []) (page_of limit new).pairs))
      ∙ ap (λ (w : Pairs). after_pairs w (page_of limit new)) (sym added);
}

-- The scan gives the refusal of a key.
pub ends_refused : (old new : Scanning) (key message : List ℕ) (pairs : Pairs) → old ≡ record new { left = (key, model.Refused message) ∷ new.left } → EndsPage old pairs pairs (RefusedAt key message)
ends_refused old new key message pairs is = record {
  page = λ limit. ap (λ (s : Scanning). after_pairs pairs (page_of (suc limit) s)) is ∙ ap (λ (w : Pairs). record { pairs = w; ends = RefusedAt key message }) (append-nil pairs);
}

-- The scan gives nothing more.
pub ends_none : (old : Scanning) (pairs : Pairs) → old.left ≡ [] → EndsPage old pairs pairs NoneLeft
ends_none old pairs none = record {
  page = λ limit. ap (λ (left : Answers). after_pairs pairs (shown (suc limit) left)) none ∙ ap (λ (w : Pairs). record { pairs = w; ends = NoneLeft }) (append-nil pairs);
}

-- How a full page ends.
pub full_some : (old new : Scanning) (answer : KeyAnswer) → old ≡ record new { left = pair_of answer ∷ new.left } → record { pairs = []; ends = StopsBefore (pair_of answer).0 } ≡ page_of 0 old
full_some old new answer is = sym (ap (page_of 0) is)

pub full_none : (old : Scanning) → old.left ≡ [] → record { pairs = []; ends = NoneLeft } ≡ page_of 0 old
full_none old none = sym (ap (shown 0) none)

-- ---- all answers

-- So many pairs were taken, and the page goes on after them.
pub record IsPage (limit taken : ℕ) (first now : Scanning) (pairs : Pairs) : Type 0 where
  pub alive : now.failed ≡ false
  pub page : page_of limit first ≡ after_pairs pairs (page_of (limit - taken) now)

pub starts : (limit taken : ℕ) (first : Scanning) (pairs : Pairs) → first.failed ≡ false → taken ≡ 0 → pairs ≡ [] → IsPage limit taken first first pairs
starts limit taken first pairs alive none empty =
    let all : limit - taken ≡ limit = omega (arith, none) in
    record { alive = alive; page = sym (ap (λ n. after_pairs pairs (page_of n first)) all ∙ ap (λ (w : Pairs). after_pairs w (page_of limit first)) empty) }

pub goes : (limit taken next : ℕ) (first now later : Scanning) (pairs more : Pairs) → taken < limit → next ≡ taken + 1 → IsPage limit taken first now pairs → GoesOn now later pairs more → IsPage limit next first later more
goes limit taken next first now later pairs more room is so_far goes_on =
    let one : limit - taken ≡ suc (limit - next) = omega (arith, room, is) in
    record { alive = goes_on.alive; page = so_far.page ∙ ap (λ n. after_pairs pairs (page_of n now)) one ∙ goes_on.page (limit - next) }

pub ends : (limit taken : ℕ) (first now : Scanning) (pairs more : Pairs) (end : PageEnd) → taken < limit → IsPage limit taken first now pairs → EndsPage now pairs more end → record { pairs = more; ends = end } ≡ page_of limit first
ends limit taken first now pairs more end room so_far ended =
    let one : limit - taken ≡ suc (limit - taken - 1) = omega (arith, room) in
    sym (so_far.page ∙ ap (λ n. after_pairs pairs (page_of n now)) one ∙ ended.page (limit - taken - 1))

pub fills : (limit taken : ℕ) (first now : Scanning) (pairs : Pairs) (end : PageEnd) → limit ≤ taken → IsPage limit taken first now pairs → record { pairs = []; ends = end } ≡ page_of 0 now → record { pairs = pairs; ends = end } ≡ page_of limit first
fills limit taken first now pairs end full so_far ended =
    let none : limit - taken ≡ 0 = omega (arith, full) in
    sym (so_far.page ∙ ap (λ n. after_pairs pairs (page_of n now)) none ∙ ap (after_pairs pairs) (sym ended) ∙ ap (λ (w : Pairs). record { pairs = w; ends = end }) (append-nil pairs))
