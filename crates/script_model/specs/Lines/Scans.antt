-- The line that scans a range of keys. It calls nothing.
use Rattle.std.specs.Prelude.{ℕ, zero, suc, if◌then◌else◌, ℤ, List, [], ◌∷◌, ◌++◌, map, codes}
use Rattle.row_model.specs.Fold.{Outcome, Merged, Refused}
use Rattle.row_model.specs.Ranges.{Bound, Unbounded, Included, Excluded, Range}
use Rattle.fleet_model.specs.TreeScans.{flushed_scan}
use Rattle.script_model.specs.Words.{bytes_text, list_text, comma}
use Rattle.script_model.specs.Replies.{reply, not_retained}
use Rattle.script_model.specs.LineRuns.{only_replies, LineCourse}
use Rattle.script_model.specs.Lines.Looks.{is_not_retained}
use Rattle.script_model.specs.States.{Inputs, State}

-- The bound at which a range begins: this key, or none for the empty key.
abbrev pub range_start : List ℕ → Bound
range_start [] = Unbounded
range_start (b ∷ key) = Included (b ∷ key)

-- The bound before which a range ends: this key, or none for the empty key.
abbrev pub range_end : List ℕ → Bound
range_end [] = Unbounded
range_end (b ∷ key) = Excluded (b ∷ key)

-- The keys at or after `from` and before `to`. An empty end means no bound.
abbrev pub keys_between : (from to : List ℕ) → Range
keys_between from to = record { from = range_start from; to = range_end to }

-- How a scan ends: no key with an answer is left, the operator refused a fold of a key, or the
-- limit is reached before a key.
pub data ScanEnd : Type 0 where
  NoneLeft : ScanEnd
  RefusedAt : (key message : List ℕ) → ScanEnd
  StopsBefore : (key : List ℕ) → ScanEnd

-- The result of a scan: keys with their values, and how it ended.
pub record Page : Type 0 where
  pub pairs : List (List ℕ × List ℕ)
  pub ends : ScanEnd

-- One answer in front of the page of later keys. A value comes first in the page. A refusal ends
-- the scan, so no later key is in the page.
abbrev pub with_answer : List ℕ → Outcome → Page → Page
with_answer key (Merged bytes) later = record later { pairs = (key, bytes) ∷ later.pairs }
with_answer key (Refused message) later = record { pairs = []; ends = RefusedAt key message }

-- The first answers of a list, up to the limit, the first refusal or the end.
abbrev pub first_page : ℕ → List (List ℕ × Outcome) → Page
first_page limit [] = record { pairs = []; ends = NoneLeft }
first_page zero (answer ∷ answers) = record { pairs = []; ends = StopsBefore answer.0 }
first_page (suc limit) (answer ∷ answers) = with_answer answer.0 answer.1 (first_page limit answers)

-- The text of a key with its value: both in hexadecimal, with a colon between.
abbrev pub pair_text : List ℕ × List ℕ → List ℕ
pair_text pair = bytes_text pair.0 ++ codes ":" ++ bytes_text pair.1

-- The last words of the reply, which say how the scan ended.
abbrev pub end_words : ScanEnd → List (List ℕ)
end_words NoneLeft = codes "end" ∷ []
end_words (RefusedAt key message) = codes "callback" ∷ bytes_text key ∷ bytes_text message ∷ []
end_words (StopsBefore key) = codes "more" ∷ bytes_text key ∷ []

-- The reply to a scan: the pairs, and how the scan ended.
abbrev pub scan_reply : Page → List ℕ
scan_reply page = reply (codes "ok" ∷ list_text comma (map pair_text page.pairs) ∷ end_words page.ends)

-- A scan gives the first page of the rows that were flushed into the segment and not drained. It is
-- refused under the same conditions as a read.
abbrev pub scan : (inputs : Inputs) (segment from to : List ℕ) (seq : ℕ) (now : ℤ) (limit : ℕ) (s : State) → LineCourse
scan inputs segment from to seq now limit s =
    let m = s.store.manifest in
    only_replies s (if is_not_retained m seq now then not_retained m.horizon m.tick
    else scan_reply (first_page limit (flushed_scan inputs.merge s.store segment (keys_between from to) seq now)))
