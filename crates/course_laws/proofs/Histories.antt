-- Histories: whose entries they have, and the claims and commits that they count.
use Rattle.std.proofs.Common.{◌≡◌, sym, ◌∙◌, ap, ℕ, List, [], ◌∷◌, ◌++◌, length, length-append}
use Rattle.std.specs.Prelude.{filter}
use Rattle.std.proofs.lemmas.List.{append-nil, append_assoc}
use Rattle.fleet_model.specs.Jobs.{contains}
use Rattle.fleet_model.specs.History.{Entry, stood}
use Rattle.step_model.specs.Past.{World}
use Rattle.step_model.specs.Entries.{attempts_claimed_in, claimed_attempts}
use Rattle.step_model.specs.Rivals.{Caller, RivalCall, RivalsFrom, after_rival}
use Rattle.course_laws.specs.Histories.{OthersAdded, RivalsAdd, finished_in, completed_in, finished_jobs, committed_from, committed_jobs, HistoriesCount}
use Rattle.course_laws.proofs.Later.{entry_by, call_history}
use Rattle.course_laws.proofs.Finishes.{flat_append}

-- ---- whose entries

added_from : (who : Caller) (calls : List RivalCall) (old new : World) → RivalsFrom who calls old new → OthersAdded who.party old new
added_from who [] old new same = record { entries = []; history = ap (λ (t : World). t.store.history) (sym same) ∙ sym (append-nil old.store.history); others = tt }
added_from who (call ∷ calls) old new lead =
    let entry : Entry = entry_by call.line call.party call.exchange call.strike old.store in
    let rest = added_from who calls (after_rival call old) new lead.1 in
    record {
      entries = entry ∷ rest.entries;
      history = rest.history ∙ ap (λ (h : List Entry). h ++ rest.entries) (call_history call.line call.party call.exchange call.strike old.store) ∙ append_assoc old.store.history (entry ∷ []) rest.entries;
      others = (lead.0.other, rest.others);
    }

pub rivals_add : RivalsAdd
rivals_add who old new rivals = added_from who rivals.calls old new rivals.lead

-- ---- counts

claims_cut : (first rest : List Entry) → claimed_attempts (first ++ rest) ≡ claimed_attempts first ++ claimed_attempts rest
claims_cut first rest = flat_append (λ (entry : Entry). attempts_claimed_in (stood entry.answer) entry.event) first rest

finished_cut : (first rest : List Entry) → finished_jobs (first ++ rest) ≡ finished_jobs first ++ finished_jobs rest
finished_cut first rest = flat_append (λ (entry : Entry). finished_in (stood entry.answer) entry.event) first rest

committed_cut : (finished : List ℕ) (first rest : List Entry) → committed_from finished (first ++ rest) ≡ committed_from finished first ++ committed_from (finished ++ finished_jobs first) rest
committed_cut finished [] rest = ap (λ (ids : List ℕ). committed_from ids rest) (sym (append-nil finished))
committed_cut finished (entry ∷ first) rest =
    let now = filter (contains (completed_in (stood entry.answer) entry.event)) finished in
    let more = finished_in (stood entry.answer) entry.event in
    ap (λ (ids : List ℕ). now ++ ids)
    (committed_cut (finished ++ more) first rest ∙ ap (λ (ids : List ℕ). committed_from (finished ++ more) first ++ committed_from ids rest) (append_assoc finished more (finished_jobs first)))
    ∙ sym (append_assoc now (committed_from (finished ++ more) first) (committed_from (finished ++ (more ++ finished_jobs first)) rest))

pub histories_count : HistoriesCount
histories_count = record {
  claims = claims_cut;
  claims_number = λ first rest. ap length (claims_cut first rest) ∙ length-append (claimed_attempts first) (claimed_attempts rest);
  once = λ merge world kept. kept.facts.attempts.once;
  finished = finished_cut;
  commits = λ first rest. committed_cut [] first rest;
  commits_number = λ first rest. ap length (committed_cut [] first rest) ∙ length-append (committed_jobs first) (committed_from (finished_jobs first) rest);
}
