-- The words of the reply to a poll, each given by its text.
use Rattle.std.proofs.Common.{◌≡◌, ℕ, List, [], ◌∷◌, codes}
use Rattle.script_model.specs.Replies.{reply, jobs_text, rules_text}
use Rattle.fleet_text.specs.declared.report.PollReport.{PollReport}
use Rattle.fleet_text.specs.Places.{places_text}
use Rattle.fleet_text.specs.Printed.{polled_text}

pub polled_words : (r : PollReport) (freed done lost added dropped opened moved drained refused : List ℕ) → freed ≡ jobs_text r.freed → done ≡ jobs_text r.done → lost ≡ rules_text r.lost → added ≡ jobs_text r.added → dropped ≡ places_text r.dropped → opened ≡ jobs_text r.opened → moved ≡ jobs_text r.moved → drained ≡ jobs_text r.drained → refused ≡ rules_text r.refused
    → reply (codes "ok" ∷ codes "freed" ∷ freed ∷ codes "done" ∷ done ∷ codes "lost" ∷ lost ∷ codes "added" ∷ added ∷ codes "dropped" ∷ dropped ∷ codes "open" ∷ opened ∷ codes "moved" ∷ moved ∷ codes "drained" ∷ drained ∷ codes "bad" ∷ refused ∷ []) ≡ polled_text r
polled_words r freed done lost added dropped opened moved drained refused f d l a p o m n b =
    λ i. reply (codes "ok" ∷ codes "freed" ∷ f i ∷ codes "done" ∷ d i ∷ codes "lost" ∷ l i ∷ codes "added" ∷ a i ∷ codes "dropped" ∷ p i ∷ codes "open" ∷ o i ∷ codes "moved" ∷ m i ∷ codes "drained" ∷ n i ∷ codes "bad" ∷ b i ∷ [])
