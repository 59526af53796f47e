-- What a read of a key replies.
use Rattle.std.proofs.Common.{◌≡◌, refl, ap, ◌∙◌, ℕ, ℤ, List, cond, Bool, true, false, Option, Some, None, Result, Ok, Err, IfOk}
use Rattle.row_model.specs.Fold.{Operator, Outcome, Merged, Refused}
use Rattle.fleet_model.specs.Invariants.Invariant.{StoreInvariant}
use Rattle.fleet_model.specs.Reads.{flushed_read, stored_read}
use Rattle.fleet_model.specs.Store.{Store}
use Rattle.fleet_laws.proofs.StoredReads.{stores_answer_reads}
use Rattle.script_model.specs.Lines.Looks.{is_not_retained}
use Rattle.script_model.specs.Replies.{not_retained, read_reply}
use Rattle.line_laws.proofs.ReadLines.{is_retained}
use Rattle.fleet_read.specs.Answers.{answer_of, stored_answer}
use Rattle.fleet_read.specs.declared.answer.ReadAnswer.{ReadAnswer}
use Rattle.fleet_read.specs.declared.answer.ReadAnswer.TheVariants.{NotRetained}
use Rattle.fleet_looks.specs.Looks.{answer_reply, read_said}

outcome_said : (o : Option Outcome) → answer_reply (answer_of o) ≡ read_reply o
outcome_said None = refl
outcome_said (Some (Merged bytes)) = refl
outcome_said (Some (Refused message)) = refl

-- The reply to the stored rows is that to all flushed ones.
same_said : (merge : Operator) (store : Store) (segment key : List ℕ) (seq : ℕ) (now : ℤ) → StoreInvariant merge store → answer_reply (stored_answer merge store segment key seq now) ≡ read_said merge store segment key seq now
same_said merge store segment key seq now kept = by (is_not_retained store.manifest seq now) refl
  where
    by : (b : Bool) → is_not_retained store.manifest seq now ≡ b
        → answer_reply (cond b (NotRetained store.manifest.horizon store.manifest.tick) (answer_of (stored_read merge store segment key seq now))) ≡ cond b (not_retained store.manifest.horizon store.manifest.tick) (read_reply (flushed_read merge store segment key seq now))
    by true is = refl
    by false is =
        let r = is_retained store.manifest seq now is in
        outcome_said (stored_read merge store segment key seq now) ∙ ap read_reply (stores_answer_reads merge store kept segment key seq now r.horizon r.tick)

pub reads_said : {E : Type 0} (merge : Operator) (store : Store) (segment key : List ℕ) (seq : ℕ) (now : ℤ) (got : ReadAnswer) (r : Result (List ℕ) E) → StoreInvariant merge store → got ≡ stored_answer merge store segment key seq now → IfOk r (λ reply. reply ≡ answer_reply got)
    → IfOk r (λ reply. reply ≡ read_said merge store segment key seq now)
reads_said merge store segment key seq now got (Ok reply) kept is said = said ∙ (ap answer_reply is ∙ same_said merge store segment key seq now kept)
reads_said merge store segment key seq now got (Err e) kept is said = tt

-- The reply is the same to what is read as it is seen.
pub read_seen : (merge : Operator) (seen store : Store) (shown segment named key : List ℕ) (seq : ℕ) (moment now : ℤ) (answer : List ℕ) → seen ≡ store → shown ≡ segment → named ≡ key → moment ≡ now → answer ≡ read_said merge seen shown named seq moment → answer ≡ read_said merge store segment key seq now
read_seen merge seen store shown segment named key seq moment now answer stores segments keys moments says =
    says
    ∙ (ap (λ (s : Store). read_said merge s shown named seq moment) stores
    ∙ (ap (λ (prefix : List ℕ). read_said merge store prefix named seq moment) segments ∙ (ap (λ (k : List ℕ). read_said merge store segment k seq moment) keys ∙ ap (λ (m : ℤ). read_said merge store segment key seq m) moments)))
