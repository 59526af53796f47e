-- What a sink takes, piece by piece.
use Rattle.std.proofs.Common.{◌≡◌, ℕ, ◌+◌, ◌≤◌, List, [], ◌++◌, length, take, drop, Option, Some, None, sym, ap, ◌∙◌, append_assoc, append-nil, take-append-drop, length-append, arith, ◌-◌, length-drop}
use Rattle.std.proofs.lemmas.List.{take_all, length-take-le}
use Rattle.std.specs.Io.KnownBytes.{Appends, Keeps}
use Rattle.fleet_run.specs.SourceAndSink.{SinkView, counted_bytes, Rose, Took, TookNothing}

appends_none : (a : Option (List ℕ)) → Appends a a []
appends_none None = tt
appends_none (Some x) = sym (append-nil x)

appends_more : (a b c : Option (List ℕ)) (bs cs : List ℕ) → Appends a b bs → Appends b c cs → Appends a c (bs ++ cs)
appends_more None b c bs cs p q = tt
appends_more (Some x) None c bs cs p q = absurd p
appends_more (Some x) (Some y) None bs cs p q = absurd q
appends_more (Some x) (Some y) (Some z) bs cs p q = q ∙ ap (λ l. l ++ cs) p ∙ append_assoc x bs cs

appends_kept : (a b c : Option (List ℕ)) (bs : List ℕ) → Appends a b bs → Keeps b c → Appends a c bs
appends_kept None b c bs p q = tt
appends_kept (Some x) None c bs p q = absurd p
appends_kept (Some x) (Some y) None bs p q = absurd q
appends_kept (Some x) (Some y) (Some z) bs p q = q ∙ p

counted_more : (a b c m n : ℕ) → b ≡ counted_bytes a m → c ≡ counted_bytes b n → c ≡ counted_bytes a (m + n)
counted_more a b c m n p q = omega arith

pub took_none : (a : SinkView) → Took [] a a
took_none a = record { written = appends_none a.written; taken = omega arith }

pub took_more : (a b c : SinkView) (xs ys : List ℕ) → Took xs a b → Took ys b c → Took (xs ++ ys) a c
took_more a b c xs ys p q = record {
  written = appends_more a.written b.written c.written xs ys p.written q.written;
  taken = rw (length-append xs ys) (counted_more a.taken b.taken c.taken (length xs) (length ys) p.taken q.taken);
}

pub took_kept : (a b c : SinkView) (xs : List ℕ) → Took xs a b → TookNothing b c → Took xs a c
took_kept a b c xs p q = record { written = appends_kept a.written b.written c.written xs p.written q.written; taken = q.taken ∙ p.taken }

-- The sink took a front of the piece, and this rest is left.
pub record TakenSoFar (piece rest : List ℕ) (old new : SinkView) : Type 0 where
  pub front : List ℕ
  pub parts : piece ≡ front ++ rest
  pub took : Took front old new

pub taken_more : (piece rest : List ℕ) (n : ℕ) (a b c : SinkView) → TakenSoFar piece rest a b → n ≤ length rest → Appends b.written c.written (take n rest) → c.taken ≡ counted_bytes b.taken n
    → TakenSoFar piece (take (length rest - n) (drop n rest)) a c
taken_more piece rest n a b c so_far le bytes count =
    let took : Took (take n rest) b c = record { written = bytes; taken = rw (length-take-le n rest le) count } in
    let tail : take (length rest - n) (drop n rest) ≡ drop n rest = take_all (length rest - n) (drop n rest) (omega (arith, length-drop n rest)) in
    record {
      front = so_far.front ++ take n rest;
      parts = so_far.parts ∙ ap (λ l. so_far.front ++ l) (sym (take-append-drop n rest)) ∙ sym (append_assoc so_far.front (take n rest) (drop n rest)) ∙ ap (λ l. (so_far.front ++ take n rest) ++ l) (sym tail);
      took = took_more a b c so_far.front (take n rest) so_far.took took;
    }

pub taken_all : (piece rest : List ℕ) (a b : SinkView) → TakenSoFar piece rest a b → rest ≡ [] → Took piece a b
taken_all piece rest a b so_far none =
    let all : piece ≡ so_far.front = so_far.parts ∙ ap (λ l. so_far.front ++ l) none ∙ append-nil so_far.front in
    rw all so_far.took

pub rose_later : (a b c : ℕ) → a ≤ b → b ≤ c → Rose b c → Rose a c
rose_later a b c p q r = omega arith
