-- What a source gives, piece by piece.
use Rattle.std.proofs.Common.{◌≡◌, ◌∙◌, ap, sym, ℕ, ◌+◌, ◌^◌, ◌<◌, ◌≤◌, List, ◌++◌, length, take, Option, Some, None, append_assoc, length-append, arith}
use Rattle.std.proofs.lemmas.List.{length-take-le}
use Rattle.std.specs.Io.KnownBytes.{Consumes}
use Rattle.fleet_run.specs.SourceAndSink.{SourceView, counted_bytes}
use Rattle.fleet_run.specs.Program.{ReadFront, longest}

consumes_more : (a b c : Option (List ℕ)) (xs ys : List ℕ) → Consumes a b xs → Consumes b c ys → Consumes a c (xs ++ ys)
consumes_more None b c xs ys p q = tt
consumes_more (Some all) None c xs ys p q = absurd p
consumes_more (Some all) (Some rest) None xs ys p q = absurd q
consumes_more (Some all) (Some rest) (Some left) xs ys p q = p ∙ ap (λ l. xs ++ l) q ∙ sym (append_assoc xs ys left)

pub given_more : (a b c : SourceView) (text buffer : List ℕ) (n : ℕ) → a.given < 2 ^ 63 → Consumes a.left b.left text → b.given ≡ a.given + length text → length text ≤ longest
    → Consumes b.left c.left (take n buffer) → c.given ≡ counted_bytes b.given n → n ≤ length buffer → length buffer ≤ 8192 → ReadFront a c
given_more a b c text buffer n below bytes given limit more count le small = record {
  text = text ++ take n buffer;
  bytes = consumes_more a.left b.left c.left text (take n buffer) bytes more;
  given = omega (arith, length-append text (take n buffer), length-take-le n buffer le);
}
