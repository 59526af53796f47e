-- What a worker runs after it noted a table for a range.
use Rattle.std.proofs.Common.{◌≡◌, refl, sym, ◌∙◌, ap, subst, ℕ, zero, suc, ◌-◌, ◌≤◌, ◌<◌, cond, eq-eqb, false, length, get_or, List, [], ◌∷◌, ◌++◌, Some, None, arith}
use Rattle.std.specs.Prelude.{◌==◌, slice_get, slice_set, IfSome}
use Rattle.std.proofs.lemmas.Bool.{ne_eqb}
use Rattle.std.proofs.lemmas.Option.{slice_get-get_or}
use Rattle.fleet_tree.specs.declared.handle.SsTableHandle.{SsTableHandle}
use Rattle.fleet_plan.specs.Parts.{Part}
use Rattle.fleet_jobs.specs.Parts.ContextParts.{ContextParts}
use Rattle.fleet_worker.specs.Messages.{attempt_with, if_numbered, went_on}
use Rattle.fleet_worker.specs.Outputs.{IsPartAt, after_noting, noted_parts}
use Rattle.fleet_worker.specs.Workers.{AttemptParts, run_at}
use Rattle.fleet_worker.proofs.RunAttempts.{part_there}

-- The range at a place with one more table.
abbrev with_table : SsTableHandle → Part → Part
with_table table part = record part { output_ssts = part.output_ssts ++ table ∷ [] }

set_at : (n : ℕ) (table : SsTableHandle) (parts : List Part) (part : Part) → slice_get parts n ≡ Some part → slice_set parts n (with_table table part) ≡ noted_parts (suc n) table parts
set_at n table [] part there = absurd (cc there)
set_at zero table (p ∷ parts) part there = same there
  where
    same : Some p ≡ Some part → with_table table part ∷ parts ≡ with_table table p ∷ parts
    same e = let is : p ≡ part = cc e in ap (λ (q : Part). with_table table q ∷ parts) (sym is)
set_at (suc n) table (p ∷ parts) part there =
    let other : (suc (suc n) == 1) ≡ false = ne_eqb (suc (suc n)) 1 (λ same. let low : suc (suc n) ≡ 1 = same in omega (arith, low)) in
    let one : suc (suc n) - 1 ≡ suc n = omega arith in
    rw (other, one) (ap (λ rest. p ∷ rest) (set_at n table parts part there))

set_is : (place : ℕ) (table : SsTableHandle) (parts : List Part) (part : Part) → 1 ≤ place → slice_get parts (place - 1) ≡ Some part → slice_set parts (place - 1) (with_table table part) ≡ noted_parts place table parts
set_is zero table parts part counted there = absurd (omega (arith, counted))
set_is (suc n) table parts part counted there =
    let one : suc n - 1 ≡ n = omega arith in
    subst (λ m. slice_set parts m (with_table table part) ≡ noted_parts (suc n) table parts) (sym one) (set_at n table parts part (subst (λ m. slice_get parts m ≡ Some part) one there))

-- A context to which the table was pushed is the one after the table is noted.
pub pushed_is : (place : ℕ) (table : SsTableHandle) (old new : ContextParts) → 1 ≤ place → place ≤ length old.ranges
    → IfSome (slice_get old.ranges (place - 1)) (λ range. new ≡ record old { ranges = slice_set old.ranges (place - 1) (record range { output_ssts = range.output_ssts ++ table ∷ [] }) })
    → new ≡ record old { ranges = noted_parts place table old.ranges }
pushed_is place table old new counted there pushed =
    let low : place - 1 < length old.ranges = omega (arith, counted, there) in
    let part = part_there old.ranges (place - 1) low in
    subst (λ o. IfSome o (λ range. new ≡ record old { ranges = slice_set old.ranges (place - 1) (with_table table range) })) part.1 pushed
    ∙ ap (λ (ranges : List Part). record old { ranges = ranges }) (set_is place table old.ranges part.0 counted part.1)

-- With it the attempt goes on as after the table is noted.
pub noted_so : (place : ℕ) (table : SsTableHandle) (a : AttemptParts) (attempts : List AttemptParts) (ctx : ContextParts) → run_at attempts a.job ≡ Some a → ctx ≡ record a.ctx { ranges = noted_parts place table a.ctx.ranges }
    → went_on ctx (attempt_with attempts a.job a.number) attempts ≡ after_noting place table a attempts
noted_so place table a attempts ctx run is =
    ap (λ found. went_on ctx found attempts) (ap (if_numbered a.number) run ∙ ap (λ b. cond b (Some a) None) (eq-eqb a.number a.number refl))
    ∙ ap (λ (c : ContextParts). went_on c (Some a) attempts) is

-- The range at a place is the one that the worker runs.
pub part_is : (a : AttemptParts) (place : ℕ) (part found : Part) → IsPartAt a place part → slice_get a.ctx.ranges (place - 1) ≡ Some found → found ≡ part
part_is a place part found at there = same (sym there ∙ at.there)
  where
    same : Some found ≡ Some part → found ≡ part
    same e = cc e

-- The same, where the range was found by its place.
pub found_at : (parts : List Part) (n : ℕ) (found : Part) → n < length parts → found ≡ get_or parts n found → slice_get parts n ≡ Some found
found_at parts n found low is = slice_get-get_or parts n found low ∙ ap Some (sym is)

-- The part that was found by its place is the range there.
pub range_is : (a : AttemptParts) (place : ℕ) (parts : List Part) (found : Part) → 1 ≤ place → place ≤ length a.ctx.ranges → parts ≡ a.ctx.ranges → found ≡ get_or parts (place - 1) found → IsPartAt a place found
range_is a place parts found counted there same is = record {
  counted = omega (arith, counted);
  there = found_at a.ctx.ranges (place - 1) found (omega (arith, counted, there)) (subst (λ l. found ≡ get_or l (place - 1) found) same is);
}
