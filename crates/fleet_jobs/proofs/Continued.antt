-- A context that gets more tables for one of its ranges continues the context before it.
use Rattle.std.proofs.Common.{◌≡◌, refl, sym, ◌∙◌, ap, subst, List, [], ◌∷◌, ℕ, zero, suc, ◌<◌, length}
use Rattle.std.proofs.Math.ListN.{get_or}
use Rattle.std.proofs.lemmas.List.{append-nil, map-append}
use Rattle.std.proofs.lemmas.Option.{slice_get_read}
use Rattle.std.specs.Prelude.{map, slice_get, slice_set, Option, Some, None, IfSome}
use Rattle.std.specs.List.{AllZip}
use Rattle.std.specs.Option.{ForSome}
use Rattle.row_model.specs.Lists.{IsPrefixOf}
use Rattle.fleet_plan.specs.Parts.{Part}
use Rattle.fleet_tree.specs.declared.handle.SsTableHandle.{SsTableHandle}
use Rattle.fleet_model.specs.Invariants.AttemptsFit.{Extends}
use Rattle.fleet_range.specs.Keys.{range_of}
use Rattle.fleet_rows.specs.Settings.{settings_of}
use Rattle.fleet_jobs.specs.Contexts.{IsExtended, noted_range, table_ids}
use Rattle.fleet_jobs.specs.Laws.{ContinuedContextsExtend}

all_same : (parts : List Part) → AllZip IsExtended parts parts
all_same [] = tt
all_same (part ∷ parts) = (record { range = refl; tables = ([], append-nil part.output_ssts) }, all_same parts)

pub extended : (tables : List SsTableHandle) (place : ℕ) (parts : List Part) → ForSome (slice_get parts place) (λ part. IsPrefixOf part.output_ssts tables)
    → IfSome (slice_get parts place) (λ part. AllZip IsExtended parts (slice_set parts place (record part { output_ssts = tables })))
extended tables place [] longer = tt
extended tables zero (part ∷ parts) longer = (record { range = refl; tables = longer part refl }, all_same parts)
extended tables (suc n) (part ∷ parts) longer = by (slice_get parts n) (extended tables n parts longer)
  where
    by : (got : Option Part) → IfSome got (λ other. AllZip IsExtended parts (slice_set parts n (record other { output_ssts = tables })))
        → IfSome got (λ other. AllZip IsExtended (part ∷ parts) (part ∷ slice_set parts n (record other { output_ssts = tables })))
    by None rest = tt
    by (Some other) rest = ((record { range = refl; tables = ([], append-nil part.output_ssts) }), rest)

pub more : (old items made : List Part) (tables : List SsTableHandle) (place : ℕ) (item new : Part) → items ≡ old → place < length old → item ≡ get_or items place item
    → new ≡ record item { output_ssts = tables } → made ≡ slice_set items place new → ForSome (slice_get old place) (λ part. IsPrefixOf part.output_ssts tables) → AllZip IsExtended old made
more old items made tables place item new same low read is set longer =
    let got = slice_get_read old (length old) place item refl low (read ∙ ap (λ parts. get_or parts place item) same) in
    let all = subst (λ o. IfSome o (λ part. AllZip IsExtended old (slice_set old place (record part { output_ssts = tables })))) got (extended tables place old longer) in
    subst (AllZip IsExtended old) (sym (set ∙ ap (λ parts. slice_set parts place new) same ∙ ap (slice_set old place) is)) all

more_ids : (earlier later : List SsTableHandle) → IsPrefixOf earlier later → IsPrefixOf (table_ids earlier) (table_ids later)
more_ids earlier later more = (table_ids more.0, sym (map-append (λ (table : SsTableHandle). table.id) earlier more.0) ∙ ap table_ids more.1)

extend : (earlier later : List Part) → AllZip IsExtended earlier later → Extends (map noted_range earlier) (map noted_range later)
extend [] [] all = tt
extend [] (part ∷ later) all = all
extend (part ∷ earlier) [] all = all
extend (old ∷ earlier) (new ∷ later) all = (ap range_of (sym all.0.range), more_ids old.output_ssts new.output_ssts all.0.tables, extend earlier later all.1)

pub continued_contexts_extend : ContinuedContextsExtend
continued_contexts_extend earlier later continued = record {
  settings = ap settings_of (sym continued.settings);
  ranges = extend earlier.ranges later.ranges continued.ranges;
}
