use Rattle.std.proofs.Common.{ap, ◌∙◌, rules, subst, sym}
use Rattle.std.specs.Prelude.{length, nat_lt, take_while}
use Rattle.std.proofs.lemmas.List.Sorted.{IsPartitionPoint-from_clause}
use Rattle.fleet_book.specs.Records.{AreRising}
use Rattle.fleet_book.proofs.Records.{are_parted, parted_at}
use Rattle.fleet_book.proofs.job_map.place_of.Goals as goal

pub returns : goal.returns
returns c =
    let id = c.args.id in
    let shown = c.as_slice.result.now in
    let parted = are_parted id shown (subst AreRising (sym c.as_slice.ensures) c.requires) in
    let point = IsPartitionPoint-from_clause (λ job. nat_lt job.id id) shown _ c.partition_point.ensures.partitioned parted (λ a r q k. search rules) in
    parted_at id c.partition_point.result shown c.partition_point.ensures.bound point ∙ ap (λ jobs. length (take_while (λ job. nat_lt job.id id) jobs)) c.as_slice.ensures
