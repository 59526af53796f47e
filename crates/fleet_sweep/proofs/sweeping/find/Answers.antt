use Rattle.std.proofs.Common.{◌∙◌, ap, List, ℕ}
use Rattle.std.specs.Prelude.{filter}
use Rattle.std.proofs.lemmas.Result.{err_from_is_err_and}
use Rattle.fleet_tree.specs.Trees.{trees_with_prefix}
use Rattle.fleet_tree.specs.declared.manifest.ManifestCore.{ManifestCore}
use Rattle.fleet_store.specs.Records.{jobs_or_none}
use Rattle.fleet_sweep.specs.Named.{is_in_neither, named_ids}
use Rattle.fleet_sweep.proofs.Finding.{found, lacks_memory, list_fails, manifest_fails, records_fail}
use Rattle.fleet_sweep.proofs.sweeping.find.Goals as goal

pub returns-in_err-manifest : goal.returns-in_err-manifest
returns-in_err-manifest g c =
    let p = err_from_is_err_and c.from_residual.result c.from_residual.ensures.1 in
    rw (p.1, p.2) (manifest_fails c.args.pins.now _ _ c.in_err-manifest.field-0.0 c.in_err-manifest.ensures)

pub returns-in_err-records : goal.returns-in_err-records
returns-in_err-records g c =
    let p = err_from_is_err_and c.from_residual-in_err-records.result c.from_residual-in_err-records.ensures.1 in
    rw (p.1, p.2) (records_fail c.args.pins.now _ _ _ c.in_ok-manifest.manifest c.in_ok-manifest.ensures c.in_err-records.field-0.0 c.in_err-records.ensures)

pub returns-in_err-held : goal.returns-in_err-held
returns-in_err-held g c =
    let p = err_from_is_err_and c.from_residual-in_err-held.result c.from_residual-in_err-held.ensures.1 in
    rw (p.1, p.2)
    (list_fails c.args.pins.now _ _ _ c.in_ok-manifest.manifest c.in_ok-manifest.ensures c.in_ok-records.records c.in_ok-records.ensures _ c.in_err-held.field-0.0 c.in_err-held.ensures)

pub returns-in_err-tables : goal.returns-in_err-tables
returns-in_err-tables g c =
    let p = err_from_is_err_and c.from_residual-in_err-tables.result c.from_residual-in_err-tables.ensures.1 in
    rw (p.1, p.2)
    (lacks_memory c.args.pins.now _ _ _ c.in_ok-manifest.manifest c.in_ok-manifest.ensures c.in_ok-records.records c.in_ok-records.ensures _ c.in_ok-held.held c.in_ok-held.ensures)

pub returns : goal.returns
returns g c =
    let left : ManifestCore → List ℕ → List ℕ → List ℕ = λ core pins held. filter (is_in_neither (named_ids (trees_with_prefix core) (jobs_or_none c.in_ok-records.records)) pins) held in
    found c.args.pins.now _ _ _ c.in_ok-manifest.manifest c.in_ok-manifest.ensures c.in_ok-records.records c.in_ok-records.ensures _ c.in_ok-held.held c.in_ok-held.ensures c.from_vec.result
    (c.from_vec.ensures
    ∙ c.in_ok-tables.ensures
    ∙ ap (λ core. left core c.as_slice.result.now c.as_slice-2.result.now) c.core.ensures
    ∙ ap (λ pins. left c.in_ok-manifest.manifest.manifest.core pins c.as_slice-2.result.now) c.as_slice.ensures
    ∙ ap (left c.in_ok-manifest.manifest.manifest.core c.args.pins.now) c.as_slice-2.ensures)
