use Rattle.std.proofs.Common.{◌∙◌, ap, subst, sym, Some}
use Rattle.std.specs.Option.{option_copied}
use Rattle.std.proofs.lemmas.Result.{on_ok_weaker}
use Rattle.fleet_book.specs.Records.{put_record, record_with}
use Rattle.fleet_book.specs.Shown.{ShowedRecords}
use Rattle.fleet_book.specs.Versions.{with_jobs}
use Rattle.fleet_book.proofs.Shown.{shows_all, shows_anew}
use Rattle.fleet_book.proofs.state.show_job.Goals as goal

pub returns-in_default-clause-shows : goal.returns-in_default-clause-shows
returns-in_default-clause-shows c = shows_all (Some c.in_ok-active.field-0) c.args.own.now (ap Some c.in_ok-active.ensures.records)

pub returns-clause-shows : goal.returns-clause-shows
returns-clause-shows c =
    let own = c.args.own.now in
    let id = c.args.id in
    let records = c.in-Some-shown.records in
    let showed = subst (λ s. ShowedRecords id s own) c.in-Some-shown.is c.requires in
    let found = sym (ap option_copied (sym c.in-Some.is) ∙ c.get.ensures ∙ ap (λ v. record_with id v.jobs) c.compactions.ensures) in
    let put = ap (λ job. with_jobs (put_record job records.compactions.jobs) own) c.in_ok-clone-in-Some-shown.ensures.copy in
    on_ok_weaker c.show.result
    (λ e. shows_anew id c.in-Some.job.now records (Some c.show.new.self) own showed c.know_rising-in-Some-shown.ensures c.know_rising.ensures found (ap Some (e ∙ put)))
    c.show.ensures.ok
