-- The program's pages of scans, seen as the model's.
use Rattle.script_model.specs.Lines.Scans as model
use Rattle.fleet_text.specs.declared.report.ScanEnd.{ScanEnd}
use Rattle.fleet_text.specs.declared.report.ScanEnd.TheVariants.{NoneLeft, RefusedAt, StopsBefore}
use Rattle.fleet_text.specs.declared.report.Page.{Page}

abbrev pub end_of : ScanEnd → model.ScanEnd
end_of NoneLeft = model.NoneLeft
end_of (RefusedAt key message) = model.RefusedAt key message
end_of (StopsBefore key) = model.StopsBefore key

abbrev pub page_of : Page → model.Page
page_of page = record { pairs = page.pairs; ends = end_of page.ends }
