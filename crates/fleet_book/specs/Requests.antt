-- Requests of users as the model has them.
use Rattle.fleet_model.specs.Work.Scheduler.{Request, Full, FullSegment, OneSpec}
use Rattle.fleet_jobs.specs.Specs.{spec_of}
use Rattle.fleet_book.specs.declared.request.CompactionRequest.{CompactionRequest}
use Rattle.fleet_book.specs.declared.request.CompactionRequest.TheVariants as own

-- The model's request.
abbrev pub request_of : CompactionRequest → Request
request_of own.Full = Full
request_of (own.FullSegment segment) = FullSegment segment
request_of (own.Spec spec) = OneSpec (spec_of spec)
