-- Under a lawful operator every lawful call keeps the invariant, and so do runs of lawful courses.
use Rattle.std.proofs.Common.{refl}
use Rattle.row_model.specs.Fold.{Operator, IsLawful}
use Rattle.fleet_model.specs.History.{ManifestEpoch, Flush, Commit}
use Rattle.fleet_model.specs.Exchanges.{Exchange, Plain, DrawsJob, DrawsTable, PutsTable, PutsManifest, PutsRecords, ListsTables, DeletesTable}
use Rattle.step_laws.specs.CallLaws.{CallKeeps}
use Rattle.step_laws.specs.Runs.{CallsKeep}
use Rattle.step_laws.proofs.PutLaws.{other_calls_keep}
use Rattle.step_laws.proofs.Runs.{rivals_keep, runs_keep}
use Rattle.commit_laws.specs.RunLaws.{LawfulCoursesKeep, CoursesKeep}
use Rattle.commit_laws.proofs.Commits.{commits_keep}

-- Under a lawful operator every lawful call keeps the invariant.
call_keeps : (merge : Operator) → IsLawful merge → (x : Exchange) → CallKeeps merge x
call_keeps merge lawful (Plain event) = other_calls_keep merge (Plain event) refl
call_keeps merge lawful (DrawsJob moment) = other_calls_keep merge (DrawsJob moment) refl
call_keeps merge lawful (DrawsTable moment) = other_calls_keep merge (DrawsTable moment) refl
call_keeps merge lawful (PutsTable table rows) = other_calls_keep merge (PutsTable table rows) refl
call_keeps merge lawful (PutsManifest version (ManifestEpoch epoch) value) = other_calls_keep merge (PutsManifest version (ManifestEpoch epoch) value) refl
call_keeps merge lawful (PutsManifest version (Flush name segment floor tick) value) = other_calls_keep merge (PutsManifest version (Flush name segment floor tick) value) refl
call_keeps merge lawful (PutsManifest version (Commit steps) value) = commits_keep merge lawful steps version value
call_keeps merge lawful (PutsRecords version change epoch jobs) = other_calls_keep merge (PutsRecords version change epoch jobs) refl
call_keeps merge lawful ListsTables = other_calls_keep merge ListsTables refl
call_keeps merge lawful (DeletesTable table) = other_calls_keep merge (DeletesTable table) refl

pub calls_keep : (merge : Operator) → IsLawful merge → CallsKeep merge
calls_keep merge lawful x = call_keeps merge lawful x

all_keep : {A : Type 0} → LawfulCoursesKeep A
all_keep who course lawful old new end kept is_lawful run = runs_keep who course (calls_keep who.merge lawful) old new end kept is_lawful run

-- Under a lawful operator calls of others and the runs of lawful courses keep the invariant.
pub courses_keep : CoursesKeep
courses_keep = record {
  rivals = λ who old new lawful kept rivals. rivals_keep who old new (calls_keep who.merge lawful) kept rivals;
  starts = all_keep;
  polls = all_keep;
  submits = all_keep;
  claims = all_keep;
  beats = all_keep;
  outputs = all_keep;
  finishes = all_keep;
  flushes = all_keep;
  sweeps = all_keep;
}
