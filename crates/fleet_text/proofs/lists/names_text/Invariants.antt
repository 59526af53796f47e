use Rattle.std.proofs.Common.{◌≡◌, map, take, string_bytes}
use Rattle.fleet_jobs.specs.Contexts.{table_ids}
use Rattle.script_model.specs.Replies.{table_text}
use Rattle.fleet_text.proofs.lists.names_text.Given as goal

abbrev pub invariant-tables : goal.invariant-tables
invariant-tables l = map string_bytes l.words.items ≡ map table_text (table_ids (take l.table-index l.tables))
