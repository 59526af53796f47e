-- A store in memory may go from thread to thread.
use Rattle.std.proofs.Crossing.{crosses}
use Rattle.std.proofs.MapsCrossing.{BTreeMap-send}
use denote.Param.Send.{IsSend, sendable}
use Rattle.fleet_rows.proofs.ulid.Ulid.TheSendSync as id
use Rattle.fleet_tree.proofs.manifest.VersionedManifest.TheSendSync as manifest
use Rattle.fleet_table.proofs.table.TableData.TheSendSync as table
use Rattle.fleet_book.proofs.compactions.VersionedCompactions.TheSendSync as records
use Rattle.fleet_history.proofs.entry.HistoryEntry.TheSendSync as entry
use Rattle.fleet_history.proofs.party.Party.TheSendSync as party
use Rattle.fleet_store.specs.contracts.log.Log as log
use Rattle.fleet_store.specs.contracts.memory.MemStore as store

-- What is remembered of the calls owns nothing, so any thread may have it.
pub log_send : IsSend log.the_row
log_send = search (entry.the_send, party.the_field_send, crosses, sendable) depth 40

pub store_send : IsSend store.the_row
store_send = search (log_send, manifest.the_field_send, records.the_send, BTreeMap-send, id.the_send, table.the_send, crosses, sendable) depth 40
