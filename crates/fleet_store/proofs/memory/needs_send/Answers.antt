use denote.Exit.{no}
use denote.Param.Send.{arg_send, param_send}
use Rattle.fleet_store.proofs.Threads.{store_send}
use Rattle.fleet_store.proofs.memory.needs_send.Goals as goal

pub sends-requires-send-T : goal.sends-requires-send-T
sends-requires-send-T c κs = param_send 0 _ (arg_send _ no _ store_send)
