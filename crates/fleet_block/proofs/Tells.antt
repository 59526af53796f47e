-- The bytes of rows tell the rows.
use Rattle.std.proofs.Common.{sym, ◌∙◌, ap}
use Rattle.fleet_block.specs.Decoded.{decoded_rows}
use Rattle.fleet_block.specs.Laws.{BytesTellRows}
use Rattle.fleet_block.proofs.Decoded.{bytes_are_decoded}

pub bytes_tell_rows : BytesTellRows
bytes_tell_rows rows others rows_fit others_fit rows_few others_few e =
    sym (bytes_are_decoded rows rows_fit rows_few) ∙ ap decoded_rows e ∙ bytes_are_decoded others others_fit others_few
