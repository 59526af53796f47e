-- These functions turn a program's descriptions of tables into handles of the model.
use Rattle.std.specs.Prelude.{List, map}
use Rattle.row_model.specs.Written.Sizes.{Block}
use Rattle.fleet_model.specs.Handles.{Handle}
use Rattle.fleet_tree.specs.declared.block.BlockMeta.{BlockMeta}
use Rattle.fleet_tree.specs.declared.handle.SsTableHandle.{SsTableHandle}

abbrev pub block_of : BlockMeta → Block
block_of block = record { first_key = block.first_key; offset = block.offset }

abbrev pub blocks_of : List BlockMeta → List Block
blocks_of blocks = map block_of blocks

abbrev pub handle_of : SsTableHandle → Handle
handle_of sst = record {
  id = sst.id;
  first_key = sst.first_key;
  last_key = sst.last_key;
  last_seq = sst.last_seq;
  rows = sst.rows;
  size = sst.size;
  blocks = blocks_of sst.blocks;
}
