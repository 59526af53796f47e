-- When descriptions of tables are those of tables that were put into a store.
use Rattle.std.specs.Prelude.{◌≡◌, IsTrue}
use Rattle.fleet_model.specs.Handles.{describe}
use Rattle.fleet_model.specs.Nodes.{Tables, table_rows, is_among}
use Rattle.fleet_tree.specs.Handles.{handle_of}
use Rattle.fleet_tree.specs.Views.{View}
use Rattle.fleet_tree.specs.declared.handle.SsTableHandle.{SsTableHandle}

-- A table was put under this id, and the handle describes its rows.
pub record IsDescribed (tables : Tables) (handle : SsTableHandle) : Type 0 where
  pub put : IsTrue (is_among tables handle.id)
  pub describes : handle_of handle ≡ describe handle.id (table_rows tables handle.id)

-- A tree names the table by the table's own id, and describes it.
pub record NamesTable (tables : Tables) (view : View) : Type 0 where
  pub identity : view.id ≡ view.sst.id
  pub described : IsDescribed tables view.sst
