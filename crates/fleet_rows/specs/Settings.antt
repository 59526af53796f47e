-- The program's settings as settings of the model.
use Rattle.row_model.specs.Settings as model
use Rattle.fleet_rows.specs.declared.settings.Settings.{Settings}

abbrev pub settings_of : Settings → model.Settings
settings_of s = record { floor = s.floor; tick = s.tick; last_run = s.last_run; cut = s.cut }
