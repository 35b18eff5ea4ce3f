-- What the options of the tables have to satisfy: number 5. What cannot be written in the tables is judged by the words of an image
-- (image_options/specs).
use Rattle.std.specs.Prelude.{Bool, ◌&&◌}
use Rattle.model.specs.declared.options.Options.{Options}
use Rattle.table_ranges.specs.Ranges.{time_ok, timestep_ok, clock_ok, number_ok}

-- 1 options: "The default pattern is judged after the last record", and not here
unfoldable pub options_ok : Options → Bool
options_ok o =
    time_ok o.duration && time_ok o.hydraulic && timestep_ok o.report && timestep_ok o.pattern && time_ok o.pattern_start
    && clock_ok o.start_clock && number_ok o.demand_multiplier
