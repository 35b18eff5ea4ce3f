-- How large a load is.
-- Assumes nothing.
use Rattle.std.specs.Prelude.{ℕ, ◌+◌, ◌*◌}
use Rattle.model.specs.declared.project.Project.{Project}
use Rattle.load.specs.Loads.{value_count}

-- a load's header, and two words for each of its numbers; "all words little-endian"
unfoldable pub load_words : Project → ℕ
load_words p = 1 + 2 * value_count p

abbrev pub load_bytes : Project → ℕ
load_bytes p = load_words p * 4
