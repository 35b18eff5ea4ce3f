-- `case_names::open_case` meets its contract: the name of a case is text. Assumes nothing.
use Rattle.std.proofs.Common.{◌≡◌, subst, sym}
use Rattle.std.specs.Str.{IsUtf8}
use Rattle.case_names.proofs.Text.{name_utf8, ok_where}
use Rattle.case_names.proofs.open_case.Goals as goal

pub unwrap-path-requires : goal.unwrap-path-requires
unwrap-path-requires g c = ok_where _ _ c.from_utf8.result (subst IsUtf8 (sym c.case_name-name.ensures) (name_utf8 c.args.i)) c.from_utf8.ensures.cases
