-- Document 01, module 7: one link of `new_with_initial_values`.
use Rattle.model.specs.Links.{initial_flow, initial_setting}
use Rattle.model.specs.declared.link.Link.{Link}
use Rattle.model.specs.declared.state.LinkState.{LinkState}

abbrev pub start_link : Link → LinkState
start_link l = record { flow = initial_flow l; status = l.initial_status; setting = initial_setting l }
