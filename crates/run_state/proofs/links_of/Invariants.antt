use lib.ListN.{get_or}
use Rattle.model.specs.Blank.{blank_link_state}
use Rattle.run_state.specs.Lists.{flow_of, status_of, setting_of}
use Rattle.run_state.proofs.Filled.{Filled}
use Rattle.run_state.proofs.links_of.Given as goal

abbrev pub invariant-loop-i : goal.invariant-loop-i
invariant-loop-i l = record {
  flows : Filled (flow_of blank_link_state) 384 (λ k. flow_of (get_or l.fn.table k blank_link_state)) l.i l.links.flows;
  statuses : Filled (status_of blank_link_state) 384 (λ k. status_of (get_or l.fn.table k blank_link_state)) l.i l.links.statuses;
  settings : Filled (setting_of blank_link_state) 384 (λ k. setting_of (get_or l.fn.table k blank_link_state)) l.i l.links.settings;
}
