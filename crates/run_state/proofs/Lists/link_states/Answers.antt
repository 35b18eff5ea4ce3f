-- `run_state::Lists::link_states` meets its contract. Assumes nothing.
use mathlib.Core.Path.{refl}
use borrow.Author.Rules.{rules}
use Rattle.model.specs.Blank.{blank_state}
use Rattle.run_state.specs.Lists.{flow_of, status_of, setting_of}
use Rattle.run_state.proofs.Filled.{fill_none, fill, full_map}
use Rattle.run_state.proofs.Lists.link_states.Goals as goal

pub loop-i-init : goal.loop-i-init
unfolding blank_state
loop-i-init c = fill_none (rw c.blank.ensures)

pub loop-i-preserved : goal.loop-i-preserved
loop-i-preserved c = fill c.loop-i.invariant c.loop-i-test.true refl

pub returns : goal.returns
returns c =
    let i = c.loop-i.invariant in
    record {
      flow = full_map flow_of i c.loop-i-test.false (search rules) (λ k l. refl);
      status = full_map status_of i c.loop-i-test.false (search rules) (λ k l. refl);
      setting = full_map setting_of i c.loop-i-test.false (search rules) (λ k l. refl);
    }
