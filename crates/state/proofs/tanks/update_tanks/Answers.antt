-- `state::tanks::update_tanks` meets its contract: the pass on what is unpacked, packed. Assumes nothing.
use Rattle.state.proofs.Moved.{moved_packed}
use Rattle.state.proofs.tanks.update_tanks.Goals as goal

pub returns : goal.returns
returns c = moved_packed c.args.p c.tank_table-t.ensures c.args.s c.args.seconds _ c.of-lists.ensures c.move_tanks.ensures c.state.ensures
