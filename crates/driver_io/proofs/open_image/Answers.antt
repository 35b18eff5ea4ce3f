-- `driver_io::open_image` meets its contract: an image without a fault is accepted. Assumes nothing.
use Rattle.driver_io.proofs.Opened.{opened}
use Rattle.driver_io.proofs.open_image.Goals as goal

pub returns : goal.returns
returns g c = opened _ _ c.decode_into.ensures.fault c.decode_into.ensures.tables
