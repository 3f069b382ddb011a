use Rattle.ksv_places.proofs.Common.{sym, Head}
use Rattle.ksv_places.proofs.Pairing.{paired}
use Rattle.ksv_places.proofs.spots.spot_at.Goals as goal

pub returns : goal.returns
returns c = sym (paired c.args.paths.now c.args.kinds.now c.requires.both c.args.place c.requires.there 0 Head _)
