use Rattle.ksv_folds.proofs.Rooms.{first_room}
use Rattle.ksv_folds.proofs.plain_list.PlainList.is_of.Goals as goal

pub at_byte-requires : goal.at_byte-requires
at_byte-requires c = first_room c.args.self.now
