use Rattle.std.proofs.Common.{arith}
use Rattle.ksv_folds.proofs.Rooms.{near_room}
use Rattle.ksv_folds.proofs.plain_list.PlainList.edge_at.Goals as goal

pub overflow_add-result : goal.overflow_add-result
overflow_add-result c =
    let room = near_room c.args.self.now c.args.element c.args.field c.requires.element c.requires.field in
    let from = c.start-2.ensures.value in let more = c.edge.ensures in omega (arith, room, from, more)

pub returns-clause-in_file : goal.returns-clause-in_file
returns-clause-in_file c =
    let room = near_room c.args.self.now c.args.element c.args.field c.requires.element c.requires.field in
    let from = c.start-2.ensures.value in let more = c.edge.ensures in omega (arith, room, from, more)
