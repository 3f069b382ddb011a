use Rattle.std.proofs.Common.{arith}
use Rattle.std.proofs.lemmas.Grind.{common_steps}
use Rattle.ksv_bytes.proofs.Around.{around-wider}
use Rattle.ksv_bytes.proofs.buffer.Buffer.delete.Goals as goal

pub returns : goal.returns
returns c = grind (arith, common_steps, around-wider)
