use Rattle.ksv_memo.proofs.Common.{refl, inl}
use Rattle.ksv_memo.proofs.folded.Run.cut.Goals as goal

pub returns-then-kept-self : goal.returns-then-kept-self
returns-then-kept-self g c = record { nodes = refl; kept = refl; wild = refl; far = refl; lent = inl c.cut.ensures }
