use Rattle.ksv_memo_links.proofs.Common.{refl, ◌∙◌}
use Rattle.ksv_memo_links.proofs.Keeping.{undone}
use Rattle.ksv_memo_links.proofs.parts.Parts.fill.Goals as goal

pub returns-in-Err-clause-err : goal.returns-in-Err-clause-err
returns-in-Err-clause-err c = record {
  asks = undone _ _ _ c.requires.vacant.asks
      c.in_ok-link_all.ensures.ok c.clear.ensures.named;
  uses = c.in-Err.ensures.err;
  marks = refl;
  ask_lists = c.clear.ensures.lists ∙ c.link_all.ensures.count;
}
