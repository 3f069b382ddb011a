use Rattle.ksv_places.proofs.Common.{length, sym, ◌∙◌, ap}
use Rattle.ksv_places.proofs.Walking.{length-paths}
use Rattle.ksv_places.proofs.tree.Tree.len.Goals as goal

pub returns : goal.returns
returns c = ap (λ ls. length ls) c.as_slice.ensures.value ∙ sym (length-paths c.self.inside.links.items) ∙ ap (λ ps. length ps) c.self.view_is
