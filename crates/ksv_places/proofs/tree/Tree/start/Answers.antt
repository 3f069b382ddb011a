use Rattle.ksv_places.proofs.Reaching.{at_start}
use Rattle.ksv_places.proofs.tree.Tree.start.Goals as goal

pub returns : goal.returns
returns c = λ steps. rw (← c.self.view_is) (at_start c.self.inside.links.items steps)
