use Rattle.ksv_memo_links.proofs.links.Links.forget.Goals as goal

pub forget-requires-clause-within : goal.forget-requires-clause-within
forget-requires-clause-within c moves =
    rw (← c.self.view_is) at (c.requires.within moves)
