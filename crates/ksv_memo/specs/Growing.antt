-- A table that grows before a node is looked up, by nodes that evaluation of it completes. Only the machine's own contracts use it.
use Rattle.std.specs.Prelude.{◌≡◌, ℕ, Bool, true, false, List, [], ◌++◌, ◌⊎◌, Option, Result, IfOk, OnErr}
use Rattle.std.specs.List.{AllByRecursion}
use Rattle.ksv_memo_rules.specs.Meaning.{Standing}
use Rattle.ksv_memo_rules.specs.Evaluation.{is_among, tells, IsAnswered}
use Rattle.ksv_memo_rules.specs.Entry.{Entry}
use Rattle.ksv_memo_rules.specs.Right.{AreDistinct, StandsIn, nodes_of, costs, counted}
use Rattle.ksv_memo_rules.specs.Touched.{tree}
use Rattle.ksv_memo.specs.Open.{nodes_in}
use Rattle.ksv_memo.specs.Nodes.{Asks, Tabled, nodes}

-- Before m is looked up the table has grown: by nodes that stand in, none of them kept or open before, all of which evaluation of m
-- completes; so many calls were counted for them.
pub record GrowsBy {N A : Type 0} (w : Standing N A) (m : N) (opened : List N) (before now : List (Entry N A)) (count : ℕ) : Type 0 where
  pub more : List (Entry N A)
  pub after : now ≡ before ++ more
  pub stand : AllByRecursion (StandsIn w (nodes_of now)) more
  pub once : AreDistinct w (nodes_of now)
  pub free : AllByRecursion (λ e. is_among w.number opened e.node ≡ false) more
  pub within : AllByRecursion (λ e. is_among w.number (tree w m) e.node ≡ true) more
  pub answered : (more ≡ []) ⊎ IsAnswered (tells w [] m).outcome
  pub calls : count ≡ costs w (nodes_of more)

-- so the table did, and the calls were counted
pub record Grows {N A : Type 0} (w : Standing N A) (m : N) (old new : Tabled N A) (before after : Option ℕ) : Type 0 where
  pub opened : new.opened ≡ old.opened
  pub calls : ℕ
  pub grown : GrowsBy w m (nodes_in old.opened) old.kept new.kept calls
  pub turns : after ≡ counted calls before

-- it has grown, and then the node was asked for
pub record AsksGrown {N A E : Type 0} (w : Standing N A) (eq : N → N → Bool) (m : N) (old new : Tabled N A) (before after : Option ℕ)
    (r : Result (Option N) E) : Type 0 where
  pub mid : Tabled N A
  pub grown : Grows w m old mid before after
  pub ok : IfOk r (λ came. Asks eq m (nodes mid) (nodes new) came)
  pub err : OnErr r (new.kept ≡ mid.kept)
