-- How many nodes a rule asks.
use Rattle.std.specs.Prelude.{ℕ, zero, suc}
use Rattle.ksv_basics.specs.Plan.{Answer, Fail, Ask}
use Rattle.ksv_nodes.specs.declared.given.Given.{Given}
use Rattle.ksv_nodes.specs.Reading.{Seen}
use Rattle.ksv_nodes.specs.Rule.{Rule, Of, See}

-- a rule asks at most n nodes, whatever they answer and whatever its readings give; readings don't count
abbrev pub NodesAtMost : {A : Type 0} → ℕ → Rule A → Type 0
NodesAtMost n (Answer a) = Unit {0}
NodesAtMost n (Fail e) = Unit {0}
NodesAtMost n (Ask (See r) k) = (x : Seen r) → NodesAtMost n (k x)
NodesAtMost zero (Ask (Of m) k) = ⊥
NodesAtMost (suc n) (Ask (Of m) k) = (g : Given) → NodesAtMost n (k g)
