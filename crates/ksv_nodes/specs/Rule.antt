-- Rules: what a node asks of other nodes, how it reads the bytes, and what it does with each answer.
use Rattle.std.specs.Prelude.{ℕ, List, Bool, Option, Some, None}
use Rattle.ksv_basics.specs.Plan.{Plan, Answer, Fail, Ask, ◌>>=◌}
use Rattle.ksv_expr_value.specs.Trail.{Trail, child}
use Rattle.ksv_expr_value.specs.declared.fault.FaultKind.{FaultKind}
use Rattle.ksv_expr_value.specs.declared.fault.FaultKind.TheVariants as kinds
use Rattle.ksv_expr_value.specs.declared.step.Step.{Step}
use Rattle.ksv_expr_value.specs.Places.{Place}
use Rattle.ksv_expr_value.specs.declared.value.Stream.{Stream}
use Rattle.ksv_expr_value.specs.declared.value.Value.{Value}
use Rattle.ksv_nodes.specs.declared.node.Node.{Node}
use Rattle.ksv_nodes.specs.declared.node.NodeKind.TheVariants as nodes
use Rattle.ksv_nodes.specs.declared.given.Given.{Given}
use Rattle.ksv_nodes.specs.declared.given.Given.TheVariants as givens
use Rattle.ksv_nodes.specs.declared.given.Head.{Head}
use Rattle.ksv_nodes.specs.declared.given.Ended.{Ended}
use Rattle.ksv_nodes.specs.declared.given.Rested.{Rested}
use Rattle.ksv_nodes.specs.declared.turn.readings.Found.{Found}
use Rattle.ksv_nodes.specs.Reading.{Reading, Reach, Finish, Done, Peek, Find, Seen}

-- a question of a rule: another node, or a reading
pub data Query : Type 0 where
  Of : Node → Query
  See : Reading → Query

abbrev pub Reply : Query → Type 0
Reply (Of n) = Given
Reply (See r) = Seen r

-- a fault at the rule's own path, or at another
pub data Raised : Type 0 where
  Here : FaultKind → Raised
  There : FaultKind → Trail → Raised

-- A rule that ends in an A, or in a fault. The fault of a node that it asks is its own.
abbrev pub Rule : Type 0 → Type 0
Rule A = Plan Query Reply Raised A

-- a fault of the rule's own
abbrev pub raise : {A : Type 0} → FaultKind → Rule A
raise k = Fail (Here k)

-- an answer of one form; another form, which no true reply has, is the fault bad-type
abbrev pub in_head : Given → Rule Head
in_head (givens.Head h) = Answer h
in_head _ = raise kinds.BadType

abbrev pub in_value : Given → Rule Value
in_value (givens.Value v) = Answer v
in_value _ = raise kinds.BadType

abbrev pub in_end : Given → Rule Ended
in_end (givens.End place last) = Answer (record { place = place; last = last })
in_end _ = raise kinds.BadType

abbrev pub in_rest : Given → Rule Rested
in_rest (givens.Rest count place) = Answer (record { count = count; place = place })
in_rest _ = raise kinds.BadType

-- a node, given what is asked and of which path
abbrev pub head_node : Trail → Node
head_node p = record { kind = nodes.Head; path = p }

abbrev pub value_node : Trail → Node
value_node p = record { kind = nodes.Value; path = p }

abbrev pub end_node : Trail → Node
end_node p = record { kind = nodes.End; path = p }

abbrev pub rest_node : Trail → Node
rest_node p = record { kind = nodes.Rest; path = p }

-- what another node answers
abbrev pub ask_head : Trail → Rule Head
ask_head p = Ask (Of (head_node p)) in_head

abbrev pub ask_value : Trail → Rule Value
ask_value p = Ask (Of (value_node p)) in_value

abbrev pub ask_end : Trail → Rule Ended
ask_end p = Ask (Of (end_node p)) in_end

abbrev pub ask_rest : Trail → Rule Rested
ask_rest p = Ask (Of (rest_node p)) in_rest

-- the path of a part: a path that doesn't fit is a fault of the node that asks for it
abbrev pub in_path : Option Trail → Rule Trail
in_path None = raise kinds.PathTooLong
in_path (Some p) = Answer p

abbrev pub part : Trail → Step → Rule Trail
part p step = in_path (child p step)

-- the value of a part, and where it ends
abbrev pub value_of_part : Trail → Step → Rule Value
value_of_part p step = part p step >>= ask_value

abbrev pub end_of_part : Trail → Step → Rule Ended
end_of_part p step = part p step >>= ask_end

-- readings; if the bytes end too early, the fault is end-of-bytes
abbrev pub reach : Stream → ℕ → Rule (Unit {0})
reach w t = Ask (See (Reach w t)) (λ x. Answer x)

abbrev pub finish : Stream → Rule ℕ
finish w = Ask (See (Finish w)) (λ x. Answer x)

abbrev pub done : Stream → Place → Rule Bool
done w p = Ask (See (Done w p)) (λ x. Answer x)

abbrev pub peek : ℕ → ℕ → Rule (List ℕ)
peek f t = Ask (See (Peek f t)) (λ x. Answer x)

abbrev pub find : Stream → ℕ → ℕ → Rule Found
find w s b = Ask (See (Find w s b)) (λ x. Answer x)
