-- What the rules of a description mean to an engine: a node's rule is run from its beginning on the replies that it had.
use Rattle.std.specs.Prelude.{ℕ, ◌+◌, List, Option, Some, None, Result, Ok, Err}
use Rattle.std.specs.List.{sum_by}
use Rattle.ksv_basics.specs.Plan.{Ran, Need, Failed, Done, run, behind}
use Rattle.ksv_expr_tree.specs.Tree.{Tree, Arguments, no_arguments, argument}
use Rattle.ksv_expr_meaning.specs.Evaluation.{most_wants}
use Rattle.ksv_expr_value.specs.declared.fault.Fault.{Fault}
use Rattle.ksv_desc.specs.Description.{Description, TypeOfObjects, MemberKind, Parameter, Attribute, ParseInstance, ValueInstance, Field, Content, Choice, Always, Switch, Repeat, Once, Eos, Expr, Until, Extent, Sized, SizeEos, ByItself, Valid, AnyOf, AllOf, valid_of}
use Rattle.ksv_desc.specs.Description as contents
use Rattle.ksv_memo_rules.specs.Meaning.{Meaning}
use Rattle.ksv_memo_rules.specs.declared.rules.Next.{Next}
use Rattle.ksv_memo_rules.specs.declared.rules.Next.TheVariants as steps
use Rattle.ksv_nodes.specs.declared.node.Node.{Node}
use Rattle.ksv_nodes.specs.declared.given.Given.{Given}
use Rattle.ksv_nodes.specs.Numbers.{node_number, node_bound}
use Rattle.ksv_nodes.specs.Turning.{State, turns, fresh}
use Rattle.ksv_rule_meaning.specs.Meaning.{rule_of}

-- ---- how many nodes a rule asks at most

abbrev pub condition_wants : Option Tree → ℕ
condition_wants None = 0
condition_wants (Some e) = most_wants e

abbrev pub repeat_wants : Repeat → ℕ
repeat_wants Once = 0
repeat_wants Eos = 0
repeat_wants (Expr e) = most_wants e
repeat_wants (Until e) = most_wants e

abbrev pub extent_wants : Extent → ℕ
extent_wants (Sized e) = most_wants e
extent_wants SizeEos = 0
extent_wants ByItself = 0

-- what the arguments for an object want at most
unfoldable pub arguments_wants : Arguments → ℕ
arguments_wants no_arguments = 0
arguments_wants (argument e es) = most_wants e + arguments_wants es

abbrev pub content_wants : Content → ℕ
content_wants (contents.Object t given) = arguments_wants given
content_wants _ = 0

abbrev pub choice_wants : Choice → ℕ
choice_wants (Always c) = content_wants c
choice_wants (Switch on cases) = most_wants on + sum_by (λ c. content_wants c.content) cases

-- what the expressions of an attribute or a parse instance want at most
abbrev pub field_wants : Field → ℕ
field_wants f = condition_wants f.condition + (repeat_wants f.repeat + (choice_wants f.choice + extent_wants f.extent))

abbrev pub kind_wants : MemberKind → ℕ
kind_wants Parameter = 0
kind_wants (Attribute f) = field_wants f
kind_wants (ParseInstance e io f) = most_wants e + (condition_wants io + field_wants f)
kind_wants (ValueInstance v) = condition_wants v.condition + most_wants v.value

abbrev pub type_wants : TypeOfObjects → ℕ
type_wants t = sum_by (λ m. kind_wants m.kind) t.members

-- what the conditions for a member's value want at most
abbrev pub valid_wants : Option Valid → ℕ
valid_wants None = 0
valid_wants (Some (AnyOf es)) = sum_by most_wants es
valid_wants (Some (AllOf es)) = sum_by most_wants es

abbrev pub type_checks : TypeOfObjects → ℕ
type_checks t = sum_by (λ m. valid_wants (valid_of m.kind)) t.members

-- What all expressions of a description want at most, and four nodes besides: a rule asks for a head, an end or a rest, and
-- the head of a list.
unfoldable pub most_asks : Description → ℕ
most_asks d = 4 + (sum_by type_wants d.types + sum_by type_checks d.types)

-- ---- a rule by replies

-- the rule of a node, with these replies
abbrev pub resumed : Description → List ℕ → Node → List (Result Given Fault) → Ran Node Fault State Given
resumed d bytes n replies = run turns (rule_of d n) (fresh n.path bytes replies)

-- what it came to
abbrev pub step_of : Ran Node Fault State Given → Next Node (Result Given Fault)
step_of (Need n s) = steps.Need n
step_of (Failed f s) = steps.Done (Err f)
step_of (Done g s) = steps.Done (Ok g)

-- the rules of a description, as an engine sees them
abbrev pub described : Description → Meaning Node (Result Given Fault)
described d = record {
  follow = λ bytes n replies. step_of (resumed d bytes n replies);
  added = λ bytes n replies. (behind (resumed d bytes n replies)).uses;
  number = node_number;
  nodes = node_bound;
  replies = most_asks d;
}
