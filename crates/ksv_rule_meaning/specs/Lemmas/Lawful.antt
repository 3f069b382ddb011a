-- The rules of a description keep the laws that an engine asks of rules.
use Rattle.std.proofs.Common.{◌≡◌, ℕ, List, Result, refl, ap, ◌∙◌}
use Rattle.std.specs.List.{AllByRecursion}
use Rattle.ksv_basics.specs.Plan.{Ran, Need, Failed, Done, behind}
use Rattle.ksv_bytes.specs.Uses.{AgreeOn}
use Rattle.ksv_expr_value.specs.declared.fault.Fault.{Fault}
use Rattle.ksv_desc.specs.Description.{Description}
use Rattle.ksv_memo_rules.specs.Meaning.{IsLawful}
use Rattle.ksv_nodes.specs.declared.node.Node.{Node}
use Rattle.ksv_nodes.specs.declared.given.Given.{Given}
use Rattle.ksv_nodes.specs.Numbers.{node_number-one, node_number-below}
use Rattle.ksv_nodes.specs.Turning.{State}
use Rattle.ksv_nodes.specs.Laws.{ran_on}
use Rattle.ksv_nodes.proofs.Resuming.{is_local, fits}
use Rattle.ksv_rule_meaning.specs.Meaning.{rule_of}
use Rattle.ksv_rule_meaning.specs.Described.{described, resumed, step_of}
use Rattle.ksv_rule_meaning.specs.Lemmas.Bounds.{settles}

-- on other bytes a run yields the same step, with the same uses
step_on : (others : List ℕ) (r : Ran Node Fault State Given) → step_of (ran_on others r) ≡ step_of r
step_on others (Need n s) = refl
step_on others (Failed f s) = refl
step_on others (Done g s) = refl

uses_on : (others : List ℕ) (r : Ran Node Fault State Given) → (behind (ran_on others r)).uses ≡ (behind r).uses
uses_on others (Need n s) = refl
uses_on others (Failed f s) = refl
uses_on others (Done g s) = refl

module _ (d : Description) (bytes others : List ℕ) (n : Node) (replies : List (Result Given Fault)) where
  agreed : AllByRecursion (AgreeOn bytes others) (behind (resumed d bytes n replies)).uses → resumed d others n replies ≡ ran_on others (resumed d bytes n replies)
  agreed agree = is_local (rule_of d n) n.path bytes others replies agree

  same_step : AllByRecursion (AgreeOn bytes others) (behind (resumed d bytes n replies)).uses → step_of (resumed d others n replies) ≡ step_of (resumed d bytes n replies)
  same_step agree = ap step_of (agreed agree) ∙ step_on others (resumed d bytes n replies)

  same_uses : AllByRecursion (AgreeOn bytes others) (behind (resumed d bytes n replies)).uses → (behind (resumed d others n replies)).uses ≡ (behind (resumed d bytes n replies)).uses
  same_uses agree = ap (λ (r : Ran Node Fault State Given). (behind r).uses) (agreed agree) ∙ uses_on others (resumed d bytes n replies)

pub described_lawful : (d : Description) → IsLawful (described d)
described_lawful d = record {
  own_number = node_number-one;
  bounded = node_number-below;
  settles = settles d;
  same_step = same_step d;
  same_uses = same_uses d;
  can_use = λ bytes n replies. fits (rule_of d n) n.path bytes replies;
}
