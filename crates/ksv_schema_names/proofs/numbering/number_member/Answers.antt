use Rattle.ksv_schema_names.proofs.Common.{declared}
use Rattle.ksv_expr_tree.specs.Tree.{member_of}
use Rattle.ksv_schema_names.proofs.Numbers.{given_is}
use Rattle.ksv_schema_names.proofs.numbering.number_member.Goals as goal

pub returns : goal.returns
returns c = given_is (declared c.args.scopes.now) c.args.within (member_of c.args.member.now) _ c.given_member-member.ensures
