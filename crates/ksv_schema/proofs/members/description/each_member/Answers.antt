use Rattle.ksv_schema.proofs.Common.{plain_kind, declared, member}
use Rattle.ksv_schema_names.specs.View.{member_of as row}
use Rattle.ksv_schema.proofs.Each.{each_from_read, each_from_end}
use Rattle.ksv_schema.proofs.members.description.each_member.Goals as goal

pub loop-number-preserved : goal.loop-number-preserved
loop-number-preserved c =
    each_from_read row (member (declared c.args.scopes.now) c.args.within) c.args.members.now _ plain_kind _ _ _ _ _ _ _ _ c.loop-number-test.true
    c.index-members-number.is c.member-next.ensures c.in_ok-made.ensures c.loop-number.invariant

pub returns : goal.returns
returns c = each_from_end row (member (declared c.args.scopes.now) c.args.within) c.args.members.now _ _ _ _ _ c.loop-number-test.false c.loop-number.invariant
