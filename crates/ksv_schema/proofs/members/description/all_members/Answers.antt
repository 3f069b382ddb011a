use Rattle.ksv_schema.proofs.Common.{map, subst, plain_kind, declared, Reads, members}
use Rattle.ksv_schema_names.specs.View.{member_of as row}
use Rattle.ksv_schema.proofs.Each.{each_from_read, each_from_end}
use Rattle.ksv_schema.proofs.members.description.all_members.Goals as goal

pub loop-within-preserved : goal.loop-within-preserved
loop-within-preserved c =
    let read = subst (λ ms. Reads (members (declared c.args.scopes.now) c.loop-within.within (map row ms)) (λ w. map plain_kind w.items) c.loop-within.reader
    c.members-next.new.reader c.members-next.result) c.deref.ensures.value c.members-next.ensures in
    each_from_read (λ v. map row v.items) (members (declared c.args.scopes.now)) c.args.types.now _ (λ w. map plain_kind w.items) _ _ _ _ _ _ _ _
    c.loop-within-test.true c.index-types-within.is read c.in_ok-made.ensures c.loop-within.invariant

pub returns : goal.returns
returns c = each_from_end (λ v. map row v.items) (members (declared c.args.scopes.now)) c.args.types.now _ _ _ _ _ c.loop-within-test.false
    c.loop-within.invariant
