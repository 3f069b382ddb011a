use Rattle.ksv_schema.proofs.Common.{ap, ◌∷◌, map, plain_kind, context_of}
use Rattle.std.specs.Vec.Iter.{into_iter_items}
use Rattle.ksv_desc.specs.Pieces.{plain_member}
use Rattle.ksv_schema_names.specs.View.{member_of as row}
use Rattle.ksv_schema.specs.Description.{each_of, member_of}
use Rattle.ksv_schema.proofs.Made.{one_more, no_more}
use Rattle.ksv_schema.proofs.members.description.add_kinds.Goals as goal

pub loop-member-preserved : goal.loop-member-preserved
loop-member-preserved c =
    let f = member_of (context_of c.args.context.now) in
    one_more plain_member c.args.members.now _ _ _ _ (λ ms. each_of f (map row ms) (map plain_kind (into_iter_items c.loop-member.kinds))) _
    (λ ms. each_of f (map row ms) (map plain_kind (into_iter_items c.next.new.self))) _ c.loop-member-test.true c.member-item.is c.member_of.ensures
    (λ ms. ap (λ ks. each_of f (map row (c.member-item.result ∷ ms)) (map plain_kind ks)) c.in-Some.ensures.items) c.loop-member.invariant _ _
    c.if-not-branch.false c.in_ok-add.ensures

pub returns-then-not-branch : goal.returns-then-not-branch
returns-then-not-branch c =
    let f = member_of (context_of c.args.context.now) in
    no_more plain_member c.args.members.now _ _ _ _ (λ ms. each_of f (map row ms) (map plain_kind (into_iter_items c.loop-member.kinds))) _
    (λ ms. each_of f (map row ms) (map plain_kind (into_iter_items c.next.new.self))) _ c.loop-member-test.true c.member-item.is c.member_of.ensures
    (λ ms. ap (λ ks. each_of f (map row (c.member-item.result ∷ ms)) (map plain_kind ks)) c.in-Some.ensures.items) c.loop-member.invariant _ _
    c.if-not-branch.true c.in_ok-add.ensures
