use Rattle.ksv_schema.proofs.Common.{◌∙◌, ap, ◌+◌, ◌∷◌, map, arith, plain_kind, declared, members_of, row_of}
use Rattle.std.specs.Vec.Iter.{into_iter_items}
use Rattle.ksv_desc.specs.Pieces.{plain_type}
use Rattle.ksv_schema_names.specs.View.{member_of}
use Rattle.ksv_schema.specs.Description.{types_of}
use Rattle.ksv_schema.proofs.Made.{same_at, same_length, one_more, no_more}
use Rattle.ksv_schema.proofs.members.description.add_types.Goals as goal

pub bounds-members-within : goal.bounds-members-within
bounds-members-within c = let l = same_length (λ v. map member_of v.items) members_of row_of c.args.members.now c.args.types.now c.requires in omega
    (arith, l, c.loop-within-test.true)

pub type_of-requires : goal.type_of-requires
type_of-requires c =
    ap (map member_of) c.deref.ensures.value
    ∙ same_at (λ v. map member_of v.items) members_of row_of c.args.members.now c.args.types.now c.loop-within.within c.index-members-within.result
    c.index-types-within.result c.requires c.loop-within-test.true c.index-members-within.is c.index-types-within.is

pub loop-within-preserved : goal.loop-within-preserved
loop-within-preserved c =
    let d = declared c.args.scopes.now in
    one_more plain_type c.args.types.now _ _ _ _
    (λ rs. types_of d c.args.names.now c.loop-within.within (map row_of rs) (map (λ w. map plain_kind w.items) (into_iter_items c.loop-within.kinds))) _
    (λ rs. types_of d c.args.names.now (c.loop-within.within + 1) (map row_of rs) (map (λ w. map plain_kind w.items) (into_iter_items c.next.new.self))) _
    c.loop-within-test.true c.index-types-within.is c.in_ok-desc.ensures
    (λ rs. ap (λ ks. types_of d c.args.names.now c.loop-within.within (map row_of (c.index-types-within.result ∷ rs)) (map (λ w. map plain_kind w.items) ks))
    c.in-Some.ensures.items)
    c.loop-within.invariant _ _ c.if-not-branch.false c.in_ok-add.ensures

pub returns-then-not-branch : goal.returns-then-not-branch
returns-then-not-branch c =
    let d = declared c.args.scopes.now in
    no_more plain_type c.args.types.now _ _ _ _
    (λ rs. types_of d c.args.names.now c.loop-within.within (map row_of rs) (map (λ w. map plain_kind w.items) (into_iter_items c.loop-within.kinds))) _
    (λ rs. types_of d c.args.names.now (c.loop-within.within + 1) (map row_of rs) (map (λ w. map plain_kind w.items) (into_iter_items c.next.new.self))) _
    c.loop-within-test.true c.index-types-within.is c.in_ok-desc.ensures
    (λ rs. ap (λ ks. types_of d c.args.names.now c.loop-within.within (map row_of (c.index-types-within.result ∷ rs)) (map (λ w. map plain_kind w.items) ks))
    c.in-Some.ensures.items)
    c.loop-within.invariant _ _ c.if-not-branch.true c.in_ok-add.ensures
