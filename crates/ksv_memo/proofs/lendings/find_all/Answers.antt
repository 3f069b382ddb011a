use Rattle.ksv_memo.proofs.Common.{refl, ◌≡◌, sym, subst, ap, ◌∙◌, ℕ, [], ◌∷◌, ◌++◌, length, length-append, Some, node_at, IsKept, IsDistinct}
use Rattle.ksv_memo.proofs.Common.{slice_get_within, arith, All-from_recursion}
use Rattle.std.specs.Prelude.{vec_capacity}
use Rattle.std.specs.Map.{keys_of}
use Rattle.std.proofs.lemmas.List.{take_all}
use Rattle.ksv_memo.specs.Lending.{AreSlotsOf, is_lent_from}
use Rattle.ksv_memo.specs.Moves.{Knows}
use Rattle.ksv_memo.proofs.Finding.{node_there}
use Rattle.ksv_memo.proofs.Listing.{slots-none, slots-same, slots-more, found-kept}
use Rattle.ksv_memo.proofs.lendings.find_all.Goals as goal
use Rattle.ksv_memo.proofs.lendings.find_all.Goals.{then-lending-left+in-Kept, then-lending-left+in_default, else-lending-left}

-- none is found yet
pub loop-lending-init : goal.loop-lending-init
loop-lending-init g c = (
  refl,
  refl,
  omega (arith, ap length c.requires.none),
  omega arith,
  omega arith,
  subst (AreSlotsOf (is_lent_from g.N.PartialEq.eq c.args.left []) c.args.slots.now.entries) (sym c.requires.none)
      (slots-none g.N.PartialEq.eq g.met.N.Eq.laws c.args.left c.args.slots.now.entries),
)

-- a slot's number is below how many slots there are
pub overflow_cast-slot : goal.overflow_cast-slot
overflow_cast-slot g c =
    let lt = slice_get_within _ c.in-Kept.slot _ c.in-Kept.ensures.knows.0.1 in
    omega (arith, lt, ap length (c.in-Kept.ensures.entries ∙ c.loop-lending.invariant.0), c.requires.few)

-- no more are found than were gone through
pub push_reserved-requires : goal.push_reserved-requires
push_reserved-requires g c =
    let h = c.loop-lending.invariant in omega (arith, h.1, h.2, c.requires.room)

-- a node from the number on is found, since it is kept, and is none of those before; another changes nothing
pub loop-lending-preserved : goal.loop-lending-preserved
loop-lending-preserved g c =
    let eq = g.N.PartialEq.eq in
    let laws = g.met.N.Eq.laws in
    let ps = c.args.slots.now.entries in
    let ls = c.args.lendings.now in
    let at = c.loop-lending.lending-index in
    let l = c.lending-item.result in
    let found = c.loop-lending.found.items in
    let h = c.loop-lending.invariant in
    elim c.if-lending-left.branch [
      | then-lending-left+in-Kept w ↦
          let i = w.in-Kept.slot in
          let knows = w.in-Kept.ensures.knows in
          let there = node_there w.find.new.self.entries i l.node knows.0.0 knows.0.1 in
          let same : w.find.new.self.entries ≡ ps = w.in-Kept.ensures.entries ∙ h.0 in
          let slots : c.if-lending-left.slots.entries ≡ w.find.new.self.entries = ap (λ s. s.entries) w.slots-is in
          let now : c.if-lending-left.found.items ≡ found ++ i ∷ [] = ap (λ v. v.items) w.found-is ∙ w.push_reserved.ensures.items in
          let many = length-append found (i ∷ []) in
          let looks = ap (λ s. s.looks) w.slots-is in (
            slots ∙ same,
            ap (λ v. vec_capacity v) w.found-is ∙ w.push_reserved.ensures.capacity ∙ h.1,
            omega (arith, ap length now, many, h.2),
            omega (arith, looks, h.3, w.in-Kept.ensures.grows),
            omega (arith, looks, w.in-Kept.ensures.looks, h.4, ap length now, many),
            subst (AreSlotsOf _ ps) (sym now)
                (slots-more eq laws c.args.left ps ls at l c.loop-lending-test.true c.lending-item.is found h.5 w.if-lending-left.true c.requires.apart
                (subst (λ qs. IsDistinct eq (keys_of qs)) same w.in-Kept.ensures.unique) i (subst (λ qs. IsKept qs i) same knows.1)
                (subst (λ qs. node_at qs i ≡ Some l.node) same there)),
          )
      | then-lending-left+in_default w ↦
          let kept = subst (λ x. (i : ℕ) × IsKept ps i × (node_at ps i ≡ Some x.node)) (sym c.lending-item.is)
          (All-from_recursion _ ls c.requires.kept at l c.loop-lending-test.true) in
          let same : w.find.new.self.entries ≡ ps = w.find.ensures.entries ∙ h.0 in
          absurd (found-kept eq laws ps (subst (λ qs. IsDistinct eq (keys_of qs)) same w.find.ensures.unique) l.node kept.0 kept.1 kept.2
          w.find.result (subst (λ qs. Knows eq qs l.node w.find.result) same w.find.ensures.knows) w.in_default.not-Kept)
      | else-lending-left w ↦ (
        ap (λ s. s.entries) w.slots-is ∙ h.0,
        ap (λ v. vec_capacity v) w.found-is ∙ h.1,
        omega (arith, ap (λ v. length v.items) w.found-is, h.2),
        omega (arith, ap (λ s. s.looks) w.slots-is, h.3),
        omega (arith, ap (λ s. s.looks) w.slots-is, ap (λ v. length v.items) w.found-is, h.4),
        subst (AreSlotsOf _ ps) (sym (ap (λ v. v.items) w.found-is))
            (slots-same eq laws c.args.left ps ls at l c.loop-lending-test.true c.lending-item.is found h.5 w.if-lending-left.false),
      )
    ]

-- all were gone through
pub returns-clause-found : goal.returns-clause-found
returns-clause-found g c = subst (λ ls. AreSlotsOf (is_lent_from g.N.PartialEq.eq c.args.left ls) c.args.slots.now.entries c.loop-lending.found.items)
    (take_all c.loop-lending.lending-index c.args.lendings.now c.loop-lending-test.false) c.loop-lending.invariant.5
