use Rattle.ksv_memo.proofs.Common.{◌∙◌, ap, length, arith, zip, length-set, with_slot}
use Rattle.ksv_memo.proofs.Zipping.{count-zip, write-zip}
use Rattle.ksv_memo.proofs.slots.Slots.set.Goals as goal

pub write-requires : goal.write-requires
write-requires g c =
    omega (
      arith,
      count-zip (g.P.Places.nodes c.self.inside.places) c.self.inside.slots.items c.self.invariant,
      ap (λ v. length v.entries) c.self.view_is
          ∙ ap length c.look.ensures.entries,
    )

pub returns-clause-slots : goal.returns-clause-slots
returns-clause-slots g c =
    let t = c.self.inside in
    ap (zip (g.P.Places.nodes t.places)) c.write.ensures ∙ write-zip (g.P.Places.nodes t.places) t.slots.items c.args.place c.args.new
    ∙ ap (λ v. with_slot v.entries c.args.place c.args.new) c.self.view_is ∙ ap (λ es. with_slot es c.args.place c.args.new) c.look.ensures.entries

pub invariant_of-self : goal.invariant_of-self
invariant_of-self g c = cc (length-set c.self.inside.slots.items c.args.place c.args.new)
