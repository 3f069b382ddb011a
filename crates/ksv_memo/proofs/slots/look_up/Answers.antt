use Rattle.std.proofs.lemmas.Grind.{elements}
use Rattle.ksv_memo.proofs.Common.{sym, subst, refl, ◌∙◌, zip, IsDistinct, arith}
use Rattle.std.proofs.lemmas.Map.Made.{keys_of-zip}
use Rattle.ksv_memo_rules.specs.declared.replies.Slot.TheVariants.{Value, Fault}
use Rattle.ksv_memo.proofs.Finding.{kept_there}
use Rattle.ksv_memo.proofs.Zipping.{any-zip, inside-zip}
use Rattle.ksv_memo.proofs.slots.look_up.Goals as goal

pub returns-in-None-clause-knows : goal.returns-in-None-clause-knows
returns-in-None-clause-knows g c = any-zip (g.N.PartialEq.eq c.args.node.now) (g.P.Places.nodes c.find.new.self) c.args.slots.now
    (cc) ∙ c.in-None.ensures.none

pub returns-in-Empty-clause-knows : goal.returns-in-Empty-clause-knows
returns-in-Empty-clause-knows g c = inside-zip (g.P.Places.nodes c.find.new.self) c.args.slots.now c.in-Some.place c.args.node.now _
    _ (cc) c.in-Some.ensures.some c.index-slots-place.is c.in-Empty.is

pub returns-in-Open-clause-knows : goal.returns-in-Open-clause-knows
returns-in-Open-clause-knows g c = (
  c.in-Some.place,
  inside-zip (g.P.Places.nodes c.find.new.self) c.args.slots.now c.in-Some.place c.args.node.now _ _
      (cc) c.in-Some.ensures.some c.index-slots-place.is c.in-Open.is,
)

pub returns-in-Value-clause-knows : goal.returns-in-Value-clause-knows
returns-in-Value-clause-knows g c =
    let slot = Value c.in-Value.field-0 in
    let there = inside-zip (g.P.Places.nodes c.find.new.self) c.args.slots.now c.in-Some.place c.args.node.now _ _
    (cc) c.in-Some.ensures.some c.index-slots-place.is c.in-Value.is in
    ((slot, there), kept_there (zip (g.P.Places.nodes c.find.new.self) c.args.slots.now) c.in-Some.place c.args.node.now slot there refl)

pub returns-in-Fault-clause-knows : goal.returns-in-Fault-clause-knows
returns-in-Fault-clause-knows g c =
    let slot = Fault c.in-Fault.field-0 in
    let there = inside-zip (g.P.Places.nodes c.find.new.self) c.args.slots.now c.in-Some.place c.args.node.now _ _
    (cc) c.in-Some.ensures.some c.index-slots-place.is c.in-Fault.is in
    ((slot, there), kept_there (zip (g.P.Places.nodes c.find.new.self) c.args.slots.now) c.in-Some.place c.args.node.now slot there refl)

pub returns-in-None-clause-unique : goal.returns-in-None-clause-unique
returns-in-None-clause-unique g c = subst (IsDistinct g.N.PartialEq.eq)
    (sym (keys_of-zip (g.P.Places.nodes c.find.new.self) c.args.slots.now (cc))) c.in-None.ensures.unique

pub returns-in-Empty-clause-unique : goal.returns-in-Empty-clause-unique
returns-in-Empty-clause-unique g c = subst (IsDistinct g.N.PartialEq.eq)
    (sym (keys_of-zip (g.P.Places.nodes c.find.new.self) c.args.slots.now (cc))) c.in-Some.ensures.unique

pub returns-in-Open-clause-unique : goal.returns-in-Open-clause-unique
returns-in-Open-clause-unique g c = subst (IsDistinct g.N.PartialEq.eq)
    (sym (keys_of-zip (g.P.Places.nodes c.find.new.self) c.args.slots.now (cc))) c.in-Some.ensures.unique

pub returns-in-Value-clause-unique : goal.returns-in-Value-clause-unique
returns-in-Value-clause-unique g c = subst (IsDistinct g.N.PartialEq.eq)
    (sym (keys_of-zip (g.P.Places.nodes c.find.new.self) c.args.slots.now (cc))) c.in-Some.ensures.unique

pub returns-in-Fault-clause-unique : goal.returns-in-Fault-clause-unique
returns-in-Fault-clause-unique g c = subst (IsDistinct g.N.PartialEq.eq)
    (sym (keys_of-zip (g.P.Places.nodes c.find.new.self) c.args.slots.now (cc))) c.in-Some.ensures.unique

pub offset_bounds-slots-place : goal.offset_bounds-slots-place
offset_bounds-slots-place g c = grind (arith, elements)

pub bounds-slots-place : goal.bounds-slots-place
bounds-slots-place g c = grind (arith, elements)
