use Rattle.ksv_memo.proofs.Common.{◌≡◌, ◌≤◌, ◌+◌, length, take}
use Rattle.std.specs.Prelude.{vec_capacity}
use Rattle.ksv_memo.specs.Lending.{AreSlotsOf, is_lent_from}
use Rattle.ksv_memo.proofs.lendings.find_all.Given as goal

abbrev pub invariant-loop-lending : goal.invariant-loop-lending
invariant-loop-lending g l = (l.slots.entries ≡ l.initial.slots.entries) × (vec_capacity l.found ≡ vec_capacity l.initial.found)
    × (length l.found.items ≤ l.lending-index) × (l.initial.slots.looks ≤ l.slots.looks) × (l.slots.looks ≤ l.initial.slots.looks + length l.found.items)
    × AreSlotsOf (is_lent_from g.N.PartialEq.eq l.left (take l.lending-index l.lendings)) l.initial.slots.entries l.found.items
