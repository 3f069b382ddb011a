use Rattle.std.proofs.Common.{◌≡◌, ◌∙◌, ◌-◌, ◌≤◌, true, sym, ap, subst, arith, length, inl, inr}
use Rattle.std.proofs.lemmas.Bool.{cases_lt}
use Rattle.ksv_expr_value.specs.Places.{end_limit}
use Rattle.ksv_folds.proofs.Scanned.{starts_again, starts_room, fewer_of}
use Rattle.ksv_folds.proofs.plain_list.PlainList.renew.Goals as goal
use Rattle.ksv_folds.specs.Parts.{are_apart, are_starts, nth}

pub renew-requires-clause-room : goal.renew-requires-clause-room
renew-requires-clause-room c = starts_room c.args.self.now c.in-Some.starts c.in-Some.is

pub invariant_of-self-2-clause-started : goal.invariant_of-self-2-clause-started
invariant_of-self-2-clause-started c =
    let p = c.args.self.now in
    let old = c.in-Some.starts in
    let started = subst (λ o. are_starts o p.first p.size p.most (length p.parts.items) ≡ true) c.in-Some.is p.started in
    starts_again old c.renew.new.starts p.first p.size p.most (c.len.result - 1) (length p.parts.items) started (c.renew.ensures.same 0 (omega arith))
    (omega arith) (ap (λ n. are_apart n 0 c.renew.new.starts.items) (sym c.saying-saying.ensures) ∙ c.renew.ensures.apart)

pub invariant_of-self-2-clause-numbered : goal.invariant_of-self-2-clause-numbered
invariant_of-self-2-clause-numbered c =
    let p = c.args.self.now in
    let few = c.renew.ensures.few in
    let most = c.max.ensures in
    fewer_of p.per c.most_sized.result p.most (c.len.result - 1) c.most_sized.ensures.numbered p.numbered
    (elim (cases_lt c.most_sized.result (c.len.result - 1)) [
      | inl less ↦ inr (omega arith)
      | inr more ↦ inl more
    ])

pub invariant_of-self-2-clause-room : goal.invariant_of-self-2-clause-room
invariant_of-self-2-clause-room c =
    let items = c.renew.new.starts.items in
    let same : length items - 1 ≡ c.len.result - 1 = omega arith in subst (λ n. nth items n ≤ end_limit) same c.renew.ensures.room
