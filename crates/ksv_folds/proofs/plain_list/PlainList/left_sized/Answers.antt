use Rattle.std.proofs.Common.{◌≡◌, ◌∙◌, ◌+◌, ◌<◌, ◌≤◌, ℕ, suc, nat_lt, true, false, sym, arith}
use Rattle.std.proofs.lemmas.Bool.Decides.{nat_tests}
use Rattle.ksv_folds.proofs.Overwrites.{from_up, keeps, takes}
use Rattle.ksv_folds.proofs.plain_list.PlainList.left_sized.Goals as goal
use Rattle.ksv_folds.specs.Sequence.{edge_of, sizer}

not_past : (at z : ℕ) → nat_lt at z ≡ false → z ≤ at
not_past at z h = grind (arith, nat_tests)

past : (at z : ℕ) → at < z → nat_lt at z ≡ true
past at z h = grind (arith, nat_tests)

pub returns-then-element-self : goal.returns-then-element-self
returns-then-element-self c =
    keeps c.args.self.now c.args.at c.args.count c.requires.says c.said_before-element.result c.args.kept c.requires.few c.said_before-element.ensures.before
    (λ i le low. absurd (omega (arith, le, low)))

pub returns-then-not-said_from : goal.returns-then-not-said_from
returns-then-not-said_from c =
    let p = c.args.self.now in
    let m = c.said_before-element.result in
    let far = not_past (edge_of p m (sizer p)) (c.args.at + c.args.count) (sym c.said_from.ensures ∙ c.if-not-said_from.true) in
    keeps p c.args.at c.args.count c.requires.says m c.args.kept c.requires.few c.said_before-element.ensures.before
    (λ i le low. (let up = from_up p c.requires.says m i le low in omega (arith, far, up)))

pub returns : goal.returns
returns c =
    let p = c.args.self.now in
    let m = c.said_before-element.result in
    let within = c.said_before-element.ensures.within in
    let low : m < p.most = omega arith in
    takes p c.args.at c.args.count c.requires.says m low c.args.kept c.min.result c.requires.few c.said_before-element.ensures.before
    (sym c.said_from.ensures ∙ c.if-not-said_from.false)
    (past c.args.at (edge_of p m (suc (sizer p))) (c.said_before-element.ensures.behind m (omega arith) low))
    (omega arith) (omega arith) (λ less. omega (arith, less))
