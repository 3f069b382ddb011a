use Rattle.std.proofs.lemmas.Grind.{common_steps, elements}
use Rattle.std.proofs.Common.{◌≡◌, ◌∙◌, ◌-◌, ◌++◌, ◌∷◌, [], not, ap, sym, arith, length, if◌then◌else◌}
use Rattle.std.specs.Result.{is_ok}
use Rattle.std.proofs.Common.{true}
use Rattle.ksv_folds.proofs.Scanned.{add_one, nth_get}
use Rattle.ksv_folds.proofs.scanning.Saying.add_starts.Goals as goal
use Rattle.ksv_folds.specs.Parts.{nth}

pub loop-self-preserved : goal.loop-self-preserved
loop-self-preserved c =
    let ss = c.loop-self.starts.items in
    let next = c.in-Some.next in
    let ok : is_ok c.push.result ≡ true = c.is_err.ensures.negation ∙ ap not c.if-is_err.false in
    let items = c.push.ensures.items ∙ ap (λ b. if b then ss ++ next ∷ [] else ss) ok in
    let low = c.loop-self.invariant.1 in
    let some = c.requires.some in
    let count = c.len-in-loop-self.ensures in
    let at : length ss - 1 ≡ c.len-in-loop-self.result - 1 = omega arith in
    let last : nth ss (length ss - 1) ≡ c.index-last.result.now =
    ap (nth ss) at ∙ sym (nth_get ss (c.len-in-loop-self.result - 1) c.index-last.result.now (omega arith)) ∙ sym c.index-last.ensures in
    let test = c.loop-self-test.true in
    add_one c.args.self.size c.args.limit c.args.starts.now.items ss c.push.new.self.items next items c.requires.some (omega arith)
    (let le = c.in-Some.ensures.0 in omega (arith, last, le)) c.in-Some.ensures.1 c.loop-self.invariant

pub loop-self-init : goal.loop-self-init
loop-self-init c = grind (arith, common_steps)

pub end_of-requires : goal.end_of-requires
end_of-requires c = grind (arith, elements)
