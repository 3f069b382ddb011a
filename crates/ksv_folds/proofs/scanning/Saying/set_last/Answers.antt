use Rattle.std.proofs.lemmas.Grind.{elements}
use Rattle.std.proofs.Common.{◌≡◌, ◌∙◌, ◌+◌, true, suc, sym, subst, arith, set}
use Rattle.ksv_folds.proofs.Scanned.{apart_set, nth_get, nth_before, nth_set}
use Rattle.ksv_folds.proofs.scanning.Saying.set_last.Goals as goal
use Rattle.ksv_folds.specs.Parts.{are_apart, nth}

pub returns-in-Some-clause-apart : goal.returns-in-Some-clause-apart
returns-in-Some-clause-apart c =
    let ss = c.args.starts.now.items in
    let element = c.args.element in
    let all = c.requires.last in
    let one : element + 1 ≡ suc element = omega arith in
    let at : nth ss element ≡ c.index.result.now = sym (nth_get ss element c.index.result.now (omega (arith, all))) ∙ sym c.index.ensures in
    let le = c.in-Some.ensures.0 in
    subst (λ j. are_apart c.args.self.size 0 (set ss j c.in-Some.next) ≡ true) (sym one)
    (apart_set c.args.self.size 0 ss element c.in-Some.next c.requires.apart (omega (arith, all)) (omega (arith, at, le)))

pub end_of-requires : goal.end_of-requires
end_of-requires c = grind (arith, elements)

pub returns-in-Some-clause-same : goal.returns-in-Some-clause-same
returns-in-Some-clause-same c = grind (arith, apart_set, nth_before, nth_set)

pub returns-in-Some-clause-room : goal.returns-in-Some-clause-room
returns-in-Some-clause-room c = grind (arith, apart_set, nth_before, nth_set)
