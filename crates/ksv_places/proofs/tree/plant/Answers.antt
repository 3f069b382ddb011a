use Rattle.ksv_places.proofs.Common.{◌≡◌, ℕ, suc, true, List, [], ◌∷◌, length, sym, ◌∙◌, ap, refl, arith, nat_tests, Name, Link, paths_of}
use Rattle.std.specs.Bool.{◌==◌}
use Rattle.ksv_places.proofs.Planting.{planted}
use Rattle.ksv_places.proofs.Reaching.{from_none}
use Rattle.ksv_places.proofs.tree.plant.Goals as goal

none_counted : (n : ℕ) → (n == 0) ≡ true → n ≡ 0
none_counted n e = grind (arith, nat_tests)

none_there : (ls : List Link) → (length ls == 0) ≡ true → ls ≡ []
none_there [] e = refl
none_there (l ∷ ls) e = absurd (let n : suc (length ls) ≡ 0 = none_counted (suc (length ls)) e in omega arith)

pub returns-in_ok-push-clause-more : goal.returns-in_ok-push-clause-more
returns-in_ok-push-clause-more c =
    let none : c.args.links.now.items ≡ [] = none_there _
    (ap (λ ls. length ls == 0) (sym c.as_slice.ensures.value) ∙ sym c.is_empty.ensures ∙ c.if-is_empty.true) in
    rw none (from_none (paths_of c.push.new.self.items))

pub returns-in_ok-push-clause-tree : goal.returns-in_ok-push-clause-tree
returns-in_ok-push-clause-tree c firsts members elements tree =
    let none : c.args.links.now.items ≡ [] = none_there _
    (ap (λ ls. length ls == 0) (sym c.as_slice.ensures.value) ∙ sym c.is_empty.ensures ∙ c.if-is_empty.true) in
    let link : Link = record { parent = 0; step = Name 0; next = 0 } in
    rw (c.in_ok-push.ensures.items, none) (planted firsts members elements (rw none at tree) link)
