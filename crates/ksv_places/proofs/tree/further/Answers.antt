use Rattle.ksv_places.proofs.Common.{◌≡◌, ◌<◌, ℕ, List, [], Ok, Err, Result, OnErr, length, get_or, ◌∙◌, refl, arith, Step, Link, number_at}
use Rattle.ksv_places.proofs.Common.{shelf_at, look, paths_of, IsMore}
use Rattle.std.proofs.Common.{IfOk}
use Rattle.ksv_places.specs.Tree.{IsFurther, IsGrown}
use Rattle.ksv_places.proofs.Walking.{further, inside}
use Rattle.ksv_places.proofs.Reaching.{same_more, grown_more, grown_further}
use Rattle.ksv_places.proofs.tree.further.Goals as goal

more_by : {E : Type 0} (old new : List Link) (r : ℕ) (s : Step) → r < length old → (x : Result ℕ E) → IfOk x (λ c. IsGrown old new r s c) → OnErr x (new ≡ old)
    → IsMore (paths_of old) (paths_of new)
more_by old new r s lt (Ok c) h k = grown_more old new r s c lt h
more_by old new r s lt (Err e) h k = rw k (same_more (paths_of old))

further_by : {E : Type 0} (old new : List Link) (r : ℕ) (s : Step) → r < length old → (x : Result ℕ E) → IfOk x (λ c. IsGrown old new r s c)
    → IfOk x (λ c. IsFurther old new r s c)
further_by old new r s lt (Ok c) h = grown_further old new r s c lt h
further_by old new r s lt (Err e) h = h

pub returns-then-number-eq0-clause-more : goal.returns-then-number-eq0-clause-more
returns-then-number-eq0-clause-more c = more_by c.args.links.now.items c.grow.new.links.items c.args.path c.args.step c.requires.there c.grow.result
    c.grow.ensures.ok c.grow.ensures.err

pub returns-then-number-eq0-clause-ok : goal.returns-then-number-eq0-clause-ok
returns-then-number-eq0-clause-ok c = further_by c.args.links.now.items c.grow.new.links.items c.args.path c.args.step c.requires.there c.grow.result
    c.grow.ensures.ok

pub returns-clause-ok : goal.returns-clause-ok
returns-clause-ok c =
    let links = c.args.links.now.items in
    let firsts = number_at c.args.firsts.now in
    let members = shelf_at c.args.members.now in
    let elements = shelf_at c.args.elements.now in
    let k = look links firsts members elements c.args.path c.args.step in
    let is : c.look-number.result ≡ k = c.look-number.ensures ∙ (λ i. look (c.as_slice.ensures.value i) firsts members elements c.args.path c.args.step) in
    let some : 0 < k = omega (arith, c.if-number-eq0.false) in
    record {
      inside = rw is (inside links firsts members elements c.requires.tree c.args.path c.args.step c.requires.there some);
      is = rw is (further links firsts members elements c.requires.tree c.args.path c.args.step (get_or (paths_of links) c.args.path [])
          c.requires.there refl some);
    }
