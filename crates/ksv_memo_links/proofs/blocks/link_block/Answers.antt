use Rattle.ksv_memo_links.proofs.Common.{◌≡◌, ◌⊎◌, inl, inr, ℕ, ◌+◌, ◌<◌, ◌≤◌, List, [], ◌∷◌, length, set, refl, sym, ◌∙◌, ap, arith, set-get_or, Entry}
use Rattle.ksv_memo_links.proofs.Common.{Block, row, named_of, IsChained, IsFree}
use Rattle.ksv_memo_links.specs.Chained.{IsRoom, IsExtended}
use Rattle.ksv_memo_links.proofs.Linking.{named-still, chained-still}
use Rattle.ksv_memo_links.proofs.blocks.link_block.Goals as goal

still : {a : List Entry} (b : List Entry) {B : List Block} {f : List ℕ} (s begin count : ℕ) → IsChained a B f
    → (IsRoom a s begin count × (b ≡ a)) ⊎ IsExtended a b begin count → IsChained b B f × (named_of b B ≡ named_of a B)
still b {B} s begin count h (inl e) = (rw e.1 h, ap (λ x. named_of x B) e.1)
still {a} b {B} {f} s begin count h (inr e) =
    let more : length a ≤ length b = (omega arith) in
    (chained-still a b B f h more e.fits e.each, named-still a b B f h more e.fits e.each)

free : {a : List Entry} (b : List Entry) {B : List Block} {f : List ℕ} (s begin count : ℕ) → IsChained a B f
    → (IsRoom a s begin count × (b ≡ a)) ⊎ IsExtended a b begin count → (k : ℕ) → k < count → IsFree B s (begin + k)
free b s begin count h (inl e) k lt t ne v = ne (sym (h.owner t (begin + k) v) ∙ e.0.named k lt)
free b s begin count h (inr e) k lt t ne v = omega (arith, h.inside t (begin + k) v)

pub fill_block-requires-clause-chained : goal.fill_block-requires-clause-chained
fill_block-requires-clause-chained c =
    (still _ c.args.owner c.in_ok-begin.begin
    c.in_ok-count.count c.requires.chained c.in_ok-begin.ensures.ok).0

pub fill_block-requires-clause-free : goal.fill_block-requires-clause-free
fill_block-requires-clause-free c k lt t ne v =
    let n = c.in_ok-count.ensures in
    free _ _ _ _
    c.requires.chained c.in_ok-begin.ensures.ok _ (omega arith) t ne v

none-of : (ns : List ℕ) → length ns ≡ 0 → ns ≡ []
none-of [] e = refl
none-of (n ∷ ns) e = absurd (omega arith)

-- a row that was empty is set to none
still-none : (rows : List (List ℕ)) (s : ℕ) (ns : List ℕ) → row rows s ≡ [] → length ns ≡ 0 → rows ≡ set rows s ns
still-none rows s ns none e = sym (ap (set rows s) (none-of ns e ∙ sym none) ∙ set-get_or rows s [])

pub returns-then-count-eq0-clause-ok : goal.returns-then-count-eq0-clause-ok
returns-then-count-eq0-clause-ok c =
    let n = c.in_ok-count.ensures in
    let z = c.if-count-eq0.true in
    still-none _ _ _ c.requires.none (omega arith)
