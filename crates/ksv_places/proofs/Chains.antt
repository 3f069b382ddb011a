-- The members of a path in a chain.
use Rattle.ksv_places.proofs.Common.{◌≡◌, ℕ, zero, suc, ◌+◌, ◌<◌, List, ◌++◌, true, false, length, refl, ◌∙◌, ap, arith, get_or_append_left, Link, link_at}
use Rattle.ksv_places.proofs.Common.{chain, is_name}
use Rattle.std.proofs.Common.{cond}
use Rattle.ksv_places.specs.Tree.{chain_length}

-- each member leads to one of a smaller number
abbrev pub Falls : List Link → Type 0
Falls links = (c : ℕ) → 0 < c → c < length links → (link_at links c).next < c

-- any fuel above the number does
pub any_fuel : (links : List Link) (x : ℕ) → Falls links → (f g c : ℕ) → c < f → c < g → c < length links → chain links f c x ≡ chain links g c x
any_fuel links x h zero g c a b l = omega arith
any_fuel links x h (suc f) zero c a b l = omega arith
any_fuel links x h (suc f) (suc g) zero a b l = refl
any_fuel links x h (suc f) (suc g) (suc c) a b l =
    let n = (link_at links (suc c)).next in
    let less : n < suc c = h (suc c) (omega arith) l in
    ap (λ k. cond (is_name (link_at links (suc c)).step x) (suc c) k) (any_fuel links x h f g n (omega arith) (omega arith) (omega arith))

-- further links change nothing
pub more_links : (links new : List Link) (x : ℕ) → Falls links → (f c : ℕ) → c < length links → chain (links ++ new) f c x ≡ chain links f c x
more_links links new x h zero c l = refl
more_links links new x h (suc f) zero l = refl
more_links links new x h (suc f) (suc c) l =
    let same : link_at (links ++ new) (suc c) ≡ link_at links (suc c) = get_or_append_left links new _ (suc c) l in
    let less : (link_at links (suc c)).next < suc c = h (suc c) (omega arith) l in
    (λ i. cond (is_name (same i).step x) (suc c) (chain (links ++ new) f (same i).next x))
    ∙ ap (λ k. cond (is_name (link_at links (suc c)).step x) (suc c) k) (more_links links new x h f (link_at links (suc c)).next (omega arith))

-- a step along the chain
pub step_on : (links : List Link) (x : ℕ) → Falls links → (c : ℕ) → 0 < c → c < length links → is_name (link_at links c).step x ≡ false
    → chain links (length links) c x ≡ chain links (length links) (link_at links c).next x
step_on links x h zero p l e = omega arith
step_on links x h (suc c) p l e = any_fuel links x h (length links) (suc (length links)) (suc c) l (omega arith) l ∙ rw e refl

pub found_at : (links : List Link) (x : ℕ) → Falls links → (c : ℕ) → 0 < c → c < length links → is_name (link_at links c).step x ≡ true
    → chain links (length links) c x ≡ c
found_at links x h zero p l e = omega arith
found_at links x h (suc c) p l e = any_fuel links x h (length links) (suc (length links)) (suc c) l (omega arith) l ∙ rw e refl

pub ended : (links : List Link) (x f : ℕ) → chain links f 0 x ≡ 0
ended links x zero = refl
ended links x (suc f) = refl

-- how many there are from a path on
any_fuel_length : (links : List Link) → Falls links → (f g c : ℕ) → c < f → c < g → c < length links → chain_length links f c ≡ chain_length links g c
any_fuel_length links h zero g c a b l = omega arith
any_fuel_length links h (suc f) zero c a b l = omega arith
any_fuel_length links h (suc f) (suc g) zero a b l = refl
any_fuel_length links h (suc f) (suc g) (suc c) a b l =
    let n = (link_at links (suc c)).next in
    let less : n < suc c = h (suc c) (omega arith) l in
    ap (λ k. 1 + k) (any_fuel_length links h f g n (omega arith) (omega arith) (omega arith))

pub length_on : (links : List Link) → Falls links → (c : ℕ) → 0 < c → c < length links
    → chain_length links (length links) c ≡ 1 + chain_length links (length links) (link_at links c).next
length_on links h zero p l = omega arith
length_on links h (suc c) p l = any_fuel_length links h (length links) (suc (length links)) (suc c) l (omega arith) l
