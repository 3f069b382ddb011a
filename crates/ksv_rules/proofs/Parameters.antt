-- How many parameters are among the first members, one member after the other.
use Rattle.std.proofs.Common.{◌≡◌, ℕ, zero, suc, ◌+◌, ◌-◌, ◌==◌, false, if◌then◌else◌, List, [], ◌∷◌, refl, ap, arith}
use Rattle.ksv_desc.specs.Description.{MemberOfType}
use Rattle.ksv_rule_meaning.specs.Fields.{is_parameter, parameters_before}

pub no_more : (ms : List MemberOfType) → parameters_before 0 ms ≡ 0
unfolding parameters_before
no_more ms = refl

pub none_left : (i : ℕ) → parameters_before i [] ≡ 0
unfolding parameters_before
none_left zero = refl
none_left (suc i) = refl

pub one_more : (i : ℕ) (m : MemberOfType) (ms : List MemberOfType) → (i == 0) ≡ false
    → parameters_before i (m ∷ ms) ≡ (if is_parameter m then parameters_before (i - 1) ms + 1 else parameters_before (i - 1) ms)
unfolding parameters_before
one_more zero m ms h = absurd (cc)
one_more (suc i) m ms h =
    let same : i ≡ suc i - 1 = omega arith in
    ap (λ (j : ℕ). if is_parameter m then parameters_before j ms + 1 else parameters_before j ms) same
