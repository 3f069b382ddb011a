-- A sequence of no nodes.
use Rattle.std.proofs.Common.{[], ◌∷◌, None, refl, arith}
use Rattle.ksv_memo_rules.specs.Folds.{Fold, IsLaid}

-- no node of a root with this answer
abbrev pub none_of : {N A : Type 0} → N → A → Fold N A
none_of root a = record { root = root; size = 0; entry = λ j. record { node = root; answer = a; asked = root ∷ []; uses = [] }; prior = λ j. None; whole = λ j. 0; calls = λ j. 0 }

pub none_laid : {N A : Type 0} (root : N) (a : A) → IsLaid (none_of root a)
none_laid root a = record {
  once = λ i j below other same. absurd (omega arith);
  apart = λ j below same. absurd (omega arith);
  named = λ j. refl;
  earlier = λ j below. tt;
  whole = λ j below. absurd (omega arith);
}
