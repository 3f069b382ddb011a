use Rattle.std.proofs.Common.{◌≡◌, ◌∙◌, ℕ, zero, suc, ◌-◌, ◌*◌, sym, ap, arith}
use Rattle.ksv_memo_rules.specs.Folds.{calls_from}
use Rattle.ksv_test_engine.proofs.samples.sum_folds.SumListFoldsLinkU32Missing.calls.Goals as goal

-- two for each
twice : (from count : ℕ) → calls_from (λ j. 2) from count ≡ 2 * count
twice from zero = omega arith
twice from (suc k) = let before = twice from k in omega (arith, before)

pub returns : goal.returns
returns c = ap (λ k. 2 * k) c.from.ensures ∙ sym (twice c.args.from (c.args.to - c.args.from))
