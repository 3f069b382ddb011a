use Rattle.ksv_yaml_scan.proofs.Common.{◌≡◌, ℕ, suc, ◌+◌, List, [], ◌∷◌, refl, ap, ◌∙◌, arith, Quote, double, with_bytes, inside}
use Rattle.std.proofs.Common.{◌*◌}
use Rattle.std.specs.Prelude.{Some, None, Option}
use Rattle.std.proofs.lemmas.Result.{IfOk-weaker, IfErr-weaker}
use Rattle.ksv_yaml_scan.specs.Quoted.{Escaped, digits_from}
use Rattle.ksv_yaml_scan.proofs.quoted.read_code.Goals as goal

with_nothing : (o : Option Quote) → with_bytes [] o ≡ o
with_nothing None = refl
with_nothing (Some q) = refl

escape_pair : (c : ℕ) (cs : List ℕ) → c ≡ 117 → inside double Escaped (c ∷ cs) ≡ digits_from 4 0 cs
escape_pair c cs e = ap (λ (c : ℕ). inside double Escaped (c ∷ cs)) e ∙ with_nothing (digits_from 4 0 cs)

-- the digits are the whole number
of_four : (c : ℕ) (cs rest : List ℕ) (x : ℕ) → c ≡ 117 → ((k n : ℕ) → digits_from (suc (suc (suc (suc k)))) n cs ≡ digits_from k (n * 65536 + x) rest)
    → inside double Escaped (c ∷ cs) ≡ digits_from 0 x rest
of_four c cs rest x e f = let s : 0 * 65536 + x ≡ x = omega arith in escape_pair c cs e ∙ f 0 0 ∙ ap (λ (n : ℕ). digits_from 0 n rest) s

pub returns-in-117-clause-ok : goal.returns-in-117-clause-ok
returns-in-117-clause-ok c = IfOk-weaker c.read_pair.result _ _ (λ x f. of_four c.args.byte c.args.content.now x.1.now x.0 c.in-117.is f) c.read_pair.ensures.ok

pub returns-in-117-clause-err : goal.returns-in-117-clause-err
returns-in-117-clause-err c = IfErr-weaker c.read_pair.result _ _ (λ x f. escape_pair c.args.byte c.args.content.now c.in-117.is ∙ f 0 0)
    c.read_pair.ensures.err
