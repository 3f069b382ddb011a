use Rattle.ksv_expr_syntax.proofs.Common.{◌≡◌, List, ℕ, [], ◌∷◌, ◌++◌, map, string_bytes, arith, ap, ◌∙◌, map-append, lexemes, common_steps}
use Rattle.ksv_expr_syntax.proofs.Loops.{path_goes_on}
use Rattle.ksv_expr_syntax.proofs.cursor.path.Goals as goal

pub names-preserved : goal.names-preserved
names-preserved c =
    let all : map string_bytes c.push.new.self.items ≡ map string_bytes c.names.names.items ++ c.in-Some.text.now ∷ []
    = ap (map string_bytes) c.in_ok-push.ensures.items ∙ map-append string_bytes c.names.names.items (c.in_ok-from_str.field-0 ∷ [])
    ∙ ap (λ (w : List ℕ). map string_bytes c.names.names.items ++ w ∷ []) c.in_ok-from_str.ensures.ok in
    record {
      is = path_goes_on c.in-Some.text.now (lexemes c.in-Some.tokens.now) (lexemes c.in-Some-behind.tokens.now) c.names.invariant.is c.in-Some.ensures.is
          c.in-Some-behind.ensures.is all;
      same = c.names.invariant.same;
      shorter = omega (arith, c.names.invariant.shorter, c.in-Some.ensures.shorter, c.in-Some-behind.ensures.shorter);
    }

pub returns-in_default-behind-clause-is : goal.returns-in_default-behind-clause-is
returns-in_default-behind-clause-is c = grind (arith, common_steps)
