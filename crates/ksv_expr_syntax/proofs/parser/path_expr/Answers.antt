use Rattle.ksv_expr_syntax.proofs.Common.{◌≡◌, [], ◌∷◌, ◌++◌, map, string_bytes, arith, ap, sym, ◌∙◌, map-append, path_tree}
use Rattle.std.proofs.lemmas.List.{length-map}
use Rattle.ksv_expr_syntax.proofs.Complete.{path_tree_is}
use Rattle.ksv_expr_syntax.proofs.Exits.{not_zero}
use Rattle.ksv_expr_syntax.proofs.parser.path_expr.Goals as goal

pub returns-else-is_empty : goal.returns-else-is_empty
returns-else-is_empty c =
    let all : map string_bytes c.args.names.items ≡ map string_bytes c.pop.new.self.items ++ string_bytes c.in-Some.last ∷ []
    = ap (map string_bytes) c.in-Some.ensures.items ∙ map-append string_bytes c.pop.new.self.items (c.in-Some.last ∷ []) in
    c.member_expr.ensures
    ∙ sym (path_tree_is (map string_bytes c.pop.new.self.items) (string_bytes c.in-Some.last)
    (omega (arith, not_zero _ _ c.if-is_empty.false c.is_empty.ensures, c.pop.new.self.ok.0, length-map c.pop.new.self.items string_bytes)))
    ∙ ap path_tree (sym all)
