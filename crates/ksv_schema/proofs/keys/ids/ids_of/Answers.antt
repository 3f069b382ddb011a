-- The names of a text, one after the other.
use Rattle.ksv_schema.proofs.Common.{◌++◌, [], ◌∷◌, sym, ap, ◌∙◌, map, option_map, string_bytes, map-append}
use Rattle.ksv_schema.proofs.Paths.{ids_none, ids_end}
use Rattle.ksv_schema.proofs.keys.ids.ids_of.Goals as goal

pub returns-in-None : goal.returns-in-None
returns-in-None c =
    ids_none c.args.text.now (map string_bytes c.names.names.items) _ _
    (ap (λ xs. map string_bytes c.names.names.items ++ xs) (sym c.first_name-size.ensures.is) ∙ c.names.invariant.so_far)
    (ap (option_map string_bytes) (sym c.in-None.is) ∙ c.in_ok-name.ensures)

pub returns-then-size-rest : goal.returns-then-size-rest
returns-then-size-rest c =
    ids_end c.args.text.now (map string_bytes c.names.names.items) _ c.names.rest.now (string_bytes c.in-Some.name) c.first_name-size.result
    (ap (map string_bytes) c.in_ok-push-in-Some.ensures.items ∙ map-append string_bytes c.names.names.items (c.in-Some.name ∷ []))
    (ap (option_map string_bytes) (sym c.in-Some.is) ∙ c.in_ok-name.ensures)
    c.if-size-rest.true c.first_name-size.ensures.is c.names.invariant.so_far c.names.invariant.ids
