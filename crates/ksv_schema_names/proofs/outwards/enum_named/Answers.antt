use Rattle.ksv_schema_names.proofs.Common.{map, ap, sym, ◌∙◌, List, ℕ, row_of}
use Rattle.std.specs.Prelude.{string_bytes}
use Rattle.ksv_schema_names.specs.Types.{enum_behind}
use Rattle.ksv_schema_names.proofs.Lookup.{last_named}
use Rattle.ksv_schema_names.proofs.outwards.enum_named.Goals as goal

pub returns-in-Some-clause-value : goal.returns-in-Some-clause-value
returns-in-Some-clause-value c =
    c.enum_behind.ensures.value
    ∙ ap (λ (name : List ℕ). enum_behind (map row_of c.args.types.now) (map row_of c.args.enums.now) c.args.n (map string_bytes c.in-Some.before.now) name)
    (c.as_bytes.ensures.value ∙ c.as_str.ensures.value)
    ∙ sym (last_named string_bytes _ _ c.args.n _ _ _ c.in-Some.ensures.cases.0)
