-- The names of methods, which are those of the Kaitai Struct User Guide.
use Rattle.std.specs.Prelude.{ℕ, List, Option, Some, None, if◌then◌else◌, codes}
use Rattle.std.specs.Str.{bytes_eq}
use Rattle.ksv_expr_meaning.specs.declared.method.Method.{Method}
use Rattle.ksv_expr_meaning.specs.declared.method.Method.TheVariants as methods

-- the method of a name
abbrev pub method_named : List ℕ → Option Method
method_named name = if bytes_eq name (codes "first") then Some methods.First
    else if bytes_eq name (codes "last") then Some methods.Last
    else if bytes_eq name (codes "size") then Some methods.Size
    else if bytes_eq name (codes "length") then Some methods.Length
    else if bytes_eq name (codes "reverse") then Some methods.Reverse
    else if bytes_eq name (codes "substring") then Some methods.Substring
    else if bytes_eq name (codes "to_i") then Some methods.ToInteger
    else if bytes_eq name (codes "to_s") then Some methods.ToText
    else if bytes_eq name (codes "pos") then Some methods.Place
    else if bytes_eq name (codes "eof") then Some methods.IsAtEnd
    else None
