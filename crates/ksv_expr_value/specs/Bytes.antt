-- Bytes that are lent in two slices.
use Rattle.std.specs.Prelude.{ℕ, List, ◌++◌}
use Rattle.ksv_expr_value.specs.declared.parts.Parts.{Parts}

-- the bytes, however they are cut
abbrev pub content : Parts → List ℕ
content p = p.front.now ++ p.back.now
