-- Characters in a row, and their bytes.
use Rattle.std.proofs.Common.{◌≡◌, ℕ, ◌+◌, ◌<◌, List, [], ◌∷◌, ◌++◌, length, take, get_or, ap, ◌∙◌, append-nil, add-one}
use Rattle.std.proofs.lemmas.Str.{encodes-append}
use Rattle.std.proofs.Math.Seq.{take-suc}
use Rattle.std.specs.Char.{encode_utf8}
use Rattle.std.specs.Str.{encode_utf8_all}

-- one character more
pub encode_more : (cs : List ℕ) (i : ℕ) → i < length cs → encode_utf8_all (take (i + 1) cs) ≡ encode_utf8_all (take i cs) ++ encode_utf8 (get_or cs i 0)
encode_more cs i h =
    ap (λ n. encode_utf8_all (take n cs)) (add-one i)
    ∙ ap encode_utf8_all (take-suc cs i 0 h)
    ∙ encodes-append (take i cs) (get_or cs i 0 ∷ [])
    ∙ ap (λ bs. encode_utf8_all (take i cs) ++ bs) (append-nil (encode_utf8 (get_or cs i 0)))
