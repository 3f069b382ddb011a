use Rattle.std.proofs.Common.{◌≡◌, ◌<◌, ◌++◌, List, ℕ, [], ◌∷◌, length, take, sym, ◌∙◌, ap, arith}
use Rattle.std.proofs.lemmas.List.{length-append, take-append-le, take_all}
use Rattle.ksv_lines.proofs.line.LineBuffer.push.Goals as goal

-- room for one more
grown : (line : List ℕ) (byte : ℕ) → length line < 4097 → line ++ byte ∷ [] ≡ take 4097 (line ++ byte ∷ [])
grown line byte less = sym (take_all 4097 (line ++ byte ∷ []) (omega (arith, length-append line (byte ∷ []))))

-- no room
full : (line : List ℕ) (byte : ℕ) → length line ≡ 4097 → line ≡ take 4097 (line ++ byte ∷ [])
full line byte size = sym (take-append-le 4097 line (byte ∷ []) (omega arith) ∙ take_all 4097 line (omega arith))

pub returns-then-len-lt-LINE_ROOM : goal.returns-then-len-lt-LINE_ROOM
returns-then-len-lt-LINE_ROOM c =
    c.push.ensures.items ∙ ap (λ t. t ++ c.args.byte ∷ []) c.self.view_is
    ∙ grown c.args.self.now c.args.byte (omega (arith, ap length c.self.view_is, c.len.ensures.value, c.if-len-lt-LINE_ROOM.true))

pub returns-else-len-lt-LINE_ROOM : goal.returns-else-len-lt-LINE_ROOM
returns-else-len-lt-LINE_ROOM c =
    full c.args.self.now c.args.byte (omega (arith, ap length c.self.view_is, c.len.ensures.value, c.len.ensures.fits, c.if-len-lt-LINE_ROOM.false))
