use Rattle.ksv_expr_syntax.proofs.Common.{encode_utf8, quoted}
use Rattle.ksv_expr_syntax.proofs.Lexing.{quoted_byte, quoted_escape}
use Rattle.ksv_expr_syntax.proofs.lexer.quoted_bytes.Goals as goal

pub bytes-preserved-then-byte-eq92 : goal.bytes-preserved-then-byte-eq92
bytes-preserved-then-byte-eq92 c = quoted_escape (quoted c.args.text.now) c.bytes.bytes.items c.bytes.rest.now c.in-Some.byte c.in-Some.after.now
    (encode_utf8 c.in_ok-character.character) c.in_ok-character.behind.now c.push_character.new.bytes.items c.bytes.invariant c.in-Some.ensures
    c.if-byte-eq92.true c.in_ok-character.ensures.is c.in_ok-push_character.ensures

pub bytes-preserved : goal.bytes-preserved
bytes-preserved c = quoted_byte (quoted c.args.text.now) c.bytes.bytes.items c.bytes.rest.now c.in-Some.byte c.in-Some.after.now c.push.new.self.items
    c.bytes.invariant c.in-Some.ensures c.if-byte-eq34.false c.if-byte-eq92.false c.in_ok-push.ensures.items
