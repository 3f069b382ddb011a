use Rattle.std.proofs.Common.{◌∙◌, ◌<◌, sym, arith}
use Rattle.ksv_desc.specs.Whole.{plain_pieces}
use Rattle.ksv_folds.proofs.Counted.{alike, are_said, count_is, open_is, whole_is}
use Rattle.ksv_folds.proofs.plain_list.PlainList.count_in.Goals as goal

pub returns-then-ends-is_closing : goal.returns-then-ends-is_closing
returns-then-ends-is_closing c h told =
    let p = c.args.self.now in
    let d = plain_pieces c.args.desc.now in
    let of = c.is_of.ensures c.if-not-is_of.false in
    let has = c.has_layout.ensures c.if-not-has_layout.false in
    let n = c.elements-whole.result in
    let some : 0 < n = omega arith in
    let said = are_said p d c.args.bytes.now c.args.list.now n c.args.kept of has c.elements-whole.ensures.whole some c.elements-whole.ensures.said told in
    count_is p d c.args.bytes.now c.args.list.now n of has c.elements-whole.ensures.whole some said h

-- the list ends just where it is known to
pub returns-then-ends : goal.returns-then-ends
returns-then-ends c =
    let p = c.args.self.now in
    let d = plain_pieces c.args.desc.now in
    let of = c.is_of.ensures c.if-not-is_of.false in
    let has = c.has_layout.ensures c.if-not-has_layout.false in
    let n = c.elements-whole.result in
    let some : 0 < n = omega arith in
    let closes = sym c.is_closing.ensures ∙ sym (alike c.ends_with-ends.result c.is_closing.result c.if-ends-is_closing.false) ∙ c.if-ends.true in
    rw c.size.ensures (λ h told. whole_is p d c.args.bytes.now c.args.list.now n of has c.elements-whole.ensures.whole some
    (are_said p d c.args.bytes.now c.args.list.now n c.args.kept of has c.elements-whole.ensures.whole some c.elements-whole.ensures.said told) closes
    (sym c.ends_with-ends.ensures ∙ c.if-ends.true) h)

pub returns-else-ends : goal.returns-else-ends
returns-else-ends c h told =
    let p = c.args.self.now in
    let d = plain_pieces c.args.desc.now in
    let of = c.is_of.ensures c.if-not-is_of.false in
    let has = c.has_layout.ensures c.if-not-has_layout.false in
    let n = c.elements-whole.result in
    let some : 0 < n = omega arith in
    let said = are_said p d c.args.bytes.now c.args.list.now n c.args.kept of has c.elements-whole.ensures.whole some c.elements-whole.ensures.said told in
    let closes = sym c.is_closing.ensures ∙ sym (alike c.ends_with-ends.result c.is_closing.result c.if-ends-is_closing.false) ∙ c.if-ends.false in
    open_is p d c.args.bytes.now c.args.list.now n of has c.elements-whole.ensures.whole some said closes (sym c.ends_with-ends.ensures ∙ c.if-ends.false) h
