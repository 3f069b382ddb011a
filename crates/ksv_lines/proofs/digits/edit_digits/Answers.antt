use Rattle.ksv_lines.proofs.DigitLemmas.{digits_stand, digits_written, others_stand_not}
use Rattle.ksv_lines.proofs.digits.edit_digits.Goals as goal
use Rattle.ksv_lines.proofs.digits.edit_digits.Goals.{else-digits-eq0-via-then-digits-eq0+else-all_digits, else-digits-eq0-via-else-digits-eq0}

pub invariant_of-result : goal.invariant_of-result
invariant_of-result c = record {
  reads = digits_stand c.args.digits.now c.if-digits-eq0.true (c.all_digits.ensures.0 c.if-all_digits.true);
  short = c.requires;
}

pub returns-then-all_digits : goal.returns-then-all_digits
returns-then-all_digits c = digits_written c.args.digits.now (digits_stand c.args.digits.now c.if-digits-eq0.true (c.all_digits.ensures.0 c.if-all_digits.true))

pub returns-else-digits-eq0 : goal.returns-else-digits-eq0
returns-else-digits-eq0 c = elim c.else-digits-eq0.branch [
  | else-digits-eq0-via-then-digits-eq0+else-all_digits w ↦ others_stand_not c.args.digits.now (λ even all. absurd (cc (w.all_digits.ensures.1 all)))
  | else-digits-eq0-via-else-digits-eq0 w ↦ others_stand_not c.args.digits.now (λ even all. absurd (w.if-digits-eq0.false even))
]
