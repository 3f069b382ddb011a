use Rattle.ksv_schema.proofs.Common.{◌∙◌, ap, sym, subst, take, map, add-one, pair, plain_entry, constant}
use Rattle.ksv_schema.specs.Plain.{AreOf}
use Rattle.ksv_schema.proofs.Each.{each_from_step, each_from_end, pushed_seen}
use Rattle.ksv_schema.proofs.Given.{take_more}
use Rattle.ksv_schema.proofs.members.enumeration.constants.Goals as goal

pub loop-number-preserved : goal.loop-number-preserved
loop-number-preserved c =
    let before = take c.loop-number.number (map pair c.args.entries.now) in
    record {
      read =
          each_from_step pair (λ i. constant (take i (map pair c.args.entries.now))) c.args.entries.now _ _ _ _ _ _ _ _ _ c.loop-number-test.true
          c.index-entries-number.is (c.in_ok-next.ensures.read before c.loop-number.invariant.given)
          (pushed_seen plain_entry _ _ _ c.in_ok-made.ensures) c.loop-number.invariant.read;
      given = subst (AreOf c.constant.new.seen)
          (sym (take_more pair c.args.entries.now c.loop-number.number _ c.loop-number-test.true c.index-entries-number.is)
          ∙ ap (λ n. take n (map pair c.args.entries.now)) (sym (add-one c.loop-number.number)))
          (c.in_ok-next.ensures.given before c.loop-number.invariant.given);
    }

pub returns : goal.returns
returns c = each_from_end pair (λ i. constant (take i (map pair c.args.entries.now))) c.args.entries.now _ _ _ _ _ c.loop-number-test.false
    c.loop-number.invariant.read
