use Rattle.std.proofs.Common.{◌≡◌, ◌∙◌, ◌||◌, Bool, true, ap, sym, arith}
use Rattle.ksv_folds.proofs.Edits.{append_stays, append_goes}
use Rattle.ksv_folds.proofs.plain_list.PlainList.left_behind.Goals as goal

or_left : {a : Bool} (b : Bool) → a ≡ true → (a || b) ≡ true
or_left b e = ap (λ c. c || b) e

pub returns-then-ends_with_file : goal.returns-then-ends_with_file
returns-then-ends_with_file c = record {
  within = omega arith;
  stays = λ j low. append_stays c.args.self.now j (omega arith);
  goes = λ j up low. or_left _ (append_goes c.args.self.now (sym c.ends_with_file.ensures ∙ c.if-ends_with_file.true) j (omega arith));
}
