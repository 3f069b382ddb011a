use Rattle.std.proofs.Common.{sym, ◌∙◌, arith}
use Rattle.std.proofs.lemmas.List.{length-drop, length-take, take_rest}
use Rattle.ksv_lines.proofs.WordLemmas.{cut_at, cut_end, starts_filled}
use Rattle.ksv_lines.proofs.words.cut_word.Goals as goal

pub returns-in-Some : goal.returns-in-Some
returns-in-Some c =
    let cut = cut_at c.args.text.now c.in-Some.len c.requires (sym c.blank_place.ensures ∙ c.in-Some.is) in
    rw (take_rest c.args.text.now c.in-Some.len) (record {
      word = cut.0;
      filled = cut.1;
      within = (omega (arith, length-take c.in-Some.len c.args.text.now), omega (arith, length-drop c.in-Some.len c.args.text.now));
    })

pub returns-in-None : goal.returns-in-None
returns-in-None c = record {
  word = cut_end c.args.text.now c.requires (sym c.blank_place.ensures ∙ c.in-None.is);
  filled = (starts_filled c.args.text.now c.requires).0;
  within = (omega arith, omega arith);
}
