use Rattle.std.proofs.Common.{sym, ◌∙◌, arith}
use Rattle.std.proofs.lemmas.List.{length-drop, take_rest}
use Rattle.ksv_lines.proofs.WordLemmas.{no_words, same_words, word_starts}
use Rattle.ksv_lines.proofs.words.skip_blanks.Goals as goal

pub returns-in_err-start : goal.returns-in_err-start
returns-in_err-start c = rw (c.from_residual.ensures) (no_words c.args.text.now (sym c.filled_place.ensures ∙ c.in_err-start.was))

pub returns : goal.returns
returns c =
    let found = sym c.filled_place.ensures ∙ c.in_ok-start.was in
    rw (take_rest c.args.text.now c.in_ok-start.start) (record {
      same = same_words c.args.text.now c.in_ok-start.start found;
      starts = word_starts c.args.text.now c.in_ok-start.start found;
      within = omega (arith, length-drop c.in_ok-start.start c.args.text.now);
    })
