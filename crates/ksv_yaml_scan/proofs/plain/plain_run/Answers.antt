use Rattle.ksv_yaml_scan.proofs.Common.{◌≡◌, ℕ, ◌+◌, Bool, true, false, List, [], drop, sym, ap, ◌∙◌, arith, take, get_or, is_white, stop, run}
use Rattle.std.specs.Prelude.{None, ◌<◌, length}
use Rattle.ksv_yaml_scan.proofs.Runs.{after, joined, run_more, end_white, end_other}
use Rattle.ksv_yaml_scan.proofs.plain.plain_run.Goals as goal
use Rattle.ksv_yaml_scan.proofs.plain.plain_run.Goals.{then-not-blank, else-not-blank}

-- no run ends at the byte
goes_on : (flow w b : Bool) (xs here : List ℕ) (i : ℕ) → i < length xs → here ≡ drop i xs → None ≡ stop flow w here → b ≡ is_white (get_or xs i 0)
    → after (take (i + 1) xs) (run flow b (drop (i + 1) xs)) ≡ after (take i xs) (run flow w (drop i xs))
goes_on flow w b xs here i h e s f = ap (λ (b : Bool). after (take (i + 1) xs) (run flow b (drop (i + 1) xs))) f
    ∙ sym (run_more flow w xs i h (ap (stop flow w) (sym e) ∙ sym s))

-- the text ends after the byte
ends_here : (b : Bool) (xs : List ℕ) (i end : ℕ) → i < length xs → b ≡ is_white (get_or xs i 0) → b ≡ false → end ≡ i + 1
    → joined (take (i + 1) xs) [] ≡ take end xs
ends_here b xs i end h w f e = end_other xs i h (sym w ∙ f) ∙ ap (λ (k : ℕ). take k xs) (sym e)

-- the text ends where it did
ends_there : (b : Bool) (xs : List ℕ) (i end last : ℕ) → i < length xs → b ≡ is_white (get_or xs i 0) → b ≡ true → end ≡ last
    → joined (take i xs) [] ≡ take last xs → joined (take (i + 1) xs) [] ≡ take end xs
ends_there b xs i end last h w t e k = end_white xs i last h (sym w ∙ t) k ∙ ap (λ (k : ℕ). take k xs) (sym e)

pub loop-i-preserved : goal.loop-i-preserved
loop-i-preserved c =
    let xs = c.args.content.now in
    let i = c.loop-i.i in
    let on = goes_on c.args.flow c.loop-i.blank c.is_white-blank.result xs c.split_at.result.1.now i c.loop-i-test.true c.split_at.ensures.back
    c.in_default.ensures.value c.is_white-blank.ensures ∙ c.loop-i.invariant.0 in
    elim c.if-not-blank.branch [
      | then-not-blank w ↦ (
        on,
        ends_here c.is_white-blank.result xs i c.if-not-blank.end c.loop-i-test.true c.is_white-blank.ensures w.if-not-blank.true
            w.end-is,
        omega (arith, w.end-is),
      )
      | else-not-blank w ↦ (
        on,
        ends_there c.is_white-blank.result xs i c.if-not-blank.end c.loop-i.end c.loop-i-test.true c.is_white-blank.ensures
            w.if-not-blank.false w.end-is c.loop-i.invariant.1,
        omega (arith, w.end-is, c.loop-i.invariant.2),
      )
    ]
