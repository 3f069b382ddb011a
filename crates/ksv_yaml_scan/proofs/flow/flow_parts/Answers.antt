use Rattle.ksv_yaml_scan.proofs.Common.{◌≡◌, ◌+◌, true, false, List, [], ◌∷◌, drop, Option, Some, None, refl, sym, ap, subst, ◌∙◌, arith, inl, inr, All}
use Rattle.ksv_yaml_scan.proofs.Common.{HasNumber, Token, both, line_view, lines_view, tokens_view}
use Rattle.std.specs.Prelude.{is_some}
use Rattle.ksv_yaml_scan.specs.declared.flow.Token.{Token as CodeToken}
use Rattle.ksv_yaml_scan.specs.declared.fault.LineFault.{LineFault}
use Rattle.ksv_yaml_scan.specs.Lines.{Line as LineOf}
use Rattle.ksv_yaml_scan.specs.Tokens.{tokens_of}
use Rattle.ksv_yaml_scan.specs.Views.{parts_of, LineAdds, PartsAre}
use Rattle.ksv_yaml_scan.proofs.Parts.{both_assoc, both_nothing}
use Rattle.ksv_yaml_scan.proofs.Numbers.{number_at, lines_at}
use Rattle.ksv_yaml_scan.proofs.flow.flow_parts.Goals as goal

-- a line without a fault
added : (l : LineOf) (old new : List CodeToken) (f : Option LineFault) → LineAdds l old new f → is_some f ≡ false
    → both (Some (tokens_view old)) (parts_of l) ≡ Some (tokens_view new)
added l old new None h e = h
added l old new (Some x) h e = absurd cc

adds_rest : (l : LineOf) (old new : List CodeToken) (f : Option LineFault) (rest : Option (List Token)) → LineAdds l old new f → is_some f ≡ false
    → both (Some (tokens_view new)) rest ≡ both (Some (tokens_view old)) (both (parts_of l) rest)
adds_rest l old new f rest h e = ap (λ (o : Option (List Token)). both o rest) (sym (added l old new f h e))
    ∙ sym (both_assoc (Some (tokens_view old)) (parts_of l) rest)

adds_first : (l : LineOf) (old new : List CodeToken) (f : Option LineFault) (rest : Option (List Token)) → old ≡ [] → LineAdds l old new f → is_some f ≡ false
    → both (Some (tokens_view new)) rest ≡ both (parts_of l) rest
adds_first l old new f rest n h e = adds_rest l old new f rest h e ∙ ap (λ (ts : List CodeToken). both (Some (tokens_view ts)) (both (parts_of l) rest)) n
    ∙ both_nothing (both (parts_of l) rest)

-- a line with a fault
faulty : (ls : List LineOf) (l : LineOf) (old new : List CodeToken) (f : Option LineFault) (rest whole : Option (List Token)) → HasNumber ls l.number
    → both (Some (tokens_view old)) (both (parts_of l) rest) ≡ whole → LineAdds l old new f → is_some f ≡ true → PartsAre ls whole new f
faulty ls l old new None rest whole n e h s = absurd cc
faulty ls l old new (Some x) rest whole n e h s =
    (sym e ∙ ap (λ (o : Option (List Token)). both (Some (tokens_view old)) (both o rest)) h.0, subst (HasNumber ls) (sym h.1) n)

-- no parts have any numbers
all_nothing : (ls : List LineOf) (ts : List CodeToken) → ts ≡ [] → All (λ t. HasNumber ls t.line) ts
all_nothing ls ts e = let P : List CodeToken → Type 0 = λ ts. All (λ t. HasNumber ls t.line) ts in subst P (sym e) (λ k d h. absurd (omega (arith, h)))

pub returns-then-is_some-clause-numbered : goal.returns-then-is_some-clause-numbered
returns-then-is_some-clause-numbered c =
    let ls = line_view c.args.first ∷ lines_view c.args.lines.now in
    c.in_ok-fault.ensures.numbered ls (inl refl) (all_nothing ls c.new-tokens.result.items c.new-tokens.ensures.items)

pub loop-line-init : goal.loop-line-init
loop-line-init c =
    let ls = line_view c.args.first ∷ lines_view c.args.lines.now in (
      adds_first (line_view c.args.first) c.new-tokens.result.items c.push_line.new.tokens.items c.in_ok-fault.fault (tokens_of (lines_view c.args.lines.now))
          c.new-tokens.ensures.items c.in_ok-fault.ensures.parts (sym c.is_some.ensures ∙ c.if-is_some.false),
      c.in_ok-fault.ensures.numbered ls (inl refl) (all_nothing ls c.new-tokens.result.items c.new-tokens.ensures.items),
    )

pub returns-then-is_some-2-clause-parts : goal.returns-then-is_some-2-clause-parts
returns-then-is_some-2-clause-parts c =
    let ls = line_view c.args.first ∷ lines_view c.args.lines.now in
    let l = c.line-item.result in
    let i = c.loop-line.line-index in
    faulty ls (line_view l) c.loop-line.tokens.items c.push_line-in-loop-line.new.tokens.items c.in_ok-fault-2.fault
    (tokens_of (lines_view (drop (i + 1) c.args.lines.now))) (tokens_of ls)
    (inr (number_at c.args.lines.now i l c.loop-line-test.true c.line-item.is))
    (ap (λ (ks : List LineOf). both (Some (tokens_view c.loop-line.tokens.items)) (tokens_of ks))
    (sym (lines_at c.args.lines.now i l c.loop-line-test.true c.line-item.is)) ∙ c.loop-line.invariant.0)
    c.in_ok-fault-2.ensures.parts (sym c.is_some-in-loop-line.ensures ∙ c.if-is_some-2.true)

pub returns-then-is_some-2-clause-numbered : goal.returns-then-is_some-2-clause-numbered
returns-then-is_some-2-clause-numbered c =
    let ls = line_view c.args.first ∷ lines_view c.args.lines.now in
    c.in_ok-fault-2.ensures.numbered ls (inr (number_at c.args.lines.now c.loop-line.line-index c.line-item.result c.loop-line-test.true c.line-item.is))
    c.loop-line.invariant.1

pub loop-line-preserved : goal.loop-line-preserved
loop-line-preserved c =
    let ls = line_view c.args.first ∷ lines_view c.args.lines.now in
    let l = c.line-item.result in
    let i = c.loop-line.line-index in (
      adds_rest (line_view l) c.loop-line.tokens.items c.push_line-in-loop-line.new.tokens.items c.in_ok-fault-2.fault
          (tokens_of (lines_view (drop (i + 1) c.args.lines.now))) c.in_ok-fault-2.ensures.parts (sym c.is_some-in-loop-line.ensures ∙ c.if-is_some-2.false)
          ∙ ap (λ (ks : List LineOf). both (Some (tokens_view c.loop-line.tokens.items)) (tokens_of ks))
          (sym (lines_at c.args.lines.now i l c.loop-line-test.true c.line-item.is)) ∙ c.loop-line.invariant.0,
      c.in_ok-fault-2.ensures.numbered ls (inr (number_at c.args.lines.now i l c.loop-line-test.true c.line-item.is)) c.loop-line.invariant.1,
    )
