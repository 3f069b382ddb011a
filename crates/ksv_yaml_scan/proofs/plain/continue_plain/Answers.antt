use Rattle.ksv_yaml_scan.proofs.Common.{◌≡◌, ℕ, ◌+◌, ◌<◌, ◌≤◌, Bool, true, false, List, [], ◌∷◌, ◌++◌, length, drop, get_or, Some, None, sym, ap, ◌∙◌}
use Rattle.ksv_yaml_scan.proofs.Common.{append_assoc, arith, Line, loud, append-nil, plain_text, line_view, lines_view}
use Rattle.ksv_yaml_scan.specs.declared.line.Line.{Line as CodeLine}
use Rattle.ksv_yaml_scan.specs.Lines.{is_quiet}
use Rattle.std.proofs.lemmas.List.{drop_all}
use Rattle.std.proofs.lemmas.Bool.{le-leb, lt-leb}
use Rattle.ksv_yaml_scan.specs.Got.{got}
use Rattle.ksv_yaml_scan.specs.Plain.{more_of}
use Rattle.ksv_yaml_scan.proofs.Continuing.{text_refused, text_more, text_quiet, text_commented, text_shallow}
use Rattle.ksv_yaml_scan.proofs.Numbers.{number_at, lines_at}
use Rattle.ksv_yaml_scan.proofs.plain.continue_plain.Goals as goal

-- a line that no comment ended the text before, deep enough
record OnLine (text : List ℕ) (n : ℕ) (c : Bool) (ls : List CodeLine) (i : ℕ) (l : CodeLine) (b : Bool) : Type 0 where
  inside : i < length ls
  is : l ≡ get_or ls i l
  going : c ≡ false
  quiet : b ≡ is_quiet (line_view l)
  loud : b ≡ false
  deep : n ≤ l.indent

start : (text : List ℕ) (n : ℕ) (c : Bool) (ls : List CodeLine) (i : ℕ) (l : CodeLine) (b : Bool) → OnLine text n c ls i l b
    → plain_text text n c (lines_view (drop i ls)) ≡ plain_text text n false (line_view l ∷ lines_view (drop (i + 1) ls))
start text n c ls i l b o = ap (λ (c : Bool). plain_text text n c (lines_view (drop i ls))) o.going
    ∙ ap (λ (ls : List Line). plain_text text n false ls) (lines_at ls i l o.inside o.is)

refused : (text : List ℕ) (n : ℕ) (c : Bool) (ls : List CodeLine) (i : ℕ) (l : CodeLine) (b : Bool) → OnLine text n c ls i l b → None ≡ more_of l.content.now
    → plain_text text n c (lines_view (drop i ls)) ≡ None
refused text n c ls i l b o m = start text n c ls i l b o
    ∙ text_refused text n (line_view l) (lines_view (drop (i + 1) ls)) (sym o.quiet ∙ o.loud) (le-leb n l.indent o.deep) (sym m)

goes : (text more new : List ℕ) (n : ℕ) (c d : Bool) (ls : List CodeLine) (i : ℕ) (l : CodeLine) (b : Bool) → OnLine text n c ls i l b
    → Some (more, d) ≡ more_of l.content.now → new ≡ text ++ 32 ∷ more
    → plain_text new n d (lines_view (drop (i + 1) ls)) ≡ plain_text text n c (lines_view (drop i ls))
goes text more new n c d ls i l b o m e = ap (λ (t : List ℕ). plain_text t n d (lines_view (drop (i + 1) ls))) e
    ∙ sym (start text n c ls i l b o ∙ text_more text more n d (line_view l) (lines_view (drop (i + 1) ls)) (sym o.quiet ∙ o.loud) (le-leb n l.indent o.deep)
    (sym m))

-- what is left where the text ends before the line `l` of the lines `ls`
module _ (text : List ℕ) (n : ℕ) (ls here : List CodeLine) (i : ℕ) (l : CodeLine) (inside : i < length ls) (is : l ≡ get_or ls i l) (back : here ≡ drop i ls)
  where
    same : line_view l ∷ lines_view (drop (i + 1) ls) ≡ lines_view here
    same = sym (lines_at ls i l inside is) ∙ ap lines_view (sym back)

    ends_quiet : (c b : Bool) (rest : List Line) → b ≡ is_quiet (line_view l) → b ≡ true → rest ≡ loud (lines_view here)
        → plain_text text n c (lines_view (drop i ls)) ≡ got text rest
    ends_quiet c b rest q so is_rest =
        ap (plain_text text n c) (lines_at ls i l inside is) ∙ text_quiet text n (line_view l) (lines_view (drop (i + 1) ls)) c (sym q ∙ so)
        ∙ ap (λ (r : List Line). got text r) (ap loud same ∙ sym is_rest)

    ends_commented : (c b : Bool) → b ≡ is_quiet (line_view l) → b ≡ false → c ≡ true
        → plain_text text n c (lines_view (drop i ls)) ≡ got text (lines_view here)
    ends_commented c b q so e =
        ap (λ (c : Bool). plain_text text n c (lines_view (drop i ls))) e ∙ ap (plain_text text n true) (lines_at ls i l inside is)
        ∙ text_commented text n (line_view l) (lines_view (drop (i + 1) ls)) (sym q ∙ so) ∙ ap (λ (r : List Line). got text r) same

    ends_shallow : (c b : Bool) → b ≡ is_quiet (line_view l) → b ≡ false → c ≡ false → l.indent < n
        → plain_text text n c (lines_view (drop i ls)) ≡ got text (lines_view here)
    ends_shallow c b q so e low =
        ap (λ (c : Bool). plain_text text n c (lines_view (drop i ls))) e ∙ ap (plain_text text n false) (lines_at ls i l inside is)
        ∙ text_shallow text n (line_view l) (lines_view (drop (i + 1) ls)) (sym q ∙ so) (lt-leb n l.indent low) ∙ ap (λ (r : List Line). got text r) same

ends_all : (text : List ℕ) (n : ℕ) (c : Bool) (ls here : List CodeLine) (i k : ℕ) → length ls ≤ i → length ls ≤ k → here ≡ drop k ls
    → plain_text text n c (lines_view (drop i ls)) ≡ got text (lines_view here)
ends_all text n c ls here i k le all back =
    ap (λ (xs : List CodeLine). plain_text text n c (lines_view xs)) (drop_all i ls le) ∙ ap (λ (t : List ℕ). got {L = Line} t []) (append-nil text)
    ∙ ap (λ (xs : List CodeLine). got text (lines_view xs)) (sym (back ∙ drop_all k ls all))

-- the line holds a colon that ends a key
pub returns-in_default-clause-err : goal.returns-in_default-clause-err
returns-in_default-clause-err c =
    let l = c.index-lines-i.result in
    let ls = c.args.lines.now in
    let o : OnLine c.loop-i.text.items c.args.column c.loop-i.commented ls c.loop-i.i l c.is_quiet.result =
    record {
      inside = c.loop-i-test.true;
      is = c.index-lines-i.is;
      going = c.if-commented.false;
      quiet = c.is_quiet.ensures;
      loud = c.if-is_quiet.false;
      deep = c.if-line-column.false;
    } in (
      sym c.loop-i.invariant ∙ refused c.loop-i.text.items c.args.column c.loop-i.commented ls c.loop-i.i l c.is_quiet.result o c.in_default.ensures,
      number_at
          ls c.loop-i.i l c.loop-i-test.true c.index-lines-i.is,
    )

-- the line adds a space and its text
pub loop-i-preserved : goal.loop-i-preserved
loop-i-preserved c =
    let l = c.index-lines-i.result in
    let ls = c.args.lines.now in
    let o : OnLine c.loop-i.text.items c.args.column c.loop-i.commented ls c.loop-i.i l c.is_quiet.result =
    record {
      inside = c.loop-i-test.true;
      is = c.index-lines-i.is;
      going = c.if-commented.false;
      quiet = c.is_quiet.ensures;
      loud = c.if-is_quiet.false;
      deep = c.if-line-column.false;
    } in
    let e = c.in_ok-extend_from_slice.ensures.items ∙ ap (λ (t : List ℕ). t ++ c.in-Some.more.now) c.in_ok-push.ensures.items
    ∙ append_assoc c.loop-i.text.items (32 ∷ []) c.in-Some.more.now in
    goes c.loop-i.text.items c.in-Some.more.now c.extend_from_slice.new.self.items c.args.column c.loop-i.commented c.in-Some.ended ls c.loop-i.i l
    c.is_quiet.result o c.in-Some.ensures e ∙ c.loop-i.invariant

pub returns-then-is_quiet-clause-ok : goal.returns-then-is_quiet-clause-ok
returns-then-is_quiet-clause-ok c = sym c.loop-i.invariant
    ∙ ends_quiet c.loop-i.text.items c.args.column c.args.lines.now c.split_at.result.1.now c.loop-i.i c.index-lines-i.result c.loop-i-test.true
    c.index-lines-i.is c.split_at.ensures.back c.loop-i.commented c.is_quiet.result (lines_view c.skip_quiet.result.now) c.is_quiet.ensures
    c.if-is_quiet.true c.skip_quiet.ensures

pub returns-then-commented-clause-ok : goal.returns-then-commented-clause-ok
returns-then-commented-clause-ok c = sym c.loop-i.invariant
    ∙ ends_commented c.loop-i.text.items c.args.column c.args.lines.now c.split_at.result.1.now c.loop-i.i c.index-lines-i.result c.loop-i-test.true
    c.index-lines-i.is c.split_at.ensures.back c.loop-i.commented c.is_quiet.result c.is_quiet.ensures c.if-is_quiet.false c.if-commented.true

pub returns-then-line-column-clause-ok : goal.returns-then-line-column-clause-ok
returns-then-line-column-clause-ok c = sym c.loop-i.invariant
    ∙ ends_shallow c.loop-i.text.items c.args.column c.args.lines.now c.split_at.result.1.now c.loop-i.i c.index-lines-i.result c.loop-i-test.true
    c.index-lines-i.is c.split_at.ensures.back c.loop-i.commented c.is_quiet.result c.is_quiet.ensures c.if-is_quiet.false c.if-commented.false
    c.if-line-column.true

pub returns-clause-ok : goal.returns-clause-ok
returns-clause-ok c = sym c.loop-i.invariant ∙ ends_all c.loop-i.text.items c.args.column c.loop-i.commented c.args.lines.now c.split_at-2.result.1.now
    c.loop-i.i _ c.loop-i-test.false (omega arith) c.split_at-2.ensures.back
