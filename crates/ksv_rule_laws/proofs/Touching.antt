-- An element begins where the one before it ends.
use Rattle.ksv_rule_laws.proofs.Common.{refl, ◌≡◌, ◌∙◌, ℕ, ◌+◌, false, List, Ok, sym, ap, arith, inl, inr, Place, child, parent, Stream, Field, Origin}
use Rattle.ksv_rule_laws.proofs.Common.{Head, head_node, start_of, from_nothing}
use Rattle.ksv_expr_value.specs.declared.step.Step.TheVariants as steps
use Rattle.ksv_nodes.specs.declared.given.Given.TheVariants as givens
use Rattle.ksv_nodes.specs.declared.given.Head.TheVariants as heads
use Rattle.ksv_rule_laws.specs.Laws.{ElementsTouch}
use Rattle.ksv_rule_laws.proofs.Shapes.{IsHeadAt, IsElementOf}
use Rattle.ksv_rule_laws.proofs.Shaping.{by_shape}

-- what is read at a place begins there
pub begins_at : (bytes : List ℕ) (origin : Origin) (w : Stream) (s : Place) (f : Field) (h : Head) → IsHeadAt bytes origin w s f h → start_of h ≡ s
begins_at bytes origin w s f (heads.Absent at) is = rw is refl
begins_at bytes origin w s f (heads.Calc c) is = absurd is
begins_at bytes origin w s f (heads.Leaf l) is = is.from
begins_at bytes origin w s f (heads.Object o) is = is.start
begins_at bytes origin w s f (heads.List g) is = is.start

pub elements_touch : ElementsTouch
elements_touch d bytes opened p i h is e =
    let met = from_nothing d bytes opened in
    let x : IsElementOf d met p bytes (i + 1) h = rw is at (by_shape d bytes opened (head_node p) (givens.Head h) e) in
    elim x.begins [
      | inl first ↦ let none = first.0 in absurd (omega arith)
      | inr later ↦
          let next = later.next in
          let before : later.before ≡ i = omega arith in
          record {
            before = later.path;
            path = ap (λ j. child (parent p) (steps.Index j)) (sym before) ∙ later.is;
            ended = later.ended ∙ ap (λ s. Ok (givens.End s false)) (sym (begins_at bytes x.list.origin x.list.stream x.start x.field h x.is));
          }
    ]
