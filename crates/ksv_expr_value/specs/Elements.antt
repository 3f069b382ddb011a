-- What `_` is, as the code has it.
use Rattle.ksv_expr_value.specs.declared.context.Element.{Element as CodeElement}
use Rattle.ksv_expr_value.specs.declared.context.Element.TheVariants as elements
use Rattle.ksv_expr_value.specs.Setting.{Element, NoElement, ElementAt, Made}

abbrev pub element_of : CodeElement → Element
element_of elements.None = NoElement
element_of (elements.At p) = ElementAt p.now
element_of (elements.Made v) = Made v.now
