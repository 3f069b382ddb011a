-- Questions by what was found, where it needs no further ask.
use Rattle.ksv_questions.proofs.Common.{◌≡◌, ℕ, List, codes, Option, refl, Answer, Description, Trail, Value, parts_of}
use Rattle.ksv_expr_value.specs.Places.{Place}
use Rattle.ksv_expr_value.specs.declared.value.Value.TheVariants as values
use Rattle.ksv_nodes.specs.declared.given.Head.{Head}
use Rattle.ksv_nodes.specs.declared.given.Head.TheVariants as heads
use Rattle.ksv_nodes.specs.declared.given.List.{List as ListHead}
use Rattle.ksv_nodes.specs.declared.given.Object.{Object}
use Rattle.ksv_questions.specs.Questions.{of_value, plain_value}

module _ (d : Description) (b : List ℕ) (p : Trail) where
  pub of_plain : (v : Value) → ((q : Trail) → v ≡ values.Object q → ⊥) → ((q : Trail) → v ≡ values.List q → ⊥) → of_value d b p v ≡ plain_value d b p v
  unfolding of_value
  of_plain (values.Object q) h k = absurd (h q refl)
  of_plain (values.List q) h k = absurd (k q refl)
  of_plain v h k = refl

pub no_members : (d : Description) (p : Trail) (h : Head) → ((at : Option Place) → h ≡ heads.Absent at → ⊥) → ((o : Object) → h ≡ heads.Object o → ⊥)
    → ((g : ListHead) → h ≡ heads.List g → ⊥) → parts_of d p h ≡ Answer (codes "no members")
no_members d p (heads.Absent at) a o g = absurd (a at refl)
no_members d p (heads.Object x) a o g = absurd (o x refl)
no_members d p (heads.List x) a o g = absurd (g x refl)
no_members d p h a o g = refl
