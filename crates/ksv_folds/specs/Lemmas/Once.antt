-- Each node of a sequence comes once, and none is the list's head.
use Rattle.std.proofs.Common.{◌≡◌, ◌∙◌, inl, inr, ℕ, zero, suc, ◌+◌, ◌*◌, ◌==◌, ◌<◌, ◌≤◌, Bool, true, false, if◌then◌else◌, List, [], ◌∷◌}
use Rattle.std.proofs.Common.{length, refl, sym, ap}
use Rattle.std.proofs.Common.{subst, arith}
use Rattle.std.proofs.lemmas.Bool.Decides.{nat_tests}
use Rattle.std.specs.Prelude.{Option, Some, None, IfSome, IfNone, ◌&&◌}
use Rattle.std.proofs.lemmas.Bool.{cases_lt}
use Rattle.ksv_expr_value.specs.declared.step.Step.{Step}
use Rattle.ksv_expr_value.specs.declared.step.Step.TheVariants.{Name, Index}
use Rattle.ksv_memo_rules.specs.Folds.{IsLaid, named_in}
use Rattle.ksv_nodes.specs.declared.node.Node.{Node}
use Rattle.ksv_nodes.specs.declared.node.NodeKind.{NodeKind}
use Rattle.ksv_nodes.specs.declared.node.NodeKind.TheVariants as kinds
use Rattle.ksv_folds.specs.Lemmas.Found.{numbered_by}
use Rattle.ksv_folds.specs.Lemmas.Numbers.{fields_some, width_some, index_low, head_number, next_end, numbered_there, number_is}
use Rattle.ksv_folds.specs.Lemmas.Values.{past_last, past_none}
use Rattle.ksv_folds.specs.Lemmas.Parts.{own_name}
use Rattle.ksv_folds.specs.Parts.{part}
use Rattle.ksv_folds.specs.Sequence.{says_sizes, sizer, IsAt, member_spot, IsOne, IsThere, IsNumbered, kind_of, steps_of, node_in, index, index_of}
use Rattle.ksv_folds.specs.Sequence.{number_of, elements_size, size_of, numbered_at}
use Rattle.ksv_folds.specs.Sequence.{value_before, spot_guard, guard_in, guard_of, guard_node, whole_in, fold_of}
use Rattle.ksv_folds.specs.declared.plain_list.PlainList.{PlainList}
use Rattle.ksv_folds.specs.declared.spot.Numbered.{Numbered}
use Rattle.ksv_folds.specs.declared.spot.Numbered.TheVariants.{Of, Rest, MissingHead, MissingEnd}
use Rattle.ksv_folds.specs.declared.spot.Spot.{Spot}
use Rattle.ksv_folds.specs.declared.spot.Spot.TheVariants.{ElementHead, ElementEnd, FieldHead, FieldEnd, Value}

-- what equal steps say
same_index : (i j : ℕ) (l : List Step) → ◌≡◌ {A = List Step} (Index i ∷ l) (Index j ∷ l) → i ≡ j
same_index i j l e = cc

same_steps : (m n i j : ℕ) (l : List Step) → ◌≡◌ {A = List Step} (Name m ∷ (Index i ∷ l)) (Name n ∷ (Index j ∷ l)) → (m ≡ n) × (i ≡ j)
same_steps m n i j l e = (let a : m ≡ n = cc in a, let b : i ≡ j = cc in b)

unlike : (n i j : ℕ) (l : List Step) → ◌≡◌ {A = List Step} (Index i ∷ l) (Name n ∷ (Index j ∷ l)) → ⊥
unlike n i j l e = cc

longer : {X : Type 0} (x : X) (l : List X) → l ≡ x ∷ l → ⊥
longer x l e = let n = ap length e in omega (arith, n)

longer_by_two : {X : Type 0} (x y : X) (l : List X) → l ≡ x ∷ (y ∷ l) → ⊥
longer_by_two x y l e = let n = ap length e in omega (arith, n)

module _ (p : PlainList) where
  abbrev Is : Spot → Type 0
  Is s = IsOne p s

  abbrev up : List Step
  up = p.root.path.upward

  abbrev name : ℕ → ℕ
  name f = (part p.parts.items f).name

  -- fields of one name are the same
  same_field : (f g : ℕ) → f < length p.parts.items → g < length p.parts.items → name f ≡ name g → f ≡ g
  same_field f g few less e = elim (cases_lt f g) [
    | inl low ↦ absurd (own_name p.parts.items p.named f g low less e)
    | inr more ↦ elim (cases_lt g f) [
      | inl low ↦ absurd (own_name p.parts.items p.named g f low few (sym e))
      | inr other ↦ omega (arith, more, other)
    ]
  ]

  -- nodes of one kind and the same steps are the same
  same_spot : (s t : Spot) → Is s → Is t → kind_of s ≡ kind_of t → steps_of p s ≡ steps_of p t → s ≡ t
  same_spot (ElementHead i) (ElementHead j) a b k e = ap ElementHead (same_index i j up e)
  same_spot (ElementHead i) (ElementEnd j) a b k e = absurd (cc)
  same_spot (ElementHead i) (FieldHead j g) a b k e = absurd (unlike (name g) i j up e)
  same_spot (ElementHead i) (FieldEnd j g) a b k e = absurd (cc)
  same_spot (ElementEnd i) (ElementHead j) a b k e = absurd (cc)
  same_spot (ElementEnd i) (ElementEnd j) a b k e = ap ElementEnd (same_index i j up e)
  same_spot (ElementEnd i) (FieldHead j g) a b k e = absurd (cc)
  same_spot (ElementEnd i) (FieldEnd j g) a b k e = absurd (unlike (name g) i j up e)
  same_spot (FieldHead i f) (ElementHead j) a b k e = absurd (unlike (name f) j i up (sym e))
  same_spot (FieldHead i f) (ElementEnd j) a b k e = absurd (cc)
  same_spot (FieldHead i f) (FieldHead j g) a b k e =
      let h = same_steps (name f) (name g) i j up e in ap (λ n. FieldHead n f) h.1 ∙ ap (FieldHead j) (same_field f g a.1 b.1 h.0)
  same_spot (FieldHead i f) (FieldEnd j g) a b k e = absurd (cc)
  same_spot (FieldEnd i f) (ElementHead j) a b k e = absurd (cc)
  same_spot (FieldEnd i f) (ElementEnd j) a b k e = absurd (unlike (name f) j i up (sym e))
  same_spot (FieldEnd i f) (FieldHead j g) a b k e = absurd (cc)
  same_spot (FieldEnd i f) (FieldEnd j g) a b k e =
      let h = same_steps (name f) (name g) i j up e in ap (λ n. FieldEnd n f) h.1 ∙ ap (FieldEnd j) (same_field f g a.1 b.1 h.0)
  same_spot (ElementHead i) (Value j) a b k e = absurd (cc)
  same_spot (ElementEnd i) (Value j) a b k e = absurd (cc)
  same_spot (FieldHead i f) (Value j) a b k e = absurd (cc)
  same_spot (FieldEnd i f) (Value j) a b k e = absurd (cc)
  same_spot (Value i) (ElementHead j) a b k e = absurd (cc)
  same_spot (Value i) (ElementEnd j) a b k e = absurd (cc)
  same_spot (Value i) (FieldHead j g) a b k e = absurd (cc)
  same_spot (Value i) (FieldEnd j g) a b k e = absurd (cc)
  same_spot (Value i) (Value j) a b k e = ap Value (same_steps (name (sizer p)) (name (sizer p)) i j up e).1

  -- the list's head has other steps
  off_root : (s : Spot) → up ≡ steps_of p s → ⊥
  off_root (ElementHead i) e = longer (Index i) up e
  off_root (ElementEnd i) e = longer (Index i) up e
  off_root (FieldHead i f) e = longer_by_two (Name (name f)) (Index i) up e
  off_root (FieldEnd i f) e = longer_by_two (Name (name f)) (Index i) up e
  off_root (Value i) e = longer_by_two (Name (name (sizer p))) (Index i) up e

  -- a rest is no head and no end
  other_kind : (s : Spot) → kind_of s ≡ kinds.Rest → ⊥
  other_kind (ElementHead i) e = cc
  other_kind (ElementEnd i) e = cc
  other_kind (FieldHead i f) e = cc
  other_kind (FieldEnd i f) e = cc
  other_kind (Value i) e = cc

  -- an element that isn't there has another index
  off_missing : (k : ℕ) (s : Spot) → Is s → steps_of p s ≡ Index (p.most + k) ∷ up → ⊥
  off_missing k (ElementHead i) low e = let same = same_index i (p.most + k) up e in omega (arith, low, same)
  off_missing k (ElementEnd i) low e = let same = same_index i (p.most + k) up e in omega (arith, low, same)
  off_missing k (FieldHead i f) low e = unlike (name f) (p.most + k) i up (sym e)
  off_missing k (FieldEnd i f) low e = unlike (name f) (p.most + k) i up (sym e)
  off_missing k (Value i) low e = unlike (name (sizer p)) (p.most + k) i up (sym e)

  same_missing : (i j : ℕ) → ◌≡◌ {A = List Step} (Index (p.most + i) ∷ up) (Index (p.most + j) ∷ up) → i ≡ j
  same_missing i j e = let same = same_index (p.most + i) (p.most + j) up e in omega (arith, same)

  -- rests have numbers, or elements that aren't there have
  no_both : {X : Type 0} → p.missing ≡ false → p.missing ≡ true → X
  no_both e h = absurd (let bad : false ≡ true = sym e ∙ h in cc)

  same_numbered : (n : Node) (s t : Numbered) → IsNumbered p n s → IsNumbered p n t → s ≡ t
  same_numbered n (Of s) (Of t) a b = ap Of (same_spot s t a.there b.there (sym a.kind ∙ b.kind) (sym a.steps ∙ b.steps))
  same_numbered n (Of s) (Rest j) a b = absurd (other_kind s (sym a.kind ∙ b.kind))
  same_numbered n (Rest i) (Of t) a b = absurd (other_kind t (sym b.kind ∙ a.kind))
  same_numbered n (Rest i) (Rest j) a b = ap Rest (same_index i j up (sym a.steps ∙ b.steps))
  same_numbered n (Of s) (MissingHead j) a b = absurd (off_missing j s a.there (sym a.steps ∙ b.steps))
  same_numbered n (Of s) (MissingEnd j) a b = absurd (off_missing j s a.there (sym a.steps ∙ b.steps))
  same_numbered n (MissingHead i) (Of t) a b = absurd (off_missing i t b.there (sym b.steps ∙ a.steps))
  same_numbered n (MissingEnd i) (Of t) a b = absurd (off_missing i t b.there (sym b.steps ∙ a.steps))
  same_numbered n (Rest i) (MissingHead j) a b = no_both (a.there).1 (b.there).1
  same_numbered n (Rest i) (MissingEnd j) a b = no_both (a.there).1 (b.there).1
  same_numbered n (MissingHead i) (Rest j) a b = no_both (b.there).1 (a.there).1
  same_numbered n (MissingEnd i) (Rest j) a b = no_both (b.there).1 (a.there).1
  same_numbered n (MissingHead i) (MissingHead j) a b = ap MissingHead (same_missing i j (sym a.steps ∙ b.steps))
  same_numbered n (MissingEnd i) (MissingEnd j) a b = ap MissingEnd (same_missing i j (sym a.steps ∙ b.steps))
  same_numbered n (MissingHead i) (MissingEnd j) a b = absurd (let bad = sym a.kind ∙ b.kind in cc)
  same_numbered n (MissingEnd i) (MissingHead j) a b = absurd (let bad = sym a.kind ∙ b.kind in cc)

  off_root_by : (s : Numbered) → IsNumbered p p.root s → ⊥
  off_root_by (Of s) h = off_root s h.steps
  off_root_by (Rest i) h = longer (Index i) up h.steps
  off_root_by (MissingHead k) h = longer (Index (p.most + k)) up h.steps
  off_root_by (MissingEnd k) h = longer (Index (p.most + k)) up h.steps

  once : (i j : ℕ) → i < size_of p → j < size_of p → node_in p (numbered_at p i) ≡ node_in p (numbered_at p j) → i ≡ j
  once i j low less e =
      let n = node_in p (numbered_at p i) in
      let a = numbered_by p n (numbered_at p i) (numbered_there p i low) refl in
      let b = numbered_by p n (numbered_at p j) (numbered_there p j less) e in
      sym (number_is p i low) ∙ ap (number_of p) (same_numbered n (numbered_at p i) (numbered_at p j) a b) ∙ number_is p j less

  apart : (j : ℕ) → j < size_of p → node_in p (numbered_at p j) ≡ p.root → ⊥
  apart j low e = off_root_by (numbered_at p j) (numbered_by p p.root (numbered_at p j) (numbered_there p j low) (sym e))

  -- ---- what is found

  -- a node at the path of a field that is none of these is no other
  member_none : (n : Node) (i f : ℕ) → f < length p.parts.items → n.path.upward ≡ Name (name f) ∷ (Index i ∷ up)
      → (k : NodeKind) → n.kind ≡ k → member_spot p k i f ≡ None → (s : Spot) → IsAt p n s → ⊥
  member_none n i f few at kinds.Head e h s is = absurd (cc)
  member_none n i f few at kinds.End e h s is = absurd (cc)
  member_none n i f few at kinds.Rest e h s is = other_kind s (sym is.kind ∙ e)
  member_none n i f few at kinds.Value e h (ElementHead j) is = absurd (let bad = sym e ∙ is.kind in cc)
  member_none n i f few at kinds.Value e h (ElementEnd j) is = absurd (let bad = sym e ∙ is.kind in cc)
  member_none n i f few at kinds.Value e h (FieldHead j g) is = absurd (let bad = sym e ∙ is.kind in cc)
  member_none n i f few at kinds.Value e h (FieldEnd j g) is = absurd (let bad = sym e ∙ is.kind in cc)
  member_none n i f few at kinds.Value e h (Value j) is =
      let says = (is.there).1 in
      let some = (fields_some p says).0 in
      let same = same_field f (sizer p) few (omega (arith, some)) (same_steps (name f) (name (sizer p)) i j up (sym at ∙ is.steps)).0 in
      let test : (f == sizer p) ≡ true = grind (arith, nat_tests) in
      let found : member_spot p kinds.Value i f ≡ Some (Value i) = ap (λ b. if b && f == sizer p then Some (Value i) else None) says
      ∙ ap (λ b. if b then Some (Value i) else None) test in
      let bad : Some (Value i) ≡ None = sym found ∙ h in absurd (cc)

  pub none_found : (n : Node) (i f : ℕ) → f < length p.parts.items → n.path.upward ≡ Name (name f) ∷ (Index i ∷ up)
      → (o : Option Spot) → o ≡ member_spot p n.kind i f → IfNone o ((s : Spot) → IsAt p n s → ⊥)
  none_found n i f few at None e = member_none n i f few at n.kind refl (sym e)
  none_found n i f few at (Some s) e = tt

  -- ---- what entries name

  named : (o : Option ℕ) → guard_node p o ≡ named_in (fold_of p) o
  named None = refl
  named (Some i) = refl

  value_low : (i n : ℕ) → i < n → says_sizes p ≡ true → index_of p (Value i) < p.per * n
  value_low i n low e = index_low p n (Value i) (low, e)

  -- each node behind the value of an element has a greater number
  before_head : (i f : ℕ) → says_sizes p ≡ true → i < p.most → f < length p.parts.items
      → IfSome (value_before p (if suc f == length p.parts.items then suc i else i)) (λ v. v < index_of p (FieldHead i f))
  before_head i f e low few = by (suc f == length p.parts.items) refl
    where
      by : (b : Bool) → (suc f == length p.parts.items) ≡ b → IfSome (value_before p (if b then suc i else i)) (λ v. v < index_of p (FieldHead i f))
      by true h =
          let z = fields_some p e in
          let wide = z.1 in
          let last : suc f ≡ length p.parts.items = grind (arith, nat_tests) in
          let one = past_last (length p.parts.items) p.per z.1 z.0 f last in
          subst (λ b. index b p.per (Value i) < index b p.per (FieldHead i f)) (sym e) (omega (arith, one, wide, last))
      by false h = first i low
        where
          first : (n : ℕ) → n < p.most → IfSome (value_before p n) (λ v. v < index_of p (FieldHead n f))
          first zero less = tt
          first (suc n) less =
              let v = value_low n (suc n) (omega arith) e in
              let wide = width_some p in
              subst (λ b. index b p.per (Value n) < p.per * suc n → index b p.per (Value n) < index b p.per (FieldHead (suc n) f)) (sym e)
              (λ h. omega (arith, h)) v

  spot_earlier : (s : Spot) → says_sizes p ≡ true → Is s → IfSome (spot_guard p s) (λ v. v < index_of p s)
  spot_earlier (ElementHead zero) e low = tt
  spot_earlier (ElementHead (suc i)) e low =
      let v = value_low i (suc i) (omega arith) e in let at = head_number p (suc i) in omega (arith, v, at)
  spot_earlier (ElementEnd i) e low =
      let wide = (fields_some p e).1 in
      subst (λ b. index b p.per (Value i) < index b p.per (ElementEnd i)) (sym e) (omega (arith, wide))
  spot_earlier (FieldHead i f) e low = before_head i f e low.0 low.1
  spot_earlier (FieldEnd i f) e low =
      more (value_before p (if suc f == length p.parts.items then suc i else i)) (before_head i f e low.0 low.1)
    where
      more : (o : Option ℕ) → IfSome o (λ v. v < index_of p (FieldHead i f)) → IfSome o (λ v. v < index_of p (FieldEnd i f))
      more None h = tt
      more (Some v) h = let next = next_end p i f in omega (arith, h, next)
  spot_earlier (Value i) e low =
      let z = fields_some p e in
      let some = z.0 in
      let wide = z.1 in
      let none = past_none (length p.parts.items) p.per z.1 z.0 (sizer p) (omega (arith, some)) in
      subst (λ b. index b p.per (FieldHead i (sizer p)) < index b p.per (Value i)) (sym e) (omega (arith, none, wide, some))

  -- and so has each behind all elements
  last : says_sizes p ≡ true → (j : ℕ) → elements_size p ≤ j → (n : ℕ) → p.most ≡ n → IfSome (value_before p n) (λ v. v < j)
  last e j up zero same = tt
  last e j up (suc n) same = let v = value_low n p.most (omega (arith, same)) e in omega (arith, v, up)

  numbered_earlier : (s : Numbered) → IsThere p s → IfSome (guard_of p s) (λ v. v < number_of p s)
  numbered_earlier s there = by (says_sizes p) refl s there
    where
      by : (b : Bool) → says_sizes p ≡ b → (t : Numbered) → IsThere p t → IfSome (if b then guard_in p t else None) (λ v. v < number_of p t)
      by false e t h = tt
      by true e (Of s) h = spot_earlier s e h
      by true e (Rest i) h = last e (number_of p (Rest i)) (omega arith) p.most refl
      by true e (MissingHead k) h = last e (number_of p (MissingHead k)) (omega arith) p.most refl
      by true e (MissingEnd k) h = last e (number_of p (MissingEnd k)) (omega arith) p.most refl

  earlier : (j : ℕ) → j < size_of p → IfSome (guard_of p (numbered_at p j)) (λ i. i < j)
  earlier j low = subst (λ n. IfSome (guard_of p (numbered_at p j)) (λ i. i < n))
      (number_is p j low) (numbered_earlier (numbered_at p j) (numbered_there p j low))

  whole : (j : ℕ) → (s : Numbered) → (whole_in j s ≤ suc j) × (j ≤ suc (whole_in j s))
  whole j (Of (ElementHead i)) = (omega arith, omega arith)
  whole j (Of (ElementEnd i)) = (omega arith, omega arith)
  whole j (Of (FieldHead i f)) = (omega arith, omega arith)
  whole j (Of (FieldEnd i f)) = (omega arith, omega arith)
  whole j (Of (Value i)) = (omega arith, omega arith)
  whole j (Rest i) = (omega arith, omega arith)
  whole j (MissingHead k) = (omega arith, omega arith)
  whole j (MissingEnd k) = (omega arith, omega arith)

-- the sequence of a list is laid out so
pub sequence_laid : (p : PlainList) → IsLaid (fold_of p)
sequence_laid p = record {
  once = once p;
  apart = apart p;
  named = λ j. ap (λ n. n ∷ []) (named p (guard_of p (numbered_at p j)));
  earlier = earlier p;
  whole = λ j low. whole p j (numbered_at p j);
}
