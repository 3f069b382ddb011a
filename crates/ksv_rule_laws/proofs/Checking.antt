-- A value that is answered meets what it must.
use Rattle.ksv_rule_laws.proofs.Common.{◌≡◌, ℕ, true, List, [], ◌∷◌, Option, Some, None, Result, refl, ap}
use Rattle.ksv_rule_laws.proofs.Common.{AllByRecursion, bind, Tree, Setting, Trail, parent, last, Value, Description, Node}
use Rattle.ksv_rule_laws.proofs.Common.{NodeFault, Given, Head, MemberRef, Object, Origin, Rule, kind_of, truth_of, ValueMeets}
use Rattle.ksv_desc.specs.Description.{Valid, AnyOf, AllOf, valid_of}
use Rattle.ksv_nodes.specs.declared.given.Head.TheVariants as heads
use Rattle.ksv_rule_meaning.specs.Checks.{meets_one, meets_each, meets, with_value, checked, checked_if, member_checked, object_checked, value_checked}
use Rattle.ksv_rule_meaning.specs.Heads.{member_setting, holder_setting}
use Rattle.ksv_rule_laws.specs.Laws.{Gives, HasTrue, IsMet, MeetsMember, ObjectMeets}
use Rattle.ksv_rule_laws.proofs.Rules.{Answers, join, either, so, truth_is}
use Rattle.ksv_rule_laws.proofs.Members.{kind_found}

-- where each asked node has the answer that `met` gives
module _ (met : Node → Result Given NodeFault) (here : Trail) (bytes : List ℕ) where
  abbrev Says : {A : Type 0} → (A → Type 0) → Rule A → Type 0
  Says P p = Answers met here bytes P p

  after : {A B : Type 0} (P : A → Type 0) (S : B → Type 0) (p : Rule A) (f : A → Rule B) → Says P p → ((a : A) → P a → Says S (f a)) → Says S (bind p f)
  after P S p f h g = join met here bytes P S p f h g

  -- ---- conditions

  one_is : (s : Setting) (es : List Tree) → Says (λ b. b ≡ true → HasTrue met here bytes s es) (meets_one s es)
  unfolding meets_one
  one_is s [] = λ e. cc
  one_is s (e ∷ es) = after _ _ (truth_of s e) _ (truth_is met here bytes s e) (λ b is. either met here bytes _ b _ _
      (λ yes t. record { front = []; condition = e; rest = es; is = refl; before = tt; holds = rw yes at is })
      (λ no. so met here bytes _ _ (meets_one s es) (one_is s es) (λ c one t. (let l = one t in record {
        front = e ∷ l.front;
        condition = l.condition;
        rest = l.rest;
        is = ap (λ (xs : List Tree). e ∷ xs) l.is;
        before = (rw no at is, l.before);
        holds = l.holds;
      }))))

  each_is : (s : Setting) (es : List Tree) → Says (λ b. b ≡ true → AllByRecursion (Gives met here bytes s true) es) (meets_each s es)
  unfolding meets_each
  each_is s [] = λ e. tt
  each_is s (e ∷ es) = after _ _ (truth_of s e) _ (truth_is met here bytes s e) (λ b is. either met here bytes _ b _ _
      (λ yes. so met here bytes _ _ (meets_each s es) (each_is s es) (λ c all t. (rw yes at is, all t))) (λ no t. cc))

  meets_is : (s : Setting) (x : Valid) → Says (λ b. b ≡ true → IsMet met here bytes s x) (meets s x)
  meets_is s (AnyOf es) = one_is s es
  meets_is s (AllOf es) = each_is s es

  -- ---- values

  -- what a member must meet, once it is known
  checked_is : (s : Setting) (o : Option Valid) (v : Value) → Says (λ u. (x : Valid) → o ≡ Some x → IsMet met here bytes (with_value s v) x) (checked_if s o v)
  unfolding checked
  checked_is s None v = λ x e. cc
  checked_is s (Some y) v =
      after _ _ (meets (with_value s v) y) _ (meets_is (with_value s v) y) (λ b meets_so.
      either met here bytes _ b _ _ (λ t x e. let same : y ≡ x = cc in rw (← same) (meets_so t)) (λ f. tt))

  member_is : (d : Description) (r : MemberRef) (s : Setting) (v : Value) → Says (λ u. MeetsMember met here bytes d r s v) (member_checked d r s v)
  unfolding member_checked
  member_is d r s v =
      after _ _ (kind_of d r) _ (kind_found met here bytes d r) (λ k found.
      so met here bytes _ _ (checked_if s (valid_of k) v) (checked_is s (valid_of k) v) (λ u meets_so m x is must.
      meets_so x (cc)))

  object_is : (d : Description) (o : Object) (g : Option Origin) (v : Value) → Says (λ u. ObjectMeets met bytes d here o g v) (object_checked d here o g v)
  object_is d o None v = tt
  object_is d o (Some g) v = member_is d g.member (member_setting here here (last here) g o.start) v

  pub value_meets : (d : Description) (h : Head) (v : Value) → Says (λ u. ValueMeets met bytes d here h v) (value_checked d here h v)
  unfolding value_checked
  value_meets d (heads.Absent at) v = tt
  value_meets d (heads.Calc c) v = member_is d (record { type_number = c.object.type_number; member = c.member }) (holder_setting here (parent here) c.object) v
  value_meets d (heads.Leaf l) v = member_is d l.origin.member (member_setting here here (last here) l.origin l.from) v
  value_meets d (heads.Object o) v = object_is d o o.origin v
  value_meets d (heads.List g) v = tt
