-- The value of an expression lies in the file, where its stream does and all that it is told.
use Rattle.ksv_rule_laws.proofs.Common.{arith, Rule, ◌≡◌, ℕ, ◌≤◌, List, Option, Some, None, Result, Ok, length, Answer, Fail, Ask, Tree, Trail, Setting}
use Rattle.ksv_rule_laws.proofs.Common.{Stream, Value, Want, Heard, Eval, value_of, Node, NodeFault, Given, Head, ask_head, ask_rest, answer_of}
use Rattle.ksv_rule_laws.proofs.Common.{expression, stream_for, IsNoStream}
use Rattle.ksv_basics.specs.Plan.{translate}
use Rattle.ksv_expr_value.specs.Setting.{Element}
use Rattle.ksv_expr_meaning.specs.declared.want.Want.TheVariants as wants
use Rattle.ksv_nodes.specs.declared.given.Given.TheVariants as givens
use Rattle.ksv_nodes.specs.declared.given.Head.TheVariants as heads
use Rattle.ksv_nodes.specs.Rule.{Here, ask_value, value_node, finish, done, peek}
use Rattle.ksv_rule_meaning.specs.Wanted.{whole, in_object, wanted}
use Rattle.ksv_rule_laws.specs.Laws.{IsStreamIn, IsObjectIn, IsHeadIn, IsValueIn, IsIn}
use Rattle.ksv_rule_laws.proofs.Rules.{Answers, join, known, answered, asked_head}
use Rattle.ksv_rule_laws.proofs.Expressions.{GivesIn, IsSoValue, IsSoHeard, IsSoElement, IsSoSetting, value_ranges}

-- bytes lie in a file of this many bytes
abbrev AreBytesIn : ℕ → ℕ → ℕ → Type 0
AreBytesIn size from to = (from ≤ size) × (to ≤ size)

-- so does a value, what is told to an expression, what `_` is, and the stream where an expression is evaluated
abbrev pub IsRanged : ℕ → Value → Type 0
IsRanged size v = IsSoValue (IsStreamIn size) (AreBytesIn size) v

abbrev pub IsHeardIn : ℕ → Heard → Type 0
IsHeardIn size h = IsSoHeard (IsStreamIn size) (AreBytesIn size) h

abbrev pub IsElementIn : ℕ → Element → Type 0
IsElementIn size x = IsSoElement (IsStreamIn size) (AreBytesIn size) x

abbrev pub IsSettingIn : ℕ → Setting → Type 0
IsSettingIn size s = IsSoSetting (IsStreamIn size) (AreBytesIn size) s

-- ---- what rules tell

-- what is known of the answers of nodes: they lie in the file, and a value is no stream
abbrev pub IsKnown : ℕ → Given → Type 0
IsKnown size (givens.Value v) = IsValueIn size v × IsNoStream v
IsKnown size g = IsIn size g

module _ (met : Node → Result Given NodeFault) (here : Trail) (bytes : List ℕ) (lies : (m : Node) (g : Given) → met m ≡ Ok g → IsKnown (length bytes) g) where
  abbrev size : ℕ
  size = length bytes

  value_told : (v : Value) → IsValueIn size v × IsNoStream v → IsRanged size v
  value_told v known = grind arith

  abbrev Says : {A : Type 0} → (A → Type 0) → Rule A → Type 0
  Says P p = Answers met here bytes P p

  -- what a rule tells to an expression
  value_is : (p : Trail) → Says (λ v. IsRanged size v) (ask_value p)
  value_is p (givens.Value v) is = value_told v (lies (value_node p) (givens.Value v) is)
  value_is p _ is = tt

  object_is : (q : Trail) (h : Head) → IsHeadIn size h → Says (λ o. IsObjectIn size o) (in_object q h)
  object_is q (heads.Object o) within = within
  object_is q (heads.Absent at) within = tt
  object_is q _ within = tt

  told : (s : Setting) (w : Want) → Says (λ h. IsHeardIn size h) (wanted s w)
  unfolding wanted
  told s (wants.Value p) = join met here bytes _ _ (ask_value p) _ (value_is p) (λ v known. known)
  told s (wants.Head p) = join met here bytes _ _ (ask_head p) _ (asked_head met here bytes p)
      (λ k asked. join met here bytes _ _ (in_object p k) _ (object_is p k (lies _ _ asked)) (λ o known. known.1))
  told s (wants.Rest p) = known met here bytes _ (ask_rest p) _ (λ r is. tt)
  told s wants.Size = known met here bytes _ (finish whole) _ (λ n is. tt)
  told s wants.Done = known met here bytes _ (done s.stream s.place) _ (λ x is. tt)
  told s (wants.Bytes f t) = known met here bytes _ (peek f t) _ (λ bs is. tt)

  plan_is : {A : Type 0} (P : A → Type 0) (s : Setting) (p : Eval A) → GivesIn (IsHeardIn size) P p → Says P (translate (wanted s) Here p)
  plan_is P s (Answer x) known = known
  plan_is P s (Fail k) known = tt
  plan_is P s (Ask w k) known = join met here bytes _ P (wanted s w) _ (told s w) (λ h is. plan_is P s (k h) (known h is))

  -- the value of an expression
  expression_is : (s : Setting) (e : Tree) → IsSettingIn size s → Says (λ v. IsRanged size v) (expression s e)
  unfolding expression
  expression_is s e within = plan_is _ s (value_of s e) (value_ranges (IsStreamIn size) (AreBytesIn size) s within e)

  pub expression_in : (s : Setting) (e : Tree) (v : Value) → IsSettingIn size s → answer_of met here bytes (expression s e) ≡ Ok v → IsRanged size v
  expression_in s e v within h = answered met here bytes (λ x. IsRanged size x) (expression s e) v (expression_is s e within) h

  -- the stream that it names
  stream_is : (s : Setting) (io : Option Tree) → IsSettingIn size s → Says (λ w. IsStreamIn size w) (stream_for s io)
  unfolding stream_for
  stream_is s None within = within.0
  stream_is s (Some e) within = join met here bytes _ _ (expression s e) _ (expression_is s e within) (λ v known. grind arith)

  pub stream_in : (s : Setting) (io : Option Tree) (w : Stream) → IsSettingIn size s → answer_of met here bytes (stream_for s io) ≡ Ok w → IsStreamIn size w
  stream_in s io w within h = answered met here bytes (λ x. IsStreamIn size x) (stream_for s io) w (stream_is s io within) h
