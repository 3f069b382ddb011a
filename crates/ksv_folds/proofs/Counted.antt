-- The nodes that are counted: those before the last whole element, those of this one too, or all.
use Rattle.std.proofs.Common.{◌*◌, ◌+◌, ◌==◌}
use Rattle.std.proofs.Math.Bool.{beq, not}
use Rattle.std.proofs.lemmas.Bool.{and_parts}
use Rattle.std.specs.Prelude.{IfSome}
use Rattle.ksv_memo_rules.specs.Evaluation.{tells}
use Rattle.ksv_memo_rules.specs.declared.rules.Outcome.TheVariants.{Answered}
use Rattle.ksv_nodes.specs.declared.given.Given.TheVariants as givens
use Rattle.ksv_nodes.specs.declared.given.Head.TheVariants as heads
use Rattle.ksv_nodes.specs.declared.given.List as lists
use Rattle.ksv_rule_meaning.proofs.Direct.{answers_are_direct}
use Rattle.ksv_rule_meaning.specs.Direct.{flattened}
use Rattle.ksv_rule_meaning.specs.FromNothing.{from_nothing}
use Rattle.ksv_rule_meaning.specs.Heads.{is_past}
use Rattle.ksv_list_laws.proofs.Common.{◌≡◌, ◌∙◌, ℕ, suc, ◌-◌, ◌<◌, ◌≤◌, Bool, true, false, List, [], Option, Some, None, Ok, inl, inr, refl, sym, ap, subst}
use Rattle.ksv_list_laws.proofs.Common.{arith, nat_tests, Description, on, described, head_node, Listing, IsPlain, start}
use Rattle.ksv_list_laws.specs.Lists.{Layout, is_named_to}
use Rattle.ksv_list_laws.specs.Nodes.{IsWhole, SaysSize, is_last_at}
use Rattle.ksv_folds.proofs.Rooms.{start_low}
use Rattle.ksv_folds.proofs.Laid.{unnamed, start_is}
use Rattle.ksv_folds.proofs.Right.{open_sequences_are_right, sequences_are_right, whole_sequences_are_right}
use Rattle.ksv_memo_rules.specs.Folds.{AreTold, IsFold}
use Rattle.ksv_folds.specs.Laws.{Describes}
use Rattle.ksv_folds.specs.Layouts.{HasLayout, IsOf, AreWhole, AreSaidTo}
use Rattle.ksv_folds.proofs.Written.{said_by_bytes, said_by_value}
use Rattle.ksv_folds.specs.Sequence.{says_sizes, says_of, fold_of, is_closing, start_of, size_of}
use Rattle.ksv_folds.specs.declared.plain_list.PlainList.{PlainList}

-- two tests that don't differ
pub alike : (a b : Bool) → not (beq a b) ≡ false → a ≡ b
alike true true e = refl
alike false false e = refl
alike true false e = absurd (cc)
alike false true e = absurd (cc)

-- the list, of which so many elements are looked at
abbrev pub listing : PlainList → lists.List → Layout → ℕ → Listing
listing p g y n = record { path = p.root.path; list = g; layout = y; first = p.first; count = n; says = λ i. says_of p i }

-- so many of its elements say their sizes
abbrev pub AreSaid : PlainList → List ℕ → lists.List → Layout → ℕ → Type 0
AreSaid p bytes g y n = says_sizes p ≡ true → (i : ℕ) → i < n → SaysSize bytes (listing p g y n) i

module _ (p : PlainList) (d : Description) (bytes : List ℕ) (g : lists.List) (n : ℕ) (of : IsOf p g) (has : HasLayout p d g) (all : AreWhole p g bytes n)
    (some : 0 < n) (said : AreSaid p bytes g has.layout n)
  where
    x : Listing
    x = listing p g has.layout n

    root_is : p.root ≡ head_node p.root.path
    root_is = λ i. record { kind = of.root i; path = p.root.path }

    describes : Describes p x
    unfolding x
    describes = record { root = root_is; list = of.list; origin = of.origin; first = refl; kind = has.kind; element = has.element; says = λ e i low. refl }

    uncounted : (i : ℕ) → i < n → (o : Option ℕ) → IfSome o (λ m. n ≤ m) → is_past o i ≡ false
    uncounted i low None h = refl
    uncounted i low (Some m) h = grind (arith, nat_tests)

    says_it : (b : Bool) → says_sizes p ≡ b → is_named_to has.layout has.layout.last ≡ true → (i : ℕ) → i < n → SaysSize bytes x i
    unfolding x
    says_it true h e i low = said h i low
    says_it false h e i low = absurd (let never = sym e ∙ unnamed p x describes h has.layout.last (omega arith) in cc)

    whole : (i : ℕ) → i < n → IsWhole bytes x i
    unfolding x
    whole i low =
        let few = all.few in
        let at = start_is p x describes (suc i) (omega (arith, low, few)) in
        let up = start_low p (suc i) n low few in
        let room = all.room some in
        record {
          room = omega (arith, at, up, room);
          counted = uncounted i low g.count all.counted;
          says = λ e. says_it (says_sizes p) refl e i low;
        }

    plain : ◌≡◌ (tells (on (described d) bytes) [] p.root).outcome (Answered (Ok (givens.Head (heads.List g)))) → IsPlain d bytes x
    unfolding x
    plain h = record {
      laid = has.laid;
      listed = subst (λ m. from_nothing d bytes [] m ≡ Ok (givens.Head (heads.List g))) root_is
          (sym (answers_are_direct d bytes [] p.root) ∙ ap flattened h);
      short = p.short;
      few = (let few = all.few in let most = p.few in omega (arith, few, most));
      begins = of.begins;
      filled = of.filled;
      within = all.within some;
      whole = whole;
    }

    pub count_is : ◌≡◌ (tells (on (described d) bytes) [] p.root).outcome (Answered (Ok (givens.Head (heads.List g))))
        → IsFold (on (described d) bytes) (fold_of p) (p.per * (n - 1))
    unfolding x
    count_is h = sequences_are_right p d bytes x (plain h) describes all.few (p.per * (n - 1)) (omega arith)

    pub open_is : is_closing p (n - 1) ≡ false → is_last_at g.count bytes g.stream.to (n - 1) (start_of p n) ≡ false
        → ◌≡◌ (tells (on (described d) bytes) [] p.root).outcome (Answered (Ok (givens.Head (heads.List g))))
        → IsFold (on (described d) bytes) (fold_of p) (p.per * n)
    unfolding x
    open_is closes last h =
        let same : suc (n - 1) ≡ n = omega (arith, some) in
        open_sequences_are_right p d bytes x (plain h) describes all.few
        (ap (is_last_at g.count bytes g.stream.to (n - 1)) (ap (start x) same ∙ start_is p x describes n all.few) ∙ last)
        closes (p.per * n) (omega arith)

    pub whole_is : is_closing p (n - 1) ≡ true → is_last_at g.count bytes g.stream.to (n - 1) (start_of p n) ≡ true
        → ◌≡◌ (tells (on (described d) bytes) [] p.root).outcome (Answered (Ok (givens.Head (heads.List g))))
        → IsFold (on (described d) bytes) (fold_of p) (size_of p)
    unfolding x
    whole_is closes last h =
        let same : suc (n - 1) ≡ n = omega (arith, some) in
        let parts = and_parts p.closed (n - 1 + 1 == p.most) closes in
        whole_sequences_are_right p d bytes x (plain h) describes (record {
          closed = parts.0;
          all = (let every = parts.1 in let one : n - 1 + 1 ≡ n = omega (arith, some) in grind (arith, nat_tests));
          last = ap (is_last_at g.count bytes g.stream.to (n - 1)) (ap (start x) same ∙ start_is p x describes n all.few) ∙ last;
        })

-- the elements that are counted say their sizes
pub are_said : (p : PlainList) (d : Description) (bytes : List ℕ) (g : lists.List) (n kept : ℕ)
    → IsOf p g → (has : HasLayout p d g) → AreWhole p g bytes n → 0 < n
    → AreSaidTo p bytes kept n → AreTold (on (described d) bytes) (fold_of p) kept → AreSaid p bytes g has.layout n
are_said p d bytes g n kept of has all some said told says i low =
    let few = all.few in
    let x = listing p g has.layout n in
    let up = start_low p (suc i) n low few in
    let room = all.room some in
    let within = all.within some in
    elim (said says i low) [
      | inl less ↦ said_by_value p d bytes x is says has kept i told (omega (arith, low, few)) less has.laid
      | inr w ↦ said_by_bytes p d bytes x is says i (omega (arith, low, few)) (omega (arith, up, room, within)) w (has.number says)
    ]
  where
    is : Describes p (listing p g has.layout n)
    is = record {
      root = λ t. record { kind = of.root t; path = p.root.path };
      list = of.list;
      origin = of.origin;
      first = refl;
      kind = has.kind;
      element = has.element;
      says = λ e j less. refl;
    }
