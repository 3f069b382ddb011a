-- Of which elements the nodes are told: those before the last whole one, and that one too where the list goes on behind it; and all where the list ends with
-- the last that has a number.
use Rattle.std.proofs.Common.{◌*◌, ◌==◌, ◌&&◌}
use Rattle.std.proofs.Math.Nat.{mul-le-mul_left}
use Rattle.ksv_rule_meaning.specs.Heads.{is_past}
use Rattle.ksv_list_laws.proofs.Common.{◌≡◌, ◌∙◌, ℕ, suc, ◌+◌, ◌-◌, ◌<◌, ◌≤◌, Bool, true, false, List, Option, Some, None, refl, sym, ap, subst, arith}
use Rattle.ksv_list_laws.proofs.Common.{nat_tests, inl, inr, cases_lt, Description, end_in, Listing, IsPlain, start}
use Rattle.ksv_list_laws.proofs.Telling.{start_less}
use Rattle.ksv_list_laws.specs.Nodes.{IsWhole, is_last, is_last_at}
use Rattle.ksv_folds.proofs.Told.{IsTold, IsKnown}
use Rattle.ksv_folds.specs.Laws.{Describes, EndsWith}
use Rattle.ksv_folds.specs.Lemmas.Numbers.{element_at, numbered_there, spot_there}
use Rattle.ksv_folds.specs.Sequence.{IsIn, IsThere, numbered_at, elements_size, size_of, is_closing}
use Rattle.ksv_folds.specs.declared.plain_list.PlainList.{PlainList}
use Rattle.ksv_folds.specs.declared.spot.Numbered.{Numbered}
use Rattle.ksv_folds.specs.declared.spot.Numbered.TheVariants.{Of, Rest, MissingHead, MissingEnd}
use Rattle.ksv_folds.specs.declared.spot.Spot.{Spot}
use Rattle.ksv_folds.specs.declared.spot.Spot.TheVariants.{ElementHead, ElementEnd, FieldHead, FieldEnd, Value}

-- a node of the first elements is one of more elements
pub spot_low : (b : Bool) (k m n : ℕ) → m ≤ n → (s : Spot) → IsIn b k m s → IsIn b k n s
spot_low b k m n le (ElementHead i) low = omega (arith, le, low)
spot_low b k m n le (ElementEnd i) low = omega (arith, le, low)
spot_low b k m n le (FieldHead i f) low = (let less = low.0 in omega (arith, le, less), low.1)
spot_low b k m n le (FieldEnd i f) low = (let less = low.0 in omega (arith, le, less), low.1)
spot_low b k m n le (Value i) low = (let less = low.0 in omega (arith, le, less), low.1)

module _ (p : PlainList) (d : Description) (bytes : List ℕ) (x : Listing) (plain : IsPlain d bytes x) (is : Describes p x) where
  -- the stream goes on behind an element before the last whole one
  behind : (i : ℕ) → i < x.count - 1 → start x (suc i) < end_in bytes x.list.stream.to
  behind i low =
      let room = (plain.whole (suc i) (omega (arith, low))).room in
      let more = start_less d bytes x plain (suc i) in omega (arith, room, more)

  unended : (i : ℕ) → i < x.count - 1 → is_last bytes x i ≡ false
  unended i low = by x.list.count (IsWhole.counted (plain.whole (suc i) (omega (arith, low))))
    where
      by : (o : Option ℕ) → is_past o (suc i) ≡ false → is_last_at o bytes x.list.stream.to i (start x (suc i)) ≡ false
      by None e = let more = behind i low in grind (arith, nat_tests)
      by (Some n) e = grind (arith, nat_tests)

  unclosed : (i : ℕ) → suc i < p.most → is_closing p i ≡ false
  unclosed i low = let other : (i + 1 == p.most) ≡ false = grind (arith, nat_tests) in ap (λ b. p.closed && b) other ∙ by p.closed
    where
      by : (b : Bool) → (b && false) ≡ false
      by true = refl
      by false = refl

  module _ (few : x.count ≤ p.most) where
    pub before : IsTold p bytes x (x.count - 1)
    before = record {
      whole = omega arith;
      few = omega (arith, few);
      ends = λ i low. unended i low ∙ sym (unclosed i (omega (arith, low, few)));
    }

    low_all : p.per * (x.count - 1) ≤ elements_size p
    low_all = mul-le-mul_left p.per (omega (arith, few))

    pub before_room : (count : ℕ) → count ≤ p.per * (x.count - 1) → count ≤ size_of p
    before_room count low = let up = low_all in omega (arith, low, up)

    pub before_known : (count : ℕ) → count ≤ p.per * (x.count - 1) → (j : ℕ) → j < count
        → IsKnown p d bytes x plain is (x.count - 1) before (numbered_at p j)
    before_known count low j less =
        let up = low_all in
        subst (IsKnown p d bytes x plain is (x.count - 1) before) (sym (element_at p j (omega (arith, low, up, less))))
        (spot_there p (x.count - 1) j (omega (arith, low, less)))

  module _ (few : x.count ≤ p.most) (goes_on : is_last bytes x (x.count - 1) ≡ false) (unended_too : is_closing p (x.count - 1) ≡ false) where
    unlast : (i : ℕ) → i < x.count → is_last bytes x i ≡ is_closing p i
    unlast i low = elim (cases_lt (suc i) x.count) [
      | inl less ↦ unended i (omega (arith, less)) ∙ sym (unclosed i (omega (arith, less, few)))
      | inr more ↦ (
          let same : i ≡ x.count - 1 = omega (arith, more, low) in ap (is_last bytes x) same ∙ goes_on ∙ sym (ap (is_closing p) same ∙ unended_too))
    ]

    pub every : IsTold p bytes x x.count
    every = record { whole = omega arith; few = few; ends = unlast }

    every_low : p.per * x.count ≤ elements_size p
    every_low = mul-le-mul_left p.per few

    pub every_room : (count : ℕ) → count ≤ p.per * x.count → count ≤ size_of p
    every_room count low = let up = every_low in omega (arith, low, up)

    pub every_known : (count : ℕ) → count ≤ p.per * x.count → (j : ℕ) → j < count → IsKnown p d bytes x plain is x.count every (numbered_at p j)
    every_known count low j less =
        let up = every_low in
        subst (IsKnown p d bytes x plain is x.count every) (sym (element_at p j (omega (arith, low, up, less))))
        (spot_there p x.count j (omega (arith, low, less)))

  module _ (ends : EndsWith p bytes x) where
    last_of : (i : ℕ) → i < p.most → is_last bytes x i ≡ is_closing p i
    last_of i low =
        let count = ends.all in elim (cases_lt (suc i) p.most) [
          | inl less ↦ unended i (omega (arith, less, count)) ∙ sym (unclosed i less)
          | inr more ↦ (
              let same : i ≡ x.count - 1 = omega (arith, more, low, count) in
              let so : (i + 1 == p.most) ≡ true = grind (arith, nat_tests) in
              ap (is_last bytes x) same ∙ ends.last ∙ sym (ap (λ b. b && i + 1 == p.most) ends.closed ∙ so))
        ]

    pub all : IsTold p bytes x p.most
    all = record { whole = (let count = ends.all in omega (arith, count)); few = omega arith; ends = last_of }

    pub all_known : (j : ℕ) → j < size_of p → IsKnown p d bytes x plain is p.most all (numbered_at p j)
    all_known j low = by (numbered_at p j) (numbered_there p j low)
      where
        by : (s : Numbered) → IsThere p s → IsKnown p d bytes x plain is p.most all s
        by (Of s) there = there
        by (Rest i) there = (there, refl, ends)
        by (MissingHead k) there = (there, refl, ends)
        by (MissingEnd k) there = (there, refl, ends)
