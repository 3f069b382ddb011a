-- What the readers of a description find.
use Rattle.std.proofs.Common.{◌≡◌, ℕ, zero, suc, ◌+◌, ◌<◌, ◌≤◌, Bool, true, false, cond, List, [], ◌∷◌, ◌++◌, length, get_or, drop, map, filter, take, ap, sym}
use Rattle.std.proofs.Common.{◌∙◌, refl, Some, None, arith, append_assoc, add-one, drop-cons}
use Rattle.std.specs.List.{position_from}
use Rattle.ksv_desc.specs.declared.members.MemberKind.{MemberKind}
use Rattle.ksv_desc.specs.declared.members.MemberKind.TheVariants as kinds
use Rattle.ksv_desc.specs.declared.members.MemberDesc.{MemberDesc}
use Rattle.ksv_desc.specs.Sequence.{is_attribute_kind, is_attribute}
use Rattle.ksv_desc.specs.Description.{MemberOfType, is_attribute as plain_is}
use Rattle.ksv_desc.specs.Pieces.{plain_kind, plain_member}

-- ---- names of members

pub names_same : (ms : List MemberDesc) → map (λ m. m.name) (map plain_member ms) ≡ map (λ m. m.name) ms
names_same [] = refl
names_same (m ∷ ms) = ap (λ (ns : List ℕ). m.name ∷ ns) (names_same ms)

same_test : (m : MemberDesc) → plain_is (plain_member m) ≡ is_attribute m
same_test m = go m.kind
  where
    go : (k : MemberKind) → plain_is (record { name = m.name; kind = plain_kind k }) ≡ is_attribute_kind k
    go kinds.Parameter = refl
    go (kinds.Attribute f) = refl
    go (kinds.ParseInstance p s f) = refl
    go (kinds.ValueInstance c v e x) = refl

pub fields_same : (ms : List MemberDesc) → map (λ m. m.name) (filter plain_is (map plain_member ms)) ≡ map (λ m. m.name) (filter is_attribute ms)
fields_same [] = refl
fields_same (m ∷ ms) =
    ap (λ (b : Bool). map (λ (m : MemberOfType). m.name)
    (cond b (plain_member m ∷ filter plain_is (map plain_member ms)) (filter plain_is (map plain_member ms)))) (same_test m)
    ∙ go (is_attribute m) (fields_same ms)
  where
    go : (b : Bool) → map (λ m. m.name) (filter plain_is (map plain_member ms)) ≡ map (λ m. m.name) (filter is_attribute ms)
        → map (λ (m : MemberOfType). m.name) (cond b (plain_member m ∷ filter plain_is (map plain_member ms)) (filter plain_is (map plain_member ms)))
        ≡ map (λ (m : MemberDesc). m.name) (cond b (m ∷ filter is_attribute ms) (filter is_attribute ms))
    go true h = ap (λ (ns : List ℕ). m.name ∷ ns) h
    go false h = h

-- ---- lists of names that grow member by member

pub name_more : (xs ns : List ℕ) (ms : List MemberDesc) (i : ℕ) (m : MemberDesc) (whole : List ℕ) → i < length ms → m ≡ get_or ms i m → ns ≡ xs ++ m.name ∷ []
    → xs ++ map (λ m. m.name) (drop i ms) ≡ whole → ns ++ map (λ m. m.name) (drop (i + 1) ms) ≡ whole
name_more xs ns ms i m whole lt is new so_far =
    let rest = map (λ (m : MemberDesc). m.name) (drop (suc i) ms) in
    ap (λ (j : ℕ). ns ++ map (λ (m : MemberDesc). m.name) (drop j ms)) (add-one i)
    ∙ ap (λ (l : List ℕ). l ++ rest) new ∙ append_assoc xs (m.name ∷ []) rest
    ∙ ap (λ (k : MemberDesc). xs ++ k.name ∷ rest) is
    ∙ sym (ap (λ (ys : List MemberDesc). xs ++ map (λ (m : MemberDesc). m.name) ys) (drop-cons ms i m lt)) ∙ so_far

-- ---- the first of those in front

module _ {A : Type 0} (p : A → Bool) where
  past : (j n : ℕ) (xs : List A) → position_from p j xs ≡ Some n → j ≤ n
  past j n [] h = absurd cc
  past j n (x ∷ xs) h = go (p x) h (past (j + 1) n xs)
    where
      go : (b : Bool) → cond b (Some j) (position_from p (j + 1) xs) ≡ Some n → (position_from p (j + 1) xs ≡ Some n → j + 1 ≤ n) → j ≤ n
      go true h r = let e : j ≡ n = cc in omega arith
      go false h r = let le = r h in omega arith

  pub none_in_front : (j k : ℕ) (xs : List A) → position_from p j xs ≡ None → position_from p j (take k xs) ≡ None
  none_in_front j zero xs h = refl
  none_in_front j (suc k) [] h = refl
  none_in_front j (suc k) (x ∷ xs) h = go (p x) h (none_in_front (j + 1) k xs)
    where
      go : (b : Bool) → cond b (Some j) (position_from p (j + 1) xs) ≡ None → (position_from p (j + 1) xs ≡ None → position_from p (j + 1) (take k xs) ≡ None)
          → cond b (Some j) (position_from p (j + 1) (take k xs)) ≡ None
      go true h r = absurd cc
      go false h r = r h

  pub found_in_front : (j k n : ℕ) (xs : List A) → position_from p j xs ≡ Some n → n < j + k → position_from p j (take k xs) ≡ Some n
  found_in_front j zero n xs h lt = let le = past j n xs h in absurd (omega arith)
  found_in_front j (suc k) n [] h lt = absurd cc
  found_in_front j (suc k) n (x ∷ xs) h lt = go (p x) h (λ r. found_in_front (j + 1) k n xs r (omega arith))
    where
      go : (b : Bool) → cond b (Some j) (position_from p (j + 1) xs) ≡ Some n
          → (position_from p (j + 1) xs ≡ Some n → position_from p (j + 1) (take k xs) ≡ Some n)
          → cond b (Some j) (position_from p (j + 1) (take k xs)) ≡ Some n
      go true h r = h
      go false h r = r h

  pub found_behind : (j k n : ℕ) (xs : List A) → position_from p j xs ≡ Some n → j + k ≤ n → position_from p j (take k xs) ≡ None
  found_behind j zero n xs h le = refl
  found_behind j (suc k) n [] h le = refl
  found_behind j (suc k) n (x ∷ xs) h le = go (p x) h (λ r. found_behind (j + 1) k n xs r (omega arith))
    where
      go : (b : Bool) → cond b (Some j) (position_from p (j + 1) xs) ≡ Some n
          → (position_from p (j + 1) xs ≡ Some n → position_from p (j + 1) (take k xs) ≡ None) → cond b (Some j) (position_from p (j + 1) (take k xs)) ≡ None
      go true h r = let e : j ≡ n = cc in absurd (omega arith)
      go false h r = r h

pub ruleset members_seen = (names_same, fields_same)

pub ruleset known = (none_in_front, found_in_front, found_behind)
