-- Names that are texts, and members whose names are added one after the other.
use Rattle.ksv_schema.proofs.Common.{◌≡◌, ℕ, suc, ◌+◌, ◌<◌, ◌≤◌, Bool, true, false, cond, List, [], ◌∷◌, map, length, get_or, drop, Some, None, refl, sym, ap}
use Rattle.ksv_schema.proofs.Common.{◌∙◌, add-one, drop-cons, list_all, is_utf8, Member, drop_all, distinct_behind, are_texts, as_text}
use Rattle.std.proofs.Common.{◌&&◌}
use Rattle.ksv_schema_names.specs.declared.members.Member.{Member as MemberRow}
use Rattle.ksv_schema_names.specs.View.{member_of as row}

text_is : (name text : List ℕ) → Some text ≡ as_text name → (text ≡ name) × (is_utf8 name ≡ true)
unfolding as_text
text_is name text h = go (is_utf8 name) h
  where
    go : (b : Bool) → Some text ≡ cond b (Some name) None → (text ≡ name) × (b ≡ true)
    go true h = (cc, refl)
    go false h = absurd cc

pub is_no_text : (name : List ℕ) → None ≡ as_text name → is_utf8 name ≡ false
unfolding as_text
is_no_text name h = go (is_utf8 name) h
  where
    go : (b : Bool) → None ≡ cond b (Some name) None → b ≡ false
    go true h = absurd cc
    go false h = refl

-- the names of members, of which some are added already
abbrev pub names_in : List MemberRow → List (List ℕ)
names_in ms = map (λ m. m.name) (map row ms)

module _ (ms : List MemberRow) (i : ℕ) (m : MemberRow) (lt : i < length ms) (is : m ≡ get_or ms i m) where
  front : drop i ms ≡ m ∷ drop (i + 1) ms
  front = drop-cons ms i m lt ∙ ap (λ (x : MemberRow). x ∷ drop (suc i) ms) (sym is) ∙ ap (λ (j : ℕ). m ∷ drop j ms) (sym (add-one i))

  pub added_step : (o p q : List (List ℕ)) (text : List ℕ) → Some text ≡ as_text (row m).name → p ≡ distinct_behind o (text ∷ [])
      → distinct_behind o (names_in (drop i ms)) ≡ q → distinct_behind p (names_in (drop (i + 1) ms)) ≡ q
  added_step o p q text h new now =
      ap (λ (p : List (List ℕ)). distinct_behind p (names_in (drop (i + 1) ms)))
      (new ∙ ap (λ (n : List ℕ). distinct_behind o (n ∷ [])) (text_is (row m).name text h).0)
      ∙ sym (ap (λ (xs : List MemberRow). distinct_behind o (names_in xs)) front) ∙ now

  pub texts_step : (b : Bool) (text : List ℕ) → Some text ≡ as_text (row m).name → b ≡ are_texts (map row (drop i ms))
      → b ≡ are_texts (map row (drop (i + 1) ms))
  unfolding are_texts
  texts_step b text h now = now ∙ ap (λ (xs : List MemberRow). are_texts (map row xs)) front
      ∙ ap (λ (c : Bool). c && are_texts (map row (drop (i + 1) ms))) (text_is (row m).name text h).1

  pub texts_stop : (b : Bool) → None ≡ as_text (row m).name → b ≡ are_texts (map row (drop i ms)) → false ≡ b
  unfolding are_texts
  texts_stop b h now =
      sym (now ∙ ap (λ (xs : List MemberRow). are_texts (map row xs)) front
      ∙ ap (λ (c : Bool). c && are_texts (map row (drop (i + 1) ms))) (is_no_text (row m).name h))

pub texts_end : (ms : List MemberRow) (i : ℕ) (b : Bool) → length ms ≤ i → b ≡ are_texts (map row (drop i ms)) → true ≡ b
unfolding are_texts
texts_end ms i b le now = sym (now ∙ ap (λ (xs : List MemberRow). are_texts (map row xs)) (drop_all i ms le))

-- the members of each type are texts
pub all_step : {S : Type 0} (see : S → List Member) (vs : List S) (i : ℕ) (v : S) → i < length vs → v ≡ get_or vs i v → (b : Bool) → are_texts (see v) ≡ true
    → b ≡ list_all are_texts (map see (drop i vs)) → b ≡ list_all are_texts (map see (drop (i + 1) vs))
all_step see vs i v lt is b t now =
    let front : drop i vs ≡ v ∷ drop (i + 1) vs = drop-cons vs i v lt ∙ ap (λ (x : _). x ∷ drop (suc i) vs) (sym is)
    ∙ ap (λ (j : ℕ). v ∷ drop j vs) (sym (add-one i)) in
    now ∙ ap (λ (xs : List _). list_all are_texts (map see xs)) front ∙ ap (λ (c : Bool). c && list_all are_texts (map see (drop (i + 1) vs))) t
