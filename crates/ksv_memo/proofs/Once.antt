-- A list's members, each once.
use Rattle.ksv_memo.proofs.Common.{◌≡◌, ◌≢◌, inl, inr, ℕ, ◌+◌, ◌<◌, Bool, true, false, ◌&&◌, nat_eq, List, [], ◌∷◌, ◌++◌, take, length, get_or, refl, sym}
use Rattle.ksv_memo.proofs.Common.{◌∙◌, ap, subst, Contains, Use, Bytes, HasEachOnce}
use Rattle.std.proofs.Common.{true≢false, add-one}
use Rattle.std.proofs.Math.Seq.{take-suc}
use Rattle.std.specs.Bool.{Decides}
use Rattle.std.proofs.lemmas.Bool.Decides.{Decides-eqb, Decides-and, Decides-like}
use Rattle.std.proofs.lemmas.List.Elements.{Contains-get_or, Contains-push, Contains-push_cases, Contains-append_left, contains_decides, Decides-contains}
use Rattle.std.proofs.lemmas.List.Quantifiers.{all_pairs_push}
use Rattle.std.specs.List.{IsAnyAnswer}
use Rattle.ksv_bytes.specs.declared.uses.Use.TheVariants.{Reach, Size}
use Rattle.ksv_bytes.specs.contracts.uses.UsePartialEq.TheImpl.{ghosts}

-- `==` on uses says whether they are the same
pub use_decides : (a b : Use) → Decides (ghosts.eq a b) (a ≡ b)
use_decides (Bytes f t) (Bytes g u) = Decides-like (nat_eq f g && nat_eq t u) (λ p i. Bytes (p.0 i) (p.1 i))
    (λ e. let p : f ≡ g = cc in let q : t ≡ u = cc in (p, q)) (Decides-and (nat_eq f g) (nat_eq t u) (Decides-eqb f g) (Decides-eqb t u))
use_decides (Bytes f t) (Reach u) = (λ e. cc, λ e. cc)
use_decides (Bytes f t) Size = (λ e. cc, λ e. cc)
use_decides (Reach t) (Bytes g u) = (λ e. cc, λ e. cc)
use_decides (Reach t) (Reach u) = Decides-like (nat_eq t u) (λ e. ap (λ x. Reach x) e) (λ e. let p : t ≡ u = cc in p) (Decides-eqb t u)
use_decides (Reach t) Size = (λ e. cc, λ e. cc)
use_decides Size (Bytes g u) = (λ e. cc, λ e. cc)
use_decides Size (Reach u) = (λ e. cc, λ e. cc)
use_decides Size Size = (λ e. refl, λ e. refl)

-- a member that was there already
once-seen : {X : Type 0} (once xs : List X) (x : X) → HasEachOnce once xs → Contains once x → HasEachOnce once (xs ++ x ∷ [])
once-seen {X} once xs x h seen = record {
  distinct = h.distinct;
  same = λ y. (
    λ k. Contains-append_left xs (x ∷ []) y ((h.same y).0 k),
    λ k. elim (Contains-push_cases xs x y k) [
      | inl k ↦ (h.same y).1 k
      | inr e ↦ subst (Contains once) e seen
    ],
  );
}

-- a new member
once-new : {X : Type 0} (once xs : List X) (x : X) → HasEachOnce once xs → (Contains once x → ⊥) → HasEachOnce (once ++ x ∷ []) (xs ++ x ∷ [])
once-new {X} once xs x h unseen = record {
  distinct = all_pairs_push (λ a b. a ≢ b) once x h.distinct (λ k d lt e. unseen (subst (Contains once) e (Contains-get_or once k d lt)));
  same = λ y. (
    λ k. elim (Contains-push_cases once x y k) [
      | inl k ↦ Contains-append_left xs (x ∷ []) y ((h.same y).0 k)
      | inr e ↦ subst (Contains (xs ++ x ∷ [])) e (Contains-push xs x)
    ],
    λ k. elim (Contains-push_cases xs x y k) [
      | inl k ↦ Contains-append_left once (x ∷ []) y ((h.same y).1 k)
      | inr e ↦ subst (Contains (once ++ x ∷ [])) e (Contains-push once x)
    ],
  );
}

-- what the test for a member says
pub member_test : (seen once : List Use) (x : Use) (r : Bool) → seen ≡ once → IsAnyAnswer (λ y b. ghosts.eq y x ≡ b) seen r → Decides r (Contains once x)
member_test seen once x r same is =
    rw same at (Decides-contains seen x r (contains_decides ghosts.eq use_decides seen x r is))

-- one more member of a list is looked at
pub once-keeps : (once now uses : List Use) (i : ℕ) (d : Use) (r : Bool) → i < length uses → HasEachOnce once (take i uses)
    → Decides r (Contains once (get_or uses i d)) → r ≡ true → now ≡ once → HasEachOnce now (take (i + 1) uses)
once-keeps once now uses i d r lt h says is same =
    let more : take (i + 1) uses ≡ take i uses ++ get_or uses i d ∷ [] = rw add-one (take-suc uses i d lt) in
    rw same (rw more (once-seen _ _ (get_or uses i d) h (says.0 is)))

pub once-takes : (once now uses : List Use) (i : ℕ) (d : Use) (r : Bool) → i < length uses → HasEachOnce once (take i uses)
    → Decides r (Contains once (get_or uses i d)) → r ≡ false → now ≡ once ++ get_or uses i d ∷ [] → HasEachOnce now (take (i + 1) uses)
once-takes once now uses i d r lt h says is same =
    let more : take (i + 1) uses ≡ take i uses ++ get_or uses i d ∷ [] = rw add-one (take-suc uses i d lt) in
    rw same (rw more (once-new _ _ (get_or uses i d) h (λ k. true≢false (sym (says.1 k) ∙ is))))
