-- What the lines spell is what is read.
use Rattle.ksv_yaml.proofs.Common.{◌≡◌, ℕ, ◌+◌, ◌*◌, true, false, List, [], ◌∷◌, ◌++◌, Some, None, refl, sym, ap, subst, ◌∙◌, arith, inl, inr}
use Rattle.ksv_yaml.proofs.Common.{append-nil, ◌==◌, bytes_eq, Tree, AreQuiet, Node, node, weight, tree_of, Line, is_quiet, loud}
use Rattle.ksv_yaml.proofs.Common.{pick_true, pick_false}
use Rattle.std.specs.Prelude.{codes}
use Rattle.std.proofs.lemmas.Slice.Eq.{bytes_eq-Decides}
use Rattle.ksv_yaml.specs.Grammar.{is_mark, Spelled, bare, marked}
use Rattle.ksv_yaml.specs.Reading.{whole, body, behind_mark}
use Rattle.ksv_yaml.proofs.Steps.{with_bind, Took, loud_took, loud_behind, Loud}
use Rattle.std.proofs.lemmas.Bool.{and_parts}
use Rattle.ksv_yaml_scan.proofs.Choices.{picked}
use Rattle.ksv_yaml.proofs.Sound.{node_sound}
use Rattle.ksv_yaml.proofs.Complete.{node_ok}

-- ---- from the relation to reading

body_complete : {ls : List Line} {t : Tree} → Node 64 0 ls t → body ls ≡ Some t
body_complete n =
    let o = node_ok n in
    rw (o.is, ← (append-nil o.others), o.reads [] (8 * weight (o.first ∷ (o.others ++ [])) + 8) tt (omega arith))

-- a node begins with a line that says something
node_loud : {ls : List Line} {t : Tree} → Node 64 0 ls t → Loud ls
node_loud n = let o = node_ok n in rw o.is o.loud

mark_loud : (l : Line) → is_mark l ≡ true → is_quiet l ≡ false
mark_loud l h = rw ((bytes_eq-Decides l.content (codes "---")).0 (and_parts (l.indent == 0) (bytes_eq l.content (codes "---")) h).1)

pub tree_complete : {ls : List Line} {t : Tree} → Spelled ls t → tree_of ls ≡ Some t
tree_complete (bare xs l ys split q m n) =
    rw (split, loud_behind xs (l ∷ ys) q (node_loud n)) (ap body (pick_false (is_mark l) (loud ys) (l ∷ ys) m) ∙ body_complete n)
tree_complete (marked xs l ys zs split q m r n) =
    rw (split, loud_behind xs (l ∷ (ys ++ zs)) q (mark_loud l m))
    (ap body (pick_true (is_mark l) (loud (ys ++ zs)) (l ∷ (ys ++ zs)) m) ∙ rw (loud_behind ys zs r (node_loud n)) (body_complete n))

-- no lines spell two trees
pub one_tree : (ls : List Line) (t u : Tree) → Spelled ls t → Spelled ls u → t ≡ u
one_tree ls t u a b = let e = sym (tree_complete a) ∙ tree_complete b in cc

-- ---- from reading to the relation

whole_some : (t : Tree) (ls : List Line) (u : Tree) → whole t ls ≡ Some u → (ls ≡ []) × (t ≡ u)
whole_some t [] u h = (refl, cc)
whole_some t (l ∷ ls) u h = absurd cc

body_sound : (ls : List Line) (t : Tree) → body ls ≡ Some t → Node 64 0 ls t
body_sound [] t h = absurd cc
body_sound (l ∷ ls) t h =
    let f : ℕ = 8 * weight (l ∷ ls) + 8 in
    with_bind (node f 64 0 l ls) _ t h (λ x i h.
    let w = whole_some x.value x.rest t h in
    let s = node_sound f 64 0 l ls x (omega arith) i in
    let e : s.front ≡ ls = sym (s.cut ∙ ap (λ (r : List Line). s.front ++ r) w.0 ∙ append-nil s.front) in
    rw (← w.1) (subst (λ (r : List Line). Node 64 0 (l ∷ r) x.value) e s.is))

from_sound : (ls us : List Line) (t : Tree) → Took Line ls us AreQuiet → body (behind_mark us) ≡ Some t → Spelled ls t
from_sound ls [] t q h = absurd cc
from_sound ls (l ∷ us) t q h =
    elim (picked (is_mark l) (loud us) (l ∷ us) (behind_mark (l ∷ us)) refl) [
      | inl a ↦ (let r = loud_took us in marked q.front l r.front (loud us) (q.cut ∙ ap (λ (us : List Line). q.front ++ l ∷ us) r.cut) q.is a.0 r.is
          (body_sound (loud us) t (ap body a.1 ∙ h)))
      | inr a ↦ bare q.front l us q.cut q.is a.0 (body_sound (l ∷ us) t (ap body a.1 ∙ h))
    ]

pub tree_sound : (ls : List Line) (t : Tree) → tree_of ls ≡ Some t → Spelled ls t
tree_sound ls t h = from_sound ls (loud ls) t (loud_took ls) h

pub refused : (ls : List Line) (t : Tree) → tree_of ls ≡ None → Spelled ls t → ⊥
refused ls t h s = let e = tree_complete s in cc
