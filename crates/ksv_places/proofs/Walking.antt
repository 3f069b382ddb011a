-- The paths of links, and what a walk along them finds.
use Rattle.ksv_places.proofs.Common.{◌≡◌, ℕ, zero, suc, ◌+◌, ◌<◌, List, [], ◌∷◌, ◌++◌, length, get_or, take, reverse, refl, sym, ◌∙◌, ap, arith, length_push}
use Rattle.ksv_places.proofs.Common.{get_or_append_left, Step, Name, Link, link_at, paths_of, look, IsTree}
use Rattle.std.proofs.Common.{drop}
use Rattle.std.proofs.lemmas.List.{take-append-drop, reverse-append}
use Rattle.std.proofs.Math.Seq.{get_or-append_seam, take-suc}
use Rattle.ksv_places.specs.Tree.{paths_from, IsChild}

pub length-from : (ps : List (List Step)) (ls : List Link) → length (paths_from ps ls) ≡ length ps + length ls
length-from ps [] = omega arith
length-from ps (l ∷ ls) =
    let x = l.step ∷ get_or ps l.parent [] in omega (arith, length-from (ps ++ x ∷ []) ls, length_push ps x)

pub kept : (ps : List (List Step)) (ls : List Link) (i : ℕ) → i < length ps → get_or (paths_from ps ls) i [] ≡ get_or ps i []
kept ps [] i lt = refl
kept ps (l ∷ ls) i lt =
    let x : List Step = l.step ∷ get_or ps l.parent [] in
    kept (ps ++ x ∷ []) ls i (omega (arith, length_push ps x)) ∙ get_or_append_left ps (x ∷ []) [] i lt

pub placed : (ps : List (List Step)) (ls : List Link) (k j : ℕ) → j ≡ length ps + k → k < length ls → (link_at ls k).parent < j
    → get_or (paths_from ps ls) j [] ≡ (link_at ls k).step ∷ get_or (paths_from ps ls) (link_at ls k).parent []
placed ps [] k j e lt up = absurd (omega arith)
placed ps (l ∷ ls) zero j e lt up =
    let x : List Step = l.step ∷ get_or ps l.parent [] in
    let n = length_push ps x in
    let same : j ≡ length ps = omega arith in
    let below : l.parent < length ps = omega arith in
    let there : get_or (paths_from (ps ++ x ∷ []) ls) l.parent [] ≡ get_or ps l.parent [] =
    kept (ps ++ x ∷ []) ls l.parent (omega arith) ∙ get_or_append_left ps (x ∷ []) [] l.parent below in
    rw (kept (ps ++ x ∷ []) ls j (omega arith), same, get_or-append_seam ps x [] [], there) refl
placed ps (l ∷ ls) (suc k) j e lt up =
    let x : List Step = l.step ∷ get_or ps l.parent [] in
    let n = length_push ps x in
    placed (ps ++ x ∷ []) ls k j (omega arith) (omega arith) up

pub length-paths : (links : List Link) → length (paths_of links) ≡ length links
length-paths [] = refl
length-paths (l ∷ ls) = omega (arith, length-from ([] ∷ []) ls)

pub root_at : (links : List Link) → 0 < length links → get_or (paths_of links) 0 [] ≡ []
root_at [] lt = refl
root_at (l ∷ ls) lt = kept ([] ∷ []) ls 0 (omega arith)

pub path_at : (links : List Link) (c : ℕ) → 0 < c → c < length links → (link_at links c).parent < c
    → get_or (paths_of links) c [] ≡ (link_at links c).step ∷ get_or (paths_of links) (link_at links c).parent []
path_at [] c p lt up = absurd (omega arith)
path_at (l ∷ ls) zero p lt up = absurd (omega arith)
path_at (l ∷ ls) (suc k) p lt up = placed ([] ∷ []) ls k (suc k) (omega arith) (omega arith) up

module _ (links : List Link) (firsts : ℕ → ℕ) (members elements : ℕ → ℕ → ℕ) (t : IsTree links firsts members elements) where
  -- a step further
  pub further : (r : ℕ) (s : Step) (q : List Step) → r < length links → get_or (paths_of links) r [] ≡ q → 0 < look links firsts members elements r s
      → get_or (paths_of links) (look links firsts members elements r s) [] ≡ s ∷ q
  further r s q lt is some =
      let c = look links firsts members elements r s in
      let k : IsChild links r s c = t.sound r s some in
      path_at links c some k.inside (t.up c some k.inside) ∙ (λ i. k.step i ∷ get_or (paths_of links) (k.parent i) []) ∙ ap (λ (p : List Step). s ∷ p) is

  pub inside : (r : ℕ) (s : Step) → r < length links → 0 < look links firsts members elements r s → look links firsts members elements r s < length links
  inside r s lt some = (t.sound r s some).inside

  -- it has a larger number
  pub beyond : (r : ℕ) (s : Step) → 0 < look links firsts members elements r s → r < look links firsts members elements r s
  beyond r s some =
      let c = look links firsts members elements r s in
      let k : IsChild links r s c = t.sound r s some in
      omega (arith, t.up c some k.inside, k.parent)

  record Parts (i : ℕ) (s : Step) (q : List Step) : Type 0 where
    pub step : (link_at links i).step ≡ s
    pub path : get_or (paths_of links) (link_at links i).parent [] ≡ q
    pub there : (link_at links i).parent < length links

  parts : (i : ℕ) (s : Step) (q : List Step) → 0 < i → i < length links → get_or (paths_of links) i [] ≡ s ∷ q → Parts i s q
  parts i s q p lt e =
      let up : (link_at links i).parent < i = t.up i p lt in
      let f = sym (path_at links i p lt up) ∙ e in
      record { step = cc; path = cc; there = omega arith }

  -- no two numbers have one path
  pub one_path : (q : List Step) (i j : ℕ) → i < length links → j < length links → get_or (paths_of links) i [] ≡ q → get_or (paths_of links) j [] ≡ q → i ≡ j
  one_path [] zero zero li lj e f = refl
  one_path [] (suc i) j li lj e f = cc (path_at links (suc i) (omega arith) li (t.up (suc i) (omega arith) li))
  one_path [] zero (suc j) li lj e f = cc (path_at links (suc j) (omega arith) lj (t.up (suc j) (omega arith) lj))
  one_path (s ∷ q) zero j li lj e f = cc (root_at links (omega arith))
  one_path (s ∷ q) (suc i) zero li lj e f = cc (root_at links (omega arith))
  one_path (s ∷ q) (suc i) (suc j) li lj e f =
      let a = parts (suc i) s q (omega arith) li e in
      let b = parts (suc j) s q (omega arith) lj f in
      let p = one_path q (link_at links (suc i)).parent (link_at links (suc j)).parent a.there b.there a.path b.path in
      let s1 = a.step ∙ sym b.step in
      sym (t.complete (suc i) (omega arith) li) ∙ (λ k. look links firsts members elements (p k) (s1 k)) ∙ t.complete (suc j) (omega arith) lj

  -- where there is no path a step further, there is none beyond it
  pub none_beyond : (ws : List Step) (s : Step) (q : List Step) (r : ℕ) → r < length links → get_or (paths_of links) r [] ≡ q
      → look links firsts members elements r s ≡ 0 → (i : ℕ) → i < length links → get_or (paths_of links) i [] ≡ ws ++ s ∷ q → ⊥
  none_beyond [] s q r lr er f zero li e = cc (root_at links (omega arith))
  none_beyond [] s q r lr er f (suc i) li e =
      let a = parts (suc i) s q (omega arith) li e in
      let p = one_path q (link_at links (suc i)).parent r a.there lr a.path er in
      let zero_is : suc i ≡ 0 = sym (t.complete (suc i) (omega arith) li) ∙ (λ k. look links firsts members elements (p k) (a.step k)) ∙ f in
      absurd (omega arith)
  none_beyond (w ∷ ws) s q r lr er f zero li e = cc (root_at links (omega arith))
  none_beyond (w ∷ ws) s q r lr er f (suc i) li e =
      let a = parts (suc i) w (ws ++ s ∷ q) (omega arith) li e in
      none_beyond ws s q r lr er f (link_at links (suc i)).parent a.there a.path

  pub no_path : (steps : List Step) (k r : ℕ) → k < length steps → r < length links → get_or (paths_of links) r [] ≡ reverse (take k steps)
      → look links firsts members elements r (get_or steps k (Name 0)) ≡ 0 → (i : ℕ) → i < length links → get_or (paths_of links) i [] ≡ reverse steps → ⊥
  no_path steps k r lt lr er f i li e =
      let s = get_or steps k (Name 0) in
      let rest = drop (suc k) steps in
      let whole : steps ≡ (take k steps ++ s ∷ []) ++ rest =
      sym (take-append-drop (suc k) steps) ∙ ap (λ (xs : List Step). xs ++ rest) (take-suc steps k (Name 0) lt) in
      let turned = ap (λ (xs : List Step). reverse xs) whole ∙ reverse-append (take k steps ++ s ∷ []) rest
      ∙ ap (λ (xs : List Step). reverse rest ++ xs) (reverse-append (take k steps) (s ∷ [])) in
      none_beyond (reverse rest) s (reverse (take k steps)) r lr er f i li (e ∙ turned)

-- one step more of a walk
pub more : (steps : List Step) (k : ℕ) → k < length steps → get_or steps k (Name 0) ∷ reverse (take k steps) ≡ reverse (take (k + 1) steps)
more steps k lt = sym
    (ap (λ n. reverse (take n steps)) (let e : k + 1 ≡ suc k = omega arith in e) ∙ ap (λ (xs : List Step). reverse xs) (take-suc steps k (Name 0) lt)
    ∙ reverse-append (take k steps) (get_or steps k (Name 0) ∷ []))
