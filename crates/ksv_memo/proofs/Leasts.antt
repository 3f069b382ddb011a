-- The least number that an open node has among nodes that are kept by numbers alone.
use Rattle.ksv_memo.proofs.Common.{◌≡◌, ℕ, zero, suc, ◌+◌, ◌<◌, ◌≤◌, List, [], ◌∷◌, length, take, get_or, arith, subst, sym, AllByRecursion, All-map, All-++}
use Rattle.ksv_memo.proofs.Common.{Some, drop, reverse, Result, Use, Slot, Frame, Frames, Open, node_at, nodes_at, slots_of, answers_at, open_before}
use Rattle.ksv_memo.proofs.Common.{opens_in, opens_of, AreFrames}
use Rattle.std.proofs.lemmas.List.{reverse-append}
use Rattle.ksv_memo_rules.specs.Folds.{Fold, IsLaid}
use Rattle.ksv_memo.specs.Folding.{IsNoneBelow}

-- what holds of the first elements, and of the next one
next_all : {X : Type 0} (P : X → Type 0) (xs : List X) (i : ℕ) (d : X) → i < length xs → AllByRecursion P (take i xs) → P (get_or xs i d)
    → AllByRecursion P (take (suc i) xs)
next_all P [] i d lt h p = absurd (omega arith)
next_all P (x ∷ xs) zero d lt h p = (p, tt)
next_all P (x ∷ xs) (suc i) d lt h p = (h.0, next_all P xs i d (omega arith) h.1 p)

-- none is below a number that is no greater
pub lower : {N A : Type 0} (f : Fold N A) (most less : ℕ) (n : N) → less ≤ most → IsNoneBelow f most n → IsNoneBelow f less n
lower f most less n le h j lt = h j (omega arith)

pub next_lower : {N A X : Type 0} (f : Fold N A) (node : X → N) (xs : List X) (i : ℕ) (d : X) (most less : ℕ) → i < length xs → less ≤ most
    → AllByRecursion (λ x. IsNoneBelow f most (node x)) (take i xs) → IsNoneBelow f less (node (get_or xs i d))
    → AllByRecursion (λ x. IsNoneBelow f less (node x)) (take (i + 1) xs)
next_lower f node xs i d most less lt le h p =
    let e : suc i ≡ i + 1 = omega arith in
    subst (λ k. AllByRecursion (λ x. IsNoneBelow f less (node x)) (take k xs)) e
    (next_all (λ x. IsNoneBelow f less (node x)) xs i d lt (All-map (λ x k. lower f most less (node x) le k) (take i xs) h) p)

-- none is below the number of a node, if its nodes come once
pub below_own : {N A : Type 0} (f : Fold N A) → IsLaid f → (most j : ℕ) (n : N) → most ≤ j → j < f.size → (f.entry j).node ≡ n → IsNoneBelow f most n
below_own f laid most j n le lt is i below same = let equal : i ≡ j = laid.once i j (omega arith) lt (cc) in omega arith

pub below_none : {N A : Type 0} (f : Fold N A) (most : ℕ) (n : N) → most ≤ f.size → ((j : ℕ) → j < f.size → (f.entry j).node ≡ n → ⊥) → IsNoneBelow f most n
below_none f most n le none i below same = none i (omega arith) same

-- ---- open nodes are those of frames
reverse_all : {X : Type 0} (P : X → Type 0) (xs : List X) → AllByRecursion P xs → AllByRecursion P (reverse xs)
reverse_all P [] h = tt
reverse_all P (x ∷ xs) h = subst (AllByRecursion P) (sym (reverse-append (x ∷ []) xs)) (All-++ P (reverse xs) (x ∷ []) (reverse_all P xs h.1) (h.0, tt))

opens_in_all : {N V F : Type 0} (P : N → Type 0) (ps : List (N × Slot V F)) (fs : List (Frame N)) (asked : List ℕ) (uses : List Use)
    → AllByRecursion (λ f. node_at ps f.slot ≡ Some f.node) fs → AllByRecursion (λ f. P f.node) fs → AllByRecursion (λ o. P o.node) (opens_in ps fs asked uses)
opens_in_all P ps [] asked uses nodes h = tt
opens_in_all {N} {V} {F} P ps (f ∷ fs) asked uses nodes h =
    let rest = opens_in_all P ps fs (take f.asked asked) (take f.uses uses) nodes.1 h.1 in
    subst (λ o. AllByRecursion (λ (w : Open N (Result V F)). P w.node) (open_before o (answers_at (slots_of ps) (drop f.asked asked))
    (nodes_at ps (drop f.asked asked)) (drop f.uses uses) (opens_in ps fs (take f.asked asked) (take f.uses uses)))) (sym nodes.0) (h.0, rest)

pub opens_all : {N V F : Type 0} (P : N → Type 0) (ps : List (N × Slot V F)) (frames : Frames N) → AreFrames ps frames
    → AllByRecursion (λ f. P f.node) frames.frames.items → AllByRecursion (λ o. P o.node) (opens_of ps frames)
opens_all P ps frames waits h = opens_in_all P ps (reverse frames.frames.items) frames.asked.items frames.uses.items waits.nodes
    (reverse_all (λ (f : Frame _). P f.node) frames.frames.items h)
