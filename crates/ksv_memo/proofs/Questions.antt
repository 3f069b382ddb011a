-- What a question keeps, as sets of nodes.
use Rattle.ksv_memo.proofs.Common.{◌≡◌, ℕ, Bool, true, false, List, [], ◌∷◌, ◌++◌, refl, sym, ◌∙◌, ap, nat_eq, ◌||◌, append_assoc, Standing}
use Rattle.ksv_memo.proofs.Common.{is_among, Entry, nodes_of, IsRight, AreExactly, fresh, to_keep, IsLeft, AreSame, eqb_true, is_among-append}
use Rattle.ksv_memo_rules.specs.Right.{AreBetween}
use Rattle.ksv_memo.proofs.Moves.{fresh-out, fresh-in, fresh-nil}

-- a member that is there already adds nothing
or-again : (a b c : Bool) → (b ≡ true → a ≡ true) → (a || (b || c)) ≡ (a || c)
or-again false true c h = let no : false ≡ true = h refl in cc
or-again _ _ _ _ = refl

pub among-again : {N : Type 0} (number : N → ℕ) (kept ms : List N) (m x : N) → is_among number kept m ≡ true
    → is_among number (kept ++ m ∷ ms) x ≡ is_among number (kept ++ ms) x
among-again number kept ms m x h =
    is_among-append number kept (m ∷ ms) x
    ∙ or-again (is_among number kept x) (nat_eq (number x) (number m)) (is_among number ms x)
    (λ e. cc (eqb_true (number x) (number m) e))
    ∙ sym (is_among-append number kept ms x)

-- what is kept and what is fresh are all members
pub among-fresh : {N : Type 0} (number : N → ℕ) (kept ms : List N) (x : N) → is_among number (kept ++ fresh number kept ms) x ≡ is_among number (kept ++ ms) x
among-fresh number kept [] x = ap (λ ns. is_among number (kept ++ ns) x) (fresh-nil number kept)
among-fresh number kept (m ∷ ms) x = by (is_among number kept m) refl (among-fresh number kept ms x) (among-fresh number (kept ++ m ∷ []) ms x)
  where
    by : (b : Bool) → is_among number kept m ≡ b → is_among number (kept ++ fresh number kept ms) x ≡ is_among number (kept ++ ms) x
        → is_among number ((kept ++ m ∷ []) ++ fresh number (kept ++ m ∷ []) ms) x ≡ is_among number ((kept ++ m ∷ []) ++ ms) x
        → is_among number (kept ++ fresh number kept (m ∷ ms)) x ≡ is_among number (kept ++ m ∷ ms) x
    by true e ih _ = cc (fresh-in number kept m ms e, among-again number kept ms m x e)
    by false e _ ih =
        cc (fresh-out number kept m ms e, append_assoc kept (m ∷ []) (fresh number (kept ++ m ∷ []) ms), append_assoc kept (m ∷ []) ms)

module _ {N A : Type 0} (w : Standing N A) where
  -- the nodes after a question are the kept ones and the completed ones
  pub exactly : (es all : List (Entry N A)) (ms : List N) → IsRight w all → AreSame w (nodes_of all) (to_keep w es ms)
      → AreExactly w (nodes_of all) (nodes_of es ++ ms)
  exactly es all ms right is = record {
    once = right.once;
    same = λ x. is x ∙ among-fresh w.number (nodes_of es) ms x;
  }

  -- after a refused memory they lie between the two
  pub between : (es all : List (Entry N A)) (ms : List N) → IsLeft w (to_keep w es ms) es all → AreBetween w (nodes_of es) (nodes_of all) (nodes_of es ++ ms)
  between es all ms left = record {
    once = left.right.once;
    holds = left.grown;
    within = λ x h. sym (among-fresh w.number (nodes_of es) ms x) ∙ left.within x h;
  }
