-- The chains stay whole when owners and lists are added.
use Rattle.ksv_memo_links.proofs.Common.{◌≡◌, ℕ, zero, suc, ◌≤◌, List, [], ◌++◌, length, replicate, refl, sym, ◌∙◌, ap, subst, arith, sum_by, append-nil}
use Rattle.ksv_memo_links.proofs.Common.{map-append, length-append, sum_by-cons, Entry, Block, HasSameRows, naming, one_if, entry_at, block_at, first_at}
use Rattle.ksv_memo_links.proofs.Common.{lists_in, named_of, IsChain, IsChained}
use Rattle.std.proofs.Common.{Result, Ok, Err, OnOk, OnErr}
use Rattle.std.proofs.lemmas.List.Sums.{sum_by-append}
use Rattle.ksv_memo_links.proofs.Padding.{padded}
use Rattle.ksv_memo_links.proofs.Linking.{no_block, many, named-row, live-as}

none-named : (a : List Entry) (n l : ℕ) → naming (named_of a (replicate n no_block)) l ≡ 0
none-named a zero l = refl
none-named a (suc n) l =
    omega (arith, sum_by-cons (λ (ns : List ℕ). sum_by (one_if l) ns) [] (named_of a (replicate n no_block)), none-named a n l)

-- a list that was made longer, or was left as it was
pub padded-by : {X T E : Type 0} (r : Result T E) (old new : List X) (n : ℕ) (d : X) → OnOk r (new ≡ old ++ replicate n d) → OnErr r (new ≡ old)
    → (m : ℕ) × (new ≡ old ++ replicate m d) × (m ≤ n)
padded-by (Ok x) old new n d ok err = (n, ok, omega arith)
padded-by (Err e) old new n d ok err = (0, err ∙ sym (append-nil old), omega arith)

pub on-ok : {T E P Q : Type 0} (r : Result T E) → OnOk r P → (P → Q) → OnOk r Q
on-ok (Ok x) p h = h p
on-ok (Err e) p h = tt

module _ {a : List Entry} {B : List Block} {f : List ℕ} (n : ℕ) (h : IsChained a B f) where
  abbrev pub more : List Block
  more = B ++ replicate n no_block

  pub same-blocks : (s : ℕ) → block_at more s ≡ block_at B s
  same-blocks s = padded B n s no_block

  pub same-named : HasSameRows (named_of a B) (named_of a more)
  same-named = record {
    more = omega (
      arith,
      ap length (map-append (λ (b : Block). lists_in a b.begin b.count) B (replicate n no_block)),
      length-append (named_of a B) (named_of a (replicate n no_block)),
    );
    each = λ s. cc (named-row a more s, same-blocks s, named-row a B s);
  }

  pub same-naming : (l : ℕ) → many a more l ≡ many a B l
  same-naming l =
      omega (
        arith,
        ap (λ rows. naming rows l) (map-append (λ (b : Block). lists_in a b.begin b.count) B (replicate n no_block)),
        sum_by-append (λ (ns : List ℕ). sum_by (one_if l) ns) (named_of a B) (named_of a (replicate n no_block)),
        none-named a n l,
      )

  pub chained-owners : IsChained a more f
  chained-owners = record {
    chains = λ l. subst (IsChain a l (first_at f l)) (sym (same-naming l)) (h.chains l);
    inside = λ s p v. h.inside s p (live-as B (sym (same-blocks s)) v);
    owner = λ s p v. h.owner s p (live-as B (sym (same-blocks s)) v);
    found = λ s p v. (let k = h.found s p (live-as B (sym (same-blocks s)) v) in
        (k.0, omega (arith, same-naming (entry_at a p).list), k.2));
    live = λ l i lt. (let m = same-naming l in live-as _
        (same-blocks _) (h.live l i (omega arith)));
    fits = h.fits;
  }

  pub chained-lists : IsChained a B (f ++ replicate n 0)
  chained-lists = record {
    chains = λ l. rw (padded f n l 0) (h.chains l);
    inside = h.inside;
    owner = h.owner;
    found = λ s p v. (let k = h.found s p v in (k.0, k.1, cc (padded f n (entry_at a p).list 0)));
    live = λ l i lt. rw (padded f n l 0) (h.live l i lt);
    fits = h.fits;
  }
