use Rattle.ksv_memo_links.proofs.Common.{◌≡◌, ℕ, zero, suc, ◌+◌, ◌-◌, ◌≤◌, List, [], ◌∷◌, ◌++◌, map, ◌∙◌, ap, arith, map-append, numbers_from}
use Rattle.ksv_memo_links.proofs.Common.{list_of_page}
use Rattle.std.proofs.Common.{append_assoc}
use Rattle.ksv_memo_links.proofs.used.add_pages.Goals as goal

numbers-more : (a n : ℕ) → numbers_from a (suc n) ≡ numbers_from a n ++ (a + n) ∷ []
numbers-more a zero = let e : a ≡ a + 0 = omega arith in ap (λ k. k ∷ []) e
numbers-more a (suc n) = let e : a + 1 + n ≡ a + suc n =
    omega arith in ap (λ ns. a ∷ ns) (numbers-more (a + 1) n ∙ ap (λ k. numbers_from (a + 1) n ++ k ∷ []) e)

-- the list of one page more
longer : (old : List ℕ) {now then : List ℕ} (first page : ℕ) {list : ℕ} → first ≤ page → now ≡ old ++ map list_of_page (numbers_from first (page - first))
    → list ≡ list_of_page page → then ≡ now ++ list ∷ [] → then ≡ old ++ map list_of_page (numbers_from first (page + 1 - first))
longer old first page {list} le e n f =
    let xs = map list_of_page (numbers_from first (page - first)) in
    let count : suc (page - first) ≡ page + 1 - first = omega arith in
    let last : first + (page - first) ≡ page = omega arith in
    let more : map list_of_page (numbers_from first (suc (page - first))) ≡ xs ++ list ∷ [] =
    cc (numbers-more first (page - first), map-append list_of_page (numbers_from first (page - first)) ((first + (page - first)) ∷ [])) in
    cc (append_assoc old xs (list ∷ []))

pub loop-page-preserved : goal.loop-page-preserved
loop-page-preserved c =
    let t = c.loop-page-test.true in
    let i = c.loop-page.invariant in
    record {
      lists = longer _ _ _ i.from
          i.lists c.page_list.ensures.number c.in_ok-push-in-Bytes.ensures.items;
      from = omega arith;
      until = omega arith;
    }
