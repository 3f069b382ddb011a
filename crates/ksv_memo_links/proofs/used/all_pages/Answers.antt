use Rattle.ksv_memo_links.proofs.Common.{◌≡◌, ℕ, ◌+◌, ◌<◌, List, [], ◌∷◌, ◌++◌, length, map, take, get_or, sym, ◌∙◌, ap, map-append, append-nil, Use, Bytes}
use Rattle.ksv_memo_links.proofs.Common.{pages_in, list_of_page, arith, common_steps}
use Rattle.std.proofs.lemmas.List.{take_more}
use Rattle.std.proofs.lemmas.Grind.{flat_map-append}
use Rattle.ksv_memo_links.specs.Touching.{pages_of}
use Rattle.ksv_memo_links.proofs.used.all_pages.Goals as goal

pages-more : (us : List Use) (i : ℕ) → i < length us → pages_in (take (i + 1) us) ≡ pages_in (take i us) ++ pages_of (get_or us i (Bytes 0 0))
pages-more us i lt = cc (
  take_more us i (Bytes 0 0) lt,
  flat_map-append pages_of (take i us) (get_or us i (Bytes 0 0) ∷ []),
  append-nil (pages_of (get_or us i (Bytes 0 0))),
)

pub loop-used-preserved : goal.loop-used-preserved
loop-used-preserved c =
    let us = c.args.uses.now in
    let i = c.loop-used.used-index in
    c.in_ok-add_pages.ensures
    ∙ ap (λ ns. ns ++ map list_of_page (pages_of (get_or us i (Bytes 0 0)))) c.loop-used.invariant
    ∙ sym (map-append list_of_page (pages_in (take i us)) (pages_of (get_or us i (Bytes 0 0))))
    ∙ ap (map list_of_page) (sym (pages-more us i c.loop-used-test.true))

pub returns : goal.returns
returns c = grind (arith, common_steps)
