use Rattle.ksv_places.proofs.Common.{◌≡◌, ◌-◌, ◌≤◌, false, [], length, get_or, sym, ◌∙◌, ap, arith, get_or_default, on_ok_weaker}
use Rattle.ksv_places.proofs.Common.{number_at, table_at, IsPartOf, Pages}
use Rattle.std.proofs.Common.{◌/◌}
use Rattle.std.proofs.lemmas.Result.{on_err_weaker}
use Rattle.ksv_places.specs.Table.{takes}
use Rattle.ksv_places.proofs.Paging.{page_put, page_same}
use Rattle.ksv_places.proofs.table.Table.put.Goals as goal

pub returns : goal.returns
returns c =
    let starts = c.reach_part.new.starts in
    let pages = c.reach_part.new.parts.items in
    let n = c.in_ok-page.page in
    let old : Pages = record { near = c.self.inside.near; descent = c.self.inside.descent; starts = c.self.inside.starts; pages = c.self.inside.pages.items } in
    let part : IsPartOf (number_at starts) (length pages) (c.args.index / 1024) n = c.in_ok-page.ensures.ok in
    let same = rw c.new-fresh.ensures at c.reach_part.ensures.same in
    let lent : c.index_mut-numbers.result.now ≡ get_or pages (n - 1) [] =
    c.index_mut-numbers.ensures.value ∙ get_or_default pages (n - 1) _ _ (omega (arith, part.some, part.inside)) in
    let far : 1024 ≤ c.args.index = omega arith in
    let alone : takes old.descent c.args.index ≡ false = sym c.takes.ensures ∙ c.if-takes.false in
    record {
      ok =
          on_ok_weaker c.put-2.result (λ put. rw (← c.self.view_is) (page_put old starts pages c.args.index n c.reach_part.ensures.apart part same
          c.put-2.new.self c.args.number far alone
          (rw lent at put))) c.put-2.ensures.ok;
      err =
          on_err_weaker c.put-2.result (λ e. page_same old starts pages c.args.index n c.reach_part.ensures.apart part same c.put-2.new.self (e ∙ lent)
          ∙ ap table_at c.self.view_is)
          c.put-2.ensures.err;
    }
