use Rattle.ksv_places.proofs.Common.{◌≡◌, ◌-◌, length, get_or, ◌∙◌, ap, arith, get_or_default, on_ok_weaker, IsPartOf, number_at}
use Rattle.ksv_places.proofs.Common.{shelf_at, table_at}
use Rattle.std.proofs.lemmas.Result.{on_err_weaker}
use Rattle.ksv_places.specs.Table.{no_pages, Shelf}
use Rattle.ksv_places.proofs.Shelves.{shelf_put, shelf_same}
use Rattle.ksv_places.proofs.tables.Tables.put.Goals as goal

pub returns : goal.returns
returns c =
    let starts = c.reach_part.new.starts in
    let tables = c.reach_part.new.parts.items in
    let n = c.in_ok-table.table in
    let old : Shelf = record { starts = c.self.inside.starts; tables = c.self.inside.tables.items } in
    let part : IsPartOf (number_at starts) (length tables) c.args.path n = c.in_ok-table.ensures.ok in
    let same = rw c.new-fresh.ensures at c.reach_part.ensures.same in
    let lent : c.index_mut-numbers.result.now ≡ get_or tables (n - 1) no_pages =
    c.index_mut-numbers.ensures.value ∙ get_or_default tables (n - 1) _ _ (omega (arith, part.some, part.inside)) in
    record {
      ok =
          on_ok_weaker c.put.result (λ put. rw (← c.self.view_is) (shelf_put old starts tables c.args.path n c.reach_part.ensures.apart part same
          c.put.new.self c.args.index c.args.number
          (rw lent at put))) c.put.ensures.ok;
      err =
          on_err_weaker c.put.result (λ e. shelf_same old starts tables c.args.path n c.reach_part.ensures.apart part same c.put.new.self (e ∙ ap table_at lent)
          ∙ ap shelf_at c.self.view_is) c.put.ensures.err;
    }
