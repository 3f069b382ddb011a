use Rattle.ksv_memo_links.proofs.Closing.{pages-touched, insert-touched, delete-touched, append-touched}
use Rattle.ksv_memo_links.proofs.parts.Parts.hit_touched.Goals as goal

pub returns-in-Overwrite : goal.returns-in-Overwrite
returns-in-Overwrite c =
    let p = c.args.self.now in
    let q = c.hit_met.new.self in
    rw c.in-Overwrite.is (pages-touched _ _ _ _ _ c.linked.ensures.listed c.hit_met.ensures)

pub returns-in-Insert : goal.returns-in-Insert
returns-in-Insert c =
    let p = c.args.self.now in
    let q = c.hit_behind.new.self in
    rw c.in-Insert.is (insert-touched _
    ((rw c.in-Insert.is at c.requires.within) tt) c.linked.ensures.listed c.hit_behind.ensures)

pub returns-in-Delete : goal.returns-in-Delete
returns-in-Delete c =
    let p = c.args.self.now in
    let q = c.hit_behind-in-Delete.new.self in
    rw c.in-Delete.is (delete-touched _
    ((rw c.in-Delete.is at c.requires.within) tt) c.linked.ensures.listed
    c.hit_behind-in-Delete.ensures)

pub returns-in-Append : goal.returns-in-Append
returns-in-Append c =
    let p = c.args.self.now in
    let q = c.hit_size.new.self in
    rw c.in-Append.is (append-touched _ _ _ c.linked.ensures.listed
    (rw c.in-Append.is at c.hit_size.ensures))
