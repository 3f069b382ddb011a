use Rattle.ksv_memo.proofs.Common.{◌≡◌, ◌∙◌, ap, sym, subst, length, slice_get_within, EndsWith, node_at, Some}
use Rattle.ksv_memo.proofs.Common.{entries_of, opens_of, [], ◌∷◌, true, false, IfOk, Result, nodes}
use Rattle.ksv_memo.specs.Nodes.{Nodes}
use Rattle.std.proofs.Common.{◌==◌}
use Rattle.ksv_memo.specs.Folding.{ClosesAs, LosesFirst}
use Rattle.ksv_memo_links.specs.Links.{Keeps as LinksKeep}
use Rattle.ksv_memo.proofs.Finding.{node_there}
use Rattle.ksv_memo.proofs.Tabling.{looked-laid, looked-view, not_kept, keeps_or_not}
use Rattle.ksv_memo.proofs.Topping.{IsShut, top, pops, shuts-laid, closes-as-last, closes-as-more, closes-as-deaf, shut-hears-laid, abandons-laid}
use Rattle.ksv_memo.proofs.Topping.{abandons-first, no-items, same-frames, unchanged-laid, unchanged-entries, keep-out, keep-in}
use Rattle.ksv_memo.proofs.table.Table.close_folded.Given
use Rattle.ksv_memo.proofs.table.Table.close_folded.Goals.{After-take_last-2, in-Ok-hear, in-Err-hear}
use Rattle.ksv_memo.proofs.table.Table.close_folded.Goals as goal

-- the root is kept
pub unreachable-requires : goal.unreachable-requires
unreachable-requires g c =
    let l = looked-laid _ c.find.new.self.entries c.self.inside.links c.self.inside.frames c.find.ensures.entries c.self.invariant in
    let eq = g.R.Node.PartialEq.eq in
    let ps = c.find.new.self.entries in
    let view = looked-view _ ps c.self.inside.links c.self.inside.frames _ c.find.ensures.entries (ap nodes c.self.view_is) in
    keeps_or_not eq (entries_of ps c.self.inside.links) c.root.result.now
    (rw (ap (λ v. v.kept) view) (rw c.root.ensures c.requires.root))
    (not_kept eq ps c.self.inside.links c.self.inside.frames l.kept l.waits c.root.result.now g.met.R.Node.Eq.laws c.find.ensures.unique c.find.result
    c.find.ensures.knows c.in_default.not-Kept)

pub keep_by-requires-clause-slot_in : goal.keep_by-requires-clause-slot_in
keep_by-requires-clause-slot_in g c =
    let l = looked-laid _ c.find.new.self.entries c.self.inside.links c.self.inside.frames c.find.ensures.entries c.self.invariant in
    keep-in _ _ _ _ l.kept (top _ _ _ l.waits (subst (EndsWith c.in-Some.frame.now) c.as_slice.ensures.value c.in-Some.ensures.some))

pub keep_by-requires-clause-out : goal.keep_by-requires-clause-out
keep_by-requires-clause-out g c =
    let l = looked-laid _ c.find.new.self.entries c.self.inside.links c.self.inside.frames c.find.ensures.entries c.self.invariant in
    keep-out _ _ _ _ l.kept (top _ _ _ l.waits (subst (EndsWith c.in-Some.frame.now) c.as_slice.ensures.value c.in-Some.ensures.some))

pub set-requires : goal.set-requires
set-requires g c =
    let l = looked-laid _ c.find.new.self.entries c.self.inside.links c.self.inside.frames c.find.ensures.entries c.self.invariant in
    let t = top _ _ _ l.waits (subst (EndsWith c.in-Some.frame.now) c.as_slice.ensures.value c.in-Some.ensures.some) in
    slice_get_within _ c.in-Some.frame.now.slot _ t.there

pub set-requires-2 : goal.set-requires-2
set-requires-2 g c =
    let l = looked-laid _ c.find.new.self.entries c.self.inside.links c.self.inside.frames c.find.ensures.entries c.self.invariant in
    let t = top _ _ _ l.waits (subst (EndsWith c.in-Some.frame.now) c.as_slice.ensures.value c.in-Some.ensures.some) in
    slice_get_within _ c.in-Some.frame.now.slot _ t.there

-- memory is refused: it is taken out
pub invariant_of-self : goal.invariant_of-self
invariant_of-self g c =
    let f = c.in-Some.frame.now in
    let l = looked-laid _ c.find.new.self.entries c.self.inside.links c.self.inside.frames c.find.ensures.entries c.self.invariant in
    let ends = subst (EndsWith f) c.as_slice.ensures.value c.in-Some.ensures.some in
    unchanged-laid _ _ _ _ c.in-Err.ensures.err
    (abandons-laid c.find.new.self.entries (pops _ _ _ _ _ _ _ l ends (c.take_last.ensures f ends) c.set.ensures.slots))

pub returns-in-Err-clause-err : goal.returns-in-Err-clause-err
returns-in-Err-clause-err g c =
    let f = c.in-Some.frame.now in
    let ps = c.find.new.self.entries in
    let qs = c.set.new.self.entries in
    let l = looked-laid _ ps c.self.inside.links c.self.inside.frames c.find.ensures.entries c.self.invariant in
    let ends = subst (EndsWith f) c.as_slice.ensures.value c.in-Some.ensures.some in
    let view = looked-view _ ps c.self.inside.links c.self.inside.frames _ c.find.ensures.entries (ap nodes c.self.view_is) in
    let lost = abandons-first ps (pops _ _ _ _ _ _ _ l ends (c.take_last.ensures f ends) c.set.ensures.slots) in
    subst (λ v. LosesFirst v (record { kept = entries_of qs c.keep_by.new.links; opened = opens_of qs c.take_last.new.self })) view
    (record { first = lost.first; was = lost.was; kept = unchanged-entries qs _ _ c.in-Err.ensures.err ∙ lost.kept })

-- it is kept with its answer, and taken out
shut : (g : Given.Over) (c : After-take_last-2 g) → IsShut c.find.new.self.entries c.self.inside.links c.self.inside.frames c.take_last-2.new.self
    c.in-Some.frame.now c.set-2.new.self.entries c.slot_of.result c.args.answer c.keep_by.new.links (c.in-Kept.root ∷ [])
    ((g.R.Fold.Folds.fold c.args.folded.now).entry c.args.place).uses
shut g c =
    let f = c.in-Some.frame.now in
    let l = looked-laid _ c.find.new.self.entries c.self.inside.links c.self.inside.frames c.find.ensures.entries c.self.invariant in
    let ends = subst (EndsWith f) c.as_slice.ensures.value c.in-Some.ensures.some in
    let k = c.in-Ok.ensures.ok in
    let root = c.in-Kept.ensures.knows in
    record {
      pops = pops _ _ _ _ _ _ _ l ends (c.take_last-2.ensures f ends) c.set-2.ensures.slots;
      is = c.slot_of.ensures;
      asked = (root.1, tt);
      in_asked = k.in_asked;
      in_uses = k.in_uses;
      kept = subst (λ us. LinksKeep c.self.inside.links c.keep_by.new.links f.slot (c.in-Kept.root ∷ []) us) (sym c.used.ensures)
          k;
    }

-- where its root is
root_at : (g : Given.Over) (c : After-take_last-2 g) → node_at c.find.new.self.entries c.in-Kept.root ≡ Some (g.R.Fold.Folds.fold c.args.folded.now).root
root_at g c =
    let root = c.in-Kept.ensures.knows in
    rw c.root.ensures at (node_there c.find.new.self.entries c.in-Kept.root c.root.result.now root.0.0 root.0.1)

abbrev view_at : (g : Given.Over) (c : After-take_last-2 g)
    → record { kept = entries_of c.find.new.self.entries c.self.inside.links; opened = opens_of c.find.new.self.entries c.self.inside.frames }
    ≡ nodes c.args.self.now
view_at g c = looked-view _ _ c.self.inside.links c.self.inside.frames _ c.find.ensures.entries (ap nodes c.self.view_is)

-- no node is below it
pub invariant_of-self-then-is_empty : goal.invariant_of-self-then-is_empty
invariant_of-self-then-is_empty g c = shuts-laid c.find.new.self.entries (shut g (goal.at.invariant_of-self-then-is_empty g c).After-take_last-2)

pub returns-then-is_empty-clause-ok : goal.returns-then-is_empty-clause-ok
returns-then-is_empty-clause-ok g c =
    let t = (goal.at.returns-then-is_empty-clause-ok g c).After-take_last-2 in
    subst (λ v. ClosesAs (g.R.Fold.Folds.fold c.args.folded.now) c.args.place c.args.answer true v.opened v
    (record { kept = entries_of c.set-2.new.self.entries c.keep_by.new.links; opened = opens_of c.set-2.new.self.entries c.take_last-2.new.self }))
    (view_at g t) (closes-as-last c.find.new.self.entries (g.R.Fold.Folds.fold c.args.folded.now) c.args.place (root_at g t) (shut g t)
    (no-items c.take_last-2.new.self.frames.items (ap (λ xs. length xs == 0) (sym c.as_slice-2.ensures.value) ∙ sym c.if-is_empty.ensures)))

-- the one below gets its answer, or memory is refused for that
pub invariant_of-self-2 : goal.invariant_of-self-2
invariant_of-self-2 g c =
    let ps = c.find.new.self.entries in
    let h = shut g (goal.at.invariant_of-self-2 g c).After-take_last-2 in
    elim c.match-hear.branch [
      | in-Ok-hear w ↦ shut-hears-laid ps h _ w.in-Ok-hear.ensures.ok
      | in-Err-hear w ↦ let l = shuts-laid ps h in record { kept = l.kept; waits = same-frames _ _ _ w.in-Err-hear.ensures.err l.waits }
    ]

pub returns-clause-ok : goal.returns-clause-ok
returns-clause-ok g c =
    let t = (goal.at.returns-clause-ok g c).After-take_last-2 in
    let f = g.R.Fold.Folds.fold c.args.folded.now in
    let ps = c.find.new.self.entries in
    let now : Nodes g.row.R-Node.Denot (Result g.row.R-Value.Denot g.row.R-Fault.Denot) =
    record { kept = entries_of c.set-2.new.self.entries c.keep_by.new.links; opened = opens_of c.set-2.new.self.entries c.hear.new.self } in
    elim c.match-hear.branch [
      | in-Ok-hear w ↦
          subst (λ r. IfOk r (λ is_heard. ClosesAs f c.args.place c.args.answer is_heard c.args.self.now.opened (nodes c.args.self.now) now)) (sym w.result-is)
          (subst (λ v. ClosesAs f c.args.place c.args.answer true v.opened v now) (view_at g t)
          (closes-as-more ps f c.args.place (root_at g t) (shut g t) c.hear.new.self w.in-Ok-hear.ensures.ok))
      | in-Err-hear w ↦
          subst (λ r. IfOk r (λ is_heard. ClosesAs f c.args.place c.args.answer is_heard c.args.self.now.opened (nodes c.args.self.now) now)) (sym w.result-is)
          (subst (λ v. ClosesAs f c.args.place c.args.answer false v.opened v now) (view_at g t)
          (closes-as-deaf ps f c.args.place (root_at g t) (shut g t) c.hear.new.self w.in-Err-hear.ensures.err))
    ]
