use Rattle.ksv_memo.proofs.Common.{rules, List, ℕ, Result, ◌∙◌, ap, sym, subst, Need, Done, IsRight, nodes, arith, common_steps}
use Rattle.ksv_memo_rules.specs.Right.{counted}
use Rattle.std.proofs.lemmas.Result.{IfOk-weaker, on_err_weaker}
use Rattle.ksv_memo.proofs.Turns.{on_err_always}
use Rattle.ksv_memo.proofs.Taking.{Asking, Turn, asking, closes_left, closes_on, counts_first, ended, ends_known, goes_on, grown-ends, grown-goes, grown-same}
use Rattle.ksv_memo.proofs.Taking.{holds_first, left, opens_first, reached, right_with}
use Rattle.ksv_memo.proofs.machine.Machine.run.Given
use Rattle.ksv_memo.proofs.machine.Machine.run.Goals.{In-Ok-Done, In-Ok-Need}
use Rattle.ksv_memo.proofs.machine.Machine.run.Goals as goal

-- what all is proved from: rules and bytes are lent, so they stay
abbrev asks : (g : Given.Over) (rules : g.row.R.Denot) (bytes : List ℕ) → Asking g.row.R-Node.Denot (Result g.row.R-Value.Denot g.row.R-Fault.Denot)
asks g rules bytes = asking (g.R.Rules.meaning rules) (g.met.R.Rules.lawful rules) bytes g.R.Node.PartialEq.eq g.met.R.Node.Eq.laws g.met.R.Rules.exact

-- ---- the answer is known
pub returns-in-Some : goal.returns-in-Some
returns-in-Some g c =
    let end = ends_known (asks g c.args.rules.now c.args.bytes.now) _ (nodes c.args.self.now.table) (nodes c.start.new.self) _
    _ c.requires.right c.requires.opened (rw c.in-Some.is at c.in_ok-known.ensures.ok) in
    record { outcome = end.outcome; right = end.right; kept = end.kept; left = search rules; turns = end.turns }

pub loop-answer-init : goal.loop-answer-init
loop-answer-init g c =
    let q = asks g c.args.rules.now c.args.bytes.now in
    let old = c.args.self.now.table in
    let now = nodes c.start.new.self in
    let opens = rw c.in_default.is at c.in_ok-known.ensures.ok in
    let first = opens_first q _ _ _ c.requires.opened opens in
    record {
      holds = holds_first q _ _ c.args.node _ c.requires.right opens.out opens.kept first;
      turns = counts_first q _ _ c.args.node _ c.args.self.now.turns opens.kept first;
    }

-- ---- a turn in which the last open node is done
abbrev done : (g : Given.Over) (c : In-Ok-Done g)
    → Turn (asks g c.args.rules.now c.args.bytes.now) c.args.node c.args.self.now.table.kept c.args.self.now.turns (Done c.in-Ok-Done.answer)
done g c = record {
  old = nodes c.loop-answer.self.table;
  now = nodes c.turn.new.self.table;
  turns = c.loop-answer.self.turns;
  holds = c.loop-answer.invariant.holds;
  counts = c.loop-answer.invariant.turns;
  steps = rw c.in-Ok-Done.field-0-is at c.in-Ok-Done.ensures.step;
  same = c.in-Ok-Done.ensures.kept;
}

-- no node is below it
pub end-requires-clause-reached : goal.end-requires-clause-reached
end-requires-clause-reached g c = reached (asks g c.args.rules.now c.args.bytes.now) (done g (goal.at.end-requires-clause-reached g c).In-Ok-Done)

pub returns-then-not-waits : goal.returns-then-not-waits
returns-then-not-waits g c =
    let q = asks g c.args.rules.now c.args.bytes.now in
    let t = done g (goal.at.returns-then-not-waits g c).In-Ok-Done in
    let now = nodes c.end.new.self.table in
    let after = c.end.new.self.turns in
    let counted = c.end.ensures.turns ∙ c.in-Ok-Done.ensures.turns in
    record {
      outcome = IfOk-weaker c.end.result _ _ (λ out at. (ended q t now _ _ at counted).outcome) c.end.ensures.ok;
      right = search rules;
      kept = IfOk-weaker c.end.result _ _ (λ out at. (ended q t now _ _ at counted).kept) c.end.ensures.ok;
      left = on_err_weaker c.end.result (left q t _) c.end.ensures.err;
      turns = IfOk-weaker c.end.result _ _ (λ out at. (ended q t now _ _ at counted).turns) c.end.ensures.ok;
    }

-- the one below gets its answer
pub loop-answer-smaller : goal.loop-answer-smaller
loop-answer-smaller g c =
    let q = asks g c.args.rules.now c.args.bytes.now in
    let t = done g (goal.at.loop-answer-smaller g c).In-Ok-Done in
    let now = nodes c.close.new.self in
    (goes_on q t _ _ (closes_on q t.now.kept t.now.opened c.in-Ok-Done.answer now (reached q t) c.in_ok-close-in-Ok-Done.ensures.ok
    (sym c.waits.ensures ∙ c.if-not-waits.false)) c.in-Ok-Done.ensures.turns).smaller

pub loop-answer-preserved : goal.loop-answer-preserved
loop-answer-preserved g c =
    let q = asks g c.args.rules.now c.args.bytes.now in
    let t = done g (goal.at.loop-answer-preserved g c).In-Ok-Done in
    let now = nodes c.close.new.self in
    let goes = goes_on q t _ _ (closes_on q t.now.kept t.now.opened c.in-Ok-Done.answer now (reached q t)
    c.in_ok-close-in-Ok-Done.ensures.ok (sym c.waits.ensures ∙ c.if-not-waits.false)) c.in-Ok-Done.ensures.turns in
    record { holds = goes.holds; turns = goes.turns }

-- memory was refused for its links
pub returns-in_err-close-in-Ok-Done : goal.returns-in_err-close-in-Ok-Done
returns-in_err-close-in-Ok-Done g c =
    let q = asks g c.args.rules.now c.args.bytes.now in
    let t = done g (goal.at.returns-in_err-close-in-Ok-Done g c).In-Ok-Done in
    let may = left q t _
    (closes_left q t.now.kept t.now.opened c.in-Ok-Done.answer c.close.new.self.kept (reached q t) c.in_err-close-in-Ok-Done.ensures.err) in
    record {
      outcome = search rules;
      right = may.right;
      kept = search rules;
      left = on_err_always c.from_residual-in_err-close-in-Ok-Done.result may;
      turns = search rules;
    }

-- ---- a turn in which the last open node needs another
abbrev needs : (g : Given.Over) (c : In-Ok-Need g)
    → Turn (asks g c.args.rules.now c.args.bytes.now) c.args.node c.args.self.now.table.kept c.args.self.now.turns (Need c.in-Ok-Need.asked)
needs g c = record {
  old = nodes c.loop-answer.self.table;
  now = nodes c.turn.new.self.table;
  turns = c.loop-answer.self.turns;
  holds = c.loop-answer.invariant.holds;
  counts = c.loop-answer.invariant.turns;
  steps = rw c.in-Ok-Need.field-0-is at c.in-Ok-Need.ensures.step;
  same = c.in-Ok-Need.ensures.kept;
}

-- what is kept is right, so the table may grow
pub ask-requires : goal.ask-requires
ask-requires g c =
    let before = c.loop-answer.self.table in
    let right = right_with (asks g c.args.rules.now c.args.bytes.now) _ before.kept c.args.node before.opened c.loop-answer.invariant.holds in
    record { right = subst (IsRight _) (sym c.in-Ok-Need.ensures.kept) right }

-- the node is kept, or is opened
pub loop-answer-smaller-in-Ok-None : goal.loop-answer-smaller-in-Ok-None
loop-answer-smaller-in-Ok-None g c =
    let t = needs g (goal.at.loop-answer-smaller-in-Ok-None g c).In-Ok-Need in
    let asked = c.in-Ok-None.ensures.asked in
    let more = asked.grown in
    (grown-goes (asks g c.args.rules.now c.args.bytes.now) t (nodes asked.mid) more.calls more.opened more.grown _ _
    (rw c.in-Ok-None.field-0-is at asked.ok) (more.turns ∙ ap (counted more.calls) c.in-Ok-Need.ensures.turns)).smaller

pub loop-answer-preserved-in-Ok-None : goal.loop-answer-preserved-in-Ok-None
loop-answer-preserved-in-Ok-None g c =
    let t = needs g (goal.at.loop-answer-preserved-in-Ok-None g c).In-Ok-Need in
    let asked = c.in-Ok-None.ensures.asked in
    let more = asked.grown in
    let goes = grown-goes (asks g c.args.rules.now c.args.bytes.now) t (nodes asked.mid) more.calls more.opened more.grown _ _
    (rw c.in-Ok-None.field-0-is at asked.ok) (more.turns ∙ ap (counted more.calls) c.in-Ok-Need.ensures.turns) in
    record { holds = goes.holds; turns = goes.turns }

-- a circle
pub returns-in-Ok-Some : goal.returns-in-Ok-Some
returns-in-Ok-Some g c =
    let t = needs g (goal.at.returns-in-Ok-Some g c).In-Ok-Need in
    let asked = c.in-Ok-Some.ensures.asked in
    let more = asked.grown in
    let end = grown-ends (asks g c.args.rules.now c.args.bytes.now) t (nodes asked.mid) more.calls more.opened more.grown _ _ _
    (rw c.in-Ok-Some.field-0-is at asked.ok) (more.turns ∙ ap (counted more.calls) c.in-Ok-Need.ensures.turns) in
    record { outcome = end.outcome; right = end.right; kept = end.kept; left = search rules; turns = end.turns }

-- memory was refused for its slot
pub returns-in-Err-ask : goal.returns-in-Err-ask
returns-in-Err-ask g c =
    let t = needs g (goal.at.returns-in-Err-ask g c).In-Ok-Need in
    let asked = c.in-Err-ask.ensures.asked in
    let more = asked.grown in
    let may = grown-same (asks g c.args.rules.now c.args.bytes.now) t (nodes asked.mid) more.calls more.opened more.grown _
    asked.err in
    record { outcome = search rules; right = may.right; kept = search rules; left = may; turns = search rules }

-- what the closed node has reached
pub close-requires : goal.close-requires
close-requires g c = reached (asks g c.args.rules.now c.args.bytes.now) (done g (goal.at.close-requires g c).In-Ok-Done)

pub returns-in_err-known-clause-left : goal.returns-in_err-known-clause-left
returns-in_err-known-clause-left g c = grind (arith, common_steps)

pub returns-in-Err-clause-left : goal.returns-in-Err-clause-left
returns-in-Err-clause-left g c = grind (arith, common_steps)
