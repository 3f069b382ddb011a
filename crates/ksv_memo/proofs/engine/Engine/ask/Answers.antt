use Rattle.ksv_memo.proofs.Common.{[], ◌++◌, ap, on, done, AreExactly, nodes_of, nodes, AreSame, to_keep}
use Rattle.ksv_memo.specs.Resting.{IsResting}
use Rattle.ksv_memo.proofs.Questions.{exactly, between}
use Rattle.ksv_memo.proofs.Ends.{right-ends}
use Rattle.ksv_memo.proofs.engine.Engine.ask.Given
use Rattle.ksv_memo.proofs.engine.Engine.ask.Goals.{After-ask}
use Rattle.ksv_memo.proofs.engine.Engine.ask.Goals as goal

-- the question adds what it completed
adds : (g : Given.Over) (c : After-ask g) → AreSame (on (g.R.Rules.meaning c.args.rules.now) c.args.bytes.now) (nodes_of c.ask.new.self.table.kept)
    (to_keep (on (g.R.Rules.meaning c.args.rules.now) c.args.bytes.now) c.self.inside.machine.table.kept
    (done (on (g.R.Rules.meaning c.args.rules.now) c.args.bytes.now) [] c.args.node))
    → AreExactly (on (g.R.Rules.meaning c.args.rules.now) c.args.bytes.now) (nodes_of c.ask.new.self.table.kept)
    (nodes_of c.args.self.now.kept ++ done (on (g.R.Rules.meaning c.args.rules.now) c.args.bytes.now) [] c.args.node)
adds g c same =
    let w = on (g.R.Rules.meaning c.args.rules.now) c.args.bytes.now in
    let ms = done w [] c.args.node in
    let all = c.ask.new.self.table.kept in
    rw (ap (λ v. v.kept) c.self.view_is) at (exactly w c.self.inside.machine.table.kept all ms c.ask.ensures.right same)

pub returns-in-Ok-Answered-Ok-clause-kept : goal.returns-in-Ok-Answered-Ok-clause-kept
returns-in-Ok-Answered-Ok-clause-kept g c = adds g (goal.at.returns-in-Ok-Answered-Ok-clause-kept g c).After-ask c.in-Ok-Answered-Ok.ensures.kept

pub returns-in-Ok-Answered-Err-clause-kept : goal.returns-in-Ok-Answered-Err-clause-kept
returns-in-Ok-Answered-Err-clause-kept g c = adds g (goal.at.returns-in-Ok-Answered-Err-clause-kept g c).After-ask c.in-Ok-Answered-Err.ensures.kept

pub returns-in-Ok-Circle-clause-kept : goal.returns-in-Ok-Circle-clause-kept
returns-in-Ok-Circle-clause-kept g c =
    rw c.stop.ensures.table (adds g (goal.at.returns-in-Ok-Circle-clause-kept g c).After-ask c.in-Ok-Circle.ensures.kept)

pub returns-in-Err-clause-refused : goal.returns-in-Err-clause-refused
returns-in-Err-clause-refused g c =
    let w = on (g.R.Rules.meaning c.args.rules.now) c.args.bytes.now in
    let ms = done w [] c.args.node in
    let all = c.ask.new.self.table.kept in
    rw c.stop-in-Err.ensures.table (rw (ap (λ v. v.kept) c.self.view_is) at (between _ _ _ ms c.in-Err.ensures.left))

-- no node is open, and what is kept ends by the file's end
rests : (g : Given.Over) (c : After-ask g) → IsResting (nodes c.ask.new.self.table) c.len-self-inside.result
rests g c = record {
  opened = c.ask.ensures.opened;
  ends = rw c.len-self-inside.ensures.len (right-ends _
      (g.met.R.Rules.lawful c.args.rules.now) c.args.bytes.now _
      c.ask.ensures.right);
}

pub invariant_of-self : goal.invariant_of-self
invariant_of-self g c = rests g (goal.at.invariant_of-self g c).After-ask

pub invariant_of-self-in-Ok-Answered-Err : goal.invariant_of-self-in-Ok-Answered-Err
invariant_of-self-in-Ok-Answered-Err g c = rests g (goal.at.invariant_of-self-in-Ok-Answered-Err g c).After-ask

pub invariant_of-self-in-Ok-Circle : goal.invariant_of-self-in-Ok-Circle
invariant_of-self-in-Ok-Circle g c = rw c.stop.ensures.table (rests g (goal.at.invariant_of-self-in-Ok-Circle g c).After-ask)

pub invariant_of-self-in-Err : goal.invariant_of-self-in-Err
invariant_of-self-in-Err g c = rw c.stop-in-Err.ensures.table (rests g (goal.at.invariant_of-self-in-Err g c).After-ask)
