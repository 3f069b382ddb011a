use Rattle.ksv.proofs.session.run.Goals as goal

-- what holds for any code of the rules holds for this one
pub returns-clause-served : goal.returns-clause-served
returns-clause-served g c = c.run.ensures.served

pub returns-clause-read_fault : goal.returns-clause-read_fault
returns-clause-read_fault g c = c.run.ensures.read_fault

pub returns-clause-read_end : goal.returns-clause-read_end
returns-clause-read_end g c = c.run.ensures.read_end

pub returns-clause-write_fault : goal.returns-clause-write_fault
returns-clause-write_fault g c = c.run.ensures.write_fault

pub returns-clause-too_large : goal.returns-clause-too_large
returns-clause-too_large g c = c.run.ensures.too_large

pub returns-clause-untouched : goal.returns-clause-untouched
returns-clause-untouched g c = c.run.ensures.untouched
