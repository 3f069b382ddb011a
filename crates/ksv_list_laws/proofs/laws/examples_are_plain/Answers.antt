use Rattle.ksv_list_laws.proofs.Examples.{numbers_are_plain, counted_are_plain, items_are_plain, items_are_named, items_are_sized_next}
use Rattle.ksv_list_laws.proofs.laws.examples_are_plain.Goals as goal

pub returns-clause-numbers : goal.returns-clause-numbers
returns-clause-numbers c = numbers_are_plain

pub returns-clause-counted : goal.returns-clause-counted
returns-clause-counted c = counted_are_plain

pub returns-clause-items : goal.returns-clause-items
returns-clause-items c = items_are_plain

pub returns-clause-named : goal.returns-clause-named
returns-clause-named c = items_are_named

pub returns-clause-next : goal.returns-clause-next
returns-clause-next c = items_are_sized_next
