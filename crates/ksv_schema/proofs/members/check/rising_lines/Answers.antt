-- Sorted lines rise.
use Rattle.ksv_schema.proofs.Common.{subst}
use Rattle.std.specs.List.Sorted.{IsPermutation}
use Rattle.std.proofs.lemmas.List.Sorted.{IsNonDecreasingBy-from_sort}
use Rattle.ksv_schema.proofs.members.check.rising_lines.Goals as goal

pub returns : goal.returns
returns c = record {
  moved = subst (λ lines. IsPermutation lines c.sort.new.self.items) c.in_ok-lines.ensures c.in_ok-sort.ensures.permutation;
  rises = IsNonDecreasingBy-from_sort (λ n. n) _ c.in_ok-sort.ensures.sorted;
}
