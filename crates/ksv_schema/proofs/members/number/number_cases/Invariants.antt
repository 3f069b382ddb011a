use Rattle.ksv_schema.proofs.Common.{◌≡◌, ℕ, ◌<◌, ◌≤◌, get_or, plain_case, in_case, context_of}
use Rattle.ksv_desc.specs.declared.content.Case.{Case}
use Rattle.ksv_schema.proofs.members.number.number_cases.Given as goal

-- the cases before this one were given their numbers, and the others are as they were
abbrev pub invariant-loop-case : goal.invariant-loop-case
invariant-loop-case l = record {
  done : (k : ℕ) → k < l.case-index → (z : Case) → plain_case (get_or l.cases k z) ≡ in_case (context_of l.context) (plain_case (get_or l.initial.cases k z));
  left : (k : ℕ) (z : Case) → l.case-index ≤ k → get_or l.cases k z ≡ get_or l.initial.cases k z;
}
