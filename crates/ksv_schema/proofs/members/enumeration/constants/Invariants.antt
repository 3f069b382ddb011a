use Rattle.ksv_schema.proofs.Common.{ℕ, drop, take, map, option_map, Pair, pair, plain_entry, Reading, each_from, constant}
use Rattle.ksv_desc.specs.Description.{Numbered}
use Rattle.ksv_schema.specs.Plain.{AreOf}
use Rattle.ksv_schema.proofs.Each.{IsSoFar}
use Rattle.ksv_schema.proofs.members.enumeration.constants.Given as goal

abbrev pub invariant-loop-number : goal.invariant-loop-number
invariant-loop-number l =
    let read : ℕ → Pair → Reading Numbered = λ i. constant (take i (map pair l.entries)) in
    record {
      read : IsSoFar (each_from read 0 (map pair l.entries)) (each_from read l.number (map pair (drop l.number l.entries)))
          (option_map (λ v. map plain_entry v.items) l.made) l.fn.reader l.reader;
      given : AreOf l.seen (take l.number (map pair l.entries));
    }
