use Rattle.ksv_schema.proofs.Common.{◌≡◌, ℕ, suc, ◌+◌, ◌<◌, ◌≤◌, List, map, length, get_or, drop, Option, sym, ap, ◌∙◌, add-one, drop-cons, drop_all, row_of}
use Rattle.ksv_schema.proofs.Common.{Fault, noted, type_faults, all_types_faults}
use Rattle.ksv_schema_names.specs.declared.row.Row.{Row}
use Rattle.ksv_schema.proofs.Noted.{noted_append, noted_none}
use Rattle.ksv_schema.proofs.members.check.note_types.Goals as goal

step : (rs : List Row) (i : ℕ) (r : Row) (o p q : Option Fault) → i < length rs → r ≡ get_or rs i r → p ≡ noted o (type_faults i (row_of r))
    → noted o (all_types_faults i (map row_of (drop i rs))) ≡ q → noted p (all_types_faults (i + 1) (map row_of (drop (i + 1) rs))) ≡ q
step rs i r o p q lt is new now =
    ap (λ (j : ℕ). noted p (all_types_faults (i + 1) (map row_of (drop j rs)))) (add-one i)
    ∙ ap (λ (p : Option Fault). noted p (all_types_faults (i + 1) (map row_of (drop (suc i) rs))))
    (new ∙ ap (λ (s : Row). noted o (type_faults i (row_of s))) is)
    ∙ sym (noted_append o (type_faults i (row_of (get_or rs i r))) (all_types_faults (i + 1) (map row_of (drop (suc i) rs))))
    ∙ sym (ap (λ (ss : List Row). noted o (all_types_faults i (map row_of ss))) (drop-cons rs i r lt)) ∙ now

end : (rs : List Row) (i : ℕ) (o q : Option Fault) → length rs ≤ i → noted o (all_types_faults i (map row_of (drop i rs))) ≡ q → o ≡ q
end rs i o q le now = sym (noted_none o) ∙ ap (λ (ss : List Row). noted o (all_types_faults i (map row_of ss))) (sym (drop_all i rs le)) ∙ now

pub loop-number-preserved : goal.loop-number-preserved
loop-number-preserved c = step c.args.types.now _ _ _ _ _ c.loop-number-test.true c.index-types-number.is c.note_type.ensures c.loop-number.invariant

pub returns : goal.returns
returns c = end c.args.types.now _ _ _ c.loop-number-test.false c.loop-number.invariant
