-- What a value that says sizes answers is what its bytes write. So a list is plain by what its values answer.
use Rattle.std.specs.Prelude.{option_map, slice_range, pos}
use Rattle.ksv_expr_value.specs.declared.value.Value.TheVariants as values
use Rattle.ksv_nodes.specs.Rule.{value_node}
use Rattle.ksv_nodes.specs.declared.given.Given.TheVariants as givens
use Rattle.ksv_rule_laws.proofs.Answering.{by_rule}
use Rattle.ksv_rule_meaning.specs.FromNothing.{from_nothing}
use Rattle.ksv_rule_meaning.specs.Heads.{is_past}
use Rattle.ksv_list_laws.proofs.Common.{◌≡◌, ◌∙◌, ℕ, suc, ◌+◌, ◌<◌, ◌≤◌, true, false, List, [], sym, ap, arith, unwrap_or, Description, end_in}
use Rattle.ksv_list_laws.proofs.Common.{head_node, is_named_to, Listing, start}
use Rattle.ksv_list_laws.proofs.Fields as fields
use Rattle.ksv_list_laws.proofs.Laid.{laid, named_some, sizer_is, sizer_low}
use Rattle.ksv_list_laws.proofs.Paths.{mapped}
use Rattle.ksv_list_laws.proofs.Places.{same_start, start_low}
use Rattle.ksv_list_laws.proofs.Truth.{some_is}
use Rattle.ksv_list_laws.specs.Laws.{ValuesAreWritten, WrittenArePlain}
use Rattle.ksv_list_laws.specs.Nodes.{place, field_start, field_path, integer_in, SaysSize, IsWhole}

pub values_are_written : ValuesAreWritten
values_are_written d bytes x found named i h v is was headed valued =
    let some = named_some d x.list x.layout found named in
    let by = sizer_is d x.list x.layout found some named in
    let size = by.2 in
    let more = by.3 in
    let far : place x i (suc x.layout.sizer) ≡ place x i x.layout.sizer + by.1 = ap (λ o. place x i x.layout.sizer + unwrap_or o (x.says i)) size in
    let p = mapped value_node (field_path x i x.layout.sizer) v was in
    let head_is : head_node p.0 ≡ h = some_is (head_node p.0) h (sym (ap (option_map head_node) p.1) ∙ is) in
    let met = from_nothing d bytes [] in
    fields.value_is met bytes d x.list (unwrap_or x.layout.type_number 0) x.layout (laid d x.list x.layout found some) p.0 (start x i) x.layout.sizer
    (place x i x.layout.sizer) (place x i (suc x.layout.sizer)) (x.says i) (sizer_low d x.list x.layout found some named) p.0 by.0
    (ap met head_is ∙ headed) (omega (arith, far, more))
    (by_rule d bytes [] (value_node p.0) (givens.Value (values.Int (pos (x.says i)))) (ap met p.2 ∙ valued))

module _ (d : Description) (bytes : List ℕ) (x : Listing) (c : ℕ) where
  abbrev first : Listing
  first = record x { count = c }

  -- where it is doesn't depend on how many are looked at
  says_same : (i : ℕ) → SaysSize bytes x i → SaysSize bytes first i
  says_same i h = ap (λ a. integer_in (x.layout.field x.layout.sizer).choice
      (slice_range bytes (field_start x.layout (x.says i) a x.layout.sizer) (field_start x.layout (x.says i) a (suc x.layout.sizer)))) (same_start x c i) ∙ h

  is_whole : start x c ≤ end_in bytes x.list.stream.to → ((i : ℕ) → i < c → is_past x.list.count i ≡ false)
      → ((i : ℕ) → i < c → is_named_to x.layout x.layout.last ≡ true → SaysSize bytes x i) → (i : ℕ) → i < c → IsWhole bytes first i
  is_whole room counted says i low = record {
    room = (let same = same_start x c (suc i) in let before = start_low x (suc i) c low in omega (arith, same, before, room));
    counted = counted i low;
    says = λ named. says_same i (says i low named);
  }

pub written_are_plain : WrittenArePlain
written_are_plain d bytes x c plain few room counted says = record {
  laid = plain.laid;
  listed = plain.listed;
  short = plain.short;
  few = few;
  begins = plain.begins;
  filled = plain.filled;
  within = plain.within;
  whole = is_whole d bytes x c room counted says;
}
