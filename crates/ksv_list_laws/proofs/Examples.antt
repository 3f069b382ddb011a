-- The lists of the examples are plain: their heads answer them, and their elements are whole.
use Rattle.ksv_desc.specs.Description.{Attribute}
use Rattle.ksv_expr_meaning.specs.Meaning.{value_of}
use Rattle.ksv_expr_value.specs.Trail.{root}
use Rattle.ksv_expr_value.specs.declared.step.Step.TheVariants as steps
use Rattle.ksv_memo_rules.proofs.Evals.{AreDistinct-cons}
use Rattle.ksv_nodes.specs.declared.given.Given.TheVariants as givens
use Rattle.ksv_nodes.specs.declared.given.Head.TheVariants as heads
use Rattle.ksv_nodes.specs.declared.given.List as lists
use Rattle.ksv_nodes.specs.declared.given.Object.{Object}
use Rattle.ksv_nodes.specs.declared.given.ObjectEnd.TheVariants as endings
use Rattle.ksv_rule_meaning.proofs.Direct.{answers_follow_rules}
use Rattle.ksv_rule_meaning.specs.Fields.{members_of, sought, member_named}
use Rattle.ksv_rule_meaning.specs.FromNothing.{from_nothing}
use Rattle.ksv_rule_meaning.specs.Heads.{root_head, member_head, member_at, attribute_head, attribute_start, attribute_at, repeated, until_eos, counted}
use Rattle.ksv_rule_meaning.specs.Heads.{count_of}
use Rattle.ksv_rule_meaning.specs.Integers.{integer_value}
use Rattle.ksv_rule_meaning.specs.Wanted.{whole, holds, size_of, integer_of, expression}
use Rattle.ksv_list_laws.proofs.Chains.{none_among}
use Rattle.ksv_list_laws.proofs.Common.{◌≡◌, ◌∙◌, ℕ, zero, suc, ◌<◌, false, List, [], ◌∷◌, length, Some, None, Ok, refl, sym, ap, arith, bind, Use}
use Rattle.ksv_list_laws.proofs.Common.{at_byte, Trail, child, trail_of-steps, Field, on, AreDistinct-none, Node, Given, Done, Rule, head_node, described}
use Rattle.ksv_list_laws.proofs.Common.{head_of, meaning_of, rule_of}
use Rattle.ksv_list_laws.proofs.Fields.{member_rule}
use Rattle.ksv_list_laws.proofs.Says.{as_head, Says, says_answer, says_given, says_by, says_seen, ends_there}
use Rattle.ksv_list_laws.specs.Examples.{of_list, numbers, three, items, item_layout, of_three, of_two, listing, NumbersArePlain, CountedArePlain}
use Rattle.ksv_list_laws.specs.Examples.{ItemsArePlain, ItemsAreNamed, ItemsAreSizedNext}
use Rattle.ksv_list_laws.specs.Lists as layouts
use Rattle.ksv_list_laws.specs.Nodes.{IsWhole}

-- the object at the root
abbrev root_object : Object
root_object = record { origin = None; type_number = 0; stream = whole; start = at_byte 0; ending = endings.ByFields }

module _ (f : Field) (bytes : List ℕ) (l : Trail) (is : child root (steps.Name 0) ≡ Some l) where
  -- the root is an object, whatever other node is open
  root_answers : from_nothing (of_list f) bytes (head_node l ∷ []) (head_node root) ≡ Ok (givens.Head root_head)
  unfolding rule_of meaning_of head_of bind
  root_answers = answers_follow_rules (of_list f) bytes (head_node l ∷ []) (head_node root) (record {
    distinct = AreDistinct-cons (on (described (of_list f)) bytes) (head_node l) [] refl (AreDistinct-none (on (described (of_list f)) bytes));
    apart = none_among (head_node l ∷ []) (head_node root) (other, tt);
  })
    where
      other : head_node root ≡ head_node l → ⊥
      other e = let n = ap length (trail_of-steps (steps.Name 0 ∷ []) l is ∙ ap (λ (m : Node). m.path.upward) (sym e)) in omega (arith, n)

  -- what is read where the list begins
  abbrev reading : Rule Given
  reading = as_head (attribute_head l root root_object (record { member = 0; before = None; kind = Attribute f }) f)

  -- so the list's head answers what that says
  listed : (g : lists.List) (us : List Use) → Says (from_nothing (of_list f) bytes (head_node l ∷ [])) l bytes reading (givens.Head (heads.List g)) [] us
      → from_nothing (of_list f) bytes [] (head_node l) ≡ Ok (givens.Head (heads.List g))
  unfolding member_head member_named sought members_of member_at bind
  listed g us said =
      let met = from_nothing (of_list f) bytes (head_node l ∷ []) in
      let all : Says met l bytes (rule_of (of_list f) (head_node l)) (givens.Head (heads.List g)) (head_node root ∷ []) us =
      says_by met l bytes _ _ _ _ _ (member_rule (of_list f) root l 0 is)
      (says_given met l bytes (head_node root) _ (givens.Head root_head) _ [] us root_answers said) in
      answers_follow_rules (of_list f) bytes [] (head_node l) (record { distinct = AreDistinct-none (on (described (of_list f)) bytes); apart = refl })
      ∙ all.answer

  short : length l.upward < 63
  short = let n = ap length (trail_of-steps (steps.Name 0 ∷ []) l is) in omega (arith, n)

-- ---- each list

pub numbers_are_plain : NumbersArePlain
unfolding attribute_head attribute_start attribute_at holds repeated until_eos bind members_of
numbers_are_plain f l is = (
  record {
    plain = record {
      laid = refl;
      listed = listed (numbers f) of_three l is _ _ (says_seen _ l of_three (Done whole (at_byte 0)) _ false _ _ (ends_there of_three whole 0) refl);
      short = short (numbers f) of_three l is;
      few = omega arith;
      begins = refl;
      filled = refl;
      within = omega arith;
      whole = each;
    };
    full = refl;
  },
  record { some = omega arith; last = refl; uncounted = refl; few = omega arith },
)
  where
    each : (i : ℕ) → i < 3 → IsWhole of_three (listing l None (layouts.whole (numbers f)) 3) i
    each zero low = record { room = omega arith; counted = refl; says = λ e. absurd (cc) }
    each (suc zero) low = record { room = omega arith; counted = refl; says = λ e. absurd (cc) }
    each (suc (suc zero)) low = record { room = omega arith; counted = refl; says = λ e. absurd (cc) }
    each (suc (suc (suc i))) low = absurd (omega (arith, low))

pub counted_are_plain : CountedArePlain
unfolding attribute_head attribute_start attribute_at holds repeated counted count_of size_of integer_of expression value_of bind members_of
counted_are_plain f l is = record {
  plain = record {
    laid = refl;
    listed = listed (three f) of_three l is _ _ (says_answer _ l of_three _);
    short = short (three f) of_three l is;
    few = omega arith;
    begins = refl;
    filled = refl;
    within = omega arith;
    whole = each;
  };
  full = refl;
}
  where
    each : (i : ℕ) → i < 3 → IsWhole of_three (listing l (Some 3) (layouts.whole (three f)) 3) i
    each zero low = record { room = omega arith; counted = refl; says = λ e. absurd (cc) }
    each (suc zero) low = record { room = omega arith; counted = refl; says = λ e. absurd (cc) }
    each (suc (suc zero)) low = record { room = omega arith; counted = refl; says = λ e. absurd (cc) }
    each (suc (suc (suc i))) low = absurd (omega (arith, low))

pub items_are_plain : ItemsArePlain
unfolding attribute_head attribute_start attribute_at holds repeated until_eos bind members_of sought integer_value
items_are_plain f l is = record {
  plain = record {
    laid = refl;
    listed = listed (items f) of_two l is _ _ (says_seen _ l of_two (Done whole (at_byte 0)) _ false _ _ (ends_there of_two whole 0) refl);
    short = short (items f) of_two l is;
    few = omega arith;
    begins = refl;
    filled = refl;
    within = omega arith;
    whole = each;
  };
  full = refl;
}
  where
    each : (i : ℕ) → i < 2 → IsWhole of_two (listing l None (item_layout f) 2) i
    each zero low = record { room = omega arith; counted = refl; says = λ e. refl }
    each (suc zero) low = record { room = omega arith; counted = refl; says = λ e. refl }
    each (suc (suc i)) low = absurd (omega (arith, low))

pub items_are_named : ItemsAreNamed
unfolding members_of sought
items_are_named f = refl

pub items_are_sized_next : ItemsAreSizedNext
unfolding members_of sought
items_are_sized_next f = (omega arith, refl)
