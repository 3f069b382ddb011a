-- What an edit leaves of a plain list: the elements on which it touches nothing are a shorter one.
use Rattle.ksv_bytes.proofs.Untouched.{failed_keeps}
use Rattle.ksv_bytes.specs.Uses.{AgreeOn, Makes}
use Rattle.ksv_bytes.specs.declared.uses.Change.{Change}
use Rattle.ksv_bytes.specs.declared.uses.Use.TheVariants as uses_are
use Rattle.ksv_nodes.specs.declared.given.Given.TheVariants as givens
use Rattle.ksv_nodes.specs.declared.given.Head.TheVariants as heads
use Rattle.ksv_rule_laws.proofs.Places.{places_are_in_file}
use Rattle.ksv_rule_laws.specs.Laws.{IsEndIn}
use Rattle.std.specs.Prelude.{slice_range}
use Rattle.ksv_list_laws.proofs.Common.{◌≡◌, ◌∙◌, ℕ, suc, ◌+◌, ◌<◌, ◌≤◌, Bool, true, false, ◌||◌, List, [], length, Option, Some, None, refl, sym, ap}
use Rattle.ksv_list_laws.proofs.Common.{subst, arith, list_any, unwrap_or, is_use_touched, Use, Description, end_in, head_node, is_named_to, Listing}
use Rattle.ksv_list_laws.proofs.Common.{start, IsPlain}
use Rattle.ksv_list_laws.proofs.Laid.{named_some, sizer_is, sizer_low}
use Rattle.ksv_list_laws.proofs.Places.{same_start}
use Rattle.ksv_list_laws.proofs.Telling.{field_room}
use Rattle.ksv_list_laws.specs.Laws.{ShorterStaysPlain}
use Rattle.ksv_list_laws.specs.Nodes.{place, field_start, integer_in, element_depends, sizer_uses, IsWhole}

none_left : (a b : Bool) → (a || b) ≡ false → a ≡ false
none_left true b e = absurd (cc)
none_left false b e = refl

none_right : (a b : Bool) → (a || b) ≡ false → b ≡ false
none_right true b e = absurd (cc)
none_right false b e = e

module _ (d : Description) (change : Change) (before after : List ℕ) (x : Listing) (c : ℕ) (plain : IsPlain d before x) (makes : Makes change before after)
    (low : c ≤ x.count) (left : (i : ℕ) → i < c → list_any (is_use_touched change) (element_depends x i) ≡ false) where
  abbrev shorter : Listing
  shorter = record x { count = c }

  room_for : (z : ℕ) (o : Option ℕ) → z ≤ end_in before o → z ≤ length after → z ≤ end_in after o
  room_for z None r a = a
  room_for z (Some t) r a = r

  end_room : (i : ℕ) → i < c → start x (suc i) ≤ end_in after x.list.stream.to
  end_room i lt =
      let room = (plain.whole i (omega (arith, lt, low))).room in
      let within = plain.within in
      let agree : AgreeOn before after (uses_are.Reach (start x (suc i))) =
      failed_keeps change (uses_are.Reach (start x (suc i))) (none_left _ _ (left i lt)) before after makes (omega (arith, room, within)) in
      room_for (start x (suc i)) x.list.stream.to room agree.1

  -- the value that says a size is written by the same bytes
  same_value : (i : ℕ) → i < c → is_named_to x.layout x.layout.last ≡ true
      → slice_range after (place x i x.layout.sizer) (place x i (suc x.layout.sizer)) ≡
      slice_range before (place x i x.layout.sizer) (place x i (suc x.layout.sizer))
  same_value i lt named =
      let some = named_some d x.list x.layout plain.laid named in
      let size = sizer_is d x.list x.layout plain.laid some named in
      let far : place x i (suc x.layout.sizer) ≡ place x i x.layout.sizer + size.1 = ap (λ o. place x i x.layout.sizer + unwrap_or o (x.says i)) size.2 in
      let room = field_room d before x plain i x.layout.sizer (omega (arith, lt, low)) (sizer_low d x.list x.layout plain.laid some named) in
      let within = plain.within in
      let more = size.3 in
      let used : Use = uses_are.Bytes (place x i x.layout.sizer) (place x i (suc x.layout.sizer)) in
      let apart : is_use_touched change used ≡ false = none_left _ _
      (subst (λ b. list_any (is_use_touched change) (sizer_uses x i b) ≡ false) named
      (none_right (is_use_touched change (uses_are.Reach (start x (suc i)))) _ (left i lt))) in
      let proper : place x i x.layout.sizer < place x i (suc x.layout.sizer) = omega (arith, far, more) in
      let inside : place x i (suc x.layout.sizer) ≤ length before = omega (arith, room, within) in
      let agree : AgreeOn before after used = failed_keeps change used apart before after makes (proper, inside) in
      agree.2

  is_whole : (i : ℕ) → i < c → IsWhole after shorter i
  is_whole i lt =
      let whole = plain.whole i (omega (arith, lt, low)) in
      record {
        room = subst (λ z. z ≤ end_in after x.list.stream.to) (sym (same_start x c (suc i))) (end_room i lt);
        counted = whole.counted;
        says = λ named. ap (λ a. integer_in (x.layout.field x.layout.sizer).choice
            (slice_range after (field_start x.layout (x.says i) a x.layout.sizer) (field_start x.layout (x.says i) a (suc x.layout.sizer)))) (same_start x c i)
            ∙ ap (integer_in (x.layout.field x.layout.sizer).choice) (same_value i lt named) ∙ whole.says named;
      }

within_file : (bytes : List ℕ) (o : Option ℕ) → IsEndIn (length bytes) o → end_in bytes o ≤ length bytes
within_file bytes None h = omega arith
within_file bytes (Some t) h = h

pub shorter_stays_plain : ShorterStaysPlain
shorter_stays_plain d change before after x c plain makes low left listed =
    let places = places_are_in_file d after [] (head_node x.path) (givens.Head (heads.List x.list)) listed in
    record {
      laid = plain.laid;
      listed = listed;
      short = plain.short;
      few = (let few = plain.few in omega (arith, low, few));
      begins = plain.begins;
      filled = plain.filled;
      within = within_file after x.list.stream.to places.1.1;
      whole = is_whole d change before after x c plain makes low left;
    }
