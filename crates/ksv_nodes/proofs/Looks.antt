-- Readings on bytes that agree on what they rest on.
use Rattle.ksv_nodes.proofs.Common.{◌≡◌, ℕ, ◌+◌, ◌≤◌, ◌<◌, List, [], ◌∷◌, ◌++◌, length, take, drop, Option, Some, None, Bool, true, false, ◌==◌, if◌then◌else◌}
use Rattle.ksv_nodes.proofs.Common.{refl, sym, ap, ◌∙◌, arith, slice_range, AllByRecursion, Use, AgreeOn, Reading, first_at, look}
use Rattle.std.proofs.Common.{◌-◌, min, ◌&&◌, nat_lt, nat_le, option_map}
use Rattle.std.proofs.lemmas.Bool.{le-leb, eqb-true}
use Rattle.std.proofs.lemmas.Bool.Decides.{nat_tests}
use Rattle.std.proofs.lemmas.List.{take-take, take-append-drop, length-take, length-drop}
use Rattle.ksv_bytes.specs.declared.uses.Use.TheVariants as uses
use Rattle.ksv_expr_value.specs.Places.{byte_in}
use Rattle.ksv_nodes.specs.declared.turn.readings.Found.{Found}
use Rattle.ksv_nodes.specs.declared.turn.readings.Found.TheVariants as founds
use Rattle.ksv_nodes.specs.Reading.{Reach, Finish, Done, Peek, Find, Look, gives, ends_before, reach_file, reach_within, finish_of, done_at, cut_uses, peek_at}
use Rattle.ksv_nodes.specs.Reading.{end_in, found_none, found_from, find_at}
use Rattle.ksv_nodes.proofs.First.{or_behind, first_at_append, first_at_below, range_cut, range_none}
use Rattle.ksv_memo_rules.proofs.Lists.{All-left, All-right}

and_right : (x y : Bool) → x && y ≡ true → y ≡ true
and_right true y e = e
and_right false y e = absurd (cc)

-- the first byte of a value is in the range that ends after it, and in each longer one
found_alone : (x i : ℕ) (front : Option ℕ) (n : ℕ) (back : Option ℕ) → n ≡ i + 1 → or_behind n front back ≡ Some i → front ≡ Some i
found_alone x i (Some j) n back len e = e
found_alone x i None n None len e = absurd (cc)
found_alone x i None n (Some k) len e = let same : n + k ≡ i = cc in absurd (omega arith)

cut_range : (bytes : List ℕ) (from to n : ℕ) → n ≤ to - from → take n (slice_range bytes from to) ≡ slice_range bytes from (from + n)
cut_range bytes from to n le = let e : from + n - from ≡ n = omega arith in take-take n (to - from) (drop from bytes) le
    ∙ ap (λ m. take m (drop from bytes)) (sym e)

range_length : (bytes : List ℕ) (from to : ℕ) → length (slice_range bytes from to) ≤ to - from
range_length bytes from to = omega (arith, length-take (to - from) (drop from bytes))

-- the bytes go on to each place of a range of them
pub range_reaches : (bytes : List ℕ) (from to i : ℕ) → i < length (slice_range bytes from to) → from + i + 1 ≤ length bytes
range_reaches bytes from to i h = omega (arith, length-take (to - from) (drop from bytes), length-drop from bytes)

found_cut : (bytes : List ℕ) (from to x i : ℕ) → first_at x (slice_range bytes from to) ≡ Some i
    → (i + 1 ≤ to - from) × (first_at x (slice_range bytes from (from + (i + 1))) ≡ Some i)
found_cut bytes from to x i e =
    let ys = slice_range bytes from to in
    let inside : i < length ys = first_at_below x ys i e in
    let le : i + 1 ≤ to - from = omega (arith, range_length bytes from to) in
    let len : length (take (i + 1) ys) ≡ i + 1 = omega (arith, length-take (i + 1) ys) in
    let joined : or_behind (length (take (i + 1) ys)) (first_at x (take (i + 1) ys)) (first_at x (drop (i + 1) ys)) ≡ Some i =
    sym (first_at_append x (take (i + 1) ys) (drop (i + 1) ys)) ∙ ap (first_at x) (take-append-drop (i + 1) ys) ∙ e in (
      le,
      ap (first_at x) (sym (cut_range bytes from to (i + 1) le))
          ∙ found_alone x i (first_at x (take (i + 1) ys)) (length (take (i + 1) ys)) (first_at x (drop (i + 1) ys)) len joined,
    )

found_on : (bytes : List ℕ) (from to x i : ℕ) → i + 1 ≤ to - from → first_at x (slice_range bytes from (from + (i + 1))) ≡ Some i
    → first_at x (slice_range bytes from to) ≡ Some i
found_on bytes from to x i le e =
    let ys = slice_range bytes from to in
    ap (first_at x) (sym (take-append-drop (i + 1) ys)) ∙ first_at_append x (take (i + 1) ys) (drop (i + 1) ys)
    ∙ ap (λ o. or_behind (length (take (i + 1) ys)) o (first_at x (drop (i + 1) ys))) (ap (first_at x) (cut_range bytes from to (i + 1) le) ∙ e)

module _ (b b' : List ℕ) where
  -- the two agree on some uses
  abbrev pub Agree : List Use → Type 0
  Agree us = AllByRecursion (AgreeOn b b') us

  reach_when : Bool → ℕ → Look (Unit {0})
  reach_when d t = if d then gives tt (uses.Reach t ∷ []) else ends_before (uses.Size ∷ [])

  reach_by : (d : Bool) (t : ℕ) → nat_le t (length b) ≡ d → Agree (reach_when d t).uses → nat_le t (length b') ≡ d
  unfolding reach_when
  reach_by true t e h = le-leb t (length b') h.0.1
  reach_by false t e h = ap (nat_le t) h.0 ∙ e

  reach_file_same : (t : ℕ) → Agree (reach_file b t).uses → reach_file b' t ≡ reach_file b t
  unfolding reach_file reach_when
  reach_file_same t h = ap (λ d. reach_when d t) (reach_by (nat_le t (length b)) t refl h)

  reach_if : (c : Bool) (t : ℕ) → Agree (if c then ends_before {A = Unit {0}} [] else reach_file b t).uses
      → (if c then ends_before {A = Unit {0}} [] else reach_file b' t) ≡ (if c then ends_before [] else reach_file b t)
  reach_if true t h = refl
  reach_if false t h = reach_file_same t h

  reach_same : (to : Option ℕ) (t : ℕ) → Agree (reach_within b to t).uses → reach_within b' to t ≡ reach_within b to t
  unfolding reach_within
  reach_same None t h = reach_file_same t h
  reach_same (Some end) t h = reach_if (nat_lt end t) t h

  finish_same : (to : Option ℕ) → Agree (finish_of b to).uses → finish_of b' to ≡ finish_of b to
  unfolding finish_of
  finish_same None h = ap (λ n. gives n (uses.Size ∷ [])) h.0
  finish_same (Some end) h = refl

  done_when : Bool → ℕ → Look Bool
  done_when d t = if d then gives false (uses.Reach (t + 1) ∷ []) else gives true (uses.Size ∷ [])

  done_by : (d : Bool) (t : ℕ) → nat_lt t (length b) ≡ d → Agree (done_when d t).uses → nat_lt t (length b') ≡ d
  unfolding done_when
  done_by true t e h = let le : t + 1 ≤ length b' = h.0.1 in grind (arith, nat_tests)
  done_by false t e h = ap (nat_lt t) h.0 ∙ e

  done_same : (to : Option ℕ) (t : ℕ) → Agree (done_at b to t).uses → done_at b' to t ≡ done_at b to t
  unfolding done_at done_when
  done_same None t h = ap (λ d. done_when d t) (done_by (nat_lt t (length b)) t refl h)
  done_same (Some end) t h = refl

  -- what rests on a range that is cut rests on the size
  cut_size : (f : ℕ) → Agree (cut_uses b f) → length b' ≡ length b
  unfolding cut_uses
  cut_size f h = by (nat_lt f (length b)) h
    where
      by : (c : Bool) → Agree (if c then uses.Size ∷ uses.Bytes f (length b) ∷ [] else uses.Size ∷ []) → length b' ≡ length b
      by true g = g.0
      by false g = g.0

  cut_same : (f : ℕ) → length b' ≡ length b → cut_uses b' f ≡ cut_uses b f
  unfolding cut_uses
  cut_same f e = ap (λ n. if nat_lt f n then uses.Size ∷ uses.Bytes f n ∷ [] else uses.Size ∷ []) e

  peek_when : Bool → Bool → ℕ → ℕ → List ℕ → List Use → Look (List ℕ)
  peek_when z g f t content cut = if z then gives [] [] else if g then gives content (uses.Bytes f t ∷ []) else ends_before cut

  peek_by : (z g : Bool) (f t : ℕ) → nat_le t (length b) && nat_lt f t ≡ g → Agree (peek_when z g f t (slice_range b f t) (cut_uses b f)).uses
      → peek_when z (nat_le t (length b') && nat_lt f t) f t (slice_range b' f t) (cut_uses b' f) ≡ peek_when z g f t (slice_range b f t) (cut_uses b f)
  unfolding peek_when
  peek_by true g f t e h = refl
  peek_by false true f t e h =
      let p : nat_le t (length b') ≡ true = le-leb t (length b') h.0.1 in
      let q : nat_lt f t ≡ true = and_right (nat_le t (length b)) (nat_lt f t) e in
      rw (p, q) (ap (λ bytes. gives bytes (uses.Bytes f t ∷ [])) h.0.2)
  peek_by false false f t e h =
      let same : length b' ≡ length b = cut_size f h in
      let g : nat_le t (length b') && nat_lt f t ≡ false = ap (λ n. nat_le t n && nat_lt f t) same ∙ e in
      ap (λ c. if c then gives (slice_range b' f t) (uses.Bytes f t ∷ []) else ends_before (cut_uses b' f)) g ∙ ap ends_before (cut_same f same)

  peek_same : (f t : ℕ) → Agree (peek_at b f t).uses → peek_at b' f t ≡ peek_at b f t
  unfolding peek_at peek_when
  peek_same f t h = peek_by (f == t) (nat_le t (length b) && nat_lt f t) f t refl h

  range_by : (z x y c : Bool) (f t : ℕ) → (f == t) ≡ z → nat_le t (length b) ≡ x → nat_lt f t ≡ y → nat_lt f (length b) ≡ c
      → Agree (peek_when z (x && y) f t (slice_range b f t) (if c then uses.Size ∷ uses.Bytes f (length b) ∷ [] else uses.Size ∷ [])).uses
      → slice_range b' f t ≡ slice_range b f t
  unfolding peek_when
  range_by true x y c f t e _ _ _ h = let same : f ≡ t = eqb-true f t e in range_none b' f t (omega arith) ∙ sym (range_none b f t (omega arith))
  range_by false true true c f t _ _ _ _ h = h.0.2
  range_by false x false c f t _ _ e _ h = let le : t ≤ f = grind (arith, nat_tests) in range_none b' f t (omega arith) ∙ sym (range_none b f t (omega arith))
  range_by false false true true f t _ e _ d h =
      let over : length b < t = grind (arith, nat_tests) in
      let same : length b' ≡ length b = h.0 in
      let cut : min t (length b) ≡ length b = omega arith in
      let cut' : min t (length b') ≡ length b = omega arith in
      sym (range_cut b' f t) ∙ ap (slice_range b' f) cut' ∙ h.1.0.2 ∙ ap (slice_range b f) (sym cut) ∙ range_cut b f t
  range_by false false true false f t _ _ _ d h =
      let behind : length b ≤ f = grind (arith, nat_tests) in
      let same : length b' ≡ length b = h.0 in
      range_none b' f t (omega arith) ∙ sym (range_none b f t (omega arith))

  -- a range that was looked at is the same, also where its bytes aren't all there
  range_same : (f t : ℕ) → Agree (peek_at b f t).uses → slice_range b' f t ≡ slice_range b f t
  unfolding peek_at cut_uses peek_when
  range_same f t h = range_by (f == t) (nat_le t (length b)) (nat_lt f t) (nat_lt f (length b)) f t refl refl refl refl h

  end_reaches : (to : Option ℕ) (s n : ℕ) → s + n ≤ length b' → n ≤ end_in b to - s → n ≤ end_in b' to - s
  end_reaches None s n h e = omega arith
  end_reaches (Some end) s n h e = e

  end_same : (to : Option ℕ) → Agree (finish_of b to).uses → end_in b' to ≡ end_in b to
  unfolding finish_of
  end_same None h = h.0
  end_same (Some end) h = refl

  none_by : Look ℕ → ℕ → Look (List ℕ) → Look Found
  none_by finish end look = record { seen = option_map (λ bs. founds.Missing end) look.seen; uses = finish.uses ++ look.uses }

  none_same : (to : Option ℕ) (s end : ℕ) → Agree (finish_of b to).uses → Agree (peek_at b s end).uses
      → found_none b' to end (peek_at b' s end) ≡ found_none b to end (peek_at b s end)
  unfolding found_none none_by
  none_same to s end hf hp = ap (λ l. none_by l end (peek_at b' s end)) (finish_same to hf) ∙ ap (λ l. none_by (finish_of b to) end l) (peek_same s end hp)

  found_missing : (to : Option ℕ) (s x : ℕ) → first_at x (slice_range b s (end_in b to)) ≡ None → Agree (finish_of b to).uses
      → Agree (peek_at b s (end_in b to)).uses
      → found_from b' to s (end_in b' to) (first_at x (slice_range b' s (end_in b' to))) ≡ found_none b to (end_in b to) (peek_at b s (end_in b to))
  unfolding found_from
  found_missing to s x e hf hp =
      ap (λ n. found_from b' to s n (first_at x (slice_range b' s n))) (end_same to hf)
      ∙ ap (found_from b' to s (end_in b to)) (ap (first_at x) (range_same s (end_in b to) hp) ∙ e)
      ∙ none_same to s (end_in b to) hf hp

  found_same : (to : Option ℕ) (s x : ℕ) (o : Option ℕ) → first_at x (slice_range b s (end_in b to)) ≡ o → Agree (found_from b to s (end_in b to) o).uses
      → found_from b' to s (end_in b' to) (first_at x (slice_range b' s (end_in b' to))) ≡ found_from b to s (end_in b to) o
  unfolding found_from found_none
  found_same to s x (Some i) e h =
      let cut = found_cut b s (end_in b to) x i e in
      let last : s + i + 1 ≡ s + (i + 1) = omega arith in
      let same : slice_range b' s (s + (i + 1)) ≡ slice_range b s (s + (i + 1)) = ap (slice_range b' s) (sym last) ∙ h.0.2 ∙ ap (slice_range b s) last in
      let held : s + i + 1 ≤ length b' = h.0.1 in
      let reaches = end_reaches to s (i + 1) (omega arith) cut.0 in
      ap (found_from b' to s (end_in b' to)) (found_on b' s (end_in b' to) x i reaches (ap (first_at x) same ∙ cut.1))
  found_same to s x None e h = found_missing to s x e (All-left (AgreeOn b b') (finish_of b to).uses (peek_at b s (end_in b to)).uses h)
      (All-right (AgreeOn b b') (finish_of b to).uses (peek_at b s (end_in b to)).uses h)

  find_same : (to : Option ℕ) (s x : ℕ) → Agree (find_at b to s x).uses → find_at b' to s x ≡ find_at b to s x
  unfolding find_at
  find_same to s x h = found_same to s x (first_at x (slice_range b s (end_in b to))) refl h

  -- a reading yields the same on both
  pub look_same : (r : Reading) → Agree (look r b).uses → look r b' ≡ look r b
  look_same (Reach w t) h = reach_same w.to t h
  look_same (Finish w) h = finish_same w.to h
  look_same (Done w p) h = done_same w.to (byte_in p) h
  look_same (Peek f t) h = peek_same f t h
  look_same (Find w s x) h = find_same w.to s x h
