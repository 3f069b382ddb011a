-- The sums of a sequence are those that links of so many bytes answer.
use Rattle.std.proofs.Common.{◌≡◌, ◌≢◌, ◌∙◌, ℕ, zero, suc, ◌+◌, ◌<◌, ◌≤◌, ◌^◌, List, [], ◌∷◌, Ok, AllPairs}
use Rattle.std.proofs.Common.{arith, eq-eqb, nat_eq, false, ◌||◌, Contains, inl, inr, get_or, length, refl, sym, ap, subst}
use Rattle.std.proofs.lemmas.Bool.{cases_lt, or_left, or_right}
use Rattle.std.proofs.lemmas.List.Elements.{Contains-get_or}
use Rattle.std.proofs.lemmas.Option.{slice_get-get_or}
use Rattle.std.specs.List.{AllByRecursion, list_any}
use Rattle.ksv_bytes.specs.Uses.{is_use_touched}
use Rattle.std.specs.Prelude.{slice_get}
use Rattle.ksv_bytes.specs.declared.uses.Use.{Use}
use Rattle.ksv_bytes.specs.declared.uses.Use.TheVariants.{Bytes}
use Rattle.ksv_memo_rules.specs.declared.rules.Outcome.{Outcome}
use Rattle.ksv_memo_rules.specs.declared.rules.Outcome.TheVariants.{Answered}
use Rattle.ksv_memo_rules.specs.Evaluation.{Told, tells, is_among, IsAnswered}
use Rattle.ksv_memo_rules.specs.Folds.{AreTold, IsFold, first_of}
use Rattle.ksv_memo_rules.specs.Right.{StandsIn, nodes_of}
use Rattle.ksv_memo_rules.specs.Touched.{tree, is_touched}
use Rattle.ksv_memo_rules.proofs.Keeping.{IsIn, nodes_of-append}
use Rattle.ksv_memo_rules.proofs.Standins.{asks-lower, touched-parts}
use Rattle.ksv_test_engine.specs.Chain.{link_before, same_link}
use Rattle.ksv_test_engine.specs.Rows.{Reply, read_uses}
use Rattle.ksv_test_engine.specs.Sums.{AreSums, asked_at, entry_of, fold_of, link_at, number_at, so_far, sum_before, sum_of, sum_uses}
use Rattle.ksv_test_engine.specs.declared.samples.link.Link.{Link}
use Rattle.ksv_test_engine.specs.declared.samples.sum_list.SumList.{SumList}
use Rattle.ksv_test_engine.proofs.Telling.{w, settled, tells_by, in_last, in_own, in_tree}

-- ---- sums of bytes
-- the sum before one of a number is that of the bytes before it
pub sum_before_is : (bytes : List ℕ) (sums : List Reply) (count : ℕ) → AreSums bytes sums count → so_far (sum_of bytes count) ≡ sum_before sums count
sum_before_is bytes sums zero are = refl
sum_before_is bytes sums (suc j) are = ap so_far (are j (omega arith))

-- one more is, if it is the one before it with its byte
pub one_more : (bytes : List ℕ) (sums : List Reply) (count : ℕ) (reply : Reply) → sum_of bytes (suc count) ≡ reply → reply ≡ get_or sums count (Ok 0)
    → AreSums bytes sums count → AreSums bytes sums (suc count)
one_more bytes sums count reply is same are j lt = elim (cases_lt j count) [
  | inl low ↦ are j low
  | inr up ↦ (let last : count ≡ j = omega (arith, lt, up) in subst (λ k. sum_of bytes (suc k) ≡ get_or sums k (Ok 0)) last (is ∙ same))
]

-- where a byte is there, it is read
read_own : (bytes : List ℕ) (place : ℕ) (reply : Reply) → place < length bytes
    → sum_uses place (slice_get bytes place) (reply ∷ []) ≡ Bytes place (place + 1) ∷ []
read_own bytes place reply lt = ap (read_uses place) (slice_get-get_or bytes place 0 lt)

used_once : (used : Use) → AllPairs (λ a b. a ≢ b) (used ∷ [])
used_once used = λ i j z a b. absurd (omega (arith, a, b))

same_answer : (a b : Reply) → ◌≡◌ {A = Outcome Link Reply} (Answered a) (Answered b) → a ≡ b
same_answer a b e = cc

module _ (bytes : List ℕ) (s : SumList) where
  number_is : (j : ℕ) → suc j < 2 ^ 32 → number_at j ≡ suc j
  number_is j small = omega arith

  -- what is kept with its answers are sums of these bytes
  pub told_are_sums : (kept : ℕ) → kept < 2 ^ 32 → AreTold (w bytes) (fold_of s) kept → AreSums bytes s.sums.items kept
  told_are_sums kept few told j lt =
      let is = tells_by bytes (link_at j) (suc j) (number_is j (omega arith)) in
      same_answer (sum_of bytes (suc j)) (get_or s.sums.items j (Ok 0)) (sym (ap (λ (t : Told Link Reply). t.outcome) is) ∙ told j lt)

  before_is : (j : ℕ) → suc j < 2 ^ 32 → link_before (link_at j) ≡ asked_at s.root j
  before_is zero small = let first : s.root.number ≡ 0 = s.first in same_link (link_before (link_at zero)) s.root (omega arith)
  before_is (suc i) small = same_link (link_before (link_at (suc i))) (link_at i) (omega arith)

  -- what the entry before one names is there
  named_in : (j : ℕ) → IsIn (w bytes) (s.root ∷ nodes_of (first_of (fold_of s) j)) (asked_at s.root j)
  named_in zero = or_left (nat_eq s.root.number s.root.number) false (eq-eqb s.root.number s.root.number refl)
  named_in (suc i) =
      let before = nodes_of (first_of (fold_of s) i) in
      or_right (nat_eq (number_at i) s.root.number) (is_among (w bytes).number (nodes_of (first_of (fold_of s) (suc i))) (link_at i))
      (subst (λ ms. IsIn (w bytes) ms (link_at i)) (sym (nodes_of-append (first_of (fold_of s) i) (entry_of s i ∷ [])))
      (in_last bytes before (link_at i) (link_at i) refl))

  own : (j : ℕ) → suc j < 2 ^ 32 → j < length bytes → sum_of bytes (suc j) ≡ get_or s.sums.items j (Ok 0)
      → tells (w bytes) [] (link_at j)
      ≡ record { outcome = Answered (get_or s.sums.items j (Ok 0)); asked = asked_at s.root j ∷ []; uses = Bytes j (number_at j) ∷ [] }
  own j small there is =
      let last : j + 1 ≡ number_at j = omega arith in
      let used = read_own bytes j (sum_of bytes j) there ∙ ap (λ to. Bytes j to ∷ []) last in
      let before = before_is j small in
      tells_by bytes (link_at j) (suc j) (number_is j small) ∙ (λ i. record { outcome = Answered (is i); asked = before i ∷ []; uses = used i })

  stands : (j : ℕ) → suc j < 2 ^ 32 → j < length bytes → sum_of bytes (suc j) ≡ get_or s.sums.items j (Ok 0)
      → StandsIn (w bytes) (s.root ∷ nodes_of (first_of (fold_of s) j)) (entry_of s j)
  stands j small there is =
      let kept = s.root ∷ nodes_of (first_of (fold_of s) j) in
      let tells_it = own j small there is in
      let answered : IsAnswered (tells (w bytes) [] (link_at j)).outcome = subst (λ (t : Told Link Reply). IsAnswered t.outcome) (sym tells_it) tt in
      let asked : (tells (w bytes) [] (link_at j)).asked ≡ asked_at s.root j ∷ [] = ap (λ (t : Told Link Reply). t.asked) tells_it in
      let used : (tells (w bytes) [] (link_at j)).uses ≡ Bytes j (number_at j) ∷ [] = ap (λ (t : Told Link Reply). t.uses) tells_it in
      let own_in = in_own bytes (link_at j) in
      record {
        outcome = ap (λ (t : Told Link Reply). t.outcome) tells_it;
        closed = subst (AllByRecursion (IsIn (w bytes) kept)) (sym asked) (named_in j, tt);
        named = (named_in j, tt);
        lower = subst (AllByRecursion (λ m. length (tree (w bytes) m) < length (tree (w bytes) (link_at j)))) asked
            (asks-lower (w bytes) (settled bytes) (link_at j) answered);
        touched = λ change. touched-parts (w bytes) (settled bytes) change (link_at j) answered
            ∙ (λ i. list_any (is_use_touched change) (used i) || list_any (is_touched (w bytes) change) (asked i));
        few = (let same = ap length asked in omega arith);
        once = used_once (Bytes j (number_at j));
        bytes = λ from to. (subst (λ us. Contains us (Bytes from to)) (sym used), subst (λ us. Contains us (Bytes from to)) used);
        made = (
          (
            own_in.0,
            link_at j,
            own_in.1,
            own_in.2,
            subst (λ us. Contains us (Bytes j (number_at j))) (sym used)
                (Contains-get_or (Bytes j (number_at j) ∷ []) 0 (Bytes j (number_at j)) (omega arith)),
          ),
          tt,
        );
      }

  -- so many of the first links are as the sequence says
  pub are_fold : (count : ℕ) → count ≤ length s.sums.items → count ≤ length bytes → AreSums bytes s.sums.items count → IsFold (w bytes) (fold_of s) count
  are_fold count in_size in_file are =
      let few : length s.sums.items < 2 ^ 32 = s.few in
      let first : s.root.number ≡ 0 = s.first in
      record {
        in_size = in_size;
        stands = λ j lt. stands j (omega (arith, lt)) (omega (arith, lt)) (are j lt);
        calls = λ j lt. ap (λ (t : Told Link Reply). length t.asked + 1) (own j (omega (arith, lt)) (omega (arith, lt)) (are j lt));
        rooted = λ j lt. in_tree bytes (number_at j) (link_at j) s.root refl (omega arith);
        within = λ i j le lt. in_tree bytes (number_at j) (link_at j) (link_at i) refl (omega (arith, le));
      }
