use Rattle.ksv_memo_links.proofs.Common.{◌≡◌, ◌+◌, ◌≤◌, ◌<◌, ℕ, Bool, true, false, cond, List, length, set, get_or, count_by, ◌∙◌, ap, arith}
use Rattle.ksv_memo_links.proofs.Common.{length-set, sum_by-set, is_kept}
use Rattle.std.proofs.lemmas.List.Sums.{count_by-le-length}
use Rattle.ksv_memo_links.proofs.marks.Marks.keep.Goals as goal

-- one more is kept
one_more : (kept : List Bool) (s : ℕ) → s < length kept → is_kept kept s ≡ false → count_by (λ b. b) (set kept s true) ≡ count_by (λ b. b) kept + 1
one_more kept s lt none =
    let e : count_by (λ b. b) (set kept s true) + cond (get_or kept s false) 1 0 ≡ count_by (λ b. b) kept + 1 =
    sum_by-set (λ b. cond b 1 0) kept s true false lt in
    let f : count_by (λ b. b) (set kept s true) + 0 ≡ count_by (λ b. b) kept + 1 =
    rw none at e in
    omega arith

at_most : (kept : List Bool) (s : ℕ) → s < length kept → is_kept kept s ≡ false → count_by (λ b. b) kept + 1 ≤ length kept
at_most kept s lt none =
    omega (arith, count_by-le-length (λ (b : Bool). b) (set kept s true), one_more kept s lt none, length-set kept s true)

pub overflow_add-self : goal.overflow_add-self
overflow_add-self c =
    let K = c.self.inside.kept.items in
    let e = ap (λ m. m.kept) c.self.view_is in
    let h = at_most K c.args.slot (rw e c.requires.slot_in) (cc) in
    omega arith

pub invariant_of-self : goal.invariant_of-self
invariant_of-self c =
    let K = c.self.inside.kept.items in
    let e = ap (λ m. m.kept) c.self.view_is in
    let lt = rw (← e) at c.requires.slot_in in
    let none = ap (λ ks. is_kept ks c.args.slot) e ∙ c.requires.none in
    let h = at_most K c.args.slot lt none in
    let m = one_more K c.args.slot lt none in
    let i = c.self.invariant in
    let w = ap length (ap (λ m. m.work) c.self.view_is ∙ c.requires.idle) in
    let k = ap (count_by (λ b. b)) c.set.ensures.items in
    let l : length c.set.new.self.items ≡ length K = cc (length-set K c.args.slot true) in
    record {
      for_work = omega arith;
      inside = λ j lt. absurd (omega arith);
      counted = omega arith;
      few = omega arith;
      fits = omega arith;
    }
