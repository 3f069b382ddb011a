-- Slots that are to be taken are emptied, one upon another.
use Rattle.ksv_memo.proofs.Common.{◌≡◌, ◌≢◌, inl, inr, ℕ, zero, suc, ◌+◌, ◌*◌, ◌≤◌, List, [], ◌∷◌, ◌++◌, length, None, Contains, refl, sym, ◌∙◌, ap, subst}
use Rattle.ksv_memo.proofs.Common.{arith, append_assoc, slice_get, append-nil, sum_by-cons, row, pages_in, Linked, Slot, answer_at, slots_of}
use Rattle.ksv_memo.proofs.Common.{slice_get-map, node_at, IsOpen, with_slot}
use Rattle.std.specs.List.{AllPairs}
use Rattle.std.proofs.lemmas.List.{get_or-set_other}
use Rattle.std.proofs.lemmas.List.Elements.{Contains-append_left, Contains-append_right, Contains-push}
use Rattle.ksv_memo_links.specs.Links.{Takes, IsDone}
use Rattle.ksv_memo_links.proofs.Members.{none_in, first_or_later, not_later}
use Rattle.ksv_memo_rules.specs.declared.replies.Slot.TheVariants.{Empty as emptied}
use Rattle.ksv_memo.specs.Emptying.{IsTaken, IsEmptied}
use Rattle.ksv_memo.proofs.Changing.{set_count, set_other}
use Rattle.ksv_memo.proofs.Laying.{same_or}

module _ {N V F : Type 0} where
  set-node : (ps : List (N × Slot V F)) (i j : ℕ) (s : Slot V F) → node_at (with_slot ps i s) j ≡ node_at ps j
  set-node [] i j s = refl
  set-node (p ∷ ps) zero zero s = refl
  set-node (p ∷ ps) zero (suc j) s = refl
  set-node (p ∷ ps) (suc i) zero s = refl
  set-node (p ∷ ps) (suc i) (suc j) s = set-node ps i j s

  set-slot : (ps : List (N × Slot V F)) (i j : ℕ) (s : Slot V F) → j ≢ i → slice_get (slots_of (with_slot ps i s)) j ≡ slice_get (slots_of ps) j
  set-slot ps i j s h = cc (slice_get-map (λ p. p.1) (with_slot ps i s) j, set_other ps i j s h, slice_get-map (λ p. p.1) ps j)

  set-empty : (ps : List (N × Slot V F)) (i : ℕ) → answer_at (slots_of (with_slot ps i emptied)) i ≡ None
  set-empty (p ∷ ps) (suc i) = set-empty ps i
  set-empty _ _ = refl

  set-closed : (ps : List (N × Slot V F)) (i : ℕ) → IsOpen (with_slot ps i emptied) i → ⊥
  set-closed (p ∷ ps) (suc i) o = set-closed ps i o
  set-closed _ _ o = cc

  pub taken-none : (ps : List (N × Slot V F)) (l : Linked) (from : ℕ) → IsTaken ps ps l l [] from from
  taken-none ps l from = record {
    split = sym (append-nil l.waits);
    nodes = λ i. refl;
    out = λ i h. absurd (none_in i h);
    same = λ i h. refl;
    asked = λ i h. refl;
    uses = λ i h. refl;
    kept = refl;
    slots = refl;
    opens = λ i o. o;
    most = omega arith;
    least = omega arith;
  }

  pub taken-more : (ps qs rs : List (N × Slot V F)) (l m n : Linked) (taken : List ℕ) (slot from count more : ℕ) → AllPairs (λ (a b : ℕ). a ≢ b) l.waits
      → IsTaken ps qs l m taken count from → Takes m n slot → rs ≡ with_slot qs slot emptied → more ≤ count + 1 → IsTaken ps rs l n (slot ∷ taken) more from
  taken-more ps qs rs l m n taken slot from count more apart h t is le = record {
    split = split;
    nodes = λ i. cc (set-node qs slot i emptied, h.nodes i);
    out = λ i c. elim (same_or i slot) [
      | inl e ↦ cc (set-empty qs slot)
      | inr ne ↦ elim (first_or_later slot taken i c) [
        | inl e ↦ absurd (ne (sym e))
        | inr c ↦ other i ne ∙ h.out i c
      ]
    ];
    same = λ i c. other i (apart_from i c) ∙ h.same i (λ k. c (Contains-append_right (slot ∷ []) taken i k));
    asked = λ i c. cc (get_or-set_other m.asked slot i [] [] (apart_from i c), h.asked i (λ k. c (Contains-append_right (slot ∷ []) taken i k)));
    uses = λ i c. cc (get_or-set_other m.uses slot i [] [] (apart_from i c), h.uses i (λ k. c (Contains-append_right (slot ∷ []) taken i k)));
    kept = t.kept ∙ h.kept;
    slots = set_count qs slot emptied rs is ∙ h.slots;
    opens = λ i o. elim (same_or i slot) [
      | inl e ↦ absurd (set-closed qs slot (subst (IsOpen (with_slot qs slot emptied)) e (rw is at o)))
      | inr ne ↦ h.opens i (cc (set-slot qs slot i emptied ne))
    ];
    most =
        omega (
          arith,
          ap length (h.asked slot new),
          ap (λ us. length (pages_in us)) (h.uses slot new),
          sum_by-cons (λ s. 4 * length (row l.asked s) + 4 * length (pages_in (row l.uses s))) slot taken,
        );
    least = omega arith;
  }
    where
      split : l.waits ≡ n.waits ++ slot ∷ taken
      split = cc (append_assoc n.waits (slot ∷ []) taken)

      new : Contains taken slot → ⊥
      new c = not_later n.waits taken slot (subst (AllPairs (λ (a b : ℕ). a ≢ b)) split apart) c

      other : (i : ℕ) → i ≢ slot → answer_at (slots_of rs) i ≡ answer_at (slots_of qs) i
      other i ne = cc (set-slot qs slot i emptied ne)

      apart_from : (i : ℕ) → (Contains (slot ∷ taken) i → ⊥) → i ≢ slot
      apart_from i c e = c (subst (Contains (slot ∷ taken)) (sym e) (Contains-append_left (slot ∷ []) taken slot (Contains-push [] slot)))

  pub taken-all : (ps qs : List (N × Slot V F)) (l m n : Linked) (taken : List ℕ) (from count : ℕ) → IsTaken ps qs l m taken count from → IsDone m n
      → IsEmptied ps qs l n from count
  taken-all ps qs l m n taken from count h d = record {
    taken = rw (← whole) (record {
      split = cc;
      nodes = h.nodes;
      out = h.out;
      same = h.same;
      asked = λ i c. cc (h.asked i c);
      uses = λ i c. cc (h.uses i c);
      kept = d.kept ∙ h.kept;
      slots = h.slots;
      opens = h.opens;
      most = omega arith;
      least = omega arith;
    });
    done = d.done;
  }
    where
      whole : taken ≡ l.waits
      whole = sym (h.split ∙ ap (λ ws. ws ++ taken) d.waits)
