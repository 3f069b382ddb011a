-- What a scalar or flow node spells is read, whatever follows that is before its column.
use Rattle.ksv_yaml.proofs.Common.{◌≡◌, ℕ, ◌+◌, ◌*◌, ◌<◌, Bool, true, false, List, [], ◌∷◌, ◌++◌, length, refl, sym, ap, ◌∙◌, append_assoc, arith}
use Rattle.ksv_yaml.proofs.Common.{append-nil, Tree, AreQuiet, Inlined, inlined, got, Line, is_nil, shown, is_quiet, InlineKind, Token}
use Rattle.ksv_yaml.proofs.Common.{at_true, at_false}
use Rattle.std.specs.Prelude.{nat_le}
use Rattle.std.proofs.lemmas.Bool.{le-leb, or_from, lt-leb}
use Rattle.ksv_yaml.specs.Grammar.{AreInner, Leaves, AreWithin, GoesOn, ends, goes, plain, quoted, block, flow}
use Rattle.ksv_yaml.specs.Reading.{flow_in}
use Rattle.ksv_yaml_scan.specs.Blocks.{is_blank, is_inner}
use Rattle.ksv_yaml_scan.specs.Lines.{is_within, front, behind}
use Rattle.ksv_yaml_scan.specs.Plain.{goes_on}
use Rattle.ksv_yaml.proofs.Steps.{Loud, loud_behind}
use Rattle.ksv_yaml.proofs.FlowComplete.{flow_ok}

-- the next line says something, and is before this column
abbrev pub Before : ℕ → List Line → Type 0
Before n [] = Unit {0}
Before n (l ∷ ls) = (is_quiet l ≡ false) × (l.indent < n)

pub before_loud : (n : ℕ) (ls : List Line) → Before n ls → Loud ls
before_loud n [] h = tt
before_loud n (l ∷ ls) h = h.0

not_blank : (cs : List ℕ) → is_nil (shown cs) ≡ false → is_nil cs ≡ false
not_blank [] h = absurd cc
not_blank (c ∷ cs) h = refl

-- ---- plain scalars

goes_on_stop : (n : ℕ) (c : Bool) (ls : List Line) → Before n ls → goes_on n c ls ≡ got [] ls
goes_on_stop n c [] h = refl
goes_on_stop n true (l ∷ ls) h = rw h.0
goes_on_stop n false (l ∷ ls) h = rw (h.0, lt-leb n l.indent h.1)

goes_on_quiet : (n : ℕ) (c : Bool) (qs ls : List Line) → AreQuiet qs → Before n ls → goes_on n c (qs ++ ls) ≡ got [] ls
goes_on_quiet n c [] ls q h = goes_on_stop n c ls h
goes_on_quiet n c (l ∷ qs) ls q h = rw (q.0, loud_behind qs ls q.1 (before_loud n ls h))

goes_on_complete : {n : ℕ} {c : Bool} {ls : List Line} {text : List ℕ} → GoesOn n c ls text → (rest : List Line) → Before n rest
    → goes_on n c (ls ++ rest) ≡ got text rest
goes_on_complete {n} {c} (ends {ls = ls} q) rest h = goes_on_quiet n c ls rest q h
goes_on_complete {n} (goes {l = l} q deep is g) rest h = rw (q, le-leb n l.indent deep, is, goes_on_complete g rest h)

-- ---- the longest front

-- the first element, if any, fails the test
abbrev Stops : (Line → Bool) → List Line → Type 0
Stops p [] = Unit {0}
Stops p (l ∷ ls) = p l ≡ false

front_stop : (p : Line → Bool) (ls : List Line) → Stops p ls → front p ls ≡ []
front_stop p [] h = refl
front_stop p (l ∷ ls) h = at_false (p l) _ _ h

behind_stop : (p : Line → Bool) (ls : List Line) → Stops p ls → behind p ls ≡ ls
behind_stop p [] h = refl
behind_stop p (l ∷ ls) h = at_false (p l) _ _ h

inner_front : (n : ℕ) (xs ys : List Line) → AreInner n xs → Stops (is_inner n) ys → front (is_inner n) (xs ++ ys) ≡ xs
inner_front n [] ys a h = front_stop (is_inner n) ys h
inner_front n (l ∷ xs) ys a h = at_true (is_inner n l) _ _ a.0 ∙ ap (λ (r : List Line). l ∷ r) (inner_front n xs ys a.1 h)

inner_behind : (n : ℕ) (xs ys : List Line) → AreInner n xs → Stops (is_inner n) ys → behind (is_inner n) (xs ++ ys) ≡ ys
inner_behind n [] ys a h = behind_stop (is_inner n) ys h
inner_behind n (l ∷ xs) ys a h = at_true (is_inner n l) _ _ a.0 ∙ inner_behind n xs ys a.1 h

within_front : (n : ℕ) (xs ys : List Line) → AreWithin n xs → Stops (is_within n) ys → front (is_within n) (xs ++ ys) ≡ xs
within_front n [] ys a h = front_stop (is_within n) ys h
within_front n (l ∷ xs) ys a h = at_true (is_within n l) _ _ a.0 ∙ ap (λ (r : List Line). l ∷ r) (within_front n xs ys a.1 h)

within_behind : (n : ℕ) (xs ys : List Line) → AreWithin n xs → Stops (is_within n) ys → behind (is_within n) (xs ++ ys) ≡ ys
within_behind n [] ys a h = behind_stop (is_within n) ys h
within_behind n (l ∷ xs) ys a h = at_true (is_within n l) _ _ a.0 ∙ within_behind n xs ys a.1 h

stops_inner : (n : ℕ) (qs rest : List Line) → Leaves n qs → Before n rest → Stops (is_inner n) (qs ++ rest)
stops_inner n (l ∷ qs) rest v h = v
stops_inner n [] [] v h = tt
stops_inner n [] (l ∷ ls) v h = or_from (is_blank l) (nat_le n l.indent) (not_blank l.content h.0) (lt-leb n l.indent h.1)

stops_within : (n : ℕ) (rest : List Line) → Before n rest → Stops (is_within n) rest
stops_within n [] h = tt
stops_within n (l ∷ ls) h = or_from (is_quiet l) (nat_le n l.indent) h.0 (lt-leb n l.indent h.1)

-- ---- all kinds

pub inlined_complete : {d n : ℕ} {k : InlineKind} {l : Line} {ls : List Line} {t : Tree} → Inlined d n k l ls t → (rest : List Line) → Before n rest
    → inlined d n k l (ls ++ rest) ≡ got t rest
inlined_complete (plain g) rest h = rw (goes_on_complete g rest h)
inlined_complete {n = n} (quoted {ls = ls} q) rest h = rw (loud_behind ls rest q (before_loud n rest h))
inlined_complete {n = n} (block xs ys split a v q e) rest h =
    let s = stops_inner n ys rest v h in rw (
      split,
      append_assoc,
      inner_front n xs (ys ++ rest) a s,
      e,
      inner_behind n xs (ys ++ rest) a s,
      loud_behind ys rest q (before_loud n rest h),
    )
inlined_complete {d} {n} (flow {ls = ls} {ts = ts} {t = t} a e w) rest h =
    let s = stops_within n rest h in
    let r : flow_in d ts ≡ got t [] = ap (λ (r : List Token). flow_in d r) (sym (append-nil ts))
    ∙ (flow_ok w).reads [] (3 * length (ts ++ []) + 1) (omega arith) in
    rw (within_front n ls rest a s, e, r, within_behind n ls rest a s)
