-- What is read of a scalar or flow node is spelled so.
use Rattle.ksv_yaml.proofs.Common.{◌≡◌, ℕ, Bool, true, false, cond, List, [], ◌∷◌, ◌++◌, Option, Some, None, refl, sym, ap, subst, ◌∙◌, append_assoc}
use Rattle.ksv_yaml.proofs.Common.{append-nil, Tree, Text, Inlined, inlined, Got, got, Line, is_quiet, loud, InlineKind, Token, Flow}
use Rattle.std.specs.Prelude.{nat_le}
use Rattle.std.proofs.lemmas.Bool.{leb-true}
use Rattle.ksv_yaml.specs.Grammar.{AreInner, Leaves, AreWithin, GoesOn, ends, goes, plain, quoted, block, flow}
use Rattle.ksv_yaml.specs.Reading.{all_of, flow_in}
use Rattle.ksv_yaml_scan.specs.Blocks.{block_text, is_inner}
use Rattle.ksv_yaml_scan.specs.Lines.{is_within, front, behind}
use Rattle.ksv_yaml_scan.specs.Plain.{more_of, line_on, goes_on}
use Rattle.ksv_yaml_scan.specs.Starts.{Plain, Quoted, Block, Flowing}
use Rattle.ksv_yaml_scan.specs.Tokens.{tokens_of}
use Rattle.ksv_yaml.proofs.Steps.{bind_some, got_is, Took, took_none, took_as, took_first, loud_took}
use Rattle.ksv_yaml.proofs.FlowSound.{flow_sound}

-- ---- plain scalars

line_on_sound : (n : ℕ) (l : Line) (ls : List Line) (x : Got Line (List ℕ)) (q c deep : Bool) (text : Option (List ℕ × Bool)) → is_quiet l ≡ q
    → nat_le n l.indent ≡ deep → more_of l.content ≡ text →
    ((c : Bool) (y : Got Line (List ℕ)) → goes_on n c ls ≡ Some y → Took Line ls y.rest (λ xs. GoesOn n c xs y.value)) →
    line_on q c deep text (loud ls) (l ∷ ls) (λ c. goes_on n c ls) ≡ Some x → Took Line (l ∷ ls) x.rest (λ xs. GoesOn n c xs x.value)
line_on_sound n l ls x true c deep text eq ed et f h =
    rw (← (got_is h))
    (took_first l _ (λ xs a. ends (eq, a)) (loud_took ls))
line_on_sound n l ls x false true deep text eq ed et f h =
    rw (← (got_is h)) (took_none (l ∷ ls) _ (ends tt))
line_on_sound n l ls x false false false text eq ed et f h =
    rw (← (got_is h)) (took_none (l ∷ ls) _ (ends tt))
line_on_sound n l ls x false false true None eq ed et f h = absurd cc
line_on_sound n l ls x false false true (Some t) eq ed et f h =
    let r = bind_some (goes_on n t.1 ls) _ x h in
    rw (← (got_is r.2))
    (took_first l _ (λ xs g. goes eq (leb-true n l.indent ed) et g) (f t.1 r.0 r.1))

goes_on_sound : (n : ℕ) (c : Bool) (ls : List Line) (x : Got Line (List ℕ)) → goes_on n c ls ≡ Some x → Took Line ls x.rest (λ xs. GoesOn n c xs x.value)
goes_on_sound n c [] x h = rw (← (got_is h)) (took_none [] _ (ends tt))
goes_on_sound n c (l ∷ ls) x h = line_on_sound n l ls x (is_quiet l) c (nat_le n l.indent) (more_of l.content) refl refl refl (λ c y. goes_on_sound n c ls y) h

-- ---- the longest front

split_step : (b : Bool) (l : Line) (ls fs bs : List Line) → ls ≡ fs ++ bs → l ∷ ls ≡ cond b (l ∷ fs) [] ++ cond b bs (l ∷ ls)
split_step true l ls fs bs e = ap (λ (r : List Line). l ∷ r) e
split_step false l ls fs bs e = refl

split : (p : Line → Bool) (ls : List Line) → ls ≡ front p ls ++ behind p ls
split p [] = refl
split p (l ∷ ls) = split_step (p l) l ls (front p ls) (behind p ls) (split p ls)

inner_step : (n : ℕ) (b : Bool) (l : Line) (fs : List Line) → is_inner n l ≡ b → AreInner n fs → AreInner n (cond b (l ∷ fs) [])
inner_step n true l fs e a = (e, a)
inner_step n false l fs e a = tt

inner_front : (n : ℕ) (ls : List Line) → AreInner n (front (is_inner n) ls)
inner_front n [] = tt
inner_front n (l ∷ ls) = inner_step n (is_inner n l) l (front (is_inner n) ls) refl (inner_front n ls)

within_step : (n : ℕ) (b : Bool) (l : Line) (fs : List Line) → is_within n l ≡ b → AreWithin n fs → AreWithin n (cond b (l ∷ fs) [])
within_step n true l fs e a = (e, a)
within_step n false l fs e a = tt

within_front : (n : ℕ) (ls : List Line) → AreWithin n (front (is_within n) ls)
within_front n [] = tt
within_front n (l ∷ ls) = within_step n (is_within n l) l (front (is_within n) ls) refl (within_front n ls)

leaves_step : (n : ℕ) (b : Bool) (l : Line) (ls bs : List Line) → is_inner n l ≡ b → Leaves n bs → Leaves n (cond b bs (l ∷ ls))
leaves_step n true l ls bs e a = a
leaves_step n false l ls bs e a = e

leaves_behind : (n : ℕ) (ls : List Line) → Leaves n (behind (is_inner n) ls)
leaves_behind n [] = tt
leaves_behind n (l ∷ ls) = leaves_step n (is_inner n l) l ls (behind (is_inner n) ls) refl (leaves_behind n ls)

leaves_front : (n : ℕ) (xs ys : List Line) → Leaves n (xs ++ ys) → Leaves n xs
leaves_front n [] ys h = tt
leaves_front n (l ∷ xs) ys h = h

-- ---- all kinds

block_took : (d n : ℕ) (fold keep : Bool) (l : Line) (ls : List Line) (text : List ℕ) → block_text fold keep (front (is_inner n) ls) ≡ Some text
    → Took Line ls (loud (behind (is_inner n) ls)) (λ xs. Inlined d n (Block fold keep) l xs (Text l.number false text))
block_took d n fold keep l ls text e =
    let fs = front (is_inner n) ls in
    let t = loud_took (behind (is_inner n) ls) in
    record {
      front = fs ++ t.front;
      cut = split (is_inner n) ls ∙ ap (λ (r : List Line). fs ++ r) t.cut ∙ sym (append_assoc fs t.front (loud (behind (is_inner n) ls)));
      is = block fs t.front refl (inner_front n ls)
          (leaves_front n t.front (loud (behind (is_inner n) ls)) (subst (λ (r : List Line). Leaves n r) t.cut (leaves_behind n ls))) t.is e;
    }

all_some : (t : Tree) (us : List Token) (ls : List Line) (x : Got Line Tree) → all_of t us ls ≡ Some x → (us ≡ []) × (got t ls ≡ Some x)
all_some t [] ls x h = (refl, h)
all_some t (u ∷ us) ls x h = absurd cc

pub inlined_sound : (d n : ℕ) (k : InlineKind) (l : Line) (ls : List Line) (x : Got Line Tree) → inlined d n k l ls ≡ Some x
    → Took Line ls x.rest (λ xs. Inlined d n k l xs x.value)
inlined_sound d n (Plain text c) l ls x h =
    let r = bind_some (goes_on n c ls) _ x h in
    rw (← (got_is r.2))
    (took_as _ (λ xs g. plain g) (goes_on_sound n c ls r.0 r.1))
inlined_sound d n (Quoted text) l ls x h = rw (← (got_is h)) (took_as _ (λ xs a. quoted a) (loud_took ls))
inlined_sound d n (Block fold keep) l ls x h =
    let r = bind_some (block_text fold keep (front (is_inner n) ls)) _ x h in
    rw (← (got_is r.2)) (block_took d n fold keep l ls r.0 r.1)
inlined_sound d n Flowing l ls x h =
    let ts = bind_some (tokens_of (l ∷ front (is_within n) ls)) _ x h in
    let t = bind_some (flow_in d ts.0) _ x ts.2 in
    let a = all_some t.0.value t.0.rest (behind (is_within n) ls) x t.2 in
    let s = flow_sound _ d ts.0 t.0 t.1 in
    let e : s.front ≡ ts.0 = sym (s.cut ∙ ap (λ (r : List Token). s.front ++ r) a.0 ∙ append-nil s.front) in
    rw (← (got_is a.1))
    (record {
      front = front (is_within n) ls;
      cut = split (is_within n) ls;
      is = flow (within_front n ls) ts.1
          (subst (λ (r : List Token). Flow d r t.0.value) e s.is);
    })
