-- What stands in for evaluation: an entry with its node's own asks and uses does, so one more can be kept.
use Rattle.std.proofs.Common.{◌≡◌, suc, ◌<◌, ◌≤◌, Bool, true, false, ◌||◌, List, [], ◌∷◌, ◌++◌, length, length-append, map, refl, sym, ◌∙◌, ap, subst}
use Rattle.std.proofs.Common.{nat_eq, arith, Contains, get_or}
use Rattle.std.proofs.lemmas.List.{map-append}
use Rattle.std.proofs.lemmas.List.Folds.{list_any-append}
use Rattle.std.proofs.lemmas.List.Elements.{All-from_recursion, recursion_from_All, All-contains, Contains-get_or, Contains-append_right}
use Rattle.std.proofs.lemmas.Cmp.{nat_eq_equiv}
use Rattle.std.proofs.lemmas.Map.Keys.{IsDistinct-push}
use Rattle.std.specs.List.{AllByRecursion, flat_map, list_any, IsDistinct}
use Rattle.ksv_bytes.specs.declared.uses.Use.{Use}
use Rattle.ksv_bytes.specs.declared.uses.Use.TheVariants.{Bytes}
use Rattle.ksv_bytes.specs.declared.uses.Change.{Change}
use Rattle.ksv_bytes.specs.Uses.{is_use_touched}
use Rattle.ksv_memo_rules.specs.declared.rules.Outcome.{Outcome}
use Rattle.ksv_memo_rules.specs.declared.rules.Outcome.TheVariants.{Answered}
use Rattle.ksv_memo_rules.specs.Meaning.{Standing, IsSettled}
use Rattle.ksv_memo_rules.specs.Evaluation.{Told, told, IsAnswered, tells, answering}
use Rattle.ksv_memo_rules.specs.Entry.{Entry}
use Rattle.ksv_memo_rules.specs.Right.{nodes_of, AreDistinct, HasEachOnce, StandsIn, IsRight, Agrees}
use Rattle.ksv_memo_rules.specs.Touched.{tree, is_hit, is_touched}
use Rattle.ksv_memo_rules.proofs.Lists.{All-map, All-++, none_fails, none_pass}
use Rattle.ksv_memo_rules.proofs.Evals.{IsOut, tells-free}
use Rattle.ksv_memo_rules.proofs.Keeping.{AreDistinct-none, IsIn, IsIn-append, nodes_of-append, agrees, kept-tree}

-- ---- one list has the members of another, each once
-- what holds of each member of the one holds of each of the other
pub All-once : {X : Type 0} (P : X → Type 0) (once xs : List X) → HasEachOnce once xs → AllByRecursion P once → AllByRecursion P xs
All-once P once xs h all = recursion_from_All P xs
    (λ k d lt. All-contains P once (get_or xs k d) (All-from_recursion P once all) ((h.same (get_or xs k d)).1 (Contains-get_or xs k d lt)))

pub All-of-once : {X : Type 0} (P : X → Type 0) (once xs : List X) → HasEachOnce once xs → AllByRecursion P xs → AllByRecursion P once
All-of-once P once xs h all = recursion_from_All P once
    (λ k d lt. All-contains P xs (get_or once k d) (All-from_recursion P xs all) ((h.same (get_or once k d)).0 (Contains-get_or once k d lt)))

-- a test passes in both or in none
any_once : {X : Type 0} (p : X → Bool) (once xs : List X) → HasEachOnce once xs → list_any p once ≡ list_any p xs
any_once {X} p once xs h = by (list_any p once) refl (list_any p xs) refl
  where
    by : (a : Bool) → list_any p once ≡ a → (b : Bool) → list_any p xs ≡ b → a ≡ b
    by true e true f = refl
    by false e false f = refl
    by false e true f = let no : list_any p xs ≡ false = none_fails p xs (All-once (λ x. p x ≡ false) once xs h (none_pass p once e)) in cc
    by true e false f = let no : list_any p once ≡ false = none_fails p once (All-of-once (λ x. p x ≡ false) once xs h (none_pass p xs f)) in cc

members : {X : Type 0} (xs : List X) → AllByRecursion (Contains xs) xs
members xs = recursion_from_All (Contains xs) xs (Contains-get_or xs)

any-flat_map : {X Y : Type 0} (p : Y → Bool) (f : X → List Y) (xs : List X) → list_any p (flat_map f xs) ≡ list_any (λ x. list_any p (f x)) xs
any-flat_map p f [] = refl
any-flat_map p f (x ∷ xs) = list_any-append p (f x) (flat_map f xs) ∙ ap (λ b. list_any p (f x) || b) (any-flat_map p f xs)

or_turn : (a b : Bool) → (a || (b || false)) ≡ (b || a)
or_turn true true = refl
or_turn true false = refl
or_turn false true = refl
or_turn false false = refl

module _ {N A : Type 0} (w : Standing N A) where
  pub answered-by : (kept : List N) (e : Entry N A) → StandsIn w kept e → IsAnswered (tells w [] e.node).outcome
  answered-by kept e is = let Q : Outcome N A → Type 0 = λ out. IsAnswered out in subst Q (sym is.outcome) tt

  -- among other kept nodes it does too, if they have what its node asked and what it names
  pub stands-among : (kept others : List N) (e : Entry N A) → StandsIn w kept e → AllByRecursion (IsIn w others) (tells w [] e.node).asked
      → AllByRecursion (IsIn w others) e.asked → StandsIn w others e
  stands-among kept others e is closed named = record {
    outcome = is.outcome;
    closed = closed;
    named = named;
    lower = is.lower;
    touched = is.touched;
    few = is.few;
    once = is.once;
    bytes = is.bytes;
    made = is.made;
  }

module _ {N A : Type 0} (w : Standing N A) (law : IsSettled w) where
  -- a node that is answered is touched if one of its uses is, or a node that it asked
  pub touched-parts : (change : Change) (n : N) → IsAnswered (tells w [] n).outcome
      → is_touched w change n ≡ (is_hit w change n || list_any (is_touched w change) (tells w [] n).asked)
  touched-parts change n answered =
      ap (list_any (is_hit w change)) (kept-tree w law n answered)
      ∙ list_any-append (is_hit w change) (flat_map (tree w) (tells w [] n).asked) (n ∷ [])
      ∙ ap (λ b. b || (is_hit w change n || false)) (any-flat_map (is_hit w change) (tree w) (tells w [] n).asked)
      ∙ or_turn (list_any (is_touched w change) (tells w [] n).asked) (is_hit w change n)

  -- what it asked has smaller trees
  within : (ms : List N) → AllByRecursion (λ m. length (tree w m) ≤ length (flat_map (tree w) ms)) ms
  within [] = tt
  within (m ∷ ms) =
      let n = length-append (tree w m) (flat_map (tree w) ms) in
      (omega arith, All-map (λ x le. (let k : length (tree w x) ≤ length (tree w m ++ flat_map (tree w) ms) = omega arith in k)) ms (within ms))

  pub asks-lower : (n : N) → IsAnswered (tells w [] n).outcome → AllByRecursion (λ m. length (tree w m) < length (tree w n)) (tells w [] n).asked
  asks-lower n answered =
      let whole = ap length (kept-tree w law n answered) in
      let more = length-append (flat_map (tree w) (tells w [] n).asked) (n ∷ []) in
      All-map (λ m le. (let less : length (tree w m) < length (tree w n) = omega arith in less)) (tells w [] n).asked (within (tells w [] n).asked)

  -- its own asks, and each of its own uses once
  own-stands : (kept : List N) (e : Entry N A) (us : List Use) → tells w [] e.node ≡ record { outcome = Answered e.answer; asked = e.asked; uses = us }
      → HasEachOnce e.uses us → AllByRecursion (IsIn w kept) e.asked → StandsIn w kept e
  own-stands kept e us is each inside =
      let Q : Outcome N A → Type 0 = λ out. IsAnswered out in
      let answered : IsAnswered (tells w [] e.node).outcome = subst Q (sym (ap (λ (t : Told N A). t.outcome) is)) tt in
      let asked : (tells w [] e.node).asked ≡ e.asked = ap (λ (t : Told N A). t.asked) is in
      let own : HasEachOnce e.uses (tells w [] e.node).uses = subst (λ (t : Told N A). HasEachOnce e.uses t.uses) (sym is) each in
      let last : Contains (tree w e.node) e.node = subst (λ ms. Contains ms e.node) (sym (kept-tree w law e.node answered))
      (Contains-append_right (flat_map (tree w) (tells w [] e.node).asked) (e.node ∷ []) e.node (members (e.node ∷ [])).0) in
      record {
        outcome = ap (λ (t : Told N A). t.outcome) is;
        closed = subst (AllByRecursion (IsIn w kept)) (sym asked) inside;
        named = inside;
        lower = subst (AllByRecursion (λ m. length (tree w m) < length (tree w e.node))) asked (asks-lower e.node answered);
        touched = λ change. touched-parts change e.node answered
            ∙ (λ j. sym (any_once (is_use_touched change) e.uses (tells w [] e.node).uses own) j || list_any (is_touched w change) (asked j));
        few = let same = ap length asked in omega arith;
        once = own.distinct;
        bytes = λ from to. own.same (Bytes from to);
        made = All-map (λ used c. (last.0, e.node, last.1, last.2, (own.same used).0 c)) e.uses (members e.uses);
      }

  -- ---- one more entry
  pub keep : (es : List (Entry N A)) (e : Entry N A) (us : List Use) → IsRight w es → IsOut w (nodes_of es) e.node
      → AllByRecursion (IsIn w (nodes_of es)) e.asked → HasEachOnce e.uses us
      → ((g : N → Outcome N A) → Agrees es g → told w g e.node (suc w.replies) [] ≡ record { outcome = Answered e.answer; asked = e.asked; uses = us })
      → IsRight w (es ++ e ∷ [])
  keep es e us right out closed once came =
      let is : tells w [] e.node ≡ record { outcome = Answered e.answer; asked = e.asked; uses = us } = tells-free w law [] e.node (AreDistinct-none w) refl
      ∙ came (answering w (e.node ∷ [])) (agrees w law es right (e.node ∷ []) (out, tt)) in
      let at : List N → Type 0 = λ ns. AllByRecursion (StandsIn w ns) (es ++ e ∷ []) in
      let apart : List N → Type 0 = λ ns. AreDistinct w ns in
      record {
        each = subst at (sym (nodes_of-append es (e ∷ []))) (All-++ (StandsIn w (nodes_of es ++ e.node ∷ [])) es (e ∷ [])
            (All-map (λ x h. stands-among w (nodes_of es) (nodes_of es ++ e.node ∷ []) x h
            (All-map (IsIn-append w (nodes_of es) (e.node ∷ [])) (tells w [] x.node).asked h.closed)
            (All-map (IsIn-append w (nodes_of es) (e.node ∷ [])) x.asked h.named)) es right.each)
            (own-stands (nodes_of es ++ e.node ∷ []) e us is once (All-map (IsIn-append w (nodes_of es) (e.node ∷ [])) e.asked closed), tt));
        once = subst apart (sym (nodes_of-append es (e ∷ [])))
            (subst (IsDistinct nat_eq) (sym (map-append w.number (nodes_of es) (e.node ∷ [])))
            (IsDistinct-push nat_eq_equiv (map w.number (nodes_of es)) (w.number e.node) right.once out));
      }
