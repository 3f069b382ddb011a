-- The tree of a node that tells, and what touches it, by what it asks and uses.
use Rattle.std.proofs.lemmas.List.Folds.{list_any-append}
use mathlib.Core.Path.{fun_ext}
use Rattle.ksv_bytes.specs.declared.uses.Change.{Change}
use Rattle.ksv_memo_rules.proofs.Keeping.{kept-tree}
use Rattle.ksv_memo_rules.proofs.Standing.{law_on}
use Rattle.ksv_memo_rules.specs.Evaluation.{IsAnswered, tells, done}
use Rattle.ksv_memo_rules.specs.Meaning.{IsSettled}
use Rattle.ksv_memo_rules.specs.declared.rules.Outcome.{Outcome}
use Rattle.ksv_memo_rules.specs.declared.rules.Outcome.TheVariants.{Answered, Circle}
use Rattle.ksv_rule_meaning.proofs.Completing.{done_direct}
use Rattle.ksv_rule_meaning.proofs.Direct.{answers_are_direct, asks_are_direct}
use Rattle.ksv_rule_meaning.specs.Completed.{completed}
use Rattle.ksv_rule_meaning.specs.Direct.{flattened}
use Rattle.ksv_rule_meaning.specs.Kept.{is_hit, is_touched}
use Rattle.ksv_rule_meaning.specs.Lemmas.Lawful.{described_lawful}
use Rattle.ksv_list_laws.proofs.Common.{◌≡◌, ◌∙◌, ℕ, Bool, true, false, ◌||◌, List, [], ◌∷◌, ◌++◌, Result, Ok, refl, sym, ap, flat_map, list_any, Use}
use Rattle.ksv_list_laws.proofs.Common.{is_use_touched, Fault, Description, Standing, on, AreDistinct-none, Given, Node, described, Tells, evaluated, Err}
use Rattle.ksv_list_laws.specs.Laws.{TreesAreAsked}

any_flat : {X Y : Type 0} (p : Y → Bool) (f : X → List Y) (xs : List X) → list_any p (flat_map f xs) ≡ list_any (λ x. list_any p (f x)) xs
any_flat p f [] = refl
any_flat p f (x ∷ xs) = list_any-append p (f x) (flat_map f xs) ∙ ap (λ b. list_any p (f x) || b) (any_flat p f xs)

or_false : (b : Bool) → (b || false) ≡ b
or_false true = refl
or_false false = refl

module _ (d : Description) (bytes : List ℕ) where
  abbrev w : Standing Node (Result Given Fault)
  w = on (described d) bytes

  answered_by : (o : Outcome Node (Result Given Fault)) (a : Result Given Fault) → flattened o ≡ evaluated a → IsAnswered o
  answered_by (Answered b) a e = tt
  answered_by (Circle c) (Ok g) e = absurd (cc)
  answered_by (Circle c) (Err f) e = absurd (cc)

  tree_is : (n : Node) (a : Result Given Fault) (ns : List Node) (us : List Use) → Tells d bytes [] n a ns us
      → completed d bytes [] n ≡ flat_map (completed d bytes []) ns ++ n ∷ []
  tree_is n a ns us t =
      let direct : done w [] ≡ completed d bytes [] = fun_ext (λ m. done_direct d bytes [] m (AreDistinct-none w)) in
      let settled : IsSettled w = law_on (described d) (described_lawful d) bytes in
      sym (done_direct d bytes [] n (AreDistinct-none w)) ∙ kept-tree w settled n
      (answered_by (tells w [] n).outcome a (answers_are_direct d bytes [] n ∙ t.answer))
      ∙ ap (λ ms. flat_map (done w []) ms ++ n ∷ []) ((asks_are_direct d bytes [] n (record { distinct = AreDistinct-none w; apart = refl })).asked ∙ t.asked)
      ∙ ap (λ f. flat_map f ns ++ n ∷ []) direct

  -- it is touched where what it asks is, or what it uses
  pub touched_is : (change : Change) (n : Node) (a : Result Given Fault) (ns : List Node) (us : List Use) → Tells d bytes [] n a ns us
      → is_touched d bytes change n ≡ (list_any (is_touched d bytes change) ns || list_any (is_use_touched change) us)
  unfolding is_touched
  touched_is change n a ns us t =
      let p = is_hit d bytes change in
      ap (list_any p) (tree_is n a ns us t) ∙ list_any-append p (flat_map (completed d bytes []) ns) (n ∷ [])
      ∙ ap (λ b. list_any p (flat_map (completed d bytes []) ns) || b) (or_false (p n))
      ∙ ap (λ b. b || p n) (any_flat p (completed d bytes []) ns)
      ∙ ap (λ vs. list_any (is_touched d bytes change) ns || list_any (is_use_touched change) vs) t.used

pub trees_are_asked : TreesAreAsked
trees_are_asked d bytes n a ns us t = tree_is d bytes n a ns us t
