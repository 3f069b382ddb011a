-- What a node tells is right for an engine to keep.
use Rattle.std.proofs.Common.{◌≢◌, Contains, get_or, AllPairs}
use Rattle.std.proofs.lemmas.List.Elements.{recursion_from_All, Contains-get_or, Contains-append_right}
use mathlib.Core.Path.{fun_ext}
use Rattle.ksv_bytes.specs.declared.uses.Use.TheVariants.{Bytes}
use Rattle.ksv_memo_rules.proofs.Keeping.{kept-tree}
use Rattle.ksv_memo_rules.proofs.Standing.{law_on}
use Rattle.ksv_memo_rules.proofs.Standins.{asks-lower}
use Rattle.ksv_memo_rules.specs.Evaluation.{IsAnswered, tells}
use Rattle.ksv_memo_rules.specs.Meaning.{IsSettled}
use Rattle.ksv_memo_rules.specs.Touched.{tree}
use Rattle.ksv_memo_rules.specs.Touched as engines
use Rattle.ksv_memo_rules.specs.declared.rules.Outcome.{Outcome}
use Rattle.ksv_memo_rules.specs.declared.rules.Outcome.TheVariants.{Answered, Circle}
use Rattle.ksv_rule_meaning.proofs.Completing.{touch_direct}
use Rattle.ksv_rule_meaning.proofs.Direct.{answers_are_direct, asks_are_direct}
use Rattle.ksv_rule_meaning.specs.Direct.{flattened, AreSameUses}
use Rattle.ksv_rule_meaning.specs.Lemmas.Lawful.{described_lawful}
use Rattle.ksv_list_laws.proofs.Common.{◌≡◌, ◌∙◌, ℕ, ◌<◌, true, ◌||◌, List, [], ◌∷◌, ◌++◌, length, Result, Ok, refl, sym, ap, subst, arith, AllByRecursion}
use Rattle.ksv_list_laws.proofs.Common.{flat_map, list_any, is_use_touched, Use, Fault, Description, is_among, Standing, on, AreDistinct-none, node_number}
use Rattle.ksv_list_laws.proofs.Common.{Given, Node, described, Tells, evaluated, Err}
use Rattle.ksv_list_laws.proofs.Trees.{touched_is}
use Rattle.ksv_list_laws.proofs.Truth.{turned}
use Rattle.ksv_list_laws.specs.Laws.{IsSingle, EntriesAreRight}

outcome_is : (o : Outcome Node (Result Given Fault)) (a : Result Given Fault) → flattened o ≡ evaluated a → o ≡ Answered a
outcome_is (Answered b) a e = by b a e
  where
    by : (r q : Result Given Fault) → flattened (Answered r) ≡ evaluated q → ◌≡◌ {A = Outcome Node (Result Given Fault)} (Answered r) (Answered q)
    by (Ok k) (Ok g) e' = let same : k ≡ g = cc in ap (λ z. Answered (Ok z)) same
    by (Err f) (Err h) e' = let same : f ≡ h = cc in ap (λ z. Answered (Err z)) same
    by (Ok k) (Err h) e' = absurd (cc)
    by (Err f) (Ok g) e' = absurd (cc)
outcome_is (Circle c) (Ok g) e = absurd (cc)
outcome_is (Circle c) (Err f) e = absurd (cc)

module _ (d : Description) (bytes : List ℕ) where
  abbrev w : Standing Node (Result Given Fault)
  w = on (described d) bytes

  -- what an engine knows of a node that tells
  pub record Known (n : Node) (a : Result Given Fault) (ns : List Node) (us : List Use) : Type 0 where
    pub outcome : (tells w [] n).outcome ≡ Answered a
    pub answered : IsAnswered (tells w [] n).outcome
    pub asked : (tells w [] n).asked ≡ ns
    pub used : AreSameUses (tells w [] n).uses us
    pub whole : tree w n ≡ flat_map (tree w) ns ++ n ∷ []
    pub own : Contains (tree w n) n
    pub lower : AllByRecursion (λ m. length (tree w m) < length (tree w n)) ns

  pub known : (n : Node) (a : Result Given Fault) (ns : List Node) (us : List Use) → Tells d bytes [] n a ns us → Known n a ns us
  known n a ns us t =
      let direct = asks_are_direct d bytes [] n (record { distinct = AreDistinct-none w; apart = refl }) in
      let settled : IsSettled w = law_on (described d) (described_lawful d) bytes in
      let outcome : (tells w [] n).outcome ≡ Answered a = outcome_is (tells w [] n).outcome a (answers_are_direct d bytes [] n ∙ t.answer) in
      let answered : IsAnswered (tells w [] n).outcome = subst (λ (o : Outcome Node (Result Given Fault)). IsAnswered o) (sym outcome) tt in
      let asked = direct.asked ∙ t.asked in
      let whole = kept-tree w settled n answered ∙ ap (λ ms. flat_map (tree w) ms ++ n ∷ []) asked in
      record {
        outcome = outcome;
        answered = answered;
        asked = asked;
        used = subst (λ vs. AreSameUses (tells w [] n).uses vs) t.used direct.uses;
        whole = whole;
        own = subst (λ ms. Contains ms n) (sym whole) (Contains-append_right (flat_map (tree w) ns) (n ∷ []) n (Contains-get_or (n ∷ []) 0 n (omega arith)));
        lower = subst (AllByRecursion (λ m. length (tree w m) < length (tree w n))) asked (asks-lower w settled n answered);
      }

pub single_once : (us : List Use) → IsSingle us → AllPairs (λ a b. a ≢ b) us
single_once [] h = λ i j z a b. absurd (omega (arith, a, b))
single_once (v ∷ []) h = λ i j z a b. absurd (omega (arith, a, b))
single_once (u ∷ v ∷ vs) h = absurd h

pub entries_are_right : EntriesAreRight
entries_are_right d bytes kept n a ns us t single all =
    let w = on (described d) bytes in
    let own = known d bytes n a ns us t in
    record {
      outcome = own.outcome;
      closed = subst (AllByRecursion (λ m. is_among node_number kept m ≡ true)) (sym own.asked) all;
      named = all;
      lower = own.lower;
      touched = λ change. touch_direct d bytes change n ∙ touched_is d bytes change n a ns us t
          ∙ ap (λ p. list_any p ns || list_any (is_use_touched change) us) (fun_ext (λ m. sym (touch_direct d bytes change m)))
          ∙ turned (list_any (engines.is_touched w change) ns) (list_any (is_use_touched change) us);
      few = (let same = ap length own.asked in omega arith);
      once = single_once us single;
      bytes = λ from to. ((own.used (Bytes from to)).1, (own.used (Bytes from to)).0);
      made = recursion_from_All _ us (λ k v lt. (own.own.0, n, own.own.1, own.own.2, (own.used (get_or us k v)).1 (Contains-get_or us k v lt)));
    }
