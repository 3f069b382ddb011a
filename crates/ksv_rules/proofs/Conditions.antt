-- Conditions that are evaluated one after another.
use Rattle.std.proofs.Common.{◌≡◌, ℕ, suc, ◌+◌, ◌<◌, ◌≤◌, Bool, true, false, if◌then◌else◌, List, ◌∷◌, map, length, get_or, drop, Err, refl, sym, ap, ◌∙◌}
use Rattle.std.proofs.Common.{add-one, drop-cons}
use Rattle.std.proofs.lemmas.List.{drop_all}
use Rattle.ksv_basics.specs.Plan.{Answer, Done, bind, next, run}
use Rattle.ksv_basics.proofs.Running.{run_bind}
use Rattle.ksv_expr_tree.specs.Tree.{Tree, view}
use Rattle.ksv_expr_tree.specs.declared.tree.Expr.{Expr}
use Rattle.ksv_expr_value.specs.Setting.{Setting}
use Rattle.ksv_nodes.specs.Rule.{Rule}
use Rattle.ksv_nodes.specs.Turning.{State, turns, Runs}
use Rattle.ksv_nodes.specs.declared.turn.Halt.{Halt}
use Rattle.ksv_nodes.specs.declared.turn.Halt.TheVariants as halts
use Rattle.ksv_rule_meaning.specs.Checks.{meets_one, meets_each}
use Rattle.ksv_rule_meaning.specs.Wanted.{truth_of}

-- a plan evaluates the first condition of a list, and by its answer goes on with those after it
module _ (s : Setting) (plan : List Tree → Rule Bool) (goes : Bool → List Tree → Rule Bool)
    (is : (e : Tree) (es : List Tree) → plan (e ∷ es) ≡ bind (truth_of s e) (λ b. goes b es)) (xs : List Expr) (i : ℕ) (x : Expr) (now begun : State)
    (within : i < length xs) (at : x ≡ get_or xs i x) (left : run turns (plan (map view (drop i xs))) now ≡ run turns (plan (map view xs)) begun) where
  abbrev rest : List Tree
  rest = map view (drop (i + 1) xs)

  here : drop i xs ≡ x ∷ drop (i + 1) xs
  here = drop-cons xs i x within ∙ ap (λ (y : Expr). y ∷ drop (suc i) xs) (sym at) ∙ ap (λ (j : ℕ). x ∷ drop j xs) (sym (add-one i))

  first : run turns (plan (map view xs)) begun ≡ next (run turns (truth_of s (view x)) now) (λ b t. run turns (goes b rest) t)
  first =
      sym left ∙ ap (λ (ys : List Expr). run turns (plan (map view ys)) now) here
      ∙ ap (λ p. run turns p now) (is (view x) rest)
      ∙ run_bind turns (truth_of s (view x)) (λ b. goes b rest) now

  -- it has an answer
  answers : (b : Bool) (new : State) → run turns (truth_of s (view x)) now ≡ Done b new → run turns (plan (map view xs)) begun ≡ run turns (goes b rest) new
  answers b new ran = first ∙ ap (λ o. next o (λ b' t. run turns (goes b' rest) t)) ran

  -- it has none
  ends : (new : State) (h : Halt) → Runs {X = Bool} (truth_of s (view x)) (λ b. b) now new (Err h)
      → Runs {X = Bool} (plan (map view xs)) (λ b. b) begun new (Err h)
  ends new halts.Memory r = tt
  ends new (halts.Need n) r = first ∙ ap (λ o. next o (λ b' t. run turns (goes b' rest) t)) r
  ends new (halts.Fault f) r = first ∙ ap (λ o. next o (λ b' t. run turns (goes b' rest) t)) r

-- ---- one of them, and each of them

abbrev one_goes : Setting → Bool → List Tree → Rule Bool
one_goes s b es = if b then Answer true else meets_one s es

abbrev each_goes : Setting → Bool → List Tree → Rule Bool
each_goes s b es = if b then meets_each s es else Answer false

one_is : (s : Setting) (e : Tree) (es : List Tree) → meets_one s (e ∷ es) ≡ bind (truth_of s e) (λ b. one_goes s b es)
unfolding meets_one
one_is s e es = refl

each_is : (s : Setting) (e : Tree) (es : List Tree) → meets_each s (e ∷ es) ≡ bind (truth_of s e) (λ b. each_goes s b es)
unfolding meets_each
each_is s e es = refl

module _ (s : Setting) (xs : List Expr) (i : ℕ) (x : Expr) (now begun : State) (within : i < length xs) (at : x ≡ get_or xs i x) where
  pub one_answers : run turns (meets_one s (map view (drop i xs))) now ≡ run turns (meets_one s (map view xs)) begun → (b : Bool) (new : State)
      → run turns (truth_of s (view x)) now ≡ Done b new
      → run turns (meets_one s (map view xs)) begun ≡ run turns (one_goes s b (map view (drop (i + 1) xs))) new
  one_answers left = answers s (meets_one s) (one_goes s) (one_is s) xs i x now begun within at left

  pub one_halts : run turns (meets_one s (map view (drop i xs))) now ≡ run turns (meets_one s (map view xs)) begun → (new : State) (h : Halt)
      → Runs {X = Bool} (truth_of s (view x)) (λ b. b) now new (Err h)
      → Runs {X = Bool} (meets_one s (map view xs)) (λ b. b) begun new (Err h)
  one_halts left = ends s (meets_one s) (one_goes s) (one_is s) xs i x now begun within at left

  pub each_answers : run turns (meets_each s (map view (drop i xs))) now ≡ run turns (meets_each s (map view xs)) begun → (b : Bool) (new : State)
      → run turns (truth_of s (view x)) now ≡ Done b new
      → run turns (meets_each s (map view xs)) begun ≡ run turns (each_goes s b (map view (drop (i + 1) xs))) new
  each_answers left = answers s (meets_each s) (each_goes s) (each_is s) xs i x now begun within at left

  pub each_halts : run turns (meets_each s (map view (drop i xs))) now ≡ run turns (meets_each s (map view xs)) begun → (new : State) (h : Halt)
      → Runs {X = Bool} (truth_of s (view x)) (λ b. b) now new (Err h)
      → Runs {X = Bool} (meets_each s (map view xs)) (λ b. b) begun new (Err h)
  each_halts left = ends s (meets_each s) (each_goes s) (each_is s) xs i x now begun within at left

-- none is left
module _ (s : Setting) (xs : List Expr) (i : ℕ) (now begun : State) (past : length xs ≤ i) where
  pub one_ends : run turns (meets_one s (map view (drop i xs))) now ≡ run turns (meets_one s (map view xs)) begun
      → run turns (meets_one s (map view xs)) begun ≡ Done false now
  unfolding meets_one
  one_ends left = sym left ∙ ap (λ (ys : List Expr). run turns (meets_one s (map view ys)) now) (drop_all i xs past)

  pub each_ends : run turns (meets_each s (map view (drop i xs))) now ≡ run turns (meets_each s (map view xs)) begun
      → run turns (meets_each s (map view xs)) begun ≡ Done true now
  unfolding meets_each
  each_ends left = sym left ∙ ap (λ (ys : List Expr). run turns (meets_each s (map view ys)) now) (drop_all i xs past)
