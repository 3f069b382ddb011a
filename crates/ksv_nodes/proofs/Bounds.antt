-- How many nodes rules ask, and that a run with as many replies has no open question.
use Rattle.ksv_nodes.proofs.Common.{◌≡◌, ℕ, zero, suc, ◌+◌, ◌≤◌, Bool, true, false, if◌then◌else◌, List, [], ◌∷◌, ◌++◌, length, Option, Some, None, Result, Ok}
use Rattle.ksv_nodes.proofs.Common.{Err, sym, subst, arith, Answer, Fail, Ask, next, run, Trail, Fault, Given, Node, look, Rule, Of, See, part, State, replied}
use Rattle.ksv_nodes.proofs.Common.{seen_in, turns}
use Rattle.ksv_basics.specs.Plan.{Plan, bind, translate, AsksAtMost, IsEnded}
use Rattle.ksv_expr_value.specs.Trail.{child}
use Rattle.ksv_expr_value.specs.declared.step.Step.{Step}
use Rattle.ksv_nodes.specs.declared.given.Given.TheVariants as givens
use Rattle.ksv_nodes.specs.Rule.{Raised, ask_head, ask_value, ask_end, ask_rest, in_path}
use Rattle.ksv_nodes.specs.Bounds.{NodesAtMost}

-- a larger bound holds too
pub nodes_more : {A : Type 0} (m n : ℕ) (p : Rule A) → m ≤ n → NodesAtMost m p → NodesAtMost n p
nodes_more m n (Answer a) h b = tt
nodes_more m n (Fail e) h b = tt
nodes_more m n (Ask (See r) k) h b = λ x. nodes_more m n (k x) h (b x)
nodes_more zero n (Ask (Of q) k) h b = absurd b
nodes_more (suc m) zero (Ask (Of q) k) h b = absurd (omega arith)
nodes_more (suc m) (suc n) (Ask (Of q) k) h b = λ g. nodes_more m n (k g) (omega arith) (b g)

-- one rule after another asks the nodes of both
pub nodes_bind : {A B : Type 0} (m n : ℕ) (p : Rule A) (f : A → Rule B) → NodesAtMost m p → ((a : A) → NodesAtMost n (f a)) → NodesAtMost (m + n) (bind p f)
unfolding bind
nodes_bind m n (Answer a) f b g = nodes_more n (m + n) (f a) (omega arith) (g a)
nodes_bind m n (Fail e) f b g = tt
nodes_bind m n (Ask (See r) k) f b g = λ x. nodes_bind m n (k x) f (b x) g
nodes_bind zero n (Ask (Of q) k) f b g = absurd b
nodes_bind {B = B} (suc m) n (Ask (Of q) k) f b g =
    let e : suc m + n ≡ suc (m + n) = omega arith in
    let P : ℕ → Type 0 = λ x. NodesAtMost {A = B} x (Ask (Of q) (λ r. bind (k r) f)) in
    subst P (sym e) (λ r. nodes_bind m n (k r) f (b r) g)

-- the same, within a given sum
pub nodes_join : {A B : Type 0} (p : Rule A) (f : A → Rule B) (t m n : ℕ) → m + n ≤ t → NodesAtMost m p → ((a : A) → NodesAtMost n (f a))
    → NodesAtMost t (bind p f)
nodes_join p f t m n h b g = nodes_more (m + n) t (bind p f) h (nodes_bind m n p f b g)

-- one of two rules
pub nodes_if : {A : Type 0} (b : Bool) (n : ℕ) (p q : Rule A) → NodesAtMost n p → NodesAtMost n q → NodesAtMost n (if b then p else q)
nodes_if true n p q f g = f
nodes_if false n p q f g = g

-- a plan whose questions each take one node at most asks no more nodes than it puts questions
pub nodes_translate : {Q : Type 0} {R : Q → Type 0} {F A : Type 0} (t : (q : Q) → Rule (R q)) (raise : F → Raised) (m : ℕ) (p : Plan Q R F A)
    → ((q : Q) → NodesAtMost 1 (t q)) → AsksAtMost m p → NodesAtMost m (translate t raise p)
nodes_translate t raise m (Answer a) each b = tt
nodes_translate t raise m (Fail e) each b = tt
nodes_translate t raise zero (Ask q k) each b = absurd b
nodes_translate t raise (suc m) (Ask q k) each b =
    nodes_join (t q) (λ r. translate t raise (k r)) (suc m) 1 m (omega arith) (each q) (λ r. nodes_translate t raise m (k r) each (b r))

-- what another node answers takes one node
pub head_nodes : (p : Trail) → NodesAtMost 1 (ask_head p)
head_nodes p (givens.Head h) = tt
head_nodes p _ = tt

pub value_nodes : (p : Trail) → NodesAtMost 1 (ask_value p)
value_nodes p (givens.Value v) = tt
value_nodes p _ = tt

pub end_nodes : (p : Trail) → NodesAtMost 1 (ask_end p)
end_nodes p (givens.End place last) = tt
end_nodes p _ = tt

pub rest_nodes : (p : Trail) → NodesAtMost 1 (ask_rest p)
rest_nodes p (givens.Rest count place) = tt
rest_nodes p _ = tt

-- the path of a part takes none
path_nodes : (o : Option Trail) → NodesAtMost 0 (in_path o)
path_nodes None = tt
path_nodes (Some p) = tt

pub part_nodes : (p : Trail) (step : Step) → NodesAtMost 0 (part p step)
part_nodes p step = path_nodes (child p step)

given_ended : {A : Type 0} (n : ℕ) (m : Node) (k : Given → Rule A) → ((g : Given) (s : State) → n ≤ length s.replies → IsEnded (run turns (k g) s))
    → (replies : List (Result Given Fault)) (s : State) → suc n ≤ length replies → IsEnded (next (replied m replies s) (λ g t. run turns (k g) t))
given_ended n m k rest [] s h = absurd (omega arith)
given_ended n m k rest (Ok g ∷ replies) s h = rest g (record s { replies = replies }) (omega arith)
given_ended n m k rest (Err f ∷ replies) s h = tt

seen_ended : {A X : Type 0} (n : ℕ) (k : X → Rule A) → ((x : X) (s : State) → n ≤ length s.replies → IsEnded (run turns (k x) s)) → (o : Option X) (s : State)
    → n ≤ length s.replies → IsEnded (next (seen_in o s) (λ x t. run turns (k x) t))
seen_ended n k rest (Some x) s h = rest x s h
seen_ended n k rest None s h = tt

-- with as many replies as it asks nodes, a rule ends, whatever they say
pub enough : {A : Type 0} (n : ℕ) (p : Rule A) (s : State) → NodesAtMost n p → n ≤ length s.replies → IsEnded (run turns p s)
enough n (Answer a) s b h = tt
enough n (Fail e) s b h = tt
enough n (Ask (See r) k) s b h = seen_ended n k (λ x t h'. enough n (k x) t (b x) h') (look r s.bytes).seen
    (record s { uses = s.uses ++ (look r s.bytes).uses }) h
enough zero (Ask (Of m) k) s b h = absurd b
enough (suc n) (Ask (Of m) k) s b h = given_ended n m k (λ g t h'. enough n (k g) t (b g) h') s.replies s h
