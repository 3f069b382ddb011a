-- A run on bytes that agree on all that it used yields the same, with the same uses.
use Rattle.ksv_nodes.proofs.Common.{◌≡◌, List, [], ◌∷◌, ◌++◌, Option, Some, None, Result, Ok, Err, ℕ, refl, ap, subst, ◌∙◌, Answer, Fail, Ask, next, run}
use Rattle.ksv_nodes.proofs.Common.{behind, Use, AgreeOn, Fault, Given, Node, Reading, look, Rule, Of, See, State, seen_in, replied, turns}
use Rattle.ksv_nodes.specs.Reading.{Seen}
use Rattle.ksv_nodes.specs.Rule.{Here, There}
use Rattle.ksv_nodes.specs.Turning.{looked}
use Rattle.ksv_nodes.specs.Laws.{state_on, ran_on}
use Rattle.ksv_nodes.proofs.Turns.{Grows, run_grows}
use Rattle.ksv_nodes.proofs.Looks.{Agree, look_same}
use Rattle.ksv_memo_rules.proofs.Lists.{All-left, All-right}

abbrev pub IsLocal : {A : Type 0} → List ℕ → Rule A → Type 0
IsLocal others p = (s : State) → Agree s.bytes others (behind (run turns p s)).uses → run turns p (state_on others s) ≡ ran_on others (run turns p s)

module _ (others : List ℕ) where
  given_local : {A : Type 0} (n : Node) (k : Given → Rule A) → ((g : Given) → IsLocal others (k g)) → (s : State) (replies : List (Result Given Fault))
      → Agree s.bytes others (behind (next (replied n replies s) (λ g t. run turns (k g) t))).uses
      → next (replied n replies (state_on others s)) (λ g t. run turns (k g) t) ≡ ran_on others (next (replied n replies s) (λ g t. run turns (k g) t))
  given_local n k same s [] h = refl
  given_local n k same s (Ok g ∷ replies) h = same g (record s { replies = replies }) h
  given_local n k same s (Err f ∷ replies) h = refl

  -- what was used before a run is among what was used in the end
  used_before : {A X : Type 0} (k : X → Rule A) (s : State) (o : Option X) → Agree s.bytes others (behind (next (seen_in o s) (λ x t. run turns (k x) t))).uses
      → Agree s.bytes others s.uses
  used_before k s None h = h
  used_before k s (Some x) h =
      let g : Grows s (behind (run turns (k x) s)) = run_grows (k x) s in
      let P : List Use → Type 0 = λ us. Agree s.bytes others us in
      All-left (AgreeOn s.bytes others) s.uses g.added (subst P g.uses h)

  seen_local : {A X : Type 0} (k : X → Rule A) → ((x : X) → IsLocal others (k x)) → (s : State) (o : Option X)
      → Agree s.bytes others (behind (next (seen_in o s) (λ x t. run turns (k x) t))).uses
      → next (seen_in o (state_on others s)) (λ x t. run turns (k x) t) ≡ ran_on others (next (seen_in o s) (λ x t. run turns (k x) t))
  seen_local k same s None h = refl
  seen_local k same s (Some x) h = same x s h

  -- a reading, and what follows it
  look_local : {A : Type 0} (r : Reading) (k : Seen r → Rule A) → ((x : Seen r) → IsLocal others (k x)) → IsLocal others (Ask (See r) k)
  look_local r k same s h =
      let t : State = record s { uses = s.uses ++ (look r s.bytes).uses } in
      let used = All-right (AgreeOn s.bytes others) s.uses (look r s.bytes).uses (used_before k t (look r s.bytes).seen h) in
      ap (λ l. next (looked l (state_on others s)) (λ x u. run turns (k x) u)) (look_same s.bytes others r used)
      ∙ seen_local k same t (look r s.bytes).seen h

-- with the same replies, and bytes that agree on what was used, a rule yields the same and uses the same
pub local : {A : Type 0} (others : List ℕ) (p : Rule A) → IsLocal others p
local others (Answer a) s h = refl
local others (Fail (Here k)) s h = refl
local others (Fail (There k path)) s h = refl
local others (Ask (Of n) k) s h = given_local others n k (λ g. local others (k g)) s s.replies h
local others (Ask (See r) k) s h = look_local others r k (λ x. local others (k x)) s h
