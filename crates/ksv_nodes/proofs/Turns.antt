-- What turns keep, and what they add.
use Rattle.ksv_nodes.proofs.Common.{◌≡◌, List, [], ◌∷◌, ◌++◌, Result, Ok, Err, Option, Some, None, refl, sym, ap, ◌∙◌, Answer, Fail, Ask, Need, Done, next, run}
use Rattle.ksv_nodes.proofs.Common.{behind, Use, Fault, Given, Node, look, Rule, Of, See, State, seen_in, replied, turns}
use Rattle.std.proofs.Common.{append_assoc, append-nil}
use Rattle.ksv_basics.specs.Plan.{Ran, Failed}
use Rattle.ksv_nodes.specs.Rule.{Query}
use Rattle.ksv_nodes.specs.Turning.{reply}

-- the second state has the path and the bytes of the first, and perhaps more uses
pub record Grows (s t : State) : Type 0 where
  pub here : t.here ≡ s.here
  pub bytes : t.bytes ≡ s.bytes
  pub added : List Use
  pub uses : t.uses ≡ s.uses ++ added

pub grows_not : (s : State) → Grows s s
grows_not s = record { here = refl; bytes = refl; added = []; uses = sym (append-nil s.uses) }

pub grows_on : {s t u : State} → Grows s t → Grows t u → Grows s u
grows_on {s} {t} {u} g h = record {
  here = h.here ∙ g.here;
  bytes = h.bytes ∙ g.bytes;
  added = g.added ++ h.added;
  uses = h.uses ∙ ap (λ us. us ++ h.added) g.uses ∙ append_assoc s.uses g.added h.added;
}

replied_grows : (n : Node) (replies : List (Result Given Fault)) (s : State) → Grows s (behind (replied n replies s))
replied_grows n [] s = grows_not s
replied_grows n (Ok g ∷ rest) s = record { here = refl; bytes = refl; added = []; uses = sym (append-nil s.uses) }
replied_grows n (Err f ∷ rest) s = record { here = refl; bytes = refl; added = []; uses = sym (append-nil s.uses) }

seen_grows : {A : Type 0} (o : Option A) (us : List Use) (s : State) → Grows s (behind (seen_in o (record s { uses = s.uses ++ us })))
seen_grows (Some a) us s = record { here = refl; bytes = refl; added = us; uses = refl }
seen_grows None us s = record { here = refl; bytes = refl; added = us; uses = refl }

pub reply_grows : (q : Query) (s : State) → Grows s (behind (reply q s))
reply_grows (Of n) s = replied_grows n s.replies s
reply_grows (See r) s = seen_grows (look r s.bytes).seen (look r s.bytes).uses s

next_grows : {A B : Type 0} (s : State) (o : Ran Node Fault State A) (f : A → State → Ran Node Fault State B) → Grows s (behind o)
    → ((a : A) (t : State) → Grows t (behind (f a t))) → Grows s (behind (next o f))
next_grows s (Need n t) f g h = g
next_grows s (Failed e t) f g h = g
next_grows s (Done a t) f g h = grows_on g (h a t)

-- a run keeps the path and the bytes, and adds uses after those that there were
pub run_grows : {A : Type 0} (p : Rule A) (s : State) → Grows s (behind (run turns p s))
run_grows (Answer a) s = grows_not s
run_grows (Fail e) s = grows_not s
run_grows (Ask q k) s = next_grows s (reply q s) (λ r t. run turns (k r) t) (reply_grows q s) (λ r t. run_grows (k r) t)
