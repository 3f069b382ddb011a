-- The open nodes, as contracts see them.
use Rattle.std.specs.Prelude.{List, [], ◌∷◌, ◌++◌, map}
use Rattle.ksv_bytes.specs.declared.uses.Use.{Use}

-- an open node, with the replies so far, what it asked for them, and the uses of its calls, with repeats
pub record Open (N A : Type 0) : Type 0 where
  pub node : N
  pub replies : List A
  pub asked : List N
  pub uses : List Use

-- the open nodes alone
abbrev pub nodes_in : {N A : Type 0} → List (Open N A) → List N
nodes_in st = map (λ o. o.node) st

-- a node that is opened now
abbrev pub newly : {N A : Type 0} → N → Open N A
newly n = record { node = n; replies = []; asked = []; uses = [] }

-- the open node after a call that added uses
abbrev pub with_uses : {N A : Type 0} → Open N A → List Use → Open N A
with_uses o us = record { node = o.node; replies = o.replies; asked = o.asked; uses = o.uses ++ us }

-- the open node with one more reply
abbrev pub with_answer : {N A : Type 0} → Open N A → N → A → Open N A
with_answer o m a = record { node = o.node; replies = o.replies ++ a ∷ []; asked = o.asked ++ m ∷ []; uses = o.uses }

-- the open nodes, the last of which gets one more reply
abbrev pub heard : {N A : Type 0} → N → A → List (Open N A) → List (Open N A)
heard m a [] = []
heard m a (o ∷ st) = with_answer o m a ∷ st
