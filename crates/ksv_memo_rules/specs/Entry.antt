-- What is kept, as contracts see it.
use Rattle.std.specs.Prelude.{ℕ, List, Option}
use Rattle.ksv_bytes.specs.declared.uses.Use.{Use}

-- a kept node with its answer, and the nodes and the uses, each once, by which an edit takes it
pub record Entry (N A : Type 0) : Type 0 where
  pub node : N
  pub answer : A
  pub asked : List N
  pub uses : List Use

-- an engine: what it keeps, in no stated order, and the calls of rules that were counted since the question began, the
-- looks of the last `forget`, a place after which no kept node uses a byte or a place, and all looks so far, which stop at
-- 2^64 - 1
pub record Memo (N A : Type 0) : Type 0 where
  pub kept : List (Entry N A)
  pub turns : Option ℕ
  pub looked : ℕ
  pub reach : ℕ
  pub looks : ℕ
