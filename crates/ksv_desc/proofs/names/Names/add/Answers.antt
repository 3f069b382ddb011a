-- A name is there, or it goes last.
use Rattle.std.proofs.Common.{List, ℕ, [], ◌∷◌, sym, ap, ◌∙◌, arith}
use Rattle.ksv_desc.specs.Names.{distinct_behind}
use Rattle.ksv_desc.proofs.Table.{stays, goes_last, longer, numbered, on_ok}
use Rattle.ksv_desc.proofs.names.Names.add.Goals as goal

pub returns-then-contains_key-clause-added : goal.returns-then-contains_key-clause-added
returns-then-contains_key-clause-added c =
    sym c.self.view_is ∙ stays _ _ _ c.self.invariant c.if-contains_key.ensures
    ∙ ap (λ (l : List (List ℕ)). distinct_behind l (c.args.name.now ∷ [])) c.self.view_is

pub invariant_of-self-else-is_err : goal.invariant_of-self-else-is_err
invariant_of-self-else-is_err c =
    numbered _ _ c.self.inside.numbers c.insert.new.self c.args.name.now c.in_ok-from_str.field-0 c.in_ok-key.key c.len-number.result c.self.invariant
    c.if-contains_key.ensures c.in_ok-push.ensures.items c.in_ok-from_str.ensures.ok c.in_ok-key.ensures.ok (omega arith) (omega arith)
    (on_ok c.insert.result c.insert.ensures.updates c.if-is_err.ensures.value)

pub returns-clause-added : goal.returns-clause-added
returns-clause-added c =
    longer _ _ _ c.args.name.now c.in_ok-push.ensures.items c.in_ok-from_str.ensures.ok ∙ goes_last _ _ _ c.self.invariant c.if-contains_key.ensures
    ∙ ap (λ (l : List (List ℕ)). distinct_behind l (c.args.name.now ∷ [])) c.self.view_is
