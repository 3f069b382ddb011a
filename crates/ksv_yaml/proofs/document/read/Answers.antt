-- What the text spells is what its lines spell, where there is no control character.
use Rattle.ksv_yaml.proofs.Common.{◌≤◌, List, length, sym, subst, ◌∙◌, view, lines_view}
use Rattle.std.proofs.Common.{max}
use Rattle.ksv_yaml.specs.Code.{wants_memory}
use Rattle.ksv_yaml.proofs.TextTheorem.{one_tree_of_text}
use Rattle.ksv_yaml.proofs.Whole.{text_read, cut_refused, refuses_memory}
use Rattle.ksv_yaml_scan.specs.declared.line.Line.{Line}
use Rattle.ksv_yaml_scan.specs.Text.{IsCut}
use Rattle.ksv_yaml.proofs.document.read.Goals as goal

pub returns-in-Err-clause-exact : goal.returns-in-Err-clause-exact
returns-in-Err-clause-exact c t s = refuses_memory c.args.text.now t c.of_text.result.kind c.of_text.result.line s
    (c.of_text.ensures c.args.text.now c.in-Err.ensures.err)

pub returns-in-Ok-read_allowed-clause-ok : goal.returns-in-Ok-read_allowed-clause-ok
returns-in-Ok-read_allowed-clause-ok c =
    let k = subst (λ (ls : List Line). IsCut c.args.text.now (lines_view ls) c.in-Ok.text.stray) (sym c.deref.ensures.value) c.in-Ok.ensures.ok in
    text_read c.args.text.now (lines_view c.deref.result.now) c.in-Ok.text.stray (view c.in-Ok-read_allowed.tree) k c.in-Ok-read_allowed.ensures.allowed
    c.in-Ok-read_allowed.ensures.ok

pub returns-in-Ok-read_allowed-clause-exact : goal.returns-in-Ok-read_allowed-clause-exact
returns-in-Ok-read_allowed-clause-exact c t s =
    let k = subst (λ (ls : List Line). IsCut c.args.text.now (lines_view ls) c.in-Ok.text.stray) (sym c.deref.ensures.value) c.in-Ok.ensures.ok in
    one_tree_of_text c.args.text.now (view c.in-Ok-read_allowed.tree) t
    (text_read c.args.text.now (lines_view c.deref.result.now) c.in-Ok.text.stray (view c.in-Ok-read_allowed.tree) k c.in-Ok-read_allowed.ensures.allowed
    c.in-Ok-read_allowed.ensures.ok) s

pub returns-clause-err : goal.returns-clause-err
returns-clause-err c =
    let k = subst (λ (ls : List Line). IsCut c.args.text.now (lines_view ls) c.in-Ok.text.stray) (sym c.deref.ensures.value) c.in-Ok.ensures.ok in
    let high = subst (λ (ls : List Line). c.on_a_line.result.line ≤ max 1 (length ls)) (c.deref-in-Err-read_allowed.ensures.value ∙ sym c.deref.ensures.value)
    c.on_a_line.ensures.high in
    cut_refused c.args.text.now c.deref.result.now c.in-Ok.text.stray c.on_a_line.result.kind c.on_a_line.result.line
    (wants_memory c.in-Err-read_allowed.fault.kind) k c.on_a_line.ensures.low high c.on_a_line.ensures.kind c.on_a_line.ensures.memory
    c.in-Err-read_allowed.ensures.err

pub returns-clause-exact : goal.returns-clause-exact
returns-clause-exact c t s =
    let k = subst (λ (ls : List Line). IsCut c.args.text.now (lines_view ls) c.in-Ok.text.stray) (sym c.deref.ensures.value) c.in-Ok.ensures.ok in
    let high = subst (λ (ls : List Line). c.on_a_line.result.line ≤ max 1 (length ls)) (c.deref-in-Err-read_allowed.ensures.value ∙ sym c.deref.ensures.value)
    c.on_a_line.ensures.high in
    refuses_memory c.args.text.now t c.on_a_line.result.kind c.on_a_line.result.line s
    (cut_refused c.args.text.now c.deref.result.now c.in-Ok.text.stray c.on_a_line.result.kind c.on_a_line.result.line
    (wants_memory c.in-Err-read_allowed.fault.kind) k c.on_a_line.ensures.low high c.on_a_line.ensures.kind c.on_a_line.ensures.memory
    c.in-Err-read_allowed.ensures.err)
