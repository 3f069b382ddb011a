use Rattle.std.proofs.Common.{sym, ap, ◌∙◌, arith, refl}
use Rattle.ksv_expr_value.specs.Trail.{fits-none}
use Rattle.ksv_desc.specs.Whole.{plain_pieces}
use Rattle.ksv_paths.specs.PathTexts.{path_of_steps}
use Rattle.ksv_paths.proofs.PathTexts.{steps_begin, steps_full, step_read, left_seen, pieces_seen, not_full}
use Rattle.ksv_paths.proofs.path_text.read_steps.Goals as goal

pub loop-rest-init : goal.loop-rest-init
loop-rest-init c = rw (c.new-steps.ensures) (steps_begin _, omega arith, fits-none)

pub returns-then-is_full-clause-none : goal.returns-then-is_full-clause-none
returns-then-is_full-clause-none c =
    let left = left_seen (plain_pieces c.args.desc.now) _ c.loop-rest.steps c.loop-rest.rest c.in-Some.pieces _ _ c.loop-rest.invariant.0 c.in-Some.is
    (pieces_seen c.in-Some.pieces.now c.first_piece.result.0.now c.first_piece.result.1 c.first_piece.ensures.pieces) in
    ap path_of_steps left ∙ steps_full (plain_pieces c.args.desc.now) c.loop-rest.steps _ _ c.in_ok-step.step (sym c.in_ok-step.ensures.step)
    (let full = c.if-is_full.ensures.0 refl in omega (arith, full))

pub loop-rest-preserved : goal.loop-rest-preserved
loop-rest-preserved c =
    let left = left_seen (plain_pieces c.args.desc.now) _ c.loop-rest.steps c.loop-rest.rest c.in-Some.pieces _ _ c.loop-rest.invariant.0 c.in-Some.is
    (pieces_seen c.in-Some.pieces.now c.first_piece.result.0.now c.first_piece.result.1 c.first_piece.ensures.pieces) in
    step_read (plain_pieces c.args.desc.now) _ c.loop-rest.steps c.push.new.self _ _ c.in_ok-step.step left c.in_ok-step.ensures.step
    c.in_ok-step.ensures.in_range c.loop-rest.invariant.2 (not_full _ _ c.is_full.ensures.1 c.if-is_full.false c.loop-rest.invariant.1) c.push.ensures
