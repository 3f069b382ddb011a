-- An id is ASCII.
use Rattle.ksv_schema.proofs.Common.{sym, ◌∙◌}
use Rattle.ksv_schema.proofs.Paths.{id_is_utf8}
use Rattle.ksv_schema.proofs.keys.ids.id.Goals as goal

pub unreachable-requires : goal.unreachable-requires
unreachable-requires c = c.in-Err.ensures.cases.0 (id_is_utf8 c.args.text.now (sym c.is_id.ensures ∙ c.if-not-is_id.false))
