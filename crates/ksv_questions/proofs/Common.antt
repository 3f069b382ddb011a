-- What many proofs of this crate name, of its definitions and of other crates.
pub use Rattle.std.proofs.Common.{◌≡◌, ◌∙◌, ◌++◌, ℕ, false, ◌||◌, List, [], ◌∷◌, Option, None, Result, Ok, Err, ap, refl, subst, sym, ◌+◌, Bool, true}
pub use Rattle.std.proofs.Common.{append_assoc, codes, zero, suc, ◌-◌, ◌<◌, ◌≤◌, drop, length, map, arith, ℤ, ◌&&◌, ◌*◌, String, Global, string_bytes}
pub use Rattle.std.proofs.lemmas.List.{append-nil}
pub use Rattle.std.proofs.lemmas.Result.{err_from_is_err_and}
pub use Rattle.std.specs.Prelude.{if◌then◌else◌}
pub use Rattle.ksv_basics.specs.Plan.{Answer, Fail}
unfoldable pub use Rattle.ksv_basics.specs.Plan.{bind}
pub use Rattle.ksv_desc.specs.Description.{Description}
pub use Rattle.ksv_expr_value.specs.Trail.{Trail, child}
pub use Rattle.ksv_expr_value.specs.declared.step.Step.TheVariants.{Index}
pub use Rattle.ksv_expr_value.specs.declared.value.Value.{Value}
pub use Rattle.ksv_memo_rules.specs.Entry.{Memo}
pub use Rattle.ksv_memo_rules.specs.Evaluation.{is_among}
pub use Rattle.ksv_memo_rules.specs.Right.{IsRight, costs, counted, fresh}
pub use Rattle.ksv_nodes.specs.declared.node.Node.{Node}
pub use Rattle.serde_json.specs.Data.{Data, put, no_members}
pub use Rattle.serde_json.specs.View.{view}
pub use Rattle.ksv_questions.specs.Answers.{answered}
pub use Rattle.ksv_questions.specs.Asking.{Asking, Heard}
pub use Rattle.ksv_questions.specs.Code.{Runs, dumped, found_of, bytes_of, desc_of}
pub use Rattle.ksv_questions.specs.Dumps.{Part, written, begin}
unfoldable pub use Rattle.ksv_questions.specs.Dumps.{begun_part, elements_part, members_part, part, unasked, value_part, find_list}
pub use Rattle.ksv_questions.specs.Engines.{HasAsked, Ruled, world}
pub use Rattle.ksv_questions.specs.Questions.{parts_of}
unfoldable pub use Rattle.ksv_questions.specs.Questions.{ask_value, ask_head}
pub use Rattle.ksv_questions.specs.declared.asking.Untold.{Untold}
