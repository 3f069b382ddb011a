-- What many proofs of this crate name, of its definitions and of other crates.
pub use Rattle.std.proofs.Common.{◌≡◌, ℕ, arith, Bool, true, false, cond, Option, Some, None, refl, inl, inr, List, ◌∷◌, ◌++◌, sym, ap, ◌∙◌, append_assoc, zero}
pub use Rattle.std.proofs.Common.{suc, ◌+◌, ◌<◌, ◌≤◌, [], length, take, drop, get_or, subst, drop-cons, add-one}
pub use Rattle.std.proofs.lemmas.List.{append-nil}
pub use Rattle.std.proofs.lemmas.Grind.{common_steps}
pub use Rattle.std.specs.Prelude.{◌==◌, nat_le, ◌&&◌, not, ◌||◌, All}
pub use Rattle.ksv_yaml_scan.specs.Lines.{Line, loud, is_nil, HasNumber, is_white, skip, white_or_end}
pub use Rattle.ksv_yaml_scan.specs.Plain.{plain_text, Ending, Run, stop, run_by, run}
pub use Rattle.ksv_yaml_scan.specs.Quoted.{Quote, Between, double, with_bytes, inside}
pub use Rattle.ksv_yaml_scan.specs.Text.{cut_lines}
pub use Rattle.ksv_yaml_scan.specs.Tokens.{Token, both}
pub use Rattle.ksv_yaml_scan.specs.Views.{line_view, lines_view, tokens_view}
