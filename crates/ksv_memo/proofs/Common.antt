-- What many proofs of this crate name, of its definitions and of other crates.
pub use Rattle.std.proofs.Common.{◌≡◌, ℕ, zero, suc, ◌+◌, ◌<◌, ◌≤◌, Bool, true, false, List, [], ◌∷◌, ◌++◌, length, refl, sym, ◌∙◌, ap, subst, nat_eq, arith}
pub use Rattle.std.proofs.Common.{◌||◌, Contains, ◌≢◌, ◌-◌, map, take, drop, reverse, Option, Some, None, is_some, Result, slice_get, slice_set, ◌⊎◌, inl, inr}
pub use Rattle.std.proofs.Common.{length-append, ◌*◌, append_assoc, not, cond, filter, sum_by, count_by, get_or, nat_lt, ◌&&◌, eq-eqb, IfOk, OnOk, rules}
pub use Rattle.std.proofs.lemmas.Bool.{or_parts}
pub use Rattle.std.proofs.lemmas.Bool.Decides.{Decides-ltb}
pub use Rattle.std.proofs.lemmas.List.{length-set, append-nil}
pub use Rattle.std.proofs.lemmas.List.Elements.{All-from_recursion}
pub use Rattle.std.proofs.lemmas.List.Sums.{sum_by-cons}
pub use Rattle.std.proofs.lemmas.Map.Keys.{IsDistinct-head, IsDistinct-tail}
pub use Rattle.std.proofs.lemmas.Option.{slice_get-map, slice_get_within}
pub use Rattle.std.proofs.lemmas.Grind.{common_steps}
pub use Rattle.std.specs.Cmp.{IsEquivalence}
pub use Rattle.std.specs.List.{AllByRecursion, list_any, zip}
unfoldable pub use Rattle.std.specs.List.{IsDistinct}
pub use Rattle.std.specs.Option.{option_map}
pub use Rattle.ksv_bytes.specs.Uses.{Makes, is_use_touched}
pub use Rattle.ksv_bytes.specs.declared.uses.Change.{Change}
pub use Rattle.ksv_bytes.specs.declared.uses.Change.TheVariants.{Overwrite, Insert, Delete, Append}
pub use Rattle.ksv_bytes.specs.declared.uses.Use.{Use}
pub use Rattle.ksv_bytes.specs.declared.uses.Use.TheVariants.{Bytes}
pub use Rattle.ksv_memo_links.specs.Links.{Linked}
pub use Rattle.ksv_memo_links.specs.Marking.{is_kept}
pub use Rattle.ksv_memo_links.specs.Shelved.{row}
pub use Rattle.ksv_memo_links.specs.Touching.{numbers_from, pages_in, AreWithin}
pub use Rattle.ksv_memo_rules.proofs.Evals.{eqb_true, IsOut}
pub use Rattle.ksv_memo_rules.proofs.Keeping.{IsIn, AreDistinct-none, self_in, is_among-append, nodes_of-append, agrees}
pub use Rattle.ksv_memo_rules.proofs.Lists.{All-map, All-both, All-++, All-left, All-right, none_pass}
pub use Rattle.ksv_memo_rules.proofs.Standing.{law_on}
pub use Rattle.ksv_memo_rules.specs.Entry.{Entry}
pub use Rattle.ksv_memo_rules.specs.Evaluation.{is_among, Told, tells, done, answering}
unfoldable pub use Rattle.ksv_memo_rules.specs.Evaluation.{told}
pub use Rattle.ksv_memo_rules.specs.Meaning.{Standing, IsSettled, Meaning, IsLawful, on}
pub use Rattle.ksv_memo_rules.specs.Right.{nodes_of, StandsIn, IsRight, AreDistinct, AreExactly, HasEachOnce, costs, Agrees}
unfoldable pub use Rattle.ksv_memo_rules.specs.Right.{fresh}
pub use Rattle.ksv_memo_rules.specs.Slots.{answer_in, answer_of, answer_at, answers_at, with_first}
pub use Rattle.ksv_memo_rules.specs.declared.replies.Slot.{Slot}
pub use Rattle.ksv_memo_rules.specs.declared.replies.Slot.TheVariants.{Empty}
pub use Rattle.ksv_memo_rules.specs.declared.rules.Next.{Next}
pub use Rattle.ksv_memo_rules.specs.declared.rules.Next.TheVariants.{Need, Done}
pub use Rattle.ksv_memo_rules.specs.declared.rules.Outcome.{Outcome}
pub use Rattle.ksv_memo_rules.specs.declared.rules.Outcome.TheVariants.{Answered, Circle}
pub use Rattle.ksv_memo.specs.Behind.{AllEndBy, pages_to}
pub use Rattle.ksv_memo.specs.Layout.{IsOneOf, AllDiffer, slots_of, node_at, nodes_at, IsOpen, IsKept, entry_with, entry_at, entries_at, entries_of}
pub use Rattle.ksv_memo.specs.Layout.{open_before, opens_in, opens_of, AreNested, AreLinked, AreFrames, IsLaidOut}
pub use Rattle.ksv_memo.specs.Moves.{with_slot, IsVacant, Heard, Framed, EndsWith}
pub use Rattle.ksv_memo.specs.Nodes.{Replies, Opens, Circles, Closes, MayKeep, nodes}
pub use Rattle.ksv_memo.specs.Open.{Open, newly, nodes_in, with_uses, with_answer}
pub use Rattle.ksv_memo.specs.Running.{HasCome, IsWaiting, IsStack, rest_of, to_keep, debt, GoesOn, HasFinished, IsLeft, AreSame}
pub use Rattle.ksv_memo.specs.Sweep.{Mark, IsMarked, Sweeps, entries_left}
pub use Rattle.ksv_memo.specs.declared.frames.Frame.{Frame}
pub use Rattle.ksv_memo.specs.declared.frames.Frames.{Frames}
