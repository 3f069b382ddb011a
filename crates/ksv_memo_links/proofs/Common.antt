-- What many proofs of this crate name, of its definitions and of other crates.
pub use Rattle.std.proofs.Common.{◌≡◌, ◌≢◌, ◌⊎◌, inl, inr, ℕ, zero, suc, ◌+◌, ◌-◌, ◌<◌, ◌≤◌, List, length, refl, sym, ◌∙◌, ap, subst, arith, [], take, set}
pub use Rattle.std.proofs.Common.{Bool, true, false, cond, eqb, ◌*◌, max, min, ◌∷◌, map, get_or, Contains, true≢false, sum_by, count_by, nat_lt, ◌++◌}
pub use Rattle.std.proofs.Common.{replicate, ◌/◌}
pub use Rattle.std.proofs.lemmas.Bool.{cases_lt}
pub use Rattle.std.proofs.lemmas.Bool.Decides.{eqb_tells}
pub use Rattle.std.proofs.lemmas.List.{set-set, take_all, get_or_default, get_or_past, get_or-set_same, get_or-set_other, append-nil, map-append, length-append}
pub use Rattle.std.proofs.lemmas.List.{length-set, set-get_or, get_or_append_left, length-map, get_or-map, get_or_read}
pub use Rattle.std.proofs.lemmas.List.Elements.{Contains-append_left, Contains-append_right, Contains-push}
pub use Rattle.std.proofs.lemmas.List.Sums.{sum_by-cons, sum_by-set}
pub use Rattle.std.proofs.lemmas.Grind.{common_steps}
pub use Rattle.std.specs.List.{AllPairs}
pub use Rattle.ksv_bytes.specs.declared.uses.Change.{Change}
pub use Rattle.ksv_bytes.specs.declared.uses.Use.{Use}
pub use Rattle.ksv_bytes.specs.declared.uses.Use.TheVariants.{Bytes}
pub use Rattle.ksv_memo_links.specs.Chained.{entry_at, first_at, hop, IsChain, IsListed, block_at, lists_in, named_of, IsLive, IsChained, Chained, IsFree}
pub use Rattle.ksv_memo_links.specs.Forgetting.{Cause, SameLinks, MarksMore, Why, HitsRows, Spreads, looks, sizes, HitsRow, IsShaped, HitsUsers}
pub use Rattle.ksv_memo_links.specs.Linked.{one_if, item_at, naming, at}
pub use Rattle.ksv_memo_links.specs.Links.{first_page, end_page}
pub use Rattle.ksv_memo_links.specs.Marking.{is_kept, IsMarking}
pub use Rattle.ksv_memo_links.specs.Placed.{lists_of_uses, end_lists, page_lists, list_of_page, uses_of}
pub use Rattle.ksv_memo_links.specs.Shelved.{row, pop_row, push_row, HasSameRows}
pub use Rattle.ksv_memo_links.specs.Touching.{pages_in, ends_in, numbers_from, farthest}
pub use Rattle.ksv_memo_links.specs.declared.blocks.Block.{Block}
pub use Rattle.ksv_memo_links.specs.declared.blocks.Entry.{Entry}
pub use Rattle.ksv_memo_links.specs.declared.blocks.Item.{Item}
pub use Rattle.ksv_memo_links.specs.declared.parts.Parts.{Parts}
