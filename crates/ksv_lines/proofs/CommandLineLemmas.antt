-- The command that is built up by an option and two arguments, and what its matches are.
use Rattle.std.proofs.Common.{◌≡◌, ◌∙◌, ◌<◌, ℕ, zero, suc, List, [], ◌∷◌, true, false, true≢false, codes, ap, ap₂, refl, sym, Option, inl, inr, arith}
use Rattle.std.proofs.Common.{slice_index, slice_index_or}
use Rattle.std.specs.List.{All}
use Rattle.std.specs.Str.{bytes_eq}
use Rattle.clap.specs.Built.{AddsInTurn, FitsChain, HasDistinctIds, IsPlainArg}
use Rattle.clap.proofs.CallerLemmas.{required_in_chain}
use Rattle.clap.specs.Words.{args_of, groups_of, AddsArg, HasMatchesOf, Text, app_of, fault_of, first_of, first_value, found_of, is_simple, is_simple_and_free}
use Rattle.clap.specs.Words.{matches_of, new_app, with_rule}
use Rattle.clap.specs.declared.builder.arg.Arg.{Arg}
use Rattle.clap.specs.declared.builder.command.Command.{Command}
use Rattle.clap.specs.declared.builder.command.Command.TheViews.{out-Command as fields_of}
use Rattle.clap.specs.declared.parser.matches.ArgMatches.{ArgMatches}
use Rattle.clap.proofs.WalkLemmas.{first_value-rows}
use Rattle.clap.proofs.OnLiterals.{clap_on_literals}
use Rattle.ksv_lines.specs.Words.{Demands, IsDemanded, IsOption, explorer, found}

pub is_explorer : (start one two cmd : Command) (o f k : Arg) → app_of start ≡ new_app (codes "ksv")
    → AddsArg start o one → AddsArg one f two → AddsArg two k cmd
    → IsOption (codes "save") o → IsDemanded (codes "file") f → IsDemanded (codes "ksy") k → app_of cmd ≡ explorer
is_explorer start one two cmd o f k begins a b c save file ksy =
    c.shape ksy.local ∙ ap₂ with_rule (b.shape file.local ∙ ap₂ with_rule (a.shape save.local ∙ ap₂ with_rule begins save.rule) file.rule) ksy.rule

explorer_is_simple : is_simple explorer ≡ true
unfolding clap_on_literals
explorer_is_simple = refl

explorer_is_free : is_simple_and_free explorer ≡ true
unfolding clap_on_literals
explorer_is_free = refl

-- words that clap takes for this command have no fault
pub no_fault : (cmd : Command) (words : List Text) → app_of cmd ≡ explorer
    → (is_simple_and_free (app_of cmd) ≡ true → fault_of (app_of cmd) words ≡ []) → fault_of explorer words ≡ []
no_fault cmd words is has = ap (λ a. fault_of a words) (sym is) ∙ has (ap is_simple_and_free is ∙ explorer_is_free)

-- what a look-up of a name gives
pub value_is : (cmd : Command) (m : ArgMatches) (words : List Text) (id : Text) (r : Option Text) → app_of cmd ≡ explorer
    → HasMatchesOf (app_of cmd) words m → r ≡ first_value (found_of m) id → r ≡ found words id
value_is cmd m words id r is has got =
    got ∙ first_value-rows (found_of m) id
    ∙ ap (first_of id) ((has (ap is_simple is ∙ explorer_is_simple)).0 ∙ ap (λ a. matches_of a words) is)

-- an argument of a chain whose id begins with another letter than those of help and version
fit : (a : Arg) (t : Text) (n : ℕ) → a.id.now ≡ t → slice_index t 0 ≡ n → 0 < n → (n ≡ 104 → ⊥) → (n ≡ 118 → ⊥) → IsPlainArg a → a.global ≡ false → FitsChain a
fit a t n is first above not_help not_version plain local =
    let letter : slice_index a.id.now 0 ≡ n = ap (λ w. slice_index w 0) is ∙ first in (
      plain,
      local,
      (λ e. let zero_is : 0 ≡ n = sym (ap (λ w. slice_index w 0) e) ∙ letter in absurd (omega arith)),
      (λ auto. elim auto [
        | inl h ↦ not_help (sym letter ∙ ap (λ w. slice_index w 0) h)
        | inr h ↦ not_version (sym letter ∙ ap (λ w. slice_index w 0) h)
      ]),
    )

all_fit : (a b c : Arg) → FitsChain a → FitsChain b → FitsChain c → All FitsChain (a ∷ b ∷ c ∷ [])
all_fit a b c x y z zero d lt = x
all_fit a b c x y z (suc zero) d lt = y
all_fit a b c x y z (suc (suc zero)) d lt = z
all_fit a b c x y z (suc (suc (suc n))) d lt = absurd (omega arith)

-- the id at each place of the chain
id_at : ℕ → Text
id_at zero = codes "save"
id_at (suc zero) = codes "file"
id_at (suc (suc n)) = codes "ksy"

at_place : (o f k : Arg) → o.id.now ≡ codes "save" → f.id.now ≡ codes "file" → k.id.now ≡ codes "ksy"
    → (n : ℕ) (d : Arg) → n < 3 → (slice_index_or (o ∷ f ∷ k ∷ []) n d).id.now ≡ id_at n
unfolding id_at
at_place o f k x y z zero d lt = x
at_place o f k x y z (suc zero) d lt = y
at_place o f k x y z (suc (suc zero)) d lt = z
at_place o f k x y z (suc (suc (suc n))) d lt = absurd (omega arith)

ids_differ : (j k : ℕ) → j < 3 → k < 3 → bytes_eq (id_at j) (id_at k) ≡ true → j ≡ k
unfolding id_at
ids_differ zero zero lj lk same = refl
ids_differ zero (suc zero) lj lk same = absurd (true≢false (sym same))
ids_differ zero (suc (suc zero)) lj lk same = absurd (true≢false (sym same))
ids_differ (suc zero) zero lj lk same = absurd (true≢false (sym same))
ids_differ (suc zero) (suc zero) lj lk same = refl
ids_differ (suc zero) (suc (suc zero)) lj lk same = absurd (true≢false (sym same))
ids_differ (suc (suc zero)) zero lj lk same = absurd (true≢false (sym same))
ids_differ (suc (suc zero)) (suc zero) lj lk same = absurd (true≢false (sym same))
ids_differ (suc (suc zero)) (suc (suc zero)) lj lk same = refl
ids_differ (suc (suc (suc n))) k lj lk same = absurd (omega arith)
ids_differ zero (suc (suc (suc n))) lj lk same = absurd (omega arith)
ids_differ (suc zero) (suc (suc (suc n))) lj lk same = absurd (omega arith)
ids_differ (suc (suc zero)) (suc (suc (suc n))) lj lk same = absurd (omega arith)

distinct : (o f k : Arg) → o.id.now ≡ codes "save" → f.id.now ≡ codes "file" → k.id.now ≡ codes "ksy" → HasDistinctIds (o ∷ f ∷ k ∷ [])
distinct o f k x y z i j d e li lj same =
    ids_differ i j li lj (rw (at_place o f k x y z i e li, at_place o f k x y z j d lj) at same)

-- what building up the command by these three brings
pub record IsBuilt (start cmd : Command) (o f k : Arg) : Type 0 where
  pub chain : AddsInTurn AddsArg start (o ∷ f ∷ k ∷ []) cmd
  pub args : args_of start ≡ []
  pub groups : groups_of start ≡ []
  pub globals : (fields_of start).has_globals ≡ false
  pub negates : (fields_of start).subcommand_negates_reqs ≡ false
  pub save : IsOption (codes "save") o
  pub file : IsDemanded (codes "file") f
  pub ksy : IsDemanded (codes "ksy") k

fits_of : {start cmd : Command} (o f k : Arg) → IsBuilt start cmd o f k → All FitsChain (o ∷ f ∷ k ∷ [])
fits_of o f k b = all_fit o f k
    (fit o _ 115 b.save.id_is refl (omega arith) (λ e. omega arith) (λ e. omega arith) b.save.plain b.save.local)
    (fit f _ 102 b.file.id_is refl (omega arith) (λ e. omega arith) (λ e. omega arith) b.file.plain b.file.local)
    (fit k _ 107 b.ksy.id_is refl (omega arith) (λ e. omega arith) (λ e. omega arith) b.ksy.plain b.ksy.local)

pub demands_file : (start cmd : Command) (o f k : Arg) → IsBuilt start cmd o f k → Demands cmd (codes "file")
demands_file start cmd o f k b m p = rw (← b.file.id_is)
    (required_in_chain start cmd (o ∷ f ∷ k ∷ []) 1 f m b.chain b.args b.groups b.globals b.negates (fits_of o f k b)
    (distinct o f k b.save.id_is b.file.id_is b.ksy.id_is) (omega arith) b.file.takes p)

pub demands_ksy : (start cmd : Command) (o f k : Arg) → IsBuilt start cmd o f k → Demands cmd (codes "ksy")
demands_ksy start cmd o f k b m p = rw (← b.ksy.id_is)
    (required_in_chain start cmd (o ∷ f ∷ k ∷ []) 2 k m b.chain b.args b.groups b.globals b.negates (fits_of o f k b)
    (distinct o f k b.save.id_is b.file.id_is b.ksy.id_is) (omega arith) b.ksy.takes p)
