-- A chain of nodes, each of which asks the one before it, and its laws.
use Rattle.std.specs.Prelude.{◌≡◌, ℕ, ◌+◌, ◌-◌, ◌<◌, ◌≤◌, ◌^◌, List, [], ◌∷◌, length, Ok, Err, min, nat_eq, true, ◌==◌, if◌then◌else◌}
use Rattle.std.proofs.Common.{arith, refl, ap}
use Rattle.std.proofs.lemmas.Bool.Decides.{nat_tests}
use mathlib.Core.HLevel.{is_prop→PathP}
use native.Mathlib.Bridge.{le_prop}
use Rattle.ksv_bytes.specs.declared.uses.Use.TheVariants.{Size}
use Rattle.ksv_memo_rules.specs.declared.rules.Next.{Next}
use Rattle.ksv_memo_rules.specs.declared.rules.Next.TheVariants.{Need, Done}
use Rattle.ksv_memo_rules.specs.Meaning.{Meaning, IsLawful, IsDone}
use Rattle.ksv_test_engine.specs.declared.samples.link.Link.{Link}
use Rattle.ksv_test_engine.specs.Rows.{Reply}

-- the link before
pub before_small : (link : Link) → link.number - 1 < 2 ^ 32
before_small link = let small : link.number < 2 ^ 32 = link.small in omega arith

abbrev pub link_before : Link → Link
link_before link = record { number = link.number - 1; small = before_small link }

-- what a link does next: without replies link 0 answers the size, and each other link asks the one before it
abbrev pub linked : Link → ℕ → List Reply → Next Link Reply
linked link size [] = if link.number == 0 then Done (Ok size) else Need (link_before link)
linked link size (Ok n ∷ replies) = Done (Ok (min (n + 1) (2 ^ 32 - 1)))
linked link size (Err e ∷ replies) = Done (Err e)

-- what the chain means
abbrev pub chain_meaning : Meaning Link Reply
chain_meaning = record {
  follow = λ bytes link replies. linked link (length bytes) replies;
  added = λ bytes link replies. Size ∷ [];
  number = λ link. link.number;
  nodes = 2 ^ 32;
  replies = 1;
}

-- ---- the laws
pub same_link : (a b : Link) → a.number ≡ b.number → a ≡ b
same_link a b e = λ i. record { number = e i; small = is_prop→PathP (λ j. e j < 2 ^ 32) (λ j. le_prop) a.small b.small i }

pub same_if_equal : (a b : Link) → nat_eq a.number b.number ≡ true → a ≡ b
same_if_equal a b e = same_link a b (let same : a.number ≡ b.number = grind (arith, nat_tests) in same)

linked_done : (link : Link) (size : ℕ) (replies : List Reply) → 1 ≤ length replies → IsDone (linked link size replies)
linked_done link size [] le = absurd (omega arith)
linked_done link size (Ok n ∷ replies) le = tt
linked_done link size (Err e ∷ replies) le = tt

pub chain_lawful : IsLawful chain_meaning
chain_lawful = record {
  own_number = same_link;
  bounded = λ link. link.small;
  settles = λ bytes link replies le. linked_done link (length bytes) replies le;
  same_step = λ bytes others link replies agree. ap (λ size. linked link size replies) agree.0;
  same_uses = λ bytes others link replies agree. refl;
  can_use = λ bytes link replies. (tt, tt);
}
