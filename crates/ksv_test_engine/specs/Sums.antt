-- Sums of the first bytes of a file, each of which asks the one before it, and their laws; and the sequence of these sums.
use Rattle.std.specs.Prelude.{◌≡◌, ℕ, zero, suc, ◌+◌, ◌-◌, ◌<◌, ◌≤◌, ◌^◌, List, [], ◌∷◌, length, slice_get, Option, Some, None, IfSome, Ok, Err, min}
use Rattle.std.specs.Prelude.{◌==◌, if◌then◌else◌}
use Rattle.std.specs.List.{AllByRecursion}
use Rattle.std.proofs.Common.{arith, refl, ap, get_or}
use Rattle.ksv_bytes.specs.Uses.{AgreeOn, CanUse}
use Rattle.ksv_bytes.specs.declared.uses.Use.{Use}
use Rattle.ksv_bytes.specs.declared.uses.Use.TheVariants.{Bytes}
use Rattle.ksv_memo_rules.specs.Entry.{Entry}
use Rattle.ksv_memo_rules.specs.Folds.{Fold, IsLaid, named_in}
use Rattle.ksv_memo_rules.specs.Meaning.{Meaning, IsLawful, IsDone}
use Rattle.ksv_memo_rules.specs.declared.rules.Next.{Next}
use Rattle.ksv_memo_rules.specs.declared.rules.Next.TheVariants.{Need, Done}
use Rattle.ksv_test_engine.specs.Chain.{link_before, same_link}
use Rattle.ksv_test_engine.specs.Rows.{Reply, read_uses, read_same, read_can}
use Rattle.ksv_test_engine.specs.declared.samples.link.Link.{Link}
use Rattle.ksv_test_engine.specs.declared.samples.sum_list.SumList.{SumList}

-- a sum with the next byte, which is missing where it is 255
abbrev pub summed : ℕ → ℕ → Reply
summed sum b = if b == 255 then Err (record {}) else Ok (min (sum + b) (2 ^ 32 - 1))

-- a sum with the byte behind what it is of
abbrev pub with_byte : ℕ → Option ℕ → Reply
with_byte sum None = Err (record {})
with_byte sum (Some b) = summed sum b

-- the sum that an answer is, or 0 where a byte is missing
abbrev pub so_far : Reply → ℕ
so_far (Ok sum) = sum
so_far (Err e) = 0

-- what a link answers, if the one before it answers this
abbrev pub added_to : Option ℕ → Reply → Reply
added_to byte reply = with_byte (so_far reply) byte

-- what a link does next: without replies link 0 answers 0, and each other link asks the one before it
abbrev pub next_of : Link → Option ℕ → List Reply → Next Link Reply
next_of link byte [] = if link.number == 0 then Done (Ok 0) else Need (link_before link)
next_of link byte (reply ∷ replies) = Done (added_to byte reply)

-- the byte is read once there is an answer before it
abbrev pub sum_uses : ℕ → Option ℕ → List Reply → List Use
sum_uses place byte [] = []
sum_uses place byte (reply ∷ replies) = read_uses place byte

-- what the sums mean
abbrev pub sums_meaning : Meaning Link Reply
sums_meaning = record {
  follow = λ bytes link replies. next_of link (slice_get bytes (link.number - 1)) replies;
  added = λ bytes link replies. sum_uses (link.number - 1) (slice_get bytes (link.number - 1)) replies;
  number = λ link. link.number;
  nodes = 2 ^ 32;
  replies = 1;
}

-- what a link answers: the sum of so many bytes from the last that is missing on
abbrev pub sum_of : List ℕ → ℕ → Reply
sum_of bytes zero = Ok 0
sum_of bytes (suc n) = added_to (slice_get bytes n) (sum_of bytes n)

-- ---- the sequence

-- the number of the link of an entry; an engine can't have so many that it is another
abbrev pub number_at : ℕ → ℕ
number_at j = min (suc j) (2 ^ 32 - 1)

pub at_small : (j : ℕ) → number_at j < 2 ^ 32
at_small j = omega arith

abbrev pub link_at : ℕ → Link
link_at j = record { number = number_at j; small = at_small j }

-- the entry that an entry names, which is the one before it
abbrev pub prior_of : ℕ → Option ℕ
prior_of zero = None
prior_of (suc j) = Some j

abbrev pub asked_at : Link → ℕ → Link
asked_at root zero = root
asked_at root (suc j) = link_at j

abbrev pub entry_of : SumList → ℕ → Entry Link Reply
entry_of s j = record { node = link_at j; answer = get_or s.sums.items j (Ok 0); asked = asked_at s.root j ∷ []; uses = Bytes j (number_at j) ∷ [] }

abbrev pub fold_of : SumList → Fold Link Reply
fold_of s = record { root = s.root; size = length s.sums.items; entry = entry_of s; prior = prior_of; whole = number_at; calls = λ j. 2 }

-- so many of the first answers are those of these bytes
abbrev pub AreSums : List ℕ → List Reply → ℕ → Type 0
AreSums bytes sums count = (j : ℕ) → j < count → sum_of bytes (suc j) ≡ get_or sums j (Ok 0)

-- the sum before one of a number
abbrev pub sum_before : List Reply → ℕ → ℕ
sum_before sums zero = 0
sum_before sums (suc j) = so_far (get_or sums j (Ok 0))

-- ---- the laws
summed_done : (link : Link) (byte : Option ℕ) (replies : List Reply) → 1 ≤ length replies → IsDone (next_of link byte replies)
summed_done link byte [] le = absurd (omega arith)
summed_done link byte (reply ∷ replies) le = tt

step_same : (bytes others : List ℕ) (link : Link) (place : ℕ) (replies : List Reply)
    → AllByRecursion (AgreeOn bytes others) (sum_uses place (slice_get bytes place) replies)
    → next_of link (slice_get others place) replies ≡ next_of link (slice_get bytes place) replies
step_same bytes others link place [] agree = refl
step_same bytes others link place (reply ∷ replies) agree =
    ap (λ byte. Done (with_byte (so_far reply) byte)) (read_same bytes others place (slice_get bytes place) refl agree)

uses_same : (bytes others : List ℕ) (place : ℕ) (replies : List Reply)
    → AllByRecursion (AgreeOn bytes others) (sum_uses place (slice_get bytes place) replies)
    → sum_uses place (slice_get others place) replies ≡ sum_uses place (slice_get bytes place) replies
uses_same bytes others place [] agree = refl
uses_same bytes others place (reply ∷ replies) agree = ap (read_uses place) (read_same bytes others place (slice_get bytes place) refl agree)

uses_can : (bytes : List ℕ) (place : ℕ) (replies : List Reply) → AllByRecursion (CanUse bytes) (sum_uses place (slice_get bytes place) replies)
uses_can bytes place [] = tt
uses_can bytes place (reply ∷ replies) = read_can bytes place (slice_get bytes place) refl

pub sums_lawful : IsLawful sums_meaning
sums_lawful = record {
  own_number = same_link;
  bounded = λ link. link.small;
  settles = λ bytes link replies le. summed_done link (slice_get bytes (link.number - 1)) replies le;
  same_step = λ bytes others link replies agree. step_same bytes others link (link.number - 1) replies agree;
  same_uses = λ bytes others link replies agree. uses_same bytes others (link.number - 1) replies agree;
  can_use = λ bytes link replies. uses_can bytes (link.number - 1) replies;
}

-- ---- the sequence names each node once, and in each entry the one before it
named_before : (s : SumList) (j : ℕ) → (entry_of s j).asked ≡ named_in (fold_of s) (prior_of j) ∷ []
named_before s zero = refl
named_before s (suc j) = refl

earlier : (j : ℕ) → IfSome (prior_of j) (λ i. i < j)
earlier zero = tt
earlier (suc j) = omega arith

own_place : (s : SumList) (i j : ℕ) → i < length s.sums.items → j < length s.sums.items → link_at i ≡ link_at j → i ≡ j
own_place s i j low less same =
    let few : length s.sums.items < 2 ^ 32 = s.few in let e : number_at i ≡ number_at j = ap (λ (l : Link). l.number) same in omega arith

no_root : (s : SumList) (j : ℕ) → link_at j ≡ s.root → ⊥
no_root s j same =
    let first : s.root.number ≡ 0 = s.first in let e : number_at j ≡ s.root.number = ap (λ (l : Link). l.number) same in omega arith

pub sums_laid : (s : SumList) → IsLaid (fold_of s)
sums_laid s = record {
  once = own_place s;
  apart = λ j low same. no_root s j same;
  named = named_before s;
  earlier = λ j low. earlier j;
  whole = λ j low. (omega arith, (let few : length s.sums.items < 2 ^ 32 = s.few in omega arith));
}
