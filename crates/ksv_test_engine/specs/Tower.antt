-- A tower of links, of which the lowest alone reads the file: its size and its first byte. And its laws.
use Rattle.std.specs.Prelude.{◌≡◌, ℕ, ◌^◌, ◌≤◌, ◌==◌, Bool, true, false, List, [], ◌∷◌, length, Ok, Err, if◌then◌else◌}
use Rattle.std.specs.List.{AllByRecursion}
use Rattle.std.proofs.Common.{arith, refl, ap}
use Rattle.std.proofs.lemmas.Bool.Decides.{nat_tests}
use Rattle.ksv_bytes.specs.Uses.{AgreeOn, CanUse}
use Rattle.ksv_bytes.specs.declared.uses.Use.{Use}
use Rattle.ksv_bytes.specs.declared.uses.Use.TheVariants.{Bytes, Size}
use Rattle.ksv_memo_rules.specs.declared.rules.Next.{Next}
use Rattle.ksv_memo_rules.specs.declared.rules.Next.TheVariants.{Done}
use Rattle.ksv_memo_rules.specs.Meaning.{Meaning, IsLawful}
use Rattle.ksv_test_engine.specs.Chain.{chain_lawful, linked}
use Rattle.ksv_test_engine.specs.Rows.{Reply}
use Rattle.ksv_test_engine.specs.declared.samples.link.Link.{Link}

-- the first byte of a file that may be empty
abbrev pub first_byte : Bool → List Use
first_byte true = []
first_byte false = Bytes 0 1 ∷ []

-- what a link reads: the size and the first byte, if it is the lowest
abbrev pub read_by : Bool → Bool → List Use
read_by true empty = Size ∷ first_byte empty
read_by false empty = []

-- what the tower means: each link does what it does in a chain
abbrev pub tower_meaning : Meaning Link Reply
tower_meaning = record {
  follow = λ bytes link replies. linked link (length bytes) replies;
  added = λ bytes link replies. read_by (link.number == 0) (length bytes == 0);
  number = λ link. link.number;
  nodes = 2 ^ 32;
  replies = 1;
}

-- ---- the laws
begins_same : (lowest : Bool) (needed : Next Link Reply) (bytes others : List ℕ) → AllByRecursion (AgreeOn bytes others) (read_by lowest (length bytes == 0)) → (if lowest then Done (Ok (length others)) else needed) ≡ (if lowest then Done (Ok (length bytes)) else needed)
begins_same true needed bytes others agree = ap (λ size. Done (Ok size)) agree.0
begins_same false needed bytes others agree = refl

reads_same : (lowest : Bool) (bytes others : List ℕ) → AllByRecursion (AgreeOn bytes others) (read_by lowest (length bytes == 0)) → read_by lowest (length others == 0) ≡ read_by lowest (length bytes == 0)
reads_same true bytes others agree = ap (λ (size : ℕ). read_by true (size == 0)) agree.0
reads_same false bytes others agree = refl

first_is_there : (bytes : List ℕ) (empty : Bool) → (length bytes == 0) ≡ empty → AllByRecursion (CanUse bytes) (first_byte empty)
first_is_there bytes true is = tt
first_is_there bytes false is = let one : 1 ≤ length bytes = grind (arith, nat_tests) in ((omega arith, one), tt)

reads_what_is_there : (lowest : Bool) (bytes : List ℕ) → AllByRecursion (CanUse bytes) (read_by lowest (length bytes == 0))
reads_what_is_there true bytes = (tt, first_is_there bytes (length bytes == 0) refl)
reads_what_is_there false bytes = tt

goes_on_same : (bytes others : List ℕ) (link : Link) (replies : List Reply) → AllByRecursion (AgreeOn bytes others) (read_by (link.number == 0) (length bytes == 0)) → linked link (length others) replies ≡ linked link (length bytes) replies
goes_on_same bytes others link [] agree = begins_same (link.number == 0) _ bytes others agree
goes_on_same bytes others link (Ok n ∷ replies) agree = refl
goes_on_same bytes others link (Err e ∷ replies) agree = refl

pub tower_lawful : IsLawful tower_meaning
tower_lawful = record {
  own_number = chain_lawful.own_number;
  bounded = chain_lawful.bounded;
  settles = chain_lawful.settles;
  same_step = goes_on_same;
  same_uses = λ bytes others link replies agree. reads_same (link.number == 0) bytes others agree;
  can_use = λ bytes link replies. reads_what_is_there (link.number == 0) bytes;
}
