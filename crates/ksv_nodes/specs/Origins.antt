-- Optional origins in the room of one: an origin in a type of the greatest number means none. This layout is this project's own.
use Rattle.std.specs.Prelude.{◌≡◌, ◌==◌, Bool, true, false, Option, Some, None, if◌then◌else◌, refl}
use Rattle.std.proofs.Common.{sym}
use Rattle.std.proofs.lemmas.Bool.{eqb-true}
use Rattle.ksv_nodes.specs.declared.given.Origin.{Origin}

-- what an origin means
abbrev pub optional_of : Origin → Option Origin
optional_of g = if g.member.type_number == 4294967295 then None else Some g

-- the origin that means it
abbrev pub origin_for : Option Origin → Origin
origin_for None = record { member = record { type_number = 4294967295; member = 0 }; case = None; home = record { from = 0; to = None } }
origin_for (Some g) = g

-- no other means none
abbrev pub IsOne : Origin → Type 0
IsOne g = g.member.type_number ≡ 4294967295 → g ≡ origin_for None

-- what an origin means is meant by that origin (a lemma, which a reader may skip)
pub origin_back : (g : Origin) → IsOne g → origin_for (optional_of g) ≡ g
origin_back g one = by (g.member.type_number == 4294967295) refl
  where
    by : (b : Bool) → (g.member.type_number == 4294967295) ≡ b → origin_for (if b then None else Some g) ≡ g
    by true e = sym (one (eqb-true g.member.type_number 4294967295 e))
    by false e = refl
