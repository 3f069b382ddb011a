-- Links that ask none, and answer the size of the file; and their laws.
use Rattle.std.specs.Prelude.{ℕ, ◌^◌, List, [], ◌∷◌, length, Ok}
use Rattle.std.proofs.Common.{ap, refl}
use Rattle.ksv_bytes.specs.declared.uses.Use.TheVariants.{Size}
use Rattle.ksv_memo_rules.specs.declared.rules.Next.TheVariants.{Done}
use Rattle.ksv_memo_rules.specs.Meaning.{Meaning, IsLawful}
use Rattle.ksv_test_engine.specs.Chain.{same_link}
use Rattle.ksv_test_engine.specs.Rows.{Reply}
use Rattle.ksv_test_engine.specs.declared.samples.link.Link.{Link}

-- what they mean
abbrev pub leaves_meaning : Meaning Link Reply
leaves_meaning = record {
  follow = λ bytes link replies. Done (Ok (length bytes));
  added = λ bytes link replies. Size ∷ [];
  number = λ link. link.number;
  nodes = 2 ^ 32;
  replies = 0;
}

pub leaves_lawful : IsLawful leaves_meaning
leaves_lawful = record {
  own_number = same_link;
  bounded = λ link. link.small;
  settles = λ bytes link replies le. tt;
  same_step = λ bytes others link replies agree. ap (λ (size : ℕ). Done (Ok size)) agree.0;
  same_uses = λ bytes others link replies agree. refl;
  can_use = λ bytes link replies. (tt, tt);
}
