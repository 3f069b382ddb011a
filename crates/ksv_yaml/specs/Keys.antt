-- The keys that a set holds.
use Rattle.std.specs.Prelude.{◌≡◌, ℕ, List, Vec}
use Rattle.std.specs.HashSet.{HashSet, contains}
use Rattle.std.specs.Str.{bytes_eq}
use Rattle.std.specs.declared.alloc.Global.{Global}
use Rattle.ksv_yaml.specs.Reading.{is_among}

-- The set has these keys and no others.
pub record HoldsKeys {S : Type 0} (keys : HashSet (Vec ℕ Global) S) (seen : List (List ℕ)) : Type 0 where
  pub has : (key : Vec ℕ Global) → contains (λ a b. bytes_eq a.items b.items) keys key ≡ is_among key.items seen
