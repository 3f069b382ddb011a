use Rattle.ksv_yaml_scan.proofs.Common.{◌≡◌, ℕ, List, ◌∷◌, Bool, false, ap, sym, ◌∙◌, ◌==◌, ◌&&◌, white_or_end}
use Rattle.ksv_yaml_scan.specs.Starts.{start_of, is_dash}
use Rattle.std.proofs.lemmas.Bool.{and_left}
use Rattle.ksv_yaml_scan.proofs.Choices.{same_byte, other_byte}
use Rattle.ksv_yaml_scan.proofs.Starts.{dash_at}
use Rattle.ksv_yaml_scan.proofs.start.is_dash.Goals as goal

-- a dash, and what comes after it
behind_dash : (cs rest : List ℕ) (c : ℕ) (b : Bool) → cs ≡ c ∷ rest → c ≡ 45 → b ≡ white_or_end rest → b ≡ is_dash (start_of cs)
behind_dash cs rest c b e h w =
    sym (ap (λ (cs : List ℕ). is_dash (start_of cs)) e ∙ dash_at c rest b (ap (λ (d : Bool). d && white_or_end rest) (same_byte c 45 h) ∙ sym w))

no_dash : (cs rest : List ℕ) (c : ℕ) → cs ≡ c ∷ rest → (c ≡ 45 → ⊥) → (c == 45) ≡ is_dash (start_of cs)
no_dash cs rest c e h =
    other_byte c 45 h ∙ sym
    (ap (λ (cs : List ℕ). is_dash (start_of cs)) e ∙ dash_at c rest false (and_left (c == 45) (white_or_end rest) (other_byte c 45 h)))

pub returns-then-byte-eq45 : goal.returns-then-byte-eq45
returns-then-byte-eq45 c = behind_dash c.args.content.now c.in-Some.rest.now c.in-Some.byte c.is_white_or_end.result c.in-Some.ensures c.if-byte-eq45.true
    c.is_white_or_end.ensures

pub returns-else-byte-eq45 : goal.returns-else-byte-eq45
returns-else-byte-eq45 c = no_dash c.args.content.now c.in-Some.rest.now c.in-Some.byte c.in-Some.ensures c.if-byte-eq45.false
