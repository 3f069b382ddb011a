-- Names that are looked up.
use Rattle.std.proofs.Common.{inl, inr}
use Rattle.std.proofs.lemmas.Bool.{cases_Bool}
use Rattle.ksv_schema_names.proofs.Common.{◌≡◌, ◌∙◌, ap, sym, refl, ℕ, zero, suc, ◌+◌, ◌<◌, Bool, false, cond, length, List, [], ◌∷◌, ◌++◌, map, Option}
use Rattle.ksv_schema_names.proofs.Common.{Some, arith, find, option_map_or, Row, member_of}
use Rattle.std.proofs.Common.{append_assoc}
use Rattle.std.specs.Prelude.{filter, count_by}
use Rattle.std.proofs.lemmas.List.{append-nil, map-append}
use Rattle.std.proofs.lemmas.List.Sums.{length-filter}
use Rattle.ksv_schema_names.specs.declared.members.Member.{Member as MemberOfCode}
use Rattle.ksv_schema_names.specs.Members.{is_in_params, is_parameter}
use Rattle.ksv_schema_names.specs.Types.{outer_of, around, enum_behind, enum_from}

-- the last name of a path is that of the enum
last_name : (types enums : List Row) (n : ℕ) (before path : List (List ℕ)) (name : List ℕ)
    → enum_from types enums n before (path ++ name ∷ []) ≡ enum_behind types enums n (before ++ path) name
last_name types enums n before [] name = ap (λ (p : List (List ℕ)). enum_behind types enums n p name) (sym (append-nil before))
last_name types enums n before (first ∷ []) name = refl
last_name types enums n before (first ∷ next ∷ path) name =
    last_name types enums n (before ++ first ∷ []) (next ∷ path) name
    ∙ ap (λ (p : List (List ℕ)). enum_behind types enums n p name) (append_assoc before (first ∷ []) (next ∷ path))

pub last_named : {S : Type 0} (see : S → List ℕ) (types enums : List Row) (n : ℕ) (path before : List S) (last : S) → path ≡ before ++ last ∷ []
    → enum_from types enums n [] (map see path) ≡ enum_behind types enums n (map see before) (see last)
last_named see types enums n path before last is =
    rw (is, map-append see before (last ∷ [])) (last_name types enums n [] (map see before) (see last))

-- one type further outwards
pub further : (types : List Row) (p : ℕ → Bool) (left step size at m : ℕ) (whole : Option ℕ) → left + step ≡ size → step < size → false ≡ p at
    → Some m ≡ outer_of types at → find p (around left types at) ≡ whole
    → (k : ℕ) × (k + (step + 1) ≡ size) × (find p (around k types m) ≡ whole)
further types p zero step size at m whole e lt not_here out h = absurd (omega arith)
further types p (suc k) step size at m whole e lt not_here out h = (
  k,
  omega arith,
  ap (λ (o : Option ℕ). find p (option_map_or (around k types) o [])) out
      ∙ ap (λ (b : Bool). cond b (Some at) (find p (option_map_or (around k types) (outer_of types at) []))) not_here ∙ h,
)

-- ---- members of a type

as_many : (ms : List MemberOfCode) → length (filter (λ (m : MemberOfCode). is_in_params m.role) ms) ≡ length (filter is_parameter (map member_of ms))
as_many [] = refl
as_many (m ∷ ms) = elim (cases_Bool (is_in_params m.role)) [ inl e ↦ rw e (ap suc (as_many ms)) | inr e ↦ rw e (as_many ms) ]

pub parameters_counted : (ms : List MemberOfCode) → count_by (λ m. is_in_params m.role) ms ≡ length (filter is_parameter (map member_of ms))
parameters_counted ms = sym (length-filter (λ m. is_in_params m.role) ms) ∙ as_many ms
