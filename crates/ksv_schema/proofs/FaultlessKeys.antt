-- Without faults what is at each key is what it must be, and the rules of keys together hold.
use Rattle.ksv_schema.proofs.Common.{◌≡◌, ℕ, Bool, true, false, cond, List, [], ◌∷◌, ◌++◌, sym, ap, ◌∙◌, refl, Option, Some, None, codes, not, is_some}
use Rattle.ksv_schema.proofs.Common.{option_and_then, option_map_or, bytes_eq, not-false, Pair, line_of, text_of, mapping_of, entry_at, entries_at, text_at}
use Rattle.ksv_schema.proofs.Common.{Row, keys_of, is_bound, MappingKind, form_in, is_ignored, Fault, fault_if, missing_key, bad_value, form_faults}
use Rattle.ksv_schema.proofs.Common.{keys_faults, ruled_faults, type_faults}
use Rattle.std.specs.Prelude.{unwrap_or}
use Rattle.std.proofs.lemmas.Slice.Eq.{bytes_eq-Decides}
use Rattle.ksv_yaml_tree.specs.Keys.{says}
use Rattle.ksv_schema.specs.declared.keys.forms.Form.{Form}
use Rattle.ksv_schema.specs.declared.keys.forms.MappingKind.TheVariants as kinds
use Rattle.ksv_schema.specs.declared.keys.forms.Group.TheVariants as groups
use Rattle.ksv_schema.specs.Keys.{is_in}
use Rattle.ksv_schema.specs.KeyTexts.{TypeText}
use Rattle.ksv_schema.specs.Faults.{fault}
use Rattle.ksv_schema.specs.Rules.{key_faults, missing, Has, Says, Needs, claimed, rule_faults, together}
use Rattle.ksv_schema.specs.Description.{is_root, meta_faults, type_keys_faults}
use Rattle.ksv_schema.proofs.Good.{front, back, not_if, implies}

key_is : (kind : MappingKind) (p : Pair) (form : Form) → is_ignored p.key ≡ false → form_in kind p.key ≡ Some form → key_faults kind p ≡ form_faults p form
unfolding key_faults
key_is kind p form i f = rw (i, f)

at_key : (kind : MappingKind) (name : List ℕ) (form : Form) (es : List Pair) (p : Pair) → is_ignored name ≡ false → form_in kind name ≡ Some form
    → keys_faults kind es ≡ [] → entry_at name es ≡ Some p → form_faults p form ≡ []
at_key kind name form [] p i f k e = absurd cc
at_key kind name form (q ∷ es) p i f k e =
    by_test (bytes_eq q.key name) refl (front (key_faults kind q) (keys_faults kind es) k)
    (at_key kind name form es p i f (back (key_faults kind q) (keys_faults kind es) k))
  where
    by_test : (b : Bool) → bytes_eq q.key name ≡ b → key_faults kind q ≡ [] → (entry_at name es ≡ Some p → form_faults p form ≡ []) → form_faults p form ≡ []
    by_test true t here there =
        let same : q.key ≡ name = (bytes_eq-Decides q.key name).0 t in
        let first : Some q ≡ Some p = sym (ap (λ (b : Bool). cond b (Some q) (entry_at name es)) t) ∙ e in
        let is : q ≡ p = cc in
        ap (λ (q : Pair). form_faults q form) (sym is) ∙ sym (key_is kind q form (ap is_ignored same ∙ i) (ap (form_in kind) same ∙ f)) ∙ here
    by_test false t here there = there (sym (ap (λ (b : Bool). cond b (Some q) (entry_at name es)) t) ∙ e)

-- the text at a key whose form allows certain texts alone
abbrev pub text_unless : (List ℕ → Bool) → ℕ → Pair → List Fault
text_unless fits number p = option_map_or (λ text. fault_if (not (fits text)) p.line number) (text_of p.value) (fault p.line bad_value)

pub text_fits : (kind : MappingKind) (name : List ℕ) (form : Form) (fits : List ℕ → Bool) (number : ℕ) (es : List Pair) (text : List ℕ)
    → ((p : Pair) → form_faults p form ≡ text_unless fits number p) → is_ignored name ≡ false → form_in kind name ≡ Some form → keys_faults kind es ≡ []
    → text_at name es ≡ Some text → fits text ≡ true
text_fits kind name form fits number es text a i f k t =
    let p = is_bound (λ p. text_of p.value) (entry_at name es) text t in
    let n : text_unless fits number p.0 ≡ [] = sym (a p.0) ∙ at_key kind name form es p.0 i f k p.1 in
    not-false (fits text) (not_if (not (fits text)) p.0.line number (rw p.2 at n))

-- the keys at a type's `meta`
pub meta_faultless : (n : ℕ) (r : Row) → type_faults n r ≡ []
    → keys_faults (cond (is_root n) kinds.RootMeta kinds.Meta) (entries_at (codes "meta") (keys_of r)) ≡ []
unfolding type_faults type_keys_faults meta_faults
meta_faultless n r k = at_type (mapping_of r.value) (front _ _ k)
  where
    in_meta : (line : ℕ) (b : Bool) (o : Option (List Pair))
        → option_map_or (λ es. cond b (keys_faults kinds.RootMeta es ++ missing (codes "id") line es) (keys_faults kinds.Meta es)) o [] ≡ []
        → keys_faults (cond b kinds.RootMeta kinds.Meta) (unwrap_or o []) ≡ []
    in_meta line b None k = refl
    in_meta line true (Some es) k = front _ _ k
    in_meta line false (Some es) k = k

    at_meta : (o : Option Pair) → option_map_or (meta_faults n) o [] ≡ []
        → keys_faults (cond (is_root n) kinds.RootMeta kinds.Meta) (unwrap_or (option_and_then (λ p. mapping_of p.value) o) []) ≡ []
    at_meta None k = refl
    at_meta (Some p) k = in_meta (line_of p.value) (is_root n) (mapping_of p.value) k

    at_type : (o : Option (List Pair)) → option_map_or (type_keys_faults n r.line) o (fault r.line bad_value) ≡ []
        → keys_faults (cond (is_root n) kinds.RootMeta kinds.Meta) (entries_at (codes "meta") (unwrap_or o [])) ≡ []
    at_type None k = refl
    at_type (Some es) k = at_meta (entry_at (codes "meta") es) (back _ _ k)

-- ---- how often it is read

-- a key that is needed where `repeat` has a text
needed : (typed : Option TypeText) (text name : List ℕ) (es : List Pair) (line : ℕ)
    → rule_faults line typed es (Needs (Says (codes "repeat") text) (Has name)) ≡ [] → says (codes "repeat") text es ≡ true
    → is_some (entry_at name es) ≡ true
needed typed text name es line k e = implies (is_some (claimed typed es (Says (codes "repeat") text))) (is_some (entry_at name es)) line missing_key k
    (rw e (go (entry_at (codes "repeat") es) e))
  where
    go : (o : Option Pair) → option_map_or (bytes_eq text) (option_and_then (λ p. text_of p.value) o) false ≡ true → is_some o ≡ true
    go None e = absurd cc
    go (Some p) e = refl

-- what `repeat` needs is there
pub record HasRepeat (es : List Pair) : Type 0 where
  pub count : says (codes "repeat") (codes "expr") es ≡ true → is_some (entry_at (codes "repeat-expr") es) ≡ true
  pub until : says (codes "repeat") (codes "until") es ≡ true → is_some (entry_at (codes "repeat-until") es) ≡ true

pub has_repeat : (kind : MappingKind) (line : ℕ) (typed : Option TypeText) (es : List Pair) → is_in groups.Read kind ≡ true → together kind line typed es ≡ []
    → HasRepeat es
unfolding together ruled_faults
has_repeat kind line typed es b k = record {
  count = needed typed (codes "expr") (codes "repeat-expr") es line (read _ (front _ _ k));
  until = needed typed (codes "until") (codes "repeat-until") es line (read _ (front _ _ (back _ _ k)));
}
  where
    read : (fs : List Fault) → cond (is_in groups.Read kind) fs [] ≡ [] → fs ≡ []
    read fs n = sym (ap (λ (b : Bool). cond b fs []) b) ∙ n
