-- What the steps of a reader's code say in the words of its contract.
use Rattle.ksv_yaml.proofs.Common.{◌≡◌, ℕ, Bool, true, false, List, [], ◌∷◌, ◌++◌, length, arith, map, Option, None, refl, sym, ap, subst, ◌∙◌, ◌==◌, Tree}
use Rattle.ksv_yaml.proofs.Common.{Pair, view, pair, is_among, keys_of, HoldsKeys, Got, tokens_view}
use Rattle.std.proofs.Common.{Result, Ok, Err}
use Rattle.std.proofs.lemmas.List.{map_push}
use Rattle.std.specs.Prelude.{not, Vec}
use Rattle.std.specs.HashSet.{HashSet}
use Rattle.std.specs.declared.alloc.Global.{Global}
use Rattle.std.specs.Borrow.{Bor}
use Rattle.ksv_yaml.specs.declared.fault.ReadFault.{ReadFault}
use Rattle.ksv_yaml_tree.specs.declared.tree.Yaml.{Yaml}
use Rattle.ksv_yaml_tree.specs.declared.tree.Entry.{Entry}
use Rattle.ksv_yaml.specs.Code.{Fails, Gives}
use Rattle.ksv_yaml.proofs.Joins.{keys_push}
use Rattle.ksv_yaml_scan.specs.declared.flow.Token.{Token as CodeToken}
use Rattle.ksv_yaml_scan.specs.declared.flow.Part.{Part}
use Rattle.ksv_yaml_scan.specs.Views.{part_view}

-- what a callee's failure says of its caller
pub fails_on : {L K A B : Type 0} (P : Option (Got L A) → Type 0) (Q : Option (Got K B) → Type 0) (e : ReadFault) → (P None → Q None) → Fails P e → Fails Q e
fails_on P Q e f h w = f (h w)

-- what a callee's answer says of its caller
pub gives_on : {X C L A : Type 0} (P Q : Option (Got L A) → Type 0) (see : X → A) (seen : List C → List L) (r : Result (X × Bor (List C)) ReadFault)
    → ((o : Option (Got L A)) → P o → Q o) → Gives P see seen r → Gives Q see seen r
gives_on P Q see seen (Ok x) f h = f _ h
gives_on P Q see seen (Err e) f h = λ w. f None (h w)

-- a key that isn't new is among those of the entries
pub key_tells : (key : List ℕ) (es : List Entry) (fresh b : Bool) → fresh ≡ not (is_among key (keys_of (map pair es))) → fresh ≡ b
    → is_among key (keys_of (map pair es)) ≡ not b
key_tells key es fresh b h e = turned (is_among key (keys_of (map pair es))) fresh b h e
  where
    turned : (a f b : Bool) → f ≡ not a → f ≡ b → a ≡ not b
    turned true f b h e = let g : false ≡ b = sym h ∙ e in ap not g
    turned false f b h e = let g : true ≡ b = sym h ∙ e in ap not g

-- the same where the key was lent
pub own_key_tells : (lent key : List ℕ) (es : List Entry) (fresh b : Bool) → fresh ≡ not (is_among lent (keys_of (map pair es))) → lent ≡ key → fresh ≡ b
    → is_among key (keys_of (map pair es)) ≡ not b
own_key_tells lent key es fresh b h k e = ap (λ (j : List ℕ). is_among j (keys_of (map pair es))) (sym k) ∙ key_tells lent es fresh b h e

-- a set that holds no keys holds those of no entries
pub keys_none : {S : Type 0} (keys : HashSet (Vec ℕ Global) S) (es : List Entry) → es ≡ [] → HoldsKeys keys [] → HoldsKeys keys (keys_of (map pair es))
keys_none keys es e h = subst (λ (es : List Entry). HoldsKeys keys (keys_of (map pair es))) (sym e) h

-- the keys of one entry more
pub keys_hold : {S : Type 0} (keys : HashSet (Vec ℕ Global) S) (so_far all : List Pair) (p : Pair) (lent : List ℕ) → all ≡ so_far ++ p ∷ [] → lent ≡ p.key
    → HoldsKeys keys (keys_of so_far ++ lent ∷ []) → HoldsKeys keys (keys_of all)
keys_hold keys so_far all p lent z k h = subst (λ (ks : List (List ℕ)). HoldsKeys keys ks)
    (ap (λ (j : List ℕ). keys_of so_far ++ j ∷ []) k ∙ sym (keys_push so_far p) ∙ ap keys_of (sym z)) h

-- one more item
pub pushed_item : (all so_far : List Yaml) (y : Yaml) → all ≡ so_far ++ y ∷ [] → map view all ≡ map view so_far ++ view y ∷ []
pushed_item all so_far y e = ap (map view) e ∙ map_push view so_far y

-- one more entry
pub pushed_entry : (all so_far : List Entry) (e : Entry) (line : ℕ) (copy key : List ℕ) (t : Tree) → all ≡ so_far ++ e ∷ []
    → pair e ≡ record { line = line; key = copy; value = t } → copy ≡ key
    → map pair all ≡ map pair so_far ++ record { line = line; key = key; value = t } ∷ []
pushed_entry all so_far e line copy key t h made same =
    let p : List ℕ → Pair = λ k. record { line = line; key = k; value = t } in
    ap (map pair) h ∙ map_push pair so_far e ∙ ap (λ (q : Pair). map pair so_far ++ q ∷ []) (made ∙ ap p same)

-- the part at the front
pub front_part : (ts : List CodeToken) (t : CodeToken) (rest : List CodeToken) (part : Part) → ts ≡ t ∷ rest → t.part ≡ part
    → tokens_view ts ≡ part_view t.line part ∷ tokens_view rest
front_part ts t rest part e h = ap tokens_view e ∙ ap (λ (p : Part). part_view t.line p ∷ tokens_view rest) h

-- what `is_empty` tells
pub empty_nil : {A : Type 0} (us : List A) (b : Bool) → b ≡ true → b ≡ (length us == 0) → us ≡ []
empty_nil [] b h k = refl
empty_nil (v ∷ us) b h k = absurd (grind (arith, h, k))

pub not_empty : {A : Type 0} (us : List A) (b : Bool) → b ≡ false → b ≡ (length us == 0) → us ≡ [] → ⊥
not_empty us b h k z = let e : length us ≡ 0 = ap length z in absurd (grind (arith, h, k, e))
