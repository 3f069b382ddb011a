-- Items and entries that are pushed one by one.
use Rattle.ksv_yaml.proofs.Common.{◌≡◌, ℕ, List, [], ◌∷◌, ◌++◌, Option, Some, None, refl, ap, Tree, Items, no_items, item}
use Rattle.ksv_yaml.proofs.Common.{Entries, no_entries, entry, Pair, items_of, entries_of, keys_of, Got, got, ◌>>=◌}

-- one list of entries after another
abbrev pub join : Entries → Entries → Entries
join no_entries fs = fs
join (entry n k t es) fs = entry n k t (join es fs)

-- one list of items after another
abbrev pub join_items : Items → Items → Items
join_items no_items js = js
join_items (item t is) js = item t (join_items is js)

pub join_push : (ps : List Pair) (p : Pair) (es : Entries) → join (entries_of (ps ++ p ∷ [])) es ≡ join (entries_of ps) (entry p.line p.key p.value es)
join_push [] p es = refl
join_push (q ∷ ps) p es = ap (λ (es : Entries). entry q.line q.key q.value es) (join_push ps p es)

pub join_push_items : (ts : List Tree) (t : Tree) (is : Items) → join_items (items_of (ts ++ t ∷ [])) is ≡ join_items (items_of ts) (item t is)
join_push_items [] t is = refl
join_push_items (u ∷ ts) t is = ap (λ (is : Items). item u is) (join_push_items ts t is)

pub join_none : (es : Entries) → join es no_entries ≡ es
join_none no_entries = refl
join_none (entry n k t es) = ap (λ (es : Entries). entry n k t es) (join_none es)

pub join_no_items : (is : Items) → join_items is no_items ≡ is
join_no_items no_items = refl
join_no_items (item t is) = ap (λ (is : Items). item t is) (join_no_items is)

pub keys_push : (ps : List Pair) (p : Pair) → keys_of (ps ++ p ∷ []) ≡ keys_of ps ++ p.key ∷ []
keys_push [] p = refl
keys_push (q ∷ ps) p = ap (λ (ks : List (List ℕ)). q.key ∷ ks) (keys_push ps p)

-- what was read after these
abbrev pub with_items : {L : Type 0} → List Tree → Option (Got L Items) → Option (Got L Items)
with_items so_far o = o >>= λ is. got (join_items (items_of so_far) is.value) is.rest

abbrev pub with_entries : {L : Type 0} → List Pair → Option (Got L Entries) → Option (Got L Entries)
with_entries so_far o = o >>= λ es. got (join (entries_of so_far) es.value) es.rest

pub with_no_items : {L : Type 0} (o : Option (Got L Items)) → o ≡ with_items [] o
with_no_items None = refl
with_no_items (Some x) = refl

pub with_no_entries : {L : Type 0} (o : Option (Got L Entries)) → o ≡ with_entries [] o
with_no_entries None = refl
with_no_entries (Some x) = refl

-- one more
pub regroup_items : {L : Type 0} (o : Option (Got L Items)) (so_far all : List Tree) (t : Tree) → all ≡ so_far ++ t ∷ []
    → with_items so_far (o >>= λ is. got (item t is.value) is.rest) ≡ with_items all o
regroup_items None so_far all t z = refl
regroup_items (Some x) so_far all t z = rw (z, join_push_items so_far t x.value)

pub regroup_entries : {L : Type 0} (o : Option (Got L Entries)) (so_far all : List Pair) (p : Pair) → all ≡ so_far ++ p ∷ []
    → with_entries so_far (o >>= λ es. got (entry p.line p.key p.value es.value) es.rest) ≡ with_entries all o
regroup_entries None so_far all p z = refl
regroup_entries (Some x) so_far all p z = rw (z, join_push so_far p x.value)

-- the last one
pub last_items : {L : Type 0} (rest : List L) (so_far all : List Tree) (t : Tree) → all ≡ so_far ++ t ∷ []
    → with_items so_far (got (item t no_items) rest) ≡ got (items_of all) rest
last_items rest so_far all t z = rw (z, ← (join_push_items so_far t no_items), join_no_items (items_of (so_far ++ t ∷ [])))

pub last_entries : {L : Type 0} (rest : List L) (so_far all : List Pair) (p : Pair) → all ≡ so_far ++ p ∷ []
    → with_entries so_far (got (entry p.line p.key p.value no_entries) rest) ≡ got (entries_of all) rest
last_entries rest so_far all p z = rw (z, ← (join_push so_far p no_entries), join_none (entries_of (so_far ++ p ∷ [])))

-- no more
pub end_items : {L : Type 0} (rest : List L) (so_far : List Tree) → with_items so_far (got no_items rest) ≡ got (items_of so_far) rest
end_items rest so_far = rw (join_no_items (items_of so_far))

pub end_entries : {L : Type 0} (rest : List L) (so_far : List Pair) → with_entries so_far (got no_entries rest) ≡ got (entries_of so_far) rest
end_entries rest so_far = rw (join_none (entries_of so_far))
