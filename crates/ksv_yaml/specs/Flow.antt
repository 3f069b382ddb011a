-- Flow nodes: how their parts are combined (YAML 1.2, section 7.4). The colon of an entry is in its key's part.
use Rattle.std.specs.Prelude.{◌≡◌, ℕ, suc, ◌++◌, Bool, List, [], ◌∷◌}
use Rattle.ksv_yaml_tree.specs.Tree.{Tree, Text, Seq, Map, Items, no_items, item, Entries, no_entries, entry, AreDistinct}
use Rattle.ksv_yaml_scan.specs.Tokens.{Token, Open, Close, OpenMap, CloseMap, Comma, Scalar, Key}

mutual
  -- Parts that spell a tree, with at most d nested flow nodes.
  pub data Flow : ℕ → List Token → Tree → Type 0 where
    scalar : {d k : ℕ} {q : Bool} {text : List ℕ} → Flow d (Scalar k q text ∷ []) (Text k q text)
    list : {d k : ℕ} {ts : List Token} {is : Items} (xs : List Token) → ts ≡ xs ++ Close ∷ [] → FlowItems d xs is → Flow (suc d) (Open k ∷ ts) (Seq k is)
    dict : {d k : ℕ} {ts : List Token} {es : Entries} (xs : List Token) → ts ≡ xs ++ CloseMap ∷ [] → FlowEntries d xs es → AreDistinct es → Flow (suc d) (OpenMap k ∷ ts) (Map k es)

  -- what is between brackets: nodes with commas between them, and perhaps a comma at the end
  pub data FlowItems : ℕ → List Token → Items → Type 0 where
    no_more : {d : ℕ} → FlowItems d [] no_items
    only : {d : ℕ} {ts : List Token} {t : Tree} → Flow d ts t → FlowItems d ts (item t no_items)
    then : {d : ℕ} {ts : List Token} {t : Tree} {is : Items} (xs ys : List Token) → ts ≡ xs ++ Comma ∷ ys → Flow d xs t → FlowItems d ys is → FlowItems d ts (item t is)

  -- what is between braces: keys, each followed by its node (this subset: none may be missing)
  pub data FlowEntries : ℕ → List Token → Entries → Type 0 where
    no_others : {d : ℕ} → FlowEntries d [] no_entries
    last : {d k : ℕ} {key : List ℕ} {ts : List Token} {t : Tree} → Flow d ts t → FlowEntries d (Key k key ∷ ts) (entry k key t no_entries)
    more : {d k : ℕ} {key : List ℕ} {ts : List Token} {t : Tree} {es : Entries} (xs ys : List Token) → ts ≡ xs ++ Comma ∷ ys → Flow d xs t → FlowEntries d ys es → FlowEntries d (Key k key ∷ ts) (entry k key t es)
