-- Reading from front to back: the same language as a function. A number bounds the nested calls; where the reader
-- starts it is always enough. None is a refusal. If several lines could show the refusal, it is found at the
-- earliest, so that a reader that follows this function can name that line.
use Rattle.std.specs.Prelude.{ℕ, zero, suc, ◌+◌, ◌*◌, ◌++◌, Bool, true, false, ◌&&◌, List, [], ◌∷◌, length, Option, Some, None, nat_lt, ◌==◌, if◌then◌else◌}
use Rattle.std.specs.Str.{bytes_eq}
use Rattle.ksv_yaml_tree.specs.Tree.{Tree, Text, Seq, Map, Items, no_items, item, Entries, no_entries, entry}
use Rattle.ksv_yaml.specs.Grammar.{at_column, from_here, is_mark}
use Rattle.ksv_yaml_scan.specs.Blocks.{block_text, is_inner}
use Rattle.ksv_yaml_scan.specs.Got.{Got, got, ◌>>=◌}
use Rattle.ksv_yaml_scan.specs.Lines.{Line, is_within, loud, front, behind}
use Rattle.ksv_yaml_scan.specs.Plain.{goes_on}
use Rattle.ksv_yaml_scan.specs.Starts.{InlineKind, Plain, Quoted, Block, Flowing, Start, Nothing, Dash, Key, Inline, Refused, start_of, is_dash, is_key}
use Rattle.ksv_yaml_scan.specs.Tokens.{Token, Open, Close, OpenMap, CloseMap, Comma, Scalar, tokens_of}
use Rattle.ksv_yaml_scan.specs.Tokens as parts

-- one level deeper
abbrev pub deeper : {A : Type 0} → ℕ → (ℕ → Option A) → Option A
deeper zero f = None
deeper (suc n) f = f n

-- the key is one of these
abbrev pub is_among : List ℕ → List (List ℕ) → Bool
is_among key [] = false
is_among key (k ∷ ks) = if bytes_eq k key then true else is_among key ks

-- ---- flow nodes

-- a flow node, its items and entries, and what comes after one of these; `seen` are the keys so far
abbrev mutual
  pub flow : ℕ → ℕ → List Token → Option (Got Token Tree)
  flow zero d ts = None
  flow (suc f) d (Scalar k q text ∷ ts) = got (Text k q text) ts
  flow (suc f) d (Open k ∷ ts) = deeper d (λ d. flow_items f d ts >>= λ is. got (Seq k is.value) is.rest)
  flow (suc f) d (OpenMap k ∷ ts) = deeper d (λ d. flow_entries f d [] ts >>= λ es. got (Map k es.value) es.rest)
  flow (suc f) d ts = None

  pub flow_items : ℕ → ℕ → List Token → Option (Got Token Items)
  flow_items zero d ts = None
  flow_items (suc f) d (Close ∷ ts) = got no_items ts
  flow_items (suc f) d ts = flow f d ts >>= λ t. flow_more f d t.rest >>= λ is. got (item t.value is.value) is.rest

  pub flow_more : ℕ → ℕ → List Token → Option (Got Token Items)
  flow_more zero d ts = None
  flow_more (suc f) d (Close ∷ ts) = got no_items ts
  flow_more (suc f) d (Comma ∷ ts) = flow_items f d ts
  flow_more (suc f) d ts = None

  pub flow_entries : ℕ → ℕ → List (List ℕ) → List Token → Option (Got Token Entries)
  flow_entries zero d seen ts = None
  flow_entries (suc f) d seen (CloseMap ∷ ts) = got no_entries ts
  flow_entries (suc f) d seen (parts.Key k key ∷ ts) = elim (is_among key seen) [
    | true ↦ None
    | false ↦ flow f d ts >>= λ t. flow_others f d (seen ++ key ∷ []) t.rest >>= λ es. got (entry k key t.value es.value) es.rest
  ]
  flow_entries (suc f) d seen ts = None

  pub flow_others : ℕ → ℕ → List (List ℕ) → List Token → Option (Got Token Entries)
  flow_others zero d seen ts = None
  flow_others (suc f) d seen (CloseMap ∷ ts) = got no_entries ts
  flow_others (suc f) d seen (Comma ∷ ts) = flow_entries f d seen ts
  flow_others (suc f) d seen ts = None

-- ---- scalars and flow nodes

-- no part may be left
abbrev pub all_of : Tree → List Token → List Line → Option (Got Line Tree)
all_of t [] ls = got t ls
all_of t (u ∷ us) ls = None

-- the flow node at the front, with enough calls
abbrev pub flow_in : ℕ → List Token → Option (Got Token Tree)
flow_in d ts = flow (3 * length ts + 1) d ts

-- a scalar or flow node that begins on a line
abbrev pub inlined : ℕ → ℕ → InlineKind → Line → List Line → Option (Got Line Tree)
inlined d n (Plain text c) l ls = goes_on n c ls >>= λ r. got (Text l.number false (text ++ r.value)) r.rest
inlined d n (Quoted text) l ls = got (Text l.number true text) (loud ls)
inlined d n (Block fold keep) l ls = block_text fold keep (front (is_inner n) ls) >>= λ text. got (Text l.number false text) (loud (behind (is_inner n) ls))
inlined d n Flowing l ls = tokens_of (l ∷ front (is_within n) ls) >>= λ ts. flow_in d ts >>= λ x. all_of x.value x.rest (behind (is_within n) ls)

-- ---- blocks

-- nothing, unless the next line is before column m
abbrev pub unless_level : {A : Type 0} → ℕ → List Line → Option A → Option A
unless_level m [] o = o
unless_level m (l ∷ ls) o = elim (nat_lt l.indent m) [ true ↦ o | false ↦ None ]

-- the value on an entry's line, by what begins there
abbrev pub value_here : Start → ℕ → Line → List ℕ → List Line → Option (Got Line Tree)
value_here (Inline k) d l cs ls = inlined d (suc l.indent) k (from_here l cs) ls
value_here s d l cs ls = None

-- a node, entries, a value, items and an item, each by what begins on its line
abbrev mutual
  pub node : ℕ → ℕ → ℕ → Line → List Line → Option (Got Line Tree)
  node zero d n l ls = None
  node (suc f) d n l ls = node_by f (start_of l.content) d n l ls

  pub node_by : ℕ → Start → ℕ → ℕ → Line → List Line → Option (Got Line Tree)
  node_by zero s d n l ls = None
  node_by (suc f) (Dash k) d n l ls = deeper d (λ d. items f d l.indent l ls >>= λ is. unless_level l.indent is.rest (got (Seq l.number is.value) is.rest))
  node_by (suc f) (Key key rest) d n l ls = deeper d (λ d. entries f d l.indent [] l ls >>= λ es. got (Map l.number es.value) es.rest)
  node_by (suc f) (Inline k) d n l ls = inlined d n k l ls
  node_by (suc f) Nothing d n l ls = None
  node_by (suc f) Refused d n l ls = None

  -- the entries from this line on
  pub entries : ℕ → ℕ → ℕ → List (List ℕ) → Line → List Line → Option (Got Line Entries)
  entries zero d m seen l ls = None
  entries (suc f) d m seen l ls = entries_by f (start_of l.content) d m seen l ls

  pub entries_by : ℕ → Start → ℕ → ℕ → List (List ℕ) → Line → List Line → Option (Got Line Entries)
  entries_by zero s d m seen l ls = None
  entries_by (suc f) (Key key rest) d m seen l ls = elim (is_among key seen) [
    | true ↦ None
    | false ↦ value f d l rest ls >>= λ v. more_entries f d m (seen ++ key ∷ []) v.rest >>= λ es. got (entry l.number key v.value es.value) es.rest
  ]
  entries_by (suc f) s d m seen l ls = None

  pub more_entries : ℕ → ℕ → ℕ → List (List ℕ) → List Line → Option (Got Line Entries)
  more_entries zero d m seen ls = None
  more_entries (suc f) d m seen [] = got no_entries []
  more_entries (suc f) d m seen (l ∷ ls) = elim (nat_lt l.indent m) [
    | true ↦ got no_entries (l ∷ ls)
    | false ↦ elim ((l.indent == m) && is_key (start_of l.content)) [ true ↦ entries f d m seen l ls | false ↦ None ]
  ]

  pub value : ℕ → ℕ → Line → List ℕ → List Line → Option (Got Line Tree)
  value zero d l rest ls = None
  value (suc f) d l [] ls = value_below f d l (loud ls)
  value (suc f) d l (c ∷ cs) ls = value_here (start_of (c ∷ cs)) d l (c ∷ cs) ls

  pub value_below : ℕ → ℕ → Line → List Line → Option (Got Line Tree)
  value_below zero d l ls = None
  value_below (suc f) d l [] = got (Text l.number false []) []
  value_below (suc f) d l (h ∷ ls) = elim (nat_lt l.indent h.indent) [
    | true ↦ node f d (suc l.indent) h ls
    | false ↦ elim ((h.indent == l.indent) && is_dash (start_of h.content)) [
      | true ↦ deeper d (λ d. items f d l.indent h ls >>= λ is. got (Seq h.number is.value) is.rest)
      | false ↦ got (Text l.number false []) (h ∷ ls)
    ]
  ]

  pub items : ℕ → ℕ → ℕ → Line → List Line → Option (Got Line Items)
  items zero d m l ls = None
  items (suc f) d m l ls = items_by f (start_of l.content) d m l ls

  pub items_by : ℕ → Start → ℕ → ℕ → Line → List Line → Option (Got Line Items)
  items_by zero s d m l ls = None
  items_by (suc f) (Dash k) d m l ls = item_at f d l k.columns k.tab k.behind ls >>= λ t. more_items f d m t.rest >>= λ is. got (item t.value is.value) is.rest
  items_by (suc f) s d m l ls = None

  pub more_items : ℕ → ℕ → ℕ → List Line → Option (Got Line Items)
  more_items zero d m ls = None
  more_items (suc f) d m [] = got no_items []
  more_items (suc f) d m (l ∷ ls) = elim (nat_lt l.indent m) [
    | true ↦ got no_items (l ∷ ls)
    | false ↦ elim (l.indent == m) [
      | true ↦ elim (is_dash (start_of l.content)) [ true ↦ items f d m l ls | false ↦ got no_items (l ∷ ls) ]
      | false ↦ None
    ]
  ]

  pub item_at : ℕ → ℕ → Line → ℕ → Bool → List ℕ → List Line → Option (Got Line Tree)
  item_at zero d l k tab rest ls = None
  item_at (suc f) d l k tab [] ls = item_below f d l (loud ls)
  item_at (suc f) d l k false (c ∷ cs) ls = node f d (suc l.indent) (at_column l k (c ∷ cs)) ls
  item_at (suc f) d l k true (c ∷ cs) ls = value_here (start_of (c ∷ cs)) d l (c ∷ cs) ls

  pub item_below : ℕ → ℕ → Line → List Line → Option (Got Line Tree)
  item_below zero d l ls = None
  item_below (suc f) d l [] = got (Text l.number false []) []
  item_below (suc f) d l (h ∷ ls) = elim (nat_lt l.indent h.indent) [ true ↦ node f d (suc l.indent) h ls | false ↦ got (Text l.number false []) (h ∷ ls) ]

-- ---- the whole text

-- the bytes of the lines, and one for each line
abbrev pub weight : List Line → ℕ
weight [] = 0
weight (l ∷ ls) = length l.content + 1 + weight ls

-- no line may be left
abbrev pub whole : Tree → List Line → Option Tree
whole t [] = Some t
whole t (l ∷ ls) = None

-- the node that these lines begin with, if no line is left
abbrev pub body : List Line → Option Tree
body [] = None
body (l ∷ ls) = node (8 * weight (l ∷ ls) + 8) 64 0 l ls >>= λ x. whole x.value x.rest

-- after the line --- if that is the first
abbrev pub behind_mark : List Line → List Line
behind_mark [] = []
behind_mark (l ∷ ls) = elim (is_mark l) [ true ↦ loud ls | false ↦ l ∷ ls ]

-- the tree that the lines spell
abbrev pub tree_of : List Line → Option Tree
tree_of ls = body (behind_mark (loud ls))
