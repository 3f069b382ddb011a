-- The theorem about texts.
use Rattle.ksv_yaml.proofs.Common.{◌≡◌, ℕ, ◌≤◌, List, length, inl, inr, Some, None, ◌∙◌, Tree, tree_of, at_true}
use Rattle.ksv_yaml.specs.Text.{Spells, tree_of_text}
use Rattle.ksv_yaml_scan.specs.Text.{is_allowed, lines_of}
use Rattle.ksv_yaml_scan.proofs.Choices.{chosen}
use Rattle.ksv_yaml.proofs.Theorem.{one_tree, tree_sound, tree_complete}
use Rattle.std.specs.Prelude.{IsUtf8}

pub text_complete : {text : List ℕ} {t : Tree} → Spells text t → tree_of_text text ≡ Some t
text_complete {text} s = at_true (is_allowed text) _ _ s.allowed ∙ tree_complete s.lines

pub text_sound : (text : List ℕ) (t : Tree) → length text ≤ 1048576 → IsUtf8 text → tree_of_text text ≡ Some t → Spells text t
text_sound text t small utf8 h = elim (chosen (is_allowed text) (tree_of (lines_of text)) None (Some t) h) [
  | inl a ↦ record { small = small; utf8 = utf8; allowed = a.0; lines = tree_sound (lines_of text) t a.1 }
  | inr a ↦ absurd cc
]

-- no text spells two trees
pub one_tree_of_text : (text : List ℕ) (t u : Tree) → Spells text t → Spells text u → t ≡ u
one_tree_of_text text t u a b = one_tree (lines_of text) t u a.lines b.lines
