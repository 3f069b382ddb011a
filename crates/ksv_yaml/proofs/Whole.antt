-- What the reader of whole texts answers.
use Rattle.ksv_yaml.proofs.Common.{◌≡◌, ℕ, suc, ◌<◌, ◌≤◌, Bool, true, false, List, [], ◌∷◌, length, Option, Some, None, refl, sym, ap, subst, ◌∙◌, arith, Tree}
use Rattle.ksv_yaml.proofs.Common.{tree_of, at_true, Line, lines_view}
use Rattle.std.proofs.Common.{max, is_none}
use Rattle.ksv_yaml.specs.declared.fault.YamlKind.{YamlKind}
use Rattle.ksv_yaml.specs.declared.fault.YamlKind.TheVariants.{NotUtf8, TooLong, NoMemory}
use Rattle.ksv_yaml.specs.Code.{names_memory, IsOfLines}
use Rattle.ksv_yaml.specs.Faults.{IsUnspelled, Refuses}
use Rattle.ksv_yaml.specs.Text.{Spells}
use Rattle.ksv_yaml.proofs.Theorem.{refused}
use Rattle.ksv_yaml.proofs.TextTheorem.{text_sound}
use Rattle.ksv_yaml_scan.specs.declared.line.Line.{Line as CodeLine}
use Rattle.ksv_yaml_scan.specs.Text.{IsCut, IsLine, Raw, cut_lines, unmarked, number_from, lines_of, stray_line, is_allowed}

allowed_none : (text : List ℕ) (stray : Option ℕ) → stray_line text ≡ stray → stray ≡ None → is_allowed text ≡ true
allowed_none text stray e z = ap is_none (e ∙ z)

-- the tree of the lines, where there is no control character
pub text_read : (text : List ℕ) (ls : List Line) (stray : Option ℕ) (t : Tree) → IsCut text ls stray → stray ≡ None → tree_of ls ≡ Some t → Spells text t
text_read text ls stray t k z h = text_sound text t k.small k.utf8 (at_true (is_allowed text) _ _ (allowed_none text stray k.stray z) ∙ ap tree_of k.lines ∙ h)

stray_none : (o : Option ℕ) → is_none o ≡ true → o ≡ None
stray_none None h = refl
stray_none (Some n) h = absurd cc

-- the lines have no tree, or a control character is on one
pub text_unread : (text : List ℕ) (ls : List Line) (stray : Option ℕ) → IsCut text ls stray → (stray ≡ None → tree_of ls ≡ None) → (t : Tree) → Spells text t
    → ⊥
text_unread text ls stray k h t s = let z : stray ≡ None =
    sym k.stray ∙ stray_none (stray_line text) s.allowed in refused (lines_of text) t (ap tree_of k.lines ∙ h z) s.lines

number_length : (n : ℕ) (rs : List Raw) → length (number_from n rs) ≡ length rs
number_length n [] = refl
number_length n (r ∷ rs) = ap suc (number_length (suc n) rs)

pub is_line : (text : List ℕ) (ls : List CodeLine) (stray : Option ℕ) (n : ℕ) → IsCut text (lines_view ls) stray → 0 < n → n ≤ max 1 (length ls) → IsLine text n
is_line text ls stray n k low high =
    (low, subst (λ (m : ℕ). n ≤ max 1 m) (sym (lines_length ls) ∙ sym (ap length k.lines) ∙ number_length 1 (cut_lines (unmarked text))) high)
  where
    lines_length : (ls : List CodeLine) → length (lines_view ls) ≡ length ls
    lines_length [] = refl
    lines_length (l ∷ ls) = ap suc (lines_length ls)

-- a refusal of lines, by its kind
pub refuses_by : (text : List ℕ) (k : YamlKind) (line : ℕ) → IsOfLines k → (names_memory k ≡ false → IsUnspelled text line) → Refuses text k line
refuses_by text NotUtf8 line o u = absurd o
refuses_by text TooLong line o u = absurd o
refuses_by text NoMemory line o u = tt
refuses_by text _ line o u = u refl

-- a refusal and a tree exclude each other, but where memory runs out
pub refuses_memory : (text : List ℕ) (t : Tree) (k : YamlKind) (line : ℕ) → Spells text t → Refuses text k line → k ≡ NoMemory
refuses_memory text t NoMemory line s r = refl
refuses_memory text t TooLong line s r = let h = s.small in absurd (omega arith)
refuses_memory text t NotUtf8 line s r = absurd (r.bad s.utf8)
refuses_memory text t _ line s r = absurd (r.none t s)

-- the refusal of a text that was cut
pub cut_refused : (text : List ℕ) (ls : List CodeLine) (stray : Option ℕ) (k : YamlKind) (n : ℕ) (w : Bool) → IsCut text (lines_view ls) stray → 0 < n
    → n ≤ max 1 (length ls) → IsOfLines k → (w ≡ true → names_memory k ≡ true) → (w ≡ false → stray ≡ None → tree_of (lines_view ls) ≡ None) → Refuses text k n
cut_refused text ls stray k n true c low high o m h = refuses_by text k n o (λ e. let f = m refl in absurd cc)
cut_refused text ls stray k n false c low high o m h =
    refuses_by text k n o
    (λ e. record {
      small = c.small;
      utf8 = c.utf8;
      place = is_line text ls stray n c low high;
      none = text_unread text (lines_view ls) stray c
          (h refl);
    })
