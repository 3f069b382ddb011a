-- A plain scalar goes on over lines, from one to the next.
use Rattle.ksv_yaml_scan.proofs.Common.{◌≡◌, ℕ, Bool, true, false, List, ◌∷◌, ◌++◌, Option, Some, None, refl, sym, ap, ◌∙◌, append_assoc, nat_le, append-nil}
use Rattle.ksv_yaml_scan.proofs.Common.{Line, loud, plain_text}
use Rattle.std.specs.Prelude.{if◌then◌else◌}
use Rattle.ksv_yaml_scan.specs.Got.{Got, got, ◌>>=◌}
use Rattle.ksv_yaml_scan.specs.Lines.{is_quiet}
use Rattle.ksv_yaml_scan.specs.Plain.{more_of, line_on, goes_on}

-- a text, and lines after it
abbrev pub then_text : List ℕ → Option (Got Line (List ℕ)) → Option (Got Line (List ℕ))
then_text text o = o >>= λ r. got (text ++ r.value) r.rest

deep_on : (text : List ℕ) (n : ℕ) (l : Line) (ls : List Line) (o : Option (List ℕ × Bool)) → is_quiet l ≡ false → nat_le n l.indent ≡ true
    → more_of l.content ≡ o → plain_text text n false (l ∷ ls) ≡ then_text text (line_on false false true o (loud ls) (l ∷ ls) (λ c. goes_on n c ls))
deep_on text n l ls o q d m =
    ap (λ (b : Bool). then_text text (line_on b false (nat_le n l.indent) (more_of l.content) (loud ls) (l ∷ ls) (λ c. goes_on n c ls))) q
    ∙ ap (λ (d : Bool). then_text text (line_on false false d (more_of l.content) (loud ls) (l ∷ ls) (λ c. goes_on n c ls))) d
    ∙ ap (λ (o : Option (List ℕ × Bool)). then_text text (line_on false false true o (loud ls) (l ∷ ls) (λ c. goes_on n c ls))) m

pub text_refused : (text : List ℕ) (n : ℕ) (l : Line) (ls : List Line) → is_quiet l ≡ false → nat_le n l.indent ≡ true → more_of l.content ≡ None
    → plain_text text n false (l ∷ ls) ≡ None
text_refused text n l ls q d m = deep_on text n l ls None q d m

then_more : (text more : List ℕ) (o : Option (Got Line (List ℕ)))
    → then_text text (o >>= λ r. got (32 ∷ (more ++ r.value)) r.rest) ≡ then_text (text ++ 32 ∷ more) o
then_more text more None = refl
then_more text more (Some r) = ap (λ (t : List ℕ). got t r.rest) (sym (append_assoc text (32 ∷ more) r.value))

pub text_more : (text more : List ℕ) (n : ℕ) (c : Bool) (l : Line) (ls : List Line) → is_quiet l ≡ false → nat_le n l.indent ≡ true
    → more_of l.content ≡ Some (more, c) → plain_text text n false (l ∷ ls) ≡ plain_text (text ++ 32 ∷ more) n c ls
text_more text more n c l ls q d m = deep_on text n l ls (Some (more, c)) q d m ∙ then_more text more (goes_on n c ls)

-- where the text ends: at a quiet line, after a comment, and at a line that isn't deep enough
module _ (text : List ℕ) (n : ℕ) (l : Line) (ls : List Line) where
  pub text_quiet : (c : Bool) → is_quiet l ≡ true → plain_text text n c (l ∷ ls) ≡ got text (loud (l ∷ ls))
  text_quiet c q =
      ap (λ (b : Bool). then_text text (line_on b c (nat_le n l.indent) (more_of l.content) (loud ls) (l ∷ ls) (λ c. goes_on n c ls))) q
      ∙ ap (λ (t : List ℕ). got t (loud ls)) (append-nil text)
      ∙ sym (ap (λ (b : Bool). got text (if b then loud ls else (l ∷ ls))) q)

  pub text_commented : is_quiet l ≡ false → plain_text text n true (l ∷ ls) ≡ got text (l ∷ ls)
  text_commented q =
      ap (λ (b : Bool). then_text text (line_on b true (nat_le n l.indent) (more_of l.content) (loud ls) (l ∷ ls) (λ c. goes_on n c ls))) q
      ∙ ap (λ (t : List ℕ). got t (l ∷ ls)) (append-nil text)

  pub text_shallow : is_quiet l ≡ false → nat_le n l.indent ≡ false → plain_text text n false (l ∷ ls) ≡ got text (l ∷ ls)
  text_shallow q d =
      ap (λ (b : Bool). then_text text (line_on b false (nat_le n l.indent) (more_of l.content) (loud ls) (l ∷ ls) (λ c. goes_on n c ls))) q
      ∙ ap (λ (d : Bool). then_text text (line_on false false d (more_of l.content) (loud ls) (l ∷ ls) (λ c. goes_on n c ls))) d
      ∙ ap (λ (t : List ℕ). got t (l ∷ ls)) (append-nil text)
