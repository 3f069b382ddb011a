-- Paths that are read step by step from their text.
use Rattle.std.proofs.Common.{◌≡◌, ◌∙◌, ℕ, suc, ◌<◌, ◌≤◌, Bool, true, false, List, [], ◌∷◌, ◌++◌, length, reverse, Option, Some, None, ap, sym, refl, arith}
use Rattle.std.specs.Prelude.{◌==◌, is_some, IsSome, MatchOption, option_copied, IsTrue}
use Rattle.std.proofs.lemmas.Bool.{false_from_ne_true}
use Rattle.std.specs.Borrow.{Bor}
use Rattle.std.specs.List.{slice_split}
use Rattle.std.proofs.lemmas.List.{append_assoc, length-append, length-reverse}
use Rattle.ksv_expr_value.specs.Trail.{Trail, fits, step_fits, trail_of-true, trail_of-false, length-fits, fits-more}
use Rattle.ksv_expr_value.specs.declared.step.Step.{Step}
use Rattle.ksv_expr_value.proofs.Paths.{fits-push}
use Rattle.ksv_desc.specs.Description.{Description}
use Rattle.ksv_paths.specs.PathTexts.{in_front, is_slash, path_behind, path_of_steps, step_of, steps_of}

-- the texts that are left to read
abbrev pub pieces_left : Option (List ℕ) → List (List ℕ)
pieces_left (Some text) = slice_split is_slash text
pieces_left None = []

-- how much is left to read
abbrev pub size_left : Option (List ℕ) → ℕ
size_left (Some text) = suc (length text)
size_left None = 0

-- steps after those that were read
abbrev pub behind_steps : List Step → Option (List Step) → Option (List Step)
behind_steps front (Some steps) = Some (front ++ steps)
behind_steps front None = None

pub steps_begin : (o : Option (List Step)) → o ≡ behind_steps [] o
steps_begin o = grind arith

-- one more step is read
pub steps_more : (d : Description) (front : List Step) (piece : List ℕ) (rest : List (List ℕ)) (step : Step) → step_of d piece ≡ Some step
    → behind_steps front (steps_of d (piece ∷ rest)) ≡ behind_steps (front ++ step ∷ []) (steps_of d rest)
steps_more d front piece rest step is = grind (arith, append_assoc front (step ∷ []))

-- more than 64 steps are those of no path
pub no_path : (steps : List Step) → 64 < length steps → path_of_steps (Some steps) ≡ None
no_path steps many = trail_of-false (reverse steps)
    (false_from_ne_true _ (λ e. let few = length-fits (reverse steps) e in absurd (omega (arith, length-reverse steps))))

-- one step more than a path may have
pub steps_full : (d : Description) (front : List Step) (piece : List ℕ) (rest : List (List ℕ)) (step : Step) → step_of d piece ≡ Some step
    → 64 ≤ length front → path_of_steps (behind_steps front (steps_of d (piece ∷ rest))) ≡ None
steps_full d front piece rest step is full = rw is (by_rest (steps_of d rest))
  where
    by_rest : (o : Option (List Step)) → path_of_steps (behind_steps front (in_front step o)) ≡ None
    by_rest (Some steps) = no_path (front ++ step ∷ steps) (omega (arith, length-append front (step ∷ steps)))
    by_rest None = refl

-- one step more
pub fits_pushed : (steps : List Step) (step : Step) → fits (reverse steps) ≡ true → step_fits step ≡ true → length steps < 64
    → fits (reverse (steps ++ step ∷ [])) ≡ true
fits_pushed steps step h in_range few = fits-push steps step (steps ++ step ∷ []) refl
    (fits-more step (reverse steps) in_range h (omega (arith, length-reverse steps)))

-- the path of steps that fit
pub path_is : (steps : List Step) (p : Trail) → p.upward ≡ reverse steps → path_of_steps (Some steps) ≡ Some p
path_is steps p e = rw (← e) (trail_of-true p)

-- what a text after a slash names
pub behind_is : (d : Description) (text : List ℕ) (steps : List Step) (p : Trail) → (length text == 0) ≡ false
    → steps_of d (slice_split is_slash text) ≡ Some steps → p.upward ≡ reverse steps → Some p ≡ path_behind d text
behind_is d text steps p some named e = sym (rw (some, named) (path_is steps p e))

pub behind_some : (d : Description) (text : List ℕ) (steps : List Step) → (length text == 0) ≡ false → steps_of d (slice_split is_slash text) ≡ Some steps
    → fits (reverse steps) ≡ true → IsSome (path_behind d text)
behind_some d text steps some named h = let p : Trail =
    record { upward = reverse steps; valid = h } in ap is_some (sym (behind_is d text steps p some named refl))

-- the first piece and what is left after it
pub pieces_seen : (text piece : List ℕ) (rest : Option (Bor (List ℕ)))
    → MatchOption rest (slice_split is_slash text ≡ piece ∷ []) (λ r. slice_split is_slash text ≡ piece ∷ slice_split is_slash r.now)
    → slice_split is_slash text ≡ piece ∷ pieces_left (option_copied rest)
pieces_seen text piece rest h = grind arith

-- what is left where a piece is left
pub left_seen : (d : Description) (all : Option (List Step)) (front : List Step) (rest : Option (Bor (List ℕ))) (pieces : Bor (List ℕ)) (piece : List ℕ)
    (others : List (List ℕ)) → all ≡ behind_steps front (steps_of d (pieces_left (option_copied rest))) → rest ≡ Some pieces
    → slice_split is_slash pieces.now ≡ piece ∷ others → all ≡ behind_steps front (steps_of d (piece ∷ others))
left_seen d all front rest pieces piece others h is split = rw (is, split) at h

-- the facts of the loop, one step later
pub step_read : (d : Description) (all : Option (List Step)) (front now : List Step) (piece : List ℕ) (others : List (List ℕ)) (step : Step)
    → all ≡ behind_steps front (steps_of d (piece ∷ others)) → Some step ≡ step_of d piece → step_fits step ≡ true → fits (reverse front) ≡ true
    → length front < 64 → now ≡ front ++ step ∷ []
    → (all ≡ behind_steps now (steps_of d others)) × (length now ≤ 64) × (fits (reverse now) ≡ true)
step_read d all front now piece others step h is in_range fit few e =
    rw e (h ∙ steps_more d front piece others step (sym is), omega (arith, length-append front (step ∷ [])), fits_pushed front step fit in_range few)

-- steps that are not full are fewer than 64
pub not_full : (n : ℕ) (b : Bool) → (n ≡ 64 → IsTrue b) → b ≡ false → n ≤ 64 → n < 64
not_full n b full not few = grind arith
