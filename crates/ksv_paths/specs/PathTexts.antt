-- Paths as texts. The text of a path is `/` for the root, else each step from the first to the last after a `/`: a member's
-- name that is somewhere in the description, or an index of an element in decimal. The Kaitai Struct User Guide has no
-- such texts; they are this project's own. An id begins with a letter, so no name is an index.
use Rattle.std.specs.Prelude.{◌≡◌, ℕ, ◌^◌, ◌==◌, ◌&&◌, ◌||◌, not, nat_lt, Bool, List, [], ◌∷◌, length, reverse, slice_index, Option, Some, None, option_map, option_and_then, decimal, if◌then◌else◌}
use Rattle.std.specs.Char.{is_ascii_digit}
use Rattle.std.specs.List.{list_all, flat_map, slice_split}
use Rattle.std.specs.Str.Parse.{digits_value}
use Rattle.ksv_expr_value.specs.Trail.{Trail, element_limit, trail_of, root}
use Rattle.ksv_expr_value.specs.declared.step.Step.{Step}
use Rattle.ksv_expr_value.specs.declared.step.Step.TheVariants.{Index, Name}
use Rattle.ksv_desc.specs.Description.{Description, as_text, name, number_of_name}

-- ---- from a path to its text

-- a step, with the slash before it
abbrev pub step_text : Description → Step → List ℕ
step_text d (Name n) = 47 ∷ name d n
step_text d (Index i) = 47 ∷ decimal i

-- the steps from the first to the last
abbrev pub steps_text : Description → List Step → List ℕ
steps_text d steps = flat_map (step_text d) steps

-- `/` for the root, which has no step
abbrev pub or_slash : List ℕ → List ℕ
or_slash [] = 47 ∷ []
or_slash (b ∷ bs) = b ∷ bs

abbrev pub path_text : Description → Trail → List ℕ
path_text d p = or_slash (steps_text d (reverse p.upward))

-- ---- from a text to the path that it names

-- digits of a number below 2^64
abbrev pub decimal_of : List ℕ → Option ℕ
decimal_of text =
    if list_all is_ascii_digit text && (nat_lt 0 (length text) && nat_lt (digits_value 10 text) (2 ^ 64))
    then Some (digits_value 10 text)
    else None

-- an index is below the number of elements that a list may have
abbrev pub below_limit : Option ℕ → Option ℕ
below_limit (Some index) = if nat_lt index element_limit then Some index else None
below_limit None = None

-- an index has no leading zero
abbrev pub index_of : List ℕ → Option ℕ
index_of text = if length text == 1 || not (slice_index text 0 == 48) then below_limit (decimal_of text) else None

-- names are texts in UTF-8
abbrev pub name_of : Description → List ℕ → Option ℕ
name_of d text = option_and_then (number_of_name d) (as_text text)

abbrev pub name_or_index : Option ℕ → List ℕ → Option Step
name_or_index (Some n) text = Some (Name n)
name_or_index None text = option_map Index (index_of text)

-- the step that a text names: a member's name, or an index
abbrev pub step_of : Description → List ℕ → Option Step
step_of d text = name_or_index (name_of d text) text

-- a step in front of others
abbrev pub in_front : Step → Option (List Step) → Option (List Step)
in_front step (Some steps) = Some (step ∷ steps)
in_front step None = None

abbrev pub behind_step : Option Step → Option (List Step) → Option (List Step)
behind_step (Some step) steps = in_front step steps
behind_step None steps = None

-- the steps of texts that all name one
abbrev pub steps_of : Description → List (List ℕ) → Option (List Step)
steps_of d [] = Some []
steps_of d (text ∷ texts) = behind_step (step_of d text) (steps_of d texts)

abbrev pub is_slash : ℕ → Bool
is_slash c = c == 47

-- the path of steps that stand from the first to the last; more than 64 are those of none
abbrev pub path_of_steps : Option (List Step) → Option Trail
path_of_steps (Some steps) = trail_of (reverse steps)
path_of_steps None = None

-- after the first slash
abbrev pub path_behind : Description → List ℕ → Option Trail
path_behind d text = if length text == 0 then Some root else path_of_steps (steps_of d (slice_split is_slash text))

-- the path that a text names: `/`, or steps each begun by a slash
abbrev pub path_named : Description → List ℕ → Option Trail
path_named d [] = None
path_named d (c ∷ text) = if is_slash c then path_behind d text else None

-- ---- one is the inverse of the other

-- A text that names a path is the text of that path. So no path is named by two texts.
abbrev pub TextsAreWritten : Type 0
TextsAreWritten = (d : Description) (text : List ℕ) (path : Trail) → path_named d text ≡ Some path → text ≡ path_text d path
