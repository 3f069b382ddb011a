-- A plain run is found from front to back.
use Rattle.ksv_yaml_scan.proofs.Common.{◌≡◌, ℕ, ◌+◌, ◌<◌, Bool, true, false, List, [], ◌∷◌, ◌++◌, length, take, drop, get_or, Option, None, refl, sym, ap, ◌∙◌}
use Rattle.ksv_yaml_scan.proofs.Common.{drop-cons, add-one, is_white, Ending, Run, stop, run_by, run}
use Rattle.ksv_yaml_scan.specs.Plain.{join}
use Rattle.ksv_yaml_scan.proofs.Choices.{at_true, at_false}
use Rattle.std.proofs.lemmas.List.{take_more}

-- bytes before a text, where white space at its end is dropped
abbrev pub joined : List ℕ → List ℕ → List ℕ
joined [] text = text
joined (c ∷ cs) text = join c (joined cs text)

-- bytes before a run
abbrev pub after : List ℕ → Run → Run
after front r = record { text = joined front r.text; ending = r.ending }

joined_push : (xs : List ℕ) (c : ℕ) (text : List ℕ) → joined (xs ++ c ∷ []) text ≡ joined xs (join c text)
joined_push [] c text = refl
joined_push (x ∷ xs) c text = ap (join x) (joined_push xs c text)

trim_white : (xs : List ℕ) (c : ℕ) → is_white c ≡ true → joined (xs ++ c ∷ []) [] ≡ joined xs []
trim_white xs c h = joined_push xs c [] ∙ ap (joined xs) (at_true (is_white c) [] (c ∷ []) h)

join_last : (x : ℕ) (xs : List ℕ) (c : ℕ) → join x (xs ++ c ∷ []) ≡ x ∷ (xs ++ c ∷ [])
join_last x [] c = refl
join_last x (y ∷ xs) c = refl

trim_other : (xs : List ℕ) (c : ℕ) → is_white c ≡ false → joined (xs ++ c ∷ []) [] ≡ xs ++ c ∷ []
trim_other [] c h = at_false (is_white c) [] (c ∷ []) h
trim_other (x ∷ xs) c h = ap (join x) (trim_other xs c h) ∙ join_last x xs c

first_at : (xs : List ℕ) (i : ℕ) → i < length xs → drop i xs ≡ get_or xs i 0 ∷ drop (i + 1) xs
first_at xs i h = drop-cons xs i 0 h ∙ ap (λ (j : ℕ). get_or xs i 0 ∷ drop j xs) (sym (add-one i))

run_step : (flow w : Bool) (c : ℕ) (cs front : List ℕ) (o : Option Ending) → stop flow w (c ∷ cs) ≡ o
    → after front (run flow w (c ∷ cs)) ≡ after front (run_by o c (run flow (is_white c) cs))
run_step flow w c cs front o e = ap (λ (o : Option Ending). after front (run_by o c (run flow (is_white c) cs))) e

-- the run goes on over the byte at i
pub run_more : (flow w : Bool) (xs : List ℕ) (i : ℕ) → i < length xs → stop flow w (drop i xs) ≡ None
    → after (take i xs) (run flow w (drop i xs)) ≡ after (take (i + 1) xs) (run flow (is_white (get_or xs i 0)) (drop (i + 1) xs))
run_more flow w xs i h e =
    let c = get_or xs i 0 in
    let r = run flow (is_white c) (drop (i + 1) xs) in
    ap (λ (ys : List ℕ). after (take i xs) (run flow w ys)) (first_at xs i h)
    ∙ run_step flow w c (drop (i + 1) xs) (take i xs) None (ap (stop flow w) (sym (first_at xs i h)) ∙ e)
    ∙ ap (λ (text : List ℕ). let run : List ℕ → Run = λ t. record { text = t; ending = r.ending } in run text) (sym (joined_push (take i xs) c r.text))
    ∙ ap (λ (ys : List ℕ). after ys r) (sym (take_more xs i 0 h))

-- where the text without white space at its end stops
pub end_white : (xs : List ℕ) (i end : ℕ) → i < length xs → is_white (get_or xs i 0) ≡ true → joined (take i xs) [] ≡ take end xs
    → joined (take (i + 1) xs) [] ≡ take end xs
end_white xs i end h w e = ap (λ (ys : List ℕ). joined ys []) (take_more xs i 0 h) ∙ trim_white (take i xs) (get_or xs i 0) w ∙ e

pub end_other : (xs : List ℕ) (i : ℕ) → i < length xs → is_white (get_or xs i 0) ≡ false → joined (take (i + 1) xs) [] ≡ take (i + 1) xs
end_other xs i h w = ap (λ (ys : List ℕ). joined ys []) (take_more xs i 0 h) ∙ trim_other (take i xs) (get_or xs i 0) w ∙ sym (take_more xs i 0 h)
