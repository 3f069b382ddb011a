-- The rows of a block scalar give the same text from front to back.
use Rattle.ksv_yaml_scan.proofs.Common.{◌≡◌, ℕ, zero, suc, Bool, true, false, cond, List, [], ◌∷◌, ◌++◌, Option, Some, None, refl, sym, ap, ◌∙◌, ◌||◌, ◌&&◌}
use Rattle.ksv_yaml_scan.proofs.Common.{append-nil, Line, is_nil}
use Rattle.std.proofs.Common.{replicate}
use Rattle.ksv_yaml_scan.specs.Blocks.{Row, add_row, filled, literal, folded, folded_on, starts_white, between, last_end, inner_indent, is_level, is_led}
use Rattle.ksv_yaml_scan.specs.Blocks.{text_of_rows, text_at, block_text}
use Rattle.ksv_yaml_scan.specs.Rows.{rows, rows_on, last_ended}

nil_is : (cs : List ℕ) → is_nil cs ≡ true → cs ≡ []
nil_is [] h = refl
nil_is (c ∷ cs) h = absurd cc

-- one more at the end is one more at the front
replicate_more : (k : ℕ) (xs : List ℕ) → replicate k 10 ++ 10 ∷ xs ≡ replicate (suc k) 10 ++ xs
replicate_more zero xs = refl
replicate_more (suc k) xs = ap (λ (ys : List ℕ). 10 ∷ ys) (replicate_more k xs)

-- ---- literal

-- after a row and k empty ones
abbrev literal_on : ℕ → List Row → List ℕ
literal_on k [] = []
literal_on k (s ∷ ss) = replicate (suc k) 10 ++ literal (s ∷ ss)

literal_first : (r : Row) (ss : List Row) → literal (r ∷ ss) ≡ r.text ++ literal_on 0 ss
literal_first r [] = sym (append-nil r.text)
literal_first r (s ∷ ss) = refl

-- an empty row
literal_skip : (k : ℕ) (r : Row) (ss : List Row) → is_nil r.text ≡ true → literal_on k (add_row r ss) ≡ literal_on (suc k) ss
literal_skip k r [] h = ap (λ (b : Bool). literal_on k (cond b [] (r ∷ []))) h
literal_skip k r (s ∷ ss) h = ap (λ (t : List ℕ). replicate (suc k) 10 ++ (t ++ 10 ∷ literal (s ∷ ss))) (nil_is r.text h)
    ∙ replicate_more (suc k) (literal (s ∷ ss))

add_full : (r : Row) (ss : List Row) → is_nil r.text ≡ false → add_row r ss ≡ r ∷ ss
add_full r [] h = ap (λ (b : Bool). cond b [] (r ∷ [])) h
add_full r (s ∷ ss) h = refl

literal_step : (v : Bool) (k : ℕ) (r : Row) (rs : List Row) (b : Bool) → is_nil r.text ≡ b → literal_on (suc k) (filled rs) ≡ rows_on false (Some v) (suc k) rs
    → literal_on 0 (filled rs) ≡ rows_on false (Some (starts_white r.text)) 0 rs
    → literal_on k (add_row r (filled rs)) ≡ cond b (rows_on false (Some v) (suc k) rs)
    (replicate (suc k) 10 ++ (r.text ++ rows_on false (Some (starts_white r.text)) 0 rs))
literal_step v k r rs true h skip on = literal_skip k r (filled rs) h ∙ skip
literal_step v k r rs false h skip on = ap (literal_on k) (add_full r (filled rs) h)
    ∙ ap (λ (t : List ℕ). replicate (suc k) 10 ++ t) (literal_first r (filled rs) ∙ ap (λ (t : List ℕ). r.text ++ t) on)

literal_rows : (v : Bool) (k : ℕ) (rs : List Row) → literal_on k (filled rs) ≡ rows_on false (Some v) k rs
literal_rows v k [] = refl
literal_rows v k (r ∷ rs) = literal_step v k r rs (is_nil r.text) refl (literal_rows v (suc k) rs) (literal_rows (starts_white r.text) 0 rs)

-- ---- folded

folded_skip : (w : Bool) (k : ℕ) (r : Row) (ss : List Row) → is_nil r.text ≡ true → folded_on w k (add_row r ss) ≡ folded_on w (suc k) ss
folded_skip w k r [] h = ap (λ (b : Bool). folded_on w k (cond b [] (r ∷ []))) h
folded_skip w k r (s ∷ ss) h =
    ap (λ (b : Bool). cond b (folded_on w (suc k) (s ∷ ss)) (between (w || starts_white r.text) k ++ (r.text ++ folded_on (starts_white r.text) 0 (s ∷ ss))))
    h

folded_step : (w : Bool) (k : ℕ) (r : Row) (rs : List Row) (b : Bool) → is_nil r.text ≡ b → folded_on w (suc k) (filled rs) ≡ rows_on true (Some w) (suc k) rs
    → folded_on (starts_white r.text) 0 (filled rs) ≡ rows_on true (Some (starts_white r.text)) 0 rs
    → folded_on w k (add_row r (filled rs)) ≡ cond b (rows_on true (Some w) (suc k) rs)
    (between (w || starts_white r.text) k ++ (r.text ++ rows_on true (Some (starts_white r.text)) 0 rs))
folded_step w k r rs true h skip on = folded_skip w k r (filled rs) h ∙ skip
folded_step w k r rs false h skip on =
    ap (folded_on w k) (add_full r (filled rs) h)
    ∙ ap (λ (b : Bool). cond b (folded_on w (suc k) (filled rs))
    (between (w || starts_white r.text) k ++ (r.text ++ folded_on (starts_white r.text) 0 (filled rs)))) h
    ∙ ap (λ (t : List ℕ). between (w || starts_white r.text) k ++ (r.text ++ t)) on

folded_rows : (w : Bool) (k : ℕ) (rs : List Row) → folded_on w k (filled rs) ≡ rows_on true (Some w) k rs
folded_rows w k [] = refl
folded_rows w k (r ∷ rs) = folded_step w k r rs (is_nil r.text) refl (folded_rows w (suc k) rs) (folded_rows (starts_white r.text) 0 rs)

-- ---- the first row that isn't empty

-- rows joined, after k empty ones
abbrev joined : Bool → ℕ → List Row → List ℕ
joined fold k [] = []
joined fold k (s ∷ ss) = replicate k 10 ++ cond fold (folded (s ∷ ss)) (literal (s ∷ ss))

joined_start : (fold : Bool) (ss : List Row) → cond fold (folded ss) (literal ss) ≡ joined fold 0 ss
joined_start true [] = refl
joined_start false [] = refl
joined_start fold (s ∷ ss) = refl

joined_skip : (fold : Bool) (k : ℕ) (r : Row) (ss : List Row) → is_nil r.text ≡ true → joined fold k (add_row r ss) ≡ joined fold (suc k) ss
joined_skip fold k r [] h = ap (λ (b : Bool). joined fold k (cond b [] (r ∷ []))) h
joined_skip true k r (s ∷ ss) h = ap (λ (b : Bool). replicate k 10 ++ cond b (10 ∷ folded (s ∷ ss)) (r.text ++ folded_on (starts_white r.text) 0 (s ∷ ss))) h
    ∙ replicate_more k (folded (s ∷ ss))
joined_skip false k r (s ∷ ss) h = ap (λ (t : List ℕ). replicate k 10 ++ (t ++ 10 ∷ literal (s ∷ ss))) (nil_is r.text h) ∙ replicate_more k (literal (s ∷ ss))

-- a row that isn't empty, and what is after it
joined_first : (fold : Bool) (r : Row) (rs : List Row) → is_nil r.text ≡ false
    → cond fold (folded (r ∷ filled rs)) (literal (r ∷ filled rs)) ≡ r.text ++ rows_on fold (Some (starts_white r.text)) 0 rs
joined_first true r rs h = ap (λ (b : Bool). cond b (10 ∷ folded (filled rs)) (r.text ++ folded_on (starts_white r.text) 0 (filled rs))) h
    ∙ ap (λ (t : List ℕ). r.text ++ t) (folded_rows (starts_white r.text) 0 rs)
joined_first false r rs h = literal_first r (filled rs) ∙ ap (λ (t : List ℕ). r.text ++ t) (literal_rows (starts_white r.text) 0 rs)

joined_step : (fold : Bool) (k : ℕ) (r : Row) (rs : List Row) (b : Bool) → is_nil r.text ≡ b → joined fold (suc k) (filled rs) ≡ rows_on fold None (suc k) rs
    → joined fold k (add_row r (filled rs)) ≡ cond b (rows_on fold None (suc k) rs)
    (replicate k 10 ++ (r.text ++ rows_on fold (Some (starts_white r.text)) 0 rs))
joined_step fold k r rs true h skip = joined_skip fold k r (filled rs) h ∙ skip
joined_step fold k r rs false h skip = ap (joined fold k) (add_full r (filled rs) h) ∙ ap (λ (t : List ℕ). replicate k 10 ++ t) (joined_first fold r rs h)

joined_rows : (fold : Bool) (k : ℕ) (rs : List Row) → joined fold k (filled rs) ≡ rows_on fold None k rs
joined_rows fold k [] = refl
joined_rows fold k (r ∷ rs) = joined_step fold k r rs (is_nil r.text) refl (joined_rows fold (suc k) rs)

-- the rows' text, in one go
pub rows_text : (fold : Bool) (rs : List Row) → cond fold (folded (filled rs)) (literal (filled rs)) ≡ rows_on fold None 0 rs
rows_text fold rs = joined_start fold (filled rs) ∙ joined_rows fold 0 rs

-- ---- the line end at the end

-- the line end of the last row, or what is said where there is none
abbrev ending : Bool → List Row → List ℕ
ending e [] = cond e (10 ∷ []) []
ending e (s ∷ ss) = last_end (s ∷ ss)

ending_skip : (e : Bool) (r : Row) (ss : List Row) → is_nil r.text ≡ true → ending e (add_row r ss) ≡ ending e ss
ending_skip e r [] h = ap (λ (b : Bool). ending e (cond b [] (r ∷ []))) h
ending_skip e r (s ∷ ss) h = refl

ending_first : (r : Row) (ss : List Row) → last_end (r ∷ ss) ≡ ending r.ended ss
ending_first r [] = refl
ending_first r (s ∷ ss) = refl

ending_step : (e : Bool) (r : Row) (rs : List Row) (b : Bool) → is_nil r.text ≡ b → ending e (filled rs) ≡ cond (last_ended e rs) (10 ∷ []) []
    → ending r.ended (filled rs) ≡ cond (last_ended r.ended rs) (10 ∷ []) []
    → ending e (add_row r (filled rs)) ≡ cond (cond b (last_ended e rs) (last_ended r.ended rs)) (10 ∷ []) []
ending_step e r rs true h skip on = ending_skip e r (filled rs) h ∙ skip
ending_step e r rs false h skip on = ap (ending e) (add_full r (filled rs) h) ∙ ending_first r (filled rs) ∙ on

ending_rows : (e : Bool) (rs : List Row) → ending e (filled rs) ≡ cond (last_ended e rs) (10 ∷ []) []
ending_rows e [] = refl
ending_rows e (r ∷ rs) = ending_step e r rs (is_nil r.text) refl (ending_rows e rs) (ending_rows r.ended rs)

ending_start : (ss : List Row) → last_end ss ≡ ending false ss
ending_start [] = refl
ending_start (s ∷ ss) = refl

-- the last line end, in one go
pub rows_end : (rs : List Row) → last_end (filled rs) ≡ cond (last_ended false rs) (10 ∷ []) []
rows_end rs = ending_start (filled rs) ∙ ending_rows false rs

-- ---- the whole scalar

abbrev some_text : List ℕ → Option (List ℕ)
some_text t = Some t

pub block_is : (fold keep ended : Bool) (ls : List Line) (m : ℕ) (text whole : List ℕ) → Some m ≡ inner_indent ls → is_level m ls ≡ true → is_led m ls ≡ true
    → text ≡ rows_on fold None 0 (rows m ls) → ended ≡ last_ended false (rows m ls) → whole ≡ text ++ cond keep (cond ended (10 ∷ []) []) []
    → block_text fold keep ls ≡ Some whole
block_is fold keep ended ls m text whole i l d t e w =
    let rs = rows m ls in
    ap (text_at fold keep ls) (sym i)
    ∙ ap (λ (b : Bool). cond (b && is_led m ls) (some_text (text_of_rows fold keep (filled rs))) None) l
    ∙ ap (λ (b : Bool). cond b (some_text (text_of_rows fold keep (filled rs))) None) d
    ∙ ap (λ (t : List ℕ). some_text (t ++ cond keep (last_end (filled rs)) [])) (rows_text fold rs ∙ sym t)
    ∙ ap (λ (t : List ℕ). some_text (text ++ cond keep t [])) (rows_end rs ∙ ap (λ (b : Bool). cond b (10 ∷ []) []) (sym e))
    ∙ ap some_text (sym w)
