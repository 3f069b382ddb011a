-- Reading as equations without a bound on calls.
use Rattle.ksv_expr_syntax.proofs.Common.{◌≡◌, ℕ, suc, ◌+◌, ◌*◌, List, [], ◌∷◌, length, Option, None, refl, ◌∙◌, arith, if◌then◌else◌, Symbol}
use Rattle.ksv_expr_syntax.proofs.Common.{UnaryOperator, Precedence, Tree, literal, unary, binary, choice, call, index, cast, no_arguments, argument, Lexeme}
use Rattle.ksv_expr_syntax.proofs.Common.{constant, word, symbol, Whole, Joined, Negation, Comparison, Prefix, Postfix, Primary, tighter, join_tree}
use Rattle.ksv_expr_syntax.proofs.Common.{select_tree, is_left_out, Found, FoundList, found, found_list, ◌>>=◌, choose, spend, after, operator_at}
use Rattle.ksv_expr_syntax.proofs.Common.{comparison_at, prefix_at, path_at, path_on, path_tree, picks, arms, joins, negates, compares, prefixes}
use Rattle.ksv_expr_syntax.proofs.Common.{goes_on, groups, reads_more, room, wide, read, read_list}
use Rattle.ksv_expr_syntax.specs.declared.token.Symbol.TheVariants as tok
use Rattle.ksv_expr_tree.specs.declared.tree.UnaryOperator.TheVariants as unaries
use Rattle.ksv_expr_syntax.specs.declared.token.Precedence.TheVariants as tier
use Rattle.ksv_expr_syntax.specs.Reading.{place_on, select_on}
use Rattle.ksv_expr_syntax.proofs.Same.{shrinks, after_shrinks, operator_shrinks, comparison_shrinks, prefix_shrinks, places_shrinks, selects_shrinks}
use Rattle.ksv_expr_syntax.proofs.Same.{bind_same, choose_same, spend_same, room_tighter, room_least, room_most, same_reads, same_picks, same_arms, same_joins}
use Rattle.ksv_expr_syntax.proofs.Same.{same_negates, same_compares, same_prefixes, same_goes_on, same_places, same_selects, same_groups, same_list, same_more}

-- what each step of reading finds with enough calls
unfoldable pub pick_on : Tree → ℕ → List Lexeme → ℕ → Option Found
pick_on e d ts p = picks (wide ts) e d ts p

unfoldable pub arm_on : Tree → ℕ → List Lexeme → ℕ → Option Found
arm_on e d ts p = arms (wide ts) e d ts p

unfoldable pub join_on : Precedence → Tree → ℕ → List Lexeme → ℕ → Option Found
join_on k e d ts p = joins (wide ts) k e d ts p

unfoldable pub negate_on : ℕ → List Lexeme → ℕ → Option Found
negate_on d ts p = negates (wide ts) d ts p

unfoldable pub compare_on : Tree → ℕ → List Lexeme → ℕ → Option Found
compare_on e d ts p = compares (wide ts) e d ts p

unfoldable pub prefix_on : UnaryOperator → ℕ → List Lexeme → ℕ → Option Found
prefix_on op d ts p = prefixes (wide ts) op d ts p

unfoldable pub suffix_on : Tree → ℕ → List Lexeme → ℕ → Option Found
suffix_on e d ts p = goes_on (wide ts) e d ts p

unfoldable pub group_on : ℕ → List Lexeme → ℕ → Option Found
group_on d ts p = groups (wide ts) d ts p

unfoldable pub more_on : ℕ → List Lexeme → ℕ → Option FoundList
more_on d ts p = reads_more (32 * length ts + 19) d ts p

pub read_whole : (d : ℕ) (ts : List Lexeme) (p : ℕ) → read Whole d ts p ≡ (read (Joined tier.Or) d ts p >>= λ a. pick_on a.tree d a.rest a.left)
unfolding read pick_on
read_whole d ts p =
    let n = room Whole ts in
    same_reads n (suc n) Whole d ts p (omega arith) (omega arith)
    ∙ bind_same _ _ _ _
    (same_reads n (room (Joined tier.Or) ts) (Joined tier.Or) d ts p (omega arith) (omega arith))
    (λ a e. let s = shrinks n (Joined tier.Or) d ts p a e in same_picks n (wide a.rest) a.tree d a.rest a.left (omega arith) (omega arith))

pub pick_on_is : (e : Tree) (d : ℕ) (ts : List Lexeme) (p : ℕ) → pick_on e d ts p ≡ choose (after tok.Question ts) (found e ts p) (λ us. arm_on e d us p)
unfolding pick_on arm_on
pick_on_is e d ts p =
    let n = wide ts in
    same_picks n (suc n) e d ts p (omega arith) (omega arith)
    ∙ choose_same (after tok.Question ts) _ _ _ _ refl
    (λ us i. let s = after_shrinks tok.Question ts us i in same_arms n (wide us) e d us p (omega arith) (omega arith))

pub arm_on_is : (e : Tree) (d : ℕ) (ts : List Lexeme) (p : ℕ)
    → arm_on e d ts p ≡ spend d
    (λ d. spend p (λ p. read Whole d ts p >>= λ a. after tok.Colon a.rest >>= λ us. read Whole d us a.left
    >>= λ b. found (choice e a.tree b.tree) b.rest b.left))
unfolding arm_on read
arm_on_is e d ts p =
    let n = wide ts in
    same_arms n (suc n) e d ts p (omega arith) (omega arith)
    ∙ spend_same d _ _ (λ d. spend_same p _ _ (λ p.
    bind_same _ _ _
    _
    (same_reads n (room Whole ts) Whole d ts p (omega arith) (omega arith))
    (λ a i. let s = shrinks n Whole d ts p a i in
    bind_same (after tok.Colon a.rest) _ _
    _ refl
    (λ us j. let t = after_shrinks tok.Colon a.rest us j in rw (same_reads n (room Whole us) Whole d us a.left (omega arith) (omega arith))))))

pub read_joined : (k : Precedence) (d : ℕ) (ts : List Lexeme) (p : ℕ)
    → read (Joined k) d ts p ≡ (read (tighter k) d ts p >>= λ a. join_on k a.tree d a.rest a.left)
unfolding read join_on
read_joined k d ts p =
    let n = room (Joined k) ts in let r = room_tighter k ts in let least = room_least (Joined k) ts in
    same_reads n (suc n) (Joined k) d ts p (omega arith) (omega arith)
    ∙ bind_same _ _ _ _
    (same_reads n (room (tighter k) ts) (tighter k) d ts p (omega arith) (omega arith))
    (λ a e. let s = shrinks n (tighter k) d ts p a e in same_joins n (wide a.rest) k a.tree d a.rest a.left (omega arith) (omega arith))

pub join_on_is : (k : Precedence) (e : Tree) (d : ℕ) (ts : List Lexeme) (p : ℕ)
    → join_on k e d ts p ≡ choose (operator_at k ts) (found e ts p)
    (λ x. spend p (λ p. read (tighter k) d x.behind p >>= λ a. join_on k (join_tree x.what e a.tree) d a.rest a.left))
unfolding read join_on
join_on_is k e d ts p =
    let n = wide ts in
    same_joins n (suc n) k e d ts p (omega arith) (omega arith)
    ∙ choose_same (operator_at k ts) _ _ _
    _ refl
    (λ x i. let s = operator_shrinks k ts x i in let r = room_most (tighter k) x.behind in
    spend_same p _ _ (λ p. bind_same _ _ _
    _
    (same_reads n (room (tighter k) x.behind) (tighter k) d x.behind p (omega arith) (omega arith))
    (λ a j. let u = shrinks n (tighter k) d x.behind p a j in same_joins n (wide a.rest) k (join_tree x.what e a.tree) d a.rest a.left (omega arith)
    (omega arith))))

pub read_negation : (d : ℕ) (ts : List Lexeme) (p : ℕ) → read Negation d ts p ≡ choose (after tok.Not ts) (read Comparison d ts p) (λ us. negate_on d us p)
unfolding read negate_on
read_negation d ts p =
    let n = room Negation ts in
    same_reads n (suc n) Negation d ts p (omega arith) (omega arith)
    ∙ choose_same (after tok.Not ts) _ _ _ _
    (same_reads n (room Comparison ts) Comparison d ts p (omega arith) (omega arith))
    (λ us e. let s = after_shrinks tok.Not ts us e in same_negates n (wide us) d us p (omega arith) (omega arith))

pub negate_on_is : (d : ℕ) (ts : List Lexeme) (p : ℕ)
    → negate_on d ts p ≡ spend d (λ d. spend p (λ p. read Negation d ts p >>= λ a. found (unary unaries.Not a.tree) a.rest a.left))
unfolding read negate_on
negate_on_is d ts p =
    let n = wide ts in
    same_negates n (suc n) d ts p (omega arith) (omega arith)
    ∙ spend_same d _ _ (λ d. spend_same p _ _
    (λ p. rw (same_reads n (room Negation ts) Negation d ts p (omega arith) (omega arith))))

pub read_comparison : (d : ℕ) (ts : List Lexeme) (p : ℕ) → read Comparison d ts p ≡ (read (Joined tier.BitOr) d ts p >>= λ a. compare_on a.tree d a.rest a.left)
unfolding read compare_on
read_comparison d ts p =
    let n = room Comparison ts in
    same_reads n (suc n) Comparison d ts p (omega arith) (omega arith)
    ∙ bind_same _ _ _ _
    (same_reads n (room (Joined tier.BitOr) ts) (Joined tier.BitOr) d ts p (omega arith) (omega arith))
    (λ a e. let s = shrinks n (Joined tier.BitOr) d ts p a e in same_compares n (wide a.rest) a.tree d a.rest a.left (omega arith) (omega arith))

pub compare_on_is : (e : Tree) (d : ℕ) (ts : List Lexeme) (p : ℕ)
    → compare_on e d ts p ≡ choose (comparison_at ts) (found e ts p)
    (λ x. spend p (λ p. read (Joined tier.BitOr) d x.behind p >>= λ a. found (binary x.what e a.tree) a.rest a.left))
unfolding read compare_on
compare_on_is e d ts p =
    let n = wide ts in
    same_compares n (suc n) e d ts p (omega arith) (omega arith)
    ∙ choose_same (comparison_at ts) _ _ _
    _
    refl
    (λ x i. let s = comparison_shrinks ts x i in
    spend_same p _ _ (λ p. rw (same_reads n (room (Joined tier.BitOr) x.behind) (Joined tier.BitOr) d x.behind p (omega arith) (omega arith))))

pub read_prefix : (d : ℕ) (ts : List Lexeme) (p : ℕ) → read Prefix d ts p ≡ choose (prefix_at ts) (read Postfix d ts p) (λ x. prefix_on x.what d x.behind p)
unfolding read prefix_on
read_prefix d ts p =
    let n = room Prefix ts in
    same_reads n (suc n) Prefix d ts p (omega arith) (omega arith)
    ∙ choose_same (prefix_at ts) _ _ _ _
    (same_reads n (room Postfix ts) Postfix d ts p (omega arith) (omega arith))
    (λ x e. let s = prefix_shrinks ts x e in same_prefixes n (wide x.behind) x.what d x.behind p (omega arith) (omega arith))

pub prefix_on_is : (op : UnaryOperator) (d : ℕ) (ts : List Lexeme) (p : ℕ)
    → prefix_on op d ts p ≡ spend d (λ d. spend p (λ p. read Prefix d ts p >>= λ a. found (unary op a.tree) a.rest a.left))
unfolding read prefix_on
prefix_on_is op d ts p =
    let n = wide ts in
    same_prefixes n (suc n) op d ts p (omega arith) (omega arith)
    ∙ spend_same d _ _ (λ d. spend_same p _ _
    (λ p. rw (same_reads n (room Prefix ts) Prefix d ts p (omega arith) (omega arith))))

pub read_postfix : (d : ℕ) (ts : List Lexeme) (p : ℕ) → read Postfix d ts p ≡ (read Primary d ts p >>= λ a. suffix_on a.tree d a.rest a.left)
unfolding read suffix_on
read_postfix d ts p =
    let n = room Postfix ts in
    same_reads n (suc n) Postfix d ts p (omega arith) (omega arith)
    ∙ bind_same _ _ _ _
    (same_reads n (room Primary ts) Primary d ts p (omega arith) (omega arith))
    (λ a e. let s = shrinks n Primary d ts p a e in same_goes_on n (wide a.rest) a.tree d a.rest a.left (omega arith) (omega arith))

pub suffix_on_is : (e : Tree) (d : ℕ) (ts : List Lexeme) (p : ℕ)
    → suffix_on e d ts p
    ≡ choose (after tok.Dot ts) (choose (after tok.OpenBracket ts) (found e ts p) (λ us. place_on e d us p >>= λ a. suffix_on a.tree d a.rest a.left))
    (λ us. select_on e d us p >>= λ a. suffix_on a.tree d a.rest a.left)
unfolding suffix_on place_on select_on
suffix_on_is e d ts p =
    let n = wide ts in
    same_goes_on n (suc n) e d ts p (omega arith) (omega arith)
    ∙ choose_same (after tok.Dot ts) _ _ _
    _
    (choose_same (after tok.OpenBracket ts) _ _ _
    _ refl
    (λ us i. let s = after_shrinks tok.OpenBracket ts us i in
    bind_same _ _ _ _
    (same_places n (wide us) e d us p (omega arith) (omega arith))
    (λ a j. let t = places_shrinks n e d us p a j in same_goes_on n (wide a.rest) a.tree d a.rest a.left (omega arith) (omega arith))))
    (λ us i. let s = after_shrinks tok.Dot ts us i in
    bind_same _ _ _ _
    (same_selects n (wide us) e d us p (omega arith) (omega arith))
    (λ a j. let t = selects_shrinks n e d us p a j in same_goes_on n (wide a.rest) a.tree d a.rest a.left (omega arith) (omega arith)))

pub place_on_is : (e : Tree) (d : ℕ) (ts : List Lexeme) (p : ℕ)
    → place_on e d ts p ≡ spend d (λ d. spend p (λ p. read Whole d ts p >>= λ a. after tok.CloseBracket a.rest >>= λ us. found (index e a.tree) us a.left))
unfolding read place_on
place_on_is e d ts p =
    let n = wide ts in
    same_places n (suc n) e d ts p (omega arith) (omega arith)
    ∙ spend_same d _ _ (λ d. spend_same p _ _
    (λ p. rw (same_reads n (room Whole ts) Whole d ts p (omega arith) (omega arith))))

pub select_word : (e : Tree) (d : ℕ) (w : List ℕ) (ts : List Lexeme) (p : ℕ)
    → select_on e d (word w ∷ ts) p
    ≡ spend p (λ p. choose (after tok.OpenParenthesis ts) (found (select_tree e w) ts p)
    (λ us. spend d (λ d. read_list d us p >>= λ a. found (call e w a.arguments) a.rest a.left)))
unfolding select_on read_list
select_word e d w ts p =
    let n = wide (word w ∷ ts) in
    same_selects n (suc n) e d (word w ∷ ts) p (omega arith) (omega arith)
    ∙ spend_same p _ _ (λ p. choose_same (after tok.OpenParenthesis ts) _ _
    _
    _ refl
    (λ us i. let s = after_shrinks tok.OpenParenthesis ts us i in spend_same d _ _
    (λ d. rw (same_list n (wide us) d us p (omega arith) (omega arith)))))

pub select_symbol : (e : Tree) (d : ℕ) (s : Symbol) (ts : List Lexeme) (p : ℕ)
    → select_on e d (symbol s ∷ ts) p
    ≡ spend p (λ p. after tok.As (symbol s ∷ ts) >>= λ us. after tok.Less us >>= λ vs. path_at vs >>= λ x. after tok.Greater x.behind
    >>= λ ws. found (cast e (record { path = x.what; number = None })) ws p)
unfolding select_on
select_symbol e d s ts p = let n = wide (symbol s ∷ ts) in same_selects n (suc n) e d (symbol s ∷ ts) p (omega arith) (omega arith)

pub select_constant : (e : Tree) (d : ℕ) (ts : List Lexeme) (p : ℕ) (c : _) → select_on e d (constant c ∷ ts) p ≡ None
unfolding select_on
select_constant e d ts p c = let n = wide (constant c ∷ ts) in same_selects n (suc n) e d (constant c ∷ ts) p (omega arith) (omega arith)

pub select_end : (e : Tree) (d : ℕ) (p : ℕ) → select_on e d [] p ≡ None
unfolding select_on
select_end e d p = same_selects (wide []) (suc (wide [])) e d [] p (omega arith) (omega arith)

pub primary_end : (d : ℕ) (p : ℕ) → read Primary d [] p ≡ None
unfolding read
primary_end d p = same_reads (room Primary []) (suc (room Primary [])) Primary d [] p (omega arith) (omega arith)

pub primary_constant : (d : ℕ) (ts : List Lexeme) (p : ℕ) (c : _) → read Primary d (constant c ∷ ts) p ≡ spend p (λ p. found (literal c) ts p)
unfolding read
primary_constant d ts p c = let n = room Primary (constant c ∷ ts) in same_reads n (suc n) Primary d (constant c ∷ ts) p (omega arith) (omega arith)

pub primary_word : (d : ℕ) (w : List ℕ) (ts : List Lexeme) (p : ℕ)
    → read Primary d (word w ∷ ts) p ≡ (if is_left_out w then None else (path_on w ts >>= λ x. spend p (λ p. found (path_tree x.what) x.behind p)))
unfolding read
primary_word d w ts p = let n = room Primary (word w ∷ ts) in same_reads n (suc n) Primary d (word w ∷ ts) p (omega arith) (omega arith)

pub primary_symbol : (d : ℕ) (s : Symbol) (ts : List Lexeme) (p : ℕ)
    → read Primary d (symbol s ∷ ts) p ≡ (after tok.OpenParenthesis (symbol s ∷ ts) >>= λ us. group_on d us p)
unfolding read group_on
primary_symbol d s ts p =
    let n = room Primary (symbol s ∷ ts) in
    same_reads n (suc n) Primary d (symbol s ∷ ts) p (omega arith) (omega arith)
    ∙ bind_same (after tok.OpenParenthesis (symbol s ∷ ts)) _ _ _ refl
    (λ us e. let t = after_shrinks tok.OpenParenthesis (symbol s ∷ ts) us e in same_groups n (wide us) d us p (omega arith) (omega arith))

pub group_on_is : (d : ℕ) (ts : List Lexeme) (p : ℕ)
    → group_on d ts p ≡ spend d (λ d. read Whole d ts p >>= λ a. after tok.CloseParenthesis a.rest >>= λ us. found a.tree us a.left)
unfolding read group_on
group_on_is d ts p =
    let n = wide ts in
    same_groups n (suc n) d ts p (omega arith) (omega arith)
    ∙ spend_same d _ _ (λ d. rw (same_reads n (room Whole ts) Whole d ts p (omega arith) (omega arith)))

pub read_list_is : (d : ℕ) (ts : List Lexeme) (p : ℕ)
    → read_list d ts p ≡ choose (after tok.CloseParenthesis ts) (more_on d ts p) (λ us. found_list no_arguments us p)
unfolding read_list more_on
read_list_is d ts p =
    let n = wide ts in
    same_list n (suc n) d ts p (omega arith) (omega arith)
    ∙ choose_same (after tok.CloseParenthesis ts) _ _ _ _
    (same_more n (32 * length ts + 19) d ts p (omega arith) (omega arith)) (λ us i. refl)

pub more_on_is : (d : ℕ) (ts : List Lexeme) (p : ℕ)
    → more_on d ts p ≡ (read Whole d ts p >>= λ a. choose (after tok.Comma a.rest)
    (after tok.CloseParenthesis a.rest >>= λ us. found_list (argument a.tree no_arguments) us a.left)
    (λ us. more_on d us a.left >>= λ b. found_list (argument a.tree b.arguments) b.rest b.left))
unfolding read more_on
more_on_is d ts p =
    let n = 32 * length ts + 19 in
    same_more n (suc n) d ts p (omega arith) (omega arith)
    ∙ bind_same _ _ _
    _
    (same_reads n (room Whole ts) Whole d ts p (omega arith) (omega arith))
    (λ a i. let s = shrinks n Whole d ts p a i in
    choose_same (after tok.Comma a.rest) _ _ _
    _ refl
    (λ us j. let t = after_shrinks tok.Comma a.rest us j in rw (same_more n (32 * length us + 19) d us a.left (omega arith) (omega arith))))
