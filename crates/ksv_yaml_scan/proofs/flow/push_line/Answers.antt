use Rattle.ksv_yaml_scan.proofs.Common.{◌≡◌, ℕ, Bool, false, List, [], ◌∷◌, ◌++◌, Some, sym, ap, subst, ◌∙◌, All, HasNumber, Token, both, tokens_view}
use Rattle.std.proofs.lemmas.List.{map_push}
use Rattle.std.proofs.lemmas.List.Elements.{All-push}
use Rattle.ksv_yaml_scan.specs.declared.flow.Token.{Token as CodeToken}
use Rattle.ksv_yaml_scan.specs.Lines.{Line as LineOf}
use Rattle.ksv_yaml_scan.specs.Tokens.{cut, Part}
use Rattle.ksv_yaml_scan.specs.Views.{cut_view, token_view}
use Rattle.ksv_yaml_scan.proofs.Parts.{rest_tokens, rest_white, rest_part, both_token, white_shorter, part_shorter}
use Rattle.ksv_yaml_scan.proofs.flow.push_line.Goals as goal

-- a part more
pushed : (old new : List CodeToken) (t : CodeToken) (number : ℕ) (w : Bool) (cs ds : List ℕ) → new ≡ old ++ t ∷ [] → cut number w cs ≡ Part (token_view t) ds
    → both (Some (tokens_view new)) (rest_tokens number false ds) ≡ both (Some (tokens_view old)) (rest_tokens number w cs)
pushed old new t number w cs ds e k =
    ap (λ (ts : List CodeToken). both (Some (tokens_view ts)) (rest_tokens number false ds)) e
    ∙ ap (λ (ts : List Token). both (Some ts) (rest_tokens number false ds)) (map_push token_view old t)
    ∙ sym (both_token (tokens_view old) (token_view t) (rest_tokens number false ds))
    ∙ ap (both (Some (tokens_view old))) (sym (rest_part number w cs ds (token_view t) k))

-- with the line's number
pushed_number : (ls : List LineOf) (old new : List CodeToken) (t : CodeToken) → new ≡ old ++ t ∷ [] → HasNumber ls t.line → All (λ t. HasNumber ls t.line) old
    → All (λ t. HasNumber ls t.line) new
pushed_number ls old new t e h a = let P : List CodeToken
    → Type 0 = λ ts. All (λ t. HasNumber ls t.line) ts in subst P (sym e) (All-push (λ t. HasNumber ls t.line) old t a h)

pub parts-smaller-in-White : goal.parts-smaller-in-White
parts-smaller-in-White c = white_shorter c.args.line.number c.parts.white c.parts.rest.now c.in-White.behind.now
    (c.in_ok-cut_part.ensures c.args.line.number ∙ ap (cut_view c.args.line.number) c.in-White.is)

pub parts-preserved-in-White : goal.parts-preserved-in-White
parts-preserved-in-White c =
    let n = c.args.line.number in
    let e = c.in_ok-cut_part.ensures n ∙ ap (cut_view n) c.in-White.is in (
      ap (both (Some (tokens_view c.parts.tokens.items))) (sym (rest_white n c.parts.white c.parts.rest.now c.in-White.behind.now e))
          ∙ c.parts.invariant.0,
      c.parts.invariant.1,
    )

pub parts-smaller : goal.parts-smaller
parts-smaller c =
    let n = c.args.line.number in
    let t : CodeToken = record { line = n; part = c.in-Part.part } in
    part_shorter n c.parts.white c.parts.rest.now c.in-Part.behind.now (token_view t) (c.in_ok-cut_part.ensures n ∙ ap (cut_view n) c.in-Part.is)

pub parts-preserved : goal.parts-preserved
parts-preserved c =
    let n = c.args.line.number in
    let t : CodeToken = record { line = n; part = c.in-Part.part } in
    let e = c.in_ok-cut_part.ensures n ∙ ap (cut_view n) c.in-Part.is in (
      pushed c.parts.tokens.items c.push.new.self.items t n c.parts.white c.parts.rest.now c.in-Part.behind.now c.in_ok-push-in-Part.ensures.items e
          ∙ c.parts.invariant.0,
      λ ls h a. pushed_number ls c.parts.tokens.items c.push.new.self.items t c.in_ok-push-in-Part.ensures.items h (c.parts.invariant.1 ls h a),
    )
