-- Where all parts stand, nothing is cut.
use Rattle.std.proofs.Common.{◌≡◌, Bool, true, false, not, ◌&&◌, cond, Option, Some, None, refl, ap, ap₂, ◌∙◌}
use Rattle.std.proofs.lemmas.Bool.{and_parts, and_right}
use Rattle.std.specs.Option.{option_map_or}
use Rattle.yspec.specs.Forest.{Forest, end, node}
use Rattle.yspec.specs.text.Text.{Text}
use Rattle.yspec.specs.linking.Source.{is_source_of, argument_with}
use Rattle.yspec.specs.linking.Keyword as word
use Rattle.yspec.specs.linking.Parts.{Part}
use Rattle.yspec_wide.specs.Standing.{is_implied_case, is_none, has_case, is_default_off, with_default_on, without_default, left_with, standing_by, all_stand}

not_both : (b : Bool) → (b && not b) ≡ false
not_both true = refl
not_both false = refl

none_lost : (p : Part) (cases : Forest Part) (name : Option Text)
    → option_map_or (λ name. has_case p name cases && not (has_case p name cases)) name false ≡ false
none_lost p cases None = refl
none_lost p cases (Some name) = not_both (has_case p name cases)

default_on : (p : Part) (cases : Forest Part) → is_default_off p cases cases ≡ false
default_on p cases = and_right (is_source_of word.choice_word p.source) _ (none_lost p cases (argument_with word.default_word p.own))

kept_on : (p : Part) (cases : Forest Part) → with_default_on p cases cases ≡ p
kept_on p cases = ap (λ b. cond b (record p { own = without_default p.own }) p) (default_on p cases)

left_alike : (p : Part) (below after : Forest Part) → left_with p below below after ≡ node p below after
left_alike p below after =
    ap (λ b. cond b after (node (with_default_on p below below) below after)) (and_right (is_implied_case p) _ (not_both (is_none below)))
    ∙ ap (λ q. node q below after) (kept_on p below)

pub all_stand_alike : (test : Part → Bool) (parts : Forest Part) → all_stand test parts ≡ true → standing_by test parts ≡ parts
unfolding all_stand standing_by
all_stand_alike test end e = refl
all_stand_alike test (node p below after) e =
    let here = and_parts _ _ e in let inside = and_parts _ _ here.1 in
    ap (λ b. cond b (left_with p below (standing_by test below) (standing_by test after)) (standing_by test after)) here.0
    ∙ (ap₂ (λ f g. left_with p below f g) (all_stand_alike test below inside.0) (all_stand_alike test after inside.1)
    ∙ left_alike p below after)
