-- Wrong members of unions, one after another.
use Rattle.std.proofs.Common.{◌≡◌, ℕ, ◌+◌, ◌<◌, ◌||◌, Bool, true, false, List, ◌∷◌, length, map, drop, get_or, sym, ap, ◌∙◌}
use Rattle.std.specs.List.{list_any}
use Rattle.std.proofs.lemmas.List.{at_drop_more}
use Rattle.yspec.specs.linking.NodeBreaks.{is_wrong_member}
use Rattle.yspec.specs.linking.Planned.{Planned, Plan}
use Rattle.ylink_types.specs.declared.types.Member.{Member}
use Rattle.ylink_types.specs.TypeView.{member_view}

module _ (plan : Plan) (p : Planned) (ms : List Member) (i : ℕ) (m : Member) (within : i < length ms) (is : m ≡ get_or ms i m) (b : Bool) (wrong : b ≡ is_wrong_member plan p (member_view m)) where
  abbrev others_wrong : Bool
  others_wrong = list_any (is_wrong_member plan p) (map member_view (drop (i + 1) ms))

  first_wrong : list_any (is_wrong_member plan p) (map member_view (drop i ms)) ≡ (b || others_wrong)
  first_wrong = at_drop_more (λ l. list_any (is_wrong_member plan p) (map member_view l)) ms i m within
      ∙ (ap (λ x. list_any (is_wrong_member plan p) (map member_view (x ∷ drop (i + 1) ms))) (sym is) ∙ ap (λ c. c || others_wrong) (sym wrong))

  pub wrong_here : (whole : Bool) → b ≡ true → list_any (is_wrong_member plan p) (map member_view (drop i ms)) ≡ whole → true ≡ whole
  wrong_here whole holds so_far = sym (first_wrong ∙ ap (λ c. c || others_wrong) holds) ∙ so_far

  pub right_so_far : (whole : Bool) → b ≡ false → list_any (is_wrong_member plan p) (map member_view (drop i ms)) ≡ whole
      → list_any (is_wrong_member plan p) (map member_view (drop (i + 1) ms)) ≡ whole
  right_so_far whole fails so_far = sym (first_wrong ∙ ap (λ c. c || others_wrong) fails) ∙ so_far
