-- What names mean, one statement after another, and in other modules.
use Rattle.std.proofs.Common.{◌≡◌, ℕ, Bool, true, false, cond, List, [], ◌∷◌, ◌++◌, map, Option, refl, sym, ap, ◌∙◌}
use Rattle.std.specs.Prelude.{find, ◌==◌}
use Rattle.std.proofs.lemmas.Bool.Decides.{Decides-eqb}
use Rattle.std.proofs.lemmas.List.{append_assoc, append-nil, map-append}
use Rattle.yspec.specs.Forest.{Forest, end, node, row}
use Rattle.yspec.specs.text.Text.{Text}
use Rattle.yspec.specs.linking.Keyword.{Keyword}
use Rattle.yspec.specs.linking.Imports.{body_at}
use Rattle.yspec.specs.linking.Source.{Source}
use Rattle.yspec.specs.linking.Scopes.{Placed, placed, defines, around, defined_in}
use Rattle.ylink_names.specs.DefinitionView.{first_number}
use Rattle.ylink_names.specs.MeaningView.{numbered}
use Rattle.ylink_names.specs.ScopeView.{placed_at}

-- ---- a definition at the top of another module

pub defined_there : (modules : Forest Source) (k : Keyword) (name : Text) (p : Placed) (m home : ℕ) (found : Option ℕ)
    → found ≡ first_number k name (row (body_at modules m)) → (m ≡ home → ⊥) → home ≡ p.source.home
    → found ≡ numbered (defined_in modules k name p m)
defined_there modules k name p m home found is other same =
    is ∙ sym (ap (λ b. numbered (cond b (find (defines k name) (around p.ancestors)) (find (defines k name) (row (body_at modules m)))))
    (ap (λ h. m == h) (sym same) ∙ differs (m == home) refl))
  where
    differs : (b : Bool) → (m == home) ≡ b → b ≡ false
    differs false e = refl
    differs true e = absurd (other ((Decides-eqb m home).0 e))

-- ---- one statement after another

module _ {A : Type 0} (f : Placed → A) (ancestors : List (Source × Forest Source)) where
  pub next_meant : (s : Source) (below after before : Forest Source) → before ≡ node s below after
      → (so_far mid more whole : List A) (x : A)
      → mid ≡ so_far ++ x ∷ [] → x ≡ f (placed_at s below ancestors)
      → more ≡ mid ++ map f (placed ((s, below) ∷ ancestors) below)
      → so_far ++ map f (placed ancestors before) ≡ whole → more ++ map f (placed ancestors after) ≡ whole
  unfolding placed
  next_meant s below after before first so_far mid more whole x pushed is added made =
      let under = placed ((s, below) ∷ ancestors) below in
      let behind = placed ancestors after in
      let inner = map f under in
      let rest = map f behind in
      ap (λ l. l ++ rest) added
      ∙ (ap (λ l. (l ++ inner) ++ rest) pushed
      ∙ (append_assoc (so_far ++ x ∷ []) inner rest
      ∙ (append_assoc so_far (x ∷ []) (inner ++ rest)
      ∙ (ap (λ y. so_far ++ y ∷ (inner ++ rest)) is
      ∙ (ap (λ l. so_far ++ f (placed_at s below ancestors) ∷ l) (sym (map-append f under behind))
      ∙ (sym (ap (λ g. so_far ++ map f (placed ancestors g)) first) ∙ made))))))

  pub all_meant : (left : Forest Source) (so_far whole : List A) → left ≡ end
      → so_far ++ map f (placed ancestors left) ≡ whole → so_far ≡ whole
  unfolding placed
  all_meant left so_far whole ended made =
      sym (ap (λ g. so_far ++ map f (placed ancestors g)) ended ∙ append-nil so_far) ∙ made
