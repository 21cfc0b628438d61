-- Texts that end before what they should look like.
use Rattle.std.proofs.Common.{◌≡◌, ℕ, ◌<◌, Bool, false, [], ◌∷◌, length, drop, sym, ◌∙◌, arith}
use Rattle.std.proofs.lemmas.List.{at_drop_more}
use Rattle.yspec.specs.text.Text.{Text}
use Rattle.yspec.specs.linking.Arguments.{looks_like}

pub no_more : (shape : Text) (i : ℕ) (rest : Text) (whole : Bool) → i < length shape → length rest ≡ 0 → looks_like (drop i shape) rest ≡ whole → false ≡ whole
no_more shape i [] whole h e so_far =
    sym (at_drop_more (λ (s : Text). looks_like s []) shape i 0 h) ∙ so_far
no_more shape i (x ∷ xs) whole h e so_far = absurd (omega (arith, e))
