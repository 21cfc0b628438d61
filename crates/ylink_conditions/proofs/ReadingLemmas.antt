-- Reading by so many steps, one step after another.
use Rattle.std.proofs.Common.{◌≡◌, ℕ, suc, List, None, sym, ap, ◌∙◌}
use Rattle.yspec_wide.specs.Expressions as spec
use Rattle.yspec_wide.specs.Expressions.{Token, Level, read}

pub read_none : (n : ℕ) (level : Level) (tokens : List Token) → n ≡ 0 → None ≡ read n level tokens
unfolding read
read_none n level tokens e = sym (ap (λ k. read k level tokens) e)

module _ (n m : ℕ) (tokens : List Token) (e : n ≡ suc m) where
  pub read_expression : (first : spec.Read) → first ≡ read m spec.term tokens → spec.behind_term (read m) first ≡ read n spec.expr tokens
  unfolding read
  read_expression first is = ap (spec.behind_term (read m)) is ∙ sym (ap (λ k. read k spec.expr tokens) e)

  pub read_term : (first : spec.Read) → first ≡ read m spec.factor tokens → spec.behind_factor (read m) first ≡ read n spec.term tokens
  unfolding read
  read_term first is = ap (spec.behind_factor (read m)) is ∙ sym (ap (λ k. read k spec.term tokens) e)

  pub read_factor : spec.one_factor (read m) tokens ≡ read n spec.factor tokens
  unfolding read
  read_factor = sym (ap (λ k. read k spec.factor tokens) e)
