use Rattle.std.proofs.Common.{◌≡◌, ◌++◌, Some, None, get_or, map, ap, ◌∙◌, rules}
use Rattle.std.specs.Prelude.{position}
use Rattle.ylink_conditions.specs.View.{ends_word, own_tokens, token_view}
use Rattle.ylink_conditions.proofs.WordLemmas.{next_word, last_word}
use Rattle.ylink_conditions.proofs.words.tokens_of.Goals as goal

pub loop-at-preserved : goal.loop-at-preserved
loop-at-preserved c =
    let t = c.loop-at.rest.now in
    let n = c.in-Some.at in
    let found : position ends_word t ≡ Some n = search rules in
    let mid = map token_view c.add_word.new.tokens.items in (
      next_word t c.parts_around.result.0.now c.parts_around.result.1.now n 0 found c.parts_around.ensures.before c.parts_around.ensures.behind
          (map token_view c.loop-at.tokens.items) mid (map token_view c.add_end.new.tokens.items) _
          c.in_ok-add_word.ensures (c.in_ok-add_end.ensures ∙ ap (λ b. mid ++ own_tokens (get_or b n 0)) c.as_bytes-in-Some.ensures.value) c.loop-at.invariant.0,
      search rules,
    )

pub returns : goal.returns
returns c =
    let t = c.loop-at.rest.now in
    let none : position ends_word t ≡ None = search rules in
    last_word t none (map token_view c.loop-at.tokens.items) (map token_view c.add_word-2.new.tokens.items) _ c.in_ok-add_word-2.ensures c.loop-at.invariant.0
