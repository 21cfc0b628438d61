use Rattle.std.proofs.Common.{Bor, List, ℕ, Some, None, ◌++◌, ap, ap₂, map, position, sym, ◌∙◌, rules}
use Rattle.std.proofs.lemmas.Result.{IfOk-weaker}
use Rattle.yspec_search.specs.Search.{is_slash, prefix_of_step, prefixes_in}
use Rattle.ylink_search.proofs.SplitLemmas.{ended, stepped}
use Rattle.ylink_search.proofs.importing.add_prefixes.Goals as goal

pub loop-slash-preserved : goal.loop-slash-preserved
loop-slash-preserved c =
    let texts = map (λ (t : Bor (List ℕ)). t.now) in
    let stands = ap (position is_slash) (sym c.as_bytes.ensures.value) ∙ (sym c.in-Some.ensures.value) in (
      search rules,
      ap₂ (λ (ps : List (List ℕ)) (t : List ℕ). ps ++ prefixes_in t)
          (c.in_ok-add_prefix.ensures ∙ ap (λ (t : List ℕ). texts c.loop-slash.prefixes.items ++ prefix_of_step t) c.parts_around.ensures.before)
          c.parts_around.ensures.behind
          ∙ stepped (texts c.loop-slash.prefixes.items) _ c.loop-slash.rest.now c.in-Some.slash stands c.loop-slash.invariant.1,
    )

pub returns : goal.returns
returns c =
    let texts = map (λ (t : Bor (List ℕ)). t.now) in
    let stands = ap (position is_slash) (sym c.as_bytes.ensures.value) ∙ sym c.in_default.ensures.value in
    IfOk-weaker c.add_prefix-2.result _ _ (λ u is. is ∙ ended (texts c.loop-slash.prefixes.items) _ c.loop-slash.rest.now stands c.loop-slash.invariant.1) c.add_prefix-2.ensures
