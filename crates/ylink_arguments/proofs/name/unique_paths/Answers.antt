use Rattle.std.proofs.Common.{option_map, ap, sym, map, ◌∙◌, rules}
use Rattle.std.proofs.lemmas.List.{map_push}
use Rattle.yspec.specs.linking.Arguments.{relative_path_of}
use Rattle.ylink_arguments.specs.NameView.{names_view}
use Rattle.ylink_arguments.proofs.ListLemmas.{read_word}
use Rattle.ylink_arguments.proofs.name.unique_paths.Goals as goal

pub loop-word-preserved-in_ok-push-in-Some-2 : goal.loop-word-preserved-in_ok-push-in-Some-2
loop-word-preserved-in_ok-push-in-Some-2 c = (
  read_word relative_path_of c.loop-word.rest.now c.in-Some.word.now c.in-Some.more.now _ _ _ _ c.in-Some.ensures.parts (search rules)
      (ap (map (λ p. names_view p.items)) c.in_ok-push-in-Some-2.ensures.items ∙ map_push (λ p. names_view p.items) c.loop-word.unique.items _)
      (ap (option_map (λ p. names_view p.items)) (sym c.in-Some-2.is) ∙ c.in_ok-path.ensures) c.loop-word.invariant.0,
  search rules,
)
