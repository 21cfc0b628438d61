use Rattle.std.proofs.Common.{drop, map, sym, ◌∙◌}
use Rattle.std.proofs.lemmas.List.{length-map}
use Rattle.yapp_lines.proofs.LineLemmas.{unnamed}
use Rattle.yapp_lines.proofs.files.contents_named.Goals as goal

pub returns-in-None : goal.returns-in-None
returns-in-None c =
    sym (unnamed c.args.name.now (map (λ n. n.now) (drop c.loop-file.file-index c.args.names.now)) (map (λ t. t.items) c.loop-file.rest.now)
    (length-map c.loop-file.rest.now (λ t. t.items) ∙ c.in-None.ensures.cases)) ∙ c.loop-file.invariant
