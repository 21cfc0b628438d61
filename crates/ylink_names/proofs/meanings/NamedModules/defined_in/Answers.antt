use Rattle.std.proofs.Common.{refl, ◌∙◌}
use Rattle.ylink_names.specs.DefinitionView.{first_in, kind_word}
use Rattle.ylink_names.specs.MeaningView.{top_number}
use Rattle.ylink_names.proofs.MeaningLemmas.{defined_there}
use Rattle.ylink_names.proofs.PlaceLemmas.{found_at_place}
use Rattle.ylink_names.proofs.meanings.NamedModules.defined_in.Goals as goal

pub returns-else-module-home : goal.returns-else-module-home
returns-else-module-home c modules p are around same =
    let kind = c.args.kind in
    let name = c.args.name.now in
    defined_there modules (kind_word kind) name p c.args.module c.args.home c.top.result
    (c.top.ensures ∙ found_at_place (λ d. first_in kind d name) (top_number kind name) (λ place. refl) modules c.args.self.now.tops.items (are.1 kind name) c.args.module)
    c.if-module-home.false same
