-- What an answer unfolds to compute what stands of a set of modules.
use Rattle.std.specs.Prelude.{⊤}
use Rattle.yspec.proofs.LiteralLemmas.{yspec_on_literals}
use Rattle.yspec_wide.specs.Expressions.{tokens_from, read}
use Rattle.yspec_wide.specs.Texts.{mended, tokens_in_1_from, version_among, module_in_1}
use Rattle.yspec_wide.specs.StatementBreaks.{row_breaks_in, breaks_in_from}
use Rattle.yspec_wide.specs.Sources.{kept_in, sources_in_from}
use Rattle.yspec_wide.specs.Features.{is_on_within}
use Rattle.yspec_wide.specs.NodeCounts.{counted_below, counts_within_in}
use Rattle.yspec_wide.specs.Expansion.{refined_in, extended_by, stands_for_in, inner_breaks, unfit_for_in}
use Rattle.yspec_wide.specs.Standing.{standing_by}
use Rattle.yspec_wide.specs.Above.{is_under_within}
use Rattle.yspec_wide.specs.Types.{verdicts_of, known_within_of, type_within_of}
use Rattle.yspec_wide.specs.Compiling.{compiled_in}

unfoldable pub ywide_on_literals : ⊤
unfolding yspec_on_literals mended tokens_in_1_from version_among module_in_1 tokens_from read row_breaks_in breaks_in_from kept_in sources_in_from is_on_within counted_below counts_within_in refined_in extended_by stands_for_in inner_breaks unfit_for_in standing_by is_under_within verdicts_of known_within_of type_within_of compiled_in
ywide_on_literals = tt
