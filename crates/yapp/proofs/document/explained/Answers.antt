use Rattle.yspec.proofs.DocumentProofs.SortingLemmas.{in_order}
use Rattle.ycheck_config.specs.Inspecting.{inspection_view}
use Rattle.yapp.proofs.document.explained.Goals as goal

pub returns : goal.returns
returns c = let i = inspection_view c.args.inspection.now in c.explanation_with_fellow.ensures (in_order i.schema i.tree c.requires.sound.fits)
