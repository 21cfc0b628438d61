use Rattle.std.proofs.Common.{Bool, Some, None, ap, sym, ◌∙◌}
use Rattle.std.specs.Prelude.{if◌then◌else◌}
use Rattle.yspec.specs.document.Writing.{written_text}
use Rattle.yspec.proofs.DocumentProofs.SortingLemmas.{in_order}
use Rattle.yapp.specs.Edited.{schema_of, tree_of}
use Rattle.yapp.proofs.document.whole_text.Goals as goal

pub returns-in_ok-write : goal.returns-in_ok-write
returns-in_ok-write c =
    let s = schema_of c.args.document.now in
    let t = tree_of c.args.document.now in
    ap Some (c.in_ok-write.ensures.text (in_order s t c.requires.fits))
    ∙ sym (ap (λ (b : Bool). if b then Some (written_text s t) else None) c.if-is_wanted.true)
