use Rattle.std.proofs.Common.{map, string_bytes, ap, refl, ◌∙◌}
use Rattle.yapp_words.specs.Command.{asked_in, asks_reasons, folders_in, refusals}
use Rattle.program_tests.proofs.KnownLemmas.{are_taken, ask_for, ask_no_reasons, is_known, name_no_folder, told_once}
use Rattle.program_tests.proofs.running.validate_known.Goals as goal

pub returns : goal.returns
returns g c =
    let same = ap (map string_bytes) c.deref.ensures.value ∙ c.in_ok-words.ensures in
    let came = told_once _ _ _ _ _ _ _ _ _ _ _ _ _ _ (ap folders_in same ∙ name_no_folder) (ap asked_in same ∙ ask_for) (ap asks_reasons same ∙ ask_no_reasons)
    (c.run.ensures.taken (ap refusals same ∙ are_taken)) in (
      came.1,
      came.2,
      is_known _ _ _ (map (λ f. f.name.now) c.args.files.now.files.now) (map (λ f. f.bytes.now) c.args.files.now.files.now) came.1 refl refl refl came.3,
      came.4,
    )
