use Rattle.std.proofs.Common.{◌↔◌, IsTrue, length, ◌∙◌, sym, subst}
use Rattle.regex_hir.specs.Matches.{Matches}
use Rattle.ytype_patterns.proofs.WholeLemmas.{found_is, whole_of_attempt, attempt_of_whole}
use Rattle.ytype_patterns.proofs.MeansLemmas.{fits_of_bytes, bytes_of_fits}
use Rattle.ytype_patterns.proofs.whole.Whole.fits.Goals as goal

pub returns : goal.returns
returns c re p e means =
    let hay = c.as_bytes-bytes.result.now in
    let same = c.is_match.ensures.found ∙ found_is c.args.self.now.automaton c.args.self.now.tree re hay c.args.self.now.implements e in
    let m = subst (λ t. IsTrue c.is_match.result ↔ Matches t re 0 (length t)) c.as_bytes-bytes.ensures.value
    (λ h. whole_of_attempt hay re (sym same ∙ h), λ m. same ∙ attempt_of_whole hay re m) in (
      λ h. fits_of_bytes re p c.args.text.now means c.utf8.text (m.0 h),
      λ f. m.1 (bytes_of_fits re p c.args.text.now means c.utf8.text f),
    )
