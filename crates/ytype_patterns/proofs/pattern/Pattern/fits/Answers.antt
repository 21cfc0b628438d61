use Rattle.std.specs.Prelude.{chars}
use Rattle.yspec_patterns.specs.Pattern.{accepts}
use Rattle.yspec_patterns.proofs.FitsLemmas.{fits_of_accepts, accepts_of_fits}
use Rattle.ytype_patterns.proofs.PatternLemmas.{same_test}
use Rattle.ytype_patterns.proofs.SetLemmas.{if_ok}
use Rattle.ytype_patterns.proofs.pattern.Pattern.fits.Goals as goal

pub returns : goal.returns
returns c =
    let cs = chars c.args.text.now in
    if_ok _ _ c.fits.result (λ b tells p made.
    let both = tells made.0 p made.1 made.2 in
    same_test b (accepts p cs) (λ fits. accepts_of_fits p cs (both.0 fits), λ passes. both.1 (fits_of_accepts p cs passes))) c.fits.ensures
