use Rattle.std.proofs.Common.{ap, subst, ◌∙◌}
use Rattle.std.specs.Str.{chars}
use Rattle.std.specs.String.{string_bytes}
use Rattle.yspec.specs.types.Types.{is_match}
use Rattle.yspec_patterns.specs.Reading.{pattern_of}
use Rattle.ytype_patterns.specs.View.{Reads}
use Rattle.ytype_numbers.proofs.ExpressionLemmas.{if_ok, told, told_none}
use Rattle.ytype_numbers.proofs.expression.Expression.matches.Goals as goal

pub returns-in-None : goal.returns-in-None
returns-in-None c =
    let e = string_bytes c.self.inside.text in
    told_none e c.args.text.now (subst (λ o. Reads o (pattern_of (chars e))) c.in-None.is c.self.invariant)
    ∙ ap (λ x. is_match x c.args.text.now) c.self.view_is

pub returns-in-Some : goal.returns-in-Some
returns-in-Some c =
    let e = string_bytes c.self.inside.text in
    let reads = subst (λ o. Reads o (pattern_of (chars e))) c.in-Some.is c.self.invariant in
    if_ok _ _ c.fits.result (λ b tells. told c.in-Some.pattern e c.args.text.now b reads tells
    ∙ ap (λ x. is_match x c.args.text.now) c.self.view_is) c.fits.ensures
