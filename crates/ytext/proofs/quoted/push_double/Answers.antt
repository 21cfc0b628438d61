use Rattle.std.proofs.Common.{ℕ, refl, sym, ◌∙◌, arith, string_bytes}
use Rattle.std.proofs.lemmas.Str.{IsCharBoundary-start}
use Rattle.ytext.proofs.QuotedLemmas.{reading_done}
use Rattle.ytext.proofs.quoted.push_double.Goals as goal

pub loop-place-init : goal.loop-place-init
loop-place-init c = record {
  place = IsCharBoundary-start c.args.raw.now c.utf8.raw;
  few_lines = omega (arith, c.requires.few_lines);
  rest = refl;
}

pub returns : goal.returns
returns c =
    let width : ℕ = c.strip_width-width.result in
    sym (c.strip_width-width.ensures c.args.is_yang_1 c.args.line (string_bytes c.args.text.now))
    ∙ sym c.loop-place.invariant.rest
    ∙ reading_done c.args.is_yang_1 width c.loop-place.place.left c.loop-place.place.line (string_bytes c.loop-place.text) c.args.raw.now c.loop-place.place.at (omega (arith, c.loop-place-test.false))
