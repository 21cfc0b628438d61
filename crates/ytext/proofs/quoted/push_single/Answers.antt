use Rattle.std.proofs.Common.{◌<◌, ℕ, List, Ok, ◌++◌, drop, length, refl, ap, ◌∙◌, arith, string_bytes}
use Rattle.std.proofs.lemmas.Str.{IsCharBoundary-start}
use Rattle.yspec.specs.text.Token.{joined_breaks}
use Rattle.ytext.proofs.QuotedLemmas.{single_done, single_more}
use Rattle.ytext.proofs.quoted.push_single.Goals as goal

pub loop-at-init : goal.loop-at-init
loop-at-init c = record { place = IsCharBoundary-start c.args.raw.now c.utf8.raw; rest = refl }

pub returns-then-end-raw : goal.returns-then-end-raw
returns-then-end-raw c = ap Ok (single_done (string_bytes c.args.text.now) (string_bytes c.loop-at.text) (string_bytes c.push_str.new.self) c.args.raw.now c.loop-at.at c.return_offset-end.result
    c.loop-at.invariant.rest c.return_offset-end.ensures.same (c.in_ok-push_str.ensures.bytes ∙ ap (λ (t : List ℕ). string_bytes c.loop-at.text ++ t) c.between.ensures) c.if-end-raw.true)

pub loop-at-preserved : goal.loop-at-preserved
loop-at-preserved c =
    let raw : List ℕ = c.args.raw.now in
    let end : ℕ = c.return_offset-end.result in
    let told = c.return_offset-end.ensures in
    let before_end : end < length raw = omega (arith, c.if-end-raw.false, told.place.0) in
    record {
      place = c.behind_ascii-at.ensures.place;
      rest = ap (λ (j : ℕ). string_bytes c.push_str.new.self ++ joined_breaks (drop j raw)) c.behind_ascii-at.ensures.next
          ∙ single_more (string_bytes c.args.text.now) (string_bytes c.loop-at.text) (string_bytes c.push_str.new.self) raw c.loop-at.at end
          c.loop-at.invariant.rest told.same (c.in_ok-push_str.ensures.bytes ∙ ap (λ (t : List ℕ). string_bytes c.loop-at.text ++ t) c.between.ensures)
          before_end (told.ascii before_end) (told.breaks before_end);
    }
