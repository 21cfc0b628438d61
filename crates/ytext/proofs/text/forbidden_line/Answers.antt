use Rattle.std.proofs.Common.{ℕ, List, Bool, ◌+◌, [], length, drop, sym, ap, ◌∙◌, arith}
use Rattle.std.proofs.lemmas.Iterator.{YieldsList-from_chars}
use Rattle.std.proofs.lemmas.Iterator.Consumers.{YieldsList-turn, YieldsList-end}
use Rattle.std.proofs.lemmas.List.{length_push}
use Rattle.std.proofs.lemmas.Str.{encodes-chars}
use Rattle.std.specs.Str.{chars}
use Rattle.std.specs.List.{list_all}
use Rattle.ytext.specs.Characters.{is_plain}
use Rattle.ytext.proofs.PlainLemmas.{plain_line}
use Rattle.ytext.specs.Characters.{pending}
use Rattle.ytext.proofs.TextLemmas.{char_at, few_chars, none_left}
use Rattle.ytext.proofs.text.forbidden_line.Goals as goal

pub loop-character-preserved : goal.loop-character-preserved
loop-character-preserved c =
    let cs : List ℕ = chars c.args.text.now in
    let yielded = c.loop-character.yielded in
    let n : ℕ = length yielded in
    let turn = YieldsList-turn (YieldsList-from_chars c.args.text.now c.utf8.text cc) c.loop-character.yielded _ c.loop-character.yielded_by _ _ c.in-Some.character c.in-Some.is c.next.ensures.steps in
    let before = c.loop-character.invariant in
    let next = c.in-Some-behind_character.next in
    let more = length_push yielded c.in-Some.character in
    let few = few_chars c.args.text.now c.utf8.text in
    record {
      rest = ap (λ (k : ℕ). pending next.1 next.0 (drop k cs)) more ∙ sym (c.in-Some-behind_character.ensures.allowed (drop (n + 1) cs))
          ∙ ap (pending c.loop-character.has_returned c.loop-character.line) (sym (char_at cs n c.in-Some.character turn)) ∙ before.rest;
      bound = omega (arith, more, before.bound, c.in-Some-behind_character.ensures.bound);
      count = omega (arith, more, few, turn.0);
    }

pub returns-in-None-behind_character-clause-line : goal.returns-in-None-behind_character-clause-line
returns-in-None-behind_character-clause-line c =
    let cs : List ℕ = chars c.args.text.now in
    let n : ℕ = length c.loop-character.yielded in
    let turn = YieldsList-turn (YieldsList-from_chars c.args.text.now c.utf8.text cc) c.loop-character.yielded _ c.loop-character.yielded_by _ _ c.in-Some.character c.in-Some.is c.next.ensures.steps in
    sym (c.in-None-behind_character.ensures.forbidden (drop (n + 1) cs))
    ∙ ap (pending c.loop-character.has_returned c.loop-character.line) (sym (char_at cs n c.in-Some.character turn)) ∙ c.loop-character.invariant.rest

pub returns-then-has_returned-clause-line : goal.returns-then-has_returned-clause-line
returns-then-has_returned-clause-line c =
    let cs : List ℕ = chars c.args.text.now in
    let end = YieldsList-end (YieldsList-from_chars c.args.text.now c.utf8.text cc) c.loop-character.yielded _ c.loop-character.yielded_by _ _ c.in-None.is c.next.ensures.steps in
    sym (ap (λ (b : Bool). pending b c.loop-character.line []) c.if-has_returned.true)
    ∙ ap (pending c.loop-character.has_returned c.loop-character.line) (sym (none_left cs (length c.loop-character.yielded) end.1)) ∙ c.loop-character.invariant.rest

pub returns-else-has_returned-clause-line : goal.returns-else-has_returned-clause-line
returns-else-has_returned-clause-line c =
    let cs : List ℕ = chars c.args.text.now in
    let end = YieldsList-end (YieldsList-from_chars c.args.text.now c.utf8.text cc) c.loop-character.yielded _ c.loop-character.yielded_by _ _ c.in-None.is c.next.ensures.steps in
    sym (ap (λ (b : Bool). pending b c.loop-character.line []) c.if-has_returned.false)
    ∙ ap (pending c.loop-character.has_returned c.loop-character.line) (sym (none_left cs (length c.loop-character.yielded) end.1)) ∙ c.loop-character.invariant.rest

pub returns-then-are_plain-clause-line : goal.returns-then-are_plain-clause-line
returns-then-are_plain-clause-line c =
    sym (plain_line (chars c.args.text.now) 1 (ap (list_all is_plain) (encodes-chars c.args.text.now c.utf8.text ∙ sym c.as_bytes.ensures.value) ∙ sym c.if-are_plain.ensures))
