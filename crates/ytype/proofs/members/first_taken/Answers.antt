use Rattle.std.proofs.Common.{sym, ap, ◌∙◌, Some}
use Rattle.yspec.specs.types.Types.{SimpleType, Val, simple_taken}
use Rattle.ytype_simple.specs.View.{raw_of, content_of}
use Rattle.ytype_simple.specs.Founds.{contents}
use Rattle.ytype.proofs.MemberLemmas.{not_first, is_first}
use Rattle.ytype.proofs.members.first_taken.Goals as goal

pub members-preserved : goal.members-preserved
members-preserved c =
    let given = λ (s : SimpleType). simple_taken s (raw_of c.args.raw.now) in
    not_first given c.args.members.now c.members.number (sym (ap contents c.in-None.is) ∙ c.in_ok-taken_at.ensures)
    ∙ c.members.invariant

pub returns-in-Some : goal.returns-in-Some
returns-in-Some c =
    let given = λ (s : SimpleType). simple_taken s (raw_of c.args.raw.now) in
    ap (λ (v : Val). Some v) c.new.ensures
    ∙ is_first given c.args.members.now c.members.number (content_of c.in-Some.content) (sym (ap contents c.in-Some.is) ∙ c.in_ok-taken_at.ensures)
    ∙ c.members.invariant
