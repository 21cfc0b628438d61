use Rattle.std.proofs.Common.{sym, ap, ◌∙◌, Some}
use Rattle.yspec.specs.types.Types.{SimpleType, Val}
use Rattle.yspec.specs.types.Values.{simple_read}
use Rattle.ytype_simple.specs.View.{content_of}
use Rattle.ytype_simple.specs.Founds.{contents}
use Rattle.ytype_simple.specs.Identities.{module_names_view}
use Rattle.ytype.proofs.MemberLemmas.{not_first, is_first}
use Rattle.ytype.proofs.members.first_read.Goals as goal

pub members-preserved : goal.members-preserved
members-preserved c =
    let given = λ (s : SimpleType). simple_read (module_names_view c.args.names.now) s c.args.text.now in
    not_first given c.args.members.now c.members.number (sym (ap contents c.in-None.is) ∙ c.in_ok-read_at.ensures)
    ∙ c.members.invariant

pub returns-in-Some : goal.returns-in-Some
returns-in-Some c =
    let given = λ (s : SimpleType). simple_read (module_names_view c.args.names.now) s c.args.text.now in
    ap (λ (v : Val). Some v) c.new.ensures
    ∙ is_first given c.args.members.now c.members.number (content_of c.in-Some.content) (sym (ap contents c.in-Some.is) ∙ c.in_ok-read_at.ensures)
    ∙ c.members.invariant
