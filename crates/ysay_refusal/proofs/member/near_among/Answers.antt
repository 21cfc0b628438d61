use Rattle.std.proofs.Common.{ap, sym, ◌∙◌, string_bytes}
use Rattle.std.specs.Prelude.{option_map}
use Rattle.ysay_refusal.proofs.MemberLemmas.{told_behind}
use Rattle.ysay_refusal.proofs.member.near_among.Goals as goal

pub returns-in-None : goal.returns-in-None
returns-in-None c = told_behind c.near_own.result _ _ (sym c.in_ok-found.ensures ∙ ap (option_map string_bytes) c.in-None.is) c.near_own.ensures
