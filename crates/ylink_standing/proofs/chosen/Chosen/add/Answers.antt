use Rattle.std.proofs.Common.{Some, None, cond, is_some, map, string_bytes, sym, ap, ◌∙◌}
use Rattle.std.specs.List.{list_any}
use Rattle.yspec.specs.Forest.{first_of}
use Rattle.yspec.specs.text.Text.{is_text}
use Rattle.ylink_standing.specs.ChosenView.{held_of}
use Rattle.ylink_names.specs.FirstNamedView.{named}
use Rattle.ylink_standing.proofs.ChosenLemmas.{held_more}
use Rattle.ylink_standing.proofs.chosen.Chosen.add.Goals as goal

pub returns : goal.returns
returns c module_name feature =
    let held = held_of c.args.self.now module_name feature in
    let told = list_any (is_text feature) (map string_bytes c.args.choosing.now.features.items) in
    held_more (λ names. is_some (named names feature)) c.args.self.now.by_module c.insert.new.self c.as_str-module.result.now c.in_ok-names.names told
    (sym c.if-contains_key.ensures) c.in_ok-insert.ensures.updates
    (c.in_ok-names.ensures feature ∙ ap (λ texts. list_any (is_text feature) (map string_bytes texts)) c.deref.ensures.value) module_name
    ∙ ap (λ name. first_of held (cond (is_text module_name name) (Some told) None)) c.as_str-module.ensures.value
