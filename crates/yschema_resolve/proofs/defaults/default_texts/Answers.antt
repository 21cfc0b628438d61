use Rattle.std.proofs.Common.{◌≡◌, eqb, length, map, Some, None, arith, sym, ap, ◌∙◌}
use Rattle.std.specs.Prelude.{◌==◌, option_map, vec_len}
use Rattle.std.specs.Global.{Vec}
use Rattle.std.proofs.lemmas.List.{append-nil}
use Rattle.ylink_grammar.specs.SourceView.{stated_view}
use Rattle.ylink_grammar.specs.declared.source.Stated.{Stated}
use Rattle.yschema_plan.specs.PlannedView.{planned_view}
use Rattle.yschema_resolve.proofs.DefaultLemmas.{own_texts, texts_of_type}
use Rattle.yschema_resolve.proofs.defaults.default_texts.Goals as goal
use Rattle.yschema_resolve.proofs.defaults.default_texts.Goals.{then-is_empty+in-Some+in_ok-push, then-is_empty+in_default, else-is_empty}

pub returns : goal.returns
returns c = λ plan number named.
    let p = planned_view number c.args.planned.now in
    let own = c.in_ok-texts.texts.items in
    let more = c.if-is_empty.texts.items in
    let are = c.in_ok-texts.ensures number in
    let count : vec_len c.in_ok-texts.texts ≡ length own = omega arith in
    let emptied : c.is_empty.result ≡ eqb (length own) 0 = c.is_empty.ensures ∙ ap (λ n. n == 0) count in
    elim c.if-is_empty.branch [
      | then-is_empty+in-Some+in_ok-push w ↦
          texts_of_type plan p own more (Some w.in-Some.text) (sym emptied ∙ w.if-is_empty.true) are
          (ap (option_map stated_view) (sym w.in-Some.is) ∙ w.type_default.ensures plan number named)
          (ap (λ (v : Vec Stated). v.items) w.texts-is ∙ w.in_ok-push.ensures.items)
      | then-is_empty+in_default w ↦
          texts_of_type plan p own more None (sym emptied ∙ w.if-is_empty.true) are
          (ap (option_map stated_view) (sym w.in_default.is) ∙ w.type_default.ensures plan number named)
          (ap (λ (v : Vec Stated). v.items) w.texts-is ∙ sym (append-nil own))
      | else-is_empty w ↦
          ap (λ (v : Vec Stated). map stated_view v.items) w.texts-is
          ∙ own_texts plan p own (sym emptied ∙ w.if-is_empty.false) are
    ]
