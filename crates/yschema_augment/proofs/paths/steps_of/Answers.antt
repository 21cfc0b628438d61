use Rattle.std.proofs.Common.{◌≡◌, ◌++◌, ◌∷◌, ◌+◌, ◌∙◌, [], None, ap, ap₂, arith, drop, get_or, length, sym}
use Rattle.std.proofs.lemmas.List.{append_assoc, drop_more, length_push, map-append}
use Rattle.std.specs.Borrow.{Bor}
use Rattle.yspec.specs.text.Text.{Text}
use Rattle.yspec.specs.linking.Prefixes.{NodeName}
use Rattle.ylink_arguments.specs.NameView.{names_view}
use Rattle.ylink_arguments.specs.declared.name.Name.{Name}
use Rattle.yschema_augment.specs.Asking.{identifiers, steps_from, texts_seen}
use Rattle.yschema_augment.specs.declared.search.Step.{Step}
use Rattle.yschema_augment.proofs.paths.steps_of.Goals as goal

abbrev no_name : Name
no_name = record { prefix = None; identifier = record { ref_ptr = (0, 0); now = [] } }

pub loop-name-preserved : goal.loop-name-preserved
loop-name-preserved c =
    let path = c.args.path.now in
    let i = c.loop-name.name-index in
    let name : Name = get_or path i no_name in
    let rest = drop (i + 1) path in
    let at = drop_more path i no_name c.loop-name-test.true in
    let texts = c.loop-name.texts.items in
    let steps = c.loop-name.steps.items in
    let counted : c.len-number.result ≡ length texts = omega (arith, c.len-number.ensures, c.loop-name.texts.ok.0) in
    let count = ap length c.in_ok-push-2.ensures.items ∙ length_push texts name.identifier in
    record {
      few = omega (arith, c.loop-name.invariant.few, c.if-number.false, counted, count);
      texts = ap (λ ts. texts_seen ts ++ identifiers (names_view rest)) c.in_ok-push-2.ensures.items
          ∙ (ap (λ ts. ts ++ identifiers (names_view rest)) (map-append (λ (t : Bor Text). t.now) texts (name.identifier ∷ []))
          ∙ (append_assoc (texts_seen texts) (name.identifier.now ∷ []) (identifiers (names_view rest))
          ∙ (ap (λ p. texts_seen texts ++ identifiers (names_view p)) (sym at) ∙ c.loop-name.invariant.texts)));
      steps = λ modules of_it.
          let home = c.args.home in
          let step : Step = record { «module» = c.node_name-module.result.«module»; text = c.len-number.result } in
          let later = steps_from modules home (length texts + 1) (names_view rest) in
          let named = ap (λ (n : NodeName). n.module_number) (c.node_name-module.ensures modules of_it) in
          let stepped : step ∷ later ≡ steps_from modules home (length texts) (names_view (name ∷ rest)) =
          ap₂ (λ m n. record { «module» = m; text = n } ∷ later) named counted in
          ap₂ (λ ss n. ss ++ steps_from modules home n (names_view rest)) c.in_ok-push.ensures.items count
          ∙ (append_assoc steps (step ∷ []) later
          ∙ (ap (λ ss. steps ++ ss) stepped
          ∙ (ap (λ p. steps ++ steps_from modules home (length texts) (names_view p)) (sym at) ∙ c.loop-name.invariant.steps modules of_it)));
    }
