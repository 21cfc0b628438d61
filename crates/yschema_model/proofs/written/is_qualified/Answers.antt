use Rattle.std.proofs.Common.{◌≡◌, ◌++◌, ◌∷◌, ◌&&◌, Some, None, sym, ap, ◌∙◌, append_assoc, rules}
use Rattle.std.specs.Prelude.{codes}
use Rattle.std.proofs.lemmas.Bool.{eq-eqb, ne_eqb}
use Rattle.std.proofs.lemmas.Bool.Decides.{Decides-eqb}
use Rattle.std.proofs.lemmas.Slice.Eq.{strip_prefix_is, slice_eq-Decides}
use Rattle.yspec.specs.text.Text.{is_text}
use Rattle.yschema_model.proofs.QualifiedLemmas.{same_test, not_before, mark_and_rest}
use Rattle.yschema_model.proofs.written.is_qualified.Goals as goal

pub returns-then-first-eq58 : goal.returns-then-first-eq58
returns-then-first-eq58 c =
    let t = c.args.text.now in
    let m = c.args.«module».now in
    let n = c.args.name.now in
    let behind = c.in-Some.behind.now in
    let rest = c.in-Some-split_first.rest.now in
    let first = c.in-Some-split_first.first.now in
    let starts : t ≡ m ++ behind = strip_prefix_is Decides-eqb t m (Some c.in-Some.behind) c.in-Some.ensures.cases in
    let split : behind ≡ first ∷ rest = search rules in
    same_test rest n c.eq.result (slice_eq-Decides Decides-eqb _ _ _ c.eq.ensures)
    ∙ sym (mark_and_rest t m behind rest n first starts split ∙ ap (λ b. b && is_text rest n) (eq-eqb first 58 c.if-first-eq58.true))

pub returns-else-first-eq58 : goal.returns-else-first-eq58
returns-else-first-eq58 c =
    let t = c.args.text.now in
    let m = c.args.«module».now in
    let n = c.args.name.now in
    let behind = c.in-Some.behind.now in
    let rest = c.in-Some-split_first.rest.now in
    let first = c.in-Some-split_first.first.now in
    let starts : t ≡ m ++ behind = strip_prefix_is Decides-eqb t m (Some c.in-Some.behind) c.in-Some.ensures.cases in
    let split : behind ≡ first ∷ rest = search rules in
    ne_eqb first 58 c.if-first-eq58.false ∙ sym (mark_and_rest t m behind rest n first starts split ∙ ap (λ b. b && is_text rest n) (ne_eqb first 58 c.if-first-eq58.false))

pub returns-in-None : goal.returns-in-None
returns-in-None c =
    not_before c.args.text.now c.args.«module».now (codes ":" ++ c.args.name.now)
    (strip_prefix_is Decides-eqb c.args.text.now c.args.«module».now None c.in-None.ensures.cases)
    ∙ ap (is_text c.args.text.now) (sym (append_assoc c.args.«module».now (codes ":") c.args.name.now))
