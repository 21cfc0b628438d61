-- A document of which all is held as it was is told of as it was.
use Rattle.std.proofs.Common.{◌≡◌, List, option_map, ap, ◌∙◌}
use Rattle.std.specs.Prelude.{Ok, Err, OnErr, Result}
use Rattle.yspec.specs.schema.Schema.{Schema}
use Rattle.ystore.specs.Held.{Held}
use Rattle.ystore.specs.Store.{held_at}
use Rattle.ystore_rows.specs.declared.row.Row.{Row}
use Rattle.ystore_rows.specs.declared.row.Row.TheVariants.{Top, Below}
use Rattle.ystore.specs.declared.nodes.Nodes.{Nodes}
use Rattle.ystore_tree.specs.Hanging.{Branches}
use Rattle.ylive_facts.specs.InPlay.{absence_views}
use Rattle.ylive_marks.specs.Keys.{SameKeys, own_of}
use Rattle.ylive_marks.specs.Totals.{told_at}
use Rattle.ylive_marks.proofs.AgreeLemmas.{agrees_told}
use Rattle.ylive_marks.proofs.LawLemmas.{held_faults}
use Rattle.ylive_marks.proofs.TotalLemmas.{totals_same}
use Rattle.ylive_retell.specs.IsTold.{IsFresh, IsTold, TellsOwn}
use Rattle.ylive_retell.specs.Standing.{Standing, Every}
use Rattle.ylive_retell.proofs.AgainLemmas.{play_same}
use Rattle.ylive_retell.proofs.BareLemmas.{bare_still}
use Rattle.ylive_retell.proofs.EachLemmas.{each_other}
use Rattle.ylive_retell.proofs.UnlikeLemmas.{every_map}

pub on_err : {T E P : Type 0} (r : Result T E) → P → OnErr r P
on_err (Ok x) so = tt
on_err (Err e) so = so

module _ (before after : Nodes) (held : (row : Row) → held_at after row ≡ held_at before row) (same : SameKeys before after) (schema : Schema) where
  told_row : (row : Row) → told_at after row ≡ told_at before row
  told_row row = ap (option_map (λ (h : Held). h.told)) (held row)

  pub told_still : (f : Branches) → IsTold schema before f → IsTold schema after f
  told_still f is =
      record {
        held = is.held;
        keyed = is.keyed;
        agrees = agrees_told before after is.held f same (λ id stands. told_row (Below id)) is.agrees;
        values = λ key number v sees refers. same.instances key ∙ is.values key number v sees refers;
        bare = bare_still before after (told_row Top) is.bare;
        top = ap absence_views (play_same before after (told_row Top)) ∙ is.top;
        others = λ key off. same.instances key ∙ is.others key off;
        few = is.few;
        each =
            each_other (TellsOwn schema before) (TellsOwn schema after) Top f
            (λ r n below more t.
            record {
              own = t.own;
              held = ap (option_map own_of) (told_row (Below n.id)) ∙ t.held;
              is_wrong = t.is_wrong;
              is_play = t.is_play;
              are_flags = t.are_flags;
            })
            is.each;
        totals = totals_same before after (held_faults before after held) f is.totals;
      }

  pub fresh_still : (ss : List Standing) → Every (IsFresh schema before) ss → Every (IsFresh schema after) ss
  fresh_still ss fresh =
      every_map (IsFresh schema before) (IsFresh schema after)
      (λ s new. record { told = told_row (Below s.label.id) ∙ new.told; total = (held_faults before after held).totals (Below s.label.id) ∙ new.total }) ss fresh
