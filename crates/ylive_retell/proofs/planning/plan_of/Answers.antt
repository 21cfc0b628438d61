use Rattle.std.proofs.Common.{◌≡◌, ◌∙◌, ◌++◌, None, ap, ap₂, drop, take, subst, sym, arith, length}
use Rattle.std.specs.Prelude.{option_map}
use Rattle.yspec.specs.schema.Schema.{row_at}
use Rattle.yschema_model.specs.View as schema_view
use Rattle.yschema_model.specs.View.{child_view}
use Rattle.yschema_model.proofs.CallerLemmas.{numbered}
use Rattle.ystore.specs.Store.{play_at}
use Rattle.ystore.specs.Views.{store_of}
use Rattle.ystore_rows.specs.declared.row.Row.{Row}
use Rattle.ystore_rows.specs.declared.row.Row.TheVariants.{Top}
use Rattle.ystore_tree.specs.Hanging.{tree_of, Stands}
use Rattle.ystore_tree.specs.Ways.{around, end_of}
use Rattle.ystore_tree.proofs.HangingLemmas.{at_end}
use Rattle.ystore_tree.proofs.PartLemmas.{reads_on, stands_read}
use Rattle.yspec_play.specs.Over.{child_over, number_over, told_instead}
use Rattle.ylive_facts.specs.Given.{given_view}
use Rattle.ylive_facts.specs.InPlay.{absence_views}
use Rattle.ylive_facts.specs.Keys.{holdings}
use Rattle.ylive_retell.specs.Plans.{row_schema}
use Rattle.ylive_retell.specs.Standing.{standing, all_given, all_held, way_held, defaults_over, absences_in_row, absences_over}
use Rattle.ylive_retell.proofs.AccountLemmas.{hangs_read}
use Rattle.ylive_retell.proofs.PlanLemmas.{added_keys, added_values, entered_first, hangs_there, left_stands, ready_read, within}
use Rattle.ylive_retell.proofs.InsteadLemmas.{play_read}
use Rattle.ylive_retell.proofs.StayingLemmas.{alike_keys}
use Rattle.ylive_retell.proofs.TurnedLemmas.{turned_told, turned_used}
use Rattle.ylive_retell.proofs.WholeLemmas.{length_views}
use Rattle.ylive_retell.proofs.planning.plan_of.Goals as goal

pub enter_changed-requires : goal.enter_changed-requires
enter_changed-requires c =
    let first = store_of c.args.counted.now in
    let second = store_of c.schema_above-of.new.counted in
    let third = store_of c.enter_nodes.new.counted in
    let fourth = store_of c.enter_place.new.counted in
    let fifth = store_of c.enter_new_nodes.new.counted in
    ready_read c.args.swap first fifth
    (reads_on first fourth fifth (reads_on first third fourth (reads_on first second third c.schema_above-of.ensures.kept c.in_ok-enter_nodes.ensures.kept) c.in_ok-was.ensures.kept) c.in_ok-news.ensures.kept)
    c.requires.ready

pub returns-clause-plan : goal.returns-clause-plan
returns-clause-plan c p told_before =
    let s = schema_view.view c.args.schema.now in
    let r = p.ready in
    let here = end_of Top r.way in
    let first = store_of c.args.counted.now in
    let second = store_of c.schema_above-of.new.counted in
    let third = store_of c.enter_nodes.new.counted in
    let fourth = store_of c.enter_place.new.counted in
    let fifth = store_of c.enter_new_nodes.new.counted in
    let sixth = store_of c.enter_changed.new.counted in
    let to_second = c.schema_above-of.ensures.kept in
    let to_third = reads_on first second third to_second c.in_ok-enter_nodes.ensures.kept in
    let to_fourth = reads_on first third fourth to_third c.in_ok-was.ensures.kept in
    let to_fifth = reads_on first fourth fifth to_fourth c.in_ok-news.ensures.kept in
    let to_sixth = reads_on first fifth sixth to_fifth c.in_ok-told.ensures.kept in
    let of = c.schema_above-of.ensures.schema r.way r.f r.keeps.hangs r.at in
    let over : option_map child_view c.child_over-child.result ≡ child_over (row_at s (row_schema None r.way)) c.args.swap.schema.0 =
    c.child_over-child.ensures ∙ ap (λ o. child_over (row_at s o) c.args.swap.schema.0) of in
    let old = left_stands first here r.f r.loose r.g r.left c.args.swap.schema c.args.swap.change r.swaps (at_end first Top r.way r.f r.keeps.hangs).stands in
    let loose = subst (λ (row : Row). Stands first row r.loose) (sym r.at) r.keeps.stands in
    let gone = c.in_ok-enter_nodes.ensures.nodes here r.left (stands_read first second here r.left to_second old) p.are_old in
    let hangs = hangs_read first third Top (around r.way r.f) to_third r.keeps.hangs in
    let was = c.in_ok-was.ensures.place r.way r.f hangs r.at
    (let all = within first (around r.way r.f) c.args.swap.above r.loose r.keeps in let same = to_third.node_count in omega (arith, all, same)) in
    let come = c.in_ok-news.ensures.nodes here r.loose (stands_read first fourth here r.loose to_fourth loose) p.are_new in
    let ready = ready_read c.args.swap first fifth to_fifth r in
    let now = c.in_ok-told.ensures.place ready in
    let all_gone = entered_first c.new-gone.result c.enter_nodes.new.account (all_held s here r.left) (all_given s here r.left)
    (ap holdings c.new-gone.ensures.keys) (ap given_view c.new-gone.ensures.values) gone in
    let before = entered_first c.new-before.result c.enter_place.new.account (way_held s Top r.way r.f) (defaults_over s (option_map child_view c.child_over-child.result) (tree_of r.f))
    (ap holdings c.new-before.ensures.keys) (ap given_view c.new-before.ensures.values) was in
    let all_come = entered_first c.new-come.result c.enter_new_nodes.new.account (all_held s here r.loose) (all_given s here r.loose)
    (ap holdings c.new-come.ensures.keys) (ap given_view c.new-come.ensures.values) come in
    let after = entered_first c.new-after.result c.enter_changed.new.account (way_held s Top r.way r.g) (defaults_over s (option_map child_view c.child_over-child.result) (tree_of r.g))
    (ap holdings c.new-after.ensures.keys) (ap given_view c.new-after.ensures.values) now in
    let stay = c.staying-stay.result in
    let keys_before = c.enter_place.new.account.keys.items in
    let keys_after = c.enter_changed.new.account.keys.items in
    let alike : holdings (take stay keys_before) ≡ holdings (take stay keys_after) =
    sym (ap (λ ks. holdings (take stay ks)) c.deref.ensures.value) ∙ (c.staying-stay.ensures.same ∙ ap (λ ks. holdings (take stay ks)) c.deref-2.ensures.value) in
    let told_was : absence_views c.in_ok-was.was'.items ≡ absences_over (child_over (row_at s (row_schema None r.way)) c.args.swap.schema.0) (tree_of r.f) =
    c.in_ok-was.ensures.absences r.f (hangs_there third r.way r.f c.args.swap.above r.at hangs) ∙ ap (λ o. absences_over o (tree_of r.f)) over in
    let told_now : absence_views c.in_ok-told.told.items ≡ absences_over (child_over (row_at s (row_schema None r.way)) c.args.swap.schema.0) (tree_of r.g) =
    c.in_ok-told.ensures.absences ready ∙ ap (λ o. absences_over o (tree_of r.g)) over in
    let numbers = numbered c.args.schema.now in
    let child = child_over (row_at s (row_schema None r.way)) c.args.swap.schema.0 in
    record {
      changed = holdings (drop stay keys_before);
      changed_then = holdings (drop stay keys_after);
      leaves = added_keys c.enter_nodes.new.account c.enter_place.new.account c.add_account.new.account stay (all_held s here r.left) all_gone.0 c.in_ok-add_account.ensures.keys;
      joins = added_keys c.enter_new_nodes.new.account c.enter_changed.new.account c.add_account-2.new.account stay (all_held s here r.loose) all_come.0 c.in_ok-add_account-2.ensures.keys;
      keys = alike_keys keys_before keys_after stay (way_held s Top r.way r.f) (way_held s Top r.way r.g) alike before.0 after.0;
      used = defaults_over s (child_over (row_at s (row_schema None r.way)) c.args.swap.schema.0) (tree_of r.f);
      used_then = defaults_over s (child_over (row_at s (row_schema None r.way)) c.args.swap.schema.0) (tree_of r.g);
      goes = added_values c.enter_nodes.new.account c.enter_place.new.account c.add_account.new.account (all_given s here r.left) (defaults_over s (option_map child_view c.child_over-child.result) (tree_of r.f))
          all_gone.1 before.1 c.in_ok-add_account.ensures.values ∙ ap (λ o. all_given s here r.left ++ defaults_over s o (tree_of r.f)) over;
      comes = added_values c.enter_new_nodes.new.account c.enter_changed.new.account c.add_account-2.new.account (all_given s here r.loose) (defaults_over s (option_map child_view c.child_over-child.result) (tree_of r.g))
          all_come.1 after.1 c.in_ok-add_account-2.ensures.values ∙ ap (λ o. all_given s here r.loose ++ defaults_over s o (tree_of r.g)) over;
      uses = turned_used s numbers (row_schema None r.way) c.args.swap.schema c.args.swap.change r.f r.loose r.g r.left r.swaps;
      absences = c.in_ok-absences.ensures.told
          ∙ (ap (λ o. told_instead (number_over o) c.len.result (absence_views c.in_ok-told.told.items) (absence_views (play_at sixth c.args.swap.above))) over
          ∙ (ap₂ (λ m xs. told_instead (number_over child) m (absence_views c.in_ok-told.told.items) xs)
          (c.len.ensures ∙ (c.in_ok-was.was'.ok.0 ∙ (sym (length_views c.in_ok-was.was'.items) ∙ ap length told_was))) (ap absence_views (play_read first sixth to_sixth c.args.swap.above) ∙ told_before)
          ∙ (ap (λ ys. told_instead (number_over child) (length (absences_over child (tree_of r.f))) ys (absences_in_row s (row_schema None r.way) (tree_of r.f))) told_now
          ∙ sym (turned_told s numbers (row_schema None r.way) c.args.swap.schema c.args.swap.change r.f r.loose r.g r.left r.swaps))));
      news = c.in_ok-news.ensures.news here r.loose (stands_read first fourth here r.loose to_fourth loose) p.are_new;
    }

pub returns-in_err-enter_nodes-clause-reads : goal.returns-in_err-enter_nodes-clause-reads
returns-in_err-enter_nodes-clause-reads c p =
    let r = p.ready in
    let here = end_of Top r.way in
    let first = store_of c.args.counted.now in
    let second = store_of c.schema_above-of.new.counted in
    let to_second = c.schema_above-of.ensures.kept in
    let one = c.schema_above-of.ensures.reads in
    let old = left_stands first here r.f r.loose r.g r.left c.args.swap.schema c.args.swap.change r.swaps (at_end first Top r.way r.f r.keeps.hangs).stands in
    let gone = c.in_err-enter_nodes.ensures.reads here r.left (stands_read first second here r.left to_second old) p.are_old in
    omega (arith, one, gone)

pub returns-in_err-was-clause-reads : goal.returns-in_err-was-clause-reads
returns-in_err-was-clause-reads c p =
    let s = schema_view.view c.args.schema.now in
    let r = p.ready in
    let here = end_of Top r.way in
    let above = row_schema None r.way in
    let number = c.args.swap.schema.0 in
    let first = store_of c.args.counted.now in
    let second = store_of c.schema_above-of.new.counted in
    let third = store_of c.enter_nodes.new.counted in
    let to_second = c.schema_above-of.ensures.kept in
    let one = c.schema_above-of.ensures.reads in
    let old = left_stands first here r.f r.loose r.g r.left c.args.swap.schema c.args.swap.change r.swaps (at_end first Top r.way r.f r.keeps.hangs).stands in
    let gone = c.in_ok-enter_nodes.ensures.reads here r.left (stands_read first second here r.left to_second old) p.are_old in
    let to_third = reads_on first second third to_second c.in_ok-enter_nodes.ensures.kept in
    let of = c.schema_above-of.ensures.schema r.way r.f r.keeps.hangs r.at in
    let over : option_map child_view c.child_over-child.result ≡ child_over (row_at s above) number = c.child_over-child.ensures ∙ ap (λ o. child_over (row_at s o) number) of in
    let hangs = hangs_read first third Top (around r.way r.f) to_third r.keeps.hangs in
    let place = c.in_err-was.ensures.reads above number r.way r.f over hangs r.at
    (let all = within first (around r.way r.f) c.args.swap.above r.loose r.keeps in let same = to_third.node_count in omega (arith, all, same)) in
    omega (arith, one, gone, place)

pub returns-in_err-news-clause-reads : goal.returns-in_err-news-clause-reads
returns-in_err-news-clause-reads c p =
    let s = schema_view.view c.args.schema.now in
    let r = p.ready in
    let here = end_of Top r.way in
    let above = row_schema None r.way in
    let number = c.args.swap.schema.0 in
    let first = store_of c.args.counted.now in
    let second = store_of c.schema_above-of.new.counted in
    let third = store_of c.enter_nodes.new.counted in
    let fourth = store_of c.enter_place.new.counted in
    let to_second = c.schema_above-of.ensures.kept in
    let one = c.schema_above-of.ensures.reads in
    let old = left_stands first here r.f r.loose r.g r.left c.args.swap.schema c.args.swap.change r.swaps (at_end first Top r.way r.f r.keeps.hangs).stands in
    let gone = c.in_ok-enter_nodes.ensures.reads here r.left (stands_read first second here r.left to_second old) p.are_old in
    let to_third = reads_on first second third to_second c.in_ok-enter_nodes.ensures.kept in
    let of = c.schema_above-of.ensures.schema r.way r.f r.keeps.hangs r.at in
    let over : option_map child_view c.child_over-child.result ≡ child_over (row_at s above) number = c.child_over-child.ensures ∙ ap (λ o. child_over (row_at s o) number) of in
    let hangs = hangs_read first third Top (around r.way r.f) to_third r.keeps.hangs in
    let place = c.in_ok-was.ensures.reads above number r.way r.f over hangs r.at
    (let all = within first (around r.way r.f) c.args.swap.above r.loose r.keeps in let same = to_third.node_count in omega (arith, all, same)) in
    let to_fourth = reads_on first third fourth to_third c.in_ok-was.ensures.kept in
    let loose = subst (λ (row : Row). Stands first row r.loose) (sym r.at) r.keeps.stands in
    let come = c.in_err-news.ensures.reads here r.loose (stands_read first fourth here r.loose to_fourth loose) p.are_new in
    omega (arith, one, gone, place, come)

pub returns-in_err-told-clause-reads : goal.returns-in_err-told-clause-reads
returns-in_err-told-clause-reads c p =
    let s = schema_view.view c.args.schema.now in
    let r = p.ready in
    let here = end_of Top r.way in
    let above = row_schema None r.way in
    let number = c.args.swap.schema.0 in
    let first = store_of c.args.counted.now in
    let second = store_of c.schema_above-of.new.counted in
    let third = store_of c.enter_nodes.new.counted in
    let fourth = store_of c.enter_place.new.counted in
    let fifth = store_of c.enter_new_nodes.new.counted in
    let to_second = c.schema_above-of.ensures.kept in
    let one = c.schema_above-of.ensures.reads in
    let old = left_stands first here r.f r.loose r.g r.left c.args.swap.schema c.args.swap.change r.swaps (at_end first Top r.way r.f r.keeps.hangs).stands in
    let gone = c.in_ok-enter_nodes.ensures.reads here r.left (stands_read first second here r.left to_second old) p.are_old in
    let to_third = reads_on first second third to_second c.in_ok-enter_nodes.ensures.kept in
    let of = c.schema_above-of.ensures.schema r.way r.f r.keeps.hangs r.at in
    let over : option_map child_view c.child_over-child.result ≡ child_over (row_at s above) number = c.child_over-child.ensures ∙ ap (λ o. child_over (row_at s o) number) of in
    let hangs = hangs_read first third Top (around r.way r.f) to_third r.keeps.hangs in
    let place = c.in_ok-was.ensures.reads above number r.way r.f over hangs r.at
    (let all = within first (around r.way r.f) c.args.swap.above r.loose r.keeps in let same = to_third.node_count in omega (arith, all, same)) in
    let to_fourth = reads_on first third fourth to_third c.in_ok-was.ensures.kept in
    let loose = subst (λ (row : Row). Stands first row r.loose) (sym r.at) r.keeps.stands in
    let come = c.in_ok-news.ensures.reads here r.loose (stands_read first fourth here r.loose to_fourth loose) p.are_new in
    let to_fifth = reads_on first fourth fifth to_fourth c.in_ok-news.ensures.kept in
    let ready = ready_read c.args.swap first fifth to_fifth r in
    let changed = c.in_err-told.ensures.reads ready above number over in
    omega (arith, one, gone, place, come, changed)

pub returns-in_err-absences-clause-reads : goal.returns-in_err-absences-clause-reads
returns-in_err-absences-clause-reads c p =
    let s = schema_view.view c.args.schema.now in
    let r = p.ready in
    let here = end_of Top r.way in
    let above = row_schema None r.way in
    let number = c.args.swap.schema.0 in
    let first = store_of c.args.counted.now in
    let second = store_of c.schema_above-of.new.counted in
    let third = store_of c.enter_nodes.new.counted in
    let fourth = store_of c.enter_place.new.counted in
    let fifth = store_of c.enter_new_nodes.new.counted in
    let sixth = store_of c.enter_changed.new.counted in
    let to_second = c.schema_above-of.ensures.kept in
    let one = c.schema_above-of.ensures.reads in
    let old = left_stands first here r.f r.loose r.g r.left c.args.swap.schema c.args.swap.change r.swaps (at_end first Top r.way r.f r.keeps.hangs).stands in
    let gone = c.in_ok-enter_nodes.ensures.reads here r.left (stands_read first second here r.left to_second old) p.are_old in
    let to_third = reads_on first second third to_second c.in_ok-enter_nodes.ensures.kept in
    let of = c.schema_above-of.ensures.schema r.way r.f r.keeps.hangs r.at in
    let over : option_map child_view c.child_over-child.result ≡ child_over (row_at s above) number = c.child_over-child.ensures ∙ ap (λ o. child_over (row_at s o) number) of in
    let hangs = hangs_read first third Top (around r.way r.f) to_third r.keeps.hangs in
    let place = c.in_ok-was.ensures.reads above number r.way r.f over hangs r.at
    (let all = within first (around r.way r.f) c.args.swap.above r.loose r.keeps in let same = to_third.node_count in omega (arith, all, same)) in
    let to_fourth = reads_on first third fourth to_third c.in_ok-was.ensures.kept in
    let loose = subst (λ (row : Row). Stands first row r.loose) (sym r.at) r.keeps.stands in
    let come = c.in_ok-news.ensures.reads here r.loose (stands_read first fourth here r.loose to_fourth loose) p.are_new in
    let to_fifth = reads_on first fourth fifth to_fourth c.in_ok-news.ensures.kept in
    let ready = ready_read c.args.swap first fifth to_fifth r in
    let changed = c.in_ok-told.ensures.reads ready above number over in
    let to_sixth = reads_on first fifth sixth to_fifth c.in_ok-told.ensures.kept in
    let same = ap length (play_read first sixth to_sixth c.args.swap.above) in
    let instead = c.in_err-absences.ensures.reads in
    omega (arith, one, gone, place, come, changed, instead, same)

pub returns-clause-reads : goal.returns-clause-reads
returns-clause-reads c p =
    let s = schema_view.view c.args.schema.now in
    let r = p.ready in
    let here = end_of Top r.way in
    let above = row_schema None r.way in
    let number = c.args.swap.schema.0 in
    let first = store_of c.args.counted.now in
    let second = store_of c.schema_above-of.new.counted in
    let third = store_of c.enter_nodes.new.counted in
    let fourth = store_of c.enter_place.new.counted in
    let fifth = store_of c.enter_new_nodes.new.counted in
    let sixth = store_of c.enter_changed.new.counted in
    let to_second = c.schema_above-of.ensures.kept in
    let one = c.schema_above-of.ensures.reads in
    let old = left_stands first here r.f r.loose r.g r.left c.args.swap.schema c.args.swap.change r.swaps (at_end first Top r.way r.f r.keeps.hangs).stands in
    let gone = c.in_ok-enter_nodes.ensures.reads here r.left (stands_read first second here r.left to_second old) p.are_old in
    let to_third = reads_on first second third to_second c.in_ok-enter_nodes.ensures.kept in
    let of = c.schema_above-of.ensures.schema r.way r.f r.keeps.hangs r.at in
    let over : option_map child_view c.child_over-child.result ≡ child_over (row_at s above) number = c.child_over-child.ensures ∙ ap (λ o. child_over (row_at s o) number) of in
    let hangs = hangs_read first third Top (around r.way r.f) to_third r.keeps.hangs in
    let place = c.in_ok-was.ensures.reads above number r.way r.f over hangs r.at
    (let all = within first (around r.way r.f) c.args.swap.above r.loose r.keeps in let same = to_third.node_count in omega (arith, all, same)) in
    let to_fourth = reads_on first third fourth to_third c.in_ok-was.ensures.kept in
    let loose = subst (λ (row : Row). Stands first row r.loose) (sym r.at) r.keeps.stands in
    let come = c.in_ok-news.ensures.reads here r.loose (stands_read first fourth here r.loose to_fourth loose) p.are_new in
    let to_fifth = reads_on first fourth fifth to_fourth c.in_ok-news.ensures.kept in
    let ready = ready_read c.args.swap first fifth to_fifth r in
    let changed = c.in_ok-told.ensures.reads ready above number over in
    let to_sixth = reads_on first fifth sixth to_fifth c.in_ok-told.ensures.kept in
    let same = ap length (play_read first sixth to_sixth c.args.swap.above) in
    let instead = c.in_ok-absences.ensures.reads in
    omega (arith, one, gone, place, come, changed, instead, same)

pub returns-in_err-add_account-clause-reads : goal.returns-in_err-add_account-clause-reads
returns-in_err-add_account-clause-reads c p =
    let s = schema_view.view c.args.schema.now in
    let r = p.ready in
    let here = end_of Top r.way in
    let above = row_schema None r.way in
    let number = c.args.swap.schema.0 in
    let first = store_of c.args.counted.now in
    let second = store_of c.schema_above-of.new.counted in
    let third = store_of c.enter_nodes.new.counted in
    let fourth = store_of c.enter_place.new.counted in
    let fifth = store_of c.enter_new_nodes.new.counted in
    let sixth = store_of c.enter_changed.new.counted in
    let to_second = c.schema_above-of.ensures.kept in
    let one = c.schema_above-of.ensures.reads in
    let old = left_stands first here r.f r.loose r.g r.left c.args.swap.schema c.args.swap.change r.swaps (at_end first Top r.way r.f r.keeps.hangs).stands in
    let gone = c.in_ok-enter_nodes.ensures.reads here r.left (stands_read first second here r.left to_second old) p.are_old in
    let to_third = reads_on first second third to_second c.in_ok-enter_nodes.ensures.kept in
    let of = c.schema_above-of.ensures.schema r.way r.f r.keeps.hangs r.at in
    let over : option_map child_view c.child_over-child.result ≡ child_over (row_at s above) number = c.child_over-child.ensures ∙ ap (λ o. child_over (row_at s o) number) of in
    let hangs = hangs_read first third Top (around r.way r.f) to_third r.keeps.hangs in
    let place = c.in_ok-was.ensures.reads above number r.way r.f over hangs r.at
    (let all = within first (around r.way r.f) c.args.swap.above r.loose r.keeps in let same = to_third.node_count in omega (arith, all, same)) in
    let to_fourth = reads_on first third fourth to_third c.in_ok-was.ensures.kept in
    let loose = subst (λ (row : Row). Stands first row r.loose) (sym r.at) r.keeps.stands in
    let come = c.in_ok-news.ensures.reads here r.loose (stands_read first fourth here r.loose to_fourth loose) p.are_new in
    let to_fifth = reads_on first fourth fifth to_fourth c.in_ok-news.ensures.kept in
    let ready = ready_read c.args.swap first fifth to_fifth r in
    let changed = c.in_ok-told.ensures.reads ready above number over in
    let to_sixth = reads_on first fifth sixth to_fifth c.in_ok-told.ensures.kept in
    let same = ap length (play_read first sixth to_sixth c.args.swap.above) in
    let instead = c.in_ok-absences.ensures.reads in
    omega (arith, one, gone, place, come, changed, instead, same)

pub returns-in_err-add_account-2-clause-reads : goal.returns-in_err-add_account-2-clause-reads
returns-in_err-add_account-2-clause-reads c p =
    let s = schema_view.view c.args.schema.now in
    let r = p.ready in
    let here = end_of Top r.way in
    let above = row_schema None r.way in
    let number = c.args.swap.schema.0 in
    let first = store_of c.args.counted.now in
    let second = store_of c.schema_above-of.new.counted in
    let third = store_of c.enter_nodes.new.counted in
    let fourth = store_of c.enter_place.new.counted in
    let fifth = store_of c.enter_new_nodes.new.counted in
    let sixth = store_of c.enter_changed.new.counted in
    let to_second = c.schema_above-of.ensures.kept in
    let one = c.schema_above-of.ensures.reads in
    let old = left_stands first here r.f r.loose r.g r.left c.args.swap.schema c.args.swap.change r.swaps (at_end first Top r.way r.f r.keeps.hangs).stands in
    let gone = c.in_ok-enter_nodes.ensures.reads here r.left (stands_read first second here r.left to_second old) p.are_old in
    let to_third = reads_on first second third to_second c.in_ok-enter_nodes.ensures.kept in
    let of = c.schema_above-of.ensures.schema r.way r.f r.keeps.hangs r.at in
    let over : option_map child_view c.child_over-child.result ≡ child_over (row_at s above) number = c.child_over-child.ensures ∙ ap (λ o. child_over (row_at s o) number) of in
    let hangs = hangs_read first third Top (around r.way r.f) to_third r.keeps.hangs in
    let place = c.in_ok-was.ensures.reads above number r.way r.f over hangs r.at
    (let all = within first (around r.way r.f) c.args.swap.above r.loose r.keeps in let same = to_third.node_count in omega (arith, all, same)) in
    let to_fourth = reads_on first third fourth to_third c.in_ok-was.ensures.kept in
    let loose = subst (λ (row : Row). Stands first row r.loose) (sym r.at) r.keeps.stands in
    let come = c.in_ok-news.ensures.reads here r.loose (stands_read first fourth here r.loose to_fourth loose) p.are_new in
    let to_fifth = reads_on first fourth fifth to_fourth c.in_ok-news.ensures.kept in
    let ready = ready_read c.args.swap first fifth to_fifth r in
    let changed = c.in_ok-told.ensures.reads ready above number over in
    let to_sixth = reads_on first fifth sixth to_fifth c.in_ok-told.ensures.kept in
    let same = ap length (play_read first sixth to_sixth c.args.swap.above) in
    let instead = c.in_ok-absences.ensures.reads in
    omega (arith, one, gone, place, come, changed, instead, same)
