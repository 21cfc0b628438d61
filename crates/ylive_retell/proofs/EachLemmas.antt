-- What is so at each node, of joined rows and of rows at the end of a way.
use Rattle.std.proofs.Common.{◌<◌, List, [], ◌∷◌, ◌++◌, arith}
use Rattle.yspec.specs.Forest.{end, node, join}
use Rattle.ystore_rows.specs.declared.row.Row.{Row}
use Rattle.ystore_rows.specs.declared.row.Row.TheVariants.{Below}
use Rattle.ystore_tree.specs.Hanging.{Numbered, Branches, times}
use Rattle.ystore_tree.specs.Ways.{Way, around, end_of}
use Rattle.ystore_tree.proofs.HangingLemmas.{is_itself}
use Rattle.ylive_retell.specs.Each.{Each, OnWay, Around, beside_way}
use Rattle.ylive_retell.specs.Standing.{Standing, Every, standing, on_the_way}

module _ (Q : Row → Numbered → Branches → Type 0) where
  pub each_join : (above : Row) (f g : Branches) → Each Q above f → Each Q above g → Each Q above (join f g)
  each_join above end g first second = second
  each_join above (node n below after) g first second = (first.0, first.1, each_join above after g first.2 second)

  pub each_first : (above : Row) (f g : Branches) → Each Q above (join f g) → Each Q above f
  each_first above end g all = tt
  each_first above (node n below after) g all = (all.0, all.1, each_first above after g all.2)

  pub each_second : (above : Row) (f g : Branches) → Each Q above (join f g) → Each Q above g
  each_second above end g all = all
  each_second above (node n below after) g all = each_second above after g all.2

  -- at the end of a way, and around it
  pub each_there : (above : Row) (way : Way) (f : Branches) → Each Q above (around way f) → Each Q (end_of above way) f
  each_there above [] f all = all
  each_there above (frame ∷ way) f all =
      each_there (Below frame.label.id) way f (each_second above frame.before (node frame.label (around way f) frame.after) all).1

  pub each_around : (above : Row) (way : Way) (f : Branches) → Each Q above (around way f) → Around Q above way f
  each_around above [] f all = tt
  each_around above (frame ∷ way) f all =
      let rest = each_second above frame.before (node frame.label (around way f) frame.after) all in
      (each_first above frame.before (node frame.label (around way f) frame.after) all, rest.0, rest.2, each_around (Below frame.label.id) way f rest.1)

  pub each_again : (above : Row) (way : Way) (f : Branches) → Around Q above way f → Each Q (end_of above way) f → Each Q above (around way f)
  each_again above [] f beside there = there
  each_again above (frame ∷ way) f beside there =
      each_join above frame.before (node frame.label (around way f) frame.after) beside.0
      (beside.1, each_again (Below frame.label.id) way f beside.3 there, beside.2)

module _ (Q R : Row → Numbered → Branches → Type 0) where
  -- what is so of nodes of these numbers
  pub each_other : (above : Row) (f : Branches) → ((r : Row) (n : Numbered) (below : Branches) → 0 < times n.id.0 f → Q r n below → R r n below)
      → Each Q above f → Each R above f
  each_other above end so all = tt
  each_other above (node n below after) so all = (
    so above n below (let here = is_itself n in omega (arith, here)) all.0,
    each_other (Below n.id) below (λ r m b more. so r m b (omega (arith, more))) all.1,
    each_other above after (λ r m b more. so r m b (omega (arith, more))) all.2,
  )

-- ---- one after another

module _ {A : Type 0} (P : A → Type 0) where
  pub every_first : (xs ys : List A) → Every P (xs ++ ys) → Every P xs
  every_first [] ys all = tt
  every_first (x ∷ xs) ys all = (all.0, every_first xs ys all.1)

  pub every_second : (xs ys : List A) → Every P (xs ++ ys) → Every P ys
  every_second [] ys all = all
  every_second (x ∷ xs) ys all = every_second xs ys all.1

  pub every_join : (xs ys : List A) → Every P xs → Every P ys → Every P (xs ++ ys)
  every_join [] ys first second = second
  every_join (x ∷ xs) ys first second = (first.0, every_join xs ys first.1 second)

module _ (Q : Row → Numbered → Branches → Type 0) where
  abbrev pub OfStanding : Standing → Type 0
  OfStanding s = Q s.row s.label s.below

  pub each_standing : (above : Row) (f : Branches) → Every OfStanding (standing above f) → Each Q above f
  each_standing above end all = tt
  each_standing above (node n below after) all = (
    all.0,
    each_standing (Below n.id) below (every_first OfStanding (standing (Below n.id) below) (standing above after) all.1),
    each_standing above after (every_second OfStanding (standing (Below n.id) below) (standing above after) all.1),
  )

  pub standing_each : (above : Row) (f : Branches) → Each Q above f → Every OfStanding (standing above f)
  standing_each above end all = tt
  standing_each above (node n below after) all =
      (all.0, every_join OfStanding (standing (Below n.id) below) (standing above after) (standing_each (Below n.id) below all.1) (standing_each above after all.2))

  -- of the nodes on a way
  pub way_each : (above : Row) (way : Way) (f : Branches) → Every OfStanding (on_the_way above way f) → OnWay Q above way f
  way_each above [] f all = tt
  way_each above (frame ∷ way) f all =
      let last = every_second OfStanding (on_the_way (Below frame.label.id) way f) (record { row = above; label = frame.label; below = around way f } ∷ []) all in (
        last.0,
        way_each (Below frame.label.id) way f
            (every_first OfStanding (on_the_way (Below frame.label.id) way f) (record { row = above; label = frame.label; below = around way f } ∷ []) all),
      )

  pub each_way : (above : Row) (way : Way) (f : Branches) → Around Q above way f → Every OfStanding (on_the_way above way f)
  each_way above [] f all = tt
  each_way above (frame ∷ way) f all =
      every_join OfStanding (on_the_way (Below frame.label.id) way f) (record { row = above; label = frame.label; below = around way f } ∷ [])
      (each_way (Below frame.label.id) way f all.3) (all.1, tt)

  -- what is so beside the way stays, and of the nodes on it is so anew
  pub around_again : (R : Row → Numbered → Branches → Type 0) (above : Row) (way : Way) (f g : Branches)
      → ((r : Row) (n : Numbered) (below : Branches) → 0 < beside_way n.id.0 way → Q r n below → R r n below)
      → Around Q above way f → OnWay R above way g → Around R above way g
  around_again R above [] f g so all on = tt
  around_again R above (frame ∷ way) f g so all on = (
    each_other Q R above frame.before (λ r n b more. so r n b (omega (arith, more))) all.0,
    on.0,
    each_other Q R above frame.after (λ r n b more. so r n b (omega (arith, more))) all.2,
    around_again R (Below frame.label.id) way f g (λ r n b more. so r n b (omega (arith, more))) all.3 on.1,
  )
