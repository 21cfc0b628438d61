-- What is read of a pattern's text, and the characters behind it, spell one tree however much of it is read.
use Rattle.std.specs.Prelude.{◌≡◌, ℕ, suc, ◌+◌, ◌<◌, List, [], ◌∷◌, length, drop, get_or, Option, Some, None, refl, option_map, option_and_then}
use Rattle.std.proofs.Common.{sym, ◌∙◌, ap, arith, drop-cons}
use Rattle.std.proofs.lemmas.List.{drop_all}
use Rattle.regex_hir.specs.Re.{Re}
use Rattle.yspec_patterns.specs.Sets.{Set}
use Rattle.yspec_patterns.specs.Escapes as escapes
use Rattle.yspec_patterns.specs.Escapes.{Symbol, in_front, goes_on, symbols_from}
use Rattle.yspec_patterns.specs.Classes as classes
use Rattle.yspec_patterns.specs.Classes.{Item, items_from}
use Rattle.yspec_patterns.specs.Quantities as parts
use Rattle.yspec_patterns.specs.Quantities.{Part, parts_from}
use Rattle.yspec_patterns.specs.Sizes.{size_step, size_from, Copies, copies_step, copies_ended, copies_from, both_of, Spelled}
use Rattle.yspec_patterns.specs.Reading.{Level, built_from}
use Rattle.ytype_patterns.specs.Engine.{engine}
use Rattle.ytype_patterns.specs.BuildingView.{part_built, ended_in}
use Rattle.ytype_patterns.specs.ReadingView.{handed_on, taken_by, counted_by, Building, with_group, Parts, with_part, Counts, with_item, ClassesRead, with_symbol, Sized, with_measured, Read, with_character, parts_left, symbols_left, left_behind, ended_groups, ended_counts, ended_classes, ended_measured, ended}

-- ---- a machine over another

-- what a machine makes of what comes, behind what it holds
abbrev Left : Type 0 → Type 0 → Type 0 → Type 0
Left R B G = Option (List B) → G → Option R

abbrev GoesOn : (R B G : Type 0) → Left R B G → (G → Option B → Option G) → Type 0
GoesOn R B G left taken = (xs : Option (List B)) (g : G) (made : Option B) → left (option_map (in_front made) xs) g ≡ option_and_then (left xs) (taken g made)

module _ {R A B T G : Type 0} (step : T → A → Option (Option B × T)) (from : List A → T → Option (List B)) (taken : G → Option B → Option G) (left : Left R B G) where
  abbrev left_over : Left R A (T × G)
  left_over xs s = left (option_and_then (λ inputs. from inputs s.0) xs) s.1

  handed : (inputs : List A) (t : T) (o : Option G) → option_and_then (left (from inputs t)) o ≡ option_and_then (left_over (Some inputs)) (option_map (λ above. (t, above)) o)
  handed inputs t None = refl
  handed inputs t (Some g) = refl

  over_one : GoesOn R B G left taken → ((g : G) → left None g ≡ None) → (inputs : List A) (g : G) (o : Option (Option B × T))
      → left (goes_on (from inputs) o) g ≡ option_and_then (left_over (Some inputs)) (handed_on step taken g o)
  over_one on none inputs g None = none g
  over_one on none inputs g (Some (made, t)) = on (from inputs t) g made ∙ handed inputs t (taken g made)

  over_none : ((g : G) → left None g ≡ None) → (o : Option (T × G)) → None ≡ option_and_then (left_over None) o
  over_none none None = refl
  over_none none (Some s) = sym (none s.1)

  over_on : ((a : A) (inputs : List A) (t : T) → from (a ∷ inputs) t ≡ goes_on (from inputs) (step t a)) → GoesOn R B G left taken → ((g : G) → left None g ≡ None)
      → GoesOn R A (T × G) left_over (taken_by step taken)
  over_on reads on none None s None = refl
  over_on reads on none (Some inputs) s None = refl
  over_on reads on none None s (Some a) = none s.1 ∙ over_none none (taken_by step taken s (Some a))
  over_on reads on none (Some inputs) s (Some a) = ap (λ xs. left xs s.1) (reads a inputs s.0) ∙ over_one on none inputs s.1 (step s.0 a)

-- ---- what is counted beside a machine

none_beside : (R S : Type 0) (o : Option S) → both_of {A = R} {B = S} None o ≡ None
none_beside R S None = refl
none_beside R S (Some y) = refl

paired : (R S A C : Type 0) (F : A → Option R) (G : C → Option S) (a : Option A) (c : Option C)
    → both_of (option_and_then F a) (option_and_then G c) ≡ option_and_then (λ (s : A × C). both_of (F s.0) (G s.1)) (both_of a c)
paired R S A C F G a None = refl
paired R S A C F G (Some x) (Some y) = refl
paired R S A C F G None (Some y) = none_beside R S (G y)

module _ {R S B G C : Type 0} (taken : G → Option B → Option G) (left : Left R B G) (step : C → B → Option C) (from : List B → C → Option S) where
  abbrev left_counted : Left (R × S) B (G × C)
  left_counted xs s = option_and_then (λ bs. both_of (left (Some bs) s.0) (from bs s.1)) xs

  counted_none : (o : Option (G × C)) → None ≡ option_and_then (left_counted None) o
  counted_none None = refl
  counted_none (Some s) = refl

  counted_on : ((b : B) (bs : List B) (c : C) → from (b ∷ bs) c ≡ option_and_then (from bs) (step c b)) → GoesOn R B G left taken
      → GoesOn (R × S) B (G × C) left_counted (counted_by taken step)
  counted_on reads on None s None = refl
  counted_on reads on (Some bs) s None = refl
  counted_on reads on None s (Some b) = counted_none (counted_by taken step s (Some b))
  counted_on reads on (Some bs) s (Some b) =
      ap (λ (a : Option R). both_of a (from (b ∷ bs) s.1)) (on (Some bs) s.0 (Some b))
      ∙ (ap (both_of (option_and_then (left (Some bs)) (taken s.0 (Some b)))) (reads b bs s.1)
      ∙ paired R S G C (left (Some bs)) (from bs) (taken s.0 (Some b)) (step s.1 b))

-- ---- groups

left_groups : Left Re (Part Set) Building
left_groups xs g = option_and_then (λ ps. built_from engine ps g.0 g.1) xs

built_on : (p : Part Set) (ps : List (Part Set)) (l : Level Re) (ls : List (Level Re))
    → built_from engine (p ∷ ps) l ls ≡ option_and_then (λ g. built_from engine ps g.0 g.1) (part_built p l ls)
unfolding built_from
built_on (parts.open_group, times) ps l ls = refl
built_on (parts.close_group, times) ps l [] = refl
built_on (parts.close_group, times) ps l (outer ∷ ls) = refl
built_on (parts.bar, times) ps l ls = refl
built_on (parts.atom set, times) ps l ls = refl

groups_none : (o : Option Building) → None ≡ option_and_then (left_groups None) o
unfolding left_groups
groups_none None = refl
groups_none (Some g) = refl

groups_on : GoesOn Re (Part Set) Building left_groups with_group
unfolding left_groups
groups_on None g None = refl
groups_on (Some ps) g None = refl
groups_on None g (Some p) = groups_none (with_group g (Some p))
groups_on (Some ps) g (Some p) = built_on p ps g.0 g.1

left_parts : Left (Re × ℕ) (Part Set) Parts
left_parts = left_counted with_group left_groups copies_step copies_from

parts_on : GoesOn (Re × ℕ) (Part Set) Parts left_parts with_part
unfolding left_parts copies_from
parts_on = counted_on with_group left_groups copies_step copies_from (λ p ps c. refl) groups_on

-- ---- the text

left_items : Left (Re × ℕ) Item Counts
left_items = left_over parts.part_step parts_from with_part left_parts

items_on : GoesOn (Re × ℕ) Item Counts left_items with_item
unfolding left_items left_parts parts_from
items_on = over_on parts.part_step parts_from with_part left_parts (λ a inputs t. refl) parts_on (λ g. refl)

left_symbols : Left (Re × ℕ) Symbol ClassesRead
left_symbols = left_over classes.class_step items_from with_item left_items

symbols_on : GoesOn (Re × ℕ) Symbol ClassesRead left_symbols with_symbol
unfolding left_symbols left_items left_parts items_from
symbols_on = over_on classes.class_step items_from with_item left_items (λ a inputs t. refl) items_on (λ g. refl)

left_measured : Left (Spelled Re) Symbol Sized
left_measured = left_counted with_symbol left_symbols size_step size_from

measured_on : GoesOn (Spelled Re) Symbol Sized left_measured with_measured
unfolding left_measured size_from
measured_on = counted_on with_symbol left_symbols size_step size_from (λ s ss n. refl) symbols_on

left_characters : Left (Spelled Re) ℕ Read
left_characters = left_over escapes.escape_step symbols_from with_measured left_measured

characters_on : GoesOn (Spelled Re) ℕ Read left_characters with_character
unfolding left_characters left_measured left_symbols left_items left_parts symbols_from
characters_on = over_on escapes.escape_step symbols_from with_measured left_measured (λ a inputs t. refl) measured_on (λ g. refl)

-- a character is read
pub read_on : (s : Read) (c : ℕ) (cs : List ℕ) → left_behind s (c ∷ cs) ≡ option_and_then (λ after. left_behind after cs) (with_character s (Some c))
unfolding left_characters left_measured left_symbols left_items left_parts left_groups
read_on s c cs = characters_on (Some cs) s (Some c)

-- ---- where no character follows

end_groups : (l : Level Re) (ls : List (Level Re)) → built_from engine [] l ls ≡ ended_in l ls
unfolding built_from
end_groups l [] = refl
end_groups l (outer ∷ ls) = refl

end_parts : (s : Parts) → parts_left s [] ≡ ended_groups s
unfolding copies_from
end_parts s = ap (λ (a : Option Re). both_of a (copies_ended s.1)) (end_groups s.0.0 s.0.1)

end_any : (o : Option Parts) → option_and_then (λ (s : Parts). parts_left s []) o ≡ option_and_then ended_groups o
end_any None = refl
end_any (Some s) = end_parts s

-- behind a last part
end_part : (p : Part Set) (s : Parts) → parts_left s (p ∷ []) ≡ option_and_then ended_groups (with_part s (Some p))
unfolding copies_from
end_part p s =
    ap (λ (a : Option Re). both_of a (option_and_then (copies_from {X = Set} []) (copies_step s.1 p))) (built_on p [] s.0.0 s.0.1)
    ∙ (paired Re ℕ Building Copies (λ (g : Building). built_from engine [] g.0 g.1) (copies_from {X = Set} []) (part_built p s.0.0 s.0.1) (copies_step s.1 p)
    ∙ end_any (with_part s (Some p)))

end_counts : (s : Counts) → option_and_then (parts_left s.1) (parts_from [] s.0) ≡ ended_counts s
unfolding parts_from
end_counts (parts.behind None, g) = end_parts g
end_counts (parts.behind (Some t), g) = end_part (parts.once t) g
end_counts (parts.least_due t, g) = refl
end_counts (parts.least t n, g) = refl
end_counts (parts.most_due t n, g) = refl
end_counts (parts.most t n m, g) = refl

end_classes : (s : ClassesRead) → symbols_left s [] ≡ ended_classes s
unfolding items_from
end_classes (classes.no_class, s) = end_counts s
end_classes (classes.opened around, s) = refl
end_classes (classes.inside k pending, s) = refl
end_classes (classes.ended set outer around, s) = refl

abbrev with_size : ℕ → Re × ℕ → Spelled Re
with_size size made = (made, size)

end_measured : (s : Sized) → both_of (symbols_left s.0 []) (size_from [] s.1) ≡ ended_measured s
unfolding size_from
end_measured s = ap (option_map (with_size s.1)) (end_classes s.0)

pub read_all : (s : Read) → left_behind s [] ≡ ended s
unfolding symbols_from
read_all (escapes.no_escape, s) = end_measured s
read_all (escapes.backslash, s) = refl
read_all (escapes.property inverted, s) = refl
read_all (escapes.brace inverted, s) = refl
read_all (escapes.one_letter inverted l, s) = refl
read_all (escapes.two_letters inverted l m, s) = refl

-- ---- one character after another

char_at : (cs : List ℕ) (n c : ℕ) → (n < length cs) × (c ≡ get_or cs n c) → drop n cs ≡ c ∷ drop (n + 1) cs
char_at cs n c h =
    let next : suc n ≡ n + 1 = omega arith in
    drop-cons cs n c h.0 ∙ ap (λ (k : ℕ). get_or cs n c ∷ drop k cs) next ∙ ap (λ (x : ℕ). x ∷ drop (n + 1) cs) (sym h.1)

-- what is spelled stays as it is with a character that is read
pub one_read : (cs : List ℕ) (n m c : ℕ) (s : Read) (spelled : Option (Spelled Re)) (o : Option Read) → (n < length cs) × (c ≡ get_or cs n c) → m ≡ n + 1
    → o ≡ with_character s (Some c) → left_behind s (drop n cs) ≡ spelled → option_and_then (λ after. left_behind after (drop m cs)) o ≡ spelled
one_read cs n m c s spelled o at next made so_far =
    ap (λ (k : ℕ). option_and_then (λ (after : Read). left_behind after (drop k cs)) o) next
    ∙ (ap (option_and_then (λ (after : Read). left_behind after (drop (n + 1) cs))) made
    ∙ (sym (read_on s c (drop (n + 1) cs)) ∙ (ap (left_behind s) (sym (char_at cs n c at)) ∙ so_far)))

-- none is left
pub none_left : (cs : List ℕ) (n : ℕ) (s : Read) (spelled : Option (Spelled Re)) → n ≡ length cs → left_behind s (drop n cs) ≡ spelled → ended s ≡ spelled
none_left cs n s spelled all so_far = sym (read_all s) ∙ (ap (left_behind s) (sym (drop_all n cs (omega (arith, all)))) ∙ so_far)
