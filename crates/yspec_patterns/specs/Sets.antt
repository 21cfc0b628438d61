-- Sets of characters, and those that an escape names (XML Schema, part 2, appendix F.1).
use Rattle.std.specs.Prelude.{ℕ, Bool, not, ◌&&◌, ◌||◌, ◌==◌, nat_le, Option, Some, None, if◌then◌else◌}
use Rattle.ucd_category.specs.GeneralCategory.{general_category, general_category_eq}
use Rattle.ucd_category.specs.GeneralCategoryGroup.{in_group}
use Rattle.ucd_category.specs.declared.GeneralCategory.{GeneralCategory}
use Rattle.ucd_category.specs.declared.GeneralCategory.TheVariants as category
use Rattle.ucd_category.specs.declared.GeneralCategoryGroup.{GeneralCategoryGroup}
use Rattle.ucd_category.specs.declared.GeneralCategoryGroup.TheVariants as group

-- a set of characters of Unicode, by their codes
abbrev pub Set : Type 0
Set = ℕ → Bool

abbrev pub is_character : Set
is_character c = nat_le c 0x10_FFFF

-- from one character to another
abbrev pub within : ℕ → ℕ → Set
within low high = λ c. nat_le low c && nat_le c high

abbrev pub just : ℕ → Set
just x = within x x

abbrev pub any_of : Set → Set → Set
any_of a b = λ c. a c || b c

abbrev pub outside : Set → Set
outside a = λ c. is_character c && not (a c)

abbrev pub without : Set → Set → Set
without a b = λ c. a c && not (b c)

-- ---- those that have a name

abbrev pub of_category : GeneralCategory → Set
of_category g = λ c. is_character c && general_category_eq (general_category c) g

abbrev pub of_group : GeneralCategoryGroup → Set
of_group g = λ c. is_character c && in_group g (general_category c)

-- space, tab, line feed and carriage return
abbrev pub white : Set
white = any_of (within 9 10) (any_of (just 13) (just 32))

-- any character but a line feed and a carriage return
abbrev pub wildcard : Set
wildcard = outside (any_of (just 10) (just 13))

abbrev pub digits : Set
digits = of_category category.DecimalNumber

-- all but punctuation, separators and others
abbrev pub words : Set
words = outside (any_of (of_group group.Punctuation) (any_of (of_group group.Separator) (of_group group.Other)))

-- what a name begins with: a colon, an underline, or a letter by its category (XML 1.0, appendix B)
abbrev pub name_starts : Set
name_starts = any_of (any_of (just 58) (just 95)) (any_of (any_of (of_category category.UppercaseLetter) (of_category category.LowercaseLetter))
    (any_of (of_category category.TitlecaseLetter) (any_of (of_category category.OtherLetter) (of_category category.LetterNumber))))

-- what a name goes on with
abbrev pub name_characters : Set
name_characters = any_of name_starts (any_of (any_of (within 45 46) (just 0xB7)) (any_of (any_of digits (of_category category.ModifierLetter)) (of_group group.Mark)))

-- the set that a letter behind a backslash names; a capital one names what lies outside
abbrev pub set_of_letter : ℕ → Option Set
set_of_letter c = if c == 100 then Some digits
    else (if c == 68 then Some (outside digits)
    else (if c == 115 then Some white
    else (if c == 83 then Some (outside white)
    else (if c == 105 then Some name_starts
    else (if c == 73 then Some (outside name_starts)
    else (if c == 99 then Some name_characters
    else (if c == 67 then Some (outside name_characters)
    else (if c == 119 then Some words
    else (if c == 87 then Some (outside words) else None)))))))))

-- ---- categories by their names

-- of one letter
abbrev pub group_named : ℕ → Option GeneralCategoryGroup
group_named c = if c == 76 then Some group.Letter
    else (if c == 77 then Some group.Mark
    else (if c == 78 then Some group.Number
    else (if c == 80 then Some group.Punctuation
    else (if c == 90 then Some group.Separator
    else (if c == 83 then Some group.Symbol
    else (if c == 67 then Some group.Other else None))))))

abbrev pub letter_named : ℕ → Option GeneralCategory
letter_named d = if d == 117 then Some category.UppercaseLetter
    else (if d == 108 then Some category.LowercaseLetter
    else (if d == 116 then Some category.TitlecaseLetter
    else (if d == 109 then Some category.ModifierLetter
    else (if d == 111 then Some category.OtherLetter else None))))

abbrev pub mark_named : ℕ → Option GeneralCategory
mark_named d = if d == 110 then Some category.NonspacingMark
    else (if d == 99 then Some category.SpacingMark
    else (if d == 101 then Some category.EnclosingMark else None))

abbrev pub number_named : ℕ → Option GeneralCategory
number_named d = if d == 100 then Some category.DecimalNumber
    else (if d == 108 then Some category.LetterNumber
    else (if d == 111 then Some category.OtherNumber else None))

abbrev pub punctuation_named : ℕ → Option GeneralCategory
punctuation_named d = if d == 99 then Some category.ConnectorPunctuation
    else (if d == 100 then Some category.DashPunctuation
    else (if d == 115 then Some category.OpenPunctuation
    else (if d == 101 then Some category.ClosePunctuation
    else (if d == 105 then Some category.InitialPunctuation
    else (if d == 102 then Some category.FinalPunctuation
    else (if d == 111 then Some category.OtherPunctuation else None))))))

abbrev pub separator_named : ℕ → Option GeneralCategory
separator_named d = if d == 115 then Some category.SpaceSeparator
    else (if d == 108 then Some category.LineSeparator
    else (if d == 112 then Some category.ParagraphSeparator else None))

abbrev pub symbol_named : ℕ → Option GeneralCategory
symbol_named d = if d == 109 then Some category.MathSymbol
    else (if d == 99 then Some category.CurrencySymbol
    else (if d == 107 then Some category.ModifierSymbol
    else (if d == 111 then Some category.OtherSymbol else None)))

abbrev pub other_named : ℕ → Option GeneralCategory
other_named d = if d == 99 then Some category.Control
    else (if d == 102 then Some category.Format
    else (if d == 111 then Some category.PrivateUse
    else (if d == 110 then Some category.Unassigned else None)))

-- of two letters
abbrev pub category_named : ℕ → ℕ → Option GeneralCategory
category_named c d = if c == 76 then letter_named d
    else (if c == 77 then mark_named d
    else (if c == 78 then number_named d
    else (if c == 80 then punctuation_named d
    else (if c == 90 then separator_named d
    else (if c == 83 then symbol_named d
    else (if c == 67 then other_named d else None))))))
