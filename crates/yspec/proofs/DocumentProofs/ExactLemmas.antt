-- Values whose numbers are whole ones of 64 bits, whose texts are UTF-8 and whose members stand in order are read back from
-- their compact text.
use Rattle.std.proofs.Common.{◌≡◌, ℕ, suc, ◌^◌, ◌<◌, ◌≤◌, negsuc, Bool, true, false, List, [], ◌∷◌, ◌++◌, max, Some, Ordering, Less, Equal, Greater, nat_cmp, option_map, option_and_then, IsUtf8, decimal, refl, sym, ap, ap₂, ◌∙◌, subst, arith, append-nil}
use Rattle.std.proofs.lemmas.Cmp.{nat_list_cmp_total}
use Rattle.std.proofs.lemmas.Fmt.{decimal_is_IsNumeral}
use Rattle.std.proofs.lemmas.Str.{IsUtf8-append, IsUtf8-nil}
use Rattle.std.specs.Char.{digit_value}
use Rattle.std.specs.Str.Parse.{AllDigits}
use Rattle.std.specs.Cmp.Lexicographic.{slice_cmp}
use Rattle.std.specs.Ordering.{match_ordering, ordering_reverse}
use Rattle.json.specs.Lex.{tokens}
use Rattle.json.specs.Print.{IsNumber, quoted, ArePrintable}
use Rattle.json.specs.Json as json
use Rattle.json.specs.Tree as tree
use Rattle.json.specs.Tree.{json_tokens, HasNumbers, ItemsHaveNumbers, MembersHaveNumbers}
use Rattle.json.proofs.Printed.Decimals.{IsNumber-decimal, IsNumber-signed_decimal}
use Rattle.json.proofs.Printed.Utf8.{IsUtf8-are_ascii, IsUtf8-quoted}
use Rattle.json.proofs.Printed.Trees.{value-json_tokens, ArePrintable-json_tokens}
use Rattle.json.proofs.Printed.Tokens.{tokens-print}
use Rattle.serde_json.specs.Data.{Num, unsigned, negative, float, Data, null, boolean, number, string, array, object, Items, no_items, item, Members, no_members, member, put, depth, items_depth, members_depth}
use Rattle.serde_json.specs.Read.{number_of, of_json, of_items, of_members, read, max_depth}
use Rattle.serde_json.specs.Written.{number_text, outline, items_outline, members_outline, comma_if, compact_text, items_text, members_text}
use Rattle.serde_json.proofs.Numbers.{number_of-decimal, number_of-negative}
use Rattle.serde_json.proofs.Texts.{print-outline}
use Rattle.yspec.specs.text.Text.{Text}
use Rattle.yspec.specs.document.Reading.{json_of}
use Rattle.yspec.proofs.DocumentProofs.JsonLemmas.{json_found}
use Rattle.yspec.proofs.BasicLemmas.{ascii_text}
use Rattle.yspec.proofs.DocumentProofs.TextEndLemmas.{tokens_ended}

-- ---- what is asked of values

abbrev pub IsWhole : Num → Type 0
IsWhole (unsigned n) = n < 2 ^ 64
IsWhole (negative z) = (n : ℕ) × (z ≡ negsuc n) × (n < 2 ^ 63)
IsWhole (float x) = ⊥

-- a name stands before all these members
abbrev pub IsBefore : Text → Members → Type 0
IsBefore name no_members = Unit {0}
IsBefore name (member other d ms) = (slice_cmp nat_cmp other name ≡ Greater) × IsBefore name ms

abbrev mutual
  pub IsExact : Data → Type 0
  IsExact null = Unit {0}
  IsExact (boolean b) = Unit {0}
  IsExact (number n) = IsWhole n
  IsExact (string s) = IsUtf8 s
  IsExact (array ds) = ItemsAreExact ds
  IsExact (object ms) = AreExact ms

  pub ItemsAreExact : Items → Type 0
  ItemsAreExact no_items = Unit {0}
  ItemsAreExact (item d ds) = IsExact d × ItemsAreExact ds

  pub AreExact : Members → Type 0
  AreExact no_members = Unit {0}
  AreExact (member name d ms) = IsUtf8 name × IsExact d × IsBefore name ms × AreExact ms

-- ---- a member that is put in

pub turned : (a b : Text) (o p : Ordering) → slice_cmp nat_cmp a b ≡ o → ordering_reverse o ≡ p → slice_cmp nat_cmp b a ≡ p
turned a b o p is back = nat_list_cmp_total.antisymm b a ∙ (ap ordering_reverse is ∙ back)

-- what stands behind something later
later_still : (a b c : Text) → slice_cmp nat_cmp a b ≡ Greater → slice_cmp nat_cmp b c ≡ Greater → slice_cmp nat_cmp a c ≡ Greater
later_still a b c first second =
    turned c a Less Greater (nat_list_cmp_total.trans c b a (turned b c Greater Less second refl) (turned a b Greater Less first refl)) refl

pub before_later : (name other : Text) (ms : Members) → slice_cmp nat_cmp other name ≡ Greater → IsBefore other ms → IsBefore name ms
before_later name other no_members is before = tt
before_later name other (member third d ms) is before = (later_still third other name before.0 is, before_later name other ms is before.1)

put_before_at : (o : Ordering) (first name other : Text) (d e : Data) (ms : Members) → slice_cmp nat_cmp name first ≡ Greater
    → IsBefore first (member other e ms) → IsBefore first (put name d ms)
    → IsBefore first (match_ordering o (member name d (member other e ms)) (member other d ms) (member other e (put name d ms)))
put_before_at Less first name other d e ms is before later = (is, before)
put_before_at Equal first name other d e ms is before later = before
put_before_at Greater first name other d e ms is before later = (before.0, later)

pub put_before : (first name : Text) (d : Data) (ms : Members) → slice_cmp nat_cmp name first ≡ Greater → IsBefore first ms → IsBefore first (put name d ms)
put_before first name d no_members is before = (is, tt)
put_before first name d (member other e ms) is before =
    put_before_at (slice_cmp nat_cmp name other) first name other d e ms is before (put_before first name d ms is before.1)

put_exact_at : (o : Ordering) (name other : Text) (d e : Data) (ms : Members) → slice_cmp nat_cmp name other ≡ o → IsUtf8 name → IsExact d
    → AreExact (member other e ms) → AreExact (put name d ms)
    → AreExact (match_ordering o (member name d (member other e ms)) (member other d ms) (member other e (put name d ms)))
put_exact_at Less name other d e ms is utf8 this these later =
    let behind = turned name other Less Greater is refl in (utf8, this, (behind, before_later name other ms behind these.2), these)
put_exact_at Equal name other d e ms is utf8 this these later = (these.0, this, these.2, these.3)
put_exact_at Greater name other d e ms is utf8 this these later = (these.0, these.1, put_before other name d ms is these.2, later)

pub put_exact : (name : Text) (d : Data) (ms : Members) → IsUtf8 name → IsExact d → AreExact ms → AreExact (put name d ms)
put_exact name d no_members utf8 this these = (utf8, this, tt, tt)
put_exact name d (member other e ms) utf8 this these =
    put_exact_at (slice_cmp nat_cmp name other) name other d e ms refl utf8 this these (put_exact name d ms utf8 this these.3)

-- ---- members that are put in one after another

abbrev joined : Members → Members → Members
joined no_members ms = ms
joined (member name d found) ms = member name d (joined found ms)

joined_none : (found : Members) → joined found no_members ≡ found
joined_none no_members = refl
joined_none (member name d found) = ap (member name d) (joined_none found)

joined_more : (found : Members) (name : Text) (d : Data) (ms : Members) → joined (joined found (member name d no_members)) ms ≡ joined found (member name d ms)
joined_more no_members name d ms = refl
joined_more (member other e found) name d ms = ap (member other e) (joined_more found name d ms)

-- all these members stand before a name
abbrev AreBefore : Members → Text → Type 0
AreBefore no_members name = Unit {0}
AreBefore (member other e found) name = (slice_cmp nat_cmp name other ≡ Greater) × AreBefore found name

-- before each of those
abbrev AllBefore : Members → Members → Type 0
AllBefore found no_members = Unit {0}
AllBefore found (member name d ms) = AreBefore found name × AllBefore found ms

one_more : (found : Members) (name other : Text) (d : Data) → AreBefore found other → slice_cmp nat_cmp other name ≡ Greater
    → AreBefore (joined found (member name d no_members)) other
one_more no_members name other d before is = (is, tt)
one_more (member third e found) name other d before is = (before.0, one_more found name other d before.1 is)

all_more : (found : Members) (name : Text) (d : Data) (ms : Members) → AllBefore found ms → IsBefore name ms
    → AllBefore (joined found (member name d no_members)) ms
all_more found name d no_members before after = tt
all_more found name d (member other e ms) before after =
    (one_more found name other d before.0 after.0, all_more found name d ms before.1 after.1)

none_before : (ms : Members) → AllBefore no_members ms
none_before no_members = tt
none_before (member name d ms) = (tt, none_before ms)

put_behind : (found : Members) (name : Text) (d : Data) → AreBefore found name → put name d found ≡ joined found (member name d no_members)
put_behind no_members name d before = refl
put_behind (member other e found) name d before =
    ap (λ o. match_ordering o (member name d (member other e found)) (member other d found) (member other e (put name d found))) before.0
    ∙ ap (member other e) (put_behind found name d before.1)

-- ---- numbers

whole_read : (n : Num) → IsWhole n → number_of (number_text n) ≡ Some n
whole_read (unsigned n) whole = number_of-decimal n whole
whole_read (negative z) whole = subst (λ y. number_of (number_text (negative y)) ≡ Some (negative y)) (sym whole.1) (number_of-negative whole.0 whole.2)
whole_read (float x) whole = absurd whole

whole_spelled : (n : Num) → IsWhole n → IsNumber (number_text n)
whole_spelled (unsigned n) whole = IsNumber-decimal n whole
whole_spelled (negative z) whole = subst (λ y. IsNumber (number_text (negative y))) (sym whole.1) (IsNumber-signed_decimal (negsuc whole.0) whole.2)
whole_spelled (float x) whole = absurd whole

mutual
  spelled : (d : Data) → IsExact d → HasNumbers (outline d)
  spelled null exact = tt
  spelled (boolean b) exact = tt
  spelled (number n) exact = whole_spelled n exact
  spelled (string s) exact = tt
  spelled (array ds) exact = items_spelled ds exact
  spelled (object ms) exact = members_spelled ms exact

  items_spelled : (ds : Items) → ItemsAreExact ds → ItemsHaveNumbers (items_outline ds)
  items_spelled no_items exact = tt
  items_spelled (item d ds) exact = (spelled d exact.0, items_spelled ds exact.1)

  members_spelled : (ms : Members) → AreExact ms → MembersHaveNumbers (members_outline ms)
  members_spelled no_members exact = tt
  members_spelled (member name d ms) exact = (spelled d exact.1, members_spelled ms exact.3)

-- ---- values

mutual
  value_back : (d : Data) → IsExact d → of_json (outline d) ≡ Some d
  value_back null exact = refl
  value_back (boolean b) exact = refl
  value_back (number n) exact = ap (option_map number) (whole_read n exact)
  value_back (string s) exact = refl
  value_back (array ds) exact = ap (option_map array) (items_back ds exact)
  value_back (object ms) exact = ap (option_map object) (members_back ms no_members exact (none_before ms))

  items_back : (ds : Items) → ItemsAreExact ds → of_items (items_outline ds) ≡ Some ds
  items_back no_items exact = refl
  items_back (item d ds) exact =
      ap (option_and_then (λ e. option_map (item e) (of_items (items_outline ds)))) (value_back d exact.0)
      ∙ ap (option_map (item d)) (items_back ds exact.1)

  members_back : (ms found : Members) → AreExact ms → AllBefore found ms → of_members (members_outline ms) found ≡ Some (joined found ms)
  members_back no_members found exact before = ap Some (sym (joined_none found))
  members_back (member name d ms) found exact before =
      ap (option_and_then (λ e. of_members (members_outline ms) (put name e found))) (value_back d exact.1)
      ∙ (ap (of_members (members_outline ms)) (put_behind found name d before.0)
      ∙ (members_back ms (joined found (member name d no_members)) exact.3 (all_more found name d ms before.1 exact.2)
      ∙ ap Some (joined_more found name d ms)))

mutual
  same_depth : (d : Data) → tree.depth (outline d) ≡ depth d
  same_depth null = refl
  same_depth (boolean b) = refl
  same_depth (number n) = refl
  same_depth (string s) = refl
  same_depth (array ds) = ap suc (same_items_depth ds)
  same_depth (object ms) = ap suc (same_members_depth ms)

  same_items_depth : (ds : Items) → tree.items_depth (items_outline ds) ≡ items_depth ds
  same_items_depth no_items = refl
  same_items_depth (item d ds) = ap₂ max (same_depth d) (same_items_depth ds)

  same_members_depth : (ms : Members) → tree.members_depth (members_outline ms) ≡ members_depth ms
  same_members_depth no_members = refl
  same_members_depth (member name d ms) = ap₂ max (same_depth d) (same_members_depth ms)

-- ---- texts

digits_text : (ds : List ℕ) → AllDigits 10 ds → IsUtf8 ds
digits_text [] digits = IsUtf8-nil
digits_text (d ∷ ds) digits = IsUtf8-append (d ∷ []) ds (ascii_text d (small d digits.0)) (digits_text ds digits.1)
  where
    small : (c : ℕ) → digit_value c < 10 → c < 128
    small c digit = grind arith

number_utf8 : (n : Num) → IsWhole n → IsUtf8 (number_text n)
number_utf8 (unsigned n) whole = digits_text (decimal n) (decimal_is_IsNumeral n whole).0.1
number_utf8 (negative z) whole =
    subst (λ y. IsUtf8 (number_text (negative y))) (sym whole.1)
    (IsUtf8-append (45 ∷ []) (decimal (suc whole.0)) (IsUtf8-are_ascii (45 ∷ []) refl)
    (digits_text (decimal (suc whole.0)) (decimal_is_IsNumeral (suc whole.0) (let few = whole.2 in omega (arith, few))).0.1))
number_utf8 (float x) whole = absurd whole

comma_utf8 : (later : Bool) → IsUtf8 (comma_if later)
comma_utf8 true = IsUtf8-are_ascii (44 ∷ []) refl
comma_utf8 false = IsUtf8-nil

mutual
  pub text_utf8 : (d : Data) → IsExact d → IsUtf8 (compact_text d)
  text_utf8 null exact = IsUtf8-are_ascii _ refl
  text_utf8 (boolean true) exact = IsUtf8-are_ascii _ refl
  text_utf8 (boolean false) exact = IsUtf8-are_ascii _ refl
  text_utf8 (number n) exact = number_utf8 n exact
  text_utf8 (string s) exact = IsUtf8-quoted s exact
  text_utf8 (array ds) exact = IsUtf8-append (91 ∷ []) (items_text false ds) (IsUtf8-are_ascii _ refl) (items_utf8 false ds exact)
  text_utf8 (object ms) exact = IsUtf8-append (123 ∷ []) (members_text false ms) (IsUtf8-are_ascii _ refl) (members_utf8 false ms exact)

  items_utf8 : (later : Bool) (ds : Items) → ItemsAreExact ds → IsUtf8 (items_text later ds)
  items_utf8 later no_items exact = IsUtf8-are_ascii _ refl
  items_utf8 later (item d ds) exact =
      IsUtf8-append (comma_if later) _ (comma_utf8 later) (IsUtf8-append (compact_text d) (items_text true ds) (text_utf8 d exact.0) (items_utf8 true ds exact.1))

  members_utf8 : (later : Bool) (ms : Members) → AreExact ms → IsUtf8 (members_text later ms)
  members_utf8 later no_members exact = IsUtf8-are_ascii _ refl
  members_utf8 later (member name d ms) exact =
      IsUtf8-append (comma_if later) _ (comma_utf8 later) (IsUtf8-append (quoted name) _ (IsUtf8-quoted name exact.0)
      (IsUtf8-append (58 ∷ []) (compact_text d ++ members_text true ms) (IsUtf8-are_ascii _ refl)
      (IsUtf8-append (compact_text d) (members_text true ms) (text_utf8 d exact.1) (members_utf8 true ms exact.3))))

value_read : (d : Data) (text : Text) → tokens text ≡ json_tokens (outline d) → IsExact d → depth d ≤ max_depth → read text ≡ Some d
value_read d text is exact shallow =
    let j = outline d in
    let deep = same_depth d in
    let spelt : tokens text ≡ json_tokens j ++ [] = is ∙ sym (append-nil (json_tokens j)) in
    ap (λ ts. option_and_then of_json (option_and_then (λ p. json.if_last p.0 p.1) (json.value max_depth ts))) spelt
    ∙ (ap (λ o. option_and_then of_json (option_and_then (λ p. json.if_last p.0 p.1) o)) (value-json_tokens j max_depth [] (omega (arith, deep, shallow)))
    ∙ value_back d exact)

printable : (d : Data) → IsExact d → ArePrintable (json_tokens (outline d))
printable d exact = ArePrintable-json_tokens (outline d) (spelled d exact)

-- with a line feed behind it
pub exact_read : (d : Data) → IsExact d → depth d ≤ max_depth → json_of (compact_text d ++ 10 ∷ []) ≡ Some d
exact_read d exact shallow =
    json_found (compact_text d ++ 10 ∷ []) d (IsUtf8-append (compact_text d) (10 ∷ []) (text_utf8 d exact) (IsUtf8-are_ascii _ refl))
    (value_read d (compact_text d ++ 10 ∷ []) (ap (λ t. tokens (t ++ 10 ∷ [])) (sym (print-outline d)) ∙ tokens_ended (json_tokens (outline d)) (printable d exact)) exact shallow)

-- and alone
pub exact_alone : (d : Data) → IsExact d → depth d ≤ max_depth → json_of (compact_text d) ≡ Some d
exact_alone d exact shallow =
    json_found (compact_text d) d (text_utf8 d exact)
    (value_read d (compact_text d) (ap tokens (sym (print-outline d)) ∙ tokens-print (json_tokens (outline d)) (printable d exact)) exact shallow)
