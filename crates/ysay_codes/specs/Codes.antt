-- The codes that the program prints, by the cause of each: which line or place is told, what to do, and where the rule stands.
use Rattle.std.specs.Prelude.{List, [], ◌∷◌, ◌++◌, codes, map, Option, Some, None, is_none, find}
use Rattle.std.specs.Char.{to_ascii_uppercase}
use Rattle.yspec.specs.Forest.{first_of}
use Rattle.yspec.specs.text.Text.{Text, is_text}

pub record Explanation : Type 0 where
  pub code : Text
  pub cause : Text
  pub place : Text
  pub remedy : Text
  pub source : Text

abbrev pub said : Text → Text → Text → Text → Text → Explanation
said code cause place remedy source =
    record { code = code; cause = cause; place = place; remedy = remedy; source = source }

-- the text of a module
abbrev pub of_texts : List Explanation
of_texts =
    said (codes "L1") (codes "The module's text isn't UTF-8.")
    (codes "the line of the first byte that belongs to no character") (codes "Save the file as UTF-8.") (codes "RFC 7950, 6") ∷
    said (codes "L2") (codes "The module's text has a character that YANG doesn't allow: a control character other than tab and line break, a carriage return without a line feed, or a noncharacter.")
    (codes "the line of the character") (codes "Take the character out; end lines with a line feed, or a carriage return and a line feed.") (codes "RFC 7950, 6 and 14") ∷
    said (codes "L3") (codes "A quoted string or a comment isn't closed.")
    (codes "the line where it opens") (codes "Close it: a string with the quote that opens it, a comment with */.") (codes "RFC 7950, 6.1.1 and 6.1.3") ∷
    said (codes "L4") (codes "In a string in double quotes a backslash stands before another character than n, t, a double quote or a backslash.")
    (codes "the line of the backslash") (codes "Double the backslash, or use single quotes, in which it is itself.") (codes "RFC 7950, 6.1.3") ∷
    said (codes "L5") (codes "A word, a string or a sign stands where it can't: two arguments, a quoted keyword, a + without a quoted string behind it, a sign without a keyword before it.")
    (codes "the line of what is out of place") (codes "Look whether a ; is missing before it, or a quote around an argument with spaces.") (codes "RFC 7950, 6.1 and 6.3") ∷
    said (codes "L6") (codes "The text isn't one whole module: it ends within a statement, has a } too many, no statement, or a second one at the top.")
    (codes "the line of the brace, the end or the statement") (codes "Balance the braces; one file holds one module.") (codes "RFC 7950, 6.3 and 7.1") ∷
    said (codes "L7") (codes "The text is too long, or blocks stand more than 64 deep in one another.")
    (codes "line 1, or the line of the block") (codes "Part the module in several ones, or use groupings.") (codes "a limit of this program") ∷
    said (codes "L8") (codes "A keyword isn't formed as one: letters, digits, _, - and ., perhaps behind a prefix and a colon.")
    (codes "the line of the keyword") (codes "Correct the keyword; an argument with such signs stands behind its keyword.") (codes "RFC 7950, 6.1.2 and 6.2") ∷
    []

-- sets of modules
abbrev pub of_modules : List Explanation
of_modules =
    said (codes "C1") (codes "A statement or a built-in type isn't known, may not stand there, or isn't read by this program.")
    (codes "the statement") (codes "Correct its name, or move it; README says what of YANG is read.") (codes "RFC 7950, 7 and 14") ∷
    said (codes "C2") (codes "A statement has too many or too few substatements of a kind.")
    (codes "the statement around them") (codes "Leave one of them, or add the one that must be there: a leaf needs a type, a module its namespace and prefix.") (codes "RFC 7950, 7") ∷
    said (codes "C3") (codes "The argument of a statement is missing or not of its form.")
    (codes "the statement") (codes "Write it as its statement wants it: an identifier, a number, true or false, a date, a path.") (codes "RFC 7950, 7 and 14") ∷
    said (codes "C4") (codes "The module has no yang-version, or another than 1.1.")
    (codes "the module") (codes "Write yang-version 1.1; at its beginning.") (codes "RFC 7950, 7.1.2") ∷
    said (codes "C5") (codes "An imported module isn't among those given, or its newest revision isn't the one that is asked for.")
    (codes "the import") (codes "Give the module too, or the revision; take the revision-date out where any does.") (codes "RFC 7950, 5.1 and 7.1.5") ∷
    said (codes "C6") (codes "A prefix is given twice, or no import of the module declares it.")
    (codes "the later prefix, or the statement that uses it") (codes "Name each prefix once, and import the module that it stands for.") (codes "RFC 7950, 5.1 and 7.1.4") ∷
    said (codes "C7") (codes "Two modules, two typedefs, two groupings or two identities have one name where both are seen, or a typedef has the name of a built-in type.")
    (codes "the later one, or the inner one") (codes "Rename one of them.") (codes "RFC 7950, 5.5 and 6.2.1") ∷
    said (codes "C8") (codes "A type, a grouping or an identity of that name isn't found.")
    (codes "the type, uses or base statement") (codes "Define it around the statement or at the top of the module that the prefix names, or correct the name.") (codes "RFC 7950, 5.5 and 7.18.2") ∷
    said (codes "C9") (codes "Imports, typedefs, groupings or identities lead back to themselves.")
    (codes "an import, type, uses or base statement on the way") (codes "Take one of them out.") (codes "RFC 7950, 5.1, 7.3, 7.12 and 7.18.2") ∷
    said (codes "C10") (codes "A restriction of a type is wrong or out of place, or what a built-in type needs is missing.")
    (codes "the type statement") (codes "Stay within the type's own range, in ascending parts; give fraction-digits, enums, bits, a path, bases or member types where the type needs them.") (codes "RFC 7950, 9") ∷
    said (codes "C11") (codes "A default isn't taken by the type, may not stand there, or stands twice.")
    (codes "the node") (codes "Give a value of the type; take the default out where the node is mandatory or has min-elements; name a case that the choice has.") (codes "RFC 7950, 7.6.1, 7.7.2 and 7.9.3") ∷
    said (codes "C12") (codes "The key or a unique of a list names no fitting leaf.")
    (codes "the list") (codes "Name leafs of the list, each once; keys stand right below it, of the same module and as much configuration as it.") (codes "RFC 7950, 7.8.2 and 7.8.3") ∷
    said (codes "C13") (codes "Two children of a node, or two cases of a choice, have one name.")
    (codes "the later one") (codes "Rename one of them; nodes in cases count beside the choice.") (codes "RFC 7950, 6.2.1 and 7.9") ∷
    said (codes "C14") (codes "A refine or an augment has no target, or one that can't take what it states.")
    (codes "the refine or augment statement") (codes "Look whether each step of the path names a node, choices and cases included, with its prefix, and whether the target is of a fitting kind.") (codes "RFC 7950, 7.13.2 and 7.17") ∷
    said (codes "C15") (codes "An augment adds configuration that must be there to a node of another module.")
    (codes "the augment statement") (codes "Make it optional, or put it into a container with presence.") (codes "RFC 7950, 7.17") ∷
    said (codes "C16") (codes "Configuration stands below state, or a list of configuration has no key.")
    (codes "the node") (codes "Take config true out, or write config false; give the list a key.") (codes "RFC 7950, 7.8.2 and 7.21.1") ∷
    said (codes "C17") (codes "The path of a leafref leads nowhere, to no leaf, in a circle, or from configuration to state.")
    (codes "the leaf or leaf-list") (codes "Name each data node on the way with its prefix; write require-instance false where configuration may refer to state.") (codes "RFC 7950, 9.9") ∷
    said (codes "C18") (codes "The modules define more than 65,535 nodes, nodes stand more than 60 deep, or a union has more than 65,535 members.")
    (codes "the module that is given last, or the union's type or leaf") (codes "Give fewer modules at once; name each member of a union once.") (codes "a limit of this program") ∷
    said (codes "C20") (codes "A pattern isn't a regular expression as XML Schema has it.")
    (codes "the pattern") (codes "Close each class and group, and put a backslash before a sign that stands for itself; blocks such as IsGreek aren't read.") (codes "RFC 7950, 9.4.5; XML Schema, part 2, appendix F") ∷
    said (codes "C22") (codes "A condition names no feature, or features lead back to themselves by their conditions.")
    (codes "the if-feature") (codes "Define the feature at the top of the module that the prefix names, or correct the name; take one of the conditions out.") (codes "RFC 7950, 7.20.1 and 7.20.2") ∷
    said (codes "C24") (codes "An action or a notification stands below an operation, a list without a key, a choice or a case, or an action at the top.")
    (codes "the action or notification statement") (codes "Give the list a key, or bring it elsewhere.") (codes "RFC 7950, 7.15 and 7.16") ∷
    []

-- documents
abbrev pub of_documents : List Explanation
of_documents =
    said (codes "J1") (codes "The document isn't JSON.")
    (codes "the document") (codes "Look for a comma or a bracket too many or too few, and for text that isn't UTF-8.") (codes "RFC 7951, 4; RFC 8259") ∷
    said (codes "J2") (codes "The document isn't an object.")
    (codes "the document") (codes "Put the top nodes into an object: {\"module:name\": ..}.") (codes "RFC 7951, 4") ∷
    said (codes "J3") (codes "No node of that name may stand there.")
    (codes "the node around it") (codes "Correct the name, or give the module that defines it.") (codes "RFC 7951, 4") ∷
    said (codes "J4") (codes "A name has a module where it must have none, or none where it must have one.")
    (codes "the node around it") (codes "Write module:name at the top and where the module changes, and the name alone elsewhere.") (codes "RFC 7951, 4") ∷
    said (codes "J5") (codes "A value is of another kind than its node: no object for a container or an entry, no array for a list or leaf-list.")
    (codes "the node") (codes "Write a container as an object, a list as an array of objects, a leaf-list as an array of values, an empty leaf as [null].") (codes "RFC 7951, 5 and 6") ∷
    said (codes "J6") (codes "A number has a fraction or an exponent.")
    (codes "the node") (codes "Write an integer without them; write a decimal64 as a string.") (codes "RFC 7951, 6.1") ∷
    said (codes "J7") (codes "The document has more than 1,000,000 nodes.")
    (codes "the document") (codes "Part it.") (codes "a limit of this program") ∷
    said (codes "J8") (codes "A member is given twice in one object, which --strict refuses; without it the last one counts.")
    (codes "the node of the member") (codes "Take one of them out.") (codes "RFC 8259, 4; RFC 7951, 4") ∷
    []

-- faults of documents
abbrev pub of_faults : List Explanation
of_faults =
    said (codes "V1") (codes "A value isn't one that its type takes.")
    (codes "the leaf or item") (codes "Look at the type's range, length and names; 64-bit integers and decimal64 are strings, and identities of other modules are module:name.") (codes "RFC 7950, 8.1 and 9; RFC 7951, 6") ∷
    said (codes "V2") (codes "An entry of a list lacks a leaf of its key.")
    (codes "the leaf that is missing") (codes "Add it.") (codes "RFC 7950, 7.8.2") ∷
    said (codes "V3") (codes "A leaf that must be there is missing.")
    (codes "the leaf") (codes "Add it, or take the node out around which it must be there.") (codes "RFC 7950, 7.6.5") ∷
    said (codes "V4") (codes "A choice that must be met has no node of any case.")
    (codes "the node around the choice, with the choice's name") (codes "Add a node of one of its cases.") (codes "RFC 7950, 7.9.4") ∷
    said (codes "V5") (codes "Nodes of two or more cases of a choice are there.")
    (codes "the node around the choice, with the choice's name") (codes "Leave the nodes of one case.") (codes "RFC 7950, 7.9") ∷
    said (codes "V6") (codes "A list or leaf-list has fewer entries or items than it must have.")
    (codes "the list or leaf-list") (codes "Add some.") (codes "RFC 7950, 7.7.5") ∷
    said (codes "V7") (codes "A list or leaf-list has more entries or items than it may have.")
    (codes "the list or leaf-list") (codes "Take some out.") (codes "RFC 7950, 7.7.6") ∷
    said (codes "V8") (codes "Another entry has the same key.")
    (codes "the entry") (codes "Change the key of one, or take one out.") (codes "RFC 7950, 7.8.2") ∷
    said (codes "V9") (codes "Another entry has the same values of a unique.")
    (codes "the entry, with the number of the unique") (codes "Change one of these values.") (codes "RFC 7950, 7.8.3") ∷
    said (codes "V10") (codes "Another item of a configuration leaf-list has the same value.")
    (codes "the item") (codes "Take one of them out.") (codes "RFC 7950, 7.7") ∷
    said (codes "V11") (codes "A leafref has no instance of its target with its value.")
    (codes "the leaf or item") (codes "Add the instance, or correct the value.") (codes "RFC 7950, 9.9.3") ∷
    said (codes "V12") (codes "A node of state is stored, where configuration alone is looked at.")
    (codes "the topmost node of state, without position: all instances that stand beside each other are told once") (codes "Take it out of the document, or leave out --config.") (codes "RFC 7950, 7.21.1") ∷
    []

-- edits
abbrev pub of_edits : List Explanation
of_edits =
    said (codes "E1") (codes "The line isn't an edit.")
    (codes "the line of the script") (codes "Write create PATH VALUE, replace PATH VALUE, remove PATH or move PATH N.") (codes "README, edits") ∷
    said (codes "E2") (codes "A step of the path names no node there, or in the wrong form.")
    (codes "the line of the script") (codes "Write /module:name at the top and where the module changes, and /name elsewhere.") (codes "RFC 7951, 6.11") ∷
    said (codes "E3") (codes "A predicate is missing, out of place or of another kind than its node wants; or what is moved is no entry or item.")
    (codes "the line of the script") (codes "Give a list entry [position] or a [key='value'] for each key, an item [position], and nothing to others, nor to the last step of create. Move entries and items alone.") (codes "RFC 7951, 6.11") ∷
    said (codes "E4") (codes "A node above the one that is meant isn't stored.")
    (codes "the line of the script") (codes "Create the container or the entry first.") (codes "README, edits") ∷
    said (codes "E5") (codes "There is no entry or item at that position.")
    (codes "the line of the script") (codes "Count from 1; take a position that is there.") (codes "README, edits") ∷
    said (codes "E6") (codes "Several entries have these keys.")
    (codes "the line of the script") (codes "Name the entry by its position.") (codes "README, edits") ∷
    said (codes "E7") (codes "What is to be replaced, removed or moved isn't stored.")
    (codes "the line of the script") (codes "Create it, or leave the line out.") (codes "README, edits") ∷
    said (codes "E8") (codes "What is to be created is stored.")
    (codes "the line of the script") (codes "Use replace.") (codes "README, edits") ∷
    said (codes "E9") (codes "The value isn't JSON.")
    (codes "the line of the script") (codes "Put texts into double quotes; look at brackets and commas.") (codes "RFC 8259") ∷
    said (codes "E10") (codes "The value doesn't fit the node; the code behind it says how.")
    (codes "the line of the script") (codes "See that code.") (codes "RFC 7951, 4 to 6") ∷
    said (codes "E11") (codes "The document would have more than 1,000,000 nodes.")
    (codes "the line of the script") (codes "Part it.") (codes "a limit of this program") ∷
    said (codes "E12") (codes "Memory ran out while the edit was done.")
    (codes "the line of the script") (codes "Give the program more memory.") (codes "README, edits") ∷
    said (codes "E13") (codes "The document is stale, since memory ran out in an edit before.")
    (codes "the line of the script") (codes "Begin again with the document.") (codes "README, edits") ∷
    []

-- what is said of a code, where it is one of those
abbrev pub said_of : Text → List Explanation → Option Explanation
said_of code explanations = find (λ e. is_text code e.code) explanations

unfoldable pub explanation_of : Text → Option Explanation
explanation_of code = first_of (first_of (first_of (first_of (said_of code of_texts) (said_of code of_modules))
    (said_of code of_documents)) (said_of code of_faults)) (said_of code of_edits)

-- ---- as lines

abbrev pub explained : Explanation → Text
explained e = e.code ++ (codes ": " ++ (e.cause ++ (codes "\n  Told: " ++ (e.place ++ (codes ".\n  To do: "
    ++ (e.remedy ++ (codes "\n  Source: " ++ (e.source ++ codes ".\n"))))))))

abbrev pub reason_in : Option Explanation → Text
reason_in None = []
reason_in (Some e) = codes "  " ++ (e.cause ++ (codes " " ++ (e.remedy ++ codes "\n")))

-- what stands below a line that tells a code: why it is told, and what to do
abbrev pub reason_of : Text → Text
reason_of code = reason_in (explanation_of code)

-- ---- those of several codes

abbrev pub all_explanations : List Explanation
all_explanations = of_texts ++ (of_modules ++ (of_documents ++ (of_faults ++ of_edits)))

abbrev pub known_among : Option Explanation → List Explanation → List Explanation
known_among None others = others
known_among (Some e) others = e ∷ others

-- what is said of the code that a word names, in letters of either case
abbrev pub explanation_for : Text → Option Explanation
explanation_for word = explanation_of (map to_ascii_uppercase word)

-- what is said of those that name codes
abbrev pub explanations_of : List Text → List Explanation
explanations_of [] = []
explanations_of (word ∷ others) = known_among (explanation_for word) (explanations_of others)

-- the first that names no code
abbrev pub unknown_among : List Text → Option Text
unknown_among words = find (λ word. is_none (explanation_for word)) words
