-- Keys that are the same, and the nodes that hold them.
use Rattle.std.proofs.Common.{◌≡◌, ◌∙◌, suc, true, false, refl, ap, cond, is_eq, Ordering, Less, Equal, Greater}
use Rattle.std.proofs.lemmas.Bool.{false≢true}
use Rattle.std.specs.Option.{option_map_or}
use Rattle.std.specs.Ordering.{ordering_then, nat_cmp}
use Rattle.std.proofs.lemmas.Map.Lookups.{exact_unsigned}
use Rattle.ystore_rows.specs.contracts.row.RowOrd.TheImpl as row_ord
use Rattle.yschema_model.specs.contracts.node.SchemaIdOrd.TheImpl as schema_ord
use Rattle.ystore.specs.Store.{entry_at, instances_at, same_key}
use Rattle.ystore.specs.declared.key.Key.{Key}
use Rattle.ystore.specs.declared.key.Key.TheVariants.{Value, Item, Tuple, Texts}
use Rattle.ystore.specs.declared.nodes.Nodes.{Nodes}
use Rattle.ylive_marks.specs.Keys.{found_at, is_texts, slot_of}

pub equal_is : (r : Ordering) → is_eq r ≡ true → r ≡ Equal
equal_is Less e = absurd (false≢true e)
equal_is Equal e = refl
equal_is Greater e = absurd (false≢true e)

-- where a third comparison counts, it says equal of what is the same
third : (A B C D : Ordering) → is_eq (ordering_then A (ordering_then B (ordering_then C D))) ≡ true → C ≡ Equal
third Equal Equal Equal D e = refl
third Less B C D e = absurd (false≢true e)
third Greater B C D e = absurd (false≢true e)
third Equal Less C D e = absurd (false≢true e)
third Equal Greater C D e = absurd (false≢true e)
third Equal Equal Less D e = absurd (false≢true e)
third Equal Equal Greater D e = absurd (false≢true e)

pub slots_alike : (key other : Key) → same_key key other ≡ true → slot_of key ≡ slot_of other
slots_alike (Value a b) (Value c d) e = refl
slots_alike (Value a b) (Texts c d f) e = refl
slots_alike (Texts a b c) (Value d f) e = refl
slots_alike (Texts a b c) (Texts d f g) e = refl
slots_alike (Item a b c) (Item d f g) e = refl
slots_alike (Value a b) (Item c d f) e = absurd (false≢true e)
slots_alike (Value a b) (Tuple c d f g) e = absurd (false≢true e)
slots_alike (Item a b c) (Value d f) e = absurd (false≢true e)
slots_alike (Item a b c) (Tuple d f g h) e = absurd (false≢true e)
slots_alike (Item a b c) (Texts d f g) e = absurd (false≢true e)
slots_alike (Tuple a b u c) (Value d f) e = absurd (false≢true e)
slots_alike (Tuple a b u c) (Item d f g) e = absurd (false≢true e)
slots_alike (Tuple a b u c) (Texts d f g) e = absurd (false≢true e)
slots_alike (Texts a b c) (Item d f g) e = absurd (false≢true e)
slots_alike (Texts a b c) (Tuple d f g h) e = absurd (false≢true e)
slots_alike (Tuple a b u c) (Tuple d f v g) e =
    ap suc (exact_unsigned u v (third (row_ord.ghosts.cmp a d) (schema_ord.ghosts.cmp b f) (nat_cmp u v) _ e))

-- ---- keys of texts

pub texts_alike : (key other : Key) → same_key key other ≡ true → is_texts key ≡ is_texts other
texts_alike (Value a b) (Value f g) e = refl
texts_alike (Value a b) (Item f g h) e = refl
texts_alike (Value a b) (Tuple f g h i) e = refl
texts_alike (Value a b) (Texts f g h) e = absurd (false≢true e)
texts_alike (Item a b c) (Value f g) e = refl
texts_alike (Item a b c) (Item f g h) e = refl
texts_alike (Item a b c) (Tuple f g h i) e = refl
texts_alike (Item a b c) (Texts f g h) e = absurd (false≢true e)
texts_alike (Tuple a b c d) (Value f g) e = refl
texts_alike (Tuple a b c d) (Item f g h) e = refl
texts_alike (Tuple a b c d) (Tuple f g h i) e = refl
texts_alike (Tuple a b c d) (Texts f g h) e = absurd (false≢true e)
texts_alike (Texts a b c) (Value f g) e = absurd (false≢true e)
texts_alike (Texts a b c) (Item f g h) e = absurd (false≢true e)
texts_alike (Texts a b c) (Tuple f g h i) e = absurd (false≢true e)
texts_alike (Texts a b c) (Texts f g h) e = refl

-- keys that are the same find the same
pub found_alike : (nodes : Nodes) (key other : Key) → same_key key other ≡ true → entry_at nodes key ≡ entry_at nodes other → found_at nodes key ≡ found_at nodes other
found_alike nodes key other same entry =
    ap (λ b. cond b 1 (instances_at nodes key)) (texts_alike key other same)
    ∙ ap (λ o. cond (is_texts other) 1 (option_map_or (λ e. e.instances) o 0)) entry

pub found_still : (before after : Nodes) (key : Key) → instances_at after key ≡ instances_at before key → found_at after key ≡ found_at before key
found_still before after key same = ap (cond (is_texts key) 1) same

pub found_same : (before after : Nodes) → ((key : Key) → instances_at after key ≡ instances_at before key) → (key : Key) → found_at after key ≡ found_at before key
found_same before after same key = found_still before after key (same key)

-- of a value its instances are found
pub found_value : (nodes : Nodes) (key : Key) → is_texts key ≡ false → found_at nodes key ≡ instances_at nodes key
found_value nodes key is_value = ap (λ b. cond b 1 (instances_at nodes key)) is_value
