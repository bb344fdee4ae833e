-- The tree of a program has no written initialiser.
use Rattle.std.proofs.Common.{List, [], ◌∷◌}
use Rattle.sx_tree.specs.declared.declarations.Head.TheVariants as heads
use Rattle.sx_tree.specs.declared.declarations.Item.{Item}
use Rattle.sx_tree.specs.declared.declarations.Item.TheVariants as item_forms
use Rattle.sx_tree.specs.declared.declarations.Member.TheVariants as member_forms
use Rattle.sx_grammar.specs.declared.lexemes.Sort.{Sort}
use Rattle.sx_grammar.specs.declared.lexemes.Sort.TheVariants as sorts
use Rattle.sx_grammar.specs.Classes.{any}
use Rattle.sx_grammar.specs.Value.{Value, pair, a_head, a_member, members, an_item, items}
use Rattle.sx_grammar.specs.Grammar.{Grammar, both, either, many, deeper, giving, begin, empty, token}
use Rattle.sx_grammar.specs.Rules.{block, body, braces, class_members, class_members_rule, declared_of, first_of, function, function_of, global, global_value, inside, item, item_in, list_in, member_in, members_in, method, method_value, mutating_head, program, property, row_item, second_of, separator, statement, statement_in, structure_members, structure_members_rule, subscript_member, subscript_of, type_declaration, type_head, variable_in}
use Rattle.sx_parser.specs.Text.{text}
use Rattle.sx_order_items.specs.Written.{IsNoInitialiser, NoInitialisersIn, HasNoInitialiser, NoInitialisers}
use Rattle.sx_texts.proofs.Gives.{Each, Gives, deeper_gives, either_gives, first_gives, giving_gives, made_gives, many_gives, second_gives}

-- ---- members
abbrev Plain : Value → Type 0
Plain v = IsNoInitialiser (member_in v)

plain_property : Gives Plain property
unfolding property
plain_property = made_gives Plain (λ v. a_member (member_forms.Property (variable_in (first_of v) (second_of v)))) _ (λ v. tt)

plain_method : Gives Plain method
unfolding method
plain_method = made_gives Plain method_value _ (λ v. tt)

plain_subscript : Gives Plain subscript_member
unfolding subscript_member
plain_subscript = made_gives Plain (λ v. a_member (member_forms.Subscript (subscript_of (first_of v) (second_of v)))) _ (λ v. tt)

plain_row : (g : Grammar) → Gives Plain g → Gives Plain (row_item g)
plain_row g h = giving_gives (λ v. Plain (first_of v)) Plain first_of (both g separator) (λ v p. p) (first_gives Plain g separator h)

plain_list : (v : Value) → Each Plain v → NoInitialisersIn (list_in member_in v)
plain_list (pair v vs) (h, k) = (h, plain_list vs k)
plain_list v h = tt

abbrev PlainMembers : Value → Type 0
PlainMembers v = NoInitialisersIn (members_in (first_of v))

plain_members : (g h : Grammar) → Gives Plain g → Gives PlainMembers (both (giving (λ v. members (list_in member_in v)) (many (row_item g))) h)
plain_members g h k =
    first_gives (λ v. NoInitialisersIn (members_in v)) (giving (λ v. members (list_in member_in v)) (many (row_item g))) h
    (giving_gives (Each Plain) (λ v. NoInitialisersIn (members_in v)) (λ v. members (list_in member_in v)) (many (row_item g)) (λ v. plain_list v) (many_gives Plain (row_item g) (plain_row g k)))

plain_class : Gives PlainMembers class_members
unfolding class_members
plain_class =
    plain_members (either property (either method subscript_member)) (token (any (sorts.CloseBrace ∷ [])))
    (either_gives Plain property (either method subscript_member) plain_property (either_gives Plain method subscript_member plain_method plain_subscript))

plain_structure : Gives PlainMembers structure_members
unfolding structure_members
plain_structure =
    let mutating : Grammar = giving method_value (both mutating_head block) in
    plain_members (either property (either mutating (either method subscript_member))) (token (any (sorts.CloseBrace ∷ [])))
    (either_gives Plain property (either mutating (either method subscript_member)) plain_property
    (either_gives Plain mutating (either method subscript_member) (made_gives Plain method_value (both mutating_head block) (λ v. tt)) (either_gives Plain method subscript_member plain_method plain_subscript)))

-- ---- items
abbrev PlainItem : Value → Type 0
PlainItem v = HasNoInitialiser (item_in v)

declared_plain : (w v : Value) → NoInitialisersIn (members_in (inside v)) → NoInitialisersIn (declared_of w v).members
declared_plain (a_head (heads.Type h)) v k = k
declared_plain w v k = tt

plain_type : (s : Sort) (n : _) → Gives PlainMembers (body n) → Gives PlainItem (type_declaration s n)
unfolding type_declaration
plain_type s n h =
    giving_gives (λ v. PlainMembers (second_of (second_of v))) PlainItem (λ v. an_item (item_forms.Type (declared_of (first_of v) (second_of v)))) (both (type_head (s ∷ [])) (deeper (any braces) n))
    (λ v k. declared_plain (first_of v) (second_of v) k)
    (second_gives (λ v. PlainMembers (second_of v)) (type_head (s ∷ [])) (deeper (any braces) n) (deeper_gives PlainMembers (any braces) n h))

plain_structures : Gives PlainItem (type_declaration sorts.Struct structure_members_rule)
unfolding body
plain_structures = plain_type sorts.Struct structure_members_rule plain_structure

plain_classes : Gives PlainItem (type_declaration sorts.Class class_members_rule)
unfolding body
plain_classes = plain_type sorts.Class class_members_rule plain_class

plain_function : Gives PlainItem function
unfolding function
plain_function = made_gives PlainItem (λ v. an_item (item_forms.Function (function_of (first_of v) (second_of v)))) _ (λ v. tt)

plain_item : Gives PlainItem item
unfolding item
plain_item =
    let statements : Grammar = giving (λ v. an_item (item_forms.Statement (statement_in v))) statement in
    let classes : Grammar = type_declaration sorts.Class class_members_rule in
    either_gives PlainItem function _ plain_function
    (either_gives PlainItem (type_declaration sorts.Struct structure_members_rule) (either classes statements) plain_structures
    (either_gives PlainItem classes statements plain_classes (made_gives PlainItem (λ v. an_item (item_forms.Statement (statement_in v))) statement (λ v. tt))))

plain_global : Gives PlainItem global
unfolding global
plain_global = either_gives PlainItem _ _ (made_gives PlainItem global_value _ (λ v. tt)) (made_gives PlainItem global_value _ (λ v. tt))

plain_item_row : Gives PlainItem (row_item item)
plain_item_row = giving_gives (λ v. PlainItem (first_of v)) PlainItem first_of (both item separator) (λ v p. p) (first_gives PlainItem item separator plain_item)

plain_items : (v : Value) → Each PlainItem v → NoInitialisers (list_in item_in v)
plain_items (pair v vs) (h, k) = (h, plain_items vs k)
plain_items v h = tt

-- ---- programs
abbrev pub items_in : Value → List Item
items_in (items is) = is
items_in v = []

abbrev pub PlainProgram : Value → Type 0
PlainProgram v = NoInitialisers (items_in v)

pub plain_program : Gives PlainProgram program
unfolding program
plain_program =
    giving_gives (Each PlainItem) PlainProgram (λ v. items (list_in item_in v)) (many (either global (row_item item))) (λ v. plain_items v)
    (many_gives PlainItem (either global (row_item item)) (either_gives PlainItem global (row_item item) plain_global plain_item_row))

pub plain_text : Gives PlainProgram text
unfolding text
plain_text = giving_gives (λ v. PlainProgram (first_of v)) PlainProgram first_of (both program (begin [] empty)) (λ v p. p) (first_gives PlainProgram program (begin [] empty) plain_program)
