-- The table of the grammar: each production with the part of the tree that it stands for, and the rules behind a token that opens a level.
use Rattle.std.specs.Prelude.{ℕ, zero, suc, List, [], ◌∷◌, ◌++◌, Bool, true, false, not, Option, Some, None}
use Rattle.sx_span.specs.declared.places.Span.{Span}
use Rattle.sx_token.specs.declared.kinds.Kind.{Kind}
use Rattle.sx_token.specs.declared.kinds.Kind.TheVariants as kinds
use Rattle.sx_token.specs.declared.spellings.Operator.{Operator}
use Rattle.sx_token.specs.declared.spellings.Operator.TheVariants as operators
use Rattle.sx_tree.specs.declared.written_types.Name.{Name}
use Rattle.sx_tree.specs.declared.written_types.WrittenType.{WrittenType}
use Rattle.sx_tree.specs.declared.written_types.TypeForm.TheVariants as type_forms
use Rattle.sx_tree.specs.declared.written_types.TypeParameter.{TypeParameter}
use Rattle.sx_tree.specs.declared.written_types.ClosureParameter.{ClosureParameter}
use Rattle.sx_tree.specs.declared.written_types.Signature.{Signature}
use Rattle.sx_tree.specs.declared.written_types.Signature.TheVariants as signatures
use Rattle.sx_tree.specs.declared.operators.BinaryOperator.{BinaryOperator}
use Rattle.sx_tree.specs.declared.operators.BinaryOperator.TheVariants as binary
use Rattle.sx_tree.specs.declared.operators.Assignment.{Assignment}
use Rattle.sx_tree.specs.declared.operators.Assignment.TheVariants as assignments
use Rattle.sx_tree.specs.declared.code.Argument.{Argument}
use Rattle.sx_tree.specs.declared.code.Block.{Block, out-Block, roll-Block}
use Rattle.sx_tree.specs.declared.code.Closure.{Closure, out-Closure, roll-Closure}
use Rattle.sx_tree.specs.declared.code.Else.{Else}
use Rattle.sx_tree.specs.declared.code.Else.TheVariants as elses
use Rattle.sx_tree.specs.declared.code.Expr.{Expr}
use Rattle.sx_tree.specs.declared.code.ExprForm.{ExprForm, out-ExprForm, ExprForm-F}
use Rattle.sx_tree.specs.declared.code.ExprForm.TheVariants as forms
use Rattle.sx_tree.specs.declared.code.Link.{Link}
use Rattle.sx_tree.specs.declared.code.Local.{Local}
use Rattle.sx_tree.specs.declared.code.Part.{Part, out-Part, Part-F}
use Rattle.sx_tree.specs.declared.code.Part.TheVariants as parts
use Rattle.sx_tree.specs.declared.code.Statement.{Statement}
use Rattle.sx_tree.specs.declared.code.StatementForm.{StatementForm, out-StatementForm, StatementForm-F}
use Rattle.sx_tree.specs.declared.code.StatementForm.TheVariants as statement_forms
use Rattle.sx_tree.specs.declared.declarations.Accessor.{Accessor}
use Rattle.sx_tree.specs.declared.declarations.AccessorKind.{AccessorKind}
use Rattle.sx_tree.specs.declared.declarations.AccessorKind.TheVariants as accessor_kinds
use Rattle.sx_tree.specs.declared.declarations.Function.{Function}
use Rattle.sx_tree.specs.declared.declarations.FunctionHead.{FunctionHead}
use Rattle.sx_tree.specs.declared.declarations.Head.TheVariants as heads
use Rattle.sx_tree.specs.declared.declarations.Item.{Item}
use Rattle.sx_tree.specs.declared.declarations.Item.TheVariants as item_forms
use Rattle.sx_tree.specs.declared.declarations.Marker.{Marker}
use Rattle.sx_tree.specs.declared.declarations.Marker.TheVariants as markers
use Rattle.sx_tree.specs.declared.declarations.Member.{Member}
use Rattle.sx_tree.specs.declared.declarations.Member.TheVariants as member_forms
use Rattle.sx_tree.specs.declared.declarations.Parameter.{Parameter}
use Rattle.sx_tree.specs.declared.declarations.Subscript.{Subscript}
use Rattle.sx_tree.specs.declared.declarations.TypeDeclaration.{TypeDeclaration}
use Rattle.sx_tree.specs.declared.declarations.TypeKind.{TypeKind}
use Rattle.sx_tree.specs.declared.declarations.TypeKind.TheVariants as type_kinds
use Rattle.sx_tree.specs.declared.declarations.Variable.{Variable}
use Rattle.sx_tree.specs.declared.declarations.VariableHead.{VariableHead}
use Rattle.sx_grammar.specs.declared.lexemes.Lexeme.{Lexeme}
use Rattle.sx_grammar.specs.declared.lexemes.Sort.{Sort}
use Rattle.sx_grammar.specs.declared.lexemes.Sort.TheVariants as sorts
use Rattle.sx_grammar.specs.declared.lexemes.Mode.{Mode}
use Rattle.sx_grammar.specs.declared.lexemes.Mode.TheVariants as modes
use Rattle.sx_grammar.specs.Classes.{any, here, below}
use Rattle.sx_grammar.specs.Value.{Value, nothing, leaf, pair, a_type, a_type_parameter, type_parameters, names_of_parameter, a_marked, a_parameter, parameters, a_head, an_expr, exprs, a_part, part_list, a_link, link_list, name_list, closure_parameters, an_argument, arguments, a_signature, a_literal, a_closure, a_closure_parameter, if_parts, a_statement, statements, a_block, an_accessor, accessors, a_member, members, an_item, items}
use Rattle.sx_grammar.specs.Grammar.{Grammar, empty, token, both, either, many, deeper, select, begin, giving}

-- The rules behind a token that opens a level.
abbrev pub bracket_rule : ℕ
bracket_rule = 0

abbrev pub arguments_rule : ℕ
arguments_rule = 1

abbrev pub indices_rule : ℕ
indices_rule = 2

abbrev pub literal_rule : ℕ
literal_rule = 3

abbrev pub block_items_rule : ℕ
block_items_rule = 4

abbrev pub structure_members_rule : ℕ
structure_members_rule = 5

abbrev pub class_members_rule : ℕ
class_members_rule = 6

abbrev pub accessors_rule : ℕ
accessors_rule = 7

abbrev pub observers_rule : ℕ
observers_rule = 8

abbrev pub else_if_rule : ℕ
else_if_rule = 9

abbrev pub type_part_rule : ℕ
type_part_rule = 10

abbrev pub type_bracket_rule : ℕ
type_bracket_rule = 11

abbrev pub parameters_rule : ℕ
parameters_rule = 12

abbrev pub subscript_parameters_rule : ℕ
subscript_parameters_rule = 13

abbrev pub accessor_name_rule : ℕ
accessor_name_rule = 14

abbrev pub text_rule : ℕ
text_rule = 15

abbrev pub first_bracket_rule : ℕ
first_bracket_rule = 16

-- names; some have a meaning of their own in places
abbrev pub names : List Sort
names = sorts.Name ∷ sorts.Print ∷ sorts.Get ∷ sorts.Set ∷ sorts.WillSet ∷ sorts.DidSet ∷ sorts.Escaping ∷ []

abbrev pub a_name : Grammar
a_name = token (any names)

abbrev pub optional : Grammar → Grammar
optional g = either g empty

abbrev pub braces : List Sort
braces = sorts.OpenBrace ∷ sorts.OpenObservers ∷ []

abbrev pub rounds : List Sort
rounds = sorts.OpenRound ∷ sorts.OpenText ∷ []

abbrev pub block_of : Span → List Statement → Block
block_of s ss = roll-Block (record { span = s; statements = ss })

abbrev pub closure_of : Span → Signature → List Statement → Closure
closure_of s g ss = roll-Closure (record { span = s; signature = g; body = ss })

-- What is in a value, where it is of that kind.
abbrev pub no_span : Span
no_span = record { start = 0; end = 0 }

abbrev pub span_of : Value → Span
span_of (leaf l) = l.token.span
span_of (an_expr e) = e.span
span_of (a_type t) = t.span
span_of (a_closure c) = (out-Closure c).span
span_of (a_block b) = (out-Block b).span
span_of v = no_span

abbrev pub from_to : Span → Span → Span
from_to a b = record { start = a.start; end = b.end }

abbrev pub first_of : Value → Value
first_of (pair a b) = a
first_of v = nothing

abbrev pub second_of : Value → Value
second_of (pair a b) = b
second_of v = nothing

-- those of the turns of many
abbrev pub list_in : {X : Type 0} → (Value → X) → Value → List X
list_in f (pair v vs) = f v ∷ list_in f vs
list_in f v = []

abbrev pub option_in : {X : Type 0} → (Value → X) → Value → Option X
option_in f nothing = None
option_in f v = Some (f v)

abbrev pub name_number : Kind → ℕ
name_number (kinds.Name n) = n
name_number k = 0

abbrev pub name_of : Lexeme → Name
name_of l = record { number = name_number l.token.kind; span = l.token.span }

abbrev pub no_name : Name
no_name = record { number = 0; span = no_span }

abbrev pub name_in : Value → Name
name_in (leaf l) = name_of l
name_in v = no_name

abbrev pub no_type : WrittenType
no_type = record { span = no_span; form = type_forms.Unit }

abbrev pub type_in : Value → WrittenType
type_in (a_type t) = t
type_in v = no_type

-- g, and others behind commas
abbrev pub after_comma : Grammar → Grammar
after_comma g = giving second_of (both (token (any (sorts.Comma ∷ []))) g)

abbrev pub listed : Grammar → Grammar
listed g = both g (many (after_comma g))

abbrev pub listed_in : {X : Type 0} → (Value → X) → Value → List X
listed_in f v = f (first_of v) ∷ list_in f (second_of v)

-- what stands between the tokens that open and close a level, and the last one
abbrev pub inside : Value → Value
inside v = first_of (second_of v)

abbrev pub closing : Value → Value
closing v = second_of (second_of v)

-- Types.
unfoldable pub arrow : Grammar
arrow = deeper (any (sorts.Arrow ∷ [])) type_part_rule

abbrev pub type_parameters_in : Value → List TypeParameter
type_parameters_in (type_parameters ps) = ps
type_parameters_in v = []

abbrev pub type_parameter_in : Value → TypeParameter
type_parameter_in (a_type_parameter p) = p
type_parameter_in v = record { inout = false; ty = no_type }

abbrev pub is_some_value : Value → Bool
is_some_value nothing = false
is_some_value v = true

abbrev pub named_type : Value → Value
named_type (leaf l) = a_type (record { span = l.token.span; form = type_forms.Named (name_number l.token.kind) })
named_type v = nothing

-- nothing or one type without inout; else an arrow has to follow
abbrev pub may_end : List TypeParameter → Bool
may_end [] = true
may_end (p ∷ []) = not p.inout
may_end (p ∷ (q ∷ ps)) = false

abbrev pub may_end_value : Value → Bool
may_end_value v = may_end (type_parameters_in (inside v))

abbrev pub in_brackets : Span → List TypeParameter → WrittenType
in_brackets s [] = record { span = s; form = type_forms.Unit }
in_brackets s (p ∷ ps) = record { span = s; form = type_forms.Bracketed p.ty }

abbrev pub function_type : Span → List TypeParameter → WrittenType → WrittenType
function_type start ps result = record { span = from_to start result.span; form = type_forms.Function ps result }

abbrev pub bracket_type : Value → Value
bracket_type (pair v nothing) = a_type (in_brackets (from_to (span_of (first_of v)) (span_of (closing v))) (type_parameters_in (inside v)))
bracket_type (pair v w) = a_type (function_type (span_of (first_of v)) (type_parameters_in (inside v)) (type_in (second_of w)))
bracket_type v = nothing

unfoldable pub any_type : Grammar
any_type = either (giving named_type a_name) (giving bracket_type (select (deeper (any rounds) type_bracket_rule) may_end_value (optional arrow) arrow))

unfoldable pub type_parameter : Grammar
type_parameter = giving (λ v. a_type_parameter (record { inout = is_some_value (first_of v); ty = type_in (second_of v) })) (both (optional (token (any (sorts.Inout ∷ [])))) any_type)

unfoldable pub type_parameter_list : Grammar
type_parameter_list = either (giving (λ v. type_parameters (listed_in type_parameter_in v)) (listed type_parameter)) (giving (λ v. type_parameters []) empty)

unfoldable pub type_bracket : Grammar
type_bracket = both type_parameter_list (token (any (sorts.CloseRound ∷ [])))

-- Parameters.
abbrev pub parameter_in : Value → Parameter
parameter_in (a_parameter p) = p
parameter_in v = record { span = no_span; label = None; name = no_name; marker = markers.Plain; ty = no_type }

abbrev pub parameters_in : Value → List Parameter
parameters_in (parameters ps) = ps
parameters_in v = []

abbrev pub labelled : Value → Value
labelled (pair v nothing) = names_of_parameter (span_of v).start (Some (name_in v)) (name_in v)
labelled (pair v w) = names_of_parameter (span_of v).start (Some (name_in v)) (name_in w)
labelled v = nothing

abbrev pub unlabelled : Value → Value
unlabelled v = names_of_parameter (span_of (first_of v)).start None (name_in (second_of v))

unfoldable pub parameter_names : Grammar
parameter_names = either (giving labelled (both a_name (optional a_name))) (giving unlabelled (both (token (any (sorts.Underscore ∷ []))) a_name))

abbrev pub escaping_marker : Value → Marker
escaping_marker nothing = markers.Plain
escaping_marker v = markers.Escaping

unfoldable pub parameter_type : Grammar
parameter_type = either (giving (λ v. a_marked markers.InOut (type_in (second_of v))) (both (token (any (sorts.Inout ∷ []))) any_type)) (giving (λ v. a_marked (escaping_marker (first_of v)) (type_in (second_of v))) (both (optional (both (token (any (sorts.At ∷ []))) (token (any (sorts.Escaping ∷ []))))) any_type))

abbrev pub parameter_value : Value → Value
parameter_value (pair (names_of_parameter start label name) (pair c (a_marked marker ty))) = a_parameter (record { span = record { start = start; end = ty.span.end }; label = label; name = name; marker = marker; ty = ty })
parameter_value v = nothing

unfoldable pub parameter : Grammar
parameter = giving parameter_value (both parameter_names (both (token (any (sorts.Colon ∷ []))) parameter_type))

unfoldable pub parameter_list : Grammar
parameter_list = either (giving (λ v. parameters (listed_in parameter_in v)) (listed parameter)) (giving (λ v. parameters []) empty)

unfoldable pub parameter_bracket : Grammar
parameter_bracket = both parameter_list (token (any (sorts.CloseRound ∷ [])))

abbrev pub subscript_parameter_of : Name → WrittenType → Parameter
subscript_parameter_of name ty = record { span = from_to name.span ty.span; label = None; name = name; marker = markers.Plain; ty = ty }

unfoldable pub subscript_parameter : Grammar
subscript_parameter = giving (λ v. a_parameter (subscript_parameter_of (name_in (first_of v)) (type_in (second_of (second_of v))))) (both a_name (both (token (any (sorts.Colon ∷ []))) any_type))

unfoldable pub subscript_parameter_list : Grammar
subscript_parameter_list = giving (λ v. parameters (listed_in parameter_in v)) (listed subscript_parameter)

unfoldable pub subscript_bracket : Grammar
subscript_bracket = both subscript_parameter_list (token (any (sorts.CloseRound ∷ [])))

-- Heads of declarations.
abbrev pub type_behind : Value → Value
type_behind v = second_of v

unfoldable pub typed : Grammar
typed = giving second_of (both (token (any (sorts.Colon ∷ []))) any_type)

-- the end of the last part that is there
abbrev pub end_of : Value → Value → Span
end_of nothing w = span_of w
end_of v w = span_of v

abbrev pub function_head_of : Bool → Span → Value → Value → Value → FunctionHead
function_head_of mutating start n ps r = record { span = from_to start (end_of (second_of r) (closing ps)); mutating = mutating; name = name_in n; parameters = parameters_in (inside ps); result = option_in type_in (second_of r) }

abbrev pub function_value : Value → Value
function_value v = a_head (heads.Function (function_head_of false (span_of (first_of v)) (first_of (second_of v)) (first_of (second_of (second_of v))) (second_of (second_of (second_of v)))))

abbrev pub mutating_of : Span → Value → Value
mutating_of s v = a_head (heads.Function (function_head_of true s (first_of v) (first_of (second_of v)) (second_of (second_of v))))

abbrev pub mutating_value : Value → Value
mutating_value v = mutating_of (span_of (first_of v)) (second_of (second_of v))

unfoldable pub function_rest : Grammar
function_rest = both a_name (both (deeper (any rounds) parameters_rule) (optional arrow))

unfoldable pub function_head : Grammar
function_head = giving function_value (both (token (any (sorts.Func ∷ []))) function_rest)

unfoldable pub mutating_head : Grammar
mutating_head = giving mutating_value (both (token (any (sorts.Mutating ∷ []))) (both (token (any (sorts.Func ∷ []))) function_rest))

abbrev pub type_kind : Sort → TypeKind
type_kind sorts.Struct = type_kinds.Structure
type_kind s = type_kinds.Class

abbrev pub type_head_value : Value → Value
type_head_value (pair (leaf l) n) = a_head (heads.Type (record { span = from_to l.token.span (span_of n); kind = type_kind l.sort; name = name_in n }))
type_head_value v = nothing

unfoldable pub type_head : List Sort → Grammar
type_head ss = giving type_head_value (both (token (any ss)) a_name)

abbrev pub is_let : Sort → Bool
is_let sorts.Let = true
is_let s = false

abbrev pub variable_value : Value → Value
variable_value (pair (leaf l) (pair n t)) = a_head (heads.Variable (record { span = from_to l.token.span (end_of t n); constant = is_let l.sort; name = name_in n; ty = option_in type_in t }))
variable_value v = nothing

unfoldable pub variable_head : List Sort → Grammar
variable_head ss = giving variable_value (both (token (any ss)) (both a_name (optional typed)))

abbrev pub subscript_value : Value → Value
subscript_value (pair s (pair ps r)) = a_head (heads.Subscript (record { span = from_to (span_of s) (span_of (second_of r)); parameters = parameters_in (inside ps); result = type_in (second_of r) }))
subscript_value v = nothing

unfoldable pub subscript_head : Grammar
subscript_head = giving subscript_value (both (token (any (sorts.Subscript ∷ []))) (both (deeper (any rounds) subscript_parameters_rule) arrow))

unfoldable pub head : Grammar
head = either mutating_head (either function_head (either (type_head (sorts.Struct ∷ sorts.Class ∷ [])) (either (variable_head (sorts.Let ∷ sorts.Var ∷ [])) subscript_head)))

-- Expressions. The mode tells what an opening brace is outside brackets.

abbrev pub no_expr : Expr
no_expr = record { span = no_span; form = forms.SelfWord }

abbrev pub expr_in : Value → Expr
expr_in (an_expr e) = e
expr_in v = no_expr

abbrev pub exprs_in : Value → List Expr
exprs_in (exprs es) = es
exprs_in v = []

abbrev pub no_closure : Closure
no_closure = closure_of no_span signatures.Absent []

abbrev pub closure_in : Value → Closure
closure_in (a_closure c) = c
closure_in v = no_closure

abbrev pub closure_form : Span → Value → Span → Value
closure_form s (a_literal g ss) t = a_closure (closure_of (from_to s t) g ss)
closure_form s v t = nothing

abbrev pub closure_value : Value → Value
closure_value v = closure_form (span_of (first_of v)) (inside v) (span_of (closing v))

unfoldable pub closure_at : List ℕ → Grammar
closure_at cs = giving closure_value (deeper cs literal_rule)

unfoldable pub trailing : Mode → Grammar
trailing modes.Free = optional (closure_at (here braces))
trailing modes.Initial = optional (closure_at (here (sorts.OpenBrace ∷ [])))
trailing modes.Condition = empty

abbrev pub expr_of : Span → ExprForm → Value
expr_of s f = an_expr (record { span = s; form = f })

abbrev pub int_of : Kind → ℕ
int_of (kinds.Int n) = n
int_of k = 0

abbrev pub constant_of : Sort → Kind → ExprForm
constant_of sorts.Int k = forms.Int (int_of k)
constant_of sorts.True k = forms.Bool true
constant_of sorts.False k = forms.Bool false
constant_of s k = forms.SelfWord

abbrev pub constant_form : Lexeme → ExprForm
constant_form l = constant_of l.sort l.token.kind

abbrev pub text_of : Kind → ℕ
text_of (kinds.Text n) = n
text_of k = 0

abbrev pub constant_value : Value → Value
constant_value (leaf l) = expr_of l.token.span (constant_form l)
constant_value v = nothing

abbrev pub named_value : Value → Value
named_value v = expr_of (from_to (span_of (first_of v)) (end_of (second_of v) (first_of v))) (forms.Named (name_in (first_of v)).number (option_in closure_in (second_of v)))

abbrev pub text_in : Value → ℕ
text_in (leaf l) = text_of l.token.kind
text_in v = 0

abbrev pub print_value : Value → Value
print_value (pair n (pair o x)) = expr_of (from_to (span_of n) (span_of (second_of x))) (forms.PrintText (text_in (first_of x)))
print_value v = named_value v

abbrev pub bracketed_value : Value → Value
bracketed_value v = expr_of (from_to (span_of (first_of v)) (span_of (closing v))) (forms.Bracketed (expr_in (inside v)))

-- a call of print with a text, or the name as any other
unfoldable pub primary : Mode → Grammar
primary m = either (giving constant_value (token (any (sorts.Int ∷ sorts.True ∷ sorts.False ∷ sorts.SelfWord ∷ [])))) (either (giving named_value (both (token (any (sorts.Name ∷ sorts.Get ∷ sorts.Set ∷ sorts.WillSet ∷ sorts.DidSet ∷ sorts.Escaping ∷ []))) (trailing m))) (either (giving print_value (both (token (any (sorts.Print ∷ []))) (either (deeper (any (sorts.OpenText ∷ [])) text_rule) (trailing m)))) (giving bracketed_value (deeper (any (sorts.OpenRound ∷ [])) bracket_rule))))

abbrev pub part_in : Value → Part
part_in (a_part p) = p
part_in v = parts.Index 0 []

abbrev pub arguments_in : Value → List Argument
arguments_in (arguments xs) = xs
arguments_in v = []

abbrev pub member_of : Value → Value → Value
member_of n c = a_part (parts.Member (end_of c n).end (name_in n) (option_in closure_in c))

abbrev pub member_value : Value → Value
member_value v = member_of (first_of (second_of v)) (second_of (second_of v))

abbrev pub index_value : Value → Value
index_value v = a_part (parts.Index (span_of (closing v)).end (exprs_in (inside v)))

abbrev pub call_value : Value → Value
call_value v = a_part (parts.Call (end_of (second_of v) (closing (first_of v))).end (arguments_in (inside (first_of v))) (option_in closure_in (second_of v)))

unfoldable pub part : Mode → Grammar
part m = either (giving member_value (both (token (any (sorts.Dot ∷ []))) (both a_name (trailing m)))) (either (giving index_value (deeper (here (sorts.OpenSquare ∷ [])) indices_rule)) (giving call_value (both (deeper (here (sorts.OpenRound ∷ [])) arguments_rule) (trailing m))))

abbrev pub PartLayer : Type 0
PartLayer = Part-F Else ExprForm Part StatementForm Argument Block Closure Expr Link Local Statement

abbrev pub end_of_part : PartLayer → ℕ
end_of_part (Part-F.Member end n c) = end
end_of_part (Part-F.Index end es) = end
end_of_part (Part-F.Call end xs c) = end

abbrev pub part_end : Part → ℕ
part_end p = end_of_part (out-Part p)

abbrev pub last_part : ℕ → List Part → ℕ
last_part end [] = end
last_part end (p ∷ ps) = last_part (part_end p) ps

-- an operand with no part behind it is itself
abbrev pub postfixed : Expr → List Part → Expr
postfixed e [] = e
postfixed e (p ∷ ps) = record { span = record { start = e.span.start; end = last_part 0 (p ∷ ps) }; form = forms.Postfix e (p ∷ ps) }

abbrev pub parts_in : Value → List Part
parts_in (part_list ps) = ps
parts_in v = []

unfoldable pub parts_behind : Mode → Grammar
parts_behind m = giving (λ v. part_list (list_in part_in v)) (many (part m))

unfoldable pub postfix : Mode → Grammar
postfix m = giving (λ v. an_expr (postfixed (expr_in (first_of v)) (parts_in (second_of v)))) (both (primary m) (parts_behind m))

abbrev pub negated : Value → Value
negated (pair m (an_expr e)) = expr_of (from_to (span_of m) e.span) (forms.Negate e)
negated (pair m n) = expr_of (from_to (span_of m) (span_of n)) forms.LeastInt
negated v = nothing

abbrev pub inverted : Value → Value
inverted v = expr_of (from_to (span_of (first_of v)) (span_of (second_of v))) (forms.Not (expr_in (second_of v)))

abbrev pub closure_expr : Value → Value
closure_expr v = expr_of (span_of v) (forms.Closure (closure_in v))

unfoldable pub operand : Mode → Grammar
operand modes.Free = either (giving closure_expr (closure_at (any braces))) (postfix modes.Free)
operand modes.Initial = either (giving closure_expr (closure_at (any braces))) (postfix modes.Initial)
operand modes.Condition = postfix modes.Condition

unfoldable pub unary : Mode → Grammar
unary m = either (giving negated (both (token (any (sorts.Negate ∷ []))) (either (token (any (sorts.LeastInt ∷ []))) (postfix m)))) (either (giving inverted (both (token (any (sorts.Not ∷ []))) (postfix m))) (operand m))

abbrev pub binary_of : Operator → BinaryOperator
binary_of operators.AndAnd = binary.And
binary_of operators.Less = binary.Less
binary_of operators.Greater = binary.Greater
binary_of operators.LessEqual = binary.LessEqual
binary_of operators.GreaterEqual = binary.GreaterEqual
binary_of operators.Equal = binary.Equal
binary_of operators.NotEqual = binary.NotEqual
binary_of operators.Same = binary.Same
binary_of operators.NotSame = binary.NotSame
binary_of operators.Plus = binary.Add
binary_of operators.Minus = binary.Subtract
binary_of operators.Star = binary.Multiply
binary_of operators.Slash = binary.Divide
binary_of operators.Percent = binary.Remainder
binary_of o = binary.Or

abbrev pub operator_of : Kind → BinaryOperator
operator_of (kinds.Op o) = binary_of o
operator_of k = binary.Or

abbrev pub kind_in : Value → Kind
kind_in (leaf l) = l.token.kind
kind_in v = kinds.Reserved

abbrev pub link_in : Value → Link
link_in (a_link l) = l
link_in v = record { operator = binary.Or; operand = no_expr }

unfoldable pub link : List Sort → Grammar → Grammar
link ss g = giving (λ v. a_link (record { operator = operator_of (kind_in (first_of v)); operand = expr_in (second_of v) })) (both (token (any ss)) g)

abbrev pub last_link : ℕ → List Link → ℕ
last_link end [] = end
last_link end (l ∷ ls) = last_link l.operand.span.end ls

-- a chain with no further operand is its operand
abbrev pub chained : Expr → List Link → Expr
chained e [] = e
chained e (l ∷ ls) = record { span = record { start = e.span.start; end = last_link 0 (l ∷ ls) }; form = forms.Chain e (l ∷ ls) }

abbrev pub links_in : Value → List Link
links_in (link_list ls) = ls
links_in v = []

unfoldable pub links : List Sort → Grammar → Grammar
links ss g = giving (λ v. link_list (list_in link_in v)) (many (link ss g))

abbrev pub chain_value : Value → Value
chain_value v = an_expr (chained (expr_in (first_of v)) (links_in (second_of v)))

abbrev pub chain : List Sort → Grammar → Grammar
chain ss g = giving chain_value (both g (links ss g))

unfoldable pub product : Mode → Grammar
product m = chain (sorts.Times ∷ []) (unary m)

unfoldable pub sum : Mode → Grammar
sum m = chain (sorts.Plus ∷ sorts.Minus ∷ []) (product m)

unfoldable pub relation : Mode → Grammar
relation m = either (giving (λ v. link_list (link_in v ∷ [])) (link (sorts.Relation ∷ []) (sum m))) (giving (λ v. link_list []) empty)

unfoldable pub compare : Mode → Grammar
compare m = giving chain_value (both (sum m) (relation m))

unfoldable pub conjunction : Mode → Grammar
conjunction m = chain (sorts.And ∷ []) (compare m)

unfoldable pub expr : Mode → Grammar
expr m = chain (sorts.Or ∷ []) (conjunction m)

unfoldable pub bracket : Grammar
bracket = both (expr modes.Free) (token (any (sorts.CloseRound ∷ [])))

-- Arguments.
abbrev pub argument_of : ℕ → Option Name → Option ℕ → Expr → Value
argument_of start label ampersand e = an_argument (record { span = record { start = start; end = e.span.end }; label = label; ampersand = ampersand; value = e })

-- what an argument is without its label: & and an expression, or an expression
abbrev pub plain_argument : Value → Value
plain_argument (pair a e) = argument_of (span_of a).start None (Some (span_of a).start) (expr_in e)
plain_argument v = argument_of (span_of v).start None None (expr_in v)

abbrev pub labelled_argument : Name → Value → Value
labelled_argument n (pair a e) = argument_of n.span.start (Some n) (Some (span_of a).start) (expr_in e)
labelled_argument n v = argument_of n.span.start (Some n) None (expr_in v)

abbrev pub ExprLayer : Type 0
ExprLayer = ExprForm-F Else ExprForm Part StatementForm Argument Block Closure Expr Link Local Statement

abbrev pub number_of_form : ExprLayer → ℕ
number_of_form (ExprForm-F.Named n c) = n
number_of_form f = 0

abbrev pub is_name_form : ExprLayer → Bool
is_name_form (ExprForm-F.Named n None) = true
is_name_form f = false

abbrev pub name_of_expr : Expr → Name
name_of_expr e = record { number = number_of_form (out-ExprForm e.form); span = e.span }

abbrev pub is_name : Value → Bool
is_name (an_expr e) = is_name_form (out-ExprForm e.form)
is_name v = false

abbrev pub argument_value : Value → Value
argument_value (pair e nothing) = plain_argument e
argument_value (pair e (pair c v)) = labelled_argument (name_of_expr (expr_in e)) v
argument_value v = nothing

unfoldable pub reference : Grammar
reference = both (token (any (sorts.Ampersand ∷ []))) (postfix modes.Free)

unfoldable pub argument : Grammar
argument = either (giving plain_argument reference) (giving argument_value (select (expr modes.Free) is_name (optional (both (token (any (sorts.Colon ∷ []))) (either reference (expr modes.Free)))) empty))

abbrev pub argument_in : Value → Argument
argument_in (an_argument a) = a
argument_in v = record { span = no_span; label = None; ampersand = None; value = no_expr }

unfoldable pub argument_list : Grammar
argument_list = both (either (giving (λ v. arguments (listed_in argument_in v)) (listed argument)) (giving (λ v. arguments []) empty)) (token (any (sorts.CloseRound ∷ [])))

unfoldable pub indices : Grammar
indices = both (giving (λ v. exprs (listed_in expr_in v)) (listed (expr modes.Free))) (token (any (sorts.CloseSquare ∷ [])))

-- Statements.
abbrev pub statement_of : Span → StatementForm → Value
statement_of s f = a_statement (record { span = s; form = f })

abbrev pub no_statement : Statement
no_statement = record { span = no_span; form = statement_forms.Break }

abbrev pub statement_in : Value → Statement
statement_in (a_statement s) = s
statement_in v = no_statement

abbrev pub statements_in : Value → List Statement
statements_in (statements ss) = ss
statements_in v = []

abbrev pub no_block : Block
no_block = block_of no_span []

abbrev pub block_in : Value → Block
block_in (a_block b) = b
block_in v = no_block

unfoldable pub block : Grammar
block = giving (λ v. a_block (block_of (from_to (span_of (first_of v)) (span_of (closing v))) (statements_in (inside v)))) (deeper (any braces) block_items_rule)

abbrev pub local_of : Value → Value → Value
local_of (a_head (heads.Variable h)) (an_expr e) = statement_of (from_to h.span e.span) (statement_forms.Local (record { constant = h.constant; name = h.name; ty = h.ty; value = e }))
local_of h e = nothing

unfoldable pub local : Grammar
local = giving (λ v. local_of (first_of v) (second_of (second_of v))) (both (variable_head (sorts.Let ∷ sorts.Var ∷ [])) (both (token (any (sorts.Assign ∷ []))) (expr modes.Free)))

abbrev pub if_statement : Value → Value → Value
if_statement w (if_parts c b e end) = statement_of (record { start = (span_of w).start; end = end }) (statement_forms.If c b e)
if_statement w v = nothing

abbrev pub if_value : Value → Value
if_value v = if_statement (first_of v) (second_of v)

abbrev pub if_parts_of : Expr → Block → Value → Value
if_parts_of c b (a_block e) = if_parts c b (elses.Block e) (out-Block e).span.end
if_parts_of c b (a_statement s) = if_parts c b (elses.ElseIf s) s.span.end
if_parts_of c b v = if_parts c b elses.Absent (out-Block b).span.end

unfoldable pub else_part : Grammar
else_part = optional (giving second_of (both (token (any (sorts.Else ∷ []))) (either (giving if_value (deeper (any (sorts.If ∷ [])) else_if_rule)) block)))

unfoldable pub if_tail : Grammar
if_tail = giving (λ v. if_parts_of (expr_in (first_of v)) (block_in (first_of (second_of v))) (second_of (second_of v))) (both (expr modes.Condition) (both block else_part))

abbrev pub starters : List Sort
starters = sorts.Int ∷ sorts.True ∷ sorts.False ∷ sorts.SelfWord ∷ sorts.Negate ∷ sorts.Not ∷ sorts.OpenRound ∷ sorts.OpenBrace ∷ sorts.OpenObservers ∷ names

abbrev pub while_value : Value → Value
while_value v = statement_of (from_to (span_of (first_of v)) (span_of (second_of (second_of v)))) (statement_forms.While (expr_in (first_of (second_of v))) (block_in (second_of (second_of v))))

abbrev pub return_value : Value → Value
return_value v = statement_of (from_to (span_of (first_of v)) (end_of (second_of v) (first_of v))) (statement_forms.Return (option_in expr_in (second_of v)))

abbrev pub jump_of : Sort → StatementForm
jump_of sorts.Break = statement_forms.Break
jump_of s = statement_forms.Continue

abbrev pub jump_value : Value → Value
jump_value (leaf l) = statement_of l.token.span (jump_of l.sort)
jump_value v = nothing

unfoldable pub keyword_statement : Grammar
keyword_statement = either (giving if_value (both (token (any (sorts.If ∷ []))) if_tail)) (either (giving while_value (both (token (any (sorts.While ∷ []))) (both (expr modes.Condition) block))) (either (giving return_value (both (token (any (sorts.Return ∷ []))) (optional (begin (here starters) (expr modes.Free))))) (giving jump_value (token (any (sorts.Break ∷ sorts.Continue ∷ []))))))

abbrev pub assignment_by : Operator → Assignment
assignment_by operators.PlusAssign = assignments.Add
assignment_by operators.MinusAssign = assignments.Subtract
assignment_by operators.StarAssign = assignments.Multiply
assignment_by operators.SlashAssign = assignments.Divide
assignment_by operators.PercentAssign = assignments.Remainder
assignment_by o = assignments.Store

abbrev pub assignment_of : Kind → Assignment
assignment_of (kinds.Op o) = assignment_by o
assignment_of k = assignments.Store

abbrev pub assigned_of : Expr → Value → Value
assigned_of e (pair o x) = statement_of (from_to e.span (span_of x)) (statement_forms.Assign (assignment_of (kind_in o)) e (expr_in x))
assigned_of e v = statement_of e.span (statement_forms.Expr e)

unfoldable pub assigned : Grammar
assigned = optional (both (token (any (sorts.Assign ∷ sorts.Compound ∷ []))) (expr modes.Free))

unfoldable pub expr_statement : Grammar
expr_statement = giving (λ v. assigned_of (expr_in (first_of v)) (second_of v)) (both (expr modes.Free) assigned)

unfoldable pub statement : Grammar
statement = either keyword_statement expr_statement

-- Items in a row: behind each a semicolon, or a line's end, or the end of the row.
abbrev pub line_starts : List Sort
line_starts = sorts.CloseBrace ∷ sorts.Func ∷ sorts.Struct ∷ sorts.Class ∷ sorts.Let ∷ sorts.Var ∷ sorts.If ∷ sorts.While ∷ sorts.Return ∷ sorts.Break ∷ sorts.Continue ∷ sorts.Mutating ∷ sorts.Subscript ∷ starters

abbrev pub row_ends : List ℕ
row_ends = here (sorts.CloseBrace ∷ []) ++ below line_starts

unfoldable pub separator : Grammar
separator = either (token (any (sorts.Semicolon ∷ []))) (begin row_ends empty)

unfoldable pub block_item : Grammar
block_item = either local statement

abbrev pub row_item : Grammar → Grammar
row_item g = giving first_of (both g separator)

unfoldable pub block_items : Grammar
block_items = giving (λ v. statements (list_in statement_in v)) (many (row_item block_item))

unfoldable pub block_list : Grammar
block_list = both block_items (token (any (sorts.CloseBrace ∷ [])))

-- The inside of a closure literal. A first bracket may be that of a signature.
unfoldable pub others : Grammar
others = giving second_of (both separator block_items)

abbrev pub literal_of : Statement → List Statement → Value
literal_of s ss = a_literal signatures.Absent (s ∷ ss)

abbrev pub StatementLayer : Type 0
StatementLayer = StatementForm-F Else ExprForm Part StatementForm Argument Block Closure Expr Link Local Statement

abbrev pub name_of_statement_form : StatementLayer → Name
name_of_statement_form (StatementForm-F.Expr e) = name_of_expr e
name_of_statement_form f = no_name

abbrev pub is_name_statement_form : StatementLayer → Bool
is_name_statement_form (StatementForm-F.Expr e) = is_name_form (out-ExprForm e.form)
is_name_statement_form f = false

abbrev pub name_of_statement : Statement → Name
name_of_statement s = name_of_statement_form (out-StatementForm s.form)

abbrev pub is_name_statement : Value → Bool
is_name_statement (a_statement s) = is_name_statement_form (out-StatementForm s.form)
is_name_statement v = false

abbrev pub names_in : Value → List Name
names_in (name_list ns) = ns
names_in v = []

unfoldable pub names_behind : Grammar
names_behind = giving (λ v. name_list (list_in name_in v)) (many (after_comma a_name))

abbrev pub named_literal : Value → Value
named_literal (pair (a_statement s) (statements ss)) = literal_of s ss
named_literal (pair (a_statement s) (pair ns v)) = a_literal (signatures.Names (name_of_statement s ∷ names_in ns)) (statements_in (second_of v))
named_literal v = nothing

unfoldable pub named_signature : Grammar
named_signature = both names_behind (both (token (any (sorts.In ∷ []))) block_items)

unfoldable pub from_other : Grammar
from_other = giving named_literal (select (begin (any (sorts.Int ∷ sorts.True ∷ sorts.False ∷ sorts.SelfWord ∷ sorts.Negate ∷ sorts.Not ∷ sorts.OpenBrace ∷ sorts.OpenObservers ∷ names)) expr_statement) is_name_statement (either named_signature others) others)

abbrev pub closure_parameter_of : Name → Value → ClosureParameter
closure_parameter_of n v = record { name = n; inout = (type_parameter_in v).inout; ty = (type_parameter_in v).ty }

abbrev pub closure_parameter_in : Value → ClosureParameter
closure_parameter_in (a_closure_parameter p) = p
closure_parameter_in v = record { name = no_name; inout = false; ty = no_type }

-- a colon and a type
unfoldable pub closure_parameter_type : Grammar
closure_parameter_type = giving second_of (both (token (any (sorts.Colon ∷ []))) type_parameter)

unfoldable pub closure_parameter : Grammar
closure_parameter = giving (λ v. a_closure_parameter (closure_parameter_of (name_in (first_of v)) (second_of v))) (both a_name closure_parameter_type)

abbrev pub closure_parameters_in : Value → List ClosureParameter
closure_parameters_in (closure_parameters ps) = ps
closure_parameters_in v = []

unfoldable pub closure_parameters_behind : Grammar
closure_parameters_behind = giving (λ v. closure_parameters (list_in closure_parameter_in v)) (many (after_comma closure_parameter))

unfoldable pub first_bracket : Grammar
first_bracket = both (optional (select (expr modes.Free) is_name (optional (both closure_parameter_type closure_parameters_behind)) empty)) (token (any (sorts.CloseRound ∷ [])))

-- nothing or parameters are those of a signature, and an expression is one in brackets
abbrev pub bracket_or_signature : Span → Value → Span → Value
bracket_or_signature s nothing t = a_signature []
bracket_or_signature s (pair e nothing) t = expr_of (from_to s t) (forms.Bracketed (expr_in e))
bracket_or_signature s (pair e (pair p ps)) t = a_signature (closure_parameter_of (name_of_expr (expr_in e)) p ∷ closure_parameters_in ps)
bracket_or_signature s v t = nothing

abbrev pub is_signature : Value → Bool
is_signature (a_signature ps) = true
is_signature v = false

unfoldable pub first_part : Grammar
first_part = giving (λ v. bracket_or_signature (span_of (first_of v)) (inside v) (span_of (closing v))) (deeper (any (sorts.OpenRound ∷ [])) first_bracket_rule)

unfoldable pub signature_tail : Grammar
signature_tail = both (optional arrow) (both (token (any (sorts.In ∷ []))) block_items)

-- how a statement goes on behind a bracket that begins it, and the statements behind it
unfoldable pub bracket_tail : Grammar
bracket_tail = both (parts_behind modes.Free) (both (links (sorts.Times ∷ []) (unary modes.Free)) (both (links (sorts.Plus ∷ sorts.Minus ∷ []) (product modes.Free)) (both (relation modes.Free) (both (links (sorts.And ∷ []) (compare modes.Free)) (both (links (sorts.Or ∷ []) (conjunction modes.Free)) (both assigned others))))))

abbrev pub whole_expr : Expr → List Part → List Link → List Link → List Link → List Link → List Link → Expr
whole_expr e ps times sums compared ands ors = chained (chained (chained (chained (chained (postfixed e ps) times) sums) compared) ands) ors

abbrev pub bracket_literal : Value → Value
bracket_literal (pair (a_signature ps) (pair r (pair i b))) = a_literal (signatures.Typed ps (option_in type_in (second_of r))) (statements_in b)
bracket_literal (pair (an_expr e) (pair ps (pair times (pair sums (pair compared (pair ands (pair ors (pair a b)))))))) = literal_of (statement_in (assigned_of (whole_expr e (parts_in ps) (links_in times) (links_in sums) (links_in compared) (links_in ands) (links_in ors)) a)) (statements_in b)
bracket_literal v = nothing

unfoldable pub from_bracket : Grammar
from_bracket = giving bracket_literal (select first_part is_signature signature_tail bracket_tail)

unfoldable pub literal_inside : Grammar
literal_inside = either (giving (λ v. literal_of (statement_in (first_of v)) (statements_in (second_of v))) (both (either local keyword_statement) others)) (either from_bracket (either from_other (giving (λ v. a_literal signatures.Absent []) empty)))

unfoldable pub literal : Grammar
literal = both literal_inside (token (any (sorts.CloseBrace ∷ [])))

-- Declarations.
unfoldable pub accessor_name_in_brackets : Grammar
accessor_name_in_brackets = both a_name (token (any (sorts.CloseRound ∷ [])))

unfoldable pub accessor_name : Grammar
accessor_name = optional (giving inside (deeper (any rounds) accessor_name_rule))

abbrev pub accessor_in : Value → Accessor
accessor_in (an_accessor a) = a
accessor_in v = record { span = no_span; kind = accessor_kinds.Get; parameter = None; body = no_block }

abbrev pub accessors_in : Value → List Accessor
accessors_in (accessors xs) = xs
accessors_in v = []

unfoldable pub get_part : Grammar
get_part = giving (λ v. an_accessor (record { span = from_to (span_of (first_of v)) (span_of (second_of v)); kind = accessor_kinds.Get; parameter = None; body = block_in (second_of v) })) (both (token (any (sorts.Get ∷ []))) block)

abbrev pub accessor_kind_of : Sort → AccessorKind
accessor_kind_of sorts.WillSet = accessor_kinds.WillSet
accessor_kind_of sorts.DidSet = accessor_kinds.DidSet
accessor_kind_of s = accessor_kinds.Set

abbrev pub accessor_value : Value → Value
accessor_value (pair (leaf l) (pair n b)) = an_accessor (record { span = from_to l.token.span (span_of b); kind = accessor_kind_of l.sort; parameter = option_in name_in n; body = block_in b })
accessor_value v = nothing

-- an accessor or observer that may have a written parameter
unfoldable pub accessor_with : Sort → Grammar
accessor_with s = giving accessor_value (both (token (any (s ∷ []))) (both accessor_name block))

abbrev pub one_or_two : Value → Value
one_or_two (pair a nothing) = accessors (accessor_in a ∷ [])
one_or_two (pair a b) = accessors (accessor_in a ∷ accessor_in b ∷ [])
one_or_two v = nothing

abbrev pub no_accessor : List Sort
no_accessor = sorts.CloseBrace ∷ sorts.Let ∷ sorts.Var ∷ sorts.If ∷ sorts.While ∷ sorts.Return ∷ sorts.Break ∷ sorts.Continue ∷ sorts.Int ∷ sorts.True ∷ sorts.False ∷ sorts.SelfWord ∷ sorts.Negate ∷ sorts.Not ∷ sorts.OpenRound ∷ sorts.OpenBrace ∷ sorts.OpenObservers ∷ sorts.Name ∷ sorts.Print ∷ sorts.WillSet ∷ sorts.DidSet ∷ sorts.Escaping ∷ []

unfoldable pub accessor_list : Grammar
accessor_list = both (either (giving one_or_two (both get_part (optional (accessor_with sorts.Set)))) (either (giving one_or_two (both (accessor_with sorts.Set) get_part)) (begin (any no_accessor) block_items))) (token (any (sorts.CloseBrace ∷ [])))

unfoldable pub observer_list : Grammar
observer_list = both (either (giving one_or_two (both (accessor_with sorts.WillSet) (optional (accessor_with sorts.DidSet)))) (giving one_or_two (both (accessor_with sorts.DidSet) (optional (accessor_with sorts.WillSet))))) (token (any (sorts.CloseBrace ∷ [])))

-- with the place where they end; a plain block is a getter
abbrev pub accessors_of : Span → Value → Value
accessors_of s (accessors xs) = pair (accessors xs) (a_block (block_of s []))
accessors_of s v = pair (accessors (record { span = s; kind = accessor_kinds.Get; parameter = None; body = block_of s (statements_in v) } ∷ [])) (a_block (block_of s []))

abbrev pub accessors_value : Value → Value
accessors_value v = accessors_of (from_to (span_of (first_of v)) (span_of (closing v))) (inside v)

unfoldable pub observed : Grammar
observed = giving accessors_value (deeper (any (sorts.OpenObservers ∷ [])) observers_rule)

unfoldable pub accessed : List Sort → Grammar
accessed ss = giving accessors_value (deeper (any ss) accessors_rule)

abbrev pub is_some_type : Option WrittenType → Bool
is_some_type None = false
is_some_type (Some t) = true

abbrev pub has_type : Value → Bool
has_type (a_head (heads.Variable h)) = is_some_type h.ty
has_type v = false

abbrev pub variable_of : VariableHead → Span → Option Expr → List Accessor → Variable
variable_of h last e xs = record { span = from_to h.span last; constant = h.constant; name = h.name; ty = h.ty; value = e; accessors = xs }

abbrev pub no_variable : Variable
no_variable = record { span = no_span; constant = true; name = no_name; ty = None; value = None; accessors = [] }

-- what follows the head of a variable: nothing, accessors or observers, or = and a value and perhaps observers
abbrev pub variable_with : VariableHead → Value → Variable
variable_with h nothing = variable_of h h.span None []
variable_with h (pair (accessors xs) s) = variable_of h (span_of s) None xs
variable_with h (pair a (pair e nothing)) = variable_of h (span_of e) (Some (expr_in e)) []
variable_with h (pair a (pair e (pair xs s))) = variable_of h (span_of s) (Some (expr_in e)) (accessors_in xs)
variable_with h v = no_variable

abbrev pub variable_in : Value → Value → Variable
variable_in (a_head (heads.Variable h)) v = variable_with h v
variable_in w v = no_variable

unfoldable pub initialised : Grammar
initialised = both (token (any (sorts.Assign ∷ []))) (both (expr modes.Initial) (optional observed))

unfoldable pub property : Grammar
property = giving (λ v. a_member (member_forms.Property (variable_in (first_of v) (second_of v)))) (select (variable_head (sorts.Var ∷ [])) has_type (either initialised (either (accessed (sorts.OpenBrace ∷ [])) (optional observed))) initialised)

-- Behind an modes.Initial value that may have ended no statement begins with observers.
abbrev pub plain_ends : List ℕ
plain_ends = here (sorts.CloseBrace ∷ []) ++ below (sorts.CloseBrace ∷ sorts.Func ∷ sorts.Struct ∷ sorts.Class ∷ sorts.Let ∷ sorts.Var ∷ sorts.If ∷ sorts.While ∷ sorts.Return ∷ sorts.Break ∷ sorts.Continue ∷ sorts.Mutating ∷ sorts.Subscript ∷ sorts.Int ∷ sorts.True ∷ sorts.False ∷ sorts.SelfWord ∷ sorts.Negate ∷ sorts.Not ∷ sorts.OpenRound ∷ sorts.OpenBrace ∷ names)

unfoldable pub plain_separator : Grammar
plain_separator = either (token (any (sorts.Semicolon ∷ []))) (begin plain_ends empty)

-- the end of a variable with a value: observers or none, and what stands between two items
unfoldable pub value_end : Grammar
value_end = either (giving first_of (both observed separator)) (giving (λ v. nothing) plain_separator)

unfoldable pub initialised_item : Grammar
initialised_item = both (token (any (sorts.Assign ∷ []))) (both (expr modes.Initial) value_end)

abbrev pub global_value : Value → Value
global_value v = an_item (item_forms.Global (variable_in (first_of v) (second_of v)))

-- a global with what stands between it and the next item
unfoldable pub global : Grammar
global = either (giving global_value (both (variable_head (sorts.Let ∷ [])) (both (token (any (sorts.Assign ∷ []))) (both (expr modes.Initial) (giving (λ v. nothing) plain_separator))))) (giving global_value (select (variable_head (sorts.Var ∷ [])) has_type (either initialised_item (giving first_of (both (accessed (sorts.OpenBrace ∷ [])) separator))) initialised_item))

abbrev pub function_of : Value → Value → Function
function_of (a_head (heads.Function h)) b = record { span = from_to h.span (span_of b); mutating = h.mutating; name = h.name; parameters = h.parameters; result = h.result; body = block_in b }
function_of w b = record { span = no_span; mutating = false; name = no_name; parameters = []; result = None; body = no_block }

abbrev pub method_value : Value → Value
method_value v = a_member (member_forms.Method (function_of (first_of v) (second_of v)))

abbrev pub subscript_of : Value → Value → Subscript
subscript_of (a_head (heads.Subscript h)) v = record { span = from_to h.span (span_of (second_of v)); parameters = h.parameters; result = h.result; accessors = accessors_in (first_of v) }
subscript_of w v = record { span = no_span; parameters = []; result = no_type; accessors = [] }

unfoldable pub subscript_member : Grammar
subscript_member = giving (λ v. a_member (member_forms.Subscript (subscript_of (first_of v) (second_of v)))) (both subscript_head (accessed braces))

abbrev pub member_in : Value → Member
member_in (a_member m) = m
member_in v = member_forms.Property no_variable

abbrev pub members_in : Value → List Member
members_in (members ms) = ms
members_in v = []

unfoldable pub method : Grammar
method = giving method_value (both function_head block)

unfoldable pub structure_members : Grammar
structure_members = both (giving (λ v. members (list_in member_in v)) (many (row_item (either property (either (giving method_value (both mutating_head block)) (either method subscript_member)))))) (token (any (sorts.CloseBrace ∷ [])))

unfoldable pub class_members : Grammar
class_members = both (giving (λ v. members (list_in member_in v)) (many (row_item (either property (either method subscript_member))))) (token (any (sorts.CloseBrace ∷ [])))

abbrev pub declared_of : Value → Value → TypeDeclaration
declared_of (a_head (heads.Type h)) v = record { span = from_to h.span (span_of (closing v)); kind = h.kind; name = h.name; members = members_in (inside v) }
declared_of w v = record { span = no_span; kind = type_kinds.Class; name = no_name; members = [] }

unfoldable pub type_declaration : Sort → ℕ → Grammar
type_declaration s n = giving (λ v. an_item (item_forms.Type (declared_of (first_of v) (second_of v)))) (both (type_head (s ∷ [])) (deeper (any braces) n))

unfoldable pub function : Grammar
function = giving (λ v. an_item (item_forms.Function (function_of (first_of v) (second_of v)))) (both function_head block)

abbrev pub item_in : Value → Item
item_in (an_item i) = i
item_in v = item_forms.Global no_variable

unfoldable pub item : Grammar
item = either function (either (type_declaration sorts.Struct structure_members_rule) (either (type_declaration sorts.Class class_members_rule) (giving (λ v. an_item (item_forms.Statement (statement_in v))) statement)))

unfoldable pub program : Grammar
program = giving (λ v. items (list_in item_in v)) (many (either global (row_item item)))

unfoldable pub text_in_brackets : Grammar
text_in_brackets = both (token (any (sorts.Text ∷ []))) (token (any (sorts.CloseRound ∷ [])))

unfoldable pub body : ℕ → Grammar
body zero = bracket
body (suc zero) = argument_list
body (suc (suc zero)) = indices
body (suc (suc (suc zero))) = literal
body (suc (suc (suc (suc zero)))) = block_list
body (suc (suc (suc (suc (suc zero))))) = structure_members
body (suc (suc (suc (suc (suc (suc zero)))))) = class_members
body (suc (suc (suc (suc (suc (suc (suc zero))))))) = accessor_list
body (suc (suc (suc (suc (suc (suc (suc (suc zero)))))))) = observer_list
body (suc (suc (suc (suc (suc (suc (suc (suc (suc zero))))))))) = if_tail
body (suc (suc (suc (suc (suc (suc (suc (suc (suc (suc zero)))))))))) = any_type
body (suc (suc (suc (suc (suc (suc (suc (suc (suc (suc (suc zero))))))))))) = type_bracket
body (suc (suc (suc (suc (suc (suc (suc (suc (suc (suc (suc (suc zero)))))))))))) = parameter_bracket
body (suc (suc (suc (suc (suc (suc (suc (suc (suc (suc (suc (suc (suc zero))))))))))))) = subscript_bracket
body (suc (suc (suc (suc (suc (suc (suc (suc (suc (suc (suc (suc (suc (suc zero)))))))))))))) = accessor_name_in_brackets
body (suc (suc (suc (suc (suc (suc (suc (suc (suc (suc (suc (suc (suc (suc (suc zero))))))))))))))) = text_in_brackets
body (suc (suc (suc (suc (suc (suc (suc (suc (suc (suc (suc (suc (suc (suc (suc (suc n)))))))))))))))) = first_bracket

-- the classes of the tokens by which what a rule says may go on: those of an arrow's type and of an else if
unfoldable pub tail : ℕ → List ℕ
tail zero = []
tail (suc zero) = []
tail (suc (suc zero)) = []
tail (suc (suc (suc zero))) = []
tail (suc (suc (suc (suc zero)))) = []
tail (suc (suc (suc (suc (suc zero))))) = []
tail (suc (suc (suc (suc (suc (suc zero)))))) = []
tail (suc (suc (suc (suc (suc (suc (suc zero))))))) = []
tail (suc (suc (suc (suc (suc (suc (suc (suc zero)))))))) = []
tail (suc (suc (suc (suc (suc (suc (suc (suc (suc zero))))))))) = any (sorts.Else ∷ [])
tail (suc (suc (suc (suc (suc (suc (suc (suc (suc (suc zero)))))))))) = any (sorts.Arrow ∷ [])
tail (suc (suc (suc (suc (suc (suc (suc (suc (suc (suc (suc zero))))))))))) = []
tail (suc (suc (suc (suc (suc (suc (suc (suc (suc (suc (suc (suc zero)))))))))))) = []
tail (suc (suc (suc (suc (suc (suc (suc (suc (suc (suc (suc (suc (suc zero))))))))))))) = []
tail (suc (suc (suc (suc (suc (suc (suc (suc (suc (suc (suc (suc (suc (suc zero)))))))))))))) = []
tail (suc (suc (suc (suc (suc (suc (suc (suc (suc (suc (suc (suc (suc (suc (suc zero))))))))))))))) = []
tail (suc (suc (suc (suc (suc (suc (suc (suc (suc (suc (suc (suc (suc (suc (suc (suc n)))))))))))))))) = []
