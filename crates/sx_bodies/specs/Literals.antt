-- Closure literals (The Swift Programming Language, "Closures").
use Rattle.std.specs.Prelude.{◌≡◌, Result, Ok, Err, ℕ, ◌+◌, Bool, true, false, not, ◌&&◌, ◌||◌, ◌==◌, nat_le, nat_lt, List, [], ◌∷◌, ◌++◌, filter, map, take, drop, length, slice_get, Option, Some, None, option_map, option_and_then, cond}
use Rattle.std.specs.List.{list_any}
use Rattle.sx_span.specs.declared.places.Node.{Node}
use Rattle.sx_tree.specs.declared.written_types.ClosureParameter.{ClosureParameter}
use Rattle.sx_tree.specs.declared.written_types.Name.{Name}
use Rattle.sx_tree.specs.declared.written_types.Signature.{Signature}
use Rattle.sx_tree.specs.declared.written_types.Signature.TheVariants as signatures
use Rattle.sx_types.specs.declared.types.FunctionParameter.{FunctionParameter}
use Rattle.sx_types.specs.declared.types.FunctionType.{FunctionType}
use Rattle.sx_types.specs.declared.types.Structure.{Structure}
use Rattle.sx_types.specs.declared.types.Ty.{Ty}
use Rattle.sx_types.specs.declared.types.Types.{Types}
use Rattle.sx_types.specs.declared.types.Ty.TheVariants as ty
use Rattle.sx_types.specs.Words.{words_by, most_words}
use Rattle.sx_typed.specs.declared.code.Expr.{Expr}
use Rattle.sx_typed.specs.declared.code.Form.TheVariants as forms
use Rattle.sx_typed.specs.declared.code.Statement.{Statement}
use Rattle.sx_typed.specs.declared.program.Function.{Function}
use Rattle.sx_typed.specs.declared.program.FunctionKind.TheVariants as function_kind
use Rattle.sx_typed.specs.declared.program.Marker.{Marker}
use Rattle.sx_typed.specs.declared.program.Marker.TheVariants as marker
use Rattle.sx_typed.specs.declared.program.Mention.{Mention}
use Rattle.sx_typed.specs.declared.program.Mention.TheVariants as mentions
use Rattle.sx_typed.specs.declared.program.Parameter.{Parameter}
use Rattle.sx_scope.specs.declared.stop.TypeKind.{TypeKind}
use Rattle.sx_scope.specs.declared.stop.TypeKind.TheVariants as kind
use Rattle.sx_scope.specs.declared.stop.TypeStop.{TypeStop}
use Rattle.sx_scope.specs.declared.declarations.Declarations.{Declarations}
use Rattle.sx_scope.specs.declared.declarations.Known.{Known}
use Rattle.sx_scope.specs.declared.declarations.Known.TheVariants as known
use Rattle.sx_scope.specs.declared.walk.Asked.{Asked}
use Rattle.sx_scope.specs.declared.walk.Asked.TheVariants as asked
use Rattle.sx_scope.specs.declared.walk.Gives.{Gives}
use Rattle.sx_scope.specs.declared.walk.Gives.TheVariants as gives
use Rattle.sx_scope.specs.declared.walk.LocalKind.{LocalKind}
use Rattle.sx_scope.specs.declared.walk.LocalKind.TheVariants as local_kind
use Rattle.sx_scope.specs.declared.walk.Place.{Place}
use Rattle.sx_scope.specs.declared.walk.Use.{Use}
use Rattle.sx_scope.specs.declared.walk.Use.TheVariants as uses
use Rattle.sx_scope.specs.declared.walk.Walk.{Walk}
use Rattle.sx_scope.specs.Verdict.{Verdict, typed, untold, depends, fails, Answers, Judging, ◌▷◌, both, both_by, need, need_narrow, fault, moved, unless_broken}
use Rattle.sx_scope.specs.Walks.{numbered}
use Rattle.sx_scope.specs.Names.{agrees, is_function}
use Rattle.sx_scope.specs.Paths.{an_expr}
use Rattle.sx_scope.specs.WrittenTypes.{is_void, number_of, function_type, judged_type}
use Rattle.sx_calls.specs.Parts.{JudgedStatement}
use Rattle.sx_bodies.specs.Statements.{body, lacks_return, fresh, unless_taken, local_named}

-- ---- signatures
-- a parameter with its written type
pub record TypedName : Type 0 where
  pub name : ℕ
  pub inout : Bool
  pub ty : Judging Ty

pub data JudgedSignature : Type 0 where
  Absent : JudgedSignature
  Names : List ℕ → JudgedSignature
  Typed : List TypedName → Option (Judging Ty) → JudgedSignature

abbrev pub name_number : Name → ℕ
name_number n = n.number

abbrev pub parameter_kind : Bool → LocalKind
parameter_kind true = local_kind.InOut
parameter_kind false = local_kind.Constant

abbrev pub marker_of : Bool → Marker
marker_of true = marker.InOut
marker_of false = marker.Plain

abbrev pub parameter : Node → ℕ → Bool → Ty → Parameter
parameter n x inout t = record { node = n; name = Some x; marker = marker_of inout; ty = t }

abbrev pub known_parameter : Verdict Parameter → Known
known_parameter (typed p w) = known.Type p.ty
known_parameter (untold w) = known.Untold
known_parameter (depends w) = known.Failed
known_parameter (fails f fs w) = known.Failed

abbrev pub is_lent : Bool → Known → Bool
is_lent inout (known.Type t) = not inout && is_function t
is_lent inout k = false

-- a parameter comes into scope
abbrev pub declares_parameter : ℕ → ℕ → Node → Bool → Verdict Parameter → Verdict Parameter
declares_parameter from x n inout v = moved (unless_taken from (local_named x n (parameter_kind inout) (is_lent inout (known_parameter v)) (known_parameter v))) v

abbrev pub parameter_added : List Parameter × Parameter → Judging (List Parameter)
parameter_added (ps, p) = typed (ps ++ p ∷ [])

-- parameters one after another, behind those that were found
abbrev pub run_parameters : Verdict (List Parameter) → List (Judging Parameter) → Verdict (List Parameter)
run_parameters v [] = v
run_parameters v (p ∷ ps) = run_parameters (both v p ▷ parameter_added) ps

-- the parameters of the function type that is asked for
abbrev pub parameters_by : Option FunctionType → List FunctionParameter
parameters_by None = []
parameters_by (Some f) = f.parameters

abbrev pub first_parameter : List FunctionParameter → Option FunctionParameter
first_parameter [] = None
first_parameter (p ∷ ps) = Some p

abbrev pub other_parameters : List FunctionParameter → List FunctionParameter
other_parameters [] = []
other_parameters (p ∷ ps) = ps

abbrev pub inout_by : Option FunctionParameter → Bool
inout_by None = false
inout_by (Some p) = p.inout

abbrev pub parameter_by : Node → ℕ → Option FunctionParameter → Judging Parameter
parameter_by n x None = untold
parameter_by n x (Some p) = typed (parameter n x p.inout p.ty)

abbrev pub not_void : Node → ℕ → Bool → Unit {0} × Ty → Judging Parameter
not_void n x inout (u, t) = need (not (is_void t)) kind.Mismatch n (typed (parameter n x inout t))

abbrev pub result_by : Option FunctionType → Judging Ty
result_by None = untold
result_by (Some f) = typed f.result

-- ---- captures: what is mentioned and stands outside the literal, each once
abbrev pub node_of_mention : Mention → Node
node_of_mention (mentions.Constant n t) = n
node_of_mention (mentions.Variable n) = n
node_of_mention (mentions.InOut n) = n

abbrev pub number_of_mention : Mention → ℕ
number_of_mention m = (node_of_mention m).0

abbrev pub is_outside : Node → Mention → Bool
is_outside n m = nat_lt (number_of_mention m) n.0

abbrev pub same_mention : Mention → Mention → Bool
same_mention m k = number_of_mention m == number_of_mention k

-- those before, and a mention whose like isn't among them
abbrev pub with_first : List Mention → Mention → List Mention
with_first before m = cond (list_any (same_mention m) before) before (before ++ m ∷ [])

-- those before, and then those whose like hasn't come before
abbrev pub first_of_each : List Mention → List Mention → List Mention
first_of_each before [] = before
first_of_each before (m ∷ ms) = first_of_each (with_first before m) ms

abbrev pub captured : Node → List Mention → List Mention
captured n ms = first_of_each [] (filter (is_outside n) ms)

-- behind the literal: its locals are out of scope, and it has mentioned what it captures
abbrev pub closed : Node → ℕ → ℕ → Walk → Walk
closed n locals mentions w =
    record w { locals = take locals w.locals; mentions = take mentions w.mentions ++ captured n (drop mentions w.mentions) }

abbrev pub or_zero : Option ℕ → ℕ
or_zero None = 0
or_zero (Some n) = n

abbrev pub total : {X : Type 0} → (X → ℕ) → List X → ℕ
total f [] = 0
total f (x ∷ xs) = f x + total f xs

-- ---- what a literal is
abbrev pub is_inout : Marker → Bool
is_inout marker.InOut = true
is_inout m = false

abbrev pub function_parameter : Parameter → FunctionParameter
function_parameter p = record { inout = is_inout p.marker; ty = p.ty }

-- the parts of a literal: its parameters, its result and its statements
abbrev pub LiteralParts : Type 0
LiteralParts = List Parameter × (Ty × List Statement)

abbrev pub kept : Use → Bool
kept uses.Lent = false
kept uses.Unpaired = false
kept u = true

-- inside a literal; where it may be kept, what is in scope stands outside of it
abbrev pub inside_literal : Place → Use → ℕ → Gives → Place
inside_literal p u outside g = record p {
  gives = g;
  in_loop = false;
  outside_kept = cond (kept u) outside p.outside_kept;
  in_kept = kept u || p.in_kept;
}

abbrev pub gives_by : Option Ty → Gives
gives_by None = gives.Unknown
gives_by (Some t) = gives.Type t

abbrev pub is_typed_signature : JudgedSignature → Bool
is_typed_signature (JudgedSignature.Typed ps r) = true
is_typed_signature g = false

abbrev pub too_many_names : JudgedSignature → Option FunctionType → Bool
too_many_names (JudgedSignature.Names xs) (Some f) = nat_lt (length f.parameters) (length xs)
too_many_names g f = false

abbrev pub asks_other : Asked → Bool
asks_other (asked.Type t) = not (is_function t)
asks_other q = false

abbrev pub asks_nothing : Asked → Bool
asks_nothing asked.Nothing = true
asks_nothing asked.Printable = true
asks_nothing q = false

abbrev pub escapes : Use → Bool
escapes uses.Lent = false
escapes u = true

abbrev pub literal_function : Bool → Node → List Mention → LiteralParts → Function
literal_function escaping n ms (ps, (t, ss)) =
    record { kind = function_kind.Closure escaping; node = n; owner = None; parameters = ps; result = t; body = ss; mentions = ms }

-- the literal comes before those that stand in it
abbrev pub with_literal : ℕ → Function → Walk → Walk
with_literal before f w = record w { literals = take before w.literals ++ f ∷ drop before w.literals }

abbrev pub literal_type : LiteralParts → FunctionType
literal_type (ps, (t, ss)) = function_type (map function_parameter ps) t

-- what a call tells that finds a number: it, or the first failing node
abbrev pub Tells : {A : Type 0} → Result A TypeStop → Walk → Verdict A → Type 0
Tells (Ok a) now v = v ≡ typed a now
Tells (Err e) now v = Answers (Err e) now v

abbrev pub literal_numbered : Use → Node → ℕ → ℕ → List Mention → LiteralParts → ℕ → Judging Expr
literal_numbered u n site literals ms x k w = typed (an_expr n site (ty.Func k) (forms.Closure n)) (with_literal literals (literal_function (escapes u) n ms x) w)

abbrev pub has_function : FunctionType → Bool
has_function f = list_any (λ (p : FunctionParameter). is_function p.ty) f.parameters

-- ---- conditions of a literal
-- judged by what fits, unless a condition of the node is broken
abbrev pub where_it_fits : {A B : Type 0} → Result A TypeKind → Node → (A → Judging B) → Judging B
where_it_fits (Ok a) n m w = m a w
where_it_fits (Err k) n m w = fault k n w

abbrev pub unknown_literal : Node → Bool → Judging Expr
unknown_literal n lacking = need (not lacking) kind.MissingReturn n untold

-- where it agrees with what is asked, and gives its value
abbrev pub number_agreeing : Asked → Bool → ℕ → Result ℕ TypeKind
number_agreeing q lacking k = cond (agrees q (ty.Func k)) (cond lacking (Err kind.MissingReturn) (Ok k)) (Err kind.Mismatch)

-- with this number of its type, if it has one
abbrev pub number_fitting : Asked → Bool → FunctionType → Option ℕ → Result ℕ TypeKind
number_fitting q lacking f None = Err kind.Mismatch
number_fitting q lacking f (Some k) = cond (has_function f) (Err kind.Mismatch) (number_agreeing q lacking k)

-- ---- words
abbrev pub told_words : Types → ℕ → Option ℕ
told_words types k = option_and_then (λ (s : Structure). s.words) (slice_get types.structures k)

abbrev pub words_in : Types → Ty → ℕ
words_in types t = or_zero (words_by (told_words types) t)

abbrev pub parameter_words : Types → FunctionParameter → ℕ
parameter_words types p = cond p.inout 1 (words_in types p.ty)

abbrev pub mention_words : Types → Mention → ℕ
mention_words types (mentions.Constant n t) = words_in types t
mention_words types (mentions.Variable n) = 1
mention_words types (mentions.InOut n) = 1

abbrev pub are_narrow : {X : Type 0} → (X → ℕ) → List X → Bool
are_narrow words xs = nat_le (total words xs) most_words

module _ (d : Declarations) where
  abbrev pub typed_name : ClosureParameter → TypedName
  typed_name p = record { name = p.name.number; inout = p.inout; ty = judged_type d p.ty }

  abbrev pub judged_signature : Signature → JudgedSignature
  judged_signature signatures.Absent = JudgedSignature.Absent
  judged_signature (signatures.Names ns) = JudgedSignature.Names (map name_number ns)
  judged_signature (signatures.Typed ps r) = JudgedSignature.Typed (map typed_name ps) (option_map (judged_type d) r)

  -- a name without a type has that of the parameter that is asked for
  abbrev pub named_parameter : ℕ → ℕ → Option FunctionParameter → Judging Parameter
  named_parameter from x o =
      numbered (λ n w. declares_parameter from x n (inout_by o) (fresh d from x n w ▷ (λ u. parameter_by n x o)))

  -- of names, by the parameters that are asked for
  abbrev pub named_parameters : ℕ → List FunctionParameter → List ℕ → List (Judging Parameter)
  named_parameters from ps [] = []
  named_parameters from ps (x ∷ xs) = named_parameter from x (first_parameter ps) ∷ named_parameters from (other_parameters ps) xs

  abbrev pub typed_parameter : ℕ → TypedName → Judging Parameter
  typed_parameter from p =
      numbered (λ n w. declares_parameter from p.name n p.inout (both (fresh d from p.name n w) p.ty ▷ not_void n p.name p.inout))

  -- ---- what is asked for
  abbrev pub function_asked : Asked → Option FunctionType
  function_asked (asked.Type (ty.Func f)) = slice_get d.types.functions f
  function_asked q = None

  abbrev pub parameters : Asked → JudgedSignature → Judging (List Parameter)
  parameters q JudgedSignature.Absent w = typed [] w
  parameters q (JudgedSignature.Names xs) w = run_parameters (typed [] w) (named_parameters (length w.locals) (parameters_by (function_asked q)) xs)
  parameters q (JudgedSignature.Typed ps r) w = run_parameters (typed [] w) (map (typed_parameter (length w.locals)) ps)

  -- without a written result, where nothing is asked for, a signature with types has the result `Void`
  abbrev pub result_unwritten : Asked → Judging Ty
  result_unwritten asked.Nothing = typed ty.Void
  result_unwritten asked.Printable = typed ty.Void
  result_unwritten asked.Unknown = untold
  result_unwritten (asked.Type t) = result_by (function_asked (asked.Type t))

  abbrev pub result : Asked → JudgedSignature → Judging Ty
  result q JudgedSignature.Absent = result_by (function_asked q)
  result q (JudgedSignature.Names xs) = result_by (function_asked q)
  result q (JudgedSignature.Typed ps None) = result_unwritten q
  result q (JudgedSignature.Typed ps (Some r)) = r

  -- the first condition that a literal breaks in which something isn't told: by what is asked of it alone
  abbrev pub untold_breaks : Asked → JudgedSignature → Option TypeKind
  untold_breaks q g =
      cond (asks_other q || too_many_names g (function_asked q)) (Some kind.Mismatch)
      (cond (asks_nothing q && not (is_typed_signature g)) (Some kind.NoContext) None)

  abbrev pub untold_literal : Asked → Node → JudgedSignature → Judging Expr
  untold_literal q n g = unless_broken (untold_breaks q g) n untold

  -- the number of the type of a literal with these captures, which fails where it has too many words
  abbrev pub narrow_number : Node → List Mention → FunctionType → ℕ → Judging ℕ
  narrow_number n ms f k =
      need_narrow (are_narrow (parameter_words d.types) f.parameters && are_narrow (mention_words d.types) ms) n (typed k)

  -- the number of its function type, where it may stand here
  abbrev pub literal_number : Asked → Node → Bool → List Mention → FunctionType → Judging ℕ
  literal_number q n lacking ms f = where_it_fits (number_fitting q lacking f (number_of d.types.functions f)) n (narrow_number n ms f)

  abbrev pub literal_made : Asked → Use → Node → ℕ → ℕ → ℕ → Bool → LiteralParts → Judging Expr
  literal_made asked.Unknown u n site mentions literals lacking x w = unknown_literal n lacking w
  literal_made q u n site mentions literals lacking x w =
      literal_number q n lacking (drop mentions w.mentions) (literal_type x) w ▷ literal_numbered u n site literals (drop mentions w.mentions) x

  abbrev pub literal_by : Asked → Use → Node → ℕ → ℕ → ℕ → JudgedSignature → List JudgedStatement → Verdict LiteralParts → Verdict Expr
  literal_by q u n site mentions literals g ss (typed x w) = literal_made q u n site mentions literals (lacks_return (gives.Type x.1.0) ss) x w
  literal_by q u n site mentions literals g ss (untold w) = untold_literal q n g w
  literal_by q u n site mentions literals g ss (depends w) = depends w
  literal_by q u n site mentions literals g ss (fails f fs w) = fails f fs w

  abbrev pub literal_parts : Place → Asked → Use → JudgedSignature → List JudgedStatement → ℕ → Judging LiteralParts
  literal_parts p q u g ss outside w =
      both (parameters q g w) (λ w. both_by (result q g w) (λ t. body (inside_literal p u outside (gives_by t)) ss))

  abbrev pub literal : ℕ → JudgedSignature → List JudgedStatement → Place → Asked → Use → Judging Expr
  literal site g ss p q u =
      numbered (λ n w. literal_by q u n site (length w.mentions) (length w.literals) g ss
      (moved (closed n (length w.locals) (length w.mentions)) (literal_parts p q u g ss (length w.locals) w)))
