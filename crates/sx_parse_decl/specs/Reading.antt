-- What a reader answers.
use Rattle.std.specs.Prelude.{◌≡◌, ℕ, List, length, Result, Ok, Err, Option, Some, None, Bool, true}
use Rattle.sx_grammar.specs.declared.lexemes.Lexeme.{Lexeme}
use Rattle.sx_grammar.specs.Value.{Value, nothing, leaf, pair, a_type, parameters}
use Rattle.sx_tree.specs.declared.declarations.Parameter.{Parameter}
use Rattle.sx_tree.specs.declared.written_types.WrittenType.{WrittenType}
use Rattle.sx_parse_decl.specs.declared.heads.FunctionRest.{FunctionRest}
use Rattle.sx_parse_decl.specs.declared.heads.ResultType.{ResultType}
use Rattle.sx_grammar.specs.Grammar.{Out, done, fault, Cause, misfit, missing, ◌>>=◌}
use Rattle.sx_parse_decl.specs.declared.stop.Stop.{Stop}
use Rattle.sx_parse_decl.specs.declared.stop.Stop.TheVariants as stops

-- whether a level too much opens
abbrev pub is_deep : Cause → Bool
is_deep (misfit b) = b
is_deep missing = true

abbrev pub blame : Out → Option (ℕ × Bool)
blame (done v rest) = None
blame (fault rest c) = Some (length rest, is_deep c)

abbrev pub Stops : Stop → Out → Type 0
Stops stops.Memory o = Unit {0}
Stops (stops.Fault left deep) o = blame o ≡ Some (left, deep)

-- What is read, seen as a value, and what follows it are those of a run, unless memory ran out.
abbrev pub Gives : {X : Type 0} → (X → Value) → (X → List Lexeme) → Result X Stop → Out → Type 0
Gives view rest (Ok x) o = o ≡ done (view x) (rest x)
Gives view rest (Err e) o = Stops e o

-- behind the token that opened a level
abbrev pub opened_by : Lexeme → Out → Out
opened_by t o = o >>= λ v r. done (pair (leaf t) v) r

-- a result type behind its arrow, or none
abbrev pub result_value : Option ResultType → Value
result_value None = nothing
result_value (Some r) = pair (leaf r.sign) (a_type r.ty)

-- a type, or none
abbrev pub option_value : Option WrittenType → Value
option_value None = nothing
option_value (Some t) = a_type t

abbrev pub bracket_value : Lexeme → List Parameter → Lexeme → Value
bracket_value start ps last = pair (leaf start) (pair (parameters ps) (leaf last))

abbrev pub rest_value : FunctionRest → Value
rest_value r = pair (leaf r.name) (pair (bracket_value r.start r.parameters r.last) (result_value r.result))
