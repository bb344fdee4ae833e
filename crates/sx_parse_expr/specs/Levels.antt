-- What a token that opens a level holds, and who reads it.
use Rattle.std.specs.Prelude.{◌≡◌, ◌≤◌, ◌<◌, ◌-◌, ℕ, List, length, drop, Result, Ok, Err}
use denote.Ref.{Bor}
use Rattle.sx_grammar.specs.declared.lexemes.Lexeme.{Lexeme}
use Rattle.sx_grammar.specs.Value.{Value, nothing, leaf, pair, an_expr, exprs, arguments, a_literal, statements, if_parts, a_type_parameter, closure_parameters}
use Rattle.sx_grammar.specs.Grammar.{Out, done, run}
use Rattle.sx_grammar.specs.Rules.{body, bracket_rule, arguments_rule, indices_rule, literal_rule, block_items_rule, else_if_rule, first_bracket_rule}
use Rattle.sx_parse_decl.specs.Reading.{Stops}
use Rattle.sx_parse_decl.specs.declared.stop.Stop.{Stop}
use Rattle.sx_parse_expr.specs.declared.levels.Level.{Level}
use Rattle.sx_parse_expr.specs.declared.levels.Level.TheVariants as levels
use Rattle.sx_parse_expr.specs.declared.levels.FirstBracket.{FirstBracket}
use Rattle.sx_parse_expr.specs.declared.levels.FirstBracket.TheVariants as firsts
use Rattle.sx_parse_expr.specs.declared.levels.Inside.{Inside}
use Rattle.sx_parse_expr.specs.declared.levels.Inside.TheVariants as insides

-- the rule of the grammar that says what a level of this kind holds
abbrev pub rule_of : Level → ℕ
rule_of levels.Bracket = bracket_rule
rule_of levels.Arguments = arguments_rule
rule_of levels.Indices = indices_rule
rule_of levels.Literal = literal_rule
rule_of levels.Block = block_items_rule
rule_of levels.ElseIf = else_if_rule
rule_of levels.FirstBracket = first_bracket_rule

abbrev pub level_of : Inside → Level
level_of (insides.Bracket e last) = levels.Bracket
level_of (insides.Arguments xs last) = levels.Arguments
level_of (insides.Indices es last) = levels.Indices
level_of (insides.Literal g ss last) = levels.Literal
level_of (insides.Block ss last) = levels.Block
level_of (insides.ElseIf c b e end) = levels.ElseIf
level_of (insides.FirstBracket x last) = levels.FirstBracket

abbrev pub first_value : FirstBracket → Value
first_value firsts.Empty = nothing
first_value (firsts.Expr e) = pair (an_expr e) nothing
first_value (firsts.Parameters e p ps) = pair (an_expr e) (pair (a_type_parameter p) (closure_parameters ps))

-- what it stands for in the grammar
abbrev pub inside_value : Inside → Value
inside_value (insides.Bracket e last) = pair (an_expr e) (leaf last)
inside_value (insides.Arguments xs last) = pair (arguments xs) (leaf last)
inside_value (insides.Indices es last) = pair (exprs es) (leaf last)
inside_value (insides.Literal g ss last) = pair (a_literal g ss) (leaf last)
inside_value (insides.Block ss last) = pair (statements ss) (leaf last)
inside_value (insides.ElseIf c b e end) = if_parts c b e end
inside_value (insides.FirstBracket x last) = pair (first_value x) (leaf last)

-- What was read of these lexemes, and how many are left, are those of a run, unless memory ran out.
abbrev pub Takes : Level → Out → List Lexeme → Result (Inside × ℕ) Stop → Type 0
Takes level o ts (Ok x) = (level_of x.0 ≡ level) × (x.1 ≤ length ts) × (o ≡ done (inside_value x.0) (drop (length ts - x.1) ts))
Takes level o ts (Err e) = Stops e o

-- A reader of what levels hold, where fewer levels are left than so many: it may be called, and it answers what the run of the level's rule gives.
pub record IsReader (pre : Level → Bor (List Lexeme) → ℕ → Type 0) (post : Level → Bor (List Lexeme) → ℕ → Result (Inside × ℕ) Stop → Type 0) (left : ℕ) : Type 0 where
  pub callable : (level : Level) (ts : Bor (List Lexeme)) (fewer : ℕ) → fewer < left → pre level ts fewer
  pub reads : (level : Level) (ts : Bor (List Lexeme)) (fewer : ℕ) (answer : Result (Inside × ℕ) Stop) → post level ts fewer answer → Takes level (run body fewer (body (rule_of level)) ts.now) ts.now answer
