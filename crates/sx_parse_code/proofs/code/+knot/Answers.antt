use Rattle.sx_grammar.specs.Rules.{body}
use Rattle.sx_parse_expr.specs.Levels.{inside_value, rule_of}
use Rattle.sx_parse_code.proofs.Rests.{rest_shorter, rest_dropped}
use Rattle.sx_parse_code.proofs.code.+knot.Goals as goal

pub returns-in-Ok : goal.returns-in-Ok
returns-in-Ok t c = (
  c.in-Ok.ensures.level,
  rest_shorter c.args.levels (body (rule_of c.args.level)) c.args.lexemes.now (inside_value c.in-Ok.inside) c.in-Ok.rest.now c.in-Ok.ensures.run,
  rest_dropped c.args.levels (body (rule_of c.args.level)) c.args.lexemes.now (inside_value c.in-Ok.inside) c.in-Ok.rest.now c.in-Ok.ensures.run,
)
