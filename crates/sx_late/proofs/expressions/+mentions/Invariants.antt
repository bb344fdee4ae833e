use Rattle.std.proofs.Common.{◌≡◌, ◌++◌, drop, map}
use Rattle.sx_late.specs.Mentions.{all, argument_mentions, component_mentions, expr_mentions, given_mentions, parts_mention}
use Rattle.sx_late.proofs.expressions.+mentions.Given as goal

abbrev pub invariant-put_exprs-loop-expr : goal.invariant-put_exprs-loop-expr
invariant-put_exprs-loop-expr l = l.mentions ++ all (map (expr_mentions l.typed) (drop l.expr-index l.exprs)) ≡ l.fn.mentions ++ all (map (expr_mentions l.typed) l.exprs)

abbrev pub invariant-put_given-loop-property : goal.invariant-put_given-loop-property
invariant-put_given-loop-property l = l.mentions ++ all (map (given_mentions l.typed) (drop l.property-index l.given)) ≡ l.fn.mentions ++ all (map (given_mentions l.typed) l.given)

abbrev pub invariant-put_arguments-loop-argument : goal.invariant-put_arguments-loop-argument
invariant-put_arguments-loop-argument l = l.mentions ++ all (map (argument_mentions l.typed) (drop l.argument-index l.arguments)) ≡ l.fn.mentions ++ all (map (argument_mentions l.typed) l.arguments)

abbrev pub invariant-put_components-loop-index : goal.invariant-put_components-loop-index
invariant-put_components-loop-index l = l.mentions ++ parts_mention (map (component_mentions l.typed) (drop l.index l.components)) l.purpose ≡ l.fn.mentions ++ parts_mention (map (component_mentions l.typed) l.components) l.purpose
