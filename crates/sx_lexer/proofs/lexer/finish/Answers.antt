use Rattle.std.proofs.Common.{◌≡◌, ◌∙◌, ap, sym, subst, length, arith}
use Rattle.std.specs.List.{All}
use Rattle.sx_token.specs.Sound.{IsKind, AreDistinct}
use Rattle.sx_lexer.proofs.NameLists.{length_map}
use Rattle.sx_lexer.proofs.lexer.finish.Goals as goal

pub invariant_of-result-clause-few : goal.invariant_of-result-clause-few
invariant_of-result-clause-few c = omega arith

pub invariant_of-result-clause-kinds : goal.invariant_of-result-clause-kinds
invariant_of-result-clause-kinds c =
    let e : length c.args.gathered.names ≡ length c.in_ok-names.names.items = sym (ap length c.in_ok-names.ensures) ∙ length_map (λ v. v.items) c.in_ok-names.names.items in
    subst (λ n. All (λ t. IsKind (length c.args.gathered.texts.items) n t.kind) c.args.gathered.list.items) e c.requires.kinds

pub invariant_of-result-clause-names_differ : goal.invariant_of-result-clause-names_differ
invariant_of-result-clause-names_differ c = subst AreDistinct (sym c.in_ok-names.ensures) c.requires.names_differ
