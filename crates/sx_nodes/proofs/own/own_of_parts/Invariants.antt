use Rattle.std.proofs.Common.{◌≤◌, length, map}
use Rattle.sx_tree.specs.declared.code.ExprForm.TheVariants as forms
use Rattle.sx_nodes.specs.declared.own.Own.{Own}
use Rattle.sx_nodes.specs.Own.{Stands}
use Rattle.sx_nodes.specs.Pieces.{a_front, part_fronts}
use Rattle.sx_nodes.proofs.own.own_of_parts.Given as goal

abbrev pub invariant-fronts : goal.invariant-fronts
invariant-fronts l = record {
  within : l.count ≤ length l.parts;
  told : (o : Own) → Stands (map (a_front l.span) (map (λ front. forms.Postfix l.first front) (part_fronts l.count l.parts))) l.left o →
      Stands (map (a_front l.span) (map (λ front. forms.Postfix l.first front) (part_fronts (length l.parts) l.parts))) l.fn.at o;
}

abbrev pub decreases-fronts : goal.decreases-fronts
decreases-fronts l = l.count
