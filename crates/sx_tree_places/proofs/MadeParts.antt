-- Parts, links, arguments and closures made of parts whose places have a property.
use Rattle.std.proofs.Common.{ℕ, List, map, Option, Some, None, sym, subst}
use Rattle.sx_span.specs.declared.places.Span.{Span}
use Rattle.sx_tree.specs.declared.operators.BinaryOperator.{BinaryOperator}
use Rattle.sx_tree.specs.declared.written_types.Name.{Name}
use Rattle.sx_tree.specs.declared.written_types.Signature.{Signature}
use Rattle.sx_tree.specs.declared.code.Argument.{Argument}
use Rattle.sx_tree.specs.declared.code.Closure.{Closure, Closure-F, fold-roll-Closure, out-roll-Closure, roll-Closure}
use Rattle.sx_tree.specs.declared.code.Expr.{Expr}
use Rattle.sx_tree.specs.declared.code.Part.{Part-F, fold-roll-Part, roll-Part}
use Rattle.sx_tree.specs.declared.code.Part.TheVariants as parts
use Rattle.sx_tree.specs.declared.code.Statement.{Statement}
use Rattle.sx_tree.specs.Nodes.{Places, PartNodes, all, argument_places, closure_places, expr_places, signature_places, statement_places, trailing, else_step, form_step, part_step, statement_form_step, argument_step, block_step, closure_step, expr_step, link_step, local_step, statement_step}
use Rattle.sx_grammar.specs.Rules.{closure_of}
use Rattle.sx_nodes.specs.Pieces.{Level}
use Rattle.sx_node_places.proofs.Layers.{argument_is, link_is, placed_part}
use Rattle.sx_tree_places.proofs.Each.{Each, IfThere, each_all, each_append}
use Rattle.sx_tree_places.proofs.Placed.{ArgumentPlaced, ClosurePlaced, ExprPlaced, LinkPlaced, PartPlaced, SignaturePlaced, StatementPlaced}
use Rattle.sx_tree_places.proofs.MadeExprs.{trailing_placed}

module _ (P : ℕ → Type 0) where
  pub link_made : (o : BinaryOperator) (e : Expr) → ExprPlaced P e → LinkPlaced P (record { operator = o; operand = e })
  link_made o e (p, k) = subst (λ xs. Each P xs) (sym (link_is (record { operator = o; operand = e }))) k

  pub argument_made : (s : Span) (label : Option Name) (ampersand : Option ℕ) (e : Expr) → P s.start → ExprPlaced P e → ArgumentPlaced P (record { span = s; label = label; ampersand = ampersand; value = e })
  argument_made s label ampersand e h (p, k) = subst (λ xs. Each P xs) (sym (argument_is (record { span = s; label = label; ampersand = ampersand; value = e }))) (h, k)

  -- ---- closures
  closure_at : (x : Level Closure-F) → P x.span.start → Each P (closure_places (roll-Closure x)) → ClosurePlaced P (roll-Closure x)
  closure_at x h k = (subst (λ (y : Level Closure-F). P y.span.start) (sym (out-roll-Closure x)) h, k)

  pub closure_made : (s : Span) (g : Signature) (ss : List Statement) → P s.start → SignaturePlaced P g → Each (StatementPlaced P) ss → ClosurePlaced P (closure_of s g ss)
  closure_made s g ss h k ks =
      let x : Level Closure-F = record { span = s; signature = g; body = ss } in
      closure_at x h
      (subst (λ xs. Each P xs) (sym (fold-roll-Closure Places (ℕ → Places) PartNodes (ℕ → Places) Places Places Places Places Places Places Places else_step form_step part_step statement_form_step argument_step block_step closure_step expr_step link_step local_step statement_step x))
      (h, each_append P (signature_places g) (all (map statement_places ss)) k (each_all P (StatementPlaced P) statement_places (λ t l. l.0) ss ks)))

  -- ---- parts behind an operand
  part_made : (x : Level Part-F) → ((start : ℕ) → P start → Each P ((part_step (placed_part x)).own start)) → Each P (part_step (placed_part x)).inner → PartPlaced P (roll-Part x)
  part_made x own inner =
      subst (λ (y : PartNodes). ((start : ℕ) → P start → Each P (y.own start)) × Each P y.inner) (sym (fold-roll-Part Places (ℕ → Places) PartNodes (ℕ → Places) Places Places Places Places Places Places Places else_step form_step part_step statement_form_step argument_step block_step closure_step expr_step link_step local_step statement_step x)) (own, inner)

  pub member : (end : ℕ) (n : Name) (c : Option Closure) → IfThere (ClosurePlaced P) c → PartPlaced P (parts.Member end n c)
  unfolding Rattle.sx_tree.specs.declared.code.Else.TheViews.roll-Part denote.Hole.Carrier.roll
  member end n None k = part_made (Part-F.Member end n None) (λ start h. (h, tt)) tt
  member end n (Some c) (p, k) = part_made (Part-F.Member end n (Some c)) (λ start h. (h, (h, tt))) (trailing_placed P (closure_places c) k)

  pub index : (end : ℕ) (es : List Expr) → Each (ExprPlaced P) es → PartPlaced P (parts.Index end es)
  unfolding Rattle.sx_tree.specs.declared.code.Else.TheViews.roll-Part denote.Hole.Carrier.roll
  index end es ks = part_made (Part-F.Index end es) (λ start h. (h, tt)) (each_all P (ExprPlaced P) expr_places (λ e k. k.1) es ks)

  pub call : (end : ℕ) (xs : List Argument) (c : Option Closure) → Each (ArgumentPlaced P) xs → IfThere (ClosurePlaced P) c → PartPlaced P (parts.Call end xs c)
  unfolding Rattle.sx_tree.specs.declared.code.Else.TheViews.roll-Part denote.Hole.Carrier.roll
  call end xs None ks k =
      part_made (Part-F.Call end xs None) (λ start h. (h, tt)) (each_append P (all (map argument_places xs)) (trailing None) (each_all P (ArgumentPlaced P) argument_places (λ a l. l) xs ks) tt)
  call end xs (Some c) ks (p, k) =
      part_made (Part-F.Call end xs (Some c)) (λ start h. (h, tt))
      (each_append P (all (map argument_places xs)) (trailing (Some (closure_places c))) (each_all P (ArgumentPlaced P) argument_places (λ a l. l) xs ks) (trailing_placed P (closure_places c) k))
