-- Expressions made of parts whose places have a property.
use Rattle.std.proofs.Common.{ℕ, Bool, List, [], ◌∷◌, ◌++◌, map, Option, Some, None, sym, subst}
use Rattle.sx_span.specs.declared.places.Span.{Span}
use Rattle.sx_tree.specs.declared.code.Closure.{Closure}
use Rattle.sx_tree.specs.declared.code.Expr.{Expr}
use Rattle.sx_tree.specs.declared.code.ExprForm.{ExprForm, ExprForm-F, fold-roll-ExprForm, roll-ExprForm}
use Rattle.sx_tree.specs.declared.code.ExprForm.TheVariants as forms
use Rattle.sx_tree.specs.declared.code.Link.{Link}
use Rattle.sx_tree.specs.declared.code.Part.{Part}
use Rattle.sx_tree.specs.Nodes.{Places, PartNodes, all, called, closure_places, expr_places, form_places, inner_of_parts, link_places, own_of_links, own_of_parts, part_nodes, trailing, else_step, form_step, part_step, statement_form_step, argument_step, block_step, closure_step, expr_step, link_step, local_step, statement_step}
use Rattle.sx_nodes.specs.Pieces.{Level}
use Rattle.sx_node_places.proofs.Layers.{expr_is, placed_form}
use Rattle.sx_tree_places.proofs.Each.{Each, IfThere, each_all, each_append}
use Rattle.sx_tree_places.proofs.Placed.{ClosurePlaced, ExprPlaced, LinkPlaced, PartPlaced}

module _ (P : ℕ → Type 0) where
  -- whatever place the expression has
  abbrev pub FormPlaced : ExprForm → Type 0
  FormPlaced f = (start : ℕ) → P start → Each P (form_places f start)

  pub expr_made : (s : Span) (f : ExprForm) → P s.start → FormPlaced f → ExprPlaced P (record { span = s; form = f })
  expr_made s f h k = (h, subst (λ xs. Each P xs) (sym (expr_is (record { span = s; form = f }))) (k s.start h))

  form_made : (x : Level ExprForm-F) → ((start : ℕ) → P start → Each P (form_step (placed_form x) start)) → FormPlaced (roll-ExprForm x)
  form_made x h start k = subst (λ (g : ℕ → Places). Each P (g start)) (sym (fold-roll-ExprForm Places (ℕ → Places) PartNodes (ℕ → Places) Places Places Places Places Places Places Places else_step form_step part_step statement_form_step argument_step block_step closure_step expr_step link_step local_step statement_step x)) (h start k)

  -- ---- a closure behind a name or a part
  pub called_placed : (c : Option Closure) (start : ℕ) → P start → Each P (called c start)
  called_placed None start h = tt
  called_placed (Some c) start h = (h, tt)

  pub trailing_placed : (xs : Places) → Each P xs → Each P (trailing (Some xs))
  trailing_placed [] h = tt
  trailing_placed (x ∷ xs) (h, k) = (h, (h, k))

  -- ---- forms
  pub int : (n : ℕ) → FormPlaced (forms.Int n)
  unfolding Rattle.sx_tree.specs.declared.code.Else.TheViews.roll-ExprForm denote.Hole.Carrier.roll
  int n = form_made (ExprForm-F.Int n) (λ start h. (h, tt))

  pub least_int : FormPlaced forms.LeastInt
  unfolding Rattle.sx_tree.specs.declared.code.Else.TheViews.roll-ExprForm denote.Hole.Carrier.roll
  least_int = form_made ExprForm-F.LeastInt (λ start h. (h, tt))

  pub truth : (b : Bool) → FormPlaced (forms.Bool b)
  unfolding Rattle.sx_tree.specs.declared.code.Else.TheViews.roll-ExprForm denote.Hole.Carrier.roll
  truth b = form_made (ExprForm-F.Bool b) (λ start h. (h, tt))

  pub self_word : FormPlaced forms.SelfWord
  unfolding Rattle.sx_tree.specs.declared.code.Else.TheViews.roll-ExprForm denote.Hole.Carrier.roll
  self_word = form_made ExprForm-F.SelfWord (λ start h. (h, tt))

  pub print_text : (n : ℕ) → FormPlaced (forms.PrintText n)
  unfolding Rattle.sx_tree.specs.declared.code.Else.TheViews.roll-ExprForm denote.Hole.Carrier.roll
  print_text n = form_made (ExprForm-F.PrintText n) (λ start h. (h, tt))

  pub named : (n : ℕ) (c : Option Closure) → IfThere (ClosurePlaced P) c → FormPlaced (forms.Named n c)
  unfolding Rattle.sx_tree.specs.declared.code.Else.TheViews.roll-ExprForm denote.Hole.Carrier.roll
  named n None k = form_made (ExprForm-F.Named n None) (λ start h. (h, tt))
  named n (Some c) (p, k) = form_made (ExprForm-F.Named n (Some c)) (λ start h. (h, (h, trailing_placed (closure_places c) k)))

  pub bracketed : (e : Expr) → ExprPlaced P e → FormPlaced (forms.Bracketed e)
  unfolding Rattle.sx_tree.specs.declared.code.Else.TheViews.roll-ExprForm denote.Hole.Carrier.roll
  bracketed e (p, k) = form_made (ExprForm-F.Bracketed e) (λ start h. (h, k))

  pub negate : (e : Expr) → ExprPlaced P e → FormPlaced (forms.Negate e)
  unfolding Rattle.sx_tree.specs.declared.code.Else.TheViews.roll-ExprForm denote.Hole.Carrier.roll
  negate e (p, k) = form_made (ExprForm-F.Negate e) (λ start h. (h, k))

  pub invert : (e : Expr) → ExprPlaced P e → FormPlaced (forms.Not e)
  unfolding Rattle.sx_tree.specs.declared.code.Else.TheViews.roll-ExprForm denote.Hole.Carrier.roll
  invert e (p, k) = form_made (ExprForm-F.Not e) (λ start h. (h, k))

  pub literal : (c : Closure) → ClosurePlaced P c → FormPlaced (forms.Closure c)
  unfolding Rattle.sx_tree.specs.declared.code.Else.TheViews.roll-ExprForm denote.Hole.Carrier.roll
  literal c (p, k) = form_made (ExprForm-F.Closure c) (λ start h. k)

  -- ---- chains
  own_links : (xs : List Places) (start : ℕ) → P start → Each P (own_of_links xs start)
  own_links [] start h = tt
  own_links (x ∷ xs) start h = (h, own_links xs start h)

  pub chain : (e : Expr) (ls : List Link) → ExprPlaced P e → Each (LinkPlaced P) ls → FormPlaced (forms.Chain e ls)
  unfolding Rattle.sx_tree.specs.declared.code.Else.TheViews.roll-ExprForm denote.Hole.Carrier.roll
  chain e ls (p, k) ks =
      form_made (ExprForm-F.Chain e ls)
      (λ start h. each_append P (own_of_links (map link_places ls) start) (expr_places e ++ all (map link_places ls)) (own_links (map link_places ls) start h)
      (each_append P (expr_places e) (all (map link_places ls)) k (each_all P (LinkPlaced P) link_places (λ l m. m) ls ks)))

  -- ---- parts behind an operand
  own_parts : (ps : List Part) (start : ℕ) → P start → Each (PartPlaced P) ps → Each P (own_of_parts (map part_nodes ps) start)
  own_parts [] start h k = tt
  own_parts (p ∷ ps) start h ((own, inner), ks) = each_append P ((part_nodes p).own start) (own_of_parts (map part_nodes ps) start) (own start h) (own_parts ps start h ks)

  inner_parts : (ps : List Part) → Each (PartPlaced P) ps → Each P (inner_of_parts (map part_nodes ps))
  inner_parts [] k = tt
  inner_parts (p ∷ ps) ((own, inner), ks) = each_append P (part_nodes p).inner (inner_of_parts (map part_nodes ps)) inner (inner_parts ps ks)

  pub postfix : (e : Expr) (ps : List Part) → ExprPlaced P e → Each (PartPlaced P) ps → FormPlaced (forms.Postfix e ps)
  unfolding Rattle.sx_tree.specs.declared.code.Else.TheViews.roll-ExprForm denote.Hole.Carrier.roll
  postfix e ps (p, k) ks =
      form_made (ExprForm-F.Postfix e ps)
      (λ start h. each_append P (own_of_parts (map part_nodes ps) start) (expr_places e ++ inner_of_parts (map part_nodes ps)) (own_parts ps start h ks)
      (each_append P (expr_places e) (inner_of_parts (map part_nodes ps)) k (inner_parts ps ks)))
