-- Declarations made of parts whose places have a property.
use Rattle.std.proofs.Common.{ℕ, List, ◌++◌, map, Option, Some, None}
use Rattle.sx_tree.specs.declared.declarations.Accessor.{Accessor}
use Rattle.sx_tree.specs.declared.declarations.Function.{Function}
use Rattle.sx_tree.specs.declared.declarations.Parameter.{Parameter}
use Rattle.sx_tree.specs.declared.declarations.Subscript.{Subscript}
use Rattle.sx_tree.specs.declared.declarations.TypeDeclaration.{TypeDeclaration}
use Rattle.sx_tree.specs.declared.declarations.Variable.{Variable}
use Rattle.sx_tree.specs.declared.nodes.FaultOf.{FaultOf}
use Rattle.sx_tree.specs.declared.nodes.FaultOf.TheVariants as faults
use Rattle.sx_tree.specs.declared.written_types.Name.{Name}
use Rattle.sx_tree.specs.declared.written_types.WrittenType.{WrittenType}
use Rattle.sx_tree.specs.Nodes.{Places, accessor_place, accessor_places, all, block_places, expr_places, function_places, member_places, name_or, option_places, parameter_places, subscript_places, type_declaration_places, type_places, variable_places}
use Rattle.sx_tree_places.proofs.Each.{Each, IfThere, each_all, each_append, each_option}
use Rattle.sx_tree_places.proofs.Placed.{AccessorPlaced, BlockPlaced, ExprPlaced, MemberPlaced, NamePlaced, ParameterPlaced, TypePlaced}

module _ (P : ℕ → Type 0) where
  types_placed : (t : Option WrittenType) → IfThere (TypePlaced P) t → Each P (option_places type_places t)
  types_placed t h = each_option P (TypePlaced P) type_places (λ u k. k.1) t h

  parameters_placed : (ps : List Parameter) → Each (ParameterPlaced P) ps → Each P (all (map parameter_places ps))
  parameters_placed ps h = each_all P (ParameterPlaced P) parameter_places (λ p k. (k.0, k.1.1)) ps h

  pub function_placed : (f : Function) → NamePlaced P f.name → Each (ParameterPlaced P) f.parameters → IfThere (TypePlaced P) f.result → BlockPlaced P f.body → Each P (function_places f)
  function_placed f h ps r b = (
    h,
    each_append P (all (map parameter_places f.parameters)) (option_places type_places f.result ++ block_places f.body) (parameters_placed f.parameters ps)
        (each_append P (option_places type_places f.result) (block_places f.body) (types_placed f.result r) b.1),
  )

  module _ (of : FaultOf) where
    name_or_placed : (place : ℕ) (o : Option Name) → P place → IfThere (NamePlaced P) o → P (name_or place o)
    name_or_placed place None h k = h
    name_or_placed place (Some n) h k = k

    place_placed : (kind : FaultOf) (place : ℕ) (a : Accessor) → P place → AccessorPlaced P a → P (accessor_place kind place a)
    place_placed faults.Accessor place a h k = h
    place_placed faults.Parameter place a h k = name_or_placed place a.parameter h k.0

    accessors_placed : (place : ℕ) (xs : List Accessor) → P place → Each (AccessorPlaced P) xs → Each P (all (map (accessor_places of place) xs))
    accessors_placed place xs h ks = each_all P (AccessorPlaced P) (accessor_places of place) (λ a k. (place_placed of place a h k, k.1)) xs ks

    pub variable_placed : (v : Variable) → NamePlaced P v.name → IfThere (TypePlaced P) v.ty → IfThere (ExprPlaced P) v.value → Each (AccessorPlaced P) v.accessors → Each P (variable_places of v)
    variable_placed v h t e xs =
        let behind : Places = all (map (accessor_places of v.name.span.start) v.accessors) in (
          h,
          each_append P (option_places type_places v.ty) (option_places expr_places v.value ++ behind) (types_placed v.ty t)
              (each_append P (option_places expr_places v.value) behind (each_option P (ExprPlaced P) expr_places (λ d k. k.1) v.value e) (accessors_placed v.name.span.start v.accessors h xs)),
        )

    pub subscript_placed : (s : Subscript) → P s.span.start → Each (ParameterPlaced P) s.parameters → TypePlaced P s.result → Each (AccessorPlaced P) s.accessors → Each P (subscript_places of s)
    subscript_placed s h ps r xs =
        let behind : Places = all (map (accessor_places of s.span.start) s.accessors) in (
          h,
          each_append P (all (map parameter_places s.parameters)) (type_places s.result ++ behind) (parameters_placed s.parameters ps)
              (each_append P (type_places s.result) behind r.1 (accessors_placed s.span.start s.accessors h xs)),
        )

    pub declaration_placed : (t : TypeDeclaration) → NamePlaced P t.name → Each (MemberPlaced P) t.members → Each P (type_declaration_places of t)
    declaration_placed t h ms = (h, each_all P (MemberPlaced P) (member_places of) (λ m k. k of) t.members ms)
