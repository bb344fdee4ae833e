-- The signature of a closure literal takes as many nodes as it has places.
use Rattle.std.proofs.Common.{◌≡◌, suc, ◌+◌, List, [], ◌∷◌, ◌++◌, map, length, length-append, Option, Some, None, option_map, refl, ap, arith}
use Rattle.sx_tree.specs.declared.written_types.ClosureParameter.{ClosureParameter}
use Rattle.sx_tree.specs.declared.written_types.Name.{Name}
use Rattle.sx_tree.specs.declared.written_types.Signature.{Signature}
use Rattle.sx_tree.specs.declared.written_types.Signature.TheVariants as signatures
use Rattle.sx_tree.specs.declared.written_types.WrittenType.{WrittenType}
use Rattle.sx_tree.specs.Nodes as nodes
use Rattle.sx_tree.specs.Nodes.{Places}
use Rattle.sx_scope.specs.declared.declarations.Declarations.{Declarations}
use Rattle.sx_scope.specs.WrittenTypes.{judged_type}
use Rattle.sx_bodies.specs.Literals.{name_number, typed_name, judged_signature}
use Rattle.sx_order.proofs.WrittenTypes.{judged_type-takes}
use Rattle.sx_order_code.specs.Signatures.{SpanTypedNames, SpansWritten, SpansSignature}

-- a name has one place
pub names-length : (ns : List Name) → length (nodes.all (map nodes.name_places ns)) ≡ length (map name_number ns)
names-length [] = refl
names-length (n ∷ ns) = ap suc (names-length ns)

module _ (d : Declarations) where
  pub typed_names-span : (ps : List ClosureParameter) → SpanTypedNames (length (nodes.all (map nodes.closure_parameter_places ps))) (map (typed_name d) ps)
  typed_names-span [] = refl
  typed_names-span (p ∷ ps) =
      let here : Places = nodes.type_places p.ty in
      let others : Places = nodes.all (map nodes.closure_parameter_places ps) in
      let sum : length (here ++ others) ≡ length here + length others = length-append here others in
      (length here, length others, omega (arith, sum), judged_type-takes d p.ty, typed_names-span ps)

  pub written-spans : (r : Option WrittenType) → SpansWritten (length (nodes.option_places nodes.type_places r)) (option_map (judged_type d) r)
  written-spans None = refl
  written-spans (Some t) = judged_type-takes d t

  pub signature-spans : (s : Signature) → SpansSignature (length (nodes.signature_places s)) (judged_signature d s)
  signature-spans signatures.Absent = (0, 0, refl, refl, refl)
  signature-spans (signatures.Names ns) = (length (map name_number ns), 0, omega (arith, names-length ns), refl, refl)
  signature-spans (signatures.Typed ps r) =
      let before : Places = nodes.all (map nodes.closure_parameter_places ps) in
      let behind : Places = nodes.option_places nodes.type_places r in
      (length before, length behind, length-append before behind, typed_names-span ps, written-spans r)
