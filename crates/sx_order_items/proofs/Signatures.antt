-- A visit of the signature of a closure literal counts as many nodes as it has places.
use Rattle.std.proofs.Common.{◌≡◌, ℕ, List, [], ◌∷◌, Option, length, length-append, map, refl, arith}
use Rattle.sx_types.specs.declared.types.Ty.{Ty}
use Rattle.sx_types.specs.declared.types.Ty.TheVariants as ty
use Rattle.sx_tree.specs.declared.written_types.ClosureParameter.{ClosureParameter}
use Rattle.sx_tree.specs.declared.written_types.Name.{Name}
use Rattle.sx_tree.specs.declared.written_types.Signature.{Signature}
use Rattle.sx_tree.specs.declared.written_types.Signature.TheVariants as signatures
use Rattle.sx_tree.specs.Nodes.{all, closure_parameter_places, name_places, option_places, signature_places, type_places}
use Rattle.sx_outline.specs.Visit.{counted, closure_parameter_visit, signature_visit, type_or, type_visit}
use Rattle.sx_order_items.specs.Counts.{Counts, Finds}
use Rattle.sx_order_items.proofs.TypeVisits.{type_or-finds, type_visit-finds}
use Rattle.sx_order_items.proofs.Visits.{all-find, function_of-finds, passed-next}

pub names-length : (ns : List Name) → length (all (map name_places ns)) ≡ length ns
names-length [] = refl
names-length (n ∷ ns) = let rest : length (all (map name_places ns)) ≡ length ns = names-length ns in omega (arith, rest)

module _ (names : ℕ → Option Ty) where
  pub closure_parameter-finds : (p : ClosureParameter) → Finds (length (closure_parameter_places p)) (closure_parameter_visit names p)
  closure_parameter-finds p v = omega (arith, passed-next p.inout (type_visit names p.ty (counted 1 v)), type_visit-finds names p.ty (counted 1 v))

  pub signature_visit-counts : (s : Signature) → Counts (length (signature_places s)) (signature_visit names s)
  signature_visit-counts signatures.Absent v = omega arith
  signature_visit-counts (signatures.Names ns) v = omega (arith, names-length ns)
  signature_visit-counts (signatures.Typed ps r) v =
      let before : List ℕ = all (map closure_parameter_places ps) in
      let behind : List ℕ = option_places type_places r in
      omega (
        arith,
        length-append before behind,
        function_of-finds (map (closure_parameter_visit names) ps) (type_or names ty.Void r) (length before) (length behind) (all-find closure_parameter_places (closure_parameter_visit names) closure_parameter-finds ps) (type_or-finds names ty.Void r) v,
      )
