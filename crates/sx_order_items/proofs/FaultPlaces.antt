-- How many nodes there are doesn't hang on whose faults they are placed for.
use Rattle.std.proofs.Common.{◌≡◌, ℕ, List, [], ◌∷◌, ◌++◌, length, length-append, map, refl, arith}
use Rattle.sx_tree.specs.declared.declarations.Accessor.{Accessor}
use Rattle.sx_tree.specs.declared.declarations.Item.{Item}
use Rattle.sx_tree.specs.declared.declarations.Item.TheVariants as items
use Rattle.sx_tree.specs.declared.declarations.Member.{Member}
use Rattle.sx_tree.specs.declared.declarations.Member.TheVariants as members
use Rattle.sx_tree.specs.declared.declarations.Subscript.{Subscript}
use Rattle.sx_tree.specs.declared.declarations.Variable.{Variable}
use Rattle.sx_tree.specs.declared.nodes.FaultOf.{FaultOf}
use Rattle.sx_tree.specs.Nodes.{Places, accessor_places, all, all_parameter_places, all_places, expr_places, item_places, member_places, option_places, parameter_places, places_of_items, subscript_places, type_places, variable_places}
use Rattle.sx_tree.specs.declared.nodes.FaultOf.TheVariants as faults

pub all-alike : {X : Type 0} (f g : X → Places) → ((x : X) → length (f x) ≡ length (g x)) → (xs : List X) → length (all (map f xs)) ≡ length (all (map g xs))
all-alike f g h [] = refl
all-alike f g h (x ∷ xs) = omega (arith, length-append (f x) (all (map f xs)), length-append (g x) (all (map g xs)), h x, all-alike f g h xs)

-- behind others
pub behind-alike : (ps qs rs : Places) → length qs ≡ length rs → length (ps ++ qs) ≡ length (ps ++ rs)
behind-alike ps qs rs h = omega (arith, length-append ps qs, length-append ps rs, h)

module _ (a b : FaultOf) where
  pub accessors-alike : (place : ℕ) (as_ : List Accessor) → length (all (map (accessor_places a place) as_)) ≡ length (all (map (accessor_places b place) as_))
  accessors-alike place as_ = all-alike (accessor_places a place) (accessor_places b place) (λ x. refl) as_

  pub variable-alike : (v : Variable) → length (variable_places a v) ≡ length (variable_places b v)
  variable-alike v =
      let as_ : List ℕ = all (map (accessor_places a v.name.span.start) v.accessors) in
      let bs : List ℕ = all (map (accessor_places b v.name.span.start) v.accessors) in
      let values : List ℕ = option_places expr_places v.value in
      let behind : length (option_places type_places v.ty ++ (values ++ as_)) ≡ length (option_places type_places v.ty ++ (values ++ bs)) =
      behind-alike (option_places type_places v.ty) (values ++ as_) (values ++ bs) (behind-alike values as_ bs (accessors-alike v.name.span.start v.accessors)) in
      omega (arith, behind)

  pub subscript-alike : (s : Subscript) → length (subscript_places a s) ≡ length (subscript_places b s)
  subscript-alike s =
      let as_ : List ℕ = all (map (accessor_places a s.span.start) s.accessors) in
      let bs : List ℕ = all (map (accessor_places b s.span.start) s.accessors) in
      let results : List ℕ = type_places s.result in
      let behind : length (all (map parameter_places s.parameters) ++ (results ++ as_)) ≡ length (all (map parameter_places s.parameters) ++ (results ++ bs)) =
      behind-alike (all (map parameter_places s.parameters)) (results ++ as_) (results ++ bs) (behind-alike results as_ bs (accessors-alike s.span.start s.accessors)) in
      omega (arith, behind)

  pub member-alike : (m : Member) → length (member_places a m) ≡ length (member_places b m)
  member-alike (members.Property v) = variable-alike v
  member-alike (members.Method f) = refl
  member-alike (members.Subscript s) = subscript-alike s
  member-alike (members.Initialiser i) = refl

  pub item-alike : (i : Item) → length (item_places a i) ≡ length (item_places b i)
  item-alike (items.Function f) = refl
  item-alike (items.Type t) = let inner = all-alike (member_places a) (member_places b) member-alike t.members in omega (arith, inner)
  item-alike (items.Global v) = variable-alike v
  item-alike (items.Statement s) = refl

  pub items-alike : (is : List Item) → length (places_of_items a is) ≡ length (places_of_items b is)
  items-alike is = all-alike (item_places a) (item_places b) item-alike is

pub parameter_places-length : (is : List Item) → length (all_parameter_places is) ≡ length (all_places is)
parameter_places-length is = items-alike faults.Parameter faults.Accessor is
