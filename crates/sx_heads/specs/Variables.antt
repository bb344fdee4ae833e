-- Globals and properties: how they are stored, and what their written types are.
use Rattle.std.specs.Prelude.{ℕ, suc, Bool, true, false, not, ◌&&◌, ◌||◌, List, [], ◌∷◌, Option, Some, None, is_none, cond}
use Rattle.std.specs.List.{list_any}
use Rattle.sx_span.specs.declared.places.Node.{Node}
use Rattle.sx_tree.specs.declared.declarations.Accessor.{Accessor}
use Rattle.sx_tree.specs.declared.declarations.AccessorKind.{AccessorKind}
use Rattle.sx_tree.specs.declared.declarations.AccessorKind.TheVariants as accessor
use Rattle.sx_tree.specs.declared.declarations.Variable.{Variable as WrittenVariable}
use Rattle.sx_tree.specs.declared.written_types.WrittenType.{WrittenType}
use Rattle.sx_types.specs.declared.types.Ty.{Ty}
use Rattle.sx_types.specs.declared.types.Ty.TheVariants as ty
use Rattle.sx_typed.specs.declared.code.Accessors.{Accessors}
use Rattle.sx_typed.specs.declared.code.Observers.{Observers}
use Rattle.sx_scope.specs.declared.declarations.Declarations.{Declarations}
use Rattle.sx_scope.specs.declared.declarations.Known.{Known}
use Rattle.sx_scope.specs.declared.declarations.Known.TheVariants as known
use Rattle.sx_scope.specs.declared.declarations.Storage.{Storage}
use Rattle.sx_scope.specs.declared.declarations.Storage.TheVariants as storage
use Rattle.sx_scope.specs.declared.declarations.Variable.{Variable}
use Rattle.sx_scope.specs.declared.declarations.VariableType.{VariableType}
use Rattle.sx_scope.specs.declared.declarations.VariableType.TheVariants as source
use Rattle.sx_scope.specs.Verdict.{Verdict, typed, untold, depends, fails}
use Rattle.sx_scope.specs.Walks.{node}
use Rattle.sx_scope.specs.WrittenTypes.{is_void, judged_type}
use Rattle.sx_heads.specs.Heads.{at}

abbrev pub same_kind : AccessorKind → AccessorKind → Bool
same_kind accessor.Get accessor.Get = true
same_kind accessor.Set accessor.Set = true
same_kind accessor.WillSet accessor.WillSet = true
same_kind accessor.DidSet accessor.DidSet = true
same_kind a b = false

abbrev pub has_kind : AccessorKind → Accessor → Bool
has_kind k a = same_kind a.kind k

-- the node of the first accessor of this kind; the nodes stand in the order of the accessors
abbrev pub accessor_node : AccessorKind → List Accessor → List Node → Option Node
accessor_node k [] ns = None
accessor_node k (a ∷ as_) [] = None
accessor_node k (a ∷ as_) (n ∷ ns) = cond (has_kind k a) (Some n) (accessor_node k as_ ns)

abbrev pub or_first : Option Node → Node
or_first None = node 0
or_first (Some n) = n

abbrev pub accessors_of : List Accessor → List Node → Accessors
accessors_of as_ ns = record { getter = or_first (accessor_node accessor.Get as_ ns); setter = accessor_node accessor.Set as_ ns }

abbrev pub observers_of : List Accessor → List Node → Observers
observers_of as_ ns = record { will_set = accessor_node accessor.WillSet as_ ns; did_set = accessor_node accessor.DidSet as_ ns }

-- it has a getter, and no place of its own
abbrev pub is_computed : List Accessor → Bool
is_computed as_ = list_any (has_kind accessor.Get) as_

abbrev pub observes : Accessor → Bool
observes a = has_kind accessor.WillSet a || has_kind accessor.DidSet a

abbrev pub is_observed : List Accessor → Bool
is_observed as_ = list_any observes as_

-- how it is stored, with this number among what is stored beside it
abbrev pub storage_of : ℕ → WrittenVariable → List Node → Storage
storage_of k v ns =
    cond (is_computed v.accessors) (storage.Computed (accessors_of v.accessors ns))
    (cond (is_observed v.accessors) (storage.Observed k (observers_of v.accessors ns))
    (cond v.constant (storage.Constant k) (storage.Stored k)))

abbrev pub is_class : Option Ty → Bool
is_class (Some (ty.Class k)) = true
is_class o = false

-- a stored property of a class has an initial value
abbrev pub lacks_value : Option Ty → WrittenVariable → Bool
lacks_value owner v = is_class owner && not (is_computed v.accessors) && is_none v.value

abbrev pub known_unless : Bool → Ty → Known
known_unless failed t = cond (failed || is_void t) known.Failed (known.Type t)

abbrev pub known_by : Bool → Verdict Ty → Known
known_by failed (typed t w) = known_unless failed t
known_by failed (untold w) = known.Failed
known_by failed (depends w) = known.Failed
known_by failed (fails f fs w) = known.Failed

-- the type that is written of the variable at node n, or the number of the one that its initial value gives
abbrev pub type_by : Declarations → Option Ty → Node → ℕ → WrittenVariable → Option WrittenType → VariableType
type_by d owner n given v None = source.Given given
type_by d owner n given v (Some t) = source.Written (known_by (lacks_value owner v) (judged_type d t (at (suc n.0))))

-- the variable at node n: `stored` and `given` are the numbers that it has among what is stored and given
abbrev pub variable : Declarations → Option Ty → Node → List Node → ℕ → ℕ → WrittenVariable → Variable
variable d owner n ns stored given v = record { node = n; ty = type_by d owner n given v v.ty; storage = storage_of stored v ns }
