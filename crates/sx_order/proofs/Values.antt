-- The node of what a name or a member means.
use Rattle.std.proofs.Common.{ℕ, Bool, true, false, cond, refl}
use Rattle.sx_span.specs.declared.places.Node.{Node}
use Rattle.sx_types.specs.declared.types.Ty.{Ty}
use Rattle.sx_types.specs.declared.types.Ty.TheVariants as ty
use Rattle.sx_typed.specs.declared.code.Accessors.{Accessors}
use Rattle.sx_typed.specs.declared.code.Expr.{Expr}
use Rattle.std.specs.Prelude.{List}
use Rattle.sx_scope.specs.declared.declarations.Declarations.{Declarations}
use Rattle.sx_scope.specs.declared.declarations.Storage.{Storage}
use Rattle.sx_scope.specs.declared.declarations.Storage.TheVariants as storage
use Rattle.sx_scope.specs.declared.walk.LocalKind.{LocalKind}
use Rattle.sx_scope.specs.declared.walk.LocalKind.TheVariants as local_kind
use Rattle.sx_scope.specs.declared.walk.SelfValue.{SelfValue}
use Rattle.sx_scope.specs.Names.{local_expr, self_expr}
use Rattle.sx_scope.specs.Paths.{property_by, property_of, subscript_by, subscript_of, global_of}
use Rattle.sx_order.specs.Order.{IsAt}

pub cond-at : (n : Node) (b : Bool) (x y : Expr) → IsAt n x → IsAt n y → IsAt n (cond b x y)
cond-at n true x y h k = h
cond-at n false x y h k = k

pub local_expr-at : (k : LocalKind) (n : Node) (site : ℕ) (t : Ty) (d : Node) → IsAt n (local_expr k n site t d)
local_expr-at local_kind.Constant n site t d = refl
local_expr-at local_kind.Variable n site t d = refl
local_expr-at local_kind.InOut n site t d = refl

pub self_expr-at : (d : Declarations) (n : Node) (site : ℕ) (s : SelfValue) → IsAt n (self_expr d n site s)
self_expr-at d n site s = cond-at n s.mutable _ _ refl refl

pub property_by-at : (b : Ty) (n : Node) (site : ℕ) (t : Ty) (plain : Bool) (base : Expr) (s : Storage) → IsAt n (property_by b n site t plain base s)
property_by-at (ty.Class k) n site t plain base s = refl
property_by-at ty.Int n site t plain base s = refl
property_by-at ty.Bool n site t plain base s = refl
property_by-at ty.Void n site t plain base s = refl
property_by-at ty.Array n site t plain base s = refl
property_by-at (ty.Struct k) n site t plain base s = refl
property_by-at (ty.Func k) n site t plain base s = refl

pub property_of-at : (n : Node) (site : ℕ) (t : Ty) (plain : Bool) (base : Expr) (s : Storage) → IsAt n (property_of n site t plain base s)
property_of-at n site t plain base s = property_by-at base.ty n site t plain base s

pub subscript_by-at : (b : Ty) (n : Node) (site : ℕ) (t : Ty) (base : Expr) (is : List Expr) (a : Accessors) → IsAt n (subscript_by b n site t base is a)
subscript_by-at (ty.Class k) n site t base is a = refl
subscript_by-at ty.Int n site t base is a = refl
subscript_by-at ty.Bool n site t base is a = refl
subscript_by-at ty.Void n site t base is a = refl
subscript_by-at ty.Array n site t base is a = refl
subscript_by-at (ty.Struct k) n site t base is a = refl
subscript_by-at (ty.Func k) n site t base is a = refl

pub subscript_of-at : (n : Node) (site : ℕ) (t : Ty) (base : Expr) (is : List Expr) (a : Accessors) → IsAt n (subscript_of n site t base is a)
subscript_of-at n site t base is a = subscript_by-at base.ty n site t base is a

pub global_of-at : (n : Node) (site : ℕ) (t : Ty) (plain : Bool) (s : Storage) → IsAt n (global_of n site t plain s)
global_of-at n site t plain (storage.Constant g) = refl
global_of-at n site t plain (storage.Stored g) = refl
global_of-at n site t true (storage.Observed g o) = refl
global_of-at n site t false (storage.Observed g o) = refl
global_of-at n site t plain (storage.Computed a) = refl
