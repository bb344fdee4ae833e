-- What a call is, by what is called, where each argument is passed (The Swift Programming Language, "Functions", "Methods",
-- "Initialization").
use Rattle.std.specs.Prelude.{◌≡◌, ℕ, true, false, not, ◌||◌, Some, slice_get}
use Rattle.sx_span.specs.declared.places.Node.{Node}
use Rattle.sx_types.specs.declared.types.FunctionType.{FunctionType}
use Rattle.sx_types.specs.declared.types.Ty.{Ty}
use Rattle.sx_types.specs.declared.types.Ty.TheVariants as ty
use Rattle.sx_typed.specs.declared.code.Expr.{Expr as TypedExpr}
use Rattle.sx_typed.specs.declared.code.Form.TheVariants as typed_forms
use Rattle.sx_scope.specs.declared.declarations.Declarations.{Declarations}
use Rattle.sx_scope.specs.declared.declarations.DeclaredType.{DeclaredType}
use Rattle.sx_scope.specs.declared.declarations.Signature.{Signature}
use Rattle.sx_scope.specs.declared.walk.Asked.{Asked}
use Rattle.sx_scope.specs.declared.walk.Callee.{Callee}
use Rattle.sx_scope.specs.declared.walk.Callee.TheVariants as callee
use Rattle.sx_scope.specs.Names.{agrees, declared_type, function}
use Rattle.sx_scope.specs.Paths.{an_expr, modifiable}
use Rattle.sx_calls.specs.declared.passed.Passed.{Passed}
use Rattle.sx_calls.specs.Calls.{has_failed, method_expr}

-- the call of this, at node `n`, with what was passed, where this is asked of it
pub data CallIs (d : Declarations) (q : Asked) (n : Node) (site : ℕ) : Callee → Passed → TypedExpr → Type 0 where
  -- The call of a function has the type of its result.
  of_function : (k : ℕ) (s : Signature) (a : Passed) →
      function d k ≡ Some s →
      agrees q s.result ≡ true →
      CallIs d q n site (callee.Function k) a (an_expr n site s.result (typed_forms.Call s.node a.arguments))
  -- So does that of a method; one that mutates is called on what can be modified.
  of_method : (k : ℕ) (base : TypedExpr) (s : Signature) (a : Passed) →
      function d k ≡ Some s →
      agrees q s.result ≡ true →
      (not s.mutating || modifiable base) ≡ true →
      CallIs d q n site (callee.Method k base) a (method_expr n site base a.arguments s)
  -- And that of a value of a function type.
  of_value : (e : TypedExpr) (k : ℕ) (f : FunctionType) (a : Passed) →
      slice_get d.types.functions k ≡ Some f →
      agrees q f.result ≡ true →
      CallIs d q n site (callee.Value e k) a (an_expr n site f.result (typed_forms.CallValue e a.arguments))
  -- The call of an initialiser has the type that it makes, none of whose declarations has failed.
  of_initialiser : (t : Ty) (s : DeclaredType) (a : Passed) →
      declared_type d t ≡ Some s →
      has_failed d s ≡ false →
      agrees q t ≡ true →
      CallIs d q n site (callee.Initialiser t) a (an_expr n site t (typed_forms.Initialise t a.given))
  -- `print` gives no value.
  of_print : (x : TypedExpr) (a : Passed) →
      a.printed ≡ Some x →
      agrees q ty.Void ≡ true →
      CallIs d q n site callee.Print a (an_expr n site ty.Void (typed_forms.Print x))
