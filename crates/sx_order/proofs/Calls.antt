-- What is called, with its arguments: it fails where the call stands.
use Rattle.std.proofs.Common.{◌≡◌, ℕ, ◌+◌, ◌≤◌, Bool, List, Option, Some, None, slice_get, refl, arith, suc}
use Rattle.sx_span.specs.declared.places.Node.{Node}
use Rattle.sx_types.specs.declared.types.FunctionType.{FunctionType}
use Rattle.sx_types.specs.declared.types.Ty.{Ty}
use Rattle.sx_types.specs.declared.types.Ty.TheVariants as ty
use Rattle.sx_typed.specs.declared.code.Argument.{Argument}
use Rattle.sx_typed.specs.declared.code.Expr.{Expr}
use Rattle.sx_typed.specs.declared.code.Form.{Form}
use Rattle.sx_typed.specs.declared.code.Form.TheVariants as forms
use Rattle.sx_typed.specs.declared.code.Given.{Given}
use Rattle.sx_scope.specs.declared.stop.TypeKind.TheVariants as kind
use Rattle.sx_scope.specs.declared.declarations.Declarations.{Declarations}
use Rattle.sx_scope.specs.declared.declarations.DeclaredType.{DeclaredType}
use Rattle.sx_scope.specs.declared.declarations.Signature.{Signature}
use Rattle.sx_scope.specs.declared.walk.Asked.{Asked}
use Rattle.sx_scope.specs.declared.walk.Callee.{Callee}
use Rattle.sx_scope.specs.declared.walk.Callee.TheVariants as callee
use Rattle.sx_scope.specs.declared.walk.Place.{Place}
use Rattle.sx_scope.specs.declared.walk.Walk.{Walk}
use Rattle.sx_scope.specs.Verdict.{Verdict, typed, depends, both, fault}
use Rattle.sx_scope.specs.Walks.{numbered}
use Rattle.sx_scope.specs.Names.{called_name, agrees, declared_type, function}
use Rattle.sx_scope.specs.Paths.{an_expr}
use Rattle.sx_calls.specs.declared.passed.Pairing.{Pairing}
use Rattle.sx_calls.specs.declared.passed.Passed.{Passed}
use Rattle.sx_calls.specs.Parts.{JudgedArgument}
use Rattle.sx_calls.specs.Calls.{nothing_passed, run_arguments, has_failed, broken_call, call_expr, function_called, broken_method, method_expr, method_called, value_called, initialised, print_called, pairing, called, shapes, run_call, callee_in, call_value}
use Rattle.sx_order.specs.Order.{Lies, Start, since, Spans, Stays, Anything, IsAt, Takes, Anywhere, Within}
use Rattle.sx_order.specs.Parts.{SpanArguments}
use Rattle.sx_order.proofs.Spans.{▷-spans, both-spans, fault-stays, typed-first, typed-stays, depends-stays, need-stays, unless_broken-stays, cond-stays, numbered-takes, leaf-takes, at-within, earlier}
use Rattle.sx_order.proofs.Callees.{called_name-stays}
use Rattle.sx_order.proofs.Arguments.{run_arguments-spans}

pub call_expr-stays : {lo hi : ℕ} (q : Asked) (n : Node) (site : ℕ) (counted : Bool) (t : Ty) (f : Form) → Lies lo hi n → Stays lo hi (IsAt n) (call_expr q n site counted t f)
call_expr-stays q n site counted t f i =
    let e : Expr = an_expr n site t f in
    unless_broken-stays (broken_call q counted t) n (typed e) i (typed-stays e refl)

pub function_called-stays : {lo hi : ℕ} (q : Asked) (n : Node) (site : ℕ) (counted : Bool) (as_ : List Argument) (o : Option Signature) → Lies lo hi n → Stays lo hi (IsAt n) (function_called q n site counted as_ o)
function_called-stays q n site counted as_ None i = depends-stays
function_called-stays q n site counted as_ (Some s) i = call_expr-stays q n site counted s.result (forms.Call s.node as_) i

pub method_called-stays : {lo hi : ℕ} (q : Asked) (n : Node) (site : ℕ) (counted : Bool) (base : Expr) (as_ : List Argument) (o : Option Signature) → Lies lo hi n → Stays lo hi (IsAt n) (method_called q n site counted base as_ o)
method_called-stays q n site counted base as_ None i = depends-stays
method_called-stays q n site counted base as_ (Some s) i =
    let e : Expr = method_expr n site base as_ s in
    unless_broken-stays (broken_method q counted base s) n (typed e) i (typed-stays e refl)

pub value_called-stays : {lo hi : ℕ} (q : Asked) (n : Node) (site : ℕ) (counted : Bool) (e : Expr) (as_ : List Argument) (o : Option FunctionType) → Lies lo hi n → Stays lo hi (IsAt n) (value_called q n site counted e as_ o)
value_called-stays q n site counted e as_ None i = depends-stays
value_called-stays q n site counted e as_ (Some f) i = call_expr-stays q n site counted f.result (forms.CallValue e as_) i

pub initialised-stays : {lo hi : ℕ} (d : Declarations) (q : Asked) (n : Node) (site : ℕ) (counted : Bool) (t : Ty) (gs : List Given) (o : Option DeclaredType) → Lies lo hi n → Stays lo hi (IsAt n) (initialised d q n site counted t gs o)
initialised-stays d q n site counted t gs None i = depends-stays
initialised-stays d q n site counted t gs (Some s) i =
    cond-stays (has_failed d s) depends (call_expr q n site counted t (forms.Initialise t gs)) depends-stays (call_expr-stays q n site counted t (forms.Initialise t gs) i)

pub print_called-stays : {lo hi : ℕ} (q : Asked) (n : Node) (site : ℕ) (counted : Bool) (o : Option Expr) → Lies lo hi n → Stays lo hi (IsAt n) (print_called q n site counted o)
print_called-stays q n site counted None i =
    need-stays (agrees q ty.Void) kind.Mismatch n (fault kind.ArgumentCount n) i (fault-stays kind.ArgumentCount n i)
print_called-stays q n site counted (Some e) i = call_expr-stays q n site counted ty.Void (forms.Print e) i

module _ (d : Declarations) where
  pub called-stays : {lo hi : ℕ} (q : Asked) (n : Node) (site : ℕ) (counted : Bool) (c : Callee) (a : Passed) → Lies lo hi n → Stays lo hi (IsAt n) (called d q n site counted (c, a))
  called-stays q n site counted (callee.Function k) a i = function_called-stays q n site counted a.arguments (function d k) i
  called-stays q n site counted (callee.Method k base) a i = method_called-stays q n site counted base a.arguments (function d k) i
  called-stays q n site counted (callee.Value e f) a i = value_called-stays q n site counted e a.arguments (slice_get d.types.functions f) i
  called-stays q n site counted (callee.Initialiser t) a i = initialised-stays d q n site counted t a.given (declared_type d t) i
  called-stays q n site counted callee.Print a i = print_called-stays q n site counted a.printed i

  pub run_call-spans : {old : Start} (p : Place) (q : Asked) (n : Node) (site : ℕ) (args : List JudgedArgument) (k lo mid hi : ℕ) (v : Verdict Callee) (pairs : Pairing) → lo ≤ mid → hi ≡ k + mid → Lies lo hi n →
      Spans old lo mid Anything v → SpanArguments k args → Spans old lo hi (IsAt n) (run_call d p q n site args v pairs)
  run_call-spans p q n site args k lo mid hi v pairs a s i h t =
      let arguments : (w : Walk) → w.next ≡ mid → Spans (since w) mid hi Anything (run_arguments p (typed nothing_passed w) pairs.slots args) =
      λ w e. run_arguments-spans p args pairs.slots k mid mid hi (typed nothing_passed w) (omega arith) s (typed-first nothing_passed w e tt) t in
      ▷-spans (both v (λ w. run_arguments p (typed nothing_passed w) pairs.slots args)) (called d q n site pairs.counted)
      (both-spans v (λ w. run_arguments p (typed nothing_passed w) pairs.slots args) a (omega (arith, s)) h arguments)
      (λ x _. called-stays q n site pairs.counted x.0 x.1 i)

  -- a call takes the nodes of its arguments, behind those of what is called
  pub call_value-spans : {old : Start} (p : Place) (q : Asked) (n : Node) (site : ℕ) (args : List JudgedArgument) (k lo mid hi : ℕ) (v : Verdict Callee) → lo ≤ mid → hi ≡ k + mid → Lies lo hi n →
      Spans old lo mid Anything v → SpanArguments k args → Spans old lo hi (IsAt n) (call_value d p q n site args v)
  call_value-spans p q n site args k lo mid hi v a s i h t = run_call-spans p q n site args k lo mid hi v (pairing d (callee_in d v) (shapes d args)) a s i h t

  -- a name that is called with its arguments behind it: the call, the name and the arguments
  pub named_call-takes : (p : Place) (q : Asked) (site x : ℕ) (args : List JudgedArgument) (k : ℕ) → SpanArguments k args →
      Takes (suc (k + 1)) Within (numbered (λ n w. call_value d p q n site args (numbered (λ m. called_name d p m site x) w)))
  named_call-takes p q site x args k t =
      numbered-takes Within (k + 1) (λ n w. call_value d p q n site args (numbered (λ m. called_name d p m site x) w))
      (λ lo hi n at sum w e.
      let callee : Spans (since w) (suc lo) (1 + suc lo) Anything (numbered (λ m. called_name d p m site x) w) =
      leaf-takes Anywhere (λ m. called_name d p m site x) (λ here m is. called_name-stays d p m site x (omega (arith, is), omega (arith, is))) (suc lo) w e in
      let v : Verdict Callee = numbered (λ m. called_name d p m site x) w in
      let i : Lies lo hi n = (omega (arith, at), omega (arith, at, sum)) in
      at-within n (call_value d p q n site args v) i
      (call_value-spans p q n site args k lo (1 + suc lo) hi v (omega arith) (omega (arith, sum)) i (earlier lo v (omega arith) callee) t))
