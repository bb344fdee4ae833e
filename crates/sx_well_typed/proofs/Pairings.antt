-- The arguments of a call that is typed are each for something: none is judged by itself.
use Rattle.std.proofs.Common.{◌≡◌, ℕ, suc, ◌+◌, Bool, true, false, ◌==◌, List, [], ◌∷◌, map, length, slice_get, Option, Some, None, cond, refl, sym, ap, arith, true≢false}
use Rattle.std.proofs.lemmas.Bool.{eqb-true}
use Rattle.sx_span.specs.declared.places.Node.{Node}
use Rattle.sx_types.specs.declared.types.FunctionParameter.{FunctionParameter}
use Rattle.sx_types.specs.declared.types.FunctionType.{FunctionType}
use Rattle.sx_types.specs.declared.types.Ty.{Ty}
use Rattle.sx_types.specs.declared.types.Ty.TheVariants as ty
use Rattle.sx_typed.specs.declared.code.Expr.{Expr}
use Rattle.sx_typed.specs.declared.code.Form.{Form}
use Rattle.sx_scope.specs.declared.declarations.Declarations.{Declarations}
use Rattle.sx_scope.specs.declared.declarations.DeclaredType.{DeclaredType}
use Rattle.sx_scope.specs.declared.declarations.Known.{Known}
use Rattle.sx_scope.specs.declared.declarations.Known.TheVariants as known
use Rattle.sx_scope.specs.declared.declarations.Signature.{Signature}
use Rattle.sx_scope.specs.declared.declarations.SignatureParameter.{SignatureParameter}
use Rattle.sx_scope.specs.declared.declarations.StoredProperty.{StoredProperty}
use Rattle.sx_scope.specs.declared.stop.TypeKind.{TypeKind}
use Rattle.sx_scope.specs.declared.stop.TypeKind.TheVariants as kind
use Rattle.sx_scope.specs.declared.walk.Asked.{Asked}
use Rattle.sx_scope.specs.declared.walk.Callee.{Callee}
use Rattle.sx_scope.specs.declared.walk.Callee.TheVariants as callee
use Rattle.sx_scope.specs.declared.walk.Walk.{Walk}
use Rattle.sx_scope.specs.Verdict.{typed, depends, fault}
use Rattle.sx_scope.specs.Names.{agrees, declared_type, function, known_in}
use Rattle.sx_scope.specs.Paths.{an_expr}
use Rattle.sx_calls.specs.declared.passed.Passed.{Passed}
use Rattle.sx_calls.specs.declared.passed.Shape.{Shape}
use Rattle.sx_calls.specs.declared.passed.Slot.{Slot}
use Rattle.sx_calls.specs.declared.passed.Slot.TheVariants as slots
use Rattle.sx_calls.specs.Calls.{as_many, broken_call, broken_method, call_expr, called, coming, first_broken, for_function, for_function_parameter, for_parameter, for_signature, function_called, function_parameters_of, given_from, given_to, given_to_type, has_failed, initialised, left_out, method_called, method_expr, number_behind, paired, pairing, parameters_of, print_called, print_pairing, property_slot, slot_at, slot_for, stored_in, unpaired, value_called}
use Rattle.sx_well_typed.proofs.Verdicts.{not-typed, need-inverted, unless_broken-inverted}

-- it is for nothing
abbrev pub is_blank : Slot → Bool
is_blank slots.Loose = true
is_blank s = false

-- there is a slot for each argument
abbrev pub Meet : List Slot → List Shape → Type 0
Meet ss [] = Unit {0}
Meet [] (a ∷ as_) = ⊥
Meet (s ∷ ss) (a ∷ as_) = (is_blank s ≡ false) × Meet ss as_

-- ---- parameters
parameters-meet : (ps : List SignatureParameter) (as_ : List Shape) → length ps ≡ length as_ → Meet (map for_parameter ps) as_
parameters-meet ps [] h = tt
parameters-meet [] (a ∷ as_) h = absurd (not-none h)
  where
    not-none : {n : ℕ} → 0 ≡ suc n → ⊥
    not-none e = omega (arith, e)
parameters-meet (p ∷ ps) (a ∷ as_) h = (refl, parameters-meet ps as_ (omega (arith, h)))

function_parameters-meet : (ps : List FunctionParameter) (as_ : List Shape) → length ps ≡ length as_ → Meet (map for_function_parameter ps) as_
function_parameters-meet ps [] h = tt
function_parameters-meet [] (a ∷ as_) h = absurd (not-none h)
  where
    not-none : {n : ℕ} → 0 ≡ suc n → ⊥
    not-none e = omega (arith, e)
function_parameters-meet (p ∷ ps) (a ∷ as_) h = (refl, function_parameters-meet ps as_ (omega (arith, h)))

counted-meet : (b : Bool) (ss : List Slot) (as_ : List Shape) → (b ≡ true → Meet ss as_) → (cond b (paired ss) (unpaired as_)).counted ≡ true → Meet (cond b (paired ss) (unpaired as_)).slots as_
counted-meet true ss as_ k h = k refl
counted-meet false ss as_ k h = absurd (true≢false (sym h))

for_signature-meets : (s : Option Signature) (as_ : List Shape) → (for_signature s as_).counted ≡ true → Meet (for_signature s as_).slots as_
for_signature-meets s as_ h =
    counted-meet (length (parameters_of s) == length as_) (map for_parameter (parameters_of s)) as_ (λ e. parameters-meet (parameters_of s) as_ (eqb-true (length (parameters_of s)) (length as_) e)) h

for_function-meets : (f : Option FunctionType) (as_ : List Shape) → (for_function f as_).counted ≡ true → Meet (for_function f as_).slots as_
for_function-meets f as_ h =
    counted-meet (length (function_parameters_of f) == length as_) (map for_function_parameter (function_parameters_of f)) as_
    (λ e. function_parameters-meet (function_parameters_of f) as_ (eqb-true (length (function_parameters_of f)) (length as_) e)) h

-- ---- properties
property_slot-told : (k : ℕ) (q : StoredProperty) (t : Known) → is_blank (property_slot k q t) ≡ false
property_slot-told k q (known.Type t) = refl
property_slot-told k q known.Circular = refl
property_slot-told k q known.Untold = refl
property_slot-told k q known.Failed = refl

slot_at-told : (d : Declarations) (k : ℕ) (q : Option StoredProperty) → is_blank (slot_at d k q) ≡ false
slot_at-told d k None = refl
slot_at-told d k (Some q) = property_slot-told k q (known_in d q.ty)

slot_for-told : (d : Declarations) (i : ℕ) (qs : List StoredProperty) (k : Option ℕ) → is_blank (slot_for d i qs k) ≡ false
slot_for-told d i qs None = refl
slot_for-told d i qs (Some k) = slot_at-told d (k + i) (slice_get qs k)

given_from-meets : (d : Declarations) (i : ℕ) (qs : List StoredProperty) (as_ : List Shape) → Meet (given_from d i qs as_).slots as_
given_from-meets d i qs [] = tt
given_from-meets d i qs (a ∷ as_) = (slot_for-told d i qs (left_out a qs), given_from-meets d (number_behind i (left_out a qs)) (coming qs (left_out a qs)) as_)

given_to-meets : (d : Declarations) (qs : List StoredProperty) (as_ : List Shape) (b : Bool) → (cond b (given_from d 0 qs as_) (unpaired as_)).counted ≡ true → Meet (cond b (given_from d 0 qs as_) (unpaired as_)).slots as_
given_to-meets d qs as_ true h = given_from-meets d 0 qs as_
given_to-meets d qs as_ false h = absurd (true≢false (sym h))

given_unless-meets : (d : Declarations) (qs : List StoredProperty) (as_ : List Shape) (b : Bool) → (cond b (unpaired as_) (given_to d qs as_)).counted ≡ true → Meet (cond b (unpaired as_) (given_to d qs as_)).slots as_
given_unless-meets d qs as_ true h = absurd (true≢false (sym h))
given_unless-meets d qs as_ false h = given_to-meets d qs as_ (as_many qs (length as_)) h

given_to_type-meets : (d : Declarations) (t : Ty) (as_ : List Shape) (s : Option DeclaredType) → (given_to_type d t as_ s).counted ≡ true → Meet (given_to_type d t as_ s).slots as_
given_to_type-meets d t as_ None h = absurd (true≢false (sym h))
given_to_type-meets d t as_ (Some s) h = given_unless-meets d (stored_in t s) as_ (has_failed d s) h

print_pairing-meets : (as_ : List Shape) → (print_pairing as_).counted ≡ true → Meet (print_pairing as_).slots as_
print_pairing-meets [] h = tt
print_pairing-meets (a ∷ []) h = (refl, tt)
print_pairing-meets (a ∷ (b ∷ as_)) h = absurd (true≢false (sym h))

module _ (d : Declarations) where
  pub pairing-meets : (f : Callee) (as_ : List Shape) → (pairing d (Some f) as_).counted ≡ true → Meet (pairing d (Some f) as_).slots as_
  pairing-meets (callee.Function k) as_ h = for_signature-meets (function d k) as_ h
  pairing-meets (callee.Method k base) as_ h = for_signature-meets (function d k) as_ h
  pairing-meets (callee.Value e f) as_ h = for_function-meets (slice_get d.types.functions f) as_ h
  pairing-meets (callee.Initialiser t) as_ h = given_to_type-meets d t as_ (declared_type d t) h
  pairing-meets callee.Print as_ h = print_pairing-meets as_ h

-- ---- a call that is typed has as many arguments as parameters
counted-by : (a counted : Bool) → cond a (cond counted None (Some kind.ArgumentCount)) (Some kind.Mismatch) ≡ None → counted ≡ true
counted-by a true h = refl
counted-by true false h = some-not h
  where
    told : Option TypeKind → Bool
    told None = true
    told (Some k) = false

    some-not : Some kind.ArgumentCount ≡ None → false ≡ true
    some-not e = ap told e
counted-by false false h = some-not h
  where
    told : Option TypeKind → Bool
    told None = true
    told (Some k) = false

    some-not : Some kind.Mismatch ≡ None → false ≡ true
    some-not e = ap told e

pub broken_call-counted : (q : Asked) (counted : Bool) (t : Ty) → broken_call q counted t ≡ None → counted ≡ true
broken_call-counted q counted t h = counted-by (agrees q t) counted h

call_expr-counted : (q : Asked) (n : Node) (site : ℕ) (counted : Bool) (t : Ty) (f : Form) (w : Walk) (x : Expr) (v : Walk) → call_expr q n site counted t f w ≡ typed x v → counted ≡ true
call_expr-counted q n site counted t f w x v h =
    let b = unless_broken-inverted (broken_call q counted t) n (typed (an_expr n site t f)) w x v h in
    broken_call-counted q counted t b.0

first_broken-none : (a b : Option TypeKind) → first_broken a b ≡ None → a ≡ None
first_broken-none None b h = refl
first_broken-none (Some k) b h = h

function_called-counted : (q : Asked) (n : Node) (site : ℕ) (counted : Bool) (a : Passed) (s : Option Signature) (w : Walk) (x : Expr) (v : Walk) → function_called q n site counted a.arguments s w ≡ typed x v → counted ≡ true
function_called-counted q n site counted a None w x v h = not-typed (counted ≡ true) (depends w) x v refl h
function_called-counted q n site counted a (Some s) w x v h = call_expr-counted q n site counted s.result _ w x v h

method_called-counted : (q : Asked) (n : Node) (site : ℕ) (counted : Bool) (base : Expr) (a : Passed) (s : Option Signature) (w : Walk) (x : Expr) (v : Walk) → method_called q n site counted base a.arguments s w ≡ typed x v → counted ≡ true
method_called-counted q n site counted base a None w x v h = not-typed (counted ≡ true) (depends w) x v refl h
method_called-counted q n site counted base a (Some s) w x v h =
    let b = unless_broken-inverted (broken_method q counted base s) n (typed (method_expr n site base a.arguments s)) w x v h in
    broken_call-counted q counted s.result (first_broken-none (broken_call q counted s.result) _ b.0)

value_called-counted : (q : Asked) (n : Node) (site : ℕ) (counted : Bool) (e : Expr) (a : Passed) (f : Option FunctionType) (w : Walk) (x : Expr) (v : Walk) → value_called q n site counted e a.arguments f w ≡ typed x v → counted ≡ true
value_called-counted q n site counted e a None w x v h = not-typed (counted ≡ true) (depends w) x v refl h
value_called-counted q n site counted e a (Some f) w x v h = call_expr-counted q n site counted f.result _ w x v h

initialised-by : (b : Bool) (q : Asked) (n : Node) (site : ℕ) (counted : Bool) (t : Ty) (f : Form) (w : Walk) (x : Expr) (v : Walk) → cond b depends (call_expr q n site counted t f) w ≡ typed x v → counted ≡ true
initialised-by true q n site counted t f w x v h = not-typed (counted ≡ true) (depends w) x v refl h
initialised-by false q n site counted t f w x v h = call_expr-counted q n site counted t f w x v h

initialised-counted : (d : Declarations) (q : Asked) (n : Node) (site : ℕ) (counted : Bool) (t : Ty) (a : Passed) (s : Option DeclaredType) (w : Walk) (x : Expr) (v : Walk) → initialised d q n site counted t a.given s w ≡ typed x v → counted ≡ true
initialised-counted d q n site counted t a None w x v h = not-typed (counted ≡ true) (depends w) x v refl h
initialised-counted d q n site counted t a (Some s) w x v h = initialised-by (has_failed d s) q n site counted t _ w x v h

print_called-counted : (q : Asked) (n : Node) (site : ℕ) (counted : Bool) (o : Option Expr) (w : Walk) (x : Expr) (v : Walk) → print_called q n site counted o w ≡ typed x v → counted ≡ true
print_called-counted q n site counted None w x v h =
    let b = need-inverted (agrees q ty.Void) kind.Mismatch n (fault kind.ArgumentCount n) w x v h in
    not-typed (counted ≡ true) (fault {A = Expr} kind.ArgumentCount n w) x v refl b.1
print_called-counted q n site counted (Some e) w x v h = call_expr-counted q n site counted ty.Void _ w x v h

module _ (d : Declarations) where
  pub called-counted : (q : Asked) (n : Node) (site : ℕ) (counted : Bool) (f : Callee) (a : Passed) (w : Walk) (x : Expr) (v : Walk) → called d q n site counted (f, a) w ≡ typed x v → counted ≡ true
  called-counted q n site counted (callee.Function k) a w x v h = function_called-counted q n site counted a (function d k) w x v h
  called-counted q n site counted (callee.Method k base) a w x v h = method_called-counted q n site counted base a (function d k) w x v h
  called-counted q n site counted (callee.Value e f) a w x v h = value_called-counted q n site counted e a (slice_get d.types.functions f) w x v h
  called-counted q n site counted (callee.Initialiser t) a w x v h = initialised-counted d q n site counted t a (declared_type d t) w x v h
  called-counted q n site counted callee.Print a w x v h = print_called-counted q n site counted a.printed w x v h
