-- A closure literal whose parts are typed is typed so exactly where it may stand.
use Rattle.std.proofs.Common.{◌≡◌, ◌∙◌, ℕ, Bool, true, false, ◌&&◌, List, Option, Some, None, Ok, Err, drop, cond, refl, sym, ap, true≢false}
use Rattle.sx_span.specs.declared.places.Node.{Node}
use Rattle.sx_types.specs.declared.types.FunctionType.{FunctionType}
use Rattle.sx_types.specs.declared.types.Ty.TheVariants as ty
use Rattle.sx_typed.specs.declared.code.Expr.{Expr as TypedExpr}
use Rattle.sx_typed.specs.declared.code.Form.TheVariants as typed_forms
use Rattle.sx_typed.specs.declared.program.Mention.{Mention}
use Rattle.sx_scope.specs.declared.declarations.Declarations.{Declarations}
use Rattle.sx_scope.specs.declared.stop.TypeKind.{TypeKind}
use Rattle.sx_scope.specs.declared.stop.TypeKind.TheVariants as kind
use Rattle.sx_scope.specs.declared.walk.Asked.{Asked}
use Rattle.sx_scope.specs.declared.walk.Asked.TheVariants as asked
use Rattle.sx_scope.specs.declared.walk.Use.{Use}
use Rattle.sx_scope.specs.declared.walk.Walk.{Walk}
use Rattle.sx_scope.specs.Verdict.{Verdict, typed, fault, is_typed, need_narrow, Judging, ◌▷◌}
use Rattle.sx_scope.specs.Names.{agrees}
use Rattle.sx_scope.specs.Paths.{an_expr}
use Rattle.sx_scope.specs.WrittenTypes.{number_of}
use Rattle.sx_bodies.specs.Literals.{LiteralParts, are_narrow, escapes, has_function, literal_function, literal_made, literal_number, literal_numbered, literal_type, mention_words, narrow_number, number_agreeing, number_fitting, parameter_words, unknown_literal, where_it_fits, with_literal}
use Rattle.sx_well_typed.specs.LiteralRules.{LiteralFits, is_told}
use Rattle.sx_well_typed.proofs.Verdicts.{not-typed, then-typed, then-inverted}

-- the condition on words
need_narrow-typed : {A : Type 0} (b : Bool) (n : Node) (m : Judging A) (w : Walk) (r : Verdict A) → b ≡ true → m w ≡ r → need_narrow b n m w ≡ r
need_narrow-typed b n m w r h k = ap (λ c. need_narrow c n m w) h ∙ k

need_narrow-inverted : {A : Type 0} (b : Bool) (n : Node) (m : Judging A) (w : Walk) (a : A) (v : Walk) → need_narrow b n m w ≡ typed a v → (b ≡ true) × (m w ≡ typed a v)
need_narrow-inverted true n m w a v h = (refl, h)
need_narrow-inverted false n m w a v h = not-typed ((false ≡ true) × (m w ≡ typed a v)) (need_narrow false n m w) a v refl h

both-true : (a b : Bool) → (a && b) ≡ true → (a ≡ true) × (b ≡ true)
both-true true b h = (refl, h)
both-true false b h = absurd (true≢false (sym h))

-- ---- the number of its type
-- where there is one, no parameter is a function, it agrees, and no `return` lacks
abbrev pub IsNumber : {A : Type 0} → Asked → Bool → FunctionType → Option ℕ → (ℕ → Judging A) → Walk → A → Walk → Type 0
IsNumber q lacking f o m w a v = (k : ℕ) × (o ≡ Some k) × (has_function f ≡ false) × (agrees q (ty.Func k) ≡ true) × (lacking ≡ false) × (m k w ≡ typed a v)

faulty : {A : Type 0} (X : Type 0) (k : TypeKind) (n : Node) (m : ℕ → Judging A) (w : Walk) (a : A) (v : Walk) → where_it_fits (Err k) n m w ≡ typed a v → X
faulty {A = A} X k n m w a v h = not-typed X (fault {A = A} k n w) a v refl h

fitting-by : {A : Type 0} (q : Asked) (lacking : Bool) (f : FunctionType) (k : ℕ) (n : Node) (m : ℕ → Judging A) (w : Walk) (a : A) (v : Walk) (b c e : Bool) → has_function f ≡ b → agrees q (ty.Func k) ≡ c → lacking ≡ e →
    where_it_fits (cond b (Err kind.Mismatch) (cond c (cond e (Err kind.MissingReturn) (Ok k)) (Err kind.Mismatch))) n m w ≡ typed a v → IsNumber q lacking f (Some k) m w a v
fitting-by q lacking f k n m w a v true c e x y z h = faulty (IsNumber q lacking f (Some k) m w a v) kind.Mismatch n m w a v h
fitting-by q lacking f k n m w a v false false e x y z h = faulty (IsNumber q lacking f (Some k) m w a v) kind.Mismatch n m w a v h
fitting-by q lacking f k n m w a v false true true x y z h = faulty (IsNumber q lacking f (Some k) m w a v) kind.MissingReturn n m w a v h
fitting-by q lacking f k n m w a v false true false x y z h = (k, refl, x, y, z, h)

fitting-inverted : {A : Type 0} (q : Asked) (lacking : Bool) (f : FunctionType) (o : Option ℕ) (n : Node) (m : ℕ → Judging A) (w : Walk) (a : A) (v : Walk) → where_it_fits (number_fitting q lacking f o) n m w ≡ typed a v → IsNumber q lacking f o m w a v
fitting-inverted q lacking f None n m w a v h = faulty (IsNumber q lacking f None m w a v) kind.Mismatch n m w a v h
fitting-inverted q lacking f (Some k) n m w a v h = fitting-by q lacking f k n m w a v (has_function f) (agrees q (ty.Func k)) lacking refl refl refl h

module _ (d : Declarations) where
  -- ---- what may stand is typed
  number-typed : (q : Asked) (n : Node) (lacking : Bool) (ms : List Mention) (f : FunctionType) (k : ℕ) (w : Walk) → LiteralFits d q ms f k → lacking ≡ false → literal_number d q n lacking ms f w ≡ typed k w
  number-typed q n lacking ms f k w h r =
      let is : number_fitting q lacking f (number_of d.types.functions f) ≡ Ok k =
      ap (number_fitting q lacking f) h.numbered ∙ ap (λ b. cond b (Err kind.Mismatch) (number_agreeing q lacking k)) h.plain
      ∙ ap (λ b. cond b (cond lacking (Err kind.MissingReturn) (Ok k)) (Err kind.Mismatch)) h.agreed ∙ ap (λ b. cond b (Err kind.MissingReturn) (Ok k)) r in
      let narrow : (are_narrow (parameter_words d.types) f.parameters && are_narrow (mention_words d.types) ms) ≡ true =
      ap (λ b. b && are_narrow (mention_words d.types) ms) h.narrow_parameters ∙ h.narrow_captures in
      ap (λ r. where_it_fits r n (narrow_number d n ms f) w) is
      ∙ need_narrow-typed (are_narrow (parameter_words d.types) f.parameters && are_narrow (mention_words d.types) ms) n (typed k) w (typed k w) narrow refl

  made-by : (q : Asked) (u : Use) (n : Node) (site mentions literals : ℕ) (lacking : Bool) (x : LiteralParts) (w : Walk) → is_told q ≡ true →
      literal_made d q u n site mentions literals lacking x w ≡ literal_number d q n lacking (drop mentions w.mentions) (literal_type x) w ▷ literal_numbered u n site literals (drop mentions w.mentions) x
  made-by asked.Unknown u n site mentions literals lacking x w h = absurd (true≢false (sym h))
  made-by asked.Nothing u n site mentions literals lacking x w h = refl
  made-by asked.Printable u n site mentions literals lacking x w h = refl
  made-by (asked.Type t) u n site mentions literals lacking x w h = refl

  abbrev pub literal_expr : Node → ℕ → ℕ → TypedExpr
  literal_expr n site k = an_expr n site (ty.Func k) (typed_forms.Closure n)

  pub made-typed : (q : Asked) (u : Use) (n : Node) (site mentions literals : ℕ) (lacking : Bool) (x : LiteralParts) (w : Walk) (k : ℕ) → LiteralFits d q (drop mentions w.mentions) (literal_type x) k → lacking ≡ false →
      literal_made d q u n site mentions literals lacking x w ≡ typed (literal_expr n site k) (with_literal literals (literal_function (escapes u) n (drop mentions w.mentions) x) w)
  made-typed q u n site mentions literals lacking x w k h r =
      let ms : List Mention = drop mentions w.mentions in
      made-by q u n site mentions literals lacking x w h.told
      ∙ then-typed (literal_number d q n lacking ms (literal_type x) w) (literal_numbered u n site literals ms x) k w (typed (literal_expr n site k) (with_literal literals (literal_function (escapes u) n ms x) w))
      (number-typed q n lacking ms (literal_type x) k w h r) refl

  -- ---- and what is typed may stand
  abbrev pub IsMade : Asked → Use → Node → ℕ → ℕ → ℕ → Bool → LiteralParts → Walk → TypedExpr → Walk → Type 0
  IsMade q u n site mentions literals lacking x w t v =
      (k : ℕ) × (lacking ≡ false) × LiteralFits d q (drop mentions w.mentions) (literal_type x) k × (typed (literal_expr n site k) (with_literal literals (literal_function (escapes u) n (drop mentions w.mentions) x) w) ≡ typed t v)

  told-inverted : (q : Asked) (u : Use) (n : Node) (site mentions literals : ℕ) (lacking : Bool) (x : LiteralParts) (w : Walk) (t : TypedExpr) (v : Walk) → is_told q ≡ true →
      literal_made d q u n site mentions literals lacking x w ≡ typed t v → IsMade q u n site mentions literals lacking x w t v
  told-inverted q u n site mentions literals lacking x w t v told h =
      let ms : List Mention = drop mentions w.mentions in
      let f : FunctionType = literal_type x in
      let (j, w₁, one, made) = then-inverted (literal_number d q n lacking ms f w) (literal_numbered u n site literals ms x) t v (sym (made-by q u n site mentions literals lacking x w told) ∙ h) in
      let (k, number, plain, agreed, returns, rest) = fitting-inverted q lacking f (number_of d.types.functions f) n (narrow_number d n ms f) w j w₁ one in
      let c = need_narrow-inverted (are_narrow (parameter_words d.types) f.parameters && are_narrow (mention_words d.types) ms) n (typed k) w j w₁ rest in
      let narrow = both-true (are_narrow (parameter_words d.types) f.parameters) (are_narrow (mention_words d.types) ms) c.0 in
      let same : literal_numbered u n site literals ms x k w ≡ literal_numbered u n site literals ms x j w₁ = ap (λ r. r ▷ literal_numbered u n site literals ms x) c.1 in
      (k, returns, record { told = told; numbered = number; agreed = agreed; plain = plain; narrow_parameters = narrow.0; narrow_captures = narrow.1 }, same ∙ made)

  unknown-not : (n : Node) (b : Bool) (w : Walk) → is_typed (unknown_literal n b w) ≡ false
  unknown-not n true w = refl
  unknown-not n false w = refl

  pub made-inverted : (q : Asked) (u : Use) (n : Node) (site mentions literals : ℕ) (lacking : Bool) (x : LiteralParts) (w : Walk) (t : TypedExpr) (v : Walk) →
      literal_made d q u n site mentions literals lacking x w ≡ typed t v → IsMade q u n site mentions literals lacking x w t v
  made-inverted asked.Unknown u n site mentions literals lacking x w t v h =
      not-typed (IsMade asked.Unknown u n site mentions literals lacking x w t v) (unknown_literal n lacking w) t v (unknown-not n lacking w) h
  made-inverted asked.Nothing u n site mentions literals lacking x w t v h = told-inverted asked.Nothing u n site mentions literals lacking x w t v refl h
  made-inverted asked.Printable u n site mentions literals lacking x w t v h = told-inverted asked.Printable u n site mentions literals lacking x w t v refl h
  made-inverted (asked.Type s) u n site mentions literals lacking x w t v h = told-inverted (asked.Type s) u n site mentions literals lacking x w t v refl h
