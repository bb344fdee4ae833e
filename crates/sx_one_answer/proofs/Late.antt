-- What is reached hangs on the types, the functions and the code of a program alone, and not on where its lists lie.
use Rattle.std.proofs.Common.{◌≡◌, ℕ, ◌++◌, map, refl, sym, ap, ap₂, subst}
use mathlib.Core.Path.{fun_ext}
use Rattle.sx_span.specs.declared.places.Node.{Node}
use Rattle.sx_types.specs.declared.types.Ty.{Ty}
use Rattle.sx_types.specs.declared.types.Ty.TheVariants as ty
use Rattle.sx_typed.specs.declared.code.Expr.{fold-Expr}
use Rattle.sx_typed.specs.declared.code.Form.{Form-F}
use Rattle.sx_typed.specs.declared.code.Lvalue.{fold-Lvalue}
use Rattle.sx_typed.specs.declared.code.Statement.{fold-Statement}
use Rattle.sx_typed.specs.declared.code.StatementForm.{StatementForm-F}
use Rattle.sx_typed.specs.declared.program.Function.{Function}
use Rattle.sx_typed.specs.declared.program.FunctionKind.{FunctionKind}
use Rattle.sx_typed.specs.declared.program.FunctionKind.TheVariants as kind
use Rattle.sx_typed.specs.declared.program.Property.{Property}
use Rattle.sx_typed.specs.declared.program.TypeDeclaration.{TypeDeclaration}
use Rattle.sx_typed.specs.declared.program.Typed.{Typed}
use Rattle.sx_typed.specs.Functions.{function_at}
use Rattle.sx_late.specs.declared.mentions.Purpose.TheVariants.{Store, Modify}
use Rattle.sx_late.specs.Mentions.{Mentions, ByPurpose, all, argument_step, block_mentions, component_form_step, component_step, declaration_of, default_mentions, expr_mentions, expr_step, form_step, function_mention, function_mentions, given_step, global_step, head_form_step, head_step, if_there, mentions_by_kind, path_mentions, path_step, property_mentions, statement_form_step, statement_mentions, statement_step}
use Rattle.sx_late.specs.Reaching.{IsLate, Reaches, itself, through}

-- a program with the lists of another
abbrev pub moved : Typed → Typed → Typed
moved t u = record t { texts = u.texts; names = u.names; lines = u.lines; places = u.places }

module _ (t u : Typed) where
  declaration-moved : (x : Ty) → declaration_of (moved t u) x ≡ declaration_of t x
  declaration-moved (ty.Struct k) = refl
  declaration-moved (ty.Class k) = refl
  declaration-moved ty.Int = refl
  declaration-moved ty.Bool = refl
  declaration-moved ty.Void = refl
  declaration-moved ty.Array = refl
  declaration-moved (ty.Func k) = refl

  form-moved : (x : Form-F Mentions ByPurpose Mentions ByPurpose ByPurpose Mentions Mentions Mentions ByPurpose ByPurpose) → form_step (moved t u) x ≡ form_step t x
  form-moved (Form-F.Int n) = refl
  form-moved Form-F.LeastInt = refl
  form-moved (Form-F.Bool b) = refl
  form-moved (Form-F.Elements es) = refl
  form-moved (Form-F.Constant n) = refl
  form-moved (Form-F.GlobalConstant g) = refl
  form-moved (Form-F.Function n) = refl
  form-moved (Form-F.Closure n) = refl
  form-moved (Form-F.Bracketed e) = refl
  form-moved (Form-F.Read path) = refl
  form-moved (Form-F.Negate e) = refl
  form-moved (Form-F.Not e) = refl
  form-moved (Form-F.Operation o a b) = refl
  form-moved (Form-F.And a b) = refl
  form-moved (Form-F.Or a b) = refl
  form-moved (Form-F.Call n arguments) = refl
  form-moved (Form-F.CallMethod n base arguments) = refl
  form-moved (Form-F.CallMutating n path arguments) = refl
  form-moved (Form-F.CallValue f arguments) = refl
  form-moved (Form-F.Initialise x given) = ap (λ o. if_there (λ (d : TypeDeclaration). function_mention d.node) o ++ all given) (declaration-moved x)
  form-moved (Form-F.Print e) = refl
  form-moved (Form-F.PrintText n) = refl

  forms-moved : form_step (moved t u) ≡ form_step t
  forms-moved = fun_ext form-moved

  -- ---- expressions and statements
  exprs-moved : expr_mentions (moved t u) ≡ expr_mentions t
  exprs-moved =
      ap (λ step. fold-Expr Mentions ByPurpose Mentions ByPurpose ByPurpose Mentions Mentions Mentions ByPurpose ByPurpose argument_step component_form_step step head_form_step component_step expr_step given_step global_step head_step path_step) forms-moved

  paths-moved : path_mentions (moved t u) ≡ path_mentions t
  paths-moved =
      ap (λ step. fold-Lvalue Mentions ByPurpose Mentions ByPurpose ByPurpose Mentions Mentions Mentions ByPurpose ByPurpose argument_step component_form_step step head_form_step component_step expr_step given_step global_step head_step path_step) forms-moved

  statement_form-moved : (x : StatementForm-F Mentions Mentions) → statement_form_step (moved t u) x ≡ statement_form_step t x
  statement_form-moved (StatementForm-F.Expr e) = ap (λ f. f e) exprs-moved
  statement_form-moved (StatementForm-F.Constant n e) = ap (λ f. f e) exprs-moved
  statement_form-moved (StatementForm-F.Local l e) = ap (λ f. f e) exprs-moved
  statement_form-moved (StatementForm-F.Global g e) = ap (λ f. f e) exprs-moved
  statement_form-moved (StatementForm-F.Assign path e) = ap₂ (λ f g. f path Store ++ g e) paths-moved exprs-moved
  statement_form-moved (StatementForm-F.Compound o path e) = ap₂ (λ f g. f path Modify ++ g e) paths-moved exprs-moved
  statement_form-moved (StatementForm-F.If e block otherwise) = ap (λ f. f e ++ (all block ++ all otherwise)) exprs-moved
  statement_form-moved (StatementForm-F.While e block) = ap (λ f. f e ++ all block) exprs-moved
  statement_form-moved (StatementForm-F.Return e) = ap (λ f. if_there f e) exprs-moved
  statement_form-moved StatementForm-F.Break = refl
  statement_form-moved StatementForm-F.Continue = refl

  statements-moved : statement_mentions (moved t u) ≡ statement_mentions t
  statements-moved = ap (λ step. fold-Statement Mentions Mentions step statement_step) (fun_ext statement_form-moved)

  -- ---- functions
  properties-moved : property_mentions (moved t u) ≡ property_mentions t
  properties-moved = ap (λ f (p : Property). if_there f p.default) exprs-moved

  defaults-moved : (x : Ty) → default_mentions (moved t u) x ≡ default_mentions t x
  defaults-moved x = ap₂ (λ f o. if_there (λ (d : TypeDeclaration). all (map f d.stored)) o) properties-moved (declaration-moved x)

  body-moved : (f : Function) → block_mentions (moved t u) f.body ≡ block_mentions t f.body
  body-moved f = ap (λ g. all (map g f.body)) statements-moved

  kind-moved : (f : Function) (k : FunctionKind) → mentions_by_kind (moved t u) f k ≡ mentions_by_kind t f k
  kind-moved f kind.Initialiser = ap (λ g. if_there g f.owner) (fun_ext defaults-moved)
  kind-moved f kind.Function = body-moved f
  kind-moved f kind.Method = body-moved f
  kind-moved f kind.MutatingMethod = body-moved f
  kind-moved f kind.Getter = body-moved f
  kind-moved f kind.Setter = body-moved f
  kind-moved f kind.WillSet = body-moved f
  kind-moved f kind.DidSet = body-moved f
  kind-moved f kind.WrittenInitialiser = body-moved f
  kind-moved f (kind.Closure escaping) = body-moved f

  function-moved : (n : Node) → function_mentions (moved t u) n ≡ function_mentions t n
  function-moved n = ap (λ g. if_there g (function_at t.functions n)) (fun_ext (λ (f : Function). kind-moved f f.kind))

  -- ---- what is reached
  reaches-moved : (ms : Mentions) (g : ℕ) → Reaches t ms g → Reaches (moved t u) ms g
  reaches-moved ms g (itself _ _ i) = itself ms g i
  reaches-moved ms g (through _ n _ i r) = through ms n g i (subst (λ xs. Reaches (moved t u) xs g) (sym (function-moved n)) (reaches-moved (function_mentions t n) g r))

  pub late-moved : (i g : ℕ) → IsLate t i g → IsLate (moved t u) i g
  late-moved i g l =
      record {
        statement = l.statement;
        stands = l.stands;
        reaches = subst (λ xs. Reaches (moved t u) xs g) (sym (ap (λ f. f l.statement) statements-moved)) (reaches-moved (statement_mentions t l.statement) g l.reaches);
        is_global = l.is_global;
        declared = l.declared;
      }
