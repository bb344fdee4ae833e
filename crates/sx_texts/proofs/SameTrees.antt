-- Trees that are the same but for where their lists lie are judged the same.
use Rattle.std.proofs.Common.{◌≡◌, ℕ, ◌+◌, not, List, [], ◌∷◌, map, Some, None, Result, Ok, Err, refl, sym, ap, ap₂, subst, ◌∙◌, cond}
use Rattle.std.specs.Prelude.{Vec, codes, nat_lt, position}
use Rattle.std.specs.List.{position_or_len}
use Rattle.std.proofs.lemmas.List.{length-map}
use Rattle.std.specs.Global.{Global}
use Rattle.std.specs.Str.{bytes_eq}
use Rattle.sx_tree.specs.declared.declarations.Item.{Item}
use Rattle.sx_tree.specs.declared.tree.Tree.{Tree}
use Rattle.sx_tree.specs.Nodes.{all_places}
use Rattle.sx_types.specs.declared.types.Types.{Types}
use Rattle.sx_typed.specs.declared.program.Typed.{Typed}
use Rattle.sx_scope.specs.declared.stop.TypeStop.{TypeStop}
use Rattle.sx_scope.specs.declared.stop.TypeStop.TheVariants.{Typing, TooWide, Late, NoMemory}
use Rattle.sx_scope.specs.declared.walk.Walk.{Walk}
use Rattle.sx_scope.specs.Verdict.{Verdict}
use Rattle.sx_functions.specs.declared.accessing.OwnNames.{OwnNames}
use Rattle.sx_tables.specs.declared.names.SpecialNames.{SpecialNames}
use Rattle.sx_check_decl.specs.declared.items.Program.{Program}
use Rattle.sx_check_decl.specs.Checked.{IsSettled}
use Rattle.sx_check_decl.specs.Looks.{judged}
use Rattle.sx_check_decl.specs.Program.{Checked, IsTyped, Judges, Tells, bytes_of, contents}
use Rattle.sx_check_decl.specs.Special.{is_name, own_names, special_names}

pub record SameTree (t u : Tree) : Type 0 where
  pub items : t.items ≡ u.items
  pub texts : contents t.texts ≡ contents u.texts
  pub names : contents t.names ≡ contents u.names
  pub lines : t.lines.items ≡ u.lines.items

-- ---- names with a meaning of their own, by their bytes
first_by : (x : List ℕ) (vs : List (Vec ℕ Global)) → position_or_len (is_name x) vs ≡ position_or_len (bytes_eq x) (map bytes_of vs)
first_by x [] = refl
first_by x (v ∷ vs) = ap (λ n. cond (not (bytes_eq x v.items)) (1 + n) 0) (first_by x vs)

position_by : (x : List ℕ) (vs : List (Vec ℕ Global)) → position (is_name x) vs ≡ position (bytes_eq x) (map bytes_of vs)
position_by x vs = ap₂ (λ n m. cond (nat_lt n m) (Some n) None) (first_by x vs) (sym (length-map vs bytes_of))

abbrev special_by : List (List ℕ) → SpecialNames
special_by names = record {
  int = position (bytes_eq (codes "Int")) names;
  bool = position (bytes_eq (codes "Bool")) names;
  void = position (bytes_eq (codes "Void")) names;
  print = position (bytes_eq (codes "print")) names;
}

special_is : (vs : List (Vec ℕ Global)) → special_names vs ≡ special_by (map bytes_of vs)
special_is vs =
    λ i. record {
      int = position_by (codes "Int") vs i;
      bool = position_by (codes "Bool") vs i;
      void = position_by (codes "Void") vs i;
      print = position_by (codes "print") vs i;
    }

abbrev own_by : List (List ℕ) → OwnNames
own_by names = record { new_value = position (bytes_eq (codes "newValue")) names; old_value = position (bytes_eq (codes "oldValue")) names }

own_is : (vs : List (Vec ℕ Global)) → own_names vs ≡ own_by (map bytes_of vs)
own_is vs = λ i. record { new_value = position_by (codes "newValue") vs i; old_value = position_by (codes "oldValue") vs i }

module _ (t u : Tree) (s : SameTree t u) where
  same_special : special_names t.names.items ≡ special_names u.names.items
  same_special = special_is t.names.items ∙ ap special_by s.names ∙ sym (special_is u.names.items)

  same_own : own_names t.names.items ≡ own_names u.names.items
  same_own = own_is t.names.items ∙ ap own_by s.names ∙ sym (own_is u.names.items)

  same_places : t.places.items ≡ u.places.items
  same_places = t.numbered ∙ ap all_places s.items ∙ sym u.numbered

  typed_too : (types : Types) (p : Program) (w : Walk) (x : Typed) → IsTyped t types p w x → IsTyped u types p w x
  typed_too types p w x h =
      record {
        types_are = h.types_are;
        structures = h.structures;
        classes = h.classes;
        globals = h.globals;
        functions = h.functions;
        top = h.top;
        initialisers = h.initialisers;
        locals = h.locals;
        texts = h.texts ∙ s.texts;
        names = h.names ∙ s.names;
        lines = h.lines ∙ s.lines;
        places = h.places ∙ same_places;
      }

  tells_too : (types : Types) (r : Result Typed TypeStop) (v : Verdict Program) → Tells t types r v → Tells u types r v
  tells_too types (Ok x) v h = record { program = h.program; walk = h.walk; found = h.found; narrow = h.narrow; is_typed = typed_too types h.program h.walk x h.is_typed; none_late = h.none_late }
  tells_too types (Err (Typing kind n)) v h = h
  tells_too types (Err (TooWide n)) v h = h
  tells_too types (Err (Late at global)) v h =
      record { program = h.program; walk = h.walk; typed_tree = h.typed_tree; found = h.found; narrow = h.narrow; is_typed = typed_too types h.program h.walk h.typed_tree h.is_typed; late = h.late }
  tells_too types (Err NoMemory) v h = tt

  judges_too : (r : Result Typed TypeStop) → Judges t r → Judges u r
  judges_too r (x, is, h) = (
    x,
    subst (λ (y : SpecialNames × List Item). IsSettled y.0 y.1 x) (λ i. (same_special i, s.items i)) is,
    subst (λ (y : OwnNames × List Item). Tells u x.declarations.types r (judged x y.0 y.1)) (λ i. (same_own i, s.items i))
        (tells_too x.declarations.types r (judged x (own_names t.names.items) t.items) h),
  )

  pub checked_too : (r : Result Typed TypeStop) → Checked t r → Checked u r
  checked_too (Ok x) h = judges_too (Ok x) h
  checked_too (Err (Typing kind n)) h = judges_too (Err (Typing kind n)) h
  checked_too (Err (TooWide n)) h = judges_too (Err (TooWide n)) h
  checked_too (Err (Late at global)) h = judges_too (Err (Late at global)) h
  checked_too (Err NoMemory) h = tt
